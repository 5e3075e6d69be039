-- What a party has of the permutation of the node that it holds, and the stores by which it makes it anew. They change
-- no word that any other stage or step speaks of.
use Rattle.std.specs.Prelude.{◌≡◌, ℕ, ◌+◌, ◌<◌, ◌^◌, List, Option, None}
use Rattle.pm_words.specs.declared.layout.Layout.{Layout}
use Rattle.pm_words.specs.declared.action.Action.{Action}
use Rattle.pm_words.specs.declared.action.Action.TheVariants.{Load, Store}
use Rattle.pm_words.specs.Locations.{address_of, Volatile}
use Rattle.pm_words.specs.Offsets.{permutation_offset, permutation_version_offset}
use Rattle.data_node.specs.Spots.{Spot, IsTidy, updated}
use Rattle.call_stages.specs.Kinds.{version_address}
use Rattle.call_stages.specs.Footings.{FootStep}
use Rattle.call_stages.specs.Lines.{HeldLine}
use Rattle.call_stages.specs.Prevs.{Debt}
use Rattle.call_stages.specs.Stages.{Knows, Held, Stage, Holds, Tells, counted}
use Rattle.permutation.specs.Permutations.{IsPermutationOf}

-- The addresses of a node's permutation: its version, and word k of eight.
abbrev pub permutation_version_address : Layout → ℕ → ℕ
permutation_version_address l n = address_of l (Volatile n permutation_version_offset)

abbrev pub permutation_address : Layout → ℕ → ℕ → ℕ
permutation_address l n k = address_of l (Volatile n (permutation_offset k))

pub data Sorting : Type 0 where
  -- it has stored none of it
  Unsorted : Sorting
  -- of the permutation of this node, which it holds by this version word, it has stored these words, by their numbers
  Storing : ℕ → ℕ → List (ℕ × ℕ) → Sorting
  -- that is whole: its version is the word that the unlock of the node stores
  Stored : ℕ → ℕ → Sorting

-- The stage holds this node, and no other one, by this version word.
abbrev pub HoldsBy : Stage → ℕ → ℕ → Type 0
HoldsBy stage n lock = (h : Held) × (stage ≡ Holds n lock h)

-- The stores of a permutation by who holds the node, which leave its stage: its words first,
pub data Sorts (l : Layout) : Stage → Sorting → Action → Sorting → Type 0 where
  begins : {n lock k y : ℕ} {h : Held} {seen : List (ℕ × ℕ)} → n < l.nodes → k < 8 → y < 2 ^ 64 →
      ((words : ℕ → ℕ) → Tells seen (updated words k y)) →
      Sorts l (Holds n lock h) Unsorted (Store (permutation_address l n k) y) (Storing n lock seen)
  stores : {n lock k y : ℕ} {h : Held} {seen after : List (ℕ × ℕ)} → n < l.nodes → k < 8 → y < 2 ^ 64 →
      ((words : ℕ → ℕ) → Tells seen words → Tells after (updated words k y)) →
      Sorts l (Holds n lock h) (Storing n lock seen) (Store (permutation_address l n k) y) (Storing n lock after)
  -- and when they are the permutation, by what is known of them and of the node, its version, which is the word that
  -- the unlock will store
  ends : {n lock version : ℕ} {h : Held} {seen : List (ℕ × ℕ)} → n < l.nodes → version ≡ lock + 1 → version < 2 ^ 64 →
      ((words : ℕ → ℕ) (s : Spot) → IsTidy l.slots s → Knows h.name h.known s → Tells seen words →
      IsPermutationOf l.slots words s) →
      Sorts l (Holds n lock h) (Storing n lock seen) (Store (permutation_version_address l n) version) (Stored n lock)

-- What becomes of it with any other step, which leads to this stage.
pub data Keeps (l : Layout) : Sorting → Action → Stage → Sorting → Type 0 where
  has_none : {action : Action} {next : Stage} → Keeps l Unsorted action next Unsorted
  -- before its version is stored it may be let go
  lets_go : {n lock : ℕ} {seen : List (ℕ × ℕ)} {action : Action} {next : Stage} →
      Keeps l (Storing n lock seen) action next Unsorted
  goes_on : {n lock : ℕ} {seen : List (ℕ × ℕ)} {action : Action} {next : Stage} → HoldsBy next n lock →
      Keeps l (Storing n lock seen) action next (Storing n lock seen)
  -- then the node's words stay as they are, until it is given back
  waits : {n lock address : ℕ} {next : Stage} → HoldsBy next n lock →
      Keeps l (Stored n lock) (Load address) next (Stored n lock)
  gives_back : {n lock freed : ℕ} {next : Stage} → freed ≡ lock + 1 →
      Keeps l (Stored n lock) (Store (version_address l n) freed) next Unsorted

-- Each store of a permutation is a step of a party, whatever line and prevs that has, which leaves its stage.
abbrev pub SortsAreSteps : Type 0
SortsAreSteps = (l : Layout) (g c : ℕ) (stage : Stage) (line : Option HeldLine) (debt : Debt) (sorting after : Sorting)
    (action : Action) (x : ℕ) → Sorts l stage sorting action after → counted stage ≡ None →
    FootStep l g c (record { stage = stage; line = line; debt = debt }) action x (record {
      stage = stage;
      line = line;
      debt = debt;
    }) None
