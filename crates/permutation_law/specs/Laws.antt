-- What keeps the permutations of an index's nodes, and what a reader knows by them.
use Rattle.std.specs.Prelude.{◌≡◌, ℕ, ◌<◌, ◌≤◌, ◌^◌, ◌⊎◌, List, [], length, slice_set, Option, IfSome}
use mathlib.Core.Option.{some}
use lib.ListN.{get_elem?}
use Rattle.pm_words.specs.declared.layout.Layout.{Layout}
use Rattle.pm_words.specs.declared.action.Action.{Action}
use Rattle.pm_words.specs.declared.action.Action.TheVariants.{Load}
use Rattle.pm_words.specs.Codes.{no_permutation}
use Rattle.pm_words.specs.Locations.{image_words}
use Rattle.pm_words.specs.Rows.{CanAct, acted, evicted, got}
use Rattle.pm_words.specs.Offsets.{bitmap_offset}
use Rattle.version_lock.specs.Versions.{IsFree}
use Rattle.cat_history.specs.Maps.{Map}
use Rattle.cat_history.specs.declared.op.Write.{Write}
use Rattle.data_node.specs.Orders.{live_slots}
use Rattle.call_stages.specs.declared.once.Once.{Once}
use Rattle.call_stages.specs.declared.once.Placed.{Placed}
use Rattle.call_stages.specs.Stages.{Held, Sight, Stage, Idle, Reads, Tells}
use Rattle.call_stages.specs.AnySteps.{IsBeside, on_permutation, stores, AnyStep, on_nodes, beside}
use Rattle.permutation.specs.declared.load.LoadPermutation.{LoadPermutation}
use Rattle.permutation.specs.Loads.{IsLoad, load_asks, load_turned, load_read, read_after}
use Rattle.permutation.specs.Sortings.{Sorting, Unsorted, Sorts, Keeps, permutation_address}
use Rattle.permutation.specs.Sortings.{permutation_version_address}
use Rattle.index_law.specs.Facts.{Facts, version_in, spot_in}
use Rattle.index_law.specs.Worlds.{Party, World, facts, stepped, evicted_world}
use Rattle.index_law.specs.Lawful.{Lawful, Each, Sure}
use Rattle.index_law.specs.Footed.{AreAlike}
use Rattle.permutation_law.specs.Permuted.{made_at, permutation_in, IsInOrder, Permuted, IsPermuted}

-- The step isn't the store of a permutation.
abbrev pub IsSpared : {l : Layout} {action : Action} → IsBeside l action → Type 0
IsSpared (on_permutation (stores here of fits)) = ⊥
IsSpared _ = Unit {0}

abbrev pub Spares : {l : Layout} {g : ℕ} {stage : Stage} {action : Action} {x : ℕ} {next : Stage}
    {answer : Option (Once Placed)} → AnyStep l g stage action x next answer → Type 0
Spares (on_nodes step) = Unit {0}
Spares (beside none is) = IsSpared is

-- Such a step of a party, on nodes or beside them, keeps them,
abbrev pub StepsPermute : Type 0
StepsPermute = (z : Permuted) (i : ℕ) (p : Party) (action : Action) (x : ℕ) (next : Stage)
    (answer : Option (Once Placed)) (sorting after : Sorting) → IsPermuted z →
    get_elem? z.world.parties i ≡ some p → get_elem? z.sortings i ≡ some sorting →
    (step : AnyStep z.world.layout z.world.generation p.stage action x next answer) → Spares step →
    x ≡ got z.world.layout z.world.words action → length z.world.history < 2 ^ 63 →
    Keeps z.world.layout sorting action next after →
    IsPermuted (record { world = stepped z.world i p action next; sortings = slice_set z.sortings i after })

-- and so does a store of a permutation. It leaves all that is said of nodes.
pub record SortLaw (z : Permuted) (i : ℕ) (action : Action) (after : Sorting) : Type 0 where
  pub can : CanAct z.world.layout z.world.words action
  pub facts : facts (record (z.world) { words = acted z.world.layout z.world.words action }) ≡ facts z.world
  pub kept : IsPermuted (record {
    world = record (z.world) { words = acted z.world.layout z.world.words action };
    sortings = slice_set z.sortings i after;
  })

abbrev pub SortsPermute : Type 0
SortsPermute = (z : Permuted) (i : ℕ) (p : Party) (action : Action) (sorting after : Sorting) → IsPermuted z →
    get_elem? z.world.parties i ≡ some p → get_elem? z.sortings i ≡ some sorting →
    Sorts z.world.layout p.stage sorting action after → SortLaw z i action after

-- These words say of the node, and of its permutation, what those say.
pub record IsSameNode (l : Layout) (words words' : List ℕ) (n : ℕ) : Type 0 where
  pub version : version_in l words' n ≡ version_in l words n
  pub now : spot_in l words' n ≡ spot_in l words n
  pub made : made_at l words' n ≡ made_at l words n
  pub permutation : permutation_in l words' n ≡ permutation_in l words n

-- So does whatever leaves the nodes and their permutations, and the stages of the parties: a step of a turn, a word
-- that becomes durable, a start of a call, another party.
abbrev pub FramesPermute : Type 0
FramesPermute = (z : Permuted) (words : List ℕ) (parties : List Party) (base : Map) (history : List Write) →
    IsPermuted z → Lawful (record (z.world) {
      words = words;
      parties = parties;
      base = base;
      history = history;
    }) → AreAlike z.world.parties parties →
    ((n : ℕ) → n < z.world.layout.nodes → IsSameNode z.world.layout z.world.words words n) →
    IsPermuted (record {
      world = record (z.world) { words = words; parties = parties; base = base; history = history };
      sortings = z.sortings;
    })

-- A word that becomes durable leaves each node and its permutation, and so it keeps them all.
abbrev pub EvictionsLeaveNodes : Type 0
EvictionsLeaveNodes = (w : World) (word n : ℕ) → word < image_words w.layout →
    IsSameNode w.layout w.words (evicted w.layout w.words word) n

abbrev pub EvictionsPermute : Type 0
EvictionsPermute = (z : Permuted) (word : ℕ) → IsPermuted z → word < image_words z.world.layout →
    IsPermuted (record z { world = evicted_world z.world word })

-- No party has anything of a permutation.
abbrev pub AreUnsorted : List Sorting → Type 0
AreUnsorted sortings = (i : ℕ) (sorting : Sorting) → get_elem? sortings i ≡ some sorting → sorting ≡ Unsorted

-- Where no call is in flight, the permutations were never made, or at version words that the nodes had, or of nodes
-- with no name.
pub record IsOldOrEmpty (w : World) (n : ℕ) : Type 0 where
  pub old : made_at w.layout w.words n ≤ (facts w).version n
  pub empty : (made_at w.layout w.words n ≡ (facts w).version n) →
      live_slots ((facts w).now n bitmap_offset) w.layout.slots ≡ []

abbrev pub RestIsPermuted : Type 0
RestIsPermuted = (w : World) (sortings : List Sorting) → Lawful w → AreUnsorted sortings →
    ((n : ℕ) → n < w.layout.nodes → (made_at w.layout w.words n ≡ no_permutation) ⊎ IsOldOrEmpty w n) →
    IsPermuted (record { world = w; sortings = sortings })

-- Where all parties are idle others may take their place, and another round may begin.
abbrev pub IdleMayChange : Type 0
IdleMayChange = (z : Permuted) (words : List ℕ) (parties : List Party) (base : Map) (history : List Write)
    (sortings : List Sorting) → IsPermuted z → Each (λ p. p.stage ≡ Idle) z.world.parties →
    Lawful (record (z.world) { words = words; parties = parties; base = base; history = history }) →
    AreUnsorted sortings →
    ((n : ℕ) → n < z.world.layout.nodes → IsSameNode z.world.layout z.world.words words n) →
    IsPermuted (record {
      world = record (z.world) { words = words; parties = parties; base = base; history = history };
      sortings = sortings;
    })

-- What a reader, which took no lock, has read of the permutation of a node whose version word it saw: while that is the
-- version word still, it is the permutation's version, and these words of it, by their numbers, are as read.
pub record HasRead (l : Layout) (g : ℕ) (f : Facts) (words : List ℕ) (n v : ℕ) (seen : List (ℕ × ℕ)) : Type 0 where
  pub here : n < l.nodes
  pub free : IsFree v g
  pub loaded : v ≤ f.version n
  pub stands : f.version n ≡ v → (made_at l words n ≡ v) × Tells seen (permutation_in l words n)

-- It begins where a party that reads the node loads the permutation's version, and that is the version word that it
-- saw,
abbrev pub ReadingBegins : Type 0
ReadingBegins = (l : Layout) (g : ℕ) (f : Facts) (words : List ℕ) (caller index since n v : ℕ) (k : Sight)
    (h : Option Held) → Sure l g f caller index since (Reads n v k h) →
    got l words (Load (permutation_version_address l n)) ≡ v →
    HasRead l g f words n v []

-- goes on with each word of it,
abbrev pub ReadingGoesOn : Type 0
ReadingGoesOn = (l : Layout) (g : ℕ) (f : Facts) (words : List ℕ) (n v k x : ℕ) (seen after : List (ℕ × ℕ)) →
    HasRead l g f words n v seen → k < 8 → x ≡ got l words (Load (permutation_address l n k)) →
    ((q : ℕ → ℕ) → Tells seen q → q k ≡ x → Tells after q) → HasRead l g f words n v after

-- which the machine that loads a permutation does at each turn, with what it has read so far,
abbrev pub LoadsRead : Type 0
LoadsRead = (load : LoadPermutation) (g : ℕ) (f : Facts) (words : List ℕ) (caller index since : ℕ) (k : Sight)
    (h : Option Held) (x : ℕ) → IsLoad load →
    Sure load.layout g f caller index since (Reads load.node load.version k h) →
    IfSome (load_read load) (HasRead load.layout g f words load.node load.version) →
    x ≡ got load.layout words (load_asks load) →
    IfSome (read_after (load_turned load x)) (HasRead load.layout g f words load.node load.version)

-- is kept by each step of any party, on nodes, beside them or on a permutation,
abbrev pub ReadingIsKept : Type 0
ReadingIsKept = (z : Permuted) (i : ℕ) (p : Party) (action : Action) (x : ℕ) (next : Stage)
    (answer : Option (Once Placed)) (n v : ℕ) (seen : List (ℕ × ℕ)) → IsPermuted z →
    get_elem? z.world.parties i ≡ some p →
    (step : AnyStep z.world.layout z.world.generation p.stage action x next answer) → Spares step →
    x ≡ got z.world.layout z.world.words action →
    HasRead z.world.layout z.world.generation (facts z.world) z.world.words n v seen →
    HasRead z.world.layout z.world.generation (facts (stepped z.world i p action next))
    (acted z.world.layout z.world.words action) n v seen

abbrev pub SortsKeepReading : Type 0
SortsKeepReading = (z : Permuted) (i : ℕ) (p : Party) (action : Action) (sorting after : Sorting) (n v : ℕ)
    (seen : List (ℕ × ℕ)) → IsPermuted z → get_elem? z.world.parties i ≡ some p →
    Sorts z.world.layout p.stage sorting action after →
    HasRead z.world.layout z.world.generation (facts z.world) z.world.words n v seen →
    HasRead z.world.layout z.world.generation
    (facts (record (z.world) { words = acted z.world.layout z.world.words action }))
    (acted z.world.layout z.world.words action) n v seen

-- and by whatever leaves the node's version word and its permutation,
abbrev pub FramesKeepReading : Type 0
FramesKeepReading = (l : Layout) (g : ℕ) (f f' : Facts) (words words' : List ℕ) (n v : ℕ) (seen : List (ℕ × ℕ)) →
    f'.version n ≡ f.version n → made_at l words' n ≡ made_at l words n →
    permutation_in l words' n ≡ permutation_in l words n → HasRead l g f words n v seen → HasRead l g f' words' n v seen

-- and serves once the version word, loaded again, is the one that it saw: what was read of the permutation is so, and
-- it has the node's live slots in rising order of names.
pub record Serves (l : Layout) (words : List ℕ) (f : Facts) (n : ℕ) (seen : List (ℕ × ℕ)) : Type 0 where
  pub tells : Tells seen (permutation_in l words n)
  pub order : IsInOrder l words f n

abbrev pub ReadingServes : Type 0
ReadingServes = (z : Permuted) (n v : ℕ) (seen : List (ℕ × ℕ)) → IsPermuted z →
    HasRead z.world.layout z.world.generation (facts z.world) z.world.words n v seen →
    (facts z.world).version n ≡ v → Serves z.world.layout z.world.words (facts z.world) n seen
