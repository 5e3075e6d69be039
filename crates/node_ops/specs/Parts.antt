-- What a part of a range scan tells.
use Rattle.std.specs.Prelude.{◌≡◌, ◌≢◌, ℕ, ◌<◌, ◌≤◌, ◌^◌, ◌⊎◌, ◌&&◌, not, Bool, true, false}
use Rattle.std.specs.Prelude.{List, length, map, take, slice_index, Option, Some, None, IsSome, IsSomeAnd, IfSome}
use Rattle.std.specs.FinMap.{entries}
use Rattle.std.specs.List.{filter, AllByRecursion}
use mathlib.Core.Option.{some}
use lib.ListN.{get_elem?}
use Rattle.cat_key.specs.Names.{IsName, AreNameWords, bytes_of}
use Rattle.cat_key.specs.declared.Pair.{Pair}
use Rattle.cat_history.specs.Maps.{Map, at as number_at}
use Rattle.cat_history.specs.Scans.{is_below, is_under, range}
use Rattle.cat_history.specs.Writes.{after}
use Rattle.pm_words.specs.declared.action.Action.{Action}
use Rattle.pm_words.specs.declared.action.Action.TheVariants.{Load, Store}
use Rattle.pm_words.specs.declared.layout.Layout.{Layout}
use Rattle.pm_words.specs.declared.machine.Turn.{Turn}
use Rattle.pm_words.specs.declared.machine.Turn.TheVariants.{Go, Done}
use Rattle.pm_words.specs.Rows.{got}
use Rattle.pm_words.specs.Offsets.{next_offset}
use Rattle.data_node.specs.Lists.{anchor_words}
use Rattle.data_list.specs.declared.target.Next.{Next}
use Rattle.data_list.specs.Keys.{key_words}
use Rattle.data_list.specs.Walks.{high_of}
use Rattle.call_stages.specs.declared.once.Once.{Once}
use Rattle.call_stages.specs.declared.once.Once.TheVariants as once
use Rattle.call_stages.specs.declared.once.Placed.{Placed}
use Rattle.call_stages.specs.Kinds.{version_address}
use Rattle.call_stages.specs.Stages.{Held, Holds}
use Rattle.permutation_law.specs.Laws.{Serves}
use Rattle.index_law.specs.Facts.{Facts, map_now, range_of, IsListed}
use Rattle.index_law.specs.Lawful.{HasNames, IsList, Lawful, Sure}
use Rattle.index_law.specs.Worlds.{Party, World, facts, stepped}
use Rattle.node_ops.specs.declared.call.Call.{Call}
use Rattle.node_ops.specs.declared.part.PartWords.{PartWords}
use Rattle.node_ops.specs.declared.part.Way.{Way}
use Rattle.node_ops.specs.declared.part.Way.TheVariants as ways
use Rattle.node_ops.specs.declared.part.Part.{Part}
use Rattle.node_ops.specs.declared.part.Part.TheVariants as part
use Rattle.node_ops.specs.declared.running.Running.{Running}
use Rattle.node_ops.specs.declared.running.Running.TheVariants.{Parting}
use Rattle.node_ops.specs.Calls.{name_in}
use Rattle.node_ops.specs.CallStages.{part_stage, stage_of, stage_after}
use Rattle.node_ops.specs.Permuting.{PermutationRead, reading_of}
use Rattle.node_ops.specs.PartSteps.{part_call, part_asks, part_turned, part_count, part_listed}
use Rattle.node_ops.specs.PartSteps.{entry_name, words_placed}
use Rattle.node_ops.specs.RunningSteps.{running_call, running_asks, running_turned, listed_in, count_in, of_part, of_part_after, Sound}

-- the pairs of a map whose names pass the test, in rising order of names
abbrev pub pairs_in : Map → (List ℕ → Bool) → List Pair
pairs_in m test =
    map (λ (e : List ℕ × ℕ). record { name = e.0; value = e.1 }) (filter (λ (e : List ℕ × ℕ). test e.0) (entries m))

-- of the names of a range those from this one on
abbrev pub from_name : (List ℕ → Bool) → List ℕ → List ℕ → Bool
from_name in_range low name = in_range name && not (is_below name low)

-- the name that an entry keeps, with its number
abbrev pub pair_of : List ℕ → Pair
pair_of entry = record { name = bytes_of (entry_name entry); value = slice_index entry 3 }

-- what a part lists
abbrev pub pairs_of : PartWords → List Pair
pairs_of words = map pair_of (take words.len words.entries)

-- it lists the first names of the map in this range from the low one on, so many at most, each in its words and with
-- its number; it tells what the low one has, and that it sorted none, or as many names of the range as the map has
pub record IsPartOf (m : Map) (in_range : List ℕ → Bool) (low : List ℕ) (count : ℕ) (words : PartWords) : Type 0 where
  pub few : words.len ≤ 64
  pub lists : pairs_of words ≡ take count (pairs_in m (from_name in_range low))
  pub named : AllByRecursion (λ (entry : List ℕ). AreNameWords (entry_name entry)) (take words.len words.entries)
  pub had : words.old ≡ number_at m low
  pub compared : (words.compared ≡ 0) ⊎ (words.compared ≡ length (pairs_in m in_range))

-- The names of a node's range from one of them on are those under this one, which lies above it, or all there are.
pub record EndsAt (in_range : List ℕ → Bool) (low : List ℕ) (high : Option (List ℕ)) : Type 0 where
  pub above : IfSome high (λ h. IsName h × (is_below low h ≡ true))
  pub ends : (name : List ℕ) → IsName name → is_below name low ≡ false → in_range name ≡ is_under high name

-- Where the names from a low one on end in the range of a node that a call holds.
pub record HeldEnd : Type 0 where
  pub node : ℕ
  pub low : List ℕ
  pub high : Option (List ℕ)

-- What a part knows of that, which holds its node.
abbrev pub way_end : Way → Call → Option Next → Option HeldEnd
way_end (ways.Held words) call behind =
    Some (record { node = call.node; low = name_in call; high = high_of behind })
way_end _ call behind = None

abbrev pub part_end : Part → Option HeldEnd
part_end (part.Reading reading) = way_end reading.way reading.call reading.behind
part_end _ = None

abbrev pub end_of : Running → Option HeldEnd
end_of running = of_part None part_end running

abbrev pub end_after : Turn Running (Once Placed) → Option HeldEnd
end_after turn = of_part_after None part_end turn

-- They end there.
abbrev pub HasEnd : Layout → Facts → Option HeldEnd → Type 0
HasEnd l f end = IfSome end (λ e. EndsAt (range_of l f e.node) e.low e.high)

-- It knows that of no other node than the one that it holds,
abbrev pub EndsAreHeld : Type 0
EndsAreHeld = (m : Running) →
    IfSome (end_of m) (λ e. (lock : ℕ) × (h : Held) × (stage_of m ≡ Holds e.node lock h))

-- and each of its turns keeps that.
abbrev pub EndsStay : Type 0
EndsStay = (w : World) (i : ℕ) (p : Party) (m : Running) (x : ℕ) → Lawful w → get_elem? w.parties i ≡ some p →
    p.stage ≡ stage_of m → Sound w.layout w.generation m → x ≡ got w.layout w.words (running_asks m) →
    HasEnd w.layout (facts w) (end_of m) →
    HasEnd w.layout (facts (stepped w i p (running_asks m) (stage_after (running_turned m x))))
    (end_after (running_turned m x))

-- What a call relies on beside its stage: the permutation that it read serves it, where its version is that of the node
-- still, and the range of the node that it holds ends there.
pub record Relies (l : Layout) (f : Facts) (row : List ℕ) (m : Running) : Type 0 where
  pub permutation : (r : PermutationRead) → reading_of m ≡ Some r → f.version r.node ≡ r.version →
      Serves l row f r.node r.seen
  pub end : HasEnd l f (end_of m)

-- Where it loads the version word of its node, it is told that.
abbrev pub IsToldVersion : Layout → Facts → Part → ℕ → Type 0
IsToldVersion l f p x =
    part_asks p ≡ Load (version_address l (part_call p).node) → x ≡ f.version (part_call p).node

-- It sorted no name where it read a permutation, and else all names of the range.
abbrev pub HasCompared : Option PermutationRead → ℕ → PartWords → Type 0
HasCompared None names words = words.compared ≡ names
HasCompared (Some r) names words = words.compared ≡ 0

-- It tells a part of the map, as it is and as it was at the part's place. No more names are in the range than a node
-- has slots.
pub record IsPartTold (l : Layout) (f : Facts) (p : Part) (words : PartWords) : Type 0 where
  pub now : IsPartOf (map_now f) (range_of l f words.node) (name_in (part_call p)) (part_count p) words
  pub then_was : IsPartOf (after f.base f.history words.place) (range_of l f words.node) (name_in (part_call p))
      (part_count p) words
  pub compared : HasCompared (reading_of (Parting p)) (length (pairs_in (map_now f) (range_of l f words.node))) words
  pub fit : length (pairs_in (after f.base f.history words.place) (range_of l f words.node)) ≤ l.slots

-- so does a part that is sure of what it knows
abbrev pub PartTells : Type 0
PartTells = (l : Layout) (g : ℕ) (f : Facts) (row : List ℕ) (caller index since : ℕ) (p : Part) (x : ℕ)
    (words : PartWords) →
    Sound l g (Parting p) → HasNames (map_now f) → Sure l g f caller index since (part_stage p) →
    Relies l f row (Parting p) → IsToldVersion l f p x → part_turned p x ≡ Done (once.Done words) →
    IsPartTold l f p words

-- Its action gives the version word that is told: it loads that again, or gives its node back with it.
abbrev pub GivesVersion : Layout → Action → ℕ → PartWords → Type 0
GivesVersion l action x words = ((action ≡ Load (version_address l words.node)) × (x ≡ words.version)) ⊎
    (action ≡ Store (version_address l words.node) words.version)

abbrev pub Confirms : Running → ℕ → PartWords → Type 0
Confirms running x words = GivesVersion (running_call running).view.layout (running_asks running) x words

-- its answer is what its call has, and the version word that its action gives
pub record IsHeard (p : Part) (x : ℕ) (words : PartWords) : Type 0 where
  pub node : words.node ≡ (part_call p).node
  pub hops : words.hops ≡ (part_call p).hops
  pub gives : Confirms (Parting p) x words

abbrev pub PartsHear : Type 0
PartsHear = (p : Part) (x : ℕ) (words : PartWords) → part_turned p x ≡ Done (once.Done words) → IsHeard p x words

-- The node leads to this one, whose anchor has these words, or to none.
abbrev pub IsBehind : Facts → ℕ → Option Next → Type 0
IsBehind f n None = f.now n next_offset ≡ 0
IsBehind f n (Some next) = (f.now n next_offset ≡ next.node) × (next.node ≢ 0) ×
    (anchor_words (f.now next.node) ≡ key_words next.anchor)

-- The words of all nodes have 64 bits.
abbrev pub HaveWords : Facts → Type 0
HaveWords f = (n offset : ℕ) → f.now n offset < 2 ^ 64

-- Where a part is done, the names of its node's range from the low one on end where it tells,
abbrev pub PartsEnd : Type 0
PartsEnd = (l : Layout) (g : ℕ) (f : Facts) (row : List ℕ) (caller index since : ℕ) (p : Part) (x : ℕ)
    (words : PartWords) → Sound l g (Parting p) → IsList l f → HaveWords f →
    Sure l g f caller index since (part_stage p) → Relies l f row (Parting p) → IsToldVersion l f p x →
    part_turned p x ≡ Done (once.Done words) →
    EndsAt (range_of l f words.node) (name_in (part_call p)) words.high

-- As long as a listed node leads there, its range ends at the anchor of the next node.
abbrev pub PartsEndThere : Type 0
PartsEndThere = (l : Layout) (f : Facts) (n : ℕ) (behind : Option Next) (low : List ℕ) → IsList l f → HaveWords f →
    IsListed f n → IsBehind f n behind → IsName low → range_of l f n low ≡ true →
    EndsAt (range_of l f n) low (high_of behind)

-- Of any map of names, those of such a range are a range of scans.
abbrev pub EndsAreRanges : Type 0
EndsAreRanges = (in_range : List ℕ → Bool) (low : List ℕ) (high : Option (List ℕ)) (m : Map) → IsName low →
    EndsAt in_range low high → HasNames m → pairs_in m (from_name in_range low) ≡ range m low high

-- A part that has listed is answered with what it lists, if its action gives the version word that it tells,
abbrev pub ListedIsTold : Type 0
ListedIsTold = (p : Part) (words : PartWords) → part_listed p ≡ Some words → (x : ℕ) → Confirms (Parting p) x words →
    part_turned p x ≡ Done (once.Done words)

-- to the law as a get of its low name.
abbrev pub ListedIsAnswered : Type 0
ListedIsAnswered = (running : Running) (words : PartWords) → listed_in running ≡ Some words → (x : ℕ) →
    Confirms running x words → running_turned running x ≡ Done (once.Done (words_placed words))

-- No part is done otherwise.
abbrev pub DoneIsListed : Type 0
DoneIsListed = (running : Running) (x : ℕ) (placed : Placed) → IsSome (count_in running) →
    running_turned running x ≡ Done (once.Done placed) →
    IsSomeAnd (listed_in running) (λ words. Confirms running x words × (placed ≡ words_placed words))

-- As it goes on, a part lists as many names at most, and what is no part stays none.
abbrev pub CountStays : Type 0
CountStays = (running next : Running) (x : ℕ) → running_turned running x ≡ Go next → count_in next ≡ count_in running
