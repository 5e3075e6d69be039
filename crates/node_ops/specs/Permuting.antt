-- What a call in flight has of permutations, beside its stage, and how that goes with each of its turns.
use Rattle.std.specs.Prelude.{◌≡◌, ℕ, ◌<◌, List, [], Option, Some, None}
use Rattle.pm_words.specs.declared.layout.Layout.{Layout}
use Rattle.pm_words.specs.declared.action.Action.TheVariants.{Load}
use Rattle.pm_words.specs.declared.machine.Turn.{Turn}
use Rattle.call_stages.specs.declared.once.Once.{Once}
use Rattle.call_stages.specs.declared.once.Placed.{Placed}
use Rattle.call_stages.specs.AnySteps.{AnyStep}
use Rattle.call_stages.specs.Kinds.{Told, LeadsWithin}
use Rattle.call_stages.specs.Stages.{Held, Sight, Reads, Tells, counted}
use Rattle.permutation.specs.declared.load.LoadPermutation.{LoadPermutation}
use Rattle.permutation.specs.Loads.{load_read}
use Rattle.permutation.specs.Stores as stores
use Rattle.permutation.specs.Sortings.{Sorting, Unsorted, Stored, Sorts, Keeps, permutation_address}
use Rattle.permutation.specs.Sortings.{permutation_version_address}
use Rattle.permutation_law.specs.Laws.{Spares}
use Rattle.node_ops.specs.declared.call.Call.{Call}
use Rattle.node_ops.specs.declared.part.Part.{Part}
use Rattle.node_ops.specs.declared.part.Part.TheVariants as part
use Rattle.node_ops.specs.declared.part.Reading.{Reading}
use Rattle.node_ops.specs.declared.part.ReadingAt.{ReadingAt}
use Rattle.node_ops.specs.declared.part.ReadingAt.TheVariants as at
use Rattle.node_ops.specs.declared.part.Way.{Way}
use Rattle.node_ops.specs.declared.part.Way.TheVariants as ways
use Rattle.node_ops.specs.declared.running.Running.{Running}
use Rattle.node_ops.specs.CallStages.{stage_of, stage_after, reply_of}
use Rattle.node_ops.specs.RunningSteps.{Sound, of_part, of_part_after, running_asks, running_turned}

-- What a reader has read of the permutation of a node, whose version was this version word: its words, by their
-- numbers.
pub record PermutationRead : Type 0 where
  pub node : ℕ
  pub version : ℕ
  pub seen : List (ℕ × ℕ)

-- What a part has stored of the permutation of the node that it holds.
abbrev pub reading_sorting : Reading → ReadingAt → Sorting
reading_sorting reading (at.Store store) = stores.sorting_of store
reading_sorting reading at.Unlock = Stored reading.call.node reading.hold.locked
reading_sorting reading _ = Unsorted

abbrev pub part_sorting : Part → Sorting
part_sorting (part.Reading reading) = reading_sorting reading reading.at
part_sorting _ = Unsorted

abbrev pub sorting_of : Running → Sorting
sorting_of running = of_part Unsorted part_sorting running

abbrev pub sorting_after : Turn Running (Once Placed) → Sorting
sorting_after turn = of_part_after Unsorted part_sorting turn

-- What a part has read of the permutation of its node, which served it so far.
abbrev pub read_by : LoadPermutation → Option (List (ℕ × ℕ)) → Option PermutationRead
read_by load None = None
read_by load (Some seen) = Some (record { node = load.node; version = load.version; seen = seen })

abbrev pub way_reading : Call → ℕ → Way → Option PermutationRead
way_reading call version (ways.Served words) =
    Some (record { node = call.node; version = version; seen = stores.words_first words 8 })
way_reading call version _ = None

abbrev pub part_reading : Part → Option PermutationRead
part_reading (part.Ordering call seen count load) = read_by load (load_read load)
part_reading (part.Dating call seen count way) = way_reading call seen.version way
part_reading (part.Reading reading) = way_reading reading.call reading.hold.locked reading.way
part_reading _ = None

abbrev pub reading_of : Running → Option PermutationRead
reading_of running = of_part None part_reading running

abbrev pub reading_after : Turn Running (Once Placed) → Option PermutationRead
reading_after turn = of_part_after None part_reading turn

-- With a turn it stores a word of the permutation of the node that it holds, and has its stage still, or it makes a
-- step that stores none, and keeps or lets go what it had stored.
pub data Permutes (l : Layout) (g : ℕ) (m : Running) (x : ℕ) : Type 0 where
  sorts : Sorts l (stage_of m) (sorting_of m) (running_asks m) (sorting_after (running_turned m x)) →
      counted (stage_of m) ≡ None → stage_after (running_turned m x) ≡ stage_of m →
      reply_of (running_turned m x) ≡ None → Permutes l g m x
  leaves : (step : AnyStep l g (stage_of m) (running_asks m) x (stage_after (running_turned m x))
      (reply_of (running_turned m x))) → Spares step →
      Keeps l (sorting_of m) (running_asks m) (stage_after (running_turned m x)) (sorting_after (running_turned m x)) →
      Permutes l g m x

abbrev pub TurnsPermute : Type 0
TurnsPermute = (l : Layout) (g : ℕ) (m : Running) (x : ℕ) → Sound l g m → Told l g (running_asks m) x →
    LeadsWithin l (stage_of m) (running_asks m) x → Permutes l g m x

-- How what it has read of a permutation goes with a turn: it has none any more, or has it still; it begins as it loads
-- the permutation's version, which is the version word that it saw; or it goes on with a word of the permutation.
pub data Rereads (l : Layout) (m : Running) (x : ℕ) : Type 0 where
  has_none : reading_after (running_turned m x) ≡ None → Rereads l m x
  stays : reading_after (running_turned m x) ≡ reading_of m → Rereads l m x
  begins : {n v : ℕ} {k : Sight} {h : Option Held} → stage_of m ≡ Reads n v k h →
      running_asks m ≡ Load (permutation_version_address l n) → x ≡ v →
      reading_after (running_turned m x) ≡ Some (record { node = n; version = v; seen = [] }) → Rereads l m x
  goes_on : {n v k : ℕ} {seen after : List (ℕ × ℕ)} →
      reading_of m ≡ Some (record { node = n; version = v; seen = seen }) → k < 8 →
      running_asks m ≡ Load (permutation_address l n k) →
      ((q : ℕ → ℕ) → Tells seen q → q k ≡ x → Tells after q) →
      reading_after (running_turned m x) ≡ Some (record { node = n; version = v; seen = after }) → Rereads l m x

abbrev pub TurnsReread : Type 0
TurnsReread = (l : Layout) (g : ℕ) (m : Running) (x : ℕ) → Sound l g m → Told l g (running_asks m) x → Rereads l m x
