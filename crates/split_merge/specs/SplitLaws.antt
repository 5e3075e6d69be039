-- What every turn of a split is.
use Rattle.std.specs.Prelude.{◌≡◌, ℕ, ◌<◌, ◌≤◌, List, slice_index, Some, None}
use Rattle.pm_words.specs.declared.again.Again.TheVariants as again
use Rattle.pm_words.specs.declared.machine.Turn.{Turn}
use Rattle.pm_words.specs.declared.machine.Turn.TheVariants.{Go, Done}
use Rattle.pm_words.specs.Offsets.{bitmap_offset}
use Rattle.data_node.specs.Slots.{AreAllLive}
use Rattle.data_node.specs.Spots.{Spot}
use Rattle.call_stages.specs.declared.once.Once.TheVariants as once
use Rattle.call_stages.specs.Stages.{Held, Tells, Filling, Stage, Splits}
use Rattle.call_stages.specs.Kinds.{Told, LeadsWithin}
use Rattle.pm_alloc.specs.Laws.{MayClaim}
use Rattle.smo_log.specs.Laws.{StaysSo}
use Rattle.split_merge.specs.declared.splitting.Share.{Share}
use Rattle.split_merge.specs.declared.splitting.Split.{Split}
use Rattle.split_merge.specs.declared.splitting.SplitDone.{SplitDone}
use Rattle.split_merge.specs.declared.splitting.SplitDone.TheVariants as answer
use Rattle.permutation.specs.Sparing.{SparingStep}
use Rattle.split_merge.specs.Plans.{IsPlan}
use Rattle.split_merge.specs.Splits.{AreWords, IsShare, IsSplit, plan_of, split_asks, split_turned, split_takes}
use Rattle.split_merge.specs.SplitStages.{bitmap_in, known_by, split_footing, done_footing}
use Rattle.split_merge.specs.declared.merging.Merge.{Merge}
use Rattle.split_merge.specs.MergeStages.{merge_footing}
use Rattle.split_merge.specs.Laws.{Cuts}

-- The party holds a node of which it knows that all slots are live, with all durable; it has loaded the clock, and its
-- name had nothing.
pub record MayBegin (slots : ℕ) (h : Held) : Type 0 where
  pub claim : MayClaim h
  pub full : AreAllLive (bitmap_in h.known.seen) slots
  pub clock : ℕ
  pub timed : h.time ≡ Some clock

-- The plan that a split makes of words is one, and by what its party knows of the full node, whose words they are, it
-- cuts that node: whatever the words are that were loaded.
abbrev pub PlansCut : Type 0
PlansCut = (split : Split) (share : Share) (full : List ℕ) (h : Held) → IsSplit split → IsShare split.view share →
    AreWords full → slice_index full 2 < split.view.layout.nodes →
    AreAllLive (bitmap_in h.known.seen) split.view.layout.slots →
    IsPlan (plan_of split share full) × Cuts (plan_of split share full) (known_by h (plan_of split share full))

-- It is the split of the same node.
pub record IsSameSplit (split next : Split) : Type 0 where
  pub view : next.view ≡ split.view
  pub node : next.node ≡ split.node
  pub word : next.word ≡ split.word

-- The step of a turn, and that the split goes on as one of that node. At the end both nodes are given back, and the
-- call is to be made again; a split that is refused gives its node back, and is answered why.
abbrev pub SplitsSo : Split → Held → ℕ → Turn Split SplitDone → Type 0
SplitsSo split h x (Go next) =
    SparingStep split.view.layout split.view.generation split.view.caller (split_footing h split) (split_asks split) x
    (split_footing h next) None × IsSplit next × IsSameSplit split next
SplitsSo split h x (Done (answer.Done fresh)) =
    SparingStep split.view.layout split.view.generation split.view.caller (split_footing h split) (split_asks split) x
    done_footing (Some (once.Again (again.NeedsSplit split.node)))
SplitsSo split h x (Done (answer.Again why)) =
    SparingStep split.view.layout split.view.generation split.view.caller (split_footing h split) (split_asks split) x
    done_footing (Some (once.Again why))

-- Each turn of a split, whatever it is told, is a step on nodes, on a line of its caller, or the store of a prev.
abbrev pub SplitsAreSteps : Type 0
SplitsAreSteps = (split : Split) (h : Held) (x : ℕ) → IsSplit split → MayBegin split.view.layout.slots h →
    Told split.view.layout split.view.generation (split_asks split) x →
    LeadsWithin split.view.layout (split_footing h split).stage (split_asks split) x →
    SplitsSo split h x (split_turned split x)

-- A split goes on as one whose fields keep the same.
abbrev pub SplitStays : Split → Turn Split SplitDone → Type 0
SplitStays split = StaysSo (λ next. IsSplit next × IsSameSplit split next)

abbrev pub SplitsStay : Type 0
SplitsStay = (split : Split) (x : ℕ) → split_takes split x → SplitStays split (split_turned split x)

-- A stage that splits a node, which doesn't lead to the fresh one yet, knows that it has a name in each slot.
abbrev pub IsSplitOfFull : ℕ → Stage → Type 0
IsSplitOfFull slots (Splits left fresh (Filling lit)) =
    (s : Spot) → Tells left.seen s → AreAllLive (s bitmap_offset) slots
IsSplitOfFull slots _ = Unit {0}

-- So does a split of a full node, and a merge splits none.
abbrev pub SplitsAreOfFull : Type 0
SplitsAreOfFull = (split : Split) (h : Held) → 1 ≤ split.view.layout.slots →
    AreAllLive (bitmap_in h.known.seen) split.view.layout.slots →
    IsSplitOfFull split.view.layout.slots (split_footing h split).stage

abbrev pub MergesSplitNone : Type 0
MergesSplitNone = (slots : ℕ) (merge : Merge) (h : Held) → IsSplitOfFull slots (merge_footing h merge).stage
