-- What the index weighs along a schedule: no more than as it began and the puts since then that added a name or may
-- still add one.
use Rattle.std.specs.Prelude.{ℕ, ◌+◌, ◌≤◌, List}
use Rattle.std.specs.List.{sum_by}
use Rattle.index_law.specs.Weights.{weight_sum}
use Rattle.index_core.specs.declared.party.PartyState.{PartyState}
use Rattle.index_core.specs.Indexes.{Index, IsIndex, world}
use Rattle.index_core.specs.Lone.{IsQuiet}
use Rattle.index_core.specs.Schedules.{BegunCall, AnsweredCall, Runs}
use Rattle.index_core.specs.Weights.{weight_of, crash_weight, added_by, put_in}

-- How many of the answered calls added a name.
abbrev pub names_added : List AnsweredCall → ℕ
names_added calls = sum_by (λ c. added_by c.call.op c.answer) calls

-- How many puts are in flight, and so aren't answered.
abbrev pub puts_in_flight : List PartyState → ℕ
puts_in_flight states = sum_by (λ state. put_in state.machine) states

-- The index weighs no more than this, also with what calls in flight have lowered it by: deletes that aren't counted
-- yet, and merges that have left a node out of the list which isn't GONE yet. Nor does the image that a crash leaves.
pub record WeighsAtMost (most : ℕ) (s : Index) : Type 0 where
  pub core : weight_of s ≤ most
  pub sum : weight_sum (world s) ≤ most
  pub image : crash_weight s ≤ most

-- However the calls were scheduled from an index with no call in flight: it weighs no more than it did then and the
-- puts since then that added a name or aren't answered.
abbrev pub WeightIsBounded : Type 0
WeightIsBounded = (first last : Index) (begun : List BegunCall) (calls : List AnsweredCall) → IsIndex first →
    IsQuiet first → Runs first begun calls last →
    WeighsAtMost (weight_of first + (names_added calls + puts_in_flight last.states)) last
