-- What every turn of a merge is.
use Rattle.std.specs.Prelude.{◌≡◌, ℕ, ◌<◌, ◌^◌, [], Option, Some, None}
use Rattle.pm_words.specs.declared.action.Action.{Action}
use Rattle.pm_words.specs.declared.machine.Turn.{Turn}
use Rattle.pm_words.specs.declared.machine.Turn.TheVariants.{Go, Done}
use Rattle.call_stages.specs.declared.once.Once.{Once}
use Rattle.call_stages.specs.declared.once.Once.TheVariants as once
use Rattle.call_stages.specs.declared.once.Placed.{Placed}
use Rattle.call_stages.specs.Stages.{Held}
use Rattle.call_stages.specs.Kinds.{IsStill, MayMerge, Told, LeadsWithin}
use Rattle.call_stages.specs.Footings.{Footing}
use Rattle.permutation.specs.Sparing.{SparingStep}
use Rattle.smo_log.specs.LogLines.{caller_of}
use Rattle.smo_log.specs.Laws.{StaysSo}
use Rattle.split_merge.specs.declared.uniting.Union.{Union}
use Rattle.split_merge.specs.declared.joining.Join.{Join}
use Rattle.split_merge.specs.declared.merging.Merge.{Merge}
use Rattle.split_merge.specs.declared.merging.Merged.{Merged}
use Rattle.split_merge.specs.Joins.{IsJoin, join_asks, join_turned}
use Rattle.split_merge.specs.JoinStages.{join_footing}
use Rattle.split_merge.specs.SplitStages.{done_footing}
use Rattle.split_merge.specs.Merges.{IsMerge, merge_asks, merge_turned, merge_takes}
use Rattle.split_merge.specs.MergeStages.{merge_footing}

-- A call that has its place, and knows what its name had, is answered so.
pub record Answered (h : Held) (answer : Once Placed) : Type 0 where
  pub old : Option ℕ
  pub place : ℕ
  pub hops : ℕ
  pub had : h.old ≡ Some old
  pub placed : h.placed ≡ Some place
  pub is : answer ≡ once.Done (record { old = old; place = place; hops = hops })

-- The step of a turn, and what a merge does is kept. At the end both nodes are given back, and the call is answered.
abbrev pub JoinsSo : ℕ → Union → Held → Once Placed → Footing → Action → ℕ → Turn Join (Unit {0}) → Type 0
JoinsSo g union h answer footing action x (Go join) =
    SparingStep union.layout g (caller_of union.line) footing action x (join_footing h join) None × IsJoin join ×
    (join.union ≡ union)
JoinsSo g union h answer footing action x (Done nothing) =
    SparingStep union.layout g (caller_of union.line) footing action x done_footing (Some answer)

-- Each turn of a merge of two nodes that are held, whatever word it is told, is a step on nodes, on the party's line,
-- or the store of a prev.
abbrev pub JoinsAreSteps : Type 0
JoinsAreSteps = (join : Join) (g : ℕ) (h : Held) (answer : Once Placed) (x : ℕ) → IsJoin join → Answered h answer →
    x < 2 ^ 64 →
    JoinsSo g join.union h answer (join_footing h join) (join_asks join) x (join_turned join x)

-- The party holds a node, in which all is durable, with no change that isn't counted, has loaded no clock since, and
-- has merged nothing yet.
pub record MayJoin (h : Held) : Type 0 where
  pub still : IsStill h
  pub durable : h.dirty ≡ []
  pub unhanded : h.hand ≡ None
  pub may : MayMerge h

-- It is the merge of the same node, with the same line.
pub record IsSameMerge (merge next : Merge) : Type 0 where
  pub view : next.view ≡ merge.view
  pub node : next.node ≡ merge.node
  pub word : next.word ≡ merge.word
  pub line : next.line ≡ merge.line

-- The step of a turn, and that the merge goes on as one of that node. At the end both nodes are given back, and the
-- call is answered, whether it merged or not.
abbrev pub MergesSo : Merge → Held → Once Placed → ℕ → Turn Merge Merged → Type 0
MergesSo merge h answer x (Go next) =
    SparingStep merge.view.layout merge.view.generation merge.view.caller (merge_footing h merge) (merge_asks merge) x
    (merge_footing h next) None × IsMerge next × IsSameMerge merge next
MergesSo merge h answer x (Done merged) =
    SparingStep merge.view.layout merge.view.generation merge.view.caller (merge_footing h merge) (merge_asks merge) x
    done_footing (Some answer)

-- Each turn of a merge, whatever it is told, is a step on nodes, on the party's line, or the store of a prev.
abbrev pub MergesAreSteps : Type 0
MergesAreSteps = (merge : Merge) (h : Held) (answer : Once Placed) (x : ℕ) → IsMerge merge → MayJoin h →
    Answered h answer →
    Told merge.view.layout merge.view.generation (merge_asks merge) x →
    LeadsWithin merge.view.layout (merge_footing h merge).stage (merge_asks merge) x →
    MergesSo merge h answer x (merge_turned merge x)

-- A merge goes on as one whose fields keep the same.
abbrev pub MergeStays : Merge → Turn Merge Merged → Type 0
MergeStays merge = StaysSo (λ next. IsMerge next × IsSameMerge merge next)

abbrev pub MergesStay : Type 0
MergesStay = (merge : Merge) (x : ℕ) → merge_takes merge x → MergeStays merge (merge_turned merge x)
