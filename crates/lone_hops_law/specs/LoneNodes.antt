-- What a call leaves of the nodes, and so of the ways to them, that is made with nothing else in flight.
use Rattle.std.specs.Prelude.{◌≡◌, ◌≢◌, ℕ, ◌+◌, ◌<◌, ◌≤◌, ◌^◌, true, List, length, Option, Some, None}
use mathlib.Core.Option.{some}
use lib.ListN.{get_elem?}
use Rattle.pm_words.specs.Codes.{gone_status}
use Rattle.pm_words.specs.declared.action.Action.{Action}
use Rattle.pm_words.specs.Rows.{got}
use Rattle.pm_words.specs.Offsets.{next_offset}
use Rattle.cat_history.specs.declared.op.Change.{Change}
use Rattle.data_node.specs.Lists.{without_member}
use Rattle.call_stages.specs.declared.once.Once.{Once}
use Rattle.call_stages.specs.declared.once.Placed.{Placed}
use Rattle.call_stages.specs.Stages.{Stage, Idle, Joins}
use Rattle.call_stages.specs.Footings.{Footing, FootStep}
use Rattle.call_stages.specs.Prevs.{Debt}
use Rattle.data_list.specs.Still.{Nodes, AreQuiet}
use Rattle.index_law.specs.Facts.{IsListed}
use Rattle.index_law.specs.LoneShapes.{has_merged}
use Rattle.index_law.specs.Prevs.{prev_in}
use Rattle.index_law.specs.Whole.{Whole, IsWhole}
use Rattle.index_law.specs.Worlds.{Party, World, facts, stepped}
use Rattle.lone_updater_law.specs.lone_call_law.specs.There.{nodes_in}
use Rattle.lone_updater_law.specs.lone_call_law.specs.Tries.{Trying, Says, has_retired}
use Rattle.lone_updater_law.specs.CallLogs.{LeavesLines, ready_lines}
use Rattle.lone_hops_law.specs.Ways.{IsWay, StayGone}

-- The words of the nodes, and their list.
abbrev pub nodes_of : World → Nodes
nodes_of w = nodes_in w.layout w.words

-- A party that merges two nodes holds these.
abbrev pub IsOwn : Stage → ℕ → ℕ → Type 0
IsOwn (Joins h left right pace) n m = (left.node ≡ n) × (right.node ≡ m)
IsOwn _ n m = Unit {0}

-- The list lacks the node behind this one, which stood there in w0; and if the call is past that, the node is GONE and
-- leads back to this one.
pub record HasLeftOut (w0 w : World) (s : Stage) : Type 0 where
  pub left : ℕ
  pub right : ℕ
  pub listed : IsListed (facts w0) left
  pub some : right ≢ 0
  pub leads : (facts w0).now left next_offset ≡ right
  pub list : (facts w).list ≡ without_member right (facts w0).list
  pub own : IsOwn s left right
  pub gone : has_retired s ≡ true → ((facts w).status right ≡ gone_status) × (prev_in w.layout w.words right ≡ left)

-- How far a call is with the nodes, by its stage.
pub record NodesStand (w0 w : World) (s : Stage) : Type 0 where
  pub stay : StayGone (nodes_of w0) (nodes_of w)
  pub left_out : has_merged s ≡ true → HasLeftOut w0 w s

-- Each step of a lone call leaves the nodes so,
abbrev pub NodesGo : Type 0
NodesGo = (name : List ℕ) (own : Option Change) (w0 : World) (z : Whole) (i : ℕ) (p : Party) (foot next : Footing)
    (action : Action) (x : ℕ) → IsWhole z → Trying name own w0 i z.world p →
    get_elem? z.lines i ≡ some foot.line → get_elem? z.debts i ≡ some foot.debt → p.stage ≡ foot.stage →
    NodesStand w0 z.world p.stage → FootStep z.world.layout z.world.generation p.caller foot action x next None →
    x ≡ got z.world.layout z.world.words action → length z.world.history < 2 ^ 63 →
    NodesStand w0 (stepped z.world i p action next.stage) next.stage

-- and its last step, which gives an answer.
abbrev pub NodesEnd : Type 0
NodesEnd = (name : List ℕ) (own : Option Change) (w0 : World) (z : Whole) (i : ℕ) (p : Party) (foot : Footing)
    (debt : Debt) (action : Action) (x : ℕ) (answer : Once Placed) → IsWhole z → Trying name own w0 i z.world p →
    p.stage ≡ foot.stage → NodesStand w0 z.world p.stage →
    FootStep z.world.layout z.world.generation p.caller foot action x
    (record { stage = Idle; line = None; debt = debt }) (Some answer) →
    x ≡ got z.world.layout z.world.words action → length z.world.history < 2 ^ 63 →
    StayGone (nodes_of w0) (nodes_of (stepped z.world i p action Idle)) ×
    (has_merged p.stage ≡ true → (has_retired p.stage ≡ true) ×
    HasLeftOut w0 (stepped z.world i p action Idle) p.stage)

-- Each way is longer by no more hops than log lines are READY that weren't.
abbrev pub LengthenWithin : World → World → Type 0
LengthenWithin w0 w = (key n hops : ℕ) → IsWay (nodes_of w0) key n hops →
    (more : ℕ) × (more + ready_lines w0 ≤ hops + ready_lines w) × IsWay (nodes_of w) key n more

-- So it is after a try of a lone call, by what its answer says and leaves.
abbrev pub TriesLengthen : Type 0
TriesLengthen = (name : List ℕ) (own : Option Change) (w0 w : World) (s : Stage) (caller : ℕ) (answer : Once Placed) →
    w.layout ≡ w0.layout → w.generation ≡ w0.generation → AreQuiet w0.layout w0.generation (nodes_of w0) →
    AreQuiet w.layout w.generation (nodes_of w) → StayGone (nodes_of w0) (nodes_of w) →
    (has_merged s ≡ true → (has_retired s ≡ true) × HasLeftOut w0 w s) → Says w0 w name own s answer →
    LeavesLines name caller w0 w answer → LengthenWithin w0 w
