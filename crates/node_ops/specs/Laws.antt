-- What every turn of a sound call is and leaves. The index rests on these laws, and on nothing else of the machines.
use Rattle.std.specs.Prelude.{◌≡◌, ℕ, Some, None, IfSome}
use Rattle.pm_words.specs.declared.layout.Layout.{Layout}
use Rattle.cat_history.specs.declared.op.NameOp.{NameOp}
use Rattle.cat_history.specs.declared.op.Change.{Change}
use Rattle.call_stages.specs.Stages.{counted, pending_in, placed_in}
use Rattle.call_stages.specs.Kinds.{Told, LeadsWithin}
use Rattle.call_stages.specs.AnySteps.{AnyStep}
use Rattle.call_stages.specs.Footings.{FootStep}
use Rattle.node_ops.specs.declared.running.Running.{Running}
use Rattle.split_merge.specs.SplitLaws.{IsSplitOfFull}
use Rattle.node_ops.specs.RunningSteps.{running_call, running_asks, running_turned, running_leads, IsRunning, Sound}
use Rattle.cat_history.specs.Records.{change_of}
use Rattle.node_ops.specs.Asked.{IsOf, IsOfAfter, IsAbout, op_in, name_asked}
use Rattle.node_ops.specs.CallStages.{stage_of, stage_after, footing_of, footing_after, reply_of, SoundAfter}

-- a turn is a step of a kind, with the answer of the turn, of what the call has of nodes, of its log line and of prevs
abbrev pub TurnsAreFootSteps : Type 0
TurnsAreFootSteps = (l : Layout) (g : ℕ) (running : Running) (x : ℕ) → Sound l g running →
    Told l g (running_asks running) x → LeadsWithin l (stage_of running) (running_asks running) x →
    FootStep l g (running_call running).view.caller (footing_of running) (running_asks running) x
    (footing_after (running_turned running x)) (reply_of (running_turned running x))

-- so it is one of all steps, from stage to stage
abbrev pub TurnsAreSteps : Type 0
TurnsAreSteps = (l : Layout) (g : ℕ) (running : Running) (x : ℕ) → Sound l g running →
    Told l g (running_asks running) x → LeadsWithin l (stage_of running) (running_asks running) x →
    AnyStep l g (stage_of running) (running_asks running) x (stage_after (running_turned running x))
    (reply_of (running_turned running x))

-- where a node that it holds leads to one of the layout's, the number is one that it takes
abbrev pub LeadsAreTaken : Type 0
LeadsAreTaken = (l : Layout) (g : ℕ) (running : Running) (x : ℕ) → Sound l g running →
    LeadsWithin l (stage_of running) (running_asks running) x → running_leads running x

-- and leaves the call sound
abbrev pub TurnsStaySound : Type 0
TurnsStaySound = (l : Layout) (g : ℕ) (running : Running) (x : ℕ) → Sound l g running →
    Told l g (running_asks running) x → running_leads running x → SoundAfter l g (running_turned running x)

-- and a call of the same op
abbrev pub TurnsKeepOp : Type 0
TurnsKeepOp = (l : Layout) (g : ℕ) (op : NameOp) (running : Running) (x : ℕ) → Sound l g running →
    Told l g (running_asks running) x → running_leads running x → IsOf op running →
    IsOfAfter op (running_turned running x)

-- what a call of an op counts is the change of that op
abbrev pub CountsOwnChange : Type 0
CountsOwnChange = (op : NameOp) (running : Running) → IsOf op running →
    IfSome (counted (stage_of running)) (λ change. change_of op ≡ Some change)

-- and what it holds is held for the op's name
abbrev pub HoldsOwnName : Type 0
HoldsOwnName = (op : NameOp) (running : Running) → IsOf op running → IsAbout (name_asked op) (stage_of running)

-- and what it has pending, which a crash may find in the node already, is the change of the op, which has no place yet
abbrev pub PendingIsOwnChange : Type 0
PendingIsOwnChange = (op : NameOp) (running : Running) (change : Change) → IsOf op running →
    pending_in (stage_of running) ≡ Some change →
    (change_of op ≡ Some change) × (placed_in (stage_of running) ≡ None)

-- a call is of no other op than the one that its machine tells
abbrev pub OpIsTold : Type 0
OpIsTold = (op : NameOp) (running : Running) → IsOf op running → op_in running ≡ op

-- a call that splits a node, which doesn't lead to the fresh one yet, knows that the node has a name in each slot
abbrev pub SplitsAreOfFullNodes : Type 0
SplitsAreOfFullNodes = (running : Running) → IsRunning running →
    IsSplitOfFull (running_call running).view.layout.slots (stage_of running)
