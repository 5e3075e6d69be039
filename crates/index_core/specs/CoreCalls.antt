-- What is called of the core.
use Rattle.std.specs.Prelude.{ℕ, ◌≤◌, ◌<◌, ◌^◌, ◌⊎◌, [], Option, Some, None}
use Rattle.pm_words.specs.declared.layout.Layout.{Layout}
use Rattle.cat_history.specs.declared.op.NameOp.{NameOp}
use Rattle.cat_history.specs.declared.op.NameOp.TheVariants as op
use Rattle.call_stages.specs.declared.view.View.{View}
use Rattle.node_ops.specs.declared.get.Get.TheVariants as get
use Rattle.node_ops.specs.declared.put.Put.TheVariants as put
use Rattle.node_ops.specs.declared.single_put.SinglePut.TheVariants as single_put
use Rattle.node_ops.specs.declared.del.Del.TheVariants as del
use Rattle.node_ops.specs.declared.single_del.SingleDel.TheVariants as single_del
use Rattle.node_ops.specs.declared.part.Part.TheVariants as part
use Rattle.node_ops.specs.declared.running.Running.{Running}
use Rattle.node_ops.specs.declared.running.Running.TheVariants.{Getting, Putting, Deleting, Parting}
use Rattle.node_ops.specs.Calls.{new_call}
use Rattle.node_ops.specs.LookupSteps.{starts}
use Rattle.index_core.specs.declared.party.CoreCall.{CoreCall}
use Rattle.index_core.specs.declared.party.CoreCall.TheVariants as call

-- A recheck and a turn of the updater are no calls on a name (`MayBegin`). So what stands for these in the functions
-- below, a get of no name, says nothing.

-- What the call asks. A part of a scan asks what its low name has, and lists besides.
abbrev pub op_of : CoreCall → NameOp
op_of (call.Put name value limit) = op.Put name value
op_of (call.Get name) = op.Get name
op_of (call.Del name limit) = op.Del name
op_of (call.Part low count) = op.Get low
op_of (call.Recheck node version) = op.Get []
op_of (call.Turn stamp release) = op.Get []

-- How many names it lists at most, if it is a part of a scan.
abbrev pub count_of : CoreCall → Option ℕ
count_of (call.Put name value limit) = None
count_of (call.Get name) = None
count_of (call.Del name limit) = None
count_of (call.Part low count) = Some count
count_of (call.Recheck node version) = None
count_of (call.Turn stamp release) = None

-- The clock at which it is refused, if there is one.
abbrev pub limit_of : CoreCall → Option ℕ
limit_of (call.Put name value limit) = Some limit
limit_of (call.Get name) = None
limit_of (call.Del name limit) = Some limit
limit_of (call.Part low count) = None
limit_of (call.Recheck node version) = None
limit_of (call.Turn stamp release) = None

-- How many writes it may place.
abbrev pub most_writes : CoreCall → ℕ
most_writes (call.Put name value limit) = 1
most_writes (call.Get name) = 0
most_writes (call.Del name limit) = 1
most_writes (call.Part low count) = 0
most_writes (call.Recheck node version) = 0
most_writes (call.Turn stamp release) = 0

-- It is a call on a name, and its limit, if it has one, is at most 2^62.
abbrev pub MayBegin : CoreCall → Type 0
MayBegin (call.Put name value limit) = limit ≤ 2 ^ 62
MayBegin (call.Get name) = Unit {0}
MayBegin (call.Del name limit) = limit ≤ 2 ^ 62
MayBegin (call.Part low count) = Unit {0}
MayBegin (call.Recheck node version) = ⊥
MayBegin (call.Turn stamp release) = ⊥

-- It is a get.
abbrev pub IsGetCall : CoreCall → Type 0
IsGetCall (call.Get name) = Unit {0}
IsGetCall _ = ⊥

-- It is a turn of the updater, of whose stamp and release this holds.
abbrev pub IsTurnAnd : CoreCall → (ℕ → ℕ → Type 0) → Type 0
IsTurnAnd (call.Put name value limit) P = ⊥
IsTurnAnd (call.Get name) P = ⊥
IsTurnAnd (call.Del name limit) P = ⊥
IsTurnAnd (call.Part low count) P = ⊥
IsTurnAnd (call.Recheck node version) P = ⊥
IsTurnAnd (call.Turn stamp release) P = P stamp release

-- This holds of its stamp and release, if it is a turn of the updater.
abbrev pub IfTurn : CoreCall → (ℕ → ℕ → Type 0) → Type 0
IfTurn (call.Put name value limit) P = Unit {0}
IfTurn (call.Get name) P = Unit {0}
IfTurn (call.Del name limit) P = Unit {0}
IfTurn (call.Part low count) P = Unit {0}
IfTurn (call.Recheck node version) P = Unit {0}
IfTurn (call.Turn stamp release) P = P stamp release

-- The same of a recheck, by its node and version.
abbrev pub IsRecheckAnd : CoreCall → (ℕ → ℕ → Type 0) → Type 0
IsRecheckAnd (call.Put name value limit) P = ⊥
IsRecheckAnd (call.Get name) P = ⊥
IsRecheckAnd (call.Del name limit) P = ⊥
IsRecheckAnd (call.Part low count) P = ⊥
IsRecheckAnd (call.Recheck node version) P = P node version
IsRecheckAnd (call.Turn stamp release) P = ⊥

abbrev pub IfRecheck : CoreCall → (ℕ → ℕ → Type 0) → Type 0
IfRecheck (call.Put name value limit) P = Unit {0}
IfRecheck (call.Get name) P = Unit {0}
IfRecheck (call.Del name limit) P = Unit {0}
IfRecheck (call.Part low count) P = Unit {0}
IfRecheck (call.Recheck node version) P = P node version
IfRecheck (call.Turn stamp release) P = Unit {0}

-- What this party may start: a caller any call on a name and a recheck of any node, and each party, also the updater's,
-- a turn that gives a stamp.
abbrev pub MayStart : Layout → ℕ → CoreCall → Type 0
MayStart l party c = ((party < l.callers) × MayBegin c) ⊎
    (IsTurnAnd c (λ stamp release. (party ≤ l.callers) × (1 ≤ stamp)) ⊎
    IsRecheckAnd c (λ node version. (party < l.callers) × (node < l.nodes)))

-- The machine that makes the call, before its first action.
abbrev pub machine_of : View → CoreCall → Running
machine_of view (call.Put name value limit) =
    Putting (put.Single (single_put.Looking (starts (new_call view name (Some limit))) value))
machine_of view (call.Get name) = Getting (get.Looking (starts (new_call view name None)))
machine_of view (call.Del name limit) =
    Deleting (del.Single (single_del.Looking (starts (new_call view name (Some limit)))))
machine_of view (call.Part low count) = Parting (part.Looking (starts (new_call view low None)) count)
machine_of view (call.Recheck node version) = Getting (get.Looking (starts (new_call view [] None)))
machine_of view (call.Turn stamp release) = Getting (get.Looking (starts (new_call view [] None)))
