-- Which op a call in flight is of.
use Rattle.std.specs.Prelude.{◌≡◌, ℕ, List, Option, Some, None}
use Rattle.pm_words.specs.declared.machine.Turn.{Turn}
use Rattle.pm_words.specs.declared.machine.Turn.TheVariants.{Go, Done}
use Rattle.cat_history.specs.declared.op.NameOp.{NameOp}
use Rattle.cat_history.specs.declared.op.NameOp.TheVariants as op
use Rattle.call_stages.specs.declared.once.Once.{Once}
use Rattle.call_stages.specs.declared.once.Placed.{Placed}
use Rattle.call_stages.specs.Stages.{Stage, Reads, Holds, Eyes, Meets, Joins}
use Rattle.node_ops.specs.declared.finish.Finish.{Finish}
use Rattle.node_ops.specs.declared.put.Put.{Put}
use Rattle.node_ops.specs.declared.put.Put.TheVariants as put
use Rattle.node_ops.specs.declared.single_put.SinglePut.TheVariants as single_put
use Rattle.node_ops.specs.declared.del.Del.{Del}
use Rattle.node_ops.specs.declared.del.Del.TheVariants as del
use Rattle.node_ops.specs.declared.single_del.SingleDel.TheVariants as single_del
use Rattle.node_ops.specs.declared.running.Running.{Running}
use Rattle.node_ops.specs.declared.running.Running.TheVariants.{Getting, Putting, Deleting, Parting}
use Rattle.node_ops.specs.Calls.{name_in}
use Rattle.node_ops.specs.GetSteps.{get_call}
use Rattle.node_ops.specs.PutSteps.{put_call}
use Rattle.node_ops.specs.DelSteps.{del_call}
use Rattle.node_ops.specs.PartSteps.{part_call}

-- the name that an op is about
abbrev pub name_asked : NameOp → List ℕ
name_asked (op.Put name value) = name
name_asked (op.Get name) = name
name_asked (op.Del name) = name

-- the put gives this value
abbrev pub Gives : ℕ → Put → Type 0
Gives value (put.Single (single_put.Looking lookup number)) = number ≡ value
Gives value (put.Single (single_put.Filling fill)) = fill.value ≡ value
Gives value (put.Single (single_put.Replacing call hold bitmap hit number)) = number ≡ value
Gives value (put.Single (single_put.Finishing finish)) = finish.new ≡ Some value
Gives value (put.Splitting call hold bitmap number split) = number ≡ value

-- the delete leaves no value
abbrev pub TakesOut : Del → Type 0
TakesOut (del.Single (single_del.Looking lookup)) = Unit {0}
TakesOut (del.Single (single_del.Next call hold bitmap hit)) = Unit {0}
TakesOut (del.Single (single_del.Taking call hold bitmap hit take)) = Unit {0}
TakesOut (del.Single (single_del.Refusing call hold bitmap hit)) = Unit {0}
TakesOut (del.Single (single_del.Clearing call hold bitmap hit line)) = Unit {0}
TakesOut (del.Single (single_del.Finishing finish line)) = finish.new ≡ None
TakesOut (del.Merging call hold old place merge) = Unit {0}

-- A part of a range scan is a get of its low name.
abbrev pub IsOf : NameOp → Running → Type 0
IsOf (op.Get name) (Getting get) = name_in (get_call get) ≡ name
IsOf (op.Get name) (Parting p) = name_in (part_call p) ≡ name
IsOf (op.Put name value) (Putting put) = (name_in (put_call put) ≡ name) × Gives value put
IsOf (op.Del name) (Deleting del) = (name_in (del_call del) ≡ name) × TakesOut del
IsOf _ _ = ⊥

abbrev pub IsOfAfter : NameOp → Turn Running (Once Placed) → Type 0
IsOfAfter op (Go running) = IsOf op running
IsOfAfter op (Done answer) = Unit {0}

-- the op that a finish is of
abbrev pub op_of_finish : Finish → Option ℕ → NameOp
op_of_finish finish (Some value) = op.Put (name_in finish.call) value
op_of_finish finish None = op.Del (name_in finish.call)

-- the op that a call in flight is of
abbrev pub put_op : Put → NameOp
put_op (put.Single (single_put.Looking lookup value)) = op.Put (name_in lookup.call) value
put_op (put.Single (single_put.Filling fill)) = op.Put (name_in fill.call) fill.value
put_op (put.Single (single_put.Replacing call hold bitmap hit value)) = op.Put (name_in call) value
put_op (put.Single (single_put.Finishing finish)) = op_of_finish finish finish.new
put_op (put.Splitting call hold bitmap value split) = op.Put (name_in call) value

abbrev pub del_op : Del → NameOp
del_op (del.Single (single_del.Looking lookup)) = op.Del (name_in lookup.call)
del_op (del.Single (single_del.Next call hold bitmap hit)) = op.Del (name_in call)
del_op (del.Single (single_del.Taking call hold bitmap hit take)) = op.Del (name_in call)
del_op (del.Single (single_del.Refusing call hold bitmap hit)) = op.Del (name_in call)
del_op (del.Single (single_del.Clearing call hold bitmap hit line)) = op.Del (name_in call)
del_op (del.Single (single_del.Finishing finish line)) = op_of_finish finish finish.new
del_op (del.Merging call hold old place merge) = op.Del (name_in call)

abbrev pub op_in : Running → NameOp
op_in (Getting get) = op.Get (name_in (get_call get))
op_in (Putting put) = put_op put
op_in (Deleting del) = del_op del
op_in (Parting p) = op.Get (name_in (part_call p))

-- what is held or read is held or read for this name
abbrev pub IsAbout : List ℕ → Stage → Type 0
IsAbout name (Holds n w h) = h.name ≡ name
IsAbout name (Reads n v k (Some h)) = h.name ≡ name
IsAbout name (Eyes n w h m v u free) = h.name ≡ name
IsAbout name (Meets n w h right) = h.name ≡ name
IsAbout name (Joins h left right pace) = h.name ≡ name
IsAbout name _ = Unit {0}
