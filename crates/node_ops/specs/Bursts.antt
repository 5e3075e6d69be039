-- What parts of a call come to that make several turns one after another.
use Rattle.std.specs.Prelude.{◌≡◌, ℕ, Option, IfSome}
use Rattle.pm_words.specs.Images.{Row}
use Rattle.pm_words.specs.Turns.{turn_of}
use Rattle.machine_runs.specs.Runs.{Bursts}
use Rattle.node_ops.specs.declared.lookup.Lookup.{Lookup}
use Rattle.node_ops.specs.declared.lookup.Looked.{Looked}
use Rattle.node_ops.specs.LookupSteps.{lookup_asks, lookup_left, lookup_turned}
use Rattle.pm_words.specs.declared.machine.Turn.{Turn}
use Rattle.call_stages.specs.declared.once.Once.{Once}
use Rattle.call_stages.specs.declared.once.Placed.{Placed}
use Rattle.node_ops.specs.declared.put.Put.{Put}
use Rattle.node_ops.specs.declared.put.Put.TheVariants.{Single}
use Rattle.node_ops.specs.declared.single_put.SinglePut.{SinglePut}
use Rattle.node_ops.specs.declared.single_put.SinglePutDone.{SinglePutDone}
use Rattle.node_ops.specs.PutSteps.{SinglePutTurns, put_asks, put_left, put_turned}
use Rattle.node_ops.specs.declared.del.Del.{Del}
use Rattle.node_ops.specs.declared.del.Del.TheVariants as of_del
use Rattle.node_ops.specs.declared.single_del.SingleDel.{SingleDel}
use Rattle.node_ops.specs.declared.single_del.SingleDelDone.{SingleDelDone}
use Rattle.node_ops.specs.DelSteps.{SingleDelTurns, del_asks, del_left, del_turned}

-- A look-up goes on, or has looked, and then it has the call that it had before its last turn.
pub record LookupBursts (old new : Row) (first last : Lookup) (looked : Option Looked) (begun ended : ℕ) : Type 0 where
  pub burst : Bursts lookup_asks lookup_turned lookup_left old new first (turn_of last looked) begun ended
  pub call : IfSome looked (λ _. last.call ≡ burst.last.call)

-- A put that works on one node goes on there, or that work comes to its end.
pub record SinglePutBursts (old new : Row) (first last : SinglePut) (done : Option SinglePutDone)
    (begun ended : ℕ) : Type 0 where
  pub end : Turn Put (Once Placed)
  pub burst : Bursts put_asks put_turned put_left old new (Single first) end begun ended
  pub turns : SinglePutTurns end last done

-- A delete that works on one node goes on there, or that work comes to its end.
pub record SingleDelBursts (old new : Row) (first last : SingleDel) (done : Option SingleDelDone)
    (begun ended : ℕ) : Type 0 where
  pub end : Turn Del (Once Placed)
  pub burst : Bursts del_asks del_turned del_left old new (of_del.Single first) end begun ended
  pub turns : SingleDelTurns end last done
