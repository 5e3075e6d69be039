-- The parts of a delete that make several turns one after another, as turns of the whole.
use Rattle.std.proofs.Common.{◌≡◌, ℕ, ◌+◌, refl, ap, arith}
use Rattle.std.specs.Prelude.{Option, Some, None}
use Rattle.pm_words.specs.Images.{Row}
use Rattle.pm_words.specs.Turns.{GoesBelow, turn_of}
use Rattle.pm_words.specs.declared.machine.Turn.{Turn}
use Rattle.pm_words.specs.declared.machine.Turn.TheVariants.{Go, Done}
use Rattle.call_stages.specs.declared.once.Once.{Once}
use Rattle.call_stages.specs.declared.once.Placed.{Placed}
use Rattle.machine_runs.specs.Runs.{Holds, Bursts, MayGo}
use Rattle.machine_runs.proofs.Inside.{part_may}
use Rattle.node_ops.specs.declared.call.Call.{Call}
use Rattle.node_ops.specs.declared.lookup.Found.{Found}
use Rattle.node_ops.specs.declared.lookup.Lookup.{Lookup}
use Rattle.node_ops.specs.declared.lookup.Looked.{Looked}
use Rattle.node_ops.specs.declared.lookup.Looked.TheVariants as looked_as
use Rattle.node_ops.specs.declared.finish.Finish.{Finish}
use Rattle.node_ops.specs.declared.del.Del.{Del}
use Rattle.node_ops.specs.declared.del.Del.TheVariants.{Single}
use Rattle.node_ops.specs.declared.single_del.SingleDel.{SingleDel}
use Rattle.node_ops.specs.declared.single_del.SingleDel.TheVariants.{Looking, Finishing}
use Rattle.node_ops.specs.Calls.{IsCall}
use Rattle.node_ops.specs.LookupSteps.{IsFoundBy, lookup_asks, lookup_turned, lookup_left, lookup_takes}
use Rattle.node_ops.specs.FinishSteps.{finish_asks, finish_turned, finish_left, finish_takes}
use Rattle.node_ops.specs.DelSteps.{del_asks, del_turned, del_left, del_takes, del_looked, del_finished}
use Rattle.node_ops.specs.Bursts.{LookupBursts}
use Rattle.node_ops.proofs.CallBursts.{looked_call, looked_found, looking_bursts}
use Rattle.node_ops.proofs.Measures.{found_fewer}

-- a turn of what a delete does leaves the delete fewer actions where it leaves that fewer
del_looked_below : (call : Call) (bound : ℕ) (turn : Turn Lookup Looked) → GoesBelow {A = Looked} lookup_left bound turn
    → GoesBelow {A = Once Placed} del_left (bound + 30052) (del_looked call turn)
del_looked_below call bound (Go lookup) below = omega arith
del_looked_below call bound (Done (looked_as.Early answer)) below = tt
del_looked_below call bound (Done (looked_as.Found found)) below = found_fewer call found bound

del_finished_below : (bound : ℕ) (turn : Turn Finish (Once Placed))
    → GoesBelow {A = Once Placed} finish_left bound turn
    → GoesBelow {A = Once Placed} del_left (bound + 0) (del_finished None turn)
del_finished_below bound (Go finish) below = omega arith
del_finished_below bound (Done answer) below = tt

-- a delete that looks, and one that finishes with no line
pub looking_del : Holds lookup_asks lookup_turned lookup_left lookup_takes del_asks del_turned del_left del_takes
    (λ (l : Lookup). Single (Looking l))
looking_del = record {
  asked = λ lookup. refl;
  on = λ lookup next number goes. ap (del_looked lookup.call) goes;
  taken = λ lookup number takes. (takes.0.0, takes.1);
  fewer = λ lookup number takes below.
      del_looked_below lookup.call (lookup_left lookup) (lookup_turned lookup number) below;
}

pub finishing_del : Holds finish_asks finish_turned finish_left finish_takes del_asks del_turned del_left del_takes
    (λ (f : Finish). Single (Finishing f None))
finishing_del = record {
  asked = λ finish. refl;
  on = λ finish next number goes. ap (del_finished None) goes;
  taken = λ finish number takes. (takes.0.0.here, takes.1);
  fewer = λ finish number takes below.
      del_finished_below (finish_left finish) (finish_turned finish number) below;
}

module _ (s : SingleDel) (lookup : Lookup) (is : s ≡ Looking lookup) {old : Row}
    (may : MayGo del_asks del_turned del_left del_takes old.layout old.words (Single s)) where
  single_is : Single s ≡ Single (Looking lookup)
  single_is = ap (λ (x : SingleDel). Single x) is

  pub del_looking_may : MayGo lookup_asks lookup_turned lookup_left lookup_takes old.layout old.words lookup
  del_looking_may = part_may looking_del single_is may

  pub del_looked_call : {new : Row} {last : Lookup} {looked : Looked} {begun ended : ℕ}
      → LookupBursts old new lookup last (Some looked) begun ended → IsCall last.call
  del_looked_call b = looked_call looking_del single_is may b

  pub del_looked_found : {new : Row} {last : Lookup} {looked : Looked} {begun ended : ℕ} → (found : Found)
      → LookupBursts old new lookup last (Some looked) begun ended → looked ≡ looked_as.Found found
      → IsFoundBy last.call.view.layout.slots found
  del_looked_found found b is_found =
      looked_found looking_del single_is may (λ l number takes. takes.0.1) found b is_found

  pub del_looking_bursts : {new : Row} {last : Lookup} {looked : Option Looked} {end : Turn Del (Once Placed)}
      {begun ended : ℕ} → LookupBursts old new lookup last looked begun ended
      → del_looked last.call (turn_of last looked) ≡ end
      → Bursts del_asks del_turned del_left old new (Single s) end begun ended
  del_looking_bursts b to =
      looking_bursts looking_del del_looked (λ l number. refl) (λ call l. refl) single_is may b to
