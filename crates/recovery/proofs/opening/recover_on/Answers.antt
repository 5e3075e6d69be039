use Rattle.std.proofs.lemmas.Result.{err_from_is_err_and}
use Rattle.recovery.proofs.opening.recover_on.Goals as goal

pub run-requires : goal.run-requires
run-requires g c = record { image = c.args.image; is = c.in_ok-recovery.ensures.is }

pub finish-requires-clause-going : goal.finish-requires-clause-going
finish-requires-clause-going g c = record { image = c.args.image; is = c.run.ensures.goes c.args.image c.in_ok-recovery.ensures.is }

pub finish-requires-clause-done : goal.finish-requires-clause-done
finish-requires-clause-done g c = c.run.ensures.done

pub returns-in_err-recovery : goal.returns-in_err-recovery
returns-in_err-recovery g c = let p = err_from_is_err_and c.from_residual.result c.from_residual.ensures.1 in rw (p.1, p.2) c.in_err-recovery.ensures

pub returns : goal.returns
returns g c = c.finish.ensures c.args.image (c.run.ensures.goes c.args.image c.in_ok-recovery.ensures.is)
