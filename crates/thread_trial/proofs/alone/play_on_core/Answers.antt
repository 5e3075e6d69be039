use Rattle.std.proofs.Common.{sym, subst}
use Rattle.index_core.specs.Lone.{IsQuiet}
use Rattle.thread_trial.proofs.alone.play_on_core.Goals as goal

-- room for a write is no call in flight
pub run_alone-requires-clause-quiet : goal.run_alone-requires-clause-quiet
run_alone-requires-clause-quiet g c =
    let quiet = c.loop-number.invariant.0 in
    subst IsQuiet (sym c.reserve.ensures.kept) (record { calls = quiet.calls; turns = quiet.turns; rechecks = quiet.rechecks })
