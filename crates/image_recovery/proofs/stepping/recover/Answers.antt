use Rattle.image_recovery.proofs.RecoveringLemmas.{end_is_recovered}
use Rattle.image_recovery.proofs.stepping.recover.Goals as goal

pub returns : goal.returns
returns g c =
    let known = c.in_ok-recovery.ensures {u = tt} in
    let begun = known.1 in
    (known.0, end_is_recovered c.args.image c.run.new.self c.run.new.memory begun.recoverable (c.run.ensures.goes c.args.image begun.recoverable begun.recovering) c.run.ensures.ended)
