use Rattle.std.proofs.Common.{arith}
use Rattle.cat_history.specs.CrashRounds.{settled}
use Rattle.cat_history.specs.Maps.{map_of}
use Rattle.cat_history.proofs.SettleLemmas.{all_made}
use Rattle.cat_history.proofs.settling.settle_all.Goals as goal

pub returns : goal.returns
returns c =
    let size = c.loop-record.invariant.long in
    let past = c.loop-record-test.false in
    all_made (settled (map_of c.args.pairs.now)) c.loop-record.records c.args.records.now size
    (λ k within. c.loop-record.invariant.settled k (omega arith))
