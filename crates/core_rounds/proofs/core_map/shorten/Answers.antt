use Rattle.std.proofs.Common.{ap, arith}
use Rattle.recovery.specs.index_core.specs.Indexes.{Index}
use Rattle.core_rounds.proofs.Shortening.{shortened_low, shortened_writes}
use Rattle.core_rounds.proofs.core_map.shorten.Goals as goal

pub returns-clause-same : goal.returns-clause-same
returns-clause-same c =
    let begins = c.in-Ok.ensures.ok in
    let weighs = begins.weighs in
    record { contents = begins.map; anchors = begins.shape; weighs = omega (arith, weighs) }

pub returns-clause-quiet : goal.returns-clause-quiet
returns-clause-quiet c =
    let begins = c.in-Ok.ensures.ok in
    let locks = begins.locks in
    let writes = shortened_writes c.args.core.now c.new_round.new.self begins c.in-Ok.ensures.spare in
    record {
      index = c.new_round.ensures.index;
      quiet = c.new_round.ensures.quiet;
      stamps = shortened_low c.args.core.now c.new_round.new.self begins;
      layout = ap (λ (s : Index). s.layout) begins.is;
      generation = ap (λ (s : Index). s.generation) begins.is;
      calls_left = omega (arith, locks);
      writes_left = omega (arith, writes);
    }
