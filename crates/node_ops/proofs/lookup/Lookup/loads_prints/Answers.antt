use Rattle.std.proofs.Common.{arith}
use Rattle.pm_words.specs.Offsets.{prints_offset}
use Rattle.machine_runs.specs.Runs.{begins}
use Rattle.node_ops.proofs.Comparisons.{address_fits, print_can, print_leads}
use Rattle.node_ops.proofs.lookup.Lookup.loads_prints.Goals as goal

pub address-first-requires-clause-sound : goal.address-first-requires-clause-sound
address-first-requires-clause-sound g c = (c.requires.2 _ _ _ begins).1.0.call

pub overflow_add-first : goal.overflow_add-first
overflow_add-first g c =
    let fits =
    address_fits c.args.self.now.call prints_offset c.loop-at.at c.address-first.result (c.requires.2 _ _ _ begins).1.0.call
    c.address-first.ensures (omega (arith, c.loop-at-test.true)) in
    omega (arith, fits)

pub act-requires : goal.act-requires
act-requires g c =
    print_can c.args.self.now.call c.requires.0 c.requires.1 c.loop-at.prints c.loop-at.at c.loop-at-test.true
    (c.loop-at.invariant c.requires.0 c.requires.1 c.requires.2) c.address-first.ensures

pub loop-at-preserved : goal.loop-at-preserved
loop-at-preserved g c hold bitmap may =
    print_leads c.args.self.now.call hold bitmap c.loop-at.prints c.loop-at.at c.loop-at-test.true
    (c.loop-at.invariant hold bitmap may) c.address-first.ensures c.act.ensures.row c.act.ensures.got
    c.act.ensures.tick
