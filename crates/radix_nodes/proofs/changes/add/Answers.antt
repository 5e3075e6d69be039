use Rattle.std.proofs.Common.{rules, ◌≢◌}
use Rattle.radix_nodes.proofs.Adding.{four_adds, sixteen_adds, forty_eight_adds, direct_adds}
use Rattle.radix_nodes.proofs.changes.add.Goals as goal

pub returns-in-2-clause-full : goal.returns-in-2-clause-full
returns-in-2-clause-full c is = (four_adds c.args.cell.now c.args.byte c.args.reference (search rules) c.ranges.byte.fits c.requires.reference c.requires.none is c.add_entry.result c.in-2.is c.add_entry.ensures).full

pub returns-in-2-clause-added : goal.returns-in-2-clause-added
returns-in-2-clause-added c is = (four_adds c.args.cell.now c.args.byte c.args.reference (search rules) c.ranges.byte.fits c.requires.reference c.requires.none is c.add_entry.result c.in-2.is c.add_entry.ensures).added

pub returns-in-3-clause-full : goal.returns-in-3-clause-full
returns-in-3-clause-full c is = (sixteen_adds c.args.cell.now c.args.byte c.args.reference (search rules) c.ranges.byte.fits c.requires.reference c.requires.none is c.add_entry-in-3.result c.in-3.is c.add_entry-in-3.ensures).full

pub returns-in-3-clause-added : goal.returns-in-3-clause-added
returns-in-3-clause-added c is = (sixteen_adds c.args.cell.now c.args.byte c.args.reference (search rules) c.ranges.byte.fits c.requires.reference c.requires.none is c.add_entry-in-3.result c.in-3.is c.add_entry-in-3.ensures).added

pub returns-in-4-clause-full : goal.returns-in-4-clause-full
returns-in-4-clause-full c is = (forty_eight_adds c.args.cell.now c.args.byte c.args.reference (search rules) c.ranges.byte.fits c.requires.reference c.requires.none is c.add_in_place.result c.in-4.is c.add_in_place.ensures).full

pub returns-in-4-clause-added : goal.returns-in-4-clause-added
returns-in-4-clause-added c is = (forty_eight_adds c.args.cell.now c.args.byte c.args.reference (search rules) c.ranges.byte.fits c.requires.reference c.requires.none is c.add_in_place.result c.in-4.is c.add_in_place.ensures).added

pub returns-in_default-clause-added : goal.returns-in_default-clause-added
returns-in_default-clause-added c is =
    let two : c.args.cell.now.kind ≢ 2 = search rules in
    let three : c.args.cell.now.kind ≢ 3 = search rules in
    let four : c.args.cell.now.kind ≢ 4 = search rules in
    (direct_adds c.args.cell.now c.args.byte c.args.reference (search rules) c.ranges.byte.fits c.requires.reference c.requires.none is c.alone.result two three four c.alone.ensures).added
