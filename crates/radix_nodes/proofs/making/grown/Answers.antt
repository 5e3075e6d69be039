use Rattle.std.proofs.Common.{rules, ◌≢◌, ◌∙◌}
use Rattle.radix_nodes.proofs.GrownCells.{from_4, from_16, from_48, grown_by}
use Rattle.radix_nodes.proofs.making.grown.Goals as goal

pub returns-in-2-clause-is : goal.returns-in-2-clause-is
returns-in-2-clause-is c = c.grown_to_16.ensures ∙ from_4 c.args.cell.now c.in-2.is

pub returns-in-2-clause-grown : goal.returns-in-2-clause-grown
returns-in-2-clause-grown c is = grown_by c.args.cell.now c.grown_to_16.result c.requires.1 (c.grown_to_16.ensures ∙ from_4 c.args.cell.now c.in-2.is) is

pub returns-in-3-clause-is : goal.returns-in-3-clause-is
returns-in-3-clause-is c = c.grown_to_48.ensures ∙ from_16 c.args.cell.now c.in-3.is

pub returns-in-3-clause-grown : goal.returns-in-3-clause-grown
returns-in-3-clause-grown c is = grown_by c.args.cell.now c.grown_to_48.result c.requires.1 (c.grown_to_48.ensures ∙ from_16 c.args.cell.now c.in-3.is) is

pub returns-in_default-clause-is : goal.returns-in_default-clause-is
returns-in_default-clause-is c =
    let two : c.args.cell.now.kind ≢ 2 = search rules in
    let three : c.args.cell.now.kind ≢ 3 = search rules in
    c.grown_to_256.ensures ∙ from_48 c.args.cell.now two three

pub returns-in_default-clause-grown : goal.returns-in_default-clause-grown
returns-in_default-clause-grown c is = grown_by c.args.cell.now c.grown_to_256.result c.requires.1 (returns-in_default-clause-is c) is
