use Rattle.std.proofs.Common.{rules, ◌≢◌, ◌+◌, sym, ap, ◌∙◌}
use Rattle.radix_nodes.specs.declared.cell.Cell.{Cell}
use Rattle.radix_nodes.specs.Cells.{entry_of}
use Rattle.radix_nodes.specs.Changes.{stored}
use Rattle.radix_nodes.specs.Places.{taken_in}
use Rattle.radix_nodes.proofs.GrownCells.{more_in_16, more_in_48, more_in_256, larger_made}
use Rattle.radix_nodes.proofs.making.larger.Goals as goal

pub returns-in-2-clause-is : goal.returns-in-2-clause-is
returns-in-2-clause-is c =
    c.set.ensures ∙ ap (λ (g : Cell). stored g (record { offset = 12; value = entry_of c.args.byte c.args.reference })) c.grown-larger.ensures.is
    ∙ sym (more_in_16 c.args.cell.now c.args.byte c.args.reference c.in-2.is)

pub returns-in-2-clause-larger : goal.returns-in-2-clause-larger
returns-in-2-clause-larger c is none = larger_made c.args.cell.now c.args.byte c.args.reference c.set.new.self c.requires.kind.1 c.ranges.byte.fits c.requires.reference is none (returns-in-2-clause-is c)

pub returns-in-3-clause-is : goal.returns-in-3-clause-is
returns-in-3-clause-is c =
    c.take_in.ensures ∙ ap (λ (g : Cell). taken_in g 16 (entry_of c.args.byte c.args.reference)) c.grown-larger.ensures.is
    ∙ sym (more_in_48 c.args.cell.now c.args.byte c.args.reference c.in-3.is)

pub returns-in-3-clause-larger : goal.returns-in-3-clause-larger
returns-in-3-clause-larger c is none = larger_made c.args.cell.now c.args.byte c.args.reference c.take_in.new.cell c.requires.kind.1 c.ranges.byte.fits c.requires.reference is none (returns-in-3-clause-is c)

pub returns-in_default-clause-is : goal.returns-in_default-clause-is
returns-in_default-clause-is c =
    let two : c.args.cell.now.kind ≢ 2 = search rules in
    let three : c.args.cell.now.kind ≢ 3 = search rules in
    c.set-in_default.ensures ∙ ap (λ (g : Cell). stored g (record { offset = 8 + c.args.byte; value = c.args.reference })) c.grown-larger.ensures.is
    ∙ sym (more_in_256 c.args.cell.now c.args.byte c.args.reference two three)

pub returns-in_default-clause-larger : goal.returns-in_default-clause-larger
returns-in_default-clause-larger c is none =
    larger_made c.args.cell.now c.args.byte c.args.reference c.set-in_default.new.self c.requires.kind.1 c.ranges.byte.fits c.requires.reference is none (returns-in_default-clause-is c)
