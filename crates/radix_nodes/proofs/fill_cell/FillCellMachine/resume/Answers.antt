use Rattle.std.proofs.Common.{subst, ap, ◌∙◌}
use Rattle.pm_words.specs.Turns.{GoesBelow, turn_of}
use Rattle.radix_nodes.specs.Fills.{fill_cell_left}
use Rattle.radix_nodes.proofs.FillEnds.{cell_fewer}
use Rattle.radix_nodes.proofs.fill_cell.FillCellMachine.resume.Goals as goal

pub returns-in-None-clause-fewer : goal.returns-in-None-clause-fewer
returns-in-None-clause-fewer c =
    subst (GoesBelow {A = Unit {0}} fill_cell_left (fill_cell_left c.args.self)) (c.advance.ensures ∙ ap (turn_of c.advance.new.self) c.in-None.is) (cell_fewer c.args.self c.args.got c.requires)
