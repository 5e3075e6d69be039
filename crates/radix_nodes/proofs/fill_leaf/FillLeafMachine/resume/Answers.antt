use Rattle.std.proofs.Common.{subst, ap, ◌∙◌}
use Rattle.pm_words.specs.Turns.{GoesBelow, turn_of}
use Rattle.radix_nodes.specs.Fills.{fill_leaf_left}
use Rattle.radix_nodes.proofs.FillEnds.{leaf_fewer}
use Rattle.radix_nodes.proofs.fill_leaf.FillLeafMachine.resume.Goals as goal

pub returns-in-None-clause-fewer : goal.returns-in-None-clause-fewer
returns-in-None-clause-fewer c =
    subst (GoesBelow {A = Unit {0}} fill_leaf_left (fill_leaf_left c.args.self)) (c.advance.ensures ∙ ap (turn_of c.advance.new.self) c.in-None.is) (leaf_fewer c.args.self c.args.got c.requires)
