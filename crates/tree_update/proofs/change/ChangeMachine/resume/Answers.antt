use Rattle.std.proofs.Common.{subst, ap, ◌∙◌}
use Rattle.pm_words.specs.Turns.{GoesBelow, turn_of}
use Rattle.tree_update.specs.declared.change.Ended.{Ended}
use Rattle.tree_update.specs.Changes.{change_left}
use Rattle.tree_update.proofs.ChangeStays.{change_fewer}
use Rattle.tree_update.proofs.change.ChangeMachine.resume.Goals as goal

pub returns-in-None-clause-fewer : goal.returns-in-None-clause-fewer
returns-in-None-clause-fewer c =
    subst (GoesBelow {A = Ended} change_left (change_left c.args.self)) (c.advance.ensures ∙ ap (turn_of c.advance.new.self) c.in-None.is) (change_fewer c.args.self c.args.got c.requires)
