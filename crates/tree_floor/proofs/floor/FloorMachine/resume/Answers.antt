use Rattle.std.proofs.Common.{ℕ, subst, ap, ◌∙◌}
use Rattle.pm_words.specs.Turns.{GoesBelow}
use Rattle.tree_floor.specs.Floors.{floor_left}
use Rattle.pm_words.specs.Turns.{turn_of}
use Rattle.tree_floor.proofs.FloorStays.{floor_fewer}
use Rattle.tree_floor.proofs.floor.FloorMachine.resume.Goals as goal

pub returns-in-None-clause-fewer : goal.returns-in-None-clause-fewer
returns-in-None-clause-fewer c =
    subst (GoesBelow {A = ℕ} floor_left (floor_left c.args.self)) (c.advance.ensures ∙ ap (turn_of c.advance.new.self) c.in-None.is) (floor_fewer c.args.self c.args.got c.requires)
