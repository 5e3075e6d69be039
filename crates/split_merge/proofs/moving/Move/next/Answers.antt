use Rattle.std.proofs.Common.{◌≤◌, sym, subst, arith}
use Rattle.pm_words.specs.Turns.{GoesBelow}
use Rattle.split_merge.specs.Moves.{IsMoveAt, filled_end, move_at_left, move_at_turned, move_left}
use Rattle.split_merge.proofs.Measures.{fresh_fewer, switch_fewer}
use Rattle.split_merge.proofs.moving.Move.next.Goals as goal

pub returns-in-FenceFresh-clause-fewer : goal.returns-in-FenceFresh-clause-fewer
returns-in-FenceFresh-clause-fewer c =
    let move = c.args.self.now in
    let here = subst (IsMoveAt move.plan) c.in-FenceFresh.is c.requires.0.here in
    let most : filled_end move.plan ≤ 272 = (let high = c.requires.0.plan.layout.slots.1 in omega arith) in
    subst (λ at. GoesBelow {A = Unit {0}} move_left (move_at_left move.plan at) (move_at_turned move at c.args.got)) (sym c.in-FenceFresh.is)
    (fresh_fewer move c.in-FenceFresh.first c.in-FenceFresh.fence c.args.got here.0 most here.2)

pub returns-in-FenceSwitch-clause-fewer : goal.returns-in-FenceSwitch-clause-fewer
returns-in-FenceSwitch-clause-fewer c =
    let move = c.args.self.now in
    let here = subst (IsMoveAt move.plan) c.in-FenceSwitch.is c.requires.0.here in
    subst (λ at. GoesBelow {A = Unit {0}} move_left (move_at_left move.plan at) (move_at_turned move at c.args.got)) (sym c.in-FenceSwitch.is)
    (switch_fewer move c.in-FenceSwitch.fence c.args.got here)
