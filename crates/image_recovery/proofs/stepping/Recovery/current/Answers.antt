use Rattle.std.proofs.Common.{◌<◌, ◌≤◌, ◌+◌, Option, drop, map, length, subst, arith}
use Rattle.image_recovery.specs.declared.making.Making.{Making}
use Rattle.image_recovery.specs.Recovered.{IsUnderWay}
use Rattle.image_recovery.specs.Recoveries.{IsRecoveringAt, moves_left}
use Rattle.image_recovery.specs.Plans.{move_of}
use Rattle.image_recovery.proofs.RecoveringLemmas.{begins_move, next_is, next_begins, none_left, ends_plan}
use Rattle.image_recovery.proofs.stepping.Recovery.current.Goals as goal

pub of-requires : goal.of-requires
of-requires c =
    let recovery = c.args.self.now in
    let ok = recovery.moves.ok in
    let within : recovery.begun < length recovery.moves.items = omega arith in
    let rest = map move_of (drop (recovery.begun + 1) recovery.moves.items) in
    (begins_move c.requires.image c.requires.recoverable c.args.memory.now c.index-next.result.now rest
    (next_is c.requires.image c.args.memory.now recovery c.index-next.result.now c.in_default.is within c.index-next.ensures c.requires.recovering)).0

pub returns-clause-at : goal.returns-clause-at
returns-clause-at c = λ image recoverable recovering.
    let recovery = c.args.self.now in
    let ok = recovery.moves.ok in
    let within : recovery.begun < length recovery.moves.items = omega arith in
    let rest = map move_of (drop (recovery.begun + 1) recovery.moves.items) in
    next_begins image c.args.memory.now c.index-next.result.now rest c.of.result recoverable
    (next_is image c.args.memory.now recovery c.index-next.result.now c.in_default.is within c.index-next.ensures recovering) c.of.ensures.new c.of.ensures.sound

pub returns-then-len-self-clause-at : goal.returns-then-len-self-clause-at
returns-then-len-self-clause-at c = λ image recoverable recovering.
    let recovery = c.args.self.now in
    let ok = recovery.moves.ok in
    let past : length recovery.moves.items ≤ recovery.begun = omega arith in (
      ends_plan image recoverable c.args.memory.now (subst (IsUnderWay image c.args.memory.now) (none_left recovery.moves.items recovery.begun past)
          (subst (λ (x : Option Making). IsRecoveringAt image c.args.memory.now (moves_left recovery) x) c.in_default.is recovering)),
      recovering,
    )
