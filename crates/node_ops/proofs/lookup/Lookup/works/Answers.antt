use Rattle.std.proofs.Common.{refl}
use Rattle.std.proofs.lemmas.Bool.{true≢false}
use Rattle.node_ops.proofs.Locking.{lock_looks, lock_then, read_looks, read_then, worn_looks}
use Rattle.node_ops.proofs.lookup.Lookup.works.Goals as goal

pub finds-requires : goal.finds-requires
finds-requires g c =
    read_then c.args.self.now.call c.requires.may.0 c.requires.may.1 c.in_default.is c.args.memory.now c.requires.may.2
    c.args.steps.now c.act-clock.ensures.row c.act-clock.ensures.got c.act-clock.ensures.tick

pub returns-in_default : goal.returns-in_default
returns-in_default g c target here may =
    read_looks c.args.self.now.call target here c.in_default.is c.args.memory.now may c.args.steps.now
    c.act-clock.ensures.row c.act-clock.ensures.got c.act-clock.ensures.tick c.finds.ensures

pub returns-in_default-locked_of : goal.returns-in_default-locked_of
returns-in_default-locked_of g c target here may =
    worn_looks c.args.self.now.call target here c.args.memory.now c.args.steps.now c.in-Some.is
    (c.in_default-locked_of.ensures.worn.0 refl)

pub locks-requires-clause-may : goal.locks-requires-clause-may
locks-requires-clause-may g c =
    lock_then c.args.self.now.call c.requires.may.0 c.requires.may.1 c.in-Some.is
    (λ worn. true≢false (c.in-Some-locked_of.ensures.worn.1 worn)) c.in-Some-locked_of.ensures.locked c.requires.may.2

pub returns : goal.returns
returns g c target here may =
    lock_looks c.args.self.now.call target here c.in-Some.is
    (λ worn. true≢false (c.in-Some-locked_of.ensures.worn.1 worn)) c.in-Some-locked_of.ensures.locked may
    c.locks.ensures
