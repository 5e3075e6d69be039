use Rattle.std.proofs.Common.{◌<◌, ◌≤◌, length, refl, sym, subst, arith}
use Rattle.index_core.specs.CoreCalls.{most_writes}
use Rattle.index_core.specs.Indexes.{Index}
use Rattle.index_core.proofs.Lists.{there_is}
use Rattle.index_core.proofs.Quiet.{quiet_is_still}
use Rattle.index_core.proofs.Withins.{behind_turn, turn_cuts_call}
use Rattle.index_core.proofs.index.Core.try_behind_turn_within.Goals as goal

pub returns-in_default-clause-tries : goal.returns-in_default-clause-tries
returns-in_default-clause-tries g c = turn_cuts_call c.args.self.now c.turn_within.new.self c.args.caller c.args.call.now c.requires.still.calls c.in_default.ensures.turns

pub returns-clause-tries : goal.returns-clause-tries
returns-clause-tries g c =
    let is = c.turn_within.ensures.before in
    let many = is.parties in
    let party : c.args.caller < length c.args.self.now.states = let low = c.requires.caller in omega arith in
    let there = there_is c.args.self.now.states c.args.caller party in
    behind_turn c.args.self.now c.turn_within.new.self c.try_within.new.self c.args.caller c.args.call.now c.in-Some.field-0 c.try_within.result is c.in-Some.ensures.quiet.0 c.requires.caller c.in-Some.ensures.turns c.in-Some.ensures.quiet.1 c.turn_within.ensures.index c.try_within.ensures.tries there.0 there.1

pub turn_within-requires-clause-party : goal.turn_within-requires-clause-party
turn_within-requires-clause-party g c = omega (arith, c.requires.caller)

pub turn_within-requires-clause-still : goal.turn_within-requires-clause-still
turn_within-requires-clause-still g c = c.requires.still

pub try_within-requires-clause-begins : goal.try_within-requires-clause-begins
try_within-requires-clause-begins g c = c.requires.begins

pub try_within-requires-clause-caller : goal.try_within-requires-clause-caller
try_within-requires-clause-caller g c = subst (λ (v : Index). c.args.caller < v.layout.callers) (sym c.in-Some.ensures.turns.is) c.requires.caller

pub try_within-requires-clause-spare : goal.try_within-requires-clause-spare
try_within-requires-clause-spare g c = subst (λ (v : Index). most_writes c.args.call.now ≤ v.spare) (sym c.in-Some.ensures.turns.is) c.requires.spare

pub try_within-requires-clause-still : goal.try_within-requires-clause-still
try_within-requires-clause-still g c = quiet_is_still c.args.caller c.turn_within.new.self c.in-Some.ensures.quiet.1

pub returns-clause-before : goal.returns-clause-before
returns-clause-before g c = c.turn_within.ensures.before

pub returns-clause-events : goal.returns-clause-events
returns-clause-events g c = omega (arith, c.turn_within.ensures.events, c.try_within.ensures.events)

pub returns-clause-index : goal.returns-clause-index
returns-clause-index g c = c.try_within.ensures.index

pub returns-clause-spent : goal.returns-clause-spent
returns-clause-spent g c = c.try_within.ensures.spent

pub returns-in_default-clause-before : goal.returns-in_default-clause-before
returns-in_default-clause-before g c = c.turn_within.ensures.before

pub returns-in_default-clause-events : goal.returns-in_default-clause-events
returns-in_default-clause-events g c = c.turn_within.ensures.events

pub returns-in_default-clause-index : goal.returns-in_default-clause-index
returns-in_default-clause-index g c = c.turn_within.ensures.index

pub returns-in_default-clause-spent : goal.returns-in_default-clause-spent
returns-in_default-clause-spent g c = λ _. c.in_default.ensures.spent refl
