use Rattle.std.proofs.Common.{◌+◌, ◌<◌, ◌≤◌, length, sym, ap, subst, arith}
use Rattle.pm_words.specs.declared.layout.Layout.{Layout}
use Rattle.index_core.specs.CoreCalls.{most_writes}
use Rattle.index_core.specs.Indexes.{Index}
use Rattle.index_core.proofs.index.Core.try_behind_turn.Goals as goal

pub turn_alone-requires-clause-party : goal.turn_alone-requires-clause-party
turn_alone-requires-clause-party g c =
    let same = ap (λ (l : Layout). l.callers) c.layout.ensures.layout in
    omega (arith, c.callers-updater.ensures, same)

pub turn_alone-requires-clause-stamp : goal.turn_alone-requires-clause-stamp
turn_alone-requires-clause-stamp g c = omega arith

pub turn_alone-requires-clause-quiet : goal.turn_alone-requires-clause-quiet
turn_alone-requires-clause-quiet g c = c.requires.quiet

pub try_alone-requires-clause-caller : goal.try_alone-requires-clause-caller
try_alone-requires-clause-caller g c =
    subst (λ (v : Index). c.args.caller < v.layout.callers) (sym c.turn_alone.ensures.turns.is) c.requires.caller

pub try_alone-requires-clause-begins : goal.try_alone-requires-clause-begins
try_alone-requires-clause-begins g c = c.requires.begins

pub try_alone-requires-clause-spare : goal.try_alone-requires-clause-spare
try_alone-requires-clause-spare g c =
    subst (λ (v : Index). most_writes c.args.call.now ≤ v.spare) (sym c.turn_alone.ensures.turns.is) c.requires.spare

pub try_alone-requires-clause-quiet : goal.try_alone-requires-clause-quiet
try_alone-requires-clause-quiet g c = c.turn_alone.ensures.quiet

pub returns-clause-tries : goal.returns-clause-tries
returns-clause-tries g c = record {
  between = c.turn_alone.new.self;
  turned = c.turn_alone.result;
  turn = c.turn_alone.ensures.turns;
  quiet = c.turn_alone.ensures.quiet;
  index = c.turn_alone.ensures.index;
  tries = c.try_alone.ensures.tries;
  each_lock = c.try_alone.ensures.each_lock;
  locks = c.try_alone.ensures.locks;
}

pub returns-clause-quiet : goal.returns-clause-quiet
returns-clause-quiet g c = c.try_alone.ensures.quiet

pub returns-clause-spare : goal.returns-clause-spare
returns-clause-spare g c =
    let new = c.try_alone.new.self in
    subst (λ (v : Index). v.spare + length v.history ≤ new.spare + length new.history) c.turn_alone.ensures.turns.is
    c.try_alone.ensures.spare

pub returns-clause-acts : goal.returns-clause-acts
returns-clause-acts g c =
    let turn = c.turn_alone.ensures.acts in
    let try = c.try_alone.ensures.acts in
    omega (arith, turn, try)

pub returns-clause-index : goal.returns-clause-index
returns-clause-index g c = c.try_alone.ensures.index
