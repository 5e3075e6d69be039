use Rattle.std.proofs.Common.{◌≤◌, refl, sym, ◌∙◌, ap, subst, arith}
use Rattle.std.specs.Prelude.{Some, is_some}
use Rattle.std.proofs.lemmas.Bool.{false≢true}
use Rattle.pm_words.specs.declared.layout.Layout.{Layout}
use Rattle.updater.specs.declared.making.TurnReply.{TurnReply}
use Rattle.index_core.specs.Indexes.{Index}
use Rattle.index_core.proofs.Waiting.{turns_again, turns_begin_so, turns_cut, turns_end_so, turns_flies, turns_go_so, turns_late, turns_stay, turns_still}
use Rattle.index_core.proofs.Retrying.{turned_short}
use Rattle.index_core.proofs.index.Core.turn_within.Goals as goal

pub tries-init : goal.tries-init
tries-init g c = (
  turns_begin_so c.args.self.now c.begin_turn.new.self c.args.party c.args.stamp c.args.release c.args.steps.now c.begin_turn.ensures.before c.requires.still c.requires.stamp c.ranges.stamp.fits c.begin_turn.ensures.started c.begin_turn.ensures.index,
  refl,
)

pub returns-then-budget-eq0-clause-turns : goal.returns-then-budget-eq0-clause-turns
returns-then-budget-eq0-clause-turns g c = turns_cut c.args.self.now c.tries.self c.args.party c.args.stamp c.args.release c.args.steps.now c.tries.steps c.tries.invariant.0

pub returns-then-budget-eq0-clause-stays : goal.returns-then-budget-eq0-clause-stays
returns-then-budget-eq0-clause-stays g c = λ none quiet some.
    turns_stay c.args.self.now c.tries.self c.args.party c.args.stamp c.args.release c.args.steps.now c.tries.steps c.tries.invariant.0 quiet (omega (arith, some, c.tries.invariant.1, c.if-budget-eq0.true))

pub returns-then-budget-eq0-clause-in_time : goal.returns-then-budget-eq0-clause-in_time
returns-then-budget-eq0-clause-in_time g c = λ quiet.
    let late = turns_late c.args.self.now c.tries.self c.args.party c.args.stamp c.args.release c.args.steps.now c.tries.steps c.tries.invariant.0 quiet in
    omega (arith, late, c.tries.invariant.1, c.if-budget-eq0.true)

pub step_turn-requires : goal.step_turn-requires
step_turn-requires g c = record {
  turns = turns_flies c.args.self.now c.tries.self c.args.party c.args.stamp c.args.release c.args.steps.now c.tries.steps c.tries.invariant.0;
}

pub tries-preserved-in-None : goal.tries-preserved-in-None
tries-preserved-in-None g c = (
  turns_go_so c.args.self.now c.tries.self c.args.party c.args.stamp c.args.release c.args.steps.now c.tries.steps c.tries.invariant.0 c.step_turn.new.self c.step_turn.result c.step_turn.ensures.stepped c.step_turn.ensures.index
      c.in-None.is c.step_turn.new.steps c.step_turn.ensures.tick,
  omega (arith, c.step_turn.ensures.tick, c.tries.invariant.1, c.if-budget-eq0.false),
)

pub returns-in-Some-Turned-clause-turns : goal.returns-in-Some-Turned-clause-turns
returns-in-Some-Turned-clause-turns g c =
    (turns_end_so c.args.self.now c.tries.self c.args.party c.args.stamp c.args.release c.args.steps.now c.tries.steps c.tries.invariant.0 c.step_turn.new.self c.step_turn.result c.step_turn.ensures.stepped c.step_turn.ensures.index
    c.in-Some-Turned.turned (c.in-Some-Turned.is ∙ ap (λ (r : TurnReply). Some r) c.in-Some-Turned.field-0-is)).0

pub returns-in-Some-Turned-clause-quiet : goal.returns-in-Some-Turned-clause-quiet
returns-in-Some-Turned-clause-quiet g c =
    let ended = turns_end_so c.args.self.now c.tries.self c.args.party c.args.stamp c.args.release c.args.steps.now c.tries.steps c.tries.invariant.0 c.step_turn.new.self c.step_turn.result c.step_turn.ensures.stepped c.step_turn.ensures.index
    c.in-Some-Turned.turned (c.in-Some-Turned.is ∙ ap (λ (r : TurnReply). Some r) c.in-Some-Turned.field-0-is) in
    (ended.1, ended.2)

pub returns-in-Some-Turned-clause-short : goal.returns-in-Some-Turned-clause-short
returns-in-Some-Turned-clause-short g c =
    let ended = turns_end_so c.args.self.now c.tries.self c.args.party c.args.stamp c.args.release c.args.steps.now c.tries.steps c.tries.invariant.0 c.step_turn.new.self c.step_turn.result c.step_turn.ensures.stepped c.step_turn.ensures.index
    c.in-Some-Turned.turned (c.in-Some-Turned.is ∙ ap (λ (r : TurnReply). Some r) c.in-Some-Turned.field-0-is) in
    turned_short c.args.self.now c.step_turn.new.self c.args.stamp c.args.release c.in-Some-Turned.turned ended.0 c.step_turn.ensures.index ended.2

pub returns-in-Some-Turned-clause-in_time : goal.returns-in-Some-Turned-clause-in_time
returns-in-Some-Turned-clause-in_time g c = λ quiet.
    let late = turns_late c.args.self.now c.tries.self c.args.party c.args.stamp c.args.release c.args.steps.now c.tries.steps c.tries.invariant.0 quiet in
    omega (arith, late, c.step_turn.ensures.tick)

pub begin_turn-requires-in-Some-Held-clause-still : goal.begin_turn-requires-in-Some-Held-clause-still
begin_turn-requires-in-Some-Held-clause-still g c =
    turns_still c.args.self.now c.tries.self c.args.party c.args.stamp c.args.release c.args.steps.now c.tries.steps c.tries.invariant.0 c.step_turn.new.self c.step_turn.result c.step_turn.ensures.stepped c.step_turn.ensures.index
    c.in-Some-Held.field-0-0 (c.in-Some-Held.is ∙ ap (λ (r : TurnReply). Some r) c.in-Some-Held.field-0-is)

pub tries-preserved : goal.tries-preserved
tries-preserved g c = (
  turns_again c.args.self.now c.tries.self c.args.party c.args.stamp c.args.release c.args.steps.now c.tries.steps c.tries.invariant.0 c.step_turn.new.self c.step_turn.result c.step_turn.ensures.stepped c.step_turn.ensures.index
      c.in-Some-Held.field-0-0 (c.in-Some-Held.is ∙ ap (λ (r : TurnReply). Some r) c.in-Some-Held.field-0-is) c.begin_turn-in-Some-Held.new.self c.step_turn.new.steps c.begin_turn-in-Some-Held.ensures.started,
  omega (arith, c.step_turn.ensures.tick, c.tries.invariant.1, c.if-budget-eq0.false),
)

pub begin_turn-requires-clause-party : goal.begin_turn-requires-clause-party
begin_turn-requires-clause-party g c = c.requires.party

pub begin_turn-requires-clause-stamp : goal.begin_turn-requires-clause-stamp
begin_turn-requires-clause-stamp g c = c.requires.stamp

pub begin_turn-requires-clause-still : goal.begin_turn-requires-clause-still
begin_turn-requires-clause-still g c = c.requires.still

pub begin_turn-requires-in-Some-Held-clause-stamp : goal.begin_turn-requires-in-Some-Held-clause-stamp
begin_turn-requires-in-Some-Held-clause-stamp g c = c.requires.stamp

pub begin_turn-requires-in-Some-Held-clause-party : goal.begin_turn-requires-in-Some-Held-clause-party
begin_turn-requires-in-Some-Held-clause-party g c =
    let cut = turns_cut c.args.self.now c.tries.self c.args.party c.args.stamp c.args.release c.args.steps.now c.tries.steps c.tries.invariant.0 in
    subst (λ (l : Layout). c.args.party ≤ l.callers) (sym (ap (λ (v : Index). v.layout) c.step_turn.ensures.stepped.is ∙ cut.layout)) c.requires.party

pub overflow_sub-budget : goal.overflow_sub-budget
overflow_sub-budget g c = omega (arith, c.if-budget-eq0.false)

pub returns-in-Some-Turned-clause-before : goal.returns-in-Some-Turned-clause-before
returns-in-Some-Turned-clause-before g c = c.begin_turn.ensures.before

pub returns-in-Some-Turned-clause-events : goal.returns-in-Some-Turned-clause-events
returns-in-Some-Turned-clause-events g c = omega (arith, c.step_turn.ensures.tick, c.tries.invariant.1, c.if-budget-eq0.false)

pub returns-in-Some-Turned-clause-index : goal.returns-in-Some-Turned-clause-index
returns-in-Some-Turned-clause-index g c = c.step_turn.ensures.index

pub returns-in-Some-Turned-clause-spent : goal.returns-in-Some-Turned-clause-spent
returns-in-Some-Turned-clause-spent g c = λ none. absurd (false≢true (sym (ap is_some none)))

pub returns-in-Some-Turned-clause-stays : goal.returns-in-Some-Turned-clause-stays
returns-in-Some-Turned-clause-stays g c = λ none. absurd (false≢true (sym (ap is_some none)))

pub returns-then-budget-eq0-clause-before : goal.returns-then-budget-eq0-clause-before
returns-then-budget-eq0-clause-before g c = c.begin_turn.ensures.before

pub returns-then-budget-eq0-clause-events : goal.returns-then-budget-eq0-clause-events
returns-then-budget-eq0-clause-events g c = c.tries.invariant.1

pub returns-then-budget-eq0-clause-quiet : goal.returns-then-budget-eq0-clause-quiet
returns-then-budget-eq0-clause-quiet g c = tt

pub returns-then-budget-eq0-clause-short : goal.returns-then-budget-eq0-clause-short
returns-then-budget-eq0-clause-short g c = tt

pub returns-then-budget-eq0-clause-spent : goal.returns-then-budget-eq0-clause-spent
returns-then-budget-eq0-clause-spent g c = λ none. omega (arith, c.if-budget-eq0.true)

pub tries-smaller : goal.tries-smaller
tries-smaller g c = omega (arith, c.if-budget-eq0.false)

pub tries-smaller-in-None : goal.tries-smaller-in-None
tries-smaller-in-None g c = omega (arith, c.if-budget-eq0.false)
