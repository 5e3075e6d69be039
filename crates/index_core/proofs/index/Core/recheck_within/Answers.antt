use Rattle.std.proofs.Common.{◌<◌, refl, sym, ◌∙◌, ap, subst, arith}
use Rattle.std.specs.Prelude.{Some, is_some}
use Rattle.std.proofs.lemmas.Bool.{false≢true}
use Rattle.call_stages.specs.declared.once.Once.{Once}
use Rattle.node_ops.specs.declared.recheck.Same.{Same}
use Rattle.index_core.specs.Indexes.{Index}
use Rattle.index_core.specs.Lone.{IsStill}
use Rattle.index_core.specs.Rechecks.{StartsRecheck}
use Rattle.index_core.proofs.LoneRechecks.{lone_recheck_begins, lone_recheck_cut, lone_recheck_ends, lone_recheck_finds, lone_recheck_flies, lone_recheck_goes, lone_recheck_left, lone_recheck_same}
use Rattle.index_core.proofs.index.Core.recheck_within.Goals as goal

pub tries-init : goal.tries-init
tries-init g c = (2, lone_recheck_begins c.args.self.now c.begin_recheck.new.self c.args.caller c.args.node c.args.version c.requires.still.rechecks c.begin_recheck.ensures.started c.begin_recheck.ensures.index, refl, λ is. refl)

pub returns-then-budget-eq0-clause-ends : goal.returns-then-budget-eq0-clause-ends
returns-then-budget-eq0-clause-ends g c = let i = c.tries.invariant in lone_recheck_cut c.args.self.now c.tries.self c.args.caller c.args.node c.args.version i.0 i.1

pub returns-then-budget-eq0-clause-in_time : goal.returns-then-budget-eq0-clause-in_time
returns-then-budget-eq0-clause-in_time g c = λ is.
    let i = c.tries.invariant in
    let some = lone_recheck_left c.args.self.now c.tries.self c.args.caller c.args.node c.args.version i.0 i.1 in
    let late = i.3 is in
    omega (arith, some, late, i.2, c.if-budget-eq0.true)

pub step_recheck-requires : goal.step_recheck-requires
step_recheck-requires g c = let i = c.tries.invariant in record { checks = lone_recheck_flies c.args.self.now c.tries.self c.args.caller c.args.node c.args.version i.0 i.1 }

pub returns-then-budget-eq0-clause-index : goal.returns-then-budget-eq0-clause-index
returns-then-budget-eq0-clause-index g c = c.tries.invariant.1.index

pub returns-in-Done-clause-ends : goal.returns-in-Done-clause-ends
returns-in-Done-clause-ends g c =
    let i = c.tries.invariant in
    lone_recheck_same c.args.self.now c.tries.self c.args.caller c.args.node c.args.version i.0 i.1 c.step_recheck.new.self c.step_recheck.result c.step_recheck.ensures.stepped c.in-Done.same
    (c.in-Some.is ∙ ap (λ (a : Once Same). Some a) c.in-Done.is)

pub begin_recheck-requires-in-Some : goal.begin_recheck-requires-in-Some
begin_recheck-requires-in-Some g c =
    let i = c.tries.invariant in
    let same = lone_recheck_ends c.args.self.now c.tries.self c.args.caller c.args.node c.args.version i.0 i.1 c.step_recheck.new.self c.step_recheck.result c.step_recheck.ensures.stepped c.in-Some.answer c.in-Some.is in
    record {
      caller = subst (λ (v : Index). c.args.caller < v.layout.callers) (sym same) c.requires.caller;
      node = subst (λ (v : Index). c.args.node < v.layout.nodes) (sym same) c.requires.node;
      still = subst (IsStill c.args.caller) (sym same) c.requires.still;
    }

pub tries-preserved-in-Some : goal.tries-preserved-in-Some
tries-preserved-in-Some g c =
    let i = c.tries.invariant in
    let same = lone_recheck_ends c.args.self.now c.tries.self c.args.caller c.args.node c.args.version i.0 i.1 c.step_recheck.new.self c.step_recheck.result c.step_recheck.ensures.stepped c.in-Some.answer c.in-Some.is in (
      2,
      lone_recheck_begins c.args.self.now c.begin_recheck-in-Some.new.self c.args.caller c.args.node c.args.version c.requires.still.rechecks
          (subst (λ (v : Index). StartsRecheck v c.args.caller c.args.node c.args.version c.begin_recheck-in-Some.new.self) same c.begin_recheck-in-Some.ensures.started) c.begin_recheck-in-Some.ensures.index,
      omega (arith, c.step_recheck.ensures.tick, i.2, c.if-budget-eq0.false),
      (λ there.
          let found = lone_recheck_finds c.args.self.now c.tries.self c.args.caller c.args.node c.args.version i.0 i.1 c.step_recheck.new.self c.step_recheck.result c.step_recheck.ensures.stepped there c.in-Some.answer c.in-Some.is in
          absurd (c.in_default-answer.not-Done found.0 found.1)),
    )

pub tries-preserved : goal.tries-preserved
tries-preserved g c =
    let i = c.tries.invariant in
    let next = lone_recheck_goes c.args.self.now c.tries.self c.args.caller c.args.node c.args.version i.0 i.1 c.step_recheck.new.self c.step_recheck.result c.step_recheck.ensures.stepped c.step_recheck.ensures.index c.in_default.is in
    let less = next.1 in (
      next.0,
      next.2,
      omega (arith, c.step_recheck.ensures.tick, i.2, c.if-budget-eq0.false),
      (λ there. let late = i.3 there in omega (arith, less, c.step_recheck.ensures.tick, late)),
    )

pub begin_recheck-requires-clause-caller : goal.begin_recheck-requires-clause-caller
begin_recheck-requires-clause-caller g c = c.requires.caller

pub begin_recheck-requires-clause-node : goal.begin_recheck-requires-clause-node
begin_recheck-requires-clause-node g c = c.requires.node

pub begin_recheck-requires-clause-still : goal.begin_recheck-requires-clause-still
begin_recheck-requires-clause-still g c = c.requires.still

pub overflow_sub-budget : goal.overflow_sub-budget
overflow_sub-budget g c = omega (arith, c.if-budget-eq0.false)

pub returns-in-Done-clause-events : goal.returns-in-Done-clause-events
returns-in-Done-clause-events g c = omega (arith, c.step_recheck.ensures.tick, c.tries.invariant.2, c.if-budget-eq0.false)

pub returns-in-Done-clause-in_time : goal.returns-in-Done-clause-in_time
returns-in-Done-clause-in_time g c =
    λ is.
    let i = c.tries.invariant in
    let some = lone_recheck_left c.args.self.now c.tries.self c.args.caller c.args.node c.args.version i.0 i.1 in
    let late = i.3 is in
    omega (arith, some, late, c.step_recheck.ensures.tick)

pub returns-in-Done-clause-index : goal.returns-in-Done-clause-index
returns-in-Done-clause-index g c = c.step_recheck.ensures.index

pub returns-in-Done-clause-spent : goal.returns-in-Done-clause-spent
returns-in-Done-clause-spent g c = λ none. absurd (false≢true (sym (ap is_some none)))

pub returns-then-budget-eq0-clause-events : goal.returns-then-budget-eq0-clause-events
returns-then-budget-eq0-clause-events g c = c.tries.invariant.2

pub returns-then-budget-eq0-clause-spent : goal.returns-then-budget-eq0-clause-spent
returns-then-budget-eq0-clause-spent g c = λ none. omega (arith, c.if-budget-eq0.true)

pub tries-smaller : goal.tries-smaller
tries-smaller g c = omega (arith, c.if-budget-eq0.false)

pub tries-smaller-in-Some : goal.tries-smaller-in-Some
tries-smaller-in-Some g c = omega (arith, c.if-budget-eq0.false)
