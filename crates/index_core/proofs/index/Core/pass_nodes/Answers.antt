use Rattle.std.proofs.Common.{◌≡◌, ℕ, ◌+◌, ◌-◌, slice_set, ap, arith}
use Rattle.std.specs.Prelude.{Some}
use Rattle.index_core.specs.PartyStates.{owed}
use Rattle.index_core.proofs.CorePasses.{passed_is, passed_owes, some_turn, turn_may_pass, turn_passes, turn_within}
use Rattle.index_core.proofs.index.Core.pass_nodes.Goals as goal

pub index_mut-requires : goal.index_mut-requires
index_mut-requires g c = omega (arith, turn_within c.self.inside c.args.self.now c.args.party c.requires.turns c.self.view_is, c.self.inside.states.ok.0)

pub unreachable-requires : goal.unreachable-requires
unreachable-requires g c =
    let some = some_turn c.self.inside c.args.self.now c.args.party c.requires.turns c.self.view_is
    c.index_mut.result.now c.index_mut.ensures.value in
    c.in_default.not-Some c.requires.turns.machine some

pub passes-requires : goal.passes-requires
passes-requires g c =
    turn_may_pass c.self.inside c.args.self.now c.args.party c.requires.turns c.self.view_is c.self.invariant
    c.index_mut.result.now c.in-Some.making c.index_mut.ensures.value c.in-Some.is

-- the parties owe what they owed
owes_same : (g : _) (c : goal.After-self-2-1 g)
    → owed (slice_set c.self.inside.states.items c.args.party
    (record c.index_mut.result.now { turn = Some c.passes.new.self }))
    ≡ owed c.self.inside.states.items
owes_same g c =
    passed_owes c.self.inside c.args.self.now c.args.party c.requires.turns c.self.view_is c.self.invariant
    c.index_mut.result.now c.in-Some.making c.index_mut.ensures.value c.in-Some.is c.passes.new.self

pub invariant_of-self : goal.invariant_of-self
invariant_of-self g c =
    let same = owes_same g c in
    let room = c.self.invariant.1 in (
      passed_is c.self.inside c.args.self.now c.args.party c.requires.turns c.self.view_is c.self.invariant
          c.index_mut.result.now c.in-Some.making c.index_mut.ensures.value c.in-Some.is c.passes.new.memory
          c.passes.new.self c.args.steps.now c.passes.new.steps c.passes.ensures 0,
      omega (arith, same, room),
    )

pub returns-clause-passes : goal.returns-clause-passes
returns-clause-passes g c =
    turn_passes c.self.inside c.args.self.now c.args.party c.requires.turns c.self.view_is c.self.invariant
    c.index_mut.result.now c.in-Some.making c.index_mut.ensures.value c.in-Some.is c.passes.new.memory
    c.passes.new.self c.args.steps.now c.passes.new.steps c.passes.ensures _
    (ap (λ (n : ℕ). c.self.inside.history.cap - (c.self.inside.history.len + n)) (owes_same g c))

pub returns-clause-index : goal.returns-clause-index
returns-clause-index g c =
    passed_is c.self.inside c.args.self.now c.args.party c.requires.turns c.self.view_is c.self.invariant
    c.index_mut.result.now c.in-Some.making c.index_mut.ensures.value c.in-Some.is c.passes.new.memory
    c.passes.new.self c.args.steps.now c.passes.new.steps c.passes.ensures _
