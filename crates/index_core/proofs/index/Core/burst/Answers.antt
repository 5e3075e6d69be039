use Rattle.std.proofs.Common.{ℕ, ◌+◌, ◌-◌, slice_set, refl, subst, arith}
use Rattle.index_core.specs.Bursts.{BurstsTo}
use Rattle.index_core.specs.Cores.{index_of}
use Rattle.index_core.specs.Indexes.{Index}
use Rattle.index_core.specs.PartyStates.{owed}
use Rattle.index_core.proofs.Bursting.{one_turn}
use Rattle.index_core.proofs.CoreBursts.{core_flies, core_left, core_may, core_runs, core_within}
use Rattle.index_core.proofs.index.Core.burst.Goals as goal

pub index-requires : goal.index-requires
index-requires g c = omega (arith, core_within c.self.inside c.args.self.now c.args.party c.requires.flies c.self.view_is, c.self.inside.states.ok.0)

pub running-requires : goal.running-requires
running-requires g c =
    core_flies c.self.inside c.args.self.now c.args.party c.requires.flies c.self.view_is
    c.index.result.now c.index.ensures

pub is_counted_next-requires : goal.is_counted_next-requires
is_counted_next-requires g c =
    core_runs c.self.inside c.args.self.now c.args.party c.requires.flies c.self.view_is c.self.invariant
    c.index.result.now c.running.result.now c.index.ensures c.running.ensures

pub returns-then-is_counted_next-clause-bursts : goal.returns-then-is_counted_next-clause-bursts
returns-then-is_counted_next-clause-bursts g c =
    let e = c.step_call.ensures in one_turn e.turned e.index e.spare e.tick

pub index_mut-requires : goal.index_mut-requires
index_mut-requires g c = omega (arith, core_within c.self.inside c.args.self.now c.args.party c.requires.flies c.self.view_is, c.self.inside.states.ok.0)

pub burst-requires : goal.burst-requires
burst-requires g c =
    core_may c.self.inside c.args.self.now c.args.party c.requires.flies c.self.view_is c.self.invariant
    c.index.result.now c.index_mut.result.now c.running.result.now c.index.ensures c.running.ensures
    (c.if-is_counted_next.ensures.0 refl) c.index_mut.ensures.value

pub invariant_of-self : goal.invariant_of-self
invariant_of-self g c =
    let left = core_left c.self.inside c.args.self.now c.args.party c.requires.flies c.self.view_is c.self.invariant
    c.index_mut.result.now c.burst.new.self c.burst.new.memory c.burst.result c.args.steps.now c.burst.new.steps
    c.index_mut.ensures.value c.burst.ensures in
    let owes = left.owes in
    let room = c.self.invariant.1 in
    (left.kept 0, omega arith)

pub returns : goal.returns
returns g c =
    let left = core_left c.self.inside c.args.self.now c.args.party c.requires.flies c.self.view_is c.self.invariant
    c.index_mut.result.now c.burst.new.self c.burst.new.memory c.burst.result c.args.steps.now c.burst.new.steps
    c.index_mut.ensures.value c.burst.ensures in
    let owes = left.owes in
    let room = c.self.invariant.1 in
    let states = slice_set c.self.inside.states.items c.args.party c.burst.new.self in
    let n : ℕ = c.self.inside.history.cap - (c.self.inside.history.len + owed states) in
    let new : Index = record (index_of c.self.inside) {
      layout = c.burst.new.memory.layout;
      words = c.burst.new.memory.words;
      states = states;
      spare = n;
    } in
    record {
      bursts = subst (λ (v : Index). BurstsTo v c.args.party new c.burst.result c.args.steps.now c.burst.new.steps)
          c.self.view_is (left.bursts n (omega (arith, c.self.inside.history.ok.0)));
      index = left.kept n;
    }
