use Rattle.std.proofs.Common.{◌≡◌, ℕ, ◌+◌, arith, refl, ap, sym, ◌∙◌, subst}
use Rattle.std.specs.Prelude.{◌-◌, slice_set}
use Rattle.call_stages.specs.declared.view.View.{View}
use Rattle.node_ops.specs.Asked.{IsOf}
use Rattle.index_core.specs.CoreCalls.{op_of, machine_of}
use Rattle.index_core.specs.PartyStates.{owed}
use Rattle.index_core.specs.Cores.{index_with}
use Rattle.index_core.specs.Indexes.{Index, IsIndex, view_of, started_index}
use Rattle.index_core.proofs.PartyPlaces.{IsIdle, caller_within, reads_idle}
use Rattle.index_core.proofs.Reading.{Begins, begins}
use Rattle.index_core.proofs.index.Core.start_name.Goals as goal

pub returns-in_err-may_begin-clause-in_flight : goal.returns-in_err-may_begin-clause-in_flight
returns-in_err-may_begin-clause-in_flight c = (λ _. c.in_err-may_begin.ensures.in_flight.0 refl, λ _. c.from_residual.ensures.0)

pub index_mut-requires : goal.index_mut-requires
index_mut-requires c = omega (arith, caller_within c.self.inside c.args.self.now c.args.party c.self.view_is c.self.invariant.0 (omega (arith, c.requires.party)), c.self.inside.states.ok.0)

-- what it has read of the party
idle : (c : goal.After-self-1) → IsIdle c.self.inside c.args.self.now c.args.party c.index_mut.result.now
idle c = reads_idle c.self.inside c.args.self.now c.args.party c.self.view_is c.index_mut.result.now c.self.invariant.0 (omega (arith, c.requires.party)) c.index_mut.ensures.value (λ busy. let no = c.in_ok-may_begin.ensures.in_flight.1 busy in cc)

-- the machine that it makes
made_at : (c : goal.After-self-1) → machine_of c.seen_by-view.result c.args.call ≡ machine_of (view_of c.args.self.now c.args.party) c.args.call
made_at c = ap (λ (v : View). machine_of v c.args.call) c.seen_by-view.ensures.sees

-- what it has in hand once it has begun the call
begun_at : (c : goal.After-self-1) → Begins (index_with c.self.inside 0) c.args.party c.index_mut.result.now c.begins.new.self c.args.call
begun_at c =
    let read = idle c in
    begins (index_with c.self.inside 0) c.args.party c.index_mut.result.now c.begins.new.self c.args.call _ c.len-since.result c.self.invariant.0 read.there read.idle.0
    (made_at c ∙ sym (ap (λ (v : Index). machine_of (view_of v c.args.party) c.args.call) c.self.view_is)) c.begins.ensures.sound (c.len-since.ensures ∙ c.self.inside.history.ok.0) c.begins.ensures.state

-- what room it leaves
abbrev spare_at : goal.After-self-1 → ℕ
spare_at c = c.self.inside.history.cap - (c.self.inside.history.len + owed (slice_set c.self.inside.states.items c.args.party c.begins.new.self))

pub invariant_of-self : goal.invariant_of-self
invariant_of-self c =
    let begun = begun_at c in
    let was = ap (λ (v : Index). v.spare) c.self.view_is in
    (subst IsIndex (sym (begun.same 0)) (begun.kept 0), omega (arith, begun.owing, was, c.self.invariant.1, c.requires.spare))

pub returns-clause-started : goal.returns-clause-started
returns-clause-started c = record {
  state = c.index_mut.result.now;
  there = (idle c).before;
  is = (begun_at c).same (spare_at c) ∙ ap (λ (v : Index). started_index v c.args.party c.index_mut.result.now c.args.call (spare_at c)) c.self.view_is;
  of = subst (IsOf (op_of c.args.call)) (made_at c) c.begins.ensures.op;
}

pub returns-clause-spare : goal.returns-clause-spare
returns-clause-spare c =
    let was = ap (λ (v : Index). v.spare) c.self.view_is in
    omega (arith, (begun_at c).owing, was, c.self.invariant.1, c.requires.spare)

pub returns-clause-index : goal.returns-clause-index
returns-clause-index c = let begun = begun_at c in subst IsIndex (sym (begun.same _)) (begun.kept _)
