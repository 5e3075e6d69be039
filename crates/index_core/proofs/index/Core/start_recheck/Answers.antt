use Rattle.std.proofs.Common.{◌≡◌, ℕ, ◌-◌, ◌+◌, ◌<◌, length, arith, refl, ap, sym, ◌∙◌, subst}
use Rattle.std.specs.Prelude.{Some, slice_set}
use Rattle.std.proofs.lemmas.Result.{IfOk-from_err}
use Rattle.call_stages.specs.declared.view.View.{View}
use Rattle.index_core.specs.declared.party.PartyState.{PartyState}
use Rattle.index_core.specs.declared.party.Rechecking.{Rechecking}
use Rattle.node_ops.specs.declared.recheck.Recheck.{Recheck}
use Rattle.node_ops.specs.declared.recheck.Recheck.TheVariants.{Dating}
use Rattle.node_ops.specs.RecheckSteps.{IsRecheck}
use Rattle.index_core.specs.PartyStates.{owed}
use Rattle.index_core.specs.Cores.{index_with, index_of}
use Rattle.index_core.specs.Indexes.{Index, IsIndex, view_of}
use Rattle.index_core.specs.Rechecks.{recheck_begun}
use Rattle.index_core.proofs.Checks.{recheck_owes}
use Rattle.index_core.proofs.PartyPlaces.{IsIdle, caller_within, reads_idle}
use Rattle.index_core.proofs.RecheckReading.{recheck_begins}
use Rattle.index_core.proofs.Stepping.{respare}
use Rattle.index_core.proofs.index.Core.start_recheck.Goals as goal

pub new-recheck-requires-clause-node : goal.new-recheck-requires-clause-node
new-recheck-requires-clause-node c = subst (λ (v : View). c.args.node < v.layout.nodes) (sym c.seen_by-view.ensures.sees) c.requires.node

pub index_mut-requires : goal.index_mut-requires
index_mut-requires c = omega (arith, caller_within c.self.inside c.args.self.now c.args.party c.self.view_is c.self.invariant.0 (omega (arith, c.requires.party)), c.self.inside.states.ok.0)

-- what it has read of the party
idle : (c : goal.After-self-1) → IsIdle c.self.inside c.args.self.now c.args.party c.index_mut.result.now
idle c = reads_idle c.self.inside c.args.self.now c.args.party c.self.view_is c.index_mut.result.now c.self.invariant.0 (omega (arith, c.requires.party)) c.index_mut.ensures.value (λ busy. let no = c.in_ok-may_begin.ensures.in_flight.1 busy in cc)

-- the recheck that it makes
abbrev begun_recheck : (c : goal.After-self-1) → Rechecking
begun_recheck c = record { since = length c.self.inside.history.items; machine = Dating (view_of (index_with c.self.inside 0) c.args.party) c.args.node c.args.version }

made_at : (c : goal.After-self-1) → Path Recheck (Dating c.seen_by-view.result c.args.node c.args.version) (Dating (view_of (index_with c.self.inside 0) c.args.party) c.args.node c.args.version)
made_at c = ap (λ (v : View). Dating v c.args.node c.args.version) (c.seen_by-view.ensures.sees ∙ sym (ap (λ (s : Index). view_of s c.args.party) c.self.view_is))

-- the party that makes it
now_is : (c : goal.After-self-1) → c.begins_recheck.new.self ≡ record (c.index_mut.result.now) { recheck = Some (begun_recheck c) }
now_is c =
    c.begins_recheck.ensures
    ∙ (λ k. record (c.index_mut.result.now) { recheck = Some (record { since = ap length (c.history.ensures ∙ sym (ap (λ (v : Index). v.history) c.self.view_is)) k; machine = (c.new-recheck.ensures.new ∙ made_at c) k }) })

owes_same : (c : goal.After-self-1) → owed (slice_set c.self.inside.states.items c.args.party c.begins_recheck.new.self) ≡ owed c.self.inside.states.items
owes_same c =
    ap (λ (d : PartyState). owed (slice_set c.self.inside.states.items c.args.party d)) (now_is c)
    ∙ recheck_owes c.self.inside.states.items c.args.party c.index_mut.result.now (Some (begun_recheck c)) (idle c).there

-- the index that it leaves
begun_is : (c : goal.After-self-1) (k spare : ℕ) → spare ≡ k
    → Path Index (record (index_with c.self.inside 0) { states = slice_set c.self.inside.states.items c.args.party c.begins_recheck.new.self; spare = spare }) (recheck_begun (index_with c.self.inside k) c.args.party c.index_mut.result.now c.args.node c.args.version)
begun_is c k spare same = λ j. record (index_with c.self.inside 0) { states = slice_set c.self.inside.states.items c.args.party (now_is c j); spare = same j }

begins : (c : goal.After-self-1) → IsIndex (recheck_begun (index_with c.self.inside 0) c.args.party c.index_mut.result.now c.args.node c.args.version)
begins c =
    recheck_begins (index_with c.self.inside 0) c.args.party c.index_mut.result.now c.args.node c.args.version c.self.invariant.0 (idle c).there
    (subst IsRecheck (c.new-recheck.ensures.new ∙ made_at c) c.new-recheck.ensures.sound)

pub invariant_of-self : goal.invariant_of-self
invariant_of-self c = (subst IsIndex (sym (begun_is c 0 0 refl)) (begins c), omega (arith, owes_same c, c.self.invariant.1))

pub returns-clause-started : goal.returns-clause-started
returns-clause-started c = record {
  state = c.index_mut.result.now;
  there = (idle c).before;
  is = begun_is c (index_of c.self.inside).spare _ (ap (λ n. c.self.inside.history.cap - (c.self.inside.history.len + n)) (owes_same c)) ∙ ap (λ (v : Index). recheck_begun v c.args.party c.index_mut.result.now c.args.node c.args.version) c.self.view_is;
}

pub returns-clause-index : goal.returns-clause-index
returns-clause-index c = respare _ _ (invariant_of-self c).0

pub returns-in_err-may_begin-clause-in_flight : goal.returns-in_err-may_begin-clause-in_flight
returns-in_err-may_begin-clause-in_flight c = (λ _. c.in_err-may_begin.ensures.in_flight.0 refl, λ _. c.from_residual.ensures.0)

pub returns-in_err-may_begin-clause-started : goal.returns-in_err-may_begin-clause-started
returns-in_err-may_begin-clause-started c = IfOk-from_err c.from_residual.result _ c.from_residual.ensures.0

pub returns-in_err-may_begin-clause-before : goal.returns-in_err-may_begin-clause-before
returns-in_err-may_begin-clause-before c = c.may_begin.ensures.index

pub returns-in_err-may_begin-clause-index : goal.returns-in_err-may_begin-clause-index
returns-in_err-may_begin-clause-index c = c.may_begin.ensures.index

pub returns-clause-in_flight : goal.returns-clause-in_flight
returns-clause-in_flight c = c.in_ok-may_begin.ensures.in_flight

pub returns-clause-err : goal.returns-clause-err
returns-clause-err c = tt

pub returns-clause-before : goal.returns-clause-before
returns-clause-before c = c.in_ok-may_begin.ensures.index

pub new-recheck-requires-clause-view : goal.new-recheck-requires-clause-view
new-recheck-requires-clause-view c = c.seen_by-view.ensures.valid

pub may_begin-requires : goal.may_begin-requires
may_begin-requires c = omega (arith, c.requires.party)

pub seen_by-view-requires : goal.seen_by-view-requires
seen_by-view-requires c = c.requires.party
