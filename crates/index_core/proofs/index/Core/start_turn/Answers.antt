use Rattle.std.proofs.Common.{◌≡◌, ℕ, ◌-◌, ◌+◌, arith, refl, ap, sym, ◌∙◌, subst}
use Rattle.std.specs.Prelude.{Some, slice_set}
use Rattle.std.proofs.lemmas.Result.{IfOk-from_err}
use Rattle.pm_words.specs.declared.layout.Layout.{Layout}
use Rattle.updater.specs.Makings.{making_from}
use Rattle.index_core.specs.PartyStates.{owed}
use Rattle.index_core.specs.Cores.{index_with, index_of}
use Rattle.index_core.specs.Indexes.{Index, IsIndex}
use Rattle.index_core.specs.Turns.{turn_begun}
use Rattle.index_core.proofs.PartyPlaces.{IsIdle, caller_within, reads_idle}
use Rattle.index_core.proofs.Stepping.{respare}
use Rattle.index_core.proofs.Turning.{turn_begins}
use Rattle.index_core.proofs.TurnReading.{turn_owes, turn_begun_at}
use Rattle.index_core.proofs.index.Core.start_turn.Goals as goal

pub index_mut-requires : goal.index_mut-requires
index_mut-requires c = omega (arith, caller_within c.self.inside c.args.self.now c.args.party c.self.view_is c.self.invariant.0 c.requires.party, c.self.inside.states.ok.0)

-- what it has read of the party
idle : (c : goal.After-self-1) → IsIdle c.self.inside c.args.self.now c.args.party c.index_mut.result.now
idle c = reads_idle c.self.inside c.args.self.now c.args.party c.self.view_is c.index_mut.result.now c.self.invariant.0 c.requires.party c.index_mut.ensures.value (λ busy. let no = c.in_ok-may_begin.ensures.in_flight.1 busy in cc)

-- the index that it leaves
begun_is : (c : goal.After-self-1) (k spare : ℕ) → spare ≡ k
    → Path Index (record (index_with c.self.inside 0) { states = slice_set c.self.inside.states.items c.args.party (record (c.index_mut.result.now) { turn = Some c.new-making.result }); spare = spare })
    (turn_begun (index_with c.self.inside k) c.args.party c.index_mut.result.now c.args.stamp c.args.release)
begun_is c k spare same =
    turn_begun_at (index_with c.self.inside k) c.args.party c.args.stamp c.args.release c.index_mut.result.now c.new-making.result spare
    (c.new-making.ensures.new ∙ ap (λ (l : Layout). making_from l c.self.inside.generation c.args.stamp c.args.release) c.layout.ensures.layout) same

begins : (c : goal.After-self-1) → IsIndex (turn_begun (index_with c.self.inside 0) c.args.party c.index_mut.result.now c.args.stamp c.args.release)
begins c =
    let read = idle c in
    turn_begins (index_with c.self.inside 0) c.args.party c.index_mut.result.now c.args.stamp c.args.release c.self.invariant.0 read.there read.idle.1 c.requires.stamp c.ranges.stamp.fits

owes_same : (c : goal.After-self-1) → owed (slice_set c.self.inside.states.items c.args.party (record (c.index_mut.result.now) { turn = Some c.new-making.result })) ≡ owed c.self.inside.states.items
owes_same c = turn_owes c.self.inside.states.items c.args.party c.index_mut.result.now (Some c.new-making.result) (idle c).there

pub invariant_of-self : goal.invariant_of-self
invariant_of-self c = (subst IsIndex (sym (begun_is c 0 0 refl)) (begins c), omega (arith, owes_same c, c.self.invariant.1))

pub returns-clause-started : goal.returns-clause-started
returns-clause-started c = record {
  state = c.index_mut.result.now;
  there = (idle c).before;
  is = begun_is c (index_of c.self.inside).spare _ (ap (λ n. c.self.inside.history.cap - (c.self.inside.history.len + n)) (owes_same c)) ∙ ap (λ (v : Index). turn_begun v c.args.party c.index_mut.result.now c.args.stamp c.args.release) c.self.view_is;
}

pub returns-clause-index : goal.returns-clause-index
returns-clause-index c = respare _ _ (invariant_of-self c).0

pub returns-in_err-may_begin-clause-in_flight : goal.returns-in_err-may_begin-clause-in_flight
returns-in_err-may_begin-clause-in_flight c = (λ _. c.in_err-may_begin.ensures.in_flight.0 refl, λ _. c.from_residual.ensures.0)

pub returns-in_err-may_begin-clause-started : goal.returns-in_err-may_begin-clause-started
returns-in_err-may_begin-clause-started c = IfOk-from_err c.from_residual.result _ c.from_residual.ensures.0

pub returns-in_err-may_begin-clause-before : goal.returns-in_err-may_begin-clause-before
returns-in_err-may_begin-clause-before c = c.may_begin.ensures.index

pub returns-in_err-may_begin-clause-index : goal.returns-in_err-may_begin-clause-index
returns-in_err-may_begin-clause-index c = c.may_begin.ensures.index

pub returns-clause-in_flight : goal.returns-clause-in_flight
returns-clause-in_flight c = c.in_ok-may_begin.ensures.in_flight

pub returns-clause-err : goal.returns-clause-err
returns-clause-err c = tt

pub returns-clause-before : goal.returns-clause-before
returns-clause-before c = c.in_ok-may_begin.ensures.index

pub new-making-requires-clause-stamp : goal.new-making-requires-clause-stamp
new-making-requires-clause-stamp c = c.requires.stamp
