use Rattle.std.proofs.Common.{◌≡◌, ◌<◌, false, List, length, get_or, refl, sym, ap, ◌∙◌, subst}
use Rattle.std.specs.Prelude.{Option, None, Some, IfSome, is_some, slice_get}
use Rattle.std.proofs.lemmas.Bool.{ltb-true, true≢false}
use mathlib.Core.Option.{some}
use lib.ListN.{get_elem?}
use Rattle.node_ops.specs.declared.running.Running.{Running}
use Rattle.node_ops.specs.RunningSteps.{IsRunning}
use Rattle.index_core.specs.declared.party.PartyState.{PartyState}
use Rattle.index_core.specs.Crashes.{cut_call, cut_of}
use Rattle.index_core.proofs.Lists.{there_at, got_there}
use Rattle.index_core.proofs.crash.Cuts.get.Goals.{After-running-machine}
use Rattle.index_core.proofs.crash.Cuts.get.Goals as goal

-- the party's state is the one that it has read
state_there : (c : After-running-machine) → get_elem? c.self.inside.states.items c.args.party ≡ some c.in_ok-state.state.now
state_there c =
    let states : List PartyState = c.self.inside.states.items in
    let state : PartyState = c.in_ok-state.state.now in
    let lookup = c.in_ok-state.ensures.lookup in
    there_at states c.args.party state
    (subst (λ (l : List PartyState). c.args.party < length l) c.deref.ensures.value (ltb-true c.args.party (length c.deref.result.now) (sym lookup.0)))
    (subst (λ (l : List PartyState). state ≡ get_or l c.args.party state) c.deref.ensures.value lookup.1)

pub of-requires : goal.of-requires
of-requires c =
    let there = state_there (goal.at.of-requires c).After-running-machine in
    subst (λ (o : Option Running). IfSome o IsRunning) c.running-machine.ensures (c.self.invariant c.args.party c.in_ok-state.state.now there)

pub returns : goal.returns
returns c =
    let states : List PartyState = c.self.inside.states.items in
    let state : PartyState = c.in_ok-state.state.now in
    let machine : Running = c.running-machine.result.now in
    let made : Some (record { party = state.caller; call = c.of.result; place = c.place.result }) ≡ cut_call state.caller (Some machine) state.turn state.recheck =
    (λ k. Some (record { party = state.caller; call = c.of.ensures k; place = c.place.ensures k })) in
    made ∙ ap (λ (o : Option Running). cut_call state.caller o state.turn state.recheck) (sym c.running-machine.ensures) ∙ ap cut_of (sym (got_there states c.args.party state (state_there (goal.at.returns c).After-running-machine)))
    ∙ ap (λ (l : List PartyState). cut_of (slice_get l c.args.party)) c.self.view_is

none_there : (machine : Option Running) → is_some machine ≡ false → machine ≡ None
none_there None is = refl
none_there (Some machine) is = absurd (true≢false is)

pub returns-then-not-flies : goal.returns-then-not-flies
returns-then-not-flies c =
    let states : List PartyState = c.self.inside.states.items in
    let state : PartyState = c.in_ok-state.state.now in
    let lookup = c.in_ok-state.ensures.lookup in
    let there = there_at states c.args.party state
    (subst (λ (l : List PartyState). c.args.party < length l) c.deref.ensures.value (ltb-true c.args.party (length c.deref.result.now) (sym lookup.0)))
    (subst (λ (l : List PartyState). state ≡ get_or l c.args.party state) c.deref.ensures.value lookup.1) in
    c.cut_turn.ensures
    ∙ ap (λ (o : Option Running). cut_call state.caller o state.turn state.recheck) (sym (none_there state.machine (sym c.flies.ensures ∙ c.if-not-flies.true)))
    ∙ ap cut_of (sym (got_there states c.args.party state there)) ∙ ap (λ (l : List PartyState). cut_of (slice_get l c.args.party)) c.self.view_is
