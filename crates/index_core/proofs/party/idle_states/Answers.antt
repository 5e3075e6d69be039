use Rattle.std.proofs.Common.{◌≡◌, [], ◌∷◌, ◌++◌, sym, ap, ◌∙◌, arith}
use Rattle.std.proofs.Math.Numerals.{add-one}
use Rattle.index_core.specs.PartyStates.{idle_states}
use Rattle.index_core.proofs.party.idle_states.Goals as goal

pub loop-caller-init : goal.loop-caller-init
loop-caller-init c = c.in_ok-states.ensures.items

pub loop-caller-preserved : goal.loop-caller-preserved
loop-caller-preserved c =
    c.in_ok-push.ensures.items ∙ (λ k. c.loop-caller.invariant k ++ c.idle.ensures k ∷ []) ∙ ap idle_states (sym (add-one c.loop-caller.caller))

pub returns : goal.returns
returns c =
    let done : c.loop-caller.caller ≡ c.args.callers = omega (arith, c.loop-caller-test.false, c.loop-caller.auto.caller-end) in
    c.loop-caller.invariant ∙ ap idle_states done
