use Rattle.std.specs.Prelude.{◌≡◌}
use Rattle.index_core.specs.PartyStates.{idle_states}
use Rattle.index_core.proofs.party.idle_states.Given as goal

abbrev pub invariant-loop-caller : goal.invariant-loop-caller
invariant-loop-caller l = l.states.items ≡ idle_states l.caller
