use Rattle.std.proofs.Common.{◌≡◌, ◌++◌, drop, length}
use Rattle.index_core.specs.PartyStates.{idle_states}
use Rattle.index_core.proofs.index.set_idle.Given as goal

-- the parties so far have made no call
abbrev pub invariant-loop-caller : goal.invariant-loop-caller
invariant-loop-caller l =
    record {
      long : length l.states.items ≡ length l.fn.states.items;
      idle : l.states.items ≡ idle_states l.caller ++ drop l.caller l.fn.states.items;
    }
