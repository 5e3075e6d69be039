use Rattle.std.proofs.Common.{◌≡◌, ◌≤◌, length}
use Rattle.std.specs.Prelude.{vec_len, vec_capacity}
use Rattle.index_core.specs.MachineLaws.{AreIdle}
use Rattle.pac_index.proofs.meeting.idle_states.Given as goal

abbrev pub invariant-loop-number : goal.invariant-loop-number
invariant-loop-number l = AreIdle l.states.items l.number × (vec_len l.states ≡ l.number) × (length l.fn.callers ≤ vec_capacity l.states)
