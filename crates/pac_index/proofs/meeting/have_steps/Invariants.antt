use Rattle.std.proofs.Common.{◌≡◌, ◌≢◌, ℕ, ◌<◌}
use Rattle.std.specs.Prelude.{Some}
use mathlib.Core.Option.{some}
use lib.ListN.{get_elem?}
use Rattle.pac_index.specs.declared.caller.Caller.{Caller}
use Rattle.pac_index.proofs.meeting.have_steps.Given as goal

-- those before have a step left
abbrev pub invariant-loop-number : goal.invariant-loop-number
invariant-loop-number l = (i : ℕ) (c : Caller) → i < l.number → get_elem? l.fn.callers i ≡ some c → c.left ≢ Some 0
