use Rattle.std.proofs.Common.{◌≡◌, ◌≤◌}
use Rattle.pac_index.specs.Callers.{IsCallerOf, spare_of, seen_by}
use Rattle.pac_index.specs.Cuts.{HasPaid}
use Rattle.pac_index.proofs.Repeating.{StillOrRests}
use Rattle.pac_index.proofs.Writing.{Writing}
use Rattle.pac_index.proofs.shared.Shared.write.Given as goal

abbrev pub invariant-loop : goal.invariant-loop
invariant-loop g l = IsCallerOf l.fn.self l.caller × (l.caller.number ≡ l.fn.caller.number) × (spare_of l.fn.caller ≤ spare_of l.caller) × Writing l.fn.call l.fn.caller.index l.turns (seen_by l.fn.caller) l.caller.index (seen_by l.caller)
    × StillOrRests l.fn.caller l.caller × HasPaid l.fn.caller l.caller
