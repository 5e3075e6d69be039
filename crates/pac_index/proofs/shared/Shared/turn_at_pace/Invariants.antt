use Rattle.std.proofs.Common.{◌≡◌}
use Rattle.pac_index.specs.Cuts.{HasPaid}
use Rattle.pac_index.specs.Callers.{HasMadeNone, IsCallerOf, pins_of, seen_by}
use Rattle.pac_index.specs.Ends.{EachIs, HasOnlyRead}
use Rattle.pac_index.specs.Turns.{FoundHeld}
use Rattle.pac_index.proofs.Repeating.{StillOrRests}
use Rattle.pac_index.proofs.shared.Shared.turn_at_pace.Given as goal

abbrev pub invariant-loop : goal.invariant-loop
invariant-loop g l = IsCallerOf l.fn.self l.caller × (l.caller.number ≡ l.fn.caller.number) × HasMadeNone l.fn.caller l.caller × EachIs FoundHeld (seen_by l.fn.caller) (seen_by l.caller) × HasOnlyRead (seen_by l.fn.caller) (seen_by l.caller) × (pins_of l.caller ≡ pins_of l.fn.caller)
    × StillOrRests l.fn.caller l.caller × HasPaid l.fn.caller l.caller
