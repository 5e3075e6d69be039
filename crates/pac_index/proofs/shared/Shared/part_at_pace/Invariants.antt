use Rattle.pac_index.specs.Budgets.{TriedBack}
use Rattle.pac_index.specs.Calls.{PartAnswers}
use Rattle.pac_index.proofs.Repeating.{TriedSoFar}
use Rattle.pac_index.proofs.shared.Shared.part_at_pace.Given as goal

abbrev pub invariant-loop : goal.invariant-loop
invariant-loop g l = TriedSoFar l.fn.self (TriedBack (PartAnswers l.fn.low l.fn.count) l.fn.caller.index) l.fn.caller l.caller
