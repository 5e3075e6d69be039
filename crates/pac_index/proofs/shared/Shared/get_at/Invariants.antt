use Rattle.index_core.specs.declared.party.CoreCall.TheVariants as call
use Rattle.pac_index.specs.Budgets.{TriedBack}
use Rattle.pac_index.specs.Calls.{Answers}
use Rattle.pac_index.proofs.Repeating.{TriedSoFar}
use Rattle.pac_index.proofs.shared.Shared.get_at.Given as goal

abbrev pub invariant-loop : goal.invariant-loop
invariant-loop g l = TriedSoFar l.fn.self (TriedBack (Answers (call.Get l.fn.name)) l.fn.caller.index) l.fn.caller l.caller
