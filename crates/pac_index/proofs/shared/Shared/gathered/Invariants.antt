use Rattle.std.proofs.Common.{◌≡◌, List, [], ◌++◌, map}
use Rattle.pac_index.specs.declared.caller.Caller.{Caller}
use Rattle.pac_index.specs.Callers.{seen_by}
use Rattle.pac_index.proofs.shared.Shared.gathered.Given as goal

abbrev pub invariant-loop-caller : goal.invariant-loop-caller
invariant-loop-caller l = (done : List Caller) × (l.callers.items ++ done ≡ l.fn.callers.items) × (l.all.table_id ≡ l.fn.self.table.shared.table_id) × (l.all.me ≡ (map seen_by done, []))

abbrev pub decreases-loop-caller : goal.decreases-loop-caller
decreases-loop-caller l = goal.left-loop-caller l
