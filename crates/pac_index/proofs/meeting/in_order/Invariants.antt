use Rattle.std.proofs.Common.{◌≡◌, List, length}
use Rattle.cat_history.specs.declared.op.Write.{Write}
use Rattle.pac_index.specs.Callers.{AreWritesOf}
use Rattle.pac_index.proofs.Gathered.{Filled}
use Rattle.pac_index.proofs.meeting.in_order.Given as goal

abbrev pub invariant-loop-number : goal.invariant-loop-number
invariant-loop-number l = (h : List Write) → length h ≡ l.fn.clock → AreWritesOf l.fn.kept h → Filled l.fn.kept l.number h l.history.items
