use Rattle.pac_index.proofs.Scanning.{ReadSoFar, to_come}
use Rattle.pac_index.proofs.shared.Shared.read_parts.Given as goal

-- the scan goes on behind its parts so far
abbrev pub invariant-loop-next : goal.invariant-loop-next
invariant-loop-next g l = ReadSoFar l.fn.self l.fn.from l.count l.fn.caller l.caller l.next l.left l.parts.items

-- its low names rise
abbrev pub decreases-loop-next : goal.decreases-loop-next
decreases-loop-next g l = to_come l.next
