use Rattle.std.proofs.Common.{◌≡◌, ◌++◌, map, drop}
use Rattle.transcript.specs.Chains.{parts_left, seen}
use Rattle.transcript.proofs.parts.push_parts.Given as goal

-- the parts so far and those behind them are all
abbrev pub invariant-loop-part : goal.invariant-loop-part
invariant-loop-part l = map seen l.looks.items ++ parts_left l.left (drop l.part-index l.parts) ≡ map seen l.fn.looks.items ++ parts_left l.count l.parts
