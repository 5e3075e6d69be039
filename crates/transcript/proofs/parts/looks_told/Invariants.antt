use Rattle.std.proofs.Common.{◌≡◌, map, take}
use Rattle.transcript.specs.Chains.{parts_told, seen}
use Rattle.transcript.proofs.parts.looks_told.Given as goal

-- the parts of the scans so far
abbrev pub invariant-loop-record : goal.invariant-loop-record
invariant-loop-record l = map seen l.looks.items ≡ parts_told (take l.record-index l.told)
