use Rattle.std.proofs.Common.{◌≡◌, map, take}
use Rattle.transcript.specs.Chains.{pair_of}
use Rattle.transcript.proofs.FirstPairs.{FirstSoFar}
use Rattle.transcript.proofs.parts.are_first.Given as goal

-- the pairs are the first exactly where those that are left are the first of what is left
abbrev pub invariant-loop-name : goal.invariant-loop-name
invariant-loop-name l = FirstSoFar l.pairs l.at l.left (map pair_of l.name-iterator) (l.pairs ≡ take l.left (map pair_of l.fn.found))
