use Rattle.std.proofs.Common.{◌≡◌, ℕ, ◌<◌, ◌≤◌, length, get_or}
use Rattle.split_merge.specs.Pairs.{rest_at, source_at, targets_at, grown_at}
use Rattle.split_merge.proofs.pairing.pairs_of.Given as goal

-- the slots that the loop has passed have their names, and the others none yet
abbrev pub invariant-loop-slot : goal.invariant-loop-slot
invariant-loop-slot l =
    (l.rest ≡ rest_at l.own l.right l.slots l.slot) × (l.targets ≡ targets_at l.own l.right l.slots l.slot) × (l.grown ≡ grown_at l.own l.right l.slots l.slot) × (length l.from ≡ 32) ×
    ((k : ℕ) → k < l.slot → get_or l.from k 0 ≡ source_at l.own l.right l.slots k) × ((k : ℕ) → l.slot ≤ k → k < 32 → get_or l.from k 0 ≡ 64)
