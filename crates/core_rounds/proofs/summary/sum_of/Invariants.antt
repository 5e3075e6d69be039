use Rattle.std.proofs.Common.{◌≡◌, ◌+◌, drop, sum_by}
use Rattle.cat_key.specs.declared.Pair.{Pair}
use Rattle.core_rounds.proofs.summary.sum_of.Given as goal

-- the sum so far, and that of the pairs to come
abbrev pub invariant-loop-pair : goal.invariant-loop-pair
invariant-loop-pair l = l.sum + sum_by (λ (p : Pair). p.value) (drop l.pair-index l.pairs) ≡ sum_by (λ (p : Pair). p.value) l.pairs
