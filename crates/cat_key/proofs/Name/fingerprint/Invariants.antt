use Rattle.std.proofs.Common.{◌≡◌, ◌+◌, ◌*◌, ◌≤◌, drop}
use Rattle.cat_key.specs.Names.{weighted_sum}
use Rattle.cat_key.proofs.Name.fingerprint.Given as goal

-- what the sum holds so far, and that it is small
abbrev pub invariant-loop-at : goal.invariant-loop-at
invariant-loop-at l = record {
  summed : l.sum + weighted_sum l.at (drop l.at l.byte-items) ≡ weighted_sum 0 l.byte-items;
  small : l.sum ≤ 12240 * l.at;
}
