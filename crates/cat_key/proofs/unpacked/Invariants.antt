use Rattle.std.proofs.Common.{◌≡◌, ℕ, ◌<◌, ◌*◌, length, get_or}
use Rattle.cat_key.specs.Names.{all_bytes}
use Rattle.cat_key.specs.declared.TheConstants.{WORDS}
use Rattle.cat_key.proofs.unpacked.Given as goal

abbrev pub invariant-loop-at : goal.invariant-loop-at
invariant-loop-at l = record {
  long : length l.byte-items ≡ 8 * WORDS;
  written : (k : ℕ) → k < l.at → get_or l.byte-items k 0 ≡ get_or (all_bytes l.words) k 0;
}
