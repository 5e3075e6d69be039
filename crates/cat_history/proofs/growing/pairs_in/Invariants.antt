use Rattle.std.proofs.Common.{◌≡◌, map}
use Rattle.cat_history.proofs.ReplayLemmas.{pair_of}
use Rattle.cat_history.proofs.growing.pairs_in.Given as goal

-- the entries so far are pairs
abbrev pub invariant-loop-name : goal.invariant-loop-name
invariant-loop-name l = l.pairs.items ≡ map pair_of l.yielded
