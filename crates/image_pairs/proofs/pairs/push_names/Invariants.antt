use Rattle.std.proofs.Common.{◌≡◌, ◌++◌, map}
use Rattle.cat_history.proofs.ReplayLemmas.{pair_of}
use Rattle.image_pairs.proofs.pairs.push_names.Given as goal

-- the entries so far are pairs behind those that were there
abbrev pub invariant-loop-name : goal.invariant-loop-name
invariant-loop-name l = l.pairs.items ≡ l.fn.pairs.items ++ map pair_of l.yielded
