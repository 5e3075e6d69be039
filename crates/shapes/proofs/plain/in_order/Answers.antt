use Rattle.std.proofs.Common.{rules}
use Rattle.std.proofs.lemmas.Fn.{always_returns_same}
use Rattle.cat_key.specs.declared.Pair.{Pair}
use Rattle.shapes.proofs.plain.in_order.Goals as goal

pub returns-clause-rising : goal.returns-clause-rising
returns-clause-rising c = c.sort_unstable_by_key.ensures.sorted (λ (pair : Pair). pair.name) (always_returns_same _ _ _ (λ a r f called. (search rules, search rules)))
