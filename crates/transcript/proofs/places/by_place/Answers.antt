use Rattle.std.proofs.Common.{ℕ, rules}
use Rattle.std.proofs.lemmas.Fn.{always_returns_same}
use Rattle.cat_history.specs.declared.op.Write.{Write}
use Rattle.transcript.proofs.places.by_place.Goals as goal

pub returns-clause-rising : goal.returns-clause-rising
returns-clause-rising c = c.sort_unstable_by_key.ensures.sorted (λ (e : ℕ × Write). e.0) (always_returns_same _ _ _ (λ a r f called. (search rules, search rules)))
