use Rattle.search_layer.proofs.FreshLemmas.{fresh_is_at_rest}
use Rattle.search_layer.proofs.laws.fresh_law.Goals as goal

pub returns : goal.returns
returns c = fresh_is_at_rest
