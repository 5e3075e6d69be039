use Rattle.layer_map.proofs.FewLemmas.{few_apart}
use Rattle.layer_map.proofs.laws.layer_law.Goals as goal

pub returns : goal.returns
returns c = record { few = few_apart }
