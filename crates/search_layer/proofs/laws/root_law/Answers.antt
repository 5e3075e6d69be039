use Rattle.search_layer.proofs.RootLemmas.{root_begins, root_step_keeps, root_outlasts, root_others_keep, root_evictions_keep}
use Rattle.search_layer.proofs.laws.root_law.Goals as goal

pub returns : goal.returns
returns c = record { begins = root_begins; keeps = root_step_keeps; outlasts = root_outlasts; others = root_others_keep; evicts = root_evictions_keep }
