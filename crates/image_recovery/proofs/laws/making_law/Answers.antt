use Rattle.image_recovery.proofs.MakingLemmas.{makings_begin, makings_go, makings_evict, makings_are_sure}
use Rattle.image_recovery.proofs.laws.making_law.Goals as goal

pub returns : goal.returns
returns c = record { begins = makings_begin; goes = makings_go; evicts = makings_evict; sure = makings_are_sure }
