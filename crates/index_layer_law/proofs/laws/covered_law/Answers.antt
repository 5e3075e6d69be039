use Rattle.index_layer_law.proofs.LayerCover.{layer_is_covered}
use Rattle.index_layer_law.proofs.CrashCover.{crash_leads_as_listed}
use Rattle.index_layer_law.proofs.laws.covered_law.Goals as goal

pub returns : goal.returns
returns c = record { now = layer_is_covered; crash = crash_leads_as_listed }
