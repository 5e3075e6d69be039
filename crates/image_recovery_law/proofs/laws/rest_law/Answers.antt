use Rattle.image_recovery_law.proofs.Rest.{ends_at_rest, rest_is_lawful}
use Rattle.image_recovery_law.proofs.laws.rest_law.Goals as goal

pub returns : goal.returns
returns c = record { rests = ends_at_rest; lawful = rest_is_lawful }
