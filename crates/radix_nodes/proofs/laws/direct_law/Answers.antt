use Rattle.radix_nodes.proofs.IndexForm.{direct_stores}
use Rattle.radix_nodes.proofs.laws.direct_law.Goals as goal

pub returns : goal.returns
returns c = direct_stores
