use Rattle.std.proofs.Common.{◌/◌, ◌%◌, ap, ◌∙◌}
use Rattle.radix_nodes.proofs.Powers.{powers}
use Rattle.radix_nodes.proofs.cell.byte_in.Goals as goal

pub returns : goal.returns
returns c = ap (λ p. c.args.word / p % 256) (c.unit.ensures ∙ powers c.args.at)
