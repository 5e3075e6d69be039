use Rattle.tree_row.proofs.FreshRow.{fresh_reads, fresh_keeps}
use Rattle.tree_row.proofs.laws.fresh_law.Goals as goal

pub returns : goal.returns
returns c = record { reads = fresh_reads; keeps = fresh_keeps }
