use Rattle.node_ops.proofs.PartBounds.{parts_end, ends_are_held, ends_stay, parts_end_there, ends_are_ranges}
use Rattle.node_ops.proofs.laws.parts_end_at_next.Goals as goal

pub returns-clause-ends : goal.returns-clause-ends
returns-clause-ends c = parts_end

pub returns-clause-held : goal.returns-clause-held
returns-clause-held c = ends_are_held

pub returns-clause-stays : goal.returns-clause-stays
returns-clause-stays c = ends_stay

pub returns-clause-there : goal.returns-clause-there
returns-clause-there c = parts_end_there

pub returns-clause-ranges : goal.returns-clause-ranges
returns-clause-ranges c = ends_are_ranges
