use Rattle.shapes.proofs.PaidRounds.{timely_rounds_are_paid}
use Rattle.shapes.proofs.laws.paid_law.Goals as goal

pub returns : goal.returns
returns c = timely_rounds_are_paid
