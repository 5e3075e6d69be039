use Rattle.index_law.proofs.Durable.{durable_law}
use Rattle.index_law.proofs.Ends.{crash_law}
use Rattle.index_law.proofs.Images.{image_law}
use Rattle.index_law.proofs.laws.crash_law.Goals as goal

pub returns-clause-durable : goal.returns-clause-durable
returns-clause-durable c = durable_law

pub returns-clause-end : goal.returns-clause-end
returns-clause-end c = crash_law

pub returns-clause-image : goal.returns-clause-image
returns-clause-image c = image_law
