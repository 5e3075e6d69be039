use Rattle.pm_alloc.proofs.Alone.{retires_alone, releases_alone}
use Rattle.pm_alloc.proofs.laws.ends_alone.Goals as goal

pub returns-clause-retires : goal.returns-clause-retires
returns-clause-retires c = retires_alone

pub returns-clause-releases : goal.returns-clause-releases
returns-clause-releases c = releases_alone
