use Rattle.std.proofs.Common.{subst}
use Rattle.index_core.specs.Indexes.{IsIndex}
use Rattle.index_core.proofs.RestImages.{quiet_image}
use Rattle.index_core.proofs.Stepping.{respare}
use Rattle.index_core.proofs.index.Core.image.Goals as goal

pub returns-clause-rest : goal.returns-clause-rest
returns-clause-rest c = quiet_image c.args.self.now (subst IsIndex c.self.view_is (respare _ _ c.self.invariant.0)) c.requires.quiet
