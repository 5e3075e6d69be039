use Rattle.std.proofs.Common.{subst}
use Rattle.index_core.specs.Crashes.{IsCrash}
use Rattle.index_core.specs.Indexes.{Index}
use Rattle.index_core.proofs.Crashing.{are_running, crash_is}
use Rattle.index_core.proofs.Stepping.{respare}
use Rattle.index_core.proofs.index.Core.crash.Goals as goal

pub of-requires : goal.of-requires
of-requires c = are_running _ c.self.invariant.0

pub returns : goal.returns
returns c =
    subst (λ (s : Index). IsCrash s c.crash.result c.of.result) c.self.view_is
    (crash_is _ c.crash.result c.of.result (respare _ _ c.self.invariant.0) c.crash.ensures c.of.ensures)
