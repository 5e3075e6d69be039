use Rattle.std.proofs.Common.{sym, subst}
use Rattle.recovery.specs.Stops.{IsLeftBy}
use Rattle.recovery.proofs.Breaks.{crash_leaves}
use Rattle.recovery.proofs.stopping.Recovery.crash.Goals as goal

pub returns-clause-left : goal.returns-clause-left
returns-clause-left c = λ image is. subst (IsLeftBy image) (sym c.crash.ensures) (crash_leaves image c.args.self is)
