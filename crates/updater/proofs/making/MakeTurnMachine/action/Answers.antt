use Rattle.std.proofs.Common.{sym, ap, ◌∙◌}
use Rattle.updater.specs.Makings.{making_asks}
use Rattle.updater.proofs.making.MakeTurnMachine.action.Goals as goal

pub returns-in-Taking : goal.returns-in-Taking
returns-in-Taking c = c.take_turn.ensures c.in-Taking.terms.layout ∙ ap making_asks (sym c.in-Taking.is)
