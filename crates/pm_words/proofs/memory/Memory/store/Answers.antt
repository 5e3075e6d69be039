use Rattle.std.proofs.Common.{subst, sym}
use Rattle.pm_words.specs.Images.{Row}
use Rattle.pm_words.specs.Rows.{CanAct}
use Rattle.pm_words.specs.declared.action.Action.TheVariants.{Store}
use Rattle.pm_words.proofs.Kept.{acted_row}
use Rattle.pm_words.proofs.memory.Memory.store.Goals as goal

pub invariant_of-self : goal.invariant_of-self
invariant_of-self c =
    let can = subst (λ (row : Row). CanAct row.layout row.words (Store c.args.address c.args.word)) (sym c.self.view_is) c.requires in
    acted_row _ _ (Store c.args.address c.args.word) c.self.invariant can
