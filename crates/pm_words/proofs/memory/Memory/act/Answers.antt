use Rattle.std.proofs.Common.{subst, sym, arith}
use Rattle.std.proofs.lemmas.List.{get_or_read}
use Rattle.pm_words.specs.Images.{Row}
use Rattle.pm_words.specs.Rows.{CanAct}
use Rattle.pm_words.proofs.Kept.{acted_row_by}
use Rattle.pm_words.proofs.memory.Memory.act.Goals as goal

pub invariant_of-self : goal.invariant_of-self
invariant_of-self g c =
    let can = subst (λ (row : Row). CanAct row.layout row.words c.args.action) (sym c.self.view_is) c.requires in
    let found = get_or_read c.self.inside.words.items _ _ (omega (arith, c.action_address-address.ensures.within, c.self.invariant.whole)) c.index-found.ensures 0 in
    acted_row_by _ _ c.args.action _ _ _ c.self.invariant can c.action_address-address.ensures.address found c.word_after.ensures
