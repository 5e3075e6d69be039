use Rattle.std.proofs.Common.{◌≡◌, ◌^◌, ◌<◌, sym, subst, ap, ◌∙◌, arith}
use Rattle.pm_words.specs.declared.layout.Layout.{Layout}
use Rattle.pm_words.specs.declared.action.Action.{Action}
use Rattle.pm_words.specs.declared.machine.Turn.{Turn}
use Rattle.pm_words.specs.Images.{Row}
use Rattle.pm_words.specs.Rows.{CanAct}
use Rattle.tree_update.specs.declared.change.Change.{Change}
use Rattle.tree_update.specs.declared.change.Ended.{Ended}
use Rattle.tree_update.specs.Changes.{change_asks, change_left}
use Rattle.tree_update.specs.ChangeStays.{ChangeAfter}
use Rattle.tree_update.proofs.Acting.{change_can_act}
use Rattle.tree_update.proofs.ChangeStays.{changes_stay}
use Rattle.tests_words.proofs.tests.nodes.changes.run.Goals as goal

pub act-got-requires : goal.act-got-requires
act-got-requires g c =
    let change = c.turns.change in
    let row = c.turns.memory in
    subst (λ (a : Action). CanAct row.layout row.words a) (sym c.action-action.ensures)
    (subst (λ (l : Layout). CanAct l row.words (change_asks change)) c.turns.invariant.layout (change_can_act change row.words c.turns.invariant.sound))

pub turns-preserved : goal.turns-preserved
turns-preserved g c =
    let change = c.turns.change in
    let small : c.act-got.result < 2 ^ 64 = omega arith in
    let stays = subst (λ (t : Turn Change Ended). ChangeAfter change (change_left change) t) (sym c.resume.ensures.turned ∙ c.in-Go.is) (changes_stay change c.act-got.result (c.turns.invariant.sound, small)) in
    let kept : c.act-got.new.self.layout ≡ c.turns.memory.layout = ap (λ (m : Row). m.layout) c.act-got.ensures.row in
    record { layout = stays.layout_is ∙ c.turns.invariant.layout ∙ sym kept; sound = stays.sound }
