use Rattle.std.proofs.Common.{◌∙◌, subst}
use Rattle.pm_words.specs.declared.layout.Layout.{Layout}
use Rattle.pm_words.specs.Rows.{IsRow}
use Rattle.index_law.specs.Facts.{list_in}
use Rattle.index_core.specs.index_opening_law.specs.Openings.{HaveNoOrders}
use Rattle.recovery.specs.Tellings.{KeepsButOrders}
use Rattle.recovery.proofs.Orders.{keeps_beside, tells_still}
use Rattle.recovery.proofs.telling.tell_list.Goals as goal

pub returns : goal.returns
returns c =
    let old = c.args.memory.now in
    let marks = c.tell_marks.ensures in
    let orders = c.tell_orders.ensures in
    let after = c.tell_orders.new.memory.words in
    let keeps : KeepsButOrders old.layout c.tell_marks.new.memory.words after = subst (λ (l : Layout). KeepsButOrders l c.tell_marks.new.memory.words after) marks.layout orders.beside in
    record {
      layout = orders.layout ∙ marks.layout;
      tells = tells_still old.layout c.tell_marks.new.memory.words after (list_in old.layout old.words) c.requires.untold.some c.requires.untold.makes.within keeps marks.tells;
      orders = subst (λ (l : Layout). HaveNoOrders l after) marks.layout orders.orders;
      beside = keeps_beside old.layout old.words c.tell_marks.new.memory.words after marks.beside keeps;
      row = subst (λ (l : Layout). IsRow l after) marks.layout orders.row;
    }
