use Rattle.image_recovery.proofs.RecoveringLemmas.{opened_on}
use Rattle.image_recovery.proofs.recovering.opened.Goals as goal

pub returns : goal.returns
returns c =
    opened_on c.args.image c.in_ok-memory.memory c.mark_tree.new.memory c.layout-of_image.ensures.image c.requires (c.in_ok-memory.ensures {u = tt}) c.mark_tree.ensures.layout c.mark_tree.ensures.marks c.mark_tree.ensures.all
    c.layout-of_row.ensures.row
