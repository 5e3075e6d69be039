use Rattle.std.proofs.Common.{sym, ◌∙◌, subst}
use Rattle.radix_nodes.specs.Cells.{IsReference}
use Rattle.radix_nodes.proofs.changes.remove.Goals as goal

pub returns-in-Some : goal.returns-in-Some
returns-in-Some c is =
    let one = c.in-Some.ensures is in
    (one, subst IsReference one.is (is.lawful.references one.other (λ e. one.some_child (sym one.is ∙ e))))
