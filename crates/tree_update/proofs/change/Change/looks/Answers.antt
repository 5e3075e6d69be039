use Rattle.std.proofs.Common.{sym, subst}
use Rattle.tree_look.specs.LookLaws.{IsInRange}
use Rattle.tree_update.specs.Changes.{IsChangeAt}
use Rattle.tree_update.proofs.ChangeStays.{look_range}
use Rattle.tree_update.proofs.change.Change.looks.Goals as goal

pub has_looked-requires-clause-looked : goal.has_looked-requires-clause-looked
has_looked-requires-clause-looked c =
    let change = c.args.self.now in
    let look = c.in-Looking.look in
    let looked = c.in_ok-looked.looked in
    let here = subst (IsChangeAt change.layout change.key change.word) c.in-Looking.is c.requires.0.here in
    subst (λ l. IsInRange l looked) here.1
    (look_range look c.args.got looked (here.0, c.requires.1) (sym c.in_ok-looked.ensures))
