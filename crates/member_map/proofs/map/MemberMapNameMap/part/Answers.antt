use Rattle.std.proofs.Common.{◌≡◌, ◌∙◌, take, sym, ap}
use Rattle.cat_history.specs.Maps.{map_of}
use Rattle.cat_history.specs.Scans.{range}
use Rattle.shapes.specs.Anchors.{next_of}
use Rattle.member_map.specs.Members.{anchors_of}
use Rattle.member_map.proofs.map.MemberMapNameMap.part.Goals as goal

pub returns-clause-pairs : goal.returns-clause-pairs
returns-clause-pairs c =
    let pairs = c.self.inside.pairs.items in
    let low = c.args.low.now in
    let first = rw (c.deref.ensures.value, c.deref-2.ensures.value) at c.in_ok-listed.ensures.first in
    let high : c.next_bound.result ≡ next_of (anchors_of c.self.inside.bounds.items) low = rw c.deref-3.ensures.value at c.next_bound.ensures in
    c.of.ensures ∙ first
    ∙ ap (λ h. take c.args.count (range (map_of pairs) low h)) (sym high)
    ∙ ap (λ m. take c.args.count (range m.contents low c.next_bound.result)) c.self.view_is
