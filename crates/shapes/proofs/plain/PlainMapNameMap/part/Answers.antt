use Rattle.std.proofs.Common.{◌≡◌, None, not, take, List, sym, ap, subst, ◌∙◌}
use Rattle.std.specs.List.{filter}
use Rattle.std.specs.List.Sorted.{IsPermutation}
use Rattle.cat_key.specs.declared.Pair.{Pair}
use Rattle.cat_history.specs.Maps.{map_of}
use Rattle.cat_history.specs.Scans.{is_below, range}
use Rattle.shapes.proofs.OneMember.{one_ends}
use Rattle.shapes.proofs.PlainParts.{sorted-range}
use Rattle.shapes.proofs.plain.PlainMapNameMap.part.Goals as goal

-- its one member is the last one
pub returns-clause-high : goal.returns-clause-high
returns-clause-high c = sym (one_ends c.args.low.now)

-- and has all names
pub returns-clause-pairs : goal.returns-clause-pairs
returns-clause-pairs c =
    let low = c.args.low.now in
    let ps = c.self.inside.pairs.items in
    let qs = c.in_ok-pairs.pairs.items in
    let moved = subst (λ (xs : List Pair). IsPermutation xs qs) c.deref.ensures.value c.in_ok-pairs.ensures.same in
    let listed : filter (λ (pair : Pair). not (is_below pair.name low)) qs ≡ range (map_of ps) low None = sorted-range ps qs low c.self.invariant.differ moved c.in_ok-pairs.ensures.rising in
    c.of.ensures ∙ c.in_ok-listed.ensures.first
    ∙ ap (λ (xs : List Pair). take c.args.count (filter (λ (pair : Pair). not (is_below pair.name low)) xs)) c.deref-2.ensures.value
    ∙ ap (take c.args.count) (listed ∙ ap (λ m. range m.contents low None) c.self.view_is)
