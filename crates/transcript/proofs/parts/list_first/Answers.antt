use Rattle.std.proofs.Common.{◌≡◌, ◌∙◌, ◌<◌, ◌+◌, All, List, length, get_or, map, ap, sym, subst, refl, arith}
use Rattle.std.specs.FinMap.{entries}
use Rattle.std.proofs.lemmas.Bool.{false≢true}
use Rattle.std.proofs.lemmas.List.{get_or_default, get_or-map, length-map, take_all, take-map}
use Rattle.std.proofs.lemmas.List.Elements.{All-more}
use Rattle.cat_history.specs.Maps.{Map, map_of}
use Rattle.cat_history.specs.Writes.{after}
use Rattle.transcript.specs.Chains.{ListsFirst, seen}
use Rattle.transcript.specs.declared.parts.PartLook.{PartLook}
use Rattle.transcript.proofs.parts.list_first.Goals.{After-lists_first}
use Rattle.transcript.proofs.parts.list_first.Goals as goal

-- the look at hand is one of those, and the map is the one at its place
within : (c : After-lists_first) → c.loop-look.look-index < length (map seen c.args.looks.now)
within c = let less = c.loop-look-test.true in omega (arith, length-map c.args.looks.now seen)

here : (c : After-lists_first) → get_or (map seen c.args.looks.now) c.loop-look.look-index (seen c.look-item.result) ≡ seen c.look-item.result
here c = get_or-map seen c.args.looks.now c.loop-look.look-index c.look-item.result (seen c.look-item.result) c.loop-look-test.true ∙ ap seen (sym c.look-item.is)

made : (c : After-lists_first) → c.grow.new.names.entries ≡ entries (after (map_of c.args.base.now) c.args.writes.now c.look-item.result.part.now.place)
made c = c.in_ok-done.ensures.made (map_of c.args.base.now) c.loop-look.invariant.tree

pub loop-look-preserved : goal.loop-look-preserved
loop-look-preserved c =
    let at = (goal.at.loop-look-preserved c).After-lists_first in
    let base : Map = map_of c.args.base.now in
    let writes = c.args.writes.now in
    let looks = c.args.looks.now in
    let i = c.loop-look.look-index in
    let look : PartLook = c.look-item.result in
    let first : ListsFirst (after base writes) (seen look) = (c.lists_first.ensures (after base writes look.part.now.place) (made at)).0 c.if-not-lists_first.false in
    record {
      tree = made at ∙ ap entries (sym (c.in_ok-done.ensures.same base));
      within = c.in_ok-done.ensures.within;
      earlier = λ k d later inside.
          let there : (get_or looks i d).part.now.place ≡ look.part.now.place = ap (λ (l : PartLook). l.part.now.place) (get_or_default looks i d look c.loop-look-test.true ∙ sym c.look-item.is) in
          let rises = c.requires i k d (omega arith) inside in
          omega (arith, there, rises, c.in_ok-done.ensures.earlier);
      first = subst (All (ListsFirst (after base writes))) (take-map seen (i + 1) looks)
          (All-more (ListsFirst (after base writes)) (map seen looks) i (seen look) (within at) (subst (All (ListsFirst (after base writes))) (sym (take-map seen i looks)) c.loop-look.invariant.first)
          (subst (ListsFirst (after base writes)) (sym (here at)) first));
    }

pub returns-then-not-lists_first : goal.returns-then-not-lists_first
returns-then-not-lists_first c =
    let at = (goal.at.returns-then-not-lists_first c).After-lists_first in
    let base : Map = map_of c.args.base.now in
    let writes = c.args.writes.now in
    let look : PartLook = c.look-item.result in (
      λ no. absurd (false≢true no),
      λ all.
          let first : ListsFirst (after base writes) (seen look) = subst (ListsFirst (after base writes)) (here at) (all c.loop-look.look-index (seen look) (within at)) in
          absurd (false≢true (sym c.if-not-lists_first.true ∙ (c.lists_first.ensures (after base writes look.part.now.place) (made at)).1 first)),
    )

pub returns : goal.returns
returns c =
    let base : Map = map_of c.args.base.now in (
      λ _. subst (λ (looks : List PartLook). All (ListsFirst (after base c.args.writes.now)) (map seen looks)) (take_all c.loop-look.look-index c.args.looks.now c.loop-look-test.false) c.loop-look.invariant.first,
      λ _. refl,
    )
