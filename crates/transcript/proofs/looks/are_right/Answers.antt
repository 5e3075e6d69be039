use Rattle.std.proofs.Common.{◌≡◌, ◌∙◌, All, get_or, ap, sym, subst, refl, arith}
use Rattle.std.specs.FinMap.{entries}
use Rattle.std.proofs.lemmas.List.{get_or_default, take_all}
use Rattle.std.proofs.lemmas.List.Elements.{All-more}
use Rattle.cat_history.specs.Maps.{Map, map_of}
use Rattle.cat_history.specs.Writes.{after}
use Rattle.transcript.specs.Looks.{IsRight}
use Rattle.transcript.specs.declared.looks.Look.{Look}
use Rattle.transcript.proofs.looks.are_right.Goals as goal

pub loop-look-preserved : goal.loop-look-preserved
loop-look-preserved c =
    let base : Map = map_of c.args.base.now in
    let writes = c.args.writes.now in
    let looks = c.args.looks.now in
    let i = c.loop-look.look-index in
    let look : Look = c.look-item.result in
    let made : c.grow.new.names.entries ≡ entries (after base writes look.place) = c.in_ok-done.ensures.made base c.loop-look.invariant.tree in
    let right : IsRight (after base writes) look = (c.is_right.ensures (after base writes look.place) made).0 c.if-not-is_right.false in
    record {
      tree = made ∙ ap entries (sym (c.in_ok-done.ensures.same base));
      within = c.in_ok-done.ensures.within;
      earlier = λ k d later within.
          let here : (get_or looks i d).place ≡ look.place = ap (λ (l : Look). l.place) (get_or_default looks i d look c.loop-look-test.true ∙ sym c.look-item.is) in
          let rises = c.requires i k d (omega arith) within in
          omega (arith, here, rises, c.in_ok-done.ensures.earlier);
      right = All-more (IsRight (after base writes)) looks i look c.loop-look-test.true c.loop-look.invariant.right (subst (IsRight (after base writes)) c.look-item.is right);
    }

pub returns : goal.returns
returns c =
    let base : Map = map_of c.args.base.now in (
      λ _. subst (All (IsRight (after base c.args.writes.now))) (take_all c.loop-look.look-index c.args.looks.now c.loop-look-test.false) c.loop-look.invariant.right,
      λ _. refl,
    )
