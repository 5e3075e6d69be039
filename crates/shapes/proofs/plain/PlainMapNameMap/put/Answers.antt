use Rattle.std.proofs.Common.{◌≡◌, Some, [], ◌∷◌, length, refl, sym, ap, ◌∙◌, arith, length-append}
use Rattle.std.proofs.lemmas.Bool.{false≢true}
use Rattle.std.proofs.Math.ListN.{length-set}
use Rattle.std.specs.FinMap.{insert, len}
use Rattle.cat_key.specs.declared.Pair.{Pair}
use Rattle.cat_history.specs.Maps.{at}
use Rattle.cat_history.proofs.PairLemmas.{at-lacking}
use Rattle.shapes.proofs.PlainMapLemmas.{pushed, at-position, at-there, few-names, len-map_of, map_of-written, differ-written, map_of-pushed, differ-pushed}
use Rattle.shapes.proofs.OneMember.{one_full, one_stays}
use Rattle.shapes.proofs.Shapes.{one_node_is_room}
use Rattle.shapes.proofs.plain.PlainMapNameMap.put.Goals as goal

pub invariant_of-self : goal.invariant_of-self
invariant_of-self c =
    let within = rw c.deref.ensures.value at c.in-Some.ensures.within in
    let named = rw c.deref.ensures.value at c.in-Some.ensures.named in
    let was = c.self.invariant in
    let pairs = c.self.inside.pairs.items in
    let name_is : c.index_mut.result.now.name ≡ c.args.name.now = ap (λ (p : Pair). p.name) c.index_mut.ensures.value ∙ named c.index_mut.result.now in
    record {
      differ = rw name_is (differ-written pairs c.in-Some.position c.args.name.now c.replace-old.new.dest was.differ within named);
      fits = omega (arith, was.fits, length-set pairs c.in-Some.position (record { name = c.index_mut.result.now.name; value = c.replace-old.new.dest }));
      reserved = was.reserved;
    }

pub returns-in-Some-clause-old : goal.returns-in-Some-clause-old
returns-in-Some-clause-old c =
    let within = rw c.deref.ensures.value at c.in-Some.ensures.within in
    let named = rw c.deref.ensures.value at c.in-Some.ensures.named in
    ap Some (c.replace-old.ensures.value ∙ ap (λ (p : Pair). p.value) c.index_mut.ensures.value)
    ∙ sym (at-position c.self.inside.pairs.items c.in-Some.position c.args.name.now c.index_mut.result.now c.self.invariant.differ within named)
    ∙ ap (λ m. at m.contents c.args.name.now) c.self.view_is

pub returns-in-Some-clause-ok : goal.returns-in-Some-clause-ok
returns-in-Some-clause-ok c =
    let within = rw c.deref.ensures.value at c.in-Some.ensures.within in
    let named = rw c.deref.ensures.value at c.in-Some.ensures.named in
    let pairs = c.self.inside.pairs.items in
    let name_is : c.index_mut.result.now.name ≡ c.args.name.now = ap (λ (p : Pair). p.name) c.index_mut.ensures.value ∙ named c.index_mut.result.now in
    rw (name_is, c.replace-old.ensures.after)
    (map_of-written pairs c.in-Some.position c.args.name.now c.args.value c.self.invariant.differ within named
    ∙ ap (λ m. insert m.contents c.args.name.now c.args.value) c.self.view_is)

pub returns-in-Some-clause-full : goal.returns-in-Some-clause-full
returns-in-Some-clause-full c =
    let within = rw c.deref.ensures.value at c.in-Some.ensures.within in
    let named = rw c.deref.ensures.value at c.in-Some.ensures.named in
    let there = at-there c.self.inside.pairs.items c.in-Some.position c.args.name.now c.index_mut.result.now c.self.invariant.differ within named in
    (λ e. absurd (false≢true e), λ full. absurd (there (ap (λ m. at m.contents c.args.name.now) c.self.view_is ∙ full.lacks)))

pub returns-in-Some-clause-splits : goal.returns-in-Some-clause-splits
returns-in-Some-clause-splits c =
    let within = rw c.deref.ensures.value at c.in-Some.ensures.within in
    let named = rw c.deref.ensures.value at c.in-Some.ensures.named in
    let there = at-there c.self.inside.pairs.items c.in-Some.position c.args.name.now c.index_mut.result.now c.self.invariant.differ within named in
    sym (one_stays c.args.self.now.room c.args.self.now.contents c.args.name.now (λ full. there (ap (λ m. at m.contents c.args.name.now) c.self.view_is ∙ full.lacks)))

pub returns-then-len-self-clause-full : goal.returns-then-len-self-clause-full
returns-then-len-self-clause-full c =
    let lacks = rw c.deref.ensures.value at c.in_default.ensures.none in
    let pairs = c.self.inside.pairs in
    let few = few-names pairs.items _ _ _ _ c.self.invariant (ap (λ m. m.contents) c.self.view_is) (ap (λ m. m.room) c.self.view_is) in
    one_full c.args.self.now.room c.args.self.now.contents c.args.name.now few (
      λ _. (
        ap (λ m. at m.contents c.args.name.now) (sym c.self.view_is) ∙ at-lacking pairs.items c.args.name.now lacks,
        omega (arith, pairs.ok.0, c.len.ensures, c.if-len-self.true, len-map_of pairs.items c.self.invariant.differ, ap (λ m. len m.contents) c.self.view_is, ap (λ m. m.room) c.self.view_is),
      ),
      λ _. refl,
    )

pub invariant_of-self-2 : goal.invariant_of-self-2
invariant_of-self-2 c =
    let lacks = at-lacking c.self.inside.pairs.items c.args.name.now (rw c.deref.ensures.value at c.in_default.ensures.none) in
    let was = c.self.invariant in
    let items = c.self.inside.pairs.items in
    let grown : c.push_reserved.new.self.items ≡ pushed items c.args.name.now c.args.value = c.push_reserved.ensures.items in
    record {
      differ = rw grown (differ-pushed items c.args.name.now c.args.value was.differ lacks);
      fits = omega (arith, was.fits, c.if-len-self.false, c.len.ensures, c.self.inside.pairs.ok.0, ap length grown, length-append items (record { name = c.args.name.now; value = c.args.value } ∷ []));
      reserved = omega (arith, was.reserved, c.push_reserved.ensures.capacity);
    }

pub returns-clause-old : goal.returns-clause-old
returns-clause-old c =
    sym (ap (λ m. at m.contents c.args.name.now) (sym c.self.view_is) ∙ at-lacking c.self.inside.pairs.items c.args.name.now (rw c.deref.ensures.value at c.in_default.ensures.none))

pub returns-clause-ok : goal.returns-clause-ok
returns-clause-ok c =
    let lacks = at-lacking c.self.inside.pairs.items c.args.name.now (rw c.deref.ensures.value at c.in_default.ensures.none) in
    let items = c.self.inside.pairs.items in
    let grown : c.push_reserved.new.self.items ≡ pushed items c.args.name.now c.args.value = c.push_reserved.ensures.items in
    rw grown (map_of-pushed items c.args.name.now c.args.value lacks) ∙ ap (λ m. insert m.contents c.args.name.now c.args.value) c.self.view_is

pub returns-clause-full : goal.returns-clause-full
returns-clause-full c =
    let pairs = c.self.inside.pairs in
    let few = few-names pairs.items _ _ _ _ c.self.invariant (ap (λ m. m.contents) c.self.view_is) (ap (λ m. m.room) c.self.view_is) in
    one_full c.args.self.now.room c.args.self.now.contents c.args.name.now few (
      λ e. absurd (false≢true e),
      λ full. absurd (omega (arith, full.1, c.if-len-self.false, pairs.ok.0, c.len.ensures, len-map_of pairs.items c.self.invariant.differ, ap (λ m. len m.contents) c.self.view_is, ap (λ m. m.room) c.self.view_is)),
    )

pub returns-clause-splits : goal.returns-clause-splits
returns-clause-splits c =
    let pairs = c.self.inside.pairs in
    let few = few-names pairs.items _ _ _ _ c.self.invariant (ap (λ m. m.contents) c.self.view_is) (ap (λ m. m.room) c.self.view_is) in
    let is = one_node_is_room c.args.self.now.room c.args.self.now.contents c.args.name.now few in
    sym (one_stays c.args.self.now.room c.args.self.now.contents c.args.name.now
    (λ full. let none = is.0 full in omega (arith, none.1, c.if-len-self.false, pairs.ok.0, c.len.ensures, len-map_of pairs.items c.self.invariant.differ, ap (λ m. len m.contents) c.self.view_is, ap (λ m. m.room) c.self.view_is)))
