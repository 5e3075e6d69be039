use Rattle.std.proofs.Common.{Some, sym, ap, ◌∙◌, arith}
use Rattle.std.specs.FinMap.{remove}
use Rattle.cat_history.specs.Maps.{at, map_of}
use Rattle.cat_history.proofs.PairLemmas.{at-lacking}
use Rattle.shapes.proofs.PlainMapLemmas.{at-position, removed-lacking, map_of-removed, differ-removed}
use Rattle.shapes.proofs.OneMember.{one_merges_none}
use Rattle.shapes.proofs.plain.PlainMapNameMap.del.Goals as goal

pub returns-in_err-position-clause-old : goal.returns-in_err-position-clause-old
returns-in_err-position-clause-old c =
    let lacks = rw c.deref.ensures.value at c.in_err-position.ensures.none in
    c.from_residual.ensures ∙ sym (at-lacking c.self.inside.pairs.items c.args.name.now lacks) ∙ ap (λ m. at m.contents c.args.name.now) c.self.view_is

pub returns-in_err-position-clause-after : goal.returns-in_err-position-clause-after
returns-in_err-position-clause-after c =
    let lacks = rw c.deref.ensures.value at c.in_err-position.ensures.none in
    sym (removed-lacking c.args.self.now.contents c.args.name.now
    (ap (λ m. at m.contents c.args.name.now) (sym c.self.view_is) ∙ at-lacking c.self.inside.pairs.items c.args.name.now lacks))

pub invariant_of-self : goal.invariant_of-self
invariant_of-self c =
    let within = rw c.deref.ensures.value at c.in_ok-position.ensures.within in
    let named = rw c.deref.ensures.value at c.in_ok-position.ensures.named in
    let was = c.self.invariant in
    record {
      differ = rw c.remove.ensures.items (differ-removed c.self.inside.pairs.items c.in_ok-position.position c.args.name.now was.differ within named);
      fits = omega (arith, c.remove.ensures.len, was.fits, c.self.inside.pairs.ok.0, c.remove.new.self.ok.0);
      reserved = rw c.remove.ensures.capacity was.reserved;
    }

pub returns-clause-old : goal.returns-clause-old
returns-clause-old c =
    let within = rw c.deref.ensures.value at c.in_ok-position.ensures.within in
    let named = rw c.deref.ensures.value at c.in_ok-position.ensures.named in
    let pairs = c.self.inside.pairs.items in
    ap (λ p. Some p.value) c.remove.ensures.value
    ∙ sym (at-position pairs c.in_ok-position.position c.args.name.now c.remove.result c.self.invariant.differ within named)
    ∙ ap (λ m. at m.contents c.args.name.now) c.self.view_is

pub returns-clause-after : goal.returns-clause-after
returns-clause-after c =
    let within = rw c.deref.ensures.value at c.in_ok-position.ensures.within in
    let named = rw c.deref.ensures.value at c.in_ok-position.ensures.named in
    ap map_of c.remove.ensures.items
    ∙ map_of-removed c.self.inside.pairs.items c.in_ok-position.position c.args.name.now c.self.invariant.differ within named
    ∙ ap (λ m. remove m.contents c.args.name.now) c.self.view_is

pub returns-in_err-position-clause-anchors : goal.returns-in_err-position-clause-anchors
returns-in_err-position-clause-anchors c = sym (one_merges_none c.args.self.now.room c.args.self.now.contents c.args.name.now)

pub returns-clause-anchors : goal.returns-clause-anchors
returns-clause-anchors c = sym (one_merges_none c.args.self.now.room c.args.self.now.contents c.args.name.now)
