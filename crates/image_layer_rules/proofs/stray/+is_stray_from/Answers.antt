use Rattle.std.proofs.Common.{◌+◌, ◌-◌, ◌<◌, inl, inr, refl, sym, subst, ap, ◌∙◌, arith}
use Rattle.std.proofs.lemmas.Bool.{cases_eq, false≢true}
use Rattle.tree_law.specs.Words.{number_of, reference_of}
use Rattle.image_layer_rules.specs.Faults.{image_tree}
use Rattle.image_layer_rules.specs.Covers.{IsStrayFrom}
use Rattle.image_layer_rules.proofs.CellLemmas.{child_read, cell_right, cell_small, reads_on}
use Rattle.tree_floor.proofs.FloorExact.{to_leaf, to_cell}
use Rattle.image_layer_rules.proofs.StrayLemmas.{stray_here, stray_only, stray_below, none_stray_below}
use Rattle.image_layer_rules.proofs.stray.+is_stray_from.Goals as goal

pub returns-then-reference-eq-LEAF : goal.returns-then-reference-eq-LEAF
returns-then-reference-eq-LEAF t c =
    let l = c.args.image.now.layout in
    let image = c.args.image.now.words in
    let s = reference_of c.args.reference in
    let i = number_of c.args.reference in
    let is = to_leaf c.args.reference c.if-reference-eq-LEAF.true in
    (λ yes. stray_here l image i s is (c.is_stray.ensures.0 yes), λ stray. c.is_stray.ensures.1 (stray_only l image i s is stray))

pub overflow_add-next : goal.overflow_add-next
overflow_add-next t c =
    let small = cell_small c.args.image.now.layout c.args.image.now.words c.args.reference c.if-reference-eq0.false c.if-reference-eq-LEAF.false c.requires.right c.cell_word-next.result c.cell_word-next.ensures in
    omega arith

pub is_stray_from-requires : goal.is_stray_from-requires
is_stray_from-requires t c =
    let on =
    reads_on c.args.image.now.layout c.args.image.now.words c.args.reference c.if-reference-eq0.false c.if-reference-eq-LEAF.false c.requires.right c.read_cell-cell.result c.read_cell-cell.ensures.kind
    c.read_cell-cell.ensures.words c.args.least c.cell_word-next.result c.cell_word-next.ensures c.requires.least c.loop-byte.byte c.child_of-child.result c.child_of-child.ensures in
    let later = on.later in
    let measure = c.decreases in
    let less : 24 - (c.cell_word-next.result + 1) < t = omega arith in
    (less, (c.requires.listed, (on.deep, on.fine)))

pub returns-then-is_stray_from : goal.returns-then-is_stray_from
returns-then-is_stray_from t c =
    let l = c.args.image.now.layout in
    let image = c.args.image.now.words in
    let x = c.args.reference in
    let same = child_read l image x c.read_cell-cell.result c.read_cell-cell.ensures.kind c.read_cell-cell.ensures.words c.loop-byte.byte c.child_of-child.result c.child_of-child.ensures in
    let is = to_cell x c.if-reference-eq0.false c.if-reference-eq-LEAF.false in
    (λ _. stray_below l image x c.loop-byte.byte (reference_of x) (reference_of c.child_of-child.result) is same (c.is_stray_from.ensures.0 c.if-is_stray_from.true), λ _. refl)

pub loop-byte-preserved : goal.loop-byte-preserved
loop-byte-preserved t c b lt stray =
    let l = c.args.image.now.layout in
    let image = c.args.image.now.words in
    let x = c.args.reference in
    let same = child_read l image x c.read_cell-cell.result c.read_cell-cell.ensures.kind c.read_cell-cell.ensures.words c.loop-byte.byte c.child_of-child.result c.child_of-child.ensures in
    elim (cases_eq b c.loop-byte.byte) [
      | inr apart ↦ c.loop-byte.invariant b (omega (arith, apart)) stray
      | inl here ↦ false≢true (sym c.if-is_stray_from.false ∙ c.is_stray_from.ensures.1 (subst (IsStrayFrom l image) (ap ((image_tree l image).child x) here ∙ same) stray))
    ]

pub returns : goal.returns
returns t c = (
  λ yes. absurd (false≢true yes),
  λ stray. absurd (none_stray_below c.args.image.now.layout c.args.image.now.words c.args.reference
      (cell_right c.args.image.now.layout c.args.image.now.words c.args.reference c.if-reference-eq0.false c.if-reference-eq-LEAF.false c.requires.right) (reference_of c.args.reference)
      (to_cell c.args.reference c.if-reference-eq0.false c.if-reference-eq-LEAF.false) (λ b lt. c.loop-byte.invariant b (omega arith)) stray),
)
