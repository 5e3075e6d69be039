use Rattle.std.proofs.Common.{rules, ◌≡◌, ◌+◌, ◌-◌, ◌<◌, ◌≤◌, false, inl, inr, refl, sym, subst, ap, ◌∙◌, arith}
use Rattle.std.proofs.lemmas.Bool.{cases_eq, false≢true}
use Rattle.tree_law.specs.Trees.{Nothing, Leaf, Cell, depth_of}
use Rattle.tree_law.specs.Words.{number_of, reference_of}
use Rattle.tree_floor.proofs.FloorExact.{reference_some, to_leaf, to_cell}
use Rattle.image_layer_rules.specs.Faults.{image_tree, IsWrong, leads_nowhere, has_no_cell}
use Rattle.image_layer_rules.specs.Checks.{IsWrongFrom}
use Rattle.image_layer_rules.proofs.CellLemmas.{child_read}
use Rattle.image_layer_rules.proofs.WalkLemmas.{to_nothing, wrong_here, leaf_only, wrong_below, depth_small, child_deeper, none_wrong}
use Rattle.image_layer_rules.proofs.walk.+is_wrong_from.Goals as goal
use Rattle.image_layer_rules.proofs.walk.+is_wrong_from.Goals.{else-child-ne0-via-then-child-ne0+else-is_wrong_from, else-child-ne0-via-else-child-ne0}

pub returns-then-reference-eq0 : goal.returns-then-reference-eq0
returns-then-reference-eq0 t c = (
  λ _. wrong_here c.args.image.now.layout c.args.image.now.words Nothing (reference_of c.args.reference) (to_nothing c.args.reference c.if-reference-eq0.true) leads_nowhere,
  λ _. refl,
)

pub returns-then-reference-eq-LEAF : goal.returns-then-reference-eq-LEAF
returns-then-reference-eq-LEAF t c =
    let l = c.args.image.now.layout in
    let image = c.args.image.now.words in
    let is = to_leaf c.args.reference c.if-reference-eq-LEAF.true in (
      λ yes. wrong_here l image (Leaf (number_of c.args.reference)) (reference_of c.args.reference) is (c.is_wrong_leaf.ensures.0 yes),
      λ wrong. c.is_wrong_leaf.ensures.1 (leaf_only l image (number_of c.args.reference) (reference_of c.args.reference) is wrong),
    )

pub returns-then-not-is_cell : goal.returns-then-not-is_cell
returns-then-not-is_cell t c =
    let l = c.args.image.now.layout in
    let image = c.args.image.now.words in
    let fails : c.is_cell.result ≡ false = search rules in
    let is = to_cell c.args.reference c.if-reference-eq0.false c.if-reference-eq-LEAF.false in
    (λ _. wrong_here l image (Cell c.args.reference) (reference_of c.args.reference) is (has_no_cell (sym c.is_cell.ensures ∙ fails)), λ _. refl)

pub returns-then-is_wrong_cell : goal.returns-then-is_wrong_cell
returns-then-is_wrong_cell t c =
    let l = c.args.image.now.layout in
    let image = c.args.image.now.words in
    let is = to_cell c.args.reference c.if-reference-eq0.false c.if-reference-eq-LEAF.false in
    (λ _. wrong_here l image (Cell c.args.reference) (reference_of c.args.reference) is (c.is_wrong_cell.ensures.0 c.if-is_wrong_cell.true), λ _. refl)

pub overflow_add-next : goal.overflow_add-next
overflow_add-next t c =
    let l = c.args.image.now.layout in
    let image = c.args.image.now.words in
    let right : ¬ IsWrong l image (Cell c.args.reference) = λ wrong. false≢true (sym c.if-is_wrong_cell.false ∙ c.is_wrong_cell.ensures.1 wrong) in
    let small = depth_small l image c.args.reference right in
    let depth : c.cell_word-next.result ≡ (image_tree l image).depth c.args.reference = c.cell_word-next.ensures in
    omega arith

pub is_wrong_from-requires : goal.is_wrong_from-requires
is_wrong_from-requires t c =
    let l = c.args.image.now.layout in
    let image = c.args.image.now.words in
    let x = c.args.reference in
    let right : ¬ IsWrong l image (Cell x) = λ wrong. false≢true (sym c.if-is_wrong_cell.false ∙ c.is_wrong_cell.ensures.1 wrong) in
    let small = depth_small l image x right in
    let depth : c.cell_word-next.result ≡ (image_tree l image).depth x = c.cell_word-next.ensures in
    let same = child_read l image x c.read_cell-cell.result c.read_cell-cell.ensures.kind c.read_cell-cell.ensures.words c.loop-byte.byte c.child_of-child.result c.child_of-child.ensures in
    let deeper = child_deeper l image x right c.loop-byte.byte (reference_of c.child_of-child.result) same (reference_some c.child_of-child.result c.if-child-ne0.true) in
    let least : c.args.least ≤ (image_tree l image).depth x = subst (λ r. c.args.least ≤ depth_of (image_tree l image) r) (to_cell x c.if-reference-eq0.false c.if-reference-eq-LEAF.false) c.requires in
    let measure = c.decreases in
    let less : 24 - (c.cell_word-next.result + 1) < t = omega arith in
    (less, (let deep : c.cell_word-next.result + 1 ≤ depth_of (image_tree l image) (reference_of c.child_of-child.result) = omega arith in deep))

pub returns-then-is_wrong_from : goal.returns-then-is_wrong_from
returns-then-is_wrong_from t c =
    let l = c.args.image.now.layout in
    let image = c.args.image.now.words in
    let x = c.args.reference in
    let is = to_cell x c.if-reference-eq0.false c.if-reference-eq-LEAF.false in
    let same = child_read l image x c.read_cell-cell.result c.read_cell-cell.ensures.kind c.read_cell-cell.ensures.words c.loop-byte.byte c.child_of-child.result c.child_of-child.ensures in (
      λ _. wrong_below l image x c.loop-byte.byte (reference_of x) (reference_of c.child_of-child.result) is same (reference_some c.child_of-child.result c.if-child-ne0.true) (c.is_wrong_from.ensures.0 c.if-is_wrong_from.true),
      λ _. refl,
    )

pub loop-byte-preserved : goal.loop-byte-preserved
loop-byte-preserved t c b lt some_child wrong =
    let l = c.args.image.now.layout in
    let image = c.args.image.now.words in
    let x = c.args.reference in
    let same = child_read l image x c.read_cell-cell.result c.read_cell-cell.ensures.kind c.read_cell-cell.ensures.words c.loop-byte.byte c.child_of-child.result c.child_of-child.ensures in
    elim (cases_eq b c.loop-byte.byte) [
      | inr apart ↦ c.loop-byte.invariant b (omega (arith, apart)) some_child wrong
      | inl is ↦
          let there : (image_tree l image).child x b ≡ reference_of c.child_of-child.result = ap ((image_tree l image).child x) is ∙ same in
          elim c.else-child-ne0.branch [
            | else-child-ne0-via-then-child-ne0+else-is_wrong_from w ↦ false≢true (sym w.if-is_wrong_from.false ∙ w.is_wrong_from.ensures.1 (subst (IsWrongFrom l image) there wrong))
            | else-child-ne0-via-else-child-ne0 w ↦ some_child (there ∙ to_nothing c.child_of-child.result w.if-child-ne0.false)
          ]
    ]

pub returns : goal.returns
returns t c =
    let l = c.args.image.now.layout in
    let image = c.args.image.now.words in
    let x = c.args.reference in
    let is = to_cell x c.if-reference-eq0.false c.if-reference-eq-LEAF.false in
    let right : ¬ IsWrong l image (Cell x) = λ wrong. false≢true (sym c.if-is_wrong_cell.false ∙ c.is_wrong_cell.ensures.1 wrong) in (
      λ yes. absurd (false≢true yes),
      λ wrong. absurd (none_wrong l image x right (reference_of x) is (λ b lt some_child. c.loop-byte.invariant b (omega arith) some_child) wrong),
    )
