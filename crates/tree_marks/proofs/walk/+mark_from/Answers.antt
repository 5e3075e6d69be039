use Rattle.std.proofs.Common.{rules, ◌≡◌, ℕ, ◌+◌, ◌<◌, ◌≤◌, ◌⊎◌, true, false, inl, inr, sym, subst, ap, ◌∙◌, arith}
use Rattle.pm_words.specs.declared.layout.Layout.{Layout}
use Rattle.pm_words.specs.Images.{Row}
use Rattle.radix_nodes.specs.Keys.{key_bytes}
use Rattle.tree_law.specs.Trees.{IsSoundFrom, depth_of}
use Rattle.tree_law.specs.Words.{reference_of}
use Rattle.tree_marks.specs.Marked.{row_tree, row_room, MarksFrom, AreMarked}
use Rattle.tree_marks.proofs.MarkLemmas.{IsPassing, begins_passing, goes_passing, ends_passing, to_own_cell, no_cell, not_deep, child_is}
use Rattle.tree_marks.proofs.walk.+mark_from.Goals as goal
use Rattle.tree_marks.proofs.walk.+mark_from.Goals.{then-depth-least-via-then-depth-least, then-depth-least-via-else-depth-least+then-depth-ge-KEY_BYTES}

pub returns-then-not-is_cell-clause-all : goal.returns-then-not-is_cell-clause-all
returns-then-not-is_cell-clause-all t c enough sound =
    let fails : c.is_cell.result ≡ false = search rules in
    absurd (no_cell c.args.memory.now.layout c.args.memory.now.words c.args.reference c.if-reference-eq-LEAF.false (sym c.is_cell.ensures ∙ fails) sound)

pub returns-then-depth-least-clause-all : goal.returns-then-depth-least-clause-all
returns-then-depth-least-clause-all t c enough sound =
    let is : c.is_cell.result ≡ true = search rules in
    let depth = c.cell_word-depth.result in
    let wrong : (depth < c.args.least) ⊎ (key_bytes ≤ depth) = elim c.then-depth-least.branch [
      | then-depth-least-via-then-depth-least w ↦ inl w.if-depth-least.true
      | then-depth-least-via-else-depth-least+then-depth-ge-KEY_BYTES w ↦ inr w.if-depth-ge-KEY_BYTES.true
    ] in
    absurd (not_deep c.args.memory.now.layout c.args.memory.now.words c.args.reference depth c.args.least c.if-reference-eq-LEAF.false (sym c.is_cell.ensures ∙ is) c.cell_word-depth.ensures wrong enough sound)

pub loop-byte-init : goal.loop-byte-init
loop-byte-init t c =
    let l = c.args.memory.now.layout in
    let words = c.args.memory.now.words in
    let x = c.args.reference in
    let is : c.is_cell.result ≡ true = search rules in
    let cell = sym c.is_cell.ensures ∙ is in
    record {
      layout = ap (λ (r : Row). r.layout) c.set_mark.ensures.set;
      passing = subst (λ now. IsPassing l words x now 0) (sym (ap (λ (r : Row). r.words) c.set_mark.ensures.set))
          (begins_passing l words x c.set_mark.ensures.row.whole cell (to_own_cell l x c.if-reference-eq-LEAF.false cell));
    }

pub loop-byte-preserved : goal.loop-byte-preserved
loop-byte-preserved t c =
    let l = c.args.memory.now.layout in
    let words = c.args.memory.now.words in
    let x = c.args.reference in
    let now = c.loop-byte.memory.words in
    let after = c.mark_from.new.memory.words in
    let child = c.child_of.result in
    let depth = c.cell_word-depth.result in
    let same = c.loop-byte.invariant.layout in
    let is = child_is l words x c.read_cell-cell.result c.read_cell-cell.ensures.kind c.read_cell-cell.ensures.words c.loop-byte.byte child c.child_of.ensures in
    let marks = subst (λ (k : Layout). MarksFrom k now (reference_of child) after) same c.mark_from.ensures.marks in
    let all = subst (λ (k : Layout). depth + 1 ≤ depth_of (row_tree k now) (reference_of child) → IsSoundFrom (row_room k) (row_tree k now) (reference_of child) → AreMarked k now (reference_of child) after) same c.mark_from.ensures.all in
    let deep = subst (λ (d : ℕ). d + 1 ≤ depth_of (row_tree l now) (reference_of child) → IsSoundFrom (row_room l) (row_tree l now) (reference_of child) → AreMarked l now (reference_of child) after) c.cell_word-depth.ensures all in
    record {
      layout = c.mark_from.ensures.layout ∙ same;
      passing = goes_passing l words x now after c.loop-byte.byte child c.loop-byte.invariant.passing is marks deep;
    }

pub returns-clause-all : goal.returns-clause-all
returns-clause-all t c enough sound =
    let l = c.args.memory.now.layout in
    let words = c.args.memory.now.words in
    let x = c.args.reference in
    let is : c.is_cell.result ≡ true = search rules in
    let cell = to_own_cell l x c.if-reference-eq-LEAF.false (sym c.is_cell.ensures ∙ is) in
    subst (λ r. AreMarked l words r c.loop-byte.memory.words) (sym cell)
    (ends_passing l words x c.loop-byte.memory.words c.loop-byte.byte (omega arith) c.loop-byte.invariant.passing (subst (IsSoundFrom (row_room l) (row_tree l words)) cell sound))
