-- A row that is made of an image is at rest once the tree's marks are set.
use Rattle.std.proofs.Common.{◌≡◌, ◌≢◌, ℕ, ◌+◌, ◌*◌, ◌^◌, ◌<◌, ◌≤◌, ◌++◌, List, length, length-append, drop, replicate, inl, inr, sym, subst, ap, ◌∙◌, arith}
use Rattle.std.proofs.lemmas.List.{length-replicate}
use Rattle.std.proofs.Math.Seq.{drop-append_seam}
use Rattle.pm_words.specs.declared.layout.Layout.{Layout}
use Rattle.pm_words.specs.Locations.{Cached, Durable, leaf_count, image_words, volatile_words, durable_address, address_of}
use Rattle.pm_words.specs.Rows.{durable_row, row_of}
use Rattle.tree_law.specs.Trees.{Reference, Nothing, Leaf, Cell, Tree, Reaches, IsReached, IsTree}
use Rattle.tree_law.specs.Words.{IsLawful, word_in, kind_of, number_of, tree_of}
use Rattle.tree_law.specs.Marking.{MayHaveMark, kind_in, number_in}
use Rattle.tree_law.specs.Stages.{MarksTell}
use Rattle.tree_row.specs.Rows.{image_layer, layer_words}
use Rattle.tree_row.specs.RowMarks.{row_marks}
use Rattle.tree_row.proofs.RowLaw.{image_reads}
use Rattle.tree_row.proofs.MarkLaw.{image_has_no_marks}
use Rattle.tree_floor.proofs.FloorExact.{to_leaf, to_cell}
use Rattle.tree_marks.specs.Marked.{row_tree, row_room, part_with}
use Rattle.tree_marks.specs.Laws.{IsMarked, MarkedByWalk, MarkedIsAtRest, IsToldOf, MarksTellExactly, MarkingKeepsOthers, CrashLeavesImage}
use Rattle.tree_marks.proofs.MarkLemmas.{part_is, layer_stays, durable_stays, beside, crash_same}

one_zero : (n : ℕ) → n ≡ 1 → n ≡ 0 → ⊥
one_zero n one none = omega arith

leaf_part : (i : ℕ) → i < 2 ^ 16 → part_with 1 i ≡ Leaf i
leaf_part i small = to_leaf (1 * 2 ^ 16 + i) (omega arith) ∙ ap Leaf (let same : number_of (1 * 2 ^ 16 + i) ≡ i = omega arith in same)

cell_part : (x : ℕ) → 2 ≤ kind_of x → part_with (kind_of x) (number_of x) ≡ Cell x
cell_part x low = part_is x ∙ to_cell x (λ none. omega arith) (λ one. omega arith)

-- the part of a mark
own_part : (q : Reference) → MayHaveMark q → number_in q < 2 ^ 16 → part_with (kind_in q) (number_in q) ≡ q
own_part Nothing may small = absurd may
own_part (Leaf i) may small = leaf_part i small
own_part (Cell x) may small = cell_part x may.0

module _ (l : Layout) (image after : List ℕ) (m : IsMarked l image after) where
  t : Tree
  t = tree_of (image_layer l image)

  count_small : leaf_count l < 2 ^ 16
  count_small = let nodes = m.is.layout.nodes in omega arith

  same_tree : row_tree l (row_of l image) ≡ tree_of (image_layer l image)
  same_tree = ap tree_of (image_reads l image m.is).0

  cached_is : layer_words l after Cached ≡ image_layer l image
  cached_is = layer_stays l (row_of l image) (row_tree l (row_of l image)).root after m.marks ∙ (image_reads l image m.is).0

  durable_is : layer_words l after Durable ≡ image_layer l image
  durable_is = durable_stays l (row_of l image) (row_tree l (row_of l image)).root after m.marks ∙ (image_reads l image m.is).1

  -- a leaf or a cell that is reached has its mark
  reached_one : (q : Reference) → IsReached (tree_of (image_layer l image)) q → row_marks l after (kind_in q) (number_in q) ≡ 1
  reached_one q way = m.all q (subst (λ s. IsReached s q) (sym same_tree) way)

  -- and any other has none
  told : (q : Reference) → MayHaveMark q → number_in q < leaf_count l → IsToldOf l image after q
  told q may within = elim (m.marks.marks (kind_in q) (number_in q)) [
    | inr one ↦ inl (subst (λ s. IsReached s q) same_tree (subst (Reaches (row_tree l (row_of l image)) (row_tree l (row_of l image)).root) (own_part q may (let small = count_small in omega arith)) one.1), one.0)
    | inl same ↦
        let none = same ∙ image_has_no_marks l image (kind_in q) (number_in q) in
        inr ((λ way. one_zero _ (reached_one q way) none), none)
  ]

  some_reached : (q : Reference) → MayHaveMark q → number_in q < leaf_count l → row_marks l after (kind_in q) (number_in q) ≢ 0 → IsReached (tree_of (image_layer l image)) q
  some_reached q may within some_mark = elim (told q may within) [ inl yes_here ↦ yes_here.0 | inr none ↦ absurd (some_mark none.1) ]

  tells : MarksTell (leaf_count l) (row_marks l after) (image_layer l image)
  tells = record {
    leaf = λ i lt some_mark. some_reached (Leaf i) tt lt some_mark;
    cell = λ x low high lt some_mark. some_reached (Cell x) (low, high) lt some_mark;
    used_leaf = λ i way none. one_zero _ (reached_one (Leaf i) way) none;
    used_cell = λ x way none. one_zero _ (reached_one (Cell x) way) none;
  }

pub marked_by_walk : MarkedByWalk
marked_by_walk l image after is lawful marks all = record {
  is = is;
  lawful = lawful;
  marks = marks;
  all = all (subst (IsTree (row_room l)) (sym (ap tree_of (image_reads l image is).0)) lawful.tree);
}

pub marked_is_at_rest : MarkedIsAtRest
marked_is_at_rest l image after m =
    let cached = cached_is l image after m in (
      record {
        lawful = subst (IsLawful (leaf_count l) l.nodes) (sym cached) m.lawful;
        even = λ p. ap (λ w. word_in w p) (durable_is l image after m ∙ sym cached);
        tells = subst (MarksTell (leaf_count l) (row_marks l after)) (sym cached) (tells l image after m);
      },
      cached,
    )

pub marks_tell_exactly : MarksTellExactly
marks_tell_exactly l image after m q may within = told l image after m q may within

pub marking_keeps_others : MarkingKeepsOthers
marking_keeps_others l image after m p has none = m.marks.others (address_of l p) (beside l p has none)

-- what a crash leaves of a row that is made of an image
durable_of : (l : Layout) (image : List ℕ) → length image ≡ image_words l → durable_row l (row_of l image) ≡ image
durable_of l image whole =
    let zeros : List ℕ = replicate (volatile_words l) 0 in
    let a = length-replicate {A = ℕ} (volatile_words l) 0 in
    let b = length-append zeros image in
    let there : durable_address l 0 ≡ length (zeros ++ image) = omega arith in
    ap (λ n. drop n (row_of l image)) there ∙ drop-append_seam (zeros ++ image) image

pub crash_leaves_image : CrashLeavesImage
crash_leaves_image l image after m =
    crash_same l (row_of l image) (row_tree l (row_of l image)).root after m.marks ∙ durable_of l image m.is.whole
