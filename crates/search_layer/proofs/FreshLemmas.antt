-- The row of a fresh image has the words of an empty tree.
use Rattle.std.proofs.Common.{◌≡◌, ℕ, ◌==◌, ◌&&◌, Bool, true, false, cond, inl, inr, refl, sym, subst, ap, ◌∙◌, arith}
use Rattle.std.proofs.lemmas.Bool.{cases_eq, ne_eqb}
use Rattle.pm_words.specs.declared.layout.Layout.{Layout}
use Rattle.pm_words.specs.Layouts.{IsLayout}
use Rattle.pm_words.specs.Locations.{Cached, Durable, leaf_count}
use Rattle.pm_words.specs.Images.{fresh_words}
use Rattle.pm_words.specs.Rows.{row_of}
use Rattle.pm_words.proofs.Made.{fresh_image}
use Rattle.tree_law.specs.Trees as trees
use Rattle.tree_law.specs.Words.{word_in, AreEven}
use Rattle.tree_law.specs.Marking.{IsMarkSet}
use Rattle.tree_law.specs.Stages.{Marks, MarksTell}
use Rattle.tree_law.specs.Fresh as tree
use Rattle.tree_law.proofs.FreshLaw.{fresh_is_lawful}
use Rattle.tree_row.specs.Rows.{image_layer, layer_words, IsFreshLayer}
use Rattle.tree_row.specs.RowMarks.{row_marks}
use Rattle.tree_row.proofs.FreshRow.{fresh_reads, fresh_keeps}
use Rattle.tree_row.proofs.RowLaw.{image_reads}
use Rattle.tree_row.proofs.MarkLaw.{image_has_no_marks}
use Rattle.search_layer.specs.Fresh.{FreshIsAtRest}

-- marks of which the first leaf's alone is set
first_mark : (m : Marks) → ((kind n : ℕ) → (kind ≡ 1 → n ≡ 0 → ⊥) → m kind n ≡ 0) → m 1 0 ≡ 1 → (kind n : ℕ) → m kind n ≡ tree.fresh_marks kind n
first_mark m others own kind n = elim (cases_eq kind 1) [
  | inl one ↦ elim (cases_eq n 0) [
    | inl first ↦ subst (λ k. m k n ≡ tree.fresh_marks k n) (sym one) (subst (λ k. m 1 k ≡ tree.fresh_marks 1 k) (sym first) own)
    | inr other ↦ others kind n (λ e is. other is) ∙ sym (ap (λ b. cond {A = ℕ} ((kind == 1) && b) 1 0) (ne_eqb n 0 other) ∙ second (kind == 1))
  ]
  | inr other ↦ others kind n (λ e is. other e) ∙ sym (ap (λ b. cond {A = ℕ} (b && (n == 0)) 1 0) (ne_eqb kind 1 other))
]
  where
    second : (b : Bool) → cond {A = ℕ} (b && false) 1 0 ≡ 0
    second true = refl
    second false = refl

module _ (l : Layout) (layout : IsLayout l) where
  both : (layer_words l (row_of l (fresh_words l)) Cached ≡ image_layer l (fresh_words l)) × (layer_words l (row_of l (fresh_words l)) Durable ≡ image_layer l (fresh_words l))
  both = image_reads l (fresh_words l) (fresh_image l layout)

  fresh : IsFreshLayer l (layer_words l (row_of l (fresh_words l)) Cached)
  fresh = subst (IsFreshLayer l) (sym both.0) (fresh_keeps l layout)

  even : AreEven (layer_words l (row_of l (fresh_words l)) Cached) (layer_words l (row_of l (fresh_words l)) Durable)
  even p = ap (λ w. word_in w p) (both.1 ∙ sym both.0)

  tells : (m : Marks) → IsMarkSet (row_marks l (row_of l (fresh_words l))) m (trees.Leaf 0) 1 → MarksTell (leaf_count l) m (layer_words l (row_of l (fresh_words l)) Cached)
  tells m set =
      let is : (kind n : ℕ) → m kind n ≡ tree.fresh_marks kind n = first_mark m (λ kind n other. set.others kind n other ∙ image_has_no_marks l (fresh_words l) kind n) set.here in
      let marks : m ≡ tree.fresh_marks = λ x kind n. is kind n x in
      subst (MarksTell (leaf_count l) m) (sym (both.0 ∙ fresh_reads l layout)) (subst (λ k. MarksTell (leaf_count l) k tree.fresh_words) (sym marks) (fresh_is_lawful (leaf_count l) l.nodes layout.nodes.0 (omega arith)).1)

pub fresh_is_at_rest : FreshIsAtRest
fresh_is_at_rest l layout = record {
  order = (fresh l layout).keeps.lawful;
  even = even l layout;
  few = (fresh l layout).few;
  layer = (fresh l layout).keeps.same;
  tells = tells l layout;
}
