-- What a cell says of the tree in which a grown cell stands with a leaf added to it.
use Rattle.std.proofs.Common.{◌≡◌, ℕ, ◌+◌, ◌<◌, ◌≤◌, ◌&&◌, sym, subst, ap, ap₂, ◌∙◌, arith, lt-ltb, le-leb}
use Rattle.pm_words.specs.Offsets.{prefix_offset}
use Rattle.radix_nodes.specs.declared.cell.Cell as cells
use Rattle.radix_nodes.specs.Cells.{children, IsForm, IsCell, words_of, children_of}
use Rattle.tree_law.specs.Words.{LayerWords, kind_of, number_of, reference_of, cell_in}
use Rattle.tree_law.proofs.WordLaw.{words_alike}
use Rattle.tree_change.specs.Filled.{StandsIn, LargerIsFilled}
use Rattle.tree_change.proofs.CellsAlike.{first_line, form_alike, children_alike}
use Rattle.tree_change.proofs.FilledLaw.{leaf_reference}

-- a cell of the row in which these words stand
module _ (w : LayerWords) (x : ℕ) (cell : cells.Cell) (stands : StandsIn w x cell) (is : IsCell cell) where
  pub head_stands : (o : ℕ) → o < 4 → cell_in w x o ≡ words_of cell o
  head_stands o lt = first_line cell.kind (words_of cell) (cell_in w x) is.kind.0 is.kind.1 stands.1 is.lawful.form o (omega arith)

  pub child_stands : (b : ℕ) → children (kind_of x) (cell_in w x) b ≡ children_of cell b
  child_stands b = ap (λ k. children k (cell_in w x) b) stands.0 ∙ children_alike cell.kind (words_of cell) (cell_in w x) is.kind.0 is.kind.1 stands.1 is.lawful.form b

  pub form_stands : IsForm (kind_of x) (cell_in w x)
  form_stands = subst (λ k. IsForm k (cell_in w x)) (sym stands.0) (form_alike cell.kind (words_of cell) (cell_in w x) is.kind.0 is.kind.1 stands.1 is.lawful.form)

pub larger_is_filled : LargerIsFilled
larger_is_filled count nodes w cell filled x larger b leaf is old has new within small =
    let head : (o : ℕ) → o < 4 → cell_in w larger o ≡ cell_in w x o = λ o lt. head_stands w larger filled new has.sound o lt ∙ has.head o lt ∙ sym (head_stands w x cell old is o lt) in
    let least : 2 ≤ kind_of larger = subst (λ k. 2 ≤ k) (sym new.0) has.sound.kind.0 in
    let most : kind_of larger ≤ 5 = subst (λ k. k ≤ 5) (sym new.0) has.sound.kind.1 in
    record {
      cell = record {
        number = ap₂ (λ p q. p && q) (ap₂ (λ p q. p && q) (le-leb 2 (kind_of larger) least) (le-leb (kind_of larger) 5 most)) (lt-ltb (number_of larger) count within);
        depth = head 0 (omega arith);
        prefix = words_alike (λ k. cell_in w larger (prefix_offset + k)) (λ k. cell_in w x (prefix_offset + k)) (λ k lt. head (prefix_offset + k) (omega arith));
        has_leaf = ap reference_of (child_stands w larger filled new has.sound b ∙ has.here) ∙ leaf_reference leaf small;
        others = λ c apart. ap reference_of (child_stands w larger filled new has.sound c ∙ has.others c apart ∙ sym (child_stands w x cell old is c));
      };
      form = form_stands w larger filled new has.sound;
    }
