-- A cell that the tree reaches, as it was read whole, is one in order.
use Rattle.std.proofs.Common.{◌≡◌, ◌≢◌, ℕ, ◌+◌, ◌^◌, ◌<◌, ◌≤◌, ◌&&◌, leb, ltb, inl, inr, sym, subst, ap, ◌∙◌, arith}
use Rattle.std.proofs.lemmas.Bool.{cases_lt, leb-true, and_parts}
use Rattle.pm_words.specs.Locations.{kind_words}
use Rattle.pm_words.specs.Offsets.{depth_offset, prefix_offset}
use Rattle.radix_nodes.specs.declared.cell.Cell as cells
use Rattle.radix_nodes.specs.Keys.{key_bytes, EndsAt}
use Rattle.radix_nodes.specs.Cells.{children, prefix_words, IsForm, IsReference, AreReferences, words_of, children_of}
use Rattle.tree_law.specs.Trees.{Nothing, Cell, here, IsReached, byte_at}
use Rattle.tree_law.specs.Trees as trees
use Rattle.tree_law.specs.Switches.{Entry}
use Rattle.tree_law.specs.Words.{LayerWord, CellWord, LayerWords, word_in, kind_of, number_of, reference_of, cell_in, tree_of, room_of, IsLawful}
use Rattle.tree_law.proofs.SwitchLaw.{below_old}
use Rattle.tree_law.proofs.WordLaw.{words_alike}
use Rattle.tree_floor.proofs.FloorExact.{reference_some}
use Rattle.tree_floor.proofs.KeyNumbers.{byte_is_of_number, byte_behind}
use Rattle.tree_change.specs.Filled.{StandsIn}
use Rattle.tree_change.specs.Reads.{IsReadOf, ReadIsCell}
use Rattle.tree_change.proofs.CountedLaw.{reference_sound}
use Rattle.tree_change.proofs.CellsAlike.{first_line, form_alike, children_alike}

module _ (count nodes : ℕ) (w : LayerWords) (x : ℕ) (cell : cells.Cell) (lawful : IsLawful count nodes w) (reached : IsReached (tree_of w) (Cell x)) (stands : StandsIn w x cell) where
  sound : trees.IsCell (room_of count nodes) (tree_of w) x
  sound = lawful.tree (Cell x) reached

  kinds : (2 ≤ kind_of x) × (kind_of x ≤ 5)
  kinds =
      let parts = and_parts (leb 2 (kind_of x) && leb (kind_of x) 5) (ltb (number_of x) count) sound.number in
      let both = and_parts (leb 2 (kind_of x)) (leb (kind_of x) 5) parts.0 in
      (leb-true _ _ both.0, leb-true _ _ both.1)

  same : (o : ℕ) → o < kind_words (kind_of x) → words_of cell o ≡ cell_in w x o
  same o lt = sym (stands.1 o (subst (λ k. o < kind_words k) stands.0 lt))

  form : IsForm (kind_of x) (cell_in w x)
  form = lawful.forms x reached

  head : (o : ℕ) → o < 8 → words_of cell o ≡ cell_in w x o
  head o lt = first_line (kind_of x) (cell_in w x) (words_of cell) kinds.0 kinds.1 same form o lt

  pub form_read : IsForm cell.kind (words_of cell)
  form_read = subst (λ k. IsForm k (words_of cell)) stands.0 (form_alike (kind_of x) (cell_in w x) (words_of cell) kinds.0 kinds.1 same form)

  child_read : (b : ℕ) → children_of cell b ≡ children (kind_of x) (cell_in w x) b
  child_read b = ap (λ k. children k (words_of cell) b) (sym stands.0) ∙ children_alike (kind_of x) (cell_in w x) (words_of cell) kinds.0 kinds.1 same form b

  pub prefix_ends : ((o : ℕ) → words_of cell o < 2 ^ 64) → EndsAt (words_of cell depth_offset) (prefix_words (words_of cell))
  prefix_ends fits at le lt =
      let depth = cell_in w x depth_offset in
      let behind : depth ≤ at = subst (λ d. d ≤ at) (head depth_offset (omega arith)) le in
      byte_is_of_number (prefix_words (words_of cell)) at (λ k. fits (prefix_offset + k)) lt
      ∙ ap (byte_at at) (words_alike (prefix_words (words_of cell)) (prefix_words (cell_in w x)) (λ k less. head (prefix_offset + k) (omega arith)) ∙ sym sound.zeros)
      ∙ byte_behind depth ((tree_of w).prefix x) sound.depth at behind lt

  pub references_read : AreReferences (children_of cell)
  references_read b some_child =
      let r = children (kind_of x) (cell_in w x) b in
      let some_here : r ≢ 0 = λ e. some_child (child_read b ∙ e) in
      let below = below_old (tree_of w) (Entry x b) (reference_of r) reached (reference_some r some_here) here in
      subst IsReference (sym (child_read b)) (reference_sound count nodes w r some_here (lawful.tree (reference_of r) below))

  pub child_stays : (b : ℕ) → (tree_of w).child x b ≢ Nothing → children_of cell b ≢ 0
  child_stays b some_child none = some_child (ap reference_of (sym (child_read b) ∙ none))

-- each of its words has 64 bits
read_fits : (w : LayerWords) (x : ℕ) (cell : cells.Cell) → IsReadOf w x cell → ((p : LayerWord) → word_in w p < 2 ^ 64) → (o : ℕ) → words_of cell o < 2 ^ 64
read_fits w x cell read small o = elim (cases_lt o (kind_words cell.kind)) [
  | inl before ↦ subst (λ v. v < 2 ^ 64) (read.stands.1 o before) (small (CellWord (kind_of x) (number_of x) o))
  | inr past ↦ subst (λ v. v < 2 ^ 64) (sym (read.behind o past)) (omega arith)
]

pub read_is_cell : ReadIsCell
read_is_cell count nodes w x cell lawful reached read small =
    let stands = read.stands in
    let is = sound count nodes w x cell lawful reached stands in
    let both = kinds count nodes w x cell lawful reached stands in
    record {
      kind = (subst (λ k. 2 ≤ k) stands.0 both.0, subst (λ k. k ≤ 5) stands.0 both.1);
      behind = read.behind;
      lawful = record {
        form = form_read count nodes w x cell lawful reached stands;
        depth = subst (λ d. d < key_bytes) (sym (head count nodes w x cell lawful reached stands 0 (omega arith))) is.depth;
        prefix = prefix_ends count nodes w x cell lawful reached stands (read_fits w x cell read small);
        references = references_read count nodes w x cell lawful reached stands;
        two = record {
          one = is.two.one;
          two = is.two.two;
          apart = is.two.apart;
          has_one = child_stays count nodes w x cell lawful reached stands is.two.one is.two.has_one;
          has_two = child_stays count nodes w x cell lawful reached stands is.two.two is.two.has_two;
        };
      };
    }
