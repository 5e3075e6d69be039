-- What a count of other children says of the tree.
use Rattle.std.proofs.Common.{◌≡◌, ◌≢◌, ℕ, ◌/◌, ◌^◌, ◌<◌, ◌≤◌, ◌&&◌, cond, ltb, leb, inl, inr, sym, subst, ap, ap₂, ◌∙◌, arith}
use Rattle.std.proofs.lemmas.Bool.{cases_eq, ne_eqb, leb-true, and_parts}
use Rattle.radix_nodes.specs.Cells.{children, IsReference}
use Rattle.tree_law.specs.Trees.{Nothing, Leaf, Cell, here, IsReached, IsSound}
use Rattle.tree_law.specs.Switches.{Entry}
use Rattle.tree_law.specs.Words.{LayerWords, kind_of, number_of, reference_of, cell_in, tree_of, room_of}
use Rattle.tree_law.proofs.SwitchLaw.{below_old}
use Rattle.tree_floor.proofs.FloorExact.{reference_some}
use Rattle.tree_change.specs.Counted.{TwoAreMore, OneIsMore}

pub two_are_more : TwoAreMore
two_are_more w cell b two = record {
  one = two.one;
  two = two.two;
  apart = two.apart;
  not_one = two.not_one;
  not_two = two.not_two;
  has_one = reference_some (children (kind_of cell) (cell_in w cell) two.one) two.has_one;
  has_two = reference_some (children (kind_of cell) (cell_in w cell) two.two) two.has_two;
}

-- a reference in order is that of a leaf or a cell
pub reference_sound : (count nodes : ℕ) (w : LayerWords) (r : ℕ) → r ≢ 0 → IsSound (room_of count nodes) (tree_of w) (reference_of r) → IsReference r
reference_sound count nodes w r some_reference sound = elim (cases_eq (kind_of r) 1) [
  | inl one ↦ (omega arith, omega arith)
  | inr other ↦
      let is : reference_of r ≡ Cell r = ap₂ (λ a b. cond a Nothing (cond b (Leaf (number_of r)) (Cell r))) (ne_eqb r 0 some_reference) (ne_eqb (kind_of r) 1 other) in
      let cell = subst (IsSound (room_of count nodes) (tree_of w)) is sound in
      let parts = and_parts (leb 2 (kind_of r) && leb (kind_of r) 5) (ltb (number_of r) count) cell.number in
      let kinds = and_parts (leb 2 (kind_of r)) (leb (kind_of r) 5) parts.0 in
      let least : 2 ≤ r / 2 ^ 16 = leb-true _ _ kinds.0 in
      let most : r / 2 ^ 16 ≤ 5 = leb-true _ _ kinds.1 in
      (omega arith, omega arith)
]

-- and small
pub reference_small : (count nodes : ℕ) (w : LayerWords) (r : ℕ) → r ≢ 0 → IsSound (room_of count nodes) (tree_of w) (reference_of r) → r < 2 ^ 32
reference_small count nodes w r some_reference sound = let is = reference_sound count nodes w r some_reference sound in omega arith

pub one_is_more : OneIsMore
one_is_more count nodes w cell b reference lawful reached one =
    let t = tree_of w in
    let some_child : t.child cell one.other ≢ Nothing = λ e. reference_some reference one.some_child (ap reference_of (sym one.is) ∙ e) in
    let child_reached : IsReached t (t.child cell one.other) = below_old t (Entry cell one.other) (t.child cell one.other) reached some_child here in
    let sound = subst (IsSound (room_of count nodes) t) (ap reference_of one.is) (lawful.tree (t.child cell one.other) child_reached) in (
      record {
        apart = one.apart;
        some_other = some_child;
        is = ap reference_of (sym one.is);
        only = λ d not_b not_other. ap reference_of (one.only d not_b not_other);
      },
      one.some_child,
      reference_small count nodes w reference one.some_child sound,
    )
