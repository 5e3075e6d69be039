-- From where a look has ended to the store that makes the change.
use Rattle.std.proofs.Common.{◌≡◌, ◌≢◌, ℕ, ◌+◌, ◌-◌, ◌^◌, ◌<◌, Some, inl, inr, refl, sym, subst, ap, ◌∙◌}
use Rattle.tree_law.specs.Trees.{Nothing, Leaf, Cell, Reaches, here, IsReached, byte_at, low, depth_of}
use Rattle.tree_law.specs.Switches.{Place, Root, Entry, reference_at, Removes, Collapses}
use Rattle.tree_law.specs.Paths.{PartsAt, IsFilledPair}
use Rattle.tree_law.specs.Words.{LayerWords, reference_of, tree_of, room_of, layer_of, ChangesKey}
use Rattle.tree_law.proofs.TreeLaw.{has_key, some_or_none}
use Rattle.tree_law.proofs.FloorLaw.{leaf_reaches}
use Rattle.tree_law.proofs.SwitchLaw.{below_old}
use Rattle.tree_law.proofs.PathLaw.{comes_place, on_entry}
use Rattle.tree_law.proofs.WordLaw.{node_word_makes}
use Rattle.tree_law.proofs.ChangeLaw.{set_adds, set_pairs, set_grows, unset_removes, unset_collapses}
use Rattle.tree_law.proofs.MarkingLaw.{set_add_reaches, set_grow_reaches, set_pair_reaches, unset_remove_reaches, unset_collapse_reaches}
use Rattle.tree_floor.proofs.FloorExact.{reference_some}
use Rattle.tree_look.specs.declared.look.Spot.{Spot}
use Rattle.tree_look.specs.declared.look.Looked.TheVariants as looked
use Rattle.tree_look.specs.LookLaws.{IsHeld, IsOuter, at_root, in_cell, IsLooked}
use Rattle.tree_look.specs.EndReaches.{LeafAddReaches, CellGrowReaches, PairMakeReaches, LeafRemoveReaches, CellCollapseReaches}
use Rattle.tree_look.specs.Ends.{IsFilledPairOf, HasTwoMore, HasOneMore, KeyIsSet, LeafIsAdded, CellIsGrown, PairIsMade, LeafIsRemoved, CellIsCollapsed, IsInCell}

-- what is held is of the tree
held_reached : (w : LayerWords) (key r : ℕ) (spot : Spot) (place : Place) → IsHeld w key spot r place → IsReached (tree_of w) (reference_of r)
held_reached w key r spot place held =
    subst (λ q. IsReached (tree_of w) q) held.at (below_old (tree_of w) place (reference_at (tree_of w) place) (comes_place (tree_of w) key place held.comes) (λ e. reference_some r held.some_reference (sym held.at ∙ e)) here)

pub key_is_set : KeyIsSet
key_is_set count nodes w w' key leaf word outer inner lawful found some_word most stored =
    let reached = subst (IsReached (tree_of w)) found.2 (held_reached w key (2 ^ 16 + leaf) inner found.1.0 found.1.1) in
    subst (λ k. ChangesKey count nodes w w' k (Some (word - 1))) found.0 (node_word_makes count nodes w w' leaf word lawful reached some_word most stored)

pub leaf_is_added : LeafIsAdded
leaf_is_added count nodes w w' key node cell depth leaf reference spot lawful found filled is store =
    set_adds count nodes w w' key node leaf cell (byte_at depth key) reference lawful found.2 found.3 filled is store

pub some_new : (x : ℕ) → reference_of x ≡ Cell x → x ≢ 0
some_new x is e = let wrong : Nothing ≡ Cell x = sym (ap reference_of e) ∙ is in cc

pub cell_is_grown : CellIsGrown
cell_is_grown count nodes w w' key node cell depth grown leaf spot lawful found filled is_grown is fits stored =
    let held = found.0.1 in
    set_grows count nodes w w' found.0.0 key node cell grown (byte_at depth key) leaf lawful held.comes (held.at ∙ found.4) found.2 found.3 filled is_grown is (held.store w' grown (some_new grown is) fits stored)

-- the pair, of what stands at its place
pub pair_of : (count nodes : ℕ) (w : LayerWords) (key reference depth pair leaf : ℕ) (spot : Spot) (place : Place) → IsHeld w key spot reference place → IsFilledPairOf count nodes w reference key depth pair leaf → IsFilledPair (room_of count nodes) (tree_of w) place key depth pair leaf
pair_of count nodes w key reference depth pair leaf spot place held is_pair =
    let t = tree_of w in
    let at : reference_at t place ≡ reference_of reference = held.at in
    record {
      number = is_pair.number;
      depth_is = is_pair.depth_is;
      prefix_is = is_pair.prefix_is;
      old = subst (λ q. t.child pair (byte_at depth (low t q)) ≡ q) (sym at) is_pair.old;
      new = is_pair.new;
      only = λ b not_old not_new. is_pair.only b (λ e. not_old (e ∙ ap (λ q. byte_at depth (low t q)) (sym at))) not_new;
    }

pub pair_is_made : PairIsMade
pair_is_made count nodes w w' key node reference depth byte pair leaf spot lawful found filled is_pair is fits stored =
    let t = tree_of w in
    let place = found.0.0 in
    let held = found.0.1 in
    let at : reference_at t place ≡ reference_of reference = held.at in
    set_pairs count nodes w w' place key node depth pair leaf lawful held.comes (λ e. reference_some reference held.some_reference (sym at ∙ e))
    (subst (λ q. PartsAt depth key (low t q)) (sym at) found.1) (subst (λ q. depth < depth_of t q) (sym at) found.2) filled (pair_of count nodes w key reference depth pair leaf spot place held is_pair) is_pair.form is
    (held.store w' pair (some_new pair is) fits stored)

-- the place of a leaf that isn't the root's
pub record IsEntry (w : LayerWords) (key leaf : ℕ) (outer inner : Spot) (b : ℕ) (at : Place) : Type 0 where
  pub here : at ≡ Entry inner.cell b
  pub reached : IsReached (tree_of w) (Cell inner.cell)
  pub leaf_is : (tree_of w).child inner.cell b ≡ Leaf leaf
  pub place : Place
  pub held : IsHeld w key outer inner.cell place

-- (the root's word is in no cell)
pub entry_of : (w : LayerWords) (key leaf b : ℕ) (outer inner : Spot) (place : Place) → IsHeld w key inner (2 ^ 16 + leaf) place → IsOuter w key outer inner place → reference_of (2 ^ 16 + leaf) ≡ Leaf leaf → (place ≢ Root) → b ≡ byte_at ((tree_of w).depth inner.cell) key
    → IsEntry w key leaf outer inner b place
entry_of w key leaf b outer inner Root held at_root is not_root byte = absurd (not_root refl)
entry_of w key leaf b outer inner (Entry x c) held (in_cell {place = above} cell_held) is not_root byte =
    let on = on_entry (tree_of w) key inner.cell c held.comes in
    let same : c ≡ b = on.byte ∙ sym byte in
    record {
      here = ap (Entry inner.cell) same;
      reached = comes_place (tree_of w) key (Entry inner.cell c) held.comes;
      leaf_is = ap ((tree_of w).child inner.cell) (sym same) ∙ held.at ∙ is;
      place = above;
      held = cell_held;
    }

-- the leaf in its cell, as it goes from there
pub removes_of : (w : LayerWords) (key leaf b : ℕ) (outer inner : Spot) (found : IsLooked w key (looked.Key outer inner leaf)) → found.1.0 ≢ Root → b ≡ byte_at ((tree_of w).depth inner.cell) key → HasTwoMore w inner.cell b → Removes (tree_of w) inner.cell b leaf
removes_of w key leaf b outer inner found not_root byte two =
    let e = entry_of w key leaf b outer inner found.1.0 found.1.1 found.1.2 found.2 not_root byte in
    record {
      reached = e.reached;
      leaf_is = e.leaf_is;
      one = two.one;
      two = two.two;
      apart = two.apart;
      not_one = two.not_one;
      not_two = two.not_two;
      has_one = two.has_one;
      has_two = two.has_two;
    }

pub leaf_is_removed : LeafIsRemoved
leaf_is_removed count nodes w w' key leaf b outer inner lawful found not_root byte two store =
    unset_removes count nodes w w' key inner.cell b leaf lawful (removes_of w key leaf b outer inner found not_root byte two) found.0 store

-- the cell whose other child comes in its place
pub collapses_of : (w : LayerWords) (key leaf b other_byte reference : ℕ) (outer inner : Spot) (at place : Place) → IsEntry w key leaf outer inner b at → IsHeld w key outer inner.cell place → HasOneMore w inner.cell b other_byte reference → reference_of inner.cell ≡ Cell inner.cell
    → Collapses (tree_of w) place inner.cell b leaf other_byte
collapses_of w key leaf b other_byte reference outer inner at place e held one cell_is = record {
  of_tree = comes_place (tree_of w) key place held.comes;
  old = held.at ∙ cell_is;
  leaf_is = e.leaf_is;
  apart = one.apart;
  some_other = one.some_other;
  only = one.only;
}

pub cell_is_collapsed : CellIsCollapsed
cell_is_collapsed count nodes w w' key leaf b other_byte reference outer inner lawful found not_root byte one cell_is some_reference fits stored =
    let e = entry_of w key leaf b outer inner found.1.0 found.1.1 found.1.2 found.2 not_root byte in
    let is = collapses_of w key leaf b other_byte reference outer inner found.1.0 e.place e e.held one cell_is in
    unset_collapses count nodes w w' e.place key inner.cell b leaf other_byte reference lawful is found.0 one.is (e.held.store w' reference some_reference fits stored)

pub is_in_cell : IsInCell
is_in_cell count nodes w key other leaf outer inner lawful found some_other apart at_root' = elim (some_or_none (layer_of w other)) [
  | inr none ↦ some_other none
  | inl leads ↦
      let t = tree_of w in
      let has = has_key (room_of count nodes) t other leads.0 leads.1 in
      let root_is : t.root ≡ Leaf leaf = ap (reference_at t) (sym at_root') ∙ found.1.1.at ∙ found.2 in
      let same : leaf ≡ has.0 = leaf_reaches t leaf has.0 (subst (λ r. Reaches t r (Leaf has.0)) root_is has.1.reached) in
      apart (sym has.1.key_is ∙ ap t.key (sym same) ∙ found.0)
]

-- What each of them reaches.

pub leaf_add_reaches : LeafAddReaches
leaf_add_reaches count nodes w w' key node cell depth leaf reference spot lawful found filled is store =
    set_add_reaches count nodes w w' key node leaf cell (byte_at depth key) reference lawful found.2 found.3 filled is store

pub cell_grow_reaches : CellGrowReaches
cell_grow_reaches count nodes w w' key node cell depth grown leaf spot lawful found filled is_grown unreached is fits stored =
    let held = found.0.1 in
    set_grow_reaches count nodes w w' found.0.0 key node cell grown (byte_at depth key) leaf lawful held.comes (held.at ∙ found.4) found.2 found.3 filled is_grown unreached is (held.store w' grown (some_new grown is) fits stored)

pub pair_make_reaches : PairMakeReaches
pair_make_reaches count nodes w w' key node reference depth byte pair leaf spot lawful found filled is_pair unreached is fits stored =
    let t = tree_of w in
    let place = found.0.0 in
    let held = found.0.1 in
    let at : reference_at t place ≡ reference_of reference = held.at in
    set_pair_reaches count nodes w w' place key node depth pair leaf lawful held.comes (λ e. reference_some reference held.some_reference (sym at ∙ e))
    (subst (λ q. PartsAt depth key (low t q)) (sym at) found.1) (subst (λ q. depth < depth_of t q) (sym at) found.2) filled (pair_of count nodes w key reference depth pair leaf spot place held is_pair) unreached is
    (held.store w' pair (some_new pair is) fits stored)

pub leaf_remove_reaches : LeafRemoveReaches
leaf_remove_reaches count nodes w w' key leaf b outer inner lawful found not_root byte two store =
    unset_remove_reaches count nodes w w' inner.cell b leaf lawful (removes_of w key leaf b outer inner found not_root byte two) store

pub cell_collapse_reaches : CellCollapseReaches
cell_collapse_reaches count nodes w w' key leaf b other_byte reference outer inner lawful found not_root byte one cell_is some_reference fits stored =
    let e = entry_of w key leaf b outer inner found.1.0 found.1.1 found.1.2 found.2 not_root byte in
    let is = collapses_of w key leaf b other_byte reference outer inner found.1.0 e.place e e.held one cell_is in
    unset_collapse_reaches count nodes w w' e.place inner.cell b leaf other_byte reference lawful is one.is (e.held.store w' reference some_reference fits stored)
