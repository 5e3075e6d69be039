-- A set and an unset on words.
use Rattle.std.proofs.Common.{◌≡◌, ℕ, ◌+◌, ◌-◌, Option, Some, None, inl, inr, refl, sym, subst, ◌∙◌, arith}
use Rattle.std.proofs.lemmas.Bool.{cases_eq}
use Rattle.tree_law.specs.Trees.{Reference, Nothing, Leaf, Cell, Tree, Reaches, here, below, Room, byte_at, low}
use Rattle.radix_nodes.specs.Cells.{IsForm}
use Rattle.tree_law.specs.Switches.{Place, Entry, reference_at, rooted, IsSwitched, Makes, Adds, Pairs, Grows, Removes, Collapses}
use Rattle.tree_law.specs.Paths.{Comes}
use Rattle.tree_law.specs.Words.{LayerWords, kind_of, cell_in, reference_of, tree_of, room_of, IsLawful, ChangesKey, IsSwitchStore}
use Rattle.tree_law.specs.Changes.{IsFilledLeaf, IsFilledLarger, SetAdds, SetPairs, SetGrows, UnsetRemoves, UnsetCollapses}
use Rattle.tree_law.proofs.SwitchLaw.{cell_goes, below_old}
use Rattle.tree_law.proofs.SwitchKinds.{leaf_end, add_makes, pair_makes, grow_makes, remove_makes, collapse_makes}
use Rattle.tree_law.proofs.PathLaw.{way_adds, way_pairs, comes_place}
use Rattle.tree_law.proofs.Avoiding.{join}
use Rattle.tree_law.proofs.WordLaw.{switch_makes}

-- a cell with one entry more takes the place of the one at which the key's way ends
pub way_grows : (count nodes : ℕ) (w : LayerWords) (place : Place) (key node x grown b leaf : ℕ) → IsLawful count nodes w → Comes (tree_of w) key place → reference_at (tree_of w) place ≡ Cell x
    → Comes (tree_of w) key (Entry x b) → (tree_of w).child x b ≡ Nothing → IsFilledLeaf count nodes w key node leaf → IsFilledLarger count nodes w x grown b leaf
    → Grows (room_of count nodes) (tree_of w) place x grown b leaf
way_grows count nodes w place key node x grown b leaf lawful comes at_x comes_x none is is_grown =
    let adds = way_adds (room_of count nodes) (tree_of w) key leaf x b lawful.tree comes_x none is.sound is.key_is in
    record {
      of_tree = comes_place (tree_of w) key place comes;
      old = at_x;
      sound = is.sound;
      cell = is_grown.cell;
      none = none;
      under = adds.under;
    }

module _ (count nodes : ℕ) (w w' : LayerWords) (lawful : IsLawful count nodes w) where
  abbrev t : Tree
  t = tree_of w

  abbrev room : Room
  room = room_of count nodes

  -- a kind of switch, as the words have it
  changes : (place : Place) (reference key : ℕ) (new : Reference) (node : Option ℕ) → reference_of reference ≡ new → IsSwitchStore w w' place reference → ((x : ℕ) → Reaches t new (Cell x) → IsForm (kind_of x) (cell_in w x))
      → ((root : Reference) (child : ℕ → ℕ → Reference) → IsSwitched t root child place new → Makes room t (rooted t root child) key node) → ChangesKey count nodes w w' key node
  changes place reference key new node is store forms makes =
      switch_makes count nodes w w' place reference key node lawful store (λ x way. forms x (subst (λ r. Reaches t r (Cell x)) is way))
      (λ root child switched. makes root child (subst (IsSwitched t root child place) is switched))

  -- a filled leaf's node, and its key
  to_key : (place : Place) (key node leaf : ℕ) (after : Tree) → IsFilledLeaf count nodes w key node leaf → Makes room t after (t.key leaf) (Some (t.word leaf - 1)) → Makes room t after key (Some node)
  to_key place key node leaf after is makes =
      let word : t.word leaf ≡ node + 1 = is.word in
      subst (λ k. Makes room t after k (Some node)) is.key_is (subst (λ n. Makes room t after (t.key leaf) (Some n)) (let e : t.word leaf - 1 ≡ node = omega arith in e) makes)

  leaf_forms : (leaf x : ℕ) → Reaches t (Leaf leaf) (Cell x) → IsForm (kind_of x) (cell_in w x)
  leaf_forms leaf x way = absurd (let wrong : Cell x ≡ Leaf leaf = leaf_end t leaf (Cell x) way in cc)

  adds : (key node leaf x b reference : ℕ) → Comes t key (Entry x b) → t.child x b ≡ Nothing → IsFilledLeaf count nodes w key node leaf → reference_of reference ≡ Leaf leaf → IsSwitchStore w w' (Entry x b) reference → ChangesKey count nodes w w' key (Some node)
  adds key node leaf x b reference comes none is leaf_is store =
      changes (Entry x b) reference key (Leaf leaf) (Some node) leaf_is store (leaf_forms leaf)
      (λ root child switched. to_key (Entry x b) key node leaf (rooted t root child) is (add_makes room t root child x b leaf lawful.tree (way_adds room t key leaf x b lawful.tree comes none is.sound is.key_is) switched))

  pairs : (place : Place) (key node old_byte leaf_byte pair leaf : ℕ) → IsFilledLeaf count nodes w key node leaf → Pairs room t place pair old_byte leaf_byte leaf → IsForm (kind_of pair) (cell_in w pair) → reference_of pair ≡ Cell pair
      → IsSwitchStore w w' place pair → ChangesKey count nodes w w' key (Some node)
  pairs place key node old_byte leaf_byte pair leaf is is_pair form pair_is store =
      changes place pair key (Cell pair) (Some node) pair_is store
      (λ x way. elim (cell_goes t pair (Cell x) way) [
        | inl same ↦ subst (λ y. IsForm (kind_of y) (cell_in w y)) (let number : pair ≡ x = cc in number) form
        | inr on ↦ elim (cases_eq on.byte old_byte) [
          | inl at_old ↦ lawful.forms x (below_old t place (Cell x) is_pair.of_tree is_pair.some_old (subst (λ r. Reaches t r (Cell x)) is_pair.has_old (subst (λ c. Reaches t (t.child pair c) (Cell x)) at_old on.reach)))
          | inr not_old ↦ elim (cases_eq on.byte leaf_byte) [
            | inl at_leaf ↦ leaf_forms leaf x (subst (λ r. Reaches t r (Cell x)) is_pair.has_leaf (subst (λ c. Reaches t (t.child pair c) (Cell x)) at_leaf on.reach))
            | inr not_leaf ↦ absurd (on.some_child (is_pair.only on.byte not_old not_leaf))
          ]
        ]
      ])
      (λ root child switched. to_key place key node leaf (rooted t root child) is (pair_makes room t root child place pair old_byte leaf_byte leaf lawful.tree is_pair switched))

  grows : (place : Place) (key node x grown b leaf : ℕ) → Comes t key place → reference_at t place ≡ Cell x → Comes t key (Entry x b) → t.child x b ≡ Nothing → IsFilledLeaf count nodes w key node leaf → IsFilledLarger count nodes w x grown b leaf
      → reference_of grown ≡ Cell grown → IsSwitchStore w w' place grown → ChangesKey count nodes w w' key (Some node)
  grows place key node x grown b leaf comes at_x comes_x none is is_grown grown_is store =
      changes place grown key (Cell grown) (Some node) grown_is store
      (λ y way. elim (cell_goes t grown (Cell y) way) [
        | inl same ↦ subst (λ z. IsForm (kind_of z) (cell_in w z)) (let number : grown ≡ y = cc in number) is_grown.form
        | inr on ↦ elim (cases_eq on.byte b) [
          | inl at_b ↦ leaf_forms leaf y (subst (λ r. Reaches t r (Cell y)) is_grown.cell.has_leaf (subst (λ c. Reaches t (t.child grown c) (Cell y)) at_b on.reach))
          | inr not_b ↦
              let same = is_grown.cell.others on.byte not_b in
              lawful.forms y (joined (comes_place t key (Entry x b) comes_x) (below (λ e. on.some_child (same ∙ e)) (subst (λ r. Reaches t r (Cell y)) same on.reach)))
        ]
      ])
      (λ root child switched. to_key place key node leaf (rooted t root child) is (grow_makes room t root child place x grown b leaf lawful.tree
      (way_grows count nodes w place key node x grown b leaf lawful comes at_x comes_x none is is_grown) switched))
    where
      joined : {r q s : Reference} → Reaches t r q → Reaches t q s → Reaches t r s
      joined one two = join t one two

  removes : (key x b leaf : ℕ) → Removes t x b leaf → t.key leaf ≡ key → IsSwitchStore w w' (Entry x b) 0 → ChangesKey count nodes w w' key None
  removes key x b leaf is key_is store =
      changes (Entry x b) 0 key Nothing None refl store (λ y way. absurd (nothing y way))
      (λ root child switched. subst (λ k. Makes room t (rooted t root child) k None) key_is (remove_makes room t root child x b leaf lawful.tree is switched))
    where
      from : (r q : Reference) → r ≡ Nothing → Reaches t r q → q ≡ Nothing
      from r q e here = e
      from r q e (below some_child way) = absurd cc

      nothing : (y : ℕ) → Reaches t Nothing (Cell y) → ⊥
      nothing y way = let wrong : Cell y ≡ Nothing = from Nothing (Cell y) refl way in cc

  collapses : (place : Place) (key x b leaf other_byte reference : ℕ) → Collapses t place x b leaf other_byte → t.key leaf ≡ key → reference_of reference ≡ t.child x other_byte → IsSwitchStore w w' place reference → ChangesKey count nodes w w' key None
  collapses place key x b leaf other_byte reference is key_is reference_is store =
      changes place reference key (t.child x other_byte) None reference_is store
      (λ y way. lawful.forms y (below_old t place (Cell y) is.of_tree (λ e. let wrong : Cell x ≡ Nothing = sym is.old ∙ e in cc) (subst (λ r. Reaches t r (Cell y)) (sym is.old) (below is.some_other way))))
      (λ root child switched. subst (λ k. Makes room t (rooted t root child) k None) key_is (collapse_makes room t root child place x b leaf other_byte lawful.tree is switched))

pub set_adds : SetAdds
set_adds count nodes w w' key node leaf x b reference lawful comes none is leaf_is store = adds count nodes w w' lawful key node leaf x b reference comes none is leaf_is store

pub set_pairs : SetPairs
set_pairs count nodes w w' place key node depth pair leaf lawful comes some_old parts less is is_pair form pair_is store =
    let t = tree_of w in
    let room = room_of count nodes in
    let pairs' = way_pairs room t place key depth pair leaf lawful.tree comes some_old parts less is.sound is.key_is is_pair in
    pairs count nodes w w' lawful place key node (byte_at depth (low t (reference_at t place))) (byte_at depth key) pair leaf is pairs' form pair_is store

pub set_grows : SetGrows
set_grows count nodes w w' place key node x grown b leaf lawful comes at_x comes_x none is is_grown grown_is store = grows count nodes w w' lawful place key node x grown b leaf comes at_x comes_x none is is_grown grown_is store

pub unset_removes : UnsetRemoves
unset_removes count nodes w w' key x b leaf lawful is key_is store = removes count nodes w w' lawful key x b leaf is key_is store

pub unset_collapses : UnsetCollapses
unset_collapses count nodes w w' place key x b leaf other_byte reference lawful is key_is reference_is store = collapses count nodes w w' lawful place key x b leaf other_byte reference is key_is reference_is store
