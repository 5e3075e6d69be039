-- What each kind of switch store makes of what is reached.
use Rattle.std.proofs.Common.{◌≡◌, ◌≢◌, ℕ, ◌-◌, ◌<◌, ◌⊎◌, cond, Some, None, inl, inr, refl, sym, subst, ap, ap₂, ◌∙◌, arith}
use Rattle.std.proofs.lemmas.Bool.{cases_eq, eq-eqb}
use Rattle.tree_law.specs.Trees.{Reference, Nothing, Leaf, Cell, Tree, Reaches, here, below, IsReached, Room, IsCell, IsSound, IsTree, depth_of, layer_in}
use Rattle.tree_law.specs.Switches.{Place, Root, Entry, reference_at, IsPlace, rooted, IsSwitched, Makes}
use Rattle.tree_law.specs.Reached.{AddReaches, PairReaches, GrowReaches, RemoveReaches, CollapseReaches}
use Rattle.tree_law.proofs.TreeLaw.{led}
use Rattle.tree_law.proofs.SwitchLaw.{cell_goes, below_old, reached_was, reached_before, beside_before, beside_after, cell_stays, from_new, old_kept}
use Rattle.tree_law.proofs.SwitchKinds.{leaf_end, some_leaf, some_cell, from_nothing, grow_makes, remove_makes, collapse_makes}
use Rattle.tree_law.proofs.RoomLaw.{reached_once, root_is_no_child}

-- no cell is its own child
no_loop : (room : Room) (t : Tree) (x c : ℕ) → IsCell room t x → t.child x c ≡ Cell x → ⊥
no_loop room t x c cell same =
    let deeper = (cell.under c (λ e. some_cell x (sym same ∙ e))).deeper in
    let deep : t.depth x < t.depth x = subst (λ r. t.depth x < depth_of t r) same deeper in
    omega arith

-- the leaf of a key that leads nowhere is reached no longer
leaf_gone : (room : Room) (t : Tree) (root : Reference) (child : ℕ → ℕ → Reference) (leaf : ℕ) → Makes room t (rooted t root child) (t.key leaf) None → IsReached (rooted t root child) (Leaf leaf) → ⊥
leaf_gone room t root child leaf makes reached =
    let k = t.key leaf in
    let nowhere : layer_in (rooted t root child) k ≡ None = makes.layer k ∙ ap (λ b. cond b None (layer_in t k)) (eq-eqb k k refl) in
    let wrong : None ≡ Some (t.word leaf - 1) = sym nowhere ∙ led room (rooted t root child) makes.tree leaf reached in
    cc

module _ (room : Room) (t : Tree) (root : Reference) (child : ℕ → ℕ → Reference) (place : Place) (new : Reference) (tree : IsTree room t) (is_place : IsPlace t place)
    (is : IsSwitched t root child place new) (more less : Reference → Type 0) where
  abbrev after : Tree
  after = rooted t root child

  abbrev old : Reference
  old = reference_at t place

  only_these : ((q : Reference) → new ≢ Nothing → Reaches t new q → IsReached t q ⊎ more q) → (q : Reference) → IsReached after q → IsReached t q ⊎ more q
  only_these inner q reach = elim (reached_was room t root child place new tree is_place is q reach) [
    | inl beside ↦ inl (beside_before room t root child place new tree is_place is q beside)
    | inr below_new ↦ inner q below_new.0 below_new.1
  ]

  stays_else : ((q : Reference) → IsReached t q → Reaches t old q → (less q → ⊥) → IsReached after q) → (q : Reference) → IsReached t q → (less q → ⊥) → IsReached after q
  stays_else inner q reach kept = elim (reached_before room t root child place new tree is_place is q reach) [
    | inl beside ↦ beside_after room t root child place new tree is_place is q beside
    | inr below_old ↦ inner q reach below_old kept
  ]

  new_reached : new ≢ Nothing → (q : Reference) → Reaches after new q → IsReached after q
  new_reached some_new q reach = from_new room t root child place new tree is_place is place refl is_place some_new q reach

  -- a cell that the tree doesn't reach keeps its children, and so does one that stands at the place
  apart_from : (x c : ℕ) → (IsReached t (Cell x) → ⊥) → child x c ≡ t.child x c
  apart_from x c unreached = is.others x c (λ e. unreached (subst (IsPlace t) e is_place))

  own_children : (x c : ℕ) → IsCell room t x → old ≡ Cell x → child x c ≡ t.child x c
  own_children x c cell at_place = is.others x c (λ e. no_loop room t x c cell (ap (reference_at t) (sym e) ∙ at_place))

  kept_below : old ≢ Nothing → (r q : Reference) → Reaches t old r → Reaches t r q → Reaches after r q
  kept_below some_old r q above reach = old_kept room t root child place new tree is_place is some_old r q above reach

nothing_reached : (room : Room) (t : Tree) (q : Reference) → IsTree room t → IsReached t q → q ≢ Nothing
nothing_reached room t q tree reach e = subst (IsSound room t) e (tree q reach)

-- a cell whose child stands in its place is reached no longer
cell_gone : (room : Room) (t : Tree) (root : Reference) (child : ℕ → ℕ → Reference) (place : Place) (x c : ℕ) → IsTree room t → IsCell room t x → IsPlace t place → reference_at t place ≡ Cell x → IsTree room (rooted t root child)
    → IsSwitched t root child place (t.child x c) → child x c ≡ t.child x c → child x c ≢ Nothing → IsReached (rooted t root child) (Cell x) → ⊥
cell_gone room t root child Root x c tree cell is_place at_place tree' is stays some_child reached = root_is_no_child room (rooted t root child) tree' x c reached (stays ∙ sym is.here)
cell_gone room t root child (Entry y d) x c tree cell is_place at_place tree' is stays some_child reached =
    let reached_y = cell_stays room t root child (Entry y d) (t.child x c) tree is_place is y d refl in
    let same = reached_once room (rooted t root child) tree' x y c d reached reached_y some_child (stays ∙ sym is.here) in
    no_loop room t x c cell (ap₂ t.child same.0 same.1 ∙ at_place)

pub add_reaches : AddReaches
add_reaches room t root child x b leaf tree adds is =
    let more : Reference → Type 0 = λ q. q ≡ Leaf leaf in
    let less : Reference → Type 0 = λ q. ⊥ in
    let after = rooted t root child in
    record {
      comes = λ q same. subst (IsReached after) (sym same) (new_reached room t root child (Entry x b) (Leaf leaf) tree adds.reached is more less (some_leaf leaf) (Leaf leaf) here);
      goes = λ q none reach. none;
      stays = stays_else room t root child (Entry x b) (Leaf leaf) tree adds.reached is more less (λ q reached reach kept. absurd (nothing_reached room t q tree reached (from_nothing t (t.child x b) q adds.none reach)));
      only = only_these room t root child (Entry x b) (Leaf leaf) tree adds.reached is more less (λ q some_new reach. inr (leaf_end t leaf q reach));
    }

pub pair_reaches : PairReaches
pair_reaches room t root child place pair old_byte leaf_byte leaf tree pairs unreached is =
    let more : Reference → Type 0 = λ q. (q ≡ Leaf leaf) ⊎ (q ≡ Cell pair) in
    let less : Reference → Type 0 = λ q. ⊥ in
    let after = rooted t root child in
    let old = reference_at t place in
    let own = apart_from room t root child place (Cell pair) tree pairs.of_tree is more less in
    let joins = new_reached room t root child place (Cell pair) tree pairs.of_tree is more less (some_cell pair) in
    let leaf_is : child pair leaf_byte ≡ Leaf leaf = own pair leaf_byte unreached ∙ pairs.has_leaf in
    let old_is : child pair old_byte ≡ old = own pair old_byte unreached ∙ pairs.has_old in
    let to_leaf : Reaches after (Cell pair) (Leaf leaf) = below (λ e. some_leaf leaf (sym leaf_is ∙ e)) (subst (λ r. Reaches after r (Leaf leaf)) (sym leaf_is) here) in
    record {
      comes = λ q part. elim part [
        | inl at_leaf ↦ subst (IsReached after) (sym at_leaf) (joins (Leaf leaf) to_leaf)
        | inr at_pair ↦ subst (IsReached after) (sym at_pair) (joins (Cell pair) here)
      ];
      goes = λ q none reach. none;
      stays = stays_else room t root child place (Cell pair) tree pairs.of_tree is more less (λ q reached reach kept.
          joins q (below (λ e. pairs.some_old (sym old_is ∙ e)) (subst (λ r. Reaches after r q) (sym old_is) (kept_below room t root child place (Cell pair) tree pairs.of_tree is more less pairs.some_old old q here reach))));
      only = only_these room t root child place (Cell pair) tree pairs.of_tree is more less (λ q some_new reach. elim (cell_goes t pair q reach) [
        | inl same ↦ inr (inr same)
        | inr on ↦ elim (cases_eq on.byte old_byte) [
          | inl at_old ↦ inl (below_old t place q pairs.of_tree pairs.some_old (subst (λ r. Reaches t r q) pairs.has_old (subst (λ c. Reaches t (t.child pair c) q) at_old on.reach)))
          | inr not_old ↦ elim (cases_eq on.byte leaf_byte) [
            | inl at_leaf ↦ inr (inl (leaf_end t leaf q (subst (λ r. Reaches t r q) pairs.has_leaf (subst (λ c. Reaches t (t.child pair c) q) at_leaf on.reach))))
            | inr not_leaf ↦ absurd (on.some_child (pairs.only on.byte not_old not_leaf))
          ]
        ]
      ]);
    }

pub grow_reaches : GrowReaches
grow_reaches room t root child place x grown b leaf tree grows unreached is =
    let more : Reference → Type 0 = λ q. (q ≡ Leaf leaf) ⊎ (q ≡ Cell grown) in
    let less : Reference → Type 0 = λ q. q ≡ Cell x in
    let after = rooted t root child in
    let old = reference_at t place in
    let some_old : old ≢ Nothing = λ e. some_cell x (sym grows.old ∙ e) in
    let below_x : (q : Reference) → Reaches t (Cell x) q → IsReached t q = λ q reach. below_old t place q grows.of_tree some_old (subst (λ r. Reaches t r q) (sym grows.old) reach) in
    let at_x : IsCell room t x = tree (Cell x) (below_x (Cell x) here) in
    let own = apart_from room t root child place (Cell grown) tree grows.of_tree is more less in
    let joins = new_reached room t root child place (Cell grown) tree grows.of_tree is more less (some_cell grown) in
    let leaf_is : child grown b ≡ Leaf leaf = own grown b unreached ∙ grows.cell.has_leaf in
    let to_leaf : Reaches after (Cell grown) (Leaf leaf) = below (λ e. some_leaf leaf (sym leaf_is ∙ e)) (subst (λ r. Reaches after r (Leaf leaf)) (sym leaf_is) here) in
    let not_b : (c : ℕ) → t.child x c ≢ Nothing → c ≢ b = λ c some_child e. some_child (ap (t.child x) e ∙ grows.none) in
    let child_is : (c : ℕ) → t.child x c ≢ Nothing → child grown c ≡ t.child x c = λ c some_child. own grown c unreached ∙ grows.cell.others c (not_b c some_child) in
    let makes = grow_makes room t root child place x grown b leaf tree grows is in
    record {
      comes = λ q part. elim part [
        | inl at_leaf ↦ subst (IsReached after) (sym at_leaf) (joins (Leaf leaf) to_leaf)
        | inr at_grown ↦ subst (IsReached after) (sym at_grown) (joins (Cell grown) here)
      ];
      goes = λ q at_x' reach.
          let c = at_x.two.one in
          let some_child : t.child x c ≢ Nothing = at_x.two.has_one in
          let stays_x : child x c ≡ t.child x c = own_children room t root child place (Cell grown) tree grows.of_tree is more less x c at_x grows.old in
          let reached_x : IsReached after (Cell x) = subst (IsReached after) at_x' reach in
          let same = reached_once room after makes.tree x grown c c reached_x (joins (Cell grown) here) (λ e. some_child (sym stays_x ∙ e)) (stays_x ∙ sym (child_is c some_child)) in
          unreached (subst (λ y. IsReached t (Cell y)) same.0 (below_x (Cell x) here));
      stays = stays_else room t root child place (Cell grown) tree grows.of_tree is more less (λ q reached reach kept. elim (cell_goes t x q (subst (λ r. Reaches t r q) grows.old reach)) [
        | inl same ↦ absurd (kept same)
        | inr on ↦
            let is_child = child_is on.byte on.some_child in
            let from_old : Reaches t old (t.child x on.byte) = subst (λ r. Reaches t r (t.child x on.byte)) (sym grows.old) (below on.some_child here) in
            joins q (below (λ e. on.some_child (sym is_child ∙ e)) (subst (λ r. Reaches after r q) (sym is_child) (kept_below room t root child place (Cell grown) tree grows.of_tree is more less some_old (t.child x on.byte) q from_old on.reach)))
      ]);
      only = only_these room t root child place (Cell grown) tree grows.of_tree is more less (λ q some_new reach. elim (cell_goes t grown q reach) [
        | inl same ↦ inr (inr same)
        | inr on ↦ elim (cases_eq on.byte b) [
          | inl at_b ↦ inr (inl (leaf_end t leaf q (subst (λ r. Reaches t r q) grows.cell.has_leaf (subst (λ c. Reaches t (t.child grown c) q) at_b on.reach))))
          | inr apart ↦
              let same = grows.cell.others on.byte apart in
              inl (below_x q (below (λ e. on.some_child (same ∙ e)) (subst (λ r. Reaches t r q) same on.reach)))
        ]
      ]);
    }

pub remove_reaches : RemoveReaches
remove_reaches room t root child x b leaf tree removes is =
    let more : Reference → Type 0 = λ q. ⊥ in
    let less : Reference → Type 0 = λ q. q ≡ Leaf leaf in
    let after = rooted t root child in
    record {
      comes = λ q none. absurd none;
      goes = λ q at_leaf reach. leaf_gone room t root child leaf (remove_makes room t root child x b leaf tree removes is) (subst (IsReached after) at_leaf reach);
      stays = stays_else room t root child (Entry x b) Nothing tree removes.reached is more less (λ q reached reach kept. absurd (kept (leaf_end t leaf q (subst (λ r. Reaches t r q) removes.leaf_is reach))));
      only = only_these room t root child (Entry x b) Nothing tree removes.reached is more less (λ q some_new reach. absurd (some_new refl));
    }

pub collapse_reaches : CollapseReaches
collapse_reaches room t root child place x b leaf other_byte tree col is =
    let new = t.child x other_byte in
    let more : Reference → Type 0 = λ q. ⊥ in
    let less : Reference → Type 0 = λ q. (q ≡ Leaf leaf) ⊎ (q ≡ Cell x) in
    let after = rooted t root child in
    let old = reference_at t place in
    let some_old : old ≢ Nothing = λ e. some_cell x (sym col.old ∙ e) in
    let below_x : (q : Reference) → Reaches t (Cell x) q → IsReached t q = λ q reach. below_old t place q col.of_tree some_old (subst (λ r. Reaches t r q) (sym col.old) reach) in
    let at_x : IsCell room t x = tree (Cell x) (below_x (Cell x) here) in
    let makes = collapse_makes room t root child place x b leaf other_byte tree col is in
    let joins = new_reached room t root child place new tree col.of_tree is more less col.some_other in
    let stays_x : child x other_byte ≡ new = own_children room t root child place new tree col.of_tree is more less x other_byte at_x col.old in
    let some_child : child x other_byte ≢ Nothing = λ e. col.some_other (sym stays_x ∙ e) in
    record {
      comes = λ q none. absurd none;
      goes = λ q part reach. elim part [
        | inl at_leaf ↦ leaf_gone room t root child leaf makes (subst (IsReached after) at_leaf reach)
        | inr at_cell ↦ cell_gone room t root child place x other_byte tree at_x col.of_tree col.old makes.tree is stays_x some_child (subst (IsReached after) at_cell reach)
      ];
      stays = stays_else room t root child place new tree col.of_tree is more less (λ q reached reach kept. elim (cell_goes t x q (subst (λ r. Reaches t r q) col.old reach)) [
        | inl same ↦ absurd (kept (inr same))
        | inr on ↦ elim (cases_eq on.byte b) [
          | inl at_b ↦ absurd (kept (inl (leaf_end t leaf q (subst (λ r. Reaches t r q) col.leaf_is (subst (λ c. Reaches t (t.child x c) q) at_b on.reach)))))
          | inr not_b ↦ elim (cases_eq on.byte other_byte) [
            | inl at_other ↦
                let from_old : Reaches t old new = subst (λ r. Reaches t r new) (sym col.old) (below col.some_other here) in
                joins q (kept_below room t root child place new tree col.of_tree is more less some_old new q from_old (subst (λ c. Reaches t (t.child x c) q) at_other on.reach))
            | inr not_other ↦ absurd (on.some_child (col.only on.byte not_b not_other))
          ]
        ]
      ]);
      only = only_these room t root child place new tree col.of_tree is more less (λ q some_new reach. inl (below_x q (below some_new reach)));
    }
