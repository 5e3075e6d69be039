-- What one store of a reference makes of a tree in order.
use Rattle.std.proofs.Common.{◌≡◌, ◌≢◌, ℕ, ◌+◌, ◌-◌, ◌<◌, ◌≤◌, ◌⊎◌, cond, Option, Some, None, inl, inr, refl, sym, subst, ap, ap₂, ◌∙◌, arith}
use Rattle.std.proofs.lemmas.Bool.{cases_eq, eq-eqb, ne_eqb}
use Rattle.layer_map.specs.Layers.{changed_at}
use Rattle.tree_law.specs.Trees.{Reference, Nothing, Leaf, Cell, Tree, Reaches, here, below, IsReached, Room, IsUnder, HasTwo, IsCell, IsSound, IsSoundFrom, IsTree, first_bytes, byte_at, low, depth_of, layer_in}
use Rattle.tree_law.specs.Switches.{Place, Root, Entry, reference_at, IsPlace, FitsAt, rooted, IsSwitched, Makes}
use Rattle.tree_law.proofs.Reach.{within, byte_below, child_sound}
use Rattle.tree_law.proofs.TreeLaw.{led, has_key, some_or_none, leaves_are_apart}
use Rattle.tree_law.proofs.FloorLaw.{none_reached}
use Rattle.tree_law.proofs.Avoiding.{Avoids, stays, passes, is_entry, reaches, join, avoids_or, to_cell, kept, was}

-- a cell reaches itself, and what its children reach
pub record Goes (t : Tree) (y : ℕ) (q : Reference) : Type 0 where
  pub byte : ℕ
  pub some_child : t.child y byte ≢ Nothing
  pub reach : Reaches t (t.child y byte) q

goes : (t : Tree) (y : ℕ) (r q : Reference) → r ≡ Cell y → Reaches t r q → (q ≡ Cell y) ⊎ Goes t y q
goes t y r q from here = inl from
goes t y r q from (below {x = x} {b = b} some_child reach) =
    let same : x ≡ y = cc in
    inr (record { byte = b; some_child = λ e. some_child (ap (λ z. t.child z b) same ∙ e); reach = subst (λ z. Reaches t (t.child z b) q) same reach })

pub cell_goes : (t : Tree) (y : ℕ) (q : Reference) → Reaches t (Cell y) q → (q ≡ Cell y) ⊎ Goes t y q
cell_goes t y q reach = goes t y (Cell y) q refl reach

leaf_no_cell : (t : Tree) (i x : ℕ) (r q : Reference) → r ≡ Leaf i → q ≡ Cell x → Reaches t r q → ⊥
leaf_no_cell t i x r q from to here = let same : Leaf i ≡ Cell x = sym from ∙ to in cc
leaf_no_cell t i x r q from to (below some_child reach) = cc

-- a leaf below the child at a place is come to through that place alone
one_way : (room : Room) (t : Tree) (x b i : ℕ) {r q : Reference} → q ≡ Leaf i → IsSoundFrom room t r → Avoids t (Entry x b) r q → Reaches t r (Cell x) → Reaches t (t.child x b) (Leaf i) → ⊥
one_way room t x b i {r = r} to sound stays at_cell inner = leaf_no_cell t i x r (Cell x) to refl at_cell
one_way room t x b i {q = q} to sound (passes {x = y} {b = c} apart some_child way) at_cell inner =
    let some_inner : t.child x b ≢ Nothing = λ e. none_reached t i (subst (λ r. Reaches t r (Leaf i)) e inner) in
    let at_leaf : Reaches t (t.child y c) (Leaf i) = subst (Reaches t (t.child y c)) to (reaches t (Entry x b) way) in
    let byte : byte_at (t.depth y) (t.key i) ≡ c = byte_below room t y c (Leaf i) sound some_child at_leaf in
    elim (cell_goes t y (Cell x) at_cell) [
      | inl is ↦
          let same : x ≡ y = cc in
          let byte' : byte_at (t.depth x) (t.key i) ≡ b = byte_below room t x b (Leaf i) (subst (λ z. IsSoundFrom room t (Cell z)) (sym same) sound) some_inner inner in
          apart (ap₂ Entry same (sym byte' ∙ ap (λ z. byte_at (t.depth z) (t.key i)) same ∙ byte))
      | inr on ↦
          let byte' : byte_at (t.depth y) (t.key i) ≡ on.byte = byte_below room t y on.byte (Leaf i) sound on.some_child (join t on.reach (below some_inner inner)) in
          let same : on.byte ≡ c = sym byte' ∙ byte in
          one_way room t x b i to (child_sound room t y c sound some_child) way (subst (λ d. Reaches t (t.child y d) (Cell x)) same on.reach) inner
    ]

-- what is below the reference at a place is of the tree
pub below_old : (t : Tree) (place : Place) (q : Reference) → IsPlace t place → reference_at t place ≢ Nothing → Reaches t (reference_at t place) q → IsReached t q
below_old t Root q in_tree some_old reach = reach
below_old t (Entry x b) q in_tree some_old reach = join t in_tree (below some_old reach)

-- and fits there
pub old_fits : (room : Room) (t : Tree) (place : Place) → IsTree room t → IsPlace t place → reference_at t place ≢ Nothing → FitsAt t place (reference_at t place)
old_fits room t Root tree in_tree some_old = tt
old_fits room t (Entry x b) tree in_tree some_old = (tree (Cell x) in_tree).under b some_old

low_same : (t : Tree) (root : Reference) (child : ℕ → ℕ → Reference) (r : Reference) → low (rooted t root child) r ≡ low t r
low_same t root child Nothing = refl
low_same t root child (Leaf i) = refl
low_same t root child (Cell x) = refl

depth_same : (t : Tree) (root : Reference) (child : ℕ → ℕ → Reference) (r : Reference) → depth_of (rooted t root child) r ≡ depth_of t r
depth_same t root child Nothing = refl
depth_same t root child (Leaf i) = refl
depth_same t root child (Cell x) = refl

under_same : (t : Tree) (root : Reference) (child : ℕ → ℕ → Reference) (x b : ℕ) (r : Reference) → IsUnder t x b r → IsUnder (rooted t root child) x b r
under_same t root child x b r is = record {
  byte = is.byte;
  bytes = ap (λ k. first_bytes (t.depth x + 1) k) (low_same t root child r) ∙ is.bytes;
  deeper = subst (λ d. t.depth x < d) (sym (depth_same t root child r)) is.deeper;
}

module _ (room : Room) (t : Tree) (root : Reference) (child : ℕ → ℕ → Reference) (place : Place) (new : Reference) (tree : IsTree room t) (is_place : IsPlace t place)
    (is : IsSwitched t root child place new) where
  abbrev after : Tree
  after = rooted t root child

  abbrev old : Reference
  old = reference_at t place

  cell_after : (x : ℕ) → IsCell room t x → HasTwo after x → ((b : ℕ) → place ≡ Entry x b → new ≢ Nothing → IsUnder t x b new) → IsCell room after x
  cell_after x cell two fits = record {
    number = cell.number;
    depth = cell.depth;
    zeros = cell.zeros;
    two = two;
    under = λ b some_child. elim (is_entry place x b) [
      | inl entry ↦
          let at_new : child x b ≡ new = ap (reference_at after) (sym entry) ∙ is.here in
          subst (λ r. IsUnder after x b r) (sym at_new) (under_same t root child x b new (fits b entry (λ e. some_child (at_new ∙ e))))
      | inr apart ↦
          let same = is.others x b apart in
          subst (λ r. IsUnder after x b r) (sym same) (under_same t root child x b (t.child x b) (cell.under b (λ e. some_child (same ∙ e))))
    ];
  }

  -- a cell keeps two children where the new reference is one
  pub two_kept : new ≢ Nothing → (x : ℕ) → HasTwo t x → HasTwo after x
  two_kept some_new x two = record { one = two.one; two = two.two; apart = two.apart; has_one = stays_some two.one two.has_one; has_two = stays_some two.two two.has_two }
    where
      stays_some : (b : ℕ) → t.child x b ≢ Nothing → child x b ≢ Nothing
      stays_some b some_child e = elim (is_entry place x b) [
        | inl entry ↦ some_new (sym (ap (reference_at after) (sym entry) ∙ is.here) ∙ e)
        | inr apart ↦ some_child (sym (is.others x b apart) ∙ e)
      ]

  fits_entry : FitsAt t place new → (x b : ℕ) → place ≡ Entry x b → IsUnder t x b new
  fits_entry fits x b entry = subst (λ p. FitsAt t p new) entry fits

  -- beside the place
  abbrev pub IsBeside : Reference → Type 0
  IsBeside q = (place ≢ Root) × Avoids t place t.root q

  at_place : (place ≡ Root) ⊎ (place ≢ Root)
  at_place = elim place as (λ p. (p ≡ Root) ⊎ (p ≢ Root)) [ Root ↦ inl refl | Entry x b ↦ inr (λ e. cc) ]

  pub reached_was : (q : Reference) → IsReached after q → IsBeside q ⊎ ((new ≢ Nothing) × Reaches t new q)
  reached_was q reach = elim at_place [
    | inl at_root ↦
        let is_new : root ≡ new = ap (reference_at after) (sym at_root) ∙ is.here in
        elim (was t root child place new is reach) [ inl way ↦ inr (λ e. is.some_root (is_new ∙ e), subst (λ r. Reaches t r q) is_new (reaches t place way)) | inr inner ↦ inr inner ]
    | inr entry ↦ elim (was t root child place new is reach) [ inl way ↦ inl (entry, subst (λ r. Avoids t place r q) (is.root_stays entry) way) | inr inner ↦ inr inner ]
  ]

  pub tree_after : ((x : ℕ) → IsReached t (Cell x) → HasTwo after x) → ((q : Reference) → new ≢ Nothing → Reaches t new q → IsSound room t q) → ((x : ℕ) → Reaches t new (Cell x) → HasTwo after x)
      → (new ≢ Nothing → FitsAt t place new) → IsTree room after
  tree_after two sound two_new fits q reach =
      let part : (IsSound room t q) × ((x : ℕ) → q ≡ Cell x → HasTwo after x) =
      elim (reached_was q reach) [
        | inl beside ↦ let way = reaches t place beside.1 in (tree q way, λ x same. two x (subst (λ r. Reaches t t.root r) same way))
        | inr inner ↦ (sound q inner.0 inner.1, λ x same. two_new x (subst (λ r. Reaches t new r) same inner.1))
      ] in
      made q part.0 part.1
    where
      made : (q : Reference) → IsSound room t q → ((x : ℕ) → q ≡ Cell x → HasTwo after x) → IsSound room after q
      made Nothing is_sound two' = is_sound
      made (Leaf i) is_sound two' = record { number = is_sound.number; key = is_sound.key; some_node = is_sound.some_node; node = is_sound.node }
      made (Cell x) is_sound two' = cell_after x is_sound (two' x refl) (λ b entry some_new. fits_entry (fits some_new) x b entry)

  -- what the tree reached before
  pub reached_before : (q : Reference) → IsReached t q → IsBeside q ⊎ Reaches t old q
  reached_before q reach = elim at_place [
    | inl at_root ↦ inr (subst (λ p. Reaches t (reference_at t p) q) (sym at_root) reach)
    | inr entry ↦ elim (avoids_or t place reach) [ inl way ↦ inl (entry, way) | inr through ↦ inr through.behind ]
  ]

  pub beside_before : (q : Reference) → IsBeside q → IsReached t q
  beside_before q beside = reaches t place beside.1

  -- what is below the old reference is of the tree
  old_before : (i : ℕ) → Reaches t old (Leaf i) → IsReached t (Leaf i)
  old_before i inner = below_old t place (Leaf i) is_place (λ e. none_reached t i (subst (λ r. Reaches t r (Leaf i)) e inner)) inner

  pub beside_after : (q : Reference) → IsBeside q → IsReached after q
  beside_after q beside = subst (λ r. Reaches after r q) (sym (is.root_stays beside.0)) (kept t root child place new is beside.1)

  -- the cell of the place stays
  pub cell_stays : (x b : ℕ) → place ≡ Entry x b → IsReached after (Cell x)
  cell_stays x b entry =
      let to_x : Avoids t place t.root (Cell x) = subst (λ p. Avoids t p t.root (Cell x)) (sym entry) (to_cell t x b t.root (subst (IsPlace t) entry is_place)) in
      let stays_root : root ≡ t.root = is.root_stays (λ e. let wrong : Root ≡ Entry x b = sym e ∙ entry in cc) in
      subst (λ r. Reaches after r (Cell x)) (sym stays_root) (kept t root child place new is to_x)

  -- so what is below the new reference afterwards is reached
  pub from_new : (p : Place) → place ≡ p → IsPlace t p → new ≢ Nothing → (q : Reference) → Reaches after new q → IsReached after q
  from_new Root at_root in_tree some_new q reach = subst (λ r. Reaches after r q) (sym (ap (reference_at after) (sym at_root) ∙ is.here)) reach
  from_new (Entry x b) entry in_tree some_new q reach =
      let at_new : child x b ≡ new = ap (reference_at after) (sym entry) ∙ is.here in
      join after (cell_stays x b entry) (below (λ e. some_new (sym at_new ∙ e)) (subst (λ r. Reaches after r q) (sym at_new) reach))

  -- what is below the old reference keeps what is below it
  pub old_kept : old ≢ Nothing → (r q : Reference) → Reaches t old r → Reaches t r q → Reaches after r q
  old_kept some_old r q above reach = elim (avoids_or t place reach) [
    | inl way ↦ kept t root child place new is way
    | inr through ↦
        let under : IsUnder t through.cell through.byte old = subst (λ p. FitsAt t p old) through.is (old_fits room t place tree is_place some_old) in
        let deeper : t.depth through.cell < depth_of t old = under.deeper in
        let inside = within room t {r = old} (λ s way. tree s (below_old t place s is_place some_old way)) (join t above (reaches t place through.before)) in
        let deep : depth_of t old ≤ t.depth through.cell = inside.deep in
        absurd (omega arith)
  ]

  -- and so is one below the new reference, afterwards
  pub new_after : IsSoundFrom room t new → FitsAt t place new → (i : ℕ) → Reaches t new (Leaf i) → IsReached after (Leaf i)
  new_after sound fits i inner =
      let some_new : new ≢ Nothing = λ e. none_reached t i (subst (λ r. Reaches t r (Leaf i)) e inner) in
      let below_new : Reaches after new (Leaf i) = elim (avoids_or t place inner) [
        | inl way ↦ kept t root child place new is way
        | inr through ↦
            let under = fits_entry fits through.cell through.byte through.is in
            let deeper : t.depth through.cell < depth_of t new = under.deeper in
            let inside = within room t sound (reaches t place through.before) in
            let deep : depth_of t new ≤ t.depth through.cell = inside.deep in
            absurd (omega arith)
      ] in
      from_new place refl is_place some_new (Leaf i) below_new

  apart_from_old : (i : ℕ) → IsBeside (Leaf i) → Reaches t old (Leaf i) → ⊥
  apart_from_old i beside inner = from place refl is_place
    where
      from : (p : Place) → place ≡ p → IsPlace t p → ⊥
      from Root at_root in_tree = beside.0 at_root
      from (Entry x b) entry in_tree =
          one_way room t x b i refl tree (subst (λ p. Avoids t p t.root (Leaf i)) entry beside.1) in_tree (subst (λ p. Reaches t (reference_at t p) (Leaf i)) entry inner)

  -- a key whose leaves are the same leads where it led
  same_at : IsTree room after → (k : ℕ) → ((i : ℕ) → t.key i ≡ k → IsReached t (Leaf i) → IsReached after (Leaf i)) → ((i : ℕ) → t.key i ≡ k → IsReached after (Leaf i) → IsReached t (Leaf i))
      → layer_in after k ≡ layer_in t k
  same_at tree' k on back = elim (some_or_none (layer_in after k)) [
    | inl leads ↦
        let has = has_key room after k leads.0 leads.1 in
        leads.1 ∙ sym has.2 ∙ sym (led room t tree has.0 (back has.0 has.1.key_is has.1.reached)) ∙ ap (layer_in t) has.1.key_is
    | inr none ↦ elim (some_or_none (layer_in t k)) [
      | inl leads ↦
          let has = has_key room t k leads.0 leads.1 in
          let there = led room after tree' has.0 (on has.0 has.1.key_is has.1.reached) in
          let wrong : None ≡ Some (t.word has.0 - 1) = sym none ∙ ap (layer_in after) (sym has.1.key_is) ∙ there in
          absurd (cc)
      | inr none_before ↦ none ∙ sym none_before
    ]
  ]

  changed_here : (node : Option ℕ) (key k : ℕ) → k ≡ key → changed_at (layer_in t) key node k ≡ node
  changed_here node key k same = ap (λ b. cond b node (layer_in t k)) (eq-eqb k key same)

  changed_other : (node : Option ℕ) (key k : ℕ) → k ≢ key → changed_at (layer_in t) key node k ≡ layer_in t k
  changed_other node key k other = ap (λ b. cond b node (layer_in t k)) (ne_eqb k key other)

  -- one leaf more below the new reference
  pub more_makes : (leaf : ℕ) → new ≢ Nothing → IsSoundFrom room t new → ((x : ℕ) → Reaches t new (Cell x) → HasTwo t x) → FitsAt t place new → Reaches t new (Leaf leaf)
      → ((i : ℕ) → Reaches t old (Leaf i) → Reaches t new (Leaf i)) → ((i : ℕ) → Reaches t new (Leaf i) → Reaches t old (Leaf i) ⊎ (i ≡ leaf)) → Makes room t after (t.key leaf) (Some (t.word leaf - 1))
  more_makes leaf some_new sound two fits at_leaf on back =
      let tree' : IsTree room after = tree_after (λ x reach. two_kept some_new x (tree (Cell x) reach).two) (λ q some. sound q) (λ x reach. two_kept some_new x (two x reach)) (λ some. fits) in
      record {
        tree = tree';
        layer = λ k. elim (cases_eq k (t.key leaf)) [
          | inl same ↦ ap (layer_in after) same ∙ led room after tree' leaf (new_after sound fits leaf at_leaf) ∙ sym (changed_here (Some (t.word leaf - 1)) (t.key leaf) k same)
          | inr other ↦
              same_at tree' k
              (λ i has reach. elim (reached_before (Leaf i) reach) [ inl beside ↦ beside_after (Leaf i) beside | inr inner ↦ new_after sound fits i (on i inner) ])
              (λ i has reach. elim (reached_was (Leaf i) reach) [
                | inl beside ↦ beside_before (Leaf i) beside
                | inr inner ↦ elim (back i inner.1) [ inl at_old ↦ old_before i at_old | inr is_leaf ↦ absurd (other (sym has ∙ ap t.key is_leaf)) ]
              ])
              ∙ sym (changed_other (Some (t.word leaf - 1)) (t.key leaf) k other)
        ];
      }

  -- one leaf less
  pub less_makes : (leaf : ℕ) → ((x : ℕ) → IsReached t (Cell x) → HasTwo after x) → ((q : Reference) → new ≢ Nothing → Reaches t new q → IsSound room t q) → ((x : ℕ) → Reaches t new (Cell x) → HasTwo after x)
      → (new ≢ Nothing → FitsAt t place new) → Reaches t old (Leaf leaf) → ((i : ℕ) → Reaches t old (Leaf i) → i ≢ leaf → Reaches t new (Leaf i))
      → ((i : ℕ) → Reaches t new (Leaf i) → Reaches t old (Leaf i) × (i ≢ leaf)) → Makes room t after (t.key leaf) None
  less_makes leaf two sound two_new fits at_leaf on back =
      let tree' : IsTree room after = tree_after two sound two_new fits in
      let leaf_before = old_before leaf at_leaf in
      let new_leaf : (i : ℕ) → Reaches t new (Leaf i) → IsReached after (Leaf i) =
      λ i inner. let some_new : new ≢ Nothing = λ e. none_reached t i (subst (λ r. Reaches t r (Leaf i)) e inner) in new_after (λ q. sound q some_new) (fits some_new) i inner in
      record {
        tree = tree';
        layer = λ k. elim (cases_eq k (t.key leaf)) [
          | inl same ↦ elim (some_or_none (layer_in after k)) [
            | inr none ↦ none ∙ sym (changed_here None (t.key leaf) k same)
            | inl leads ↦
                let has = has_key room after k leads.0 leads.1 in
                let i : ℕ = has.0 in
                let key_is : t.key i ≡ t.key leaf = has.1.key_is ∙ same in
                absurd (elim (reached_was (Leaf i) has.1.reached) [
                  | inl beside ↦
                      let one = leaves_are_apart room t tree i leaf (beside_before (Leaf i) beside) leaf_before key_is in
                      apart_from_old i beside (subst (λ j. Reaches t old (Leaf j)) (sym one) at_leaf)
                  | inr inner ↦ let was_old = back i inner.1 in was_old.1 (leaves_are_apart room t tree i leaf (old_before i was_old.0) leaf_before key_is)
                ])
          ]
          | inr other ↦
              same_at tree' k
              (λ i has reach. elim (reached_before (Leaf i) reach) [
                | inl beside ↦ beside_after (Leaf i) beside
                | inr inner ↦ new_leaf i (on i inner (λ e. other (sym has ∙ ap t.key e)))
              ])
              (λ i has reach. elim (reached_was (Leaf i) reach) [ inl beside ↦ beside_before (Leaf i) beside | inr inner ↦ old_before i (back i inner.1).0 ])
              ∙ sym (changed_other None (t.key leaf) k other)
        ];
      }
