-- Leaves and cells of a tree in order: their stretches of keys, and what a key leads to.
use Rattle.std.proofs.Common.{◌≡◌, ◌≢◌, ℕ, zero, suc, ◌+◌, ◌*◌, ◌<◌, ◌≤◌, ◌⊎◌, ◌/◌, cond, Some, None, inl, inr, refl, sym, subst, ap, ap₂, ◌∙◌, arith, mul-one, div-one}
use Rattle.std.proofs.lemmas.Bool.{cases_eq, eq-eqb, ne_eqb}
use Rattle.tree_law.specs.Trees.{Reference, Nothing, Leaf, Cell, Tree, Reaches, here, below, Room, IsUnder, IsCell, IsSound, IsSoundFrom, span, first_bytes, byte_at, low, depth_of, find, leaf_with}
use Rattle.tree_law.proofs.Spans.{span_pos, span_last, first_is, Stretch, stretch, byte_told, edges_rise, edge_first, edge_last}
use Rattle.tree_law.specs.Trees.{way_length}
use Rattle.radix_nodes.specs.Keys.{key_bytes}

pub is_nothing : (r : Reference) → (r ≡ Nothing) ⊎ (r ≢ Nothing)
is_nothing Nothing = inl refl
is_nothing (Leaf i) = inr (λ e. cc)
is_nothing (Cell x) = inr (λ e. cc)

module _ (room : Room) (t : Tree) where
  pub depth_most : (r : Reference) → IsSound room t r → depth_of t r ≤ key_bytes
  depth_most Nothing is = omega arith
  depth_most (Leaf i) is = omega arith
  depth_most (Cell x) is = let lt : t.depth x < key_bytes = is.depth in omega arith

  pub aligned : (r : Reference) → IsSound room t r → first_bytes (depth_of t r) (low t r) * span (depth_of t r) ≡ low t r
  aligned Nothing is = absurd is
  aligned (Leaf i) is = ap₂ (λ a b. a * b) (first_is key_bytes (t.key i) ∙ ap (λ s. t.key i / s) span_last ∙ div-one (t.key i)) span_last ∙ mul-one (t.key i)
  aligned (Cell x) is = is.zeros

  -- where the keys below a child are
  pub child_stretch : (x b : ℕ) → IsCell room t x → t.child x b ≢ Nothing → IsSound room t (t.child x b) → Stretch (t.depth x) (t.prefix x) b (low t (t.child x b)) (depth_of t (t.child x b))
  child_stretch x b cell some_child sound =
      let under : IsUnder t x b (t.child x b) = cell.under b some_child in
      stretch (t.depth x) (t.prefix x) b (low t (t.child x b)) (depth_of t (t.child x b)) (first_bytes (t.depth x) (t.prefix x)) (first_bytes (depth_of t (t.child x b)) (low t (t.child x b)))
      cell.depth cell.zeros under.bytes under.deeper (depth_most (t.child x b) sound) (aligned (t.child x b) sound)

  pub child_sound : (x b : ℕ) → IsSoundFrom room t (Cell x) → t.child x b ≢ Nothing → IsSoundFrom room t (t.child x b)
  child_sound x b sound some_child q reach = sound q (below some_child reach)

  -- what is reached has its keys among those of where one begins, and is no less deep
  pub record IsWithin (r q : Reference) : Type 0 where
    pub least : low t r ≤ low t q
    pub most : low t q + span (depth_of t q) ≤ low t r + span (depth_of t r)
    pub deep : depth_of t r ≤ depth_of t q

  pub within : {r q : Reference} → IsSoundFrom room t r → Reaches t r q → IsWithin r q
  within sound here = record { least = omega arith; most = omega arith; deep = omega arith }
  within {q = q} sound (below {x = x} {b = b} some_child reach) =
      let cell = sound (Cell x) here in
      let child = t.child x b in
      let child_is = sound child (below some_child here) in
      let inner = within (child_sound x b sound some_child) reach in
      let part = child_stretch x b cell some_child child_is in
      let under : IsUnder t x b child = cell.under b some_child in
      let small : b < 256 = under.byte in
      let lt : t.depth x < key_bytes = cell.depth in
      let first = edge_first (t.depth x) (t.prefix x) in
      let last = edge_last (t.depth x) (t.prefix x) lt in
      let from_first = edges_rise (t.depth x) (t.prefix x) 0 b (omega arith) in
      let to_last = edges_rise (t.depth x) (t.prefix x) (b + 1) 256 (omega arith) in
      let part_low = part.low in
      let part_high = part.high in
      let deeper : t.depth x < depth_of t child = under.deeper in
      let inner_least = inner.least in
      let inner_most = inner.most in
      let inner_deep = inner.deep in
      record { least = omega arith; most = omega arith; deep = omega arith }

  -- the keys below a child have its byte
  pub below_child : (x b : ℕ) (q : Reference) → IsSoundFrom room t (Cell x) → t.child x b ≢ Nothing → Reaches t (t.child x b) q → Stretch (t.depth x) (t.prefix x) b (low t q) (depth_of t q)
  below_child x b q sound some_child reach =
      let cell = sound (Cell x) here in
      let part = child_stretch x b cell some_child (sound (t.child x b) (below some_child here)) in
      let inner = within (child_sound x b sound some_child) reach in
      let part_low = part.low in
      let part_high = part.high in
      let inner_least = inner.least in
      let inner_most = inner.most in
      record { low = omega arith; high = omega arith }

  pub byte_below : (x b : ℕ) (q : Reference) → IsSoundFrom room t (Cell x) → t.child x b ≢ Nothing → Reaches t (t.child x b) q → byte_at (t.depth x) (low t q) ≡ b
  byte_below x b q sound some_child reach =
      let cell = sound (Cell x) here in
      let part = below_child x b q sound some_child reach in
      let under : IsUnder t x b (t.child x b) = cell.under b some_child in
      let some_span = span_pos (depth_of t q) in
      let part_high = part.high in
      byte_told (t.depth x) (t.prefix x) (low t q) (first_bytes (t.depth x) (t.prefix x)) b cell.depth cell.zeros under.byte part.low (omega arith)

  leaf_here : (i key : ℕ) → t.key i ≡ key → leaf_with t i key ≡ Some i
  leaf_here i key is = ap (λ b. cond b (Some i) None) (eq-eqb (t.key i) key is)

  -- a leaf that is reached is found by its key
  pub found : (fuel : ℕ) (i : ℕ) {r q : Reference} → q ≡ Leaf i → IsSoundFrom room t r → Reaches t r q → way_length ≤ fuel + depth_of t r → find t fuel r (t.key i) ≡ Some i
  found zero i {r = r} is sound reach enough = let most = depth_most r (sound r here) in absurd (omega arith)
  found (suc fuel) i is sound here enough = subst (λ r. find t (suc fuel) r (t.key i) ≡ Some i) (sym is) (leaf_here i (t.key i) refl)
  found (suc fuel) i {q = q} is sound (below {x = x} {b = b} some_child reach) enough =
      let cell = sound (Cell x) here in
      let under : IsUnder t x b (t.child x b) = cell.under b some_child in
      let deeper : t.depth x < depth_of t (t.child x b) = under.deeper in
      let byte : byte_at (t.depth x) (t.key i) ≡ b = ap (λ r. byte_at (t.depth x) (low t r)) (sym is) ∙ byte_below x b q sound some_child reach in
      ap (λ c. find t fuel (t.child x c) (t.key i)) byte ∙ found fuel i is (child_sound x b sound some_child) reach (omega arith)

  -- what is found is a leaf with the key
  pub record IsFound (r : Reference) (key i : ℕ) : Type 0 where
    pub reached : Reaches t r (Leaf i)
    pub key_is : t.key i ≡ key

  nothing_found : (fuel key : ℕ) → find t fuel Nothing key ≡ None
  nothing_found zero key = refl
  nothing_found (suc fuel) key = refl

  pub is_found : (fuel : ℕ) (r : Reference) (key i : ℕ) → find t fuel r key ≡ Some i → IsFound r key i
  is_found zero r key i is = absurd cc
  is_found (suc fuel) Nothing key i is = absurd cc
  is_found (suc fuel) (Leaf j) key i is = elim (cases_eq (t.key j) key) [
    | inl same ↦ let leaf : Some j ≡ Some i = sym (leaf_here j key same) ∙ is in let number : j ≡ i = cc in
        subst (λ k. IsFound (Leaf j) key k) number (record { reached = here; key_is = same })
    | inr apart ↦ let none : None ≡ Some i = sym (ap (λ b. cond b (Some j) None) (ne_eqb (t.key j) key apart)) ∙ is in absurd cc
  ]
  is_found (suc fuel) (Cell x) key i is =
      let b = byte_at (t.depth x) key in
      elim (is_nothing (t.child x b)) [
        | inl none ↦ let no_leaf : None ≡ Some i = sym (nothing_found fuel key) ∙ ap (λ r. find t fuel r key) (sym none) ∙ is in absurd cc
        | inr some_child ↦ let inner = is_found fuel (t.child x b) key i is in record { reached = below some_child inner.reached; key_is = inner.key_is }
      ]
