-- A node word alone is another; and what isn't reached is.
use Rattle.std.proofs.Common.{◌≡◌, ◌≢◌, ℕ, ◌+◌, ◌-◌, ◌*◌, ◌<◌, ◌≤◌, ◌^◌, cond, Some, None, inl, inr, refl, sym, subst, ap, ap₂, ◌∙◌}
use Rattle.std.proofs.lemmas.Bool.{cases_eq, eq-eqb, ne_eqb}
use Rattle.tree_law.specs.Trees.{Reference, Nothing, Leaf, Cell, Tree, Reaches, here, below, IsReached, Room, IsUnder, IsLeaf, IsCell, IsSound, IsTree, span, first_bytes, low, depth_of, layer_in}
use Rattle.tree_law.specs.Switches.{RenameMakes, IsSameAt, AreSameWhereReached, OthersMayDiffer}
use Rattle.tree_law.proofs.TreeLaw.{led, has_key, some_or_none}
use Rattle.tree_law.proofs.Avoiding.{join}
use Rattle.radix_nodes.specs.Keys.{key_bytes}

module _ (t : Tree) (word : ℕ → ℕ) where
  abbrev named : Tree
  named = record t { word = word }

  pub to_named : {r q : Reference} → Reaches t r q → Reaches named r q
  to_named here = here
  to_named (below some_child reach) = below some_child (to_named reach)

  pub from_named : {r q : Reference} → Reaches named r q → Reaches t r q
  from_named here = here
  from_named (below some_child reach) = below some_child (from_named reach)

  low_named : (r : Reference) → low named r ≡ low t r
  low_named Nothing = refl
  low_named (Leaf i) = refl
  low_named (Cell x) = refl

  depth_named : (r : Reference) → depth_of named r ≡ depth_of t r
  depth_named Nothing = refl
  depth_named (Leaf i) = refl
  depth_named (Cell x) = refl

  cell_named : (room : Room) (x : ℕ) → IsCell room t x → IsCell room named x
  cell_named room x cell = record {
    number = cell.number;
    depth = cell.depth;
    zeros = cell.zeros;
    two = (let two = cell.two in record { one = two.one; two = two.two; apart = two.apart; has_one = two.has_one; has_two = two.has_two });
    under = λ b some_child. let under = cell.under b some_child in record {
      byte = under.byte;
      bytes = ap (first_bytes (t.depth x + 1)) (low_named (t.child x b)) ∙ under.bytes;
      deeper = subst (λ d. t.depth x < d) (sym (depth_named (t.child x b))) under.deeper;
    };
  }

pub rename_makes : RenameMakes
rename_makes room t word leaf to tree reached some_node most is =
    let after = record t { word = word } in
    let at_leaf : (i : ℕ) → IsLeaf room t i → IsLeaf room after i = λ i sound. record {
      number = sound.number;
      key = sound.key;
      some_node = elim (cases_eq i leaf) [ inl same ↦ (λ e. some_node (sym (ap word same ∙ is.here) ∙ e)) | inr other ↦ (λ e. sound.some_node (sym (is.others i other) ∙ e)) ];
      node = elim (cases_eq i leaf) [ inl same ↦ subst (λ w. w ≤ room.nodes) (sym (ap word same ∙ is.here)) most | inr other ↦ subst (λ w. w ≤ room.nodes) (sym (is.others i other)) sound.node ];
    } in
    let tree' : IsTree room after = λ q reach. made q (tree q (from_named t word reach)) at_leaf in
    record {
      tree = tree';
      layer = λ k. elim (cases_eq k (t.key leaf)) [
        | inl same ↦ ap (layer_in after) same ∙ led room after tree' leaf (to_named t word reached) ∙ ap (λ w. Some (w - 1)) is.here ∙ sym (ap (λ b. cond b (Some (to - 1)) (layer_in t k)) (eq-eqb k (t.key leaf) same))
        | inr other ↦
            (elim (some_or_none (layer_in after k)) [
              | inl leads ↦
                  let has = has_key room after k leads.0 leads.1 in
                  let apart : has.0 ≢ leaf = λ e. other (sym has.1.key_is ∙ ap t.key e) in
                  leads.1 ∙ sym has.2 ∙ ap (λ w. Some (w - 1)) (is.others has.0 apart) ∙ sym (led room t tree has.0 (from_named t word has.1.reached)) ∙ ap (layer_in t) has.1.key_is
              | inr none ↦ elim (some_or_none (layer_in t k)) [
                | inl leads ↦
                    let has = has_key room t k leads.0 leads.1 in
                    let there = led room after tree' has.0 (to_named t word has.1.reached) in
                    let wrong : None ≡ Some (word has.0 - 1) = sym none ∙ ap (layer_in after) (sym has.1.key_is) ∙ there in
                    absurd cc
                | inr none_before ↦ none ∙ sym none_before
              ]
            ])
            ∙ sym (ap (λ b. cond b (Some (to - 1)) (layer_in t k)) (ne_eqb k (t.key leaf) other))
      ];
    }
  where
    made : (q : Reference) → IsSound room t q → ((i : ℕ) → IsLeaf room t i → IsLeaf room (record t { word = word }) i) → IsSound room (record t { word = word }) q
    made Nothing sound at_leaf = sound
    made (Leaf i) sound at_leaf = at_leaf i sound
    made (Cell x) sound at_leaf = cell_named t word room x sound

low_alike : (t t' : Tree) (r : Reference) → IsSameAt t t' r → low t' r ≡ low t r
low_alike t t' Nothing same = refl
low_alike t t' (Leaf i) same = same.0
low_alike t t' (Cell x) same = same.1

depth_alike : (t t' : Tree) (r : Reference) → IsSameAt t t' r → depth_of t' r ≡ depth_of t r
depth_alike t t' Nothing same = refl
depth_alike t t' (Leaf i) same = refl
depth_alike t t' (Cell x) same = same.0

module _ (room : Room) (t t' : Tree) (tree : IsTree room t) (alike : AreSameWhereReached t t') where
  child_alike : (x b : ℕ) → IsReached t (Cell x) → t'.child x b ≡ t.child x b
  child_alike x b reached = (alike.here (Cell x) reached).2 b

  next_reached : (x b : ℕ) → IsReached t (Cell x) → t.child x b ≢ Nothing → IsReached t (t.child x b)
  next_reached x b reached some_child = join t reached (below some_child here)

  reaches_then : {r q : Reference} → IsReached t r → Reaches t r q → Reaches t' r q
  reaches_then reached here = here
  reaches_then {q = q} reached (below {x = x} {b = b} some_child way) =
      let same = child_alike x b reached in
      below (λ e. some_child (sym same ∙ e)) (subst (λ r. Reaches t' r q) (sym same) (reaches_then (next_reached x b reached some_child) way))

  reached_then : {r q s : Reference} → r ≡ s → IsReached t s → Reaches t' r q → IsReached t q
  reached_then is reached here = subst (IsReached t) (sym is) reached
  reached_then is reached (below {x = x} {b = b} some_child way) =
      let reached' : IsReached t (Cell x) = subst (IsReached t) (sym is) reached in
      let same = child_alike x b reached' in
      reached_then same (next_reached x b reached' (λ e. some_child (same ∙ e))) way

  is_reached : (q : Reference) → IsReached t' q → IsReached t q
  is_reached q way = reached_then alike.root here way

  was_reached : (q : Reference) → IsReached t q → IsReached t' q
  was_reached q way = subst (λ r. Reaches t' r q) (sym alike.root) (reaches_then here way)

  sound_alike : (q : Reference) → IsReached t q → IsSound room t q → IsSameAt t t' q → IsSound room t' q
  sound_alike Nothing reached sound same = sound
  sound_alike (Leaf i) reached sound same = record {
    number = sound.number;
    key = subst (λ k. k < 256 ^ key_bytes) (sym same.0) sound.key;
    some_node = λ e. sound.some_node (sym same.1 ∙ e);
    node = subst (λ w. w ≤ room.nodes) (sym same.1) sound.node;
  }
  sound_alike (Cell x) reached sound same = record {
    number = sound.number;
    depth = subst (λ d. d < key_bytes) (sym same.0) sound.depth;
    zeros = ap₂ (λ d p. first_bytes d p * span d) same.0 same.1 ∙ sound.zeros ∙ sym same.1;
    two = (let two = sound.two in record { one = two.one; two = two.two; apart = two.apart; has_one = λ e. two.has_one (sym (same.2 two.one) ∙ e); has_two = λ e. two.has_two (sym (same.2 two.two) ∙ e) });
    under = λ b some_child.
        let some_before : t.child x b ≢ Nothing = λ e. some_child (same.2 b ∙ e) in
        let under = sound.under b some_before in
        let child_same = alike.here (t.child x b) (next_reached x b reached some_before) in
        subst (IsUnder t' x b) (sym (same.2 b)) (record {
          byte = under.byte;
          bytes = ap₂ (λ d k. first_bytes (d + 1) k) same.0 (low_alike t t' (t.child x b) child_same) ∙ under.bytes ∙ sym (ap₂ (λ d p. 256 * first_bytes d p + b) same.0 same.1);
          deeper = subst (λ d. d < depth_of t' (t.child x b)) (sym same.0) (subst (λ d. t.depth x < d) (sym (depth_alike t t' (t.child x b) child_same)) under.deeper);
        });
  }

  tree_alike : IsTree room t'
  tree_alike q way = let reached = is_reached q way in sound_alike q reached (tree q reached) (alike.here q reached)

  layer_alike : (k : ℕ) → layer_in t' k ≡ layer_in t k
  layer_alike k = elim (some_or_none (layer_in t' k)) [
    | inl leads ↦
        let has = has_key room t' k leads.0 leads.1 in
        let reached = is_reached (Leaf has.0) has.1.reached in
        let same = alike.here (Leaf has.0) reached in
        leads.1 ∙ sym has.2 ∙ ap (λ w. Some (w - 1)) same.1 ∙ sym (led room t tree has.0 reached) ∙ ap (layer_in t) (sym same.0 ∙ has.1.key_is)
    | inr none ↦ elim (some_or_none (layer_in t k)) [
      | inl leads ↦
          let has = has_key room t k leads.0 leads.1 in
          let same = alike.here (Leaf has.0) has.1.reached in
          let there = led room t' tree_alike has.0 (was_reached (Leaf has.0) has.1.reached) in
          let wrong : None ≡ Some (t'.word has.0 - 1) = sym none ∙ ap (layer_in t') (sym (same.0 ∙ has.1.key_is)) ∙ there in
          absurd cc
      | inr none_before ↦ none ∙ sym none_before
    ]
  ]

pub others_may_differ : OthersMayDiffer
others_may_differ room t t' tree alike = record { tree = tree_alike room t t' tree alike; layer = layer_alike room t t' tree alike; reached = is_reached room t t' tree alike }
