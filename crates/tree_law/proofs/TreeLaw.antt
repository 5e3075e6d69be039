-- The layer of a tree in order is its leaves.
use Rattle.std.proofs.Common.{◌≡◌, ◌≢◌, ℕ, ◌+◌, ◌-◌, ◌<◌, ◌≤◌, ◌⊎◌, Option, Some, None, inl, inr, refl, sym, subst, ap, ◌∙◌, arith}
use Rattle.tree_law.specs.Trees.{Leaf, Tree, IsReached, Room, IsLeaf, IsTree, find, node_at, layer_in, LeavesLead, LayerIsFinite, LayerLeadsToNodes, LeavesAreApart}
use Rattle.layer_map.proofs.Pigeons.{different_fit}
use Rattle.tree_law.proofs.Reach.{found, is_found}
use Rattle.tree_law.specs.Trees.{way_length}

pub some_or_none : {A : Type 0} (o : Option A) → ((x : A) × (o ≡ Some x)) ⊎ (o ≡ None)
some_or_none (Some x) = inl (x, refl)
some_or_none None = inr refl

-- the leaf of a key in a tree in order
pub finds : (room : Room) (t : Tree) → IsTree room t → (i : ℕ) → IsReached t (Leaf i) → find t way_length t.root (t.key i) ≡ Some i
finds room t tree i reached = found room t way_length i refl tree reached (omega arith)

pub led : (room : Room) (t : Tree) → IsTree room t → (i : ℕ) → IsReached t (Leaf i) → layer_in t (t.key i) ≡ Some (t.word i - 1)
led room t tree i reached = ap (node_at t) (finds room t tree i reached)

-- who has the key
pub record HasKey (t : Tree) (key i : ℕ) : Type 0 where
  pub found : find t way_length t.root key ≡ Some i
  pub reached : IsReached t (Leaf i)
  pub key_is : t.key i ≡ key

pub has_key : (room : Room) (t : Tree) (key node : ℕ) → layer_in t key ≡ Some node → (i : ℕ) × HasKey t key i × (Some (t.word i - 1) ≡ Some node)
has_key room t key node is = elim (some_or_none (find t way_length t.root key)) [
  | inl some_leaf ↦ let i = some_leaf.0 in let f = is_found room t way_length t.root key i some_leaf.1 in
      (i, record { found = some_leaf.1; reached = f.reached; key_is = f.key_is }, sym (ap (node_at t) some_leaf.1) ∙ is)
  | inr none ↦ absurd (let no : None ≡ Some node = sym (ap (node_at t) none) ∙ is in cc)
]

pub leaves_lead : LeavesLead
leaves_lead room t tree key node = (
  λ is.
      let has = has_key room t key node is in
      let i : ℕ = has.0 in
      let same : t.word i - 1 ≡ node = (let e : Some (t.word i - 1) ≡ Some node = has.2 in cc) in
      let leaf : IsLeaf room t i = tree (Leaf i) has.1.reached in
      let some_node : t.word i ≢ 0 = leaf.some_node in
      record { leaf = i; reached = has.1.reached; key_is = has.1.key_is; word = omega (arith, some_node) },
  λ led_by.
      let word : t.word led_by.leaf ≡ node + 1 = led_by.word in
      ap (layer_in t) (sym led_by.key_is) ∙ led room t tree led_by.leaf led_by.reached ∙ ap Some (omega arith),
)

pub leaves_are_apart : LeavesAreApart
leaves_are_apart room t tree i j at_i at_j same =
    let one : Some i ≡ Some j = sym (finds room t tree i at_i) ∙ ap (find t way_length t.root) same ∙ finds room t tree j at_j in cc

abbrev leaf_or : Option ℕ → ℕ
leaf_or None = 0
leaf_or (Some i) = i

pub layer_is_finite : LayerIsFinite
layer_is_finite room t tree count key some_key apart =
    let leaf : ℕ → ℕ = λ i. leaf_or (find t way_length t.root (key i)) in
    let found_at : (i : ℕ) → i < count → HasKey t (key i) (leaf i) = λ i lt.
    elim (some_or_none (find t way_length t.root (key i))) [
      | inl some_leaf ↦ let f = is_found room t way_length t.root (key i) some_leaf.0 some_leaf.1 in
          subst (λ o. HasKey t (key i) (leaf_or o)) (sym some_leaf.1) (record { found = some_leaf.1; reached = f.reached; key_is = f.key_is })
      | inr none ↦ absurd (some_key i lt (ap (node_at t) none))
    ] in
    different_fit room.leaves count leaf
    (λ i lt. let sound : IsLeaf room t (leaf i) = tree (Leaf (leaf i)) (found_at i lt).reached in sound.number)
    (λ i j lt lt' same. apart i j lt lt' (sym (found_at i lt).key_is ∙ ap t.key same ∙ (found_at j lt').key_is))

pub layer_leads_to_nodes : LayerLeadsToNodes
layer_leads_to_nodes room t tree key node is =
    let led_by = (leaves_lead room t tree key node).0 is in
    let leaf : IsLeaf room t led_by.leaf = tree (Leaf led_by.leaf) led_by.reached in
    let most : t.word led_by.leaf ≤ room.nodes = leaf.node in
    let word : t.word led_by.leaf ≡ node + 1 = led_by.word in
    omega arith
