-- Leaves below a reference, counted child after child.
use Rattle.std.proofs.Common.{◌≡◌, ℕ, zero, suc, ◌+◌, ◌-◌, ◌<◌, ◌≤◌, List, length, length-append, inl, inr, refl, sym, subst, ap, ◌∙◌, arith}
use Rattle.std.proofs.lemmas.Bool.{cases_eq, cases_lt}
use Rattle.pm_words.specs.declared.layout.Layout.{Layout}
use Rattle.pm_words.specs.Images.{IsImage}
use Rattle.layer_map.specs.Layers.{HasFew}
use Rattle.radix_nodes.specs.Keys.{key_bytes}
use Rattle.tree_law.specs.Trees.{Reference, Nothing, Leaf, Cell, Tree, Reaches, depth_of, way_length}
use Rattle.image_layer_rules.specs.Checks.{IsWrongFrom}
use Rattle.tree_law.specs.Words.{reference_of}
use Rattle.tree_law.specs.Leaves.{gather, bytes, leaves}
use Rattle.tree_law.proofs.LeafLaw.{few_is_count}
use Rattle.tree_floor.proofs.FloorExact.{reference_some}
use Rattle.image_layer_rules.specs.Faults.{image_tree, image_room, IsWrong}
use Rattle.image_layer_rules.specs.Counts.{HasMore, LeavesRoom}
use Rattle.image_layer_rules.specs.Rules.{image_map, BreaksTree, is_wrong, is_reached_twice, reaches_its_root, has_many, is_uncovered}
use Rattle.image_layer_rules.specs.Laws.{RuleOnCount}
use Rattle.image_layer_rules.proofs.WalkLemmas.{to_nothing, child_deeper, depth_small}
use Rattle.image_layer_rules.proofs.RightLemmas.{rule_on_tree}

all_bytes : bytes ≡ 256
unfolding bytes
all_bytes = refl

-- those below the first so many children of a cell
abbrev pub below_first : Tree → ℕ → ℕ → ℕ → List ℕ
below_first t fuel x n = gather (λ b. leaves t fuel (t.child x b)) n

module _ (t : Tree) where
  pub none_below : (fuel : ℕ) → length (leaves t fuel Nothing) ≡ 0
  none_below zero = refl
  none_below (suc fuel) = refl

  pub one_leaf : (fuel i : ℕ) → 1 ≤ fuel → length (leaves t fuel (Leaf i)) ≡ 1
  one_leaf zero i enough = absurd (omega arith)
  one_leaf (suc fuel) i enough = refl

  pub cell_leaves : (fuel x : ℕ) → 1 ≤ fuel → leaves t fuel (Cell x) ≡ below_first t (fuel - 1) x 256
  cell_leaves zero x enough = absurd (omega arith)
  cell_leaves (suc fuel) x enough =
      ap (gather (λ b. leaves t fuel (t.child x b))) all_bytes
      ∙ ap (λ f. below_first t f x 256) (let is : fuel ≡ suc fuel - 1 = omega arith in is)

  pub next_first : (fuel x n : ℕ) → length (below_first t fuel x (n + 1)) ≡ length (below_first t fuel x n) + length (leaves t fuel (t.child x n))
  next_first fuel x n =
      ap (λ k. length (below_first t fuel x k)) (let is : n + 1 ≡ suc n = omega arith in is) ∙ length-append (below_first t fuel x n) (leaves t fuel (t.child x n))

  pub first_most : (fuel x m n : ℕ) → m ≤ n → length (below_first t fuel x m) ≤ length (below_first t fuel x n)
  first_most fuel x m zero le = let is : m ≡ 0 = omega arith in subst (λ k. length (below_first t fuel x k) ≤ length (below_first t fuel x 0)) (sym is) (omega arith)
  first_most fuel x m (suc n) le = elim (cases_eq m (suc n)) [
    | inl is ↦ subst (λ k. length (below_first t fuel x k) ≤ length (below_first t fuel x (suc n))) (sym is) (omega arith)
    | inr apart ↦
        let fewer = first_most fuel x m n (omega (arith, apart)) in
        let more : length (below_first t fuel x (suc n)) ≡ length (below_first t fuel x n) + length (leaves t fuel (t.child x n)) = length-append (below_first t fuel x n) (leaves t fuel (t.child x n)) in
        omega arith
  ]

-- a child, or none, is deeper than its cell
pub head_deeper : (l : Layout) (image : List ℕ) (x : ℕ) → ¬ IsWrong l image (Cell x) → (b child : ℕ) → (image_tree l image).child x b ≡ reference_of child → (image_tree l image).depth x < depth_of (image_tree l image) (reference_of child)
head_deeper l image x right b child same = elim (cases_eq child 0) [
  | inl none ↦ subst (λ r. (image_tree l image).depth x < depth_of (image_tree l image) r) (sym (to_nothing child none)) (depth_small l image x right)
  | inr some_child ↦ child_deeper l image x right b (reference_of child) same (reference_some child some_child)
]

-- one child more
pub room_goes : (l : Layout) (image : List ℕ) (x byte child next room left rest : ℕ) → (image_tree l image).child x byte ≡ reference_of child
    → ((fuel : ℕ) → way_length ≤ fuel + next → left + length (below_first (image_tree l image) fuel x byte) ≡ room)
    → LeavesRoom l image child next left rest
    → (fuel : ℕ) → way_length ≤ fuel + next → rest + length (below_first (image_tree l image) fuel x (byte + 1)) ≡ room
room_goes l image x byte child next room left rest same before goes fuel enough =
    let t = image_tree l image in
    let now = goes fuel enough in
    let then = before fuel enough in
    let here : length (leaves t fuel (t.child x byte)) ≡ length (leaves t fuel (reference_of child)) = ap (λ r. length (leaves t fuel r)) same in
    let more = next_first t fuel x byte in
    omega arith

pub room_ends : (l : Layout) (image : List ℕ) (x byte child least next room left : ℕ) (s : Reference) → s ≡ Cell x → byte < 256 → 1 ≤ next → least < next → next ≤ key_bytes → (image_tree l image).child x byte ≡ reference_of child
    → ((fuel : ℕ) → way_length ≤ fuel + next → left + length (below_first (image_tree l image) fuel x byte) ≡ room)
    → HasMore l image child next left
    → (fuel : ℕ) → way_length ≤ fuel + least → room < length (leaves (image_tree l image) fuel s)
room_ends l image x byte child least next room left s is lt some_next later small same before more fuel enough =
    let t = image_tree l image in
    let f = fuel - 1 in
    let enough' : way_length ≤ f + next = omega arith in
    let now = more f enough' in
    let then = before f enough' in
    let here : length (leaves t f (t.child x byte)) ≡ length (leaves t f (reference_of child)) = ap (λ r. length (leaves t f r)) same in
    let next_is = next_first t f x byte in
    let most = first_most t f x (byte + 1) 256 (omega arith) in
    let whole : length (leaves t fuel s) ≡ length (below_first t f x 256) = ap (λ r. length (leaves t fuel r)) is ∙ ap (λ (xs : List ℕ). length xs) (cell_leaves t fuel x (omega arith)) in
    omega arith

pub room_left : (l : Layout) (image : List ℕ) (x byte least next room left : ℕ) (s : Reference) → s ≡ Cell x → byte ≡ 256 → least < next → next ≤ key_bytes
    → ((fuel : ℕ) → way_length ≤ fuel + next → left + length (below_first (image_tree l image) fuel x byte) ≡ room)
    → (fuel : ℕ) → way_length ≤ fuel + least → left + length (leaves (image_tree l image) fuel s) ≡ room
room_left l image x byte least next room left s is last later small before fuel enough =
    let t = image_tree l image in
    let f = fuel - 1 in
    let then = before f (let enough' : way_length ≤ f + next = omega arith in enough') in
    let all : length (below_first t f x byte) ≡ length (below_first t f x 256) = ap (λ n. length (below_first t f x n)) last in
    let whole : length (leaves t fuel s) ≡ length (below_first t f x 256) = ap (λ r. length (leaves t fuel r)) is ∙ ap (λ (xs : List ℕ). length xs) (cell_leaves t fuel x (omega arith)) in
    omega arith

-- rule 11 alone says how many keys there are
pub many_if : (l : Layout) (image : List ℕ) (rule : ℕ) → rule ≡ 11 → BreaksTree l image rule → ¬ HasFew l.nodes (image_map l image)
many_if l image rule is (is_wrong q way wrong) = absurd (omega arith)
many_if l image rule is (is_reached_twice x y a b twice) = absurd (omega arith)
many_if l image rule is (reaches_its_root x b way some_child same) = absurd (omega arith)
many_if l image rule is (has_many many) = many
many_if l image rule is (is_uncovered key node differ) = absurd (omega arith)

pub rule_on_count : RuleOnCount
rule_on_count l image is right =
    let order = (rule_on_tree l image is).0 right in
    let count = few_is_count (image_room l) (image_tree l image) l.nodes order.lawful.tree in (
      λ keeps. elim (cases_lt l.nodes (length (leaves (image_tree l image) way_length (image_tree l image).root))) [
        | inl more ↦ absurd (keeps (has_many (λ few. let le = count.0 few in omega arith)))
        | inr le ↦ count.1 le
      ],
      λ few breaks. many_if l image 11 refl breaks few,
    )

-- whether a count from the root finds more
pub more_told : (l : Layout) (image : List ℕ) → IsImage l image → ¬ BreaksTree l image 10 → (root room : ℕ) → room ≡ l.nodes → (image_tree l image).root ≡ reference_of root → HasMore l image root 0 room → BreaksTree l image 11
more_told l image is right root room nodes at_root more =
    let order = (rule_on_tree l image is).0 right in
    let count = few_is_count (image_room l) (image_tree l image) l.nodes order.lawful.tree in
    let past = more way_length (omega arith) in
    let same : length (leaves (image_tree l image) way_length (image_tree l image).root) ≡ length (leaves (image_tree l image) way_length (reference_of root)) = ap (λ r. length (leaves (image_tree l image) way_length r)) at_root in
    has_many (λ few. let le = count.0 few in omega arith)

pub none_told : (l : Layout) (image : List ℕ) → IsImage l image → ¬ BreaksTree l image 10 → (root room left : ℕ) → room ≡ l.nodes → (image_tree l image).root ≡ reference_of root → LeavesRoom l image root 0 room left → ¬ BreaksTree l image 11
none_told l image is right root room left nodes at_root some breaks =
    let order = (rule_on_tree l image is).0 right in
    let count = few_is_count (image_room l) (image_tree l image) l.nodes order.lawful.tree in
    let all = some way_length (omega arith) in
    let same : length (leaves (image_tree l image) way_length (image_tree l image).root) ≡ length (leaves (image_tree l image) way_length (reference_of root)) = ap (λ r. length (leaves (image_tree l image) way_length r)) at_root in
    many_if l image 11 refl breaks (count.1 (omega arith))

-- with a tree in order nothing is wrong from the root on
pub root_right : (l : Layout) (image : List ℕ) → ¬ BreaksTree l image 10 → (root : ℕ) → (image_tree l image).root ≡ reference_of root → ¬ IsWrongFrom l image (reference_of root)
root_right l image right root at_root wrong = right (is_wrong wrong.0 (subst (λ r. Reaches (image_tree l image) r wrong.0) (sym at_root) wrong.1) wrong.2)
