-- The walk comes to no leaf and to no cell by two ways: the first bytes of its key or prefix tell the way.
use Rattle.std.proofs.Common.{◌≡◌, ◌≢◌, ℕ, ◌+◌, ◌-◌, ◌*◌, ◌<◌, ◌≤◌, ◌&&◌, true, false, leb, ltb, List, ◌∷◌, inl, inr, refl, sym, subst, ap, ap₂, ◌∙◌, arith}
use Rattle.std.proofs.lemmas.Bool.{cases_eq, cases_lt, and_parts, leb-true, ltb-true}
use Rattle.pm_words.specs.declared.layout.Layout.{Layout}
use Rattle.pm_words.specs.Locations.{leaf_count}
use Rattle.layer_map.proofs.Pigeons.{different_fit}
use Rattle.radix_nodes.specs.Keys.{key_bytes}
use Rattle.tree_law.specs.Trees.{Reference, Nothing, Leaf, Cell, first_bytes, low, depth_of}
use Rattle.tree_law.specs.Words.{kind_of, number_of}
use Rattle.tree_law.proofs.Spans.{first_next, fewer_alike, byte_small}
use Rattle.image_layer_rules.specs.Faults.{image_tree, image_room, IsWrong, leads_nowhere, has_no_leaf, has_no_cell, is_not_under}
use Rattle.image_layer_rules.specs.Visits.{Comes, ends, goes_on, VisitedOnce, VisitsAreFew}
use Rattle.image_layer_rules.proofs.WrongLemmas.{form_if, byte_within}
use Rattle.image_layer_rules.proofs.WalkLemmas.{depth_small, child_deeper}

module _ (l : Layout) (image : List ℕ) where
  -- the first bytes of a child of a cell with which nothing is wrong
  child_bytes : (x b : ℕ) → ¬ IsWrong l image (Cell x) → (image_tree l image).child x b ≢ Nothing → first_bytes ((image_tree l image).depth x + 1) (low (image_tree l image) ((image_tree l image).child x b)) ≡ 256 * first_bytes ((image_tree l image).depth x) ((image_tree l image).prefix x) + b
  child_bytes x b right some_child =
      let t = image_tree l image in
      elim (cases_eq (first_bytes (t.depth x + 1) (low t (t.child x b))) (256 * first_bytes (t.depth x) (t.prefix x) + b)) [
        | inl is ↦ is
        | inr other ↦ absurd (right (is_not_under b some_child other))
      ]

  -- what is come to is as deep at least, and begins with the same bytes
  record Shares (r q : Reference) : Type 0 where
    pub deep : depth_of (image_tree l image) r ≤ depth_of (image_tree l image) q
    pub same : (m : ℕ) → m ≤ depth_of (image_tree l image) r → m ≤ key_bytes → first_bytes m (low (image_tree l image) q) ≡ first_bytes m (low (image_tree l image) r)

  -- what is come to by a child is deeper than its cell, and has the branch byte
  record Below (x b : ℕ) (q : Reference) : Type 0 where
    pub deeper : (image_tree l image).depth x < depth_of (image_tree l image) q
    pub bytes : first_bytes ((image_tree l image).depth x + 1) (low (image_tree l image) q) ≡ 256 * first_bytes ((image_tree l image).depth x) ((image_tree l image).prefix x) + b

  below_child : (x b : ℕ) (q : Reference) → ¬ IsWrong l image (Cell x) → (image_tree l image).child x b ≢ Nothing → Shares ((image_tree l image).child x b) q → Below x b q
  below_child x b q right some_child shares =
      let t = image_tree l image in
      let small = depth_small l image x right in
      let deeper = child_deeper l image x right b (t.child x b) refl some_child in
      let deep = shares.deep in
      record { deeper = omega arith; bytes = shares.same (t.depth x + 1) (omega arith) (omega arith) ∙ child_bytes x b right some_child }

  shares_from : {r q : Reference} {bytes : List ℕ} → Comes l image r bytes q → Shares r q
  shares_from ends = record { deep = omega arith; same = λ m le most. refl }
  shares_from {q = q} (goes_on {x = x} {b = b} right some_child way) =
      let t = image_tree l image in
      let down = below_child x b q right some_child (shares_from way) in
      let deeper = down.deeper in
      let small = depth_small l image x right in
      let less = byte_within l image x (form_if l image x right) b some_child in
      let next = first_next (t.depth x) (low t q) small in
      let told = down.bytes in
      let byte_less = byte_small (t.depth x) (low t q) in
      let first : first_bytes (t.depth x) (low t q) ≡ first_bytes (t.depth x) (t.prefix x) = omega arith in
      record { deep = omega arith; same = λ m le most. fewer_alike m (t.depth x) (low t q) (t.prefix x) le (omega arith) first }

  once : {r q : Reference} {one : List ℕ} → Comes l image r one q → {s : Reference} {other : List ℕ} → s ≡ r → Comes l image s other q → one ≡ other
  once ends is ends = refl
  once {r = r} ends is (goes_on {x = y} {b = c} right some_child way) =
      let down = below_child y c r right some_child (shares_from way) in
      let deeper = down.deeper in
      let same : depth_of (image_tree l image) (Cell y) ≡ depth_of (image_tree l image) r = ap (depth_of (image_tree l image)) is in
      absurd (omega arith)
  once {q = q} (goes_on {x = x} {b = b} right some_child way) is ends =
      let down = below_child x b q right some_child (shares_from way) in
      let deeper = down.deeper in
      let same : depth_of (image_tree l image) q ≡ depth_of (image_tree l image) (Cell x) = ap (depth_of (image_tree l image)) is in
      absurd (omega arith)
  once {q = q} (goes_on {x = x} {b = b} right some_child way) is (goes_on {x = y} {b = c} right' some_child' way') =
      let t = image_tree l image in
      let cell : y ≡ x = cc in
      let one = (below_child x b q right some_child (shares_from way)).bytes in
      let other = (below_child y c q right' some_child' (shares_from way')).bytes in
      let left : first_bytes (t.depth y + 1) (low t q) ≡ first_bytes (t.depth x + 1) (low t q) = ap (λ z. first_bytes (t.depth z + 1) (low t q)) cell in
      let first : first_bytes (t.depth y) (t.prefix y) ≡ first_bytes (t.depth x) (t.prefix x) = ap (λ z. first_bytes (t.depth z) (t.prefix z)) cell in
      let byte : b ≡ c = omega arith in
      ap₂ (λ h bytes. h ∷ bytes) byte (once way (ap₂ t.child cell (sym byte)) way')

pub visited_once : VisitedOnce
visited_once l image from to one other first second = once l image first refl second

-- a number for each leaf and cell that there is
number : Reference → ℕ
number Nothing = 0
number (Leaf i) = 5 * i
number (Cell x) = 5 * number_of x + (kind_of x - 1)

module _ (l : Layout) (image : List ℕ) where
  cell_kind : (x : ℕ) → ¬ IsWrong l image (Cell x) → (2 ≤ kind_of x) × (kind_of x ≤ 5) × (number_of x < leaf_count l)
  cell_kind x right = elim ((image_room l).is_cell x) as (λ b. (image_room l).is_cell x ≡ b → (2 ≤ kind_of x) × (kind_of x ≤ 5) × (number_of x < leaf_count l)) [
    | false ↦ λ e. absurd (right (has_no_cell e))
    | true ↦ λ e.
        let parts = and_parts (leb 2 (kind_of x) && leb (kind_of x) 5) (ltb (number_of x) (leaf_count l)) e in
        let both = and_parts (leb 2 (kind_of x)) (leb (kind_of x) 5) parts.0 in
        (leb-true _ _ both.0, leb-true _ _ both.1, ltb-true _ _ parts.1)
  ] refl

  leaf_small : (i : ℕ) → ¬ IsWrong l image (Leaf i) → i < leaf_count l
  leaf_small i right = elim (cases_lt i (leaf_count l)) [ inl lt ↦ lt | inr past ↦ absurd (right (has_no_leaf past)) ]

  number_small : (r : Reference) → ¬ IsWrong l image r → number r < 5 * leaf_count l
  unfolding number
  number_small Nothing right = absurd (right leads_nowhere)
  number_small (Leaf i) right = let lt = leaf_small i right in omega arith
  number_small (Cell x) right = let kinds = cell_kind x right in let most = kinds.1 in let lt = kinds.2 in omega arith

  number_apart : (r s : Reference) → ¬ IsWrong l image r → ¬ IsWrong l image s → number r ≡ number s → r ≡ s
  unfolding number
  number_apart Nothing s right right' same = absurd (right leads_nowhere)
  number_apart (Leaf i) Nothing right right' same = absurd (right' leads_nowhere)
  number_apart (Leaf i) (Leaf j) right right' same = ap Leaf (let is : i ≡ j = omega arith in is)
  number_apart (Leaf i) (Cell y) right right' same = let kinds = cell_kind y right' in let least = kinds.0 in let most = kinds.1 in absurd (omega arith)
  number_apart (Cell x) Nothing right right' same = absurd (right' leads_nowhere)
  number_apart (Cell x) (Leaf j) right right' same = let kinds = cell_kind x right in let least = kinds.0 in let most = kinds.1 in absurd (omega arith)
  number_apart (Cell x) (Cell y) right right' same =
      let kinds = cell_kind x right in
      let kinds' = cell_kind y right' in
      let least = kinds.0 in
      let most = kinds.1 in
      let least' = kinds'.0 in
      let most' = kinds'.1 in
      ap Cell (let is : x ≡ y = omega arith in is)

pub visits_are_few : VisitsAreFew
visits_are_few l image from count to way comes right apart =
    different_fit (5 * leaf_count l) count (λ i. number (to i)) (λ i lt. number_small l image (to i) (right i lt))
    (λ i j lt lt' same. apart i j lt lt' (once l image (comes i lt) refl (subst (Comes l image from (way j)) (sym (number_apart l image (to i) (to j) (right i lt) (right j lt') same)) (comes j lt'))))
