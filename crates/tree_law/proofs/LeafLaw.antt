-- The leaves of a tree in order, one after another.
use Rattle.std.proofs.Common.{◌≡◌, ℕ, zero, suc, ◌+◌, ◌-◌, ◌<◌, ◌≤◌, ◌==◌, ◌⊎◌, cond, List, [], ◌∷◌, ◌++◌, length, get_or, Option, Some, None, inl, inr, refl, sym, subst, ap, ◌∙◌, arith}
use Rattle.std.proofs.lemmas.Bool.{cases_eq, cases_lt, eq-eqb, ne_eqb}
use Rattle.tree_law.specs.Trees.{Reference, Nothing, Leaf, Cell, Tree, Reaches, here, below, IsReached, Room, IsUnder, IsSound, IsSoundFrom, depth_of, node_at, find}
use Rattle.tree_law.specs.Leaves.{gather, bytes, leaves, FewIsCount, CellsByChildren}
use Rattle.layer_map.proofs.Pigeons.{different_fit}
use Rattle.tree_law.proofs.Reach.{is_nothing, depth_most, child_sound, is_found}
use Rattle.tree_law.proofs.TreeLaw.{led, some_or_none}
use Rattle.tree_law.proofs.FloorLaw.{via_child, none_reached, leaf_reaches, keys_rise}
use Rattle.tree_law.proofs.SwitchLaw.{cell_goes}
use Rattle.tree_law.specs.Trees.{way_length}

all_bytes : bytes ≡ 256
unfolding bytes
all_bytes = refl

abbrev In : List ℕ → ℕ → Type 0
In [] i = ⊥
In (j ∷ xs) i = (j ≡ i) ⊎ In xs i

in_first : (xs ys : List ℕ) (i : ℕ) → In xs i → In (xs ++ ys) i
in_first [] ys i is = absurd is
in_first (j ∷ xs) ys i (inl same) = inl same
in_first (j ∷ xs) ys i (inr is) = inr (in_first xs ys i is)

in_second : (xs ys : List ℕ) (i : ℕ) → In ys i → In (xs ++ ys) i
in_second [] ys i is = is
in_second (j ∷ xs) ys i is = inr (in_second xs ys i is)

in_parts : (xs ys : List ℕ) (i : ℕ) → In (xs ++ ys) i → In xs i ⊎ In ys i
in_parts [] ys i is = inr is
in_parts (j ∷ xs) ys i (inl same) = inl (inl same)
in_parts (j ∷ xs) ys i (inr is) = elim (in_parts xs ys i is) [ inl first ↦ inl (inr first) | inr second ↦ inr second ]

module _ (key : ℕ → ℕ) where
  -- the keys rise
  abbrev Rise : List ℕ → Type 0
  Rise [] = Unit {0}
  Rise (i ∷ xs) = ((j : ℕ) → In xs j → key i < key j) × Rise xs

  rise_joined : (xs ys : List ℕ) → Rise xs → Rise ys → ((i j : ℕ) → In xs i → In ys j → key i < key j) → Rise (xs ++ ys)
  rise_joined [] ys one two apart = two
  rise_joined (i ∷ xs) ys one two apart = (
    λ j is. elim (in_parts xs ys j is) [ inl first ↦ one.0 j first | inr second ↦ apart i j (inl refl) second ],
    rise_joined xs ys one.1 two (λ a b is_a is_b. apart a b (inr is_a) is_b),
  )

  in_at : (xs : List ℕ) (n : ℕ) → n < length xs → In xs (get_or xs n 0)
  in_at [] n lt = absurd (omega arith)
  in_at (i ∷ xs) zero lt = inl refl
  in_at (i ∷ xs) (suc n) lt = inr (in_at xs n (omega arith))

  rise_at : (xs : List ℕ) (n m : ℕ) → Rise xs → n < m → m < length xs → key (get_or xs n 0) < key (get_or xs m 0)
  rise_at [] n m rise lt within = absurd (omega arith)
  rise_at (i ∷ xs) n zero rise lt within = absurd (omega arith)
  rise_at (i ∷ xs) zero (suc m) rise lt within = rise.0 (get_or xs m 0) (in_at xs m (omega arith))
  rise_at (i ∷ xs) (suc n) (suc m) rise lt within = rise_at xs n m rise.1 (omega arith) (omega arith)

abbrev place : List ℕ → ℕ → ℕ
place [] i = 0
place (j ∷ xs) i = cond (j == i) 0 (suc (place xs i))

record IsPlaced (xs : List ℕ) (i : ℕ) : Type 0 where
  pub within : place xs i < length xs
  pub is : get_or xs (place xs i) 0 ≡ i

placed : (xs : List ℕ) (i : ℕ) → In xs i → IsPlaced xs i
placed [] i is = absurd is
placed (j ∷ xs) i is = elim (cases_eq j i) [
  | inl same ↦ let first : place (j ∷ xs) i ≡ 0 = ap (λ b. cond b 0 (suc (place xs i))) (eq-eqb j i same) in
      record { within = subst (λ n. n < length (j ∷ xs)) (sym first) (omega arith); is = ap (λ n. get_or (j ∷ xs) n 0) first ∙ same }
  | inr apart ↦
      let later : place (j ∷ xs) i ≡ suc (place xs i) = ap (λ b. cond b 0 (suc (place xs i))) (ne_eqb j i apart) in
      let rest = placed xs i (elim is [ inl same ↦ absurd (apart same) | inr more ↦ more ]) in
      let lt = rest.within in
      record { within = subst (λ n. n < length (j ∷ xs)) (sym later) (omega arith); is = ap (λ n. get_or (j ∷ xs) n 0) later ∙ rest.is }
]

module _ (room : Room) (t : Tree) where
  gather_in : (f : ℕ → List ℕ) (n b i : ℕ) → b < n → In (f b) i → In (gather f n) i
  gather_in f zero b i lt is = absurd (omega arith)
  gather_in f (suc n) b i lt is = elim (cases_eq b n) [
    | inl same ↦ in_second (gather f n) (f n) i (subst (λ c. In (f c) i) same is)
    | inr apart ↦ in_first (gather f n) (f n) i (gather_in f n b i (omega (arith, apart)) is)
  ]

  gather_from : (f : ℕ → List ℕ) (n i : ℕ) → In (gather f n) i → (b : ℕ) × (b < n) × In (f b) i
  gather_from f zero i is = absurd is
  gather_from f (suc n) i is = elim (in_parts (gather f n) (f n) i is) [
    | inl first ↦ let from = gather_from f n i first in let lt : from.0 < n = from.1 in (from.0, (let less : from.0 < suc n = omega arith in less), from.2)
    | inr last ↦ (n, (let less : n < suc n = omega arith in less), last)
  ]

  gather_rises : (f : ℕ → List ℕ) (n : ℕ) → ((b : ℕ) → b < n → Rise t.key (f b)) → ((a b i j : ℕ) → a < b → b < n → In (f a) i → In (f b) j → t.key i < t.key j) → Rise t.key (gather f n)
  gather_rises f zero rise apart = tt
  gather_rises f (suc n) rise apart =
      rise_joined t.key (gather f n) (f n) (gather_rises f n (λ b lt. rise b (omega arith)) (λ a b i j lt less. apart a b i j lt (omega arith))) (rise n (omega arith))
      (λ i j first last. let from = gather_from f n i first in let lt : from.0 < n = from.1 in apart from.0 n i j lt (omega arith) from.2 last)

  -- its leaves are those that are reached
  pub is_leaf : (fuel : ℕ) (r : Reference) (i : ℕ) → In (leaves t fuel r) i → Reaches t r (Leaf i)
  is_leaf zero r i is = absurd is
  is_leaf (suc fuel) Nothing i is = absurd is
  is_leaf (suc fuel) (Leaf j) i is = elim is [ inl same ↦ subst (λ k. Reaches t (Leaf j) (Leaf k)) same here | inr none ↦ absurd none ]
  is_leaf (suc fuel) (Cell x) i is =
      let from = gather_from (λ byte. leaves t fuel (t.child x byte)) bytes i is in
      let way = is_leaf fuel (t.child x from.0) i from.2 in
      below (λ e. none_reached t i (subst (λ r. Reaches t r (Leaf i)) e way)) way

  pub has_leaf : (fuel : ℕ) (r : Reference) (i : ℕ) → IsSoundFrom room t r → way_length ≤ fuel + depth_of t r → Reaches t r (Leaf i) → In (leaves t fuel r) i
  has_leaf zero r i sound enough way = let most = depth_most room t r (sound r here) in absurd (omega arith)
  has_leaf (suc fuel) Nothing i sound enough way = absurd (none_reached t i way)
  has_leaf (suc fuel) (Leaf j) i sound enough way = inl (leaf_reaches t j i way)
  has_leaf (suc fuel) (Cell x) i sound enough way =
      let v = via_child t x i way in
      let under : IsUnder t x v.byte (t.child x v.byte) = (sound (Cell x) here).under v.byte v.some_child in
      let deeper = under.deeper in
      let small : v.byte < 256 = under.byte in
      gather_in (λ byte. leaves t fuel (t.child x byte)) bytes v.byte i (subst (λ n. v.byte < n) (sym all_bytes) small) (has_leaf fuel (t.child x v.byte) i (child_sound room t x v.byte sound v.some_child) (omega arith) v.reach)

  -- in rising order of their keys
  pub leaves_rise : (fuel : ℕ) (r : Reference) → (r ≡ Nothing) ⊎ IsSoundFrom room t r → Rise t.key (leaves t fuel r)
  leaves_rise zero r fine = tt
  leaves_rise (suc fuel) Nothing fine = tt
  leaves_rise (suc fuel) (Leaf i) fine = (λ j none. absurd none, tt)
  leaves_rise (suc fuel) (Cell x) fine = elim fine [
    | inl none ↦ absurd cc
    | inr sound ↦
        gather_rises (λ byte. leaves t fuel (t.child x byte)) bytes
        (λ b lt. leaves_rise fuel (t.child x b) (elim (is_nothing (t.child x b)) [ inl none ↦ inl none | inr some_child ↦ inr (child_sound room t x b sound some_child) ]))
        (λ a b i j lt less at_a at_b.
        let way_a = is_leaf fuel (t.child x a) i at_a in
        let way_b = is_leaf fuel (t.child x b) j at_b in
        keys_rise room t x a b i j sound (λ e. none_reached t i (subst (λ r. Reaches t r (Leaf i)) e way_a)) (λ e. none_reached t j (subst (λ r. Reaches t r (Leaf j)) e way_b)) way_a way_b lt)
  ]

abbrev leaf_or : Option ℕ → ℕ
leaf_or None = 0
leaf_or (Some i) = i

pub few_is_count : FewIsCount
few_is_count room t most tree =
    let all = leaves t way_length t.root in
    let rise = leaves_rise room t way_length t.root (inr tree) in (
      λ few. few (length all) (λ n. t.key (get_or all n 0))
          (λ n lt none. let leads = led room t tree (get_or all n 0) (is_leaf room t way_length t.root (get_or all n 0) (in_at t.key all n lt)) in let wrong : None ≡ Some (t.word (get_or all n 0) - 1) = sym none ∙ leads in cc)
          (λ n m lt lt' same. elim (cases_lt n m) [
            | inl less ↦ let apart = rise_at t.key all n m rise less lt' in absurd (omega arith)
            | inr rest ↦ elim (cases_lt m n) [ inl more ↦ let apart = rise_at t.key all m n rise more lt in absurd (omega arith) | inr other ↦ omega arith ]
          ]),
      λ enough count key some_key apart.
          let leaf : ℕ → ℕ = λ i. leaf_or (find t way_length t.root (key i)) in
          let at : (i : ℕ) → i < count → IsReached t (Leaf (leaf i)) × (t.key (leaf i) ≡ key i) = λ i lt. elim (some_or_none (find t way_length t.root (key i))) [
            | inl found ↦ let f = is_found room t way_length t.root (key i) found.0 found.1 in subst (λ o. IsReached t (Leaf (leaf_or o)) × (t.key (leaf_or o) ≡ key i)) (sym found.1) (f.reached, f.key_is)
            | inr none ↦ absurd (some_key i lt (ap (node_at t) none))
          ] in
          let spot : (i : ℕ) → i < count → IsPlaced all (leaf i) = λ i lt. placed all (leaf i) (has_leaf room t way_length t.root (leaf i) tree (omega arith) (at i lt).0) in
          let fewer : count ≤ length all = different_fit (length all) count (λ i. place all (leaf i)) (λ i lt. (spot i lt).within)
          (λ i j lt lt' same. apart i j lt lt' (sym (at i lt).1 ∙ ap t.key (sym (spot i lt).is ∙ ap (λ n. get_or all n 0) same ∙ (spot j lt').is) ∙ (at j lt').1)) in
          omega arith,
    )

pub cells_by_children : CellsByChildren
cells_by_children room t x = (
  λ sound. (sound (Cell x) here, λ b some_child. child_sound room t x b sound some_child),
  λ parts q way. elim (cell_goes t x q way) [ inl same ↦ subst (IsSound room t) (sym same) parts.0 | inr on ↦ parts.1 on.byte on.some_child q on.reach ],
)
