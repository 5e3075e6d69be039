-- Lists in the order of a key, no key twice: those with the same elements are one list.
use Rattle.std.proofs.Common.{◌≡◌, zero, suc, ◌+◌, ◌<◌, ◌⊎◌, ◌↔◌, inl, inr, false, List, [], ◌∷◌, length, get_or, map, refl, sym, ap, subst, ◌∙◌, arith}
use Rattle.std.specs.Prelude.{Contains}
use Rattle.std.specs.Cmp.{IsTotalOrder}
use Rattle.std.specs.List.{IsDistinct}
use Rattle.std.specs.List.Sorted.{IsPermutation, IsStrictlySortedBy, IsSortedByKey}
use Rattle.std.specs.Ordering.{is_lt, is_eq, eq_by_cmp, ordering_reverse}
use Rattle.std.specs.declared.cmp.Ordering.{Ordering}
use Rattle.std.specs.declared.cmp.Ordering.TheVariants.{Less, Equal, Greater}
use Rattle.std.proofs.lemmas.Bool.{false≢true}
use Rattle.std.proofs.lemmas.Cmp.{tied_itself, eq_by_cmp_equiv}
use Rattle.std.proofs.lemmas.List.{get_or-map, length-map}
use Rattle.std.proofs.lemmas.List.Elements.{All-from_recursion, All-contains}
use Rattle.std.proofs.lemmas.List.Sorted.{ranks_by, sorted_far, IsPermutation-sym, IsPermutation-map, Contains-permutation, length_permutation}
use Rattle.std.proofs.lemmas.Map.Keys.{sorted_head, sorted_tail, apart_from_distinct, sorted_from_all_adjacent, IsDistinct-IsPermutation}

-- an element of a list is its first one or one behind it
pub first_or_later : {X : Type 0} (x : X) (xs : List X) (z : X) → Contains (x ∷ xs) z → (x ≡ z) ⊎ Contains xs z
first_or_later x xs z (zero, within, is) = inl is
first_or_later x xs z (suc k, within, is) = inr (k, omega (arith, within), is)

pub later_has : {X : Type 0} (x : X) (xs : List X) (z : X) → Contains xs z → Contains (x ∷ xs) z
later_has x xs z has = (suc has.0, (let less = has.1 in omega arith), has.2)

pub first_has : {X : Type 0} (x : X) (xs : List X) → Contains (x ∷ xs) x
first_has x xs = (0, omega arith, refl)

pub none_has : {X : Type 0} (z : X) → Contains [] z → ⊥
none_has z has = let less = has.1 in omega arith

-- what is made of an element is among what is made of all
pub map_has : {X Y : Type 0} (f : X → Y) (xs : List X) (x : X) → Contains xs x → Contains (map f xs) (f x)
map_has f xs x has = (has.0, (let less = has.1 in omega (arith, length-map xs f)), get_or-map f xs has.0 x (f x) has.1 ∙ ap f has.2)

less≢equal : Less ≡ Equal → ⊥
less≢equal is = false≢true (ap is_eq is)

module _ {X K : Type 0} (key : X → K) (cmp : K → K → Ordering) (total : IsTotalOrder cmp) where
  -- the first key is below each later one
  pub head_below : (x : X) (xs : List X) → IsStrictlySortedBy cmp (map key (x ∷ xs)) → (z : X) → Contains xs z → cmp (key x) (key z) ≡ Less
  head_below x xs strict z has =
      All-contains (λ k. cmp (key x) k ≡ Less) (map key xs) (key z) (All-from_recursion (λ k. cmp (key x) k ≡ Less) (map key xs) (sorted_head cmp (key x) (map key xs) strict)) (map_has key xs z has)

  not_itself : (k : K) → cmp k k ≡ Less → ⊥
  not_itself k less = less≢equal (sym less ∙ tied_itself total k)

  -- two lists in strict order with the same elements are one
  pub same_sorted : (xs ys : List X) → IsStrictlySortedBy cmp (map key xs) → IsStrictlySortedBy cmp (map key ys) → ((z : X) → Contains xs z ↔ Contains ys z) → xs ≡ ys
  same_sorted [] [] up up' same = refl
  same_sorted [] (y ∷ ys) up up' same = absurd (none_has y ((same y).1 (first_has y ys)))
  same_sorted (x ∷ xs) [] up up' same = absurd (none_has x ((same x).0 (first_has x xs)))
  same_sorted (x ∷ xs) (y ∷ ys) up up' same =
      let head : x ≡ y = heads (first_or_later y ys x ((same x).0 (first_has x xs))) (first_or_later x xs y ((same y).1 (first_has y ys))) in
      let rest : xs ≡ ys = same_sorted xs ys (sorted_tail cmp (key x) (map key xs) up) (sorted_tail cmp (key y) (map key ys) up') (λ z. (
        λ has. behind y ys z (first_or_later y ys z ((same z).0 (later_has x xs z has))) (λ is. not_itself (key z) (subst (λ w. cmp (key w) (key z) ≡ Less) (head ∙ is) (head_below x xs up z has))),
        λ has. behind x xs z (first_or_later x xs z ((same z).1 (later_has y ys z has))) (λ is. not_itself (key z) (subst (λ w. cmp (key w) (key z) ≡ Less) (sym head ∙ is) (head_below y ys up' z has))),
      )) in
      λ i. head i ∷ rest i
    where
      heads : (y ≡ x) ⊎ Contains ys x → (x ≡ y) ⊎ Contains xs y → x ≡ y
      heads (inl is) other = sym is
      heads (inr there) (inl is) = is
      heads (inr there) (inr here) = absurd (not_itself (key x) (total.trans (key x) (key y) (key x) (head_below x xs up y here) (head_below y ys up' x there)))

      behind : (w : X) (ws : List X) (z : X) → (w ≡ z) ⊎ Contains ws z → (w ≡ z → ⊥) → Contains ws z
      behind w ws z (inl is) apart = absurd (apart is)
      behind w ws z (inr there) apart = there

  -- so are two such lists that are one another's permutations
  pub same_moved : (xs ys : List X) → IsStrictlySortedBy cmp (map key xs) → IsStrictlySortedBy cmp (map key ys) → IsPermutation xs ys → xs ≡ ys
  same_moved xs ys up up' moved = same_sorted xs ys up up' (λ z. (Contains-permutation xs ys z moved, Contains-permutation ys xs z (IsPermutation-sym xs ys moved)))

  none_strict : IsStrictlySortedBy cmp (map key [])
  unfolding IsStrictlySortedBy
  none_strict = tt

  -- what a sort leaves of elements of which no two have one key
  pub strict_from_sort : (xs ys : List X) → IsDistinct (eq_by_cmp cmp) (map key xs) → IsPermutation xs ys → IsSortedByKey key cmp ys → IsStrictlySortedBy cmp (map key ys)
  strict_from_sort [] [] apart moved up = none_strict
  strict_from_sort [] (y ∷ ys) apart moved up = absurd (let none : length (y ∷ ys) ≡ 0 = length_permutation [] (y ∷ ys) moved in omega arith)
  strict_from_sort (x ∷ xs) ys apart moved up =
      sorted_from_all_adjacent total (map key ys) (key x) (λ k within.
      let inside : k + 1 < length ys = omega (arith, length-map ys key) in
      let here = get_or-map key ys k x (key x) (omega arith) in
      let next = get_or-map key ys (k + 1) x (key x) inside in
      let differ = IsDistinct-IsPermutation (eq_by_cmp cmp) (eq_by_cmp_equiv total).symm (map key (x ∷ xs)) (map key ys) (IsPermutation-map key (x ∷ xs) ys moved) apart in
      let unlike : is_eq (cmp (get_or (map key ys) k (key x)) (get_or (map key ys) (k + 1) (key x))) ≡ false =
      apart_from_distinct (eq_by_cmp cmp) (map key ys) k (k + 1) (key x) differ (omega arith) within in
      let risen : is_lt (cmp (key (get_or ys (k + 1) x)) (key (get_or ys k x))) ≡ false =
      sorted_far (λ a b. is_lt (cmp (key a) (key b))) (ranks_by total key) ys up k (k + 1) x (omega arith) inside in
      below (get_or (map key ys) k (key x)) (get_or (map key ys) (k + 1) (key x)) unlike
      (subst (λ (a : K). is_lt (cmp (get_or (map key ys) (k + 1) (key x)) a) ≡ false) (sym here) (subst (λ (b : K). is_lt (cmp b (key (get_or ys k x))) ≡ false) (sym next) risen)))
    where
      below : (a b : K) → is_eq (cmp a b) ≡ false → is_lt (cmp b a) ≡ false → cmp a b ≡ Less
      below a b unlike risen = elim (cmp a b) as (λ o. cmp a b ≡ o → is_eq o ≡ false → o ≡ Less) [
        | Less ↦ λ is no. refl
        | Equal ↦ λ is no. absurd (false≢true (sym no))
        | Greater ↦ λ is no. absurd (false≢true (sym risen ∙ ap is_lt (total.antisymm b a ∙ flip (cmp a b) is)))
      ] refl unlike
        where
          flip : (o : Ordering) → o ≡ Greater → ordering_reverse o ≡ Less
          flip o is = ap ordering_reverse is
