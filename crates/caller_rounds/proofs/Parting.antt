-- Lists in parts by a number of each element.
use Rattle.std.proofs.Common.{◌≡◌, ◌≢◌, ℕ, zero, suc, ◌+◌, ◌<◌, ◌≤◌, ◌⊎◌, inl, inr, ⊎_elim, Bool, true, false, cond, List, [], ◌∷◌, ◌++◌, length, map, refl, sym, ap, subst, ◌∙◌, arith, add-zero, eq-eqb}
use Rattle.std.specs.Prelude.{◌==◌, All, Contains, Option, Some, None}
use Rattle.std.specs.List.{filter, flat_map, filter_map, cons_option, enumerate_from, AllByRecursion}
use Rattle.std.specs.List.Sorted.{IsPermutation}
use Rattle.std.proofs.lemmas.Bool.{cases_eq, ne_eqb}
use Rattle.std.proofs.lemmas.List.{get_or-map, length-map}
use Rattle.std.proofs.lemmas.List.Elements.{All-head, All-tail, All-append, All-nil, Contains-append_cases, Contains-append_left, Contains-append_right}
use Rattle.std.proofs.lemmas.List.Sorted.{IsPermutation-refl, IsPermutation-sym, IsPermutation-trans, IsPermutation-cons, IsPermutation-append_right, IsPermutation-middle}
use mathlib.Core.Option.{some, some-injective, some-ne-none}
use lib.ListN.{get_elem?}

module _ {X : Type 0} (key : X → ℕ) where
  abbrev pub with_key : ℕ → List X → List X
  with_key k xs = filter (λ x. key x == k) xs

  -- those with so many keys from this one on, in order of keys
  abbrev pub by_key : ℕ → ℕ → List X → List X
  by_key k zero xs = []
  by_key k (suc n) xs = with_key k xs ++ by_key (k + 1) n xs

  pub with-here : (k : ℕ) (x : X) (xs : List X) → key x ≡ k → with_key k (x ∷ xs) ≡ x ∷ with_key k xs
  with-here k x xs is = ap (λ b. cond b (x ∷ with_key k xs) (with_key k xs)) (eq-eqb (key x) k is)

  pub with-other : (k : ℕ) (x : X) (xs : List X) → key x ≢ k → with_key k (x ∷ xs) ≡ with_key k xs
  with-other k x xs other = ap (λ b. cond b (x ∷ with_key k xs) (with_key k xs)) (ne_eqb (key x) k other)

  below : (k n : ℕ) (x : X) (xs : List X) → key x < k → by_key k n (x ∷ xs) ≡ by_key k n xs
  below k zero x xs less = refl
  below k (suc n) x xs less =
      ap (λ l. l ++ by_key (k + 1) n (x ∷ xs)) (with-other k x xs (λ same. omega arith)) ∙ ap (λ l. with_key k xs ++ l) (below (k + 1) n x xs (omega arith))

  one-more : (k n : ℕ) (x : X) (xs : List X) → k ≤ key x → key x < k + n → IsPermutation (x ∷ by_key k n xs) (by_key k n (x ∷ xs))
  one-more k zero x xs least most = absurd (omega arith)
  one-more k (suc n) x xs least most = ⊎_elim
      (λ (here : key x ≡ k).
      let first : with_key k (x ∷ xs) ≡ x ∷ with_key k xs = with-here k x xs here in
      let rest : by_key (k + 1) n (x ∷ xs) ≡ by_key (k + 1) n xs = below (k + 1) n x xs (omega arith) in
      let whole : by_key k (suc n) (x ∷ xs) ≡ x ∷ by_key k (suc n) xs = ap (λ l. l ++ by_key (k + 1) n (x ∷ xs)) first ∙ ap (λ l. (x ∷ with_key k xs) ++ l) rest in
      subst (IsPermutation (x ∷ by_key k (suc n) xs)) (sym whole) (IsPermutation-refl (x ∷ by_key k (suc n) xs)))
      (λ (other : key x ≢ k).
      let behind = one-more (k + 1) n x xs (omega arith) (omega arith) in
      let whole : by_key k (suc n) (x ∷ xs) ≡ with_key k xs ++ by_key (k + 1) n (x ∷ xs) = ap (λ l. l ++ by_key (k + 1) n (x ∷ xs)) (with-other k x xs other) in
      subst (IsPermutation (x ∷ by_key k (suc n) xs)) (sym whole)
      (IsPermutation-trans (x ∷ by_key k (suc n) xs) (with_key k xs ++ x ∷ by_key (k + 1) n xs) (with_key k xs ++ by_key (k + 1) n (x ∷ xs))
      (IsPermutation-sym (with_key k xs ++ x ∷ by_key (k + 1) n xs) (x ∷ by_key k (suc n) xs) (IsPermutation-middle (with_key k xs) x (by_key (k + 1) n xs)))
      (IsPermutation-append_right (with_key k xs) (x ∷ by_key (k + 1) n xs) (by_key (k + 1) n (x ∷ xs)) behind)))
      (cases_eq (key x) k)

  none : (k n : ℕ) → by_key k n [] ≡ []
  none k zero = refl
  none k (suc n) = none (k + 1) n

  -- a list whose keys are all below a number is in parts by its keys
  pub parted : (n : ℕ) (xs : List X) → All (λ x. key x < n) xs → IsPermutation xs (by_key 0 n xs)
  parted n [] few = subst (IsPermutation []) (sym (none 0 n)) (IsPermutation-refl [])
  parted n (x ∷ xs) few =
      let less : key x < n = All-head (λ y. key y < n) x xs few in
      IsPermutation-trans (x ∷ xs) (x ∷ by_key 0 n xs) (by_key 0 n (x ∷ xs))
      (IsPermutation-cons x xs (by_key 0 n xs) (parted n xs (All-tail (λ y. key y < n) x xs few)))
      (one-more 0 n x xs (omega arith) (omega arith))

  -- parts of another list, each of which gives those with its key, give them all
  module _ {Y : Type 0} (h : List Y → List X) (none_gives : h [] ≡ []) (append_gives : (ys zs : List Y) → h (ys ++ zs) ≡ h ys ++ h zs) where
    pub gathered : (k : ℕ) (parts : List (List Y)) (xs : List X) → ((i : ℕ) (ys : List Y) → get_elem? parts i ≡ some ys → h ys ≡ with_key (k + i) xs) →
        h (flat_map (λ ys. ys) parts) ≡ by_key k (length parts) xs
    gathered k [] xs each = none_gives
    gathered k (ys ∷ parts) xs each =
        append_gives ys (flat_map (λ zs. zs) parts)
        ∙ ap (λ l. l ++ h (flat_map (λ zs. zs) parts)) (each 0 ys refl ∙ ap (λ j. with_key j xs) (add-zero k))
        ∙ ap (λ l. with_key k xs ++ l) (gathered (k + 1) parts xs (λ i zs there. let next : k + suc i ≡ (k + 1) + i = omega arith in each (suc i) zs there ∙ ap (λ j. with_key j xs) next))

module _ {X : Type 0} where
  pub elem-within : (l : List X) (i : ℕ) → i < length l → (x : X) × (get_elem? l i ≡ some x)
  elem-within [] i less = absurd (omega arith)
  elem-within (x ∷ l) zero less = (x, refl)
  elem-within (x ∷ l) (suc i) less = elem-within l i (omega arith)

  -- what holds of each list's elements holds of all of them
  pub all-flat : (P : X → Type 0) (parts : List (List X)) → ((i : ℕ) (xs : List X) → get_elem? parts i ≡ some xs → All P xs) → All P (flat_map (λ xs. xs) parts)
  all-flat P [] each = All-nil P
  all-flat P (xs ∷ parts) each = All-append P xs (flat_map (λ ys. ys) parts) (each 0 xs refl) (all-flat P parts (λ i ys there. each (suc i) ys there))

  -- each of all the elements stands in one of the lists
  pub flat-has : (parts : List (List X)) (x : X) → Contains (flat_map (λ xs. xs) parts) x → (i : ℕ) × (xs : List X) × (get_elem? parts i ≡ some xs) × Contains xs x
  flat-has [] x has = absurd (let less = has.1 in omega arith)
  flat-has (xs ∷ parts) x has = ⊎_elim
      (λ (here : Contains xs x). (0, xs, refl, here))
      (λ (there : Contains (flat_map (λ ys. ys) parts) x). let behind = flat-has parts x there in (suc behind.0, behind.1, behind.2, behind.3))
      (Contains-append_cases xs (flat_map (λ ys. ys) parts) x has)

  pub has-flat : (parts : List (List X)) (i : ℕ) (xs : List X) (x : X) → get_elem? parts i ≡ some xs → Contains xs x → Contains (flat_map (λ ys. ys) parts) x
  has-flat [] i xs x there has = absurd (some-ne-none xs (sym there))
  has-flat (ys ∷ parts) zero xs x there has = Contains-append_left ys (flat_map (λ zs. zs) parts) x (subst (λ l. Contains l x) (sym (some-injective ys xs there)) has)
  has-flat (ys ∷ parts) (suc i) xs x there has = Contains-append_right ys (flat_map (λ zs. zs) parts) x (has-flat parts i xs x there has)

  -- an element and what stands behind it
  pub has-first : (x : X) (xs : List X) → Contains (x ∷ xs) x
  has-first x xs = (0, omega arith, refl)

  pub has-later : (y : X) (xs : List X) (x : X) → Contains xs x → Contains (y ∷ xs) x
  has-later y xs x has = (suc has.0, let less = has.1 in omega arith, has.2)

  pub has-cases : (y : X) (xs : List X) (x : X) → Contains (y ∷ xs) x → (y ≡ x) ⊎ Contains xs x
  has-cases y xs x (zero, less, is) = inl is
  has-cases y xs x (suc k, less, is) = inr (k, omega arith, is)

  -- what passes a test stands among those that do
  pub filter-has : (p : X → Bool) (xs : List X) (x : X) → Contains xs x → p x ≡ true → Contains (filter p xs) x
  filter-has p [] x has passes = absurd (let less = has.1 in omega arith)
  filter-has p (y ∷ xs) x has passes = ⊎_elim
      (λ (here : y ≡ x).
      subst (λ (b : Bool). Contains (cond b (y ∷ filter p xs) (filter p xs)) x) (sym (ap p here ∙ passes))
      (subst (λ (z : X). Contains (y ∷ filter p xs) z) here (has-first y (filter p xs))))
      (λ (there : Contains xs x). put (p y) (filter-has p xs x there passes))
      (has-cases y xs x has)
    where
      put : (b : Bool) → Contains (filter p xs) x → Contains (cond b (y ∷ filter p xs) (filter p xs)) x
      put true has = has-later y (filter p xs) x has
      put false has = has

  -- numbered elements have numbers from the first one on
  pub numbers-within : (k : ℕ) (xs : List X) → AllByRecursion (λ (e : ℕ × X). (k ≤ e.0) × (e.0 < k + length xs)) (enumerate_from k xs)
  numbers-within k [] = tt
  numbers-within k (x ∷ xs) = ((omega arith, omega arith), weaker (enumerate_from (k + 1) xs) (numbers-within (k + 1) xs))
    where
      weaker : (es : List (ℕ × X)) → AllByRecursion (λ (e : ℕ × X). (k + 1 ≤ e.0) × (e.0 < k + 1 + length xs)) es → AllByRecursion (λ (e : ℕ × X). (k ≤ e.0) × (e.0 < k + suc (length xs))) es
      weaker [] all = tt
      weaker (e ∷ es) all = ((let low = all.0.0 in omega arith, let high = all.0.1 in omega arith), weaker es all.1)

pub map-has : {X Y : Type 0} (f : X → Y) (xs : List X) (x : X) → Contains xs x → Contains (map f xs) (f x)
map-has f xs x has = (has.0, let less = has.1 in omega (arith, length-map xs f), get_or-map f xs has.0 x (f x) has.1 ∙ ap f has.2)

-- what stands among those that elements give is given by one
pub given-by : {X Y : Type 0} (f : X → Option Y) (xs : List X) (y : Y) → Contains (filter_map f xs) y → (x : X) × Contains xs x × (f x ≡ Some y)
given-by f [] y has = absurd (let less = has.1 in omega arith)
given-by {X} {Y} f (x ∷ xs) y has = by (f x) refl has (λ there. given-by f xs y there)
  where
    by : (o : Option Y) → f x ≡ o → Contains (cons_option o (filter_map f xs)) y → (Contains (filter_map f xs) y → (z : X) × Contains xs z × (f z ≡ Some y)) → (z : X) × Contains (x ∷ xs) z × (f z ≡ Some y)
    by None gives has more = let behind = more has in (behind.0, has-later x xs behind.0 behind.1, behind.2)
    by (Some a) gives has more = ⊎_elim
        (λ (here : a ≡ y). (x, has-first x xs, gives ∙ ap Some here))
        (λ (there : Contains (filter_map f xs) y). let behind = more there in (behind.0, has-later x xs behind.0 behind.1, behind.2))
        (has-cases a (filter_map f xs) y has)
