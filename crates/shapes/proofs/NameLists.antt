-- Rising lists of names: filters, cuts, one name more and one less.
use Rattle.std.proofs.Common.{◌≡◌, ℕ, zero, suc, ◌+◌, ◌<◌, ◌≤◌, Bool, true, false, not, cond, ◌&&◌, ◌||◌, ⊎_elim, List, [], ◌∷◌, ◌++◌, length, get_or, take, drop, refl, sym, ap, subst, ◌∙◌, arith, length-append}
use Rattle.std.proofs.lemmas.List.Elements.{filter-append, filter_agree}
use Rattle.std.specs.List.{filter, AllByRecursion}
use Rattle.shapes.specs.Anchors.{below, AnchorsRise}
use Rattle.shapes.specs.Members.{is_among, with_name}
use Rattle.shapes.proofs.Orders.{same, true_or_false, no_true, no_false, clash, upto-chain, not_itself, not_back, neither, same-is}

module _ {X : Type 0} where
  -- what holds of each by another fact
  pub all_by : (P Q : X → Type 0) → ((x : X) → P x → Q x) → (xs : List X) → AllByRecursion P xs → AllByRecursion Q xs
  all_by P Q by [] all = tt
  all_by P Q by (x ∷ xs) all = (by x all.0, all_by P Q by xs all.1)

  pub all_append : (P : X → Type 0) (xs ys : List X) → AllByRecursion P xs → AllByRecursion P ys → AllByRecursion P (xs ++ ys)
  all_append P [] ys all more = more
  all_append P (x ∷ xs) ys all more = (all.0, all_append P xs ys all.1 more)

  pub all_first : (P : X → Type 0) (xs ys : List X) → AllByRecursion P (xs ++ ys) → AllByRecursion P xs
  all_first P [] ys all = tt
  all_first P (x ∷ xs) ys all = (all.0, all_first P xs ys all.1)

  pub all_second : (P : X → Type 0) (xs ys : List X) → AllByRecursion P (xs ++ ys) → AllByRecursion P ys
  all_second P [] ys all = all
  all_second P (x ∷ xs) ys all = all_second P xs ys all.1

  module _ (p : X → Bool) where
    -- by what the test says of the first
    pub filter-keeps : (x : X) (xs : List X) → p x ≡ true → filter p (x ∷ xs) ≡ x ∷ filter p xs
    filter-keeps x xs is = ap (λ b. cond b (x ∷ filter p xs) (filter p xs)) is

    pub filter-drops : (x : X) (xs : List X) → p x ≡ false → filter p (x ∷ xs) ≡ filter p xs
    filter-drops x xs is = ap (λ b. cond b (x ∷ filter p xs) (filter p xs)) is

    pub filter-all : (xs : List X) → AllByRecursion (λ x. p x ≡ true) xs → filter p xs ≡ xs
    filter-all [] all = refl
    filter-all (x ∷ xs) all = filter-keeps x xs all.0 ∙ ap (λ ys. x ∷ ys) (filter-all xs all.1)

    pub filter-none : (xs : List X) → AllByRecursion (λ x. p x ≡ false) xs → filter p xs ≡ []
    filter-none [] all = refl
    filter-none (x ∷ xs) all = filter-drops x xs all.0 ∙ filter-none xs all.1

    pub all-filter : (P : X → Type 0) (xs : List X) → AllByRecursion P xs → AllByRecursion P (filter p xs)
    all-filter P [] all = tt
    all-filter P (x ∷ xs) all =
        elim (p x) as (λ b. AllByRecursion P (cond b (x ∷ filter p xs) (filter p xs))) [
          | true ↦ (all.0, all-filter P xs all.1)
          | false ↦ all-filter P xs all.1
        ]

    pub filter-passes : (xs : List X) → AllByRecursion (λ x. p x ≡ true) (filter p xs)
    filter-passes [] = tt
    filter-passes (x ∷ xs) =
        elim (p x) as (λ b. p x ≡ b → AllByRecursion (λ x. p x ≡ true) (cond b (x ∷ filter p xs) (filter p xs))) [
          | true ↦ λ is. (is, filter-passes xs)
          | false ↦ λ is. filter-passes xs
        ] refl

    pub filter-short : (xs : List X) → length (filter p xs) ≤ length xs
    filter-short [] = omega arith
    filter-short (x ∷ xs) =
        let rest = filter-short xs in
        elim (p x) as (λ b. length (cond b (x ∷ filter p xs) (filter p xs)) ≤ suc (length xs)) [
          | true ↦ omega arith
          | false ↦ omega arith
        ]

    -- two tests that agree on each of these
    pub filter-alike : (q : X → Bool) (xs : List X) → AllByRecursion (λ x. p x ≡ q x) xs → filter p xs ≡ filter q xs
    filter-alike q [] all = refl
    filter-alike q (x ∷ xs) all =
        ap (λ b. cond b (x ∷ filter p xs) (filter p xs)) all.0 ∙ ap (λ ys. cond (q x) (x ∷ ys) ys) (filter-alike q xs all.1)

    -- one test after another
    pub filter-twice : (q : X → Bool) (xs : List X) → filter p (filter q xs) ≡ filter (λ x. q x && p x) xs
    filter-twice q [] = refl
    filter-twice q (x ∷ xs) =
        elim (q x) as (λ b. filter p (cond b (x ∷ filter q xs) (filter q xs)) ≡ cond (b && p x) (x ∷ filter (λ x. q x && p x) xs) (filter (λ x. q x && p x) xs)) [
          | true ↦ ap (λ ys. cond (p x) (x ∷ ys) ys) (filter-twice q xs)
          | false ↦ filter-twice q xs
        ]

swapped : (a b : Bool) → (a && b) ≡ (b && a)
swapped true true = refl
swapped true false = refl
swapped false true = refl
swapped false false = refl

pub filter-swapped : {X : Type 0} (p q : X → Bool) (xs : List X) → filter p (filter q xs) ≡ filter q (filter p xs)
filter-swapped p q xs = filter-twice p q xs ∙ filter_agree (λ x. q x && p x) (λ x. p x && q x) (λ x. swapped (q x) (p x)) xs ∙ sym (filter-twice q p xs)

pub rise-filter : (p : List ℕ → Bool) (xs : List (List ℕ)) → AnchorsRise xs → AnchorsRise (filter p xs)
rise-filter p [] rise = tt
rise-filter p (x ∷ xs) rise =
    elim (p x) as (λ b. AnchorsRise (cond b (x ∷ filter p xs) (filter p xs))) [
      | true ↦ (all-filter p (λ y. below x y ≡ true) xs rise.0, rise-filter p xs rise.1)
      | false ↦ rise-filter p xs rise.1
    ]

-- what rises stays cut: those below a text come first
module _ (p : List ℕ → Bool) (mid : List ℕ) where
  pub cut : (xs : List (List ℕ)) → AnchorsRise xs → filter (λ x. p x && below x mid) xs ++ filter (λ x. p x && not (below x mid)) xs ≡ filter p xs
  cut [] rise = refl
  cut (x ∷ xs) rise =
      ⊎_elim
      (λ (low : below x mid ≡ true).
      ap (λ b. cond (p x && b) (x ∷ filter (λ x. p x && below x mid) xs) (filter (λ x. p x && below x mid) xs)
      ++ cond (p x && not b) (x ∷ filter (λ x. p x && not (below x mid)) xs) (filter (λ x. p x && not (below x mid)) xs)) low
      ∙ elim (p x) as (λ b. cond (b && true) (x ∷ filter (λ x. p x && below x mid) xs) (filter (λ x. p x && below x mid) xs)
      ++ cond (b && false) (x ∷ filter (λ x. p x && not (below x mid)) xs) (filter (λ x. p x && not (below x mid)) xs) ≡ cond b (x ∷ filter p xs) (filter p xs)) [
        | true ↦ ap (λ ys. x ∷ ys) (cut xs rise.1)
        | false ↦ cut xs rise.1
      ])
      (λ (high : below x mid ≡ false).
      let later : AllByRecursion (λ y. below y mid ≡ false) (x ∷ xs) =
      (high, all_by (λ y. below x y ≡ true) (λ y. below y mid ≡ false) (λ y above. upto-chain mid x y high (not_back x y above)) xs rise.0) in
      ap (λ ys. ys ++ filter (λ x. p x && not (below x mid)) (x ∷ xs))
      (filter-none (λ x. p x && below x mid) (x ∷ xs) (all_by (λ y. below y mid ≡ false) (λ y. (p y && below y mid) ≡ false) (λ y is. ap (λ b. p y && b) is ∙ swapped (p y) false) (x ∷ xs) later))
      ∙ filter-alike (λ x. p x && not (below x mid)) p (x ∷ xs) (all_by (λ y. below y mid ≡ false) (λ y. (p y && not (below y mid)) ≡ p y) (λ y is. ap (λ b. p y && not b) is ∙ swapped (p y) true) (x ∷ xs) later))
      (true_or_false (below x mid))

-- the names below the one at a place, and the rest
pub below-place : (xs : List (List ℕ)) (k : ℕ) (d : List ℕ) → AnchorsRise xs → k < length xs → filter (λ x. below x (get_or xs k d)) xs ≡ take k xs
below-place [] k d rise within = absurd (omega (arith, within))
below-place (x ∷ xs) zero d rise within =
    filter-none (λ y. below y x) (x ∷ xs) (not_itself x, all_by (λ y. below x y ≡ true) (λ y. below y x ≡ false) (λ y above. not_back x y above) xs rise.0)
below-place (x ∷ xs) (suc k) d rise within =
    let fits : k < length xs = omega (arith, within) in
    filter-keeps (λ y. below y (get_or xs k d)) x xs (at-place xs k rise.0 fits)
    ∙ ap (λ ys. x ∷ ys) (below-place xs k d rise.1 fits)
  where
    at-place : (ys : List (List ℕ)) (k : ℕ) → AllByRecursion (λ y. below x y ≡ true) ys → k < length ys → below x (get_or ys k d) ≡ true
    at-place [] k all within = absurd (omega (arith, within))
    at-place (y ∷ ys) zero all within = all.0
    at-place (y ∷ ys) (suc k) all within = at-place ys k all.1 (omega (arith, within))

pub from-place : (xs : List (List ℕ)) (k : ℕ) (d : List ℕ) → AnchorsRise xs → k < length xs → filter (λ x. not (below x (get_or xs k d))) xs ≡ drop k xs
from-place [] k d rise within = absurd (omega (arith, within))
from-place (x ∷ xs) zero d rise within =
    filter-all (λ y. not (below y x)) (x ∷ xs)
    (ap not (not_itself x), all_by (λ y. below x y ≡ true) (λ y. not (below y x) ≡ true) (λ y above. ap not (not_back x y above)) xs rise.0)
from-place (x ∷ xs) (suc k) d rise within =
    let fits : k < length xs = omega (arith, within) in
    filter-drops (λ y. not (below y (get_or xs k d))) x xs (ap not (above-position xs k rise.0 fits))
    ∙ from-place xs k d rise.1 fits
  where
    above-position : (ys : List (List ℕ)) (k : ℕ) → AllByRecursion (λ y. below x y ≡ true) ys → k < length ys → below x (get_or ys k d) ≡ true
    above-position [] k all within = absurd (omega (arith, within))
    above-position (y ∷ ys) zero all within = all.0
    above-position (y ∷ ys) (suc k) all within = above-position ys k all.1 (omega (arith, within))

-- ---- one name more

-- what holds of each holds of a name among them
pub among-all : (P : List ℕ → Type 0) (xs : List (List ℕ)) (n : List ℕ) → AllByRecursion P xs → is_among n xs ≡ true → P n
among-all P [] n all is = clash is refl
among-all P (x ∷ xs) n all is =
    ⊎_elim
    (λ (here : same n x ≡ true). subst P (sym (same-is n x here)) all.0)
    (λ (other : same n x ≡ false). among-all P xs n all.1 (sym (ap (λ b. b || is_among n xs) other) ∙ is))
    (true_or_false (same n x))

pub among-filter : (p : List ℕ → Bool) (n : List ℕ) (xs : List (List ℕ)) → p n ≡ true → is_among n (filter p xs) ≡ is_among n xs
among-filter p n [] is = refl
among-filter p n (x ∷ xs) is =
    ⊎_elim
    (λ (here : same n x ≡ true).
    ap (is_among n) (filter-keeps p x xs (ap p (sym (same-is n x here)) ∙ is))
    ∙ ap (λ b. b || is_among n (filter p xs)) here ∙ sym (ap (λ b. b || is_among n xs) here))
    (λ (other : same n x ≡ false).
    elim (p x) as (λ b. is_among n (cond b (x ∷ filter p xs) (filter p xs)) ≡ is_among n (filter p xs)) [
      | true ↦ ap (λ b. b || is_among n (filter p xs)) other
      | false ↦ refl
    ] ∙ among-filter p n xs is ∙ sym (ap (λ b. b || is_among n xs) other))
    (true_or_false (same n x))

-- a name that is there already
pub with_name-there : (n : List ℕ) (xs : List (List ℕ)) → AnchorsRise xs → is_among n xs ≡ true → with_name n xs ≡ xs
with_name-there n [] rise is = clash is refl
with_name-there n (x ∷ xs) rise is =
    ⊎_elim
    (λ (here : same n x ≡ true).
    with_name-first (same-is n x here))
    (λ (other : same n x ≡ false).
    let later : is_among n xs ≡ true = sym (ap (λ b. b || is_among n xs) other) ∙ is in
    let above : below x n ≡ true = among-all (λ y. below x y ≡ true) xs n rise.0 later in
    ap (λ ys. ys ++ n ∷ filter (λ y. below n y) (x ∷ xs)) (filter-keeps (λ y. below y n) x xs above)
    ∙ ap (λ ys. x ∷ filter (λ y. below y n) xs ++ n ∷ ys) (filter-drops (λ y. below n y) x xs (not_back x n above))
    ∙ ap (λ ys. x ∷ ys) (with_name-there n xs rise.1 later))
    (true_or_false (same n x))
  where
    with_name-first : n ≡ x → with_name n (x ∷ xs) ≡ x ∷ xs
    with_name-first e =
        subst (λ m. with_name m (x ∷ xs) ≡ x ∷ xs) (sym e)
        (ap (λ ys. ys ++ x ∷ filter (λ y. below x y) (x ∷ xs))
        (filter-none (λ y. below y x) (x ∷ xs) (not_itself x, all_by (λ y. below x y ≡ true) (λ y. below y x ≡ false) (λ y above. not_back x y above) xs rise.0))
        ∙ ap (λ ys. x ∷ ys) (filter-drops (λ y. below x y) x xs (not_itself x) ∙ filter-all (λ y. below x y) xs rise.0))

pub with_name-length : (n : List ℕ) (xs : List (List ℕ)) → is_among n xs ≡ false → length (with_name n xs) ≡ length xs + 1
with_name-length n xs lacking =
    let sum : length (filter (λ y. below y n) xs) + length (filter (λ y. below n y) xs) ≡ length xs = one_or_other xs lacking in
    let long = length-append (filter (λ y. below y n) xs) (n ∷ filter (λ y. below n y) xs) in
    omega arith
  where
    one_or_other : (xs : List (List ℕ)) → is_among n xs ≡ false → length (filter (λ y. below y n) xs) + length (filter (λ y. below n y) xs) ≡ length xs
    one_or_other [] lacking = refl
    one_or_other (x ∷ xs) lacking =
        let other : same n x ≡ false = no_true (same n x) (λ is. clash (ap (λ b. b || is_among n xs) is) lacking) in
        let rest = one_or_other xs (sym (ap (λ b. b || is_among n xs) other) ∙ lacking) in
        ⊎_elim
        (λ (low : below x n ≡ true).
        let first = ap length (filter-keeps (λ y. below y n) x xs low) in
        let second = ap length (filter-drops (λ y. below n y) x xs (not_back x n low)) in
        omega arith)
        (λ (not_low : below x n ≡ false).
        let high : below n x ≡ true = no_false (below n x) (λ un. clash (neither n x un not_low) other) in
        let first = ap length (filter-drops (λ y. below y n) x xs not_low) in
        let second = ap length (filter-keeps (λ y. below n y) x xs high) in
        omega arith)
        (true_or_false (below x n))

-- one name more, where the test is asked of all
pub with_name-filter : (p : List ℕ → Bool) (n : List ℕ) (xs : List (List ℕ)) → p n ≡ true → filter p (with_name n xs) ≡ with_name n (filter p xs)
with_name-filter p n xs is =
    filter-append p (filter (λ y. below y n) xs) (n ∷ filter (λ y. below n y) xs)
    ∙ ap (λ ys. filter p (filter (λ y. below y n) xs) ++ ys) (filter-keeps p n (filter (λ y. below n y) xs) is)
    ∙ ap (λ ys. ys ++ n ∷ filter p (filter (λ y. below n y) xs)) (filter-swapped p (λ y. below y n) xs)
    ∙ ap (λ ys. filter (λ y. below y n) (filter p xs) ++ n ∷ ys) (filter-swapped p (λ y. below n y) xs)

pub with_name-outside : (p : List ℕ → Bool) (n : List ℕ) (xs : List (List ℕ)) → AnchorsRise xs → p n ≡ false → filter p (with_name n xs) ≡ filter p xs
with_name-outside p n xs rise is =
    filter-append p (filter (λ y. below y n) xs) (n ∷ filter (λ y. below n y) xs)
    ∙ ap (λ ys. filter p (filter (λ y. below y n) xs) ++ ys) (filter-drops p n (filter (λ y. below n y) xs) is)
    ∙ ap (λ ys. ys ++ filter p (filter (λ y. below n y) xs)) (filter-twice p (λ y. below y n) xs ∙ filter_agree (λ y. below y n && p y) (λ y. p y && below y n) (λ y. swapped (below y n) (p y)) xs)
    ∙ ap (λ ys. filter (λ y. p y && below y n) xs ++ ys) (filter-twice p (λ y. below n y) xs ∙ filter_agree (λ y. below n y && p y) (λ y. p y && not (below y n)) over xs)
    ∙ cut p n xs rise
  where
    over : (y : List ℕ) → (below n y && p y) ≡ (p y && not (below y n))
    over y =
        ⊎_elim
        (λ (low : below y n ≡ true). ap (λ b. b && p y) (not_back y n low) ∙ sym (ap (λ b. p y && not b) low ∙ swapped (p y) false))
        (λ (no_low : below y n ≡ false).
        ⊎_elim
        (λ (high : below n y ≡ true). ap (λ b. b && p y) high ∙ sym (ap (λ b. p y && not b) no_low ∙ swapped (p y) true))
        (λ (no_high : below n y ≡ false).
        let out : p y ≡ false = ap p (sym (same-is n y (neither n y no_high no_low))) ∙ is in
        ap (λ b. b && p y) no_high ∙ sym (ap (λ b. b && not (below y n)) out))
        (true_or_false (below n y)))
        (true_or_false (below y n))
