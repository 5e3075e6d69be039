-- Slots in order: there is one order, and each slot stands in it once.
use Rattle.std.proofs.Common.{◌≡◌, ℕ, zero, suc, ◌+◌, ◌<◌, ◌≤◌, ◌==◌, ◌⊎◌, Bool, true, false, cond, List, [], ◌∷◌, ◌++◌, length, slice_index, inl, inr, refl, sym, subst, ap, ◌∙◌, arith}
use Rattle.std.specs.Ordering.{nat_cmp, is_lt, ordering_then, ordering_reverse}
use Rattle.std.specs.declared.cmp.Ordering.{Ordering}
use Rattle.std.specs.declared.cmp.Ordering.TheVariants.{Less, Equal, Greater}
use Rattle.std.specs.Cmp.{IsTotalOrder}
use Rattle.std.specs.Cmp.Lexicographic.{slice_cmp}
use Rattle.std.specs.Int.{bit_at}
use Rattle.std.specs.List.{AllByRecursion, sum_by}
use Rattle.std.specs.List.Sorted.{IsPermutation, IsSortedBy}
use Rattle.std.proofs.lemmas.Bool.{cases_eq, eq-eqb, eqb-true, ne_eqb}
use Rattle.std.proofs.lemmas.Cmp.{ranked, nat_cmp_total, nat_list_cmp_total, on_total, then_total}
use Rattle.std.proofs.lemmas.List.Sums.{sum_by-cons, sum_by_push}
use Rattle.std.proofs.lemmas.List.Sorted.{ranks_by, sorted_far, sum_by-IsPermutation}
use Rattle.data_node.specs.Slots.{AreAllLive}
use Rattle.data_node.specs.Orders.{live_slots, words_in, comes_before}
use Rattle.data_node.proofs.NameCounts.{one_if, tally}
use Rattle.split_merge.specs.Plans.{put_in, in_order}

-- how many of a list pass a test
abbrev pub tally_in : (ℕ → Bool) → List ℕ → ℕ
tally_in p [] = 0
tally_in p (x ∷ xs) = one_if (p x) + tally_in p xs

-- how often a number stands there
abbrev pub times : ℕ → List ℕ → ℕ
times v xs = tally_in (λ x. x == v) xs

-- each comes before the later ones
abbrev pub Strict : (ℕ → ℕ → Bool) → List ℕ → Type 0
Strict before [] = Unit {0}
Strict before (x ∷ xs) = AllByRecursion (λ y. before x y ≡ true) xs × Strict before xs

-- none comes before an earlier one
abbrev pub Rises : (ℕ → ℕ → Bool) → List ℕ → Type 0
Rises before [] = Unit {0}
Rises before (x ∷ xs) = AllByRecursion (λ y. before y x ≡ false) xs × Rises before xs

pub all_weaker : (P Q : ℕ → Type 0) → ((x : ℕ) → P x → Q x) → (xs : List ℕ) → AllByRecursion P xs → AllByRecursion Q xs
all_weaker P Q to [] all = tt
all_weaker P Q to (x ∷ xs) all = (to x all.0, all_weaker P Q to xs all.1)

pub all_at : (P : ℕ → Type 0) (xs : List ℕ) → AllByRecursion P xs → (i : ℕ) → i < length xs → P (slice_index xs i)
all_at P [] all i within = absurd (omega arith)
all_at P (x ∷ xs) all zero within = all.0
all_at P (x ∷ xs) all (suc i) within = all_at P xs all.1 i (omega arith)

pub all_from : (P : ℕ → Type 0) (xs : List ℕ) → ((i : ℕ) → i < length xs → P (slice_index xs i)) → AllByRecursion P xs
all_from P [] each = tt
all_from P (x ∷ xs) each = (each 0 (omega arith), all_from P xs (λ i within. each (suc i) (omega arith)))

pub sum_tally : (p : ℕ → Bool) (xs : List ℕ) → sum_by (λ x. one_if (p x)) xs ≡ tally_in p xs
sum_tally p [] = refl
sum_tally p (x ∷ xs) = sum_by-cons (λ k. one_if (p k)) x xs ∙ ap (λ k. one_if (p x) + k) (sum_tally p xs)

pub tally_push : (p : ℕ → Bool) (xs : List ℕ) (x : ℕ) → tally_in p (xs ++ (x ∷ [])) ≡ one_if (p x) + tally_in p xs
tally_push p xs x =
    let all = sum_by_push (λ k. one_if (p k)) xs x in
    let before = sum_tally p xs in
    let after = sum_tally p (xs ++ (x ∷ [])) in
    omega arith

-- what holds of all holds of one that stands there
pub one_of : (P : ℕ → Type 0) (v : ℕ) (xs : List ℕ) → AllByRecursion P xs → 1 ≤ times v xs → P v
one_of P v [] all some = absurd (omega arith)
one_of P v (x ∷ xs) all some =
    elim (x == v) as (λ b. (x == v) ≡ b → 1 ≤ one_if b + times v xs → P v) [
      | true ↦ λ same _. subst P (eqb-true x v same) all.0
      | false ↦ λ _ more. one_of P v xs all.1 (omega arith)
    ] refl some

here_once : (v : ℕ) (xs : List ℕ) → 1 ≤ times v (v ∷ xs)
here_once v xs = let one : one_if (v == v) ≡ 1 = ap one_if (eq-eqb v v refl) in omega arith

not_here : (x v : ℕ) (xs : List ℕ) → (x ≡ v → ⊥) → times v (x ∷ xs) ≡ times v xs
not_here x v xs apart = let none : one_if (x == v) ≡ 0 = ap one_if (ne_eqb x v apart) in omega arith

-- two lists of the same numbers, in which none comes before an earlier one, are one list
pub one_order : (before : ℕ → ℕ → Bool) → ((x y : ℕ) → before x y ≡ false → before y x ≡ false → x ≡ y) → (xs ys : List ℕ) → Rises before xs → Rises before ys
    → ((v : ℕ) → times v xs ≡ times v ys) → xs ≡ ys
one_order before total [] [] up up' same = refl
one_order before total [] (y ∷ ys) up up' same = let has = here_once y ys in let none : 0 ≡ times y (y ∷ ys) = same y in absurd (omega arith)
one_order before total (x ∷ xs) [] up up' same = let has = here_once x xs in let none : times x (x ∷ xs) ≡ 0 = same x in absurd (omega arith)
one_order before total (x ∷ xs) (y ∷ ys) up up' same =
    let e = first (cases_eq x y) in
    let rest = one_order before total xs ys up.1 up'.1 (λ v.
    let all : one_if (x == v) + times v xs ≡ one_if (y == v) + times v ys = same v in
    let heads : one_if (x == v) ≡ one_if (y == v) = ap (λ k. one_if (k == v)) e in
    omega arith) in
    λ i. e i ∷ rest i
  where
    first : (x ≡ y) ⊎ (x ≡ y → ⊥) → x ≡ y
    first (inl e) = e
    first (inr apart) =
        let there : times x (y ∷ ys) ≡ times x ys = not_here y x ys (λ e. apart (sym e)) in
        let here : times y (x ∷ xs) ≡ times y xs = not_here x y xs apart in
        let first_there = here_once x xs in
        let first_here = here_once y ys in
        let same_x = same x in
        let same_y = same y in
        total x y (one_of (λ v. before v y ≡ false) x ys up'.0 (omega arith)) (one_of (λ v. before v x ≡ false) y xs up.0 (omega arith))

-- a slot that is put in counts as one more
pub put_tally : (before : ℕ → ℕ → Bool) (p : ℕ → Bool) (x : ℕ) (xs : List ℕ) → tally_in p (put_in before x xs) ≡ one_if (p x) + tally_in p xs
put_tally before p x [] = refl
put_tally before p x (y ∷ ys) =
    elim (before x y) as (λ b. tally_in p (cond b (x ∷ y ∷ ys) (y ∷ put_in before x ys)) ≡ one_if (p x) + (one_if (p y) + tally_in p ys)) [
      | true ↦ refl
      | false ↦ let rest = put_tally before p x ys in omega arith
    ]

pub order_tally : (before : ℕ → ℕ → Bool) (p : ℕ → Bool) (n : ℕ) → tally_in p (in_order before n) ≡ tally n p
order_tally before p zero = refl
order_tally before p (suc n) = put_tally before p n (in_order before n) ∙ ap (λ k. one_if (p n) + k) (order_tally before p n)

live_tally : (bitmap : ℕ) (p : ℕ → Bool) (n : ℕ) → AreAllLive bitmap n → tally_in p (live_slots bitmap n) ≡ tally n p
live_tally bitmap p zero live = refl
live_tally bitmap p (suc n) live =
    let here = eq-eqb (bit_at bitmap n) 1 (live n (omega arith)) in
    ap (λ b. tally_in p (cond b (live_slots bitmap n ++ (n ∷ [])) (live_slots bitmap n))) here ∙ tally_push p (live_slots bitmap n) n
    ∙ ap (λ k. one_if (p n) + k) (live_tally bitmap p n (λ slot within. live slot (omega arith)))

pub put_size : (before : ℕ → ℕ → Bool) (x : ℕ) (xs : List ℕ) → length (put_in before x xs) ≡ suc (length xs)
put_size before x [] = refl
put_size before x (y ∷ ys) =
    elim (before x y) as (λ b. length (cond b (x ∷ y ∷ ys) (y ∷ put_in before x ys)) ≡ suc (suc (length ys))) [
      | true ↦ refl
      | false ↦ ap suc (put_size before x ys)
    ]

pub order_size : (before : ℕ → ℕ → Bool) (n : ℕ) → length (in_order before n) ≡ n
order_size before zero = refl
order_size before (suc n) = put_size before n (in_order before n) ∙ ap suc (order_size before n)

pub put_all : (before : ℕ → ℕ → Bool) (P : ℕ → Type 0) (x : ℕ) (xs : List ℕ) → P x → AllByRecursion P xs → AllByRecursion P (put_in before x xs)
put_all before P x [] one all = (one, tt)
put_all before P x (y ∷ ys) one all =
    elim (before x y) as (λ b. AllByRecursion P (cond b (x ∷ y ∷ ys) (y ∷ put_in before x ys))) [
      | true ↦ (one, all)
      | false ↦ (all.0, put_all before P x ys one all.1)
    ]

pub order_within : (before : ℕ → ℕ → Bool) (n : ℕ) → AllByRecursion (λ slot. slot < n) (in_order before n)
order_within before zero = tt
order_within before (suc n) =
    put_all before (λ slot. slot < suc n) n (in_order before n) (omega arith) (all_weaker (λ slot. slot < n) (λ slot. slot < suc n) (λ slot below. omega arith) (in_order before n) (order_within before n))

-- a number that stands in a list stands at some index of it
found_at : (v : ℕ) (xs : List ℕ) → 1 ≤ times v xs → (i : ℕ) × (i < length xs) × (slice_index xs i ≡ v)
found_at v [] some = absurd (omega arith)
found_at v (x ∷ xs) some =
    elim (x == v) as (λ b. (x == v) ≡ b → 1 ≤ one_if b + times v xs → (i : ℕ) × (i < length (x ∷ xs)) × (slice_index (x ∷ xs) i ≡ v)) [
      | true ↦ λ same _. (0, omega arith, eqb-true x v same)
      | false ↦ λ _ more. let rest = found_at v xs (omega arith) in let within = rest.1 in (suc rest.0, omega arith, rest.2)
    ] refl some

below_tally : (v n : ℕ) → v < n → 1 ≤ tally n (λ x. x == v)
below_tally v zero below = absurd (omega arith)
below_tally v (suc n) below =
    elim (cases_eq n v) [
      | inl same ↦ let one : one_if (n == v) ≡ 1 = ap one_if (eq-eqb n v same) in omega arith
      | inr other ↦ let rest = below_tally v n (omega arith) in omega arith
    ]

pub order_has : (before : ℕ → ℕ → Bool) (n v : ℕ) → v < n → (i : ℕ) × (i < n) × (slice_index (in_order before n) i ≡ v)
order_has before n v below =
    let some = below_tally v n below in
    let same = order_tally before (λ x. x == v) n in
    let at = found_at v (in_order before n) (omega arith) in
    let within = at.1 in
    let size = order_size before n in
    (at.0, omega arith, at.2)

module _ (before : ℕ → ℕ → Bool) (total : (x y : ℕ) → before x y ≡ false → before y x ≡ false → x ≡ y) (leads : (x y z : ℕ) → before x y ≡ true → before y z ≡ true → before x z ≡ true) where
  pub put_strict : (x : ℕ) (xs : List ℕ) → AllByRecursion (λ y. y < x) xs → Strict before xs → Strict before (put_in before x xs)
  put_strict x [] low up = (tt, tt)
  put_strict x (y ∷ ys) low up =
      elim (before x y) as (λ b. before x y ≡ b → Strict before (cond b (x ∷ y ∷ ys) (y ∷ put_in before x ys))) [
        | true ↦ λ first. ((first, all_weaker (λ z. before y z ≡ true) (λ z. before x z ≡ true) (λ z later. leads x y z first later) ys up.0), up)
        | false ↦ λ later.
            let small : y < x = low.0 in
            let after : before y x ≡ true = elim (before y x) as (λ b. before y x ≡ b → b ≡ true) [
              | true ↦ λ _. refl
              | false ↦ λ none. let same : x ≡ y = total x y later none in absurd (omega arith)
            ] refl in
            (put_all before (λ z. before y z ≡ true) x ys after up.0, put_strict x ys low.1 up.1)
      ] refl

  pub order_strict : (n : ℕ) → Strict before (in_order before n)
  order_strict zero = tt
  order_strict (suc n) = put_strict n (in_order before n) (order_within before n) (order_strict n)

pub strict_at : (before : ℕ → ℕ → Bool) (xs : List ℕ) → Strict before xs → (i j : ℕ) → i < j → j < length xs → before (slice_index xs i) (slice_index xs j) ≡ true
strict_at before [] up i j less within = absurd (omega arith)
strict_at before (x ∷ xs) up zero zero less within = absurd (omega arith)
strict_at before (x ∷ xs) up zero (suc j) less within = all_at (λ y. before x y ≡ true) xs up.0 j (omega arith)
strict_at before (x ∷ xs) up (suc i) zero less within = absurd (omega arith)
strict_at before (x ∷ xs) up (suc i) (suc j) less within = strict_at before xs up.1 i j (omega arith) (omega arith)

pub strict_rises : (before : ℕ → ℕ → Bool) → ((x y : ℕ) → before x y ≡ true → before y x ≡ false) → (xs : List ℕ) → Strict before xs → Rises before xs
strict_rises before one_way [] up = tt
strict_rises before one_way (x ∷ xs) up = (all_weaker (λ y. before x y ≡ true) (λ y. before y x ≡ false) (λ y. one_way x y) xs up.0, strict_rises before one_way xs up.1)

-- where a test holds of the first so many of a list, and of no others, so many pass
pub first_pass : (p : ℕ → Bool) (xs : List ℕ) (half : ℕ) → half ≤ length xs → ((i : ℕ) → i < half → p (slice_index xs i) ≡ true)
    → ((i : ℕ) → half ≤ i → i < length xs → p (slice_index xs i) ≡ false) → tally_in p xs ≡ half
first_pass p [] half within low high = omega arith
first_pass p (x ∷ xs) zero within low high =
    let here : one_if (p x) ≡ 0 = ap one_if (high 0 (omega arith) (omega arith)) in
    let rest = first_pass p xs zero (omega arith) (λ i below. absurd (omega arith)) (λ i above inside. high (suc i) (omega arith) (omega arith)) in
    omega arith
first_pass p (x ∷ xs) (suc half) within low high =
    let here : one_if (p x) ≡ 1 = ap one_if (low 0 (omega arith)) in
    let rest = first_pass p xs half (omega arith) (λ i below. low (suc i) (omega arith)) (λ i above inside. high (suc i) (omega arith) (omega arith)) in
    omega arith

-- the order of slots by their names
module _ (entries : List (List ℕ)) where
  abbrev pub ranks : ℕ → ℕ → Ordering
  ranks x y = ordering_then (slice_cmp nat_cmp (words_in entries x) (words_in entries y)) (nat_cmp x y)

  pub is_total : IsTotalOrder ranks
  is_total = then_total (on_total (words_in entries) nat_list_cmp_total) nat_cmp_total

  tied : (o : Ordering) (x y : ℕ) → ordering_then o (nat_cmp x y) ≡ Equal → x ≡ y
  tied Less x y e = absurd (cc)
  tied Equal x y e = ranked x y Equal (sym e)
  tied Greater x y e = absurd (cc)

  pub before_total : (x y : ℕ) → comes_before entries x y ≡ false → comes_before entries y x ≡ false → x ≡ y
  before_total x y up down =
      elim (ranks x y) as (λ o. ranks x y ≡ o → is_lt o ≡ false → x ≡ y) [
        | Less ↦ λ _ no. let clash : true ≡ false = no in absurd (cc)
        | Equal ↦ λ e _. tied (slice_cmp nat_cmp (words_in entries x) (words_in entries y)) x y e
        | Greater ↦ λ e _. let back : ranks y x ≡ Less = is_total.antisymm y x ∙ ap ordering_reverse e in let clash : true ≡ false = sym (ap is_lt back) ∙ down in absurd (cc)
      ] refl up

  is_less : (o : Ordering) → is_lt o ≡ true → o ≡ Less
  is_less Less e = refl
  is_less Equal e = absurd (let clash : false ≡ true = e in cc)
  is_less Greater e = absurd (let clash : false ≡ true = e in cc)

  pub before_leads : (x y z : ℕ) → comes_before entries x y ≡ true → comes_before entries y z ≡ true → comes_before entries x z ≡ true
  before_leads x y z first second = ap is_lt (is_total.trans x y z (is_less (ranks x y) first) (is_less (ranks y z) second))

  pub before_one_way : (x y : ℕ) → comes_before entries x y ≡ true → comes_before entries y x ≡ false
  before_one_way x y first = ap is_lt (is_total.antisymm y x ∙ ap ordering_reverse (is_less (ranks x y) first))

  pub far_rises : (xs : List ℕ) → ((i j : ℕ) → i ≤ j → j < length xs → comes_before entries (slice_index xs j) (slice_index xs i) ≡ false) → Rises (comes_before entries) xs
  far_rises [] far = tt
  far_rises (x ∷ xs) far = (
    all_from (λ y. comes_before entries y x ≡ false) xs (λ i within. far 0 (suc i) (omega arith) (omega arith)),
    far_rises xs (λ i j le within. far (suc i) (suc j) (omega arith) (omega arith)),
  )

  -- a sorted list of all slots is the one order
  pub sorted_is : (bitmap n : ℕ) (xs : List ℕ) → AreAllLive bitmap n → IsPermutation (live_slots bitmap n) xs → IsSortedBy (comes_before entries) xs → xs ≡ in_order (comes_before entries) n
  sorted_is bitmap n xs live moves up =
      one_order (comes_before entries) before_total xs (in_order (comes_before entries) n)
      (far_rises xs (λ i j le within. sorted_far (comes_before entries) (ranks_by is_total (λ (x : ℕ). x)) xs up i j 0 le within))
      (strict_rises (comes_before entries) before_one_way (in_order (comes_before entries) n) (order_strict (comes_before entries) before_total before_leads n))
      (λ v.
      let one = sum_by-IsPermutation (λ x. one_if (x == v)) (live_slots bitmap n) xs moves in
      sym (sum_tally (λ x. x == v) xs) ∙ one ∙ sum_tally (λ x. x == v) (live_slots bitmap n) ∙ live_tally bitmap (λ x. x == v) n live ∙ sym (order_tally (comes_before entries) (λ x. x == v) n))
