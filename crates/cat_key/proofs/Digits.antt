-- The word of eight bytes as a number in base 256: the one place with arithmetic on digits.
use Rattle.std.proofs.Common.{◌≡◌, ℕ, zero, suc, ◌+◌, ◌-◌, ◌*◌, ◌^◌, ◌<◌, ◌≤◌, List, [], ◌∷◌, ◌++◌, length, get_or, All, Less, Equal, Greater, nat_cmp, refl, sym, ap, ◌∙◌, inl, inr, arith, lit<, pow-suc, mul-le-mul_right}
use Rattle.std.specs.Ordering.{ordering_then}
use Rattle.std.proofs.lemmas.Bool.{cases_order}
use Rattle.std.proofs.lemmas.Bool.Decides.{nat_tests}
use Rattle.std.specs.Int.{w64, to_be_bytes}
use Rattle.std.specs.Cmp.Lexicographic.{slice_cmp}
use Rattle.std.proofs.lemmas.List.Elements.{All-head, All-tail}
use Rattle.std.proofs.lemmas.Nat.{be_bytes_8}
use Rattle.cat_key.specs.Names.{padded, word_of}

-- a byte
abbrev pub IsByte : ℕ → Type 0
IsByte byte = byte < 256

-- the first bytes of a text, this many, as one number in base 256, with zeros past its end
pub number : ℕ → List ℕ → ℕ
number zero text = 0
number (suc count) [] = 0
number (suc count) (byte ∷ text) = byte * 256 ^ count + number count text

pub word_is_number : (text : List ℕ) → word_of text ≡ number 8 text
unfolding word_of number
word_is_number [] = refl
word_is_number (a ∷ []) = omega arith
word_is_number (a ∷ b ∷ []) = omega arith
word_is_number (a ∷ b ∷ c ∷ []) = omega arith
word_is_number (a ∷ b ∷ c ∷ d ∷ []) = omega arith
word_is_number (a ∷ b ∷ c ∷ d ∷ e ∷ []) = omega arith
word_is_number (a ∷ b ∷ c ∷ d ∷ e ∷ f ∷ []) = omega arith
word_is_number (a ∷ b ∷ c ∷ d ∷ e ∷ f ∷ g ∷ []) = omega arith
word_is_number (a ∷ b ∷ c ∷ d ∷ e ∷ f ∷ g ∷ h ∷ text) = omega arith

pub number_nil : (count : ℕ) → number count [] ≡ 0
unfolding number
number_nil zero = refl
number_nil (suc count) = refl

-- one more byte of a text that is not full
pub number-push : (count : ℕ) (text : List ℕ) (byte : ℕ) → length text < count → number count (text ++ byte ∷ []) ≡ number count text + byte * 256 ^ (count - 1 - length text)
unfolding number
number-push zero text byte h = absurd (omega arith)
number-push (suc count) [] byte h =
    let e : suc count - 1 - 0 ≡ count = omega arith in rw e (omega (arith, number_nil count))
number-push (suc count) (first ∷ text) byte h =
    let e : suc count - 1 - suc (length text) ≡ count - 1 - length text = omega arith in
    rw e (omega (arith, number-push count text byte (omega arith)))

-- what follows a full text does not count
pub number-full : (count : ℕ) (text more : List ℕ) → count ≤ length text → number count (text ++ more) ≡ number count text
unfolding number
number-full zero text more h = refl
number-full (suc count) [] more h = absurd (omega arith)
number-full (suc count) (byte ∷ text) more h =
    ap (λ n. byte * 256 ^ count + n) (number-full count text more (omega arith))

power_positive : (count : ℕ) → 0 < 256 ^ count
power_positive zero = lit< tt
power_positive (suc count) = omega (arith, pow-suc 256 count, power_positive count)

-- a number of so many bytes
pub number_below : (count : ℕ) (text : List ℕ) → All IsByte text → number count text < 256 ^ count
unfolding number
number_below zero text h = lit< tt
number_below (suc count) [] h = omega (arith, pow-suc 256 count, power_positive count)
number_below (suc count) (byte ∷ text) h =
    let high : byte < 256 = All-head IsByte byte text h in
    let low = number_below count text (All-tail IsByte byte text h) in
    omega (arith, pow-suc 256 count, mul-le-mul_right (256 ^ count) high)

-- what the comparison of two numbers says, from their order
pub nat_cmp-less : (x y : ℕ) → x < y → nat_cmp x y ≡ Less
nat_cmp-less x y h = grind (arith, nat_tests)

pub nat_cmp-same : (x y : ℕ) → x ≡ y → nat_cmp x y ≡ Equal
nat_cmp-same x y h = grind (arith, nat_tests)

pub nat_cmp-more : (x y : ℕ) → y < x → nat_cmp x y ≡ Greater
nat_cmp-more x y h = grind (arith, nat_tests)

-- what both numbers have more changes nothing
same-add_cmp : (base x y : ℕ) → nat_cmp (base + x) (base + y) ≡ nat_cmp x y
same-add_cmp base x y =
    elim (cases_order x y) [
      | inl same ↦ nat_cmp-same (base + x) (base + y) (omega arith) ∙ sym (nat_cmp-same x y same)
      | inr (inl less) ↦ nat_cmp-less (base + x) (base + y) (omega arith) ∙ sym (nat_cmp-less x y less)
      | inr (inr more) ↦ nat_cmp-more (base + x) (base + y) (omega arith) ∙ sym (nat_cmp-more x y more)
    ]

-- numbers of a high and a low digit compare by the high digits first
mixed_cmp : (base x y low low' : ℕ) → low < base → low' < base → nat_cmp (x * base + low) (y * base + low') ≡ ordering_then (nat_cmp x y) (nat_cmp low low')
mixed_cmp base x y low low' h h' =
    elim (cases_order x y) [
      | inl same ↦ rw (nat_cmp-same x y same, same) (same-add_cmp (y * base) low low')
      | inr (inl less) ↦
          rw (nat_cmp-less x y less) (nat_cmp-less (x * base + low) (y * base + low') (omega (arith, mul-le-mul_right base less)))
      | inr (inr more) ↦
          rw (nat_cmp-more x y more) (nat_cmp-more (x * base + low) (y * base + low') (omega (arith, mul-le-mul_right base more)))
    ]

-- two texts of bytes compare as their numbers do
pub number_cmp : (count : ℕ) (a b : List ℕ) → All IsByte a → All IsByte b → nat_cmp (number count a) (number count b) ≡ slice_cmp nat_cmp (padded count a) (padded count b)
unfolding number
number_cmp zero a b ha hb = refl
number_cmp (suc count) [] [] ha hb = rw (sym (number_cmp count [] [] ha hb)) (rw number_nil refl)
number_cmp (suc count) [] (y ∷ b) ha hb =
    let rest = All-tail IsByte y b hb in
    let none : 0 ≡ 0 * 256 ^ count + number count [] = omega (arith, number_nil count) in
    ap (λ n. nat_cmp n (y * 256 ^ count + number count b)) none
    ∙ mixed_cmp (256 ^ count) 0 y (number count []) (number count b) (number_below count [] ha) (number_below count b rest)
    ∙ ap (λ o. ordering_then (nat_cmp 0 y) o) (number_cmp count [] b ha rest)
number_cmp (suc count) (x ∷ a) [] ha hb =
    let rest = All-tail IsByte x a ha in
    let none : 0 ≡ 0 * 256 ^ count + number count [] = omega (arith, number_nil count) in
    ap (λ n. nat_cmp (x * 256 ^ count + number count a) n) none
    ∙ mixed_cmp (256 ^ count) x 0 (number count a) (number count []) (number_below count a rest) (number_below count [] hb)
    ∙ ap (λ o. ordering_then (nat_cmp x 0) o) (number_cmp count a [] rest hb)
number_cmp (suc count) (x ∷ a) (y ∷ b) ha hb =
    let rest-a = All-tail IsByte x a ha in
    let rest-b = All-tail IsByte y b hb in
    mixed_cmp (256 ^ count) x y (number count a) (number count b) (number_below count a rest-a) (number_below count b rest-b)
    ∙ ap (λ o. ordering_then (nat_cmp x y) o) (number_cmp count a b rest-a rest-b)

pub length-padded : (count : ℕ) (text : List ℕ) → length (padded count text) ≡ count
length-padded zero text = refl
length-padded (suc count) [] = ap (λ n. suc n) (length-padded count [])
length-padded (suc count) (byte ∷ text) = ap (λ n. suc n) (length-padded count text)

pub get_or-padded : (count : ℕ) (text : List ℕ) → All IsByte text → (at : ℕ) → get_or (padded count text) at 0 < 256
get_or-padded zero text h at = lit< tt
get_or-padded (suc count) [] h zero = lit< tt
get_or-padded (suc count) [] h (suc at) = get_or-padded count [] h at
get_or-padded (suc count) (byte ∷ text) h zero = All-head IsByte byte text h
get_or-padded (suc count) (byte ∷ text) h (suc at) =
    get_or-padded count text (All-tail IsByte byte text h) at

-- the bytes of a word
pub to_be_bytes-word_of : (text : List ℕ) → All IsByte text → to_be_bytes w64 (word_of text) ≡ padded 8 text
unfolding word_of
to_be_bytes-word_of text h = be_bytes_8 (padded 8 text) (word_of text) (length-padded 8 text) (get_or-padded 8 text h) refl
