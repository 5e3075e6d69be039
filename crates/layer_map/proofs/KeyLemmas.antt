-- The number of a key tells its words, and numbers compare as words do.
use Rattle.std.proofs.Common.{◌≡◌, ℕ, zero, suc, ◌+◌, ◌*◌, ◌^◌, ◌<◌, ◌≤◌, List, [], ◌∷◌, length, drop, All, Ordering, Less, Equal, Greater, nat_cmp, slice_index, inl, inr, refl, sym, subst, ap, ap₂, ◌∙◌, arith}
use Rattle.std.proofs.lemmas.Bool.{cases_eq, cases_lt, le-leb, lt-leb}
use Rattle.std.proofs.lemmas.List.Elements.{All-drop, All-weaker}
use Rattle.std.specs.Prelude.{nat_le}
use Rattle.std.specs.Ordering.{is_le, is_some_and, partial_le, as_partial_cmp, ordering_then}
use Rattle.std.specs.Cmp.Lexicographic.{slice_cmp, slice_partial_cmp, lists_agrees}
use Rattle.cat_key.specs.Names.{IsName, IsNameByte, name_cmp, word_of, words_of}
use Rattle.cat_key.specs.declared.TheConstants.{WORDS}
use Rattle.cat_key.proofs.Digits.{IsByte, number_nil, word_is_number, nat_cmp-less, nat_cmp-same, nat_cmp-more}
use Rattle.cat_key.proofs.Packing.{byte_of_name, name_bytes, word_of_below, length-words_of, get_or-words_of_below}
use Rattle.cat_key.proofs.WordOrder.{words_keep_text_order}
use Rattle.layer_map.specs.Keys.{key_of, key_number, IsKey, NumbersKeepOrder, ZeroIsLeast, NumbersTellKeys, WordsKeepOrder}

pub record SameWords (a b c d e f : ℕ) : Type 0 where
  pub first : a ≡ d
  pub second : b ≡ e
  pub third : c ≡ f

-- keys of 64-bit words with one number have the same words
pub words_told : (a b c d e f : ℕ) → b < 2 ^ 64 → c < 2 ^ 64 → e < 2 ^ 64 → f < 2 ^ 64 → key_of a b c ≡ key_of d e f → SameWords a b c d e f
words_told a b c d e f hb hc he hf same = record { first = omega arith; second = omega arith; third = omega arith }

pub numbers_tell_keys : NumbersTellKeys
numbers_tell_keys a b is_a is_b same k small =
    let told = words_told (slice_index a 0) (slice_index a 1) (slice_index a 2) (slice_index b 0) (slice_index b 1) (slice_index b 2) (is_a.fits 1) (is_a.fits 2) (is_b.fits 1) (is_b.fits 2) same in
    elim (cases_eq k 0) [
      | inl e ↦ subst (λ i. slice_index a i ≡ slice_index b i) (sym e) told.first
      | inr not_first ↦ elim (cases_eq k 1) [
        | inl e ↦ subst (λ i. slice_index a i ≡ slice_index b i) (sym e) told.second
        | inr not_second ↦ let last : 2 ≡ k = omega (arith, not_first, not_second) in subst (λ i. slice_index a i ≡ slice_index b i) last told.third
      ]
    ]

-- numbers of two digits compare by the first digit first
two_cmp : (a b d e : ℕ) → b < 2 ^ 64 → e < 2 ^ 64 → nat_cmp (a * 2 ^ 64 + b) (d * 2 ^ 64 + e) ≡ ordering_then (nat_cmp a d) (nat_cmp b e)
two_cmp a b d e hb he = elim (cases_lt a d) [
  | inl less ↦ nat_cmp-less (a * 2 ^ 64 + b) (d * 2 ^ 64 + e) (omega arith) ∙ sym (ap (λ o. ordering_then o (nat_cmp b e)) (nat_cmp-less a d less))
  | inr rest ↦ elim (cases_eq a d) [
    | inl same ↦ subst (λ n. nat_cmp (a * 2 ^ 64 + b) (n * 2 ^ 64 + e) ≡ ordering_then (nat_cmp a n) (nat_cmp b e)) same (low a ∙ sym (ap (λ o. ordering_then o (nat_cmp b e)) (itself a)))
    | inr apart ↦ nat_cmp-more (a * 2 ^ 64 + b) (d * 2 ^ 64 + e) (omega (arith, apart)) ∙ sym (ap (λ o. ordering_then o (nat_cmp b e)) (nat_cmp-more a d (omega (arith, apart))))
  ]
]
  where
    itself : (n : ℕ) → nat_cmp n n ≡ Equal
    itself n = nat_cmp-same n n refl

    low : (n : ℕ) → nat_cmp (n * 2 ^ 64 + b) (n * 2 ^ 64 + e) ≡ nat_cmp b e
    low n = elim (cases_lt b e) [
      | inl less ↦ nat_cmp-less (n * 2 ^ 64 + b) (n * 2 ^ 64 + e) (omega arith) ∙ sym (nat_cmp-less b e less)
      | inr rest ↦ elim (cases_eq b e) [
        | inl same ↦ subst (λ m. nat_cmp (n * 2 ^ 64 + b) (n * 2 ^ 64 + m) ≡ nat_cmp b m) same (itself (n * 2 ^ 64 + b) ∙ sym (itself b))
        | inr apart ↦ nat_cmp-more (n * 2 ^ 64 + b) (n * 2 ^ 64 + e) (omega (arith, apart)) ∙ sym (nat_cmp-more b e (omega (arith, apart)))
      ]
    ]

ordering_then_assoc : (p q r : Ordering) → ordering_then (ordering_then p q) r ≡ ordering_then p (ordering_then q r)
ordering_then_assoc Less q r = refl
ordering_then_assoc Equal q r = refl
ordering_then_assoc Greater q r = refl

ordering_then_equal : (p : Ordering) → ordering_then p Equal ≡ p
ordering_then_equal Less = refl
ordering_then_equal Equal = refl
ordering_then_equal Greater = refl

-- the number of three words compares as the words do
key_cmp : (a b c d e f : ℕ) → b < 2 ^ 64 → c < 2 ^ 64 → e < 2 ^ 64 → f < 2 ^ 64 → nat_cmp (key_of a b c) (key_of d e f) ≡ slice_cmp nat_cmp (a ∷ b ∷ c ∷ []) (d ∷ e ∷ f ∷ [])
key_cmp a b c d e f hb hc he hf =
    two_cmp (a * 2 ^ 64 + b) c (d * 2 ^ 64 + e) f hc hf
    ∙ ap (λ o. ordering_then o (nat_cmp c f)) (two_cmp a b d e hb he)
    ∙ ordering_then_assoc (nat_cmp a d) (nat_cmp b e) (nat_cmp c f)
    ∙ ap (λ o. ordering_then (nat_cmp a d) (ordering_then (nat_cmp b e) o)) (sym (ordering_then_equal (nat_cmp c f)))

-- the words of a name
words_are : (name : List ℕ) → words_of name ≡ word_of name ∷ word_of (drop 8 name) ∷ word_of (drop 8 (drop 8 name)) ∷ []
unfolding words_of
words_are name = refl

-- texts of bytes of names, also that of no byte, compare as the numbers of their words
text_numbers : (a b : List ℕ) → length a ≤ 8 * WORDS → length b ≤ 8 * WORDS → All IsNameByte a → All IsNameByte b → nat_cmp (key_number (words_of a)) (key_number (words_of b)) ≡ name_cmp a b
text_numbers a b fits fits' bytes bytes' =
    ap₂ (λ (v w : List ℕ). nat_cmp (key_number v) (key_number w)) (words_are a) (words_are b)
    ∙ key_cmp (word_of a) (word_of (drop 8 a)) (word_of (drop 8 (drop 8 a))) (word_of b) (word_of (drop 8 b)) (word_of (drop 8 (drop 8 b)))
    (word_of_below (drop 8 a) (All-drop IsByte 8 a (small a bytes)))
    (word_of_below (drop 8 (drop 8 a)) (All-drop IsByte 8 (drop 8 a) (All-drop IsByte 8 a (small a bytes))))
    (word_of_below (drop 8 b) (All-drop IsByte 8 b (small b bytes')))
    (word_of_below (drop 8 (drop 8 b)) (All-drop IsByte 8 (drop 8 b) (All-drop IsByte 8 b (small b bytes'))))
    ∙ sym (ap₂ (slice_cmp nat_cmp) (words_are a) (words_are b))
    ∙ words_keep_text_order a b fits fits' bytes bytes'
  where
    small : (text : List ℕ) → All IsNameByte text → All IsByte text
    small text bytes = All-weaker IsNameByte IsByte byte_of_name text bytes

pub numbers_keep_order : NumbersKeepOrder
numbers_keep_order a b is_a is_b = text_numbers a b is_a.fits is_b.fits is_a.bytes is_b.bytes

-- the words of a name are a key
pub name_is_key : (name : List ℕ) → IsName name → IsKey (words_of name)
name_is_key name is = record { whole = length-words_of name; fits = get_or-words_of_below name (name_bytes name is) }

-- the words of the empty text are zero
no_word : word_of [] ≡ 0
no_word = word_is_number [] ∙ number_nil 8

no_number : key_number (words_of []) ≡ 0
no_number = ap key_number (words_are []) ∙ ap (λ n. key_of n n n) no_word

is_more : (n : ℕ) → nat_cmp 0 n ≡ Less → 0 < n
is_more zero less = let no_way : Equal ≡ Less = less in absurd cc
is_more (suc n) less = omega arith

first_byte : (name : List ℕ) → IsName name → name_cmp [] name ≡ Less
first_byte [] is = absurd (let some = is.some in omega arith)
first_byte (byte ∷ text) is = refl

pub zero_is_least : ZeroIsLeast
zero_is_least name is =
    is_more (key_number (words_of name))
    (ap (λ n. nat_cmp n (key_number (words_of name))) (sym no_number) ∙ text_numbers [] name (omega arith) is.fits (λ k byte lt. absurd (omega arith)) is.bytes ∙ first_byte name is)

-- keys compare as std compares lists of words
three : (words : List ℕ) → length words ≡ 3 → words ≡ slice_index words 0 ∷ slice_index words 1 ∷ slice_index words 2 ∷ []
three [] h = absurd (omega arith)
three (a ∷ []) h = absurd (omega arith)
three (a ∷ b ∷ []) h = absurd (omega arith)
three (a ∷ b ∷ c ∷ []) h = refl
three (a ∷ b ∷ c ∷ d ∷ words) h = absurd (omega arith)

le_test : (x y : ℕ) → is_le (nat_cmp x y) ≡ nat_le x y
le_test x y = elim (cases_lt y x) [
  | inl more ↦ ap is_le (nat_cmp-more x y more) ∙ sym (lt-leb x y more)
  | inr rest ↦ elim (cases_eq x y) [
    | inl same ↦ ap is_le (nat_cmp-same x y same) ∙ sym (le-leb x y (omega arith))
    | inr apart ↦ ap is_le (nat_cmp-less x y (omega (arith, apart))) ∙ sym (le-leb x y (omega arith))
  ]
]

pub key_order : WordsKeepOrder
key_order low high is_low is_high =
    ap₂ (λ (v w : List ℕ). partial_le (slice_partial_cmp (as_partial_cmp nat_cmp)) v w) (three low is_low.whole) (three high is_high.whole)
    ∙ ap (is_some_and is_le) (lists_agrees {R = nat_cmp} {C = as_partial_cmp nat_cmp} (λ x y. refl) (slice_index low 0 ∷ slice_index low 1 ∷ slice_index low 2 ∷ []) (slice_index high 0 ∷ slice_index high 1 ∷ slice_index high 2 ∷ []))
    ∙ ap is_le (sym (key_cmp (slice_index low 0) (slice_index low 1) (slice_index low 2) (slice_index high 0) (slice_index high 1) (slice_index high 2) (is_low.fits 1) (is_low.fits 2) (is_high.fits 1) (is_high.fits 2)))
    ∙ le_test (key_number low) (key_number high)
