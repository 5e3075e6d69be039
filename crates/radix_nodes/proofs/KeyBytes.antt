-- The bytes of a key's first bytes.
use Rattle.std.proofs.Common.{◌≡◌, ◌≢◌, ℕ, zero, suc, ◌+◌, ◌-◌, ◌*◌, ◌/◌, ◌%◌, ◌^◌, ◌<◌, ◌≤◌, cond, leb, ltb, inl, inr, sym, ap, ◌∙◌, arith, pow-suc, mul_assoc, le-leb, lt-ltb, le-ltb}
use Rattle.std.proofs.lemmas.Bool.{cases_eq, cases_lt, eq-eqb, ne_eqb, lt-leb}
use Rattle.std.proofs.lemmas.Nat.{pow-add, div-mul-add, div-add-mod'}
use Rattle.std.proofs.Math.Nat.{div-div-eq-div-mul}
use Rattle.radix_nodes.proofs.Powers.{zero_over}
use Rattle.radix_nodes.specs.Keys.{KeyWords, word_byte, first_bytes_of, IsPrefixOf}

two_pos : (k : ℕ) → 0 < 2 ^ k
two_pos zero = omega arith
two_pos (suc k) = let is = pow-suc 2 k in let before = two_pos k in omega arith

-- a product has its one factor as the quotient by the other
product_over : (q m : ℕ) → 0 < m → q * m / m ≡ q
product_over q m some_m = ap (λ n. n / m) (let is : q * m ≡ q * m + 0 = omega arith in is) ∙ div-mul-add q m 0 some_m

-- the power by which a word is cut, and the one of a byte
module _ (word bytes at : ℕ) (some_bytes : bytes ≢ 0) (few : bytes < 8) (small : at < 8) where
  abbrev m : ℕ
  m = 2 ^ (64 - 8 * bytes)

  abbrev p : ℕ
  p = 2 ^ (56 - 8 * at)

  abbrev q : ℕ
  q = word / m

  cut : word - word % m ≡ q * m
  cut = let whole : q * m + word % m ≡ word = div-add-mod' word m in omega arith

  kept_is : first_bytes_of word bytes ≡ q * m
  kept_is =
      ap (λ a. cond a 0 (cond (leb 8 bytes) word (word - word % m))) (ne_eqb bytes 0 some_bytes)
      ∙ ap (λ a. cond a word (word - word % m)) (lt-leb 8 bytes few)
      ∙ cut

  -- a byte before the cut
  byte_kept : at < bytes → word_byte (first_bytes_of word bytes) at ≡ word_byte word at
  byte_kept lt =
      let d = 2 ^ (56 - 8 * at - (64 - 8 * bytes)) in
      let power : p ≡ m * d = ap (λ n. 2 ^ n) (let is : 56 - 8 * at ≡ (64 - 8 * bytes) + (56 - 8 * at - (64 - 8 * bytes)) = omega arith in is) ∙ pow-add 2 (64 - 8 * bytes) (56 - 8 * at - (64 - 8 * bytes)) in
      ap (λ n. n / p % 256) kept_is
      ∙ ap (λ n. q * m / n % 256) power
      ∙ ap (λ n. n % 256) (sym (div-div-eq-div-mul (q * m) m d) ∙ ap (λ n. n / d) (product_over q m (two_pos (64 - 8 * bytes))) ∙ div-div-eq-div-mul word m d)
      ∙ ap (λ n. word / n % 256) (sym power)

  -- and one behind it
  byte_cut : bytes ≤ at → word_byte (first_bytes_of word bytes) at ≡ 0
  byte_cut le =
      let f = 2 ^ (8 * (at - bytes)) in
      let more : 2 ^ (8 * (at - bytes) + 8) ≡ f * 256 = pow-add 2 (8 * (at - bytes)) 8 in
      let power : m ≡ f * 256 * p =
      ap (λ n. 2 ^ n) (let is : 64 - 8 * bytes ≡ (8 * (at - bytes) + 8) + (56 - 8 * at) = omega arith in is) ∙ pow-add 2 (8 * (at - bytes) + 8) (56 - 8 * at) ∙ ap (λ n. n * p) more in
      let quotient : q * m / p ≡ q * (f * 256) =
      ap (λ n. n / p) (ap (λ n. q * n) power ∙ sym (mul_assoc q (f * 256) p)) ∙ product_over (q * (f * 256)) p (two_pos (56 - 8 * at)) in
      let n = q * f in
      ap (λ n. n / p % 256) kept_is ∙ ap (λ n. n % 256) (quotient ∙ sym (mul_assoc q f 256)) ∙ (let is : n * 256 % 256 ≡ 0 = omega arith in is)

-- the bytes of the first bytes of a word
pub word_prefix : (word bytes at : ℕ) → at < 8 → word_byte (first_bytes_of word bytes) at ≡ cond (ltb at bytes) (word_byte word at) 0
word_prefix word bytes at small = elim (cases_eq bytes 0) [
  | inl none ↦
      ap (λ n. n / 2 ^ (56 - 8 * at) % 256) (ap (λ a. cond a 0 (cond (leb 8 bytes) word (word - word % 2 ^ (64 - 8 * bytes)))) (eq-eqb bytes 0 none))
      ∙ nothing (2 ^ (56 - 8 * at)) (two_pos (56 - 8 * at))
      ∙ sym (ap (λ t. cond t (word_byte word at) 0) (le-ltb at bytes (omega arith)))
  | inr some_bytes ↦ elim (cases_lt bytes 8) [
    | inl few ↦ elim (cases_lt at bytes) [
      | inl before ↦ byte_kept word bytes at some_bytes few small before ∙ sym (ap (λ t. cond t (word_byte word at) 0) (lt-ltb at bytes before))
      | inr behind ↦ byte_cut word bytes at some_bytes few small behind ∙ sym (ap (λ t. cond t (word_byte word at) 0) (le-ltb at bytes behind))
    ]
    | inr all ↦
        ap (λ n. n / 2 ^ (56 - 8 * at) % 256) (ap (λ a. cond a 0 (cond (leb 8 bytes) word (word - word % 2 ^ (64 - 8 * bytes)))) (ne_eqb bytes 0 some_bytes) ∙ ap (λ a. cond a word (word - word % 2 ^ (64 - 8 * bytes))) (le-leb 8 bytes all))
        ∙ sym (ap (λ t. cond t (word_byte word at) 0) (lt-ltb at bytes (omega arith)))
  ]
]
  where
    nothing : (p : ℕ) → 0 < p → 0 / p % 256 ≡ 0
    nothing p some_p = ap (λ n. n % 256) (zero_over p some_p)

-- of a key's words, each with what the words before leave of the depth
pub prefix_bytes : (depth : ℕ) (key prefix : KeyWords) → ((k : ℕ) → k < 3 → prefix k ≡ first_bytes_of (key k) (depth - 8 * k)) → IsPrefixOf depth key prefix
prefix_bytes depth key prefix each at within =
    let k = at / 8 in
    let here : k < 3 = omega arith in
    ap (λ w. word_byte w (at % 8)) (each k here) ∙ word_prefix (key k) (depth - 8 * k) (at % 8) (omega arith)
    ∙ ap (λ t. cond t (word_byte (key k) (at % 8)) 0) same_test
  where
    same_test : ltb (at % 8) (depth - 8 * (at / 8)) ≡ ltb at depth
    same_test = elim (cases_lt at depth) [
      | inl lt ↦ lt-ltb (at % 8) (depth - 8 * (at / 8)) (omega arith) ∙ sym (lt-ltb at depth lt)
      | inr le ↦ le-ltb (at % 8) (depth - 8 * (at / 8)) (omega arith) ∙ sym (le-ltb at depth le)
    ]
