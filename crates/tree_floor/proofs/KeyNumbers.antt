-- The bytes of a key, and its first bytes, by its number.
use Rattle.std.proofs.Common.{◌≡◌, ℕ, zero, suc, ◌+◌, ◌-◌, ◌*◌, ◌/◌, ◌%◌, ◌^◌, ◌<◌, ◌≤◌, cond, inl, inr, sym, subst}
use Rattle.std.proofs.Common.{ap, ap₂, ◌∙◌, arith, pow-suc, mul_assoc, mul_comm, div-mul-le_self, le-ltb, lt-ltb}
use Rattle.std.proofs.lemmas.Bool.{cases_lt}
use Rattle.std.proofs.lemmas.Nat.{pow-add, div_below}
use Rattle.std.proofs.Math.Nat.{div-div-eq-div-mul, mul-add-div_right, mul-div_cancel}
use Rattle.cat_key.specs.declared.TheConstants.{WORDS}
use Rattle.radix_nodes.specs.Keys.{KeyWords, key_bytes, word_byte, key_byte_of}
use Rattle.radix_nodes.proofs.Powers.{powers}
use Rattle.tree_row.specs.tree_law.specs.Trees.{span, first_bytes, byte_at}
use Rattle.tree_row.specs.tree_law.specs.Words.{number_of_key}
use Rattle.tree_row.specs.tree_law.proofs.Spans.{span_is, span_pos, span_last, span_times, times, times_next}
use Rattle.tree_row.specs.tree_law.proofs.Spans.{first_is, byte_is, power_pos, first_next, fewer_of_prefix}
use Rattle.tree_floor.specs.Keys.{ByteIsOfNumber, PrefixIsOfNumber}

split_power : (n k : ℕ) → k ≤ n → 256 ^ n ≡ 256 ^ (n - k) * 256 ^ k
split_power n k le = ap (λ i. 256 ^ i) (let is : n ≡ (n - k) + k = omega arith in is) ∙ pow-add 256 (n - k) k

-- a byte that stands in the words before the last one
upper_byte : (n w e : ℕ) → w < 2 ^ 64 → 8 ≤ e → (n * 2 ^ 64 + w) / 256 ^ e % 256 ≡ n / 256 ^ (e - 8) % 256
upper_byte n w e fits le =
    let top : (n * 2 ^ 64 + w) / 256 ^ 8 ≡ n = (let is : (n * 2 ^ 64 + w) / 2 ^ 64 ≡ n = omega arith in is) in
    ap (λ q. q % 256) (ap (λ p. (n * 2 ^ 64 + w) / p) (split_power e 8 le ∙ mul_comm (256 ^ (e - 8)) (256 ^ 8)) ∙ sym (div-div-eq-div-mul (n * 2 ^ 64 + w) (256 ^ 8) (256 ^ (e - 8))) ∙ ap (λ q. q / 256 ^ (e - 8)) top)

-- and one in the last word
lower_byte : (n w e : ℕ) → e < 8 → (n * 2 ^ 64 + w) / 256 ^ e % 256 ≡ w / 256 ^ e % 256
lower_byte n w e lt =
    let word : 2 ^ 64 ≡ 256 ^ (8 - e) * 256 ^ e = split_power 8 e (omega arith) in
    let quotient : (n * 2 ^ 64 + w) / 256 ^ e ≡ n * 256 ^ (8 - e) + w / 256 ^ e =
    ap (λ q. (q + w) / 256 ^ e) (ap (λ p. n * p) word ∙ sym (mul_assoc n (256 ^ (8 - e)) (256 ^ e))) ∙ mul-add-div_right {m = 256 ^ e} (power_pos e) (n * 256 ^ (8 - e)) w in
    let more : 256 ^ (8 - e) ≡ 256 ^ (7 - e) * 256 = ap (λ k. 256 ^ k) (let is : 8 - e ≡ suc (7 - e) = omega arith in is) ∙ pow-suc 256 (7 - e) in
    let m = n * 256 ^ (7 - e) in
    let whole : n * 256 ^ (8 - e) ≡ m * 256 = ap (λ p. n * p) more ∙ sym (mul_assoc n (256 ^ (7 - e)) 256) in
    let x = w / 256 ^ e in
    ap (λ q. q % 256) (quotient ∙ ap (λ q. q + x) whole) ∙ (let is : (m * 256 + x) % 256 ≡ x % 256 = omega arith in is)

-- a byte of a word, counted from the highest
word_byte_is : (word at : ℕ) → at < 8 → word_byte word at ≡ word / 256 ^ (7 - at) % 256
word_byte_is word at lt = ap (λ p. word / p % 256) (ap (λ n. 2 ^ n) (let is : 56 - 8 * at ≡ 8 * (7 - at) = omega arith in is) ∙ powers (7 - at))

-- the number of the first so many words of a key
abbrev number_of_words : ℕ → KeyWords → ℕ
number_of_words zero key = 0
number_of_words (suc words) key = number_of_words words key * 2 ^ 64 + key words

all_words : (key : KeyWords) → number_of_words WORDS key ≡ number_of_key key
all_words key = let first : 0 * 2 ^ 64 + key 0 ≡ key 0 = omega arith in ap (λ n. (n * 2 ^ 64 + key 1) * 2 ^ 64 + key 2) first

words_byte : (words : ℕ) (key : KeyWords) (at : ℕ) → ((k : ℕ) → key k < 2 ^ 64) → at < 8 * words → key_byte_of key at ≡ number_of_words words key / 256 ^ (8 * words - (at + 1)) % 256
words_byte zero key at fits lt = absurd (omega arith)
words_byte (suc words) key at fits lt = elim (cases_lt at (8 * words)) [
  | inl before ↦
      words_byte words key at fits before
      ∙ ap (λ e. number_of_words words key / 256 ^ e % 256) (let is : 8 * words - (at + 1) ≡ 8 * suc words - (at + 1) - 8 = omega arith in is)
      ∙ sym (upper_byte (number_of_words words key) (key words) (8 * suc words - (at + 1)) (fits words) (omega arith))
  | inr last ↦
      ap (λ k. word_byte (key k) (at % 8)) (let is : at / 8 ≡ words = omega arith in is)
      ∙ word_byte_is (key words) (at % 8) (omega arith)
      ∙ ap (λ e. key words / 256 ^ e % 256) (let is : 7 - at % 8 ≡ 8 * suc words - (at + 1) = omega arith in is)
      ∙ sym (lower_byte (number_of_words words key) (key words) (8 * suc words - (at + 1)) (omega arith))
]

pub byte_is_of_number : ByteIsOfNumber
byte_is_of_number key at fits lt =
    words_byte WORDS key at fits lt ∙ ap (λ n. n / 256 ^ (8 * WORDS - (at + 1)) % 256) (all_words key) ∙ sym (byte_is at (number_of_key key) ∙ ap (λ s. number_of_key key / s % 256) (span_is (at + 1)))

-- Numbers of keys are told by their bytes.

words_below : (words : ℕ) (key : KeyWords) → ((k : ℕ) → key k < 2 ^ 64) → number_of_words words key < 256 ^ (8 * words)
words_below zero key fits = omega arith
words_below (suc words) key fits =
    let before = words_below words key fits in
    let small = fits words in
    let n = number_of_words words key in
    let p = 256 ^ (8 * words) in
    let power : 256 ^ (8 * suc words) ≡ p * 2 ^ 64 = ap (λ i. 256 ^ i) (let is : 8 * suc words ≡ 8 * words + 8 = omega arith in is) ∙ pow-add 256 (8 * words) 8 in
    omega arith

pub number_below : (key : KeyWords) → ((k : ℕ) → key k < 2 ^ 64) → number_of_key key < 256 ^ key_bytes
number_below key fits = subst (λ n. n < 256 ^ key_bytes) (all_words key) (words_below WORDS key fits)

pub none_first : (n : ℕ) → n < 256 ^ key_bytes → first_bytes 0 n ≡ 0
none_first n lt = first_is 0 n ∙ ap (λ s. n / s) (span_is 0) ∙ (let less : n / 256 ^ key_bytes < 1 = div_below n (256 ^ key_bytes) 1 (power_pos key_bytes) (omega arith) in omega arith)

first_alike : (a b depth : ℕ) → a < 256 ^ key_bytes → b < 256 ^ key_bytes → ((at : ℕ) → at < key_bytes → byte_at at a ≡ byte_at at b) → depth ≤ key_bytes → first_bytes depth a ≡ first_bytes depth b
first_alike a b zero small small' same le = none_first a small ∙ sym (none_first b small')
first_alike a b (suc depth) small small' same le =
    ap (λ d. first_bytes d a) (let is : suc depth ≡ depth + 1 = omega arith in is) ∙ first_next depth a (omega arith)
    ∙ ap₂ (λ f b. 256 * f + b) (first_alike a b depth small small' same (omega arith)) (same depth (omega arith))
    ∙ sym (ap (λ d. first_bytes d b) (let is : suc depth ≡ depth + 1 = omega arith in is) ∙ first_next depth b (omega arith))

pub whole_first : (n : ℕ) → first_bytes key_bytes n ≡ n
whole_first n = first_is key_bytes n ∙ ap (λ s. n / s) span_last ∙ (let is : n / 1 ≡ n = omega arith in is)

bytes_tell : (a b : ℕ) → a < 256 ^ key_bytes → b < 256 ^ key_bytes → ((at : ℕ) → at < key_bytes → byte_at at a ≡ byte_at at b) → a ≡ b
bytes_tell a b small small' same = sym (whole_first a) ∙ first_alike a b key_bytes small small' same (omega arith) ∙ whole_first b

-- The first bytes with zeros behind them.

module _ (depth n : ℕ) (within : depth < key_bytes) where
  abbrev prefix : ℕ
  prefix = first_bytes depth n * span depth

  byte_before : (at : ℕ) → at < depth → byte_at at prefix ≡ byte_at at n
  byte_before at lt =
      let one : first_bytes at prefix ≡ first_bytes at n = fewer_of_prefix at depth n (omega arith) (omega arith) in
      let more : first_bytes (at + 1) prefix ≡ first_bytes (at + 1) n = fewer_of_prefix (at + 1) depth n (omega arith) (omega arith) in
      let left = first_next at prefix (omega arith) in
      let right = first_next at n (omega arith) in
      omega arith

  pub byte_behind : (at : ℕ) → depth ≤ at → at < key_bytes → byte_at at prefix ≡ 0
  byte_behind at le lt =
      let parts : span depth ≡ times depth (at + 1) * span (at + 1) = span_times depth (at + 1) (omega arith) (omega arith) in
      let f = first_bytes depth n in
      let more : times depth (at + 1) ≡ 256 ^ (at - depth) * 256 = times_next depth at le in
      let m = f * 256 ^ (at - depth) in
      let whole : f * times depth (at + 1) ≡ m * 256 = ap (λ p. f * p) more ∙ sym (mul_assoc f (256 ^ (at - depth)) 256) in
      byte_is at prefix
      ∙ ap (λ p. p / span (at + 1) % 256) (ap (λ s. f * s) parts ∙ sym (mul_assoc f (times depth (at + 1)) (span (at + 1))))
      ∙ ap (λ q. q % 256) (mul-div_cancel (f * times depth (at + 1)) (span_pos (at + 1)) ∙ whole)
      ∙ (let is : m * 256 % 256 ≡ 0 = omega arith in is)

  prefix_below : n < 256 ^ key_bytes → prefix < 256 ^ key_bytes
  prefix_below small =
      let low : prefix ≤ n = subst (λ q. q * span depth ≤ n) (sym (first_is depth n)) (div-mul-le_self n (span depth)) in
      omega arith

pub prefix_is_of_number : PrefixIsOfNumber
prefix_is_of_number depth key prefix' fits fits' within is =
    let n = number_of_key key in
    let small : n < 256 ^ key_bytes = number_below key fits in
    bytes_tell (number_of_key prefix') (first_bytes depth n * span depth) (number_below prefix' fits') (prefix_below depth n within small) same
  where
    same : (at : ℕ) → at < key_bytes → byte_at at (number_of_key prefix') ≡ byte_at at (first_bytes depth (number_of_key key) * span depth)
    same at lt =
        sym (byte_is_of_number prefix' at fits' lt) ∙ is at lt
        ∙ elim (cases_lt at depth) [
          | inl before ↦
              ap (λ t. cond t (key_byte_of key at) 0) (lt-ltb at depth before) ∙ byte_is_of_number key at fits lt
              ∙ sym (byte_before depth (number_of_key key) within at before)
          | inr behind ↦
              ap (λ t. cond t (key_byte_of key at) 0) (le-ltb at depth behind) ∙ sym (byte_behind depth (number_of_key key) within at behind lt)
        ]
