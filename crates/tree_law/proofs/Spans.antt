-- Keys that share their first bytes: a stretch of numbers.
use Rattle.std.proofs.Common.{◌≡◌, ℕ, zero, suc, ◌+◌, ◌-◌, ◌*◌, ◌/◌, ◌%◌, ◌^◌, ◌<◌, ◌≤◌, refl, sym, subst, ap, ap₂, ◌∙◌, arith, pow-suc, mul_assoc, mul_comm, mul-le-mul_right, lt_of_mul-lt-mul_right, add-mul, one-mul, zero-mul, div-mul-le_self, inl, inr}
use Rattle.std.proofs.lemmas.Nat.{pow-add, le-div, div_below}
use Rattle.std.proofs.Math.Nat.{lt-div-mul-add, div-div-eq-div-mul, mul-div_cancel}
use Rattle.std.proofs.lemmas.Bool.{cases_lt}
use Rattle.tree_law.specs.Trees.{span, first_bytes, byte_at}
use Rattle.radix_nodes.specs.Keys.{key_bytes}

pub span_is : (n : ℕ) → span n ≡ 256 ^ (key_bytes - n)
unfolding span
span_is n = refl

-- one byte more is a 256th
pub span_next : (n : ℕ) → n < key_bytes → span n ≡ 256 * span (n + 1)
span_next n lt =
    let less : key_bytes - n ≡ suc (key_bytes - (n + 1)) = omega arith in
    span_is n ∙ ap (λ k. 256 ^ k) less ∙ pow-suc 256 (key_bytes - (n + 1)) ∙ mul_comm (256 ^ (key_bytes - (n + 1))) 256 ∙ ap (λ k. 256 * k) (sym (span_is (n + 1)))

pub power_pos : (k : ℕ) → 0 < 256 ^ k
power_pos zero = omega arith
power_pos (suc k) = let is = pow-suc 256 k in let before = power_pos k in omega arith

pub span_pos : (n : ℕ) → 0 < span n
span_pos n = subst (λ k. 0 < k) (sym (span_is n)) (power_pos (key_bytes - n))

pub span_last : span key_bytes ≡ 1
unfolding span
span_last = refl

-- fewer bytes are a multiple
pub times : ℕ → ℕ → ℕ
times n m = 256 ^ (m - n)

pub span_times : (n m : ℕ) → n ≤ m → m ≤ key_bytes → span n ≡ times n m * span m
unfolding times
span_times n m le most =
    let split : key_bytes - n ≡ (m - n) + (key_bytes - m) = omega arith in
    span_is n ∙ ap (λ k. 256 ^ k) split ∙ pow-add 256 (m - n) (key_bytes - m) ∙ ap (λ k. 256 ^ (m - n) * k) (sym (span_is m))

pub times_next : (n m : ℕ) → n ≤ m → times n (m + 1) ≡ 256 ^ (m - n) * 256
unfolding times
times_next n m le = ap (λ k. 256 ^ k) (let is : m + 1 - n ≡ suc (m - n) = omega arith in is) ∙ pow-suc 256 (m - n)

pub first_is : (n key : ℕ) → first_bytes n key ≡ key / span n
unfolding first_bytes
first_is n key = refl

pub byte_is : (n key : ℕ) → byte_at n key ≡ key / span (n + 1) % 256
unfolding byte_at
byte_is n key = refl

-- a number by its quotient
quotient_low : (n s q : ℕ) → n / s ≡ q → q * s ≤ n
quotient_low n s q is = let low = div-mul-le_self n s in subst (λ k. k * s ≤ n) is low

quotient_high : (n s q : ℕ) → 0 < s → n / s ≡ q → n < (q + 1) * s
quotient_high n s q some_span is =
    let high : n < q * s + s = subst (λ k. n < k * s + s) is (lt-div-mul-add {a = n} {b = s} some_span) in
    let more : (q + 1) * s ≡ q * s + s = next q s in
    omega arith
  where
    next : (q s : ℕ) → (q + 1) * s ≡ q * s + s
    next q s = mul_comm (q + 1) s ∙ omega arith ∙ ap (λ k. k + s) (mul_comm s q)

quotient_is : (n s q : ℕ) → 0 < s → q * s ≤ n → n < (q + 1) * s → n / s ≡ q
quotient_is n s q some_span low high =
    let least : q ≤ n / s = le-div q n s some_span low in
    let most : n / s < q + 1 = div_below n s (q + 1) some_span high in
    omega arith

pub regroup : (f b s : ℕ) → f * (256 * s) + b * s ≡ (256 * f + b) * s
regroup f b s = ap (λ k. k + b * s) (sym (mul_assoc f 256 s) ∙ ap (λ k. k * s) (mul_comm f 256)) ∙ sym (add-mul (256 * f) b s)

one_more : (q s : ℕ) → (q + 1) * s ≡ q * s + s
one_more q s = add-mul q 1 s ∙ ap (λ k. q * s + k) (one-mul s)

-- where the keys of a child are among those of its cell
pub record Stretch (d p b lo D : ℕ) : Type 0 where
  pub low : p + b * span (d + 1) ≤ lo
  pub high : lo + span D ≤ p + (b + 1) * span (d + 1)

pub stretch : (d p b lo D f g : ℕ) → d < key_bytes → f * span d ≡ p → first_bytes (d + 1) lo ≡ 256 * f + b → d < D → D ≤ key_bytes → g * span D ≡ lo → Stretch d p b lo D
stretch d p b lo D f g lt zeros bytes deeper most aligned =
    let s = span (d + 1) in
    let q = 256 * f + b in
    let quotient : lo / s ≡ q = sym (first_is (d + 1) lo) ∙ bytes in
    let start : (c : ℕ) → p + c * s ≡ (256 * f + c) * s = λ c. ap (λ k. k + c * s) (sym zeros ∙ ap (λ k. f * k) (span_next d lt)) ∙ regroup f c s in
    let m = times (d + 1) D in
    let parts : s ≡ m * span D = span_times (d + 1) D (omega arith) most in
    let below : g * span D < ((q + 1) * m) * span D =
    subst (λ k. k < ((q + 1) * m) * span D) (sym aligned) (subst (λ k. lo < k) (ap (λ k. (q + 1) * k) parts ∙ sym (mul_assoc (q + 1) m (span D))) (quotient_high lo s q (span_pos (d + 1)) quotient)) in
    let fewer : g < (q + 1) * m = lt_of_mul-lt-mul_right (span D) below in
    let fits : (g + 1) * span D ≤ ((q + 1) * m) * span D = mul-le-mul_right (span D) (let as_next : g + 1 ≤ (q + 1) * m = omega arith in as_next) in
    record {
      low = subst (λ k. k ≤ lo) (sym (start b)) (quotient_low lo s q quotient);
      high =
          let left : (g + 1) * span D ≡ lo + span D = one_more g (span D) ∙ ap (λ k. k + span D) aligned in
          let right : ((q + 1) * m) * span D ≡ p + (b + 1) * s = mul_assoc (q + 1) m (span D) ∙ ap (λ k. (q + 1) * k) (sym parts) ∙ ap (λ k. k * s) (let is : q + 1 ≡ 256 * f + (b + 1) = omega arith in is) ∙ sym (start (b + 1)) in
          subst (λ k. k ≤ p + (b + 1) * s) left (subst (λ k. (g + 1) * span D ≤ k) right fits);
    }

-- the byte of a key among those of a cell says in which stretch it is
pub record ByteOf (d p n b : ℕ) : Type 0 where
  pub small : b < 256
  pub low : p + b * span (d + 1) ≤ n
  pub high : n < p + (b + 1) * span (d + 1)

pub byte_of : (d p n f : ℕ) → d < key_bytes → f * span d ≡ p → p ≤ n → n < p + span d → ByteOf d p n (byte_at d n)
byte_of d p n f lt zeros least most =
    let s = span (d + 1) in
    let some_span = span_pos (d + 1) in
    let start : (c : ℕ) → p + c * s ≡ (256 * f + c) * s = λ c. ap (λ k. k + c * s) (sym zeros ∙ ap (λ k. f * k) (span_next d lt)) ∙ regroup f c s in
    let at_zero : (256 * f + 0) * s ≡ p = sym (start 0) ∙ (let is : p + 0 * s ≡ p = ap (λ k. p + k) (zero-mul s) ∙ omega arith in is) in
    let at_end : (256 * f + 256) * s ≡ p + span d = sym (start 256) ∙ ap (λ k. p + k) (sym (span_next d lt)) in
    let q = n / s in
    let least_q : 256 * f ≤ q = le-div (256 * f) n s some_span (let is : (256 * f) * s ≡ p = ap (λ k. k * s) (let z : 256 * f ≡ 256 * f + 0 = omega arith in z) ∙ at_zero in omega arith) in
    let most_q : q < 256 * f + 256 = div_below n s (256 * f + 256) some_span (subst (λ k. n < k) (sym at_end) most) in
    let byte : byte_at d n ≡ q - 256 * f = byte_is d n ∙ (let is : q % 256 ≡ q - 256 * f = omega arith in is) in
    let here : 256 * f + byte_at d n ≡ q = omega arith in
    record {
      small = omega arith;
      low = subst (λ k. k ≤ n) (sym (start (byte_at d n) ∙ ap (λ k. k * s) here)) (quotient_low n s q refl);
      high = subst (λ k. n < k) (sym (start (byte_at d n + 1) ∙ ap (λ k. k * s) (let is : 256 * f + (byte_at d n + 1) ≡ q + 1 = omega arith in is))) (quotient_high n s q some_span refl);
    }

-- stretches follow each other
pub edges_rise : (d p a b : ℕ) → a ≤ b → p + a * span (d + 1) ≤ p + b * span (d + 1)
edges_rise d p a b le = let more : a * span (d + 1) ≤ b * span (d + 1) = mul-le-mul_right (span (d + 1)) le in omega arith

pub edge_first : (d p : ℕ) → p + 0 * span (d + 1) ≡ p
edge_first d p = ap (λ k. p + k) (zero-mul (span (d + 1))) ∙ omega arith

pub edge_last : (d p : ℕ) → d < key_bytes → p + 256 * span (d + 1) ≡ p + span d
edge_last d p lt = ap (λ k. p + k) (sym (span_next d lt))

-- a key is in one stretch alone
pub byte_told : (d p n f b : ℕ) → d < key_bytes → f * span d ≡ p → b < 256 → p + b * span (d + 1) ≤ n → n < p + (b + 1) * span (d + 1) → byte_at d n ≡ b
byte_told d p n f b lt zeros small low high =
    let first = edges_rise d p 0 b (omega arith) in
    let last = edges_rise d p (b + 1) 256 (omega arith) in
    let at_first = edge_first d p in
    let at_last = edge_last d p lt in
    let is = byte_of d p n f lt zeros (omega arith) (omega arith) in
    let a = byte_at d n in
    let is_low : p + a * span (d + 1) ≤ n = is.low in
    let is_high : n < p + (a + 1) * span (d + 1) = is.high in
    elim (cases_lt a b) [
      | inl less ↦ let apart = edges_rise d p (a + 1) b (omega arith) in absurd (omega arith)
      | inr rest ↦ elim (cases_lt b a) [
        | inl more ↦ let apart = edges_rise d p (b + 1) a (omega arith) in absurd (omega arith)
        | inr same ↦ omega arith
      ]
    ]

-- and it begins with the bytes of the cell's prefix and that byte
pub bytes_told : (d p lo f b : ℕ) → d < key_bytes → f * span d ≡ p → p + b * span (d + 1) ≤ lo → lo < p + (b + 1) * span (d + 1) → first_bytes (d + 1) lo ≡ 256 * f + b
bytes_told d p lo f b lt zeros low high =
    let s = span (d + 1) in
    let start : (c : ℕ) → p + c * s ≡ (256 * f + c) * s = λ c. ap (λ k. k + c * s) (sym zeros ∙ ap (λ k. f * k) (span_next d lt)) ∙ regroup f c s in
    first_is (d + 1) lo ∙ quotient_is lo s (256 * f + b) (span_pos (d + 1)) (subst (λ k. k ≤ lo) (start b) low)
    (subst (λ k. lo < k) (start (b + 1) ∙ ap (λ k. k * s) (let is : 256 * f + (b + 1) ≡ 256 * f + b + 1 = omega arith in is)) high)

-- a byte more
pub first_next : (d n : ℕ) → d < key_bytes → first_bytes (d + 1) n ≡ 256 * first_bytes d n + byte_at d n
first_next d n lt =
    let s = span (d + 1) in
    let q = n / s in
    let fewer : n / span d ≡ q / 256 = ap (λ k. n / k) (span_next d lt ∙ mul_comm 256 s) ∙ sym (div-div-eq-div-mul n s 256) in
    first_is (d + 1) n ∙ (let is : q ≡ 256 * (q / 256) + q % 256 = omega arith in is) ∙ ap₂ (λ a b. 256 * a + b) (sym fewer ∙ sym (first_is d n)) (sym (byte_is d n))

-- a prefix has the bytes of which it was made
pub first_of_prefix : (d f : ℕ) → first_bytes d (f * span d) ≡ f
first_of_prefix d f = first_is d (f * span d) ∙ mul-div_cancel f (span_pos d)

-- and fewer of them are those of the key
pub fewer_of_prefix : (m d key : ℕ) → m ≤ d → d ≤ key_bytes → first_bytes m (first_bytes d key * span d) ≡ first_bytes m key
fewer_of_prefix m d key le most =
    let q = key / span d in
    let parts : span m ≡ span d * times m d = span_times m d le most ∙ mul_comm (times m d) (span d) in
    let down : (n : ℕ) → n / span m ≡ n / span d / times m d = λ n. ap (λ k. n / k) parts ∙ sym (div-div-eq-div-mul n (span d) (times m d)) in
    first_is m (first_bytes d key * span d) ∙ down (first_bytes d key * span d) ∙ ap (λ k. k / times m d) (sym (first_is d (first_bytes d key * span d)) ∙ first_of_prefix d (first_bytes d key) ∙ first_is d key)
    ∙ sym (down key) ∙ sym (first_is m key)

-- with more bytes alike, fewer are
pub fewer_alike : (m d a b : ℕ) → m ≤ d → d ≤ key_bytes → first_bytes d a ≡ first_bytes d b → first_bytes m a ≡ first_bytes m b
fewer_alike m d a b le most same = sym (fewer_of_prefix m d a le most) ∙ ap (λ f. first_bytes m (f * span d)) same ∙ fewer_of_prefix m d b le most

pub byte_small : (d n : ℕ) → byte_at d n < 256
byte_small d n = let is = byte_is d n in let q = n / span (d + 1) in let small : q % 256 < 256 = omega arith in omega arith
