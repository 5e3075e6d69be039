-- Powers of 256, and the bytes of a word.
use Rattle.std.proofs.Common.{◌≡◌, ℕ, zero, suc, ◌+◌, ◌-◌, ◌*◌, ◌/◌, ◌%◌, ◌^◌, ◌<◌, refl, sym, ap, ◌∙◌, arith, pow-suc}
use Rattle.std.proofs.lemmas.Nat.{pow-add, div_below}

pub power_pos : (k : ℕ) → 0 < 256 ^ k
power_pos zero = omega arith
power_pos (suc k) = let is = pow-suc 256 k in let before = power_pos k in omega arith

pub powers : (k : ℕ) → 2 ^ (8 * k) ≡ 256 ^ k
powers zero = refl
powers (suc k) =
    ap (λ n. 2 ^ n) (let is : 8 * suc k ≡ 8 * k + 8 = omega arith in is) ∙ pow-add 2 (8 * k) 8 ∙ ap (λ n. n * 256) (powers k) ∙ sym (pow-suc 256 k)

-- a number below eight is one of these
pub below_eight : (P : ℕ → Type 0) → P 0 → P 1 → P 2 → P 3 → P 4 → P 5 → P 6 → P 7 → (n : ℕ) → n < 8 → P n
below_eight P a b c d e f g h zero lt = a
below_eight P a b c d e f g h (suc zero) lt = b
below_eight P a b c d e f g h (suc (suc zero)) lt = c
below_eight P a b c d e f g h (suc (suc (suc zero))) lt = d
below_eight P a b c d e f g h (suc (suc (suc (suc zero)))) lt = e
below_eight P a b c d e f g h (suc (suc (suc (suc (suc zero))))) lt = f
below_eight P a b c d e f g h (suc (suc (suc (suc (suc (suc zero)))))) lt = g
below_eight P a b c d e f g h (suc (suc (suc (suc (suc (suc (suc zero))))))) lt = h
below_eight P a b c d e f g h (suc (suc (suc (suc (suc (suc (suc (suc n)))))))) lt = absurd (omega arith)

-- with another byte a word is a word again
pub record SetFits (word at byte : ℕ) : Type 0 where
  pub new : byte * 2 ^ (8 * at) < 2 ^ 64
  pub all : word - (word / 2 ^ (8 * at) % 256) * 2 ^ (8 * at) + byte * 2 ^ (8 * at) < 2 ^ 64

pub set_fits : (word at byte : ℕ) → at < 8 → word < 2 ^ 64 → byte < 256 → SetFits word at byte
set_fits word at byte small fits byte_fits = below_eight (λ n. SetFits word n byte)
    (record { new = omega arith; all = omega arith }) (record { new = omega arith; all = omega arith })
    (record { new = omega arith; all = omega arith }) (record { new = omega arith; all = omega arith })
    (record { new = omega arith; all = omega arith }) (record { new = omega arith; all = omega arith })
    (record { new = omega arith; all = omega arith }) (record { new = omega arith; all = omega arith })
    at small

pub zero_over : (p : ℕ) → 0 < p → 0 / p ≡ 0
zero_over p some_p = let less : 0 / p < 1 = div_below 0 p 1 some_p (omega arith) in omega arith
