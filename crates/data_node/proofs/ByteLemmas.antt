-- The test of a word for a byte that is zero, and for one that is a given byte.
use Rattle.std.proofs.Common.{◌≡◌, ◌≢◌, ℕ, zero, suc, ◌+◌, ◌-◌, ◌*◌, ◌/◌, ◌%◌, ◌<◌, ◌^◌, min, slice_index, bit_and, inl, inr, refl, sym, subst, ◌∙◌, arith}
use Rattle.std.specs.Int.{bit_at}
use Rattle.std.specs.Int.Bits.{bit_xor, xor_self}
use Rattle.std.proofs.lemmas.Bool.{cases_lt}
use Rattle.std.proofs.lemmas.Nat.{and_shr, xor_shr, xor_mod}
use Rattle.std.proofs.lemmas.Nat.Bits.{bit_at_and, bit_at-zero}
use Rattle.data_node.specs.Slots.{prints_of}

-- the byte at a place, the lowest first
abbrev byte_of : ℕ → ℕ → ℕ
byte_of word zero = word % 256
byte_of word (suc place) = byte_of (word / 256) place

-- a word of so many bytes, which are all this one
abbrev pub each : ℕ → ℕ → ℕ
each zero byte = 0
each (suc count) byte = byte + 256 * each count byte

-- a number times the first one that so many bytes can't hold
abbrev beyond : ℕ → ℕ → ℕ
beyond zero times = times
beyond (suc count) times = 256 * beyond count times

-- A lowest byte that is zero borrows where one is subtracted from it: its highest bit is set then, and it was clear.
lowest_nonzero : (word less flipped ones over top rest : ℕ) → less + (1 + 256 * ones) ≡ word + 256 * over → flipped + word + 1 ≡ 256 * top → bit_and (bit_and less flipped) (128 + 256 * rest) ≡ 0 → word % 256 ≢ 0
lowest_nonzero word less flipped ones over top rest subtracted turned test none =
    let highest = 128 + 256 * rest in
    let clear : bit_at (bit_and (bit_and less flipped) highest) 7 ≡ 0 = subst (λ n. bit_at n 7 ≡ 0) (sym test) (bit_at-zero 7) in
    let outer : bit_at (bit_and (bit_and less flipped) highest) 7 ≡ min (bit_at (bit_and less flipped) 7) (bit_at highest 7) = bit_at_and (bit_and less flipped) highest 7 in
    let inner : bit_at (bit_and less flipped) 7 ≡ min (bit_at less 7) (bit_at flipped 7) = bit_at_and less flipped 7 in
    let first : bit_at less 7 ≡ 1 = omega arith in
    let second : bit_at flipped 7 ≡ 1 = omega arith in
    let third : bit_at highest 7 ≡ 1 = omega arith in
    omega arith

-- the same test of the bytes above the lowest one
test_above : (less flipped rest : ℕ) → bit_and (bit_and less flipped) (128 + 256 * rest) ≡ 0 → bit_and (bit_and (less / 256) (flipped / 256)) rest ≡ 0
test_above less flipped rest test =
    let highest = 128 + 256 * rest in
    let above : highest / 256 ≡ rest = omega arith in
    let whole : bit_and (bit_and less flipped) highest / 256 ≡ 0 = subst (λ n. n / 256 ≡ 0) (sym test) refl in
    let parts : bit_and (bit_and less flipped / 256) (highest / 256) ≡ 0 = sym (and_shr (bit_and less flipped) highest 8) ∙ whole in
    subst (λ n. bit_and (bit_and (less / 256) (flipped / 256)) n ≡ 0) above
    (subst (λ n. bit_and n (highest / 256) ≡ 0) (and_shr less flipped 8) parts)

-- No byte is zero where, with one subtracted from each byte, no highest bit is set that was clear.
nonzero : (count word less flipped times : ℕ) → less + each count 1 ≡ word + beyond count times → flipped + word + 1 ≡ beyond count 1 → bit_and (bit_and less flipped) (each count 128) ≡ 0 → (place : ℕ) → place < count → byte_of word place ≢ 0
nonzero zero word less flipped times subtracted turned test place within = absurd (omega arith)
nonzero (suc count) word less flipped times subtracted turned test zero within =
    lowest_nonzero word less flipped (each count 1) (beyond count times) (beyond count 1) (each count 128) subtracted turned test
nonzero (suc count) word less flipped times subtracted turned test (suc place) within =
    let lowest : word % 256 ≢ 0 = lowest_nonzero word less flipped (each count 1) (beyond count times) (beyond count 1) (each count 128) subtracted turned test in
    let borrowed_none : less / 256 + each count 1 ≡ word / 256 + beyond count times = omega arith in
    let turned_above : flipped / 256 + word / 256 + 1 ≡ beyond count 1 = omega arith in
    nonzero count (word / 256) (less / 256) (flipped / 256) times borrowed_none turned_above (test_above less flipped (each count 128) test) place (omega arith)

-- where two words have the same byte, their exclusive or has zero
same_byte : (place a b : ℕ) → byte_of a place ≡ byte_of b place → byte_of (bit_xor a b) place ≡ 0
same_byte zero a b same = xor_mod a b 8 ∙ subst (λ n. bit_xor n (b % 256) ≡ 0) (sym same) (xor_self (b % 256))
same_byte (suc place) a b same = subst (λ n. byte_of n place ≡ 0) (sym (xor_shr a b 8)) (same_byte place (a / 256) (b / 256) same)

each_is : (count byte place : ℕ) → byte < 256 → place < count → byte_of (each count byte) place ≡ byte
each_is zero byte place small within = absurd (omega arith)
each_is (suc count) byte zero small within = omega arith
each_is (suc count) byte (suc place) small within =
    let above : each count byte ≡ (byte + 256 * each count byte) / 256 = omega arith in
    subst (λ n. byte_of n place ≡ byte) above (each_is count byte place small (omega arith))

print_is : (word place : ℕ) → place < 8 → slice_index (prints_of word) place ≡ byte_of word place
print_is word zero within = refl
print_is word (suc zero) within = refl
print_is word (suc (suc zero)) within = omega arith
print_is word (suc (suc (suc zero))) within = omega arith
print_is word (suc (suc (suc (suc zero)))) within = omega arith
print_is word (suc (suc (suc (suc (suc zero))))) within = omega arith
print_is word (suc (suc (suc (suc (suc (suc zero)))))) within = omega arith
print_is word (suc (suc (suc (suc (suc (suc (suc zero))))))) within = omega arith
print_is word (suc (suc (suc (suc (suc (suc (suc (suc place)))))))) within = absurd (omega arith)

-- The test on the differences between a word's bytes and a fingerprint tells that no byte is that fingerprint.
pub lacks_print : (word print differing : ℕ) → print < 256 → differing < 2 ^ 64 → differing ≡ bit_xor word (each 8 print) → bit_and (bit_and ((differing + (2 ^ 64 - each 8 1)) % 2 ^ 64) (2 ^ 64 - 1 - differing)) (each 8 128) ≡ 0 → (slot : ℕ) → slice_index (prints_of word) (slot % 8) ≢ print
lacks_print word print differing small fits is test slot same =
    let place = slot % 8 in
    let within : place < 8 = omega arith in
    let byte : byte_of word place ≡ byte_of (each 8 print) place = sym (print_is word place within) ∙ same ∙ sym (each_is 8 print place small within) in
    let none : byte_of differing place ≡ 0 = subst (λ n. byte_of n place ≡ 0) (sym is) (same_byte place word (each 8 print) byte) in
    let less = (differing + (2 ^ 64 - each 8 1)) % 2 ^ 64 in
    let flipped = 2 ^ 64 - 1 - differing in
    elim (cases_lt differing (each 8 1)) [
      | inl below ↦ nonzero 8 differing less flipped 1 (omega arith) (omega arith) test place within none
      | inr enough ↦ nonzero 8 differing less flipped 0 (omega arith) (omega arith) test place within none
    ]
