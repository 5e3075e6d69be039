-- Why a text is no number.
use Rattle.std.proofs.Common.{◌≡◌, ℕ, ◌+◌, ◌-◌, ◌*◌, ◌^◌, ◌<◌, ◌≤◌, List, length, get_or, take, arith}
use Rattle.std.specs.Str.Parse.{digits_value}
use Rattle.std.proofs.lemmas.Int.Digits.{digits_value_more}
use Rattle.std.proofs.lemmas.Str.{digit_value_digit}
use Rattle.std.proofs.lemmas.Str.Parse.{digit_at, digits_value-take-le}
use Rattle.cat_script.specs.Numbers.{IsNumber}

-- each byte of a number is a digit
pub digits_of_number : (text : List ℕ) (n i : ℕ) → IsNumber text n → i < length text → (48 ≤ get_or text i 0) × (get_or text i 0 ≤ 57)
digits_of_number text n i is within = let digit = digit_at text i is.numeral.1 within in (omega (arith, digit), omega (arith, digit))

-- the first digits of a number stand for no more than it
pub digits_fit : (text : List ℕ) (n i before : ℕ) → IsNumber text n → i < length text → before ≡ digits_value 10 (take i text) →
    (before * 10 + (get_or text i 0 - 48)) < 2 ^ 64
digits_fit text n i before is within so_far =
    let digit = digit_at text i is.numeral.1 within in
    let more = digits_value_more 10 text i within in
    let worth = digit_value_digit (get_or text i 0) digit in
    let whole = digits_value-take-le 10 text (i + 1) (omega arith) in
    omega (arith, more, worth, whole, so_far, is.value, is.fits)
