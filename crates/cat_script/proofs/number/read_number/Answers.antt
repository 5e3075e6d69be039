use Rattle.std.proofs.Common.{◌≡◌, ◌<◌, length, get_or, take, sym, subst, arith}
use Rattle.std.proofs.lemmas.List.{take_all}
use Rattle.std.proofs.lemmas.Int.Digits.{digits_value_more, digits_more}
use Rattle.std.proofs.lemmas.Str.{digit_value_digit}
use Rattle.std.proofs.lemmas.Bool.Decides.{nat_tests}
use Rattle.std.specs.Str.Parse.{AllDigits, digits_value}
use Rattle.cat_script.proofs.NumberLemmas.{digits_of_number, digits_fit}
use Rattle.cat_script.proofs.number.read_number.Goals as goal

pub returns-then-not-is_ascii_digit-clause-none : goal.returns-then-not-is_ascii_digit-clause-none
returns-then-not-is_ascii_digit-clause-none c = λ is n number.
    let digit = digits_of_number c.args.text.now n c.loop-byte.byte-index number (omega arith) in
    let other = c.if-not-is_ascii_digit.ensures.cases in
    omega (arith, digit, other)

pub returns-in_err-number-clause-none : goal.returns-in_err-number-clause-none
returns-in_err-number-clause-none c = λ is n number.
    let fits = digits_fit c.args.text.now n c.loop-byte.byte-index c.loop-byte.number number (omega arith) c.loop-byte.invariant.value in
    c.in_err-number.ensures (omega (arith, fits, c.from.ensures))

pub loop-byte-preserved : goal.loop-byte-preserved
loop-byte-preserved c =
    let more = digits_value_more 10 c.args.text.now c.loop-byte.byte-index (omega arith) in
    let worth = digit_value_digit (get_or c.args.text.now c.loop-byte.byte-index 0) c.if-not-is_ascii_digit.ensures.cases in
    record {
      value = omega (arith, more, worth, c.loop-byte.invariant.value, c.in_ok-number.ensures, c.from.ensures);
      fits = omega (arith, c.in_ok-number.ensures);
      digits = digits_more 10 c.args.text.now c.loop-byte.byte-index (omega arith) c.loop-byte.invariant.digits c.if-not-is_ascii_digit.ensures.bound;
    }

pub returns-clause-some : goal.returns-clause-some
returns-clause-some c =
    let some : 0 < length c.args.text.now = grind (arith, nat_tests, c.is_empty.ensures) in
    let whole : take c.loop-byte.byte-index c.args.text.now ≡ c.args.text.now = take_all c.loop-byte.byte-index c.args.text.now (omega arith) in record {
      numeral = (some, subst (AllDigits 10) whole c.loop-byte.invariant.digits);
      short = omega arith;
      value = sym (subst (λ ds. c.loop-byte.number ≡ digits_value 10 ds) whole c.loop-byte.invariant.value);
      fits = c.loop-byte.invariant.fits;
    }
