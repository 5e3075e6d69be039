use Rattle.std.proofs.Common.{refl, sym, subst}
use Rattle.cat_script.specs.Numbers.{IsNumber}
use Rattle.std.proofs.lemmas.Bool.{false≢true}
use Rattle.std.proofs.lemmas.Option.{IfSome_then}
use Rattle.report_reader.proofs.FieldLaws.{no_leading_zero, plain_number, number_is, short_or_long}
use Rattle.report_reader.proofs.field.read_decimal.Goals as goal

pub returns-then-has_leading_zero-clause-none : goal.returns-then-has_leading_zero-clause-none
returns-then-has_leading_zero-clause-none c = λ _ n small same.
    let zeros = c.if-has_leading_zero.ensures.0 refl in no_leading_zero c.args.field.now zeros.0 zeros.1 n small same

pub returns-clause-some : goal.returns-clause-some
returns-clause-some c = IfSome_then c.read_number.result c.read_number.ensures.some
    (λ n is. (is.fits, plain_number c.args.field.now n (λ zero_first. short_or_long c.args.field.now is.numeral.0 (λ long. false≢true (c.if-has_leading_zero.ensures.1 (long, zero_first)))) is))

pub returns-clause-none : goal.returns-clause-none
returns-clause-none c = λ un n small same. c.read_number.ensures.none un n (subst (λ field. IsNumber field n) (sym same) (number_is n small))
