use Rattle.std.proofs.Common.{ℕ, ◌≤◌, ◌<◌, ◌^◌, ◌-◌, length, drop, decimal, arith}
use Rattle.std.proofs.lemmas.Fmt.{length-decimal-le}
use Rattle.std.proofs.lemmas.List.{length-drop, length-take}
use Rattle.cat_text.proofs.print.add_field.Goals as goal

short : (n : ℕ) → n < 2 ^ 64 → length (decimal n) ≤ 20
short n fits = length-decimal-le 20 n (omega arith) (omega arith) fits

pub write_digits-digits-requires : goal.write_digits-digits-requires
write_digits-digits-requires c = (omega (arith, short c.args.number c.ranges.number.fits), omega arith)

pub overflow_sub-start : goal.overflow_sub-start
overflow_sub-start c = omega (arith, short c.args.number c.ranges.number.fits, c.requires, c.write_digits-digits.ensures.start)

pub copy_from_slice-requires : goal.copy_from_slice-requires
copy_from_slice-requires c =
    let digits = c.write_digits-digits.result in
    let start = digits - length c.args.word.now in
    let piece = c.write_digits-digits.new.buf in
    omega (
      arith,
      short c.args.number c.ranges.number.fits,
      c.requires,
      c.write_digits-digits.ensures.start,
      length-drop start piece,
      length-take (digits - start) (drop start piece),
    )
