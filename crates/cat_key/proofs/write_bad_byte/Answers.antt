use Rattle.std.proofs.Common.{◌<◌, false, arith}
use Rattle.std.proofs.lemmas.Fmt.{hex_byte}
use Rattle.cat_key.proofs.write_bad_byte.Goals as goal

pub returns : goal.returns
returns g c =
    let byte : c.args.byte < 256 = omega (c.ranges.byte, arith) in
    let written = hex_byte false c.args.byte byte in
    rw (c.in_radix.ensures, c.laid_out.ensures, written) at c.write.ensures.writes
