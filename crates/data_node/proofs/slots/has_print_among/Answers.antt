use Rattle.std.proofs.Common.{◌≡◌, ◌+◌, ◌-◌, ◌*◌, ◌%◌, ◌<◌, ◌^◌, bit_and, ap, arith, rules}
use Rattle.std.specs.Int.Bits.{bit_xor}
use Rattle.std.proofs.lemmas.Nat.{xor_lt}
use Rattle.data_node.proofs.ByteLemmas.{each, lacks_print}
use Rattle.data_node.proofs.slots.has_print_among.Goals as goal

pub returns : goal.returns
returns c clear slot =
    let differing = bit_xor c.args.word (each 8 1 * c.from.result) in
    let pattern : each 8 1 * c.from.result ≡ each 8 c.args.print = let same = c.from.ensures in omega arith in
    let fits : differing < 2 ^ 64 = xor_lt 64 c.args.word (each 8 1 * c.from.result) (omega arith) (omega arith) in
    let test : bit_and (bit_and ((differing + (2 ^ 64 - each 8 1)) % 2 ^ 64) (2 ^ 64 - 1 - differing)) (each 8 128) ≡ 0 = (search rules) in
    lacks_print c.args.word c.args.print differing (omega arith) fits (ap (λ n. bit_xor c.args.word n) pattern) test slot
