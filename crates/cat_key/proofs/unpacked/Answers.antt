use Rattle.std.proofs.Common.{arith}
use Rattle.std.proofs.lemmas.List.{ext_get_or}
use Rattle.cat_key.specs.Names.{all_bytes}
use Rattle.cat_key.proofs.Bytes.{length-all_bytes}
use Rattle.cat_key.proofs.unpacked.Goals as goal

pub returns : goal.returns
returns c =
    let size = length-all_bytes c.args.words.now in
    ext_get_or 0 c.loop-at.byte-items (all_bytes c.args.words.now) (omega arith) (λ k within. c.loop-at.invariant.written k (omega arith))
