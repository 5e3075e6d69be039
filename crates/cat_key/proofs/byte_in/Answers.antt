use Rattle.std.proofs.Common.{◌%◌, get_or, sym, ap, ◌∙◌, arith}
use Rattle.cat_key.proofs.Bytes.{all_bytes_at}
use Rattle.cat_key.proofs.byte_in.Goals as goal

pub returns : goal.returns
returns c =
    ap (λ bytes. get_or bytes (c.args.at % 8) 0) c.to_be_bytes.ensures
    ∙ sym (all_bytes_at c.args.words.now c.args.at (omega (arith, c.told-words)))
