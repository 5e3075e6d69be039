use Rattle.cat_key.proofs.Bytes.{take-before_zero}
use Rattle.cat_key.proofs.text_in.Goals as goal

pub returns : goal.returns
returns c = take-before_zero c.args.bytes.now c.text_len.result c.text_len.ensures
