use Rattle.std.proofs.Common.{length, ap, ◌∙◌}
use Rattle.cat_key.proofs.Bytes.{bytes_of-text}
use Rattle.cat_key.proofs.Name.len.Goals as goal

pub returns-clause-len : goal.returns-clause-len
returns-clause-len c =
    ap length (bytes_of-text c.self.inside.words c.unpacked.result c.text_in.result.now c.unpacked.ensures c.text_in.ensures ∙ c.self.view_is)
