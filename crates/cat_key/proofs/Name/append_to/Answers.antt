use Rattle.std.proofs.Common.{sym, rules, ◌∙◌}
use Rattle.cat_key.proofs.Bytes.{bytes_of-text}
use Rattle.cat_key.proofs.Name.append_to.Goals as goal

pub returns : goal.returns
returns c =
    let text = bytes_of-text c.self.inside.words c.unpacked.result c.text_in.result.now c.unpacked.ensures c.text_in.ensures ∙ c.self.view_is in
    rw (sym text) (search rules)
