use Rattle.std.proofs.Common.{◌<◌, length, get_or, sym, ap, ◌∙◌}
use Rattle.cat_key.specs.Names.{bytes_of}
use Rattle.cat_key.proofs.Bytes.{bytes_of_at}
use Rattle.cat_key.proofs.Name.byte.Goals as goal

pub returns : goal.returns
returns c =
    let within : c.args.at < length (bytes_of c.self.inside.words) = rw c.self.view_is c.requires in
    c.byte_in.ensures
    ∙ sym (bytes_of_at c.self.inside.words c.args.at within)
    ∙ ap (λ name. get_or name c.args.at 0) c.self.view_is
