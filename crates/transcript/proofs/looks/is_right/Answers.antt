use Rattle.std.proofs.Common.{◌∙◌, sym}
use Rattle.transcript.proofs.TreeLemmas.{at_tree, same_number}
use Rattle.transcript.proofs.looks.is_right.Goals as goal

pub returns : goal.returns
returns c = λ m is.
    let found = c.copied.ensures ∙ c.get.ensures.value ∙ at_tree m c.args.names.now.entries c.args.look.now.name is in
    let same = same_number c.copied.result c.args.look.now.old in (
      λ yes. sym (same.0 (sym c.eq.ensures ∙ yes)) ∙ found,
      λ right. c.eq.ensures ∙ same.1 (found ∙ sym right),
    )
