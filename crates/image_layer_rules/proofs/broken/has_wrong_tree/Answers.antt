use Rattle.std.proofs.Common.{subst}
use Rattle.std.specs.Prelude.{◌↔◌, IsTrue}
use Rattle.tree_law.specs.Words.{reference_of}
use Rattle.image_layer_rules.specs.Checks.{IsWrongFrom}
use Rattle.image_layer_rules.proofs.RightLemmas.{tree_told}
use Rattle.image_layer_rules.proofs.broken.has_wrong_tree.Goals as goal

pub returns : goal.returns
returns c =
    let l = c.args.image.now.layout in
    let image = c.args.image.now.words in
    tree_told l image c.root_of.ensures.image c.is_wrong_from.result
    (subst (λ root. IsTrue c.is_wrong_from.result ↔ IsWrongFrom l image (reference_of root)) c.root_of.ensures.root c.is_wrong_from.ensures)
