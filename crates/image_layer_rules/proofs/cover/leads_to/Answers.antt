use Rattle.std.proofs.Common.{ap, sym, ◌∙◌}
use Rattle.layer_map.specs.Keys.{key_number}
use Rattle.tree_law.specs.Words.{reference_of}
use Rattle.image_layer_rules.proofs.CountLemmas.{root_right}
use Rattle.image_layer_rules.proofs.CoverLemmas.{led_from, node_told, none_told}
use Rattle.image_layer_rules.specs.Rules.{image_map}
use Rattle.image_layer_rules.proofs.cover.leads_to.Goals as goal

pub node_from-requires-clause-right : goal.node_from-requires-clause-right
node_from-requires-clause-right c _ = root_right c.args.image.now.layout c.args.image.now.words c.requires.right c.root_of.result (ap reference_of (sym c.root_of.ensures.root))

pub returns-in_default : goal.returns-in_default
returns-in_default c =
    let l = c.args.image.now.layout in
    let image = c.args.image.now.words in
    let key = key_number c.args.key.now in
    none_told c.args.node (image_map l image key) (led_from l image c.root_of.result key c.node_from.result (ap reference_of (sym c.root_of.ensures.root)) c.node_from.ensures ∙ c.in_default.is)

pub returns : goal.returns
returns c =
    let l = c.args.image.now.layout in
    let image = c.args.image.now.words in
    let key = key_number c.args.key.now in
    node_told c.in-Some.found c.args.node (image_map l image key) (led_from l image c.root_of.result key c.node_from.result (ap reference_of (sym c.root_of.ensures.root)) c.node_from.ensures ∙ c.in-Some.is)
