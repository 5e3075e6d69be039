use Rattle.std.proofs.Common.{◌≡◌, ◌-◌, ap, sym, ◌∙◌}
use Rattle.std.proofs.lemmas.Bool.{false≢true}
use Rattle.layer_map.specs.Keys.{key_number}
use Rattle.image_layer_rules.specs.Faults.{image_tree}
use Rattle.image_layer_rules.specs.Covers.{IsListedWith}
use Rattle.image_layer_rules.proofs.CoverLaw.{leaf_number}
use Rattle.image_layer_rules.proofs.StrayLemmas.{stray_told, not_stray}
use Rattle.image_layer_rules.proofs.stray.is_stray.Goals as goal

pub returns-then-is_listed_with : goal.returns-then-is_listed_with
returns-then-is_listed_with c =
    let l = c.args.image.now.layout in
    let image = c.args.image.now.words in
    let node : c.saturating_sub-node.result ≡ (image_tree l image).word c.args.leaf - 1 = c.saturating_sub-node.ensures ∙ ap (λ w. w - 1) c.leaf_word.ensures in
    let key : key_number c.leaf_key-key.result ≡ (image_tree l image).key c.args.leaf = ap key_number c.leaf_key-key.ensures ∙ leaf_number l image c.args.leaf in
    (λ yes. absurd (false≢true yes), λ stray. absurd (not_stray l image c.args.leaf c.saturating_sub-node.result (key_number c.leaf_key-key.result) node key (c.is_listed_with.ensures.0 c.if-is_listed_with.true) stray))

pub returns : goal.returns
returns c =
    let l = c.args.image.now.layout in
    let image = c.args.image.now.words in
    let node : c.saturating_sub-node.result ≡ (image_tree l image).word c.args.leaf - 1 = c.saturating_sub-node.ensures ∙ ap (λ w. w - 1) c.leaf_word.ensures in
    let key : key_number c.leaf_key-key.result ≡ (image_tree l image).key c.args.leaf = ap key_number c.leaf_key-key.ensures ∙ leaf_number l image c.args.leaf in
    let elsewhere : ¬ IsListedWith l image c.saturating_sub-node.result (key_number c.leaf_key-key.result) = λ leads. false≢true (sym c.if-is_listed_with.false ∙ c.is_listed_with.ensures.1 leads) in
    stray_told l image c.args.leaf c.saturating_sub-node.result (key_number c.leaf_key-key.result) c.is_open_for.result node key elsewhere c.is_open_for.ensures
