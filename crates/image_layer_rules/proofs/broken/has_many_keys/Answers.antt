use Rattle.std.proofs.Common.{rules, ◌≡◌, refl, sym, ap, ◌∙◌}
use Rattle.std.proofs.lemmas.Bool.{false≢true}
use Rattle.pm_words.specs.declared.layout.Layout.{Layout}
use Rattle.tree_law.specs.Words.{reference_of}
use Rattle.image_layer_rules.specs.Counts.{HasMore, LeavesRoom}
use Rattle.image_layer_rules.proofs.CountLemmas.{more_told, none_told, root_right}
use Rattle.image_layer_rules.proofs.broken.has_many_keys.Goals as goal

pub room_behind-requires-clause-right : goal.room_behind-requires-clause-right
room_behind-requires-clause-right c _ = root_right c.args.image.now.layout c.args.image.now.words c.requires c.root_of.result (ap reference_of (sym c.root_of.ensures.root))

pub returns-in_default : goal.returns-in_default
returns-in_default c =
    let l = c.args.image.now.layout in
    let image = c.args.image.now.words in
    let nodes : c.nodes-nodes.result ≡ l.nodes = c.nodes-nodes.ensures ∙ ap (λ (k : Layout). k.nodes) c.layout.ensures.layout in
    let more : HasMore l image c.root_of.result 0 c.nodes-nodes.result = search rules in
    (λ _. more_told l image c.layout.ensures.image c.requires c.root_of.result c.nodes-nodes.result nodes (ap reference_of (sym c.root_of.ensures.root)) more, λ _. refl)

pub returns : goal.returns
returns c =
    let l = c.args.image.now.layout in
    let image = c.args.image.now.words in
    let nodes : c.nodes-nodes.result ≡ l.nodes = c.nodes-nodes.ensures ∙ ap (λ (k : Layout). k.nodes) c.layout.ensures.layout in
    let some : LeavesRoom l image c.root_of.result 0 c.nodes-nodes.result c.in-Some._room = search rules in
    (λ yes. absurd (false≢true yes), λ breaks. absurd (none_told l image c.layout.ensures.image c.requires c.root_of.result c.nodes-nodes.result c.in-Some._room nodes (ap reference_of (sym c.root_of.ensures.root)) some breaks))
