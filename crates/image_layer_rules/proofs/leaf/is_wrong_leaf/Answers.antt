use Rattle.std.proofs.Common.{◌≡◌, refl, sym, subst, ap, ◌∙◌, arith}
use Rattle.std.specs.Prelude.{◌↔◌, IsTrue}
use Rattle.pm_words.specs.declared.layout.Layout.{Layout}
use Rattle.image_layer_rules.specs.Anchors.{AreKeyWords}
use Rattle.image_layer_rules.specs.Faults.{has_no_leaf, has_no_node, is_past_nodes}
use Rattle.image_layer_rules.proofs.WrongLemmas.{leaf_told}
use Rattle.image_layer_rules.proofs.leaf.is_wrong_leaf.Goals as goal

pub returns-then-leaf_count-leaf : goal.returns-then-leaf_count-leaf
returns-then-leaf_count-leaf c = (λ _. has_no_leaf (let count = c.leaf_count.ensures.count in let past = c.if-leaf_count-leaf.true in omega arith), λ _. refl)

pub returns-then-word-eq0 : goal.returns-then-word-eq0
returns-then-word-eq0 c = (λ _. has_no_node (sym c.leaf_word-word.ensures ∙ c.if-word-eq0.true), λ _. refl)

pub returns-then-word-nodes : goal.returns-then-word-nodes
returns-then-word-nodes c =
    let nodes : c.nodes.result ≡ c.args.image.now.layout.nodes = c.nodes.ensures ∙ ap (λ (k : Layout). k.nodes) c.layout.ensures.layout in
    (λ _. is_past_nodes (let word = c.leaf_word-word.ensures in let past = c.if-word-nodes.true in omega arith), λ _. refl)

pub returns : goal.returns
returns c =
    let l = c.args.image.now.layout in
    let image = c.args.image.now.words in
    let nodes : c.nodes.result ≡ l.nodes = c.nodes.ensures ∙ ap (λ (k : Layout). k.nodes) c.layout.ensures.layout in
    let word = c.leaf_word-word.ensures in
    leaf_told l image c.args.leaf c.is_key.result (let count = c.leaf_count.ensures.count in let within = c.if-leaf_count-leaf.false in omega arith)
    (λ none. c.if-word-eq0.false (word ∙ none)) (let le = c.if-word-nodes.false in omega arith) (subst (λ k. IsTrue c.is_key.result ↔ AreKeyWords k) c.leaf_key.ensures c.is_key.ensures)
