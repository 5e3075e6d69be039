use Rattle.std.proofs.Common.{rules, ◌≡◌, ◌<◌, false, refl, sym, ◌∙◌, arith}
use Rattle.std.proofs.lemmas.Bool.{false≢true}
use Rattle.radix_nodes.specs.Keys.{key_bytes}
use Rattle.tree_law.specs.Trees.{HasTwo}
use Rattle.image_layer_rules.specs.Heads.{HasPrefix}
use Rattle.image_layer_rules.specs.Faults.{image_tree, is_too_deep, has_no_prefix, has_few}
use Rattle.image_layer_rules.specs.Checks.{HasForm}
use Rattle.image_layer_rules.proofs.WrongLemmas.{wrong_form, cell_told}
use Rattle.image_layer_rules.proofs.cell.is_wrong_cell.Goals as goal

pub returns-then-cell_word-ge-KEY_BYTES : goal.returns-then-cell_word-ge-KEY_BYTES
returns-then-cell_word-ge-KEY_BYTES c = (λ _. is_too_deep (let depth = c.cell_word.ensures in let deep = c.if-cell_word-ge-KEY_BYTES.true in omega arith), λ _. refl)

pub returns-then-not-has_form : goal.returns-then-not-has_form
returns-then-not-has_form c =
    let fails : c.has_form.result ≡ false = search rules in
    (λ _. wrong_form c.args.image.now.layout c.args.image.now.words c.args.reference (λ has. false≢true (sym fails ∙ c.has_form.ensures.1 has)), λ _. refl)

pub returns-then-not-has_prefix : goal.returns-then-not-has_prefix
returns-then-not-has_prefix c =
    let fails : c.has_prefix.result ≡ false = search rules in
    (λ _. has_no_prefix (λ has. false≢true (sym fails ∙ c.has_prefix.ensures.1 has)), λ _. refl)

pub returns-then-not-has_two_children : goal.returns-then-not-has_two_children
returns-then-not-has_two_children c =
    let fails : c.has_two_children.result ≡ false = search rules in
    (λ _. has_few (λ has. false≢true (sym fails ∙ c.has_two_children.ensures.1 has)), λ _. refl)

pub returns : goal.returns
returns c =
    let l = c.args.image.now.layout in
    let image = c.args.image.now.words in
    let depth : (image_tree l image).depth c.args.reference < key_bytes = (let is = c.cell_word.ensures in let lt = c.if-cell_word-ge-KEY_BYTES.false in omega arith) in
    let form : HasForm l image c.args.reference = c.has_form.ensures.0 (search rules) in
    let prefix : HasPrefix (image_tree l image) c.args.reference = c.has_prefix.ensures.0 (search rules) in
    let two : HasTwo (image_tree l image) c.args.reference = c.has_two_children.ensures.0 (search rules) in
    cell_told l image c.args.reference c.has_wrong_child.result c.requires.number depth form prefix two c.has_wrong_child.ensures
