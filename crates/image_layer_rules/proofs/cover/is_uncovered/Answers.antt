use Rattle.std.proofs.Common.{ap, sym, subst, refl, ◌∙◌, arith}
use Rattle.std.proofs.lemmas.Bool.{false≢true}
use Rattle.image_rules.proofs.ListRules.{lead_within}
use Rattle.tree_law.specs.Words.{reference_of}
use Rattle.image_layer_rules.specs.Covers.{IsStrayFrom}
use Rattle.image_layer_rules.proofs.CountLemmas.{root_right}
use Rattle.image_layer_rules.proofs.RightLemmas.{rule_on_tree}
use Rattle.image_layer_rules.proofs.CoverLemmas.{stray_breaks, uncovered_told}
use Rattle.image_layer_rules.proofs.cover.is_uncovered.Goals as goal

pub listed_nodes-listed-requires : goal.listed_nodes-listed-requires
listed_nodes-listed-requires c = lead_within c.args.image.now.layout c.args.image.now.words 4 (omega arith) (λ rule position w _. c.requires.sound rule position w)

pub is_stray_from-requires-clause-right : goal.is_stray_from-requires-clause-right
is_stray_from-requires-clause-right c _ = root_right c.args.image.now.layout c.args.image.now.words c.requires.right c.root_of.result (ap reference_of (sym c.root_of.ensures.root))

pub returns-then-is_stray_from : goal.returns-then-is_stray_from
returns-then-is_stray_from c =
    let l = c.args.image.now.layout in
    let image = c.args.image.now.words in
    (λ _. stray_breaks l image ((rule_on_tree l image c.root_of.ensures.image).0 c.requires.right) (subst (IsStrayFrom l image) (ap reference_of c.root_of.ensures.root) (c.is_stray_from.ensures.0 c.if-is_stray_from.true)), λ _. refl)

pub returns : goal.returns
returns c =
    let l = c.args.image.now.layout in
    let image = c.args.image.now.words in
    uncovered_told l image ((rule_on_tree l image c.root_of.ensures.image).0 c.requires.right) c.requires.sound c.has_missed.result
    (λ stray. false≢true (sym c.if-is_stray_from.false ∙ c.is_stray_from.ensures.1 (subst (IsStrayFrom l image) (ap reference_of (sym c.root_of.ensures.root)) stray)))
    c.has_missed.ensures
