use Rattle.std.proofs.Common.{◌≡◌, ◌<◌, ℕ, Option, sym, subst, arith}
use Rattle.pm_words.specs.Images.{Row}
use Rattle.image_rules.specs.Lowest.{IsFirst}
use Rattle.image_rules.specs.Nodes.{LeadWithin}
use Rattle.image_rules.specs.Sound.{AreKept, Breaks}
use Rattle.image_rules.proofs.FirstLemmas.{first_header, first_versions, first_out, first_back, first_anchors, first_names, first_prints, first_apart, first_lines}
use Rattle.image_rules.proofs.ListRules.{lead_within}
use Rattle.image_rules.proofs.broken.broken_at.Goals as goal

-- what is the first of a rule is that of the rule that is asked for
of_rule : (image : Row) (asked rule : ℕ) (first : Option ℕ) → asked ≡ rule → IsFirst image.layout (Breaks image.layout image.words rule) first → IsFirst image.layout (Breaks image.layout image.words asked) first
of_rule image asked rule first is found = subst (λ (r : ℕ). IsFirst image.layout (Breaks image.layout image.words r) first) (sym is) found

-- behind the third rule nodes lead within the image
within : (image : Row) (asked rule : ℕ) → asked ≡ rule → 3 < rule → AreKept image.layout image.words asked → LeadWithin image.layout image.words
within image asked rule is behind kept = lead_within image.layout image.words asked (omega (arith, is, behind)) kept

pub leads_back-requires : goal.leads_back-requires
leads_back-requires c = within c.args.image.now c.args.rule 4 c.in-4.is (omega arith) c.requires.kept

pub wrong_anchor-requires : goal.wrong_anchor-requires
wrong_anchor-requires c = within c.args.image.now c.args.rule 5 c.in-5.is (omega arith) c.requires.kept

pub broken_word-requires : goal.broken_word-requires
broken_word-requires c = within c.args.image.now c.args.rule 6 c.in-6.is (omega arith) c.requires.kept

pub broken_word-requires-in-7 : goal.broken_word-requires-in-7
broken_word-requires-in-7 c = within c.args.image.now c.args.rule 7 c.in-7.is (omega arith) c.requires.kept

pub broken_word-requires-in-8 : goal.broken_word-requires-in-8
broken_word-requires-in-8 c = within c.args.image.now c.args.rule 8 c.in-8.is (omega arith) c.requires.kept

pub returns-in-1 : goal.returns-in-1
returns-in-1 c = of_rule c.args.image.now c.args.rule 1 c.wrong_header.result c.in-1.is (first_header _ _ c.wrong_header.result c.wrong_header.ensures)

pub returns-in-2 : goal.returns-in-2
returns-in-2 c = of_rule c.args.image.now c.args.rule 2 c.wrong_version.result c.in-2.is (first_versions _ _ c.wrong_version.result c.wrong_version.ensures)

pub returns-in-3 : goal.returns-in-3
returns-in-3 c = of_rule c.args.image.now c.args.rule 3 c.leads_out.result c.in-3.is (first_out _ _ c.leads_out.result c.leads_out.ensures)

pub returns-in-4 : goal.returns-in-4
returns-in-4 c = of_rule c.args.image.now c.args.rule 4 c.leads_back.result c.in-4.is (first_back _ _ c.leads_back.result c.leads_back.ensures)

pub returns-in-5 : goal.returns-in-5
returns-in-5 c = of_rule c.args.image.now c.args.rule 5 c.wrong_anchor.result c.in-5.is (first_anchors _ _ c.wrong_anchor.result c.wrong_anchor.ensures)

pub returns-in-6 : goal.returns-in-6
returns-in-6 c = of_rule c.args.image.now c.args.rule 6 c.broken_word.result c.in-6.is (first_names _ _ c.broken_word.result c.broken_word.ensures)

pub returns-in-7 : goal.returns-in-7
returns-in-7 c = of_rule c.args.image.now c.args.rule 7 c.broken_word-in-7.result c.in-7.is (first_prints _ _ c.broken_word-in-7.result c.broken_word-in-7.ensures)

pub returns-in-8 : goal.returns-in-8
returns-in-8 c = of_rule c.args.image.now c.args.rule 8 c.broken_word-in-8.result c.in-8.is (first_apart _ _ c.broken_word-in-8.result c.broken_word-in-8.ensures)

pub returns-in_default : goal.returns-in_default
returns-in_default c =
    let last : c.args.rule ≡ 9 = omega arith in
    of_rule c.args.image.now c.args.rule 9 c.wrong_line.result last (first_lines _ _ c.wrong_line.result c.wrong_line.ensures)
