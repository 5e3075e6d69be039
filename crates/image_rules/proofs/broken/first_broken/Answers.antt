use Rattle.std.proofs.Common.{◌<◌, refl, arith}
use Rattle.image_rules.proofs.FirstLemmas.{kept_none, kept_more, kept_all, answer_some}
use Rattle.image_rules.proofs.broken.first_broken.Goals as goal

pub loop-rule-init : goal.loop-rule-init
loop-rule-init c = kept_none c.args.image.now.layout c.args.image.now.words

pub broken_at-requires-clause-kept : goal.broken_at-requires-clause-kept
broken_at-requires-clause-kept c = c.loop-rule.invariant

pub returns-in-Some : goal.returns-in-Some
returns-in-Some c =
    let answer = answer_some c.args.image.now.layout c.args.image.now.words _ (record { no_lower_rule = c.loop-rule.invariant; first = c.in-Some.ensures }) in
    record { none = answer.none; some = answer.some }

pub loop-rule-preserved : goal.loop-rule-preserved
loop-rule-preserved c = kept_more c.args.image.now.layout c.args.image.now.words c.loop-rule.rule c.loop-rule.invariant c.in_default.ensures

pub returns-clause-none : goal.returns-clause-none
returns-clause-none c =
    let past : 9 < c.loop-rule.rule = omega arith in
    (λ _. kept_all c.args.image.now.layout c.args.image.now.words c.loop-rule.rule past c.loop-rule.invariant, λ _. refl)
