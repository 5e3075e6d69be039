use Rattle.std.proofs.Common.{◌≡◌, ℕ, [], length, sym, ap, ◌∙◌}
use Rattle.std.specs.Prelude.{◌==◌}
use Rattle.std.proofs.lemmas.Bool.{eqb-true, false≢true}
use Rattle.std.proofs.lemmas.List.{nil_from_length}
use Rattle.std.proofs.lemmas.Result.{IfOk-weaker}
use Rattle.crowd_rounds.proofs.Segmenting.{none-plain}
use Rattle.crowd_rounds.proofs.playing.play_plain.Goals as goal

pub returns-then-is_empty : goal.returns-then-is_empty
returns-then-is_empty c =
    let none : c.args.plans.now ≡ [] = nil_from_length c.args.plans.now (eqb-true (length c.args.plans.now) 0 (sym c.is_empty.ensures ∙ c.if-is_empty.true)) in
    none-plain c.requires.opened.0 c.args.core c.args.plans.now c.new.result.items c.requires.opened.1 none c.new.ensures.items

pub returns : goal.returns
returns c =
    IfOk-weaker c.play_lone.result _ _
    (λ done lone. record { played = lone.played; leaves = lone.leaves; still = λ none. absurd (false≢true (c.if-is_empty.ensures {u = tt} ∙ ap (λ (n : ℕ). n == 0) none)) })
    c.play_lone.ensures

pub play_lone-requires : goal.play_lone-requires
play_lone-requires c = record { opened = c.requires.opened; playable = c.requires.playable }
