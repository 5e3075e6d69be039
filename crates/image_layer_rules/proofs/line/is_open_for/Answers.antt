use Rattle.std.proofs.Common.{◌∙◌, ◌*◌, ◌<◌, ap, sym, refl, inl, inr, arith}
use Rattle.std.proofs.lemmas.Bool.{cases_lt, false≢true}
use Rattle.pm_words.specs.Offsets.{state_offset}
use Rattle.layer_map.specs.Keys.{key_number}
use Rattle.image_layer_rules.proofs.LineLemmas.{line_word-here, line_word-outside, line_key-here}
use Rattle.image_layer_rules.proofs.line.is_open_for.Goals as goal

pub returns-then-is_same : goal.returns-then-is_same
returns-then-is_same c =
    let l = c.args.image.now.layout in
    let image = c.args.image.now.words in
    let line = c.loop-line.line in
    let count = c.line_count-line-end.ensures.count in
    let here : line < 8 * l.callers = omega (arith, c.loop-line-test.true) in (
      λ is. record {
        line = line;
        state = λ empty. c.if-line_word-ne-EMPTY.true (c.line_word.ensures ∙ sym (line_word-here l image line state_offset here (omega arith)) ∙ empty);
        anchor = line_key-here l image line here ∙ sym (ap key_number c.line_anchor.ensures) ∙ c.is_same.ensures.0 c.if-is_same.true;
      },
      λ is. refl,
    )

pub returns : goal.returns
returns c =
    let l = c.args.image.now.layout in
    let image = c.args.image.now.words in
    let count = c.line_count-line-end.ensures.count in (
      λ no. absurd (false≢true no),
      λ is. absurd (elim (cases_lt is.line (8 * l.callers)) as (λ _. ⊥) [
        | inl within ↦ c.loop-line.invariant is.line (omega arith)
            (λ empty. is.state (line_word-here l image is.line state_offset within (omega arith) ∙ empty), sym (line_key-here l image is.line within) ∙ is.anchor)
        | inr past ↦ is.state (line_word-outside l image is.line state_offset past)
      ]),
    )
