use Rattle.std.proofs.Common.{◌≡◌, ◌∙◌, refl, sym, get_or, arith}
use Rattle.std.proofs.lemmas.Bool.{false≢true}
use Rattle.transcript.specs.declared.spans.Span.{Span}
use Rattle.transcript.proofs.SpanLemmas.{before, before_same, before_other, follow_is, follow_here, follow_none}
use Rattle.transcript.proofs.spans.follow.Goals as goal
use Rattle.transcript.proofs.spans.follow.Goals.{then-span-caller, else-span-caller}

pub returns-then-span-before : goal.returns-then-span-before
returns-then-span-before c =
    let spans = c.args.spans.now in
    let caller = c.loop-span.caller in
    let latest = c.loop-span.latest in
    let none : Span = record { caller = 0; index = 0; start = 0; end = 0 } in
    let span : Span = get_or spans c.loop-span.span-index none in
    let is : c.if-span-caller.before ≡ before caller latest span = elim c.if-span-caller.branch [
      | then-span-caller w ↦ w.before-is ∙ sym (before_same caller latest span w.if-span-caller.true)
      | else-span-caller w ↦ w.before-is ∙ sym (before_other caller latest span w.if-span-caller.false)
    ] in (
      λ no. absurd (false≢true no),
      λ each.
          let here = follow_here caller latest spans c.loop-span.span-index none c.loop-span-test.true (c.loop-span.invariant.1 ((follow_is spans c.requires).1 each)) in
          absurd (omega (arith, here, is, c.if-span-before.true)),
    )

pub returns : goal.returns
returns c =
    let spans = c.args.spans.now in (
      λ _. (follow_is spans c.requires).0 (c.loop-span.invariant.0 (follow_none c.loop-span.caller c.loop-span.latest spans c.loop-span.span-index c.loop-span-test.false)),
      λ _. refl,
    )
