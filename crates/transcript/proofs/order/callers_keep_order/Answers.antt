use Rattle.std.proofs.Common.{◌≡◌, ◌∙◌, ◌↔◌, ◌≤◌, List, All, length, sym, subst}
use Rattle.std.specs.Prelude.{IsTrue}
use Rattle.std.proofs.lemmas.Bool.{false≢true}
use Rattle.transcript.specs.Spans.{spans_of, FollowEachOther}
use Rattle.transcript.specs.declared.spans.Span.{Span}
use Rattle.transcript.proofs.SpanLemmas.{apart_so}
use Rattle.transcript.proofs.OrderLemmas.{spans_apart, keeps_order, order_kept}
use Rattle.transcript.proofs.order.callers_keep_order.Goals as goal

pub returns-then-not-end_within : goal.returns-then-not-end_within
returns-then-not-end_within c =
    let told = c.args.told.now in
    let writes = c.args.writes.now in
    let spans : c.deref.result.now ≡ spans_of told = c.deref.ensures.value ∙ c.in_ok-spans.ensures in (
      λ no. absurd (false≢true no),
      λ keeps. absurd (false≢true (sym c.if-not-end_within.true ∙ c.end_within.ensures.1 (subst (All (λ (s : Span). s.end ≤ length writes)) (sym spans) (order_kept told writes keeps).0))),
    )

pub follow_each_other-requires : goal.follow_each_other-requires
follow_each_other-requires c = apart_so c.in_ok-spans.ensures (spans_apart c.args.told.now c.requires)

pub returns : goal.returns
returns c =
    let told = c.args.told.now in
    let writes = c.args.writes.now in
    let spans : c.deref.result.now ≡ spans_of told = c.deref.ensures.value ∙ c.in_ok-spans.ensures in
    let ends : All (λ (s : Span). s.end ≤ length writes) (spans_of told) = subst (All (λ (s : Span). s.end ≤ length writes)) spans (c.end_within.ensures.0 c.if-not-end_within.false) in
    let follow : IsTrue c.follow_each_other.result ↔ FollowEachOther (spans_of told) =
    subst (λ (s : List Span). IsTrue c.follow_each_other.result ↔ FollowEachOther s) c.in_ok-spans.ensures c.follow_each_other.ensures in (
      λ yes. keeps_order told writes ends (follow.0 yes),
      λ keeps. follow.1 (order_kept told writes keeps).1,
    )
