use Rattle.std.proofs.Common.{◌∙◌, Some}
use Rattle.transcript.specs.Spans.{as_interval}
use Rattle.transcript.proofs.OrderLemmas.{parts_took}
use Rattle.transcript.proofs.order.taken_by.Goals as goal

pub returns : goal.returns
returns c =
    (λ i. Some (as_interval (record { start = c.from.ensures i; end = c.from-2.ensures i })))
    ∙ parts_took c.args.parts.now c.in_ok-first.field-0.now c.in_ok-last.field-0.now c.in_ok-first.ensures.item.3.0 c.in_ok-first.ensures.item.1 c.in_ok-last.ensures.item.1
