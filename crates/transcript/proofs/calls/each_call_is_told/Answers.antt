use Rattle.std.proofs.Common.{◌∙◌, sym, subst, List}
use Rattle.std.specs.List.Sorted.{IsPermutation}
use Rattle.transcript.specs.declared.calls.NumberedCall.{NumberedCall}
use Rattle.transcript.proofs.KeyLemmas.{each_is_told}
use Rattle.transcript.proofs.calls.each_call_is_told.Goals as goal

pub returns : goal.returns
returns c =
    let moved = λ (from : List NumberedCall) (to : List NumberedCall). IsPermutation from to in
    let told = each_is_told c.args.asked.now c.args.told.now c.in_order-calls.result.items c.in_order-records.result.items
    (subst (λ (from : List NumberedCall). IsPermutation from c.in_order-calls.result.items) c.in_ok-numbered.ensures c.in_order-calls.ensures.same) c.in_order-calls.ensures.rising
    (subst (λ (from : List NumberedCall). IsPermutation from c.in_order-records.result.items) c.in_ok-calls_told.ensures c.in_order-records.ensures.same) c.in_order-records.ensures.rising in (
      λ yes. told.0 (sym c.deref.ensures.value ∙ c.same_calls.ensures.0 yes ∙ c.deref-2.ensures.value),
      λ each. c.same_calls.ensures.1 (c.deref.ensures.value ∙ told.1 each ∙ sym c.deref-2.ensures.value),
    )
