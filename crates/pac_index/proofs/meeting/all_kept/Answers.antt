use Rattle.std.proofs.Common.{◌≡◌, ◌++◌, length, get_or, sym, ap, ◌∙◌, arith}
use Rattle.pac_index.specs.declared.caller.Caller.{Caller}
use Rattle.pac_index.specs.Callers.{kept_by}
use Rattle.pac_index.proofs.Gathered.{kept_more, take_all}
use Rattle.pac_index.proofs.meeting.all_kept.Goals as goal

pub loop-number-preserved : goal.loop-number-preserved
loop-number-preserved c =
    let cs = c.args.callers.now in
    let n = c.loop-number.number in
    let d : Caller = get_or cs n c.index-callers-number.result in
    c.in_ok-extend_from_slice.ensures.items ∙ (λ k. c.loop-number.invariant k ++ c.as_slice.ensures.value k) ∙ sym (kept_more cs n d c.index-callers-number.result c.loop-number-test.true (λ k. d))

pub returns : goal.returns
returns c =
    let done : length c.args.callers.now ≡ c.loop-number.number = omega (arith, c.loop-number-test.false, c.loop-number.auto.number-end) in
    c.loop-number.invariant ∙ ap kept_by (take_all c.args.callers.now c.loop-number.number done)
