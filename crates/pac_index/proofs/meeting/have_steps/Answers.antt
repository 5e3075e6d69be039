use Rattle.std.proofs.Common.{◌≡◌, ◌≢◌, ◌<◌, ⊎_elim, length, sym, ap, ◌∙◌, subst, arith}
use Rattle.std.specs.Prelude.{Some}
use lib.ListN.{get_elem?}
use Rattle.index_core.proofs.Lists.{within}
use Rattle.pac_index.specs.declared.caller.Caller.{Caller}
use Rattle.pac_index.proofs.Gathered.{got_at, got_is, last_or_before, or_is}
use Rattle.pac_index.proofs.Remaining.{has_step}
use Rattle.pac_index.proofs.meeting.have_steps.Goals as goal

pub loop-number-preserved : goal.loop-number-preserved
loop-number-preserved c i d less at =
    let cs = c.args.callers.now in
    let n = c.loop-number.number in
    ⊎_elim
    (λ (before : i < n). c.loop-number.invariant i d before at)
    (λ (here : i ≡ n). subst (λ (e : Caller). e.left ≢ Some 0) (c.index-callers-number.is ∙ or_is cs n d c.index-callers-number.result (ap (get_elem? cs) (sym here) ∙ at)) c.if-is_spent.ensures)
    (last_or_before i n less)

pub returns-then-is_spent-clause-steps : goal.returns-then-is_spent-clause-steps
returns-then-is_spent-clause-steps c =
    let cs = c.args.callers.now in
    let n = c.loop-number.number in
    let d = c.index-callers-number.result in
    let got = got_is cs n c.loop-number-test.true in
    let at = got_at cs n got.0 got.1 in
    let same : d ≡ got.0 = c.index-callers-number.is ∙ or_is cs n got.0 d at in
    (n, got.0, at, subst (λ (e : Caller). e.left ≡ Some 0) same c.if-is_spent.ensures)

pub returns-clause-steps : goal.returns-clause-steps
returns-clause-steps c i d at =
    let inside = within c.args.callers.now i d at in
    let done : length c.args.callers.now ≡ c.loop-number.number = omega (arith, c.loop-number-test.false, c.loop-number.auto.number-end) in
    c.loop-number.invariant i d (omega arith) at

pub returns-clause-rests : goal.returns-clause-rests
returns-clause-rests c spare s n has i d at =
    let cs = c.args.callers.now in
    let inside = within cs i d at in
    let done : length cs ≡ c.loop-number.number = omega (arith, c.loop-number-test.false, c.loop-number.auto.number-end) in
    has_step s d (has.each i d at) (c.loop-number.invariant i d (omega arith) at)
