use Rattle.std.proofs.Common.{length, sym, subst}
use Rattle.pac_index.specs.Callers.{AreAtRest, HasCallers}
use Rattle.thread_trial.proofs.crowd.meet.Goals as goal

pub close-requires-clause-rests : goal.close-requires-clause-rests
close-requires-clause-rests g c =
    let s = c.in_ok-shared.shared in
    let n = length c.in_ok-shared.callers.items in
    let here = c.as_slice.ensures.value in
    subst AreAtRest here (c.have_steps.ensures.rests c.if-not-have_steps.false s n (subst (HasCallers s n) (sym here) c.in_ok-callers.ensures))
