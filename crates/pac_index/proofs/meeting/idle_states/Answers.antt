use Rattle.std.proofs.Common.{◌+◌, ◌≤◌, length, refl, sym, ap, ◌∙◌, subst}
use Rattle.index_core.specs.MachineLaws.{AreIdle}
use Rattle.pac_index.proofs.Gathered.{idle_more}
use Rattle.pac_index.proofs.meeting.idle_states.Goals as goal

pub loop-number-preserved : goal.loop-number-preserved
loop-number-preserved c =
    let inv = c.loop-number.invariant in
    let pushed = c.push_reserved.ensures in (
      subst (λ es. AreIdle es (c.loop-number.number + 1)) (sym pushed.items) (idle_more c.loop-number.states.items c.loop-number.number _ inv.0 refl c.idle.ensures refl refl refl),
      pushed.len ∙ ap (λ n. n + 1) inv.1,
      subst (λ n. length c.args.callers.now ≤ n) (sym pushed.capacity) inv.2,
    )
