use Rattle.std.proofs.Common.{refl, inl, inr, sym, ◌∙◌}
use Rattle.pac_index.specs.Callers.{pins_of, seen_by}
use Rattle.pac_index.proofs.Budgeting.{pays_nothing, pays_then}
use Rattle.pac_index.proofs.Repeating.{back_self, none_held, turn_again, turn_ends_so, turn_rests, none_else}
use Rattle.pac_index.proofs.shared.Shared.turn_at_pace.Goals as goal

pub loop-init : goal.loop-init
loop-init g c =
    let old = c.args.caller.now in (
      c.requires.caller,
      refl,
      (refl, refl, refl),
      none_held (seen_by old),
      back_self (seen_by old),
      refl,
      inl refl,
      pays_nothing old.left (seen_by old).taken,
    )

pub loop-preserved : goal.loop-preserved
loop-preserved g c =
    let old = c.args.caller.now in
    let before = c.loop.caller in
    let after = c.try_turn.new.caller in
    let on = c.try_turn.ensures in
    let same = c.loop.invariant.2 in
    let none = sym c.ended.ensures ∙ none_else c.ended.result c.in_default.not-Some in
    let again = turn_again c.args.self.now.epochs.parties (seen_by old) (pins_of old) before after c.try_turn.result c.loop.invariant.3 c.loop.invariant.4 c.loop.invariant.5 none on.told in (
      on.stays.0,
      on.stays.1 ∙ c.loop.invariant.1,
      (on.same.0 ∙ same.0, on.same.1 ∙ same.1, on.same.2 ∙ same.2),
      again.0,
      again.1,
      again.2,
      inr (turn_rests after c.try_turn.result none on.rests),
      pays_then old.left before.left after.left (seen_by old).taken (seen_by before).taken (seen_by after).taken c.loop.invariant.7 on.paid,
    )

pub returns-in-Some-ended-clause-done : goal.returns-in-Some-ended-clause-done
returns-in-Some-ended-clause-done g c =
    let on = c.try_turn.ensures in
    turn_ends_so c.args.self.now.epochs.parties c.args.caller.now c.loop.caller c.try_turn.new.caller c.try_turn.result c.in-Some-ended.ended c.loop.invariant.6 c.loop.invariant.3 c.loop.invariant.4 c.loop.invariant.5 (sym c.ended.ensures ∙ c.in-Some-ended.is) on.told on.rests
