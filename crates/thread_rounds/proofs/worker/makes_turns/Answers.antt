use Rattle.std.proofs.Common.{sym, ap, ◌∙◌, subst}
use Rattle.pac_index.specs.declared.caller.Caller.{Caller}
use Rattle.pac_index.specs.Callers.{seen_by}
use Rattle.pac_index.specs.Ends.{HasOnlyRead}
use Rattle.pac_index.proofs.Remaining.{stays_unbounded, unbounded_rests}
use Rattle.pac_index.proofs.Repeating.{back_self}
use Rattle.thread_rounds.proofs.Turning.{turns-on}
use Rattle.thread_rounds.proofs.worker.makes_turns.Goals as goal

pub loop-turn-preserved : goal.loop-turn-preserved
loop-turn-preserved g c =
    let before = c.loop-turn.invariant in
    let turned = c.turn_at_gate.ensures in (
      turned.stays.0,
      turned.stays.1 ∙ before.1,
      turns-on c.args.shared.now.epochs.parties c.turn_at_gate.result (seen_by c.args.caller) c.loop-turn.caller c.turn_at_gate.new.caller before.2 turned.told,
      turned.same.2 ∙ before.3,
      λ joined. stays_unbounded c.loop-turn.caller.left c.turn_at_gate.new.caller.left (seen_by c.loop-turn.caller).taken (seen_by c.turn_at_gate.new.caller).taken turned.paid (before.4 joined),
    )

pub loop-turn-init : goal.loop-turn-init
loop-turn-init g c =
    let left = c.bound.ensures.left in (
      c.bound.ensures.caller c.args.shared.now c.requires.caller,
      ap (λ (k : Caller). k.number) left,
      subst (HasOnlyRead (seen_by c.args.caller)) (sym (ap seen_by left)) (back_self (seen_by c.args.caller)),
      ap (λ (k : Caller). k.cut) left ∙ c.requires.new.rests.2,
      λ joined. ap (λ (k : Caller). k.left) left ∙ c.updater_budget.ensures joined,
    )

pub returns : goal.returns
returns g c =
    let turned = c.loop-turn.invariant in
    record {
      stays = (turned.0, turned.1);
      read = turned.2;
      uncut = turned.3;
      rests = λ joined. unbounded_rests c.args.shared.now c.loop-turn.caller turned.0 (turned.4 joined);
    }
