use Rattle.std.proofs.Common.{◌≤◌, ◌∙◌, sym, ℕ, Bool, inl, inr, refl, ap, subst, arith}
use Rattle.index_core.specs.PartyStates.{next_index}
use Rattle.pac_index.specs.Callers.{seen_by}
use Rattle.pac_index.specs.Writes.{TurnedForRoom}
use Rattle.pac_index.proofs.Budgeting.{pays_nothing, pays_then}
use Rattle.pac_index.proofs.Writing.{Writing, writing_begins, writing_back, writing_turned, found_full, spare_ends, write_ends}
use Rattle.pac_index.proofs.shared.Shared.write.Goals as goal
use Rattle.pac_index.proofs.shared.Shared.write.Goals.{in-Back, in-NoRoom+else-none_free}

pub loop-init : goal.loop-init
loop-init g c =
    let old = c.args.caller.now in (
      c.requires.may.0,
      refl,
      omega arith,
      writing_begins c.args.call old.index (seen_by old),
      inl refl,
      pays_nothing old.left (seen_by old).taken,
    )

pub returns-in-Ended-clause-ends : goal.returns-in-Ended-clause-ends
returns-in-Ended-clause-ends g c =
    write_ends c.args.self.now.epochs.parties c.args.call c.loop.turns c.args.caller.now c.loop.caller c.try_to_write.new.caller c.loop.invariant.3 c.in-Ended.ended c.loop.invariant.4 c.loop.invariant.1 c.loop.invariant.2 c.in-Ended.ensures.tried

pub returns-in-Ended-clause-spare : goal.returns-in-Ended-clause-spare
returns-in-Ended-clause-spare g c =
    spare_ends c.args.self.now.epochs.parties c.in-Ended.ended c.args.call c.args.caller.now c.loop.caller c.try_to_write.new.caller c.loop.invariant.1 c.loop.invariant.3.index c.loop.invariant.2 c.in-Ended.ensures.tried

pub returns-in-Ended-clause-paid : goal.returns-in-Ended-clause-paid
returns-in-Ended-clause-paid g c =
    let old = c.args.caller.now in
    let before = c.loop.caller in
    let now = c.try_to_write.new.caller in
    pays_then old.left before.left now.left (seen_by old).taken (seen_by before).taken (seen_by now).taken c.loop.invariant.5 c.try_to_write.ensures.paid

pub returns-then-turns-ge-TURNS_FOR_ROOM-clause-ends : goal.returns-then-turns-ge-TURNS_FOR_ROOM-clause-ends
returns-then-turns-ge-TURNS_FOR_ROOM-clause-ends g c =
    let old = c.args.caller.now in
    let v = seen_by c.loop.caller in
    let w = seen_by c.try_to_write.new.caller in
    let turns = c.loop.turns in
    let more = c.saturating_add-turns.ensures in
    let reached = c.if-turns-ge-TURNS_FOR_ROOM.true in
    let enough : 3 ≤ turns = omega arith in
    let on = c.in-NoRoom.ensures.tried in
    let last = subst (λ (b : Bool). TurnedForRoom c.args.call c.loop.caller.index b v w) c.if-none_free.true on.room in
    record {
      rests = on.rests;
      index = c.saturating_add-caller.ensures ∙ ap next_index (on.index ∙ c.loop.invariant.3.index);
      ends = found_full c.args.call old.index turns c.loop.caller.index (seen_by old) v w c.loop.invariant.3 enough last;
    }

pub returns-then-turns-ge-TURNS_FOR_ROOM-clause-paid : goal.returns-then-turns-ge-TURNS_FOR_ROOM-clause-paid
returns-then-turns-ge-TURNS_FOR_ROOM-clause-paid g c =
    let old = c.args.caller.now in
    let before = c.loop.caller in
    let now = c.try_to_write.new.caller in
    pays_then old.left before.left now.left (seen_by old).taken (seen_by before).taken (seen_by now).taken c.loop.invariant.5 c.try_to_write.ensures.paid

pub loop-preserved : goal.loop-preserved
loop-preserved g c =
    let old = c.args.caller.now in
    let before = c.loop.caller in
    let now = c.try_to_write.new.caller in
    let so = c.loop.invariant.3 in
    let on = c.try_to_write.ensures in
    let pays = pays_then old.left before.left now.left (seen_by old).taken (seen_by before).taken (seen_by now).taken c.loop.invariant.5 on.paid in
    elim c.match-try_to_write.branch [
      | in-Back w ↦ (
        on.stays.0,
        on.stays.1 ∙ c.loop.invariant.1,
        (let was = c.loop.invariant.2 in let more = w.in-Back.ensures.tried.spare in omega arith),
        subst (λ (t : ℕ). Writing c.args.call old.index t (seen_by old) now.index (seen_by now)) (sym w.turns-is) (writing_back c.args.call old.index (seen_by old) c.loop.turns before.index now.index (seen_by before) (seen_by now) so w.in-Back.ensures.tried.index w.in-Back.ensures.tried.back),
        inr w.in-Back.ensures.tried.rests,
        pays,
      )
      | in-NoRoom+else-none_free w ↦ (
        on.stays.0,
        on.stays.1 ∙ c.loop.invariant.1,
        (let was = c.loop.invariant.2 in let more = w.in-NoRoom.ensures.tried.spare in omega arith),
        (let more = w.saturating_add-turns.ensures in
            let is = w.turns-is in
            writing_turned c.args.call old.index (seen_by old) c.loop.turns c.match-try_to_write.turns before.index now.index w.in-NoRoom.none_free (seen_by before) (seen_by now) so w.in-NoRoom.ensures.tried.index w.in-NoRoom.ensures.tried.room (omega arith)),
        inr w.in-NoRoom.ensures.tried.rests,
        pays,
      )
    ]
