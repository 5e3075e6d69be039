use Rattle.std.proofs.Common.{◌≡◌, ℕ, ◌+◌, cond, length, sym, ap, ◌∙◌, subst, arith}
use Rattle.cat_history.specs.LoneRounds.{write_of}
use Rattle.cat_history.specs.declared.record.Record.{Record}
use Rattle.stopped_rounds.specs.Replies.{Replies}
use Rattle.stopped_rounds.proofs.Stopping.{recorded, stopping-call, stopped-whole, one_at_most, added-push, told-push}
use Rattle.stopped_rounds.proofs.Timing.{begins_with, begins_without, in_time-next}
use Rattle.stopped_rounds.proofs.crash_round.run_crash_round.Goals.{then-is_placed_write, else-is_placed_write}
use Rattle.stopped_rounds.proofs.crash_round.run_crash_round.Goals as goal

pub loop-index-preserved : goal.loop-index-preserved
loop-index-preserved g c =
    let M = g.M.BoundedMap in
    let was = c.loop-index.invariant in
    let index = c.loop-index.index in
    let call = c.index-asked-index.result in
    let reply = c.in_ok-reply.reply in
    let r : Record = recorded index call reply in
    let counted : c.if-is_placed_write.writes ≡ c.loop-index.writes + length (write_of r) =
    elim c.if-is_placed_write.branch [
      | then-is_placed_write w ↦ omega (arith, w.writes-is, c.is_placed_write.ensures.write, ap {B = ℕ} (λ b. cond b 1 0) w.if-is_placed_write.true)
      | else-is_placed_write w ↦ omega (arith, w.writes-is, c.is_placed_write.ensures.write, ap {B = ℕ} (λ b. cond b 1 0) w.if-is_placed_write.false)
    ] in
    let told : Replies (M.slots c.args.map.now) (M.most c.args.map.now) c.args.plan.now.limit (M.state c.loop-index.map) c.loop-index.writes call.op c.loop-index.left reply c.reply_to.new.budget (M.state c.reply_to.new.map) =
    subst (λ (q : ℕ × ℕ). Replies q.0 q.1 c.args.plan.now.limit (M.state c.loop-index.map) c.loop-index.writes call.op c.loop-index.left reply c.reply_to.new.budget (M.state c.reply_to.new.map)) (λ k. (was.slots_stay k, was.most_stays k)) c.in_ok-reply.ensures.reply in
    let turn = c.turn_if_due.ensures in
    record {
      stopping = stopping-call (M.slots c.args.map.now) (M.most c.args.map.now) c.args.plan.now.limit c.args.budget c.loop-index.left c.reply_to.new.budget c.loop-index.writes c.if-is_placed_write.writes c.requires.caller.0
          (M.state c.args.map.now) c.args.plan.now.ops c.as_slice-asked.result.now index c.loop-index.records.items c.push_reserved.new.self.items (M.state c.loop-index.map) (M.state c.reply_to.new.map) (M.state c.turn_if_due.new.map) call reply
          was.stopping c.requires.caller.1 c.as_slice-asked.ensures c.loop-index-test.true c.index-asked-index.is counted told turn.same c.push_reserved.ensures.items;
      few = omega (arith, counted, was.few, one_at_most c.is_placed_write.result (length (write_of r)) c.is_placed_write.ensures.write);
      slots_stay = turn.slots ∙ c.reply_to.ensures.slots ∙ was.slots_stay;
      most_stays = turn.most ∙ c.reply_to.ensures.most ∙ was.most_stays;
      calls = omega (arith, was.calls, was.most_stays, c.reply_to.ensures.calls_left, turn.calls_left);
      writes_left = omega (arith, was.writes_left, c.reply_to.ensures.writes_left, turn.writes_left);
      weighs_so = rw c.push_reserved.ensures.items (let added = added-push c.loop-index.records.items r in omega (arith, was.weighs_so, c.in_ok-reply.ensures.weighs, turn.weighs, added));
      told = rw c.push_reserved.ensures.items (told-push c.args.plan.now.ops c.as_slice-asked.result.now index call reply c.loop-index.records.items c.requires.told c.as_slice-asked.ensures c.loop-index-test.true c.index-asked-index.is c.in_ok-reply.ensures.told was.told);
      in_time = λ some named begins.
          in_time-next M.call_events c.args.budget c.loop-index.left c.reply_to.new.budget c.args.plan.now.ops c.as_slice-asked.result.now index c.args.plan.now.updater M.calls_between M.turn_events c.loop-index.updater_left c.turn_if_due.new.budget call
          c.loop-index.records.items c.push_reserved.new.self.items r (M.has_room c.loop-index.map) (M.has_room c.reply_to.new.map) (M.has_room c.turn_if_due.new.map) (M.turnless c.loop-index.map) (M.turnless c.reply_to.new.map) (M.turnless c.turn_if_due.new.map)
          some named c.as_slice-asked.ensures c.loop-index-test.true c.index-asked-index.is (omega (arith, was.made, c.loop-index.records.ok)) c.push_reserved.ensures.items (was.in_time some named begins)
          (record {
            replies = c.in_ok-reply.ensures.in_time;
            rooms = c.in_ok-reply.ensures.room;
            none = λ none.
                let still = turn.none none in
                ((λ asked holds. subst (λ m. M.turnless m asked) (sym still.0) holds), (λ asked has. subst (λ m. M.has_room m asked) (sym still.0) has), still.1);
            due = turn.due;
          });
      made = c.push_reserved.ensures.len ∙ omega (arith, was.made);
      reserved = omega (arith, was.reserved, c.push_reserved.ensures.capacity);
    }

pub returns-clause-stopped : goal.returns-clause-stopped
returns-clause-stopped g c =
    let M = g.M.BoundedMap in
    stopped-whole (M.slots c.args.map.now) (M.most c.args.map.now) c.args.plan.now.limit c.args.budget c.loop-index.left c.loop-index.writes (M.state c.args.map.now) c.args.plan.now.ops c.as_slice-asked.result.now c.loop-index.index
    c.loop-index.records.items c.of.result (M.state c.loop-index.map) c.loop-index.invariant.stopping c.as_slice-asked.ensures (omega (arith, c.loop-index-test.false)) c.of.ensures

pub returns-clause-placed : goal.returns-clause-placed
returns-clause-placed g c = rw c.of.ensures c.loop-index.invariant.stopping.placed

pub returns-clause-told : goal.returns-clause-told
returns-clause-told g c = rw c.of.ensures c.loop-index.invariant.told

pub returns-clause-weighs : goal.returns-clause-weighs
returns-clause-weighs g c = rw c.of.ensures c.loop-index.invariant.weighs_so

pub returns-clause-in_time : goal.returns-clause-in_time
returns-clause-in_time g c = λ some turnless named none.
    let M = g.M.BoundedMap in
    let plan = c.args.plan.now in
    rw c.of.ensures (c.loop-index.invariant.in_time some named (begins_without plan.ops plan.updater M.calls_between M.turn_events c.args.updater_budget (M.has_room c.args.map.now) (M.turnless c.args.map.now) none turnless)).0

pub returns-clause-in_time_with_turns : goal.returns-clause-in_time_with_turns
returns-clause-in_time_with_turns g c = λ some room turnless named timely.
    let M = g.M.BoundedMap in
    let plan = c.args.plan.now in
    rw c.of.ensures (c.loop-index.invariant.in_time some named (begins_with plan.ops plan.updater M.calls_between M.turn_events c.args.updater_budget (M.has_room c.args.map.now) (M.turnless c.args.map.now) timely room turnless)).0
