use Rattle.std.proofs.Common.{◌≡◌, ℕ, ◌+◌, ◌*◌, ◌<◌, ◌≤◌, ◌↔◌, cond, List, [], ◌∷◌, ◌++◌, length, get_or, take, map, All, refl, ap, subst, ◌∙◌, sym, arith, length-append}
use Rattle.std.specs.FinMap.{len}
use Rattle.cat_history.specs.LoneRounds.{write_of, writes_of, IsAnswerNow, IsSpent}
use Rattle.cat_history.specs.Records.{call_of, numbered}
use Rattle.cat_history.specs.Rounds.{IsWriter}
use Rattle.core_rounds.specs.LoneCalls.{AreReportCalls}
use Rattle.cat_history.specs.declared.op.CallerOp.{CallerOp}
use Rattle.cat_history.specs.declared.record.Record.{Record}
use Rattle.cat_history.specs.declared.record.Reply.TheVariants.{Full}
use Rattle.core_rounds.specs.Rounds.{IsPlayedSoFar, IsTurnDue}
use Rattle.cat_history.proofs.LoneRoundLemmas.{lone_rounds_are_legal}
use Rattle.cat_text.proofs.LoneReports.{lone_stand}
use Rattle.shapes.specs.Runs.{Standing, opening}
use Rattle.shapes.specs.ShapeRounds.{PutsFull, anchors_after}
use Rattle.caller_rounds.proofs.Rooms.{added-append}
use Rattle.stopped_rounds.proofs.Stopping.{one_at_most, recorded}
use Rattle.core_rounds.proofs.LoneRoundSteps.{writes_of-push, calls-push, calls-whole, along-push, ends-push, full-push, stands-push, anchors-push, bounds-push, told-push, none-so-far}
use Rattle.std.proofs.lemmas.List.{take_all}
use Rattle.core_rounds.specs.Updated.{UsesUp, change_by, changes_by}
use Rattle.core_rounds.specs.Waiting.{one_change, puts_among, writes_among}
use Rattle.core_rounds.proofs.RoundWaits.{changes_in-push, waits-call}
use Rattle.core_rounds.proofs.Using.{bounds-then, calls-for-one, none-at-err, uses-call, uses-none}
use Rattle.core_rounds.proofs.CoreMaps.{on-err}
use Rattle.core_rounds.proofs.round.run_lone_round.Goals.{then-is_placed_write, else-is_placed_write}
use Rattle.core_rounds.proofs.round.run_lone_round.Goals as goal

pub returns-in_err-records-clause-err : goal.returns-in_err-records-clause-err
returns-in_err-records-clause-err g c =
    let first = g.M.UpdatedMap.state c.args.map.now in
    on-err c.from_residual.result _ (none-so-far first.slots first.most first.contents first.anchors c.args.plan.now)

pub answer-requires-clause-caller : goal.answer-requires-clause-caller
answer-requires-clause-caller g c =
    let first = g.M.UpdatedMap.state c.args.map.now in
    let call = c.index-asked-index.result in
    let each = subst (λ (ops : List CallerOp). All (λ a. a.caller < first.callers) ops) (sym c.as_slice-asked.ensures) c.requires.callers in
    subst (λ k. call.caller < k) (sym c.loop-index.invariant.uses.bounds.callers)
    (subst (λ (a : CallerOp). a.caller < first.callers) (sym c.index-asked-index.is) (each c.loop-index.index call c.loop-index-test.true))

pub loop-index-preserved : goal.loop-index-preserved
loop-index-preserved g c =
    let M = g.M.UpdatedMap in
    let was = c.loop-index.invariant in
    let asked = c.as_slice-asked.result.now in
    let same = c.as_slice-asked.ensures in
    let index = c.loop-index.index in
    let call = c.index-asked-index.result in
    let reply = c.in_ok-answer.field-0 in
    let answer = c.in_ok-answer.ensures in
    let records = c.loop-index.records.items in
    let first = M.state c.args.map.now in
    let before = M.state c.loop-index.map in
    let behind = M.state c.answer.new.map in
    let base = first.contents in
    let now = before.contents in
    let anchors = first.anchors in
    let slots = first.slots in
    let opened = opening base anchors in
    let most = first.most in
    let shape = before.anchors in
    let stay = was.uses.bounds in
    let uses = c.answer.ensures.uses in
    let stood : Standing = record { map = now; anchors = shape; place = c.loop-index.writes } in
    let r : Record = recorded index call reply in
    let grown : c.push_reserved.new.self.items ≡ records ++ r ∷ [] = c.push_reserved.ensures.items in
    let one = subst (λ (ops : List CallerOp). All (λ a. a.caller ≡ c.requires.caller.0) ops) (sym same) c.requires.caller.1 in
    let told = subst AreReportCalls (sym same) c.requires.told in
    let limit = c.args.plan.now.limit in
    let late : Type 0 = IsWriter call.op × (limit ≤ c.loop-index.writes) in
    let full = subst (λ (k : ℕ). (reply ≡ Full) ↔ ((late → ⊥) × PutsFull slots k now shape call.op)) stay.most
    (subst (λ (k : ℕ). (reply ≡ Full) ↔ ((late → ⊥) × PutsFull k before.most now shape call.op)) stay.slots answer.full) in
    let left = answer.left.anchors ∙ ap (λ (k : ℕ). anchors_after k now shape call.op reply) stay.slots in
    let counted : c.if-is_placed_write.writes ≡ c.loop-index.writes + length (write_of r) =
    elim c.if-is_placed_write.branch [
      | then-is_placed_write w ↦ omega (arith, w.writes-is, c.is_placed_write.ensures.write, ap {B = ℕ} (λ b. cond b 1 0) w.if-is_placed_write.true)
      | else-is_placed_write w ↦ omega (arith, w.writes-is, c.is_placed_write.ensures.write, ap {B = ℕ} (λ b. cond b 1 0) w.if-is_placed_write.false)
    ] in
    let stands = stands-push slots opened stood records r behind.contents behind.anchors c.if-is_placed_write.writes was.stands (answer.left.contents call.caller index) left counted in
    let calls : map call_of records ≡ numbered (take index asked) = was.played.in_script_order ∙ ap (λ (ops : List CallerOp). numbered (take index ops)) (sym same) in
    record {
      played = rw grown (record {
        answers = along-push (λ m place q. IsAnswerNow m place q.op q.reply) base now c.loop-index.writes records r was.played.answers was.played.after was.writes answer.answer;
        in_script_order = calls-push c.requires.caller.0 asked index call reply records one c.loop-index-test.true c.index-asked-index.is calls ∙ ap (λ (ops : List CallerOp). numbered (take (index + 1) ops)) same;
        spent = along-push (λ m place q. IsSpent q.reply ↔ (IsWriter q.op × (limit ≤ place))) base now c.loop-index.writes records r was.played.spent was.played.after was.writes answer.spent;
        full = full-push slots most limit opened stood records r was.played.full was.stands full;
        bounds = bounds-push slots base anchors shape records r was.played.bounds was.played.after_shape answer.bounds;
        after = ends-push base now behind.contents records r was.played.after (answer.left.contents call.caller index);
        after_shape = anchors-push slots base now anchors shape behind.anchors records r was.played.after was.played.after_shape left;
      });
      told = rw grown (told-push asked index call reply records told c.loop-index-test.true c.index-asked-index.is answer.report was.told);
      stands = rw grown stands;
      writes = rw (grown, writes_of-push) (omega (arith, counted, was.writes, length-append (writes_of records) (write_of r)));
      few = omega (arith, counted, was.few, one_at_most c.is_placed_write.result (length (write_of r)) c.is_placed_write.ensures.write);
      uses = record {
        bounds = bounds-then first before behind stay uses.bounds;
        calls_left = omega (arith, was.uses.calls_left, stay.most, uses.calls_left);
        writes_left = omega (arith, was.uses.writes_left, uses.writes_left);
      };
      weighs_so = rw grown (let one = added-append records (r ∷ []) in omega (arith, was.weighs_so, answer.left.weighs, one));
      made = c.push_reserved.ensures.len ∙ omega (arith, was.made);
      reserved = omega (arith, was.reserved, c.push_reserved.ensures.capacity);
      waits = λ none.
          waits-call (M.waits c.args.map.now) (M.waits c.loop-index.map) (M.waits c.answer.new.map) c.args.plan.now.ops index call
          (changes_by first records) (change_by before call.op reply) (changes_by first c.push_reserved.new.self.items)
          (was.waits none) (answer.waits (λ due. let turns = (c.is_turn_due-is_due.ensures.0 due).0 in omega arith))
          (subst (λ (ops : List CallerOp). index < length ops) same c.loop-index-test.true) (c.index-asked-index.is ∙ ap (λ (ops : List CallerOp). get_or ops index call) same)
          (ap (changes_by first) grown ∙ changes_in-push slots base anchors records r
          ∙ (λ k. changes_by first records + one_change (sym stay.slots k) (sym was.played.after k) (sym was.played.after_shape k) call.op reply));
      settled = λ some due. answer.settled (c.is_turn_due-is_due.ensures.1 due);
    }

pub returns-clause-played : goal.returns-clause-played
returns-clause-played g c =
    let was = c.loop-index.invariant.played in
    let ops = c.args.plan.now.ops in
    let callers = c.requires.caller.1 in
    let calls = calls-whole ops ops c.loop-index.index c.loop-index.records.items refl (omega (arith, ap length c.as_slice-asked.ensures, c.loop-index-test.false)) was.in_script_order in
    record {
      legal = rw c.of.ensures
          (lone_rounds_are_legal (g.M.UpdatedMap.state c.args.map.now).contents c.requires.caller.0 ops c.args.plan.now.limit c.loop-index.records.items callers calls was.answers was.spent);
      answers = rw c.of.ensures was.answers;
      spent = rw c.of.ensures was.spent;
      in_script_order = rw c.of.ensures calls;
      full = rw c.of.ensures was.full;
      bounds = rw c.of.ensures was.bounds;
      joined = refl;
      placed = rw c.of.ensures c.loop-index.invariant.writes;
      names = rw c.of.ensures (c.len.ensures ∙ ap len was.after);
    }

pub returns-clause-report : goal.returns-clause-report
returns-clause-report g c =
    let was = c.loop-index.invariant in
    let ops = c.args.plan.now.ops in
    let calls = calls-whole ops ops c.loop-index.index c.loop-index.records.items refl (omega (arith, ap length c.as_slice-asked.ensures, c.loop-index-test.false)) was.played.in_script_order in
    record {
      records = rw c.of.ensures was.told;
      by_caller = rw c.of.ensures (lone_stand c.requires.caller.0 ops c.loop-index.records.items c.requires.caller.1 calls);
      writes = search arith;
      names = search arith;
    }

pub returns-clause-after : goal.returns-clause-after
returns-clause-after g c =
    let was = c.loop-index.invariant in
    rw c.of.ensures (record { contents = was.played.after; anchors = was.played.after_shape; weighs = was.weighs_so })

pub returns-clause-settled : goal.returns-clause-settled
returns-clause-settled g c ends =
    let same = ap length c.as_slice-asked.ensures in
    let all : length c.args.plan.now.ops ≡ c.loop-index.index = omega (arith, same, c.loop-index-test.false) in
    c.loop-index.invariant.settled (subst (λ n. 0 < n) all ends.0) (subst (IsTurnDue c.args.plan.now.updater) all ends.1)

pub returns-clause-waits : goal.returns-clause-waits
returns-clause-waits g c none changes writes puts waits =
    let M = g.M.UpdatedMap in
    let ops = c.args.plan.now.ops in
    let all = take_all c.loop-index.index ops (omega (arith, ap length c.as_slice-asked.ensures, c.loop-index-test.false)) in
    rw c.of.ensures
    (c.loop-index.invariant.waits none changes writes puts
    (subst (λ (asked : List CallerOp). M.waits c.args.map.now changes (writes + writes_among asked) (puts + puts_among asked)) (sym all) waits))

pub answer-requires-clause-calls : goal.answer-requires-clause-calls
answer-requires-clause-calls g c =
    let all = ap length c.as_slice-asked.ensures in
    let uses = c.loop-index.invariant.uses in
    calls-for-one c.loop-index.index (length c.args.plan.now.ops) _ _ _ _ c.requires.calls (omega (arith, all, c.loop-index-test.true))
    uses.calls_left uses.bounds.most

pub answer-requires-clause-writes : goal.answer-requires-clause-writes
answer-requires-clause-writes g c =
    let all = ap length c.as_slice-asked.ensures in
    omega (arith, all, c.requires.writes, c.loop-index.invariant.uses.writes_left, c.loop-index-test.true)

pub returns-clause-uses : goal.returns-clause-uses
returns-clause-uses g c =
    let M = g.M.UpdatedMap in
    let first = M.state c.args.map.now in
    let same = ap length c.as_slice-asked.ensures in
    let all : c.loop-index.index ≡ length c.args.plan.now.ops = omega (arith, same, c.loop-index-test.false) in
    subst (λ (n : ℕ). UsesUp first (M.state c.loop-index.map) (n * first.most) n) all c.loop-index.invariant.uses

pub returns-in_err-answer-clause-uses : goal.returns-in_err-answer-clause-uses
returns-in_err-answer-clause-uses g c =
    let all = ap length c.as_slice-asked.ensures in
    uses-call _ _ _ c.loop-index.index _ (omega (arith, all, c.loop-index-test.true)) c.loop-index.invariant.uses c.answer.ensures.uses

-- the calls before it were answered
pub returns-in_err-answer-clause-err : goal.returns-in_err-answer-clause-err
returns-in_err-answer-clause-err g c =
    let M = g.M.UpdatedMap in
    let first = M.state c.args.map.now in
    let mid = M.state c.loop-index.map in
    let new = M.state c.answer.new.map in
    let same = c.in_err-answer.ensures.err in
    let So = IsPlayedSoFar first.slots first.most first.contents first.anchors c.args.plan.now c.loop-index.index c.loop-index.records.items in
    on-err c.from_residual-in_err-answer.result _ (
      c.loop-index.index,
      c.loop-index.records.items,
      subst (λ m. So m new.anchors) (sym same.contents) (subst (λ a. So mid.contents a) (sym same.anchors) c.loop-index.invariant.played),
    )

pub returns-in_err-records-clause-uses : goal.returns-in_err-records-clause-uses
returns-in_err-records-clause-uses g c = uses-none _ _ _

pub returns-in_err-answer-clause-after : goal.returns-in_err-answer-clause-after
returns-in_err-answer-clause-after g c = none-at-err c.from_residual-in_err-answer.result _ _ c.from_residual-in_err-answer.ensures.1

pub returns-in_err-answer-clause-played : goal.returns-in_err-answer-clause-played
returns-in_err-answer-clause-played g c = none-at-err c.from_residual-in_err-answer.result _ _ c.from_residual-in_err-answer.ensures.1

pub returns-in_err-answer-clause-report : goal.returns-in_err-answer-clause-report
returns-in_err-answer-clause-report g c = none-at-err c.from_residual-in_err-answer.result _ _ c.from_residual-in_err-answer.ensures.1

pub returns-in_err-answer-clause-settled : goal.returns-in_err-answer-clause-settled
returns-in_err-answer-clause-settled g c = none-at-err c.from_residual-in_err-answer.result _ _ c.from_residual-in_err-answer.ensures.1

pub returns-in_err-answer-clause-waits : goal.returns-in_err-answer-clause-waits
returns-in_err-answer-clause-waits g c = none-at-err c.from_residual-in_err-answer.result _ _ c.from_residual-in_err-answer.ensures.1

pub returns-in_err-records-clause-after : goal.returns-in_err-records-clause-after
returns-in_err-records-clause-after g c = none-at-err c.from_residual.result _ _ c.from_residual.ensures.1

pub returns-in_err-records-clause-played : goal.returns-in_err-records-clause-played
returns-in_err-records-clause-played g c = none-at-err c.from_residual.result _ _ c.from_residual.ensures.1

pub returns-in_err-records-clause-report : goal.returns-in_err-records-clause-report
returns-in_err-records-clause-report g c = none-at-err c.from_residual.result _ _ c.from_residual.ensures.1

pub returns-in_err-records-clause-settled : goal.returns-in_err-records-clause-settled
returns-in_err-records-clause-settled g c = none-at-err c.from_residual.result _ _ c.from_residual.ensures.1

pub returns-in_err-records-clause-waits : goal.returns-in_err-records-clause-waits
returns-in_err-records-clause-waits g c = none-at-err c.from_residual.result _ _ c.from_residual.ensures.1
