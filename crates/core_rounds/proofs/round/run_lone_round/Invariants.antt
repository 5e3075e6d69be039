use Rattle.std.proofs.Common.{◌≡◌, ◌+◌, ◌*◌, ◌<◌, ◌≤◌, length, fold, take, vec_len, All}
use Rattle.std.specs.Vec.{vec_capacity}
use Rattle.cat_history.specs.LoneRounds.{writes_of}
use Rattle.cat_text.specs.ReportGrammar.{IsReportRecord}
use Rattle.shapes.specs.Runs.{opening, stands_after}
use Rattle.shapes.specs.ShapeRounds.{puts_added}
use Rattle.core_rounds.specs.Rounds.{IsPlayedSoFar, IsTurnDue}
use Rattle.core_rounds.specs.Updated.{UsesUp, WaitBehind, changes_by}
use Rattle.core_rounds.specs.Waiting.{puts_among, writes_among}
use Rattle.core_rounds.proofs.round.run_lone_round.Given as goal

-- the records so far are those of a round of the calls so far
abbrev pub invariant-loop-index : goal.invariant-loop-index
invariant-loop-index g l =
    let M = g.M.UpdatedMap in
    let first = M.state l.fn.map in
    let now = M.state l.map in
    let records = l.records.items in
    record {
      played : IsPlayedSoFar first.slots first.most first.contents first.anchors l.plan l.index records now.contents now.anchors;
      told : All IsReportRecord records;
      stands : fold (stands_after first.slots) (opening first.contents first.anchors) records
          ≡ record { map = now.contents; anchors = now.anchors; place = l.writes };
      writes : l.writes ≡ length (writes_of records);
      few : l.writes ≤ l.index;
      uses : UsesUp first now (l.index * first.most) l.index;
      weighs_so : now.weighs ≤ first.weighs + puts_added records;
      made : vec_len l.records ≡ l.index;
      reserved : length l.asked ≤ vec_capacity l.records;
      waits : l.plan.updater ≡ 0 →
          WaitBehind (M.waits l.fn.map) (M.waits l.map) (changes_by first records) (writes_among (take l.index l.plan.ops)) (puts_among (take l.index l.plan.ops));
      settled : 0 < l.index → IsTurnDue l.plan.updater l.index → M.is_settled l.map;
    }
