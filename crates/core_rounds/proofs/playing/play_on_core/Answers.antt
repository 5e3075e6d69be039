use Rattle.std.proofs.Common.{◌+◌, ◌*◌, ◌<◌, ◌≤◌, All, List, ap, sym, subst, ◌∙◌}
use Rattle.cat_history.specs.declared.plan.RoundPlan.{RoundPlan}
use Rattle.cat_text.specs.declared.report.RoundReport.{RoundReport}
use Rattle.recovery.specs.index_core.specs.Indexes.{Index}
use Rattle.core_rounds.specs.CoreMaps.{HasNoLines, Waits, calls_left_of, state_of}
use Rattle.core_rounds.specs.LoneCalls.{calls_in}
use Rattle.core_rounds.specs.Updated.{AreReportedFrom, WaitBehind, changes_of_rounds}
use Rattle.core_rounds.specs.Waiting.{HaveNoTurns, puts_asked, writes_asked}
use Rattle.core_rounds.proofs.CoreMaps.{opened_calls, opened_core, same_run}
use Rattle.core_rounds.proofs.playing.play_on_core.Goals as goal

-- what the rounds leave to the updater
abbrev LeavesWaiting : Index → Index → List RoundPlan → List RoundReport → Type 0
LeavesWaiting s s' plans reports = HaveNoTurns plans → WaitBehind (Waits s) (Waits s') (changes_of_rounds (state_of s) reports) (writes_asked plans) (puts_asked plans)

pub of_core-map-requires-clause-opened : goal.of_core-map-requires-clause-opened
of_core-map-requires-clause-opened g c = (c.requires.opened.0, opened_core c.requires.opened.0 c.args.core c.reserve.new.self c.requires.opened.1 c.reserve.ensures.kept)

pub of_core-map-requires-clause-run : goal.of_core-map-requires-clause-run
of_core-map-requires-clause-run g c = same_run c.args.core c.reserve.new.self c.requires.run (ap (λ (s : Index). s.layout) c.reserve.ensures.kept) (ap (λ (s : Index). s.generation) c.reserve.ensures.kept)

-- the map is the core with room for writes, and leaves its core
pub returns : goal.returns
returns g c =
    let plans = c.args.plans.now in
    let reports = c.in_ok-reports.reports.items in
    let core : Index = record c.args.core { spare = c.reserve.new.self.spare } in
    let map = c.play_on_map.new.map in
    let told = c.in_ok-reports.ensures in
    let left = c.into_core.ensures in
    let is = c.of_core-map.ensures ∙ c.reserve.ensures.kept in
    let all : AreReportedFrom (state_of core) plans reports (state_of c.into_core.result) =
    subst (λ (n : Index). AreReportedFrom (state_of core) plans reports (state_of n)) (sym left.core)
    (subst (λ (s : Index). AreReportedFrom (state_of s) plans reports (state_of map)) is told.played) in
    let leaves : LeavesWaiting core map plans reports = subst (λ (s : Index). LeavesWaiting s map plans reports) is told.waits in
    record {
      played = all.played;
      leaves = record {
        told = all.told;
        weighs = all.weighs;
        names = all.names;
        layout = left.run.layout ∙ sym c.requires.run.layout;
        generation = left.run.generation ∙ sym c.requires.run.generation;
        index = left.index;
        quiet = left.quiet;
        stamps = left.stamps;
        -- an opened core has calls enough for all of them
        calls_left = λ calls few.
            let enough = opened_calls c.requires.opened.0 c.args.core (calls + calls_in plans) c.requires.opened.1 few in
            let after : calls * core.layout.nodes ≤ calls_left_of map =
            subst (λ (s : Index). (calls + calls_in plans) * s.layout.nodes ≤ calls_left_of s → calls * s.layout.nodes ≤ calls_left_of map) is (told.calls_left calls) enough in
            subst (λ (n : Index). calls * c.args.core.layout.nodes ≤ calls_left_of n) (sym left.core) after;
        settled = λ ends. subst HasNoLines (sym left.core) (told.settled ends);
      };
      waits = λ none changes lines puts waits.
          subst (λ (n : Index). Waits n (changes + changes_of_rounds (state_of core) reports) lines puts) (sym left.core)
          (leaves none changes lines puts (record { ready = waits.ready; lines = waits.lines; nodes = waits.nodes }));
    }

pub play_on_map-requires-clause-lone : goal.play_on_map-requires-clause-lone
play_on_map-requires-clause-lone g c = c.requires.playable.lone

pub play_on_map-requires-clause-joined : goal.play_on_map-requires-clause-joined
play_on_map-requires-clause-joined g c = c.requires.playable.joined

pub play_on_map-requires-clause-told : goal.play_on_map-requires-clause-told
play_on_map-requires-clause-told g c = c.requires.playable.told

pub play_on_map-requires-clause-callers : goal.play_on_map-requires-clause-callers
play_on_map-requires-clause-callers g c =
    subst (λ (s : Index). All (λ (plan : RoundPlan). All (λ a. a.caller < s.layout.callers) plan.ops) c.args.plans.now)
    (sym (c.of_core-map.ensures ∙ c.reserve.ensures.kept)) c.requires.playable.callers

pub play_on_map-requires-clause-calls : goal.play_on_map-requires-clause-calls
play_on_map-requires-clause-calls g c =
    subst (λ (s : Index). calls_in c.args.plans.now * s.layout.nodes ≤ calls_left_of s) (sym (c.of_core-map.ensures ∙ c.reserve.ensures.kept))
    (opened_calls c.requires.opened.0 c.args.core (calls_in c.args.plans.now) c.requires.opened.1 c.requires.playable.calls)
