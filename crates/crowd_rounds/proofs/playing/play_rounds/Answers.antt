use Rattle.std.proofs.Common.{◌≡◌, ℕ, ◌+◌, List, true, sym, ◌∙◌, subst, All, arith}
use Rattle.std.specs.FinMap.{len}
use Rattle.std.proofs.lemmas.Result.{IfOk-weaker}
use Rattle.cat_history.specs.declared.plan.RoundPlan.{RoundPlan}
use Rattle.cat_text.specs.ReportGrammar.{IsReportRound}
use Rattle.cat_text.specs.declared.report.RoundReport.{RoundReport}
use Rattle.index_law.specs.Anchors.{anchors_in}
use Rattle.thread_rounds.specs.index_core.specs.Indexes.{Index, map_of_index, world}
use Rattle.thread_rounds.specs.index_core.specs.Weights.{weight_of}
use Rattle.core_crashes.specs.core_rounds.specs.CoreMaps.{Waits}
use Rattle.core_crashes.specs.core_rounds.specs.LoneCalls.{restarts}
use Rattle.core_crashes.specs.core_rounds.specs.Rounds.{ArePlayed}
use Rattle.core_crashes.specs.core_rounds.specs.Waiting.{HaveNoTurns, changes_made, puts_asked, writes_asked}
use Rattle.core_crashes.specs.core_rounds.proofs.Restarting.{joined_lone_have_no_restart}
use Rattle.core_crashes.specs.core_rounds.proofs.CrashWork.{plain_rounds_work}
use Rattle.core_crashes.specs.core_rounds.proofs.Played.{each_is_reported}
use Rattle.crowd_rounds.specs.Segments.{WorkOn}
use Rattle.crowd_rounds.proofs.playing.play_rounds.Goals as goal

-- behind no round the index is opened again
pub play_lone-requires-clause-playable : goal.play_lone-requires-clause-playable
play_lone-requires-clause-playable g c =
    let plain = (joined_lone_have_no_restart c.args.plans.now).1 (sym c.restarts.ensures ∙ c.if-restarts-eq0.true) in
    record { lone = plain.0; joined = plain.1; callers = c.requires.playable.callers; told = c.requires.playable.told; calls = c.requires.playable.calls }

pub returns-then-restarts-eq0-clause-report : goal.returns-then-restarts-eq0-clause-report
returns-then-restarts-eq0-clause-report g c = subst (All IsReportRound) (sym c.of.ensures) c.in_ok-reports.ensures.leaves.told

pub returns-then-restarts-eq0-clause-works : goal.returns-then-restarts-eq0-clause-works
returns-then-restarts-eq0-clause-works g c =
    subst (WorkOn c.args.core c.args.plans.now) (sym c.of.ensures)
    (plain_rounds_work _ _ _ _ true c.args.plans.now c.in_ok-reports.field-0.reports.items (sym c.restarts.ensures ∙ c.if-restarts-eq0.true) (each_is_reported _ _ _ _ _ _ _ _ _ _ c.in_ok-reports.ensures.played))

-- what joined rounds of one caller leave to the updater
abbrev LeavesWaiting : Index → Index → List RoundPlan → List RoundReport → Type 0
LeavesWaiting s s' plans reports = HaveNoTurns plans → (changes lines puts : ℕ) → Waits s changes (lines + writes_asked plans) (puts + puts_asked plans) →
    Waits s' (changes + changes_made s.layout.slots (map_of_index s) (anchors_in (world s)) reports) lines puts

pub returns-then-restarts-eq0-clause-waits : goal.returns-then-restarts-eq0-clause-waits
returns-then-restarts-eq0-clause-waits g c lone joined =
    subst (LeavesWaiting c.args.core c.in_ok-reports.field-0.core c.args.plans.now) (sym c.of.ensures) c.in_ok-reports.ensures.waits

pub returns-clause-settled : goal.returns-clause-settled
returns-clause-settled g c = IfOk-weaker c.play_mixed.result _ _ (λ done all. all.settled) c.play_mixed.ensures

pub returns-clause-works : goal.returns-clause-works
returns-clause-works g c = IfOk-weaker c.play_mixed.result _ _ (λ done all. all.works) c.play_mixed.ensures

-- behind some round it is
pub returns-clause-waits : goal.returns-clause-waits
returns-clause-waits g c =
    IfOk-weaker c.play_mixed.result _ _ (λ done all lone joined. absurd (c.if-restarts-eq0.false (c.restarts.ensures ∙ (joined_lone_have_no_restart c.args.plans.now).0 (lone, joined)))) c.play_mixed.ensures

pub returns-then-restarts-eq0-clause-played : goal.returns-then-restarts-eq0-clause-played
returns-then-restarts-eq0-clause-played g c =
    let old = c.args.core in
    let new = c.in_ok-reports.field-0.core in
    subst (λ (reports : List RoundReport). ArePlayed old.layout.slots old.layout.nodes (weight_of old) (len (map_of_index old)) (map_of_index old) (anchors_in (world old)) c.args.plans.now reports (map_of_index new) (anchors_in (world new)))
    (sym c.of.ensures) c.in_ok-reports.ensures.played

pub returns-then-restarts-eq0-clause-layout : goal.returns-then-restarts-eq0-clause-layout
returns-then-restarts-eq0-clause-layout g c = c.in_ok-reports.ensures.leaves.layout

pub returns-then-restarts-eq0-clause-generation : goal.returns-then-restarts-eq0-clause-generation
returns-then-restarts-eq0-clause-generation g c =
    let none : restarts c.args.plans.now ≡ 0 = sym c.restarts.ensures ∙ c.if-restarts-eq0.true in
    omega (arith, none, c.in_ok-reports.ensures.leaves.generation)

pub returns-then-restarts-eq0-clause-index : goal.returns-then-restarts-eq0-clause-index
returns-then-restarts-eq0-clause-index g c = c.in_ok-reports.ensures.leaves.index

pub returns-then-restarts-eq0-clause-quiet : goal.returns-then-restarts-eq0-clause-quiet
returns-then-restarts-eq0-clause-quiet g c = c.in_ok-reports.ensures.leaves.quiet

pub returns-then-restarts-eq0-clause-settled : goal.returns-then-restarts-eq0-clause-settled
returns-then-restarts-eq0-clause-settled g c = c.in_ok-reports.ensures.leaves.settled

pub returns-clause-played : goal.returns-clause-played
returns-clause-played g c = IfOk-weaker c.play_mixed.result _ _ (λ done all. all.played) c.play_mixed.ensures

pub returns-clause-report : goal.returns-clause-report
returns-clause-report g c = IfOk-weaker c.play_mixed.result _ _ (λ done all. all.told) c.play_mixed.ensures

pub returns-clause-layout : goal.returns-clause-layout
returns-clause-layout g c = IfOk-weaker c.play_mixed.result _ _ (λ done all. all.layout) c.play_mixed.ensures

pub returns-clause-generation : goal.returns-clause-generation
returns-clause-generation g c = IfOk-weaker c.play_mixed.result _ _ (λ done all. all.generation) c.play_mixed.ensures

pub returns-clause-index : goal.returns-clause-index
returns-clause-index g c = IfOk-weaker c.play_mixed.result _ _ (λ done all. all.index) c.play_mixed.ensures

pub returns-clause-quiet : goal.returns-clause-quiet
returns-clause-quiet g c = IfOk-weaker c.play_mixed.result _ _ (λ done all. all.quiet) c.play_mixed.ensures
