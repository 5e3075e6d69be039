-- The crash rounds of stretches do their work, and so do those of all rounds.
use Rattle.std.proofs.Common.{◌≡◌, ℕ, ◌*◌, ◌/◌, ◌<◌, ◌≤◌, List, [], ◌∷◌, ◌++◌, length, take, drop, get_or, true, refl}
use Rattle.std.proofs.Common.{sym, ap, ◌∙◌, subst, arith, length-append}
use Rattle.std.proofs.Math.Seq.{take-add}
use Rattle.std.proofs.lemmas.List.{take_more}
use Rattle.std.specs.FinMap.{len}
use Rattle.cat_history.specs.Maps.{Map}
use Rattle.cat_history.specs.declared.plan.RoundPlan.{RoundPlan}
use Rattle.cat_text.specs.declared.report.RoundReport.{RoundReport}
use Rattle.pm_words.specs.Images.{Row}
use Rattle.pm_words.specs.declared.layout.Layout.{Layout}
use Rattle.shapes.specs.Anchors.{Anchors}
use Rattle.shapes.specs.Members.{members}
use Rattle.shapes.specs.Weights.{weight}
use Rattle.shapes.proofs.Agreements.{length-members}
use Rattle.shapes.proofs.MemberWeights.{each_weighs}
use Rattle.index_law.specs.Anchors.{anchors_in, image_anchors}
use Rattle.thread_rounds.specs.index_core.specs.Indexes.{Index, map_of_index, world}
use Rattle.thread_rounds.specs.index_core.specs.Weights.{weight_of}
use Rattle.core_crashes.specs.recovery.specs.Opened.{IsOpenedFrom}
use Rattle.core_crashes.specs.core_rounds.specs.CrashWork.{CrashRoundsWork, IsAnsweredInTime, IsTurnlessRound}
use Rattle.core_crashes.specs.core_rounds.specs.Rounds.{ArePlayed, ends, lone, crowd, lone_crash, crowd_crash}
use Rattle.core_crashes.specs.core_rounds.specs.Waiting.{puts_among, writes_among}
use Rattle.core_crashes.specs.core_rounds.proofs.CoreMaps.{opened_is_map}
use Rattle.core_crashes.specs.core_rounds.proofs.CrashWork.{more_weight_works, one_more_works, plain_rounds_work}
use Rattle.core_crashes.specs.core_rounds.proofs.CrashWork.{work_goes_on}
use Rattle.core_crashes.specs.core_rounds.proofs.Played.{each_is_reported}
use Rattle.core_crashes.specs.CrashMaps.{MakeNoTurns}
use Rattle.crowd_rounds.specs.Segments.{AreFirstPlain, AreFirstPlayed, ArePlainPlayed, IsPlayedRestart, WorkOn}
use Rattle.crowd_rounds.proofs.Segmenting.{as-many}

-- ---- an index that was just opened

-- calls of a round without turns make none of their own
pub opened-turnless : (image : Row) (s : Index) (caller : ℕ) (plan : RoundPlan) → IsOpenedFrom image s → IsTurnlessRound s.layout.nodes (length (anchors_in (world s))) caller plan → MakeNoTurns s plan.ops
opened-turnless image s caller plan is turnless =
    let lines = turnless.lines in
    let room = turnless.room in
    let size : length (anchors_in (world s)) ≡ length (image_anchors image.layout image.words) = ap length is.anchors in
    let nodes : s.layout.nodes ≡ image.layout.nodes = ap (λ (l : Layout). l.nodes) is.layout in
    record {
      short = is.short;
      changes = 0;
      few = omega (arith, lines);
      waits = (opened_is_map image s is).waits (writes_among plan.ops) (puts_among plan.ops) lines (omega (arith, room, size, nodes));
    }

-- it has no more members than it weighs for
opened-members : (image : Row) (s : Index) → IsOpenedFrom image s → length (anchors_in (world s)) * (s.layout.slots / 2) ≤ weight_of s
opened-members image s is =
    let m = map_of_index s in
    let shape = anchors_in (world s) in
    let light = (opened_is_map image s is).within.light in
    let each : length shape * (s.layout.slots / 2) ≤ weight s.layout.slots m shape =
    subst (λ (n : ℕ). n * (s.layout.slots / 2) ≤ weight s.layout.slots m shape) (length-members m shape) (each_weighs s.layout.slots (members m shape)) in
    omega (arith, each, light)

-- what is said of rounds from the core of an empty catalogue is said of those from its one member
pub from-one : (image : Row) (l : Layout) (s : Index) (plans : List RoundPlan) (reports : List RoundReport) → IsOpenedFrom image s → s.layout ≡ l → anchors_in (world s) ≡ [] ∷ [] → weight_of s ≤ l.slots / 2 →
    WorkOn s plans reports → CrashRoundsWork l.slots l.nodes (l.slots / 2) true 1 plans reports
from-one image l s plans reports is layout one light work =
    let members = ap length one in
    let slots = is.index.lawful.row.layout.slots.0 in
    let same = ap (λ (k : Layout). k.slots) layout in
    more_weight_works l.slots l.nodes (weight_of s) (l.slots / 2) (length (anchors_in (world s))) 1 true true plans reports (omega (arith, slots, same)) light (omega (arith, members)) (λ opened. opened)
    (subst (λ (k : Layout). CrashRoundsWork k.slots k.nodes (weight_of s) true (length (anchors_in (world s))) plans reports) layout work)

-- ---- a stretch

pub none-work : (s : Index) (plans : List RoundPlan) (reports : List RoundReport) → reports ≡ [] → WorkOn s (take (length reports) plans) reports
none-work s plans reports none = subst (λ (rs : List RoundReport). WorkOn s (take (length rs) plans) rs) (sym none) tt

-- joined rounds of one caller, where they are all,
pub plain-works : (s new : Index) (plans : List RoundPlan) (count : ℕ) (reports : List RoundReport) → ArePlainPlayed s (take count plans) reports new → AreFirstPlain plans count →
    WorkOn s (take (length reports) plans) reports
plain-works s new plans count reports done first =
    let many = as-many s new plans count reports done first.few in
    subst (λ (k : ℕ). WorkOn s (take k plans) reports) (sym many)
    (plain_rounds_work s.layout.slots s.layout.nodes (weight_of s) (length (anchors_in (world s))) true (take count plans) reports first.none
    (each_is_reported s.layout.slots s.layout.nodes (weight_of s) (len (map_of_index s)) (map_of_index s) (map_of_index new) (anchors_in (world s)) (anchors_in (world new)) (take count plans) reports
    done.played))

-- and where one is behind them behind which the index is opened again
pub stretch-works : (image : Row) (s mid next : Index) (plans : List RoundPlan) (count : ℕ) (reports told : List RoundReport) (plan : RoundPlan) (report : RoundReport) → IsOpenedFrom image s →
    ArePlainPlayed s (take count plans) reports mid → AreFirstPlain plans count → count < length plans → plan ≡ get_or plans count plan → IsPlayedRestart mid plan report next →
    told ≡ reports ++ report ∷ [] → WorkOn s (take (length told) plans) told
stretch-works image s mid next plans count reports told plan report opened done first less is round pushed =
    let many = as-many s mid plans count reports done first.few in
    let size = length-append reports (report ∷ []) in
    let parts : take (length (reports ++ report ∷ [])) plans ≡ take count plans ++ plan ∷ [] =
    ap (λ (k : ℕ). take k plans) (omega (arith, size, many)) ∙ take_more plans count plan less ∙ ap (λ (p : RoundPlan). take count plans ++ p ∷ []) (sym is) in
    let answered : length (take count plans) ≡ 0 → IsAnsweredInTime s.layout.nodes (length (anchors_in (world s))) plan report.records =
    λ none. subst (λ (k : Index). IsAnsweredInTime k.layout.nodes (length (anchors_in (world k))) plan report.records) (done.still none)
    (round.works image (subst (IsOpenedFrom image) (sym (done.still none)) opened)) in
    subst (λ (rs : List RoundReport). WorkOn s (take (length rs) plans) rs) (sym pushed)
    (subst (λ (ps : List RoundPlan). WorkOn s ps (reports ++ report ∷ [])) (sym parts)
    (one_more_works s.layout.slots s.layout.nodes (weight_of s) (length (anchors_in (world s))) true (take count plans) reports plan report first.none
    (each_is_reported s.layout.slots s.layout.nodes (weight_of s) (len (map_of_index s)) (map_of_index s) (map_of_index mid) (anchors_in (world s)) (anchors_in (world mid)) (take count plans) reports
    done.played) (λ none now. answered none)))

-- ---- stretches, one after another

-- where no round is played, the shape stays
none-left : {slots nodes weighs names : ℕ} {base end : Map} {anchors shape : Anchors} {plans : List RoundPlan} {reports : List RoundReport} →
    ArePlayed slots nodes weighs names base anchors plans reports end shape → length plans ≡ 0 → shape ≡ anchors
none-left ends none = refl
none-left (lone callers joined round paid played) none = absurd (omega (arith, none))
none-left (crowd several joined writes round next within played) none = absurd (omega (arith, none))
none-left (lone_crash callers crash ended round answers paid next within played) none = absurd (omega (arith, none))
none-left (crowd_crash several crash ended writes round paid next within played) none = absurd (omega (arith, none))

pub stretches-work : (image : Row) (s mid : Index) (plans : List RoundPlan) (reports more : List RoundReport) → IsOpenedFrom image mid → AreFirstPlayed s plans reports mid →
    WorkOn s (take (length reports) plans) reports → WorkOn mid (take (length more) (drop (length reports) plans)) more → WorkOn s (take (length (reports ++ more)) plans) (reports ++ more)
stretches-work image s mid plans reports more opened first work rest =
    let left = take (length more) (drop (length reports) plans) in
    let parts : take (length (reports ++ more)) plans ≡ take (length reports) plans ++ left = ap (λ (k : ℕ). take k plans) (length-append reports more) ∙ take-add (length reports) (length more) plans in
    let slots = opened.index.lawful.row.layout.slots.0 in
    let same = ap (λ (k : Layout). k.slots) first.layout in
    subst (λ (ps : List RoundPlan). WorkOn s ps (reports ++ more)) (sym parts)
    (work_goes_on s.layout.slots s.layout.nodes (weight_of s) (weight_of mid) (length (anchors_in (world s))) (length (anchors_in (world mid))) true (take (length reports) plans) left reports more
    (omega (arith, slots, same)) first.weighs (subst (λ (k : Layout). length (anchors_in (world mid)) * (k.slots / 2) ≤ weight_of mid) first.layout (opened-members image mid opened))
    (λ none. let alike = ap length (none-left first.played none) in omega (arith, alike)) work
    (subst (λ (k : Layout). CrashRoundsWork k.slots k.nodes (weight_of mid) true (length (anchors_in (world mid))) left more) first.layout rest))
