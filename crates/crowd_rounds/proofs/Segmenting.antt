-- Rounds that are played in stretches, each behind an opening of the index.
use Rattle.std.proofs.Common.{◌≡◌, ℕ, suc, ◌+◌, ◌<◌, ◌≤◌, ◌^◌, List, [], ◌∷◌, ◌++◌, length, take, drop, get_or, true}
use Rattle.std.proofs.Common.{false, refl, sym, ap, ◌∙◌, subst, arith, All, length-append}
use Rattle.std.proofs.Math.Seq.{take-add}
use Rattle.std.proofs.lemmas.List.{get_or-drop, length-drop, length-take-le, take-append-drop, take_all, take_more}
use Rattle.std.proofs.lemmas.List.Elements.{All-append, All-drop, All-from_recursion}
use Rattle.std.proofs.lemmas.List.Sums.{sum_by-take-drop, sum_by_push}
use Rattle.std.specs.FinMap.{len}
use Rattle.cat_history.specs.declared.op.CallerOp.{CallerOp}
use Rattle.cat_history.specs.declared.plan.RoundPlan.{RoundPlan}
use Rattle.cat_text.specs.ReportGrammar.{IsReportRound}
use Rattle.cat_text.specs.declared.report.RoundReport.{RoundReport}
use Rattle.pm_words.specs.Images.{Row}
use Rattle.pm_words.specs.declared.layout.Layout.{Layout}
use Rattle.version_lock.specs.Versions.{IsGeneration}
use Rattle.index_law.specs.Anchors.{anchors_in}
use Rattle.thread_rounds.specs.index_core.specs.Indexes.{Index, map_of_index, world}
use Rattle.thread_rounds.specs.index_core.specs.Weights.{weight_of}
use Rattle.core_crashes.specs.recovery.specs.Opened.{IsOpenedFrom}
use Rattle.core_crashes.specs.core_rounds.specs.LoneCalls.{AreReportCalls, calls_in, has_restart, restarts}
use Rattle.core_crashes.specs.core_rounds.specs.Rounds.{ArePlayed, RoundsEndWithTurn, added_in, ends}
use Rattle.core_crashes.specs.core_rounds.specs.Waiting.{one_if}
use Rattle.core_crashes.specs.core_rounds.proofs.CoreMaps.{opened_calls, opened_is_map}
use Rattle.core_crashes.specs.core_rounds.proofs.Restarting.{restarts_add_up}
use Rattle.core_crashes.specs.core_rounds.proofs.Played.{each_is_reported, more_pays, rounds_go_on}
use Rattle.crowd_rounds.specs.Segments.{AreFirstPlain, AreFirstPlayed, ArePlainPlayed, ArePlayable, ArePlayedOn}
use Rattle.crowd_rounds.specs.Segments.{HasBudgets, IsPlayedRestart, WorkOn}

-- the last of rounds behind others is the last of all
ends-behind : (plans more : List RoundPlan) → 0 < length more → RoundsEndWithTurn (plans ++ more) → RoundsEndWithTurn more
ends-behind [] more some turned = turned
ends-behind (plan ∷ []) [] some turned = absurd (omega (arith, some))
ends-behind (plan ∷ []) (last ∷ more) some turned = turned
ends-behind (plan ∷ next ∷ plans) more some turned = ends-behind (next ∷ plans) more some turned

added-append : (reports more : List RoundReport) → added_in (reports ++ more) ≡ added_in reports + added_in more
added-append [] more = omega arith
added-append (report ∷ reports) more = let rest = added-append reports more in omega (arith, rest)

-- no round is played yet
pub none-played : (image : Row) (s : Index) (plans : List RoundPlan) (reports : List RoundReport) → IsOpenedFrom image s → reports ≡ [] → AreFirstPlayed s plans reports s
none-played image s plans reports is none = subst (λ (rs : List RoundReport). AreFirstPlayed s plans rs s) (sym none) (record {
  few = omega arith;
  played = ends;
  told = All-from_recursion IsReportRound [] tt;
  weighs = omega arith;
  names = omega arith;
  layout = refl;
  generation = omega arith;
  index = is.index;
  quiet = is.quiet;
  settled = λ turned. absurd turned;
})

-- some more are played, behind those that were
pub goes-on : (s mid new : Index) (plans : List RoundPlan) (reports more : List RoundReport) → AreFirstPlayed s plans reports mid → AreFirstPlayed mid (drop (length reports) plans) more new →
    0 < length more → AreFirstPlayed s plans (reports ++ more) new
goes-on s mid new plans reports more first second some =
    let n = length reports in
    let m = length more in
    let left = drop n plans in
    let long = length-append reports more in
    let rest = length-drop n plans in
    let fits = second.few in
    let before = first.few in
    let parts : take (length (reports ++ more)) plans ≡ take n plans ++ take m left = ap (λ (k : ℕ). take k plans) long ∙ take-add n m plans in
    let added = added-append reports more in
    let lighter = first.weighs in
    let light = second.weighs in
    let fewer = first.names in
    let few = second.names in
    let there : ArePlayed s.layout.slots s.layout.nodes (weight_of mid) (len (map_of_index mid)) (map_of_index mid) (anchors_in (world mid)) (take m left) more (map_of_index new) (anchors_in (world new)) =
    subst (λ (l : Layout). ArePlayed l.slots l.nodes (weight_of mid) (len (map_of_index mid)) (map_of_index mid) (anchors_in (world mid)) (take m left) more (map_of_index new) (anchors_in (world new)))
    first.layout second.played in
    let raised = more_pays s.layout.slots s.layout.nodes (weight_of mid) (len (map_of_index mid)) (weight_of s + added_in reports) (len (map_of_index s) + added_in reports) (map_of_index mid) (map_of_index new)
    (anchors_in (world mid)) (anchors_in (world new)) (take m left) more lighter fewer there in
    let all = rounds_go_on s.layout.slots s.layout.nodes (weight_of s) (len (map_of_index s)) (map_of_index s) (map_of_index mid) (map_of_index new) (anchors_in (world s)) (anchors_in (world mid))
    (anchors_in (world new)) (take n plans) (take m left) reports more first.played raised in
    let gone = first.generation in
    let going = second.generation in
    let again = ap restarts parts ∙ restarts_add_up (take n plans) (take m left) in
    let size = length-take-le m left fits in
    record {
      few = omega (arith, long, rest, fits, before);
      played = subst (λ (ps : List RoundPlan). ArePlayed s.layout.slots s.layout.nodes (weight_of s) (len (map_of_index s)) (map_of_index s) (anchors_in (world s)) ps (reports ++ more) (map_of_index new)
          (anchors_in (world new))) (sym parts) all;
      told = All-append IsReportRound reports more first.told second.told;
      weighs = omega (arith, added, lighter, light);
      names = omega (arith, added, fewer, few);
      layout = second.layout ∙ first.layout;
      generation = omega (arith, gone, going, again);
      index = second.index;
      quiet = second.quiet;
      settled = λ turned. second.settled (ends-behind (take n plans) (take m left) (omega (arith, size, some)) (subst RoundsEndWithTurn parts turned));
    }

-- and at the end all are
pub all-played : (s new : Index) (plans : List RoundPlan) (reports told : List RoundReport) → AreFirstPlayed s plans reports new → WorkOn s (take (length reports) plans) reports → length plans ≤ length reports → told ≡ reports → ArePlayedOn s plans told new
all-played s new plans reports told first works done is =
    let whole : take (length reports) plans ≡ plans = take_all (length reports) plans done in
    subst (λ (rs : List RoundReport). ArePlayedOn s plans rs new) (sym is) (record {
      played = subst (λ (ps : List RoundPlan). ArePlayed s.layout.slots s.layout.nodes (weight_of s) (len (map_of_index s)) (map_of_index s) (anchors_in (world s)) ps reports (map_of_index new)
          (anchors_in (world new))) whole first.played;
      told = first.told;
      layout = first.layout;
      generation = first.generation ∙ ap (λ (ps : List RoundPlan). s.generation + restarts ps) whole;
      index = first.index;
      quiet = first.quiet;
      settled = λ turned. first.settled (subst RoundsEndWithTurn (sym whole) turned);
      works = subst (λ (ps : List RoundPlan). WorkOn s ps reports) whole works;
    })

-- ---- a stretch: rounds of one caller each, and one behind which the index is opened again

-- where there are none of one caller, the core is the same
pub none-plain : (image : Row) (s : Index) (plans : List RoundPlan) (reports : List RoundReport) → IsOpenedFrom image s → plans ≡ [] → reports ≡ [] → ArePlainPlayed s plans reports s
none-plain image s plans reports is none empty =
    subst (λ (ps : List RoundPlan). ArePlainPlayed s ps reports s) (sym none)
    (subst (λ (rs : List RoundReport). ArePlainPlayed s [] rs s) (sym empty) (record {
      played = ends;
      leaves = record {
        told = All-from_recursion IsReportRound [] tt;
        weighs = omega arith;
        names = omega arith;
        layout = refl;
        generation = refl;
        index = is.index;
        quiet = is.quiet;
        stamps = is.stamps;
        calls_left = λ calls few. opened_calls image s calls is (omega (arith, few));
        settled = λ turned. absurd turned;
      };
      still = λ no_round. refl;
    }))

-- as many are reported as were played
pub as-many : (s new : Index) (plans : List RoundPlan) (count : ℕ) (reports : List RoundReport) → ArePlainPlayed s (take count plans) reports new → count ≤ length plans → length reports ≡ count
as-many s new plans count reports done within =
    each_is_reported s.layout.slots s.layout.nodes (weight_of s) (len (map_of_index s)) (map_of_index s) (map_of_index new) (anchors_in (world s)) (anchors_in (world new)) (take count plans) reports
    done.played ∙ length-take-le count plans within

pub plain-first : (s new : Index) (plans : List RoundPlan) (count : ℕ) (reports : List RoundReport) → ArePlainPlayed s (take count plans) reports new → AreFirstPlain plans count →
    AreFirstPlayed s plans reports new
plain-first s new plans count reports done first =
    let many = as-many s new plans count reports done first.few in
    let within = first.few in
    let none = first.none in
    let same : take count plans ≡ take (length reports) plans = ap (λ (k : ℕ). take k plans) (sym many) in
    let again = ap restarts same in
    let left = done.leaves in
    let gone = left.generation in
    record {
      few = omega (arith, many, within);
      played = subst (λ (ps : List RoundPlan). ArePlayed s.layout.slots s.layout.nodes (weight_of s) (len (map_of_index s)) (map_of_index s) (anchors_in (world s)) ps reports (map_of_index new)
          (anchors_in (world new))) same done.played;
      told = left.told;
      weighs = left.weighs;
      names = left.names;
      layout = left.layout;
      generation = omega (arith, none, again, gone);
      index = left.index;
      quiet = left.quiet;
      settled = λ turned. left.settled (subst RoundsEndWithTurn (sym same) turned);
    }

one-restart : (plan : RoundPlan) → has_restart plan ≡ true → restarts (plan ∷ []) ≡ 1
one-restart plan is = ap (λ b. one_if b + 0) is

-- the round behind which the index is opened again, where it comes first
restart-first : (mid next : Index) (plans : List RoundPlan) (plan : RoundPlan) (report : RoundReport) → 0 < length plans → plan ≡ get_or plans 0 plan → has_restart plan ≡ true →
    IsPlayedRestart mid plan report next → AreFirstPlayed mid plans (report ∷ []) next
restart-first mid next plans plan report some is again round =
    let one : plan ∷ [] ≡ take 1 plans = ap (λ (p : RoundPlan). p ∷ []) is ∙ sym (take_more plans 0 plan some) in
    let opened = opened_is_map round.image next round.opened in
    let weighs = round.weighs in
    let names = round.names in
    let gone = round.generation in
    let counted = ap restarts (sym one) ∙ one-restart plan again in
    record {
      few = omega (arith, some);
      played = subst (λ (ps : List RoundPlan). ArePlayed mid.layout.slots mid.layout.nodes (weight_of mid) (len (map_of_index mid)) (map_of_index mid) (anchors_in (world mid)) ps (report ∷ [])
          (map_of_index next) (anchors_in (world next))) one round.played;
      told = All-from_recursion IsReportRound (report ∷ []) (round.told, tt);
      weighs = omega (arith, weighs);
      names = omega (arith, names);
      layout = round.layout;
      generation = omega (arith, gone, counted);
      index = round.opened.index;
      quiet = round.opened.quiet;
      settled = λ turned. opened.lines;
    }

-- behind those of one caller
pub plain-then-restart : (s mid next : Index) (plans : List RoundPlan) (count : ℕ) (reports told : List RoundReport) (plan : RoundPlan) (report : RoundReport) → ArePlainPlayed s (take count plans) reports mid →
    AreFirstPlain plans count → count < length plans → plan ≡ get_or plans count plan → IsPlayedRestart mid plan report next → told ≡ reports ++ report ∷ [] → AreFirstPlayed s plans told next
plain-then-restart s mid next plans count reports told plan report done first less is round pushed =
    let many = as-many s mid plans count reports done first.few in
    let rest = length-drop (length reports) plans in
    let again : has_restart plan ≡ true = ap has_restart is ∙ first.next plan less in
    let there : plan ≡ get_or (drop (length reports) plans) 0 plan =
    is ∙ ap (λ (k : ℕ). get_or plans k plan) (omega (arith, many)) ∙ sym (get_or-drop (length reports) plans 0 plan) in
    subst (λ (rs : List RoundReport). AreFirstPlayed s plans rs next) (sym pushed)
    (goes-on s mid next plans reports (report ∷ []) (plain-first s mid plans count reports done first)
    (restart-first mid next (drop (length reports) plans) plan report (omega (arith, many, rest, less)) there again round) (omega arith))

-- ---- generations and calls

-- there is one more to open the index again
pub next-there : (number : ℕ) (plans : List RoundPlan) (count : ℕ) → IsGeneration (number + restarts plans) → AreFirstPlain plans count → count < length plans → (plan : RoundPlan) →
    IsGeneration (suc number)
next-there number plans count is first less plan =
    let longer = ap restarts (take_more plans count plan less) ∙ restarts_add_up (take count plans) (get_or plans count plan ∷ []) in
    let one = one-restart (get_or plans count plan) (first.next plan less) in
    let rest = restarts-split (count + 1) plans in
    let fits = is.fits in
    record { least = omega arith; fits = omega (arith, longer, one, rest, fits) }
  where
    restarts-split : (n : ℕ) (ps : List RoundPlan) → restarts ps ≡ restarts (take n ps) + restarts (drop n ps)
    restarts-split n ps = ap restarts (sym (take-append-drop n ps)) ∙ restarts_add_up (take n ps) (drop n ps)

-- as there are for the rounds that are left
generations-left : (number now : ℕ) (plans : List RoundPlan) (n : ℕ) → IsGeneration (number + restarts plans) → now ≡ number + restarts (take n plans) → IsGeneration (now + restarts (drop n plans))
generations-left number now plans n is so =
    let both = ap restarts (sym (take-append-drop n plans)) ∙ restarts_add_up (take n plans) (drop n plans) in
    subst IsGeneration (omega (arith, both, so)) is

-- no more calls are left than there were
calls-left : (plans : List RoundPlan) (n : ℕ) → calls_in (drop n plans) ≤ calls_in plans
calls-left plans n = let both = sum_by-take-drop (λ (p : RoundPlan). length p.ops) plans n in omega (arith, both)

pub calls-first : (plans : List RoundPlan) (n : ℕ) → calls_in (take n plans) ≤ calls_in plans
calls-first plans n = let both = sum_by-take-drop (λ (p : RoundPlan). length p.ops) plans n in omega (arith, both)

-- what is left of rounds that can be played on a core can be played on the one that the others left
pub playable-left : (core now : Index) (plans : List RoundPlan) (at : ℕ) → ArePlayable core plans → now.layout ≡ core.layout → now.generation ≡ core.generation + restarts (take at plans) →
    ArePlayable now (drop at plans)
playable-left core now plans at is same gone =
    let fewer = calls-left plans at in
    let most = is.calls in
    record {
      generations = generations-left core.generation now.generation plans at is.generations gone;
      callers = All-drop (λ (p : RoundPlan). All (λ (a : CallerOp). a.caller < now.layout.callers) p.ops) at plans
          (subst (λ (l : Layout). All (λ (p : RoundPlan). All (λ (a : CallerOp). a.caller < l.callers) p.ops) plans) (sym same) is.callers);
      told = All-drop (λ (p : RoundPlan). AreReportCalls p.ops) at plans is.told;
      limits = All-drop (λ (p : RoundPlan). p.limit ≤ 2 ^ 62) at plans is.limits;
      budgets = All-drop (HasBudgets now.layout.callers) at plans (subst (λ (l : Layout). All (HasBudgets l.callers) plans) (sym same) is.budgets);
      calls = omega (arith, fewer, most);
    }

-- with those before it, one round takes no more than there were
pub calls-before : (plans : List RoundPlan) (count : ℕ) (plan : RoundPlan) → count < length plans → plan ≡ get_or plans count plan →
    length plan.ops + calls_in (take count plans) ≤ calls_in plans
calls-before plans count plan less is =
    let longer : take (count + 1) plans ≡ take count plans ++ plan ∷ [] = take_more plans count plan less ∙ ap (λ (p : RoundPlan). take count plans ++ p ∷ []) (sym is) in
    let pushed = ap calls_in longer ∙ sum_by_push (λ (p : RoundPlan). length p.ops) (take count plans) plan in
    let all = calls-first plans (count + 1) in
    omega (arith, pushed, all)

-- ---- rounds that come first, behind which the index isn't opened again

pub none-first : (plans : List RoundPlan) → restarts (take 0 plans) ≡ 0
none-first plans = refl

pub one-first : (plans : List RoundPlan) (count : ℕ) (plan : RoundPlan) → count < length plans → plan ≡ get_or plans count plan → has_restart plan ≡ false → restarts (take count plans) ≡ 0 →
    restarts (take (count + 1) plans) ≡ 0
one-first plans count plan less is none before =
    let longer : take (count + 1) plans ≡ take count plans ++ plan ∷ [] = take_more plans count plan less ∙ ap (λ (p : RoundPlan). take count plans ++ p ∷ []) (sym is) in
    let all = ap restarts longer ∙ restarts_add_up (take count plans) (plan ∷ []) in
    let last : restarts (plan ∷ []) ≡ 0 = ap (λ b. one_if b + 0) none in
    omega (arith, all, last, before)
