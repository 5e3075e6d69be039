-- What a script comes to that is played on an image.
use Rattle.std.proofs.Common.{◌≡◌, ℕ, suc, ◌+◌, ◌<◌, ◌≤◌, List, length, true, sym, ap, subst, ◌∙◌, arith, zero-add}
use Rattle.std.specs.FinMap.{len}
use Rattle.cat_history.specs.Maps.{Map}
use Rattle.cat_history.specs.declared.plan.RoundPlan.{RoundPlan}
use Rattle.cat_script.specs.declared.script.Script.{Script}
use Rattle.cat_text.specs.ReportGrammar.{IsReportText}
use Rattle.cat_text.specs.declared.report.RoundReport.{RoundReport}
use Rattle.pm_words.specs.Images.{Row}
use Rattle.pm_words.specs.declared.layout.Layout.{Layout}
use Rattle.shapes.specs.Anchors.{Anchors}
use Rattle.image_rules.specs.Rules.{header_generation}
use Rattle.image_rules.specs.Sound.{image_map}
use Rattle.image_rules.specs.Weights.{image_weight}
use Rattle.version_lock.specs.Versions.{IsGeneration}
use Rattle.index_law.specs.Anchors.{anchors_in, image_anchors}
use Rattle.crowd_rounds.specs.index_core.specs.Indexes.{Index, map_of_index, world}
use Rattle.crowd_rounds.specs.index_core.specs.Weights.{weight_of}
use Rattle.crowd_rounds.specs.image_recovery.specs.Recovered.{IsOpenFault}
use Rattle.crowd_rounds.specs.recovery.specs.Opened.{IsOpenedFrom}
use Rattle.crowd_rounds.specs.image_recovery.specs.declared.recovering.OpenFault.{OpenFault}
use Rattle.crowd_rounds.specs.image_recovery.specs.declared.recovering.OpenFault.TheVariants as opening
use Rattle.crowd_rounds.specs.core_rounds.specs.CoreMaps.{HasNoLines, ImageWaits, IsImageOf, Waits}
use Rattle.crowd_rounds.specs.core_rounds.specs.CrashWork.{CrashRoundsWork}
use Rattle.crowd_rounds.specs.core_rounds.specs.LoneCalls.{AreJoined, AreLoneRounds, restarts}
use Rattle.crowd_rounds.specs.core_rounds.specs.Rounds.{ArePlayed, RoundsEndWithTurn}
use Rattle.crowd_rounds.specs.core_rounds.specs.Waiting.{HaveNoTurns, changes_made, puts_asked, writes_asked}
use Rattle.crowd_rounds.specs.core_rounds.proofs.CoreMaps.{opened_is_map}
use Rattle.crowd_rounds.specs.Segments.{WorkOn}
use Rattle.catalog_cli.specs.Reports.{IsAccepted, IsRefusedBy}
use Rattle.catalog_cli.specs.Runs.{IsOpenable, IsPlayRefused, IsRunOn, IsTooLate, LinesWait, NeedNoTurns}
use Rattle.catalog_cli.specs.Runs.{generation_after}
use Rattle.catalog_cli.specs.Statuses.{status_of_open}
use Rattle.catalog_cli.specs.declared.status.Status.{Status}
use Rattle.catalog_cli.specs.declared.status.Status.TheVariants as status

-- ---- refusals

-- without a next generation there is none later
no-later : (n more : ℕ) → ¬ IsGeneration (suc n) → ¬ IsGeneration (suc (n + more))
no-later n more none is =
    let fits = is.fits in
    none (record { least = omega arith; fits = omega (arith, fits) })

-- an image that isn't opened is refused so
pub not-opened : (image : Row) (bytes : List ℕ) (plans : List RoundPlan) (fault : OpenFault) → IsOpenFault image fault → IsPlayRefused image bytes plans (status_of_open fault)
not-opened image bytes plans (opening.Damaged rule word) is = is
not-opened image bytes plans opening.Generations is = (is.0, no-later (header_generation image.layout image.words) (restarts plans) is.1)
not-opened image bytes plans opening.NoMemory is = tt

-- so is one that is opened in too late a generation for the rounds
pub too-late : (image : Row) (plans : List RoundPlan) (s : Index) (generation limit : ℕ) → IsOpenedFrom image s → generation ≡ header_generation image.layout image.words → limit ≡ 16777216 →
    limit ≤ generation + restarts plans + 1 → IsTooLate image plans
too-late image plans s generation limit is same limit_is late = (is.sound, λ next. let fits = next.fits in omega (arith, fits, same, limit_is, late))

-- else they can be played
pub can-be-played : (image : Row) (plans : List RoundPlan) (s : Index) (generation limit : ℕ) → IsOpenedFrom image s → generation ≡ header_generation image.layout image.words → limit ≡ 16777216 →
    generation + restarts plans + 1 < limit → IsOpenable image plans
can-be-played image plans s generation limit is same limit_is early =
    record { sound = is.sound; keeps = (opened_is_map image s is).keeps; next = record { least = omega arith; fits = omega (arith, same, limit_is, early) } }

-- a script that isn't accepted is refused so on an image that is opened
pub not-accepted : (image : Row) (bytes : List ℕ) (plans : List RoundPlan) (answer : Status) → IsOpenable image plans → IsRefusedBy image.layout.callers bytes answer → IsPlayRefused image bytes plans answer
not-accepted image bytes plans status.Done openable refused = absurd refused
not-accepted image bytes plans status.Usage openable refused = absurd refused
not-accepted image bytes plans (status.Script what) openable refused = (openable, refused)
not-accepted image bytes plans status.Read openable refused = absurd refused
not-accepted image bytes plans status.Write openable refused = absurd refused
not-accepted image bytes plans status.Shelf openable refused = absurd refused
not-accepted image bytes plans status.NoMemory openable refused = absurd refused
not-accepted image bytes plans (status.Image refusal) openable refused = absurd refused

-- ---- rounds that were played

-- the generations of the index are as many as the image's
pub generations-left : (image : Row) (plans : List RoundPlan) (s : Index) → IsOpenedFrom image s → IsOpenable image plans → IsGeneration (s.generation + restarts plans)
generations-left image plans s is openable =
    let same = is.generation in
    let all : generation_after image plans ≡ s.generation + restarts plans = omega (arith, same) in
    subst IsGeneration all openable.next

-- What was played on the index that an image is opened as: its last one, with the map and the shape that follow the last
-- round, in which so many lines wait; and the crash rounds did their work.
pub record IsPlayedTo (s : Index) (plans : List RoundPlan) (reports : List RoundReport) (s' : Index) : Type 0 where
  pub played : ArePlayed s.layout.slots s.layout.nodes (weight_of s) (len (map_of_index s)) (map_of_index s) (anchors_in (world s)) plans reports (map_of_index s') (anchors_in (world s'))
  pub works : WorkOn s plans reports
  pub layout : s'.layout ≡ s.layout
  pub generation : s'.generation ≡ s.generation + restarts plans
  pub settled : RoundsEndWithTurn plans → HasNoLines s'
  pub waits : AreLoneRounds plans → AreJoined plans → HaveNoTurns plans → (changes lines puts : ℕ) → Waits s changes (lines + writes_asked plans) (puts + puts_asked plans) →
      Waits s' (changes + changes_made s.layout.slots (map_of_index s) (anchors_in (world s)) reports) lines puts

-- the rounds that are played on an opened image are played on its map and its shape
on-image : (image : Row) (s : Index) (plans : List RoundPlan) (reports : List RoundReport) (end : Map) (shape : Anchors) → IsOpenedFrom image s →
    ArePlayed s.layout.slots s.layout.nodes (weight_of s) (len (map_of_index s)) (map_of_index s) (anchors_in (world s)) plans reports end shape →
    ArePlayed image.layout.slots image.layout.nodes (image_weight image.layout image.words) (len (image_map image.layout image.words)) (image_map image.layout image.words)
    (image_anchors image.layout image.words) plans reports end shape
on-image image s plans reports end shape is played =
    let opened = opened_is_map image s is in
    subst (λ (a : Anchors). ArePlayed image.layout.slots image.layout.nodes (image_weight image.layout image.words) (len (image_map image.layout image.words)) (image_map image.layout image.words) a plans reports end shape)
    opened.anchors
    (subst (λ (m : Map). ArePlayed image.layout.slots image.layout.nodes (image_weight image.layout image.words) (len m) m (anchors_in (world s)) plans reports end shape) opened.contents
    (subst (λ (w : ℕ). ArePlayed image.layout.slots image.layout.nodes w (len (map_of_index s)) (map_of_index s) (anchors_in (world s)) plans reports end shape) opened.weighs
    (subst (λ (l : Layout). ArePlayed l.slots l.nodes (weight_of s) (len (map_of_index s)) (map_of_index s) (anchors_in (world s)) plans reports end shape) is.layout played)))

-- and so their crash rounds work on its weight and its members
work-on-image : (image : Row) (s : Index) (plans : List RoundPlan) (reports : List RoundReport) → IsOpenedFrom image s → WorkOn s plans reports →
    CrashRoundsWork image.layout.slots image.layout.nodes (image_weight image.layout image.words) true (length (image_anchors image.layout image.words)) plans reports
work-on-image image s plans reports is work =
    let opened = opened_is_map image s is in
    subst (λ (a : Anchors). CrashRoundsWork image.layout.slots image.layout.nodes (image_weight image.layout image.words) true (length a) plans reports) opened.anchors
    (subst (λ (w : ℕ). CrashRoundsWork image.layout.slots image.layout.nodes w true (length (anchors_in (world s))) plans reports) opened.weighs
    (subst (λ (l : Layout). CrashRoundsWork l.slots l.nodes (weight_of s) true (length (anchors_in (world s))) plans reports) is.layout work))

-- where they make no turn, so many lines of the image wait
lines-wait : (image new : Row) (s s' : Index) (plans : List RoundPlan) (reports : List RoundReport) → IsOpenedFrom image s → IsImageOf s' new → IsPlayedTo s plans reports s' →
    NeedNoTurns image plans → LinesWait image reports new
lines-wait image new s s' plans reports is kept done needs =
    let opened = opened_is_map image s is in
    let few = needs.lines in
    let nodes = needs.nodes in
    let left = done.waits needs.lone needs.joined needs.none 0 0 0 (opened.waits (0 + writes_asked plans) (0 + puts_asked plans) (omega (arith, few)) (omega (arith, nodes))) in
    subst (ImageWaits new)
    (left.ready ∙ zero-add (changes_made s.layout.slots (map_of_index s) (anchors_in (world s)) reports) ∙ (λ k. changes_made ((is.layout k).slots) (opened.contents k) (opened.anchors k) reports))
    kept.waits

-- and all of it is a run on the image
pub run-ends : (image new : Row) (s s' : Index) (bytes text : List ℕ) (script : Script) (plans : List RoundPlan) (reports : List RoundReport) → IsOpenedFrom image s → IsOpenable image plans →
    IsAccepted image.layout.callers bytes script → plans ≡ script.rounds → IsPlayedTo s plans reports s' → IsReportText text reports → IsImageOf s' new → IsRunOn image bytes text new
run-ends image new s s' bytes text script plans reports is openable accepted same done told kept =
    let generation = is.generation in
    let all : s.generation + restarts plans ≡ generation_after image plans = omega (arith, generation) in
    record {
      report = record {
        script = script;
        reports = reports;
        end = map_of_index s';
        shape = anchors_in (world s');
        accepted = accepted;
        played = subst (λ (ps : List RoundPlan). ArePlayed image.layout.slots image.layout.nodes (image_weight image.layout image.words) (len (image_map image.layout image.words))
            (image_map image.layout image.words) (image_anchors image.layout image.words) ps reports (map_of_index s') (anchors_in (world s'))) same
            (on-image image s plans reports (map_of_index s') (anchors_in (world s')) is done.played);
        works = subst (λ (ps : List RoundPlan). CrashRoundsWork image.layout.slots image.layout.nodes (image_weight image.layout image.words) true (length (image_anchors image.layout image.words)) ps reports) same
            (work-on-image image s plans reports is done.works);
        told = told;
      };
      openable = subst (IsOpenable image) same openable;
      after = record {
        layout = kept.layout ∙ done.layout ∙ is.layout;
        sound = kept.sound;
        generation = kept.generation ∙ done.generation ∙ all ∙ ap (generation_after image) same;
        keeps = kept.keeps;
        anchors = kept.anchors;
      };
      turned = λ ends. kept.lines (done.settled (subst RoundsEndWithTurn (sym same) ends));
      waits = λ needs. lines-wait image new s s' plans reports is kept done (subst (NeedNoTurns image) (sym same) needs);
    }
