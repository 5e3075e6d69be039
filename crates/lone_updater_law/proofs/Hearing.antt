-- What a turn that is alone is told, and so what it answers.
use Rattle.std.proofs.Common.{◌≡◌, ◌≢◌, ℕ, zero, suc, ◌<◌, ◌==◌, ◌&&◌, ◌↔◌, not, Bool, true, false, refl, sym, subst}
use Rattle.std.proofs.Common.{ap, ◌∙◌}
use Rattle.std.specs.Prelude.{nat_le}
use Rattle.std.proofs.lemmas.Bool.{eq-eqb, ne_eqb, and_right}
use Rattle.pm_words.specs.Codes.{free_status, gone_status}
use Rattle.pm_words.specs.declared.machine.Turn.{Turn}
use Rattle.pm_words.specs.declared.machine.Turn.TheVariants.{Go, Done}
use Rattle.version_lock.specs.Versions.{is_worn_word}
use Rattle.data_list.specs.declared.target.Target.{Target}
use Rattle.data_list.specs.declared.target.Walked.{Walked}
use Rattle.data_list.specs.declared.target.Walked.TheVariants as walked
use Rattle.data_list.specs.declared.walk.Walk.{Walk}
use Rattle.data_list.specs.Walks.{walk_turned}
use Rattle.index_law.specs.Worlds.{World, facts}
use Rattle.smo_log.specs.declared.line.Entry.{Entry}
use Rattle.smo_log.specs.declared.read.LineSeen.{LineSeen}
use Rattle.smo_log.specs.declared.read.ReadLine.{ReadLine}
use Rattle.smo_log.specs.Reads.{read_turned}
use Rattle.index_layer_law.specs.updater_row_law.specs.Columns.{line_count}
use Rattle.updater.specs.declared.terms.Terms.{Terms}
use Rattle.updater.specs.declared.terms.Tally.{Tally}
use Rattle.updater.specs.declared.terms.Turned.{Turned}
use Rattle.updater.specs.declared.terms.Found.{Found}
use Rattle.updater.specs.declared.work.Work.{Work}
use Rattle.updater.specs.declared.work.WorkAt.{WorkAt}
use Rattle.updater.specs.declared.work.WorkAt.TheVariants as at
use Rattle.updater.specs.Works.{work_turned, work_takes}
use Rattle.updater.specs.Events.{Heard, how_many, is_emptied, is_left, Tells, SaysSo, EndsSo, IsTold, HasHeard, Heeds}
use Rattle.updater.specs.Events as events
use Rattle.updater.proofs.WorkLaw.{works_heed}
use Rattle.lone_updater_law.specs.LoneTurns.{line_state, is_ready, stamp_then, frees_node, status_then}
use Rattle.lone_updater_law.specs.Laws.{terms_in, heard_from, Hears}
use Rattle.lone_updater_law.proofs.MarkSteps.{then_some}

-- its walk isn't turned back
abbrev pub GoesOrFinds : Turn Walk Walked → Type 0
GoesOrFinds (Go walk) = Unit {0}
GoesOrFinds (Done (walked.Target target)) = Unit {0}
GoesOrFinds (Done (walked.Again why)) = ⊥

module _ (before : World) (stamp release : ℕ) where
  -- what the turn is told follows from the index as it began
  abbrev pub IsSo : WorkAt → ℕ → Type 0
  IsSo (at.State line) x = x ≡ line_state before line
  IsSo (at.Walking line entry walk) x = GoesOrFinds (walk_turned walk x)
  IsSo (at.Seeing line entry found) x = x ≡ found.version
  IsSo (at.Status node) x = x ≡ (facts before).status node
  IsSo (at.Stamp node) x = x ≡ stamp_then before stamp node
  IsSo (at.Version node) x = x ≡ (facts before).version node
  IsSo (at.Counting node none) x = x ≡ status_then before stamp release node
  IsSo _ x = Unit {0}

  abbrev from : Entry → Target → Heard
  from = heard_from before stamp release

  -- it empties each READY line, and leaves none
  emptied_is : (entry : Entry) (target : Target) → is_emptied (from entry target) ≡ is_ready before
  emptied_is entry target =
      let same : (line : ℕ) → is_emptied (from entry target) line ≡ is_ready before line =
      λ line. ap (λ b. is_ready before line && b) (eq-eqb target.version target.version refl) ∙ and_true (is_ready before line) in
      λ k line. same line k
    where
      and_true : (b : Bool) → (b && true) ≡ b
      and_true true = refl
      and_true false = refl

  left_is : (entry : Entry) (target : Target) → is_left (from entry target) ≡ (λ (line : ℕ). false)
  left_is entry target =
      let same : (line : ℕ) → is_left (from entry target) line ≡ false = λ line. ap (λ b. is_ready before line && not b) (eq-eqb target.version target.version refl) ∙ and_right (is_ready before line) false refl in
      λ k line. same line k

  -- so what it has counted doesn't hang on the line at hand
  lines_are : (entry other : Entry) (target found : Target) (tally : Tally) (most : ℕ) → events.HasLines (from entry target) tally most → events.HasLines (from other found) tally most
  lines_are entry other target found tally most lines = record {
    applied = lines.applied ∙ ap (λ (test : ℕ → Bool). how_many test most) (emptied_is entry target ∙ sym (emptied_is other found));
    left = lines.left ∙ ap (λ (test : ℕ → Bool). how_many test most) (left_is entry target ∙ sym (left_is other found));
  }

  -- what it has heard, and is told next
  record HearsNext (terms : Terms) (tally : Tally) (at : WorkAt) (x : ℕ) : Type 0 where
    pub entry : Entry
    pub target : Target
    pub heard : HasHeard terms (from entry target) tally at
    pub told : IsTold (from entry target) at x

  hears_reading : (terms : Terms) (tally : Tally) (read : ReadLine) (x : ℕ) (entry : Entry) (target : Target) → HasHeard terms (from entry target) tally (at.Reading read) → HearsNext terms tally (at.Reading read) x
  hears_reading terms tally read x entry target heard = by (read_turned read x) refl
    where
      by : (turn : Turn ReadLine LineSeen) → read_turned read x ≡ turn → HearsNext terms tally (at.Reading read) x
      by (Go next) is = record { entry = entry; target = target; heard = heard; told = subst (SaysSo entry) (sym is) tt }
      by (Done seen) is = record {
        entry = seen.entry;
        target = target;
        heard = (lines_are entry seen.entry target target tally read.line heard.0, heard.1);
        told = subst (SaysSo seen.entry) (sym is) refl;
      }

  hears_walking : (terms : Terms) (tally : Tally) (line : ℕ) (asked : Entry) (walk : Walk) (x : ℕ) (entry : Entry) (target : Target) → HasHeard terms (from entry target) tally (at.Walking line asked walk)
      → GoesOrFinds (walk_turned walk x) → HearsNext terms tally (at.Walking line asked walk) x
  hears_walking terms tally line asked walk x entry target heard so = by (walk_turned walk x) refl so
    where
      by : (turn : Turn Walk Walked) → walk_turned walk x ≡ turn → GoesOrFinds turn → HearsNext terms tally (at.Walking line asked walk) x
      by (Go next) is so = record { entry = entry; target = target; heard = heard; told = subst (EndsSo (walked.Target target)) (sym is) tt }
      by (Done (walked.Target found)) is so = record {
        entry = entry;
        target = found;
        heard = (lines_are entry entry target found tally line heard.0, heard.1, heard.2);
        told = subst (EndsSo (walked.Target found)) (sym is) refl;
      }
      by (Done (walked.Again why)) is so = absurd so

  hears_next : (terms : Terms) (tally : Tally) (at : WorkAt) (x : ℕ) (entry : Entry) (target : Target) → HasHeard terms (from entry target) tally at → IsSo at x → HearsNext terms tally at x
  hears_next terms tally (at.State line) x entry target heard so = record { entry = entry; target = target; heard = heard; told = so }
  hears_next terms tally (at.Reading read) x entry target heard so = hears_reading terms tally read x entry target heard
  hears_next terms tally (at.Landing line asked floor) x entry target heard so = record { entry = entry; target = target; heard = heard; told = tt }
  hears_next terms tally (at.Walking line asked walk) x entry target heard so = hears_walking terms tally line asked walk x entry target heard so
  hears_next terms tally (at.Seeing line asked found) x entry target heard so = record { entry = entry; target = target; heard = heard; told = so ∙ ap (λ (f : Found). f.version) heard.3 }
  hears_next terms tally (at.Setting line asked set) x entry target heard so = record { entry = entry; target = target; heard = heard; told = tt }
  hears_next terms tally (at.Unsetting line asked unset) x entry target heard so = record { entry = entry; target = target; heard = heard; told = tt }
  hears_next terms tally (at.Stamping line asked) x entry target heard so = record { entry = entry; target = target; heard = heard; told = tt }
  hears_next terms tally (at.Clearing clear) x entry target heard so = record { entry = entry; target = target; heard = heard; told = tt }
  hears_next terms tally (at.Status node) x entry target heard so = record { entry = entry; target = target; heard = heard; told = so }
  hears_next terms tally (at.Stamp node) x entry target heard so = record { entry = entry; target = target; heard = heard; told = so }
  hears_next terms tally (at.Version node) x entry target heard so = record { entry = entry; target = target; heard = heard; told = so }
  hears_next terms tally (at.Releasing release) x entry target heard so = record { entry = entry; target = target; heard = heard; told = tt }
  hears_next terms tally (at.Counting node none) x entry target heard so = record { entry = entry; target = target; heard = heard; told = so }
  hears_next terms tally (at.Leaving none) x entry target heard so = record { entry = entry; target = target; heard = heard; told = tt }

  -- What it answers, in terms of the index as it began.
  pub record AnswersSo (answer : Turned) : Type 0 where
    pub applied : answer.applied ≡ how_many (is_ready before) (line_count before.layout)
    pub left : answer.left ≡ 0
    pub freed : answer.freed ≡ how_many (frees_node before stamp release) before.layout.nodes
    pub none_free : (answer.none_free ≡ true) ↔ ((n : ℕ) → n < before.layout.nodes → status_then before stamp release n ≢ free_status)

  abbrev pub HearsAfter : Terms → Turn Work Turned → Type 0
  HearsAfter terms (Go next) = next.terms ≡ terms → Hears before stamp release next
  HearsAfter terms (Done answer) = AnswersSo answer

  none_counted : (most : ℕ) → how_many (λ (line : ℕ). false) most ≡ 0
  none_counted zero = refl
  none_counted (suc most) = none_counted most

  answers_so : (some : stamp ≢ 0) (entry : Entry) (target : Target) (answer : Turned) → Tells (terms_in before stamp release) (from entry target) answer → AnswersSo answer
  answers_so some entry target answer tells = record {
    applied = tells.applied ∙ ap (λ (test : ℕ → Bool). how_many test (line_count before.layout)) (emptied_is entry target);
    left = tells.left ∙ ap (λ (test : ℕ → Bool). how_many test (line_count before.layout)) (left_is entry target) ∙ none_counted (line_count before.layout);
    freed = tells.freed ∙ ap (λ (test : ℕ → Bool). how_many test before.layout.nodes) freed_is;
    none_free = tells.none_free;
  }
    where
      one : (n : ℕ) → events.is_freed (terms_in before stamp release) (from entry target) n ≡ frees_node before stamp release n
      one n = ap (λ b. (facts before).status n == gone_status && ((not b && nat_le (stamp_then before stamp n) release) && not (is_worn_word ((facts before).version n) before.generation)))
          (ne_eqb (stamp_then before stamp n) 0 (then_some before stamp some n))

      freed_is : events.is_freed (terms_in before stamp release) (from entry target) ≡ frees_node before stamp release
      freed_is = λ k n. one n k

  pub hears_after : (work : Work) (x : ℕ) → stamp ≢ 0 → work.terms ≡ terms_in before stamp release → work_takes work x → IsSo work.at x → Hears before stamp release work → HearsAfter work.terms (work_turned work x)
  hears_after work x some terms takes so hears =
      let next = hears_next work.terms work.tally work.at x hears.entry hears.target hears.heard so in
      ends next.entry next.target (work_turned work x) (works_heed work (from next.entry next.target) x takes next.told next.heard)
    where
      ends : (entry : Entry) (target : Target) (turn : Turn Work Turned) → Heeds work.terms (from entry target) turn → HearsAfter work.terms turn
      ends entry target (Go next) heard = λ same. record { entry = entry; target = target; heard = subst (λ (t : Terms). HasHeard t (from entry target) next.tally next.at) (sym same) heard }
      ends entry target (Done answer) tells = answers_so some entry target answer (subst (λ (t : Terms). Tells t (from entry target) answer) terms tells)
