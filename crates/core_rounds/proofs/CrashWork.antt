-- Which calls of crash rounds are surely answered, of rounds one after another.
use Rattle.std.proofs.Common.{◌≡◌, ℕ, ◌+◌, ◌*◌, ◌/◌, ◌<◌, ◌≤◌, Bool, true, false, List, [], ◌∷◌, ◌++◌, length, refl, sym, ◌∙◌, arith}
use Rattle.std.proofs.Math.Nat.{div-mul-le_self}
use Rattle.std.proofs.lemmas.Bool.{false≢true}
use Rattle.std.proofs.lemmas.Nat.{le-div}
use Rattle.std.proofs.lemmas.Option.{none-some}
use Rattle.cat_history.specs.declared.plan.RoundPlan.{RoundPlan}
use Rattle.cat_history.specs.declared.record.Record.{Record}
use Rattle.cat_text.specs.declared.report.RoundReport.{RoundReport}
use Rattle.shapes.specs.ShapeRounds.{puts_added}
use Rattle.core_rounds.specs.CrashWork.{CrashRoundsWork, IsAnsweredInTime, MoreWeightWorks, OneMoreWorks, PlainRoundsWork, WorkGoesOn}
use Rattle.core_rounds.specs.LoneCalls.{has_restart, restarts}
use Rattle.core_rounds.specs.Rounds.{added_in}
use Rattle.core_rounds.proofs.Restarting.{none-is-plain, none-there}

-- ---- weights and members

-- more weight is that of as many members at least
more-members : (weighs weighs' half : ℕ) → 0 < half → weighs ≤ weighs' → weighs / half ≤ weighs' / half
more-members weighs weighs' half some heavier = let within = div-mul-le_self weighs half in le-div (weighs / half) weighs' half some (omega (arith, within, heavier))

-- what is said where there are more members is said where there are fewer
with-fewer : (nodes members members' : ℕ) (plan : RoundPlan) (records : List Record) → members ≤ members' → IsAnsweredInTime nodes members plan records → IsAnsweredInTime nodes members' plan records
with-fewer nodes members members' plan records wider answered crash caller budget ended has turnless =
    let room = turnless.room in
    answered crash caller budget ended has (record { lone = turnless.lone; on_names = turnless.on_names; lines = turnless.lines; room = omega (arith, room, wider); none = turnless.none })

module _ (slots nodes : ℕ) (some : 2 ≤ slots) where
  half : 0 < slots / 2
  half = omega (arith, some)

  with-more : (weighs weighs' members members' : ℕ) (opened opened' : Bool) (plans : List RoundPlan) (reports : List RoundReport) → weighs ≤ weighs' → members ≤ members' → (opened' ≡ true → opened ≡ true) →
      CrashRoundsWork slots nodes weighs opened members plans reports → CrashRoundsWork slots nodes weighs' opened' members' plans reports
  with-more weighs weighs' members members' opened opened' [] [] heavier wider was work = tt
  with-more weighs weighs' members members' opened opened' [] (report ∷ reports) heavier wider was work = absurd work
  with-more weighs weighs' members members' opened opened' (plan ∷ plans) [] heavier wider was work = absurd work
  with-more weighs weighs' members members' opened opened' (plan ∷ plans) (report ∷ reports) heavier wider was (here, work) =
      let added = puts_added report.records in (
        (λ is. with-fewer nodes members members' plan report.records wider (here (was is))),
        with-more (weighs + added) (weighs' + added) ((weighs + added) / (slots / 2)) ((weighs' + added) / (slots / 2)) (has_restart plan) (has_restart plan) plans reports (omega (arith, heavier))
            (more-members (weighs + added) (weighs' + added) (slots / 2) half (omega (arith, heavier))) (λ is. is) work,
      )

  -- ---- behind others

  as-many : (weighs members : ℕ) (opened : Bool) (plans : List RoundPlan) (reports : List RoundReport) → CrashRoundsWork slots nodes weighs opened members plans reports → length reports ≡ length plans
  as-many weighs members opened [] [] work = refl
  as-many weighs members opened [] (report ∷ reports) work = absurd work
  as-many weighs members opened (plan ∷ plans) [] work = absurd work
  as-many weighs members opened (plan ∷ plans) (report ∷ reports) (here, work) =
      let rest = as-many (weighs + puts_added report.records) ((weighs + puts_added report.records) / (slots / 2)) (has_restart plan) plans reports work in
      omega (arith, rest)

  none-added : (reports : List RoundReport) → length reports ≡ 0 → added_in reports ≡ 0
  none-added [] none = refl
  none-added (report ∷ reports) none = absurd (omega (arith, none))

  go-on : (now left : ℕ) (later : List RoundPlan) (more : List RoundReport) → left * (slots / 2) ≤ now → CrashRoundsWork slots nodes now true left later more →
      (weighs members : ℕ) (opened : Bool) (plans : List RoundPlan) (reports : List RoundReport) → now ≤ weighs + added_in reports → (length plans ≡ 0 → left ≤ members) →
      CrashRoundsWork slots nodes weighs opened members plans reports → CrashRoundsWork slots nodes weighs opened members (plans ++ later) (reports ++ more)
  go-on now left later more fits rest weighs members opened [] [] light few work = with-more now weighs left members true opened later more (omega (arith, light)) (few refl) (λ is. refl) rest
  go-on now left later more fits rest weighs members opened [] (report ∷ reports) light few work = absurd work
  go-on now left later more fits rest weighs members opened (plan ∷ plans) [] light few work = absurd work
  go-on now left later more fits rest weighs members opened (plan ∷ plans) (report ∷ reports) light few (here, work) =
      let sum = weighs + puts_added report.records in (
        here,
        go-on now left later more fits rest sum (sum / (slots / 2)) (has_restart plan) plans reports (omega (arith, light))
            (λ none.
            let many = as-many sum (sum / (slots / 2)) (has_restart plan) plans reports work in
            let no_more = none-added reports (omega (arith, many, none)) in
            le-div left sum (slots / 2) half (omega (arith, fits, light, no_more))) work,
      )

pub more_weight_works : MoreWeightWorks
more_weight_works slots nodes weighs weighs' members members' opened opened' plans reports some heavier wider was work =
    with-more slots nodes some weighs weighs' members members' opened opened' plans reports heavier wider was work

pub work_goes_on : WorkGoesOn
work_goes_on slots nodes weighs now members left opened plans later reports more some light fits few work rest =
    go-on slots nodes some now left later more fits rest weighs members opened plans reports light few work

-- ---- rounds behind which the index isn't opened again

-- no crash ends one
plain-answers : (nodes members : ℕ) (plan : RoundPlan) (records : List Record) → has_restart plan ≡ false → IsAnsweredInTime nodes members plan records
plain-answers nodes members plan records none crash caller budget ended has turnless = absurd (none-some crash (sym (none-is-plain plan none).1 ∙ ended))

pub plain_rounds_work : PlainRoundsWork
plain_rounds_work slots nodes weighs members opened [] [] none many = tt
plain_rounds_work slots nodes weighs members opened [] (report ∷ reports) none many = absurd (omega (arith, many))
plain_rounds_work slots nodes weighs members opened (plan ∷ plans) [] none many = absurd (omega (arith, many))
plain_rounds_work slots nodes weighs members opened (plan ∷ plans) (report ∷ reports) none many =
    let both = none-there (has_restart plan) (restarts plans) none in
    let sum = weighs + puts_added report.records in (
      (λ is. plain-answers nodes members plan report.records both.0),
      plain_rounds_work slots nodes sum (sum / (slots / 2)) (has_restart plan) plans reports both.1 (omega (arith, many)),
    )

pub one_more_works : OneMoreWorks
one_more_works slots nodes weighs members opened [] [] last told none many answered = ((λ is. answered refl is), tt)
one_more_works slots nodes weighs members opened [] (report ∷ reports) last told none many answered = absurd (omega (arith, many))
one_more_works slots nodes weighs members opened (plan ∷ plans) [] last told none many answered = absurd (omega (arith, many))
one_more_works slots nodes weighs members opened (plan ∷ plans) (report ∷ reports) last told none many answered =
    let both = none-there (has_restart plan) (restarts plans) none in
    let sum = weighs + puts_added report.records in (
      (λ is. plain-answers nodes members plan report.records both.0),
      one_more_works slots nodes sum (sum / (slots / 2)) (has_restart plan) plans reports last told both.1 (omega (arith, many)) (λ first is. absurd (false≢true (sym both.0 ∙ is))),
    )
