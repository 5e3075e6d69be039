-- A turn's work on its run over nodes, of which it loads one status after another.
use Rattle.std.proofs.Common.{◌≡◌, ℕ, ◌+◌, refl, sym, ap, ◌∙◌, subst}
use Rattle.pm_words.specs.declared.action.Action.TheVariants.{Load}
use Rattle.pm_words.specs.declared.machine.Turn.{Turn}
use Rattle.pm_words.specs.declared.machine.Turn.TheVariants.{Go, Done}
use Rattle.pm_words.specs.Images.{Row}
use Rattle.pm_words.specs.Rows.{CanAct, acted, got}
use Rattle.pm_words.specs.Turns.{GoesBelow}
use Rattle.machine_runs.specs.Runs.{AddsNothing, Holds, IsOnRun, MayGo}
use Rattle.machine_runs.proofs.Inside.{inside, part_may}
use Rattle.machine_runs.proofs.Running.{run_can, run_goes, run_takes}
use Rattle.updater.specs.declared.making.MakeTurn.{MakeTurn}
use Rattle.updater.specs.declared.making.MakeTurn.TheVariants.{Working}
use Rattle.updater.specs.declared.terms.Turned.{Turned}
use Rattle.updater.specs.declared.work.Work.{Work}
use Rattle.updater.specs.declared.work.WorkAt.{WorkAt}
use Rattle.updater.specs.Makings.{making_asks, making_left, making_takes, making_turned, worked}
use Rattle.updater.specs.Works.{IsWork, work_asks, work_at_asks, work_at_turned, work_left, work_takes, work_turned}

module _ {old now : Row} {first work : Work} {begun steps : ℕ}
    (may : MayGo work_asks work_turned work_left work_takes old.layout old.words first)
    (on : IsOnRun work_asks work_turned work_left old now first work begun steps) where
  -- what its fields keep
  pub fits_on : IsWork work
  fits_on = (may work now.words on.turns on.before).1.0

  module _ {a : WorkAt} (place : work.at ≡ a) {address : ℕ} (loads : Load address ≡ work_at_asks work.terms a) where
    asked : Load address ≡ work_asks work
    asked = loads ∙ sym (ap (work_at_asks work.terms) place)

    -- it may load there, and is told what it finds
    pub can_on : CanAct now.layout now.words (Load address)
    can_on = run_can work_takes may on asked

    pub takes_on : {number : ℕ} → number ≡ got now.layout now.words (Load address) → work_takes work number
    takes_on given = run_takes work_takes may on asked given

    pub turned_on : (number : ℕ) {next : Work} → work_at_turned work a number ≡ Go next
        → work_turned work number ≡ Go next
    turned_on number goes = ap (λ (b : WorkAt). work_at_turned work b number) place ∙ goes

    -- and goes on
    pub goes_on : {after : Row} {next : Work} {number later : ℕ}
        → after ≡ record now { words = acted now.layout now.words (Load address) }
        → number ≡ got now.layout now.words (Load address) → later ≡ steps + 1
        → GoesBelow work_left (work_left work) (work_turned work number) → work_at_turned work a number ≡ Go next
        → IsOnRun work_asks work_turned work_left old after first next begun later
    goes_on acts given ticks fewer goes =
        run_goes on (subst AddsNothing asked tt) asked acts given ticks fewer (turned_on _ goes)

-- The work stands in the whole turn as a state of it.
worked_fewer : (turn : Turn Work Turned) (bound : ℕ) → GoesBelow work_left bound turn
    → GoesBelow making_left bound (worked turn)
worked_fewer (Go work) bound fewer = fewer
worked_fewer (Done turned) bound fewer = fewer

work_holds : Holds work_asks work_turned work_left work_takes making_asks making_turned making_left making_takes Working
work_holds = record {
  asked = λ work. refl;
  on = λ work next number goes. ap worked goes;
  taken = λ work number takes. takes;
  fewer = λ work number takes fewer. worked_fewer (work_turned work number) (work_left work) fewer;
}

module _ {making : MakeTurn} {work : Work} (is : making ≡ Working work) {old : Row}
    (may : MayGo making_asks making_turned making_left making_takes old.layout old.words making) where
  pub work_may : MayGo work_asks work_turned work_left work_takes old.layout old.words work
  work_may = part_may work_holds is may

  -- a run of the work is one of the whole turn
  pub work_runs : {now : Row} {next : Work} {begun steps : ℕ}
      → IsOnRun work_asks work_turned work_left old now work next begun steps
      → IsOnRun making_asks making_turned making_left old now making (Working next) begun steps
  work_runs {now} {next} {begun} {steps} on =
      let here = subst (MayGo making_asks making_turned making_left making_takes old.layout old.words) is may in
      subst (λ (m : MakeTurn). IsOnRun making_asks making_turned making_left old now m (Working next) begun steps)
      (sym is)
      (record {
        turns = on.turns;
        before = inside work_holds old.layout old.words work here on.before;
        layout = on.layout;
        counted = on.counted;
      })
