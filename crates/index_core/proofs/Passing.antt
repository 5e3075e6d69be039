-- A run of a turn's machine that goes over nodes, as steps of the turn.
use Rattle.std.proofs.Common.{◌≡◌, ℕ, zero, ◌<◌, List, refl, sym, ap, ◌∙◌, subst}
use Rattle.std.specs.Prelude.{Some, None, slice_set}
use mathlib.Core.Option.{some}
use lib.ListN.{get_elem?}
use Rattle.pm_words.specs.declared.machine.Turn.TheVariants.{Go}
use Rattle.pm_words.specs.Images.{Row}
use Rattle.pm_words.specs.Rows.{acted, got}
use Rattle.pm_words.specs.Turns.{GoesBelow}
use Rattle.machine_runs.specs.Runs.{Goes, begins, goes, IsOnRun, MayGo}
use Rattle.index_law.proofs.AnySteps.{set_own}
use Rattle.index_law.proofs.Parties.{set_here}
use Rattle.updater.specs.declared.making.MakeTurn.{MakeTurn}
use Rattle.updater.specs.Makings.{making_asks, making_left, making_takes, making_turned}
use Rattle.index_core.specs.declared.party.PartyState.{PartyState}
use Rattle.index_core.specs.PartyStates.{state_turned, turn_reply}
use Rattle.index_core.specs.Indexes.{Index, IsIndex}
use Rattle.index_core.specs.Turns.{FreesReleased, KeepsNodes, TurnAlong, at_first, one_more, TurnLaw, TurnPasses}
use Rattle.index_core.specs.Turns.{TurnSteps, turn_told, turned_index}
use Rattle.index_core.proofs.Lists.{set_twice}
use Rattle.index_core.proofs.Turning.{turns_keep}

module _ (s : Index) (i : ℕ) (e : PartyState) (m : MakeTurn) (is : IsIndex s) (there : get_elem? s.states i ≡ some e)
    (turns : e.turn ≡ Some m) where
  -- the party, and the index, between two steps of its turn
  abbrev making_on : MakeTurn → PartyState
  making_on making = record e { turn = Some making }

  abbrev at_step : List ℕ → MakeTurn → Index
  at_step now making = record s { words = now; states = slice_set s.states i (making_on making) }

  at_begin : at_step s.words m ≡ s
  at_begin =
      let own : making_on m ≡ e = (λ k. record e { turn = sym turns k }) in
      let states : slice_set s.states i (making_on m) ≡ s.states =
      ap (λ (state : PartyState). slice_set s.states i state) own ∙ set_own s.states i e there in
      (λ k. record s { states = states k })

  module _ (now : List ℕ) (a n : MakeTurn) (is' : IsIndex (at_step now a))
      (goes_on : making_turned a (got s.layout now (making_asks a)) ≡ Go n) (less : making_left n < making_left a) where
    here : get_elem? (at_step now a).states i ≡ some (making_on a)
    here = set_here s.states i (making_on a) e there

    law : TurnLaw (at_step now a) i (making_on a) a
    law = turns_keep (at_step now a) i (making_on a) a is' here refl

    stepped_is : at_step (acted s.layout now (making_asks a)) n ≡ turned_index (at_step now a) i (making_on a) a
    stepped_is =
        let states =
        set_twice s.states i (making_on a) (state_turned (making_on a) (making_turned a (turn_told (at_step now a) a)))
        ∙ (λ k. slice_set s.states i (state_turned (making_on a) (goes_on k))) in
        (λ k. record s { words = acted s.layout now (making_asks a); states = sym states k })

    step_on : TurnSteps (at_step now a) i (at_step (acted s.layout now (making_asks a)) n) None
    step_on = record {
      state = making_on a;
      making = a;
      there = here;
      turns = refl;
      is = stepped_is;
      answers = ap turn_reply (sym goes_on);
      keeps = subst (λ (v : Index). KeepsNodes (at_step now a) v) (sym stepped_is) law.keeps;
      freed = subst (λ (v : Index). FreesReleased (at_step now a) a v) (sym stepped_is) law.freed;
      fewer = subst (GoesBelow making_left (making_left a)) (sym goes_on) less;
    }

    kept_on : IsIndex (at_step (acted s.layout now (making_asks a)) n)
    kept_on = subst IsIndex (sym stepped_is) law.kept

  -- as it comes between two steps
  record Between (now : List ℕ) (making : MakeTurn) (count : ℕ) : Type 0 where
    index : IsIndex (at_step now making)
    along : TurnAlong s i (at_step now making) count

  between : {now : List ℕ} {making : MakeTurn} {count : ℕ}
      → Goes making_asks making_turned making_left s.layout s.words m making now count → Between now making count
  between begins = record {
    index = subst IsIndex (sym at_begin) is;
    along = subst (λ (v : Index). TurnAlong s i v zero) (sym at_begin) at_first;
  }
  between (goes {machine = a} {next = n} {now = now} before adds on less) =
      let was = between before in
      let kept = kept_on now a n was.index on less in
      record { index = kept; along = one_more was.along (step_on now a n was.index on less) kept }

  -- what its action needs is there
  pub may_pass : MayGo making_asks making_turned making_left making_takes s.layout s.words m
  may_pass making now count on =
      let law = turns_keep (at_step now making) i (making_on making) making (between on).index
      (set_here s.states i (making_on making) e there) refl in
      (law.can, law.takes)

  -- a run of the machine is one of the turn
  pub run_passes : {row : Row} {making : MakeTurn} {begun ended : ℕ}
      → IsOnRun making_asks making_turned making_left (record { layout = s.layout; words = s.words }) row m making
      begun ended
      → IsIndex (at_step row.words making) × TurnPasses s i (at_step row.words making) begun ended
  run_passes on =
      let was = between on.before in
      (was.index, record { turns = on.turns; along = was.along; steps = on.counted })
