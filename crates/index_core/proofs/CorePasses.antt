-- What the code that goes over nodes has in hand, as facts on the index that it works on.
use Rattle.std.proofs.Common.{◌≡◌, ℕ, ◌<◌, length, get_or, ap, sym, ◌∙◌, subst}
use Rattle.std.specs.Prelude.{Some, slice_set}
use mathlib.Core.Option.{some}
use lib.ListN.{get_elem?}
use Rattle.pm_words.specs.Images.{Row}
use Rattle.machine_runs.specs.Runs.{IsOnRun, MayGo}
use Rattle.updater.specs.declared.making.MakeTurn.{MakeTurn}
use Rattle.updater.specs.Makings.{making_asks, making_left, making_takes, making_turned}
use Rattle.index_core.specs.declared.index.Core.TheInside.{Inside}
use Rattle.index_core.specs.declared.party.PartyState.{PartyState}
use Rattle.index_core.specs.Cores.{IsCore, index_of, index_with}
use Rattle.index_core.specs.Indexes.{Index, IsIndex, IsTurning}
use Rattle.index_core.specs.PartyStates.{owed}
use Rattle.index_core.specs.Turns.{TurnPasses}
use Rattle.index_core.proofs.Lists.{read_is, some_same, within}
use Rattle.index_core.proofs.Passing.{may_pass, run_passes}
use Rattle.index_core.proofs.Stepping.{respare}
use Rattle.index_core.proofs.TurnReading.{turn_owes}

module _ (inside : Inside) (old : Index) (i : ℕ) (turns : IsTurning old i) (view : index_of inside ≡ old) where
  -- the state is read at the party's place
  abbrev IsRead : PartyState → Type 0
  IsRead state = state ≡ get_or inside.states.items i state

  own_there : get_elem? (index_of inside).states i ≡ some turns.state
  own_there = ap (λ (v : Index). get_elem? v.states i) view ∙ turns.there

  pub turn_within : i < length inside.states.items
  turn_within = within inside.states.items i turns.state own_there

  state_read : (r : PartyState) → IsRead r → r ≡ turns.state
  state_read r found = read_is inside.states.items i turns.state r own_there found

  -- it makes a turn
  pub some_turn : (r : PartyState) → IsRead r → r.turn ≡ Some turns.machine
  some_turn r found = ap (λ (d : PartyState). d.turn) (state_read r found) ∙ turns.flies

  making_read : (r : PartyState) (making : MakeTurn) → IsRead r → r.turn ≡ Some making → making ≡ turns.machine
  making_read r making found has = some_same (sym has ∙ some_turn r found)

  module _ (core : IsCore inside) where
    core_index : IsIndex (index_of inside)
    core_index = respare (index_with inside 0) _ core.0

    module _ (r : PartyState) (making : MakeTurn) (found : IsRead r) (has : r.turn ≡ Some making) where
      -- and may go over nodes
      pub turn_may_pass : MayGo making_asks making_turned making_left making_takes inside.memory.layout
          inside.memory.words making
      turn_may_pass =
          subst (MayGo making_asks making_turned making_left making_takes inside.memory.layout inside.memory.words)
          (sym (making_read r making found has))
          (may_pass (index_of inside) i turns.state turns.machine core_index own_there turns.flies)

      -- the index once it has
      abbrev passed : Row → MakeTurn → ℕ → Index
      passed row next spare = record (index_of inside) {
        layout = row.layout;
        words = row.words;
        states = slice_set inside.states.items i (record r { turn = Some next });
        spare = spare;
      }

      pub passed_owes : (next : MakeTurn)
          → owed (slice_set inside.states.items i (record r { turn = Some next })) ≡ owed inside.states.items
      passed_owes next =
          ap (λ (d : PartyState). owed (slice_set inside.states.items i (record d { turn = Some next })))
          (state_read r found)
          ∙ turn_owes inside.states.items i turns.state (Some next) own_there

      module _ (row : Row) (next : MakeTurn) (begun ended : ℕ)
          (run : IsOnRun making_asks making_turned making_left inside.memory row making next begun ended) where
        passes : IsIndex (passed row next (index_of inside).spare)
            × TurnPasses (index_of inside) i (passed row next (index_of inside).spare) begun ended
        passes =
            let on = subst
            (λ (m : MakeTurn). IsOnRun making_asks making_turned making_left inside.memory row m next begun ended)
            (making_read r making found has) run in
            let state = state_read r found in
            let is : Path Index _ (passed row next (index_of inside).spare) = (λ k. record (index_of inside) {
              layout = sym on.layout k;
              words = row.words;
              states = slice_set inside.states.items i (record (sym state k) { turn = Some next });
            }) in
            subst (λ (v : Index). IsIndex v × TurnPasses (index_of inside) i v begun ended) is
            (run_passes (index_of inside) i turns.state turns.machine core_index own_there turns.flies on)

        -- which is an index still, whatever it may spare
        pub passed_is : (spare : ℕ) → IsIndex (passed row next spare)
        passed_is spare = respare _ spare passes.0

        -- to which the turn has come by steps
        pub turn_passes : (spare : ℕ) → spare ≡ (index_of inside).spare
            → TurnPasses old i (passed row next spare) begun ended
        turn_passes spare same =
            subst (λ (v : Index). TurnPasses v i (passed row next spare) begun ended) view
            (subst (λ (n : ℕ). TurnPasses (index_of inside) i (passed row next n) begun ended) (sym same) passes.1)
