-- An index in which one party has another turn or another recheck, and in which words beside its nodes are others.
use Rattle.std.proofs.Common.{◌≡◌, ℕ, List, set, refl, ◌∙◌}
use Rattle.std.specs.Prelude.{Option, IfSome}
use mathlib.Core.Option.{some}
use lib.ListN.{get_elem?, length-set}
use Rattle.index_image_law.specs.index_layer_law.specs.Layers.{IsLayered}
use Rattle.updater.specs.declared.making.MakeTurn.{MakeTurn}
use Rattle.index_core.specs.declared.party.PartyState.{PartyState}
use Rattle.index_core.specs.declared.party.Rechecking.{Rechecking}
use Rattle.index_core.specs.PartyStates.{AreRechecksOf, IsTurnOf}
use Rattle.index_core.specs.Indexes.{Index, IsIndex, layered}
use Rattle.index_core.proofs.Checks.{beside_bounded, beside_ordered}
use Rattle.index_core.proofs.Permuting.{IsSameRow, beside_permuted}
use Rattle.index_core.proofs.Stepping.{set_states}

module _ (s : Index) (i : ℕ) (state : PartyState) (turn : Option MakeTurn) (recheck : Option Rechecking) (there : get_elem? s.states i ≡ some state) where
  abbrev now : PartyState
  now = record state { turn = turn; recheck = recheck }

  abbrev states : List PartyState
  states = set s.states i now

  -- is one, if the law of turns holds in it, the nodes' words are the same, and what the party has is of this index
  pub beside_index : (words : List ℕ) → IsIndex s → IsLayered (layered (record s { words = words; states = states }))
      → IsSameRow s.layout s.words words → IfSome turn (IsTurnOf s.layout s.generation)
      → AreRechecksOf s.layout s.generation s.history states → IsIndex (record s { words = words; states = states })
  beside_index words is after same own_turn rechecks =
      let own = is.states i state there in
      let permuted = beside_permuted s i state now there words (is.permuted, is.relying) after.whole.joint.lawful refl refl same in
      record {
        lawful = after.whole.joint.lawful;
        whole = after.whole;
        tended = after.tended;
        layered = after;
        parties = length-set s.states i now ∙ is.parties;
        states = set_states s.layout s.generation s.states i now is.states (record { caller = own.caller; machine = own.machine; op = own.op; own = own.own; turn = own_turn });
        ordered = beside_ordered s i state turn recheck there is.ordered;
        bounded = beside_bounded s i state turn recheck there is.bounded;
        named = is.named;
        rechecks = rechecks;
        permuted = permuted.0;
        relying = permuted.1;
      }
