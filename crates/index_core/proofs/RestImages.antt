-- The image of an index with nothing in flight.
use Rattle.std.proofs.Common.{◌≡◌, ap, subst}
use Rattle.std.specs.Prelude.{Option}
use Rattle.updater.specs.updater_row_law.specs.RowStages.{Resting}
use Rattle.updater.specs.updater_row_law.specs.Turnings.{Turning}
use Rattle.index_image_law.specs.index_layer_law.specs.Turnings.{AreResting}
use Rattle.index_image_law.specs.Rest.{IsRestImage}
use Rattle.index_image_law.proofs.RestLaw.{rest_leaves_image}
use Rattle.updater.specs.declared.making.MakeTurn.{MakeTurn}
use Rattle.index_core.specs.declared.party.PartyState.{PartyState}
use Rattle.index_core.specs.PartyStates.{turning_of}
use Rattle.index_core.specs.Indexes.{Index, IsIndex, layered, world}
use Rattle.index_core.specs.Lone.{IsQuiet}
use Rattle.index_core.proofs.Lists.{map_from}
use Rattle.index_core.proofs.Quiet.{quiet_parties}

-- with no turn in flight all turns rest
quiet_turns : (s : Index) → IsQuiet s → AreResting (layered s).turns
quiet_turns s quiet i t at =
    let from = map_from (λ (state : PartyState). turning_of state.turn) s.states i t at in
    subst (λ (u : Turning). u.stage ≡ Resting) from.2 (ap (λ (making : Option MakeTurn). (turning_of making).stage) (quiet.turns i from.0 from.1))

pub quiet_image : (s : Index) → IsIndex s → IsQuiet s → IsRestImage (world s)
quiet_image s is quiet = rest_leaves_image (layered s) is.layered (quiet_parties s quiet) (quiet_turns s quiet)
