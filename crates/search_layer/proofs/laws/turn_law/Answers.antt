use Rattle.search_layer.proofs.OnLayer.{changes_stay_on_layer, sets_begin_sound, unsets_begin_sound}
use Rattle.search_layer.proofs.StepLaw.{changes_are_steps, changes_stay_sound, sets_stay_sound, unsets_stay_sound}
use Rattle.search_layer.proofs.laws.turn_law.Goals as goal

pub returns : goal.returns
returns c = record {
  steps = changes_are_steps;
  sound = changes_stay_sound;
  set = sets_stay_sound;
  unset = unsets_stay_sound;
  set_begins = sets_begin_sound;
  unset_begins = unsets_begin_sound;
  on_layer = changes_stay_on_layer;
}
