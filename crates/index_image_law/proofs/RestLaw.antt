-- The image of an index in which nothing is in flight.
use Rattle.std.proofs.Common.{◌≡◌, sym, subst}
use Rattle.pm_words.specs.Rows.{cached_row}
use Rattle.pm_words.proofs.Made.{cached_row-image}
use Rattle.data_node.specs.Lists.{members_from}
use Rattle.data_node.specs.Weights.{list_weight}
use Rattle.index_law.specs.Anchors.{anchors_of}
use Rattle.index_law.specs.Laws.{IsAtRest}
use Rattle.index_law.specs.Worlds.{World}
use Rattle.index_law.proofs.Starts.{idle_law}
use Rattle.updater_law.specs.Facts.{TurnTerms, TurnFacts}
use Rattle.updater_law.specs.Lawful.{TurnLawful}
use Rattle.updater_law.specs.TurnStages.{TurnStage}
use Rattle.updater_law.specs.TurnStages as stages
use Rattle.index_layer_law.specs.updater_row_law.specs.Columns as rows
use Rattle.index_layer_law.specs.updater_row_law.specs.RowStages.{RowStage, Resting, turn_stage}
use Rattle.index_layer_law.specs.updater_row_law.specs.Turnings.{Turning}
use Rattle.index_layer_law.specs.Layers.{turn_facts}
use Rattle.index_layer_law.specs.Turnings.{terms_of}
use Rattle.index_layer_law.proofs.FactTies.{facts_tie}
use Rattle.index_layer_law.proofs.LayerCover.{layer_is_covered}
use Rattle.image_layer_rules.proofs.LayerLaws.{layer_makes_sound}
use Rattle.index_image_law.specs.Rest.{RestLeavesImage}
use Rattle.index_image_law.proofs.CachedWords.{spots_are, line_at}
use Rattle.index_image_law.proofs.RestRules.{generation_is, rest_is_sound, rest_keeps}
use Rattle.index_image_law.proofs.RestLayer.{IsLayerAtRest, layer_rules}

pub rest_leaves_image : RestLeavesImage
rest_leaves_image z is idle resting =
    let w : World = z.whole.world in
    let l = w.layout in
    let joint = is.whole.joint in
    let rest : IsAtRest w = idle_law w joint.lawful idle in
    let sound = rest_is_sound w rest joint.fit in
    let t : Turning = is.active.1 in
    let row = is.rows is.active.0 t is.active.2 is.active.3 in
    let stage : t.stage ≡ Resting = resting is.active.0 t is.active.2 in
    let terms : TurnTerms = rows.terms_of (terms_of w t) in
    let law : TurnLawful terms (turn_facts w is.holder t) stages.Resting = subst (λ (s : RowStage). TurnLawful terms (turn_facts w is.holder t) (turn_stage s)) stage row.law in
    let at_rest : IsLayerAtRest w is.holder terms = record {
      rest = rest;
      sound = sound;
      order = row.order;
      law = subst (λ (f : TurnFacts). TurnLawful terms f stages.Resting) (facts_tie w is.holder t) law;
      covered = (layer_is_covered z is).cached;
    } in
    let spots = spots_are l w.words in
    record {
      sound = layer_makes_sound l (cached_row l w.words) (cached_row-image l w.words rest.row) sound (layer_rules at_rest);
      generation = generation_is w rest;
      keeps = rest_keeps w rest;
      anchors = λ k. anchors_of (members_from (sym spots k) l.nodes 0);
      weighs = λ k. list_weight l.slots (sym spots k) (members_from (sym spots k) l.nodes 0);
      lines = line_at l w.words;
    }
