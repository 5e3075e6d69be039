-- The image of the durable words is sound by all rules.
use Rattle.std.proofs.Common.{◌≡◌, ℕ, List, subst}
use Rattle.pm_words.specs.declared.layout.Layout.{Layout}
use Rattle.pm_words.specs.Images.{IsImage}
use Rattle.pm_words.specs.Locations.{Durable}
use Rattle.pm_words.specs.Rows.{durable_row}
use Rattle.pm_words.proofs.Made.{durable_row-at, durable_row-image}
use Rattle.data_node.specs.Lists.{anchor_in, members_from, IsIn}
use Rattle.image_rules.specs.Sound.{IsSound}
use Rattle.index_law.specs.Worlds.{World}
use Rattle.index_law.specs.Lawful.{Lawful}
use Rattle.index_law.proofs.Images.{image_law, in_image}
use Rattle.layer_map.specs.Layers.{HasFew}
use Rattle.index_layer_law.specs.search_layer.specs.Rows.{LayerWords, layer_words, image_layer_words}
use Rattle.index_layer_law.specs.search_layer.specs.Kept.{kept, IsKept}
use Rattle.updater_law.specs.Covered.{IsCovered}
use Rattle.updater_law.specs.Covers.{Lines, IsOpenFor}
use Rattle.index_layer_law.specs.updater_row_law.specs.Columns.{lines_in}
use Rattle.index_layer_law.specs.updater_row_law.specs.RowLaw.{IsSafeLayer}
use Rattle.index_layer_law.specs.updater_row_law.proofs.RowCrash.{layer_is_safe}
use Rattle.index_layer_law.specs.Layers.{Layered, IsLayered}
use Rattle.index_layer_law.specs.Turnings.{terms_of, ghosts_of}
use Rattle.index_layer_law.proofs.CrashCover.{crash_leads_as_listed}
use Rattle.image_layer_rules.specs.Laws.{KeepsLayerRules, IsCoveredImage}
use Rattle.image_rules.specs.Nodes.{image_list}
use Rattle.image_layer_rules.specs.Anchors.{image_anchor, image_lines}
use Rattle.image_layer_rules.proofs.LayerLaws.{layer_makes_sound}
use Rattle.image_layer_rules.proofs.CoverLaw.{cover_tells_keys, keys_if}
use Rattle.index_image_law.specs.Crash.{CrashLeavesSoundByAll}
use Rattle.index_image_law.proofs.TwinWords.{AreTwinWords}
use Rattle.index_image_law.proofs.TwinWords as twin

module _ (z : Layered) (is : IsLayered z) where
  abbrev w : World
  w = z.whole.world

  abbrev l : Layout
  l = z.whole.world.layout

  abbrev image : List ℕ
  image = durable_row l w.words

  lawful : Lawful z.whole.world
  lawful = is.whole.joint.lawful

  is_image : IsImage l image
  is_image = durable_row-image l w.words lawful.row

  sound : IsSound l image
  sound = (image_law w lawful is.whole.joint.fit).sound

  -- the words of the image are the durable ones
  durable : AreTwinWords l w.words Durable image
  durable v has = durable_row-at l w.words v

  layer_is : layer_words l w.words Durable ≡ image_layer_words l image
  layer_is = twin.layer_is l w.words image Durable durable

  lines_are : lines_in l w.words Durable ≡ image_lines l image
  lines_are = twin.lines_are l w.words image Durable durable

  covered : IsCoveredImage l image
  covered = subst (λ (v : LayerWords). IsCovered (λ n. IsIn (image_list l image) n) (image_anchor l image) (kept l v) (IsOpenFor (image_lines l image))) layer_is
      (subst (λ (lines : Lines). IsCovered (λ n. IsIn (image_list l image) n) (image_anchor l image) (kept l (layer_words l w.words Durable)) (IsOpenFor lines)) lines_are
      (in_image l w.words
      (λ now. IsCovered (λ n. IsIn (members_from now l.nodes 0) n) (λ n. anchor_in (now n)) (kept l (layer_words l w.words Durable)) (IsOpenFor (lines_in l w.words Durable)))
      (crash_leads_as_listed z is)))

  safe : IsSafeLayer (terms_of w is.active.1) w.words
  safe = layer_is_safe (terms_of w is.active.1) (ghosts_of w is.holder) w.words is.active.1.stage (is.rows is.active.0 is.active.1 is.active.2 is.active.3)

  in_order : IsKept l (image_layer_words l image)
  in_order = subst (IsKept l) layer_is safe.order

  keeps : KeepsLayerRules l image
  keeps = record {
    row = in_order;
    keys = keys_if l image (cover_tells_keys l image is_image sound in_order covered);
    few = subst (λ (v : LayerWords). HasFew l.nodes (kept l v)) layer_is safe.few;
    covered = covered;
  }

pub crash_leaves_sound_by_all : CrashLeavesSoundByAll
crash_leaves_sound_by_all z is = layer_makes_sound z.whole.world.layout (durable_row z.whole.world.layout z.whole.world.words) (is_image z is) (sound z is) (keeps z is)
