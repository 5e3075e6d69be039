-- What an image is as it is opened as an index.
use Rattle.std.specs.Prelude.{◌≡◌, suc, []}
use Rattle.pm_words.specs.Images.{Row}
use Rattle.pm_words.specs.Locations.{Cached, Durable}
use Rattle.cat_history.specs.Maps.{map_of}
use Rattle.cat_history.specs.Replays.{pairs_of}
use Rattle.version_lock.specs.Versions.{IsGeneration}
use Rattle.version_lock.specs.declared.TheConstants.{LAST_COUNT}
use Rattle.image_rules.specs.Rules.{header_generation}
use Rattle.image_rules.specs.Sound.{IsMapOf, image_map}
use Rattle.image_rules.specs.Weights.{image_weight}
use Rattle.image_layer_rules.specs.Sound.{IsSoundByAll}
use Rattle.index_law.specs.Anchors.{anchors_in, gone_nodes, image_anchors}
use Rattle.index_law.specs.Weights.{index_weight}
use Rattle.index_law.specs.Worlds.{facts}
use Rattle.index_core.specs.Indexes.{Index, IsIndex, parties_of, world}
use Rattle.index_core.specs.Fulls.{HasLowStamps}
use Rattle.index_core.specs.Lone.{HasShortWays, IsQuiet, locks_left}
use Rattle.index_core.specs.PartyStates.{idle_states}
use Rattle.image_recovery.specs.image_recovery_law.specs.Rest.{Rests}
use Rattle.image_recovery.specs.image_recovery_law.specs.Rows.{columns_in}
use Rattle.image_recovery.specs.image_recovery_law.specs.RowMoves.{MarksTellIn}
use Rattle.index_core.specs.index_opening_law.specs.Openings.{HaveNoOrders, TellsList}
use Rattle.image_recovery.specs.Plans.{columns, list_of}

-- The index is that of the image. Its base is the image's map, in rising order of names, and nothing is written yet. It
-- has the image's shape and weight, in the next generation. No call is in flight, no node was locked in its run, and
-- none is GONE or has a stamp. Both rows of its words are those of the image once it is recovered, all of it durable,
-- with an empty log, a search layer that is exactly the list's, and no live slot out of its node's range; and the
-- volatile words tell the list, what the layer's root leads to, and of each node that it has no permutation. So the
-- layer leads each name to its node.
pub record IsOpenedFrom (image : Row) (s : Index) : Type 0 where
  pub sound : IsSoundByAll image.layout image.words
  pub next : IsGeneration (suc (header_generation image.layout image.words))
  pub index : IsIndex s
  pub quiet : IsQuiet s
  pub layout : s.layout ≡ image.layout
  pub generation : s.generation ≡ suc (header_generation image.layout image.words)
  pub states : s.states ≡ idle_states (parties_of image.layout)
  pub base : s.base ≡ pairs_of (image_map image.layout image.words)
  pub keeps : IsMapOf image.layout image.words (map_of s.base)
  pub history : s.history ≡ []
  pub anchors : anchors_in (world s) ≡ image_anchors image.layout image.words
  pub rests : Rests image.layout (list_of image) (columns image) (columns_in s.layout s.words Cached)
      (columns_in s.layout s.words Durable)
  pub tells : TellsList s.layout (list_of image) s.words
  pub marks : MarksTellIn s.layout s.words
  pub orders : HaveNoOrders s.layout s.words
  pub weighs : index_weight s.layout (facts (world s)) ≡ image_weight image.layout image.words
  pub gone : gone_nodes s.layout.nodes (facts (world s)) ≡ 0
  pub stamps : HasLowStamps s
  pub locks : locks_left s ≡ LAST_COUNT
  pub short : HasShortWays s
