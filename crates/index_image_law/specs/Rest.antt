-- What the image of an index is that is made of its cached words, whichever of them are durable, while no call and no
-- turn is in flight.
use Rattle.std.specs.Prelude.{◌≡◌, ℕ, ◌<◌, List}
use Rattle.pm_words.specs.Locations.{Line, word_at}
use Rattle.pm_words.specs.Rows.{cached_row}
use Rattle.data_node.specs.Weights.{list_weight}
use Rattle.image_rules.specs.Rules.{header_generation}
use Rattle.image_rules.specs.Sound.{IsMapOf}
use Rattle.image_rules.specs.Weights.{image_weight}
use Rattle.call_stages.specs.Stages.{Idle}
use Rattle.index_law.specs.Anchors.{anchors_in, image_anchors}
use Rattle.index_law.specs.Facts.{map_now}
use Rattle.index_law.specs.Lawful.{Each}
use Rattle.index_law.specs.Lines.{line_in}
use Rattle.index_law.specs.Worlds.{World, facts}
use Rattle.image_layer_rules.specs.Sound.{IsSoundByAll}
use Rattle.index_layer_law.specs.Layers.{Layered, IsLayered}
use Rattle.index_layer_law.specs.Turnings.{AreResting}

-- The image of an index's cached words.
abbrev pub cached_image : World → List ℕ
cached_image w = cached_row w.layout w.words

-- It is sound by all twelve rules, and is of the same run as the index. It keeps the index's map, in nodes with the
-- same anchors, and weighs what the index's listed nodes do. Its log lines are the index's.
pub record IsRestImage (w : World) : Type 0 where
  pub sound : IsSoundByAll w.layout (cached_image w)
  pub generation : header_generation w.layout (cached_image w) ≡ w.generation
  pub keeps : IsMapOf w.layout (cached_image w) (map_now (facts w))
  pub anchors : image_anchors w.layout (cached_image w) ≡ anchors_in w
  pub weighs : image_weight w.layout (cached_image w) ≡ list_weight w.layout.slots (facts w).now (facts w).list
  pub lines : (c j offset : ℕ) → c < w.layout.callers → j < 8 → offset < 8 →
      word_at w.layout (cached_image w) (Line c j offset) ≡ line_in w.layout w.words c j offset

-- So it is of an index with its search layer, where no party has a call in flight, and each one's turn rests.
abbrev pub RestLeavesImage : Type 0
RestLeavesImage = (z : Layered) → IsLayered z → Each (λ p. p.stage ≡ Idle) z.whole.world.parties →
    AreResting z.turns → IsRestImage z.whole.world
