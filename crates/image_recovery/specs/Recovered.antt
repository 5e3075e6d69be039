-- A recovery on its way, and what it leaves at its end.
use Rattle.std.specs.Prelude.{◌≡◌, ◌⊎◌, ◌↔◌, ℕ, suc, List}
use Rattle.pm_words.specs.Images.{Row, IsImage}
use Rattle.pm_words.specs.Locations.{Cached, Durable}
use Rattle.pm_words.specs.Rows.{IsRow, durable_row}
use Rattle.cat_history.specs.Maps.{Map}
use Rattle.version_lock.specs.Versions.{IsGeneration}
use Rattle.image_rules.specs.Nodes.{image_list}
use Rattle.image_rules.specs.Rules.{header_generation}
use Rattle.image_rules.specs.Sound.{IsMapOf}
use Rattle.image_rules.specs.Weights.{image_weight}
use Rattle.image_layer_rules.specs.Sound.{IsSoundByAll, IsFirstOfAll}
use Rattle.image_recovery_law.specs.Columns.{IsSound}
use Rattle.image_recovery_law.specs.Rest.{Rests}
use Rattle.image_recovery_law.specs.Rows.{columns_in}
use Rattle.image_recovery_law.specs.RowMoves.{MarksTellIn}
use Rattle.tree_marks.specs.Laws.{IsMarked}
use Rattle.image_recovery_law.specs.Moves as law
use Rattle.image_recovery.specs.declared.making.Making.{Making}
use Rattle.image_recovery.specs.declared.recovering.OpenFault.{OpenFault}
use Rattle.image_recovery.specs.declared.recovering.OpenFault.TheVariants.{Damaged, Generations, NoMemory}
use Rattle.image_recovery.specs.Plans.{columns, list_of}
use Rattle.image_recovery.specs.MakingLaw.{IsClearBeside, IsAtMove, IsBetweenMoves}

-- The image is sound, and there is a next generation.
pub record IsRecoverable (image : Row) : Type 0 where
  pub sound : IsSound image.layout (list_of image) (columns image)
  pub next : IsGeneration (suc (columns image).generation)

-- The rows are made of the image, and the marks of all leaves and cells that its root leads to are set: so it is before
-- the first move.
pub record IsOpenedOn (image row : Row) : Type 0 where
  pub layout : row.layout ≡ image.layout
  pub is_row : IsRow image.layout row.words
  pub marked : IsMarked image.layout image.words row.words

-- The rows are those of a recovery of the image between two moves, and these moves are left.
pub record IsUnderWay (image row : Row) (rest : List law.Move) : Type 0 where
  pub layout : row.layout ≡ image.layout
  pub between : IsBetweenMoves image.layout (list_of image) (columns image) rest row.words

-- What a recovery leaves of the image, whole or broken: an image that is sound by all rules, with the same list, the
-- same map and the same weight, in the generation that it had or in the next one.
pub record IsLeftOf (image : Row) (left : List ℕ) : Type 0 where
  pub is_image : IsImage image.layout left
  pub sound : IsSoundByAll image.layout left
  pub same_list : image_list image.layout left ≡ list_of image
  pub same_map : (m : Map) → IsMapOf image.layout image.words m ↔ IsMapOf image.layout left m
  pub same_weight : image_weight image.layout left ≡ image_weight image.layout image.words
  pub generation : (header_generation image.layout left ≡ header_generation image.layout image.words) ⊎
      (header_generation image.layout left ≡ suc (header_generation image.layout image.words))

-- The rows are those of the image once it is recovered: by its columns, cached and durable, and as the image that is
-- durable then; the marks tell what the layer's root leads to, and each other volatile word is 0.
pub record IsRecoveredTo (image row : Row) : Type 0 where
  pub layout : row.layout ≡ image.layout
  pub is_row : IsRow image.layout row.words
  pub rests : Rests image.layout (list_of image) (columns image) (columns_in image.layout row.words Cached)
      (columns_in image.layout row.words Durable)
  pub clear : IsClearBeside image.layout row.words
  pub marks : MarksTellIn image.layout row.words
  pub left : IsLeftOf image (durable_row image.layout row.words)

-- Why an image isn't opened: it isn't sound, and this is the first rule that it breaks and the first word at which it
-- does; or it is sound, and of the last generation; or neither, and there was no memory.
abbrev pub IsOpenFault : Row → OpenFault → Type 0
IsOpenFault image (Damaged rule word) = IsFirstOfAll image.layout image.words (record { rule = rule; word = word })
IsOpenFault image Generations = IsSoundByAll image.layout image.words ×
    ¬ IsGeneration (suc (header_generation image.layout image.words))
IsOpenFault image NoMemory = IsSoundByAll image.layout image.words ×
    IsGeneration (suc (header_generation image.layout image.words))

-- So does each crash leave it, during a move and between two.
abbrev pub CrashLeavesSound : Type 0
CrashLeavesSound = (image : Row) (rest : List law.Move) (words : List ℕ) (making : Making) → IsRecoverable image →
    IsAtMove image.layout (list_of image) (columns image) rest words making →
    IsLeftOf image (durable_row image.layout words)

abbrev pub CrashBetweenLeavesSound : Type 0
CrashBetweenLeavesSound = (image : Row) (rest : List law.Move) (words : List ℕ) → IsRecoverable image →
    IsBetweenMoves image.layout (list_of image) (columns image) rest words →
    IsLeftOf image (durable_row image.layout words)
