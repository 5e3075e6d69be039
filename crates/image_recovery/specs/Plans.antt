-- The moves of a recovery of an image, and what is planned of them so far.
use Rattle.std.specs.Prelude.{◌≡◌, ℕ, List, ◌∷◌, ◌++◌, map}
use Rattle.pm_words.specs.Images.{Row}
use Rattle.data_node.specs.Lists.{ListNode, IsBetween, number_of, IsIn}
use Rattle.data_node.specs.Spots.{Spot, IsLiveIn, name_words}
use Rattle.image_rules.specs.Nodes.{image_spot, image_list, next_in}
use Rattle.image_recovery_law.specs.Columns.{Columns, anchor_of, line_anchor}
use Rattle.image_recovery_law.specs.Rows.{image_columns}
use Rattle.image_recovery_law.specs.Stages.{Stage, Begins, Trims, nodes_of}
use Rattle.image_recovery_law.specs.Moves as law
use Rattle.image_recovery.specs.declared.moves.Move.{Move}
use Rattle.image_recovery.specs.declared.moves.Move.TheVariants.{Raise, Trim, Unset, Set, Empty}

-- What an image says, by its columns, and the list of its nodes.
abbrev pub columns : Row → Columns
columns image = image_columns image.layout image.words

abbrev pub list_of : Row → List ListNode
list_of image = image_list image.layout image.words

-- The words of a node.
abbrev pub spot_of : Row → ℕ → Spot
spot_of image n = image_spot image.layout image.words n

-- A live slot whose name is no lower than the node's anchor, and lower than that of the next node.
pub record IsKept (image : Row) (n slot : ℕ) : Type 0 where
  pub live : IsLiveIn (spot_of image n) slot
  pub between : IsBetween (spot_of image n) (spot_of image (next_in image.layout image.words n))
      (number_of (name_words (spot_of image n) slot))

-- A listed node that has the anchor of a line.
pub record HasAnchorOf (image : Row) (line n : ℕ) : Type 0 where
  pub listed : IsIn (list_of image) n
  pub same : anchor_of (columns image) n ≡ line_anchor (columns image) line

-- The moves as the law has them.
abbrev pub move_of : Move → law.Move
move_of Raise = law.Raise
move_of (Trim node bitmap) = law.Trim node bitmap
move_of (Unset line) = law.Unset line
move_of (Set line node) = law.Set line node
move_of (Empty line) = law.Empty line

-- These are the moves of a recovery of the image, from this stage on.
abbrev pub IsPlanFrom : Row → Stage → List law.Move → Type 0
IsPlanFrom image stage moves = law.Plan image.layout (list_of image) (columns image) stage moves

-- These are all moves of a recovery of the image.
abbrev pub IsPlanOf : Row → List Move → Type 0
IsPlanOf image moves = IsPlanFrom image Begins (map move_of moves)

-- These moves are planned up to this stage: with those from it on behind them, they are all.
pub record PlansTo (image : Row) (stage : Stage) (moves : List Move) : Type 0 where
  pub goes_on : (rest : List law.Move) → IsPlanFrom image stage rest →
      IsPlanFrom image Begins (map move_of moves ++ rest)

-- So they are up to the first node of the list,
abbrev pub IsRaised : Row → List Move → Type 0
IsRaised image moves = PlansTo image (Trims (nodes_of (list_of image))) moves

-- and with the move for a node, if it needs one, up to the nodes behind it.
pub record TrimsOne (image : Row) (n : ℕ) (before moves : List Move) : Type 0 where
  pub goes : (left : List ℕ) → PlansTo image (Trims (n ∷ left)) before → PlansTo image (Trims left) moves
