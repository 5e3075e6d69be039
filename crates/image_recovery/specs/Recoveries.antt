-- A recovery between any two of its actions.
use Rattle.std.specs.Prelude.{◌≡◌, ◌+◌, ◌<◌, ◌≤◌, ◌⊎◌, ℕ, suc, List, map, drop, get_or, length, Option, Some, None}
use Rattle.pm_words.specs.declared.machine.Turn.{Turn}
use Rattle.pm_words.specs.declared.machine.Turn.TheVariants.{Go, Done}
use Rattle.pm_words.specs.Images.{Row}
use Rattle.pm_words.specs.Locations.{image_words}
use Rattle.pm_words.specs.Rows.{acted, durable_row, evicted, got}
use Rattle.image_recovery_law.specs.Moves as law
use Rattle.image_recovery.specs.declared.making.Making.{Making}
use Rattle.image_recovery.specs.declared.moves.Move.TheVariants.{Raise}
use Rattle.image_recovery.specs.declared.stepping.Begun.{Begun}
use Rattle.image_recovery.specs.declared.stepping.Recovery.{Recovery}
use Rattle.image_recovery.specs.Plans.{columns, list_of, move_of}
use Rattle.image_recovery.specs.Makings.{making_asks, making_left, making_of, making_turned}
use Rattle.image_recovery.specs.MakingLaw.{IsAtMove}
use Rattle.image_recovery.specs.Recovered.{IsRecoverable, IsOpenedOn, IsUnderWay, IsRecoveredTo, IsLeftOf}

-- The moves that have yet to begin.
abbrev pub moves_left : Recovery → List law.Move
moves_left recovery = map move_of (drop recovery.begun recovery.moves.items)

-- The rows are those of a recovery of the image at this move, and these are left behind it.
pub record IsMakingOne (image row : Row) (rest : List law.Move) (making : Making) : Type 0 where
  pub layout : row.layout ≡ image.layout
  pub here : IsAtMove image.layout (list_of image) (columns image) rest row.words making

-- They are those of this recovery of the image, between two moves or at one.
abbrev pub IsRecoveringAt : Row → Row → List law.Move → Option Making → Type 0
IsRecoveringAt image row rest None = IsUnderWay image row rest
IsRecoveringAt image row rest (Some making) = IsMakingOne image row rest making

abbrev pub IsRecovering : Row → Recovery → Row → Type 0
IsRecovering image recovery row = IsRecoveringAt image row (moves_left recovery) recovery.making

-- They are those of some image's.
pub record MayStep (recovery : Recovery) (row : Row) : Type 0 where
  pub image : Row
  pub recoverable : IsRecoverable image
  pub recovering : IsRecovering image recovery row

-- It has a move at hand that is made for some image, and these are left behind it.
pub record MayFinish (row : Row) (making : Making) : Type 0 where
  pub image : Row
  pub rest : List law.Move
  pub recoverable : IsRecoverable image
  pub one : IsMakingOne image row rest making

-- A recovery of the image, and the memory on which it is made: no move has begun, and the words are the image's, but
-- for the marks of its layer.
pub record IsBegun (image : Row) (begun : Begun) : Type 0 where
  pub recoverable : IsRecoverable image
  pub recovering : IsRecovering image begun.recovery begun.memory
  pub none : begun.recovery.begun ≡ 0
  pub at_none : begun.recovery.making ≡ None
  pub opened : IsOpenedOn image begun.memory

-- All moves are made.
abbrev pub HasEnded : Recovery → Type 0
HasEnded recovery = (recovery.making ≡ None) × (length recovery.moves.items ≤ recovery.begun)

-- The move that it was at is taken, or else the next one of its moves has begun on these words.
pub record IsTaken (old : Recovery) (row : Row) (new : Recovery) (making : Making) : Type 0 where
  pub moves : new.moves ≡ old.moves
  pub which : ((new.begun ≡ old.begun) × (old.making ≡ Some making)) ⊎ ((new.begun ≡ old.begun + 1) ×
      (old.making ≡ None) × (old.begun < length old.moves.items) ×
      (making ≡ making_of row (get_or old.moves.items old.begun Raise)))

-- the move at hand once it has come so far
abbrev pub left_by : Turn Making (Unit {0}) → Option Making
left_by (Go making) = Some making
left_by (Done answer) = None

-- It has made the one action that its move at hand asked for, and nothing else.
pub record MakesOne (old : Recovery) (row : Row) (new : Recovery) (after : Row) : Type 0 where
  pub making : Making
  pub taken : IsTaken old row new making
  pub acts : after ≡ record row { words = acted row.layout row.words (making_asks making) }
  pub left : new.making ≡ left_by (making_turned making (got row.layout row.words (making_asks making)))

-- how many actions the move at hand asks for at most
abbrev pub actions_left : Option Making → ℕ
actions_left None = 0
actions_left (Some making) = suc (making_left making)

-- It has come nearer to its end: more moves have begun, or as many, and the one at hand asks for fewer actions.
pub record IsNearer (old new : Recovery) : Type 0 where
  pub moves : new.moves ≡ old.moves
  pub nearer : (old.begun < new.begun) ⊎ ((new.begun ≡ old.begun) × (actions_left new.making < actions_left old.making))

-- Once it has ended, the image is recovered.
abbrev pub EndIsRecovered : Type 0
EndIsRecovered = (image : Row) (recovery : Recovery) (row : Row) → IsRecoverable image →
    IsRecovering image recovery row → HasEnded recovery → IsRecoveredTo image row

-- A word may become durable at any time.
abbrev pub RecoveringEvicts : Type 0
RecoveringEvicts = (image : Row) (recovery : Recovery) (row : Row) (word : ℕ) → IsRecoverable image →
    word < image_words image.layout → IsRecovering image recovery row →
    IsRecovering image recovery (record row { words = evicted row.layout row.words word })

-- Whenever it is stopped, a crash leaves an image that may be recovered again.
abbrev pub StopLeavesSound : Type 0
StopLeavesSound = (image : Row) (recovery : Recovery) (row : Row) → IsRecoverable image →
    IsRecovering image recovery row → IsLeftOf image (durable_row image.layout row.words)
