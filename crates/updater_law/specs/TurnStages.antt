-- Where a turn of the updater is between its steps, and what it has loaded.
use Rattle.std.specs.Prelude.{ℕ, Bool, Option}

-- A ready line as it was read: its number, its kind, its node, and its anchor.
pub record ReadyLine : Type 0 where
  pub line : ℕ
  pub kind : ℕ
  pub node : ℕ
  pub anchor : ℕ

pub data TurnStage : Type 0 where
  -- it hasn't the updater lock
  Resting : TurnStage
  -- it has the lock from here on, and comes to this line
  Between : ℕ → TurnStage
  -- it has loaded the state of this line, ready; then its kind; then its node
  Sees : ℕ → TurnStage
  SeesKind : ℕ → ℕ → TurnStage
  SeesNode : ℕ → ℕ → ℕ → TurnStage
  -- it has read the line, and looks for its anchor's target
  Lands : ReadyLine → TurnStage
  -- it has found what the list has at the anchor, a node or none, and changes the layer
  Changes : ReadyLine → Option ℕ → TurnStage
  -- the layer has it, and is durable; the line is of a merge, whose node it is to stamp
  Stamps : ReadyLine → TurnStage
  -- all is done that this line waits for
  Clears : ℕ → TurnStage
  -- all lines are done; it comes to this node
  Sweeps : ℕ → TurnStage
  -- it has loaded this node's status, gone; then its stamp, which the release allows; then its version, not worn
  Gone : ℕ → TurnStage
  HasStamp : ℕ → TurnStage
  IsUnworn : ℕ → TurnStage
  -- it has taken the stamp away
  Frees : ℕ → TurnStage
  -- all nodes are done; it loads their statuses once more, comes to this node, and has seen none free, or one
  Counts : ℕ → Bool → TurnStage
