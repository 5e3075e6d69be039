-- Log lines, and what they cover. A line is open from before its change of the list until a turn has carried that
-- change to the search layer, so where the layer differs from the list, it differs at the anchor of a line.
use Rattle.std.specs.Prelude.{◌≡◌, ◌≢◌, ℕ, ◌==◌, ◌⊎◌, if◌then◌else◌}
use Rattle.pm_words.specs.Codes.{empty_state}

-- a function that is another at one number
unfoldable pub set_at : {A : Type 0} → (ℕ → A) → ℕ → A → ℕ → A
set_at f n x m = if m == n then x else f m

-- The log lines of one row by number: their states and kinds, the node that is new or merged, and its anchor.
pub record Lines : Type 0 where
  pub state : ℕ → ℕ
  pub kind : ℕ → ℕ
  pub node : ℕ → ℕ
  pub anchor : ℕ → ℕ

-- some line of this row isn't empty, and has the key as its anchor
pub record IsOpenFor (lines : Lines) (key : ℕ) : Type 0 where
  pub line : ℕ
  pub state : lines.state line ≢ empty_state
  pub anchor : lines.anchor line ≡ key

-- this line isn't empty in either row, cached (now) or durable (safe), and has the key as its anchor in both
pub record IsCover (now safe : Lines) (key line : ℕ) : Type 0 where
  pub state : now.state line ≢ empty_state
  pub anchor : now.anchor line ≡ key
  pub safe_state : safe.state line ≢ empty_state
  pub safe_anchor : safe.anchor line ≡ key

-- some line covers the key
pub record HasCover (now safe : Lines) (key : ℕ) : Type 0 where
  pub line : ℕ
  pub covers : IsCover now safe key line

-- another line than this covers the key
pub record HasOtherCover (now safe : Lines) (key mine : ℕ) : Type 0 where
  pub line : ℕ
  pub apart : line ≢ mine
  pub covers : IsCover now safe key line

-- Words of the lines become durable, and the durable lines are then these: each word is that of the one row or of the
-- other, but that a state which a turn has emptied since may be made durable. So a line is EMPTY then only where one
-- row had it EMPTY. An anchor has several words, so it may be torn; but where both rows have one anchor, it stays that.
pub record LinesEvict (now safe lines : Lines) : Type 0 where
  pub state : (j : ℕ) → now.state j ≢ empty_state → safe.state j ≢ empty_state → lines.state j ≢ empty_state
  pub anchor : (j : ℕ) → safe.anchor j ≡ now.anchor j → lines.anchor j ≡ now.anchor j
