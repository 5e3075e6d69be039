-- What a turn of the updater, and the cover of the layer, rest on. No word of memory is in it, so it can be read off
-- a row of words whatever keeps the layer there.
use Rattle.std.specs.Prelude.{◌≡◌, ℕ, Bool, true}
use Rattle.pm_words.specs.Codes.{ready_state, merge_kind}
use Rattle.layer_map.specs.Layers.{Layer}
use Rattle.updater_law.specs.Covers.{Lines}

-- How many log lines and nodes there are, the stamp that the turn gives, and the greatest stamp that it releases.
pub record TurnTerms : Type 0 where
  pub lines : ℕ
  pub nodes : ℕ
  pub stamp : ℕ
  pub release : ℕ

pub record TurnFacts : Type 0 where
  pub listed : ℕ → Bool  -- which nodes are in the list
  pub anchor : ℕ → ℕ
  pub status : ℕ → ℕ
  pub stamp : ℕ → ℕ  -- 0 for a node that has none
  pub held : ℕ → Bool  -- some party has the node's lock
  pub holder : ℕ → ℕ  -- which one, where one has it
  pub worn : ℕ → Bool
  pub line : Lines  -- the log lines of the cached row
  pub safe_line : Lines  -- and of the durable one
  pub layer : Layer  -- the search layer of the cached row
  pub safe_layer : Layer  -- and of the durable one

abbrev pub IsListed : TurnFacts → ℕ → Type 0
IsListed f n = f.listed n ≡ true

-- a ready line of a merge has this node
pub record HasReadyMerge (f : TurnFacts) (n : ℕ) : Type 0 where
  pub line : ℕ
  pub state : f.line.state line ≡ ready_state
  pub kind : f.line.kind line ≡ merge_kind
  pub node : f.line.node line ≡ n
