-- What a line of the log may hold, by its words: a state, a kind, a node, an anchor, another node, and 0.
use Rattle.std.specs.Prelude.{◌≡◌, ℕ, ◌<◌, ◌≤◌, ◌⊎◌, List}
use Rattle.cat_key.specs.Names.{IsName, words_of}
use Rattle.pm_words.specs.Codes.{empty_state, ready_state, split_kind, merge_kind}
use Rattle.pm_words.specs.Offsets.{state_offset, kind_offset, line_node_offset, left_offset, spare_offset}
use Rattle.data_node.specs.Spots.{Spot}
use Rattle.data_node.specs.Lists.{anchor_words}

-- A line that isn't EMPTY: a split or a merge of two nodes, with the anchor of the new or the merged one.
pub record IsEntry (nodes : ℕ) (s : Spot) : Type 0 where
  pub state : s state_offset ≤ ready_state
  pub kind : (s kind_offset ≡ split_kind) ⊎ (s kind_offset ≡ merge_kind)
  pub node : (1 ≤ s line_node_offset) × (s line_node_offset < nodes)
  pub name : List ℕ
  pub is_name : IsName name
  pub anchor : anchor_words s ≡ words_of name
  pub left : s left_offset < nodes
  pub zero : s spare_offset ≡ 0

-- A line is EMPTY, or holds such a change.
abbrev pub IsFitLine : ℕ → Spot → Type 0
IsFitLine nodes s = (s state_offset ≡ empty_state) ⊎ IsEntry nodes s
