-- How far a turn is that is made with nothing else in flight, by the words that it changes beside the search layer.
use Rattle.std.specs.Prelude.{◌≡◌, ℕ, ◌<◌, ◌≤◌, ◌⊎◌, true}
use Rattle.pm_words.specs.Codes.{gone_status, empty_state}
use Rattle.index_law.specs.Worlds.{World, facts}
use Rattle.index_layer_law.specs.updater_row_law.specs.RowStages.{RowStage, Resting, Between, Reads, Lands, HasTarget}
use Rattle.index_layer_law.specs.updater_row_law.specs.RowStages.{Changes, Stamps}
use Rattle.index_layer_law.specs.updater_row_law.specs.RowStages.{Clears}
use Rattle.index_layer_law.specs.updater_row_law.specs.RowStages.{Sweeps, Gone, HasStamp, IsUnworn, Frees, Counts}
use Rattle.lone_updater_law.specs.LoneTurns.{line_state, stamp_in, stamp_then, frees_node, status_then}

-- The states of the log lines, and the statuses and the stamps of the nodes.
pub record Marks : Type 0 where
  pub state : ℕ → ℕ
  pub status : ℕ → ℕ
  pub stamp : ℕ → ℕ

abbrev pub marks_in : World → Marks
marks_in w = record { state = line_state w; status = (facts w).status; stamp = stamp_in w }

-- It has been at the lines before this one, and has emptied them. Nodes that had no stamp may have the turn's by now.
pub record HasEmptied (before : World) (stamp : ℕ) (m : Marks) (j : ℕ) : Type 0 where
  pub empty : (k : ℕ) → k < j → m.state k ≡ empty_state
  pub rest : (k : ℕ) → j ≤ k → m.state k ≡ line_state before k
  pub statuses : (n : ℕ) → m.status n ≡ (facts before).status n
  pub stamps : (n : ℕ) → (m.stamp n ≡ stamp_in before n) ⊎ ((stamp_in before n ≡ 0) × (m.stamp n ≡ stamp))

-- The node is as the turn leaves it; or the turn has yet to come to it, and if it is GONE, it has its stamp.
pub record IsSwept (before : World) (stamp release : ℕ) (m : Marks) (n : ℕ) : Type 0 where
  pub status : m.status n ≡ status_then before stamp release n
  pub stamped : m.status n ≡ gone_status → m.stamp n ≡ stamp_then before stamp n

pub record IsAhead (before : World) (stamp : ℕ) (m : Marks) (n : ℕ) : Type 0 where
  pub status : m.status n ≡ (facts before).status n
  pub stamped : m.status n ≡ gone_status → m.stamp n ≡ stamp_then before stamp n

-- It has been at all lines, and at the nodes before this one.
pub record HasSwept (before : World) (stamp release : ℕ) (m : Marks) (n : ℕ) : Type 0 where
  pub empty : (k : ℕ) → m.state k ≡ empty_state
  pub left : (i : ℕ) → i < n → IsSwept before stamp release m i
  pub ahead : (i : ℕ) → n ≤ i → IsAhead before stamp m i

-- And it is to make this one FREE, whose stamp it has taken away.
pub record HasUnstamped (before : World) (stamp release : ℕ) (m : Marks) (n : ℕ) : Type 0 where
  pub empty : (k : ℕ) → m.state k ≡ empty_state
  pub left : (i : ℕ) → i < n → IsSwept before stamp release m i
  pub freed : frees_node before stamp release n ≡ true
  pub ahead : (i : ℕ) → n < i → IsAhead before stamp m i

-- What it has done at each stage; once it rests again, all of it.
abbrev pub HasDone : World → ℕ → ℕ → Marks → RowStage → Type 0
HasDone before stamp release m Resting = HasSwept before stamp release m before.layout.nodes
HasDone before stamp release m (Between j) = HasEmptied before stamp m j
HasDone before stamp release m (Reads j offset seen) = HasEmptied before stamp m j
HasDone before stamp release m (Lands e) = HasEmptied before stamp m e.line
HasDone before stamp release m (HasTarget e target) = HasEmptied before stamp m e.line
HasDone before stamp release m (Changes e word s) = HasEmptied before stamp m e.line
HasDone before stamp release m (Stamps e) = HasEmptied before stamp m e.line
HasDone before stamp release m (Clears j) = HasEmptied before stamp m j
HasDone before stamp release m (Sweeps n) = HasSwept before stamp release m n
HasDone before stamp release m (Gone n) = HasSwept before stamp release m n
HasDone before stamp release m (HasStamp n) = HasSwept before stamp release m n
HasDone before stamp release m (IsUnworn n) = HasSwept before stamp release m n
HasDone before stamp release m (Frees n) = HasUnstamped before stamp release m n
HasDone before stamp release m (Counts n none) = HasSwept before stamp release m before.layout.nodes
