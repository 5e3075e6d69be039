-- The kinds of step of a turn by the action that it makes: from a stage, by an action that gives a number, to the next.
use Rattle.std.specs.Prelude.{◌≡◌, ◌≢◌, ℕ, ◌+◌, ◌==◌, ◌<◌, ◌≤◌, ◌&&◌, not, ◌⊎◌, Bool, true, false, List}
use Rattle.std.specs.Prelude.{slice_set, length}
use Rattle.pm_words.specs.Codes.{free_status, gone_status, empty_state, ready_state, untaken_lock, taken_lock}
use Rattle.pm_words.specs.declared.action.Action.{Action}
use Rattle.pm_words.specs.declared.action.Action.TheVariants.{Load, Store, Exchange}
use Rattle.pm_words.specs.declared.layout.Layout.{Layout}
use Rattle.pm_words.specs.Locations.{Cached, Volatile, Updater, Node, address_of, row_words}
use Rattle.pm_words.specs.Offsets.{version_offset, anchor_offset, state_offset, kind_offset, left_offset, status_offset}
use Rattle.pm_words.specs.Offsets.{stamp_offset}
use Rattle.version_lock.specs.Versions.{is_free_word, is_worn_word}
use Rattle.search_layer.specs.ChangeStages.{Changing, Changed, ChangeStep}
use Rattle.search_layer.specs.ChangeStages.{start_stage}
use Rattle.updater_row_law.specs.Columns.{RowTerms, line_count, line_word}
use Rattle.updater_row_law.specs.RowStages.{RowLine, RowTarget, line_read, word_at, aim_of, RowStage, Resting}
use Rattle.updater_row_law.specs.RowStages.{Between, Reads, Lands, HasTarget, Changes, Stamps, Clears, Sweeps, Gone}
use Rattle.updater_row_law.specs.RowStages.{HasStamp}
use Rattle.updater_row_law.specs.RowStages.{IsUnworn, Frees, Counts, after_line, after_node, after_change}

-- The addresses of the updater lock; of a line's word by line and offset; of a node's volatile word, and of its version
-- word.
abbrev pub lock_at : Layout → ℕ
lock_at l = address_of l Updater

abbrev pub line_at : Layout → ℕ → ℕ → ℕ
line_at l j offset = address_of l (Cached (line_word offset j))

abbrev pub volatile_at : Layout → ℕ → ℕ → ℕ
volatile_at l n offset = address_of l (Volatile n offset)

abbrev pub version_at : Layout → ℕ → ℕ
version_at l n = address_of l (Cached (Node n version_offset))

pub data RowStep (r : RowTerms) : RowStage → Action → ℕ → RowStage → Type 0 where
  -- it takes the updater lock, or finds it taken
  takes_lock : {x : ℕ} → x ≡ untaken_lock → RowStep r Resting (Exchange (lock_at r.layout) untaken_lock taken_lock) x (Between 0)
  finds_held : {x : ℕ} → x ≢ untaken_lock → RowStep r Resting (Exchange (lock_at r.layout) untaken_lock taken_lock) x Resting
  -- it loads the state of a line
  passes : {j x : ℕ} → j < line_count r.layout → x ≢ ready_state →
      RowStep r (Between j) (Load (line_at r.layout j state_offset)) x (after_line r j)
  sees : {j x : ℕ} (seen : List ℕ) → j < line_count r.layout → x ≡ ready_state → length seen ≡ 7 →
      RowStep r (Between j) (Load (line_at r.layout j state_offset)) x (Reads j kind_offset (slice_set seen state_offset x))
  -- it loads a further word of the line, and the last; the first word of its anchor isn't 0
  reads : {j offset x : ℕ} {seen : List ℕ} → j < line_count r.layout → 1 ≤ offset → offset < 6 →
      (offset ≡ anchor_offset → x ≢ 0) →
      RowStep r (Reads j offset seen) (Load (line_at r.layout j offset)) x
      (Reads j (offset + 1) (slice_set seen offset x))
  has_read : {j x : ℕ} {seen : List ℕ} → j < line_count r.layout →
      RowStep r (Reads j left_offset seen) (Load (line_at r.layout j left_offset)) x (Lands (line_read j (slice_set seen left_offset x)))
  -- any load of the floor and of the walk; the walk is turned back, or has come to a target, whose version was free
  walks : {e : RowLine} {address x : ℕ} → address < row_words r.layout →
      RowStep r (Lands e) (Load address) x (Lands e)
  is_turned_back : {e : RowLine} {address x : ℕ} → address < row_words r.layout →
      RowStep r (Lands e) (Load address) x (after_line r e.line)
  finds : {e : RowLine} {target : RowTarget} {address x : ℕ} → address < row_words r.layout →
      target.node < r.layout.nodes → is_free_word target.version r.generation ≡ true →
      RowStep r (Lands e) (Load address) x (HasTarget e target)
  -- the second load of the target's version: the line is left, or what the list has at the anchor is known
  loses : {e : RowLine} {target : RowTarget} {x : ℕ} → x ≢ target.version →
      RowStep r (HasTarget e target) (Load (version_at r.layout target.node)) x (after_line r e.line)
  decides : {e : RowLine} {target : RowTarget} {x : ℕ} → x ≡ target.version →
      RowStep r (HasTarget e target) (Load (version_at r.layout target.node)) x
      (Changes e (word_at e.anchor target) (start_stage r.layout (aim_of e (word_at e.anchor target))))
  -- a step of the change of the layer, and its last
  changes : {e : RowLine} {word x : ℕ} {s t : Changing} {a : Action} → ChangeStep r.layout (aim_of e word) s a x t →
      RowStep r (Changes e word s) a x (Changes e word t)
  has_changed : {e : RowLine} {word x : ℕ} {s : Changing} {a : Action} →
      ChangeStep r.layout (aim_of e word) s a x Changed → RowStep r (Changes e word s) a x (after_change e)
  -- it stamps the merged node, and empties the line
  stamps : {e : RowLine} {x : ℕ} → e.node < r.layout.nodes →
      RowStep r (Stamps e) (Store (volatile_at r.layout e.node stamp_offset) r.stamp) x (Clears e.line)
  empties : {j x : ℕ} → j < line_count r.layout →
      RowStep r (Clears j) (Store (line_at r.layout j state_offset) empty_state) x (after_line r j)
  -- it loads the status of a node, its stamp, its version
  passes_node : {n x : ℕ} → n < r.layout.nodes → x ≢ gone_status →
      RowStep r (Sweeps n) (Load (volatile_at r.layout n status_offset)) x (after_node r n)
  sees_gone : {n x : ℕ} → n < r.layout.nodes → x ≡ gone_status →
      RowStep r (Sweeps n) (Load (volatile_at r.layout n status_offset)) x (Gone n)
  passes_stamp : {n x : ℕ} → n < r.layout.nodes → (x ≡ 0) ⊎ (r.release < x) →
      RowStep r (Gone n) (Load (volatile_at r.layout n stamp_offset)) x (after_node r n)
  sees_stamp : {n x : ℕ} → n < r.layout.nodes → x ≢ 0 → x ≤ r.release →
      RowStep r (Gone n) (Load (volatile_at r.layout n stamp_offset)) x (HasStamp n)
  passes_worn : {n x : ℕ} → n < r.layout.nodes → is_worn_word x r.generation ≡ true →
      RowStep r (HasStamp n) (Load (version_at r.layout n)) x (after_node r n)
  sees_unworn : {n x : ℕ} → n < r.layout.nodes → is_worn_word x r.generation ≡ false →
      RowStep r (HasStamp n) (Load (version_at r.layout n)) x (IsUnworn n)
  -- it takes the stamp away, and makes the node free
  unstamps : {n x : ℕ} → n < r.layout.nodes →
      RowStep r (IsUnworn n) (Store (volatile_at r.layout n stamp_offset) 0) x (Frees n)
  frees : {n x : ℕ} → n < r.layout.nodes →
      RowStep r (Frees n) (Store (volatile_at r.layout n status_offset) free_status) x (after_node r n)
  -- it loads the statuses once more, and gives the lock back
  counts : {n x : ℕ} {none : Bool} → n < r.layout.nodes →
      RowStep r (Counts n none) (Load (volatile_at r.layout n status_offset)) x (Counts (n + 1) (none && not (x == free_status)))
  leaves_lock : {n x : ℕ} {none : Bool} → r.layout.nodes ≤ n →
      RowStep r (Counts n none) (Store (lock_at r.layout) untaken_lock) x Resting
