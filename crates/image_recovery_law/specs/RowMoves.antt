-- The moves of a recovery on a row of words, action by action.
use Rattle.std.specs.Prelude.{◌≡◌, ◌≢◌, ℕ, suc, ◌<◌, List, [], ◌∷◌, length}
use Rattle.pm_words.specs.Codes.{empty_state}
use Rattle.pm_words.specs.declared.layout.Layout.{Layout}
use Rattle.pm_words.specs.declared.action.Action.{Action}
use Rattle.pm_words.specs.declared.action.Action.TheVariants.{Store}
use Rattle.pm_words.specs.Locations.{Word, Header, Node, Cached, Durable, row_words, image_words}
use Rattle.pm_words.specs.Locations.{address_of, at}
use Rattle.pm_words.specs.Rows.{IsRow, acted, got, evicted}
use Rattle.pm_words.specs.Offsets.{bitmap_offset, state_offset, generation_offset}
use Rattle.data_node.specs.Lists.{ListNode, IsIn}
use Rattle.layer_map.specs.Layers.{Layer, HasFew}
use Rattle.updater_row_law.specs.tree_update.specs.Stages.{Aim, IsRooted}
use Rattle.updater_row_law.specs.search_layer.specs.ChangeStages.{Changing, Changed, ChangeStep, start_stage}
use Rattle.updater_row_law.specs.search_layer.specs.Rows.{layer_words, layer_marks, KeepsOthers}
use Rattle.updater_row_law.specs.search_layer.specs.Kept.{layer_of, MarksTell}
use Rattle.updater_row_law.specs.search_layer.specs.Laws.{SureIn}
use Rattle.updater_row_law.specs.search_layer.specs.RootLine.{HoldsRoot}
use Rattle.updater_row_law.specs.Columns.{line_count, line_word}
use Rattle.image_recovery_law.specs.Columns.{Columns, anchor_of, line_anchor, IsSound}
use Rattle.image_recovery_law.specs.Stages.{nodes_of, aim_at, LacksAnchor, Stage, Begins, Raised, Trims}
use Rattle.image_recovery_law.specs.Stages.{Trimmed, Unsets, Unsetting, Sets, Setting, Empties, Emptied, Wakes, Sure}
use Rattle.image_recovery_law.specs.Stages.{ChangesTo}
use Rattle.image_recovery_law.specs.Moves.{Move, TrimsNode, Plan, Takes}
use Rattle.image_recovery_law.specs.Rows.{columns_in}

-- The marks of the row tell which leaves and cells its root leads to.
abbrev pub MarksTellIn : Layout → List ℕ → Type 0
MarksTellIn l words = MarksTell l (layer_marks l words) (layer_words l words Cached)

-- What a change of the layer knows of the row, with its marks, where it began on this layer.
pub record IsChangingIn (l : Layout) (aim : Aim) (before : Layer) (c : Changing) (words : List ℕ) : Type 0 where
  pub sure : SureIn l before aim c words
  pub holds : HoldsRoot l c words

-- What no column tells: between two changes of the layer the marks tell what its root leads to, and during one they are
-- what the change knows of them.
abbrev pub KnowsMarks : Layout → Columns → Stage → List ℕ → Type 0
KnowsMarks l o Begins words = MarksTellIn l words
KnowsMarks l o Raised words = MarksTellIn l words
KnowsMarks l o (Trims left) words = MarksTellIn l words
KnowsMarks l o (Trimmed n left) words = MarksTellIn l words
KnowsMarks l o (Unsets j) words = MarksTellIn l words
KnowsMarks l o (Unsetting j before c) words = IsChangingIn l (aim_at o j 0) before c words
KnowsMarks l o (Sets j) words = MarksTellIn l words
KnowsMarks l o (Setting j n before c) words = IsChangingIn l (aim_at o j (suc n)) before c words
KnowsMarks l o (Empties j) words = MarksTellIn l words
KnowsMarks l o (Emptied j) words = MarksTellIn l words
KnowsMarks l o Wakes words = MarksTellIn l words

-- what a recovery of o is sure of a row
pub record RowSure (l : Layout) (list : List ListNode) (o : Columns) (s : Stage) (words : List ℕ) : Type 0 where
  pub sure : Sure l list o s (columns_in l words Cached) (columns_in l words Durable)
  pub marks : KnowsMarks l o s words

-- A move stores this value into this word: from the stage before to the one after the store, and to the last one once
-- the word is durable.
pub data MoveStore (l : Layout) (list : List ListNode) (o : Columns) : Stage → Word → ℕ → Stage → Stage → Type 0 where
  of_generation : MoveStore l list o Begins (Header generation_offset) (suc o.generation) Raised (Trims (nodes_of list))
  of_bits : (n bits : ℕ) (left : List ℕ) → n < l.nodes → IsIn list n → TrimsNode l list o n bits →
      MoveStore l list o (Trims (n ∷ left)) (Node n bitmap_offset) bits (Trimmed n left) (Trims left)
  of_empty : (j : ℕ) → j < line_count l →
      MoveStore l list o (Empties j) (line_word state_offset j) empty_state (Emptied j) (Empties (suc j))

-- The store of a move keeps what the recovery is sure of,
abbrev pub MoveStores : Type 0
MoveStores = (l : Layout) (list : List ListNode) (o : Columns) (words : List ℕ) (s t u : Stage) (w : Word)
    (value : ℕ) → length words ≡ row_words l → IsSound l list o → RowSure l list o s words →
    MoveStore l list o s w value t u → RowSure l list o t (acted l words (Store (address_of l (Cached w)) value))

-- so does its end, once the word is durable,
abbrev pub MoveEnds : Type 0
MoveEnds = (l : Layout) (list : List ListNode) (o : Columns) (words : List ℕ) (s t u : Stage) (w : Word)
    (value : ℕ) → IsSound l list o → RowSure l list o t words → MoveStore l list o s w value t u →
    at l words (Durable w) ≡ at l words (Cached w) → RowSure l list o u words

-- so does any word that becomes durable,
abbrev pub RowEvicts : Type 0
RowEvicts = (l : Layout) (list : List ListNode) (o : Columns) (words : List ℕ) (s : Stage) (word : ℕ) →
    length words ≡ row_words l → word < image_words l → IsSound l list o → RowSure l list o s words →
    RowSure l list o s (evicted l words word)

-- and so does a step of a change of the layer: of whichever change, where an unset is of another key than zero, which
-- leads somewhere, and a set began with at most as many keys as nodes,
abbrev pub ChangesOnRows : Type 0
ChangesOnRows = (l : Layout) (aim : Aim) (before : Layer) (words : List ℕ) (s t : Changing) (a : Action) →
    IsRow l words → (aim.word ≢ 0 → HasFew l.nodes before) → IsRooted aim before →
    IsChangingIn l aim before s words → ChangeStep l aim s a (got l words a) t →
    IsChangingIn l aim before t (acted l words a) ×
    ChangesTo l aim before t (layer_words l (acted l words a) Cached) (layer_words l (acted l words a) Durable)

-- and so of one that takes out the anchor of a line, or sets it: as it begins,
abbrev pub UnsetBegins : Type 0
UnsetBegins = (l : Layout) (list : List ListNode) (o : Columns) (words : List ℕ) (j : ℕ) → IsRow l words →
    IsSound l list o → RowSure l list o (Unsets j) words → o.line j state_offset ≢ empty_state → LacksAnchor list o j →
    RowSure l list o (Unsetting j (layer_of l words) (start_stage l (aim_at o j 0))) words

abbrev pub SetBegins : Type 0
SetBegins = (l : Layout) (list : List ListNode) (o : Columns) (words : List ℕ) (j n : ℕ) → IsRow l words →
    IsSound l list o → RowSure l list o (Sets j) words → o.line j state_offset ≢ empty_state → IsIn list n →
    anchor_of o n ≡ line_anchor o j →
    RowSure l list o (Setting j n (layer_of l words) (start_stage l (aim_at o j (suc n)))) words

-- as it goes, where no word but the layer's changes,
abbrev pub UnsetGoes : Type 0
UnsetGoes = (l : Layout) (list : List ListNode) (o : Columns) (words : List ℕ) (j : ℕ) (before : Layer)
    (c next : Changing) (a : Action) → IsRow l words → IsSound l list o →
    RowSure l list o (Unsetting j before c) words → ChangeStep l (aim_at o j 0) c a (got l words a) next →
    RowSure l list o (Unsetting j before next) (acted l words a) × KeepsOthers l words (acted l words a)

abbrev pub SetGoes : Type 0
SetGoes = (l : Layout) (list : List ListNode) (o : Columns) (words : List ℕ) (j n : ℕ) (before : Layer)
    (c next : Changing) (a : Action) → IsRow l words → IsSound l list o →
    RowSure l list o (Setting j n before c) words → ChangeStep l (aim_at o j (suc n)) c a (got l words a) next →
    RowSure l list o (Setting j n before next) (acted l words a) × KeepsOthers l words (acted l words a)

-- and as it ends.
abbrev pub UnsetEnds : Type 0
UnsetEnds = (l : Layout) (list : List ListNode) (o : Columns) (words : List ℕ) (j : ℕ) (before : Layer) →
    IsSound l list o → RowSure l list o (Unsetting j before Changed) words → RowSure l list o (Unsets (suc j)) words

abbrev pub SetEnds : Type 0
SetEnds = (l : Layout) (list : List ListNode) (o : Columns) (words : List ℕ) (j n : ℕ) (before : Layer) →
    IsSound l list o → RowSure l list o (Setting j n before Changed) words → RowSure l list o (Sets (suc j)) words

-- Between two moves a recovery passes, without an action, to the stage at which the next one is to be made, and after
-- the last one to its end.
pub record IsNextOn (l : Layout) (list : List ListNode) (o : Columns) (words : List ℕ) (move : Move)
    (moves : List Move) : Type 0 where
  pub stage : Stage
  pub sure : RowSure l list o stage words
  pub takes : Takes l list o stage move moves

abbrev pub RowReaches : Type 0
RowReaches = (l : Layout) (list : List ListNode) (o : Columns) (words : List ℕ) (s : Stage) (move : Move)
    (moves : List Move) → IsSound l list o → RowSure l list o s words → Plan l list o s (move ∷ moves) →
    IsNextOn l list o words move moves

abbrev pub RowEnds : Type 0
RowEnds = (l : Layout) (list : List ListNode) (o : Columns) (words : List ℕ) (s : Stage) → IsSound l list o →
    RowSure l list o s words → Plan l list o s [] → RowSure l list o Wakes words
