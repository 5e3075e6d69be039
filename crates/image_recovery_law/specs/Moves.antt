-- The moves of a recovery, as planned on the image with which it begins.
use Rattle.std.specs.Prelude.{◌≡◌, ◌≢◌, ℕ, suc, ◌≤◌, ◌⊎◌, List, [], ◌∷◌}
use Rattle.pm_words.specs.Codes.{empty_state}
use Rattle.pm_words.specs.declared.layout.Layout.{Layout}
use Rattle.pm_words.specs.Offsets.{bitmap_offset, state_offset}
use Rattle.data_node.specs.Spots.{updated}
use Rattle.data_node.specs.Lists.{ListNode, range_in, IsIn, StaysIn}
use Rattle.updater_row_law.specs.Columns.{line_count}
use Rattle.image_recovery_law.specs.Columns.{Columns, anchor_of, line_anchor, IsSound, IsTrim, Mends}
use Rattle.image_recovery_law.specs.Stages.{nodes_of, HasAnchor, LacksAnchor, Stage, Begins, Trims, Unsets, Sets}
use Rattle.image_recovery_law.specs.Stages.{Empties}
use Rattle.image_recovery_law.specs.Stages.{Wakes, Sure}

-- the bitmap clears the names of the node that are out of its range, and no other
pub record TrimsNode (l : Layout) (list : List ListNode) (i : Columns) (n bits : ℕ) : Type 0 where
  pub trim : IsTrim l.slots (range_in list n) (i.spot n) bits
  pub stays : StaysIn l.slots (range_in list n) (updated (i.spot n) bitmap_offset bits)

pub data Move : Type 0 where
  Raise : Move
  Trim : ℕ → ℕ → Move  -- the node, and its bitmap
  Unset : ℕ → Move  -- the line
  Set : ℕ → ℕ → Move  -- the line, and the node
  Empty : ℕ → Move

-- These are the moves from this stage on. It speaks of the first image alone.
pub data Plan (l : Layout) (list : List ListNode) (o : Columns) : Stage → List Move → Type 0 where
  raise : {moves : List Move} → Plan l list o (Trims (nodes_of list)) moves → Plan l list o Begins (Raise ∷ moves)
  trim : (n bits : ℕ) {left : List ℕ} {moves : List Move} → IsIn list n → TrimsNode l list o n bits →
      Plan l list o (Trims left) moves → Plan l list o (Trims (n ∷ left)) (Trim n bits ∷ moves)
  leaves_node : (n : ℕ) {left : List ℕ} {moves : List Move} → IsIn list n →
      StaysIn l.slots (range_in list n) (o.spot n) → Plan l list o (Trims left) moves →
      Plan l list o (Trims (n ∷ left)) moves
  to_unsets : {moves : List Move} → Plan l list o (Unsets 0) moves → Plan l list o (Trims []) moves
  unset_line : (j : ℕ) {moves : List Move} → o.line j state_offset ≢ empty_state → LacksAnchor list o j →
      Plan l list o (Unsets (suc j)) moves → Plan l list o (Unsets j) (Unset j ∷ moves)
  leaves_unset : (j : ℕ) {moves : List Move} → (o.line j state_offset ≡ empty_state) ⊎ HasAnchor list o j →
      Plan l list o (Unsets (suc j)) moves → Plan l list o (Unsets j) moves
  to_sets : (j : ℕ) {moves : List Move} → line_count l ≤ j → Plan l list o (Sets 0) moves →
      Plan l list o (Unsets j) moves
  set_line : (j n : ℕ) {moves : List Move} → o.line j state_offset ≢ empty_state → IsIn list n →
      anchor_of o n ≡ line_anchor o j → Plan l list o (Sets (suc j)) moves → Plan l list o (Sets j) (Set j n ∷ moves)
  leaves_set : (j : ℕ) {moves : List Move} → (o.line j state_offset ≡ empty_state) ⊎ LacksAnchor list o j →
      Plan l list o (Sets (suc j)) moves → Plan l list o (Sets j) moves
  to_empties : (j : ℕ) {moves : List Move} → line_count l ≤ j → Plan l list o (Empties 0) moves →
      Plan l list o (Sets j) moves
  empty_line : (j : ℕ) {moves : List Move} → o.line j state_offset ≢ empty_state →
      Plan l list o (Empties (suc j)) moves → Plan l list o (Empties j) (Empty j ∷ moves)
  leaves_empty : (j : ℕ) {moves : List Move} → o.line j state_offset ≡ empty_state →
      Plan l list o (Empties (suc j)) moves → Plan l list o (Empties j) moves
  ends : (j : ℕ) → line_count l ≤ j → Plan l list o (Empties j) []

-- At this stage the move is to be made, and then come those.
pub data Takes (l : Layout) (list : List ListNode) (o : Columns) : Stage → Move → List Move → Type 0 where
  raises_now : {moves : List Move} → Plan l list o (Trims (nodes_of list)) moves → Takes l list o Begins Raise moves
  trims_now : (n bits : ℕ) {left : List ℕ} {moves : List Move} → IsIn list n → TrimsNode l list o n bits →
      Plan l list o (Trims left) moves → Takes l list o (Trims (n ∷ left)) (Trim n bits) moves
  unsets_now : (j : ℕ) {moves : List Move} → o.line j state_offset ≢ empty_state → LacksAnchor list o j →
      Plan l list o (Unsets (suc j)) moves → Takes l list o (Unsets j) (Unset j) moves
  sets_now : (j n : ℕ) {moves : List Move} → o.line j state_offset ≢ empty_state → IsIn list n →
      anchor_of o n ≡ line_anchor o j → Plan l list o (Sets (suc j)) moves → Takes l list o (Sets j) (Set j n) moves
  empties_now : (j : ℕ) {moves : List Move} → o.line j state_offset ≢ empty_state →
      Plan l list o (Empties (suc j)) moves → Takes l list o (Empties j) (Empty j) moves

pub record IsNext (l : Layout) (list : List ListNode) (o now safe : Columns) (move : Move) (moves : List Move) : Type 0
  where
    pub stage : Stage
    pub sure : Sure l list o stage now safe
    pub takes : Takes l list o stage move moves

-- Between two moves a recovery passes, without an action, to the stage at which the next one is to be made,
abbrev pub PlanReaches : Type 0
PlanReaches = (l : Layout) (list : List ListNode) (o now safe : Columns) (s : Stage) (move : Move)
    (moves : List Move) → IsSound l list o → Sure l list o s now safe → Plan l list o s (move ∷ moves) →
    IsNext l list o now safe move moves

-- and after the last one to its end.
abbrev pub PlanEnds : Type 0
PlanEnds = (l : Layout) (list : List ListNode) (o now safe : Columns) (s : Stage) → IsSound l list o →
    Sure l list o s now safe → Plan l list o s [] → Sure l list o Wakes now safe

-- A bitmap that is planned on the first image serves at every moment of its recovery,
abbrev pub PlannedBitsServe : Type 0
PlannedBitsServe = (l : Layout) (list : List ListNode) (o now : Columns) (n bits : ℕ) → IsSound l list o →
    Mends l list o now → IsIn list n → TrimsNode l list o n bits → TrimsNode l list now n bits

-- and a node that had no live slot out of range has none at any.
abbrev pub PlannedNoneServes : Type 0
PlannedNoneServes = (l : Layout) (list : List ListNode) (o now : Columns) (n : ℕ) → Mends l list o now → IsIn list n →
    StaysIn l.slots (range_in list n) (o.spot n) → StaysIn l.slots (range_in list n) (now.spot n)
