-- How far a recovery is, its steps, and what it is sure of between them.
use Rattle.std.specs.Prelude.{◌≡◌, ◌≢◌, ℕ, suc, ◌<◌, ◌≤◌, ◌⊎◌, ◌↔◌, List, [], ◌∷◌, Some, None}
use Rattle.pm_words.specs.Codes.{empty_state}
use Rattle.pm_words.specs.declared.layout.Layout.{Layout}
use Rattle.pm_words.specs.Offsets.{bitmap_offset, state_offset}
use Rattle.data_node.specs.Spots.{updated}
use Rattle.data_node.specs.Lists.{ListNode, range_in, IsIn, StaysIn, anchor_words}
use Rattle.layer_map.specs.Layers.{Layer}
use Rattle.updater_row_law.specs.search_layer.specs.Rows.{LayerWords, AreEven}
use Rattle.updater_row_law.specs.tree_update.specs.Stages.{Aim, made_of}
use Rattle.updater_row_law.specs.search_layer.specs.ChangeStages.{Changing, Changed, start_stage}
use Rattle.updater_row_law.specs.search_layer.specs.Laws.{BacksLayer}
use Rattle.updater_law.specs.Covers.{set_at}
use Rattle.updater_row_law.specs.Columns.{line_count}
use Rattle.image_recovery_law.specs.Columns.{Columns, anchor_of, line_anchor, layer_kept, IsTrim, MendsNodes}
use Rattle.image_recovery_law.specs.Columns.{MendsLayer}
use Rattle.image_recovery_law.specs.Columns.{Mends}

-- Columns with another generation, another bitmap of a node, a line EMPTY, another layer.
abbrev pub with_generation : Columns → ℕ → Columns
with_generation i generation = record i { generation = generation }

abbrev pub with_bits : Columns → ℕ → ℕ → Columns
with_bits i n bits = record i { spot = set_at i.spot n (updated (i.spot n) bitmap_offset bits) }

abbrev pub with_empty : Columns → ℕ → Columns
with_empty i j = record i { line = set_at i.line j (updated (i.line j) state_offset empty_state) }

abbrev pub with_layer : Columns → LayerWords → Columns
with_layer i layer = record i { layer = layer }

-- The nodes of the list in order, and whether a node is one of some.
abbrev pub nodes_behind : List ListNode → List ℕ
nodes_behind [] = []
nodes_behind (m ∷ behind) = m.node ∷ nodes_behind behind

abbrev pub nodes_of : List ListNode → List ℕ
nodes_of list = 0 ∷ nodes_behind list

abbrev pub IsOneOf : List ℕ → ℕ → Type 0
IsOneOf [] n = ⊥
IsOneOf (m ∷ others) n = (n ≡ m) ⊎ IsOneOf others n

-- The change that leads the anchor of a line to this node word.
abbrev pub aim_at : Columns → ℕ → ℕ → Aim
aim_at i j word = record { key = anchor_words (i.line j); word = word }

-- The list has a node with the line's anchor, or none.
abbrev pub HasAnchor : List ListNode → Columns → ℕ → Type 0
HasAnchor list i j = (n : ℕ) × IsIn list n × (anchor_of i n ≡ line_anchor i j)

abbrev pub LacksAnchor : List ListNode → Columns → ℕ → Type 0
LacksAnchor list i j = (n : ℕ) → IsIn list n → anchor_of i n ≢ line_anchor i j

pub data Stage : Type 0 where
  Begins : Stage
  -- the next generation is stored
  Raised : Stage
  -- it is durable; names out of range are cleared but in these nodes
  Trims : List ℕ → Stage
  -- the bitmap of this node is stored; these nodes come after it
  Trimmed : ℕ → List ℕ → Stage
  -- anchors that the list doesn't have are taken out of the layer, but for those of the lines from this one on; then
  -- the change that takes out that of this line, which began on this layer, is here
  Unsets : ℕ → Stage
  Unsetting : ℕ → Layer → Changing → Stage
  -- those that the list has are set, but for those of the lines from this one on; then the change that sets that of
  -- this line, to this node, which began on this layer, is here
  Sets : ℕ → Stage
  Setting : ℕ → ℕ → Layer → Changing → Stage
  -- lines below this one are EMPTY, and durable; then EMPTY of this one is stored
  Empties : ℕ → Stage
  Emptied : ℕ → Stage
  -- all is done, and all words are durable
  Wakes : Stage

-- What the words of the layer are, cached (w) and durable (s), while a change is here that began on this layer: in
-- order, whichever of them are durable, with the layer of its stage; and at its end all are durable.
pub record ChangesTo (l : Layout) (aim : Aim) (before : Layer) (c : Changing) (w s : LayerWords) : Type 0 where
  pub backs : BacksLayer l aim before c w s
  pub even : c ≡ Changed → AreEven w s

-- The kinds of step, from the cached (now) and the durable (safe) columns: to a stage and to the columns afterwards.
pub data Step (l : Layout) (list : List ListNode) (now safe : Columns) : Stage → Stage → Columns → Columns → Type 0
  where
    raises : Step l list now safe Begins Raised (with_generation now (suc now.generation)) safe
    raised : safe.generation ≡ now.generation → Step l list now safe Raised (Trims (nodes_of list)) now safe
    -- it comes to a node with no live slot out of range, and to another one
    passes_node : (n : ℕ) (left : List ℕ) → StaysIn l.slots (range_in list n) (now.spot n) →
        Step l list now safe (Trims (n ∷ left)) (Trims left) now safe
    trims : (n : ℕ) (left : List ℕ) (bits : ℕ) → IsTrim l.slots (range_in list n) (now.spot n) bits →
        StaysIn l.slots (range_in list n) (updated (now.spot n) bitmap_offset bits) →
        Step l list now safe (Trims (n ∷ left)) (Trimmed n left) (with_bits now n bits) safe
    trimmed : (n : ℕ) (left : List ℕ) → safe.spot n bitmap_offset ≡ now.spot n bitmap_offset →
        Step l list now safe (Trimmed n left) (Trims left) now safe
    all_trimmed : Step l list now safe (Trims []) (Unsets 0) now safe
    -- it comes to a line whose anchor isn't to be taken out, and to one whose is; then the change goes on, and ends
    passes_unset : (j : ℕ) → (now.line j state_offset ≡ empty_state) ⊎ HasAnchor list now j →
        Step l list now safe (Unsets j) (Unsets (suc j)) now safe
    unsets : (j : ℕ) → now.line j state_offset ≢ empty_state → LacksAnchor list now j →
        Step l list now safe (Unsets j) (Unsetting j (layer_kept l now) (start_stage l (aim_at now j 0))) now safe
    unsetting : (j : ℕ) (before : Layer) (c next : Changing) (w s : LayerWords) →
        ChangesTo l (aim_at now j 0) before next w s →
        Step l list now safe (Unsetting j before c) (Unsetting j before next) (with_layer now w) (with_layer safe s)
    unset : (j : ℕ) (before : Layer) → Step l list now safe (Unsetting j before Changed) (Unsets (suc j)) now safe
    all_unset : (j : ℕ) → line_count l ≤ j → Step l list now safe (Unsets j) (Sets 0) now safe
    -- the same of anchors that are to be set
    passes_set : (j : ℕ) → (now.line j state_offset ≡ empty_state) ⊎ LacksAnchor list now j →
        Step l list now safe (Sets j) (Sets (suc j)) now safe
    sets : (j n : ℕ) → now.line j state_offset ≢ empty_state → IsIn list n → anchor_of now n ≡ line_anchor now j →
        Step l list now safe (Sets j) (Setting j n (layer_kept l now) (start_stage l (aim_at now j (suc n)))) now safe
    setting : (j n : ℕ) (before : Layer) (c next : Changing) (w s : LayerWords) →
        ChangesTo l (aim_at now j (suc n)) before next w s →
        Step l list now safe (Setting j n before c) (Setting j n before next) (with_layer now w) (with_layer safe s)
    set : (j n : ℕ) (before : Layer) → Step l list now safe (Setting j n before Changed) (Sets (suc j)) now safe
    all_set : (j : ℕ) → line_count l ≤ j → Step l list now safe (Sets j) (Empties 0) now safe
    passes_empty : (j : ℕ) → now.line j state_offset ≡ empty_state →
        Step l list now safe (Empties j) (Empties (suc j)) now safe
    empties : (j : ℕ) → Step l list now safe (Empties j) (Emptied j) (with_empty now j) safe
    emptied : (j : ℕ) → safe.line j state_offset ≡ now.line j state_offset →
        Step l list now safe (Emptied j) (Empties (suc j)) now safe
    all_empty : (j : ℕ) → line_count l ≤ j → Step l list now safe (Empties j) Wakes now safe

-- The part of an image of which one word may not be durable yet.
pub data Part : Type 0 where
  Nothing : Part
  Generation : Part
  Bits : ℕ → Part
  State : ℕ → Part

-- all words but those of the layer are durable, but for that one
pub record IsEvenBut (part : Part) (now safe : Columns) : Type 0 where
  pub generation : part ≢ Generation → safe.generation ≡ now.generation
  pub spare : (k : ℕ) → safe.spare k ≡ now.spare k
  pub version : (n : ℕ) → safe.version n ≡ now.version n
  pub spot : (n offset : ℕ) → (part ≡ Bits n → offset ≢ bitmap_offset) → safe.spot n offset ≡ now.spot n offset
  pub line : (j offset : ℕ) → (part ≡ State j → offset ≢ 0) → safe.line j offset ≡ now.line j offset

-- while the layer stands still
pub record IsStill (l : Layout) (list : List ListNode) (o : Columns) (part : Part) (now safe : Columns) : Type 0 where
  pub cached : Mends l list o now
  pub durable : Mends l list o safe
  pub even : IsEvenBut part now safe
  pub layer : AreEven now.layer safe.layer

-- While it changes: as it was before the change, and as it is to be, it is in order.
pub record IsChanging (l : Layout) (list : List ListNode) (o : Columns) (aim : Aim) (before : Layer) (c : Changing)
    (now safe : Columns) : Type 0 where
  pub nodes : MendsNodes l list o now
  pub states : (j : ℕ) → now.line j state_offset ≡ o.line j state_offset
  pub even : IsEvenBut Nothing now safe
  pub layer : ChangesTo l aim before c now.layer safe.layer
  pub first : MendsLayer l o before
  pub last : MendsLayer l o (made_of aim before)

-- What is done so far.

-- listed nodes have no live slot out of range, but for these nodes
abbrev pub AreTrimmedBut : Layout → List ListNode → List ℕ → Columns → Type 0
AreTrimmedBut l list left now =
    (n : ℕ) → IsIn list n → IsOneOf left n ⊎ StaysIn l.slots (range_in list n) (now.spot n)

-- the lines have their states still
abbrev pub AreUntouched : Columns → Columns → Type 0
AreUntouched o now = (j : ℕ) → now.line j state_offset ≡ o.line j state_offset

-- no anchor of a line below this one is in the layer that the list doesn't have
abbrev pub AreUnset : List ListNode → Columns → ℕ → Layer → Type 0
AreUnset list o j layer =
    (i : ℕ) → i < j → o.line i state_offset ≢ empty_state → LacksAnchor list o i → layer (line_anchor o i) ≡ None

-- every key of the layer is the anchor of a listed node
abbrev pub AreListed : List ListNode → Columns → Layer → Type 0
AreListed list o layer = (key node : ℕ) → layer key ≡ Some node → (n : ℕ) × IsIn list n × (anchor_of o n ≡ key)

-- each anchor of a line below this one that the list has leads to its node
abbrev pub AreSet : List ListNode → Columns → ℕ → Layer → Type 0
AreSet list o j layer = (i n : ℕ) → i < j → o.line i state_offset ≢ empty_state → IsIn list n →
    anchor_of o n ≡ line_anchor o i → layer (line_anchor o i) ≡ Some n

-- the layer leads exactly the anchors of listed nodes, each to its node
abbrev pub IsExact : List ListNode → Columns → Layer → Type 0
IsExact list o layer = (key node : ℕ) → (layer key ≡ Some node) ↔ (IsIn list node × (anchor_of o node ≡ key))

abbrev pub AreEmptyTo : ℕ → Columns → Type 0
AreEmptyTo j now = (i : ℕ) → i < j → now.line i state_offset ≡ empty_state

-- What holds at each stage of a recovery of o.
abbrev pub Sure : Layout → List ListNode → Columns → Stage → Columns → Columns → Type 0
Sure l list o Begins now safe =
    IsStill l list o Nothing now safe × AreUntouched o now × (now.generation ≡ o.generation)
Sure l list o Raised now safe =
    IsStill l list o Generation now safe × AreUntouched o now × (now.generation ≡ suc o.generation)
Sure l list o (Trims left) now safe =
    IsStill l list o Nothing now safe × AreUntouched o now × (now.generation ≡ suc o.generation) ×
    AreTrimmedBut l list left now
Sure l list o (Trimmed n left) now safe =
    IsStill l list o (Bits n) now safe × AreUntouched o now × (now.generation ≡ suc o.generation) ×
    AreTrimmedBut l list left now
Sure l list o (Unsets j) now safe =
    IsStill l list o Nothing now safe × AreUntouched o now × (now.generation ≡ suc o.generation) ×
    AreTrimmedBut l list [] now × AreUnset list o j (layer_kept l now)
Sure l list o (Unsetting j before c) now safe =
    IsChanging l list o (aim_at now j 0) before c now safe × (now.generation ≡ suc o.generation) ×
    AreTrimmedBut l list [] now × AreUnset list o j before × (o.line j state_offset ≢ empty_state)
Sure l list o (Sets j) now safe =
    IsStill l list o Nothing now safe × AreUntouched o now × (now.generation ≡ suc o.generation) ×
    AreTrimmedBut l list [] now × AreListed list o (layer_kept l now) × AreSet list o j (layer_kept l now)
Sure l list o (Setting j n before c) now safe =
    IsChanging l list o (aim_at now j (suc n)) before c now safe × (now.generation ≡ suc o.generation) ×
    AreTrimmedBut l list [] now × AreListed list o before × AreSet list o j before ×
    (o.line j state_offset ≢ empty_state) × IsIn list n × (anchor_of o n ≡ line_anchor o j)
Sure l list o (Empties j) now safe =
    IsStill l list o Nothing now safe × (now.generation ≡ suc o.generation) × AreTrimmedBut l list [] now ×
    IsExact list o (layer_kept l now) × AreEmptyTo j now
Sure l list o (Emptied j) now safe =
    IsStill l list o (State j) now safe × (now.generation ≡ suc o.generation) × AreTrimmedBut l list [] now ×
    IsExact list o (layer_kept l now) × AreEmptyTo (suc j) now
Sure l list o Wakes now safe =
    IsStill l list o Nothing now safe × (now.generation ≡ suc o.generation) × AreTrimmedBut l list [] now ×
    IsExact list o (layer_kept l now) × ((j : ℕ) → now.line j state_offset ≡ empty_state)
