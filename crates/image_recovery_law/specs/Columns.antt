-- An image of the index by its columns, when it is sound, which map it keeps, and what a recovery may have made of it.
use Rattle.std.specs.Prelude.{◌≡◌, ◌≢◌, ℕ, suc, ◌<◌, ◌≤◌, ◌^◌, ◌⊎◌, Bool, true, List, Some}
use Rattle.pm_words.specs.Codes.{empty_state}
use Rattle.pm_words.specs.declared.layout.Layout.{Layout}
use Rattle.pm_words.specs.Offsets.{bitmap_offset, state_offset, kind_offset, line_node_offset}
use Rattle.cat_key.specs.Names.{IsName, words_of}
use Rattle.cat_history.specs.Maps.{Map, at}
use Rattle.version_lock.specs.Versions.{generation_of, IsGeneration}
use Rattle.data_node.specs.Slots.{IsLive}
use Rattle.data_node.specs.Spots.{Spot, IsTidy, Means, IsLiveIn, name_words}
use Rattle.data_node.specs.Lines.{IsFitLine}
use Rattle.data_node.specs.Lists.{ListNode, anchor_in, key_of, range_in, IsIn, MakeList}
use Rattle.layer_map.specs.Layers.{Layer, HasFew}
use Rattle.updater_row_law.specs.search_layer.specs.Rows.{LayerWords, IsLayerMix}
use Rattle.updater_row_law.specs.search_layer.specs.Kept.{kept, IsKept}
use Rattle.updater_law.specs.Covered.{IsCovered, ListHas}
use Rattle.updater_law.specs.Covers.{Lines, IsOpenFor}
use Rattle.updater_row_law.specs.Columns.{line_count}

-- The words of an image by what they say. Where a column has no word of the image, it has 0.
pub record Columns : Type 0 where
  pub generation : ℕ
  pub spare : ℕ → ℕ  -- the words that have no use
  pub version : ℕ → ℕ  -- the version words of nodes
  pub spot : ℕ → Spot  -- the other words of nodes
  pub line : ℕ → Spot  -- the words of log lines
  pub layer : LayerWords  -- the words of the layer

-- The anchors of a node and of a log line, as numbers; the log lines; and the layer that its words keep.
abbrev pub anchor_of : Columns → ℕ → ℕ
anchor_of i n = anchor_in (i.spot n)

abbrev pub line_anchor : Columns → ℕ → ℕ
line_anchor i j = anchor_in (i.line j)

abbrev pub lines_of : Columns → Lines
lines_of i = record {
  state = λ j. i.line j state_offset;
  kind = λ j. i.line j kind_offset;
  node = λ j. i.line j line_node_offset;
  anchor = line_anchor i;
}

abbrev pub layer_kept : Layout → Columns → Layer
layer_kept l i = kept l i.layer

-- Rules 1 to 9, over this list of the nodes behind node 0: the header, the version words, the list, its nodes and the
-- log are in order.
pub record NodesAreSound (l : Layout) (list : List ListNode) (i : Columns) : Type 0 where
  pub some : 0 < l.nodes  -- there is node 0
  pub generation : IsGeneration i.generation
  pub spare : (k : ℕ) → i.spare k ≡ 0
  pub versions : (n : ℕ) → n < l.nodes → generation_of (i.version n) ≤ i.generation
  pub makes : MakeList l.nodes i.spot list
  pub tidy : (n : ℕ) → IsIn list n → IsTidy l.slots (i.spot n)
  pub lines : (j : ℕ) → j < line_count l → IsFitLine l.nodes (i.line j)
  pub beyond : (j : ℕ) → line_count l ≤ j → i.line j state_offset ≡ empty_state

-- the number of some name
pub record IsNameKey (key : ℕ) : Type 0 where
  pub name : List ℕ
  pub is_name : IsName name
  pub same : key ≡ key_of name

-- each key of the layer is zero or a name
abbrev pub HasNameKeys : Layer → Type 0
HasNameKeys layer = (key node : ℕ) → layer key ≡ Some node → (key ≡ 0) ⊎ IsNameKey key

-- Rules 10 to 12: the layer is in order, with names as keys; they are few; and each key that no line OPEN or READY
-- has as its anchor leads as the list has it.
pub record LayerIsSound (l : Layout) (list : List ListNode) (i : Columns) : Type 0 where
  pub row : IsKept l i.layer
  pub keys : HasNameKeys (layer_kept l i)
  pub few : HasFew l.nodes (layer_kept l i)
  pub covered : IsCovered (IsIn list) (anchor_of i) (layer_kept l i) (IsOpenFor (lines_of i))

-- The columns are those of a sound image, over this list of the nodes behind node 0.
pub record IsSound (l : Layout) (list : List ListNode) (i : Columns) : Type 0 where
  pub nodes : NodesAreSound l list i
  pub layer : LayerIsSound l list i

-- Each listed node has, of the names in its range, what the map has; and the map has names alone.
pub record IsMapOf (l : Layout) (list : List ListNode) (i : Columns) (m : Map) : Type 0 where
  pub means : (n : ℕ) → IsIn list n → Means l.slots (range_in list n) (i.spot n) m
  pub names : (name : List ℕ) (value : ℕ) → at m name ≡ Some value → IsName name

-- What a recovery may have made of the columns o.

-- a bitmap in which some of the live slots are clear, but none whose name is in the range
pub record IsTrim (slots : ℕ) (range : List ℕ → Bool) (s : Spot) (bits : ℕ) : Type 0 where
  pub bounded : bits < 2 ^ slots
  pub less : (slot : ℕ) → slot < slots → IsLive bits slot → IsLiveIn s slot
  pub keeps : (slot : ℕ) (name : List ℕ) → slot < slots → IsLiveIn s slot → IsName name → range name ≡ true →
      name_words s slot ≡ words_of name → IsLive bits slot

-- what is so of the header, the nodes and the lines, but for the states of these
pub record MendsNodes (l : Layout) (list : List ListNode) (o i : Columns) : Type 0 where
  pub generation : (i.generation ≡ o.generation) ⊎ (i.generation ≡ suc o.generation)
  pub spare : (k : ℕ) → i.spare k ≡ o.spare k
  pub version : (n : ℕ) → i.version n ≡ o.version n
  pub words : (n offset : ℕ) → offset ≢ bitmap_offset → i.spot n offset ≡ o.spot n offset
  pub bits : (n : ℕ) → IsIn list n → IsTrim l.slots (range_in list n) (o.spot n) (i.spot n bitmap_offset)
  pub fields : (j offset : ℕ) → offset ≢ 0 → i.line j offset ≡ o.line j offset

-- what is so of the layer: it differs at most at the anchors of lines that aren't EMPTY in o
pub record MendsLayer (l : Layout) (o : Columns) (layer : Layer) : Type 0 where
  pub keys : HasNameKeys layer
  pub few : HasFew l.nodes layer
  pub same : (key : ℕ) → (IsOpenFor (lines_of o) key → ⊥) → layer key ≡ layer_kept l o key

-- a line in this state is EMPTY, and the layer has at its anchor what the list has there
pub record IsMendedLine (list : List ListNode) (o : Columns) (j state : ℕ) (layer : Layer) : Type 0 where
  pub empty : state ≡ empty_state
  pub leads : ListHas (IsIn list) (anchor_of o) (line_anchor o j) (layer (line_anchor o j))

-- Columns that a recovery of o may have come to: a line has its state still, or is mended.
pub record Mends (l : Layout) (list : List ListNode) (o i : Columns) : Type 0 where
  pub nodes : MendsNodes l list o i
  pub states : (j : ℕ) → (i.line j state_offset ≡ o.line j state_offset) ⊎
      IsMendedLine list o j (i.line j state_offset) (layer_kept l i)
  pub row : IsKept l i.layer
  pub layer : MendsLayer l o (layer_kept l i)

-- Each word is that of the one or of the other.
pub record IsMix (i j mix : Columns) : Type 0 where
  pub generation : (mix.generation ≡ i.generation) ⊎ (mix.generation ≡ j.generation)
  pub spare : (k : ℕ) → (mix.spare k ≡ i.spare k) ⊎ (mix.spare k ≡ j.spare k)
  pub version : (n : ℕ) → (mix.version n ≡ i.version n) ⊎ (mix.version n ≡ j.version n)
  pub spot : (n offset : ℕ) → (mix.spot n offset ≡ i.spot n offset) ⊎ (mix.spot n offset ≡ j.spot n offset)
  pub line : (n offset : ℕ) → (mix.line n offset ≡ i.line n offset) ⊎ (mix.line n offset ≡ j.line n offset)
  pub layer : IsLayerMix i.layer j.layer mix.layer
