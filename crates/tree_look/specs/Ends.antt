-- From where a look has ended to the store that makes the change.
use Rattle.std.specs.Prelude.{◌≡◌, ◌≢◌, ℕ, ◌+◌, ◌-◌, ◌*◌, ◌^◌, ◌<◌, ◌≤◌, true, Some, None}
use Rattle.tree_law.specs.Trees.{Nothing, Leaf, Cell, span, first_bytes, byte_at, low}
use Rattle.cat_key.specs.declared.TheConstants.{WORDS}
use Rattle.radix_nodes.specs.Cells.{IsForm}
use Rattle.tree_law.specs.Switches.{Root, Entry}
use Rattle.tree_law.specs.Words.{LeafWord, LayerWords, kind_of, cell_in, reference_of, tree_of, room_of, layer_of}
use Rattle.tree_law.specs.Words.{IsLawful, Stored, ChangesKey, IsSwitchStore}
use Rattle.tree_law.specs.Changes.{IsFilledLeaf, IsFilledLarger}
use Rattle.tree_look.specs.declared.look.Spot.{Spot}
use Rattle.tree_look.specs.declared.look.Looked.TheVariants as looked
use Rattle.tree_look.specs.LookLaws.{spot_word, IsLooked}

-- A set of a key that is there stores its leaf's node word.
abbrev pub KeyIsSet : Type 0
KeyIsSet = (count nodes : ℕ) (w w' : LayerWords) (key leaf word : ℕ) (outer inner : Spot) → IsLawful count nodes w →
    IsLooked w key (looked.Key outer inner leaf) → word ≢ 0 → word ≤ nodes → Stored w w' (LeafWord leaf WORDS) word →
    ChangesKey count nodes w w' key (Some (word - 1))

-- Where the cell at the end has room, the new leaf comes into it.
abbrev pub LeafIsAdded : Type 0
LeafIsAdded = (count nodes : ℕ) (w w' : LayerWords) (key node cell depth leaf reference : ℕ) (spot : Spot) →
    IsLawful count nodes w → IsLooked w key (looked.Nothing spot cell depth) →
    IsFilledLeaf count nodes w key node leaf → reference_of reference ≡ Leaf leaf →
    IsSwitchStore w w' (Entry cell (byte_at depth key)) reference → ChangesKey count nodes w w' key (Some node)

-- Where it has none, a larger cell comes in its place, by a store into its spot.
abbrev pub CellIsGrown : Type 0
CellIsGrown = (count nodes : ℕ) (w w' : LayerWords) (key node cell depth grown leaf : ℕ) (spot : Spot) →
    IsLawful count nodes w → IsLooked w key (looked.Nothing spot cell depth) →
    IsFilledLeaf count nodes w key node leaf → IsFilledLarger count nodes w cell grown (byte_at depth key) leaf →
    reference_of grown ≡ Cell grown → grown < 2 ^ 32 → Stored w w' (spot_word spot) (spot.high + grown) →
    ChangesKey count nodes w w' key (Some node)

-- a cell with two children: what a reference leads to, and the leaf
pub record IsFilledPairOf (count nodes : ℕ) (w : LayerWords) (reference key depth pair leaf : ℕ) : Type 0 where
  pub number : (room_of count nodes).is_cell pair ≡ true
  pub depth_is : (tree_of w).depth pair ≡ depth
  pub prefix_is : (tree_of w).prefix pair ≡ first_bytes depth key * span depth
  pub old : (tree_of w).child pair (byte_at depth (low (tree_of w) (reference_of reference))) ≡ reference_of reference
  pub new : (tree_of w).child pair (byte_at depth key) ≡ Leaf leaf
  pub only : (b : ℕ) → b ≢ byte_at depth (low (tree_of w) (reference_of reference)) → b ≢ byte_at depth key →
      (tree_of w).child pair b ≡ Nothing
  pub form : IsForm (kind_of pair) (cell_in w pair)

-- Where the key parts from what is there, the pair comes in its place.
abbrev pub PairIsMade : Type 0
PairIsMade = (count nodes : ℕ) (w w' : LayerWords) (key node reference depth byte pair leaf : ℕ) (spot : Spot) →
    IsLawful count nodes w → IsLooked w key (looked.Parts spot reference depth byte) →
    IsFilledLeaf count nodes w key node leaf → IsFilledPairOf count nodes w reference key depth pair leaf →
    reference_of pair ≡ Cell pair → pair < 2 ^ 32 → Stored w w' (spot_word spot) (spot.high + pair) →
    ChangesKey count nodes w w' key (Some node)

-- Of an unset: with two more children in its cell the leaf goes from it;
pub record HasTwoMore (w : LayerWords) (cell b : ℕ) : Type 0 where
  pub one : ℕ
  pub two : ℕ
  pub apart : one ≢ two
  pub not_one : one ≢ b
  pub not_two : two ≢ b
  pub has_one : (tree_of w).child cell one ≢ Nothing
  pub has_two : (tree_of w).child cell two ≢ Nothing

abbrev pub LeafIsRemoved : Type 0
LeafIsRemoved = (count nodes : ℕ) (w w' : LayerWords) (key leaf b : ℕ) (outer inner : Spot) → IsLawful count nodes w →
    (found : IsLooked w key (looked.Key outer inner leaf)) → found.1.0 ≢ Root →
    b ≡ byte_at ((tree_of w).depth inner.cell) key → HasTwoMore w inner.cell b →
    IsSwitchStore w w' (Entry inner.cell b) 0 → ChangesKey count nodes w w' key None

-- and with one more, that comes in the place of the cell, by a store into the outer spot.
pub record HasOneMore (w : LayerWords) (cell b other_byte reference : ℕ) : Type 0 where
  pub apart : other_byte ≢ b
  pub some_other : (tree_of w).child cell other_byte ≢ Nothing
  pub is : reference_of reference ≡ (tree_of w).child cell other_byte
  pub only : (c : ℕ) → c ≢ b → c ≢ other_byte → (tree_of w).child cell c ≡ Nothing

abbrev pub CellIsCollapsed : Type 0
CellIsCollapsed = (count nodes : ℕ) (w w' : LayerWords) (key leaf b other_byte reference : ℕ) (outer inner : Spot) →
    IsLawful count nodes w → (found : IsLooked w key (looked.Key outer inner leaf)) → found.1.0 ≢ Root →
    b ≡ byte_at ((tree_of w).depth inner.cell) key → HasOneMore w inner.cell b other_byte reference →
    reference_of inner.cell ≡ Cell inner.cell → reference ≢ 0 → reference < 2 ^ 32 →
    Stored w w' (spot_word outer) (outer.high + reference) → ChangesKey count nodes w w' key None

-- A leaf is in a cell where its key isn't the only one.
abbrev pub IsInCell : Type 0
IsInCell = (count nodes : ℕ) (w : LayerWords) (key other leaf : ℕ) (outer inner : Spot) → IsLawful count nodes w →
    (found : IsLooked w key (looked.Key outer inner leaf)) → layer_of w other ≢ None → other ≢ key → found.1.0 ≢ Root
