-- Images: the header, which words make an image, and the fresh one.
use Rattle.std.specs.Prelude.{◌≡◌, ℕ, zero, suc, ◌-◌, ◌^◌, ◌<◌, List, [], ◌∷◌, ◌++◌, length, replicate, slice_index}
use Rattle.std.specs.Prelude.{slice_set, codes}
use Rattle.std.specs.Int.{w64, from_le_bytes}
use Rattle.pm_words.specs.declared.layout.Layout.{Layout}
use Rattle.pm_words.specs.Layouts.{IsLayout}
use Rattle.pm_words.specs.Locations.{Word, Header, Root, Node, Line, Leaf, Cell, image_words, word_number, word_at}
use Rattle.pm_words.specs.Offsets.{reference_offset, leaf_node_offset}

-- a row of words, and the layout that tells which word stands where
pub record Row : Type 0 where
  pub layout : Layout
  pub words : List ℕ

-- the words 0 to 4 of an image: the magic, the format, and the layout
abbrev pub header : Layout → List ℕ
header l = from_le_bytes w64 (codes "PACCAT01") ∷ 1 ∷ l.nodes ∷ l.slots ∷ l.callers ∷ []

-- as many words as the layout says, each of 64 bits, and first of all the header of the layout
pub record IsImage (l : Layout) (words : List ℕ) : Type 0 where
  pub layout : IsLayout l
  pub whole : length words ≡ image_words l
  pub header_stands : (k : ℕ) → k < 5 → word_at l words (Header k) ≡ slice_index (header l) k
  pub fits : (k : ℕ) → slice_index words k < 2 ^ 64

-- an image without names: generation 1, the root word refers to leaf 0, and that has the zero key and node 0, which is
-- stored as 1
abbrev pub first_leaf : ℕ
first_leaf = 2 ^ 16

abbrev pub fresh_words : Layout → List ℕ
fresh_words l =
    slice_set (slice_set (header l ++ 1 ∷ replicate (image_words l - 6) 0) (word_number l (Root reference_offset)) first_leaf)
    (word_number l (Leaf 0 leaf_node_offset)) 1

-- the same word by word: all are 0 but the header, the generation, the root and the node of leaf 0
abbrev pub fresh_word : Layout → Word → ℕ
fresh_word l (Header k) = slice_index (header l ++ 1 ∷ []) k
fresh_word l (Root zero) = first_leaf
fresh_word l (Root (suc o)) = 0
fresh_word l (Node n o) = 0
fresh_word l (Line c j o) = 0
fresh_word l (Leaf zero o) = slice_index (0 ∷ 0 ∷ 0 ∷ 1 ∷ []) o
fresh_word l (Leaf (suc k) o) = 0
fresh_word l (Cell kind k o) = 0
