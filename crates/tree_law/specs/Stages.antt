-- The stages of a change: what holds of the cached words (w) and of the durable ones (s), and of each mix of the two.
use Rattle.std.specs.Prelude.{◌≡◌, ◌≢◌, ℕ, ◌^◌, ◌<◌, ◌≤◌, ◌⊎◌}
use Rattle.layer_map.specs.Layers.{Layer, HasFew}
use Rattle.tree_law.specs.Trees.{Leaf, Cell, IsReached}
use Rattle.radix_nodes.specs.Changes.{IsQuietStore}
use Rattle.tree_law.specs.Words.{LayerWord, CellWord, LayerWords, word_in, kind_of, number_of, cell_in, tree_of}
use Rattle.tree_law.specs.Words.{layer_of, IsLawful, Stored, AreEven, IsMix, Keeps, Part, part_reference, part_word}

-- A part that isn't reached is filled: all other words are durable.
pub record SureFills (count nodes : ℕ) (before : Layer) (part : Part) (w s : LayerWords) : Type 0 where
  pub keeps : Keeps count nodes before w
  pub unreached : IsReached (tree_of w) (part_reference part) → ⊥
  pub even : (p : LayerWord) → ((o : ℕ) → p ≢ part_word part o) → word_in s p ≡ word_in w p

-- A word was stored by which the layer changed, or a quiet one: of this word alone the durable twin may be the one
-- before.
pub record SureSwitched (count nodes : ℕ) (before made : Layer) (p : LayerWord) (w s : LayerWords) : Type 0 where
  pub was : LayerWords
  pub old : Keeps count nodes before was
  pub new : Keeps count nodes made w
  pub others : (q : LayerWord) → q ≢ p → word_in was q ≡ word_in w q
  pub even : (q : LayerWord) → q ≢ p → word_in s q ≡ word_in w q
  pub twin : (word_in s p ≡ word_in w p) ⊎ (word_in s p ≡ word_in was p)

-- Filling begins on words that are all durable, keeps on under stores into the part and whatever becomes durable, shows
-- the layer before in each mix, and ends once the part is durable.
pub record FillLaw (count nodes : ℕ) (before : Layer) (part : Part) : Type 0 where
  pub begins : (w s : LayerWords) → Keeps count nodes before w → (IsReached (tree_of w) (part_reference part) → ⊥) →
      AreEven w s → SureFills count nodes before part w s
  pub stores : (w w' s : LayerWords) (o word : ℕ) → SureFills count nodes before part w s →
      Stored w w' (part_word part o) word → SureFills count nodes before part w' s
  pub drains : (w s mix : LayerWords) → SureFills count nodes before part w s → IsMix w s mix →
      SureFills count nodes before part w mix
  pub mixes : (w s mix : LayerWords) → SureFills count nodes before part w s → IsMix w s mix →
      Keeps count nodes before mix
  pub ends : (w s : LayerWords) → SureFills count nodes before part w s →
      ((o : ℕ) → word_in s (part_word part o) ≡ word_in w (part_word part o)) → AreEven w s

abbrev pub FillsKeep : Type 0
FillsKeep = (count nodes : ℕ) (before : Layer) (part : Part) → FillLaw count nodes before part

-- The switch store is made on words that are all durable; each mix shows the layer before or the one made; and once its
-- word is durable, all are.
pub record SwitchLaw (count nodes : ℕ) (before made : Layer) (p : LayerWord) : Type 0 where
  pub stores : (w w' s : LayerWords) (word : ℕ) → Keeps count nodes before w → AreEven w s → Stored w w' p word →
      Keeps count nodes made w' → SureSwitched count nodes before made p w' s
  pub drains : (w s mix : LayerWords) → SureSwitched count nodes before made p w s → IsMix w s mix →
      SureSwitched count nodes before made p w mix
  pub mixes : (w s mix : LayerWords) → SureSwitched count nodes before made p w s → IsMix w s mix →
      Keeps count nodes before mix ⊎ Keeps count nodes made mix
  pub ends : (w s : LayerWords) → SureSwitched count nodes before made p w s → word_in s p ≡ word_in w p → AreEven w s

abbrev pub SwitchesKeep : Type 0
SwitchesKeep = (count nodes : ℕ) (before made : Layer) (p : LayerWord) → SwitchLaw count nodes before made p

-- A store into a reached cell by which no child changes keeps the layer: the first store of form 48.
abbrev pub QuietKeeps : Type 0
QuietKeeps = (count nodes : ℕ) (before : Layer) (w w' : LayerWords) (x offset word : ℕ) → Keeps count nodes before w →
    Stored w w' (CellWord (kind_of x) (number_of x) offset) word →
    IsQuietStore (kind_of x) (cell_in w x) (cell_in w' x) → Keeps count nodes before w'

-- Marks. Between changes a leaf or a cell has a mark exactly where it is reached.

abbrev pub Marks : Type 0
Marks = ℕ → ℕ → ℕ

pub record MarksTell (count : ℕ) (marks : Marks) (w : LayerWords) : Type 0 where
  pub leaf : (i : ℕ) → i < count → marks 1 i ≢ 0 → IsReached (tree_of w) (Leaf i)
  pub cell : (x : ℕ) → 2 ≤ kind_of x → kind_of x ≤ 5 → number_of x < count → marks (kind_of x) (number_of x) ≢ 0 →
      IsReached (tree_of w) (Cell x)
  pub used_leaf : (i : ℕ) → IsReached (tree_of w) (Leaf i) → marks 1 i ≢ 0
  pub used_cell : (x : ℕ) → IsReached (tree_of w) (Cell x) → marks (kind_of x) (number_of x) ≢ 0

-- so there is one without a mark of each kind, where there are at most as many keys as nodes, and more places
abbrev pub SomeIsFree : Type 0
SomeIsFree = (count nodes : ℕ) (marks : Marks) (w : LayerWords) (kind : ℕ) → IsLawful count nodes w →
    MarksTell count marks w → HasFew nodes (layer_of w) → nodes < count → count ≤ 2 ^ 16 → 1 ≤ kind → kind ≤ 5 →
    ((i : ℕ) → i < count → marks kind i ≢ 0) → ⊥
