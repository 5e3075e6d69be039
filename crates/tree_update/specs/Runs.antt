-- A change of the tree, turn by turn, beside parties that leave the layer and its marks to it, and under evictions.
use Rattle.std.specs.Prelude.{◌≡◌, ◌≢◌, ℕ, ◌<◌, ◌⊎◌, List}
use Rattle.pm_words.specs.declared.layout.Layout.{Layout}
use Rattle.pm_words.specs.declared.machine.Turn.TheVariants.{Go, Done}
use Rattle.pm_words.specs.Locations.{Cached, Durable, leaf_count, image_words}
use Rattle.pm_words.specs.Rows.{IsRow, CanAct, acted, got, evicted}
use Rattle.layer_map.specs.Layers.{Layer, AreSame, HasFew}
use Rattle.tree_law.specs.Words.{LayerWords, layer_of, IsLawful, AreEven, IsMix, Keeps}
use Rattle.tree_law.specs.Stages.{Marks, MarksTell}
use Rattle.tree_row.specs.Rows.{layer_words}
use Rattle.tree_row.specs.RowMarks.{row_marks}
use Rattle.tree_change.specs.RowSteps.{LeavesLayer}
use Rattle.tree_update.specs.declared.change.Change.{Change}
use Rattle.tree_update.specs.declared.change.ChangeAt.{ChangeAt}
use Rattle.tree_update.specs.declared.change.Ended.{Ended}
use Rattle.tree_update.specs.declared.change.Ended.TheVariants.{Made, NoRoom, Wrong}
use Rattle.tree_update.specs.Changes.{IsChange, change_starts, change_asks, change_turned}
use Rattle.tree_update.specs.Stages.{Aim, made_of, aim_of, IsRooted, SureAt}

-- the layer that the cached words of a row keep
abbrev pub layer_in : Layout → List ℕ → Layer
layer_in l words = layer_of (layer_words l words Cached)

-- The words of the layer are in order and durable, and the marks tell what the tree reaches.
pub record IsAtRest (l : Layout) (words : List ℕ) : Type 0 where
  pub lawful : IsLawful (leaf_count l) l.nodes (layer_words l words Cached)
  pub even : AreEven (layer_words l words Cached) (layer_words l words Durable)
  pub tells : MarksTell (leaf_count l) (row_marks l words) (layer_words l words Cached)

-- no word of the layer is another, cached or durable, and no mark is
pub record HasSameLayer (l : Layout) (words after : List ℕ) : Type 0 where
  pub cached : layer_words l after Cached ≡ layer_words l words Cached
  pub durable : layer_words l after Durable ≡ layer_words l words Durable
  pub marks : row_marks l after ≡ row_marks l words

-- The change that began as `first` on these words is now this one, and the words are these: it took turns, other
-- parties changed other words, and words were evicted.
pub data Runs (l : Layout) (words : List ℕ) (first : Change) : Change → List ℕ → Type 0 where
  begins : Runs l words first first words
  turns : {change next : Change} {now : List ℕ} → Runs l words first change now →
      change_turned change (got l now (change_asks change)) ≡ Go next →
      Runs l words first next (acted l now (change_asks change))
  others : {change : Change} {now after : List ℕ} → Runs l words first change now → IsRow l after →
      HasSameLayer l now after → Runs l words first change after
  evicts : {change : Change} {now : List ℕ} {word : ℕ} → Runs l words first change now → word < image_words l →
      Runs l words first change (evicted l now word)

-- A change that begins on a row at rest. An unset is of another key than zero, and the layer leads zero somewhere.
pub record Begins (l : Layout) (words : List ℕ) (first : Change) : Type 0 where
  pub row : IsRow l words
  pub rest : IsAtRest l words
  pub start : first ≡ change_starts l first.key first.word
  pub sound : IsChange first
  pub rooted : IsRooted (aim_of first) (layer_in l words)

-- it keeps the layer before the change, or the one that it makes
abbrev pub KeepsEither : Layout → Aim → Layer → LayerWords → Type 0
KeepsEither l aim before mix =
    Keeps (leaf_count l) l.nodes before mix ⊎ Keeps (leaf_count l) l.nodes (made_of aim before) mix

-- At any moment the next action may be done. Of whichever words become durable now the tree is in order, with the layer
-- before the change or the layer that it makes, and so is that of the image that a crash leaves.
pub record MomentKeeps (l : Layout) (words : List ℕ) (first change : Change) (now : List ℕ) : Type 0 where
  pub acts : CanAct l now (change_asks change)
  pub cached : KeepsEither l (aim_of first) (layer_in l words) (layer_words l now Cached)
  pub mixes : (mix : LayerWords) → IsMix (layer_words l now Cached) (layer_words l now Durable) mix →
      KeepsEither l (aim_of first) (layer_in l words) mix
  pub crash : LeavesLayer (leaf_count l) l.nodes (layer_in l words) l now ⊎
      LeavesLayer (leaf_count l) l.nodes (made_of (aim_of first) (layer_in l words)) l now

abbrev pub EachMomentKeeps : Type 0
EachMomentKeeps = (l : Layout) (words : List ℕ) (first change : Change) (now : List ℕ) → Begins l words first →
    Runs l words first change now → MomentKeeps l words first change now

-- Once it is made, the layer is the one that it makes, and at rest. Where there is no room, the layer is that before
-- and durable, and it has more keys than nodes; a set alone comes to that. What it reads is in order.
abbrev pub EndsAs : Layout → Aim → Layer → Ended → List ℕ → Type 0
EndsAs l aim before Made after = AreSame (layer_in l after) (made_of aim before) × IsAtRest l after
EndsAs l aim before NoRoom after =
    AreSame (layer_in l after) before × AreEven (layer_words l after Cached) (layer_words l after Durable) ×
    (HasFew l.nodes before → ⊥) × (aim.word ≢ 0)
EndsAs l aim before Wrong after = ⊥

abbrev pub RunsEndRight : Type 0
RunsEndRight = (l : Layout) (words : List ℕ) (first change : Change) (now : List ℕ) (ended : Ended) →
    Begins l words first → Runs l words first change now →
    change_turned change (got l now (change_asks change)) ≡ Done ended →
    EndsAs l (aim_of first) (layer_in l words) ended (acted l now (change_asks change))

-- So with at most as many keys as nodes it is made.
abbrev pub RunsEndChanged : Type 0
RunsEndChanged = (l : Layout) (words : List ℕ) (first change : Change) (now : List ℕ) (ended : Ended) →
    Begins l words first → (first.word ≢ 0 → HasFew l.nodes (layer_in l words)) → Runs l words first change now →
    change_turned change (got l now (change_asks change)) ≡ Done ended →
    (ended ≡ Made) ×
    AreSame (layer_in l (acted l now (change_asks change))) (made_of (aim_of first) (layer_in l words)) ×
    IsAtRest l (acted l now (change_asks change))

-- At every moment of an unset, and in every mix, the zero key leads where it led.
abbrev pub UnsetKeepsZero : Type 0
UnsetKeepsZero = (l : Layout) (words : List ℕ) (first change : Change) (now : List ℕ) (mix : LayerWords) →
    Begins l words first → first.word ≡ 0 → Runs l words first change now →
    IsMix (layer_words l now Cached) (layer_words l now Durable) mix → layer_of mix 0 ≡ layer_in l words 0

-- At each state: whatever becomes durable by itself keeps what it knows, and each mix of the twins keeps the layer
-- before or the one made.
abbrev pub ChangeEvicts : Type 0
ChangeEvicts = (count nodes : ℕ) (before : Layer) (aim : Aim) (part : ChangeAt) (w s mix : LayerWords) (m : Marks) →
    SureAt count nodes before aim part w s m → IsMix w s mix → SureAt count nodes before aim part w mix m

abbrev pub ChangeMixes : Type 0
ChangeMixes = (count nodes : ℕ) (before : Layer) (aim : Aim) (part : ChangeAt) (w s mix : LayerWords) (m : Marks) →
    SureAt count nodes before aim part w s m → IsMix w s mix →
    Keeps count nodes before mix ⊎ Keeps count nodes (made_of aim before) mix

-- A sound change may do its action, whatever the words are.
abbrev pub ChangeCanAct : Type 0
ChangeCanAct = (change : Change) (words : List ℕ) → IsChange change → CanAct change.layout words (change_asks change)
