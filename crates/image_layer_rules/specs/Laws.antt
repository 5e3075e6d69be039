-- Laws of images that are sound by all rules, and what the rules on the tree say in the words of the tree's law.
use Rattle.std.specs.Prelude.{◌≡◌, ℕ, ◌*◌, ◌/◌, ◌%◌, ◌<◌, ◌↔◌, List, Some}
use Rattle.pm_words.specs.declared.layout.Layout.{Layout}
use Rattle.pm_words.specs.Images.{IsImage, fresh_words}
use Rattle.pm_words.specs.Layouts.{IsLayout}
use Rattle.pm_words.specs.Locations.{Line, Cached, Durable, leaf_count, at}
use Rattle.pm_words.specs.Rows.{durable_row, row_of}
use Rattle.image_rules.specs.Nodes.{IsListedNode}
use Rattle.image_rules.specs.Sound.{IsSound}
use Rattle.layer_map.specs.Layers.{HasFew}
use Rattle.updater_law.specs.Covered.{IsCovered}
use Rattle.updater_law.specs.Covers.{IsOpenFor}
use Rattle.tree_law.specs.Trees.{Leaf, IsReached}
use Rattle.tree_law.specs.Words.{IsLawful}
use Rattle.tree_row.specs.Rows.{image_layer}
use Rattle.image_layer_rules.specs.Anchors.{image_anchor, line_word, image_lines, AreKeyWords, IsKeyNumber}
use Rattle.image_layer_rules.specs.Faults.{image_tree, leaf_key}
use Rattle.image_layer_rules.specs.Rules.{image_map, BreaksTree}
use Rattle.image_layer_rules.specs.Sound.{IsSoundByAll}

-- The words of the tree are in order, and the key of each leaf is zero or a name.
pub record IsInOrder (l : Layout) (image : List ℕ) : Type 0 where
  pub lawful : IsLawful (leaf_count l) l.nodes (image_layer l image)
  pub keys : (i : ℕ) → IsReached (image_tree l image) (Leaf i) → AreKeyWords (leaf_key l image i)

-- Rule 10 says that,
abbrev pub RuleOnTree : Type 0
RuleOnTree = (l : Layout) (image : List ℕ) → IsImage l image → (¬ BreaksTree l image 10) ↔ IsInOrder l image

-- and rule 11, of a tree in order, that there are few keys.
abbrev pub RuleOnCount : Type 0
RuleOnCount = (l : Layout) (image : List ℕ) → IsImage l image → ¬ BreaksTree l image 10 →
    (¬ BreaksTree l image 11) ↔ HasFew l.nodes (image_map l image)

-- The layer leads each key that no line has which isn't EMPTY exactly as the list has it.
abbrev pub IsCoveredImage : Layout → List ℕ → Type 0
IsCoveredImage l image =
    IsCovered (IsListedNode l image) (image_anchor l image) (image_map l image) (IsOpenFor (image_lines l image))

-- Rule 12 says that, of an image that keeps the rules on its header, list, nodes and log, and rule 10.
abbrev pub RuleOnCover : Type 0
RuleOnCover = (l : Layout) (image : List ℕ) → IsImage l image → IsSound l image → ¬ BreaksTree l image 10 →
    (¬ BreaksTree l image 12) ↔ IsCoveredImage l image

-- Where words in order are covered each key that they have is zero or a name, whatever rule 10 says of that.
abbrev pub CoverTellsKeys : Type 0
CoverTellsKeys = (l : Layout) (image : List ℕ) → IsImage l image → IsSound l image →
    IsLawful (leaf_count l) l.nodes (image_layer l image) → IsCoveredImage l image → IsInOrder l image

-- The rules on the layer, by what they want.
pub record KeepsLayerRules (l : Layout) (image : List ℕ) : Type 0 where
  pub row : IsLawful (leaf_count l) l.nodes (image_layer l image)
  pub keys : (key node : ℕ) → image_map l image key ≡ Some node → IsKeyNumber key
  pub few : HasFew l.nodes (image_map l image)
  pub covered : IsCoveredImage l image

-- An image is sound by all rules exactly where it is by those on its header, list, nodes and log, and keeps these.
abbrev pub SoundIsKept : Type 0
SoundIsKept = (l : Layout) (image : List ℕ) → IsImage l image →
    IsSoundByAll l image ↔ (IsSound l image × KeepsLayerRules l image)

-- A fresh image is sound by all rules.
abbrev pub FreshIsSoundByAll : Type 0
FreshIsSoundByAll = (l : Layout) → IsLayout l → IsSoundByAll l (fresh_words l)

-- The words of log lines in the image that a crash leaves are those that were durable; and a start caches those of the
-- image.
abbrev pub CrashKeepsLines : Type 0
CrashKeepsLines = (l : Layout) (words : List ℕ) (line offset : ℕ) → line < 8 * l.callers → offset < 8 →
    line_word l (durable_row l words) line offset ≡ at l words (Durable (Line (line / 8) (line % 8) offset))

abbrev pub StartCachesLines : Type 0
StartCachesLines = (l : Layout) (image : List ℕ) (line offset : ℕ) → IsImage l image → line < 8 * l.callers →
    offset < 8 → at l (row_of l image) (Cached (Line (line / 8) (line % 8) offset)) ≡ line_word l image line offset
