-- Laws of sound images. Each is proved; crates above cite its proof by the lemma's name.
use Rattle.std.specs.Prelude.{◌≡◌, ℕ, ◌*◌, ◌<◌, ◌≤◌, List}
use Rattle.std.specs.FinMap.{empty}
use Rattle.pm_words.specs.declared.layout.Layout.{Layout}
use Rattle.pm_words.specs.Images.{IsImage, fresh_words}
use Rattle.pm_words.specs.Layouts.{IsLayout}
use Rattle.pm_words.specs.Locations.{Word, Node, Cached, Durable, node_words, word_at}
use Rattle.pm_words.specs.Locations as positions
use Rattle.pm_words.specs.Rows.{durable_row, row_of}
use Rattle.pm_words.specs.Offsets.{version_offset}
use Rattle.version_lock.specs.Versions.{generation_of}
use Rattle.cat_history.specs.Maps.{Map}
use Rattle.data_node.specs.Spots.{IsTidy}
use Rattle.data_node.specs.Lines.{IsFitLine}
use Rattle.data_node.specs.Lists.{MakeList}
use Rattle.image_rules.specs.Nodes.{image_spot, image_list, IsListedNode}
use Rattle.image_rules.specs.Rules.{IsSpare, header_generation, line_spot}
use Rattle.version_lock.specs.Versions.{IsGeneration}
use Rattle.image_rules.specs.Sound.{IsSound, IsMapOf, image_map}

-- The rules of a sound image, by what they want: the nodes make a list, each listed one is in order, and so is each
-- line of the log.
pub record KeepsRules (l : Layout) (image : List ℕ) : Type 0 where
  pub generation : IsGeneration (header_generation l image)
  pub spare : (w : Word) → IsSpare w → word_at l image w ≡ 0
  pub versions : (n : ℕ) → n < l.nodes →
      generation_of (word_at l image (Node n version_offset)) ≤ header_generation l image
  pub list : MakeList l.nodes (image_spot l image) (image_list l image)
  pub tidy : (n : ℕ) → IsListedNode l image n → IsTidy l.slots (image_spot l image n)
  pub lines : (line : ℕ) → line < 8 * l.callers → IsFitLine l.nodes (line_spot l image line)

-- A sound image keeps them,
abbrev pub SoundKeepsRules : Type 0
SoundKeepsRules = (l : Layout) (image : List ℕ) → IsSound l image → KeepsRules l image

-- and one that keeps them is sound.
abbrev pub RulesMakeSound : Type 0
RulesMakeSound = (l : Layout) (image : List ℕ) → IsImage l image → KeepsRules l image → IsSound l image

-- A sound image keeps a map,
abbrev pub SoundHasMap : Type 0
SoundHasMap = (l : Layout) (image : List ℕ) → IsSound l image → IsMapOf l image (image_map l image)

-- and no image keeps two.
abbrev pub HasOneMap : Type 0
HasOneMap = (l : Layout) (image : List ℕ) (m n : Map) → IsMapOf l image m → IsMapOf l image n → m ≡ n

-- A fresh image is sound, and keeps no name.
abbrev pub FreshIsSound : Type 0
FreshIsSound = (l : Layout) → IsLayout l → IsSound l (fresh_words l) × IsMapOf l (fresh_words l) empty

-- The words of a node in the image that a crash leaves are those that were durable; and a start caches those of the
-- image.
abbrev pub CrashKeepsSpot : Type 0
CrashKeepsSpot = (l : Layout) (words : List ℕ) (n offset : ℕ) → n < l.nodes → 0 < offset → offset < node_words l →
    image_spot l (durable_row l words) n offset ≡ positions.at l words (Durable (Node n offset))

abbrev pub StartCachesSpot : Type 0
StartCachesSpot = (l : Layout) (image : List ℕ) (n offset : ℕ) → IsImage l image → n < l.nodes → 0 < offset →
    offset < node_words l →
    positions.at l (row_of l image) (Cached (Node n offset)) ≡ image_spot l image n offset
