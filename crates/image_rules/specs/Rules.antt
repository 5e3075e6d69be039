-- The rules of a sound image, each by what breaks it at a word: of the header, of a node, or of a listed node at a
-- position of the list; and of a line of the log. Their numbers are those that `Broken` tells. Those past 9 are rules
-- of the search layer, in the crate `image_layer_rules`.
use Rattle.std.specs.Prelude.{◌≡◌, ◌≢◌, ℕ, zero, suc, ◌*◌, ◌/◌, ◌%◌, ◌<◌, ◌≤◌, ◌^◌, ◌⊎◌, List}
use Rattle.pm_words.specs.declared.layout.Layout.{Layout}
use Rattle.pm_words.specs.Locations.{Word, Header, Root, Node, Line, word_at}
use Rattle.pm_words.specs.Offsets.{version_offset, bitmap_offset, next_offset, anchor_offset, print_offset, slot_offset}
use Rattle.pm_words.specs.Offsets.{state_offset, generation_offset}
use Rattle.version_lock.specs.Versions.{generation_of, IsGeneration}
use Rattle.cat_key.specs.Names.{IsName, AreNameWords, words_of, fingerprint_of}
use Rattle.data_node.specs.Spots.{Spot, IsLiveIn, name_words, print_in_spot}
use Rattle.data_node.specs.Lines.{IsFitLine}
use Rattle.data_node.specs.Lists.{anchor_in, anchor_words}
use Rattle.image_rules.specs.Nodes.{image_spot, IsListedAt, next_in}
use Rattle.image_rules.specs.declared.listed.NodeRule.{NodeRule}
use Rattle.image_rules.specs.declared.listed.NodeRule.TheVariants.{Names, Prints, Apart}

-- The number of the run that wrote the image.
abbrev pub header_generation : Layout → List ℕ → ℕ
header_generation l image = word_at l image (Header generation_offset)

-- The words of the header line and of the root line that have no use.
abbrev pub IsSpare : Word → Type 0
IsSpare (Header o) = (6 ≤ o) × (o < 8)
IsSpare (Root o) = (1 ≤ o) × (o < 8)
IsSpare _ = ⊥

-- Rule 1: the header has the number of a run, and spare words are 0.
abbrev pub BreaksHeader : Layout → List ℕ → Word → Type 0
BreaksHeader l image w = ((w ≡ Header generation_offset) × ¬ IsGeneration (header_generation l image)) ⊎
    (IsSpare w × (word_at l image w ≢ 0))

-- A node whose version word is of a later generation.
pub record IsLater (l : Layout) (image : List ℕ) (n : ℕ) : Type 0 where
  pub here : n < l.nodes
  pub later : header_generation l image < generation_of (word_at l image (Node n version_offset))

-- Rule 2: no version word is of a later generation, whether the node is listed or not.
abbrev pub BreaksVersions : Layout → List ℕ → Word → Type 0
BreaksVersions l image w = (n : ℕ) × (w ≡ Node n version_offset) × IsLater l image n

-- Rule 3: a listed node leads on to one of the image's nodes. It is broken at the word that leads elsewhere.
pub record LeadsOut (l : Layout) (image : List ℕ) (position : ℕ) (w : Word) : Type 0 where
  pub node : ℕ
  pub listed : IsListedAt l image position node
  pub here : w ≡ Node node next_offset
  pub leads : next_in l image node ≢ 0
  pub out : l.nodes ≤ next_in l image node

-- Rule 4: no node is reached twice. It is broken at the word that leads back to a node at this position or an earlier
-- one.
pub record LeadsBack (l : Layout) (image : List ℕ) (position : ℕ) (w : Word) : Type 0 where
  pub node : ℕ
  pub listed : IsListedAt l image position node
  pub here : w ≡ Node node next_offset
  pub leads : next_in l image node ≢ 0
  pub earlier : ℕ
  pub before : earlier ≤ position
  pub again : IsListedAt l image earlier (next_in l image node)

-- The anchor of the node behind a listed one is no name, or isn't above that node's anchor.
pub record IsMisplaced (l : Layout) (image : List ℕ) (position : ℕ) (w : Word) : Type 0 where
  pub before : ℕ
  pub node : ℕ
  pub listed_before : IsListedAt l image position before
  pub listed : IsListedAt l image (suc position) node
  pub here : w ≡ Node node anchor_offset
  pub wrong : (¬ AreNameWords (anchor_words (image_spot l image node)))
      ⊎ (anchor_in (image_spot l image node) ≤ anchor_in (image_spot l image before))

-- Rule 5: node 0's anchor is zero, and those of the others are names, each greater than the one before. It is broken at
-- the first anchor word.
abbrev pub BreaksAnchors : Layout → List ℕ → ℕ → Word → Type 0
BreaksAnchors l image zero w = (w ≡ Node 0 anchor_offset) × (anchor_in (image_spot l image 0) ≢ 0)
BreaksAnchors l image (suc position) w = IsMisplaced l image position w

-- A live slot in which no name stands.
pub record IsNameless (slots : ℕ) (s : Spot) (slot : ℕ) : Type 0 where
  pub within : slot < slots
  pub live : IsLiveIn s slot
  pub nameless : ¬ AreNameWords (name_words s slot)

-- Rule 6: the bitmap has no bit past the slots, and each live slot has a name. It is broken at the bitmap, or at the
-- slot's first word.
abbrev pub BreaksNames : ℕ → Spot → ℕ → Type 0
BreaksNames slots s offset =
    ((offset ≡ bitmap_offset) × (2 ^ slots ≤ s bitmap_offset)) ⊎
    ((slot : ℕ) × (offset ≡ slot_offset slot 0) × IsNameless slots s slot)

-- A live slot that has a name, and the fingerprint of another.
pub record IsMisprinted (slots : ℕ) (s : Spot) (slot : ℕ) : Type 0 where
  pub within : slot < slots
  pub live : IsLiveIn s slot
  pub name : List ℕ
  pub is_name : IsName name
  pub stands : words_of name ≡ name_words s slot
  pub other : print_in_spot s slot ≢ fingerprint_of name

-- Rule 7: each live slot has the fingerprint of its name. It is broken at the word of fingerprints.
abbrev pub BreaksPrints : ℕ → Spot → ℕ → Type 0
BreaksPrints slots s offset = (slot : ℕ) × (offset ≡ print_offset slot) × IsMisprinted slots s slot

-- A live slot whose name stands in a lower live slot.
pub record IsRepeated (slots : ℕ) (s : Spot) (slot : ℕ) : Type 0 where
  pub within : slot < slots
  pub live : IsLiveIn s slot
  pub lower : ℕ
  pub below : lower < slot
  pub lower_live : IsLiveIn s lower
  pub same : name_words s lower ≡ name_words s slot

-- Rule 8: live slots have different names. It is broken at the first word of a slot whose name a lower one has.
abbrev pub BreaksApart : ℕ → Spot → ℕ → Type 0
BreaksApart slots s offset = (slot : ℕ) × (offset ≡ slot_offset slot 0) × IsRepeated slots s slot

-- A rule on a node breaks at this offset.
abbrev pub BreaksBy : NodeRule → ℕ → Spot → ℕ → Type 0
BreaksBy Names slots s offset = BreaksNames slots s offset
BreaksBy Prints slots s offset = BreaksPrints slots s offset
BreaksBy Apart slots s offset = BreaksApart slots s offset

-- The listed node at this position breaks the rule at this word. In a node the words of slots rise with the slots, and
-- the bitmap stands in front; so the lowest offset is that of the bitmap or of the lowest slot.
pub record BreaksInNode (l : Layout) (image : List ℕ) (rule : NodeRule) (position : ℕ) (w : Word) : Type 0 where
  pub node : ℕ
  pub offset : ℕ
  pub listed : IsListedAt l image position node
  pub here : w ≡ Node node offset
  pub breaks : BreaksBy rule l.slots (image_spot l image node) offset

-- The words of a line of the log, by its number: eight for each caller before its own, and its own among that caller's.
abbrev pub line_spot : Layout → List ℕ → ℕ → Spot
line_spot l image line offset = word_at l image (Line (line / 8) (line % 8) offset)

-- A line that isn't EMPTY and holds no change of the list.
pub record IsUnfit (l : Layout) (image : List ℕ) (line : ℕ) : Type 0 where
  pub here : line < 8 * l.callers
  pub unfit : ¬ IsFitLine l.nodes (line_spot l image line)

-- Rule 9: each line of the log is EMPTY, or is OPEN or READY with a split or a merge, a node other than node 0, a name
-- as its anchor, a left node, and 0 behind. It is broken at the word of its state.
abbrev pub BreaksLines : Layout → List ℕ → Word → Type 0
BreaksLines l image w = (line : ℕ) × (w ≡ Line (line / 8) (line % 8) state_offset) × IsUnfit l image line
