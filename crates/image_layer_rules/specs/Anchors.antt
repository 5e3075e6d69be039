-- The keys that a layer may have, and the nodes of an image and the lines of its log by their anchors.
use Rattle.std.specs.Prelude.{◌≡◌, ℕ, ◌+◌, ◌*◌, ◌/◌, ◌%◌, ◌&&◌, ◌⊎◌, nat_lt, if◌then◌else◌, List, [], ◌∷◌}
use Rattle.pm_words.specs.declared.layout.Layout.{Layout}
use Rattle.pm_words.specs.Locations.{Line, word_at}
use Rattle.pm_words.specs.Offsets.{anchor_offset, state_offset, kind_offset, line_node_offset}
use Rattle.cat_key.specs.Names.{IsName, AreNameWords}
use Rattle.data_node.specs.Lists.{key_of, anchor_in}
use Rattle.image_rules.specs.Nodes.{image_spot}
use Rattle.layer_map.specs.Keys as keys
use Rattle.updater_law.specs.Covers.{Lines}

-- The words of a key of the layer: zero, or those of a name.
abbrev pub AreKeyWords : List ℕ → Type 0
AreKeyWords words = (words ≡ 0 ∷ 0 ∷ 0 ∷ []) ⊎ AreNameWords words

-- The number of such a key.
abbrev pub IsKeyNumber : ℕ → Type 0
IsKeyNumber key = (key ≡ 0) ⊎ ((name : List ℕ) × IsName name × (key ≡ key_of name))

-- The number of a node's anchor.
abbrev pub image_anchor : Layout → List ℕ → ℕ → ℕ
image_anchor l image n = anchor_in (image_spot l image n)

-- A word of a line of the log, by the line's number: eight for each caller before its own.
unfoldable pub line_word : Layout → List ℕ → ℕ → ℕ → ℕ
line_word l image line offset =
    if nat_lt line (8 * l.callers) && nat_lt offset 8 then word_at l image (Line (line / 8) (line % 8) offset) else 0

-- The lines of the log.
abbrev pub image_lines : Layout → List ℕ → Lines
image_lines l image = record {
  state = λ line. line_word l image line state_offset;
  kind = λ line. line_word l image line kind_offset;
  node = λ line. line_word l image line line_node_offset;
  anchor = λ line. keys.key_of (line_word l image line anchor_offset)
      (line_word l image line (anchor_offset + 1)) (line_word l image line (anchor_offset + 2));
}
