-- Offsets of named words, counted from the start of their part, as in the code's `offsets`.
use Rattle.std.specs.Prelude.{ℕ, ◌+◌, ◌*◌, ◌/◌}

-- Of the header: how often the catalogue was opened, from 1 on.
abbrev pub generation_offset : ℕ
generation_offset = 5

-- Of the root line: the reference of the search layer's root.
abbrev pub reference_offset : ℕ
reference_offset = 0

-- Of a node: its version word, its bitmap, the word that tells the next node (0 is none), and the first of its anchor's
-- three words.
abbrev pub version_offset : ℕ
version_offset = 0

abbrev pub bitmap_offset : ℕ
bitmap_offset = 1

abbrev pub next_offset : ℕ
next_offset = 2

abbrev pub anchor_offset : ℕ
anchor_offset = 3

-- Of a node: the first of the eight words of fingerprints, the word with a slot's fingerprint, and word k of a slot: its
-- name's words are 0, 1 and 2.
abbrev pub prints_offset : ℕ
prints_offset = 8

abbrev pub print_offset : ℕ → ℕ
print_offset slot = prints_offset + slot / 8

abbrev pub slot_offset : ℕ → ℕ → ℕ
slot_offset slot k = 16 + 4 * slot + k

-- Which word of a slot its value is: the one behind those of its name.
abbrev pub value_word : ℕ
value_word = 3

-- Of a log line: its state, the kind of its change, the new or the merged node, the left one, and the word that has no
-- use. The words of the anchor stand where a node has its own.
abbrev pub state_offset : ℕ
state_offset = 0

abbrev pub kind_offset : ℕ
kind_offset = 1

abbrev pub line_node_offset : ℕ
line_node_offset = 2

abbrev pub left_offset : ℕ
left_offset = 6

abbrev pub spare_offset : ℕ
spare_offset = 7

-- Of a leaf: the node to which it leads, plus one.
abbrev pub leaf_node_offset : ℕ
leaf_node_offset = 3

-- Of a cell of the search layer: how many bytes of a key lead to it, and the first of the words that these stand in.
abbrev pub depth_offset : ℕ
depth_offset = 0

abbrev pub prefix_offset : ℕ
prefix_offset = 1

-- Of a node's volatile words: its status, the node before it or into which it was merged, when it was merged, the
-- version of the node at which its permutation was made, and word k of eight of that.
abbrev pub status_offset : ℕ
status_offset = 0

abbrev pub prev_offset : ℕ
prev_offset = 1

abbrev pub stamp_offset : ℕ
stamp_offset = 2

abbrev pub permutation_version_offset : ℕ
permutation_version_offset = 3

abbrev pub permutation_offset : ℕ → ℕ
permutation_offset k = 8 + k
