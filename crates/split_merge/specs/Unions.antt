-- What a merge is to do, made of the words of both nodes.
use Rattle.std.specs.Prelude.{◌≡◌, ℕ, ◌+◌, ◌-◌, ◌*◌, ◌/◌, ◌%◌, ◌^◌, ◌<◌, ◌≤◌, nat_lt, if◌then◌else◌, List, [], ◌∷◌}
use Rattle.std.specs.Prelude.{length, slice_index}
use Rattle.std.specs.Int.{w64, from_le_bytes}
use Rattle.pm_words.specs.Layouts.{IsLayout}
use Rattle.pm_words.specs.Codes.{merge_kind}
use Rattle.pm_words.specs.Offsets.{bitmap_offset, next_offset, anchor_offset}
use Rattle.version_lock.specs.Versions.{IsLockWord}
use Rattle.data_node.specs.Bits.{live_count}
use Rattle.data_node.specs.Slots.{prints_of}
use Rattle.smo_log.specs.declared.line.Entry.{Entry}
use Rattle.smo_log.specs.LogLines.{IsEntryOf}
use Rattle.split_merge.specs.declared.uniting.Union.{Union}
use Rattle.split_merge.specs.Plans.{anchor_of, says_behind}
use Rattle.split_merge.specs.Pairs.{pairs_of}

-- The right node's word at an offset before its slots.
abbrev pub head_word : Union → ℕ → ℕ
head_word union offset = slice_index union.head offset

-- The slot of the right node whose name this slot of the left one gets; 64 is none.
abbrev pub from_in : Union → ℕ → ℕ
from_in union slot = slice_index union.pairs.from slot

-- How many slots of the left node may get a name, how many words their fingerprints have, and where their words end.
abbrev pub half_of : Union → ℕ
half_of union = union.layout.slots / 2

abbrev pub own_prints : Union → ℕ
own_prints union = (half_of union - 1) / 8 + 1

abbrev pub joined_end : Union → ℕ
joined_end union = 16 + 4 * half_of union

-- The fingerprint that a slot of the left node is to have: that of the name which goes there, or its own.
unfoldable pub joined_print : Union → ℕ → ℕ
joined_print union slot =
    if nat_lt (from_in union slot) 64
    then slice_index (prints_of (head_word union (8 + from_in union slot / 8))) (from_in union slot % 8)
    else slice_index (prints_of (slice_index union.prints (slot / 8))) (slot % 8)

abbrev pub eight_joined : Union → ℕ → List ℕ
eight_joined union first =
    joined_print union first ∷ joined_print union (first + 1) ∷ joined_print union (first + 2) ∷ joined_print union
    (first + 3) ∷ joined_print union (first + 4) ∷ joined_print union (first + 5) ∷ joined_print union
    (first + 6) ∷ joined_print union (first + 7) ∷ []

-- The word of fingerprints that the left node is to have.
abbrev pub joined_prints : Union → ℕ → ℕ
joined_prints union word = from_le_bytes w64 (eight_joined union (8 * word))

-- The node behind the right one; 0 is none.
abbrev pub behind_in : Union → ℕ
behind_in union = head_word union next_offset

-- What the line is to say.
abbrev pub entry_in : Union → Entry
entry_in union =
    says_behind merge_kind union.right (anchor_of (head_word union anchor_offset ∷ head_word union (anchor_offset + 1) ∷
    head_word union (anchor_offset + 2) ∷ [])) union.node

-- The two nodes together have at most half as many names as a node has slots.
abbrev pub AreFew : ℕ → ℕ → ℕ → Type 0
AreFew slots own right = live_count slots own + live_count slots right ≤ slots / 2

-- What it keeps.
pub record IsUnion (union : Union) : Type 0 where
  pub layout : IsLayout union.layout
  pub node : union.node < union.layout.nodes
  pub right : union.right < union.layout.nodes
  pub lock : IsLockWord union.locked
  pub right_lock : IsLockWord union.right_locked
  pub line : union.line < 8 * union.layout.callers
  pub own : union.own < 2 ^ 64
  pub prints_size : length union.prints ≡ 4
  pub prints : (word : ℕ) → slice_index union.prints word < 2 ^ 64
  pub head_size : length union.head ≡ 16
  pub head : (offset : ℕ) → head_word union offset < 2 ^ 64
  pub behind : behind_in union < union.layout.nodes
  pub entry : IsEntryOf union.layout (entry_in union)
  pub few : AreFew union.layout.slots union.own (head_word union bitmap_offset)
  pub pairs : union.pairs ≡ pairs_of union.own (head_word union bitmap_offset) union.layout.slots
