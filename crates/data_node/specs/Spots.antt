-- A node in a row of words: what its words say, each by its offset from the node's start.
use Rattle.std.specs.Prelude.{◌≡◌, ◌≢◌, ℕ, ◌%◌, ◌<◌, ◌^◌, ◌==◌, Bool, true, if◌then◌else◌, List, [], ◌∷◌, slice_index}
use Rattle.std.specs.Prelude.{Option, Some, None}
use Rattle.cat_key.specs.Names.{IsName, AreNameWords, words_of, bytes_of, fingerprint_of}
use Rattle.pm_words.specs.Offsets.{bitmap_offset, print_offset, slot_offset, value_word}
use Rattle.shapes.specs.cat_history.specs.Maps.{Map, at}
use Rattle.data_node.specs.Slots.{IsLive, prints_of}

-- The words of one node by offset.
abbrev pub Spot : Type 0
Spot = ℕ → ℕ

-- The words after a store into the word at this offset.
unfoldable pub updated : Spot → ℕ → ℕ → Spot
updated s offset word other = if other == offset then word else s other

-- The slot is live.
abbrev pub IsLiveIn : Spot → ℕ → Type 0
IsLiveIn s slot = IsLive (s bitmap_offset) slot

-- The name words in a slot, its value and its fingerprint.
abbrev pub name_words : Spot → ℕ → List ℕ
name_words s slot = s (slot_offset slot 0) ∷ s (slot_offset slot 1) ∷ s (slot_offset slot 2) ∷ []

abbrev pub value_in : Spot → ℕ → ℕ
value_in s slot = s (slot_offset slot value_word)

abbrev pub print_in_spot : Spot → ℕ → ℕ
print_in_spot s slot = slice_index (prints_of (s (print_offset slot))) (slot % 8)

-- What the live slots, of so many, have under a name.
abbrev pub Finds : ℕ → Spot → List ℕ → Option ℕ → Type 0
Finds slots s name (Some value) =
    (slot : ℕ) × (slot < slots) × IsLiveIn s slot × (name_words s slot ≡ words_of name) × (value_in s slot ≡ value)
Finds slots s name None = (slot : ℕ) → slot < slots → IsLiveIn s slot → name_words s slot ≢ words_of name

-- A node in order: no bit is set past its slots, and its live slots hold different names, each with its fingerprint.
pub record IsTidy (slots : ℕ) (s : Spot) : Type 0 where
  pub bounded : s bitmap_offset < 2 ^ slots
  pub named : (slot : ℕ) → slot < slots → IsLiveIn s slot → AreNameWords (name_words s slot)
  pub printed : (slot : ℕ) → slot < slots → IsLiveIn s slot →
      print_in_spot s slot ≡ fingerprint_of (bytes_of (name_words s slot))
  pub apart : (slot other : ℕ) → slot < slots → other < slots → IsLiveIn s slot → IsLiveIn s other →
      name_words s slot ≡ name_words s other → slot ≡ other

-- The node is in order, and has of each name in its range what the map has.
pub record Means (slots : ℕ) (range : List ℕ → Bool) (s : Spot) (m : Map) : Type 0 where
  pub tidy : IsTidy slots s
  pub agrees : (name : List ℕ) → IsName name → range name ≡ true → Finds slots s name (at m name)
