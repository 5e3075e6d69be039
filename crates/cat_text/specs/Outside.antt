-- What reads take from a source, and what writes that failed have added to a sink, where those bytes are told.
use Rattle.std.specs.Prelude.{◌≡◌, ℕ, ◌<◌, ◌≤◌, Option, List, ◌++◌, length, take}
use Rattle.std.specs.Io.KnownBytes.{Consumes, Appends}

-- at most `most` bytes went from the front of those that were left
abbrev pub ConsumesAtMost : ℕ → Option (List ℕ) → Option (List ℕ) → Type 0
ConsumesAtMost most old new = (taken : List ℕ) × Consumes old new taken × (length taken ≤ most)

-- `count` bytes went from the front of those that were left to the end of the text
abbrev pub Moves : Option (List ℕ) → Option (List ℕ) → List ℕ → List ℕ → ℕ → Type 0
Moves old new before after count = (taken : List ℕ) × Consumes old new taken × (after ≡ before ++ taken) ×
    (length taken ≡ count)

-- the text's first bytes were appended, and at least its last one was not
abbrev pub AppendsPart : Option (List ℕ) → Option (List ℕ) → List ℕ → Type 0
AppendsPart old new text = (count : ℕ) × (count < length text) × Appends old new (take count text)
