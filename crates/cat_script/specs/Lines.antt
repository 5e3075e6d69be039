-- How a text is cut into lines, and a line into words.
use Rattle.std.specs.Prelude.{◌≡◌, ℕ, ◌≤◌, ◌==◌, ◌||◌, Bool, if◌then◌else◌, ◌⊎◌, List, [], ◌∷◌, ◌++◌, length, map}

-- The lines of a text, of whose first line these bytes came before: it is cut at each line feed, and what follows the
-- last one counts where it isn't empty.
abbrev pub lines_after : List ℕ → List ℕ → List (List ℕ)
lines_after line [] = if length line == 0 then [] else line ∷ []
lines_after line (byte ∷ bytes) =
    if byte == 10 then line ∷ lines_after [] bytes else lines_after (line ++ byte ∷ []) bytes

-- A line without the carriage return at its end, where it has one there.
abbrev pub without_return : List ℕ → List ℕ
without_return [] = []
without_return (byte ∷ []) = if byte == 13 then [] else byte ∷ []
without_return (byte ∷ next ∷ bytes) = byte ∷ without_return (next ∷ bytes)

-- The lines of a text, without the carriage return that may stand before a line feed.
abbrev pub lines_of : List ℕ → List (List ℕ)
lines_of bytes = map without_return (lines_after [] bytes)

-- A space or a tab.
abbrev pub is_gap : ℕ → Bool
is_gap byte = (byte == 32) || (byte == 9)

-- The words of a line, of whose first word these bytes came before: the longest runs of bytes that are no gap.
abbrev pub words_after : List ℕ → List ℕ → List (List ℕ)
words_after word [] = if length word == 0 then [] else word ∷ []
words_after word (byte ∷ bytes) = if is_gap byte
    then (if length word == 0 then words_after [] bytes else word ∷ words_after [] bytes)
    else words_after (word ++ byte ∷ []) bytes

abbrev pub words_of : List ℕ → List (List ℕ)
words_of line = words_after [] line

-- A byte that a line may have which is no comment: a tab, or printable ASCII with the space.
abbrev pub IsLineByte : ℕ → Type 0
IsLineByte byte = (byte ≡ 9) ⊎ ((0x20 ≤ byte) × (byte ≤ 0x7E))
