-- The fields of a line.
use Rattle.std.specs.Prelude.{ℕ, ◌==◌, List, [], ◌∷◌}
use Rattle.std.specs.List.{slice_split}

-- A line, cut at each space.
abbrev pub fields_of : List ℕ → List (List ℕ)
fields_of line = slice_split (λ byte. byte == 32) line

-- The fields of what follows a field: of nothing none, and else those behind its first byte, a space.
abbrev pub fields_behind : List ℕ → List (List ℕ)
fields_behind [] = []
fields_behind (space ∷ bytes) = fields_of bytes
