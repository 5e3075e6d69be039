-- The line that sums up a round.
use Rattle.std.specs.Prelude.{ℕ, List, ◌++◌, codes, decimal}
use Rattle.cat_text.specs.declared.summary.Summary.{Summary}

-- A word, which ends with a space, and a number.
abbrev pub summary_field : List ℕ → ℕ → List ℕ
summary_field word number = word ++ decimal number

abbrev pub summary_line : Summary → List ℕ
summary_line s =
    summary_field (codes "calls ") s.calls ++ summary_field (codes " puts ") s.puts ++
    summary_field (codes " dels ") s.dels ++ summary_field (codes " names ") s.names ++
    summary_field (codes " sum ") s.sum ++ summary_field (codes " full ") s.full ++ codes "\n"
