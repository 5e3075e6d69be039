-- The lowest word at which the header, or a version word, breaks its rule.
use Rattle.std.proofs.Common.{◌≡◌, ℕ, ◌+◌, ◌*◌, ◌/◌, ◌%◌, ◌<◌, ◌≤◌, List, Option, Some, None, inl, inr, refl, sym, ap, ◌∙◌, arith}
use Rattle.std.proofs.lemmas.Bool.{cases_lt}
use Rattle.std.proofs.lemmas.Nat.{mul-le}
use Rattle.pm_words.specs.declared.layout.Layout.{Layout}
use Rattle.pm_words.specs.Locations.{Header, Node, Line, image_parts, node_words, start_of, word_number}
use Rattle.pm_words.specs.Offsets.{version_offset, state_offset, generation_offset}
use Rattle.image_rules.specs.Lowest.{IsLowest, IsNumberOf}
use Rattle.image_rules.specs.Rules.{header_generation, BreaksHeader, IsLater, BreaksVersions, IsUnfit, BreaksLines}
use Rattle.version_lock.specs.Versions.{IsGeneration}
use Rattle.image_rules.proofs.LowestLemmas.{Moves}
use Rattle.image_rules.proofs.WordLemmas.{IsUsedSpare, used_number}

-- no word in front of the generation breaks the rule
none_in_front : (l : Layout) (image : List ℕ) (lower : ℕ) → lower < 5 → ¬ IsNumberOf l (BreaksHeader l image) lower
none_in_front l image lower below is =
    elim is.holds as (λ _. ⊥) [
      | inl generation ↦
          let five : word_number l is.word ≡ 5 = ap (word_number l) generation.0 in
          let here = is.numbered in
          omega arith
      | inr used ↦
          let at = used_number l image lower (record { word = is.word; numbered = is.numbered; holds = used }) in
          omega (arith, at.least)
    ]

pub generation_broken : (l : Layout) (image : List ℕ) → ¬ IsGeneration (header_generation l image) → IsLowest (IsNumberOf l (BreaksHeader l image)) (Some 5)
generation_broken l image wrong = (record { word = Header generation_offset; numbered = refl; holds = inl (refl, wrong) }, none_in_front l image)

-- where the generation is right, only spare words can break the rule
used_of : (l : Layout) (image : List ℕ) → IsGeneration (header_generation l image) → (number : ℕ) → IsNumberOf l (BreaksHeader l image) number →
    IsNumberOf l (IsUsedSpare l image) number
used_of l image right number is =
    elim is.holds as (λ _. IsNumberOf l (IsUsedSpare l image) number) [
      | inl generation ↦ absurd (generation.1 right)
      | inr used ↦ record { word = is.word; numbered = is.numbered; holds = used }
    ]

pub generation_right : (l : Layout) (image : List ℕ) (found : Option ℕ) → IsGeneration (header_generation l image) → IsLowest (IsNumberOf l (IsUsedSpare l image)) found →
    IsLowest (IsNumberOf l (BreaksHeader l image)) found
generation_right l image None right lowest = λ number is. lowest number (used_of l image right number is)
generation_right l image (Some number) right lowest = (
  record { word = lowest.0.word; numbered = lowest.0.numbered; holds = inr lowest.0.holds },
  λ lower below is. lowest.1 lower below (used_of l image right lower is),
)

-- the version words rise with their nodes
versions_rise : (l : Layout) (n m : ℕ) → word_number l (Node n version_offset) < word_number l (Node m version_offset) → n < m
versions_rise l n m below =
    elim (cases_lt n m) as (λ _. n < m) [
      | inl less ↦ less
      | inr more ↦
          let rest : m * node_words l ≤ n * node_words l = mul-le m (node_words l) n (node_words l) more (omega arith) in
          let front : word_number l (Node n version_offset) ≡ 16 + (n * node_words l + 0) = refl in
          let other : word_number l (Node m version_offset) ≡ 16 + (m * node_words l + 0) = refl in
          absurd (omega arith)
    ]

pub versions_move : (l : Layout) (image : List ℕ) → Moves (IsLater l image) (IsNumberOf l (BreaksVersions l image)) (λ n. word_number l (Node n version_offset))
versions_move l image = record {
  to = λ n later. record { word = Node n version_offset; numbered = refl; holds = (n, refl, later) };
  from = λ there is. (is.holds.0, is.holds.2, sym (ap (word_number l) is.holds.1) ∙ is.numbered);
  rises = versions_rise l;
}

-- and the state words of lines with the lines
lines_rise : (l : Layout) (line other : ℕ) → word_number l (Line (line / 8) (line % 8) state_offset) < word_number l (Line (other / 8) (other % 8) state_offset) → line < other
lines_rise l line other below =
    let front : word_number l (Line (line / 8) (line % 8) state_offset) ≡ start_of (image_parts l) 3 + (64 * (line / 8) + 8 * (line % 8) + 0) = refl in
    let behind : word_number l (Line (other / 8) (other % 8) state_offset) ≡ start_of (image_parts l) 3 + (64 * (other / 8) + 8 * (other % 8) + 0) = refl in
    omega arith

pub lines_move : (l : Layout) (image : List ℕ) → Moves (IsUnfit l image) (IsNumberOf l (BreaksLines l image)) (λ line. word_number l (Line (line / 8) (line % 8) state_offset))
lines_move l image = record {
  to = λ line unfit. record { word = Line (line / 8) (line % 8) state_offset; numbered = refl; holds = (line, refl, unfit) };
  from = λ there is. (is.holds.0, is.holds.2, sym (ap (word_number l) is.holds.1) ∙ is.numbered);
  rises = lines_rise l;
}
