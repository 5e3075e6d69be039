-- The lines of an image's words, one after another.
use Rattle.std.proofs.Common.{◌≡◌, ℕ, suc, ◌+◌, ◌-◌, ◌<◌, ◌≤◌, List, [], ◌∷◌, ◌++◌, length, get_or, drop, take, sym, ap, ◌∙◌, arith, append-nil, append_assoc, length-drop, inl, inr}
use Rattle.std.proofs.Math.Seq.{drop-cons}
use Rattle.std.proofs.lemmas.Bool.{cases_lt}
use Rattle.std.proofs.lemmas.List.{take_all}
use Rattle.cat_text.specs.WordLines.{word_line}
use Rattle.catalog_cli.specs.Files.{lines_told, word_lines}

-- the words from one on up to an end are so many at most, and all where there are no more
same-words : (from count end size : ℕ) (words : List ℕ) → length words ≡ size → end ≤ size → end ≤ from + count → (end < from + count → size ≤ end) → take (end - from) (drop from words) ≡ take count (drop from words)
same-words from count end size words is within few most = elim (cases_lt end (from + count)) [
  | inr whole ↦ ap (λ (n : ℕ). take n (drop from words)) (let same : end - from ≡ count = omega (arith, whole, few) in same)
  | inl fewer ↦
      let left = length-drop from words in
      let last = most fewer in
      take_all (end - from) (drop from words) (omega (arith, left, is, last)) ∙ sym (take_all count (drop from words) (omega (arith, left, is, last, fewer, within)))
]

pub begun : (from count end size : ℕ) (words text : List ℕ) → length words ≡ size → end ≤ size → end ≤ from + count → (end < from + count → size ≤ end) → text ≡ [] →
    text ++ word_lines from (take (end - from) (drop from words)) ≡ lines_told from count words
begun from count end size words text is within few most none =
    ap (λ (t : List ℕ). t ++ word_lines from (take (end - from) (drop from words))) none ∙ ap (word_lines from) (same-words from count end size words is within few most)

-- one line more
pub one-more : (at end word : ℕ) (words text text' all : List ℕ) → text ++ word_lines at (take (end - at) (drop at words)) ≡ all → at < end → end ≤ length words → word ≡ get_or words at 0 → text' ≡ text ++ word_line at word →
    text' ++ word_lines (at + 1) (take (end - (at + 1)) (drop (at + 1) words)) ≡ all
one-more at end word words text text' all so_far less within is added =
    let rest = drop (at + 1) words in
    let count : end - at ≡ suc (end - (at + 1)) = omega (arith, less) in
    let cut : drop at words ≡ word ∷ rest =
    drop-cons words at 0 (omega (arith, less, within)) ∙ ap (λ (k : ℕ). get_or words at 0 ∷ drop k words) (let next : suc at ≡ at + 1 = omega arith in next) ∙ ap (λ (w : ℕ). w ∷ rest) (sym is) in
    let lines : word_lines at (take (end - at) (drop at words)) ≡ word_line at word ++ word_lines (at + 1) (take (end - (at + 1)) rest) =
    ap (λ (n : ℕ). word_lines at (take n (drop at words))) count ∙ ap (λ (ws : List ℕ). word_lines at (take (suc (end - (at + 1))) ws)) cut in
    ap (λ (t : List ℕ). t ++ word_lines (at + 1) (take (end - (at + 1)) rest)) added
    ∙ append_assoc text (word_line at word) (word_lines (at + 1) (take (end - (at + 1)) rest))
    ∙ ap (λ (t : List ℕ). text ++ t) (sym lines) ∙ so_far

-- all lines
pub ended : (at end : ℕ) (words text all : List ℕ) → text ++ word_lines at (take (end - at) (drop at words)) ≡ all → end ≤ at → text ≡ all
ended at end words text all so_far past =
    sym (append-nil text) ∙ ap (λ (n : ℕ). text ++ word_lines at (take n (drop at words))) (let none : 0 ≡ end - at = omega (arith, past) in none) ∙ so_far
