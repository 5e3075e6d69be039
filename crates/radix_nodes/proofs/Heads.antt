-- The words of a cell's head, stored one after another into zeros.
use Rattle.std.proofs.Common.{◌≡◌, ℕ, zero, suc, ◌+◌, ◌<◌, ◌≤◌, inl, inr, List, length, length-set, slice_index, slice_set, replicate, refl, sym, subst, ap, ◌∙◌, arith}
use Rattle.std.proofs.lemmas.Bool.{cases_eq}
use Rattle.std.proofs.lemmas.List.{get_or-set_same, get_or-set_other}
use Rattle.pm_words.specs.Offsets.{depth_offset, prefix_offset}

pub zeros : (n o : ℕ) → slice_index (replicate n 0) o ≡ 0
zeros zero o = refl
zeros (suc n) zero = refl
zeros (suc n) (suc o) = zeros n o

-- so many first words are those of another list
abbrev pub Copied : (ℕ → ℕ) → List ℕ → ℕ → Type 0
Copied c words at = (length words ≡ 264) × ((o : ℕ) → o < at → slice_index words o ≡ c o) × ((o : ℕ) → at ≤ o → slice_index words o ≡ 0)

pub copied_start : (c : ℕ → ℕ) (words : List ℕ) → words ≡ replicate 264 0 → Copied c words 0
copied_start c words is = (
  ap length is,
  (λ o lt. absurd (omega arith)),
  (λ o le. ap (λ (w : List ℕ). slice_index w o) is ∙ zeros 264 o),
)

pub copied_step : (c : ℕ → ℕ) (words : List ℕ) (at : ℕ) → at < 264 → Copied c words at → Copied c (slice_set words at (c at)) (at + 1)
copied_step c words at lt so =
    let whole = so.0 in (
      length-set words at (c at) ∙ whole,
      (λ o less. elim (cases_eq o at) [
        | inl same ↦ ap (slice_index (slice_set words at (c at))) same ∙ get_or-set_same words at (c at) 0 (omega arith) ∙ ap c (sym same)
        | inr other ↦ get_or-set_other words at o (c at) 0 other ∙ so.1 o (omega (arith, other))
      ]),
      (λ o le. get_or-set_other words at o (c at) 0 (λ e. omega arith) ∙ so.2 o (omega arith)),
    )

-- and with the next one, as it was read
pub copied_on : (c : ℕ → ℕ) (words : List ℕ) (at word : ℕ) → at < 264 → word ≡ c at → Copied c words at → Copied c (slice_set words at word) (at + 1)
copied_on c words at word lt is so = subst (λ n. Copied c (slice_set words at n) (at + 1)) (sym is) (copied_step c words at lt so)

-- a depth, and so many words of a prefix
abbrev pub HeadedSo : ℕ → (ℕ → ℕ) → List ℕ → ℕ → Type 0
HeadedSo depth prefix words at =
    (length words ≡ 264) × (slice_index words depth_offset ≡ depth) × ((k : ℕ) → k < at → slice_index words (prefix_offset + k) ≡ prefix k) × ((o : ℕ) → at < o → slice_index words o ≡ 0)

pub headed_start : (depth : ℕ) (prefix : ℕ → ℕ) (words : List ℕ) → words ≡ slice_set (replicate 264 0) 0 depth → HeadedSo depth prefix words 0
headed_start depth prefix words is = (
  ap length is ∙ length-set (replicate 264 0) 0 depth,
  ap (λ (w : List ℕ). slice_index w 0) is ∙ get_or-set_same (replicate 264 0) 0 depth 0 (omega arith),
  (λ k lt. absurd (omega arith)),
  (λ o more. ap (λ (w : List ℕ). slice_index w o) is ∙ get_or-set_other (replicate 264 0) 0 o depth 0 (λ e. omega arith) ∙ zeros 264 o),
)

pub headed_step : (depth : ℕ) (prefix : ℕ → ℕ) (words : List ℕ) (at : ℕ) → at < 3 → HeadedSo depth prefix words at → HeadedSo depth prefix (slice_set words (prefix_offset + at) (prefix at)) (at + 1)
headed_step depth prefix words at lt so =
    let whole = so.0 in
    let word = prefix at in (
      length-set words (prefix_offset + at) word ∙ whole,
      get_or-set_other words (prefix_offset + at) 0 word 0 (λ e. omega arith) ∙ so.1,
      (λ k less. elim (cases_eq k at) [
        | inl same ↦ ap (λ n. slice_index (slice_set words (prefix_offset + at) word) (prefix_offset + n)) same ∙ get_or-set_same words (prefix_offset + at) word 0 (omega arith) ∙ ap prefix (sym same)
        | inr other ↦ get_or-set_other words (prefix_offset + at) (prefix_offset + k) word 0 (λ e. other (omega arith)) ∙ so.2 k (omega (arith, other))
      ]),
      (λ o more. get_or-set_other words (prefix_offset + at) o word 0 (λ e. omega arith) ∙ so.3 o (omega arith)),
    )
