-- Columns read off a row, and how far they fit.
use Rattle.std.proofs.Common.{◌≡◌, ℕ, ◌^◌, ◌<◌, cond, List, length, slice_index, slice_set, inl, inr, refl, sym, subst, ap, ◌∙◌, arith}
use Rattle.std.specs.Prelude.{nat_lt}
use Rattle.std.proofs.lemmas.Bool.{cases_eq, lt-ltb, ltb-true, cond_both}
use Rattle.pm_words.specs.declared.layout.Layout.{Layout}
use Rattle.pm_words.specs.Locations.{Location, HasLocation, address_of, row_words, at}
use Rattle.pm_words.proofs.Apart.{at-set_other, at-set_same}
use Rattle.updater_law.specs.Covers.{set_at}
use Rattle.updater_law.proofs.Columns.{here, other}
use Rattle.updater_row_law.specs.Columns.{column}

pub column-here : (l : Layout) (words : List ℕ) (count : ℕ) (place : ℕ → Location) (n : ℕ) → n < count → column l words count place n ≡ at l words (place n)
unfolding column
column-here l words count place n lt = ap (λ b. cond b (at l words (place n)) 0) (lt-ltb n count lt)

pub column-alike : (l : Layout) (words words' : List ℕ) (count : ℕ) (place : ℕ → Location) (n : ℕ) → (n < count → at l words' (place n) ≡ at l words (place n)) → column l words' count place n ≡ column l words count place n
unfolding column
column-alike l words words' count place n same =
    cond_both (nat_lt n count) (at l words' (place n)) 0 (λ (x : ℕ). x ≡ cond (nat_lt n count) (at l words (place n)) 0)
    (λ lt. same (ltb-true n count lt) ∙ sym (rw lt refl))
    (λ past. sym (rw past refl))

-- the same words, the same column
pub column-same : (l : Layout) (words words' : List ℕ) (count : ℕ) (place : ℕ → Location) → ((n : ℕ) → n < count → at l words' (place n) ≡ at l words (place n)) → column l words' count place ≡ column l words count place
column-same l words words' count place alike =
    let same : (n : ℕ) → column l words' count place n ≡ column l words count place n = λ n. column-alike l words words' count place n (alike n) in
    λ k n. same n k

pub column_fits : (l : Layout) (words : List ℕ) (count : ℕ) (place : ℕ → Location) (n : ℕ) → ((k : ℕ) → slice_index words k < 2 ^ 64) → column l words count place n < 2 ^ 64
unfolding column
column_fits l words count place n fits =
    cond_both (nat_lt n count) (at l words (place n)) 0 (λ (x : ℕ). x < 2 ^ 64) (λ here. fits (address_of l (place n))) (λ past. omega arith)

-- a store at one location of the column
pub column-set : (l : Layout) (words : List ℕ) (p : Location) (value : ℕ) → HasLocation l p → (count : ℕ) (place : ℕ → Location) (m : ℕ) → length words ≡ row_words l → m < count → place m ≡ p → ((n : ℕ) → n < count → HasLocation l (place n)) → ((n : ℕ) → n < count → place n ≡ p → n ≡ m)
    → column l (slice_set words (address_of l p) value) count place ≡ set_at (column l words count place) m value
column-set l words p value has count place m whole lt is there tells =
    let stored : List ℕ = slice_set words (address_of l p) value in
    let same : (n : ℕ) → column l stored count place n ≡ set_at (column l words count place) m value n =
    λ n. elim (cases_eq n m) [
      | inl e ↦
          subst (λ k. column l stored count place k ≡ value) (sym e) (column-here l stored count place m lt ∙ ap (at l stored) is ∙ at-set_same l words p value whole has)
          ∙ sym (here (column l words count place) m n value e)
      | inr ne ↦
          column-alike l words stored count place n (λ lt_n. at-set_other l words p (place n) value has (there n lt_n) (λ e. ne (tells n lt_n e)))
          ∙ sym (other (column l words count place) m n value ne)
    ] in
    λ k n. same n k
