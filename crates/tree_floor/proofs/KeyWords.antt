-- Keys as their words are read, one after another.
use Rattle.std.proofs.Common.{◌≡◌, ℕ, zero, suc, ◌+◌, ◌^◌, ◌<◌, List, slice_index, slice_set, inl, inr, refl, sym}
use Rattle.std.proofs.Common.{subst, ap, ◌∙◌, arith}
use Rattle.std.proofs.lemmas.Bool.{cases_eq}
use Rattle.std.proofs.lemmas.List.{get_or-set_same, get_or-set_other, length-set}
use Rattle.cat_key.specs.declared.TheConstants.{WORDS}
use Rattle.tree_row.specs.tree_law.specs.Words.{number_of_key}
use Rattle.tree_row.specs.tree_law.proofs.WordLaw.{words_alike}
use Rattle.tree_row.specs.layer_map.specs.Keys.{key_number, IsKey}
use Rattle.tree_floor.specs.Floors.{no_words}

-- the words of no key yet
pub no_words_key : IsKey no_words
no_words_key = record { whole = refl; fits = none }
  where
    none : (k : ℕ) → slice_index no_words k < 2 ^ 64
    none zero = omega arith
    none (suc zero) = omega arith
    none (suc (suc zero)) = omega arith
    none (suc (suc (suc k))) = omega arith

-- one word more
pub key_set : (words : List ℕ) (at got : ℕ) → IsKey words → at < WORDS → got < 2 ^ 64 → IsKey (slice_set words at got)
key_set words at got is within fits = record {
  whole = length-set words at got ∙ is.whole;
  fits = λ k. elim (cases_eq k at) [
    | inl same ↦ subst (λ n. n < 2 ^ 64) (sym (ap (slice_index (slice_set words at got)) same ∙ get_or-set_same words at got 0 (subst (λ n. at < n) (sym is.whole) within))) fits
    | inr apart ↦ subst (λ n. n < 2 ^ 64) (sym (get_or-set_other words at k got 0 apart)) (is.fits k)
  ];
}

-- the first so many words are those of a key
abbrev pub AreRead : (ℕ → ℕ) → List ℕ → ℕ → Type 0
AreRead key words count = (k : ℕ) → k < count → slice_index words k ≡ key k

pub reads_on : (key : ℕ → ℕ) (words : List ℕ) (at : ℕ) → IsKey words → at < WORDS → AreRead key words at → AreRead key (slice_set words at (key at)) (at + 1)
reads_on key words at is within read k lt = elim (cases_eq k at) [
  | inl same ↦ ap (slice_index (slice_set words at (key at))) same ∙ get_or-set_same words at (key at) 0 (subst (λ n. at < n) (sym is.whole) within) ∙ ap key (sym same)
  | inr apart ↦ get_or-set_other words at k (key at) 0 apart ∙ read k (omega (arith, apart))
]

-- so all of them have its number
pub read_number : (key : ℕ → ℕ) (words : List ℕ) → AreRead key words WORDS → key_number words ≡ number_of_key key
read_number key words read = words_alike (slice_index words) key read
