-- The tests of a version word.
use Rattle.std.proofs.Common.{◌≡◌, ℕ, ◌%◌, ◌||◌, Bool, true, false, inl, inr, ⊎_elim, refl}
use Rattle.std.proofs.lemmas.Bool.{eqb-true, ltb-true, lt-ltb, eq-eqb, or_cases, and_parts, and_from, both_ways}
use Rattle.version_lock.specs.Versions.{generation_of, IsFree, IsWorn, is_free_word, is_worn_word, FreeWordsTold, WornWordsTold}

pub free_word : (word generation : ℕ) → is_free_word word generation ≡ true → IsFree word generation
free_word word generation is = ⊎_elim (λ earlier. inl (ltb-true _ _ earlier)) (λ unlocked. inr (eqb-true _ _ unlocked)) (or_cases _ _ is)

or_left : (x y : Bool) → x ≡ true → (x || y) ≡ true
or_left true y is = refl
or_left false y is = absurd (cc)

or_right : (x y : Bool) → y ≡ true → (x || y) ≡ true
or_right true y is = refl
or_right false y is = is

pub free_is : (word generation : ℕ) → IsFree word generation → is_free_word word generation ≡ true
free_is word generation (inl earlier) = or_left _ _ (lt-ltb (generation_of word) generation earlier)
free_is word generation (inr unlocked) = or_right _ _ (eq-eqb (word % 2) 0 unlocked)

pub taken_word : (word generation : ℕ) → is_free_word word generation ≡ false → IsFree word generation → ⊥
taken_word word generation is free = both_ways _ is (free_is word generation free)

pub worn_word : (word generation : ℕ) → is_worn_word word generation ≡ true → IsWorn word generation
worn_word word generation is = let parts = and_parts _ _ is in (eqb-true _ _ parts.0, eqb-true _ _ parts.1)

pub worn_is : (word generation : ℕ) → IsWorn word generation → is_worn_word word generation ≡ true
worn_is word generation worn = and_from _ _ (eq-eqb _ _ worn.0) (eq-eqb _ _ worn.1)

pub fresh_word : (word generation : ℕ) → is_worn_word word generation ≡ false → IsWorn word generation → ⊥
fresh_word word generation is worn = both_ways _ is (worn_is word generation worn)

pub free_words_told : FreeWordsTold
free_words_told word generation = (free_word word generation, free_is word generation)

pub worn_words_told : WornWordsTold
worn_words_told word generation = (worn_word word generation, worn_is word generation)
