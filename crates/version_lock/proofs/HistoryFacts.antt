-- The words of one node in one run only rise.
use Rattle.std.proofs.Common.{◌≡◌, ℕ, zero, suc, ◌+◌, ◌<◌, List, [], ◌∷◌, inl, inr, subst, sym, arith}
use Rattle.std.specs.List.{slice_index}
use Rattle.std.specs.List.Sorted.{IsStrictlyIncreasing}
use Rattle.std.proofs.lemmas.List.Kept.{AllPairs-from_increasing}
use Rattle.version_lock.specs.Histories.{Follows, IsHistory, WordsRise}
use Rattle.version_lock.proofs.VersionFacts.{locked-rises, freed-rises}

-- a word is greater than the one before it
pub follows-rises : (generation old new : ℕ) → Follows generation old new → old < new
follows-rises generation old new (inl locks) = subst (λ word. old < word) (sym locks.locked) (locked-rises old generation locks.known locks.free)
follows-rises generation old new (inr frees) = subst (λ word. old < word) (sym frees.freed) (freed-rises old frees.locked)

history-rises : (generation : ℕ) (words : List ℕ) → IsHistory generation words → IsStrictlyIncreasing words
history-rises generation [] history k within = omega arith
history-rises generation (first ∷ []) history k within = omega arith
history-rises generation (old ∷ (new ∷ later)) history zero within = follows-rises generation old new history.0
history-rises generation (old ∷ (new ∷ later)) history (suc k) within =
    let next : suc (k + 1) ≡ suc k + 1 = omega arith in
    subst (λ i. slice_index (new ∷ later) k < slice_index (old ∷ (new ∷ later)) i) next (history-rises generation (new ∷ later) history.1 k (omega arith))

pub words-rise : WordsRise
words-rise generation words history = AllPairs-from_increasing words (history-rises generation words history)
