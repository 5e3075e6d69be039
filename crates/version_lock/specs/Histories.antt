-- The words that one node has had in one run of the index.
use Rattle.std.specs.Prelude.{◌≡◌, ℕ, ◌+◌, ◌<◌, ◌≤◌, ◌⊎◌, List, [], ◌∷◌, AllPairs}
use Rattle.version_lock.specs.declared.TheConstants.{LAST_COUNT}
use Rattle.version_lock.specs.Versions.{generation_of, count_of, kept_count, version_word, locked_word, IsFree}
use Rattle.version_lock.specs.Versions.{IsLocked, IsWorn}

-- a party took the lock in this generation
pub record Locks (generation old new : ℕ) : Type 0 where
  pub known : generation_of old ≤ generation
  pub free : IsFree old generation
  pub unworn : IsWorn old generation → ⊥
  pub locked : new ≡ locked_word generation (kept_count old generation)

-- the party that had the lock gave it back
pub record Frees (old new : ℕ) : Type 0 where
  pub locked : IsLocked old
  pub unworn : count_of old < LAST_COUNT
  pub freed : new ≡ version_word (generation_of old) (count_of old + 1)

-- the second word came right after the first
abbrev pub Follows : ℕ → ℕ → ℕ → Type 0
Follows generation old new = Locks generation old new ⊎ Frees old new

-- each word but the first followed the one before it
abbrev pub IsHistory : ℕ → List ℕ → Type 0
IsHistory generation [] = Unit {0}
IsHistory generation (first ∷ []) = Unit {0}
IsHistory generation (old ∷ (new ∷ later)) = Follows generation old new × IsHistory generation (new ∷ later)

-- in one generation a node's word only rises, so that no word comes back
abbrev pub WordsRise : Type 0
WordsRise = (generation : ℕ) (words : List ℕ) → IsHistory generation words →
    AllPairs (λ earlier later. earlier < later) words
