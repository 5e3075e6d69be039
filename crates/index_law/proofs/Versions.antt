-- Version words in one run: which are free, and how they rise.
use Rattle.std.proofs.Common.{◌≡◌, ◌≢◌, ℕ, ◌+◌, ◌<◌, ◌≤◌, ◌^◌, ◌%◌, inl, inr, ⊎_elim, subst, sym, arith}
use Rattle.std.proofs.lemmas.Bool.{cases_lt}
use Rattle.version_lock.specs.declared.TheConstants.{LAST_COUNT, GENERATION_LIMIT}
use Rattle.version_lock.specs.Versions.{generation_of, count_of, kept_count, locked_word, IsFree, IsUnlocked, IsWorn}
use Rattle.version_lock.proofs.VersionFacts.{generation_of-locked_word, count_of-locked_word, IsLocked-locked_word, count_of-le, kept_count-earlier, kept_count-same}
use Rattle.index_law.specs.Lawful.{IsOwnLock}

-- the count that a lock begins with has not come to its end
kept_count-lt : (v g : ℕ) → generation_of v ≤ g → (IsWorn v g → ⊥) → kept_count v g < LAST_COUNT
kept_count-lt v g known unworn = ⊎_elim
    (λ (earlier : generation_of v < g). omega (arith, kept_count-earlier v g earlier))
    (λ (late : g ≤ generation_of v).
    let same : generation_of v ≡ g = omega arith in
    let kept = kept_count-same v g same in
    let most = count_of-le v in
    let other : count_of v ≢ LAST_COUNT = (λ e. unworn (same, e)) in
    omega arith)
    (cases_lt (generation_of v) g)

-- a lock that is taken can be given back
pub own_lock : (v w g : ℕ) → generation_of v ≤ g → (IsWorn v g → ⊥) → w ≡ locked_word g (kept_count v g) → IsOwnLock g w
own_lock v w g known unworn lock =
    let small = kept_count-lt v g known unworn in
    let most : kept_count v g ≤ LAST_COUNT = omega arith in
    subst (IsOwnLock g) (sym lock) (record {
      locked = IsLocked-locked_word g (kept_count v g);
      own = generation_of-locked_word g (kept_count v g) most;
      unworn = let count = count_of-locked_word g (kept_count v g) most in omega arith;
    })

-- a lock of this run is not free
pub unfree : (w g : ℕ) → IsOwnLock g w → IsFree w g → ⊥
unfree w g own (inl earlier) = let same = own.own in omega arith
unfree w g own (inr unlocked) = let locked = own.locked in omega arith

-- a word of this run has 64 bits, with room for one more
pub lock_fits : (w g : ℕ) → IsOwnLock g w → g < GENERATION_LIMIT → w + 1 < 2 ^ 64
lock_fits w g own fits = let same = own.own in let unworn = own.unworn in let locked = own.locked in omega arith

-- a lock that is given back is free, and of this run
pub freed-free : (w g : ℕ) → IsOwnLock g w → IsFree (w + 1) g
freed-free w g own = let locked : w % 2 ≡ 1 = own.locked in let even : IsUnlocked (w + 1) = omega arith in inr even

pub freed-known : (w g : ℕ) → IsOwnLock g w → generation_of (w + 1) ≤ g
freed-known w g own = let same = own.own in let unworn = own.unworn in omega arith
