-- Lists of states, read by their places.
use Rattle.std.proofs.Common.{◌≡◌, ℕ, zero, suc, ◌+◌, ◌<◌, ◌⊎◌, inl, inr, ⊎_elim, true, is_some, List, [], ◌∷◌, ◌++◌, length, get_or, set, map, refl, sym, ap, ◌∙◌, arith}
use Rattle.std.proofs.lemmas.List.{length-append}
use Rattle.std.specs.Prelude.{Option, Some, None, Contains, slice_get, slice_index_or}
use mathlib.Core.Option.{some, some-injective, some-ne-none}
use lib.ListN.{get_elem?}
use Rattle.index_core.specs.declared.party.PartyState.{PartyState}
use Rattle.index_core.specs.PartyStates.{idle_state, idle_states, machine_owes, owed}

module _ {A : Type 0} where
  pub within : (l : List A) (i : ℕ) (a : A) → get_elem? l i ≡ some a → i < length l
  within [] i a e = absurd (some-ne-none a (sym e))
  within (x ∷ xs) zero a e = omega arith
  within (x ∷ xs) (suc i) a e = let h = within xs i a e in omega arith

  pub there_is : (l : List A) (i : ℕ) → i < length l → (a : A) × (get_elem? l i ≡ some a)
  there_is [] i h = absurd (omega arith)
  there_is (x ∷ xs) zero h = (x, refl)
  there_is (x ∷ xs) (suc i) h = there_is xs i (omega arith)

  -- an element read by its index
  pub read_is : (l : List A) (i : ℕ) (a b : A) → get_elem? l i ≡ some a → b ≡ get_or l i b → b ≡ a
  read_is [] i a b e d = absurd (some-ne-none a (sym e))
  read_is (x ∷ xs) zero a b e d = d ∙ some-injective x a e
  read_is (x ∷ xs) (suc i) a b e d = read_is xs i a b e d

  -- and the other way about
  pub there_at : (l : List A) (i : ℕ) (a : A) → i < length l → a ≡ get_or l i a → get_elem? l i ≡ some a
  there_at l i a inside is = let there = there_is l i inside in there.1 ∙ ap some (sym (read_is l i there.0 a there.1 is))

  pub got_there : (l : List A) (i : ℕ) (a : A) → get_elem? l i ≡ some a → slice_get l i ≡ Some a
  got_there [] i a e = absurd (some-ne-none a (sym e))
  got_there (x ∷ xs) zero a e = ap Some (some-injective x a e)
  got_there (x ∷ xs) (suc i) a e = got_there xs i a e

  -- the last one stands at the length of those before it
  pub at_end : (l : List A) (a b : A) (i : ℕ) → get_elem? (l ++ a ∷ []) i ≡ some b → (get_elem? l i ≡ some b) ⊎ ((i ≡ length l) × (a ≡ b))
  at_end [] a b zero e = inr (refl, some-injective a b e)
  at_end [] a b (suc i) e = absurd (some-ne-none b (sym e))
  at_end (x ∷ xs) a b zero e = inl e
  at_end (x ∷ xs) a b (suc i) e = ⊎_elim (λ t. inl t) (λ t. inr (ap suc t.0, t.1)) (at_end xs a b i e)

  pub end_there : (l : List A) (a : A) → get_elem? (l ++ a ∷ []) (length l) ≡ some a
  end_there [] a = refl
  end_there (x ∷ xs) a = end_there xs a

  pub some_same : {a b : A} → Some a ≡ Some b → a ≡ b
  some_same e = cc

  -- what is read behind a list is in it or the last one
  pub got_end : (l : List A) (a b : A) (i : ℕ) → slice_get (l ++ a ∷ []) i ≡ Some b → (slice_get l i ≡ Some b) ⊎ ((i ≡ length l) × (a ≡ b))
  got_end [] a b zero e = inr (refl, some_same e)
  got_end [] a b (suc i) e = absurd (let none : None ≡ Some b = e in cc)
  got_end (x ∷ xs) a b zero e = inl e
  got_end (x ∷ xs) a b (suc i) e = ⊎_elim (λ t. inl t) (λ t. inr (ap suc t.0, t.1)) (got_end xs a b i e)

  -- the element of a list of one
  pub sole : (a b : A) → Contains (a ∷ []) b → a ≡ b
  sole a b has = at has.0 has.1 has.2
    where
      at : (n : ℕ) → n < 1 → slice_index_or (a ∷ []) n b ≡ b → a ≡ b
      at zero less is = is
      at (suc n) less is = absurd (omega arith)

  -- what is put there last stays
  pub set_twice : (l : List A) (i : ℕ) (a b : A) → set (set l i a) i b ≡ set l i b
  set_twice [] i a b = refl
  set_twice (x ∷ xs) zero a b = refl
  set_twice (x ∷ xs) (suc i) a b = ap (λ ys. x ∷ ys) (set_twice xs i a b)

module _ {A B : Type 0} (f : A → B) where
  pub map_there : (l : List A) (i : ℕ) (a : A) → get_elem? l i ≡ some a → get_elem? (map f l) i ≡ some (f a)
  map_there [] i a e = absurd (some-ne-none a (sym e))
  map_there (x ∷ xs) zero a e = ap (λ y. some (f y)) (some-injective x a e)
  map_there (x ∷ xs) (suc i) a e = map_there xs i a e

  pub map_from : (l : List A) (i : ℕ) (b : B) → get_elem? (map f l) i ≡ some b → (a : A) × (get_elem? l i ≡ some a) × (f a ≡ b)
  map_from [] i b e = absurd (some-ne-none b (sym e))
  map_from (x ∷ xs) zero b e = (x, refl, some-injective (f x) b e)
  map_from (x ∷ xs) (suc i) b e = map_from xs i b e

  pub map_set : (l : List A) (i : ℕ) (a : A) → map f (set l i a) ≡ set (map f l) i (f a)
  map_set [] i a = refl
  map_set (x ∷ xs) zero a = refl
  map_set (x ∷ xs) (suc i) a = ap (λ ys. f x ∷ ys) (map_set xs i a)

pub idle-length : (callers : ℕ) → length (idle_states callers) ≡ callers
idle-length zero = refl
idle-length (suc callers) = let one = length-append (idle_states callers) (idle_state callers ∷ []) in let before = idle-length callers in omega arith

pub idle-each : (callers i : ℕ) (state : PartyState) → get_elem? (idle_states callers) i ≡ some state → state ≡ idle_state i
idle-each zero i state e = absurd (some-ne-none state (sym e))
idle-each (suc callers) i state e =
    ⊎_elim
    (λ (before : get_elem? (idle_states callers) i ≡ some state). idle-each callers i state before)
    (λ (last : (i ≡ length (idle_states callers)) × (idle_state callers ≡ state)). sym last.1 ∙ ap idle_state (sym (last.0 ∙ idle-length callers)))
    (at_end (idle_states callers) (idle_state callers) state i e)

owed-append : (l : List PartyState) (state : PartyState) → owed (l ++ state ∷ []) ≡ owed l + machine_owes state.machine
owed-append [] state = omega arith
owed-append (x ∷ xs) state = let rest = owed-append xs state in omega arith

pub idle-owed : (callers : ℕ) → owed (idle_states callers) ≡ 0
idle-owed zero = refl
idle-owed (suc callers) = owed-append (idle_states callers) (idle_state callers) ∙ ap (λ (n : ℕ). n + 0) (idle-owed callers)

-- what is owed once one state is another
pub owed-set : (l : List PartyState) (i : ℕ) (was now : PartyState) → get_elem? l i ≡ some was → owed (set l i now) + machine_owes was.machine ≡ owed l + machine_owes now.machine
owed-set [] i was now e = absurd (some-ne-none was (sym e))
owed-set (x ∷ xs) zero was now e = let same = ap (λ (d : PartyState). machine_owes d.machine) (some-injective x was e) in omega arith
owed-set (x ∷ xs) (suc i) was now e = let rest = owed-set xs i was now e in omega arith

pub some_of : {A : Type 0} → (o : Option A) → is_some o ≡ true → (a : A) × (o ≡ Some a)
some_of None e = absurd (cc)
some_of (Some a) e = (a, refl)

-- where no call is in flight nothing is owed
pub quiet-owed : (l : List PartyState) → ((i : ℕ) (state : PartyState) → get_elem? l i ≡ some state → state.machine ≡ None) → owed l ≡ 0
quiet-owed [] idle = refl
quiet-owed (x ∷ xs) idle = let here = ap machine_owes (idle 0 x refl) in let rest = quiet-owed xs (λ i state at. idle (suc i) state at) in omega arith
