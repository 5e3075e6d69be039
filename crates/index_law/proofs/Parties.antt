-- Lists of parties, read by place.
use Rattle.std.proofs.Common.{◌≡◌, ◌≢◌, ℕ, zero, suc, ◌⊎◌, inl, inr, ⊎_elim, List, [], ◌∷◌, ◌++◌, set, refl, sym, ap, subst, arith}
use mathlib.Core.Option.{some, some-injective, some-ne-none}
use lib.ListN.{get_elem?}

module _ {A : Type 0} where
  -- what stands there once one element is another
  pub at_set : (l : List A) (i j : ℕ) (a b : A) → get_elem? (set l i a) j ≡ some b → ((j ≡ i) × (a ≡ b)) ⊎ ((j ≢ i) × (get_elem? l j ≡ some b))
  at_set [] i j a b e = absurd (some-ne-none b (sym e))
  at_set (x ∷ xs) zero zero a b e = inl (refl, some-injective a b e)
  at_set (x ∷ xs) zero (suc j) a b e = inr ((λ h. omega arith), e)
  at_set (x ∷ xs) (suc i) zero a b e = inr ((λ h. omega arith), e)
  at_set (x ∷ xs) (suc i) (suc j) a b e = ⊎_elim (λ t. inl (ap suc t.0, t.1)) (λ t. let n = t.0 in inr ((λ h. n (omega arith)), t.1)) (at_set xs i j a b e)

  pub set_here : (l : List A) (i : ℕ) (a b : A) → get_elem? l i ≡ some b → get_elem? (set l i a) i ≡ some a
  set_here [] i a b h = absurd (some-ne-none b (sym h))
  set_here (x ∷ xs) zero a b h = refl
  set_here (x ∷ xs) (suc i) a b h = set_here xs i a b h

  pub set_else : (l : List A) (i j : ℕ) (a : A) → j ≢ i → get_elem? (set l i a) j ≡ get_elem? l j
  set_else [] i j a n = refl
  set_else (x ∷ xs) zero zero a n = absurd (n refl)
  set_else (x ∷ xs) zero (suc j) a n = refl
  set_else (x ∷ xs) (suc i) zero a n = refl
  set_else (x ∷ xs) (suc i) (suc j) a n = set_else xs i j a (λ e. n (ap suc e))

  -- what holds of the new element and of each other one holds of each
  pub each_set : (Q : A → Type 0) (l : List A) (i : ℕ) (a : A) → ((j : ℕ) (d : A) → j ≢ i → get_elem? l j ≡ some d → Q d) → Q a → (j : ℕ) (d : A) → get_elem? (set l i a) j ≡ some d → Q d
  each_set Q l i a others mine j d at = ⊎_elim (λ (t : (j ≡ i) × (a ≡ d)). subst Q t.1 mine) (λ (t : (j ≢ i) × (get_elem? l j ≡ some d)). others j d t.0 t.1) (at_set l i j a d at)

  -- what stands there once one element more is behind the others
  pub at_snoc : (l : List A) (a b : A) (j : ℕ) → get_elem? (l ++ a ∷ []) j ≡ some b → (get_elem? l j ≡ some b) ⊎ (a ≡ b)
  at_snoc [] a b zero e = inr (some-injective a b e)
  at_snoc [] a b (suc j) e = absurd (some-ne-none b (sym e))
  at_snoc (x ∷ xs) a b zero e = inl e
  at_snoc (x ∷ xs) a b (suc j) e = at_snoc xs a b j e

  pub at_longer : (l m : List A) (i : ℕ) (a : A) → get_elem? l i ≡ some a → get_elem? (l ++ m) i ≡ some a
  at_longer [] m i a e = absurd (some-ne-none a (sym e))
  at_longer (x ∷ xs) m zero a e = e
  at_longer (x ∷ xs) m (suc i) a e = at_longer xs m i a e

  pub each_snoc : (Q : A → Type 0) (l : List A) (a : A) → ((j : ℕ) (d : A) → get_elem? l j ≡ some d → Q d) → Q a → (j : ℕ) (d : A) → get_elem? (l ++ a ∷ []) j ≡ some d → Q d
  each_snoc Q l a others mine j d at = ⊎_elim (λ (t : get_elem? l j ≡ some d). others j d t) (λ (t : a ≡ d). subst Q t mine) (at_snoc l a d j at)
