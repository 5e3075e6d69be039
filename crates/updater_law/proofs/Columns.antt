-- A column with one place changed.
use Rattle.std.proofs.Common.{◌≡◌, ◌≢◌, ℕ, refl, eq-eqb, ne_eqb}
use Rattle.updater_law.specs.Covers.{set_at}

module _ {A : Type 0} where
  pub here : (f : ℕ → A) (n m : ℕ) (x : A) → m ≡ n → set_at f n x m ≡ x
  unfolding set_at
  here f n m x e = rw (eq-eqb m n e) refl

  pub other : (f : ℕ → A) (n m : ℕ) (x : A) → m ≢ n → set_at f n x m ≡ f m
  unfolding set_at
  other f n m x h = rw (ne_eqb m n h) refl
