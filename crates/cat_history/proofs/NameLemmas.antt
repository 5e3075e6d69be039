-- Names that are one or differ.
use Rattle.std.proofs.Common.{◌≡◌, ◌≢◌, ℕ, Bool, true, false, Decides, Some, None, List, refl, subst}
use Rattle.std.proofs.lemmas.Bool.{false≢true}
use Rattle.std.proofs.lemmas.Slice.Eq.{bytes_eq-Decides}
use Rattle.std.specs.Cmp.Lexicographic.{texts_ties}
use Rattle.std.specs.Ordering.{eq_by_cmp}
use Rattle.cat_key.specs.Names.{name_cmp}

abbrev pub same : List ℕ → List ℕ → Bool
same a b = eq_by_cmp name_cmp a b

pub same-Decides : (a b : List ℕ) → Decides (same a b) (a ≡ b)
same-Decides a b = subst (λ r. Decides r (a ≡ b)) (texts_ties a b) (bytes_eq-Decides a b)

-- whether two names are one, by cases
pub by_names : (a b : List ℕ) (P : Bool → Type 0) → (a ≡ b → P true) → (a ≢ b → P false) → P (same a b)
by_names a b P alike unlike =
    elim (same a b) as (λ r. Decides r (a ≡ b) → P r) [
      | true ↦ λ d. alike (d.0 refl)
      | false ↦ λ d. unlike (λ e. false≢true (d.1 e))
    ] (same-Decides a b)

pub some≢none : (x : ℕ) → Some x ≢ None
some≢none x e = cc
