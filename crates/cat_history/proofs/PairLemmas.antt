-- What a list of pairs says of a name, as a map of names: what the first of its pairs says.
use Rattle.std.proofs.Common.{◌≡◌, ◌≢◌, ℕ, zero, suc, ◌<◌, cond, Some, None, List, [], ◌∷◌, length, get_or, refl, sym, ap, ◌∙◌, arith, All}
use Rattle.std.proofs.lemmas.List.Elements.{recursion_from_All}
use Rattle.std.specs.Cmp.Lexicographic.{nat_list_cmp_total}
use Rattle.std.specs.FinMap.{get-insert, get-empty}
use Rattle.std.specs.List.{AllByRecursion}
use Rattle.cat_key.specs.Names.{name_cmp}
use Rattle.cat_key.specs.declared.Pair.{Pair}
use Rattle.cat_history.specs.Maps.{at, map_of}
use Rattle.cat_history.proofs.NameLemmas.{same, same-Decides, by_names}

-- the first pair, and the others
pub at-cons : (p : Pair) (ps : List Pair) (q : List ℕ) → at (map_of (p ∷ ps)) q ≡ cond (same q p.name) (Some p.value) (at (map_of ps) q)
at-cons p ps q = get-insert nat_list_cmp_total (map_of ps) p.name p.value q

pub at-other : (p : Pair) (ps : List Pair) (q : List ℕ) → q ≢ p.name → at (map_of (p ∷ ps)) q ≡ at (map_of ps) q
at-other p ps q other =
    at-cons p ps q ∙ by_names q p.name (λ b. cond b (Some p.value) (at (map_of ps) q) ≡ at (map_of ps) q) (λ e. absurd (other e)) (λ _. refl)

pub at-lacking : (ps : List Pair) (q : List ℕ) → All (λ p. p.name ≢ q) ps → at (map_of ps) q ≡ None
at-lacking ps q all = by_pairs ps (recursion_from_All (λ (p : Pair). p.name ≢ q) ps all) where
  by_pairs : (xs : List Pair) → AllByRecursion (λ p. p.name ≢ q) xs → at (map_of xs) q ≡ None
  by_pairs [] all = get-empty name_cmp q
  by_pairs (p ∷ xs) all = at-other p xs q (λ e. all.0 (sym e)) ∙ by_pairs xs all.1

-- the pair at this place has this name
abbrev pub HasName : List Pair → ℕ → List ℕ → Type 0
HasName ps i n = (d : Pair) → (get_or ps i d).name ≡ n

-- the first pair with a name gives its number
pub at-first : (ps : List Pair) (i : ℕ) (n : List ℕ) (d : Pair) → i < length ps → ((k : ℕ) → k < i → (e : Pair) → (get_or ps k e).name ≢ n) → HasName ps i n →
    at (map_of ps) n ≡ Some (get_or ps i d).value
at-first [] i n d within before named = absurd (omega (arith, within))
at-first (p ∷ ps) zero n d within before named =
    at-cons p ps n ∙ ap (λ b. cond b (Some p.value) (at (map_of ps) n)) ((same-Decides n p.name).1 (sym (named d)))
at-first (p ∷ ps) (suc i) n d within before named =
    at-other p ps n (λ e. before 0 (omega arith) p (sym e)) ∙ at-first ps i n d (omega (arith, within)) (λ k less. before (suc k) (omega arith)) named
