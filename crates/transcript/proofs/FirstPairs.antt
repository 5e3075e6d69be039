-- Pairs that are the first of others, one after another.
use Rattle.std.proofs.Common.{◌≡◌, ◌↔◌, ℕ, zero, suc, ◌+◌, ◌-◌, ◌<◌, ◌≤◌, List, [], ◌∷◌, length, get_or, take, drop, refl, sym, ap, ◌∙◌, arith}
use Rattle.std.proofs.lemmas.List.{drop_all}
use Rattle.std.proofs.Math.Seq.{drop-cons}
use Rattle.cat_key.specs.declared.Pair.{Pair}

heads : {X : Type 0} {a b : X} {xs ys : List X} → a ∷ xs ≡ b ∷ ys → a ≡ b
heads same = cc

tails : {X : Type 0} {a b : X} {xs ys : List X} → a ∷ xs ≡ b ∷ ys → xs ≡ ys
tails same = cc

no_first : {X : Type 0} {a : X} {xs : List X} → [] ≡ a ∷ xs → ⊥
no_first same = cc

-- what a loop over what was found knows when it comes to a place: the pairs from there on are the first of what is left
-- exactly where this holds of all
pub record FirstSoFar (pairs : List Pair) (at left : ℕ) (found : List Pair) (Whole : Type 0) : Type 0 where
  pub few : at ≤ length pairs
  pub some : at ≤ left
  pub rest : (drop at pairs ≡ take (left - at) found) ↔ Whole

module _ (pairs : List Pair) (at left : ℕ) (x : Pair) (xs : List Pair) where
  taken : at < left → take (left - at) (x ∷ xs) ≡ x ∷ take (left - (at + 1)) xs
  taken less = ap (λ (n : ℕ). take n (x ∷ xs)) (let more : left - at ≡ suc (left - (at + 1)) = omega arith in more)

  dropped : (d : Pair) → at < length pairs → drop at pairs ≡ get_or pairs at d ∷ drop (at + 1) pairs
  dropped d within = drop-cons pairs at d within ∙ ap (λ (n : ℕ). get_or pairs at d ∷ drop n pairs) (let next : suc at ≡ at + 1 = omega arith in next)

  -- the next pair is the next one found, and those behind are the first behind
  pub one_more : (d : Pair) → at < length pairs → at < left → get_or pairs at d ≡ x →
      (drop (at + 1) pairs ≡ take (left - (at + 1)) xs) ↔ (drop at pairs ≡ take (left - at) (x ∷ xs))
  one_more d within less is = (
    λ rest. dropped d within ∙ (λ i. is i ∷ rest i) ∙ sym (taken less),
    λ all. tails (sym (dropped d within) ∙ all ∙ taken less),
  )

  -- the next pair is no other one
  pub is_next : (d : Pair) → at < length pairs → at < left → drop at pairs ≡ take (left - at) (x ∷ xs) → get_or pairs at d ≡ x
  is_next d within less all = heads (sym (dropped d within) ∙ all ∙ taken less)

  -- and there is one
  pub has_next : length pairs ≤ at → at < left → drop at pairs ≡ take (left - at) (x ∷ xs) → ⊥
  has_next past less all = no_first (sym (drop_all at pairs past) ∙ all ∙ taken less)

  -- a loop that has come to the next pair found
  module _ (found : List Pair) (Whole : Type 0) (is : found ≡ x ∷ xs) (before : FirstSoFar pairs at left found Whole) where
    pub goes_past : (d : Pair) → at < length pairs → at < left → get_or pairs at d ≡ x → FirstSoFar pairs (at + 1) left xs Whole
    goes_past d within less same =
        let more = one_more d within less same in record {
          few = omega (arith, within);
          some = omega (arith, less);
          rest = (
            λ rest. before.rest.0 (more.0 rest ∙ ap (take (left - at)) (sym is)),
            λ all. more.1 (before.rest.1 all ∙ ap (take (left - at)) is),
          );
        }

    pub all_here : Whole → drop at pairs ≡ take (left - at) (x ∷ xs)
    all_here all = before.rest.1 all ∙ ap (take (left - at)) is

-- of nothing there are no first ones
pub none_first : {X : Type 0} (n : ℕ) → ◌≡◌ {A = List X} (take n []) []
none_first zero = refl
none_first (suc n) = refl
