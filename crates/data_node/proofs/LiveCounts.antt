-- How many slots are live.
use Rattle.std.proofs.Common.{◌≡◌, ℕ, zero, suc, ◌+◌, ◌<◌, ◌≤◌, ◌==◌, true, false, cond, inl, inr, refl, sym, subst, ap, arith}
use Rattle.std.specs.Int.{bit_at}
use Rattle.std.proofs.lemmas.Bool.{cases_eq, eq-eqb, eqb-true, ne_eqb}
use Rattle.data_node.specs.Bits.{with_live, without_live, live_count}
use Rattle.data_node.specs.Slots.{IsLive, IsClear}
use Rattle.data_node.specs.Spots.{Spot}
use Rattle.data_node.proofs.BitLemmas.{without_live-same, without_live-other}

pub live_most : (n bitmap : ℕ) → live_count n bitmap ≤ n
live_most zero bitmap = omega arith
live_most (suc n) bitmap = let rest = live_most n bitmap in elim (bit_at bitmap n == 1) as (λ b. cond b 1 0 + live_count n bitmap ≤ suc n) [
  | true ↦ omega arith
  | false ↦ omega arith
]

-- one for a live slot, none for a clear one
abbrev pub one_at : ℕ → ℕ → ℕ
one_at bitmap slot = cond (bit_at bitmap slot == 1) 1 0

pub one_live : (bitmap slot : ℕ) → IsLive bitmap slot → one_at bitmap slot ≡ 1
one_live bitmap slot live = ap (λ b. cond b 1 0) (eq-eqb (bit_at bitmap slot) 1 live)

pub one_clear : (bitmap slot : ℕ) → IsClear bitmap slot → one_at bitmap slot ≡ 0
one_clear bitmap slot clear = ap (λ b. cond b 1 0) (ne_eqb (bit_at bitmap slot) 1 (λ live. omega arith))

pub live_same : (n a b : ℕ) → ((slot : ℕ) → slot < n → bit_at a slot ≡ bit_at b slot) → live_count n a ≡ live_count n b
live_same zero a b same = refl
live_same (suc n) a b same =
    let here : one_at a n ≡ one_at b n = ap (λ d. cond (d == 1) 1 0) (same n (omega arith)) in
    let rest = live_same n a b (λ slot below. same slot (omega arith)) in
    omega arith

-- one live slot fewer
pub live_without : (n bitmap slot : ℕ) → n ≤ 64 → slot < n → IsLive bitmap slot → live_count n bitmap ≡ live_count n (without_live bitmap slot) + 1
live_without zero bitmap slot few within live = absurd (omega arith)
live_without (suc n) bitmap slot few within live =
    elim (cases_eq slot n) [
      | inl last ↦
          let was : one_at bitmap n ≡ 1 = subst (λ k. one_at bitmap k ≡ 1) last (one_live bitmap slot live) in
          let is : one_at (without_live bitmap slot) n ≡ 0 = subst (λ k. one_at (without_live bitmap slot) k ≡ 0) last (one_clear (without_live bitmap slot) slot (without_live-same bitmap slot (omega arith))) in
          let rest = live_same n (without_live bitmap slot) bitmap (λ other below. without_live-other bitmap slot other (omega arith) (omega arith) (λ e. omega arith)) in
          omega arith
      | inr other ↦
          let here : one_at (without_live bitmap slot) n ≡ one_at bitmap n = ap (λ d. cond (d == 1) 1 0) (without_live-other bitmap slot n (omega arith) (omega arith) (λ e. other (sym e))) in
          let rest = live_without n bitmap slot (omega arith) (omega arith) live in
          omega arith
    ]

-- where no slot is live, none is counted,
pub none_live : (n bitmap : ℕ) → ((slot : ℕ) → slot < n → IsLive bitmap slot → ⊥) → live_count n bitmap ≡ 0
none_live zero bitmap dead = refl
none_live (suc n) bitmap dead =
    let rest = none_live n bitmap (λ slot below. dead slot (omega arith)) in
    elim (bit_at bitmap n == 1) as (λ b. (bit_at bitmap n == 1) ≡ b → cond b 1 0 + live_count n bitmap ≡ 0) [
      | true ↦ λ is. absurd (dead n (omega arith) (eqb-true (bit_at bitmap n) 1 is))
      | false ↦ λ _. omega (arith, rest)
    ] refl

-- and where none is counted, none is live
pub live_none : (n bitmap slot : ℕ) → live_count n bitmap ≡ 0 → slot < n → IsLive bitmap slot → ⊥
live_none zero bitmap slot none within live = omega arith
live_none (suc n) bitmap slot none within live =
    elim (cases_eq slot n) [
      | inl last ↦ let one : one_at bitmap n ≡ 1 = subst (λ k. one_at bitmap k ≡ 1) last (one_live bitmap slot live) in omega arith
      | inr other ↦ live_none n bitmap slot (omega arith) (omega arith) live
    ]

-- as many of more slots at least
pub live_more : (n more bitmap : ℕ) → n ≤ more → live_count n bitmap ≤ live_count more bitmap
live_more n zero bitmap few = let same : n ≡ 0 = omega arith in subst (λ k. live_count k bitmap ≤ 0) (sym same) (omega arith)
live_more n (suc more) bitmap few =
    elim (cases_eq n (suc more)) [
      | inl all ↦ subst (λ k. live_count k bitmap ≤ live_count (suc more) bitmap) (sym all) (omega arith)
      | inr fewer ↦ let rest = live_more n more bitmap (omega arith) in omega arith
    ]
