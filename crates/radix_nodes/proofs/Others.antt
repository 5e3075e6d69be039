-- Looking for the other children of a cell, byte by byte.
use Rattle.std.proofs.Common.{◌≡◌, ◌≢◌, ℕ, ◌+◌, ◌<◌, ◌≤◌, ◌⊎◌, inl, inr, refl, sym, ap, ◌∙◌, arith}
use Rattle.std.proofs.lemmas.Bool.{cases_eq, cases_lt}
use Rattle.radix_nodes.specs.Cells.{Children, HasTwo}
use Rattle.radix_nodes.specs.Changes.{HasTwoMore, IsOneMore}

-- below this byte there is no other child, or one with what was found
abbrev pub NoneTo : Children → ℕ → ℕ → Type 0
NoneTo m byte upto = (b : ℕ) → b < upto → b ≢ byte → m b ≡ 0

pub record OneTo (m : Children) (byte upto found : ℕ) : Type 0 where
  pub other : ℕ
  pub below : other < upto
  pub apart : other ≢ byte
  pub is : m other ≡ found
  pub some_child : found ≢ 0
  pub only : (b : ℕ) → b < upto → b ≢ byte → b ≢ other → m b ≡ 0

abbrev pub FoundSo : Children → ℕ → ℕ → ℕ → Type 0
FoundSo m byte upto found = ((found ≡ 0) × NoneTo m byte upto) ⊎ OneTo m byte upto found

-- no other child is under this byte
pub found_none : (m : Children) (byte upto found : ℕ) → ((upto ≢ byte → m upto ≢ 0 → ⊥)) → FoundSo m byte upto found → FoundSo m byte (upto + 1) found
found_none m byte upto found absent so = elim so [
  | inl none ↦ inl (
    none.0,
    λ b lt apart. elim (cases_eq b upto) [
      | inl here ↦ elim (cases_eq (m b) 0) [ inl e ↦ e | inr some_child ↦ absurd (absent (λ e. apart (here ∙ e)) (λ e. some_child (ap m here ∙ e))) ]
      | inr below ↦ none.1 b (omega (arith, below)) apart
    ],
  )
  | inr one ↦ inr (record {
    other = one.other;
    below = let lt = one.below in omega arith;
    apart = one.apart;
    is = one.is;
    some_child = one.some_child;
    only = λ b lt apart other. elim (cases_eq b upto) [
      | inl here ↦ elim (cases_eq (m b) 0) [ inl e ↦ e | inr some_child ↦ absurd (absent (λ e. apart (here ∙ e)) (λ e. some_child (ap m here ∙ e))) ]
      | inr below ↦ one.only b (omega (arith, below)) apart other
    ];
  })
]

-- the first other child is
pub found_first : (m : Children) (byte upto found : ℕ) → upto ≢ byte → m upto ≢ 0 → found ≡ 0 → FoundSo m byte upto found → FoundSo m byte (upto + 1) (m upto)
found_first m byte upto found apart some_child is so = elim so [
  | inl none ↦ inr (record {
    other = upto;
    below = omega arith;
    apart = apart;
    is = refl;
    some_child = some_child;
    only = λ b lt not_byte not_here. none.1 b (omega (arith, not_here)) not_byte;
  })
  | inr one ↦ absurd (one.some_child is)
]

-- and the second one
pub found_second : (m : Children) (byte upto found : ℕ) → upto ≢ byte → m upto ≢ 0 → found ≢ 0 → FoundSo m byte upto found → HasTwoMore m byte
found_second m byte upto found apart some_child some_found so = elim so [
  | inl none ↦ absurd (some_found none.0)
  | inr one ↦ record {
    one = one.other;
    two = upto;
    apart = let lt = one.below in λ e. omega arith;
    not_one = one.apart;
    not_two = apart;
    has_one = λ e. one.some_child (sym one.is ∙ e);
    has_two = some_child;
  }
]

-- in the end there is just one, where there are two children in all
pub found_end : (m : Children) (byte found : ℕ) → ((b : ℕ) → 256 ≤ b → m b ≡ 0) → HasTwo m → FoundSo m byte 256 found → IsOneMore m byte found
found_end m byte found past two so = elim so [
  | inl none ↦
      let none_else : (b : ℕ) → b ≢ byte → m b ≡ 0 = λ b apart. elim (cases_lt b 256) [ inl lt ↦ none.1 b lt apart | inr le ↦ past b le ] in
      elim (cases_eq two.one byte) [
        | inl is ↦ absurd (two.has_two (none_else two.two (λ e. two.apart (is ∙ sym e))))
        | inr other ↦ absurd (two.has_one (none_else two.one other))
      ]
  | inr one ↦ record {
    other = one.other;
    apart = one.apart;
    is = one.is;
    some_child = one.some_child;
    only = λ b not_byte not_other. elim (cases_lt b 256) [ inl lt ↦ one.only b lt not_byte not_other | inr le ↦ past b le ];
  }
]
