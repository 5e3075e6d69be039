use Rattle.std.proofs.Common.{◌≡◌, ℕ, ◌/◌, ◌%◌, get_or, replicate, ap, ◌∙◌, arith, inl, inr}
use Rattle.std.proofs.lemmas.Bool.{cases_lt}
use Rattle.std.proofs.lemmas.List.{get_or-replicate, get_or_past, length-replicate}
use Rattle.std.proofs.lemmas.Nat.Bits.{bit_at-zero}
use Rattle.std.specs.Int.{bit_at}
use Rattle.image_rules.proofs.node_set.NodeSet.new.Goals as goal

zeros : (k : ℕ) → get_or (replicate {A = ℕ} 64 0) k 0 ≡ 0
zeros k = elim (cases_lt k 64) as (λ _. get_or (replicate {A = ℕ} 64 0) k 0 ≡ 0) [
  | inl within ↦ get_or-replicate 64 k 0 0 within
  | inr past ↦ get_or_past (replicate {A = ℕ} 64 0) k 0 (let size = length-replicate {A = ℕ} 64 0 in omega arith)
]

pub returns : goal.returns
returns c = λ node has.
    let none : bit_at (get_or (replicate {A = ℕ} 64 0) (node / 64) 0) (node % 64) ≡ 0 = ap (λ w. bit_at w (node % 64)) (zeros (node / 64)) ∙ bit_at-zero (node % 64) in
    omega (arith, none, has)
