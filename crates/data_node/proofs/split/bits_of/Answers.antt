use Rattle.std.proofs.Common.{◌≡◌, ℕ, zero, suc, ◌<◌, ◌⊎◌, ◌↔◌, inl, inr, List, [], ◌∷◌, ◌++◌, Contains, take, get_or, sym, subst, arith}
use Rattle.std.proofs.lemmas.List.{take_more, take_all}
use Rattle.std.proofs.lemmas.List.Elements.{Contains-append_left, Contains-append_right, Contains-append_cases}
use Rattle.std.proofs.lemmas.Nat.Bits.{bit_at-zero}
use Rattle.data_node.specs.Slots.{IsLive}
use Rattle.data_node.proofs.split.bits_of.Goals as goal

pub loop-slot-init : goal.loop-slot-init
loop-slot-init c = λ slot. (λ live. absurd (let none = bit_at-zero slot in omega arith), λ has. absurd (omega (arith, has.1)))

the_one : (x y position : ℕ) → position < 1 → get_or (x ∷ []) position y ≡ y → y ≡ x
the_one x y zero within is = sym is
the_one x y (suc position) within is = absurd (omega arith)

-- a bit more is a slot more in the list
one_more : (xs : List ℕ) (x bits more : ℕ) → ((other : ℕ) → IsLive more other ↔ ((other ≡ x) ⊎ IsLive bits other)) → ((slot : ℕ) → IsLive bits slot ↔ Contains xs slot)
    → (slot : ℕ) → IsLive more slot ↔ Contains (xs ++ (x ∷ [])) slot
one_more xs x bits more with_bit before slot = (
  λ live. elim ((with_bit slot).0 live) as (λ _. Contains (xs ++ (x ∷ [])) slot) [
    | inl same ↦ Contains-append_right xs (x ∷ []) slot (0, omega arith, sym same)
    | inr was ↦ Contains-append_left xs (x ∷ []) slot ((before slot).0 was)
  ],
  λ has. elim (Contains-append_cases xs (x ∷ []) slot has) as (λ _. IsLive more slot) [
    | inl was ↦ (with_bit slot).1 (inr ((before slot).1 was))
    | inr new ↦ (with_bit slot).1 (inl (the_one x slot new.0 new.1 new.2))
  ],
)

pub loop-slot-preserved : goal.loop-slot-preserved
loop-slot-preserved c =
    let slots = c.args.slots.now in
    let at = c.loop-slot.slot-index in
    let x = get_or slots at 0 in
    subst (λ (l : List ℕ). (slot : ℕ) → IsLive c.with_live-bits.result slot ↔ Contains l slot) (sym (take_more slots at 0 c.loop-slot-test.true))
    (one_more (take at slots) x c.loop-slot.bits c.with_live-bits.result
    (subst (λ (k : ℕ). (other : ℕ) → IsLive c.with_live-bits.result other ↔ ((other ≡ k) ⊎ IsLive c.loop-slot.bits other)) c.from.ensures c.with_live-bits.ensures.bits) c.loop-slot.invariant)

pub returns : goal.returns
returns c =
    subst (λ (l : List ℕ). (slot : ℕ) → IsLive c.loop-slot.bits slot ↔ Contains l slot) (take_all c.loop-slot.slot-index c.args.slots.now c.loop-slot-test.false) c.loop-slot.invariant
