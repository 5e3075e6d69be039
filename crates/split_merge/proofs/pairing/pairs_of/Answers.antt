use Rattle.std.proofs.Common.{◌≡◌, ℕ, ◌/◌, ◌<◌, ◌≤◌, ◌∙◌, ltb, true, false, cond, List, refl, ap, get_or, arith}
use Rattle.std.proofs.lemmas.Bool.{ltb-true, ltb-false}
use Rattle.std.proofs.lemmas.List.{get_or-replicate}
use Rattle.std.proofs.lemmas.List.FromFn.{fill_by_all}
use Rattle.split_merge.specs.Pairs.{source_at, half_source, sources_of, targets_at, grown_at}
use Rattle.split_merge.proofs.pairing.pairs_of.Goals as goal

pub loop-slot-init : goal.loop-slot-init
loop-slot-init c = (refl, refl, refl, refl, λ k below. absurd (omega arith), λ k above below. get_or-replicate 32 k 64 0 below)

filled : (own right slots : ℕ) (from : List ℕ) (k : ℕ) → ((k : ℕ) → k < slots / 2 → get_or from k 0 ≡ source_at own right slots k) → ((k : ℕ) → slots / 2 ≤ k → k < 32 → get_or from k 0 ≡ 64) → k < 32
    → get_or from k 0 ≡ half_source own right slots k
filled own right slots from k low high inside =
    elim (ltb k (slots / 2)) as (λ b. ltb k (slots / 2) ≡ b → get_or from k 0 ≡ cond b (source_at own right slots k) 64) [
      | true ↦ λ is. low k (ltb-true _ _ is)
      | false ↦ λ is. high k (ltb-false _ _ is) inside
    ] refl

pub returns : goal.returns
unfolding sources_of
returns c =
    let is = c.loop-slot.invariant in
    let own = c.args.own in
    let right = c.args.right in
    let slots = c.args.slots in
    let end : c.loop-slot.slot ≡ slots / 2 = (let low = c.loop-slot-test.false in let high = c.loop-slot.auto.slot-end in omega arith) in
    let from : c.loop-slot.from ≡ sources_of own right slots =
    fill_by_all (half_source own right slots) c.loop-slot.from 32 0 is.3 (λ k below. filled own right slots c.loop-slot.from k (λ j low. is.4 j (omega arith)) (λ j high most. is.5 j (omega arith) most) below) in
    let targets : c.loop-slot.targets ≡ targets_at own right slots (slots / 2) = is.1 ∙ ap (targets_at own right slots) end in
    let grown : c.loop-slot.grown ≡ grown_at own right slots (slots / 2) = is.2 ∙ ap (grown_at own right slots) end in
    λ i. record { from = from i; targets = targets i; grown = grown i }
