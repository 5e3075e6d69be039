-- The depth at which two keys part.
use Rattle.std.proofs.Common.{◌≡◌, ℕ, zero, suc, ◌+◌, ◌-◌, ◌*◌, ◌/◌, ◌^◌, ◌<◌, ◌≤◌, ◌⊎◌, cond, List, slice_index, inl, inr, sym, subst, ap, ap₂, ◌∙◌, arith, div-one}
use Rattle.std.proofs.lemmas.Bool.{cases_eq, cases_lt, eq-eqb, ne_eqb}
use Rattle.radix_nodes.specs.Keys.{key_bytes, key_byte_of, IsShared}
use Rattle.tree_law.specs.Trees.{first_bytes, byte_at}
use Rattle.tree_law.specs.Paths.{PartsAt}
use Rattle.tree_law.proofs.Spans.{span_is, first_is, first_next, fewer_alike}
use Rattle.layer_map.specs.Keys.{key_number, IsKey}
use Rattle.tree_floor.proofs.KeyNumbers.{byte_is_of_number, none_first, whole_first}
use Rattle.tree_look.specs.Depths.{shared_from, shared_of, KeysPart, PartsBefore}

module _ (one other : ℕ) where
  parts_or_same : (left depth : ℕ) → left + depth ≡ key_bytes → first_bytes depth one ≡ first_bytes depth other
      → ((shared_from one other left depth < key_bytes) × PartsAt (shared_from one other left depth) one other) ⊎ (one ≡ other)
  parts_or_same zero depth all same =
      let last : depth ≡ key_bytes = omega arith in
      inr (sym (whole_first one) ∙ subst (λ d. first_bytes d one ≡ first_bytes d other) last same ∙ whole_first other)
  parts_or_same (suc left) depth all same =
      let lt : depth < key_bytes = omega arith in
      elim (cases_eq (byte_at depth one) (byte_at depth other)) [
        | inl alike ↦
            let on : shared_from one other (suc left) depth ≡ shared_from one other left (depth + 1) = ap (λ a. cond a (shared_from one other left (depth + 1)) depth) (eq-eqb (byte_at depth one) (byte_at depth other) alike) in
            let next : first_bytes (depth + 1) one ≡ first_bytes (depth + 1) other = first_next depth one lt ∙ ap₂ (λ f b. 256 * f + b) same alike ∙ sym (first_next depth other lt) in
            subst (λ d. ((d < key_bytes) × PartsAt d one other) ⊎ (one ≡ other)) (sym on) (parts_or_same left (depth + 1) (omega arith) next)
        | inr apart ↦
            let here : shared_from one other (suc left) depth ≡ depth = ap (λ a. cond a (shared_from one other left (depth + 1)) depth) (ne_eqb (byte_at depth one) (byte_at depth other) apart) in
            inl (subst (λ d. (d < key_bytes) × PartsAt d one other) (sym here) (lt, record { same = same; apart = apart }))
      ]

pub keys_part : KeysPart
keys_part one other small small' differ =
    elim (parts_or_same one other key_bytes 0 (omega arith) (none_first one small ∙ sym (none_first other small'))) [ inl parts ↦ parts | inr same ↦ absurd (differ same) ]

pub parts_before : PartsBefore
parts_before depth at one other lt parts differ = elim (cases_lt at depth) [
  | inl less ↦ less
  | inr past ↦ elim (cases_lt key_bytes at) [
    | inl beyond ↦ absurd (differ (all_alike depth at one other lt beyond parts))
    | inr within ↦ absurd (differ (fewer_alike depth at one other past within parts.same))
  ]
]
  where
    all_alike : (depth at one other : ℕ) → depth < key_bytes → key_bytes < at → PartsAt at one other → first_bytes depth one ≡ first_bytes depth other
    all_alike depth at one other lt beyond parts =
        let past : (n : ℕ) → first_bytes at n ≡ n = λ n. first_is at n ∙ ap (λ s. n / s) (span_is at ∙ ap (λ e. 256 ^ e) (let z : key_bytes - at ≡ 0 = omega arith in z)) ∙ div-one n in
        ap (first_bytes depth) (sym (past one) ∙ parts.same ∙ past other)

-- the count of bytes that keys share is that of their numbers
module _ (one other : List ℕ) (is_one : IsKey one) (is_other : IsKey other) (count : ℕ) (shared : IsShared (slice_index one) (slice_index other) count) where
  counts : (left depth : ℕ) → left + depth ≡ key_bytes → depth ≤ count → shared_from (key_number one) (key_number other) left depth ≡ count
  counts zero depth all before = let within : count ≤ key_bytes = shared.within in omega arith
  counts (suc left) depth all before =
      let lt : depth < key_bytes = omega arith in
      let byte = byte_is_of_number (slice_index one) depth is_one.fits lt in
      let byte' = byte_is_of_number (slice_index other) depth is_other.fits lt in
      elim (cases_eq depth count) [
        | inl here ↦
            let apart = shared.apart (subst (λ d. d < key_bytes) here lt) in
            let differ : byte_at depth (key_number one) ≡ byte_at depth (key_number other) → ⊥ = λ same. apart (subst (λ d. key_byte_of (slice_index one) d ≡ key_byte_of (slice_index other) d) here (byte ∙ same ∙ sym byte')) in
            ap (λ a. cond a (shared_from (key_number one) (key_number other) left (depth + 1)) depth) (ne_eqb (byte_at depth (key_number one)) (byte_at depth (key_number other)) differ) ∙ here
        | inr not_here ↦
            let same = shared.same depth (omega (arith, not_here)) in
            ap (λ a. cond a (shared_from (key_number one) (key_number other) left (depth + 1)) depth) (eq-eqb (byte_at depth (key_number one)) (byte_at depth (key_number other)) (sym byte ∙ same ∙ byte'))
            ∙ counts left (depth + 1) (omega arith) (omega (arith, not_here))
      ]

  pub shared_is : count ≡ shared_of (key_number one) (key_number other)
  shared_is = sym (counts key_bytes 0 (omega arith) (omega arith))
