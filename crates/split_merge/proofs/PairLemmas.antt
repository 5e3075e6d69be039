-- Which slots get a name, and whose.
use Rattle.std.proofs.Common.{◌≡◌, ℕ, zero, suc, ◌+◌, ◌/◌, ◌^◌, ◌<◌, ◌≤◌, ◌==◌, ◌⊎◌, ltb, true, false, cond, inl, inr, refl, sym, subst, ap, ◌∙◌, slice_index, arith}
use Rattle.std.specs.Int.{w64, bit_at, trailing_zeros}
use Rattle.std.specs.Int.Count.{trailing_of_zero}
use Rattle.std.proofs.lemmas.Bool.{cases_eq, and_parts, and_from, eq-eqb, eqb-true, ltb-true, ltb-false, lt-ltb}
use Rattle.std.proofs.lemmas.List.FromFn.{get_or-map-range_with_len}
use Rattle.std.proofs.lemmas.Nat.Bits.{bit_at-zero, bit_at-lt, bit_at-trailing_zeros}
use Rattle.data_node.specs.Bits.{with_live, without_live, live_count}
use Rattle.data_node.specs.Slots.{IsLive, IsClear}
use Rattle.data_node.proofs.BitLemmas.{with_live-same, with_live-other, without_live-same, without_live-other, with_live_below, without_live_below}
use Rattle.data_node.proofs.LiveCounts.{one_at, one_live, live_without, none_live, live_more}
use Rattle.split_merge.specs.Pairs.{rest_at, gets_at, source_at, half_source, sources_of, targets_at, grown_at}

-- a bit is set or clear
clear_or_live : (bitmap slot : ℕ) → (IsLive bitmap slot → ⊥) → IsClear bitmap slot
clear_or_live bitmap slot dead = let low = bit_at-lt bitmap slot in elim (cases_eq (bit_at bitmap slot) 1) [
  | inl live ↦ absurd (dead live)
  | inr other ↦ omega arith
]

pub not_both : (bitmap slot : ℕ) → IsLive bitmap slot → IsClear bitmap slot → ⊥
not_both bitmap slot live clear = omega arith

-- the lowest live slot of a bitmap, where that lies below some number of slots
pub lowest_is : (bitmap slots : ℕ) → bitmap < 2 ^ 64 → slots ≤ 64 → trailing_zeros w64 bitmap < slots → IsLive bitmap (trailing_zeros w64 bitmap)
lowest_is bitmap slots fits few below =
    elim (cases_eq bitmap 0) [
      | inl none ↦
          let far : trailing_zeros w64 bitmap ≡ 64 = ap (trailing_zeros w64) none ∙ trailing_of_zero 64 in
          absurd (omega arith)
      | inr some ↦ (bit_at-trailing_zeros w64 bitmap (omega arith) fits).1
    ]

-- a live slot is no lower than the lowest one
pub lowest_low : (bitmap slot : ℕ) → bitmap < 2 ^ 64 → IsLive bitmap slot → trailing_zeros w64 bitmap ≤ slot
lowest_low bitmap slot fits live =
    elim (cases_eq bitmap 0) [
      | inl none ↦
          let zeros : bit_at bitmap slot ≡ 0 = ap (λ b. bit_at b slot) none ∙ bit_at-zero slot in
          absurd (omega arith)
      | inr some ↦
          let found = bit_at-trailing_zeros w64 bitmap (omega arith) fits in
          elim (ltb slot (trailing_zeros w64 bitmap)) as (λ b. ltb slot (trailing_zeros w64 bitmap) ≡ b → trailing_zeros w64 bitmap ≤ slot) [
            | true ↦ λ low. let clear = found.2 slot (ltb-true _ _ low) in absurd (omega arith)
            | false ↦ λ high. let le = ltb-false _ _ high in omega arith
          ] refl
    ]

module _ (own right slots : ℕ) where
  abbrev pub rest : ℕ → ℕ
  rest = rest_at own right slots

  abbrev pub does : ℕ → Type 0
  does slot = gets_at own right slots slot ≡ true

  abbrev pub low : ℕ → ℕ
  low slot = trailing_zeros w64 (rest slot)

  pub gets_parts : (slot : ℕ) → does slot → IsClear own slot × (low slot < slots)
  gets_parts slot is = let parts = and_parts (bit_at own slot == 0) (ltb (low slot) slots) is in (eqb-true _ _ parts.0, ltb-true _ _ parts.1)

  pub targets_are : (n : ℕ) → n ≤ 64 → (slot : ℕ) → IsLive (targets_at own right slots n) slot → (slot < n) × does slot
  targets_are zero few slot live = let none = bit_at-zero slot in absurd (omega arith)
  targets_are (suc n) few slot live =
      elim (gets_at own right slots n) as (λ b. gets_at own right slots n ≡ b → IsLive (cond b (with_live (targets_at own right slots n) n) (targets_at own right slots n)) slot → (slot < suc n) × does slot) [
        | true ↦ λ is live. elim (cases_eq slot n) [
          | inl same ↦ (omega arith, subst does (sym same) is)
          | inr other ↦
              let before = targets_are n (omega arith) slot (sym (with_live-other (targets_at own right slots n) n slot (omega arith) other) ∙ live) in
              (let b = before.0 in omega arith, before.1)
        ]
        | false ↦ λ is live. let before = targets_are n (omega arith) slot live in (let b = before.0 in omega arith, before.1)
      ] refl live

  -- each slot that gets a name is live in a bitmap to which those are added in turn
  gets_live : (made : ℕ → ℕ) → ((n : ℕ) → made (suc n) ≡ cond (gets_at own right slots n) (with_live (made n) n) (made n)) → (n : ℕ) → n ≤ 64 → (slot : ℕ) → slot < n → does slot → IsLive (made n) slot
  gets_live made adds zero few slot within is = absurd (omega arith)
  gets_live made adds (suc n) few slot within is =
      subst (λ bitmap. IsLive bitmap slot) (sym (adds n))
      (elim (gets_at own right slots n) as (λ b. gets_at own right slots n ≡ b → IsLive (cond b (with_live (made n) n) (made n)) slot) [
        | true ↦ λ here. elim (cases_eq slot n) [
          | inl same ↦ subst (IsLive (with_live (made n) n)) (sym same) (with_live-same (made n) n (omega arith))
          | inr other ↦ with_live-other (made n) n slot (omega arith) other ∙ gets_live made adds n (omega arith) slot (omega arith) is
        ]
        | false ↦ λ here. elim (cases_eq slot n) [
          | inl same ↦ let yes : gets_at own right slots n ≡ true = subst does same is in absurd (let no : true ≡ false = sym yes ∙ here in cc)
          | inr other ↦ gets_live made adds n (omega arith) slot (omega arith) is
        ]
      ] refl)

  pub are_targets : (n : ℕ) → n ≤ 64 → (slot : ℕ) → slot < n → does slot → IsLive (targets_at own right slots n) slot
  are_targets n few slot within is = gets_live (targets_at own right slots) (λ k. refl) n few slot within is

  pub targets_fit : (n : ℕ) → n ≤ 64 → targets_at own right slots n < 2 ^ 64
  targets_fit zero few = omega arith
  targets_fit (suc n) few = elim (gets_at own right slots n) as (λ b. cond b (with_live (targets_at own right slots n) n) (targets_at own right slots n) < 2 ^ 64) [
    | true ↦ with_live_below 64 (targets_at own right slots n) n (omega arith) (omega arith) (targets_fit n (omega arith))
    | false ↦ targets_fit n (omega arith)
  ]

  -- the slot of the right node, as the list of them has it
  pub from_is : slots ≤ 64 → (slot : ℕ) → slot < slots / 2 → slice_index (sources_of own right slots) slot ≡ source_at own right slots slot
  unfolding sources_of
  from_is few slot inside =
      get_or-map-range_with_len (half_source own right slots) 0 32 slot slot 0 (omega arith) (omega arith) ∙ ap (λ b. cond b (source_at own right slots slot) 64) (lt-ltb slot (slots / 2) inside)

  pub from_beyond : (slot : ℕ) → slots / 2 ≤ slot → slot < 32 → slice_index (sources_of own right slots) slot ≡ 64
  unfolding sources_of
  from_beyond slot beyond inside =
      get_or-map-range_with_len (half_source own right slots) 0 32 slot slot 0 (omega arith) (omega arith) ∙ far
    where
      far : half_source own right slots slot ≡ 64
      far = elim (ltb slot (slots / 2)) as (λ b. ltb slot (slots / 2) ≡ b → cond b (source_at own right slots slot) 64 ≡ 64) [
        | true ↦ λ is. let low = ltb-true _ _ is in absurd (omega arith)
        | false ↦ λ _. refl
      ] refl

  pub source_is : (slot : ℕ) → does slot → source_at own right slots slot ≡ low slot
  source_is slot is = ap (λ b. cond b (low slot) 64) is

  pub source_tells : (slot : ℕ) → source_at own right slots slot < 64 → does slot
  source_tells slot = elim (gets_at own right slots slot) as (λ b. cond b (low slot) 64 < 64 → b ≡ true) [
    | true ↦ λ _. refl
    | false ↦ λ no. absurd (omega arith)
  ]

  -- a slot that gets a name is one of the first half, and gets that of one of the right node's slots
  pub target_is : slots ≤ 64 → (slot : ℕ) → IsLive (targets_at own right slots (slots / 2)) slot
      → (slot < slots / 2) × does slot × (slice_index (sources_of own right slots) slot ≡ low slot) × (low slot < slots)
  target_is few slot live =
      let is = targets_are (slots / 2) (omega arith) slot live in
      (is.0, is.1, from_is few slot is.0 ∙ source_is slot is.1, (gets_parts slot is.1).1)

  -- below some number of slots each live slot of the right node is still there, or has gone into a slot of the left one
  pub rest_fits : right < 2 ^ 64 → (n : ℕ) → rest n < 2 ^ 64
  rest_fits fits zero = fits
  rest_fits fits (suc n) = elim (gets_at own right slots n) as (λ b. cond b (without_live (rest n) (low n)) (rest n) < 2 ^ 64) [
    | true ↦ without_live_below 64 (rest n) (low n) (rest_fits fits n)
    | false ↦ rest_fits fits n
  ]

  module _ (fits : right < 2 ^ 64) (few : slots ≤ 64) where
    pub low_live : (slot : ℕ) → does slot → IsLive (rest slot) (low slot)
    low_live slot is = lowest_is (rest slot) slots (rest_fits fits slot) few (gets_parts slot is).1

    rest_after : (n slot : ℕ) → slot < 64 → IsLive (rest (suc n)) slot → IsLive (rest n) slot × (does n → slot ≡ low n → ⊥)
    rest_after n slot within =
        elim (gets_at own right slots n) as (λ b. gets_at own right slots n ≡ b → IsLive (cond b (without_live (rest n) (low n)) (rest n)) slot → IsLive (rest n) slot × (b ≡ true → slot ≡ low n → ⊥)) [
          | true ↦ λ is live.
              let bound : low n < 64 = (let below = (gets_parts n is).1 in omega arith) in
              let apart : slot ≡ low n → ⊥ = λ e. not_both (without_live (rest n) (low n)) slot live (subst (IsClear (without_live (rest n) (low n))) (sym e) (without_live-same (rest n) (low n) bound)) in
              (sym (without_live-other (rest n) (low n) slot bound within apart) ∙ live, λ _. apart)
          | false ↦ λ is live. (live, λ no. absurd (let e : false ≡ true = no in cc))
        ] refl

    -- what is left later was left before, and has gone into no slot between
    pub rest_before : (n m slot : ℕ) → n ≤ m → slot < 64 → IsLive (rest m) slot → IsLive (rest n) slot × ((k : ℕ) → n ≤ k → k < m → does k → slot ≡ low k → ⊥)
    rest_before n zero slot le within live = let none : n ≡ 0 = omega arith in (subst (λ k. IsLive (rest k) slot) (sym none) live, λ k low_k high_k. absurd (omega arith))
    rest_before n (suc m) slot le within live =
        elim (cases_eq n (suc m)) [
          | inl all ↦ (subst (λ k. IsLive (rest k) slot) (sym all) live, λ k low_k high_k. absurd (omega arith))
          | inr fewer ↦
              let step = rest_after m slot within live in
              let before = rest_before n m slot (omega arith) within step.0 in (
                before.0,
                λ k low_k high_k is same. elim (cases_eq k m) [
                  | inl last ↦ step.1 (subst does last is) (same ∙ ap low last)
                  | inr other ↦ before.1 k low_k (omega arith) is same
                ],
              )
        ]

    -- two slots get two names
    pub sources_apart : (i j : ℕ) → i < j → does i → does j → low i ≡ low j → ⊥
    sources_apart i j below is is' same =
        let bound : low j < 64 = (let b = (gets_parts j is').1 in omega arith) in
        (rest_before i j (low j) (omega arith) bound (low_live j is')).1 i (omega arith) below is (sym same)

    -- each slot that was live is left, or has gone into one
    pub gone_into : (n slot : ℕ) → slot < 64 → IsLive right slot → IsLive (rest n) slot ⊎ ((k : ℕ) × (k < n) × does k × (low k ≡ slot))
    gone_into zero slot within live = inl live
    gone_into (suc n) slot within live =
        elim (gone_into n slot within live) [
          | inr gone ↦ inr (gone.0, (let b = gone.1 in omega arith), gone.2, gone.3)
          | inl left ↦
              elim (gets_at own right slots n) as (λ b. gets_at own right slots n ≡ b → IsLive (cond b (without_live (rest n) (low n)) (rest n)) slot ⊎ ((k : ℕ) × (k < suc n) × does k × (low k ≡ slot))) [
                | true ↦ λ is. elim (cases_eq slot (low n)) [
                  | inl same ↦ inr (n, omega arith, is, sym same)
                  | inr other ↦ inl (without_live-other (rest n) (low n) slot (let b = (gets_parts n is).1 in omega arith) within other ∙ left)
                ]
                | false ↦ λ _. inl left
              ] refl
        ]

    -- so many are left at most: each clear slot has taken one
    pub rest_counts : (n : ℕ) → n ≤ 64 → (live_count slots (rest n) ≡ 0) ⊎ (live_count slots (rest n) + n ≤ live_count slots right + live_count n own)
    rest_counts zero most = inr (omega arith)
    rest_counts (suc n) most =
        elim (gets_at own right slots n) as (λ b. gets_at own right slots n ≡ b → (live_count slots (cond b (without_live (rest n) (low n)) (rest n)) ≡ 0)
        ⊎ (live_count slots (cond b (without_live (rest n) (low n)) (rest n)) + suc n ≤ live_count slots right + (one_at own n + live_count n own))) [
          | true ↦ λ is.
              let below = (gets_parts n is).1 in
              let fewer = live_without slots (rest n) (low n) few below (low_live n is) in
              elim (rest_counts n (omega arith)) [
                | inl none ↦ inl (omega arith)
                | inr le ↦ inr (omega arith)
              ]
          | false ↦ λ no.
              elim (rest_counts n (omega arith)) [
                | inl none ↦ inl none
                | inr le ↦
                    elim (cases_eq (bit_at own n) 1) [
                      | inl live ↦ let one = one_live own n live in inr (omega arith)
                      | inr dead ↦
                          let clear : IsClear own n = clear_or_live own n dead in
                          let high : slots ≤ low n = elim (ltb (low n) slots) as (λ b. ltb (low n) slots ≡ b → slots ≤ low n) [
                            | true ↦ λ is. let yes : gets_at own right slots n ≡ true = and_from _ _ (eq-eqb (bit_at own n) 0 clear) is in absurd (let e : true ≡ false = sym yes ∙ no in cc)
                            | false ↦ λ is. ltb-false _ _ is
                          ] refl in
                          inl (none_live slots (rest n) (λ slot within live. let le' = lowest_low (rest n) slot (rest_fits fits n) live in omega arith))
                    ]
              ]
        ] refl

    -- where both have few names, none is left behind
    pub none_left : live_count slots own + live_count slots right ≤ slots / 2 → live_count slots (rest (slots / 2)) ≡ 0
    none_left small =
        let more = live_more (slots / 2) slots own (omega arith) in
        elim (rest_counts (slots / 2) (omega arith)) [
          | inl none ↦ none
          | inr le ↦ omega arith
        ]

  -- the bitmap with the names has the node's own slots and those that get one
  pub grown_own : (n : ℕ) → n ≤ 64 → (slot : ℕ) → IsLive own slot → IsLive (grown_at own right slots n) slot
  grown_own zero most slot live = live
  grown_own (suc n) most slot live =
      let before = grown_own n (omega arith) slot live in
      elim (gets_at own right slots n) as (λ b. IsLive (cond b (with_live (grown_at own right slots n) n) (grown_at own right slots n)) slot) [
        | true ↦ elim (cases_eq slot n) [
          | inl same ↦ subst (IsLive (with_live (grown_at own right slots n) n)) (sym same) (with_live-same (grown_at own right slots n) n (omega arith))
          | inr other ↦ with_live-other (grown_at own right slots n) n slot (omega arith) other ∙ before
        ]
        | false ↦ before
      ]

  pub grown_target : (n : ℕ) → n ≤ 64 → (slot : ℕ) → slot < n → does slot → IsLive (grown_at own right slots n) slot
  grown_target n most slot within is = gets_live (grown_at own right slots) (λ k. refl) n most slot within is

  pub grown_is : (n : ℕ) → n ≤ 64 → (slot : ℕ) → IsLive (grown_at own right slots n) slot → IsLive own slot ⊎ ((slot < n) × does slot)
  grown_is zero most slot live = inl live
  grown_is (suc n) most slot live =
      elim (gets_at own right slots n) as (λ b. gets_at own right slots n ≡ b → IsLive (cond b (with_live (grown_at own right slots n) n) (grown_at own right slots n)) slot → IsLive own slot ⊎ ((slot < suc n) × does slot)) [
        | true ↦ λ here is. elim (cases_eq slot n) [
          | inl same ↦ inr (omega arith, subst does (sym same) here)
          | inr other ↦ later n slot (grown_is n (omega arith) slot (sym (with_live-other (grown_at own right slots n) n slot (omega arith) other) ∙ is))
        ]
        | false ↦ λ here is. later n slot (grown_is n (omega arith) slot is)
      ] refl live
    where
      later : (n slot : ℕ) → IsLive own slot ⊎ ((slot < n) × does slot) → IsLive own slot ⊎ ((slot < suc n) × does slot)
      later n slot (inl was) = inl was
      later n slot (inr is) = inr ((let b = is.0 in omega arith), is.1)

  pub grown_below : slots ≤ 64 → own < 2 ^ slots → (n : ℕ) → n ≤ slots → grown_at own right slots n < 2 ^ slots
  grown_below few fits zero low_n = fits
  grown_below few fits (suc n) low_n = elim (gets_at own right slots n) as (λ b. cond b (with_live (grown_at own right slots n) n) (grown_at own right slots n) < 2 ^ slots) [
    | true ↦ with_live_below slots (grown_at own right slots n) n few (omega arith) (grown_below few fits n (omega arith))
    | false ↦ grown_below few fits n (omega arith)
  ]

  pub grown_fits : own < 2 ^ 64 → (n : ℕ) → n ≤ 64 → grown_at own right slots n < 2 ^ 64
  grown_fits fits zero most = fits
  grown_fits fits (suc n) most = elim (gets_at own right slots n) as (λ b. cond b (with_live (grown_at own right slots n) n) (grown_at own right slots n) < 2 ^ 64) [
    | true ↦ with_live_below 64 (grown_at own right slots n) n (omega arith) (omega arith) (grown_fits fits n (omega arith))
    | false ↦ grown_fits fits n (omega arith)
  ]
