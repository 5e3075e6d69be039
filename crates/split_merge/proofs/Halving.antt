-- The slots of a full node in order of their names, and the bits of the lower half of them.
use Rattle.std.proofs.Common.{◌≡◌, ℕ, zero, suc, ◌^◌, ◌<◌, ◌≤◌, Bool, true, false, List, [], ◌∷◌, length, slice_index, inl, inr, refl, sym, subst, ap, ◌∙◌, arith}
use Rattle.std.specs.Ordering.{nat_cmp, is_lt, ordering_then, MatchOrdering}
use Rattle.std.specs.declared.cmp.Ordering.{Ordering}
use Rattle.std.specs.declared.cmp.Ordering.TheVariants.{Less, Equal, Greater}
use Rattle.std.specs.Cmp.Lexicographic.{slice_cmp}
use Rattle.std.specs.List.{AllByRecursion}
use Rattle.std.proofs.lemmas.Bool.{cases_eq}
use Rattle.std.proofs.lemmas.Cmp.{ranked}
use Rattle.std.proofs.lemmas.List.FromFn.{get_or-map-range_with_len}
use Rattle.std.proofs.lemmas.Nat.Bits.{bit_at-zero}
use Rattle.pm_words.specs.Offsets.{slot_offset}
use Rattle.data_node.specs.Slots.{IsLive}
use Rattle.data_node.specs.Bits.{with_live}
use Rattle.data_node.specs.Spots.{name_words}
use Rattle.data_node.specs.Lists.{three_words}
use Rattle.data_node.specs.Orders.{words_in, comes_before}
use Rattle.data_node.proofs.BitLemmas.{with_live-same, with_live-other, with_live_below}
use Rattle.index_law.proofs.Copies.{slot_key}
use Rattle.split_merge.specs.Plans.{spot_of, entry_at, entries_of, in_order, order_of, bits_of}
use Rattle.split_merge.proofs.Sorting.{all_at, order_size, order_within, order_has, order_strict, strict_at, before_total, before_leads, before_one_way}

-- the words of a name in the entries are those in the node
pub words_of_entry : (full : List ℕ) (slot : ℕ) → slot < 64 → words_in (entries_of full) slot ≡ name_words (spot_of full) slot
unfolding entries_of
words_of_entry full slot within =
    ap (λ (entry : List ℕ). slice_index entry 0 ∷ slice_index entry 1 ∷ slice_index entry 2 ∷ []) (get_or-map-range_with_len (entry_at full) 0 64 slot slot [] within (omega arith))

-- what isn't after, word by word, has no greater number
at_most : (a b c d e g : ℕ) (o : Ordering) → b < 2 ^ 64 → c < 2 ^ 64 → e < 2 ^ 64 → g < 2 ^ 64
    → is_lt (ordering_then (slice_cmp nat_cmp (a ∷ b ∷ c ∷ []) (d ∷ e ∷ g ∷ [])) o) ≡ true → three_words a b c ≤ three_words d e g
at_most a b c d e g o fb fc fe fg = first (nat_cmp a d) (ranked a d (nat_cmp a d) refl)
  where
    third : (r : Ordering) → MatchOrdering r (c < g) (c ≡ g) (g < c) → a ≡ d → b ≡ e → is_lt (ordering_then (ordering_then r Equal) o) ≡ true → three_words a b c ≤ three_words d e g
    third Less low same same' up = omega arith
    third Equal is same same' up = omega arith
    third Greater high same same' up = absurd (let clash : false ≡ true = up in cc)

    second : (r : Ordering) → MatchOrdering r (b < e) (b ≡ e) (e < b) → a ≡ d → is_lt (ordering_then (ordering_then r (ordering_then (nat_cmp c g) Equal)) o) ≡ true
        → three_words a b c ≤ three_words d e g
    second Less low same up = omega arith
    second Equal is same up = third (nat_cmp c g) (ranked c g (nat_cmp c g) refl) same is up
    second Greater high same up = absurd (let clash : false ≡ true = up in cc)

    first : (r : Ordering) → MatchOrdering r (a < d) (a ≡ d) (d < a) → is_lt (ordering_then (ordering_then r (ordering_then (nat_cmp b e) (ordering_then (nat_cmp c g) Equal))) o) ≡ true
        → three_words a b c ≤ three_words d e g
    first Less low up = omega arith
    first Equal is up = second (nat_cmp b e) (ranked b e (nat_cmp b e) refl) is up
    first Greater high up = absurd (let clash : false ≡ true = up in cc)

-- words of one number are the same
pub one_number : (a b c d e g : ℕ) → b < 2 ^ 64 → c < 2 ^ 64 → e < 2 ^ 64 → g < 2 ^ 64 → three_words a b c ≡ three_words d e g → a ∷ b ∷ c ∷ [] ≡ d ∷ e ∷ g ∷ []
one_number a b c d e g fb fc fe fg same =
    let first : a ≡ d = omega arith in
    let second : b ≡ e = omega arith in
    let third : c ≡ g = omega arith in
    λ i. first i ∷ second i ∷ third i ∷ []

module _ (full : List ℕ) (slots : ℕ) (few : slots ≤ 64) where
  abbrev before : ℕ → ℕ → Bool
  before = comes_before (entries_of full)

  pub in_size : length (order_of full slots) ≡ slots
  unfolding order_of
  in_size = order_size before slots

  pub in_within : (i : ℕ) → i < slots → slice_index (order_of full slots) i < slots
  unfolding order_of
  in_within i below = let size = order_size before slots in all_at (λ slot. slot < slots) (in_order before slots) (order_within before slots) i (omega arith)

  pub in_has : (slot : ℕ) → slot < slots → (i : ℕ) × (i < slots) × (slice_index (order_of full slots) i ≡ slot)
  unfolding order_of
  in_has slot below = order_has before slots slot below

  in_strict : (i j : ℕ) → i < j → j < slots → before (slice_index (order_of full slots) i) (slice_index (order_of full slots) j) ≡ true
  unfolding order_of
  in_strict i j less below =
      let size = order_size before slots in
      strict_at before (in_order before slots) (order_strict before (before_total (entries_of full)) (before_leads (entries_of full)) slots) i j less (omega arith)

  pub in_apart : (i j : ℕ) → i < j → j < slots → slice_index (order_of full slots) i ≡ slice_index (order_of full slots) j → ⊥
  in_apart i j less below same =
      let x = slice_index (order_of full slots) i in
      let up : before x x ≡ true = subst (λ y. before x y ≡ true) (sym same) (in_strict i j less below) in
      let clash : true ≡ false = sym up ∙ before_one_way (entries_of full) x x up in
      cc

  -- their names rise
  pub in_rising : ((offset : ℕ) → slice_index full offset < 2 ^ 64) → (i j : ℕ) → i < j → j < slots
      → slot_key (spot_of full) (slice_index (order_of full slots) i) ≤ slot_key (spot_of full) (slice_index (order_of full slots) j)
  in_rising fits i j less below =
      let x = slice_index (order_of full slots) i in
      let y = slice_index (order_of full slots) j in
      let in_x = in_within i (omega arith) in
      let in_y = in_within j below in
      let wx = words_of_entry full x (omega arith) in
      let wy = words_of_entry full y (omega arith) in
      let up : is_lt (ordering_then (slice_cmp nat_cmp (name_words (spot_of full) x) (name_words (spot_of full) y)) (nat_cmp x y)) ≡ true =
      subst (λ (w : List ℕ). is_lt (ordering_then (slice_cmp nat_cmp w (name_words (spot_of full) y)) (nat_cmp x y)) ≡ true) wx
      (subst (λ (w : List ℕ). is_lt (ordering_then (slice_cmp nat_cmp (words_in (entries_of full) x) w) (nat_cmp x y)) ≡ true) wy (in_strict i j less below)) in
      at_most (spot_of full (slot_offset x 0)) (spot_of full (slot_offset x 1)) (spot_of full (slot_offset x 2)) (spot_of full (slot_offset y 0)) (spot_of full (slot_offset y 1)) (spot_of full (slot_offset y 2))
      (nat_cmp x y) (fits (slot_offset x 1)) (fits (slot_offset x 2)) (fits (slot_offset y 1)) (fits (slot_offset y 2)) up

-- the bits of slots
pub bits_has : (xs : List ℕ) → AllByRecursion (λ slot. slot < 64) xs → (i : ℕ) → i < length xs → IsLive (bits_of xs) (slice_index xs i)
bits_has [] all i within = absurd (omega arith)
bits_has (x ∷ xs) all zero within = with_live-same (bits_of xs) x all.0
bits_has (x ∷ xs) all (suc i) within =
    let rest = bits_has xs all.1 i (omega arith) in
    let slot = slice_index xs i in
    elim (cases_eq slot x) [
      | inl same ↦ subst (IsLive (with_live (bits_of xs) x)) (sym same) (with_live-same (bits_of xs) x all.0)
      | inr other ↦ with_live-other (bits_of xs) x slot all.0 other ∙ rest
    ]

pub bits_only : (xs : List ℕ) → AllByRecursion (λ slot. slot < 64) xs → (slot : ℕ) → IsLive (bits_of xs) slot → (i : ℕ) × (i < length xs) × (slice_index xs i ≡ slot)
bits_only [] all slot live = absurd (let none = bit_at-zero slot in omega arith)
bits_only (x ∷ xs) all slot live =
    elim (cases_eq slot x) [
      | inl same ↦ (0, omega arith, sym same)
      | inr other ↦
          let rest = bits_only xs all.1 slot (sym (with_live-other (bits_of xs) x slot all.0 other) ∙ live) in
          let within = rest.1 in
          (suc rest.0, omega arith, rest.2)
    ]

pub bits_below : (slots : ℕ) → slots ≤ 64 → (xs : List ℕ) → AllByRecursion (λ slot. slot < slots) xs → bits_of xs < 2 ^ slots
bits_below slots few [] all = positive slots
  where
    positive : (n : ℕ) → 0 < 2 ^ n
    positive zero = omega arith
    positive (suc n) = let rest = positive n in omega arith
bits_below slots few (x ∷ xs) all = with_live_below slots (bits_of xs) x few all.0 (bits_below slots few xs all.1)
