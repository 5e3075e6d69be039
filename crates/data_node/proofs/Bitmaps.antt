-- What the bits of a bitmap say of its slots.
use Rattle.std.proofs.Common.{◌≡◌, ℕ, ◌+◌, ◌-◌, ◌*◌, ◌%◌, ◌<◌, ◌≤◌, ◌^◌, ◌↔◌, ◌⊎◌, List, bit_and, bit_or, inl, inr, refl, sym, subst, ◌∙◌, arith}
use Rattle.std.specs.Int.{w64, bit_at, trailing_ones}
use lib.Count.{count_trailing_zeros}
use Rattle.std.proofs.lemmas.Bool.{cases_lt, cases_eq}
use Rattle.std.proofs.lemmas.Nat.{and_le_l}
use Rattle.std.proofs.lemmas.Nat.Bits.{bit_at-trailing_ones, bit_at_ones, bit_at-zero, bit_at_set_same, bit_at_set_other, bit_at_clear_same, bit_at_clear_other, bit_at_above}
use Rattle.data_node.specs.Slots.{IsLive, IsClear, AreAllLive, IsLowestClear, IsCandidate, print_of}

-- what the count of trailing ones says: the slots below it are live, and it is itself clear if it is a slot
record IsFirstClear (bitmap position : ℕ) : Type 0 where
  pub clear : position < 64 → IsClear bitmap position
  pub below : AreAllLive bitmap position

-- a full bitmap ends in 64 ones
ones_of_full : trailing_ones w64 (2 ^ 64 - 1) ≡ 64
unfolding count_trailing_zeros
ones_of_full = refl

all_set : (bitmap : ℕ) → bitmap ≡ 2 ^ 64 - 1 → IsFirstClear bitmap (trailing_ones w64 bitmap)
all_set bitmap e =
    subst (λ n. IsFirstClear n (trailing_ones w64 n)) (sym e) (subst (IsFirstClear (2 ^ 64 - 1)) (sym ones_of_full) (record { clear = λ h. absurd (omega arith); below = bit_at_ones 64 }))

first_clear : (bitmap : ℕ) → bitmap < 2 ^ 64 → IsFirstClear bitmap (trailing_ones w64 bitmap)
first_clear bitmap fits =
    elim (cases_lt (bitmap + 1) (2 ^ 64)) [
      | inl below ↦ let found = bit_at-trailing_ones w64 bitmap below in record { clear = λ _. found.1; below = λ slot h. found.2 slot h }
      | inr full ↦ all_set bitmap (omega arith)
    ]

pub lowest_clear : (bitmap slots slot : ℕ) → bitmap < 2 ^ 64 → slot ≡ trailing_ones w64 bitmap → slot < slots → slots ≤ 64 → IsLowestClear bitmap slots slot
lowest_clear bitmap slots slot fits is within limit =
    let found = subst (λ n. IsFirstClear bitmap n) (sym is) (first_clear bitmap fits) in
    record { within = within; clear = found.clear (omega arith); below = found.below }

pub all_live : (bitmap slots slot : ℕ) → bitmap < 2 ^ 64 → slot ≡ trailing_ones w64 bitmap → slots ≤ slot → AreAllLive bitmap slots
all_live bitmap slots position fits is within slot h =
    let found = subst (λ n. IsFirstClear bitmap n) (sym is) (first_clear bitmap fits) in found.below slot (omega arith)

-- a clear slot is not live
pub not_all_live : (bitmap slots slot : ℕ) → IsLowestClear bitmap slots slot → AreAllLive bitmap slots → ⊥
not_all_live bitmap slots slot lowest live = let one : bit_at bitmap slot ≡ 1 = live slot lowest.within in let zero : bit_at bitmap slot ≡ 0 = lowest.clear in omega arith

-- the bits of a word are the candidates among the first so many slots
abbrev pub Marks : ℕ → List ℕ → ℕ → ℕ → ℕ → Type 0
Marks bitmap prints print count found = (slot : ℕ) → (bit_at found slot ≡ 1) ↔ IsCandidate bitmap prints print count slot

pub marks_none : (bitmap : ℕ) (prints : List ℕ) (print : ℕ) → Marks bitmap prints print 0 0
marks_none bitmap prints print slot =
    (λ set. let clear : bit_at 0 slot ≡ 0 = bit_at-zero slot in absurd (omega arith), λ candidate. absurd (let h : slot < 0 = candidate.within in omega arith))

-- the next slot is a candidate, and its bit is set
pub marks_next : (bitmap : ℕ) (prints : List ℕ) (print found next : ℕ) → next < 64 → Marks bitmap prints print next found → IsLive bitmap next → print_of prints next ≡ print → Marks bitmap prints print (next + 1) (bit_or found (1 * 2 ^ next % 2 ^ 64))
marks_next bitmap prints print found next within marks live same slot =
    elim (cases_eq slot next) [
      | inl e ↦ (
        λ _. record { within = omega arith; live = subst (λ s. IsLive bitmap s) (sym e) live; same = subst (λ s. print_of prints s ≡ print) (sym e) same },
        λ _. subst (λ s. bit_at (bit_or found (1 * 2 ^ next % 2 ^ 64)) s ≡ 1) (sym e) (bit_at_set_same w64 found next within),
      )
      | inr other ↦ (
        λ set. let was : IsCandidate bitmap prints print next slot = (marks slot).0 (sym (bit_at_set_other w64 found next within slot other) ∙ set) in let h : slot < next = was.within in record { within = omega arith; live = was.live; same = was.same },
        λ candidate. bit_at_set_other w64 found next within slot other ∙ (marks slot).1 (let h : slot < next + 1 = candidate.within in record { within = omega arith; live = candidate.live; same = candidate.same }),
      )
    ]

-- the next slot is none
pub marks_past : (bitmap : ℕ) (prints : List ℕ) (print found next : ℕ) → Marks bitmap prints print next found → (IsLive bitmap next → print_of prints next ≡ print → ⊥) → Marks bitmap prints print (next + 1) found
marks_past bitmap prints print found next marks none slot = (
  λ set. let was : IsCandidate bitmap prints print next slot = (marks slot).0 set in let h : slot < next = was.within in record { within = omega arith; live = was.live; same = was.same },
  λ candidate. elim (cases_eq slot next) [
    | inl e ↦ absurd (none (subst (λ s. IsLive bitmap s) e candidate.live) (subst (λ s. print_of prints s ≡ print) e candidate.same))
    | inr other ↦ (marks slot).1 (let h : slot < next + 1 = candidate.within in record { within = omega arith; live = candidate.live; same = candidate.same })
  ],
)

-- none of the slots up to a later one has the fingerprint
pub marks_skip : (bitmap : ℕ) (prints : List ℕ) (print found start end : ℕ) → start ≤ end → Marks bitmap prints print start found → ((slot : ℕ) → start ≤ slot → slot < end → print_of prints slot ≡ print → ⊥) → Marks bitmap prints print end found
marks_skip bitmap prints print found start end order marks none slot = (
  λ set. let was : IsCandidate bitmap prints print start slot = (marks slot).0 set in let h : slot < start = was.within in record { within = omega arith; live = was.live; same = was.same },
  λ candidate. elim (cases_lt slot start) [
    | inl before ↦ (marks slot).1 (record { within = before; live = candidate.live; same = candidate.same })
    | inr behind ↦ absurd (none slot behind candidate.within candidate.same)
  ],
)

-- to set a bit
pub live-set : (bitmap slot : ℕ) → slot < 64 → (other : ℕ) → IsLive (bit_or bitmap (1 * 2 ^ slot % 2 ^ 64)) other ↔ ((other ≡ slot) ⊎ IsLive bitmap other)
live-set bitmap slot within other =
    elim (cases_eq other slot) [
      | inl same ↦ (λ _. inl same, λ _. subst (IsLive (bit_or bitmap (1 * 2 ^ slot % 2 ^ 64))) (sym same) (bit_at_set_same w64 bitmap slot within))
      | inr apart ↦
          let kept : bit_at (bit_or bitmap (1 * 2 ^ slot % 2 ^ 64)) other ≡ bit_at bitmap other = bit_at_set_other w64 bitmap slot within other apart in
          (λ live. inr (sym kept ∙ live), λ either. elim either [ inl same ↦ absurd (apart same) | inr live ↦ kept ∙ live ])
    ]

-- to clear a bit
pub live-clear : (bitmap slot : ℕ) → bitmap < 2 ^ 64 → slot < 64 → (other : ℕ) → IsLive (bit_and bitmap (2 ^ 64 - 1 - 1 * 2 ^ slot % 2 ^ 64)) other ↔ (IsLive bitmap other × (other ≡ slot → ⊥))
live-clear bitmap slot fits within other =
    let cleared = bit_and bitmap (2 ^ 64 - 1 - 1 * 2 ^ slot % 2 ^ 64) in
    elim (cases_eq other slot) [
      | inl same ↦
          let zero : bit_at cleared other ≡ 0 = subst (λ s. bit_at cleared s ≡ 0) (sym same) (bit_at_clear_same w64 bitmap slot within) in
          (λ live. absurd (let one : bit_at cleared other ≡ 1 = live in omega arith), λ both. absurd (both.1 same))
      | inr apart ↦
          elim (cases_lt other 64) [
            | inl below ↦
                let kept : bit_at cleared other ≡ bit_at bitmap other = bit_at_clear_other w64 bitmap slot within other below apart in
                (λ live. (sym kept ∙ live, apart), λ both. kept ∙ both.0)
            | inr above ↦
                let zero : bit_at bitmap other ≡ 0 = bit_at_above bitmap 64 other fits above in
                let none : bit_at cleared other ≡ 0 = bit_at_above cleared 64 other (let le : cleared ≤ bitmap = and_le_l bitmap _ in omega arith) above in
                (λ live. absurd (let one : bit_at cleared other ≡ 1 = live in omega arith), λ both. absurd (let one : bit_at bitmap other ≡ 1 = both.0 in omega arith))
          ]
    ]
