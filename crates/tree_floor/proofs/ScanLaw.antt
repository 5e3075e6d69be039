-- Scans.
use Rattle.std.proofs.Common.{◌≡◌, ℕ, ◌+◌, ◌-◌, ◌/◌, ◌%◌, ◌^◌, ◌<◌, ◌≤◌, ◌==◌, ◌&&◌, ◌||◌, not, true, false, cond, ltb, inl, inr, refl, sym, subst, arith}
use Rattle.std.proofs.lemmas.Bool.{cases_eq, eqb-false, ltb-true, ltb-false, and_parts}
use Rattle.tree_floor.specs.declared.scan.Scan.TheVariants as scan
use Rattle.tree_floor.specs.declared.scan.Scanned.TheVariants.{More, Found}
use Rattle.tree_floor.specs.Scans.{scan_starts, IsScan, scan_left, has_places, index_place, index_below, entry_count, child_entry, better_entry}
use Rattle.tree_floor.specs.ScanLaws.{ScanAfter, ScansEnd, ScansStart}

places_after : (kind byte left place below : ℕ) → kind ≡ 4 → 2 < left → ScanAfter kind byte left (has_places place below)
places_after kind byte left place below is enough =
    elim (ltb 48 place) as (λ a. ltb 48 place ≡ a → ScanAfter kind byte left (cond (a || ltb 48 below) (Found 1 1) (cond (not (place == 0)) (More (scan.Child place below)) (cond (not (below == 0)) (More (scan.Below 0 below)) (Found 0 0))))) [
      | true ↦ λ e. tt
      | false ↦ λ e. elim (ltb 48 below) as (λ a. ltb 48 below ≡ a → ScanAfter kind byte left (cond a (Found 1 1) (cond (not (place == 0)) (More (scan.Child place below)) (cond (not (below == 0)) (More (scan.Below 0 below)) (Found 0 0))))) [
        | true ↦ λ f. tt
        | false ↦ λ f. let p = ltb-false _ _ e in let b = ltb-false _ _ f in
            elim (place == 0) as (λ a. (place == 0) ≡ a → ScanAfter kind byte left (cond (not a) (More (scan.Child place below)) (cond (not (below == 0)) (More (scan.Below 0 below)) (Found 0 0)))) [
              | false ↦ λ g. let some_place = eqb-false _ _ g in ((is, omega (arith, some_place), omega arith, omega arith), enough)
              | true ↦ λ g. elim (below == 0) as (λ a. (below == 0) ≡ a → ScanAfter kind byte left (cond (not a) (More (scan.Below 0 below)) (Found 0 0))) [
                | false ↦ λ h. let some_below = eqb-false _ _ h in ((is, omega (arith, some_below), omega arith), omega arith)
                | true ↦ λ h. tt
              ] refl
            ] refl
      ] refl
    ] refl

pub scans_end : ScansEnd
scans_end kind byte (scan.Entry entry child below) got small is =
    elim (ltb (entry + 1) (entry_count kind)) as (λ a. ltb (entry + 1) (entry_count kind) ≡ a → ScanAfter kind byte (entry_count kind - entry) (cond a (More (scan.Entry (entry + 1) (child_entry byte child got) (better_entry byte below got))) (Found (child_entry byte child got) (better_entry byte below got % 2 ^ 32)))) [
      | true ↦ λ e. let less = ltb-true _ _ e in ((is.0, less), omega arith)
      | false ↦ λ e. tt
    ] refl
scans_end kind byte (scan.Index word place) got small is =
    elim (index_below byte word got == 0 && ltb 0 word) as (λ a. (index_below byte word got == 0 && ltb 0 word) ≡ a → ScanAfter kind byte (word + 3) (cond a (More (scan.Index (word - 1) (index_place byte word place got))) (has_places (index_place byte word place got) (index_below byte word got)))) [
      | true ↦ λ e. let parts = and_parts (index_below byte word got == 0) (ltb 0 word) e in let some_word = ltb-true _ _ parts.1 in let lt : word < 32 = is.1 in ((is.0, (let less : word - 1 < 32 = omega arith in less)), (let less : word - 1 + 3 < word + 3 = omega arith in less))
      | false ↦ λ e. places_after kind byte (word + 3) (index_place byte word place got) (index_below byte word got) is.0 (omega arith)
    ] refl
scans_end kind byte (scan.Child place below) got small is =
    elim (below == 0) as (λ a. (below == 0) ≡ a → ScanAfter kind byte 2 (cond a (Found got 0) (More (scan.Below got below)))) [
      | true ↦ λ e. tt
      | false ↦ λ e. let some_below = eqb-false _ _ e in ((is.0, omega (arith, some_below), is.3), (let less : 1 < 2 = omega arith in less))
    ] refl
scans_end kind byte (scan.Below child place) got small is = tt
scans_end kind byte scan.Direct got small is =
    elim (byte == 0) as (λ a. (byte == 0) ≡ a → ScanAfter kind byte 258 (cond a (Found got 0) (More (scan.Down byte got)))) [
      | true ↦ λ e. tt
      | false ↦ λ e. let some_byte = eqb-false _ _ e in ((is.0, omega (arith, some_byte), small), omega arith)
    ] refl
scans_end kind byte (scan.Down next child) got small is =
    elim (got == 0) as (λ a. ScanAfter kind byte next (cond (not a) (Found child got) (cond (next == 1) (Found child 0) (More (scan.Down (next - 1) child))))) [
      | false ↦ tt
      | true ↦ elim (next == 1) as (λ a. (next == 1) ≡ a → ScanAfter kind byte next (cond a (Found child 0) (More (scan.Down (next - 1) child)))) [
        | true ↦ λ e. tt
        | false ↦ λ e. let other = eqb-false _ _ e in let some_next : 1 ≤ next = is.1 in let most : next ≤ 256 = is.2 in
            ((is.0, (let low : 1 ≤ next - 1 = omega (arith, other) in low), (let high : next - 1 ≤ 256 = omega arith in high)), (let less : next - 1 < next = omega arith in less))
      ] refl
    ]

abbrev Starts : ℕ → ℕ → Type 0
Starts k byte = IsScan k byte (scan_starts k byte) × (scan_left k (scan_starts k byte) ≤ 258)

pub scans_start : ScansStart
scans_start kind byte least most small = elim (cases_eq kind 2) [
  | inl two ↦ subst (λ k. Starts k byte) (sym two) ((inl refl, (let lt : 0 < 4 = omega arith in lt)), (let le : 4 ≤ 258 = omega arith in le))
  | inr not_two ↦ elim (cases_eq kind 3) [
    | inl three ↦ subst (λ k. Starts k byte) (sym three) ((inr refl, (let lt : 0 < 16 = omega arith in lt)), (let le : 16 ≤ 258 = omega arith in le))
    | inr not_three ↦ elim (cases_eq kind 4) [
      | inl four ↦ subst (λ k. Starts k byte) (sym four) (elim (ltb byte 256) as (λ a. ltb byte 256 ≡ a → IsScan 4 byte (scan.Index (cond a (byte / 8) 31) 0) × (scan_left 4 (scan.Index (cond a (byte / 8) 31) 0) ≤ 258)) [
        | true ↦ λ e. let lt = ltb-true _ _ e in ((refl, (let less : byte / 8 < 32 = omega arith in less)), (let le : byte / 8 + 3 ≤ 258 = omega arith in le))
        | false ↦ λ e. ((refl, (let less : 31 < 32 = omega arith in less)), (let le : 31 + 3 ≤ 258 = omega arith in le))
      ] refl)
      | inr not_four ↦ subst (λ k. Starts k byte) (let five : 5 ≡ kind = omega (arith, not_two, not_three, not_four) in five) (elim (ltb byte 256) as (λ a. ltb byte 256 ≡ a → IsScan 5 byte (cond a scan.Direct (scan.Down 256 0)) × (scan_left 5 (cond a scan.Direct (scan.Down 256 0)) ≤ 258)) [
        | true ↦ λ e. ((refl, ltb-true _ _ e), (let le : 258 ≤ 258 = omega arith in le))
        | false ↦ λ e. ((refl, (let some : 1 ≤ 256 = omega arith in some), (let le : 256 ≤ 256 = omega arith in le)), (let le : 256 ≤ 258 = omega arith in le))
      ] refl)
    ]
  ]
]
