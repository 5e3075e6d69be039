-- A count of other children stays one, and reads less and less, whatever it is told.
use Rattle.std.proofs.Common.{◌≡◌, ℕ, ◌+◌, ◌-◌, ◌<◌, ◌==◌, true, false, cond, ltb, refl, arith}
use Rattle.std.proofs.lemmas.Bool.{eqb-true, eqb-false, ltb-true, ltb-false}
use Rattle.pm_words.specs.declared.machine.Turn.{Turn}
use Rattle.pm_words.specs.declared.machine.Turn.TheVariants.{Go, Done}
use Rattle.tree_law.specs.Words.{kind_of}
use Rattle.tree_change.specs.declared.others.Others.{Others}
use Rattle.tree_change.specs.declared.others.Others.TheVariants as others
use Rattle.tree_change.specs.declared.others.Counted.{Counted}
use Rattle.tree_change.specs.declared.others.Counted.TheVariants.{Two, One, Absent}
use Rattle.tree_change.specs.Others.{slot_count, slot_value, slots_end, slot_next, others_turned, OthersAfter, OthersEnd}
use Rattle.tree_change.specs.Counts.{count_goes, count_left, CountAfter, CountStays}

ends_after : (kind one left : ℕ) → 1 < left → OthersAfter kind left (slots_end kind one)
ends_after kind one left enough = elim (one == 0) as (λ a. (one == 0) ≡ a → OthersAfter kind left (cond a (Done Absent) (cond (kind == 4) (cond (ltb 48 one) (Done Absent) (Go (others.Reference one))) (Done (One one))))) [
  | true ↦ λ e. tt
  | false ↦ λ e. elim (kind == 4) as (λ a. (kind == 4) ≡ a → OthersAfter kind left (cond a (cond (ltb 48 one) (Done Absent) (Go (others.Reference one))) (Done (One one)))) [
    | false ↦ λ f. tt
    | true ↦ λ f. elim (ltb 48 one) as (λ a. ltb 48 one ≡ a → OthersAfter kind left (cond a (Done Absent) (Go (others.Reference one)))) [
      | true ↦ λ g. tt
      | false ↦ λ g. let some_one = eqb-false _ _ e in let most = ltb-false _ _ g in ((eqb-true _ _ f, omega (arith, some_one), omega arith), enough)
    ] refl
  ] refl
] refl

next_after : (kind slot one : ℕ) → slot < slot_count kind → OthersAfter kind (slot_count kind - slot + 1) (slot_next kind slot one)
next_after kind slot one is = elim (ltb (slot + 1) (slot_count kind)) as (λ a. ltb (slot + 1) (slot_count kind) ≡ a → OthersAfter kind (slot_count kind - slot + 1) (cond a (Go (others.Slot (slot + 1) one)) (slots_end kind one))) [
  | true ↦ λ e. let less = ltb-true _ _ e in (less, omega arith)
  | false ↦ λ e. ends_after kind one (slot_count kind - slot + 1) (omega arith)
] refl

pub others_end : OthersEnd
others_end kind byte (others.Slot slot one) got is =
    let value = slot_value kind byte slot got in
    elim (value == 0) as (λ a. OthersAfter kind (slot_count kind - slot + 1) (cond a (slot_next kind slot one) (cond (one == 0) (slot_next kind slot value) (Done Two)))) [
      | true ↦ next_after kind slot one is
      | false ↦ elim (one == 0) as (λ a. OthersAfter kind (slot_count kind - slot + 1) (cond a (slot_next kind slot value) (Done Two))) [
        | true ↦ next_after kind slot value is
        | false ↦ tt
      ]
    ]
others_end kind byte (others.Reference place) got is = tt

pub count_stays : CountStays
count_stays count got takes = go (others_turned (kind_of count.cell) count.byte count.others got) (others_end (kind_of count.cell) count.byte count.others got takes.0.here)
  where
    go : (turn : Turn Others Counted) → OthersAfter (kind_of count.cell) (count_left count) turn → CountAfter count (count_goes count turn)
    go (Go next) after = (record { layout = takes.0.layout; cell = takes.0.cell; byte = takes.0.byte; here = after.0 }, refl, refl, refl, after.1)
    go (Done counted) after = tt
