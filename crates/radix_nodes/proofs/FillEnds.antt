-- A filling asks for one action fewer after each.
use Rattle.std.proofs.Common.{◌≡◌, ℕ, ◌+◌, ◌-◌, ◌*◌, ◌^◌, ◌<◌, true, false, cond, ltb, Option, Some, None, refl, sym, subst, arith}
use Rattle.std.proofs.lemmas.Bool.{ltb-true}
use Rattle.pm_words.specs.declared.action.Action.{Action}
use Rattle.pm_words.specs.declared.fence.Fence.{Fence}
use Rattle.pm_words.specs.Fences.{IsFence, fence_start, fence_next, FenceTurn}
use Rattle.pm_words.specs.Fences as turn
use Rattle.pm_words.specs.Turns.{GoesBelow}
use Rattle.pm_words.proofs.Fencing.{fence_turns}
use Rattle.radix_nodes.specs.declared.filling.Filling.{Filling}
use Rattle.radix_nodes.specs.declared.filling.Filling.TheVariants.{Store, Drain}
use Rattle.radix_nodes.specs.declared.fill_leaf.FillLeaf.{FillLeaf}
use Rattle.radix_nodes.specs.declared.fill_cell.FillCell.{FillCell}
use Rattle.radix_nodes.specs.Fills.{filling_next, next_line, IsFilling, filling_left, lines_of, fill_leaf_goes, fill_leaf_turned, fill_leaf_takes, fill_leaf_left, fill_cell_goes, fill_cell_turned, fill_cell_takes, fill_cell_left}

-- what is left of a filling is in range, and less
abbrev pub Fewer : ℕ → ℕ → Option Filling → Type 0
Fewer lines bound (Some next) = IsFilling lines next × (filling_left lines next < bound)
Fewer lines bound None = Unit {0}

store_fewer : (lines offset : ℕ) → offset < 8 * lines → Fewer lines (filling_left lines (Store offset)) (cond (ltb (offset + 1) (8 * lines)) (Some (Store (offset + 1))) (Some (Drain 0 fence_start)))
store_fewer lines offset lt = elim (ltb (offset + 1) (8 * lines)) as (λ b. ltb (offset + 1) (8 * lines) ≡ b → Fewer lines (filling_left lines (Store offset)) (cond b (Some (Store (offset + 1))) (Some (Drain 0 fence_start)))) [
  | true ↦ λ more. let less : offset + 1 < 8 * lines = ltb-true _ _ more in (less, omega arith)
  | false ↦ λ last. ((omega arith, record { word = omega arith; value = tt }), omega arith)
] refl

line_fewer : (lines line : ℕ) → line < lines → Fewer lines (16 * (lines - (line + 1)) + 1) (next_line lines line None)
line_fewer lines line lt = elim (ltb (line + 1) lines) as (λ b. ltb (line + 1) lines ≡ b → Fewer lines (16 * (lines - (line + 1)) + 1) (cond b (Some (Drain (line + 1) fence_start)) None)) [
  | true ↦ λ more. let less : line + 1 < lines = ltb-true _ _ more in ((less, record { word = omega arith; value = tt }), omega arith)
  | false ↦ λ last. tt
] refl

drain_fewer : (lines line : ℕ) (fence : Fence) (got : ℕ) → line < lines → IsFence fence → got < 2 ^ 64 → Fewer lines (filling_left lines (Drain line fence)) (next_line lines line (fence_next fence got))
drain_fewer lines line fence got lt is fits = falls fence _ _ (fence_turns 0 fence got is fits)
  where
    falls : (before : Fence) (action : Action) (after : Option Fence) → FenceTurn 0 got before action after → Fewer lines (filling_left lines (Drain line before)) (next_line lines line after)
    falls before action after (turn.loads {word} small value) = ((lt, record { word = small; value = value }), omega arith)
    falls before action after (turn.drains {word} more value) = ((lt, record { word = more; value = tt }), omega arith)
    falls before action after (turn.drains_last {word} last value) =
        let one : 15 - 2 * word ≡ 1 = omega arith in
        subst (λ n. Fewer lines (16 * (lines - (line + 1)) + n) (next_line lines line None)) (sym one) (line_fewer lines line lt)

pub filling_fewer : (lines : ℕ) (filling : Filling) (got : ℕ) → IsFilling lines filling → got < 2 ^ 64 → Fewer lines (filling_left lines filling) (filling_next lines filling got)
filling_fewer lines (Store offset) got is fits = store_fewer lines offset is
filling_fewer lines (Drain line fence) got is fits = drain_fewer lines line fence got is.0 is.1 fits

-- so do the machines
pub leaf_fewer : (m : FillLeaf) (got : ℕ) → fill_leaf_takes m got → GoesBelow {A = Unit {0}} fill_leaf_left (fill_leaf_left m) (fill_leaf_turned m got)
leaf_fewer m got takes = of (filling_next 1 m.at got) (filling_fewer 1 m.at got takes.0.here takes.1)
  where
    of : (next : Option Filling) → Fewer 1 (filling_left 1 m.at) next → GoesBelow {A = Unit {0}} fill_leaf_left (fill_leaf_left m) (fill_leaf_goes m next)
    of (Some at) fewer = fewer.1
    of None fewer = tt

pub cell_fewer : (m : FillCell) (got : ℕ) → fill_cell_takes m got → GoesBelow {A = Unit {0}} fill_cell_left (fill_cell_left m) (fill_cell_turned m got)
cell_fewer m got takes = of (filling_next (lines_of m.cell.kind) m.at got) (filling_fewer (lines_of m.cell.kind) m.at got takes.0.here takes.1)
  where
    of : (next : Option Filling) → Fewer (lines_of m.cell.kind) (filling_left (lines_of m.cell.kind) m.at) next → GoesBelow {A = Unit {0}} fill_cell_left (fill_cell_left m) (fill_cell_goes m next)
    of (Some at) fewer = fewer.1
    of None fewer = tt
