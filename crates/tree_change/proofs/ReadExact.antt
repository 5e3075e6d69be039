-- Reading a cell ends, and answers its words as they stand.
use Rattle.std.proofs.Common.{◌≡◌, ℕ, zero, suc, ◌+◌, ◌-◌, ◌<◌, ◌≤◌, true, false, cond, ltb, List, slice_set, replicate, refl, sym, subst, arith}
use Rattle.std.proofs.lemmas.Bool.{ltb-true, ltb-false}
use Rattle.std.specs.Prelude.{IsSomeAnd}
use Rattle.pm_words.specs.declared.layout.Layout.{Layout}
use Rattle.pm_words.specs.declared.machine.Turn.{Turn}
use Rattle.pm_words.specs.declared.machine.Turn.TheVariants.{Go, Done}
use Rattle.pm_words.specs.Locations.{kind_words}
use Rattle.radix_nodes.specs.declared.cell.Cell as cells
use Rattle.radix_nodes.proofs.Heads.{Copied, copied_start, copied_step}
use Rattle.tree_law.specs.Words.{LayerWords, kind_of, cell_in}
use Rattle.tree_floor.specs.Floors.{IsCellOf}
use Rattle.tree_change.specs.declared.read_cell.ReadCell.{ReadCell}
use Rattle.tree_floor.specs.Telling.{answer_in}
use Rattle.tree_change.specs.Reads.{read_starts, read_all, read_told, read_left, read_most, ReadAfter, ReadStays, IsReadOf, read_turn, ReadIsExact}
use Rattle.tree_floor.proofs.Telling.{GoesOn, answers_right}

pub read_stays : ReadStays
read_stays read got takes = elim (ltb (read.offset + 1) (read_all read)) as (λ a. ltb (read.offset + 1) (read_all read) ≡ a → ReadAfter read (cond a (Go (record read { cell = read_told read got; offset = read.offset + 1 })) (Done (read_told read got)))) [
  | true ↦ λ e. let less = ltb-true _ _ e in (record { layout = takes.0.layout; cell = takes.0.cell; here = less }, refl, refl, omega arith)
  | false ↦ λ e. tt
] refl

-- each kind has some words, and no more than the largest
pub kind_bounds : (kind : ℕ) → 2 ≤ kind → kind ≤ 5 → (0 < kind_words kind) × (kind_words kind ≤ 264)
kind_bounds zero low high = absurd (omega arith)
kind_bounds (suc zero) low high = absurd (omega arith)
kind_bounds (suc (suc zero)) low high = (omega arith, omega arith)
kind_bounds (suc (suc (suc zero))) low high = (omega arith, omega arith)
kind_bounds (suc (suc (suc (suc zero)))) low high = (omega arith, omega arith)
kind_bounds (suc (suc (suc (suc (suc zero))))) low high = (omega arith, omega arith)
kind_bounds (suc (suc (suc (suc (suc (suc kind)))))) low high = absurd (omega arith)

-- Told the words of the layer, it has those before its own, and zeros behind.
module _ (l : Layout) (x : ℕ) (w : LayerWords) (cell_is : IsCellOf l x) where
  abbrev all : ℕ
  all = kind_words (kind_of x)

  abbrev make : List ℕ → ℕ → ReadCell
  make words offset = record { layout = l; reference = x; cell = record { kind = kind_of x; words = words }; offset = offset }

  record Knows (words : List ℕ) (offset : ℕ) : Type 0 where
    pub here : offset ≤ all
    pub copied : Copied (cell_in w x) words offset

  record IsAt (read : ReadCell) : Type 0 where
    pub words : List ℕ
    pub offset : ℕ
    pub is : read ≡ make words offset
    pub within : offset < all
    pub knows : Knows words offset

  abbrev Goes : ℕ → Turn ReadCell cells.Cell → Type 0
  Goes bound turn = GoesOn (read_turn w) IsAt read_left (IsReadOf w x) bound turn

  begins : Knows (replicate 264 0) 0
  begins = record { here = omega arith; copied = copied_start (cell_in w x) (replicate 264 0) refl }

  reads_on : (words : List ℕ) (offset : ℕ) → offset < all → Knows words offset → Knows (slice_set words offset (cell_in w x offset)) (offset + 1)
  reads_on words offset within knows =
      let most : all ≤ 264 = (kind_bounds (kind_of x) cell_is.low cell_is.high).1 in
      record { here = omega arith; copied = copied_step (cell_in w x) words offset (omega arith) knows.copied }

  ends : (words : List ℕ) (offset : ℕ) → all ≤ offset → Knows words offset → IsReadOf w x (record { kind = kind_of x; words = words })
  ends words offset past knows =
      let here : offset ≤ all = knows.here in
      record { stands = (refl, λ o lt. sym (knows.copied.1 o (omega arith))); behind = λ o le. knows.copied.2 o (omega arith) }

  goes_at : (words : List ℕ) (offset : ℕ) → offset < all → Knows words offset → Goes (all - offset) (read_turn w (make words offset))
  goes_at words offset within knows =
      let next = slice_set words offset (cell_in w x offset) in
      let more = reads_on words offset within knows in
      elim (ltb (offset + 1) all) as (λ a. ltb (offset + 1) all ≡ a → Goes (all - offset) (cond a (Go (make next (offset + 1))) (Done (record { kind = kind_of x; words = next })))) [
        | true ↦ λ e. let less = ltb-true _ _ e in (record { words = next; offset = offset + 1; is = refl; within = less; knows = more }, omega arith)
        | false ↦ λ e. ends next (offset + 1) (ltb-false _ _ e) more
      ] refl

  goes : (read : ReadCell) → IsAt read → Goes (read_left read) (read_turn w read)
  goes read at = subst (λ r. Goes (read_left r) (read_turn w r)) (sym at.is) (goes_at at.words at.offset at.within at.knows)

  pub reads_exactly : (times : ℕ) → read_most < times → IsSomeAnd (answer_in times (read_turn w) (read_starts l x)) (IsReadOf w x)
  reads_exactly times enough =
      let bounds = kind_bounds (kind_of x) cell_is.low cell_is.high in
      let some : 0 < all = bounds.0 in
      let most : all ≤ 264 = bounds.1 in
      answers_right (read_turn w) IsAt read_left (IsReadOf w x) goes times (make (replicate 264 0) 0) (record { words = replicate 264 0; offset = 0; is = refl; within = some; knows = begins }) (omega arith)

pub read_is_exact : ReadIsExact
read_is_exact l x w times enough is = reads_exactly l x w is times enough
