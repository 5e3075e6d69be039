-- What an add and a remove answer, by the kind of the cell.
use Rattle.std.proofs.Common.{◌≡◌, ◌≢◌, ℕ, ◌+◌, ◌-◌, ◌<◌, inl, inr, true, false, Option, Some, None, length, refl, sym, subst, ap, ◌∙◌, arith}
use Rattle.std.specs.Prelude.{◌↔◌, IsNone, IfSome, MatchOption}
use Rattle.radix_nodes.specs.declared.cell.Cell.{Cell}
use Rattle.radix_nodes.specs.declared.cell.CellStore.{CellStore}
use Rattle.radix_nodes.specs.declared.changes.Added.{Added}
use Rattle.radix_nodes.specs.Cells.{IsReference, IsCell, words_of, children_of}
use Rattle.radix_nodes.specs.Entries.{IsEntryOf}
use Rattle.radix_nodes.specs.Changes.{Adds, IsFull, HasPlaces, IsTaken, HasTwoMore, SetsChild}
use Rattle.radix_nodes.specs.Places.{AddsEntry, AddsInPlace}
use Rattle.radix_nodes.specs.Stores.{IsEntryForm}
use Rattle.radix_nodes.proofs.Storing.{adds_entry, adds_index, adds_direct, takes_entry, takes_direct, kind_is_five}

not_both : true ≡ false → ⊥
not_both e = cc

-- the two clauses of an add
pub record IsAdd (cell : Cell) (byte reference : ℕ) (result : Option Added) : Type 0 where
  pub full : IsNone result ↔ IsFull cell.kind (words_of cell)
  pub added : IfSome result (Adds cell byte reference)

is_none : (cell : Cell) (byte reference : ℕ) → IsFull cell.kind (words_of cell) → IsAdd cell byte reference None
is_none cell byte reference full = record { full = ((λ e. full), (λ f. refl)); added = tt }

is_some : (cell : Cell) (byte reference : ℕ) (added : Added) → (IsFull cell.kind (words_of cell) → ⊥) → Adds cell byte reference added → IsAdd cell byte reference (Some added)
is_some cell byte reference added room adds = record { full = ((λ e. absurd (not_both e)), (λ full. absurd (room full))); added = adds }

-- forms 4 and 16
form_four : (kind : ℕ) → kind ≡ 2 → IsEntryForm kind 4 4
form_four kind is = record { is = inl (is, refl, refl) }

form_sixteen : (kind : ℕ) → kind ≡ 3 → IsEntryForm kind 8 16
form_sixteen kind is = record { is = inr (is, refl, refl) }

module _ (cell : Cell) (byte reference : ℕ) (whole : length cell.words ≡ 264) (small : byte < 256) (sound : IsReference reference) (none : children_of cell byte ≡ 0) (is : IsCell cell) where
  entry_added : (first count : ℕ) (added : Added) → IsEntryForm cell.kind first count → AddsEntry (words_of cell) first count byte reference added → Adds cell byte reference added
  entry_added first count added form adds = subst (Adds cell byte reference) (sym adds.is) (adds_entry cell first count adds.offset byte reference whole form adds.free small sound none is)

  -- a free entry is there, so the form isn't full
  entry_room : (first count : ℕ) (added : Added) → AddsEntry (words_of cell) first count byte reference added → HasPlaces (words_of cell) first count → ⊥
  entry_room first count added adds all =
      let low = adds.free.low in
      let high = adds.free.high in
      let there : first + (adds.offset - first) ≡ adds.offset = omega arith in
      all (adds.offset - first) (omega arith) (ap (words_of cell) there ∙ adds.free.free)

  pub four_adds : (result : Option Added) → cell.kind ≡ 2 → MatchOption result (HasPlaces (words_of cell) 4 4) (AddsEntry (words_of cell) 4 4 byte reference) → IsAdd cell byte reference result
  four_adds None kind all = is_none cell byte reference (record { four = λ k. all; sixteen = λ k. absurd (omega arith); forty_eight = λ k. absurd (omega arith); below_last = omega arith })
  four_adds (Some added) kind adds = is_some cell byte reference added (λ full. entry_room 4 4 added adds (full.four kind)) (entry_added 4 4 added (form_four cell.kind kind) adds)

  pub sixteen_adds : (result : Option Added) → cell.kind ≡ 3 → MatchOption result (HasPlaces (words_of cell) 8 16) (AddsEntry (words_of cell) 8 16 byte reference) → IsAdd cell byte reference result
  sixteen_adds None kind all = is_none cell byte reference (record { four = λ k. absurd (omega arith); sixteen = λ k. all; forty_eight = λ k. absurd (omega arith); below_last = omega arith })
  sixteen_adds (Some added) kind adds = is_some cell byte reference added (λ full. entry_room 8 16 added adds (full.sixteen kind)) (entry_added 8 16 added (form_sixteen cell.kind kind) adds)

  -- form 48
  pub forty_eight_adds : (result : Option Added) → cell.kind ≡ 4 → MatchOption result ((place : ℕ) → place < 48 → IsTaken (words_of cell) place) (AddsInPlace cell byte reference) → IsAdd cell byte reference result
  forty_eight_adds None kind all = is_none cell byte reference (record { four = λ k. absurd (omega arith); sixteen = λ k. absurd (omega arith); forty_eight = λ k. all; below_last = omega arith })
  forty_eight_adds (Some added) kind adds = is_some cell byte reference added
      (λ full. let taken = full.forty_eight kind adds.place adds.free.within in adds.free.free taken.byte taken.within taken.is)
      (subst (Adds cell byte reference) (sym adds.is) (adds_index cell adds.place byte reference whole kind adds.free small sound none is))

  -- form 256
  pub direct_adds : (added : Added) → cell.kind ≢ 2 → cell.kind ≢ 3 → cell.kind ≢ 4 → added ≡ record { first = None; switch = record { offset = 8 + byte; value = reference } } → IsAdd cell byte reference (Some added)
  direct_adds added two three four form =
      let kind = kind_is_five cell is two three four in
      is_some cell byte reference added (λ full. let small_kind = full.below_last in omega arith)
      (subst (Adds cell byte reference) (sym form) (adds_direct cell byte reference whole kind small sound none is))

-- A remove by a store.
pub clears_entry : (cell : Cell) (first count byte : ℕ) (store : CellStore) → length cell.words ≡ 264 → IsEntryForm cell.kind first count → IsEntryOf (words_of cell) first count byte store.offset → store.value ≡ 0 → IsCell cell → HasTwoMore (children_of cell) byte → SetsChild cell store byte 0
clears_entry cell first count byte store whole form entry zero is two =
    subst (λ v. SetsChild cell (record { offset = store.offset; value = v }) byte 0) (sym zero) (takes_entry cell first count store.offset byte whole form entry is two)

pub clears_four : (cell : Cell) (byte : ℕ) (store : CellStore) → length cell.words ≡ 264 → cell.kind ≡ 2 → IsEntryOf (words_of cell) 4 4 byte store.offset → store.value ≡ 0 → IsCell cell → HasTwoMore (children_of cell) byte → SetsChild cell store byte 0
clears_four cell byte store whole kind = clears_entry cell 4 4 byte store whole (form_four cell.kind kind)

pub clears_sixteen : (cell : Cell) (byte : ℕ) (store : CellStore) → length cell.words ≡ 264 → cell.kind ≡ 3 → IsEntryOf (words_of cell) 8 16 byte store.offset → store.value ≡ 0 → IsCell cell → HasTwoMore (children_of cell) byte → SetsChild cell store byte 0
clears_sixteen cell byte store whole kind = clears_entry cell 8 16 byte store whole (form_sixteen cell.kind kind)

pub clears_direct : (cell : Cell) (byte : ℕ) → length cell.words ≡ 264 → cell.kind ≢ 2 → cell.kind ≢ 3 → cell.kind ≢ 4 → byte < 256 → IsCell cell → HasTwoMore (children_of cell) byte → SetsChild cell (record { offset = 8 + byte; value = 0 }) byte 0
clears_direct cell byte whole two three four small is more = takes_direct cell byte whole (kind_is_five cell is two three four) small is more
