-- The marks of a row, and what actions make of them.
use Rattle.std.proofs.Common.{◌≡◌, ℕ, ◌+◌, ◌-◌, ◌*◌, ◌<◌, ◌&&◌, true, false, cond, ltb, leb, List, slice_index, slice_set, sym, subst, ap, ap₂, refl, ◌∙◌, arith, lt-ltb, le-leb}
use Rattle.std.proofs.lemmas.Bool.{and_parts, ltb-true, leb-true}
use Rattle.std.proofs.lemmas.List.{get_or-set_other}
use Rattle.pm_words.specs.declared.layout.Layout.{Layout}
use Rattle.pm_words.specs.declared.action.Action.TheVariants.{Load}
use Rattle.pm_words.specs.Locations.{Mark, HasLocation, leaf_count, cached_address, durable_address, address_of, at}
use Rattle.pm_words.specs.Rows.{acted, evicted, row_of}
use Rattle.pm_words.proofs.Apart.{address_fits, at-set_same, at-set_other}
use Rattle.pm_words.proofs.Made.{row_of-at_volatile}
use Rattle.tree_row.specs.RowMarks.{has_mark, row_marks, MarkIsSet, IsNoMark, StoreLeavesMarks, LoadLeavesMarks, EvictionLeavesMarks, ImageHasNoMarks}
use Rattle.tree_row.proofs.RowLaw.{load_same}

mark_is : (l : Layout) (kind number : ℕ) → HasLocation l (Mark kind number) → has_mark l kind number ≡ true
mark_is l kind number has = ap₂ (λ a b. a && b) (ap₂ (λ a b. a && b) (le-leb 1 kind has.0) (le-leb kind 5 has.1)) (lt-ltb number (leaf_count l) has.2)

mark_from : (l : Layout) (kind number : ℕ) → has_mark l kind number ≡ true → HasLocation l (Mark kind number)
mark_from l kind number e =
    let parts = and_parts (leb 1 kind && leb kind 5) (ltb number (leaf_count l)) e in
    let kinds = and_parts (leb 1 kind) (leb kind 5) parts.0 in
    (leb-true _ _ kinds.0, leb-true _ _ kinds.1, ltb-true _ _ parts.1)

-- a mark that the row has is the same, so it is in what is read
mark_same : (l : Layout) (words words' : List ℕ) (kind number : ℕ) → (HasLocation l (Mark kind number) → at l words' (Mark kind number) ≡ at l words (Mark kind number)) → row_marks l words' kind number ≡ row_marks l words kind number
mark_same l words words' kind number same = elim (has_mark l kind number) as (λ a. has_mark l kind number ≡ a → cond a (at l words' (Mark kind number)) 0 ≡ cond a (at l words (Mark kind number)) 0) [
  | true ↦ λ e. same (mark_from l kind number e)
  | false ↦ λ e. refl
] refl

marks_same : (l : Layout) (words words' : List ℕ) → ((kind number : ℕ) → HasLocation l (Mark kind number) → at l words' (Mark kind number) ≡ at l words (Mark kind number)) → row_marks l words' ≡ row_marks l words
marks_same l words words' same = λ x kind number. mark_same l words words' kind number (same kind number) x

pub mark_is_set : MarkIsSet
mark_is_set l words kind number mark whole has =
    let words' = slice_set words (address_of l (Mark kind number)) mark in
    record {
      here = ap (λ a. cond a (at l words' (Mark kind number)) 0) (mark_is l kind number has) ∙ at-set_same l words (Mark kind number) mark whole has;
      others = λ k i apart. mark_same l words words' k i (λ has_k. at-set_other l words (Mark kind number) (Mark k i) mark has has_k (λ e.
          let kinds : k ≡ kind = cc in
          let numbers : i ≡ number = cc in
          apart kinds numbers));
    }

pub store_leaves_marks : StoreLeavesMarks
store_leaves_marks l words q word has none = marks_same l words (slice_set words (address_of l q) word) (λ kind number has_mark. at-set_other l words q (Mark kind number) word has has_mark (λ e. subst IsNoMark (sym e) none))

pub load_leaves_marks : LoadLeavesMarks
load_leaves_marks l words address whole = marks_same l words (acted l words (Load address)) (λ kind number has. load_same l words address (Mark kind number) whole has)

pub eviction_leaves_marks : EvictionLeavesMarks
eviction_leaves_marks l words word = marks_same l words (evicted l words word) (λ kind number has.
    let fits : (kind - 1) * leaf_count l + number < leaf_count l * 5 = address_fits l (Mark kind number) has in
    get_or-set_other words (durable_address l word) (address_of l (Mark kind number)) (slice_index words (cached_address l word)) 0 (λ e. omega arith))

pub image_has_no_marks : ImageHasNoMarks
image_has_no_marks l image kind number = elim (has_mark l kind number) as (λ a. has_mark l kind number ≡ a → cond a (at l (row_of l image) (Mark kind number)) 0 ≡ 0) [
  | true ↦ λ e. row_of-at_volatile l image (Mark kind number) (mark_from l kind number e) (omega arith)
  | false ↦ λ e. refl
] refl
