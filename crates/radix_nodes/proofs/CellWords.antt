-- A cell's words as a list and by their offsets.
use Rattle.std.proofs.Common.{◌≡◌, ◌≢◌, ℕ, ◌+◌, ◌<◌, ◌≤◌, ◌==◌, ◌⊎◌, cond, inl, inr, List, length, slice_index, slice_set, sym, ap, ◌∙◌, arith, le-ltb}
use Rattle.std.proofs.lemmas.Bool.{cases_eq, eq-eqb, ne_eqb}
use Rattle.std.proofs.lemmas.List.{get_or-set_same, get_or-set_other}
use mathlib.Core.Path.{fun_ext}
use Rattle.radix_nodes.specs.declared.cell.Cell.{Cell}
use Rattle.radix_nodes.specs.declared.cell.CellStore.{CellStore}
use Rattle.radix_nodes.specs.Cells.{CellWords, AreEntries, seek, index_of, indexed, direct, children, words_of}
use Rattle.radix_nodes.specs.Changes.{with_word, stored}
use Rattle.radix_nodes.specs.Stores.{IsMix, CrashShowsEither, ChildrenAreBytes}
use Rattle.radix_nodes.proofs.EntryForms.{other_set, seek_none}

-- a store into the list is one into the words
pub set_words : (words : List ℕ) (offset word : ℕ) → offset < length words → slice_index (slice_set words offset word) ≡ with_word (slice_index words) offset word
set_words words offset word lt = fun_ext (λ o. elim (cases_eq o offset) [
  | inl same ↦
      ap (slice_index (slice_set words offset word)) same ∙ get_or-set_same words offset word 0 lt
      ∙ sym (ap (λ b. cond b word (slice_index words o)) (eq-eqb o offset same))
  | inr apart ↦ get_or-set_other words offset o word 0 apart ∙ sym (other_set (slice_index words) offset word o apart)
])

pub stored_words : (cell : Cell) (store : CellStore) → store.offset < length cell.words → words_of (stored cell store) ≡ with_word (words_of cell) store.offset store.value
stored_words cell store lt = set_words cell.words store.offset store.value lt

-- of one store a mix is the one or the other
mix_is : (c c' mix : CellWords) (offset : ℕ) → ((o : ℕ) → o ≢ offset → c' o ≡ c o) → IsMix c c' mix → (mix ≡ c) ⊎ (mix ≡ c')
mix_is c c' mix offset others is = elim (is offset) [
  | inl old ↦ inl (fun_ext (λ o. elim (cases_eq o offset) [
    | inl same ↦ ap mix same ∙ old ∙ ap c (sym same)
    | inr apart ↦ elim (is o) [ inl here ↦ here | inr there ↦ there ∙ others o apart ]
  ]))
  | inr new ↦ inr (fun_ext (λ o. elim (cases_eq o offset) [
    | inl same ↦ ap mix same ∙ new ∙ ap c' (sym same)
    | inr apart ↦ elim (is o) [ inl here ↦ here ∙ sym (others o apart) | inr there ↦ there ]
  ]))
]

pub crash_shows_either : CrashShowsEither
crash_shows_either cell store mix lt is =
    mix_is (words_of cell) (words_of (stored cell store)) mix store.offset (λ o apart. get_or-set_other cell.words store.offset o store.value 0 apart) is

-- no byte past the last has a child
entries_end : (c : CellWords) (first count b : ℕ) → AreEntries c first count → 256 ≤ b → seek c first count b ≡ 0
entries_end c first count b are past = seek_none c first count b (λ i lt fits. let small = are.byte i lt fits.0 in let is = fits.1 in omega arith)

-- by cases of the kind
pub by_kind : (P : ℕ → Type 0) (kind : ℕ) → (kind ≡ 2 → P kind) → (kind ≡ 3 → P kind) → (kind ≡ 4 → P kind) → (kind ≢ 2 → kind ≢ 3 → kind ≢ 4 → P kind) → P kind
by_kind P kind two three four other = elim (cases_eq kind 2) [
  | inl is ↦ two is
  | inr not_two ↦ elim (cases_eq kind 3) [
    | inl is ↦ three is
    | inr not_three ↦ elim (cases_eq kind 4) [ inl is ↦ four is | inr not_four ↦ other not_two not_three not_four ]
  ]
]

pub children_two : (kind : ℕ) (c : CellWords) (b : ℕ) → kind ≡ 2 → children kind c b ≡ seek c 4 4 b
children_two kind c b is = ap (λ k. children k c b) is

pub children_three : (kind : ℕ) (c : CellWords) (b : ℕ) → kind ≡ 3 → children kind c b ≡ seek c 8 16 b
children_three kind c b is = ap (λ k. children k c b) is

pub children_four : (kind : ℕ) (c : CellWords) (b : ℕ) → kind ≡ 4 → children kind c b ≡ indexed c b
children_four kind c b is = ap (λ k. children k c b) is

pub children_other : (kind : ℕ) (c : CellWords) (b : ℕ) → kind ≢ 2 → kind ≢ 3 → kind ≢ 4 → children kind c b ≡ direct c b
children_other kind c b two three four =
    ap (λ t. cond t (seek c 4 4 b) (cond (kind == 3) (seek c 8 16 b) (cond (kind == 4) (indexed c b) (direct c b)))) (ne_eqb kind 2 two)
    ∙ ap (λ t. cond t (seek c 8 16 b) (cond (kind == 4) (indexed c b) (direct c b))) (ne_eqb kind 3 three)
    ∙ ap (λ t. cond t (indexed c b) (direct c b)) (ne_eqb kind 4 four)

pub children_are_bytes : ChildrenAreBytes
children_are_bytes kind c b form past = by_kind (λ k. children k c b ≡ 0) kind
    (λ is. children_two kind c b is ∙ entries_end c 4 4 b (form.four is) past)
    (λ is. children_three kind c b is ∙ entries_end c 8 16 b (form.sixteen is) past)
    (λ is. children_four kind c b is ∙ ap (λ t. cond t (cond (index_of c b == 0) 0 (c (39 + index_of c b))) 0) (le-ltb b 256 past))
    (λ two three four. children_other kind c b two three four ∙ ap (λ t. cond t (c (8 + b)) 0) (le-ltb b 256 past))
