-- The words of new cells have 64 bits.
use Rattle.std.proofs.Common.{◌≡◌, ℕ, zero, suc, ◌+◌, ◌-◌, ◌*◌, ◌/◌, ◌%◌, ◌^◌, ◌<◌, ◌≤◌, ◌==◌, ◌&&◌, not, true, false, cond, ltb, leb, inl, inr, List, [], ◌∷◌, length, slice_index, slice_set, replicate, refl, sym, subst, ap, ◌∙◌, arith}
use Rattle.std.proofs.lemmas.Bool.{cases_eq, cases_lt}
use Rattle.std.proofs.lemmas.List.{get_or-set_same, get_or-set_other}
use Rattle.pm_words.specs.Offsets.{prefix_offset}
use Rattle.radix_nodes.specs.declared.cell.Branch.{Branch}
use Rattle.radix_nodes.specs.declared.cell.Cell.{Cell}
use Rattle.radix_nodes.specs.Bytes.{byte_set}
use Rattle.radix_nodes.specs.Keys.{KeyWords}
use Rattle.radix_nodes.specs.Cells.{CellWords, entry_byte, entry_reference, entry_of, seek, index_of, indexed, direct, children, words_of, children_of}
use Rattle.radix_nodes.specs.Changes.{stored}
use Rattle.radix_nodes.specs.Places.{place_store_of, placed, taken_in}
use Rattle.radix_nodes.specs.Making.{Fits, copied, in_16, in_48, in_256, whole_in_256, grown_of, larger_of, headed_words, pair_of, LargerFits, PairFits, PrefixFits, MadeKinds}
use Rattle.radix_nodes.proofs.Powers.{powers, set_fits}
use Rattle.radix_nodes.proofs.Heads.{zeros}
use Rattle.radix_nodes.proofs.GrownCells.{larger_kind}

none_fits : 0 < 2 ^ 64
none_fits = omega arith

-- a word more
pub set_list : (words : List ℕ) (at word : ℕ) → Fits (slice_index words) → word < 2 ^ 64 → Fits (slice_index (slice_set words at word))
set_list words at word fits small o = elim (cases_eq o at) [
  | inl same ↦ elim (cases_lt at (length words)) [
    | inl lt ↦ subst (λ v. v < 2 ^ 64) (sym (ap (slice_index (slice_set words at word)) same ∙ get_or-set_same words at word 0 lt)) small
    | inr past ↦ subst (λ v. v < 2 ^ 64) (sym (past_end words at word o past)) (fits o)
  ]
  | inr apart ↦ subst (λ v. v < 2 ^ 64) (sym (get_or-set_other words at o word 0 apart)) (fits o)
]
  where
    past_end : (words : List ℕ) (at word o : ℕ) → length words ≤ at → slice_index (slice_set words at word) o ≡ slice_index words o
    past_end [] at word o past = refl
    past_end (w ∷ words) zero word o past = absurd (omega arith)
    past_end (w ∷ words) (suc at) word zero past = refl
    past_end (w ∷ words) (suc at) word (suc o) past = past_end words at word o (let le : suc (length words) ≤ suc at = past in omega arith)

pub zeros_fit : (n : ℕ) → Fits (slice_index (replicate n 0))
zeros_fit n o = subst (λ v. v < 2 ^ 64) (sym (zeros n o)) none_fits

copied_fits : (c : CellWords) (at : ℕ) → Fits c → Fits (slice_index (copied c at))
copied_fits c zero fits = zeros_fit 264
copied_fits c (suc at) fits = set_list (copied c at) at (c at) (copied_fits c at fits) (fits at)

in_16_fits : (cell : Cell) (entry : ℕ) → Fits (words_of cell) → Fits (words_of (in_16 cell entry))
in_16_fits cell zero fits = copied_fits (words_of cell) 4 fits
in_16_fits cell (suc entry) fits = set_list (in_16 cell entry).words (8 + entry) (words_of cell (4 + entry)) (in_16_fits cell entry fits) (fits (4 + entry))

pub byte_set_fits : (word at byte : ℕ) → at < 8 → word < 2 ^ 64 → byte < 256 → byte_set word at byte < 2 ^ 64
byte_set_fits word at byte small fits byte_fits = subst (λ p. word - (word / p % 256) * p + byte * p < 2 ^ 64) (powers at) (set_fits word at byte small fits byte_fits).all

placed_fits : (cell : Cell) (place byte reference : ℕ) → place < 48 → reference < 2 ^ 64 → Fits (words_of cell) → Fits (words_of (placed cell place byte reference))
placed_fits cell place byte reference lt small fits =
    let once = stored cell (place_store_of place reference) in
    let first = set_list cell.words (40 + place) reference fits small in
    set_list once.words (8 + byte / 8) (byte_set (words_of once (8 + byte / 8)) (byte % 8) (place + 1)) first (byte_set_fits (words_of once (8 + byte / 8)) (byte % 8) (place + 1) (omega arith) (first (8 + byte / 8)) (omega arith))

taken_fits : (cell : Cell) (place entry : ℕ) → place < 48 → Fits (words_of cell) → Fits (words_of (taken_in cell place entry))
taken_fits cell place entry lt fits = elim (entry == 0) as (λ a. Fits (words_of (cond a cell (placed cell place (entry / 2 ^ 32 % 256) (entry % 2 ^ 32))))) [
  | true ↦ fits
  | false ↦ placed_fits cell place (entry / 2 ^ 32 % 256) (entry % 2 ^ 32) lt (omega arith) fits
]

in_48_fits : (cell : Cell) (entry : ℕ) → entry ≤ 16 → Fits (words_of cell) → Fits (words_of (in_48 cell entry))
in_48_fits cell zero le fits = copied_fits (words_of cell) 4 fits
in_48_fits cell (suc entry) le fits = taken_fits (in_48 cell entry) entry (words_of cell (8 + entry)) (omega arith) (in_48_fits cell entry (omega arith) fits)

seek_fits : (c : CellWords) (first count byte : ℕ) → seek c first count byte < 2 ^ 64
seek_fits c first zero byte = none_fits
seek_fits c first (suc count) byte =
    let word = c (first + count) in
    elim (not (word == 0) && entry_byte word == byte) as (λ a. cond a (entry_reference word) (seek c first count byte) < 2 ^ 64) [
      | true ↦ (let less : word % 2 ^ 32 < 2 ^ 64 = omega arith in less)
      | false ↦ seek_fits c first count byte
    ]

indexed_fits : (c : CellWords) (byte : ℕ) → Fits c → indexed c byte < 2 ^ 64
indexed_fits c byte fits = elim (ltb byte 256) as (λ a. cond a (cond (index_of c byte == 0) 0 (c (39 + index_of c byte))) 0 < 2 ^ 64) [
  | true ↦ elim (index_of c byte == 0) as (λ a. cond a 0 (c (39 + index_of c byte)) < 2 ^ 64) [ true ↦ none_fits | false ↦ fits (39 + index_of c byte) ]
  | false ↦ none_fits
]

direct_fits : (c : CellWords) (byte : ℕ) → Fits c → direct c byte < 2 ^ 64
direct_fits c byte fits = elim (ltb byte 256) as (λ a. cond a (c (8 + byte)) 0 < 2 ^ 64) [ true ↦ fits (8 + byte) | false ↦ none_fits ]

child_fits : (kind : ℕ) (c : CellWords) (byte : ℕ) → Fits c → children kind c byte < 2 ^ 64
child_fits kind c byte fits = elim (kind == 2) as (λ a. cond a (seek c 4 4 byte) (cond (kind == 3) (seek c 8 16 byte) (cond (kind == 4) (indexed c byte) (direct c byte))) < 2 ^ 64) [
  | true ↦ seek_fits c 4 4 byte
  | false ↦ elim (kind == 3) as (λ a. cond a (seek c 8 16 byte) (cond (kind == 4) (indexed c byte) (direct c byte)) < 2 ^ 64) [
    | true ↦ seek_fits c 8 16 byte
    | false ↦ elim (kind == 4) as (λ a. cond a (indexed c byte) (direct c byte) < 2 ^ 64) [ true ↦ indexed_fits c byte fits | false ↦ direct_fits c byte fits ]
  ]
]

in_256_fits : (cell : Cell) (byte : ℕ) → Fits (words_of cell) → Fits (words_of (in_256 cell byte))
in_256_fits cell zero fits = copied_fits (words_of cell) 4 fits
in_256_fits cell (suc byte) fits = set_list (in_256 cell byte).words (8 + byte) (children_of cell byte) (in_256_fits cell byte fits) (child_fits cell.kind (words_of cell) byte fits)

whole_fits : (cell : Cell) → Fits (words_of cell) → Fits (words_of (whole_in_256 cell))
unfolding whole_in_256
whole_fits cell fits = in_256_fits cell 256 fits

grown_fits : (cell : Cell) → Fits (words_of cell) → Fits (words_of (grown_of cell))
unfolding grown_of
grown_fits cell fits = elim (cell.kind == 2) as (λ a. Fits (words_of (cond a (in_16 cell 4) (cond (cell.kind == 3) (in_48 cell 16) (whole_in_256 cell))))) [
  | true ↦ in_16_fits cell 4 fits
  | false ↦ elim (cell.kind == 3) as (λ a. Fits (words_of (cond a (in_48 cell 16) (whole_in_256 cell)))) [ true ↦ in_48_fits cell 16 (omega arith) fits | false ↦ whole_fits cell fits ]
]

pub larger_fits : LargerFits
unfolding larger_of
larger_fits cell byte reference small least fits =
    let g = grown_of cell in
    let all = grown_fits cell fits in
    let entry : entry_of byte reference < 2 ^ 64 = omega arith in
    elim (cell.kind == 2) as (λ a. Fits (words_of (cond a (stored g (record { offset = 12; value = entry_of byte reference })) (cond (cell.kind == 3) (taken_in g 16 (entry_of byte reference)) (stored g (record { offset = 8 + byte; value = reference })))))) [
      | true ↦ set_list g.words 12 (entry_of byte reference) all entry
      | false ↦ elim (cell.kind == 3) as (λ a. Fits (words_of (cond a (taken_in g 16 (entry_of byte reference)) (stored g (record { offset = 8 + byte; value = reference }))))) [
        | true ↦ taken_fits g 16 (entry_of byte reference) (omega arith) all
        | false ↦ set_list g.words (8 + byte) reference all (omega arith)
      ]
    ]

headed_fits : (depth : ℕ) (prefix : KeyWords) (at : ℕ) → depth < 2 ^ 64 → Fits prefix → Fits (slice_index (headed_words depth prefix at))
headed_fits depth prefix zero small fits = set_list (replicate 264 0) 0 depth (zeros_fit 264) small
headed_fits depth prefix (suc at) small fits = set_list (headed_words depth prefix at) (prefix_offset + at) (prefix at) (headed_fits depth prefix at small fits) (fits at)

pub pair_fits : PairFits
unfolding pair_of
pair_fits depth prefix one two small fits is is' =
    let words = headed_words depth prefix 3 in
    set_list (slice_set words 4 (entry_of one.byte one.reference)) 5 (entry_of two.byte two.reference) (set_list words 4 (entry_of one.byte one.reference) (headed_fits depth prefix 3 small fits) is) is'

-- so do the first bytes of a word
pub prefix_fits : PrefixFits
prefix_fits depth key fits at =
    let word = key at in
    let bytes = depth - 8 * at in
    let whole = fits at in
    elim (bytes == 0) as (λ a. cond a 0 (cond (leb 8 bytes) word (word - word % 2 ^ (64 - 8 * bytes))) < 2 ^ 64) [
      | true ↦ none_fits
      | false ↦ elim (leb 8 bytes) as (λ a. cond a word (word - word % 2 ^ (64 - 8 * bytes)) < 2 ^ 64) [
        | true ↦ whole
        | false ↦ (let rest = word % 2 ^ (64 - 8 * bytes) in let less : word - rest < 2 ^ 64 = omega arith in less)
      ]
    ]

pub pair_kind : (depth : ℕ) (prefix : KeyWords) (one two : Branch) → (pair_of depth prefix one two).kind ≡ 2
unfolding pair_of
pair_kind depth prefix one two = refl

pub made_kinds : MadeKinds
made_kinds = (larger_kind, pair_kind)
