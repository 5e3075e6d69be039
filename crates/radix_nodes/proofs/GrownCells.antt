-- Cells of the next form, by their words.
use Rattle.std.proofs.Common.{◌≡◌, ◌≢◌, ℕ, zero, suc, ◌+◌, ◌/◌, ◌%◌, ◌^◌, ◌<◌, ◌≤◌, ◌==◌, true, false, cond, inl, inr, length, length-set, replicate, refl, sym, subst, ap, ◌∙◌, arith}
use Rattle.std.proofs.lemmas.Bool.{cases_eq, eq-eqb, ne_eqb}
use Rattle.radix_nodes.specs.declared.cell.Cell.{Cell}
use Rattle.radix_nodes.specs.declared.cell.CellStore.{CellStore}
use Rattle.radix_nodes.specs.Bytes.{byte_set}
use Rattle.radix_nodes.specs.Cells.{CellWords, entry_of, index_of, IsReference, IsCell, words_of, children_of}
use Rattle.radix_nodes.specs.Changes.{stored, SetsChild, IsGrown}
use Rattle.radix_nodes.specs.Places.{place_store_of, index_store_of, placed, taken_in}
use Rattle.radix_nodes.specs.Making.{copied, bare_of, in_16, in_48, in_256, whole_in_256, grown_of, larger_of, IsLarger, GrownIsGrown, LargerIsLarger}
use Rattle.radix_nodes.proofs.EntryForms.{other_set}
use Rattle.radix_nodes.proofs.Heads.{Copied, copied_start, copied_step}
use Rattle.radix_nodes.proofs.CellWords.{stored_words}
use Rattle.radix_nodes.proofs.Storing.{adds_entry, adds_index, adds_direct}
use Rattle.radix_nodes.proofs.Growing.{SixteenSo, sixteen_start, sixteen_turn, sixteen_end, FortyEightSo, forty_eight_start, forty_eight_turn, forty_eight_end, taken_keeps, DirectSo, direct_start, direct_turn, direct_end}

copied_so : (c : CellWords) (at : ℕ) → at ≤ 264 → Copied c (copied c at) at
copied_so c zero le = copied_start c (replicate 264 0) refl
copied_so c (suc at) le = subst (Copied c (copied c (suc at))) (let next : at + 1 ≡ suc at = omega arith in next) (copied_step c (copied c at) at (omega arith) (copied_so c at (omega arith)))

bare_so : (cell : Cell) (kind : ℕ) → Copied (words_of cell) (bare_of cell kind).words 4
bare_so cell kind = copied_so (words_of cell) 4 (omega arith)

-- what is so of each form, with so many entries or branch bytes

record In16 (cell : Cell) (entry : ℕ) : Type 0 where
  pub whole : length (in_16 cell entry).words ≡ 264
  pub kind : (in_16 cell entry).kind ≡ 3
  pub so : SixteenSo (words_of cell) (words_of (in_16 cell entry)) entry

is_in_16 : (cell : Cell) (entry : ℕ) → entry ≤ 4 → In16 cell entry
is_in_16 cell zero le =
    let bare = bare_so cell 3 in
    record { whole = bare.0; kind = refl; so = sixteen_start (words_of cell) (words_of (bare_of cell 3)) bare.1 bare.2 }
is_in_16 cell (suc entry) le =
    let before = is_in_16 cell entry (omega arith) in
    record {
      whole = length-set (in_16 cell entry).words (8 + entry) (words_of cell (4 + entry)) ∙ before.whole;
      kind = before.kind;
      so = subst (SixteenSo (words_of cell) (words_of (in_16 cell (suc entry)))) (let next : entry + 1 ≡ suc entry = omega arith in next) (sixteen_turn cell (in_16 cell entry) entry (omega arith) before.whole before.so);
    }

record In48 (cell : Cell) (entry : ℕ) : Type 0 where
  pub whole : length (in_48 cell entry).words ≡ 264
  pub kind : (in_48 cell entry).kind ≡ 4
  pub so : FortyEightSo (words_of cell) (words_of (in_48 cell entry)) entry

is_in_48 : (cell : Cell) (entry : ℕ) → entry ≤ 16 → cell.kind ≡ 3 → IsCell cell → In48 cell entry
is_in_48 cell zero le three is =
    let bare = bare_so cell 4 in
    record { whole = bare.0; kind = refl; so = forty_eight_start (words_of cell) (words_of (bare_of cell 4)) bare.1 bare.2 }
is_in_48 cell (suc entry) le three is =
    let before = is_in_48 cell entry (omega arith) three is in
    let keeps = taken_keeps (in_48 cell entry) entry (words_of cell (8 + entry)) before.whole in
    record {
      whole = keeps.0;
      kind = keeps.1 ∙ before.kind;
      so = subst (FortyEightSo (words_of cell) (words_of (in_48 cell (suc entry)))) (let next : entry + 1 ≡ suc entry = omega arith in next) (forty_eight_turn cell (in_48 cell entry) entry (omega arith) before.whole three is before.so);
    }

record In256 (cell : Cell) (byte : ℕ) : Type 0 where
  pub whole : length (in_256 cell byte).words ≡ 264
  pub kind : (in_256 cell byte).kind ≡ 5
  pub so : DirectSo cell (words_of (in_256 cell byte)) byte

is_in_256 : (cell : Cell) (byte : ℕ) → byte ≤ 256 → In256 cell byte
is_in_256 cell zero le =
    let bare = bare_so cell 5 in
    record { whole = bare.0; kind = refl; so = direct_start cell (words_of (bare_of cell 5)) bare.1 bare.2 }
is_in_256 cell (suc byte) le =
    let before = is_in_256 cell byte (omega arith) in
    record {
      whole = length-set (in_256 cell byte).words (8 + byte) (children_of cell byte) ∙ before.whole;
      kind = before.kind;
      so = subst (DirectSo cell (words_of (in_256 cell (suc byte)))) (let next : byte + 1 ≡ suc byte = omega arith in next) (direct_turn cell (in_256 cell byte) byte (children_of cell byte) (omega arith) before.whole refl before.so);
    }

pub whole : (cell : Cell) (byte : ℕ) → byte ≡ 256 → in_256 cell byte ≡ whole_in_256 cell
unfolding whole_in_256
whole cell byte last = ap (in_256 cell) last

-- (of a number of branch bytes that isn't a literal, so that nothing is computed)
record Whole256 (cell : Cell) : Type 0 where
  pub whole : length (whole_in_256 cell).words ≡ 264
  pub kind : (whole_in_256 cell).kind ≡ 5
  pub so : (byte : ℕ) → byte ≡ 256 → DirectSo cell (words_of (whole_in_256 cell)) byte

whole_by : (cell : Cell) (byte : ℕ) → byte ≡ 256 → Whole256 cell
whole_by cell byte last =
    let is = is_in_256 cell byte (omega arith) in
    let same = whole cell byte last in
    record {
      whole = subst (λ (g : Cell). length g.words ≡ 264) same is.whole;
      kind = subst (λ (g : Cell). g.kind ≡ 5) same is.kind;
      so = λ other last'. subst (DirectSo cell (words_of (whole_in_256 cell))) (last ∙ sym last') (subst (λ (g : Cell). DirectSo cell (words_of g) byte) same is.so);
    }

-- which form it is
pub from_4 : (cell : Cell) → cell.kind ≡ 2 → in_16 cell 4 ≡ grown_of cell
unfolding grown_of
from_4 cell two = sym (ap (λ a. cond a (in_16 cell 4) (cond (cell.kind == 3) (in_48 cell 16) (whole_in_256 cell))) (eq-eqb cell.kind 2 two))

pub from_16 : (cell : Cell) → cell.kind ≡ 3 → in_48 cell 16 ≡ grown_of cell
unfolding grown_of
from_16 cell three =
    sym (ap (λ a. cond a (in_16 cell 4) (cond (cell.kind == 3) (in_48 cell 16) (whole_in_256 cell))) (ne_eqb cell.kind 2 (λ e. omega arith))
    ∙ ap (λ a. cond a (in_48 cell 16) (whole_in_256 cell)) (eq-eqb cell.kind 3 three))

pub from_48 : (cell : Cell) → cell.kind ≢ 2 → cell.kind ≢ 3 → whole_in_256 cell ≡ grown_of cell
unfolding grown_of
from_48 cell not_two not_three =
    sym (ap (λ a. cond a (in_16 cell 4) (cond (cell.kind == 3) (in_48 cell 16) (whole_in_256 cell))) (ne_eqb cell.kind 2 not_two)
    ∙ ap (λ a. cond a (in_48 cell 16) (whole_in_256 cell)) (ne_eqb cell.kind 3 not_three))

-- the last form but one
four_is : (cell : Cell) → cell.kind ≤ 4 → IsCell cell → cell.kind ≢ 2 → cell.kind ≢ 3 → cell.kind ≡ 4
four_is cell most is not_two not_three = let low = is.kind.0 in omega (arith, not_two, not_three)

pub grown_is_grown : GrownIsGrown
grown_is_grown cell most is = elim (cases_eq cell.kind 2) [
  | inl two ↦ let g = is_in_16 cell 4 (omega arith) in subst (IsGrown cell) (from_4 cell two) (sixteen_end cell (in_16 cell 4) two g.kind g.so is)
  | inr not_two ↦ elim (cases_eq cell.kind 3) [
    | inl three ↦ let g = is_in_48 cell 16 (omega arith) three is in subst (IsGrown cell) (from_16 cell three) (forty_eight_end cell (in_48 cell 16) three g.kind g.so is)
    | inr not_three ↦ let g = whole_by cell 256 refl in subst (IsGrown cell) (from_48 cell not_two not_three) (direct_end cell (whole_in_256 cell) (four_is cell most is not_two not_three) g.kind (g.so 256 refl) is)
  ]
]

-- a child more
larger_by : (cell grown larger : Cell) (byte reference : ℕ) (store : CellStore) (before : Cell) → IsGrown cell grown → before.kind ≡ grown.kind → ((o : ℕ) → o < 4 → words_of before o ≡ words_of grown o) → ((b : ℕ) → children_of before b ≡ children_of grown b)
    → SetsChild before store byte reference → larger ≡ stored before store → IsLarger cell byte reference larger
larger_by cell grown larger byte reference store before is kind head same sets made = subst (IsLarger cell byte reference) (sym made) (record {
  kind = kind ∙ is.kind;
  sound = sets.sound;
  head = λ o lt. sets.head o lt ∙ head o lt ∙ is.head o lt;
  here = sets.here;
  others = λ b apart. sets.others b apart ∙ same b ∙ is.same b;
})

-- the form as the tests of the kind tell it
pub more_in_16 : (cell : Cell) (byte reference : ℕ) → cell.kind ≡ 2 → larger_of cell byte reference ≡ stored (grown_of cell) (record { offset = 12; value = entry_of byte reference })
unfolding larger_of
more_in_16 cell byte reference two =
    ap (λ a. cond a (stored (grown_of cell) (record { offset = 12; value = entry_of byte reference })) (cond (cell.kind == 3) (taken_in (grown_of cell) 16 (entry_of byte reference)) (stored (grown_of cell) (record { offset = 8 + byte; value = reference })))) (eq-eqb cell.kind 2 two)

pub more_in_48 : (cell : Cell) (byte reference : ℕ) → cell.kind ≡ 3 → larger_of cell byte reference ≡ taken_in (grown_of cell) 16 (entry_of byte reference)
unfolding larger_of
more_in_48 cell byte reference three =
    ap (λ a. cond a (stored (grown_of cell) (record { offset = 12; value = entry_of byte reference })) (cond (cell.kind == 3) (taken_in (grown_of cell) 16 (entry_of byte reference)) (stored (grown_of cell) (record { offset = 8 + byte; value = reference })))) (ne_eqb cell.kind 2 (λ e. omega arith))
    ∙ ap (λ a. cond a (taken_in (grown_of cell) 16 (entry_of byte reference)) (stored (grown_of cell) (record { offset = 8 + byte; value = reference }))) (eq-eqb cell.kind 3 three)

pub more_in_256 : (cell : Cell) (byte reference : ℕ) → cell.kind ≢ 2 → cell.kind ≢ 3 → larger_of cell byte reference ≡ stored (grown_of cell) (record { offset = 8 + byte; value = reference })
unfolding larger_of
more_in_256 cell byte reference not_two not_three =
    ap (λ a. cond a (stored (grown_of cell) (record { offset = 12; value = entry_of byte reference })) (cond (cell.kind == 3) (taken_in (grown_of cell) 16 (entry_of byte reference)) (stored (grown_of cell) (record { offset = 8 + byte; value = reference })))) (ne_eqb cell.kind 2 not_two)
    ∙ ap (λ a. cond a (taken_in (grown_of cell) 16 (entry_of byte reference)) (stored (grown_of cell) (record { offset = 8 + byte; value = reference }))) (ne_eqb cell.kind 3 not_three)

module _ (cell : Cell) (byte reference : ℕ) (small : byte < 256) (sound : IsReference reference) (is : IsCell cell) (none : children_of cell byte ≡ 0) where
  from_16_on : (g : Cell) → In16 cell 4 → g ≡ in_16 cell 4 → IsGrown cell g → cell.kind ≡ 2 → IsLarger cell byte reference (stored g (record { offset = 12; value = entry_of byte reference }))
  from_16_on g g_is same grown two =
      let whole : length g.words ≡ 264 = ap (λ (x : Cell). length x.words) same ∙ g_is.whole in
      let kind : g.kind ≡ 3 = ap (λ (x : Cell). x.kind) same ∙ g_is.kind in
      let free : words_of g 12 ≡ 0 = ap (λ (x : Cell). words_of x 12) same ∙ g_is.so.rest 12 (omega arith) in
      let adds = adds_entry g 8 16 12 byte reference whole (record { is = inr (kind, refl, refl) }) (record { low = omega arith; high = omega arith; free = free }) small sound (grown.same byte ∙ none) grown.sound in
      larger_by cell g (stored g (record { offset = 12; value = entry_of byte reference })) byte reference (record { offset = 12; value = entry_of byte reference }) g grown refl (λ o lt. refl) (λ b. refl) adds.1 refl

  from_48_on : (g : Cell) → In48 cell 16 → g ≡ in_48 cell 16 → IsGrown cell g → IsLarger cell byte reference (taken_in g 16 (entry_of byte reference))
  from_48_on g g_is same grown =
      let whole : length g.words ≡ 264 = ap (λ (x : Cell). length x.words) same ∙ g_is.whole in
      let kind : g.kind ≡ 4 = ap (λ (x : Cell). x.kind) same ∙ g_is.kind in
      let so = g_is.so in
      let places : (b : ℕ) → b < 256 → index_of (words_of g) b ≢ 16 + 1 = λ b lt e. let le = so.places b lt in let is : index_of (words_of (in_48 cell 16)) b ≡ 17 = sym (ap (λ (x : Cell). index_of (words_of x) b) same) ∙ e in omega arith in
      let adds = adds_index g 16 byte reference whole kind (record { within = omega arith; free = places }) small sound (grown.same byte ∙ none) grown.sound in
      let once = stored g (place_store_of 16 reference) in
      let word_same : words_of once (8 + byte / 8) ≡ words_of g (8 + byte / 8) = ap (λ (w : CellWords). w (8 + byte / 8)) (stored_words g (place_store_of 16 reference) (omega arith)) ∙ other_set (words_of g) 56 reference (8 + byte / 8) (λ e. omega arith) in
      let switch_same : index_store_of once byte 17 ≡ index_store_of g byte 17 = ap (λ v. let s : CellStore = record { offset = 8 + byte / 8; value = byte_set v (byte % 8) 17 } in s) word_same in
      let fits : reference < 2 ^ 32 = omega (arith, sound.1) in
      let some_entry : entry_of byte reference ≢ 0 = λ e. omega (arith, sound.0) in
      let byte_is : entry_of byte reference / 2 ^ 32 % 256 ≡ byte = omega arith in
      let reference_is : entry_of byte reference % 2 ^ 32 ≡ reference = omega arith in
      let entry = entry_of byte reference in
      let made : taken_in g 16 entry ≡ stored once (index_store_of g byte 17) =
      ap (λ a. cond a g (placed g 16 (entry / 2 ^ 32 % 256) (entry % 2 ^ 32))) (ne_eqb entry 0 some_entry)
      ∙ ap (λ b. placed g 16 b (entry % 2 ^ 32)) byte_is ∙ ap (placed g 16 byte) reference_is
      ∙ ap (stored once) switch_same in
      larger_by cell g (taken_in g 16 entry) byte reference (index_store_of g byte 17) once grown refl adds.1.head adds.1.same adds.2 made

  from_256_on : (g : Cell) → length g.words ≡ 264 → g.kind ≡ 5 → IsGrown cell g → IsLarger cell byte reference (stored g (record { offset = 8 + byte; value = reference }))
  from_256_on g whole kind grown =
      let adds = adds_direct g byte reference whole kind small sound (grown.same byte ∙ none) grown.sound in
      larger_by cell g (stored g (record { offset = 8 + byte; value = reference })) byte reference (record { offset = 8 + byte; value = reference }) g grown refl (λ o lt. refl) (λ b. refl) adds.1 refl

pub larger_is_larger : LargerIsLarger
larger_is_larger cell byte reference most small sound is none =
    let grown = grown_is_grown cell most is in
    let g = grown_of cell in
    elim (cases_eq cell.kind 2) [
      | inl two ↦ subst (IsLarger cell byte reference) (sym (more_in_16 cell byte reference two)) (from_16_on cell byte reference small sound is none g (is_in_16 cell 4 (omega arith)) (sym (from_4 cell two)) grown two)
      | inr not_two ↦ elim (cases_eq cell.kind 3) [
        | inl three ↦ subst (IsLarger cell byte reference) (sym (more_in_48 cell byte reference three)) (from_48_on cell byte reference small sound is none g (is_in_48 cell 16 (omega arith) three is) (sym (from_16 cell three)) grown)
        | inr not_three ↦
            let all = whole_by cell 256 refl in
            let same = from_48 cell not_two not_three in
            subst (IsLarger cell byte reference) (sym (more_in_256 cell byte reference not_two not_three)) (from_256_on cell byte reference small sound is none g (subst (λ (x : Cell). length x.words ≡ 264) same all.whole) (subst (λ (x : Cell). x.kind ≡ 5) same all.kind) grown)
      ]
    ]

-- of what was made so
pub grown_by : (cell grown : Cell) → cell.kind ≤ 4 → grown ≡ grown_of cell → IsCell cell → IsGrown cell grown
grown_by cell grown most made is = subst (IsGrown cell) (sym made) (grown_is_grown cell most is)

pub larger_made : (cell : Cell) (byte reference : ℕ) (larger : Cell) → cell.kind ≤ 4 → byte < 256 → IsReference reference → IsCell cell → children_of cell byte ≡ 0 → larger ≡ larger_of cell byte reference → IsLarger cell byte reference larger
larger_made cell byte reference larger most small sound is none made = subst (IsLarger cell byte reference) (sym made) (larger_is_larger cell byte reference most small sound is none)

-- the kind of the next form
pub larger_kind : (cell : Cell) (byte reference : ℕ) → (2 ≤ cell.kind) × (cell.kind ≤ 4) → (larger_of cell byte reference).kind ≡ cell.kind + 1
larger_kind cell byte reference kinds = elim (cases_eq cell.kind 2) [
  | inl two ↦
      let grown : (grown_of cell).kind ≡ 3 = sym (ap (λ (x : Cell). x.kind) (from_4 cell two)) ∙ (is_in_16 cell 4 (omega arith)).kind in
      ap (λ (x : Cell). x.kind) (more_in_16 cell byte reference two) ∙ grown ∙ (let e : 3 ≡ cell.kind + 1 = omega arith in e)
  | inr not_two ↦ elim (cases_eq cell.kind 3) [
    | inl three ↦
        let grown : (grown_of cell).kind ≡ 4 = sym (ap (λ (x : Cell). x.kind) (from_16 cell three)) ∙ kind_48 cell 16 in
        ap (λ (x : Cell). x.kind) (more_in_48 cell byte reference three) ∙ taken_kind (grown_of cell) 16 (entry_of byte reference) ∙ grown ∙ (let e : 4 ≡ cell.kind + 1 = omega arith in e)
    | inr not_three ↦
        let grown : (grown_of cell).kind ≡ 5 = sym (ap (λ (x : Cell). x.kind) (from_48 cell not_two not_three)) ∙ (whole_by cell 256 refl).kind in
        let low = kinds.0 in
        let high = kinds.1 in
        ap (λ (x : Cell). x.kind) (more_in_256 cell byte reference not_two not_three) ∙ grown ∙ (let e : 5 ≡ cell.kind + 1 = omega (arith, not_two, not_three) in e)
  ]
]
  where
    taken_kind : (g : Cell) (place entry : ℕ) → (taken_in g place entry).kind ≡ g.kind
    taken_kind g place entry = elim (entry == 0) as (λ a. (cond a g (placed g place (entry / 2 ^ 32 % 256) (entry % 2 ^ 32))).kind ≡ g.kind) [ true ↦ refl | false ↦ refl ]

    kind_48 : (cell : Cell) (entry : ℕ) → (in_48 cell entry).kind ≡ 4
    kind_48 cell zero = refl
    kind_48 cell (suc entry) = taken_kind (in_48 cell entry) entry (words_of cell (8 + entry)) ∙ kind_48 cell entry
