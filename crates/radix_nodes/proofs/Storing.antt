-- Stores into a cell in order leave a cell in order.
use Rattle.std.proofs.Common.{◌≡◌, ◌≢◌, ℕ, zero, suc, ◌+◌, ◌-◌, ◌*◌, ◌/◌, ◌%◌, ◌^◌, ◌<◌, ◌≤◌, inl, inr, length, length-set, refl, sym, subst, subst₂, ap, ◌∙◌, arith}
use Rattle.std.specs.Prelude.{Some, None}
use Rattle.std.proofs.lemmas.Bool.{cases_eq}
use Rattle.pm_words.specs.Locations.{kind_words}
use Rattle.pm_words.specs.Offsets.{depth_offset}
use Rattle.radix_nodes.specs.declared.cell.Cell.{Cell}
use Rattle.radix_nodes.specs.declared.cell.CellStore.{CellStore}
use Rattle.radix_nodes.specs.Keys.{key_bytes, word_byte, EndsAt}
use Rattle.radix_nodes.specs.Bytes.{byte_set}
use Rattle.radix_nodes.specs.Cells.{CellWords, children, entry_byte, entry_of, index_of, IsForm, IsReference, HasTwo, IsLawful, IsCell, words_of, children_of, prefix_words}
use Rattle.radix_nodes.specs.Entries.{IsEntryOf, IsFreeEntry}
use Rattle.radix_nodes.specs.Changes.{with_word, IsCellStore, IsQuietStore, stored, SetsChild, SetsNone, Adds, HasTwoMore}
use Rattle.radix_nodes.specs.Places.{IsFreePlace, index_store_of, place_store_of}
use Rattle.radix_nodes.specs.Stores.{IsEntryForm}
use Rattle.radix_nodes.proofs.EntryForms.{here_set, other_set, entry_adds, entry_goes}
use Rattle.radix_nodes.proofs.IndexForm.{child_none, place_fills, index_adds, index_goes, direct_stores}
use Rattle.radix_nodes.proofs.CellWords.{stored_words, children_four}

-- the prefix stands in the head
pub prefix_same : (c c' : CellWords) (depth : ℕ) → ((o : ℕ) → o < 4 → c' o ≡ c o) → EndsAt depth (prefix_words c) → EndsAt depth (prefix_words c')
prefix_same c c' depth head ends at le within = ap (λ w. word_byte w (at % 8)) (head (1 + at / 8) (omega arith)) ∙ ends at le within

-- a cell with the same head, another form and other children
pub lawful_by : (kind kind' : ℕ) (c c' : CellWords) → IsLawful kind c → ((o : ℕ) → o < 4 → c' o ≡ c o) → IsForm kind' c' → ((b : ℕ) → children kind' c' b ≢ 0 → IsReference (children kind' c' b)) → HasTwo (children kind' c') → IsLawful kind' c'
lawful_by kind kind' c c' is head form references two =
    let depth : c' depth_offset ≡ c depth_offset = head 0 (omega arith) in
    record {
      form = form;
      depth = subst (λ d. d < key_bytes) (sym depth) is.depth;
      prefix = subst (λ d. EndsAt d (prefix_words c')) (sym depth) (prefix_same c c' (c depth_offset) head is.prefix);
      references = references;
      two = two;
    }

-- and with the same children
pub lawful_same : (kind kind' : ℕ) (c c' : CellWords) → IsLawful kind c → ((o : ℕ) → o < 4 → c' o ≡ c o) → IsForm kind' c' → ((b : ℕ) → children kind' c' b ≡ children kind c b) → IsLawful kind' c'
lawful_same kind kind' c c' is head form same =
    lawful_by kind kind' c c' is head form (λ b some_child. subst IsReference (sym (same b)) (is.references b (λ e. some_child (same b ∙ e))))
    (record {
      one = is.two.one;
      two = is.two.two;
      apart = is.two.apart;
      has_one = λ e. is.two.has_one (sym (same is.two.one) ∙ e);
      has_two = λ e. is.two.has_two (sym (same is.two.two) ∙ e);
    })

lawful_stored : (kind : ℕ) (c c' : CellWords) (byte reference : ℕ) → IsLawful kind c → IsCellStore kind c c' byte reference → (reference ≢ 0 → IsReference reference) → HasTwo (children kind c') → IsLawful kind c'
lawful_stored kind c c' byte reference is store sound two = lawful_by kind kind c c' is store.head store.form (λ b some_child. elim (cases_eq b byte) [
  | inl same ↦ let at : children kind c' b ≡ reference = ap (children kind c') same ∙ store.here in subst IsReference (sym at) (sound (λ e. some_child (at ∙ e)))
  | inr apart ↦ let at = store.others b apart in subst IsReference (sym at) (is.references b (λ e. some_child (at ∙ e)))
]) two

-- two children are left by an add, and by a remove from more than two
two_added : (kind : ℕ) (c c' : CellWords) (byte reference : ℕ) → IsCellStore kind c c' byte reference → children kind c byte ≡ 0 → HasTwo (children kind c) → HasTwo (children kind c')
two_added kind c c' byte reference store none two = record {
  one = two.one;
  two = two.two;
  apart = two.apart;
  has_one = λ e. two.has_one (sym (store.others two.one (λ same. two.has_one (ap (children kind c) same ∙ none))) ∙ e);
  has_two = λ e. two.has_two (sym (store.others two.two (λ same. two.has_two (ap (children kind c) same ∙ none))) ∙ e);
}

two_left : (kind : ℕ) (c c' : CellWords) (byte reference : ℕ) → IsCellStore kind c c' byte reference → HasTwoMore (children kind c) byte → HasTwo (children kind c')
two_left kind c c' byte reference store two = record {
  one = two.one;
  two = two.two;
  apart = two.apart;
  has_one = λ e. two.has_one (sym (store.others two.one two.not_one) ∙ e);
  has_two = λ e. two.has_two (sym (store.others two.two two.not_two) ∙ e);
}

-- each form has at most so many words
pub words_within : (kind o : ℕ) → 2 ≤ kind → kind ≤ 5 → o < kind_words kind → o < 264
words_within zero o low high lt = absurd (omega arith)
words_within (suc zero) o low high lt = absurd (omega arith)
words_within (suc (suc zero)) o low high lt = let small : o < 8 = lt in omega arith
words_within (suc (suc (suc zero))) o low high lt = let small : o < 24 = lt in omega arith
words_within (suc (suc (suc (suc zero)))) o low high lt = let small : o < 88 = lt in omega arith
words_within (suc (suc (suc (suc (suc zero))))) o low high lt = lt
words_within (suc (suc (suc (suc (suc (suc kind)))))) o low high lt = absurd (omega arith)

-- A store into the list of words, by what it makes of the words.
module _ (cell : Cell) (store : CellStore) (whole : length cell.words ≡ 264) (is : IsCell cell) (within : store.offset < kind_words cell.kind) where
  abbrev c : CellWords
  c = words_of cell

  abbrev c' : CellWords
  c' = with_word (words_of cell) store.offset store.value

  path : words_of (stored cell store) ≡ c'
  path = stored_words cell store (let small = words_within cell.kind store.offset is.kind.0 is.kind.1 within in omega arith)

  cell_stored : IsLawful cell.kind c' → IsCell (stored cell store)
  cell_stored lawful = record {
    kind = is.kind;
    behind = λ o le. ap (λ (w : CellWords). w o) path ∙ other_set c store.offset store.value o (λ e. omega arith) ∙ is.behind o le;
    lawful = subst (IsLawful cell.kind) (sym path) lawful;
  }

  sets_child : (byte reference : ℕ) → IsCellStore cell.kind c c' byte reference → (reference ≢ 0 → IsReference reference) → HasTwo (children cell.kind c') → SetsChild cell store byte reference
  sets_child byte reference makes sound two = record {
    within = within;
    sound = cell_stored (lawful_stored cell.kind c c' byte reference is.lawful makes sound two);
    head = λ o lt. ap (λ (w : CellWords). w o) path ∙ makes.head o lt;
    here = ap (λ (w : CellWords). children cell.kind w byte) path ∙ makes.here;
    others = λ b apart. ap (λ (w : CellWords). children cell.kind w b) path ∙ makes.others b apart;
  }

  pub adds_child : (byte reference : ℕ) → IsCellStore cell.kind c c' byte reference → children_of cell byte ≡ 0 → IsReference reference → SetsChild cell store byte reference
  adds_child byte reference makes none sound = sets_child byte reference makes (λ some_reference. sound) (two_added cell.kind c c' byte reference makes none is.lawful.two)

  pub takes_child : (byte : ℕ) → IsCellStore cell.kind c c' byte 0 → HasTwoMore (children_of cell) byte → SetsChild cell store byte 0
  takes_child byte makes two = sets_child byte 0 makes (λ some_reference. absurd (some_reference refl)) (two_left cell.kind c c' byte 0 makes two)

  pub sets_none : IsQuietStore cell.kind c c' → SetsNone cell store
  sets_none makes = record {
    within = within;
    sound = cell_stored (lawful_same cell.kind cell.kind c c' is.lawful makes.head makes.form makes.same);
    head = λ o lt. ap (λ (w : CellWords). w o) path ∙ makes.head o lt;
    same = λ b. ap (λ (w : CellWords). children cell.kind w b) path ∙ makes.same b;
  }

-- Forms 4 and 16.

form_within : (kind form offset : ℕ) → kind ≡ form → (kind ≢ 4) → offset < kind_words form → (kind ≢ 4) × (offset < kind_words kind)
form_within kind form offset is apart small = (apart, subst (λ k. offset < kind_words k) (sym is) small)

entry_within : (kind first count offset : ℕ) → IsEntryForm kind first count → offset < first + count → (kind ≢ 4) × (offset < kind_words kind)
entry_within kind first count offset is lt = elim is.is [
  | inl four ↦ form_within kind 2 offset four.0 (λ e. let k = four.0 in omega arith) (let f = four.1 in let n = four.2 in let small : offset < 8 = omega arith in small)
  | inr sixteen ↦ form_within kind 3 offset sixteen.0 (λ e. let k = sixteen.0 in omega arith) (let f = sixteen.1 in let n = sixteen.2 in let small : offset < 24 = omega arith in small)
]

pub adds_entry : (cell : Cell) (first count offset byte reference : ℕ) → length cell.words ≡ 264 → IsEntryForm cell.kind first count → IsFreeEntry (words_of cell) first count offset → byte < 256 → IsReference reference → children_of cell byte ≡ 0 → IsCell cell
    → Adds cell byte reference (record { first = None; switch = record { offset = offset; value = byte * 2 ^ 32 + reference } })
adds_entry cell first count offset byte reference whole form free small sound none is =
    let i = offset - first in
    let low = free.low in
    let high = free.high in
    let there : first + i ≡ offset = omega arith in
    let within = entry_within cell.kind first count offset form high in
    let c = words_of cell in
    let some_reference : reference ≢ 0 = λ e. omega (arith, sound.0) in
    let fits : reference < 2 ^ 32 = omega (arith, sound.1) in
    let makes : IsCellStore cell.kind c (with_word c offset (entry_of byte reference)) byte reference =
    subst (λ o. IsCellStore cell.kind c (with_word c o (entry_of byte reference)) byte reference) there
    (entry_adds cell.kind first count c i byte reference form is.lawful.form (omega arith) (ap c there ∙ free.free) small some_reference fits none) in
    (within.0, adds_child cell (record { offset = offset; value = byte * 2 ^ 32 + reference }) whole is within.1 byte reference makes none sound)

pub takes_entry : (cell : Cell) (first count offset byte : ℕ) → length cell.words ≡ 264 → IsEntryForm cell.kind first count → IsEntryOf (words_of cell) first count byte offset → IsCell cell → HasTwoMore (children_of cell) byte
    → SetsChild cell (record { offset = offset; value = 0 }) byte 0
takes_entry cell first count offset byte whole form entry is two =
    let i = offset - first in
    let low = entry.low in
    let high = entry.high in
    let there : first + i ≡ offset = omega arith in
    let c = words_of cell in
    let makes : IsCellStore cell.kind c (with_word c offset 0) byte 0 =
    subst (λ b. IsCellStore cell.kind c (with_word c offset 0) b 0) entry.fits.1
    (subst (λ o. IsCellStore cell.kind c (with_word c o 0) (entry_byte (c o)) 0) there
    (entry_goes cell.kind first count c i form is.lawful.form (omega arith) (subst (λ o. c o ≢ 0) (sym there) entry.fits.0))) in
    takes_child cell (record { offset = offset; value = 0 }) whole is (entry_within cell.kind first count offset form high).1 byte makes two

-- Form 48.

index_within : (kind byte : ℕ) → kind ≡ 4 → byte < 256 → 8 + byte / 8 < kind_words kind
index_within kind byte is small = let within : 8 + byte / 8 < 88 = omega arith in subst (λ k. 8 + byte / 8 < kind_words k) (sym is) within

pub adds_index : (cell : Cell) (place byte reference : ℕ) → length cell.words ≡ 264 → cell.kind ≡ 4 → IsFreePlace (words_of cell) place → byte < 256 → IsReference reference → children_of cell byte ≡ 0 → IsCell cell
    → Adds cell byte reference (record { first = Some (place_store_of place reference); switch = index_store_of cell byte (place + 1) })
adds_index cell place byte reference whole kind free small sound none is =
    let c = words_of cell in
    let first = place_store_of place reference in
    let placed = stored cell first in
    let place_in = free.within in
    let in_cell : 40 + place < 88 = omega arith in
    let within : 40 + place < kind_words cell.kind = subst (λ k. 40 + place < kind_words k) (sym kind) in_cell in
    let form : IsForm 4 c = subst (λ k. IsForm k c) kind is.lawful.form in
    let quiet : IsQuietStore cell.kind c (with_word c (40 + place) reference) =
    subst (λ k. IsQuietStore k c (with_word c (40 + place) reference)) (sym kind) (place_fills c place reference form place_in free.free) in
    let quietly = sets_none cell first whole is within quiet in
    let d = with_word c (40 + place) reference in
    let path : words_of placed ≡ d = stored_words cell first (let out : 40 + place < 264 = omega arith in omega arith) in
    let some_reference : reference ≢ 0 = λ e. omega (arith, sound.0) in
    let here : d (40 + place) ≡ reference = here_set c (40 + place) reference in
    let same_index : d (8 + byte / 8) ≡ c (8 + byte / 8) = other_set c (40 + place) reference (8 + byte / 8) (λ e. omega arith) in
    let free_still : (b : ℕ) → b < 256 → index_of d b ≢ place + 1 = λ b small'.
    λ e. free.free b small' (ap (λ w. w / 256 ^ (b % 8) % 256) (sym (other_set c (40 + place) reference (8 + b / 8) (λ e. omega arith))) ∙ e) in
    let none_still : children 4 d byte ≡ 0 = sym (ap (λ k. children k d byte) kind) ∙ quiet.same byte ∙ none in
    let form_still : IsForm 4 d = subst (λ k. IsForm k d) kind quiet.form in
    let told : IsCellStore 4 d (with_word d (8 + byte / 8) (byte_set (d (8 + byte / 8)) (byte % 8) (place + 1))) byte (d (40 + place)) =
    index_adds d byte place form_still small place_in free_still (λ e. some_reference (sym here ∙ e)) none_still in
    let makes : IsCellStore cell.kind d (with_word d (8 + byte / 8) (byte_set (c (8 + byte / 8)) (byte % 8) (place + 1))) byte reference =
    subst (λ k. IsCellStore k d (with_word d (8 + byte / 8) (byte_set (c (8 + byte / 8)) (byte % 8) (place + 1))) byte reference) (sym kind)
    (subst₂ (λ w r. IsCellStore 4 d (with_word d (8 + byte / 8) (byte_set w (byte % 8) (place + 1))) byte r) same_index here told) in
    let switch = index_store_of cell byte (place + 1) in
    let makes' : IsCellStore cell.kind (words_of placed) (with_word (words_of placed) switch.offset switch.value) byte reference =
    subst (λ (w : CellWords). IsCellStore cell.kind w (with_word w switch.offset switch.value) byte reference) (sym path) makes in
    (kind, quietly, adds_child placed switch (long cell first whole) quietly.sound (index_within cell.kind byte kind small) byte reference makes' (quietly.same byte ∙ none) sound)
  where
    long : (cell : Cell) (store : CellStore) → length cell.words ≡ 264 → length (stored cell store).words ≡ 264
    long cell store whole = length-set cell.words store.offset store.value ∙ whole

pub takes_index : (cell : Cell) (byte : ℕ) → length cell.words ≡ 264 → cell.kind ≡ 4 → byte < 256 → children_of cell byte ≢ 0 → IsCell cell → HasTwoMore (children_of cell) byte → SetsChild cell (index_store_of cell byte 0) byte 0
takes_index cell byte whole kind small some_child is two =
    let c = words_of cell in
    let form : IsForm 4 c = subst (λ k. IsForm k c) kind is.lawful.form in
    let used : index_of c byte ≢ 0 = λ e. some_child (children_four cell.kind c byte kind ∙ child_none c byte small e) in
    let store = index_store_of cell byte 0 in
    let makes : IsCellStore cell.kind c (with_word c store.offset store.value) byte 0 =
    subst (λ k. IsCellStore k c (with_word c store.offset store.value) byte 0) (sym kind) (index_goes c byte form small used) in
    takes_child cell store whole is (index_within cell.kind byte kind small) byte makes two

-- Form 256.

pub kind_is_five : (cell : Cell) → IsCell cell → cell.kind ≢ 2 → cell.kind ≢ 3 → cell.kind ≢ 4 → cell.kind ≡ 5
kind_is_five cell is two three four = let low = is.kind.0 in let high = is.kind.1 in omega (arith, two, three, four)

direct_makes : (cell : Cell) (byte reference : ℕ) → cell.kind ≡ 5 → byte < 256 → IsCell cell → (8 + byte < kind_words cell.kind) × IsCellStore cell.kind (words_of cell) (with_word (words_of cell) (8 + byte) reference) byte reference
direct_makes cell byte reference kind small is =
    let c = words_of cell in
    let in_cell : 8 + byte < 264 = omega arith in (
      subst (λ k. 8 + byte < kind_words k) (sym kind) in_cell,
      subst (λ k. IsCellStore k c (with_word c (8 + byte) reference) byte reference) (sym kind) (direct_stores c byte reference (subst (λ k. IsForm k c) kind is.lawful.form) small),
    )

pub adds_direct : (cell : Cell) (byte reference : ℕ) → length cell.words ≡ 264 → cell.kind ≡ 5 → byte < 256 → IsReference reference → children_of cell byte ≡ 0 → IsCell cell
    → Adds cell byte reference (record { first = None; switch = record { offset = 8 + byte; value = reference } })
adds_direct cell byte reference whole kind small sound none is =
    let makes = direct_makes cell byte reference kind small is in
    ((λ e. omega arith), adds_child cell (record { offset = 8 + byte; value = reference }) whole is makes.0 byte reference makes.1 none sound)

pub takes_direct : (cell : Cell) (byte : ℕ) → length cell.words ≡ 264 → cell.kind ≡ 5 → byte < 256 → IsCell cell → HasTwoMore (children_of cell) byte → SetsChild cell (record { offset = 8 + byte; value = 0 }) byte 0
takes_direct cell byte whole kind small is two =
    let makes = direct_makes cell byte 0 kind small is in
    takes_child cell (record { offset = 8 + byte; value = 0 }) whole is makes.0 byte makes.1 two
