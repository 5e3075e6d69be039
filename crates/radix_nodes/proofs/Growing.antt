-- Cells of the next form, word by word.
use Rattle.std.proofs.Common.{◌≡◌, ◌≢◌, ℕ, zero, suc, ◌+◌, ◌/◌, ◌%◌, ◌^◌, ◌<◌, ◌≤◌, ◌==◌, ◌&&◌, not, true, false, cond, inl, inr, length, length-set, refl, sym, subst, ap, ap₂, ◌∙◌, arith, lt-ltb}
use Rattle.std.proofs.lemmas.Bool.{cases_eq, cases_lt, eq-eqb, ne_eqb}
use Rattle.pm_words.specs.Locations.{kind_words}
use Rattle.radix_nodes.specs.declared.cell.Cell.{Cell}
use Rattle.radix_nodes.specs.declared.cell.CellStore.{CellStore}
use Rattle.radix_nodes.specs.Bytes.{byte_set}
use Rattle.radix_nodes.specs.Cells.{CellWords, children, entry_byte, entry_reference, seek, index_of, AreEntries, HasSpare, IsForm, IsCell, words_of, children_of}
use Rattle.radix_nodes.specs.Changes.{with_word, IsCellStore, IsQuietStore, stored, IsGrown}
use Rattle.radix_nodes.specs.Places.{place_store_of, index_store_of, placed, taken_in}
use Rattle.radix_nodes.proofs.Powers.{power_pos, zero_over}
use Rattle.radix_nodes.proofs.EntryForms.{here_set, other_set, test_yes, test_no, seek_none}
use Rattle.radix_nodes.proofs.IndexForm.{form_48, index_here, index_other, place_fills, index_adds, child_none}
use Rattle.radix_nodes.proofs.CellWords.{stored_words, children_two, children_three, children_are_bytes}
use Rattle.radix_nodes.proofs.Storing.{lawful_same}

-- entries that are 0 have no byte
seek_skip : (c : CellWords) (first count few byte : ℕ) → few ≤ count → ((i : ℕ) → few ≤ i → i < count → c (first + i) ≡ 0) → seek c first count byte ≡ seek c first few byte
seek_skip c first zero few byte le none = ap (λ n. seek c first n byte) (let is : 0 ≡ few = omega arith in is)
seek_skip c first (suc count) few byte le none = elim (cases_eq few (suc count)) [
  | inl same ↦ ap (λ n. seek c first n byte) (sym same)
  | inr less ↦
      ap (λ b. cond b (entry_reference (c (first + count))) (seek c first count byte)) (test_no (c (first + count)) byte (λ some_word same. some_word (none count (omega (arith, less)) (omega arith))))
      ∙ seek_skip c first count few byte (omega (arith, less)) (λ i low lt. none i low (omega arith))
]

-- the same entries elsewhere
seek_moved : (c g : CellWords) (first first' count byte : ℕ) → ((i : ℕ) → i < count → g (first' + i) ≡ c (first + i)) → seek g first' count byte ≡ seek c first count byte
seek_moved c g first first' zero byte same = refl
seek_moved c g first first' (suc count) byte same =
    ap₂ (λ w r. cond (not (w == 0) && entry_byte w == byte) (entry_reference w) r) (same count (omega arith)) (seek_moved c g first first' count byte (λ i lt. same i (omega arith)))

-- Form 16.

pub record SixteenSo (c g : CellWords) (done : ℕ) : Type 0 where
  pub head : (o : ℕ) → o < 4 → g o ≡ c o
  pub spare : HasSpare g
  pub moved : (i : ℕ) → i < done → g (8 + i) ≡ c (4 + i)
  pub rest : (o : ℕ) → 8 + done ≤ o → g o ≡ 0

pub sixteen_start : (c g : CellWords) → ((o : ℕ) → o < 4 → g o ≡ c o) → ((o : ℕ) → 4 ≤ o → g o ≡ 0) → SixteenSo c g 0
sixteen_start c g head behind = record {
  head = head;
  spare = λ o low high. behind o low;
  moved = λ i lt. absurd (omega arith);
  rest = λ o le. behind o (omega arith);
}

pub sixteen_step : (c g : CellWords) (done : ℕ) → SixteenSo c g done → SixteenSo c (with_word g (8 + done) (c (4 + done))) (done + 1)
sixteen_step c g done so =
    let word = c (4 + done) in
    let apart : (o : ℕ) → o ≢ 8 + done → with_word g (8 + done) word o ≡ g o = λ o e. other_set g (8 + done) word o e in
    record {
      head = λ o lt. apart o (λ e. omega arith) ∙ so.head o lt;
      spare = λ o low high. apart o (λ e. omega arith) ∙ so.spare o low high;
      moved = λ i lt. elim (cases_eq i done) [
        | inl here ↦ ap (λ n. with_word g (8 + done) word (8 + n)) here ∙ here_set g (8 + done) word ∙ ap (λ n. c (4 + n)) (sym here)
        | inr before ↦ apart (8 + i) (λ e. before (omega arith)) ∙ so.moved i (omega (arith, before))
      ];
      rest = λ o le. apart o (λ e. omega arith) ∙ so.rest o (omega arith);
    }

form_16 : (c : CellWords) → HasSpare c → AreEntries c 8 16 → IsForm 3 c
form_16 c spare are = record { spare = λ other. spare; four = λ k. absurd (wrong2 3 refl k); sixteen = λ k. are; forty_eight = λ k. absurd (wrong4 3 refl k) }
  where
    wrong2 : (n : ℕ) → n ≡ 3 → n ≡ 2 → ⊥
    wrong2 n a b = omega arith

    wrong4 : (n : ℕ) → n ≡ 3 → n ≡ 4 → ⊥
    wrong4 n a b = omega arith

sixteen_entries : (c g : CellWords) → SixteenSo c g 4 → AreEntries c 4 4 → AreEntries g 8 16
sixteen_entries c g so are =
    let some : (i : ℕ) → i < 16 → g (8 + i) ≢ 0 → i < 4 = λ i lt some_word.
    elim (cases_lt i 4) [ inl small ↦ small | inr past ↦ absurd (some_word (so.rest (8 + i) (omega arith))) ] in
    record {
      byte = λ i lt some_word. let small = some i lt some_word in let is = so.moved i small in subst (λ w. entry_byte w < 256) (sym is) (are.byte i small (λ e. some_word (is ∙ e)));
      reference = λ i lt some_word. let small = some i lt some_word in let is = so.moved i small in subst (λ w. entry_reference w ≢ 0) (sym is) (are.reference i small (λ e. some_word (is ∙ e)));
      apart = λ i j lt lt' some_i some_j same.
          let small = some i lt some_i in
          let small' = some j lt' some_j in
          let is = so.moved i small in
          let is' = so.moved j small' in
          are.apart i j small small' (λ e. some_i (is ∙ e)) (λ e. some_j (is' ∙ e)) (ap entry_byte (sym is) ∙ same ∙ ap entry_byte is');
    }

-- a grown cell, by its words
grown_is : (cell grown : Cell) → IsCell cell → grown.kind ≡ cell.kind + 1 → cell.kind ≤ 4 → ((o : ℕ) → o < 4 → words_of grown o ≡ words_of cell o) → ((b : ℕ) → children_of grown b ≡ children_of cell b)
    → IsForm grown.kind (words_of grown) → ((o : ℕ) → kind_words grown.kind ≤ o → words_of grown o ≡ 0) → IsGrown cell grown
grown_is cell grown is kind small head same form behind =
    let low = is.kind.0 in
    record {
      kind = kind;
      sound = record {
        kind = (omega arith, omega arith);
        behind = behind;
        lawful = lawful_same cell.kind grown.kind (words_of cell) (words_of grown) is.lawful head form same;
      };
      head = head;
      same = same;
    }

pub sixteen_end : (cell grown : Cell) → cell.kind ≡ 2 → grown.kind ≡ 3 → SixteenSo (words_of cell) (words_of grown) 4 → IsCell cell → IsGrown cell grown
sixteen_end cell grown two three so is =
    let c = words_of cell in
    let g = words_of grown in
    let form : IsForm grown.kind g = subst (λ k. IsForm k g) (sym three) (form_16 g so.spare (sixteen_entries c g so (is.lawful.form.four two))) in
    let same : (b : ℕ) → children grown.kind g b ≡ children cell.kind c b = λ b.
    children_three grown.kind g b three ∙ seek_skip g 8 16 4 b (omega arith) (λ i low lt. so.rest (8 + i) (omega arith)) ∙ seek_moved c g 4 8 4 b so.moved ∙ sym (children_two cell.kind c b two) in
    let behind : (o : ℕ) → kind_words grown.kind ≤ o → g o ≡ 0 = λ o le. let past : 24 ≤ o = subst (λ k. kind_words k ≤ o) three le in so.rest o (omega arith) in
    grown_is cell grown is (three ∙ (let e : 3 ≡ cell.kind + 1 = omega arith in e)) (omega arith) so.head same form behind

-- Form 48.

pub record FortyEightSo (c g : CellWords) (done : ℕ) : Type 0 where
  pub form : IsForm 4 g
  pub head : (o : ℕ) → o < 4 → g o ≡ c o
  pub same : (b : ℕ) → b < 256 → children 4 g b ≡ seek c 8 done b
  pub places : (b : ℕ) → b < 256 → index_of g b ≤ done
  pub behind : (o : ℕ) → 88 ≤ o → g o ≡ 0

index_zero : (g : CellWords) (b : ℕ) → b < 256 → ((o : ℕ) → 4 ≤ o → g o ≡ 0) → index_of g b ≡ 0
index_zero g b lt behind = ap (λ w. w / 256 ^ (b % 8) % 256) (behind (8 + b / 8) (omega arith)) ∙ ap (λ n. n % 256) (zero_over (256 ^ (b % 8)) (power_pos (b % 8)))

pub forty_eight_start : (c g : CellWords) → ((o : ℕ) → o < 4 → g o ≡ c o) → ((o : ℕ) → 4 ≤ o → g o ≡ 0) → FortyEightSo c g 0
forty_eight_start c g head behind =
    let none : (b : ℕ) → b < 256 → index_of g b ≡ 0 = λ b lt. index_zero g b lt behind in
    record {
      form = form_48 g (λ o low high. behind o low) (record {
        places = λ b lt. let e = none b lt in omega arith;
        references = λ b lt some_index. absurd (some_index (none b lt));
        apart = λ a b lt lt' some_index same. absurd (some_index (none a lt));
      });
      head = head;
      same = λ b lt. child_none g b lt (none b lt);
      places = λ b lt. let e = none b lt in omega arith;
      behind = λ o le. behind o (omega arith);
    }

-- an entry that is 0 adds nothing
pub forty_eight_pass : (c g : CellWords) (done : ℕ) → c (8 + done) ≡ 0 → FortyEightSo c g done → FortyEightSo c g (done + 1)
forty_eight_pass c g done none so =
    let next : suc done ≡ done + 1 = omega arith in
    record {
      form = so.form;
      head = so.head;
      same = λ b lt.
          so.same b lt ∙ sym (ap (λ t. cond t (entry_reference (c (8 + done))) (seek c 8 done b)) (test_no (c (8 + done)) b (λ some_word same. some_word none)))
          ∙ ap (λ n. seek c 8 n b) next;
      places = λ b lt. let le = so.places b lt in omega arith;
      behind = so.behind;
    }

-- the words once an entry's reference has come into the place of its number
abbrev pub with_reference : CellWords → ℕ → ℕ → CellWords
with_reference g place reference = with_word g (40 + place) reference

abbrev pub with_place : CellWords → ℕ → ℕ → ℕ → CellWords
with_place g place byte reference =
    with_word (with_reference g place reference) (8 + byte / 8) (byte_set (with_reference g place reference (8 + byte / 8)) (byte % 8) (place + 1))

pub forty_eight_step : (c g : CellWords) (done : ℕ) → done < 16 → AreEntries c 8 16 → c (8 + done) ≢ 0 → FortyEightSo c g done → FortyEightSo c (with_place g done (entry_byte (c (8 + done))) (entry_reference (c (8 + done)))) (done + 1)
forty_eight_step c g done lt are some_word so =
    let word = c (8 + done) in
    let byte = entry_byte word in
    let reference = entry_reference word in
    let small : byte < 256 = are.byte done lt some_word in
    let some_reference : reference ≢ 0 = are.reference done lt some_word in
    let place_in : done < 48 = omega arith in
    let d = with_reference g done reference in
    let e = with_place g done byte reference in
    let quiet : IsQuietStore 4 g d = place_fills g done reference so.form place_in (λ b lt' is. let le = so.places b lt' in omega arith) in
    let here : d (40 + done) ≡ reference = here_set g (40 + done) reference in
    let index_same : (b : ℕ) → b < 256 → index_of d b ≡ index_of g b = λ b lt'. ap (λ w. w / 256 ^ (b % 8) % 256) (other_set g (40 + done) reference (8 + b / 8) (λ e. omega arith)) in
    let absent : seek c 8 done byte ≡ 0 = seek_none c 8 done byte (λ i less fits. let is = are.apart i done (omega arith) lt fits.0 some_word fits.1 in omega arith) in
    let makes : IsCellStore 4 d e byte (d (40 + done)) =
    index_adds d byte done quiet.form small place_in (λ b lt' is. let le = so.places b lt' in let e = index_same b lt' in omega arith) (λ e. some_reference (sym here ∙ e)) (quiet.same byte ∙ so.same byte small ∙ absent) in
    let next : suc done ≡ done + 1 = omega arith in
    let fits : done + 1 < 256 = omega arith in
    record {
      form = makes.form;
      head = λ o low. makes.head o low ∙ quiet.head o low ∙ so.head o low;
      same = λ b lt'. elim (cases_eq b byte) [
        | inl is ↦
            ap (children 4 e) is ∙ makes.here ∙ here
            ∙ sym (ap (λ t. cond t reference (seek c 8 done b)) (test_yes word b some_word (sym is)))
            ∙ ap (λ n. seek c 8 n b) next
        | inr apart ↦
            makes.others b apart ∙ quiet.same b ∙ so.same b lt'
            ∙ sym (ap (λ t. cond t reference (seek c 8 done b)) (test_no word b (λ some is. apart (sym is))))
            ∙ ap (λ n. seek c 8 n b) next
      ];
      places = λ b lt'. elim (cases_eq b byte) [
        | inl is ↦ let at : index_of e b ≡ done + 1 = ap (index_of e) is ∙ index_here d byte (done + 1) small fits in omega arith
        | inr apart ↦
            let at : index_of e b ≡ index_of d b = index_other d byte (done + 1) small fits b apart in
            let before = index_same b lt' in
            let le = so.places b lt' in
            omega arith
      ];
      behind = λ o le.
          other_set d (8 + byte / 8) (byte_set (d (8 + byte / 8)) (byte % 8) (done + 1)) o (λ e. omega arith)
          ∙ other_set g (40 + done) reference o (λ e. omega arith) ∙ so.behind o le;
    }

pub forty_eight_end : (cell grown : Cell) → cell.kind ≡ 3 → grown.kind ≡ 4 → FortyEightSo (words_of cell) (words_of grown) 16 → IsCell cell → IsGrown cell grown
forty_eight_end cell grown three four so is =
    let c = words_of cell in
    let g = words_of grown in
    let form : IsForm grown.kind g = subst (λ k. IsForm k g) (sym four) so.form in
    let same : (b : ℕ) → children grown.kind g b ≡ children cell.kind c b = λ b. elim (cases_lt b 256) [
      | inl small ↦ ap (λ k. children k g b) four ∙ so.same b small ∙ sym (children_three cell.kind c b three)
      | inr past ↦ children_are_bytes grown.kind g b form past ∙ sym (children_are_bytes cell.kind c b is.lawful.form past)
    ] in
    let behind : (o : ℕ) → kind_words grown.kind ≤ o → g o ≡ 0 = λ o le. so.behind o (subst (λ k. kind_words k ≤ o) four le) in
    grown_is cell grown is (four ∙ (let e : 4 ≡ cell.kind + 1 = omega arith in e)) (omega arith) so.head same form behind

-- The words of a cell in which two are stored, as a list.
pub placed_words : (cell : Cell) (place byte reference : ℕ) → length cell.words ≡ 264 → place < 48 → byte < 256 → words_of (placed cell place byte reference) ≡ with_place (words_of cell) place byte reference
placed_words cell place byte reference whole lt small =
    let once = stored cell (place_store_of place reference) in
    let first : words_of once ≡ with_reference (words_of cell) place reference = stored_words cell (place_store_of place reference) (omega arith) in
    let long : length once.words ≡ 264 = length-set cell.words (40 + place) reference ∙ whole in
    stored_words once (index_store_of once byte (place + 1)) (omega arith)
    ∙ ap (λ (w : CellWords). with_word w (8 + byte / 8) (byte_set (w (8 + byte / 8)) (byte % 8) (place + 1))) first

-- A turn of the loop that takes in the entries.
pub forty_eight_turn : (cell grown : Cell) (done : ℕ) → done < 16 → length grown.words ≡ 264 → cell.kind ≡ 3 → IsCell cell → FortyEightSo (words_of cell) (words_of grown) done
    → FortyEightSo (words_of cell) (words_of (taken_in grown done (words_of cell (8 + done)))) (done + 1)
forty_eight_turn cell grown done lt whole three is so =
    let c = words_of cell in
    let entry = c (8 + done) in
    let are : AreEntries c 8 16 = is.lawful.form.sixteen three in
    elim (cases_eq entry 0) [
      | inl none ↦
          subst (λ b. FortyEightSo c (words_of (cond b grown (placed grown done (entry / 2 ^ 32 % 256) (entry % 2 ^ 32)))) (done + 1)) (sym (eq-eqb entry 0 none))
          (forty_eight_pass c (words_of grown) done none so)
      | inr some_entry ↦
          let small : entry_byte entry < 256 = are.byte done lt some_entry in
          let same : entry / 2 ^ 32 % 256 ≡ entry_byte entry = omega arith in
          subst (λ b. FortyEightSo c (words_of (cond b grown (placed grown done (entry / 2 ^ 32 % 256) (entry % 2 ^ 32)))) (done + 1)) (sym (ne_eqb entry 0 some_entry))
          (subst (λ b. FortyEightSo c (words_of (placed grown done b (entry % 2 ^ 32))) (done + 1)) (sym same)
          (subst (λ (g : CellWords). FortyEightSo c g (done + 1)) (sym (placed_words grown done (entry_byte entry) (entry_reference entry) whole (omega arith) small))
          (forty_eight_step c (words_of grown) done lt are some_entry so)))
    ]

-- it stays a cell of form 48
pub taken_keeps : (grown : Cell) (place entry : ℕ) → length grown.words ≡ 264 → (length (taken_in grown place entry).words ≡ 264) × ((taken_in grown place entry).kind ≡ grown.kind)
taken_keeps grown place entry whole = elim (entry == 0) as (λ b. (length (cond b grown (placed grown place (entry / 2 ^ 32 % 256) (entry % 2 ^ 32))).words ≡ 264) × ((cond b grown (placed grown place (entry / 2 ^ 32 % 256) (entry % 2 ^ 32))).kind ≡ grown.kind)) [
  | true ↦ (whole, refl)
  | false ↦
      let byte = entry / 2 ^ 32 % 256 in
      let once = stored grown (place_store_of place (entry % 2 ^ 32)) in
      let store = index_store_of once byte (place + 1) in
      (length-set once.words store.offset store.value ∙ length-set grown.words (40 + place) (entry % 2 ^ 32) ∙ whole, refl)
]

-- Form 256.

pub record DirectSo (cell : Cell) (g : CellWords) (done : ℕ) : Type 0 where
  pub head : (o : ℕ) → o < 4 → g o ≡ words_of cell o
  pub spare : HasSpare g
  pub moved : (b : ℕ) → b < done → g (8 + b) ≡ children_of cell b
  pub rest : (o : ℕ) → 8 + done ≤ o → g o ≡ 0

pub direct_start : (cell : Cell) (g : CellWords) → ((o : ℕ) → o < 4 → g o ≡ words_of cell o) → ((o : ℕ) → 4 ≤ o → g o ≡ 0) → DirectSo cell g 0
direct_start cell g head behind = record {
  head = head;
  spare = λ o low high. behind o low;
  moved = λ i lt. absurd (omega arith);
  rest = λ o le. behind o (omega arith);
}

pub direct_step : (cell : Cell) (g : CellWords) (done word : ℕ) → word ≡ children_of cell done → DirectSo cell g done → DirectSo cell (with_word g (8 + done) word) (done + 1)
direct_step cell g done word is so =
    let apart : (o : ℕ) → o ≢ 8 + done → with_word g (8 + done) word o ≡ g o = λ o e. other_set g (8 + done) word o e in
    record {
      head = λ o lt. apart o (λ e. omega arith) ∙ so.head o lt;
      spare = λ o low high. apart o (λ e. omega arith) ∙ so.spare o low high;
      moved = λ b lt. elim (cases_eq b done) [
        | inl here ↦ ap (λ n. with_word g (8 + done) word (8 + n)) here ∙ here_set g (8 + done) word ∙ is ∙ ap (children_of cell) (sym here)
        | inr before ↦ apart (8 + b) (λ e. before (omega arith)) ∙ so.moved b (omega (arith, before))
      ];
      rest = λ o le. apart o (λ e. omega arith) ∙ so.rest o (omega arith);
    }

form_256 : (c : CellWords) → HasSpare c → IsForm 5 c
form_256 c spare = record { spare = λ other. spare; four = λ k. absurd (wrong2 5 refl k); sixteen = λ k. absurd (wrong3 5 refl k); forty_eight = λ k. absurd (wrong4 5 refl k) }
  where
    wrong2 : (n : ℕ) → n ≡ 5 → n ≡ 2 → ⊥
    wrong2 n a b = omega arith

    wrong3 : (n : ℕ) → n ≡ 5 → n ≡ 3 → ⊥
    wrong3 n a b = omega arith

    wrong4 : (n : ℕ) → n ≡ 5 → n ≡ 4 → ⊥
    wrong4 n a b = omega arith

pub direct_end : (cell grown : Cell) → cell.kind ≡ 4 → grown.kind ≡ 5 → DirectSo cell (words_of grown) 256 → IsCell cell → IsGrown cell grown
direct_end cell grown four five so is =
    let c = words_of cell in
    let g = words_of grown in
    let form : IsForm grown.kind g = subst (λ k. IsForm k g) (sym five) (form_256 g so.spare) in
    let same : (b : ℕ) → children grown.kind g b ≡ children cell.kind c b = λ b. elim (cases_lt b 256) [
      | inl small ↦ ap (λ k. children k g b) five ∙ ap (λ t. cond t (g (8 + b)) 0) (lt-ltb b 256 small) ∙ so.moved b small
      | inr past ↦ children_are_bytes grown.kind g b form past ∙ sym (children_are_bytes cell.kind c b is.lawful.form past)
    ] in
    let behind : (o : ℕ) → kind_words grown.kind ≤ o → g o ≡ 0 = λ o le. let past : 264 ≤ o = subst (λ k. kind_words k ≤ o) five le in so.rest o (omega arith) in
    grown_is cell grown is (five ∙ (let e : 5 ≡ cell.kind + 1 = omega arith in e)) (omega arith) so.head same form behind

-- The steps on the list of words.
pub sixteen_turn : (cell grown : Cell) (done : ℕ) → done < 4 → length grown.words ≡ 264 → SixteenSo (words_of cell) (words_of grown) done → SixteenSo (words_of cell) (words_of (stored grown (record { offset = 8 + done; value = words_of cell (4 + done) }))) (done + 1)
sixteen_turn cell grown done lt whole so =
    let store : CellStore = record { offset = 8 + done; value = words_of cell (4 + done) } in
    subst (λ (g : CellWords). SixteenSo (words_of cell) g (done + 1)) (sym (stored_words grown store (omega arith))) (sixteen_step (words_of cell) (words_of grown) done so)

pub direct_turn : (cell grown : Cell) (done word : ℕ) → done < 256 → length grown.words ≡ 264 → word ≡ children_of cell done → DirectSo cell (words_of grown) done → DirectSo cell (words_of (stored grown (record { offset = 8 + done; value = word }))) (done + 1)
direct_turn cell grown done word lt whole is so =
    let store : CellStore = record { offset = 8 + done; value = word } in
    subst (λ (g : CellWords). DirectSo cell g (done + 1)) (sym (stored_words grown store (omega arith))) (direct_step cell (words_of grown) done word is so)
