-- Forms 4 and 16.
use Rattle.std.proofs.Common.{◌≡◌, ◌≢◌, ℕ, zero, suc, ◌+◌, ◌*◌, ◌/◌, ◌%◌, ◌^◌, ◌<◌, ◌≤◌, ◌==◌, ◌&&◌, ◌⊎◌, not, true, false, cond, inl, inr, refl, sym, subst, subst₂, ap, ap₂, ◌∙◌, arith}
use Rattle.std.proofs.lemmas.Bool.{cases_eq, eq-eqb, ne_eqb}
use Rattle.radix_nodes.specs.Cells.{CellWords, entry_byte, entry_reference, entry_of, seek, AreEntries, children, IsForm}
use Rattle.radix_nodes.specs.Changes.{with_word, IsCellStore}
use Rattle.radix_nodes.specs.Stores.{IsEntryForm, EntryAdds, EntryMoves, EntryGoes}

abbrev pub fits_entry : ℕ → ℕ → Type 0
fits_entry word byte = (word ≢ 0) × (entry_byte word ≡ byte)

pub test_yes : (word byte : ℕ) → word ≢ 0 → entry_byte word ≡ byte → (not (word == 0) && entry_byte word == byte) ≡ true
test_yes word byte some_word same = ap₂ (λ a b. not a && b) (ne_eqb word 0 some_word) (eq-eqb (entry_byte word) byte same)

pub test_no : (word byte : ℕ) → (word ≢ 0 → entry_byte word ≡ byte → ⊥) → (not (word == 0) && entry_byte word == byte) ≡ false
test_no word byte apart = elim (cases_eq word 0) [
  | inl none ↦ ap (λ a. not a && entry_byte word == byte) (eq-eqb word 0 none)
  | inr some_word ↦ ap₂ (λ a b. not a && b) (ne_eqb word 0 some_word) (ne_eqb (entry_byte word) byte (apart some_word))
]

-- the last entry with the byte is found
pub seek_last : (c : CellWords) (first count byte i : ℕ) → i < count → fits_entry (c (first + i)) byte → ((j : ℕ) → j < count → i < j → fits_entry (c (first + j)) byte → ⊥) → seek c first count byte ≡ entry_reference (c (first + i))
seek_last c first zero byte i lt fits none = absurd (omega arith)
seek_last c first (suc count) byte i lt fits none = elim (cases_eq i count) [
  | inl same ↦
      ap (λ b. cond b (entry_reference (c (first + count))) (seek c first count byte)) (subst (λ k. (not (c (first + k) == 0) && entry_byte (c (first + k)) == byte) ≡ true) same (test_yes (c (first + i)) byte fits.0 fits.1))
      ∙ ap (λ k. entry_reference (c (first + k))) (sym same)
  | inr apart ↦
      ap (λ b. cond b (entry_reference (c (first + count))) (seek c first count byte)) (test_no (c (first + count)) byte (λ some_word same. none count (omega arith) (omega (arith, apart)) (some_word, same)))
      ∙ seek_last c first count byte i (omega (arith, apart)) fits (λ j less. none j (omega arith))
]

-- and where one alone has it, that one
pub seek_here : (c : CellWords) (first count byte i : ℕ) → i < count → fits_entry (c (first + i)) byte → ((j : ℕ) → j < count → fits_entry (c (first + j)) byte → j ≡ i) → seek c first count byte ≡ entry_reference (c (first + i))
seek_here c first count byte i lt fits only = seek_last c first count byte i lt fits (λ j less behind has. let same = only j less has in absurd (omega (arith, behind, same)))

pub seek_none : (c : CellWords) (first count byte : ℕ) → ((i : ℕ) → i < count → fits_entry (c (first + i)) byte → ⊥) → seek c first count byte ≡ 0
seek_none c first zero byte none = refl
seek_none c first (suc count) byte none =
    ap (λ b. cond b (entry_reference (c (first + count))) (seek c first count byte)) (test_no (c (first + count)) byte (λ some_word same. none count (omega arith) (some_word, same)))
    ∙ seek_none c first count byte (λ i lt. none i (omega arith))

-- entries are the same, or neither has the byte
pub seek_same : (c c' : CellWords) (first count byte : ℕ) → ((i : ℕ) → i < count → (c' (first + i) ≡ c (first + i)) ⊎ ((fits_entry (c (first + i)) byte → ⊥) × (fits_entry (c' (first + i)) byte → ⊥))) → seek c' first count byte ≡ seek c first count byte
seek_same c c' first zero byte alike = refl
seek_same c c' first (suc count) byte alike =
    let rest = seek_same c c' first count byte (λ i lt. alike i (omega arith)) in
    elim (alike count (omega arith)) [
      | inl same ↦ ap₂ (λ w r. cond (not (w == 0) && entry_byte w == byte) (entry_reference w) r) same rest
      | inr neither ↦
          ap (λ b. cond b (entry_reference (c' (first + count))) (seek c' first count byte)) (test_no (c' (first + count)) byte (λ some_word same. neither.1 (some_word, same)))
          ∙ rest
          ∙ sym (ap (λ b. cond b (entry_reference (c (first + count))) (seek c first count byte)) (test_no (c (first + count)) byte (λ some_word same. neither.0 (some_word, same))))
    ]

-- what an entry says
pub entry_says : (byte reference : ℕ) → reference < 2 ^ 32 → (entry_byte (entry_of byte reference) ≡ byte) × (entry_reference (entry_of byte reference) ≡ reference)
entry_says byte reference lt = (let a : (byte * 2 ^ 32 + reference) / 2 ^ 32 ≡ byte = omega arith in a, let b : (byte * 2 ^ 32 + reference) % 2 ^ 32 ≡ reference = omega arith in b)

pub entry_some : (byte reference : ℕ) → reference ≢ 0 → entry_of byte reference ≢ 0
entry_some byte reference some_reference e = let none : byte * 2 ^ 32 + reference ≡ 0 = e in omega (arith, some_reference)

pub here_set : (c : CellWords) (offset word : ℕ) → with_word c offset word offset ≡ word
here_set c offset word = ap (λ b. cond b word (c offset)) (eq-eqb offset offset refl)

pub other_set : (c : CellWords) (offset word o : ℕ) → o ≢ offset → with_word c offset word o ≡ c o
other_set c offset word o apart = ap (λ b. cond b word (c o)) (ne_eqb o offset apart)

-- one entry is another, whose byte no other entry has
module _ (c : CellWords) (first count i word : ℕ) (lt : i < count) (are : AreEntries c first count) where
  abbrev c' : CellWords
  c' = with_word c (first + i) word

  entry_other : (j : ℕ) → j ≢ i → c' (first + j) ≡ c (first + j)
  entry_other j apart = other_set c (first + i) word (first + j) (λ e. apart (omega arith))

  entry_here : c' (first + i) ≡ word
  entry_here = here_set c (first + i) word

  stored_entries : (word ≢ 0 → entry_byte word < 256) → (word ≢ 0 → entry_reference word ≢ 0) → (word ≢ 0 → (j : ℕ) → j < count → j ≢ i → fits_entry (c (first + j)) (entry_byte word) → ⊥) → AreEntries c' first count
  stored_entries small some_reference alone = record {
    byte = λ j less some_word. elim (cases_eq j i) [
      | inl same ↦ let is : c' (first + j) ≡ word = ap (λ k. c' (first + k)) same ∙ entry_here in subst (λ w. entry_byte w < 256) (sym is) (small (λ e. some_word (is ∙ e)))
      | inr apart ↦ let is = entry_other j apart in subst (λ w. entry_byte w < 256) (sym is) (are.byte j less (λ e. some_word (is ∙ e)))
    ];
    reference = λ j less some_word. elim (cases_eq j i) [
      | inl same ↦ let is : c' (first + j) ≡ word = ap (λ k. c' (first + k)) same ∙ entry_here in subst (λ w. entry_reference w ≢ 0) (sym is) (some_reference (λ e. some_word (is ∙ e)))
      | inr apart ↦ let is = entry_other j apart in subst (λ w. entry_reference w ≢ 0) (sym is) (are.reference j less (λ e. some_word (is ∙ e)))
    ];
    apart = λ j k less less' some_j some_k same. elim (cases_eq j i) [
      | inl j_is ↦ elim (cases_eq k i) [
        | inl k_is ↦ j_is ∙ sym k_is
        | inr k_other ↦
            let at_j : c' (first + j) ≡ word = ap (λ k. c' (first + k)) j_is ∙ entry_here in
            let at_k = entry_other k k_other in
            absurd (alone (λ e. some_j (at_j ∙ e)) k less' k_other ((λ e. some_k (at_k ∙ e)), ap entry_byte (sym at_k) ∙ sym same ∙ ap entry_byte at_j))
      ]
      | inr j_other ↦ elim (cases_eq k i) [
        | inl k_is ↦
            let at_k : c' (first + k) ≡ word = ap (λ k. c' (first + k)) k_is ∙ entry_here in
            let at_j = entry_other j j_other in
            absurd (alone (λ e. some_k (at_k ∙ e)) j less j_other ((λ e. some_j (at_j ∙ e)), ap entry_byte (sym at_j) ∙ same ∙ ap entry_byte at_k))
        | inr k_other ↦
            let at_j = entry_other j j_other in
            let at_k = entry_other k k_other in
            are.apart j k less less' (λ e. some_j (at_j ∙ e)) (λ e. some_k (at_k ∙ e)) (ap entry_byte (sym at_j) ∙ same ∙ ap entry_byte at_k)
      ]
    ];
  }

  -- other bytes keep their entries
  other_bytes : (b : ℕ) → (fits_entry (c (first + i)) b → ⊥) → (fits_entry word b → ⊥) → seek c' first count b ≡ seek c first count b
  other_bytes b not_old not_new = seek_same c c' first count b (λ j less. elim (cases_eq j i) [
    | inl same ↦ inr (subst (λ k. fits_entry (c (first + k)) b → ⊥) (sym same) not_old, subst (λ w. fits_entry w b → ⊥) (sym (ap (λ k. c' (first + k)) same ∙ entry_here)) not_new)
    | inr apart ↦ inl (entry_other j apart)
  ])

-- what a kind of the two seeks
pub entry_child : (kind first count : ℕ) → IsEntryForm kind first count → (c : CellWords) (b : ℕ) → children kind c b ≡ seek c first count b
entry_child kind first count is c b = elim is.is [
  | inl four ↦ subst₂ (λ f n. children kind c b ≡ seek c f n b) (sym four.1) (sym four.2) (subst (λ k. children k c b ≡ seek c 4 4 b) (sym four.0) refl)
  | inr sixteen ↦ subst₂ (λ f n. children kind c b ≡ seek c f n b) (sym sixteen.1) (sym sixteen.2) (subst (λ k. children k c b ≡ seek c 8 16 b) (sym sixteen.0) refl)
]

pub entries_of : (kind first count : ℕ) → IsEntryForm kind first count → (c : CellWords) → IsForm kind c → AreEntries c first count
entries_of kind first count is c form = elim is.is [
  | inl four ↦ subst₂ (λ f n. AreEntries c f n) (sym four.1) (sym four.2) (form.four four.0)
  | inr sixteen ↦ subst₂ (λ f n. AreEntries c f n) (sym sixteen.1) (sym sixteen.2) (form.sixteen sixteen.0)
]

form_of : (kind first count : ℕ) → IsEntryForm kind first count → (c c' : CellWords) → IsForm kind c → ((o : ℕ) → o < first → c' o ≡ c o) → AreEntries c' first count → IsForm kind c'
form_of kind first count is c c' form same are = elim is.is [
  | inl four ↦
      let kind_is : kind ≡ 2 = four.0 in
      record {
        spare = λ other. absurd (other kind_is);
        four = λ k. subst₂ (λ f n. AreEntries c' f n) four.1 four.2 are;
        sixteen = λ k. absurd (omega arith);
        forty_eight = λ k. absurd (omega arith);
      }
  | inr sixteen ↦
      let kind_is : kind ≡ 3 = sixteen.0 in
      let first_is : first ≡ 8 = sixteen.1 in
      record {
        spare = λ other o low high. same o (omega arith) ∙ form.spare other o low high;
        four = λ k. absurd (omega arith);
        sixteen = λ k. subst₂ (λ f n. AreEntries c' f n) sixteen.1 sixteen.2 are;
        forty_eight = λ k. absurd (omega arith);
      }
]

first_from : (kind first count : ℕ) → IsEntryForm kind first count → 4 ≤ first
first_from kind first count is = elim is.is [ inl four ↦ let f : first ≡ 4 = four.1 in omega arith | inr sixteen ↦ let f : first ≡ 8 = sixteen.1 in omega arith ]

-- a store into an entry
entry_store : (kind first count : ℕ) (c : CellWords) (i word byte reference : ℕ) → IsEntryForm kind first count → IsForm kind c → i < count → (word ≢ 0 → entry_byte word < 256) → (word ≢ 0 → entry_reference word ≢ 0)
    → (word ≢ 0 → (j : ℕ) → j < count → j ≢ i → fits_entry (c (first + j)) (entry_byte word) → ⊥) → seek (with_word c (first + i) word) first count byte ≡ reference
    → ((b : ℕ) → b ≢ byte → (fits_entry (c (first + i)) b → ⊥) × (fits_entry word b → ⊥)) → IsCellStore kind c (with_word c (first + i) word) byte reference
entry_store kind first count c i word byte reference is form lt small some_reference alone at_byte beside =
    let are = entries_of kind first count is c form in
    let from = first_from kind first count is in
    let c' = with_word c (first + i) word in
    record {
      form = form_of kind first count is c c' form (λ o less. other_set c (first + i) word o (λ e. omega arith)) (stored_entries c first count i word lt are small some_reference alone);
      head = λ o less. other_set c (first + i) word o (λ e. omega arith);
      here = entry_child kind first count is c' byte ∙ at_byte;
      others = λ b apart. entry_child kind first count is c' b ∙ other_bytes c first count i word lt are b (beside b apart).0 (beside b apart).1 ∙ sym (entry_child kind first count is c b);
    }

pub entry_adds : EntryAdds
entry_adds kind first count c i byte reference is form lt free small some_reference fits none =
    let word = entry_of byte reference in
    let says = entry_says byte reference fits in
    let some_word = entry_some byte reference some_reference in
    let are = entries_of kind first count is c form in
    -- no entry has the byte
    let absent : (j : ℕ) → j < count → fits_entry (c (first + j)) byte → ⊥ = λ j less has.
    are.reference j less has.0 (sym (seek_here c first count byte j less has (λ k less' has'. are.apart k j less' less has'.0 has.0 (has'.1 ∙ sym has.1))) ∙ sym (entry_child kind first count is c byte) ∙ none) in
    let c' = with_word c (first + i) word in
    let here : c' (first + i) ≡ word = here_set c (first + i) word in
    entry_store kind first count c i word byte reference is form lt (λ some. subst (λ b. b < 256) (sym says.0) small) (λ some. λ e. some_reference (sym says.1 ∙ e))
    (λ some j less apart has. absent j less (has.0, has.1 ∙ says.0))
    (seek_here c' first count byte i lt ((λ e. some_word (sym here ∙ e)), ap entry_byte here ∙ says.0)
    (λ j less has. elim (cases_eq j i) [
      | inl same ↦ same
      | inr apart ↦ let other : c' (first + j) ≡ c (first + j) = other_set c (first + i) word (first + j) (λ e. apart (omega arith)) in absurd (absent j less ((λ e. has.0 (other ∙ e)), ap entry_byte (sym other) ∙ has.1))
    ])
    ∙ ap entry_reference here ∙ says.1)
    (λ b apart. ((λ has. has.0 free), (λ has. apart (sym has.1 ∙ says.0))))

pub entry_moves : EntryMoves
entry_moves kind first count c i reference is form lt used some_reference fits =
    let byte = entry_byte (c (first + i)) in
    let word = entry_of byte reference in
    let says = entry_says byte reference fits in
    let some_word = entry_some byte reference some_reference in
    let are = entries_of kind first count is c form in
    let alone : (j : ℕ) → j < count → fits_entry (c (first + j)) byte → j ≡ i = λ j less has. are.apart j i less lt has.0 used has.1 in
    let c' = with_word c (first + i) word in
    let here : c' (first + i) ≡ word = here_set c (first + i) word in
    entry_store kind first count c i word byte reference is form lt (λ some. subst (λ b. b < 256) (sym says.0) (are.byte i lt used)) (λ some. λ e. some_reference (sym says.1 ∙ e))
    (λ some j less apart has. apart (alone j less (has.0, has.1 ∙ says.0)))
    (seek_here c' first count byte i lt ((λ e. some_word (sym here ∙ e)), ap entry_byte here ∙ says.0)
    (λ j less has. elim (cases_eq j i) [
      | inl same ↦ same
      | inr apart ↦ let other : c' (first + j) ≡ c (first + j) = other_set c (first + i) word (first + j) (λ e. apart (omega arith)) in alone j less ((λ e. has.0 (other ∙ e)), ap entry_byte (sym other) ∙ has.1)
    ])
    ∙ ap entry_reference here ∙ says.1)
    (λ b apart. ((λ has. apart (sym has.1)), (λ has. apart (sym has.1 ∙ says.0))))

pub entry_goes : EntryGoes
entry_goes kind first count c i is form lt used =
    let byte = entry_byte (c (first + i)) in
    let are = entries_of kind first count is c form in
    let c' = with_word c (first + i) 0 in
    let here : c' (first + i) ≡ 0 = here_set c (first + i) 0 in
    entry_store kind first count c i 0 byte 0 is form lt (λ some. absurd (some refl)) (λ some. absurd (some refl)) (λ some. absurd (some refl))
    (seek_none c' first count byte (λ j less has. elim (cases_eq j i) [
      | inl same ↦ has.0 (ap (λ k. c' (first + k)) same ∙ here)
      | inr apart ↦
          let other : c' (first + j) ≡ c (first + j) = other_set c (first + i) 0 (first + j) (λ e. apart (omega arith)) in
          apart (are.apart j i less lt (λ e. has.0 (other ∙ e)) used (ap entry_byte (sym other) ∙ has.1))
    ]))
    (λ b apart. ((λ has. apart (sym has.1)), (λ has. has.0 refl)))
