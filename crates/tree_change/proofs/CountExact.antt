-- A count of other children is exact.
use Rattle.std.proofs.Common.{◌≡◌, ◌≢◌, ℕ, zero, suc, ◌+◌, ◌/◌, ◌%◌, ◌^◌, ◌<◌, ◌≤◌, ◌==◌, ◌&&◌, ◌||◌, ◌⊎◌, not, true, false, cond, ltb, inl, inr, refl, sym, subst, ap, ap₂, ◌∙◌, arith, le-ltb}
use Rattle.std.specs.Prelude.{IsSomeAnd}
use Rattle.std.proofs.lemmas.Bool.{cases_eq, cases_lt, eqb-true, eqb-false, eq-eqb, ne_eqb, ltb-true, ltb-false, and_parts}
use Rattle.pm_words.specs.declared.layout.Layout.{Layout}
use Rattle.pm_words.specs.declared.machine.Turn.{Turn}
use Rattle.pm_words.specs.declared.machine.Turn.TheVariants.{Go, Done}
use Rattle.radix_nodes.specs.Cells.{CellWords, entry_byte, entry_reference, seek, AreEntries, children, IsForm, index_of}
use Rattle.radix_nodes.specs.Changes.{IsOneMore}
use Rattle.radix_nodes.proofs.EntryForms.{seek_here}
use Rattle.radix_nodes.proofs.IndexForm.{child_none, indexed_of}
use Rattle.tree_law.specs.Words.{kind_of, cell_in}
use Rattle.tree_floor.proofs.ScanExact.{child_of_index, direct_child}
use Rattle.tree_change.specs.declared.others.Others.{Others}
use Rattle.tree_change.specs.declared.others.Others.TheVariants as others
use Rattle.tree_change.specs.declared.others.Counted.{Counted}
use Rattle.tree_change.specs.declared.others.Counted.TheVariants.{Two, One, Absent}
use Rattle.tree_change.specs.declared.count.Count.{Count}
use Rattle.tree_change.specs.Others.{slot_count, slot_offset, entry_value, slot_value, slots_end, slot_next, others_starts, others_offset, others_turned, others_left, IsOthers, OthersAfter, IsCounted, others_turn, CountsAreExact}
use Rattle.tree_change.specs.Counts.{count_goes, count_turn, CountIsExact}
use Rattle.tree_floor.specs.Telling.{answer_in}
use Rattle.tree_change.proofs.CountStays.{others_end}
use Rattle.tree_floor.proofs.Telling.{GoesOn, answers_right, answers_as}

-- what slots have of other children
record Slots (count : ℕ) (value child told : ℕ → ℕ) (byte : ℕ) : Type 0 where
  pub byte_of : ℕ → ℕ
  pub not_own : (j : ℕ) → j < count → value j ≢ 0 → byte_of j ≢ byte
  pub is : (j : ℕ) → j < count → value j ≢ 0 → child (byte_of j) ≡ told (value j)
  pub some_child : (j : ℕ) → j < count → value j ≢ 0 → child (byte_of j) ≢ 0
  pub apart : (i j : ℕ) → i < count → j < count → value i ≢ 0 → value j ≢ 0 → byte_of i ≡ byte_of j → i ≡ j
  pub all : (d : ℕ) → d ≢ byte → child d ≢ 0 → (j : ℕ) × (j < count) × (value j ≢ 0) × (byte_of j ≡ d)

-- Entries.
value_some : (byte got : ℕ) → entry_value byte got ≢ 0 → (got ≢ 0) × (entry_byte got ≢ byte)
value_some byte got some_value = (
  λ e. some_value (ap (λ a. cond (a || got / 2 ^ 32 == byte) 0 (got % 2 ^ 32)) (eq-eqb got 0 e)),
  λ e. some_value (elim (got == 0) as (λ a. cond (a || got / 2 ^ 32 == byte) 0 (got % 2 ^ 32) ≡ 0) [ true ↦ refl | false ↦ ap (λ a. cond a 0 (got % 2 ^ 32)) (eq-eqb (got / 2 ^ 32) byte e) ]),
)

value_is : (byte got : ℕ) → got ≢ 0 → entry_byte got ≢ byte → entry_value byte got ≡ entry_reference got
value_is byte got some_got apart = ap₂ (λ a b. cond (a || b) 0 (got % 2 ^ 32)) (ne_eqb got 0 some_got) (ne_eqb (got / 2 ^ 32) byte apart)

seek_found : (c : CellWords) (first count d : ℕ) → seek c first count d ≢ 0 → (j : ℕ) × (j < count) × (c (first + j) ≢ 0) × (entry_byte (c (first + j)) ≡ d)
seek_found c first zero d some_child = absurd (some_child refl)
seek_found c first (suc count) d some_child =
    let got = c (first + count) in
    elim (not (got == 0) && entry_byte got == d) as (λ a. (not (got == 0) && entry_byte got == d) ≡ a → cond a (entry_reference got) (seek c first count d) ≢ 0 → (j : ℕ) × (j < suc count) × (c (first + j) ≢ 0) × (entry_byte (c (first + j)) ≡ d)) [
      | true ↦ λ e some_here.
          let parts = and_parts (not (got == 0)) (entry_byte got == d) e in
          (count, (let lt : count < suc count = omega arith in lt), (λ z. let zero_is : (got == 0) ≡ true = eq-eqb _ _ z in let wrong : not true ≡ true = ap not (sym zero_is) ∙ parts.0 in cc), eqb-true _ _ parts.1)
      | false ↦ λ e some_below. let f = seek_found c first count d some_below in let less : f.0 < count = f.1 in (f.0, (let lt : f.0 < suc count = omega arith in lt), f.2, f.3)
    ] refl some_child

entry_slots : (c : CellWords) (first count byte : ℕ) → AreEntries c first count → Slots count (λ j. entry_value byte (c (first + j))) (seek c first count) (λ v. v) byte
entry_slots c first count byte are = record {
  byte_of = bytes;
  not_own = λ j lt some_value. (value_some byte (c (first + j)) some_value).1;
  is = λ j lt some_value. let s = value_some byte (c (first + j)) some_value in child_is j lt s.0 ∙ sym (value_is byte (c (first + j)) s.0 s.1);
  some_child = λ j lt some_value e. let s = value_some byte (c (first + j)) some_value in are.reference j lt s.0 (sym (child_is j lt s.0) ∙ e);
  apart = λ i j lt lt' some_i some_j same. are.apart i j lt lt' (value_some byte (c (first + i)) some_i).0 (value_some byte (c (first + j)) some_j).0 same;
  all = λ d not_own some_child.
      let f = seek_found c first count d some_child in
      (f.0, f.1, (λ e. are.reference f.0 f.1 f.2 (sym (value_is byte (c (first + f.0)) f.2 (λ own. not_own (sym f.3 ∙ own))) ∙ e)), f.3);
}
  where
    bytes : ℕ → ℕ
    bytes j = entry_byte (c (first + j))

    child_is : (j : ℕ) → j < count → c (first + j) ≢ 0 → seek c first count (entry_byte (c (first + j))) ≡ entry_reference (c (first + j))
    child_is j lt some_word = seek_here c first count (entry_byte (c (first + j))) j lt (some_word, refl) (λ i less fits. are.apart i j less lt fits.0 some_word fits.1)

-- Slots of branch bytes.
abbrev other_value : ℕ → (ℕ → ℕ) → ℕ → ℕ
other_value byte value j = cond (j == byte) 0 (value j)

other_is : (byte : ℕ) (value : ℕ → ℕ) (j : ℕ) → j ≢ byte → other_value byte value j ≡ value j
other_is byte value j apart = ap (λ a. cond a 0 (value j)) (ne_eqb j byte apart)

other_apart : (byte : ℕ) (value : ℕ → ℕ) (j : ℕ) → other_value byte value j ≢ 0 → j ≢ byte
other_apart byte value j some_value e = some_value (ap (λ a. cond a 0 (value j)) (eq-eqb j byte e))

byte_slots : (byte : ℕ) (value child told : ℕ → ℕ) → ((j : ℕ) → j < 256 → value j ≢ 0 → (child j ≡ told (value j)) × (child j ≢ 0)) → ((d : ℕ) → child d ≢ 0 → (d < 256) × (value d ≢ 0)) → Slots 256 (other_value byte value) child told byte
byte_slots byte value child told child_is value_of = record {
  byte_of = λ j. j;
  not_own = λ j lt some_value. other_apart byte value j some_value;
  is = λ j lt some_value. (child_is j lt (own_value j some_value)).0 ∙ ap told (sym (other_is byte value j (other_apart byte value j some_value)));
  some_child = λ j lt some_value. (child_is j lt (own_value j some_value)).1;
  apart = λ i j lt lt' some_i some_j same. same;
  all = λ d not_own some_child. let has = value_of d some_child in (d, has.0, (λ e. has.1 (sym (other_is byte value d not_own) ∙ e)), refl);
}
  where
    own_value : (j : ℕ) → other_value byte value j ≢ 0 → value j ≢ 0
    own_value j some_value z = some_value (other_is byte value j (other_apart byte value j some_value) ∙ z)

within : (d child : ℕ) → cond (ltb d 256) child 0 ≢ 0 → d < 256
within d child some_child = elim (cases_lt d 256) [ inl lt ↦ lt | inr past ↦ absurd (some_child (ap (λ t. cond t child 0) (le-ltb d 256 past))) ]

index_slots : (c : CellWords) (byte : ℕ) → IsForm 4 c → Slots 256 (other_value byte (index_of c)) (children 4 c) (λ v. c (39 + v)) byte
index_slots c byte form = byte_slots byte (index_of c) (children 4 c) (λ v. c (39 + v)) (λ j lt some_index. child_of_index c j form lt some_index)
    (λ d some_child. let lt = within d (cond (index_of c d == 0) 0 (c (39 + index_of c d))) some_child in (lt, λ z. some_child (child_none c d lt z)))

direct_slots : (c : CellWords) (byte : ℕ) → Slots 256 (other_value byte (λ j. c (8 + j))) (children 5 c) (λ v. v) byte
direct_slots c byte = byte_slots byte (λ j. c (8 + j)) (children 5 c) (λ v. v)
    (λ j lt some_word. let is = direct_child 5 j c refl lt in (is, λ e. some_word (sym is ∙ e)))
    (λ d some_child. let lt = within d (c (8 + d)) some_child in (lt, λ z. some_child (direct_child 5 d c refl lt ∙ z)))

-- All.
abbrev value_at : ℕ → CellWords → ℕ → ℕ → ℕ
value_at kind c byte j = slot_value kind byte j (c (slot_offset kind j))

abbrev told_child : ℕ → CellWords → ℕ → ℕ
told_child kind c v = cond (kind == 4) (c (39 + v)) v

abbrev SlotsOf : ℕ → CellWords → ℕ → Type 0
SlotsOf kind c byte = Slots (slot_count kind) (value_at kind c byte) (children kind c) (told_child kind c) byte

slots_of : (kind : ℕ) (c : CellWords) (byte : ℕ) → 2 ≤ kind → kind ≤ 5 → IsForm kind c → SlotsOf kind c byte
slots_of kind c byte least most form = elim (cases_eq kind 2) [
  | inl two ↦ subst (λ k. SlotsOf k c byte) (sym two) (entry_slots c 4 4 byte (form.four two))
  | inr not_two ↦ elim (cases_eq kind 3) [
    | inl three ↦ subst (λ k. SlotsOf k c byte) (sym three) (entry_slots c 8 16 byte (form.sixteen three))
    | inr not_three ↦ elim (cases_eq kind 4) [
      | inl four ↦ subst (λ k. SlotsOf k c byte) (sym four) (index_slots c byte (subst (λ k. IsForm k c) four form))
      | inr not_four ↦ subst (λ k. SlotsOf k c byte) (let five : 5 ≡ kind = omega (arith, not_two, not_three, not_four) in five) (direct_slots c byte)
    ]
  ]
]

place_most : (kind : ℕ) (c : CellWords) (byte j : ℕ) → kind ≡ 4 → IsForm kind c → j < slot_count kind → value_at kind c byte j ≤ 48
place_most kind c byte j is form = subst (λ k. IsForm k c → j < slot_count k → value_at k c byte j ≤ 48) (sym is) at_four form
  where
    at_four : IsForm 4 c → j < 256 → other_value byte (index_of c) j ≤ 48
    at_four f lt = elim (cases_eq j byte) [
      | inl own ↦ subst (λ n. n ≤ 48) (sym (ap (λ a. cond a 0 (index_of c j)) (eq-eqb j byte own))) (omega arith)
      | inr apart ↦ subst (λ n. n ≤ 48) (sym (other_is byte (index_of c) j apart)) ((indexed_of c f).places j lt)
    ]

module _ (kind byte : ℕ) (c : CellWords) (least : 2 ≤ kind) (most : kind ≤ 5) (form : IsForm kind c) where
  slots : SlotsOf kind c byte
  slots = slots_of kind c byte least most form

  abbrev value : ℕ → ℕ
  value j = value_at kind c byte j

  -- the one that it has seen
  record HasSeen (slot one : ℕ) : Type 0 where
    pub at : ℕ
    pub below : at < slot
    pub is : value at ≡ one
    pub some_one : one ≢ 0
    pub only : (j : ℕ) → j < slot → j ≢ at → value j ≡ 0

  abbrev Seen : ℕ → ℕ → Type 0
  Seen slot one = ((one ≡ 0) × ((j : ℕ) → j < slot → value j ≡ 0)) ⊎ HasSeen slot one

  abbrev Knows : Others → Type 0
  Knows (others.Slot slot one) = (slot < slot_count kind) × Seen slot one
  Knows (others.Reference place) = IsOneMore (children kind c) byte (c (39 + place))

  abbrev After : Turn Others Counted → Type 0
  After (Go next) = Knows next
  After (Done counted) = IsCounted kind c byte counted

  is_one : (slot one : ℕ) → slot_count kind ≤ slot → slot ≤ slot_count kind → HasSeen slot one → IsOneMore (children kind c) byte (told_child kind c one)
  is_one slot one past within_count seen =
      let below : seen.at < slot = seen.below in
      let less : seen.at < slot_count kind = omega arith in
      let some_value : value seen.at ≢ 0 = λ e. seen.some_one (sym seen.is ∙ e) in
      let told_is : children kind c (slots.byte_of seen.at) ≡ told_child kind c one = slots.is seen.at less some_value ∙ ap (told_child kind c) seen.is in
      record {
        other = slots.byte_of seen.at;
        apart = slots.not_own seen.at less some_value;
        is = told_is;
        some_child = λ e. slots.some_child seen.at less some_value (told_is ∙ e);
        only = λ d not_own not_other. elim (cases_eq (children kind c d) 0) [
          | inl none ↦ none
          | inr some_child ↦
              let f = slots.all d not_own some_child in
              let f_less : f.0 < slot_count kind = f.1 in
              elim (cases_eq f.0 seen.at) [
                | inl same ↦ absurd (not_other (sym f.3 ∙ ap slots.byte_of same))
                | inr apart ↦ absurd (f.2 (seen.only f.0 (omega arith) apart))
              ]
        ];
      }

  ends_known : (slot one : ℕ) → slot_count kind ≤ slot → slot ≤ slot_count kind → Seen slot one → After (slots_end kind one)
  ends_known slot one past within_count seen = elim (one == 0) as (λ a. (one == 0) ≡ a → After (cond a (Done Absent) (cond (kind == 4) (cond (ltb 48 one) (Done Absent) (Go (others.Reference one))) (Done (One one))))) [
    | true ↦ λ e d not_own. elim (cases_eq (children kind c d) 0) [
      | inl none ↦ none
      | inr some_child ↦
          let f = slots.all d not_own some_child in
          let f_less : f.0 < slot_count kind = f.1 in
          elim seen [ inl none ↦ absurd (f.2 (none.1 f.0 (omega arith))) | inr has ↦ absurd (has.some_one (eqb-true _ _ e)) ]
    ]
    | false ↦ λ e. elim seen [
      | inl none ↦ absurd (eqb-false _ _ e none.0)
      | inr has ↦
          let below : has.at < slot = has.below in
          let here = is_one slot one past within_count has in
          elim (kind == 4) as (λ a. (kind == 4) ≡ a → IsOneMore (children kind c) byte (cond a (c (39 + one)) one) → After (cond a (cond (ltb 48 one) (Done Absent) (Go (others.Reference one))) (Done (One one)))) [
            | false ↦ λ f one_is. one_is
            | true ↦ λ f one_is. elim (ltb 48 one) as (λ a. ltb 48 one ≡ a → After (cond a (Done Absent) (Go (others.Reference one)))) [
              | true ↦ λ g. let more = ltb-true _ _ g in let at_most : value has.at ≤ 48 = place_most kind c byte has.at (eqb-true _ _ f) form (omega arith) in let at_is : value has.at ≡ one = has.is in absurd (omega arith)
              | false ↦ λ g. one_is
            ] refl
          ] refl here
    ]
  ] refl

  next_known : (slot one : ℕ) → slot < slot_count kind → Seen (slot + 1) one → After (slot_next kind slot one)
  next_known slot one less seen = elim (ltb (slot + 1) (slot_count kind)) as (λ a. ltb (slot + 1) (slot_count kind) ≡ a → After (cond a (Go (others.Slot (slot + 1) one)) (slots_end kind one))) [
    | true ↦ λ e. (ltb-true _ _ e, seen)
    | false ↦ λ e. let past = ltb-false _ _ e in ends_known (slot + 1) one past (omega arith) seen
  ] refl

  told : (s : Others) → Knows s → After (others_turned kind byte s (c (others_offset kind s)))
  told (others.Slot slot one) knows =
      let less : slot < slot_count kind = knows.0 in
      elim (value slot == 0) as (λ a. (value slot == 0) ≡ a → After (cond a (slot_next kind slot one) (cond (one == 0) (slot_next kind slot (value slot)) (Done Two)))) [
        | true ↦ λ e.
            let none : value slot ≡ 0 = eqb-true _ _ e in
            next_known slot one less (elim knows.1 [
              | inl before ↦ inl (before.0, λ j lt. elim (cases_eq j slot) [ inl same ↦ ap value same ∙ none | inr apart ↦ before.1 j (omega (arith, apart)) ])
              | inr has ↦ let below : has.at < slot = has.below in
                  inr (record { at = has.at; below = omega arith; is = has.is; some_one = has.some_one; only = λ j lt not_at. elim (cases_eq j slot) [ inl same ↦ ap value same ∙ none | inr apart ↦ has.only j (omega (arith, apart)) not_at ] })
            ])
        | false ↦ λ e.
            let some_here : value slot ≢ 0 = eqb-false _ _ e in
            elim (one == 0) as (λ a. (one == 0) ≡ a → After (cond a (slot_next kind slot (value slot)) (Done Two))) [
              | true ↦ λ f. next_known slot (value slot) less (inr (record {
                at = slot;
                below = omega arith;
                is = refl;
                some_one = some_here;
                only = λ j lt apart. elim knows.1 [ inl before ↦ before.1 j (omega (arith, apart)) | inr has ↦ absurd (has.some_one (eqb-true _ _ f)) ];
              }))
              | false ↦ λ f. elim knows.1 [
                | inl before ↦ absurd (eqb-false _ _ f before.0)
                | inr has ↦
                    let below : has.at < slot = has.below in
                    let at_less : has.at < slot_count kind = omega arith in
                    let some_at : value has.at ≢ 0 = λ z. has.some_one (sym has.is ∙ z) in
                    record {
                      one = slots.byte_of has.at;
                      two = slots.byte_of slot;
                      apart = λ same. let is : has.at ≡ slot = slots.apart has.at slot at_less less some_at some_here same in omega arith;
                      not_one = slots.not_own has.at at_less some_at;
                      not_two = slots.not_own slot less some_here;
                      has_one = slots.some_child has.at at_less some_at;
                      has_two = slots.some_child slot less some_here;
                    }
              ]
            ] refl
      ] refl
  told (others.Reference place) knows = knows

  goes : (bound : ℕ) (turn : Turn Others Counted) → OthersAfter kind bound turn → After turn → GoesOn (others_turn kind byte c) (λ s. IsOthers kind s × Knows s) (others_left kind) (IsCounted kind c byte) bound turn
  goes bound (Go next) fewer known = ((fewer.0, known), fewer.1)
  goes bound (Done counted) fewer known = known

  counts : (times : ℕ) (s : Others) → IsOthers kind s → Knows s → others_left kind s < times → IsSomeAnd (answer_in times (others_turn kind byte c) s) (IsCounted kind c byte)
  counts times s is knows less =
      answers_right (others_turn kind byte c) (λ o. IsOthers kind o × Knows o) (others_left kind) (IsCounted kind c byte)
      (λ o known. goes (others_left kind o) (others_turn kind byte c o) (others_end kind byte o (c (others_offset kind o)) known.0) (told o known.1)) times s (is, knows) less

some_slots : (kind : ℕ) → (0 < slot_count kind) × (slot_count kind ≤ 256)
some_slots kind = elim (kind == 2) as (λ a. (0 < cond (a || kind == 3) (cond a 4 16) 256) × (cond (a || kind == 3) (cond a 4 16) 256 ≤ 256)) [
  | true ↦ ((let a : 0 < 4 = omega arith in a), (let b : 4 ≤ 256 = omega arith in b))
  | false ↦ elim (kind == 3) as (λ a. (0 < cond a 16 256) × (cond a 16 256 ≤ 256)) [
    | true ↦ ((let a : 0 < 16 = omega arith in a), (let b : 16 ≤ 256 = omega arith in b))
    | false ↦ ((let a : 0 < 256 = omega arith in a), (let b : 256 ≤ 256 = omega arith in b))
  ]
]

pub counts_are_exact : CountsAreExact
counts_are_exact kind byte c times enough least most small form =
    let some = some_slots kind in
    let low : 0 < slot_count kind = some.0 in
    let high : slot_count kind ≤ 256 = some.1 in
    counts kind byte c least most form times others_starts low (low, inl (refl, λ j lt. absurd (omega arith))) (omega arith)

-- The machine answers what its scan has counted.
abbrev counting : Layout → ℕ → ℕ → Others → Count
counting l cell byte s = record { layout = l; cell = cell; byte = byte; others = s }

pub count_is_exact : CountIsExact
count_is_exact l cell byte w times enough is small form =
    subst (λ answer. IsSomeAnd answer (IsCounted (kind_of cell) (cell_in w cell) byte))
    (sym (answers_as (count_turn w) (others_turn (kind_of cell) byte (cell_in w cell)) (counting l cell byte) (λ s next is. ap (count_goes (counting l cell byte s)) is) (λ s counted is. ap (count_goes (counting l cell byte s)) is) times others_starts))
    (counts_are_exact (kind_of cell) byte (cell_in w cell) times enough is.low is.high small form)
