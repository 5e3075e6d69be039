-- In a cell that is in order a scan finds the child, and the one below.
use Rattle.std.proofs.Common.{◌≡◌, ◌≢◌, ℕ, zero, suc, ◌+◌, ◌-◌, ◌*◌, ◌/◌, ◌%◌, ◌^◌, ◌<◌, ◌≤◌, ◌==◌, ◌&&◌, ◌||◌, ◌⊎◌, not, true, false, cond, ltb, inl, inr, refl, sym, subst, ap, ◌∙◌, arith, le-ltb, lt-ltb}
use Rattle.std.specs.Prelude.{IsSomeAnd}
use Rattle.std.proofs.lemmas.Bool.{cases_eq, cases_lt, eqb-true, eqb-false, eq-eqb, ne_eqb, ltb-true, ltb-false}
use Rattle.radix_nodes.specs.Bytes.{byte_in}
use Rattle.radix_nodes.specs.Cells.{CellWords, entry_byte, entry_reference, seek, children, IsForm, index_of}
use Rattle.radix_nodes.specs.Stores.{IsEntryForm}
use Rattle.radix_nodes.proofs.EntryForms.{entry_child, entries_of, seek_here, seek_none}
use Rattle.radix_nodes.proofs.IndexForm.{child_at, child_none, indexed_of}
use Rattle.tree_floor.specs.declared.scan.Scan.{Scan}
use Rattle.tree_floor.specs.declared.scan.Scan.TheVariants as scan
use Rattle.tree_floor.specs.declared.scan.Scanned.{Scanned}
use Rattle.tree_floor.specs.declared.scan.Scanned.TheVariants.{More, Found}
use Rattle.tree_floor.specs.Scans.{scan_starts, scan_offset, scan_told, IsScan, scan_left, has_places, index_place, entry_count, first_entry, child_entry, better_entry, top_byte}
use Rattle.tree_floor.specs.ScanLaws.{ScanAfter, ScansAreExact, word_below, found_or, scan_finds}
use Rattle.tree_floor.proofs.ScanLaw.{scans_end, scans_start}

-- the reference below a byte
pub below_some : (kind : ℕ) (c : CellWords) (byte b : ℕ) → b < byte → children kind c b ≢ 0 → ((d : ℕ) → b < d → d < byte → children kind c d ≡ 0) → word_below kind c byte ≡ children kind c b
below_some kind c zero b lt some_child above = absurd (omega arith)
below_some kind c (suc byte) b lt some_child above = elim (cases_eq b byte) [
  | inl same ↦ ap (λ a. cond a (word_below kind c byte) (children kind c byte)) (ne_eqb (children kind c byte) 0 (λ e. some_child (ap (children kind c) same ∙ e))) ∙ ap (children kind c) (sym same)
  | inr apart ↦ ap (λ a. cond a (word_below kind c byte) (children kind c byte)) (eq-eqb (children kind c byte) 0 (above byte (omega (arith, apart)) (omega arith)))
      ∙ below_some kind c byte b (omega (arith, apart)) some_child (λ d more less. above d more (omega arith))
]

pub below_none : (kind : ℕ) (c : CellWords) (byte : ℕ) → ((d : ℕ) → d < byte → children kind c d ≡ 0) → word_below kind c byte ≡ 0
below_none kind c zero none = refl
below_none kind c (suc byte) none = ap (λ a. cond a (word_below kind c byte) (children kind c byte)) (eq-eqb (children kind c byte) 0 (none byte (omega arith))) ∙ below_none kind c byte (λ d lt. none d (omega arith))

-- a byte of the index
pub index_in : (c : CellWords) (b word : ℕ) → b / 8 ≡ word → byte_in (c (8 + word)) (b % 8) ≡ index_of c b
index_in c b word is = ap (λ w. byte_in (c (8 + w)) (b % 8)) (sym is)

-- the last byte that isn't 0
record IsTop (word limit top : ℕ) : Type 0 where
  pub at : ℕ
  pub below : at < limit
  pub is : byte_in word at ≡ top
  pub some_byte : top ≢ 0
  pub above : (k : ℕ) → at < k → k < limit → byte_in word k ≡ 0

top_cases : (word limit : ℕ) → IsTop word limit (top_byte word limit) ⊎ ((top_byte word limit ≡ 0) × ((k : ℕ) → k < limit → byte_in word k ≡ 0))
top_cases word zero = inr (refl, λ k lt. absurd (omega arith))
top_cases word (suc limit) = elim (cases_eq (byte_in word limit) 0) [
  | inl none ↦
      let skip : top_byte word (suc limit) ≡ top_byte word limit = ap (λ a. cond a (top_byte word limit) (byte_in word limit)) (eq-eqb (byte_in word limit) 0 none) in
      elim (top_cases word limit) [
        | inl t ↦ inl (subst (IsTop word (suc limit)) (sym skip) (record {
          at = t.at;
          below = (let lt : t.at < limit = t.below in omega arith);
          is = t.is;
          some_byte = t.some_byte;
          above = λ k more less. elim (cases_eq k limit) [ inl same ↦ ap (byte_in word) same ∙ none | inr apart ↦ t.above k more (omega (arith, apart)) ];
        }))
        | inr nothing ↦ inr (skip ∙ nothing.0, λ k lt. elim (cases_eq k limit) [ inl same ↦ ap (byte_in word) same ∙ none | inr apart ↦ nothing.1 k (omega (arith, apart)) ])
      ]
  | inr some_byte ↦
      let here : top_byte word (suc limit) ≡ byte_in word limit = ap (λ a. cond a (top_byte word limit) (byte_in word limit)) (ne_eqb (byte_in word limit) 0 some_byte) in
      inl (subst (IsTop word (suc limit)) (sym here) (record { at = limit; below = omega arith; is = refl; some_byte = some_byte; above = λ k more less. absurd (omega arith) }))
]

-- What a scan knows of the cell.

-- the best entry below of the first so many
pub record IsBetter (c : CellWords) (first count byte word : ℕ) : Type 0 where
  pub entry : ℕ
  pub within : entry < count
  pub is : c (first + entry) ≡ word
  pub some_word : word ≢ 0
  pub lower : entry_byte word < byte
  pub most : (j : ℕ) → j < count → c (first + j) ≢ 0 → entry_byte (c (first + j)) < byte → entry_byte (c (first + j)) ≤ entry_byte word

abbrev pub BestOf : CellWords → ℕ → ℕ → ℕ → ℕ → Type 0
BestOf c first count byte word = IsBetter c first count byte word ⊎ ((word ≡ 0) × ((j : ℕ) → j < count → c (first + j) ≢ 0 → entry_byte (c (first + j)) < byte → ⊥))

-- the place of the one below
pub record IsBelow (c : CellWords) (byte place : ℕ) : Type 0 where
  pub at : ℕ
  pub lower : at < byte
  pub is : index_of c at ≡ place
  pub some_place : place ≢ 0
  pub above : (d : ℕ) → at < d → d < byte → index_of c d ≡ 0

abbrev pub BelowOf : CellWords → ℕ → ℕ → Type 0
BelowOf c byte place = IsBelow c byte place ⊎ ((place ≡ 0) × ((d : ℕ) → d < byte → index_of c d ≡ 0))

abbrev pub Knows : ℕ → ℕ → CellWords → Scan → Type 0
Knows kind byte c (scan.Entry entry child below) =
    ((kind ≡ 2) ⊎ (kind ≡ 3)) × (entry < entry_count kind) × (child ≡ seek c (first_entry kind) entry byte) × BestOf c (first_entry kind) entry byte below
Knows kind byte c (scan.Index word place) =
    (kind ≡ 4) × (word < 32) × (word ≤ byte / 8) × ((d : ℕ) → d < byte → word < d / 8 → index_of c d ≡ 0) × (word < byte / 8 → byte < 256 → place ≡ index_of c byte) × (256 ≤ byte → place ≡ 0)
Knows kind byte c (scan.Child place below) = (kind ≡ 4) × (byte < 256) × (place ≢ 0) × (place ≡ index_of c byte) × BelowOf c byte below
Knows kind byte c (scan.Below child place) = (kind ≡ 4) × (child ≡ children 4 c byte) × IsBelow c byte place
Knows kind byte c scan.Direct = (kind ≡ 5) × (byte < 256)
Knows kind byte c (scan.Down next child) = (kind ≡ 5) × (1 ≤ next) × (next ≤ byte) × (child ≡ children 5 c byte) × ((d : ℕ) → next ≤ d → d < byte → c (8 + d) ≡ 0)

abbrev pub After : ℕ → ℕ → CellWords → Scanned → Type 0
After kind byte c (More scan) = Knows kind byte c scan
After kind byte c (Found child below) = (child ≡ children kind c byte) × (below ≡ word_below kind c byte)

-- Entries.

pub entry_form : (kind : ℕ) → (kind ≡ 2) ⊎ (kind ≡ 3) → IsEntryForm kind (first_entry kind) (entry_count kind)
entry_form kind is = elim is [
  | inl two ↦ subst (λ k. IsEntryForm k (first_entry k) (entry_count k)) (sym two) (record { is = inl (refl, refl, refl) })
  | inr three ↦ subst (λ k. IsEntryForm k (first_entry k) (entry_count k)) (sym three) (record { is = inr (refl, refl, refl) })
]

better_next : (c : CellWords) (first entry byte below : ℕ) → BestOf c first entry byte below → BestOf c first (suc entry) byte (better_entry byte below (c (first + entry)))
better_next c first entry byte below best =
    let got = c (first + entry) in
    -- an entry that is passed by
    let keeps : (got ≢ 0 → entry_byte got < byte → (below ≢ 0) × (entry_byte got ≤ entry_byte below)) → BestOf c first (suc entry) byte below = λ worse. elim best [
      | inl b ↦ inl (record {
        entry = b.entry;
        within = (let lt : b.entry < entry = b.within in omega arith);
        is = b.is;
        some_word = b.some_word;
        lower = b.lower;
        most = λ j lt used low. elim (cases_eq j entry) [
          | inl same ↦ subst (λ k. entry_byte (c (first + k)) ≤ entry_byte below) (sym same) (worse (λ e. used (ap (λ k. c (first + k)) same ∙ e)) (subst (λ k. entry_byte (c (first + k)) < byte) same low)).1
          | inr apart ↦ b.most j (omega (arith, apart)) used low
        ];
      })
      | inr none ↦ inr (
        none.0,
        λ j lt used low. elim (cases_eq j entry) [
          | inl same ↦ (worse (λ e. used (ap (λ k. c (first + k)) same ∙ e)) (subst (λ k. entry_byte (c (first + k)) < byte) same low)).0 none.0
          | inr apart ↦ none.1 j (omega (arith, apart)) used low
        ],
      )
    ] in
    -- and one that is better
    let takes : got ≢ 0 → entry_byte got < byte → (below ≢ 0 → entry_byte below < entry_byte got) → BestOf c first (suc entry) byte got = λ some_got low better. inl (record {
      entry = entry;
      within = omega arith;
      is = refl;
      some_word = some_got;
      lower = low;
      most = λ j lt used lower. elim (cases_eq j entry) [
        | inl same ↦ subst (λ k. entry_byte (c (first + k)) ≤ entry_byte got) (sym same) (let le : entry_byte got ≤ entry_byte got = omega arith in le)
        | inr apart ↦ elim best [
          | inl b ↦ let less = better b.some_word in let most = b.most j (omega (arith, apart)) used lower in omega arith
          | inr none ↦ absurd (none.1 j (omega (arith, apart)) used lower)
        ]
      ];
    }) in
    elim (got == 0) as (λ a. (got == 0) ≡ a → BestOf c first (suc entry) byte (cond ((not a && ltb (got / 2 ^ 32) byte) && (below == 0 || ltb (below / 2 ^ 32) (got / 2 ^ 32))) got below)) [
      | true ↦ λ e. keeps (λ some_got. absurd (some_got (eqb-true _ _ e)))
      | false ↦ λ e. elim (ltb (got / 2 ^ 32) byte) as (λ a. ltb (got / 2 ^ 32) byte ≡ a → BestOf c first (suc entry) byte (cond (a && (below == 0 || ltb (below / 2 ^ 32) (got / 2 ^ 32))) got below)) [
        | false ↦ λ f. let high = ltb-false _ _ f in keeps (λ some_got low. absurd (omega arith))
        | true ↦ λ f. let low = ltb-true _ _ f in elim (below == 0) as (λ a. (below == 0) ≡ a → BestOf c first (suc entry) byte (cond (a || ltb (below / 2 ^ 32) (got / 2 ^ 32)) got below)) [
          | true ↦ λ g. takes (eqb-false _ _ e) low (λ some_below. absurd (some_below (eqb-true _ _ g)))
          | false ↦ λ g. elim (ltb (below / 2 ^ 32) (got / 2 ^ 32)) as (λ a. ltb (below / 2 ^ 32) (got / 2 ^ 32) ≡ a → BestOf c first (suc entry) byte (cond a got below)) [
            | true ↦ λ h. takes (eqb-false _ _ e) low (λ some_below. ltb-true _ _ h)
            | false ↦ λ h. let le = ltb-false _ _ h in keeps (λ some_got low'. (eqb-false _ _ g, (let at_most : entry_byte got ≤ entry_byte below = omega arith in at_most)))
          ] refl
        ] refl
      ] refl
    ] refl

-- the best of all entries is the child below
best_below : (kind : ℕ) (c : CellWords) (byte below : ℕ) → (kind ≡ 2) ⊎ (kind ≡ 3) → IsForm kind c → BestOf c (first_entry kind) (entry_count kind) byte below → entry_reference below ≡ word_below kind c byte
best_below kind c byte below is form best =
    let first = first_entry kind in
    let count = entry_count kind in
    let entry_kind = entry_form kind is in
    let are = entries_of kind first count entry_kind c form in
    let child : (b : ℕ) → children kind c b ≡ seek c first count b = entry_child kind first count entry_kind c in
    elim best [
      | inr none ↦ ap entry_reference none.0 ∙ sym (below_none kind c byte (λ d lt. child d ∙ seek_none c first count d (λ i less has. none.1 i less has.0 (subst (λ b. b < byte) (sym has.1) lt))))
      | inl b ↦
          let at = entry_byte below in
          let here : children kind c at ≡ entry_reference below = child at ∙ seek_here c first count at b.entry b.within ((λ e. b.some_word (sym b.is ∙ e)), ap entry_byte b.is)
          (λ j less has. are.apart j b.entry less b.within has.0 (λ e. b.some_word (sym b.is ∙ e)) (has.1 ∙ sym (ap entry_byte b.is))) ∙ ap entry_reference b.is in
          let some_reference : entry_reference below ≢ 0 = subst (λ w. entry_reference w ≢ 0) b.is (are.reference b.entry b.within (λ e. b.some_word (sym b.is ∙ e))) in
          sym (below_some kind c byte at b.lower (λ e. some_reference (sym here ∙ e))
          (λ d more less. child d ∙ seek_none c first count d (λ i lt has. let low : entry_byte (c (first + i)) < byte = subst (λ k. k < byte) (sym has.1) less in let most = b.most i lt has.0 low in let same : entry_byte (c (first + i)) ≡ d = has.1 in omega arith))
          ∙ here)
    ]

entry_told : (kind byte : ℕ) (c : CellWords) (entry child below : ℕ) → IsForm kind c → Knows kind byte c (scan.Entry entry child below) → After kind byte c (scan_told kind byte (scan.Entry entry child below) (c (first_entry kind + entry)))
entry_told kind byte c entry child below form knows =
    let first = first_entry kind in
    let got = c (first + entry) in
    let child' : child_entry byte child got ≡ seek c first (suc entry) byte = ap (λ r. cond (not (got == 0) && entry_byte got == byte) (entry_reference got) r) knows.2 in
    let best' = better_next c first entry byte below knows.3 in
    elim (ltb (entry + 1) (entry_count kind)) as (λ a. ltb (entry + 1) (entry_count kind) ≡ a
    → After kind byte c (cond a (More (scan.Entry (entry + 1) (child_entry byte child got) (better_entry byte below got))) (Found (child_entry byte child got) (better_entry byte below got % 2 ^ 32)))) [
      | true ↦ λ e. let next : suc entry ≡ entry + 1 = omega arith in
          (knows.0, ltb-true _ _ e, child' ∙ ap (λ n. seek c first n byte) next, subst (λ n. BestOf c first n byte (better_entry byte below got)) next best')
      | false ↦ λ e.
          let past = ltb-false _ _ e in
          let lt : entry < entry_count kind = knows.1 in
          let all : suc entry ≡ entry_count kind = omega arith in (
            child' ∙ ap (λ n. seek c first n byte) all ∙ sym (entry_child kind first (entry_count kind) (entry_form kind knows.0) c byte),
            best_below kind c byte (better_entry byte below got) knows.0 form (subst (λ n. BestOf c first n byte (better_entry byte below got)) all best'),
          )
    ] refl

-- The index.

pub child_of_index : (c : CellWords) (b : ℕ) → IsForm 4 c → b < 256 → index_of c b ≢ 0 → (children 4 c b ≡ c (39 + index_of c b)) × (children 4 c b ≢ 0)
child_of_index c b form small some_index =
    let is = child_at c b (index_of c b) small refl some_index in
    (is, λ e. (indexed_of c form).references b small some_index (sym is ∙ e))

below_child : (c : CellWords) (byte place : ℕ) → IsForm 4 c → byte ≤ 256 → IsBelow c byte place → c (39 + place) ≡ word_below 4 c byte
below_child c byte place form small b =
    let lower : b.at < byte = b.lower in
    let some_index : index_of c b.at ≢ 0 = λ e. b.some_place (sym b.is ∙ e) in
    let child = child_of_index c b.at form (omega arith) some_index in
    sym (below_some 4 c byte b.at lower child.1 (λ d more less. child_none c d (omega arith) (b.above d more less)) ∙ child.0 ∙ ap (λ n. c (39 + n)) b.is)

no_below : (c : CellWords) (byte : ℕ) → byte ≤ 256 → ((d : ℕ) → d < byte → index_of c d ≡ 0) → 0 ≡ word_below 4 c byte
no_below c byte small none = sym (below_none 4 c byte (λ d lt. child_none c d (omega arith) (none d lt)))

-- past all bytes there is no child
past_child : (kind byte : ℕ) (c : CellWords) → kind ≡ 4 → 256 ≤ byte → children kind c byte ≡ 0
past_child kind byte c is past = subst (λ k. children k c byte ≡ 0) (sym is) (ap (λ t. cond t (cond (index_of c byte == 0) 0 (c (39 + index_of c byte))) 0) (le-ltb byte 256 past))

places_told : (byte : ℕ) (c : CellWords) (place below : ℕ) → IsForm 4 c → byte ≤ 256 → (byte < 256 → place ≡ index_of c byte) → (256 ≤ byte → place ≡ 0) → BelowOf c byte below → After 4 byte c (has_places place below)
places_told byte c place below form small here past below_is =
    let place_most : place ≤ 48 = elim (cases_lt byte 256) [
      | inl lt ↦ subst (λ n. n ≤ 48) (sym (here lt)) ((indexed_of c form).places byte lt)
      | inr le ↦ let none : place ≡ 0 = past le in omega arith
    ] in
    let below_most : below ≤ 48 = elim below_is [
      | inl b ↦ let lower : b.at < byte = b.lower in subst (λ n. n ≤ 48) b.is ((indexed_of c form).places b.at (omega arith))
      | inr none ↦ let is : below ≡ 0 = none.0 in omega arith
    ] in
    subst (λ a. After 4 byte c (cond (a || ltb 48 below) (Found 1 1) (cond (not (place == 0)) (More (scan.Child place below)) (cond (not (below == 0)) (More (scan.Below 0 below)) (Found 0 0))))) (sym (le-ltb 48 place place_most))
    (subst (λ a. After 4 byte c (cond a (Found 1 1) (cond (not (place == 0)) (More (scan.Child place below)) (cond (not (below == 0)) (More (scan.Below 0 below)) (Found 0 0))))) (sym (le-ltb 48 below below_most))
    (elim (place == 0) as (λ a. (place == 0) ≡ a → After 4 byte c (cond (not a) (More (scan.Child place below)) (cond (not (below == 0)) (More (scan.Below 0 below)) (Found 0 0)))) [
      | false ↦ λ e.
          let some_place = eqb-false _ _ e in
          let lt : byte < 256 = elim (cases_lt byte 256) [ inl lt ↦ lt | inr le ↦ absurd (some_place (past le)) ] in
          (refl, lt, some_place, here lt, below_is)
      | true ↦ λ e.
          let no_place = eqb-true _ _ e in
          let no_child : 0 ≡ children 4 c byte = elim (cases_lt byte 256) [ inl lt ↦ sym (child_none c byte lt (sym (here lt) ∙ no_place)) | inr le ↦ sym (past_child 4 byte c refl le) ] in
          elim (below == 0) as (λ a. (below == 0) ≡ a → After 4 byte c (cond (not a) (More (scan.Below 0 below)) (Found 0 0))) [
            | false ↦ λ f. elim below_is [ inl b ↦ (refl, no_child, b) | inr none ↦ absurd (eqb-false _ _ f none.0) ]
            | true ↦ λ f. elim below_is [ inl b ↦ absurd (b.some_place (eqb-true _ _ f)) | inr none ↦ (no_child, no_below c byte small none.1) ]
          ] refl
    ] refl))

index_told : (byte : ℕ) (c : CellWords) (word place : ℕ) → IsForm 4 c → byte ≤ 256 → Knows 4 byte c (scan.Index word place) → After 4 byte c (scan_told 4 byte (scan.Index word place) (c (8 + word)))
index_told byte c word place form small knows =
    let got = c (8 + word) in
    let at_most : word ≤ byte / 8 = knows.2 in
    let low_word : word < 32 = knows.1 in
    let place' = index_place byte word place got in
    let here : byte < 256 → place' ≡ index_of c byte = λ lt. elim (cases_eq (byte / 8) word) [
      | inl same ↦ ap (λ a. cond a (byte_in got (byte % 8)) place) (eq-eqb (byte / 8) word same) ∙ index_in c byte word same
      | inr apart ↦ ap (λ a. cond a (byte_in got (byte % 8)) place) (ne_eqb (byte / 8) word apart) ∙ knows.4 (omega (arith, apart)) lt
    ] in
    let past : 256 ≤ byte → place' ≡ 0 = λ le. ap (λ a. cond a (byte_in got (byte % 8)) place) (ne_eqb (byte / 8) word (λ e. omega arith)) ∙ knows.5 le in
    let limit = cond (byte / 8 == word) (byte % 8) 8 in
    -- bytes of this word below the byte
    let limit_same : byte / 8 ≡ word → limit ≡ byte % 8 = λ same. ap (λ a. cond a (byte % 8) 8) (eq-eqb (byte / 8) word same) in
    let limit_other : byte / 8 ≢ word → limit ≡ 8 = λ apart. ap (λ a. cond a (byte % 8) 8) (ne_eqb (byte / 8) word apart) in
    let in_limit : (d : ℕ) → d < byte → d / 8 ≡ word → d % 8 < limit = λ d lt in_word. elim (cases_eq (byte / 8) word) [
      | inl same ↦ let l : limit ≡ byte % 8 = limit_same same in omega arith
      | inr apart ↦ let l : limit ≡ 8 = limit_other apart in omega arith
    ] in
    let below_byte : (k : ℕ) → k < limit → (8 * word + k < byte) × ((8 * word + k) / 8 ≡ word) × ((8 * word + k) % 8 ≡ k) = λ k lt. elim (cases_eq (byte / 8) word) [
      | inl same ↦ let l : limit ≡ byte % 8 = limit_same same in ((let a : 8 * word + k < byte = omega arith in a), (let b : (8 * word + k) / 8 ≡ word = omega arith in b), (let m : (8 * word + k) % 8 ≡ k = omega arith in m))
      | inr apart ↦ let l : limit ≡ 8 = limit_other apart in ((let a : 8 * word + k < byte = omega (arith, apart) in a), (let b : (8 * word + k) / 8 ≡ word = omega arith in b), (let m : (8 * word + k) % 8 ≡ k = omega arith in m))
    ] in
    let word_above : (d : ℕ) → d < byte → word < d / 8 → index_of c d ≡ 0 = knows.3 in
    elim (top_cases got limit) [
      | inl t ↦
          let b = 8 * word + t.at in
          let at = below_byte t.at t.below in
          let is : index_of c b ≡ top_byte got limit = sym (index_in c b word at.1) ∙ ap (byte_in got) at.2 ∙ t.is in
          let below_is : IsBelow c byte (top_byte got limit) = record {
            at = b;
            lower = at.0;
            is = is;
            some_place = t.some_byte;
            above = λ d more less. elim (cases_eq (d / 8) word) [
              | inl same ↦ sym (index_in c d word same) ∙ t.above (d % 8) (let m : (8 * word + t.at) % 8 ≡ t.at = at.2 in omega arith) (in_limit d less same)
              | inr apart ↦ word_above d less (omega (arith, apart))
            ];
          } in
          subst (λ a. After 4 byte c (cond (a && ltb 0 word) (More (scan.Index (word - 1) place')) (has_places place' (top_byte got limit)))) (sym (ne_eqb (top_byte got limit) 0 t.some_byte)) (places_told byte c place' (top_byte got limit) form small here past (inl below_is))
      | inr none ↦
          let none_here : (d : ℕ) → d < byte → d / 8 ≡ word → index_of c d ≡ 0 = λ d lt same. sym (index_in c d word same) ∙ none.1 (d % 8) (in_limit d lt same) in
          subst (λ a. After 4 byte c (cond (a && ltb 0 word) (More (scan.Index (word - 1) place')) (has_places place' (top_byte got limit)))) (sym (eq-eqb (top_byte got limit) 0 none.0))
          (elim (ltb 0 word) as (λ a. ltb 0 word ≡ a → After 4 byte c (cond a (More (scan.Index (word - 1) place')) (has_places place' (top_byte got limit)))) [
            | true ↦ λ e.
                let some_word = ltb-true _ _ e in (
                  refl,
                  (let lt : word - 1 < 32 = omega arith in lt),
                  (let le : word - 1 ≤ byte / 8 = omega arith in le),
                  (λ d lt higher. elim (cases_eq (d / 8) word) [ inl same ↦ none_here d lt same | inr apart ↦ word_above d lt (omega (arith, apart)) ]),
                  (λ less lt. here lt),
                  past,
                )
            | false ↦ λ e.
                let no_word = ltb-false _ _ e in
                places_told byte c place' (top_byte got limit) form small here past
                (inr (none.0, λ d lt. elim (cases_eq (d / 8) word) [ inl same ↦ none_here d lt same | inr apart ↦ word_above d lt (omega (arith, apart)) ]))
          ] refl)
    ]

-- All.

pub direct_child : (kind byte : ℕ) (c : CellWords) → kind ≡ 5 → byte < 256 → children kind c byte ≡ c (8 + byte)
direct_child kind byte c is lt = subst (λ k. children k c byte ≡ c (8 + byte)) (sym is) (ap (λ t. cond t (c (8 + byte)) 0) (lt-ltb byte 256 lt))

pub told : (kind byte : ℕ) (c : CellWords) (s : Scan) → byte ≤ 256 → IsForm kind c → Knows kind byte c s → After kind byte c (scan_told kind byte s (c (scan_offset kind byte s)))
told kind byte c (scan.Entry entry child below) small form knows = entry_told kind byte c entry child below form knows
told kind byte c (scan.Index word place) small form knows =
    go kind knows.0 form knows
  where
    go : (k : ℕ) → k ≡ 4 → IsForm k c → Knows k byte c (scan.Index word place) → After k byte c (scan_told k byte (scan.Index word place) (c (8 + word)))
    go k is form' knows' = subst (λ n. After n byte c (scan_told n byte (scan.Index word place) (c (8 + word)))) (sym is)
        (index_told byte c word place (subst (λ n. IsForm n c) is form') small (refl, knows'.1, knows'.2, knows'.3, knows'.4, knows'.5))
told kind byte c (scan.Child place below) small form knows =
    let is_four : kind ≡ 4 = knows.0 in
    let form4 : IsForm 4 c = subst (λ n. IsForm n c) is_four form in
    let some_index : index_of c byte ≢ 0 = λ e. knows.2 (knows.3 ∙ e) in
    let child : c (39 + place) ≡ children 4 c byte = ap (λ n. c (39 + n)) knows.3 ∙ sym (child_of_index c byte form4 knows.1 some_index).0 in
    subst (λ n. After n byte c (scan_told n byte (scan.Child place below) (c (39 + place)))) (sym is_four)
    (elim (below == 0) as (λ a. (below == 0) ≡ a → After 4 byte c (cond a (Found (c (39 + place)) 0) (More (scan.Below (c (39 + place)) below)))) [
      | true ↦ λ e. elim knows.4 [ inl b ↦ absurd (b.some_place (eqb-true _ _ e)) | inr none ↦ (child, no_below c byte small none.1) ]
      | false ↦ λ e. elim knows.4 [ inl b ↦ (refl, child, b) | inr none ↦ absurd (eqb-false _ _ e none.0) ]
    ] refl)
told kind byte c (scan.Below child place) small form knows =
    let is_four : kind ≡ 4 = knows.0 in
    let form4 : IsForm 4 c = subst (λ n. IsForm n c) is_four form in
    subst (λ n. (child ≡ children n c byte) × (c (39 + place) ≡ word_below n c byte)) (sym is_four) (knows.1, below_child c byte place form4 small knows.2)
told kind byte c scan.Direct small form knows =
    let is_five : kind ≡ 5 = knows.0 in
    let child : c (8 + byte) ≡ children kind c byte = sym (direct_child kind byte c is_five knows.1) in
    elim (byte == 0) as (λ a. (byte == 0) ≡ a → After kind byte c (cond a (Found (c (8 + byte)) 0) (More (scan.Down byte (c (8 + byte)))))) [
      | true ↦ λ e. (child, sym (ap (word_below kind c) (eqb-true _ _ e)))
      | false ↦ λ e. let some_byte = eqb-false _ _ e in
          (is_five, omega (arith, some_byte), (let le : byte ≤ byte = omega arith in le), subst (λ n. c (8 + byte) ≡ children n c byte) is_five child, (λ d more less. absurd (omega arith)))
    ] refl
told kind byte c (scan.Down next child) small form knows =
    let is_five : kind ≡ 5 = knows.0 in
    let some_next : 1 ≤ next = knows.1 in
    let at_most : next ≤ byte = knows.2 in
    let at : 7 + next ≡ 8 + (next - 1) = omega arith in
    let child_is : child ≡ children kind c byte = knows.3 ∙ sym (ap (λ n. children n c byte) is_five) in
    let here : children kind c (next - 1) ≡ c (7 + next) = direct_child kind (next - 1) c is_five (omega arith) ∙ ap c (sym at) in
    let above : (d : ℕ) → next - 1 < d → d < byte → children kind c d ≡ 0 = λ d more less. direct_child kind d c is_five (omega arith) ∙ knows.4 d (omega arith) less in
    elim (c (7 + next) == 0) as (λ a. (c (7 + next) == 0) ≡ a → After kind byte c (cond (not a) (Found child (c (7 + next))) (cond (next == 1) (Found child 0) (More (scan.Down (next - 1) child))))) [
      | false ↦ λ e. (child_is, sym (below_some kind c byte (next - 1) (omega arith) (λ f. eqb-false _ _ e (sym here ∙ f)) above ∙ here))
      | true ↦ λ e.
          let none = eqb-true _ _ e in
          elim (next == 1) as (λ a. (next == 1) ≡ a → After kind byte c (cond a (Found child 0) (More (scan.Down (next - 1) child)))) [
            | true ↦ λ f. let one : next ≡ 1 = eqb-true _ _ f in
                (child_is, sym (below_none kind c byte (λ d lt. elim (cases_eq d (next - 1)) [ inl same ↦ ap (children kind c) same ∙ here ∙ none | inr apart ↦ above d (omega (arith, apart)) lt ])))
            | false ↦ λ f. let other = eqb-false _ _ f in (
              is_five,
              (let low : 1 ≤ next - 1 = omega (arith, other) in low),
              (let le : next - 1 ≤ byte = omega arith in le),
              knows.3,
              (λ d more less. elim (cases_eq d (next - 1)) [ inl same ↦ ap (λ n. c (8 + n)) same ∙ ap c (sym at) ∙ none | inr apart ↦ knows.4 d (omega (arith, apart)) less ]),
            )
          ] refl
    ] refl

-- it begins, and comes to its end
pub begins : (kind byte : ℕ) (c : CellWords) → 2 ≤ kind → kind ≤ 5 → byte ≤ 256 → Knows kind byte c (scan_starts kind byte)
begins kind byte c least most small = elim (cases_eq kind 2) [
  | inl two ↦ subst (λ k. Knows k byte c (scan_starts k byte)) (sym two) (inl refl, (let lt : 0 < 4 = omega arith in lt), refl, inr (refl, λ j lt. absurd (omega arith)))
  | inr not_two ↦ elim (cases_eq kind 3) [
    | inl three ↦ subst (λ k. Knows k byte c (scan_starts k byte)) (sym three) (inr refl, (let lt : 0 < 16 = omega arith in lt), refl, inr (refl, λ j lt. absurd (omega arith)))
    | inr not_three ↦ elim (cases_eq kind 4) [
      | inl four ↦ subst (λ k. Knows k byte c (scan_starts k byte)) (sym four) (elim (ltb byte 256) as (λ a. ltb byte 256 ≡ a → Knows 4 byte c (scan.Index (cond a (byte / 8) 31) 0)) [
        | true ↦ λ e. let lt = ltb-true _ _ e in
            (refl, (let less : byte / 8 < 32 = omega arith in less), (let le : byte / 8 ≤ byte / 8 = omega arith in le), (λ d below higher. absurd (omega arith)), (λ less. absurd (omega arith)), (λ past. absurd (omega arith)))
        | false ↦ λ e. let past = ltb-false _ _ e in
            (refl, (let less : 31 < 32 = omega arith in less), (let le : 31 ≤ byte / 8 = omega arith in le), (λ d below higher. absurd (omega arith)), (λ less lt. absurd (omega arith)), (λ le. refl))
      ] refl)
      | inr not_four ↦ subst (λ k. Knows k byte c (scan_starts k byte)) (let five : 5 ≡ kind = omega (arith, not_two, not_three, not_four) in five) (elim (ltb byte 256) as (λ a. ltb byte 256 ≡ a → Knows 5 byte c (cond a scan.Direct (scan.Down 256 0))) [
        | true ↦ λ e. (refl, ltb-true _ _ e)
        | false ↦ λ e. let past = ltb-false _ _ e in
            (refl, (let some : 1 ≤ 256 = omega arith in some), (let le : 256 ≤ byte = omega arith in le), sym (ap (λ t. cond t (c (8 + byte)) 0) e), (λ d more less. absurd (omega arith)))
      ] refl)
    ]
  ]
]

module _ (kind byte : ℕ) (c : CellWords) (small : byte ≤ 256) (form : IsForm kind c) where
  abbrev IsRight : ℕ × ℕ → Type 0
  IsRight found = (found.0 ≡ children kind c byte) × (found.1 ≡ word_below kind c byte)

  on : (times left : ℕ) → ((s : Scan) → IsScan kind byte s → Knows kind byte c s → scan_left kind s < left → IsSomeAnd (scan_finds times kind byte c s) IsRight) → (scanned : Scanned) → ScanAfter kind byte left scanned → After kind byte c scanned
      → IsSomeAnd (found_or scanned (scan_finds times kind byte c)) IsRight
  on times left inner (More s) fewer known = inner s fewer.0 known fewer.1
  on times left inner (Found child below) fewer known = known

  finds : (times : ℕ) (s : Scan) → IsScan kind byte s → Knows kind byte c s → scan_left kind s < times → IsSomeAnd (scan_finds times kind byte c s) IsRight
  finds zero s is knows less = absurd (omega arith)
  finds (suc times) s is knows less =
      on times (scan_left kind s) (λ next next_is known fewer. finds times next next_is known (omega arith)) (scan_told kind byte s (c (scan_offset kind byte s)))
      (scans_end kind byte s (c (scan_offset kind byte s)) small is) (told kind byte c s small form knows)

pub scans_are_exact : ScansAreExact
scans_are_exact kind byte c least most small form =
    let start = scans_start kind byte least most small in
    let left : scan_left kind (scan_starts kind byte) ≤ 258 = start.1 in
    finds kind byte c small form 259 (scan_starts kind byte) start.0 (begins kind byte c least most small) (omega arith)
