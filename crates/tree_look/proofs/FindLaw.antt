-- Looks into cells.
use Rattle.std.proofs.Common.{◌≡◌, ◌≢◌, ℕ, zero, suc, ◌+◌, ◌-◌, ◌*◌, ◌/◌, ◌%◌, ◌^◌, ◌<◌, ◌≤◌, ◌==◌, ◌&&◌, ◌||◌, ◌⊎◌, not, true, false, cond, ltb, inl, inr, refl, sym, subst, ap, ap₂, ◌∙◌, arith, le-ltb}
use Rattle.std.proofs.lemmas.Bool.{cases_eq, eqb-true, eqb-false, eq-eqb, ne_eqb, ltb-true, ltb-false, and_parts}
use Rattle.pm_words.specs.Locations.{kind_words}
use Rattle.radix_nodes.specs.Bytes.{byte_in}
use Rattle.radix_nodes.specs.Cells.{CellWords, children, IsForm, entry_byte, index_of}
use Rattle.radix_nodes.specs.Changes.{with_word, IsCellStore}
use Rattle.radix_nodes.specs.Entries.{FitsEntry}
use Rattle.radix_nodes.proofs.EntryForms.{entry_child, entries_of, seek_here, seek_none, entry_moves, entry_goes}
use Rattle.radix_nodes.proofs.IndexForm.{child_none, indexed_of, index_moves, direct_stores}
use Rattle.tree_floor.specs.Scans.{first_entry, entry_count}
use Rattle.tree_floor.proofs.ScanExact.{entry_form, index_in, child_of_index, direct_child}
use Rattle.tree_look.specs.declared.find.Find.{Find}
use Rattle.tree_look.specs.declared.find.Find.TheVariants as find
use Rattle.tree_look.specs.declared.find.Findings.{Findings}
use Rattle.tree_look.specs.declared.find.Findings.TheVariants.{More, Found, Absent}
use Rattle.tree_look.specs.Finds.{find_starts, find_offset, find_told, has_place, IsFind, find_left}
use Rattle.tree_look.specs.FindLaws.{FindAfter, FindsEnd, IsAt, IsFinding, on_or, finding, FindsAreExact}

-- an entry is a word of its cell
pub entry_words : (kind entry : ℕ) → ((kind ≡ 2) ⊎ (kind ≡ 3)) × (entry < entry_count kind) → first_entry kind + entry < kind_words kind
entry_words kind entry is = elim is.0 [
  | inl two ↦
      let lt : entry < 4 = subst (λ k. entry < entry_count k) two is.1 in
      subst (λ k. first_entry k + entry < kind_words k) (sym two) (let within : 4 + entry < 8 = omega arith in within)
  | inr three ↦
      let lt : entry < 16 = subst (λ k. entry < entry_count k) three is.1 in
      subst (λ k. first_entry k + entry < kind_words k) (sym three) (let within : 8 + entry < 24 = omega arith in within)
]

pub finds_end : FindsEnd
finds_end kind byte (find.Entry entry) got is =
    elim (not (got == 0) && got / 2 ^ 32 == byte) as (λ a. FindAfter kind byte (entry_count kind - entry) (cond a (Found (first_entry kind + entry) (byte * 2 ^ 32) (got % 2 ^ 32)) (cond (ltb (entry + 1) (entry_count kind)) (More (find.Entry (entry + 1))) Absent))) [
      | true ↦ λ small. (entry_words kind entry is, omega arith)
      | false ↦ elim (ltb (entry + 1) (entry_count kind)) as (λ a. ltb (entry + 1) (entry_count kind) ≡ a → FindAfter kind byte (entry_count kind - entry) (cond a (More (find.Entry (entry + 1))) Absent)) [
        | true ↦ λ e. let less = ltb-true _ _ e in ((is.0, less), omega arith)
        | false ↦ λ e. tt
      ] refl
    ]
finds_end kind byte find.Index got is =
    let place = byte_in got (byte % 8) in
    elim (place == 0) as (λ a. (place == 0) ≡ a → FindAfter kind byte 2 (cond (a || ltb 48 place) Absent (More (find.Reference place)))) [
      | true ↦ λ e. tt
      | false ↦ λ e. elim (ltb 48 place) as (λ a. ltb 48 place ≡ a → FindAfter kind byte 2 (cond a Absent (More (find.Reference place)))) [
        | true ↦ λ f. tt
        | false ↦ λ f. let some_place = eqb-false _ _ e in let most = ltb-false _ _ f in ((is, omega (arith, some_place), omega arith), (let less : 1 < 2 = omega arith in less))
      ] refl
    ] refl
finds_end kind byte (find.Reference place) got is = λ small. (
  subst (λ k. 39 + place < kind_words k) (sym is.0) (let le = is.2 in let within : 39 + place < 88 = omega arith in within),
  (let less : 0 < 2 ^ 40 = omega arith in less),
)
finds_end kind byte find.Direct got is = elim (got == 0) as (λ a. FindAfter kind byte 1 (cond a Absent (Found (8 + byte) 0 got))) [
  | true ↦ tt
  | false ↦ λ small. (
    subst (λ k. 8 + byte < kind_words k) (sym is) (let within : 8 + byte < 264 = omega arith in within),
    (let less : 0 < 2 ^ 40 = omega arith in less),
  )
]

-- what it knows
abbrev pub Knows : ℕ → ℕ → CellWords → Find → Type 0
Knows kind byte c (find.Entry entry) = ((kind ≡ 2) ⊎ (kind ≡ 3)) × (entry < entry_count kind) × ((j : ℕ) → j < entry → FitsEntry (c (first_entry kind + j)) byte → ⊥)
Knows kind byte c find.Index = kind ≡ 4
Knows kind byte c (find.Reference place) = (kind ≡ 4) × (place ≢ 0) × (place ≡ index_of c byte)
Knows kind byte c find.Direct = kind ≡ 5

abbrev pub After : ℕ → ℕ → CellWords → Findings → Type 0
After kind byte c (More find) = Knows kind byte c find
After kind byte c (Found offset high reference) = IsAt kind c byte offset high reference
After kind byte c Absent = children kind c byte ≡ 0

no_high : (c : CellWords) (kind byte offset reference : ℕ) → c offset ≡ reference → c offset ≡ 0 + reference
no_high c kind byte offset reference is = is ∙ omega arith

entry_told : (kind byte : ℕ) (c : CellWords) (entry : ℕ) → IsForm kind c → Knows kind byte c (find.Entry entry) → After kind byte c (find_told kind byte (find.Entry entry) (c (first_entry kind + entry)))
entry_told kind byte c entry form knows =
    let first = first_entry kind in
    let count = entry_count kind in
    let kinds = entry_form kind knows.0 in
    let are = entries_of kind first count kinds c form in
    let got = c (first + entry) in
    elim (not (got == 0) && got / 2 ^ 32 == byte) as (λ a. (not (got == 0) && got / 2 ^ 32 == byte) ≡ a → After kind byte c (cond a (Found (first + entry) (byte * 2 ^ 32) (got % 2 ^ 32)) (cond (ltb (entry + 1) count) (More (find.Entry (entry + 1))) Absent))) [
      | true ↦ λ e.
          let parts = and_parts (not (got == 0)) (got / 2 ^ 32 == byte) e in
          let some_got : got ≢ 0 = λ z. let zero_is : (got == 0) ≡ true = eq-eqb _ _ z in absurd (let wrong : not true ≡ true = ap not (sym zero_is) ∙ parts.0 in cc) in
          let byte_is : entry_byte got ≡ byte = eqb-true _ _ parts.1 in
          record {
            child = entry_child kind first count kinds c byte ∙ seek_here c first count byte entry knows.1 (some_got, byte_is) (λ j lt has. are.apart j entry lt knows.1 has.0 some_got (has.1 ∙ sym byte_is));
            some_child = are.reference entry knows.1 some_got;
            word = (let d : got / 2 ^ 32 ≡ byte = byte_is in omega arith);
            store = λ other some_other fits. subst (λ b. IsCellStore kind c (with_word c (first + entry) (b * 2 ^ 32 + other)) b other) byte_is (entry_moves kind first count c entry other kinds form knows.1 some_got some_other fits);
            clears = λ plain. subst (λ b. IsCellStore kind c (with_word c (first + entry) 0) b 0) byte_is (entry_goes kind first count c entry kinds form knows.1 some_got);
          }
      | false ↦ λ e.
          let not_here : FitsEntry got byte → ⊥ = λ has. let test : (not (got == 0) && got / 2 ^ 32 == byte) ≡ true = ap₂ (λ a b. not a && b) (ne_eqb got 0 has.0) (eq-eqb (got / 2 ^ 32) byte has.1) in absurd (let wrong : true ≡ false = sym test ∙ e in cc) in
          let none : (j : ℕ) → j < suc entry → FitsEntry (c (first + j)) byte → ⊥ = λ j lt has. elim (cases_eq j entry) [ inl same ↦ not_here (subst (λ i. FitsEntry (c (first + i)) byte) same has) | inr apart ↦ knows.2 j (omega (arith, apart)) has ] in
          elim (ltb (entry + 1) count) as (λ a. ltb (entry + 1) count ≡ a → After kind byte c (cond a (More (find.Entry (entry + 1))) Absent)) [
            | true ↦ λ f. (knows.0, ltb-true _ _ f, λ j lt. none j (omega arith))
            | false ↦ λ f. let past = ltb-false _ _ f in entry_child kind first count kinds c byte ∙ seek_none c first count byte (λ j lt. none j (omega arith))
          ] refl
    ] refl

pub told : (kind byte : ℕ) (c : CellWords) (f : Find) → byte < 256 → IsForm kind c → Knows kind byte c f → After kind byte c (find_told kind byte f (c (find_offset kind byte f)))
told kind byte c (find.Entry entry) small form knows = entry_told kind byte c entry form knows
told kind byte c find.Index small form knows =
    subst (λ n. After n byte c (has_place (byte_in (c (8 + byte / 8)) (byte % 8)))) (sym knows)
    (let form4 : IsForm 4 c = subst (λ n. IsForm n c) knows form in
    let place = byte_in (c (8 + byte / 8)) (byte % 8) in
    let is : place ≡ index_of c byte = index_in c byte (byte / 8) refl in
    let most : place ≤ 48 = subst (λ n. n ≤ 48) (sym is) ((indexed_of c form4).places byte small) in
    elim (place == 0) as (λ a. (place == 0) ≡ a → After 4 byte c (cond (a || ltb 48 place) Absent (More (find.Reference place)))) [
      | true ↦ λ e. child_none c byte small (sym is ∙ eqb-true _ _ e)
      | false ↦ λ e. subst (λ a. After 4 byte c (cond a Absent (More (find.Reference place)))) (sym (le-ltb 48 place most)) (refl, eqb-false _ _ e, is)
    ] refl)
told kind byte c (find.Reference place) small form knows =
    subst (λ n. IsAt n c byte (39 + place) 0 (c (39 + place))) (sym knows.0)
    (let form4 : IsForm 4 c = subst (λ n. IsForm n c) knows.0 form in
    let some_index : index_of c byte ≢ 0 = λ e. knows.1 (knows.2 ∙ e) in
    let child = child_of_index c byte form4 small some_index in
    let child_is : children 4 c byte ≡ c (39 + place) = child.0 ∙ ap (λ i. c (39 + i)) (sym knows.2) in
    record {
      child = child_is;
      some_child = λ e. child.1 (child_is ∙ e);
      word = no_high c 4 byte (39 + place) (c (39 + place)) refl;
      store = λ other some_other fits. subst (λ word. IsCellStore 4 c (with_word c (39 + place) word) byte other) (let e : other ≡ 0 + other = omega arith in e)
          (subst (λ i. IsCellStore 4 c (with_word c (39 + i) other) byte other) (sym knows.2) (index_moves c byte other form4 small some_index some_other));
      clears = λ plain. absurd (plain refl);
    })
told kind byte c find.Direct small form knows =
    let child : children kind c byte ≡ c (8 + byte) = direct_child kind byte c knows small in
    elim (c (8 + byte) == 0) as (λ a. (c (8 + byte) == 0) ≡ a → After kind byte c (cond a Absent (Found (8 + byte) 0 (c (8 + byte))))) [
      | true ↦ λ e. child ∙ eqb-true _ _ e
      | false ↦ λ e. record {
        child = child;
        some_child = eqb-false _ _ e;
        word = no_high c kind byte (8 + byte) (c (8 + byte)) refl;
        store = λ other some_other fits. subst (λ word. IsCellStore kind c (with_word c (8 + byte) word) byte other) (let e' : other ≡ 0 + other = omega arith in e')
            (subst (λ n. IsCellStore n c (with_word c (8 + byte) other) byte other) (sym knows) (direct_stores c byte other (subst (λ n. IsForm n c) knows form) small));
        clears = λ plain. subst (λ n. IsCellStore n c (with_word c (8 + byte) 0) byte 0) (sym knows) (direct_stores c byte 0 (subst (λ n. IsForm n c) knows form) small);
      }
    ] refl

pub record Starts (kind byte : ℕ) (c : CellWords) : Type 0 where
  pub is : IsFind kind (find_starts kind)
  pub knows : Knows kind byte c (find_starts kind)
  pub few : find_left kind (find_starts kind) ≤ 16

pub starts : (kind byte : ℕ) (c : CellWords) → 2 ≤ kind → kind ≤ 5 → Starts kind byte c
starts kind byte c least most = elim (cases_eq kind 2) [
  | inl two ↦ subst (λ k. Starts k byte c) (sym two) (record { is = (inl refl, (let lt : 0 < 4 = omega arith in lt)); knows = (inl refl, (let lt : 0 < 4 = omega arith in lt), λ j lt. absurd (omega arith)); few = (let le : 4 ≤ 16 = omega arith in le) })
  | inr not_two ↦ elim (cases_eq kind 3) [
    | inl three ↦ subst (λ k. Starts k byte c) (sym three) (record { is = (inr refl, (let lt : 0 < 16 = omega arith in lt)); knows = (inr refl, (let lt : 0 < 16 = omega arith in lt), λ j lt. absurd (omega arith)); few = (let le : 16 ≤ 16 = omega arith in le) })
    | inr not_three ↦ elim (cases_eq kind 4) [
      | inl four ↦ subst (λ k. Starts k byte c) (sym four) (record { is = refl; knows = refl; few = (let le : 2 ≤ 16 = omega arith in le) })
      | inr not_four ↦ subst (λ k. Starts k byte c) (let five : 5 ≡ kind = omega (arith, not_two, not_three, not_four) in five) (record { is = refl; knows = refl; few = (let le : 1 ≤ 16 = omega arith in le) })
    ]
  ]
]

module _ (kind byte : ℕ) (c : CellWords) (small : byte < 256) (form : IsForm kind c) where
  on : (times left : ℕ) → ((f : Find) → IsFind kind f → Knows kind byte c f → find_left kind f < left → IsFinding kind c byte (finding times kind byte c f)) → (found : Findings) → FindAfter kind byte left found → After kind byte c found
      → IsFinding kind c byte (on_or found (finding times kind byte c))
  on times left inner (More f) fewer known = inner f fewer.0 known fewer.1
  on times left inner (Found offset high reference) fewer known = known
  on times left inner Absent fewer known = known

  finds : (times : ℕ) (f : Find) → IsFind kind f → Knows kind byte c f → find_left kind f < times → IsFinding kind c byte (finding times kind byte c f)
  finds zero f is knows less = absurd (omega arith)
  finds (suc times) f is knows less =
      on times (find_left kind f) (λ next next_is known fewer. finds times next next_is known (omega arith)) (find_told kind byte f (c (find_offset kind byte f))) (finds_end kind byte f (c (find_offset kind byte f)) is) (told kind byte c f small form knows)

pub finds_are_exact : FindsAreExact
finds_are_exact kind byte c least most small form =
    let start = starts kind byte c least most in
    let few = start.few in
    finds kind byte c small form 17 (find_starts kind) start.is start.knows (omega arith)
