-- A look for room ends, and is exact.
use Rattle.std.proofs.Common.{◌≡◌, ◌≢◌, ℕ, zero, suc, ◌+◌, ◌-◌, ◌*◌, ◌/◌, ◌%◌, ◌<◌, ◌==◌, true, false, cond, ltb, inl, inr, refl, sym, subst, ap, ◌∙◌, arith}
use Rattle.std.specs.Prelude.{IsSomeAnd}
use Rattle.std.proofs.lemmas.Bool.{cases_eq, eqb-true, eqb-false, ltb-true, ltb-false}
use Rattle.pm_words.specs.declared.layout.Layout.{Layout}
use Rattle.pm_words.specs.declared.machine.Turn.{Turn}
use Rattle.pm_words.specs.declared.machine.Turn.TheVariants.{Go, Done}
use Rattle.radix_nodes.specs.Bytes.{byte_in}
use Rattle.radix_nodes.specs.Cells.{CellWords, children, index_of, IsForm}
use Rattle.radix_nodes.proofs.EntryForms.{entry_adds}
use Rattle.tree_law.specs.Words.{kind_of, cell_in}
use Rattle.tree_floor.specs.Scans.{first_entry, entry_count}
use Rattle.tree_floor.proofs.ScanExact.{entry_form, index_in}
use Rattle.tree_look.proofs.FindLaw.{entry_words}
use Rattle.tree_change.specs.declared.room.Places.{Places}
use Rattle.tree_change.specs.declared.room.Places.TheVariants as places
use Rattle.tree_change.specs.declared.room.Room.{Room}
use Rattle.tree_change.specs.declared.room.Room.TheVariants.{Entry, Full}
use Rattle.tree_change.specs.declared.find_room.FindRoom.{FindRoom}
use Rattle.tree_floor.specs.Telling.{answer_in}
use Rattle.tree_change.specs.Rooms.{has_byte, places_start, places_offset, places_turned, places_left, IsPlaces, PlacesAfter, RoomsEnd, IsRoom, places_turn, RoomsAreExact}
use Rattle.tree_change.specs.FindRooms.{find_room_goes, find_room_left, FindRoomAfter, FindRoomStays, find_room_turn, FindRoomIsExact}
use Rattle.tree_floor.proofs.Telling.{GoesOn, answers_right, answers_as}

pub rooms_end : RoomsEnd
rooms_end kind (places.Entry entry) got is =
    elim (got == 0) as (λ a. PlacesAfter kind got (entry_count kind - entry) (cond a (Done (Entry (first_entry kind + entry))) (cond (ltb (entry + 1) (entry_count kind)) (Go (places.Entry (entry + 1))) (Done Full)))) [
      | true ↦ entry_words kind entry is
      | false ↦ elim (ltb (entry + 1) (entry_count kind)) as (λ a. ltb (entry + 1) (entry_count kind) ≡ a → PlacesAfter kind got (entry_count kind - entry) (cond a (Go (places.Entry (entry + 1))) (Done Full))) [
        | true ↦ λ e. let less = ltb-true _ _ e in ((is.0, less), omega arith)
        | false ↦ λ e. tt
      ] refl
    ]
rooms_end kind (places.Index place word) got is =
    let p : place < 48 = is.1 in
    let w : word < 32 = is.2 in
    elim (has_byte got (place + 1) 8) as (λ a. PlacesAfter kind got (32 * (48 - place) + 1 - word) (cond a (cond (ltb (place + 1) 48) (Go (places.Index (place + 1) 0)) (Done Full)) (cond (ltb (word + 1) 32) (Go (places.Index place (word + 1))) (Go (places.Own place))))) [
      | true ↦ elim (ltb (place + 1) 48) as (λ a. ltb (place + 1) 48 ≡ a → PlacesAfter kind got (32 * (48 - place) + 1 - word) (cond a (Go (places.Index (place + 1) 0)) (Done Full))) [
        | true ↦ λ e. let less = ltb-true _ _ e in ((is.0, less, (let z : 0 < 32 = omega arith in z)), omega arith)
        | false ↦ λ e. tt
      ] refl
      | false ↦ elim (ltb (word + 1) 32) as (λ a. ltb (word + 1) 32 ≡ a → PlacesAfter kind got (32 * (48 - place) + 1 - word) (cond a (Go (places.Index place (word + 1))) (Go (places.Own place)))) [
        | true ↦ λ e. let less = ltb-true _ _ e in ((is.0, is.1, less), omega arith)
        | false ↦ λ e. ((is.0, is.1), omega arith)
      ] refl
    ]
rooms_end kind (places.Own place) got is = (is.0, is.1, refl)

pub find_room_stays : FindRoomStays
find_room_stays find got takes = go (places_turned (kind_of find.cell) find.places got) (rooms_end (kind_of find.cell) find.places got takes.0.here)
  where
    go : (turn : Turn Places Room) → PlacesAfter (kind_of find.cell) got (find_room_left find) turn → FindRoomAfter find got (find_room_goes find turn)
    go (Go next) after = (record { layout = takes.0.layout; cell = takes.0.cell; byte = takes.0.byte; here = after.0 }, refl, refl, refl, after.1)
    go (Done room) after = after

lacks_byte : (word byte limit : ℕ) → has_byte word byte limit ≡ false → (at : ℕ) → at < limit → byte_in word at ≢ byte
lacks_byte word byte zero none at less e = absurd (omega arith)
lacks_byte word byte (suc limit) none at less e =
    elim (byte_in word limit == byte) as (λ a. (byte_in word limit == byte) ≡ a → cond a true (has_byte word byte limit) ≡ false → ⊥) [
      | true ↦ λ f wrong. cc
      | false ↦ λ f rest. elim (cases_eq at limit) [
        | inl same ↦ eqb-false _ _ f (ap (byte_in word) (sym same) ∙ e)
        | inr apart ↦ lacks_byte word byte limit rest at (omega (arith, apart)) e
      ]
    ] refl none

module _ (kind byte : ℕ) (c : CellWords) (small : byte < 256) (form : IsForm kind c) (none : children kind c byte ≡ 0) where
  -- no byte so far has the place
  abbrev Knows : Places → Type 0
  Knows (places.Entry entry) = Unit {0}
  Knows (places.Index place word) = (b : ℕ) → b < 8 * word → index_of c b ≢ place + 1
  Knows (places.Own place) = (b : ℕ) → b < 256 → index_of c b ≢ place + 1

  abbrev After : Turn Places Room → Type 0
  After (Go next) = Knows next
  After (Done room) = IsRoom kind c byte room

  told : (s : Places) → IsPlaces kind s → Knows s → After (places_turn kind byte c s)
  told (places.Entry entry) is knows =
      let got = c (first_entry kind + entry) in
      elim (got == 0) as (λ a. (got == 0) ≡ a → After (cond a (Done (Entry (first_entry kind + entry))) (cond (ltb (entry + 1) (entry_count kind)) (Go (places.Entry (entry + 1))) (Done Full)))) [
        | true ↦ λ e reference some fits. entry_adds kind (first_entry kind) (entry_count kind) c entry byte reference (entry_form kind is.0) form is.1 (eqb-true _ _ e) small some fits none
        | false ↦ λ e. elim (ltb (entry + 1) (entry_count kind)) as (λ a. After (cond a (Go (places.Entry (entry + 1))) (Done Full))) [ true ↦ tt | false ↦ tt ]
      ] refl
  told (places.Index place word) is knows =
      let got = c (8 + word) in
      elim (has_byte got (place + 1) 8) as (λ a. has_byte got (place + 1) 8 ≡ a → After (cond a (cond (ltb (place + 1) 48) (Go (places.Index (place + 1) 0)) (Done Full)) (cond (ltb (word + 1) 32) (Go (places.Index place (word + 1))) (Go (places.Own place))))) [
        | true ↦ λ e. elim (ltb (place + 1) 48) as (λ a. After (cond a (Go (places.Index (place + 1) 0)) (Done Full))) [
          | true ↦ λ b lt. absurd (omega arith)
          | false ↦ tt
        ]
        | false ↦ λ e.
            let past : (b : ℕ) → b < 8 * (word + 1) → index_of c b ≢ place + 1 = λ b lt is_place. elim (cases_eq (b / 8) word) [
              | inl here ↦ lacks_byte got (place + 1) 8 e (b % 8) (omega arith) (index_in c b word here ∙ is_place)
              | inr apart ↦ knows b (omega (arith, apart)) is_place
            ] in
            elim (ltb (word + 1) 32) as (λ a. ltb (word + 1) 32 ≡ a → After (cond a (Go (places.Index place (word + 1))) (Go (places.Own place)))) [
              | true ↦ λ f. past
              | false ↦ λ f. let last = ltb-false _ _ f in λ b lt. past b (omega arith)
            ] refl
      ] refl
  told (places.Own place) is knows = (is.0, record { within = is.1; free = knows }, refl)

  goes : (bound got : ℕ) (turn : Turn Places Room) → PlacesAfter kind got bound turn → After turn → GoesOn (places_turn kind byte c) (λ s. IsPlaces kind s × Knows s) (places_left kind) (IsRoom kind c byte) bound turn
  goes bound got (Go next) fewer known = ((fewer.0, known), fewer.1)
  goes bound got (Done room) fewer known = known

  rooms : (times : ℕ) (s : Places) → IsPlaces kind s → Knows s → places_left kind s < times → IsSomeAnd (answer_in times (places_turn kind byte c) s) (IsRoom kind c byte)
  rooms times s is knows less =
      answers_right (places_turn kind byte c) (λ p. IsPlaces kind p × Knows p) (places_left kind) (IsRoom kind c byte)
      (λ p known. goes (places_left kind p) (c (places_offset kind byte p)) (places_turn kind byte c p) (rooms_end kind p (c (places_offset kind byte p)) known.0) (told p known.0 known.1)) times s (is, knows) less

abbrev Exact : ℕ → ℕ → CellWords → ℕ → Type 0
Exact kind byte c times = IsForm kind c → children kind c byte ≡ 0 → IsSomeAnd (answer_in times (places_turn kind byte c) (places_start kind)) (IsRoom kind c byte)

pub rooms_are_exact : RoomsAreExact
rooms_are_exact kind byte c times enough least most small form none = elim (cases_eq kind 2) [
  | inl two ↦ subst (λ k. Exact k byte c times) (sym two) (λ f n. rooms 2 byte c small f n times (places.Entry 0) (inl refl, (let lt : 0 < 4 = omega arith in lt)) tt (let lt : 4 < times = omega arith in lt)) form none
  | inr not_two ↦ elim (cases_eq kind 3) [
    | inl three ↦ subst (λ k. Exact k byte c times) (sym three) (λ f n. rooms 3 byte c small f n times (places.Entry 0) (inr refl, (let lt : 0 < 16 = omega arith in lt)) tt (let lt : 16 < times = omega arith in lt)) form none
    | inr not_three ↦ subst (λ k. Exact k byte c times) (let four : 4 ≡ kind = omega (arith, not_two, not_three) in four)
        (λ f n. rooms 4 byte c small f n times (places.Index 0 0) (refl, (let a : 0 < 48 = omega arith in a), (let b : 0 < 32 = omega arith in b)) (λ b lt. absurd (omega arith)) (let lt : 1537 < times = omega arith in lt)) form none
  ]
]

-- The machine answers what its scan has found.
abbrev finding : Layout → ℕ → ℕ → Places → FindRoom
finding l cell byte s = record { layout = l; cell = cell; byte = byte; places = s }

pub find_room_is_exact : FindRoomIsExact
find_room_is_exact l cell byte w times enough is most small form none =
    subst (λ answer. IsSomeAnd answer (IsRoom (kind_of cell) (cell_in w cell) byte))
    (sym (answers_as (find_room_turn w) (places_turn (kind_of cell) byte (cell_in w cell)) (finding l cell byte) (λ s next is. ap (find_room_goes (finding l cell byte s)) is) (λ s room is. ap (find_room_goes (finding l cell byte s)) is) times (places_start (kind_of cell))))
    (rooms_are_exact (kind_of cell) byte (cell_in w cell) times enough is.low most small form none)
