-- A floor stays one, reads less and less, and answers a node, whatever it is told.
use Rattle.std.proofs.Common.{◌≡◌, ℕ, ◌+◌, ◌-◌, ◌*◌, ◌^◌, ◌<◌, ◌≤◌, ◌==◌, ◌&&◌, ◌||◌, not, Bool, true, false, cond}
use Rattle.std.proofs.Common.{ltb, leb, List, slice_set, refl, arith}
use Rattle.std.proofs.lemmas.Bool.{ltb-true, ltb-false, leb-true, leb-false, and_parts, eqb-false}
use Rattle.pm_words.specs.declared.layout.Layout.{Layout}
use Rattle.pm_words.specs.declared.machine.Turn.TheVariants.{Go, Done}
use Rattle.pm_words.specs.Layouts.{IsLayout}
use Rattle.pm_words.specs.Locations.{leaf_count}
use Rattle.pm_words.specs.Turns.{GoesBelow}
use Rattle.pm_words.specs.Codes.{leaf_kind}
use Rattle.cat_key.specs.declared.TheConstants.{WORDS}
use Rattle.radix_nodes.specs.Keys.{key_bytes}
use Rattle.tree_row.specs.tree_law.specs.Trees.{span, first_bytes, byte_at, way_length}
use Rattle.tree_row.specs.tree_law.proofs.Spans.{byte_small}
use Rattle.tree_row.specs.tree_law.proofs.WalkLaw.{node_small}
use Rattle.tree_floor.specs.declared.floor.Floor.{Floor}
use Rattle.tree_floor.specs.declared.floor.FloorAt.{FloorAt}
use Rattle.tree_floor.specs.declared.floor.FloorAt.TheVariants as at
use Rattle.tree_floor.specs.declared.scan.Scanned.{Scanned}
use Rattle.tree_floor.specs.declared.scan.Scanned.TheVariants.{More, Found}
use Rattle.tree_floor.specs.Scans.{scan_starts, scan_told, scan_left}
use Rattle.tree_floor.specs.ScanLaws.{ScanAfter}
use Rattle.tree_row.specs.layer_map.specs.Keys.{key_number, IsKey}
use Rattle.tree_row.specs.tree_law.specs.Words.{kind_of, number_of}
use Rattle.tree_floor.specs.Floors.{no_words, goes_to, lands, turns_back, back, enters, has_key, has_prefix, scans}
use Rattle.tree_floor.specs.Floors.{wants_last, goes_last, goes_down, has_scanned, floor_at_turned, floor_turned}
use Rattle.tree_floor.specs.Floors.{IsCellOf, IsDeep, IsFloorAt, floor_takes, level, behind_left, floor_left}
use Rattle.tree_floor.specs.Floors.{FloorAfter, FloorStays}
use Rattle.tree_floor.proofs.ScanLaw.{scans_end, scans_start}
use Rattle.tree_floor.proofs.KeyWords.{no_words_key, key_set}
use Rattle.tree_floor.proofs.Telling.{either_way}

module _ (l : Layout) (key : List ℕ) (layout : IsLayout l) (is_key : IsKey key) where
  abbrev floor : ℕ → ℕ → ℕ → Bool → FloorAt → Floor
  floor other other_least least last part = record { layout = l; key = key; other = other; other_least = other_least; least = least; last = last; at = part }

  some_node : 0 < l.nodes
  some_node = layout.nodes.0

  moves : (other other_least least : ℕ) (last : Bool) (part : FloorAt) (left : ℕ) → IsFloorAt l least last part → floor_left (floor other other_least least last part) < left → FloorAfter l key left (Go (floor other other_least least last part))
  moves other other_least least last part left here fewer = (record { layout = layout; key = is_key; here = here }, refl, refl, fewer)

  lands_after : (other other_least least : ℕ) (last : Bool) (part : FloorAt) (reference left : ℕ) → behind_left last least + 261 + WORDS < left → FloorAfter l key left (lands (floor other other_least least last part) reference)
  lands_after other other_least least last part reference left enough =
      elim (ltb (number_of reference) (leaf_count l)) as (λ a. ltb (number_of reference) (leaf_count l) ≡ a → FloorAfter l key left (cond (not a) (Done 0) (cond (kind_of reference == leaf_kind) (goes_to (floor other other_least least last part) (cond last (at.Node (number_of reference)) (at.Key (number_of reference) no_words 0)))
      (cond (leb 2 (kind_of reference) && leb (kind_of reference) 5) (goes_to (floor other other_least least last part) (at.Depth reference)) (Done 0))))) [
        | false ↦ λ e. some_node
        | true ↦ λ e. let within = ltb-true _ _ e in
            elim (kind_of reference == leaf_kind) as (λ a. FloorAfter l key left (cond a (goes_to (floor other other_least least last part) (cond last (at.Node (number_of reference)) (at.Key (number_of reference) no_words 0)))
            (cond (leb 2 (kind_of reference) && leb (kind_of reference) 5) (goes_to (floor other other_least least last part) (at.Depth reference)) (Done 0)))) [
              | true ↦ leaf last within enough
              | false ↦ elim (leb 2 (kind_of reference) && leb (kind_of reference) 5) as (λ a. (leb 2 (kind_of reference) && leb (kind_of reference) 5) ≡ a → FloorAfter l key left (cond a (goes_to (floor other other_least least last part) (at.Depth reference)) (Done 0))) [
                | true ↦ λ f. let parts = and_parts (leb 2 (kind_of reference)) (leb (kind_of reference) 5) f in
                    moves other other_least least last (at.Depth reference) left (record { low = leb-true _ _ parts.0; high = leb-true _ _ parts.1; number = within }) (omega arith)
                | false ↦ λ f. some_node
              ] refl
            ]
      ] refl
    where
      leaf : (last' : Bool) → number_of reference < leaf_count l → behind_left last' least + 261 + WORDS < left → FloorAfter l key left (goes_to (floor other other_least least last' part) (cond last' (at.Node (number_of reference)) (at.Key (number_of reference) no_words 0)))
      leaf true within enough' = moves other other_least least true (at.Node (number_of reference)) left within (omega arith)
      leaf false within enough' = moves other other_least least false (at.Key (number_of reference) no_words 0) left (within, refl, no_words_key, omega arith) (omega arith)

  -- what it needs to turn back
  abbrev CanTurn : Bool → ℕ → Type 0
  CanTurn last left = last ≡ false → level * way_length + 261 + WORDS < left

  seeks : (last : Bool) (least part left : ℕ) → behind_left last least + part ≤ left → CanTurn last left
  seeks true least part left le e = absurd cc
  seeks false least part left le e = omega arith

  back_after : (other other_least least : ℕ) (last : Bool) (part : FloorAt) (left : ℕ) → CanTurn last left → FloorAfter l key left (back (floor other other_least least last part))
  back_after other other_least least true part left can = some_node
  back_after other other_least least false part left can =
      elim (other == 0) as (λ a. FloorAfter l key left (cond a (Done 0) (lands (turns_back (floor other other_least least false part)) other))) [
        | true ↦ some_node
        | false ↦ lands_after 0 0 other_least true part other left (let more = can refl in omega arith)
      ]

  enters_after : (other other_least least : ℕ) (last : Bool) (part : FloorAt) (reference left : ℕ) → CanTurn last left → behind_left last least + 261 + WORDS < left → FloorAfter l key left (enters (floor other other_least least last part) reference)
  enters_after other other_least least last part reference left can enough =
      elim (reference == 0) as (λ a. FloorAfter l key left (cond a (back (floor other other_least least last part)) (lands (floor other other_least least last part) reference))) [
        | true ↦ back_after other other_least least last part left can
        | false ↦ lands_after other other_least least last part reference left enough
      ]

  scans_after : (other other_least least : ℕ) (last : Bool) (part : FloorAt) (cell depth byte left : ℕ) → IsCellOf l cell → IsDeep least depth → byte ≤ 256 → behind_left last least + 259 < left → FloorAfter l key left (scans (floor other other_least least last part) cell depth byte)
  scans_after other other_least least last part cell depth byte left is deep small enough =
      let start = scans_start (kind_of cell) byte is.low is.high small in
      let most = start.1 in
      moves other other_least least last (at.Scanning cell depth byte (scan_starts (kind_of cell) byte)) left (is, deep, small, start.0) (omega arith)

  -- it has read the words of a leaf's key, and of a cell's prefix
  key_after : (other other_least least : ℕ) (last : Bool) (part : FloorAt) (leaf : ℕ) (words : List ℕ) (left : ℕ) → leaf < leaf_count l → behind_left last least + 2 ≤ left → FloorAfter l key left (has_key (floor other other_least least last part) leaf words)
  key_after other other_least least last part leaf words left within enough =
      elim (leb (key_number words) (key_number key)) as (λ a. FloorAfter l key left (cond a (goes_to (floor other other_least least last part) (at.Node leaf)) (back (floor other other_least least last part)))) [
        | true ↦ moves other other_least least last (at.Node leaf) left within (omega arith)
        | false ↦ back_after other other_least least last part left (seeks last least 2 left enough)
      ]

  prefix_after : (other other_least least : ℕ) (last : Bool) (part : FloorAt) (cell depth : ℕ) (words : List ℕ) (left : ℕ) → IsCellOf l cell → IsDeep least depth → last ≡ false → behind_left last least + 261 ≤ left → FloorAfter l key left (has_prefix (floor other other_least least last part) cell depth words)
  prefix_after other other_least least last part cell depth words left is deep last_is enough =
      let this = floor other other_least least last part in
      let turned : behind_left true least + 259 < left = seeking last last_is enough in
      elim (leb (key_number words) (key_number key)) as (λ a. FloorAfter l key left (cond a (cond (first_bytes depth (key_number key) * span depth == key_number words) (scans this cell depth (byte_at depth (key_number key))) (scans (wants_last this) cell depth 256)) (back this))) [
        | false ↦ back_after other other_least least last part left (seeks last least 261 left enough)
        | true ↦ elim (first_bytes depth (key_number key) * span depth == key_number words) as (λ a. FloorAfter l key left (cond a (scans this cell depth (byte_at depth (key_number key))) (scans (wants_last this) cell depth 256))) [
          | true ↦ scans_after other other_least least last part cell depth (byte_at depth (key_number key)) left is deep (let small = byte_small depth (key_number key) in omega arith) (omega arith)
          | false ↦ scans_after 0 0 least true part cell depth 256 left is deep (let le : 256 ≤ 256 = omega arith in le) turned
        ]
      ]
    where
      seeking : (last' : Bool) → last' ≡ false → behind_left last' least + 261 ≤ left → behind_left true least + 259 < left
      seeking true e enough' = absurd cc
      seeking false e enough' = omega arith

  at_after : (other other_least least : ℕ) (last : Bool) (part : FloorAt) (got : ℕ) → IsFloorAt l least last part → got < 2 ^ 64 → FloorAfter l key (floor_left (floor other other_least least last part)) (floor_at_turned (floor other other_least least last part) part got)
  at_after other other_least least last at.Root got here fits =
      enters_after other other_least least last at.Root got (behind_left last least + (263 + WORDS)) (seeks last least (263 + WORDS) (behind_left last least + (263 + WORDS)) (omega arith)) (omega arith)
  at_after other other_least least last (at.Key leaf words word) got here fits =
      let left = behind_left last least + (1 + (WORDS - word)) in
      let within : word < WORDS = here.3 in
      elim (word + 1 == WORDS) as (λ a. (word + 1 == WORDS) ≡ a → FloorAfter l key left (cond a (has_key (floor other other_least least last (at.Key leaf words word)) leaf (slice_set words word got)) (goes_to (floor other other_least least last (at.Key leaf words word)) (at.Key leaf (slice_set words word got) (word + 1))))) [
        | true ↦ λ e. key_after other other_least least last (at.Key leaf words word) leaf (slice_set words word got) left here.0 (omega arith)
        | false ↦ λ e. let more = eqb-false _ _ e in
            moves other other_least least last (at.Key leaf (slice_set words word got) (word + 1)) left (here.0, here.1, key_set words word got here.2 within fits, omega (arith, more)) (omega arith)
      ] refl
  at_after other other_least least last (at.Node leaf) got here fits = node_small l.nodes got some_node
  at_after other other_least least last (at.Depth cell) got here fits =
      elim (ltb got least) as (λ a. ltb got least ≡ a → FloorAfter l key (behind_left last least + (261 + WORDS)) (cond (a || leb key_bytes got) (Done 0) (cond last (scans f cell got 256) (goes_to f (at.Prefix cell got no_words 0))))) [
        | true ↦ λ e. some_node
        | false ↦ λ e. elim (leb key_bytes got) as (λ a. leb key_bytes got ≡ a → FloorAfter l key (behind_left last least + (261 + WORDS)) (cond a (Done 0) (cond last (scans f cell got 256) (goes_to f (at.Prefix cell got no_words 0))))) [
          | true ↦ λ g. some_node
          | false ↦ λ g. let low = ltb-false _ _ e in let high = leb-false _ _ g in deep last low high
        ] refl
      ] refl
    where
      f : Floor
      f = floor other other_least least last (at.Depth cell)

      deep : (last' : Bool) → least ≤ got → got < key_bytes → FloorAfter l key (behind_left last' least + (261 + WORDS))
          (cond last' (scans (floor other other_least least last' (at.Depth cell)) cell got 256) (goes_to (floor other other_least least last' (at.Depth cell)) (at.Prefix cell got no_words 0)))
      deep true low high = scans_after other other_least least true (at.Depth cell) cell got 256 (behind_left true least + (261 + WORDS)) here (low, high) (let le : 256 ≤ 256 = omega arith in le) (omega arith)
      deep false low high = moves other other_least least false (at.Prefix cell got no_words 0) (behind_left false least + (261 + WORDS)) (here, (low, high), refl, no_words_key, omega arith) (omega arith)
  at_after other other_least least last (at.Prefix cell depth words word) got here fits =
      let left = behind_left last least + (260 + (WORDS - word)) in
      let within : word < WORDS = here.4 in
      elim (word + 1 == WORDS) as (λ a. (word + 1 == WORDS) ≡ a → FloorAfter l key left (cond a (has_prefix (floor other other_least least last (at.Prefix cell depth words word)) cell depth (slice_set words word got)) (goes_to (floor other other_least least last (at.Prefix cell depth words word)) (at.Prefix cell depth (slice_set words word got) (word + 1))))) [
        | true ↦ λ e. prefix_after other other_least least last (at.Prefix cell depth words word) cell depth (slice_set words word got) left here.0 here.1 here.2 (omega arith)
        | false ↦ λ e. let more = eqb-false _ _ e in
            moves other other_least least last (at.Prefix cell depth (slice_set words word got) (word + 1)) left (here.0, here.1, here.2, key_set words word got here.3 within fits, omega (arith, more)) (omega arith)
      ] refl
  at_after other other_least least last (at.Scanning cell depth byte scan) got here fits =
      scanned (scan_told (kind_of cell) byte scan got) (scans_end (kind_of cell) byte scan got here.2 here.3)
    where
      scanned : (s : Scanned) → ScanAfter (kind_of cell) byte (scan_left (kind_of cell) scan) s → FloorAfter l key (behind_left last least + (1 + scan_left (kind_of cell) scan)) (has_scanned (floor other other_least least last (at.Scanning cell depth byte scan)) cell depth byte s)
      scanned (More next) fewer = let less = fewer.1 in moves other other_least least last (at.Scanning cell depth byte next) (behind_left last least + (1 + scan_left (kind_of cell) scan)) (here.0, here.1, here.2, fewer.0) (omega arith)
      scanned (Found child below) fewer = found last (here.1).0 (here.1).1
        where
          found : (last' : Bool) → least ≤ depth → depth < key_bytes → FloorAfter l key (behind_left last' least + (1 + scan_left (kind_of cell) scan))
              (cond last' (enters (goes_last (floor other other_least least last' (at.Scanning cell depth byte scan)) depth) below) (enters (goes_down (floor other other_least least last' (at.Scanning cell depth byte scan)) depth below) child))
          found true low high = enters_after 0 0 (depth + 1) true (at.Scanning cell depth byte scan) below (behind_left true least + (1 + scan_left (kind_of cell) scan)) (λ e. absurd cc) (omega arith)
          found false low high =
              enters_after (cond (below == 0) other below) (cond (below == 0) other_least (depth + 1)) (depth + 1) false (at.Scanning cell depth byte scan) child (behind_left false least + (1 + scan_left (kind_of cell) scan)) (λ e. omega arith) (omega arith)

pub floor_stays : FloorStays
floor_stays f got takes = at_after f.layout f.key takes.0.layout takes.0.key f.other f.other_least f.least f.last f.at got takes.0.here takes.1

pub floor_fewer : (f : Floor) (got : ℕ) → floor_takes f got → GoesBelow {A = ℕ} floor_left (floor_left f) (floor_turned f got)
floor_fewer f got takes = either_way (FloorAfter f.layout f.key (floor_left f)) (GoesBelow {A = ℕ} floor_left (floor_left f)) (λ next after. after.3) (λ node after. tt) (floor_turned f got) (floor_stays f got takes)
