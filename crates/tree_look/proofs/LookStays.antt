-- A look stays one, and reads less and less, whatever it is told.
use Rattle.std.proofs.Common.{◌≡◌, ℕ, ◌+◌, ◌-◌, ◌*◌, ◌^◌, ◌<◌, ◌≤◌, ◌==◌, ◌&&◌, ◌||◌, not, true, false, cond, ltb, leb, List, slice_set, refl, arith}
use Rattle.std.proofs.lemmas.Bool.{ltb-true, ltb-false, leb-true, leb-false, and_parts, eqb-false}
use Rattle.pm_words.specs.declared.layout.Layout.{Layout}
use Rattle.pm_words.specs.declared.machine.Turn.TheVariants.{Go, Done}
use Rattle.pm_words.specs.Layouts.{IsLayout}
use Rattle.pm_words.specs.Locations.{leaf_count}
use Rattle.pm_words.specs.Codes.{leaf_kind}
use Rattle.cat_key.specs.declared.TheConstants.{WORDS}
use Rattle.radix_nodes.specs.Keys.{key_bytes}
use Rattle.radix_nodes.specs.Cells.{IsReference}
use Rattle.tree_law.specs.Trees.{span, first_bytes, byte_at, way_length}
use Rattle.tree_law.specs.Words.{kind_of, number_of}
use Rattle.layer_map.specs.Keys.{key_number, IsKey}
use Rattle.tree_law.proofs.Spans.{byte_small}
use Rattle.tree_floor.specs.Floors.{no_words, IsCellOf}
use Rattle.tree_floor.proofs.KeyWords.{no_words_key, key_set}
use Rattle.tree_look.specs.declared.find.Findings.{Findings}
use Rattle.tree_look.specs.declared.find.Findings.TheVariants.{More, Found, Absent}
use Rattle.tree_look.specs.declared.look.Look.{Look}
use Rattle.tree_look.specs.declared.look.LookAt.{LookAt}
use Rattle.tree_look.specs.declared.look.LookAt.TheVariants as at
use Rattle.tree_look.specs.declared.look.Spot.{Spot}
use Rattle.tree_look.specs.declared.look.Looked.TheVariants as looked
use Rattle.tree_look.specs.Finds.{find_starts, find_told, find_left}
use Rattle.tree_look.specs.FindLaws.{FindAfter}
use Rattle.tree_look.specs.Depths.{shared_of}
use Rattle.tree_look.specs.Looks.{goes_to, byte_parted, parts, lands, has_key, has_prefix, has_found, level, look_at_turned, IsLookAt, IsSpot, look_left}
use Rattle.tree_look.specs.LookLaws.{LookAfter, LookStays}
use Rattle.tree_look.proofs.FindLaw.{finds_end, starts}

-- the byte at which something parts is one
parted_small : (other depth : ℕ) → byte_parted other depth < 256
parted_small other depth = elim (ltb depth key_bytes) as (λ a. cond a (byte_at depth other) 0 < 256) [ true ↦ byte_small depth other | false ↦ (let lt : 0 < 256 = omega arith in lt) ]

-- a cell in range has a reference
cell_reference : {l : Layout} (cell : ℕ) → IsCellOf l cell → IsReference cell
cell_reference cell is = let low = is.low in let high = is.high in (omega arith, omega arith)

module _ (l : Layout) (key : List ℕ) (layout : IsLayout l) (is_key : IsKey key) where
  abbrev look : ℕ → Spot → Spot → LookAt → Look
  look least outer inner part = record { layout = l; key = key; least = least; outer = outer; inner = inner; at = part }

  abbrev Spots : Spot → Spot → Type 0
  Spots outer inner = IsSpot l outer × IsSpot l inner

  moves : (least : ℕ) (outer inner : Spot) (part : LookAt) (left : ℕ) → Spots outer inner → IsLookAt l least part → look_left (look least outer inner part) < left → LookAfter l key left (Go (look least outer inner part))
  moves least outer inner part left spots here fewer = (record { layout = layout; key = is_key; outer = spots.0; inner = spots.1; here = here }, refl, refl, fewer)

  lands_after : (least : ℕ) (outer inner : Spot) (part : LookAt) (reference left : ℕ) → Spots outer inner → level * (way_length - least) + 18 + WORDS < left → LookAfter l key left (lands (look least outer inner part) reference)
  lands_after least outer inner part reference left spots enough =
      elim (ltb (number_of reference) (leaf_count l)) as (λ a. ltb (number_of reference) (leaf_count l) ≡ a → LookAfter l key left (cond (not a) (Done looked.Wrong) (cond (kind_of reference == leaf_kind) (goes_to (look least outer inner part) (at.Key (number_of reference) no_words 0))
      (cond (leb 2 (kind_of reference) && leb (kind_of reference) 5) (goes_to (look least outer inner part) (at.Depth reference)) (Done looked.Wrong))))) [
        | false ↦ λ e. tt
        | true ↦ λ e. let within = ltb-true _ _ e in
            elim (kind_of reference == leaf_kind) as (λ a. LookAfter l key left (cond a (goes_to (look least outer inner part) (at.Key (number_of reference) no_words 0))
            (cond (leb 2 (kind_of reference) && leb (kind_of reference) 5) (goes_to (look least outer inner part) (at.Depth reference)) (Done looked.Wrong)))) [
              | true ↦ moves least outer inner (at.Key (number_of reference) no_words 0) left spots (within, no_words_key, omega arith) (omega arith)
              | false ↦ elim (leb 2 (kind_of reference) && leb (kind_of reference) 5) as (λ a. (leb 2 (kind_of reference) && leb (kind_of reference) 5) ≡ a → LookAfter l key left (cond a (goes_to (look least outer inner part) (at.Depth reference)) (Done looked.Wrong))) [
                | true ↦ λ f. let parts = and_parts (leb 2 (kind_of reference)) (leb (kind_of reference) 5) f in
                    moves least outer inner (at.Depth reference) left spots (record { low = leb-true _ _ parts.0; high = leb-true _ _ parts.1; number = within }) (omega arith)
                | false ↦ λ f. tt
              ] refl
            ]
      ] refl

  at_after : (least : ℕ) (outer inner : Spot) (part : LookAt) (got : ℕ) → Spots outer inner → IsLookAt l least part → got < 2 ^ 64 → LookAfter l key (look_left (look least outer inner part)) (look_at_turned (look least outer inner part) part got)
  at_after least outer inner at.Root got spots here fits = lands_after least outer inner at.Root got (level * (way_length - least) + (20 + WORDS)) spots (omega arith)
  at_after least outer inner (at.Key leaf words word) got spots here fits =
      let left = level * (way_length - least) + (WORDS - word) in
      let this = look least outer inner (at.Key leaf words word) in
      let next = slice_set words word got in
      let within : word < WORDS = here.2 in
      elim (word + 1 == WORDS) as (λ a. (word + 1 == WORDS) ≡ a → LookAfter l key left (cond a (has_key this leaf next) (goes_to this (at.Key leaf next (word + 1))))) [
        | true ↦ λ e. elim (key_number key == key_number next) as (λ a. LookAfter l key left (cond a (Done (looked.Key outer inner leaf)) (parts this (2 ^ 16 + leaf) next))) [
          | true ↦ (spots.0, spots.1, here.0)
          | false ↦
              let few : l.nodes ≤ 4096 = layout.nodes.1 in
              let leaf_in : leaf < leaf_count l = here.0 in
              (spots.1, (omega arith, omega arith), parted_small (key_number next) (shared_of (key_number key) (key_number next)))
        ]
        | false ↦ λ e. let more = eqb-false _ _ e in
            moves least outer inner (at.Key leaf next (word + 1)) left spots (here.0, key_set words word got here.1 within fits, omega (arith, more)) (omega arith)
      ] refl
  at_after least outer inner (at.Depth cell) got spots here fits =
      elim (ltb got least) as (λ a. ltb got least ≡ a → LookAfter l key (level * (way_length - least) + (18 + WORDS)) (cond (a || leb key_bytes got) (Done looked.Wrong) (goes_to (look least outer inner (at.Depth cell)) (at.Prefix cell got no_words 0)))) [
        | true ↦ λ e. tt
        | false ↦ λ e. elim (leb key_bytes got) as (λ a. leb key_bytes got ≡ a → LookAfter l key (level * (way_length - least) + (18 + WORDS)) (cond a (Done looked.Wrong) (goes_to (look least outer inner (at.Depth cell)) (at.Prefix cell got no_words 0)))) [
          | true ↦ λ f. tt
          | false ↦ λ f. let low = ltb-false _ _ e in let high = leb-false _ _ f in moves least outer inner (at.Prefix cell got no_words 0) (level * (way_length - least) + (18 + WORDS)) spots (here, (low, high), no_words_key, omega arith) (omega arith)
        ] refl
      ] refl
  at_after least outer inner (at.Prefix cell depth words word) got spots here fits =
      let left = level * (way_length - least) + (17 + (WORDS - word)) in
      let this = look least outer inner (at.Prefix cell depth words word) in
      let next = slice_set words word got in
      let within : word < WORDS = here.3 in
      let start = starts (kind_of cell) 0 (λ o. 0) here.0.low here.0.high in
      let few = start.few in
      elim (word + 1 == WORDS) as (λ a. (word + 1 == WORDS) ≡ a → LookAfter l key left (cond a (has_prefix this cell depth next) (goes_to this (at.Prefix cell depth next (word + 1))))) [
        | true ↦ λ e. elim (first_bytes depth (key_number key) * span depth == key_number next) as (λ a. LookAfter l key left (cond a (goes_to this (at.Finding cell depth (find_starts (kind_of cell)))) (parts this cell next))) [
          | true ↦ moves least outer inner (at.Finding cell depth (find_starts (kind_of cell))) left spots (here.0, here.1, start.is) (omega arith)
          | false ↦ (spots.1, cell_reference cell here.0, parted_small (key_number next) (shared_of (key_number key) (key_number next)))
        ]
        | false ↦ λ e. let more = eqb-false _ _ e in
            moves least outer inner (at.Prefix cell depth next (word + 1)) left spots (here.0, here.1, key_set words word got here.2 within fits, omega (arith, more)) (omega arith)
      ] refl
  at_after least outer inner (at.Finding cell depth find) got spots here fits =
      found (find_told (kind_of cell) (byte_at depth (key_number key)) find got) (finds_end (kind_of cell) (byte_at depth (key_number key)) find got here.2)
    where
      found : (s : Findings) → FindAfter (kind_of cell) (byte_at depth (key_number key)) (find_left (kind_of cell) find) s → LookAfter l key (level * (way_length - least) + (1 + find_left (kind_of cell) find)) (has_found (look least outer inner (at.Finding cell depth find)) cell depth s)
      found (More next) fewer = let less = fewer.1 in moves least outer inner (at.Finding cell depth next) (level * (way_length - least) + (1 + find_left (kind_of cell) find)) spots (here.0, here.1, fewer.0) (omega arith)
      found (Found offset high reference) fewer =
          let low = here.1.0 in
          let deep = here.1.1 in
          let words = fewer (byte_small depth (key_number key)) in
          lands_after (depth + 1) inner (record { cell = cell; offset = offset; high = high }) (at.Finding cell depth find) reference (level * (way_length - least) + (1 + find_left (kind_of cell) find))
          (spots.1, record { place = λ some_cell. (here.0, words.0); high = words.1 }) (omega arith)
      found Absent fewer = (spots.1, here.0, here.1.1)

pub look_stays : LookStays
look_stays f got takes = at_after f.layout f.key takes.0.layout takes.0.key f.least f.outer f.inner f.at got (takes.0.outer, takes.0.inner) takes.0.here takes.1
