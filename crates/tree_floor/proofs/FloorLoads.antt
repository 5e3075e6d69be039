-- A floor loads words of the layer alone.
use Rattle.std.proofs.Common.{◌≡◌, ℕ, ◌+◌, ◌<◌, ◌≤◌, inl, inr, sym, subst, arith}
use Rattle.std.proofs.lemmas.Bool.{cases_eq}
use Rattle.pm_words.specs.Locations.{kind_words}
use Rattle.pm_words.specs.Offsets.{depth_offset, prefix_offset}
use Rattle.cat_key.specs.declared.TheConstants.{WORDS}
use Rattle.tree_floor.specs.declared.floor.FloorAt.{FloorAt}
use Rattle.tree_floor.specs.declared.floor.FloorAt.TheVariants as at
use Rattle.tree_floor.specs.declared.scan.Scan.{Scan}
use Rattle.tree_floor.specs.declared.scan.Scan.TheVariants as scan
use Rattle.tree_floor.specs.Scans.{scan_offset, IsScan, first_entry, entry_count}
use Rattle.tree_row.specs.tree_law.specs.Words.{kind_of}
use Rattle.tree_row.specs.Rows.{HasLayerWord}
use Rattle.tree_floor.specs.Floors.{floor_word, IsFloorAt, FloorOnlyLoads}

-- a kind that is one of the four
by_kind : (P : ℕ → Type 0) (kind : ℕ) → 2 ≤ kind → kind ≤ 5 → P 2 → P 3 → P 4 → P 5 → P kind
by_kind P kind low high two three four five = elim (cases_eq kind 2) [
  | inl is ↦ subst P (sym is) two
  | inr not_two ↦ elim (cases_eq kind 3) [
    | inl is ↦ subst P (sym is) three
    | inr not_three ↦ elim (cases_eq kind 4) [ inl is ↦ subst P (sym is) four | inr not_four ↦ subst P (let is : 5 ≡ kind = omega (arith, not_two, not_three, not_four) in is) five ]
  ]
]

head_within : (kind o : ℕ) → 2 ≤ kind → kind ≤ 5 → o < 4 → o < kind_words kind
head_within kind o low high lt = by_kind (λ k. o < kind_words k) kind low high (omega arith) (omega arith) (omega arith) (omega arith)

pub scan_within : (kind byte : ℕ) (s : Scan) → byte ≤ 256 → IsScan kind byte s → scan_offset kind byte s < kind_words kind
scan_within kind byte (scan.Entry entry child below) small is = elim is.0 [
  | inl two ↦ subst (λ k. entry < entry_count k → first_entry k + entry < kind_words k) (sym two) (λ lt. omega arith) is.1
  | inr three ↦ subst (λ k. entry < entry_count k → first_entry k + entry < kind_words k) (sym three) (λ lt. omega arith) is.1
]
scan_within kind byte (scan.Index word place) small is = let lt : word < 32 = is.1 in subst (λ k. 8 + word < kind_words k) (sym is.0) (omega arith)
scan_within kind byte (scan.Child place below) small is = let le : place ≤ 48 = is.2 in subst (λ k. 39 + place < kind_words k) (sym is.0) (omega arith)
scan_within kind byte (scan.Below child place) small is = let le : place ≤ 48 = is.2 in subst (λ k. 39 + place < kind_words k) (sym is.0) (omega arith)
scan_within kind byte scan.Direct small is = let lt : byte < 256 = is.1 in subst (λ k. 8 + byte < kind_words k) (sym is.0) (omega arith)
scan_within kind byte (scan.Down next child) small is = let le : next ≤ 256 = is.2 in subst (λ k. 7 + next < kind_words k) (sym is.0) (omega arith)

pub floor_only_loads : FloorOnlyLoads
floor_only_loads f is = go f.at is.here
  where
    go : (part : FloorAt) → IsFloorAt f.layout f.least f.last part → HasLayerWord f.layout (floor_word part)
    go at.Root here = let first : 0 < 8 = omega arith in first
    go (at.Key leaf words word) here = (here.0, (let within : word < WORDS = here.3 in omega arith))
    go (at.Node leaf) here = (here, omega arith)
    go (at.Depth cell) here = (here.low, here.high, here.number, head_within (kind_of cell) depth_offset here.low here.high (omega arith))
    go (at.Prefix cell depth words word) here = (here.0.low, here.0.high, here.0.number, head_within (kind_of cell) (prefix_offset + word) here.0.low here.0.high (let within : word < WORDS = here.4 in omega arith))
    go (at.Scanning cell depth byte s) here = (here.0.low, here.0.high, here.0.number, scan_within (kind_of cell) byte s here.2 here.3)
