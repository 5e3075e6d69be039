-- So long as the words stay as they are, a floor answers the floor of its key.
use Rattle.std.proofs.Common.{◌≡◌, ◌≢◌, ℕ, zero, suc, ◌+◌, ◌*◌, ◌^◌, ◌<◌, ◌≤◌, ◌==◌, ◌&&◌, ◌||◌, ◌⊎◌, not, Bool, true}
use Rattle.std.proofs.Common.{false, cond, ltb, leb, List, Some, slice_set, inl, inr, refl, sym, subst, ap, ap₂, ◌∙◌}
use Rattle.std.proofs.Common.{arith, le-ltb, lt-ltb, mul-le-mul_right, add-mul, one-mul, div-mul-le_self}
use Rattle.std.specs.Prelude.{IsSomeAnd}
use Rattle.std.proofs.lemmas.Bool.{cases_eq, cases_lt, eqb-true, eqb-false, eq-eqb, ne_eqb, ltb-true, leb-true}
use Rattle.std.proofs.lemmas.Bool.{leb-false, lt-leb, and_parts}
use Rattle.std.proofs.Math.Nat.{lt-div-mul-add}
use Rattle.pm_words.specs.declared.layout.Layout.{Layout}
use Rattle.pm_words.specs.declared.machine.Turn.{Turn}
use Rattle.pm_words.specs.declared.machine.Turn.TheVariants.{Go, Done}
use Rattle.pm_words.specs.Layouts.{IsLayout}
use Rattle.pm_words.specs.Locations.{leaf_count}
use Rattle.pm_words.specs.Codes.{leaf_kind}
use Rattle.tree_row.specs.layer_map.specs.Layers.{IsFloorOf}
use Rattle.tree_row.specs.tree_law.specs.Trees.{Reference, Nothing, Leaf, Cell, Tree, Reaches, here, below, IsReached}
use Rattle.tree_row.specs.tree_law.specs.Trees.{Room, IsLeaf, IsCell, IsSound, IsSoundFrom, span, first_bytes}
use Rattle.tree_row.specs.tree_law.specs.Trees.{byte_at}
use Rattle.radix_nodes.specs.Cells.{children, prefix_words}
use Rattle.radix_nodes.specs.Keys.{key_bytes}
use Rattle.cat_key.specs.declared.TheConstants.{WORDS}
use Rattle.tree_row.specs.tree_law.specs.Floors.{child_or, child_below}
use Rattle.tree_row.specs.tree_law.specs.FloorWalks.{least_of, goes_back}
use Rattle.tree_row.specs.tree_law.specs.Words.{LayerWord, LayerWords, word_in, reference_of, cell_in, tree_of}
use Rattle.tree_row.specs.tree_law.specs.Words.{layer_of, room_of, IsLawful}
use Rattle.tree_row.specs.tree_law.proofs.Spans.{first_is, span_pos, span_last, byte_small}
use Rattle.tree_row.specs.tree_law.proofs.Reach.{is_nothing, within}
use Rattle.tree_row.specs.tree_law.proofs.Avoiding.{join}
use Rattle.tree_row.specs.tree_law.proofs.FloorLaw.{greatest, or_some, leaf_reaches, none_reached, nothing_before}
use Rattle.tree_row.specs.tree_law.proofs.WalkLaw.{Seeks, Lasts, IsFinal, KnowsOn, ends, goes, goes_last, down_knows}
use Rattle.tree_floor.specs.declared.floor.Floor.{Floor}
use Rattle.tree_floor.specs.declared.floor.FloorAt.{FloorAt}
use Rattle.tree_floor.specs.declared.floor.FloorAt.TheVariants as at
use Rattle.tree_floor.specs.declared.scan.Scanned.{Scanned}
use Rattle.tree_floor.specs.declared.scan.Scanned.TheVariants.{More, Found}
use Rattle.tree_floor.specs.Scans.{scan_offset, scan_told}
use Rattle.tree_floor.specs.ScanLaws.{word_below}
use Rattle.tree_row.specs.layer_map.specs.Keys.{key_number, IsKey}
use Rattle.tree_floor.specs.Floors as floors
use Rattle.tree_row.specs.tree_law.specs.Words.{kind_of, number_of}
use Rattle.tree_floor.specs.Floors.{floor_word, floor_starts, floor_most, no_words, goes_to, lands, turns_back, back}
use Rattle.tree_floor.specs.Floors.{enters, has_key, has_prefix, scans, wants_last, goes_down, has_scanned}
use Rattle.tree_floor.specs.Floors.{floor_at_turned, floor_turned, IsFloor, floor_left, FloorAfter, floor_turn}
use Rattle.tree_floor.specs.Floors.{FloorIsExact}
use Rattle.tree_floor.specs.Telling.{turn_answer, answer_in}
use Rattle.tree_floor.proofs.ScanExact.{Knows, After, told, begins}
use Rattle.tree_floor.proofs.KeyWords.{AreRead, reads_on, read_number}
use Rattle.tree_floor.proofs.FloorStays.{floor_stays}

-- what a reference is
pub data IsReference (x : ℕ) : Type 0 where
  is_none : x ≡ 0 → reference_of x ≡ Nothing → IsReference x
  is_leaf : x ≢ 0 → kind_of x ≡ leaf_kind → reference_of x ≡ Leaf (number_of x) → IsReference x
  is_cell : x ≢ 0 → kind_of x ≢ leaf_kind → reference_of x ≡ Cell x → IsReference x

pub reference : (x : ℕ) → IsReference x
reference x = elim (cases_eq x 0) [
  | inl none ↦ is_none none (ap (λ a. cond a Nothing (cond (kind_of x == leaf_kind) (Leaf (number_of x)) (Cell x))) (eq-eqb x 0 none))
  | inr some_reference ↦
      let skip : reference_of x ≡ cond (kind_of x == leaf_kind) (Leaf (number_of x)) (Cell x) = ap (λ a. cond a Nothing (cond (kind_of x == leaf_kind) (Leaf (number_of x)) (Cell x))) (ne_eqb x 0 some_reference) in
      elim (cases_eq (kind_of x) 1) [
        | inl one ↦ is_leaf some_reference one (skip ∙ ap (λ a. cond a (Leaf (number_of x)) (Cell x)) (eq-eqb (kind_of x) 1 one))
        | inr other ↦ is_cell some_reference other (skip ∙ ap (λ a. cond a (Leaf (number_of x)) (Cell x)) (ne_eqb (kind_of x) 1 other))
      ]
]

-- one of these kinds leads to this
pub to_leaf : (x : ℕ) → kind_of x ≡ leaf_kind → reference_of x ≡ Leaf (number_of x)
to_leaf x one = go (reference x)
  where
    go : IsReference x → reference_of x ≡ Leaf (number_of x)
    go (is_none none is) = absurd (omega arith)
    go (is_leaf some_reference kind is) = is
    go (is_cell some_reference other is) = absurd (other one)

pub to_cell : (x : ℕ) → x ≢ 0 → kind_of x ≢ leaf_kind → reference_of x ≡ Cell x
to_cell x some_reference other = go (reference x)
  where
    go : IsReference x → reference_of x ≡ Cell x
    go (is_none none is) = absurd (some_reference none)
    go (is_leaf some_here one is) = absurd (other one)
    go (is_cell some_here kind is) = is

pub reference_some : (x : ℕ) → x ≢ 0 → reference_of x ≢ Nothing
reference_some x some_reference e = go (reference x)
  where
    go : IsReference x → ⊥
    go (is_none none is) = some_reference none
    go (is_leaf some kind is) = let wrong : Leaf (number_of x) ≡ Nothing = sym is ∙ e in cc
    go (is_cell some kind is) = let wrong : Cell x ≡ Nothing = sym is ∙ e in cc

-- the child below, by its word
below_reference : (w : LayerWords) (cell byte : ℕ) → reference_of (word_below (kind_of cell) (cell_in w cell) byte) ≡ child_below (tree_of w) cell byte
below_reference w cell zero = refl
below_reference w cell (suc byte) =
    let child = children (kind_of cell) (cell_in w cell) byte in
    let rest = word_below (kind_of cell) (cell_in w cell) byte in
    elim (cases_eq child 0) [
      | inl none ↦
          ap (λ a. reference_of (cond a rest child)) (eq-eqb child 0 none) ∙ below_reference w cell byte ∙ sym (ap (λ x. child_or (reference_of x) (child_below (tree_of w) cell byte)) none)
      | inr some_child ↦
          ap (λ a. reference_of (cond a rest child)) (ne_eqb child 0 some_child) ∙ sym (or_some (reference_of child) (child_below (tree_of w) cell byte) (reference_some child some_child))
    ]

least_some : (r : Reference) (depth other : ℕ) → r ≢ Nothing → least_of r depth other ≡ depth + 1
least_some Nothing depth other some_reference = absurd (some_reference refl)
least_some (Leaf i) depth other some_reference = refl
least_some (Cell x) depth other some_reference = refl

-- the better of the two references, and how deep it has to be
other_reference : (lower other : ℕ) → reference_of (cond (lower == 0) other lower) ≡ child_or (reference_of lower) (reference_of other)
other_reference lower other = elim (cases_eq lower 0) [
  | inl none ↦ ap (λ a. reference_of (cond a other lower)) (eq-eqb lower 0 none) ∙ sym (ap (λ x. child_or (reference_of x) (reference_of other)) none)
  | inr some_below ↦ ap (λ a. reference_of (cond a other lower)) (ne_eqb lower 0 some_below) ∙ sym (or_some (reference_of lower) (reference_of other) (reference_some lower some_below))
]

other_deep : (lower depth other_least : ℕ) → cond (lower == 0) other_least (depth + 1) ≡ least_of (reference_of lower) depth other_least
other_deep lower depth other_least = elim (cases_eq lower 0) [
  | inl none ↦ ap (λ a. cond a other_least (depth + 1)) (eq-eqb lower 0 none) ∙ sym (ap (λ x. least_of (reference_of x) depth other_least) none)
  | inr some_below ↦ ap (λ a. cond a other_least (depth + 1)) (ne_eqb lower 0 some_below) ∙ sym (least_some (reference_of lower) depth other_least (reference_some lower some_below))
]

module _ (l : Layout) (ks : List ℕ) (w : LayerWords) (layout : IsLayout l) (is_key : IsKey ks) (fits : (p : LayerWord) → word_in w p < 2 ^ 64) (lawful : IsLawful (leaf_count l) l.nodes w) where
  abbrev t : Tree
  t = tree_of w

  abbrev room : Room
  room = room_of (leaf_count l) l.nodes

  abbrev k : ℕ
  k = key_number ks

  abbrev floor : ℕ → ℕ → ℕ → Bool → FloorAt → Floor
  floor other other_least least last part = record { layout = l; key = ks; other = other; other_least = other_least; least = least; last = last; at = part }

  abbrev Finds : Reference → ℕ → ℕ → ℕ → Type 0
  Finds r other least other_least = Seeks room t lawful.tree k r (reference_of other) least other_least

  abbrev IsFine : Reference → Type 0
  IsFine r = (r ≡ Nothing) ⊎ IsReached t r

  abbrev IsLastOf : ℕ → Type 0
  IsLastOf cell = (i : ℕ) → Reaches t (Cell cell) (Leaf i) → ((j : ℕ) → Reaches t (Cell cell) (Leaf j) → t.key j ≤ t.key i) → IsFinal room t lawful.tree k (Some i)

  abbrev ByLast : Bool → Reference → ℕ → ℕ → ℕ → Type 0
  ByLast true r other least other_least = Lasts room t lawful.tree k r least
  ByLast false r other least other_least = Finds r other least other_least × IsFine (reference_of other)

  abbrev Scans : Bool → ℕ → ℕ → ℕ → ℕ → ℕ → Type 0
  Scans true cell byte other least other_least = (byte ≡ 256) × IsLastOf cell
  Scans false cell byte other least other_least =
      (byte ≡ byte_at (t.depth cell) k) × Finds (Cell cell) other least other_least × IsFine (reference_of other) × (t.prefix cell ≤ k) × (k < t.prefix cell + span (t.depth cell))

  abbrev KnowsAt : ℕ → ℕ → ℕ → Bool → FloorAt → Type 0
  KnowsAt other other_least least last at.Root = (other ≡ 0) × (other_least ≡ 0) × (least ≡ 0) × (last ≡ false)
  KnowsAt other other_least least last (at.Key leaf words word) =
      Finds (Leaf leaf) other least other_least × IsFine (reference_of other) × IsReached t (Leaf leaf) × (last ≡ false) × AreRead (w.leaf leaf) words word
  KnowsAt other other_least least last (at.Node leaf) = IsFinal room t lawful.tree k (Some leaf) × IsReached t (Leaf leaf)
  KnowsAt other other_least least last (at.Depth cell) = ByLast last (Cell cell) other least other_least × IsReached t (Cell cell)
  KnowsAt other other_least least last (at.Prefix cell depth words word) =
      Finds (Cell cell) other least other_least × IsFine (reference_of other) × IsReached t (Cell cell) × (last ≡ false) × (depth ≡ t.depth cell) × AreRead (prefix_words (cell_in w cell)) words word
  KnowsAt other other_least least last (at.Scanning cell depth byte scan) =
      Scans last cell byte other least other_least × IsReached t (Cell cell) × (depth ≡ t.depth cell) × Knows (kind_of cell) byte (cell_in w cell) scan

  abbrev Ends : Turn Floor ℕ → Type 0
  Ends (Go f) = KnowsAt f.other f.other_least f.least f.last f.at
  Ends (Done node) = IsFloorOf (layer_of w) k node

  from_reached : (r : Reference) → IsReached t r → IsSoundFrom room t r
  from_reached r at_r q way = lawful.tree q (join t at_r way)

  leaf_last : (leaf : ℕ) → (j : ℕ) → Reaches t (Leaf leaf) (Leaf j) → t.key j ≤ t.key leaf
  leaf_last leaf j way = subst (λ i. t.key i ≤ t.key leaf) (leaf_reaches t leaf j way) (let same : t.key leaf ≤ t.key leaf = omega arith in same)

  child_fine : (cell byte : ℕ) → IsReached t (Cell cell) → IsFine (t.child cell byte)
  child_fine cell byte reached = elim (is_nothing (t.child cell byte)) [ inl none ↦ inl none | inr some_child ↦ inr (join t reached (below some_child here)) ]

  below_fine : (cell byte : ℕ) → IsReached t (Cell cell) → IsFine (child_below t cell byte)
  below_fine cell byte reached = elim (greatest t cell byte) [ inl g ↦ subst IsFine (sym g.is) (child_fine cell g.byte reached) | inr none ↦ inl none.0 ]

  either_fine : (one other : Reference) → IsFine one → IsFine other → IsFine (child_or one other)
  either_fine Nothing other fine other_fine = other_fine
  either_fine (Leaf i) other fine other_fine = fine
  either_fine (Cell x) other fine other_fine = fine

  -- it comes to a reference that isn't 0
  lands_ends : (x other other_least least : ℕ) (last : Bool) (part : FloorAt) → ByLast last (reference_of x) other least other_least → IsReached t (reference_of x) → Ends (lands (floor other other_least least last part) x)
  lands_ends x other other_least least last part knows reached = go (reference x)
    where
      within_tests : number_of x < leaf_count l → Ends (cond (kind_of x == leaf_kind) (goes_to (floor other other_least least last part) (cond last (at.Node (number_of x)) (at.Key (number_of x) no_words 0)))
          (cond (leb 2 (kind_of x) && leb (kind_of x) 5) (goes_to (floor other other_least least last part) (at.Depth x)) (Done 0))) → Ends (lands (floor other other_least least last part) x)
      within_tests within known = subst (λ a. Ends (cond (not a) (Done 0) (cond (kind_of x == leaf_kind) (goes_to (floor other other_least least last part) (cond last (at.Node (number_of x)) (at.Key (number_of x) no_words 0)))
          (cond (leb 2 (kind_of x) && leb (kind_of x) 5) (goes_to (floor other other_least least last part) (at.Depth x)) (Done 0))))) (sym (lt-ltb (number_of x) (leaf_count l) within)) known

      leaf : (last' : Bool) → ByLast last' (Leaf (number_of x)) other least other_least → IsReached t (Leaf (number_of x)) → Ends (goes_to (floor other other_least least last' part) (cond last' (at.Node (number_of x)) (at.Key (number_of x) no_words 0)))
      leaf true knows' reached' = (knows'.last (number_of x) here (leaf_last (number_of x)), reached')
      leaf false knows' reached' = (knows'.0, knows'.1, reached', refl, λ m lt. absurd (omega arith))

      go : IsReference x → Ends (lands (floor other other_least least last part) x)
      go (is_none none is) = absurd (subst (IsSound room t) is (lawful.tree (reference_of x) reached))
      go (is_leaf some_reference one is) =
          let reached' : IsReached t (Leaf (number_of x)) = subst (IsReached t) is reached in
          let sound : IsLeaf room t (number_of x) = lawful.tree (Leaf (number_of x)) reached' in
          within_tests sound.number (subst (λ a. Ends (cond a (goes_to (floor other other_least least last part) (cond last (at.Node (number_of x)) (at.Key (number_of x) no_words 0)))
          (cond (leb 2 (kind_of x) && leb (kind_of x) 5) (goes_to (floor other other_least least last part) (at.Depth x)) (Done 0)))) (sym (eq-eqb (kind_of x) 1 one))
          (leaf last (subst (λ r. ByLast last r other least other_least) is knows) reached'))
      go (is_cell some_reference kind is) =
          let reached' : IsReached t (Cell x) = subst (IsReached t) is reached in
          let sound : IsCell room t x = lawful.tree (Cell x) reached' in
          let parts = and_parts (leb 2 (kind_of x) && leb (kind_of x) 5) (ltb (number_of x) (leaf_count l)) sound.number in
          within_tests (ltb-true _ _ parts.1) (subst (λ a. Ends (cond a (goes_to (floor other other_least least last part) (cond last (at.Node (number_of x)) (at.Key (number_of x) no_words 0)))
          (cond (leb 2 (kind_of x) && leb (kind_of x) 5) (goes_to (floor other other_least least last part) (at.Depth x)) (Done 0)))) (sym (ne_eqb (kind_of x) 1 kind))
          (subst (λ a. Ends (cond a (goes_to (floor other other_least least last part) (at.Depth x)) (Done 0))) (sym parts.0) (subst (λ r. ByLast last r other least other_least) is knows, reached')))

  -- it goes back
  back_ends : (r : Reference) (other other_least least : ℕ) (part : FloorAt) → Finds r other least other_least → IsFine (reference_of other) → ((j : ℕ) → Reaches t r (Leaf j) → t.key j ≤ k → ⊥) → Ends (back (floor other other_least least false part))
  back_ends r other other_least least part knows fine greater = go (reference other) (goes room t lawful.tree k r (reference_of other) least other_least knows greater)
    where
      lasts : other ≢ 0 → Lasts room t lawful.tree k (reference_of other) other_least → IsReached t (reference_of other) → Ends (back (floor other other_least least false part))
      lasts some_other knows' reached = subst (λ a. Ends (cond a (Done 0) (lands (turns_back (floor other other_least least false part)) other))) (sym (ne_eqb other 0 some_other)) (lands_ends other 0 0 other_least true part knows' reached)

      go : IsReference other → KnowsOn room t lawful.tree k (goes_back (record { at = r; other = reference_of other; least = least; other_least = other_least; last = false }) (reference_of other)) → Ends (back (floor other other_least least false part))
      go (is_none none is) known =
          subst (λ a. Ends (cond a (Done 0) (lands (turns_back (floor other other_least least false part)) other))) (sym (eq-eqb other 0 none))
          (subst (λ q. KnowsOn room t lawful.tree k (goes_back (record { at = r; other = reference_of other; least = least; other_least = other_least; last = false }) q)) is known)
      go (is_leaf some_other one is) known =
          let known' : Lasts room t lawful.tree k (Leaf (number_of other)) other_least = subst (λ q. KnowsOn room t lawful.tree k (goes_back (record { at = r; other = reference_of other; least = least; other_least = other_least; last = false }) q)) is known in
          lasts some_other (subst (λ q. Lasts room t lawful.tree k q other_least) (sym is) known') (elim fine [ inl none ↦ absurd (let wrong : Leaf (number_of other) ≡ Nothing = sym is ∙ none in cc) | inr reached ↦ reached ])
      go (is_cell some_other kind is) known =
          let known' : Lasts room t lawful.tree k (Cell other) other_least = subst (λ q. KnowsOn room t lawful.tree k (goes_back (record { at = r; other = reference_of other; least = least; other_least = other_least; last = false }) q)) is known in
          lasts some_other (subst (λ q. Lasts room t lawful.tree k q other_least) (sym is) known') (elim fine [ inl none ↦ absurd (let wrong : Cell other ≡ Nothing = sym is ∙ none in cc) | inr reached ↦ reached ])

  -- it comes to a reference, or goes back
  enters_ends : (x other other_least least : ℕ) (last : Bool) (part : FloorAt) → ByLast last (reference_of x) other least other_least → IsFine (reference_of x) → Ends (enters (floor other other_least least last part) x)
  enters_ends x other other_least least last part knows fine = elim (cases_eq x 0) [
    | inl none ↦ subst (λ a. Ends (cond a (back (floor other other_least least last part)) (lands (floor other other_least least last part) x))) (sym (eq-eqb x 0 none)) (at_none last (subst (λ y. ByLast last (reference_of y) other least other_least) none knows))
    | inr some_reference ↦
        subst (λ a. Ends (cond a (back (floor other other_least least last part)) (lands (floor other other_least least last part) x))) (sym (ne_eqb x 0 some_reference))
        (lands_ends x other other_least least last part knows (elim fine [ inl nothing ↦ absurd (reference_some x some_reference nothing) | inr reached ↦ reached ]))
  ]
    where
      at_none : (last' : Bool) → ByLast last' Nothing other least other_least → Ends (back (floor other other_least least last' part))
      at_none true knows' = absurd (knows'.sound Nothing here)
      at_none false knows' = back_ends Nothing other other_least least part knows'.0 knows'.1 (λ j way at_most. none_reached t j way)

  scans_ends : (cell depth byte other other_least least : ℕ) (last : Bool) (part : FloorAt) → Scans last cell byte other least other_least → IsReached t (Cell cell) → depth ≡ t.depth cell → byte ≤ 256 → Ends (scans (floor other other_least least last part) cell depth byte)
  scans_ends cell depth byte other other_least least last part knows reached is_depth small =
      let sound : IsCell room t cell = lawful.tree (Cell cell) reached in
      let parts = and_parts (leb 2 (kind_of cell) && leb (kind_of cell) 5) (ltb (number_of cell) (leaf_count l)) sound.number in
      let kinds = and_parts (leb 2 (kind_of cell)) (leb (kind_of cell) 5) parts.0 in
      (knows, reached, is_depth, begins (kind_of cell) byte (cell_in w cell) (leb-true _ _ kinds.0) (leb-true _ _ kinds.1) small)

  -- by what a scan has found
  scanned_ends : (cell depth byte other other_least least : ℕ) (last : Bool) (part : FloorAt) (scanned : Scanned) → Scans last cell byte other least other_least → IsReached t (Cell cell) → depth ≡ t.depth cell → After (kind_of cell) byte (cell_in w cell) scanned
      → Ends (has_scanned (floor other other_least least last part) cell depth byte scanned)
  scanned_ends cell depth byte other other_least least last part (More scan) knows reached is_depth known = (knows, reached, is_depth, known)
  scanned_ends cell depth byte other other_least least true part (Found child below') knows reached is_depth known =
      let is : reference_of below' ≡ child_below t cell 256 = ap reference_of known.1 ∙ below_reference w cell byte ∙ ap (child_below t cell) knows.0 in
      let lasts = goes_last room t lawful.tree k cell (from_reached (Cell cell) reached) knows.1 in
      enters_ends below' 0 0 (depth + 1) true part (subst (λ q. Lasts room t lawful.tree k q (depth + 1)) (sym is) (subst (λ d. Lasts room t lawful.tree k (child_below t cell 256) (d + 1)) (sym is_depth) lasts)) (subst IsFine (sym is) (below_fine cell 256 reached))
  scanned_ends cell depth byte other other_least least false part (Found child below') knows reached is_depth known =
      let child_is : reference_of child ≡ t.child cell (byte_at (t.depth cell) k) = ap reference_of known.0 ∙ ap (t.child cell) knows.0 in
      let below_is : reference_of below' ≡ child_below t cell (byte_at (t.depth cell) k) = ap reference_of known.1 ∙ below_reference w cell byte ∙ ap (child_below t cell) knows.0 in
      let other' = cond (below' == 0) other below' in
      let other_is : reference_of other' ≡ child_or (child_below t cell (byte_at (t.depth cell) k)) (reference_of other) = other_reference below' other ∙ ap (λ r. child_or r (reference_of other)) below_is in
      let deep_is : cond (below' == 0) other_least (depth + 1) ≡ least_of (child_below t cell (byte_at (t.depth cell) k)) (t.depth cell) other_least = other_deep below' depth other_least ∙ ap₂ (λ r d. least_of r d other_least) below_is is_depth in
      let down = down_knows room t lawful.tree k cell (reference_of other) least other_least (from_reached (Cell cell) reached) knows.1 knows.3 knows.4 in
      let seeks : Seeks room t lawful.tree k (reference_of child) (reference_of other') (depth + 1) (cond (below' == 0) other_least (depth + 1)) =
      subst (λ q. Seeks room t lawful.tree k q (reference_of other') (depth + 1) (cond (below' == 0) other_least (depth + 1))) (sym child_is)
      (subst (λ q. Seeks room t lawful.tree k (t.child cell (byte_at (t.depth cell) k)) q (depth + 1) (cond (below' == 0) other_least (depth + 1))) (sym other_is)
      (subst (λ d. Seeks room t lawful.tree k (t.child cell (byte_at (t.depth cell) k)) (child_or (child_below t cell (byte_at (t.depth cell) k)) (reference_of other)) (depth + 1) d) (sym deep_is)
      (subst (λ d. Seeks room t lawful.tree k (t.child cell (byte_at (t.depth cell) k)) (child_or (child_below t cell (byte_at (t.depth cell) k)) (reference_of other)) (d + 1) (least_of (child_below t cell (byte_at (t.depth cell) k)) (t.depth cell) other_least)) (sym is_depth) down))) in
      let other_fine : IsFine (reference_of other') = subst IsFine (sym other_is) (either_fine (child_below t cell (byte_at (t.depth cell) k)) (reference_of other) (below_fine cell (byte_at (t.depth cell) k) reached) knows.2) in
      enters_ends child other' (cond (below' == 0) other_least (depth + 1)) (depth + 1) false part (seeks, other_fine) (subst IsFine (sym child_is) (child_fine cell (byte_at (t.depth cell) k) reached))

  -- a leaf whose key is at most its own
  leaf_final : (leaf other other_least least : ℕ) → Finds (Leaf leaf) other least other_least → t.key leaf ≤ k → IsFinal room t lawful.tree k (Some leaf)
  leaf_final leaf other other_least least knows at_most = knows.best (Some leaf) (record {
    among = inl here;
    at_most = at_most;
    most = λ j among low. elim among [ inl at_leaf ↦ leaf_last leaf j at_leaf | inr at_other ↦ let lower = knows.before.before j leaf at_other here in omega arith ];
  })

  -- by a leaf's key
  key_ends : (leaf other other_least least : ℕ) (last : Bool) (part : FloorAt) (words : List ℕ) → key_number words ≡ t.key leaf → Finds (Leaf leaf) other least other_least → IsFine (reference_of other) → IsReached t (Leaf leaf) → last ≡ false
      → Ends (has_key (floor other other_least least last part) leaf words)
  key_ends leaf other other_least least last part words key_is knows fine reached not_last =
      elim (leb (key_number words) k) as (λ a. leb (key_number words) k ≡ a → Ends (cond a (goes_to (floor other other_least least last part) (at.Node leaf)) (back (floor other other_least least last part)))) [
        | true ↦ λ e. let at_most : t.key leaf ≤ k = subst (λ n. n ≤ k) key_is (leb-true _ _ e) in (leaf_final leaf other other_least least knows at_most, reached)
        | false ↦ λ e. let above : k < t.key leaf = subst (λ n. k < n) key_is (leb-false _ _ e) in
            subst (λ b. Ends (back (floor other other_least least b part))) (sym not_last)
            (back_ends (Leaf leaf) other other_least least part knows fine (λ j way at_most. let same = leaf_reaches t leaf j way in let low : t.key leaf ≤ k = subst (λ i. t.key i ≤ k) (sym same) at_most in omega arith))
      ] refl

  -- by a cell's prefix
  prefix_ends : (cell depth other other_least least : ℕ) (last : Bool) (part : FloorAt) (prefix : List ℕ) → key_number prefix ≡ t.prefix cell → Finds (Cell cell) other least other_least → IsFine (reference_of other) → IsReached t (Cell cell) → last ≡ false → depth ≡ t.depth cell
      → Ends (floors.has_prefix (floor other other_least least last part) cell depth prefix)
  prefix_ends cell depth other other_least least last part prefix is_prefix knows fine reached not_last is_depth =
      subst (λ b. Ends (floors.has_prefix (floor other other_least least b part) cell depth prefix)) (sym not_last)
      (elim (leb (key_number prefix) k) as (λ a. leb (key_number prefix) k ≡ a → Ends (cond a (cond (first_bytes depth k * span depth == key_number prefix) (scans (floor other other_least least false part) cell depth (byte_at depth k))
      (scans (wants_last (floor other other_least least false part)) cell depth 256)) (back (floor other other_least least false part)))) [
        | false ↦ λ e. let less = leb-false _ _ e in
            back_ends (Cell cell) other other_least least part knows fine (λ j way at_most. let inside = within room t sound way in let low = inside.least in omega arith)
        | true ↦ λ e. let least_key = leb-true _ _ e in
            elim (first_bytes depth k * span depth == key_number prefix) as (λ a. (first_bytes depth k * span depth == key_number prefix) ≡ a → Ends (cond a (scans (floor other other_least least false part) cell depth (byte_at depth k))
            (scans (wants_last (floor other other_least least false part)) cell depth 256))) [
              | true ↦ λ g.
                  let same : first_bytes (t.depth cell) k * span (t.depth cell) ≡ t.prefix cell = sym trimmed_is ∙ eqb-true _ _ g ∙ is_prefix in
                  let high : k < t.prefix cell + span (t.depth cell) = subst (λ p. k < p + span (t.depth cell)) same key_high in
                  scans_ends cell depth (byte_at depth k) other other_least least false part (ap (λ d. byte_at d k) is_depth, knows, fine, (let le : t.prefix cell ≤ k = omega arith in le), high) reached is_depth (byte_most depth)
              | false ↦ λ g.
                  let apart = eqb-false _ _ g in
                  let past : t.prefix cell + span (t.depth cell) ≤ k = past_end (λ same. apart (trimmed_is ∙ same ∙ sym is_prefix)) (omega arith) in
                  scans_ends cell depth 256 0 0 least true part (
                    refl,
                    λ i at_i most. knows.best (Some i) (record {
                      among = inl at_i;
                      at_most = (let inside = within room t sound at_i in let top = inside.most in let one = span_last in let low : t.key i ≤ k = omega arith in low);
                      most = λ j among at_most. elim among [ inl at_cell ↦ most j at_cell | inr at_other ↦ let lower = knows.before.before j i at_other at_i in omega arith ];
                    }),
                  ) reached is_depth (let le : 256 ≤ 256 = omega arith in le)
            ] refl
      ] refl)
    where
      sound : IsSoundFrom room t (Cell cell)
      sound = from_reached (Cell cell) reached

      cell_is : IsCell room t cell
      cell_is = lawful.tree (Cell cell) reached

      trimmed_is : first_bytes depth k * span depth ≡ first_bytes (t.depth cell) k * span (t.depth cell)
      trimmed_is = ap (λ d. first_bytes d k * span d) is_depth

      key_high : k < first_bytes (t.depth cell) k * span (t.depth cell) + span (t.depth cell)
      key_high = subst (λ q. k < q * span (t.depth cell) + span (t.depth cell)) (sym (first_is (t.depth cell) k)) (lt-div-mul-add {a = k} {b = span (t.depth cell)} (span_pos (t.depth cell)))

      key_low : first_bytes (t.depth cell) k * span (t.depth cell) ≤ k
      key_low = subst (λ q. q * span (t.depth cell) ≤ k) (sym (first_is (t.depth cell) k)) (div-mul-le_self k (span (t.depth cell)))

      -- a key with other first bytes that isn't less is past the cell
      past_end : (first_bytes (t.depth cell) k * span (t.depth cell) ≢ t.prefix cell) → t.prefix cell ≤ k → t.prefix cell + span (t.depth cell) ≤ k
      past_end apart le =
          let s = span (t.depth cell) in
          let a = first_bytes (t.depth cell) k in
          let f = first_bytes (t.depth cell) (t.prefix cell) in
          let zeros : f * s ≡ t.prefix cell = cell_is.zeros in
          let more : f < a = elim (cases_lt f a) [
            | inl lt ↦ lt
            | inr ge ↦ absurd (elim (cases_eq f a) [
              | inl same ↦ apart (ap (λ q. q * s) (sym same) ∙ zeros)
              | inr other' ↦
                  let less : a + 1 ≤ f = omega (arith, other') in
                  let up : (a + 1) * s ≤ f * s = mul-le-mul_right s less in
                  let next : (a + 1) * s ≡ a * s + s = add-mul a 1 s ∙ ap (λ q. a * s + q) (one-mul s) in
                  let high = key_high in omega arith
            ])
          ] in
          let up : (f + 1) * s ≤ a * s = mul-le-mul_right s (let le' : f + 1 ≤ a = omega arith in le') in
          let next : (f + 1) * s ≡ f * s + s = add-mul f 1 s ∙ ap (λ q. f * s + q) (one-mul s) in
          let low = key_low in
          omega arith

      byte_most : (depth' : ℕ) → byte_at depth' k ≤ 256
      byte_most depth' = let small = byte_small depth' k in omega arith

  depth_ends : (cell other other_least least : ℕ) (last : Bool) (part : FloorAt) → ByLast last (Cell cell) other least other_least → IsReached t (Cell cell) → Ends (floors.has_depth (floor other other_least least last part) cell (t.depth cell))
  depth_ends cell other other_least least last part knows reached =
      subst (λ a. Ends (cond (a || leb key_bytes (t.depth cell)) (Done 0) (cond last (scans (floor other other_least least last part) cell (t.depth cell) 256) (goes_to (floor other other_least least last part) (at.Prefix cell (t.depth cell) no_words 0))))) (sym (le-ltb (t.depth cell) least (deep last knows)))
      (subst (λ a. Ends (cond a (Done 0) (cond last (scans (floor other other_least least last part) cell (t.depth cell) 256) (goes_to (floor other other_least least last part) (at.Prefix cell (t.depth cell) no_words 0))))) (sym (lt-leb key_bytes (t.depth cell) (lawful.tree (Cell cell) reached).depth))
      (go last knows))
    where
      deep : (last' : Bool) → ByLast last' (Cell cell) other least other_least → least ≤ t.depth cell
      deep true knows' = knows'.deep
      deep false knows' = knows'.0.deep

      go : (last' : Bool) → ByLast last' (Cell cell) other least other_least → Ends (cond last' (scans (floor other other_least least last' part) cell (t.depth cell) 256) (goes_to (floor other other_least least last' part) (at.Prefix cell (t.depth cell) no_words 0)))
      go true knows' = scans_ends cell (t.depth cell) 256 other other_least least true part (refl, knows'.last) reached refl (let le : 256 ≤ 256 = omega arith in le)
      go false knows' = (knows'.0, knows'.1, reached, refl, refl, λ m lt. absurd (omega arith))

  -- a step, told the word for which it asks
  turn_ends : (other other_least least : ℕ) (last : Bool) (part : FloorAt) → IsFloor (floor other other_least least last part) → KnowsAt other other_least least last part → Ends (floor_at_turned (floor other other_least least last part) part (word_in w (floor_word part)))
  turn_ends other other_least least last at.Root is knows =
      let root_fine : IsFine (reference_of w.root) = inr here in
      let none : reference_of other ≡ Nothing = ap reference_of knows.0 in
      let starts' : Seeks room t lawful.tree k (reference_of w.root) Nothing 0 0 = record { fine = inr lawful.tree; before = nothing_before room t k; best = λ result best. best; deep = omega arith; other_deep = omega arith } in
      let start : Seeks room t lawful.tree k (reference_of w.root) (reference_of other) least other_least =
      subst (λ r. Seeks room t lawful.tree k (reference_of w.root) r least other_least) (sym none) (subst (λ d. Seeks room t lawful.tree k (reference_of w.root) Nothing least d) (sym knows.1) (subst (λ d. Seeks room t lawful.tree k (reference_of w.root) Nothing d 0) (sym knows.2) starts')) in
      enters_ends w.root other other_least least last at.Root (subst (λ b. ByLast b (reference_of w.root) other least other_least) (sym knows.3) (start, inl none)) root_fine
  turn_ends other other_least least last (at.Key leaf words word) is knows =
      let got = w.leaf leaf word in
      let within : word < WORDS = is.here.3 in
      let read : AreRead (w.leaf leaf) (slice_set words word got) (word + 1) = reads_on (w.leaf leaf) words word is.here.2 within knows.4 in
      elim (word + 1 == WORDS) as (λ a. (word + 1 == WORDS) ≡ a → Ends (cond a (has_key (floor other other_least least last (at.Key leaf words word)) leaf (slice_set words word got)) (goes_to (floor other other_least least last (at.Key leaf words word)) (at.Key leaf (slice_set words word got) (word + 1))))) [
        | true ↦ λ e. key_ends leaf other other_least least last (at.Key leaf words word) (slice_set words word got) (read_number (w.leaf leaf) (slice_set words word got) (subst (AreRead (w.leaf leaf) (slice_set words word got)) (eqb-true _ _ e) read)) knows.0 knows.1 knows.2 knows.3
        | false ↦ λ e. (knows.0, knows.1, knows.2, knows.3, read)
      ] refl
  turn_ends other other_least least last (at.Node leaf) is knows = ends room t lawful.tree k leaf knows.0 (lawful.tree (Leaf leaf) knows.1)
  turn_ends other other_least least last (at.Depth cell) is knows = depth_ends cell other other_least least last (at.Depth cell) knows.0 knows.1
  turn_ends other other_least least last (at.Prefix cell depth words word) is knows =
      let prefix = prefix_words (cell_in w cell) in
      let got = prefix word in
      let within : word < WORDS = is.here.4 in
      let read : AreRead prefix (slice_set words word got) (word + 1) = reads_on prefix words word is.here.3 within knows.5 in
      elim (word + 1 == WORDS) as (λ a. (word + 1 == WORDS) ≡ a → Ends (cond a (floors.has_prefix (floor other other_least least last (at.Prefix cell depth words word)) cell depth (slice_set words word got)) (goes_to (floor other other_least least last (at.Prefix cell depth words word)) (at.Prefix cell depth (slice_set words word got) (word + 1))))) [
        | true ↦ λ e. prefix_ends cell depth other other_least least last (at.Prefix cell depth words word) (slice_set words word got) (read_number prefix (slice_set words word got) (subst (AreRead prefix (slice_set words word got)) (eqb-true _ _ e) read)) knows.0 knows.1 knows.2 knows.3 knows.4
        | false ↦ λ e. (knows.0, knows.1, knows.2, knows.3, knows.4, read)
      ] refl
  turn_ends other other_least least last (at.Scanning cell depth byte scan) is knows =
      let form = lawful.forms cell knows.1 in
      scanned_ends cell depth byte other other_least least last (at.Scanning cell depth byte scan) (scan_told (kind_of cell) byte scan (cell_in w cell (scan_offset (kind_of cell) byte scan))) knows.0 knows.1 knows.2
      (told (kind_of cell) byte (cell_in w cell) scan is.here.2 form knows.3)

  -- all
  goes_on : (times left : ℕ) → ((f : Floor) → IsFloor f → f.layout ≡ l → f.key ≡ ks → KnowsAt f.other f.other_least f.least f.last f.at → floor_left f < left → IsSomeAnd (answer_in times (floor_turn w) f) (IsFloorOf (layer_of w) k)) → (turn : Turn Floor ℕ)
      → FloorAfter l ks left turn → Ends turn → IsSomeAnd (turn_answer turn (answer_in times (floor_turn w))) (IsFloorOf (layer_of w) k)
  goes_on times left inner (Go f) after known = inner f after.0 after.1 after.2 known after.3
  goes_on times left inner (Done node) after known = known

  made : (f : Floor) → f.layout ≡ l → f.key ≡ ks → floor f.other f.other_least f.least f.last f.at ≡ f
  made f is_layout is_key' = λ i. record { layout = sym is_layout i; key = sym is_key' i; other = f.other; other_least = f.other_least; least = f.least; last = f.last; at = f.at }

  answers : (times : ℕ) (f : Floor) → IsFloor f → f.layout ≡ l → f.key ≡ ks → KnowsAt f.other f.other_least f.least f.last f.at → floor_left f < times → IsSomeAnd (answer_in times (floor_turn w) f) (IsFloorOf (layer_of w) k)
  answers zero f is is_layout is_key' knows less = absurd (omega arith)
  answers (suc times) f is is_layout is_key' knows less =
      let same = made f is_layout is_key' in
      let got = word_in w (floor_word f.at) in
      let after : FloorAfter l ks (floor_left f) (floor_turned f got) = subst (λ key. FloorAfter l key (floor_left f) (floor_turned f got)) is_key' (subst (λ layout. FloorAfter layout f.key (floor_left f) (floor_turned f got)) is_layout (floor_stays f got (is, fits (floor_word f.at)))) in
      let known : Ends (floor_turned f got) = subst (λ g. Ends (floor_turned g got)) same (turn_ends f.other f.other_least f.least f.last f.at (subst IsFloor (sym same) is) knows) in
      goes_on times (floor_left f) (λ next next_is a b next_knows fewer. answers times next next_is a b next_knows (omega arith)) (floor_turned f got) after known

pub floor_is_exact : FloorIsExact
floor_is_exact l key w times enough layout is_key fits lawful =
    let left : floor_left (floor_starts l key) < floor_most = omega arith in
    answers l key w layout is_key fits lawful times (floor_starts l key) (record { layout = layout; key = is_key; here = (refl, refl) }) refl refl (refl, refl, refl, refl) (omega arith)
