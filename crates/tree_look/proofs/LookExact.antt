-- So long as the words stay as they are, a look finds the end of its key's way.
use Rattle.std.proofs.Common.{◌≡◌, ◌≢◌, ℕ, zero, suc, ◌+◌, ◌*◌, ◌/◌, ◌%◌, ◌^◌, ◌<◌, ◌≤◌, ◌==◌, ◌&&◌, ◌||◌, not, true, false, cond, ltb, leb, List, slice_index, slice_set, inl, inr, refl, sym, subst, ap, ◌∙◌, arith, le-ltb, lt-ltb}
use Rattle.std.specs.Prelude.{IsSomeAnd}
use Rattle.std.proofs.lemmas.Bool.{cases_eq, eqb-true, eqb-false, eq-eqb, ne_eqb, ltb-true, leb-true, lt-leb, and_parts}
use Rattle.pm_words.specs.Offsets.{prefix_offset}
use Rattle.pm_words.specs.declared.layout.Layout.{Layout}
use Rattle.pm_words.specs.declared.machine.Turn.{Turn}
use Rattle.pm_words.specs.declared.machine.Turn.TheVariants.{Go, Done}
use Rattle.pm_words.specs.Layouts.{IsLayout}
use Rattle.pm_words.specs.Locations.{leaf_count}
use Rattle.pm_words.specs.Codes.{leaf_kind}
use Rattle.tree_law.specs.Trees.{Nothing, Leaf, Cell, Tree, here, IsReached, Room, IsLeaf, IsCell, IsSound, span, first_bytes, byte_at, depth_of, low}
use Rattle.cat_key.specs.declared.TheConstants.{WORDS}
use Rattle.radix_nodes.specs.Keys.{key_bytes}
use Rattle.radix_nodes.specs.Cells.{prefix_words}
use Rattle.radix_nodes.specs.Changes.{with_word, IsCellStore}
use Rattle.tree_law.specs.Switches.{Place, Root, Entry, reference_at}
use Rattle.tree_law.specs.Paths.{Comes, begins, goes_on, PartsAt}
use Rattle.tree_law.specs.Words.{LayerWord, RootWord, LeafWord, CellWord, LayerWords, word_in, kind_of, number_of, reference_of, cell_in, tree_of, room_of, IsLawful, Stored, IsSwitchStore}
use Rattle.tree_law.specs.Words as words
use Rattle.tree_law.proofs.Spans.{first_of_prefix, byte_small}
use Rattle.tree_law.proofs.SwitchLaw.{below_old}
use Rattle.tree_law.proofs.PathLaw.{comes_place}
use Rattle.layer_map.specs.Keys.{key_number, IsKey}
use Rattle.tree_floor.specs.Floors.{no_words}
use Rattle.tree_floor.proofs.KeyNumbers.{number_below}
use Rattle.tree_floor.proofs.KeyWords.{key_set, AreRead, reads_on, read_number}
use Rattle.tree_floor.proofs.FloorExact.{IsReference, is_none, is_leaf, is_cell, reference, reference_some, to_leaf}
use Rattle.tree_look.specs.declared.find.Findings.{Findings}
use Rattle.tree_look.specs.declared.find.Findings.TheVariants.{More, Found, Absent}
use Rattle.tree_look.specs.declared.look.Look.{Look}
use Rattle.tree_look.specs.declared.look.LookAt.{LookAt}
use Rattle.tree_look.specs.declared.look.LookAt.TheVariants as at
use Rattle.tree_look.specs.declared.look.Spot.{Spot}
use Rattle.tree_look.specs.declared.look.Looked.{Looked}
use Rattle.tree_look.specs.declared.look.Looked.TheVariants as looked
use Rattle.tree_look.specs.Finds.{find_starts, find_offset, find_told}
use Rattle.tree_look.specs.FindLaws.{IsAt}
use Rattle.tree_look.specs.Depths.{shared_of}
use Rattle.tree_look.specs.Looks as looks
use Rattle.tree_look.specs.Looks.{look_word, root_spot, look_starts, goes_to, lands, has_found, look_at_turned, look_turned, IsSpot, IsLook, look_left, look_most}
use Rattle.tree_look.specs.LookLaws.{LookAfter, spot_word, IsHeld, IsOuter, at_root, in_cell, IsLooked, look_turn, LookIsExact}
use Rattle.tree_floor.specs.Telling.{turn_answer, answer_in}
use Rattle.tree_look.proofs.FindLaw.{Knows, After, told, starts}
use Rattle.tree_look.proofs.DepthLaw.{keys_part, parts_before}
use Rattle.tree_look.proofs.LookStays.{look_stays}

-- the byte at which something parts from the key
parted_byte : (other depth : ℕ) → depth < key_bytes → looks.byte_parted other depth ≡ byte_at depth other
parted_byte other depth lt = ap (λ a. cond a (byte_at depth other) 0) (lt-ltb depth key_bytes lt)

-- a key's number is that of as many bytes
key_below : (words : List ℕ) → IsKey words → key_number words < 256 ^ key_bytes
key_below words is = number_below (slice_index words) is.fits

-- a store of a word of a cell, as its words
pub cells_same : (w w' : LayerWords) (x offset word : ℕ) → Stored w w' (CellWord (kind_of x) (number_of x) offset) word → with_word (cell_in w x) offset word ≡ cell_in w' x
cells_same w w' x offset word stored i p = words' p i
  where
    words' : (p : ℕ) → with_word (cell_in w x) offset word p ≡ cell_in w' x p
    words' p = elim (cases_eq p offset) [
      | inl same ↦ ap (λ a. cond a word (cell_in w x p)) (eq-eqb p offset same) ∙ sym stored.here ∙ ap (cell_in w' x) (sym same)
      | inr apart ↦ ap (λ a. cond a word (cell_in w x p)) (ne_eqb p offset apart) ∙ sym (stored.others (CellWord (kind_of x) (number_of x) p) (λ e. apart (let same : p ≡ offset = cc in same)))
    ]

module _ (l : Layout) (ks : List ℕ) (w : LayerWords) (layout : IsLayout l) (is_key : IsKey ks) (fits : (p : LayerWord) → word_in w p < 2 ^ 64) (lawful : IsLawful (leaf_count l) l.nodes w) where
  abbrev t : Tree
  t = tree_of w

  abbrev room : Room
  room = room_of (leaf_count l) l.nodes

  abbrev k : ℕ
  k = key_number ks

  abbrev look : ℕ → Spot → Spot → LookAt → Look
  look least outer inner part = record { layout = l; key = ks; least = least; outer = outer; inner = inner; at = part }

  record KnownAt (outer inner : Spot) (r : ℕ) : Type 0 where
    pub place : Place
    pub held : IsHeld w k inner r place
    pub outer_is : IsOuter w k outer inner place

  reached : (outer inner : Spot) (r : ℕ) → KnownAt outer inner r → IsReached t (reference_of r)
  reached outer inner r known =
      let held = known.held in
      subst (λ q. IsReached t q) held.at (below_old t known.place (reference_at t known.place) (comes_place t k known.place held.comes) (λ e. reference_some r held.some_reference (sym held.at ∙ e)) here)

  abbrev IsOn : ℕ → Type 0
  IsOn cell = first_bytes (t.depth cell) k ≡ first_bytes (t.depth cell) (t.prefix cell)

  abbrev KnowsAt : ℕ → Spot → Spot → LookAt → Type 0
  KnowsAt least outer inner at.Root = (inner ≡ root_spot) × (least ≡ 0)
  KnowsAt least outer inner (at.Key leaf words word) = KnownAt outer inner (2 ^ 16 + leaf) × AreRead (w.leaf leaf) words word
  KnowsAt least outer inner (at.Depth cell) = KnownAt outer inner cell × (reference_of cell ≡ Cell cell) × (least ≤ t.depth cell)
  KnowsAt least outer inner (at.Prefix cell depth words word) = KnownAt outer inner cell × (reference_of cell ≡ Cell cell) × (depth ≡ t.depth cell) × AreRead (prefix_words (cell_in w cell)) words word
  KnowsAt least outer inner (at.Finding cell depth find) = KnownAt outer inner cell × (reference_of cell ≡ Cell cell) × (depth ≡ t.depth cell) × IsOn cell × Knows (kind_of cell) (byte_at depth k) (cell_in w cell) find

  abbrev Ends : Turn Look Looked → Type 0
  Ends (Go f) = KnowsAt f.least f.outer f.inner f.at
  Ends (Done answer) = IsLooked w k answer

  cell_reached : (outer inner : Spot) (cell : ℕ) → KnownAt outer inner cell → reference_of cell ≡ Cell cell → IsReached t (Cell cell)
  cell_reached outer inner cell known is = subst (IsReached t) is (reached outer inner cell known)

  lands_ends : (r least : ℕ) (outer inner : Spot) (part : LookAt) → KnownAt outer inner r → least ≤ depth_of t (reference_of r) → Ends (lands (look least outer inner part) r)
  lands_ends r least outer inner part known deep = go (reference r)
    where
      within_tests : number_of r < leaf_count l → Ends (cond (kind_of r == leaf_kind) (goes_to (look least outer inner part) (at.Key (number_of r) no_words 0)) (cond (leb 2 (kind_of r) && leb (kind_of r) 5) (goes_to (look least outer inner part) (at.Depth r)) (Done looked.Wrong)))
          → Ends (lands (look least outer inner part) r)
      within_tests within known' = subst (λ a. Ends (cond (not a) (Done looked.Wrong) (cond (kind_of r == leaf_kind) (goes_to (look least outer inner part) (at.Key (number_of r) no_words 0)) (cond (leb 2 (kind_of r) && leb (kind_of r) 5) (goes_to (look least outer inner part) (at.Depth r)) (Done looked.Wrong))))) (sym (lt-ltb (number_of r) (leaf_count l) within)) known'

      at_r : IsReached t (reference_of r)
      at_r = reached outer inner r known

      go : IsReference r → Ends (lands (look least outer inner part) r)
      go (is_none none is) = absurd (known.held.some_reference none)
      go (is_leaf some_reference one is) =
          let sound : IsLeaf room t (number_of r) = lawful.tree (Leaf (number_of r)) (subst (IsReached t) is at_r) in
          let same : r ≡ 2 ^ 16 + number_of r = omega arith in
          within_tests sound.number (subst (λ a. Ends (cond a (goes_to (look least outer inner part) (at.Key (number_of r) no_words 0)) (cond (leb 2 (kind_of r) && leb (kind_of r) 5) (goes_to (look least outer inner part) (at.Depth r)) (Done looked.Wrong)))) (sym (eq-eqb (kind_of r) 1 one))
          (subst (KnownAt outer inner) same known, λ m lt. absurd (omega arith)))
      go (is_cell some_reference kind is) =
          let sound : IsCell room t r = lawful.tree (Cell r) (subst (IsReached t) is at_r) in
          let parts = and_parts (leb 2 (kind_of r) && leb (kind_of r) 5) (ltb (number_of r) (leaf_count l)) sound.number in
          within_tests (ltb-true _ _ parts.1) (subst (λ a. Ends (cond a (goes_to (look least outer inner part) (at.Key (number_of r) no_words 0)) (cond (leb 2 (kind_of r) && leb (kind_of r) 5) (goes_to (look least outer inner part) (at.Depth r)) (Done looked.Wrong)))) (sym (ne_eqb (kind_of r) 1 kind))
          (subst (λ a. Ends (cond a (goes_to (look least outer inner part) (at.Depth r)) (Done looked.Wrong))) (sym parts.0) (known, is, subst (λ q. least ≤ depth_of t q) is deep)))

  -- the root's word
  root_known : (outer : Spot) → KnownAt outer root_spot w.root
  root_known outer = record {
    place = Root;
    held = record {
      comes = begins;
      at = refl;
      some_reference = λ e. lawful_root (ap reference_of e);
      stands = (refl, refl);
      word = (let same : w.root ≡ 0 + w.root = omega arith in same);
      store = λ w' other some_other fits' stored. words.at_root (subst (Stored w w' RootWord) (let same : 0 + other ≡ other = omega arith in same) stored) (reference_some other some_other);
      clears = λ x b wrong. absurd (cc);
    };
    outer_is = at_root;
  }
    where
      lawful_root : reference_of w.root ≡ Nothing → ⊥
      lawful_root e = subst (IsSound room t) e (lawful.tree (reference_of w.root) here)

  -- a leaf's key
  key_ends : (leaf least : ℕ) (outer inner : Spot) (part : LookAt) (other : List ℕ) → IsKey other → key_number other ≡ t.key leaf → leaf < leaf_count l → KnownAt outer inner (2 ^ 16 + leaf) → Ends (looks.has_key (look least outer inner part) leaf other)
  key_ends leaf least outer inner part other is_other same within known =
      let most : l.nodes ≤ 4096 = layout.nodes.1 in
      let kind : (2 ^ 16 + leaf) / 2 ^ 16 ≡ 1 = omega arith in
      let number : (2 ^ 16 + leaf) % 2 ^ 16 ≡ leaf = omega arith in
      let leaf_is : reference_of (2 ^ 16 + leaf) ≡ Leaf leaf = leaf_reference (2 ^ 16 + leaf) leaf (λ z. omega arith) kind number in
      elim (k == key_number other) as (λ a. (k == key_number other) ≡ a → Ends (cond a (Done (looked.Key outer inner leaf)) (looks.parts (look least outer inner part) (2 ^ 16 + leaf) other))) [
        | true ↦ λ e. (sym same ∙ sym (eqb-true _ _ e), (known.place, known.held, known.outer_is), leaf_is)
        | false ↦ λ e.
            let parts = keys_part k (key_number other) (key_below ks is_key) (key_below other is_other) (eqb-false _ _ e) in
            let is = leaf_is in (
              (known.place, known.held),
              subst (λ q. PartsAt (shared_of k (key_number other)) k (low t q)) (sym is) (subst (PartsAt (shared_of k (key_number other)) k) same parts.1),
              subst (λ q. shared_of k (key_number other) < depth_of t q) (sym is) parts.0,
              subst (λ q. looks.byte_parted (key_number other) (shared_of k (key_number other)) ≡ byte_at (shared_of k (key_number other)) (low t q)) (sym is) (parted_byte (key_number other) (shared_of k (key_number other)) parts.0 ∙ ap (byte_at (shared_of k (key_number other))) same),
            )
      ] refl
    where
      leaf_reference : (r i : ℕ) → r ≢ 0 → kind_of r ≡ leaf_kind → number_of r ≡ i → reference_of r ≡ Leaf i
      leaf_reference r i some_reference kind number = to_leaf r kind ∙ ap Leaf number

  -- a cell's prefix
  prefix_ends : (cell depth least : ℕ) (outer inner : Spot) (part : LookAt) (prefix : List ℕ) → IsKey prefix → key_number prefix ≡ t.prefix cell → KnownAt outer inner cell → reference_of cell ≡ Cell cell → depth ≡ t.depth cell
      → Ends (looks.has_prefix (look least outer inner part) cell depth prefix)
  prefix_ends cell depth least outer inner part prefix is_prefix same known is is_depth =
      let sound : IsCell room t cell = lawful.tree (Cell cell) (cell_reached outer inner cell known is) in
      let first_is' : first_bytes depth k * span depth ≡ first_bytes (t.depth cell) k * span (t.depth cell) = ap (λ d. first_bytes d k * span d) is_depth in
      let parts_kinds = and_parts (leb 2 (kind_of cell) && leb (kind_of cell) 5) (ltb (number_of cell) (leaf_count l)) sound.number in
      let kinds = and_parts (leb 2 (kind_of cell)) (leb (kind_of cell) 5) parts_kinds.0 in
      let d = t.depth cell in
      elim (first_bytes depth k * span depth == key_number prefix) as (λ a. (first_bytes depth k * span depth == key_number prefix) ≡ a → Ends (cond a (goes_to (look least outer inner part) (at.Finding cell depth (find_starts (kind_of cell)))) (looks.parts (look least outer inner part) cell prefix))) [
        | true ↦ λ e.
            let whole : first_bytes d k * span d ≡ t.prefix cell = sym first_is' ∙ eqb-true _ _ e ∙ same in
            let on : first_bytes d k ≡ first_bytes d (t.prefix cell) = sym (first_of_prefix d (first_bytes d k)) ∙ ap (first_bytes d) whole in
            (known, is, is_depth, on, (starts (kind_of cell) (byte_at depth k) (cell_in w cell) (leb-true _ _ kinds.0) (leb-true _ _ kinds.1)).knows)
        | false ↦ λ e.
            let apart = eqb-false _ _ e in
            let differ : first_bytes d k ≢ first_bytes d (t.prefix cell) = λ alike. apart (first_is' ∙ ap (λ f. f * span d) alike ∙ sound.zeros ∙ sym same) in
            let parts = keys_part k (key_number prefix) (key_below ks is_key) (key_below prefix is_prefix) (λ equal. differ (ap (first_bytes d) (equal ∙ same))) in
            let parts' : PartsAt (shared_of k (key_number prefix)) k (t.prefix cell) = subst (PartsAt (shared_of k (key_number prefix)) k) same parts.1 in (
              (known.place, known.held),
              subst (λ q. PartsAt (shared_of k (key_number prefix)) k (low t q)) (sym is) parts',
              subst (λ q. shared_of k (key_number prefix) < depth_of t q) (sym is) (parts_before d (shared_of k (key_number prefix)) k (t.prefix cell) sound.depth parts' differ),
              subst (λ q. looks.byte_parted (key_number prefix) (shared_of k (key_number prefix)) ≡ byte_at (shared_of k (key_number prefix)) (low t q)) (sym is) (parted_byte (key_number prefix) (shared_of k (key_number prefix)) parts.0 ∙ ap (byte_at (shared_of k (key_number prefix))) same),
            )
      ] refl

  -- what it has found in a cell
  found_ends : (cell depth least : ℕ) (outer inner : Spot) (part : LookAt) (found : Findings) → KnownAt outer inner cell → reference_of cell ≡ Cell cell → depth ≡ t.depth cell → IsOn cell → After (kind_of cell) (byte_at depth k) (cell_in w cell) found
      → Ends (has_found (look least outer inner part) cell depth found)
  found_ends cell depth least outer inner part (More find) known is is_depth on after = (known, is, is_depth, on, after)
  found_ends cell depth least outer inner part (Found offset high r) known is is_depth on after =
      let b = byte_at (t.depth cell) k in
      let byte_is : byte_at depth k ≡ b = ap (λ d. byte_at d k) is_depth in
      let at' : IsAt (kind_of cell) (cell_in w cell) b offset high r = subst (λ c. IsAt (kind_of cell) (cell_in w cell) c offset high r) byte_is after in
      let spot : Spot = record { cell = cell; offset = offset; high = high } in
      let some_cell : cell ≢ 0 = known.held.some_reference in
      let spot_is : spot_word spot ≡ CellWord (kind_of cell) (number_of cell) offset = ap (λ a. cond a RootWord (CellWord (kind_of cell) (number_of cell) offset)) (ne_eqb cell 0 some_cell) in
      let next : KnownAt inner spot r = record {
        place = Entry cell b;
        held = record {
          comes = goes_on known.held.comes (known.held.at ∙ is) on;
          at = ap reference_of at'.child;
          some_reference = at'.some_child;
          stands = (refl, some_cell, at');
          word = ap (word_in w) spot_is ∙ at'.word;
          store = λ w' other some_other fits' stored. set_in cell b offset (high + other) other w' (at'.store other some_other fits') (subst (λ p. Stored w w' p (high + other)) spot_is stored);
          clears = λ x c same plain w' stored.
              let cell_is : cell ≡ x = cc in
              let plain_cell : kind_of cell ≢ 4 = λ e. plain (ap kind_of (sym cell_is) ∙ e) in
              subst (λ p. IsSwitchStore w w' p 0) same (set_in cell b offset 0 0 w' (at'.clears plain_cell) (subst (λ p. Stored w w' p 0) spot_is stored));
        };
        outer_is = in_cell known.held;
      } in
      let sound : IsCell room t cell = lawful.tree (Cell cell) (cell_reached outer inner cell known is) in
      let child_is : t.child cell b ≡ reference_of r = ap reference_of at'.child in
      let deeper = (sound.under b (λ e. reference_some r at'.some_child (sym child_is ∙ e))).deeper in
      let deep : t.depth cell < depth_of t (reference_of r) = subst (λ q. t.depth cell < depth_of t q) child_is deeper in
      lands_ends r (depth + 1) inner spot part next (omega arith)
    where
      set_in : (x b o word reference : ℕ) (w' : LayerWords) → IsCellStore (kind_of x) (cell_in w x) (with_word (cell_in w x) o word) b reference → Stored w w' (CellWord (kind_of x) (number_of x) o) word → IsSwitchStore w w' (Entry x b) reference
      set_in x b o word reference w' store stored =
          words.in_cell {x = x} {b = b} {offset = o} {word = word} stored (subst (λ c'. IsCellStore (kind_of x) (cell_in w x) c' b reference) (cells_same w w' x o word stored) store)
  found_ends cell depth least outer inner part Absent known is is_depth on after =
      let comes : Comes t k (Entry cell (byte_at (t.depth cell) k)) = goes_on known.held.comes (known.held.at ∙ is) on in
      ((known.place, known.held), is_depth, subst (λ d. Comes t k (Entry cell (byte_at d k))) (sym is_depth) comes, ap reference_of after, is)

  depth_ends : (cell least : ℕ) (outer inner : Spot) (part : LookAt) → KnownAt outer inner cell → reference_of cell ≡ Cell cell → least ≤ t.depth cell → Ends (looks.has_depth (look least outer inner part) cell (t.depth cell))
  depth_ends cell least outer inner part known is deep =
      let sound : IsCell room t cell = lawful.tree (Cell cell) (cell_reached outer inner cell known is) in
      let lt : t.depth cell < key_bytes = sound.depth in
      subst (λ a. Ends (cond (a || leb key_bytes (t.depth cell)) (Done looked.Wrong) (goes_to (look least outer inner part) (at.Prefix cell (t.depth cell) no_words 0)))) (sym (le-ltb (t.depth cell) least deep))
      (subst (λ a. Ends (cond a (Done looked.Wrong) (goes_to (look least outer inner part) (at.Prefix cell (t.depth cell) no_words 0)))) (sym (lt-leb key_bytes (t.depth cell) lt)) (known, is, refl, λ m lt'. absurd (omega arith)))

  turn_ends : (least : ℕ) (outer inner : Spot) (part : LookAt) → IsLook (look least outer inner part) → KnowsAt least outer inner part → Ends (look_at_turned (look least outer inner part) part (word_in w (look_word part ks)))
  turn_ends least outer inner at.Root is knows =
      lands_ends w.root least outer inner at.Root (subst (λ s. KnownAt outer s w.root) (sym knows.0) (root_known outer)) (let none : least ≡ 0 = knows.1 in omega arith)
  turn_ends least outer inner (at.Key leaf words word) is knows =
      let got = w.leaf leaf word in
      let this = look least outer inner (at.Key leaf words word) in
      let next = slice_set words word got in
      let within : word < WORDS = is.here.2 in
      let read : AreRead (w.leaf leaf) next (word + 1) = reads_on (w.leaf leaf) words word is.here.1 within knows.1 in
      elim (word + 1 == WORDS) as (λ a. (word + 1 == WORDS) ≡ a → Ends (cond a (looks.has_key this leaf next) (goes_to this (at.Key leaf next (word + 1))))) [
        | true ↦ λ e. key_ends leaf least outer inner (at.Key leaf words word) next (key_set words word got is.here.1 within (fits (LeafWord leaf word))) (read_number (w.leaf leaf) next (subst (AreRead (w.leaf leaf) next) (eqb-true _ _ e) read)) is.here.0 knows.0
        | false ↦ λ e. (knows.0, read)
      ] refl
  turn_ends least outer inner (at.Depth cell) is knows = depth_ends cell least outer inner (at.Depth cell) knows.0 knows.1 knows.2
  turn_ends least outer inner (at.Prefix cell depth words word) is knows =
      let prefix = prefix_words (cell_in w cell) in
      let got = prefix word in
      let this = look least outer inner (at.Prefix cell depth words word) in
      let next = slice_set words word got in
      let within : word < WORDS = is.here.3 in
      let read : AreRead prefix next (word + 1) = reads_on prefix words word is.here.2 within knows.3 in
      elim (word + 1 == WORDS) as (λ a. (word + 1 == WORDS) ≡ a → Ends (cond a (looks.has_prefix this cell depth next) (goes_to this (at.Prefix cell depth next (word + 1))))) [
        | true ↦ λ e. prefix_ends cell depth least outer inner (at.Prefix cell depth words word) next (key_set words word got is.here.2 within (fits (CellWord (kind_of cell) (number_of cell) (prefix_offset + word)))) (read_number prefix next (subst (AreRead prefix next) (eqb-true _ _ e) read)) knows.0 knows.1 knows.2
        | false ↦ λ e. (knows.0, knows.1, knows.2, read)
      ] refl
  turn_ends least outer inner (at.Finding cell depth find) is knows =
      let form = lawful.forms cell (cell_reached outer inner cell knows.0 knows.1) in
      found_ends cell depth least outer inner (at.Finding cell depth find) (find_told (kind_of cell) (byte_at depth k) find (cell_in w cell (find_offset (kind_of cell) (byte_at depth k) find))) knows.0 knows.1 knows.2 knows.3
      (told (kind_of cell) (byte_at depth k) (cell_in w cell) find (byte_small depth k) form knows.4)

  goes_on' : (times left : ℕ) → ((f : Look) → IsLook f → f.layout ≡ l → f.key ≡ ks → KnowsAt f.least f.outer f.inner f.at → look_left f < left → IsSomeAnd (answer_in times (look_turn w) f) (IsLooked w k)) → (turn : Turn Look Looked)
      → LookAfter l ks left turn → Ends turn → IsSomeAnd (turn_answer turn (answer_in times (look_turn w))) (IsLooked w k)
  goes_on' times left inner (Go f) after known = inner f after.0 after.1 after.2 known after.3
  goes_on' times left inner (Done answer) after known = known

  made : (f : Look) → f.layout ≡ l → f.key ≡ ks → look f.least f.outer f.inner f.at ≡ f
  made f is_layout is_key' = λ i. record { layout = sym is_layout i; key = sym is_key' i; least = f.least; outer = f.outer; inner = f.inner; at = f.at }

  answers : (times : ℕ) (f : Look) → IsLook f → f.layout ≡ l → f.key ≡ ks → KnowsAt f.least f.outer f.inner f.at → look_left f < times → IsSomeAnd (answer_in times (look_turn w) f) (IsLooked w k)
  answers zero f is is_layout is_key' knows less = absurd (omega arith)
  answers (suc times) f is is_layout is_key' knows less =
      let same = made f is_layout is_key' in
      let got = word_in w (look_word f.at f.key) in
      let after : LookAfter l ks (look_left f) (look_turned f got) = subst (λ key. LookAfter l key (look_left f) (look_turned f got)) is_key' (subst (λ layout. LookAfter layout f.key (look_left f) (look_turned f got)) is_layout (look_stays f got (is, fits (look_word f.at f.key)))) in
      let known : Ends (look_turned f got) = subst (λ g. Ends (look_turned g (word_in w (look_word g.at g.key)))) same (turn_ends f.least f.outer f.inner f.at (subst IsLook (sym same) is) knows) in
      goes_on' times (look_left f) (λ next next_is a b next_knows fewer. answers times next next_is a b next_knows (omega arith)) (look_turned f got) after known

pub look_is_exact : LookIsExact
look_is_exact l key w times enough layout is_key fits lawful =
    let left : look_left (look_starts l key) < look_most = omega arith in
    let root_is : IsSpot l root_spot = record { place = λ some_cell. absurd (some_cell refl); high = (let less : 0 < 2 ^ 40 = omega arith in less) } in
    answers l key w layout is_key fits lawful times (look_starts l key) (record { layout = layout; key = is_key; outer = root_is; inner = root_is; here = refl }) refl refl (refl, refl) (omega arith)
