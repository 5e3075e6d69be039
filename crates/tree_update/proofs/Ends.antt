-- Where the end of each change may begin: what its stores make of the layer, of what the tree reaches, and of the marks.
use Rattle.std.proofs.Common.{◌≡◌, ◌≢◌, ℕ, ◌+◌, ◌-◌, ◌/◌, ◌%◌, ◌^◌, ◌<◌, ◌≤◌, cond, Some, None, slice_index, refl, sym, subst, ap, ap₂, ◌∙◌, arith, le-ltb}
use Rattle.std.proofs.lemmas.Bool.{eq-eqb, ne_eqb}
use Rattle.pm_words.specs.declared.layout.Layout.{Layout}
use Rattle.pm_words.specs.Locations.{kind_words}
use Rattle.cat_key.specs.declared.TheConstants.{WORDS}
use Rattle.radix_nodes.specs.declared.cell.Cell as cells
use Rattle.radix_nodes.specs.Bytes.{byte_set}
use Rattle.radix_nodes.specs.Keys.{key_bytes, key_byte_of, EndsAt, IsPrefixOf}
use Rattle.radix_nodes.specs.Cells.{children, index_of, IsForm, IsReference, IsCell, children_of}
use Rattle.radix_nodes.specs.Changes.{with_word, IsCellStore, HasTwoMore, IsOneMore, IsPair}
use Rattle.radix_nodes.specs.Making.{prefix_word, larger_of, IsLarger}
use Rattle.radix_nodes.proofs.KeyBytes.{prefix_bytes}
use Rattle.radix_nodes.proofs.IndexForm.{direct_stores, index_goes, child_none}
use Rattle.radix_nodes.proofs.GrownCells.{larger_is_larger}
use Rattle.radix_nodes.proofs.PairCells.{pair_is_pair}
use Rattle.radix_nodes.proofs.CellFits.{prefix_fits}
use Rattle.layer_map.specs.Layers.{Layer, changed_at, node_of}
use Rattle.tree_law.specs.Trees.{Nothing, Leaf, Cell, IsReached, byte_at, low}
use Rattle.tree_law.specs.Switches.{Place, Root, Entry}
use Rattle.tree_law.specs.Words.{LayerWord, LeafWord, CellWord, LayerWords, word_in, kind_of, number_of, reference_of, cell_in, tree_of, layer_of, room_of, Stored, IsSwitchStore, IsLawful, Keeps, CellPart}
use Rattle.tree_law.specs.Words as words
use Rattle.tree_law.specs.Changes.{IsFilledLeaf, IsFilledLarger}
use Rattle.tree_law.specs.Stages.{Marks, MarksTell}
use Rattle.tree_law.specs.Reached.{Parts, NoPart, Only, Both, ReachesAfter}
use Rattle.tree_law.specs.Marking.{MarksFollow, ReachesThen, IsMarkSet}
use Rattle.tree_law.proofs.MarkingLaw.{node_word_reaches, set_add_reaches, marks_tell_again}
use Rattle.tree_law.proofs.MarksSet.{one_comes, one_goes, two_come, two_go, one_is_replaced}
use Rattle.tree_law.proofs.PathLaw.{comes_place}
use Rattle.tree_law.proofs.Spans.{byte_small}
use Rattle.layer_map.specs.Keys.{key_number, IsKey}
use Rattle.tree_look.specs.declared.look.Spot.{Spot}
use Rattle.tree_look.specs.declared.look.Looked.TheVariants as looked
use Rattle.tree_look.specs.LookLaws.{IsLooked, IsHeld, StandsAt}
use Rattle.tree_look.proofs.LookExact.{cells_same}
use Rattle.tree_look.proofs.EndLaw.{leaf_add_reaches, cell_grow_reaches, pair_make_reaches, leaf_remove_reaches, cell_collapse_reaches}
use Rattle.tree_look.proofs.EndLaw as end_law
use Rattle.tree_change.specs.declared.finish.Target.{Target}
use Rattle.tree_change.specs.declared.finish.Target.TheVariants as target
use Rattle.tree_change.specs.declared.room.Room.TheVariants as room
use Rattle.tree_change.specs.Begins.{spot_target}
use Rattle.tree_change.specs.Takes.{IsUnreached}
use Rattle.tree_change.specs.Rooms.{IsRoom}
use Rattle.tree_change.specs.Filled.{StandsIn}
use Rattle.tree_change.specs.Endings.{SureCan, Switches, target_word}
use Rattle.tree_change.specs.Finishes.{finish_starts, quiet_starts}
use Rattle.tree_change.proofs.AddsBegin.{add_begins, quiet_made, quiet_begins, no_child}
use Rattle.tree_change.proofs.BeginLaw.{at_spot, set_begins, pair_begins, grow_begins, clear_begins, unindex_begins, collapse_begins}
use Rattle.tree_change.proofs.CountedLaw.{two_are_more, one_is_more}
use Rattle.tree_change.proofs.FilledLaw.{leaf_reference, pair_is_filled}
use Rattle.tree_change.proofs.GrownLaw.{larger_is_filled, child_stands}
use Rattle.tree_update.specs.declared.change.ChangeAt.TheVariants as at
use Rattle.tree_update.specs.Changes.{pair_cell}
use Rattle.tree_update.specs.Knowns.{Rests, HasLeaf}
use Rattle.tree_update.specs.Stages.{Aim, made_of, MarksEnd, SureAt}
use Rattle.tree_update.proofs.Staying.{tell_on}

-- a leaf's reference
some_leaf : (leaf : ℕ) → 2 ^ 16 + leaf ≢ 0
some_leaf leaf e = omega arith

-- a cell's
pub cell_reference : (x : ℕ) → 2 ≤ kind_of x → reference_of x ≡ Cell x
cell_reference x least =
    ap₂ (λ a b. cond a Nothing (cond b (Leaf (number_of x)) (Cell x))) (ne_eqb x 0 (λ e. omega arith)) (ne_eqb (kind_of x) 1 (λ e. omega arith))

node_some : (word : ℕ) → word ≢ 0 → node_of word ≡ Some (word - 1)
node_some word some_word = ap (λ a. cond a None (Some (word - 1))) (ne_eqb word 0 some_word)

node_none : (word : ℕ) → word ≡ 0 → node_of word ≡ None
node_none word none = ap (λ a. cond a None (Some (word - 1))) (eq-eqb word 0 none)

-- The marks behind the end.

none_free : (count : ℕ) (w : LayerWords) (m : Marks) → MarksTell count m w → MarksEnd count 0 0 w m
none_free count w m tells = ((λ e. tells), (λ some none. absurd (some refl)), (λ some next. absurd (some refl)))

one_free : (count free : ℕ) (w : LayerWords) (m : Marks) → free ≢ 0 → ((m' : Marks) → IsMarkSet m m' (reference_of free) 0 → MarksTell count m' w) → MarksEnd count free 0 w m
one_free count free w m some_free tells = ((λ e. absurd (some_free e)), (λ some none. tells), (λ some next. absurd (next refl)))

two_free : (count free next : ℕ) (w : LayerWords) (m : Marks) → free ≢ 0 → next ≢ 0 → ((one m' : Marks) → IsMarkSet m one (reference_of free) 0 → IsMarkSet one m' (reference_of next) 0 → MarksTell count m' w) → MarksEnd count free next w m
two_free count free next w m some_free some_next tells = ((λ e. absurd (some_free e)), (λ some none. absurd (some_next none)), (λ some next'. tells))

module _ (l : Layout) (count nodes : ℕ) (before : Layer) (aim : Aim) (few : count ≤ 2 ^ 16) where
  abbrev key : ℕ
  key = key_number aim.key

  abbrev node : ℕ
  node = aim.word - 1

  -- the layer that a set makes, and the one that an unset makes
  set_made : aim.word ≢ 0 → changed_at before key (Some node) ≡ made_of aim before
  set_made some_word = ap (changed_at before key) (sym (node_some aim.word some_word))

  pub unset_made : aim.word ≡ 0 → changed_at before key None ≡ made_of aim before
  unset_made none = ap (changed_at before key) (sym (node_none aim.word none))

  -- by one store
  ends : (to : Target) (word free next : ℕ) (w s : LayerWords) (m : Marks) → SureCan count nodes before w s → Switches count nodes (made_of aim before) w to word → ((v : LayerWords) → Stored w v (target_word to) word → MarksEnd count free next v m)
      → SureAt count nodes before aim (at.Finishing (finish_starts l (record { target = to; word = word }) free next)) w s m
  ends to word free next w s m can switches marks = ((can, switches), marks)

  -- what marks tell once it is made
  told_by : (w v : LayerWords) (told m : Marks) (more less : Parts) → Keeps count nodes (made_of aim before) v → ReachesThen w v more less → MarksFollow told m more less → MarksTell count told w → MarksTell count m v
  told_by w v told m more less keeps reaches follow tells = marks_tell_again count nodes w v told m more less keeps.lawful reaches follow tells

  -- A set of a key that is there.
  pub set_ends : (w s : LayerWords) (m : Marks) (outer inner : Spot) (leaf : ℕ) → Rests count nodes before w s m → IsLooked w key (looked.Key outer inner leaf) → aim.word ≢ 0 → aim.word ≤ nodes
      → SureAt count nodes before aim (at.Finishing (finish_starts l (record { target = target.Leaf leaf WORDS; word = aim.word }) 0 0)) w s m
  set_ends w s m outer inner leaf rests found some_word most =
      let switches : Switches count nodes (made_of aim before) w (target.Leaf leaf WORDS) aim.word =
      subst (λ layer. Switches count nodes layer w (target.Leaf leaf WORDS) aim.word) (set_made some_word) (set_begins count nodes before w key leaf aim.word outer inner rests.can.keeps found some_word most) in
      ends (target.Leaf leaf WORDS) aim.word 0 0 w s m rests.can switches (λ v stored. none_free count v m (tell_on count nodes w v m (switches v stored).lawful (node_word_reaches w v leaf aim.word stored) rests.tells))

  -- A leaf that comes into a cell by one store.
  pub add_ends : (w s : LayerWords) (m : Marks) (spot : Spot) (cell depth byte leaf offset word : ℕ) → HasLeaf count nodes before key node leaf w s m → IsLooked w key (looked.Nothing spot cell depth) → byte ≡ byte_at depth key → aim.word ≢ 0
      → IsCellStore (kind_of cell) (cell_in w cell) (with_word (cell_in w cell) offset word) byte (2 ^ 16 + leaf)
      → SureAt count nodes before aim (at.Finishing (finish_starts l (record { target = target.Cell cell offset; word = word }) 0 0)) w s m
  add_ends w s m spot cell depth byte leaf offset word has found byte_is some_word store =
      let keeps = has.can.keeps in
      let within = has.filled.sound.number in
      let is = leaf_reference leaf (omega arith) in
      let store' : IsCellStore (kind_of cell) (cell_in w cell) (with_word (cell_in w cell) offset word) (byte_at depth key) (2 ^ 16 + leaf) =
      subst (λ b. IsCellStore (kind_of cell) (cell_in w cell) (with_word (cell_in w cell) offset word) b (2 ^ 16 + leaf)) byte_is store in
      let switches = subst (λ layer. Switches count nodes layer w (target.Cell cell offset) word) (set_made some_word)
      (add_begins count nodes before w key node cell depth leaf offset word (2 ^ 16 + leaf) spot keeps.same keeps.lawful found has.filled is store') in
      ends (target.Cell cell offset) word 0 0 w s m has.can switches (λ v stored.
      let stored_in : IsSwitchStore w v (Entry cell (byte_at depth key)) (2 ^ 16 + leaf) =
      words.in_cell stored (subst (λ c'. IsCellStore (kind_of cell) (cell_in w cell) c' (byte_at depth key) (2 ^ 16 + leaf)) (cells_same w v cell offset word stored) store') in
      let reaches = leaf_add_reaches count nodes w v key node cell depth leaf (2 ^ 16 + leaf) spot keeps.lawful found has.filled is stored_in in
      none_free count v m (told_by w v has.told m (Only (Leaf leaf)) NoPart (switches v stored) reaches (one_comes has.told m (Leaf leaf) has.marked) has.tells))

  -- In form 256 that is the byte's own word.
  pub direct_ends : (w s : LayerWords) (m : Marks) (spot : Spot) (cell depth byte leaf : ℕ) → HasLeaf count nodes before key node leaf w s m → IsLooked w key (looked.Nothing spot cell depth) → byte ≡ byte_at depth key → byte < 256 → aim.word ≢ 0 → kind_of cell ≡ 5
      → SureAt count nodes before aim (at.Finishing (finish_starts l (record { target = target.Cell cell (8 + byte); word = 2 ^ 16 + leaf }) 0 0)) w s m
  direct_ends w s m spot cell depth byte leaf has found byte_is small some_word five =
      let c = cell_in w cell in
      let reached = comes_place (tree_of w) key (Entry cell (byte_at depth key)) found.2 in
      let form = subst (λ k. IsForm k c) five (has.can.keeps.lawful.forms cell reached) in
      add_ends w s m spot cell depth byte leaf (8 + byte) (2 ^ 16 + leaf) has found byte_is some_word
      (subst (λ k. IsCellStore k c (with_word c (8 + byte) (2 ^ 16 + leaf)) byte (2 ^ 16 + leaf)) (sym five) (direct_stores c byte (2 ^ 16 + leaf) form small))

  -- In form 48 it comes by two stores.
  pub quiet_ends : (w s : LayerWords) (m : Marks) (spot : Spot) (cell depth byte leaf place index : ℕ) → HasLeaf count nodes before key node leaf w s m → IsLooked w key (looked.Nothing spot cell depth) → byte ≡ byte_at depth key → aim.word ≢ 0
      → IsRoom (kind_of cell) (cell_in w cell) byte (room.Place place index)
      → SureAt count nodes before aim (at.Finishing (quiet_starts l (record { target = target.Cell cell (40 + place); word = 2 ^ 16 + leaf }) (record { target = target.Cell cell (8 + byte / 8); word = byte_set index (byte % 8) (place + 1) }))) w s m
  quiet_ends w s m spot cell depth byte leaf place index has found byte_is some_word is_room =
      subst (λ b. SureAt count nodes before aim (at.Finishing (quiet_starts l (record { target = target.Cell cell (40 + place); word = 2 ^ 16 + leaf }) (record { target = target.Cell cell (8 + b / 8); word = byte_set index (b % 8) (place + 1) }))) w s m) (sym byte_is)
      (with_byte (subst (λ b. IsRoom (kind_of cell) (cell_in w cell) b (room.Place place index)) byte_is is_room))
    where
      with_byte : IsRoom (kind_of cell) (cell_in w cell) (byte_at depth key) (room.Place place index) → SureAt count nodes before aim (at.Finishing (quiet_starts l (record { target = target.Cell cell (40 + place); word = 2 ^ 16 + leaf }) (record { target = target.Cell cell (8 + byte_at depth key / 8); word = byte_set index (byte_at depth key % 8) (place + 1) }))) w s m
      with_byte is_room' =
          let keeps = has.can.keeps in
          let within = has.filled.sound.number in
          let is = leaf_reference leaf (omega arith) in
          let small = byte_small depth key in
          let z = byte_set index (byte_at depth key % 8) (place + 1) in
          let o = 8 + byte_at depth key / 8 in
          let switches : (v : LayerWords) → Stored w v (CellWord (kind_of cell) (number_of cell) (40 + place)) (2 ^ 16 + leaf) → Keeps count nodes before v × Switches count nodes (made_of aim before) v (target.Cell cell o) z = λ v stored.
          subst (λ layer. Keeps count nodes before v × Switches count nodes layer v (target.Cell cell o) z) (set_made some_word)
          (quiet_begins count nodes before w key node cell depth leaf place index (2 ^ 16 + leaf) spot keeps found has.filled is (some_leaf leaf) is_room' small v stored) in (
            (has.can, switches),
            λ v v' stored stored'.
                let made = quiet_made count nodes before w key node cell depth leaf place index (2 ^ 16 + leaf) spot keeps found has.filled (some_leaf leaf) is_room' small v stored in
                let reaches = set_add_reaches count nodes v v' key node leaf cell (byte_at depth key) (2 ^ 16 + leaf) made.keeps.lawful made.comes made.nothing made.filled is
                (words.in_cell stored' (subst (λ c'. IsCellStore (kind_of cell) (cell_in v cell) c' (byte_at depth key) (2 ^ 16 + leaf)) (cells_same v v' cell o z stored') made.store)) in
                let reaches' : ReachesThen w v' (Only (Leaf leaf)) NoPart = subst (λ t. ReachesAfter t (tree_of v') (Only (Leaf leaf)) NoPart) made.same reaches in
                none_free count v' m (told_by w v' has.told m (Only (Leaf leaf)) NoPart ((switches v stored).1 v' stored') reaches' (one_comes has.told m (Leaf leaf) has.marked) has.tells),
          )

  -- A cell that is filled behind the leaf, which has that mark then.
  pub record HasCell (x leaf : ℕ) (w s : LayerWords) (m : Marks) : Type 0 where
    pub can : SureCan count nodes before w s
    pub told : Marks
    pub one : Marks
    pub tells : MarksTell count told w
    pub first : IsMarkSet told one (Leaf leaf) 1
    pub second : IsMarkSet one m (Cell x) 1
    pub unreached : IsUnreached w (CellPart x)
    pub filled : IsFilledLeaf count nodes w key node leaf
    pub least : 2 ≤ kind_of x
    pub most : kind_of x ≤ 5
    pub within : number_of x < count

  -- A pair comes in the place of what is there.
  pub pair_ends : (w s : LayerWords) (m : Marks) (spot : Spot) (reference depth byte leaf x : ℕ) (cell : cells.Cell) → HasCell x leaf w s m → IsKey aim.key → IsLooked w key (looked.Parts spot reference depth byte) → aim.word ≢ 0
      → IsReference reference → depth < key_bytes → byte < 256 → cell ≡ pair_cell aim.key leaf reference depth byte → StandsIn w x cell
      → SureAt count nodes before aim (at.Finishing (finish_starts l (record { target = spot_target spot; word = spot.high + x }) 0 0)) w s m
  pair_ends w s m spot reference depth byte leaf x cell has is_key found some_word is_reference deep small cell_is stands =
      let within = has.filled.sound.number in
      let leaf_small : leaf < 2 ^ 16 = omega arith in
      let prefix = prefix_word depth (slice_index aim.key) in
      let is_prefix : IsPrefixOf depth (slice_index aim.key) prefix = prefix_bytes depth (slice_index aim.key) prefix (λ k lt. refl) in
      let there = byte_at depth (low (tree_of w) (reference_of reference)) in
      let pair : IsPair depth prefix (record { byte = byte; reference = reference }) (record { byte = byte_at depth key; reference = 2 ^ 16 + leaf }) (pair_cell aim.key leaf reference depth byte) =
      pair_is_pair depth prefix (record { byte = byte; reference = reference }) (record { byte = byte_at depth key; reference = 2 ^ 16 + leaf }) deep small (byte_small depth key) (λ e. found.1.apart (sym e ∙ found.3)) is_reference (omega arith, omega arith) in
      let pair' = subst (λ b. IsPair depth prefix (record { byte = b; reference = reference }) (record { byte = byte_at depth key; reference = 2 ^ 16 + leaf }) cell) found.3
      (subst (IsPair depth prefix (record { byte = byte; reference = reference }) (record { byte = byte_at depth key; reference = 2 ^ 16 + leaf })) (sym cell_is) pair) in
      let two : kind_of x ≡ 2 = stands.0 ∙ pair'.kind in
      let is_pair = pair_is_filled count nodes w aim.key prefix reference depth x leaf cell is_key two has.within leaf_small (prefix_fits depth (slice_index aim.key) is_key.fits) is_prefix (ends_at depth prefix is_prefix) pair'
      (λ o lt. stands.1 o (subst (λ k. o < kind_words k) (sym pair'.kind) lt)) in
      let is = cell_reference x has.least in
      let most = has.most in
      let fits : x < 2 ^ 32 = omega arith in
      let keeps = has.can.keeps in
      let switches = subst (λ layer. Switches count nodes layer w (spot_target spot) (spot.high + x)) (set_made some_word) (pair_begins count nodes before w key node reference depth byte x leaf spot keeps found has.filled is_pair is fits) in
      ends (spot_target spot) (spot.high + x) 0 0 w s m has.can switches (λ v stored.
      let reaches = pair_make_reaches count nodes w v key node reference depth byte x leaf spot keeps.lawful found has.filled is_pair has.unreached is fits (at_spot w v spot (spot.high + x) stored) in
      none_free count v m (told_by w v has.told m (Both (Leaf leaf) (Cell x)) NoPart (switches v stored) reaches (two_come has.told has.one m (Leaf leaf) (Cell x) (λ e. cc) has.first has.second) has.tells))
    where
      ends_at : (depth : ℕ) (prefix : ℕ → ℕ) → IsPrefixOf depth (slice_index aim.key) prefix → EndsAt depth prefix
      ends_at depth prefix is at le lt = is at lt ∙ ap (λ a. cond a (key_byte_of (slice_index aim.key) at) 0) (le-ltb at depth le)

  -- A larger cell comes in the place of one.
  pub grow_ends : (w s : LayerWords) (m : Marks) (spot : Spot) (old depth byte leaf x : ℕ) (read cell : cells.Cell) → HasCell x leaf w s m → IsLooked w key (looked.Nothing spot old depth) → byte ≡ byte_at depth key → aim.word ≢ 0
      → StandsIn w old read → IsCell read → read.kind ≤ 4 → byte < 256 → cell ≡ larger_of read byte (2 ^ 16 + leaf) → StandsIn w x cell
      → SureAt count nodes before aim (at.Finishing (finish_starts l (record { target = spot_target spot; word = spot.high + x }) old 0)) w s m
  grow_ends w s m spot old depth byte leaf x read cell has found byte_is some_word reads is_read four small cell_is stands =
      let within = has.filled.sound.number in
      let leaf_small : leaf < 2 ^ 16 = omega arith in
      let own = byte_at depth key in
      let none : children_of read byte ≡ 0 = sym (child_stands w old read reads is_read byte) ∙ ap (children (kind_of old) (cell_in w old)) byte_is ∙ no_child (children (kind_of old) (cell_in w old) own) found.3 in
      let larger = subst (IsLarger read byte (2 ^ 16 + leaf)) (sym cell_is) (larger_is_larger read byte (2 ^ 16 + leaf) four small (omega arith, omega arith) is_read none) in
      let is_grown = subst (λ b. IsFilledLarger count nodes w old x b leaf) byte_is (larger_is_filled count nodes w read cell old x byte leaf is_read reads larger stands has.within leaf_small) in
      let is = cell_reference x has.least in
      let most = has.most in
      let fits : x < 2 ^ 32 = omega arith in
      let keeps = has.can.keeps in
      let reached : IsReached (tree_of w) (Cell old) = comes_place (tree_of w) key (Entry old own) found.2 in
      let some_old : old ≢ 0 = λ e. let wrong : Nothing ≡ Cell old = sym (ap reference_of e) ∙ found.4 in cc in
      let apart : Cell x ≢ Cell old = λ e. has.unreached (subst (IsReached (tree_of w)) (sym e) reached) in
      let switches = subst (λ layer. Switches count nodes layer w (spot_target spot) (spot.high + x)) (set_made some_word) (grow_begins count nodes before w key node old depth x leaf spot keeps found has.filled is_grown is fits) in
      ends (spot_target spot) (spot.high + x) old 0 w s m has.can switches (λ v stored.
      let reaches = cell_grow_reaches count nodes w v key node old depth x leaf spot keeps.lawful found has.filled is_grown has.unreached is fits (at_spot w v spot (spot.high + x) stored) in
      one_free count old v m some_old (λ m' set. told_by w v has.told m' (Both (Leaf leaf) (Cell x)) (Only (Cell old)) (switches v stored) reaches
      (one_is_replaced has.told has.one m m' (Leaf leaf) (Cell x) (Cell old) (λ e. cc) (λ e. cc) apart has.first has.second (subst (λ r. IsMarkSet m m' r 0) found.4 set)) has.tells))

  -- An unset: the leaf is in a cell.
  not_root : (w : LayerWords) (r : ℕ) (inner : Spot) (place : Place) → IsHeld w key inner r place → inner.cell ≢ 0 → place ≢ Root
  not_root w r inner place held some_cell e = some_cell (subst (StandsAt w inner r) e held.stands).0

  -- It goes from there by one store of 0 into its spot,
  pub clear_ends : (w s : LayerWords) (m : Marks) (outer inner : Spot) (leaf b : ℕ) → Rests count nodes before w s m → IsLooked w key (looked.Key outer inner leaf) → inner.cell ≢ 0 → aim.word ≡ 0 → b ≡ byte_at ((tree_of w).depth inner.cell) key → kind_of inner.cell ≢ 4
      → HasTwoMore (children (kind_of inner.cell) (cell_in w inner.cell)) b
      → SureAt count nodes before aim (at.Finishing (finish_starts l (record { target = spot_target inner; word = 0 }) (2 ^ 16 + leaf) 0)) w s m
  clear_ends w s m outer inner leaf b rests found some_cell none byte_is plain two =
      let keeps = rests.can.keeps in
      let apart = not_root w (2 ^ 16 + leaf) inner found.1.0 found.1.1 some_cell in
      let entry = end_law.entry_of w key leaf b outer inner found.1.0 found.1.1 found.1.2 found.2 apart byte_is in
      let switches = subst (λ layer. Switches count nodes layer w (spot_target inner) 0) (unset_made none) (clear_begins count nodes before w key leaf b outer inner keeps found apart byte_is plain two) in
      ends (spot_target inner) 0 (2 ^ 16 + leaf) 0 w s m rests.can switches (λ v stored.
      let reaches = leaf_remove_reaches count nodes w v key leaf b outer inner keeps.lawful found apart byte_is (two_are_more w inner.cell b two) (found.1.1.clears inner.cell b entry.here plain v (at_spot w v inner 0 stored)) in
      one_free count (2 ^ 16 + leaf) v m (some_leaf leaf) (λ m' set. told_by w v m m' NoPart (Only (Leaf leaf)) (switches v stored) reaches (one_goes m m' (Leaf leaf) (subst (λ r. IsMarkSet m m' r 0) found.2 set)) rests.tells))

  -- or by one into the index;
  pub unindex_ends : (w s : LayerWords) (m : Marks) (outer inner : Spot) (leaf b : ℕ) → Rests count nodes before w s m → IsLooked w key (looked.Key outer inner leaf) → inner.cell ≢ 0 → aim.word ≡ 0 → b ≡ byte_at ((tree_of w).depth inner.cell) key → kind_of inner.cell ≡ 4
      → HasTwoMore (children (kind_of inner.cell) (cell_in w inner.cell)) b
      → SureAt count nodes before aim (at.Finishing (finish_starts l (record { target = target.Cell inner.cell (8 + b / 8); word = byte_set (cell_in w inner.cell (8 + b / 8)) (b % 8) 0 }) (2 ^ 16 + leaf) 0)) w s m
  unindex_ends w s m outer inner leaf b rests found some_cell none byte_is four two =
      let keeps = rests.can.keeps in
      let c = cell_in w inner.cell in
      let o = 8 + b / 8 in
      let z = byte_set (c o) (b % 8) 0 in
      let apart = not_root w (2 ^ 16 + leaf) inner found.1.0 found.1.1 some_cell in
      let entry = end_law.entry_of w key leaf b outer inner found.1.0 found.1.1 found.1.2 found.2 apart byte_is in
      let small : b < 256 = subst (λ k. k < 256) (sym byte_is) (byte_small ((tree_of w).depth inner.cell) key) in
      let form : IsForm 4 c = subst (λ k. IsForm k c) four (keeps.lawful.forms inner.cell entry.reached) in
      let some_index : index_of c b ≢ 0 = λ none'.
      let no_leaf : (tree_of w).child inner.cell b ≡ Nothing = ap (λ k. reference_of (children k c b)) four ∙ ap reference_of (child_none c b small none') in
      let wrong : Nothing ≡ Leaf leaf = sym no_leaf ∙ entry.leaf_is in
      cc in
      let goes : IsCellStore (kind_of inner.cell) c (with_word c o z) b 0 = subst (λ k. IsCellStore k c (with_word c o z) b 0) (sym four) (index_goes c b form small some_index) in
      let switches = subst (λ layer. Switches count nodes layer w (target.Cell inner.cell o) z) (unset_made none) (unindex_begins count nodes before w key leaf b (c o) outer inner keeps found apart byte_is four refl two) in
      ends (target.Cell inner.cell o) z (2 ^ 16 + leaf) 0 w s m rests.can switches (λ v stored.
      let reaches = leaf_remove_reaches count nodes w v key leaf b outer inner keeps.lawful found apart byte_is (two_are_more w inner.cell b two)
      (words.in_cell stored (subst (λ c'. IsCellStore (kind_of inner.cell) c c' b 0) (cells_same w v inner.cell o z stored) goes)) in
      one_free count (2 ^ 16 + leaf) v m (some_leaf leaf) (λ m' set. told_by w v m m' NoPart (Only (Leaf leaf)) (switches v stored) reaches (one_goes m m' (Leaf leaf) (subst (λ r. IsMarkSet m m' r 0) found.2 set)) rests.tells))

  -- or the one other child comes in the place of the cell.
  pub collapse_ends : (w s : LayerWords) (m : Marks) (outer inner : Spot) (leaf b reference : ℕ) → Rests count nodes before w s m → IsLooked w key (looked.Key outer inner leaf) → inner.cell ≢ 0 → 2 ≤ kind_of inner.cell → aim.word ≡ 0 → b ≡ byte_at ((tree_of w).depth inner.cell) key
      → IsOneMore (children (kind_of inner.cell) (cell_in w inner.cell)) b reference
      → SureAt count nodes before aim (at.Finishing (finish_starts l (record { target = spot_target outer; word = outer.high + reference }) (2 ^ 16 + leaf) inner.cell)) w s m
  collapse_ends w s m outer inner leaf b reference rests found some_cell least none byte_is one =
      let keeps = rests.can.keeps in
      let apart = not_root w (2 ^ 16 + leaf) inner found.1.0 found.1.1 some_cell in
      let entry = end_law.entry_of w key leaf b outer inner found.1.0 found.1.1 found.1.2 found.2 apart byte_is in
      let is = cell_reference inner.cell least in
      let more = one_is_more count nodes w inner.cell b reference keeps.lawful entry.reached one in
      let switches = subst (λ layer. Switches count nodes layer w (spot_target outer) (outer.high + reference)) (unset_made none) (collapse_begins count nodes before w key leaf b reference outer inner keeps found apart byte_is is one) in
      ends (spot_target outer) (outer.high + reference) (2 ^ 16 + leaf) inner.cell w s m rests.can switches (λ v stored.
      let reaches = cell_collapse_reaches count nodes w v key leaf b one.other reference outer inner keeps.lawful found apart byte_is more.0 is more.1 more.2 (at_spot w v outer (outer.high + reference) stored) in
      two_free count (2 ^ 16 + leaf) inner.cell v m (some_leaf leaf) some_cell (λ one' m' set set'. told_by w v m m' NoPart (Both (Leaf leaf) (Cell inner.cell)) (switches v stored) reaches
      (two_go m one' m' (Leaf leaf) (Cell inner.cell) (λ e. cc) (subst (λ r. IsMarkSet m one' r 0) found.2 set) (subst (λ r. IsMarkSet one' m' r 0) is set')) rests.tells))
