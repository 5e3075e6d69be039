-- A turn of a change, on a row: what its state knows makes what the next one knows.
use Rattle.std.proofs.Common.{◌≡◌, ◌≢◌, ℕ, ◌+◌, ◌-◌, ◌*◌, ◌/◌, ◌^◌, ◌<◌, ◌≤◌, ◌==◌, ◌||◌, Bool, true, false, cond, ltb, Option, Some, None, List, refl, sym, subst, ap, ◌∙◌, arith}
use Rattle.std.proofs.lemmas.Bool.{lt-leb, eqb-true, eqb-false, ne_eqb}
use Rattle.pm_words.specs.declared.layout.Layout.{Layout}
use Rattle.pm_words.specs.declared.action.Action.{Action}
use Rattle.pm_words.specs.declared.action.Action.TheVariants.{Load}
use Rattle.pm_words.specs.declared.machine.Turn.{Turn}
use Rattle.pm_words.specs.declared.machine.Turn.TheVariants.{Go, Done}
use Rattle.pm_words.specs.Locations.{Cached, Durable, leaf_count, kind_words}
use Rattle.pm_words.specs.Rows.{IsRow, acted}
use Rattle.pm_words.specs.Rows as rows
use Rattle.pm_words.specs.Offsets.{depth_offset}
use Rattle.cat_key.specs.declared.TheConstants.{WORDS}
use Rattle.radix_nodes.specs.declared.cell.Cell as cells
use Rattle.radix_nodes.specs.declared.filling.Filling.{Filling}
use Rattle.radix_nodes.specs.declared.fill_leaf.FillLeaf.{FillLeaf}
use Rattle.radix_nodes.specs.declared.fill_cell.FillCell.{FillCell}
use Rattle.radix_nodes.specs.Keys.{key_bytes}
use Rattle.radix_nodes.specs.Cells.{children, entry_of, words_of}
use Rattle.radix_nodes.specs.Making.{larger_of}
use Rattle.radix_nodes.specs.Fills.{fill_leaf_start, fill_leaf_asks, fill_leaf_turned, fill_cell_start, fill_cell_asks, fill_cell_turned, filling_next, lines_of}
use Rattle.radix_nodes.specs.Fills as fills
use Rattle.layer_map.specs.Layers.{Layer, AreSame, HasFew}
use Rattle.tree_law.specs.Trees.{Leaf, Cell, IsReached, byte_at, low}
use Rattle.tree_law.specs.Switches.{Place, Root, Entry}
use Rattle.tree_law.specs.Words.{LayerWord, LayerWords, word_in, kind_of, number_of, reference_of, cell_in, tree_of, layer_of, room_of, LeafPart, CellPart, part_reference}
use Rattle.tree_law.specs.Stages.{Marks, MarksTell}
use Rattle.tree_law.specs.Marking.{IsMarkSet}
use Rattle.tree_law.proofs.Reach.{depth_most}
use Rattle.tree_law.proofs.PathLaw.{comes_place}
use Rattle.tree_law.proofs.Spans.{byte_small}
use Rattle.tree_row.specs.Rows.{HasLayerWord, layer_words, layer_address}
use Rattle.tree_row.specs.RowMarks.{row_marks}
use Rattle.tree_row.proofs.RowLaw.{reads_fit}
use Rattle.layer_map.specs.Keys.{key_number, IsKey}
use Rattle.tree_law.specs.Changes.{IsFilledLeaf}
use Rattle.tree_floor.specs.Floors.{cell_word, IsCellOf}
use Rattle.tree_look.specs.declared.look.Look.{Look}
use Rattle.tree_look.specs.declared.look.Spot.{Spot}
use Rattle.tree_look.specs.declared.look.Looked.{Looked}
use Rattle.tree_look.specs.declared.look.Looked.TheVariants as looked
use Rattle.tree_look.specs.Looks.{look_word, look_asks, look_turned}
use Rattle.tree_look.specs.LookLaws.{IsLooked, IsHeld, look_turn}
use Rattle.tree_look.proofs.EndLaw.{is_in_cell}
use Rattle.tree_change.specs.declared.take.Take.{Take}
use Rattle.tree_change.specs.declared.take.Taken.{Taken}
use Rattle.tree_change.specs.declared.take.Taken.TheVariants as taken
use Rattle.tree_change.specs.declared.find_room.FindRoom.{FindRoom}
use Rattle.tree_change.specs.declared.room.Places.{Places}
use Rattle.tree_change.specs.declared.room.Room.{Room}
use Rattle.tree_change.specs.declared.room.Room.TheVariants as room
use Rattle.tree_change.specs.declared.read_cell.ReadCell.{ReadCell}
use Rattle.tree_change.specs.declared.count.Count.{Count}
use Rattle.tree_change.specs.declared.others.Others.{Others}
use Rattle.tree_change.specs.declared.others.Counted.{Counted}
use Rattle.tree_change.specs.declared.others.Counted.TheVariants as counts_as
use Rattle.tree_change.specs.declared.finish.Finish.{Finish}
use Rattle.tree_change.specs.declared.finish.Target.TheVariants as target
use Rattle.tree_change.specs.Begins.{spot_target}
use Rattle.tree_change.specs.Takes.{take_starts, take_asks, take_turned, take_turn, take_most, IsTaken, part_of, IsUnreached, IsTake}
use Rattle.tree_change.specs.FindRooms.{find_room_starts, find_room_asks, find_room_word, find_room_goes, find_room_turn}
use Rattle.tree_change.specs.Rooms.{places_turned, places_most, IsRoom}
use Rattle.tree_change.specs.Reads.{read_asks, read_word, read_told, read_all, read_turn, read_most, IsReadOf}
use Rattle.tree_change.specs.Others.{others_turned, others_most, IsCounted}
use Rattle.tree_change.specs.Counts.{count_starts, count_asks, count_word, count_turn}
use Rattle.tree_change.specs.Counts as count_spec
use Rattle.tree_change.specs.Finishes.{finish_asks, finish_turned}
use Rattle.tree_change.specs.Endings.{SureCan, ending_after}
use Rattle.tree_change.specs.Fillings.{Fills, SureFilling, SureFilled, leaf_words, leaf_after, cell_part, cell_after}
use Rattle.tree_change.specs.Filled.{StandsIn}
use Rattle.tree_change.specs.RowSteps.{EndingIn}
use Rattle.tree_change.proofs.TakeExact.{take_is_exact, taken_is_unreached, some_is_taken}
use Rattle.tree_change.proofs.PlacesExact.{find_room_is_exact}
use Rattle.tree_change.proofs.ReadExact.{read_is_exact}
use Rattle.tree_change.proofs.ReadLaw.{read_is_cell}
use Rattle.tree_change.proofs.CountExact.{count_is_exact}
use Rattle.tree_change.proofs.CountedLaw.{one_is_more}
use Rattle.tree_change.proofs.FilledLaw.{leaf_is_filled}
use Rattle.tree_change.proofs.FillingLaw.{fill_begins}
use Rattle.tree_change.proofs.ActsLaw.{whole_lines}
use Rattle.tree_change.proofs.AddsBegin.{no_child}
use Rattle.tree_update.specs.declared.change.Change.{Change}
use Rattle.tree_update.specs.declared.change.ChangeAt.{ChangeAt}
use Rattle.tree_update.specs.declared.change.ChangeAt.TheVariants as at
use Rattle.tree_update.specs.declared.change.Site.{Site}
use Rattle.tree_update.specs.declared.change.Site.TheVariants as site
use Rattle.tree_update.specs.declared.change.NewCell.{NewCell}
use Rattle.tree_update.specs.declared.change.Ended.{Ended}
use Rattle.tree_update.specs.declared.change.Ended.TheVariants.{Made, Wrong}
use Rattle.tree_update.specs.Changes.{change_to, change_finishes, leaf_reference, no_leaf, has_looked, look_goes, looks, leaf_goes, takes_leaf, pair_cell, leaf_filled, fill_leaf_goes, fills_leaf, room_found, room_goes, finds_room, read_goes, reads_cell, cell_goes, takes_cell, filled_reference, fill_cell_goes, fills_cell, reads_depth, counted, count_goes, counts, reads_index, finish_goes, change_at_asks, change_at_turned, IsSite, IsChangeAt, IsChange}
use Rattle.tree_update.specs.Knowns.{Answers, Rests, IsSited, HasLeaf, IsWanted, as_pair, as_larger}
use Rattle.tree_update.specs.Stages.{Aim, made_of, aim_of, SureAt, SureAfter, SureInAfter, IsRooted, ChangeActs}
use Rattle.tree_update.proofs.Staying.{held_reached, looked_stays, sited_stays, tells_stay, cell_stays, leaf_stays}
use Rattle.tree_update.proofs.Absent.{sited_absent, none_changed, other_child}
use Rattle.tree_update.proofs.Ends.{unset_made, set_ends, add_ends, direct_ends, quiet_ends, HasCell, pair_ends, grow_ends, clear_ends, unindex_ends, collapse_ends}
use Rattle.tree_update.proofs.Loads.{look_has, count_has, room_has, read_has, head_has, cell_has, load_keeps, load_got}
use Rattle.tree_update.proofs.Taking.{AnswersAfter, answers_on, TakeOn, take_on, leaf_on, cell_on}
use Rattle.tree_update.proofs.Finishing.{MarksAfter, finish_on}

-- what holds of the words and marks holds of those that they still are
moved : (P : LayerWords → LayerWords → Marks → Type 0) (w s w' s' : LayerWords) (m m' : Marks) → w' ≡ w → s' ≡ s → m' ≡ m → P w s m → P w' s' m'
moved P w s w' s' m m' a b c holds = subst (λ v. P v s' m') (sym a) (subst (λ r. P w r m') (sym b) (subst (P w s) (sym c) holds))

-- a layer that is the same has as few keys
few_keys : (most : ℕ) (layer before : Layer) → AreSame layer before → HasFew most before → HasFew most layer
few_keys most layer before same few count key some apart = few count key (λ i lt e. some i lt (same (key i) ∙ e)) apart

-- Of a change, whatever words it stands on.
module _ (before : Layer) (c : Change) (is : IsChange c) (rooted : IsRooted (aim_of c) before) where
  abbrev l : Layout
  l = c.layout

  abbrev count : ℕ
  count = leaf_count l

  abbrev nodes : ℕ
  nodes = l.nodes

  abbrev aim : Aim
  aim = aim_of c

  abbrev key : ℕ
  key = key_number c.key

  few : count ≤ 2 ^ 16
  few = let most : c.layout.nodes ≤ 4096 = is.layout.nodes.1 in omega arith

  nodes_fewer : nodes < count
  nodes_fewer = omega arith

  abbrev Then : Turn Change Ended → LayerWords → LayerWords → Marks → Type 0
  Then turn w s m = SureAfter count nodes before aim turn w s m

  take_answers : (kind : ℕ) (m : Marks) → Answers (take_turn m) (IsTaken count m kind) (take_starts l kind)
  take_answers kind m = (take_most l + 1, take_is_exact l kind m (take_most l + 1) (omega arith))

  -- the key has no leaf
  no_leaf_then : (place : Site) (w s : LayerWords) (m : Marks) → Rests count nodes before w s m → IsSited w key place → Then (no_leaf c place) w s m
  no_leaf_then place w s m rests sited = elim (c.word == 0) as (λ a. (c.word == 0) ≡ a → Then (cond a (Done Made) (change_to c (at.TakingLeaf (take_starts l 1) place))) w s m) [
    | true ↦ λ e.
        let none = sited_absent count nodes w key place rests.can.keeps.lawful sited in
        let same = none_changed (layer_of w) before key rests.can.keeps.same none in
        record { can = record { keeps = record { lawful = rests.can.keeps.lawful; same = subst (AreSame (layer_of w)) (unset_made l count nodes before aim few (eqb-true _ _ e)) same }; even = rests.can.even }; tells = rests.tells }
    | false ↦ λ e. (rests, sited, take_answers 1 m)
  ] refl

  -- a cell of the tree, where the leaf is
  inner_some : (w s : LayerWords) (m : Marks) (outer inner : Spot) (leaf : ℕ) → Rests count nodes before w s m → IsLooked w key (looked.Key outer inner leaf) → c.word ≡ 0 → inner.cell ≢ 0
  inner_some w s m outer inner leaf rests found none is_none =
      let root = rooted none in
      let apart = is_in_cell count nodes w key 0 leaf outer inner rests.can.keeps.lawful found (λ e. root.1 (sym (rests.can.keeps.same 0) ∙ e)) (λ e. root.0 (sym e)) in
      at_place found.1.0 found.1.1 apart
    where
      at_place : (place : Place) → IsHeld w key inner (2 ^ 16 + leaf) place → place ≢ Root → ⊥
      at_place Root held apart = apart refl
      at_place (Entry x b) held apart = held.stands.1 (sym held.stands.0 ∙ is_none)

  looked_then : (found : Looked) (w s : LayerWords) (m : Marks) → Rests count nodes before w s m → IsLooked w key found → Then (has_looked c found) w s m
  looked_then (looked.Key outer inner leaf) w s m rests found = elim (c.word == 0) as (λ a. (c.word == 0) ≡ a → Then (cond a (cond (inner.cell == 0) (Done Wrong) (change_to c (at.ReadingDepth leaf outer inner))) (change_finishes c (target.Leaf leaf WORDS) c.word 0 0)) w s m) [
    | true ↦ λ e. subst (λ a. Then (cond a (Done Wrong) (change_to c (at.ReadingDepth leaf outer inner))) w s m) (sym (ne_eqb inner.cell 0 (inner_some w s m outer inner leaf rests found (eqb-true _ _ e)))) (eqb-true _ _ e, rests, found)
    | false ↦ λ e. set_ends l count nodes before aim few w s m outer inner leaf rests found (eqb-false _ _ e) is.word
  ] refl
  looked_then (looked.Nothing spot cell depth) w s m rests found = no_leaf_then (site.Under spot cell (byte_at depth key)) w s m rests (depth, found, refl)
  looked_then (looked.Parts spot reference depth byte) w s m rests found =
      let t = tree_of w in
      let q = reference_of reference in
      let most = depth_most (room_of count nodes) t q (rests.can.keeps.lawful.tree q (held_reached w key reference spot found.0.0 found.0.1)) in
      let less = found.2 in
      let deep : depth < key_bytes = omega arith in
      let apart : byte ≢ byte_at depth key = λ e. found.1.apart (sym e ∙ found.3) in
      subst (λ a. Then (cond (a || byte == byte_at depth key) (Done Wrong) (no_leaf c (site.Beside spot reference depth byte))) w s m) (sym (lt-leb key_bytes depth deep))
      (subst (λ a. Then (cond a (Done Wrong) (no_leaf c (site.Beside spot reference depth byte))) w s m) (sym (ne_eqb byte (byte_at depth key) apart))
      (no_leaf_then (site.Beside spot reference depth byte) w s m rests found))
  looked_then looked.Wrong w s m rests found = absurd found

  -- Where the leaf is filled.
  abbrev HasIt : ℕ → LayerWords → LayerWords → Marks → Type 0
  HasIt leaf w s m = HasLeaf count nodes before key (c.word - 1) leaf w s m

  filled_then : (leaf : ℕ) (place : Site) (w s : LayerWords) (m : Marks) → HasIt leaf w s m → IsSited w key place → IsSite l c.key place → c.word ≢ 0 → Then (leaf_filled c leaf place) w s m
  filled_then leaf (site.Under spot cell byte) w s m has sited within some_word =
      let depth = sited.0 in
      let found = sited.1 in
      let lawful = has.can.keeps.lawful in
      let reached = comes_place (tree_of w) key (Entry cell (byte_at depth key)) found.2 in
      let none : children (kind_of cell) (cell_in w cell) byte ≡ 0 = ap (children (kind_of cell) (cell_in w cell)) sited.2 ∙ no_child (children (kind_of cell) (cell_in w cell) (byte_at depth key)) found.3 in
      elim (kind_of cell == 5) as (λ a. (kind_of cell == 5) ≡ a → Then (cond a (change_finishes c (target.Cell cell (8 + byte)) (leaf_reference leaf) 0 0) (change_to c (at.FindingRoom (find_room_starts l cell byte) spot leaf))) w s m) [
        | true ↦ λ e. direct_ends l count nodes before aim few w s m spot cell depth byte leaf has found sited.2 within.2 some_word (eqb-true _ _ e)
        | false ↦ λ e.
            let high = within.1.high in
            let other = eqb-false _ _ e in
            (some_word, has, sited, (places_most + 1, find_room_is_exact l cell byte w (places_most + 1) (omega arith) within.1 (omega (arith, other)) within.2 (lawful.forms cell reached) none))
      ] refl
  filled_then leaf (site.Beside spot reference depth byte) w s m has found within some_word =
      let cell = pair_cell c.key leaf reference depth byte in
      (some_word, leaf, has, as_pair found within.1 within.2 within.3 refl refl, take_answers cell.kind m)

  -- Where room was looked for.
  room_then : (look : FindRoom) (spot : Spot) (leaf : ℕ) (found : Room) (w s : LayerWords) (m : Marks) → IsCellOf l look.cell → HasIt leaf w s m → IsSited w key (site.Under spot look.cell look.byte) → c.word ≢ 0 → IsRoom (kind_of look.cell) (cell_in w look.cell) look.byte found → Then (room_found c look spot leaf found) w s m
  room_then look spot leaf (room.Entry offset) w s m of_l has sited some_word is_room =
      let within = has.filled.sound.number in
      let small = few in
      add_ends l count nodes before aim few w s m spot look.cell sited.0 look.byte leaf offset (entry_of look.byte (leaf_reference leaf)) has sited.1 sited.2 some_word (is_room (leaf_reference leaf) (λ e. omega arith) (omega arith))
  room_then look spot leaf (room.Place place index) w s m of_l has sited some_word is_room = quiet_ends l count nodes before aim few w s m spot look.cell sited.0 look.byte leaf place index has sited.1 sited.2 some_word is_room
  room_then look spot leaf room.Full w s m of_l has sited some_word is_room = (some_word, has, sited, (read_most + 1, read_is_exact l look.cell w (read_most + 1) (omega arith) of_l))

  -- Where the leaf's cell was counted.
  counted_then : (look : Count) (leaf : ℕ) (outer inner : Spot) (children' : Counted) (w s : LayerWords) (m : Marks) → look.cell ≡ inner.cell → IsCellOf l inner.cell → c.word ≡ 0 → Rests count nodes before w s m → IsLooked w key (looked.Key outer inner leaf)
      → look.byte ≡ byte_at ((tree_of w).depth inner.cell) key → IsCounted (kind_of inner.cell) (cell_in w inner.cell) look.byte children' → Then (counted c look leaf outer inner children') w s m
  counted_then look leaf outer inner counts_as.Two w s m same of_l none rests found byte_is two =
      let some_inner = inner_some w s m outer inner leaf rests found none in
      elim (kind_of look.cell == 4) as (λ a. (kind_of look.cell == 4) ≡ a → Then (cond a (change_to c (at.ReadingIndex look.cell look.byte leaf)) (change_finishes c (spot_target inner) 0 (leaf_reference leaf) 0)) w s m) [
        | true ↦ λ e. (none, rests, outer, inner, found, sym same, byte_is, two)
        | false ↦ λ e. clear_ends l count nodes before aim few w s m outer inner leaf look.byte rests found some_inner none byte_is (λ four. eqb-false _ _ e (ap kind_of same ∙ four)) two
      ] refl
  counted_then look leaf outer inner (counts_as.One reference) w s m same of_l none rests found byte_is one =
      let some_inner = inner_some w s m outer inner leaf rests found none in
      let reached = inner_reached w outer inner leaf found some_inner in
      let more = one_is_more count nodes w inner.cell look.byte reference rests.can.keeps.lawful reached one in
      subst (λ a. Then (cond a (Done Wrong) (change_finishes c (spot_target outer) (outer.high + reference) (leaf_reference leaf) look.cell)) w s m) (sym (lt-leb (2 ^ 32) reference more.2))
      (subst (λ x. Then (change_finishes c (spot_target outer) (outer.high + reference) (leaf_reference leaf) x) w s m) (sym same)
      (collapse_ends l count nodes before aim few w s m outer inner leaf look.byte reference rests found some_inner of_l.low none byte_is one))
    where
      inner_reached : (w : LayerWords) (outer inner : Spot) (leaf : ℕ) → IsLooked w key (looked.Key outer inner leaf) → inner.cell ≢ 0 → IsReached (tree_of w) (Cell inner.cell)
      inner_reached w outer inner leaf found some_inner = at_place found.1.0 found.1.1
        where
          at_place : (place : Place) → IsHeld w key inner (2 ^ 16 + leaf) place → IsReached (tree_of w) (Cell inner.cell)
          at_place Root held = absurd (some_inner held.stands.0)
          at_place (Entry x b) held = subst (λ y. IsReached (tree_of w) (Cell y)) (sym held.stands.0) (comes_place (tree_of w) key (Entry x b) held.comes)
  counted_then look leaf outer inner counts_as.Absent w s m same of_l none rests found byte_is all =
      let some_inner = inner_some w s m outer inner leaf rests found none in
      at_place found.1.0 found.1.1 some_inner
    where
      at_place : (place : Place) → IsHeld w key inner (2 ^ 16 + leaf) place → inner.cell ≢ 0 → ⊥
      at_place Root held some_inner = some_inner held.stands.0
      at_place (Entry x b) held some_inner = other_child count nodes w inner.cell look.byte rests.can.keeps.lawful (subst (λ y. IsReached (tree_of w) (Cell y)) (sym held.stands.0) (comes_place (tree_of w) key (Entry x b) held.comes)) all

-- On a row.
module _ (before : Layer) (c : Change) (words : List ℕ) (is : IsChange c) (row : IsRow c.layout words) (rooted : IsRooted (aim_of c) before) where
  abbrev w : LayerWords
  w = layer_words c.layout words Cached

  abbrev s : LayerWords
  s = layer_words c.layout words Durable

  abbrev m : Marks
  m = row_marks c.layout words

  abbrev lay : Layout
  lay = c.layout

  abbrev cnt : ℕ
  cnt = leaf_count c.layout

  abbrev k : ℕ
  k = key_number c.key

  abbrev Now : Turn Change Ended → Type 0
  Now turn = SureAfter cnt c.layout.nodes before (aim_of c) turn w s m

  abbrev After : Turn Change Ended → Action → Type 0
  After turn a = SureInAfter c.layout before (aim_of c) turn (acted c.layout words a)

  by_load : (p : LayerWord) (a : Action) → HasLayerWord lay p → a ≡ Load (layer_address lay p) → (turn : ℕ → Turn Change Ended) → Now (turn (word_in w p)) → After (turn (rows.got lay words a)) a
  by_load p a has same turn now = subst (λ b. After (turn (rows.got lay words b)) b) (sym same)
      (subst (λ x. After (turn x) (Load (layer_address lay p))) (sym (load_got lay words row.whole p has))
      (load_keeps lay words row.whole (λ w' s' m'. SureAfter cnt lay.nodes before (aim_of c) (turn (word_in w p)) w' s' m') (layer_address lay p) now))

  fits : (p : LayerWord) → word_in w p < 2 ^ 64
  fits p = reads_fit lay words Cached p row.fits

  looking : (look : Look) → IsChangeAt lay c.key c.word (at.Looking look) → SureAt cnt lay.nodes before (aim_of c) (at.Looking look) w s m → After (looks c look (rows.got lay words (look_asks look))) (look_asks look)
  looking look here sure =
      by_load (look_word look.at look.key) (look_asks look) (subst (λ x. HasLayerWord x (look_word look.at look.key)) here.1 (look_has look here.0)) (ap (λ x. Load (layer_address x (look_word look.at look.key))) here.1) (looks c look)
      (go (look_turned look (word_in w (look_word look.at look.key))) (answers_on (look_turn w) (IsLooked w k) look sure.1))
    where
      go : (turn : Turn Look Looked) → AnswersAfter (look_turn w) (IsLooked w k) turn → Now (look_goes c turn)
      go (Go next) answers = (sure.0, answers)
      go (Done found) right = looked_then before c is rooted found w s m sure.0 right

  finding_room : (look : FindRoom) (spot : Spot) (leaf : ℕ) → IsChangeAt lay c.key c.word (at.FindingRoom look spot leaf) → SureAt cnt lay.nodes before (aim_of c) (at.FindingRoom look spot leaf) w s m → After (finds_room c look spot leaf (rows.got lay words (find_room_asks look))) (find_room_asks look)
  finding_room look spot leaf here sure =
      let x = word_in w (find_room_word look) in
      by_load (find_room_word look) (find_room_asks look) (subst (λ y. HasLayerWord y (find_room_word look)) here.1 (room_has look here.0)) (ap (λ y. Load (layer_address y (find_room_word look))) here.1) (finds_room c look spot leaf)
      (go (places_turned (kind_of look.cell) look.places x) (answers_on (find_room_turn w) (IsRoom (kind_of look.cell) (cell_in w look.cell) look.byte) look sure.3))
    where
      go : (turn : Turn Places Room) → AnswersAfter (find_room_turn w) (IsRoom (kind_of look.cell) (cell_in w look.cell) look.byte) (find_room_goes look turn) → Now (room_goes c look spot leaf (find_room_goes look turn))
      go (Go next) answers = (sure.0, sure.1, sure.2, answers)
      go (Done found) right = room_then before c is rooted look spot leaf found w s m (subst (λ y. IsCellOf y look.cell) here.1 here.0.cell) sure.1 sure.2 sure.0 right

  reading_cell : (read : ReadCell) (spot : Spot) (byte leaf : ℕ) → IsChangeAt lay c.key c.word (at.ReadingCell read spot byte leaf) → SureAt cnt lay.nodes before (aim_of c) (at.ReadingCell read spot byte leaf) w s m → After (reads_cell c read spot byte leaf (rows.got lay words (read_asks read))) (read_asks read)
  reading_cell read spot byte leaf here sure =
      let x = word_in w (read_word read) in
      by_load (read_word read) (read_asks read) (subst (λ y. HasLayerWord y (read_word read)) here.1 (read_has read here.0)) (ap (λ y. Load (layer_address y (read_word read))) here.1) (reads_cell c read spot byte leaf)
      (go (ltb (read.offset + 1) (read_all read)) (read_told read x) (answers_on (read_turn w) (IsReadOf w read.reference) read sure.3))
    where
      go : (more : Bool) (told : cells.Cell) → AnswersAfter (read_turn w) (IsReadOf w read.reference) (cond more (Go (record read { cell = told; offset = read.offset + 1 })) (Done told)) → Now (read_goes c read spot byte leaf (cond more (Go (record read { cell = told; offset = read.offset + 1 })) (Done told)))
      go true told answers = (sure.0, sure.1, sure.2, answers)
      go false told right =
          let found = sure.2.1 in
          let reached = comes_place (tree_of w) k (Entry read.reference (byte_at sure.2.0 k)) found.2 in
          let is_cell = read_is_cell cnt lay.nodes w read.reference told sure.1.can.keeps.lawful reached right fits in
          let four : told.kind ≤ 4 = subst (λ y. y ≤ 4) right.stands.0 here.2.most in
          let made = larger_of told byte (leaf_reference leaf) in
          (sure.0, leaf, sure.1, as_larger found sure.2.2 right is_cell four here.4 refl refl, take_answers before c is rooted made.kind m)

  reading_depth : (leaf : ℕ) (outer inner : Spot) → IsChangeAt lay c.key c.word (at.ReadingDepth leaf outer inner) → SureAt cnt lay.nodes before (aim_of c) (at.ReadingDepth leaf outer inner) w s m
      → After (reads_depth c leaf outer inner (rows.got lay words (Load (layer_address lay (cell_word inner.cell depth_offset))))) (Load (layer_address lay (cell_word inner.cell depth_offset)))
  reading_depth leaf outer inner here sure =
      by_load (cell_word inner.cell depth_offset) (Load (layer_address lay (cell_word inner.cell depth_offset))) (head_has lay inner.cell depth_offset here.0 (omega arith)) refl (reads_depth c leaf outer inner) (at_place sure.2.1.0 sure.2.1.1)
    where
      some_inner : inner.cell ≢ 0
      some_inner = inner_some before c is rooted w s m outer inner leaf sure.1 sure.2 sure.0

      depth : ℕ
      depth = (tree_of w).depth inner.cell

      reached_then : IsReached (tree_of w) (Cell inner.cell) → Now (reads_depth c leaf outer inner ((tree_of w).depth inner.cell))
      reached_then reached =
          let lawful = sure.1.can.keeps.lawful in
          let sound = lawful.tree (Cell inner.cell) reached in
          let byte = byte_at ((tree_of w).depth inner.cell) k in
          subst (λ a. Now (cond a (Done Wrong) (change_to c (at.Counting (count_starts lay inner.cell byte) leaf outer inner)))) (sym (lt-leb key_bytes ((tree_of w).depth inner.cell) sound.depth))
          (sure.0, sure.1, sure.2, refl, (others_most + 1, count_is_exact lay inner.cell byte w (others_most + 1) (omega arith) here.0 (byte_small ((tree_of w).depth inner.cell) k) (lawful.forms inner.cell reached)))

      at_place : (place : Place) → IsHeld w k inner (2 ^ 16 + leaf) place → Now (reads_depth c leaf outer inner ((tree_of w).depth inner.cell))
      at_place Root held = absurd (some_inner held.stands.0)
      at_place (Entry x b) held = reached_then (subst (λ y. IsReached (tree_of w) (Cell y)) (sym held.stands.0) (comes_place (tree_of w) k (Entry x b) held.comes))

  counting : (look : Count) (leaf : ℕ) (outer inner : Spot) → IsChangeAt lay c.key c.word (at.Counting look leaf outer inner) → SureAt cnt lay.nodes before (aim_of c) (at.Counting look leaf outer inner) w s m → After (counts c look leaf outer inner (rows.got lay words (count_asks look))) (count_asks look)
  counting look leaf outer inner here sure =
      let x = word_in w (count_word look) in
      by_load (count_word look) (count_asks look) (subst (λ y. HasLayerWord y (count_word look)) here.1 (count_has look here.0)) (ap (λ y. Load (layer_address y (count_word look))) here.1) (counts c look leaf outer inner)
      (go (others_turned (kind_of look.cell) look.byte look.others x) (answers_on (count_turn w) (IsCounted (kind_of look.cell) (cell_in w look.cell) look.byte) look sure.4))
    where
      go : (turn : Turn Others Counted) → AnswersAfter (count_turn w) (IsCounted (kind_of look.cell) (cell_in w look.cell) look.byte) (count_spec.count_goes look turn) → Now (count_goes c look leaf outer inner (count_spec.count_goes look turn))
      go (Go next) answers = (sure.0, sure.1, sure.2, sure.3, answers)
      go (Done found) right =
          counted_then before c is rooted look leaf outer inner found w s m here.2 (subst (λ y. IsCellOf lay y) here.2 (subst (λ y. IsCellOf y look.cell) here.1 here.0.cell)) sure.0 sure.1 sure.2 sure.3
          (subst (λ y. IsCounted (kind_of y) (cell_in w y) look.byte found) here.2 right)

  reading_index : (cell byte leaf : ℕ) → IsChangeAt lay c.key c.word (at.ReadingIndex cell byte leaf) → SureAt cnt lay.nodes before (aim_of c) (at.ReadingIndex cell byte leaf) w s m
      → After (reads_index c cell byte leaf (rows.got lay words (Load (layer_address lay (cell_word cell (8 + byte / 8)))))) (Load (layer_address lay (cell_word cell (8 + byte / 8))))
  reading_index cell byte leaf here sure =
      let small = here.2 in
      let outer = sure.2 in
      let inner = sure.3 in
      let same = sure.5 in
      let in_4 : 8 + byte / 8 < 88 = omega arith in
      let some_inner = inner_some before c is rooted w s m outer inner leaf sure.1 sure.4 sure.0 in
      by_load (cell_word cell (8 + byte / 8)) (Load (layer_address lay (cell_word cell (8 + byte / 8)))) (cell_has lay cell (8 + byte / 8) here.0 (subst (λ y. 8 + byte / 8 < kind_words y) (sym here.1) in_4)) refl (reads_index c cell byte leaf)
      (subst (λ y. Now (reads_index c y byte leaf (cell_in w y (8 + byte / 8)))) same
      (unindex_ends lay cnt lay.nodes before (aim_of c) (few before c is rooted) w s m outer inner leaf byte sure.1 sure.4 some_inner sure.0 sure.6 (ap kind_of same ∙ here.1) sure.7))

  -- A leaf is taken, or a cell.
  none_then : (kind : ℕ) (told n : Marks) → 1 ≤ kind → kind ≤ 5 → SureCan cnt lay.nodes before w s → MarksTell cnt told w → ((i : ℕ) → n kind i ≡ told kind i) → IsTaken cnt n kind taken.Absent → c.word ≢ 0 → (w' s' : LayerWords) → w' ≡ w → s' ≡ s → SureCan cnt lay.nodes before w' s' × (HasFew lay.nodes before → ⊥) × (c.word ≢ 0)
  none_then kind told n low high can tells same all some_word w' s' a b = (
    moved (λ v r x. SureCan cnt lay.nodes before v r) w s w' s' m m a b refl can,
    (λ keys. some_is_taken cnt lay.nodes w told n kind can.keeps.lawful tells (few_keys lay.nodes (layer_of w) before can.keeps.same keys) same (nodes_fewer before c is rooted) (few before c is rooted) low high all),
    some_word,
  )

  -- what follows of each turn of a take of this kind, follows of this one
  taking_by : (take : Take) (kind : ℕ) → IsTake take → take.layout ≡ lay → take.kind ≡ kind → Answers (take_turn m) (IsTaken cnt m kind) take → (Then : Turn Take Taken → LayerWords → LayerWords → Marks → Type 0)
      → ((turn : Turn Take Taken) (w' s' : LayerWords) (m' : Marks) → TakeOn cnt kind w s m turn w' s' m' → Then turn w' s' m')
      → Then (take_turned take (rows.got lay words (take_asks take))) (layer_words lay (acted lay words (take_asks take)) Cached) (layer_words lay (acted lay words (take_asks take)) Durable) (row_marks lay (acted lay words (take_asks take)))
  taking_by take kind is_take same of_kind answers Then then_so =
      then_so (take_turned take (rows.got lay words (take_asks take))) (layer_words lay (acted lay words (take_asks take)) Cached) (layer_words lay (acted lay words (take_asks take)) Durable) (row_marks lay (acted lay words (take_asks take)))
      (subst (λ j. TakeOn cnt j w s m (take_turned take (rows.got lay words (take_asks take))) (layer_words lay (acted lay words (take_asks take)) Cached) (layer_words lay (acted lay words (take_asks take)) Durable) (row_marks lay (acted lay words (take_asks take)))) of_kind
      (take_on take lay words is_take same row.whole (subst (λ j. Answers (take_turn m) (IsTaken cnt m j) take) (sym of_kind) answers)))

  taking_leaf : (take : Take) (place : Site) → IsChangeAt lay c.key c.word (at.TakingLeaf take place) → SureAt cnt lay.nodes before (aim_of c) (at.TakingLeaf take place) w s m → After (takes_leaf c take place (rows.got lay words (take_asks take))) (take_asks take)
  taking_leaf take place here sure =
      taking_by take 1 here.0 here.1 here.2 sure.2 (λ turn w' s' m'. SureAfter cnt lay.nodes before (aim_of c) (leaf_goes c place turn) w' s' m') go
    where
      go : (turn : Turn Take Taken) (w' s' : LayerWords) (m' : Marks) → TakeOn cnt 1 w s m turn w' s' m' → SureAfter cnt lay.nodes before (aim_of c) (leaf_goes c place turn) w' s' m'
      go (Go next) w' s' m' on = moved (λ v r n. Rests cnt lay.nodes before v r n × IsSited v k place × Answers (take_turn n) (IsTaken cnt n 1) next) w s w' s' m m' on.0 on.1 on.2 (sure.0, sure.1, moved (λ v r n. Answers (take_turn n) (IsTaken cnt n 1) next) w s w s m m refl refl refl on.3)
      go (Done (taken.One number)) w' s' m' on =
          let unreached : IsUnreached w (LeafPart number) = taken_is_unreached cnt w m m 1 number sure.0.tells (λ i. refl) (few before c is rooted) on.3 in
          let value = leaf_words (fill_leaf_start lay number c.key (c.word - 1)) in
          record {
            begun = w;
            keeps = sure.0.can.keeps;
            sure = moved (λ v r n. SureFilling cnt lay.nodes before w (LeafPart number) 1 value (Fills 0 0 None) v r) w s w' s' m m on.0 on.1 refl (fill_begins cnt lay.nodes before (LeafPart number) 1 value w s sure.0.can unreached);
            sited = sure.1;
            told = m;
            tells = sure.0.tells;
            marked = on.2;
            unreached = unreached;
          }
      go (Done taken.Absent) w' s' m' on = none_then 1 m m (let le : 1 ≤ 1 = omega arith in le) (let le : 1 ≤ 5 = omega arith in le) sure.0.can sure.0.tells (λ i. refl) on.3 here.4 w' s' on.0 on.1

  taking_cell : (take : Take) (new : NewCell) → IsChangeAt lay c.key c.word (at.TakingCell take new) → SureAt cnt lay.nodes before (aim_of c) (at.TakingCell take new) w s m → After (takes_cell c take new (rows.got lay words (take_asks take))) (take_asks take)
  taking_cell take new here sure =
      taking_by take new.cell.kind here.0 here.1 here.2 sure.4 (λ turn w' s' m'. SureAfter cnt lay.nodes before (aim_of c) (cell_goes c new turn) w' s' m') go
    where
      kind : ℕ
      kind = new.cell.kind

      leaf_kept : (i : ℕ) → m new.cell.kind i ≡ sure.2.told new.cell.kind i
      leaf_kept i = sure.2.marked.others new.cell.kind i (λ one. let low = here.3.low in absurd (omega arith))

      go : (turn : Turn Take Taken) (w' s' : LayerWords) (m' : Marks) → TakeOn cnt new.cell.kind w s m turn w' s' m' → SureAfter cnt lay.nodes before (aim_of c) (cell_goes c new turn) w' s' m'
      go (Go next) w' s' m' on =
          let leaf = sure.1 in
          moved (λ v r n. (c.word ≢ 0) × (leaf : ℕ) × HasLeaf cnt lay.nodes before k (c.word - 1) leaf v r n × IsWanted v c.key leaf new × Answers (take_turn n) (IsTaken cnt n new.cell.kind) next) w s w' s' m m' on.0 on.1 on.2 (sure.0, sure.1, sure.2, sure.3, on.3)
      go (Done (taken.One number)) w' s' m' on =
          let low = here.3.low in
          let has = sure.2 in
          let fill = fill_cell_start lay number new.cell in
          let lines = lines_of new.cell.kind in
          let is_cell : part_of new.cell.kind number ≡ cell_part fill = ap (λ a. cond a (LeafPart number) (CellPart (new.cell.kind * 2 ^ 16 + number))) (ne_eqb new.cell.kind 1 (λ e. omega arith)) in
          let unreached : IsUnreached w (cell_part fill) = subst (IsUnreached w) is_cell (taken_is_unreached cnt w has.told m new.cell.kind number has.tells leaf_kept (few before c is rooted) on.3) in
          record {
            start = record { sets = sure.0; leaf = sure.1; begun = w; durable = s; one = m; has = has; wanted = sure.3 };
            sure = moved (λ v r n. SureFilling cnt lay.nodes before w (cell_part fill) lines (words_of new.cell) (Fills 0 0 None) v r) w s w' s' m m on.0 on.1 refl (fill_begins cnt lay.nodes before (cell_part fill) lines (words_of new.cell) w s has.can unreached);
            marked = subst (λ p. IsMarkSet m m' (part_reference p) 1) is_cell on.2;
            unreached = unreached;
          }
      go (Done taken.Absent) w' s' m' on =
          let low = here.3.low in
          none_then new.cell.kind sure.2.told m (omega arith) here.3.high sure.2.can sure.2.tells leaf_kept on.3 sure.0 w' s' on.0 on.1

  -- A leaf is filled, or a cell.
  filling_leaf : (fill : FillLeaf) (place : Site) → IsChangeAt lay c.key c.word (at.FillingLeaf fill place) → SureAt cnt lay.nodes before (aim_of c) (at.FillingLeaf fill place) w s m → After (fills_leaf c fill place (rows.got lay words (fill_leaf_asks fill))) (fill_leaf_asks fill)
  filling_leaf fill place here sure =
      let on = leaf_on cnt lay.nodes before sure.begun fill lay words here.0 here.1 row sure.sure in
      let after = acted lay words (fill_leaf_asks fill) in
      go (filling_next 1 fill.at (rows.got lay words (fill_leaf_asks fill))) (layer_words lay after Cached) (layer_words lay after Durable) (row_marks lay after) on.0 on.1
    where
      some_word : c.word ≢ 0
      some_word e = let node = here.3 in absurd (omega arith)

      go : (next : Option Filling) (w' s' : LayerWords) (m' : Marks) → SureFilling cnt lay.nodes before sure.begun (LeafPart fill.number) 1 (leaf_words fill) (leaf_after (fills.fill_leaf_goes fill next)) w' s' → m' ≡ m → SureAfter cnt lay.nodes before (aim_of c) (fill_leaf_goes c place fill.number (fills.fill_leaf_goes fill next)) w' s' m'
      go (Some next) w' s' m' filling same = record {
        begun = sure.begun;
        keeps = sure.keeps;
        sure = filling;
        sited = sure.sited;
        told = sure.told;
        tells = sure.tells;
        marked = subst (λ n. IsMarkSet sure.told n (Leaf fill.number) 1) (sym same) sure.marked;
        unreached = sure.unreached;
      }
      go None w' s' m' filled same =
          let node = here.3 in
          let node_is : fill.node ≡ c.word - 1 = omega arith in
          let within : fill.number < cnt = subst (λ y. fill.number < leaf_count y) here.1 here.0.number in
          let below : fill.node < lay.nodes = subst (λ (y : Layout). fill.node < y.nodes) here.1 here.0.node in
          let is_filled = leaf_is_filled cnt lay.nodes w' fill.key fill.node fill.number (subst IsKey (sym here.2) is.key) within below (λ o lt. filled.stored o lt) in
          filled_then before c is rooted fill.number place w' s' m'
          (record {
            can = filled.can;
            told = sure.told;
            tells = tells_stay sure.begun w' (LeafPart fill.number) sure.unreached filled.outside cnt lay.nodes sure.told sure.keeps.lawful sure.tells;
            marked = subst (λ n. IsMarkSet sure.told n (Leaf fill.number) 1) (sym same) sure.marked;
            unreached = filled.unreached;
            filled = subst (λ n. IsFilledLeaf cnt lay.nodes w' k n fill.number) node_is (subst (λ y. IsFilledLeaf cnt lay.nodes w' (key_number y) fill.node fill.number) here.2 is_filled);
          }) (sited_stays sure.begun w' (LeafPart fill.number) sure.unreached filled.outside k place sure.sited) here.4 some_word

  filling_cell : (fill : FillCell) (spot : Spot) (free : ℕ) → IsChangeAt lay c.key c.word (at.FillingCell fill spot free) → SureAt cnt lay.nodes before (aim_of c) (at.FillingCell fill spot free) w s m → After (fills_cell c fill spot free (rows.got lay words (fill_cell_asks fill))) (fill_cell_asks fill)
  filling_cell fill spot free here sure =
      let on = cell_on cnt lay.nodes before sure.start.begun fill lay words here.0 here.1 row sure.sure in
      let after = acted lay words (fill_cell_asks fill) in
      go (filling_next (lines_of fill.cell.kind) fill.at (rows.got lay words (fill_cell_asks fill))) (layer_words lay after Cached) (layer_words lay after Durable) (row_marks lay after) on.0 on.1
    where
      x : ℕ
      x = fill.cell.kind * 2 ^ 16 + fill.number

      end : (w' s' : LayerWords) (m' : Marks) → SureFilled cnt lay.nodes before sure.start.begun (cell_part fill) (lines_of fill.cell.kind) (words_of fill.cell) w' s' → m' ≡ m → (wanted : IsWanted sure.start.begun c.key sure.start.leaf (record { cell = fill.cell; spot = spot; free = free })) → SureAfter cnt lay.nodes before (aim_of c) (change_finishes c (spot_target spot) (spot.high + filled_reference fill) free 0) w' s' m'
      end w' s' m' filled same wanted =
          let within : fill.number < cnt = subst (λ y. fill.number < leaf_count y) here.1 here.0.number in
          let small = few before c is rooted in
          let low = here.0.kind.0 in
          let high = here.0.kind.1 in
          let y = fill.cell.kind * 2 ^ 16 + fill.number in
          let kind_is : kind_of y ≡ fill.cell.kind = omega arith in
          let number_is : number_of y ≡ fill.number = omega arith in
          let lawful = sure.start.has.can.keeps.lawful in
          let has : HasCell lay cnt lay.nodes before (aim_of c) small y sure.start.leaf w' s' m' = record {
            can = filled.can;
            told = sure.start.has.told;
            one = sure.start.one;
            tells = tells_stay sure.start.begun w' (cell_part fill) sure.unreached filled.outside cnt lay.nodes sure.start.has.told lawful sure.start.has.tells;
            first = sure.start.has.marked;
            second = subst (λ n. IsMarkSet sure.start.one n (Cell y) 1) (sym same) sure.marked;
            unreached = filled.unreached;
            filled = leaf_stays cnt lay.nodes sure.start.begun w' y k (c.word - 1) sure.start.leaf filled.outside sure.start.has.filled;
            least = subst (λ n. 2 ≤ n) (sym kind_is) low;
            most = subst (λ n. n ≤ 5) (sym kind_is) high;
            within = subst (λ n. n < cnt) (sym number_is) within;
          } in
          let stands : StandsIn w' y fill.cell = (kind_is, λ o lt. filled.stored o (subst (λ n. o < n) (sym (whole_lines fill.cell.kind low high)) lt)) in
          by_wanted wanted has stands
        where
          by_wanted : IsWanted sure.start.begun c.key sure.start.leaf (record { cell = fill.cell; spot = spot; free = free }) → HasCell lay cnt lay.nodes before (aim_of c) (few before c is rooted) (fill.cell.kind * 2 ^ 16 + fill.number) sure.start.leaf w' s' m' → StandsIn w' (fill.cell.kind * 2 ^ 16 + fill.number) fill.cell
              → SureAfter cnt lay.nodes before (aim_of c) (change_finishes c (spot_target spot) (spot.high + filled_reference fill) free 0) w' s' m'
          by_wanted (as_pair {reference} {depth} {byte} found is_reference deep small cell_is none) has stands =
              let found' = looked_stays sure.start.begun w' (cell_part fill) sure.unreached filled.outside k (looked.Parts spot reference depth byte) found in
              subst (λ n. SureAfter cnt lay.nodes before (aim_of c) (change_finishes c (spot_target spot) (spot.high + filled_reference fill) n 0) w' s' m') (sym none)
              (pair_ends lay cnt lay.nodes before (aim_of c) (few before c is rooted) w' s' m' spot reference depth byte sure.start.leaf (fill.cell.kind * 2 ^ 16 + fill.number) fill.cell has is.key found' sure.start.sets is_reference deep small cell_is stands)
          by_wanted (as_larger {x = old} {depth} {byte} {read} found byte_is reads is_read four small cell_is free_is) has stands =
              let found' = looked_stays sure.start.begun w' (cell_part fill) sure.unreached filled.outside k (looked.Nothing spot old depth) found in
              let reached = comes_place (tree_of sure.start.begun) k (Entry old (byte_at depth k)) found.2 in
              let kept = cell_stays sure.start.begun w' (cell_part fill) sure.unreached filled.outside old reached in
              let reads' : StandsIn w' old read = (reads.stands.0, λ o lt. ap (λ f. f o) kept ∙ reads.stands.1 o lt) in
              subst (λ n. SureAfter cnt lay.nodes before (aim_of c) (change_finishes c (spot_target spot) (spot.high + filled_reference fill) n 0) w' s' m') (sym free_is)
              (grow_ends lay cnt lay.nodes before (aim_of c) (few before c is rooted) w' s' m' spot old depth byte sure.start.leaf (fill.cell.kind * 2 ^ 16 + fill.number) read fill.cell has found' byte_is sure.start.sets reads' is_read four small cell_is stands)

      go : (next : Option Filling) (w' s' : LayerWords) (m' : Marks) → SureFilling cnt lay.nodes before sure.start.begun (cell_part fill) (lines_of fill.cell.kind) (words_of fill.cell) (cell_after fill (fills.fill_cell_goes fill next)) w' s' → m' ≡ m → SureAfter cnt lay.nodes before (aim_of c) (fill_cell_goes c spot free (filled_reference fill) (fills.fill_cell_goes fill next)) w' s' m'
      go (Some next) w' s' m' filling same = record {
        start = sure.start;
        sure = filling;
        marked = subst (λ n. IsMarkSet sure.start.one n (part_reference (cell_part fill)) 1) (sym same) sure.marked;
        unreached = sure.unreached;
      }
      go None w' s' m' filled same = end w' s' m' filled same sure.start.wanted

  -- The end.
  finishing : (finish : Finish) → IsChangeAt lay c.key c.word (at.Finishing finish) → SureAt cnt lay.nodes before (aim_of c) (at.Finishing finish) w s m → After (finish_goes c (finish_turned finish (rows.got lay words (finish_asks finish)))) (finish_asks finish)
  finishing finish here sure =
      let on = finish_on cnt lay.nodes before (made_of (aim_of c) before) finish lay words here.0 here.1 row sure.0 sure.1 in
      let after = acted lay words (finish_asks finish) in
      go (finish_turned finish (rows.got lay words (finish_asks finish))) after on.0 on.1
    where
      go : (turn : Turn Finish (Unit {0})) (after : List ℕ) → EndingIn cnt lay.nodes before (made_of (aim_of c) before) lay (ending_after turn) after → MarksAfter cnt turn (layer_words lay after Cached) (row_marks lay after) → SureInAfter lay before (aim_of c) (finish_goes c turn) after
      go (Go next) after ending marks = (ending, marks)
      go (Done answer) after can tells = record { can = can; tells = tells }

  acts : (part : ChangeAt) → IsChangeAt lay c.key c.word part → SureAt cnt lay.nodes before (aim_of c) part w s m → After (change_at_turned c part (rows.got lay words (change_at_asks lay part))) (change_at_asks lay part)
  acts (at.Looking look) here sure = looking look here sure
  acts (at.TakingLeaf take place) here sure = taking_leaf take place here sure
  acts (at.FillingLeaf fill place) here sure = filling_leaf fill place here sure
  acts (at.FindingRoom look spot leaf) here sure = finding_room look spot leaf here sure
  acts (at.ReadingCell read spot byte leaf) here sure = reading_cell read spot byte leaf here sure
  acts (at.TakingCell take new) here sure = taking_cell take new here sure
  acts (at.FillingCell fill spot free) here sure = filling_cell fill spot free here sure
  acts (at.ReadingDepth leaf outer inner) here sure = reading_depth leaf outer inner here sure
  acts (at.Counting look leaf outer inner) here sure = counting look leaf outer inner here sure
  acts (at.ReadingIndex cell byte leaf) here sure = reading_index cell byte leaf here sure
  acts (at.Finishing finish) here sure = finishing finish here sure

pub change_acts : ChangeActs
change_acts before c words is row rooted sure = acts before c words is row rooted c.at is.here sure
