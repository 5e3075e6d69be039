-- A recovered image, whose list its volatile words tell, is opened as an index.
use Rattle.std.proofs.Common.{◌≡◌, ℕ, zero, suc, ◌+◌, ◌/◌, ◌<◌, ◌&&◌, Bool, true, false, cond, List, [], refl, sym}
use Rattle.std.proofs.Common.{ap, ◌∙◌, subst, arith}
use Rattle.std.specs.Prelude.{nat_lt}
use Rattle.std.proofs.lemmas.Bool.{ne_eqb}
use Rattle.cat_key.specs.declared.Pair.{Pair}
use Rattle.cat_history.specs.Maps.{map_of}
use Rattle.cat_history.specs.Replays.{pairs_of}
use Rattle.cat_history.specs.declared.op.Write.{Write}
use Rattle.pm_words.specs.Codes.{gone_status, empty_state}
use Rattle.pm_words.specs.declared.layout.Layout.{Layout}
use Rattle.pm_words.specs.Images.{Row}
use Rattle.pm_words.specs.Locations.{Word, Location, Clock, Updater, Volatile, Mark, Cached, Durable, HasWord, at}
use Rattle.pm_words.specs.Rows.{IsRow, durable_row}
use Rattle.pm_words.specs.Offsets.{state_offset}
use Rattle.version_lock.specs.Versions.{IsGeneration}
use Rattle.data_node.specs.Lists.{ListNode, MakeList, Rise, range_in}
use Rattle.data_node.specs.Spots.{Spot}
use Rattle.data_node.specs.Weights.{node_weight, total}
use Rattle.data_node.proofs.ListLemmas.{chain_is, members_few}
use Rattle.image_rules.specs.Nodes.{image_spot, image_list}
use Rattle.image_rules.specs.Sound as image
use Rattle.image_rules.specs.Sound.{image_map, IsMapOf as IsImageMap}
use Rattle.image_rules.proofs.MapLemmas.{sound_has_map}
use Rattle.image_rules.specs.Weights.{image_weight}
use Rattle.image_layer_rules.specs.Sound.{IsSoundByAll, in_image}
use Rattle.index_core.specs.search_layer.specs.Rows.{layer_words}
use Rattle.layer_map.specs.Places.{is_of_layer}
use Rattle.index_core.specs.search_layer.proofs.RowLemmas.{rows_alike, layer_alike}
use Rattle.image_recovery.specs.image_recovery_law.specs.RowMoves.{MarksTellIn}
use Rattle.image_recovery.specs.image_recovery_law.proofs.RowMoves.{tells_by}
use Rattle.index_law.specs.Facts.{Facts, list_in, spot_in}
use Rattle.index_law.specs.Weights.{gone_weight, index_weight}
use Rattle.index_law.specs.Worlds.{facts}
use Rattle.image_recovery.specs.updater_row_law.specs.Columns.{column, line_count, line_field, line_word}
use Rattle.image_recovery.specs.image_recovery_law.specs.Columns.{Columns, IsMapOf}
use Rattle.image_recovery.specs.image_recovery_law.specs.Rest.{Rests}
use Rattle.image_recovery.specs.image_recovery_law.specs.Rows.{columns_in, word_if}
use Rattle.image_recovery.specs.image_recovery_law.proofs.RowColumns.{columns_alike, crash_has_columns}
use Rattle.image_recovery.specs.image_recovery_law.proofs.SoundColumns.{spots_are, columns_keep_maps}
use Rattle.index_core.specs.index_opening_law.specs.Openings.{HaveNoOrders, IsOpening, IsUnlocked, TellsList}
use Rattle.index_core.specs.index_opening_law.proofs.Opened.{spot_is, opening_has_list, opening_is_unlocked}
use Rattle.index_core.specs.lone_hops_law.proofs.Short.{empty_is_short}
use Rattle.index_core.specs.Indexes.{Index, layered, parties_of, world}
use Rattle.index_core.specs.Opened.{opened_index, row_with}
use Rattle.index_core.specs.PartyStates.{idle_states}
use Rattle.index_core.proofs.Quiet.{can_walk}
use Rattle.index_core.proofs.Stepping.{respare}
use Rattle.index_core.proofs.Opening.{opening_is_index, opening_is_unused}
use Rattle.image_recovery.specs.Plans.{columns, list_of}
use Rattle.image_recovery.specs.Recovered.{IsRecoveredTo}
use Rattle.recovery.specs.Opened.{IsOpenedFrom}
use Rattle.recovery.specs.Tellings.{IsUntold, IsNodeMark, KeepsBeside}

-- what a list of nodes makes is the list that is read off the words
read_list : (l : Layout) (words : List ℕ) (list : List ListNode) → MakeList l.nodes (spot_in l words) list → list_in l words ≡ list
read_list l words list makes =
    chain_is (spot_in l words) l.nodes 0 list makes.chain (members_few (spot_in l words) 0 l.nodes list makes.chain (subst (λ a. Rise a list) (sym makes.lowest) makes.rise) makes.within)

-- without GONE nodes none weighs
none_weigh : (half : ℕ) (status : ℕ → ℕ) (n : ℕ) → ((k : ℕ) → k < n → status k ≡ gone_status → ⊥) → gone_weight half status n ≡ 0
none_weigh half status zero none = refl
none_weigh half status (suc n) none =
    let rest : 0 + gone_weight half status n ≡ 0 = (let before = none_weigh half status n (λ k low. none k (omega arith)) in omega arith) in
    ap (λ b. cond {A = ℕ} b half 0 + gone_weight half status n) (ne_eqb (status n) gone_status (none n (omega arith))) ∙ rest

-- no log line of a recovered row is in use
no_line : (l : Layout) (words : List ℕ) (o : Columns) (list : List ListNode) (safe : Columns) → Rests l list o (columns_in l words Cached) safe → (j : ℕ) → line_field l words Cached state_offset j ≡ empty_state
unfolding column word_if
no_line l words o list safe rests j =
    let empty : cond (nat_lt j (line_count l) && true) (at l words (Cached (line_word state_offset j))) 0 ≡ 0 = rests.empty j in
    both (nat_lt j (line_count l)) (at l words (Cached (line_word state_offset j))) ∙ empty
  where
    both : (b : Bool) (x : ℕ) → cond b x 0 ≡ cond (b && true) x 0
    both true x = refl
    both false x = refl

module _ (from row : Row) (recovered : IsRecoveredTo from row) where
  abbrev l : Layout
  l = from.layout

  abbrev list : List ListNode
  list = list_of from

  -- the nodes of the recovered rows make the image's list
  made : MakeList l.nodes (spot_in l row.words) list
  made = subst (λ (s : ℕ → Spot). MakeList l.nodes s list) (spot_is l row.words) recovered.rests.sound.nodes.makes

  pub untold : IsUntold row.layout row.words
  untold = subst (λ (m : Layout). IsUntold m row.words) (sym recovered.layout) (record {
    some = recovered.rests.sound.nodes.some;
    makes = subst (MakeList l.nodes (spot_in l row.words)) (sym (read_list l row.words list made)) made;
    zero = recovered.clear;
  })

  -- Once the volatile words tell the list, they are those of an index.
  module _ (words : List ℕ) (tells : TellsList row.layout (list_in row.layout row.words) words) (orders : HaveNoOrders row.layout words) (beside : KeepsBeside row.layout row.words words) (is_row : IsRow row.layout words)
      (base : List Pair) (pairs : base ≡ pairs_of (image_map from.layout from.words)) (keeps : image.IsMapOf from.layout from.words (map_of base)) where
    beside_here : KeepsBeside l row.words words
    beside_here = subst (λ (m : Layout). KeepsBeside m row.words words) recovered.layout beside

    columns_kept : (twin : Word → Location) → ((w : Word) → HasWord l w → at l words (twin w) ≡ at l row.words (twin w)) → columns_in l words twin ≡ columns_in l row.words twin
    columns_kept twin same =
        columns_alike l (λ w. at l row.words (twin w)) (λ w. at l words (twin w)) (layer_words l row.words twin) (layer_words l words twin) (λ w rest. same w rest.0)
        (rows_alike l row.words words twin twin (λ w place. same w place.there))

    cached_kept : columns_in l words Cached ≡ columns_in l row.words Cached
    cached_kept = columns_kept Cached (λ w has. beside_here (Cached w) has (λ mark. mark))

    durable_kept : columns_in l words Durable ≡ columns_in l row.words Durable
    durable_kept = columns_kept Durable (λ w has. beside_here (Durable w) has (λ mark. mark))

    kept_map : IsMapOf l list (columns_in l row.words Cached) (map_of base)
    kept_map = (recovered.rests.same_map (map_of base)).0 ((columns_keep_maps l from.words (map_of base)).1 keeps)

    -- they are none of the layer's words
    not_told : (p : Location) → is_of_layer p ≡ true → IsNodeMark p → ⊥
    not_told Clock of_layer told = told
    not_told Updater of_layer told = told
    not_told (Volatile n o) of_layer told = let clash : false ≡ true = of_layer in cc
    not_told (Mark kind n) of_layer told = told
    not_told (Cached w) of_layer told = told
    not_told (Durable w) of_layer told = told

    marks_here : MarksTellIn l words
    marks_here =
        let same = layer_alike l row.words words (λ p has of_layer. beside_here p has (not_told p of_layer)) in
        tells_by l row.words words same.cached same.marks recovered.marks

    orders_here : HaveNoOrders l words
    orders_here = subst (λ (m : Layout). HaveNoOrders m words) recovered.layout orders

    pub is_opening : IsOpening l list (columns from) words (map_of base)
    is_opening = record {
      row = subst (λ (m : Layout). IsRow m words) recovered.layout is_row;
      rests = subst (λ (c : Columns). Rests l list (columns from) c (columns_in l words Durable)) (sym cached_kept)
          (subst (λ (c : Columns). Rests l list (columns from) (columns_in l row.words Cached) c) (sym durable_kept) recovered.rests);
      marks = marks_here;
      keeps = subst (λ (c : Columns). IsMapOf l list c (map_of base)) (sym cached_kept) kept_map;
      tells = subst (λ (ms : List ListNode). TellsList l ms words) (read_list l row.words list made) (subst (λ (m : Layout). TellsList m (list_in m row.words) words) recovered.layout tells);
      orders = orders_here;
    }

    abbrev s : Index
    s = opened_index (row_with l words) base []

    abbrev f : Facts
    f = facts (world s)

    abbrev left : List ℕ
    left = durable_row l row.words

    -- it has the list and the words of the image that was durable then, and so its weight
    list_left : f.list ≡ image_list l left
    list_left = opening_has_list l list (columns from) words (map_of base) is_opening ∙ sym recovered.left.same_list

    spot_left : f.now ≡ image_spot l left
    spot_left =
        sym (spot_is l words)
        ∙ (λ k. (cached_kept k).spot)
        ∙ (λ k. (sym recovered.rests.durable k).spot)
        ∙ (λ k. (sym (crash_has_columns l row.words) k).spot)
        ∙ spots_are l left

    unlocked : IsUnlocked (world s)
    unlocked = opening_is_unlocked l list (columns from) words (map_of base) _ is_opening

    weighs : index_weight l f ≡ image_weight l from.words
    weighs =
        let none = none_weigh (l.slots / 2) f.status l.nodes unlocked.not_gone in
        let listed : total (λ n. node_weight l.slots (range_in f.list n) (f.now n)) 0 f.list ≡ image_weight l from.words =
        (λ k. total (λ n. node_weight l.slots (range_in (list_left k) n) (spot_left k n)) 0 (list_left k)) ∙ recovered.left.same_weight in
        omega arith

    pub opens : IsSoundByAll l from.words → IsGeneration (suc (columns from).generation) → IsOpenedFrom from s
    opens sound next =
        let unused = opening_is_unused l list (columns from) words base is_opening in
        let index = opening_is_index l list (columns from) words base is_opening in
        let layout : s.layout ≡ from.layout = refl in
        let states : s.states ≡ idle_states (parties_of from.layout) = refl in
        let history : s.history ≡ [] = refl in
        let short = empty_is_short (layered s) index.layered (can_walk s index unused.quiet).quiet (no_line l words (columns from) list (columns_in l words Durable) is_opening.rests) in
        assumption (unused, is_opening, index, pairs, keeps, marks_here, orders_here, weighs, short)

-- with whatever room
pub with_room : (from : Row) (s : Index) (room : ℕ) → IsOpenedFrom from s → IsOpenedFrom from (record s { spare = room })
with_room from s room is = let index = respare s room is.index in assumption (is, index)

-- the words are those of the image's layout, and nothing is written
pub same_index : (row : Row) (layout : Layout) (base : List Pair) (history : List Write) → row.layout ≡ layout → history ≡ [] → opened_index row base history ≡ opened_index (row_with layout row.words) base []
same_index row layout base history same none = λ k. opened_index (row_with (same k) row.words) base (none k)

-- the pairs have the map that the image keeps
pub keeps_base : (image : Row) (base : List Pair) → map_of base ≡ image_map image.layout image.words → IsSoundByAll image.layout image.words → IsImageMap image.layout image.words (map_of base)
keeps_base image base is sound = subst (IsImageMap image.layout image.words) (sym is) (sound_has_map image.layout image.words (λ rule position w breaks. sound rule position w (in_image breaks)))
