-- A fresh index has its search layer.
use Rattle.std.proofs.Common.{◌≡◌, ◌≢◌, ℕ, ◌<◌, ◌==◌, ◌||◌, Bool, true, false, cond, List, None, refl, sym, ap, ◌∙◌}
use Rattle.std.proofs.Common.{◌+◌}
use Rattle.std.proofs.Common.{subst, inl, inr, arith}
use Rattle.std.specs.Prelude.{not, nat_lt}
use Rattle.std.proofs.lemmas.Bool.{cases_eq, ne_eqb, cond_both, lt-ltb, ltb-true}
use Rattle.pm_words.specs.Codes.{free_status, live_status, leaf_kind}
use Rattle.pm_words.specs.declared.layout.Layout.{Layout}
use Rattle.pm_words.specs.Layouts.{IsLayout}
use Rattle.pm_words.specs.Images.{fresh_words, fresh_word}
use Rattle.pm_words.specs.Locations.{Word, Location, Node, Updater, Volatile, Mark, Cached, Durable, HasLocation}
use Rattle.pm_words.specs.Locations.{HasWord, at}
use Rattle.pm_words.specs.Rows.{row_of}
use Rattle.pm_words.proofs.Apart.{at-set_other, at-set_same}
use Rattle.pm_words.proofs.Made.{fresh_at, fresh_image, row_of-row}
use Rattle.pm_words.specs.Offsets.{version_offset, anchor_offset, state_offset, kind_offset, line_node_offset}
use Rattle.pm_words.specs.Offsets.{status_offset, stamp_offset}
use Rattle.version_lock.specs.Versions.{is_free_word, is_worn_word}
use Rattle.index_law.specs.Laws.{marked_row, fresh_row, fresh_world}
use Rattle.index_law.specs.Worlds.{Party, facts}
use Rattle.index_law.proofs.Fresh.{fresh_list}
use Rattle.index_law.proofs.MarkedRow.{mark_has, marked-else, marked-at, marked-at_volatile, marked_row-row}
use Rattle.layer_map.specs.Keys.{key_of}
use Rattle.layer_map.specs.Layers.{Layer}
use Rattle.updater_law.specs.tree_law.specs.Trees.{Leaf}
use Rattle.updater_law.specs.tree_law.specs.Marking.{IsMarkSet}
use Rattle.updater_row_law.specs.tree_row.proofs.MarkLaw.{mark_is_set, store_leaves_marks}
use Rattle.updater_row_law.specs.search_layer.specs.Fresh.{fresh_layer, HasFreshLayer}
use Rattle.updater_row_law.specs.search_layer.specs.Rows.{LayerWords, Marks, layer_words, layer_marks, AreEven}
use Rattle.updater_row_law.specs.search_layer.proofs.FreshLemmas.{fresh_is_at_rest}
use Rattle.updater_row_law.specs.search_layer.specs.Kept.{kept, IsKept, MarksTell, IsAtRest}
use Rattle.updater_row_law.specs.search_layer.proofs.RowLemmas.{even_are_same, rows_alike}
use Rattle.updater_law.specs.Facts.{TurnFacts}
use Rattle.updater_law.specs.Fresh.{no_lines, fresh_facts}
use Rattle.updater_law.specs.Lawful.{TurnLawful}
use Rattle.updater_law.specs.TurnStages as turns
use Rattle.updater_law.proofs.Crash.{fresh_is_lawful}
use Rattle.updater_row_law.specs.Columns.{column, line_field, node_field, volatile_field, line_count, line_word}
use Rattle.updater_row_law.specs.Columns.{lines_in, facts_in}
use Rattle.updater_row_law.specs.Columns as columns
use Rattle.updater_row_law.specs.RowStages.{Resting}
use Rattle.updater_row_law.specs.RowLaw.{RowLawful}
use Rattle.updater_row_law.specs.Turnings.{Turning}
use Rattle.index_layer_law.specs.Turnings.{terms_of, is_member, is_listed, ghosts_of}
use Rattle.index_layer_law.specs.Beginnings.{FreshIsLayered}
use Rattle.index_layer_law.proofs.TurnRests.{rest_is_layered}

module _ (l : Layout) (layout : IsLayout l) where
  abbrev row : List ℕ
  row = marked_row l

  abbrev words : List ℕ
  words = fresh_row l

  some : 0 < l.nodes
  some = let least = layout.nodes in omega arith

  -- of the row of its image only the status of node 0 has changed
  elsewhere : (p : Location) → HasLocation l p → p ≢ Volatile 0 status_offset → at l words p ≡ at l row p
  elsewhere p has other = at-set_other l row (Volatile 0 status_offset) p live_status (some, omega arith) has other

  twin_zero : (v : Word) → HasWord l v → fresh_word l v ≡ 0 → (at l words (Cached v) ≡ 0) × (at l words (Durable v) ≡ 0)
  twin_zero v has zero =
      let both = marked-at l v layout has in
      let none = fresh_at l v has ∙ zero in
      (elsewhere (Cached v) has (λ e. cc) ∙ both.0 ∙ none, elsewhere (Durable v) has (λ e. cc) ∙ both.1 ∙ none)

  zero_column : (count : ℕ) (place : ℕ → Location) → ((n : ℕ) → n < count → at l words (place n) ≡ 0) → column l words count place ≡ (λ n. 0)
  unfolding column
  zero_column count place zeros =
      let each : (n : ℕ) → column l words count place n ≡ 0 = λ n. cond_both (nat_lt n count) (at l words (place n)) 0 (λ (x : ℕ). x ≡ 0) (λ here. zeros n (ltb-true n count here)) (λ past. refl) in
      λ k n. each n k

  node_zero : (o : ℕ) → o < 16 → node_field l words o ≡ (λ n. 0)
  node_zero o small = zero_column l.nodes (λ n. Cached (Node n o)) (λ n here. (twin_zero (Node n o) (here, omega arith) refl).0)

  line_zero : (o : ℕ) → o < 8 → (line_field l words Cached o ≡ (λ n. 0)) × (line_field l words Durable o ≡ (λ n. 0))
  line_zero o small = (
    zero_column (line_count l) (λ j. Cached (line_word o j)) (λ j here. (twin_zero (line_word o j) (omega arith, omega arith, small) refl).0),
    zero_column (line_count l) (λ j. Durable (line_word o j)) (λ j here. (twin_zero (line_word o j) (omega arith, omega arith, small) refl).1),
  )

  stamp_zero : volatile_field l words stamp_offset ≡ (λ n. 0)
  stamp_zero = zero_column l.nodes (λ n. Volatile n stamp_offset) (λ n here. elsewhere (Volatile n stamp_offset) (here, omega arith) (λ e. let no : 2 ≡ 0 = ap offset_of e in omega arith) ∙ marked-at_volatile l (Volatile n stamp_offset) (here, omega arith) (omega arith) (λ e. cc))
    where
      offset_of : Location → ℕ
      offset_of (Volatile n o) = o
      offset_of _ = 0

  -- node 0 is LIVE, and no other node is in use
  status_is : volatile_field l words status_offset ≡ (λ n. cond (n == 0) live_status free_status)
  unfolding column
  status_is =
      let each : (n : ℕ) → volatile_field l words status_offset n ≡ cond (n == 0) live_status free_status =
      λ n. elim (cases_eq n 0) [
        | inl first ↦
            subst (λ m. volatile_field l words status_offset m ≡ cond (m == 0) live_status free_status) (sym first)
            (ap (λ b. cond b (at l words (Volatile 0 status_offset)) 0) (lt-ltb 0 l.nodes some) ∙ at-set_same l row (Volatile 0 status_offset) live_status (marked_row-row l layout).whole (some, omega arith))
        | inr other ↦
            cond_both (nat_lt n l.nodes) (at l words (Volatile n status_offset)) 0 (λ (x : ℕ). x ≡ 0)
            (λ here. let lt = ltb-true n l.nodes here in elsewhere (Volatile n status_offset) (lt, omega arith) (λ e. other (ap number_of e)) ∙ marked-at_volatile l (Volatile n status_offset) (lt, omega arith) (omega arith) (λ e. cc))
            (λ past. refl)
            ∙ sym (ap (λ b. cond b live_status free_status) (ne_eqb n 0 other))
      ] in
      λ k n. each n k
    where
      number_of : Location → ℕ
      number_of (Volatile n o) = n
      number_of _ = 0

  -- the layer is that of the image, whose first leaf has its mark now
  abbrev image_row : List ℕ
  image_row = row_of l (fresh_words l)

  fresh : HasFreshLayer l image_row
  fresh = fresh_is_at_rest l layout

  image_else : (p : Location) → HasLocation l p → p ≢ Volatile 0 status_offset → p ≢ Mark leaf_kind 0 → at l words p ≡ at l image_row p
  image_else p has other unmarked = elsewhere p has other ∙ marked-else l p has unmarked

  layer_same : layer_words l words Cached ≡ layer_words l image_row Cached
  layer_same = rows_alike l image_row words Cached Cached (λ w place. image_else (Cached w) place.there (λ e. cc) (λ e. cc))

  safe_layer_same : layer_words l words Durable ≡ layer_words l image_row Durable
  safe_layer_same = rows_alike l image_row words Durable Durable (λ w place. image_else (Durable w) place.there (λ e. cc) (λ e. cc))

  even : AreEven (layer_words l words Cached) (layer_words l words Durable)
  even = subst (λ (v : LayerWords). AreEven v (layer_words l words Durable)) (sym layer_same)
      (subst (λ (d : LayerWords). AreEven (layer_words l image_row Cached) d) (sym safe_layer_same) fresh.even)

  marks_are : IsMarkSet (layer_marks l image_row) (layer_marks l words) (Leaf 0) 1
  marks_are =
      let set = mark_is_set l image_row leaf_kind 0 1 (row_of-row l (fresh_words l) (fresh_image l layout)).whole (mark_has l) in
      let same : layer_marks l words ≡ layer_marks l row = store_leaves_marks l row (Volatile 0 status_offset) live_status (some, omega arith) tt in
      record {
        may = tt;
        here = ap (λ (m : Marks). m leaf_kind 0) same ∙ set.here;
        others = λ kind n other. ap (λ (m : Marks). m kind n) same ∙ set.others kind n other;
      }

  rests : IsAtRest l words
  rests = record {
    lawful = subst (λ (w : LayerWords). IsKept l w) (sym layer_same) fresh.order;
    even = even;
    tells = subst (λ (w : LayerWords). MarksTell l (layer_marks l words) w) (sym layer_same) (fresh.tells (layer_marks l words) marks_are);
  }

  layer_is : kept l (layer_words l words Cached) ≡ fresh_layer
  layer_is = (λ k. kept l (layer_same k)) ∙ (λ k key. fresh.layer key k)

  safe_layer_is : kept l (layer_words l words Durable) ≡ fresh_layer
  safe_layer_is = (λ k. kept l (even_are_same (layer_words l words Cached) (layer_words l words Durable) even k)) ∙ layer_is

  lines_are : (lines_in l words Cached ≡ no_lines) × (lines_in l words Durable ≡ no_lines)
  lines_are =
      let z0 = line_zero state_offset (omega arith) in
      let z1 = line_zero kind_offset (omega arith) in
      let z2 = line_zero line_node_offset (omega arith) in
      let z3 = line_zero anchor_offset (omega arith) in
      let z4 = line_zero (anchor_offset + 1) (omega arith) in
      let z5 = line_zero (anchor_offset + 2) (omega arith) in (
        λ k. record { state = z0.0 k; kind = z1.0 k; node = z2.0 k; anchor = λ j. key_of (z3.0 k j) (z4.0 k j) (z5.0 k j) },
        λ k. record { state = z0.1 k; kind = z1.1 k; node = z2.1 k; anchor = λ j. key_of (z3.1 k j) (z4.1 k j) (z5.1 k j) },
      )

  only_first : (parties : List Party) → is_listed (facts (fresh_world l parties)) ≡ (λ n. n == 0)
  only_first parties = (λ k n. n == 0 || is_member (fresh_list l layout k) n) ∙ (λ k n. or_none (n == 0) k)
    where
      or_none : (b : Bool) → (b || false) ≡ b
      or_none true = refl
      or_none false = refl

  fresh_turn : (parties : List Party) (t : Turning) → facts_in (terms_of (fresh_world l parties) t) (ghosts_of (fresh_world l parties) (λ n. 0)) words ≡ fresh_facts
  fresh_turn parties t =
      let v = node_zero version_offset (omega arith) in
      let a3 = node_zero anchor_offset (omega arith) in
      let a4 = node_zero (anchor_offset + 1) (omega arith) in
      let a5 = node_zero (anchor_offset + 2) (omega arith) in
      λ k. record {
        listed = only_first parties k;
        anchor = λ n. key_of (a3 k n) (a4 k n) (a5 k n);
        status = status_is k;
        stamp = stamp_zero k;
        held = λ n. not (is_free_word (v k n) 1);
        holder = λ n. 0;
        worn = λ n. is_worn_word (v k n) 1;
        line = lines_are.0 k;
        safe_line = lines_are.1 k;
        layer = layer_is k;
        safe_layer = safe_layer_is k;
      }

  zero_leads : fresh_layer 0 ≡ None → ⊥
  zero_leads e = cc

  pub fresh_row_is : (parties : List Party) (t : Turning) → t.stamp ≢ 0 → RowLawful (terms_of (fresh_world l parties) t) (ghosts_of (fresh_world l parties) (λ n. 0)) words Resting
  fresh_row_is parties t stamp = record {
    order = rests.lawful;
    rooted = λ none. zero_leads (sym (ap (λ (layer : Layer). layer 0) layer_is) ∙ none);
    sure = rests;
    law = subst (λ (f : TurnFacts). TurnLawful (columns.terms_of (terms_of (fresh_world l parties) t)) f turns.Resting) (sym (fresh_turn parties t))
        (fresh_is_lawful (columns.terms_of (terms_of (fresh_world l parties) t)) stamp);
  }

pub fresh_is_layered : FreshIsLayered
fresh_is_layered l parties lines debts turns i t layout whole tended idle rest there =
    rest_is_layered (record { whole = record { world = fresh_world l parties; lines = lines; debts = debts }; turns = turns }) i t whole tended idle rest there
    (elsewhere l layout Updater tt (λ e. cc) ∙ marked-at_volatile l Updater tt (omega arith) (λ e. cc))
    (fresh_row_is l layout parties t (rest i t there).stamp)
