-- What the stores of a turn make of the facts.
use Rattle.std.proofs.Common.{◌≡◌, ◌≢◌, ℕ, ◌+◌, ◌/◌, ◌%◌, ◌<◌, not, List, length, slice_set, refl, ap, ◌∙◌, arith}
use Rattle.pm_words.specs.declared.layout.Layout.{Layout}
use Rattle.pm_words.specs.Locations.{Location, Node, Line, Cached, Durable, Volatile, Updater, HasLocation, address_of, row_words}
use Rattle.pm_words.proofs.Apart.{at-set_other}
use Rattle.pm_words.specs.Offsets.{version_offset, anchor_offset, state_offset, kind_offset, line_node_offset}
use Rattle.pm_words.specs.Offsets.{status_offset, stamp_offset}
use Rattle.pm_words.specs.Codes.{empty_state}
use Rattle.version_lock.specs.Versions.{is_free_word, is_worn_word}
use Rattle.layer_map.specs.Keys.{key_of}
use Rattle.search_layer.specs.Rows.{layer_words, KeepsOthers, HasSameLayer}
use Rattle.search_layer.specs.Kept.{kept}
use Rattle.search_layer.proofs.RowLemmas.{layer_words_stay}
use Rattle.updater_law.specs.Covers.{set_at, Lines}
use Rattle.updater_law.specs.Facts.{TurnFacts}
use Rattle.updater_law.specs.TurnSteps.{emptied}
use Rattle.updater_row_law.specs.Columns.{RowTerms, Ghosts, line_count, line_word, line_field, lines_in, node_field, volatile_field, facts_in}
use Rattle.updater_row_law.proofs.RowColumns.{column-same, column-set}

-- the words of the row but for statuses, stamps, states of lines, and those of the layer
pub record SameRest (l : Layout) (words words' : List ℕ) : Type 0 where
  pub node : (o : ℕ) → o < 16 → node_field l words' o ≡ node_field l words o
  pub line : (o : ℕ) → 0 < o → o < 8 → line_field l words' Cached o ≡ line_field l words Cached o
  pub safe : (o : ℕ) → o < 8 → line_field l words' Durable o ≡ line_field l words Durable o

-- The facts, but for what these words say; of durable lines they say what they may.
pub cached_path : (r : RowTerms) (ghosts : Ghosts) (words words' : List ℕ) (status stamp state : ℕ → ℕ) → ((o : ℕ) → o < 16 → node_field r.layout words' o ≡ node_field r.layout words o)
    → ((o : ℕ) → 0 < o → o < 8 → line_field r.layout words' Cached o ≡ line_field r.layout words Cached o) → volatile_field r.layout words' status_offset ≡ status
    → volatile_field r.layout words' stamp_offset ≡ stamp → line_field r.layout words' Cached state_offset ≡ state
    → facts_in r ghosts words' ≡ record (facts_in r ghosts words) {
      status = status;
      stamp = stamp;
      line = record ((facts_in r ghosts words).line) { state = state };
      safe_line = lines_in r.layout words' Durable;
      layer = kept r.layout (layer_words r.layout words' Cached);
      safe_layer = kept r.layout (layer_words r.layout words' Durable);
    }
cached_path r ghosts words words' status stamp state nodes lines is_status is_stamp is_state =
    let n0 = nodes version_offset (omega arith) in
    let n3 = nodes anchor_offset (omega arith) in
    let n4 = nodes (anchor_offset + 1) (omega arith) in
    let n5 = nodes (anchor_offset + 2) (omega arith) in
    let l1 = lines kind_offset (omega arith) (omega arith) in
    let l2 = lines line_node_offset (omega arith) (omega arith) in
    let l3 = lines anchor_offset (omega arith) (omega arith) in
    let l4 = lines (anchor_offset + 1) (omega arith) (omega arith) in
    let l5 = lines (anchor_offset + 2) (omega arith) (omega arith) in
    λ i. record {
      listed = ghosts.listed;
      anchor = λ n. key_of (n3 i n) (n4 i n) (n5 i n);
      status = is_status i;
      stamp = is_stamp i;
      held = λ n. not (is_free_word (n0 i n) r.generation);
      holder = ghosts.holder;
      worn = λ n. is_worn_word (n0 i n) r.generation;
      line = record { state = is_state i; kind = l1 i; node = l2 i; anchor = λ j. key_of (l3 i j) (l4 i j) (l5 i j) };
      safe_line = lines_in r.layout words' Durable;
      layer = kept r.layout (layer_words r.layout words' Cached);
      safe_layer = kept r.layout (layer_words r.layout words' Durable);
    }

-- where durable lines stay too
pub facts_path : (r : RowTerms) (ghosts : Ghosts) (words words' : List ℕ) (status stamp state : ℕ → ℕ) → SameRest r.layout words words' → volatile_field r.layout words' status_offset ≡ status → volatile_field r.layout words' stamp_offset ≡ stamp
    → line_field r.layout words' Cached state_offset ≡ state
    → facts_in r ghosts words' ≡ record (facts_in r ghosts words) {
      status = status;
      stamp = stamp;
      line = record ((facts_in r ghosts words).line) { state = state };
      layer = kept r.layout (layer_words r.layout words' Cached);
      safe_layer = kept r.layout (layer_words r.layout words' Durable);
    }
facts_path r ghosts words words' status stamp state rest is_status is_stamp is_state =
    let s0 = rest.safe state_offset (omega arith) in
    let s1 = rest.safe kind_offset (omega arith) in
    let s2 = rest.safe line_node_offset (omega arith) in
    let s3 = rest.safe anchor_offset (omega arith) in
    let s4 = rest.safe (anchor_offset + 1) (omega arith) in
    let s5 = rest.safe (anchor_offset + 2) (omega arith) in
    let safe : lines_in r.layout words' Durable ≡ lines_in r.layout words Durable = λ i. record { state = s0 i; kind = s1 i; node = s2 i; anchor = λ j. key_of (s3 i j) (s4 i j) (s5 i j) } in
    cached_path r ghosts words words' status stamp state rest.node rest.line is_status is_stamp is_state
    ∙ ap (λ (lines : Lines). record (facts_in r ghosts words) {
      status = status;
      stamp = stamp;
      line = record ((facts_in r ghosts words).line) { state = state };
      safe_line = lines;
      layer = kept r.layout (layer_words r.layout words' Cached);
      safe_layer = kept r.layout (layer_words r.layout words' Durable);
    }) safe

-- no word but the layer's is another
module _ (l : Layout) (words words' : List ℕ) (same : KeepsOthers l words words') where
  node_stays : (o : ℕ) → o < 16 → node_field l words' o ≡ node_field l words o
  node_stays o small = column-same l words words' l.nodes (λ n. Cached (Node n o)) (λ n lt. same (Cached (Node n o)) (lt, omega arith) refl)

  pub volatile_stays : (o : ℕ) → o < 16 → volatile_field l words' o ≡ volatile_field l words o
  volatile_stays o small = column-same l words words' l.nodes (λ n. Volatile n o) (λ n lt. same (Volatile n o) (lt, small) refl)

  pub line_stays : (o : ℕ) → o < 8 → line_field l words' Cached o ≡ line_field l words Cached o
  line_stays o small = column-same l words words' (line_count l) (λ j. Cached (line_word o j)) (λ j lt. same (Cached (line_word o j)) (omega arith, omega arith, small) refl)

  safe_stays : (o : ℕ) → o < 8 → line_field l words' Durable o ≡ line_field l words Durable o
  safe_stays o small = column-same l words words' (line_count l) (λ j. Durable (line_word o j)) (λ j lt. same (Durable (line_word o j)) (omega arith, omega arith, small) refl)

  pub rest_stays : SameRest l words words'
  rest_stays = record { node = node_stays; line = λ o some. line_stays o; safe = safe_stays }

pub layer_facts : (r : RowTerms) (ghosts : Ghosts) (words words' : List ℕ) → KeepsOthers r.layout words words'
    → facts_in r ghosts words' ≡ record (facts_in r ghosts words) {
      layer = kept r.layout (layer_words r.layout words' Cached);
      safe_layer = kept r.layout (layer_words r.layout words' Durable);
    }
layer_facts r ghosts words words' same =
    let l : Layout = r.layout in
    facts_path r ghosts words words' (volatile_field l words status_offset) (volatile_field l words stamp_offset) (line_field l words Cached state_offset) (rest_stays l words words' same)
    (volatile_stays l words words' same status_offset (omega arith)) (volatile_stays l words words' same stamp_offset (omega arith)) (line_stays l words words' same state_offset (omega arith))

-- the node and the offset that a location of a volatile word names
abbrev node_at : Location → ℕ
node_at (Volatile n o) = n
node_at _ = 0

abbrev volatile_at : Location → ℕ
volatile_at (Volatile n o) = o
volatile_at _ = 0

-- and of a line's word
abbrev caller_at : Location → ℕ
caller_at (Cached (Line c j o)) = c
caller_at _ = 0

abbrev index_at : Location → ℕ
index_at (Cached (Line c j o)) = j
index_at _ = 0

abbrev offset_at : Location → ℕ
offset_at (Cached (Line c j o)) = o
offset_at _ = 0

-- One store beside the layer, at a location p.
module _ (l : Layout) (words : List ℕ) (p : Location) (y : ℕ) (has : HasLocation l p) where
  abbrev written : List ℕ
  written = slice_set words (address_of l p) y

  pub volatile_kept : (o : ℕ) → o < 16 → ((n : ℕ) → Volatile n o ≢ p) → volatile_field l written o ≡ volatile_field l words o
  volatile_kept o small apart = column-same l words written l.nodes (λ n. Volatile n o) (λ n lt. at-set_other l words p (Volatile n o) y has (lt, small) (apart n))

  pub state_kept : ((j : ℕ) → Cached (line_word state_offset j) ≢ p) → line_field l written Cached state_offset ≡ line_field l words Cached state_offset
  state_kept apart = column-same l words written (line_count l) (λ j. Cached (line_word state_offset j)) (λ j lt. at-set_other l words p (Cached (line_word state_offset j)) y has (omega arith, omega arith, omega arith) (apart j))

  pub rest_kept : ((n o : ℕ) → Cached (Node n o) ≢ p) → ((j o : ℕ) → 0 < o → Cached (line_word o j) ≢ p) → ((j o : ℕ) → Durable (line_word o j) ≢ p) → SameRest l words written
  rest_kept no_node no_line no_safe = record {
    node = λ o small. column-same l words written l.nodes (λ n. Cached (Node n o)) (λ n lt. at-set_other l words p (Cached (Node n o)) y has (lt, omega arith) (no_node n o));
    line = λ o some small. column-same l words written (line_count l) (λ j. Cached (line_word o j)) (λ j lt. at-set_other l words p (Cached (line_word o j)) y has (omega arith, omega arith, small) (no_line j o some));
    safe = λ o small. column-same l words written (line_count l) (λ j. Durable (line_word o j)) (λ j lt. at-set_other l words p (Durable (line_word o j)) y has (omega arith, omega arith, small) (no_safe j o));
  }

-- a store that leaves the words of the layer, and the facts afterwards
pub record Beside (r : RowTerms) (ghosts : Ghosts) (words words' : List ℕ) (after : TurnFacts) : Type 0 where
  pub same : HasSameLayer r.layout words words'
  pub facts : facts_in r ghosts words' ≡ after

-- the layers are those of before
beside : (r : RowTerms) (ghosts : Ghosts) (words words' : List ℕ) (status stamp state : ℕ → ℕ) → HasSameLayer r.layout words words'
    → SameRest r.layout words words' → volatile_field r.layout words' status_offset ≡ status → volatile_field r.layout words' stamp_offset ≡ stamp → line_field r.layout words' Cached state_offset ≡ state
    → Beside r ghosts words words' (record (facts_in r ghosts words) { status = status; stamp = stamp; line = record ((facts_in r ghosts words).line) { state = state } })
beside r ghosts words words' status stamp state same rest is_status is_stamp is_state =
    let f : TurnFacts = facts_in r ghosts words in
    let cached = same.cached in
    let durable = same.durable in
    let layers : record f { status = status; stamp = stamp; line = record (f.line) { state = state }; layer = kept r.layout (layer_words r.layout words' Cached); safe_layer = kept r.layout (layer_words r.layout words' Durable) }
    ≡ record f { status = status; stamp = stamp; line = record (f.line) { state = state } } =
    λ i. record f { status = status; stamp = stamp; line = record (f.line) { state = state }; layer = kept r.layout (cached i); safe_layer = kept r.layout (durable i) } in
    record { same = same; facts = facts_path r ghosts words words' status stamp state rest is_status is_stamp is_state ∙ layers }

module _ (r : RowTerms) (ghosts : Ghosts) (words : List ℕ) where
  abbrev l : Layout
  l = r.layout

  abbrev f : TurnFacts
  f = facts_in r ghosts words

  abbrev stored : Location → ℕ → List ℕ
  stored p y = slice_set words (address_of l p) y

  pub lock_stored : (y : ℕ) → Beside r ghosts words (stored Updater y) f
  lock_stored y = beside r ghosts words (stored Updater y) f.status f.stamp f.line.state
      (layer_words_stay l words Updater y tt refl)
      (rest_kept l words Updater y tt (λ n o e. cc) (λ j o some e. cc) (λ j o e. cc))
      (volatile_kept l words Updater y tt status_offset (omega arith) (λ n e. cc)) (volatile_kept l words Updater y tt stamp_offset (omega arith) (λ n e. cc)) (state_kept l words Updater y tt (λ j e. cc))

  pub stamp_stored : (n y : ℕ) → length words ≡ row_words l → n < l.nodes → Beside r ghosts words (stored (Volatile n stamp_offset) y) (record f { stamp = set_at f.stamp n y })
  stamp_stored n y whole lt =
      let p : Location = Volatile n stamp_offset in
      let has : HasLocation l p = (lt, omega arith) in
      beside r ghosts words (stored p y) f.status (set_at f.stamp n y) f.line.state
      (layer_words_stay l words p y has refl)
      (rest_kept l words p y has (λ m o e. cc) (λ j o some e. cc) (λ j o e. cc))
      (volatile_kept l words p y has status_offset (omega arith) (λ m e. let no_way = ap volatile_at e in omega arith))
      (column-set l words p y has l.nodes (λ m. Volatile m stamp_offset) n whole lt refl (λ m lt. (lt, omega arith)) (λ m lt e. ap node_at e))
      (state_kept l words p y has (λ j e. cc))

  pub status_stored : (n y : ℕ) → length words ≡ row_words l → n < l.nodes → Beside r ghosts words (stored (Volatile n status_offset) y) (record f { status = set_at f.status n y })
  status_stored n y whole lt =
      let p : Location = Volatile n status_offset in
      let has : HasLocation l p = (lt, omega arith) in
      beside r ghosts words (stored p y) (set_at f.status n y) f.stamp f.line.state
      (layer_words_stay l words p y has refl)
      (rest_kept l words p y has (λ m o e. cc) (λ j o some e. cc) (λ j o e. cc))
      (column-set l words p y has l.nodes (λ m. Volatile m status_offset) n whole lt refl (λ m lt. (lt, omega arith)) (λ m lt e. ap node_at e))
      (volatile_kept l words p y has stamp_offset (omega arith) (λ m e. let no_way = ap volatile_at e in omega arith))
      (state_kept l words p y has (λ j e. cc))

  pub line_emptied : (j : ℕ) → length words ≡ row_words l → j < line_count l → Beside r ghosts words (stored (Cached (line_word state_offset j)) 0) (emptied f j)
  line_emptied j whole lt =
      let p : Location = Cached (line_word state_offset j) in
      let has : HasLocation l p = (omega arith, omega arith, omega arith) in
      beside r ghosts words (stored p 0) f.status f.stamp (set_at f.line.state j empty_state)
      (layer_words_stay l words p 0 has refl)
      (rest_kept l words p 0 has (λ m o e. cc) (λ i o some e. let same : o ≡ 0 = ap offset_at e in omega arith) (λ i o e. cc))
      (volatile_kept l words p 0 has status_offset (omega arith) (λ m e. cc)) (volatile_kept l words p 0 has stamp_offset (omega arith) (λ m e. cc))
      (column-set l words p 0 has (line_count l) (λ i. Cached (line_word state_offset i)) j whole lt refl (λ i lt'. (omega arith, omega arith, omega arith))
      (λ i lt' e. let a : i / 8 ≡ j / 8 = ap caller_at e in let b : i % 8 ≡ j % 8 = ap index_at e in omega arith))
