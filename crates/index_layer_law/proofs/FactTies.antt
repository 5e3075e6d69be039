-- What the law of turns reads off a row, in terms of the facts of the index and of the words beside its nodes.
use Rattle.std.proofs.Common.{◌≡◌, ℕ, ◌+◌, ◌<◌, ◌==◌, ◌||◌, ◌&&◌, not, inl, inr, Bool, true, false, cond, List, [], ◌∷◌}
use Rattle.std.proofs.Common.{refl, ap, arith, subst}
use Rattle.std.specs.Prelude.{nat_lt}
use Rattle.std.proofs.lemmas.Bool.{eqb-true, eq-eqb, lt-ltb}
use Rattle.pm_words.specs.declared.layout.Layout.{Layout}
use Rattle.pm_words.specs.declared.action.Action.{Action}
use Rattle.pm_words.specs.Locations.{Word, Location, Node, Volatile, Cached, Durable, at, node_words}
use Rattle.pm_words.specs.Rows.{acted}
use Rattle.version_lock.specs.Versions.{is_free_word, is_worn_word}
use Rattle.data_node.specs.Lists.{ListNode, anchor_in, IsMember}
use Rattle.pm_words.specs.Offsets.{version_offset, anchor_offset, kind_offset, line_node_offset, status_offset}
use Rattle.pm_words.specs.Offsets.{stamp_offset}
use Rattle.call_stages.specs.Stages.{Stage}
use Rattle.index_law.specs.Facts.{Facts, version_in, spot_in, status_in, IsListed}
use Rattle.index_law.specs.Laws.{Allowed}
use Rattle.index_law.specs.Worlds.{World, facts}
use Rattle.index_law.proofs.Beside.{nodes_leave_others}
use Rattle.layer_map.specs.Keys.{key_of}
use Rattle.layer_map.specs.Places.{is_of_layer}
use Rattle.updater_row_law.specs.search_layer.specs.Rows.{LayerWords, Marks, layer_words, layer_marks, root_words}
use Rattle.updater_row_law.specs.search_layer.specs.Rows.{HasSameLayer}
use Rattle.updater_row_law.specs.search_layer.specs.Kept.{kept}
use Rattle.updater_row_law.specs.search_layer.proofs.RowLemmas.{layer_alike}
use Rattle.updater_law.specs.Covers.{Lines}
use Rattle.updater_law.specs.Facts.{TurnFacts}
use Rattle.updater_row_law.specs.Columns.{column, node_field, volatile_field, line_field, line_word, line_count}
use Rattle.updater_row_law.specs.Columns.{lines_in}
use Rattle.updater_row_law.proofs.RowColumns.{column-same}
use Rattle.updater_row_law.specs.Turnings.{Turning}
use Rattle.index_layer_law.specs.Turnings.{is_member, is_listed}
use Rattle.index_layer_law.specs.Layers.{turn_facts}
use Rattle.index_law.specs.Beside.{IsBeside}

-- the words beside nodes that the law of turns reads
pub record Rest : Type 0 where
  pub stamp : ℕ → ℕ
  pub line : Lines
  pub safe_line : Lines
  pub layer : LayerWords
  pub safe_layer : LayerWords
  pub marks : Marks
  pub root : ℕ → ℕ

abbrev pub rest_in : Layout → List ℕ → Rest
rest_in l words = record {
  stamp = volatile_field l words stamp_offset;
  line = lines_in l words Cached;
  safe_line = lines_in l words Durable;
  layer = layer_words l words Cached;
  safe_layer = layer_words l words Durable;
  marks = layer_marks l words;
  root = root_words l words;
}

-- what it has of an index with these facts, whose nodes these parties hold
abbrev pub known : Layout → ℕ → Facts → (ℕ → ℕ) → Rest → TurnFacts
known l g f holder rest = record {
  listed = is_listed f;
  anchor = λ n. anchor_in (f.now n);
  status = f.status;
  stamp = rest.stamp;
  held = λ n. not (is_free_word (f.version n) g);
  holder = holder;
  worn = λ n. is_worn_word (f.version n) g;
  line = rest.line;
  safe_line = rest.safe_line;
  layer = kept l rest.layer;
  safe_layer = kept l rest.safe_layer;
}

pub version_tie : (l : Layout) (words : List ℕ) (n : ℕ) → node_field l words version_offset n ≡ version_in l words n
unfolding column version_in
version_tie l words n = refl

pub status_tie : (l : Layout) (words : List ℕ) (n : ℕ) → volatile_field l words status_offset n ≡ status_in l words n
unfolding column status_in
status_tie l words n = refl

pub word_tie : (l : Layout) (words : List ℕ) (o n : ℕ) → 0 < o → o < 16 → node_field l words o n ≡ spot_in l words n o
unfolding column spot_in
word_tie l words o n positive small =
    let some : nat_lt 0 o ≡ true = lt-ltb 0 o positive in
    let within : nat_lt o (node_words l) ≡ true = lt-ltb o (node_words l) (omega arith) in
    rw some (rw within (both (nat_lt n l.nodes) (at l words (Cached (Node n o)))))
  where
    both : (b : Bool) (x : ℕ) → cond b x 0 ≡ cond (b && true) x 0
    both true x = refl
    both false x = refl

pub anchor_tie : (l : Layout) (words : List ℕ) (n : ℕ) → key_of (node_field l words anchor_offset n) (node_field l words (anchor_offset + 1) n) (node_field l words (anchor_offset + 2) n) ≡ anchor_in (spot_in l words n)
unfolding anchor_in
anchor_tie l words n =
    let first = word_tie l words anchor_offset n (omega arith) (omega arith) in
    let second = word_tie l words (anchor_offset + 1) n (omega arith) (omega arith) in
    let third = word_tie l words (anchor_offset + 2) n (omega arith) (omega arith) in
    λ k. key_of (first k) (second k) (third k)

-- so it reads the facts, and the words beside nodes
pub facts_tie : (w : World) (holder : ℕ → ℕ) (t : Turning) → turn_facts w holder t ≡ known w.layout w.generation (facts w) holder (rest_in w.layout w.words)
facts_tie w holder t =
    let l = w.layout in
    let words = w.words in
    λ k. record {
      listed = is_listed (facts w);
      anchor = λ n. anchor_tie l words n k;
      status = λ n. status_tie l words n k;
      stamp = volatile_field l words stamp_offset;
      held = λ n. not (is_free_word (version_tie l words n k) w.generation);
      holder = holder;
      worn = λ n. is_worn_word (version_tie l words n k) w.generation;
      line = lines_in l words Cached;
      safe_line = lines_in l words Durable;
      layer = kept l (layer_words l words Cached);
      safe_layer = kept l (layer_words l words Durable);
    }

-- rows with the same words at these locations have the same rest
pub record RestStays (l : Layout) (words words' : List ℕ) : Type 0 where
  pub stamp : (n : ℕ) → n < l.nodes → at l words' (Volatile n stamp_offset) ≡ at l words (Volatile n stamp_offset)
  pub line : (j o : ℕ) → j < line_count l → o < 8 → at l words' (Cached (line_word o j)) ≡ at l words (Cached (line_word o j))
  pub safe_line : (j o : ℕ) → j < line_count l → o < 8 → at l words' (Durable (line_word o j)) ≡ at l words (Durable (line_word o j))
  pub layer : HasSameLayer l words words'

-- lines with the same words say the same
pub lines_same : (l : Layout) (words words' : List ℕ) (twin : Word → Location) → ((o : ℕ) → o < 8 → line_field l words' twin o ≡ line_field l words twin o) → lines_in l words' twin ≡ lines_in l words twin
lines_same l words words' twin same =
    let l0 = same 0 (omega arith) in
    let l1 = same kind_offset (omega arith) in
    let l2 = same line_node_offset (omega arith) in
    let l3 = same anchor_offset (omega arith) in
    let l4 = same (anchor_offset + 1) (omega arith) in
    let l5 = same (anchor_offset + 2) (omega arith) in
    λ i. record { state = l0 i; kind = l1 i; node = l2 i; anchor = λ j. key_of (l3 i j) (l4 i j) (l5 i j) }

pub rest_same : (l : Layout) (words words' : List ℕ) → RestStays l words words' → rest_in l words' ≡ rest_in l words
rest_same l words words' stays =
    let stamp = column-same l words words' l.nodes (λ n. Volatile n stamp_offset) stays.stamp in
    let line = lines_same l words words' Cached (λ o small. column-same l words words' (line_count l) (λ j. Cached (line_word o j)) (λ j here. stays.line j o here small)) in
    let safe = lines_same l words words' Durable (λ o small. column-same l words words' (line_count l) (λ j. Durable (line_word o j)) (λ j here. stays.safe_line j o here small)) in
    λ i. record {
      stamp = stamp i;
      line = line i;
      safe_line = safe i;
      layer = stays.layer.cached i;
      safe_layer = stays.layer.durable i;
      marks = stays.layer.marks i;
      root = stays.layer.root i;
    }

-- with the same rest the layer has the same words
pub rest_layer : (l : Layout) (words words' : List ℕ) → rest_in l words' ≡ rest_in l words → HasSameLayer l words words'
rest_layer l words words' same = record {
  cached = ap (λ (r : Rest). r.layer) same;
  durable = ap (λ (r : Rest). r.safe_layer) same;
  marks = ap (λ (r : Rest). r.marks) same;
  root = ap (λ (r : Rest). r.root) same;
}

-- what a call does on nodes leaves the rest
pub node_rest : (l : Layout) (words : List ℕ) (s : Stage) (a : Action) → Allowed l s a → rest_in l (acted l words a) ≡ rest_in l words
node_rest l words s a allowed = rest_same l words (acted l words a) (record {
  stamp = λ n here. nodes_leave_others l words s a (Volatile n stamp_offset) (here, omega arith) (record { clock = λ e. cc; status = λ m e. let no : 2 ≡ 0 = ap offset_of e in omega arith; cached = λ m o e. cc; durable = λ m o e. cc }) allowed;
  line = λ j o here small. nodes_leave_others l words s a (Cached (line_word o j)) (omega arith, omega arith, small) (record { clock = λ e. cc; status = λ m e. cc; cached = λ m o e. cc; durable = λ m o e. cc }) allowed;
  safe_line = λ j o here small. nodes_leave_others l words s a (Durable (line_word o j)) (omega arith, omega arith, small) (record { clock = λ e. cc; status = λ m e. cc; cached = λ m o e. cc; durable = λ m o e. cc }) allowed;
  layer = layer_alike l words (acted l words a) (λ p has of_layer. nodes_leave_others l words s a p has (elsewhere p of_layer) allowed);
})
  where
    offset_of : Location → ℕ
    offset_of (Volatile n o) = o
    offset_of _ = 0

    -- no word of the layer is of nodes
    elsewhere : (p : Location) → is_of_layer p ≡ true → IsBeside p
    elsewhere p is = record {
      clock = λ e. let no : false ≡ true = subst (λ q. is_of_layer q ≡ true) e is in cc;
      status = λ m e. let no : false ≡ true = subst (λ q. is_of_layer q ≡ true) e is in cc;
      cached = λ m o e. let no : false ≡ true = subst (λ q. is_of_layer q ≡ true) e is in cc;
      durable = λ m o e. let no : false ≡ true = subst (λ q. is_of_layer q ≡ true) e is in cc;
    }

-- whether a node is listed, in both manners
pub member_told : (list : List ListNode) (n : ℕ) → is_member list n ≡ true → IsMember list n
member_told [] n is = absurd (let no : false ≡ true = is in cc)
member_told (m ∷ behind) n is = either (n == m.node) (is_member behind n) is (λ e. inl (eqb-true n m.node e)) (λ e. inr (member_told behind n e))
  where
    either : {P : Type 0} (a b : Bool) → (a || b) ≡ true → (a ≡ true → P) → (b ≡ true → P) → P
    either true b is one other = one refl
    either false b is one other = other is

pub member_tells : (list : List ListNode) (n : ℕ) → IsMember list n → is_member list n ≡ true
member_tells [] n is = absurd is
member_tells (m ∷ behind) n (inl same) = rw (eq-eqb n m.node same) refl
member_tells (m ∷ behind) n (inr is) = later (n == m.node) (is_member behind n) (member_tells behind n is)
  where
    later : (a b : Bool) → b ≡ true → (a || b) ≡ true
    later true b is = refl
    later false b is = is

pub listed_told : (f : Facts) (n : ℕ) → is_listed f n ≡ true → IsListed f n
listed_told f n is = either (n == 0) (is_member f.list n) is (λ e. inl (eqb-true n 0 e)) (λ e. inr (member_told f.list n e))
  where
    either : {P : Type 0} (a b : Bool) → (a || b) ≡ true → (a ≡ true → P) → (b ≡ true → P) → P
    either true b is one other = one refl
    either false b is one other = other is

pub listed_tells : (f : Facts) (n : ℕ) → IsListed f n → is_listed f n ≡ true
listed_tells f n (inl zero_node) = rw (eq-eqb n 0 zero_node) refl
listed_tells f n (inr is) = later (n == 0) (is_member f.list n) (member_tells f.list n is)
  where
    later : (a b : Bool) → b ≡ true → (a || b) ≡ true
    later true b is = refl
    later false b is = is

-- and that it isn't
pub unlisted_tells : (f : Facts) (n : ℕ) → (IsListed f n → ⊥) → is_listed f n ≡ false
unlisted_tells f n none = elim (is_listed f n) as (λ b. is_listed f n ≡ b → b ≡ false) [
  | true ↦ λ is. absurd (none (listed_told f n is))
  | false ↦ λ is. refl
] refl
