-- A step of a call beside nodes, on its log line or on a prev, keeps the index with its search layer.
use Rattle.std.proofs.Common.{◌≡◌, ◌≢◌, ℕ, ◌<◌, inl, inr, ⊎_elim, ◌⊎◌, Bool, true, false, List, slice_set, Option}
use Rattle.std.proofs.Common.{Some, None, refl, sym, ap, ◌∙◌, subst, arith}
use Rattle.std.specs.Prelude.{IfSome}
use Rattle.std.proofs.lemmas.List.{set-get_or}
use mathlib.Core.Option.{some}
use lib.ListN.{get_elem?}
use Rattle.pm_words.specs.declared.action.Action.{Action}
use Rattle.pm_words.specs.declared.action.Action.TheVariants.{Drain}
use Rattle.pm_words.specs.Locations.{Location, Line, Updater, Volatile, Cached, Durable, HasLocation, address_of, at}
use Rattle.pm_words.specs.Rows.{acted}
use Rattle.pm_words.proofs.Apart.{at-set_other}
use Rattle.pm_words.proofs.Kept.{action_address-drain}
use Rattle.data_node.specs.Spots.{Spot}
use Rattle.data_node.specs.Lists.{anchor_in, key_of}
use Rattle.pm_words.specs.Offsets.{next_offset, state_offset, kind_offset, line_node_offset, prev_offset, stamp_offset}
use Rattle.pm_words.specs.Codes.{merge_kind, ready_state}
use Rattle.call_stages.specs.Stages.{Stage, Held, Grip, Gone, Gathered, Joined, Joins, Idle, Saw, Wears, Reads, Holds}
use Rattle.call_stages.specs.Stages.{Eyes, Splits, Leaves, Meets, HoldsNode, Tells}
use Rattle.call_stages.specs.Kinds.{prev_address}
use Rattle.call_stages.specs.Lines.{HeldLine, line_address, Marks, fills, opens, readies, Notes, passes_line, takes}
use Rattle.call_stages.specs.Lines.{looks_up, notes, keeps_safe}
use Rattle.call_stages.specs.AnySteps.{IsOnPermutation}
use Rattle.call_stages.specs.Footings.{Waits, IsRetired, IsOfMerge}
use Rattle.call_stages.specs.Prevs.{Debt, Prevs, names, pays, renews}
use Rattle.index_law.specs.Facts.{Facts, IsListed}
use Rattle.index_law.specs.Worlds.{Party, World, facts}
use Rattle.index_law.specs.Lawful.{Sure, Lawful}
use Rattle.index_law.specs.Lines.{line_in, SureLine}
use Rattle.index_law.proofs.AnySteps.{stored_word}
use Rattle.index_law.proofs.Noting.{hand_word, line-here, marks_unready}
use Rattle.index_law.proofs.Prevs.{leads_now}
use Rattle.index_law.proofs.Starts.{listed_within}
use Rattle.index_law.proofs.Switch.{inside_between, leads_on}
use Rattle.updater_law.specs.Covered.{IsTarget}
use Rattle.updater_law.specs.Facts.{TurnFacts}
use Rattle.updater_law.specs.OtherSteps.{IsRipe}
use Rattle.updater_row_law.specs.Columns.{line_field, line_count, line_word}
use Rattle.updater_row_law.proofs.RowColumns.{column-alike, column-same}
use Rattle.index_layer_law.specs.Turnings.{is_listed, line_number}
use Rattle.index_layer_law.specs.Layers.{Layered, IsLayered}
use Rattle.index_layer_law.proofs.FactTies.{listed_tells, known, rest_in, facts_tie, rest_same}
use Rattle.index_layer_law.proofs.Targets.{one_target}
use Rattle.index_layer_law.proofs.CallMoves.{Moved, now_known, held_is}
use Rattle.index_layer_law.proofs.CallLines.{line_tie, anchor_line_tie, named_words}
use Rattle.index_layer_law.proofs.CallNotes.{stored, field_other, layer_same, marks_moved}
use Rattle.index_layer_law.proofs.CallDrains.{drained, layer_stay, drain_moved}
use Rattle.updater_row_law.specs.search_layer.specs.Rows.{HasSameLayer}
use Rattle.updater_row_law.specs.search_layer.proofs.RowLemmas.{layer_words_stay}

-- What a step beside nodes makes of the words: those of the layer and of the READY lines stay, and for the law of
-- turns it is a step of another party, or none.
pub record Besides (w : World) (holder : ℕ → ℕ) (words : List ℕ) : Type 0 where
  pub layer : HasSameLayer w.layout w.words words
  pub lines : (j : ℕ) → line_field w.layout w.words Cached state_offset j ≡ ready_state → (o : ℕ) → o < 8 → line_field w.layout words Cached o j ≡ line_field w.layout w.words Cached o j
  pub lock : at w.layout words Updater ≡ at w.layout w.words Updater
  pub moved : Moved (now_known w.layout w.generation (facts w) (rest_in w.layout w.words) holder) (known w.layout w.generation (facts w) holder (rest_in w.layout words))

-- where the words are the same
same_besides : (w : World) (holder : ℕ → ℕ) (words : List ℕ) → words ≡ w.words → Besides w holder words
same_besides w holder words same = subst (Besides w holder) (sym same) (record { layer = record { cached = refl; durable = refl; marks = refl; root = refl }; lines = λ j two o small. refl; lock = refl; moved = inl refl })

-- listed nodes have different anchors
apart_anchors : (z : Layered) → IsLayered z → (n m : ℕ) → IsListed (facts z.whole.world) n → IsListed (facts z.whole.world) m → anchor_in ((facts z.whole.world).now n) ≡ anchor_in ((facts z.whole.world).now m) → n ≡ m
apart_anchors z is n m listed other same =
    let active = is.active in
    let law = (is.rows active.0 active.1 active.2 active.3).law in
    let path = facts_tie z.whole.world is.holder active.1 in
    law.apart n m (listed_tells (facts z.whole.world) n listed) (listed_tells (facts z.whole.world) m other)
    (ap (λ (F : TurnFacts). F.anchor n) path ∙ same ∙ sym (ap (λ (F : TurnFacts). F.anchor m) path))

module _ (z : Layered) (i : ℕ) (p : Party) (is : IsLayered z) (there : get_elem? z.whole.world.parties i ≡ some p) where
  open z.whole.world use {layout as l, generation as g, words}

  abbrev w : World
  w = z.whole.world

  abbrev f : Facts
  f = facts z.whole.world

  abbrev law : Lawful z.whole.world
  law = is.whole.joint.lawful

  abbrev F : TurnFacts
  F = now_known l g f (rest_in l words) is.holder

  -- a line of a merge whose right node is GONE, while both nodes are held
  ripe : (h : Held) (left right : Grip) (e : HeldLine) → p.stage ≡ Joins h left right Gone → get_elem? z.whole.lines i ≡ some (Some e) → e.ready ≡ false → IsOfMerge e right → IsRipe F (line_number e)
  ripe h left right e stage at_line unready of_merge =
      let sure = is.whole.joint.sure i e at_line in
      let knows = subst (λ (s : Stage). Sure l g f p.caller p.index p.since s) stage (law.sure i p there) in
      let now = line_in l words e.caller e.number in
      let node : F.line.node (line_number e) ≡ right.node = line_tie l words e sure.here line_node_offset (omega arith) ∙ of_merge.node now sure.seen in
      let named = named_words l words law.row.fits right.node knows.at.anchor knows.at.named knows.at.anchored in
      let anchor : F.line.anchor (line_number e) ≡ anchor_in (f.now right.node) = anchor_line_tie l words e sure.here ∙ of_merge.anchor now (f.now right.node) sure.seen knows.other.seen named in
      let held : F.held right.node ≡ true = held_is l g f (rest_in l words) is.holder right.node right.lock knows.other.stands knows.other.lock in
      let own : (n : ℕ) → HoldsNode (Joins h left right Gone) n → is.holder n ≡ i = λ n holds. is.holders i p n there (subst (λ (s : Stage). HoldsNode s n) (sym stage) holds) in
      record {
        gone = ap f.status node ∙ knows.at.gone;
        anchor = ap (λ n. anchor_in (f.now n)) node ∙ sym anchor;
        held = ap F.held node ∙ held;
        left = λ m target.
            let turn_law = (is.rows is.active.0 is.active.1 is.active.2 is.active.3).law in
            let key : F.line.anchor (line_number e) ≡ key_of knows.at.anchor = anchor ∙ knows.at.anchored in
            let is_left : m ≡ left.node = one_target l f law.list left.node m (key_of knows.at.anchor) knows.at.listed (inside_between l f law.list left.node knows.at.anchor knows.at.inside)
            (subst (λ k. IsTarget (λ n. is_listed f n ≡ true) (λ n. anchor_in (f.now n)) k m) key target) (apart_anchors z is) in (
              ap F.held is_left ∙ held_is l g f (rest_in l words) is.holder left.node left.lock knows.one.stands knows.one.lock,
              ap is.holder is_left ∙ own left.node (inl refl) ∙ sym (ap is.holder node ∙ own right.node (inr refl)),
            );
        alone = λ j two kind same. absurd (
            let mine = (is.retiring i p (Some e) is.active.1 h left right there at_line stage).alone j two (kind, same ∙ node) in
            let no : true ≡ false = sym mine.0 ∙ unready in cc);
      }

  -- a stage at which a line of a merge may become READY
  retired_is : (s : Stage) (e : HeldLine) → IsRetired s e → (h : Held) × (left : Grip) × (right : Grip) × (s ≡ Joins h left right Gone) × IsOfMerge e right
  retired_is Idle e is_retired = absurd is_retired
  retired_is (Saw n v u k) e is_retired = absurd is_retired
  retired_is (Wears n v) e is_retired = absurd is_retired
  retired_is (Reads n v sight told) e is_retired = absurd is_retired
  retired_is (Holds n u h) e is_retired = absurd is_retired
  retired_is (Eyes n u h m v q free) e is_retired = absurd is_retired
  retired_is (Splits left fresh phase) e is_retired = absurd is_retired
  retired_is (Leaves left) e is_retired = absurd is_retired
  retired_is (Meets n u h right) e is_retired = absurd is_retired
  retired_is (Joins h left right Gathered) e is_retired = absurd is_retired
  retired_is (Joins h left right Joined) e is_retired = absurd is_retired
  retired_is (Joins h left right Gone) e is_retired = (h, left, right, refl, is_retired)

  -- a line becomes READY by the store of that state
  pub marks_ready : (e : HeldLine) (offset y : ℕ) (seen : List (ℕ × ℕ)) (ready : Bool) → Marks e offset y seen ready → (offset ≡ state_offset) × (y ≡ ready_state) × (ready ≡ true) ⊎ ((ready ≡ false) × ((offset ≡ state_offset → y ≢ 2)))
  marks_ready e offset y seen ready (fills some_offset unready is_empty) = inr (refl, λ zero_offset two. some_offset zero_offset)
  marks_ready e offset y seen ready (opens unready is_empty) = inr (refl, λ zero_offset two. omega arith)
  marks_ready e offset y seen ready (readies unready durable is_open blind) = inl (refl, refl, refl)

  module _ (e : HeldLine) (at_line : get_elem? z.whole.lines i ≡ some (Some e)) (offset y : ℕ) (small : offset < 8) where
    sure : SureLine l words e
    sure = is.whole.joint.sure i e at_line

    pub own_ready : (seen : List (ℕ × ℕ)) (ready : Bool) (after : HeldLine) → Marks e offset y seen ready → after.ready ≡ ready → Waits p.stage (Some e) (Some after) → ready ≡ true → F.line.kind (line_number e) ≡ merge_kind
        → (h : Held) × (left : Grip) × (right : Grip) × (p.stage ≡ Joins h left right Gone) × IsOfMerge e right
    own_ready seen ready after marks same waits is_ready kind = ⊎_elim
        (λ (split : (s : Spot) → Tells e.seen s → s kind_offset ≢ merge_kind). absurd (split (line_in l words e.caller e.number) sure.seen (sym (line_tie l words e sure.here kind_offset (omega arith)) ∙ kind)))
        (λ (retired : IsRetired p.stage e). retired_is p.stage e retired)
        (waits (marks_unready e offset y seen ready marks) (same ∙ is_ready)).1

    marks_beside : (seen : List (ℕ × ℕ)) (ready : Bool) (after : HeldLine) → Marks e offset y seen ready → after.ready ≡ ready → Waits p.stage (Some e) (Some after) → Besides w is.holder (stored l words law.row e sure offset y small)
    marks_beside seen ready after marks same waits = record {
      layer = layer_same l words law.row e sure offset y small;
      lines = λ j two o within. field_other l words law.row e sure offset y small o j within
          (λ own. sure.unready (marks_unready e offset y seen ready marks) (sym (line_tie l words e sure.here state_offset (omega arith)) ∙ ap (line_field l words Cached state_offset) (sym own) ∙ two));
      lock = at-set_other l words (Cached (Line e.caller e.number offset)) Updater y (sure.here.0, sure.here.1, small) tt (λ d. cc);
      moved = marks_moved l words law.row e sure offset y small seen ready marks g f is.holder
          (λ is_ready kind. let merge = own_ready seen ready after marks same waits is_ready kind in ripe merge.0 merge.1 merge.2 e merge.3 at_line (marks_unready e offset y seen ready marks) merge.4);
    }

    drain_beside : e.hand ≡ Some (offset, y) → Besides w is.holder (acted l words (Drain (line_address l e.caller e.number offset) y))
    drain_beside hand =
        let has : HasLocation l (Durable (Line e.caller e.number offset)) = (sure.here.0, sure.here.1, small) in
        let same : acted l words (Drain (line_address l e.caller e.number offset) y) ≡ drained l words law.row e sure offset y small = ap (λ q. slice_set words q y) (action_address-drain l (Line e.caller e.number offset) y) in
        let what : (y ≡ line_field l words Cached offset (line_number e)) ⊎ ((offset ≡ state_offset) × (y ≡ ready_state)) = ⊎_elim
        (λ own. inl (own ∙ sym (line-here l words e.caller e.number offset has) ∙ sym (line_tie l words e sure.here offset small)))
        (λ given. inr (given.0.state, given.1))
        (hand_word l words e offset y has hand sure) in
        subst (Besides w is.holder) (sym same) (record {
          layer = layer_stay l words law.row e sure offset y small;
          lines = λ j two o within. column-alike l words (drained l words law.row e sure offset y small) (line_count l) (λ n. Cached (line_word o n)) j
              (λ there_j. at-set_other l words (Durable (Line e.caller e.number offset)) (Cached (line_word o j)) y has (omega arith, omega arith, within) (λ d. cc));
          lock = at-set_other l words (Durable (Line e.caller e.number offset)) Updater y has tt (λ d. cc);
          moved = drain_moved l words law.row e sure offset y small what g f is.holder;
        })

  -- each step on the line
  pub line_beside : (line after : Option HeldLine) (a : Action) (x : ℕ) → get_elem? z.whole.lines i ≡ some line → Notes l line a x after → Waits p.stage line after → Besides w is.holder (acted l words a)
  line_beside line after a x at (passes_line {c = c} {j = j} {offset = o} caller low within) waits = same_besides w is.holder (acted l words a) (set-get_or words (line_address l c j o) 0)
  line_beside line after a x at (takes {c = c} {j = j} caller low is_empty) waits = same_besides w is.holder (acted l words a) (set-get_or words (line_address l c j state_offset) 0)
  line_beside line after a x at (looks_up {offset = o} {e = e} within learnt blind) waits = same_besides w is.holder (acted l words a) (set-get_or words (line_address l e.caller e.number o) 0)
  line_beside line after a x at (notes {y = y} {offset = o} {e = e} {seen = seen} {dirty = dirty} {ready = ready} within fits marks soils told keeps) waits =
      marks_beside e at o y within seen ready (record e { seen = seen; dirty = dirty; hand = None; ready = ready }) marks refl waits
  line_beside line after a x at (keeps_safe {y = y} {offset = o} {e = e} within fits hand cleans) waits = drain_beside e at o y within hand

  -- and the store of a prev
  abbrev BesidesAll : List ℕ → Type 0
  BesidesAll after = Besides w is.holder after × ((o : ℕ) → o < 8 → line_field l after Cached o ≡ line_field l words Cached o)

  volatile_store : (n offset y : ℕ) → n < l.nodes → offset < 16 → offset ≢ stamp_offset → BesidesAll (slice_set words (address_of l (Volatile n offset)) y)
  volatile_store n offset y within most no_stamp =
      let p : Location = Volatile n offset in
      let after : List ℕ = slice_set words (address_of l (Volatile n offset)) y in
      let has : HasLocation l (Volatile n offset) = (within, most) in
      let rest : rest_in l after ≡ rest_in l words = rest_same l words after (record {
        stamp = λ m there_m. at-set_other l words p (Volatile m stamp_offset) y has (there_m, omega arith) (λ d. no_stamp (sym (ap offset_of d)));
        line = λ j o there_j small. at-set_other l words p (Cached (line_word o j)) y has (omega arith, omega arith, small) (λ d. cc);
        safe_line = λ j o there_j small. at-set_other l words p (Durable (line_word o j)) y has (omega arith, omega arith, small) (λ d. cc);
        layer = layer_words_stay l words p y has refl;
      }) in
      let lines : (o : ℕ) → o < 8 → line_field l after Cached o ≡ line_field l words Cached o =
      λ o small. column-same l words after (line_count l) (λ m. Cached (line_word o m))
      (λ j there_j. at-set_other l words p (Cached (line_word o j)) y has (omega arith, omega arith, small) (λ d. cc)) in (
        record {
          layer = layer_words_stay l words p y has refl;
          lines = λ j two o small. ap (λ (column : ℕ → ℕ). column j) (lines o small);
          lock = at-set_other l words p Updater y has tt (λ d. cc);
          moved = inl (ap (known l g f is.holder) rest);
        },
        lines,
      )
    where
      offset_of : Location → ℕ
      offset_of (Volatile m o) = o
      offset_of _ = 0

  prev_store : (n y : ℕ) → n < l.nodes → BesidesAll (slice_set words (prev_address l n) y)
  prev_store n y within = volatile_store n prev_offset y within (omega arith) (λ e. omega arith)

  -- or a load or a store of a permutation
  pub permutation_beside : (a : Action) → IsOnPermutation l a → BesidesAll (acted l words a)
  permutation_beside a on =
      let at_word = stored_word l words a on in
      let least = at_word.least in
      subst BesidesAll (sym at_word.is) (volatile_store at_word.node at_word.offset at_word.word at_word.here at_word.most (λ e. omega arith))

  pub prev_beside : (d d' : Debt) (a : Action) → get_elem? z.whole.debts i ≡ some d → Prevs l p.stage d a d' → BesidesAll (acted l words a)
  prev_beside d d' a owing prevs = of p.stage a d d' refl owing prevs
    where
      of : (s : Stage) (b : Action) (d d' : Debt) → p.stage ≡ s → get_elem? z.whole.debts i ≡ some d → Prevs l s d b d' → BesidesAll (acted l words b)
      of s b d d' same owing (names {left = left} {fresh = fresh}) = prev_store fresh.node left.node (subst (λ (u : Stage). Sure l g f p.caller p.index p.since u) same (law.sure i p there)).new.here
      of s b d d' same owing (renews {left = left} {right = right} is_known) = prev_store right.node left.node (subst (λ (u : Stage). Sure l g f p.caller p.index p.since u) same (law.sure i p there)).other.here
      of s b d d' same owing (pays {n = n} {y = y} owes leads some_next within) =
          let knows = subst (λ (u : Stage). Sure l g f p.caller p.index p.since u) same (law.sure i p there) in
          let listed : IsListed f n = (subst (λ (o : Option ℕ). IfSome o (λ k. HoldsNode p.stage k × IsListed f k)) owes (is.whole.traced.owes i d p owing there)).1 in
          let to : f.now n next_offset ≡ y = leads_now l g f p.caller p.index p.since s n y knows leads in
          prev_store y n (listed_within l f law.list law.row.layout y (subst (IsListed f) to (leads_on l f law.list n listed (λ none. some_next (sym to ∙ none)))))
