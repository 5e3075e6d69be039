-- A step of a turn keeps the row lawful.
use Rattle.std.proofs.Common.{◌≡◌, ◌≢◌, ℕ, zero, suc, ◌&&◌, not, ◌+◌, ◌-◌, ◌^◌, ◌<◌, ◌≤◌, ◌==◌, Bool, true, false, cond, List, length, slice_index, slice_set, Some, None, inl, inr, refl, sym, subst, ap, ◌∙◌, arith}
use Rattle.std.specs.Prelude.{nat_lt}
use Rattle.std.proofs.Math.ListN.{length-set}
use Rattle.std.proofs.lemmas.Bool.{cases_eq, eq-eqb, ne_eqb, eqb-true, eqb-false, ltb-false, and_right}
use Rattle.std.proofs.lemmas.List.{set-get_or, get_or-set_same, get_or-set_other}
use Rattle.pm_words.specs.Codes.{merge_kind, free_status, taken_lock, untaken_lock}
use Rattle.pm_words.specs.declared.layout.Layout.{Layout}
use Rattle.pm_words.specs.declared.action.Action.{Action}
use Rattle.pm_words.specs.declared.action.Action.TheVariants.{Load}
use Rattle.pm_words.specs.Locations.{Location, Node, Cached, Durable, Volatile, Updater, address_of}
use Rattle.pm_words.specs.Rows.{IsRow, acted, got}
use Rattle.pm_words.specs.Offsets.{version_offset, anchor_offset, state_offset, kind_offset, line_node_offset}
use Rattle.pm_words.specs.Offsets.{left_offset, status_offset, stamp_offset}
use Rattle.version_lock.specs.Versions.{is_free_word, is_worn_word}
use Rattle.layer_map.specs.Layers.{Layer, AreSame, node_of}
use Rattle.layer_map.specs.Keys.{IsKey, key_of, key_number}
use Rattle.search_layer.specs.Rows.{LayerWords, layer_words, layer_marks}
use Rattle.search_layer.specs.Kept.{layer_of, kept, IsKept}
use Rattle.search_layer.specs.ChangeStages.{Changing, Changed, ChangeStep}
use Rattle.search_layer.proofs.RowLemmas.{kept_leads_below}
use Rattle.search_layer.specs.ChangeStages.{start_stage}
use Rattle.search_layer.proofs.RowLemmas.{even_are_same}
use Rattle.search_layer.proofs.StageLemmas.{change_begins, change_ends}
use Rattle.search_layer.proofs.BesideLemmas.{rest_stays}
use Rattle.search_layer.proofs.RootLemmas.{root_begins}
use Rattle.layer_map.proofs.FewLemmas.{few_apart}
use Rattle.layer_map.proofs.KeyLemmas.{words_told}
use Rattle.updater_law.specs.Covers.{set_at}
use Rattle.updater_law.specs.Facts.{TurnTerms, TurnFacts}
use Rattle.updater_law.specs.TurnStages.{TurnStage}
use Rattle.updater_law.specs.TurnStages as turns
use Rattle.updater_law.specs.TurnSteps.{TurnStep, emptied}
use Rattle.updater_law.specs.TurnSteps as steps
use Rattle.updater_law.specs.Lawful.{TurnLawful}
use Rattle.updater_law.proofs.TurnLaw.{turn_keeps}
use Rattle.updater_law.proofs.Crash.{keys_lead_apart}
use Rattle.updater_row_law.specs.Columns.{RowTerms, Ghosts, line_count, line_word, line_field, node_field, volatile_field, terms_of, facts_in}
use Rattle.updater_row_law.specs.RowStages.{RowLine, RowTarget, line_read, entry_of, are_same, word_at, aim_of, RowStage, Resting, Between, Reads, Lands, HasTarget, Changes, Stamps, Clears, Sweeps, Gone, HasStamp, IsUnworn, Frees, Counts, after_line, after_node, after_change, turn_stage}
use Rattle.updater_row_law.specs.RowSteps.{lock_at, line_at, volatile_at, version_at, RowStep, takes_lock, finds_held, passes, sees, reads, has_read, walks, is_turned_back, finds, loses, decides, changes, has_changed, stamps, empties, passes_node, sees_gone, passes_stamp, sees_stamp, passes_worn, sees_unworn, unstamps, frees, counts, leaves_lock}
use Rattle.updater_row_law.specs.RowLaw.{LayerRests, HasLoaded, IsTargetFor, SureRow, RowLawful, RowStepKeeps}
use Rattle.updater_row_law.proofs.RowColumns.{column-here, column_fits}
use Rattle.updater_row_law.proofs.RowStores.{Beside, lock_stored, stamp_stored, status_stored, line_emptied, layer_facts}
use Rattle.updater_row_law.proofs.RowChanges.{change_kept, changed_row, made_here}

-- with other facts
moved_facts : (c : TurnTerms) (f f' : TurnFacts) (s : TurnStage) → f' ≡ f → TurnLawful c f s → TurnLawful c f' s
moved_facts c f f' s same law = subst (λ (g : TurnFacts). TurnLawful c g s) (sym same) law

-- the same three words are one key, as their numbers tell
numbers_same : (a b : List ℕ) → ((k : ℕ) → k < 3 → slice_index a k < 2 ^ 64) → ((k : ℕ) → k < 3 → slice_index b k < 2 ^ 64) → are_same a b ≡ (key_number a == key_number b)
numbers_same a b fits_a fits_b =
    elim (cases_eq (key_number a) (key_number b)) [
      | inl same ↦
          let told = words_told (slice_index a 0) (slice_index a 1) (slice_index a 2) (slice_index b 0) (slice_index b 1) (slice_index b 2)
          (fits_a 1 (omega arith)) (fits_a 2 (omega arith)) (fits_b 1 (omega arith)) (fits_b 2 (omega arith)) same in
          all_same told.first told.second told.third ∙ sym (eq-eqb (key_number a) (key_number b) same)
      | inr other ↦ not_same other ∙ sym (ne_eqb (key_number a) (key_number b) other)
    ]
  where
    all_same : slice_index a 0 ≡ slice_index b 0 → slice_index a 1 ≡ slice_index b 1 → slice_index a 2 ≡ slice_index b 2 → are_same a b ≡ true
    all_same p q s =
        ap (λ x. x && (slice_index a 1 == slice_index b 1 && slice_index a 2 == slice_index b 2)) (eq-eqb (slice_index a 0) (slice_index b 0) p)
        ∙ ap (λ x. x && slice_index a 2 == slice_index b 2) (eq-eqb (slice_index a 1) (slice_index b 1) q)
        ∙ eq-eqb (slice_index a 2) (slice_index b 2) s

    not_same : key_number a ≢ key_number b → are_same a b ≡ false
    not_same other = elim (cases_eq (slice_index a 0) (slice_index b 0)) [
      | inr ne ↦ ap (λ x. x && (slice_index a 1 == slice_index b 1 && slice_index a 2 == slice_index b 2)) (ne_eqb (slice_index a 0) (slice_index b 0) ne)
      | inl p ↦ ap (λ x. x && (slice_index a 1 == slice_index b 1 && slice_index a 2 == slice_index b 2)) (eq-eqb (slice_index a 0) (slice_index b 0) p)
          ∙ elim (cases_eq (slice_index a 1) (slice_index b 1)) [
            | inr ne ↦ ap (λ x. x && slice_index a 2 == slice_index b 2) (ne_eqb (slice_index a 1) (slice_index b 1) ne)
            | inl q ↦ ap (λ x. x && slice_index a 2 == slice_index b 2) (eq-eqb (slice_index a 1) (slice_index b 1) q)
                ∙ ne_eqb (slice_index a 2) (slice_index b 2) (λ s. other (ap (λ x. key_of x (slice_index a 1) (slice_index a 2)) p ∙ ap (λ x. key_of (slice_index b 0) x (slice_index a 2)) q ∙ ap (λ x. key_of (slice_index b 0) (slice_index b 1) x) s))
          ]
    ]

-- the node word of a node leads to the node
word_leads : (b : Bool) (node : ℕ) → node_of (cond b (node + 1) 0) ≡ cond b (Some node) None
word_leads true node = ap (λ b. cond b None (Some (node + 1 - 1))) (ne_eqb (node + 1) 0 (λ e. omega (arith, e))) ∙ ap Some (omega arith)
word_leads false node = refl

-- the words of a line, with one word more
loaded_at : (r : RowTerms) (words : List ℕ) (j offset x : ℕ) (seen : List ℕ) → HasLoaded r words j offset seen → line_field r.layout words Cached offset j ≡ x → (k : ℕ) → k < suc offset → line_field r.layout words Cached k j ≡ slice_index (slice_set seen offset x) k
loaded_at r words j offset x seen is told k lt = elim (cases_eq k offset) [
  | inl e ↦
      let fits : offset < length seen = (let most = is.most in let size = is.size in omega arith) in
      ap (λ o. line_field r.layout words Cached o j) e ∙ told ∙ sym (ap (slice_index (slice_set seen offset x)) e ∙ get_or-set_same seen offset x 0 fits)
  | inr ne ↦ is.same k (omega (arith, ne)) ∙ sym (get_or-set_other seen offset k x 0 ne)
]

-- the first word of the anchor isn't 0, once it is read
name_stays : (r : RowTerms) (words : List ℕ) (j offset x : ℕ) (seen : List ℕ) → HasLoaded r words j offset seen → 3 < suc offset → (offset ≡ anchor_offset → x ≢ 0) → slice_index (slice_set seen offset x) anchor_offset ≢ 0
name_stays r words j offset x seen is past named = elim (cases_eq offset anchor_offset) [
  | inl third ↦ λ none.
      let fits : offset < length seen = (let most = is.most in let size = is.size in omega arith) in
      named third (sym (get_or-set_same seen offset x 0 fits) ∙ ap (slice_index (slice_set seen offset x)) third ∙ none)
  | inr other ↦ λ none. is.named (omega (arith, other)) (sym (get_or-set_other seen offset anchor_offset x 0 (λ e. other (sym e))) ∙ none)
]

loaded_more : (r : RowTerms) (words : List ℕ) (j offset x : ℕ) (seen : List ℕ) → HasLoaded r words j offset seen → offset < 6 → line_field r.layout words Cached offset j ≡ x → (offset ≡ anchor_offset → x ≢ 0) → HasLoaded r words j (suc offset) (slice_set seen offset x)
loaded_more r words j offset x seen is small told named = record {
  size = length-set seen offset x ∙ is.size;
  most = omega arith;
  same = λ k lt. loaded_at r words j offset x seen is told k lt;
  named = λ past. name_stays r words j offset x seen is past named;
}

module _ (r : RowTerms) (ghosts : Ghosts) (words : List ℕ) where
  abbrev l : Layout
  l = r.layout

  abbrev c : TurnTerms
  c = terms_of r

  abbrev f : TurnFacts
  f = facts_in r ghosts words

  -- a load leaves the row
  by_load : (address : ℕ) (t : RowStage) → RowLawful r ghosts words t → RowLawful r ghosts (acted l words (Load address)) t
  by_load address t is = subst (λ ws. RowLawful r ghosts ws t) (sym (set-get_or words address 0)) is

  -- a step that changes no fact
  look : (s t : RowStage) → RowLawful r ghosts words s → SureRow r ghosts words t → TurnStep c f (turn_stage s) f (turn_stage t) → RowLawful r ghosts words t
  look s t is sure step = record { order = is.order; rooted = is.rooted; sure = sure; law = turn_keeps c f f (turn_stage s) (turn_stage t) is.law step }

  -- one of which the law of turns sees nothing
  still : (s t : RowStage) → RowLawful r ghosts words s → SureRow r ghosts words t → turn_stage s ≡ turn_stage t → RowLawful r ghosts words t
  still s t is sure same = record { order = is.order; rooted = is.rooted; sure = sure; law = subst (λ (g : TurnStage). TurnLawful c f g) same is.law }

  line_told : (j o x : ℕ) → j < line_count l → x ≡ got l words (Load (line_at l j o)) → line_field l words Cached o j ≡ x
  line_told j o x lt told = column-here l words (line_count l) (λ i. Cached (line_word o i)) j lt ∙ sym told

  volatile_told : (n o x : ℕ) → n < l.nodes → x ≡ got l words (Load (volatile_at l n o)) → volatile_field l words o n ≡ x
  volatile_told n o x lt told = column-here l words l.nodes (λ m. Volatile m o) n lt ∙ sym told

  version_told : (n x : ℕ) → n < l.nodes → x ≡ got l words (Load (version_at l n)) → node_field l words version_offset n ≡ x
  version_told n x lt told = column-here l words l.nodes (λ m. Cached (Node m version_offset)) n lt ∙ sym told

-- behind a line, and behind a node
line_done : (r : RowTerms) (ghosts : Ghosts) (words : List ℕ) (j : ℕ) → RowLawful r ghosts words (Between (suc j)) → RowLawful r ghosts words (after_line r j)
line_done r ghosts words j is = elim (nat_lt (j + 1) (line_count r.layout)) as (λ b. nat_lt (j + 1) (line_count r.layout) ≡ b → RowLawful r ghosts words (cond b (Between (j + 1)) (Sweeps 0))) [
  | true ↦ λ e. subst (λ k. RowLawful r ghosts words (Between k)) (omega arith) is
  | false ↦ λ e. let past = ltb-false (j + 1) (line_count r.layout) e in look r ghosts words (Between (suc j)) (Sweeps 0) is is.sure (steps.sweeps (suc j) (omega arith))
] refl

node_done : (r : RowTerms) (ghosts : Ghosts) (words : List ℕ) (n : ℕ) → RowLawful r ghosts words (Sweeps (suc n)) → RowLawful r ghosts words (after_node r n)
node_done r ghosts words n is = elim (nat_lt (n + 1) r.layout.nodes) as (λ b. nat_lt (n + 1) r.layout.nodes ≡ b → RowLawful r ghosts words (cond b (Sweeps (n + 1)) (Counts 0 true))) [
  | true ↦ λ e. subst (λ k. RowLawful r ghosts words (Sweeps k)) (omega arith) is
  | false ↦ λ e. let past = ltb-false (n + 1) r.layout.nodes e in look r ghosts words (Sweeps (suc n)) (Counts 0 true) is is.sure (steps.starts_count (suc n) (omega arith))
] refl

-- a store beside the layer
by_store : (r : RowTerms) (ghosts : Ghosts) (words words' : List ℕ) (after : TurnFacts) → Beside r ghosts words words' after → (s t : RowStage) → RowLawful r ghosts words s → LayerRests r words
    → (LayerRests r words' → SureRow r ghosts words' t) → TurnLawful (terms_of r) after (turn_stage t) → RowLawful r ghosts words' t
by_store r ghosts words words' after same s t is even sure law = record {
  order = subst (λ (w : LayerWords). IsKept r.layout w) (sym same.same.cached) is.order;
  rooted = subst (λ (w : LayerWords). kept r.layout w 0 ≢ None) (sym same.same.cached) is.rooted;
  sure = sure (rest_stays r.layout words words' same.same even);
  law = moved_facts (terms_of r) after (facts_in r ghosts words') (turn_stage t) same.facts law;
}

-- the words of a line that is read
key_read : (r : RowTerms) (words : List ℕ) (j : ℕ) (seen : List ℕ) → IsRow r.layout words → ((k : ℕ) → k < 7 → line_field r.layout words Cached k j ≡ slice_index seen k) → IsKey (line_read j seen).anchor
key_read r words j seen row same = record { whole = refl; fits = fits }
  where
    word_fits : (k : ℕ) → k < 7 → slice_index seen k < 2 ^ 64
    word_fits k lt = subst (λ x. x < 2 ^ 64) (same k lt) (column_fits r.layout words (line_count r.layout) (λ i. Cached (line_word k i)) j row.fits)

    fits : (k : ℕ) → slice_index (line_read j seen).anchor k < 2 ^ 64
    fits zero = word_fits 3 (omega arith)
    fits (suc zero) = word_fits 4 (omega arith)
    fits (suc (suc zero)) = word_fits 5 (omega arith)
    fits (suc (suc (suc k))) = omega arith

-- one word more of a line that is read
read_more : (r : RowTerms) (ghosts : Ghosts) (words : List ℕ) (j offset x : ℕ) (seen : List ℕ) → 1 ≤ offset → offset < 6 → line_field r.layout words Cached offset j ≡ x → (offset ≡ anchor_offset → x ≢ 0)
    → RowLawful r ghosts words (Reads j offset seen) → RowLawful r ghosts words (Reads j (suc offset) (slice_set seen offset x))
read_more r ghosts words j zero x seen some small told named is = absurd (omega arith)
read_more r ghosts words j (suc zero) x seen some small told named is =
    let more = loaded_more r words j kind_offset x seen is.sure.0 small told named in
    look r ghosts words (Reads j kind_offset seen) (Reads j line_node_offset (slice_set seen kind_offset x)) is (more, is.sure.1)
    (subst (λ k. TurnStep (terms_of r) (facts_in r ghosts words) (turns.Sees j) (facts_in r ghosts words) (turns.SeesKind j k)) (more.same kind_offset (omega arith)) (steps.sees_kind j))
read_more r ghosts words j (suc (suc zero)) x seen some small told named is =
    let more = loaded_more r words j line_node_offset x seen is.sure.0 small told named in
    let kind : slice_index seen kind_offset ≡ slice_index (slice_set seen line_node_offset x) kind_offset = sym (is.sure.0.same kind_offset (omega arith)) ∙ more.same kind_offset (omega arith) in
    look r ghosts words (Reads j line_node_offset seen) (Reads j anchor_offset (slice_set seen line_node_offset x)) is (more, is.sure.1)
    (subst (λ k. TurnStep (terms_of r) (facts_in r ghosts words) (turns.SeesKind j (slice_index seen kind_offset)) (facts_in r ghosts words) (turns.SeesNode j k (slice_index (slice_set seen line_node_offset x) line_node_offset))) kind
    (subst (λ k. TurnStep (terms_of r) (facts_in r ghosts words) (turns.SeesKind j (slice_index seen kind_offset)) (facts_in r ghosts words) (turns.SeesNode j (slice_index seen kind_offset) k)) (more.same line_node_offset (omega arith))
    (steps.sees_node j (slice_index seen kind_offset))))
read_more r ghosts words j (suc (suc (suc k))) x seen some small told named is =
    let offset : ℕ = suc (suc (suc k)) in
    let more = loaded_more r words j offset x seen is.sure.0 small told named in
    let kind : slice_index seen kind_offset ≡ slice_index (slice_set seen offset x) kind_offset = sym (is.sure.0.same kind_offset (omega arith)) ∙ more.same kind_offset (omega arith) in
    let node : slice_index seen line_node_offset ≡ slice_index (slice_set seen offset x) line_node_offset = sym (is.sure.0.same line_node_offset (omega arith)) ∙ more.same line_node_offset (omega arith) in
    still r ghosts words (Reads j offset seen) (Reads j (suc offset) (slice_set seen offset x)) is (more, is.sure.1)
    (ap (λ a. turns.SeesNode j a (slice_index seen line_node_offset)) kind ∙ ap (λ a. turns.SeesNode j (slice_index (slice_set seen offset x) kind_offset) a) node)

first_zero : (a b d : ℕ) → key_of a b d ≡ 0 → a ≡ 0
first_zero a b d none = omega arith

-- the line is read
all_read : (r : RowTerms) (ghosts : Ghosts) (words : List ℕ) (row : IsRow r.layout words) (j x : ℕ) (seen : List ℕ) → line_field r.layout words Cached left_offset j ≡ x
    → RowLawful r ghosts words (Reads j left_offset seen) → RowLawful r ghosts words (Lands (line_read j (slice_set seen left_offset x)))
all_read r ghosts words row j x seen told is =
    let after : List ℕ = slice_set seen left_offset x in
    let same : (k : ℕ) → k < 7 → line_field r.layout words Cached k j ≡ slice_index after k = λ k lt. loaded_at r words j left_offset x seen is.sure.0 told k lt in
    let f : TurnFacts = facts_in r ghosts words in
    let kind : slice_index seen kind_offset ≡ slice_index after kind_offset = sym (is.sure.0.same kind_offset (omega arith)) ∙ same kind_offset (omega arith) in
    let node : slice_index seen line_node_offset ≡ slice_index after line_node_offset = sym (is.sure.0.same line_node_offset (omega arith)) ∙ same line_node_offset (omega arith) in
    let anchor : f.line.anchor j ≡ key_number (line_read j after).anchor =
    ap (λ a. key_of a (line_field r.layout words Cached (anchor_offset + 1) j) (line_field r.layout words Cached (anchor_offset + 2) j)) (same anchor_offset (omega arith))
    ∙ ap (λ a. key_of (slice_index after anchor_offset) a (line_field r.layout words Cached (anchor_offset + 2) j)) (same (anchor_offset + 1) (omega arith))
    ∙ ap (λ a. key_of (slice_index after anchor_offset) (slice_index after (anchor_offset + 1)) a) (same (anchor_offset + 2) (omega arith)) in
    let named : slice_index after anchor_offset ≢ 0 = name_stays r words j left_offset x seen is.sure.0 (omega arith) (λ e. absurd (omega arith)) in
    let anchor_some : key_number (line_read j after).anchor ≢ 0 = λ none. named (first_zero (slice_index after anchor_offset) (slice_index after (anchor_offset + 1)) (slice_index after (anchor_offset + 2)) none) in
    let stage : turns.Lands (record { line = j; kind = slice_index seen kind_offset; node = slice_index seen line_node_offset; anchor = f.line.anchor j }) ≡ turns.Lands (entry_of (line_read j after)) =
    λ i. turns.Lands (record { line = j; kind = kind i; node = node i; anchor = anchor i }) in
    look r ghosts words (Reads j left_offset seen) (Lands (line_read j after)) is (record { key = key_read r words j after row same; some = anchor_some }, is.sure.1)
    (subst (λ (s : TurnStage). TurnStep (terms_of r) f (turns.SeesNode j (slice_index seen kind_offset) (slice_index seen line_node_offset)) f s) stage (steps.sees_anchor j (slice_index seen kind_offset) (slice_index seen line_node_offset)))

-- at the second load of the version, what the list has at the anchor is known
known : (r : RowTerms) (ghosts : Ghosts) (words : List ℕ) (row : IsRow r.layout words) (e : RowLine) (target : RowTarget) → RowLawful r ghosts words (HasTarget e target) → node_field r.layout words version_offset target.node ≡ target.version
    → RowLawful r ghosts words (Changes e (word_at e.anchor target) (start_stage r.layout (aim_of e (word_at e.anchor target))))
known r ghosts words row e target is version =
    let l : Layout = r.layout in
    let f : TurnFacts = facts_in r ghosts words in
    let word : ℕ = word_at e.anchor target in
    let sighted = is.sure.1 in
    let promise = is.sure.2 in
    let even = is.sure.3 in
    let low = promise.low version in
    let anchor : f.anchor target.node ≡ key_number target.low =
    ap (λ a. key_of a (node_field l words (anchor_offset + 1) target.node) (node_field l words (anchor_offset + 2) target.node)) (low 0 (omega arith))
    ∙ ap (λ a. key_of (slice_index target.low 0) a (node_field l words (anchor_offset + 2) target.node)) (low 1 (omega arith))
    ∙ ap (λ a. key_of (slice_index target.low 0) (slice_index target.low 1) a) (low 2 (omega arith)) in
    let low_fits : (k : ℕ) → k < 3 → slice_index target.low k < 2 ^ 64 = λ k lt. subst (λ x. x < 2 ^ 64) (low k lt) (column_fits l words l.nodes (λ m. Cached (Node m (3 + k))) target.node row.fits) in
    let tests : are_same target.low e.anchor ≡ (f.anchor target.node == key_number e.anchor) =
    numbers_same target.low e.anchor low_fits (λ k lt. is.sure.0.key.fits k) ∙ ap (λ a. a == key_number e.anchor) (sym anchor) in
    let held : f.held target.node ≡ false = ap (λ v. not (is_free_word v r.generation)) version ∙ ap not sighted.free in
    let found : cond (f.anchor target.node == key_number e.anchor) (Some target.node) None ≡ node_of word =
    ap (λ b. cond b (Some target.node) None) (sym tests) ∙ sym (word_leads (are_same target.low e.anchor) target.node) in
    let step = subst (λ k. TurnStep (terms_of r) f (turns.Lands (entry_of e)) f (turns.Changes (entry_of e) k)) found (steps.decides (entry_of e) target.node (promise.stands version) held sighted.within) in
    let layer : Layer = layer_of l words in
    let begun = change_begins l layer (aim_of e word) words row is.sure.0.key is.order even.even even.tells (λ k. refl) in
    look r ghosts words (HasTarget e target) (Changes e word (start_stage l (aim_of e word))) is (record {
      before = layer;
      few = few_apart l.nodes layer (kept_leads_below l (layer_words l words Cached) is.order) (keys_lead_apart (terms_of r) f (turns.Lands (entry_of e)) is.law);
      rooted = is.rooted;
      zero = λ unset. is.sure.0.some;
      holds = root_begins l (aim_of e word) words;
      sure = begun.0;
      layer = begun.1;
    }) step

-- a step of the change of the layer, and its last
module _ (r : RowTerms) (ghosts : Ghosts) (words : List ℕ) (row : IsRow r.layout words) (e : RowLine) (word : ℕ) (s t : Changing) (a : Action) (is : RowLawful r ghosts words (Changes e word s))
    (step : ChangeStep r.layout (aim_of e word) s a (got r.layout words a) t) where
  abbrev after : List ℕ
  after = acted r.layout words a

  abbrev layer' : Layer
  layer' = layer_of r.layout after

  abbrev safe' : Layer
  safe' = kept r.layout (layer_words r.layout after Durable)

  change_goes : RowLawful r ghosts after (Changes e word t)
  change_goes =
      let f : TurnFacts = facts_in r ghosts words in
      let keeps = change_kept r words e word s t a row is.sure step in
      let changed = changed_row r words e word s t a row is.sure step keeps in
      record {
        order = keeps.row;
        rooted = changed.rooted;
        sure = changed.changing;
        law = moved_facts (terms_of r) (record f { layer = layer'; safe_layer = safe' }) (facts_in r ghosts after) (turns.Changes (entry_of e) (node_of word))
            (layer_facts r ghosts words after keeps.others)
            (turn_keeps (terms_of r) f (record f { layer = layer'; safe_layer = safe' }) (turns.Changes (entry_of e) (node_of word)) (turns.Changes (entry_of e) (node_of word)) is.law
            (steps.changes (entry_of e) (node_of word) layer' safe' changed.differs.others changed.differs.at_key changed.durable));
      }

module _ (r : RowTerms) (ghosts : Ghosts) (words : List ℕ) (row : IsRow r.layout words) (e : RowLine) (word : ℕ) (s : Changing) (a : Action) (is : RowLawful r ghosts words (Changes e word s))
    (step : ChangeStep r.layout (aim_of e word) s a (got r.layout words a) Changed) where
  abbrev ended : List ℕ
  ended = acted r.layout words a

  change_done : RowLawful r ghosts ended (after_change e)
  change_done =
      let f : TurnFacts = facts_in r ghosts words in
      let layer : Layer = layer_of r.layout ended in
      let safe : Layer = kept r.layout (layer_words r.layout ended Durable) in
      let keeps = change_kept r words e word s Changed a row is.sure step in
      let changed = changed_row r words e word s Changed a row is.sure step keeps in
      let ends = change_ends r.layout is.sure.before (aim_of e word) (layer_words r.layout ended Cached) (layer_words r.layout ended Durable) (layer_marks r.layout ended) keeps.sure in
      let rests : LayerRests r ended = record { lawful = ends.order; even = ends.even; tells = ends.tells } in
      let leads : layer (key_number e.anchor) ≡ node_of word = ends.layer (key_number e.anchor) ∙ made_here is.sure.before (key_number e.anchor) (node_of word) in
      let durable : AreSame safe layer = λ k. ap (λ (w : LayerWords). kept r.layout w k) (even_are_same (layer_words r.layout ended Cached) (layer_words r.layout ended Durable) ends.even) in
      let path = layer_facts r ghosts words ended keeps.others in
      elim (e.kind == merge_kind) as (λ b. (e.kind == merge_kind) ≡ b → RowLawful r ghosts ended (cond b (Stamps e) (Clears e.line))) [
        | true ↦ λ merge. record {
          order = keeps.row;
          rooted = changed.rooted;
          sure = rests;
          law = moved_facts (terms_of r) (record f { layer = layer; safe_layer = safe }) (facts_in r ghosts ended) (turns.Stamps (entry_of e)) path
              (turn_keeps (terms_of r) f (record f { layer = layer; safe_layer = safe }) (turns.Changes (entry_of e) (node_of word)) (turns.Stamps (entry_of e)) is.law
              (steps.has_changed_merge (entry_of e) (node_of word) layer safe changed.differs.others leads durable (eqb-true e.kind merge_kind merge)));
        }
        | false ↦ λ split. record {
          order = keeps.row;
          rooted = changed.rooted;
          sure = rests;
          law = moved_facts (terms_of r) (record f { layer = layer; safe_layer = safe }) (facts_in r ghosts ended) (turns.Clears e.line) path
              (turn_keeps (terms_of r) f (record f { layer = layer; safe_layer = safe }) (turns.Changes (entry_of e) (node_of word)) (turns.Clears e.line) is.law
              (steps.has_changed_split (entry_of e) (node_of word) layer safe changed.differs.others leads durable (eqb-false e.kind merge_kind split)));
        }
      ] refl

-- a status that is loaded once more
counted : (r : RowTerms) (ghosts : Ghosts) (words : List ℕ) (n : ℕ) (none : Bool) (x : ℕ) → volatile_field r.layout words status_offset n ≡ x → RowLawful r ghosts words (Counts n none)
    → RowLawful r ghosts words (Counts (suc n) (none && not (x == 0)))
counted r ghosts words n none x status is =
    elim (x == 0) as (λ b. (x == 0) ≡ b → RowLawful r ghosts words (Counts (suc n) (none && not b))) [
      | true ↦ λ e. subst (λ b. RowLawful r ghosts words (Counts (suc n) b)) (sym (and_right none false refl))
          (look r ghosts words (Counts n none) (Counts (suc n) false) is is.sure (steps.counts_free n none (status ∙ eqb-true _ _ e)))
      | false ↦ λ e. subst (λ b. RowLawful r ghosts words (Counts (suc n) b)) (sym (and_true none))
          (look r ghosts words (Counts n none) (Counts (suc n) none) is is.sure (steps.counts n none (λ zero_status. eqb-false _ _ e (sym status ∙ zero_status))))
    ] refl
  where
    and_true : (b : Bool) → (b && true) ≡ b
    and_true true = refl
    and_true false = refl

-- the stores of the turn
module _ (r : RowTerms) (ghosts : Ghosts) (words : List ℕ) (row : IsRow r.layout words) where
  abbrev g : TurnFacts
  g = facts_in r ghosts words

  abbrev k : TurnTerms
  k = terms_of r

  abbrev put_at : Location → ℕ → List ℕ
  put_at p y = slice_set words (address_of r.layout p) y

  lock_keeps : (y : ℕ) (s t : RowStage) → RowLawful r ghosts words s → LayerRests r words → (LayerRests r (put_at Updater y) → SureRow r ghosts (put_at Updater y) t) → TurnLawful k g (turn_stage t) → RowLawful r ghosts (put_at Updater y) t
  lock_keeps y s t is even sure law = by_store r ghosts words (put_at Updater y) g (lock_stored r ghosts words y) s t is even sure law

  stamp_keeps : (e : RowLine) → e.node < r.layout.nodes → RowLawful r ghosts words (Stamps e) → RowLawful r ghosts (put_at (Volatile e.node stamp_offset) r.stamp) (Clears e.line)
  stamp_keeps e lt is = by_store r ghosts words (put_at (Volatile e.node stamp_offset) r.stamp) (record g { stamp = set_at g.stamp e.node r.stamp }) (stamp_stored r ghosts words e.node r.stamp row.whole lt) (Stamps e) (Clears e.line) is is.sure (λ even. even)
      (turn_keeps k g (record g { stamp = set_at g.stamp e.node r.stamp }) (turns.Stamps (entry_of e)) (turns.Clears e.line) is.law (steps.stamps (entry_of e)))

  empty_keeps : (j : ℕ) → j < line_count r.layout → RowLawful r ghosts words (Clears j) → RowLawful r ghosts (put_at (Cached (line_word state_offset j)) 0) (Between (suc j))
  empty_keeps j lt is = by_store r ghosts words (put_at (Cached (line_word state_offset j)) 0) (emptied g j) (line_emptied r ghosts words j row.whole lt) (Clears j) (Between (suc j)) is is.sure (λ even. even)
      (turn_keeps k g (emptied g j) (turns.Clears j) (turns.Between (suc j)) is.law (steps.empties j))

  unstamp_keeps : (n : ℕ) → n < r.layout.nodes → RowLawful r ghosts words (IsUnworn n) → RowLawful r ghosts (put_at (Volatile n stamp_offset) 0) (Frees n)
  unstamp_keeps n lt is = by_store r ghosts words (put_at (Volatile n stamp_offset) 0) (record g { stamp = set_at g.stamp n 0 }) (stamp_stored r ghosts words n 0 row.whole lt) (IsUnworn n) (Frees n) is is.sure (λ even. even)
      (turn_keeps k g (record g { stamp = set_at g.stamp n 0 }) (turns.IsUnworn n) (turns.Frees n) is.law (steps.unstamps n))

  free_keeps : (n : ℕ) → n < r.layout.nodes → RowLawful r ghosts words (Frees n) → RowLawful r ghosts (put_at (Volatile n status_offset) 0) (Sweeps (suc n))
  free_keeps n lt is = by_store r ghosts words (put_at (Volatile n status_offset) 0) (record g { status = set_at g.status n free_status }) (status_stored r ghosts words n 0 row.whole lt) (Frees n) (Sweeps (suc n)) is is.sure (λ even. even)
      (turn_keeps k g (record g { status = set_at g.status n free_status }) (turns.Frees n) (turns.Sweeps (suc n)) is.law (steps.frees n))

kind_keeps : (r : RowTerms) (ghosts : Ghosts) (words : List ℕ) (row : IsRow r.layout words) {s : RowStage} {a : Action} {x : ℕ} {t : RowStage} → RowStep r s a x t → x ≡ got r.layout words a → RowLawful r ghosts words s
    → ((e : RowLine) (target : RowTarget) → t ≡ HasTarget e target → IsTargetFor r ghosts words e.anchor target) → RowLawful r ghosts (acted r.layout words a) t
kind_keeps r ghosts words row (takes_lock free) told is walked =
    lock_keeps r ghosts words row (cond (slice_index words (lock_at r.layout) == untaken_lock) taken_lock (slice_index words (lock_at r.layout))) Resting (Between 0) is is.sure (λ even. even)
    (turn_keeps (terms_of r) (facts_in r ghosts words) (facts_in r ghosts words) turns.Resting (turns.Between 0) is.law steps.takes_lock)
kind_keeps r ghosts words row (finds_held taken) told is walked =
    lock_keeps r ghosts words row (cond (slice_index words (lock_at r.layout) == untaken_lock) taken_lock (slice_index words (lock_at r.layout))) Resting Resting is is.sure (λ even. even) is.law
kind_keeps r ghosts words row (passes {j = j} {x = x} here other_state) told is walked =
    by_load r ghosts words (line_at r.layout j state_offset) (after_line r j) (line_done r ghosts words j
    (look r ghosts words (Between j) (Between (suc j)) is is.sure (steps.passes j (λ ready. other_state (sym (line_told r ghosts words j state_offset x here told) ∙ ready)))))
kind_keeps r ghosts words row (sees {j = j} {x = x} seen here ready size) told is walked =
    let state = line_told r ghosts words j state_offset x here told in
    by_load r ghosts words (line_at r.layout j state_offset) (Reads j kind_offset (slice_set seen state_offset x))
    (look r ghosts words (Between j) (Reads j kind_offset (slice_set seen state_offset x)) is (
      record {
        size = length-set seen state_offset x ∙ size;
        most = omega arith;
        named = λ past. absurd (let no : 3 < 1 = past in omega arith);
        same = λ k lt. let zero_k : k ≡ 0 = omega arith in
            subst (λ o. line_field r.layout words Cached o j ≡ slice_index (slice_set seen state_offset x) o) (sym zero_k) (state ∙ sym (get_or-set_same seen state_offset x 0 (omega arith)));
      },
      is.sure,
    ) (steps.sees j (state ∙ ready)))
kind_keeps r ghosts words row (reads {j = j} {offset = offset} {x = x} {seen = seen} here some small named) told is walked =
    by_load r ghosts words (line_at r.layout j offset) (Reads j (offset + 1) (slice_set seen offset x))
    (subst (λ k. RowLawful r ghosts words (Reads j k (slice_set seen offset x))) (omega arith) (read_more r ghosts words j offset x seen some small (line_told r ghosts words j offset x here told) named is))
kind_keeps r ghosts words row (has_read {j = j} {x = x} {seen = seen} here) told is walked =
    by_load r ghosts words (line_at r.layout j left_offset) (Lands (line_read j (slice_set seen left_offset x))) (all_read r ghosts words row j x seen (line_told r ghosts words j left_offset x here told) is)
kind_keeps r ghosts words row (walks {e = e} {address = address} here) told is walked = by_load r ghosts words address (Lands e) is
kind_keeps r ghosts words row (is_turned_back {e = e} {address = address} here) told is walked =
    by_load r ghosts words address (after_line r e.line) (line_done r ghosts words e.line (look r ghosts words (Lands e) (Between (suc e.line)) is is.sure.1 (steps.leaves_line (entry_of e))))
kind_keeps r ghosts words row (finds {e = e} {target = target} {address = address} here within free) told is walked =
    by_load r ghosts words address (HasTarget e target)
    (still r ghosts words (Lands e) (HasTarget e target) is (is.sure.0, record { within = within; free = free }, walked e target refl, is.sure.1) refl)
kind_keeps r ghosts words row (loses {e = e} {target = target} moved) told is walked =
    by_load r ghosts words (version_at r.layout target.node) (after_line r e.line)
    (line_done r ghosts words e.line (look r ghosts words (HasTarget e target) (Between (suc e.line)) is is.sure.3 (steps.leaves_line (entry_of e))))
kind_keeps r ghosts words row (decides {e = e} {target = target} {x = x} same) told is walked =
    by_load r ghosts words (version_at r.layout target.node) (Changes e (word_at e.anchor target) (start_stage r.layout (aim_of e (word_at e.anchor target))))
    (known r ghosts words row e target is (version_told r ghosts words target.node x is.sure.1.within told ∙ same))
kind_keeps r ghosts words row (changes {e = e} {word = word} {x = x} {s = s} {t = t} {a = a} step) told is walked =
    change_goes r ghosts words row e word s t a is (subst (λ y. ChangeStep r.layout (aim_of e word) s a y t) told step)
kind_keeps r ghosts words row (has_changed {e = e} {word = word} {x = x} {s = s} {a = a} step) told is walked =
    change_done r ghosts words row e word s a is (subst (λ y. ChangeStep r.layout (aim_of e word) s a y Changed) told step)
kind_keeps r ghosts words row (stamps {e = e} here) told is walked = stamp_keeps r ghosts words row e here is
kind_keeps r ghosts words row (empties {j = j} here) told is walked =
    line_done r ghosts (slice_set words (line_at r.layout j state_offset) 0) j (empty_keeps r ghosts words row j here is)
kind_keeps r ghosts words row (passes_node {n = n} {x = x} here other_status) told is walked =
    by_load r ghosts words (volatile_at r.layout n status_offset) (after_node r n) (node_done r ghosts words n
    (look r ghosts words (Sweeps n) (Sweeps (suc n)) is is.sure (steps.passes_node n (λ gone. other_status (sym (volatile_told r ghosts words n status_offset x here told) ∙ gone)))))
kind_keeps r ghosts words row (sees_gone {n = n} {x = x} here gone) told is walked =
    by_load r ghosts words (volatile_at r.layout n status_offset) (Gone n)
    (look r ghosts words (Sweeps n) (Gone n) is is.sure (steps.sees_gone n (volatile_told r ghosts words n status_offset x here told ∙ gone)))
kind_keeps r ghosts words row (passes_stamp {n = n} {x = x} here why) told is walked =
    let stamp = volatile_told r ghosts words n stamp_offset x here told in
    by_load r ghosts words (volatile_at r.layout n stamp_offset) (after_node r n) (node_done r ghosts words n
    (look r ghosts words (Gone n) (Sweeps (suc n)) is is.sure (steps.passes_stamp n (elim why [ inl none ↦ inl (stamp ∙ none) | inr past ↦ inr (subst (λ y. r.release < y) (sym stamp) past) ]))))
kind_keeps r ghosts words row (sees_stamp {n = n} {x = x} here some_stamp at_most) told is walked =
    let stamp = volatile_told r ghosts words n stamp_offset x here told in
    by_load r ghosts words (volatile_at r.layout n stamp_offset) (HasStamp n)
    (look r ghosts words (Gone n) (HasStamp n) is is.sure (steps.sees_stamp n (λ none. some_stamp (sym stamp ∙ none)) (subst (λ y. y ≤ r.release) (sym stamp) at_most)))
kind_keeps r ghosts words row (passes_worn {n = n} {x = x} here worn) told is walked =
    by_load r ghosts words (version_at r.layout n) (after_node r n) (node_done r ghosts words n
    (look r ghosts words (HasStamp n) (Sweeps (suc n)) is is.sure (steps.passes_worn n (ap (λ v. is_worn_word v r.generation) (version_told r ghosts words n x here told) ∙ worn))))
kind_keeps r ghosts words row (sees_unworn {n = n} {x = x} here unworn) told is walked =
    by_load r ghosts words (version_at r.layout n) (IsUnworn n)
    (look r ghosts words (HasStamp n) (IsUnworn n) is is.sure (steps.sees_unworn n (ap (λ v. is_worn_word v r.generation) (version_told r ghosts words n x here told) ∙ unworn)))
kind_keeps r ghosts words row (unstamps {n = n} here) told is walked = unstamp_keeps r ghosts words row n here is
kind_keeps r ghosts words row (frees {n = n} here) told is walked =
    node_done r ghosts (slice_set words (volatile_at r.layout n status_offset) 0) n (free_keeps r ghosts words row n here is)
kind_keeps r ghosts words row (counts {n = n} {x = x} {none = none} here) told is walked =
    by_load r ghosts words (volatile_at r.layout n status_offset) (Counts (n + 1) (none && not (x == 0)))
    (subst (λ m. RowLawful r ghosts words (Counts m (none && not (x == 0)))) (omega arith) (counted r ghosts words n none x (volatile_told r ghosts words n status_offset x here told) is))
kind_keeps r ghosts words row (leaves_lock {n = n} {none = none} done) told is walked =
    lock_keeps r ghosts words row 0 (Counts n none) Resting is is.sure (λ even. even)
    (turn_keeps (terms_of r) (facts_in r ghosts words) (facts_in r ghosts words) (turns.Counts n none) turns.Resting is.law (steps.leaves_lock n none done))

pub row_step_keeps : RowStepKeeps
row_step_keeps r ghosts words s t a row is step walked = kind_keeps r ghosts words row step refl is walked
