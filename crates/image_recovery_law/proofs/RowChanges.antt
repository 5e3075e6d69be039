-- A change of the layer on a row of words: as it begins, step by step, and as it ends.
use Rattle.std.proofs.Common.{◌≡◌, ◌≢◌, ℕ, ◌+◌, zero, suc, ◌-◌, ◌^◌, ◌<◌, ◌≤◌, Bool, true, false, List, [], ◌∷◌, Some}
use Rattle.std.proofs.Common.{None, slice_index, inl, inr, refl, sym, subst, subst₂, ap, ◌∙◌, arith}
use Rattle.std.specs.Prelude.{nat_lt}
use Rattle.std.proofs.lemmas.Bool.{cases_eq, lt-ltb}
use Rattle.pm_words.specs.declared.layout.Layout.{Layout}
use Rattle.pm_words.specs.Locations.{Word, Header, Root, Node, Line, Leaf, Cell, Cached, Durable, part_of_word, at}
use Rattle.pm_words.specs.Rows.{acted}
use Rattle.pm_words.specs.Codes.{empty_state}
use Rattle.pm_words.specs.Offsets.{anchor_offset, state_offset}
use Rattle.cat_key.specs.Names.{words_of}
use Rattle.data_node.specs.Lists.{ListNode, anchor_in}
use Rattle.data_node.proofs.KeyLemmas.{key-number}
use Rattle.layer_map.specs.Keys.{key_number, IsKey}
use Rattle.layer_map.specs.Layers.{Layer}
use Rattle.layer_map.proofs.KeyLemmas.{zero_is_least}
use Rattle.updater_row_law.specs.tree_update.specs.Stages.{Aim, IsRooted}
use Rattle.updater_row_law.specs.search_layer.specs.Rows.{LayerWords, layer_words, layer_marks, KeepsOthers}
use Rattle.updater_row_law.specs.search_layer.specs.ChangeStages.{Changing, Changed, start_stage}
use Rattle.updater_row_law.specs.search_layer.specs.Kept.{layer_of}
use Rattle.updater_row_law.specs.search_layer.specs.Laws.{SureOn, SureIn}
use Rattle.updater_row_law.specs.search_layer.specs.RootLine.{RootLineStays}
use Rattle.updater_row_law.specs.search_layer.proofs.StepLaw.{change_step_keeps}
use Rattle.updater_row_law.specs.search_layer.proofs.StageLemmas.{change_is_backed, change_begins, change_ends}
use Rattle.updater_row_law.specs.search_layer.proofs.RootLemmas.{root_begins, root_step_keeps}
use Rattle.updater_law.specs.Covers.{IsOpenFor}
use Rattle.image_recovery_law.specs.Columns.{Columns, lines_of, line_anchor, anchor_of, layer_kept, IsSound, MendsLayer}
use Rattle.image_recovery_law.specs.Stages.{with_layer, aim_at, Unsets, Unsetting, Sets, Setting, ChangesTo}
use Rattle.image_recovery_law.specs.Stages.{IsChanging, unsets, unsetting, unset, sets, setting, set, LacksAnchor}
use Rattle.image_recovery_law.specs.Stages.{Sure}
use Rattle.image_recovery_law.specs.Rows.{word_if, spare_count, spare_word, columns_in}
use Rattle.image_recovery_law.specs.RowMoves.{ChangesOnRows, UnsetBegins, SetBegins, UnsetGoes, SetGoes, UnsetEnds}
use Rattle.image_recovery_law.specs.RowMoves.{SetEnds}
use Rattle.image_recovery_law.proofs.Mended.{line_named}
use Rattle.image_recovery_law.proofs.Steps.{steps_keep, anchors_now, lines_now}
use Rattle.image_recovery_law.proofs.RowColumns.{word_if-here, columns_alike, IsRest, spare_high, has_line_word}

-- what a stage knows of the row, as the stages of a recovery want it
changes_to : (l : Layout) (aim : Aim) (before : Layer) (c : Changing) (words : List ℕ) → SureIn l before aim c words → ChangesTo l aim before c (layer_words l words Cached) (layer_words l words Durable)
changes_to l aim before c words sure =
    let w = layer_words l words Cached in
    let s = layer_words l words Durable in
    let m = layer_marks l words in
    record {
      backs = change_is_backed l aim before c w s m sure;
      even = λ done. (change_ends l before aim w s m (subst (λ (x : Changing). SureOn l before aim x w s m) done sure)).even;
    }

pub changes_on_rows : ChangesOnRows
changes_on_rows l aim before words s t a row few rooted known step =
    let keeps = change_step_keeps l aim before words s a t row few rooted known.sure step in (
      record { sure = keeps.sure; holds = (root_step_keeps l aim words s a t row.whole step known.holds).0 },
      changes_to l aim before t (acted l words a) keeps.sure,
    )

-- words of leaves and cells are told by no other column
no_leaf : (k o : ℕ) → part_of_word (Leaf k o) ≤ 3 → ⊥
no_leaf k o low = omega arith

no_cell : (kind k o : ℕ) → 2 ≤ kind → part_of_word (Cell kind k o) ≤ 3 → ⊥
no_cell kind k o some low = omega arith

-- A change changes no column but that of the layer. Words of the root's line become durable as they are cached.
module _ (l : Layout) (words after : List ℕ) (others : KeepsOthers l words after) (root : RootLineStays l words after) (even : (k : ℕ) → (columns_in l words Durable).spare k ≡ (columns_in l words Cached).spare k) where
  root_even : (o : ℕ) → 1 ≤ o → o < 8 → at l words (Durable (Root o)) ≡ at l words (Cached (Root o))
  root_even o some small =
      let there : suc o - 1 ≡ o = omega arith in
      let name = spare_high (suc o) (omega arith) ∙ ap Root there in
      let inside : nat_lt (suc o) spare_count ≡ true = lt-ltb (suc o) spare_count (omega arith) in
      ap (λ w. at l words (Durable w)) (sym name)
      ∙ sym (word_if-here (nat_lt (suc o) spare_count) (at l words (Durable (spare_word (suc o)))) inside) ∙ even (suc o)
      ∙ word_if-here (nat_lt (suc o) spare_count) (at l words (Cached (spare_word (suc o)))) inside
      ∙ ap (λ w. at l words (Cached w)) name

  behind_root : (o : ℕ) → IsRest l (Root o) → 1 ≤ o
  behind_root o is = elim (cases_eq o 0) as (λ _. 1 ≤ o) [ inl first ↦ absurd (is.2 (ap Root first)) | inr some ↦ omega (arith, some) ]

  cached_word : (w : Word) → IsRest l w → at l after (Cached w) ≡ at l words (Cached w)
  cached_word (Header o) is = others (Cached (Header o)) is.0 refl
  cached_word (Root o) is = root.cached o (behind_root o is) is.0
  cached_word (Node n o) is = others (Cached (Node n o)) is.0 refl
  cached_word (Line c j o) is = others (Cached (Line c j o)) is.0 refl
  cached_word (Leaf k o) is = absurd (no_leaf k o is.1)
  cached_word (Cell kind k o) is = absurd (no_cell kind k o is.0.0 is.1)

  durable_word : (w : Word) → IsRest l w → at l after (Durable w) ≡ at l words (Durable w)
  durable_word (Header o) is = others (Durable (Header o)) is.0 refl
  durable_word (Root o) is =
      let some = behind_root o is in
      elim (root.durable o some is.0) [ inl same ↦ same | inr drained ↦ drained ∙ sym (root_even o some is.0) ]
  durable_word (Node n o) is = others (Durable (Node n o)) is.0 refl
  durable_word (Line c j o) is = others (Durable (Line c j o)) is.0 refl
  durable_word (Leaf k o) is = absurd (no_leaf k o is.1)
  durable_word (Cell kind k o) is = absurd (no_cell kind k o is.0.0 is.1)

  cached_but : columns_in l after Cached ≡ with_layer (columns_in l words Cached) (layer_words l after Cached)
  cached_but = columns_alike l (λ w. at l words (Cached w)) (λ w. at l after (Cached w)) (layer_words l after Cached) (layer_words l after Cached) cached_word refl

  durable_but : columns_in l after Durable ≡ with_layer (columns_in l words Durable) (layer_words l after Durable)
  durable_but = columns_alike l (λ w. at l words (Durable w)) (λ w. at l after (Durable w)) (layer_words l after Durable) (layer_words l after Durable) durable_word refl

-- the change at a line's anchor, as the columns have it now and as the first ones had it
aims_are : (now o : Columns) (j word : ℕ) → ((k offset : ℕ) → offset ≢ 0 → now.line k offset ≡ o.line k offset) → aim_at now j word ≡ aim_at o j word
aims_are now o j word fields = λ k. record { key = fields j anchor_offset (λ e. cc) k ∷ fields j (anchor_offset + 1) (λ e. cc) k ∷ fields j (anchor_offset + 2) (λ e. cc) k ∷ []; word = word }

-- its key has three words of 64 bits
unfit : (inside : Bool) (x : ℕ) → x < 2 ^ 64 → word_if inside x < 2 ^ 64
unfolding word_if
unfit true x small = small
unfit false x small = omega arith

three_fit : (a b c : ℕ) → a < 2 ^ 64 → b < 2 ^ 64 → c < 2 ^ 64 → (k : ℕ) → slice_index (a ∷ b ∷ c ∷ []) k < 2 ^ 64
three_fit a b c first second third zero = first
three_fit a b c first second third (suc zero) = second
three_fit a b c first second third (suc (suc zero)) = third
three_fit a b c first second third (suc (suc (suc k))) = omega arith

line_key : (l : Layout) (words : List ℕ) (j word : ℕ) → ((k : ℕ) → slice_index words k < 2 ^ 64) → IsKey (aim_at (columns_in l words Cached) j word).key
line_key l words j word fits = record {
  whole = refl;
  fits = three_fit ((columns_in l words Cached).line j anchor_offset) ((columns_in l words Cached).line j (anchor_offset + 1)) ((columns_in l words Cached).line j (anchor_offset + 2))
      (unfit (has_line_word l j anchor_offset) _ (fits _)) (unfit (has_line_word l j (anchor_offset + 1)) _ (fits _)) (unfit (has_line_word l j (anchor_offset + 2)) _ (fits _));
}

pub leads_somewhere : (node : ℕ) → Some node ≡ None → ⊥
leads_somewhere node e = cc

-- No line has the zero key as its anchor, and that leads to node 0 at every moment.
module _ (l : Layout) (list : List ListNode) (o : Columns) (sound : IsSound l list o) where
  line_some : (j : ℕ) → o.line j state_offset ≢ empty_state → line_anchor o j ≢ 0
  line_some j busy none =
      let named = line_named l list o sound j busy in
      let least : 0 < key_number (words_of named.name) = zero_is_least named.name named.is_name in
      let same : key_number (words_of named.name) ≡ 0 = sym (key-number named.name) ∙ sym named.same ∙ none in
      omega arith

  zero_closed : IsOpenFor (lines_of o) 0 → ⊥
  zero_closed opened = line_some opened.line opened.state opened.anchor

  pub zero_leads : (layer : Layer) → MendsLayer l o layer → layer 0 ≡ Some 0
  zero_leads layer mends = mends.same 0 zero_closed ∙ (sound.layer.covered 0 0 zero_closed).1 (inl refl, sound.nodes.makes.lowest)

  rooted : (j word : ℕ) (before : Layer) → o.line j state_offset ≢ empty_state → MendsLayer l o before → IsRooted (aim_at o j word) before
  unfolding anchor_in
  rooted j word before busy mends takes = (line_some j busy, λ none. leads_somewhere 0 (sym (zero_leads before mends) ∙ none))

pub unset_begins : UnsetBegins
unset_begins l list o words j row sound known busy lacks =
    let now : Columns = columns_in l words Cached in
    let safe : Columns = columns_in l words Durable in
    let sure = known.sure in
    let mends = sure.0.cached.nodes in
    let lacks_now : LacksAnchor list now j = λ n is e. lacks n is (sym (anchors_now l list o sound now safe mends n) ∙ e ∙ lines_now l list o sound now safe mends j) in
    let aims = aims_are now o j 0 mends.fields in
    record {
      sure = subst (λ (x : Aim). Sure l list o (Unsetting j (layer_kept l now) (start_stage l x)) now safe) aims
          (steps_keep l list o now safe now safe (Unsets j) (Unsetting j (layer_kept l now) (start_stage l (aim_at now j 0))) sound sure (unsets j (λ e. busy (sym (sure.1 j) ∙ e)) lacks_now));
      marks = record {
        sure = (change_begins l (layer_of l words) (aim_at o j 0) words row (subst (λ (x : Aim). IsKey x.key) aims (line_key l words j 0 row.fits)) sure.0.cached.row sure.0.layer known.marks (λ k. refl)).0;
        holds = root_begins l (aim_at o j 0) words;
      };
    }

pub set_begins : SetBegins
set_begins l list o words j n row sound known busy is anchor =
    let now : Columns = columns_in l words Cached in
    let safe : Columns = columns_in l words Durable in
    let sure = known.sure in
    let mends = sure.0.cached.nodes in
    let has_now : anchor_of now n ≡ line_anchor now j = anchors_now l list o sound now safe mends n ∙ anchor ∙ sym (lines_now l list o sound now safe mends j) in
    let aims = aims_are now o j (suc n) mends.fields in
    record {
      sure = subst (λ (x : Aim). Sure l list o (Setting j n (layer_kept l now) (start_stage l x)) now safe) aims
          (steps_keep l list o now safe now safe (Sets j) (Setting j n (layer_kept l now) (start_stage l (aim_at now j (suc n)))) sound sure (sets j n (λ e. busy (sym (sure.1 j) ∙ e)) is has_now));
      marks = record {
        sure = (change_begins l (layer_of l words) (aim_at o j (suc n)) words row (subst (λ (x : Aim). IsKey x.key) aims (line_key l words j (suc n) row.fits)) sure.0.cached.row sure.0.layer known.marks (λ k. refl)).0;
        holds = root_begins l (aim_at o j (suc n)) words;
      };
    }

pub unset_goes : UnsetGoes
unset_goes l list o words j before c next a row sound known step =
    let now : Columns = columns_in l words Cached in
    let safe : Columns = columns_in l words Durable in
    let w : LayerWords = layer_words l (acted l words a) Cached in
    let d : LayerWords = layer_words l (acted l words a) Durable in
    let ch : IsChanging l list o (aim_at now j 0) before c now safe = known.sure.0 in
    let root = rooted l list o sound j 0 before known.sure.4 ch.first in
    let on = changes_on_rows l (aim_at o j 0) before words c next a row (λ _. ch.first.few) root known.marks step in
    let others = (change_step_keeps l (aim_at o j 0) before words c a next row (λ _. ch.first.few) root known.marks.sure step).others in
    let line = (root_step_keeps l (aim_at o j 0) words c a next row.whole step known.marks.holds).1 in
    let goes : ChangesTo l (aim_at now j 0) before next w d = subst (λ (x : Aim). ChangesTo l x before next w d) (sym (aims_are now o j 0 ch.nodes.fields)) on.1 in (
      record {
        sure = subst₂ (λ (x y : Columns). Sure l list o (Unsetting j before next) x y) (sym (cached_but l words (acted l words a) others line ch.even.spare)) (sym (durable_but l words (acted l words a) others line ch.even.spare))
            (steps_keep l list o now safe (with_layer now w) (with_layer safe d) (Unsetting j before c) (Unsetting j before next) sound known.sure (unsetting j before c next w d goes));
        marks = on.0;
      },
      others,
    )

pub set_goes : SetGoes
set_goes l list o words j n before c next a row sound known step =
    let now : Columns = columns_in l words Cached in
    let safe : Columns = columns_in l words Durable in
    let w : LayerWords = layer_words l (acted l words a) Cached in
    let d : LayerWords = layer_words l (acted l words a) Durable in
    let ch : IsChanging l list o (aim_at now j (suc n)) before c now safe = known.sure.0 in
    let root = rooted l list o sound j (suc n) before known.sure.5 ch.first in
    let on = changes_on_rows l (aim_at o j (suc n)) before words c next a row (λ _. ch.first.few) root known.marks step in
    let others = (change_step_keeps l (aim_at o j (suc n)) before words c a next row (λ _. ch.first.few) root known.marks.sure step).others in
    let line = (root_step_keeps l (aim_at o j (suc n)) words c a next row.whole step known.marks.holds).1 in
    let goes : ChangesTo l (aim_at now j (suc n)) before next w d = subst (λ (x : Aim). ChangesTo l x before next w d) (sym (aims_are now o j (suc n) ch.nodes.fields)) on.1 in (
      record {
        sure = subst₂ (λ (x y : Columns). Sure l list o (Setting j n before next) x y) (sym (cached_but l words (acted l words a) others line ch.even.spare)) (sym (durable_but l words (acted l words a) others line ch.even.spare))
            (steps_keep l list o now safe (with_layer now w) (with_layer safe d) (Setting j n before c) (Setting j n before next) sound known.sure (setting j n before c next w d goes));
        marks = on.0;
      },
      others,
    )

pub unset_ends : UnsetEnds
unset_ends l list o words j before sound known =
    let now : Columns = columns_in l words Cached in
    let safe : Columns = columns_in l words Durable in
    record {
      sure = steps_keep l list o now safe now safe (Unsetting j before Changed) (Unsets (suc j)) sound known.sure (unset j before);
      marks = (change_ends l before (aim_at o j 0) (layer_words l words Cached) (layer_words l words Durable) (layer_marks l words) known.marks.sure).tells;
    }

pub set_ends : SetEnds
set_ends l list o words j n before sound known =
    let now : Columns = columns_in l words Cached in
    let safe : Columns = columns_in l words Durable in
    record {
      sure = steps_keep l list o now safe now safe (Setting j n before Changed) (Sets (suc j)) sound known.sure (set j n before);
      marks = (change_ends l before (aim_at o j (suc n)) (layer_words l words Cached) (layer_words l words Durable) (layer_marks l words) known.marks.sure).tells;
    }
