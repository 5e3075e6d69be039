-- An opened index has its search layer: it is exactly the list's.
use Rattle.std.proofs.Common.{◌≡◌, ◌≢◌, ℕ, ◌+◌, ◌<◌, ◌≤◌, ◌==◌, ◌||◌, ◌&&◌, not, Bool, true, false, cond, List, [], ◌∷◌}
use Rattle.std.proofs.Common.{inl, ⊎_elim, refl, sym, ap, ◌∙◌, subst, arith}
use Rattle.std.specs.Prelude.{nat_lt}
use Rattle.std.proofs.lemmas.Bool.{cases_lt, cond_both, lt-ltb, le-ltb, ltb-true, false_from_ne_true}
use Rattle.pm_words.specs.Codes.{free_status, live_status}
use Rattle.pm_words.specs.declared.layout.Layout.{Layout}
use Rattle.pm_words.specs.Locations.{Word, Location, Header, Volatile, Cached, Durable, at}
use Rattle.cat_history.specs.Maps.{Map}
use Rattle.version_lock.specs.Versions.{generation_of, IsFree, IsWorn, is_worn_word}
use Rattle.version_lock.proofs.WordTests.{free_is, worn_word}
use Rattle.data_node.specs.Lists.{ListNode, anchor_in}
use Rattle.pm_words.specs.Offsets.{generation_offset, anchor_offset, state_offset, kind_offset, line_node_offset}
use Rattle.pm_words.specs.Offsets.{stamp_offset}
use Rattle.index_law.specs.Facts.{Facts, version_in, status_in}
use Rattle.index_law.specs.Worlds.{Party, facts}
use Rattle.layer_map.specs.Keys.{key_of}
use Rattle.image_recovery_law.specs.search_layer.specs.Rows.{LayerWords, layer_words, AreEven}
use Rattle.image_recovery_law.specs.search_layer.specs.Kept.{kept}
use Rattle.updater_law.specs.Facts.{TurnFacts}
use Rattle.updater_law.specs.Lawful.{TurnLawful}
use Rattle.updater_law.specs.TurnStages as turns
use Rattle.image_recovery_law.specs.updater_row_law.specs.Columns as columns
use Rattle.image_recovery_law.specs.updater_row_law.specs.Columns.{column, line_field, line_word, line_count}
use Rattle.image_recovery_law.specs.updater_row_law.specs.Columns.{lines_in, volatile_field, facts_in}
use Rattle.image_recovery_law.specs.updater_row_law.specs.RowStages.{Resting}
use Rattle.image_recovery_law.specs.updater_row_law.specs.RowLaw.{RowLawful}
use Rattle.image_recovery_law.specs.updater_row_law.specs.Turnings.{Turning}
use Rattle.index_layer_law.specs.Turnings.{terms_of, ghosts_of, is_listed, is_member}
use Rattle.index_layer_law.proofs.FactTies.{facts_tie, known, rest_in, listed_tells, unlisted_tells}
use Rattle.index_layer_law.proofs.TurnRests.{rest_is_layered}
use Rattle.image_recovery_law.specs.Columns.{Columns, lines_of}
use Rattle.image_recovery_law.specs.Rest.{IsUntaken, is_behind, is_in, recovered_facts}
use Rattle.image_recovery_law.specs.Rows.{columns_in, word_if}
use Rattle.image_recovery_law.proofs.Rest.{rest_is_lawful}
use Rattle.image_recovery_law.proofs.RowChanges.{leads_somewhere}
use Rattle.index_opening_law.specs.Openings.{IsOpening, OpeningIsLayered, opened_world}
use Rattle.index_opening_law.proofs.Opened.{spot_is, version_is, list_is, listed, lists, within, in_or, status_lit}
use Rattle.index_opening_law.proofs.Opened.{status_dark}
use Rattle.index_opening_law.proofs.Footing.{opening_footed, status_past}

-- the log lines of a row, as the law of turns and as a recovery read them
line_is : (l : Layout) (words : List ℕ) (twin : Word → Location) (o j : ℕ) → o < 8 → line_field l words twin o j ≡ (columns_in l words twin).line j o
unfolding column word_if
line_is l words twin o j small = rw (lt-ltb o 8 small) (both (nat_lt j (line_count l)) (at l words (twin (line_word o j))))
  where
    both : (b : Bool) (x : ℕ) → cond b x 0 ≡ cond (b && true) x 0
    both true x = refl
    both false x = refl

line_anchor_is : (l : Layout) (words : List ℕ) (twin : Word → Location) (j : ℕ) → (lines_in l words twin).anchor j ≡ (lines_of (columns_in l words twin)).anchor j
unfolding anchor_in
line_anchor_is l words twin j =
    let first = line_is l words twin anchor_offset j (omega arith) in
    let second = line_is l words twin (anchor_offset + 1) j (omega arith) in
    let third = line_is l words twin (anchor_offset + 2) j (omega arith) in
    λ k. key_of (first k) (second k) (third k)

lines_are : (l : Layout) (words : List ℕ) (twin : Word → Location) → lines_in l words twin ≡ lines_of (columns_in l words twin)
lines_are l words twin = λ k. record {
  state = λ j. line_is l words twin state_offset j (omega arith) k;
  kind = λ j. line_is l words twin kind_offset j (omega arith) k;
  node = λ j. line_is l words twin line_node_offset j (omega arith) k;
  anchor = λ j. line_anchor_is l words twin j k;
}

-- whether a node is in the list, in both manners
members_same : (list : List ListNode) (n : ℕ) → is_member list n ≡ is_behind list n
members_same [] n = refl
members_same (m ∷ behind) n = ap (λ b. n == m.node || b) (members_same behind n)

module _ (l : Layout) (list : List ListNode) (o : Columns) (words : List ℕ) (m : Map) (is : IsOpening l list o words m) where
  abbrev now : Columns
  now = columns_in l words Cached

  abbrev safe : Columns
  safe = columns_in l words Durable

  abbrev g : ℕ
  g = at l words (Cached (Header generation_offset))

  abbrev f : Facts
  f = facts (opened_world l words [] m)

  listed_is : is_listed f ≡ is_in list
  listed_is = (λ k n. n == 0 || is_member (list_is l list o words m is k) n) ∙ (λ k n. n == 0 || members_same list n k)

  abbrev status_of : Bool → ℕ
  status_of b = cond b live_status free_status

  status_is : (n : ℕ) → status_in l words n ≡ status_of (is_in list n)
  status_is n = ⊎_elim
      (λ (here : n < l.nodes). ⊎_elim
      (λ has. status_lit l list o words m is n here has ∙ ap status_of (sym ((λ k. sym listed_is k n) ∙ listed_tells f n (lists l list o words m is n has))))
      (λ lacks. status_dark l list o words m is n here lacks ∙ ap status_of (sym ((λ k. sym listed_is k n) ∙ unlisted_tells f n (λ has. lacks (listed l list o words m is n has)))))
      (in_or l list o words m is n))
      (λ (past : l.nodes ≤ n). status_past l words n past ∙ ap status_of (sym ((λ k. sym listed_is k n) ∙ unlisted_tells f n (λ has. let here = within l list o words m is n has in omega arith))))
      (cases_lt n l.nodes)

  version_past : (n : ℕ) → l.nodes ≤ n → version_in l words n ≡ 0
  unfolding version_in
  version_past n past = rw (le-ltb n l.nodes past) refl

  generation_some : 1 ≤ g
  generation_some = is.rests.sound.nodes.generation.least

  untaken : (n : ℕ) → (IsFree (version_in l words n) g) × (IsWorn (version_in l words n) g → ⊥)
  untaken n = ⊎_elim
      (λ (here : n < l.nodes).
      let none = subst (λ (v : ℕ → ℕ). IsUntaken (v n) g) (version_is l words) (is.rests.untaken n here) in
      (none.free, none.unworn))
      (λ (past : l.nodes ≤ n).
      subst (λ v. IsFree v g × (IsWorn v g → ⊥)) (sym (version_past n past))
      (inl (let some = generation_some in omega arith), λ worn. let same : generation_of 0 ≡ g = worn.0 in let some = generation_some in omega arith))
      (cases_lt n l.nodes)

  stamp_zero : (n : ℕ) → volatile_field l words stamp_offset n ≡ 0
  unfolding column
  stamp_zero n = cond_both (nat_lt n l.nodes) (at l words (Volatile n stamp_offset)) 0 (λ x. x ≡ 0) (λ here. is.tells.stamps n (ltb-true n l.nodes here)) (λ past. refl)

  not_worn : (n : ℕ) → is_worn_word (version_in l words n) g ≡ false
  not_worn n = false_from_ne_true (is_worn_word (version_in l words n) g) (λ worn. (untaken n).1 (worn_word (version_in l words n) g worn))

  -- what the law of turns reads
  known_is : known l g f (λ n. 0) (rest_in l words) ≡ recovered_facts l list now safe
  known_is = λ k. record {
    listed = listed_is k;
    anchor = λ n. anchor_in (sym (spot_is l words) k n);
    status = λ n. status_is n k;
    stamp = λ n. stamp_zero n k;
    held = λ n. not (free_is (version_in l words n) g (untaken n).0 k);
    holder = λ n. 0;
    worn = λ n. not_worn n k;
    line = lines_are l words Cached k;
    safe_line = lines_are l words Durable k;
    layer = kept l (layer_words l words Cached);
    safe_layer = kept l (layer_words l words Durable);
  }

  pub row_is : (parties : List Party) (t : Turning) → t.stamp ≢ 0 → RowLawful (terms_of (opened_world l words parties m) t) (ghosts_of (opened_world l words parties m) (λ n. 0)) words Resting
  row_is parties t stamp = record {
    order = is.rests.sound.layer.row;
    rooted = λ none. leads_somewhere 0 (sym ((is.rests.exact 0 0).1 (inl refl, is.rests.sound.nodes.makes.lowest)) ∙ none);
    sure = record {
      lawful = is.rests.sound.layer.row;
      even = subst (λ (d : LayerWords). AreEven (layer_words l words Cached) d) (sym (λ j. (is.rests.durable j).layer)) (λ p. refl);
      tells = is.marks;
    };
    law = subst (λ (u : TurnFacts). TurnLawful (columns.terms_of (terms_of (opened_world l words parties m) t)) u turns.Resting)
        (sym (facts_tie (opened_world l words parties m) (λ n. 0) t ∙ known_is))
        (rest_is_lawful l list o now safe (columns.terms_of (terms_of (opened_world l words parties m) t)) stamp is.rests);
  }

pub opening_is_layered : OpeningIsLayered
opening_is_layered l list o words m parties lines debts turns i t is free since rest there =
    let footed = opening_footed l list o words m is parties lines debts free since in
    rest_is_layered (record { whole = record { world = opened_world l words parties m; lines = lines; debts = debts }; turns = turns }) i t footed.0 footed.1 free.idle rest there
    is.tells.updater (row_is l list o words m is parties t (rest i t there).stamp)
