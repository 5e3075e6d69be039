-- No party of an opened index has a log line or owes a prev.
use Rattle.std.proofs.Common.{◌≡◌, ◌≢◌, ℕ, ◌+◌, ◌*◌, ◌/◌, ◌%◌, ◌<◌, ◌≤◌, ◌&&◌, ◌⊎◌, List, [], ◌∷◌, inl, inr, ⊎_elim}
use Rattle.std.proofs.Common.{refl, sym, ap, ◌∙◌, subst, arith}
use Rattle.std.specs.Prelude.{nat_lt, Option}
use Rattle.std.specs.List.{AllByRecursion}
use Rattle.std.proofs.lemmas.Bool.{cases_lt, cond_both, and_parts, lt-ltb, le-ltb, ltb-true}
use Rattle.pm_words.specs.Codes.{gone_status, empty_state, free_status}
use Rattle.pm_words.specs.declared.layout.Layout.{Layout}
use Rattle.pm_words.specs.Locations.{Word, Location, Line, Volatile, Cached, Durable, at}
use Rattle.cat_history.specs.Maps.{Map}
use Rattle.data_node.specs.Spots.{Spot}
use Rattle.data_node.proofs.ListLemmas.{chain_closed, member_or}
use Rattle.data_node.specs.Lists.{ListNode, IsIn, IsMember, IsChain}
use Rattle.pm_words.specs.Offsets.{next_offset, state_offset, prev_offset}
use Rattle.call_stages.specs.Lines.{HeldLine}
use Rattle.call_stages.specs.Prevs.{Debt}
use Rattle.index_law.specs.Facts.{list_in, spot_in, status_in}
use Rattle.index_law.specs.Footed.{AreFree, IsFooted}
use Rattle.index_law.specs.Lawful.{Each}
use Rattle.index_law.specs.Lines.{AreFit, line_in, safe_line}
use Rattle.index_law.specs.Prevs.{prev_in}
use Rattle.index_law.specs.Worlds.{Party}
use Rattle.index_law.proofs.Starts.{rest_law}
use Rattle.index_law.proofs.Footed.{free_footed, none_in_order}
use Rattle.image_recovery_law.specs.updater_row_law.specs.Columns.{line_count, line_word}
use Rattle.image_recovery_law.specs.Columns.{Columns}
use Rattle.image_recovery_law.specs.Rows.{columns_in}
use Rattle.image_recovery_law.proofs.RowColumns.{line_here, word_if-here}
use Rattle.index_opening_law.specs.Openings.{IsOpening, LeadBack, OpeningIsFooted, opened_world}
use Rattle.index_opening_law.proofs.Opened.{made, makes, listed, within, status_few, opening_at_rest}

-- where prevs lead back along a chain, the prev of the node behind a node is that node
follows : (now : ℕ → Spot) (prev : ℕ → ℕ) (here : ℕ) (list : List ListNode) → IsChain now here list → LeadBack prev here list
    → (n : ℕ) → (n ≡ here) ⊎ IsMember list n → now n next_offset ≢ 0 → prev (now n next_offset) ≡ n
follows now prev here [] chain back n among more = ⊎_elim (λ (e : n ≡ here). absurd (more (ap (λ k. now k next_offset) e ∙ chain))) (λ none. absurd none) among
follows now prev here (m ∷ behind) chain back n among more = ⊎_elim
    (λ (e : n ≡ here). ap (λ k. prev (now k next_offset)) e ∙ ap prev chain.0 ∙ back.0 ∙ sym e)
    (λ (later : IsMember (m ∷ behind) n). follows now prev m.node behind chain.3 back.1 n later more)
    among

-- the node before a node of the list is node 0 or one of the list
before_within : (most here : ℕ) (prev : ℕ → ℕ) (list : List ListNode) → here < most → AllByRecursion (λ (m : ListNode). m.node < most) list → LeadBack prev here list
    → (n : ℕ) → IsMember list n → prev n < most
before_within most here prev [] low few back n among = absurd among
before_within most here prev (m ∷ behind) low few back n (inl e) = subst (λ k. k < most) (sym (ap prev e ∙ back.0)) low
before_within most here prev (m ∷ behind) low few back n (inr later) = before_within most m.node prev behind few.0 few.1 back.1 n later

-- past the nodes there is no status
pub status_past : (l : Layout) (words : List ℕ) (n : ℕ) → l.nodes ≤ n → status_in l words n ≡ free_status
unfolding status_in
status_past l words n past = rw (le-ltb n l.nodes past) refl

module _ (l : Layout) (list : List ListNode) (o : Columns) (words : List ℕ) (m : Map) (is : IsOpening l list o words m) where
  -- each log line is EMPTY in both rows
  state_zero : (twin : Word → Location) → ((j : ℕ) → (columns_in l words twin).line j 0 ≡ 0) → (c j : ℕ) → c < l.callers → j < 8 → at l words (twin (Line c j state_offset)) ≡ 0
  state_zero twin none c j here low =
      let k = 8 * c + j in
      let line : k / 8 ≡ c = omega arith in
      let place : k % 8 ≡ j = omega arith in
      (λ i. at l words (twin (Line (sym line i) (sym place i) state_offset)))
      ∙ sym (word_if-here (nat_lt k (line_count l) && nat_lt 0 8) (at l words (twin (line_word state_offset k))) (line_here l k state_offset (omega arith) (omega arith)))
      ∙ none k

  line_zero : (c j : ℕ) → line_in l words c j state_offset ≡ empty_state
  unfolding line_in
  line_zero c j = cond_both (nat_lt c l.callers && (nat_lt j 8 && nat_lt 0 8)) (at l words (Cached (Line c j state_offset))) 0 (λ x. x ≡ 0)
      (λ both. let parts = and_parts (nat_lt c l.callers) (nat_lt j 8 && nat_lt 0 8) both in let small = and_parts (nat_lt j 8) (nat_lt 0 8) parts.1 in
      state_zero Cached is.rests.empty c j (ltb-true c l.callers parts.0) (ltb-true j 8 small.0))
      (λ past. refl)

  safe_zero : (c j : ℕ) → safe_line l words c j 0 ≡ 0
  unfolding safe_line
  safe_zero c j = cond_both (nat_lt c l.callers && (nat_lt j 8 && nat_lt 0 8)) (at l words (Durable (Line c j state_offset))) 0 (λ x. x ≡ 0)
      (λ both. let parts = and_parts (nat_lt c l.callers) (nat_lt j 8 && nat_lt 0 8) both in let small = and_parts (nat_lt j 8) (nat_lt 0 8) parts.1 in
      state_zero Durable (λ k. (λ i. (is.rests.durable i).line k 0) ∙ is.rests.empty k) c j (ltb-true c l.callers parts.0) (ltb-true j 8 small.0))
      (λ past. refl)

  fits : AreFit l words
  fits c j mix mixed = inl (⊎_elim (λ durably. durably ∙ safe_zero c j) (λ cached. cached ∙ line_zero c j) (mixed 0))

  prev_is : (n : ℕ) → n < l.nodes → prev_in l words n ≡ at l words (Volatile n prev_offset)
  unfolding prev_in
  prev_is n here = rw (lt-ltb n l.nodes here) refl

  prev_past : (n : ℕ) → l.nodes ≤ n → prev_in l words n ≡ 0
  unfolding prev_in
  prev_past n past = rw (le-ltb n l.nodes past) refl

  below : (n : ℕ) → prev_in l words n < l.nodes
  below n = ⊎_elim
      (λ (here : n < l.nodes).
      subst (λ p. p < l.nodes) (sym (prev_is n here)) (⊎_elim
      (λ (among : IsMember list n). before_within l.nodes 0 (λ k. at l words (Volatile k prev_offset)) list is.rests.sound.nodes.some is.rests.sound.nodes.makes.within is.tells.back n among)
      (λ none. let zero_is = is.tells.none n here none in let some = is.rests.sound.nodes.some in omega arith)
      (member_or list n)))
      (λ (past : l.nodes ≤ n). let zero_is = prev_past n past in let some = is.rests.sound.nodes.some in omega arith)
      (cases_lt n l.nodes)

  follow : (n : ℕ) → IsIn (list_in l words) n → spot_in l words n next_offset ≢ 0 → prev_in l words (spot_in l words n next_offset) ≡ n
  follow n has more =
      let next = spot_in l words n next_offset in
      let there : next < l.nodes = within l list o words m is next (inr (chain_closed (spot_in l words) 0 (list_in l words) (made l list o words m is).chain n has more)) in
      prev_is next there
      ∙ follows (spot_in l words) (λ k. at l words (Volatile k prev_offset)) 0 list (makes l list o words m is).chain is.tells.back n (listed l list o words m is n has) more

  pub opening_footed : (parties : List Party) (lines : List (Option HeldLine)) (debts : List Debt) → AreFree parties lines debts → Each (λ p. p.since ≤ 0) parties
      → IsFooted (record { world = opened_world l words parties m; lines = lines; debts = debts })
  opening_footed parties lines debts free since =
      let w = opened_world l words parties m in
      let rest = opening_at_rest l list o words m is parties free.idle since in
      free_footed (record { world = w; lines = lines; debts = debts }) free (rest_law w rest) fits
      (λ c j here low. inl (line_zero c j)) follow
      (none_in_order _ _ _ not_gone)
      below
    where
      not_gone : (n : ℕ) → status_in l words n ≡ gone_status → ⊥
      not_gone n gone = ⊎_elim
          (λ (here : n < l.nodes). let few = status_few l list o words m is n here in omega arith)
          (λ (past : l.nodes ≤ n). let none = status_past l words n past in omega arith)
          (cases_lt n l.nodes)

pub opening_is_footed : OpeningIsFooted
opening_is_footed l list o words m parties lines debts is free since = opening_footed l list o words m is parties lines debts free since
