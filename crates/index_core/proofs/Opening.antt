-- The words of a recovered image are an index, of which no party has made a call yet.
use Rattle.std.proofs.Common.{◌≡◌, ℕ, zero, suc, ◌+◌, ◌<◌, ◌≤◌, cond, List, [], map, refl, sym, ap, ◌∙◌, subst, arith}
use Rattle.std.specs.Prelude.{Some, None}
use Rattle.std.proofs.lemmas.Bool.{ne_eqb}
use Rattle.std.proofs.lemmas.List.{take_all}
use mathlib.Core.Option.{some}
use lib.ListN.{get_elem?}
use Rattle.cat_key.specs.declared.Pair.{Pair}
use Rattle.cat_history.specs.Maps.{map_of}
use Rattle.cat_history.specs.Writes.{after_all}
use Rattle.pm_words.specs.Codes.{gone_status}
use Rattle.pm_words.specs.declared.layout.Layout.{Layout}
use Rattle.pm_words.specs.Locations.{Header, Volatile, Cached, at}
use Rattle.version_lock.specs.declared.TheConstants.{LAST_COUNT}
use Rattle.data_node.specs.Lists.{ListNode}
use Rattle.pm_words.specs.Offsets.{stamp_offset, generation_offset}
use Rattle.index_law.specs.Anchors.{anchors_of, gone_nodes}
use Rattle.index_law.specs.Facts.{Facts}
use Rattle.index_law.specs.Footed.{AreFree}
use Rattle.index_law.specs.Worlds.{Party, facts}
use Rattle.index_law.specs.Lawful.{Each, HasNames}
use Rattle.index_law.proofs.Starts.{rest_law}
use Rattle.updater.specs.updater_row_law.proofs.RowColumns.{column-here}
use Rattle.index_opening_law.specs.image_recovery_law.specs.Columns.{Columns}
use Rattle.index_opening_law.specs.Openings.{IsOpening, IsUnlocked}
use Rattle.index_opening_law.proofs.Opened.{opening_is_at_rest, opening_has_list, opening_is_unlocked}
use Rattle.index_opening_law.proofs.Footing.{opening_is_footed}
use Rattle.index_opening_law.proofs.Layering.{opening_is_layered}
use Rattle.permutation_law.proofs.Columns.{made_at-here}
use Rattle.lone_hops_law.specs.lone_call_law.specs.Locks.{fewest_locks}
use Rattle.lone_hops_law.specs.lone_updater_law.specs.LoneTurns.{stamp_in}
use Rattle.index_core.specs.PartyStates.{idle_states, party_of, IsPartyState}
use Rattle.index_core.specs.declared.party.PartyState.{PartyState}
use Rattle.index_core.specs.Indexes.{IsIndex, parties_of, world}
use Rattle.index_core.specs.Opened.{IsUnused, OpeningIsIndex, OpeningIsUnused, opened_index, row_with}
use Rattle.index_core.proofs.Checks.{checks_none}
use Rattle.index_core.proofs.Footings.{line_of, debt_of, free_states}
use Rattle.index_core.proofs.Layering.{turn_of, first_turn, rest_turns, at_rest}
use Rattle.index_core.proofs.Lists.{map_from, idle-length, idle-each}
use Rattle.index_core.proofs.Permuting.{resting}

-- idle parties
module _ (n : ℕ) where
  pub idle_machine : (i : ℕ) (state : PartyState) → get_elem? (idle_states n) i ≡ some state → state.machine ≡ None
  idle_machine i state there = ap (λ (d : PartyState). d.machine) (idle-each n i state there)

  pub idle_turn : (i : ℕ) (state : PartyState) → get_elem? (idle_states n) i ≡ some state → state.turn ≡ None
  idle_turn i state there = ap (λ (d : PartyState). d.turn) (idle-each n i state there)

  pub idle_recheck : (i : ℕ) (state : PartyState) → get_elem? (idle_states n) i ≡ some state → state.recheck ≡ None
  idle_recheck i state there = ap (λ (d : PartyState). d.recheck) (idle-each n i state there)

  pub idle_free : AreFree (map party_of (idle_states n)) (map line_of (idle_states n)) (map debt_of (idle_states n))
  idle_free = free_states (idle_states n) idle_machine (λ i state there. ap (λ (d : PartyState). d.caller) (idle-each n i state there))

  pub idle_since : Each (λ p. p.since ≤ 0) (map party_of (idle_states n))
  idle_since i p there =
      let from = map_from party_of (idle_states n) i p there in
      let none : p.since ≡ 0 = ap (λ (q : Party). q.since) (sym from.2) ∙ ap (λ (d : PartyState). d.since) (idle-each n i from.0 from.1) in
      omega arith

module _ (l : Layout) (list : List ListNode) (o : Columns) (words : List ℕ) (base : List Pair) (is : IsOpening l list o words (map_of base)) where
  abbrev n : ℕ
  n = parties_of l

  pub opening_index : IsIndex (opened_index (row_with l words) base [])
  opening_index =
      let rest = opening_is_at_rest l list o words (map_of base) (map party_of (idle_states n)) is (idle_free n).idle (idle_since n) in
      let footed = opening_is_footed l list o words (map_of base) (map party_of (idle_states n)) (map line_of (idle_states n)) (map debt_of (idle_states n)) is (idle_free n) (idle_since n) in
      let first = first_turn (idle_states n) (subst (λ k. 0 < k) (sym (idle-length n)) (omega arith)) in
      let permuted = resting (opened_index (row_with l words) base []) (rest_law (world (opened_index (row_with l words) base [])) rest) (idle_machine n) (λ k here. made_at-here l words k here ∙ is.orders k here) in
      record {
        lawful = rest_law (world (opened_index (row_with l words) base [])) rest;
        whole = footed.0;
        tended = footed.1;
        layered = opening_is_layered l list o words (map_of base) (map party_of (idle_states n)) (map line_of (idle_states n)) (map debt_of (idle_states n)) (map turn_of (idle_states n)) 0 first.0 is (idle_free n) (idle_since n)
            (λ j u there. at_rest u (rest_turns (idle_states n) (idle_turn n) j u there)) first.1;
        parties = idle-length n;
        states = λ i state there. subst (IsPartyState l (at l words (Cached (Header generation_offset))) i) (sym (idle-each n i state there)) (record { caller = refl; machine = tt; op = tt; own = tt; turn = tt });
        ordered = λ i place state machine write there flies stands caller. absurd (let none : None ≡ Some write = stands in cc);
        bounded = record {
          limits = λ i e m there flies. absurd (let both : None ≡ Some m = sym (idle_machine n i e there) ∙ flies in cc);
          writers = λ p w there. absurd (let none : None ≡ Some w = there in cc);
          late = λ p q v w there here less far. absurd (let none : None ≡ Some v = there in cc);
        };
        named = λ place. subst HasNames (ap (after_all (map_of base)) (sym (take_all place [] (omega arith)))) rest.named;
        rechecks = checks_none l (at l words (Cached (Header generation_offset))) [] (idle_states n) (idle_recheck n);
        permuted = permuted.0;
        relying = permuted.1;
      }

  unlocked : IsUnlocked (world (opened_index (row_with l words) base []))
  unlocked = opening_is_unlocked l list o words (map_of base) (map party_of (idle_states n)) is

  abbrev f : Facts
  f = facts (world (opened_index (row_with l words) base []))

  fewest : (m : ℕ) → m ≤ l.nodes → fewest_locks (at l words (Cached (Header generation_offset))) f.version m ≡ LAST_COUNT
  fewest zero few = refl
  fewest (suc m) few =
      let none = (unlocked.untaken m (omega arith)).count in
      let rest = fewest m (omega arith) in
      omega arith

  none_gone : (m : ℕ) → m ≤ l.nodes → gone_nodes m f ≡ 0
  none_gone zero few = refl
  none_gone (suc m) few =
      let rest : 0 + gone_nodes m f ≡ 0 = (let before = none_gone m (omega arith) in omega arith) in
      ap (λ b. cond {A = ℕ} b 1 0 + gone_nodes m f) (ne_eqb (f.status m) gone_status (unlocked.not_gone m (omega arith))) ∙ rest

  pub opening_unused : IsUnused list (opened_index (row_with l words) base [])
  opening_unused = record {
    quiet = record { calls = idle_machine n; turns = idle_turn n; rechecks = idle_recheck n };
    anchors = ap anchors_of (opening_has_list l list o words (map_of base) is);
    locks = fewest l.nodes (omega arith);
    gone = none_gone l.nodes (omega arith);
    stamps = λ k here. low k here;
  }
    where
      low : (k : ℕ) → k < l.nodes → stamp_in (world (opened_index (row_with l words) base [])) k ≤ 1
      low k here = let none : stamp_in (world (opened_index (row_with l words) base [])) k ≡ 0 = column-here l words l.nodes (λ m. Volatile m stamp_offset) k here ∙ is.tells.stamps k here in omega arith

pub opening_is_index : OpeningIsIndex
opening_is_index l list o words base is = opening_index l list o words base is

pub opening_is_unused : OpeningIsUnused
opening_is_unused l list o words base is = opening_unused l list o words base is
