-- A lone call that was turned back, and is tried again behind a turn of the updater.
use Rattle.std.proofs.Common.{◌≡◌, ◌≢◌, ℕ, ◌+◌, ◌*◌, ◌/◌, ◌%◌, ◌<◌, ◌≤◌, ◌==◌, ◌⊎◌, inl, inr, ⊎_elim, cond, List}
use Rattle.std.proofs.Common.{◌++◌, length, slice_set, nat_le, not, refl, sym, ap, ◌∙◌, subst, arith}
use Rattle.std.specs.Prelude.{None, IsSome, IsSomeAnd, Bool, true, false, ◌&&◌}
use Rattle.std.specs.FinMap.{keys}
use Rattle.std.specs.List.{filter}
use Rattle.std.proofs.lemmas.Bool.{cases_eq, eq-eqb, ne_eqb, eqb-true, leb-true, le-leb, false_from_ne_true}
use mathlib.Core.Option.{some, some-injective}
use lib.ListN.{get_elem?}
use Rattle.pm_words.specs.Codes.{free_status, live_status, gone_status}
use Rattle.pm_words.specs.declared.again.Again.{Again}
use Rattle.pm_words.specs.declared.again.Again.TheVariants as again
use Rattle.pm_words.specs.declared.layout.Layout.{Layout}
use Rattle.pm_words.specs.Locations.{Cached}
use Rattle.pm_words.specs.Offsets.{next_offset, state_offset}
use Rattle.cat_history.specs.Maps.{Map, at, map_of}
use Rattle.cat_history.specs.Writes.{after_all}
use Rattle.version_lock.specs.Versions.{IsWorn, is_worn_word}
use Rattle.version_lock.proofs.WordTests.{worn_word, fresh_word}
use Rattle.data_node.specs.Lists.{ListNode, target_from, key_of}
use Rattle.data_node.proofs.ListLemmas.{target_in}
use Rattle.call_stages.specs.declared.once.Once.{Once}
use Rattle.call_stages.specs.declared.once.Once.TheVariants as once
use Rattle.call_stages.specs.declared.once.Placed.{Placed}
use Rattle.node_ops.specs.Asked.{name_asked}
use Rattle.shapes.specs.Anchors.{Anchors, splits, put_anchors, merges, del_anchors}
use Rattle.shapes.proofs.Agreements.{and-first, and-second}
use Rattle.index_law.specs.Facts.{Facts, status_in, version_in, spot_in}
use Rattle.index_law.specs.Lines.{line_in}
use Rattle.index_law.specs.Worlds.{Party, World, facts}
use Rattle.index_law.specs.Anchors.{anchors_of, anchors_in}
use Rattle.index_law.proofs.Noting.{line-here}
use Rattle.index_law.proofs.Parties.{set_here}
use Rattle.index_law.proofs.Starts.{listed_within}
use Rattle.lone_hops_law.specs.lone_call_law.specs.LoneCalls.{FindsFull, IsAnswered}
use Rattle.lone_hops_law.specs.lone_call_law.specs.Merging.{NextIsWorn, next_node}
use Rattle.lone_hops_law.specs.lone_call_law.specs.Splitting.{LacksFree, LacksLine}
use Rattle.lone_hops_law.specs.lone_call_law.specs.There.{IsUnmoved}
use Rattle.lone_hops_law.specs.lone_call_law.proofs.Locks.{worn_has_none}
use Rattle.updater_law.specs.Facts.{TurnFacts}
use Rattle.updater.specs.updater_row_law.specs.Columns.{line_count, line_word}
use Rattle.updater.specs.updater_row_law.proofs.RowColumns.{column-here}
use Rattle.index_image_law.specs.index_layer_law.specs.Layers.{IsLayered}
use Rattle.index_image_law.specs.index_layer_law.proofs.FactTies.{facts_tie}
use Rattle.lone_hops_law.specs.lone_updater_law.specs.LoneTurns.{line_state, stamp_in, stamp_then, is_worn, frees_node}
use Rattle.lone_hops_law.specs.lone_updater_law.proofs.Ending.{gone_are_held_back}
use Rattle.updater.specs.declared.terms.Turned.{Turned}
use Rattle.index_core.specs.declared.party.PartyState.{PartyState}
use Rattle.index_core.specs.declared.party.CoreCall.{CoreCall}
use Rattle.index_core.specs.declared.party.CoreCall.TheVariants as call
use Rattle.index_core.specs.CoreCalls.{IsGetCall, op_of, limit_of, count_of}
use Rattle.index_core.specs.PartyStates.{party_of}
use Rattle.lone_hops_law.proofs.Short.{empty_is_short}
use Rattle.index_core.specs.Indexes.{Index, IsIndex, layered, map_of_index, world}
use Rattle.index_core.specs.Lone.{HasNoCalls, HasShortWays, IsQuiet, IsStill, ComesFree, LacksNode, FindsFullNode}
use Rattle.index_core.specs.Lone.{FindsNoRoom, FindsWornNode, HasSameList, IsMadeAgain, NeedsNoTurn, IsOver}
use Rattle.index_core.specs.Lone.{IsWholeAnswer, KeepsStamps, LeavesList, LoseAtMost, MergesFor, MergesNothing}
use Rattle.index_core.specs.Lone.{SplitsFor, SplitsNothing, TakesEachLock, TakesLocks, TriesAlone, TriesBehindTurn}
use Rattle.index_core.specs.Lone.{alone_writes, lacks_line, lacks_node, locks_left, most_tries, needs_split, node_for}
use Rattle.index_core.specs.Lone.{state_tried, whole_of}
use Rattle.index_core.specs.Turns.{TurnsAlone}
use Rattle.index_core.specs.Weights.{weight_of, added_by}
use Rattle.cat_history.specs.declared.op.NameOp.{NameOp}
use Rattle.index_core.proofs.WornNodes.{worn_found, worn_target}
use Rattle.index_core.proofs.Alone.{IsSwept, Ran, answered_then, full_again_if, gets_once, late_was, on_name, one_try, two_tries}
use Rattle.index_core.proofs.Lists.{set_twice}
use Rattle.index_core.proofs.SplitAnswers.{lacks_told, split_told}
use Rattle.index_core.proofs.Quiet.{quiet_is_still, rests, can_walk}

-- a node with a stamp is GONE
pub stamped_are_gone : (s : Index) → IsLayered (layered s) → (n : ℕ) → stamp_in (world s) n ≢ 0 → (facts (world s)).status n ≡ gone_status
stamped_are_gone s is n some_stamp =
    let active = is.active in
    let row = is.rows active.0 active.1 active.2 active.3 in
    sym (ap (λ (f : TurnFacts). f.status n) (facts_tie (world s) is.holder active.1)) ∙ (row.law.marked n some_stamp).0

worn_or_fresh : (v g : ℕ) → IsWorn v g ⊎ (IsWorn v g → ⊥)
worn_or_fresh v g = elim (is_worn_word v g) as (λ b. is_worn_word v g ≡ b → IsWorn v g ⊎ (IsWorn v g → ⊥)) [
  | true ↦ λ is. inl (worn_word v g is)
  | false ↦ λ is. inr (fresh_word v g is)
] refl

not_worn : (v g : ℕ) → (IsWorn v g → ⊥) → is_worn_word v g ≡ false
not_worn v g fresh = elim (is_worn_word v g) as (λ b. is_worn_word v g ≡ b → b ≡ false) [
  | true ↦ λ is. absurd (fresh (worn_word v g is))
  | false ↦ λ is. refl
] refl

-- a stamp that a turn leaves low was low, and the other way round
was_low : (w : World) (n : ℕ) → stamp_then w 1 n ≤ 1 → stamp_in w n ≤ 1
was_low w n = ⊎_elim
    (λ (none : stamp_in w n ≡ 0). λ low. omega arith)
    (λ (some_stamp : stamp_in w n ≢ 0). subst (λ k. k ≤ 1 → stamp_in w n ≤ 1) (sym (ap (λ b. cond b 1 (stamp_in w n)) (ne_eqb (stamp_in w n) 0 some_stamp))) (λ low. low))
    (cases_eq (stamp_in w n) 0)

is_low : (w : World) (n : ℕ) → stamp_in w n ≤ 1 → stamp_then w 1 n ≤ 1
is_low w n low = elim (stamp_in w n == 0) as (λ b. cond b 1 (stamp_in w n) ≤ 1) [ true ↦ omega arith | false ↦ low ]

-- Why a call is made again behind a turn.
pub record WaitsForTurn (s : Index) (i : ℕ) (c : CoreCall) : Type 0 where
  unworn : FindsWornNode c s → ⊥
  below : IsOver c s → ⊥
  again : IsMadeAgain i c s
  pub turned : NeedsNoTurn i c s → ⊥

-- What a call was turned back with: it is made again, and has changed nothing but the version word of its node.
pub record TurnedBack (s s1 : Index) (i : ℕ) (c : CoreCall) : Type 0 where
  pub waits : WaitsForTurn s i c
  history : s1.history ≡ s.history
  list : HasSameList s s1
  unmoved : IsUnmoved s.layout s.words s1.words (node_for s (name_asked (op_of c)))

module _ (s s1 : Index) (i : ℕ) (c : CoreCall) (is : IsIndex s) (idle : HasNoCalls s) (state : PartyState) (caller : state.caller ≡ i) where
  needs_line : (c : CoreCall) → Rattle.lone_hops_law.specs.lone_call_law.specs.LoneCalls.NeedsLine (world s) (op_of c) → LacksLine s.layout s.words i → IsMadeAgain i c s
  needs_line (call.Put name value limit) needs lacks = full_again_if s i (call.Put name value limit) (rests s is idle) needs
  needs_line (call.Del name limit) needs lacks = (needs, lacks)
  needs_line (call.Get name) needs lacks = absurd needs
  needs_line (call.Part low count) needs lacks = absurd needs
  needs_line (call.Recheck node version) needs lacks = absurd needs
  needs_line (call.Turn stamp release) needs lacks = absurd needs

  -- a call that needs no turn has a line, and a put a node
  lined : (c : CoreCall) → Rattle.lone_hops_law.specs.lone_call_law.specs.LoneCalls.NeedsLine (world s) (op_of c) → NeedsNoTurn i c s → LacksLine s.layout s.words i → ⊥
  lined (call.Put name value limit) needs has lacks = lacks has.0.number has.0.within has.0.empty
  lined (call.Del name limit) needs has lacks = lacks has.number has.within has.empty
  lined (call.Get name) needs has lacks = needs
  lined (call.Part low count) needs has lacks = needs
  lined (call.Recheck node version) needs has lacks = needs
  lined (call.Turn stamp release) needs has lacks = needs

  noded : (c : CoreCall) → FindsFull (world s) (op_of c) → NeedsNoTurn i c s → LacksFree s.layout s.generation s.words → ⊥
  noded (call.Put name value limit) full has lacks = has.1.unworn (lacks has.1.node has.1.within has.1.free)
  noded (call.Del name limit) full has lacks = full
  noded (call.Get name) full has lacks = full
  noded (call.Part low count) full has lacks = full
  noded (call.Recheck node version) full has lacks = full
  noded (call.Turn stamp release) full has lacks = full

  pub turned_back : (r : Once Placed) → (lacks_line r ≡ true) ⊎ (lacks_node r ≡ true) → IsAnswered (world s) (op_of c) (limit_of c) (world s1) (party_of state) r → TurnedBack s s1 i c
  turned_back (once.Again again.LogFull) lacks (unworn, below, needs, lacks_lines, same, kept, unmoved) = record {
    waits = record {
      unworn = unworn;
      below = λ over. below (late_was (limit_of c) (length s.history) over);
      again = needs_line c needs (subst (LacksLine s.layout s.words) caller lacks_lines);
      turned = λ none. lined c needs none (subst (LacksLine s.layout s.words) caller lacks_lines);
    };
    history = same;
    list = kept.0;
    unmoved = unmoved;
  }
  turned_back (once.Again again.NoFree) lacks (unworn, below, full, has, none, same, kept, unmoved) = record {
    waits = record {
      unworn = unworn;
      below = λ over. below (late_was (limit_of c) (length s.history) over);
      again = full_again_if s i c (rests s is idle) full;
      turned = λ has_both. noded c full has_both none;
    };
    history = same;
    list = kept.0;
    unmoved = unmoved;
  }
  turned_back (once.Again (again.NeedsSplit n)) lacks end = absurd (⊎_elim (λ (e : false ≡ true). cc) (λ (e : false ≡ true). cc) lacks)
  turned_back (once.Again (again.Locked n word)) lacks end = absurd end
  turned_back (once.Again (again.Moved n first second)) lacks end = absurd end
  turned_back (once.Again (again.Hops count)) lacks end = absurd end
  turned_back (once.Again (again.Held word)) lacks end = absurd end
  turned_back (once.Again (again.Epoch first second)) lacks end = absurd end
  turned_back (once.Done placed) lacks end = absurd (⊎_elim (λ (e : false ≡ true). cc) (λ (e : false ≡ true). cc) lacks)
  turned_back (once.Spent clock) lacks end = absurd (⊎_elim (λ (e : false ≡ true). cc) (λ (e : false ≡ true). cc) lacks)
  turned_back (once.Worn node word) lacks end = absurd (⊎_elim (λ (e : false ≡ true). cc) (λ (e : false ≡ true). cc) lacks)

-- An index behind so many tries of a call, each with a turn of the updater behind it: all that the call's answer rests on
-- is as before its first try.
pub record Later (s0 s : Index) (i : ℕ) (c : CoreCall) (tries : ℕ) : Type 0 where
  state : PartyState
  there : get_elem? s0.states i ≡ some state
  waits : WaitsForTurn s0 i c
  layout : s.layout ≡ s0.layout
  generation : s.generation ≡ s0.generation
  base : s.base ≡ s0.base
  history : s.history ≡ s0.history
  now : PartyState
  at_now : get_elem? s.states i ≡ some now
  is_now : (since : ℕ) (r : Once Placed) → state_tried now since r ≡ state_tried state since r
  now_index : now.index ≡ state.index
  states : (d : PartyState) → slice_set s.states i d ≡ slice_set s0.states i d
  list : HasSameList s0 s
  room : LacksNode s0 → LacksNode s
  lacked : LacksNode s → LacksNode s0
  next : IsSome (limit_of c) → NextIsWorn (world s0) (name_asked (op_of c)) → NextIsWorn (world s) (name_asked (op_of c))
  back : IsSome (limit_of c) → (FindsWornNode c s → ⊥) → NextIsWorn (world s) (name_asked (op_of c)) → NextIsWorn (world s0) (name_asked (op_of c))
  each : LoseAtMost tries s0 s
  locks : locks_left s0 ≤ locks_left s + tries
  stamps : KeepsStamps s0 s
  short : HasShortWays s
  weighs : weight_of s ≤ weight_of s0

-- a turn that is made alone leaves ways short
pub turned_short : (old new : Index) (stamp release : ℕ) (answer : Turned) → TurnsAlone old stamp release answer new → IsIndex new → IsQuiet new → HasShortWays new
turned_short old new stamp release answer turned is quiet = empty_is_short (layered new) is.layered (can_walk new is quiet).quiet turned.lone.empty

-- one try that was turned back, and a turn
module _ (s s1 s2 : Index) (i : ℕ) (c : CoreCall) (answer : Once Placed) (turned : Turned) (is : IsIndex s) (idle : HasNoCalls s) (is2 : IsIndex s2) (quiet2 : IsQuiet s2) (t : TriesAlone s i c s1 answer) (b : TurnedBack s s1 i c) (u : TurnsAlone s1 1 1 turned s2)
    (each : LoseAtMost 1 s s1) (locks : locks_left s ≤ locks_left s1 + 1) (adds_nothing : weight_of s1 ≤ weight_of s)
    (tried_now : (since : ℕ) (r : Once Placed) → state_tried (state_tried t.state (length s.history) answer) since r ≡ state_tried t.state since r) (index_now : (state_tried t.state (length s.history) answer).index ≡ t.state.index) where
  abbrev f : Facts
  f = facts (world s)

  abbrev f2 : Facts
  f2 = facts (world s2)

  abbrev target : ℕ
  target = node_for s (name_asked (op_of c))

  layout2 : s2.layout ≡ s.layout
  layout2 = ap (λ (v : Index). v.layout) u.is ∙ t.layout

  generation2 : s2.generation ≡ s.generation
  generation2 = ap (λ (v : Index). v.generation) u.is ∙ t.generation

  listed_target : f.status target ≡ live_status
  listed_target = is.lawful.live.live target (target_in 0 f.list (key_of (name_asked (op_of c))))

  status1 : (n : ℕ) → (facts (world s1)).status n ≡ f.status n
  status1 n = ap (λ (l : Layout). status_in l s1.words n) t.layout ∙ b.unmoved.statuses n

  version1 : (n : ℕ) → n ≢ target → (facts (world s1)).version n ≡ f.version n
  version1 n other = ap (λ (l : Layout). version_in l s1.words n) t.layout ∙ b.unmoved.versions n other

  stamp1 : (n : ℕ) → stamp_in (world s1) n ≡ stamp_in (world s) n
  stamp1 n = ap (λ (stamp : ℕ → ℕ). stamp n) t.stamps

  version2 : (n : ℕ) → f2.version n ≡ (facts (world s1)).version n
  version2 n = ap (λ (g : Facts). g.version n) u.lone.kept.facts

  version_same : (n : ℕ) → n ≢ target → f2.version n ≡ f.version n
  version_same n other = version2 n ∙ version1 n other

  -- a node that comes free isn't the call's
  apart : (n : ℕ) → ComesFree s n → n ≢ target
  apart n comes same = ⊎_elim
      (λ (free : f.status n ≡ free_status). let no : free_status ≡ live_status = sym free ∙ ap f.status same ∙ listed_target in omega arith)
      (λ (gone : (f.status n ≡ gone_status) × (stamp_in (world s) n ≤ 1)). let no : gone_status ≡ live_status = sym gone.0 ∙ ap f.status same ∙ listed_target in omega arith)
      comes

  worn_then : (n : ℕ) → n ≢ target → IsWorn (f.version n) s.generation → IsWorn (f2.version n) s2.generation
  worn_then n other worn = subst (λ (q : ℕ × ℕ). IsWorn q.0 q.1) (λ k. (sym (version_same n other) k, sym generation2 k)) worn

  worn_before : (n : ℕ) → n ≢ target → IsWorn (f2.version n) s2.generation → IsWorn (f.version n) s.generation
  worn_before n other worn = subst (λ (q : ℕ × ℕ). IsWorn q.0 q.1) (λ k. (version_same n other k, generation2 k)) worn

  -- what comes free after the turn came free before it
  came_free : (n : ℕ) → n < s1.layout.nodes → ComesFree s2 n → ComesFree s n
  came_free n here comes = by (frees_node (world s1) 1 1 n) refl
    where
      by : (b : Bool) → frees_node (world s1) 1 1 n ≡ b → ComesFree s n
      by true frees =
          let gone : ((facts (world s1)).status n == gone_status) ≡ true = and-first _ _ frees in
          let low : nat_le (stamp_then (world s1) 1 n) 1 ≡ true = and-first _ _ (and-second _ _ frees) in
          let stamp = stamp1 n in
          let was = was_low (world s1) n (leb-true (stamp_then (world s1) 1 n) 1 low) in
          inr (sym (status1 n) ∙ eqb-true ((facts (world s1)).status n) gone_status gone, omega arith)
      by false frees =
          let same : f2.status n ≡ (facts (world s1)).status n = u.lone.statuses n here ∙ ap (λ b. cond b free_status ((facts (world s1)).status n)) frees in
          ⊎_elim
          (λ (free : f2.status n ≡ free_status). inl (sym (status1 n) ∙ sym same ∙ free))
          (λ (gone : (f2.status n ≡ gone_status) × (stamp_in (world s2) n ≤ 1)).
          let stamp = stamp1 n in
          let left = u.lone.stamps n here gone.0 in
          let low = gone.1 in
          let was = was_low (world s1) n (omega arith) in
          inr (sym (status1 n) ∙ sym same ∙ gone.0, omega arith))
          comes

  -- and one that came free is FREE then, if it can be locked
  is_free : (n : ℕ) → n < s1.layout.nodes → ComesFree s n → (IsWorn (f.version n) s.generation → ⊥) → f2.status n ≡ free_status
  is_free n here comes fresh = by (frees_node (world s1) 1 1 n) refl
    where
      by : (b : Bool) → frees_node (world s1) 1 1 n ≡ b → f2.status n ≡ free_status
      by true frees = u.lone.statuses n here ∙ ap (λ b. cond b free_status ((facts (world s1)).status n)) frees
      by false frees = ⊎_elim
          (λ (free : f.status n ≡ free_status). u.lone.statuses n here ∙ ap (λ b. cond b free_status ((facts (world s1)).status n)) frees ∙ status1 n ∙ free)
          (λ (gone : (f.status n ≡ gone_status) × (stamp_in (world s) n ≤ 1)). absurd (
          let stamp = stamp1 n in
          let low = gone.1 in
          let unworn : is_worn (world s1) n ≡ false = ap (λ (v : ℕ). is_worn_word v s1.generation) (version1 n (apart n comes)) ∙ ap (is_worn_word (f.version n)) t.generation ∙ not_worn (f.version n) s.generation fresh in
          let first = eq-eqb ((facts (world s1)).status n) gone_status (status1 n ∙ gone.0) in
          let second = le-leb (stamp_then (world s1) 1 n) 1 (is_low (world s1) n (omega arith)) in
          let yes : frees_node (world s1) 1 1 n ≡ true = (λ k. first k && (second k && not (unworn k))) in
          let no : true ≡ false = sym yes ∙ frees in cc))
          comes

  room_then : LacksNode s → LacksNode s2
  room_then lacks n here comes =
      let within : n < s1.layout.nodes = subst (λ (l : Layout). n < l.nodes) (ap (λ (v : Index). v.layout) u.is) here in
      let came = came_free n within comes in
      worn_then n (apart n came) (lacks n (subst (λ (l : Layout). n < l.nodes) layout2 here) came)

  room_before : LacksNode s2 → LacksNode s
  room_before lacks n here comes = ⊎_elim
      (λ (worn : IsWorn (f.version n) s.generation). worn)
      (λ (fresh : IsWorn (f.version n) s.generation → ⊥).
      let within : n < s1.layout.nodes = subst (λ (l : Layout). n < l.nodes) (sym t.layout) here in
      worn_before n (apart n comes) (lacks n (subst (λ (l : Layout). n < l.nodes) (sym layout2) here) (inl (is_free n within comes fresh))))
      (worn_or_fresh (f.version n) s.generation)

  -- the log is empty, and what comes free is FREE
  pub swept : IsSwept s2
  swept = record {
    lines = λ caller here lacks.
        let l = s2.layout in
        let j = 8 * caller in
        let tie : line_state (world s2) j ≡ line_in l s2.words (j / 8) (j % 8) state_offset =
        column-here l s2.words (line_count l) (λ k. Cached (line_word state_offset k)) j (omega arith) ∙ sym (line-here l s2.words (j / 8) (j % 8) state_offset (omega arith, omega arith, omega arith)) in
        let place : Path (ℕ × ℕ) (j / 8, j % 8) (caller, 0) = λ k. (let one : (8 * caller) / 8 ≡ caller = omega arith in one k, let none : (8 * caller) % 8 ≡ 0 = omega arith in none k) in
        lacks 0 (omega arith) (sym (ap (λ (q : ℕ × ℕ). line_in l s2.words q.0 q.1 state_offset) place) ∙ sym tie ∙ u.lone.empty j);
    freed = λ n here comes. ⊎_elim
        (λ (free : f2.status n ≡ free_status). inl free)
        (λ (gone : (f2.status n ≡ gone_status) × (stamp_in (world s2) n ≤ 1)).
        let low = gone.1 in
        inr (⊎_elim
        (λ (worn : IsWorn (f2.version n) s2.generation). worn)
        (λ (high : 1 < stamp_in (world s2) n). absurd (omega arith))
        (gone_are_held_back (layered s1) 1 1 turned (layered s2) n u.lone (subst (λ (l : Layout). n < l.nodes) (ap (λ (v : Index). v.layout) u.is) here) gone.0)))
        comes;
  }

  list2 : HasSameList s s2
  list2 = ap (λ (g : Facts). g.list) u.lone.kept.facts ∙ b.list

  -- the next node is the same, and its word, too, unless it is the call's own
  next_same : next_node (world s2) (name_asked (op_of c)) ≡ next_node (world s) (name_asked (op_of c))
  next_same =
      ap (λ (g : Facts). g.now (target_from 0 g.list (key_of (name_asked (op_of c)))) next_offset) u.lone.kept.facts
      ∙ ap (λ (l : List ListNode). (facts (world s1)).now (target_from 0 l (key_of (name_asked (op_of c)))) next_offset) b.list
      ∙ ap (λ (l : Layout). spot_in l s1.words target next_offset) t.layout ∙ b.unmoved.nexts target

  next_then : IsSome (limit_of c) → NextIsWorn (world s) (name_asked (op_of c)) → NextIsWorn (world s2) (name_asked (op_of c))
  next_then writes worn = ⊎_elim
      (λ (own : next_node (world s) (name_asked (op_of c)) ≡ target). absurd (b.waits.unworn (worn_found (world s) c writes (subst (λ (n : ℕ). IsWorn (f.version n) s.generation) own worn))))
      (λ (other : next_node (world s) (name_asked (op_of c)) ≢ target). subst (λ (n : ℕ). IsWorn (f2.version n) s2.generation) (sym next_same) (worn_then (next_node (world s) (name_asked (op_of c))) other worn))
      (cases_eq (next_node (world s) (name_asked (op_of c))) target)

  next_before : IsSome (limit_of c) → (FindsWornNode c s2 → ⊥) → NextIsWorn (world s2) (name_asked (op_of c)) → NextIsWorn (world s) (name_asked (op_of c))
  next_before writes unworn worn =
      let here : IsWorn (f2.version (next_node (world s) (name_asked (op_of c)))) s2.generation = subst (λ (n : ℕ). IsWorn (f2.version n) s2.generation) next_same worn in
      ⊎_elim
      (λ (own : next_node (world s) (name_asked (op_of c)) ≡ target).
      absurd (unworn (worn_found (world s2) c writes (subst (λ (n : ℕ). IsWorn (f2.version n) s2.generation) (own ∙ ap (λ (l : List ListNode). target_from 0 l (key_of (name_asked (op_of c)))) (sym list2)) here))))
      (λ (other : next_node (world s) (name_asked (op_of c)) ≢ target). worn_before (next_node (world s) (name_asked (op_of c))) other here)
      (cases_eq (next_node (world s) (name_asked (op_of c))) target)

  -- stamps are 1 at most, or as they were
  stamps2 : KeepsStamps s s2
  stamps2 n here = ⊎_elim
      (λ (kept : stamp_in (world s2) n ≡ stamp_in (world s1) n). inl (kept ∙ stamp1 n))
      (λ (low : stamp_in (world s2) n ≤ 1). inr low)
      (u.stamps n (subst (λ (l : Layout). n < l.nodes) (sym t.layout) here))

  same_locks : locks_left s2 ≡ locks_left s1
  same_locks = ap locks_left u.is ∙ (λ k. Rattle.lone_hops_law.specs.lone_call_law.specs.Locks.fewest_locks s1.generation (λ n. (version_in_record n) k) s1.layout.nodes)
    where
      version_in_record : (n : ℕ) → version_in s1.layout s2.words n ≡ version_in s1.layout s1.words n
      version_in_record n = ap (λ (l : Layout). version_in l s2.words n) (sym (ap (λ (v : Index). v.layout) u.is)) ∙ version2 n

  pub later_once : Later s s2 i c 1
  later_once = record {
    state = t.state;
    there = t.there;
    waits = b.waits;
    layout = layout2;
    generation = generation2;
    base = ap (λ (v : Index). v.base) u.is ∙ t.base;
    history = ap (λ (v : Index). v.history) u.is ∙ b.history;
    now = state_tried t.state (length s.history) answer;
    at_now = ap (λ (v : Index). get_elem? v.states i) u.is ∙ ap (λ (l : List PartyState). get_elem? l i) t.states ∙ set_here s.states i (state_tried t.state (length s.history) answer) t.state t.there;
    is_now = tried_now;
    now_index = index_now;
    states = λ d. ap (λ (v : Index). slice_set v.states i d) u.is ∙ ap (λ (l : List PartyState). slice_set l i d) t.states ∙ set_twice s.states i (state_tried t.state (length s.history) answer) d;
    list = list2;
    room = room_then;
    lacked = room_before;
    next = next_then;
    back = next_before;
    each = λ n. subst (λ (q : ℕ × ℕ). Rattle.lone_hops_law.specs.lone_call_law.specs.Locks.locks_of s.generation (f.version n) ≤ Rattle.lone_hops_law.specs.lone_call_law.specs.Locks.locks_of q.0 q.1 + 1)
        (λ k. (sym (ap (λ (v : Index). v.generation) u.is) k, sym (version2 n) k)) (each n);
    locks = let same = same_locks in omega arith;
    stamps = stamps2;
    short = turned_short s1 s2 1 1 turned u is2 quiet2;
    weighs = let less = u.weighs in omega arith;
  }

-- One such index behind another.
later_then : (s0 s s2 : Index) (i : ℕ) (c : CoreCall) (tries : ℕ) → Later s0 s i c tries → Later s s2 i c 1 → Later s0 s2 i c (tries + 1)
later_then s0 s s2 i c tries first then =
    let same : then.state ≡ first.now = some-injective _ _ (sym then.there ∙ first.at_now) in
    record {
      state = first.state;
      there = first.there;
      waits = first.waits;
      layout = then.layout ∙ first.layout;
      generation = then.generation ∙ first.generation;
      base = then.base ∙ first.base;
      history = then.history ∙ first.history;
      now = then.now;
      at_now = then.at_now;
      is_now = λ since r. then.is_now since r ∙ ap (λ (d : PartyState). state_tried d since r) same ∙ first.is_now since r;
      now_index = then.now_index ∙ ap (λ (d : PartyState). d.index) same ∙ first.now_index;
      states = λ d. then.states d ∙ first.states d;
      list = then.list ∙ first.list;
      room = λ lacks. then.room (first.room lacks);
      lacked = λ lacks. first.lacked (then.lacked lacks);
      next = λ writes worn. then.next writes (first.next writes worn);
      back = λ writes unworn worn. first.back writes then.waits.unworn (then.back writes unworn worn);
      each = λ n. let a = first.each n in let b = then.each n in omega arith;
      locks = let a = first.locks in let b = then.locks in omega arith;
      stamps = λ n here. ⊎_elim
          (λ (kept : stamp_in (world s2) n ≡ stamp_in (world s) n). ⊎_elim
          (λ (same_stamp : stamp_in (world s) n ≡ stamp_in (world s0) n). inl (kept ∙ same_stamp))
          (λ (low : stamp_in (world s) n ≤ 1). inr (omega arith))
          (first.stamps n here))
          (λ (low : stamp_in (world s2) n ≤ 1). inr low)
          (then.stamps n (subst (λ (l : Layout). n < l.nodes) (sym first.layout) here));
      short = then.short;
      weighs = let a = first.weighs in let b = then.weighs in omega arith;
    }

-- What tries from there on answer and leave is what all tries do.
module _ (s0 s s' : Index) (i : ℕ) (c : CoreCall) (before tries : ℕ) (answer : Once Placed) (is : IsIndex s) (quiet : IsQuiet s0 → IsQuiet s) (o : Later s0 s i c before) (some_try : 1 ≤ tries) (ran : Ran s s' i c answer tries) where
  abbrev name : List ℕ
  name = name_asked (op_of c)

  map_same : map_of_index s ≡ map_of_index s0
  map_same = λ k. after_all (map_of (o.base k)) (o.history k)

  -- what the shape of a call goes by
  reads : Path (Layout × (Map × Anchors)) (s.layout, (map_of_index s, anchors_in (world s))) (s0.layout, (map_of_index s0, anchors_in (world s0)))
  reads = λ k. (o.layout k, (map_same k, anchors_of (o.list k)))

  split_was : (d : CoreCall) → SplitsFor d s s' → SplitsFor d s0 s'
  split_was (call.Put n value limit) cut =
      subst (λ (q : Layout × (Map × Anchors)). (splits q.0.slots q.1.0 q.1.1 n ≡ true) × (anchors_in (world s') ≡ put_anchors q.0.slots q.1.0 q.1.1 n)) reads cut
  split_was d cut = absurd cut

  nothing_was : (d : CoreCall) → SplitsNothing d s → SplitsNothing d s0
  nothing_was (call.Put n value limit) none = subst (λ (q : Layout × (Map × Anchors)). splits q.0.slots q.1.0 q.1.1 n ≡ false) reads none
  nothing_was d none = tt

  same_list : HasSameList s s' → HasSameList s0 s'
  same_list same = same ∙ o.list

  full_then : (n : List ℕ) → FindsFullNode n s0 → FindsFullNode n s
  full_then n full =
      subst (λ (q : Layout × (Map × List ListNode)). (at q.1.0 n ≡ None) × (length (filter (λ other. target_from 0 q.1.1 (key_of other) == target_from 0 q.1.1 (key_of n)) (keys q.1.0)) ≡ q.0.slots))
      (sym (λ k. (o.layout k, (map_same k, o.list k)))) full

  room_then_too : (d : CoreCall) → FindsNoRoom d s0 → FindsNoRoom d s
  room_then_too (call.Put n value limit) none = (full_then n none.0, o.room none.1)
  room_then_too d none = absurd none

  no_room_before : (d : CoreCall) → IsMadeAgain i d s0 → FindsNoRoom d s → FindsNoRoom d s0
  no_room_before (call.Put n value limit) again none = (again, o.lacked none.1)
  no_room_before d again none = absurd none

  node_same : (v : Index) → HasSameList s v → node_for s name ≡ node_for v name
  node_same v same = ap (λ (l : List ListNode). target_from 0 l (key_of name)) (sym same)

  worn_none : FindsWornNode c s → locks_left s ≡ 0
  worn_none worn =
      worn_has_none s.generation (facts (world s)).version (node_for s name) s.layout.nodes
      (listed_within s.layout (facts (world s)) is.lawful.list is.lawful.row.layout (node_for s name) (target_in 0 (facts (world s)).list (key_of name))) (worn_target (world s) (op_of c) worn)

  cause_of : (r : Once Placed) → IsWholeAnswer tries s i c s' (whole_of r) → IsWholeAnswer (before + tries) s0 i c s' (whole_of r)
  cause_of (once.Worn node word) cause =
      let locks = o.locks in
      ⊎_elim
      (λ (first : FindsWornNode c s × (node ≡ node_for s name) × (word ≡ version_in s.layout s.words node) × HasSameList s s').
      let none = worn_none first.0 in
      inr (
        o.waits.again,
        omega arith,
        inl (same_list first.3),
        first.1 ∙ node_same s' first.3,
        subst (λ (q : ℕ × ℕ). IsWorn q.0 q.1) (λ k. (sym (first.2 ∙ ap (λ (n : ℕ). version_in s.layout s.words n) first.1) k, o.generation k)) (worn_target (world s) (op_of c) first.0),
      ))
      (λ (later : IsMadeAgain i c s × (locks_left s < tries) × (HasSameList s s' ⊎ SplitsFor c s s') × (node ≡ node_for s' name) × IsWorn word s.generation).
      let less = later.1 in
      inr (
        o.waits.again,
        omega arith,
        ⊎_elim (λ (same : HasSameList s s'). inl (same_list same)) (λ (cut : SplitsFor c s s'). inr (split_was c cut)) later.2,
        later.3,
        subst (λ (g : ℕ). IsWorn word g) o.generation later.4,
      ))
      cause
  cause_of (once.Spent clock) cause = absurd (o.waits.below (subst (λ (n : ℕ). IsSomeAnd (limit_of c) (λ limit. limit ≤ n)) (ap length o.history) cause.1))
  cause_of (once.Again why) cause = (o.waits.unworn, o.waits.below, no_room_before c o.waits.again cause.2)
  cause_of (once.Done placed) cause = (
    cause.0,
    (o.waits.unworn, o.waits.below, (λ none. cause.1.2 (room_then_too c none))),
    cause.2 ∙ ap (λ (m : Map). at m name) map_same,
    cause.3 ∙ ap length o.history,
    (let lands = cause.4 in record {
      last = lands.last;
      began = inr o.waits.again;
      index = lands.index;
      quiet = λ quiet0. lands.quiet (quiet quiet0);
      still = lands.still;
      layout = lands.layout ∙ o.layout;
      generation = lands.generation ∙ o.generation;
      base = lands.base ∙ o.base;
      history = lands.history ∙ o.history;
      layer = λ none. absurd (o.waits.turned none);
      short = λ _. lands.short o.short;
      tries = lands.tries;
      hops = lands.hops;
    }),
  )

  merge_was : (d : CoreCall) → ((FindsWornNode c s → ⊥)) → d ≡ c → MergesNothing d s → MergesNothing d s0
  merge_was (call.Del n limit) unworn same none = ⊎_elim
      (λ (none : merges s.layout.slots (map_of_index s) (anchors_in (world s)) n ≡ false). inl (subst (λ (q : Layout × (Map × Anchors)). merges q.0.slots q.1.0 q.1.1 n ≡ false) reads none))
      (λ (worn : NextIsWorn (world s) n).
      let asked : n ≡ name = ap (λ (e : CoreCall). name_asked (op_of e)) same in
      inr (subst (NextIsWorn (world s0)) (sym asked) (o.back (subst (λ (e : CoreCall). IsSome (limit_of e)) same refl) unworn (subst (NextIsWorn (world s)) asked worn))))
      none
  merge_was (call.Put n value limit) unworn same none = tt
  merge_was (call.Get n) unworn same none = tt
  merge_was (call.Part n count) unworn same none = tt
  merge_was (call.Recheck n version) unworn same none = tt
  merge_was (call.Turn stamp release) unworn same none = tt

  merged_was : (d : CoreCall) → d ≡ c → MergesFor d s s' → MergesFor d s0 s'
  merged_was (call.Del n limit) same merge =
      let asked : n ≡ name = ap (λ (e : CoreCall). name_asked (op_of e)) same in
      let shape = subst (λ (q : Layout × (Map × Anchors)). (merges q.0.slots q.1.0 q.1.1 n ≡ true) × (anchors_in (world s') ≡ del_anchors q.0.slots q.1.0 q.1.1 n)) reads (merge.0.0, merge.1) in
      ((shape.0, (λ worn. merge.0.1 (subst (NextIsWorn (world s)) (sym asked) (o.next (subst (λ (e : CoreCall). IsSome (limit_of e)) same refl) (subst (NextIsWorn (world s0)) asked worn))))), shape.1)
  merged_was d same merge = absurd merge

  list_of : (r : Once Placed) → IsWholeAnswer tries s i c s' (whole_of r) → LeavesList c (whole_of r) s s' → LeavesList c (whole_of r) s0 s'
  list_of (once.Worn node word) cause list = tt
  list_of (once.Spent clock) cause list = same_list list
  list_of (once.Again why) cause list = same_list list
  list_of (once.Done placed) cause list = ⊎_elim
      (λ (same : HasSameList s s' × SplitsNothing c s × MergesNothing c s). inl (same_list same.0, nothing_was c same.1, merge_was c cause.1.0 refl same.2))
      (λ (changed : SplitsFor c s s' ⊎ MergesFor c s s'). inr (⊎_elim (λ (cut : SplitsFor c s s'). inl (split_was c cut)) (λ (merge : MergesFor c s s'). inr (merged_was c refl merge)) changed))
      list

  pub ran_later : Ran s0 s' i c answer (before + tries)
  ran_later =
      let same : ran.state ≡ o.now = some-injective _ _ (sym ran.there ∙ o.at_now) in
      let index : ran.state.index ≡ o.state.index = ap (λ (d : PartyState). d.index) same ∙ o.now_index in
      record {
        state = o.state;
        there = o.there;
        named = ran.named;
        cause = cause_of answer ran.cause;
        history = ran.history ∙ (λ k. o.history k ++ alone_writes i (index k) c (whole_of answer));
        states = ran.states ∙ o.states (state_tried ran.state (length s.history) answer)
            ∙ ap (λ (d : PartyState). slice_set s0.states i (state_tried d (length s.history) answer)) same
            ∙ ap (slice_set s0.states i) (o.is_now (length s.history) answer ∙ ap (λ (n : ℕ). state_tried o.state n answer) (ap length o.history));
        reads = λ get. absurd (gets_once i s0 c get o.waits.again);
        layout = ran.layout ∙ o.layout;
        generation = ran.generation ∙ o.generation;
        base = ran.base ∙ o.base;
        list = list_of answer ran.cause ran.list;
        stamps = λ n here. ⊎_elim
            (λ (kept : stamp_in (world s') n ≡ stamp_in (world s) n). ⊎_elim
            (λ (same_stamp : stamp_in (world s) n ≡ stamp_in (world s0) n). inl (kept ∙ same_stamp))
            (λ (low : stamp_in (world s) n ≤ 1). inr (omega arith))
            (o.stamps n here))
            (λ (low : stamp_in (world s') n ≤ 1). inr low)
            (ran.stamps n (subst (λ (l : Layout). n < l.nodes) (sym o.layout) here));
        log = λ none. absurd (o.waits.turned none);
        short = λ _. ran.short o.short;
        again = inr o.waits.again;
        each_lock = λ n. let a = o.each n in let b = ran.each_lock n in omega arith;
        locks = let a = o.locks in let b = ran.locks in omega arith;
        weighs = let a = o.weighs in let b = ran.weighs in omega arith;
      }

-- How a whole call stands behind a try: how it began it, and what that answered.
pub data Begun (s0 : Index) (i : ℕ) (c : CoreCall) : Index → ℕ → Type 0 where
  at_first : Begun s0 i c s0 0
  behind_turn : {s : Index} {tries : ℕ} → Later s0 s i c tries → IsSwept s → Begun s0 i c s tries

pub record Tried (s0 s : Index) (i : ℕ) (c : CoreCall) (answer : Once Placed) (tries : ℕ) : Type 0 where
  before : Index
  begun : Begun s0 i c before tries
  index_before : IsIndex before
  quiet_before : IsQuiet s0 → IsQuiet before
  still_before : IsStill i before
  last : TriesAlone before i c s answer
  each : LoseAtMost 1 before s
  locks : locks_left before ≤ locks_left s + 1

-- its first try
pub tried_first : (s0 s : Index) (i : ℕ) (c : CoreCall) (answer : Once Placed) → IsIndex s0 → IsStill i s0 → TriesAlone s0 i c s answer → LoseAtMost 1 s0 s → locks_left s0 ≤ locks_left s + 1 → Tried s0 s i c answer 0
tried_first s0 s i c answer is0 still0 t each locks = record {
  before = s0;
  begun = at_first;
  index_before = is0;
  quiet_before = λ quiet. quiet;
  still_before = still0;
  last = t;
  each = each;
  locks = locks;
}

-- one that was turned back adds nothing, and leaves its party as it was, but for the time
abbrev pub Lacks : Once Placed → Type 0
Lacks answer = (lacks_line answer ≡ true) ⊎ (lacks_node answer ≡ true)

no_lack : {A : Type 0} → (false ≡ true) ⊎ (false ≡ true) → A
no_lack lacks = absurd (⊎_elim (λ (e : false ≡ true). cc) (λ (e : false ≡ true). cc) lacks)

turned_adds : (op : NameOp) (answer : Once Placed) → Lacks answer → added_by op answer ≡ 0
turned_adds op (once.Again why) lacks = refl
turned_adds op (once.Done placed) lacks = no_lack lacks
turned_adds op (once.Spent clock) lacks = no_lack lacks
turned_adds op (once.Worn node word) lacks = no_lack lacks

turned_state : (answer : Once Placed) → Lacks answer → (state : PartyState) (n since : ℕ) (r : Once Placed) → state_tried (state_tried state n answer) since r ≡ state_tried state since r
turned_state (once.Again why) lacks state n since r = refl
turned_state (once.Done placed) lacks state n since r = no_lack lacks
turned_state (once.Spent clock) lacks state n since r = no_lack lacks
turned_state (once.Worn node word) lacks state n since r = no_lack lacks

turned_index : (answer : Once Placed) → Lacks answer → (state : PartyState) (n : ℕ) → (state_tried state n answer).index ≡ state.index
turned_index (once.Again why) lacks state n = refl
turned_index (once.Done placed) lacks state n = no_lack lacks
turned_index (once.Spent clock) lacks state n = no_lack lacks
turned_index (once.Worn node word) lacks state n = no_lack lacks

-- another try behind a turn
module _ (s0 s s' : Index) (i : ℕ) (c : CoreCall) (answer then : Once Placed) (tries : ℕ) (t : Tried s0 s i c answer tries) (lacks : Lacks answer) (b : TriesBehindTurn s i c s' then) where
  same_caller : t.last.state.caller ≡ i
  same_caller = (t.index_before.states i t.last.state t.last.there).caller

  turned : TurnedBack t.before s i c
  turned = turned_back t.before s i c t.index_before t.still_before.calls t.last.state same_caller answer lacks t.last.answered

  light : weight_of s ≤ weight_of t.before
  light =
      let weighs = t.last.weighs in
      let none = turned_adds (op_of c) answer lacks in
      omega arith

  later : Later t.before b.between i c 1
  later = later_once t.before s b.between i c answer b.turned t.index_before t.still_before.calls b.index b.quiet t.last turned b.turn t.each t.locks light
      (turned_state answer lacks t.last.state (length t.before.history)) (turned_index answer lacks t.last.state (length t.before.history))

  pub swept_between : IsSwept b.between
  swept_between = swept t.before s b.between i c answer b.turned t.index_before t.still_before.calls b.index b.quiet t.last turned b.turn t.each t.locks light
      (turned_state answer lacks t.last.state (length t.before.history)) (turned_index answer lacks t.last.state (length t.before.history))

  pub later_begun : Later s0 b.between i c (tries + 1)
  later_begun = of t.before t.begun later
    where
      of : (v : Index) → {n : ℕ} → Begun s0 i c v n → Later v b.between i c 1 → Later s0 b.between i c (n + 1)
      of v at_first one = one
      of v (behind_turn {s = u} {tries = n} first sweeps) one = later_then s0 u b.between i c n first one

  pub tried_again : Tried s0 s' i c then (tries + 1)
  tried_again = record {
    before = b.between;
    begun = behind_turn later_begun swept_between;
    index_before = b.index;
    quiet_before = λ _. b.quiet;
    still_before = quiet_is_still i b.between b.quiet;
    last = b.tries;
    each = b.each_lock;
    locks = b.locks;
  }

  -- its caller has a log line then
  pub lines_then : i < s0.layout.callers → lacks_line then ≡ true → ⊥
  lines_then here = of then b.tries.answered
    where
      within : i < b.between.layout.callers
      within = subst (λ (l : Layout). i < l.callers) (sym later_begun.layout) here

      own : b.tries.state.caller ≡ i
      own = (b.index.states i b.tries.state b.tries.there).caller

      of : (r : Once Placed) → IsAnswered (world b.between) (op_of c) (limit_of c) (world s') (party_of b.tries.state) r → lacks_line r ≡ true → ⊥
      of (once.Again again.LogFull) (unworn, below, needs, none, same, kept, unmoved) is = swept_between.lines i within (subst (LacksLine b.between.layout b.between.words) own none)
      of (once.Again again.NoFree) end is = cc
      of (once.Again (again.NeedsSplit n)) end is = cc
      of (once.Again (again.Locked n word)) end is = cc
      of (once.Again (again.Moved n first second)) end is = cc
      of (once.Again (again.Hops count)) end is = cc
      of (once.Again (again.Held word)) end is = cc
      of (once.Again (again.Epoch first second)) end is = cc
      of (once.Done placed) end is = cc
      of (once.Spent clock) end is = cc
      of (once.Worn node word) end is = cc

-- How many turns a call makes at most.
abbrev pub most_turns : CoreCall → ℕ
most_turns (call.Put name value limit) = 2
most_turns (call.Del name limit) = 1
most_turns _ = 0

may_turn : (c : CoreCall) (s : Index) (i : ℕ) → IsMadeAgain i c s → 1 ≤ most_turns c
may_turn (call.Put name value limit) s i again = omega arith
may_turn (call.Del name limit) s i again = omega arith
may_turn (call.Get name) s i again = absurd again
may_turn (call.Part low count) s i again = absurd again
may_turn (call.Recheck node version) s i again = absurd again
may_turn (call.Turn stamp release) s i again = absurd again

full_is_put : (c : CoreCall) (w : World) → FindsFull w (op_of c) → (most_turns c ≡ 2) × (most_turns c + 2 ≤ most_tries c)
full_is_put (call.Put name value limit) w full = (refl, omega arith)
full_is_put (call.Del name limit) w full = absurd full
full_is_put (call.Get name) w full = absurd full
full_is_put (call.Part low count) w full = absurd full
full_is_put (call.Recheck node version) w full = absurd full
full_is_put (call.Turn stamp release) w full = absurd full

-- A call has a try behind each of its turns and one more, and is made four times at most.
pub tries_between : (c : CoreCall) → (most_turns c + 1 ≤ most_tries c) × (most_tries c ≤ 4)
tries_between (call.Put name value limit) = (omega arith, omega arith)
tries_between _ = (omega arith, omega arith)

-- Once a log line isn't what a call lacks any more: it was turned back for want of one at most once.
pub record HasItsLine (s0 s : Index) (i : ℕ) (c : CoreCall) (answer : Once Placed) : Type 0 where
  tries : ℕ
  tried : Tried s0 s i c answer tries
  few : tries ≤ 1
  allowed : tries ≤ most_turns c
  lined : lacks_line answer ≡ true → ⊥

pub line_at_once : (s0 s : Index) (i : ℕ) (c : CoreCall) (answer : Once Placed) → Tried s0 s i c answer 0 → lacks_line answer ≡ false → HasItsLine s0 s i c answer
line_at_once s0 s i c answer t has = record { tries = 0; tried = t; few = omega arith; allowed = omega arith; lined = λ lacks. let no : true ≡ false = sym lacks ∙ has in cc }

pub line_behind_turn : (s0 s s' : Index) (i : ℕ) (c : CoreCall) (answer then : Once Placed) → Tried s0 s i c answer 0 → lacks_line answer ≡ true → TriesBehindTurn s i c s' then → i < s0.layout.callers → HasItsLine s0 s' i c then
line_behind_turn s0 s s' i c answer then t lacks b here = record {
  tries = 1;
  tried = tried_again s0 s s' i c answer then 0 t (inl lacks) b;
  few = omega arith;
  allowed = may_turn c s0 i (later_begun s0 s s' i c answer then 0 t (inl lacks) b).waits.again;
  lined = lines_then s0 s s' i c answer then 0 t (inl lacks) b here;
}

-- And once a node isn't, or a turn didn't help.
pub record HasItsNode (s0 s : Index) (i : ℕ) (c : CoreCall) (answer : Once Placed) : Type 0 where
  tries : ℕ
  tried : Tried s0 s i c answer tries
  allowed : tries ≤ most_turns c
  lined : lacks_line answer ≡ true → ⊥
  sweeps : lacks_node answer ≡ true → IsSwept tried.before

pub node_at_once : (s0 s : Index) (i : ℕ) (c : CoreCall) (answer : Once Placed) → HasItsLine s0 s i c answer → lacks_node answer ≡ false → HasItsNode s0 s i c answer
node_at_once s0 s i c answer h has = record { tries = h.tries; tried = h.tried; allowed = h.allowed; lined = h.lined; sweeps = λ lacks. absurd (let no : true ≡ false = sym lacks ∙ has in cc) }

lacks_node_full : (w w' : World) (c : CoreCall) (p : Party) (r : Once Placed) → IsAnswered w (op_of c) (limit_of c) w' p r → lacks_node r ≡ true → FindsFull w (op_of c)
lacks_node_full w w' c p r end is = (lacks_told w (op_of c) (limit_of c) w' p r end is).2

pub node_behind_turn : (s0 s s' : Index) (i : ℕ) (c : CoreCall) (answer then : Once Placed) → HasItsLine s0 s i c answer → lacks_node answer ≡ true → TriesBehindTurn s i c s' then → i < s0.layout.callers → HasItsNode s0 s' i c then
unfolding tried_again
node_behind_turn s0 s s' i c answer then h lacks b here =
    let put = (full_is_put c (world h.tried.before) (lacks_node_full (world h.tried.before) (world s) c (party_of h.tried.last.state) answer h.tried.last.answered lacks)).0 in
    let few = h.few in
    record {
      tries = h.tries + 1;
      tried = tried_again s0 s s' i c answer then h.tries h.tried (inr lacks) b;
      allowed = omega arith;
      lined = lines_then s0 s s' i c answer then h.tries h.tried (inr lacks) b here;
      sweeps = λ _. swept_between s0 s s' i c answer then h.tries h.tried (inr lacks) b;
    }

-- What all tries of the call answer and leave.
pub record RanAll (s0 s : Index) (i : ℕ) (c : CoreCall) (answer : Once Placed) : Type 0 where
  pub tries : ℕ
  pub ran : Ran s0 s i c answer tries
  pub few : tries ≤ most_tries c

-- behind those before the last ones
ran_all : (s0 v s : Index) (i : ℕ) (c : CoreCall) (answer : Once Placed) (before tries : ℕ) → IsIndex v → (IsQuiet s0 → IsQuiet v) → Begun s0 i c v before → 1 ≤ tries → before + tries ≤ most_tries c → Ran v s i c answer tries → RanAll s0 s i c answer
ran_all s0 v s i c answer before tries is quiet at_first some_try few ran = record { tries = tries; ran = ran; few = omega arith }
ran_all s0 v s i c answer before tries is quiet (behind_turn o sweeps) some_try few ran = record { tries = before + tries; ran = ran_later s0 v s i c before tries answer is quiet o some_try ran; few = few }

pub ran_once : (s0 s : Index) (i : ℕ) (c : CoreCall) (answer : Once Placed) → count_of c ≡ None → HasItsNode s0 s i c answer → needs_split answer ≡ false → RanAll s0 s i c answer
ran_once s0 s i c answer none h one =
    let t = h.tried in
    let allowed = h.allowed in
    let most = (tries_between c).0 in
    ran_all s0 t.before s i c answer h.tries 1 t.index_before t.quiet_before t.begun (omega arith) (omega arith)
    (one_try t.before s i c t.index_before t.still_before answer t.last t.each t.locks one (false_from_ne_true (lacks_line answer) h.lined) h.sweeps (on_name c answer none))

pub split_is_full : (w w' : World) (c : CoreCall) (p : Party) (r : Once Placed) → IsAnswered w (op_of c) (limit_of c) w' p r → needs_split r ≡ true → FindsFull w (op_of c)
split_is_full w w' c p r end is = (split_told w (op_of c) (limit_of c) w' p r end is).2

-- a call that has split its node has written nothing, and the layout is the same
split_keeps : (w w' : World) (c : CoreCall) (p : Party) (r : Once Placed) → IsAnswered w (op_of c) (limit_of c) w' p r → needs_split r ≡ true → w'.history ≡ w.history
split_keeps w w' c p r end is = (split_told w (op_of c) (limit_of c) w' p r end is).5

pub node_history : (s0 s : Index) (i : ℕ) (c : CoreCall) (answer : Once Placed) → HasItsNode s0 s i c answer → needs_split answer ≡ true → s.history ≡ s0.history
node_history s0 s i c answer h again =
    let t = h.tried in
    split_keeps (world t.before) (world s) c (party_of t.last.state) answer t.last.answered again ∙ of t.before h.tries t.begun
  where
    of : (v : Index) (n : ℕ) → Begun s0 i c v n → v.history ≡ s0.history
    of v n at_first = refl
    of v n (behind_turn o sweeps) = o.history

pub node_layout : (s0 s : Index) (i : ℕ) (c : CoreCall) (answer : Once Placed) → HasItsNode s0 s i c answer → s.layout ≡ s0.layout
node_layout s0 s i c answer h =
    let t = h.tried in
    t.last.layout ∙ of t.before h.tries t.begun
  where
    of : (v : Index) (n : ℕ) → Begun s0 i c v n → v.layout ≡ s0.layout
    of v n at_first = refl
    of v n (behind_turn o sweeps) = o.layout

-- what so many tries took of the locks, and the last of them one more
tried_takes : (s0 s : Index) (i : ℕ) (c : CoreCall) (answer : Once Placed) (tries : ℕ) → Tried s0 s i c answer tries → LoseAtMost (tries + 1) s0 s × (locks_left s0 ≤ locks_left s + (tries + 1))
tried_takes s0 s i c answer tries t = of t.before tries t.begun t.each t.locks
  where
    of : (v : Index) (n : ℕ) → Begun s0 i c v n → LoseAtMost 1 v s → locks_left v ≤ locks_left s + 1 → LoseAtMost (n + 1) s0 s × (locks_left s0 ≤ locks_left s + (n + 1))
    of v n at_first each locks = (each, locks)
    of v n (behind_turn o sweeps) each locks = ((λ k. let a = o.each k in let b = each k in omega (arith, a, b)), (let a = o.locks in omega (arith, a, locks)))

-- one that was turned back, or has split its node, is made again, and so is no get
tried_is_again : (s0 s : Index) (i : ℕ) (c : CoreCall) (answer : Once Placed) (tries : ℕ) → Tried s0 s i c answer tries → Lacks answer ⊎ (needs_split answer ≡ true) → IsMadeAgain i c s0
tried_is_again s0 s i c answer tries t back = of t.before tries t.begun t.index_before t.still_before.calls t.last
  where
    of : (v : Index) (n : ℕ) → Begun s0 i c v n → IsIndex v → HasNoCalls v → TriesAlone v i c s answer → IsMadeAgain i c s0
    of v n at_first is idle u = ⊎_elim
        (λ (lacks : Lacks answer). (turned_back s0 s i c is idle u.state (is.states i u.state u.there).caller answer lacks u.answered).waits.again)
        (λ (split : needs_split answer ≡ true). full_again_if s0 i c (rests s0 is idle) (split_is_full (world s0) (world s) c (party_of u.state) answer u.answered split))
        back
    of v n (behind_turn o sweeps) is idle u = o.waits.again

pub again_is_no_get : (s0 s : Index) (i : ℕ) (c : CoreCall) (answer : Once Placed) (tries : ℕ) → Tried s0 s i c answer tries → Lacks answer ⊎ (needs_split answer ≡ true) → IsGetCall c → ⊥
again_is_no_get s0 s i c answer tries t back get = gets_once i s0 c get (tried_is_again s0 s i c answer tries t back)

pub line_is_no_get : (s0 s : Index) (i : ℕ) (c : CoreCall) (answer : Once Placed) → HasItsLine s0 s i c answer → lacks_node answer ≡ true → IsGetCall c → ⊥
line_is_no_get s0 s i c answer h lacks = again_is_no_get s0 s i c answer h.tries h.tried (inl (inr lacks))

pub node_is_no_get : (s0 s : Index) (i : ℕ) (c : CoreCall) (answer : Once Placed) → HasItsNode s0 s i c answer → needs_split answer ≡ true → IsGetCall c → ⊥
node_is_no_get s0 s i c answer h split = again_is_no_get s0 s i c answer h.tries h.tried (inr split)

-- So a call that is cut off behind such tries, and takes one lock of each node more, takes no more than an answered one.
module _ (s0 s s' : Index) (i : ℕ) (c : CoreCall) (answer : Once Placed) (each : LoseAtMost 1 s s') (locks : locks_left s ≤ locks_left s' + 1) where
  takes_more : (tries : ℕ) → Tried s0 s i c answer tries → tries + 2 ≤ most_tries c → Lacks answer ⊎ (needs_split answer ≡ true) → TakesEachLock i c s0 s' × TakesLocks i c s0 s'
  takes_more tries t few back =
      let before = tried_takes s0 s i c answer tries t in
      let again = tried_is_again s0 s i c answer tries t back in (
        inr (again, (λ n. let a = before.0 n in let b = each n in omega (arith, a, b, few))),
        inr (again, (let a = before.1 in omega (arith, a, locks, few))),
      )

  pub takes_behind_line : Tried s0 s i c answer 0 → lacks_line answer ≡ true → TakesEachLock i c s0 s' × TakesLocks i c s0 s'
  takes_behind_line t lacks =
      let again = tried_is_again s0 s i c answer 0 t (inl (inl lacks)) in
      let some_turn = may_turn c s0 i again in
      let most = (tries_between c).0 in
      takes_more 0 t (omega (arith, some_turn, most)) (inl (inl lacks))

  pub takes_behind_node : HasItsLine s0 s i c answer → lacks_node answer ≡ true → TakesEachLock i c s0 s' × TakesLocks i c s0 s'
  takes_behind_node h lacks =
      let t = h.tried in
      let few = h.few in
      let put = full_is_put c (world t.before) (lacks_node_full (world t.before) (world s) c (party_of t.last.state) answer t.last.answered lacks) in
      let two = put.0 in
      let most = put.1 in
      takes_more h.tries t (omega (arith, few, two, most)) (inl (inr lacks))

  pub takes_behind_split : HasItsNode s0 s i c answer → needs_split answer ≡ true → TakesEachLock i c s0 s' × TakesLocks i c s0 s'
  takes_behind_split h again =
      let t = h.tried in
      let allowed = h.allowed in
      let most = (full_is_put c (world t.before) (split_is_full (world t.before) (world s) c (party_of t.last.state) answer t.last.answered again)).1 in
      takes_more h.tries t (omega (arith, allowed, most)) (inr again)

-- a put that has split its node isn't turned back
pub twice_answered : (s0 s s' : Index) (i : ℕ) (c : CoreCall) (answer then : Once Placed) → count_of c ≡ None → HasItsNode s0 s i c answer → needs_split answer ≡ true → IsIndex s → TriesAlone s i c s' then → LoseAtMost 1 s s'
    → locks_left s ≤ locks_left s' + 1 → (why : Again) → then ≡ once.Again why → ⊥
twice_answered s0 s s' i c answer then none h again is u each locks =
    let t = h.tried in
    answered_then t.before s s' i c t.index_before t.still_before is answer then none t.last u t.each each t.locks locks again

-- nor is a call that lacks nothing
pub answered_at_once : (s s' : Index) (i : ℕ) (c : CoreCall) (answer : Once Placed) → TriesAlone s i c s' answer → lacks_line answer ≡ false → lacks_node answer ≡ false → needs_split answer ≡ false → (why : Again) → answer ≡ once.Again why → ⊥
answered_at_once s s' i c answer t lined noded unsplit why is =
    by_cause why (sym (ap lacks_line is) ∙ lined) (sym (ap lacks_node is) ∙ noded) (sym (ap needs_split is) ∙ unsplit) (subst (IsAnswered (world s) (op_of c) (limit_of c) (world s') (party_of t.state)) is t.answered)
  where
    by_cause : (why : Again) → lacks_line (once.Again why) ≡ false → lacks_node (once.Again why) ≡ false → needs_split (once.Again why) ≡ false → IsAnswered (world s) (op_of c) (limit_of c) (world s') (party_of t.state) (once.Again why) → ⊥
    by_cause again.NoFree lined noded unsplit end = cc
    by_cause (again.NeedsSplit n) lined noded unsplit end = cc
    by_cause again.LogFull lined noded unsplit end = cc
    by_cause (again.Locked n word) lined noded unsplit end = end
    by_cause (again.Moved n one two) lined noded unsplit end = end
    by_cause (again.Hops count) lined noded unsplit end = end
    by_cause (again.Held word) lined noded unsplit end = end
    by_cause (again.Epoch one two) lined noded unsplit end = end

pub ran_twice : (s0 s s' : Index) (i : ℕ) (c : CoreCall) (answer then : Once Placed) → count_of c ≡ None → HasItsNode s0 s i c answer → needs_split answer ≡ true → IsIndex s → TriesAlone s i c s' then → LoseAtMost 1 s s'
    → locks_left s ≤ locks_left s' + 1 → RanAll s0 s' i c then
ran_twice s0 s s' i c answer then none h again is u each locks =
    let t = h.tried in
    let allowed = h.allowed in
    let most = (full_is_put c (world t.before) (split_is_full (world t.before) (world s) c (party_of t.last.state) answer t.last.answered again)).1 in
    ran_all s0 t.before s' i c then h.tries 2 t.index_before t.quiet_before t.begun (omega arith) (omega arith)
    (two_tries t.before s s' i c t.index_before t.still_before is answer then none t.last u t.each each t.locks locks again)
