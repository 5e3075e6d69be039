-- The next round of an index with no call in flight.
use Rattle.std.proofs.Common.{◌≡◌, ℕ, zero, suc, ◌+◌, ◌-◌, ◌<◌, ◌≤◌, ◌==◌, cond, List, [], ◌∷◌, ◌++◌, length, map}
use Rattle.std.proofs.Common.{set, drop, refl, sym, ap, ◌∙◌, subst, arith}
use Rattle.std.specs.Prelude.{Some, None}
use Rattle.std.proofs.lemmas.List.{take_all, drop-set-lt, length-drop}
use Rattle.std.proofs.Math.Numerals.{add-one}
use mathlib.Core.Option.{some}
use lib.ListN.{get_elem?}
use Rattle.pm_words.specs.Codes.{gone_status}
use Rattle.pm_words.specs.Locations.{Clock, durable_address}
use Rattle.cat_history.specs.Maps.{Map, map_of}
use Rattle.cat_history.specs.Writes.{after_all}
use Rattle.cat_history.specs.Replays.{pairs_of}
use Rattle.cat_history.proofs.ReplayLemmas.{map_of-pairs_of}
use Rattle.call_stages.specs.Stages.{Idle}
use Rattle.index_law.specs.Facts.{Facts, facts_of, map_now}
use Rattle.index_law.specs.Anchors.{anchors_of, gone_nodes}
use Rattle.index_law.specs.Weights.{index_weight}
use Rattle.index_law.specs.Worlds.{Party, World, facts}
use Rattle.index_law.specs.Lawful.{Each, HasNames, Lawful}
use Rattle.index_law.specs.Laws.{next_round}
use Rattle.index_law.proofs.Rounds.{round_law}
use Rattle.index_law.proofs.Rows.{facts-elsewhere}
use Rattle.index_law.proofs.Starts.{rest_law}
use Rattle.permutation_law.proofs.Columns.{left_stored}
use Rattle.lone_hops_law.specs.lone_call_law.specs.Locks.{fewest_locks}
use Rattle.index_core.specs.PartyStates.{idle_state, idle_states, party_of, IsPartyState}
use Rattle.index_core.specs.declared.party.PartyState.{PartyState}
use Rattle.index_core.specs.Indexes.{Index, IsIndex, footed, map_of_index, parties_of, world}
use Rattle.index_core.specs.Lone.{IsQuiet}
use Rattle.index_core.specs.Rounds.{BeginsRound, RoundBegins, round_index}
use Rattle.index_law.specs.Footed.{IsFooted}
use Rattle.index_law.proofs.Footed.{round_footed}
use Rattle.index_core.proofs.Checks.{checks_none}
use Rattle.index_core.proofs.Footings.{line_of, debt_of, free_states}
use Rattle.index_core.proofs.Layering.{rest_layered}
use Rattle.index_core.proofs.Permuting.{IsSameRow, idled, row_by_facts}
use Rattle.index_core.proofs.Lists.{map_from, idle-length, idle-each}
use Rattle.index_core.proofs.Quiet.{rests}

-- as many nodes are GONE where each has the same status
gone_alike : (n : ℕ) (f g : Facts) → f.status ≡ g.status → gone_nodes n f ≡ gone_nodes n g
gone_alike zero f g same = refl
gone_alike (suc n) f g same = λ k. cond (same k n == gone_status) 1 0 + gone_alike n f g same k

module _ (s : Index) (is : IsIndex s) (quiet : IsQuiet s) where
  abbrev states : List PartyState
  states = idle_states (parties_of s.layout)

  abbrev parties : List Party
  parties = map party_of states

  abbrev round : World
  round = next_round (world s) parties

  each_idle : (P : Party → Type 0) → ((i : ℕ) → P (party_of (idle_state i))) → Each P parties
  each_idle P idle i p at =
      let from = map_from party_of states i p at in
      subst P (ap party_of (sym (idle-each (parties_of s.layout) i from.0 from.1)) ∙ from.2) (idle i)

  no_machine : (i : ℕ) (state : PartyState) → get_elem? states i ≡ some state → state.machine ≡ None
  no_machine i state at = ap (λ (d : PartyState). d.machine) (idle-each (parties_of s.layout) i state at)

  no_turn : (i : ℕ) (state : PartyState) → get_elem? states i ≡ some state → state.turn ≡ None
  no_turn i state at = ap (λ (d : PartyState). d.turn) (idle-each (parties_of s.layout) i state at)

  no_recheck : (i : ℕ) (state : PartyState) → get_elem? states i ≡ some state → state.recheck ≡ None
  no_recheck i state at = ap (λ (d : PartyState). d.recheck) (idle-each (parties_of s.layout) i state at)

  numbers : (i : ℕ) (state : PartyState) → get_elem? states i ≡ some state → state.caller ≡ i
  numbers i state at = ap (λ (d : PartyState). d.caller) (idle-each (parties_of s.layout) i state at)

  round_lawful : Lawful round
  round_lawful = rest_law round (round_law (world s) parties (rests s is quiet.calls) (each_idle (λ p. p.stage ≡ Idle) (λ i. refl)) (each_idle (λ p. p.since ≤ 0) (λ i. omega arith)))

  -- the clock stands beside the nodes
  clock_leaves : IsSameRow s.layout s.words (round_index s 0).words
  clock_leaves =
      let same = facts-elsewhere s.layout s.words (map_of s.base) s.history Clock 0 tt (λ m offset e. cc, λ m e. cc) in
      row_by_facts s.layout s.words (round_index s 0).words (map_of s.base) s.history (ap (λ (f : Facts). f.version) same) (ap (λ (f : Facts). f.now) same) (ap (λ (f : Facts). f.list) same)
      (λ n here. left_stored s.layout s.words Clock 0 n tt (λ offset least e. cc))

  -- with whatever pairs of the same map as its base
  pub round_is : (spare : ℕ) → IsIndex (round_index s spare)
  round_is spare =
      let base : map_now (facts (world s)) ≡ map_of (pairs_of (map_of_index s)) = sym (map_of-pairs_of (map_of_index s)) in
      let was_free = free_states s.states quiet.calls (λ i e at. (is.states i e at).caller) in
      let whole = round_footed (footed s) parties (map line_of states) (map debt_of states) (is.whole, is.tended) was_free (free_states states no_machine numbers) round_lawful in
      let now = subst (λ (m : Map). Lawful (record round { base = m }) × IsFooted (record { world = record round { base = m }; lines = map line_of states; debts = map debt_of states })) base (round_lawful, whole) in
      let permuted = idled s (round_index s spare).words states (pairs_of (map_of_index s)) [] (is.permuted, is.relying) quiet.calls no_machine now.0 clock_leaves in
      record {
        lawful = now.0;
        whole = now.1.0;
        tended = now.1.1;
        layered = rest_layered s 0 states (pairs_of (map_of_index s)) [] is.layered quiet.turns no_machine no_turn (subst (λ n. 0 < n) (sym (idle-length (parties_of s.layout))) (omega arith)) now.1;
        parties = idle-length (parties_of s.layout);
        states = λ i state at. subst (IsPartyState s.layout s.generation i) (sym (idle-each (parties_of s.layout) i state at)) (record { caller = refl; machine = tt; op = tt; own = tt; turn = tt });
        ordered = λ i place state machine write at flies stands caller. absurd (let none : None ≡ Some write = stands in cc);
        bounded = record {
          limits = λ i e m at flies. absurd (let both : None ≡ Some m = sym (no_machine i e at) ∙ flies in cc);
          writers = λ p w at. absurd (let none : None ≡ Some w = at in cc);
          late = λ p q v w at there less far. absurd (let none : None ≡ Some v = at in cc);
        };
        named = λ place. subst HasNames (ap (after_all (map_of (pairs_of (map_of_index s)))) (sym (take_all place [] (omega arith)))) now.0.named;
        rechecks = checks_none s.layout s.generation [] states no_recheck;
        permuted = permuted.0;
        relying = permuted.1;
      }

  -- what its nodes' words say stays
  same_facts : facts (world (round_index s 0)) ≡ facts_of s.layout s.words (map_of (pairs_of (map_of_index s))) []
  same_facts = facts-elsewhere s.layout s.words (map_of (pairs_of (map_of_index s))) [] Clock 0 tt (λ n offset e. cc, λ n e. cc)

  pub begins_round : (spare : ℕ) → BeginsRound s (round_index s spare)
  begins_round spare = record {
    is = refl;
    map = map_of-pairs_of (map_of_index s);
    list = ap (λ (f : Facts). f.list) same_facts;
    shape = ap (λ (f : Facts). anchors_of f.list) same_facts;
    most = ap (λ (gone : ℕ). s.layout.nodes - gone) (gone_alike s.layout.nodes (facts (world (round_index s spare))) (facts (world s)) (ap (λ (f : Facts). f.status) same_facts));
    locks = ap (λ (f : Facts). fewest_locks s.generation f.version s.layout.nodes) same_facts;
    weighs = ap (λ (f : Facts). index_weight s.layout f) same_facts;
    durable = drop-set-lt (durable_address s.layout 0) s.words 0 0 (omega arith);
  }

-- no call is in flight there
pub round_quiet : (s new : Index) → BeginsRound s new → IsQuiet new
round_quiet s new begins = record {
  calls = λ i state there. ap (λ (d : PartyState). d.machine) (idle-each (parties_of s.layout) i state (subst (λ (v : Index). get_elem? v.states i ≡ some state) begins.is there));
  turns = λ i state there. ap (λ (d : PartyState). d.turn) (idle-each (parties_of s.layout) i state (subst (λ (v : Index). get_elem? v.states i ≡ some state) begins.is there));
  rechecks = λ i state there. ap (λ (d : PartyState). d.recheck) (idle-each (parties_of s.layout) i state (subst (λ (v : Index). get_elem? v.states i ≡ some state) begins.is there));
}

pub round_begins : RoundBegins
round_begins old new is quiet begins = (
  subst IsIndex (sym begins.is) (round_is old is quiet new.spare),
  round_quiet old new begins,
  ap (λ (v : Index). v.history) begins.is,
  λ begun few i state there.
      let same : state ≡ idle_state i = idle-each (parties_of old.layout) i state (subst (λ (v : Index). get_elem? v.states i ≡ some state) begins.is there) in
      let none = ap (λ (d : PartyState). d.index) same in
      omega arith,
)

-- parties of which one more is set to have made no call
set_behind : {A : Type 0} → (xs ys : List A) (y : A) → 0 < length ys → set (xs ++ ys) (length xs) y ≡ (xs ++ y ∷ []) ++ drop 1 ys
set_behind [] [] y more = absurd (omega (arith, more))
set_behind [] (z ∷ ys) y more = refl
set_behind (x ∷ xs) ys y more = ap (λ zs. x ∷ zs) (set_behind xs ys y more)

drop_next : {A : Type 0} → (xs : List A) (i : ℕ) → drop 1 (drop i xs) ≡ drop (suc i) xs
drop_next [] zero = refl
drop_next [] (suc i) = refl
drop_next (x ∷ xs) zero = refl
drop_next (x ∷ xs) (suc i) = drop_next xs i

pub idle_more : (old : List PartyState) (i : ℕ) → i < length old → set (idle_states i ++ drop i old) i (idle_state i) ≡ idle_states (i + 1) ++ drop (i + 1) old
idle_more old i within =
    let size = length-drop i old in
    ap (λ (n : ℕ). set (idle_states i ++ drop i old) n (idle_state i)) (sym (idle-length i))
    ∙ set_behind (idle_states i) (drop i old) (idle_state i) (omega (arith, within))
    ∙ ap (λ (others : List PartyState). idle_states (suc i) ++ others) (drop_next old i)
    ∙ ap (λ (n : ℕ). idle_states n ++ drop n old) (sym (add-one i))
