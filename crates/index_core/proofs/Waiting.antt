-- A turn of the updater within a budget: it is alone, or it waits for one that has stopped under the updater lock.
use Rattle.std.proofs.Common.{◌+◌, ◌≡◌, ◌≢◌, ℕ, zero, suc, ◌==◌, ◌<◌, ◌≤◌, ◌^◌, ◌⊎◌, inl, inr, ⊎_elim, cond, List, []}
use Rattle.std.proofs.Common.{◌∷◌, set, false, refl, sym, ap, ◌∙◌, subst, arith}
use Rattle.std.specs.Prelude.{Option, Some, None}
use Rattle.std.proofs.lemmas.Bool.{ne_eqb}
use Rattle.std.proofs.lemmas.List.{set-get_or}
use mathlib.Core.Option.{some, some-injective, some-ne-none}
use lib.ListN.{get_elem?}
use Rattle.pm_words.specs.declared.machine.Turn.{Turn}
use Rattle.pm_words.specs.declared.machine.Turn.TheVariants.{Go, Done}
use Rattle.pm_words.specs.Locations.{Updater, address_of, at}
use Rattle.pm_words.specs.Rows.{acted}
use Rattle.pm_words.specs.Codes.{untaken_lock, taken_lock}
use Rattle.index_law.specs.Anchors.{anchors_of}
use Rattle.index_law.specs.Facts.{Facts}
use Rattle.index_law.proofs.AnySteps.{set_own}
use Rattle.index_law.proofs.Parties.{set_here}
use Rattle.lone_hops_law.specs.lone_call_law.specs.Locks.{fewest_locks, locks_of}
use Rattle.pm_alloc.specs.declared.gone.ReleaseAt.{ReleaseAt}
use Rattle.pm_alloc.specs.declared.gone.ReleaseAt.TheVariants as release_at
use Rattle.updater.specs.updater_row_law.specs.RowStages.{Resting}
use Rattle.updater.specs.declared.making.MakeTurn.{MakeTurn}
use Rattle.updater.specs.declared.making.MakeTurn.TheVariants.{Taking, Working}
use Rattle.updater.specs.declared.making.TurnReply.{TurnReply}
use Rattle.updater.specs.declared.making.TurnReply.TheVariants as reply
use Rattle.updater.specs.declared.terms.Terms.{Terms}
use Rattle.updater.specs.declared.terms.Turned.{Turned}
use Rattle.updater.specs.declared.work.WorkAt.{WorkAt}
use Rattle.updater.specs.declared.work.WorkAt.TheVariants as at_work
use Rattle.updater.specs.Makings.{making_asks, making_from, making_turned}
use Rattle.updater.specs.Steps.{release_stage, work_at_stage}
use Rattle.updater.specs.Works.{work_from}
use Rattle.index_core.specs.declared.party.PartyState.{PartyState}
use Rattle.index_core.specs.PartyStates.{state_turned, turn_reply, turning_of}
use Rattle.index_core.specs.Costs.{turn_actions}
use Rattle.index_core.specs.Indexes.{Index, IsIndex, IsTurning}
use Rattle.index_core.specs.Lone.{HoldsLock, IsQuiet, IsStill, locks_left, node_locks}
use Rattle.index_core.specs.Turns.{StartsTurn, TurnSteps, TurnsAlone, turn_begun, turn_told, turned_index}
use Rattle.index_core.specs.Withins.{CutsTurnOff}
use Rattle.index_core.proofs.Layering.{turn_of}
use Rattle.index_core.proofs.Lists.{map_there, set_twice}
use Rattle.index_core.proofs.LoneTurning.{LoneTurn, begun_keeps, begun_weighs, lone_turn_begins, lone_turn_ends}
use Rattle.index_core.proofs.LoneTurning.{lone_turn_flies, lone_turn_goes, turn_left_at, turn_left_begins}
use Rattle.index_core.proofs.LoneTurning.{turned_same}
use Rattle.index_core.proofs.Quiet.{none_now, stood_before}
use Rattle.index_core.proofs.Withins.{turn_cut}

-- A party's turn has the updater lock.
pub record HasHolder (s : Index) : Type 0 where
  pub number : ℕ
  pub state : PartyState
  pub there : get_elem? s.states number ≡ some state
  pub holds : HoldsLock state.turn

abbrev AreRestful : List PartyState → Type 0
AreRestful states = (i : ℕ) (e : PartyState) → get_elem? states i ≡ some e → e.turn ≡ None

abbrev Holds : List PartyState → Type 0
Holds states = (i : ℕ) × (e : PartyState) × (get_elem? states i ≡ some e) × HoldsLock e.turn

one_more : (x : PartyState) (xs : List PartyState) → x.turn ≡ None → AreRestful xs → AreRestful (x ∷ xs)
one_more x xs none rest zero e at = ap (λ (d : PartyState). d.turn) (sym (some-injective _ _ at)) ∙ none
one_more x xs none rest (suc i) e at = rest i e at

rest_or_hold : (states : List PartyState) → ((i : ℕ) (e : PartyState) → get_elem? states i ≡ some e → (e.turn ≡ None) ⊎ HoldsLock e.turn) → AreRestful states ⊎ Holds states
rest_or_hold [] each = inl (λ i e at. absurd (some-ne-none e (sym at)))
rest_or_hold (x ∷ xs) each = ⊎_elim
    (λ (none : x.turn ≡ None). ⊎_elim
    (λ (rest : AreRestful xs). inl (one_more x xs none rest))
    (λ (one : Holds xs). inr (suc one.0, one.1, one.2, one.3))
    (rest_or_hold xs (λ i e at. each (suc i) e at)))
    (λ (holds : HoldsLock x.turn). inr (0, x, refl, holds))
    (each 0 x refl)

-- a still index is quiet, or one of its turns has the lock
pub quiet_or_held : (party : ℕ) (s : Index) → IsStill party s → IsQuiet s ⊎ HasHolder s
quiet_or_held party s still = ⊎_elim
    (λ (rest : AreRestful s.states). inl (record { calls = still.calls; turns = rest; rechecks = still.rechecks }))
    (λ (one : Holds s.states). inr (record { number = one.0; state = one.1; there = one.2; holds = one.3 }))
    (rest_or_hold s.states (λ i e at. ⊎_elim
    (λ (none : e.turn ≡ None). inl none)
    (λ (stopped : (i ≢ party) × HoldsLock e.turn). inr stopped.1)
    (still.turns i e at)))

-- not both
pub held_is_not_quiet : (s : Index) → HasHolder s → IsQuiet s → ⊥
held_is_not_quiet s held quiet = subst HoldsLock (quiet.turns held.number held.state held.there) held.holds

-- a turn at work has no stage at which it rests
work_is_busy : (terms : Terms) (work : WorkAt) → work_at_stage terms work ≢ Resting
work_is_busy terms (at_work.State line) is = absurd cc
work_is_busy terms (at_work.Reading read) is = absurd cc
work_is_busy terms (at_work.Landing line entry floor) is = absurd cc
work_is_busy terms (at_work.Walking line entry walk) is = absurd cc
work_is_busy terms (at_work.Seeing line entry found) is = absurd cc
work_is_busy terms (at_work.Setting line entry set) is = absurd cc
work_is_busy terms (at_work.Unsetting line entry unset) is = absurd cc
work_is_busy terms (at_work.Stamping line entry) is = absurd cc
work_is_busy terms (at_work.Clearing clear) is = absurd cc
work_is_busy terms (at_work.Status node) is = absurd cc
work_is_busy terms (at_work.Stamp node) is = absurd cc
work_is_busy terms (at_work.Version node) is = absurd cc
work_is_busy terms (at_work.Releasing release) is = by_word release.at is
  where
    by_word : (word : ReleaseAt) → release_stage word release.node ≢ Resting
    by_word release_at.Stamp is = absurd cc
    by_word release_at.Status is = absurd cc
work_is_busy terms (at_work.Counting node none) is = absurd cc
work_is_busy terms (at_work.Leaving none) is = absurd cc

holder_is_busy : (turn : Option MakeTurn) → HoldsLock turn → (turning_of turn).stage ≢ Resting
holder_is_busy None holds = absurd holds
holder_is_busy (Some (Taking terms)) holds = absurd holds
holder_is_busy (Some (Working work)) holds = work_is_busy work.terms work.at

-- so the lock's word says that a party has it
pub held_word : (s : Index) → IsIndex s → HasHolder s → at s.layout s.words Updater ≢ untaken_lock
held_word s is held free = holder_is_busy held.state.turn held.holds (is.layered.lock free held.number (turn_of held.state) (map_there turn_of s.states held.number held.state held.there))

-- A turn of the party i has begun, and another party's has the updater lock.
pub record Waits (s0 s : Index) (i stamp release : ℕ) : Type 0 where
  pub before : IsIndex s0
  pub still : IsStill i s0
  pub held : HasHolder s0
  pub starts : StartsTurn s0 i stamp release s

no_turn : (i : ℕ) (s : Index) (state : PartyState) → IsStill i s → get_elem? s.states i ≡ some state → state.turn ≡ None
no_turn i s state still there = ⊎_elim
    (λ (none : state.turn ≡ None). none)
    (λ (stopped : (i ≢ i) × HoldsLock state.turn). absurd (stopped.0 refl))
    (still.turns i state there)

-- its step changes nothing, and is answered that the lock is held
module _ (s0 s s' : Index) (i stamp release : ℕ) (o : Waits s0 s i stamp release) (result : Option TurnReply) (t : TurnSteps s i s' result) where
  abbrev making : MakeTurn
  making = making_from s0.layout s0.generation stamp release

  abbrev now : PartyState
  now = record (o.starts.state) { turn = Some making }

  abbrev begun : Index
  begun = turn_begun s0 i o.starts.state stamp release

  abbrev word : ℕ
  word = at s0.layout s0.words Updater

  state_is : t.state ≡ now
  state_is = some-injective _ _ (sym t.there ∙ ap (λ (v : Index). get_elem? v.states i) o.starts.is ∙ set_here s0.states i now o.starts.state o.starts.there)

  making_is : t.making ≡ making
  making_is = let both : Some t.making ≡ Some making = sym t.turns ∙ ap (λ (d : PartyState). d.turn) state_is in cc

  busy : word ≢ 0
  busy = held_word s0 o.before o.held

  free_is : (word == 0) ≡ false
  free_is = ne_eqb word 0 busy

  turn_is : making_turned making word ≡ Done (reply.Held word)
  turn_is = ap {B = Turn MakeTurn TurnReply} (λ b. cond b (Go (Working (work_from s0.layout s0.generation stamp release))) (Done (reply.Held word))) free_is

  turned_is : making_turned t.making (turn_told s t.making) ≡ Done (reply.Held word)
  turned_is = (λ k. making_turned (making_is k) (turn_told (o.starts.is k) (making_is k))) ∙ turn_is

  pub waits_held : result ≡ Some (reply.Held word)
  waits_held = t.answers ∙ ap turn_reply turned_is

  words_are : acted s0.layout s0.words (making_asks making) ≡ s0.words
  words_are = ap (λ b. set s0.words (address_of s0.layout Updater) (cond b taken_lock word)) free_is ∙ set-get_or s0.words (address_of s0.layout Updater) 0

  states_are : set (set s0.states i now) i (record (o.starts.state) { turn = None }) ≡ s0.states
  states_are =
      set_twice s0.states i now (record (o.starts.state) { turn = None })
      ∙ ap (λ (turn : Option MakeTurn). set s0.states i (record (o.starts.state) { turn = turn })) (sym (no_turn i s0 o.starts.state o.still o.starts.there))
      ∙ set_own s0.states i o.starts.state o.starts.there

  pub waits_same : s' ≡ s0
  waits_same =
      t.is
      ∙ (λ k. turned_index (o.starts.is k) i (state_is k) (making_is k))
      ∙ (λ k. record s0 { words = words_are k; states = set (set s0.states i now) i (state_turned now (turn_is k)) })
      ∙ (λ k. record s0 { states = states_are k })

-- where it is cut off, all is as it was
waits_cut : (s0 s : Index) (i stamp release : ℕ) → Waits s0 s i stamp release → CutsTurnOff s0 i s
waits_cut s0 s i stamp release o =
    let is = o.starts.is in
    let keeps = begun_keeps s0 s i stamp release o.starts in
    record {
      state = o.starts.state;
      there = o.starts.there;
      making = making_from s0.layout s0.generation stamp release;
      states = ap (λ (v : Index). v.states) is;
      history = ap (λ (v : Index). v.history) is;
      layout = ap (λ (v : Index). v.layout) is;
      generation = ap (λ (v : Index). v.generation) is;
      base = ap (λ (v : Index). v.base) is;
      spare = ap (λ (v : Index). v.spare) is;
      anchors = ap (λ (f : Facts). anchors_of f.list) keeps.nodes;
      each_lock = λ n.
          let same : node_locks s n ≡ node_locks s0 n = λ k. locks_of (is k).generation ((keeps.nodes k).version n) in
          omega (arith, same);
      locks =
          let same : locks_left s ≡ locks_left s0 = λ k. fewest_locks (is k).generation (keeps.nodes k).version (is k).layout.nodes in
          omega (arith, same);
      weighs = let same = begun_weighs s0 s i stamp release o.still.calls o.starts in omega (arith, same);
    }

-- Within a budget the turn of the party i, so many events behind its begin, is a lone one in its time, which has the lock
-- behind its first event; or it waits.
pub record IsAlone (s0 s : Index) (i stamp release before now : ℕ) : Type 0 where
  pub turn : LoneTurn s0 s i stamp release
  pub in_time : now + turn_left_at s i + 1 ≤ before + turn_actions s0.layout
  pub locked : (now ≡ before) ⊎ HoldsLock (Some turn.making)

abbrev pub Turns : Index → Index → ℕ → ℕ → ℕ → ℕ → ℕ → Type 0
Turns s0 s i stamp release before now = IsAlone s0 s i stamp release before now ⊎ Waits s0 s i stamp release

pub turns_begin_so : (s0 s : Index) (i stamp release before : ℕ) → IsIndex s0 → IsStill i s0 → 1 ≤ stamp → stamp < 2 ^ 64 → StartsTurn s0 i stamp release s → IsIndex s → Turns s0 s i stamp release before before
turns_begin_so s0 s i stamp release before is0 still some_stamp small starts is = ⊎_elim
    (λ (quiet : IsQuiet s0). inl (record {
      turn = lone_turn_begins s0 s i stamp release is0 quiet some_stamp small starts is;
      in_time = let begins = turn_left_begins s0 s i stamp release is0.lawful.row.layout.callers.0 starts in omega (arith, begins);
      locked = inl refl;
    }))
    (λ (held : HasHolder s0). inr (record { before = is0; still = still; held = held; starts = starts }))
    (quiet_or_held i s0 still)

-- a turn that has the lock leaves the index still for others, where nothing else is in flight
turn_is_still : (s0 s : Index) (i stamp release : ℕ) (o : LoneTurn s0 s i stamp release) → HoldsLock (Some o.making) → (party : ℕ) → party ≢ i → IsStill party s
turn_is_still s0 s i stamp release o holds party other = record {
  calls = none_now s0 s i now states (λ (d : PartyState). d.machine) (o.start.quiet.calls i o.start.state o.start.there) o.start.quiet.calls;
  turns = λ j e at_j. ⊎_elim
      (λ (mine : (j ≡ i) × (now ≡ e)). inr ((λ same. other (sym same ∙ mine.0)), subst (λ (d : PartyState). HoldsLock d.turn) mine.1 holds))
      (λ (else : (j ≢ i) × (get_elem? s0.states j ≡ some e)). inl (o.start.quiet.turns j e else.1))
      (stood_before s0 s i now states j e at_j);
  rechecks = none_now s0 s i now states (λ (d : PartyState). d.recheck) (o.start.quiet.rechecks i o.start.state o.start.there) o.start.quiet.rechecks;
}
  where
    now : PartyState
    now = record (o.start.state) { turn = Some o.making }

    states : s.states ≡ set s0.states i now
    states = ap (λ (v : Index). v.states) o.is

module _ (s0 s : Index) (i stamp release before now : ℕ) (o : Turns s0 s i stamp release before now) where
  pub turns_flies : IsTurning s i
  turns_flies = ⊎_elim
      (λ (alone : IsAlone s0 s i stamp release before now). lone_turn_flies s0 s i stamp release alone.turn)
      (λ (waits : Waits s0 s i stamp release).
      let state : PartyState = record (waits.starts.state) { turn = Some (making_from s0.layout s0.generation stamp release) } in
      record {
        state = state;
        machine = making_from s0.layout s0.generation stamp release;
        there = ap (λ (v : Index). get_elem? v.states i) waits.starts.is ∙ set_here s0.states i state waits.starts.state waits.starts.there;
        flies = refl;
      })
      o

  -- where it is cut off
  pub turns_cut : CutsTurnOff s0 i s
  turns_cut = ⊎_elim
      (λ (alone : IsAlone s0 s i stamp release before now). turn_cut s0 s i stamp release alone.turn)
      (waits_cut s0 s i stamp release)
      o

  pub turns_stay : IsQuiet s0 → before < now → (party : ℕ) → party ≢ i → IsStill party s
  turns_stay quiet some_event party other = ⊎_elim
      (λ (alone : IsAlone s0 s i stamp release before now). ⊎_elim
      (λ (none : now ≡ before). absurd (omega (arith, none, some_event)))
      (λ (holds : HoldsLock (Some alone.turn.making)). turn_is_still s0 s i stamp release alone.turn holds party other)
      alone.locked)
      (λ (waits : Waits s0 s i stamp release). absurd (held_is_not_quiet s0 waits.held quiet))
      o

  pub turns_late : IsQuiet s0 → now + 1 ≤ before + turn_actions s0.layout
  turns_late quiet = ⊎_elim
      (λ (alone : IsAlone s0 s i stamp release before now). let late = alone.in_time in omega (arith, late))
      (λ (waits : Waits s0 s i stamp release). absurd (held_is_not_quiet s0 waits.held quiet))
      o

  -- and how its step goes on, or ends it
  module _ (s' : Index) (result : Option TurnReply) (t : TurnSteps s i s' result) (is' : IsIndex s') where
    pub turns_go_so : result ≡ None → (after : ℕ) → after ≡ now + 1 → Turns s0 s' i stamp release before after
    turns_go_so going after tick = ⊎_elim
        (λ (alone : IsAlone s0 s i stamp release before now).
        let next = lone_turn_goes s0 s s' i stamp release alone.turn result t is' going in
        let less = next.1 in
        let late = alone.in_time in
        inl (record { turn = next.0; in_time = omega (arith, less, late, tick); locked = inr next.2 }))
        (λ (waits : Waits s0 s i stamp release).
        absurd (let none : None ≡ Some (reply.Held (at s0.layout s0.words Updater)) = sym going ∙ waits_held s0 s s' i stamp release waits result t in cc))
        o

    pub turns_end_so : (answer : Turned) → result ≡ Some (reply.Turned answer) → TurnsAlone s0 stamp release answer s' × IsQuiet s0 × IsQuiet s'
    turns_end_so answer ended = ⊎_elim
        (λ (alone : IsAlone s0 s i stamp release before now).
        let end = lone_turn_ends s0 s s' i stamp release alone.turn result t is' (reply.Turned answer) ended in
        (subst (λ (a : Turned). TurnsAlone s0 stamp release a s') (turned_same (sym end.1)) end.2, alone.turn.start.quiet, end.3))
        (λ (waits : Waits s0 s i stamp release).
        absurd (let no : Some (reply.Turned answer) ≡ Some (reply.Held (at s0.layout s0.words Updater)) = sym ended ∙ waits_held s0 s s' i stamp release waits result t in cc))
        o

    -- turned away it has changed nothing, and is begun again
    turns_wait : (word : ℕ) → result ≡ Some (reply.Held word) → Waits s0 s i stamp release
    turns_wait word ended = ⊎_elim
        (λ (alone : IsAlone s0 s i stamp release before now).
        let end = lone_turn_ends s0 s s' i stamp release alone.turn result t is' (reply.Held word) ended in
        absurd (let no : reply.Held word ≡ reply.Turned end.0 = end.1 in cc))
        (λ (waits : Waits s0 s i stamp release). waits)
        o

    pub turns_still : (word : ℕ) → result ≡ Some (reply.Held word) → IsStill i s'
    turns_still word ended =
        let waits = turns_wait word ended in
        subst (IsStill i) (sym (waits_same s0 s s' i stamp release waits result t)) waits.still

    pub turns_again : (word : ℕ) → result ≡ Some (reply.Held word) → (s'' : Index) (after : ℕ) → StartsTurn s' i stamp release s'' → Turns s0 s'' i stamp release before after
    turns_again word ended s'' after starts =
        let waits = turns_wait word ended in
        inr (record {
          before = waits.before;
          still = waits.still;
          held = waits.held;
          starts = subst (λ (v : Index). StartsTurn v i stamp release s'') (waits_same s0 s s' i stamp release waits result t) starts;
        })
