-- A call within a budget: what is in flight where it is cut off, and what the tries before it left.
use Rattle.std.proofs.Common.{◌≡◌, ◌≢◌, ℕ, ◌+◌, ◌<◌, ◌≤◌, inl, inr, ⊎_elim, true, List, [], ◌∷◌, ◌++◌, length}
use Rattle.std.proofs.Common.{slice_set, refl, sym, ap, ◌∙◌, subst, arith}
use Rattle.std.proofs.lemmas.List.{length-append}
use Rattle.std.specs.Prelude.{Option, Some, None, IfSome}
use mathlib.Core.Option.{some, some-injective}
use lib.ListN.{get_elem?}
use Rattle.pm_words.specs.declared.again.Again.{Again}
use Rattle.pm_words.specs.declared.again.Again.TheVariants as again
use Rattle.cat_history.specs.Records.{change_of}
use Rattle.cat_history.specs.declared.op.Change.{Change}
use Rattle.cat_history.specs.declared.op.NameOp.{NameOp}
use Rattle.cat_history.specs.declared.op.NameOp.TheVariants as asked
use Rattle.cat_history.specs.declared.op.Write.{Write}
use Rattle.call_stages.specs.Stages.{placed_in, Stage}
use Rattle.call_stages.specs.declared.once.Once.{Once}
use Rattle.call_stages.specs.declared.once.Once.TheVariants as once
use Rattle.call_stages.specs.declared.once.Placed.{Placed}
use Rattle.node_ops.specs.declared.running.Running.{Running}
use Rattle.node_ops.specs.Asked.{op_in}
use Rattle.node_ops.specs.CallStages.{stage_of}
use Rattle.node_ops.proofs.OpLaw.{op_told}
use Rattle.index_law.specs.Anchors.{anchors_of}
use Rattle.index_law.specs.Facts.{Facts}
use Rattle.index_law.specs.Worlds.{Party, World}
use Rattle.index_law.proofs.Parties.{set_here}
use Rattle.lone_hops_law.specs.lone_call_law.specs.LoneCalls.{IsAnswered}
use Rattle.lone_hops_law.specs.lone_call_law.specs.Locks.{fewest_locks, locks_of}
use Rattle.updater.specs.declared.terms.Turned.{Turned}
use Rattle.index_core.specs.declared.party.CoreCall.{CoreCall}
use Rattle.index_core.specs.declared.party.PartyState.{PartyState}
use Rattle.index_core.specs.CoreCalls.{op_of, limit_of}
use Rattle.index_core.specs.PartyStates.{party_of, state_with}
use Rattle.index_core.specs.Indexes.{Index, IsIndex, world}
use Rattle.index_core.specs.Lone.{HasNoCalls, IsQuiet, IsStill, LoseAtMost, TakesEachLock, TakesLocks, TriesAlone}
use Rattle.index_core.specs.Lone.{lacks_line, lacks_node, locks_left, needs_split, node_locks, state_tried}
use Rattle.index_core.specs.MachineLaws.{put_shows, shows}
use Rattle.index_core.specs.Turns.{TurnsAlone}
use Rattle.index_core.specs.Weights.{added_by, put_count, weight_of}
use Rattle.index_core.specs.CoreCalls.{most_writes}
use Rattle.index_core.specs.Withins.{ComesTo, flight_place, HasWritten, CutsOff, CutsTryOff, CutsTurnOff, TriedAlone}
use Rattle.index_core.specs.Withins.{TriedBehindTurn}
use Rattle.index_core.proofs.Alone.{tried_was}
use Rattle.index_core.proofs.Crashing.{placed_since}
use Rattle.index_core.proofs.Lists.{set_twice}
use Rattle.index_core.proofs.Shown.{shows_few}
use Rattle.index_core.proofs.LoneTurning.{LoneTurn}
use Rattle.index_core.proofs.Quiet.{quiet_is_still}
use Rattle.index_core.proofs.Tries.{Lone, flight_each, flight_locks, lone_flies, lone_there}

-- what a call in flight has written
has_written : (s0 s : Index) (i : ℕ) (c : CoreCall) (o : Lone s0 s i c) → HasWritten s0 o.start.state.caller o.start.state.index c (Some o.machine) s
has_written s0 s i c o = ⊎_elim
    (λ (none : (placed_in (stage_of o.machine) ≡ None) × (s.history ≡ s0.history)). inl none)
    (λ (one : (change : Change) × (s.history ≡ s0.history ++ record { caller = o.start.state.caller; index = o.start.state.index; change = change } ∷ []) × (placed_in (stage_of o.machine) ≢ None) × (change_of (op_of c) ≡ Some change)).
    inr (one.0, one.3, place (placed_in (stage_of o.machine)) refl one.2 (ap length one.1 ∙ length-append s0.history (record { caller = o.start.state.caller; index = o.start.state.index; change = one.0 } ∷ [])), one.1))
    o.call.trying.written
  where
    cut : PartyState
    cut = state_with o.start.state (length s0.history) o.machine

    place : (p : Option ℕ) → placed_in (stage_of o.machine) ≡ p → p ≢ None → length s.history ≡ length s0.history + 1 → p ≡ Some (length s0.history)
    place None told placed long = absurd (placed refl)
    place (Some at) told placed long =
        let stands = placed_since s o.index i at cut o.machine (lone_there s0 s i c o) refl told in
        let later = stands.later in
        let within = stands.within in
        let same : at ≡ length s0.history = omega arith in
        ap (λ (n : ℕ). Some n) same

-- a put that shows its new name
shows_at_most : (op : NameOp) (stage : Stage) → put_shows op (shows stage) ≤ put_count op
shows_at_most (asked.Put name value) stage = shows_few stage
shows_at_most (asked.Get name) stage = omega arith
shows_at_most (asked.Del name) stage = omega arith

flight_cut : (s0 s : Index) (i : ℕ) (c : CoreCall) → Lone s0 s i c → CutsOff s0 i c s
flight_cut s0 s i c o = record {
  state = o.start.state;
  there = o.start.there;
  cut = state_with o.start.state (length s0.history) o.machine;
  states = o.states;
  own = refl;
  index = refl;
  makes = op_told (op_of c) o.machine o.call.of;
  writes = has_written s0 s i c o;
  layout = o.call.trying.start.layout;
  generation = o.call.trying.start.generation;
  base = o.same_base;
  busy = inl (lone_flies s0 s i c o);
  weighs =
      let op : op_in o.machine ≡ op_of c = op_told (op_of c) o.machine o.call.of in
      let one = subst (λ (a : NameOp). put_shows (op_in o.machine) (shows (stage_of o.machine)) ≤ put_count a) op (shows_at_most (op_in o.machine) (stage_of o.machine)) in
      let light = o.weighs in
      omega (arith, one, light);
  each_lock = inl (flight_each s0 s i c o);
  locks = inl (flight_locks s0 s i c o);
}

pub lone_cut : (s0 s : Index) (i : ℕ) (c : CoreCall) → Lone s0 s i c → CutsTryOff s0 i c s
lone_cut s0 s i c o = record { off = flight_cut s0 s i c o; each_lock = flight_each s0 s i c o; locks = flight_locks s0 s i c o }

pub turn_cut : (s0 s : Index) (i stamp release : ℕ) → LoneTurn s0 s i stamp release → CutsTurnOff s0 i s
turn_cut s0 s i stamp release o = record {
  state = o.start.state;
  there = o.start.there;
  making = o.making;
  states = ap (λ (v : Index). v.states) o.is;
  history = ap (λ (v : Index). v.history) o.is;
  layout = ap (λ (v : Index). v.layout) o.is;
  generation = ap (λ (v : Index). v.generation) o.is;
  base = ap (λ (v : Index). v.base) o.is;
  spare = ap (λ (v : Index). v.spare) o.is;
  anchors = ap (λ (f : Facts). anchors_of f.list) o.keeps.nodes;
  each_lock = λ n.
      let same : node_locks s n ≡ node_locks s0 n = λ k. locks_of (o.is k).generation ((o.keeps.nodes k).version n) in
      omega (arith, same);
  locks =
      let same : locks_left s ≡ locks_left s0 = λ k. fewest_locks (o.is k).generation (o.keeps.nodes k).version (o.is k).layout.nodes in
      omega (arith, same);
  weighs = o.weighs;
}

-- it has taken no lock
turn_each : (s0 s : Index) (i : ℕ) → CutsTurnOff s0 i s → LoseAtMost 1 s0 s
turn_each s0 s i t n = let kept = t.each_lock n in omega (arith, kept)

turn_locks : (s0 s : Index) (i : ℕ) → CutsTurnOff s0 i s → locks_left s0 ≤ locks_left s + 1
turn_locks s0 s i t = let kept = t.locks in omega (arith, kept)

turn_cuts_off : (s0 s : Index) (i : ℕ) (c : CoreCall) → HasNoCalls s0 → CutsTurnOff s0 i s → CutsOff s0 i c s
turn_cuts_off s0 s i c idle t =
    let cut : PartyState = record (t.state) { turn = Some t.making } in
    let none = idle i t.state t.there in
    record {
      state = t.state;
      there = t.there;
      cut = cut;
      states = t.states;
      own = refl;
      index = refl;
      makes = subst (λ (m : Option Running). IfSome m (λ machine. op_in machine ≡ op_of c)) (sym none) tt;
      writes = inl (ap flight_place none, t.history);
      layout = t.layout;
      generation = t.generation;
      base = t.base;
      busy = inr (inl (record { state = cut; machine = t.making; there = ap (λ (l : List PartyState). get_elem? l i) t.states ∙ set_here s0.states i cut t.state t.there; flies = refl }));
      weighs = let light = t.weighs in omega (arith, light);
      each_lock = inl (turn_each s0 s i t);
      locks = inl (turn_locks s0 s i t);
    }

-- whichever call wanted the turn
pub turn_cuts_call : (s0 s : Index) (i : ℕ) (c : CoreCall) → HasNoCalls s0 → CutsTurnOff s0 i s → CutsTryOff s0 i c s
turn_cuts_call s0 s i c idle t = record { off = turn_cuts_off s0 s i c idle t; each_lock = turn_each s0 s i t; locks = turn_locks s0 s i t }

-- An index to which a call has come by tries that were turned back, and by turns: but for words and its party's own
-- state nothing has changed.
pub record Backs (s0 v : Index) (i : ℕ) : Type 0 where
  pub state : PartyState
  pub there : get_elem? s0.states i ≡ some state
  pub now : PartyState
  pub at : get_elem? v.states i ≡ some now
  pub states : (cut : PartyState) → slice_set v.states i cut ≡ slice_set s0.states i cut
  pub own : now.caller ≡ state.caller
  pub index : now.index ≡ state.index
  pub history : v.history ≡ s0.history
  pub layout : v.layout ≡ s0.layout
  pub generation : v.generation ≡ s0.generation
  pub base : v.base ≡ s0.base
  pub weighs : weight_of v ≤ weight_of s0

pub backs_turn : (s0 v new : Index) (i stamp release : ℕ) (answer : Turned) → Backs s0 v i → TurnsAlone v stamp release answer new → Backs s0 new i
backs_turn s0 v new i stamp release answer b t = subst (λ (u : Index). Backs s0 u i) (sym t.is) (record {
  state = b.state;
  there = b.there;
  now = b.now;
  at = b.at;
  states = b.states;
  own = b.own;
  index = b.index;
  history = b.history;
  layout = b.layout;
  generation = b.generation;
  base = b.base;
  weighs =
      let light = subst (λ (u : Index). weight_of u ≤ weight_of v) t.is t.weighs in
      let before = b.weighs in
      omega (arith, light, before);
})

-- A call that is made again was turned back.
pub back_line : (answer : Once Placed) → lacks_line answer ≡ true → (why : Again) × (answer ≡ once.Again why)
back_line (once.Again why) is = (why, refl)
back_line (once.Done placed) is = absurd (cc)
back_line (once.Spent clock) is = absurd (cc)
back_line (once.Worn node word) is = absurd (cc)

pub back_node : (answer : Once Placed) → lacks_node answer ≡ true → (why : Again) × (answer ≡ once.Again why)
back_node (once.Again why) is = (why, refl)
back_node (once.Done placed) is = absurd (cc)
back_node (once.Spent clock) is = absurd (cc)
back_node (once.Worn node word) is = absurd (cc)

pub back_split : (answer : Once Placed) → needs_split answer ≡ true → (why : Again) × (answer ≡ once.Again why)
back_split (once.Again why) is = (why, refl)
back_split (once.Done placed) is = absurd (cc)
back_split (once.Spent clock) is = absurd (cc)
back_split (once.Worn node word) is = absurd (cc)

-- it wrote nothing
wrote_none : (w0 w : World) (op : NameOp) (limit : Option ℕ) (p : Party) (why : Again) → IsAnswered w0 op limit w p (once.Again why) → w.history ≡ w0.history
wrote_none w0 w op limit p again.LogFull (unworn, below, needs, lacks, same, kept, unmoved) = same
wrote_none w0 w op limit p again.NoFree (unworn, below, full, has, none, same, kept, unmoved) = same
wrote_none w0 w op limit p (again.NeedsSplit n) (unworn, below, full, has, free, same, halved, most) = same
wrote_none w0 w op limit p (again.Locked n word) end = absurd end
wrote_none w0 w op limit p (again.Moved n first second) end = absurd end
wrote_none w0 w op limit p (again.Hops count) end = absurd end
wrote_none w0 w op limit p (again.Held word) end = absurd end
wrote_none w0 w op limit p (again.Epoch first second) end = absurd end

pub backs_try : (s0 v new : Index) (i : ℕ) (c : CoreCall) (answer : Once Placed) (why : Again) → Backs s0 v i → TriesAlone v i c new answer → answer ≡ once.Again why → Backs s0 new i
backs_try s0 v new i c answer why b t is =
    let now = state_tried t.state (length v.history) (once.Again why) in
    let states : new.states ≡ slice_set v.states i now = t.states ∙ ap (λ (r : Once Placed). slice_set v.states i (state_tried t.state (length v.history) r)) is in
    let same : t.state ≡ b.now = some-injective _ _ (sym t.there ∙ b.at) in
    let answered : IsAnswered (world v) (op_of c) (limit_of c) (world new) (party_of t.state) (once.Again why) =
    subst (IsAnswered (world v) (op_of c) (limit_of c) (world new) (party_of t.state)) is t.answered in
    record {
      state = b.state;
      there = b.there;
      now = now;
      at = ap (λ (l : List PartyState). get_elem? l i) states ∙ set_here v.states i now t.state t.there;
      states = λ cut. ap (λ (l : List PartyState). slice_set l i cut) states ∙ set_twice v.states i now cut ∙ b.states cut;
      own = ap (λ (e : PartyState). e.caller) same ∙ b.own;
      index = ap (λ (e : PartyState). e.index) same ∙ b.index;
      history = wrote_none (world v) (world new) (op_of c) (limit_of c) (party_of t.state) why answered ∙ b.history;
      layout = t.layout ∙ b.layout;
      generation = t.generation ∙ b.generation;
      base = t.base ∙ b.base;
      weighs =
          let light = subst (λ (r : Once Placed). weight_of new ≤ weight_of v + added_by (op_of c) r) is t.weighs in
          let before = b.weighs in
          omega (arith, light, before);
    }

pub backs_first : (s0 v new : Index) (i : ℕ) (c : CoreCall) (answer : Once Placed) (why : Again) → v ≡ s0 → TriesAlone v i c new answer → answer ≡ once.Again why → Backs s0 new i
backs_first s0 v new i c answer why same t is =
    backs_try s0 v new i c answer why
    (subst (λ (u : Index). (state : PartyState) → get_elem? v.states i ≡ some state → Backs u v i) same
    (λ state there. record { state = state; there = there; now = state; at = there; states = λ cut. refl; own = refl; index = refl; history = refl; layout = refl; generation = refl; base = refl; weighs = omega arith })
    t.state t.there) t is

-- what is cut off behind them, which has taken so many locks
pub cut_behind : (s0 v s : Index) (i : ℕ) (c : CoreCall) → Backs s0 v i → CutsOff v i c s → TakesEachLock i c s0 s × TakesLocks i c s0 s → CutsOff s0 i c s
cut_behind s0 v s i c b t takes =
    let same : t.state ≡ b.now = some-injective _ _ (sym t.there ∙ b.at) in
    let own : t.state.caller ≡ b.state.caller = ap (λ (e : PartyState). e.caller) same ∙ b.own in
    let index : t.state.index ≡ b.state.index = ap (λ (e : PartyState). e.index) same ∙ b.index in
    record {
      state = b.state;
      there = b.there;
      cut = t.cut;
      states = t.states ∙ b.states t.cut;
      own = t.own ∙ own;
      index = t.index ∙ index;
      makes = t.makes;
      writes = ⊎_elim
          (λ (none : (flight_place t.cut.machine ≡ None) × (s.history ≡ v.history)). inl (none.0, none.1 ∙ b.history))
          (λ (one : (change : Change) × (change_of (op_of c) ≡ Some change) × (flight_place t.cut.machine ≡ Some (length v.history)) × (s.history ≡ v.history ++ record { caller = t.state.caller; index = t.state.index; change = change } ∷ [])).
          inr (one.0, one.1, one.2 ∙ ap (λ (h : List Write). Some (length h)) b.history, one.3 ∙ (λ k. b.history k ++ record { caller = own k; index = index k; change = one.0 } ∷ [])))
          t.writes;
      layout = t.layout ∙ b.layout;
      generation = t.generation ∙ b.generation;
      base = t.base ∙ b.base;
      busy = t.busy;
      weighs = let light = t.weighs in let before = b.weighs in omega (arith, light, before);
      each_lock = takes.0;
      locks = takes.1;
    }

-- How a whole call stands behind some of its tries.
pub record Stood (s0 s : Index) (i : ℕ) (c : CoreCall) (answer : Once Placed) : Type 0 where
  pub index : IsIndex s
  pub still : IsStill i s
  pub was : IsQuiet s → IsQuiet s0
  pub spare : s0.spare + length s0.history ≤ s.spare + length s.history
  pub layout : s.layout ≡ s0.layout
  pub back : (why : Again) → answer ≡ once.Again why → Backs s0 s i

pub stood_first : (s0 s : Index) (i : ℕ) (c : CoreCall) (answer : Once Placed) → IsStill i s0 → TriedAlone s0 i c s answer → IsIndex s → Stood s0 s i c answer
stood_first s0 s i c answer still t is = record {
  index = is;
  still = t.still i still;
  was = tried_was s0 s i c answer t.tries still.calls;
  spare = t.spare;
  layout = t.tries.layout;
  back = λ why told. backs_first s0 s0 s i c answer why refl t.tries told;
}

pub stood_again : (s0 s s' : Index) (i : ℕ) (c : CoreCall) (answer then : Once Placed) (why : Again) → Stood s0 s i c answer → answer ≡ once.Again why → TriedAlone s i c s' then → IsIndex s' → Stood s0 s' i c then
stood_again s0 s s' i c answer then why b told t is = record {
  index = is;
  still = t.still i b.still;
  was = λ quiet. b.was (tried_was s s' i c then t.tries b.still.calls quiet);
  spare = let first = b.spare in let more = t.spare in omega arith;
  layout = t.tries.layout ∙ b.layout;
  back = λ other is'. backs_try s0 s s' i c then other (b.back why told) t.tries is';
}

pub stood_behind : (s0 s s' : Index) (i : ℕ) (c : CoreCall) (answer then : Once Placed) (why : Again) → Stood s0 s i c answer → answer ≡ once.Again why → TriedBehindTurn s i c s' then → IsIndex s' → Stood s0 s' i c then
stood_behind s0 s s' i c answer then why b told t is =
    let u = t.tries in
    let turned = backs_turn s0 s u.between i 1 1 u.turned (b.back why told) u.turn in
    record {
      index = is;
      still = quiet_is_still i s' t.quiet;
      was = λ _. b.was t.before;
      spare = let first = b.spare in let more = t.spare in omega arith;
      layout = u.tries.layout ∙ turned.layout;
      back = λ other is'. backs_try s0 u.between s' i c then other turned u.tries is';
    }

-- room for its write is left, as long as it was turned back
pub stood_spare : (s0 s : Index) (i : ℕ) (c : CoreCall) (answer : Once Placed) (why : Again) → Stood s0 s i c answer → answer ≡ once.Again why → most_writes c ≤ s0.spare → most_writes c ≤ s.spare
stood_spare s0 s i c answer why b told room =
    let same = ap length (b.back why told).history in
    let left = b.spare in
    omega arith

-- a turn that is cut off, or a try behind one
pub behind_turn : (s0 between s : Index) (i : ℕ) (c : CoreCall) (turned : Turned) (result : Option (Once Placed)) → IsIndex s0 → IsQuiet s0 → i < s0.layout.callers → TurnsAlone s0 1 1 turned between → IsQuiet between → IsIndex between
    → ComesTo result (λ answer. TriedAlone between i c s answer) (CutsTryOff between i c s) → (state : PartyState) → get_elem? s0.states i ≡ some state → ComesTo result (λ answer. TriedBehindTurn s0 i c s answer) (CutsTryOff s0 i c s)
behind_turn s0 between s i c turned (Some answer) is quiet here turn still index t state there = record {
  tries = record { between = between; turned = turned; turn = turn; quiet = still; index = index; tries = t.tries; each_lock = t.each_lock; locks = t.locks };
  before = quiet;
  quiet = t.quiet still;
  spare = let same = ap (λ (v : Index). v.spare + length v.history) turn.is in let more = t.spare in omega arith;
}
behind_turn s0 between s i c turned None is quiet here turn still index t state there = record { off = off; each_lock = each; locks = fewest }
  where
    -- the turn took no lock
    each : LoseAtMost 1 s0 s
    each n =
        let same : node_locks between n ≡ node_locks s0 n = λ k. locks_of (turn.is k).generation ((turn.lone.kept.facts k).version n) in
        let one = t.each_lock n in
        omega (arith, same, one)

    fewest : locks_left s0 ≤ locks_left s + 1
    fewest =
        let same : locks_left between ≡ locks_left s0 = λ k. fewest_locks (turn.is k).generation (turn.lone.kept.facts k).version (turn.is k).layout.nodes in
        let one = t.locks in
        omega (arith, same, one)

    off : CutsOff s0 i c s
    off =
        cut_behind s0 between s i c
        (backs_turn s0 s0 between i 1 1 turned (record { state = state; there = there; now = state; at = there; states = λ cut. refl; own = refl; index = refl; history = refl; layout = refl; generation = refl; base = refl; weighs = omega arith }) turn)
        t.off (inl each, inl fewest)
