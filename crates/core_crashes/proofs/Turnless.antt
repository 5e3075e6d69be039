-- Calls that make no turns of the updater: how many events each takes of its budget, and what it leaves to those behind it.
use Rattle.std.proofs.Common.{◌≡◌, ◌≢◌, ℕ, zero, suc, ◌+◌, ◌*◌, ◌/◌, ◌<◌, ◌≤◌, ◌==◌, ◌⊎◌, ⊎_elim, Bool, true, false}
use Rattle.std.proofs.Common.{cond, List, [], ◌∷◌, ◌++◌, drop, take, length, map, All, refl, sym, ap, subst, ◌∙◌}
use Rattle.std.proofs.Common.{arith}
use Rattle.std.proofs.lemmas.List.Sums.{sum_by-cons, sum_by-take-drop}
use Rattle.std.proofs.lemmas.Option.{slice_get-map, slice_get_within}
use Rattle.std.specs.Prelude.{Option, Some, None, Result, Ok, Err, option_map, slice_get}
use Rattle.cat_history.specs.Maps.{Map}
use Rattle.cat_history.specs.Records.{as_op, call_of, change_of, numbered}
use Rattle.cat_history.specs.Rounds.{IsAnswered}
use Rattle.cat_history.specs.CrashRounds.{all_settled, settled, settled_reply}
use Rattle.cat_history.specs.declared.op.CallerOp.{CallerOp}
use Rattle.cat_history.specs.declared.op.Op.{Op}
use Rattle.cat_history.specs.declared.op.Op.TheVariants.{Put, Get, Del, Scan}
use Rattle.cat_history.specs.declared.record.Record.{Record}
use Rattle.cat_history.specs.declared.record.Reply.{Reply}
use Rattle.cat_history.specs.declared.record.Reply.TheVariants.{Old, Parts, Full, Spent, Cut, Unstarted}
use Rattle.pm_words.specs.Codes.{empty_state, ready_state, gone_status}
use Rattle.pm_words.specs.declared.again.Again.{Again}
use Rattle.pm_words.specs.declared.layout.Layout.{Layout}
use Rattle.pm_words.specs.Locations.{Cached, Clock}
use Rattle.pm_words.specs.Offsets.{state_offset}
use Rattle.pm_words.proofs.Apart.{at-set_other}
use Rattle.call_stages.specs.declared.once.Once.{Once}
use Rattle.call_stages.specs.declared.once.Once.TheVariants as once
use Rattle.call_stages.specs.declared.once.Placed.{Placed}
use Rattle.core_rounds.specs.lone_updater_law.specs.CallLogs.{empty_lines, ready_lines}
use Rattle.core_rounds.specs.lone_updater_law.specs.LoneTurns.{line_state}
use Rattle.core_rounds.specs.updater_row_law.specs.Columns.{line_count, line_word}
use Rattle.core_rounds.specs.updater_row_law.proofs.RowColumns.{column-same}
use Rattle.core_rounds.specs.updater.specs.Events.{how_many}
use Rattle.core_rounds.specs.index_core.specs.CoreCalls.{most_writes, op_of}
use Rattle.core_rounds.specs.index_core.specs.Costs.{WithMost, most_actions}
use Rattle.core_rounds.specs.index_core.specs.Indexes.{Index, IsIndex, map_of_index, world}
use Rattle.core_rounds.specs.index_core.specs.Lone.{HasShortWays, IsQuiet, IsStill, NeedsNoTurn, RunsAlone}
use Rattle.core_rounds.specs.index_core.specs.Lone.{locks_left, taken_nodes, whole_of}
use Rattle.core_rounds.specs.index_core.specs.Rounds.{BeginsRound, round_index}
use Rattle.core_rounds.specs.index_core.specs.Withins.{ComesInTime}
use Rattle.core_rounds.specs.index_core.specs.declared.party.CoreCall.{CoreCall}
use Rattle.core_rounds.specs.index_core.specs.declared.party.CoreCall.TheVariants as call
use Rattle.core_rounds.specs.index_core.proofs.Costs.{actions_are_few}
use Rattle.core_rounds.specs.index_core.proofs.Taken.{del_length, put_length, taken_kept}
use Rattle.version_lock.specs.Versions.{IsWorn}
use Rattle.shapes.specs.Anchors.{Anchors, del_anchors, merges, middle_of, past, put_anchors, splits, up_to}
use Rattle.shapes.specs.declared.map.Full.{Full as NoRoom}
use Rattle.index_law.specs.Anchors.{anchors_in, anchors_of, gone_nodes}
use Rattle.index_law.specs.Facts.{Facts}
use Rattle.index_law.specs.Worlds.{facts}
use Rattle.core_rounds.specs.lone_call_law.specs.Locks.{fewest_locks}
use Rattle.core_rounds.specs.lone_call_law.proofs.Locks.{worn_has_none}
use Rattle.core_rounds.specs.lone_updater_law.specs.CallLogs.{is_own_empty}
use Rattle.core_rounds.specs.lone_updater_law.specs.LoneTurns.{is_ready, stamp_in}
use Rattle.core_rounds.specs.lone_updater_law.proofs.Ending.{gone_are_held_back}
use Rattle.core_rounds.specs.updater.specs.declared.terms.Turned.{Turned}
use Rattle.core_rounds.specs.index_core.specs.Fulls.{HasLowStamps}
use Rattle.core_rounds.specs.index_core.specs.Indexes.{layered}
use Rattle.core_rounds.specs.index_core.specs.Turns.{TurnsAlone}
use Rattle.core_rounds.specs.index_core.proofs.Retrying.{turned_short}
use Rattle.stopped_rounds.specs.Bounded.{MapState}
use Rattle.stopped_rounds.specs.InTime.{AreInTime}
use Rattle.core_rounds.specs.CoreMaps.{IsUnlimited, Waits, calls_left_of, changes_for, puts_for}
use Rattle.core_rounds.specs.Waiting.{one_if, one_put, one_write, puts_among, writes_among}
use Rattle.core_rounds.proofs.CoreMaps.{all_many, locks_remain, none_many}
use Rattle.core_rounds.proofs.Waiting.{needs_none, waits_full, waits_placed}
use Rattle.std.proofs.lemmas.Bool.{eq-eqb, ne_eqb}
use Rattle.core_rounds.specs.CrashWork.{most_events}
use Rattle.core_crashes.specs.CrashMaps.{FindRoom, Gave, MakeNoTurns, Stoppable, anchors_left, calls_of, members_of}

-- ---- the calls, counted

one_so : (c : CoreCall) (op : Op) → IsUnlimited c → op ≡ as_op (op_of c) → (one_write op ≡ most_writes c) × (one_put op ≡ puts_for c)
one_so (call.Put name value limit) op unlimited same = (ap one_write same, ap one_put same)
one_so (call.Get name) op unlimited same = (ap one_write same, ap one_put same)
one_so (call.Del name limit) op unlimited same = (ap one_write same, ap one_put same)
one_so (call.Part low count) op unlimited same = absurd unlimited
one_so (call.Recheck node version) op unlimited same = absurd unlimited
one_so (call.Turn stamp release) op unlimited same = absurd unlimited

writes_more : (a : CallerOp) (rest : List CallerOp) → writes_among (a ∷ rest) ≡ one_write a.op + writes_among rest
writes_more a rest = sum_by-cons (λ (b : CallerOp). one_write b.op) a rest

puts_more : (a : CallerOp) (rest : List CallerOp) → puts_among (a ∷ rest) ≡ one_put a.op + puts_among rest
puts_more a rest = sum_by-cons (λ (b : CallerOp). one_put b.op) a rest

-- room for more calls is room for those behind the first of them
pub fewer_turns : (s : Index) (a : CallerOp) (rest : List CallerOp) → MakeNoTurns s (a ∷ rest) → MakeNoTurns s rest
fewer_turns s a rest m =
    let writes = writes_more a rest in
    let puts = puts_more a rest in
    let few = m.few in
    let nodes = m.waits.nodes in
    record {
      short = m.short;
      changes = m.changes;
      few = omega (arith, few, writes);
      waits = record { ready = m.waits.ready; lines = λ caller here. (let lines = m.waits.lines caller here in omega (arith, lines, writes)); nodes = omega (arith, nodes, puts) };
    }

-- ---- one call

changes_few : (s : Index) (c : CoreCall) → IsUnlimited c → changes_for s c ≤ most_writes c
changes_few s (call.Put name value limit) unlimited = one_few (splits s.layout.slots (map_of_index s) (anchors_in (world s)) name)
  where
    one_few : (b : Bool) → one_if b ≤ 1
    one_few true = omega arith
    one_few false = omega arith
changes_few s (call.Get name) unlimited = omega arith
changes_few s (call.Del name limit) unlimited = one_few (merges s.layout.slots (map_of_index s) (anchors_in (world s)) name)
  where
    one_few : (b : Bool) → one_if b ≤ 1
    one_few true = omega arith
    one_few false = omega arith
changes_few s (call.Part low count) unlimited = absurd unlimited
changes_few s (call.Recheck node version) unlimited = absurd unlimited
changes_few s (call.Turn stamp release) unlimited = absurd unlimited

few_events : (s : Index) (c : CoreCall) → IsIndex s → IsUnlimited c → ready_lines (world s) ≤ 8 → most_actions s.layout c (ready_lines (world s)) ≤ most_events
few_events s (call.Put name value limit) is unlimited few = let most = actions_are_few s.layout (call.Put name value limit) (ready_lines (world s)) is.lawful.row.layout in omega (arith, few, most)
few_events s (call.Get name) is unlimited few = let most = actions_are_few s.layout (call.Get name) (ready_lines (world s)) is.lawful.row.layout in omega (arith, few, most)
few_events s (call.Del name limit) is unlimited few = let most = actions_are_few s.layout (call.Del name limit) (ready_lines (world s)) is.lawful.row.layout in omega (arith, few, most)
few_events s (call.Part low count) is unlimited few = absurd unlimited
few_events s (call.Recheck node version) is unlimited few = absurd unlimited
few_events s (call.Turn stamp release) is unlimited few = absurd unlimited

module _ (s : Index) (caller : ℕ) (c : CoreCall) (a : CallerOp) (rest : List CallerOp) (here : caller < s.layout.callers) (is : IsIndex s) (still : IsStill caller s) (left : 0 < calls_left_of s)
    (unlimited : IsUnlimited c) (same : a.op ≡ as_op (op_of c)) (m : MakeNoTurns s (a ∷ rest)) where
  writes : writes_among (a ∷ rest) ≡ writes_among rest + most_writes c
  writes = let more = writes_more a rest in let one = (one_so c a.op unlimited same).0 in omega (arith, more, one)

  puts : puts_among (a ∷ rest) ≡ puts_among rest + puts_for c
  puts = let more = puts_more a rest in let one = (one_so c a.op unlimited same).1 in omega (arith, more, one)

  waits : Waits s m.changes (writes_among rest + most_writes c) (puts_among rest + puts_for c)
  waits = subst (λ (q : ℕ × ℕ). Waits s m.changes q.0 q.1) (λ k. (writes k, puts k)) m.waits

  needs : NeedsNoTurn caller c s
  needs = needs_none caller s c m.changes (writes_among rest) (puts_among rest) here is still.calls left waits

  few : most_actions s.layout c (ready_lines (world s)) ≤ most_events
  few = let ready = m.waits.ready in let small = m.few in few_events s c is unlimited (omega (arith, ready, small))

  -- it is cut off only with little
  pub cut_in_time : (budget before after : ℕ) → WithMost s caller c (ComesInTime {T = Once Placed} None budget before after) → budget < most_events
  cut_in_time budget before after told = let little = told m.short needs in let most = few in omega (arith, little, most)

  -- it was answered
  taken : (answer : Once Placed) (budget left' before after : ℕ) → WithMost s caller c (ComesInTime (Some answer) budget before after) → after + left' ≡ before + budget → budget ≤ left' + most_events
  taken answer budget left' before after told spent = let most = few in let made = told m.short needs in omega (arith, made, most, spent)

  module _ (new : Index) (answer : Once Placed) (ran : RunsAlone s caller c new (whole_of answer)) where
    short_then : HasShortWays new
    short_then = (ran.short m.short).0

    placed_then : (placed : Placed) → answer ≡ once.Done placed → MakeNoTurns new rest
    placed_then placed done =
        let more = changes_few s c unlimited in
        let small = m.few in
        let all = writes in
        record {
          short = short_then;
          changes = m.changes + changes_for s c;
          few = omega (arith, more, small, all);
          waits = waits_placed caller s new c (whole_of answer) placed here is still.calls left (ap whole_of done) ran m.changes (writes_among rest) (puts_among rest) waits;
        }

    full_then : (why : Again) → answer ≡ once.Again why → MakeNoTurns new rest
    full_then why full =
        let small = m.few in
        let all = writes in
        record {
          short = short_then;
          changes = m.changes;
          few = omega (arith, small, all);
          waits = waits_full caller s new c (whole_of answer) here is still.calls left (ap whole_of full) ran m.changes (writes_among rest) (puts_among rest) waits;
        }

    pub answered_in_time : (budget left' before after : ℕ) → WithMost s caller c (ComesInTime (Some answer) budget before after) → after + left' ≡ before + budget
        → ((placed : Placed) × (answer ≡ once.Done placed)) ⊎ ((why : Again) × (answer ≡ once.Again why)) → (budget ≤ left' + most_events) × MakeNoTurns new rest
    answered_in_time budget left' before after told spent ends = (
      taken answer budget left' before after told spent,
      ⊎_elim
          (λ (done : (placed : Placed) × (answer ≡ once.Done placed)). placed_then done.0 done.1)
          (λ (full : (why : Again) × (answer ≡ once.Again why)). full_then full.0 full.1)
          ends,
    )

-- ---- room for calls

anchors_few : (slots : ℕ) (s : MapState) (c : CoreCall) → IsUnlimited c → length (anchors_left slots s (change_of (op_of c))) ≤ length s.anchors + puts_for c
anchors_few slots s (call.Put name value limit) unlimited = at (splits slots s.contents s.anchors name) refl
  where
    at : (b : Bool) → splits slots s.contents s.anchors name ≡ b → length (put_anchors slots s.contents s.anchors name) ≤ length s.anchors + 1
    at true is = let more = put_length slots s.contents s.anchors name is in omega (arith, more)
    at false is =
        let same : put_anchors slots s.contents s.anchors name ≡ s.anchors = ap (λ (b : Bool). cond b (up_to s.anchors name ++ middle_of slots s.contents s.anchors name ∷ past s.anchors name) s.anchors) is in
        let size = ap length same in
        omega (arith, size)
anchors_few slots s (call.Get name) unlimited = omega arith
anchors_few slots s (call.Del name limit) unlimited = at (merges slots s.contents s.anchors name) refl
  where
    at : (b : Bool) → merges slots s.contents s.anchors name ≡ b → length (del_anchors slots s.contents s.anchors name) ≤ length s.anchors + 0
    at true is = let less = del_length slots s.contents s.anchors name is in omega (arith, less)
    at false is =
        let same : del_anchors slots s.contents s.anchors name ≡ s.anchors = ap (λ (b : Bool). cond b (up_to s.anchors name ++ drop 1 (past s.anchors name)) s.anchors) is in
        let size = ap length same in
        omega (arith, size)
anchors_few slots s (call.Part low count) unlimited = absurd unlimited
anchors_few slots s (call.Recheck node version) unlimited = absurd unlimited
anchors_few slots s (call.Turn stamp release) unlimited = absurd unlimited

pub members_after : (slots most : ℕ) (s : MapState) (c : CoreCall) (answer : Result (Option ℕ) NoRoom) (new : MapState) → IsUnlimited c → Gave slots most s c answer new → length new.anchors ≤ length s.anchors + puts_for c
members_after slots most s c (Ok old) new unlimited (none, told, contents, anchors, cut) = let same = ap length anchors in let few = anchors_few slots s c unlimited in omega (arith, same, few)
members_after slots most s c (Err full) new unlimited (is, kept) = let same = ap length kept.1 in omega (arith, same)

pub room_then : (first : Anchors) (m new : Stoppable) (c : CoreCall) (a : CallerOp) (more : List CallerOp) → IsUnlimited c → a.op ≡ as_op (op_of c) → FindRoom first m (a ∷ more) → new.index.layout ≡ m.index.layout → calls_of m ≤ calls_of new + 1
    → length (members_of first new) ≤ length (members_of first m) + puts_for c → new.turning ≡ m.turning → FindRoom first new more
room_then first m new c a more unlimited same room layout calls members turns =
    let nodes : new.index.layout.nodes ≡ m.index.layout.nodes = ap (λ (l : Layout). l.nodes) layout in
    let puts = puts_more a more in
    let one = (one_so c a.op unlimited same).1 in
    let has = room.nodes in
    let left = room.calls in
    record { turns = turns ∙ room.turns; nodes = omega (arith, nodes, puts, one, has, members); calls = omega (arith, left, calls) }

pub fewer_room : (first : Anchors) (m : Stoppable) (a : CallerOp) (more : List CallerOp) → FindRoom first m (a ∷ more) → FindRoom first m more
fewer_room first m a more room =
    let puts = puts_more a more in
    let has = room.nodes in
    let left = room.calls in
    record { turns = room.turns; nodes = omega (arith, puts, has); calls = omega (arith, left) }

pub room_stays : (first : Anchors) (m new : Stoppable) (more : List CallerOp) → FindRoom first m more → new.index.layout ≡ m.index.layout → members_of first new ≡ members_of first m → calls_of m ≤ calls_of new → new.turning ≡ m.turning → FindRoom first new more
room_stays first m new more room layout members calls turns =
    let nodes : new.index.layout.nodes ≡ m.index.layout.nodes = ap (λ (l : Layout). l.nodes) layout in
    let size = ap length members in
    let has = room.nodes in
    let left = room.calls in
    record { turns = turns ∙ room.turns; nodes = omega (arith, nodes, size, has); calls = omega (arith, left, calls) }

-- ---- a turn of the updater

pub turned_calls : (s new : Index) (answer : Turned) → TurnsAlone s 1 1 answer new → calls_left_of new ≡ calls_left_of s
turned_calls s new answer t =
    let locks : locks_left new ≡ locks_left s = λ k. fewest_locks (t.is k).generation (t.lone.kept.facts k).version (t.is k).layout.nodes in
    ap (λ (n : ℕ). n / 4) locks

writes_few : (asked : List CallerOp) → writes_among asked ≤ length asked
writes_few [] = omega arith
writes_few (a ∷ rest) = let more = writes_more a rest in let few = writes_few rest in let one = one_write_few a.op in omega (arith, more, few, one)
  where
    one_write_few : (op : Op) → one_write op ≤ 1
    one_write_few (Put name value) = omega arith
    one_write_few (Get name) = omega arith
    one_write_few (Del name) = omega arith
    one_write_few (Scan from count) = omega arith

take_few : (calls : ℕ) (asked : List CallerOp) → length (take calls asked) ≤ calls
take_few zero asked = omega arith
take_few (suc calls) [] = omega arith
take_few (suc calls) (a ∷ rest) = let few = take_few calls rest in omega (arith, few)

none_gone : (f : Facts) (n : ℕ) → ((k : ℕ) → k < n → f.status k ≢ gone_status) → gone_nodes n f ≡ 0
none_gone f zero none = refl
none_gone f (suc n) none =
    let before = none_gone f n (λ k small. none k (omega (arith, small))) in
    let here : (f.status n == gone_status) ≡ false = ne_eqb (f.status n) gone_status (none n (omega arith)) in
    let one = ap {B = ℕ} (λ (b : Bool). cond b 1 0) here in
    omega (arith, before, one)

-- behind it the next calls make none, as many as there are lines, if there is room
pub turned_turnless : (s new : Index) (answer : Turned) (calls : ℕ) (more : List CallerOp) → TurnsAlone s 1 1 answer new → IsIndex new → IsQuiet new → HasLowStamps new → 0 < calls_left_of new → length (anchors_in (world s)) + puts_among more < s.layout.nodes → calls ≤ 8
    → MakeNoTurns new (take calls more)
turned_turnless s new answer calls more t is quiet low left room few =
    let writes = writes_few (take calls more) in
    let size = take_few calls more in
    record {
      short = turned_short s new 1 1 answer t is quiet;
      changes = 0;
      few = omega (arith, writes, size, few);
      waits = record {
        ready = none_many (is_ready (world new)) (line_count new.layout) (λ k small. ap (λ (state : ℕ). state == ready_state) (t.lone.empty k));
        lines = λ caller here.
            (let all = all_many (is_own_empty caller (world new)) 8 (λ k small. eq-eqb (line_state (world new) (8 * caller + k)) empty_state (t.lone.empty (8 * caller + k))) in
            omega (arith, all, writes, size, few));
        nodes =
            let same : new.layout.nodes ≡ s.layout.nodes = ap (λ (v : Index). v.layout.nodes) t.is in
            let members : length (anchors_in (world new)) ≡ length (anchors_in (world s)) = λ k. length (anchors_of (t.lone.kept.facts k).list) in
            let none : gone_nodes new.layout.nodes (facts (world new)) ≡ 0 = none_gone (facts (world new)) new.layout.nodes (λ n here gone. held n here gone) in
            let puts = sum_by-take-drop (λ (a : CallerOp). one_put a.op) more calls in
            omega (arith, same, members, none, puts, room);
      };
    }
  where
    held : (n : ℕ) → n < new.layout.nodes → (facts (world new)).status n ≡ gone_status → ⊥
    held n here gone = ⊎_elim
        (λ (worn : IsWorn ((facts (world new)).version n) new.generation).
        let none = worn_has_none new.generation (facts (world new)).version n new.layout.nodes here worn in
        let some = locks_remain new left in
        omega (arith, none, some))
        (λ (high : 1 < stamp_in (world new) n). let small = low n here in omega (arith, high, small))
        (gone_are_held_back (layered s) 1 1 answer (layered new) n t.lone (subst (λ (l : Layout). n < l.nodes) (ap (λ (v : Index). v.layout) t.is) here) gone)

-- ---- a round begins

module _ (core round mid : Index) (begins : BeginsRound core round) (kept : mid ≡ record round { spare = mid.spare }) where
  same_layout : round.layout ≡ core.layout
  same_layout = ap (λ (s : Index). s.layout) begins.is

  -- log lines stand in words of their own
  lines_stay : line_state (world (round_index core 0)) ≡ line_state (world core)
  lines_stay = column-same core.layout core.words (round_index core 0).words (line_count core.layout) (λ j. Cached (line_word state_offset j))
      (λ j here. at-set_other core.layout core.words Clock (Cached (line_word state_offset j)) 0 tt (omega (arith, here), omega (arith, here), omega arith) (λ e. cc))

  lines_are : line_state (world round) ≡ line_state (world core)
  lines_are = ap (λ (s : Index). line_state (world s)) begins.is ∙ lines_stay

  ready_is : ready_lines (world round) ≡ ready_lines (world core)
  ready_is = λ k. how_many (λ j. lines_are k j == ready_state) (line_count (same_layout k))

  empty_is : (caller : ℕ) → empty_lines caller (world round) ≡ empty_lines caller (world core)
  empty_is caller = λ k. how_many (λ j. lines_are k (8 * caller + j) == empty_state) 8

  taken_is : taken_nodes round ≡ taken_nodes core
  taken_is = taken_kept core round same_layout (begins.list, begins.most)

  pub begun_turnless : (HasShortWays core → HasShortWays round) → (asked : List CallerOp) → MakeNoTurns core asked → MakeNoTurns mid asked
  begun_turnless short asked m =
      subst (λ (s : Index). MakeNoTurns s asked) (sym kept) (record {
        short = short m.short;
        changes = m.changes;
        few = m.few;
        waits = record {
          ready = ready_is ∙ m.waits.ready;
          lines = λ caller here.
              (let callers : round.layout.callers ≡ core.layout.callers = ap (λ (l : Layout). l.callers) same_layout in
              let lines = m.waits.lines caller (omega (arith, here, callers)) in
              let same = empty_is caller in
              omega (arith, lines, same));
          nodes =
              let nodes : round.layout.nodes ≡ core.layout.nodes = ap (λ (l : Layout). l.nodes) same_layout in
              let taken = taken_is in
              let room = m.waits.nodes in
              omega (arith, nodes, taken, room);
        };
      })

-- ---- settled records

answered_stays : (end : Map) (op : Op) (reply : Reply) → IsAnswered reply → IsAnswered (settled_reply end op reply)
answered_stays end op (Old old place) is = is
answered_stays end op (Parts parts cut) is = is
answered_stays end op Full is = is
answered_stays end op (Spent clock) is = is
answered_stays end op (Cut mark) is = absurd is
answered_stays end op Unstarted is = absurd is

was_some : {A B : Type 0} (f : A → B) (o : Option A) (y : B) → option_map f o ≡ Some y → (x : A) × (o ≡ Some x) × (f x ≡ y)
was_some f (Some x) y is = (x, refl, cc)
was_some f None y is = absurd (cc)

pub in_time-settled : (end : Map) (most budget : ℕ) (records : List Record) → AreInTime most budget records → AreInTime most budget (all_settled end records)
in_time-settled end most budget records all i r at enough =
    let was = was_some (settled end) (slice_get records i) r (sym (slice_get-map (settled end) records i) ∙ at) in
    subst (λ (q : Record). IsAnswered q.reply) was.2 (answered_stays end was.0.op was.0.reply (all i was.0 was.1 enough))

-- the one caller of the calls has one budget
pub in_time-of : (caller of budget given : ℕ) (ops : List CallerOp) (budgets : List ℕ) (most : ℕ) (records : List Record) → All (λ (a : CallerOp). a.caller ≡ caller) ops → All (λ (a : CallerOp). a.caller ≡ of) ops → map call_of records ≡ numbered ops
    → slice_get budgets caller ≡ Some budget → slice_get budgets of ≡ Some given → AreInTime most budget records → AreInTime most given records
in_time-of caller of budget given [] budgets most [] lone own calls has gives all = λ i r at enough. absurd (let within = slice_get_within [] i r at in omega (arith, within))
in_time-of caller of budget given [] budgets most (q ∷ records) lone own calls has gives all = absurd (let no = ap length calls in omega (arith, no))
in_time-of caller of budget given (a ∷ ops) budgets most records lone own calls has gives all =
    let same : caller ≡ of = sym (lone 0 a (omega arith)) ∙ own 0 a (omega arith) in
    let one : Some budget ≡ Some given = sym has ∙ ap (slice_get budgets) same ∙ gives in
    subst (λ n. AreInTime most n records) (some_same one) all
  where
    some_same : {x y : ℕ} → Some x ≡ Some y → x ≡ y
    some_same e = cc
