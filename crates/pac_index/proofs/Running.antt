-- How a call goes on by one step, and what it is answered at its end.
use Rattle.std.proofs.Common.{◌≡◌, ℕ, ◌+◌, ◌<◌, ◌≤◌, List, [], ◌∷◌, ◌++◌, length, refl, sym, ap, ◌∙◌, subst, arith}
use Rattle.std.proofs.lemmas.List.{append_assoc, append-nil, length-append}
use Rattle.std.specs.Prelude.{Option, Some, None, IfSome, IsSome, IsSomeAnd}
use Rattle.pm_words.specs.Turns.{turn_of}
use Rattle.cat_history.specs.Maps.{Map, map_of}
use Rattle.cat_history.specs.Writes.{after}
use Rattle.cat_history.specs.Records.{change_of}
use Rattle.cat_history.specs.declared.op.Change.{Change}
use Rattle.cat_history.specs.declared.op.NameOp.{NameOp}
use Rattle.cat_history.specs.declared.op.Write.{Write}
use Rattle.pm_words.specs.declared.machine.Turn.{Turn}
use Rattle.pm_words.specs.declared.machine.Turn.TheVariants.{Go, Done}
use Rattle.pm_words.specs.Turns.{GoesBelow}
use Rattle.call_stages.specs.declared.once.Once.{Once}
use Rattle.call_stages.specs.declared.once.Once.TheVariants as once
use Rattle.call_stages.specs.declared.once.Placed.{Placed}
use Rattle.call_stages.specs.Stages.{counted, placed_in}
use Rattle.node_ops.specs.declared.call.Call.{Call}
use Rattle.node_ops.specs.declared.part.PartWords.{PartWords}
use Rattle.node_ops.specs.declared.running.Running.{Running}
use Rattle.node_ops.specs.declared.running.Running.TheVariants.{Parting}
use Rattle.node_ops.specs.Asked.{IsOf, IsOfAfter, op_in, name_asked}
use Rattle.node_ops.specs.Calls.{IsSame, at_node}
use Rattle.node_ops.specs.PartSteps.{IsEarly, early_of, part_turned, words_placed}
use Rattle.node_ops.specs.RunningSteps.{running_call, running_left, running_turned, IsRunning, Sound, count_in, listed_in}
use Rattle.node_ops.specs.CallStages.{stage_of, reply_of}
use Rattle.node_ops.proofs.OpLaw.{counts_own_change, op_told}
use Rattle.node_ops.specs.Parts.{Confirms}
use Rattle.node_ops.proofs.PartListing.{listed_is_answered, done_is_listed}
use Rattle.index_law.specs.Worlds.{written}
use Rattle.index_core.specs.declared.party.CoreCall.{CoreCall}
use Rattle.index_core.specs.declared.party.CoreCall.TheVariants as call
use Rattle.index_core.specs.declared.party.PartyState.{PartyState}
use Rattle.index_core.specs.Answers.{HasOwnWrite, FoundNoRoom, SaysOf, IsAnswerOf}
use Rattle.index_core.specs.CoreCalls.{op_of, limit_of}
use Rattle.index_core.specs.Listings.{ListsRange}
use Rattle.index_core.specs.PartyStates.{state_after}
use Rattle.index_core.specs.Indexes.{MakesCall}
use Rattle.pac_index.specs.declared.rule.About.{About}
use Rattle.pac_index.specs.declared.rule.AnsweredPart.{AnsweredPart}
use Rattle.pac_index.specs.declared.rule.Member.{Member}
use Rattle.index_core.specs.Heard.{RunningTold}
use Rattle.pac_index.specs.Budgets.{StopsAt}
use Rattle.pac_index.specs.Kept.{HasPart, answered_now, placed_by, noted, Goes, GoesTimely, view_in, machine_in, calling, added_now}
use Rattle.pac_index.specs.Calls.{own_at, run_of, began, Runs, Answers, part_in, PartAnswers, StepsOn, turn_left}
use Rattle.index_core.specs.MachineLaws.{IsNoEpoch, ReadyAfter, place_now, place_next}
use Rattle.index_core.proofs.MachineLaw.{first_ready, places_follow}
use Rattle.index_core.proofs.Told.{is_early}
use Rattle.index_core.proofs.Causes.{nothing_told, running_told}
use Rattle.pac_index.proofs.Known.{answered_here, has_last, still_longer}
use Rattle.pac_index.proofs.PartRuns.{run_more, run_counts, early_ran, listed_ran, early_placed, early_lists}
use Rattle.pac_index.proofs.Lists.{begins_self, begins_trans}

-- the writes of a call after a step
own_after : (c i x : ℕ) (m : Running) → IsRunning m → IsOf (op_in m) m
    → own_at c i (change_of (op_in m)) (place_now (change_of (op_in m)) (running_turned m x)) ≡ own_at c i (change_of (op_in m)) (placed_in (stage_of m)) ++ noted x (written c i (counted (stage_of m)))
own_after c i x m running of =
    let after = places_follow m x running in
    ap (own_at c i (change_of (op_in m))) after.0 ∙ at (counted (stage_of m)) (counts_own_change (op_in m) m of) after.1
  where
    at : (o : Option Change) → IfSome o (λ d. change_of (op_in m) ≡ Some d) → IfSome o (λ d. placed_in (stage_of m) ≡ None)
        → own_at c i (change_of (op_in m)) (place_next (placed_in (stage_of m)) x o) ≡ own_at c i (change_of (op_in m)) (placed_in (stage_of m)) ++ noted x (written c i o)
    at None asks unplaced = sym (append-nil (own_at c i (change_of (op_in m)) (placed_in (stage_of m))))
    at (Some d) asks unplaced = ap (λ (o : Option Change). noted x (written c i o)) asks ∙ ap (λ (p : Option ℕ). own_at c i (change_of (op_in m)) p ++ noted x (written c i (Some d))) (sym unplaced)

-- what is said of a call is said of the same call, as of an earlier beginning
below_earlier : (limit : Option ℕ) (since earlier : ℕ) → earlier ≤ since → IfSome limit (λ most. since < most) → IfSome limit (λ most. earlier < most)
below_earlier None since earlier le below = tt
below_earlier (Some most) since earlier le below = omega arith

answer_by : (slots : ℕ) (base : Map) (h : List Write) (e d : PartyState) (op : NameOp) (limit : Option ℕ) (answer : Once Placed) → e.caller ≡ d.caller → e.index ≡ d.index → d.since ≤ e.since
    → IsAnswerOf slots base h e op limit answer → IsAnswerOf slots base h d op limit answer
answer_by slots base h e d op limit (once.Done placed) caller index le is =
    let later = is.later in
    record {
      later = omega arith;
      within = is.within;
      below = below_earlier limit e.since d.since le is.below;
      old = is.old;
      write = subst (λ (q : ℕ × ℕ). HasOwnWrite h q.0 q.1 (change_of op) placed.place) (λ k. (caller k, index k)) is.write;
    }
answer_by slots base h e d op limit (once.Spent clock) caller index le is = let later = is.later in record { reached = is.reached; later = omega arith; within = is.within }
answer_by slots base h e d op limit (once.Worn node word) caller index le is = tt
answer_by slots base h e d op limit (once.Again why) caller index le is = λ none.
    let room : FoundNoRoom slots base h e.since (length h) (name_asked op) = (is none).1 in
    let later = room.later in
    ((is none).0, record { clock = room.clock; later = omega arith; within = room.within; lacked = room.lacked; many = room.many })

says_by : (slots : ℕ) (base : Map) (h : List Write) (e d : PartyState) (op : NameOp) (limit : Option ℕ) (turn : Turn Running (Once Placed)) → e.caller ≡ d.caller → e.index ≡ d.index → d.since ≤ e.since
    → SaysOf slots base h e op limit (reply_of turn) → SaysOf slots base h d op limit (reply_of turn)
says_by slots base h e d op limit (Go m) caller index le is = tt
says_by slots base h e d op limit (Done answer) caller index le is = answer_by slots base h e d op limit answer caller index le is

after_after : (e : PartyState) (m : Running) (turn : Turn Running (Once Placed)) → state_after (state_after e (Go m)) turn ≡ state_after e turn
after_after e m (Go next) = refl
after_after e m (Done answer) = refl

-- the machine of a call that begins has the call's limit, and no place yet
pub first_call : (v : Member) (c : CoreCall) → ((running_call (machine_in v c)).limit ≡ limit_of c) × (placed_in (stage_of (machine_in v c)) ≡ None)
first_call v (call.Put name value limit) = (refl, refl)
first_call v (call.Get name) = (refl, refl)
first_call v (call.Del name limit) = (refl, refl)
first_call v (call.Part low count) = (refl, refl)
first_call v (call.Recheck node version) = (refl, refl)
first_call v (call.Turn stamp release) = (refl, refl)

-- a call that begins
pub runs_first : (c : CoreCall) (n : ℕ) (old : Member) (since : ℕ) → length old.seen ≤ since → IsRunning (machine_in old c) → IsOf (op_of c) (machine_in old c) → Runs c n old (Go (machine_in old c)) (calling old c n since)
runs_first c n old since later here of = record {
  since = since;
  later = later;
  about = refl;
  state = refl;
  ran = refl;
  taken = omega arith;
  added = omega arith;
  none_free = refl;
  known = λ j a at. at;
  op = of;
  call_is = refl;
  seen = begins_self old.seen;
  own = sym (append-nil (placed_by old.state.caller old.seen)) ∙ ap (λ (p : Option ℕ). placed_by old.state.caller old.seen ++ own_at old.state.caller n (change_of (op_of c)) p) (sym (first_call old c).1);
  says = tt;
  no_epoch = tt;
  heard = nothing_told old.about.layout old.about.generation (view_in old) c;
  ready = first_ready (view_in old) c here;
  timely = subst (λ (p : Option ℕ). IfSome p (λ _. IfSome (running_call (machine_in old c)).limit (λ most. since < most))) (sym (first_call old c).1) tt;
}

-- what goes on with the call that goes on with another one
same_on : (first call : Call) (turn : Turn Running (Once Placed)) → IsSame first call → MakesCall call turn → MakesCall first turn
same_on first call (Go m) one other = other ∙ ap (λ (k : Call). at_node k (running_call m).node (running_call m).hops) one
same_on first call (Done answer) one other = tt

-- a call goes on by one step
pub runs_on : (c : CoreCall) (n : ℕ) (old v w : Member) (turn : Turn Running (Once Placed)) (m : Running) (x : ℕ) → Runs c n old turn v → turn ≡ Go m → Goes m v x w → Runs c n old (running_turned m x) w
runs_on c n old v w turn m x runs is goes =
    let i = old.state.caller in
    let op = op_of c in
    let of : IsOf op m = subst (IsOfAfter op) is runs.op in
    let same : op_in m ≡ op = op_told op m of in
    let call_is : IsSame (running_call (machine_in old c)) (running_call m) = subst (MakesCall (running_call (machine_in old c))) is runs.call_is in
    let sound : Sound old.about.layout old.about.generation m = (subst (ReadyAfter old.about.layout old.about.generation) is runs.ready).sound in
    let limit : (running_call m).limit ≡ limit_of c = ap (λ (k : Call). k.limit) call_is ∙ (first_call old c).0 in
    let state : v.state ≡ state_after (began c n old runs.since) (Go m) = runs.state ∙ ap (state_after (began c n old runs.since)) is in
    let caller : v.state.caller ≡ i = ap (λ (e : PartyState). e.caller) state in
    let index : v.state.index ≡ n = ap (λ (e : PartyState). e.index) state in
    let turn' = running_turned m x in
    let more : placed_by i w.seen ≡ placed_by i v.seen ++ noted x (written i n (counted (stage_of m))) =
    subst (λ (q : ℕ × ℕ). placed_by q.0 w.seen ≡ placed_by q.0 v.seen ++ noted x (written q.0 q.1 (counted (stage_of m)))) (λ k. (caller k, index k)) goes.own in
    let was : placed_by i v.seen ≡ placed_by i old.seen ++ own_at i n (change_of op) (placed_in (stage_of m)) = runs.own ∙ ap (λ (t : Turn Running (Once Placed)). placed_by i old.seen ++ own_at i n (change_of op) (place_now (change_of op) t)) is in
    let own : own_at i n (change_of op) (place_now (change_of op) turn') ≡ own_at i n (change_of op) (placed_in (stage_of m)) ++ noted x (written i n (counted (stage_of m))) =
    subst (λ (o : NameOp). own_at i n (change_of o) (place_now (change_of o) turn') ≡ own_at i n (change_of o) (placed_in (stage_of m)) ++ noted x (written i n (counted (stage_of m)))) same (own_after i n x m sound.here (subst (λ (o : NameOp). IsOf o m) (sym same) of)) in
    record {
      since = runs.since;
      later = runs.later;
      about = goes.stepped.about ∙ runs.about;
      state = goes.state ∙ ap (λ (e : PartyState). state_after e turn') state ∙ after_after (began c n old runs.since) m turn';
      ran = ap (run_of running_turned (Go (machine_in old c))) goes.stepped.told ∙ run_more running_turned (Go (machine_in old c)) v.told m x (runs.ran ∙ is);
      taken = let was = runs.taken in let one = goes.stepped.taken in let long = ap length goes.stepped.told ∙ length-append v.told (x ∷ []) in omega arith;
      added = let was = runs.added ∙ ap (λ (t : Turn Running (Once Placed)). old.added + added_now op t) is in let now = goes.added ∙ ap (λ (o : NameOp). v.added + added_now o turn') same in omega arith;
      none_free = goes.none_free ∙ runs.none_free;
      known = still_longer old.known v.known w.known (answered_now m x) runs.known goes.known;
      op = subst (λ (o : NameOp). IsOfAfter o turn') same (goes.op_on);
      call_is = same_on (running_call (machine_in old c)) (running_call m) turn' call_is goes.call_on;
      seen = begins_trans old.seen v.seen w.seen runs.seen goes.stepped.seen;
      own = more ∙ ap (λ (l : List (ℕ × Write)). l ++ noted x (written i n (counted (stage_of m)))) was ∙ append_assoc (placed_by i old.seen) (own_at i n (change_of op) (placed_in (stage_of m))) (noted x (written i n (counted (stage_of m))))
          ∙ ap (λ (l : List (ℕ × Write)). placed_by i old.seen ++ l) (sym own);
      says = says_by old.about.layout.slots (map_of old.about.base) w.seen v.state (began c n old runs.since) op (limit_of c) turn' caller index (subst (λ (e : PartyState). runs.since ≤ e.since) (sym state) (let le : runs.since ≤ runs.since = omega arith in le))
          (subst (λ (q : NameOp × Option ℕ × About). SaysOf q.2.layout.slots (map_of q.2.base) w.seen v.state q.0 q.1 (reply_of turn')) (λ k. (same k, limit k, runs.about k)) goes.says);
      no_epoch = goes.no_epoch;
      heard = subst (λ (told : List ℕ). RunningTold old.about.layout old.about.generation told turn') (sym goes.stepped.told)
          (running_told old.about.layout old.about.generation m v.told x sound (subst (RunningTold old.about.layout old.about.generation v.told) is runs.heard));
      ready = subst (λ (b : About). ReadyAfter b.layout b.generation turn') runs.about goes.ready;
      timely = subst (λ (k : ℕ). GoesTimely k turn') (ap (λ (e : PartyState). e.since) state) goes.timely;
    }

-- the answer that it ends with
pub ends_so : (c : CoreCall) (n : ℕ) (old v : Member) (turn : Turn Running (Once Placed)) (answer : Once Placed) → Runs c n old turn v → turn ≡ Done answer → Answers c n old answer v
ends_so c n old v turn answer runs is =
    let i = old.state.caller in
    let state : v.state ≡ state_after (began c n old runs.since) (Done answer) = runs.state ∙ ap (state_after (began c n old runs.since)) is in
    record {
      about = runs.about;
      idle = ap (λ (e : PartyState). e.machine) state;
      turn = ap (λ (e : PartyState). e.turn) state;
      caller = ap (λ (e : PartyState). e.caller) state;
      ran = runs.ran ∙ is;
      taken = runs.taken;
      added = runs.added ∙ ap (λ (t : Turn Running (Once Placed)). old.added + added_now (op_of c) t) is;
      none_free = runs.none_free;
      known = runs.known;
      seen = runs.seen;
      own = runs.own ∙ ap (λ (t : Turn Running (Once Placed)). placed_by i old.seen ++ own_at i n (change_of (op_of c)) (place_now (change_of (op_of c)) t)) is;
      says = answer_by old.about.layout.slots (map_of old.about.base) v.seen (began c n old runs.since) (record old.state { index = n; since = length old.seen }) (op_of c) (limit_of c) answer refl refl runs.later
          (subst (λ (t : Turn Running (Once Placed)). SaysOf old.about.layout.slots (map_of old.about.base) v.seen (began c n old runs.since) (op_of c) (limit_of c) (reply_of t)) is runs.says);
      no_epoch = subst (λ (t : Turn Running (Once Placed)). IsNoEpoch (reply_of t)) is runs.no_epoch;
      why = subst (RunningTold old.about.layout old.about.generation v.told) is runs.heard;
    }

-- a part that is done before it lists its names
pub part_stops : (low : List ℕ) (count n : ℕ) (old v : Member) (turn : Turn Running (Once Placed)) (answer : Once Placed) → Runs (call.Part low count) n old turn v → turn ≡ Done answer → IsEarly answer → PartAnswers low count n old (early_of answer) v
part_stops low count n old v turn answer runs is early = record {
  looks = subst (λ (a : Once Placed). Answers (call.Part low count) n old a v) (sym (early_placed answer early)) (ends_so (call.Part low count) n old v turn answer runs is);
  ran = early_ran (part_in old low count) v.told answer early (runs.ran ∙ is);
  lists = early_lists (λ words. ListsRange (after (map_of old.about.base) v.seen words.place) low count words) answer early;
  known = early_lists (λ words. HasPart v.known (record { low = low; count = count; words = words })) answer early;
}

-- a part that is done with what it lists: its action gave its version word
pub part_ends : (low : List ℕ) (count n : ℕ) (old v w : Member) (turn : Turn Running (Once Placed)) (m : Running) (x : ℕ) (words : PartWords) (placed : Placed) → Runs (call.Part low count) n old turn v → turn ≡ Go m → Goes m v x w → listed_in m ≡ Some words
    → running_turned m x ≡ Done (once.Done placed) → PartAnswers low count n old (once.Done words) w
part_ends low count n old v w turn m x words placed runs is goes listed done =
    let c = call.Part low count in
    let p = part_in old low count in
    let counts : count_in m ≡ Some count = run_counts count (Go (Parting p)) v.told m refl (runs.ran ∙ is) in
    let asked : op_in m ≡ op_of c = op_told (op_of c) m (subst (IsOfAfter (op_of c)) is runs.op) in
    let told : Confirms m x words × (placed ≡ words_placed words) = subst (λ (o : Option PartWords). IsSomeAnd o (λ q. Confirms m x q × (placed ≡ words_placed q))) listed (done_is_listed m x placed (subst IsSome (sym counts) refl) done) in
    let now : IfSome (Some words) (λ words. IfSome (Some count) (λ count. Confirms m x words → ListsRange (after (map_of old.about.base) w.seen words.place) low count words)) =
    subst (λ (q : About × NameOp × Option ℕ × Option PartWords). IfSome q.3 (λ words. IfSome q.2 (λ count. Confirms m x words → ListsRange (after (map_of q.0.base) w.seen words.place) (name_asked q.1) count words)))
    (λ k. (runs.about k, asked k, counts k, listed k)) goes.lists in
    record {
      looks = ends_so c n old w (running_turned m x) (once.Done (words_placed words)) (runs_on c n old v w turn m x runs is goes) (listed_is_answered m words listed x told.0);
      ran = ap (run_of part_turned (Go p)) goes.stepped.told ∙ listed_ran p v.told m x words (runs.ran ∙ is) listed told.0;
      lists = now told.0;
      known = has_last v.known w.known (record { low = low; count = count; words = words }) (goes.known ∙ ap (λ (l : List AnsweredPart). v.known ++ l) (answered_here m x count low words counts asked listed told.0));
    }

-- one that was told another is turned back
pub part_moved : (low : List ℕ) (count n : ℕ) (old v w : Member) (turn : Turn Running (Once Placed)) (m : Running) (x : ℕ) (answer : Once Placed) → Runs (call.Part low count) n old turn v → turn ≡ Go m → Goes m v x w
    → running_turned m x ≡ Done answer → IsEarly answer → PartAnswers low count n old (early_of answer) w
part_moved low count n old v w turn m x answer runs is goes done early =
    part_stops low count n old w (running_turned m x) answer (runs_on (call.Part low count) n old v w turn m x runs is goes) done early

-- what isn't Done is early
pub not_done : (a : Once Placed) → ((x : Placed) → a ≡ once.Done x → ⊥) → IsEarly a
not_done (once.Done placed) never = absurd (never placed refl)
not_done (once.Spent clock) never = tt
not_done (once.Worn node word) never = tt
not_done (once.Again why) never = tt

-- what a part is answered before it has listed its names has no place
pub stops_early : (m next : Running) (x : ℕ) (answer : Option (Once Placed)) → IsSome (count_in m) → listed_in m ≡ None → running_turned m x ≡ turn_of next answer → IfSome answer IsEarly
stops_early m next x None counts none turned = tt
stops_early m next x (Some answer) counts none turned = is_early m x answer turned counts none

pub lists_none : (o : Option PartWords) → (IsSome o → ⊥) → o ≡ None
lists_none None never = refl
lists_none (Some words) never = absurd (never refl)

pub runs_a_part : (low : List ℕ) (count n : ℕ) (old v : Member) (turn : Turn Running (Once Placed)) (m : Running) → Runs (call.Part low count) n old turn v → turn ≡ Go m → IsSome (count_in m)
runs_a_part low count n old v turn m runs is = subst IsSome (sym (run_counts count (Go (Parting (part_in old low count))) v.told m refl (runs.ran ∙ is))) refl

-- without an answer the machine goes on
pub going : (machine : Running) (answer : Option (Once Placed)) → ((told : Once Placed) → answer ≡ Some told → ⊥) → turn_of machine answer ≡ Go machine
going machine None none = refl
going machine (Some told) none = absurd (none told refl)

pub runs_stepped : (c : CoreCall) (n : ℕ) (old v w : Member) (turn : Turn Running (Once Placed)) (m next : Running) (answer : Option (Once Placed)) → Runs c n old turn v → turn ≡ Go m → StepsOn m v w next answer → Runs c n old (turn_of next answer) w
runs_stepped c n old v w turn m next answer runs is on = subst (λ (u : Turn Running (Once Placed)). Runs c n old u w) on.turned (runs_on c n old v w turn m on.told runs is on.goes)

pub lessens : (m : Running) (turn : Turn Running (Once Placed)) → GoesBelow running_left (running_left m) turn → turn_left turn < turn_left (Go m)
lessens m (Go n) less = omega arith
lessens m (Done a) less = omega arith

-- a part that is cut off behind a step: it never has a place below a limit
no_limit : {A : Type 0} (o : Option A) → IfSome o (λ _. Unit {0})
no_limit None = tt
no_limit (Some x) = tt

pub part_halts : (low : List ℕ) (count n : ℕ) (old v : Member) (turn : Turn Running (Once Placed)) (m : Running) → Runs (call.Part low count) n old turn v → turn ≡ Go m → StopsAt (call.Part low count) n old (placed_in (stage_of m)) v
part_halts low count n old v turn m runs is =
    let c = call.Part low count in
    let now = subst (λ (t : Turn Running (Once Placed)). Runs c n old t v) is runs in
    record {
      machine = m;
      flies = ap (λ (e : PartyState). e.machine) now.state;
      about = now.about;
      turn = ap (λ (e : PartyState). e.turn) now.state;
      caller = ap (λ (e : PartyState). e.caller) now.state;
      index_is = ap (λ (e : PartyState). e.index) now.state;
      ran = now.ran;
      taken = now.taken;
      added = let a = now.added in omega arith;
      none_free = now.none_free;
      known = now.known;
      op = op_told (op_of c) m now.op;
      place_is = refl;
      seen = now.seen;
      below = no_limit (placed_in (stage_of m));
      own = now.own;
    }
