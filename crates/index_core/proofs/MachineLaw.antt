-- The laws on parties and their machines.
use Rattle.std.proofs.Common.{◌≡◌, ℕ, map, refl, sym, ap, ◌∙◌, subst, arith, ◌+◌, ◌<◌, ◌≤◌, ⊎_elim, List, length, set}
use Rattle.std.specs.Prelude.{Option, Some, None, IfSome}
use mathlib.Core.Option.{some}
use lib.ListN.{get_elem?}
use Rattle.cat_history.specs.Records.{change_of}
use Rattle.cat_history.specs.declared.op.Change.{Change}
use Rattle.pm_words.specs.declared.layout.Layout.{Layout}
use Rattle.pm_words.specs.declared.machine.Turn.{Turn}
use Rattle.pm_words.specs.declared.machine.Turn.TheVariants.{Go, Done}
use Rattle.call_stages.specs.declared.once.Once.{Once}
use Rattle.call_stages.specs.declared.once.Once.TheVariants as once
use Rattle.call_stages.specs.declared.once.Placed.{Placed}
use Rattle.call_stages.specs.Stages.{Idle, counted, placed_in}
use Rattle.node_ops.specs.declared.running.Running.{Running}
use Rattle.node_ops.specs.Asked.{IsOf, IsOfAfter, op_in}
use Rattle.node_ops.specs.RunningSteps.{running_asks, running_turned, running_call, Sound}
use Rattle.node_ops.specs.CallStages.{stage_of, reply_of}
use Rattle.index_law.specs.Worlds.{Party, World, facts}
use Rattle.index_law.specs.Lawful.{Sure}
use Rattle.index_law.specs.Laws.{IsAtRest, IsWithin}
use Rattle.index_law.proofs.Own.{sure_within}
use Rattle.index_law.proofs.Parties.{set_here}
use Rattle.index_law.proofs.Weights.{swap_weighs, idle_weighs}
use Rattle.index_law.proofs.Starts.{idle_law, rest_law}
use Rattle.index_core.specs.declared.party.CoreCall.{CoreCall}
use Rattle.index_core.specs.declared.party.CoreCall.TheVariants as call
use Rattle.index_core.specs.declared.party.PartyState.{PartyState}
use Rattle.index_core.specs.CoreCalls.{machine_of}
use Rattle.index_core.specs.PartyStates.{IsTurnOf, state_after, state_with, machine_stage, party_of}
use Rattle.updater.specs.declared.making.MakeTurn.{MakeTurn}
use Rattle.index_core.proofs.Checks.{checks_none}
use Rattle.index_core.proofs.Layering.{idle_layered}
use Rattle.index_core.proofs.Permuting.{idled, same_row}
use Rattle.index_core.specs.Indexes.{Index, IsIndex, footed, world, told, view_of, stepped_index}
use Rattle.index_core.specs.Lone.{HasNoCalls}
use Rattle.index_core.specs.MachineLaws.{IsReady, ReadyAfter, MachineKeeps, BeginKeeps, FirstIsReady, IdleKeep, place_told, place_now, place_next, PlacesFollow}
use Rattle.cat_history.specs.declared.op.Change.TheVariants as change
use Rattle.cat_history.specs.declared.op.NameOp.{NameOp}
use Rattle.cat_history.specs.declared.op.NameOp.TheVariants as op
use Rattle.pm_words.specs.declared.action.Action.{Action}
use Rattle.call_stages.specs.Stages.{pending_in}
use Rattle.node_ops.specs.CallStages.{stage_after}
use Rattle.node_ops.proofs.OpLaw.{op_told, pends_own_change}
use Rattle.index_law.specs.Weights.{AddsName, RisesBy, weight_sum}
use Rattle.index_core.specs.Weights.{added_if, weight_of}
use Rattle.index_core.specs.MachineLaws.{IdleWeigh, shows, put_shows, showing, showing_after}
use Rattle.index_core.proofs.Shown.{new_if, told_new, step_shows, adds_shows}
use Rattle.index_core.proofs.Answering.{says_of}
use Rattle.index_core.proofs.Epochless.{step_is_no_epoch}
use Rattle.index_core.proofs.GetLoads.{get_keeps_words}
use Rattle.index_core.proofs.Lists.{map_from, map_there, map_set, set_twice}
use Rattle.index_law.proofs.Footed.{rest_footed}
use Rattle.index_core.proofs.Footings.{line_of, debt_of, free_states, may_do_names}
use Rattle.index_core.proofs.Stepping.{may_do, step_facts, start_keeps, reindex_keeps, machine_idle}
use Rattle.node_ops.specs.Endings.{GoesOn}
use Rattle.node_ops.proofs.Endings.{turns_keep_place, last_counts_nothing}
use Rattle.index_core.proofs.Endings.{EndsWith, ends_with}
use Rattle.index_core.proofs.UnwornReads.{worn_if_writes}

-- what a sound machine asks names a place that an action may name
ready_to : (l : Layout) (g : ℕ) (m : Running) → 0 < l.nodes → Sound l g m → IsWithin l (stage_of m) → IsReady l g m
ready_to l g m nodes sound within = record { sound = sound; names = may_do_names l (stage_of m) (running_asks m) (may_do l g m nodes sound within) }

-- a machine that is in flight in an index is ready for its next step
ready : (s : Index) (i : ℕ) (e : PartyState) (m : Running) → IsIndex s → get_elem? s.states i ≡ some e → e.machine ≡ Some m → IsReady s.layout s.generation m
ready s i e m is there flies =
    let own = is.states i e there in
    let sound : Sound s.layout s.generation m = subst (λ (o : Option Running). IfSome o (Sound s.layout s.generation)) flies own.machine in
    let known : Sure s.layout s.generation (facts (world s)) e.caller e.index e.since (stage_of m) =
    subst (Sure s.layout s.generation (facts (world s)) e.caller e.index e.since) (ap machine_stage flies) (is.lawful.sure i (party_of e) (map_there party_of s.states i e there)) in
    ready_to s.layout s.generation m is.lawful.row.layout.nodes.0 sound (sure_within s.layout s.generation (facts (world s)) e.caller e.index e.since (stage_of m) known)

-- a machine before its first action is ready for it
ready_idle : (l : Layout) (g : ℕ) (m : Running) → 0 < l.nodes → Sound l g m → stage_of m ≡ Idle → IsReady l g m
ready_idle l g m nodes sound idle = ready_to l g m nodes sound (subst (IsWithin l) (sym idle) tt)

-- a put that shows a new name goes on to, until it is answered so
fades : (o : NameOp) (shown : ℕ) (turn : Turn Running (Once Placed)) → IsOfAfter o turn → shown ≤ shows (stage_after turn) + told_new (reply_of turn) → put_shows o shown ≤ showing_after o turn
fades (op.Put name value) shown (Go next) of less =
    let same : put_shows (op.Put name value) (shows (stage_of next)) ≡ put_shows (op_in next) (shows (stage_of next)) = ap (λ (o : NameOp). put_shows o (shows (stage_of next))) (sym (op_told (op.Put name value) next of)) in
    omega arith
fades (op.Put name value) shown (Done (once.Done placed)) of less = at placed.old less
  where
    at : (old : Option ℕ) → shown ≤ 0 + new_if old → shown ≤ added_if (op.Put name value) old
    at None less = omega arith
    at (Some value) less = omega arith
fades (op.Put name value) shown (Done (once.Spent clock)) of less = omega arith
fades (op.Put name value) shown (Done (once.Worn node word)) of less = omega arith
fades (op.Put name value) shown (Done (once.Again why)) of less = omega arith
fades (op.Get name) shown turn of less = omega arith
fades (op.Del name) shown turn of less = omega arith

asks_put : (o : NameOp) (name : List ℕ) (value n : ℕ) → change_of o ≡ Some (change.Put name value) → put_shows o n ≡ n
asks_put (op.Put _ _) name value n asks = refl
asks_put (op.Get _) name value n asks = absurd (cc)
asks_put (op.Del _) name value n asks = absurd (cc)

-- the store by which a put adds a name is the first that shows it
rises : (l : Layout) (m : Running) (a : Action) (turn : Turn Running (Once Placed)) → IsOfAfter (op_in m) turn → AddsName l (stage_of m) a (stage_after turn) → (put_shows (op_in m) (shows (stage_of m)) ≡ 0) × (showing_after (op_in m) turn ≡ 1)
rises l m a (Go next) of adds =
    let both = adds_shows l (stage_of m) a (stage_of next) adds in
    let pends = pends_own_change (op_in m) next (change.Put adds.name adds.value) of (ap pending_in adds.is ∙ adds.shows) in
    let told : op_in next ≡ op_in m = op_told (op_in m) next of in (
      asks_put (op_in m) adds.name adds.value (shows (stage_of m)) pends.0 ∙ both.0,
      ap (λ (o : NameOp). put_shows o (shows (stage_of next))) told ∙ asks_put (op_in m) adds.name adds.value (shows (stage_of next)) pends.0 ∙ both.1,
    )
rises l m a (Done answer) of adds = absurd (let idle = adds.is in cc)

weight_on : (l : Layout) (m : Running) (a : Action) (turn : Turn Running (Once Placed)) (before after : ℕ) → IsOfAfter (op_in m) turn → shows (stage_of m) ≤ shows (stage_after turn) + told_new (reply_of turn)
    → RisesBy (AddsName l (stage_of m) a (stage_after turn)) before after → after + showing (Some m) ≤ before + showing_after (op_in m) turn
weight_on l m a turn before after of less rise = ⊎_elim
    (λ (same : after ≤ before). let on = fades (op_in m) (shows (stage_of m)) turn of less in omega arith)
    (λ (more : AddsName l (stage_of m) a (stage_after turn) × (after ≤ before + 1)). let up = rises l m a turn of more.0 in let none = up.0 in let one = up.1 in let most = more.1 in omega arith)
    rise

pub machine_law : MachineKeeps
machine_law s i e m is there flies =
    let step = step_facts s i e m is there flies in
    let of : IsOf (op_in m) m = subst (λ (o : Option Running). IfSome o (λ q. IsOf (op_in q) q)) flies (is.states i e there).op in
    let new = stepped_index s i e m s.spare in
    let turn = running_turned m (told s m) in
    record {
      can = step.can;
      takes = step.takes;
      kept = step.kept s.spare;
      reads = get_keeps_words s i e m s.spare step.fits;
      counts = step.counts;
      lists = step.lists;
      says = says_of s.layout s.generation (facts (world new)) e m (told s m) of step.fits step.owns (step.legal s.spare);
      worn = worn_if_writes m (told s m) step.fits;
      legal = step.legal s.spare;
      hears = step.hears;
      no_epoch = step_is_no_epoch step.is_step;
      frees_none = step.frees_none s.spare;
      keeps_op = step.keeps_op (op_in m) of;
      keeps_call = step.keeps_call;
      ready = after new (step.kept s.spare) turn (set_here s.states i (state_after e turn) e there);
      weighs = weight_on s.layout m (running_asks m) turn (weight_sum (world s)) (weight_sum (world new)) (step.keeps_op (op_in m) of) (step_shows step.is_step) (step.weighs s.spare);
      shows_on = fades (op_in m) (shows (stage_of m)) turn (step.keeps_op (op_in m) of) (step_shows step.is_step);
    }
  where
    after : (t : Index) → IsIndex t → (turn : Turn Running (Once Placed)) → get_elem? t.states i ≡ some (state_after e turn) → ReadyAfter t.layout t.generation turn
    after t is' (Go next) at = ready t i (state_after e (Go next)) next is' at refl
    after t is' (Done answer) at = tt

none_shown : (s : Index) (i : ℕ) (c : CoreCall) → showing (Some (machine_of (view_of s i) c)) ≡ 0
none_shown s i (call.Put name value limit) = refl
none_shown s i (call.Get name) = refl
none_shown s i (call.Del name limit) = refl
none_shown s i (call.Part low count) = refl
none_shown s i (call.Recheck node version) = refl
none_shown s i (call.Turn stamp release) = refl

pub begin_law : BeginKeeps
begin_law s i e index c is there idle here =
    let m = machine_of (view_of s i) c in
    let old = record e { index = index } in
    let now = state_with old (length s.history) m in
    let there' = map_there party_of s.states i e there in
    let same = swap_weighs (world s) i (party_of e) (party_of now) there' (ap machine_stage idle) (machine_idle s i c) in
    let s' : Index = record s { states = set s.states i old } in
    let kept = start_keeps s' i old c s.spare (reindex_keeps s i e index s.spare is there idle) (set_here s.states i old e there) idle here in
    record {
      kept = subst (λ (states : List PartyState). IsIndex (record s { states = states })) (set_twice s.states i old now) kept;
      weighs = ap (λ (parties : List Party). weight_sum (record (world s) { parties = parties })) (map_set party_of s.states i now) ∙ same;
      shows_none = none_shown s i c;
    }

-- with no call in flight what those have lowered the weight by is nothing
pub none_weigh : (s : Index) → HasNoCalls s → weight_sum (world s) ≡ weight_of s
none_weigh s none = idle_weighs (world s) (λ i p at. let from = map_from party_of s.states i p at in sym (ap (λ (q : Party). q.stage) from.2) ∙ ap machine_stage (none i from.0 from.1))

pub idle_weigh : IdleWeigh
idle_weigh s none = none_weigh s none

pub first_ready : FirstIsReady
first_ready v (call.Put name value limit) here = ready_idle v.layout v.generation (machine_of v (call.Put name value limit)) here.0.call.view.layout.nodes.0 (record { layout = refl; generation = refl; here = here }) refl
first_ready v (call.Get name) here = ready_idle v.layout v.generation (machine_of v (call.Get name)) here.0.call.view.layout.nodes.0 (record { layout = refl; generation = refl; here = here }) refl
first_ready v (call.Del name limit) here = ready_idle v.layout v.generation (machine_of v (call.Del name limit)) here.0.call.view.layout.nodes.0 (record { layout = refl; generation = refl; here = here }) refl
first_ready v (call.Part low count) here = ready_idle v.layout v.generation (machine_of v (call.Part low count)) here.0.call.view.layout.nodes.0 (record { layout = refl; generation = refl; here = here }) refl
first_ready v (call.Recheck node version) here = ready_idle v.layout v.generation (machine_of v (call.Recheck node version)) here.0.call.view.layout.nodes.0 (record { layout = refl; generation = refl; here = here }) refl
first_ready v (call.Turn stamp release) here = ready_idle v.layout v.generation (machine_of v (call.Turn stamp release)) here.0.call.view.layout.nodes.0 (record { layout = refl; generation = refl; here = here }) refl

-- an index with no call in flight is one with any other idle parties
pub with_idle : IdleKeep
with_idle s states is calls rests idle =
    let each = λ (i : ℕ) (p : Party) (at : get_elem? (map party_of s.states) i ≡ some p). let from = map_from party_of s.states i p at in sym (ap (λ (q : Party). q.stage) from.2) ∙ ap machine_stage (calls i from.0 from.1) in
    let rest = idle_law (world s) is.lawful each in
    let w : World = world (record s { states = states }) in
    let at_rest : IsAtRest w = record {
      named = rest.named;
      list = rest.list;
      live = rest.live;
      run = rest.run;
      row = rest.row;
      clock = rest.clock;
      versions = rest.versions;
      free = rest.free;
      settled = rest.settled;
      durable = rest.durable;
      durable_versions = rest.durable_versions;
      front = rest.front;
      durable_front = rest.durable_front;
      idle = λ i p at. let from = map_from party_of states i p at in sym (ap (λ (q : Party). q.stage) from.2) ∙ ap machine_stage (idle.idle i from.0 from.1);
      begun = λ i p at. let from = map_from party_of states i p at in let zero_since = sym (ap (λ (q : Party). q.since) from.2) ∙ idle.begun i from.0 from.1 in omega arith;
    } in
    let footed = rest_footed (footed s) w.parties (map line_of states) (map debt_of states) (is.whole, is.tended) (free_states s.states calls (λ i e at. (is.states i e at).caller)) (free_states states idle.idle idle.numbers) (rest_law w at_rest) in
    let permuted = idled s s.words states s.base s.history (is.permuted, is.relying) calls idle.idle (rest_law w at_rest) (same_row s.layout s.words) in
    record {
      lawful = rest_law w at_rest;
      whole = footed.0;
      tended = footed.1;
      layered = idle_layered s states is.layered rests idle.idle idle.resting (subst (λ n. 0 < n) (sym idle.count) (omega arith)) footed;
      parties = idle.count;
      states = λ i e at. record { caller = idle.numbers i e at; machine = subst (λ (o : Option Running). IfSome o (Sound s.layout s.generation)) (sym (idle.idle i e at)) tt; op = subst (λ (o : Option Running). IfSome o (λ m. IsOf (op_in m) m)) (sym (idle.idle i e at)) tt; own = subst (λ (o : Option Running). IfSome o (λ m. (running_call m).view.caller ≡ i)) (sym (idle.idle i e at)) tt; turn = subst (λ (o : Option MakeTurn). IfSome o (IsTurnOf s.layout s.generation)) (sym (idle.resting i e at)) tt };
      ordered = λ i place e m w at flies stands caller. absurd (let both : None ≡ Some m = sym (idle.idle i e at) ∙ flies in cc);
      bounded = record {
        limits = λ i e m at flies. absurd (let both : None ≡ Some m = sym (idle.idle i e at) ∙ flies in cc);
        writers = is.bounded.writers;
        late = is.bounded.late;
      };
      named = is.named;
      rechecks = checks_none s.layout s.generation s.history states idle.unchecked;
      permuted = permuted.0;
      relying = permuted.1;
    }

-- a step's place, and that a step which counts had none before
pub places_follow : PlacesFollow
places_follow m x sound = at (running_turned m x) refl
  where
    on : (o : Option Change) (next : Running) → GoesOn (running_call m).view.layout (stage_of m) (running_asks m) x (stage_of next) o
        → (placed_in (stage_of next) ≡ place_next (placed_in (stage_of m)) x o) × IfSome o (λ c. placed_in (stage_of m) ≡ None)
    on None next goes = (goes, tt)
    on (Some c) next goes = (goes.2, goes.1)

    end : (o : Option Change) (answer : Once Placed) → EndsWith m answer → o ≡ None
        → (place_told (change_of (op_in m)) answer ≡ place_next (placed_in (stage_of m)) x o) × IfSome o (λ c. placed_in (stage_of m) ≡ None)
    end None (once.Done placed) ends none = (sym ends.0, tt)
    end None (once.Spent clock) ends none = (sym ends.0, tt)
    end None (once.Worn node word) ends none = (sym ends, tt)
    end None (once.Again why) ends none = (sym ends.0, tt)
    end (Some c) answer ends none = absurd (cc)

    at : (turn : Turn Running (Once Placed)) → running_turned m x ≡ turn
        → (place_now (change_of (op_in m)) turn ≡ place_next (placed_in (stage_of m)) x (counted (stage_of m))) × IfSome (counted (stage_of m)) (λ c. placed_in (stage_of m) ≡ None)
    at (Go next) is = on (counted (stage_of m)) next (turns_keep_place m next x sound is)
    at (Done answer) is = end (counted (stage_of m)) answer (ends_with m x answer sound is) (last_counts_nothing m x answer sound is)
