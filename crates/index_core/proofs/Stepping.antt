-- What a step and a start of a party keep, over plain variables.
use Rattle.std.proofs.Common.{◌≡◌, ◌≢◌, ℕ, ◌+◌, ◌-◌, ◌<◌, ◌≤◌, ◌^◌, inl, inr, ⊎_elim, List, ◌++◌, length, set, map, refl, sym, ap, ◌∙◌, subst, arith}
use Rattle.std.specs.Prelude.{Option, Some, None, IfSome, slice_set}
use Rattle.std.proofs.lemmas.List.{length-append}
use mathlib.Core.Option.{some}
use lib.ListN.{get_elem?, length-set}
use Rattle.pm_words.specs.Codes.{free_status}
use Rattle.pm_words.specs.declared.layout.Layout.{Layout}
use Rattle.pm_words.specs.declared.action.Action.{Action}
use Rattle.pm_words.specs.declared.machine.Turn.{Turn}
use Rattle.pm_words.specs.declared.machine.Turn.TheVariants.{Go, Done}
use Rattle.pm_words.specs.Images.{Row}
use Rattle.pm_words.specs.Rows.{CanAct, acted, got}
use Rattle.cat_history.specs.Maps.{at, map_of}
use Rattle.cat_history.specs.declared.op.Change.{Change}
use Rattle.cat_history.specs.declared.op.Write.{Write}
use Rattle.call_stages.specs.declared.once.Once.{Once}
use Rattle.call_stages.specs.declared.once.Placed.{Placed}
use Rattle.call_stages.specs.Stages.{Stage, Idle, counted}
use Rattle.call_stages.specs.Kinds.{Told, LeadsWithin}
use Rattle.call_stages.specs.AnySteps.{AnyStep, on_nodes, beside}
use Rattle.call_stages.specs.Footings.{FootStep}
use Rattle.call_stages.specs.declared.view.View.{View}
use Rattle.permutation.specs.Sortings.{Unsorted}
use Rattle.node_ops.specs.declared.running.Running.{Running}
use Rattle.node_ops.specs.RunningSteps.{wrapped, count_in, running_call, running_asks, running_turned, running_takes, IsRunning, Sound}
use Rattle.node_ops.specs.CallStages.{stage_of, stage_after, footing_of, footing_after, reply_of, SoundAfter}
use Rattle.node_ops.proofs.CallLaw.{turns_are_foot_steps, turns_are_steps, leads_are_taken}
use Rattle.node_ops.proofs.PermutingLaw.{turns_permute, turns_reread}
use Rattle.node_ops.proofs.LookupSound.{Stays}
use Rattle.node_ops.proofs.CallSound.{get_stays, put_stays, del_stays, turns_stay_sound}
use Rattle.node_ops.proofs.OpLaw.{turns_keep_op, op_told}
use Rattle.node_ops.specs.Asked.{IsOf, IsOfAfter, op_in}
use Rattle.node_ops.specs.declared.call.Call.{Call}
use Rattle.node_ops.specs.declared.get.Get.{Get}
use Rattle.node_ops.specs.declared.put.Put.{Put}
use Rattle.node_ops.specs.declared.del.Del.{Del}
use Rattle.node_ops.specs.declared.running.Running.TheVariants.{Getting, Putting, Deleting, Parting}
use Rattle.node_ops.specs.GetSteps.{IsGet, get_call, get_turned}
use Rattle.node_ops.specs.PutSteps.{IsPut, put_call, put_turned}
use Rattle.node_ops.specs.DelSteps.{IsDel, del_call, del_turned}
use Rattle.node_ops.specs.declared.part.Part.{Part}
use Rattle.node_ops.specs.PartSteps.{IsPart, part_call, part_turned, placed_turn}
use Rattle.node_ops.proofs.PartSound.{part_stays}
use Rattle.cat_history.specs.declared.op.NameOp.{NameOp}
use Rattle.index_law.specs.Worlds.{Party, World, facts, written, moved_on, stepped}
use Rattle.index_law.specs.Lawful.{Sure, Lawful}
use Rattle.index_law.specs.Laws.{ActionLaw, Counts, IsLegal, IsWithin, StepLaw}
use Rattle.index_law.specs.AnySteps.{MayDo}
use Rattle.index_law.proofs.Actions.{some_told, some_leads}
use Rattle.index_law.proofs.AnySteps.{any_allowed, any_can, any_keeps, any_weighs, beside_keeps}
use Rattle.index_law.proofs.Moves.{facts_step}
use Rattle.index_law.specs.Facts.{Facts, facts_of}
use Rattle.index_law.proofs.Own.{sure_within}
use Rattle.index_law.specs.Weights.{AddsName, RisesBy, weight_sum}
use Rattle.index_law.proofs.Weights.{swap_weighs}
use Rattle.index_law.proofs.Starts.{start_law, swap_law}
use Rattle.index_law.proofs.Parties.{at_set, set_here}
use Rattle.index_core.specs.declared.party.PartyState.{PartyState}
use Rattle.index_core.specs.declared.party.CoreCall.{CoreCall}
use Rattle.index_core.specs.declared.party.CoreCall.TheVariants as call
use Rattle.index_core.specs.CoreCalls.{machine_of, most_writes, limit_of, count_of}
use Rattle.index_core.specs.Cores.{IsAdd}
use Rattle.index_core.specs.PartyStates.{machine_stage, machine_footing, next_index, party_of, state_with, state_after, state_counted, machine_owes, owes, owed, IsTurnOf, IsPartyState}
use Rattle.node_ops.specs.Calls.{IsSame}
use Rattle.index_core.specs.Listings.{ListsAt}
use Rattle.index_core.specs.Permuting.{machine_end, machine_reading, machine_sorting}
use Rattle.index_core.proofs.Ranges.{lists_at, step_named}
use Rattle.index_core.specs.Indexes.{Index, world, IsIndex, view_of, started_index, told, stepped_index, MakesCall, FreesNone}
use Rattle.index_core.specs.Heard.{HearsOn}
use Rattle.index_core.proofs.Causes.{calls_hear}
use Rattle.index_core.proofs.Checks.{checks_set}
use Rattle.index_core.proofs.Freeing.{step_frees_none}
use Rattle.index_core.proofs.Footings.{swap_footed, step_footed}
use Rattle.index_core.proofs.Layering.{step_layered, one_layered}
use Rattle.index_core.proofs.Permuting.{one_permuted, step_permuted}
use Rattle.index_core.proofs.Lists.{map_there, map_set, owed-set, set_twice}
use Rattle.index_core.proofs.Ordering.{OwnsWrites, start_ordered, reindex_ordered, step_ordered, owns}
use Rattle.index_core.proofs.Bounds.{bounded_small, step_bounded, start_bounded, reindex_bounded}
use Rattle.index_core.proofs.Owing.{owes_after, pays, many, written-length}

-- what a step of a party's machine needs and leaves
pub record StepFacts (s : Index) (party : ℕ) (state : PartyState) (machine : Running) : Type 0 where
  pub fits : IsRunning machine
  pub can : CanAct s.layout s.words (running_asks machine)
  pub takes : running_takes machine (told s machine)
  pub keeps_op : (asked : NameOp) → IsOf asked machine → IsOfAfter asked (running_turned machine (told s machine))
  pub keeps_call : MakesCall (running_call machine) (running_turned machine (told s machine))
  pub is_step : AnyStep s.layout s.generation (stage_of machine) (running_asks machine) (told s machine) (stage_after (running_turned machine (told s machine))) (reply_of (running_turned machine (told s machine)))
  pub foot : FootStep s.layout s.generation state.caller (footing_of machine) (running_asks machine) (told s machine) (footing_after (running_turned machine (told s machine))) (reply_of (running_turned machine (told s machine)))
  pub kept : (spare : ℕ) → IsIndex (stepped_index s party state machine spare)
  pub weighs : (spare : ℕ) → RisesBy (AddsName s.layout (stage_of machine) (running_asks machine) (stage_after (running_turned machine (told s machine)))) (weight_sum (world s)) (weight_sum (world (stepped_index s party state machine spare)))
  pub counts : Counts s.layout (length s.history) (running_asks machine) (told s machine) (counted (stage_of machine))
  pub lists : ListsAt s.layout (facts (world (stepped_index s party state machine 0))) machine (told s machine)
  pub owns : OwnsWrites (s.history ++ written state.caller state.index (counted (stage_of machine))) state machine
  pub legal : (spare : ℕ) → IsLegal s.layout s.generation (facts (world (stepped_index s party state machine spare))) state.caller state.index state.since (stage_of machine) (reply_of (running_turned machine (told s machine)))
  pub frees_none : (spare : ℕ) → FreesNone s (stepped_index s party state machine spare)
  pub hears : HearsOn s.layout s.generation machine (told s machine)

-- the world with the party as its call's turn leaves it: one whose call is answered is idle, and may have another index
abbrev world_after : World → ℕ → PartyState → Action → Turn Running (Once Placed) → World
world_after w i state a turn = record (stepped w i (party_of state) a (stage_after turn)) { parties = set w.parties i (party_of (state_after state turn)) }

lawful_after : (w : World) (i : ℕ) (state : PartyState) (a : Action) (turn : Turn Running (Once Placed)) → get_elem? w.parties i ≡ some (party_of state)
    → Lawful (stepped w i (party_of state) a (stage_after turn)) → Lawful (world_after w i state a turn)
lawful_after w i state a (Go machine) there lawful = lawful
lawful_after w i state a (Done answer) there lawful =
    let p = moved_on (party_of state) Idle in
    let q = party_of (state_after state (Done answer)) in
    let v = stepped w i (party_of state) a Idle in
    let here = set_here w.parties i p (party_of state) there in
    subst (λ (parties : List Party). Lawful (record v { parties = parties })) (set_twice w.parties i p q) (swap_law v i p q lawful here refl refl (lawful.begun i p here))

-- an idle party weighs nothing, whatever its index
weighs_after : (w : World) (i : ℕ) (state : PartyState) (a : Action) (turn : Turn Running (Once Placed)) → get_elem? w.parties i ≡ some (party_of state)
    → weight_sum (stepped w i (party_of state) a (stage_after turn)) ≡ weight_sum (world_after w i state a turn)
weighs_after w i state a (Go machine) there = refl
weighs_after w i state a (Done answer) there =
    let p = moved_on (party_of state) Idle in
    let q = party_of (state_after state (Done answer)) in
    let v = stepped w i (party_of state) a Idle in
    let same = swap_weighs v i p q (set_here w.parties i p (party_of state) there) refl refl in
    sym same ∙ ap (λ (parties : List Party). weight_sum (record v { parties = parties })) (set_twice w.parties i p q)

-- what goes on is the call of the same party
abbrev CallsSo : ℕ → Turn Running (Once Placed) → Type 0
CallsSo i (Go machine) = (running_call machine).view.caller ≡ i
CallsSo i (Done answer) = Unit {0}

after_state : (l : Layout) (g i : ℕ) (state : PartyState) (op : NameOp) (turn : Turn Running (Once Placed)) → state.caller ≡ i → SoundAfter l g turn → IsOfAfter op turn → CallsSo i turn
    → IfSome state.turn (IsTurnOf l g) → IsPartyState l g i (state_after state turn)
after_state l g i state op (Go machine) same sound of own turn = record { caller = same; machine = sound; op = subst (λ (o : NameOp). IsOf o machine) (sym (op_told op machine of)) of; own = own; turn = turn }
after_state l g i state op (Done answer) same sound of own turn = record { caller = same; machine = tt; op = tt; own = tt; turn = turn }

-- states of which one is another
pub set_states : (l : Layout) (g : ℕ) (states : List PartyState) (i : ℕ) (now : PartyState) → ((j : ℕ) (state : PartyState) → get_elem? states j ≡ some state → IsPartyState l g j state) → IsPartyState l g i now
    → (j : ℕ) (state : PartyState) → get_elem? (set states i now) j ≡ some state → IsPartyState l g j state
set_states l g states i now all is j state at =
    ⊎_elim
    (λ (t : (j ≡ i) × (now ≡ state)). subst (λ (k : ℕ). IsPartyState l g k state) (sym t.0) (subst (IsPartyState l g i) t.1 is))
    (λ (t : (j ≢ i) × (get_elem? states j ≡ some state)). all j state t.1)
    (at_set states i j now state at)

-- each turn makes the same call
same_call : {M : Type 0} (fits : M → Type 0) (of : M → Call) (wrap : M → Running) (c : Call) (turn : Turn M (Once Placed)) → ((m : M) → running_call (wrap m) ≡ of m) → Stays fits of c turn → MakesCall c (wrapped wrap turn)
same_call fits of wrap c (Go machine) same stays = subst (IsSame c) (sym (same machine)) stays.1
same_call fits of wrap c (Done answer) same stays = tt

keeps_call : (machine : Running) (x : ℕ) → running_takes machine x → MakesCall (running_call machine) (running_turned machine x)
keeps_call (Getting get) x takes = same_call IsGet get_call (λ (m : Get). Getting m) (get_call get) (get_turned get x) (λ m. refl) (get_stays get x takes.0 takes.1)
keeps_call (Putting put) x takes = same_call IsPut put_call (λ (m : Put). Putting m) (put_call put) (put_turned put x) (λ m. refl) (put_stays put x takes.0 takes.1 takes.2)
keeps_call (Deleting del) x takes = same_call IsDel del_call (λ (m : Del). Deleting m) (del_call del) (del_turned del x) (λ m. refl) (del_stays del x takes.0 takes.1 takes.2)
keeps_call (Parting p) x takes = same_call IsPart part_call (λ (m : Part). Parting m) (part_call p) (placed_turn (part_turned p x)) (λ m. refl) (part_stays p x takes.0 takes.1)

calls_so : {i : ℕ} (machine : Running) (turn : Turn Running (Once Placed)) → (running_call machine).view.caller ≡ i → MakesCall (running_call machine) turn → CallsSo i turn
calls_so machine (Go next) caller same = ap (λ (c : Call). c.view.caller) same ∙ caller
calls_so machine (Done answer) caller same = tt

-- what a sound machine asks its party may do
pub may_do : (l : Layout) (g : ℕ) (machine : Running) → 0 < l.nodes → Sound l g machine → IsWithin l (stage_of machine) → MayDo l (stage_of machine) (running_asks machine)
may_do l g machine nodes sound within =
    let a = running_asks machine in
    let some = some_told l g a in
    any_allowed l g (stage_of machine) a some.0 _ _ within (turns_are_steps l g machine some.0 sound some.1 (some_leads l g (stage_of machine) a nodes))

-- no node becomes FREE by a step of a call
frees_by_kind : (w : World) (i : ℕ) (p : Party) (a : Action) (x : ℕ) (s : Stage) {t : Stage} {r : Option (Once Placed)} → p.stage ≡ s → Lawful w → get_elem? w.parties i ≡ some p → Sure w.layout w.generation (facts w) p.caller p.index p.since s
    → AnyStep w.layout w.generation s a x t r → x ≡ got w.layout w.words a
    → (n : ℕ) → (facts_of w.layout (acted w.layout w.words a) w.base (w.history ++ written p.caller p.index (counted s))).status n ≡ free_status → (facts w).status n ≡ free_status
frees_by_kind w i p a x s stage lawful there known (on_nodes k) told n free =
    step_frees_none (facts w) p.caller p.index k n
    (subst (λ (f : Facts). f.status n ≡ free_status) (facts_step w.words w.base w.history p.caller p.index p.since k lawful.row lawful.list told known) free)
frees_by_kind w i p a x s stage lawful there known (beside none is) told n free =
    let same = (beside_keeps w i p a lawful there (ap counted stage ∙ none) is).facts in
    subst (λ (f : Facts). f.status n ≡ free_status) same
    (subst (λ (u : Stage). (facts_of w.layout (acted w.layout w.words a) w.base (w.history ++ written p.caller p.index (counted u))).status n ≡ free_status) (sym stage) free)

-- a step of a call leaves its party's recheck
after_recheck : (e : PartyState) (turn : Turn Running (Once Placed)) → (state_after e turn).recheck ≡ e.recheck
after_recheck e (Go machine) = refl
after_recheck e (Done answer) = refl

pub step_facts : (s : Index) (party : ℕ) (state : PartyState) (machine : Running) → IsIndex s → get_elem? s.states party ≡ some state → state.machine ≡ Some machine
    → StepFacts s party state machine
step_facts s i state machine is there flies =
    let room : length s.history < 2 ^ 63 = bounded_small s is in
    let l = s.layout in
    let g = s.generation in
    let w = world s in
    let p = party_of state in
    let a = running_asks machine in
    let x = told s machine in
    let turn = running_turned machine x in
    let stage : machine_stage state.machine ≡ stage_of machine = ap machine_stage flies in
    let there' = map_there party_of s.states i state there in
    let own = is.states i state there in
    let sound : Sound l g machine = subst (λ (o : Option Running). IfSome o (Sound l g)) flies own.machine in
    let known : Sure l g (facts w) state.caller state.index state.since (stage_of machine) = subst (Sure l g (facts w) state.caller state.index state.since) stage (is.lawful.sure i p there') in
    let within = sure_within l g (facts w) state.caller state.index state.since (stage_of machine) known in
    let act : ActionLaw w p.stage a = any_can w i p a is.lawful there' (subst (λ (u : Stage). MayDo l u a) (sym stage) (may_do l g machine is.lawful.row.layout.nodes.0 sound within)) room in
    let leads : LeadsWithin l (stage_of machine) a x = subst (λ (u : Stage). LeadsWithin l u a x) stage act.leads in
    let taken = leads_are_taken l g machine x sound leads in
    let step = turns_are_steps l g machine x sound act.told leads in
    let law : StepLaw w i p a x (stage_after turn) (reply_of turn) =
    any_keeps w i p a x (stage_after turn) (reply_of turn) is.lawful there' (subst (λ (u : Stage). AnyStep l g u a x (stage_after turn) (reply_of turn)) (sym stage) step) refl room in
    let of : IsOf (op_in machine) machine = subst (λ (o : Option Running). IfSome o (λ m. IsOf (op_in m) m)) flies own.op in
    let kept_op = turns_keep_op l g (op_in machine) machine x sound act.told taken of in
    let caller : (running_call machine).view.caller ≡ state.caller = subst (λ (o : Option Running). IfSome o (λ m. (running_call m).view.caller ≡ i)) flies own.own ∙ sym own.caller in
    let parties : slice_set (map party_of s.states) i (party_of (state_after state turn)) ≡ map party_of (slice_set s.states i (state_after state turn)) =
    sym (map_set party_of s.states i (state_after state turn)) in
    let same : Path World (world_after w i state a turn) (world (stepped_index s i state machine 0)) =
    (λ k. record { layout = l; generation = g; words = acted l s.words a; parties = parties k; base = map_of s.base; history = s.history ++ written state.caller state.index (counted (stage k)) }) in
    let own_told = subst (λ (v : Layout × ℕ). Told v.0 v.1 a x) (λ k. (sym sound.layout k, sym sound.generation k)) act.told in
    let takes : running_takes machine x = (sound.here, own_told, taken) in
    let lawful : Lawful (world (stepped_index s i state machine 0)) = subst Lawful same (lawful_after w i state a turn there' law.kept) in
    let foot : FootStep l g state.caller (footing_of machine) a x (footing_after turn) (reply_of turn) =
    subst (λ (c : ℕ). FootStep l g c (footing_of machine) a x (footing_after turn) (reply_of turn)) caller (turns_are_foot_steps l g machine x sound act.told leads) in
    let footed = step_footed s i state machine (is.whole, is.tended) there flies foot room lawful in
    let permuted = step_permuted s i state machine there flies (is.permuted, is.relying) sound step (turns_permute l g machine x sound act.told leads) (turns_reread l g machine x sound act.told) room lawful in
    record {
      fits = sound.here;
      can = act.can;
      takes = takes;
      keeps_op = λ asked of. turns_keep_op l g asked machine x sound act.told taken of;
      keeps_call = keeps_call machine x takes;
      is_step = step;
      foot = foot;
      weighs = λ spare. subst (λ (q : Stage × ℕ). RisesBy (AddsName s.layout q.0 a (stage_after turn)) (weight_sum w) q.1)
          (λ k. (stage k, (weighs_after w i state a turn there' ∙ ap weight_sum same) k))
          (any_weighs w i p a x (stage_after turn) (reply_of turn) is.lawful there' (subst (λ (u : Stage). AnyStep l g u a x (stage_after turn) (reply_of turn)) (sym stage) step) refl);
      kept = λ spare. record {
        lawful = lawful;
        whole = footed.0;
        tended = footed.1;
        layered = step_layered s i state machine there flies is.layered footed foot room;
        parties = length-set s.states i (state_after state turn) ∙ is.parties;
        states = set_states l g s.states i (state_after state turn) is.states
            (after_state l g i state (op_in machine) turn own.caller (turns_stay_sound l g machine x sound act.told taken) kept_op (calls_so machine turn (caller ∙ own.caller) (keeps_call machine x takes)) own.turn);
        ordered = step_ordered s i state machine is.states is.ordered is.lawful.clock there flies kept_op;
        bounded = step_bounded s i state machine is there flies (keeps_call machine x takes) kept_op;
        named = step_named s i state machine is lawful;
        rechecks = checks_set l g s.history (s.history ++ written state.caller state.index (counted (stage_of machine))) (let longer = length-append s.history (written state.caller state.index (counted (stage_of machine))) in omega arith)
            s.states i state (state_after state turn) there (after_recheck state turn) is.rechecks;
        permuted = permuted.0;
        relying = permuted.1;
      };
      lists = lists_at s i state machine is there flies;
      owns = owns s i state machine is.states is.ordered is.lawful.clock there flies;
      counts = subst (λ (u : Stage). Counts l (length s.history) a x (counted u)) stage law.counts;
      legal = λ spare. subst (λ (u : World). IsLegal l g (facts u) state.caller state.index state.since (stage_of machine) (reply_of turn)) same
          (subst (λ (u : Stage). IsLegal l g (facts (stepped w i p a (stage_after turn))) state.caller state.index state.since u (reply_of turn)) stage law.legal);
      frees_none = λ spare. frees_by_kind w i p a x (stage_of machine) stage is.lawful there' known step refl;
      hears = calls_hear l g machine x sound;
    }

-- what the calls owe falls by what the step counts
pub step_owes : (s : Index) (party : ℕ) (state : PartyState) (machine : Running) → get_elem? s.states party ≡ some state → state.machine ≡ Some machine
    → owed (stepped_index s party state machine 0).states + length (written state.caller state.index (counted (stage_of machine))) ≤ owed s.states
step_owes s i state machine there flies =
    let turn = running_turned machine (told s machine) in
    let moved = owed-set s.states i state (state_after state turn) there in
    let was : machine_owes state.machine ≡ owes machine = ap machine_owes flies in
    let now = after turn in
    let paid = pays machine (told s machine) in
    let count = written-length state.caller state.index (counted (stage_of machine)) in
    omega arith
  where
    after : (turn : Turn Running (Once Placed)) → machine_owes (state_after state turn).machine ≡ owes_after turn
    after (Go machine) = refl
    after (Done answer) = refl

-- The machine of a call that begins relies on nothing, has no line and owes none, and asks what the call asks.
record BeginsSo (view : View) (c : CoreCall) : Type 0 where
  stage : stage_of (machine_of view c) ≡ Idle
  from : (running_call (machine_of view c)).view ≡ view
  asks : IsOf (op_in (machine_of view c)) (machine_of view c)
  footing : machine_footing (Some (machine_of view c)) ≡ machine_footing None
  sorting : machine_sorting (Some (machine_of view c)) ≡ Unsorted
  reading : (machine_reading (Some (machine_of view c)) ≡ None) × (machine_end (Some (machine_of view c)) ≡ None)
  owing : owes (machine_of view c) ≡ most_writes c
  limit : (running_call (machine_of view c)).limit ≡ limit_of c
  count : count_in (machine_of view c) ≡ count_of c

begins_so : (view : View) (c : CoreCall) → BeginsSo view c
begins_so view (call.Put name value limit) = record { stage = refl; from = refl; asks = (refl, refl); footing = refl; sorting = refl; reading = (refl, refl); owing = refl; limit = refl; count = refl }
begins_so view (call.Get name) = record { stage = refl; from = refl; asks = refl; footing = refl; sorting = refl; reading = (refl, refl); owing = refl; limit = refl; count = refl }
begins_so view (call.Del name limit) = record { stage = refl; from = refl; asks = (refl, tt); footing = refl; sorting = refl; reading = (refl, refl); owing = refl; limit = refl; count = refl }
begins_so view (call.Part low count) = record { stage = refl; from = refl; asks = refl; footing = refl; sorting = refl; reading = (refl, refl); owing = refl; limit = refl; count = refl }
begins_so view (call.Recheck node version) = record { stage = refl; from = refl; asks = refl; footing = refl; sorting = refl; reading = (refl, refl); owing = refl; limit = refl; count = refl }
begins_so view (call.Turn stamp release) = record { stage = refl; from = refl; asks = refl; footing = refl; sorting = refl; reading = (refl, refl); owing = refl; limit = refl; count = refl }

pub machine_idle : (s : Index) (party : ℕ) (c : CoreCall) → stage_of (machine_of (view_of s party) c) ≡ Idle
machine_idle s party c = (begins_so (view_of s party) c).stage

pub machine_writes : (s : Index) (party : ℕ) (c : CoreCall) → owes (machine_of (view_of s party) c) ≡ most_writes c
machine_writes s party c = (begins_so (view_of s party) c).owing

pub begins_limit : (s : Index) (i : ℕ) (c : CoreCall) → (running_call (machine_of (view_of s i) c)).limit ≡ limit_of c
begins_limit s i c = (begins_so (view_of s i) c).limit

pub begins_count : (v : View) (c : CoreCall) → count_in (machine_of v c) ≡ count_of c
begins_count v c = (begins_so v c).count

pub start_keeps : (s : Index) (party : ℕ) (state : PartyState) (c : CoreCall) (spare : ℕ) → IsIndex s → get_elem? s.states party ≡ some state → state.machine ≡ None
    → IsRunning (machine_of (view_of s party) c) → IsIndex (started_index s party state c spare)
start_keeps s i state c spare is there idle here =
    let m = machine_of (view_of s i) c in
    let begun = begins_so (view_of s i) c in
    let now = state_with state (length s.history) m in
    let there' = map_there party_of s.states i state there in
    let lawful = start_law (world s) i (party_of state) state.index is.lawful there' (ap machine_stage idle) in
    let parties : slice_set (map party_of s.states) i (record { caller = state.caller; index = state.index; since = length s.history; stage = Idle }) ≡ map party_of (slice_set s.states i now) =
    ap (λ (u : Stage). set (map party_of s.states) i (record { caller = state.caller; index = state.index; since = length s.history; stage = u })) (sym begun.stage) ∙ sym (map_set party_of s.states i now) in
    let lawful' = subst (λ (parties : List Party). Lawful (record { layout = s.layout; generation = s.generation; words = s.words; parties = parties; base = map_of s.base; history = s.history })) parties lawful in
    let footed = swap_footed s i state now (is.whole, is.tended) there refl (begun.footing ∙ sym (ap machine_footing idle)) lawful' in
    let permuted = one_permuted s i state now there (is.permuted, is.relying) lawful' refl (begun.stage ∙ sym (ap machine_stage idle)) (begun.sorting ∙ sym (ap machine_sorting idle)) (inl begun.reading) in
    record {
      lawful = lawful';
      whole = footed.0;
      tended = footed.1;
      layered = one_layered s i state now spare is.layered there refl (inl begun.stage) footed;
      parties = length-set s.states i now ∙ is.parties;
      states = set_states s.layout s.generation s.states i now is.states (record { caller = (is.states i state there).caller; machine = record { layout = ap (λ (v : View). v.layout) begun.from; generation = ap (λ (v : View). v.generation) begun.from; here = here }; op = begun.asks; own = ap (λ (v : View). v.caller) begun.from; turn = (is.states i state there).turn });
      ordered = start_ordered s.states s.history i state m is.ordered;
      bounded = start_bounded s i state c is here;
      named = is.named;
      rechecks = checks_set s.layout s.generation s.history s.history (omega arith) s.states i state now there refl is.rechecks;
      permuted = permuted.0;
      relying = permuted.1;
    }

pub start_owes : (s : Index) (party : ℕ) (state : PartyState) (c : CoreCall) → get_elem? s.states party ≡ some state → state.machine ≡ None
    → owed (started_index s party state c 0).states ≡ owed s.states + most_writes c
start_owes s i state c there idle =
    let moved = owed-set s.states i state (state_with state (length s.history) (machine_of (view_of s i) c)) there in
    let was : machine_owes state.machine ≡ 0 = ap machine_owes idle in
    let now = machine_writes s i c in
    omega arith

-- an idle party may have another index
pub reindex_keeps : (s : Index) (i : ℕ) (state : PartyState) (index spare : ℕ) → IsIndex s → get_elem? s.states i ≡ some state → state.machine ≡ None
    → IsIndex (record s { states = set s.states i (record state { index = index }); spare = spare })
reindex_keeps s i state index spare is there idle =
    let p = party_of state in
    let now : PartyState = record state { index = index } in
    let there' = map_there party_of s.states i state there in
    let own = is.states i state there in
    let lawful = swap_law (world s) i p (party_of now) is.lawful there' (ap machine_stage idle) (ap machine_stage idle) (is.lawful.begun i p there') in
    let lawful' = subst (λ (parties : List Party). Lawful (record (world s) { parties = parties })) (sym (map_set party_of s.states i now)) lawful in
    let footed = swap_footed s i state now (is.whole, is.tended) there refl refl lawful' in
    let permuted = one_permuted s i state now there (is.permuted, is.relying) lawful' refl refl refl (inr refl) in
    record {
      lawful = lawful';
      whole = footed.0;
      tended = footed.1;
      layered = one_layered s i state now spare is.layered there refl (inr refl) footed;
      parties = length-set s.states i now ∙ is.parties;
      states = set_states s.layout s.generation s.states i now is.states (record { caller = own.caller; machine = own.machine; op = own.op; own = own.own; turn = own.turn });
      ordered = reindex_ordered s.states s.history i state index idle is.ordered;
      bounded = reindex_bounded s i state index is idle;
      named = is.named;
      rechecks = checks_set s.layout s.generation s.history s.history (omega arith) s.states i state now there refl is.rechecks;
      permuted = permuted.0;
      relying = permuted.1;
    }

-- so its index may be counted up
pub count_keeps : (s : Index) (i : ℕ) (state : PartyState) (spare : ℕ) → IsIndex s → get_elem? s.states i ≡ some state → state.machine ≡ None
    → IsIndex (record s { states = set s.states i (state_counted state); spare = spare })
count_keeps s i state spare is there idle = reindex_keeps s i state (next_index state.index) spare is there idle

-- and owes what it owed
pub count_owes : (s : Index) (i : ℕ) (state : PartyState) → get_elem? s.states i ≡ some state → owed (set s.states i (state_counted state)) ≡ owed s.states
count_owes s i state there = let moved = owed-set s.states i state (state_counted state) there in omega arith

-- how much room is told of an index is none of its laws
pub respare : (s : Index) (spare : ℕ) → IsIndex s → IsIndex (record s { spare = spare })
respare s spare is = record { lawful = is.lawful; whole = is.whole; tended = is.tended; layered = is.layered; parties = is.parties; states = is.states; ordered = is.ordered; bounded = is.bounded; named = is.named; rechecks = is.rechecks; permuted = is.permuted; relying = is.relying }

-- the index that a step leaves, at values that are equal to its own
pub step_at : (s : Index) (i : ℕ) (e r e' : PartyState) (m m' : Running) (row : Row) (got' : ℕ) (turn : Turn Running (Once Placed)) (history : List Write) (spare : ℕ)
    → r ≡ e → m' ≡ m → row ≡ record { layout = s.layout; words = acted s.layout s.words (running_asks m') } → got' ≡ got s.layout s.words (running_asks m') → turn ≡ running_turned m' got'
    → e' ≡ state_after r turn → history ≡ s.history ++ written r.caller r.index (counted (stage_of m'))
    → Path Index (record { layout = row.layout; generation = s.generation; words = row.words; states = set s.states i e'; base = s.base; history = history; spare = spare }) (stepped_index s i e m spare)
step_at s i e r e' m m' row got' turn history spare p q a b c d h =
    let turn' : turn ≡ running_turned m (told s m) = c ∙ (λ k. running_turned (q k) (b k)) ∙ ap (λ (x : Running). running_turned m (told s x)) q in
    let state' : e' ≡ state_after e (running_turned m (told s m)) = d ∙ (λ k. state_after (p k) (turn' k)) in
    let row' : row ≡ record { layout = s.layout; words = acted s.layout s.words (running_asks m) } = a ∙ ap (λ (x : Running). record { layout = s.layout; words = acted s.layout s.words (running_asks x) }) q in
    let history' : history ≡ s.history ++ written e.caller e.index (counted (stage_of m)) = h ∙ (λ k. s.history ++ written (p k).caller (p k).index (counted (stage_of (q k)))) in
    λ k. record { layout = (row' k).layout; generation = s.generation; words = (row' k).words; states = set s.states i (state' k); base = s.base; history = history' k; spare = spare }

-- and the index that a start leaves
pub start_at : (s : Index) (i : ℕ) (e r e' : PartyState) (c : CoreCall) (m : Running) (since spare : ℕ) → r ≡ e → since ≡ length s.history → m ≡ machine_of (view_of s i) c → e' ≡ state_with r since m
    → Path Index (record { layout = s.layout; generation = s.generation; words = s.words; states = set s.states i e'; base = s.base; history = s.history; spare = spare }) (started_index s i e c spare)
start_at s i e r e' c m since spare p q a d =
    let state' : e' ≡ state_with e (length s.history) (machine_of (view_of s i) c) = d ∙ (λ k. state_with (p k) (q k) (a k)) in
    λ k. record { layout = s.layout; generation = s.generation; words = s.words; states = set s.states i (state' k); base = s.base; history = s.history; spare = spare }

-- a step leaves room for what is owed
pub step_room : (s : Index) (i : ℕ) (e : PartyState) (m : Running) (history : List Write) (states : List PartyState) (len cap len' cap' : ℕ) → get_elem? s.states i ≡ some e → e.machine ≡ Some m
    → history ≡ s.history ++ written e.caller e.index (counted (stage_of m)) → states ≡ (stepped_index s i e m 0).states → len ≡ length s.history → len' ≡ length history → cap ≤ cap' → len + owed s.states ≤ cap
    → (len' + owed states ≤ cap') × (cap - (len + owed s.states) ≤ cap' - (len' + owed states))
step_room s i e m history states len cap len' cap' there flies h same was now larger room =
    let paid = step_owes s i e m there flies in
    let owing = ap owed same in
    let longer = ap length h ∙ length-append s.history (written e.caller e.index (counted (stage_of m))) in
    (omega arith, omega arith)

-- a step that counts adds
pub adds_if_counts : (l : Layout) (long : ℕ) (a : Action) (x : ℕ) (change : Option Change) → Counts l long a x change → IfSome change (λ _. IsAdd a)
adds_if_counts l long a x None counts = tt
adds_if_counts l long a x (Some change) counts = subst IsAdd (sym counts.0) tt

-- there is room for the write that a step counts
pub count_room : (s : Index) (i : ℕ) (e r : PartyState) (m : Running) (counts : Option Change) (len cap : ℕ) → get_elem? s.states i ≡ some e → e.machine ≡ Some m → r ≡ e → counts ≡ counted (stage_of m)
    → len + owed s.states ≤ cap → len + length (written r.caller r.index counts) ≤ cap
count_room s i e r m counts len cap there flies read same room =
    let paid = step_owes s i e m there flies in
    let count = written-length r.caller r.index counts ∙ ap many same ∙ sym (written-length e.caller e.index (counted (stage_of m))) in
    omega arith
