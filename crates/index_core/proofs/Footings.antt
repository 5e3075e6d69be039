-- What a start and a step of a party keep of all lines and prevs.
use Rattle.std.proofs.Common.{◌≡◌, ℕ, ◌<◌, ◌^◌, List, ◌++◌, length, set, map, refl, sym, ap, ◌∙◌, subst, arith, inl, inr}
use Rattle.std.specs.Prelude.{Option, Some, None, slice_set}
use mathlib.Core.Option.{some}
use lib.ListN.{get_elem?}
use Rattle.pm_words.specs.declared.machine.Turn.{Turn}
use Rattle.pm_words.specs.declared.machine.Turn.TheVariants.{Go, Done}
use Rattle.pm_words.specs.declared.layout.Layout.{Layout}
use Rattle.pm_words.specs.declared.action.Action.{Action}
use Rattle.pm_words.specs.Locations.{Line, Volatile, Cached}
use Rattle.pm_words.specs.Rows.{MayName}
use Rattle.pm_words.proofs.Apart.{addresses_within}
use Rattle.pm_words.proofs.Kept.{outside_header, keeps_header, names_cached}
use Rattle.pm_words.specs.Offsets.{prev_offset}
use Rattle.call_stages.specs.AnySteps.{IsOfPermutation, IsOnPermutation, loads, stores, IsBeside, loads_line, stores_line, drains_line, stores_prev, loads_layer, on_permutation}
use Rattle.index_law.specs.AnySteps.{MayDo}
use Rattle.index_law.proofs.Actions.{may_name}
use Rattle.call_stages.specs.declared.once.Once.{Once}
use Rattle.call_stages.specs.declared.once.Placed.{Placed}
use Rattle.call_stages.specs.Stages.{Stage, counted}
use Rattle.call_stages.specs.Lines.{HeldLine}
use Rattle.call_stages.specs.Prevs.{Debt}
use Rattle.call_stages.specs.Footings.{Footing, FootStep}
use Rattle.node_ops.specs.declared.running.Running.{Running}
use Rattle.node_ops.specs.RunningSteps.{running_asks, running_turned}
use Rattle.node_ops.specs.CallStages.{stage_of, footing_of, footing_after, reply_of}
use Rattle.node_ops.proofs.CallLaw.{footing_stage}
use Rattle.index_law.specs.Worlds.{Party, written, moved_on}
use Rattle.index_law.specs.Lawful.{Lawful}
use Rattle.index_law.specs.Footings.{stepped_whole}
use Rattle.index_law.proofs.AnySteps.{set_own}
use Rattle.index_law.proofs.Footings.{foot_keeps}
use Rattle.index_law.proofs.Parties.{set_here}
use Rattle.index_core.specs.declared.party.PartyState.{PartyState}
use Rattle.index_core.specs.PartyStates.{machine_stage, machine_footing, party_of, state_after}
use Rattle.index_core.specs.Indexes.{Index, world, footed, told, stepped_index}
use Rattle.index_core.proofs.Lists.{map_from, map_there, map_set, set_twice}
use Rattle.index_law.specs.Footed.{IsFooted, AreAlike, AreFree}
use Rattle.index_law.proofs.Footed.{alike_here, alike_footed}

abbrev pub line_of : PartyState → Option HeldLine
line_of state = (machine_footing state.machine).line

abbrev pub debt_of : PartyState → Debt
debt_of state = (machine_footing state.machine).debt

footing_is : (machine : Option Running) → (machine_footing machine).stage ≡ machine_stage machine
footing_is None = refl
footing_is (Some machine) = footing_stage machine

map_own : {A B : Type 0} (f : A → B) (l : List A) (i : ℕ) (a b : A) → get_elem? l i ≡ some a → f b ≡ f a → map f (set l i b) ≡ map f l
map_own f l i a b there same = map_set f l i b ∙ ap (set (map f l) i) same ∙ set_own (map f l) i (f a) (map_there f l i a there)

-- a party may be another of the same caller that has the same
pub swap_footed : (s : Index) (i : ℕ) (state now : PartyState) → IsFooted (footed s) → get_elem? s.states i ≡ some state → now.caller ≡ state.caller → machine_footing now.machine ≡ machine_footing state.machine
    → Lawful (world (record s { states = set s.states i now })) → IsFooted (footed (record s { states = set s.states i now }))
swap_footed s i state now is there caller same lawful =
    let stage : machine_stage now.machine ≡ machine_stage state.machine = sym (footing_is now.machine) ∙ ap (λ (f : Footing). f.stage) same ∙ footing_is state.machine in
    let alike = alike_here (map party_of s.states) i (party_of state) (party_of now) (map_there party_of s.states i state there) caller stage in
    let kept = alike_footed (footed s) (map party_of (set s.states i now)) is lawful (subst (AreAlike (map party_of s.states)) (sym (map_set party_of s.states i now)) alike) in
    let lines = map_own line_of s.states i state now there (ap (λ (f : Footing). f.line) same) in
    let debts = map_own debt_of s.states i state now there (ap (λ (f : Footing). f.debt) same) in
    subst (λ (q : List (Option HeldLine) × List Debt). IsFooted (record { world = record (world s) { parties = map party_of (set s.states i now) }; lines = q.0; debts = q.1 })) (λ k. (sym lines k, sym debts k)) kept

-- The party that a turn leaves has what stands behind that.
pub after_stage : (state : PartyState) (turn : Turn Running (Once Placed)) → (party_of (state_after state turn)).stage ≡ (footing_after turn).stage
after_stage state (Go next) = sym (footing_stage next)
after_stage state (Done answer) = refl

pub after_line : (state : PartyState) (turn : Turn Running (Once Placed)) → line_of (state_after state turn) ≡ (footing_after turn).line
after_line state (Go next) = refl
after_line state (Done answer) = refl

-- each step of a party keeps them
pub step_footed : (s : Index) (i : ℕ) (state : PartyState) (machine : Running) → IsFooted (footed s) → get_elem? s.states i ≡ some state → state.machine ≡ Some machine
    → FootStep s.layout s.generation state.caller (footing_of machine) (running_asks machine) (told s machine) (footing_after (running_turned machine (told s machine))) (reply_of (running_turned machine (told s machine)))
    → length s.history < 2 ^ 63 → Lawful (world (stepped_index s i state machine 0)) → IsFooted (footed (stepped_index s i state machine 0))
step_footed s i state machine is there flies k room lawful =
    let z = footed s in
    let p = party_of state in
    let a = running_asks machine in
    let turn = running_turned machine (told s machine) in
    let next = footing_after turn in
    let now = state_after state turn in
    let stage : machine_stage state.machine ≡ stage_of machine = ap machine_stage flies in
    let line_at = map_there line_of s.states i state there ∙ ap (λ (o : Option Running). some (machine_footing o).line) flies in
    let debt_at = map_there debt_of s.states i state there ∙ ap (λ (o : Option Running). some (machine_footing o).debt) flies in
    let party_at = map_there party_of s.states i state there in
    let kept = foot_keeps z i p (footing_of machine) next a (told s machine) (reply_of turn) is.0 is.1 party_at line_at debt_at (stage ∙ sym (footing_stage machine)) k refl room in
    let zz = stepped_whole z i p a next in
    let parties : set zz.world.parties i (party_of now) ≡ map party_of (set s.states i now) = set_twice z.world.parties i (moved_on p next.stage) (party_of now) ∙ sym (map_set party_of s.states i now) in
    let alike = alike_here zz.world.parties i (moved_on p next.stage) (party_of now) (set_here z.world.parties i (moved_on p next.stage) p party_at) (after_caller turn) (after_stage state turn) in
    let lines : slice_set z.lines i next.line ≡ map line_of (set s.states i now) = ap (set z.lines i) (sym (after_line state turn)) ∙ sym (map_set line_of s.states i now) in
    let debts : slice_set z.debts i next.debt ≡ map debt_of (set s.states i now) = ap (set z.debts i) (sym (after_debt turn)) ∙ sym (map_set debt_of s.states i now) in
    let lawful' : Lawful (record (zz.world) { parties = map party_of (set s.states i now) }) =
    subst (λ (u : Stage). Lawful (record (zz.world) { parties = map party_of (set s.states i now); history = s.history ++ written state.caller state.index (counted u) })) (sym stage) lawful in
    let all = alike_footed zz (map party_of (set s.states i now)) kept lawful' (subst (AreAlike zz.world.parties) parties alike) in
    subst (λ (q : Stage × (List (Option HeldLine) × List Debt)). IsFooted (record { world = record (zz.world) { parties = map party_of (set s.states i now); history = s.history ++ written state.caller state.index (counted q.0) }; lines = q.1.0; debts = q.1.1 }))
    (λ j. (stage j, (lines j, debts j))) all
  where
    after_caller : (turn : Turn Running (Once Placed)) → (party_of (state_after state turn)).caller ≡ state.caller
    after_caller (Go next) = refl
    after_caller (Done answer) = refl

    after_debt : (turn : Turn Running (Once Placed)) → debt_of (state_after state turn) ≡ (footing_after turn).debt
    after_debt (Go next) = refl
    after_debt (Done answer) = refl

-- parties without calls have none
pub free_states : (states : List PartyState) → ((i : ℕ) (state : PartyState) → get_elem? states i ≡ some state → state.machine ≡ None) → ((i : ℕ) (state : PartyState) → get_elem? states i ≡ some state → state.caller ≡ i)
    → AreFree (map party_of states) (map line_of states) (map debt_of states)
free_states states quiet numbers = record {
  idle = λ i p at. let from = map_from party_of states i p at in ap (λ (q : Party). q.stage) (sym from.2) ∙ ap machine_stage (quiet i from.0 from.1);
  callers = λ i p at. let from = map_from party_of states i p at in ap (λ (q : Party). q.caller) (sym from.2) ∙ numbers i from.0 from.1;
  lines = λ i e at. let from = map_from line_of states i e at in sym from.2 ∙ ap (λ (o : Option Running). (machine_footing o).line) (quiet i from.0 from.1);
  debts = λ i d at. let from = map_from debt_of states i d at in sym from.2 ∙ ap (λ (o : Option Running). (machine_footing o).debt) (quiet i from.0 from.1);
}

past : (offset : ℕ) → IsOfPermutation offset → offset < 16
past offset (inl version) = omega arith
past offset (inr word) = word.1

-- a load or a store of a permutation names a place that an action may name
permutation_names : (l : Layout) {action : Action} → IsOnPermutation l action → MayName l action
permutation_names l (loads {n = n} {offset = offset} here of) = addresses_within l (Volatile n offset) (here, past offset of)
permutation_names l (stores {n = n} {offset = offset} here of fits) =
    (addresses_within l (Volatile n offset) (here, past offset of), outside_header l (Volatile n offset) (here, past offset of) (λ k lt. (λ e. cc, λ e. cc)))

-- what a party may do at its stage names a place that an action may name
pub may_do_names : (l : Layout) (stage : Stage) (action : Action) → MayDo l stage action → MayName l action
may_do_names l stage action (inl allowed) = may_name l stage action allowed
may_do_names l stage action (inr is) = beside is
  where
    beside : {a : Action} → IsBeside l a → MayName l a
    beside (loads_line {c = c} {j = j} {offset = offset} has) = addresses_within l (Cached (Line c j offset)) has
    beside (stores_line {c = c} {j = j} {offset = offset} has fits) = (addresses_within l (Cached (Line c j offset)) has, outside_header l (Cached (Line c j offset)) has (λ k lt. (λ e. cc, λ e. cc)))
    beside (drains_line {c = c} {j = j} {offset = offset} {y = y} has fits) = (names_cached l (Line c j offset) has, keeps_header l (Line c j offset) y has (λ k lt e. cc))
    beside (stores_prev {n = n} here fits) = (addresses_within l (Volatile n prev_offset) (here, omega arith), outside_header l (Volatile n prev_offset) (here, omega arith) (λ k lt. (λ e. cc, λ e. cc)))
    beside (loads_layer {w = v} place) = addresses_within l (Cached v) place.there
    beside (on_permutation on) = permutation_names l on
