-- Calls that are on a name or turns of the updater: which of the two a call is, and what either leaves.
use Rattle.std.proofs.Common.{◌≡◌, ◌⊎◌, ℕ, inl, inr, List, length, refl, sym, ap, ◌∙◌, subst, arith}
use Rattle.std.specs.Prelude.{Option, Some, None, true, is_some}
use mathlib.Core.Option.{some, some-injective}
use lib.ListN.{get_elem?}
use Rattle.pm_words.specs.declared.machine.Turn.{Turn}
use Rattle.pm_words.specs.declared.machine.Turn.TheVariants.{Go, Done}
use Rattle.call_stages.specs.declared.once.Once.{Once}
use Rattle.call_stages.specs.declared.once.Placed.{Placed}
use Rattle.node_ops.specs.declared.running.Running.{Running}
use Rattle.node_ops.specs.RunningSteps.{running_turned}
use Rattle.node_ops.specs.declared.recheck.Recheck.{Recheck}
use Rattle.node_ops.specs.declared.recheck.Recheck.TheVariants.{Dating}
use Rattle.node_ops.specs.declared.recheck.Same.{Same}
use Rattle.node_ops.specs.RecheckSteps.{recheck_turned}
use Rattle.index_law.proofs.Parties.{set_here}
use Rattle.updater.specs.declared.making.MakeTurn.{MakeTurn}
use Rattle.updater.specs.declared.making.TurnReply.{TurnReply}
use Rattle.updater.specs.Makings.{making_from, making_turned}
use Rattle.index_core.specs.declared.party.CoreCall.{CoreCall}
use Rattle.index_core.specs.declared.party.CoreCall.TheVariants as call
use Rattle.index_core.specs.CoreCalls.{IfRecheck, IfTurn, IsRecheckAnd, IsTurnAnd, MayBegin}
use Rattle.index_core.specs.declared.party.PartyState.{PartyState}
use Rattle.index_core.specs.declared.party.Rechecking.{Rechecking}
use Rattle.index_core.specs.declared.party.Stepped.{Stepped}
use Rattle.index_core.specs.declared.party.Stepped.TheVariants.{Going}
use Rattle.index_core.specs.Indexes.{HasInFlight, Index, IsBusy, KeepsRoom, Starts, StepsTo, told, view_of}
use Rattle.index_core.specs.CoreCalls.{count_of, machine_of}
use Rattle.index_core.specs.PartyStates.{recheck_after, recheck_reply, recheck_stepped, state_after, state_rechecked, state_turned, state_with, stepped_of, turn_after, turn_reply, turn_stepped}
use Rattle.index_core.specs.Rechecks.{RecheckSteps, RecheckStepsTo, StartsRecheck, recheck_told}
use Rattle.index_core.specs.Turns.{StartsTurn, TurnSteps, TurnStepsTo, turn_told}
use Rattle.index_core.proofs.Checks.{recheck_owes}
use Rattle.index_core.proofs.Lists.{some_of}
use Rattle.index_core.proofs.TurnReading.{turn_owes}

abbrev pub IsNoTurn : CoreCall → Type 0
IsNoTurn c = (stamp release : ℕ) → c ≡ call.Turn stamp release → ⊥

abbrev pub IsNoRecheck : CoreCall → Type 0
IsNoRecheck c = (node version : ℕ) → c ≡ call.Recheck node version → ⊥

pub no_recheck : (c : CoreCall) (P : ℕ → ℕ → Type 0) → IsNoRecheck c → IfRecheck c P
no_recheck (call.Put name value limit) P none = tt
no_recheck (call.Get name) P none = tt
no_recheck (call.Del name limit) P none = tt
no_recheck (call.Part low count) P none = tt
no_recheck (call.Recheck node version) P none = absurd (none node version refl)
no_recheck (call.Turn stamp release) P none = tt

pub no_turn : (c : CoreCall) (P : ℕ → ℕ → Type 0) → IsNoTurn c → IfTurn c P
no_turn (call.Put name value limit) P none = tt
no_turn (call.Get name) P none = tt
no_turn (call.Del name limit) P none = tt
no_turn (call.Part low count) P none = tt
no_turn (call.Recheck node version) P none = tt
no_turn (call.Turn stamp release) P none = absurd (none stamp release refl)

pub a_recheck : (c : CoreCall) (P : ℕ → ℕ → Type 0) (node version : ℕ) → c ≡ call.Recheck node version → P node version → IfRecheck c P
a_recheck c P node version is holds = subst (λ (d : CoreCall). IfRecheck d P) (sym is) holds

pub a_turn : (c : CoreCall) (P : ℕ → ℕ → Type 0) (stamp release : ℕ) → c ≡ call.Turn stamp release → P stamp release → IfTurn c P
a_turn c P stamp release is holds = subst (λ (d : CoreCall). IfTurn d P) (sym is) holds

-- a call that may be made is of one of three kinds, and of each something else is asked
abbrev pub MayBe : Type 0 → (ℕ → ℕ → Type 0) → (ℕ → ℕ → Type 0) → CoreCall → Type 0
MayBe X T R d = (X × MayBegin d) ⊎ (IsTurnAnd d T ⊎ IsRecheckAnd d R)

module _ (X : Type 0) (T R : ℕ → ℕ → Type 0) where
  part_asks : (low : List ℕ) (count : ℕ) → MayBe X T R (call.Part low count) → X
  part_asks low count (inl may) = may.0
  part_asks low count (inr (inl never)) = absurd never
  part_asks low count (inr (inr never)) = absurd never

  pub may_part : (d : CoreCall) (low : List ℕ) (count : ℕ) → d ≡ call.Part low count → MayBe X T R d → X
  may_part d low count is may = part_asks low count (subst (MayBe X T R) is may)

  turn_asks : (stamp release : ℕ) → MayBe X T R (call.Turn stamp release) → T stamp release
  turn_asks stamp release (inl may) = absurd may.1
  turn_asks stamp release (inr (inl turn)) = turn
  turn_asks stamp release (inr (inr never)) = absurd never

  pub may_turn : (d : CoreCall) (stamp release : ℕ) → d ≡ call.Turn stamp release → MayBe X T R d → T stamp release
  may_turn d stamp release is may = turn_asks stamp release (subst (MayBe X T R) is may)

  recheck_asks : (node version : ℕ) → MayBe X T R (call.Recheck node version) → R node version
  recheck_asks node version (inl may) = absurd may.1
  recheck_asks node version (inr (inl never)) = absurd never
  recheck_asks node version (inr (inr recheck)) = recheck

  pub may_recheck : (d : CoreCall) (node version : ℕ) → d ≡ call.Recheck node version → MayBe X T R d → R node version
  may_recheck d node version is may = recheck_asks node version (subst (MayBe X T R) is may)

  turns_not : (d : CoreCall) → IsNoTurn d → IsTurnAnd d T → ⊥
  turns_not (call.Put name value limit) none turn = turn
  turns_not (call.Get name) none turn = turn
  turns_not (call.Del name limit) none turn = turn
  turns_not (call.Part low count) none turn = turn
  turns_not (call.Recheck node version) none turn = turn
  turns_not (call.Turn stamp release) none turn = none stamp release refl

  checks_not : (d : CoreCall) → IsNoRecheck d → IsRecheckAnd d R → ⊥
  checks_not (call.Put name value limit) none recheck = recheck
  checks_not (call.Get name) none recheck = recheck
  checks_not (call.Del name limit) none recheck = recheck
  checks_not (call.Part low count) none recheck = recheck
  checks_not (call.Recheck node version) none recheck = none node version refl
  checks_not (call.Turn stamp release) none recheck = recheck

  pub may_name : (d : CoreCall) → IsNoTurn d → IsNoRecheck d → MayBe X T R d → X × MayBegin d
  may_name d none unchecked (inl may) = may
  may_name d none unchecked (inr (inl turn)) = absurd (turns_not d none turn)
  may_name d none unchecked (inr (inr recheck)) = absurd (checks_not d unchecked recheck)

-- what a call of one kind isn't
pub part_no_turn : (d : CoreCall) (low : List ℕ) (count : ℕ) → d ≡ call.Part low count → IsNoTurn d
part_no_turn d low count is stamp release same = let no : call.Part low count ≡ call.Turn stamp release = sym is ∙ same in cc

pub part_no_recheck : (d : CoreCall) (low : List ℕ) (count : ℕ) → d ≡ call.Part low count → IsNoRecheck d
part_no_recheck d low count is node version same = let no : call.Part low count ≡ call.Recheck node version = sym is ∙ same in cc

pub turn_no_recheck : (d : CoreCall) (stamp release : ℕ) → d ≡ call.Turn stamp release → IsNoRecheck d
turn_no_recheck d stamp release is node version same = let no : call.Turn stamp release ≡ call.Recheck node version = sym is ∙ same in cc

pub turn_no_name : (d : CoreCall) (stamp release : ℕ) → d ≡ call.Turn stamp release → MayBegin d → ⊥
turn_no_name d stamp release is may = subst MayBegin is may

pub no_part_counts : (d : CoreCall) → ((low : List ℕ) (count : ℕ) → d ≡ call.Part low count → ⊥) → count_of d ≡ None
no_part_counts (call.Put name value limit) none = refl
no_part_counts (call.Get name) none = refl
no_part_counts (call.Del name limit) none = refl
no_part_counts (call.Part low count) none = absurd (none low count refl)
no_part_counts (call.Recheck node version) none = refl
no_part_counts (call.Turn stamp release) none = refl

-- a step of a turn takes no room for writes
pub turn_keeps_room : (old new : Index) (i : ℕ) (answer : Option TurnReply) → TurnSteps old i new answer → KeepsRoom old new
turn_keeps_room old new i answer t =
    let owing = turn_owes old.states i t.state (turn_after (making_turned t.making (turn_told old t.making))) t.there in
    subst (KeepsRoom old) (sym t.is) (record { spare = omega arith; all = omega arith })

-- a party that has begun a call on a name has it in flight, and one that has begun a turn makes it
pub name_flies : (old new : Index) (i : ℕ) (c : CoreCall) → Starts old i c new → IsBusy new i
name_flies old new i c begun =
    let m = machine_of (view_of old i) c in
    let now = state_with begun.state (length old.history) m in
    inl (record { state = now; machine = m; there = ap (λ (v : Index). get_elem? v.states i) begun.is ∙ set_here old.states i now begun.state begun.there; flies = refl })

pub turn_flies : (old new : Index) (i stamp release : ℕ) → StartsTurn old i stamp release new → IsBusy new i
turn_flies old new i stamp release begun =
    let m = making_from old.layout old.generation stamp release in
    let now : PartyState = record (begun.state) { turn = Some m } in
    inr (inl (record { state = now; machine = m; there = ap (λ (v : Index). get_elem? v.states i) begun.is ∙ set_here old.states i now begun.state begun.there; flies = refl }))

pub recheck_flies : (old new : Index) (i node version : ℕ) → StartsRecheck old i node version new → IsBusy new i
recheck_flies old new i node version begun =
    let r : Rechecking = record { since = length old.history; machine = Dating (view_of old i) node version } in
    let now : PartyState = record (begun.state) { recheck = Some r } in
    inr (inr (record { state = now; machine = r; there = ap (λ (v : Index). get_elem? v.states i) begun.is ∙ set_here old.states i now begun.state begun.there; flies = refl }))

-- and so has one whose step goes on
name_on : (m : Running) (turn : Turn Running (Once Placed)) → Going ≡ stepped_of m turn → (next : Running) × (turn ≡ Go next)
name_on m (Go next) is = (next, refl)
name_on m (Done answer) is = absurd cc

pub name_goes_on : (old new : Index) (i : ℕ) (result : Stepped) → StepsTo old i new result → result ≡ Going → IsBusy new i
name_goes_on old new i result step is =
    let t = step.turned in
    let go = name_on t.machine (running_turned t.machine (told old t.machine)) (sym is ∙ step.comes_to) in
    let now = state_after t.state (running_turned t.machine (told old t.machine)) in
    inl (record {
      state = now;
      machine = go.0;
      there = ap (λ (v : Index). get_elem? v.states i) t.is ∙ set_here old.states i now t.state t.there;
      flies = ap (λ (turn : Turn Running (Once Placed)). (state_after t.state turn).machine) go.1;
    })

turn_on : (turn : Turn MakeTurn TurnReply) → Going ≡ turn_stepped (turn_reply turn) → (next : MakeTurn) × (turn ≡ Go next)
turn_on (Go next) is = (next, refl)
turn_on (Done answer) is = absurd cc

pub turn_goes_on : (old new : Index) (i : ℕ) (result : Stepped) → TurnStepsTo old i new result → result ≡ Going → IsBusy new i
turn_goes_on old new i result step is =
    let t = step.steps in
    let go = turn_on (making_turned t.making (turn_told old t.making)) (sym is ∙ step.comes_to ∙ ap turn_stepped t.answers) in
    let now = state_turned t.state (making_turned t.making (turn_told old t.making)) in
    inr (inl (record {
      state = now;
      machine = go.0;
      there = ap (λ (v : Index). get_elem? v.states i) t.is ∙ set_here old.states i now t.state t.there;
      flies = ap (λ (turn : Turn MakeTurn TurnReply). (state_turned t.state turn).turn) go.1;
    }))

recheck_on : (turn : Turn Recheck (Once Same)) → Going ≡ recheck_stepped (recheck_reply turn) → (next : Recheck) × (turn ≡ Go next)
recheck_on (Go next) is = (next, refl)
recheck_on (Done answer) is = absurd cc

pub recheck_goes_on : (old new : Index) (i : ℕ) (result : Stepped) → RecheckStepsTo old i new result → result ≡ Going → IsBusy new i
recheck_goes_on old new i result step is =
    let t = step.steps in
    let turn = recheck_turned t.rechecking.machine (recheck_told old t.rechecking.machine) in
    let go = recheck_on turn (sym is ∙ step.comes_to ∙ ap recheck_stepped t.answers) in
    let now = state_rechecked t.state t.rechecking.since turn in
    inr (inr (record {
      state = now;
      machine = record { since = t.rechecking.since; machine = go.0 };
      there = ap (λ (v : Index). get_elem? v.states i) t.is ∙ set_here old.states i now t.state t.there;
      flies = ap (λ (turn : Turn Recheck (Once Same)). recheck_after t.rechecking.since turn) go.1;
    }))

-- a step of a recheck takes no room for writes
pub recheck_keeps_room : (old new : Index) (i : ℕ) (answer : Option (Once Same)) → RecheckSteps old i new answer → KeepsRoom old new
recheck_keeps_room old new i answer t =
    let now = recheck_after t.rechecking.since (recheck_turned t.rechecking.machine (recheck_told old t.rechecking.machine)) in
    let owing = recheck_owes old.states i t.state now t.there in
    subst (KeepsRoom old) (sym t.is) (record { spare = omega arith; all = omega arith })

-- the state of a party whose call isn't answered, and whether that is one of a kind
pub busy_there : (s : Index) (i : ℕ) → IsBusy s i → (e : PartyState) × (get_elem? s.states i ≡ some e)
busy_there s i (inl flies) = (flies.state, flies.there)
busy_there s i (inr (inl turns)) = (turns.state, turns.there)
busy_there s i (inr (inr checks)) = (checks.state, checks.there)

pub held_told : {A : Type 0} → (held : PartyState → Option A) (s : Index) (i : ℕ) (e : PartyState) → get_elem? s.states i ≡ some e → is_some (held e) ≡ true → HasInFlight held s i
held_told held s i e there is = let m = some_of (held e) is in record { state = e; machine = m.0; there = there; flies = m.1 }

pub tells_held : {A : Type 0} → (held : PartyState → Option A) (s : Index) (i : ℕ) (e : PartyState) → get_elem? s.states i ≡ some e → HasInFlight held s i → is_some (held e) ≡ true
tells_held held s i e there f =
    let same : e ≡ f.state = some-injective _ _ (sym there ∙ f.there) in
    ap (λ (d : PartyState). is_some (held d)) same ∙ ap is_some f.flies
