-- A turn that is to make a node FREE has found on it a stamp of its release, wherever a schedule stands.
use Rattle.std.proofs.Common.{◌≡◌, ◌≢◌, ℕ, ⊎_elim, inl, inr, List, length, set, refl, sym, ap, ◌∙◌, subst}
use Rattle.std.specs.Prelude.{Some, None}
use mathlib.Core.Option.{some}
use lib.ListN.{get_elem?}
use Rattle.pm_words.specs.declared.machine.Turn.{Turn}
use Rattle.pm_words.specs.declared.machine.Turn.TheVariants.{Go, Done}
use Rattle.call_stages.specs.declared.once.Once.{Once}
use Rattle.call_stages.specs.declared.once.Placed.{Placed}
use Rattle.node_ops.specs.declared.running.Running.{Running}
use Rattle.node_ops.specs.RunningSteps.{running_turned}
use Rattle.pm_words.specs.declared.layout.Layout.{Layout}
use Rattle.updater.specs.updater_row_law.specs.RowStages.{Resting, Frees}
use Rattle.updater.specs.declared.making.MakeTurn.{MakeTurn}
use Rattle.updater.specs.declared.making.TurnReply.{TurnReply}
use Rattle.updater.specs.Makings.{making_from, making_turned, making_turning}
use Rattle.index_law.proofs.Parties.{at_set}
use Rattle.index_core.specs.declared.party.PartyState.{PartyState}
use Rattle.index_core.specs.PartyStates.{state_after, turn_after}
use Rattle.index_core.specs.Indexes.{Index, told}
use Rattle.index_core.specs.Lone.{IsQuiet, state_done}
use Rattle.index_core.specs.Schedules.{BegunCall, AnsweredCall, Runs, begins, starts, goes_on, answers, alone, evicts}
use Rattle.index_core.specs.Schedules.{reserves, begins_recheck, steps_recheck, begins_turn, steps_turn, turns_alone}
use Rattle.index_core.specs.Turns.{IsToFree, turn_told}
use Rattle.index_core.specs.Freeing.{WasReleased, FreedWereReleased, StepsFreeReleased}

-- The party makes this turn, as its state says.
abbrev Makes : List PartyState → ℕ → MakeTurn → Type 0
Makes states i making = (e : PartyState) × (get_elem? states i ≡ some e) × (e.turn ≡ Some making)

-- what a party makes it made before, where the party that has another state has the turn that it had
made_before : (states : List PartyState) (j i : ℕ) (was now : PartyState) (making : MakeTurn) → get_elem? states j ≡ some was → now.turn ≡ was.turn → Makes (set states j now) i making → Makes states i making
made_before states j i was now making there same makes = ⊎_elim
    (λ (mine : (i ≡ j) × (now ≡ makes.0)). (was, ap (λ k. get_elem? states k) mine.0 ∙ there, sym same ∙ ap (λ (e : PartyState). e.turn) mine.1 ∙ makes.2))
    (λ (other : (i ≢ j) × (get_elem? states i ≡ some makes.0)). (makes.0, other.1, makes.2))
    (at_set states j i now makes.0 makes.1)

after_turn : (e : PartyState) (turn : Turn Running (Once Placed)) → (state_after e turn).turn ≡ e.turn
after_turn e (Go machine) = refl
after_turn e (Done answer) = refl

none_made : {P : Type 0} (s : Index) (i : ℕ) (making : MakeTurn) → IsQuiet s → Makes s.states i making → P
none_made s i making quiet makes = absurd (let no : None ≡ Some making = sym (quiet.turns i makes.0 makes.1) ∙ makes.2 in cc)

some_made : {m n : MakeTurn} → Some m ≡ Some n → m ≡ n
some_made e = cc

-- a turn that begins is to free none
begun_none : (l : Layout) (g stamp release : ℕ) (making : MakeTurn) (n : ℕ) → Some (making_from l g stamp release) ≡ Some making → IsToFree making n → ⊥
begun_none l g stamp release making n is frees =
    let same : making_from l g stamp release ≡ making = some_made is in
    let no : Resting ≡ Frees n = ap (λ (m : MakeTurn). (making_turning m).stage) same ∙ frees in
    cc

went_on : (turn : Turn MakeTurn TurnReply) (making : MakeTurn) → turn_after turn ≡ Some making → turn ≡ Go making
went_on (Go next) making is = let same : next ≡ making = some_made is in ap (λ (m : MakeTurn). Go m) same
went_on (Done reply) making is = absurd (cc)

was : (first : Index) → IsQuiet first → {begun : List BegunCall} {calls : List AnsweredCall} {last : Index} → Runs first begun calls last
    → (i : ℕ) (making : MakeTurn) (n : ℕ) → Makes last.states i making → IsToFree making n → WasReleased first i making n
was first quiet begins i making n makes frees = none_made first i making quiet makes
was first quiet (starts {old = old} {party = party} run free start index) i making n makes frees =
    was first quiet run i making n
    (made_before old.states party i start.state _ making start.there refl (subst (λ (s : Index). Makes s.states i making) start.is makes)) frees
was first quiet (goes_on {old = old} {party = party} run step index) i making n makes frees =
    let t = step.turned in
    was first quiet run i making n
    (made_before old.states party i t.state (state_after t.state (running_turned t.machine (told old t.machine))) making t.there (after_turn t.state (running_turned t.machine (told old t.machine)))
    (subst (λ (s : Index). Makes s.states i making) t.is makes)) frees
was first quiet (answers {old = old} {party = party} run step index) i making n makes frees =
    let t = step.turned in
    was first quiet run i making n
    (made_before old.states party i t.state (state_after t.state (running_turned t.machine (told old t.machine))) making t.there (after_turn t.state (running_turned t.machine (told old t.machine)))
    (subst (λ (s : Index). Makes s.states i making) t.is makes)) frees
was first quiet (alone {old = old} {caller = caller} run free ran index) i making n makes frees =
    was first quiet run i making n
    (made_before old.states caller i ran.state (state_done ran.state (length old.history)) making ran.there refl (subst (λ (l : List PartyState). Makes l i making) ran.states makes)) frees
was first quiet (evicts {old = old} run within same index) i making n makes frees =
    was first quiet run i making n (subst (λ (s : Index). Makes s.states i making) same makes) frees
was first quiet (reserves {old = old} run same) i making n makes frees =
    was first quiet run i making n (subst (λ (s : Index). Makes s.states i making) same makes) frees
was first quiet (begins_recheck {old = old} {party = party} run free start index) i making n makes frees =
    was first quiet run i making n
    (made_before old.states party i start.state _ making start.there refl (subst (λ (s : Index). Makes s.states i making) start.is makes)) frees
was first quiet (steps_recheck {old = old} {party = party} run step index) i making n makes frees =
    was first quiet run i making n
    (made_before old.states party i step.state _ making step.there refl (subst (λ (s : Index). Makes s.states i making) step.is makes)) frees
was first quiet (begins_turn {old = old} {party = party} {stamp = stamp} {release = release} run free start index) i making n makes frees =
    let made = subst (λ (s : Index). Makes s.states i making) start.is makes in
    let begun : PartyState = record (start.state) { turn = Some (making_from old.layout old.generation stamp release) } in
    ⊎_elim
    (λ (mine : (i ≡ party) × (begun ≡ made.0)).
    let first_turn : Some (making_from old.layout old.generation stamp release) ≡ Some making = ap (λ (e : PartyState). e.turn) mine.1 ∙ made.2 in
    absurd (begun_none old.layout old.generation stamp release making n first_turn frees))
    (λ (other : (i ≢ party) × (get_elem? old.states i ≡ some made.0)). was first quiet run i making n (made.0, other.1, made.2) frees)
    (at_set old.states party i begun made.0 made.1)
was first quiet (steps_turn {begun = begun} {calls = calls} {old = old} {party = party} run step index) i making n makes frees =
    let made = subst (λ (s : Index). Makes s.states i making) step.is makes in
    let turn = making_turned step.making (turn_told old step.making) in
    let now : PartyState = record (step.state) { turn = turn_after turn } in
    ⊎_elim
    (λ (mine : (i ≡ party) × (now ≡ made.0)).
    let went : turn ≡ Go making = went_on turn making (ap (λ (e : PartyState). e.turn) mine.1 ∙ made.2) in
    record {
      begun = begun;
      calls = calls;
      earlier = old;
      run = run;
      turning = record { state = step.state; machine = step.making; there = ap (λ k. get_elem? old.states k) mine.0 ∙ step.there; flies = step.turns };
      step = went;
      may = step.freed.comes making n went frees;
    })
    (λ (other : (i ≢ party) × (get_elem? old.states i ≡ some made.0)). was first quiet run i making n (made.0, other.1, made.2) frees)
    (at_set old.states party i now made.0 made.1)
was first quiet (turns_alone {old = old} run rests turn index) i making n makes frees =
    none_made old i making rests (subst (λ (s : Index). Makes s.states i making) turn.is makes)

pub freed_were_released : FreedWereReleased
freed_were_released first last begun calls quiet run party state making n there turns frees = was first quiet run party making n (state, there, turns) frees

pub steps_free_released : StepsFreeReleased
steps_free_released first old new begun calls party result quiet run step n free = elim (step.freed.frees n free) [
  | inl same ↦ inl same
  | inr freed ↦ inr (freed.0, was first quiet run party step.making n (step.state, step.there, step.turns) freed.1)
]
