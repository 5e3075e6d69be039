-- What the code of a step and of a start has in hand, as facts on the index that it works on.
use Rattle.std.proofs.Common.{◌≡◌, ℕ, ◌+◌, ◌-◌, ◌≤◌, List, ◌++◌, length, get_or, set, refl, ap, ◌∙◌, subst}
use Rattle.std.specs.Prelude.{Option, Some, None, IfSome}
use mathlib.Core.Option.{some}
use lib.ListN.{get_elem?}
use Rattle.pm_words.specs.declared.action.Action.{Action}
use Rattle.pm_words.specs.declared.machine.Turn.{Turn}
use Rattle.pm_words.specs.Images.{Row}
use Rattle.pm_words.specs.Rows.{acted, got}
use Rattle.cat_history.specs.declared.op.Change.{Change}
use Rattle.cat_history.specs.declared.op.Write.{Write}
use Rattle.call_stages.specs.declared.once.Once.{Once}
use Rattle.call_stages.specs.declared.once.Placed.{Placed}
use Rattle.call_stages.specs.Stages.{counted}
use Rattle.node_ops.specs.declared.running.Running.{Running}
use Rattle.node_ops.specs.Asked.{IsOf, op_in}
use Rattle.node_ops.specs.RunningSteps.{running_asks, running_turned, IsRunning, Sound}
use Rattle.node_ops.specs.CallStages.{stage_of}
use Rattle.index_law.specs.Worlds.{written}
use Rattle.index_core.specs.declared.party.CoreCall.{CoreCall}
use Rattle.index_core.specs.declared.party.PartyState.{PartyState}
use Rattle.index_core.specs.CoreCalls.{machine_of, most_writes}
use Rattle.index_core.specs.PartyStates.{state_with, state_after, owed}
use Rattle.index_core.specs.Indexes.{Index, IsIndex, IsInFlight, TurnsTo, view_of, started_index, told, stepped_index}
use Rattle.index_core.proofs.Found.{Found, finds}
use Rattle.index_core.proofs.Stepping.{StepFacts, step_facts, step_at, step_room, start_keeps, start_owes, start_at}

-- The state r that a step reads is the party's, e, and the machine in it its call's, m.
pub record Reads (s : Index) (i : ℕ) (e r : PartyState) (m machine : Running) : Type 0 where
  pub found : Found s i e r m machine
  pub sound : Sound s.layout s.generation m
  pub of : IsOf (op_in m) m
  pub facts : StepFacts s i e m

pub reads : (s old : Index) (i : ℕ) (flies : IsInFlight old i) (r : PartyState) (machine : Running) → s.states ≡ old.states → IsIndex s → r ≡ get_or s.states i r → r.machine ≡ Some machine
    → Reads s i flies.state r flies.machine machine
reads s old i flies r machine states is found has =
    let at = finds (λ (d : PartyState). d.machine) s old i flies r machine states found has in
    record {
      found = at;
      sound = subst (λ (o : Option Running). IfSome o (Sound s.layout s.generation)) flies.flies (is.states i flies.state at.there).machine;
      of = subst (λ (o : Option Running). IfSome o (λ q. IsOf (op_in q) q)) flies.flies (is.states i flies.state at.there).op;
      facts = step_facts s i flies.state flies.machine is at.there flies.flies;
    }

-- So it is the machine that takes a turn there.
pub reads_turned : (s old new : Index) (i : ℕ) (answer : Option (Once Placed)) (t : TurnsTo old i new answer) (r : PartyState) (machine : Running) → s.states ≡ old.states → IsIndex s → r ≡ get_or s.states i r → r.machine ≡ Some machine
    → machine ≡ t.machine
reads_turned s old new i answer t r machine states is found has = (reads s old i (record { state = t.state; machine = t.machine; there = t.there; flies = t.flies }) r machine states is found has).found.same

-- The row, the state and the history that it has made are those of the step, and there is room for what is owed.
pub record Leaves (s : Index) (i : ℕ) (e : PartyState) (m : Running) (row : Row) (turn : Turn Running (Once Placed)) (now : PartyState) (history : List Write) (len cap len' cap' : ℕ) : Type 0 where
  pub same : (spare : ℕ) → Path Index (record { layout = row.layout; generation = s.generation; words = row.words; states = set s.states i now; base = s.base; history = history; spare = spare }) (stepped_index s i e m spare)
  pub turned : turn ≡ running_turned m (told s m)
  pub room : len' + owed (set s.states i now) ≤ cap'
  pub spare : cap - (len + owed s.states) ≤ cap' - (len' + owed (set s.states i now))

pub leaves : (s : Index) (i : ℕ) (e r : PartyState) (m machine : Running) → Reads s i e r m machine → e.machine ≡ Some m
    → (action : Action) (row : Row) (word : ℕ) (turn : Turn Running (Once Placed)) (now : PartyState) (counts : Option Change) (history : List Write) (len cap len' cap' : ℕ)
    → action ≡ running_asks machine → row ≡ record { layout = s.layout; words = acted s.layout s.words action } → word ≡ got s.layout s.words action → turn ≡ running_turned machine word
    → now ≡ state_after r turn → counts ≡ counted (stage_of machine) → history ≡ s.history ++ written r.caller r.index counts
    → len ≡ length s.history → len' ≡ length history → cap ≤ cap' → len + owed s.states ≤ cap → Leaves s i e m row turn now history len cap len' cap'
leaves s i e r m machine at flies action row word turn now counts history len cap len' cap' asks acts gives turns goes counted_is writes was is larger room =
    let words : row ≡ record { layout = s.layout; words = acted s.layout s.words (running_asks machine) } = acts ∙ ap (λ (a : Action). record { layout = s.layout; words = acted s.layout s.words a }) asks in
    let told_is : word ≡ got s.layout s.words (running_asks machine) = gives ∙ ap (got s.layout s.words) asks in
    let items = writes ∙ ap (λ (o : Option Change). s.history ++ written r.caller r.index o) counted_is in
    let same = λ (spare : ℕ). step_at s i e r now m machine row word turn history spare at.found.state at.found.same words told_is turns goes items in
    let fits = step_room s i e m history (set s.states i now) len cap len' cap' at.found.there flies (ap (λ (v : Index). v.history) (same 0)) (ap (λ (v : Index). v.states) (same 0)) was is larger room in
    record {
      same = same;
      turned = turns ∙ (λ k. running_turned (at.found.same k) (told_is k)) ∙ ap (λ (q : Running). running_turned m (told s q)) at.found.same;
      room = fits.0;
      spare = fits.1;
    }

-- A start reads the party's state r, which is idle, and the one that it makes of it begins the call.
pub record Begins (s : Index) (i : ℕ) (r now : PartyState) (c : CoreCall) : Type 0 where
  pub same : (spare : ℕ) → Path Index (record { layout = s.layout; generation = s.generation; words = s.words; states = set s.states i now; base = s.base; history = s.history; spare = spare }) (started_index s i r c spare)
  pub kept : (spare : ℕ) → IsIndex (started_index s i r c spare)
  pub owing : owed (set s.states i now) ≡ owed s.states + most_writes c

pub begins : (s : Index) (i : ℕ) (r now : PartyState) (c : CoreCall) (machine : Running) (since : ℕ) → IsIndex s → get_elem? s.states i ≡ some r → r.machine ≡ None
    → machine ≡ machine_of (view_of s i) c → IsRunning machine → since ≡ length s.history → now ≡ state_with r since machine → Begins s i r now c
begins s i r now c machine since is there none made running long goes =
    let same = λ (spare : ℕ). start_at s i r r now c machine since spare refl long made goes in
    record {
      same = same;
      kept = λ spare. start_keeps s i r c spare is there none (subst IsRunning made running);
      owing = ap (λ (v : Index). owed v.states) (same 0) ∙ start_owes s i r c there none;
    }
