-- One step of a call in flight on the shared words: the table's rule allows it, and the call goes on by it.
use Rattle.std.proofs.Common.{◌≡◌, ℕ, ◌<◌, List, sym, ap, ◌∙◌, subst}
use Rattle.std.specs.Prelude.{Option, Some}
use Rattle.pm_words.specs.declared.action.Action.{Action}
use Rattle.pm_words.specs.declared.machine.Turn.{Turn}
use Rattle.pm_words.specs.declared.machine.Turn.TheVariants.{Go}
use Rattle.pm_words.specs.Rows.{given, action_address}
use Rattle.pm_words.specs.Turns.{AdvancesTo, GoesBelow}
use Rattle.call_stages.specs.declared.once.Once.{Once}
use Rattle.call_stages.specs.declared.once.Placed.{Placed}
use Rattle.node_ops.specs.declared.running.Running.{Running}
use Rattle.node_ops.specs.RunningSteps.{running_asks, running_left, running_turned}
use Rattle.index_core.specs.declared.party.CoreCall.{CoreCall}
use Rattle.index_core.specs.declared.party.PartyState.{PartyState}
use Rattle.index_core.specs.MachineLaws.{IsReady, ReadyAfter}
use Rattle.index_core.specs.PartyStates.{state_after}
use Rattle.atomic_table.specs.Table.{Me}
use Rattle.pac_index.specs.declared.rule.About.{About}
use Rattle.pac_index.specs.declared.rule.Member.{Member}
use Rattle.pac_index.specs.declared.shared.Shared.{Shared}
use Rattle.pac_index.specs.Kept.{Goes, IsLone, May, Tells, WasTold, party}
use Rattle.pac_index.specs.Calls.{Runs, StepsOn, began, turn_left}
use Rattle.pac_index.proofs.Allowed.{allows, inside_table, place_inside}
use Rattle.pac_index.proofs.Running.{lessens}

-- the machine of a call that isn't answered is in flight, and ready
pub flies_on : (c : CoreCall) (n : ℕ) (old v : Member) (turn : Turn Running (Once Placed)) (m : Running) → Runs c n old turn v → turn ≡ Go m → v.state.machine ≡ Some m
flies_on c n old v turn m runs is = ap (λ (e : PartyState). e.machine) (runs.state ∙ ap (state_after (began c n old runs.since)) is)

pub ready_on : (c : CoreCall) (n : ℕ) (old v : Member) (turn : Turn Running (Once Placed)) (m : Running) (about : About) → old.about ≡ about → Runs c n old turn v → turn ≡ Go m → IsReady about.layout about.generation m
ready_on c n old v turn m about same runs is =
    subst (λ (b : About). IsReady b.layout b.generation m) same (subst (ReadyAfter old.about.layout old.about.generation) is runs.ready)

pub step_allowed : (s : Shared) (id : ℕ) (me : Me (Unit {0}) (List Member)) (m : Running) (a : Action) → IsLone me → (party me).state.machine ≡ Some m → IsReady s.about.layout s.about.generation m → a ≡ running_asks m
    → May s.table.shared.key s.table.shared.table_id.words s.table.shared.table_id.slots id me a Tells
step_allowed s id me m a lone flies ready is =
    let t = s.table.shared in
    let inside : action_address t.key.layout (running_asks m) < t.table_id.words =
    inside_table s.about t.key t.table_id.words (running_asks m) s.key s.words (place_inside s.about.layout (running_asks m) ready.names) in
    subst (λ (b : Action). May t.key t.table_id.words t.table_id.slots id me b Tells) (sym is) (allows t.key t.table_id.words t.table_id.slots id me m lone flies inside)

pub steps_on : (me after : Me (Unit {0}) (List Member)) (m next : Running) (a : Action) (got : ℕ) (answer : Option (Once Placed)) → (party me).state.machine ≡ Some m → a ≡ running_asks m → WasTold Tells me a got after
    → AdvancesTo (running_turned m got) next answer → GoesBelow running_left (running_left m) (running_turned m got) → IsLone after × StepsOn m (party me) (party after) next answer
steps_on me after m next a got answer flies is told turned fewer =
    let heard = told.heard m flies in
    let found : got ≡ given (running_asks m) told.found = told.is ∙ ap (λ (b : Action). given b told.found) is in (
      heard.0,
      record {
        told = got;
        goes = subst (λ (n : ℕ). Goes m (party me) n (party after)) (sym found) heard.1;
        turned = turned;
        fewer = subst (λ (t : Turn Running (Once Placed)). turn_left t < turn_left (Go m)) turned (lessens m (running_turned m got) fewer);
      },
    )
