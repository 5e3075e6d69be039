-- A look-up that is alone, turn by turn.
use Rattle.std.proofs.Common.{◌≡◌, ℕ, ◌+◌}
use Rattle.std.proofs.Common.{refl, sym, subst}
use Rattle.pm_words.specs.declared.action.Action.{Action}
use Rattle.pm_words.specs.Images.{Row}
use Rattle.pm_words.specs.Rows.{CanAct, acted, got}
use Rattle.pm_words.specs.Turns.{GoesBelow}
use Rattle.pm_words.specs.declared.machine.Turn.{Turn}
use Rattle.pm_words.specs.declared.machine.Turn.TheVariants.{Go, Done}
use Rattle.machine_runs.specs.Runs.{Bursts, begins}
use Rattle.machine_runs.proofs.Running.{burst_behind, burst_goes, burst_may, run_begins, run_ends}
use Rattle.node_ops.specs.declared.call.Call.{Call}
use Rattle.node_ops.specs.declared.lookup.Lookup.{Lookup}
use Rattle.node_ops.specs.declared.lookup.Looked.{Looked}
use Rattle.node_ops.specs.LookupSteps.{IsLookup}
use Rattle.node_ops.specs.LookupSteps.{lookup_asks, lookup_left, lookup_takes, lookup_turned}
use Rattle.node_ops.specs.Looking.{LeadsTo, LooksFrom, MayLookFrom}
use Rattle.node_ops.proofs.Bursting.{lookup_adds_nothing}

-- what it comes to behind a burst it comes to from there
pub burst_looks : {old now new : Row} {first : Lookup} {call : Call} (turn : Turn Lookup Looked) {last : Call}
    {answer : Looked} {begun steps ended : ℕ}
    → (b : Bursts lookup_asks lookup_turned lookup_left old now first turn begun steps) → b.last.call ≡ call
    → LooksFrom now new call turn last answer steps ended → LooksFrom old new call (Go first) last answer begun ended
unfolding burst_behind
burst_looks (Go machine) b is rest = (burst_behind (burst_goes b refl) rest.0, rest.1)
burst_looks {old} {first = first} (Done early) {begun = begun} b is rest =
    subst (λ (q : Row × Looked × Call × ℕ).
    (e : Bursts lookup_asks lookup_turned lookup_left old q.0 first (Done q.1) begun q.3) × (q.2 ≡ e.last.call))
    (λ k. (sym rest.1 k, sym rest.0 k, sym rest.2 k, sym rest.3 k)) (b, sym is)

pub leads_on : {old now after : Row} {call : Call} {from middle to : Turn Lookup Looked} {begun steps later : ℕ}
    → LeadsTo old now call from middle begun steps → LeadsTo now after call middle to steps later
    → LeadsTo old after call from to begun later
leads_on one two = record {
  may = two.may;
  looks = λ new last answer ended rest. one.looks new last answer ended (two.looks new last answer ended rest);
}

pub leads_to : {old now : Row} {call : Call} {from turn : Turn Lookup Looked} {begun steps : ℕ}
    (to : Turn Lookup Looked) → LeadsTo old now call from turn begun steps → turn ≡ to
    → LeadsTo old now call from to begun steps
leads_to {old} {now} {call} {from} {begun = begun} {steps = steps} to on is =
    subst (λ (t : Turn Lookup Looked). LeadsTo old now call from t begun steps) is on

-- it has come to its end
pub leads_looks : {old now : Row} {call : Call} {from : Turn Lookup Looked} {answer : Looked} {begun steps : ℕ}
    → LeadsTo old now call from (Done answer) begun steps → LooksFrom old now call from call answer begun steps
leads_looks {now = now} {call} {answer = answer} {steps = steps} on =
    on.looks now call answer steps (refl, refl, refl, refl)

-- what a look-up asks for that may go on can be done, and its fields are in order
module _ {old : Row} (l : Lookup) (may : MayLookFrom old (Go l)) where
  pub look_sound : IsLookup l
  look_sound = (may _ _ _ begins).1.0

  pub look_can : {action : Action} → action ≡ lookup_asks l → CanAct old.layout old.words action
  look_can asked = subst (CanAct old.layout old.words) (sym asked) (may _ _ _ begins).0

  -- one turn of it
  pub turn_leads : {after : Row} {action : Action} {number begun later : ℕ}
      → GoesBelow lookup_left (lookup_left l) (lookup_turned l number) → action ≡ lookup_asks l
      → after ≡ record old { words = acted old.layout old.words action }
      → number ≡ got old.layout old.words action → later ≡ begun + 1
      → LeadsTo old after l.call (Go l) (lookup_turned l number) begun later
  unfolding run_ends
  turn_leads {after} {number = number} {begun} {later} fewer asked acts given ticks =
      let b : Bursts lookup_asks lookup_turned lookup_left old after l (lookup_turned l number) begun later =
      run_ends (run_begins old l begun) (lookup_adds_nothing l) asked acts given ticks fewer refl in
      record {
        may = burst_may lookup_takes (lookup_turned l number) may b;
        looks = λ new last answer ended rest. burst_looks (lookup_turned l number) b refl rest;
      }

-- one turn more
pub leads_turn : {old now after : Row} {from : Turn Lookup Looked} {begun steps later : ℕ} {action : Action}
    {number : ℕ} (l : Lookup) → LeadsTo old now l.call from (Go l) begun steps
    → GoesBelow lookup_left (lookup_left l) (lookup_turned l number) → action ≡ lookup_asks l
    → after ≡ record now { words = acted now.layout now.words action }
    → number ≡ got now.layout now.words action → later ≡ steps + 1
    → LeadsTo old after l.call from (lookup_turned l number) begun later
leads_turn l on fewer asked acts given ticks = leads_on on (turn_leads l on.may fewer asked acts given ticks)
