-- A call's part that makes several turns one after another, as turns of any call in flight.
use Rattle.std.proofs.Common.{◌≡◌, ℕ, ◌<◌, refl, ap, sym, subst, ◌∙◌}
use Rattle.std.specs.Prelude.{Option, Some, None}
use Rattle.pm_words.specs.Images.{Row}
use Rattle.pm_words.specs.Turns.{GoesBelow, turn_of}
use Rattle.pm_words.specs.declared.action.Action.{Action}
use Rattle.pm_words.specs.declared.machine.Turn.{Turn}
use Rattle.pm_words.specs.declared.machine.Turn.TheVariants.{Go, Done}
use Rattle.call_stages.specs.declared.once.Once.{Once}
use Rattle.call_stages.specs.declared.once.Placed.{Placed}
use Rattle.machine_runs.specs.Runs.{Holds, Bursts, MayGo}
use Rattle.machine_runs.proofs.Inside.{part_bursts}
use Rattle.node_ops.specs.declared.running.Running.{Running}
use Rattle.node_ops.specs.declared.running.Running.TheVariants.{Getting, Putting, Deleting}
use Rattle.node_ops.specs.GetSteps.{get_asks, get_turned, get_left, get_takes}
use Rattle.node_ops.specs.PutSteps.{put_asks, put_turned, put_left, put_takes}
use Rattle.node_ops.specs.DelSteps.{del_asks, del_turned, del_left, del_takes}
use Rattle.node_ops.specs.RunningSteps.{running_asks, running_turned, running_left, running_takes, wrapped}

wrapped_turn : {M : Type 0} (wrap : M → Running) (last : M) (answer : Option (Once Placed))
    → wrapped wrap (turn_of last answer) ≡ turn_of (wrap last) answer
wrapped_turn wrap last None = refl
wrapped_turn wrap last (Some answer) = refl

-- a call that is as long as what it wraps
wrapped_below : {M : Type 0} (wrap : M → Running) (left : M → ℕ) → ((m : M) → running_left (wrap m) ≡ left m)
    → (bound : ℕ) (turn : Turn M (Once Placed)) → GoesBelow left bound turn
    → GoesBelow {A = Once Placed} running_left bound (wrapped wrap turn)
wrapped_below wrap left same bound (Go next) below = subst (λ (n : ℕ). n < bound) (sym (same next)) below
wrapped_below wrap left same bound (Done answer) below = tt

-- a call holds what it wraps, where it asks, turns and takes as that does
holds_wrapped : {M : Type 0} {asks : M → Action} {turned : M → ℕ → Turn M (Once Placed)} {left : M → ℕ}
    {takes : M → ℕ → Type 0} (wrap : M → Running) → ((m : M) → running_asks (wrap m) ≡ asks m)
    → ((m : M) (number : ℕ) → running_turned (wrap m) number ≡ wrapped wrap (turned m number))
    → ((m : M) → running_left (wrap m) ≡ left m)
    → ((m : M) (number : ℕ) → running_takes (wrap m) number → takes m number)
    → Holds asks turned left takes running_asks running_turned running_left running_takes wrap
holds_wrapped {turned = turned} {left = left} wrap asked turns same taken = record {
  asked = asked;
  on = λ m next number goes. turns m number ∙ ap (wrapped wrap) goes;
  taken = taken;
  fewer = λ m number takes below.
      subst (GoesBelow {A = Once Placed} running_left (running_left (wrap m))) (sym (turns m number))
      (wrapped_below wrap left same (running_left (wrap m)) (turned m number)
      (subst (λ (n : ℕ). GoesBelow left n (turned m number)) (sym (same m)) below));
}

pub getting : Holds get_asks get_turned get_left get_takes running_asks running_turned running_left running_takes
    Getting
getting = holds_wrapped Getting (λ m. refl) (λ m number. refl) (λ m. refl) (λ m number takes. (takes.0, takes.1))

pub putting : Holds put_asks put_turned put_left put_takes running_asks running_turned running_left running_takes
    Putting
putting = holds_wrapped Putting (λ m. refl) (λ m number. refl) (λ m. refl) (λ m number takes. takes)

pub deleting : Holds del_asks del_turned del_left del_takes running_asks running_turned running_left running_takes
    Deleting
deleting = holds_wrapped Deleting (λ m. refl) (λ m number. refl) (λ m. refl) (λ m number takes. takes)

-- a burst of what it wraps is one of the call
pub wrapped_bursts : {M : Type 0} {asks : M → Action} {turned : M → ℕ → Turn M (Once Placed)} {left : M → ℕ}
    {takes : M → ℕ → Type 0} (wrap : M → Running)
    → Holds asks turned left takes running_asks running_turned running_left running_takes wrap
    → ((m : M) (number : ℕ) → running_turned (wrap m) number ≡ wrapped wrap (turned m number))
    → {running : Running} {machine : M} → running ≡ wrap machine → {old new : Row} {begun ended : ℕ}
    → MayGo running_asks running_turned running_left running_takes old.layout old.words running
    → (last : M) (answer : Option (Once Placed))
    → Bursts asks turned left old new machine (turn_of last answer) begun ended
    → Bursts running_asks running_turned running_left old new running (turn_of (wrap last) answer) begun ended
wrapped_bursts wrap h turns is may last answer b =
    part_bursts h is may b (turns b.last _ ∙ ap (wrapped wrap) (sym b.ends) ∙ wrapped_turn wrap last answer)
