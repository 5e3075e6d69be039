-- How a call comes to its answer: what the laws of its machine say, by answer.
use Rattle.std.proofs.Common.{◌≡◌, ℕ, ◌≤◌, subst}
use Rattle.std.specs.Prelude.{None, IsSomeAnd}
use Rattle.pm_words.specs.declared.again.Again.TheVariants.{NoFree}
use Rattle.pm_words.specs.declared.machine.Turn.TheVariants.{Done}
use Rattle.cat_history.specs.Records.{change_of}
use Rattle.call_stages.specs.declared.once.Once.{Once}
use Rattle.call_stages.specs.declared.once.Once.TheVariants as once
use Rattle.call_stages.specs.declared.once.Placed.{Placed}
use Rattle.call_stages.specs.Stages.{placed_in}
use Rattle.node_ops.specs.declared.running.Running.{Running}
use Rattle.node_ops.specs.RunningSteps.{IsRunning, running_call, running_turned}
use Rattle.node_ops.specs.CallStages.{stage_of}
use Rattle.node_ops.specs.Asked.{op_in}
use Rattle.node_ops.specs.Endings.{IsPutOp, place_for, limit_in}
use Rattle.node_ops.proofs.Endings.{done_is_counted, spent_is_late, no_free_is_of_puts, refused_is_uncounted}

abbrev pub EndsWith : Running → Once Placed → Type 0
EndsWith m (once.Done placed) = (placed_in (stage_of m) ≡ place_for (change_of (op_in m)) placed.place) × (limit_in (stage_of m) ≡ (running_call m).limit)
EndsWith m (once.Spent clock) = (placed_in (stage_of m) ≡ None) × IsSomeAnd (running_call m).limit (λ most. most ≤ clock)
EndsWith m (once.Worn node word) = placed_in (stage_of m) ≡ None
EndsWith m (once.Again why) = (placed_in (stage_of m) ≡ None) × (why ≡ NoFree → IsPutOp (op_in m))

pub ends_with : (m : Running) (x : ℕ) (answer : Once Placed) → IsRunning m → running_turned m x ≡ Done answer → EndsWith m answer
ends_with m x (once.Done placed) sound is = let done = done_is_counted m x placed sound is in (done.place, done.limit)
ends_with m x (once.Spent clock) sound is = let late = spent_is_late m x clock sound is in (late.unplaced, late.reached)
ends_with m x (once.Worn node word) sound is = refused_is_uncounted m x (once.Worn node word) tt sound is
ends_with m x (once.Again why) sound is = (
  refused_is_uncounted m x (once.Again why) tt sound is,
  λ none. no_free_is_of_puts m x sound (subst (λ w. running_turned m x ≡ Done (once.Again w)) none is),
)
