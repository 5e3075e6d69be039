use Rattle.std.proofs.Common.{List, [], ◌∷◌, ◌++◌, sym, subst, ap, ◌∙◌}
use Rattle.image_recovery.specs.declared.moves.Move.{Move}
use Rattle.image_recovery.specs.declared.moves.Move.TheVariants.{Raise}
use Rattle.image_recovery.specs.Plans.{IsRaised}
use Rattle.image_recovery.proofs.PlanLemmas.{raised}
use Rattle.image_recovery.proofs.planning.plan.Goals as goal

pub plan_trims-requires-clause-raised : goal.plan_trims-requires-clause-raised
plan_trims-requires-clause-raised c =
    subst (IsRaised c.args.image.now) (sym (c.in_ok-add.ensures {u = tt} ∙ ap (λ (moves : List Move). moves ++ Raise ∷ []) c.new-moves.ensures.items)) (raised c.args.image.now)
