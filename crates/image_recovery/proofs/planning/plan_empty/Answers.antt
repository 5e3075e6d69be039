use Rattle.std.proofs.Common.{◌≡◌, ◌+◌, [], ◌∷◌, ◌++◌, sym, subst}
use Rattle.image_recovery_law.specs.Stages.{Empties}
use Rattle.image_recovery.specs.declared.moves.Move.TheVariants.{Empty}
use Rattle.image_recovery.specs.Plans.{columns, PlansTo}
use Rattle.image_recovery.proofs.PlanLemmas.{ok_then, used_if, empty_if, no_empty, empty}
use Rattle.image_recovery.proofs.planning.plan_empty.Goals as goal

pub returns-then-not-is_used : goal.returns-then-not-is_used
returns-then-not-is_used c = no_empty c.args.image.now c.args.line c.args.moves.now.items c.requires.planned (empty_if c.is_used.result ((columns c.args.image.now).line c.args.line 0) c.is_used.ensures c.if-not-is_used.true)

pub returns : goal.returns
returns c = ok_then c.add.result (c.add.new.moves.items ≡ c.args.moves.now.items ++ (Empty c.args.line) ∷ []) (PlansTo c.args.image.now (Empties (c.args.line + 1)) c.add.new.moves.items) c.add.ensures
    (λ is. subst (PlansTo c.args.image.now (Empties (c.args.line + 1))) (sym is) (empty c.args.image.now c.args.line c.args.moves.now.items c.requires.planned (used_if c.is_used.result ((columns c.args.image.now).line c.args.line 0) c.is_used.ensures c.if-not-is_used.false)))
