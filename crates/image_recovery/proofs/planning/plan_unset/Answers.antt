use Rattle.std.proofs.Common.{◌≡◌, ◌+◌, [], ◌∷◌, ◌++◌, inl, inr, sym, subst}
use Rattle.image_recovery_law.specs.Stages.{Unsets}
use Rattle.image_recovery.specs.declared.moves.Move.TheVariants.{Unset}
use Rattle.image_recovery.specs.Plans.{columns, PlansTo}
use Rattle.image_recovery.proofs.PlanLemmas.{ok_then, used_if, empty_if, no_unset, unset}
use Rattle.image_recovery.proofs.planning.plan_unset.Goals as goal

pub returns-then-not-is_used : goal.returns-then-not-is_used
returns-then-not-is_used c = no_unset c.args.image.now c.args.line c.args.moves.now.items c.requires.planned (inl (empty_if c.is_used.result ((columns c.args.image.now).line c.args.line 0) c.is_used.ensures c.if-not-is_used.true))

pub returns-in-None : goal.returns-in-None
returns-in-None c = ok_then c.add.result (c.add.new.moves.items ≡ c.args.moves.now.items ++ (Unset c.args.line) ∷ []) (PlansTo c.args.image.now (Unsets (c.args.line + 1)) c.add.new.moves.items) c.add.ensures
    (λ is. subst (PlansTo c.args.image.now (Unsets (c.args.line + 1))) (sym is) (unset c.args.image.now c.args.line c.args.moves.now.items c.requires.planned (used_if c.is_used.result ((columns c.args.image.now).line c.args.line 0) c.is_used.ensures c.if-not-is_used.false) c.in-None.ensures))

pub returns-in-Some : goal.returns-in-Some
returns-in-Some c = no_unset c.args.image.now c.args.line c.args.moves.now.items c.requires.planned (inr (c.in-Some.field-0, c.in-Some.ensures.listed, c.in-Some.ensures.same))
