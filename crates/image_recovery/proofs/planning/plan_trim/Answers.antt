use Rattle.std.proofs.Common.{◌≡◌, [], ◌∷◌, ◌++◌, sym, subst, ◌∙◌}
use Rattle.image_recovery.specs.declared.moves.Move.TheVariants.{Trim}
use Rattle.image_recovery.specs.Plans.{TrimsOne}
use Rattle.image_recovery.proofs.PlanLemmas.{ok_then, trim, no_trim}
use Rattle.image_recovery.proofs.planning.plan_trim.Goals as goal

pub returns-then-bitmap-bitmap_of : goal.returns-then-bitmap-bitmap_of
returns-then-bitmap-bitmap_of c =
    no_trim c.args.image.now c.args.node c.requires.listed c.args.moves.now.items c.trimmed-bitmap.result c.trimmed-bitmap.ensures (c.if-bitmap-bitmap_of.true ∙ c.bitmap_of.ensures.bitmap)

pub returns : goal.returns
returns c =
    ok_then c.add.result (c.add.new.moves.items ≡ c.args.moves.now.items ++ Trim c.args.node c.trimmed-bitmap.result ∷ []) (TrimsOne c.args.image.now c.args.node c.args.moves.now.items c.add.new.moves.items) c.add.ensures
    (λ is. subst (TrimsOne c.args.image.now c.args.node c.args.moves.now.items) (sym is) (trim c.args.image.now c.args.node c.requires.listed c.args.moves.now.items c.trimmed-bitmap.result c.trimmed-bitmap.ensures))
