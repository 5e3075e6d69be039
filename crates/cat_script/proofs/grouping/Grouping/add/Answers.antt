use Rattle.std.proofs.Common.{[], ◌∷◌, ◌++◌, refl, sym, subst}
use Rattle.std.proofs.lemmas.List.{append-nil}
use Rattle.cat_script.specs.Grouping.{IsGrouping}
use Rattle.cat_script.specs.declared.line.Line.{Line}
use Rattle.cat_script.specs.declared.line.Line.TheVariants.{Blank, Updater, Limit}
use Rattle.cat_script.proofs.RoundLemmas.{one_going}
use Rattle.cat_script.proofs.grouping.Grouping.add.Goals as goal

pub returns-in-Blank : goal.returns-in-Blank
returns-in-Blank c = λ said is.
    subst (λ (line : Line). IsGrouping (said ++ line ∷ []) c.args.self.now) (sym c.in-Blank.is)
    (one_going said Blank c.args.self.now c.args.self.now tt refl (sym (append-nil c.args.self.now.ops.items)) refl is)

pub returns-in-Updater : goal.returns-in-Updater
returns-in-Updater c = λ said is.
    subst (λ (line : Line). IsGrouping (said ++ line ∷ []) (record c.args.self.now { updater = c.in-Updater.turns })) (sym c.in-Updater.is)
    (one_going said (Updater c.in-Updater.turns) c.args.self.now (record c.args.self.now { updater = c.in-Updater.turns }) tt refl (sym (append-nil c.args.self.now.ops.items)) refl is)

pub returns-in-Limit : goal.returns-in-Limit
returns-in-Limit c = λ said is.
    subst (λ (line : Line). IsGrouping (said ++ line ∷ []) (record c.args.self.now { limit = c.in-Limit.limit })) (sym c.in-Limit.is)
    (one_going said (Limit c.in-Limit.limit) c.args.self.now (record c.args.self.now { limit = c.in-Limit.limit }) tt refl (sym (append-nil c.args.self.now.ops.items)) refl is)
