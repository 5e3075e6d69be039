use Rattle.std.proofs.Common.{◌≡◌, ◌∷◌, ◌++◌, [], cond, refl, ap, ◌∙◌}
use Rattle.cat_script.proofs.RoundLemmas.{one_going}
use Rattle.cat_script.specs.declared.line.Line.TheVariants.{Call}
use Rattle.cat_script.proofs.grouping.Grouping.call.Goals as goal

pub returns : goal.returns
returns c = λ said is.
    let old = c.args.self.now.ops.items in
    let items : c.push.new.self.items ≡ old ++ record { caller = c.args.caller; op = c.args.op } ∷ [] =
    c.push.ensures.items ∙ ap (λ t. cond t (old ++ record { caller = c.args.caller; op = c.args.op } ∷ []) old) c.if-is_err.ensures.negation in
    one_going said (Call c.args.caller c.args.op) c.args.self.now _ tt refl items refl is
