use Rattle.std.proofs.Common.{◌≡◌, ◌∷◌, ◌++◌, [], cond, refl, ap, ◌∙◌}
use Rattle.cat_history.specs.declared.op.CallerOp.{CallerOp}
use Rattle.cat_history.specs.declared.plan.RoundPlan.{RoundPlan}
use Rattle.std.specs.declared.alloc.Global.{Global}
use Rattle.std.specs.declared.vec.Vec.{Vec}
use Rattle.cat_script.proofs.RoundLemmas.{one_ended}
use Rattle.cat_script.proofs.grouping.Grouping.end.Goals as goal

pub returns : goal.returns
returns c = λ said line ends is.
    let old = c.args.self.now.ended.items in
    let plan : RoundPlan = record {
      ops = c.of.result;
      updater = c.args.self.now.updater;
      limit = c.args.self.now.limit;
      crash = c.args.crash;
    } in
    let items : c.push.new.self.items ≡ old ++ plan ∷ [] = c.push.ensures.items ∙ ap (λ t. cond t (old ++ plan ∷ []) old) c.if-is_err.ensures.negation in
    let ops : c.of.result ≡ c.args.self.now.ops.items = c.of.ensures ∙ ap (λ (v : Vec CallerOp Global). v.items) c.replace-ops.ensures.value in
    let none : c.replace-ops.new.dest.items ≡ [] = ap (λ (v : Vec CallerOp Global). v.items) c.replace-ops.ensures.after ∙ c.new.ensures.items in
    one_ended said line c.args.self.now _ plan ends ops refl refl items none refl refl is
