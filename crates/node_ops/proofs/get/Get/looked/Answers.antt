use Rattle.std.proofs.Common.{◌+◌, ◌<◌, sym, subst, ap, ◌∙◌, arith}
use Rattle.call_stages.specs.declared.once.Once.{Once}
use Rattle.call_stages.specs.declared.once.Placed.{Placed}
use Rattle.pm_words.specs.Turns.{GoesBelow}
use Rattle.pm_words.specs.declared.machine.Turn.{Turn}
use Rattle.pm_words.specs.declared.machine.Turn.TheVariants.{Done}
use Rattle.node_ops.specs.declared.get.Get.{Get}
use Rattle.node_ops.specs.declared.lookup.Lookup.{Lookup}
use Rattle.node_ops.specs.declared.lookup.Looked.{Looked}
use Rattle.node_ops.specs.LookupSteps.{lookup_left}
use Rattle.node_ops.specs.GetSteps.{IsGet, get_left, get_looked, get_turned}
use Rattle.node_ops.proofs.Measures.{lookup_left_some}
use Rattle.node_ops.proofs.get.Get.looked.Goals as goal

pub returns-in-Found-clause-fewer : goal.returns-in-Found-clause-fewer
returns-in-Found-clause-fewer c other is =
    let lookup = c.in-Looking.lookup in
    let some : 0 < lookup_left lookup = lookup_left_some lookup (subst IsGet c.in-Looking.is c.requires.0).0 in
    subst (λ (get : Get). GoesBelow {A = Once Placed} get_left (get_left c.args.self.now) (get_turned get c.args.got)) is
    (subst (λ (get : Get). GoesBelow {A = Once Placed} get_left (get_left get) (get_turned get c.args.got)) (sym c.in-Looking.is)
    (subst (λ (turn : Turn Lookup Looked). GoesBelow {A = Once Placed} get_left (lookup_left lookup + 1) (get_looked lookup.call turn))
    (ap (λ (f : Looked). Done f) (sym c.in-Found.is) ∙ sym c.in_ok-answer.ensures.turned) (omega arith)))
