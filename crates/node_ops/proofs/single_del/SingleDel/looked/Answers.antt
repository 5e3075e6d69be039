use Rattle.std.proofs.Common.{◌+◌, sym, subst, ap, ◌∙◌}
use Rattle.call_stages.specs.Kinds.{Told}
use Rattle.call_stages.specs.declared.once.Once.{Once}
use Rattle.call_stages.specs.declared.once.Placed.{Placed}
use Rattle.pm_words.specs.Turns.{GoesBelow}
use Rattle.pm_words.specs.declared.machine.Turn.{Turn}
use Rattle.pm_words.specs.declared.machine.Turn.TheVariants.{Done}
use Rattle.node_ops.specs.declared.call.Call.{Call}
use Rattle.node_ops.specs.declared.lookup.Lookup.{Lookup}
use Rattle.node_ops.specs.declared.lookup.Looked.{Looked}
use Rattle.node_ops.specs.declared.del.Del.TheVariants.{Single}
use Rattle.node_ops.specs.declared.single_del.SingleDel.{SingleDel}
use Rattle.node_ops.specs.LookupSteps.{IsFoundBy, lookup_left}
use Rattle.node_ops.specs.DelSteps.{IsDel, del_call, del_asks, del_turned, del_looked, del_left}
use Rattle.node_ops.proofs.LookupSound.{found_by, found_sound}
use Rattle.node_ops.proofs.Measures.{found_fewer}
use Rattle.node_ops.proofs.single_del.SingleDel.looked.Goals as goal

pub found-requires-clause-found : goal.found-requires-clause-found
found-requires-clause-found c =
    let looked = c.in_ok-answer.ensures in
    let sound = subst (λ (s : SingleDel). IsDel (Single s)) c.in-Looking.is c.requires.0 in
    subst (λ (call : Call). IsFoundBy call.view.layout.slots c.in-Found.found) (sym looked.call)
    (found_by c.in-Looking.lookup.call.limit c.in-Looking.lookup.call.view.layout.slots c.in-Found.found sound.1 (found_sound c.in-Looking.lookup c.args.got c.in-Found.found sound.0
    (subst (λ (s : SingleDel). Told (del_call (Single s)).view.layout (del_call (Single s)).view.generation (del_asks (Single s)) c.args.got) c.in-Looking.is c.requires.1)
    (ap (λ (f : Looked). Done f) (sym c.in-Found.is) ∙ sym looked.turned)))

pub returns-in-Found-clause-fewer : goal.returns-in-Found-clause-fewer
returns-in-Found-clause-fewer c other is =
    let lookup = c.in-Looking.lookup in
    subst (λ (s : SingleDel). GoesBelow {A = Once Placed} del_left (del_left (Single c.args.self.now)) (del_turned (Single s) c.args.got)) is
    (subst (λ (s : SingleDel). GoesBelow {A = Once Placed} del_left (del_left (Single s)) (del_turned (Single s) c.args.got)) (sym c.in-Looking.is)
    (subst (λ (turn : Turn Lookup Looked). GoesBelow {A = Once Placed} del_left (lookup_left lookup + 30052) (del_looked lookup.call turn))
    (ap (λ (f : Looked). Done f) (sym c.in-Found.is) ∙ sym c.in_ok-answer.ensures.turned)
    (found_fewer lookup.call c.in-Found.found (lookup_left lookup))))
