use Rattle.std.proofs.Common.{sym, subst, ap, ◌∙◌}
use Rattle.call_stages.specs.Kinds.{Told}
use Rattle.pm_words.specs.declared.machine.Turn.TheVariants.{Done}
use Rattle.node_ops.specs.declared.call.Call.{Call}
use Rattle.node_ops.specs.declared.lookup.Looked.{Looked}
use Rattle.node_ops.specs.declared.put.Put.TheVariants.{Single}
use Rattle.node_ops.specs.declared.single_put.SinglePut.{SinglePut}
use Rattle.node_ops.specs.LookupSteps.{IsFoundBy}
use Rattle.node_ops.specs.PutSteps.{IsPut, put_call, put_asks}
use Rattle.node_ops.proofs.LookupSound.{found_by, found_sound}
use Rattle.node_ops.proofs.single_put.SinglePut.looked.Goals as goal

pub found-requires-clause-found : goal.found-requires-clause-found
found-requires-clause-found c =
    let sound = subst (λ (s : SinglePut). IsPut (Single s)) c.in-Looking.is c.requires.0 in
    let looked = c.in_ok-answer.ensures in
    subst (λ (call : Call). IsFoundBy call.view.layout.slots c.in-Found.found) (sym looked.call)
    (found_by c.in-Looking.lookup.call.limit c.in-Looking.lookup.call.view.layout.slots c.in-Found.found sound.2 (found_sound c.in-Looking.lookup c.args.got c.in-Found.found sound.0
    (subst (λ (s : SinglePut). Told (put_call (Single s)).view.layout (put_call (Single s)).view.generation (put_asks (Single s)) c.args.got) c.in-Looking.is c.requires.1)
    (ap (λ (f : Looked). Done f) (sym c.in-Found.is) ∙ sym looked.turned)))
