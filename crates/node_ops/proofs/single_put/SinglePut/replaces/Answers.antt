use Rattle.std.proofs.Common.{ℕ, ◌<◌, ◌≤◌, refl, sym, ap, ◌∙◌, arith}
use Rattle.pm_words.specs.declared.action.Action.TheVariants.{Store}
use Rattle.machine_runs.proofs.Inside.{same_bursts, same_may}
use Rattle.node_ops.specs.Calls.{call_address}
use Rattle.node_ops.specs.FinishSteps.{finish_takes}
use Rattle.node_ops.proofs.PutBursts.{replaced_bursts, replaced_may, replacing_can, replacing_slot, replacing_sound}
use Rattle.node_ops.proofs.single_put.SinglePut.replaces.Goals as goal

pub slot_word-offset-requires-clause-slot : goal.slot_word-offset-requires-clause-slot
slot_word-offset-requires-clause-slot g c =
    replacing_slot c.args.call c.args.found.now.hold c.args.found.now.directory.bitmap c.args.hit c.args.value
    {old = c.args.memory.now} c.requires

pub address-requires-clause-sound : goal.address-requires-clause-sound
address-requires-clause-sound g c =
    (replacing_sound c.args.call c.args.found.now.hold c.args.found.now.directory.bitmap c.args.hit c.args.value
    {old = c.args.memory.now} c.requires).call

pub address-requires-clause-within : goal.address-requires-clause-within
address-requires-clause-within g c =
    let sound =
    replacing_sound c.args.call c.args.found.now.hold c.args.found.now.directory.bitmap c.args.hit c.args.value
    {old = c.args.memory.now} c.requires in
    let within : c.args.hit.slot < c.args.call.view.layout.slots = sound.hit.within in
    let limit : c.args.call.view.layout.slots ≤ 64 = sound.call.view.layout.slots.1 in
    omega arith

pub act-requires : goal.act-requires
act-requires g c =
    replacing_can c.args.call c.args.found.now.hold c.args.found.now.directory.bitmap c.args.hit c.args.value
    {old = c.args.memory.now} c.requires
    (ap (λ (n : ℕ). Store n c.args.value)
    (c.address.ensures ∙ ap (call_address c.args.call) c.slot_word-offset.ensures))

pub stored-finish-requires : goal.stored-finish-requires
stored-finish-requires g c =
    replacing_slot c.args.call c.args.found.now.hold c.args.found.now.directory.bitmap c.args.hit c.args.value
    {old = c.args.memory.now} c.requires

pub flush-requires-clause-may : goal.flush-requires-clause-may
flush-requires-clause-may g c =
    same_may finish_takes (sym c.stored-finish.ensures) {old = c.act.new.self}
    (replaced_may c.args.call c.args.found.now.hold c.args.found.now.directory.bitmap c.args.hit c.args.value
    {old = c.args.memory.now} c.requires
    (ap (λ (n : ℕ). Store n c.args.value)
    (c.address.ensures ∙ ap (call_address c.args.call) c.slot_word-offset.ensures)) c.act.ensures.row c.act.ensures.got)

pub returns : goal.returns
returns g c =
    replaced_bursts c.args.call c.args.found.now.hold c.args.found.now.directory.bitmap c.args.hit c.args.value
    {old = c.args.memory.now} c.requires
    (ap (λ (n : ℕ). Store n c.args.value)
    (c.address.ensures ∙ ap (call_address c.args.call) c.slot_word-offset.ensures)) c.act.ensures.row c.act.ensures.got
    c.act.ensures.tick (same_bursts (sym c.stored-finish.ensures) c.flush.ensures.bursts refl)
