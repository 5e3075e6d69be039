use Rattle.std.proofs.Common.{◌≤◌, arith}
use Rattle.machine_runs.specs.Runs.{begins}
use Rattle.node_ops.proofs.Comparisons.{bitmap_can, bitmap_leads, directory_leads}
use Rattle.node_ops.proofs.lookup.Lookup.finds.Goals as goal

pub address-requires-clause-sound : goal.address-requires-clause-sound
address-requires-clause-sound g c = (c.requires _ _ _ begins).1.0.call

pub act-bitmap-requires : goal.act-bitmap-requires
act-bitmap-requires g c = bitmap_can c.args.self.now.call c.args.hold c.requires c.address.ensures

pub loads_prints-prints-requires : goal.loads_prints-prints-requires
loads_prints-prints-requires g c = (
  c.args.hold,
  c.act-bitmap.result,
  (bitmap_leads c.args.self.now.call c.args.hold c.requires c.address.ensures c.act-bitmap.ensures.row
      c.act-bitmap.ensures.got c.act-bitmap.ensures.tick).may,
)

pub candidates-left-requires : goal.candidates-left-requires
candidates-left-requires g c =
    let limit : c.args.self.now.call.view.layout.slots ≤ 64 = (c.requires _ _ _ begins).1.0.call.view.layout.slots.1 in
    omega (arith, limit, c.slots-slots.ensures)

pub compares-hit-requires : goal.compares-hit-requires
compares-hit-requires g c = (
  c.args.hold,
  record { bitmap = c.act-bitmap.result; prints = c.loads_prints-prints.result },
  (directory_leads c.args.self.now.call c.args.hold c.act-bitmap.result c.loads_prints-prints.result
      (bitmap_leads c.args.self.now.call c.args.hold c.requires c.address.ensures c.act-bitmap.ensures.row
      c.act-bitmap.ensures.got c.act-bitmap.ensures.tick)
      c.loads_prints-prints.ensures c.candidates-left.ensures.value c.slots-slots.ensures).may,
)

pub returns : goal.returns
returns g c =
    let on =
    directory_leads c.args.self.now.call c.args.hold c.act-bitmap.result c.loads_prints-prints.result
    (bitmap_leads c.args.self.now.call c.args.hold c.requires c.address.ensures c.act-bitmap.ensures.row
    c.act-bitmap.ensures.got c.act-bitmap.ensures.tick)
    c.loads_prints-prints.ensures c.candidates-left.ensures.value c.slots-slots.ensures in
    on.looks _ _ _ _
    (c.compares-hit.ensures c.args.hold
    (record { bitmap = c.act-bitmap.result; prints = c.loads_prints-prints.result }) on.may)
