use Rattle.std.proofs.Common.{true, false}
use Rattle.std.proofs.lemmas.Bool.{le-leb, lt-leb}
use Rattle.machine_runs.specs.Runs.{begins}
use Rattle.node_ops.proofs.Locking.{clock_leads, lock_can, lock_from, looks_back, missed_looks}
use Rattle.node_ops.proofs.Locking.{spent_can, spent_locked, spent_looks}
use Rattle.node_ops.proofs.lookup.Lookup.locks.Goals as goal

pub address-address-requires-clause-sound : goal.address-address-requires-clause-sound
address-address-requires-clause-sound g c = (c.requires.may.2 _ _ _ begins).1.0.call

pub act-found-requires : goal.act-found-requires
act-found-requires g c =
    lock_can c.args.self.now.call (record c.requires.may.0 { version = c.args.version }) c.args.locked
    (lock_from c.args.self.now.call c.args.locked c.requires.may.0 c.requires.may.1 c.requires.may.2)
    c.address-address.ensures

pub returns-then-found-version : goal.returns-then-found-version
returns-then-found-version g c seen is may =
    looks_back c.args.self.now.call c.args.locked seen is
    (missed_looks c.args.self.now.call (record seen { version = c.args.version }) c.args.locked
    (lock_from c.args.self.now.call c.args.locked seen is may)
    c.address-address.ensures c.act-found.ensures.row c.act-found.ensures.got c.act-found.ensures.tick
    c.if-found-version.true)

pub freed_of-requires : goal.freed_of-requires
freed_of-requires g c =
    let spent =
    spent_locked c.args.self.now.call (record { locked = c.args.locked; clock = c.act-clock.result })
    (clock_leads c.args.self.now.call (record c.requires.may.0 { version = c.args.version }) c.args.locked
    (lock_from c.args.self.now.call c.args.locked c.requires.may.0 c.requires.may.1 c.requires.may.2)
    c.address-address.ensures c.act-found.ensures.row c.act-found.ensures.got c.act-found.ensures.tick
    c.if-found-version.false c.requires.limit true (le-leb _ _ c.if-clock-limit.true) c.act-clock.ensures.row
    c.act-clock.ensures.got c.act-clock.ensures.tick) in
    record { locked = spent.locked; unworn = spent.unworn }

pub act-requires : goal.act-requires
act-requires g c =
    spent_can c.args.self.now.call (record { locked = c.args.locked; clock = c.act-clock.result })
    (clock_leads c.args.self.now.call (record c.requires.may.0 { version = c.args.version }) c.args.locked
    (lock_from c.args.self.now.call c.args.locked c.requires.may.0 c.requires.may.1 c.requires.may.2)
    c.address-address.ensures c.act-found.ensures.row c.act-found.ensures.got c.act-found.ensures.tick
    c.if-found-version.false c.requires.limit true (le-leb _ _ c.if-clock-limit.true) c.act-clock.ensures.row
    c.act-clock.ensures.got c.act-clock.ensures.tick)
    c.address-address.ensures c.freed_of.ensures.next

pub returns-then-clock-limit : goal.returns-then-clock-limit
returns-then-clock-limit g c seen is may =
    looks_back c.args.self.now.call c.args.locked seen is
    (spent_looks c.args.self.now.call (record { locked = c.args.locked; clock = c.act-clock.result })
    (clock_leads c.args.self.now.call (record seen { version = c.args.version }) c.args.locked
    (lock_from c.args.self.now.call c.args.locked seen is may)
    c.address-address.ensures c.act-found.ensures.row c.act-found.ensures.got c.act-found.ensures.tick
    c.if-found-version.false c.requires.limit true (le-leb _ _ c.if-clock-limit.true) c.act-clock.ensures.row
    c.act-clock.ensures.got c.act-clock.ensures.tick)
    c.address-address.ensures c.freed_of.ensures.next c.act.ensures.row c.act.ensures.got c.act.ensures.tick)

pub finds-requires : goal.finds-requires
finds-requires g c =
    (clock_leads c.args.self.now.call (record c.requires.may.0 { version = c.args.version }) c.args.locked
    (lock_from c.args.self.now.call c.args.locked c.requires.may.0 c.requires.may.1 c.requires.may.2)
    c.address-address.ensures c.act-found.ensures.row c.act-found.ensures.got c.act-found.ensures.tick
    c.if-found-version.false c.requires.limit false (lt-leb _ _ c.if-clock-limit.false) c.act-clock.ensures.row
    c.act-clock.ensures.got c.act-clock.ensures.tick).may

pub returns : goal.returns
returns g c seen is may =
    looks_back c.args.self.now.call c.args.locked seen is
    ((clock_leads c.args.self.now.call (record seen { version = c.args.version }) c.args.locked
    (lock_from c.args.self.now.call c.args.locked seen is may)
    c.address-address.ensures c.act-found.ensures.row c.act-found.ensures.got c.act-found.ensures.tick
    c.if-found-version.false c.requires.limit false (lt-leb _ _ c.if-clock-limit.false) c.act-clock.ensures.row
    c.act-clock.ensures.got c.act-clock.ensures.tick).looks
    _ _ _ _ c.finds.ensures)
