use Rattle.std.proofs.Common.{ap, arith, sym}
use Rattle.pm_words.specs.declared.action.Action.TheVariants.{Load}
use Rattle.pm_words.specs.declared.machine.Turn.TheVariants.{Go}
use Rattle.machine_runs.proofs.Running.{run_begins, turn_fewer}
use Rattle.updater.specs.declared.work.WorkAt.TheVariants as at
use Rattle.updater.specs.Works.{work_left}
use Rattle.updater.proofs.Fewer.{here_at, count_fewer}
use Rattle.updater.proofs.Passing.{can_on, fits_on, goes_on, takes_on, turned_on}
use Rattle.updater.proofs.work.Work.passes_count.Goals as goal

pub nodes-init : goal.nodes-init
nodes-init g c = run_begins c.args.memory.now c.args.self.now c.args.steps.now

pub node_volatile-address-requires-clause-layout : goal.node_volatile-address-requires-clause-layout
node_volatile-address-requires-clause-layout g c = (fits_on c.requires c.nodes.invariant).terms.layout

pub node_volatile-address-requires-clause-range : goal.node_volatile-address-requires-clause-range
node_volatile-address-requires-clause-range g c =
    let here = here_at c.nodes.self (at.Counting c.in-Counting.node c.in-Counting.none_free) (fits_on c.requires c.nodes.invariant) c.in-Counting.is in
    (here.0, omega arith)

pub act-status-requires : goal.act-status-requires
act-status-requires g c =
    can_on c.requires c.nodes.invariant c.in-Counting.is (ap Load c.node_volatile-address.ensures.address)

pub told_count-requires : goal.told_count-requires
told_count-requires g c =
    takes_on c.requires c.nodes.invariant c.in-Counting.is (ap Load c.node_volatile-address.ensures.address) c.act-status.ensures.got

pub nodes-smaller : goal.nodes-smaller
nodes-smaller g c =
    turn_fewer work_left _ (count_fewer c.nodes.self c.in-Counting.node c.act-status.result c.in-Counting.none_free (fits_on c.requires c.nodes.invariant) c.in-Counting.is)
    (turned_on c.requires c.nodes.invariant c.in-Counting.is (ap Load c.node_volatile-address.ensures.address) _
    (ap Go (sym (c.told_count.ensures c.in-Counting.node c.in-Counting.none_free c.in-Counting.is))))

pub nodes-preserved : goal.nodes-preserved
nodes-preserved g c =
    goes_on c.requires c.nodes.invariant c.in-Counting.is (ap Load c.node_volatile-address.ensures.address)
    c.act-status.ensures.row c.act-status.ensures.got c.act-status.ensures.tick
    (count_fewer c.nodes.self c.in-Counting.node c.act-status.result c.in-Counting.none_free (fits_on c.requires c.nodes.invariant) c.in-Counting.is)
    (ap Go (sym (c.told_count.ensures c.in-Counting.node c.in-Counting.none_free c.in-Counting.is)))
