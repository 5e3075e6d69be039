use Rattle.std.proofs.Common.{ℕ, ap, refl, arith}
use Rattle.pm_words.specs.declared.action.Action.TheVariants.{Load}
use Rattle.machine_runs.proofs.Inside.{same_bursts}
use Rattle.data_list.specs.declared.walk.WalkAt.TheVariants as at
use Rattle.data_list.proofs.Arriving.{walk_is, walk_can, load_bursts, goes_on, goes_may, leads_so}
use Rattle.data_list.proofs.Arriving.{status_live, status_gone, status_other}
use Rattle.data_list.proofs.walk.Walk.leads.Goals as goal

pub node_volatile-requires-clause-layout : goal.node_volatile-requires-clause-layout
node_volatile-requires-clause-layout g c =
    (walk_is c.args.memory.now c.args.self.now (at.Status c.requires.0) c.requires.1).layout

pub node_volatile-requires-clause-range : goal.node_volatile-requires-clause-range
node_volatile-requires-clause-range g c =
    ((walk_is c.args.memory.now c.args.self.now (at.Status c.requires.0) c.requires.1).node, omega arith)

pub act-status-requires : goal.act-status-requires
act-status-requires g c =
    walk_can c.args.memory.now c.args.self.now (at.Status c.requires.0) c.requires.1
    (ap (λ (a : ℕ). Load a) c.node_volatile.ensures.address)

pub leads_back-requires : goal.leads_back-requires
leads_back-requires g c =
    goes_may c.args.self.now (at.Status c.requires.0) at.Prev c.requires.1
    (load_bursts c.args.self.now (at.Status c.requires.0) c.requires.1
    (ap (λ (a : ℕ). Load a) c.node_volatile.ensures.address) c.act-status.ensures.row c.act-status.ensures.got
    c.act-status.ensures.tick)
    (status_gone c.args.self.now c.requires.0 c.act-status.result c.if-status-eq-GONE.true)

pub returns-then-status-eq-GONE : goal.returns-then-status-eq-GONE
returns-then-status-eq-GONE g c version may =
    goes_on c.args.self.now (at.Status version) at.Prev
    (load_bursts c.args.self.now (at.Status version) may (ap (λ (a : ℕ). Load a) c.node_volatile.ensures.address)
    c.act-status.ensures.row c.act-status.ensures.got c.act-status.ensures.tick)
    (status_gone c.args.self.now version c.act-status.result c.if-status-eq-GONE.true) c.leads_back.ensures

pub returns-then-status-ne-LIVE : goal.returns-then-status-ne-LIVE
returns-then-status-ne-LIVE g c version may =
    same_bursts refl
    (load_bursts c.args.self.now (at.Status version) may (ap (λ (a : ℕ). Load a) c.node_volatile.ensures.address)
    c.act-status.ensures.row c.act-status.ensures.got c.act-status.ensures.tick)
    (status_other c.args.self.now version c.act-status.result c.if-status-ne-LIVE.true c.if-status-eq-GONE.false)

pub leads_on-requires : goal.leads_on-requires
leads_on-requires g c = (
  c.requires.0,
  goes_may c.args.self.now (at.Status c.requires.0) (at.First c.requires.0) c.requires.1
      (load_bursts c.args.self.now (at.Status c.requires.0) c.requires.1
      (ap (λ (a : ℕ). Load a) c.node_volatile.ensures.address) c.act-status.ensures.row c.act-status.ensures.got
      c.act-status.ensures.tick)
      (status_live c.args.self.now c.requires.0 c.act-status.result c.if-status-ne-LIVE.false),
)

pub returns : goal.returns
returns g c version may =
    let loads =
    load_bursts c.args.self.now (at.Status version) may (ap (λ (a : ℕ). Load a) c.node_volatile.ensures.address)
    c.act-status.ensures.row c.act-status.ensures.got c.act-status.ensures.tick in
    let on = status_live c.args.self.now version c.act-status.result c.if-status-ne-LIVE.false in
    leads_so c.leads_on.new.memory c.args.self.now (at.Status version) (at.First version) version c.leads_on.result
    c.leads_on.new.steps loads on
    (c.leads_on.ensures version
    (goes_may c.args.self.now (at.Status version) (at.First version) may loads on))
