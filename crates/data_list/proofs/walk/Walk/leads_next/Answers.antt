use Rattle.std.proofs.Common.{ℕ, None, ap, refl}
use Rattle.pm_words.specs.declared.action.Action.TheVariants.{Load}
use Rattle.machine_runs.proofs.Inside.{same_bursts}
use Rattle.data_list.specs.declared.walk.WalkAt.TheVariants as at
use Rattle.data_list.proofs.Arriving.{walk_is, walk_can, load_bursts, goes_may, arrives, leads_so}
use Rattle.data_list.proofs.Arriving.{next_none, next_some, next_past}
use Rattle.data_list.proofs.walk.Walk.leads_next.Goals as goal

pub address-requires-clause-layout : goal.address-requires-clause-layout
address-requires-clause-layout g c =
    (walk_is c.args.memory.now c.args.self.now (at.Next c.requires.0 c.requires.1) c.requires.2).layout

pub address-requires-clause-node : goal.address-requires-clause-node
address-requires-clause-node g c =
    (walk_is c.args.memory.now c.args.self.now (at.Next c.requires.0 c.requires.1) c.requires.2).node

pub act-next-requires : goal.act-next-requires
act-next-requires g c =
    walk_can c.args.memory.now c.args.self.now (at.Next c.requires.0 c.requires.1) c.requires.2
    (ap (λ (a : ℕ). Load a) c.address.ensures)

pub passes-requires : goal.passes-requires
passes-requires g c = (
  c.requires.0,
  c.requires.1,
  goes_may c.args.self.now (at.Next c.requires.0 c.requires.1)
      (at.HighFirst c.requires.0 c.requires.1 c.act-next.result) c.requires.2
      (load_bursts c.args.self.now (at.Next c.requires.0 c.requires.1) c.requires.2
      (ap (λ (a : ℕ). Load a) c.address.ensures) c.act-next.ensures.row c.act-next.ensures.got c.act-next.ensures.tick)
      (next_some c.args.self.now c.requires.0 c.requires.1 c.act-next.result c.nodes.result c.if-next-ne0.true c.nodes.ensures
      c.if-next-nodes.false),
)

pub returns-then-next-nodes : goal.returns-then-next-nodes
returns-then-next-nodes g c version low may =
    same_bursts refl
    (load_bursts c.args.self.now (at.Next version low) may (ap (λ (a : ℕ). Load a) c.address.ensures)
    c.act-next.ensures.row c.act-next.ensures.got c.act-next.ensures.tick)
    (next_past c.args.self.now version low c.act-next.result c.nodes.result
    (walk_is c.args.memory.now c.args.self.now (at.Next version low) may).layout.nodes.0 c.nodes.ensures
    c.if-next-nodes.true)

pub returns-then-next-ne0 : goal.returns-then-next-ne0
returns-then-next-ne0 g c version low may =
    let on =
    next_some c.args.self.now version low c.act-next.result c.nodes.result c.if-next-ne0.true c.nodes.ensures
    c.if-next-nodes.false in
    let loads =
    load_bursts c.args.self.now (at.Next version low) may (ap (λ (a : ℕ). Load a) c.address.ensures)
    c.act-next.ensures.row c.act-next.ensures.got c.act-next.ensures.tick in
    leads_so c.passes.new.memory c.args.self.now (at.Next version low) (at.HighFirst version low c.act-next.result)
    version c.passes.result c.passes.new.steps loads on
    (c.passes.ensures version low
    (goes_may c.args.self.now (at.Next version low) (at.HighFirst version low c.act-next.result) may loads on))

pub returns : goal.returns
returns g c version low may =
    arrives c.args.self.now (at.Next version low) version low None
    (load_bursts c.args.self.now (at.Next version low) may (ap (λ (a : ℕ). Load a) c.address.ensures)
    c.act-next.ensures.row c.act-next.ensures.got c.act-next.ensures.tick)
    (next_none c.args.self.now version low c.act-next.result 0 c.if-next-ne0.false)
