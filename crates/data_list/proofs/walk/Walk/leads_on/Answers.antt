use Rattle.data_list.specs.declared.walk.WalkAt.TheVariants as at
use Rattle.data_list.proofs.Arriving.{walk_is, low_within, low_bursts, anchor_above, anchor_here, goes_on, goes_may}
use Rattle.data_list.proofs.Arriving.{leads_so}
use Rattle.data_list.proofs.walk.Walk.leads_on.Goals as goal

pub loads_anchor-low-requires-clause-layout : goal.loads_anchor-low-requires-clause-layout
loads_anchor-low-requires-clause-layout g c =
    (walk_is c.args.memory.now c.args.self.now (at.First c.requires.0) c.requires.1).layout

pub loads_anchor-low-requires-clause-node : goal.loads_anchor-low-requires-clause-node
loads_anchor-low-requires-clause-node g c =
    (walk_is c.args.memory.now c.args.self.now (at.First c.requires.0) c.requires.1).node

pub loads_anchor-low-requires-clause-within : goal.loads_anchor-low-requires-clause-within
loads_anchor-low-requires-clause-within g c = low_within c.args.self.now c.requires.0 c.requires.1

pub leads_back-requires : goal.leads_back-requires
leads_back-requires g c =
    goes_may c.args.self.now (at.First c.requires.0) at.Prev c.requires.1
    (low_bursts c.args.self.now c.requires.0 c.requires.1 c.loads_anchor-low.ensures.row
    c.loads_anchor-low.ensures.anchor c.loads_anchor-low.ensures.steps)
    (anchor_above c.args.self.now c.requires.0 c.loads_anchor-low.result c.is_below.result c.is_below.ensures
    c.if-is_below.true)

pub returns-then-is_below : goal.returns-then-is_below
returns-then-is_below g c version may =
    goes_on c.args.self.now (at.First version) at.Prev
    (low_bursts c.args.self.now version may c.loads_anchor-low.ensures.row c.loads_anchor-low.ensures.anchor
    c.loads_anchor-low.ensures.steps)
    (anchor_above c.args.self.now version c.loads_anchor-low.result c.is_below.result c.is_below.ensures
    c.if-is_below.true)
    c.leads_back.ensures

pub leads_next-requires : goal.leads_next-requires
leads_next-requires g c = (
  c.requires.0,
  c.loads_anchor-low.result,
  goes_may c.args.self.now (at.First c.requires.0) (at.Next c.requires.0 c.loads_anchor-low.result) c.requires.1
      (low_bursts c.args.self.now c.requires.0 c.requires.1 c.loads_anchor-low.ensures.row
      c.loads_anchor-low.ensures.anchor c.loads_anchor-low.ensures.steps)
      (anchor_here c.args.self.now c.requires.0 c.loads_anchor-low.result c.is_below.result c.is_below.ensures
      c.if-is_below.false),
)

pub returns : goal.returns
returns g c version may =
    let loads =
    low_bursts c.args.self.now version may c.loads_anchor-low.ensures.row c.loads_anchor-low.ensures.anchor
    c.loads_anchor-low.ensures.steps in
    let on =
    anchor_here c.args.self.now version c.loads_anchor-low.result c.is_below.result c.is_below.ensures
    c.if-is_below.false in
    leads_so c.leads_next.new.memory c.args.self.now (at.First version) (at.Next version c.loads_anchor-low.result)
    version c.leads_next.result c.leads_next.new.steps loads on
    (c.leads_next.ensures version c.loads_anchor-low.result
    (goes_may c.args.self.now (at.First version) (at.Next version c.loads_anchor-low.result) may loads on))
