use Rattle.machine_runs.proofs.Inside.{same_bursts}
use Rattle.std.proofs.Common.{refl, Some}
use Rattle.data_list.specs.declared.walk.WalkAt.TheVariants as at
use Rattle.data_list.proofs.Arriving.{walk_is, high_within, high_bursts, high_above, high_below, arrives}
use Rattle.data_list.proofs.walk.Walk.passes.Goals as goal

pub loads_anchor-high-requires-clause-layout : goal.loads_anchor-high-requires-clause-layout
loads_anchor-high-requires-clause-layout g c =
    (walk_is c.args.memory.now c.args.self.now (at.HighFirst c.requires.0 c.requires.1 c.args.next)
    c.requires.2).layout

pub loads_anchor-high-requires-clause-node : goal.loads_anchor-high-requires-clause-node
loads_anchor-high-requires-clause-node g c =
    ((walk_is c.args.memory.now c.args.self.now (at.HighFirst c.requires.0 c.requires.1 c.args.next)
    c.requires.2).here.2).within

pub loads_anchor-high-requires-clause-within : goal.loads_anchor-high-requires-clause-within
loads_anchor-high-requires-clause-within g c =
    high_within c.args.self.now c.requires.0 c.requires.1 c.args.next c.requires.2

pub returns-then-is_below : goal.returns-then-is_below
returns-then-is_below g c version low may =
    arrives c.args.self.now (at.HighFirst version low c.args.next) version low (Some (record {
      node = c.args.next;
      anchor = c.loads_anchor-high.result;
    }))
    (high_bursts c.args.self.now version low c.args.next may c.loads_anchor-high.ensures.row
    c.loads_anchor-high.ensures.anchor c.loads_anchor-high.ensures.steps)
    (high_above c.args.self.now version low c.args.next c.loads_anchor-high.result c.is_below.result c.is_below.ensures
    c.if-is_below.true)

pub returns : goal.returns
returns g c version low may =
    same_bursts refl
    (high_bursts c.args.self.now version low c.args.next may c.loads_anchor-high.ensures.row
    c.loads_anchor-high.ensures.anchor c.loads_anchor-high.ensures.steps)
    (high_below c.args.self.now version low c.args.next c.loads_anchor-high.result c.is_below.result c.is_below.ensures
    c.if-is_below.false)
