use Rattle.std.proofs.Common.{subst, arith}
use Rattle.recovery.specs.index_core.specs.Indexes.{Index}
use Rattle.core_rounds.specs.CoreMaps.{state_of}
use Rattle.core_rounds.specs.Updated.{IsInShape}
use Rattle.core_rounds.proofs.CoreMaps.{core_in_shape}
use Rattle.core_rounds.proofs.core_map.CoreMapUpdatedMap.has_shape.Goals as goal

pub returns-clause-shape : goal.returns-clause-shape
returns-clause-shape g c = subst (λ (s : Index). IsInShape (state_of s)) c.self.view_is (core_in_shape c.self.inside.core c.self.inside.names c.self.invariant.0)

pub returns-clause-fewer : goal.returns-clause-fewer
returns-clause-fewer g c changes writes puts fewer_writes fewer_puts below below_puts waits =
    let nodes = waits.nodes in
    record { ready = waits.ready; lines = λ caller here. (let lines = waits.lines caller here in omega (arith, lines, below)); nodes = omega (arith, nodes, below_puts) }
