use Rattle.std.proofs.Common.{subst}
use Rattle.std.specs.Prelude.{◌+◌, ◌-◌, vec_len, vec_capacity}
use Rattle.index_core.specs.PartyStates.{owed}
use Rattle.index_core.specs.Indexes.{IsIndex}
use Rattle.index_core.proofs.Stepping.{respare}
use Rattle.index_core.proofs.index.Core.parts.Goals as goal

pub returns-clause-index : goal.returns-clause-index
returns-clause-index c =
    let m = c.self.inside in
    subst IsIndex c.self.view_is (respare (record { layout = m.memory.layout; generation = m.generation; words = m.memory.words; states = m.states.items; base = m.base; history = m.history.items; spare = 0 })
    (vec_capacity m.history - (vec_len m.history + owed m.states.items)) c.self.invariant.0)
