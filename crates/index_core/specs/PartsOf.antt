-- The index of which these are the parts.
use Rattle.std.specs.Prelude.{ℕ}
use Rattle.index_core.specs.declared.index.Parts.{Parts}
use Rattle.index_core.specs.Indexes.{Index, index_made}

abbrev pub index_in : Parts → ℕ → Index
index_in p spare = index_made p.memory p.generation p.states.items p.base p.history.items spare
