use Rattle.image_recovery_law.proofs.RowColumns.{start_has_columns, crash_has_columns}
use Rattle.image_recovery_law.proofs.RowStores.{generation_stores, bits_store, empty_stores, eviction_mixes_columns, drain_evicts, volatile_leaves}
use Rattle.image_recovery_law.proofs.laws.row_law.Goals as goal

pub returns : goal.returns
returns c = record { start = start_has_columns; crash = crash_has_columns; generation = generation_stores; bits = bits_store; empty = empty_stores; evictions = eviction_mixes_columns; drains = drain_evicts; volatile = volatile_leaves }
