use Rattle.std.proofs.Common.{◌≡◌}
use Rattle.core_rounds.specs.index_core.specs.CrashLaws.{evicted_by}
use Rattle.core_rounds.specs.index_core.specs.Indexes.{IsIndex}
use Rattle.core_crashes.proofs.power.evict_by_seed.Given as goal

-- those of the words so far are durable
abbrev pub invariant-loop-word : goal.invariant-loop-word
invariant-loop-word l = (l.core ≡ record l.fn.core { words = evicted_by l.fn.core.layout l.seed l.word l.fn.core.words }) × IsIndex l.core
