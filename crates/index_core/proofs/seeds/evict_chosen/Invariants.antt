use Rattle.std.proofs.Common.{◌≡◌}
use Rattle.index_core.specs.CrashLaws.{evicted_by}
use Rattle.index_core.proofs.seeds.evict_chosen.Given as goal

-- those of the words so far are durable
abbrev pub invariant-loop-word : goal.invariant-loop-word
invariant-loop-word l = l.memory ≡ record l.fn.memory { words = evicted_by l.fn.memory.layout l.seed l.word l.fn.memory.words }
