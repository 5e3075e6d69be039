use Rattle.std.proofs.Common.{◌≡◌, ◌≤◌, ℕ, List, length, ◌++◌}
use Rattle.std.specs.Io.KnownBytes.{Appends}
use Rattle.cat_text.proofs.outside.sink.write_whole.Given as goal

-- what was written is what stands before the rest
abbrev pub invariant-loop-rest : goal.invariant-loop-rest
invariant-loop-rest g l =
    ((done : List ℕ) × (l.fn.text ≡ done ++ l.rest) × Appends (g.K.Sink.written l.fn.sink) (g.K.Sink.written l.sink) done)
    × (g.K.Sink.faults l.fn.sink ≤ g.K.Sink.faults l.sink)
    × (g.K.Sink.steady l.fn.sink → g.K.Sink.steady l.sink × (g.K.Sink.faults l.sink ≡ g.K.Sink.faults l.fn.sink))

abbrev pub decreases-loop-rest : goal.decreases-loop-rest
decreases-loop-rest g l = length l.rest
