use Rattle.std.proofs.Common.{◌≡◌, ◌+◌, ◌-◌, ◌≤◌, vec_len}
use Rattle.std.specs.Io.KnownBytes.{Consumes}
use Rattle.cat_text.proofs.outside.source.read_whole.Given as goal

-- the text is what was taken, and one piece stays as long as it was made
abbrev pub invariant-loop-text : goal.invariant-loop-text
invariant-loop-text g l =
    Consumes (g.S.Source.left l.fn.source) (g.S.Source.left l.source) l.text.items
    × (g.S.Source.faults l.fn.source ≤ g.S.Source.faults l.source)
    × (vec_len l.text ≤ l.most + 1)
    × (vec_len l.piece ≡ 65536)
    × (g.S.Source.steady l.fn.source → g.S.Source.steady l.source × (g.S.Source.faults l.source ≡ g.S.Source.faults l.fn.source))

abbrev pub decreases-loop-text : goal.decreases-loop-text
decreases-loop-text g l = l.most + 1 - vec_len l.text
