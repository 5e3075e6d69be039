use Rattle.std.proofs.Common.{◌≡◌, take}
use Rattle.std.specs.FinMap.{entries}
use Rattle.cat_history.specs.Maps.{Map}
use Rattle.cat_history.specs.Writes.{after_all}
use Rattle.cat_history.proofs.growing.change_all.Given as goal

-- the writes so far are made
abbrev pub invariant-loop-write : goal.invariant-loop-write
invariant-loop-write l =
    (m : Map) → l.fn.names.entries ≡ entries m → l.names.entries ≡ entries (after_all m (take l.write-index l.writes))
