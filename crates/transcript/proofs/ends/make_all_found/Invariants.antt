use Rattle.std.proofs.Common.{◌≡◌, take}
use Rattle.std.specs.FinMap.{entries}
use Rattle.cat_history.specs.CrashEnds.{after_changes}
use Rattle.cat_history.specs.Maps.{Map}
use Rattle.transcript.specs.Ends.{changes_found}
use Rattle.transcript.proofs.ends.make_all_found.Given as goal

-- the changes that were found so far are made
abbrev pub invariant-loop-record : goal.invariant-loop-record
invariant-loop-record l =
    (m : Map) → l.fn.names.entries ≡ entries m → l.names.entries ≡ entries (after_changes m (changes_found (take l.record-index l.told)))
