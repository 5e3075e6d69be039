-- What a crash may leave, if more was cut off.
use Rattle.std.specs.Prelude.{List, Contains}
use Rattle.cat_history.specs.Maps.{Map}
use Rattle.cat_history.specs.CrashEnds.{IsCrashEnd}
use Rattle.cat_history.specs.declared.op.Change.{Change}

-- Each of the changes is among the others.
abbrev pub AreAmong : List Change → List Change → Type 0
AreAmong cuts more = (c : Change) → Contains cuts c → Contains more c

-- A map that may be left of these changes is one that may be left of those among which they are.
abbrev pub MoreCutsAreCrashEnds : Type 0
MoreCutsAreCrashEnds = (m : Map) (cuts more : List Change) (end : Map) → AreAmong cuts more → IsCrashEnd m cuts end →
    IsCrashEnd m more end
