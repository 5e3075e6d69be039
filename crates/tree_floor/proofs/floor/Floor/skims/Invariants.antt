use Rattle.std.proofs.Common.{ℕ, ◌-◌}
use Rattle.tree_row.specs.tree_law.specs.Words.{kind_of}
use Rattle.tree_floor.specs.declared.floor.FloorAt.TheVariants as at
use Rattle.tree_floor.specs.declared.scan.Scan.TheVariants as scan
use Rattle.tree_floor.specs.Scans.{entry_count}
use Rattle.tree_floor.specs.FloorRuns.{MayFloor, Skims}
use Rattle.tree_floor.proofs.floor.Floor.skims.Given as goal

abbrev pub invariant-entries : goal.invariant-entries
invariant-entries g l =
    (depth : ℕ) → MayFloor l.fn.memory l.fn.self (at.Scanning l.fn.cell depth l.fn.byte l.fn.scan)
    → Skims l.fn.memory l.memory l.fn.self l.fn.cell depth l.fn.byte l.fn.scan (scan.Entry l.entry l.child l.below)
    l.fn.steps l.steps

abbrev pub decreases-entries : goal.decreases-entries
decreases-entries g l = entry_count (kind_of l.fn.cell) - l.entry
