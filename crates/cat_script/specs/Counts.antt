-- Counts of what lines ask for.
use Rattle.std.specs.Prelude.{◌≡◌, ◌+◌, ◌<◌, ◌≤◌, ◌^◌, List, length, sum_by}
use Rattle.cat_script.specs.Limits.{KeepLimits, end_count, call_count, scan_count}
use Rattle.cat_script.specs.declared.counts.Counts.{Counts}
use Rattle.cat_script.specs.declared.line.Line.{Line}

-- These are the counts of these lines, which keep all limits.
pub record AreCounts (lines : List Line) (counts : Counts) : Type 0 where
  pub all : counts.lines ≡ length lines
  pub ends : counts.ends ≡ sum_by end_count lines
  pub calls : counts.calls ≡ sum_by call_count lines
  pub scans : counts.scans ≡ sum_by scan_count lines
  pub limits : KeepLimits lines

-- There is room for one more line.
pub record HaveRoom (counts : Counts) : Type 0 where
  pub all : counts.lines + 1 < 2 ^ 64
  pub ends : counts.ends ≤ 1000
  pub calls : counts.calls ≤ 100000
  pub scans : counts.scans ≤ 1000000
