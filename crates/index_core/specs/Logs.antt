-- How many log lines lone calls leave READY, and when such a call needs no turn of the updater.
use Rattle.std.specs.Prelude.{◌≡◌, ℕ, ◌+◌, ◌<◌, ◌⊎◌}
use Rattle.lone_hops_law.specs.lone_updater_law.specs.CallLogs.{empty_lines, ready_lines}
use Rattle.lone_hops_law.specs.lone_updater_law.specs.LoneTurns.{AreEmptyOrReady}
use Rattle.index_core.specs.declared.party.CoreCall.{CoreCall}
use Rattle.index_core.specs.declared.party.Whole.{Whole}
use Rattle.index_core.specs.Indexes.{Index, IsIndex, world}
use Rattle.index_core.specs.Lone.{HasNoCalls, HasSameList, IsQuiet, MergesFor, NeedsNoTurn, RunsAlone, SplitsFor}
use Rattle.index_core.specs.Lone.{locks_left}
use Rattle.index_core.specs.Lone.{taken_nodes}

-- With nothing in flight no log line is OPEN.
abbrev pub QuietHasNoneOpen : Type 0
QuietHasNoneOpen = (s : Index) → IsIndex s → IsQuiet s → AreEmptyOrReady (world s)

-- A call that needs no turn leaves one line more READY, and one of its caller's fewer EMPTY, where it splits or merges
-- by the shape, and as many as there were where the same nodes are listed.
abbrev pub LogIsCounted : Type 0
LogIsCounted = (s : Index) (caller : ℕ) (c : CoreCall) (new : Index) (result : Whole) →
    RunsAlone s caller c new result → NeedsNoTurn caller c s →
    (HasSameList s new × (ready_lines (world new) ≡ ready_lines (world s)) ×
    (empty_lines caller (world new) ≡ empty_lines caller (world s))) ⊎
    ((SplitsFor c s new ⊎ MergesFor c s new) × (ready_lines (world new) ≡ ready_lines (world s) + 1) ×
    (empty_lines caller (world new) + 1 ≡ empty_lines caller (world s)))

-- With no call in flight no call needs a turn whose caller has an EMPTY line, where a lock is left of each node and
-- some node is neither listed nor GONE.
abbrev pub RoomNeedsNoTurn : Type 0
RoomNeedsNoTurn = (s : Index) (caller : ℕ) (c : CoreCall) → IsIndex s → HasNoCalls s → caller < s.layout.callers →
    0 < locks_left s → 0 < empty_lines caller (world s) → taken_nodes s < s.layout.nodes → NeedsNoTurn caller c s
