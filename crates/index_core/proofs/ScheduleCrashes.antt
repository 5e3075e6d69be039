-- What a crash leaves wherever a schedule stands.
use Rattle.std.proofs.Common.{List, sym, subst}
use Rattle.index_core.specs.Indexes.{Index, IsIndex, layered}
use Rattle.index_core.specs.Schedules.{BegunCall, AnsweredCall, Runs, begins, starts, goes_on, answers, alone, evicts, reserves, begins_recheck, steps_recheck, begins_turn, steps_turn, turns_alone}
use Rattle.index_core.specs.ScheduleCrashes.{CrashLeavesSound}
use Rattle.index_core.proofs.Stepping.{respare}
use Rattle.index_image_law.proofs.CrashLaw.{crash_leaves_sound_by_all}

-- a schedule leads to an index
stands : (first : Index) → IsIndex first → {begun : List BegunCall} {calls : List AnsweredCall} {s : Index} → Runs first begun calls s → IsIndex s
stands first is begins = is
stands first is (starts run free start index) = index
stands first is (goes_on run step index) = index
stands first is (answers run step index) = index
stands first is (alone run quiet ran index) = index
stands first is (evicts run within same index) = index
stands first is (reserves {old = old} {new = new} run same) = subst IsIndex (sym same) (respare old new.spare (stands first is run))
stands first is (begins_recheck run free start index) = index
stands first is (steps_recheck run step index) = index
stands first is (begins_turn run free start index) = index
stands first is (steps_turn run step index) = index
stands first is (turns_alone run quiet turn index) = index

pub crash_leaves_sound : CrashLeavesSound
crash_leaves_sound first last begun calls is run = crash_leaves_sound_by_all (layered last) (stands first is run).layered
