use Rattle.core_crashes.proofs.Turnless.{fewer_room, fewer_turns}
use Rattle.core_crashes.proofs.crash_map.CrashMapBoundedMap.has_shape.Goals as goal

pub returns-clause-fewer : goal.returns-clause-fewer
returns-clause-fewer g c = λ a rest turnless. record { going = turnless.going; turnless = fewer_turns _ a rest turnless.turnless }

pub returns-clause-room : goal.returns-clause-room
returns-clause-room g c = λ a rest room. fewer_room g.K.CrashRun.anchors _ a rest room
