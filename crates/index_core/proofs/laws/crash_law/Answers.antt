use Rattle.index_core.proofs.CrashLaws.{crash_leaves, crash_keeps_generation}
use Rattle.index_core.proofs.CutCrashes.{cut_leaves_one, cut_turn_leaves_none}
use Rattle.index_core.proofs.ScheduleCrashes.{crash_leaves_sound}
use Rattle.index_core.proofs.laws.crash_law.Goals as goal

pub returns-clause-sound : goal.returns-clause-sound
returns-clause-sound c = crash_leaves_sound

pub returns-clause-leaves : goal.returns-clause-leaves
returns-clause-leaves c = crash_leaves

pub returns-clause-generation : goal.returns-clause-generation
returns-clause-generation c = crash_keeps_generation

pub returns-clause-call : goal.returns-clause-call
returns-clause-call c = cut_leaves_one

pub returns-clause-turn : goal.returns-clause-turn
returns-clause-turn c = cut_turn_leaves_none
