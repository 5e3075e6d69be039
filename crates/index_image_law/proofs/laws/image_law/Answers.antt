use Rattle.index_image_law.proofs.CrashLaw.{crash_leaves_sound_by_all}
use Rattle.index_image_law.proofs.RestLaw.{rest_leaves_image}
use Rattle.index_image_law.proofs.laws.image_law.Goals as goal

pub returns-clause-crash : goal.returns-clause-crash
returns-clause-crash c = crash_leaves_sound_by_all

pub returns-clause-rest : goal.returns-clause-rest
returns-clause-rest c = rest_leaves_image
