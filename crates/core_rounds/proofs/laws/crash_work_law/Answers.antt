use Rattle.core_rounds.proofs.CrashWork.{more_weight_works, one_more_works, plain_rounds_work, work_goes_on}
use Rattle.core_rounds.proofs.laws.crash_work_law.Goals as goal

pub returns : goal.returns
returns c = record { more = more_weight_works; go_on = work_goes_on; plain = plain_rounds_work; one_more = one_more_works }
