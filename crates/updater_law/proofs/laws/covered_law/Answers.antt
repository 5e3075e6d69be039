use Rattle.updater_law.proofs.Crash.{is_covered_now, crash_is_covered, keys_lead_apart}
use Rattle.updater_law.proofs.laws.covered_law.Goals as goal

pub returns-clause-now : goal.returns-clause-now
returns-clause-now c = is_covered_now

pub returns-clause-crash : goal.returns-clause-crash
returns-clause-crash c = crash_is_covered

pub returns-clause-apart : goal.returns-clause-apart
returns-clause-apart c = keys_lead_apart
