use Rattle.caller_rounds.proofs.Rising.{crash_names_rise, names_rise}
use Rattle.caller_rounds.proofs.laws.names_law.Goals as goal

pub returns-clause-within : goal.returns-clause-within
returns-clause-within c = names_rise

pub returns-clause-crash : goal.returns-clause-crash
returns-clause-crash c = crash_names_rise
