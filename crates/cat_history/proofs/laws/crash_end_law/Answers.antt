use Rattle.cat_history.proofs.CrashEndLemmas.{old_or_cut_is_crash_end, none_or_one_is_crash_end}
use Rattle.cat_history.proofs.laws.crash_end_law.Goals as goal

pub returns : goal.returns
returns c = record { law = old_or_cut_is_crash_end; cases = none_or_one_is_crash_end }
