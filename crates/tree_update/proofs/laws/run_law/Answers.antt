use Rattle.tree_update.proofs.RunLaw.{each_moment_keeps, runs_end_right, runs_end_changed, unset_keeps_zero}
use Rattle.tree_update.proofs.laws.run_law.Goals as goal

pub returns : goal.returns
returns c = record { moments = each_moment_keeps; right = runs_end_right; changed = runs_end_changed; zero = unset_keeps_zero }
