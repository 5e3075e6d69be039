use Rattle.image_layer_rules.proofs.LineLemmas.{crash_keeps_lines, start_caches_lines}
use Rattle.image_layer_rules.proofs.laws.words_law.Goals as goal

pub returns-clause-crash_lines : goal.returns-clause-crash_lines
returns-clause-crash_lines c = crash_keeps_lines

pub returns-clause-start_lines : goal.returns-clause-start_lines
returns-clause-start_lines c = start_caches_lines
