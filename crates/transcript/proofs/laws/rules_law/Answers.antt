use Rattle.transcript.proofs.RuleLaws.{rules_are_legality, legal_has_one_end, one_first_broken, legal_breaks_none}
use Rattle.transcript.proofs.laws.rules_law.Goals as goal

pub returns : goal.returns
returns c = record { legality = rules_are_legality; end = legal_has_one_end; first = one_first_broken; none = legal_breaks_none }
