use Rattle.index_law.proofs.Claims.{claimed_are_outside, clean_lines_are_durable}
use Rattle.index_law.proofs.laws.claim_law.Goals as goal

pub returns-clause-outside : goal.returns-clause-outside
returns-clause-outside c = claimed_are_outside

pub returns-clause-lines : goal.returns-clause-lines
returns-clause-lines c = clean_lines_are_durable
