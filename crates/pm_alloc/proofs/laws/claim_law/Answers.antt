use Rattle.pm_alloc.proofs.ClaimLaw.{claims_are_steps, claims_begin, claims_heed}
use Rattle.pm_alloc.proofs.laws.claim_law.Goals as goal

pub returns-clause-steps : goal.returns-clause-steps
returns-clause-steps c = claims_are_steps

pub returns-clause-begins : goal.returns-clause-begins
returns-clause-begins c = claims_begin

pub returns-clause-heeds : goal.returns-clause-heeds
returns-clause-heeds c = claims_heed
