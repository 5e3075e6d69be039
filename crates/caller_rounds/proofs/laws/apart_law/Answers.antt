use Rattle.caller_rounds.proofs.Aparting.{apart_is_in_order}
use Rattle.caller_rounds.proofs.LoneOrder.{lone_is_in_order}
use Rattle.caller_rounds.proofs.laws.apart_law.Goals as goal

pub returns-clause-apart : goal.returns-clause-apart
returns-clause-apart c = apart_is_in_order

pub returns-clause-lone : goal.returns-clause-lone
returns-clause-lone c = lone_is_in_order
