use Rattle.caller_rounds.proofs.Stands.{records_stand}
use Rattle.caller_rounds.proofs.Told.{answers_are_told, records_are_told, settled_are_told}
use Rattle.caller_rounds.proofs.laws.report_law.Goals as goal

pub returns-clause-stand : goal.returns-clause-stand
returns-clause-stand c = records_stand

pub returns-clause-replies : goal.returns-clause-replies
returns-clause-replies c = answers_are_told

pub returns-clause-settled : goal.returns-clause-settled
returns-clause-settled c = settled_are_told

pub returns-clause-records : goal.returns-clause-records
returns-clause-records c = records_are_told
