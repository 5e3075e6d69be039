use Rattle.index_law.proofs.Actions.{may_name, action_law}
use Rattle.index_law.proofs.Law.{step_law}
use Rattle.index_law.proofs.Own.{allow_law}
use Rattle.index_law.proofs.laws.step_law.Goals as goal

pub returns-clause-allowed : goal.returns-clause-allowed
returns-clause-allowed c = allow_law

pub returns-clause-named : goal.returns-clause-named
returns-clause-named c = may_name

pub returns-clause-can : goal.returns-clause-can
returns-clause-can c = action_law

pub returns-clause-keeps : goal.returns-clause-keeps
returns-clause-keeps c = step_law
