use Rattle.index_law.proofs.AnySteps as lemma
use Rattle.index_law.proofs.laws.any_step_law.Goals as goal

pub returns-clause-allowed : goal.returns-clause-allowed
returns-clause-allowed c = lemma.any_allowed

pub returns-clause-can : goal.returns-clause-can
returns-clause-can c = lemma.any_can

pub returns-clause-beside : goal.returns-clause-beside
returns-clause-beside c = lemma.beside_keeps

pub returns-clause-keeps : goal.returns-clause-keeps
returns-clause-keeps c = lemma.any_keeps

pub returns-clause-weighs : goal.returns-clause-weighs
returns-clause-weighs c = lemma.any_weighs

pub returns-clause-ranges : goal.returns-clause-ranges
returns-clause-ranges c = lemma.held_ranges_stay
