use Rattle.cat_script.proofs.ScriptLaws.{one_script, fault_is_no_script, one_fault}
use Rattle.cat_script.proofs.WholeLaws.{script_or_fault}
use Rattle.cat_script.proofs.laws.script_law.Goals as goal

pub returns-clause-one : goal.returns-clause-one
returns-clause-one c = one_script

pub returns-clause-no_script : goal.returns-clause-no_script
returns-clause-no_script c = fault_is_no_script

pub returns-clause-one_fault : goal.returns-clause-one_fault
returns-clause-one_fault c = one_fault

pub returns-clause-either : goal.returns-clause-either
returns-clause-either c = script_or_fault
