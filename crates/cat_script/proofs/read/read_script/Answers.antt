use Rattle.cat_script.proofs.AnswerLemmas.{script_accepted, fault_told, long_told}
use Rattle.cat_script.proofs.read.read_script.Goals as goal

pub returns-clause-accepted : goal.returns-clause-accepted
returns-clause-accepted c = script_accepted c.args.bytes.now c.read_text.result c.read_text.ensures.script c.read_text.ensures.refused

pub returns-clause-bytes : goal.returns-clause-bytes
returns-clause-bytes c =
    (long_told c.args.bytes.now c.read_text.result c.read_text.ensures.refused, c.read_text.ensures.long)

pub returns-clause-first_fault : goal.returns-clause-first_fault
returns-clause-first_fault c = fault_told c.args.bytes.now c.read_text.result c.read_text.ensures.script c.read_text.ensures.refused
