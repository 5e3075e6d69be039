-- What is told of a text that is no script.
use Rattle.std.specs.Prelude.{ℕ, List, ◌++◌, codes}
use Rattle.std.specs.Fmt.{decimal}
use Rattle.cat_script.specs.declared.fault.ScriptFault.{ScriptFault}
use Rattle.cat_script.specs.declared.fault.ScriptFault.TheVariants as fault
use Rattle.cat_script.specs.declared.line.Reason.{Reason}
use Rattle.cat_script.specs.declared.line.Reason.TheVariants as reason

abbrev pub reason_text : Reason → List ℕ
reason_text reason.Byte = codes "byte"
reason_text reason.Verb = codes "verb"
reason_text reason.Words = codes "words"
reason_text reason.Caller = codes "caller"
reason_text reason.Name = codes "name"
reason_text reason.Number = codes "number"

-- What is told of a line with which a script has more than it may have.
abbrev pub passed_text : ℕ → List ℕ → List ℕ
passed_text line most = codes "script: line " ++ (decimal line ++ (codes ": more than " ++ most))

-- What is told of a fault.
abbrev pub script_fault_text : ScriptFault → List ℕ
script_fault_text fault.Bytes = codes "script: more than 4194304 bytes"
script_fault_text (fault.Rounds line) = passed_text line (codes "1000 rounds")
script_fault_text (fault.Calls line) = passed_text line (codes "100000 calls")
script_fault_text (fault.Scans line) = passed_text line (codes "1000000 names")
script_fault_text (fault.Line line why) = codes "script: line " ++ (decimal line ++ (codes ": " ++ reason_text why))
script_fault_text fault.NoMemory = codes "out of memory"
