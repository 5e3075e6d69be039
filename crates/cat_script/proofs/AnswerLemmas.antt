-- Why exactly scripts are accepted, and exactly first faults told.
use Rattle.std.proofs.Common.{◌≡◌, ℕ, ◌<◌, inl, inr, List, length, ap, subst, arith}
use Rattle.std.specs.Prelude.{Result, Ok, Err, IfOk, IfErr, IsErrOf}
use Rattle.cat_script.specs.Reading.{IsRefusal, IsAnswer}
use Rattle.cat_script.specs.Scripts.{IsScript, IsFirstFault, IsLineFault}
use Rattle.cat_script.specs.declared.fault.ScriptFault.{ScriptFault}
use Rattle.cat_script.specs.declared.fault.ScriptFault.TheVariants as fault
use Rattle.cat_script.specs.declared.fault.TheConstants.{MOST_BYTES}
use Rattle.cat_script.specs.declared.script.Script.{Script}
use Rattle.cat_script.proofs.ScriptLaws.{one_script, fault_is_no_script, one_fault}

pub script_accepted : (bytes : List ℕ) (r : Result Script ScriptFault) → IfOk r (IsScript bytes) → IfErr r (IsRefusal bytes) → (script : Script) → IsScript bytes script → IsAnswer r (Ok script)
script_accepted bytes (Ok read) made refused script is = inl (ap Ok (one_script bytes read script made is))
script_accepted bytes (Err what) made (inl out) script is = inr (ap Err out)
script_accepted bytes (Err what) made (inr (inl long)) script is = absurd (omega (arith, long.1, is.short))
script_accepted bytes (Err what) made (inr (inr first)) script is = absurd (fault_is_no_script bytes what script first is)

pub fault_told : (bytes : List ℕ) (r : Result Script ScriptFault) → IfOk r (IsScript bytes) → IfErr r (IsRefusal bytes) → (what : ScriptFault) → IsFirstFault bytes what → IsAnswer r (Err what)
fault_told bytes (Ok read) made refused what is = absurd (fault_is_no_script bytes what read is made)
fault_told bytes (Err found) made (inl out) what is = inr (ap Err out)
fault_told bytes (Err found) made (inr (inl long)) what is = absurd (omega (arith, long.1, is.short))
fault_told bytes (Err found) made (inr (inr first)) what is = inl (ap Err (one_fault bytes found what first is))

-- a text is told to be too long only where it is
pub long_told : (bytes : List ℕ) (r : Result Script ScriptFault) → IfErr r (IsRefusal bytes) → IsErrOf r fault.Bytes → MOST_BYTES < length bytes
long_told bytes (Ok read) refused told = cc
long_told bytes (Err found) (inl out) told = let same : fault.NoMemory ≡ fault.Bytes = cc in cc
long_told bytes (Err found) (inr (inl long)) told = long.1
long_told bytes (Err found) (inr (inr first)) told = let same : found ≡ fault.Bytes = cc in absurd (subst (IsLineFault first.said first.line) same first.fault)
