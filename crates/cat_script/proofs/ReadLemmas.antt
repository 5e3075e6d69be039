-- What was read, line by line.
use Rattle.std.proofs.Common.{◌≡◌, ℕ, suc, ◌+◌, ◌≤◌, inl, inr, List, [], ◌∷◌, ◌++◌, length, sym, ap, ◌∙◌, arith}
use Rattle.std.proofs.lemmas.Slice.Zip.{AllZip-long}
use Rattle.cat_script.specs.Asks.{IsLine}
use Rattle.cat_script.specs.Counts.{AreCounts}
use Rattle.cat_script.specs.Limits.{PassLimit}
use Rattle.cat_script.specs.Lines.{lines_of}
use Rattle.cat_script.specs.Reading.{IsReading, IsRefusedBehind, IsRefusal}
use Rattle.cat_script.specs.Scripts.{IsLineFault, numbered}
use Rattle.cat_script.specs.declared.fault.ScriptFault.{ScriptFault}
use Rattle.cat_script.specs.declared.fault.ScriptFault.TheVariants as fault
use Rattle.cat_script.specs.declared.fault.TheConstants.{MOST_BYTES}
use Rattle.cat_script.specs.declared.line.Line.{Line}
use Rattle.cat_script.specs.declared.line.Line.TheVariants.{Blank, Call, Join, Crash, Updater, Limit}
use Rattle.cat_script.specs.declared.read.Reading.{Reading}
use Rattle.cat_script.specs.declared.script.Need.TheVariants.{Caller, Budgets, Nothing}
use Rattle.cat_script.specs.declared.script.ScriptLine.{ScriptLine}

-- the next number, in two spellings
next : (n count : ℕ) → (n + 1) + count ≡ n + suc count
next n count = omega arith

none : (n : ℕ) → n ≡ n + 0
none n = omega arith

pub numbered-append : (n : ℕ) (a b : List Line) → numbered n (a ++ b) ≡ numbered n a ++ numbered (n + length a) b
numbered-append n [] b = ap (λ m. numbered m b) (none n)
numbered-append n (Blank ∷ a) b = numbered-append (n + 1) a b ∙ ap (λ m. numbered (n + 1) a ++ numbered m b) (next n (length a))
numbered-append n (Call caller op ∷ a) b = ap (λ (ls : List ScriptLine). record { number = n; need = Caller caller } ∷ ls) (numbered-append (n + 1) a b ∙ ap (λ m. numbered (n + 1) a ++ numbered m b) (next n (length a)))
numbered-append n (Join ∷ a) b = ap (λ (ls : List ScriptLine). record { number = n; need = Nothing } ∷ ls) (numbered-append (n + 1) a b ∙ ap (λ m. numbered (n + 1) a ++ numbered m b) (next n (length a)))
numbered-append n (Crash plan ∷ a) b = ap (λ (ls : List ScriptLine). record { number = n; need = Budgets (length plan.budgets) } ∷ ls) (numbered-append (n + 1) a b ∙ ap (λ m. numbered (n + 1) a ++ numbered m b) (next n (length a)))
numbered-append n (Updater turns ∷ a) b = ap (λ (ls : List ScriptLine). record { number = n; need = Nothing } ∷ ls) (numbered-append (n + 1) a b ∙ ap (λ m. numbered (n + 1) a ++ numbered m b) (next n (length a)))
numbered-append n (Limit limit ∷ a) b = ap (λ (ls : List ScriptLine). record { number = n; need = Nothing } ∷ ls) (numbered-append (n + 1) a b ∙ ap (λ m. numbered (n + 1) a ++ numbered m b) (next n (length a)))

behind : (count many : ℕ) → count ≡ many → count + 1 ≡ 1 + many
behind count many same = omega (arith, same)

-- a limit that is passed is a fault of the line
limit_fault : (said : List Line) (line : List ℕ) (asked : Line) (what : ScriptFault) → IsLine line asked → PassLimit (said ++ asked ∷ []) what → IsLineFault said line what
limit_fault said line asked fault.Bytes is pass = absurd pass
limit_fault said line asked (fault.Rounds number) is pass = (asked, is, pass)
limit_fault said line asked (fault.Calls number) is pass = (asked, is, pass)
limit_fault said line asked (fault.Scans number) is pass = (asked, is, pass)
limit_fault said line asked (fault.Line number reason) is pass = absurd pass
limit_fault said line asked fault.NoMemory is pass = absurd pass

-- the same behind what was read
pub limit_behind : (before : List (List ℕ)) (line : List ℕ) (asked : Line) (reading : Reading) (what : ScriptFault) → IsLine line asked →
    ((said : List Line) → AreCounts said reading.counts → PassLimit (said ++ asked ∷ []) what) → IsReading before reading → IsRefusedBehind before line what
limit_behind before line asked reading what is pass read =
    inr (read.said, read.lines, read.counts.limits, limit_fault read.said line asked what is (pass read.said read.counts))

-- what was told of lines, with one more
pub told_more : (before : List (List ℕ)) (asked : Line) (reading : Reading) (told : List ScriptLine) → IsReading before reading →
    told ≡ reading.lines.items ++ numbered (reading.counts.lines + 1) (asked ∷ []) → (is : IsReading before reading) → told ≡ numbered 1 (is.said ++ asked ∷ [])
told_more before asked reading told _ are is =
    are ∙ ap (λ (ls : List ScriptLine). ls ++ numbered (reading.counts.lines + 1) (asked ∷ [])) is.told
    ∙ ap (λ n. numbered 1 is.said ++ numbered n (asked ∷ [])) (behind reading.counts.lines (length is.said) is.counts.all)
    ∙ sym (numbered-append 1 is.said (asked ∷ []))

-- as many lines were counted as were read
pub counted : (before : List (List ℕ)) (reading : Reading) → IsReading before reading → reading.counts.lines ≡ length before
counted before reading is = omega (arith, is.counts.all, AllZip-long IsLine before is.said is.lines)

-- what is wrong behind the lines before it is the first fault
pub first_wrong : (bytes : List ℕ) (before : List (List ℕ)) (line : List ℕ) (after : List (List ℕ)) (what : ScriptFault) → length bytes ≤ MOST_BYTES →
    lines_of bytes ≡ before ++ line ∷ after → IsRefusedBehind before line what → IsRefusal bytes what
first_wrong bytes before line after what short cut (inl out) = inl out
first_wrong bytes before line after what short cut (inr wrong) = inr (inr (record {
  short = short;
  before = before;
  line = line;
  after = after;
  cut = cut;
  said = wrong.0;
  lines = wrong.1;
  limits = wrong.2;
  fault = wrong.3;
}))
