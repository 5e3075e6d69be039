-- What was read is the beginning of a report, and what a text with it is.
use Rattle.std.proofs.Common.{◌≡◌, ℕ, ◌-◌, ◌<◌, inl, inr, false, List, [], ◌∷◌, ◌++◌, Option, Some, None, length, get_or, map, replicate, decimal, flat_map, codes, refl, sym, ap, subst, ◌∙◌, arith, append_assoc, append-nil, length-append}
use Rattle.std.proofs.lemmas.List.{length-replicate, map-append}
use Rattle.std.proofs.lemmas.List.Concat.{flat_map-append}
use Rattle.std.proofs.lemmas.List.Elements.{recursion_from_All, All-from_recursion, All-append, All-push, All-nil, All-replicate}
use Rattle.std.specs.List.{AllByRecursion}
use Rattle.std.specs.Prelude.{All}
use Rattle.cat_key.specs.Names.{IsNameByte}
use Rattle.cat_history.specs.declared.record.Record.{Record}
use Rattle.cat_history.specs.declared.record.Reply.TheVariants as reply
use Rattle.cat_history.specs.declared.record.ScanPart.{ScanPart}
use Rattle.cat_text.specs.ReportGrammar.{IsReport, IsReportPart, IsReportPair, IsReportRecord, IsReportRound, StandByCaller, IsReportText}
use Rattle.cat_text.specs.ReportLines.{op_fields, part_fields, record_fields, record_lines, last_fields, report_lines, round_lines, cut_fields, line_text}
use Rattle.cat_text.specs.declared.report.RoundReport.{RoundReport}
use Rattle.cat_text.proofs.FieldLemmas.{IsLine}
use Rattle.cat_text.proofs.ReportLaws.{rounds_have_lines}
use Rattle.report_reader.specs.Answers.{Suits, count_of}
use Rattle.report_reader.specs.Faults as faults
use Rattle.report_reader.specs.Faults.{text_of_lines, IsText, BeginsText}
use Rattle.report_reader.specs.Fields.{fields_of}
use Rattle.report_reader.specs.Heads.{head_fields}
use Rattle.report_reader.specs.Reading.{IsReading, IsOpen, Begins, ComesNext, MayCome, lines_read, open_lines, call_fields}
use Rattle.report_reader.specs.declared.answer.Answer.{Answer}
use Rattle.report_reader.specs.declared.answer.Answer.TheVariants.{Parts}
use Rattle.report_reader.specs.declared.head.Head.TheVariants.{Call}
use Rattle.report_reader.specs.declared.reading.OpenCall.{OpenCall}
use Rattle.report_reader.specs.declared.reading.Reading.{Reading}
use Rattle.report_reader.proofs.FieldLaws.{Lines, NoFeed, begin_lines, first_line, no_lines, fields_text}
use Rattle.report_reader.proofs.NextLaws.{goes_on, call_has_parts, Next}

-- ---- what was read goes on to a report

abbrev some_part : ScanPart
some_part = record { low = codes "a"; high = None; place = 0; pairs = [] }

some_part_is : IsReportPart some_part
some_part_is = record {
  low = record { some = omega arith; fits = omega arith; bytes = All-from_recursion IsNameByte (97 ∷ []) ((omega arith, omega arith), tt) };
  high = tt;
  place = omega arith;
  pairs = All-nil IsReportPair;
  rise = tt;
}

-- the call's record comes next
pub call_comes : (records : List Record) (caller first : ℕ) (call : OpenCall) (q : Record) → Begins (length records) caller first call.caller call.first →
    q.caller ≡ call.caller → q.index ≡ length records - call.first → ComesNext caller (length records - first) q
call_comes records caller first call q (inl same) callers numbers = inl (callers ∙ same.0, numbers ∙ ap (λ n. length records - n) same.1)
call_comes records caller first call q (inr later) callers numbers = inr (omega (arith, callers, later.0), omega (arith, numbers, later.1))

-- a round that ends here
abbrev ended : List Record → RoundReport
ended records = record { records = records; crashed = false; writes = 0; names = 0 }

ended_is : (records : List Record) → All IsReportRecord records → StandByCaller records → IsReportRound (ended records)
ended_is records is stand = record { records = is; by_caller = stand; writes = omega arith; names = omega arith }

abbrev GoesOn : Reading → Option OpenCall → Type 0
GoesOn r o = (report : List RoundReport) × (t : Lines) × IsReport report ×
    (report_lines report ≡ (report_lines r.rounds.items ++ (flat_map record_lines r.records.items ++ open_lines o r.parts.items)) ++ t)

one_round : (rounds : List RoundReport) (round : RoundReport) → All IsReportRound rounds → IsReportRound round → IsReport (rounds ++ round ∷ [])
one_round rounds round are is = record { some = omega (arith, length-append rounds (round ∷ [])); rounds = All-push IsReportRound rounds round are is }

arrange : (a b : Lines) (last : List (List ℕ)) → a ++ ((b ++ last ∷ []) ++ []) ≡ (a ++ (b ++ [])) ++ last ∷ []
arrange a b last = simp (append_assoc, append-nil) refl

arrange_parts : (a b p q : Lines) (head last : List (List ℕ)) → a ++ (((b ++ ((head ∷ (p ++ q)) ++ [])) ++ last ∷ []) ++ []) ≡ (a ++ (b ++ head ∷ p)) ++ (q ++ last ∷ [])
arrange_parts a b p q head last = simp (append_assoc, append-nil) refl

goes_from : (r : Reading) (o : Option OpenCall) → IsReading r → IsOpen r o r.parts.items → GoesOn r o
goes_from r None is opened =
    let records = r.records.items in
    let lines = flat_map-append round_lines r.rounds.items (ended records ∷ []) in (
      r.rounds.items ++ ended records ∷ [],
      last_fields (ended records) ∷ [],
      one_round r.rounds.items (ended records) is.rounds (ended_is records is.records is.stand),
      lines ∙ arrange (report_lines r.rounds.items) (flat_map record_lines records) (last_fields (ended records)),
    )
goes_from r (Some call) is opened =
    let few = call_has_parts call.answer (omega (arith, opened.1)) opened.0.1.2 in
    let parts = r.parts.items in
    let more = replicate (few.0 - length parts) some_part in
    let less : length parts < few.0 = omega (arith, opened.1, ap count_of few.2) in
    let long : length (parts ++ more) ≡ few.0 = omega (arith, less, length-append parts more, length-replicate (few.0 - length parts) some_part) in
    let q : Record = record { caller = call.caller; index = length r.records.items - call.first; op = call.op; reply = reply.Parts (parts ++ more) few.1 } in
    let suits : Suits call.op (Parts few.0 few.1) = subst (Suits call.op) few.2 opened.0.1.3 in
    let is_q : IsReportRecord q = record {
      caller = opened.0.1.0;
      op = opened.0.1.1;
      reply = (suits, All-append IsReportPart parts more is.parts (All-replicate IsReportPart (few.0 - length parts) some_part some_part_is), omega (arith, long, few.3));
    } in
    let records = r.records.items ++ q ∷ [] in
    let stand = (is.next q).1 (call_comes r.records.items r.caller r.first call q opened.0.0 refl refl) in
    let head : record_fields q ≡ call_fields call =
    ap (λ n. decimal call.caller ∷ (op_fields call.op ++ codes "->" ∷ decimal n ∷ cut_fields few.1)) long
    ∙ ap (λ (answer : Answer). head_fields (Call call.caller call.op answer)) (sym few.2) in
    let here : record_lines q ≡ call_fields call ∷ (map part_fields parts ++ map part_fields more) =
    λ i. head i ∷ map-append part_fields parts more i in
    let last = last_fields (ended records) in
    let rounds = report_lines r.rounds.items in
    let before = flat_map record_lines r.records.items in (
      r.rounds.items ++ ended records ∷ [],
      map part_fields more ++ last ∷ [],
      one_round r.rounds.items (ended records) is.rounds (ended_is records (All-push IsReportRecord r.records.items q is.records is_q) stand),
      flat_map-append round_lines r.rounds.items (ended records ∷ [])
          ∙ ap (λ (l : Lines). rounds ++ ((l ++ last ∷ []) ++ [])) (flat_map-append record_lines r.records.items (q ∷ []) ∙ ap (λ (l : Lines). before ++ (l ++ [])) here)
          ∙ arrange_parts rounds before (map part_fields parts) (map part_fields more) (call_fields call) last,
    )

pub goes : (r : Reading) → IsReading r → (report : List RoundReport) × (t : Lines) × IsReport report × (report_lines report ≡ lines_read r ++ t)
goes r is = goes_from r r.scan is is.scan

-- ---- texts

-- the text of what was read
abbrev pub IsTextOf : List ℕ → Reading → Type 0
IsTextOf bytes r = bytes ≡ flat_map line_text (lines_read r)

first_all : (P : List (List ℕ) → Type 0) (a b : Lines) → AllByRecursion P (a ++ b) → AllByRecursion P a
first_all P [] b all = tt
first_all P (x ∷ a) b all = (all.0, first_all P a b all.1)

have_lines : (r : Reading) → IsReading r → AllByRecursion IsLine (lines_read r)
have_lines r is =
    let whole = goes r is in
    first_all IsLine (lines_read r) whole.1 (subst (AllByRecursion IsLine) whole.3 (rounds_have_lines whole.0 (recursion_from_All IsReportRound whole.0 whole.2.rounds)))

pub text_begins : (bytes : List ℕ) (r : Reading) → IsReading r → IsTextOf bytes r → BeginsText bytes
text_begins bytes r is text =
    let whole = goes r is in
    let lines = flat_map-append line_text (lines_read r) whole.1 in (
      flat_map line_text whole.1,
      (whole.0, record { report = whole.2; lines = ap (λ (b : List ℕ). b ++ flat_map line_text whole.1) text ∙ sym lines ∙ ap (flat_map line_text) (sym whole.3) }),
    )

-- the lines of a report whose text begins so
behind_read : (bytes x : List ℕ) (r : Reading) (report : List RoundReport) → IsReading r → IsTextOf bytes r → IsReportText (bytes ++ x) report →
    (more : Lines) × (report_lines report ≡ lines_read r ++ more) × (flat_map line_text more ≡ x) × AllByRecursion IsLine more
behind_read bytes x r report is text whole =
    begin_lines (lines_read r) (report_lines report) x (have_lines r is) (rounds_have_lines report (recursion_from_All IsReportRound report whole.report.rounds))
    (sym whole.lines ∙ ap (λ (b : List ℕ). b ++ x) text)

no_feed : (line : List ℕ) → faults.IsLine line → NoFeed line
no_feed line is = recursion_from_All (λ b. b ≡ 10 → ⊥) line is

next_is : (r : Reading) (line : List (List ℕ)) (more : Lines) → Next r (line ∷ more) → MayCome r line
next_is r line more (inl end) = absurd (omega (arith, ap length end.0))
next_is r line more (inr (next, behind, same, may)) = subst (MayCome r) (sym (ap (λ (l : Lines). get_or l 0 []) same)) may

-- no report goes on with a line that may not come
pub line_is_outside : (bytes line : List ℕ) (r : Reading) → IsReading r → IsTextOf bytes r → faults.IsLine line → ¬ MayCome r (fields_of line) → ¬ BeginsText (bytes ++ (line ++ codes "\n"))
line_is_outside bytes line r is text feedless un (rest, (report, whole)) =
    let here = behind_read bytes ((line ++ codes "\n") ++ rest) r report is text
    (subst (λ (b : List ℕ). IsReportText b report) (append_assoc bytes (line ++ codes "\n") rest) whole) in
    let next = first_line here.0 line rest here.3 (no_feed line feedless) (here.2 ∙ append_assoc line (codes "\n") rest) in
    un (next_is r (fields_of line) next.0 (goes_on r report (fields_of line ∷ next.0) is whole.report (here.1 ∙ ap (λ (l : Lines). lines_read r ++ l) next.1)))

-- a text with more than that, but no line feed in it, is no report's
pub rest_is_outside : (bytes rest : List ℕ) (r : Reading) → IsReading r → IsTextOf bytes r → faults.IsLine rest →
    (rest ≡ [] → (report : List RoundReport) → IsReport report → lines_read r ≡ report_lines report → ⊥) → ¬ IsText (bytes ++ rest)
rest_is_outside bytes rest r is text feedless un (report, whole) =
    let here = behind_read bytes rest r report is text whole in
    let end = no_lines here.0 rest here.3 (no_feed rest feedless) here.2 in
    un end.1 report whole.report (sym (append-nil (lines_read r)) ∙ ap (λ (l : Lines). lines_read r ++ l) (sym end.0) ∙ sym here.1)

-- one line more
pub text_more : (bytes line : List ℕ) (was now : Reading) → IsTextOf bytes was → lines_read now ≡ lines_read was ++ fields_of line ∷ [] → IsTextOf (bytes ++ (line ++ codes "\n")) now
text_more bytes line was now text more =
    ap (λ (b : List ℕ). b ++ (line ++ codes "\n")) text
    ∙ ap (λ (b : List ℕ). flat_map line_text (lines_read was) ++ b) (sym (append-nil (line_text (fields_of line)) ∙ fields_text line))
    ∙ sym (flat_map-append line_text (lines_read was) (fields_of line ∷ []))
    ∙ ap (flat_map line_text) (sym more)
