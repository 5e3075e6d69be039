-- Which line comes next in a report that begins with what was read.
use Rattle.std.proofs.Common.{◌≡◌, ℕ, ◌^◌, ◌<◌, ◌⊎◌, inl, inr, Bool, true, false, List, [], ◌∷◌, ◌++◌, Option, Some, None, length, get_or, drop, map, decimal, flat_map, codes, refl, sym, ap, subst, ◌∙◌, arith, append_assoc, length-append}
use Rattle.std.proofs.lemmas.Fmt.{decimal_injective}
use Rattle.std.proofs.lemmas.List.Elements.{recursion_from_All}
use Rattle.std.specs.List.{AllByRecursion}
use Rattle.cat_history.specs.declared.record.Record.{Record}
use Rattle.cat_history.specs.declared.record.Reply.{Reply}
use Rattle.cat_history.specs.declared.record.Reply.TheVariants as reply
use Rattle.cat_history.specs.declared.record.ScanPart.{ScanPart}
use Rattle.cat_text.specs.Reports.{end_word}
use Rattle.cat_text.specs.ReportGrammar.{IsReport, IsReportPart, IsReportRecord, IsReportReply, IsReportRound, StandByCaller, StandBehind}
use Rattle.cat_text.specs.ReportLines.{part_fields, record_fields, record_lines, reply_lines, reply_fields, last_fields, report_lines, cut_fields}
use Rattle.cat_text.specs.declared.report.RoundReport.{RoundReport}
use Rattle.cat_text.proofs.FieldLemmas.{apart, number_begins}
use Rattle.cat_text.proofs.ReplyLaws.{lead, op_one, record_one}
use Rattle.cat_text.proofs.ReportLaws.{index_one, not_last, all_records_one, split_round, split, end_begins}
use Rattle.report_reader.specs.Answers.{IsAnswer, answer_fields, answer_of, count_of}
use Rattle.report_reader.specs.Heads.{IsHead}
use Rattle.report_reader.specs.Reading.{IsReading, IsOpen, MayCome, MayComeBehind, lines_read, open_lines, call_fields}
use Rattle.report_reader.specs.declared.answer.Answer.{Answer}
use Rattle.report_reader.specs.declared.answer.Answer.TheVariants.{Old, Parts, Full, Spent, Cut, Unstarted}
use Rattle.report_reader.specs.declared.head.Head.TheVariants.{Call}
use Rattle.report_reader.specs.declared.reading.OpenCall.{OpenCall}
use Rattle.report_reader.specs.declared.reading.Reading.{Reading}
use Rattle.report_reader.proofs.AnswerLaws.{tells_reply}
use Rattle.report_reader.proofs.FieldLaws.{Lines}

-- ---- rounds that have ended

-- no line, where there is one
none : (front : Lines) (line : List (List ℕ)) (more : Lines) → [] ≡ front ++ line ∷ more → ⊥
none front line more same = omega (arith, ap length same, length-append front (line ∷ more))

pub begin_rounds : (done all : List RoundReport) (x : Lines) → AllByRecursion IsReportRound done → AllByRecursion IsReportRound all →
    report_lines all ≡ report_lines done ++ x → (more : List RoundReport) × (report_lines more ≡ x) × AllByRecursion IsReportRound more
begin_rounds [] all x is is' same = (all, same, is')
begin_rounds (a ∷ done) [] x is is' same =
    absurd (none (flat_map record_lines a.records) (last_fields a) (report_lines done ++ x) (same ∙ ap (λ (l : Lines). l ++ x) (split_round a done)
    ∙ append_assoc (flat_map record_lines a.records) (last_fields a ∷ report_lines done) x))
begin_rounds (a ∷ done) (b ∷ all) x is is' same =
    let here = all_records_one b.records a.records b a (report_lines all) (report_lines done ++ x) is'.0.by_caller is.0.by_caller
    (recursion_from_All IsReportRecord b.records is'.0.records) (recursion_from_All IsReportRecord a.records is.0.records)
    (sym (split_round b all) ∙ same ∙ ap (λ (l : Lines). l ++ x) (split_round a done) ∙ append_assoc (flat_map record_lines a.records) (last_fields a ∷ report_lines done) x) in
    begin_rounds done all x is.1 is'.1 here.2

-- ---- calls of the round that has not

-- records that begin with these
pub record BeginWith (done all : List Record) (a : RoundReport) (x y : Lines) : Type 0 where
  pub more : List Record
  pub whole : all ≡ done ++ more
  pub lines : flat_map record_lines more ++ last_fields a ∷ x ≡ y
  pub is : AllByRecursion IsReportRecord more

begin_more : (r q : Record) (done all : List Record) (a : RoundReport) (x y : Lines) → q ≡ r → BeginWith done all a x y → BeginWith (r ∷ done) (q ∷ all) a x y
begin_more r q done all a x y same rest = record { more = rest.more; whole = λ j. same j ∷ rest.whole j; lines = rest.lines; is = rest.is }

begin_behind : (caller caller' index index' : ℕ) (done all : List Record) (a : RoundReport) (x y : Lines) → caller ≡ caller' → index ≡ index' →
    StandBehind caller index done → StandBehind caller' index' all → AllByRecursion IsReportRecord done → AllByRecursion IsReportRecord all →
    flat_map record_lines all ++ last_fields a ∷ x ≡ flat_map record_lines done ++ y → BeginWith done all a x y
begin_behind c c' i i' [] all a x y callers indexes stand stand' is is' same = record { more = all; whole = refl; lines = same; is = is' }
begin_behind c c' i i' (r ∷ done) [] a x y callers indexes stand stand' is is' same =
    absurd (not_last r a (flat_map record_lines done ++ y) x is.0 (sym (append_assoc (record_lines r) (flat_map record_lines done) y) ∙ sym same))
begin_behind c c' i i' (r ∷ done) (q ∷ all) a x y callers indexes stand stand' is is' same =
    let first = record_one q r (flat_map record_lines all ++ last_fields a ∷ x) (flat_map record_lines done ++ y) is'.0 is.0
    (sym (split q all a x) ∙ same ∙ append_assoc (record_lines r) (flat_map record_lines done) y) in
    let numbers = index_one c' c i' i q r (sym callers) (sym indexes) first.caller stand'.0 stand.0 in
    let rest = begin_behind r.caller q.caller r.index q.index done all a x y (sym first.caller) (sym numbers) stand.1 stand'.1 is.1 is'.1 first.rest in
    begin_more r q done all a x y (λ j. record { caller = first.caller j; index = numbers j; op = first.op j; reply = first.reply j }) rest

pub begin_records : (done all : List Record) (a : RoundReport) (x y : Lines) → StandByCaller done → StandByCaller all →
    AllByRecursion IsReportRecord done → AllByRecursion IsReportRecord all → flat_map record_lines all ++ last_fields a ∷ x ≡ flat_map record_lines done ++ y →
    BeginWith done all a x y
begin_records [] all a x y stand stand' is is' same = record { more = all; whole = refl; lines = same; is = is' }
begin_records (r ∷ done) [] a x y stand stand' is is' same =
    absurd (not_last r a (flat_map record_lines done ++ y) x is.0 (sym (append_assoc (record_lines r) (flat_map record_lines done) y) ∙ sym same))
begin_records (r ∷ done) (q ∷ all) a x y stand stand' is is' same =
    let first = record_one q r (flat_map record_lines all ++ last_fields a ∷ x) (flat_map record_lines done ++ y) is'.0 is.0
    (sym (split q all a x) ∙ same ∙ append_assoc (record_lines r) (flat_map record_lines done) y) in
    let numbers = stand'.0 ∙ sym stand.0 in
    let rest = begin_behind r.caller q.caller r.index q.index done all a x y (sym first.caller) (sym numbers) stand.1 stand'.1 is.1 is'.1 first.rest in
    begin_more r q done all a x y (λ j. record { caller = first.caller j; index = numbers j; op = first.op j; reply = first.reply j }) rest

-- the first of records stand where all do
stand_behind_first : (caller index : ℕ) (done : List Record) (q : Record) (more : List Record) → StandBehind caller index (done ++ q ∷ more) → StandBehind caller index (done ++ q ∷ [])
stand_behind_first caller index [] q more stand = (stand.0, tt)
stand_behind_first caller index (r ∷ done) q more stand = (stand.0, stand_behind_first r.caller r.index done q more stand.1)

pub stand_first : (done : List Record) (q : Record) (more : List Record) → StandByCaller (done ++ q ∷ more) → StandByCaller (done ++ q ∷ [])
stand_first [] q more stand = (stand.0, tt)
stand_first (r ∷ done) q more stand = (stand.0, stand_behind_first r.caller r.index done q more stand.1)

-- ---- parts that are still to come

-- the number of parts is told
cut_begins : (cut : Bool) → (more : List (List ℕ)) × (cut_fields cut ≡ codes "parts" ∷ more)
cut_begins false = ([], refl)
cut_begins true = (codes "cut" ∷ [], refl)

abbrev second : List (List ℕ) → ℕ
second fields = get_or (get_or fields 1 []) 0 0

-- so many parts has a reply of which this is told
has_parts : (r : Reply) (count : ℕ) (more : List (List ℕ)) → IsAnswer (answer_of r) → count < 2 ^ 64 → answer_fields (answer_of r) ≡ decimal count ∷ codes "parts" ∷ more →
    (parts : List ScanPart) × (cut : Bool) × (r ≡ reply.Parts parts cut) × (length parts ≡ count)
has_parts (reply.Old old place) count more is small same = absurd (apart 64 112 (ap second same) (inl (omega arith)))
has_parts (reply.Parts parts cut) count more is small same =
    (parts, cut, refl, decimal_injective (length parts) count is small (ap (λ (l : List (List ℕ)). get_or l 0 []) same))
has_parts reply.Full count more is small same = absurd (omega (arith, ap length same))
has_parts (reply.Spent clock) count more is small same =
    let e : 115 ≡ get_or (decimal count) 0 0 = ap lead same in absurd (omega (arith, e, number_begins count small))
has_parts (reply.Cut mark) count more is small same =
    let e : 99 ≡ get_or (decimal count) 0 0 = ap lead same in absurd (omega (arith, e, number_begins count small))
has_parts reply.Unstarted count more is small same = absurd (omega (arith, ap length same))

-- behind fewer parts than there are comes a part
part_comes : (all parts : List ScanPart) (x y : Lines) → AllByRecursion IsReportPart all → length parts < length all → map part_fields all ++ x ≡ map part_fields parts ++ y →
    (part : ScanPart) × (more : Lines) × IsReportPart part × (y ≡ part_fields part ∷ more)
part_comes [] parts x y is less same = absurd (omega (arith, less))
part_comes (p ∷ all) [] x y is less same = (p, map part_fields all ++ x, is.0, sym same)
part_comes (p ∷ all) (q ∷ parts) x y is less same = part_comes all parts x y is.1 (omega (arith, less)) (ap (drop 1) same)

-- a call whose parts come has a number of parts
pub call_has_parts : (answer : Answer) → 0 < count_of answer → IsAnswer answer →
    (count : ℕ) × (cut : Bool) × (answer ≡ Parts count cut) × (count < 2 ^ 64)
call_has_parts (Old old place) some is = absurd (omega (arith, some))
call_has_parts (Parts count cut) some is = (count, cut, refl, is)
call_has_parts Full some is = absurd (omega (arith, some))
call_has_parts (Spent clock) some is = absurd (omega (arith, some))
call_has_parts (Cut mark) some is = absurd (omega (arith, some))
call_has_parts Unstarted some is = absurd (omega (arith, some))

-- ---- what comes next

-- nothing comes, between rounds, or a line that may
abbrev pub Next : Reading → Lines → Type 0
Next r y = ((y ≡ []) × (r.records.items ≡ []) × (r.scan ≡ None)) ⊎
    ((line : List (List ℕ)) × (more : Lines) × (y ≡ line ∷ more) × MayCome r line)

-- behind the header of a call whose parts come
in_parts : (call : OpenCall) (parts : List ScanPart) (q : Record) (x y : Lines) → IsHead (Call call.caller call.op call.answer) → length parts < count_of call.answer →
    IsReportRecord q → record_fields q ≡ call_fields call → reply_lines q.reply ++ x ≡ map part_fields parts ++ y →
    (part : ScanPart) × (more : Lines) × IsReportPart part × (y ≡ part_fields part ∷ more)
in_parts call parts q x y head less is line lines =
    let few = call_has_parts call.answer (omega (arith, less)) head.2 in
    let ops = op_one q.op call.op (codes "->" ∷ reply_fields q.reply) (codes "->" ∷ answer_fields call.answer) is.op head.1 (ap (drop 1) line) in
    let replies : reply_fields q.reply ≡ answer_fields call.answer = ap (drop 1) ops.1 in
    let tells = tells_reply q.op q.reply is.reply in
    let more = cut_begins few.1 in
    let has = has_parts q.reply few.0 more.0 tells.is few.3 (tells.fields ∙ replies ∙ ap answer_fields few.2 ∙ ap (λ (l : List (List ℕ)). decimal few.0 ∷ l) more.1) in
    let reply_is : IsReportReply q.op (reply.Parts has.0 has.1) = subst (λ (r : Reply). IsReportReply q.op r) has.2 is.reply in
    let lines' : map part_fields has.0 ++ x ≡ map part_fields parts ++ y = ap (λ (r : Reply). reply_lines r ++ x) (sym has.2) ∙ lines in
    part_comes has.0 parts x y (recursion_from_All IsReportPart has.0 reply_is.1) (omega (arith, less, has.3, ap count_of few.2)) lines'

behind_records : (r : Reading) (o : Option OpenCall) → r.scan ≡ o → IsOpen r o r.parts.items → (a : RoundReport) (x y : Lines) → IsReportRound a →
    (more : List Record) → a.records ≡ r.records.items ++ more → AllByRecursion IsReportRecord more →
    flat_map record_lines more ++ last_fields a ∷ x ≡ open_lines o r.parts.items ++ y → Next r y
behind_records r None scan_is opened a x y round [] all is same =
    inr (last_fields a, x, sym same, subst (λ (o : Option OpenCall). MayComeBehind r o (last_fields a)) (sym scan_is) (inr (a, round, refl)))
behind_records r None scan_is opened a x y round (q ∷ qs) all is same =
    let stand = stand_first r.records.items q qs (subst StandByCaller all round.by_caller) in
    inr (
      record_fields q,
      (reply_lines q.reply ++ flat_map record_lines qs) ++ last_fields a ∷ x,
      sym same,
      subst (λ (o : Option OpenCall). MayComeBehind r o (record_fields q)) (sym scan_is) (inl (q, is.0, stand, refl)),
    )
behind_records r (Some call) scan_is opened a x y round [] all is same =
    let e : get_or (end_word a.crashed) 0 0 ≡ get_or (decimal call.caller) 0 0 = ap (λ (l : Lines). lead (get_or l 0 [])) same in
    let low : call.caller < 2 ^ 64 = omega (arith, opened.0.1.0) in
    absurd (omega (arith, e, end_begins a.crashed, number_begins call.caller low))
behind_records r (Some call) scan_is opened a x y round (q ∷ qs) all is same =
    let here = in_parts call r.parts.items q (flat_map record_lines qs ++ last_fields a ∷ x) y opened.0.1 opened.1 is.0 (ap (λ (l : Lines). get_or l 0 []) same)
    (sym (append_assoc (reply_lines q.reply) (flat_map record_lines qs) (last_fields a ∷ x)) ∙ ap (drop 1) same) in
    inr (part_fields here.0, here.1, here.3, subst (λ (o : Option OpenCall). MayComeBehind r o (part_fields here.0)) (sym scan_is) (here.0, here.2, refl))

no_records : (records : List Record) (z : Lines) → [] ≡ flat_map record_lines records ++ z → (records ≡ []) × (z ≡ [])
no_records [] z same = (refl, sym same)
no_records (q ∷ records) z same = absurd (omega (arith, ap length same))

no_open : (o : Option OpenCall) (parts : List ScanPart) (y : Lines) → open_lines o parts ++ y ≡ [] → (o ≡ None) × (y ≡ [])
no_open None parts y same = (refl, same)
no_open (Some call) parts y same = absurd (omega (arith, ap length same))

behind_rounds : (r : Reading) (more : List RoundReport) (y : Lines) → IsReading r → AllByRecursion IsReportRound more →
    report_lines more ≡ flat_map record_lines r.records.items ++ (open_lines r.scan r.parts.items ++ y) → Next r y
behind_rounds r [] y is each same =
    let records = no_records r.records.items (open_lines r.scan r.parts.items ++ y) same in
    let scan = no_open r.scan r.parts.items y records.1 in inl (scan.1, records.0, scan.0)
behind_rounds r (a ∷ more) y is each same =
    let begin = begin_records r.records.items a.records a (report_lines more) (open_lines r.scan r.parts.items ++ y) is.stand each.0.by_caller
    (recursion_from_All IsReportRecord r.records.items is.records) (recursion_from_All IsReportRecord a.records each.0.records) (sym (split_round a more) ∙ same) in
    behind_records r r.scan refl is.scan a (report_lines more) y each.0 begin.more begin.whole begin.is begin.lines

pub goes_on : (r : Reading) (report : List RoundReport) (y : Lines) → IsReading r → IsReport report → report_lines report ≡ lines_read r ++ y → Next r y
goes_on r report y is whole same =
    let rounds = report_lines r.rounds.items in
    let records = flat_map record_lines r.records.items in
    let opened = open_lines r.scan r.parts.items in
    let rest = begin_rounds r.rounds.items report (records ++ (opened ++ y)) (recursion_from_All IsReportRound r.rounds.items is.rounds)
    (recursion_from_All IsReportRound report whole.rounds) (same ∙ append_assoc rounds (records ++ opened) y ∙ ap (λ (l : Lines). rounds ++ l) (append_assoc records opened y)) in
    behind_rounds r rest.0 y is rest.2 rest.1
