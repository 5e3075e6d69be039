-- How what was read changes with a line.
use Rattle.std.proofs.Common.{◌≡◌, ℕ, zero, suc, ◌+◌, ◌-◌, ◌^◌, ◌<◌, ◌≤◌, ◌⊎◌, inl, inr, Bool, List, [], ◌∷◌, ◌++◌, Option, Some, None, length, get_or, map, decimal, flat_map, codes, refl, sym, ap, subst, ◌∙◌, arith, append_assoc, append-nil, length-append}
use Rattle.std.proofs.lemmas.Fmt.{decimal_injective}
use Rattle.std.proofs.lemmas.List.{map-append}
use Rattle.std.proofs.lemmas.List.Concat.{flat_map-append}
use Rattle.std.proofs.lemmas.List.Elements.{All-push, All-nil}
use Rattle.std.specs.Prelude.{All, ◌↔◌}
use Rattle.cat_history.specs.declared.op.Op.{Op}
use Rattle.cat_history.specs.declared.record.Record.{Record}
use Rattle.cat_history.specs.declared.record.ScanPart.{ScanPart}
use Rattle.cat_history.specs.declared.record.CutMark.TheVariants.{At, Open, Found, Lost, Read}
use Rattle.cat_text.specs.Reports.{end_word}
use Rattle.cat_text.specs.ReportGrammar.{IsReport, IsReportPart, IsReportRecord, IsReportReply, IsReportRound, StandByCaller, StandBehind}
use Rattle.cat_text.specs.ReportLines.{op_fields, part_fields, record_lines, reply_lines, reply_fields, last_fields, report_lines, round_lines, cut_fields}
use Rattle.cat_text.specs.declared.report.RoundReport.{RoundReport}
use Rattle.cat_text.proofs.FieldLemmas.{number_begins}
use Rattle.cat_text.proofs.ReplyLaws.{lead}
use Rattle.cat_text.proofs.ReportLaws.{split_round, end_begins}
use Rattle.report_reader.specs.Answers.{IsAnswer, Suits, answer_fields, answer_of, count_of, reply_of}
use Rattle.report_reader.specs.Heads.{IsHead, head_fields, SaysHead}
use Rattle.report_reader.specs.Parts.{SaysPart}
use Rattle.report_reader.specs.Reading.{IsReading, IsOpen, IsCall, Begins, ComesNext, HasRead, MayCome, MayComeBehind, lines_read, open_lines, call_fields}
use Rattle.report_reader.specs.declared.answer.Answer.{Answer}
use Rattle.report_reader.specs.declared.answer.Answer.TheVariants.{Old, Parts, Full, Spent, Cut, Unstarted}
use Rattle.report_reader.specs.declared.head.Head.{Head}
use Rattle.report_reader.specs.declared.head.Head.TheVariants.{Call, Last}
use Rattle.report_reader.specs.declared.reading.OpenCall.{OpenCall}
use Rattle.report_reader.specs.declared.reading.Reading.{Reading}
use Rattle.report_reader.proofs.AnswerLaws.{tells_reply}
use Rattle.report_reader.proofs.FieldLaws.{Lines}
use Rattle.report_reader.proofs.NextLaws.{goes_on, Next}
use Rattle.report_reader.proofs.ReadLaws.{call_comes}

-- ---- replies

no_parts : (parts : List ScanPart) → length parts ≡ 0 → [] ≡ map part_fields parts
no_parts [] none = refl
no_parts (p ∷ parts) none = absurd (omega (arith, none))

-- an answer with its parts is a reply
record MakesReply (op : Op) (answer : Answer) (parts : List ScanPart) : Type 0 where
  pub is : IsReportReply op (reply_of answer parts)
  pub fields : reply_fields (reply_of answer parts) ≡ answer_fields answer
  pub lines : reply_lines (reply_of answer parts) ≡ map part_fields parts

makes_reply : (op : Op) (answer : Answer) (parts : List ScanPart) → IsAnswer answer → Suits op answer → All IsReportPart parts → length parts ≡ count_of answer → MakesReply op answer parts
makes_reply op (Old old place) parts is suits each long = record { is = (suits, is.0, is.1); fields = refl; lines = no_parts parts long }
makes_reply op (Parts count cut) parts is suits each long =
    record { is = (suits, each, omega (arith, long, is)); fields = ap (λ n. decimal n ∷ cut_fields cut) long; lines = refl }
makes_reply op Full parts is suits each long = record { is = suits; fields = refl; lines = no_parts parts long }
makes_reply op (Spent clock) parts is suits each long = record { is = (suits, is); fields = refl; lines = no_parts parts long }
makes_reply op (Cut (At place)) parts is suits each long = record { is = (suits, is); fields = refl; lines = no_parts parts long }
makes_reply op (Cut Open) parts is suits each long = absurd is
makes_reply op (Cut Found) parts is suits each long = record { is = suits; fields = refl; lines = no_parts parts long }
makes_reply op (Cut Lost) parts is suits each long = record { is = suits; fields = refl; lines = no_parts parts long }
makes_reply op (Cut Read) parts is suits each long = record { is = suits; fields = refl; lines = no_parts parts long }
makes_reply op Unstarted parts is suits each long = record { is = tt; fields = refl; lines = no_parts parts long }

-- ---- the next record

behind_two : (caller index : ℕ) (done : List Record) (q p : Record) → StandBehind caller index (done ++ q ∷ []) →
    (StandBehind caller index ((done ++ q ∷ []) ++ p ∷ []) ↔ StandBehind q.caller q.index (p ∷ []))
behind_two caller index [] q p stand = ((λ s. s.1), (λ s. (stand.0, s)))
behind_two caller index (r ∷ done) q p stand =
    let rest = behind_two r.caller r.index done q p stand.1 in ((λ s. rest.0 s.1), (λ s. (stand.0, rest.1 s)))

two_stand : (done : List Record) (q p : Record) → StandByCaller (done ++ q ∷ []) →
    (StandByCaller ((done ++ q ∷ []) ++ p ∷ []) ↔ StandBehind q.caller q.index (p ∷ []))
two_stand [] q p stand = ((λ s. s.1), (λ s. (stand.0, s)))
two_stand (r ∷ done) q p stand =
    let rest = behind_two r.caller r.index done q p stand.1 in ((λ s. rest.0 s.1), (λ s. (stand.0, rest.1 s)))

-- one call more of the same caller
comes_behind : (caller calls : ℕ) (q p : Record) (more : ℕ) → q.caller ≡ caller → q.index ≡ calls → more ≡ calls + 1 →
    (StandBehind q.caller q.index (p ∷ []) ↔ ComesNext caller more p)
comes_behind caller calls q p more callers numbers counts = (
  (λ s. elim s.0 as (λ s. ComesNext caller more p) [ inl a ↦ inl (a.0 ∙ callers, omega (arith, a.1, numbers, counts)) | inr a ↦ inr (omega (arith, a.0, callers), a.1) ]),
  (λ s. (
    elim s as (λ s. ((p.caller ≡ q.caller) × (p.index ≡ q.index + 1)) ⊎ ((q.caller < p.caller) × (p.index ≡ 0))) [
      | inl a ↦ inl (a.0 ∙ sym callers, omega (arith, a.1, numbers, counts))
      | inr a ↦ inr (omega (arith, a.0, callers), a.1)
    ],
    tt,
  )),
)

first_within : (count caller first : ℕ) (call : OpenCall) → first ≤ count → Begins count caller first call.caller call.first → call.first ≤ count
first_within count caller first call within (inl same) = omega (arith, within, same.1)
first_within count caller first call within (inr later) = omega (arith, later.1)

-- ---- a call with all its parts

abbrev pub record_made : Reading → OpenCall → List ScanPart → Record
record_made r call parts =
    record { caller = call.caller; index = length r.records.items - call.first; op = call.op; reply = reply_of call.answer parts }

-- what is the same but for the calls of the round
pub record Recorded (was : Reading) (call : OpenCall) (parts : List ScanPart) (now : Reading) : Type 0 where
  pub rounds : now.rounds.items ≡ was.rounds.items
  pub records : now.records.items ≡ was.records.items ++ record_made was call parts ∷ []
  pub caller : now.caller ≡ call.caller
  pub first : now.first ≡ call.first
  pub scan : now.scan ≡ was.scan
  pub parts_stay : now.parts.items ≡ was.parts.items

none_open : (r : Reading) → IsReading r → r.scan ≡ None → r.parts.items ≡ []
none_open r is closed = subst (λ (o : Option OpenCall). IsOpen r o r.parts.items) closed is.scan

arrange_call : (a b lines : Lines) → a ++ ((b ++ (lines ++ [])) ++ []) ≡ (a ++ (b ++ [])) ++ lines
arrange_call a b lines = simp (append_assoc, append-nil) refl

pub recorded : (was now : Reading) (call : OpenCall) (parts : List ScanPart) → IsReading was → was.scan ≡ None → IsCall was call →
    All IsReportPart parts → length parts ≡ count_of call.answer → Recorded was call parts now → HasRead was (call_fields call ∷ map part_fields parts) now
recorded was now call parts is closed comes each long made =
    let records = was.records.items in
    let q = record_made was call parts in
    let makes = makes_reply call.op call.answer parts comes.1.2 comes.1.3 each long in
    let is_q : IsReportRecord q = record { caller = comes.1.0; op = comes.1.1; reply = makes.is } in
    let stand = (is.next q).1 (call_comes records was.caller was.first call q comes.0 refl refl) in
    let within = first_within (length records) was.caller was.first call is.within comes.0 in
    let count : length (records ++ q ∷ []) ≡ length records + 1 = length-append records (q ∷ []) in
    let closed' : now.scan ≡ None = made.scan ∙ closed in
    let empty = none_open was is closed in
    let line : record_lines q ≡ call_fields call ∷ map part_fields parts =
    λ i. (decimal call.caller ∷ (op_fields call.op ++ codes "->" ∷ makes.fields i)) ∷ makes.lines i in
    record {
      is = record {
        rounds = subst (All IsReportRound) (sym made.rounds) is.rounds;
        records = subst (All IsReportRecord) (sym made.records) (All-push IsReportRecord records q is.records is_q);
        stand = subst StandByCaller (sym made.records) stand;
        within = omega (arith, made.first, within, ap length made.records, count);
        next = λ p.
            let two = two_stand records q p stand in
            let calls : length now.records.items - now.first ≡ (length records - call.first) + 1 = omega (arith, made.first, within, ap length made.records, count) in
            let behind = comes_behind now.caller (length records - call.first) q p (length now.records.items - now.first) (sym made.caller) refl calls in (
              (λ s. behind.0 (two.0 (subst (λ (rs : List Record). StandByCaller (rs ++ p ∷ [])) made.records s))),
              (λ s. subst (λ (rs : List Record). StandByCaller (rs ++ p ∷ [])) (sym made.records) (two.1 (behind.1 s))),
            );
        parts = subst (All IsReportPart) (sym made.parts_stay) is.parts;
        scan = subst (λ (o : Option OpenCall). IsOpen now o now.parts.items) (sym closed') (made.parts_stay ∙ empty);
      };
      more =
          ap (λ (o : Option OpenCall). report_lines now.rounds.items ++ (flat_map record_lines now.records.items ++ open_lines o now.parts.items)) closed'
          ∙ ap (λ (rounds : List RoundReport). report_lines rounds ++ (flat_map record_lines now.records.items ++ [])) made.rounds
          ∙ ap (λ (rs : List Record). report_lines was.rounds.items ++ (flat_map record_lines rs ++ [])) made.records
          ∙ ap (λ (l : Lines). report_lines was.rounds.items ++ (l ++ [])) (flat_map-append record_lines records (q ∷ []))
          ∙ ap (λ (l : Lines). report_lines was.rounds.items ++ ((flat_map record_lines records ++ (l ++ [])) ++ [])) line
          ∙ arrange_call (report_lines was.rounds.items) (flat_map record_lines records) (call_fields call ∷ map part_fields parts)
          ∙ ap (λ (o : Option OpenCall). (report_lines was.rounds.items ++ (flat_map record_lines records ++ open_lines o was.parts.items)) ++ call_fields call ∷ map part_fields parts) (sym closed);
    }

-- ---- the end of a round

zero_or_more : (n : ℕ) → (n ≡ 0) ⊎ (0 < n)
zero_or_more zero = inl refl
zero_or_more (suc n) = inr (omega arith)

first_next : (q : Record) → (StandByCaller (q ∷ []) ↔ ComesNext 0 0 q)
first_next q = (
  (λ s. elim (zero_or_more q.caller) as (λ z. ComesNext 0 0 q) [ inl z ↦ inl (z, s.0) | inr z ↦ inr (z, s.0) ]),
  (λ s. (elim s as (λ z. q.index ≡ 0) [ inl a ↦ a.1 | inr a ↦ a.1 ], tt)),
)

pub record Ended (was : Reading) (crashed : Bool) (writes names : ℕ) (now : Reading) : Type 0 where
  pub rounds : now.rounds.items ≡ was.rounds.items ++ record { records = was.records.items; crashed = crashed; writes = writes; names = names } ∷ []
  pub records : now.records.items ≡ []
  pub caller : now.caller ≡ 0
  pub first : now.first ≡ 0
  pub scan : now.scan ≡ was.scan
  pub parts_stay : now.parts.items ≡ was.parts.items

arrange_last : (a b : Lines) (last : List (List ℕ)) → (a ++ ((b ++ last ∷ []) ++ [])) ++ ([] ++ []) ≡ (a ++ (b ++ [])) ++ last ∷ []
arrange_last a b last = simp (append_assoc, append-nil) refl

pub ended : (was now : Reading) (crashed : Bool) (writes names : ℕ) → IsReading was → was.scan ≡ None → IsHead (Last crashed writes names) →
    Ended was crashed writes names now → HasRead was (head_fields (Last crashed writes names) ∷ []) now
ended was now crashed writes names is closed head made =
    let round : RoundReport = record { records = was.records.items; crashed = crashed; writes = writes; names = names } in
    let is_round : IsReportRound round = record { records = is.records; by_caller = is.stand; writes = head.0; names = head.1 } in
    let closed' : now.scan ≡ None = made.scan ∙ closed in
    let calls : length now.records.items - now.first ≡ 0 = omega (arith, made.first, ap length made.records) in
    record {
      is = record {
        rounds = subst (All IsReportRound) (sym made.rounds) (All-push IsReportRound was.rounds.items round is.rounds is_round);
        records = subst (All IsReportRecord) (sym made.records) (All-nil IsReportRecord);
        stand = subst StandByCaller (sym made.records) tt;
        within = omega (arith, made.first);
        next = λ q.
            let first = first_next q in (
              (λ s. subst (λ (c : ℕ). ComesNext c (length now.records.items - now.first) q) (sym made.caller)
                  (subst (λ (n : ℕ). ComesNext 0 n q) (sym calls) (first.0 (subst (λ (rs : List Record). StandByCaller (rs ++ q ∷ [])) made.records s)))),
              (λ s. subst (λ (rs : List Record). StandByCaller (rs ++ q ∷ [])) (sym made.records)
                  (first.1 (subst (λ (n : ℕ). ComesNext 0 n q) calls (subst (λ (c : ℕ). ComesNext c (length now.records.items - now.first) q) made.caller s)))),
            );
        parts = subst (All IsReportPart) (sym made.parts_stay) is.parts;
        scan = subst (λ (o : Option OpenCall). IsOpen now o now.parts.items) (sym closed') (made.parts_stay ∙ none_open was is closed);
      };
      more =
          ap (λ (o : Option OpenCall). report_lines now.rounds.items ++ (flat_map record_lines now.records.items ++ open_lines o now.parts.items)) closed'
          ∙ ap (λ (rs : List Record). report_lines now.rounds.items ++ (flat_map record_lines rs ++ [])) made.records
          ∙ ap (λ (rounds : List RoundReport). report_lines rounds ++ ([] ++ [])) made.rounds
          ∙ ap (λ (l : Lines). l ++ ([] ++ [])) (flat_map-append round_lines was.rounds.items (round ∷ []))
          ∙ arrange_last (report_lines was.rounds.items) (flat_map record_lines was.records.items) (last_fields round)
          ∙ ap (λ (o : Option OpenCall). (report_lines was.rounds.items ++ (flat_map record_lines was.records.items ++ open_lines o was.parts.items)) ++ last_fields round ∷ []) (sym closed);
    }

-- ---- a call whose parts come

pub record Beside (was now : Reading) : Type 0 where
  pub rounds : now.rounds.items ≡ was.rounds.items
  pub records : now.records.items ≡ was.records.items
  pub caller : now.caller ≡ was.caller
  pub first : now.first ≡ was.first

-- the rest of what is known stays
beside_is : (was now : Reading) → IsReading was → Beside was now → All IsReportPart now.parts.items → IsOpen now now.scan now.parts.items → IsReading now
beside_is was now is same parts opened = record {
  rounds = subst (All IsReportRound) (sym same.rounds) is.rounds;
  records = subst (All IsReportRecord) (sym same.records) is.records;
  stand = subst StandByCaller (sym same.records) is.stand;
  within = omega (arith, is.within, same.first, ap length same.records);
  next = λ q.
      let calls : length now.records.items - now.first ≡ length was.records.items - was.first = omega (arith, same.first, ap length same.records) in
      let next = is.next q in (
        (λ s. subst (λ (c : ℕ). ComesNext c (length now.records.items - now.first) q) (sym same.caller)
            (subst (λ (n : ℕ). ComesNext was.caller n q) (sym calls) (next.0 (subst (λ (rs : List Record). StandByCaller (rs ++ q ∷ [])) same.records s)))),
        (λ s. subst (λ (rs : List Record). StandByCaller (rs ++ q ∷ [])) (sym same.records)
            (next.1 (subst (λ (n : ℕ). ComesNext was.caller n q) calls (subst (λ (c : ℕ). ComesNext c (length now.records.items - now.first) q) same.caller s)))),
      );
  parts = parts;
  scan = opened;
}

call_beside : (was now : Reading) (call : OpenCall) → Beside was now → IsCall was call → IsCall now call
call_beside was now call same comes = (
  subst (λ (n : ℕ). Begins n now.caller now.first call.caller call.first) (ap length (sym same.records))
      (subst (λ (c : ℕ). Begins (length was.records.items) c now.first call.caller call.first) (sym same.caller)
      (subst (λ (f : ℕ). Begins (length was.records.items) was.caller f call.caller call.first) (sym same.first) comes.0)),
  comes.1,
)

lines_beside : (was now : Reading) (o : Option OpenCall) (parts : List ScanPart) → Beside was now → now.scan ≡ o → now.parts.items ≡ parts →
    lines_read now ≡ report_lines was.rounds.items ++ (flat_map record_lines was.records.items ++ open_lines o parts)
lines_beside was now o parts same scan_is parts_are =
    ap (λ (rounds : List RoundReport). report_lines rounds ++ (flat_map record_lines now.records.items ++ open_lines now.scan now.parts.items)) same.rounds
    ∙ ap (λ (rs : List Record). report_lines was.rounds.items ++ (flat_map record_lines rs ++ open_lines now.scan now.parts.items)) same.records
    ∙ ap (λ (o : Option OpenCall). report_lines was.rounds.items ++ (flat_map record_lines was.records.items ++ open_lines o now.parts.items)) scan_is
    ∙ ap (λ (ps : List ScanPart). report_lines was.rounds.items ++ (flat_map record_lines was.records.items ++ open_lines o ps)) parts_are

arrange_more : (a b c d : Lines) → a ++ (b ++ (c ++ d)) ≡ (a ++ (b ++ c)) ++ d
arrange_more a b c d = simp append_assoc refl

pub opens : (was now : Reading) (call : OpenCall) → IsReading was → was.scan ≡ None → IsCall was call → (count_of call.answer ≡ 0 → ⊥) → Beside was now →
    now.scan ≡ Some call → now.parts.items ≡ was.parts.items → HasRead was (call_fields call ∷ []) now
opens was now call is closed comes some same scan_is parts_stay =
    let empty = parts_stay ∙ none_open was is closed in
    let more : length now.parts.items < count_of call.answer = elim (zero_or_more (count_of call.answer)) as (λ z. length now.parts.items < count_of call.answer) [
      | inl none ↦ absurd (some none)
      | inr more ↦ omega (arith, more, ap length empty)
    ] in
    record {
      is = beside_is was now is same (subst (All IsReportPart) (sym parts_stay) is.parts)
          (subst (λ (o : Option OpenCall). IsOpen now o now.parts.items) (sym scan_is) (call_beside was now call same comes, more));
      more =
          lines_beside was now (Some call) [] same scan_is empty
          ∙ arrange_more (report_lines was.rounds.items) (flat_map record_lines was.records.items) [] (call_fields call ∷ [])
          ∙ ap (λ (o : Option OpenCall). (report_lines was.rounds.items ++ (flat_map record_lines was.records.items ++ open_lines o was.parts.items)) ++ call_fields call ∷ []) (sym closed);
    }

-- what is open
open_is : (r : Reading) (call : OpenCall) → IsReading r → r.scan ≡ Some call → IsCall r call × (length r.parts.items < count_of call.answer)
open_is r call is scan_is = subst (λ (o : Option OpenCall). IsOpen r o r.parts.items) scan_is is.scan

-- one part more
pub part_added : (was now : Reading) (call : OpenCall) (part : ScanPart) (fields : List (List ℕ)) → IsReading was → was.scan ≡ Some call → SaysPart fields part → Beside was now →
    now.scan ≡ Some call → now.parts.items ≡ was.parts.items ++ part ∷ [] → length now.parts.items < count_of call.answer → HasRead was (fields ∷ []) now
part_added was now call part fields is scan_is says same stays parts_are less =
    let opened = open_is was call is scan_is in
    let lines : map part_fields (was.parts.items ++ part ∷ []) ≡ map part_fields was.parts.items ++ fields ∷ [] =
    map-append part_fields was.parts.items (part ∷ []) ∙ ap (λ (l : List (List ℕ)). map part_fields was.parts.items ++ l ∷ []) (sym says.1) in
    record {
      is = beside_is was now is same (subst (All IsReportPart) (sym parts_are) (All-push IsReportPart was.parts.items part is.parts says.0))
          (subst (λ (o : Option OpenCall). IsOpen now o now.parts.items) (sym stays) (call_beside was now call same opened.0, less));
      more =
          lines_beside was now (Some call) (was.parts.items ++ part ∷ []) same stays parts_are
          ∙ ap (λ (l : Lines). report_lines was.rounds.items ++ (flat_map record_lines was.records.items ++ call_fields call ∷ l)) lines
          ∙ arrange_more (report_lines was.rounds.items) (flat_map record_lines was.records.items) (call_fields call ∷ map part_fields was.parts.items) (fields ∷ [])
          ∙ ap (λ (o : Option OpenCall). (report_lines was.rounds.items ++ (flat_map record_lines was.records.items ++ open_lines o was.parts.items)) ++ fields ∷ []) (sym scan_is);
    }

-- the same without the open call
pub record Shut (was now : Reading) (call : OpenCall) : Type 0 where
  pub is : IsReading now
  pub comes : IsCall now call
  pub lines : lines_read was ≡ lines_read now ++ call_fields call ∷ map part_fields was.parts.items

pub shut : (was now : Reading) (call : OpenCall) → IsReading was → was.scan ≡ Some call → Beside was now → now.scan ≡ None → now.parts.items ≡ [] → Shut was now call
shut was now call is scan_is same closed empty =
    let opened = open_is was call is scan_is in record {
      is = beside_is was now is same (subst (All IsReportPart) (sym empty) (All-nil IsReportPart))
          (subst (λ (o : Option OpenCall). IsOpen now o now.parts.items) (sym closed) empty);
      comes = call_beside was now call same opened.0;
      lines =
          ap (λ (o : Option OpenCall). report_lines was.rounds.items ++ (flat_map record_lines was.records.items ++ open_lines o was.parts.items)) scan_is
          ∙ arrange_more (report_lines was.rounds.items) (flat_map record_lines was.records.items) [] (call_fields call ∷ map part_fields was.parts.items)
          ∙ ap (λ (l : Lines). l ++ call_fields call ∷ map part_fields was.parts.items) (sym (lines_beside was now None [] same closed empty));
    }

-- the last part
pub last_part : (was mid now : Reading) (call : OpenCall) (part : ScanPart) (fields : List (List ℕ)) → Shut was mid call → SaysPart fields part →
    HasRead mid (call_fields call ∷ map part_fields (was.parts.items ++ part ∷ [])) now → HasRead was (fields ∷ []) now
last_part was mid now call part fields shut says read =
    let lines : map part_fields (was.parts.items ++ part ∷ []) ≡ map part_fields was.parts.items ++ fields ∷ [] =
    map-append part_fields was.parts.items (part ∷ []) ∙ ap (λ (l : List (List ℕ)). map part_fields was.parts.items ++ l ∷ []) (sym says.1) in
    record {
      is = read.is;
      more =
          read.more ∙ ap (λ (l : Lines). lines_read mid ++ call_fields call ∷ l) lines
          ∙ sym (append_assoc (lines_read mid) (call_fields call ∷ map part_fields was.parts.items) (fields ∷ []))
          ∙ ap (λ (l : Lines). l ++ fields ∷ []) (sym shut.lines);
    }

pub all_parts : (was : Reading) (call : OpenCall) (parts : List ScanPart) (part : ScanPart) → IsReading was → was.scan ≡ Some call → parts ≡ was.parts.items ++ part ∷ [] →
    (length parts < count_of call.answer → ⊥) → length parts ≡ count_of call.answer
all_parts was call parts part is scan_is parts_are all =
    let opened = open_is was call is scan_is in
    let long = ap length parts_are ∙ length-append was.parts.items (part ∷ []) in
    at_most (length parts) (count_of call.answer) (omega (arith, opened.1, long)) all where
      at_most : (m n : ℕ) → m ≤ n → (m < n → ⊥) → m ≡ n
      at_most zero zero less un = refl
      at_most zero (suc n) less un = absurd (un (omega arith))
      at_most (suc m) zero less un = absurd (omega (arith, less))
      at_most (suc m) (suc n) less un = ap suc (at_most m n (omega (arith, less)) (λ l. un (omega (arith, l))))

-- ---- lines that may come

head_behind : (r : Reading) (fields : List (List ℕ)) → MayComeBehind r None fields → (head : Head) × SaysHead fields head
head_behind r fields (inl (q, is, stand, line)) =
    let tells = tells_reply q.op q.reply is.reply in (
      Call q.caller q.op (answer_of q.reply),
      (
        (is.caller, is.op, tells.is, tells.suits),
        line ∙ ap (λ (l : List (List ℕ)). decimal q.caller ∷ (op_fields q.op ++ codes "->" ∷ l)) (sym tells.fields),
      ),
    )
head_behind r fields (inr (round, is, line)) = (Last round.crashed round.writes round.names, ((is.writes, is.names), line))

pub head_comes : (r : Reading) (fields : List (List ℕ)) → r.scan ≡ None → MayCome r fields → (head : Head) × SaysHead fields head
head_comes r fields closed may = head_behind r fields (subst (λ (o : Option OpenCall). MayComeBehind r o fields) closed may)

callers_rise : (caller calls : ℕ) (q : Record) → ComesNext caller calls q → caller ≤ q.caller
callers_rise caller calls q (inl same) = omega (arith, same.0)
callers_rise caller calls q (inr later) = omega (arith, later.0)

late_behind : (r : Reading) (caller : ℕ) (more fields : List (List ℕ)) → IsReading r → caller < 16 → caller < r.caller → fields ≡ decimal caller ∷ more →
    MayComeBehind r None fields → ⊥
late_behind r caller more fields is few late line (inl (q, is_q, stand, line')) =
    let low : q.caller < 2 ^ 64 = omega (arith, is_q.caller) in
    let low' : caller < 2 ^ 64 = omega (arith, few) in
    let same = decimal_injective q.caller caller low low' (ap (λ (l : List (List ℕ)). get_or l 0 []) (sym line' ∙ line)) in
    omega (arith, same, late, callers_rise r.caller (length r.records.items - r.first) q ((is.next q).0 stand))
late_behind r caller more fields is few late line (inr (round, is_round, line')) =
    let low' : caller < 2 ^ 64 = omega (arith, few) in
    let e : get_or (end_word round.crashed) 0 0 ≡ get_or (decimal caller) 0 0 = ap lead (sym line' ∙ line) in
    omega (arith, e, end_begins round.crashed, number_begins caller low')

pub late_caller : (r : Reading) (caller : ℕ) (more fields : List (List ℕ)) → IsReading r → r.scan ≡ None → caller < 16 → caller < r.caller → fields ≡ decimal caller ∷ more →
    ¬ MayCome r fields
late_caller r caller more fields is closed few late line may =
    late_behind r caller more fields is few late line (subst (λ (o : Option OpenCall). MayComeBehind r o fields) closed may)

-- ---- the end

pub whole_is : (r : Reading) → IsReading r → r.scan ≡ None → r.records.items ≡ [] → 1 ≤ length r.rounds.items → IsReport r.rounds.items × (lines_read r ≡ report_lines r.rounds.items)
whole_is r is closed empty some = (
  record { some = some; rounds = is.rounds },
  ap (λ (o : Option OpenCall). report_lines r.rounds.items ++ (flat_map record_lines r.records.items ++ open_lines o r.parts.items)) closed
      ∙ ap (λ (rs : List Record). report_lines r.rounds.items ++ (flat_map record_lines rs ++ [])) empty ∙ append-nil (report_lines r.rounds.items),
)

no_rounds : (report : List RoundReport) → 1 ≤ length report → [] ≡ report_lines report → ⊥
no_rounds [] some same = omega (arith, some)
no_rounds (a ∷ report) some same =
    let lines = same ∙ split_round a report in
    omega (arith, ap length lines, length-append (flat_map record_lines a.records) (last_fields a ∷ report_lines report))

some_rounds : (rounds report : List RoundReport) → report_lines rounds ≡ report_lines report → 1 ≤ length report → 1 ≤ length rounds
some_rounds [] report same some = absurd (no_rounds report some same)
some_rounds (a ∷ rounds) report same some = omega arith

pub record HasEnded (r : Reading) : Type 0 where
  pub closed : r.scan ≡ None
  pub empty : r.records.items ≡ []
  pub some : 1 ≤ length r.rounds.items

pub has_ended : (r : Reading) (report : List RoundReport) → IsReading r → IsReport report → lines_read r ≡ report_lines report → HasEnded r
has_ended r report is whole same = by_next (goes_on r report [] is whole (sym same ∙ sym (append-nil (lines_read r)))) where
  by_next : Next r [] → HasEnded r
  by_next (inl end) =
      let lines : lines_read r ≡ report_lines r.rounds.items =
      ap (λ (o : Option OpenCall). report_lines r.rounds.items ++ (flat_map record_lines r.records.items ++ open_lines o r.parts.items)) end.2
      ∙ ap (λ (rs : List Record). report_lines r.rounds.items ++ (flat_map record_lines rs ++ [])) end.1 ∙ append-nil (report_lines r.rounds.items) in
      record { closed = end.2; empty = end.1; some = some_rounds r.rounds.items report (sym lines ∙ same) whole.some }
  by_next (inr (line, more, nothing, may)) = absurd (omega (arith, ap length nothing))
