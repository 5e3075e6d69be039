-- A report has one text, and a text is that of one report at most.
use Rattle.std.proofs.Common.{◌≡◌, ℕ, ◌+◌, ◌^◌, ◌<◌, ◌⊎◌, inl, inr, Bool, true, false, List, [], ◌∷◌, ◌++◌, Option, Some, None, length, get_or, drop, map, decimal, flat_map, codes, refl, sym, ap, ◌∙◌, arith, append_assoc, length-append}
use Rattle.std.proofs.lemmas.Fmt.{decimal_injective}
use Rattle.std.proofs.lemmas.List.Elements.{recursion_from_All}
use Rattle.std.specs.List.{AllByRecursion}
use Rattle.std.specs.Prelude.{IfSome}
use Rattle.cat_key.specs.declared.Pair.{Pair}
use Rattle.cat_history.specs.declared.op.Op.{Op}
use Rattle.cat_history.specs.declared.op.Op.TheVariants.{Put, Get, Del, Scan}
use Rattle.cat_history.specs.declared.record.CutMark.{CutMark}
use Rattle.cat_history.specs.declared.record.CutMark.TheVariants.{At, Open, Found, Lost, Read}
use Rattle.cat_history.specs.declared.record.Record.{Record}
use Rattle.cat_history.specs.declared.record.Reply.{Reply}
use Rattle.cat_history.specs.declared.record.Reply.TheVariants.{Old, Parts, Full, Spent, Cut, Unstarted}
use Rattle.cat_history.specs.declared.record.ScanPart.{ScanPart}
use Rattle.cat_key.specs.Names.{IsName}
use Rattle.cat_text.specs.Reports.{end_word, old_text}
use Rattle.cat_text.specs.ReportLines.{op_fields, reply_fields, mark_fields, record_fields, high_fields, pair_fields, part_fields, place_field, reply_lines, record_lines, last_fields, round_lines, report_lines}
use Rattle.cat_text.specs.ReportGrammar.{IsReportOp, IsReportPair, IsReportPart, IsReportMark, IsReportReply, IsReportRecord, IsReportRound, StandBehind, StandByCaller, HasItsText, HasOneText, IsOneReportAtMost}
use Rattle.cat_text.specs.declared.report.RoundReport.{RoundReport}
use Rattle.cat_text.proofs.FieldLemmas.{IsField, IsLine, all_append, name_is_field, number_is_field, apart, number_begins, lines_one}
use Rattle.cat_text.proofs.ReplyLaws.{lead, record_one}
use Rattle.cat_text.proofs.ReportTexts.{report_text_is}

-- the lines of a report have fields

op_has_fields : (op : Op) → IsReportOp op → AllByRecursion IsField (op_fields op)
op_has_fields (Put name value) is = (search arith, (name_is_field name is.0, (number_is_field value is.1, tt)))
op_has_fields (Get name) is = (search arith, (name_is_field name is, tt))
op_has_fields (Del name) is = (search arith, (name_is_field name is, tt))
op_has_fields (Scan from count) is = (search arith, (name_is_field from is.0, (number_is_field count is.1, tt)))

old_is_field : (old : Option ℕ) → IfSome old (λ value. value < 2 ^ 64) → IsField (old_text old)
old_is_field None is = search arith
old_is_field (Some value) is = number_is_field value is

place_is_field : (place : ℕ) → place < 2 ^ 64 → IsField (place_field place)
place_is_field place small = (omega arith, number_is_field place small)

mark_has_fields : (op : Op) (mark : CutMark) → IsReportMark op mark → AllByRecursion IsField (mark_fields mark)
mark_has_fields op (At place) is = (place_is_field place is.1, tt)
mark_has_fields op Open is = tt
mark_has_fields op Found is = (search arith, tt)
mark_has_fields op Lost is = (search arith, tt)
mark_has_fields op Read is = tt

reply_has_fields : (op : Op) (reply : Reply) → IsReportReply op reply → AllByRecursion IsField (reply_fields reply)
reply_has_fields op (Old old place) is = (old_is_field old is.1, (place_is_field place is.2, tt))
reply_has_fields op (Parts parts false) is = (number_is_field (length parts) is.2, (search arith, tt))
reply_has_fields op (Parts parts true) is = (number_is_field (length parts) is.2, (search arith, (search arith, tt)))
reply_has_fields op Full is = (search arith, tt)
reply_has_fields op (Spent clock) is = (search arith, (number_is_field clock is.1, tt))
reply_has_fields op (Cut mark) is = (search arith, mark_has_fields op mark is)
reply_has_fields op Unstarted is = (search arith, tt)

high_has_fields : (high : Option (List ℕ)) → IfSome high IsName → AllByRecursion IsField (high_fields high)
high_has_fields None is = (search arith, tt)
high_has_fields (Some high) is = (search arith, (name_is_field high is, tt))

pairs_have_fields : (pairs : List Pair) → AllByRecursion IsReportPair pairs → AllByRecursion IsField (flat_map pair_fields pairs)
pairs_have_fields [] is = tt
pairs_have_fields (pair ∷ pairs) is = (name_is_field pair.name is.0.0, (number_is_field pair.value is.0.1, pairs_have_fields pairs is.1))

pub part_is_line : (part : ScanPart) → IsReportPart part → IsLine (part_fields part)
part_is_line part is =
    let listed = pairs_have_fields part.pairs (recursion_from_All IsReportPair part.pairs is.pairs) in (
      search arith,
      (
        name_is_field part.low is.low,
        all_append IsField (high_fields part.high) (place_field part.place ∷ flat_map pair_fields part.pairs)
            (high_has_fields part.high is.high) (place_is_field part.place is.place, listed),
      ),
    )

parts_are_lines : (parts : List ScanPart) → AllByRecursion IsReportPart parts → AllByRecursion IsLine (map part_fields parts)
parts_are_lines [] is = tt
parts_are_lines (part ∷ parts) is = (part_is_line part is.0, parts_are_lines parts is.1)

reply_has_lines : (op : Op) (reply : Reply) → IsReportReply op reply → AllByRecursion IsLine (reply_lines reply)
reply_has_lines op (Old old place) is = tt
reply_has_lines op (Parts parts cut) is = parts_are_lines parts (recursion_from_All IsReportPart parts is.1)
reply_has_lines op Full is = tt
reply_has_lines op (Spent clock) is = tt
reply_has_lines op (Cut mark) is = tt
reply_has_lines op Unstarted is = tt

pub record_is_line : (r : Record) → IsReportRecord r → IsLine (record_fields r)
record_is_line r is =
    let low : r.caller < 2 ^ 64 = omega (arith, is.caller) in (
      number_is_field r.caller low,
      all_append IsField (op_fields r.op) (codes "->" ∷ reply_fields r.reply)
          (op_has_fields r.op is.op) (search arith, reply_has_fields r.op r.reply is.reply),
    )

records_have_lines : (records : List Record) → AllByRecursion IsReportRecord records → AllByRecursion IsLine (flat_map record_lines records)
records_have_lines [] is = tt
records_have_lines (r ∷ records) is =
    (record_is_line r is.0, all_append IsLine (reply_lines r.reply) (flat_map record_lines records) (reply_has_lines r.op r.reply is.0.reply) (records_have_lines records is.1))

end_is_field : (crashed : Bool) → IsField (end_word crashed)
end_is_field false = search arith
end_is_field true = search arith

pub last_is_line : (round : RoundReport) → IsReportRound round → IsLine (last_fields round)
last_is_line round is = (end_is_field round.crashed, (number_is_field round.writes is.writes, (search arith, (number_is_field round.names is.names, tt))))

pub rounds_have_lines : (rounds : List RoundReport) → AllByRecursion IsReportRound rounds → AllByRecursion IsLine (report_lines rounds)
rounds_have_lines [] is = tt
rounds_have_lines (round ∷ rounds) is =
    all_append IsLine (round_lines round) (report_lines rounds)
    (all_append IsLine (flat_map record_lines round.records) (last_fields round ∷ [])
    (records_have_lines round.records (recursion_from_All IsReportRecord round.records is.0.records)) (last_is_line round is.0, tt))
    (rounds_have_lines rounds is.1)

pub end_begins : (crashed : Bool) → 57 < get_or (end_word crashed) 0 0
end_begins false = omega arith
end_begins true = omega arith

-- of two calls of one caller, each behind the same one, both have the same index
pub index_one : (caller caller' index index' : ℕ) (r q : Record) → caller ≡ caller' → index ≡ index' → r.caller ≡ q.caller →
    ((r.caller ≡ caller) × (r.index ≡ index + 1)) ⊎ ((caller < r.caller) × (r.index ≡ 0)) →
    ((q.caller ≡ caller') × (q.index ≡ index' + 1)) ⊎ ((caller' < q.caller) × (q.index ≡ 0)) → r.index ≡ q.index
index_one caller caller' index index' r q callers indexes same (inl a) (inl b) = omega (arith, indexes, a.1, b.1)
index_one caller caller' index index' r q callers indexes same (inl a) (inr b) = absurd (omega (arith, callers, same, a.0, b.0))
index_one caller caller' index index' r q callers indexes same (inr a) (inl b) = absurd (omega (arith, callers, same, a.0, b.0))
index_one caller caller' index index' r q callers indexes same (inr a) (inr b) = omega (arith, a.1, b.1)

-- the line of a call is no last line
pub not_last : (r : Record) (round : RoundReport) (x y : List (List (List ℕ))) → IsReportRecord r → record_lines r ++ x ≡ last_fields round ∷ y → ⊥
not_last r round x y is same =
    let e : get_or (decimal r.caller) 0 0 ≡ get_or (end_word round.crashed) 0 0 = ap (λ (l : List (List (List ℕ))). lead (get_or l 0 [])) same in
    let low : r.caller < 2 ^ 64 = omega (arith, is.caller) in
    omega (arith, e, number_begins r.caller low, end_begins round.crashed)

-- the last lines of two rounds
pub last_one : (a b : RoundReport) → IsReportRound a → IsReportRound b → last_fields a ≡ last_fields b → (a.crashed ≡ b.crashed) × (a.writes ≡ b.writes) × (a.names ≡ b.names)
last_one a b is is' same =
    let words : end_word a.crashed ≡ end_word b.crashed = ap (λ (l : List (List ℕ)). get_or l 0 []) same in
    let writes = decimal_injective a.writes b.writes is.writes is'.writes (ap (λ (l : List (List ℕ)). get_or l 1 []) same) in
    let names = decimal_injective a.names b.names is.names is'.names (ap (λ (l : List (List ℕ)). get_or l 3 []) same) in
    (end_one a.crashed b.crashed words, writes, names) where
      end_one : (a b : Bool) → end_word a ≡ end_word b → a ≡ b
      end_one false false same = refl
      end_one false true same = absurd (apart 4 5 (ap length same) (inl (omega arith)))
      end_one true false same = absurd (apart 5 4 (ap length same) (inr (omega arith)))
      end_one true true same = refl

-- what is told by the lines of records up to a last line, and behind it
abbrev Told : List Record → List Record → RoundReport → RoundReport → List (List (List ℕ)) → List (List (List ℕ)) → Type 0
Told rs qs a b x y = (rs ≡ qs) × (last_fields a ≡ last_fields b) × (x ≡ y)

abbrev record_tail : Record → List Record → RoundReport → List (List (List ℕ)) → List (List (List ℕ))
record_tail r rs a x = flat_map record_lines rs ++ last_fields a ∷ x

pub split : (r : Record) (rs : List Record) (a : RoundReport) (x : List (List (List ℕ))) →
    flat_map record_lines (r ∷ rs) ++ last_fields a ∷ x ≡ record_lines r ++ (flat_map record_lines rs ++ last_fields a ∷ x)
split r rs a x = append_assoc (record_lines r) (flat_map record_lines rs) (last_fields a ∷ x)

records_one : (caller caller' index index' : ℕ) (rs qs : List Record) (a b : RoundReport) (x y : List (List (List ℕ))) → caller ≡ caller' → index ≡ index' →
    StandBehind caller index rs → StandBehind caller' index' qs → AllByRecursion IsReportRecord rs → AllByRecursion IsReportRecord qs →
    flat_map record_lines rs ++ last_fields a ∷ x ≡ flat_map record_lines qs ++ last_fields b ∷ y → Told rs qs a b x y
records_one c c' i i' [] [] a b x y callers indexes stand stand' is is' same = (refl, ap (λ (l : List (List (List ℕ))). get_or l 0 []) same, ap (drop 1) same)
records_one c c' i i' [] (q ∷ qs) a b x y callers indexes stand stand' is is' same =
    absurd (not_last q a (flat_map record_lines qs ++ last_fields b ∷ y) x is'.0 (sym (split q qs b y) ∙ sym same))
records_one c c' i i' (r ∷ rs) [] a b x y callers indexes stand stand' is is' same =
    absurd (not_last r b (flat_map record_lines rs ++ last_fields a ∷ x) y is.0 (sym (split r rs a x) ∙ same))
records_one c c' i i' (r ∷ rs) (q ∷ qs) a b x y callers indexes stand stand' is is' same =
    let first = record_one r q (flat_map record_lines rs ++ last_fields a ∷ x) (flat_map record_lines qs ++ last_fields b ∷ y) is.0 is'.0 (sym (split r rs a x) ∙ same ∙ split q qs b y) in
    let numbers = index_one c c' i i' r q callers indexes first.caller stand.0 stand'.0 in
    let rest = records_one r.caller q.caller r.index q.index rs qs a b x y first.caller numbers stand.1 stand'.1 is.1 is'.1 first.rest in
    ((λ j. record { caller = first.caller j; index = numbers j; op = first.op j; reply = first.reply j } ∷ rest.0 j), rest.1, rest.2)

-- the same from a round's first record on
pub all_records_one : (rs qs : List Record) (a b : RoundReport) (x y : List (List (List ℕ))) →
    StandByCaller rs → StandByCaller qs → AllByRecursion IsReportRecord rs → AllByRecursion IsReportRecord qs →
    flat_map record_lines rs ++ last_fields a ∷ x ≡ flat_map record_lines qs ++ last_fields b ∷ y → Told rs qs a b x y
all_records_one [] [] a b x y stand stand' is is' same = records_one 0 0 0 0 [] [] a b x y refl refl tt tt tt tt same
all_records_one [] (q ∷ qs) a b x y stand stand' is is' same =
    absurd (not_last q a (flat_map record_lines qs ++ last_fields b ∷ y) x is'.0 (sym (split q qs b y) ∙ sym same))
all_records_one (r ∷ rs) [] a b x y stand stand' is is' same =
    absurd (not_last r b (flat_map record_lines rs ++ last_fields a ∷ x) y is.0 (sym (split r rs a x) ∙ same))
all_records_one (r ∷ rs) (q ∷ qs) a b x y stand stand' is is' same =
    let first = record_one r q (flat_map record_lines rs ++ last_fields a ∷ x) (flat_map record_lines qs ++ last_fields b ∷ y) is.0 is'.0 (sym (split r rs a x) ∙ same ∙ split q qs b y) in
    let numbers = stand.0 ∙ sym stand'.0 in
    let rest = records_one r.caller q.caller r.index q.index rs qs a b x y first.caller numbers stand.1 stand'.1 is.1 is'.1 first.rest in
    ((λ j. record { caller = first.caller j; index = numbers j; op = first.op j; reply = first.reply j } ∷ rest.0 j), rest.1, rest.2)

pub split_round : (a : RoundReport) (more : List RoundReport) → report_lines (a ∷ more) ≡ flat_map record_lines a.records ++ last_fields a ∷ report_lines more
split_round a more = append_assoc (flat_map record_lines a.records) (last_fields a ∷ []) (report_lines more)

none : (front : List (List (List ℕ))) (line : List (List ℕ)) (more : List (List (List ℕ))) → [] ≡ front ++ line ∷ more → ⊥
none front line more same = omega (arith, ap length same, length-append front (line ∷ more))

rounds_one : (m n : List RoundReport) → AllByRecursion IsReportRound m → AllByRecursion IsReportRound n → report_lines m ≡ report_lines n → m ≡ n
rounds_one [] [] is is' same = refl
rounds_one [] (b ∷ n) is is' same = absurd (none (flat_map record_lines b.records) (last_fields b) (report_lines n) (same ∙ split_round b n))
rounds_one (a ∷ m) [] is is' same = absurd (none (flat_map record_lines a.records) (last_fields a) (report_lines m) (sym same ∙ split_round a m))
rounds_one (a ∷ m) (b ∷ n) is is' same =
    let here = all_records_one a.records b.records a b (report_lines m) (report_lines n) is.0.by_caller is'.0.by_caller
    (recursion_from_All IsReportRecord a.records is.0.records) (recursion_from_All IsReportRecord b.records is'.0.records) (sym (split_round a m) ∙ same ∙ split_round b n) in
    let last = last_one a b is.0 is'.0 here.1 in
    let rest = rounds_one m n is.1 is'.1 here.2 in
    λ i. record { records = here.0 i; crashed = last.0 i; writes = last.1 i; names = last.2 i } ∷ rest i

pub has_text : HasItsText
has_text rounds is = record { report = is; lines = sym (report_text_is rounds) }

pub one_text : HasOneText
one_text rounds a b is is' = is.lines ∙ sym is'.lines

pub one_report : IsOneReportAtMost
one_report bytes a b is is' =
    let each = recursion_from_All IsReportRound a is.report.rounds in
    let each' = recursion_from_All IsReportRound b is'.report.rounds in
    rounds_one a b each each' (lines_one (report_lines a) (report_lines b) (rounds_have_lines a each) (rounds_have_lines b each') (sym is.lines ∙ is'.lines))
