-- The text of a report is that of its lines.
use Rattle.std.proofs.Common.{◌≡◌, ℕ, true, false, List, [], ◌∷◌, ◌++◌, Option, Some, None, map, decimal, flat_map, codes, refl, ap, ap₂, ◌∙◌, append_assoc}
use Rattle.std.proofs.lemmas.List.{append-nil}
use Rattle.std.proofs.lemmas.List.Concat.{flat_map-append}
use Rattle.cat_key.specs.declared.Pair.{Pair}
use Rattle.cat_history.specs.declared.op.Op.{Op}
use Rattle.cat_history.specs.declared.op.Op.TheVariants.{Put, Get, Del, Scan}
use Rattle.cat_history.specs.declared.record.CutMark.TheVariants.{At, Open, Found, Lost, Read}
use Rattle.cat_history.specs.declared.record.Record.{Record}
use Rattle.cat_history.specs.declared.record.Reply.{Reply}
use Rattle.cat_history.specs.declared.record.Reply.TheVariants.{Old, Parts, Full, Spent, Cut, Unstarted}
use Rattle.cat_history.specs.declared.record.ScanPart.{ScanPart}
use Rattle.cat_text.specs.Reports.{op_text, reply_text, high_text, pair_text, part_line, listed_parts, record_line, record_text, last_line, round_text, report_text, end_word}
use Rattle.cat_text.specs.ReportLines.{line_text, op_fields, reply_fields, record_fields, high_fields, pair_fields, part_fields, place_field, record_lines, last_fields, round_lines, report_lines}
use Rattle.cat_text.specs.declared.report.RoundReport.{RoundReport}

-- fields, each behind a space
abbrev spaced : List (List ℕ) → List ℕ
spaced fields = flat_map (λ next. codes " " ++ next) fields

spaced-append : (fs gs : List (List ℕ)) → spaced (fs ++ gs) ≡ spaced fs ++ spaced gs
spaced-append fs gs = flat_map-append (λ next. codes " " ++ next) fs gs

op_spaced : (op : Op) → spaced (op_fields op) ≡ codes " " ++ op_text op
op_spaced (Put name value) = simp (append_assoc, append-nil) refl
op_spaced (Get name) = simp (append_assoc, append-nil) refl
op_spaced (Del name) = simp (append_assoc, append-nil) refl
op_spaced (Scan from count) = simp (append_assoc, append-nil) refl

reply_spaced : (reply : Reply) → spaced (reply_fields reply) ≡ codes " " ++ reply_text reply
reply_spaced (Old old place) = simp (append_assoc, append-nil) refl
reply_spaced (Parts parts false) = simp (append_assoc, append-nil) refl
reply_spaced (Parts parts true) = simp (append_assoc, append-nil) refl
reply_spaced Full = refl
reply_spaced (Spent clock) = simp (append_assoc, append-nil) refl
reply_spaced (Cut (At place)) = simp (append_assoc, append-nil) refl
reply_spaced (Cut Open) = refl
reply_spaced (Cut Found) = refl
reply_spaced (Cut Lost) = refl
reply_spaced (Cut Read) = refl
reply_spaced Unstarted = refl

record_line_is : (r : Record) → line_text (record_fields r) ≡ record_line r
record_line_is r =
    let middle : spaced (op_fields r.op ++ codes "->" ∷ reply_fields r.reply) ≡ (codes " " ++ op_text r.op) ++ (codes " ->" ++ (codes " " ++ reply_text r.reply)) =
    spaced-append (op_fields r.op) (codes "->" ∷ reply_fields r.reply) ∙ ap₂ (λ a b. a ++ (codes " ->" ++ b)) (op_spaced r.op) (reply_spaced r.reply) in
    ap (λ m. decimal r.caller ++ m ++ codes "\n") middle ∙ simp (append_assoc) refl

high_spaced : (high : Option (List ℕ)) → spaced (high_fields high) ≡ high_text high
high_spaced None = refl
high_spaced (Some high) = simp (append_assoc, append-nil) refl

pairs_spaced : (pairs : List Pair) → spaced (flat_map pair_fields pairs) ≡ flat_map pair_text pairs
pairs_spaced [] = refl
pairs_spaced (pair ∷ pairs) = ap (λ l. (codes " " ++ pair.name) ++ ((codes " " ++ decimal pair.value) ++ l)) (pairs_spaced pairs) ∙ simp (append_assoc) refl

arrange : (low high at place pairs end : List ℕ) → (low ++ (high ++ ((at ++ place) ++ pairs))) ++ end ≡ ((((low ++ high) ++ at) ++ place) ++ pairs) ++ end
arrange low high at place pairs end = simp append_assoc refl

part_line_is : (part : ScanPart) → line_text (part_fields part) ≡ part_line part
part_line_is part =
    let middle : spaced (high_fields part.high ++ place_field part.place ∷ flat_map pair_fields part.pairs) ≡
    high_text part.high ++ ((codes " @" ++ decimal part.place) ++ flat_map pair_text part.pairs) =
    spaced-append (high_fields part.high) (place_field part.place ∷ flat_map pair_fields part.pairs)
    ∙ ap₂ (λ a b. a ++ ((codes " @" ++ decimal part.place) ++ b)) (high_spaced part.high) (pairs_spaced part.pairs) in
    ap (λ m. codes "part" ++ ((codes " " ++ part.low) ++ m) ++ codes "\n") middle
    ∙ ap (λ l. codes "part " ++ l) (arrange part.low (high_text part.high) (codes " @") (decimal part.place) (flat_map pair_text part.pairs) (codes "\n"))

parts_are : (parts : List ScanPart) → flat_map line_text (map part_fields parts) ≡ flat_map part_line parts
parts_are [] = refl
parts_are (part ∷ parts) = ap₂ (λ a b. a ++ b) (part_line_is part) (parts_are parts)

records_are : (records : List Record) → flat_map line_text (flat_map record_lines records) ≡ flat_map record_text records
records_are [] = refl
records_are (r ∷ records) =
    flat_map-append line_text (record_lines r) (flat_map record_lines records)
    ∙ ap₂ (λ a b. a ++ b) (ap₂ (λ a b. a ++ b) (record_line_is r) (parts_are (listed_parts r.reply))) (records_are records)

arrange_last : (word space writes names count end : List ℕ) →
    (word ++ ((space ++ writes) ++ (names ++ (count ++ [])))) ++ end ≡ ((((word ++ space) ++ writes) ++ names) ++ count) ++ end
arrange_last word space writes names count end = simp (append_assoc, append-nil) refl

last_line_is : (round : RoundReport) → line_text (last_fields round) ≡ last_line round
last_line_is round = arrange_last (end_word round.crashed) (codes " ") (decimal round.writes) (codes " names ") (decimal round.names) (codes "\n")

round_is : (round : RoundReport) → flat_map line_text (round_lines round) ≡ round_text round
round_is round =
    flat_map-append line_text (flat_map record_lines round.records) (last_fields round ∷ [])
    ∙ ap₂ (λ a b. a ++ b) (records_are round.records) (append-nil (line_text (last_fields round)) ∙ last_line_is round)

pub report_text_is : (rounds : List RoundReport) → flat_map line_text (report_lines rounds) ≡ report_text rounds
report_text_is [] = refl
report_text_is (round ∷ rounds) =
    flat_map-append line_text (round_lines round) (report_lines rounds) ∙ ap₂ (λ a b. a ++ b) (round_is round) (report_text_is rounds)
