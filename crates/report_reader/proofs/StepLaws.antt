-- What the loop over the lines of a text has read.
use Rattle.std.proofs.Common.{◌≡◌, ℕ, zero, suc, ◌+◌, ◌<◌, ◌≤◌, inl, inr, List, [], ◌∷◌, ◌++◌, length, flat_map, codes, refl, sym, ap, subst, ◌∙◌, arith, append_assoc, append-nil, length-append}
use Rattle.std.proofs.lemmas.List.Concat.{flat_map-append}
use Rattle.std.proofs.lemmas.List.Elements.{recursion_from_All, All-push}
use Rattle.std.specs.List.{AllByRecursion}
use Rattle.std.specs.Prelude.{All, Result, Ok, Err, IfOk, IfErr}
use Rattle.cat_text.specs.ReportGrammar.{IsReport, IsReportText}
use Rattle.cat_text.specs.ReportLines.{report_lines, line_text}
use Rattle.cat_text.specs.Reports.{report_text}
use Rattle.cat_text.specs.declared.report.RoundReport.{RoundReport}
use Rattle.cat_text.proofs.ReportLaws.{has_text, one_text, one_report}
use Rattle.report_reader.specs.Faults.{IsLine, text_of_lines, BeginsText, GoesOutside, IsFirstOutside, IsRefusal, IsAnswered, fault_at}
use Rattle.report_reader.specs.Fields.{fields_of}
use Rattle.report_reader.specs.Laws.{OutsideIsNoText, IsOneFirstAtMost}
use Rattle.report_reader.specs.Parts.{FailsBy}
use Rattle.report_reader.specs.Reading.{IsReading, HasRead, MayCome, lines_read}
use Rattle.report_reader.specs.declared.fault.LineFault.{LineFault}
use Rattle.report_reader.specs.declared.fault.LineFault.TheVariants.{Outside, NoMemory}
use Rattle.report_reader.specs.declared.fault.ReportFault.{ReportFault}
use Rattle.report_reader.specs.declared.fault.ReportFault.TheVariants as fault
use Rattle.report_reader.specs.declared.reading.Reading.{Reading}
use Rattle.report_reader.proofs.FieldLaws.{NoFeed, cut_feed, no_feed_there}
use Rattle.report_reader.proofs.ReadLaws.{IsTextOf, text_begins, line_is_outside, rest_is_outside, text_more}

-- the lines before the one of this number were read, and this follows them
pub record IsReadTo (bytes rest : List ℕ) (number : ℕ) (r : Reading) : Type 0 where
  pub before : List (List ℕ)
  pub cut : bytes ≡ text_of_lines before ++ rest
  pub lines : All IsLine before
  pub counted : number ≡ length before + 1
  pub is : IsReading r
  pub text : IsTextOf (text_of_lines before) r
  pub short : number + length rest ≤ length bytes + 1

more_text : (before : List (List ℕ)) (line : List ℕ) → text_of_lines (before ++ line ∷ []) ≡ text_of_lines before ++ (line ++ codes "\n")
more_text before line =
    flat_map-append (λ (l : List ℕ). l ++ codes "\n") before (line ∷ []) ∙ ap (λ (t : List ℕ). text_of_lines before ++ t) (append-nil (line ++ codes "\n"))

pub read_on : (bytes rest line more : List ℕ) (number : ℕ) (was now : Reading) → IsReadTo bytes rest number was → rest ≡ line ++ 10 ∷ more → IsLine line →
    HasRead was (fields_of line ∷ []) now → IsReadTo bytes more (number + 1) now
read_on bytes rest line more number was now to cut is read =
    let longer = more_text to.before line in record {
      before = to.before ++ line ∷ [];
      cut = to.cut ∙ ap (λ (t : List ℕ). text_of_lines to.before ++ t) cut
          ∙ ap (λ (t : List ℕ). text_of_lines to.before ++ t) (sym (append_assoc line (codes "\n") more))
          ∙ sym (append_assoc (text_of_lines to.before) (line ++ codes "\n") more) ∙ ap (λ (t : List ℕ). t ++ more) (sym longer);
      lines = All-push IsLine to.before line to.lines is;
      counted = omega (arith, to.counted, length-append to.before (line ∷ []));
      is = read.is;
      text = longer ∙ text_more (text_of_lines to.before) line was now to.text read.more;
      short = omega (arith, to.short, ap length cut, length-append line (10 ∷ more));
    }

-- so it is the first line outside of a text where what follows is that
outside_here : (bytes rest : List ℕ) (number : ℕ) (r : Reading) (to : IsReadTo bytes rest number r) → GoesOutside to.before rest → IsFirstOutside bytes number
outside_here bytes rest number r to outside = record {
  before = to.before;
  rest = rest;
  cut = to.cut;
  lines = to.lines;
  counted = to.counted;
  begins = text_begins (text_of_lines to.before) r to.is to.text;
  outside = outside;
}

pub refuse_line : (bytes rest line more : List ℕ) (number : ℕ) (r : Reading) (why : LineFault) → IsReadTo bytes rest number r → rest ≡ line ++ 10 ∷ more → IsLine line →
    FailsBy (¬ MayCome r (fields_of line)) why → IsRefusal bytes (fault_at number why)
refuse_line bytes rest line more number r Outside to cut is fails = outside_here bytes rest number r to (inl (
  line,
  more,
  cut ∙ sym (append_assoc line (codes "\n") more),
  is,
  λ begins. line_is_outside (text_of_lines to.before) line r to.is to.text is fails (subst BeginsText (more_text to.before line) begins),
))
refuse_line bytes rest line more number r NoMemory to cut is fails = tt

pub refuse_rest : (bytes rest : List ℕ) (number : ℕ) (r : Reading) → IsReadTo bytes rest number r → IsLine rest →
    (rest ≡ [] → (report : List RoundReport) → IsReport report → lines_read r ≡ report_lines report → ⊥) → IsFirstOutside bytes number
refuse_rest bytes rest number r to is fails = outside_here bytes rest number r to (inr (is, rest_is_outside (text_of_lines to.before) rest r to.is to.text is fails))

pub accept : (bytes rest : List ℕ) (number : ℕ) (r : Reading) (report : List RoundReport) → IsReadTo bytes rest number r → rest ≡ [] →
    IsReport report → lines_read r ≡ report_lines report → IsReportText bytes report
accept bytes rest number r report to end is lines = record {
  report = is;
  lines = to.cut ∙ ap (λ (t : List ℕ). text_of_lines to.before ++ t) end ∙ append-nil (text_of_lines to.before) ∙ to.text ∙ ap (flat_map line_text) lines;
}

-- ---- laws

-- a text begins with what some text begins with that begins it
begins_less : (a b : List ℕ) → BeginsText (a ++ b) → BeginsText a
begins_less a b (rest, (report, is)) = (b ++ rest, (report, subst (λ (t : List ℕ). IsReportText t report) (append_assoc a b rest) is))

pub outside_is_no_text : OutsideIsNoText
outside_is_no_text bytes number is (report, text) = by_case is.outside where
  by_case : GoesOutside is.before is.rest → ⊥
  by_case (inl (line, more, cut, feedless, un)) =
      un (subst BeginsText (sym (more_text is.before line)) (
        more,
        (
          report,
          subst (λ (t : List ℕ). IsReportText t report) (is.cut ∙ ap (λ (t : List ℕ). text_of_lines is.before ++ t) cut
              ∙ sym (append_assoc (text_of_lines is.before) (line ++ codes "\n") more)) text,
        ),
      ))
  by_case (inr (feedless, un)) = un (report, subst (λ (t : List ℕ). IsReportText t report) is.cut text)

-- of two ways to cut a text into lines and a rest, the longer one begins with the shorter one
longer_begins : (before longer : List (List ℕ)) (rest rest' : List ℕ) → AllByRecursion NoFeed before → AllByRecursion NoFeed longer → length before < length longer →
    text_of_lines before ++ rest ≡ text_of_lines longer ++ rest' →
    (line : List ℕ) × (more : List (List ℕ)) × (longer ≡ before ++ line ∷ more) × (rest ≡ line ++ 10 ∷ (text_of_lines more ++ rest')) × NoFeed line
longer_begins before [] rest rest' each each' less same = absurd (omega (arith, less))
longer_begins [] (line ∷ more) rest rest' each each' less same =
    (line, more, refl, same ∙ append_assoc (line ++ codes "\n") (text_of_lines more) rest' ∙ append_assoc line (codes "\n") (text_of_lines more ++ rest'), each'.0)
longer_begins (a ∷ before) (b ∷ longer) rest rest' each each' less same =
    let here = cut_feed a b (text_of_lines before ++ rest) (text_of_lines longer ++ rest') each.0 each'.0
    (sym (append_assoc (a ++ codes "\n") (text_of_lines before) rest ∙ append_assoc a (codes "\n") (text_of_lines before ++ rest)) ∙ same
    ∙ append_assoc (b ++ codes "\n") (text_of_lines longer) rest' ∙ append_assoc b (codes "\n") (text_of_lines longer ++ rest')) in
    let rest_is = longer_begins before longer rest rest' each.1 each'.1 (omega (arith, less)) here.1 in
    let heads = sym here.0 in
    (rest_is.0, rest_is.1, (λ i. heads i ∷ rest_is.2 i), rest_is.3, rest_is.4)

feeds : (lines : List (List ℕ)) → AllByRecursion IsLine lines → AllByRecursion NoFeed lines
feeds [] each = tt
feeds (line ∷ lines) each = (recursion_from_All (λ b. b ≡ 10 → ⊥) line each.0, feeds lines each.1)

all_feeds : (lines : List (List ℕ)) → All IsLine lines → AllByRecursion NoFeed lines
all_feeds lines each = feeds lines (recursion_from_All IsLine lines each)

not_earlier : (bytes : List ℕ) (a b : ℕ) (is : IsFirstOutside bytes a) (is' : IsFirstOutside bytes b) → length is.before < length is'.before → ⊥
not_earlier bytes a b is is' less =
    let longer = longer_begins is.before is'.before is.rest is'.rest (all_feeds is.before is.lines) (all_feeds is'.before is'.lines) less (sym is.cut ∙ is'.cut) in
    by_case longer is.outside where
      by_case : ((line : List ℕ) × (more : List (List ℕ)) × (is'.before ≡ is.before ++ line ∷ more) × (is.rest ≡ line ++ 10 ∷ (text_of_lines more ++ is'.rest)) × NoFeed line) →
          GoesOutside is.before is.rest → ⊥
      by_case longer (inl (line, more, cut, feedless, un)) =
          let same = cut_feed longer.0 line (text_of_lines longer.1 ++ is'.rest) more longer.4 (recursion_from_All (λ b. b ≡ 10 → ⊥) line feedless)
          (sym longer.3 ∙ cut ∙ append_assoc line (codes "\n") more) in
          let text : text_of_lines is'.before ≡ text_of_lines (is.before ++ line ∷ []) ++ text_of_lines longer.1 =
          ap text_of_lines longer.2 ∙ flat_map-append (λ (l : List ℕ). l ++ codes "\n") is.before (longer.0 ∷ longer.1)
          ∙ sym (append_assoc (text_of_lines is.before) (longer.0 ++ codes "\n") (text_of_lines longer.1))
          ∙ ap (λ (l : List ℕ). (text_of_lines is.before ++ (l ++ codes "\n")) ++ text_of_lines longer.1) same.0
          ∙ ap (λ (t : List ℕ). t ++ text_of_lines longer.1) (sym (more_text is.before line)) in
          un (begins_less (text_of_lines (is.before ++ line ∷ [])) (text_of_lines longer.1) (subst BeginsText text is'.begins))
      by_case longer (inr (feedless, un)) =
          no_feed_there longer.0 (text_of_lines longer.1 ++ is'.rest) is.rest (recursion_from_All (λ b. b ≡ 10 → ⊥) is.rest feedless) (sym longer.3)

same_length : (m n : ℕ) → (m < n → ⊥) → (n < m → ⊥) → m ≡ n
same_length zero zero f g = refl
same_length zero (suc n) f g = absurd (f (omega arith))
same_length (suc m) zero f g = absurd (g (omega arith))
same_length (suc m) (suc n) f g = ap suc (same_length m n (λ less. f (omega (arith, less))) (λ less. g (omega (arith, less))))

pub one_first : IsOneFirstAtMost
one_first bytes a b is is' =
    let same = same_length (length is.before) (length is'.before) (not_earlier bytes a b is is') (not_earlier bytes b a is' is) in
    omega (arith, same, is.counted, is'.counted)

-- ---- what is answered

pub text_accepted : (bytes : List ℕ) (r : Result (List RoundReport) ReportFault) → IfOk r (IsReportText bytes) → IfErr r (IsRefusal bytes) →
    (report : List RoundReport) → IsReportText bytes report → IsAnswered r (Ok report)
text_accepted bytes (Ok read) made refused report is = inl (ap Ok (one_report bytes read report made is))
text_accepted bytes (Err (fault.Line number)) made refused report is = absurd (outside_is_no_text bytes number refused (report, is))
text_accepted bytes (Err fault.NoMemory) made refused report is = inr refl

pub prints_back : (bytes : List ℕ) (r : Result (List RoundReport) ReportFault) → IfOk r (IsReportText bytes) → IfOk r (λ report. report_text report ≡ bytes)
prints_back bytes (Ok read) made = one_text read (report_text read) bytes (has_text read made.report) made
prints_back bytes (Err what) made = tt

pub printed_reads : (bytes : List ℕ) (r : Result (List RoundReport) ReportFault) → IfOk r (IsReportText bytes) → IfErr r (IsRefusal bytes) →
    (report : List RoundReport) → IsReport report → report_text report ≡ bytes → IsAnswered r (Ok report)
printed_reads bytes r made refused report is text =
    text_accepted bytes r made refused report (subst (λ (t : List ℕ). IsReportText t report) text (has_text report is))

pub outside_told : (bytes : List ℕ) (r : Result (List RoundReport) ReportFault) → IfOk r (IsReportText bytes) → IfErr r (IsRefusal bytes) →
    (number : ℕ) → IsFirstOutside bytes number → IsAnswered r (Err (fault.Line number))
outside_told bytes (Ok read) made refused number is = absurd (outside_is_no_text bytes number is (read, made))
outside_told bytes (Err (fault.Line found)) made refused number is = inl (ap (λ (n : ℕ). Err (fault.Line n)) (one_first bytes found number refused is))
outside_told bytes (Err fault.NoMemory) made refused number is = inr refl
