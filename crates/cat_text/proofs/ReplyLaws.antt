-- What a line says is told by its fields.
use Rattle.std.proofs.Common.{◌≡◌, ℕ, ◌^◌, ◌<◌, ◌≤◌, ◌⊎◌, inl, inr, Bool, true, false, List, [], ◌∷◌, ◌++◌, Option, Some, None, length, get_or, drop, map, decimal, flat_map, codes, refl, sym, ap, subst, arith}
use Rattle.std.proofs.lemmas.Fmt.{decimal_injective}
use Rattle.std.proofs.lemmas.List.{append_cancel_left}
use Rattle.std.proofs.lemmas.List.Elements.{recursion_from_All}
use Rattle.std.specs.Prelude.{IfSome}
use Rattle.std.specs.List.{AllByRecursion}
use Rattle.cat_key.specs.declared.Pair.{Pair}
use Rattle.cat_history.specs.declared.op.Op.{Op}
use Rattle.cat_history.specs.declared.op.Op.TheVariants.{Put, Get, Del, Scan}
use Rattle.cat_history.specs.declared.record.CutMark.{CutMark}
use Rattle.cat_history.specs.declared.record.CutMark.TheVariants.{At, Open, Found, Lost, Read}
use Rattle.cat_history.specs.declared.record.Record.{Record}
use Rattle.cat_history.specs.declared.record.Reply.{Reply}
use Rattle.cat_history.specs.declared.record.Reply.TheVariants.{Old, Parts, Full, Spent, Cut, Unstarted}
use Rattle.cat_history.specs.declared.record.ScanPart.{ScanPart}
use Rattle.cat_text.specs.Reports.{old_text}
use Rattle.cat_text.specs.ReportLines.{op_fields, reply_fields, mark_fields, cut_fields, record_fields, high_fields, pair_fields, part_fields, place_field, reply_lines, record_lines}
use Rattle.cat_text.specs.ReportGrammar.{IsReportOp, IsReportPair, IsReportPart, IsReportMark, IsReportReply, IsReportRecord}
use Rattle.cat_text.proofs.FieldLemmas.{apart, number_begins}

-- the first byte of a line's first field
abbrev pub lead : List (List ℕ) → ℕ
lead fields = get_or (get_or fields 0 []) 0 0

-- what is asked
pub op_one : (a b : Op) (x y : List (List ℕ)) → IsReportOp a → IsReportOp b → op_fields a ++ x ≡ op_fields b ++ y → (a ≡ b) × (x ≡ y)
op_one (Put name value) (Put name' value') x y is is' same =
    let names : name ≡ name' = cc in
    let numbers : decimal value ≡ decimal value' = cc in
    let values = decimal_injective value value' is.1 is'.1 numbers in
    ((λ i. Put (names i) (values i)), cc)
op_one (Put name value) (Get name') x y is is' same = absurd (apart 112 103 (ap lead same) (inr (omega arith)))
op_one (Put name value) (Del name') x y is is' same = absurd (apart 112 100 (ap lead same) (inr (omega arith)))
op_one (Put name value) (Scan from' count') x y is is' same = absurd (apart 112 115 (ap lead same) (inl (omega arith)))
op_one (Get name) (Put name' value') x y is is' same = absurd (apart 103 112 (ap lead same) (inl (omega arith)))
op_one (Get name) (Get name') x y is is' same = let names : name ≡ name' = cc in (ap Get names, cc)
op_one (Get name) (Del name') x y is is' same = absurd (apart 103 100 (ap lead same) (inr (omega arith)))
op_one (Get name) (Scan from' count') x y is is' same = absurd (apart 103 115 (ap lead same) (inl (omega arith)))
op_one (Del name) (Put name' value') x y is is' same = absurd (apart 100 112 (ap lead same) (inl (omega arith)))
op_one (Del name) (Get name') x y is is' same = absurd (apart 100 103 (ap lead same) (inl (omega arith)))
op_one (Del name) (Del name') x y is is' same = let names : name ≡ name' = cc in (ap Del names, cc)
op_one (Del name) (Scan from' count') x y is is' same = absurd (apart 100 115 (ap lead same) (inl (omega arith)))
op_one (Scan from count) (Put name' value') x y is is' same = absurd (apart 115 112 (ap lead same) (inr (omega arith)))
op_one (Scan from count) (Get name') x y is is' same = absurd (apart 115 103 (ap lead same) (inr (omega arith)))
op_one (Scan from count) (Del name') x y is is' same = absurd (apart 115 100 (ap lead same) (inr (omega arith)))
op_one (Scan from count) (Scan from' count') x y is is' same =
    let names : from ≡ from' = cc in
    let numbers : decimal count ≡ decimal count' = cc in
    let values = decimal_injective count count' is.1 is'.1 numbers in
    ((λ i. Scan (names i) (values i)), cc)

-- a number or none
pub old_one : (a b : Option ℕ) → IfSome a (λ value. value < 2 ^ 64) → IfSome b (λ value. value < 2 ^ 64) → old_text a ≡ old_text b → a ≡ b
old_one None None is is' same = refl
old_one None (Some b) is is' same =
    let e : 110 ≡ get_or (decimal b) 0 0 = ap (λ (s : List ℕ). get_or s 0 0) same in absurd (omega (arith, e, number_begins b is'))
old_one (Some a) None is is' same =
    let e : get_or (decimal a) 0 0 ≡ 110 = ap (λ (s : List ℕ). get_or s 0 0) same in absurd (omega (arith, e, number_begins a is))
old_one (Some a) (Some b) is is' same = ap Some (decimal_injective a b is is' same)

pub old_begins : (a : Option ℕ) → IfSome a (λ value. value < 2 ^ 64) → (get_or (old_text a) 0 0 ≤ 57) ⊎ (get_or (old_text a) 0 0 ≡ 110)
old_begins None is = inr refl
old_begins (Some a) is = inl (number_begins a is).1

pub place_one : (a b : ℕ) → a < 2 ^ 64 → b < 2 ^ 64 → place_field a ≡ place_field b → a ≡ b
place_one a b is is' same = decimal_injective a b is is' (append_cancel_left (codes "@") (decimal a) (decimal b) same)

pub mark_one : (op : Op) (a b : CutMark) → IsReportMark op a → IsReportMark op b → mark_fields a ≡ mark_fields b → a ≡ b
mark_one op (At p) (At q) is is' same = ap At (place_one p q is.1 is'.1 (ap (λ (l : List (List ℕ)). get_or l 0 []) same))
mark_one op (At p) Open is is' same = absurd is'
mark_one op (At p) Found is is' same = absurd (apart 64 102 (ap lead same) (inl (omega arith)))
mark_one op (At p) Lost is is' same = absurd (apart 64 108 (ap lead same) (inl (omega arith)))
mark_one op (At p) Read is is' same = absurd (apart 64 0 (ap lead same) (inr (omega arith)))
mark_one op Open (At q) is is' same = absurd is
mark_one op Open Open is is' same = absurd is
mark_one op Open Found is is' same = absurd is
mark_one op Open Lost is is' same = absurd is
mark_one op Open Read is is' same = absurd is
mark_one op Found (At q) is is' same = absurd (apart 102 64 (ap lead same) (inr (omega arith)))
mark_one op Found Open is is' same = absurd is'
mark_one op Found Found is is' same = refl
mark_one op Found Lost is is' same = absurd (apart 102 108 (ap lead same) (inl (omega arith)))
mark_one op Found Read is is' same = absurd (apart 102 0 (ap lead same) (inr (omega arith)))
mark_one op Lost (At q) is is' same = absurd (apart 108 64 (ap lead same) (inr (omega arith)))
mark_one op Lost Open is is' same = absurd is'
mark_one op Lost Found is is' same = absurd (apart 108 102 (ap lead same) (inr (omega arith)))
mark_one op Lost Lost is is' same = refl
mark_one op Lost Read is is' same = absurd (apart 108 0 (ap lead same) (inr (omega arith)))
mark_one op Read (At q) is is' same = absurd (apart 0 64 (ap lead same) (inl (omega arith)))
mark_one op Read Open is is' same = absurd is'
mark_one op Read Found is is' same = absurd (apart 0 102 (ap lead same) (inl (omega arith)))
mark_one op Read Lost is is' same = absurd (apart 0 108 (ap lead same) (inl (omega arith)))
mark_one op Read Read is is' same = refl

pub high_one : (a b : Option (List ℕ)) (x y : List (List ℕ)) → high_fields a ++ x ≡ high_fields b ++ y → (a ≡ b) × (x ≡ y)
high_one None None x y same = (refl, cc)
high_one None (Some b) x y same = absurd (apart 101 116 (ap lead same) (inl (omega arith)))
high_one (Some a) None x y same = absurd (apart 116 101 (ap lead same) (inr (omega arith)))
high_one (Some a) (Some b) x y same = let names : a ≡ b = cc in (ap Some names, cc)

pub pairs_one : (a b : List Pair) → AllByRecursion IsReportPair a → AllByRecursion IsReportPair b → flat_map pair_fields a ≡ flat_map pair_fields b → a ≡ b
pairs_one [] [] is is' same = refl
pairs_one [] (q ∷ b) is is' same = absurd (omega (arith, ap length same))
pairs_one (p ∷ a) [] is is' same = absurd (omega (arith, ap length same))
pairs_one (p ∷ a) (q ∷ b) is is' same =
    let names : p.name ≡ q.name = cc in
    let numbers : decimal p.value ≡ decimal q.value = cc in
    let tails : flat_map pair_fields a ≡ flat_map pair_fields b = cc in
    let values = decimal_injective p.value q.value is.0.1 is'.0.1 numbers in
    let rest = pairs_one a b is.1 is'.1 tails in
    λ i. record { name = names i; value = values i } ∷ rest i

pub part_one : (a b : ScanPart) → IsReportPart a → IsReportPart b → part_fields a ≡ part_fields b → a ≡ b
part_one a b is is' same =
    let lows : a.low ≡ b.low = cc in
    let more : high_fields a.high ++ place_field a.place ∷ flat_map pair_fields a.pairs ≡ high_fields b.high ++ place_field b.place ∷ flat_map pair_fields b.pairs = cc in
    let highs = high_one a.high b.high (place_field a.place ∷ flat_map pair_fields a.pairs) (place_field b.place ∷ flat_map pair_fields b.pairs) more in
    let places = place_one a.place b.place is.place is'.place (ap (λ (l : List (List ℕ)). get_or l 0 []) highs.1) in
    let listed : flat_map pair_fields a.pairs ≡ flat_map pair_fields b.pairs = ap (drop 1) highs.1 in
    let pairs = pairs_one a.pairs b.pairs (recursion_from_All IsReportPair a.pairs is.pairs) (recursion_from_All IsReportPair b.pairs is'.pairs) listed in
    λ i. record { low = lows i; high = highs.0 i; place = places i; pairs = pairs i }

pub parts_one : (a b : List ScanPart) (x y : List (List (List ℕ))) → length a ≡ length b → AllByRecursion IsReportPart a → AllByRecursion IsReportPart b →
    map part_fields a ++ x ≡ map part_fields b ++ y → (a ≡ b) × (x ≡ y)
parts_one [] [] x y long is is' same = (refl, same)
parts_one [] (q ∷ b) x y long is is' same = absurd (omega (arith, long))
parts_one (p ∷ a) [] x y long is is' same = absurd (omega (arith, long))
parts_one (p ∷ a) (q ∷ b) x y long is is' same =
    let heads : part_fields p ≡ part_fields q = ap (λ (l : List (List (List ℕ))). get_or l 0 []) same in
    let tails : map part_fields a ++ x ≡ map part_fields b ++ y = ap (drop 1) same in
    let first = part_one p q is.0 is'.0 heads in
    let rest = parts_one a b x y (omega (arith, long)) is.1 is'.1 tails in
    ((λ i. first i ∷ rest.0 i), rest.1)

pub cut_one : (a b : Bool) → cut_fields a ≡ cut_fields b → a ≡ b
cut_one false false same = refl
cut_one false true same = absurd (apart 1 2 (ap length same) (inl (omega arith)))
cut_one true false same = absurd (apart 2 1 (ap length same) (inr (omega arith)))
cut_one true true same = refl

-- what is answered, with the lines of a scan's parts behind it
pub reply_one : (op : Op) (a b : Reply) (x y : List (List (List ℕ))) → IsReportReply op a → IsReportReply op b → reply_fields a ≡ reply_fields b →
    reply_lines a ++ x ≡ reply_lines b ++ y → (a ≡ b) × (x ≡ y)
reply_one op (Old old place) (Old old' place') x y is is' same lines =
    let olds = old_one old old' is.1 is'.1 (ap (λ (l : List (List ℕ)). get_or l 0 []) same) in
    let places = place_one place place' is.2 is'.2 (ap (λ (l : List (List ℕ)). get_or l 1 []) same) in
    ((λ i. Old (olds i) (places i)), lines)
reply_one op (Old old place) (Parts parts' cut') x y is is' same lines = absurd (is.0 is'.0)
reply_one op (Old old place) Full x y is is' same lines = let e : get_or (old_text old) 0 0 ≡ 102 = ap lead same in absurd (omega (arith, e, old_begins old is.1))
reply_one op (Old old place) (Spent clock') x y is is' same lines = let e : get_or (old_text old) 0 0 ≡ 115 = ap lead same in absurd (omega (arith, e, old_begins old is.1))
reply_one op (Old old place) (Cut mark') x y is is' same lines = let e : get_or (old_text old) 0 0 ≡ 99 = ap lead same in absurd (omega (arith, e, old_begins old is.1))
reply_one op (Old old place) Unstarted x y is is' same lines = let e : get_or (old_text old) 0 0 ≡ 117 = ap lead same in absurd (omega (arith, e, old_begins old is.1))
reply_one op (Parts parts cut) (Old old' place') x y is is' same lines = absurd (is'.0 is.0)
reply_one op (Parts parts cut) (Parts parts' cut') x y is is' same lines =
    let counts = decimal_injective (length parts) (length parts') is.2 is'.2 (ap (λ (l : List (List ℕ)). get_or l 0 []) same) in
    let cuts = cut_one cut cut' (ap (drop 1) same) in
    let rest = parts_one parts parts' x y counts (recursion_from_All IsReportPart parts is.1) (recursion_from_All IsReportPart parts' is'.1) lines in
    ((λ i. Parts (rest.0 i) (cuts i)), rest.1)
reply_one op (Parts parts cut) Full x y is is' same lines = let e : get_or (decimal (length parts)) 0 0 ≡ 102 = ap lead same in absurd (omega (arith, e, number_begins (length parts) is.2))
reply_one op (Parts parts cut) (Spent clock') x y is is' same lines = let e : get_or (decimal (length parts)) 0 0 ≡ 115 = ap lead same in absurd (omega (arith, e, number_begins (length parts) is.2))
reply_one op (Parts parts cut) (Cut mark') x y is is' same lines = let e : get_or (decimal (length parts)) 0 0 ≡ 99 = ap lead same in absurd (omega (arith, e, number_begins (length parts) is.2))
reply_one op (Parts parts cut) Unstarted x y is is' same lines = let e : get_or (decimal (length parts)) 0 0 ≡ 117 = ap lead same in absurd (omega (arith, e, number_begins (length parts) is.2))
reply_one op Full (Old old' place') x y is is' same lines = let e : 102 ≡ get_or (old_text old') 0 0 = ap lead same in absurd (omega (arith, e, old_begins old' is'.1))
reply_one op Full (Parts parts' cut') x y is is' same lines = let e : 102 ≡ get_or (decimal (length parts')) 0 0 = ap lead same in absurd (omega (arith, e, number_begins (length parts') is'.2))
reply_one op Full Full x y is is' same lines = (refl, lines)
reply_one op Full (Spent clock') x y is is' same lines = absurd (apart 102 115 (ap lead same) (inl (omega arith)))
reply_one op Full (Cut mark') x y is is' same lines = absurd (apart 102 99 (ap lead same) (inr (omega arith)))
reply_one op Full Unstarted x y is is' same lines = absurd (apart 102 117 (ap lead same) (inl (omega arith)))
reply_one op (Spent clock) (Old old' place') x y is is' same lines = let e : 115 ≡ get_or (old_text old') 0 0 = ap lead same in absurd (omega (arith, e, old_begins old' is'.1))
reply_one op (Spent clock) (Parts parts' cut') x y is is' same lines = let e : 115 ≡ get_or (decimal (length parts')) 0 0 = ap lead same in absurd (omega (arith, e, number_begins (length parts') is'.2))
reply_one op (Spent clock) Full x y is is' same lines = absurd (apart 115 102 (ap lead same) (inr (omega arith)))
reply_one op (Spent clock) (Spent clock') x y is is' same lines = (ap Spent (decimal_injective clock clock' is.1 is'.1 (ap (λ (l : List (List ℕ)). get_or l 1 []) same)), lines)
reply_one op (Spent clock) (Cut mark') x y is is' same lines = absurd (apart 115 99 (ap lead same) (inr (omega arith)))
reply_one op (Spent clock) Unstarted x y is is' same lines = absurd (apart 115 117 (ap lead same) (inl (omega arith)))
reply_one op (Cut mark) (Old old' place') x y is is' same lines = let e : 99 ≡ get_or (old_text old') 0 0 = ap lead same in absurd (omega (arith, e, old_begins old' is'.1))
reply_one op (Cut mark) (Parts parts' cut') x y is is' same lines = let e : 99 ≡ get_or (decimal (length parts')) 0 0 = ap lead same in absurd (omega (arith, e, number_begins (length parts') is'.2))
reply_one op (Cut mark) Full x y is is' same lines = absurd (apart 99 102 (ap lead same) (inl (omega arith)))
reply_one op (Cut mark) (Spent clock') x y is is' same lines = absurd (apart 99 115 (ap lead same) (inl (omega arith)))
reply_one op (Cut mark) (Cut mark') x y is is' same lines = (ap Cut (mark_one op mark mark' is is' (ap (drop 1) same)), lines)
reply_one op (Cut mark) Unstarted x y is is' same lines = absurd (apart 99 117 (ap lead same) (inl (omega arith)))
reply_one op Unstarted (Old old' place') x y is is' same lines = let e : 117 ≡ get_or (old_text old') 0 0 = ap lead same in absurd (omega (arith, e, old_begins old' is'.1))
reply_one op Unstarted (Parts parts' cut') x y is is' same lines = let e : 117 ≡ get_or (decimal (length parts')) 0 0 = ap lead same in absurd (omega (arith, e, number_begins (length parts') is'.2))
reply_one op Unstarted Full x y is is' same lines = absurd (apart 117 102 (ap lead same) (inr (omega arith)))
reply_one op Unstarted (Spent clock') x y is is' same lines = absurd (apart 117 115 (ap lead same) (inr (omega arith)))
reply_one op Unstarted (Cut mark') x y is is' same lines = absurd (apart 117 99 (ap lead same) (inr (omega arith)))
reply_one op Unstarted Unstarted x y is is' same lines = (refl, lines)

-- the lines of a call
pub record SameCall (a b : Record) (x y : List (List (List ℕ))) : Type 0 where
  pub caller : a.caller ≡ b.caller
  pub op : a.op ≡ b.op
  pub reply : a.reply ≡ b.reply
  pub rest : x ≡ y

pub record_one : (a b : Record) (x y : List (List (List ℕ))) → IsReportRecord a → IsReportRecord b → record_lines a ++ x ≡ record_lines b ++ y → SameCall a b x y
record_one a b x y is is' same =
    let line : record_fields a ≡ record_fields b = ap (λ (l : List (List (List ℕ))). get_or l 0 []) same in
    let lines : reply_lines a.reply ++ x ≡ reply_lines b.reply ++ y = ap (drop 1) same in
    let number : decimal a.caller ≡ decimal b.caller = ap (λ (l : List (List ℕ)). get_or l 0 []) line in
    let more : op_fields a.op ++ codes "->" ∷ reply_fields a.reply ≡ op_fields b.op ++ codes "->" ∷ reply_fields b.reply = ap (drop 1) line in
    let ops = op_one a.op b.op (codes "->" ∷ reply_fields a.reply) (codes "->" ∷ reply_fields b.reply) is.op is'.op more in
    let low : a.caller < 2 ^ 64 = omega (arith, is.caller) in
    let low' : b.caller < 2 ^ 64 = omega (arith, is'.caller) in
    let replies = reply_one a.op a.reply b.reply x y is.reply (subst (λ op. IsReportReply op b.reply) (sym ops.0) is'.reply) (ap (drop 1) ops.1) lines in
    record { caller = decimal_injective a.caller b.caller low low' number; op = ops.0; reply = replies.0; rest = replies.1 }
