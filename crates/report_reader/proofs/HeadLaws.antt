-- Lines of calls, by their first fields.
use Rattle.std.proofs.Common.{◌≡◌, ℕ, ◌^◌, ◌<◌, inl, inr, Bool, true, false, List, [], ◌∷◌, ◌++◌, Option, length, get_or, drop, decimal, codes, sym, ap, subst, ◌∙◌, arith}
use Rattle.cat_history.specs.declared.op.Op.{Op}
use Rattle.cat_history.specs.declared.op.Op.TheVariants.{Put, Get, Del, Scan}
use Rattle.cat_history.specs.declared.record.CutMark.{CutMark}
use Rattle.cat_history.specs.declared.record.CutMark.TheVariants.{At, Open, Found, Lost, Read}
use Rattle.cat_text.specs.Reports.{old_text, end_word}
use Rattle.cat_text.specs.ReportLines.{op_fields, mark_fields}
use Rattle.cat_text.proofs.FieldLemmas.{apart, number_begins}
use Rattle.cat_text.proofs.ReplyLaws.{lead, op_one, old_begins}
use Rattle.report_reader.specs.Answers.{IsAnswer, IsMark, SaysOp, SaysAnswer, Suits, SuitsMark, answer_fields}
use Rattle.report_reader.specs.Heads.{IsHead, SaysHead}
use Rattle.report_reader.specs.declared.answer.Answer.{Answer}
use Rattle.report_reader.specs.declared.answer.Answer.TheVariants.{Old, Parts, Full, Spent, Cut, Unstarted}
use Rattle.report_reader.specs.declared.head.Head.{Head}
use Rattle.report_reader.specs.declared.head.Head.TheVariants.{Call, Last}

abbrev second : List (List ℕ) → ℕ
second fields = get_or (get_or fields 1 []) 0 0

-- ---- an answer suits a call where one with the same fields does

mark_suits : (op : Op) (a b : CutMark) → IsMark a → IsMark b → mark_fields a ≡ mark_fields b → SuitsMark op b → SuitsMark op a
mark_suits op (At p) (At q) is is' same suits = suits
mark_suits op (At p) Open is is' same suits = absurd is'
mark_suits op (At p) Found is is' same suits = suits
mark_suits op (At p) Lost is is' same suits = suits
mark_suits op (At p) Read is is' same suits = absurd (omega (arith, ap length same))
mark_suits op Open b is is' same suits = absurd is
mark_suits op Found (At q) is is' same suits = suits
mark_suits op Found Open is is' same suits = absurd is'
mark_suits op Found Found is is' same suits = suits
mark_suits op Found Lost is is' same suits = suits
mark_suits op Found Read is is' same suits = absurd (omega (arith, ap length same))
mark_suits op Lost (At q) is is' same suits = suits
mark_suits op Lost Open is is' same suits = absurd is'
mark_suits op Lost Found is is' same suits = suits
mark_suits op Lost Lost is is' same suits = suits
mark_suits op Lost Read is is' same suits = absurd (omega (arith, ap length same))
mark_suits op Read (At q) is is' same suits = absurd (omega (arith, ap length same))
mark_suits op Read Open is is' same suits = absurd is'
mark_suits op Read Found is is' same suits = absurd (omega (arith, ap length same))
mark_suits op Read Lost is is' same suits = absurd (omega (arith, ap length same))
mark_suits op Read Read is is' same suits = suits

-- the first byte of an answer tells which it is, but for a number
no_parts_old : (count : ℕ) (cut : Bool) (old : Option ℕ) (place : ℕ) → answer_fields (Parts count cut) ≡ answer_fields (Old old place) → ⊥
no_parts_old count false old place same = apart 112 64 (ap second same) (inr (omega arith))
no_parts_old count true old place same = apart 112 64 (ap second same) (inr (omega arith))

same_suits : (op : Op) (a b : Answer) → IsAnswer a → IsAnswer b → answer_fields a ≡ answer_fields b → Suits op b → Suits op a
same_suits op (Old old place) (Old old' place') is is' same suits = suits
same_suits op (Old old place) (Parts count cut) is is' same suits = absurd (no_parts_old count cut old place (sym same))
same_suits op (Old old place) Full is is' same suits = absurd (omega (arith, ap length same))
same_suits op (Old old place) (Spent clock) is is' same suits = let e : get_or (old_text old) 0 0 ≡ 115 = ap lead same in absurd (omega (arith, e, old_begins old is.0))
same_suits op (Old old place) (Cut mark) is is' same suits = let e : get_or (old_text old) 0 0 ≡ 99 = ap lead same in absurd (omega (arith, e, old_begins old is.0))
same_suits op (Old old place) Unstarted is is' same suits = absurd (omega (arith, ap length same))
same_suits op (Parts count cut) (Old old place) is is' same suits = absurd (no_parts_old count cut old place same)
same_suits op (Parts count cut) (Parts count' cut') is is' same suits = suits
same_suits op (Parts count cut) Full is is' same suits = let e : get_or (decimal count) 0 0 ≡ 102 = ap lead same in absurd (omega (arith, e, number_begins count is))
same_suits op (Parts count cut) (Spent clock) is is' same suits = let e : get_or (decimal count) 0 0 ≡ 115 = ap lead same in absurd (omega (arith, e, number_begins count is))
same_suits op (Parts count cut) (Cut mark) is is' same suits = let e : get_or (decimal count) 0 0 ≡ 99 = ap lead same in absurd (omega (arith, e, number_begins count is))
same_suits op (Parts count cut) Unstarted is is' same suits = let e : get_or (decimal count) 0 0 ≡ 117 = ap lead same in absurd (omega (arith, e, number_begins count is))
same_suits op Full (Old old place) is is' same suits = absurd (omega (arith, ap length same))
same_suits op Full (Parts count cut) is is' same suits = let e : 102 ≡ get_or (decimal count) 0 0 = ap lead same in absurd (omega (arith, e, number_begins count is'))
same_suits op Full Full is is' same suits = suits
same_suits op Full (Spent clock) is is' same suits = absurd (apart 102 115 (ap lead same) (inl (omega arith)))
same_suits op Full (Cut mark) is is' same suits = absurd (apart 102 99 (ap lead same) (inr (omega arith)))
same_suits op Full Unstarted is is' same suits = absurd (apart 102 117 (ap lead same) (inl (omega arith)))
same_suits op (Spent clock) (Old old place) is is' same suits = let e : 115 ≡ get_or (old_text old) 0 0 = ap lead same in absurd (omega (arith, e, old_begins old is'.0))
same_suits op (Spent clock) (Parts count cut) is is' same suits = let e : 115 ≡ get_or (decimal count) 0 0 = ap lead same in absurd (omega (arith, e, number_begins count is'))
same_suits op (Spent clock) Full is is' same suits = absurd (apart 115 102 (ap lead same) (inr (omega arith)))
same_suits op (Spent clock) (Spent clock') is is' same suits = suits
same_suits op (Spent clock) (Cut mark) is is' same suits = absurd (apart 115 99 (ap lead same) (inr (omega arith)))
same_suits op (Spent clock) Unstarted is is' same suits = absurd (apart 115 117 (ap lead same) (inl (omega arith)))
same_suits op (Cut mark) (Old old place) is is' same suits = let e : 99 ≡ get_or (old_text old) 0 0 = ap lead same in absurd (omega (arith, e, old_begins old is'.0))
same_suits op (Cut mark) (Parts count cut) is is' same suits = let e : 99 ≡ get_or (decimal count) 0 0 = ap lead same in absurd (omega (arith, e, number_begins count is'))
same_suits op (Cut mark) Full is is' same suits = absurd (apart 99 102 (ap lead same) (inl (omega arith)))
same_suits op (Cut mark) (Spent clock) is is' same suits = absurd (apart 99 115 (ap lead same) (inl (omega arith)))
same_suits op (Cut mark) (Cut mark') is is' same suits = mark_suits op mark mark' is is' (ap (drop 1) same) suits
same_suits op (Cut mark) Unstarted is is' same suits = absurd (apart 99 117 (ap lead same) (inl (omega arith)))
same_suits op Unstarted b is is' same suits = tt

-- ---- the line of a call

-- what the fields behind the caller say, where they are those of a call
pub record CallBehind (first : List ℕ) (more : List (List ℕ)) : Type 0 where
  pub caller : ℕ
  pub op : Op
  pub answer : Answer
  pub head : IsHead (Call caller op answer)
  pub first_is : first ≡ decimal caller
  pub more_is : more ≡ op_fields op ++ codes "->" ∷ answer_fields answer

pub is_call : (head : Head) (first : List ℕ) (more : List (List ℕ)) → (first ≡ codes "join" → ⊥) → (first ≡ codes "crash" → ⊥) → SaysHead (first ∷ more) head → CallBehind first more
is_call (Call caller op answer) first more join crash says = record {
  caller = caller;
  op = op;
  answer = answer;
  head = says.0;
  first_is = ap (λ (l : List (List ℕ)). get_or l 0 []) says.1;
  more_is = ap (drop 1) says.1;
}
is_call (Last true writes names) first more join crash says = absurd (crash (ap (λ (l : List (List ℕ)). get_or l 0 []) says.1))
is_call (Last false writes names) first more join crash says = absurd (join (ap (λ (l : List (List ℕ)). get_or l 0 []) says.1))

pub some_more : (first : List ℕ) → CallBehind first [] → ⊥
some_more first behind = by_op behind.op behind.more_is where
  by_op : (op : Op) → [] ≡ op_fields op ++ codes "->" ∷ answer_fields behind.answer → ⊥
  by_op (Put name value) same = omega (arith, ap length same)
  by_op (Get name) same = omega (arith, ap length same)
  by_op (Del name) same = omega (arith, ap length same)
  by_op (Scan from count) same = omega (arith, ap length same)

-- behind what is asked comes an arrow, and an answer
pub answer_behind : (first : List ℕ) (more rest : List (List ℕ)) (op : Op) (behind : CallBehind first more) → SaysOp more op rest → (behind.op ≡ op) × (rest ≡ codes "->" ∷ answer_fields behind.answer)
answer_behind first more rest op behind says =
    let ops = op_one behind.op op (codes "->" ∷ answer_fields behind.answer) rest behind.head.1 says.0 (sym behind.more_is ∙ says.1) in
    (ops.0, sym ops.1)

some_answer : (answer : Answer) → [] ≡ answer_fields answer → ⊥
some_answer (Old old place) same = omega (arith, ap length same)
some_answer (Parts count cut) same = omega (arith, ap length same)
some_answer Full same = omega (arith, ap length same)
some_answer (Spent clock) same = omega (arith, ap length same)
some_answer (Cut mark) same = omega (arith, ap length same)
some_answer Unstarted same = omega (arith, ap length same)

pub arrow_alone : (first : List ℕ) (more : List (List ℕ)) (arrow : List ℕ) (op : Op) → CallBehind first more → SaysOp more op (arrow ∷ []) → ⊥
arrow_alone first more arrow op behind says =
    let here = answer_behind first more (arrow ∷ []) op behind says in some_answer behind.answer (ap (drop 1) here.1)

pub nothing_behind : (first : List ℕ) (more : List (List ℕ)) (op : Op) → CallBehind first more → SaysOp more op [] → ⊥
nothing_behind first more op behind says =
    let here = answer_behind first more [] op behind says in omega (arith, ap length here.1)

pub is_arrow : (first : List ℕ) (more : List (List ℕ)) (arrow : List ℕ) (rest : List (List ℕ)) (op : Op) → CallBehind first more → SaysOp more op (arrow ∷ rest) → arrow ≡ codes "->"
is_arrow first more arrow rest op behind says =
    let here = answer_behind first more (arrow ∷ rest) op behind says in ap (λ (l : List (List ℕ)). get_or l 0 []) here.1

pub says_answer : (first : List ℕ) (more : List (List ℕ)) (arrow : List ℕ) (rest : List (List ℕ)) (op : Op) (behind : CallBehind first more) → SaysOp more op (arrow ∷ rest) →
    SaysAnswer rest behind.answer
says_answer first more arrow rest op behind says =
    let here = answer_behind first more (arrow ∷ rest) op behind says in (behind.head.2, ap (drop 1) here.1)

pub suits_so : (first : List ℕ) (more : List (List ℕ)) (arrow : List ℕ) (rest : List (List ℕ)) (op : Op) (answer : Answer) → CallBehind first more →
    SaysOp more op (arrow ∷ rest) → SaysAnswer rest answer → Suits op answer
suits_so first more arrow rest op answer behind says told =
    let here = answer_behind first more (arrow ∷ rest) op behind says in
    let its = says_answer first more arrow rest op behind says in
    same_suits op answer behind.answer told.0 its.0 (sym told.1 ∙ its.1) (subst (λ (o : Op). Suits o behind.answer) here.0 behind.head.3)

-- ---- the last line of a round

pub record LastBehind (more : List (List ℕ)) : Type 0 where
  pub writes : ℕ
  pub names : ℕ
  pub writes_fit : writes < 2 ^ 64
  pub names_fit : names < 2 ^ 64
  pub more_is : more ≡ decimal writes ∷ codes "names" ∷ decimal names ∷ []

end_begins : (crashed : Bool) → 57 < get_or (end_word crashed) 0 0
end_begins false = omega arith
end_begins true = omega arith

pub is_last : (head : Head) (crashed : Bool) (more : List (List ℕ)) → SaysHead (end_word crashed ∷ more) head → LastBehind more
is_last (Call caller op answer) crashed more says =
    let e : get_or (end_word crashed) 0 0 ≡ get_or (decimal caller) 0 0 = ap lead says.1 in
    let low : caller < 2 ^ 64 = omega (arith, says.0.0) in
    absurd (omega (arith, e, end_begins crashed, number_begins caller low))
is_last (Last ended writes names) crashed more says =
    record { writes = writes; names = names; writes_fit = says.0.0; names_fit = says.0.1; more_is = ap (drop 1) says.1 }
