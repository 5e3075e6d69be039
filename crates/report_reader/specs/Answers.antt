-- What the line of a call says: what is asked, and what is told of the answer.
use Rattle.std.specs.Prelude.{◌≡◌, ℕ, ◌<◌, ◌^◌, Option, List, [], ◌∷◌, ◌++◌, IfSome, codes, decimal, length}
use Rattle.cat_history.specs.Rounds.{IsPut, IsScan, IsWriter}
use Rattle.cat_history.specs.declared.op.Op.{Op}
use Rattle.cat_history.specs.declared.record.CutMark.{CutMark}
use Rattle.cat_history.specs.declared.record.CutMark.TheVariants.{At, Open, Found, Lost, Read}
use Rattle.cat_history.specs.declared.record.Reply.{Reply}
use Rattle.cat_history.specs.declared.record.Reply.TheVariants as reply
use Rattle.cat_history.specs.declared.record.ScanPart.{ScanPart}
use Rattle.cat_text.specs.Reports.{old_text}
use Rattle.cat_text.specs.ReportGrammar.{IsReportOp, IsGet}
use Rattle.cat_text.specs.ReportLines.{op_fields, place_field, cut_fields, mark_fields}
use Rattle.report_reader.specs.declared.answer.Answer.{Answer}
use Rattle.report_reader.specs.declared.answer.Answer.TheVariants.{Old, Parts, Full, Spent, Cut, Unstarted}

-- The fields begin with those of what is asked, and these follow.
abbrev pub SaysOp : List (List ℕ) → Op → List (List ℕ) → Type 0
SaysOp fields op more = IsReportOp op × (fields ≡ op_fields op ++ more)

-- A number below 2 ^ 64, or none.
abbrev pub IsOld : Option ℕ → Type 0
IsOld old = IfSome old (λ value. value < 2 ^ 64)

-- What a report may say of any call that was cut off.
abbrev pub IsMark : CutMark → Type 0
IsMark (At place) = place < 2 ^ 64
IsMark Open = ⊥
IsMark Found = Unit {0}
IsMark Lost = Unit {0}
IsMark Read = Unit {0}

abbrev pub SaysMark : List (List ℕ) → CutMark → Type 0
SaysMark fields mark = IsMark mark × (fields ≡ mark_fields mark)

-- What a report may tell of the answer to any call.
abbrev pub IsAnswer : Answer → Type 0
IsAnswer (Old old place) = IsOld old × (place < 2 ^ 64)
IsAnswer (Parts count cut) = count < 2 ^ 64
IsAnswer Full = Unit {0}
IsAnswer (Spent clock) = clock < 2 ^ 64
IsAnswer (Cut mark) = IsMark mark
IsAnswer Unstarted = Unit {0}

abbrev pub answer_fields : Answer → List (List ℕ)
answer_fields (Old old place) = old_text old ∷ place_field place ∷ []
answer_fields (Parts count cut) = decimal count ∷ cut_fields cut
answer_fields Full = codes "full" ∷ []
answer_fields (Spent clock) = codes "spent" ∷ decimal clock ∷ []
answer_fields (Cut mark) = codes "cut" ∷ mark_fields mark
answer_fields Unstarted = codes "unstarted" ∷ []

abbrev pub SaysAnswer : List (List ℕ) → Answer → Type 0
SaysAnswer fields answer = IsAnswer answer × (fields ≡ answer_fields answer)

-- What may be said of this call, where it was cut off.
abbrev pub SuitsMark : Op → CutMark → Type 0
SuitsMark op (At place) = IsWriter op
SuitsMark op Open = ⊥
SuitsMark op Found = IsWriter op
SuitsMark op Lost = IsWriter op
SuitsMark op Read = IsGet op

-- What this call may be answered.
abbrev pub Suits : Op → Answer → Type 0
Suits op (Old old place) = ¬ IsScan op
Suits op (Parts count cut) = IsScan op
Suits op Full = IsPut op
Suits op (Spent clock) = IsWriter op
Suits op (Cut mark) = SuitsMark op mark
Suits op Unstarted = Unit {0}

-- The answer, where these are its parts.
abbrev pub reply_of : Answer → List ScanPart → Reply
reply_of (Old old place) parts = reply.Old old place
reply_of (Parts count cut) parts = reply.Parts parts cut
reply_of Full parts = reply.Full
reply_of (Spent clock) parts = reply.Spent clock
reply_of (Cut mark) parts = reply.Cut mark
reply_of Unstarted parts = reply.Unstarted

-- How many lines of parts follow.
abbrev pub count_of : Answer → ℕ
count_of (Old old place) = 0
count_of (Parts count cut) = count
count_of Full = 0
count_of (Spent clock) = 0
count_of (Cut mark) = 0
count_of Unstarted = 0

-- What a reply tells but for its parts.
abbrev pub answer_of : Reply → Answer
answer_of (reply.Old old place) = Old old place
answer_of (reply.Parts parts cut) = Parts (length parts) cut
answer_of reply.Full = Full
answer_of (reply.Spent clock) = Spent clock
answer_of (reply.Cut mark) = Cut mark
answer_of reply.Unstarted = Unstarted
