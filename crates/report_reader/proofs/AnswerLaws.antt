-- What an answer is, by its first fields.
use Rattle.std.proofs.Common.{◌≡◌, ℕ, ◌^◌, ◌<◌, inl, inr, Bool, true, false, List, [], ◌∷◌, Option, length, get_or, drop, decimal, codes, refl, ap, arith}
use Rattle.cat_history.specs.declared.op.Op.{Op}
use Rattle.cat_history.specs.declared.record.CutMark.{CutMark}
use Rattle.cat_history.specs.declared.record.CutMark.TheVariants.{At, Open, Found, Lost, Read}
use Rattle.cat_history.specs.declared.record.Reply.{Reply}
use Rattle.cat_history.specs.declared.record.Reply.TheVariants as reply
use Rattle.cat_text.specs.Reports.{old_text}
use Rattle.cat_text.specs.ReportGrammar.{IsReportReply}
use Rattle.cat_text.specs.ReportLines.{place_field, cut_fields, mark_fields, reply_fields}
use Rattle.cat_text.proofs.FieldLemmas.{apart, number_begins}
use Rattle.cat_text.proofs.ReplyLaws.{lead, old_begins}
use Rattle.report_reader.specs.Answers.{IsOld, IsMark, IsAnswer, Suits, answer_fields, answer_of}
use Rattle.report_reader.specs.declared.answer.Answer.{Answer}
use Rattle.report_reader.specs.declared.answer.Answer.TheVariants.{Old, Parts, Full, Spent, Cut, Unstarted}

-- the first field, and the first byte of the second
abbrev front : List (List ℕ) → List ℕ
front fields = get_or fields 0 []

abbrev second : List (List ℕ) → ℕ
second fields = get_or (get_or fields 1 []) 0 0

pub unstarted_alone : (a : Answer) (more : List (List ℕ)) → IsAnswer a → codes "unstarted" ∷ more ≡ answer_fields a → more ≡ []
unstarted_alone (Old old place) more is same = let e : 117 ≡ get_or (old_text old) 0 0 = ap lead same in absurd (omega (arith, e, old_begins old is.0))
unstarted_alone (Parts count cut) more is same = let e : 117 ≡ get_or (decimal count) 0 0 = ap lead same in absurd (omega (arith, e, number_begins count is))
unstarted_alone Full more is same = absurd (apart 117 102 (ap lead same) (inr (omega arith)))
unstarted_alone (Spent clock) more is same = absurd (apart 117 115 (ap lead same) (inr (omega arith)))
unstarted_alone (Cut mark) more is same = absurd (apart 117 99 (ap lead same) (inr (omega arith)))
unstarted_alone Unstarted more is same = ap (drop 1) same

pub full_alone : (a : Answer) (more : List (List ℕ)) → IsAnswer a → codes "full" ∷ more ≡ answer_fields a → more ≡ []
full_alone (Old old place) more is same = let e : 102 ≡ get_or (old_text old) 0 0 = ap lead same in absurd (omega (arith, e, old_begins old is.0))
full_alone (Parts count cut) more is same = let e : 102 ≡ get_or (decimal count) 0 0 = ap lead same in absurd (omega (arith, e, number_begins count is))
full_alone Full more is same = ap (drop 1) same
full_alone (Spent clock) more is same = absurd (apart 102 115 (ap lead same) (inl (omega arith)))
full_alone (Cut mark) more is same = absurd (apart 102 99 (ap lead same) (inr (omega arith)))
full_alone Unstarted more is same = absurd (apart 102 117 (ap lead same) (inl (omega arith)))

pub spent_needs : (a : Answer) (more : List (List ℕ)) → IsAnswer a → codes "spent" ∷ more ≡ answer_fields a →
    (clock : ℕ) × (clock < 2 ^ 64) × (more ≡ decimal clock ∷ [])
spent_needs (Old old place) more is same = let e : 115 ≡ get_or (old_text old) 0 0 = ap lead same in absurd (omega (arith, e, old_begins old is.0))
spent_needs (Parts count cut) more is same = let e : 115 ≡ get_or (decimal count) 0 0 = ap lead same in absurd (omega (arith, e, number_begins count is))
spent_needs Full more is same = absurd (apart 115 102 (ap lead same) (inr (omega arith)))
spent_needs (Spent clock) more is same = (clock, is, ap (drop 1) same)
spent_needs (Cut mark) more is same = absurd (apart 115 99 (ap lead same) (inr (omega arith)))
spent_needs Unstarted more is same = absurd (apart 115 117 (ap lead same) (inl (omega arith)))

pub cut_needs : (a : Answer) (more : List (List ℕ)) → IsAnswer a → codes "cut" ∷ more ≡ answer_fields a →
    (mark : CutMark) × IsMark mark × (more ≡ mark_fields mark)
cut_needs (Old old place) more is same = let e : 99 ≡ get_or (old_text old) 0 0 = ap lead same in absurd (omega (arith, e, old_begins old is.0))
cut_needs (Parts count cut) more is same = let e : 99 ≡ get_or (decimal count) 0 0 = ap lead same in absurd (omega (arith, e, number_begins count is))
cut_needs Full more is same = absurd (apart 99 102 (ap lead same) (inl (omega arith)))
cut_needs (Spent clock) more is same = absurd (apart 99 115 (ap lead same) (inl (omega arith)))
cut_needs (Cut mark) more is same = (mark, is, ap (drop 1) same)
cut_needs Unstarted more is same = absurd (apart 99 117 (ap lead same) (inl (omega arith)))

-- a mark has one field at most, a place where that is another word
pub mark_short : (mark : CutMark) → IsMark mark → (field next : List ℕ) (more : List (List ℕ)) → field ∷ next ∷ more ≡ mark_fields mark → ⊥
mark_short (At place) is field next more same = omega (arith, ap length same)
mark_short Open is field next more same = is
mark_short Found is field next more same = omega (arith, ap length same)
mark_short Lost is field next more same = omega (arith, ap length same)
mark_short Read is field next more same = omega (arith, ap length same)

pub mark_place : (mark : CutMark) → IsMark mark → (field : List ℕ) (more : List (List ℕ)) → (field ≡ codes "found" → ⊥) → (field ≡ codes "lost" → ⊥) → field ∷ more ≡ mark_fields mark →
    (place : ℕ) × (place < 2 ^ 64) × (field ≡ place_field place)
mark_place (At place) is field more found lost same = (place, is, ap front same)
mark_place Open is field more found lost same = absurd is
mark_place Found is field more found lost same = absurd (found (ap front same))
mark_place Lost is field more found lost same = absurd (lost (ap front same))
mark_place Read is field more found lost same = absurd (omega (arith, ap length same))

-- a first field that is none of these words
pub record IsNoWord (first : List ℕ) : Type 0 where
  pub unstarted : first ≡ codes "unstarted" → ⊥
  pub full : first ≡ codes "full" → ⊥
  pub spent : first ≡ codes "spent" → ⊥
  pub cut : first ≡ codes "cut" → ⊥

-- what begins so has a second field
pub some_second : (a : Answer) (first : List ℕ) → IsNoWord first → IsAnswer a → first ∷ [] ≡ answer_fields a → ⊥
some_second (Old old place) first un is same = omega (arith, ap length same)
some_second (Parts count false) first un is same = omega (arith, ap length same)
some_second (Parts count true) first un is same = omega (arith, ap length same)
some_second Full first un is same = un.full (ap front same)
some_second (Spent clock) first un is same = un.spent (ap front same)
some_second (Cut mark) first un is same = un.cut (ap front same)
some_second Unstarted first un is same = un.unstarted (ap front same)

-- the second field is no such word
mark_no_parts : (mark : CutMark) (more : List (List ℕ)) → IsMark mark → codes "parts" ∷ more ≡ mark_fields mark → ⊥
mark_no_parts (At place) more is same = apart 112 64 (ap lead same) (inr (omega arith))
mark_no_parts Open more is same = is
mark_no_parts Found more is same = apart 112 102 (ap lead same) (inr (omega arith))
mark_no_parts Lost more is same = apart 112 108 (ap lead same) (inr (omega arith))
mark_no_parts Read more is same = omega (arith, ap length same)

pub parts_need : (a : Answer) (first : List ℕ) (more : List (List ℕ)) → IsAnswer a → first ∷ codes "parts" ∷ more ≡ answer_fields a →
    (count : ℕ) × (cut : Bool) × (count < 2 ^ 64) × (first ≡ decimal count) × (codes "parts" ∷ more ≡ cut_fields cut)
parts_need (Old old place) first more is same = absurd (apart 112 64 (ap second same) (inr (omega arith)))
parts_need (Parts count cut) first more is same = (count, cut, is, ap front same, ap (drop 1) same)
parts_need Full first more is same = absurd (omega (arith, ap length same))
parts_need (Spent clock) first more is same =
    let e : 112 ≡ get_or (decimal clock) 0 0 = ap second same in absurd (omega (arith, e, number_begins clock is))
parts_need (Cut mark) first more is same = absurd (mark_no_parts mark more is (ap (drop 1) same))
parts_need Unstarted first more is same = absurd (omega (arith, ap length same))

-- an answer of a number or none, and a place
pub record NeedsOld (first field : List ℕ) (more : List (List ℕ)) : Type 0 where
  pub old : Option ℕ
  pub place : ℕ
  pub is : IsOld old
  pub small : place < 2 ^ 64
  pub text : first ≡ old_text old
  pub at : field ≡ place_field place
  pub end : more ≡ []

pub old_needs : (a : Answer) (first field : List ℕ) (more : List (List ℕ)) → IsNoWord first → (field ≡ codes "parts" → ⊥) → IsAnswer a →
    first ∷ field ∷ more ≡ answer_fields a → NeedsOld first field more
old_needs (Old old place) first field more un other is same =
    record { old = old; place = place; is = is.0; small = is.1; text = ap front same; at = ap (λ (l : List (List ℕ)). get_or l 1 []) same; end = ap (drop 2) same }
old_needs (Parts count false) first field more un other is same = absurd (other (ap (λ (l : List (List ℕ)). get_or l 1 []) same))
old_needs (Parts count true) first field more un other is same = absurd (other (ap (λ (l : List (List ℕ)). get_or l 1 []) same))
old_needs Full first field more un other is same = absurd (un.full (ap front same))
old_needs (Spent clock) first field more un other is same = absurd (un.spent (ap front same))
old_needs (Cut mark) first field more un other is same = absurd (un.cut (ap front same))
old_needs Unstarted first field more un other is same = absurd (un.unstarted (ap front same))

-- what a reply tells but for its parts
pub record TellsReply (op : Op) (r : Reply) : Type 0 where
  pub is : IsAnswer (answer_of r)
  pub suits : Suits op (answer_of r)
  pub fields : answer_fields (answer_of r) ≡ reply_fields r

pub tells_reply : (op : Op) (r : Reply) → IsReportReply op r → TellsReply op r
tells_reply op (reply.Old old place) is = record { is = (is.1, is.2); suits = is.0; fields = refl }
tells_reply op (reply.Parts parts cut) is = record { is = is.2; suits = is.0; fields = refl }
tells_reply op reply.Full is = record { is = tt; suits = is; fields = refl }
tells_reply op (reply.Spent clock) is = record { is = is.1; suits = is.0; fields = refl }
tells_reply op (reply.Cut (At place)) is = record { is = is.1; suits = is.0; fields = refl }
tells_reply op (reply.Cut Open) is = absurd is
tells_reply op (reply.Cut Found) is = record { is = tt; suits = is; fields = refl }
tells_reply op (reply.Cut Lost) is = record { is = tt; suits = is; fields = refl }
tells_reply op (reply.Cut Read) is = record { is = tt; suits = is; fields = refl }
tells_reply op reply.Unstarted is = record { is = tt; suits = tt; fields = refl }
