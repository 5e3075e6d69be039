-- Which records of a round are those of answered calls.
use Rattle.std.proofs.Common.{◌≡◌, Bool, true, false, not, List, [], ◌∷◌, ◌++◌, cond, refl, sym, ap, ◌∙◌, append-nil}
use Rattle.std.proofs.lemmas.List.Elements.{recursion_from_All}
use Rattle.std.specs.List.{AllByRecursion}
use Rattle.cat_history.specs.Rounds.{IsAnswered, is_answered, answered_records, AnsweredAreAll, AnsweredComeFirst}
use Rattle.cat_history.specs.declared.record.Record.{Record}
use Rattle.cat_history.specs.declared.record.Reply.{Reply}
use Rattle.cat_history.specs.declared.record.Reply.TheVariants.{Old, Parts, Full, Spent, Cut, Unstarted}

-- the test says whether a call was answered
pub answered_is : (reply : Reply) → IsAnswered reply → is_answered reply ≡ true
answered_is (Old old place) answered = refl
answered_is (Parts parts cut) answered = ap not answered
answered_is Full answered = refl
answered_is (Spent clock) answered = refl
answered_is (Cut mark) answered = absurd answered
answered_is Unstarted answered = absurd answered

pub unanswered_is : (reply : Reply) → (IsAnswered reply → ⊥) → is_answered reply ≡ false
unanswered_is (Old old place) unanswered = absurd (unanswered tt)
unanswered_is (Parts parts true) unanswered = refl
unanswered_is (Parts parts false) unanswered = absurd (unanswered refl)
unanswered_is Full unanswered = absurd (unanswered tt)
unanswered_is (Spent clock) unanswered = absurd (unanswered tt)
unanswered_is (Cut mark) unanswered = refl
unanswered_is Unstarted unanswered = refl

none-answered : (rest : List Record) → AllByRecursion (λ (r : Record). IsAnswered r.reply → ⊥) rest → answered_records rest ≡ []
none-answered [] none = refl
none-answered (r ∷ rest) none = ap (λ (b : Bool). cond b (r ∷ answered_records rest) (answered_records rest)) (unanswered_is r.reply none.0) ∙ none-answered rest none.1

first-answered : (done rest : List Record) → AllByRecursion (λ (r : Record). IsAnswered r.reply) done → AllByRecursion (λ (r : Record). IsAnswered r.reply → ⊥) rest → answered_records (done ++ rest) ≡ done
first-answered [] rest all none = none-answered rest none
first-answered (r ∷ done) rest all none =
    ap (λ (b : Bool). cond b (r ∷ answered_records (done ++ rest)) (answered_records (done ++ rest))) (answered_is r.reply all.0)
    ∙ ap (λ (rs : List Record). r ∷ rs) (first-answered done rest all.1 none)

pub answered_come_first : AnsweredComeFirst
answered_come_first done rest all none =
    first-answered done rest (recursion_from_All (λ (r : Record). IsAnswered r.reply) done all) (recursion_from_All (λ (r : Record). IsAnswered r.reply → ⊥) rest none)

pub answered_are_all : AnsweredAreAll
answered_are_all records all =
    ap answered_records (sym (append-nil records)) ∙ first-answered records [] (recursion_from_All (λ (r : Record). IsAnswered r.reply) records all) tt
