-- The calls of a round of one caller, done in their order.
use Rattle.std.proofs.Common.{◌≡◌, ℕ, ◌+◌, List, [], ◌∷◌, ◌++◌, length, map, get_or, refl, sym, ap, subst, ◌∙◌, arith}
use Rattle.std.specs.Prelude.{Option, Some, None, option_map}
use Rattle.std.specs.List.{AllByRecursion, cons_option}
use Rattle.std.proofs.lemmas.List.Elements.{recursion_from_All}
use Rattle.std.proofs.lemmas.List.Folds.{fold-map}
use Rattle.cat_history.specs.Maps.{Map}
use Rattle.cat_history.specs.Writes.{after_all, changed}
use Rattle.cat_history.specs.CrashEnds.{after_changes}
use Rattle.cat_history.specs.LoneRounds.{write_of, HoldsAlong, IsAnswerNow}
use Rattle.cat_history.specs.Records.{Call, call_of, change_asked, numbered_after, placed_write, placed_writes}
use Rattle.cat_history.specs.declared.op.CallerOp.{CallerOp}
use Rattle.cat_history.specs.declared.op.Change.{Change}
use Rattle.cat_history.specs.declared.op.Op.{Op}
use Rattle.cat_history.specs.declared.op.Op.TheVariants.{Put, Get, Del, Scan}
use Rattle.cat_history.specs.declared.op.Write.{Write}
use Rattle.cat_history.specs.declared.record.Record.{Record}
use Rattle.cat_history.specs.declared.record.Reply.{Reply}
use Rattle.cat_history.specs.declared.record.Reply.TheVariants.{Old, Parts, Full, Spent, Cut, Unstarted}
use Rattle.caller_rounds.specs.Apart.{LoneIsInOrder, TookPlace, changes_asked}

abbrev change_in : ℕ × Write → Change
change_in w = w.1.change

-- a call that took place placed the change that it asks for
one : (m : Map) (place caller index : ℕ) (op : Op) (reply : Reply) → IsAnswerNow m place op reply → TookPlace reply →
    option_map change_in (placed_write (record { caller = caller; index = index; op = op; reply = reply })) ≡ change_asked op
one m place caller index (Put name value) (Old old at_place) answer took = refl
one m place caller index (Get name) (Old old at_place) answer took = refl
one m place caller index (Del name) (Old old at_place) answer took = refl
one m place caller index (Scan from count) (Old old at_place) answer took = refl
one m place caller index (Put name value) (Parts parts cut) answer took = absurd answer.1
one m place caller index (Get name) (Parts parts cut) answer took = refl
one m place caller index (Del name) (Parts parts cut) answer took = absurd answer.1
one m place caller index (Scan from count) (Parts parts cut) answer took = refl
one m place caller index op Full answer took = absurd took
one m place caller index op (Spent clock) answer took = absurd took
one m place caller index op (Cut mark) answer took = absurd took
one m place caller index op Unstarted answer took = absurd took

step : (o : Option (ℕ × Write)) (c : Option Change) (ws : List (ℕ × Write)) (cs : List Change) → option_map change_in o ≡ c → map change_in ws ≡ cs → map change_in (cons_option o ws) ≡ cons_option c cs
step None c ws cs is more = subst (λ (d : Option Change). map change_in ws ≡ cons_option d cs) is more
step (Some w) c ws cs is more = subst (λ (d : Option Change). change_in w ∷ map change_in ws ≡ cons_option d cs) is (ap (λ l. change_in w ∷ l) more)

in-order : (m : Map) (place : ℕ) (before : List ℕ) (asked : List CallerOp) (records : List Record) → HoldsAlong (λ n k r. IsAnswerNow n k r.op r.reply) m place records → map call_of records ≡ numbered_after before asked →
    AllByRecursion (λ (r : Record). TookPlace r.reply) records → map change_in (placed_writes records) ≡ changes_asked asked
in-order m place before [] [] along same took = refl
in-order m place before [] (r ∷ records) along same took = let none = ap length same in absurd (omega (arith, none))
in-order m place before (a ∷ asked) [] along same took = let none = ap length same in absurd (omega (arith, none))
in-order m place before (a ∷ asked) (r ∷ records) along same took =
    let head : r.op ≡ a.op = ap (λ (cs : List Call). (get_or cs 0 (call_of r)).op) same in
    let tails : map call_of records ≡ numbered_after (before ++ a.caller ∷ []) asked = cc in
    step (placed_write r) (change_asked a.op) (placed_writes records) (changes_asked asked) (one m place r.caller r.index r.op r.reply along.0 took.0 ∙ ap change_asked head)
    (in-order (after_all m (write_of r)) (place + length (write_of r)) (before ++ a.caller ∷ []) asked records along.1 tails took.1)

pub lone_is_in_order : LoneIsInOrder
lone_is_in_order base asked records along same took =
    fold-map (λ (n : Map) (w : Write). changed n w.change) (λ (w : ℕ × Write). w.1) base (placed_writes records) ∙ sym (fold-map changed change_in base (placed_writes records))
    ∙ ap (after_changes base) (in-order base 0 [] asked records along same (recursion_from_All (λ (r : Record). TookPlace r.reply) records took))
