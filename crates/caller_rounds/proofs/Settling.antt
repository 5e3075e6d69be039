-- What of a round's records stays as their marks are settled.
use Rattle.std.proofs.Common.{◌≡◌, ℕ, ◌+◌, List, [], ◌∷◌, refl}
use Rattle.std.specs.List.{AllByRecursion}
use Rattle.std.proofs.lemmas.List.Elements.{All-from_recursion, recursion_from_All}
use Rattle.cat_history.specs.CrashRounds.{all_settled, settled_reply}
use Rattle.cat_history.specs.Maps.{Map}
use Rattle.cat_history.specs.declared.op.Op.{Op}
use Rattle.cat_history.specs.declared.op.Op.TheVariants.{Put, Get, Del, Scan}
use Rattle.cat_history.specs.declared.record.Record.{Record}
use Rattle.cat_history.specs.declared.record.Reply.{Reply}
use Rattle.cat_history.specs.declared.record.Reply.TheVariants.{Old, Parts, Full, Spent, Cut, Unstarted}
use Rattle.cat_text.specs.ReportGrammar.{StandBehind, StandByCaller}
use Rattle.shapes.specs.ShapeRounds.{FullIsPaid, one_added, puts_added}
use Rattle.caller_rounds.specs.Settling.{SettledStay}

module _ (end : Map) where
  one-stays : (op : Op) (reply : Reply) → one_added op (settled_reply end op reply) ≡ one_added op reply
  one-stays op (Old old place) = refl
  one-stays op (Parts parts cut) = refl
  one-stays op Full = refl
  one-stays op (Spent clock) = refl
  one-stays (Put name value) (Cut mark) = refl
  one-stays (Get name) (Cut mark) = refl
  one-stays (Del name) (Cut mark) = refl
  one-stays (Scan from count) (Cut mark) = refl
  one-stays op Unstarted = refl

  all-added : (records : List Record) → puts_added (all_settled end records) ≡ puts_added records
  all-added [] = refl
  all-added (r ∷ records) = (λ i. one-stays r.op r.reply i + all-added records i)

  full-stays : (op : Op) (reply : Reply) → settled_reply end op reply ≡ Full → reply ≡ Full
  full-stays op (Old old place) is = is
  full-stays op (Parts parts cut) is = is
  full-stays op Full is = is
  full-stays op (Spent clock) is = is
  full-stays op (Cut mark) is = absurd (cc)
  full-stays op Unstarted is = is

  all-paid : (slots nodes weighs names : ℕ) (records : List Record) → AllByRecursion (FullIsPaid slots nodes weighs names) records → AllByRecursion (FullIsPaid slots nodes weighs names) (all_settled end records)
  all-paid slots nodes weighs names [] paid = tt
  all-paid slots nodes weighs names (r ∷ records) paid = (λ is. paid.0 (full-stays r.op r.reply is), all-paid slots nodes weighs names records paid.1)

  stand-behind : (caller index : ℕ) (records : List Record) → StandBehind caller index records → StandBehind caller index (all_settled end records)
  stand-behind caller index [] stands = tt
  stand-behind caller index (r ∷ records) stands = (stands.0, stand-behind r.caller r.index records stands.1)

  all-stand : (records : List Record) → StandByCaller records → StandByCaller (all_settled end records)
  all-stand [] stands = tt
  all-stand (r ∷ records) stands = (stands.0, stand-behind r.caller r.index records stands.1)

pub settled_stay : SettledStay
settled_stay records end = record {
  added = all-added end records;
  paid = λ slots nodes weighs names all.
      All-from_recursion (FullIsPaid slots nodes weighs names) (all_settled end records)
      (all-paid end slots nodes weighs names records (recursion_from_All (FullIsPaid slots nodes weighs names) records all));
  stand = all-stand end records;
}
