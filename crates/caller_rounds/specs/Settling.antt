-- What of a round's records stays as their marks are settled.
use Rattle.std.specs.Prelude.{◌≡◌, ℕ, List, All}
use Rattle.cat_history.specs.CrashRounds.{all_settled}
use Rattle.cat_history.specs.Maps.{Map}
use Rattle.cat_history.specs.declared.record.Record.{Record}
use Rattle.cat_text.specs.ReportGrammar.{StandByCaller}
use Rattle.shapes.specs.ShapeRounds.{FullIsPaid, puts_added}

-- As many puts may have added a name, each full answer is paid for if it was, and the records stand by caller if they
-- did.
pub record StayAsSettled (records : List Record) (end : Map) : Type 0 where
  pub added : puts_added (all_settled end records) ≡ puts_added records
  pub paid : (slots nodes weighs names : ℕ) → All (FullIsPaid slots nodes weighs names) records →
      All (FullIsPaid slots nodes weighs names) (all_settled end records)
  pub stand : StandByCaller records → StandByCaller (all_settled end records)

abbrev pub SettledStay : Type 0
SettledStay = (records : List Record) (end : Map) → StayAsSettled records end
