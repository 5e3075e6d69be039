-- How many writes of records have their place.
use Rattle.std.proofs.Common.{◌≡◌, ℕ, ◌+◌, cond, List, [], ◌∷◌, length, refl, ◌∙◌, arith}
use Rattle.std.specs.Prelude.{Option, Some, None, count_by}
use Rattle.std.specs.Option.{is_some}
use Rattle.std.specs.List.{cons_option}
use Rattle.std.proofs.lemmas.List.Sums.{sum_by-cons}
use Rattle.cat_history.specs.Records.{placed_write, placed_writes}
use Rattle.cat_history.specs.declared.op.Write.{Write}
use Rattle.cat_history.specs.declared.record.Record.{Record}

pub placed-counted : (records : List Record) → count_by (λ (r : Record). is_some (placed_write r)) records ≡ length (placed_writes records)
placed-counted [] = refl
placed-counted (r ∷ records) = sum_by-cons (λ (q : Record). cond (is_some (placed_write q)) 1 0) r records ∙ by (placed_write r) (placed-counted records)
  where
    by : (o : Option (ℕ × Write)) → count_by (λ (q : Record). is_some (placed_write q)) records ≡ length (placed_writes records)
        → cond (is_some o) 1 0 + count_by (λ (q : Record). is_some (placed_write q)) records ≡ length (cons_option o (placed_writes records))
    by None rest = omega arith
    by (Some w) rest = omega arith
