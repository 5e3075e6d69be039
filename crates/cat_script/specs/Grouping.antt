-- Rounds that are made line by line.
use Rattle.std.specs.Prelude.{◌≡◌, ◌^◌, List, [], ◌++◌}
use Rattle.std.specs.List.{AllByRecursion}
use Rattle.cat_script.specs.Rounds.{AreEnded, GoesOn, calls_in, settings_in}
use Rattle.cat_script.specs.declared.grouping.Grouping.{Grouping}
use Rattle.cat_script.specs.declared.line.Line.{Line}

-- The rounds that these lines ended, and of the lines behind them the calls and settings.
pub record IsGrouping (lines : List Line) (rounds : Grouping) : Type 0 where
  pub closed : List Line
  pub rest : List Line
  pub cut : lines ≡ closed ++ rest
  pub ended : AreEnded [] closed rounds.ended.items
  pub going : AllByRecursion GoesOn rest
  pub ops : rounds.ops.items ≡ calls_in rest
  pub settings : (rounds.updater, rounds.limit) ≡ settings_in (64, 2 ^ 62) lines
