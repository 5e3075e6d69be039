-- A turn of the updater with what its walk relies on, and the steps of such turns.
use Rattle.std.specs.Prelude.{◌≡◌, ℕ}
use Rattle.pm_words.specs.declared.action.Action.{Action}
use Rattle.call_stages.specs.Stages.{Sight}
use Rattle.call_stages.specs.Watches.{Watching, Watches, Watch, IsSeenAs}
use Rattle.layer_map.specs.Keys.{key_number}
use Rattle.updater_row_law.specs.Columns.{RowTerms}
use Rattle.updater_row_law.specs.RowStages.{RowLine, RowTarget, RowStage, HasTarget}
use Rattle.updater_row_law.specs.RowSteps.{RowStep}

-- The turn that a party makes, if it makes one: the stamp that it gives, the greatest stamp that it releases, where it
-- is, and what its walk relies on.
pub record Turning : Type 0 where
  pub stamp : ℕ
  pub release : ℕ
  pub stage : RowStage
  pub watch : Watching

-- By a load that gave x, the walk of a turn that relied on that has come to a target: it relies on a sight of it, while
-- the target's version word stands, by which the line's anchor belongs there, and these are the words of the target's.
pub record SeesTarget (r : RowTerms) (watching : Watching) (action : Action) (x : ℕ) (e : RowLine) (target : RowTarget)
    : Type 0 where
  pub sight : Sight
  pub watch : Watch r.layout r.generation watching action x (Watches target.node target.version sight)
  pub seen : IsSeenAs (key_number e.anchor) target.low sight

-- A step of a turn by an action that gives a number: one on the row, and a watch of its walk.
pub record TurnFoot (r : RowTerms) (before : Turning) (action : Action) (x : ℕ) (after : Turning) : Type 0 where
  pub row : RowStep r before.stage action x after.stage
  pub watch : Watch r.layout r.generation before.watch action x after.watch
  pub found : (e : RowLine) (target : RowTarget) → after.stage ≡ HasTarget e target →
      SeesTarget r before.watch action x e target
  pub stamp : after.stamp ≡ before.stamp
  pub release : after.release ≡ before.release
