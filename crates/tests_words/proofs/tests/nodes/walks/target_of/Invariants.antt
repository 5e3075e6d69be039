use Rattle.std.proofs.Common.{◌≡◌, ◌-◌, ◌^◌}
use Rattle.pm_words.specs.declared.layout.Layout.{Layout}
use Rattle.data_list.specs.declared.walk.Walk.{Walk}
use Rattle.data_list.specs.Walks.{IsWalk}
use Rattle.tests_words.proofs.tests.nodes.walks.target_of.Given as goal

-- the walk is sound, on this layout and in the last generation
pub record IsOn (l : Layout) (walk : Walk) : Type 0 where
  pub sound : IsWalk walk
  pub layout : walk.layout ≡ l
  pub last : walk.generation ≡ 2 ^ 24 - 1

abbrev pub invariant-turns : goal.invariant-turns
invariant-turns l = IsOn l.fn.layout l.walk
