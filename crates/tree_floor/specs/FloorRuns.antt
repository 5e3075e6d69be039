-- A floor that makes its loads one after another.
use Rattle.std.specs.Prelude.{ℕ, ◌+◌, List, [], ◌∷◌}
use Rattle.pm_words.specs.declared.layout.Layout.{Layout}
use Rattle.pm_words.specs.declared.action.Action.TheVariants.{Load}
use Rattle.pm_words.specs.declared.machine.Turn.{Turn}
use Rattle.pm_words.specs.Images.{Row}
use Rattle.pm_words.specs.Locations.{cached_address}
use Rattle.pm_words.specs.Rows.{acted, got}
use Rattle.machine_runs.specs.Runs.{Bursts, IsOnRun, MayGo}
use Rattle.tree_floor.specs.declared.floor.Floor.{Floor}
use Rattle.tree_floor.specs.declared.floor.FloorAt.{FloorAt}
use Rattle.tree_floor.specs.declared.floor.FloorAt.TheVariants as at
use Rattle.tree_floor.specs.declared.scan.Scan.{Scan}
use Rattle.tree_floor.specs.Floors.{floor_asks, floor_turned, floor_left, floor_takes}

-- from there on it may do what it asks for
abbrev pub MayFloor : Row → Floor → FloorAt → Type 0
MayFloor row floor here =
    MayGo floor_asks floor_turned floor_left floor_takes row.layout row.words (record floor { at = here })

-- from there on its turns come to this
abbrev pub FloorBursts : Row → Row → Floor → FloorAt → Turn Floor ℕ → ℕ → ℕ → Type 0
FloorBursts old new floor here end begun ended =
    Bursts floor_asks floor_turned floor_left old new (record floor { at = here }) end begun ended

-- of the word of a cell that it reads next it comes to another one
abbrev pub Skims : Row → Row → Floor → ℕ → ℕ → ℕ → Scan → Scan → ℕ → ℕ → Type 0
Skims old new floor cell depth byte first next begun ended =
    IsOnRun floor_asks floor_turned floor_left old new (record floor { at = at.Scanning cell depth byte first })
    (record floor { at = at.Scanning cell depth byte next }) begun ended

-- the words behind loads of three image words from this one on, and what these are
abbrev pub key_loaded : Layout → ℕ → Layout → List ℕ → List ℕ
key_loaded l word row words =
    acted row (acted row (acted row words (Load (cached_address l word))) (Load (cached_address l (word + 1))))
    (Load (cached_address l (word + 2)))

abbrev pub key_at : Layout → ℕ → Layout → List ℕ → List ℕ
key_at l word row words =
    let one = acted row words (Load (cached_address l word)) in
    let two = acted row one (Load (cached_address l (word + 1))) in
    got row words (Load (cached_address l word)) ∷ got row one (Load (cached_address l (word + 1))) ∷
    got row two (Load (cached_address l (word + 2))) ∷ []
