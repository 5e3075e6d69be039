-- The end of a merged node, and its way back, step by step.
use Rattle.std.specs.Prelude.{◌≡◌, ◌≢◌, ℕ, ◌<◌, List}
use Rattle.pm_words.specs.Codes.{free_status, gone_status}
use Rattle.pm_words.specs.declared.layout.Layout.{Layout}
use Rattle.pm_words.specs.declared.action.Action.{Action}
use Rattle.pm_words.specs.declared.action.Action.TheVariants.{Store}
use Rattle.pm_words.specs.declared.machine.Turn.{Turn}
use Rattle.pm_words.specs.declared.machine.Turn.TheVariants.{Go, Done}
use Rattle.pm_words.specs.Layouts.{IsLayout}
use Rattle.pm_words.specs.Locations.{Location, Volatile, HasLocation, address_of, at}
use Rattle.pm_words.specs.Rows.{IsRow, acted}
use Rattle.pm_words.specs.Offsets.{stamp_offset, status_offset}
use Rattle.call_stages.specs.Kinds.{status_address}
use Rattle.pm_alloc.specs.declared.gone.Retire.{Retire}
use Rattle.pm_alloc.specs.declared.gone.Release.{Release}
use Rattle.pm_alloc.specs.declared.gone.ReleaseAt.{ReleaseAt}
use Rattle.pm_alloc.specs.declared.gone.ReleaseAt.TheVariants.{Stamp, Status}

-- the store that retires a node
abbrev pub retires : Layout → ℕ → Action
retires l n = Store (status_address l n) gone_status

-- the machine that makes that store, and no other action
abbrev pub retire_from : Layout → ℕ → Retire
retire_from layout node = record { layout = layout; node = node }

abbrev pub retire_asks : Retire → Action
retire_asks retire = retires retire.layout retire.node

abbrev pub retire_turned : Retire → ℕ → Turn Retire (Unit {0})
retire_turned retire got = Done tt

-- what its fields keep
pub record IsRetire (retire : Retire) : Type 0 where
  pub layout : IsLayout retire.layout
  pub node : retire.node < retire.layout.nodes

abbrev pub retire_takes : Retire → ℕ → Type 0
retire_takes retire got = IsRetire retire

abbrev pub retire_left : Retire → ℕ
retire_left retire = 1

-- the address of a node's stamp, and the stamp of a node that has none
abbrev pub stamp_address : Layout → ℕ → ℕ
stamp_address l n = address_of l (Volatile n stamp_offset)

abbrev pub no_stamp : ℕ
no_stamp = 0

abbrev pub release_from : Layout → ℕ → Release
release_from layout node = record { layout = layout; node = node; at = Stamp }

abbrev pub release_at_asks : Layout → ℕ → ReleaseAt → Action
release_at_asks l n Stamp = Store (stamp_address l n) no_stamp
release_at_asks l n Status = Store (status_address l n) free_status

abbrev pub release_asks : Release → Action
release_asks release = release_at_asks release.layout release.node release.at

abbrev pub release_at_turned : Release → ReleaseAt → Turn Release (Unit {0})
release_at_turned release Stamp = Go (record release { at = Status })
release_at_turned release Status = Done tt

abbrev pub release_turned : Release → ℕ → Turn Release (Unit {0})
release_turned release got = release_at_turned release release.at

-- what its fields keep
pub record IsRelease (release : Release) : Type 0 where
  pub layout : IsLayout release.layout
  pub node : release.node < release.layout.nodes

abbrev pub release_takes : Release → ℕ → Type 0
release_takes release got = IsRelease release

abbrev pub release_at_left : ReleaseAt → ℕ
release_at_left Stamp = 2
release_at_left Status = 1

abbrev pub release_left : Release → ℕ
release_left release = release_at_left release.at

-- Of a row of words that becomes another: the node is GONE, and every other word is as it was.
pub record IsRetired (l : Layout) (n : ℕ) (words after : List ℕ) : Type 0 where
  pub status : at l after (Volatile n status_offset) ≡ gone_status
  pub others : (q : Location) → HasLocation l q → q ≢ Volatile n status_offset → at l after q ≡ at l words q

-- So it is where a node is retired with no other party about.
abbrev pub RetiresAlone : Type 0
RetiresAlone = (l : Layout) (n : ℕ) (words : List ℕ) → IsRow l words → n < l.nodes →
    IsRetired l n words (acted l words (retires l n))

-- The node is FREE, without a stamp, and every other word is as it was.
pub record IsReleased (l : Layout) (n : ℕ) (words after : List ℕ) : Type 0 where
  pub status : at l after (Volatile n status_offset) ≡ free_status
  pub stamp : at l after (Volatile n stamp_offset) ≡ no_stamp
  pub others : (q : Location) → HasLocation l q → q ≢ Volatile n status_offset → q ≢ Volatile n stamp_offset →
      at l after q ≡ at l words q

-- So it is where a node is released with no other party about: by both actions, the stamp's first.
abbrev pub ReleasesAlone : Type 0
ReleasesAlone = (l : Layout) (n : ℕ) (words : List ℕ) → IsRow l words → n < l.nodes →
    IsReleased l n words (acted l (acted l words (release_at_asks l n Stamp)) (release_at_asks l n Status))
