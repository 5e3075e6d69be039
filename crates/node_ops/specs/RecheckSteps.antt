-- A recheck, step by step.
use Rattle.std.specs.Prelude.{ℕ, ◌<◌, ◌==◌, if◌then◌else◌}
use Rattle.pm_words.specs.declared.action.Action.{Action}
use Rattle.pm_words.specs.declared.action.Action.TheVariants.{Load}
use Rattle.pm_words.specs.declared.again.Again.TheVariants.{Moved}
use Rattle.pm_words.specs.declared.machine.Turn.{Turn}
use Rattle.pm_words.specs.declared.machine.Turn.TheVariants.{Go, Done}
use Rattle.call_stages.specs.declared.once.Once.{Once}
use Rattle.call_stages.specs.declared.once.Once.TheVariants as once
use Rattle.call_stages.specs.declared.view.View.{View}
use Rattle.call_stages.specs.Kinds.{Told, clock_address, version_address}
use Rattle.call_stages.specs.Views.{IsView}
use Rattle.node_ops.specs.declared.recheck.Recheck.{Recheck}
use Rattle.node_ops.specs.declared.recheck.Recheck.TheVariants.{Dating, Checking}
use Rattle.node_ops.specs.declared.recheck.Same.{Same}

-- what stays the same while it is made: what it has of the index, its node, and the version word that it was handed
abbrev pub recheck_view : Recheck → View
recheck_view (Dating view node version) = view
recheck_view (Checking view node version clock) = view

abbrev pub recheck_node : Recheck → ℕ
recheck_node (Dating view node version) = node
recheck_node (Checking view node version clock) = node

abbrev pub recheck_version : Recheck → ℕ
recheck_version (Dating view node version) = version
recheck_version (Checking view node version clock) = version

-- the address of the node's version word
abbrev pub version_at : View → ℕ → ℕ
version_at view node = version_address view.layout node

abbrev pub recheck_asks : Recheck → Action
recheck_asks (Dating view node version) = Load (clock_address view.layout)
recheck_asks (Checking view node version clock) = Load (version_at view node)

-- the version word is the one that it was handed, or another one
abbrev pub rechecked : ℕ → ℕ → ℕ → ℕ → Once Same
rechecked node version clock got =
    if got == version then once.Done (record { place = clock })
    else once.Again (Moved node version got)

abbrev pub recheck_turned : Recheck → ℕ → Turn Recheck (Once Same)
recheck_turned (Dating view node version) got = Go (Checking view node version got)
recheck_turned (Checking view node version clock) got = Done (rechecked node version clock got)

-- what its fields keep
abbrev pub IsRecheck : Recheck → Type 0
IsRecheck recheck = IsView (recheck_view recheck) × (recheck_node recheck < (recheck_view recheck).layout.nodes)

abbrev pub recheck_takes : Recheck → ℕ → Type 0
recheck_takes recheck got =
    IsRecheck recheck ×
    Told (recheck_view recheck).layout (recheck_view recheck).generation (recheck_asks recheck) got

abbrev pub recheck_left : Recheck → ℕ
recheck_left (Dating view node version) = 2
recheck_left (Checking view node version clock) = 1
