-- A get, step by step.
use Rattle.std.specs.Prelude.{◌≡◌, ℕ, ◌+◌, ◌==◌, if◌then◌else◌, Option, None}
use Rattle.pm_words.specs.declared.action.Action.{Action}
use Rattle.pm_words.specs.declared.action.Action.TheVariants.{Load}
use Rattle.pm_words.specs.declared.again.Again.TheVariants.{Moved}
use Rattle.pm_words.specs.declared.machine.Turn.{Turn}
use Rattle.pm_words.specs.declared.machine.Turn.TheVariants.{Go, Done}
use Rattle.pm_words.specs.Offsets.{version_offset}
use Rattle.call_stages.specs.declared.once.Once.{Once}
use Rattle.call_stages.specs.declared.once.Once.TheVariants as once
use Rattle.call_stages.specs.declared.once.Placed.{Placed}
use Rattle.call_stages.specs.Kinds.{Told}
use Rattle.node_ops.specs.declared.call.Call.{Call}
use Rattle.node_ops.specs.declared.lookup.Looked.{Looked}
use Rattle.node_ops.specs.declared.lookup.Looked.TheVariants as looked
use Rattle.node_ops.specs.declared.lookup.Lookup.{Lookup}
use Rattle.node_ops.specs.declared.get.Get.{Get}
use Rattle.node_ops.specs.declared.get.Get.TheVariants.{Looking, Checking}
use Rattle.node_ops.specs.Calls.{IsCall, call_address}
use Rattle.node_ops.specs.declared.lookup.Hold.{Hold}
use Rattle.node_ops.specs.LookupSteps.{value_of, IsLookup, lookup_asks, lookup_turned, lookup_left}

-- what stays the same while it is made
abbrev pub get_call : Get → Call
get_call (Looking lookup) = lookup.call
get_call (Checking call hold old) = call

abbrev pub get_asks : Get → Action
get_asks (Looking lookup) = lookup_asks lookup
get_asks (Checking call hold old) = Load (call_address call version_offset)

-- after a turn of the look-up
abbrev pub get_looked : Call → Turn Lookup Looked → Turn Get (Once Placed)
get_looked call (Go lookup) = Go (Looking lookup)
get_looked call (Done (looked.Early answer)) = Done answer
get_looked call (Done (looked.Found found)) = Go (Checking call found.hold (value_of found.hit))

-- the version word is still the one that the walk saw, or another one
abbrev pub checked : Call → Hold → Option ℕ → ℕ → Once Placed
checked call hold old got =
    if got == hold.locked
    then once.Done (record { old = old; place = hold.clock; hops = call.hops })
    else once.Again (Moved call.node hold.locked got)

abbrev pub get_turned : Get → ℕ → Turn Get (Once Placed)
get_turned (Looking lookup) got = get_looked lookup.call (lookup_turned lookup got)
get_turned (Checking call hold old) got = Done (checked call hold old got)

-- what its fields keep
abbrev pub IsGet : Get → Type 0
IsGet (Looking lookup) = IsLookup lookup × (lookup.call.limit ≡ None)
IsGet (Checking call hold old) = IsCall call × (call.limit ≡ None)

abbrev pub get_takes : Get → ℕ → Type 0
get_takes get got = IsGet get × Told (get_call get).view.layout (get_call get).view.generation (get_asks get) got

abbrev pub get_left : Get → ℕ
get_left (Looking lookup) = lookup_left lookup + 1
get_left (Checking call hold old) = 1
