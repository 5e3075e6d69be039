-- The call in flight of a party, by what it keeps: a machine for each kind of call, of which one is of a call in flight
-- as long as one flies.
use Rattle.std.specs.Prelude.{Bool, true, false, Option, None}
use Rattle.node_ops.specs.declared.running.Running.{Running}
use Rattle.index_core.specs.declared.flight.Flight.TheInside.{Inside}
use Rattle.index_core.specs.declared.flight.Kind.{Kind}
use Rattle.index_core.specs.declared.flight.Kind.TheVariants.{Get, Put, Del, Part}

-- that of the last call of this kind
abbrev pub machine_of_kind : Inside → Kind → Option Running
machine_of_kind flight Get = flight.get
machine_of_kind flight Put = flight.put
machine_of_kind flight Del = flight.del
machine_of_kind flight Part = flight.part

abbrev pub kept_machine : Bool → Option Running → Option Running
kept_machine true machine = machine
kept_machine false machine = None

abbrev pub flight_of : Inside → Option Running
flight_of flight = kept_machine flight.flies (machine_of_kind flight flight.kind)
