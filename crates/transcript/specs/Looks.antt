-- What calls on one name were told, each at its place.
use Rattle.std.specs.Prelude.{◌≡◌, ℕ, Option, Some, None, List}
use Rattle.std.specs.List.{filter_map}
use Rattle.cat_history.specs.Maps.{Map, at}
use Rattle.cat_history.specs.declared.op.Op.{Op}
use Rattle.cat_history.specs.declared.op.Op.TheVariants.{Put, Get, Del, Scan}
use Rattle.cat_history.specs.declared.record.Record.{Record}
use Rattle.cat_history.specs.declared.record.Reply.{Reply}
use Rattle.cat_history.specs.declared.record.Reply.TheVariants.{Old, Parts, Full, Spent, Cut, Unstarted}
use Rattle.transcript.specs.declared.looks.Look.{Look}

-- The map has at its place the number that was told.
abbrev pub IsRight : (ℕ → Map) → Look → Type 0
IsRight map_at look = look.old ≡ at (map_at look.place) look.name

-- A look of a call on one name.
abbrev pub look_at : Op → Option ℕ → ℕ → Option Look
look_at (Put name value) old place = Some (record { place = place; name = name; old = old })
look_at (Get name) old place = Some (record { place = place; name = name; old = old })
look_at (Del name) old place = Some (record { place = place; name = name; old = old })
look_at (Scan from count) old place = None

-- The look of a call that was told a number.
abbrev pub look_told : Op → Reply → Option Look
look_told op (Old old place) = look_at op old place
look_told op (Parts parts cut) = None
look_told op Full = None
look_told op (Spent clock) = None
look_told op (Cut mark) = None
look_told op Unstarted = None

abbrev pub look_of : Record → Option Look
look_of r = look_told r.op r.reply

abbrev pub looks_of : List Record → List Look
looks_of told = filter_map look_of told
