-- What the map may be after a crash that cut changes off: each of them was made or not, and what is found tells which.
use Rattle.std.specs.Prelude.{◌≡◌, ℕ, ◌==◌, ◌⊎◌, Bool, false, Option, Some, None, List, Contains, fold}
use Rattle.std.specs.List.{filter}
use Rattle.std.specs.Option.{is_none}
use Rattle.cat_history.specs.Maps.{Map, at}
use Rattle.cat_history.specs.Writes.{name_of, changed}
use Rattle.cat_history.specs.declared.op.Change.{Change}
use Rattle.cat_history.specs.declared.op.Change.TheVariants.{Put, Del}

-- A put is found where the map has its value under its name, a delete where the map lacks its name.
abbrev pub IsFound : Map → Change → Type 0
IsFound end (Put name value) = at end name ≡ Some value
IsFound end (Del name) = at end name ≡ None

-- The number is this value.
abbrev pub has_value : Option ℕ → ℕ → Bool
has_value None value = false
has_value (Some number) value = number == value

-- The same as a test.
abbrev pub is_found : Map → Change → Bool
is_found end (Put name value) = has_value (at end name) value
is_found end (Del name) = is_none (at end name)

-- The changes that are found, in their order.
abbrev pub found_in : Map → List Change → List Change
found_in end cuts = filter (is_found end) cuts

-- The map after these changes, one after another.
abbrev pub after_changes : Map → List Change → Map
after_changes m changes = fold changed m changes

-- A run that left the map m, and changes cut off, ends with this map: it is m after the changes that are found in it.
abbrev pub IsCrashEnd : Map → List Change → Map → Type 0
IsCrashEnd m cuts end = end ≡ after_changes m (found_in end cuts)

-- A change of this name that was cut off is found.
pub record IsFoundCut (cuts : List Change) (end : Map) (name : List ℕ) : Type 0 where
  pub change : Change
  pub cut : Contains cuts change
  pub about : name_of change ≡ name
  pub found : IsFound end change

-- Under each name stands what the map m has, or what a change of this name that was cut off leaves.
abbrev pub HasOldOrCut : Map → List Change → Map → Type 0
HasOldOrCut m cuts end = (name : List ℕ) → (at end name ≡ at m name) ⊎ IsFoundCut cuts end name

-- Then the map is such an end.
abbrev pub OldOrCutIsCrashEnd : Type 0
OldOrCutIsCrashEnd = (m : Map) (cuts : List Change) (end : Map) → HasOldOrCut m cuts end → IsCrashEnd m cuts end

-- The map as it was is an end, whatever was cut off, and so is the map after any one of the changes that were.
abbrev pub NoneOrOneIsCrashEnd : Type 0
NoneOrOneIsCrashEnd = (m : Map) (cuts : List Change) →
    IsCrashEnd m cuts m × ((change : Change) → Contains cuts change → IsCrashEnd m cuts (changed m change))
