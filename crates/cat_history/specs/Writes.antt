-- Changes of a map, and histories of them.
use Rattle.std.specs.Prelude.{ℕ, List, take, fold}
use Rattle.std.specs.FinMap.{insert, remove}
use Rattle.cat_history.specs.Maps.{Map}
use Rattle.cat_history.specs.declared.op.Write.{Write}
use Rattle.cat_history.specs.declared.op.Change.{Change}
use Rattle.cat_history.specs.declared.op.Change.TheVariants.{Put, Del}

-- The name that a change is about.
abbrev pub name_of : Change → List ℕ
name_of (Put name value) = name
name_of (Del name) = name

-- The map after one change. A delete of a name that the map lacks leaves it as it is.
abbrev pub changed : Map → Change → Map
changed m (Put name value) = insert m name value
changed m (Del name) = remove m name

-- The map after all the writes, one after another.
abbrev pub after_all : Map → List Write → Map
after_all m writes = fold (λ n w. changed n w.change) m writes

-- The map after the first k writes.
abbrev pub after : Map → List Write → ℕ → Map
after m writes k = after_all m (take k writes)
