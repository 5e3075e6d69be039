-- Set and unset: a change to a node, and a change to none.
use Rattle.std.specs.Prelude.{◌≡◌, ◌≢◌, ℕ, ◌^◌, ◌<◌, ◌+◌, List}
use Rattle.pm_words.specs.declared.layout.Layout.{Layout}
use Rattle.pm_words.specs.declared.action.Action.{Action}
use Rattle.pm_words.specs.declared.machine.Turn.{Turn}
use Rattle.pm_words.specs.declared.machine.Turn.TheVariants.{Go, Done}
use Rattle.layer_map.specs.Keys.{key_number}
use Rattle.tree_update.specs.declared.change.Change.{Change}
use Rattle.tree_update.specs.declared.change.Ended.{Ended}
use Rattle.tree_update.specs.declared.set.Set.{Set}
use Rattle.tree_update.specs.declared.set.Unset.{Unset}
use Rattle.tree_update.specs.Changes.{IsChange, change_starts, change_asks, change_turned, change_left}

abbrev pub set_starts : Layout → List ℕ → ℕ → Set
set_starts l key node = record { change = change_starts l key (node + 1) }

abbrev pub set_of : Turn Change Ended → Turn Set Ended
set_of (Go change) = Go (record { change = change })
set_of (Done ended) = Done ended

-- how it has ended isn't told
abbrev pub untold : {M : Type 0} → Turn M Ended → Turn M (Unit {0})
untold (Go machine) = Go machine
untold (Done ended) = Done tt

abbrev pub set_asks : Set → Action
set_asks set = change_asks set.change

abbrev pub set_turned : Set → ℕ → Turn Set Ended
set_turned set got = set_of (change_turned set.change got)

abbrev pub set_resumed : Set → ℕ → Turn Set (Unit {0})
set_resumed set got = untold (set_turned set got)

pub record IsSet (set : Set) : Type 0 where
  pub change : IsChange set.change
  pub word : set.change.word ≢ 0

abbrev pub set_takes : Set → ℕ → Type 0
set_takes set got = IsSet set × (got < 2 ^ 64)

abbrev pub set_left : Set → ℕ
set_left set = change_left set.change

abbrev pub unset_starts : Layout → List ℕ → Unset
unset_starts l key = record { change = change_starts l key 0 }

abbrev pub unset_of : Turn Change Ended → Turn Unset Ended
unset_of (Go change) = Go (record { change = change })
unset_of (Done ended) = Done ended

abbrev pub unset_asks : Unset → Action
unset_asks unset = change_asks unset.change

abbrev pub unset_turned : Unset → ℕ → Turn Unset Ended
unset_turned unset got = unset_of (change_turned unset.change got)

abbrev pub unset_resumed : Unset → ℕ → Turn Unset (Unit {0})
unset_resumed unset got = untold (unset_turned unset got)

-- the zero key isn't taken out
pub record IsUnset (unset : Unset) : Type 0 where
  pub change : IsChange unset.change
  pub word : unset.change.word ≡ 0
  pub key : key_number unset.change.key ≢ 0

abbrev pub unset_takes : Unset → ℕ → Type 0
unset_takes unset got = IsUnset unset × (got < 2 ^ 64)

abbrev pub unset_left : Unset → ℕ
unset_left unset = change_left unset.change
