-- What the fields of a core are as an index, and what they keep.
use Rattle.std.specs.Prelude.{ℕ, ◌+◌, ◌-◌, ◌≤◌, vec_len, vec_capacity}
use Rattle.pm_words.specs.declared.action.Action.{Action}
use Rattle.pm_words.specs.declared.action.Action.TheVariants as action
use Rattle.index_core.specs.declared.index.Core.TheInside.{Inside}
use Rattle.index_core.specs.PartyStates.{owed}
use Rattle.index_core.specs.Indexes.{Index, IsIndex, index_made}

-- The index, with so much room to spare.
abbrev pub index_with : Inside → ℕ → Index
index_with c spare = index_made c.memory c.generation c.states.items c.base c.history.items spare

-- What is written, and what the calls in flight may still place, beside which the room is spare.
abbrev pub taken : Inside → ℕ
taken c = vec_len c.history + owed c.states.items

abbrev pub index_of : Inside → Index
index_of c = index_with c (vec_capacity c.history - taken c)

-- The index is lawful, and there is room for what is owed.
abbrev pub IsCore : Inside → Type 0
IsCore c = IsIndex (index_with c 0) × (taken c ≤ vec_capacity c.history)

-- The action adds one to a word.
abbrev pub IsAdd : Action → Type 0
IsAdd (action.Add address) = Unit {0}
IsAdd _ = ⊥
