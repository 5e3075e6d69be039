-- What the parties of an index have beside their stages: what they made of the permutations of nodes that they hold,
-- what they read of one, and where the range of a node that they hold ends.
use Rattle.std.specs.Prelude.{◌≡◌, ℕ, List, map, Option, Some, None, IfSome}
use mathlib.Core.Option.{some}
use lib.ListN.{get_elem?}
use Rattle.pm_words.specs.declared.layout.Layout.{Layout}
use Rattle.permutation.specs.Sortings.{Sorting, Unsorted}
use Rattle.permutation_law.specs.Laws.{HasRead}
use Rattle.index_law.specs.Facts.{Facts}
use Rattle.node_ops.specs.declared.running.Running.{Running}
use Rattle.node_ops.specs.Parts.{HeldEnd, HasEnd, end_of}
use Rattle.node_ops.specs.Permuting.{PermutationRead, sorting_of, reading_of}
use Rattle.index_core.specs.declared.party.PartyState.{PartyState}

-- Of a call in flight, or of none.
abbrev pub machine_sorting : Option Running → Sorting
machine_sorting None = Unsorted
machine_sorting (Some machine) = sorting_of machine

abbrev pub machine_reading : Option Running → Option PermutationRead
machine_reading None = None
machine_reading (Some machine) = reading_of machine

abbrev pub machine_end : Option Running → Option HeldEnd
machine_end None = None
machine_end (Some machine) = end_of machine

-- What each party made of a permutation.
abbrev pub sortings_of : List PartyState → List Sorting
sortings_of states = map (λ (state : PartyState). machine_sorting state.machine) states

-- What was read of a permutation stands as long as the version word of its node does.
abbrev pub IsReadSo : Layout → ℕ → Facts → List ℕ → PermutationRead → Type 0
IsReadSo l g f words r = HasRead l g f words r.node r.version r.seen

-- So it is with what a party has read, and the range of the node that it holds ends where it knows that it does.
pub record IsRelying (l : Layout) (g : ℕ) (f : Facts) (words : List ℕ) (machine : Option Running) : Type 0 where
  pub read : IfSome (machine_reading machine) (IsReadSo l g f words)
  pub end : HasEnd l f (machine_end machine)

abbrev pub AreRelying : Layout → ℕ → Facts → List ℕ → List PartyState → Type 0
AreRelying l g f words states = (i : ℕ) (state : PartyState) → get_elem? states i ≡ some state →
    IsRelying l g f words state.machine
