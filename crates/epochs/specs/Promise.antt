-- What pins promise, at a moment and under every schedule.
use Rattle.std.specs.Prelude.{◌≡◌, ◌≢◌, ℕ, ◌+◌, ◌<◌, List, [], ◌∷◌, ◌++◌, replicate, slice_set, Contains}
use mathlib.Core.Option.{some}
use lib.ListN.{get_elem?}
use Rattle.atomic_table.specs.Table.{State, opening}
use Rattle.epochs.specs.declared.rule.PinState.TheVariants.{Checked}
use Rattle.epochs.specs.declared.rule.Made.{Made}
use Rattle.epochs.specs.declared.rule.Made.TheVariants.{EpochLoad}
use Rattle.epochs.specs.declared.rule.PinMember.{PinMember}
use Rattle.epochs.specs.Kept.{Kept, first_epoch, first_view, member_after, first_of, rest_of}
use Rattle.epochs.specs.Steps.{MayMake, words_after}

-- The party stands in a view of the table.
pub record Stands (s : State (Unit {0}) (List PinMember)) (m : PinMember) : Type 0 where
  pub seat : ℕ
  pub place : ℕ
  pub view : List PinMember
  pub there : get_elem? s.views seat ≡ some view
  pub is : get_elem? view place ≡ some m

-- The party has read this release number from the epoch.
abbrev pub HasRead : PinMember → ℕ → Type 0
HasRead m released = Contains m.made (EpochLoad (released + 2))

-- Each release number that a party has read is below each pin that is checked.
abbrev pub IsPinSafe : State (Unit {0}) (List PinMember) → Type 0
IsPinSafe s = (reader holder : PinMember) (released number : ℕ) → Stands s reader → HasRead reader released →
    Stands s holder →
    holder.pin ≡ Checked number → released < number

-- So it is at each moment at which the table keeps its rule.
abbrev pub KeptIsSafe : Type 0
KeptIsSafe = (parties : ℕ) (s : State (Unit {0}) (List PinMember)) → Kept parties s → IsPinSafe s

-- The table at the start.
abbrev pub begun : ℕ → State (Unit {0}) (List PinMember)
begun parties = opening (first_epoch ∷ replicate parties 0) [] (first_view parties)

-- What the table is once the seat's party has made a step; once a seat has come that has no party; once a seat has
-- parted from its first one; and once a seat has taken in the parties of another.
abbrev pub stepped : State (Unit {0}) (List PinMember) → ℕ → PinMember → Made → State (Unit {0}) (List PinMember)
stepped s id m step = record {
  words = words_after s.words m step;
  homes = s.homes;
  views = slice_set s.views id (member_after m step ∷ []);
}

abbrev pub with_views : State (Unit {0}) (List PinMember) → List (List PinMember) → State (Unit {0}) (List PinMember)
with_views s views = record { words = s.words; homes = s.homes; views = views }

-- One step of a schedule, of whichever kind.
pub data Moves (parties : ℕ) : State (Unit {0}) (List PinMember) → State (Unit {0}) (List PinMember) → Type 0 where
  steps : {s : State (Unit {0}) (List PinMember)} (id : ℕ) (m : PinMember) (step : Made) →
      get_elem? s.views id ≡ some (m ∷ []) →
      MayMake parties s.words m step → Moves parties s (stepped s id m step)
  comes : {s : State (Unit {0}) (List PinMember)} → Moves parties s (with_views s (s.views ++ [] ∷ []))
  parts : {s : State (Unit {0}) (List PinMember)} (id : ℕ) (view : List PinMember) → get_elem? s.views id ≡ some view →
      Moves parties s (with_views s (slice_set s.views id (rest_of view) ++ first_of view ∷ []))
  joins : {s : State (Unit {0}) (List PinMember)} (id other : ℕ) (view its : List PinMember) →
      get_elem? s.views id ≡ some view →
      get_elem? s.views other ≡ some its → other ≢ id →
      Moves parties s (with_views s (slice_set (slice_set s.views id (view ++ its)) other []))

-- A schedule, with its last step at the end.
pub data Leads (parties : ℕ) : State (Unit {0}) (List PinMember) → State (Unit {0}) (List PinMember) → Type 0 where
  stays : {s : State (Unit {0}) (List PinMember)} → Leads parties s s
  goes : {s u : State (Unit {0}) (List PinMember)} (t : State (Unit {0}) (List PinMember)) → Leads parties s t →
      Moves parties t u → Leads parties s u

-- Under every schedule the table keeps its rule.
abbrev pub LeadsToKept : Type 0
LeadsToKept = (parties : ℕ) (s : State (Unit {0}) (List PinMember)) → Leads parties (begun parties) s → Kept parties s

-- A release number that was read at some moment of a schedule is below each pin that is checked at that moment or a
-- later one.
abbrev pub ReadStaysBelow : Type 0
ReadStaysBelow = (parties : ℕ) (s t : State (Unit {0}) (List PinMember)) → Leads parties (begun parties) s →
    Leads parties s t →
    (reader holder : PinMember) (released number : ℕ) → Stands s reader → HasRead reader released → Stands t holder →
    holder.pin ≡ Checked number → released < number
