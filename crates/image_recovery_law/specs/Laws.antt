-- The laws of a recovery's steps, and of crashes.
use Rattle.std.specs.Prelude.{◌≡◌, ℕ, suc, ◌↔◌, List}
use Rattle.pm_words.specs.declared.layout.Layout.{Layout}
use Rattle.cat_history.specs.Maps.{Map}
use Rattle.version_lock.specs.Versions.{IsGeneration}
use Rattle.data_node.specs.Lists.{ListNode, range_in, IsIn}
use Rattle.data_node.specs.Weights.{node_weight}
use Rattle.image_recovery_law.specs.Columns.{Columns, IsSound, IsMapOf, Mends, IsMix}
use Rattle.image_recovery_law.specs.Stages.{Stage, Begins, Step, Sure}

-- With a sound image in both rows a recovery may begin.
abbrev pub Starts : Type 0
Starts = (l : Layout) (list : List ListNode) (o : Columns) → IsSound l list o → Sure l list o Begins o o

-- Each step keeps what it is sure of,
abbrev pub StepsKeep : Type 0
StepsKeep = (l : Layout) (list : List ListNode) (o now safe now' safe' : Columns) (s s' : Stage) →
    IsSound l list o → Sure l list o s now safe → Step l list now safe s s' now' safe' → Sure l list o s' now' safe'

-- and so do any words that become durable.
abbrev pub EvictionsKeep : Type 0
EvictionsKeep = (l : Layout) (list : List ListNode) (o now safe mix : Columns) (s : Stage) → IsSound l list o →
    Sure l list o s now safe → IsMix now safe mix → Sure l list o s now mix

-- At every moment, whichever words are durable, they are columns that the recovery may have come to.
abbrev pub CrashMends : Type 0
CrashMends = (l : Layout) (list : List ListNode) (o now safe mix : Columns) (s : Stage) → IsSound l list o →
    Sure l list o s now safe → IsMix now safe mix → Mends l list o mix

-- Such columns are sound, with the same list, and keep just the maps that o keeps,
abbrev pub MendedIsSound : Type 0
MendedIsSound = (l : Layout) (list : List ListNode) (o i : Columns) → IsSound l list o →
    IsGeneration (suc o.generation) → Mends l list o i →
    IsSound l list i × ((m : Map) → IsMapOf l list o m ↔ IsMapOf l list i m)

-- and each listed node weighs what it weighed.
abbrev pub MendedWeighs : Type 0
MendedWeighs = (l : Layout) (list : List ListNode) (o i : Columns) (n : ℕ) → IsSound l list o → Mends l list o i →
    IsIn list n → node_weight l.slots (range_in list n) (i.spot n) ≡ node_weight l.slots (range_in list n) (o.spot n)
