-- What holds of all steps of a party, those on nodes and those beside them.
use Rattle.std.specs.Prelude.{◌≡◌, ◌≢◌, ℕ, ◌<◌, ◌^◌, ◌⊎◌, length, Option, None}
use mathlib.Core.Option.{some}
use lib.ListN.{get_elem?}
use Rattle.pm_words.specs.declared.layout.Layout.{Layout}
use Rattle.pm_words.specs.declared.action.Action.{Action}
use Rattle.pm_words.specs.Rows.{acted, got}
use Rattle.call_stages.specs.declared.once.Once.{Once}
use Rattle.call_stages.specs.declared.once.Placed.{Placed}
use Rattle.call_stages.specs.Stages.{Held, Stage, Holds, counted}
use Rattle.call_stages.specs.AnySteps.{IsBeside, AnyStep}
use Rattle.index_law.specs.Facts.{range_of}
use Rattle.index_law.specs.Worlds.{Party, World, facts, stepped}
use Rattle.index_law.specs.Lawful.{Lawful}
use Rattle.index_law.specs.Laws.{Allowed, IsWithin, ActionLaw, StepLaw}
use Rattle.index_law.specs.Weights.{AddsName, RisesBy, weight_sum}

-- An action that a party may do at its stage, on nodes or beside them.
abbrev pub MayDo : Layout → Stage → Action → Type 0
MayDo l stage action = Allowed l stage action ⊎ IsBeside l action

-- A step, whatever number it is told, is by such an action,
abbrev pub AnyIsAllowed : Type 0
AnyIsAllowed = (l : Layout) (g : ℕ) (stage : Stage) (action : Action) (x : ℕ) (next : Stage)
    (answer : Option (Once Placed)) → IsWithin l stage → AnyStep l g stage action x next answer → MayDo l stage action

-- which can be done, and gives a number that may be told.
abbrev pub AnyCanAct : Type 0
AnyCanAct = (w : World) (i : ℕ) (p : Party) (action : Action) → Lawful w → get_elem? w.parties i ≡ some p →
    MayDo w.layout p.stage action → length w.history < 2 ^ 63 → ActionLaw w p.stage action

-- A step beside nodes changes words alone, and none of which the facts tell.
pub record BesideLaw (w : World) (i : ℕ) (p : Party) (action : Action) : Type 0 where
  pub world : stepped w i p action p.stage ≡ record w { words = acted w.layout w.words action }
  pub facts : facts (stepped w i p action p.stage) ≡ facts w
  pub kept : Lawful (stepped w i p action p.stage)

abbrev pub BesideKeeps : Type 0
BesideKeeps = (w : World) (i : ℕ) (p : Party) (action : Action) → Lawful w → get_elem? w.parties i ≡ some p →
    counted p.stage ≡ None → IsBeside w.layout action → BesideLaw w i p action

-- A step of a party keeps the index lawful, and its answer is legal,
abbrev pub AnyStepKeeps : Type 0
AnyStepKeeps = (w : World) (i : ℕ) (p : Party) (action : Action) (x : ℕ) (next : Stage)
    (answer : Option (Once Placed)) → Lawful w →
    get_elem? w.parties i ≡ some p → AnyStep w.layout w.generation p.stage action x next answer →
    x ≡ got w.layout w.words action →
    length w.history < 2 ^ 63 → StepLaw w i p action x next answer

-- and raises the weight sum by one at most, and only where a put adds a name.
abbrev pub AnyStepWeighs : Type 0
AnyStepWeighs = (w : World) (i : ℕ) (p : Party) (action : Action) (x : ℕ) (next : Stage)
    (answer : Option (Once Placed)) → Lawful w →
    get_elem? w.parties i ≡ some p → AnyStep w.layout w.generation p.stage action x next answer →
    x ≡ got w.layout w.words action →
    RisesBy (AddsName w.layout p.stage action next) (weight_sum w) (weight_sum (stepped w i p action next))

-- As long as a party holds a node, the steps of the others leave the names that belong there.
abbrev pub HeldRangesStay : Type 0
HeldRangesStay = (w : World) (i j : ℕ) (p q : Party) (n lock : ℕ) (h : Held) (action : Action) (x : ℕ) (next : Stage)
    (answer : Option (Once Placed)) → Lawful w → i ≢ j →
    get_elem? w.parties i ≡ some p → get_elem? w.parties j ≡ some q → q.stage ≡ Holds n lock h →
    AnyStep w.layout w.generation p.stage action x next answer →
    x ≡ got w.layout w.words action →
    range_of w.layout (facts (stepped w i p action next)) n ≡ range_of w.layout (facts w) n
