-- An index with the log lines that its parties have.
use Rattle.std.specs.Prelude.{◌≡◌, ℕ, ◌<◌, ◌^◌, ◌⊎◌, List, length, slice_set, Option, Some, None, IfSome}
use mathlib.Core.Option.{some}
use lib.ListN.{get_elem?}
use Rattle.pm_words.specs.declared.action.Action.{Action}
use Rattle.pm_words.specs.Rows.{acted, got}
use Rattle.call_stages.specs.declared.once.Once.{Once}
use Rattle.call_stages.specs.declared.once.Placed.{Placed}
use Rattle.call_stages.specs.Stages.{Stage}
use Rattle.call_stages.specs.Kinds.{Step}
use Rattle.call_stages.specs.Lines.{HeldLine, Notes}
use Rattle.index_law.specs.Worlds.{Party, World, stepped}
use Rattle.index_law.specs.Lawful.{Lawful}
use Rattle.index_law.specs.Lines.{AreFit, SureLine}

-- The nodes with their parties, and the line, if any, that each party has.
pub record Joint : Type 0 where
  pub world : World
  pub lines : List (Option HeldLine)

-- A line is of its party's caller.
pub record IsOwned (parties : List Party) (i : ℕ) (e : HeldLine) : Type 0 where
  pub party : Party
  pub there : get_elem? parties i ≡ some party
  pub own : e.caller ≡ party.caller

pub record IsJoint (z : Joint) : Type 0 where
  pub lawful : Lawful z.world
  pub fit : AreFit z.world.layout z.world.words
  pub sure : (i : ℕ) (e : HeldLine) → get_elem? z.lines i ≡ some (Some e) → SureLine z.world.layout z.world.words e
  pub owned : (i : ℕ) (e : HeldLine) → get_elem? z.lines i ≡ some (Some e) → IsOwned z.world.parties i e
  -- no two parties are of one caller
  pub callers : (i j : ℕ) (p q : Party) → get_elem? z.world.parties i ≡ some p → get_elem? z.world.parties j ≡ some q →
      p.caller ≡ q.caller → i ≡ j

-- A step on nodes keeps this; the party may let its line go.
abbrev pub NodeStepKeeps : Type 0
NodeStepKeeps = (z : Joint) (i : ℕ) (p : Party) (action : Action) (x : ℕ) (next : Stage)
    (answer : Option (Once Placed)) (line after : Option HeldLine) → IsJoint z →
    get_elem? z.world.parties i ≡ some p → get_elem? z.lines i ≡ some line → (after ≡ line) ⊎ (after ≡ None) →
    Step z.world.layout z.world.generation p.stage action x next answer →
    x ≡ got z.world.layout z.world.words action → length z.world.history < 2 ^ 63 →
    IsJoint (record { world = stepped z.world i p action next; lines = slice_set z.lines i after })

-- So does one on its line.
abbrev pub LineStepKeeps : Type 0
LineStepKeeps = (z : Joint) (i : ℕ) (p : Party) (action : Action) (x : ℕ) (line after : Option HeldLine) → IsJoint z →
    get_elem? z.world.parties i ≡ some p → get_elem? z.lines i ≡ some line → Notes z.world.layout line action x after →
    IfSome after (λ e. e.caller ≡ p.caller) →
    x ≡ got z.world.layout z.world.words action →
    IsJoint (record {
      world = record (z.world) { words = acted z.world.layout z.world.words action };
      lines = slice_set z.lines i after;
    })
