-- An index with the log lines and the debts that its parties have.
use Rattle.std.specs.Prelude.{◌≡◌, ℕ, ◌<◌, ◌^◌, ◌⊎◌, List, length, slice_set, Option, None, IfSome}
use mathlib.Core.Option.{some}
use lib.ListN.{get_elem?}
use Rattle.pm_words.specs.declared.action.Action.{Action}
use Rattle.pm_words.specs.Rows.{acted, got}
use Rattle.call_stages.specs.declared.once.Once.{Once}
use Rattle.call_stages.specs.declared.once.Placed.{Placed}
use Rattle.call_stages.specs.Stages.{Stage}
use Rattle.call_stages.specs.Kinds.{Step}
use Rattle.call_stages.specs.Lines.{HeldLine, Notes}
use Rattle.index_law.specs.Worlds.{Party, World, stepped}
use Rattle.index_law.specs.Joint.{IsJoint}
use Rattle.index_law.specs.Prevs.{IsTraced}
use Rattle.call_stages.specs.Prevs.{Debt, Deals, Prevs}

pub record Whole : Type 0 where
  pub world : World
  pub lines : List (Option HeldLine)
  pub debts : List Debt

pub record IsWhole (z : Whole) : Type 0 where
  pub joint : IsJoint (record { world = z.world; lines = z.lines })
  pub traced : IsTraced (record { world = z.world; debts = z.debts })

-- A step on nodes keeps it all,
abbrev pub NodeStepKeepsAll : Type 0
NodeStepKeepsAll = (z : Whole) (i : ℕ) (p : Party) (action : Action) (x : ℕ) (next : Stage)
    (answer : Option (Once Placed)) (line after : Option HeldLine) (debt debt' : Debt) → IsWhole z →
    get_elem? z.world.parties i ≡ some p → get_elem? z.lines i ≡ some line → get_elem? z.debts i ≡ some debt →
    (after ≡ line) ⊎ (after ≡ None) →
    Step z.world.layout z.world.generation p.stage action x next answer → x ≡ got z.world.layout z.world.words action →
    length z.world.history < 2 ^ 63 → Deals p.stage next debt debt' →
    IsWhole (record {
      world = stepped z.world i p action next;
      lines = slice_set z.lines i after;
      debts = slice_set z.debts i debt';
    })

-- one on the party's line
abbrev pub LineStepKeepsAll : Type 0
LineStepKeepsAll = (z : Whole) (i : ℕ) (p : Party) (action : Action) (x : ℕ) (line after : Option HeldLine) →
    IsWhole z →
    get_elem? z.world.parties i ≡ some p → get_elem? z.lines i ≡ some line → Notes z.world.layout line action x after →
    IfSome after (λ e. e.caller ≡ p.caller) →
    x ≡ got z.world.layout z.world.words action →
    IsWhole (record {
      world = record (z.world) { words = acted z.world.layout z.world.words action };
      lines = slice_set z.lines i after;
      debts = z.debts;
    })

-- and one that stores a prev.
abbrev pub PrevStepKeepsAll : Type 0
PrevStepKeepsAll = (z : Whole) (i : ℕ) (p : Party) (action : Action) (debt debt' : Debt) → IsWhole z →
    get_elem? z.world.parties i ≡ some p → get_elem? z.debts i ≡ some debt →
    Prevs z.world.layout p.stage debt action debt' →
    IsWhole (record {
      world = record (z.world) { words = acted z.world.layout z.world.words action };
      lines = z.lines;
      debts = slice_set z.debts i debt';
    })
