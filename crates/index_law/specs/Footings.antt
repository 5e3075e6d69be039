-- What the steps of a party, on nodes, on its log line and on prevs, keep of all parties' lines and debts.
use Rattle.std.specs.Prelude.{◌≡◌, ℕ, ◌<◌, ◌^◌, ◌⊎◌, length, slice_set, Option, Some}
use mathlib.Core.Option.{some}
use lib.ListN.{get_elem?}
use Rattle.pm_words.specs.declared.layout.Layout.{Layout}
use Rattle.pm_words.specs.declared.action.Action.{Action}
use Rattle.pm_words.specs.Rows.{got}
use Rattle.pm_words.specs.Codes.{empty_state, ready_state}
use Rattle.pm_words.specs.Offsets.{state_offset}
use Rattle.call_stages.specs.declared.once.Once.{Once}
use Rattle.call_stages.specs.declared.once.Placed.{Placed}
use Rattle.call_stages.specs.Lines.{HeldLine}
use Rattle.call_stages.specs.AnySteps.{AnyStep}
use Rattle.call_stages.specs.Footings.{Footing, FootStep}
use Rattle.index_law.specs.Worlds.{Party, stepped}
use Rattle.index_law.specs.Lines.{line_in}
use Rattle.index_law.specs.Whole.{Whole, IsWhole}

-- It is one of all steps.
abbrev pub FootStepIsAny : Type 0
FootStepIsAny = (l : Layout) (g c : ℕ) (foot next : Footing) (action : Action) (x : ℕ) (answer : Option (Once Placed)) →
    FootStep l g c foot action x next answer → AnyStep l g foot.stage action x next.stage answer

-- Some party has the line j of the caller c.
pub record IsInHand (z : Whole) (c j : ℕ) : Type 0 where
  pub number : ℕ
  pub line : HeldLine
  pub there : get_elem? z.lines number ≡ some (Some line)
  pub caller : line.caller ≡ c
  pub index : line.number ≡ j

-- A log line of this state needs no party: it is EMPTY, or READY and left to a turn.
abbrev pub NeedsNoParty : ℕ → Type 0
NeedsNoParty state = (state ≡ empty_state) ⊎ (state ≡ ready_state)

-- Each log line needs no party, or is in some party's hand.
abbrev pub AreTended : Whole → Type 0
AreTended z = (c j : ℕ) → c < z.world.layout.callers → j < 8 →
    NeedsNoParty (line_in z.world.layout z.world.words c j state_offset) ⊎ IsInHand z c j

-- What its parties have once one of them, which stands at i, made a step.
abbrev pub stepped_whole : Whole → ℕ → Party → Action → Footing → Whole
stepped_whole z i p action next = record {
  world = stepped z.world i p action next.stage;
  lines = slice_set z.lines i next.line;
  debts = slice_set z.debts i next.debt;
}

-- Each step of a party keeps all.
abbrev pub FootStepKeeps : Type 0
FootStepKeeps = (z : Whole) (i : ℕ) (p : Party) (foot next : Footing) (action : Action) (x : ℕ)
    (answer : Option (Once Placed)) → IsWhole z → AreTended z →
    get_elem? z.world.parties i ≡ some p → get_elem? z.lines i ≡ some foot.line →
    get_elem? z.debts i ≡ some foot.debt → p.stage ≡ foot.stage →
    FootStep z.world.layout z.world.generation p.caller foot action x next answer →
    x ≡ got z.world.layout z.world.words action → length z.world.history < 2 ^ 63 →
    IsWhole (stepped_whole z i p action next) × AreTended (stepped_whole z i p action next)
