-- Steps on the log line of a split or a merge: as it is opened, and as it becomes READY.
use Rattle.std.proofs.Common.{◌≡◌, ◌≢◌, ℕ, zero, suc, ◌*◌, ◌^◌, ◌<◌, false, true, Bool, Some, None, ◌⊎◌, refl, sym, ◌∙◌, subst, ap, arith}
use Rattle.pm_words.specs.declared.layout.Layout.{Layout}
use Rattle.pm_words.specs.declared.action.Action.{Action}
use Rattle.pm_words.specs.declared.machine.Turn.{Turn}
use Rattle.pm_words.specs.declared.machine.Turn.TheVariants.{Go, Done}
use Rattle.pm_words.specs.Codes.{merge_kind}
use Rattle.pm_words.specs.Offsets.{kind_offset}
use Rattle.data_node.specs.Spots.{Spot}
use Rattle.call_stages.specs.Stages.{Tells, Stage, IsSwitched, counted}
use Rattle.call_stages.specs.Lines.{HeldLine, Notes}
use Rattle.call_stages.specs.Prevs.{Debt}
use Rattle.call_stages.specs.Footings.{IsRetired, Waits}
use Rattle.permutation.specs.Sparing.{SparingStep, on_line}
use Rattle.smo_log.specs.declared.line.Entry.{Entry}
use Rattle.smo_log.specs.declared.open.Open.{Open}
use Rattle.smo_log.specs.declared.open.OpenAt.{OpenAt}
use Rattle.smo_log.specs.declared.open.OpenAt.TheVariants as open_at
use Rattle.smo_log.specs.declared.state.Ready.{Ready}
use Rattle.smo_log.specs.declared.state.ReadyAt.{ReadyAt}
use Rattle.smo_log.specs.declared.state.ReadyAt.TheVariants as ready_at
use Rattle.smo_log.specs.LogLines.{caller_of, index_of, open_line, ready_line}
use Rattle.smo_log.specs.Opens.{IsOpen, open_asks, open_turned, open_at_held, open_held, OpenNotes}
use Rattle.smo_log.specs.States.{IsReady, ready_asks, ready_turned, ready_at_held, ready_held, ReadyNotes}
use Rattle.smo_log.proofs.LineLaw.{opens_are_notes, readies_are_notes, caller_within, index_within}

-- a line that is being opened is of its caller, and isn't READY
opened_is : (line : ℕ) (entry : Entry) (at : OpenAt)
    → ((open_at_held line entry at).caller ≡ caller_of line) × ((open_at_held line entry at).number ≡ index_of line)
    × ((open_at_held line entry at).ready ≡ false)
opened_is line entry (open_at.Field zero) = (refl, refl, refl)
opened_is line entry (open_at.Field (suc n)) = (refl, refl, refl)
opened_is line entry (open_at.FenceFields fence) = (refl, refl, refl)
opened_is line entry open_at.State = (refl, refl, refl)
opened_is line entry (open_at.FenceState fence) = (refl, refl, refl)

open_caller : (line : ℕ) (entry : Entry) (at : OpenAt) → (open_at_held line entry at).caller ≡ caller_of line
open_caller line entry at = (opened_is line entry at).0

open_number : (line : ℕ) (entry : Entry) (at : OpenAt) → (open_at_held line entry at).number ≡ index_of line
open_number line entry at = (opened_is line entry at).1

open_unready : (line : ℕ) (entry : Entry) (at : OpenAt) → (open_at_held line entry at).ready ≡ false
open_unready line entry at = (opened_is line entry at).2

-- one that is made READY is of its number
ready_number : (line : ℕ) (entry : Entry) (at : ReadyAt) → (ready_at_held line entry at).number ≡ index_of line
ready_number line entry ready_at.State = refl
ready_number line entry (ready_at.Fence fence) = refl

pub no_ready : {b : Bool} → b ≡ false → b ≡ true → ⊥
no_ready unready ready = let no : false ≡ true = sym unready ∙ ready in cc

-- by the store of READY the stage asks what it asks of the OPEN line
ready_waits : (stage : Stage) (line : ℕ) (entry : Entry) (at : ReadyAt) (after : HeldLine)
    → ((n : ℕ) → IsSwitched stage n → ⊥) × (((s : Spot) → Tells (open_line line entry).seen s → s kind_offset ≢ merge_kind) ⊎ IsRetired stage (open_line line entry))
    → Waits stage (Some (ready_at_held line entry at)) (Some after)
ready_waits stage line entry ready_at.State after what = λ unready ready. what
ready_waits stage line entry (ready_at.Fence fence) after what = λ unready ready. absurd (no_ready unready refl)

ready_caller : (line : ℕ) (entry : Entry) (at : ReadyAt) → (ready_at_held line entry at).caller ≡ caller_of line
ready_caller line entry ready_at.State = refl
ready_caller line entry (ready_at.Fence fence) = refl

-- a step on the line of this number, by a party whose stage and whose prevs stay as they are
abbrev pub LineStep : Layout → ℕ → Stage → Debt → ℕ → HeldLine → Action → ℕ → HeldLine → Type 0
LineStep l g stage debt line before action x after =
    SparingStep l g (caller_of line) (record { stage = stage; line = Some before; debt = debt }) action x (record { stage = stage; line = Some after; debt = debt }) None

line_step : (l : Layout) (g : ℕ) (stage : Stage) (debt : Debt) (line : ℕ) (before after : HeldLine) {action : Action} {x : ℕ} → line < 8 * l.callers → counted stage ≡ None
    → Waits stage (Some before) (Some after) → Notes l (Some before) action x (Some after) → (before.caller ≡ caller_of line) × (before.number ≡ index_of line) → after.caller ≡ caller_of line
    → LineStep l g stage debt line before action x after
line_step l g stage debt line before after inside none waits note own after_own =
    let low = caller_within line l.callers inside in
    let index = index_within line in
    let here : (before.caller < l.callers) × (before.number < 8) = (let is = own.0 in omega arith, let is = own.1 in omega arith) in
    on_line waits none here note after_own

-- what holds where a line is opened further, and where it is open, holds after a turn
pub opens_lead : (l : Layout) (g : ℕ) (stage : Stage) (debt : Debt) (line : ℕ) (entry : Entry) → counted stage ≡ None → (P : Turn Open (Unit {0}) → Type 0)
    → (machine : Open) (x : ℕ) → IsOpen machine → machine.layout ≡ l → machine.line ≡ line → machine.entry ≡ entry → x < 2 ^ 64
    → ((next : Open) → LineStep l g stage debt line (open_held machine) (open_asks machine) x (open_held next) → IsOpen next × (next.layout ≡ l) × (next.line ≡ line) × (next.entry ≡ entry) → P (Go next))
    → (LineStep l g stage debt line (open_held machine) (open_asks machine) x (open_line line entry) → (nothing : Unit {0}) → P (Done nothing)) → P (open_turned machine x)
opens_lead l g stage debt line entry none P machine x is same here says fits goes opened = after (open_turned machine x) (opens_are_notes machine x is fits)
  where
    own : ((open_held machine).caller ≡ caller_of machine.line) × ((open_held machine).number ≡ index_of machine.line)
    own = (open_caller machine.line machine.entry machine.at, open_number machine.line machine.entry machine.at)

    on : (held : HeldLine) → held.ready ≡ false → Notes machine.layout (Some (open_held machine)) (open_asks machine) x (Some held) → held.caller ≡ caller_of machine.line
        → LineStep l g stage debt line (open_held machine) (open_asks machine) x held
    on held unready note of = subst (λ (k : Layout × ℕ). LineStep k.0 g stage debt k.1 (open_held machine) (open_asks machine) x held) (λ i. (same i, here i))
        (line_step machine.layout g stage debt machine.line (open_held machine) held is.line none (λ was ready. absurd (no_ready unready ready)) note own of)

    after : (turn : Turn Open (Unit {0})) → OpenNotes machine.layout machine.line machine.entry (open_held machine) (open_asks machine) x turn → P turn
    after (Go next) note = goes next
        (on (open_held next) (open_unready next.line next.entry next.at) note.0 (open_caller next.line next.entry next.at ∙ ap caller_of note.3))
        (note.1, note.2 ∙ same, note.3 ∙ here, note.4 ∙ says)
    after (Done nothing) note = opened (subst (λ (k : ℕ × Entry). LineStep l g stage debt line (open_held machine) (open_asks machine) x (open_line k.0 k.1)) (λ i. (here i, says i))
        (on (open_line machine.line machine.entry) refl note refl)) nothing

-- and so where it is made READY by a party that may let it go so
pub readies_lead : (l : Layout) (g : ℕ) (stage : Stage) (debt : Debt) (line : ℕ) (entry : Entry) → counted stage ≡ None
    → ((n : ℕ) → IsSwitched stage n → ⊥) × (((s : Spot) → Tells (open_line line entry).seen s → s kind_offset ≢ merge_kind) ⊎ IsRetired stage (open_line line entry))
    → (P : Turn Ready (Unit {0}) → Type 0) (ready : Ready) (x : ℕ) → IsReady ready → ready.layout ≡ l → ready.line ≡ line → x < 2 ^ 64
    → ((next : Ready) → LineStep l g stage debt line (ready_held entry ready) (ready_asks ready) x (ready_held entry next) → IsReady next × (next.layout ≡ l) × (next.line ≡ line) → P (Go next))
    → (LineStep l g stage debt line (ready_held entry ready) (ready_asks ready) x (ready_line line entry) → (nothing : Unit {0}) → P (Done nothing)) → P (ready_turned ready x)
readies_lead l g stage debt line entry none what P ready x is same here fits goes readied = after (ready_turned ready x) (readies_are_notes ready entry x is fits)
  where
    own : ((ready_held entry ready).caller ≡ caller_of ready.line) × ((ready_held entry ready).number ≡ index_of ready.line)
    own = (ready_caller ready.line entry ready.at, ready_number ready.line entry ready.at)

    waits : (held : HeldLine) → Waits stage (Some (ready_held entry ready)) (Some held)
    waits held = subst (λ (n : ℕ). Waits stage (Some (ready_at_held n entry ready.at)) (Some held)) (sym here) (ready_waits stage line entry ready.at held what)

    on : (held : HeldLine) → Notes ready.layout (Some (ready_held entry ready)) (ready_asks ready) x (Some held) → held.caller ≡ caller_of ready.line
        → LineStep l g stage debt line (ready_held entry ready) (ready_asks ready) x held
    on held note of = subst (λ (k : Layout × ℕ). LineStep k.0 g stage debt k.1 (ready_held entry ready) (ready_asks ready) x held) (λ i. (same i, here i))
        (line_step ready.layout g stage debt ready.line (ready_held entry ready) held is.line none (waits held) note own of)

    after : (turn : Turn Ready (Unit {0})) → ReadyNotes ready.layout ready.line entry (ready_held entry ready) (ready_asks ready) x turn → P turn
    after (Go next) note = goes next (on (ready_held entry next) note.0 (ready_caller next.line entry next.at ∙ ap caller_of note.3)) (note.1, note.2 ∙ same, note.3 ∙ here)
    after (Done nothing) note = readied (subst (λ (k : ℕ). LineStep l g stage debt line (ready_held entry ready) (ready_asks ready) x (ready_line k entry)) here (on (ready_line ready.line entry) note refl)) nothing
