-- A move goes on as one whose fields keep the same.
use Rattle.std.proofs.Common.{◌≡◌, ℕ, ◌+◌, ◌%◌, ◌^◌, ◌<◌, ◌==◌, true, false, cond, ltb, Option, refl, ◌∙◌, arith}
use Rattle.std.proofs.lemmas.Bool.{eqb-false, ltb-true}
use Rattle.pm_words.specs.declared.machine.Turn.{Turn}
use Rattle.pm_words.specs.declared.machine.Turn.TheVariants.{Go, Done}
use Rattle.pm_words.specs.declared.fence.Fence.{Fence}
use Rattle.smo_log.specs.declared.open.Open.{Open}
use Rattle.smo_log.specs.declared.open.OpenAt.TheVariants as open_at
use Rattle.smo_log.specs.declared.state.ReadyAt.TheVariants as ready_at
use Rattle.smo_log.specs.declared.state.Ready.{Ready}
use Rattle.pm_words.specs.Fences.{IsFence, fence_start, fence_next}
use Rattle.pm_words.specs.Offsets.{kind_offset}
use Rattle.smo_log.specs.Opens.{IsOpen, open_asks, open_turned, open_held, OpenNotes}
use Rattle.smo_log.specs.States.{IsReady, ready_asks, ready_turned, ready_held, ReadyNotes}
use Rattle.smo_log.proofs.LineLaw.{opens_are_notes, readies_are_notes}
use Rattle.smo_log.proofs.Staying.{StaysSo}
use Rattle.split_merge.specs.declared.planning.Plan.{Plan}
use Rattle.split_merge.specs.declared.moving.Move.{Move}
use Rattle.split_merge.specs.declared.moving.MoveAt.{MoveAt}
use Rattle.split_merge.specs.declared.moving.MoveAt.TheVariants as at
use Rattle.split_merge.specs.Plans.{next_in, entry_in}
use Rattle.split_merge.specs.Moves.{slot_count, print_count, filled_end, after_slot, after_print, after_anchor, after_fence, after_switch, after_trim, moves_on, opened, readied, move_at_turned, move_turned, IsMove, IsMoveAt}
use Rattle.split_merge.proofs.FenceTurns.{fence_goes, line_ends}

module _ (move : Move) (sound : IsMove move) where
  abbrev plan : Plan
  plan = move.plan

  abbrev Stays : Turn Move (Unit {0}) → Type 0
  Stays turn = StaysSo (λ next. IsMove next × (next.plan ≡ move.plan)) turn

  on : (at : MoveAt) → IsMoveAt plan at → Stays (moves_on move at)
  on at here = (record { plan = sound.plan; here = here }, refl)

  at_slot : (word : ℕ) → Stays (moves_on move (after_slot plan word))
  at_slot word =
      elim (ltb (word + 1) (slot_count plan)) as (λ b. ltb (word + 1) (slot_count plan) ≡ b → Stays (moves_on move (cond b (at.Slot (word + 1)) (at.Print 0)))) [
        | true ↦ λ more. on (at.Slot (word + 1)) (ltb-true _ _ more)
        | false ↦ λ all. on (at.Print 0) (omega arith)
      ] refl

  at_print : (word : ℕ) → Stays (moves_on move (after_print plan word))
  at_print word =
      elim (ltb (word + 1) (print_count plan)) as (λ b. ltb (word + 1) (print_count plan) ≡ b → Stays (moves_on move (cond b (at.Print (word + 1)) at.Bitmap))) [
        | true ↦ λ more. on (at.Print (word + 1)) (ltb-true _ _ more)
        | false ↦ λ all. on at.Bitmap tt
      ] refl

  at_anchor : (word : ℕ) → Stays (moves_on move (after_anchor word))
  at_anchor word =
      elim (ltb (word + 1) 3) as (λ b. ltb (word + 1) 3 ≡ b → Stays (moves_on move (cond b (at.Anchor (word + 1)) at.Next))) [
        | true ↦ λ more. on (at.Anchor (word + 1)) (ltb-true _ _ more)
        | false ↦ λ all. on at.Next tt
      ] refl

  starts : IsFence fence_start
  starts = record { word = omega arith; value = tt }

  open_is : IsOpen (record { layout = plan.layout; line = plan.share.line; entry = entry_in plan; at = open_at.Field kind_offset })
  open_is = record { layout = sound.plan.layout; line = sound.plan.line; entry = sound.plan.entry; here = (omega arith, omega arith) }

  at_fence_fresh : (first : ℕ) (fence : Fence) (x : ℕ) → first < filled_end plan → first % 8 ≡ 0 → IsFence fence → x < 2 ^ 64
      → Stays (moves_on move (after_fence plan first (fence_next fence x)))
  at_fence_fresh first fence x inside whole is fits =
      fence_goes (λ (next : Option Fence). Stays (moves_on move (after_fence plan first next))) fence x is
      (λ next fewer holds. on (at.FenceFresh first next) (inside, whole, holds fits))
      (λ some. line_ends (filled_end plan) first (at.FenceFresh (first + 8) fence_start) (at.Open (record { layout = plan.layout; line = plan.share.line; entry = entry_in plan; at = open_at.Field kind_offset })) (λ to. Stays (moves_on move to))
      (λ another. on (at.FenceFresh (first + 8) fence_start) (another, omega arith, starts))
      (λ past. on (at.Open (record { layout = plan.layout; line = plan.share.line; entry = entry_in plan; at = open_at.Field kind_offset })) (open_is, refl, refl, refl)))

  at_open : (machine : Open) (x : ℕ) → IsOpen machine → machine.layout ≡ plan.layout → machine.line ≡ plan.share.line → machine.entry ≡ entry_in plan → x < 2 ^ 64
      → Stays (opened move (open_turned machine x))
  at_open machine x is layout line entry fits = after (open_turned machine x) (opens_are_notes machine x is fits)
    where
      after : (turn : Turn Open (Unit {0})) → OpenNotes machine.layout machine.line machine.entry (open_held machine) (open_asks machine) x turn → Stays (opened move turn)
      after (Go next) note = on (at.Open next) (note.1, note.2 ∙ layout, note.3 ∙ line, note.4 ∙ entry)
      after (Done answer) note = on at.Prev tt

  at_fence_switch : (fence : Fence) (x : ℕ) → IsFence fence → x < 2 ^ 64 → Stays (moves_on move (after_switch plan (fence_next fence x)))
  at_fence_switch fence x is fits =
      fence_goes (λ (next : Option Fence). Stays (moves_on move (after_switch plan next))) fence x is
      (λ next fewer holds. on (at.FenceSwitch next) (holds fits))
      (λ some.
      elim (next_in plan == 0) as (λ b. (next_in plan == 0) ≡ b → Stays (moves_on move (cond b at.Trim at.NextPrev))) [
        | true ↦ λ none. on at.Trim tt
        | false ↦ λ more. on at.NextPrev (eqb-false (next_in plan) 0 more)
      ] refl)

  at_fence_trim : (fence : Fence) (x : ℕ) → IsFence fence → x < 2 ^ 64 → Stays (moves_on move (after_trim plan (fence_next fence x)))
  at_fence_trim fence x is fits =
      fence_goes (λ (next : Option Fence). Stays (moves_on move (after_trim plan next))) fence x is
      (λ next fewer holds. on (at.FenceTrim next) (holds fits))
      (λ some. on (at.Ready (record { layout = plan.layout; line = plan.share.line; at = ready_at.State }))
      (record { layout = sound.plan.layout; line = sound.plan.line; here = tt }, refl, refl))

  at_ready : (ready : Ready) (x : ℕ) → IsReady ready → ready.layout ≡ plan.layout → ready.line ≡ plan.share.line → x < 2 ^ 64 → Stays (readied move (ready_turned ready x))
  at_ready ready x is layout line fits = after (ready_turned ready x) (readies_are_notes ready (entry_in plan) x is fits)
    where
      after : (turn : Turn Ready (Unit {0})) → ReadyNotes ready.layout ready.line (entry_in plan) (ready_held (entry_in plan) ready) (ready_asks ready) x turn → Stays (readied move turn)
      after (Go next) note = on (at.Ready next) (note.1, note.2 ∙ layout, note.3 ∙ line)
      after (Done answer) note = on at.UnlockFresh tt

  stays : (at : MoveAt) (x : ℕ) → IsMoveAt plan at → x < 2 ^ 64 → Stays (move_at_turned move at x)
  stays (at.Slot word) x here fits = at_slot word
  stays (at.Print word) x here fits = at_print word
  stays at.Bitmap x here fits = on (at.Anchor 0) (omega arith)
  stays (at.Anchor word) x here fits = at_anchor word
  stays at.Next x here fits = on (at.FenceFresh 0 fence_start) (omega arith, omega arith, starts)
  stays (at.FenceFresh first fence) x here fits = at_fence_fresh first fence x here.0 here.1 here.2 fits
  stays (at.Open machine) x here fits = at_open machine x here.0 here.1 here.2 here.3 fits
  stays at.Prev x here fits = on at.Light tt
  stays at.Light x here fits = on at.Switch tt
  stays at.Switch x here fits = on (at.FenceSwitch fence_start) starts
  stays (at.FenceSwitch fence) x here fits = at_fence_switch fence x here fits
  stays at.NextPrev x here fits = on at.Trim tt
  stays at.Trim x here fits = on (at.FenceTrim fence_start) starts
  stays (at.FenceTrim fence) x here fits = at_fence_trim fence x here fits
  stays (at.Ready ready) x here fits = at_ready ready x here.0 here.1 here.2 fits
  stays at.UnlockFresh x here fits = on at.Unlock tt
  stays at.Unlock x here fits = tt

-- A move goes on by the same plan, whatever word it is told, and its fields keep the same.
pub move_goes_on : (move : Move) (x : ℕ) → IsMove move → x < 2 ^ 64 → StaysSo (λ next. IsMove next × (next.plan ≡ move.plan)) (move_turned move x)
move_goes_on move x sound fits = stays move sound move.at x sound.here fits
