-- What a party relies on that moves the upper half of a full node.
use Rattle.std.specs.Prelude.{ℕ, zero, suc, ◌+◌, ◌-◌, Bool, true, false, List, [], ◌∷◌}
use Rattle.std.specs.Prelude.{Option, Some, None}
use Rattle.data_node.specs.Lists.{number_of, anchor_words}
use Rattle.call_stages.specs.Stages.{Grip, Phase, Filling, Linked, Parted, Stage, Splits, Leaves, fresh_grip}
use Rattle.call_stages.specs.Lines.{HeldLine}
use Rattle.call_stages.specs.Prevs.{Debt, no_debt}
use Rattle.pm_words.specs.Fences.{hand_of}
use Rattle.pm_words.specs.Offsets.{bitmap_offset, next_offset, anchor_offset}
use Rattle.smo_log.specs.LogLines.{empty_line, open_line, ready_line}
use Rattle.smo_log.specs.Opens.{open_held}
use Rattle.smo_log.specs.States.{ready_held}
use Rattle.split_merge.specs.declared.planning.Plan.{Plan}
use Rattle.split_merge.specs.declared.moving.Move.{Move}
use Rattle.split_merge.specs.declared.moving.MoveAt.{MoveAt}
use Rattle.split_merge.specs.declared.moving.MoveAt.TheVariants as at
use Rattle.split_merge.specs.Plans.{plan_word, entry_in}
use Rattle.split_merge.specs.Moves.{slot_count, print_count, filled_end}
use Rattle.call_stages.specs.Footings.{Footing}

-- the name that the call is about, what it had, and words of the full node by offset, as the party knows them: before
-- the switch, and after it; and the word of it that was loaded last
pub record Known : Type 0 where
  pub name : List ℕ
  pub old : Option (Option ℕ)
  pub full : List (ℕ × ℕ)
  pub linked : List (ℕ × ℕ)
  pub hand : Option (ℕ × ℕ)

-- so many words from an offset on, and others
abbrev pub words_onto : (ℕ → ℕ) → ℕ → ℕ → List (ℕ × ℕ) → List (ℕ × ℕ)
words_onto word first zero others = others
words_onto word first (suc n) others = (first + n, word (first + n)) ∷ words_onto word first n others

abbrev pub slots_seen : Plan → ℕ → List (ℕ × ℕ)
slots_seen plan n = words_onto (plan_word plan) 16 n []

abbrev pub prints_seen : Plan → ℕ → List (ℕ × ℕ)
prints_seen plan n = words_onto (plan_word plan) 8 n (slots_seen plan (slot_count plan))

abbrev pub anchor_seen : Plan → ℕ → List (ℕ × ℕ)
anchor_seen plan n =
    words_onto (plan_word plan) anchor_offset n
    ((bitmap_offset, plan_word plan bitmap_offset) ∷ prints_seen plan (print_count plan))

-- all words of the fresh node
abbrev pub fresh_seen : Plan → List (ℕ × ℕ)
fresh_seen plan = (next_offset, plan_word plan next_offset) ∷ anchor_seen plan 3

abbrev pub fresh_of : Plan → List (ℕ × ℕ) → List (ℕ × ℕ) → Option (ℕ × ℕ) → Grip
fresh_of plan seen dirty hand =
    record (fresh_grip plan.share.fresh plan.share.locked) { seen = seen; dirty = dirty; hand = hand }

abbrev pub left_of : Plan → Known → List (ℕ × ℕ) → List (ℕ × ℕ) → Option (ℕ × ℕ) → Grip
left_of plan known seen dirty hand =
    record (fresh_grip plan.node plan.locked) {
      name = known.name;
      old = known.old;
      seen = seen;
      dirty = dirty;
      hand = hand;
    }

abbrev pub full_left : Plan → Known → Grip
full_left plan known = left_of plan known known.full [] known.hand

-- the words of the slots that may differ from their durable twins: none before the first store
abbrev pub slot_dirty : Plan → ℕ → List (ℕ × ℕ)
slot_dirty plan zero = []
slot_dirty plan (suc n) = (0, filled_end plan) ∷ []

abbrev pub filling : Plan → Known → List (ℕ × ℕ) → List (ℕ × ℕ) → Stage
filling plan known seen dirty = Splits (full_left plan known) (fresh_of plan seen dirty None) (Filling false)

-- all of the fresh node is durable
abbrev pub filled : Plan → Known → Bool → Stage
filled plan known lit = Splits (full_left plan known) (fresh_of plan (fresh_seen plan) [] None) (Filling lit)

abbrev pub linked : Plan → Known → List (ℕ × ℕ) → List (ℕ × ℕ) → Option (ℕ × ℕ) → Phase → Stage
linked plan known seen dirty hand phase =
    Splits (left_of plan known seen dirty hand) (fresh_of plan (fresh_seen plan) [] None) phase

abbrev pub move_at_stage : Plan → Known → MoveAt → Stage
move_at_stage plan known (at.Slot word) = filling plan known (slots_seen plan word) (slot_dirty plan word)
move_at_stage plan known (at.Print word) = filling plan known (prints_seen plan word) ((0, filled_end plan) ∷ [])
move_at_stage plan known at.Bitmap =
    filling plan known (prints_seen plan (print_count plan)) ((0, filled_end plan) ∷ [])
move_at_stage plan known (at.Anchor word) = filling plan known (anchor_seen plan word) ((0, filled_end plan) ∷ [])
move_at_stage plan known at.Next = filling plan known (anchor_seen plan 3) ((0, filled_end plan) ∷ [])
move_at_stage plan known (at.FenceFresh first fence) =
    Splits (full_left plan known)
    (fresh_of plan (fresh_seen plan) ((
      first + fence.word,
      filled_end plan - (first + fence.word),
    ) ∷ []) (hand_of (first + fence.word) fence.at))
    (Filling false)
move_at_stage plan known (at.Open machine) = filled plan known false
move_at_stage plan known at.Prev = filled plan known false
move_at_stage plan known at.Light = filled plan known false
move_at_stage plan known at.Switch = filled plan known true
move_at_stage plan known (at.FenceSwitch fence) =
    linked plan known known.linked ((fence.word, 8 - fence.word) ∷ []) (hand_of fence.word fence.at) Linked
move_at_stage plan known at.NextPrev = linked plan known known.linked [] None Linked
move_at_stage plan known at.Trim = linked plan known known.linked [] None Linked
move_at_stage plan known (at.FenceTrim fence) =
    linked plan known [] ((fence.word, 8 - fence.word) ∷ []) (hand_of fence.word fence.at) Parted
move_at_stage plan known (at.Ready ready) = linked plan known [] [] None Parted
move_at_stage plan known at.UnlockFresh = linked plan known [] [] None Parted
move_at_stage plan known at.Unlock = Leaves (left_of plan known [] [] None)

-- the line is EMPTY, is opened, and is READY as it is left to a turn
abbrev pub move_at_line : Plan → MoveAt → Option HeldLine
move_at_line plan (at.Slot word) = Some (empty_line plan.share.line)
move_at_line plan (at.Print word) = Some (empty_line plan.share.line)
move_at_line plan at.Bitmap = Some (empty_line plan.share.line)
move_at_line plan (at.Anchor word) = Some (empty_line plan.share.line)
move_at_line plan at.Next = Some (empty_line plan.share.line)
move_at_line plan (at.FenceFresh first fence) = Some (empty_line plan.share.line)
move_at_line plan (at.Open machine) = Some (open_held machine)
move_at_line plan (at.Ready ready) = Some (ready_held (entry_in plan) ready)
move_at_line plan at.UnlockFresh = Some (ready_line plan.share.line (entry_in plan))
move_at_line plan at.Unlock = None
move_at_line plan _ = Some (open_line plan.share.line (entry_in plan))

-- the prev of the fresh node is known until the switch; then that of the node behind it is owed
abbrev pub knows_prev : Plan → Debt
knows_prev plan = record { known = Some (plan.share.fresh, plan.node); owes = None }

abbrev pub owes_prev : Plan → Debt
owes_prev plan = record { known = None; owes = Some plan.share.fresh }

abbrev pub move_at_debt : Plan → MoveAt → Debt
move_at_debt plan at.Light = knows_prev plan
move_at_debt plan at.Switch = knows_prev plan
move_at_debt plan (at.FenceSwitch fence) = owes_prev plan
move_at_debt plan at.NextPrev = owes_prev plan
move_at_debt plan _ = no_debt

abbrev pub move_footing : Known → Move → Footing
move_footing known move =
    record {
      stage = move_at_stage move.plan known move.at;
      line = move_at_line move.plan move.at;
      debt =
          move_at_debt move.plan move.at;
    }

-- the key of the fresh node's anchor
abbrev pub cut_key : Plan → ℕ
cut_key plan = number_of (anchor_words (plan_word plan))
