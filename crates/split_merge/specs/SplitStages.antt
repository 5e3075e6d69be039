-- What a party relies on that splits a full node.
use Rattle.std.specs.Prelude.{ℕ, zero, suc, ◌+◌, ◌*◌, ◌==◌, false, if◌then◌else◌, List, [], ◌∷◌, Option, Some, None}
use Rattle.pm_words.specs.Offsets.{bitmap_offset, next_offset}
use Rattle.call_stages.specs.Stages.{Held, Grip, Idle, Holds, Splits, Filling, full_grip, fresh_grip}
use Rattle.call_stages.specs.Prevs.{no_debt}
use Rattle.pm_alloc.specs.ClaimStages.{claim_stage}
use Rattle.smo_log.specs.LogLines.{empty_line}
use Rattle.smo_log.specs.Takes.{take_held}
use Rattle.split_merge.specs.declared.planning.Plan.{Plan}
use Rattle.split_merge.specs.declared.splitting.Split.{Split}
use Rattle.split_merge.specs.declared.splitting.SplitAt.{SplitAt}
use Rattle.split_merge.specs.declared.splitting.SplitAt.TheVariants as at
use Rattle.split_merge.specs.Plans.{spot_of}
use Rattle.call_stages.specs.Footings.{Footing}
use Rattle.split_merge.specs.MoveStages.{Known, words_onto, move_footing}

-- the bitmap among words by offset; 0 where it is none of them
abbrev pub bitmap_in : List (ℕ × ℕ) → ℕ
bitmap_in [] = 0
bitmap_in (w ∷ seen) = if w.0 == bitmap_offset then w.1 else bitmap_in seen

-- what the party has once it has loaded where the node leads
abbrev pub led : ℕ → Held → Held
led next h = record h { known = record { seen = (next_offset, next) ∷ h.known.seen; left = h.known.left } }

-- what it knows of the full node with so many words from the fingerprints on, and the last of these
abbrev pub read_seen : List ℕ → ℕ → Held → List (ℕ × ℕ)
read_seen full count h = words_onto (spot_of full) 8 count ((next_offset, spot_of full next_offset) ∷ h.known.seen)

abbrev pub last_read : List ℕ → ℕ → Option (ℕ × ℕ)
last_read full zero = None
last_read full (suc n) = Some (8 + n, spot_of full (8 + n))

abbrev pub read_grip : Split → Held → List ℕ → ℕ → Grip
read_grip split h full count =
    record (full_grip split.node split.word h) { seen = read_seen full count h; hand = last_read full count }

-- all that it knows of the full node by which a plan is made, before the switch and after it
abbrev pub known_by : Held → Plan → Known
known_by h plan = record {
  name = h.name;
  old = h.old;
  full = read_seen plan.full (8 + 4 * plan.layout.slots) h;
  linked = words_onto (spot_of plan.full) 8 (8 + 4 * plan.layout.slots) ((
    bitmap_offset,
    bitmap_in h.known.seen,
  ) ∷ []);
  hand =
      last_read plan.full (8 + 4 * plan.layout.slots);
}

abbrev pub split_at_footing : Held → Split → SplitAt → Footing
split_at_footing h split at.Next = record { stage = Holds split.node split.word h; line = None; debt = no_debt }
split_at_footing h split (at.Take next take) =
    record { stage = Holds split.node split.word (led next h); line = take_held take; debt = no_debt }
split_at_footing h split (at.Claim next line claim) =
    record {
      stage = claim_stage split.node split.word (led next h) claim;
      line = Some (empty_line line);
      debt = no_debt;
    }
split_at_footing h split (at.Read share full count) =
    record {
      stage = Splits (read_grip split h full count) (fresh_grip share.fresh share.locked) (Filling false);
      line = Some (empty_line share.line);
      debt = no_debt;
    }
split_at_footing h split (at.Move moving) = move_footing (known_by h moving.plan) moving
split_at_footing h split (at.Refuse next why) =
    record { stage = Holds split.node split.word (led next h); line = None; debt = no_debt }

-- of the full node, which it holds as h says
abbrev pub split_footing : Held → Split → Footing
split_footing h split = split_at_footing h split split.at

-- as it has given all back
abbrev pub done_footing : Footing
done_footing = record { stage = Idle; line = None; debt = no_debt }
