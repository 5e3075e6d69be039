-- What a split is to do: a plan, made of the words of the full node.
use Rattle.std.specs.Prelude.{◌≡◌, ℕ, zero, suc, ◌+◌, ◌-◌, ◌*◌, ◌/◌, ◌%◌, ◌^◌, ◌<◌, nat_lt, if◌then◌else◌, Bool, List}
use Rattle.std.specs.Prelude.{[], ◌∷◌, take, map, slice_index, Option, Some, None}
use Rattle.std.specs.Int.{w64, from_le_bytes}
use Rattle.std.specs.List.{range_with_len}
use Rattle.pm_words.specs.Layouts.{IsLayout}
use Rattle.pm_words.specs.Codes.{split_kind}
use Rattle.pm_words.specs.Offsets.{next_offset, slot_offset, value_word}
use Rattle.version_lock.specs.Versions.{IsLockWord}
use Rattle.data_node.specs.Bits.{with_live}
use Rattle.data_node.specs.Spots.{Spot, print_in_spot, name_words}
use Rattle.data_node.specs.Orders.{comes_before}
use Rattle.data_node.specs.Lists.{anchor_words}
use Rattle.data_list.specs.Keys.{name_kept}
use Rattle.smo_log.specs.declared.line.Entry.{Entry}
use Rattle.smo_log.specs.LogLines.{IsEntryOf}
use Rattle.split_merge.specs.declared.planning.Plan.{Plan}

-- The words of a node, as a list by offset, as a spot.
abbrev pub spot_of : List ℕ → Spot
spot_of full offset = slice_index full offset

-- The four words of each slot.
abbrev pub entry_at : List ℕ → ℕ → List ℕ
entry_at full slot =
    spot_of full (slot_offset slot 0) ∷ spot_of full (slot_offset slot 1) ∷ spot_of full (slot_offset slot 2) ∷ spot_of
    full (slot_offset slot value_word) ∷ []

unfoldable pub entries_of : List ℕ → List (List ℕ)
entries_of full = map (entry_at full) (range_with_len 0 64)

-- A slot goes before the first of the others that it comes before.
abbrev pub put_in : (ℕ → ℕ → Bool) → ℕ → List ℕ → List ℕ
put_in before slot [] = slot ∷ []
put_in before slot (other ∷ others) =
    if before slot other then slot ∷ other ∷ others else other ∷ put_in before slot others

-- The first so many slots in order.
abbrev pub in_order : (ℕ → ℕ → Bool) → ℕ → List ℕ
in_order before zero = []
in_order before (suc slot) = put_in before slot (in_order before slot)

-- The slots of a full node in rising order of their names.
unfoldable pub order_of : List ℕ → ℕ → List ℕ
order_of full slots = in_order (comes_before (entries_of full)) slots

-- The words of the least name that moves.
abbrev pub least_words : List ℕ → ℕ → List ℕ
least_words full slots = name_words (spot_of full) (slice_index (order_of full slots) (slots / 2))

-- The slots of the upper half of an order, and zeros behind them.
abbrev pub moved_at : List ℕ → ℕ → ℕ → ℕ
moved_at order half slot = if nat_lt slot half then slice_index order (half + slot) else 0

unfoldable pub moved_of : List ℕ → ℕ → List ℕ
moved_of order half = map (moved_at order half) (range_with_len 0 32)

-- Slots as bits.
abbrev pub bits_of : List ℕ → ℕ
bits_of [] = 0
bits_of (slot ∷ slots) = with_live (bits_of slots) slot

-- The words of a name stand for themselves; others for those of the name `!`.
abbrev pub some_words : Option (List ℕ) → List ℕ → List ℕ
some_words (Some name) words = words
some_words None words = 0x2100000000000000 ∷ 0 ∷ 0 ∷ []

unfoldable pub anchor_of : List ℕ → List ℕ
anchor_of words = some_words (name_kept words) words

-- How many names move.
abbrev pub moved_in : Plan → ℕ
moved_in plan = plan.layout.slots / 2

-- The slot in the full node of the name that is to have this slot in the fresh one.
abbrev pub source_in : Plan → ℕ → ℕ
source_in plan slot = slice_index plan.moved slot

-- The fingerprint of a slot of the fresh node; 0 where no name is.
unfoldable pub plan_print : Plan → ℕ → ℕ
plan_print plan slot =
    if nat_lt slot (moved_in plan) then print_in_spot (spot_of plan.full) (source_in plan slot) else 0

abbrev pub eight_prints : Plan → ℕ → List ℕ
eight_prints plan first =
    plan_print plan first ∷ plan_print plan (first + 1) ∷ plan_print plan (first + 2) ∷ plan_print plan
    (first + 3) ∷ plan_print plan (first + 4) ∷ plan_print plan (first + 5) ∷ plan_print plan (first + 6) ∷ plan_print
    plan (first + 7) ∷ []

-- The word that the fresh node is to have at this offset: as many low bits as names move, what the full node leads to,
-- the anchor, fingerprints, slots.
unfoldable pub plan_word : Plan → ℕ → ℕ
plan_word plan offset =
    if nat_lt offset 2 then 2 ^ moved_in plan - 1
    else (if nat_lt offset 3 then slice_index plan.full 2
    else (if nat_lt offset 6 then slice_index plan.anchor (offset - 3)
    else (if nat_lt offset 16 then from_le_bytes w64 (eight_prints plan (8 * (offset % 8)))
    else slice_index plan.full (slot_offset (source_in plan ((offset - 16) / 4)) ((offset - 16) % 4)))))

-- The node behind it; 0 is none.
abbrev pub next_in : Plan → ℕ
next_in plan = plan_word plan next_offset

-- What a line is to say of a change of this kind: this node, with this anchor, stands behind that one.
abbrev pub says_behind : ℕ → ℕ → List ℕ → ℕ → Entry
says_behind kind node anchor left = record { kind = kind; node = node; anchor = anchor; left = left }

abbrev pub entry_in : Plan → Entry
entry_in plan = says_behind split_kind plan.share.fresh (anchor_words (plan_word plan)) plan.node

-- What a plan keeps.
pub record IsPlan (plan : Plan) : Type 0 where
  pub layout : IsLayout plan.layout
  pub node : plan.node < plan.layout.nodes
  pub fresh : plan.share.fresh < plan.layout.nodes
  pub lock : IsLockWord plan.locked
  pub fresh_lock : IsLockWord plan.share.locked
  pub line : plan.share.line < 8 * plan.layout.callers
  pub next : next_in plan < plan.layout.nodes
  pub entry : IsEntryOf plan.layout (entry_in plan)
  pub moved : (slot : ℕ) → slot < 32 → source_in plan slot < 64
  pub words : (offset : ℕ) → plan_word plan offset < 2 ^ 64
  pub keep : plan.keep < 2 ^ 64

-- The upper half of the names moves, in their order, the anchor is the least of them, and the others stay.
pub record IsHalf (plan : Plan) : Type 0 where
  pub moved : plan.moved ≡ moved_of (order_of plan.full plan.layout.slots) (moved_in plan)
  pub anchor : plan.anchor ≡ anchor_of (least_words plan.full plan.layout.slots)
  pub keep : plan.keep ≡ bits_of (take (moved_in plan) (order_of plan.full plan.layout.slots))
