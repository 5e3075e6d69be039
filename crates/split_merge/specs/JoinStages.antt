-- What a party relies on that merges the right node into the left one.
use Rattle.std.specs.Prelude.{ℕ, zero, suc, ◌+◌, ◌-◌, ◌*◌, ◌==◌, ◌&&◌, nat_lt, if◌then◌else◌, Bool, List, [], ◌∷◌}
use Rattle.std.specs.Prelude.{Option, Some, None}
use Rattle.std.specs.Prelude.{slice_index}
use Rattle.std.specs.Int.{bit_at}
use Rattle.pm_words.specs.Fences.{hand_of}
use Rattle.pm_words.specs.Offsets.{bitmap_offset, next_offset, slot_offset}
use Rattle.call_stages.specs.Stages.{Held, Grip, Pace, Gathered, Joined, Gone, Stage, Holds, Meets, Joins, left_grip}
use Rattle.call_stages.specs.Stages.{fresh_grip, merged_held}
use Rattle.call_stages.specs.Lines.{HeldLine}
use Rattle.call_stages.specs.Prevs.{Debt, no_debt}
use Rattle.call_stages.specs.Footings.{Footing}
use Rattle.smo_log.specs.LogLines.{open_line, ready_line}
use Rattle.smo_log.specs.Opens.{open_held}
use Rattle.smo_log.specs.States.{ready_held}
use Rattle.split_merge.specs.declared.uniting.Union.{Union}
use Rattle.split_merge.specs.declared.joining.Join.{Join}
use Rattle.split_merge.specs.declared.joining.JoinAt.{JoinAt}
use Rattle.split_merge.specs.declared.joining.JoinAt.TheVariants as at
use Rattle.split_merge.specs.MoveStages.{words_onto}
use Rattle.split_merge.specs.Unions.{from_in, half_of, own_prints, joined_end, joined_prints, head_word, behind_in}
use Rattle.split_merge.specs.Unions.{entry_in}
use Rattle.split_merge.specs.Joins.{lowest}

-- what it knows of its node before it loads fingerprints: the bitmap, and where it leads
abbrev pub near_seen : ℕ → ℕ → List (ℕ × ℕ)
near_seen own right = (bitmap_offset, own) ∷ (next_offset, right) ∷ []

-- what the call has, with words of its node that it knows, some that may not be durable yet, and one in hand
abbrev pub knowing : List (ℕ × ℕ) → List (ℕ × ℕ) → Option (ℕ × ℕ) → Held → Held
knowing seen dirty hand h = record h { known = record { seen = seen; left = None }; dirty = dirty; hand = hand }

-- the word of fingerprints at this offset once so many of them are stored
abbrev pub prints_now : Union → ℕ → ℕ → ℕ
prints_now union stored offset =
    if nat_lt offset (8 + stored) then joined_prints union (offset - 8) else slice_index union.prints (offset - 8)

abbrev pub own_seen : Union → ℕ → List (ℕ × ℕ)
own_seen union stored = words_onto (prints_now union stored) 8 (own_prints union) (near_seen union.own union.right)

-- the right node's words before its slots
abbrev pub head_seen : Union → List (ℕ × ℕ)
head_seen union = words_onto (head_word union) bitmap_offset 15 []

-- so many words of a slot of the left node are those of one of the right node; and others
abbrev pub words_copied : ℕ → ℕ → ℕ → List (ℕ × ℕ) → List (ℕ × ℕ)
words_copied slot source zero others = others
words_copied slot source (suc n) others =
    (slot_offset slot n, slot_offset source n) ∷ words_copied slot source n others

-- the slot of the left node has its name: it gets one, and isn't left
abbrev pub has_got : Union → ℕ → ℕ → Bool
has_got union left slot = nat_lt (from_in union slot) 64 && bit_at left slot == 0

-- of the first so many slots those that have their names
abbrev pub slots_copied : Union → ℕ → ℕ → List (ℕ × ℕ)
slots_copied union left zero = []
slots_copied union left (suc slot) =
    if has_got union left slot then words_copied slot (from_in union slot) 4 (slots_copied union left slot)
    else slots_copied union left slot

-- all of them but those that are left, and so many words of the lowest of these
abbrev pub copied_so : Union → ℕ → ℕ → List (ℕ × ℕ)
copied_so union left word =
    words_copied (lowest left) (from_in union (lowest left)) word (slots_copied union left (half_of union))

abbrev pub all_copied : Union → List (ℕ × ℕ)
all_copied union = slots_copied union 0 (half_of union)

abbrev pub right_of : Union → List (ℕ × ℕ) → List (ℕ × ℕ) → Grip
right_of union seen copied = record (fresh_grip union.right union.right_locked) { seen = seen; copied = copied }

-- the words of the slots that get names
abbrev pub slots_dirty : Union → List (ℕ × ℕ)
slots_dirty union = (16, 4 * half_of union) ∷ []

-- which words may not be durable yet: none before the first word is copied
abbrev pub copy_dirty : Union → ℕ → ℕ → List (ℕ × ℕ)
copy_dirty union left word = if word == 0 && left == union.pairs.targets then [] else slots_dirty union

abbrev pub meeting : Held → Union → ℕ → List (ℕ × ℕ) → Option (ℕ × ℕ) → List (ℕ × ℕ) → List (ℕ × ℕ) → Stage
meeting h union stored dirty hand seen copied =
    Meets union.node union.locked (knowing (own_seen union stored) dirty hand h) (right_of union seen copied)

-- how many words of fingerprints are stored before the bitmap: none where no name is copied
abbrev pub stored_in : Union → ℕ
stored_in union = if union.pairs.targets == 0 then 0 else own_prints union

-- what the call has as it stores the bitmap
abbrev pub gathering : Held → Union → Held
gathering h union = knowing (own_seen union (stored_in union)) [] None h

abbrev pub joining : Held → Union → List (ℕ × ℕ) → List (ℕ × ℕ) → Option (ℕ × ℕ) → Pace → Stage
joining h union seen dirty hand pace =
    Joins (gathering h union) (record (left_grip union.node union.locked seen dirty) { hand = hand })
    (right_of union (head_seen union) (all_copied union)) pace

-- what it knows of the left node after the switch
abbrev pub past_seen : Union → List (ℕ × ℕ)
past_seen union = (next_offset, behind_in union) ∷ []

abbrev pub join_at_stage : Held → Union → JoinAt → Stage
join_at_stage h union (at.Open machine) = meeting h union 0 [] None (head_seen union) []
join_at_stage h union (at.Load left word) =
    meeting h union 0 (copy_dirty union left word) None (head_seen union) (copied_so union left word)
join_at_stage h union (at.Copy left word value) =
    meeting h union 0 (copy_dirty union left word) None
    ((slot_offset (from_in union (lowest left)) word, value) ∷ head_seen union) (copied_so union left word)
join_at_stage h union (at.Print word) =
    meeting h union word ((8, word) ∷ slots_dirty union) None (head_seen union) (all_copied union)
join_at_stage h union (at.FenceCopies first fence) =
    meeting h union (own_prints union)
    ((first + fence.word, joined_end union - (first + fence.word)) ∷ [])
    (hand_of (first + fence.word) fence.at) (head_seen union) (all_copied union)
join_at_stage h union at.Bitmap =
    Meets union.node union.locked (gathering h union) (right_of union (head_seen union) (all_copied union))
join_at_stage h union (at.FenceBitmap fence) =
    joining h union [] ((fence.word, 8 - fence.word) ∷ []) (hand_of fence.word fence.at) Gathered
join_at_stage h union at.Switch = joining h union [] [] None Gathered
join_at_stage h union (at.FenceSwitch fence) =
    joining h union (past_seen union) ((fence.word, 8 - fence.word) ∷ []) (hand_of fence.word fence.at) Joined
join_at_stage h union at.Retire = joining h union (past_seen union) [] None Joined
join_at_stage h union at.Prev = joining h union (past_seen union) [] None Gone
join_at_stage h union at.NextPrev = joining h union (past_seen union) [] None Gone
join_at_stage h union (at.Ready ready) = joining h union (past_seen union) [] None Gone
join_at_stage h union at.UnlockRight = joining h union (past_seen union) [] None Gone
join_at_stage h union at.Unlock = Holds union.node union.locked (merged_held (gathering h union))

-- the line is opened before any word is copied, and is READY before a node is given back
abbrev pub join_at_line : Union → JoinAt → Option HeldLine
join_at_line union (at.Open machine) = Some (open_held machine)
join_at_line union (at.Ready ready) = Some (ready_held (entry_in union) ready)
join_at_line union at.UnlockRight = Some (ready_line union.line (entry_in union))
join_at_line union at.Unlock = None
join_at_line union _ = Some (open_line union.line (entry_in union))

-- from the switch on the prev of the right node is the left one, and that of the node behind it is owed
abbrev pub past_debt : Union → Debt
past_debt union = record { known = Some (union.right, union.node); owes = Some union.node }

-- which is stored where there is such a node
abbrev pub last_debt : Union → Debt
last_debt union = record {
  known = Some (union.right, union.node);
  owes = if behind_in union == 0 then Some union.node else None;
}

abbrev pub join_at_debt : Union → JoinAt → Debt
join_at_debt union (at.FenceSwitch fence) = past_debt union
join_at_debt union at.Retire = past_debt union
join_at_debt union at.Prev = past_debt union
join_at_debt union at.NextPrev = past_debt union
join_at_debt union (at.Ready ready) = last_debt union
join_at_debt union at.UnlockRight = last_debt union
join_at_debt union _ = no_debt

-- of the call, which held its node as h says
abbrev pub join_footing : Held → Join → Footing
join_footing h join =
    record {
      stage = join_at_stage h join.union join.at;
      line = join_at_line join.union join.at;
      debt =
          join_at_debt join.union join.at;
    }
