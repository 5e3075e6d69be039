-- What a call in flight has and knows of its node.
use Rattle.std.specs.Prelude.{ℕ, zero, suc, ◌+◌, ◌-◌, List, [], ◌∷◌, ◌++◌, take, slice_index, Bool, true, false}
use Rattle.std.specs.Prelude.{Option, Some, None}
use Rattle.std.specs.Prelude.{◌==◌, if◌then◌else◌}
use Rattle.std.specs.Int.{bit_at}
use Rattle.pm_words.specs.declared.TheConstants.{LINE_WORDS}
use Rattle.pm_words.specs.declared.machine.Turn.{Turn}
use Rattle.pm_words.specs.declared.machine.Turn.TheVariants.{Go, Done}
use Rattle.pm_words.specs.declared.layout.Layout.{Layout}
use Rattle.cat_history.specs.declared.op.Change.{Change}
use Rattle.cat_history.specs.declared.op.Change.TheVariants as change
use Rattle.data_node.specs.Bits.{printed}
use Rattle.call_stages.specs.declared.once.Once.{Once}
use Rattle.call_stages.specs.declared.once.Placed.{Placed}
use Rattle.call_stages.specs.Stages.{Known, Held, Sight, Stage, Idle, Saw, Holds, Reads, just_held}
use Rattle.call_stages.specs.Prevs.{no_debt}
use Rattle.call_stages.specs.Lines.{HeldLine}
use Rattle.call_stages.specs.Footings.{Footing}
use Rattle.smo_log.specs.LogLines.{empty_line}
use Rattle.smo_log.specs.Takes.{take_held}
use Rattle.split_merge.specs.MergeStages.{merge_footing}
use Rattle.split_merge.specs.SplitStages.{split_footing}
use Rattle.node_ops.specs.declared.call.Call.{Call}
use Rattle.node_ops.specs.declared.lookup.Hold.{Hold}
use Rattle.node_ops.specs.declared.lookup.Hit.{Hit}
use Rattle.node_ops.specs.declared.lookup.LookupAt.{LookupAt}
use Rattle.node_ops.specs.declared.lookup.LookupAt.TheVariants as look
use Rattle.node_ops.specs.declared.lookup.Lookup.{Lookup}
use Rattle.pm_words.specs.declared.fence.Fence.{Fence}
use Rattle.pm_words.specs.Fences.{hand_of}
use Rattle.pm_words.specs.Offsets.{bitmap_offset, next_offset, prints_offset, print_offset, slot_offset}
use Rattle.node_ops.specs.declared.fill.Fill.{Fill}
use Rattle.node_ops.specs.declared.fill.FillAt.{FillAt}
use Rattle.node_ops.specs.declared.fill.FillAt.TheVariants as fill_at
use Rattle.node_ops.specs.declared.finish.Finish.{Finish}
use Rattle.node_ops.specs.declared.finish.FinishAt.{FinishAt}
use Rattle.node_ops.specs.declared.finish.FinishAt.TheVariants as finish_at
use Rattle.node_ops.specs.declared.get.Get.{Get}
use Rattle.node_ops.specs.declared.get.Get.TheVariants as get
use Rattle.node_ops.specs.declared.put.Put.{Put}
use Rattle.node_ops.specs.declared.put.Put.TheVariants as put
use Rattle.node_ops.specs.declared.single_put.SinglePut.TheVariants as single_put
use Rattle.node_ops.specs.declared.del.Del.{Del}
use Rattle.node_ops.specs.declared.del.Del.TheVariants as del
use Rattle.node_ops.specs.declared.single_del.SingleDel.TheVariants as single_del
use Rattle.node_ops.specs.declared.running.Running.{Running}
use Rattle.node_ops.specs.declared.running.Running.TheVariants.{Getting, Putting, Deleting, Parting}
use Rattle.node_ops.specs.declared.part.Reading.{Reading}
use Rattle.node_ops.specs.declared.part.ReadingAt.{ReadingAt}
use Rattle.node_ops.specs.declared.part.ReadingAt.TheVariants as at
use Rattle.node_ops.specs.declared.part.Way.{Way}
use Rattle.node_ops.specs.declared.part.Way.TheVariants as ways
use Rattle.node_ops.specs.declared.part.Part.{Part}
use Rattle.node_ops.specs.declared.part.Part.TheVariants as part
use Rattle.node_ops.specs.PartSteps.{entry_in}
use Rattle.data_list.specs.declared.target.Next.{Next}
use Rattle.data_list.specs.declared.walk.Walk.{Walk}
use Rattle.data_list.specs.WalkStages.{walk_watching, walk_stage, view_stage, live_sight, anchor_seen, sight_in}
use Rattle.node_ops.specs.Calls.{name_in}
use Rattle.node_ops.specs.LookupSteps.{value_of}
use Rattle.node_ops.specs.FillSteps.{slot_line, print_line}
use Rattle.node_ops.specs.RunningSteps.{Sound}

-- words that stand one behind another, the first at this offset
abbrev pub words_from : ℕ → List ℕ → List (ℕ × ℕ)
words_from offset [] = []
words_from offset (word ∷ words) = (offset, word) ∷ words_from (offset + 1) words

-- nothing of the node's words is relied on
abbrev pub nothing : Known
nothing = record { seen = []; left = None }

-- these words are relied on
abbrev pub knows : List (ℕ × ℕ) → Known
knows seen = record { seen = seen; left = None }

-- the bitmap, and the name's words in the slot that has it
abbrev pub seen_hit : Call → ℕ → Option Hit → List (ℕ × ℕ)
seen_hit call bitmap None = (bitmap_offset, bitmap) ∷ []
seen_hit call bitmap (Some hit) = (bitmap_offset, bitmap) ∷ words_from (slot_offset hit.slot 0) call.name

-- the node is held, with the clock loaded and below the limit
abbrev pub timed : Call → Hold → Known → Held
timed call hold known = record (just_held (name_in call)) {
  limit = call.limit;
  known = known;
  time = Some hold.clock;
}

-- and it is known what the name has
abbrev pub decided : Call → Hold → Option ℕ → Known → Held
decided call hold old known = record (timed call hold known) { old = Some old }

-- and the node's words show this change
abbrev pub changes : Call → Hold → Option ℕ → Change → Bool → Held
changes call hold old change ready =
    record (timed call hold nothing) { old = Some old; pending = Some change; ready = ready }

-- and the change has its place
abbrev pub has_place : Call → Option ℕ → ℕ → Held
has_place call old place = record (just_held (name_in call)) {
  limit = call.limit;
  old = Some old;
  placed = Some place;
}

-- the words that a fence of this line has still to make durable: the rest of it
abbrev pub fence_rest : ℕ → Fence → ℕ × ℕ
fence_rest line fence = (line + fence.word, LINE_WORDS - fence.word)

-- the word that it has loaded to make it durable
abbrev pub fence_hand : ℕ → Fence → Option (ℕ × ℕ)
fence_hand line fence = hand_of (line + fence.word) fence.at

-- while a fence of this line is at work, and these words are for the next
abbrev pub fencing : Held → ℕ → Fence → List (ℕ × ℕ) → Held
fencing held line fence others = record held { dirty = fence_rest line fence ∷ others; hand = fence_hand line fence }

-- what a call has of its node: a write holds it, and a read has it as long as the version word stands that it saw
abbrev pub held_by : Option ℕ → ℕ → ℕ → Sight → Held → Stage
held_by None n word kept held = Reads n word kept (Some held)
held_by (Some limit) n word kept held = Holds n word held

abbrev pub walk_by : Option ℕ → Walk → Stage
walk_by None walk = view_stage (walk_watching walk)
walk_by (Some limit) walk = walk_stage walk

abbrev pub at_hold : Sight → Call → Hold → Held → Stage
at_hold kept call hold held = held_by call.limit call.node hold.locked kept held

-- of what a read saw it keeps this
abbrev pub lookup_at_stage : Sight → Call → LookupAt → Stage
lookup_at_stage kept call (look.Floor floor) = Idle
lookup_at_stage kept call (look.Walk walk) = walk_by call.limit walk
lookup_at_stage kept call (look.Read seen) = Reads call.node seen.version (sight_in seen) None
lookup_at_stage kept call (look.Lock seen locked) = Saw call.node seen.version locked (sight_in seen)
lookup_at_stage kept call (look.Clock locked) = Holds call.node locked (just_held (name_in call))
lookup_at_stage kept call (look.Spent hold) =
    Holds call.node hold.locked (record (just_held (name_in call)) { time = Some hold.clock })
lookup_at_stage kept call (look.Bitmap hold) = at_hold kept call hold (timed call hold nothing)
lookup_at_stage kept call (look.Prints hold bitmap prints k) =
    at_hold kept call hold (timed call hold (knows ((bitmap_offset, bitmap) ∷ words_from prints_offset (take k prints))))
lookup_at_stage kept call (look.Name hold directory left slot k) =
    at_hold kept call hold (timed call hold (record {
      seen = (bitmap_offset, directory.bitmap) ∷ (words_from prints_offset directory.prints ++ words_from (slot_offset slot 0)
          (take k call.name));
      left = Some left;
    }))
lookup_at_stage kept call (look.Value hold directory slot) =
    at_hold kept call hold (timed call hold (knows ((
      bitmap_offset,
      directory.bitmap,
    ) ∷ (words_from prints_offset directory.prints ++ words_from (slot_offset slot 0) call.name))))

-- a read of one name needs no more of what it saw
abbrev pub lookup_stage : Lookup → Stage
lookup_stage lookup = lookup_at_stage (live_sight []) lookup.call lookup.at

-- the words that a put has stored in its slot
abbrev pub pair_words : Fill → List ℕ
pair_words fill = fill.call.name ++ fill.value ∷ []

-- the bitmap, the word with the slot's fingerprint, where the name was, and the words stored in the slot
abbrev pub seen_fill : Fill → ℕ → ℕ → List (ℕ × ℕ)
seen_fill fill prints count =
    (print_offset fill.slot, prints) ∷ (seen_hit fill.call fill.bitmap fill.hit ++ words_from (slot_offset fill.slot 0)
    (take count (pair_words fill)))

abbrev pub fill_at_known : Fill → FillAt → Known
fill_at_known fill (fill_at.Word k) = knows (seen_fill fill fill.prints k)
fill_at_known fill fill_at.Print = knows (seen_fill fill fill.prints 4)
fill_at_known fill (fill_at.FenceSlot fence) = knows (seen_fill fill (printed fill.prints fill.slot fill.call.print) 4)
fill_at_known fill (fill_at.FencePrint fence) = knows (seen_fill fill (printed fill.prints fill.slot fill.call.print) 4)
fill_at_known fill fill_at.Bitmap = knows (seen_fill fill (printed fill.prints fill.slot fill.call.print) 4)

-- the first so many words of a slot
abbrev pub slot_words : ℕ → ℕ → List (ℕ × ℕ)
slot_words slot zero = []
slot_words slot (suc count) = (slot_offset slot 0, suc count) ∷ []

-- what is not durable yet: the words stored in the slot, then its fingerprint
abbrev pub fill_at_dirty : ℕ → FillAt → List (ℕ × ℕ)
fill_at_dirty slot (fill_at.Word k) = slot_words slot k
fill_at_dirty slot fill_at.Print = slot_words slot 4
fill_at_dirty slot (fill_at.FenceSlot fence) = fence_rest (slot_line slot) fence ∷ (print_offset slot, 1) ∷ []
fill_at_dirty slot (fill_at.FencePrint fence) = fence_rest (print_line slot) fence ∷ []
fill_at_dirty slot fill_at.Bitmap = []

abbrev pub fill_at_hand : ℕ → FillAt → Option (ℕ × ℕ)
fill_at_hand slot (fill_at.Word k) = None
fill_at_hand slot fill_at.Print = None
fill_at_hand slot (fill_at.FenceSlot fence) = fence_hand (slot_line slot) fence
fill_at_hand slot (fill_at.FencePrint fence) = fence_hand (print_line slot) fence
fill_at_hand slot fill_at.Bitmap = None

abbrev pub fill_at_held : Fill → FillAt → Held
fill_at_held fill at =
    record (decided fill.call fill.hold (value_of fill.hit) (fill_at_known fill at)) {
      dirty = fill_at_dirty fill.slot at;
      hand = fill_at_hand fill.slot at;
    }

abbrev pub fill_stage : Fill → Stage
fill_stage fill = Holds fill.call.node fill.hold.locked (fill_at_held fill fill.at)

-- the change that a write makes: a put of this number, or a delete
abbrev pub change_to : List ℕ → Option ℕ → Change
change_to name (Some value) = change.Put name value
change_to name None = change.Del name

abbrev pub finish_at_held : Finish → FinishAt → Held
finish_at_held finish (finish_at.Fence line fence) =
    fencing (changes finish.call finish.hold finish.old (change_to (name_in finish.call) finish.new) false) line fence
    []
finish_at_held finish finish_at.Add =
    changes finish.call finish.hold finish.old (change_to (name_in finish.call) finish.new) true
finish_at_held finish (finish_at.Unlock place) = has_place finish.call finish.old place

abbrev pub finish_stage : Finish → Stage
finish_stage finish = Holds finish.call.node finish.hold.locked (finish_at_held finish finish.at)

abbrev pub get_stage : Get → Stage
get_stage (get.Looking lookup) = lookup_stage lookup
get_stage (get.Checking call hold old) =
    Reads call.node hold.locked (live_sight []) (Some (decided call hold old nothing))

-- no live slot has the name, and no slot is clear
abbrev pub found_full : Call → Hold → ℕ → Held
found_full call hold bitmap = decided call hold None (knows ((bitmap_offset, bitmap) ∷ []))

abbrev pub put_stage : Put → Stage
put_stage (put.Single (single_put.Looking lookup value)) = lookup_stage lookup
put_stage (put.Single (single_put.Filling fill)) = fill_stage fill
put_stage (put.Single (single_put.Replacing call hold bitmap hit value)) =
    Holds call.node hold.locked (decided call hold (Some hit.value) (knows (seen_hit call bitmap (Some hit))))
put_stage (put.Single (single_put.Finishing finish)) = finish_stage finish
put_stage (put.Splitting call hold bitmap value split) = (split_footing (found_full call hold bitmap) split).stage

-- the name is in this slot
abbrev pub found_in : Call → Hold → ℕ → Hit → Stage
found_in call hold bitmap hit =
    Holds call.node hold.locked (decided call hold (Some hit.value) (knows (seen_hit call bitmap (Some hit))))

abbrev pub del_stage : Del → Stage
del_stage (del.Single (single_del.Looking lookup)) = lookup_stage lookup
del_stage (del.Single (single_del.Next call hold bitmap hit)) = found_in call hold bitmap hit
del_stage (del.Single (single_del.Taking call hold bitmap hit take)) = found_in call hold bitmap hit
del_stage (del.Single (single_del.Refusing call hold bitmap hit)) = found_in call hold bitmap hit
del_stage (del.Single (single_del.Clearing call hold bitmap hit line)) = found_in call hold bitmap hit
del_stage (del.Single (single_del.Finishing finish line)) = finish_stage finish
del_stage (del.Merging call hold old place merge) = (merge_footing (has_place call old place) merge).stage

-- so many words of a slot, with others
abbrev pub words_loaded : List ℕ → ℕ → ℕ → List (ℕ × ℕ) → List (ℕ × ℕ)
words_loaded entry slot zero others = others
words_loaded entry slot (suc n) others = (slot_offset slot n, slice_index entry n) ∷ words_loaded entry slot n others

-- the words of the live ones of the first so many slots
abbrev pub slots_loaded : List (List ℕ) → ℕ → ℕ → List (ℕ × ℕ)
slots_loaded entries bitmap zero = []
slots_loaded entries bitmap (suc slot) =
    if bit_at bitmap slot == 1
    then words_loaded (entry_in entries slot) slot 4 (slots_loaded entries bitmap slot)
    else slots_loaded entries bitmap slot

-- what it has loaded: the words of the live slots below, and so many of this one; at last those of all live slots
abbrev pub loaded_at : List (List ℕ) → ℕ → ℕ → ReadingAt → List (ℕ × ℕ)
loaded_at entries bitmap slots (at.Load slot word) =
    words_loaded (entry_in entries slot) slot word (slots_loaded entries bitmap slot)
loaded_at entries bitmap slots _ = slots_loaded entries bitmap slots

-- what it keeps of what its walk saw: where its node leads
abbrev pub behind_sight : Option Next → Sight
behind_sight None = live_sight ((next_offset, 0) ∷ [])
behind_sight (Some next) = record {
  live = true;
  seen = (next_offset, next.node) ∷ [];
  next = next.node;
  beyond = anchor_seen next.anchor;
}

-- it has all words of its live slots, as a get that knows what its name has
abbrev pub reading_whole : Reading → Held
reading_whole reading =
    decided reading.call reading.hold reading.old (knows ((bitmap_offset, reading.bitmap) ∷ slots_loaded reading.entries
    reading.bitmap reading.call.view.layout.slots))

-- it has loaded so much
abbrev pub reading_at_held : Reading → ReadingAt → Held
reading_at_held reading at.Clock = just_held (name_in reading.call)
reading_at_held reading at.Bitmap = timed reading.call reading.hold nothing
reading_at_held reading (at.Load slot word) =
    timed reading.call reading.hold (knows ((bitmap_offset, reading.bitmap) ∷ loaded_at reading.entries reading.bitmap
    reading.call.view.layout.slots (at.Load slot word)))
reading_at_held reading _ = reading_whole reading

-- what a part has of its node: with the lock it holds it, and without one it has it as long as the version word stands
-- that its walk saw
abbrev pub stage_by : Way → ℕ → ℕ → Sight → Held → Stage
stage_by (ways.Held words) n word kept held = Holds n word held
stage_by _ n word kept held = Reads n word kept (Some held)

abbrev pub reading_stage : Reading → Stage
reading_stage reading =
    stage_by reading.way reading.call.node reading.hold.locked (behind_sight reading.behind) (reading_at_held reading
    reading.at)

abbrev pub part_stage : Part → Stage
part_stage (part.Looking lookup count) = lookup_stage lookup
part_stage (part.Ordering call seen count load) = Reads call.node seen.version (sight_in seen) None
part_stage (part.Locking call seen count locked) = Reads call.node seen.version (sight_in seen) None
part_stage (part.Dating call seen count way) = Reads call.node seen.version (sight_in seen) None
part_stage (part.Reading reading) = reading_stage reading

abbrev pub stage_of : Running → Stage
stage_of (Getting get) = get_stage get
stage_of (Putting put) = put_stage put
stage_of (Deleting del) = del_stage del
stage_of (Parting p) = part_stage p

-- with its log line, and what it knows and owes of prevs
abbrev pub put_footing : Put → Footing
put_footing (put.Splitting call hold bitmap value split) = split_footing (found_full call hold bitmap) split
put_footing put = record { stage = put_stage put; line = None; debt = no_debt }

-- a line that is taken, and EMPTY, if there is one
abbrev pub line_taken : Option ℕ → Option HeldLine
line_taken None = None
line_taken (Some line) = Some (empty_line line)

abbrev pub del_footing : Del → Footing
del_footing (del.Single (single_del.Looking lookup)) =
    record { stage = lookup_stage lookup; line = None; debt = no_debt }
del_footing (del.Single (single_del.Next call hold bitmap hit)) =
    record { stage = found_in call hold bitmap hit; line = None; debt = no_debt }
del_footing (del.Single (single_del.Taking call hold bitmap hit take)) =
    record { stage = found_in call hold bitmap hit; line = take_held take; debt = no_debt }
del_footing (del.Single (single_del.Refusing call hold bitmap hit)) =
    record { stage = found_in call hold bitmap hit; line = None; debt = no_debt }
del_footing (del.Single (single_del.Clearing call hold bitmap hit line)) =
    record { stage = found_in call hold bitmap hit; line = line_taken line; debt = no_debt }
del_footing (del.Single (single_del.Finishing finish line)) =
    record { stage = finish_stage finish; line = line_taken line; debt = no_debt }
del_footing (del.Merging call hold old place merge) = merge_footing (has_place call old place) merge

abbrev pub footing_of : Running → Footing
footing_of (Getting get) = record { stage = get_stage get; line = None; debt = no_debt }
footing_of (Putting put) = put_footing put
footing_of (Deleting del) = del_footing del
footing_of (Parting p) = record { stage = part_stage p; line = None; debt = no_debt }

abbrev pub footing_after : Turn Running (Once Placed) → Footing
footing_after (Go running) = footing_of running
footing_after (Done answer) = record { stage = Idle; line = None; debt = no_debt }

-- after a turn
abbrev pub stage_after : Turn Running (Once Placed) → Stage
stage_after (Go running) = stage_of running
stage_after (Done answer) = Idle

abbrev pub reply_of : Turn Running (Once Placed) → Option (Once Placed)
reply_of (Go running) = None
reply_of (Done answer) = Some answer

abbrev pub SoundAfter : Layout → ℕ → Turn Running (Once Placed) → Type 0
SoundAfter l g (Go running) = Sound l g running
SoundAfter l g (Done answer) = Unit {0}
