-- The words of the root's line behind the first, while a change is made.
use Rattle.std.proofs.Common.{◌≡◌, ℕ, ◌+◌, ◌^◌, ◌<◌, ◌==◌, ◌||◌, Bool, true, false, cond, ltb, List, length}
use Rattle.std.proofs.Common.{slice_index, slice_set, Option, Some, None, inl, inr, sym, subst, ap, ◌∙◌, arith}
use Rattle.std.specs.Prelude.{nat_le}
use Rattle.std.proofs.lemmas.Bool.{cases_eq, false≢true}
use Rattle.std.proofs.lemmas.List.{get_or-set_other}
use Rattle.pm_words.specs.declared.TheConstants.{LINE_WORDS}
use Rattle.pm_words.specs.declared.layout.Layout.{Layout}
use Rattle.pm_words.specs.declared.action.Action.{Action}
use Rattle.pm_words.specs.declared.machine.Turn.{Turn}
use Rattle.pm_words.specs.declared.machine.Turn.TheVariants.{Go, Done}
use Rattle.pm_words.specs.declared.fence.Fence.{Fence}
use Rattle.pm_words.specs.declared.fence.FenceAt.{FenceAt}
use Rattle.pm_words.specs.declared.fence.FenceAt.TheVariants as fence_at
use Rattle.pm_words.specs.Fences.{fence_at_asks, fence_next, fence_at_next}
use Rattle.pm_words.specs.Locations.{Root, Location, Mark, Cached, Durable, row_words, address_of, at, cached_address}
use Rattle.pm_words.specs.Locations.{durable_address}
use Rattle.pm_words.specs.Rows.{acted, evicted}
use Rattle.pm_words.specs.Rows as rows
use Rattle.pm_words.proofs.Apart.{words_within, at-set_same, at-set_other}
use Rattle.pm_words.proofs.Kept.{action_address-drain}
use Rattle.radix_nodes.specs.declared.cell.Cell as cells
use Rattle.radix_nodes.specs.declared.fill_leaf.FillLeaf.{FillLeaf}
use Rattle.radix_nodes.specs.declared.fill_cell.FillCell.{FillCell}
use Rattle.radix_nodes.specs.Keys.{key_bytes}
use Rattle.tree_law.specs.Trees.{byte_at}
use Rattle.tree_law.specs.Words.{kind_of}
use Rattle.tree_row.proofs.RowLaw.{load_same}
use Rattle.layer_map.specs.Keys.{key_number}
use Rattle.tree_update.specs.tree_look.specs.declared.look.Look.{Look}
use Rattle.tree_update.specs.tree_look.specs.declared.look.Spot.{Spot}
use Rattle.tree_update.specs.tree_look.specs.declared.look.Looked.{Looked}
use Rattle.tree_update.specs.tree_look.specs.declared.look.Looked.TheVariants as looked
use Rattle.tree_update.specs.tree_look.specs.Looks.{look_turned}
use Rattle.tree_update.specs.tree_change.specs.declared.take.Take.{Take}
use Rattle.tree_update.specs.tree_change.specs.declared.take.Taken.{Taken}
use Rattle.tree_update.specs.tree_change.specs.declared.take.Taken.TheVariants as taken
use Rattle.tree_update.specs.tree_change.specs.declared.find_room.FindRoom.{FindRoom}
use Rattle.tree_update.specs.tree_change.specs.declared.room.Room.{Room}
use Rattle.tree_update.specs.tree_change.specs.declared.room.Room.TheVariants as room
use Rattle.tree_update.specs.tree_change.specs.declared.read_cell.ReadCell.{ReadCell}
use Rattle.tree_update.specs.tree_change.specs.declared.count.Count.{Count}
use Rattle.tree_update.specs.tree_change.specs.declared.others.Counted.{Counted}
use Rattle.tree_update.specs.tree_change.specs.declared.others.Counted.TheVariants as counts_as
use Rattle.tree_update.specs.tree_change.specs.declared.finish.Target.{Target}
use Rattle.tree_update.specs.tree_change.specs.declared.finish.Target.TheVariants as target
use Rattle.tree_update.specs.tree_change.specs.declared.finish.Finish.{Finish}
use Rattle.tree_update.specs.tree_change.specs.declared.finish.FinishAt.{FinishAt}
use Rattle.tree_update.specs.tree_change.specs.declared.finish.FinishAt.TheVariants as finish_at
use Rattle.tree_update.specs.tree_change.specs.Takes.{take_turned}
use Rattle.tree_update.specs.tree_change.specs.FindRooms.{find_room_turned}
use Rattle.tree_update.specs.tree_change.specs.Reads.{read_turned}
use Rattle.tree_update.specs.tree_change.specs.Counts.{count_turned}
use Rattle.radix_nodes.specs.Fills.{fill_leaf_turned, fill_cell_turned}
use Rattle.tree_update.specs.tree_change.specs.Finishes.{line_image, IsFinishAt, finish_asks, finish_at_asks}
use Rattle.tree_update.specs.tree_change.specs.Finishes.{finish_at_turned, quiet_drained, switch_drained, unmarks}
use Rattle.tree_update.specs.declared.change.Change.{Change}
use Rattle.tree_update.specs.declared.change.ChangeAt.{ChangeAt}
use Rattle.tree_update.specs.declared.change.ChangeAt.TheVariants as part_at
use Rattle.tree_update.specs.declared.change.Site.{Site}
use Rattle.tree_update.specs.declared.change.Site.TheVariants as site
use Rattle.tree_update.specs.declared.change.NewCell.{NewCell}
use Rattle.tree_update.specs.declared.change.Ended.{Ended}
use Rattle.tree_update.specs.Changes as changes
use Rattle.tree_update.specs.Changes.{IsChange, IsChangeAt, change_asks, change_turned, change_at_asks}
use Rattle.tree_update.specs.Changes.{change_at_turned, finish_goes}
use Rattle.tree_update.specs.Stages.{Aim}
use Rattle.layer_map.specs.Places.{is_of_layer}
use Rattle.search_layer.specs.ChangeStages.{Changing, Making, Changed, change_with, stage_after}
use Rattle.search_layer.specs.Beside.{ActsBeside}
use Rattle.search_layer.specs.Beside as beside
use Rattle.search_layer.specs.RootLine.{HoldsWord, HoldsIn, HoldsPart, IsRootWord, HoldsRoot, RootLineStays}
use Rattle.search_layer.specs.RootLine.{RootBegins, RootStepKeeps, RootOutlasts, RootOthersKeep, RootEvictionsKeep}
use Rattle.search_layer.proofs.RowLemmas.{root_word}
use Rattle.search_layer.proofs.OnLayer.{IsBody, IsOfTree, ActsIn, loads, stores, marks, drains, drains_root, part_in}

-- What a fence that loads is told, and then has in hand.
abbrev GetsWord : (ℕ → ℕ → Type 0) → Target → ℕ → FenceAt → ℕ → Type 0
GetsWord P target.Root word fence_at.Load x = P word x
GetsWord P target.Root word (fence_at.Drain value) x = Unit {0}
GetsWord P (target.Leaf leaf offset) word place x = Unit {0}
GetsWord P (target.Cell cell offset) word place x = Unit {0}

abbrev GetsIn : (ℕ → ℕ → Type 0) → Finish → FinishAt → ℕ → Type 0
GetsIn P f finish_at.Quiet x = Unit {0}
GetsIn P f (finish_at.QuietFence fence) x = GetsWord P f.quiet.target fence.word fence.at x
GetsIn P f finish_at.Switch x = Unit {0}
GetsIn P f (finish_at.SwitchFence fence) x = GetsWord P f.switch.target fence.word fence.at x
GetsIn P f (finish_at.Unmark reference) x = Unit {0}

abbrev GetsPart : (ℕ → ℕ → Type 0) → ChangeAt → ℕ → Type 0
GetsPart P (part_at.Looking look) x = Unit {0}
GetsPart P (part_at.TakingLeaf take place) x = Unit {0}
GetsPart P (part_at.FillingLeaf fill place) x = Unit {0}
GetsPart P (part_at.FindingRoom find spot leaf) x = Unit {0}
GetsPart P (part_at.ReadingCell read spot byte leaf) x = Unit {0}
GetsPart P (part_at.TakingCell take new) x = Unit {0}
GetsPart P (part_at.FillingCell fill spot free) x = Unit {0}
GetsPart P (part_at.ReadingDepth leaf outer inner) x = Unit {0}
GetsPart P (part_at.Counting count leaf outer inner) x = Unit {0}
GetsPart P (part_at.ReadingIndex cell byte leaf) x = Unit {0}
GetsPart P (part_at.Finishing finish) x = GetsIn P finish finish.at x

abbrev HoldsNext : (ℕ → ℕ → Type 0) → Target → Option Fence → Type 0
HoldsNext P p None = Unit {0}
HoldsNext P p (Some fence) = HoldsWord P p fence.word fence.at

abbrev HoldsTurn : (ℕ → ℕ → Type 0) → Turn Change Ended → Type 0
HoldsTurn P (Go change) = HoldsPart P change.at
HoldsTurn P (Done ended) = Unit {0}

module _ (P : ℕ → ℕ → Type 0) where
  load_holds : (p : Target) (word : ℕ) → HoldsWord P p word fence_at.Load
  load_holds target.Root word = tt
  load_holds (target.Leaf leaf offset) word = tt
  load_holds (target.Cell cell offset) word = tt

  got_holds : (p : Target) (word x : ℕ) → GetsWord P p word fence_at.Load x → HoldsWord P p word (fence_at.Drain x)
  got_holds target.Root word x gets = gets
  got_holds (target.Leaf leaf offset) word x gets = tt
  got_holds (target.Cell cell offset) word x gets = tt

  fence_holds : (p : Target) (fence : Fence) (place : FenceAt) (x : ℕ) → GetsWord P p fence.word place x → HoldsNext P p (fence_at_next fence place x)
  fence_holds p fence fence_at.Load x gets = got_holds p fence.word x gets
  fence_holds p fence (fence_at.Drain value) x gets = elim (ltb (fence.word + 1) LINE_WORDS) as (λ b. HoldsNext P p (cond b (Some (record { word = fence.word + 1; at = fence_at.Load })) None)) [ true ↦ load_holds p (fence.word + 1) | false ↦ tt ]

  either : (b : Bool) (one two : Turn Change Ended) → HoldsTurn P one → HoldsTurn P two → HoldsTurn P (cond b one two)
  either true one two first second = first
  either false one two first second = second

  -- the end of a change
  unmarks_hold : (change : Change) (f : Finish) → HoldsTurn P (finish_goes change (unmarks f))
  unmarks_hold change f = elim (f.free == 0) as (λ b. HoldsTurn P (finish_goes change (cond b (Done tt) (Go (record f { free = f.next; next = 0; at = finish_at.Unmark f.free }))))) [ true ↦ tt | false ↦ tt ]

  quiet_holds : (change : Change) (f : Finish) (next : Option Fence) → HoldsNext P f.quiet.target next → HoldsTurn P (finish_goes change (quiet_drained f next))
  quiet_holds change f None holds = tt
  quiet_holds change f (Some fence) holds = holds

  switch_holds : (change : Change) (f : Finish) (next : Option Fence) → HoldsNext P f.switch.target next → HoldsTurn P (finish_goes change (switch_drained f next))
  switch_holds change f None holds = unmarks_hold change f
  switch_holds change f (Some fence) holds = holds

  finish_holds : (change : Change) (f : Finish) (place : FinishAt) (x : ℕ) → GetsIn P f place x → HoldsTurn P (finish_goes change (finish_at_turned f place x))
  finish_holds change f finish_at.Quiet x gets = load_holds f.quiet.target 0
  finish_holds change f (finish_at.QuietFence fence) x gets = quiet_holds change f (fence_next fence x) (fence_holds f.quiet.target fence fence.at x gets)
  finish_holds change f finish_at.Switch x gets = load_holds f.switch.target 0
  finish_holds change f (finish_at.SwitchFence fence) x gets = switch_holds change f (fence_next fence x) (fence_holds f.switch.target fence fence.at x gets)
  finish_holds change f (finish_at.Unmark reference) x gets = unmarks_hold change f

  -- the other parts, which come to the first store of the end at most
  no_leaf : (change : Change) (place : Site) → HoldsTurn P (changes.no_leaf change place)
  no_leaf change place = either (change.word == 0) _ _ tt tt

  at_leaf : (change : Change) (outer inner : Spot) (leaf : ℕ) → HoldsTurn P (changes.at_leaf change outer inner leaf)
  at_leaf change outer inner leaf = either (change.word == 0) _ _ (either (inner.cell == 0) _ _ tt tt) tt

  has_looked : (change : Change) (found : Looked) → HoldsTurn P (changes.has_looked change found)
  has_looked change (looked.Key outer inner leaf) = at_leaf change outer inner leaf
  has_looked change (looked.Nothing spot cell depth) = no_leaf change (site.Under spot cell (byte_at depth (key_number change.key)))
  has_looked change (looked.Parts spot reference depth byte) = either (nat_le key_bytes depth || byte == byte_at depth (key_number change.key)) _ _ tt (no_leaf change (site.Beside spot reference depth byte))
  has_looked change looked.Wrong = tt

  look_goes : (change : Change) (turn : Turn Look Looked) → HoldsTurn P (changes.look_goes change turn)
  look_goes change (Go look) = tt
  look_goes change (Done found) = has_looked change found

  leaf_goes : (change : Change) (place : Site) (turn : Turn Take Taken) → HoldsTurn P (changes.leaf_goes change place turn)
  leaf_goes change place (Go take) = tt
  leaf_goes change place (Done (taken.One number)) = tt
  leaf_goes change place (Done taken.Absent) = tt

  leaf_filled : (change : Change) (leaf : ℕ) (place : Site) → HoldsTurn P (changes.leaf_filled change leaf place)
  leaf_filled change leaf (site.Under spot cell byte) = either (kind_of cell == 5) _ _ tt tt
  leaf_filled change leaf (site.Beside spot reference depth byte) = tt

  fill_leaf_goes : (change : Change) (place : Site) (leaf : ℕ) (turn : Turn FillLeaf (Unit {0})) → HoldsTurn P (changes.fill_leaf_goes change place leaf turn)
  fill_leaf_goes change place leaf (Go fill) = tt
  fill_leaf_goes change place leaf (Done answer) = leaf_filled change leaf place

  room_goes : (change : Change) (find : FindRoom) (spot : Spot) (leaf : ℕ) (turn : Turn FindRoom Room) → HoldsTurn P (changes.room_goes change find spot leaf turn)
  room_goes change find spot leaf (Go next) = tt
  room_goes change find spot leaf (Done (room.Entry offset)) = tt
  room_goes change find spot leaf (Done (room.Place place index)) = tt
  room_goes change find spot leaf (Done room.Full) = tt

  read_goes : (change : Change) (read : ReadCell) (spot : Spot) (byte leaf : ℕ) (turn : Turn ReadCell cells.Cell) → HoldsTurn P (changes.read_goes change read spot byte leaf turn)
  read_goes change read spot byte leaf (Go next) = tt
  read_goes change read spot byte leaf (Done cell) = tt

  cell_goes : (change : Change) (new : NewCell) (turn : Turn Take Taken) → HoldsTurn P (changes.cell_goes change new turn)
  cell_goes change new (Go take) = tt
  cell_goes change new (Done (taken.One number)) = tt
  cell_goes change new (Done taken.Absent) = tt

  fill_cell_goes : (change : Change) (spot : Spot) (free cell : ℕ) (turn : Turn FillCell (Unit {0})) → HoldsTurn P (changes.fill_cell_goes change spot free cell turn)
  fill_cell_goes change spot free cell (Go fill) = tt
  fill_cell_goes change spot free cell (Done answer) = tt

  counted : (change : Change) (count : Count) (leaf : ℕ) (outer inner : Spot) (found : Counted) → HoldsTurn P (changes.counted change count leaf outer inner found)
  counted change count leaf outer inner counts_as.Two = either (kind_of count.cell == 4) _ _ tt tt
  counted change count leaf outer inner (counts_as.One reference) = either (nat_le (2 ^ 32) reference) _ _ tt tt
  counted change count leaf outer inner counts_as.Absent = tt

  count_goes : (change : Change) (count : Count) (leaf : ℕ) (outer inner : Spot) (turn : Turn Count Counted) → HoldsTurn P (changes.count_goes change count leaf outer inner turn)
  count_goes change count leaf outer inner (Go next) = tt
  count_goes change count leaf outer inner (Done found) = counted change count leaf outer inner found

  part_turns : (change : Change) (part : ChangeAt) (x : ℕ) → GetsPart P part x → HoldsTurn P (change_at_turned change part x)
  part_turns change (part_at.Looking look) x gets = look_goes change (look_turned look x)
  part_turns change (part_at.TakingLeaf take place) x gets = leaf_goes change place (take_turned take x)
  part_turns change (part_at.FillingLeaf fill place) x gets = fill_leaf_goes change place fill.number (fill_leaf_turned fill x)
  part_turns change (part_at.FindingRoom find spot leaf) x gets = room_goes change find spot leaf (find_room_turned find x)
  part_turns change (part_at.ReadingCell read spot byte leaf) x gets = read_goes change read spot byte leaf (read_turned read x)
  part_turns change (part_at.TakingCell take new) x gets = cell_goes change new (take_turned take x)
  part_turns change (part_at.FillingCell fill spot free) x gets = fill_cell_goes change spot free (changes.filled_reference fill) (fill_cell_turned fill x)
  part_turns change (part_at.ReadingDepth leaf outer inner) x gets = either (nat_le key_bytes x) _ _ tt tt
  part_turns change (part_at.Counting count leaf outer inner) x gets = count_goes change count leaf outer inner (count_turned count x)
  part_turns change (part_at.ReadingIndex cell byte leaf) x gets = tt
  part_turns change (part_at.Finishing finish) x gets = finish_holds change finish finish.at x gets

-- What it is told is the cached word.
word_gets : (l : Layout) (words : List ℕ) → length words ≡ row_words l → (p : Target) (word : ℕ) (place : FenceAt) → word < 8
    → GetsWord (IsRootWord l (acted l words (fence_at_asks (address_of l (Cached (line_image p word))) place))) p word place (rows.got l words (fence_at_asks (address_of l (Cached (line_image p word))) place))
word_gets l words whole target.Root word fence_at.Load small = (small, load_same l words (address_of l (Cached (Root word))) (Cached (Root word)) whole small)
word_gets l words whole target.Root word (fence_at.Drain value) small = tt
word_gets l words whole (target.Leaf leaf offset) word place small = tt
word_gets l words whole (target.Cell cell offset) word place small = tt

finish_gets : (f : Finish) (words : List ℕ) → length words ≡ row_words f.layout → (place : FinishAt) → IsFinishAt f.layout place
    → GetsIn (IsRootWord f.layout (acted f.layout words (finish_at_asks f place))) f place (rows.got f.layout words (finish_at_asks f place))
finish_gets f words whole finish_at.Quiet here = tt
finish_gets f words whole (finish_at.QuietFence fence) here = word_gets f.layout words whole f.quiet.target fence.word fence.at here.word
finish_gets f words whole finish_at.Switch here = tt
finish_gets f words whole (finish_at.SwitchFence fence) here = word_gets f.layout words whole f.switch.target fence.word fence.at here.word
finish_gets f words whole (finish_at.Unmark reference) here = tt

abbrev PartGets : Layout → List ℕ → ChangeAt → Type 0
PartGets l words part = GetsPart (IsRootWord l (acted l words (change_at_asks l part))) part (rows.got l words (change_at_asks l part))

part_gets : (l : Layout) (words : List ℕ) (key : List ℕ) (word : ℕ) → length words ≡ row_words l → (part : ChangeAt) → IsChangeAt l key word part → PartGets l words part
part_gets l words key word whole (part_at.Looking look) here = tt
part_gets l words key word whole (part_at.TakingLeaf take place) here = tt
part_gets l words key word whole (part_at.FillingLeaf fill place) here = tt
part_gets l words key word whole (part_at.FindingRoom find spot leaf) here = tt
part_gets l words key word whole (part_at.ReadingCell read spot byte leaf) here = tt
part_gets l words key word whole (part_at.TakingCell take new) here = tt
part_gets l words key word whole (part_at.FillingCell fill spot free) here = tt
part_gets l words key word whole (part_at.ReadingDepth leaf outer inner) here = tt
part_gets l words key word whole (part_at.Counting count leaf outer inner) here = tt
part_gets l words key word whole (part_at.ReadingIndex cell byte leaf) here = tt
part_gets l words key word whole (part_at.Finishing finish) here =
    subst (λ k. length words ≡ row_words k → GetsIn (IsRootWord k (acted k words (finish_asks finish))) finish finish.at (rows.got k words (finish_asks finish))) here.1
    (λ size. finish_gets finish words size finish.at here.0.here) whole

-- What an action of a change does to the line.
line_stays : (l : Layout) (words : List ℕ) {a : Action} → length words ≡ row_words l → ActsIn l (IsRootWord l words) a → RootLineStays l words (acted l words a)
line_stays l words whole (loads p has of) = record {
  cached = λ o some_offset small. load_same l words (address_of l p) (Cached (Root o)) whole small;
  durable = λ o some_offset small. inl (load_same l words (address_of l p) (Durable (Root o)) whole small);
}
line_stays l words whole (stores w {y} has tree of) = record {
  cached = λ o some_offset small. at-set_other l words (Cached w) (Cached (Root o)) y has small (λ e. let same : Root o ≡ w = cc in let none : o ≡ 0 = subst IsOfTree (sym same) tree in omega arith);
  durable = λ o some_offset small. inl (at-set_other l words (Cached w) (Durable (Root o)) y has small (λ e. cc));
}
line_stays l words whole (marks kind number {y} has) = record {
  cached = λ o some_offset small. at-set_other l words (Mark kind number) (Cached (Root o)) y has small (λ e. cc);
  durable = λ o some_offset small. inl (at-set_other l words (Mark kind number) (Durable (Root o)) y has small (λ e. cc));
}
line_stays l words whole (drains w {y} has body of) =
    subst (λ k. RootLineStays l words (slice_set words k y)) (sym (action_address-drain l w y)) (record {
      cached = λ o some_offset small. at-set_other l words (Durable w) (Cached (Root o)) y has small (λ e. cc);
      durable = λ o some_offset small. inl (at-set_other l words (Durable w) (Durable (Root o)) y has small (λ e. let same : Root o ≡ w = cc in subst IsBody (sym same) body));
    })
line_stays l words whole (drains_root o {y} lt holds) =
    subst (λ k. RootLineStays l words (slice_set words k y)) (sym (action_address-drain l (Root o) y)) (record {
      cached = λ k some_offset small. at-set_other l words (Durable (Root o)) (Cached (Root k)) y lt small (λ e. cc);
      durable = λ k some_offset small. elim (cases_eq k o) [
        | inl same ↦ inr (ap (λ i. at l (slice_set words (address_of l (Durable (Root o))) y) (Durable (Root i))) same ∙ at-set_same l words (Durable (Root o)) y whole lt ∙ sym holds.1 ∙ ap (λ i. at l words (Cached (Root i))) (sym same))
        | inr apart ↦ inl (at-set_other l words (Durable (Root o)) (Durable (Root k)) y lt small (λ e. let same : k ≡ o = cc in apart same))
      ];
    })

turn_holds : (l : Layout) (words : List ℕ) (turn : Turn Change Ended) → HoldsTurn (IsRootWord l words) turn → HoldsRoot l (stage_after turn) words
turn_holds l words (Go change) holds = holds
turn_holds l words (Done ended) holds = tt

abbrev RootKeeps : Layout → List ℕ → Action → Changing → Type 0
RootKeeps l words a t = HoldsRoot l t (acted l words a) × RootLineStays l words (acted l words a)

turn_keeps : (l : Layout) (aim : Aim) (words : List ℕ) → length words ≡ row_words l → (part : ChangeAt) → IsChange (change_with l aim part) → HoldsRoot l (Making part) words
    → RootKeeps l words (change_asks (change_with l aim part)) (stage_after (change_turned (change_with l aim part) (rows.got l words (change_asks (change_with l aim part)))))
turn_keeps l aim words whole part sound holds =
    let change = change_with l aim part in
    let a = change_asks change in
    let x = rows.got l words a in
    let after = acted l words a in (
      turn_holds l after (change_turned change x) (part_turns (IsRootWord l after) change part x (part_gets l words aim.key aim.word whole part sound.here)),
      line_stays l words whole (part_in (IsRootWord l words) l aim.key aim.word part sound.here holds),
    )

pub root_begins : RootBegins
root_begins l aim words = tt

pub root_step_keeps : RootStepKeeps
root_step_keeps l aim words s a t whole step holds =
    let change = change_with l aim step.part in
    let next : t ≡ stage_after (change_turned change (rows.got l words (change_asks change))) = step.next ∙ ap (λ b. stage_after (change_turned change (rows.got l words b))) step.asks in
    let on = turn_keeps l aim words whole step.part step.sound (subst (λ stage. HoldsRoot l stage words) step.here holds) in
    subst (λ b. RootKeeps l words b t) (sym step.asks) (subst (RootKeeps l words (change_asks change)) (sym next) on)

-- Where the cached words of the line stay.
abbrev CachedStay : Layout → List ℕ → List ℕ → Type 0
CachedStay l words after = (o : ℕ) → o < 8 → at l after (Cached (Root o)) ≡ at l words (Cached (Root o))

word_stays : (l : Layout) (words after : List ℕ) → CachedStay l words after → (p : Target) (word : ℕ) (place : FenceAt) → HoldsWord (IsRootWord l words) p word place → HoldsWord (IsRootWord l after) p word place
word_stays l words after same target.Root word fence_at.Load holds = tt
word_stays l words after same target.Root word (fence_at.Drain value) holds = (holds.0, same word holds.0 ∙ holds.1)
word_stays l words after same (target.Leaf leaf offset) word place holds = tt
word_stays l words after same (target.Cell cell offset) word place holds = tt

finish_stays : (l : Layout) (words after : List ℕ) → CachedStay l words after → (f : Finish) (place : FinishAt) → HoldsIn (IsRootWord l words) f place → HoldsIn (IsRootWord l after) f place
finish_stays l words after same f finish_at.Quiet holds = tt
finish_stays l words after same f (finish_at.QuietFence fence) holds = word_stays l words after same f.quiet.target fence.word fence.at holds
finish_stays l words after same f finish_at.Switch holds = tt
finish_stays l words after same f (finish_at.SwitchFence fence) holds = word_stays l words after same f.switch.target fence.word fence.at holds
finish_stays l words after same f (finish_at.Unmark reference) holds = tt

stage_stays : (l : Layout) (words after : List ℕ) → CachedStay l words after → (s : Changing) → HoldsRoot l s words → HoldsRoot l s after
stage_stays l words after same (Making (part_at.Looking look)) holds = tt
stage_stays l words after same (Making (part_at.TakingLeaf take place)) holds = tt
stage_stays l words after same (Making (part_at.FillingLeaf fill place)) holds = tt
stage_stays l words after same (Making (part_at.FindingRoom find spot leaf)) holds = tt
stage_stays l words after same (Making (part_at.ReadingCell read spot byte leaf)) holds = tt
stage_stays l words after same (Making (part_at.TakingCell take new)) holds = tt
stage_stays l words after same (Making (part_at.FillingCell fill spot free)) holds = tt
stage_stays l words after same (Making (part_at.ReadingDepth leaf outer inner)) holds = tt
stage_stays l words after same (Making (part_at.Counting count leaf outer inner)) holds = tt
stage_stays l words after same (Making (part_at.ReadingIndex cell byte leaf)) holds = tt
stage_stays l words after same (Making (part_at.Finishing finish)) holds = finish_stays l words after same finish finish.at holds
stage_stays l words after same Changed holds = tt

-- no party beside the updater stores there
outside : (o : ℕ) (p : Location) → is_of_layer p ≡ false → Cached (Root o) ≡ p → ⊥
outside o p e same = false≢true (sym e ∙ ap is_of_layer (sym same))

cached_stays : (l : Layout) (words : List ℕ) {a : Action} → length words ≡ row_words l → ActsBeside l a → CachedStay l words (acted l words a)
cached_stays l words whole (beside.loads {address}) o small = load_same l words address (Cached (Root o)) whole small
cached_stays l words whole (beside.stores p {y} has e) o small = at-set_other l words p (Cached (Root o)) y has small (outside o p e)
cached_stays l words whole (beside.exchanges p {old} {new} has e) o small = at-set_other l words p (Cached (Root o)) (cond (slice_index words (address_of l p) == old) new (slice_index words (address_of l p))) has small (outside o p e)
cached_stays l words whole (beside.adds p has e) o small = at-set_other l words p (Cached (Root o)) (slice_index words (address_of l p) + 1) has small (outside o p e)
cached_stays l words whole (beside.drains w {y} has e) o small =
    subst (λ k. at l (slice_set words k y) (Cached (Root o)) ≡ at l words (Cached (Root o))) (sym (action_address-drain l w y)) (at-set_other l words (Durable w) (Cached (Root o)) y has small (λ e'. cc))

pub root_outlasts : RootOutlasts
root_outlasts l words after s same holds = stage_stays l words after (root_word l words after same.root) s holds

pub root_others_keep : RootOthersKeep
root_others_keep l words s a whole acts holds = stage_stays l words (acted l words a) (cached_stays l words whole acts) s holds

pub root_evictions_keep : RootEvictionsKeep
root_evictions_keep l words s word inside holds = stage_stays l words (evicted l words word) same s holds
  where
    same : CachedStay l words (evicted l words word)
    same o small =
        let within = words_within l (Root o) small in
        get_or-set_other words (durable_address l word) (address_of l (Cached (Root o))) (slice_index words (cached_address l word)) 0 (λ e. omega arith)
