-- A turn of the updater, step by step.
use Rattle.std.specs.Prelude.{◌≡◌, ◌≢◌, ℕ, ◌+◌, ◌-◌, ◌*◌, ◌^◌, ◌<◌, ◌≤◌, ◌==◌, ◌&&◌, not, nat_lt, nat_le, Bool, true}
use Rattle.std.specs.Prelude.{if◌then◌else◌, [], ◌∷◌, length, slice_index}
use Rattle.pm_words.specs.Codes.{free_status, gone_status, ready_state, merge_kind, untaken_lock}
use Rattle.pm_words.specs.declared.layout.Layout.{Layout}
use Rattle.pm_words.specs.declared.action.Action.{Action}
use Rattle.pm_words.specs.declared.action.Action.TheVariants.{Load, Store}
use Rattle.pm_words.specs.declared.machine.Turn.{Turn}
use Rattle.pm_words.specs.declared.machine.Turn.TheVariants.{Go, Done}
use Rattle.pm_words.specs.Layouts.{IsLayout}
use Rattle.pm_words.specs.Offsets.{anchor_offset, line_node_offset}
use Rattle.version_lock.specs.Versions.{is_worn_word}
use Rattle.call_stages.specs.Kinds.{version_address, status_address, Told}
use Rattle.data_list.specs.declared.target.Target.{Target}
use Rattle.data_list.specs.declared.target.Walked.{Walked}
use Rattle.data_list.specs.declared.target.Walked.TheVariants as walked
use Rattle.data_list.specs.declared.walk.Walk.{Walk}
use Rattle.data_list.specs.Walks.{IsWalk, walk_from, walk_asks, walk_turned, walk_left}
use Rattle.pm_alloc.specs.declared.gone.Release.{Release}
use Rattle.pm_alloc.specs.Gone.{IsRelease, stamp_address, no_stamp, release_from, release_asks, release_turned}
use Rattle.pm_alloc.specs.Gone.{release_left}
use Rattle.tree_floor.specs.declared.floor.Floor.{Floor}
use Rattle.updater_row_law.specs.tree_update.specs.declared.set.Set.{Set}
use Rattle.updater_row_law.specs.tree_update.specs.declared.set.Unset.{Unset}
use Rattle.updater_row_law.specs.tree_update.specs.declared.change.Ended.{Ended}
use Rattle.layer_map.specs.Keys.{IsKey, key_number}
use Rattle.tree_floor.specs.Floors.{IsFloor, floor_starts, floor_asks, floor_turned, floor_left}
use Rattle.updater_row_law.specs.tree_update.specs.Sets.{IsSet, set_starts, set_asks, set_turned, set_left, IsUnset}
use Rattle.updater_row_law.specs.tree_update.specs.Sets.{unset_starts}
use Rattle.updater_row_law.specs.tree_update.specs.Sets.{unset_asks, unset_turned, unset_left}
use Rattle.smo_log.specs.declared.line.Entry.{Entry}
use Rattle.smo_log.specs.declared.read.LineSeen.{LineSeen}
use Rattle.smo_log.specs.declared.read.ReadLine.{ReadLine}
use Rattle.smo_log.specs.LogLines.{numbered_address}
use Rattle.smo_log.specs.Reads.{IsRead, read_from, read_asks, read_turned, read_left}
use Rattle.smo_log.specs.States.{IsClear, clear_from, clear_asks}
use Rattle.updater_row_law.specs.Columns.{line_count}
use Rattle.updater_row_law.specs.RowStages.{are_same}
use Rattle.updater.specs.declared.terms.Terms.{Terms}
use Rattle.updater.specs.declared.terms.Tally.{Tally}
use Rattle.updater.specs.declared.terms.Turned.{Turned}
use Rattle.updater.specs.declared.terms.Found.{Found}
use Rattle.updater.specs.declared.work.Work.{Work}
use Rattle.updater.specs.declared.work.WorkAt.{WorkAt}
use Rattle.updater.specs.declared.work.WorkAt.TheVariants as at
use Rattle.updater.specs.Takings.{updater_address}

abbrev pub work_from : Layout → ℕ → ℕ → ℕ → Work
work_from layout generation stamp release = record {
  terms = record { layout = layout; generation = generation; stamp = stamp; release = release };
  tally = record { applied = 0; left = 0; freed = 0 };
  at = at.State 0;
}

abbrev pub work_at_asks : Terms → WorkAt → Action
work_at_asks terms (at.State line) = read_asks (read_from terms.layout line)
work_at_asks terms (at.Reading read) = read_asks read
work_at_asks terms (at.Landing line entry floor) = floor_asks floor
work_at_asks terms (at.Walking line entry walk) = walk_asks walk
work_at_asks terms (at.Seeing line entry found) = Load (version_address terms.layout found.node)
work_at_asks terms (at.Setting line entry set) = set_asks set
work_at_asks terms (at.Unsetting line entry unset) = unset_asks unset
work_at_asks terms (at.Stamping line entry) = Store (stamp_address terms.layout entry.node) terms.stamp
work_at_asks terms (at.Clearing clear) = clear_asks clear
work_at_asks terms (at.Status node) = Load (status_address terms.layout node)
work_at_asks terms (at.Stamp node) = Load (stamp_address terms.layout node)
work_at_asks terms (at.Version node) = Load (version_address terms.layout node)
work_at_asks terms (at.Releasing release) = release_asks release
work_at_asks terms (at.Counting node none) = Load (status_address terms.layout node)
work_at_asks terms (at.Leaving none) = Store (updater_address terms.layout) untaken_lock

abbrev pub work_asks : Work → Action
work_asks work = work_at_asks work.terms work.at

-- the next line, or the first node
abbrev pub after_line : Terms → ℕ → WorkAt
after_line terms line = if nat_lt (line + 1) (line_count terms.layout) then at.State (line + 1) else at.Status 0

-- it reads a READY line, whose state is loaded already
abbrev pub reads_fields : Layout → ℕ → ℕ → ReadLine
reads_fields l line state = record { layout = l; line = line; offset = 1; words = state ∷ 0 ∷ 0 ∷ 0 ∷ 0 ∷ 0 ∷ 0 ∷ [] }

abbrev pub saw_state : Terms → ℕ → ℕ → WorkAt
saw_state terms line state =
    if state == ready_state then at.Reading (reads_fields terms.layout line state) else after_line terms line

abbrev pub lands : Terms → ℕ → Entry → WorkAt
lands terms line entry = at.Landing line entry (floor_starts terms.layout entry.anchor)

abbrev pub walks : Terms → ℕ → Entry → ℕ → WorkAt
walks terms line entry hint =
    at.Walking line entry (walk_from terms.layout terms.generation hint entry.anchor)

-- it leads the anchor to the node that has it, and to none where the node in whose range it lies has another
abbrev pub changes : Terms → ℕ → Entry → Found → WorkAt
changes terms line entry found =
    if are_same found.low entry.anchor
    then at.Setting line entry (set_starts terms.layout entry.anchor found.node)
    else at.Unsetting line entry (unset_starts terms.layout entry.anchor)

abbrev pub clears : Terms → ℕ → WorkAt
clears terms line = at.Clearing (clear_from terms.layout line)

abbrev pub changed : Terms → ℕ → Entry → WorkAt
changed terms line entry = if entry.kind == merge_kind then at.Stamping line entry else clears terms line

-- the next node, or the first once more
abbrev pub after_node : Terms → ℕ → WorkAt
after_node terms node = if nat_lt (node + 1) terms.layout.nodes then at.Status (node + 1) else at.Counting 0 true

abbrev pub saw_status : Terms → ℕ → ℕ → WorkAt
saw_status terms node status = if status == gone_status then at.Stamp node else after_node terms node

-- the release allows this stamp
abbrev pub allows : Terms → ℕ → Bool
allows terms stamp = not (stamp == no_stamp) && nat_le stamp terms.release

abbrev pub saw_stamp : Terms → ℕ → ℕ → WorkAt
saw_stamp terms node stamp = if allows terms stamp then at.Version node else after_node terms node

abbrev pub saw_version : Terms → ℕ → ℕ → WorkAt
saw_version terms node version =
    if is_worn_word version terms.generation then after_node terms node
    else at.Releasing (release_from terms.layout node)

abbrev pub after_count : Terms → ℕ → Bool → WorkAt
after_count terms node none =
    if nat_lt (node + 1) terms.layout.nodes then at.Counting (node + 1) none else at.Leaving none

-- it goes on there
abbrev pub on : Work → WorkAt → Work
on work at = record work { at = at }

-- it leaves this line as it is
abbrev pub leaves : Work → ℕ → Work
leaves work line = record work {
  tally = record work.tally { left = work.tally.left + 1 };
  at = after_line work.terms line;
}

-- it has emptied the line, and freed the node
abbrev pub emptied : Work → ℕ → Work
emptied work line = record work {
  tally = record work.tally { applied = work.tally.applied + 1 };
  at = after_line work.terms line;
}

abbrev pub freed : Work → ℕ → Work
freed work node = record work {
  tally = record work.tally { freed = work.tally.freed + 1 };
  at = after_node work.terms node;
}

-- the node in whose range the anchor lies, as the walk saw it
abbrev pub found_at : Target → Found
found_at target = record { node = target.node; version = target.version; low = target.low }

abbrev pub walk_ended : Work → ℕ → Entry → Walked → Work
walk_ended work line entry (walked.Target target) = on work (at.Seeing line entry (found_at target))
walk_ended work line entry (walked.Again why) = leaves work line

abbrev pub saw_again : Work → ℕ → Entry → Found → ℕ → Work
saw_again work line entry found version =
    if version == found.version then on work (changes work.terms line entry found) else leaves work line

abbrev pub has_read : Work → ℕ → Turn ReadLine LineSeen → Work
has_read work line (Go read) = on work (at.Reading read)
has_read work line (Done seen) = on work (lands work.terms line seen.entry)

abbrev pub has_landed : Work → ℕ → Entry → Turn Floor ℕ → Work
has_landed work line entry (Go floor) = on work (at.Landing line entry floor)
has_landed work line entry (Done hint) = on work (walks work.terms line entry hint)

abbrev pub has_walked : Work → ℕ → Entry → Turn Walk Walked → Work
has_walked work line entry (Go walk) = on work (at.Walking line entry walk)
has_walked work line entry (Done answer) = walk_ended work line entry answer

abbrev pub has_set : Work → ℕ → Entry → Turn Set Ended → Work
has_set work line entry (Go set) = on work (at.Setting line entry set)
has_set work line entry (Done answer) = on work (changed work.terms line entry)

abbrev pub has_unset : Work → ℕ → Entry → Turn Unset Ended → Work
has_unset work line entry (Go unset) = on work (at.Unsetting line entry unset)
has_unset work line entry (Done answer) = on work (changed work.terms line entry)

abbrev pub has_released : Work → ℕ → Turn Release (Unit {0}) → Work
has_released work node (Go release) = on work (at.Releasing release)
has_released work node (Done answer) = freed work node

-- what it answers
abbrev pub turned_of : Tally → Bool → Turned
turned_of tally none = record {
  applied = tally.applied;
  left = tally.left;
  freed = tally.freed;
  none_free = none;
}

abbrev pub work_at_turned : Work → WorkAt → ℕ → Turn Work Turned
work_at_turned work (at.State line) got = Go (on work (saw_state work.terms line got))
work_at_turned work (at.Reading read) got = Go (has_read work read.line (read_turned read got))
work_at_turned work (at.Landing line entry floor) got = Go (has_landed work line entry (floor_turned floor got))
work_at_turned work (at.Walking line entry walk) got = Go (has_walked work line entry (walk_turned walk got))
work_at_turned work (at.Seeing line entry found) got = Go (saw_again work line entry found got)
work_at_turned work (at.Setting line entry set) got = Go (has_set work line entry (set_turned set got))
work_at_turned work (at.Unsetting line entry unset) got = Go (has_unset work line entry (unset_turned unset got))
work_at_turned work (at.Stamping line entry) got = Go (on work (clears work.terms line))
work_at_turned work (at.Clearing clear) got = Go (emptied work clear.line)
work_at_turned work (at.Status node) got = Go (on work (saw_status work.terms node got))
work_at_turned work (at.Stamp node) got = Go (on work (saw_stamp work.terms node got))
work_at_turned work (at.Version node) got = Go (on work (saw_version work.terms node got))
work_at_turned work (at.Releasing release) got = Go (has_released work release.node (release_turned release got))
work_at_turned work (at.Counting node none) got =
    Go (on work (after_count work.terms node (none && not (got == free_status))))
work_at_turned work (at.Leaving none) got = Done (turned_of work.tally none)

abbrev pub work_turned : Work → ℕ → Turn Work Turned
work_turned work got = work_at_turned work work.at got

-- what stays the same
pub record IsTerms (terms : Terms) : Type 0 where
  pub layout : IsLayout terms.layout
  pub stamp : 1 ≤ terms.stamp

-- a line says a node of the layout, and an anchor that isn't zero
pub record IsEntry (l : Layout) (entry : Entry) : Type 0 where
  pub node : entry.node < l.nodes
  pub key : IsKey entry.anchor
  pub named : key_number entry.anchor ≢ 0

-- it is at this line, and has counted those before it at most
pub record IsOnLine (terms : Terms) (tally : Tally) (line : ℕ) : Type 0 where
  pub within : line < line_count terms.layout
  pub counted : tally.applied + tally.left ≤ line
  pub unfreed : tally.freed ≡ 0

-- it has been at all lines, and is at this node
pub record IsOnNode (terms : Terms) (tally : Tally) (node : ℕ) : Type 0 where
  pub within : node < terms.layout.nodes
  pub counted : tally.applied + tally.left ≤ line_count terms.layout
  pub freed : tally.freed ≤ node

-- it has been at all lines and nodes
pub record IsThrough (terms : Terms) (tally : Tally) : Type 0 where
  pub counted : tally.applied + tally.left ≤ line_count terms.layout
  pub freed : tally.freed ≤ terms.layout.nodes

-- what it has loaded of a line so far: its node is one of the layout's, and the first word of its anchor isn't 0
pub record IsReading (l : Layout) (read : ReadLine) : Type 0 where
  pub sound : IsRead read
  pub layout : read.layout ≡ l
  pub some : 1 ≤ read.offset
  pub size : length read.words ≡ 7
  pub fits : (k : ℕ) → slice_index read.words k < 2 ^ 64
  pub node : line_node_offset < read.offset → slice_index read.words line_node_offset < l.nodes
  pub named : anchor_offset < read.offset → slice_index read.words anchor_offset ≢ 0

-- it is a walk to the anchor
pub record IsWalkTo (terms : Terms) (entry : Entry) (walk : Walk) : Type 0 where
  pub sound : IsWalk walk
  pub layout : walk.layout ≡ terms.layout
  pub generation : walk.generation ≡ terms.generation
  pub key : walk.key ≡ entry.anchor

abbrev pub IsWorkAt : Terms → Tally → WorkAt → Type 0
IsWorkAt terms tally (at.State line) = IsOnLine terms tally line
IsWorkAt terms tally (at.Reading read) = IsOnLine terms tally read.line × IsReading terms.layout read
IsWorkAt terms tally (at.Landing line entry floor) =
    IsOnLine terms tally line × IsEntry terms.layout entry × IsFloor floor × (floor.layout ≡ terms.layout)
IsWorkAt terms tally (at.Walking line entry walk) =
    IsOnLine terms tally line × IsEntry terms.layout entry × IsWalkTo terms entry walk
IsWorkAt terms tally (at.Seeing line entry found) =
    IsOnLine terms tally line × IsEntry terms.layout entry × (found.node < terms.layout.nodes)
IsWorkAt terms tally (at.Setting line entry set) =
    IsOnLine terms tally line × IsEntry terms.layout entry × IsSet set × (set.change.layout ≡ terms.layout) ×
    (set.change.key ≡ entry.anchor)
IsWorkAt terms tally (at.Unsetting line entry unset) =
    IsOnLine terms tally line × IsEntry terms.layout entry × IsUnset unset × (unset.change.layout ≡ terms.layout) ×
    (unset.change.key ≡ entry.anchor)
IsWorkAt terms tally (at.Stamping line entry) = IsOnLine terms tally line × IsEntry terms.layout entry
IsWorkAt terms tally (at.Clearing clear) =
    IsOnLine terms tally clear.line × IsClear clear × (clear.layout ≡ terms.layout)
IsWorkAt terms tally (at.Status node) = IsOnNode terms tally node
IsWorkAt terms tally (at.Stamp node) = IsOnNode terms tally node
IsWorkAt terms tally (at.Version node) = IsOnNode terms tally node
IsWorkAt terms tally (at.Releasing release) =
    IsOnNode terms tally release.node × IsRelease release × (release.layout ≡ terms.layout)
IsWorkAt terms tally (at.Counting node none) = (node < terms.layout.nodes) × IsThrough terms tally
IsWorkAt terms tally (at.Leaving none) = IsThrough terms tally

-- what its fields keep
pub record IsWork (work : Work) : Type 0 where
  pub terms : IsTerms work.terms
  pub here : IsWorkAt work.terms work.tally work.at

-- What a line says that isn't EMPTY: a node of the layout, and a name, whose first word isn't 0, as its anchor.
pub record ToldOfLine (l : Layout) (action : Action) (x : ℕ) : Type 0 where
  pub node : (line : ℕ) → line < line_count l → action ≡ Load (numbered_address l line line_node_offset) → x < l.nodes
  pub named : (line : ℕ) → line < line_count l → action ≡ Load (numbered_address l line anchor_offset) → x ≢ 0

abbrev pub work_takes : Work → ℕ → Type 0
work_takes work got =
    IsWork work × Told work.terms.layout work.terms.generation (work_asks work) got ×
    ToldOfLine work.terms.layout (work_asks work) got

-- a bound on the actions after this line, and after this node
abbrev pub lines_left : Layout → ℕ → ℕ
lines_left l line = 120000 * (line_count l - (line + 1)) + 6 * l.nodes + 2

abbrev pub nodes_left : Layout → ℕ → ℕ
nodes_left l node = 5 * (l.nodes - (node + 1)) + l.nodes + 2

abbrev pub work_at_left : Layout → WorkAt → ℕ
work_at_left l (at.State line) = lines_left l line + 119990
work_at_left l (at.Reading read) = lines_left l read.line + 119900 + read_left read
work_at_left l (at.Landing line entry floor) = lines_left l line + 100000 + floor_left floor
work_at_left l (at.Walking line entry walk) = lines_left l line + 17000 + walk_left walk
work_at_left l (at.Seeing line entry found) = lines_left l line + 16999
work_at_left l (at.Setting line entry set) = lines_left l line + 10 + set_left set
work_at_left l (at.Unsetting line entry unset) = lines_left l line + 10 + unset_left unset
work_at_left l (at.Stamping line entry) = lines_left l line + 3
work_at_left l (at.Clearing clear) = lines_left l clear.line + 2
work_at_left l (at.Status node) = nodes_left l node + 5
work_at_left l (at.Stamp node) = nodes_left l node + 4
work_at_left l (at.Version node) = nodes_left l node + 3
work_at_left l (at.Releasing release) = nodes_left l release.node + release_left release
work_at_left l (at.Counting node none) = (l.nodes - node) + 1
work_at_left l (at.Leaving none) = 1

-- it asks for no more actions than this
abbrev pub work_left : Work → ℕ
work_left work = work_at_left work.terms.layout work.at
