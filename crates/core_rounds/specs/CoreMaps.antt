-- The index, called by one caller with no other call in flight, as a map of names.
use Rattle.std.specs.Prelude.{◌≡◌, ℕ, ◌+◌, ◌-◌, ◌*◌, ◌/◌, ◌%◌, ◌^◌, ◌<◌, ◌≤◌, ◌==◌, ◌⊎◌, min, length}
use Rattle.std.specs.Prelude.{List, All}
use Rattle.std.specs.FinMap.{len}
use Rattle.cat_history.specs.Records.{as_op}
use Rattle.cat_history.specs.declared.plan.RoundPlan.{RoundPlan}
use Rattle.cat_text.specs.ReportGrammar.{IsReportRound}
use Rattle.cat_text.specs.declared.report.RoundReport.{RoundReport}
use Rattle.pm_words.specs.Codes.{empty_state, ready_state}
use Rattle.pm_words.specs.Images.{Row}
use Rattle.pm_words.specs.Locations.{Line, word_at}
use Rattle.pm_words.specs.Rows.{cached_row}
use Rattle.pm_words.specs.declared.layout.Layout.{Layout}
use Rattle.pm_words.specs.Offsets.{state_offset}
use Rattle.shapes.specs.Anchors.{Anchors, put_anchors, del_anchors, merges, splits}
use Rattle.shapes.specs.ShapeRounds.{IsShapeWithin}
use Rattle.image_rules.specs.Rules.{header_generation}
use Rattle.image_rules.specs.Sound.{IsMapOf, image_map}
use Rattle.image_rules.specs.Weights.{image_weight}
use Rattle.recovery.specs.image_layer_rules.specs.Sound.{IsSoundByAll}
use Rattle.index_law.specs.Anchors.{anchors_in, image_anchors}
use Rattle.recovery.specs.lone_updater_law.specs.CallLogs.{empty_lines, ready_lines}
use Rattle.recovery.specs.lone_updater_law.specs.LoneTurns.{line_state}
use Rattle.recovery.specs.updater.specs.Events.{how_many}
use Rattle.recovery.specs.index_core.specs.declared.party.CoreCall.{CoreCall}
use Rattle.recovery.specs.index_core.specs.declared.party.CoreCall.TheVariants as call
use Rattle.recovery.specs.index_core.specs.CoreCalls.{op_of}
use Rattle.recovery.specs.index_core.specs.Indexes.{Index, IsIndex, map_of_index, world}
use Rattle.recovery.specs.index_core.specs.Lone.{IsQuiet, locks_left, taken_nodes}
use Rattle.recovery.specs.index_core.specs.Fulls.{HasLowStamps}
use Rattle.recovery.specs.index_core.specs.Weights.{weight_of}
use Rattle.recovery.specs.Opened.{IsOpenedFrom}
use Rattle.core_rounds.specs.LoneCalls.{calls_in}
use Rattle.core_rounds.specs.Rounds.{RoundsEndWithTurn, added_in}
use Rattle.core_rounds.specs.Updated.{ArePlayedFrom, UpdatedState, WaitBehind, changes_of_rounds}
use Rattle.core_rounds.specs.Waiting.{HaveNoTurns, one_if, one_put, puts_asked, writes_asked}

-- How many more calls it can have: each takes four locks of each node at most.
abbrev pub calls_left_of : Index → ℕ
calls_left_of s = locks_left s / 4

-- How many more of them can be puts and deletes: each places one write at most, and finds the clock below 2^62.
abbrev pub writes_left_of : Index → ℕ
writes_left_of s = min s.spare (2 ^ 62 - length s.history)

-- What callers of it as a map know of it.
abbrev pub state_of : Index → UpdatedState
state_of s = record {
  contents = map_of_index s;
  anchors = anchors_in (world s);
  slots = s.layout.slots;
  most = s.layout.nodes;
  callers = s.layout.callers;
  calls_left = calls_left_of s;
  writes_left = writes_left_of s;
  weighs = weight_of s;
}

-- The call is one on a name, and is refused at no clock below 2^62.
abbrev pub IsUnlimited : CoreCall → Type 0
IsUnlimited (call.Put name value limit) = limit ≡ 2 ^ 62
IsUnlimited (call.Get name) = Unit {0}
IsUnlimited (call.Del name limit) = limit ≡ 2 ^ 62
IsUnlimited (call.Part low count) = ⊥
IsUnlimited (call.Recheck node version) = ⊥
IsUnlimited (call.Turn stamp release) = ⊥

-- The anchors that a call leaves which takes place.
abbrev pub anchors_made : Index → CoreCall → Anchors
anchors_made s (call.Put name value limit) = put_anchors s.layout.slots (map_of_index s) (anchors_in (world s)) name
anchors_made s (call.Get name) = anchors_in (world s)
anchors_made s (call.Del name limit) = del_anchors s.layout.slots (map_of_index s) (anchors_in (world s)) name
anchors_made s (call.Part low count) = anchors_in (world s)
anchors_made s (call.Recheck node version) = anchors_in (world s)
anchors_made s (call.Turn stamp release) = anchors_in (world s)

-- How many puts a call is, and how many changes of the shape one makes that takes place: one where a put splits, or a
-- delete merges.
abbrev pub puts_for : CoreCall → ℕ
puts_for c = one_put (as_op (op_of c))

abbrev pub changes_for : Index → CoreCall → ℕ
changes_for s (call.Put name value limit) =
    one_if (splits s.layout.slots (map_of_index s) (anchors_in (world s)) name)
changes_for s (call.Get name) = 0
changes_for s (call.Del name limit) =
    one_if (merges s.layout.slots (map_of_index s) (anchors_in (world s)) name)
changes_for s (call.Part low count) = 0
changes_for s (call.Recheck node version) = 0
changes_for s (call.Turn stamp release) = 0

-- So many log lines are READY, each of which waits for the updater. So many more puts and deletes of each caller, of
-- which so many are puts, have an EMPTY line and a FREE node each.
pub record Waits (s : Index) (changes writes puts : ℕ) : Type 0 where
  pub ready : ready_lines (world s) ≡ changes
  pub lines : (caller : ℕ) → caller < s.layout.callers → writes ≤ empty_lines caller (world s)
  pub nodes : taken_nodes s + puts < s.layout.nodes

-- Between two calls none is in flight, no node has a stamp that turns don't release, and the names are counted.
pub record IsCoreMap (s : Index) (names : ℕ) : Type 0 where
  pub index : IsIndex s
  pub quiet : IsQuiet s
  pub stamps : HasLowStamps s
  pub counted : names ≡ len (map_of_index s)

-- What is done with no call in flight leaves none in flight, and no stamp that turns don't release where there was
-- none; it is the same run, and so many calls at most are used up, and so many writes.
pub record StaysQuiet (s new : Index) (calls writes : ℕ) : Type 0 where
  pub index : IsIndex new
  pub quiet : IsQuiet new
  pub stamps : HasLowStamps s → HasLowStamps new
  pub layout : new.layout ≡ s.layout
  pub generation : new.generation ≡ s.generation
  pub calls_left : calls_left_of s ≤ calls_left_of new + calls
  pub writes_left : writes_left_of s ≤ writes_left_of new + writes

-- It is the index of a run of this layout and this generation. No call changes either.
pub record IsOfRun (l : Layout) (number : ℕ) (s : Index) : Type 0 where
  pub layout : s.layout ≡ l
  pub generation : s.generation ≡ number

-- Each of its log lines is EMPTY, and so none waits for a turn.
abbrev pub HasNoLines : Index → Type 0
HasNoLines s = (j : ℕ) → line_state (world s) j ≡ empty_state

-- What joined rounds of one caller each leave that were played on this core and reported so. An opened core has 100000
-- calls left of each node, of which these rounds take as many as they have. Where the last of them ends with a turn, no
-- line waits.
pub record LeaveCore (s : Index) (plans : List RoundPlan) (reports : List RoundReport) (new : Index) : Type 0 where
  pub told : All IsReportRound reports
  pub weighs : weight_of new ≤ weight_of s + added_in reports
  pub names : len (map_of_index new) ≤ len (map_of_index s) + added_in reports
  pub layout : new.layout ≡ s.layout
  pub generation : new.generation ≡ s.generation
  pub index : IsIndex new
  pub quiet : IsQuiet new
  pub stamps : HasLowStamps new
  pub calls_left : (calls : ℕ) → calls + calls_in plans ≤ 100000 → calls * s.layout.nodes ≤ calls_left_of new
  pub settled : RoundsEndWithTurn plans → HasNoLines new

-- They were played on a core that an image was just opened as. Without turns the changes of the shape wait that they
-- make.
pub record ArePlayedLone (s : Index) (plans : List RoundPlan) (reports : List RoundReport) (new : Index) : Type 0
  where
    pub played : ArePlayedFrom (state_of s) plans reports (state_of new)
    pub leaves : LeaveCore s plans reports new
    pub waits : HaveNoTurns plans → WaitBehind (Waits s) (Waits new) (changes_of_rounds (state_of s) reports)
        (writes_asked plans) (puts_asked plans)

-- What is known of an index that an image was opened as, before anything is done with it: the names, the shape and the
-- weight of the image. Its base has each name once. No line waits, and the first caller's eight are EMPTY; all nodes
-- but those of the list are FREE.
pub record IsOpenedMap (image : Row) (s : Index) : Type 0 where
  pub contents : map_of_index s ≡ image_map image.layout image.words
  pub anchors : anchors_in (world s) ≡ image_anchors image.layout image.words
  pub weighs : weight_of s ≡ image_weight image.layout image.words
  pub keeps : IsMapOf image.layout image.words (image_map image.layout image.words)
  pub counted : length s.base ≡ len (map_of_index s)
  pub within : IsShapeWithin s.layout.slots s.layout.nodes (weight_of s) (len (map_of_index s)) (map_of_index s)
      (anchors_in (world s))
  pub lines : HasNoLines s
  pub waits : (lines puts : ℕ) → lines ≤ 8 →
      length (image_anchors image.layout image.words) + puts < image.layout.nodes → Waits s 0 lines puts

abbrev pub OpenedIsMap : Type 0
OpenedIsMap = (image : Row) (s : Index) → IsOpenedFrom image s → IsOpenedMap image s

-- Each log line of the image is EMPTY.
abbrev pub ImageHasNoLines : Row → Type 0
ImageHasNoLines image = (c j : ℕ) → c < image.layout.callers → j < 8 →
    word_at image.layout image.words (Line c j state_offset) ≡ empty_state

-- The state of the image's log line of this number.
abbrev pub image_line : Row → ℕ → ℕ
image_line image j = word_at image.layout image.words (Line (j / 8) (j % 8) state_offset)

-- So many of the log lines of the image are READY, and the others are EMPTY.
pub record ImageWaits (image : Row) (changes : ℕ) : Type 0 where
  pub ready : how_many (λ j. image_line image j == ready_state) (8 * image.layout.callers) ≡ changes
  pub others : (j : ℕ) → j < 8 * image.layout.callers →
      (image_line image j ≡ empty_state) ⊎ (image_line image j ≡ ready_state)

-- The image keeps the index: its cached words, which are sound by all rules, with its map, its shape and its
-- generation.
pub record IsImageOf (s : Index) (image : Row) : Type 0 where
  pub layout : image.layout ≡ s.layout
  pub words : image.words ≡ cached_row s.layout s.words
  pub sound : IsSoundByAll image.layout image.words
  pub generation : header_generation image.layout image.words ≡ s.generation
  pub keeps : IsMapOf image.layout image.words (map_of_index s)
  pub anchors : image_anchors image.layout image.words ≡ anchors_in (world s)
  pub lines : HasNoLines s → ImageHasNoLines image
  pub waits : ImageWaits image (ready_lines (world s))
