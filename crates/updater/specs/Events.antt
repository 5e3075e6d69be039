-- What a turn of the updater answers, by what it was told.
use Rattle.std.specs.Prelude.{◌≡◌, ◌≢◌, ℕ, zero, suc, ◌+◌, ◌<◌, ◌==◌, ◌&&◌, ◌↔◌, not, nat_le, Bool, true, false}
use Rattle.std.specs.Prelude.{if◌then◌else◌}
use Rattle.pm_words.specs.Codes.{free_status, gone_status, ready_state, merge_kind, untaken_lock}
use Rattle.pm_words.specs.declared.layout.Layout.{Layout}
use Rattle.pm_words.specs.declared.action.Action.TheVariants.{Store}
use Rattle.pm_words.specs.declared.machine.Turn.{Turn}
use Rattle.pm_words.specs.declared.machine.Turn.TheVariants.{Go, Done}
use Rattle.version_lock.specs.Versions.{is_worn_word}
use Rattle.data_list.specs.declared.target.Walked.{Walked}
use Rattle.data_list.specs.declared.target.Walked.TheVariants as walked
use Rattle.data_list.specs.declared.walk.Walk.{Walk}
use Rattle.data_list.specs.Walks.{walk_turned}
use Rattle.smo_log.specs.declared.line.Entry.{Entry}
use Rattle.smo_log.specs.declared.read.LineSeen.{LineSeen}
use Rattle.smo_log.specs.declared.read.ReadLine.{ReadLine}
use Rattle.smo_log.specs.Reads.{read_turned}
use Rattle.updater.specs.declared.terms.Terms.{Terms}
use Rattle.updater.specs.declared.terms.Tally.{Tally}
use Rattle.updater.specs.declared.terms.Turned.{Turned}
use Rattle.updater.specs.declared.terms.Found.{Found}
use Rattle.updater.specs.declared.work.Work.{Work}
use Rattle.updater.specs.declared.work.WorkAt.{WorkAt}
use Rattle.updater.specs.declared.work.WorkAt.TheVariants as at
use Rattle.updater_row_law.specs.Columns.{line_count}
use Rattle.updater.specs.Works.{work_from, work_asks, work_turned, work_takes}
use Rattle.updater_row_law.specs.RowStages.{are_same}
use Rattle.updater.specs.Works.{allows, found_at}
use Rattle.updater.specs.Takings.{updater_address}

-- What one turn is told. By line: the state, what the line says, what its walk answered, and the version word that it
-- loaded after the walk. By node: the status, the stamp and the version word, and the status at the end. It loads each
-- once at most.
pub record Heard : Type 0 where
  pub state : ℕ → ℕ
  pub entry : ℕ → Entry
  pub walked : ℕ → Walked
  pub second : ℕ → ℕ
  pub status : ℕ → ℕ
  pub stamp : ℕ → ℕ
  pub version : ℕ → ℕ
  pub last : ℕ → ℕ

-- how many of the first so many numbers are so
abbrev pub how_many : (ℕ → Bool) → ℕ → ℕ
how_many test zero = 0
how_many test (suc n) = if test n then how_many test n + 1 else how_many test n

-- the walk came to a target, whose version word was loaded the same again
abbrev pub stands : Walked → ℕ → Bool
stands (walked.Target target) second = second == target.version
stands (walked.Again why) second = false

-- the line was READY
abbrev pub was_ready : Heard → ℕ → Bool
was_ready h line = h.state line == ready_state

-- and is emptied, or left: its walk gave up, or the version word changed
abbrev pub is_emptied : Heard → ℕ → Bool
is_emptied h line = was_ready h line && stands (h.walked line) (h.second line)

abbrev pub is_left : Heard → ℕ → Bool
is_left h line = was_ready h line && not (stands (h.walked line) (h.second line))

-- The node word to which its anchor is to lead: that of the target, where the target has this anchor, else none.
abbrev pub word_led : Entry → Walked → ℕ
word_led entry (walked.Target target) = if are_same target.low entry.anchor then target.node + 1 else 0
word_led entry (walked.Again why) = 0

-- the node was GONE, its stamp isn't 0 and is at most the release, and it wasn't worn
abbrev pub is_freed : Terms → Heard → ℕ → Bool
is_freed terms h node =
    h.status node == gone_status && ((not (h.stamp node == 0) && nat_le (h.stamp node) terms.release) && not
    (is_worn_word (h.version node) terms.generation))

-- none of the first so many nodes was FREE at the end
abbrev pub NoneFree : Heard → ℕ → Type 0
NoneFree h most = (n : ℕ) → n < most → h.last n ≢ free_status

-- What a turn answers that was told these: how many lines are emptied, and how many are left; how many nodes are freed;
-- and whether no node was FREE at the end.
pub record Tells (terms : Terms) (h : Heard) (turned : Turned) : Type 0 where
  pub applied : turned.applied ≡ how_many (is_emptied h) (line_count terms.layout)
  pub left : turned.left ≡ how_many (is_left h) (line_count terms.layout)
  pub freed : turned.freed ≡ how_many (is_freed terms h) terms.layout.nodes
  pub none_free : (turned.none_free ≡ true) ↔ NoneFree h terms.layout.nodes

-- the walk has this answer, if it is done
abbrev pub EndsSo : Walked → Turn Walk Walked → Type 0
EndsSo answer (Go walk) = Unit {0}
EndsSo answer (Done walked) = answer ≡ walked

-- the line says this, if it is read
abbrev pub SaysSo : Entry → Turn ReadLine LineSeen → Type 0
SaysSo entry (Go read) = Unit {0}
SaysSo entry (Done seen) = entry ≡ seen.entry

-- It is told this number for its next action.
abbrev pub IsTold : Heard → WorkAt → ℕ → Type 0
IsTold h (at.State line) x = x ≡ h.state line
IsTold h (at.Reading read) x = SaysSo (h.entry read.line) (read_turned read x)
IsTold h (at.Walking line entry walk) x = EndsSo (h.walked line) (walk_turned walk x)
IsTold h (at.Seeing line entry found) x = x ≡ h.second line
IsTold h (at.Status node) x = x ≡ h.status node
IsTold h (at.Stamp node) x = x ≡ h.stamp node
IsTold h (at.Version node) x = x ≡ h.version node
IsTold h (at.Counting node none) x = x ≡ h.last node
IsTold h _ x = Unit {0}

-- It has counted the first so many lines,
pub record HasLines (h : Heard) (tally : Tally) (most : ℕ) : Type 0 where
  pub applied : tally.applied ≡ how_many (is_emptied h) most
  pub left : tally.left ≡ how_many (is_left h) most

-- and all lines, and the nodes that it freed of the first so many.
pub record HasNodes (terms : Terms) (h : Heard) (tally : Tally) (most : ℕ) : Type 0 where
  pub lines : HasLines h tally (line_count terms.layout)
  pub freed : tally.freed ≡ how_many (is_freed terms h) most

-- the walk answered this target
abbrev pub IsFoundBy : Walked → Found → Type 0
IsFoundBy (walked.Target target) found = found ≡ found_at target
IsFoundBy (walked.Again why) found = ⊥

-- What it was told so far is so, and what it does follows: it leads the anchor of a line that it empties to the node
-- that has it, or to none, and stamps the node of a merge.
abbrev pub HasHeard : Terms → Heard → Tally → WorkAt → Type 0
HasHeard terms h tally (at.State line) = HasLines h tally line
HasHeard terms h tally (at.Reading read) = HasLines h tally read.line × (was_ready h read.line ≡ true)
HasHeard terms h tally (at.Landing line entry floor) =
    HasLines h tally line × (was_ready h line ≡ true) × (entry ≡ h.entry line)
HasHeard terms h tally (at.Walking line entry walk) =
    HasLines h tally line × (was_ready h line ≡ true) × (entry ≡ h.entry line)
HasHeard terms h tally (at.Seeing line entry found) =
    HasLines h tally line × (was_ready h line ≡ true) × (entry ≡ h.entry line) × IsFoundBy (h.walked line) found
HasHeard terms h tally (at.Setting line entry set) =
    HasLines h tally line × (is_emptied h line ≡ true) × (entry ≡ h.entry line) ×
    (set.change.word ≡ word_led (h.entry line) (h.walked line))
HasHeard terms h tally (at.Unsetting line entry unset) =
    HasLines h tally line × (is_emptied h line ≡ true) × (entry ≡ h.entry line) ×
    (unset.change.word ≡ word_led (h.entry line) (h.walked line))
HasHeard terms h tally (at.Stamping line entry) =
    HasLines h tally line × (is_emptied h line ≡ true) × (entry ≡ h.entry line) × (entry.kind ≡ merge_kind)
HasHeard terms h tally (at.Clearing clear) = HasLines h tally clear.line × (is_emptied h clear.line ≡ true)
HasHeard terms h tally (at.Status node) = HasNodes terms h tally node
HasHeard terms h tally (at.Stamp node) = HasNodes terms h tally node × (h.status node ≡ gone_status)
HasHeard terms h tally (at.Version node) =
    HasNodes terms h tally node × (h.status node ≡ gone_status) × (allows terms (h.stamp node) ≡ true)
HasHeard terms h tally (at.Releasing release) =
    HasNodes terms h tally release.node × (is_freed terms h release.node ≡ true)
HasHeard terms h tally (at.Counting node none) =
    HasNodes terms h tally terms.layout.nodes × ((none ≡ true) ↔ NoneFree h node)
HasHeard terms h tally (at.Leaving none) =
    HasNodes terms h tally terms.layout.nodes × ((none ≡ true) ↔ NoneFree h terms.layout.nodes)

abbrev pub Heeds : Terms → Heard → Turn Work Turned → Type 0
Heeds terms h (Go work) = HasHeard terms h work.tally work.at
Heeds terms h (Done turned) = Tells terms h turned

-- A turn begins with nothing heard, each turn of it adds what it is told, and the answer follows from that.
abbrev pub WorksBegin : Type 0
WorksBegin = (l : Layout) (generation stamp release : ℕ) (h : Heard) →
    Heeds (work_from l generation stamp release).terms h (Go (work_from l generation stamp release))

abbrev pub WorksHeed : Type 0
WorksHeed = (work : Work) (h : Heard) (x : ℕ) → work_takes work x → IsTold h work.at x →
    HasHeard work.terms h work.tally work.at → Heeds work.terms h (work_turned work x)

-- A turn is done with the store that gives back the updater lock.
abbrev pub WorksLeave : Type 0
WorksLeave = (work : Work) (x : ℕ) (turned : Turned) → work_turned work x ≡ Done turned →
    work_asks work ≡ Store (updater_address work.terms.layout) untaken_lock
