-- Each turn is a watch, and sees the target that it finds.
use Rattle.std.proofs.Common.{◌≡◌, ℕ, ◌+◌, ◌<◌, ◌==◌, ◌&&◌, not, Bool, true, false, cond, List, refl, sym, subst, ap, ◌∙◌}
use Rattle.std.proofs.Common.{arith}
use Rattle.pm_words.specs.Codes.{free_status}
use Rattle.pm_words.specs.declared.layout.Layout.{Layout}
use Rattle.pm_words.specs.declared.action.Action.{Action}
use Rattle.pm_words.specs.declared.action.Action.TheVariants.{Load}
use Rattle.pm_words.specs.declared.machine.Turn.{Turn}
use Rattle.pm_words.specs.declared.machine.Turn.TheVariants.{Go, Done}
use Rattle.pm_words.specs.Locations.{Line, Cached, address_of}
use Rattle.pm_words.specs.Offsets.{anchor_offset, line_node_offset}
use Rattle.pm_words.proofs.Apart.{addresses_apart}
use Rattle.call_stages.specs.Kinds.{Told}
use Rattle.call_stages.specs.Watches.{Watching, Watch, lets_go}
use Rattle.data_list.specs.declared.target.Walked.{Walked}
use Rattle.data_list.specs.declared.target.Walked.TheVariants as walked
use Rattle.data_list.specs.declared.walk.Walk.{Walk}
use Rattle.data_list.specs.Walks.{walk_asks, walk_turned, sighting_of}
use Rattle.data_list.specs.WalkStages.{walk_watching, sight_in}
use Rattle.data_list.specs.Laws.{WalkWatches}
use Rattle.data_list.proofs.WalkLaw.{walks_are_watches}
use Rattle.pm_alloc.specs.declared.gone.Release.{Release}
use Rattle.pm_alloc.specs.declared.gone.ReleaseAt.{ReleaseAt}
use Rattle.pm_alloc.specs.declared.gone.ReleaseAt.TheVariants as release_at
use Rattle.pm_alloc.specs.Gone.{release_from, release_turned}
use Rattle.tree_floor.specs.declared.floor.Floor.{Floor}
use Rattle.updater_row_law.specs.tree_update.specs.declared.set.Set.{Set}
use Rattle.updater_row_law.specs.tree_update.specs.declared.set.Unset.{Unset}
use Rattle.updater_row_law.specs.tree_update.specs.declared.change.Ended.{Ended}
use Rattle.tree_floor.specs.Floors.{floor_turned}
use Rattle.updater_row_law.specs.tree_update.specs.Sets.{set_starts, set_turned, unset_starts, unset_turned}
use Rattle.smo_log.specs.declared.line.Entry.{Entry}
use Rattle.smo_log.specs.declared.read.LineSeen.{LineSeen}
use Rattle.smo_log.specs.declared.read.ReadLine.{ReadLine}
use Rattle.smo_log.specs.LogLines.{numbered_address, caller_of, index_of}
use Rattle.smo_log.specs.Reads.{read_turned}
use Rattle.smo_log.proofs.LineLaw.{caller_within, index_within}
use Rattle.updater_row_law.specs.Columns.{line_count}
use Rattle.updater_row_law.specs.RowStages.{RowLine, RowTarget, HasTarget}
use Rattle.updater.specs.declared.terms.Terms.{Terms}
use Rattle.updater.specs.declared.terms.Turned.{Turned}
use Rattle.updater.specs.declared.terms.Found.{Found}
use Rattle.updater.specs.declared.work.Work.{Work}
use Rattle.updater.specs.declared.work.WorkAt.{WorkAt}
use Rattle.updater.specs.declared.work.WorkAt.TheVariants as at
use Rattle.updater.specs.Works.{work_at_asks, work_asks, after_line, reads_fields, changes, clears, changed}
use Rattle.updater.specs.Works.{after_node, on, leaves, saw_again, has_read, has_landed, has_walked, has_set}
use Rattle.updater.specs.Works.{has_unset, has_released, work_at_turned, work_turned, IsWalkTo, IsWorkAt, ToldOfLine}
use Rattle.updater.specs.Steps.{row_terms, line_of, target_of, release_stage, work_at_stage, stage_after}
use Rattle.updater_row_law.specs.Turnings.{SeesTarget}
use Rattle.updater.specs.Watches.{work_at_watching, work_watching, SeesFound, WorkWatches, WorksAreWatches}
use Rattle.updater.specs.Watches.{TargetsAreSeen, KeysHaveOneNumber, WalksAreTold}
use Rattle.updater.proofs.WalkLoads.{LoadsApart, walk_place, walk_told, turn_told}

module _ (work : Work) (w : Watching) (action : Action) (x : ℕ) where
  abbrev t : Terms
  t = work.terms

  abbrev l : Layout
  l = work.terms.layout

  -- it goes on there
  abbrev Goes : WorkAt → Type 0
  Goes at = Watch l t.generation w action x (work_at_watching at) × SeesFound t w action x at

  -- by a test
  one_of : (b : Bool) (one other : WorkAt) → Goes one → Goes other → Goes (cond b one other)
  one_of true one other here there = here
  one_of false one other here there = there

  past_line : (line : ℕ) → Goes (after_line t line)
  past_line line = one_of _ (at.State (line + 1)) (at.Status 0) (lets_go, tt) (lets_go, tt)

  past_node : (node : ℕ) → Goes (after_node t node)
  past_node node = one_of _ (at.Status (node + 1)) (at.Counting 0 true) (lets_go, tt) (lets_go, tt)

  past_change : (line : ℕ) (entry : Entry) → Goes (changed t line entry)
  past_change line entry = one_of _ (at.Stamping line entry) (clears t line) (lets_go, tt) (lets_go, tt)

  at_reading : (line : ℕ) (turn : Turn ReadLine LineSeen) → Goes (has_read work line turn).at
  at_reading line (Go read) = (lets_go, tt)
  at_reading line (Done seen) = (lets_go, tt)

  at_landing : (line : ℕ) (entry : Entry) (turn : Turn Floor ℕ) → Goes (has_landed work line entry turn).at
  at_landing line entry (Go floor) = (lets_go, tt)
  at_landing line entry (Done hint) = (lets_go, tt)

  walked_on : (line : ℕ) (entry : Entry) (turn : Turn Walk Walked) → WalkWatches l t.generation entry.anchor w action x turn → Goes (has_walked work line entry turn).at
  walked_on line entry (Go next) watch = (watch, tt)
  walked_on line entry (Done (walked.Again why)) watch = past_line line
  walked_on line entry (Done (walked.Target target)) watch = (lets_go, record { sight = sight_in (sighting_of target); watch = watch.watch; seen = watch.seen })

  at_walking : (line : ℕ) (entry : Entry) (walk : Walk) (turn : Turn Walk Walked) → IsWalkTo t entry walk → WalkWatches walk.layout walk.generation walk.key w action x turn → Goes (has_walked work line entry turn).at
  at_walking line entry walk turn is watch =
      walked_on line entry turn
      (subst (λ (key : List ℕ). WalkWatches l t.generation key w action x turn) is.key
      (subst (λ (g : ℕ). WalkWatches l g walk.key w action x turn) is.generation
      (subst (λ (k : Layout). WalkWatches k walk.generation walk.key w action x turn) is.layout watch)))

  at_seeing : (line : ℕ) (entry : Entry) (found : Found) → Goes (saw_again work line entry found x).at
  at_seeing line entry found = elim (x == found.version) as (λ b. Goes (cond b (on work (changes t line entry found)) (leaves work line)).at) [
    | true ↦ one_of _ (at.Setting line entry (set_starts l entry.anchor found.node)) (at.Unsetting line entry (unset_starts l entry.anchor)) (lets_go, tt) (lets_go, tt)
    | false ↦ past_line line
  ]

  at_setting : (line : ℕ) (entry : Entry) (turn : Turn Set Ended) → Goes (has_set work line entry turn).at
  at_setting line entry (Go set) = (lets_go, tt)
  at_setting line entry (Done answer) = past_change line entry

  at_unsetting : (line : ℕ) (entry : Entry) (turn : Turn Unset Ended) → Goes (has_unset work line entry turn).at
  at_unsetting line entry (Go unset) = (lets_go, tt)
  at_unsetting line entry (Done answer) = past_change line entry

  at_releasing : (node : ℕ) (turn : Turn Release (Unit {0})) → Goes (has_released work node turn).at
  at_releasing node (Go release) = (lets_go, tt)
  at_releasing node (Done answer) = past_node node

watches_at : (work : Work) (at : WorkAt) (x : ℕ) → IsWorkAt work.terms work.tally at → Told work.terms.layout work.terms.generation (work_at_asks work.terms at) x
    → WorkWatches work.terms (work_at_watching at) (work_at_asks work.terms at) x (work_at_turned work at x)
watches_at work (at.State line) x here told = one_of work _ _ x _ (at.Reading (reads_fields work.terms.layout line x)) (after_line work.terms line) (lets_go, tt) (past_line work _ _ x line)
watches_at work (at.Reading read) x here told = at_reading work _ _ x read.line (read_turned read x)
watches_at work (at.Landing line entry floor) x here told = at_landing work _ _ x line entry (floor_turned floor x)
watches_at work (at.Walking line entry walk) x here told =
    let is = here.2 in
    at_walking work (walk_watching walk) (walk_asks walk) x line entry walk (walk_turned walk x) is
    (walks_are_watches walk x is.sound (walk_told work.terms entry walk (walk_asks walk) x is told))
watches_at work (at.Seeing line entry found) x here told = at_seeing work _ _ x line entry found
watches_at work (at.Setting line entry set) x here told = at_setting work _ _ x line entry (set_turned set x)
watches_at work (at.Unsetting line entry unset) x here told = at_unsetting work _ _ x line entry (unset_turned unset x)
watches_at work (at.Stamping line entry) x here told = (lets_go, tt)
watches_at work (at.Clearing clear) x here told = past_line work _ _ x clear.line
watches_at work (at.Status node) x here told = one_of work _ _ x _ (at.Stamp node) (after_node work.terms node) (lets_go, tt) (past_node work _ _ x node)
watches_at work (at.Stamp node) x here told = one_of work _ _ x _ (at.Version node) (after_node work.terms node) (lets_go, tt) (past_node work _ _ x node)
watches_at work (at.Version node) x here told = one_of work _ _ x _ (after_node work.terms node) (at.Releasing (release_from work.terms.layout node)) (past_node work _ _ x node) (lets_go, tt)
watches_at work (at.Releasing release) x here told = at_releasing work _ _ x release.node (release_turned release x)
watches_at work (at.Counting node none) x here told = one_of work _ _ x _ (at.Counting (node + 1) (none && not (x == free_status))) (at.Leaving (none && not (x == free_status))) (lets_go, tt) (lets_go, tt)
watches_at work (at.Leaving none) x here told = tt

pub works_are_watches : WorksAreWatches
works_are_watches work x takes = watches_at work work.at x takes.0.here takes.1

-- it has the stage of a target only where it has found one
module _ (terms : Terms) (w : Watching) (action : Action) (x : ℕ) (e : RowLine) (target : RowTarget) where
  abbrev Sees : Terms → WorkAt → Type 0
  Sees other at = SeesFound terms w action x at → work_at_stage other at ≡ HasTarget e target → SeesTarget (row_terms terms) w action x e target

  released : (at : ReleaseAt) (node : ℕ) → release_stage at node ≡ HasTarget e target → ⊥
  released release_at.Stamp node is = cc
  released release_at.Status node is = cc

  sees_at : (other : Terms) (at : WorkAt) → Sees other at
  sees_at other (at.State line) seen is = absurd cc
  sees_at other (at.Reading read) seen is = absurd cc
  sees_at other (at.Landing line entry floor) seen is = absurd cc
  sees_at other (at.Walking line entry walk) seen is = absurd cc
  sees_at other (at.Seeing line entry found) seen is =
      let same : line_of line entry ≡ e = cc in
      let there : target_of found ≡ target = cc in
      subst (λ (k : RowTarget). SeesTarget (row_terms terms) w action x e k) there (subst (λ (k : RowLine). SeesTarget (row_terms terms) w action x k (target_of found)) same seen)
  sees_at other (at.Setting line entry set) seen is = absurd cc
  sees_at other (at.Unsetting line entry unset) seen is = absurd cc
  sees_at other (at.Stamping line entry) seen is = absurd cc
  sees_at other (at.Clearing clear) seen is = absurd cc
  sees_at other (at.Status node) seen is = absurd cc
  sees_at other (at.Stamp node) seen is = absurd cc
  sees_at other (at.Version node) seen is = absurd cc
  sees_at other (at.Releasing release) seen is = absurd (released release.at release.node is)
  sees_at other (at.Counting node none) seen is = absurd cc
  sees_at other (at.Leaving none) seen is = absurd cc

  sees_turn : (turn : Turn Work Turned) → WorkWatches terms w action x turn → stage_after turn ≡ HasTarget e target → SeesTarget (row_terms terms) w action x e target
  sees_turn (Go next) watch is = sees_at next.terms next.at watch.1 is
  sees_turn (Done answer) watch is = absurd cc

pub targets_are_seen : TargetsAreSeen
targets_are_seen work x e target takes is =
    sees_turn work.terms (work_watching work) (work_asks work) x e target (work_turned work x) (works_are_watches work x takes) is

pub keys_have_one_number : KeysHaveOneNumber
keys_have_one_number words = refl

-- what is told of log lines says nothing of a load elsewhere
pub none_of_line : (l : Layout) (a : Action) (x : ℕ) → LoadsApart l a → ToldOfLine l a x
none_of_line l a x place = record {
  node = λ line within is. absurd (elsewhere line line_node_offset within (omega arith) is);
  named = λ line within is. absurd (elsewhere line anchor_offset within (omega arith) is);
}
  where
    elsewhere : (line offset : ℕ) → line < line_count l → offset < 8 → a ≡ Load (numbered_address l line offset) → ⊥
    elsewhere line offset within small is =
        let loads : Load (address_of l place.location) ≡ Load (numbered_address l line offset) = sym place.loads ∙ is in
        let same : address_of l place.location ≡ numbered_address l line offset = cc in
        place.apart (caller_of line) (index_of line) offset
        (addresses_apart l place.location (Cached (Line (caller_of line) (index_of line) offset)) place.has (caller_within line l.callers within, index_within line, small) same)

pub walks_are_told : WalksAreTold
walks_are_told work x line entry walk sound is = (
  λ takes. walk_told work.terms entry walk (walk_asks walk) x to (subst (λ (a : Action). Told work.terms.layout work.terms.generation a x) asked takes.1),
  λ told. (
    sound,
    subst (λ (a : Action). Told work.terms.layout work.terms.generation a x) (sym asked) (turn_told work.terms entry walk (walk_asks walk) x to told),
    subst (λ (a : Action). ToldOfLine work.terms.layout a x) (sym asked)
        (none_of_line work.terms.layout (walk_asks walk) x (subst (λ (k : Layout). LoadsApart k (walk_asks walk)) to.layout (walk_place walk to.sound))),
  ),
)
  where
    asked : work_asks work ≡ walk_asks walk
    asked = ap (λ (at : WorkAt). work_at_asks work.terms at) is

    to : IsWalkTo work.terms entry walk
    to = (subst (λ (at : WorkAt). IsWorkAt work.terms work.tally at) is sound.here).2
