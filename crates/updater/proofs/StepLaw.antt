-- Each turn is a step of its stage.
use Rattle.std.proofs.Common.{◌≡◌, ◌≢◌, ℕ, ◌+◌, ◌*◌, ◌<◌, ◌≤◌, ◌==◌, ◌&&◌, not, Bool, true, false, cond, ltb, leb}
use Rattle.std.proofs.Common.{List, [], ◌∷◌, inl, inr, refl, sym, subst, ap, ◌∙◌, arith}
use Rattle.std.specs.Prelude.{slice_set}
use Rattle.std.proofs.lemmas.Bool.{eqb-true, eqb-false, ltb-true, ltb-false, leb-true, leb-false}
use Rattle.pm_words.specs.Codes.{gone_status, free_status, ready_state, merge_kind, empty_state, untaken_lock}
use Rattle.pm_words.specs.declared.layout.Layout.{Layout}
use Rattle.pm_words.specs.declared.action.Action.{Action}
use Rattle.pm_words.specs.declared.action.Action.TheVariants.{Load, Store}
use Rattle.pm_words.specs.declared.machine.Turn.{Turn}
use Rattle.pm_words.specs.declared.machine.Turn.TheVariants.{Go, Done}
use Rattle.pm_words.specs.Locations.{Cached, address_of, row_words}
use Rattle.pm_words.specs.Offsets.{anchor_offset, state_offset}
use Rattle.pm_words.proofs.Apart.{addresses_within}
use Rattle.version_lock.specs.Versions.{is_worn_word, IsFree}
use Rattle.version_lock.proofs.WordTests.{free_is}
use Rattle.call_stages.specs.Kinds.{status_address, version_address, Told}
use Rattle.data_list.specs.declared.target.Walked.{Walked}
use Rattle.data_list.specs.declared.target.Walked.TheVariants as walked
use Rattle.data_list.specs.declared.walk.Walk.{Walk}
use Rattle.data_list.specs.Walks.{IsWalk, walk_asks, walk_turned}
use Rattle.data_list.specs.WalkStages.{walk_stage}
use Rattle.data_list.specs.Laws.{Walks}
use Rattle.data_list.proofs.WalkLaw.{walks_are_looks}
use Rattle.pm_alloc.specs.declared.gone.Release.{Release}
use Rattle.pm_alloc.specs.declared.gone.ReleaseAt.{ReleaseAt}
use Rattle.pm_alloc.specs.declared.gone.ReleaseAt.TheVariants as release_at
use Rattle.pm_alloc.specs.Gone.{stamp_address, release_at_asks, release_at_turned, release_from}
use Rattle.updater_row_law.specs.tree_update.specs.declared.change.Change.{Change}
use Rattle.updater_row_law.specs.tree_update.specs.declared.change.Ended.{Ended}
use Rattle.tree_floor.specs.declared.floor.Floor.{Floor}
use Rattle.updater_row_law.specs.tree_update.specs.Changes.{change_asks, change_turned}
use Rattle.tree_floor.specs.Floors.{floor_asks, floor_turned}
use Rattle.updater_row_law.specs.tree_update.specs.Sets.{set_of, unset_of, set_starts, unset_starts}
use Rattle.updater_row_law.specs.tree_update.specs.Stages.{Aim, aim_of}
use Rattle.updater_row_law.specs.search_layer.specs.ChangeStages.{ChangeStep, stage_of, stage_after as change_after}
use Rattle.updater_row_law.specs.search_layer.specs.ChangeStages.{start_stage}
use Rattle.updater_row_law.specs.search_layer.specs.Laws.{SoundAfter}
use Rattle.updater_row_law.specs.search_layer.proofs.FloorLemmas.{only_loads as floor_only_loads}
use Rattle.updater_row_law.specs.search_layer.proofs.StepLaw.{changes_are_steps, changes_stay_sound}
use Rattle.smo_log.specs.declared.line.Entry.{Entry}
use Rattle.smo_log.specs.declared.read.ReadLine.{ReadLine}
use Rattle.smo_log.specs.LogLines.{numbered_address}
use Rattle.smo_log.specs.Reads.{read_asks, read_turned, seen_in}
use Rattle.updater_row_law.specs.Columns.{RowTerms}
use Rattle.updater_row_law.specs.RowStages.{line_read, RowStage, Resting, Between, Reads, Lands, HasTarget, Changes}
use Rattle.updater_row_law.specs.RowStages.{Stamps, Clears, Sweeps, Gone, HasStamp, IsUnworn, Frees, Counts}
use Rattle.updater_row_law.specs.RowStages.{after_line as line_done, after_node as node_done}
use Rattle.updater_row_law.specs.RowStages.{after_change as change_done}
use Rattle.updater_row_law.specs.RowStages as rows
use Rattle.updater_row_law.specs.RowSteps.{RowStep, line_at}
use Rattle.updater_row_law.specs.RowSteps as steps
use Rattle.updater.specs.declared.taking.Took.TheVariants as took
use Rattle.updater.specs.declared.terms.Terms.{Terms}
use Rattle.updater.specs.declared.terms.Found.{Found}
use Rattle.updater.specs.declared.work.Work.{Work}
use Rattle.updater.specs.declared.work.WorkAt.{WorkAt}
use Rattle.updater.specs.declared.work.WorkAt.TheVariants as at
use Rattle.updater.specs.Takings.{taking_asks}
use Rattle.updater_row_law.specs.Columns.{line_count}
use Rattle.updater_row_law.specs.RowStages.{are_same}
use Rattle.updater.specs.Works.{work_at_asks, after_line, reads_fields, saw_state, changes, clears, changed}
use Rattle.updater.specs.Works.{after_node, saw_status, saw_stamp, saw_version, after_count, on, leaves, found_at}
use Rattle.updater.specs.Works.{saw_again, has_read, has_landed, has_walked, has_set, has_unset, has_released}
use Rattle.updater.specs.Works.{work_at_turned, IsReading, IsWalkTo, IsWorkAt, ToldOfLine}
use Rattle.updater.proofs.WalkLoads.{walk_place, walk_told}
use Rattle.updater.specs.Steps.{row_terms, line_of, target_of, release_stage, work_at_stage, work_stage, stage_after}
use Rattle.updater.specs.Steps.{stage_taken, TakingsAreSteps, WorksStart, WorksAreSteps}

pub takings_are_steps : TakingsAreSteps
takings_are_steps terms x = elim (x == untaken_lock) as (λ b. (x == untaken_lock) ≡ b → RowStep terms Resting (taking_asks terms.layout) x (stage_taken (cond b took.Taken (took.Held x)))) [
  | true ↦ λ e. steps.takes_lock (eqb-true x 0 e)
  | false ↦ λ e. steps.finds_held (eqb-false x 0 e)
] refl

pub works_start : WorksStart
works_start terms = refl

-- a load of a word of the row
record LoadsWithin (l : Layout) (a : Action) : Type 0 where
  pub address : ℕ
  pub within : address < row_words l
  pub loads : a ≡ Load address

walk_loads : (walk : Walk) → IsWalk walk → LoadsWithin walk.layout (walk_asks walk)
walk_loads walk sound =
    let place = walk_place walk sound in
    record { address = address_of walk.layout place.location; within = addresses_within walk.layout place.location place.has; loads = place.loads }

module _ (work : Work) where
  abbrev t : Terms
  t = work.terms

  abbrev l : Layout
  l = work.terms.layout

  abbrev r : RowTerms
  r = row_terms work.terms

  line_after : (line : ℕ) → line_done r line ≡ work_at_stage t (after_line t line)
  line_after line = elim (ltb (line + 1) (line_count l)) as (λ b. cond b (Between (line + 1)) (Sweeps 0) ≡ work_at_stage t (cond b (at.State (line + 1)) (at.Status 0))) [ true ↦ refl | false ↦ refl ]

  node_after : (node : ℕ) → node_done r node ≡ work_at_stage t (after_node t node)
  node_after node = elim (ltb (node + 1) l.nodes) as (λ b. cond b (Sweeps (node + 1)) (Counts 0 true) ≡ work_at_stage t (cond b (at.Status (node + 1)) (at.Counting 0 true))) [ true ↦ refl | false ↦ refl ]

  change_after_is : (line : ℕ) (entry : Entry) → change_done (line_of line entry) ≡ work_at_stage t (changed t line entry)
  change_after_is line entry = elim (entry.kind == merge_kind) as (λ b. cond b (Stamps (line_of line entry)) (Clears line) ≡ work_at_stage t (cond b (at.Stamping line entry) (clears t line))) [ true ↦ refl | false ↦ refl ]

  -- a step to the next line, and to the next node
  to_line : (s : RowStage) (a : Action) (x line : ℕ) → RowStep r s a x (line_done r line) → RowStep r s a x (work_at_stage t (after_line t line))
  to_line s a x line step = subst (λ next. RowStep r s a x next) (line_after line) step

  to_node : (s : RowStage) (a : Action) (x node : ℕ) → RowStep r s a x (node_done r node) → RowStep r s a x (work_at_stage t (after_node t node))
  to_node s a x node step = subst (λ next. RowStep r s a x next) (node_after node) step

  at_state : (line x : ℕ) → line < line_count l → RowStep r (Between line) (Load (line_at l line state_offset)) x (work_at_stage t (saw_state t line x))
  at_state line x here = elim (x == ready_state) as (λ b. (x == ready_state) ≡ b → RowStep r (Between line) (Load (line_at l line state_offset)) x (work_at_stage t (cond b (at.Reading (reads_fields l line x)) (after_line t line)))) [
    | true ↦ λ e. steps.sees (0 ∷ 0 ∷ 0 ∷ 0 ∷ 0 ∷ 0 ∷ 0 ∷ []) here (eqb-true x ready_state e) refl
    | false ↦ λ e. to_line (Between line) (Load (line_at l line state_offset)) x line (steps.passes here (eqb-false x ready_state e))
  ] refl

  at_reading : (read : ReadLine) (x : ℕ) → IsReading l read → ToldOfLine l (read_asks read) x → RowStep r (Reads read.line read.offset read.words) (read_asks read) x (work_stage (has_read work read.line (read_turned read x)))
  at_reading read x is told =
      let words : List ℕ = slice_set read.words read.offset x in
      let s : RowStage = Reads read.line read.offset read.words in
      let here : read.line < line_count l = subst (λ (k : Layout). read.line < 8 * k.callers) is.layout is.sound.line in
      let small : read.offset < 7 = is.sound.offset in
      let named : read.offset ≡ anchor_offset → x ≢ 0 = λ third. told.named read.line here (ap (λ (k : Layout). Load (numbered_address k read.line read.offset)) is.layout ∙ ap (λ o. Load (numbered_address l read.line o)) third) in
      subst (λ (k : Layout). RowStep r s (Load (numbered_address k read.line read.offset)) x (work_stage (has_read work read.line (read_turned read x)))) (sym is.layout)
      (elim (ltb (read.offset + 1) 7) as (λ b. ltb (read.offset + 1) 7 ≡ b → RowStep r s (Load (line_at l read.line read.offset)) x
      (work_stage (has_read work read.line (cond b (Go (record read { offset = read.offset + 1; words = words })) (Done (seen_in words)))))) [
        | true ↦ λ more. let next : read.offset + 1 < 7 = ltb-true _ _ more in steps.reads here is.some (omega arith) named
        | false ↦ λ last.
            let end : 7 ≤ read.offset + 1 = ltb-false _ _ last in
            let six : 6 ≡ read.offset = omega arith in
            subst (λ o. RowStep r (Reads read.line o read.words) (Load (line_at l read.line o)) x (Lands (line_read read.line (slice_set read.words o x)))) six (steps.has_read here)
      ] refl)

  at_landing : (line : ℕ) (entry : Entry) (floor : Floor) (x : ℕ) (turn : Turn Floor ℕ) → LoadsWithin l (floor_asks floor)
      → RowStep r (Lands (line_of line entry)) (floor_asks floor) x (work_stage (has_landed work line entry turn))
  at_landing line entry floor x (Go next) asked = subst (λ a. RowStep r (Lands (line_of line entry)) a x (Lands (line_of line entry))) (sym asked.loads) (steps.walks asked.within)
  at_landing line entry floor x (Done hint) asked = subst (λ a. RowStep r (Lands (line_of line entry)) a x (Lands (line_of line entry))) (sym asked.loads) (steps.walks asked.within)

  at_walking : (line : ℕ) (entry : Entry) (walk : Walk) (x : ℕ) (turn : Turn Walk Walked) → LoadsWithin l (walk_asks walk) → IsWalkTo t entry walk
      → Walks walk.layout walk.generation walk.key (walk_stage walk) (walk_asks walk) x turn → RowStep r (Lands (line_of line entry)) (walk_asks walk) x (work_stage (has_walked work line entry turn))
  at_walking line entry walk x (Go next) asked is after = subst (λ a. RowStep r (Lands (line_of line entry)) a x (Lands (line_of line entry))) (sym asked.loads) (steps.walks asked.within)
  at_walking line entry walk x (Done (walked.Again why)) asked is after =
      subst (λ a. RowStep r (Lands (line_of line entry)) a x (work_at_stage t (after_line t line))) (sym asked.loads)
      (to_line (Lands (line_of line entry)) (Load asked.address) x line (steps.is_turned_back asked.within))
  at_walking line entry walk x (Done (walked.Target target)) asked is after =
      subst (λ a. RowStep r (Lands (line_of line entry)) a x (HasTarget (line_of line entry) (target_of (found_at target)))) (sym asked.loads)
      (steps.finds asked.within (subst (λ (k : Layout). target.node < k.nodes) is.layout after.1.here)
      (free_is target.version t.generation (subst (λ g. IsFree target.version g) is.generation after.1.seen.free.free)))

  at_seeing : (line : ℕ) (entry : Entry) (found : Found) (x : ℕ)
      → RowStep r (HasTarget (line_of line entry) (target_of found)) (Load (version_address l found.node)) x (work_stage (saw_again work line entry found x))
  at_seeing line entry found x =
      let s : RowStage = HasTarget (line_of line entry) (target_of found) in
      let a : Action = Load (version_address l found.node) in
      elim (x == found.version) as (λ b. (x == found.version) ≡ b → RowStep r s a x (work_stage (cond b (on work (changes t line entry found)) (leaves work line)))) [
        | true ↦ λ e. subst (λ next. RowStep r s a x next) (decided line entry found) (steps.decides (eqb-true x found.version e))
        | false ↦ λ e. to_line s a x line (steps.loses (eqb-false x found.version e))
      ] refl
    where
      decided : (line : ℕ) (entry : Entry) (found : Found) → Changes (line_of line entry) (rows.word_at entry.anchor (target_of found)) (start_stage l (rows.aim_of (line_of line entry) (rows.word_at entry.anchor (target_of found)))) ≡ work_at_stage t (changes t line entry found)
      decided line entry found = elim (are_same found.low entry.anchor) as (λ b. Changes (line_of line entry) (cond b (found.node + 1) 0) (start_stage l (rows.aim_of (line_of line entry) (cond b (found.node + 1) 0)))
          ≡ work_at_stage t (cond b (at.Setting line entry (set_starts l entry.anchor found.node)) (at.Unsetting line entry (unset_starts l entry.anchor)))) [ true ↦ refl | false ↦ refl ]

  -- a step of the change of the layer
  change_step : (entry : Entry) (line x : ℕ) (change : Change) (turn : Turn Change Ended) → change.layout ≡ l → change.key ≡ entry.anchor → ChangeStep change.layout (aim_of change) (stage_of change) (change_asks change) x (change_after turn)
      → ChangeStep l (rows.aim_of (line_of line entry) change.word) (stage_of change) (change_asks change) x (change_after turn)
  change_step entry line x change turn same key step =
      subst (λ words. ChangeStep l (record { key = words; word = change.word }) (stage_of change) (change_asks change) x (change_after turn)) key
      (subst (λ (k : Layout). ChangeStep k (aim_of change) (stage_of change) (change_asks change) x (change_after turn)) same step)

  abbrev stage_changed : ℕ → Entry → Turn Change Ended → RowStage
  stage_changed line entry (Go next) = Changes (line_of line entry) next.word (stage_of next)
  stage_changed line entry (Done answer) = work_at_stage t (changed t line entry)

  at_change : (line : ℕ) (entry : Entry) (change : Change) (x : ℕ) (turn : Turn Change Ended) → SoundAfter change.layout (aim_of change) turn
      → ChangeStep l (rows.aim_of (line_of line entry) change.word) (stage_of change) (change_asks change) x (change_after turn)
      → RowStep r (Changes (line_of line entry) change.word (stage_of change)) (change_asks change) x (stage_changed line entry turn)
  at_change line entry change x (Go next) sound step =
      subst (λ word. RowStep r (Changes (line_of line entry) change.word (stage_of change)) (change_asks change) x (Changes (line_of line entry) word (stage_of next))) (sym (ap (λ (aim : Aim). aim.word) sound.1)) (steps.changes step)
  at_change line entry change x (Done answer) sound step =
      subst (λ next. RowStep r (Changes (line_of line entry) change.word (stage_of change)) (change_asks change) x next) (change_after_is line entry) (steps.has_changed step)

  at_setting : (line : ℕ) (entry : Entry) (change : Change) (x : ℕ) (turn : Turn Change Ended) → SoundAfter change.layout (aim_of change) turn
      → ChangeStep l (rows.aim_of (line_of line entry) change.word) (stage_of change) (change_asks change) x (change_after turn)
      → RowStep r (Changes (line_of line entry) change.word (stage_of change)) (change_asks change) x (work_stage (has_set work line entry (set_of turn)))
  at_setting line entry change x (Go next) sound step = at_change line entry change x (Go next) sound step
  at_setting line entry change x (Done answer) sound step = at_change line entry change x (Done answer) sound step

  at_unsetting : (line : ℕ) (entry : Entry) (change : Change) (x : ℕ) (turn : Turn Change Ended) → SoundAfter change.layout (aim_of change) turn
      → ChangeStep l (rows.aim_of (line_of line entry) change.word) (stage_of change) (change_asks change) x (change_after turn)
      → RowStep r (Changes (line_of line entry) change.word (stage_of change)) (change_asks change) x (work_stage (has_unset work line entry (unset_of turn)))
  at_unsetting line entry change x (Go next) sound step = at_change line entry change x (Go next) sound step
  at_unsetting line entry change x (Done answer) sound step = at_change line entry change x (Done answer) sound step

  at_clearing : (k : Layout) (line x : ℕ) → k ≡ l → line < line_count l → RowStep r (Clears line) (Store (numbered_address k line state_offset) empty_state) x (work_at_stage t (after_line t line))
  at_clearing k line x same here = subst (λ (k : Layout). RowStep r (Clears line) (Store (numbered_address k line state_offset) empty_state) x (work_at_stage t (after_line t line))) (sym same)
      (to_line (Clears line) (Store (line_at l line state_offset) 0) x line (steps.empties here))

  at_status : (node x : ℕ) → node < l.nodes → RowStep r (Sweeps node) (Load (status_address l node)) x (work_at_stage t (saw_status t node x))
  at_status node x here = elim (x == gone_status) as (λ b. (x == gone_status) ≡ b → RowStep r (Sweeps node) (Load (status_address l node)) x (work_at_stage t (cond b (at.Stamp node) (after_node t node)))) [
    | true ↦ λ e. steps.sees_gone here (eqb-true x gone_status e)
    | false ↦ λ e. to_node (Sweeps node) (Load (status_address l node)) x node (steps.passes_node here (eqb-false x gone_status e))
  ] refl

  at_stamp : (node x : ℕ) → node < l.nodes → RowStep r (Gone node) (Load (stamp_address l node)) x (work_at_stage t (saw_stamp t node x))
  at_stamp node x here =
      let a : Action = Load (stamp_address l node) in
      elim (x == 0) as (λ b. (x == 0) ≡ b → RowStep r (Gone node) a x (work_at_stage t (cond (not b && leb x t.release) (at.Version node) (after_node t node)))) [
        | true ↦ λ none. to_node (Gone node) a x node (steps.passes_stamp here (inl (eqb-true x 0 none)))
        | false ↦ λ some. elim (leb x t.release) as (λ b. leb x t.release ≡ b → RowStep r (Gone node) a x (work_at_stage t (cond b (at.Version node) (after_node t node)))) [
          | true ↦ λ most. steps.sees_stamp here (eqb-false x 0 some) (leb-true x t.release most)
          | false ↦ λ past. to_node (Gone node) a x node (steps.passes_stamp here (inr (leb-false x t.release past)))
        ] refl
      ] refl

  at_version : (node x : ℕ) → node < l.nodes → RowStep r (HasStamp node) (Load (version_address l node)) x (work_at_stage t (saw_version t node x))
  at_version node x here = elim (is_worn_word x t.generation) as (λ b. is_worn_word x t.generation ≡ b → RowStep r (HasStamp node) (Load (version_address l node)) x (work_at_stage t (cond b (after_node t node) (at.Releasing (release_from l node))))) [
    | true ↦ λ worn. to_node (HasStamp node) (Load (version_address l node)) x node (steps.passes_worn here worn)
    | false ↦ λ unworn. steps.sees_unworn here unworn
  ] refl

  at_releasing : (release : Release) (at : ReleaseAt) (x : ℕ) → release.layout ≡ l → release.node < l.nodes
      → RowStep r (release_stage at release.node) (release_at_asks release.layout release.node at) x (work_stage (has_released work release.node (release_at_turned release at)))
  at_releasing release release_at.Stamp x same here =
      subst (λ (k : Layout). RowStep r (IsUnworn release.node) (release_at_asks k release.node release_at.Stamp) x (Frees release.node)) (sym same) (steps.unstamps here)
  at_releasing release release_at.Status x same here =
      subst (λ (k : Layout). RowStep r (Frees release.node) (release_at_asks k release.node release_at.Status) x (work_at_stage t (after_node t release.node))) (sym same)
      (to_node (Frees release.node) (release_at_asks l release.node release_at.Status) x release.node (steps.frees here))

  at_counting : (node x : ℕ) (none : Bool) → node < l.nodes → RowStep r (Counts node none) (Load (status_address l node)) x (work_at_stage t (after_count t node (none && not (x == free_status))))
  at_counting node x none here =
      let rest : Bool = none && not (x == free_status) in
      let a : Action = Load (status_address l node) in
      elim (ltb (node + 1) l.nodes) as (λ b. ltb (node + 1) l.nodes ≡ b → RowStep r (Counts node none) a x (work_at_stage t (cond b (at.Counting (node + 1) rest) (at.Leaving rest)))) [
        | true ↦ λ more. steps.counts here
        | false ↦ λ last.
            let end : l.nodes ≤ node + 1 = ltb-false _ _ last in
            let all : node + 1 ≡ l.nodes = omega arith in
            subst (λ n. RowStep r (Counts node none) a x (Counts n rest)) all (steps.counts here)
      ] refl

  steps_at : (at : WorkAt) (x : ℕ) → IsWorkAt t work.tally at → Told l t.generation (work_at_asks t at) x → ToldOfLine l (work_at_asks t at) x → RowStep r (work_at_stage t at) (work_at_asks t at) x (stage_after (work_at_turned work at x))
  steps_at (at.State line) x here told of_line = at_state line x here.within
  steps_at (at.Reading read) x here told of_line = at_reading read x here.1 of_line
  steps_at (at.Landing line entry floor) x here told of_line =
      let asked = floor_only_loads floor here.2 in
      at_landing line entry floor x (floor_turned floor x) (subst (λ (k : Layout). LoadsWithin k (floor_asks floor)) here.3 (record {
        address = address_of floor.layout (Cached asked.word);
        within = addresses_within floor.layout (Cached asked.word) asked.place.there;
        loads = asked.loads;
      }))
  steps_at (at.Walking line entry walk) x here told of_line =
      let is = here.2 in
      at_walking line entry walk x (walk_turned walk x)
      (subst (λ (k : Layout). LoadsWithin k (walk_asks walk)) is.layout (walk_loads walk is.sound)) is
      (walks_are_looks walk x is.sound (walk_told t entry walk (walk_asks walk) x is told))
  steps_at (at.Seeing line entry found) x here told of_line = at_seeing line entry found x
  steps_at (at.Setting line entry set) x here told of_line =
      at_setting line entry set.change x (change_turned set.change x) (changes_stay_sound set.change x here.2.change told.fits)
      (change_step entry line x set.change (change_turned set.change x) here.3 here.4 (changes_are_steps set.change x here.2.change told.fits))
  steps_at (at.Unsetting line entry unset) x here told of_line =
      at_unsetting line entry unset.change x (change_turned unset.change x) (changes_stay_sound unset.change x here.2.change told.fits)
      (change_step entry line x unset.change (change_turned unset.change x) here.3 here.4 (changes_are_steps unset.change x here.2.change told.fits))
  steps_at (at.Stamping line entry) x here told of_line = steps.stamps here.1.node
  steps_at (at.Clearing clear) x here told of_line = at_clearing clear.layout clear.line x here.2 here.0.within
  steps_at (at.Status node) x here told of_line = at_status node x here.within
  steps_at (at.Stamp node) x here told of_line = at_stamp node x here.within
  steps_at (at.Version node) x here told of_line = at_version node x here.within
  steps_at (at.Releasing release) x here told of_line = at_releasing release release.at x here.2 here.0.within
  steps_at (at.Counting node none) x here told of_line = at_counting node x none here.0
  steps_at (at.Leaving none) x here told of_line = steps.leaves_lock (omega arith)

pub works_are_steps : WorksAreSteps
works_are_steps work x takes = steps_at work work.at x takes.0.here takes.1 takes.2
