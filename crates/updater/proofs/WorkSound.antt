-- A turn goes on as one whose fields keep the same.
use Rattle.std.proofs.Common.{◌≡◌, ◌≢◌, ℕ, zero, suc, ◌+◌, ◌*◌, ◌^◌, ◌<◌, ◌≤◌, ◌==◌, Bool, true, false, cond, ltb}
use Rattle.std.proofs.Common.{List, [], ◌∷◌, length, slice_index, inl, inr, refl, sym, subst, ap, ◌∙◌, arith}
use Rattle.std.specs.Prelude.{slice_set}
use Rattle.std.proofs.lemmas.Bool.{cases_eq, ltb-true, ltb-false}
use Rattle.std.proofs.lemmas.List.{length-set, get_or-set_same, get_or-set_other}
use Rattle.pm_words.specs.Codes.{gone_status, ready_state, merge_kind}
use Rattle.pm_words.specs.declared.layout.Layout.{Layout}
use Rattle.pm_words.specs.declared.action.Action.TheVariants.{Load}
use Rattle.pm_words.specs.declared.machine.Turn.{Turn}
use Rattle.pm_words.specs.declared.machine.Turn.TheVariants.{Go, Done}
use Rattle.pm_words.specs.Offsets.{anchor_offset, line_node_offset, left_offset}
use Rattle.version_lock.specs.Versions.{is_worn_word}
use Rattle.call_stages.specs.Kinds.{Told}
use Rattle.data_list.specs.declared.target.Walked.{Walked}
use Rattle.data_list.specs.declared.target.Walked.TheVariants as walked
use Rattle.data_list.specs.declared.walk.Walk.{Walk}
use Rattle.data_list.specs.Walks.{walk_asks, walk_turned}
use Rattle.data_list.specs.WalkStages.{walk_stage}
use Rattle.data_list.specs.Laws.{Walks}
use Rattle.data_list.proofs.WalkLaw.{walks_are_looks}
use Rattle.pm_alloc.specs.declared.gone.Release.{Release}
use Rattle.pm_alloc.specs.declared.gone.ReleaseAt.{ReleaseAt}
use Rattle.pm_alloc.specs.declared.gone.ReleaseAt.TheVariants as release_at
use Rattle.pm_alloc.specs.Gone.{IsRelease, release_from, release_at_turned}
use Rattle.tree_floor.specs.declared.floor.Floor.{Floor}
use Rattle.updater_row_law.specs.tree_update.specs.declared.set.Set.{Set}
use Rattle.updater_row_law.specs.tree_update.specs.declared.set.Unset.{Unset}
use Rattle.updater_row_law.specs.tree_update.specs.declared.change.Ended.{Ended}
use Rattle.layer_map.specs.Keys.{key_of}
use Rattle.updater_row_law.specs.tree_update.specs.Stages.{Aim}
use Rattle.tree_floor.specs.Floors.{floor_turned, floor_left}
use Rattle.updater_row_law.specs.tree_update.specs.Sets.{set_starts, set_turned, unset_starts, unset_turned}
use Rattle.tree_floor.specs.Floors.{FloorAfter}
use Rattle.updater_row_law.specs.search_layer.specs.Laws.{SetAfter, UnsetAfter}
use Rattle.updater_row_law.specs.tree_update.specs.Stages.{aim_of}
use Rattle.updater_row_law.specs.search_layer.proofs.FloorLemmas.{stays as floor_stays}
use Rattle.updater_row_law.specs.search_layer.proofs.FloorLemmas.{starts_sound as floor_starts_sound}
use Rattle.updater_row_law.specs.search_layer.proofs.StepLaw.{sets_stay_sound, unsets_stay_sound}
use Rattle.updater_row_law.specs.search_layer.proofs.OnLayer.{sets_begin_sound, unsets_begin_sound}
use Rattle.smo_log.specs.declared.line.Entry.{Entry}
use Rattle.smo_log.specs.declared.read.ReadLine.{ReadLine}
use Rattle.smo_log.specs.LogLines.{numbered_address}
use Rattle.smo_log.specs.Reads.{read_asks, read_turned, seen_in}
use Rattle.updater.specs.declared.terms.Terms.{Terms}
use Rattle.updater.specs.declared.terms.Tally.{Tally}
use Rattle.updater.specs.declared.terms.Found.{Found}
use Rattle.updater.specs.declared.work.Work.{Work}
use Rattle.updater.specs.declared.work.WorkAt.{WorkAt}
use Rattle.updater.specs.declared.work.WorkAt.TheVariants as at
use Rattle.updater_row_law.specs.Columns.{line_count}
use Rattle.updater_row_law.specs.RowStages.{are_same}
use Rattle.updater.specs.Works.{work_at_asks, after_line, reads_fields, saw_state, lands, walks, changes, clears}
use Rattle.updater.specs.Works.{changed, after_node, saw_status, allows, saw_stamp, saw_version, after_count, on}
use Rattle.updater.specs.Works.{leaves, found_at, saw_again, has_read, has_landed, has_walked, has_set, has_unset}
use Rattle.updater.specs.Works.{has_released, work_at_turned, IsTerms, IsEntry, IsOnLine, IsOnNode, IsThrough}
use Rattle.updater.specs.Works.{IsReading, IsWalkTo, IsWorkAt, IsWork, ToldOfLine}
use Rattle.updater.specs.Laws.{WorkStays, WorksStaySound}
use Rattle.updater.proofs.WalkLoads.{walk_told}

-- with one word more
set_fits : (words : List ℕ) (offset x k : ℕ) → offset < length words → x < 2 ^ 64 → slice_index words k < 2 ^ 64 → slice_index (slice_set words offset x) k < 2 ^ 64
set_fits words offset x k within fits before =
    elim (cases_eq k offset) [
      | inl here ↦ subst (λ o. slice_index (slice_set words offset x) o < 2 ^ 64) (sym here) (subst (λ n. n < 2 ^ 64) (sym (get_or-set_same words offset x 0 within)) fits)
      | inr apart ↦ subst (λ n. n < 2 ^ 64) (sym (get_or-set_other words offset k x 0 apart)) before
    ]

-- the word at an offset is as wanted, where it was before, or is the one that is added
set_has : (P : ℕ → Type 0) (words : List ℕ) (offset x k : ℕ) → offset < length words → (offset ≡ k → P x) → (k < offset → P (slice_index words k)) → k < offset + 1
    → P (slice_index (slice_set words offset x) k)
set_has P words offset x k within added before small =
    elim (cases_eq k offset) [
      | inl here ↦ subst (λ o. P (slice_index (slice_set words offset x) o)) (sym here) (subst P (sym (get_or-set_same words offset x 0 within)) (added (sym here)))
      | inr apart ↦ subst P (sym (get_or-set_other words offset k x 0 apart)) (before (omega arith))
    ]

-- each of these words fits
abbrev AllFit : List ℕ → Type 0
AllFit [] = Unit {0}
AllFit (x ∷ rest) = (x < 2 ^ 64) × AllFit rest

fits_at : (words : List ℕ) → AllFit words → (k : ℕ) → slice_index words k < 2 ^ 64
fits_at [] all k = omega arith
fits_at (x ∷ rest) all zero = all.0
fits_at (x ∷ rest) all (suc k) = fits_at rest all.1 k

no_words : AllFit (0 ∷ 0 ∷ 0 ∷ 0 ∷ 0 ∷ 0 ∷ [])
no_words = let none : 0 < 2 ^ 64 = omega arith in (none, (none, (none, (none, (none, (none, tt))))))

-- a key whose first word isn't 0 isn't zero
nonzero_key : (a b c : ℕ) → a ≢ 0 → key_of a b c ≢ 0
nonzero_key a b c some is = some (omega arith)

module _ (work : Work) (terms : IsTerms work.terms) where
  abbrev t : Terms
  t = work.terms

  abbrev l : Layout
  l = work.terms.layout

  abbrev Stays : Work → Type 0
  Stays next = WorkStays t (Go next)

  stays_on : (at : WorkAt) → IsWorkAt t work.tally at → Stays (on work at)
  stays_on at here = (record { terms = terms; here = here }, refl)

  stays_counted : (tally : Tally) (at : WorkAt) → IsWorkAt t tally at → Stays (record work { tally = tally; at = at })
  stays_counted tally at here = (record { terms = terms; here = here }, refl)

  past_line : (tally : Tally) (line : ℕ) → line < line_count l → tally.applied + tally.left ≤ line + 1 → tally.freed ≡ 0 → IsWorkAt t tally (after_line t line)
  past_line tally line within counted unfreed =
      elim (ltb (line + 1) (line_count l)) as (λ b. ltb (line + 1) (line_count l) ≡ b → IsWorkAt t tally (cond b (at.State (line + 1)) (at.Status 0))) [
        | true ↦ λ more. record { within = ltb-true _ _ more; counted = counted; unfreed = unfreed }
        | false ↦ λ last. let some : 1 ≤ l.nodes = terms.layout.nodes.0 in record { within = some; counted = omega arith; freed = omega arith }
      ] refl

  past_node : (tally : Tally) (node : ℕ) → node < l.nodes → tally.applied + tally.left ≤ line_count l → tally.freed ≤ node + 1 → IsWorkAt t tally (after_node t node)
  past_node tally node within counted few =
      elim (ltb (node + 1) l.nodes) as (λ b. ltb (node + 1) l.nodes ≡ b → IsWorkAt t tally (cond b (at.Status (node + 1)) (at.Counting 0 true))) [
        | true ↦ λ more. record { within = ltb-true _ _ more; counted = counted; freed = few }
        | false ↦ λ last. let some : 1 ≤ l.nodes = terms.layout.nodes.0 in (some, record { counted = counted; freed = omega arith })
      ] refl

  stays_past : (node : ℕ) → IsOnNode t work.tally node → IsWorkAt t work.tally (after_node t node)
  stays_past node here = past_node work.tally node here.within here.counted (let few : work.tally.freed ≤ node = here.freed in omega arith)

  leaves_line : (line : ℕ) → IsOnLine t work.tally line → Stays (leaves work line)
  leaves_line line here =
      let tally = record work.tally { left = work.tally.left + 1 } in
      stays_counted tally (after_line t line) (past_line tally line here.within (let few : work.tally.applied + work.tally.left ≤ line = here.counted in omega arith) here.unfreed)

  at_state : (line x : ℕ) → IsOnLine t work.tally line → x < 2 ^ 64 → Stays (on work (saw_state t line x))
  at_state line x here fits =
      elim (x == ready_state) as (λ b. Stays (on work (cond b (at.Reading (reads_fields l line x)) (after_line t line)))) [
        | true ↦ stays_on (at.Reading (reads_fields l line x)) (
          here,
          record {
            sound = record { layout = terms.layout; line = here.within; offset = omega arith };
            layout = refl;
            some = omega arith;
            size = refl;
            fits = fits_at (x ∷ 0 ∷ 0 ∷ 0 ∷ 0 ∷ 0 ∷ 0 ∷ []) (fits, no_words);
            node = λ more. absurd (let no : 2 < 1 = more in omega arith);
            named = λ more. absurd (let no : 3 < 1 = more in omega arith);
          },
        )
        | false ↦ stays_on (after_line t line) (past_line work.tally line here.within (let few : work.tally.applied + work.tally.left ≤ line = here.counted in omega arith) here.unfreed)
      ]

  -- what the words say that are loaded so far
  module _ (read : ReadLine) (x : ℕ) (is : IsReading l read) (fits : x < 2 ^ 64) (told : ToldOfLine l (read_asks read) x) where
    abbrev words : List ℕ
    words = slice_set read.words read.offset x

    abbrev asked : read_asks read ≡ Load (numbered_address l read.line read.offset)
    asked = ap (λ (k : Layout). Load (numbered_address k read.line read.offset)) is.layout

    inside : read.offset < length read.words
    inside = let small : read.offset < 7 = is.sound.offset in let size : length read.words ≡ 7 = is.size in omega arith

    within : read.line < line_count l
    within = subst (λ (k : Layout). read.line < 8 * k.callers) is.layout is.sound.line

    words_fit : (k : ℕ) → slice_index words k < 2 ^ 64
    words_fit k = set_fits read.words read.offset x k inside fits (is.fits k)

    node_within : line_node_offset < read.offset + 1 → slice_index words line_node_offset < l.nodes
    node_within small = set_has (λ n. n < l.nodes) read.words read.offset x line_node_offset inside
        (λ here. told.node read.line within (asked ∙ ap (λ o. Load (numbered_address l read.line o)) here)) is.node small

    first_some : anchor_offset < read.offset + 1 → slice_index words anchor_offset ≢ 0
    first_some small = set_has (λ n. n ≢ 0) read.words read.offset x anchor_offset inside
        (λ here. told.named read.line within (asked ∙ ap (λ o. Load (numbered_address l read.line o)) here)) is.named small

    entry_known : read.offset ≡ left_offset → IsEntry l (seen_in words).entry
    entry_known last = record {
      node = node_within (omega arith);
      key = record { whole = refl; fits = fits_at (slice_index words anchor_offset ∷ slice_index words (anchor_offset + 1) ∷ slice_index words (anchor_offset + 2) ∷ []) (words_fit anchor_offset, (words_fit (anchor_offset + 1), (words_fit (anchor_offset + 2), tt))) };
      named = nonzero_key (slice_index words anchor_offset) (slice_index words (anchor_offset + 1)) (slice_index words (anchor_offset + 2)) (first_some (omega arith));
    }

    at_reading : IsOnLine t work.tally read.line → Stays (has_read work read.line (read_turned read x))
    at_reading here =
        elim (ltb (read.offset + 1) 7) as (λ b. ltb (read.offset + 1) 7 ≡ b → Stays (has_read work read.line (cond b (Go (record read { offset = read.offset + 1; words = words })) (Done (seen_in words))))) [
          | true ↦ λ more. stays_on (at.Reading (record read { offset = read.offset + 1; words = words })) (
            here,
            record {
              sound = record { layout = is.sound.layout; line = is.sound.line; offset = ltb-true _ _ more };
              layout = is.layout;
              some = omega arith;
              size = length-set read.words read.offset x ∙ is.size;
              fits = words_fit;
              node = node_within;
              named = first_some;
            },
          )
          | false ↦ λ last.
              let end : 7 ≤ read.offset + 1 = ltb-false _ _ last in
              let small : read.offset < 7 = is.sound.offset in
              stays_on (lands t read.line (seen_in words).entry) (here, entry_known (omega arith), floor_starts_sound l (seen_in words).entry.anchor terms.layout (entry_known (omega arith)).key, refl)
        ] refl

  at_landing : (line : ℕ) (entry : Entry) (floor : Floor) (turn : Turn Floor ℕ) → IsOnLine t work.tally line → IsEntry l entry → FloorAfter l floor.key (floor_left floor) turn → Stays (has_landed work line entry turn)
  at_landing line entry floor (Go next) here known after = stays_on (at.Landing line entry next) (here, known, after.0, after.1)
  at_landing line entry floor (Done hint) here known after =
      let nodes : 1 ≤ l.nodes = terms.layout.nodes.0 in
      stays_on (walks t line entry hint) (
        here,
        known,
        record {
          sound = record { layout = terms.layout; node = after; hops = omega arith; here = tt; first = tt };
          layout = refl;
          generation = refl;
          key = refl;
        },
      )

  at_walking : (line : ℕ) (entry : Entry) (walk : Walk) (x : ℕ) (turn : Turn Walk Walked) → IsOnLine t work.tally line → IsEntry l entry → IsWalkTo t entry walk
      → Walks walk.layout walk.generation walk.key (walk_stage walk) (walk_asks walk) x turn → Stays (has_walked work line entry turn)
  at_walking line entry walk x (Go next) here known is after =
      stays_on (at.Walking line entry next) (
        here,
        known,
        record { sound = after.1; layout = after.2 ∙ is.layout; generation = after.3 ∙ is.generation; key = after.4 ∙ is.key },
      )
  at_walking line entry walk x (Done (walked.Again why)) here known is after = leaves_line line here
  at_walking line entry walk x (Done (walked.Target target)) here known is after =
      stays_on (at.Seeing line entry (found_at target)) (here, known, subst (λ (k : Layout). target.node < k.nodes) is.layout after.1.here)

  at_seeing : (line : ℕ) (entry : Entry) (found : Found) (x : ℕ) → IsOnLine t work.tally line → IsEntry l entry → found.node < l.nodes → Stays (saw_again work line entry found x)
  at_seeing line entry found x here known within =
      elim (x == found.version) as (λ b. Stays (cond b (on work (changes t line entry found)) (leaves work line))) [
        | true ↦ elim (are_same found.low entry.anchor) as (λ b. Stays (on work (cond b (at.Setting line entry (set_starts l entry.anchor found.node)) (at.Unsetting line entry (unset_starts l entry.anchor))))) [
          | true ↦ stays_on (at.Setting line entry (set_starts l entry.anchor found.node)) (
            here,
            known,
            sets_begin_sound l entry.anchor found.node terms.layout known.key within,
            refl,
            refl,
          )
          | false ↦ stays_on (at.Unsetting line entry (unset_starts l entry.anchor)) (
            here,
            known,
            unsets_begin_sound l entry.anchor terms.layout known.key known.named,
            refl,
            refl,
          )
        ]
        | false ↦ leaves_line line here
      ]

  clearing : (line : ℕ) → IsOnLine t work.tally line → Stays (on work (clears t line))
  clearing line here = stays_on (clears t line) (here, record { layout = terms.layout; line = here.within }, refl)

  has_changed : (line : ℕ) (entry : Entry) → IsOnLine t work.tally line → IsEntry l entry → Stays (on work (changed t line entry))
  has_changed line entry here known =
      elim (entry.kind == merge_kind) as (λ b. Stays (on work (cond b (at.Stamping line entry) (clears t line)))) [
        | true ↦ stays_on (at.Stamping line entry) (here, known)
        | false ↦ clearing line here
      ]

  at_setting : (line : ℕ) (entry : Entry) (aim : Aim) (turn : Turn Set Ended) → aim.key ≡ entry.anchor → IsOnLine t work.tally line → IsEntry l entry → SetAfter l aim turn → Stays (has_set work line entry turn)
  at_setting line entry aim (Go next) key here known after = stays_on (at.Setting line entry next) (here, known, after.0, after.2, ap (λ (a : Aim). a.key) after.1 ∙ key)
  at_setting line entry aim (Done answer) key here known after = has_changed line entry here known

  at_unsetting : (line : ℕ) (entry : Entry) (aim : Aim) (turn : Turn Unset Ended) → aim.key ≡ entry.anchor → IsOnLine t work.tally line → IsEntry l entry → UnsetAfter l aim turn → Stays (has_unset work line entry turn)
  at_unsetting line entry aim (Go next) key here known after = stays_on (at.Unsetting line entry next) (here, known, after.0, after.2, ap (λ (a : Aim). a.key) after.1 ∙ key)
  at_unsetting line entry aim (Done answer) key here known after = has_changed line entry here known

  at_releasing : (release : Release) (at : ReleaseAt) → IsOnNode t work.tally release.node → IsRelease release → release.layout ≡ l → Stays (has_released work release.node (release_at_turned release at))
  at_releasing release release_at.Stamp here is same = stays_on (at.Releasing (record release { at = release_at.Status })) (here, record { layout = is.layout; node = is.node }, same)
  at_releasing release release_at.Status here is same =
      let tally = record work.tally { freed = work.tally.freed + 1 } in
      stays_counted tally (after_node t release.node) (past_node tally release.node here.within here.counted (let few : work.tally.freed ≤ release.node = here.freed in omega arith))

  at_status : (node x : ℕ) → IsOnNode t work.tally node → Stays (on work (saw_status t node x))
  at_status node x here = elim (x == gone_status) as (λ b. Stays (on work (cond b (at.Stamp node) (after_node t node)))) [
    | true ↦ stays_on (at.Stamp node) here
    | false ↦ stays_on (after_node t node) (stays_past node here)
  ]

  at_stamp : (node x : ℕ) → IsOnNode t work.tally node → Stays (on work (saw_stamp t node x))
  at_stamp node x here = elim (allows t x) as (λ b. Stays (on work (cond b (at.Version node) (after_node t node)))) [
    | true ↦ stays_on (at.Version node) here
    | false ↦ stays_on (after_node t node) (stays_past node here)
  ]

  at_version : (node x : ℕ) → IsOnNode t work.tally node → Stays (on work (saw_version t node x))
  at_version node x here = elim (is_worn_word x t.generation) as (λ b. Stays (on work (cond b (after_node t node) (at.Releasing (release_from l node))))) [
    | true ↦ stays_on (after_node t node) (stays_past node here)
    | false ↦ stays_on (at.Releasing (release_from l node)) (here, record { layout = terms.layout; node = here.within }, refl)
  ]

  at_counting : (node : ℕ) (none : Bool) → node < l.nodes → IsThrough t work.tally → Stays (on work (after_count t node none))
  at_counting node none inside_nodes here =
      elim (ltb (node + 1) l.nodes) as (λ b. ltb (node + 1) l.nodes ≡ b → Stays (on work (cond b (at.Counting (node + 1) none) (at.Leaving none)))) [
        | true ↦ λ more. stays_on (at.Counting (node + 1) none) (ltb-true _ _ more, here)
        | false ↦ λ last. stays_on (at.Leaving none) here
      ] refl

  stays_at : (at : WorkAt) (x : ℕ) → IsWorkAt t work.tally at → Told l t.generation (work_at_asks t at) x → ToldOfLine l (work_at_asks t at) x → WorkStays t (work_at_turned work at x)
  stays_at (at.State line) x here told line_told = at_state line x here told.fits
  stays_at (at.Reading read) x here told line_told = at_reading read x here.1 told.fits line_told here.0
  stays_at (at.Landing line entry floor) x here told line_told =
      at_landing line entry floor (floor_turned floor x) here.0 here.1 (subst (λ (k : Layout). FloorAfter k floor.key (floor_left floor) (floor_turned floor x)) here.3 (floor_stays floor x here.2 told.fits))
  stays_at (at.Walking line entry walk) x here told line_told =
      at_walking line entry walk x (walk_turned walk x) here.0 here.1 here.2
      (walks_are_looks walk x here.2.sound (walk_told t entry walk (walk_asks walk) x here.2 told))
  stays_at (at.Seeing line entry found) x here told line_told = at_seeing line entry found x here.0 here.1 here.2
  stays_at (at.Setting line entry set) x here told line_told =
      at_setting line entry (aim_of set.change) (set_turned set x) here.4 here.0 here.1
      (subst (λ (k : Layout). SetAfter k (aim_of set.change) (set_turned set x)) here.3 (sets_stay_sound set x here.2 told.fits))
  stays_at (at.Unsetting line entry unset) x here told line_told =
      at_unsetting line entry (aim_of unset.change) (unset_turned unset x) here.4 here.0 here.1
      (subst (λ (k : Layout). UnsetAfter k (aim_of unset.change) (unset_turned unset x)) here.3 (unsets_stay_sound unset x here.2 told.fits))
  stays_at (at.Stamping line entry) x here told line_told = clearing line here.0
  stays_at (at.Clearing clear) x here told line_told =
      let tally = record work.tally { applied = work.tally.applied + 1 } in
      stays_counted tally (after_line t clear.line)
      (past_line tally clear.line here.0.within (let few : work.tally.applied + work.tally.left ≤ clear.line = here.0.counted in omega arith) here.0.unfreed)
  stays_at (at.Status node) x here told line_told = at_status node x here
  stays_at (at.Stamp node) x here told line_told = at_stamp node x here
  stays_at (at.Version node) x here told line_told = at_version node x here
  stays_at (at.Releasing release) x here told line_told = at_releasing release release.at here.0 here.1 here.2
  stays_at (at.Counting node none) x here told line_told = at_counting node _ here.0 here.1
  stays_at (at.Leaving none) x here told line_told = tt

-- the floor of an anchor ends at a node of the layout
pub floor_ends : (work : Work) (line : ℕ) (entry : Entry) (floor : Floor) (x hint : ℕ) → IsWork work → work.at ≡ at.Landing line entry floor → x < 2 ^ 64 → floor_turned floor x ≡ Done hint → hint < work.terms.layout.nodes
floor_ends work line entry floor x hint is place fits ends =
    let here : IsWorkAt work.terms work.tally (at.Landing line entry floor) = subst (λ (a : WorkAt). IsWorkAt work.terms work.tally a) place is.here in
    subst (λ (l : Layout). hint < l.nodes) here.3
    (subst (λ (t : Turn Floor ℕ). FloorAfter floor.layout floor.key (floor_left floor) t) ends (floor_stays floor x here.2 fits))

pub works_stay_sound : WorksStaySound
works_stay_sound work x takes = stays_at work takes.0.terms work.at x takes.0.here takes.1 takes.2
