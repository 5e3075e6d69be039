-- A turn answers by what it was told.
use Rattle.std.proofs.Common.{◌≡◌, ◌≢◌, ℕ, ◌+◌, ◌^◌, ◌<◌, ◌≤◌, ◌==◌, ◌&&◌, ◌↔◌, not, Bool, true, false, cond, ltb}
use Rattle.std.proofs.Common.{inl, inr, refl, sym, subst, ap, ◌∙◌, add-one, arith}
use Rattle.std.specs.Prelude.{slice_set}
use Rattle.std.proofs.lemmas.Bool.{cases_eq, eqb-true, eqb-false, eq-eqb, ltb-false, and_from}
use Rattle.pm_words.specs.Codes.{free_status, gone_status, merge_kind, untaken_lock}
use Rattle.pm_words.specs.declared.layout.Layout.{Layout}
use Rattle.pm_words.specs.declared.action.Action.TheVariants.{Store}
use Rattle.pm_words.specs.declared.machine.Turn.{Turn}
use Rattle.pm_words.specs.declared.machine.Turn.TheVariants.{Go, Done}
use Rattle.version_lock.specs.Versions.{is_worn_word}
use Rattle.data_list.specs.declared.target.Walked.{Walked}
use Rattle.data_list.specs.declared.target.Walked.TheVariants as walked
use Rattle.data_list.specs.declared.walk.Walk.{Walk}
use Rattle.data_list.specs.Walks.{walk_turned}
use Rattle.pm_alloc.specs.declared.gone.Release.{Release}
use Rattle.pm_alloc.specs.declared.gone.ReleaseAt.{ReleaseAt}
use Rattle.pm_alloc.specs.declared.gone.ReleaseAt.TheVariants as release_at
use Rattle.pm_alloc.specs.Gone.{release_from, release_at_turned}
use Rattle.tree_floor.specs.declared.floor.Floor.{Floor}
use Rattle.updater_row_law.specs.tree_update.specs.declared.set.Set.{Set}
use Rattle.updater_row_law.specs.tree_update.specs.declared.set.Unset.{Unset}
use Rattle.updater_row_law.specs.tree_update.specs.declared.change.Ended.{Ended}
use Rattle.updater_row_law.specs.tree_update.specs.Stages.{Aim}
use Rattle.updater_row_law.specs.search_layer.specs.Laws.{SetAfter, UnsetAfter}
use Rattle.updater_row_law.specs.tree_update.specs.Stages.{aim_of}
use Rattle.updater_row_law.specs.search_layer.proofs.StepLaw.{sets_stay_sound, unsets_stay_sound}
use Rattle.tree_floor.specs.Floors.{floor_turned}
use Rattle.updater_row_law.specs.tree_update.specs.Sets.{set_starts, set_turned, unset_starts, unset_turned}
use Rattle.smo_log.specs.declared.line.Entry.{Entry}
use Rattle.smo_log.specs.declared.read.LineSeen.{LineSeen}
use Rattle.smo_log.specs.declared.read.ReadLine.{ReadLine}
use Rattle.smo_log.specs.Reads.{read_turned, seen_in}
use Rattle.updater.specs.declared.terms.Terms.{Terms}
use Rattle.updater.specs.declared.terms.Tally.{Tally}
use Rattle.updater.specs.declared.terms.Found.{Found}
use Rattle.updater.specs.declared.work.Work.{Work}
use Rattle.updater.specs.declared.work.WorkAt.{WorkAt}
use Rattle.updater.specs.declared.work.WorkAt.TheVariants as at
use Rattle.updater_row_law.specs.Columns.{line_count}
use Rattle.updater_row_law.specs.RowStages.{are_same}
use Rattle.updater.specs.Works.{after_line, reads_fields, saw_state, changes, clears, changed, after_node, saw_status}
use Rattle.updater.specs.Works.{allows, saw_stamp, saw_version, after_count, on, leaves, found_at, saw_again}
use Rattle.updater.specs.Works.{has_read, has_landed, has_walked, has_set, has_unset, has_released, work_at_asks}
use Rattle.updater.specs.Works.{work_at_turned, IsOnLine, IsWorkAt, IsTerms}
use Rattle.updater.specs.Takings.{updater_address}
use Rattle.updater.specs.Events.{Heard, SaysSo, word_led, how_many, stands, was_ready, is_emptied, is_left, is_freed}
use Rattle.updater.specs.Events.{NoneFree, EndsSo, IsTold, HasLines, HasNodes, IsFoundBy, HasHeard, Heeds, WorksBegin}
use Rattle.updater.specs.Events.{WorksHeed, WorksLeave}

-- one number more is counted where it is so, and else not
counted : (test : ℕ → Bool) (n : ℕ) → test n ≡ true → how_many test (n + 1) ≡ how_many test n + 1
counted test n is = ap (how_many test) (add-one n) ∙ ap (λ b. cond b (how_many test n + 1) (how_many test n)) is

passed : (test : ℕ → Bool) (n : ℕ) → test n ≡ false → how_many test (n + 1) ≡ how_many test n
passed test n is = ap (how_many test) (add-one n) ∙ ap (λ b. cond b (how_many test n + 1) (how_many test n)) is

-- a read goes on at the same line
abbrev ReadsThere : ℕ → Turn ReadLine LineSeen → Type 0
ReadsThere line (Go read) = read.line ≡ line
ReadsThere line (Done seen) = Unit {0}

reads_there : (read : ReadLine) (x : ℕ) → ReadsThere read.line (read_turned read x)
reads_there read x =
    elim (ltb (read.offset + 1) 7) as (λ b. ReadsThere read.line
    (cond b (Go (record read { offset = read.offset + 1; words = slice_set read.words read.offset x })) (Done (seen_in (slice_set read.words read.offset x))))) [ true ↦ refl | false ↦ tt ]

module _ (h : Heard) where
  -- a line that wasn't READY
  unready : (tally : Tally) (line : ℕ) → was_ready h line ≡ false → HasLines h tally line → HasLines h tally (line + 1)
  unready tally line other lines = record {
    applied = lines.applied ∙ sym (passed (is_emptied h) line (ap (λ b. b && stands (h.walked line) (h.second line)) other));
    left = lines.left ∙ sym (passed (is_left h) line (ap (λ b. b && not (stands (h.walked line) (h.second line))) other));
  }

  -- one that is left
  left_so : (tally : Tally) (line : ℕ) → was_ready h line ≡ true → stands (h.walked line) (h.second line) ≡ false → HasLines h tally line
      → HasLines h (record tally { left = tally.left + 1 }) (line + 1)
  left_so tally line ready falls lines = record {
    applied = lines.applied ∙ sym (passed (is_emptied h) line (ap (λ b. b && stands (h.walked line) (h.second line)) ready ∙ falls));
    left = ap (λ n. n + 1) lines.left ∙ sym (counted (is_left h) line (ap (λ b. b && not (stands (h.walked line) (h.second line))) ready ∙ ap not falls));
  }

  -- one that is emptied isn't left
  unleft : (ready stood : Bool) → (ready && stood) ≡ true → (ready && not stood) ≡ false
  unleft true true is = refl
  unleft true false is = absurd (cc)
  unleft false stood is = refl

  emptied_so : (tally : Tally) (line : ℕ) → is_emptied h line ≡ true → HasLines h tally line → HasLines h (record tally { applied = tally.applied + 1 }) (line + 1)
  emptied_so tally line is lines = record {
    applied = ap (λ n. n + 1) lines.applied ∙ sym (counted (is_emptied h) line is);
    left = lines.left ∙ sym (passed (is_left h) line (unleft (was_ready h line) (stands (h.walked line) (h.second line)) is));
  }

  -- of one node more
  none_more : (none : Bool) (node : ℕ) → (none ≡ true) ↔ NoneFree h node → ((none && not (h.last node == free_status)) ≡ true) ↔ NoneFree h (node + 1)
  none_more true node so =
      elim (h.last node == free_status) as (λ b. (h.last node == free_status) ≡ b → (not b ≡ true) ↔ NoneFree h (node + 1)) [
        | true ↦ λ free. (λ no. absurd (cc), λ none. absurd (none node (omega arith) (eqb-true _ _ free)))
        | false ↦ λ other. (
          λ yes n small. elim (cases_eq n node) [
            | inl here ↦ subst (λ m. h.last m ≢ free_status) (sym here) (eqb-false _ _ other)
            | inr apart ↦ so.0 refl n (omega arith)
          ],
          λ none. refl,
        )
      ] refl
  none_more false node so = (λ no. absurd (cc), λ none. so.1 (λ n small. none n (omega arith)))

  module _ (work : Work) (terms : IsTerms work.terms) where
    abbrev t : Terms
    t = work.terms

    abbrev l : Layout
    l = work.terms.layout

    abbrev Has : Tally → WorkAt → Type 0
    Has tally at = HasHeard t h tally at

    past_line : (tally : Tally) (line : ℕ) → line < line_count l → tally.freed ≡ 0 → HasLines h tally (line + 1) → Has tally (after_line t line)
    past_line tally line within unfreed lines =
        elim (ltb (line + 1) (line_count l)) as (λ b. ltb (line + 1) (line_count l) ≡ b → Has tally (cond b (at.State (line + 1)) (at.Status 0))) [
          | true ↦ λ more. lines
          | false ↦ λ last.
              let end : line_count l ≤ line + 1 = ltb-false _ _ last in
              let same : line + 1 ≡ line_count l = omega arith in
              record { lines = subst (HasLines h tally) same lines; freed = unfreed }
        ] refl

    past_node : (tally : Tally) (node : ℕ) → node < l.nodes → HasNodes t h tally (node + 1) → Has tally (after_node t node)
    past_node tally node within nodes =
        elim (ltb (node + 1) l.nodes) as (λ b. ltb (node + 1) l.nodes ≡ b → Has tally (cond b (at.Status (node + 1)) (at.Counting 0 true))) [
          | true ↦ λ more. nodes
          | false ↦ λ last.
              let end : l.nodes ≤ node + 1 = ltb-false _ _ last in
              let same : node + 1 ≡ l.nodes = omega arith in
              (subst (HasNodes t h tally) same nodes, (λ yes n small. absurd (omega arith), λ none. refl))
        ] refl

    -- a node that isn't freed
    skips : (node : ℕ) → node < l.nodes → is_freed t h node ≡ false → HasNodes t h work.tally node → Has work.tally (after_node t node)
    skips node within kept nodes = past_node work.tally node within (record { lines = nodes.lines; freed = nodes.freed ∙ sym (passed (is_freed t h) node kept) })

    leaves_so : (line : ℕ) → IsOnLine t work.tally line → was_ready h line ≡ true → stands (h.walked line) (h.second line) ≡ false → HasLines h work.tally line
        → Heeds t h (Go (leaves work line))
    leaves_so line here ready falls lines =
        past_line (record work.tally { left = work.tally.left + 1 }) line here.within here.unfreed (left_so work.tally line ready falls lines)

    at_state : (line : ℕ) → IsOnLine t work.tally line → HasLines h work.tally line → Has work.tally (saw_state t line (h.state line))
    at_state line here lines =
        elim (was_ready h line) as (λ b. was_ready h line ≡ b → Has work.tally (cond b (at.Reading (reads_fields l line (h.state line))) (after_line t line))) [
          | true ↦ λ is. (lines, is)
          | false ↦ λ other. past_line work.tally line here.within here.unfreed (unready work.tally line other lines)
        ] refl

    at_reading : (line : ℕ) (turn : Turn ReadLine LineSeen) → ReadsThere line turn → HasLines h work.tally line → was_ready h line ≡ true → SaysSo (h.entry line) turn → Heeds t h (Go (has_read work line turn))
    at_reading line (Go read) there lines ready says = subst (λ n. HasLines h work.tally n × (was_ready h n ≡ true)) (sym there) (lines, ready)
    at_reading line (Done seen) there lines ready says = (lines, ready, sym says)

    at_landing : (line : ℕ) (entry : Entry) (turn : Turn Floor ℕ) → HasLines h work.tally line → was_ready h line ≡ true → entry ≡ h.entry line → Heeds t h (Go (has_landed work line entry turn))
    at_landing line entry (Go floor) lines ready says = (lines, ready, says)
    at_landing line entry (Done hint) lines ready says = (lines, ready, says)

    at_walking : (line : ℕ) (entry : Entry) (turn : Turn Walk Walked) → IsOnLine t work.tally line → HasLines h work.tally line → was_ready h line ≡ true → entry ≡ h.entry line → EndsSo (h.walked line) turn
        → Heeds t h (Go (has_walked work line entry turn))
    at_walking line entry (Go walk) here lines ready says ends = (lines, ready, says)
    at_walking line entry (Done (walked.Again why)) here lines ready says ends = leaves_so line here ready (ap (λ w. stands w (h.second line)) ends) lines
    at_walking line entry (Done (walked.Target target)) here lines ready says ends = (lines, ready, says, subst (λ w. IsFoundBy w (found_at target)) (sym ends) refl)

    decides : (line : ℕ) (entry : Entry) (found : Found) → HasLines h work.tally line → is_emptied h line ≡ true → entry ≡ h.entry line
        → cond {A = ℕ} (are_same found.low entry.anchor) (found.node + 1) 0 ≡ word_led (h.entry line) (h.walked line) → Has work.tally (changes t line entry found)
    decides line entry found lines is says =
        elim (are_same found.low entry.anchor) as (λ b. cond {A = ℕ} b (found.node + 1) 0 ≡ word_led (h.entry line) (h.walked line) →
        Has work.tally (cond b (at.Setting line entry (set_starts l entry.anchor found.node)) (at.Unsetting line entry (unset_starts l entry.anchor)))) [
          | true ↦ λ word. (lines, is, says, word)
          | false ↦ λ word. (lines, is, says, word)
        ]

    -- the version word is loaded again, after a walk that ended so
    at_seeing : (line : ℕ) (entry : Entry) (found : Found) (answer : Walked) → h.walked line ≡ answer → IsOnLine t work.tally line → HasLines h work.tally line → was_ready h line ≡ true
        → entry ≡ h.entry line → IsFoundBy answer found → Heeds t h (Go (saw_again work line entry found (h.second line)))
    at_seeing line entry found (walked.Target target) ends here lines ready says by =
        let word : cond {A = ℕ} (are_same found.low entry.anchor) (found.node + 1) 0 ≡ word_led (h.entry line) (h.walked line) =
        ap (λ (f : Found). cond {A = ℕ} (are_same f.low entry.anchor) (f.node + 1) 0) by ∙ ap (λ (e : Entry). cond {A = ℕ} (are_same target.low e.anchor) (target.node + 1) 0) says ∙ ap (word_led (h.entry line)) (sym ends) in
        let version : found.version ≡ target.version = ap (λ (f : Found). f.version) by in
        let same : stands (h.walked line) (h.second line) ≡ (h.second line == found.version) = ap (λ w. stands w (h.second line)) ends ∙ ap (λ v. h.second line == v) (sym version) in
        elim (h.second line == found.version) as (λ b. (h.second line == found.version) ≡ b → Heeds t h (Go (cond b (on work (changes t line entry found)) (leaves work line)))) [
          | true ↦ λ is. decides line entry found lines (and_from _ _ ready (same ∙ is)) says word
          | false ↦ λ other. leaves_so line here ready (same ∙ other) lines
        ] refl
    at_seeing line entry found (walked.Again why) ends here lines ready says by = absurd by

    has_changed : (line : ℕ) (entry : Entry) → HasLines h work.tally line → is_emptied h line ≡ true → entry ≡ h.entry line → Has work.tally (changed t line entry)
    has_changed line entry lines is says =
        elim (entry.kind == merge_kind) as (λ b. (entry.kind == merge_kind) ≡ b → Has work.tally (cond b (at.Stamping line entry) (clears t line))) [
          | true ↦ λ merge. (lines, is, says, eqb-true _ _ merge)
          | false ↦ λ other. (lines, is)
        ] refl

    at_setting : (line : ℕ) (entry : Entry) (set : Set) (turn : Turn Set Ended) → SetAfter set.change.layout (aim_of set.change) turn → HasLines h work.tally line → is_emptied h line ≡ true
        → entry ≡ h.entry line → set.change.word ≡ word_led (h.entry line) (h.walked line) → Heeds t h (Go (has_set work line entry turn))
    at_setting line entry set (Go next) after lines is says word = (lines, is, says, ap (λ (a : Aim). a.word) after.1 ∙ word)
    at_setting line entry set (Done answer) after lines is says word = has_changed line entry lines is says

    at_unsetting : (line : ℕ) (entry : Entry) (unset : Unset) (turn : Turn Unset Ended) → UnsetAfter unset.change.layout (aim_of unset.change) turn → HasLines h work.tally line
        → is_emptied h line ≡ true → entry ≡ h.entry line → unset.change.word ≡ word_led (h.entry line) (h.walked line) → Heeds t h (Go (has_unset work line entry turn))
    at_unsetting line entry unset (Go next) after lines is says word = (lines, is, says, ap (λ (a : Aim). a.word) after.1 ∙ word)
    at_unsetting line entry unset (Done answer) after lines is says word = has_changed line entry lines is says

    at_status : (node : ℕ) → node < l.nodes → HasNodes t h work.tally node → Has work.tally (saw_status t node (h.status node))
    at_status node within nodes =
        elim (h.status node == gone_status) as (λ b. (h.status node == gone_status) ≡ b → Has work.tally (cond b (at.Stamp node) (after_node t node))) [
          | true ↦ λ is. (nodes, eqb-true _ _ is)
          | false ↦ λ other. skips node within (ap (λ b. b && (allows t (h.stamp node) && not (is_worn_word (h.version node) t.generation))) other) nodes
        ] refl

    -- what is known of a node that was GONE
    gone_so : (node : ℕ) → h.status node ≡ gone_status → is_freed t h node ≡ (allows t (h.stamp node) && not (is_worn_word (h.version node) t.generation))
    gone_so node gone = ap (λ b. b && (allows t (h.stamp node) && not (is_worn_word (h.version node) t.generation))) (eq-eqb (h.status node) gone_status gone)

    at_stamp : (node : ℕ) → node < l.nodes → HasNodes t h work.tally node → h.status node ≡ gone_status → Has work.tally (saw_stamp t node (h.stamp node))
    at_stamp node within nodes gone =
        elim (allows t (h.stamp node)) as (λ b. allows t (h.stamp node) ≡ b → Has work.tally (cond b (at.Version node) (after_node t node))) [
          | true ↦ λ is. (nodes, gone, is)
          | false ↦ λ other. skips node within (gone_so node gone ∙ ap (λ b. b && not (is_worn_word (h.version node) t.generation)) other) nodes
        ] refl

    at_version : (node : ℕ) → node < l.nodes → HasNodes t h work.tally node → h.status node ≡ gone_status → allows t (h.stamp node) ≡ true → Has work.tally (saw_version t node (h.version node))
    at_version node within nodes gone allowed =
        let so : is_freed t h node ≡ not (is_worn_word (h.version node) t.generation) =
        gone_so node gone ∙ ap (λ b. b && not (is_worn_word (h.version node) t.generation)) allowed in
        elim (is_worn_word (h.version node) t.generation) as (λ b. is_worn_word (h.version node) t.generation ≡ b → Has work.tally (cond b (after_node t node) (at.Releasing (release_from l node)))) [
          | true ↦ λ worn. skips node within (so ∙ ap not worn) nodes
          | false ↦ λ fresh. (nodes, so ∙ ap not fresh)
        ] refl

    at_releasing : (release : Release) (at : ReleaseAt) → release.node < l.nodes → HasNodes t h work.tally release.node → is_freed t h release.node ≡ true
        → Heeds t h (Go (has_released work release.node (release_at_turned release at)))
    at_releasing release release_at.Stamp within nodes is = (nodes, is)
    at_releasing release release_at.Status within nodes is =
        past_node (record work.tally { freed = work.tally.freed + 1 }) release.node within (record {
          lines = record { applied = nodes.lines.applied; left = nodes.lines.left };
          freed = ap (λ n. n + 1) nodes.freed ∙ sym (counted (is_freed t h) release.node is);
        })

    at_counting : (node : ℕ) (none : Bool) → node < l.nodes → HasNodes t h work.tally l.nodes → (none ≡ true) ↔ NoneFree h (node + 1) → Has work.tally (after_count t node none)
    at_counting node none within nodes so =
        elim (ltb (node + 1) l.nodes) as (λ b. ltb (node + 1) l.nodes ≡ b → Has work.tally (cond b (at.Counting (node + 1) none) (at.Leaving none))) [
          | true ↦ λ more. (nodes, so)
          | false ↦ λ last.
              let end : l.nodes ≤ node + 1 = ltb-false _ _ last in
              let same : node + 1 ≡ l.nodes = omega arith in
              (nodes, subst (λ n. (none ≡ true) ↔ NoneFree h n) same so)
        ] refl

    heeds_at : (at : WorkAt) (x : ℕ) → IsWorkAt t work.tally at → x < 2 ^ 64 → IsTold h at x → HasHeard t h work.tally at → Heeds t h (work_at_turned work at x)
    heeds_at (at.State line) x here fits told heard = subst (λ n. Has work.tally (saw_state t line n)) (sym told) (at_state line here heard)
    heeds_at (at.Reading read) x here fits told heard = at_reading read.line (read_turned read x) (reads_there read x) heard.0 heard.1 told
    heeds_at (at.Landing line entry floor) x here fits told heard = at_landing line entry (floor_turned floor x) heard.0 heard.1 heard.2
    heeds_at (at.Walking line entry walk) x here fits told heard = at_walking line entry (walk_turned walk x) here.0 heard.0 heard.1 heard.2 told
    heeds_at (at.Seeing line entry found) x here fits told heard =
        subst (λ n. Heeds t h (Go (saw_again work line entry found n))) (sym told) (at_seeing line entry found (h.walked line) refl here.0 heard.0 heard.1 heard.2 heard.3)
    heeds_at (at.Setting line entry set) x here fits told heard = at_setting line entry set (set_turned set x) (sets_stay_sound set x here.2 fits) heard.0 heard.1 heard.2 heard.3
    heeds_at (at.Unsetting line entry unset) x here fits told heard = at_unsetting line entry unset (unset_turned unset x) (unsets_stay_sound unset x here.2 fits) heard.0 heard.1 heard.2 heard.3
    heeds_at (at.Stamping line entry) x here fits told heard = (heard.0, heard.1)
    heeds_at (at.Clearing clear) x here fits told heard =
        past_line (record work.tally { applied = work.tally.applied + 1 }) clear.line here.0.within here.0.unfreed (emptied_so work.tally clear.line heard.1 heard.0)
    heeds_at (at.Status node) x here fits told heard = subst (λ n. Has work.tally (saw_status t node n)) (sym told) (at_status node here.within heard)
    heeds_at (at.Stamp node) x here fits told heard = subst (λ n. Has work.tally (saw_stamp t node n)) (sym told) (at_stamp node here.within heard.0 heard.1)
    heeds_at (at.Version node) x here fits told heard = subst (λ n. Has work.tally (saw_version t node n)) (sym told) (at_version node here.within heard.0 heard.1 heard.2)
    heeds_at (at.Releasing release) x here fits told heard = at_releasing release release.at here.0.within heard.0 heard.1
    heeds_at (at.Counting node none) x here fits told heard =
        subst (λ n. Has work.tally (after_count t node (none && not (n == free_status)))) (sym told)
        (at_counting node (none && not (h.last node == free_status)) here.0 heard.0 (none_more none node heard.1))
    heeds_at (at.Leaving none) x here fits told heard = record { applied = heard.0.lines.applied; left = heard.0.lines.left; freed = heard.0.freed; none_free = heard.1 }

pub works_begin : WorksBegin
works_begin l generation stamp release h = record { applied = refl; left = refl }

pub works_heed : WorksHeed
works_heed work h x takes told heard = heeds_at h work takes.0.terms work.at x takes.0.here takes.1.fits told heard

pub works_leave : WorksLeave
works_leave work x turned is = leaves_at work.at is
  where
    leaves_at : (at : WorkAt) → work_at_turned work at x ≡ Done turned → work_at_asks work.terms at ≡ Store (updater_address work.terms.layout) untaken_lock
    leaves_at (at.State line) is = absurd (cc)
    leaves_at (at.Reading read) is = absurd (cc)
    leaves_at (at.Landing line entry floor) is = absurd (cc)
    leaves_at (at.Walking line entry walk) is = absurd (cc)
    leaves_at (at.Seeing line entry found) is = absurd (cc)
    leaves_at (at.Setting line entry set) is = absurd (cc)
    leaves_at (at.Unsetting line entry unset) is = absurd (cc)
    leaves_at (at.Stamping line entry) is = absurd (cc)
    leaves_at (at.Clearing clear) is = absurd (cc)
    leaves_at (at.Status node) is = absurd (cc)
    leaves_at (at.Stamp node) is = absurd (cc)
    leaves_at (at.Version node) is = absurd (cc)
    leaves_at (at.Releasing release) is = absurd (cc)
    leaves_at (at.Counting node none) is = absurd (cc)
    leaves_at (at.Leaving none) is = refl
