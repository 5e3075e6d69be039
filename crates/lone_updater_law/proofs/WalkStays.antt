-- The walk of a turn that is alone stays on its way, and no line is left.
use Rattle.std.proofs.Common.{◌≡◌, ℕ, ◌+◌, ◌<◌, ◌==◌, ◌&&◌, not, Bool, true, false, cond, List, refl, sym, subst, ap}
use Rattle.std.proofs.Common.{◌∙◌}
use Rattle.std.proofs.lemmas.Bool.{eq-eqb}
use Rattle.std.proofs.lemmas.List.{set-get_or}
use Rattle.pm_words.specs.Codes.{free_status}
use Rattle.pm_words.specs.declared.layout.Layout.{Layout}
use Rattle.pm_words.specs.declared.machine.Turn.{Turn}
use Rattle.pm_words.specs.declared.machine.Turn.TheVariants.{Go, Done}
use Rattle.pm_words.specs.Rows.{acted, got}
use Rattle.data_node.specs.Lists.{number_of}
use Rattle.data_list.specs.declared.target.Walked.{Walked}
use Rattle.data_list.specs.declared.target.Walked.TheVariants as walked
use Rattle.data_list.specs.declared.walk.Walk.{Walk}
use Rattle.data_list.specs.Walks.{walk_from, walk_asks, walk_at_asks, walk_turned, IsWalkAt}
use Rattle.data_list.specs.Still.{Nodes, AreQuiet, IsOnWay, loaded, StaysOnWay}
use Rattle.data_list.proofs.Comings.{each_comes}
use Rattle.data_list.proofs.StillWalk.{begins_on_way, walks_come_there}
use Rattle.index_law.proofs.Rows.{version_in-here}
use Rattle.pm_alloc.specs.declared.gone.Release.{Release}
use Rattle.pm_alloc.specs.declared.gone.ReleaseAt.{ReleaseAt}
use Rattle.pm_alloc.specs.declared.gone.ReleaseAt.TheVariants as release_at
use Rattle.pm_alloc.specs.Gone.{release_from, release_at_turned}
use Rattle.tree_floor.specs.declared.floor.Floor.{Floor}
use Rattle.index_layer_law.specs.tree_update.specs.declared.set.Set.{Set}
use Rattle.index_layer_law.specs.tree_update.specs.declared.set.Unset.{Unset}
use Rattle.index_layer_law.specs.tree_update.specs.declared.change.Ended.{Ended}
use Rattle.tree_floor.specs.Floors.{floor_turned}
use Rattle.index_layer_law.specs.tree_update.specs.Sets.{set_starts, set_turned, unset_starts, unset_turned}
use Rattle.smo_log.specs.declared.line.Entry.{Entry}
use Rattle.smo_log.specs.declared.read.LineSeen.{LineSeen}
use Rattle.smo_log.specs.declared.read.ReadLine.{ReadLine}
use Rattle.smo_log.specs.Reads.{read_turned}
use Rattle.index_layer_law.specs.updater_row_law.specs.RowStages.{RowStage, Lands, HasTarget}
use Rattle.updater.specs.declared.terms.Terms.{Terms}
use Rattle.updater.specs.declared.terms.Turned.{Turned}
use Rattle.updater.specs.declared.terms.Found.{Found}
use Rattle.updater.specs.declared.work.Work.{Work}
use Rattle.updater.specs.declared.work.WorkAt.{WorkAt}
use Rattle.updater.specs.declared.work.WorkAt.TheVariants as at
use Rattle.updater.specs.Laws.{WorkStays}
use Rattle.updater.specs.Works.{work_at_asks, after_line, reads_fields, changes, clears, changed, after_node, on}
use Rattle.updater.specs.Works.{leaves, saw_again, has_read, has_landed, has_walked, has_set, has_unset, has_released}
use Rattle.updater.specs.Works.{work_at_turned, IsWalkTo, IsTerms, IsWorkAt}
use Rattle.updater.specs.Steps.{line_of, target_of, release_stage, work_at_stage, stage_after}
use Rattle.lone_call_law.specs.There.{nodes_in}
use Rattle.lone_call_law.proofs.There.{told_loaded, walk_loads}
use Rattle.lone_updater_law.specs.Laws.{WalkStands}
use Rattle.lone_updater_law.proofs.MarkSteps.{Handles}

-- what its walk is told
walk_told : (terms : Terms) (entry : Entry) (walk : Walk) (words : List ℕ) (x : ℕ) → IsWalkTo terms entry walk → x ≡ got terms.layout words (walk_asks walk) → x ≡ loaded (nodes_in terms.layout words) walk.node walk.at
walk_told terms entry walk words x to told =
    let l : Layout = terms.layout in
    told ∙ ap (λ (k : Layout). got l words (walk_at_asks k walk.node walk.at)) to.layout
    ∙ told_loaded l terms.generation words walk walk.at (subst (λ (k : Layout). walk.node < k.nodes) to.layout to.sound.node)
    (subst (λ (g : ℕ). IsWalkAt l g walk.key walk.at) to.generation (subst (λ (k : Layout). IsWalkAt k walk.generation walk.key walk.at) to.layout to.sound.here))

-- so its walk stays on its way
pub walk_goes : (terms : Terms) (entry : Entry) (walk : Walk) (words : List ℕ) (x hops : ℕ) → IsWalkTo terms entry walk → AreQuiet terms.layout terms.generation (nodes_in terms.layout words) → x ≡ got terms.layout words (walk_asks walk)
    → IsOnWay terms.layout (nodes_in terms.layout words) hops walk → StaysOnWay terms.layout (nodes_in terms.layout words) hops walk.key (walk_turned walk x)
walk_goes terms entry walk words x hops to quiet told way =
    let l : Layout = terms.layout in
    subst (λ n. StaysOnWay l (nodes_in l words) hops walk.key (walk_turned walk n)) (sym (walk_told terms entry walk words x to told))
    (walks_come_there l terms.generation (nodes_in l words) hops walk quiet.quiet to.layout to.generation way)

-- the words after a load
walk_same : (terms : Terms) (entry : Entry) (walk : Walk) (words : List ℕ) → IsWalkTo terms entry walk → acted terms.layout words (walk_asks walk) ≡ words
walk_same terms entry walk words to =
    let l : Layout = terms.layout in
    ap (λ (k : Layout). acted l words (walk_at_asks k walk.node walk.at)) to.layout ∙ walk_loads l words walk.node walk.at

module _ (work : Work) (after : List ℕ) where
  abbrev t : Terms
  t = work.terms

  abbrev l : Layout
  l = work.terms.layout

  -- its walk stands there, and from that stage no line is left
  abbrev pub Goes : RowStage → WorkAt → Type 0
  Goes s at = WalkStands l after at × Handles s (work_at_stage t at)

  abbrev pub GoesAfter : RowStage → Turn Work Turned → Type 0
  GoesAfter s (Go next) = WalkStands l after next.at × Handles s (stage_after (Go next))
  GoesAfter s (Done answer) = Handles s (stage_after (Done answer))

  one_of : (s : RowStage) (b : Bool) (one other : WorkAt) → Goes s one → Goes s other → Goes s (cond b one other)
  one_of s true one other here there = here
  one_of s false one other here there = there

  -- from a stage that has no line in hand
  past_line : (s : RowStage) (line : ℕ) → ((u : RowStage) → Handles s u) → Goes s (after_line t line)
  past_line s line free = one_of s _ (at.State (line + 1)) (at.Status 0) (tt, free _) (tt, free _)

  past_node : (s : RowStage) (node : ℕ) → ((u : RowStage) → Handles s u) → Goes s (after_node t node)
  past_node s node free = one_of s _ (at.Status (node + 1)) (at.Counting 0 true) (tt, free _) (tt, free _)

  past_change : (s : RowStage) (line : ℕ) (entry : Entry) → ((u : RowStage) → Handles s u) → Goes s (changed t line entry)
  past_change s line entry free = one_of s _ (at.Stamping line entry) (clears t line) (tt, free _) (tt, free _)

  at_reading : (s : RowStage) (line : ℕ) (turn : Turn ReadLine LineSeen) → ((u : RowStage) → Handles s u) → GoesAfter s (Go (has_read work line turn))
  at_reading s line (Go read) free = (tt, free _)
  at_reading s line (Done seen) free = (tt, free _)

  at_landing : (line : ℕ) (entry : Entry) (turn : Turn Floor ℕ) → AreQuiet l t.generation (nodes_in l after) → WorkStays t (Go (has_landed work line entry turn)) → GoesAfter (Lands (line_of line entry)) (Go (has_landed work line entry turn))
  at_landing line entry (Go floor) quiet sound = (tt, tt)
  at_landing line entry (Done hint) quiet sound =
      let f : Nodes = nodes_in l after in
      let some : 0 < l.nodes = t_some sound.0.terms in
      let walk : Walk = walk_from l t.generation hint entry.anchor in
      let comes = each_comes l t.generation f (number_of walk.key) hint quiet sound.0.here.2.sound.node in
      ((comes.0, begins_on_way l t.generation f comes.0 walk quiet.quiet some refl refl comes.1), tt)
    where
      t_some : IsTerms t → 0 < l.nodes
      t_some is = is.layout.nodes.0

  at_walking : (line : ℕ) (entry : Entry) (hops : ℕ) (walk : Walk) (turn : Turn Walk Walked) → StaysOnWay l (nodes_in l after) hops walk.key turn → GoesAfter (Lands (line_of line entry)) (Go (has_walked work line entry turn))
  at_walking line entry hops walk (Go next) way = ((hops, way), tt)
  at_walking line entry hops walk (Done (walked.Again why)) way = absurd way
  at_walking line entry hops walk (Done (walked.Target target)) way = (way.2, tt)

  at_seeing : (line : ℕ) (entry : Entry) (found : Found) (x : ℕ) → x ≡ found.version → GoesAfter (HasTarget (line_of line entry) (target_of found)) (Go (saw_again work line entry found x))
  at_seeing line entry found x same =
      let s : RowStage = HasTarget (line_of line entry) (target_of found) in
      subst (λ b. GoesAfter s (Go (cond b (on work (changes t line entry found)) (leaves work line)))) (sym (eq-eqb x found.version same))
      (one_of s _ (at.Setting line entry (set_starts l entry.anchor found.node)) (at.Unsetting line entry (unset_starts l entry.anchor)) (tt, tt) (tt, tt))

  at_setting : (s : RowStage) (line : ℕ) (entry : Entry) (turn : Turn Set Ended) → ((u : RowStage) → Handles s u) → GoesAfter s (Go (has_set work line entry turn))
  at_setting s line entry (Go set) free = (tt, free _)
  at_setting s line entry (Done answer) free = past_change s line entry free

  at_unsetting : (s : RowStage) (line : ℕ) (entry : Entry) (turn : Turn Unset Ended) → ((u : RowStage) → Handles s u) → GoesAfter s (Go (has_unset work line entry turn))
  at_unsetting s line entry (Go unset) free = (tt, free _)
  at_unsetting s line entry (Done answer) free = past_change s line entry free

  at_releasing : (release : Release) (part : ReleaseAt) → GoesAfter (release_stage part release.node) (Go (has_released work release.node (release_at_turned release part)))
  at_releasing release release_at.Stamp = (tt, tt)
  at_releasing release release_at.Status = past_node (release_stage release_at.Status release.node) release.node (λ u. tt)

abbrev row_after : Work → List ℕ → WorkAt → List ℕ
row_after work words at = acted work.terms.layout words (work_at_asks work.terms at)

abbrev stage_at : Work → WorkAt → RowStage
stage_at work at = work_at_stage work.terms at

pub walk_after : (work : Work) (at : WorkAt) (words : List ℕ) (x : ℕ) → IsWorkAt work.terms work.tally at → WorkStays work.terms (work_at_turned work at x)
    → AreQuiet work.terms.layout work.terms.generation (nodes_in work.terms.layout words) → x ≡ got work.terms.layout words (work_at_asks work.terms at) → WalkStands work.terms.layout words at
    → GoesAfter work (acted work.terms.layout words (work_at_asks work.terms at)) (work_at_stage work.terms at) (work_at_turned work at x)
walk_after work (at.State line) words x here sound quiet told walk =
    one_of work (row_after work words (at.State line)) (stage_at work (at.State line)) _ (at.Reading (reads_fields work.terms.layout line x)) (after_line work.terms line) (tt, tt) (past_line work (row_after work words (at.State line)) (stage_at work (at.State line)) line (λ u. tt))
walk_after work (at.Reading read) words x here sound quiet told walk = at_reading work (row_after work words (at.Reading read)) (stage_at work (at.Reading read)) read.line (read_turned read x) (λ u. tt)
walk_after work (at.Landing line entry floor) words x here sound quiet told walk =
    let same : acted work.terms.layout words (work_at_asks work.terms (at.Landing line entry floor)) ≡ words = set-get_or words _ 0 in
    subst (λ ws. GoesAfter work ws (Lands (line_of line entry)) (Go (has_landed work line entry (floor_turned floor x)))) (sym same)
    (at_landing work words line entry (floor_turned floor x) quiet sound)
walk_after work (at.Walking line entry walk) words x here sound quiet told stands =
    subst (λ ws. GoesAfter work ws (Lands (line_of line entry)) (Go (has_walked work line entry (walk_turned walk x)))) (sym (walk_same work.terms entry walk words here.2))
    (at_walking work words line entry stands.0 walk (walk_turned walk x) (walk_goes work.terms entry walk words x stands.0 here.2 quiet told stands.1))
walk_after work (at.Seeing line entry found) words x here sound quiet told walk =
    at_seeing work (row_after work words (at.Seeing line entry found)) line entry found x (told ∙ sym (version_in-here work.terms.layout words found.node here.2) ∙ sym walk)
walk_after work (at.Setting line entry set) words x here sound quiet told walk = at_setting work (row_after work words (at.Setting line entry set)) (stage_at work (at.Setting line entry set)) line entry (set_turned set x) (λ u. tt)
walk_after work (at.Unsetting line entry unset) words x here sound quiet told walk = at_unsetting work (row_after work words (at.Unsetting line entry unset)) (stage_at work (at.Unsetting line entry unset)) line entry (unset_turned unset x) (λ u. tt)
walk_after work (at.Stamping line entry) words x here sound quiet told walk = (tt, tt)
walk_after work (at.Clearing clear) words x here sound quiet told walk = past_line work (row_after work words (at.Clearing clear)) (stage_at work (at.Clearing clear)) clear.line (λ u. tt)
walk_after work (at.Status node) words x here sound quiet told walk = one_of work (row_after work words (at.Status node)) (stage_at work (at.Status node)) _ (at.Stamp node) (after_node work.terms node) (tt, tt) (past_node work (row_after work words (at.Status node)) (stage_at work (at.Status node)) node (λ u. tt))
walk_after work (at.Stamp node) words x here sound quiet told walk = one_of work (row_after work words (at.Stamp node)) (stage_at work (at.Stamp node)) _ (at.Version node) (after_node work.terms node) (tt, tt) (past_node work (row_after work words (at.Stamp node)) (stage_at work (at.Stamp node)) node (λ u. tt))
walk_after work (at.Version node) words x here sound quiet told walk =
    one_of work (row_after work words (at.Version node)) (stage_at work (at.Version node)) _ (after_node work.terms node) (at.Releasing (release_from work.terms.layout node)) (past_node work (row_after work words (at.Version node)) (stage_at work (at.Version node)) node (λ u. tt)) (tt, tt)
walk_after work (at.Releasing release) words x here sound quiet told walk = at_releasing work (row_after work words (at.Releasing release)) release release.at
walk_after work (at.Counting node none) words x here sound quiet told walk =
    one_of work (row_after work words (at.Counting node none)) (stage_at work (at.Counting node none)) _ (at.Counting (node + 1) (none && not (x == free_status))) (at.Leaving (none && not (x == free_status))) (tt, tt) (tt, tt)
walk_after work (at.Leaving none) words x here sound quiet told walk = tt
