-- Which calls show a name that wasn't there before, and that they go on to do so until they are answered.
use Rattle.std.proofs.Common.{◌≡◌, ℕ, ◌+◌, ◌≤◌, refl, ap, ◌∙◌, arith}
use Rattle.std.specs.Prelude.{Option, Some, None}
use Rattle.pm_words.specs.declared.layout.Layout.{Layout}
use Rattle.pm_words.specs.declared.action.Action.{Action}
use Rattle.cat_history.specs.declared.op.Change.{Change}
use Rattle.call_stages.specs.declared.once.Once.{Once}
use Rattle.call_stages.specs.declared.once.Once.TheVariants as once
use Rattle.call_stages.specs.declared.once.Placed.{Placed}
use Rattle.call_stages.specs.Stages.{Held, Stage, Idle, Saw, Wears, Reads, Holds, Eyes, Splits, Leaves, Meets, Joins, IsLoose}
use Rattle.call_stages.specs.AnySteps.{AnyStep, on_nodes, beside}
use Rattle.index_law.proofs.Moves.{read_before}
use Rattle.call_stages.specs.Kinds.{IsClean, Look, turns_back, is_worn, wears, roams, roams_status, sees, misses, misses_read, times, learns, decides, glances, reads_on, finds_live, watches, watches_next, turns_away, steps_back, wanders, fills, lights, switches, glances_left, glances_fresh, drains_left, drains_fresh, trims, splits, meets, knows_own, knows_right, copies, takes_up, puts_down, parts, gathers, joins, glances_joined, drains_joined, retires, yields, merges, peeks, peeks_status, eyes, eyes_free, passes, loses, claims, publishes, leaves, Answers, writes, reads, is_spent, has_no_room, refuses, Step, looks, locks, locks_read, stores, commits, drains, counts, unlocks}
use Rattle.index_law.specs.Weights.{AddsName}
use Rattle.index_law.proofs.Loose.{each_loose}
use Rattle.index_core.specs.MachineLaws.{shown_by, shows}

-- one where a call is answered that its name wasn't there
abbrev pub new_if : Option ℕ → ℕ
new_if None = 1
new_if (Some value) = 0

abbrev pub told_new : Option (Once Placed) → ℕ
told_new (Some (once.Done placed)) = new_if placed.old
told_new _ = 0

pub shown_few : (old : Option (Option ℕ)) (pending : Option Change) (placed : Option ℕ) → shown_by old pending placed ≤ 1
shown_few None pending placed = omega arith
shown_few (Some (Some value)) pending placed = omega arith
shown_few (Some None) (Some change) placed = omega arith
shown_few (Some None) None (Some place) = omega arith
shown_few (Some None) None None = omega arith

pub shows_few : (s : Stage) → shows s ≤ 1
shows_few Idle = omega arith
shows_few (Saw n v w k) = omega arith
shows_few (Wears n v) = omega arith
shows_few (Reads n v sight told) = omega arith
shows_few (Holds n w h) = shown_few h.old h.pending h.placed
shows_few (Eyes n w h m v u free) = shown_few h.old None h.placed
shows_few (Splits left fresh phase) = omega arith
shows_few (Leaves left) = omega arith
shows_few (Meets n w h right) = shown_few h.old None h.placed
shows_few (Joins h left right pace) = shown_few h.old None h.placed

unshown : (old : Option (Option ℕ)) → shown_by old None None ≡ 0
unshown None = refl
unshown (Some None) = refl
unshown (Some (Some value)) = refl

shown_none : (old : Option (Option ℕ)) (pending : Option Change) (placed : Option ℕ) → pending ≡ None → placed ≡ None → shown_by old pending placed ≡ 0
shown_none old pending placed clean unplaced = (λ k. shown_by old (clean k) (unplaced k)) ∙ unshown old

clean_shows : (h : Held) → IsClean h → shown_by h.old h.pending h.placed ≡ 0
clean_shows h clean = shown_none h.old h.pending h.placed clean.pending clean.placed

counted_shows : (old : Option (Option ℕ)) (c : Change) (placed : Option ℕ) (place : ℕ) → shown_by old (Some c) placed ≤ shown_by old None (Some place)
counted_shows None c placed place = omega arith
counted_shows (Some None) c placed place = omega arith
counted_shows (Some (Some value)) c placed place = omega arith

-- a change that is pending too makes it no less
pending_shows : (old : Option (Option ℕ)) (pending : Option Change) (placed : Option ℕ) → shown_by old None placed ≤ shown_by old pending placed
pending_shows None pending placed = omega arith
pending_shows (Some (Some value)) pending placed = omega arith
pending_shows (Some None) (Some change) None = omega arith
pending_shows (Some None) (Some change) (Some place) = omega arith
pending_shows (Some None) None placed = omega arith

-- a stage that holds no node shows nothing
loose_shows : (s : Stage) → IsLoose s → shows s ≡ 0
loose_shows = each_loose (λ s. shows s ≡ 0) refl (λ n v w k. refl) (λ n v. refl) (λ n v sight told. refl)

written_shows : (old : Option ℕ) (place hops : ℕ) → shown_by (Some old) None (Some place) ≡ told_new (Some (once.Done (record { old = old; place = place; hops = hops })))
written_shows None place hops = refl
written_shows (Some value) place hops = refl

answer_shows : {l : Layout} {r : Once Placed} (h : Held) → h.pending ≡ None → Answers l h r → shown_by h.old h.pending h.placed ≤ told_new (Some r)
answer_shows h clean (writes {old = old} {place = place} {hops = hops} placed old_is) =
    let same : shown_by h.old h.pending h.placed ≡ shown_by (Some old) None (Some place) = (λ k. shown_by (old_is k) (clean k) (placed k)) in
    let told = written_shows old place hops in
    omega arith
answer_shows h clean (reads unplaced time old_is) = let none = shown_none h.old h.pending h.placed clean unplaced in omega arith
answer_shows h clean (is_spent unplaced time) = let none = shown_none h.old h.pending h.placed clean unplaced in omega arith
answer_shows h clean (has_no_room unplaced time old_is full) = let none = shown_none h.old h.pending h.placed clean unplaced in omega arith
answer_shows h clean (refuses unplaced is) = let none = shown_none h.old h.pending h.placed clean unplaced in omega arith

told_least : (r : Option (Once Placed)) → 0 ≤ told_new r
told_least r = omega arith

module _ {l : Layout} {g : ℕ} where
  look_shows : {s : Stage} {a : Action} {x : ℕ} {t : Stage} {r : Option (Once Placed)} → Look l g s a x t r → shows s ≤ shows t + told_new r
  look_shows (turns_back {s = s} loose here busy) = let none = loose_shows s loose in omega arith
  look_shows (wears {s = s} loose here free worn) = let none = loose_shows s loose in omega arith
  look_shows (roams has) = omega arith
  look_shows (roams_status here) = omega arith
  look_shows (is_worn has) = omega arith
  look_shows (sees {s = s} loose here free unworn lock) = let none = loose_shows s loose in omega arith
  look_shows (finds_live here is) = omega arith
  look_shows (watches has positive live next learnt) = omega arith
  look_shows (watches_next has low high ne live live' next leads learnt) = omega arith
  look_shows (turns_away {s = s} {r = r} loose here up) = let none = loose_shows s loose in let least = told_least r in omega arith
  look_shows (steps_back {s = s} {r = r} loose here up) = let none = loose_shows s loose in let least = told_least r in omega arith
  look_shows (wanders {s = s} {r = r} loose here up) = let none = loose_shows s loose in let least = told_least r in omega arith
  look_shows (peeks here unready) = omega arith
  look_shows (peeks_status here unready) = omega arith
  look_shows (eyes {h = h} still durable here nonzero free unworn lock) = let same = ap (λ (p : Option Change). shown_by h.old p h.placed) still.pending in omega arith
  look_shows (eyes_free here is) = omega arith
  look_shows (passes {h = h} here) = let more = pending_shows h.old h.pending h.placed in omega arith
  look_shows (loses {h = h} here other) = let more = pending_shows h.old h.pending h.placed in omega arith
  look_shows (misses other) = omega arith
  look_shows (misses_read other small) = omega arith
  look_shows (times {h = h} clean below) = let none = clean_shows h clean in omega arith
  look_shows (learns has positive unready learnt) = omega arith
  look_shows (decides {h = h} has positive clean durable about learnt decided) = let none = clean_shows h clean in omega arith
  look_shows (reads_on {s = s} {r = r} k) = let none = loose_shows s (read_before k) in let least = told_least r in omega arith
  look_shows (glances has unready) = omega arith

  -- what a call shows it goes on to show, until it is answered so, by a step on nodes
  node_shows : {s : Stage} {a : Action} {x : ℕ} {t : Stage} {r : Option (Once Placed)} → Step l g s a x t r → shows s ≤ shows t + told_new r
  node_shows (looks look) = look_shows look
  node_shows (locks same named live between) = omega arith
  node_shows (locks_read same named live between unworn taken small) = omega arith
  node_shows (stores {h = h} has positive small clean soils knows means) = let none = clean_shows h clean in omega arith
  node_shows (commits {h = h} has positive small clean durable soiled old about knows means) = let none = clean_shows h clean in omega arith
  node_shows (drains has small unready hand cleans) = omega arith
  node_shows (counts {x = x} {h = h} {c = c} durable ready pending unplaced) =
      let was : shown_by h.old h.pending h.placed ≡ shown_by h.old (Some c) h.placed = ap (λ (p : Option Change). shown_by h.old p h.placed) pending in
      let now = counted_shows h.old c h.placed x in
      omega arith
  node_shows (unlocks {h = h} next pending durable unready answers) = let told = answer_shows h pending answers in omega arith
  node_shows (claims {h = h} may here same) = let none : shown_by h.old None h.placed ≡ 0 = (λ k. shown_by (may.lacked k) None (may.unplaced k)) in omega arith
  node_shows (publishes next left fresh) = omega arith
  node_shows (leaves next) = omega arith
  node_shows (splits (fills has positive small within soils told)) = omega arith
  node_shows (splits (lights here leads)) = omega arith
  node_shows (splits (switches here small durable soiled cut told means)) = omega arith
  node_shows (splits (glances_left has learnt)) = omega arith
  node_shows (splits (glances_fresh has)) = omega arith
  node_shows (splits (drains_left has small hand cleans)) = omega arith
  node_shows (splits (drains_fresh has small hand cleans)) = omega arith
  node_shows (splits (trims here small durable soiled anchor told means)) = omega arith
  node_shows (merges (meets here same may next)) = omega arith
  node_shows (merges (knows_own has positive learnt)) = omega arith
  node_shows (merges (knows_right has positive told)) = omega arith
  node_shows (merges (copies has content small soils learnt means)) = omega arith
  node_shows (merges (takes_up has)) = omega arith
  node_shows (merges (puts_down has small hand cleans)) = omega arith
  node_shows (merges (parts {h = h} next)) = let more = pending_shows h.old h.pending h.placed in omega arith
  node_shows (merges (gathers small durable soiled told gathered)) = omega arith
  node_shows (merges (joins small durable soiled next told)) = omega arith
  node_shows (merges (glances_joined has learnt)) = omega arith
  node_shows (merges (drains_joined has small hand cleans)) = omega arith
  node_shows (merges (retires durable)) = omega arith
  node_shows (merges (yields {h = h} next durable)) = omega arith

-- so does one beside nodes
pub step_shows : {l : Layout} {g : ℕ} {s : Stage} {a : Action} {x : ℕ} {t : Stage} {r : Option (Once Placed)} → AnyStep l g s a x t r → shows s ≤ shows t + told_new r
step_shows (on_nodes step) = node_shows step
step_shows (beside none is) = omega arith

-- the store by which a put adds a name is the first that shows it
pub adds_shows : (l : Layout) (s : Stage) (a : Action) (t : Stage) → AddsName l s a t → (shows s ≡ 0) × (shows t ≡ 1)
adds_shows l s a t adds = (
  ap shows adds.was ∙ shown_none adds.before.old adds.before.pending adds.before.placed adds.unshown adds.unplaced,
  ap shows adds.is ∙ (λ k. shown_by (adds.new k) (adds.shows k) adds.after.placed),
)
