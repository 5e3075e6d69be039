-- A turn of the end of a change, on a row: what holds of the layer, and of the marks.
use Rattle.std.proofs.Common.{◌≡◌, ◌≢◌, ℕ, ◌==◌, true, false, cond, Option, Some, None, List, refl, sym, subst}
use Rattle.std.proofs.lemmas.Bool.{eqb-true, eqb-false}
use Rattle.pm_words.specs.declared.layout.Layout.{Layout}
use Rattle.pm_words.specs.declared.machine.Turn.{Turn}
use Rattle.pm_words.specs.declared.machine.Turn.TheVariants.{Go, Done}
use Rattle.pm_words.specs.declared.fence.Fence.{Fence}
use Rattle.pm_words.specs.declared.fence.FenceAt.{FenceAt}
use Rattle.pm_words.specs.declared.fence.FenceAt.TheVariants as fence_at
use Rattle.pm_words.specs.Fences.{fence_start, fence_next}
use Rattle.pm_words.specs.Locations.{Cached, Durable}
use Rattle.pm_words.specs.Rows.{IsRow, acted}
use Rattle.pm_words.specs.Rows as rows
use Rattle.layer_map.specs.Layers.{Layer}
use Rattle.tree_law.specs.Words.{LayerWord, LayerWords, reference_of}
use Rattle.tree_law.specs.Stages.{Marks, MarksTell}
use Rattle.tree_law.specs.Marking.{IsMarkSet}
use Rattle.tree_row.specs.Rows.{layer_words}
use Rattle.tree_row.specs.RowMarks.{row_marks}
use Rattle.tree_change.specs.declared.finish.Target.{Target}
use Rattle.tree_change.specs.declared.finish.Finish.{Finish}
use Rattle.tree_change.specs.declared.finish.FinishAt.{FinishAt}
use Rattle.tree_change.specs.declared.finish.FinishAt.TheVariants as at
use Rattle.tree_change.specs.Finishes.{IsFinish, finish_asks, finish_turned, finish_at_turned, unmarks, quiet_drained, switch_drained}
use Rattle.tree_change.specs.Endings.{SureEnding, ending_at, ending_after, Happens, loads, drains, line_word, fence_effect}
use Rattle.tree_change.specs.Endings as endings
use Rattle.tree_change.specs.MarkSteps.{FinishMakes}
use Rattle.tree_change.specs.RowSteps.{EndingIn}
use Rattle.tree_change.proofs.RowSteps.{finish_acts}
use Rattle.tree_change.proofs.MarkSteps.{finish_makes_marks}
use Rattle.tree_change.proofs.ActsLaw.{finish_happens}
use Rattle.tree_update.specs.Stages.{MarksEnd, MarksAt}

-- what a fence loads and drains leaves the cached words
fence_leaves : (p : Target) (word got : ℕ) (place : FenceAt) (w s w' s' : LayerWords) → Happens (fence_effect p word place got) w s w' s' → w' ≡ w
fence_leaves p word got fence_at.Load w s w' s' happens = of (line_word p word) happens
  where
    of : (q : Option LayerWord) → Happens (loads q got) w s w' s' → w' ≡ w
    of None h = h.0
    of (Some q) h = h.1
fence_leaves p word got (fence_at.Drain value) w s w' s' happens = of (line_word p word) happens
  where
    of : (q : Option LayerWord) → Happens (drains q value) w s w' s' → w' ≡ w
    of None h = h.0
    of (Some q) h = h.0

-- the next mark goes
next_mark : (count free next : ℕ) (w : LayerWords) (m : Marks) → MarksEnd count free next w m → free ≢ 0 → (one : Marks) → IsMarkSet m one (reference_of free) 0 → MarksEnd count next 0 w one
next_mark count free next w m marks some_free one set = ((λ none. marks.1 some_free none one set), (λ some_next none m' set'. marks.2 some_free some_next one m' set set'), (λ some_next wrong. absurd (wrong refl)))

-- what a finish leaves of the marks, where it goes on and where it is done
abbrev pub MarksAfter : ℕ → Turn Finish (Unit {0}) → LayerWords → Marks → Type 0
MarksAfter count (Go g) w m = MarksAt count g g.at w m
MarksAfter count (Done answer) w m = MarksTell count m w

unmarks_after : (count : ℕ) (f : Finish) (w : LayerWords) (m : Marks) → MarksEnd count f.free f.next w m → MarksAfter count (unmarks f) w m
unmarks_after count f w m marks = elim (f.free == 0) as (λ a. (f.free == 0) ≡ a → MarksAfter count (cond a (Done tt) (Go (record f { free = f.next; next = 0; at = at.Unmark f.free }))) w m) [
  | true ↦ λ e. marks.0 (eqb-true _ _ e)
  | false ↦ λ e. λ one set. next_mark count f.free f.next w m marks (eqb-false _ _ e) one set
] refl

marks_turn : (count : ℕ) (f : Finish) (part : FinishAt) (x : ℕ) (w s w' s' : LayerWords) (m m' : Marks) → Happens (endings.effect_at f part x) w s w' s' → FinishMakes part m m' → MarksAt count f part w m → MarksAfter count (finish_at_turned f part x) w' m'
marks_turn count f at.Quiet x w s w' s' m m' happens same marks = subst (λ n. MarksAt count f (at.QuietFence fence_start) w' n) (sym same) (λ v stored. marks w' v happens.0 stored)
marks_turn count f (at.QuietFence fence) x w s w' s' m m' happens same marks =
    let leaves = fence_leaves f.quiet.target fence.word x fence.at w s w' s' happens in
    go (fence_next fence x) (subst (λ n. MarksAt count f (at.QuietFence fence) w' n) (sym same) (subst (λ v. MarksAt count f (at.QuietFence fence) v m) (sym leaves) marks))
  where
    go : (next : Option Fence) → MarksAt count f (at.QuietFence fence) w' m' → MarksAfter count (quiet_drained f next) w' m'
    go (Some fence') marks' = marks'
    go None marks' = marks'
marks_turn count f at.Switch x w s w' s' m m' happens same marks = subst (λ n. MarksEnd count f.free f.next w' n) (sym same) (marks w' happens.0)
marks_turn count f (at.SwitchFence fence) x w s w' s' m m' happens same marks =
    let leaves = fence_leaves f.switch.target fence.word x fence.at w s w' s' happens in
    go (fence_next fence x) (subst (λ n. MarksEnd count f.free f.next w' n) (sym same) (subst (λ v. MarksEnd count f.free f.next v m) (sym leaves) marks))
  where
    go : (next : Option Fence) → MarksEnd count f.free f.next w' m' → MarksAfter count (switch_drained f next) w' m'
    go (Some fence') marks' = marks'
    go None marks' = unmarks_after count f w' m' marks'
marks_turn count f (at.Unmark reference) x w s w' s' m m' happens set marks =
    unmarks_after count f w' m' (subst (λ v. MarksEnd count f.free f.next v m') (sym happens.0) (marks m' set))

-- both, in any layout that is the machine's
pub finish_on : (count nodes : ℕ) (before made : Layer) (f : Finish) (l : Layout) (words : List ℕ) → IsFinish f → f.layout ≡ l → IsRow l words → EndingIn count nodes before made l (ending_at f f.at) words → MarksAt count f f.at (layer_words l words Cached) (row_marks l words)
    → EndingIn count nodes before made l (ending_after (finish_turned f (rows.got l words (finish_asks f)))) (acted l words (finish_asks f)) × MarksAfter count (finish_turned f (rows.got l words (finish_asks f))) (layer_words l (acted l words (finish_asks f)) Cached) (row_marks l (acted l words (finish_asks f)))
finish_on count nodes before made f l words is same row sure marks = subst St same own row sure marks
  where
    St : Layout → Type 0
    St k = IsRow k words → EndingIn count nodes before made k (ending_at f f.at) words → MarksAt count f f.at (layer_words k words Cached) (row_marks k words)
        → EndingIn count nodes before made k (ending_after (finish_turned f (rows.got k words (finish_asks f)))) (acted k words (finish_asks f)) × MarksAfter count (finish_turned f (rows.got k words (finish_asks f))) (layer_words k (acted k words (finish_asks f)) Cached) (row_marks k (acted k words (finish_asks f)))

    own : St f.layout
    own row' sure' marks' =
        let l' = f.layout in
        let after = acted l' words (finish_asks f) in (
          finish_acts count nodes before made f words is row' sure',
          marks_turn count f f.at (rows.got l' words (finish_asks f)) (layer_words l' words Cached) (layer_words l' words Durable) (layer_words l' after Cached) (layer_words l' after Durable) (row_marks l' words) (row_marks l' after)
              (finish_happens f words is row'.whole) (finish_makes_marks f words is row'.whole) marks',
        )
