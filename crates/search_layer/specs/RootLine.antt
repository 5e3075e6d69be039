-- The words of the root's line behind the first: they are none of the tree's, and are drained with it.
use Rattle.std.specs.Prelude.{◌≡◌, ℕ, ◌<◌, ◌≤◌, ◌⊎◌, List, length}
use Rattle.pm_words.specs.declared.layout.Layout.{Layout}
use Rattle.pm_words.specs.declared.action.Action.{Action}
use Rattle.pm_words.specs.declared.fence.FenceAt.{FenceAt}
use Rattle.pm_words.specs.declared.fence.FenceAt.TheVariants as fence_at
use Rattle.pm_words.specs.Locations.{Root, Cached, Durable, row_words, image_words, at}
use Rattle.pm_words.specs.Rows.{acted, evicted, got}
use Rattle.tree_update.specs.tree_change.specs.declared.finish.Target.{Target}
use Rattle.tree_update.specs.tree_change.specs.declared.finish.Target.TheVariants as target
use Rattle.tree_update.specs.tree_change.specs.declared.finish.Finish.{Finish}
use Rattle.tree_update.specs.tree_change.specs.declared.finish.FinishAt.{FinishAt}
use Rattle.tree_update.specs.tree_change.specs.declared.finish.FinishAt.TheVariants as finish_at
use Rattle.tree_update.specs.declared.change.ChangeAt.{ChangeAt}
use Rattle.tree_update.specs.declared.change.ChangeAt.TheVariants as at_change
use Rattle.tree_update.specs.Stages.{Aim}
use Rattle.search_layer.specs.ChangeStages.{Changing, Making, Changed, ChangeStep, start_stage}
use Rattle.search_layer.specs.Rows.{HasSameLayer}
use Rattle.search_layer.specs.Beside.{ActsBeside}

-- this holds of the word of the root's line that a fence has in hand, by its offset, if it has one
abbrev pub HoldsWord : (ℕ → ℕ → Type 0) → Target → ℕ → FenceAt → Type 0
HoldsWord P target.Root word fence_at.Load = Unit {0}
HoldsWord P target.Root word (fence_at.Drain value) = P word value
HoldsWord P (target.Leaf leaf offset) word place = Unit {0}
HoldsWord P (target.Cell cell offset) word place = Unit {0}

abbrev pub HoldsIn : (ℕ → ℕ → Type 0) → Finish → FinishAt → Type 0
HoldsIn P f finish_at.Quiet = Unit {0}
HoldsIn P f (finish_at.QuietFence fence) = HoldsWord P f.quiet.target fence.word fence.at
HoldsIn P f finish_at.Switch = Unit {0}
HoldsIn P f (finish_at.SwitchFence fence) = HoldsWord P f.switch.target fence.word fence.at
HoldsIn P f (finish_at.Unmark reference) = Unit {0}

abbrev pub HoldsPart : (ℕ → ℕ → Type 0) → ChangeAt → Type 0
HoldsPart P (at_change.Looking look) = Unit {0}
HoldsPart P (at_change.TakingLeaf take site) = Unit {0}
HoldsPart P (at_change.FillingLeaf fill site) = Unit {0}
HoldsPart P (at_change.FindingRoom find spot leaf) = Unit {0}
HoldsPart P (at_change.ReadingCell read spot byte leaf) = Unit {0}
HoldsPart P (at_change.TakingCell take new) = Unit {0}
HoldsPart P (at_change.FillingCell fill spot free) = Unit {0}
HoldsPart P (at_change.ReadingDepth leaf outer inner) = Unit {0}
HoldsPart P (at_change.Counting count leaf outer inner) = Unit {0}
HoldsPart P (at_change.ReadingIndex cell byte leaf) = Unit {0}
HoldsPart P (at_change.Finishing finish) = HoldsIn P finish finish.at

-- it is the cached one
abbrev pub IsRootWord : Layout → List ℕ → ℕ → ℕ → Type 0
IsRootWord l words o y = (o < 8) × (at l words (Cached (Root o)) ≡ y)

abbrev pub HoldsRoot : Layout → Changing → List ℕ → Type 0
HoldsRoot l (Making part) words = HoldsPart (IsRootWord l words) part
HoldsRoot l Changed words = Unit {0}

-- Behind the first, each cached word of the line stays, and each durable one stays or becomes the cached one. So where
-- all of them are 0 they stay 0.
pub record RootLineStays (l : Layout) (words after : List ℕ) : Type 0 where
  pub cached : (o : ℕ) → 1 ≤ o → o < 8 → at l after (Cached (Root o)) ≡ at l words (Cached (Root o))
  pub durable : (o : ℕ) → 1 ≤ o → o < 8 → (at l after (Durable (Root o)) ≡ at l words (Durable (Root o))) ⊎
      (at l after (Durable (Root o)) ≡ at l words (Cached (Root o)))

abbrev pub RootBegins : Type 0
RootBegins = (l : Layout) (aim : Aim) (words : List ℕ) → HoldsRoot l (start_stage l aim) words

abbrev pub RootStepKeeps : Type 0
RootStepKeeps = (l : Layout) (aim : Aim) (words : List ℕ) (s : Changing) (a : Action) (t : Changing) →
    length words ≡ row_words l → ChangeStep l aim s a (got l words a) t → HoldsRoot l s words →
    HoldsRoot l t (acted l words a) × RootLineStays l words (acted l words a)

-- And so do rows with the same layer, the others, and whatever becomes durable by itself.
abbrev pub RootOutlasts : Type 0
RootOutlasts = (l : Layout) (words after : List ℕ) (s : Changing) → HasSameLayer l words after →
    HoldsRoot l s words → HoldsRoot l s after

abbrev pub RootOthersKeep : Type 0
RootOthersKeep = (l : Layout) (words : List ℕ) (s : Changing) (a : Action) → length words ≡ row_words l →
    ActsBeside l a → HoldsRoot l s words → HoldsRoot l s (acted l words a)

abbrev pub RootEvictionsKeep : Type 0
RootEvictionsKeep = (l : Layout) (words : List ℕ) (s : Changing) (word : ℕ) → word < image_words l →
    HoldsRoot l s words → HoldsRoot l s (evicted l words word)
