-- What a delete is while it merges: it has its place, and no change that isn't counted.
use Rattle.std.proofs.Common.{◌≡◌, ℕ, Bool, List, Option, Some, None, refl, sym, ap, ◌∙◌}
use Rattle.call_stages.specs.Stages.{Held, Grip, Pace, Stage, Idle, Saw, Wears, Reads, Holds, Eyes, Splits, Leaves, Meets, Joins, counted, pending_in, placed_in}
use Rattle.call_stages.specs.Kinds.{IsStill}
use Rattle.split_merge.specs.declared.uniting.Union.{Union}
use Rattle.split_merge.specs.declared.joining.JoinAt.{JoinAt}
use Rattle.split_merge.specs.declared.joining.JoinAt.TheVariants as join_at
use Rattle.split_merge.specs.declared.merging.Merge.{Merge}
use Rattle.split_merge.specs.declared.merging.MergeAt.{MergeAt}
use Rattle.split_merge.specs.declared.merging.MergeAt.TheVariants as merge_at
use Rattle.split_merge.specs.OfSplits.{StandsFor}
use Rattle.split_merge.specs.JoinStages.{knowing, join_at_stage}
use Rattle.split_merge.specs.MergeStages.{merge_at_footing, merge_footing}
use Rattle.node_ops.specs.declared.call.Call.{Call}
use Rattle.node_ops.specs.declared.finish.Finish.{Finish}
use Rattle.node_ops.specs.declared.finish.FinishAt.{FinishAt}
use Rattle.node_ops.specs.declared.finish.FinishAt.TheVariants as finish_at
use Rattle.node_ops.specs.DelSteps.{goes_on, merges_at}
use Rattle.node_ops.specs.CallStages.{has_place, del_stage, finish_stage, finish_at_held}
use Rattle.node_ops.specs.Asked.{IsAbout}
use Rattle.node_ops.specs.Endings.{limit_in}
use Rattle.node_ops.proofs.OnlyRead.{uncounted}

-- The stage is one of the merge of a node that is held as h says: it holds that node alone, or the next one too.
abbrev pub IsOfMerge : Held → Stage → Type 0
IsOfMerge h (Holds n w k) = StandsFor h k
IsOfMerge h (Eyes n w k m v u free) = StandsFor h k
IsOfMerge h (Meets n w k right) = StandsFor h k
IsOfMerge h (Joins k left right pace) = StandsFor h k
IsOfMerge h _ = ⊥

-- what is known beside makes no difference
stands_knowing : (h : Held) (seen dirty : List (ℕ × ℕ)) (hand : Option (ℕ × ℕ)) → StandsFor h (knowing seen dirty hand h)
stands_knowing h seen dirty hand = record { name = refl; limit = refl; old = refl; pending = refl; ready = refl; placed = refl }

joins_of_merge : (h : Held) (union : Union) (at : JoinAt) → IsStill h → IsOfMerge h (join_at_stage h union at)
joins_of_merge h union (join_at.Open machine) is = stands_knowing h _ _ _
joins_of_merge h union (join_at.Load left word) is = stands_knowing h _ _ _
joins_of_merge h union (join_at.Copy left word value) is = stands_knowing h _ _ _
joins_of_merge h union (join_at.Print word) is = stands_knowing h _ _ _
joins_of_merge h union (join_at.FenceCopies first fence) is = stands_knowing h _ _ _
joins_of_merge h union join_at.Bitmap is = stands_knowing h _ _ _
joins_of_merge h union (join_at.FenceBitmap fence) is = stands_knowing h _ _ _
joins_of_merge h union join_at.Switch is = stands_knowing h _ _ _
joins_of_merge h union (join_at.FenceSwitch fence) is = stands_knowing h _ _ _
joins_of_merge h union join_at.Retire is = stands_knowing h _ _ _
joins_of_merge h union join_at.Prev is = stands_knowing h _ _ _
joins_of_merge h union join_at.NextPrev is = stands_knowing h _ _ _
joins_of_merge h union (join_at.Ready ready) is = stands_knowing h _ _ _
joins_of_merge h union join_at.UnlockRight is = stands_knowing h _ _ _
joins_of_merge h union join_at.Unlock is = record { name = refl; limit = refl; old = refl; pending = sym is.pending; ready = sym is.ready; placed = refl }

pub of_merge : (h : Held) (merge : Merge) → IsStill h → IsOfMerge h (merge_footing h merge).stage
of_merge h merge is = at merge.at
  where
    at : (at : MergeAt) → IsOfMerge h (merge_at_footing h merge at).stage
    at merge_at.Bitmap = record { name = refl; limit = refl; old = refl; pending = refl; ready = refl; placed = refl }
    at (merge_at.Next own) = stands_knowing h _ _ _
    at (merge_at.Version near) = stands_knowing h _ _ _
    at (merge_at.Lock near version locked) = stands_knowing h _ _ _
    at (merge_at.Head near locked head count) = stands_knowing h _ _ _
    at (merge_at.Prints near locked head prints count) = stands_knowing h _ _ _
    at (merge_at.Join join) = joins_of_merge h join.union join.at is
    at (merge_at.Part near locked bitmap) = stands_knowing h _ _ _
    at (merge_at.Leave near) = stands_knowing h _ _ _

-- So what holds of its stages that hold something holds of it.
merge_is : (P : Stage → Type 0) (h : Held) → ((n w : ℕ) (k : Held) → StandsFor h k → P (Holds n w k))
    → ((n w : ℕ) (k : Held) (m v u : ℕ) (free : Bool) → StandsFor h k → P (Eyes n w k m v u free))
    → ((n w : ℕ) (k : Held) (right : Grip) → StandsFor h k → P (Meets n w k right))
    → ((k : Held) (left right : Grip) (pace : Pace) → StandsFor h k → P (Joins k left right pace))
    → (s : Stage) → IsOfMerge h s → P s
merge_is P h holds eyes meets joins (Holds n w k) is = holds n w k is
merge_is P h holds eyes meets joins (Eyes n w k m v u free) is = eyes n w k m v u free is
merge_is P h holds eyes meets joins (Meets n w k right) is = meets n w k right is
merge_is P h holds eyes meets joins (Joins k left right pace) is = joins k left right pace is
merge_is P h holds eyes meets joins Idle is = absurd is
merge_is P h holds eyes meets joins (Saw n v w k) is = absurd is
merge_is P h holds eyes meets joins (Wears n v) is = absurd is
merge_is P h holds eyes meets joins (Reads n v sight told) is = absurd is
merge_is P h holds eyes meets joins (Splits left fresh phase) is = absurd is
merge_is P h holds eyes meets joins (Leaves left) is = absurd is

-- it has the place and the limit of its call,
pub merge_placed : (h : Held) (s : Stage) → IsOfMerge h s → placed_in s ≡ h.placed
merge_placed h s is =
    merge_is (λ (t : Stage). placed_in t ≡ h.placed) h (λ n w k stands. stands.placed)
    (λ n w k m v u free stands. stands.placed) (λ n w k right stands. stands.placed)
    (λ k left right pace stands. stands.placed) s is

pub merge_limited : (h : Held) (s : Stage) → IsOfMerge h s → limit_in s ≡ h.limit
merge_limited h s is =
    merge_is (λ (t : Stage). limit_in t ≡ h.limit) h (λ n w k stands. stands.limit)
    (λ n w k m v u free stands. stands.limit) (λ n w k right stands. stands.limit)
    (λ k left right pace stands. stands.limit) s is

-- no change that its node shows, and none to count,
pub merge_unpending : (h : Held) (s : Stage) → IsStill h → IsOfMerge h s → pending_in s ≡ None
merge_unpending h s still is =
    merge_is (λ (t : Stage). pending_in t ≡ None) h (λ n w k stands. stands.pending ∙ still.pending)
    (λ n w k m v u free stands. refl) (λ n w k right stands. refl) (λ k left right pace stands. refl) s is

pub merge_uncounted : (h : Held) (s : Stage) → IsStill h → IsOfMerge h s → counted s ≡ None
merge_uncounted h s still is = uncounted s (merge_unpending h s still is)

-- and what it holds it holds for its name
pub merge_about : (h : Held) (s : Stage) → IsOfMerge h s → IsAbout h.name s
merge_about h s is =
    merge_is (IsAbout h.name) h (λ n w k stands. stands.name) (λ n w k m v u free stands. stands.name)
    (λ n w k right stands. stands.name) (λ k left right pace stands. stands.name) s is

-- once its change has its place
pub placed_still : (call : Call) (old : Option ℕ) (place : ℕ) → IsStill (has_place call old place)
placed_still call old place = record { pending = refl; ready = refl }

pub merging_stage : (call : Call) (old : Option ℕ) (place : ℕ) (merge : Merge) → IsOfMerge (has_place call old place) (merge_footing (has_place call old place) merge).stage
merging_stage call old place merge = of_merge (has_place call old place) merge (placed_still call old place)

-- with a line or without, the end of a write stands as it does alone
pub goes_on_stage : (finish : Finish) (line : Option ℕ) → del_stage (goes_on finish line) ≡ finish_stage finish
goes_on_stage finish None = refl
goes_on_stage finish (Some number) = at finish.at refl
  where
    at : (at : FinishAt) → finish.at ≡ at → del_stage (merges_at finish number at) ≡ finish_stage finish
    at (finish_at.Fence first fence) is = refl
    at finish_at.Add is = refl
    at (finish_at.Unlock place) is = ap (λ (at : FinishAt). Holds finish.call.node finish.hold.locked (finish_at_held finish at)) (sym is)
