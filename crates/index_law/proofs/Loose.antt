-- Stages that hold no node.
use Rattle.std.proofs.Common.{◌≡◌, ◌≢◌, ℕ, List, false, refl, sym, subst}
use Rattle.std.specs.Prelude.{Option, Some, None}
use Rattle.pm_words.specs.declared.layout.Layout.{Layout}
use Rattle.pm_words.specs.declared.action.Action.{Action}
use Rattle.pm_words.specs.declared.action.Action.TheVariants.{Add}
use Rattle.pm_words.specs.declared.again.Again.TheVariants as again
use Rattle.call_stages.specs.declared.once.Once.{Once}
use Rattle.call_stages.specs.declared.once.Once.TheVariants as once
use Rattle.call_stages.specs.declared.once.Placed.{Placed}
use Rattle.call_stages.specs.Kinds.{clock_address, GivesUp}
use Rattle.call_stages.specs.Stages.{Stage, Sight, Held, Idle, Saw, Wears, Reads, Holds, Eyes, Splits, Leaves, Meets, Joins, IsLoose, counted, placed_in}
use Rattle.index_law.specs.Facts.{Facts}
use Rattle.index_law.specs.LoneShapes.{IsOut, has_merged}
use Rattle.call_stages.specs.Stages.{HoldsNode}
use Rattle.index_law.specs.Laws.{Counts, IsLegal, IsLegalUnheld}
use Rattle.index_law.specs.Weights.{lowered_in}
use Rattle.index_law.specs.Twins.{BacksStage}

-- what holds of each loose stage, form by form
pub each_loose : (P : Stage → Type 0) → P Idle → ((n v w : ℕ) (k : Sight) → P (Saw n v w k)) → ((n v : ℕ) → P (Wears n v)) → ((n v : ℕ) (sight : Sight) (told : Option Held) → P (Reads n v sight told))
    → (s : Stage) → IsLoose s → P s
each_loose P idle saw wears reads Idle loose = idle
each_loose P idle saw wears reads (Saw n v w k) loose = saw n v w k
each_loose P idle saw wears reads (Wears n v) loose = wears n v
each_loose P idle saw wears reads (Reads n v sight told) loose = reads n v sight told
each_loose P idle saw wears reads (Holds n w h) loose = absurd loose
each_loose P idle saw wears reads (Eyes n w h m v u free) loose = absurd loose
each_loose P idle saw wears reads (Splits left fresh phase) loose = absurd loose
each_loose P idle saw wears reads (Leaves left) loose = absurd loose
each_loose P idle saw wears reads (Meets n w h right) loose = absurd loose
each_loose P idle saw wears reads (Joins h left right pace) loose = absurd loose

pub loose_counted : (s : Stage) → IsLoose s → counted s ≡ None
loose_counted = each_loose (λ s. counted s ≡ None) refl (λ n v w k. refl) (λ n v. refl) (λ n v sight told. refl)

pub loose_counts : (l : Layout) (count : ℕ) (a : Action) (x : ℕ) (s : Stage) → IsLoose s → a ≢ Add (clock_address l) → Counts l count a x (counted s)
loose_counts l count a x s loose other = subst (Counts l count a x) (sym (loose_counted s loose)) other

pub loose_holds : (s : Stage) → IsLoose s → (m : ℕ) → HoldsNode s m → ⊥
loose_holds s loose m = each_loose (λ s. HoldsNode s m → ⊥) (λ held. held) (λ n v w k held. held) (λ n v held. held) (λ n v sight told held. held) s loose

pub loose_lowers : (l : Layout) (f : Facts) (s : Stage) → IsLoose s → lowered_in l f s ≡ 0
loose_lowers l f = each_loose (λ s. lowered_in l f s ≡ 0) refl (λ n v w k. refl) (λ n v. refl) (λ n v sight told. refl)

pub loose_backs : (l : Layout) (f : Facts) (words : List ℕ) (s : Stage) → IsLoose s → BacksStage l f words s
loose_backs l f words = each_loose (BacksStage l f words) tt (λ n v w k. tt) (λ n v. tt) (λ n v sight told. tt)

pub loose_legal : (l : Layout) (g : ℕ) (f : Facts) (caller index since : ℕ) (s : Stage) (answer : Once Placed) → IsLoose s → IsLegalUnheld g f answer
    → IsLegal l g f caller index since s (Some answer)
loose_legal l g f caller index since Idle answer loose legal = legal
loose_legal l g f caller index since (Saw n v w k) answer loose legal = legal
loose_legal l g f caller index since (Holds n w h) answer loose legal = absurd loose
loose_legal l g f caller index since (Eyes n w h m v u free) answer loose legal = absurd loose
loose_legal l g f caller index since (Splits left fresh phase) answer loose legal = absurd loose
loose_legal l g f caller index since (Wears n v) answer loose legal = legal
loose_legal l g f caller index since (Reads n v k None) answer loose legal = legal
loose_legal l g f caller index since (Reads n v k (Some h)) (once.Done answer) loose legal = absurd legal
loose_legal l g f caller index since (Reads n v k (Some h)) (once.Spent clock) loose legal = legal
loose_legal l g f caller index since (Reads n v k (Some h)) (once.Worn m word) loose legal = legal
loose_legal l g f caller index since (Reads n v k (Some h)) (once.Again why) loose legal = legal
loose_legal l g f caller index since (Leaves left) answer loose legal = absurd loose
loose_legal l g f caller index since (Meets n w h right) answer loose legal = absurd loose
loose_legal l g f caller index since (Joins h left right pace) answer loose legal = absurd loose

-- a call that goes on, or gives up
pub loose_gives : (l : Layout) (g : ℕ) (f : Facts) (caller index since : ℕ) (s : Stage) (r : Option (Once Placed)) → IsLoose s → GivesUp r
    → IsLegal l g f caller index since s r
loose_gives l g f caller index since s None loose up = tt
loose_gives l g f caller index since s (Some (once.Done answer)) loose up = absurd up
loose_gives l g f caller index since s (Some (once.Spent clock)) loose up = absurd up
loose_gives l g f caller index since s (Some (once.Worn n word)) loose up = absurd up
loose_gives l g f caller index since s (Some (once.Again (again.Hops count))) loose up = loose_legal l g f caller index since s _ loose tt
loose_gives l g f caller index since s (Some (once.Again (again.Locked n word))) loose up = absurd up
loose_gives l g f caller index since s (Some (once.Again (again.Moved n first second))) loose up = absurd up
loose_gives l g f caller index since s (Some (once.Again again.LogFull)) loose up = absurd up
loose_gives l g f caller index since s (Some (once.Again again.NoFree)) loose up = absurd up
loose_gives l g f caller index since s (Some (once.Again (again.NeedsSplit n))) loose up = absurd up
loose_gives l g f caller index since s (Some (once.Again (again.Held word))) loose up = absurd up
loose_gives l g f caller index since s (Some (once.Again (again.Epoch first second))) loose up = absurd up

-- ---- stages without a change of a name

-- a stage that is out has placed nothing and merged nothing
out_has_none : (s : Stage) → IsOut s → (placed_in s ≡ None) × (has_merged s ≡ false)
out_has_none Idle out = (refl, refl)
out_has_none (Saw n v w k) out = (refl, refl)
out_has_none (Wears n v) out = (refl, refl)
out_has_none (Reads n v sight told) out = (refl, refl)
out_has_none (Holds n w h) out = absurd out
out_has_none (Eyes n w h m v u free) out = absurd out
out_has_none (Splits left fresh phase) out = (refl, refl)
out_has_none (Leaves left) out = (refl, refl)
out_has_none (Meets n w h right) out = absurd out
out_has_none (Joins h left right pace) out = absurd out

pub out_unplaced : (s : Stage) → IsOut s → placed_in s ≡ None
out_unplaced s out = (out_has_none s out).0

pub out_unmerged : (s : Stage) → IsOut s → has_merged s ≡ false
out_unmerged s out = (out_has_none s out).1

pub loose_out : (s : Stage) → IsLoose s → IsOut s
loose_out = each_loose IsOut tt (λ n v w k. tt) (λ n v. tt) (λ n v sight told. tt)

pub loose_unplaced : (s : Stage) → IsLoose s → placed_in s ≡ None
loose_unplaced s loose = out_unplaced s (loose_out s loose)
