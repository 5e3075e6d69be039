-- Stages of calls that have made the switch of their split.
use Rattle.std.proofs.Common.{◌≡◌, true, false, refl}
use Rattle.call_stages.specs.Stages.{Stage, Idle, Saw, Wears, Reads, Holds, Eyes, Splits, Leaves, Meets, Joins, IsLoose}
use Rattle.index_law.specs.LoneShapes.{has_merged}
use Rattle.index_law.proofs.Loose.{each_loose}
use Rattle.lone_call_law.specs.Tries.{is_cut, has_retired}

pub loose_uncut : (s : Stage) → IsLoose s → is_cut s ≡ false
loose_uncut = each_loose (λ s. is_cut s ≡ false) refl (λ n v w k. refl) (λ n v. refl) (λ n v sight told. refl)

-- a call that splits doesn't merge
pub cut_unmerged : (s : Stage) → is_cut s ≡ true → has_merged s ≡ true → ⊥
cut_unmerged Idle cut merged = cc
cut_unmerged (Saw n v w k) cut merged = cc
cut_unmerged (Wears n v) cut merged = cc
cut_unmerged (Reads n v sight told) cut merged = cc
cut_unmerged (Holds n w h) cut merged = cc
cut_unmerged (Eyes n w h m v u free) cut merged = cc
cut_unmerged (Splits left fresh phase) cut merged = cc
cut_unmerged (Leaves left) cut merged = cc
cut_unmerged (Meets n w h right) cut merged = cc
cut_unmerged (Joins h left right pace) cut merged = cc

pub cut_unretired : (s : Stage) → is_cut s ≡ true → has_retired s ≡ false
cut_unretired Idle cut = refl
cut_unretired (Saw n v w k) cut = refl
cut_unretired (Wears n v) cut = refl
cut_unretired (Reads n v sight told) cut = refl
cut_unretired (Holds n w h) cut = absurd (cc)
cut_unretired (Eyes n w h m v u free) cut = absurd (cc)
cut_unretired (Splits left fresh phase) cut = refl
cut_unretired (Leaves left) cut = refl
cut_unretired (Meets n w h right) cut = absurd (cc)
cut_unretired (Joins h left right pace) cut = absurd (cc)
