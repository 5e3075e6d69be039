-- A layer that has no two keys of one node has at most as many keys as nodes.
use Rattle.std.proofs.Common.{◌≡◌, ◌≢◌, ℕ, ◌<◌, Option, Some, None, refl, sym, ap, ◌∙◌}
use Rattle.layer_map.specs.Layers.{ApartIsFew}
use Rattle.layer_map.proofs.Pigeons.{different_fit}

abbrev target_of : Option ℕ → ℕ
target_of None = 0
target_of (Some n) = n

pub few_apart : ApartIsFew
few_apart nodes layer below apart m f some differ =
    let is : (i : ℕ) → i < m → layer (f i) ≡ Some (target_of (layer (f i))) =
    λ i lt. elim (layer (f i)) as (λ v. v ≢ None → v ≡ Some (target_of v)) [ None ↦ λ none. absurd (none refl) | Some n ↦ λ e. refl ] (some i lt) in
    different_fit nodes m (λ i. target_of (layer (f i))) (λ i lt. below (f i) (target_of (layer (f i))) (is i lt))
    (λ i j lt lt' same. differ i j lt lt' (apart (f i) (f j) (target_of (layer (f i))) (is i lt) (is j lt' ∙ ap Some (sym same))))
