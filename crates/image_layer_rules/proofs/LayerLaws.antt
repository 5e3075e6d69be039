-- The laws of images that are sound by all rules.
use Rattle.std.proofs.Common.{ℕ, List}
use Rattle.pm_words.specs.declared.layout.Layout.{Layout}
use Rattle.pm_words.specs.Images.{IsImage}
use Rattle.pm_words.specs.Locations.{Word, Root}
use Rattle.pm_words.specs.Offsets.{reference_offset}
use Rattle.image_rules.specs.Sound.{IsSound}
use Rattle.image_layer_rules.specs.Rules.{BreaksTree, is_wrong, is_reached_twice, reaches_its_root, has_many, is_uncovered}
use Rattle.image_layer_rules.specs.Sound.{BreaksAny, IsSoundByAll, in_image, in_layer}
use Rattle.image_layer_rules.specs.Laws.{KeepsLayerRules, SoundIsKept}
use Rattle.image_layer_rules.proofs.RightLemmas.{rule_on_tree}
use Rattle.image_layer_rules.proofs.CountLemmas.{rule_on_count}
use Rattle.image_layer_rules.proofs.CoverLaw.{keys_if, rule_on_cover, cover_tells_keys}

-- which rules on the tree there are
tree_kept : (l : Layout) (image : List ℕ) → ¬ BreaksTree l image 10 → ¬ BreaksTree l image 11 → ¬ BreaksTree l image 12 → (rule : ℕ) → ¬ BreaksTree l image rule
tree_kept l image ten eleven twelve rule (is_wrong q way wrong) = ten (is_wrong q way wrong)
tree_kept l image ten eleven twelve rule (is_reached_twice x y a b twice) = ten (is_reached_twice x y a b twice)
tree_kept l image ten eleven twelve rule (reaches_its_root x b way some_child same) = ten (reaches_its_root x b way some_child same)
tree_kept l image ten eleven twelve rule (has_many many) = eleven (has_many many)
tree_kept l image ten eleven twelve rule (is_uncovered key node differ) = twelve (is_uncovered key node differ)

keeps_any : (l : Layout) (image : List ℕ) → IsSound l image → ((rule : ℕ) → ¬ BreaksTree l image rule) → (rule position : ℕ) (w : Word) → ¬ BreaksAny l image rule position w
keeps_any l image sound kept rule position w (in_image breaks) = sound rule position w breaks
keeps_any l image sound kept rule position w (in_layer breaks) = kept rule breaks

pub sound_keeps_layer : (l : Layout) (image : List ℕ) → IsImage l image → IsSoundByAll l image → IsSound l image × KeepsLayerRules l image
sound_keeps_layer l image is all =
    let kept : (rule : ℕ) → ¬ BreaksTree l image rule = λ rule breaks. all rule 0 (Root reference_offset) (in_layer breaks) in
    let sound : IsSound l image = λ rule position w breaks. all rule position w (in_image breaks) in
    let order = (rule_on_tree l image is).0 (kept 10) in (
      sound,
      record {
        row = order.lawful;
        keys = keys_if l image order;
        few = (rule_on_count l image is (kept 10)).0 (kept 11);
        covered = (rule_on_cover l image is sound (kept 10)).0 (kept 12);
      },
    )

pub layer_makes_sound : (l : Layout) (image : List ℕ) → IsImage l image → IsSound l image → KeepsLayerRules l image → IsSoundByAll l image
layer_makes_sound l image is sound keeps =
    let ten = (rule_on_tree l image is).1 (cover_tells_keys l image is sound keeps.row keeps.covered) in
    keeps_any l image sound (tree_kept l image ten ((rule_on_count l image is ten).1 keeps.few) ((rule_on_cover l image is sound ten).1 keeps.covered))

pub sound_is_kept : SoundIsKept
sound_is_kept l image is = (sound_keeps_layer l image is, λ both. layer_makes_sound l image is both.0 both.1)
