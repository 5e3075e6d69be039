-- The first of all rules that is broken: one of those on the image's header, list, nodes and log, or else one on its
-- tree.
use Rattle.std.proofs.Common.{◌≡◌, ℕ, ◌≤◌, List, Some, refl, arith}
use Rattle.pm_words.specs.declared.layout.Layout.{Layout}
use Rattle.pm_words.specs.Locations.{Word, Root, word_number}
use Rattle.pm_words.specs.Offsets.{reference_offset}
use Rattle.image_rules.specs.declared.broken.Broken.{Broken}
use Rattle.image_rules.specs.Lowest.{IsLowest}
use Rattle.image_rules.specs.Sound.{Breaks, in_header, in_versions, leads_out, leads_back, in_anchors, in_names, in_prints, in_apart, in_lines, IsSound, IsFirstBroken}
use Rattle.image_layer_rules.specs.Rules.{BreaksTree, is_wrong, is_reached_twice, reaches_its_root, has_many, is_uncovered}
use Rattle.image_layer_rules.specs.Sound.{BreaksAny, in_image, in_layer, IsSoundByAll, IsFirstOfAll}

-- the rules on the tree come last
last_of_image : (l : Layout) (image : List ℕ) (rule position : ℕ) (w : Word) → Breaks l image rule position w → rule ≤ 9
last_of_image l image rule position w (in_header b) = omega arith
last_of_image l image rule position w (in_versions b) = omega arith
last_of_image l image rule position w (leads_out b) = omega arith
last_of_image l image rule position w (leads_back b) = omega arith
last_of_image l image rule position w (in_anchors b) = omega arith
last_of_image l image rule position w (in_names b) = omega arith
last_of_image l image rule position w (in_prints b) = omega arith
last_of_image l image rule position w (in_apart b) = omega arith
last_of_image l image rule position w (in_lines b) = omega arith

first_of_tree : (l : Layout) (image : List ℕ) (rule : ℕ) → BreaksTree l image rule → 10 ≤ rule
first_of_tree l image rule (is_wrong q way wrong) = omega arith
first_of_tree l image rule (is_reached_twice x y a b twice) = omega arith
first_of_tree l image rule (reaches_its_root x b way some_child same) = omega arith
first_of_tree l image rule (has_many many) = omega arith
first_of_tree l image rule (is_uncovered key node differ) = omega arith

-- a rule that is none on the tree is one on the rest
of_image : (l : Layout) (image : List ℕ) (rule position : ℕ) (w : Word) → rule ≤ 9 → BreaksAny l image rule position w → Breaks l image rule position w
of_image l image rule position w small (in_image breaks) = breaks
of_image l image rule position w small (in_layer breaks) = let least = first_of_tree l image rule breaks in absurd (omega arith)

-- the first word that breaks one on the rest is the first of all
pub image_first : (l : Layout) (image : List ℕ) (broken : Broken) → IsFirstBroken l image broken → IsFirstOfAll l image broken
image_first l image broken is =
    let at = is.first in
    let small = last_of_image l image broken.rule at.0 at.1.lowest.0.word at.1.lowest.0.holds in
    record {
      no_lower_rule = λ rule position w lower breaks. is.no_lower_rule rule position w lower (of_image l image rule position w (omega arith) breaks);
      first = (
        at.0,
        record {
          none_before = λ before w below breaks. at.1.none_before before w below (of_image l image broken.rule before w small breaks);
          lowest = (
            let here = at.1.lowest.0 in record { word = here.word; numbered = here.numbered; holds = in_image here.holds },
            λ lower below there. at.1.lowest.1 lower below (record { word = there.word; numbered = there.numbered; holds = of_image l image broken.rule at.0 there.word small there.holds }),
          );
        },
      );
    }

pub first_unsound : (l : Layout) (image : List ℕ) (broken : Broken) → IsFirstOfAll l image broken → ¬ IsSoundByAll l image
first_unsound l image broken is sound = let at = is.first in sound broken.rule at.0 at.1.lowest.0.word at.1.lowest.0.holds

-- where none of those is broken, each that is is broken at the root's word
root_number : (l : Layout) (image : List ℕ) → IsSound l image → (rule position : ℕ) (w : Word) → BreaksAny l image rule position w → word_number l w ≡ 8
root_number l image sound rule position w (in_image breaks) = absurd (sound rule position w breaks)
root_number l image sound rule position w (in_layer breaks) = refl

of_tree : (l : Layout) (image : List ℕ) → IsSound l image → (rule position : ℕ) (w : Word) → BreaksAny l image rule position w → BreaksTree l image rule
of_tree l image sound rule position w (in_image breaks) = absurd (sound rule position w breaks)
of_tree l image sound rule position w (in_layer breaks) = breaks

pub tree_first : (l : Layout) (image : List ℕ) (rule : ℕ) → IsSound l image → IsLowest (BreaksTree l image) (Some rule) → IsFirstOfAll l image (record { rule = rule; word = 8 })
tree_first l image rule sound lowest = record {
  no_lower_rule = λ other position w lower breaks. lowest.1 other lower (of_tree l image sound other position w breaks);
  first = (
    0,
    record {
      none_before = λ before w below breaks. absurd (omega (arith, below));
      lowest = (
        record { word = Root reference_offset; numbered = refl; holds = in_layer lowest.0 },
        λ lower below there. let eight = root_number l image sound rule 0 there.word there.holds in let same = there.numbered in omega (arith, below),
      );
    },
  );
}
