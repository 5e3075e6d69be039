-- Which images are sound by all rules, and which is the first rule that another breaks.
use Rattle.std.specs.Prelude.{ℕ, ◌<◌, List, Some}
use Rattle.pm_words.specs.declared.layout.Layout.{Layout}
use Rattle.pm_words.specs.Locations.{Word, Root}
use Rattle.pm_words.specs.Offsets.{reference_offset}
use Rattle.image_rules.specs.declared.broken.Broken.{Broken}
use Rattle.image_rules.specs.Lowest.{IsFirst}
use Rattle.image_rules.specs.Sound.{Breaks}
use Rattle.image_layer_rules.specs.Rules.{BreaksTree}

-- The image breaks the rule of this number, one of all twelve, at a position of its list, at this word: a rule on its
-- header, list, nodes and log, or one on the tree of its layer.
pub data BreaksAny (l : Layout) (image : List ℕ) : ℕ → ℕ → Word → Type 0 where
  in_image : {rule position : ℕ} {w : Word} → Breaks l image rule position w → BreaksAny l image rule position w
  in_layer : {rule : ℕ} → BreaksTree l image rule → BreaksAny l image rule 0 (Root reference_offset)

-- It breaks none.
abbrev pub IsSoundByAll : Layout → List ℕ → Type 0
IsSoundByAll l image = (rule position : ℕ) (w : Word) → ¬ BreaksAny l image rule position w

-- It breaks this rule and no lower one, and the word is the first at which it does, in the order of the list.
pub record IsFirstOfAll (l : Layout) (image : List ℕ) (broken : Broken) : Type 0 where
  pub no_lower_rule : (rule position : ℕ) (w : Word) → rule < broken.rule → ¬ BreaksAny l image rule position w
  pub first : IsFirst l (BreaksAny l image broken.rule) (Some broken.word)
