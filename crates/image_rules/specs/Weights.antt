-- What an image weighs.
use Rattle.std.specs.Prelude.{ℕ, List}
use Rattle.pm_words.specs.declared.layout.Layout.{Layout}
use Rattle.data_node.specs.Weights.{list_weight}
use Rattle.image_rules.specs.Nodes.{image_spot, image_list}

-- Its listed nodes together.
abbrev pub image_weight : Layout → List ℕ → ℕ
image_weight l image = list_weight l.slots (image_spot l image) (image_list l image)
