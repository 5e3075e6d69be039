-- The words of an empty catalogue: the zero key leads to node 0, by the first leaf.
use Rattle.std.specs.Prelude.{ℕ, ◌^◌, ◌<◌, ◌≤◌, ◌==◌, ◌&&◌, if◌then◌else◌, Some, None}
use Rattle.layer_map.specs.cat_key.specs.declared.TheConstants.{WORDS}
use Rattle.layer_map.specs.Layers.{Layer}
use Rattle.tree_law.specs.Words.{LayerWords, Keeps}
use Rattle.tree_law.specs.Stages.{Marks, MarksTell}

abbrev pub fresh_words : LayerWords
fresh_words = record { root = 2 ^ 16; leaf = λ i o. if i == 0 && o == WORDS then 1 else 0; cell = λ kind n o. 0 }

abbrev pub fresh_layer : Layer
fresh_layer key = if key == 0 then Some 0 else None

abbrev pub fresh_marks : Marks
fresh_marks kind n = if kind == 1 && n == 0 then 1 else 0

abbrev pub FreshIsLawful : Type 0
FreshIsLawful = (count nodes : ℕ) → 1 ≤ nodes → nodes < count →
    Keeps count nodes fresh_layer fresh_words × MarksTell count fresh_marks fresh_words
