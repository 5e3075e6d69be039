-- The columns of an image are sound where the image is.
use Rattle.std.specs.Prelude.{ℕ, ◌↔◌, List}
use Rattle.pm_words.specs.declared.layout.Layout.{Layout}
use Rattle.pm_words.specs.Images.{IsImage, fresh_words}
use Rattle.pm_words.specs.Layouts.{IsLayout}
use Rattle.cat_history.specs.Maps.{Map}
use Rattle.image_rules.specs.Nodes.{image_list}
use Rattle.image_rules.specs.Sound as image
use Rattle.image_recovery_law.specs.Columns.{NodesAreSound, IsSound, IsMapOf}
use Rattle.image_recovery_law.specs.Rows.{image_columns}

-- An image breaks none of the rules 1 to 9 exactly where its columns keep them, over the list that its nodes make.
abbrev pub ColumnsAreSound : Type 0
ColumnsAreSound = (l : Layout) (words : List ℕ) → IsImage l words →
    NodesAreSound l (image_list l words) (image_columns l words) ↔ image.IsSound l words

-- They keep the maps that the image keeps.
abbrev pub ColumnsKeepMaps : Type 0
ColumnsKeepMaps = (l : Layout) (words : List ℕ) (m : Map) →
    IsMapOf l (image_list l words) (image_columns l words) m ↔ image.IsMapOf l words m

-- A fresh image is sound by all rules.
abbrev pub FreshHasSoundColumns : Type 0
FreshHasSoundColumns = (l : Layout) → IsLayout l →
    IsSound l (image_list l (fresh_words l)) (image_columns l (fresh_words l))
