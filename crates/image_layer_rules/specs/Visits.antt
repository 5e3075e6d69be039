-- What the walk over the tree of an image comes to, whether the tree is in order or not.
use Rattle.std.specs.Prelude.{◌≡◌, ◌≢◌, ℕ, ◌*◌, ◌<◌, ◌≤◌, List, [], ◌∷◌}
use Rattle.pm_words.specs.declared.layout.Layout.{Layout}
use Rattle.pm_words.specs.Locations.{leaf_count}
use Rattle.tree_law.specs.Trees.{Reference, Nothing, Cell}
use Rattle.image_layer_rules.specs.Faults.{image_tree, IsWrong}

-- It comes from the one to the other by these branch bytes: nothing is wrong with a cell that it goes on from.
pub data Comes (l : Layout) (image : List ℕ) : Reference → List ℕ → Reference → Type 0 where
  ends : {r : Reference} → Comes l image r [] r
  goes_on : {x b : ℕ} {bytes : List ℕ} {q : Reference} → ¬ IsWrong l image (Cell x) →
      (image_tree l image).child x b ≢ Nothing → Comes l image ((image_tree l image).child x b) bytes q →
      Comes l image (Cell x) (b ∷ bytes) q

-- It comes to no leaf and to no cell by two ways.
abbrev pub VisitedOnce : Type 0
VisitedOnce = (l : Layout) (image : List ℕ) (from to : Reference) (one other : List ℕ) →
    Comes l image from one to → Comes l image from other to → one ≡ other

-- So it goes on from, or passes, at most as many leaves and cells as there are.
abbrev pub VisitsAreFew : Type 0
VisitsAreFew = (l : Layout) (image : List ℕ) (from : Reference) (count : ℕ) (to : ℕ → Reference) (way : ℕ → List ℕ) →
    ((i : ℕ) → i < count → Comes l image from (way i) (to i)) →
    ((i : ℕ) → i < count → ¬ IsWrong l image (to i)) →
    ((i j : ℕ) → i < count → j < count → way i ≡ way j → i ≡ j) → count ≤ 5 * leaf_count l
