-- The kinds of the actions of a change, and what they leave as it was.
use Rattle.std.specs.Prelude.{◌≡◌, ℕ, List, length}
use Rattle.pm_words.specs.declared.layout.Layout.{Layout}
use Rattle.pm_words.specs.declared.action.Action.{Action}
use Rattle.pm_words.specs.declared.action.Action.TheVariants.{Load, Store, Drain}
use Rattle.pm_words.specs.Locations.{Word, Header, Root, Node, Line, Leaf, Cell, HasWord}
use Rattle.pm_words.specs.Locations.{Location, Clock, Updater, Volatile, Mark, Cached, Durable, HasLocation}
use Rattle.pm_words.specs.Locations.{address_of, at, row_words}
use Rattle.pm_words.specs.Rows.{acted}
use Rattle.tree_update.specs.declared.change.Change.{Change}
use Rattle.tree_update.specs.Changes.{IsChange, change_asks}

-- a word of the layer, and one of its line
abbrev pub IsOfLayer : Word → Type 0
IsOfLayer (Header o) = ⊥
IsOfLayer (Root o) = o ≡ 0
IsOfLayer (Node n o) = ⊥
IsOfLayer (Line c j o) = ⊥
IsOfLayer (Leaf k o) = Unit {0}
IsOfLayer (Cell kind k o) = Unit {0}

abbrev pub IsOfLine : Word → Type 0
IsOfLine (Header o) = ⊥
IsOfLine (Root o) = Unit {0}
IsOfLine (Node n o) = ⊥
IsOfLine (Line c j o) = ⊥
IsOfLine (Leaf k o) = Unit {0}
IsOfLine (Cell kind k o) = Unit {0}

-- It loads a word; it stores one of the layer, or drains one of its line; or it stores a mark.
pub data ActsOn (l : Layout) : Action → Type 0 where
  loads : {address : ℕ} → ActsOn l (Load address)
  stores : (w : Word) {y : ℕ} → HasWord l w → IsOfLayer w → ActsOn l (Store (address_of l (Cached w)) y)
  drains : (w : Word) {y : ℕ} → HasWord l w → IsOfLine w → ActsOn l (Drain (address_of l (Cached w)) y)
  marks : (kind number : ℕ) {y : ℕ} → HasLocation l (Mark kind number) →
      ActsOn l (Store (address_of l (Mark kind number)) y)

abbrev pub ChangeActsOn : Type 0
ChangeActsOn = (change : Change) → IsChange change → ActsOn change.layout (change_asks change)

-- So all else stays: what is neither of the layer nor a mark, nor the durable twin of a word of the root's line.
abbrev pub IsOther : Location → Type 0
IsOther Clock = Unit {0}
IsOther Updater = Unit {0}
IsOther (Volatile n o) = Unit {0}
IsOther (Mark kind k) = ⊥
IsOther (Cached w) = IsOfLayer w → ⊥
IsOther (Durable w) = IsOfLine w → ⊥

abbrev pub KeepsOthers : Layout → List ℕ → List ℕ → Type 0
KeepsOthers l words after = (p : Location) → HasLocation l p → IsOther p → at l after p ≡ at l words p

abbrev pub ChangeKeepsOthers : Type 0
ChangeKeepsOthers = (change : Change) (words : List ℕ) → IsChange change → length words ≡ row_words change.layout →
    KeepsOthers change.layout words (acted change.layout words (change_asks change))
