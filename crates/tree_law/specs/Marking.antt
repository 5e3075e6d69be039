-- What a change of the words makes of what their tree reaches, and of the marks that tell it.
use Rattle.std.specs.Prelude.{◌≡◌, ◌≢◌, ℕ, ◌<◌, ◌≤◌}
use Rattle.layer_map.specs.cat_key.specs.declared.TheConstants.{WORDS}
use Rattle.tree_law.specs.Trees.{Reference, Nothing, Leaf, Cell, IsReached, low, depth_of}
use Rattle.tree_law.specs.Switches.{Place, Entry, reference_at, Removes, Collapses}
use Rattle.tree_law.specs.Reached.{Parts, NoPart, Only, Both, IsAmong, ReachesAfter}
use Rattle.tree_law.specs.Paths.{Comes, PartsAt, IsFilledPair}
use Rattle.tree_law.specs.Words.{LeafWord, LayerWords, kind_of, number_of, reference_of, tree_of, room_of}
use Rattle.tree_law.specs.Words.{IsLawful, Stored, IsSwitchStore, Part, part_reference, AreSameBut}
use Rattle.tree_law.specs.Changes.{IsFilledLeaf, IsFilledLarger}
use Rattle.tree_law.specs.Stages.{Marks, MarksTell}

-- What is reached afterwards: what was, these more, and those no longer.
abbrev pub ReachesThen : LayerWords → LayerWords → Parts → Parts → Type 0
ReachesThen w w' more less = ReachesAfter (tree_of w) (tree_of w') more less

-- a filling of what isn't reached, a set of a key that is there, and each other kind of change
abbrev pub FillReaches : Type 0
FillReaches = (count nodes : ℕ) (w w' : LayerWords) (part : Part) → IsLawful count nodes w →
    (IsReached (tree_of w) (part_reference part) → ⊥) → AreSameBut part w w' → ReachesThen w w' NoPart NoPart

abbrev pub NodeWordReaches : Type 0
NodeWordReaches = (w w' : LayerWords) (leaf word : ℕ) → Stored w w' (LeafWord leaf WORDS) word →
    ReachesThen w w' NoPart NoPart

abbrev pub SetAddReaches : Type 0
SetAddReaches = (count nodes : ℕ) (w w' : LayerWords) (key node leaf x b reference : ℕ) → IsLawful count nodes w →
    Comes (tree_of w) key (Entry x b) → (tree_of w).child x b ≡ Nothing → IsFilledLeaf count nodes w key node leaf →
    reference_of reference ≡ Leaf leaf → IsSwitchStore w w' (Entry x b) reference →
    ReachesThen w w' (Only (Leaf leaf)) NoPart

abbrev pub SetPairReaches : Type 0
SetPairReaches = (count nodes : ℕ) (w w' : LayerWords) (place : Place) (key node depth pair leaf : ℕ) →
    IsLawful count nodes w → Comes (tree_of w) key place → reference_at (tree_of w) place ≢ Nothing →
    PartsAt depth key (low (tree_of w) (reference_at (tree_of w) place)) →
    depth < depth_of (tree_of w) (reference_at (tree_of w) place) → IsFilledLeaf count nodes w key node leaf →
    IsFilledPair (room_of count nodes) (tree_of w) place key depth pair leaf →
    (IsReached (tree_of w) (Cell pair) → ⊥) → reference_of pair ≡ Cell pair → IsSwitchStore w w' place pair →
    ReachesThen w w' (Both (Leaf leaf) (Cell pair)) NoPart

abbrev pub SetGrowReaches : Type 0
SetGrowReaches = (count nodes : ℕ) (w w' : LayerWords) (place : Place) (key node x grown b leaf : ℕ) →
    IsLawful count nodes w → Comes (tree_of w) key place → reference_at (tree_of w) place ≡ Cell x →
    Comes (tree_of w) key (Entry x b) → (tree_of w).child x b ≡ Nothing → IsFilledLeaf count nodes w key node leaf →
    IsFilledLarger count nodes w x grown b leaf → (IsReached (tree_of w) (Cell grown) → ⊥) →
    reference_of grown ≡ Cell grown → IsSwitchStore w w' place grown →
    ReachesThen w w' (Both (Leaf leaf) (Cell grown)) (Only (Cell x))

abbrev pub UnsetRemoveReaches : Type 0
UnsetRemoveReaches = (count nodes : ℕ) (w w' : LayerWords) (x b leaf : ℕ) → IsLawful count nodes w →
    Removes (tree_of w) x b leaf → IsSwitchStore w w' (Entry x b) 0 → ReachesThen w w' NoPart (Only (Leaf leaf))

abbrev pub UnsetCollapseReaches : Type 0
UnsetCollapseReaches = (count nodes : ℕ) (w w' : LayerWords) (place : Place) (x b leaf other_byte reference : ℕ) →
    IsLawful count nodes w → Collapses (tree_of w) place x b leaf other_byte →
    reference_of reference ≡ (tree_of w).child x other_byte → IsSwitchStore w w' place reference →
    ReachesThen w w' NoPart (Both (Leaf leaf) (Cell x))

-- the mark of a leaf or a cell, and which references may have one
abbrev pub mark_of : Marks → Reference → ℕ
mark_of marks Nothing = 0
mark_of marks (Leaf i) = marks 1 i
mark_of marks (Cell x) = marks (kind_of x) (number_of x)

abbrev pub MayHaveMark : Reference → Type 0
MayHaveMark Nothing = ⊥
MayHaveMark (Leaf i) = Unit {0}
MayHaveMark (Cell x) = (2 ≤ kind_of x) × (kind_of x ≤ 5)

-- A mark is set where something comes, gone where something goes, and else as it was.
pub record MarksFollow (marks marks' : Marks) (more less : Parts) : Type 0 where
  pub comes : (q : Reference) → IsAmong more q → mark_of marks' q ≢ 0
  pub goes : (q : Reference) → IsAmong less q → mark_of marks' q ≡ 0
  pub stays : (q : Reference) → MayHaveMark q → (IsAmong more q → ⊥) → (IsAmong less q → ⊥) →
      mark_of marks' q ≡ mark_of marks q

-- Then they tell what is reached again.
abbrev pub MarksTellAgain : Type 0
MarksTellAgain = (count nodes : ℕ) (w w' : LayerWords) (marks marks' : Marks) (more less : Parts) →
    IsLawful count nodes w' → ReachesThen w w' more less → MarksFollow marks marks' more less →
    MarksTell count marks w → MarksTell count marks' w'

-- Of all marks that of a leaf or a cell alone becomes this.
abbrev pub kind_in : Reference → ℕ
kind_in Nothing = 0
kind_in (Leaf i) = 1
kind_in (Cell x) = kind_of x

abbrev pub number_in : Reference → ℕ
number_in Nothing = 0
number_in (Leaf i) = i
number_in (Cell x) = number_of x

pub record IsMarkSet (m m' : Marks) (r : Reference) (mark : ℕ) : Type 0 where
  pub may : MayHaveMark r
  pub here : m' (kind_in r) (number_in r) ≡ mark
  pub others : (kind number : ℕ) → (kind ≡ kind_in r → number ≡ number_in r → ⊥) → m' kind number ≡ m kind number

-- Marks that are set one after another follow the change: one or two come, one or two go, and two come while one goes.
abbrev pub OneComes : Type 0
OneComes = (m m' : Marks) (r : Reference) → IsMarkSet m m' r 1 → MarksFollow m m' (Only r) NoPart

abbrev pub TwoCome : Type 0
TwoCome = (m one m' : Marks) (r s : Reference) → r ≢ s → IsMarkSet m one r 1 → IsMarkSet one m' s 1 →
    MarksFollow m m' (Both r s) NoPart

abbrev pub OneIsReplaced : Type 0
OneIsReplaced = (m one two m' : Marks) (r s x : Reference) → r ≢ s → r ≢ x → s ≢ x → IsMarkSet m one r 1 →
    IsMarkSet one two s 1 → IsMarkSet two m' x 0 → MarksFollow m m' (Both r s) (Only x)

abbrev pub OneGoes : Type 0
OneGoes = (m m' : Marks) (r : Reference) → IsMarkSet m m' r 0 → MarksFollow m m' NoPart (Only r)

abbrev pub TwoGo : Type 0
TwoGo = (m one m' : Marks) (r s : Reference) → r ≢ s → IsMarkSet m one r 0 → IsMarkSet one m' s 0 →
    MarksFollow m m' NoPart (Both r s)
