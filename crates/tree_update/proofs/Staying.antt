-- What is known of the key's way, of a filled leaf and of marks stays while a part is filled that the tree doesn't reach.
use Rattle.std.proofs.Common.{◌≡◌, ◌≢◌, ℕ, ◌+◌, ◌^◌, ◌<◌, ◌≤◌, cond, refl, sym, subst, ap, ap₂, ◌∙◌, arith}
use Rattle.std.proofs.lemmas.Bool.{eq-eqb, ne_eqb}
use Rattle.cat_key.specs.declared.TheConstants.{WORDS}
use Rattle.radix_nodes.specs.Keys.{key_bytes}
use Rattle.radix_nodes.specs.Changes.{with_word, IsCellStore}
use Rattle.tree_law.specs.Trees.{Reference, Nothing, Leaf, Cell, Tree, here, IsReached, byte_at, first_bytes, low, depth_of}
use Rattle.tree_law.specs.Switches.{Place, Root, Entry, reference_at, IsPlace, IsSameAt, AreSameWhereReached}
use Rattle.tree_law.specs.Paths.{Comes, begins, goes_on, PartsAt}
use Rattle.tree_law.specs.Words.{RootWord, LeafWord, CellWord, LayerWords, word_in, kind_of, number_of, reference_of, cell_in, tree_of, room_of, Stored, IsSwitchStore, IsLawful, Part, LeafPart, CellPart, part_reference, part_word, AreSameBut}
use Rattle.tree_law.specs.Words as words
use Rattle.tree_law.specs.Changes.{IsFilledLeaf}
use Rattle.tree_law.specs.Stages.{Marks, MarksTell}
use Rattle.tree_law.specs.Reached.{NoPart}
use Rattle.tree_law.specs.Marking.{MarksFollow, ReachesThen}
use Rattle.tree_law.proofs.SwitchLaw.{below_old}
use Rattle.tree_law.proofs.PathLaw.{comes_place}
use Rattle.tree_law.proofs.WordLaw.{cell_apart, leaf_key, part_alike, part_may_differ}
use Rattle.tree_law.proofs.MarkingLaw.{fill_reaches, marks_tell_again}
use Rattle.tree_floor.proofs.FloorExact.{reference_some}
use Rattle.tree_look.specs.declared.look.Spot.{Spot}
use Rattle.tree_look.specs.declared.look.Looked.{Looked}
use Rattle.tree_look.specs.declared.look.Looked.TheVariants as looked
use Rattle.tree_look.specs.FindLaws.{IsAt}
use Rattle.tree_look.specs.LookLaws.{spot_word, StandsAt, IsHeld, IsOuter, at_root, in_cell, IsLooked}
use Rattle.tree_look.proofs.LookExact.{cells_same}
use Rattle.tree_change.specs.Takes.{IsUnreached}
use Rattle.tree_update.specs.declared.change.Site.{Site}
use Rattle.tree_update.specs.declared.change.Site.TheVariants as site
use Rattle.tree_update.specs.Knowns.{IsSited}

-- marks that are as they were follow where nothing comes or goes
pub same_follow : (m : Marks) → MarksFollow m m NoPart NoPart
same_follow m = record { comes = λ q among. absurd among; goes = λ q among. absurd among; stays = λ q may not_more not_less. refl }

pub tell_on : (count nodes : ℕ) (w w' : LayerWords) (m : Marks) → IsLawful count nodes w' → ReachesThen w w' NoPart NoPart → MarksTell count m w → MarksTell count m w'
tell_on count nodes w w' m lawful reaches tells = marks_tell_again count nodes w w' m m NoPart NoPart lawful reaches (same_follow m) tells

-- A reference is held by where its spot is.

root_word : (spot : Spot) → spot.cell ≡ 0 → spot_word spot ≡ RootWord
root_word spot none = ap (λ a. cond a RootWord (CellWord (kind_of spot.cell) (number_of spot.cell) spot.offset)) (eq-eqb spot.cell 0 none)

cell_word : (spot : Spot) (x : ℕ) → spot.cell ≡ x → x ≢ 0 → spot_word spot ≡ CellWord (kind_of x) (number_of x) spot.offset
cell_word spot x is some_cell =
    ap (λ a. cond a RootWord (CellWord (kind_of spot.cell) (number_of spot.cell) spot.offset)) (ne_eqb spot.cell 0 (λ e. some_cell (sym is ∙ e)))
    ∙ ap (λ y. CellWord (kind_of y) (number_of y) spot.offset) is

set_in : (w w' : LayerWords) (x b o word reference : ℕ) → IsCellStore (kind_of x) (cell_in w x) (with_word (cell_in w x) o word) b reference → Stored w w' (CellWord (kind_of x) (number_of x) o) word → IsSwitchStore w w' (Entry x b) reference
set_in w w' x b o word reference store stored =
    words.in_cell {x = x} {b = b} {offset = o} {word = word} stored (subst (λ c'. IsCellStore (kind_of x) (cell_in w x) c' b reference) (cells_same w w' x o word stored) store)

held_by : (w : LayerWords) (key : ℕ) (spot : Spot) (reference : ℕ) (place : Place) → Comes (tree_of w) key place → reference_at (tree_of w) place ≡ reference_of reference → reference ≢ 0 → StandsAt w spot reference place → word_in w (spot_word spot) ≡ spot.high + reference
    → IsHeld w key spot reference place
held_by w key spot reference Root comes at some_reference stands word = record {
  comes = comes;
  at = at;
  some_reference = some_reference;
  stands = stands;
  word = word;
  store = λ w' other some_other fits stored.
      let none = stands.1 in
      let same : spot.high + other ≡ other = omega arith in
      words.at_root (subst (Stored w w' RootWord) same (subst (λ p. Stored w w' p (spot.high + other)) (root_word spot stands.0) stored)) (reference_some other some_other);
  clears = λ x b wrong. absurd (cc);
}
held_by w key spot reference (Entry x b) comes at some_reference stands word =
    let there = cell_word spot x stands.0 stands.1 in
    let is = stands.2 in
    record {
      comes = comes;
      at = at;
      some_reference = some_reference;
      stands = stands;
      word = word;
      store = λ w' other some_other fits stored. set_in w w' x b spot.offset (spot.high + other) other (is.store other some_other fits) (subst (λ p. Stored w w' p (spot.high + other)) there stored);
      clears = λ y c same plain w' stored.
          let cell_is : x ≡ y = cc in
          let plain_cell : kind_of x ≢ 4 = λ e. plain (ap kind_of (sym cell_is) ∙ e) in
          subst (λ p. IsSwitchStore w w' p 0) same (set_in w w' x b spot.offset 0 0 (is.clears plain_cell) (subst (λ p. Stored w w' p 0) there stored));
    }

-- what is held is of the tree
pub held_reached : (w : LayerWords) (key r : ℕ) (spot : Spot) (place : Place) → IsHeld w key spot r place → IsReached (tree_of w) (reference_of r)
held_reached w key r spot place held =
    subst (λ q. IsReached (tree_of w) q) held.at (below_old (tree_of w) place (reference_at (tree_of w) place) (comes_place (tree_of w) key place held.comes) (λ e. reference_some r held.some_reference (sym held.at ∙ e)) here)

low_same : (t t' : Tree) (q : Reference) → IsSameAt t t' q → (low t' q ≡ low t q) × (depth_of t' q ≡ depth_of t q)
low_same t t' Nothing same = (refl, refl)
low_same t t' (Leaf i) same = (same.0, refl)
low_same t t' (Cell x) same = (same.1, same.0)

root_no_part : (part : Part) (o : ℕ) → RootWord ≢ part_word part o
root_no_part (LeafPart i) o e = cc
root_no_part (CellPart x) o e = cc

cell_no_part : (w : LayerWords) (part : Part) (x o : ℕ) → IsUnreached w part → IsReached (tree_of w) (Cell x) → (o' : ℕ) → CellWord (kind_of x) (number_of x) o ≢ part_word part o'
cell_no_part w (LeafPart i) x o unreached reached o' e = cc
cell_no_part w (CellPart y) x o unreached reached o' e = cell_apart y x o o' (λ same. unreached (subst (λ z. IsReached (tree_of w) (Cell z)) (sym same) reached)) e

module _ (w w' : LayerWords) (part : Part) (unreached : IsUnreached w part) (same : AreSameBut part w w') where
  abbrev t : Tree
  t = tree_of w

  abbrev t' : Tree
  t' = tree_of w'

  alike : AreSameWhereReached t t'
  alike = part_alike w w' part unreached same

  pub cell_stays : (x : ℕ) → IsReached t (Cell x) → cell_in w' x ≡ cell_in w x
  cell_stays x reached k o = same (CellWord (kind_of x) (number_of x) o) (cell_no_part w part x o unreached reached) k

  root_stays : w'.root ≡ w.root
  root_stays = same RootWord (root_no_part part)

  at_stays : (place : Place) → IsPlace t place → reference_at t' place ≡ reference_at t place
  at_stays Root is = alike.root
  at_stays (Entry x b) is = (alike.here (Cell x) is).2 b

  comes_stays : (key : ℕ) (place : Place) → Comes t key place → Comes t' key place
  comes_stays key place begins = begins
  comes_stays key place (goes_on {place = p} {x = x} before at on) =
      let reached : IsReached t (Cell x) = comes_place t key (Entry x (byte_at (t.depth x) key)) (goes_on before at on) in
      let same_cell = alike.here (Cell x) reached in
      subst (λ d. Comes t' key (Entry x (byte_at d key))) same_cell.0
      (goes_on (comes_stays key p before) (at_stays p (comes_place t key p before) ∙ at) (ap (λ d. first_bytes d key) same_cell.0 ∙ on ∙ sym (ap₂ first_bytes same_cell.0 same_cell.1)))

  stands_stays : (spot : Spot) (reference : ℕ) (place : Place) → IsPlace t place → StandsAt w spot reference place → StandsAt w' spot reference place
  stands_stays spot reference Root is stands = stands
  stands_stays spot reference (Entry x b) is stands = (stands.0, stands.1, subst (λ c. IsAt (kind_of x) c b spot.offset spot.high reference) (sym (cell_stays x is)) stands.2)

  word_stays : (spot : Spot) (reference : ℕ) (place : Place) → IsPlace t place → StandsAt w spot reference place → word_in w' (spot_word spot) ≡ word_in w (spot_word spot)
  word_stays spot reference Root is stands = subst (λ p. word_in w' p ≡ word_in w p) (sym (root_word spot stands.0)) root_stays
  word_stays spot reference (Entry x b) is stands = subst (λ p. word_in w' p ≡ word_in w p) (sym (cell_word spot x stands.0 stands.1)) (ap (λ c. c spot.offset) (cell_stays x is))

  held_stays : (key : ℕ) (spot : Spot) (reference : ℕ) (place : Place) → IsHeld w key spot reference place → IsHeld w' key spot reference place
  held_stays key spot reference place held =
      let is = comes_place t key place held.comes in
      held_by w' key spot reference place (comes_stays key place held.comes) (at_stays place is ∙ held.at) held.some_reference (stands_stays spot reference place is held.stands) (word_stays spot reference place is held.stands ∙ held.word)

  outer_stays : (key : ℕ) (outer inner : Spot) (place : Place) → IsOuter w key outer inner place → IsOuter w' key outer inner place
  outer_stays key outer inner Root at_root = at_root
  outer_stays key outer inner (Entry x b) (in_cell {place = p} held) = in_cell (held_stays key outer inner.cell p held)

  pub looked_stays : (key : ℕ) (found : Looked) → IsLooked w key found → IsLooked w' key found
  looked_stays key (looked.Key outer inner leaf) found =
      let place = found.1.0 in
      let reached : IsReached t (Leaf leaf) = subst (IsReached t) found.2 (held_reached w key (2 ^ 16 + leaf) inner place found.1.1) in
      ((alike.here (Leaf leaf) reached).0 ∙ found.0, (place, held_stays key inner (2 ^ 16 + leaf) place found.1.1, outer_stays key outer inner place found.1.2), found.2)
  looked_stays key (looked.Nothing spot cell depth) found =
      let reached = comes_place t key (Entry cell (byte_at depth key)) found.2 in
      let same_cell = alike.here (Cell cell) reached in
      ((found.0.0, held_stays key spot cell found.0.0 found.0.1), found.1 ∙ sym same_cell.0, comes_stays key (Entry cell (byte_at depth key)) found.2, same_cell.2 (byte_at depth key) ∙ found.3, found.4)
  looked_stays key (looked.Parts spot reference depth byte) found =
      let q = reference_of reference in
      let both = low_same t t' q (alike.here q (held_reached w key reference spot found.0.0 found.0.1)) in (
        (found.0.0, held_stays key spot reference found.0.0 found.0.1),
        subst (PartsAt depth key) (sym both.0) found.1,
        subst (λ d. depth < d) (sym both.1) found.2,
        found.3 ∙ ap (byte_at depth) (sym both.0),
      )
  looked_stays key looked.Wrong found = absurd found

  pub sited_stays : (key : ℕ) (place : Site) → IsSited w key place → IsSited w' key place
  sited_stays key (site.Under spot cell byte) sited = (sited.0, looked_stays key (looked.Nothing spot cell sited.0) sited.1, sited.2)
  sited_stays key (site.Beside spot reference depth byte) sited = looked_stays key (looked.Parts spot reference depth byte) sited

  pub tells_stay : (count nodes : ℕ) (m : Marks) → IsLawful count nodes w → MarksTell count m w → MarksTell count m w'
  tells_stay count nodes m lawful tells = tell_on count nodes w w' m (part_may_differ count nodes w w' part lawful unreached same).lawful (fill_reaches count nodes w w' part lawful unreached same) tells

-- a leaf stays filled while a cell is
pub leaf_stays : (count nodes : ℕ) (w w' : LayerWords) (x key node leaf : ℕ) → AreSameBut (CellPart x) w w' → IsFilledLeaf count nodes w key node leaf → IsFilledLeaf count nodes w' key node leaf
leaf_stays count nodes w w' x key node leaf same filled =
    let leaves : (o : ℕ) → w'.leaf leaf o ≡ w.leaf leaf o = λ o. same (LeafWord leaf o) (λ o' e. cc) in
    let key_same : (tree_of w').key leaf ≡ (tree_of w).key leaf = leaf_key w w' leaf (λ o lt. leaves o) in
    let word_same : (tree_of w').word leaf ≡ (tree_of w).word leaf = leaves WORDS in
    record {
      sound = record {
        number = filled.sound.number;
        key = subst (λ k. k < 256 ^ key_bytes) (sym key_same) filled.sound.key;
        some_node = λ e. filled.sound.some_node (sym word_same ∙ e);
        node = subst (λ k. k ≤ nodes) (sym word_same) filled.sound.node;
      };
      key_is = key_same ∙ filled.key_is;
      word = word_same ∙ filled.word;
    }
