-- What stores and mixes of words make of the layer that they keep.
use Rattle.std.proofs.Common.{◌≡◌, ◌≢◌, ℕ, ◌+◌, ◌-◌, ◌*◌, ◌^◌, ◌<◌, Some, inl, inr, refl, sym, subst, ap, ap₂, ◌∙◌}
use Rattle.std.proofs.Common.{arith}
use Rattle.std.proofs.lemmas.Bool.{cases_eq}
use Rattle.pm_words.specs.Offsets.{depth_offset, prefix_offset}
use Rattle.tree_law.specs.Trees.{Reference, Nothing, Leaf, Cell, Tree, Reaches, here, IsReached, IsSound}
use Rattle.layer_map.specs.cat_key.specs.declared.TheConstants.{WORDS}
use Rattle.radix_nodes.specs.Keys.{KeyWords}
use Rattle.radix_nodes.specs.Cells.{prefix_words, children, IsForm}
use Rattle.tree_law.specs.Switches.{Place, Root, Entry, reference_at, rooted, IsSwitched, Makes, AreSameWhereReached}
use Rattle.tree_law.specs.Switches.{IsSameAt, StaysTree}
use Rattle.tree_law.specs.Words.{Stored, RootWord, LeafWord, CellWord, LayerWords, kind_of, number_of, number_of_key}
use Rattle.tree_law.specs.Words.{reference_of, cell_in, tree_of, room_of, IsLawful, IsSwitchStore, at_root, in_cell}
use Rattle.tree_law.specs.Words.{SwitchMakes, NodeWordMakes, Part, LeafPart, CellPart, part_reference, part_word}
use Rattle.tree_law.specs.Words.{AreSameBut, PartMayDiffer}
use Rattle.tree_law.proofs.Avoiding.{Avoids, was, reaches}
use Rattle.tree_law.proofs.OtherLaw.{rename_makes, others_may_differ, from_named}

-- trees with the same cells and leaves are one tree with other references
as_rooted : (t t' : Tree) → ((x : ℕ) → t'.depth x ≡ t.depth x) → ((x : ℕ) → t'.prefix x ≡ t.prefix x) → ((i : ℕ) → t'.key i ≡ t.key i) → ((i : ℕ) → t'.word i ≡ t.word i) → rooted t t'.root t'.child ≡ t'
as_rooted t t' depth prefix key word = λ k. record {
  root = t'.root;
  depth = λ x. sym (depth x) k;
  prefix = λ x. sym (prefix x) k;
  child = t'.child;
  key = λ i. sym (key i) k;
  word = λ i. sym (word i) k;
}

as_named : (t t' : Tree) → t'.root ≡ t.root → ((x : ℕ) → t'.depth x ≡ t.depth x) → ((x : ℕ) → t'.prefix x ≡ t.prefix x) → ((x b : ℕ) → t'.child x b ≡ t.child x b) → ((i : ℕ) → t'.key i ≡ t.key i) → record t { word = t'.word } ≡ t'
as_named t t' root depth prefix child key = λ k. record {
  root = sym root k;
  depth = λ x. sym (depth x) k;
  prefix = λ x. sym (prefix x) k;
  child = λ x b. sym (child x b) k;
  key = λ i. sym (key i) k;
  word = t'.word;
}

-- a number by its kind and its number
same_reference : (x y : ℕ) → kind_of x ≡ kind_of y → number_of x ≡ number_of y → x ≡ y
same_reference x y kind number = omega arith

-- another cell has other words
pub cell_apart : (x y o o' : ℕ) → x ≢ y → CellWord (kind_of y) (number_of y) o ≢ CellWord (kind_of x) (number_of x) o'
cell_apart x y o o' apart e = apart (same_reference x y (let kind : kind_of x ≡ kind_of y = cc in kind) (let number : number_of x ≡ number_of y = cc in number))

-- keys with the same words have one number
pub words_alike : (a b : KeyWords) → ((k : ℕ) → k < WORDS → a k ≡ b k) → number_of_key a ≡ number_of_key b
words_alike a b same =
    ap₂ (λ n k. n * 2 ^ 64 + k) (ap₂ (λ n k. n * 2 ^ 64 + k) (same 0 (omega arith)) (same 1 (omega arith))) (same 2 (omega arith))

-- the words of a cell are all the same
module _ (w w' : LayerWords) (x : ℕ) (same : (o : ℕ) → cell_in w' x o ≡ cell_in w x o) where
  cell_same : cell_in w' x ≡ cell_in w x
  cell_same = λ k o. same o k

  pub depth_kept : (tree_of w').depth x ≡ (tree_of w).depth x
  depth_kept = same 0

  pub prefix_kept : (tree_of w').prefix x ≡ (tree_of w).prefix x
  prefix_kept = words_alike (prefix_words (cell_in w' x)) (prefix_words (cell_in w x)) (λ k lt. same (prefix_offset + k))

  pub child_kept : (b : ℕ) → (tree_of w').child x b ≡ (tree_of w).child x b
  child_kept b = ap (λ c. reference_of (children (kind_of x) c b)) cell_same

  pub form_kept : IsForm (kind_of x) (cell_in w x) → IsForm (kind_of x) (cell_in w' x)
  form_kept form = subst (IsForm (kind_of x)) (sym cell_same) form

-- its head is
pub head_kept : (w w' : LayerWords) (x : ℕ) → ((o : ℕ) → o < 4 → cell_in w' x o ≡ cell_in w x o) → (tree_of w').prefix x ≡ (tree_of w).prefix x
head_kept w w' x same = words_alike (prefix_words (cell_in w' x)) (prefix_words (cell_in w x)) (λ k lt. same (prefix_offset + k) (omega arith))

-- a leaf's key
pub leaf_key : (w w' : LayerWords) (i : ℕ) → ((o : ℕ) → o < WORDS → w'.leaf i o ≡ w.leaf i o) → (tree_of w').key i ≡ (tree_of w).key i
leaf_key w w' i same = words_alike (w'.leaf i) (w.leaf i) same

root_some : (count nodes : ℕ) (w : LayerWords) → IsLawful count nodes w → reference_of w.root ≢ Nothing
root_some count nodes w lawful e = subst (IsSound (room_of count nodes) (tree_of w)) e (lawful.tree (reference_of w.root) here)

-- what a switch store is to the tree
pub record Switching (w w' : LayerWords) (place : Place) (reference : ℕ) : Type 0 where
  pub tree : rooted (tree_of w) (tree_of w').root (tree_of w').child ≡ tree_of w'
  pub switched : IsSwitched (tree_of w) (tree_of w').root (tree_of w').child place (reference_of reference)
  pub forms : (x : ℕ) → IsForm (kind_of x) (cell_in w x) → IsForm (kind_of x) (cell_in w' x)

pub switching : (count nodes : ℕ) (w w' : LayerWords) (place : Place) (reference : ℕ) → IsLawful count nodes w → IsSwitchStore w w' place reference → Switching w w' place reference
switching count nodes w w' Root reference lawful (at_root stored some_root) =
    let cells : (x o : ℕ) → cell_in w' x o ≡ cell_in w x o = λ x o. stored.others (CellWord (kind_of x) (number_of x) o) (λ e. cc) in
    let leaves : (i o : ℕ) → w'.leaf i o ≡ w.leaf i o = λ i o. stored.others (LeafWord i o) (λ e. cc) in
    let root_is : reference_of w'.root ≡ reference_of reference = ap reference_of stored.here in
    record {
      tree = as_rooted (tree_of w) (tree_of w') (λ x. depth_kept w w' x (cells x)) (λ x. prefix_kept w w' x (cells x)) (λ i. leaf_key w w' i (λ o lt. leaves i o)) (λ i. leaves i WORDS);
      switched = record {
        some_root = λ e. some_root (sym root_is ∙ e);
        here = root_is;
        root_stays = λ apart. absurd (apart refl);
        others = λ x b apart. child_kept w w' x (cells x) b;
      };
      forms = λ x form. form_kept w w' x (cells x) form;
    }
switching count nodes w w' (Entry x b) reference lawful (in_cell {offset = offset} stored is) =
    let cells : (y : ℕ) → x ≢ y → (o : ℕ) → cell_in w' y o ≡ cell_in w y o = λ y apart o. stored.others (CellWord (kind_of y) (number_of y) o) (cell_apart x y o offset apart) in
    let leaves : (i o : ℕ) → w'.leaf i o ≡ w.leaf i o = λ i o. stored.others (LeafWord i o) (λ e. cc) in
    let root_same : w'.root ≡ w.root = stored.others RootWord (λ e. cc) in
    record {
      tree = as_rooted (tree_of w) (tree_of w')
          (λ y. elim (cases_eq x y) [ inl same ↦ subst (λ z. cell_in w' z depth_offset ≡ cell_in w z depth_offset) same (is.head 0 (omega arith)) | inr apart ↦ depth_kept w w' y (cells y apart) ])
          (λ y. elim (cases_eq x y) [ inl same ↦ subst (λ z. (tree_of w').prefix z ≡ (tree_of w).prefix z) same (head_kept w w' x is.head) | inr apart ↦ prefix_kept w w' y (cells y apart) ])
          (λ i. leaf_key w w' i (λ o lt. leaves i o)) (λ i. leaves i WORDS);
      switched = record {
        some_root = λ e. root_some count nodes w lawful (sym (ap reference_of root_same) ∙ e);
        here = ap reference_of is.here;
        root_stays = λ apart. ap reference_of root_same;
        others = λ y c apart. elim (cases_eq x y) [
          | inl same ↦ elim (cases_eq c b) [
            | inl byte ↦ absurd (apart (ap₂ Entry same (sym byte)))
            | inr other ↦ subst (λ z. reference_of (children (kind_of z) (cell_in w' z) c) ≡ reference_of (children (kind_of z) (cell_in w z) c)) same (ap reference_of (is.others c other))
          ]
          | inr other ↦ child_kept w w' y (cells y other) c
        ];
      };
      forms = λ y form. elim (cases_eq x y) [ inl same ↦ subst (λ z. IsForm (kind_of z) (cell_in w' z)) same is.form | inr apart ↦ form_kept w w' y (cells y apart) form ];
    }

pub switch_makes : SwitchMakes
switch_makes count nodes w w' place reference key node lawful store forms makes =
    let is = switching count nodes w w' place reference lawful store in
    let t = tree_of w in
    let root = (tree_of w').root in
    let child = (tree_of w').child in
    let made = subst (λ t'. Makes (room_of count nodes) t t' key node) is.tree (makes root child is.switched) in
    let before : (x : ℕ) → IsReached (tree_of w') (Cell x) → IsForm (kind_of x) (cell_in w x) = λ x reach.
    let reach' : Reaches (rooted t root child) root (Cell x) = subst (λ t'. Reaches t' root (Cell x)) (sym is.tree) reach in
    elim (was t root child place (reference_of reference) is.switched reach') [
      | inl way ↦ beside x way
      | inr inner ↦ forms x inner.1
    ] in
    record { lawful = record { tree = made.tree; forms = λ x reach. is.forms x (before x reach) }; same = made.layer }
  where
    beside : (x : ℕ) → Avoids (tree_of w) place (tree_of w').root (Cell x) → IsForm (kind_of x) (cell_in w x)
    beside x way =
        let is = switching count nodes w w' place reference lawful store in
        at place refl is.switched way
      where
        at : (p : Place) → place ≡ p → IsSwitched (tree_of w) (tree_of w').root (tree_of w').child place (reference_of reference) → Avoids (tree_of w) place (tree_of w').root (Cell x) → IsForm (kind_of x) (cell_in w x)
        at Root e is way =
            let root_is : (tree_of w').root ≡ reference_of reference = ap (reference_at (rooted (tree_of w) (tree_of w').root (tree_of w').child)) (sym e) ∙ is.here in
            forms x (subst (λ r. Reaches (tree_of w) r (Cell x)) root_is (reaches (tree_of w) place way))
        at (Entry y b) e is way =
            let stays = is.root_stays (λ f. let wrong : Root ≡ Entry y b = sym f ∙ e in cc) in
            lawful.forms x (subst (λ r. Reaches (tree_of w) r (Cell x)) stays (reaches (tree_of w) place way))

-- a store of a node word leaves all else of the tree
pub node_named : (w w' : LayerWords) (leaf word : ℕ) → Stored w w' (LeafWord leaf WORDS) word → record (tree_of w) { word = (tree_of w').word } ≡ tree_of w'
node_named w w' leaf word stored =
    let t = tree_of w in
    let t' = tree_of w' in
    let cells : (x o : ℕ) → cell_in w' x o ≡ cell_in w x o = λ x o. stored.others (CellWord (kind_of x) (number_of x) o) (λ e. cc) in
    let root_same : w'.root ≡ w.root = stored.others RootWord (λ e. cc) in
    let keys : (i : ℕ) → t'.key i ≡ t.key i = λ i. leaf_key w w' i (λ o lt. stored.others (LeafWord i o) (λ e. let same : o ≡ WORDS = cc in omega arith)) in
    as_named t t' (ap reference_of root_same) (λ x. depth_kept w w' x (cells x)) (λ x. prefix_kept w w' x (cells x)) (λ x b. child_kept w w' x (cells x) b) keys

pub node_word_makes : NodeWordMakes
node_word_makes count nodes w w' leaf word lawful reached some_node most stored =
    let t = tree_of w in
    let t' = tree_of w' in
    let cells : (x o : ℕ) → cell_in w' x o ≡ cell_in w x o = λ x o. stored.others (CellWord (kind_of x) (number_of x) o) (λ e. cc) in
    let is = node_named w w' leaf word stored in
    let made = rename_makes (room_of count nodes) t t'.word leaf word lawful.tree reached some_node most (record { here = stored.here; others = λ i apart. stored.others (LeafWord i WORDS) (λ e. apart (let same : i ≡ leaf = cc in same)) }) in
    let made' = subst (λ u. Makes (room_of count nodes) t u (t.key leaf) (Some (word - 1))) is made in
    record { lawful = record { tree = made'.tree; forms = λ x reach. form_kept w w' x (cells x) (lawful.forms x (from_named t t'.word (subst (λ u. Reaches u u.root (Cell x)) (sym is) reach))) }; same = made'.layer }

not_root : (part : Part) (o : ℕ) → RootWord ≢ part_word part o
not_root (LeafPart j) o e = cc
not_root (CellPart x) o e = cc

not_leaf : (part : Part) (i o : ℕ) → (part_reference part ≡ Leaf i → ⊥) → (o' : ℕ) → LeafWord i o ≢ part_word part o'
not_leaf (LeafPart j) i o apart o' e = apart (ap Leaf (let same : j ≡ i = cc in same))
not_leaf (CellPart x) i o apart o' e = cc

not_cell : (part : Part) (x o : ℕ) → (part_reference part ≡ Cell x → ⊥) → (o' : ℕ) → CellWord (kind_of x) (number_of x) o ≢ part_word part o'
not_cell (LeafPart j) x o apart o' e = cc
not_cell (CellPart y) x o apart o' e = cell_apart y x o o' (λ f. apart (ap Cell f)) e

leaf_word_same : (w w' : LayerWords) (part : Part) → (IsReached (tree_of w) (part_reference part) → ⊥) → AreSameBut part w w' → (i : ℕ) → IsReached (tree_of w) (Leaf i) → (o : ℕ) → w'.leaf i o ≡ w.leaf i o
leaf_word_same w w' part unreached same i reached o = same (LeafWord i o) (not_leaf part i o (λ e. unreached (subst (IsReached (tree_of w)) (sym e) reached)))

cell_word_same : (w w' : LayerWords) (part : Part) → (IsReached (tree_of w) (part_reference part) → ⊥) → AreSameBut part w w' → (x : ℕ) → IsReached (tree_of w) (Cell x) → (o : ℕ) → cell_in w' x o ≡ cell_in w x o
cell_word_same w w' part unreached same x reached o = same (CellWord (kind_of x) (number_of x) o) (not_cell part x o (λ e. unreached (subst (IsReached (tree_of w)) (sym e) reached)))

pub part_alike : (w w' : LayerWords) (part : Part) → (IsReached (tree_of w) (part_reference part) → ⊥) → AreSameBut part w w' → AreSameWhereReached (tree_of w) (tree_of w')
part_alike w w' part unreached same =
    let t = tree_of w in
    let root_same : w'.root ≡ w.root = same RootWord (not_root part) in
    record { root = ap reference_of root_same; here = λ q reached. at q reached (λ i reach o. leaf_word_same w w' part unreached same i reach o) (λ x reach o. cell_word_same w w' part unreached same x reach o) }
  where
    at : (q : Reference) → IsReached (tree_of w) q → ((i : ℕ) → IsReached (tree_of w) (Leaf i) → (o : ℕ) → w'.leaf i o ≡ w.leaf i o)
        → ((x : ℕ) → IsReached (tree_of w) (Cell x) → (o : ℕ) → cell_in w' x o ≡ cell_in w x o) → IsSameAt (tree_of w) (tree_of w') q
    at Nothing reached leaves cells = tt
    at (Leaf i) reached leaves cells = (leaf_key w w' i (λ o lt. leaves i reached o), leaves i reached WORDS)
    at (Cell x) reached leaves cells = (depth_kept w w' x (cells x reached), prefix_kept w w' x (cells x reached), λ b. child_kept w w' x (cells x reached) b)

part_stays : (count nodes : ℕ) (w w' : LayerWords) (part : Part) → IsLawful count nodes w → (IsReached (tree_of w) (part_reference part) → ⊥) → AreSameBut part w w' → StaysTree (room_of count nodes) (tree_of w) (tree_of w')
part_stays count nodes w w' part lawful unreached same = others_may_differ (room_of count nodes) (tree_of w) (tree_of w') lawful.tree (part_alike w w' part unreached same)

pub part_may_differ : PartMayDiffer
part_may_differ count nodes w w' part lawful unreached same =
    let stays = part_stays count nodes w w' part lawful unreached same in
    record {
      lawful = record { tree = stays.tree; forms = λ x reach. let reached = stays.reached (Cell x) reach in form_kept w w' x (cell_word_same w w' part unreached same x reached) (lawful.forms x reached) };
      same = stays.layer;
    }

-- and nothing more is reached
pub part_reached : (count nodes : ℕ) (w w' : LayerWords) (part : Part) → IsLawful count nodes w → (IsReached (tree_of w) (part_reference part) → ⊥) → AreSameBut part w w' → (q : Reference) → IsReached (tree_of w') q → IsReached (tree_of w) q
part_reached count nodes w w' part lawful unreached same = (part_stays count nodes w w' part lawful unreached same).reached
