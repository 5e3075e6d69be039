-- The stores by which a leaf comes into a cell that has room, where a change may begin its end.
use Rattle.std.proofs.Common.{◌≡◌, ◌≢◌, ℕ, ◌+◌, ◌/◌, ◌%◌, ◌^◌, ◌<◌, inl, inr, Some, sym, subst, ap, ◌∙◌, arith}
use Rattle.std.proofs.lemmas.Bool.{cases_eq}
use Rattle.cat_key.specs.declared.TheConstants.{WORDS}
use Rattle.radix_nodes.specs.Bytes.{byte_set}
use Rattle.radix_nodes.specs.Cells.{CellWords, children, IsForm, index_of}
use Rattle.radix_nodes.specs.Changes.{with_word, IsCellStore, IsQuietStore}
use Rattle.radix_nodes.proofs.IndexForm.{place_fills, index_adds}
use Rattle.tree_law.specs.Trees.{Nothing, Cell, Tree, IsLeaf, byte_at}
use Rattle.tree_law.specs.Switches.{Entry, IsSameAt}
use Rattle.tree_law.specs.Paths.{Comes}
use Rattle.layer_map.specs.Layers.{Layer}
use Rattle.tree_law.specs.Words.{Keeps, RootWord, LeafWord, CellWord, LayerWords, kind_of, number_of, reference_of, cell_in, tree_of, room_of, Stored, in_cell}
use Rattle.tree_law.specs.Changes.{IsFilledLeaf}
use Rattle.tree_law.proofs.StageLaw.{quiet_keeps}
use Rattle.tree_law.proofs.PathLaw.{comes_place}
use Rattle.tree_law.proofs.WordLaw.{cell_apart, depth_kept, prefix_kept, child_kept, head_kept, leaf_key}
use Rattle.tree_law.proofs.ChangeLaw.{set_adds}
use Rattle.tree_floor.proofs.FloorExact.{reference_some}
use Rattle.tree_look.proofs.LookExact.{cells_same}
use Rattle.tree_look.proofs.EndLaw.{leaf_is_added}
use Rattle.tree_change.specs.declared.finish.Target.TheVariants as target
use Rattle.tree_look.specs.declared.look.Spot.{Spot}
use Rattle.tree_look.specs.declared.look.Looked.TheVariants as looked
use Rattle.tree_look.specs.LookLaws.{IsLooked}
use Rattle.tree_change.specs.declared.room.Room.TheVariants.{Place}
use Rattle.tree_change.specs.Rooms.{IsRoom, AddBegins, QuietBegins}
use Rattle.tree_change.proofs.EndingLaw.{switch_begins}

pub add_begins : AddBegins
add_begins count nodes before w key node cell depth leaf offset word reference spot same lawful found filled is store =
    switch_begins count nodes before w (target.Cell cell offset) word key (Some node) same (λ w' stored.
    leaf_is_added count nodes w w' key node cell depth leaf reference spot lawful found filled is
    (in_cell stored (subst (λ c'. IsCellStore (kind_of cell) (cell_in w cell) c' (byte_at depth key) reference) (cells_same w w' cell offset word stored) store)))

-- a quiet store leaves the tree
quiet_tree : (w w' : LayerWords) (x o z : ℕ) → Stored w w' (CellWord (kind_of x) (number_of x) o) z → IsQuietStore (kind_of x) (cell_in w x) (cell_in w' x) → tree_of w' ≡ tree_of w
quiet_tree w w' x o z stored quiet = λ k. record {
  root = ap reference_of (stored.others RootWord (λ e. cc)) k;
  depth = λ y. (alike y).0 k;
  prefix = λ y. (alike y).1 k;
  child = λ y b. (alike y).2 b k;
  key = λ i. leaf_key w w' i (λ p lt. leaves i p) k;
  word = λ i. leaves i WORDS k;
}
  where
    leaves : (i p : ℕ) → w'.leaf i p ≡ w.leaf i p
    leaves i p = stored.others (LeafWord i p) (λ e. cc)

    cells : (y : ℕ) → x ≢ y → (p : ℕ) → cell_in w' y p ≡ cell_in w y p
    cells y apart p = stored.others (CellWord (kind_of y) (number_of y) p) (cell_apart x y p o apart)

    alike : (y : ℕ) → IsSameAt (tree_of w) (tree_of w') (Cell y)
    alike y = elim (cases_eq x y) [
      | inl same ↦ subst (λ v. IsSameAt (tree_of w) (tree_of w') (Cell v)) same (quiet.head 0 (omega arith), head_kept w w' x quiet.head, λ b. ap reference_of (quiet.same b))
      | inr apart ↦ (depth_kept w w' y (cells y apart), prefix_kept w w' y (cells y apart), λ b. child_kept w w' y (cells y apart) b)
    ]

-- the store of the index word that gives the byte its place
index_store : (c c' : CellWords) (place byte index reference : ℕ) → IsQuietStore 4 c c' → ((o : ℕ) → o ≢ 40 + place → c' o ≡ c o) → c' (40 + place) ≡ reference → reference ≢ 0 → place < 48 → byte < 256
    → ((b : ℕ) → b < 256 → index_of c b ≢ place + 1) → children 4 c byte ≡ 0 → index ≡ c (8 + byte / 8)
    → IsCellStore 4 c' (with_word c' (8 + byte / 8) (byte_set index (byte % 8) (place + 1))) byte reference
index_store c c' place byte index reference quiet kept here some_reference lt small free none is =
    let same_index : (b : ℕ) → b < 256 → index_of c' b ≡ index_of c b = λ b less. ap (λ v. v / 256 ^ (b % 8) % 256) (kept (8 + b / 8) (λ e. omega arith)) in
    let adds = index_adds c' byte place quiet.form small lt (λ b less e. free b less (sym (same_index b less) ∙ e)) (λ e. some_reference (sym here ∙ e)) (quiet.same byte ∙ none) in
    let own : c' (8 + byte / 8) ≡ index = kept (8 + byte / 8) (λ e. omega arith) ∙ sym is in
    subst (λ v. IsCellStore 4 c' (with_word c' (8 + byte / 8) (byte_set v (byte % 8) (place + 1))) byte reference) own
    (subst (λ r. IsCellStore 4 c' (with_word c' (8 + byte / 8) (byte_set (c' (8 + byte / 8)) (byte % 8) (place + 1))) byte r) here adds)

pub no_child : (r : ℕ) → reference_of r ≡ Nothing → r ≡ 0
no_child r is = elim (cases_eq r 0) [ inl none ↦ none | inr some ↦ absurd (reference_some r some is) ]

-- what the first store of form 48 leaves: the tree as it was, and the store that is to come
pub record QuietMade (count nodes : ℕ) (before : Layer) (w w' : LayerWords) (key node cell byte leaf place index reference : ℕ) : Type 0 where
  pub keeps : Keeps count nodes before w'
  pub same : tree_of w' ≡ tree_of w
  pub comes : Comes (tree_of w') key (Entry cell byte)
  pub nothing : (tree_of w').child cell byte ≡ Nothing
  pub filled : IsFilledLeaf count nodes w' key node leaf
  pub store : IsCellStore (kind_of cell) (cell_in w' cell) (with_word (cell_in w' cell) (8 + byte / 8) (byte_set index (byte % 8) (place + 1))) byte reference

pub quiet_made : (count nodes : ℕ) (before : Layer) (w : LayerWords) (key node cell depth leaf place index reference : ℕ) (spot : Spot) → Keeps count nodes before w → IsLooked w key (looked.Nothing spot cell depth) → IsFilledLeaf count nodes w key node leaf → reference ≢ 0
    → IsRoom (kind_of cell) (cell_in w cell) (byte_at depth key) (Place place index) → byte_at depth key < 256 → (w' : LayerWords) → Stored w w' (CellWord (kind_of cell) (number_of cell) (40 + place)) reference
    → QuietMade count nodes before w w' key node cell (byte_at depth key) leaf place index reference
quiet_made count nodes before w key node cell depth leaf place index reference spot keeps found filled some_reference room small w' stored =
    let byte = byte_at depth key in
    let t = tree_of w in
    let c = cell_in w cell in
    let c' = cell_in w' cell in
    let four : kind_of cell ≡ 4 = room.0 in
    let lt : place < 48 = room.1.within in
    let form : IsForm 4 c = subst (λ k. IsForm k c) four (keeps.lawful.forms cell (comes_place t key (Entry cell byte) found.2)) in
    let quiet4 : IsQuietStore 4 c c' = subst (IsQuietStore 4 c) (cells_same w w' cell (40 + place) reference stored) (place_fills c place reference form lt room.1.free) in
    let quiet : IsQuietStore (kind_of cell) c c' = subst (λ k. IsQuietStore k c c') (sym four) quiet4 in
    let same = quiet_tree w w' cell (40 + place) reference stored quiet in
    let kept : (o : ℕ) → o ≢ 40 + place → c' o ≡ c o = λ o apart. stored.others (CellWord (kind_of cell) (number_of cell) o) (λ e. apart (let o_is : o ≡ 40 + place = cc in o_is)) in
    let none : children 4 c byte ≡ 0 = ap (λ k. children k c byte) (sym four) ∙ no_child (children (kind_of cell) c byte) found.3 in
    let z = byte_set index (byte % 8) (place + 1) in
    record {
      keeps = quiet_keeps count nodes before w w' cell (40 + place) reference keeps stored quiet;
      same = same;
      comes = subst (λ v. Comes v key (Entry cell byte)) (sym same) found.2;
      nothing = subst (λ (v : Tree). v.child cell byte ≡ Nothing) (sym same) found.3;
      filled = record {
        sound = subst (λ v. IsLeaf (room_of count nodes) v leaf) (sym same) filled.sound;
        key_is = subst (λ (v : Tree). v.key leaf ≡ key) (sym same) filled.key_is;
        word = subst (λ (v : Tree). v.word leaf ≡ node + 1) (sym same) filled.word;
      };
      store = subst (λ k. IsCellStore k c' (with_word c' (8 + byte / 8) z) byte reference) (sym four)
          (index_store c c' place byte index reference quiet4 kept stored.here some_reference lt small room.1.free none room.2);
    }

pub quiet_begins : QuietBegins
quiet_begins count nodes before w key node cell depth leaf place index reference spot keeps found filled is some_reference room small w' stored =
    let byte = byte_at depth key in
    let c' = cell_in w' cell in
    let z = byte_set index (byte % 8) (place + 1) in
    let made = quiet_made count nodes before w key node cell depth leaf place index reference spot keeps found filled some_reference room small w' stored in (
      made.keeps,
      switch_begins count nodes before w' (target.Cell cell (8 + byte / 8)) z key (Some node) made.keeps.same (λ w'' stored'.
          set_adds count nodes w' w'' key node leaf cell byte reference made.keeps.lawful made.comes made.nothing made.filled is
          (in_cell stored' (subst (λ v. IsCellStore (kind_of cell) c' v byte reference) (cells_same w' w'' cell (8 + byte / 8) z stored') made.store))),
    )
