-- What a change of the words makes of what their tree reaches, and of the marks that tell it.
use Rattle.std.proofs.Common.{◌≡◌, ◌≢◌, ℕ, ◌&&◌, ◌⊎◌, leb, ltb, inl, inr, refl, sym, subst, ap, ◌∙◌}
use Rattle.std.proofs.lemmas.Bool.{cases_eq, leb-true, and_parts}
use Rattle.tree_law.specs.Trees.{Reference, Nothing, Leaf, Cell, Tree, Reaches, here, below, IsReached, byte_at, low}
use Rattle.tree_law.specs.Switches.{Place, Entry, reference_at, IsSwitched, AreSameWhereReached}
use Rattle.tree_law.specs.Reached.{Parts, NoPart, Only, Both, IsAmong, ReachesAfter}
use Rattle.tree_law.specs.Words.{LayerWords, kind_of, number_of, reference_of, tree_of, room_of, IsLawful, IsSwitchStore}
use Rattle.tree_law.specs.Stages.{Marks}
use Rattle.tree_law.specs.Marking.{mark_of, MayHaveMark, MarksFollow, FillReaches, NodeWordReaches, SetAddReaches, SetPairReaches, SetGrowReaches, UnsetRemoveReaches, UnsetCollapseReaches, MarksTellAgain}
use Rattle.tree_law.proofs.Avoiding.{join}
use Rattle.tree_law.proofs.OtherLaw.{to_named, from_named}
use Rattle.tree_law.proofs.ChangeLaw.{way_grows}
use Rattle.tree_law.proofs.PathLaw.{way_adds, way_pairs}
use Rattle.tree_law.proofs.WordLaw.{switching, node_named, part_alike, part_reached}
use Rattle.tree_law.proofs.ReachedLaw.{add_reaches, pair_reaches, grow_reaches, remove_reaches, collapse_reaches}

-- what is reached is reached in a tree that is the same where it is reached
forward : (t t' : Tree) → AreSameWhereReached t t' → (r q : Reference) → IsReached t r → Reaches t r q → Reaches t' r q
forward t t' alike r q reached here = here
forward t t' alike r q reached (below {x = x} {b = b} some_child reach) =
    let cell = alike.here (Cell x) reached in
    let same : t'.child x b ≡ t.child x b = cell.2 b in
    below (λ e. some_child (sym same ∙ e)) (subst (λ c. Reaches t' c q) (sym same) (forward t t' alike (t.child x b) q (join t reached (below some_child here)) reach))

pub fill_reaches : FillReaches
fill_reaches count nodes w w' part lawful unreached same =
    let t = tree_of w in
    let t' = tree_of w' in
    let alike = part_alike w w' part unreached same in
    record {
      comes = λ q none. absurd none;
      goes = λ q none reach. none;
      stays = λ q reach kept. subst (λ r. Reaches t' r q) (sym alike.root) (forward t t' alike t.root q here reach);
      only = λ q reach. inl (part_reached count nodes w w' part lawful unreached same q reach);
    }

pub node_word_reaches : NodeWordReaches
node_word_reaches w w' leaf word stored =
    let t = tree_of w in
    subst (λ after. ReachesAfter t after NoPart NoPart) (node_named w w' leaf word stored) (record {
      comes = λ q none. absurd none;
      goes = λ q none reach. none;
      stays = λ q reach kept. to_named t (tree_of w').word reach;
      only = λ q reach. inl (from_named t (tree_of w').word reach);
    })

-- by the switch of the tree that a store is
module _ (count nodes : ℕ) (w w' : LayerWords) (place : Place) (reference : ℕ) (new : Reference) (more less : Parts) where
  by_switch : IsLawful count nodes w → reference_of reference ≡ new → IsSwitchStore w w' place reference
      → (IsSwitched (tree_of w) (tree_of w').root (tree_of w').child place new → ReachesAfter (tree_of w) (record (tree_of w) { root = (tree_of w').root; child = (tree_of w').child }) more less)
      → ReachesAfter (tree_of w) (tree_of w') more less
  by_switch lawful is store reaches =
      let switch = switching count nodes w w' place reference lawful store in
      subst (λ after. ReachesAfter (tree_of w) after more less) switch.tree (reaches (subst (IsSwitched (tree_of w) (tree_of w').root (tree_of w').child place) is switch.switched))

pub set_add_reaches : SetAddReaches
set_add_reaches count nodes w w' key node leaf x b reference lawful comes none filled is store =
    let room = room_of count nodes in
    let t = tree_of w in
    by_switch count nodes w w' (Entry x b) reference (Leaf leaf) _ _ lawful is store (λ switched.
    add_reaches room t (tree_of w').root (tree_of w').child x b leaf lawful.tree (way_adds room t key leaf x b lawful.tree comes none filled.sound filled.key_is) switched)

pub set_pair_reaches : SetPairReaches
set_pair_reaches count nodes w w' place key node depth pair leaf lawful comes some_old parts less filled is_pair unreached is store =
    let room = room_of count nodes in
    let t = tree_of w in
    by_switch count nodes w w' place pair (Cell pair) _ _ lawful is store (λ switched.
    pair_reaches room t (tree_of w').root (tree_of w').child place pair (byte_at depth (low t (reference_at t place))) (byte_at depth key) leaf lawful.tree
    (way_pairs room t place key depth pair leaf lawful.tree comes some_old parts less filled.sound filled.key_is is_pair) unreached switched)

pub set_grow_reaches : SetGrowReaches
set_grow_reaches count nodes w w' place key node x grown b leaf lawful comes at_x comes_x none filled is_grown unreached is store =
    let room = room_of count nodes in
    let t = tree_of w in
    by_switch count nodes w w' place grown (Cell grown) _ _ lawful is store (λ switched.
    grow_reaches room t (tree_of w').root (tree_of w').child place x grown b leaf lawful.tree
    (way_grows count nodes w place key node x grown b leaf lawful comes at_x comes_x none filled is_grown) unreached switched)

pub unset_remove_reaches : UnsetRemoveReaches
unset_remove_reaches count nodes w w' x b leaf lawful removes store =
    by_switch count nodes w w' (Entry x b) 0 _ _ _ lawful refl store (λ switched.
    remove_reaches (room_of count nodes) (tree_of w) (tree_of w').root (tree_of w').child x b leaf lawful.tree removes switched)

pub unset_collapse_reaches : UnsetCollapseReaches
unset_collapse_reaches count nodes w w' place x b leaf other_byte reference lawful collapses is store =
    by_switch count nodes w w' place reference ((tree_of w).child x other_byte) _ _ lawful is store (λ switched.
    collapse_reaches (room_of count nodes) (tree_of w) (tree_of w').root (tree_of w').child place x b leaf other_byte lawful.tree collapses switched)

same_or_not : (q r : Reference) → (q ≡ r) ⊎ (q ≢ r)
same_or_not Nothing Nothing = inl refl
same_or_not Nothing (Leaf j) = inr (λ e. cc)
same_or_not Nothing (Cell y) = inr (λ e. cc)
same_or_not (Leaf i) Nothing = inr (λ e. cc)
same_or_not (Leaf i) (Leaf j) = elim (cases_eq i j) [ inl same ↦ inl (ap Leaf same) | inr other ↦ inr (λ e. other (let number : i ≡ j = cc in number)) ]
same_or_not (Leaf i) (Cell y) = inr (λ e. cc)
same_or_not (Cell x) Nothing = inr (λ e. cc)
same_or_not (Cell x) (Leaf j) = inr (λ e. cc)
same_or_not (Cell x) (Cell y) = elim (cases_eq x y) [ inl same ↦ inl (ap Cell same) | inr other ↦ inr (λ e. other (let number : x ≡ y = cc in number)) ]

among_or_not : (parts : Parts) (q : Reference) → IsAmong parts q ⊎ (IsAmong parts q → ⊥)
among_or_not NoPart q = inr (λ none. none)
among_or_not (Only r) q = same_or_not q r
among_or_not (Both r s) q = elim (same_or_not q r) [
  | inl first ↦ inl (inl first)
  | inr not_first ↦ elim (same_or_not q s) [
    | inl second ↦ inl (inr second)
    | inr not_second ↦ inr (λ part. elim part [ inl first ↦ not_first first | inr second ↦ not_second second ])
  ]
]

-- what a mark is afterwards, by what becomes of its part
abbrev FollowsAt : Parts → Parts → Reference → ℕ → ℕ → Type 0
FollowsAt more less q mark mark' = (IsAmong more q × (mark' ≢ 0)) ⊎ (IsAmong less q × (mark' ≡ 0)) ⊎ ((IsAmong more q → ⊥) × (IsAmong less q → ⊥) × (mark' ≡ mark))

follows : (marks marks' : Marks) (more less : Parts) → MarksFollow marks marks' more less → (q : Reference) → MayHaveMark q → FollowsAt more less q (mark_of marks q) (mark_of marks' q)
follows marks marks' more less follow q may = elim (among_or_not more q) [
  | inl comes ↦ inl (comes, follow.comes q comes)
  | inr not_more ↦ elim (among_or_not less q) [
    | inl goes ↦ inr (inl (goes, follow.goes q goes))
    | inr not_less ↦ inr (inr (not_more, not_less, follow.stays q may not_more not_less))
  ]
]

pub marks_tell_again : MarksTellAgain
marks_tell_again count nodes w w' marks marks' more less lawful after follow tell = record {
  leaf = λ i lt some_mark. elim (follows marks marks' more less follow (Leaf i) tt) [
    | inl comes ↦ after.comes (Leaf i) comes.0
    | inr rest ↦ elim rest [ inl goes ↦ absurd (some_mark goes.1) | inr same ↦ after.stays (Leaf i) (tell.leaf i lt (λ e. some_mark (same.2 ∙ e))) same.1 ]
  ];
  cell = λ x least most lt some_mark. elim (follows marks marks' more less follow (Cell x) (least, most)) [
    | inl comes ↦ after.comes (Cell x) comes.0
    | inr rest ↦ elim rest [ inl goes ↦ absurd (some_mark goes.1) | inr same ↦ after.stays (Cell x) (tell.cell x least most lt (λ e. some_mark (same.2 ∙ e))) same.1 ]
  ];
  used_leaf = λ i reach none. elim (follows marks marks' more less follow (Leaf i) tt) [
    | inl comes ↦ comes.1 none
    | inr rest ↦ elim rest [
      | inl goes ↦ after.goes (Leaf i) goes.0 reach
      | inr same ↦ elim (after.only (Leaf i) reach) [ inl before ↦ tell.used_leaf i before (sym same.2 ∙ none) | inr new ↦ same.0 new ]
    ]
  ];
  used_cell = λ x reach none.
      let number = (lawful.tree (Cell x) reach).number in
      let kinds = and_parts (leb 2 (kind_of x)) (leb (kind_of x) 5) (and_parts (leb 2 (kind_of x) && leb (kind_of x) 5) (ltb (number_of x) count) number).0 in
      elim (follows marks marks' more less follow (Cell x) (leb-true _ _ kinds.0, leb-true _ _ kinds.1)) [
        | inl comes ↦ comes.1 none
        | inr rest ↦ elim rest [
          | inl goes ↦ after.goes (Cell x) goes.0 reach
          | inr same ↦ elim (after.only (Cell x) reach) [ inl before ↦ tell.used_cell x before (sym same.2 ∙ none) | inr new ↦ same.0 new ]
        ]
      ];
}
