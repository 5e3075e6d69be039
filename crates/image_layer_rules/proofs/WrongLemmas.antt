-- What is wrong with a cell of the tree is one of what a check looks at.
use Rattle.std.proofs.Common.{◌≡◌, ◌≢◌, ℕ, ◌+◌, ◌*◌, ◌/◌, ◌^◌, ◌<◌, ◌≤◌, ◌==◌, ◌⊎◌, cond, le-ltb, true, false, not, Bool, List, inl, inr, refl, sym, subst, ap, ap₂, ◌∙◌, arith}
use Rattle.std.specs.Prelude.{◌↔◌, IsTrue}
use Rattle.std.proofs.lemmas.Bool.{cases_eq, cases_lt, false≢true, eqb-true}
use mathlib.Core.Path.{fun_ext}
use Rattle.pm_words.specs.declared.layout.Layout.{Layout}
use Rattle.pm_words.specs.Locations.{leaf_count}
use Rattle.radix_nodes.specs.declared.cell.Cell as cells
use Rattle.radix_nodes.specs.Keys.{key_bytes}
use Rattle.radix_nodes.specs.Cells.{CellWords, Children, seek, index_of, indexed, direct, children, children_of, words_of, HasSpare, AreEntries, IsIndexed, IsForm}
use Rattle.radix_nodes.proofs.EntryForms.{seek_none}
use Rattle.tree_law.specs.Trees.{Nothing, Leaf, Cell, IsUnder, HasTwo, first_bytes, low, depth_of}
use Rattle.tree_law.specs.Words.{kind_of, reference_of}
use Rattle.tree_law.proofs.Reach.{is_nothing}
use Rattle.tree_floor.proofs.FloorExact.{reference_some}
use Rattle.image_layer_rules.specs.Anchors.{AreKeyWords}
use Rattle.image_layer_rules.specs.Heads.{HasPrefix}
use Rattle.image_layer_rules.specs.Branches.{HasNoneFrom, IsNextFrom, HasTwoBytes}
use Rattle.image_layer_rules.specs.Faults.{image_tree, image_room, image_cell, leaf_key, IsWrong, has_no_leaf, has_no_cell, has_no_key, has_no_node, is_past_nodes, is_too_deep, has_no_prefix, has_no_spare, has_few, has_no_four, has_no_sixteen, has_no_index, is_not_under, is_not_deeper}
use Rattle.image_layer_rules.specs.Checks.{IsRead, HasForm, IsRightChild, HasWrongChild, IsWrongCell}

-- no byte past the last has a child
entries_end : (c : CellWords) (first count b : ℕ) → AreEntries c first count → 256 ≤ b → seek c first count b ≡ 0
entries_end c first count b are past = seek_none c first count b (λ i lt fits. let small = are.byte i lt fits.0 in let is = fits.1 in omega arith)

children_end : (kind : ℕ) (c : CellWords) (b : ℕ) → IsForm kind c → 256 ≤ b → children kind c b ≡ 0
children_end kind c b form past = elim (kind == 2) as (λ a. (kind == 2) ≡ a → cond a (seek c 4 4 b) (cond (kind == 3) (seek c 8 16 b) (cond (kind == 4) (indexed c b) (direct c b))) ≡ 0) [
  | true ↦ λ e. entries_end c 4 4 b (form.four (eqb-true _ _ e)) past
  | false ↦ λ e. elim (kind == 3) as (λ a. (kind == 3) ≡ a → cond a (seek c 8 16 b) (cond (kind == 4) (indexed c b) (direct c b)) ≡ 0) [
    | true ↦ λ e. entries_end c 8 16 b (form.sixteen (eqb-true _ _ e)) past
    | false ↦ λ e. elim (kind == 4) as (λ a. cond a (indexed c b) (direct c b) ≡ 0) [
      | true ↦ ap (λ t. cond t (cond (index_of c b == 0) 0 (c (39 + index_of c b))) 0) (le-ltb b 256 past)
      | false ↦ ap (λ t. cond t (c (8 + b)) 0) (le-ltb b 256 past)
    ]
  ] refl
] refl

-- the cell that was read has the children of the tree's
pub read_words : (l : Layout) (image : List ℕ) (x : ℕ) (cell : cells.Cell) → IsRead l image x cell → words_of cell ≡ image_cell l image x
read_words l image x cell read = fun_ext read.words

pub read_children : (l : Layout) (image : List ℕ) (x : ℕ) (cell : cells.Cell) → IsRead l image x cell → children_of cell ≡ children (kind_of x) (image_cell l image x)
read_children l image x cell read = fun_ext (λ b. ap₂ (λ k c. children k c b) read.kind (read_words l image x cell read))

pub child_is : (l : Layout) (image : List ℕ) (x : ℕ) (cell : cells.Cell) → IsRead l image x cell → (b child : ℕ) → child ≡ children_of cell b → (image_tree l image).child x b ≡ reference_of child
child_is l image x cell read b child is = ap reference_of (sym (is ∙ ap (λ m. m b) (read_children l image x cell read)))

pub right_told : (l : Layout) (image : List ℕ) (x : ℕ) (cell : cells.Cell) → IsRead l image x cell → (b child : ℕ) (result : Bool) → child ≡ children_of cell b → child ≢ 0 → IsTrue result ↔ IsUnder (image_tree l image) x b (reference_of child) → IsTrue result ↔ IsRightChild l image x b
right_told l image x cell read b child result is some_child under =
    let same = child_is l image x cell read b child is in (
      λ yes some_here. subst (IsUnder (image_tree l image) x b) (sym same) (under.0 yes),
      λ right. under.1 (subst (IsUnder (image_tree l image) x b) same (right (λ e. reference_some child some_child (sym same ∙ e)))),
    )

pub none_right : (l : Layout) (image : List ℕ) (x : ℕ) (cell : cells.Cell) → IsRead l image x cell → (b child : ℕ) → child ≡ children_of cell b → child ≡ 0 → IsRightChild l image x b
none_right l image x cell read b child is none some_here = absurd (some_here (child_is l image x cell read b child is ∙ ap reference_of none))

module _ (l : Layout) (image : List ℕ) (x : ℕ) where
  m : Children
  m = children (kind_of x) (image_cell l image x)

  some_there : (b : ℕ) → children (kind_of x) (image_cell l image x) b ≢ 0 → (image_tree l image).child x b ≢ Nothing
  some_there b some_child = reference_some (children (kind_of x) (image_cell l image x) b) some_child

  some_word : (b : ℕ) → (image_tree l image).child x b ≢ Nothing → children (kind_of x) (image_cell l image x) b ≢ 0
  some_word b some_child none = some_child (ap reference_of none)

  pub byte_within : HasForm l image x → (b : ℕ) → (image_tree l image).child x b ≢ Nothing → b < 256
  byte_within form b some_child = elim (cases_lt b 256) [
    | inl lt ↦ lt
    | inr past ↦ absurd (some_word b some_child (children_end (kind_of x) (image_cell l image x) b form past))
  ]

  pub two_children : HasTwoBytes (children (kind_of x) (image_cell l image x)) → HasTwo (image_tree l image) x
  two_children two =
      let lt = two.rising in
      record { one = two.one; two = two.two; apart = λ e. omega arith; has_one = some_there two.one two.has_one; has_two = some_there two.two two.has_two }

  pub two_bytes : HasForm l image x → HasTwo (image_tree l image) x → HasTwoBytes (children (kind_of x) (image_cell l image x))
  two_bytes form two = elim (cases_lt two.one two.two) [
    | inl less ↦ record { one = two.one; two = two.two; rising = less; within = byte_within form two.two two.has_two; has_one = some_word two.one two.has_one; has_two = some_word two.two two.has_two }
    | inr more ↦ record {
      one = two.two;
      two = two.one;
      rising = (let apart = two.apart in omega (arith, apart));
      within = byte_within form two.one two.has_one;
      has_one = some_word two.two two.has_two;
      has_two = some_word two.one two.has_one;
    }
  ]

  -- a child that isn't right is one of the two faults
  pub wrong_child : (b : ℕ) → b < 256 → ¬ IsRightChild l image x b → IsWrong l image (Cell x)
  wrong_child b lt wrong = elim (is_nothing ((image_tree l image).child x b)) [
    | inl none ↦ absurd (wrong (λ some_child. absurd (some_child none)))
    | inr some_child ↦
        let t = image_tree l image in
        elim (cases_eq (first_bytes (t.depth x + 1) (low t (t.child x b))) (256 * first_bytes (t.depth x) (t.prefix x) + b)) [
          | inl bytes ↦ elim (cases_lt (t.depth x) (depth_of t (t.child x b))) [
            | inl deeper ↦ absurd (wrong (λ some_here. record { byte = lt; bytes = bytes; deeper = deeper }))
            | inr flat ↦ is_not_deeper b some_child flat
          ]
          | inr other ↦ is_not_under b some_child other
        ]
  ]

-- a form is broken in one of four ways
spare_stable : (c : CellWords) → ¬ ¬ HasSpare c → HasSpare c
spare_stable c twice o low high = elim (cases_eq (c o) 0) [ inl is ↦ is | inr other ↦ absurd (twice (λ spare. other (spare o low high))) ]

entries_stable : (c : CellWords) (first count : ℕ) → ¬ ¬ AreEntries c first count → AreEntries c first count
entries_stable c first count twice = record {
  byte = λ i lt some_word. elim (cases_lt (c (first + i) / 2 ^ 32) 256) [ inl less ↦ less | inr more ↦ absurd (twice (λ are. let less = are.byte i lt some_word in omega arith)) ];
  reference = λ i lt some_word none. twice (λ are. are.reference i lt some_word none);
  apart = λ i j lt lt' some_i some_j same. elim (cases_eq i j) [ inl is ↦ is | inr other ↦ absurd (twice (λ are. other (are.apart i j lt lt' some_i some_j same))) ];
}

index_stable : (c : CellWords) → ¬ ¬ IsIndexed c → IsIndexed c
index_stable c twice = record {
  places = λ b lt. elim (cases_lt 48 (index_of c b)) [ inl more ↦ absurd (twice (λ are. let le = are.places b lt in omega arith)) | inr le ↦ le ];
  references = λ b lt some_place none. twice (λ are. are.references b lt some_place none);
  apart = λ a b lt lt' some_place same. elim (cases_eq a b) [ inl is ↦ is | inr other ↦ absurd (twice (λ are. other (are.apart a b lt lt' some_place same))) ];
}

pub form_if : (l : Layout) (image : List ℕ) (x : ℕ) → ¬ IsWrong l image (Cell x) → HasForm l image x
form_if l image x right = record {
  spare = λ other. spare_stable (image_cell l image x) (λ fails. right (has_no_spare other fails));
  four = λ is. entries_stable (image_cell l image x) 4 4 (λ fails. right (has_no_four is fails));
  sixteen = λ is. entries_stable (image_cell l image x) 8 16 (λ fails. right (has_no_sixteen is fails));
  forty_eight = λ is. index_stable (image_cell l image x) (λ fails. right (has_no_index is fails));
}

-- words 4 to 7 are 0 or not
four_zeros : (c : CellWords) → c 4 ≡ 0 → c 5 ≡ 0 → c 6 ≡ 0 → c 7 ≡ 0 → HasSpare c
four_zeros c four five six seven o low high = elim (cases_eq o 4) [
  | inl is ↦ ap c is ∙ four
  | inr not_four ↦ elim (cases_eq o 5) [
    | inl is ↦ ap c is ∙ five
    | inr not_five ↦ elim (cases_eq o 6) [ inl is ↦ ap c is ∙ six | inr not_six ↦ ap c (let is : o ≡ 7 = omega (arith, not_four, not_five, not_six) in is) ∙ seven ]
  ]
]

spare_or_not : (c : CellWords) → HasSpare c ⊎ ¬ HasSpare c
spare_or_not c = elim (cases_eq (c 4) 0) [
  | inr fails ↦ inr (λ spare. fails (spare 4 (omega arith) (omega arith)))
  | inl four ↦ elim (cases_eq (c 5) 0) [
    | inr fails ↦ inr (λ spare. fails (spare 5 (omega arith) (omega arith)))
    | inl five ↦ elim (cases_eq (c 6) 0) [
      | inr fails ↦ inr (λ spare. fails (spare 6 (omega arith) (omega arith)))
      | inl six ↦ elim (cases_eq (c 7) 0) [ inr fails ↦ inr (λ spare. fails (spare 7 (omega arith) (omega arith))) | inl seven ↦ inl (four_zeros c four five six seven) ]
    ]
  ]
]

-- what isn't of its form is so in one of the four ways
pub wrong_form : (l : Layout) (image : List ℕ) (x : ℕ) → ¬ HasForm l image x → IsWrong l image (Cell x)
wrong_form l image x wrong =
    let c = image_cell l image x in
    elim (cases_eq (kind_of x) 2) [
      | inl two ↦
          has_no_four two (λ are. wrong (record { spare = λ other. absurd (other two); four = λ is. are; sixteen = λ is. absurd (omega arith); forty_eight = λ is. absurd (omega arith) }))
      | inr not_two ↦ elim (spare_or_not c) [
        | inr fails ↦ has_no_spare not_two fails
        | inl spare ↦ elim (cases_eq (kind_of x) 3) [
          | inl three ↦ has_no_sixteen three (λ are. wrong (record { spare = λ other. spare; four = λ is. absurd (not_two is); sixteen = λ is. are; forty_eight = λ is. absurd (omega arith) }))
          | inr not_three ↦ elim (cases_eq (kind_of x) 4) [
            | inl four ↦ has_no_index four (λ are. wrong (record { spare = λ other. spare; four = λ is. absurd (not_two is); sixteen = λ is. absurd (not_three is); forty_eight = λ is. are }))
            | inr not_four ↦ absurd (wrong (record { spare = λ other. spare; four = λ is. absurd (not_two is); sixteen = λ is. absurd (not_three is); forty_eight = λ is. absurd (not_four is) }))
          ]
        ]
      ]
    ]

-- what is wrong with a cell, if all that comes before its children is right
in_child : (l : Layout) (image : List ℕ) (x : ℕ) → (image_room l).is_cell x ≡ true → (image_tree l image).depth x < key_bytes → HasForm l image x → HasPrefix (image_tree l image) x → HasTwo (image_tree l image) x → IsWrong l image (Cell x) → HasWrongChild l image x
in_child l image x number depth form prefix two (has_no_cell fails) = absurd (false≢true (sym fails ∙ number))
in_child l image x number depth form prefix two (is_too_deep deep) = absurd (omega arith)
in_child l image x number depth form prefix two (has_no_prefix fails) = absurd (fails prefix)
in_child l image x number depth form prefix two (has_no_spare other fails) = absurd (fails (form.spare other))
in_child l image x number depth form prefix two (has_few fails) = absurd (fails two)
in_child l image x number depth form prefix two (has_no_four is fails) = absurd (fails (form.four is))
in_child l image x number depth form prefix two (has_no_sixteen is fails) = absurd (fails (form.sixteen is))
in_child l image x number depth form prefix two (has_no_index is fails) = absurd (fails (form.forty_eight is))
in_child l image x number depth form prefix two (is_not_under b some_child fails) = (b, byte_within l image x form b some_child, λ right. fails (right some_child).bytes)
in_child l image x number depth form prefix two (is_not_deeper b some_child flat) = (b, byte_within l image x form b some_child, λ right. let deeper = (right some_child).deeper in omega arith)

pub cell_told : (l : Layout) (image : List ℕ) (x : ℕ) (result : Bool) → (image_room l).is_cell x ≡ true → (image_tree l image).depth x < key_bytes → HasForm l image x → HasPrefix (image_tree l image) x → HasTwo (image_tree l image) x → IsTrue result ↔ HasWrongChild l image x → IsTrue result ↔ IsWrongCell l image x
cell_told l image x result number depth form prefix two child = (
  λ yes. let wrong = child.0 yes in wrong_child l image x wrong.0 wrong.1 wrong.2,
  λ wrong. child.1 (in_child l image x number depth form prefix two wrong),
)

-- what is wrong with a leaf, but for its key
key_wrong : (l : Layout) (image : List ℕ) (i : ℕ) → i < leaf_count l → (image_tree l image).word i ≢ 0 → (image_tree l image).word i ≤ l.nodes → IsWrong l image (Leaf i) → ¬ AreKeyWords (leaf_key l image i)
key_wrong l image i within some_node node (has_no_leaf past) = absurd (omega arith)
key_wrong l image i within some_node node (has_no_key fails) = fails
key_wrong l image i within some_node node (has_no_node none) = absurd (some_node none)
key_wrong l image i within some_node node (is_past_nodes past) = absurd (omega arith)

pub leaf_told : (l : Layout) (image : List ℕ) (i : ℕ) (key : Bool) → i < leaf_count l → (image_tree l image).word i ≢ 0 → (image_tree l image).word i ≤ l.nodes → IsTrue key ↔ AreKeyWords (leaf_key l image i) → IsTrue (not key) ↔ IsWrong l image (Leaf i)
leaf_told l image i true within some_node node is = (λ fails. absurd (false≢true fails), λ wrong. absurd (key_wrong l image i within some_node node wrong (is.0 refl)))
leaf_told l image i false within some_node node is = (λ _. has_no_key (λ are. false≢true (is.1 are)), λ _. refl)

-- two bytes, one after the other
pub two_told : (m : Children) (one two : ℕ) → IsNextFrom m 0 one → IsNextFrom m (one + 1) two → HasTwoBytes m
two_told m one two first second = let least = second.least in record { one = one; two = two; rising = omega arith; within = second.within; has_one = first.some_child; has_two = second.some_child }

pub one_told : (m : Children) (one : ℕ) → IsNextFrom m 0 one → HasNoneFrom m (one + 1) → ¬ HasTwoBytes m
one_told m one first none two =
    let rising = two.rising in
    let within = two.within in
    elim (cases_lt one two.two) [
      | inl less ↦ two.has_two (none two.two (omega arith) within)
      | inr more ↦ two.has_one (first.none_between two.one (omega arith) (omega arith))
    ]

-- a cell that was read has the form, and two children, where the tree's cell has
pub form_told : (l : Layout) (image : List ℕ) (x : ℕ) (cell : cells.Cell) → IsRead l image x cell → (result : Bool) → IsTrue result ↔ IsForm cell.kind (words_of cell) → IsTrue result ↔ HasForm l image x
form_told l image x cell read result is =
    let words = read_words l image x cell read in (
      λ yes. subst (λ k. IsForm k (image_cell l image x)) read.kind (subst (IsForm cell.kind) words (is.0 yes)),
      λ has. is.1 (subst (λ k. IsForm k (words_of cell)) (sym read.kind) (subst (IsForm (kind_of x)) (sym words) has)),
    )

pub two_if : (l : Layout) (image : List ℕ) (x : ℕ) (cell : cells.Cell) → IsRead l image x cell → HasForm l image x → (result : Bool) → IsTrue result ↔ HasTwoBytes (children_of cell) → IsTrue result ↔ HasTwo (image_tree l image) x
two_if l image x cell read form result is =
    let same = read_children l image x cell read in (
      λ yes. two_children l image x (subst HasTwoBytes same (is.0 yes)),
      λ two. is.1 (subst HasTwoBytes (sym same) (two_bytes l image x form two)),
    )
