-- With which leaves and cells nothing is wrong: those that are in order.
use Rattle.std.proofs.Common.{◌≡◌, ◌≢◌, ℕ, zero, suc, ◌+◌, ◌*◌, ◌^◌, ◌<◌, ◌≤◌, ◌⊎◌, true, false, Bool, List, [], ◌∷◌, slice_index, inl, inr, refl, sym, ap, ◌∙◌, arith}
use Rattle.std.specs.Prelude.{◌↔◌, IsTrue}
use Rattle.std.proofs.lemmas.Bool.{cases_eq, cases_lt, false≢true}
use Rattle.pm_words.specs.declared.layout.Layout.{Layout}
use Rattle.pm_words.specs.Images.{IsImage}
use Rattle.pm_words.specs.Locations.{leaf_count}
use Rattle.data_node.proofs.SpotLemmas.{same_words}
use Rattle.image_rules.proofs.NameCases.{name_words_or_not}
use Rattle.radix_nodes.specs.Keys.{key_bytes}
use Rattle.radix_nodes.specs.Cells.{Children, children}
use Rattle.image_layer_rules.specs.Anchors.{AreKeyWords}
use Rattle.tree_law.specs.Trees.{Reference, Nothing, Leaf, Cell, IsReached, IsUnder, HasTwo, IsLeaf, IsCell, IsSound, span, first_bytes, low, depth_of}
use Rattle.tree_law.specs.Words.{kind_of}
use Rattle.tree_law.proofs.RoomLaw.{reached_once, root_is_no_child}
use Rattle.tree_row.specs.Rows.{image_layer}
use Rattle.tree_floor.proofs.KeyNumbers.{number_below}
use Rattle.image_layer_rules.specs.Branches.{HasTwoBytes}
use Rattle.image_layer_rules.specs.Faults.{image_tree, image_room, image_cell, leaf_key, IsWrong, leads_nowhere, has_no_leaf, has_no_cell, has_no_key, has_no_node, is_past_nodes, is_too_deep, has_no_prefix, has_no_spare, has_few, has_no_four, has_no_sixteen, has_no_index, is_not_under, is_not_deeper}
use Rattle.image_layer_rules.specs.Checks.{HasForm, IsWrongFrom}
use Rattle.image_layer_rules.specs.Rules.{BreaksTree, is_wrong, is_reached_twice, reaches_its_root, has_many, is_uncovered}
use Rattle.image_layer_rules.specs.Laws.{IsInOrder, RuleOnTree}
use Rattle.image_layer_rules.proofs.ReadLemmas.{leaf_fits}
use Rattle.image_layer_rules.proofs.WrongLemmas.{form_if, byte_within, two_children, two_bytes}

-- words are those of a key or not
pub key_or_not : (words : List ℕ) → AreKeyWords words ⊎ ¬ AreKeyWords words
key_or_not words =
    elim (same_words words (0 ∷ 0 ∷ 0 ∷ [])) [
      | inl zeros ↦ inl (inl zeros)
      | inr other ↦ elim (name_words_or_not words) [
        | inl named ↦ inl (inr named)
        | inr unnamed ↦ inr (λ are. elim are as (λ _. ⊥) [ inl zeros ↦ other zeros | inr named ↦ unnamed named ])
      ]
    ]

-- another byte than this one has a child, or none has
some_other : (m : Children) (a n : ℕ) → ((b : ℕ) → b < n → b ≢ a → m b ≡ 0) ⊎ ((b : ℕ) × (b < n) × (b ≢ a) × (m b ≢ 0))
some_other m a zero = inl (λ b lt. absurd (omega arith))
some_other m a (suc n) = elim (some_other m a n) [
  | inr found ↦ let lt : found.0 < n = found.1 in inr (found.0, (let less : found.0 < suc n = omega arith in less), found.2, found.3)
  | inl none ↦ elim (cases_eq n a) [
    | inl same ↦ inl (λ b lt apart. none b (let other : b ≢ n = (λ e. apart (e ∙ same)) in omega (arith, other)) apart)
    | inr apart ↦ elim (cases_eq (m n) 0) [
      | inl empty ↦ inl (λ b lt other. elim (cases_eq b n) [ inl is ↦ ap m is ∙ empty | inr differs ↦ none b (omega (arith, differs)) other ])
      | inr some_child ↦ inr (n, (let less : n < suc n = omega arith in less), apart, some_child)
    ]
  ]
]

two_or_not : (m : Children) → HasTwoBytes m ⊎ ¬ HasTwoBytes m
two_or_not m = elim (some_other m 256 256) [
  | inl none ↦ inr (λ two. let within = two.within in two.has_two (none two.two within (λ e. omega arith)))
  | inr first ↦
      let a = first.0 in
      let within_a : a < 256 = first.1 in
      elim (some_other m a 256) [
        | inr second ↦
            let b = second.0 in
            let within_b : b < 256 = second.1 in
            let apart : b ≢ a = second.2 in
            elim (cases_lt a b) [
              | inl less ↦ inl (record { one = a; two = b; rising = less; within = within_b; has_one = first.3; has_two = second.3 })
              | inr more ↦ inl (record { one = b; two = a; rising = omega (arith, apart); within = within_a; has_one = second.3; has_two = first.3 })
            ]
        | inl alone ↦ inr (λ two.
            let rising = two.rising in
            let within = two.within in
            elim (cases_eq two.two a) [
              | inl same ↦ two.has_one (alone two.one (omega arith) (λ e. omega arith))
              | inr other ↦ two.has_two (alone two.two within other)
            ])
      ]
]

module _ (l : Layout) (image : List ℕ) where
  two_stable : (x : ℕ) → HasForm l image x → ¬ ¬ HasTwo (image_tree l image) x → HasTwo (image_tree l image) x
  two_stable x form twice = elim (two_or_not (children (kind_of x) (image_cell l image x))) [
    | inl two ↦ two_children l image x two
    | inr fails ↦ absurd (twice (λ two. fails (two_bytes l image x form two)))
  ]

  leaf_right : ((k : ℕ) → slice_index image k < 2 ^ 64) → (i : ℕ) → ¬ IsWrong l image (Leaf i) → IsLeaf (image_room l) (image_tree l image) i
  leaf_right fits i right = record {
    number = elim (cases_lt i (leaf_count l)) [ inl lt ↦ lt | inr past ↦ absurd (right (has_no_leaf past)) ];
    key = number_below ((image_layer l image).leaf i) (λ o. leaf_fits l image i o fits);
    some_node = λ none. right (has_no_node none);
    node = elim (cases_lt l.nodes ((image_tree l image).word i)) [ inl past ↦ absurd (right (is_past_nodes past)) | inr le ↦ le ];
  }

  number_right : (x : ℕ) → ¬ IsWrong l image (Cell x) → (image_room l).is_cell x ≡ true
  number_right x right = elim ((image_room l).is_cell x) as (λ b. (image_room l).is_cell x ≡ b → b ≡ true) [ true ↦ λ e. refl | false ↦ λ e. absurd (right (has_no_cell e)) ] refl

  cell_right : (x : ℕ) → ¬ IsWrong l image (Cell x) → IsCell (image_room l) (image_tree l image) x
  cell_right x right =
      let t = image_tree l image in
      let form = form_if l image x right in
      record {
        number = number_right x right;
        depth = elim (cases_lt (t.depth x) key_bytes) [ inl lt ↦ lt | inr deep ↦ absurd (right (is_too_deep deep)) ];
        zeros = elim (cases_eq (first_bytes (t.depth x) (t.prefix x) * span (t.depth x)) (t.prefix x)) [ inl is ↦ is | inr other ↦ absurd (right (has_no_prefix other)) ];
        two = two_stable x form (λ fails. right (has_few fails));
        under = λ b some_child. under_right x right b (byte_within l image x form b some_child) some_child;
      }
    where
      under_right : (x : ℕ) → ¬ IsWrong l image (Cell x) → (b : ℕ) → b < 256 → (image_tree l image).child x b ≢ Nothing → IsUnder (image_tree l image) x b ((image_tree l image).child x b)
      under_right x right b lt some_child =
          let t = image_tree l image in
          record {
            byte = lt;
            bytes = elim (cases_eq (first_bytes (t.depth x + 1) (low t (t.child x b))) (256 * first_bytes (t.depth x) (t.prefix x) + b)) [ inl is ↦ is | inr other ↦ absurd (right (is_not_under b some_child other)) ];
            deeper = elim (cases_lt (t.depth x) (depth_of t (t.child x b))) [ inl deeper ↦ deeper | inr flat ↦ absurd (right (is_not_deeper b some_child flat)) ];
          }

  sound_right : ((k : ℕ) → slice_index image k < 2 ^ 64) → (q : Reference) → ¬ IsWrong l image q → IsSound (image_room l) (image_tree l image) q
  sound_right fits Nothing right = absurd (right leads_nowhere)
  sound_right fits (Leaf i) right = leaf_right fits i right
  sound_right fits (Cell x) right = cell_right x right

  -- the key of a leaf, by what its words are
  key_stable : (words : List ℕ) → ¬ ¬ AreKeyWords words → AreKeyWords words
  key_stable words twice = elim (key_or_not words) [ inl are ↦ are | inr fails ↦ absurd (twice fails) ]

  pub order_from : ((k : ℕ) → slice_index image k < 2 ^ 64) → ((q : Reference) → IsReached (image_tree l image) q → ¬ IsWrong l image q) → IsInOrder l image
  order_from fits right = record {
    lawful = record {
      tree = λ q way. sound_right fits q (right q way);
      forms = λ x way. form_if l image x (right (Cell x) way);
    };
    keys = λ i way. key_stable (leaf_key l image i) (λ fails. right (Leaf i) way (has_no_key fails));
  }

  -- what is in order isn't wrong
  leaf_sound : (i : ℕ) → IsLeaf (image_room l) (image_tree l image) i → AreKeyWords (leaf_key l image i) → ¬ IsWrong l image (Leaf i)
  leaf_sound i sound key (has_no_leaf past) = let lt : i < leaf_count l = sound.number in omega arith
  leaf_sound i sound key (has_no_key fails) = fails key
  leaf_sound i sound key (has_no_node none) = sound.some_node none
  leaf_sound i sound key (is_past_nodes past) = let le : (image_tree l image).word i ≤ l.nodes = sound.node in omega arith

  cell_sound : (x : ℕ) → IsCell (image_room l) (image_tree l image) x → HasForm l image x → ¬ IsWrong l image (Cell x)
  cell_sound x sound form (has_no_cell fails) = false≢true (sym fails ∙ sound.number)
  cell_sound x sound form (is_too_deep deep) = let lt = sound.depth in omega arith
  cell_sound x sound form (has_no_prefix fails) = fails sound.zeros
  cell_sound x sound form (has_no_spare other fails) = fails (form.spare other)
  cell_sound x sound form (has_few fails) = fails sound.two
  cell_sound x sound form (has_no_four is fails) = fails (form.four is)
  cell_sound x sound form (has_no_sixteen is fails) = fails (form.sixteen is)
  cell_sound x sound form (has_no_index is fails) = fails (form.forty_eight is)
  cell_sound x sound form (is_not_under b some_child fails) = fails (sound.under b some_child).bytes
  cell_sound x sound form (is_not_deeper b some_child flat) = let deeper = (sound.under b some_child).deeper in omega arith

  none_in_order : IsInOrder l image → (q : Reference) → IsReached (image_tree l image) q → ¬ IsWrong l image q
  none_in_order order Nothing way = absurd (order.lawful.tree Nothing way)
  none_in_order order (Leaf i) way = leaf_sound i (order.lawful.tree (Leaf i) way) (order.keys i way)
  none_in_order order (Cell x) way = cell_sound x (order.lawful.tree (Cell x) way) (order.lawful.forms x way)

  keeps : IsInOrder l image → (rule : ℕ) → rule ≡ 10 → ¬ BreaksTree l image rule
  keeps order rule is (is_wrong q way wrong) = none_in_order order q way wrong
  keeps order rule is (is_reached_twice x y a b twice) = twice.apart (reached_once (image_room l) (image_tree l image) order.lawful.tree x y a b twice.one twice.other twice.some_child twice.same)
  keeps order rule is (reaches_its_root x b way some_child same) = root_is_no_child (image_room l) (image_tree l image) order.lawful.tree x b way same
  keeps order rule is (has_many many) = absurd (omega arith)
  keeps order rule is (is_uncovered key node differ) = absurd (omega arith)

pub rule_on_tree : RuleOnTree
rule_on_tree l image is = (
  λ right. order_from l image is.fits (λ q way wrong. right (is_wrong q way wrong)),
  λ order. keeps l image order 10 refl,
)

-- whether the walk from the root finds something
pub tree_told : (l : Layout) (image : List ℕ) → IsImage l image → (result : Bool) → IsTrue result ↔ IsWrongFrom l image (image_tree l image).root → IsTrue result ↔ BreaksTree l image 10
tree_told l image is true found = (λ yes. let wrong = found.0 yes in is_wrong wrong.0 wrong.1 wrong.2, λ _. refl)
tree_told l image is false found = (λ fails. absurd (false≢true fails), λ breaks. absurd (keeps l image (order_from l image is.fits (λ q way wrong. false≢true (found.1 (q, way, wrong)))) 10 refl breaks))
