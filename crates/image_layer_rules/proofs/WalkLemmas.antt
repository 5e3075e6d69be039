-- What is wrong below a reference is wrong with what it leads to, or below one of its children.
use Rattle.std.proofs.Common.{◌≡◌, ◌≢◌, ℕ, ◌<◌, List, inl, inr, sym, subst, ap, ◌∙◌}
use Rattle.std.proofs.lemmas.Bool.{cases_lt}
use Rattle.pm_words.specs.declared.layout.Layout.{Layout}
use Rattle.radix_nodes.specs.Keys.{key_bytes}
use Rattle.tree_law.specs.Trees.{Reference, Nothing, Leaf, Cell, Tree, Reaches, here, below, depth_of}
use Rattle.tree_law.specs.Words.{reference_of}
use Rattle.tree_law.proofs.SwitchLaw.{cell_goes}
use Rattle.image_layer_rules.specs.Faults.{image_tree, IsWrong, is_too_deep, is_not_deeper}
use Rattle.image_layer_rules.specs.Checks.{IsWrongFrom}
use Rattle.image_layer_rules.proofs.WrongLemmas.{form_if, byte_within}

pub to_nothing : (x : ℕ) → x ≡ 0 → reference_of x ≡ Nothing
to_nothing x none = ap reference_of none

-- a leaf reaches itself alone
leaf_stays : (t : Tree) (i : ℕ) (r q : Reference) → r ≡ Leaf i → Reaches t r q → q ≡ Leaf i
leaf_stays t i r q is here = is
leaf_stays t i r q is (below some_child way) = cc

module _ (l : Layout) (image : List ℕ) where
  pub wrong_here : (r s : Reference) → s ≡ r → IsWrong l image r → IsWrongFrom l image s
  wrong_here r s is wrong = (r, subst (λ p. Reaches (image_tree l image) p r) (sym is) here, wrong)

  pub leaf_only : (i : ℕ) (s : Reference) → s ≡ Leaf i → IsWrongFrom l image s → IsWrong l image (Leaf i)
  leaf_only i s is wrong = subst (IsWrong l image) (leaf_stays (image_tree l image) i s wrong.0 is wrong.1) wrong.2

  pub wrong_below : (x b : ℕ) (s child : Reference) → s ≡ Cell x → (image_tree l image).child x b ≡ child → child ≢ Nothing → IsWrongFrom l image child → IsWrongFrom l image s
  wrong_below x b s child is same some_child wrong =
      let t = image_tree l image in (
        wrong.0,
        subst (λ p. Reaches t p wrong.0) (sym is) (below (λ none. some_child (sym same ∙ none)) (subst (λ p. Reaches t p wrong.0) (sym same) wrong.1)),
        wrong.2,
      )

  -- of a cell with which nothing is wrong
  module _ (x : ℕ) (right : ¬ IsWrong l image (Cell x)) where
    pub depth_small : (image_tree l image).depth x < key_bytes
    depth_small = elim (cases_lt ((image_tree l image).depth x) key_bytes) [ inl lt ↦ lt | inr deep ↦ absurd (right (is_too_deep deep)) ]

    pub child_deeper : (b : ℕ) (child : Reference) → (image_tree l image).child x b ≡ child → child ≢ Nothing → (image_tree l image).depth x < depth_of (image_tree l image) child
    child_deeper b child same some_child =
        let t = image_tree l image in
        subst (λ c. t.depth x < depth_of t c) same (elim (cases_lt (t.depth x) (depth_of t (t.child x b))) [
          | inl lt ↦ lt
          | inr flat ↦ absurd (right (is_not_deeper b (λ none. some_child (sym same ∙ none)) flat))
        ])

    pub none_wrong : (s : Reference) → s ≡ Cell x → ((b : ℕ) → b < 256 → (image_tree l image).child x b ≢ Nothing → ¬ IsWrongFrom l image ((image_tree l image).child x b)) → ¬ IsWrongFrom l image s
    none_wrong s is each wrong =
        let t = image_tree l image in
        elim (cell_goes t x wrong.0 (subst (λ p. Reaches t p wrong.0) is wrong.1)) [
          | inl own ↦ right (subst (IsWrong l image) own wrong.2)
          | inr on ↦ each on.byte (byte_within l image x (form_if l image x right) on.byte on.some_child) on.some_child (wrong.0, on.reach, wrong.2)
        ]
