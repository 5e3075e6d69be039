-- Whether a leaf that leads elsewhere is reached, child after child.
use Rattle.std.proofs.Common.{◌≡◌, ◌≢◌, ℕ, ◌-◌, ◌<◌, true, false, not, Bool, List, inl, inr, refl, sym, subst, ap, ◌∙◌}
use Rattle.std.specs.Prelude.{◌↔◌, IsTrue}
use Rattle.std.proofs.lemmas.Bool.{false≢true}
use Rattle.pm_words.specs.declared.layout.Layout.{Layout}
use Rattle.data_node.specs.Lists.{anchor_words}
use Rattle.data_node.proofs.KeyLemmas.{anchor-number}
use Rattle.image_rules.specs.Nodes.{image_spot, IsListedNode}
use Rattle.layer_map.specs.Keys.{key_number}
use Rattle.updater_law.specs.Covers.{IsOpenFor}
use Rattle.image_layer_rules.specs.Anchors.{image_anchor, image_lines}
use Rattle.tree_law.specs.Trees.{Reference, Nothing, Leaf, Cell, Tree, Reaches, here, below}
use Rattle.tree_law.proofs.SwitchLaw.{cell_goes}
use Rattle.image_layer_rules.specs.Faults.{image_tree, IsWrong}
use Rattle.image_layer_rules.specs.Covers.{IsListedWith, IsStray, IsStrayFrom}
use Rattle.image_layer_rules.proofs.WrongLemmas.{form_if, byte_within}

nothing_stays : (t : Tree) (r q : Reference) → r ≡ Nothing → Reaches t r q → q ≡ Nothing
nothing_stays t r q is here = is
nothing_stays t r q is (below some_child way) = cc

leaf_stays : (t : Tree) (i : ℕ) (r q : Reference) → r ≡ Leaf i → Reaches t r q → q ≡ Leaf i
leaf_stays t i r q is here = is
leaf_stays t i r q is (below some_child way) = cc

module _ (l : Layout) (image : List ℕ) where
  pub none_stray : (s : Reference) → s ≡ Nothing → ¬ IsStrayFrom l image s
  none_stray s is stray = let same : Leaf stray.0 ≡ Nothing = nothing_stays (image_tree l image) s (Leaf stray.0) is stray.1 in cc

  pub stray_here : (i : ℕ) (s : Reference) → s ≡ Leaf i → IsStray l image i → IsStrayFrom l image s
  stray_here i s is stray = (i, subst (λ p. Reaches (image_tree l image) p (Leaf i)) (sym is) here, stray)

  pub stray_only : (i : ℕ) (s : Reference) → s ≡ Leaf i → IsStrayFrom l image s → IsStray l image i
  stray_only i s is stray =
      let same : Leaf stray.0 ≡ Leaf i = leaf_stays (image_tree l image) i s (Leaf stray.0) is stray.1 in
      let number : stray.0 ≡ i = cc in
      subst (IsStray l image) number stray.2

  pub stray_below : (x b : ℕ) (s child : Reference) → s ≡ Cell x → (image_tree l image).child x b ≡ child → IsStrayFrom l image child → IsStrayFrom l image s
  stray_below x b s child is same stray =
      let t = image_tree l image in
      let some_child : t.child x b ≢ Nothing = λ e. none_stray child (sym same ∙ e) stray in (
        stray.0,
        subst (λ p. Reaches t p (Leaf stray.0)) (sym is) (below some_child (subst (λ p. Reaches t p (Leaf stray.0)) (sym same) stray.1)),
        stray.2,
      )

  pub none_stray_below : (x : ℕ) → ¬ IsWrong l image (Cell x) → (s : Reference) → s ≡ Cell x → ((b : ℕ) → b < 256 → ¬ IsStrayFrom l image ((image_tree l image).child x b)) → ¬ IsStrayFrom l image s
  none_stray_below x right s is each stray =
      let t = image_tree l image in
      elim (cell_goes t x (Leaf stray.0) (subst (λ p. Reaches t p (Leaf stray.0)) is stray.1)) [
        | inl own ↦ let clash : Leaf stray.0 ≡ Cell x = own in cc
        | inr on ↦ each on.byte (byte_within l image x (form_if l image x right) on.byte on.some_child) (stray.0, on.reach, stray.2)
      ]

-- a node with this anchor, by the words of both
pub anchor_told : (l : Layout) (image : List ℕ) (n : ℕ) (one other : List ℕ) (result : Bool) → IsListedNode l image n → one ≡ anchor_words (image_spot l image n) → IsTrue result ↔ (key_number one ≡ key_number other) → IsTrue result ↔ IsListedWith l image n (key_number other)
anchor_told l image n one other result listed first same =
    let anchor : image_anchor l image n ≡ key_number one = anchor-number (image_spot l image n) ∙ ap key_number (sym first) in
    (λ yes. (listed, anchor ∙ same.0 yes), λ with_it. same.1 (sym anchor ∙ with_it.1))

-- a leaf is stray where it leads to no such node and no line has its key
pub stray_told : (l : Layout) (image : List ℕ) (i node key : ℕ) (exempt : Bool) → node ≡ (image_tree l image).word i - 1 → key ≡ (image_tree l image).key i → ¬ IsListedWith l image node key → IsTrue exempt ↔ IsOpenFor (image_lines l image) key → IsTrue (not exempt) ↔ IsStray l image i
stray_told l image i node key true node_is key_is elsewhere is = (λ yes. absurd (false≢true yes), λ stray. absurd (stray.closed (subst (IsOpenFor (image_lines l image)) key_is (is.0 refl))))
stray_told l image i node key false node_is key_is elsewhere is = (
  λ _. record {
    closed = λ exempts. false≢true (is.1 (subst (IsOpenFor (image_lines l image)) (sym key_is) exempts));
    stray = λ leads. elsewhere (subst (λ n. IsListedWith l image n key) (sym node_is) (subst (IsListedWith l image ((image_tree l image).word i - 1)) (sym key_is) leads));
  },
  λ _. refl,
)

pub not_stray : (l : Layout) (image : List ℕ) (i node key : ℕ) → node ≡ (image_tree l image).word i - 1 → key ≡ (image_tree l image).key i → IsListedWith l image node key → ¬ IsStray l image i
not_stray l image i node key node_is key_is leads stray = stray.stray (subst (λ n. IsListedWith l image n ((image_tree l image).key i)) node_is (subst (IsListedWith l image node) key_is leads))
