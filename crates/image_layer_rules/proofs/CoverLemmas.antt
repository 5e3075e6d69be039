-- What leaves and listed nodes show of rule 12.
use Rattle.std.proofs.Common.{◌≡◌, ◌≢◌, ℕ, ◌+◌, ◌-◌, ◌==◌, true, false, not, Bool, List, Option, Some, None, inl, inr, refl, sym, subst, ap, ◌∙◌, arith}
use Rattle.std.specs.Prelude.{◌↔◌, IsTrue}
use Rattle.std.proofs.lemmas.Bool.{false≢true, eqb-true, eq-eqb}
use Rattle.pm_words.specs.declared.layout.Layout.{Layout}
use Rattle.data_node.specs.Lists.{anchor_words}
use Rattle.data_node.proofs.KeyLemmas.{anchor-number}
use Rattle.image_rules.specs.Nodes.{image_spot, IsListedNode}
use Rattle.image_rules.specs.Sound.{IsSound}
use Rattle.layer_map.specs.Keys.{key_number}
use Rattle.updater_law.specs.Covers.{IsOpenFor}
use Rattle.image_layer_rules.specs.Anchors.{image_anchor, image_lines, IsKeyNumber}
use Rattle.image_layer_rules.proofs.AnchorLemmas.{anchor_is_key}
use Rattle.tree_law.specs.Trees.{Leaf, IsReached, find, node_at, way_length}
use Rattle.tree_law.specs.Words.{reference_of}
use Rattle.tree_law.proofs.TreeLaw.{led, leaves_lead}
use Rattle.image_layer_rules.specs.Faults.{image_tree, image_room, leaf_key}
use Rattle.image_layer_rules.specs.Rules.{image_map, BreaksTree, is_uncovered}
use Rattle.image_layer_rules.specs.Covers.{IsListedWith, IsStrayFrom, IsMissed, LeadsTo}
use Rattle.image_layer_rules.specs.Laws.{IsInOrder}
use Rattle.image_layer_rules.proofs.CoverLaw.{key_is, leaf_number, uncovered_if}

-- a listed node that the tree doesn't lead to is missed where no line has its anchor
pub missed_told : (l : Layout) (image : List ℕ) (n : ℕ) (anchor : List ℕ) (exempt : Bool) → anchor ≡ anchor_words (image_spot l image n) → IsListedNode l image n → image_map l image (key_number anchor) ≢ Some n → IsTrue exempt ↔ IsOpenFor (image_lines l image) (key_number anchor) → IsTrue (not exempt) ↔ IsMissed l image n
missed_told l image n anchor true words listed missed is =
    let same : image_anchor l image n ≡ key_number anchor = anchor-number (image_spot l image n) ∙ ap key_number (sym words) in
    (λ yes. absurd (false≢true yes), λ at. absurd (at.closed (subst (IsOpenFor (image_lines l image)) (sym same) (is.0 refl))))
missed_told l image n anchor false words listed missed is =
    let same : image_anchor l image n ≡ key_number anchor = anchor-number (image_spot l image n) ∙ ap key_number (sym words) in (
      λ _. record {
        listed = listed;
        closed = λ exempts. false≢true (is.1 (subst (IsOpenFor (image_lines l image)) same exempts));
        missed = λ leads. missed (ap (image_map l image) (sym same) ∙ leads);
      },
      λ _. refl,
    )

pub led_no_miss : (l : Layout) (image : List ℕ) (n : ℕ) (anchor : List ℕ) → anchor ≡ anchor_words (image_spot l image n) → image_map l image (key_number anchor) ≡ Some n → ¬ IsMissed l image n
led_no_miss l image n anchor words leads at =
    let same : image_anchor l image n ≡ key_number anchor = anchor-number (image_spot l image n) ∙ ap key_number (sym words) in
    at.missed (ap (image_map l image) same ∙ leads)

-- what a key leads to, looked for from the root
pub led_from : (l : Layout) (image : List ℕ) (root key : ℕ) (target : Option ℕ) → (image_tree l image).root ≡ reference_of root → LeadsTo l image root 0 key target → image_map l image key ≡ target
led_from l image root key target at_root leads =
    let t = image_tree l image in
    ap (λ r. node_at t (find t way_length r key)) at_root ∙ leads way_length (omega arith)

module _ (l : Layout) (image : List ℕ) (order : IsInOrder l image) where
  pub stray_breaks : IsStrayFrom l image (image_tree l image).root → BreaksTree l image 12
  stray_breaks stray =
      let t = image_tree l image in
      let i = stray.0 in
      let way : IsReached t (Leaf i) = stray.1 in
      is_uncovered (t.key i) (t.word i - 1) (record {
        is_key = subst IsKeyNumber (leaf_number l image i) (key_is (leaf_key l image i) (order.keys i way));
        closed = stray.2.closed;
        differ = inl (led (image_room l) t order.lawful.tree i way, stray.2.stray);
      })

  pub missed_breaks : IsSound l image → (n : ℕ) → IsMissed l image n → BreaksTree l image 12
  missed_breaks sound n at =
      is_uncovered (image_anchor l image n) n (record { is_key = anchor_is_key l image sound n at.listed; closed = at.closed; differ = inr (at.missed, at.listed, refl) })

  pub none_breaks : ¬ IsStrayFrom l image (image_tree l image).root → ((n : ℕ) → ¬ IsMissed l image n) → ¬ BreaksTree l image 12
  none_breaks no_stray no_missed breaks =
      let t = image_tree l image in
      let found = uncovered_if l image 12 refl breaks in
      let key = found.0 in
      let node = found.1 in
      let at = found.2 in
      elim at.differ as (λ _. ⊥) [
        | inl leads ↦
            let by = (leaves_lead (image_room l) t order.lawful.tree key node).0 leads.0 in
            let word : t.word by.leaf ≡ node + 1 = by.word in
            let same : t.word by.leaf - 1 ≡ node = omega arith in
            no_stray (
              by.leaf,
              by.reached,
              record {
                closed = subst (λ k. ¬ IsOpenFor (image_lines l image) k) (sym by.key_is) at.closed;
                stray = λ with_it. leads.1 (subst (λ m. IsListedWith l image m key) same (subst (IsListedWith l image (t.word by.leaf - 1)) by.key_is with_it));
              },
            )
        | inr has ↦
            no_missed node (record {
              listed = has.1;
              closed = subst (λ k. ¬ IsOpenFor (image_lines l image) k) (sym has.2) at.closed;
              missed = λ leads. has.0 (ap (image_map l image) (sym has.2) ∙ leads);
            })
      ]

-- whether it is this node
pub node_told : (found node : ℕ) (target : Option ℕ) → target ≡ Some found → IsTrue (found == node) ↔ (target ≡ Some node)
node_told found node target is = (
  λ yes. is ∙ ap (λ n. Some n) (eqb-true found node yes),
  λ leads. let same : Some found ≡ Some node = sym is ∙ leads in let number : found ≡ node = cc in eq-eqb found node number,
)

pub none_told : (node : ℕ) (target : Option ℕ) → target ≡ None → IsTrue false ↔ (target ≡ Some node)
none_told node target is = (λ yes. absurd (false≢true yes), λ leads. let clash : None ≡ Some node = sym is ∙ leads in cc)

pub uncovered_told : (l : Layout) (image : List ℕ) → IsInOrder l image → IsSound l image → (result : Bool) → ¬ IsStrayFrom l image (image_tree l image).root → IsTrue result ↔ ((n : ℕ) × IsMissed l image n) → IsTrue result ↔ BreaksTree l image 12
uncovered_told l image order sound true no_stray missed = (λ yes. let at = missed.0 yes in missed_breaks l image order sound at.0 at.1, λ _. refl)
uncovered_told l image order sound false no_stray missed = (
  λ yes. absurd (false≢true yes),
  λ breaks. absurd (none_breaks l image order no_stray (λ n at. false≢true (missed.1 (n, at))) breaks),
)
