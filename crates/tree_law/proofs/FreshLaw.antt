-- The words of an empty catalogue are in order.
use Rattle.std.proofs.Common.{◌≡◌, ℕ, ◌^◌, ◌<◌, ◌≤◌, ◌==◌, ◌&&◌, cond, Some, None, inl, inr, refl, sym, subst, ap, ◌∙◌, arith}
use Rattle.std.proofs.lemmas.Bool.{cases_eq, eq-eqb, ne_eqb}
use Rattle.tree_law.specs.Trees.{Reference, Leaf, Cell, here, IsReached, IsLeaf, IsSound, IsTree, layer_in}
use Rattle.tree_law.specs.Words.{kind_of, number_of, tree_of, room_of}
use Rattle.tree_law.specs.Fresh.{fresh_words, fresh_marks, FreshIsLawful}
use Rattle.tree_law.proofs.TreeLaw.{led, has_key, some_or_none}
use Rattle.tree_law.proofs.SwitchKinds.{leaf_end}
use Rattle.radix_nodes.specs.Keys.{key_bytes}

only : (q : Reference) → IsReached (tree_of fresh_words) q → q ≡ Leaf 0
only q reach = leaf_end (tree_of fresh_words) 0 q reach

leaf_is : (count nodes : ℕ) → 1 ≤ nodes → nodes < count → IsLeaf (room_of count nodes) (tree_of fresh_words) 0
leaf_is count nodes some_nodes more = record {
  number = (let lt : 0 < count = omega arith in lt);
  key = (let lt : 0 < 256 ^ key_bytes = omega arith in lt);
  some_node = λ e. one_some 1 refl e;
  node = some_nodes;
}
  where
    one_some : (n : ℕ) → n ≡ 1 → n ≡ 0 → ⊥
    one_some n a b = omega arith

pub fresh_is_lawful : FreshIsLawful
fresh_is_lawful count nodes some_nodes more =
    let t = tree_of fresh_words in
    let room = room_of count nodes in
    let tree : IsTree room t = λ q reach. subst (IsSound room t) (sym (only q reach)) (leaf_is count nodes some_nodes more) in
    let not_cell : (x : ℕ) → IsReached t (Cell x) → ⊥ = λ x reach. let wrong : Cell x ≡ Leaf 0 = only (Cell x) reach in cc in (
      record {
        lawful = record { tree = tree; forms = λ x reach. absurd (not_cell x reach) };
        same = λ key. elim (cases_eq key 0) [
          | inl zero_key ↦ ap (layer_in t) zero_key ∙ led room t tree 0 here ∙ sym (ap (λ b. cond b (Some 0) None) (eq-eqb key 0 zero_key))
          | inr other ↦
              (elim (some_or_none (layer_in t key)) [
                | inl leads ↦
                    let has = has_key room t key leads.0 leads.1 in
                    let leaf : Leaf has.0 ≡ Leaf 0 = only (Leaf has.0) has.1.reached in
                    let number : has.0 ≡ 0 = cc in
                    absurd (other (sym has.1.key_is ∙ ap t.key number))
                | inr none ↦ none
              ])
              ∙ sym (ap (λ b. cond b (Some 0) None) (ne_eqb key 0 other))
        ];
      },
      record {
        leaf = λ i lt marked. elim (cases_eq i 0) [ inl first ↦ subst (λ k. IsReached t (Leaf k)) (sym first) here | inr other ↦ absurd (marked (ap (λ b. cond b 1 0) (ne_eqb i 0 other))) ];
        cell = λ x least most lt marked. absurd (marked (ap (λ b. cond (b && number_of x == 0) 1 0) (ne_eqb (kind_of x) 1 (λ e. omega arith))));
        used_leaf = λ i reach e. let leaf : Leaf i ≡ Leaf 0 = only (Leaf i) reach in let number : i ≡ 0 = cc in one_some 1 refl (sym (ap (λ k. fresh_marks 1 k) number) ∙ e);
        used_cell = λ x reach. absurd (not_cell x reach);
      },
    )
  where
    one_some : (n : ℕ) → n ≡ 1 → n ≡ 0 → ⊥
    one_some n a b = omega arith
