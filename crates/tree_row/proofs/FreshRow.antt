-- The words of the layer in a fresh image: the root refers to the first leaf, and that leads the zero key to node 0.
use Rattle.std.proofs.Common.{◌≡◌, ℕ, zero, suc, ◌==◌, ◌&&◌, Bool, true, false, cond, ltb, Some, None, inl, inr, refl}
use Rattle.std.proofs.Common.{sym, ap, ◌∙◌, subst, arith, lt-ltb}
use Rattle.std.proofs.lemmas.Bool.{cases_eq, eq-eqb, ne_eqb}
use Rattle.pm_words.specs.declared.layout.Layout.{Layout}
use Rattle.pm_words.specs.Images.{fresh_words, fresh_word}
use Rattle.pm_words.specs.Locations.{Leaf, leaf_count, word_at}
use Rattle.pm_words.proofs.Made.{fresh_at}
use Rattle.tree_law.specs.Fresh as tree
use Rattle.tree_law.specs.layer_map.proofs.FewLemmas.{few_apart}
use Rattle.tree_law.specs.Words.{LayerWord, RootWord, LeafWord, CellWord, LayerWords, word_in, layer_of, Keeps}
use Rattle.tree_law.proofs.FreshLaw.{fresh_is_lawful}
use Rattle.tree_row.specs.Rows.{image_word, has_layer_word, image_layer, image_layer_word, FreshReads, FreshKeeps}
use Rattle.tree_row.proofs.RowLaw.{has_from}

-- words of the first leaf behind its node word
abbrev one_if : Bool → ℕ
one_if b = cond b 1 0

past_node : (o : ℕ) → word_in tree.fresh_words (LeafWord 0 (suc (suc (suc (suc o))))) ≡ 0
past_node o = ap one_if (ne_eqb (suc (suc (suc (suc o)))) 3 (λ e. omega arith))

-- and those of other leaves
other_leaf : (k o : ℕ) → word_in tree.fresh_words (LeafWord (suc k) o) ≡ 0
other_leaf k o = ap (λ b. one_if (b && o == 3)) (ne_eqb (suc k) 0 (λ e. omega arith))

-- word by word, where the image has it
leaf_word : (l : Layout) (i o : ℕ) → fresh_word l (Leaf i o) ≡ word_in tree.fresh_words (LeafWord i o)
leaf_word l zero zero = refl
leaf_word l zero (suc zero) = refl
leaf_word l zero (suc (suc zero)) = refl
leaf_word l zero (suc (suc (suc zero))) = refl
leaf_word l zero (suc (suc (suc (suc o)))) = sym (past_node o)
leaf_word l (suc k) o = sym (other_leaf k o)

same_word : (l : Layout) (p : LayerWord) → fresh_word l (image_word p) ≡ word_in tree.fresh_words p
same_word l RootWord = refl
same_word l (LeafWord i o) = leaf_word l i o
same_word l (CellWord kind n o) = refl

-- and where it hasn't: there is a first leaf
true_false : true ≡ false → ⊥
true_false e = cc

absent_leaf : (l : Layout) (i o : ℕ) → ltb i (leaf_count l) && ltb o 8 ≡ false → 0 ≡ word_in tree.fresh_words (LeafWord i o)
absent_leaf l zero zero out = refl
absent_leaf l zero (suc zero) out = refl
absent_leaf l zero (suc (suc zero)) out = refl
absent_leaf l zero (suc (suc (suc zero))) out = absurd (true_false (sym (ap (λ b. b && true) (lt-ltb 0 (leaf_count l) (omega arith))) ∙ out))
absent_leaf l zero (suc (suc (suc (suc o)))) out = sym (past_node o)
absent_leaf l (suc k) o out = sym (other_leaf k o)

absent : (l : Layout) (p : LayerWord) → has_layer_word l p ≡ false → 0 ≡ word_in tree.fresh_words p
absent l RootWord out = absurd (true_false out)
absent l (LeafWord i o) out = absent_leaf l i o out
absent l (CellWord kind n o) out = refl

word_is : (l : Layout) (p : LayerWord) → image_layer_word l (fresh_words l) p ≡ word_in tree.fresh_words p
word_is l p = elim (has_layer_word l p) as (λ a. has_layer_word l p ≡ a → cond a (word_at l (fresh_words l) (image_word p)) 0 ≡ word_in tree.fresh_words p) [
  | true ↦ λ has. fresh_at l (image_word p) (has_from l p has) ∙ same_word l p
  | false ↦ λ out. absent l p out
] refl

pub fresh_reads : FreshReads
fresh_reads l is = λ x. record {
  root = word_is l RootWord x;
  leaf = λ i o. word_is l (LeafWord i o) x;
  cell = λ kind n o. word_is l (CellWord kind n o) x;
}

-- the fresh layer leads the zero key alone
leads_zero : (key node : ℕ) → tree.fresh_layer key ≡ Some node → (key ≡ 0) × (node ≡ 0)
leads_zero key node leads = elim (cases_eq key 0) [
  | inl first ↦ (first, let same : Some 0 ≡ Some node = sym (ap (λ b. cond b (Some 0) None) (eq-eqb key 0 first)) ∙ leads in cc)
  | inr some ↦ absurd (let clash : None ≡ Some node = sym (ap (λ b. cond b (Some 0) None) (ne_eqb key 0 some)) ∙ leads in cc)
]

pub fresh_keeps : FreshKeeps
fresh_keeps l is =
    let w : LayerWords = image_layer l (fresh_words l) in
    let keeps : Keeps (leaf_count l) l.nodes tree.fresh_layer w =
    subst (λ (v : LayerWords). Keeps (leaf_count l) l.nodes tree.fresh_layer v) (sym (fresh_reads l is)) (fresh_is_lawful (leaf_count l) l.nodes is.nodes.0 (omega arith)).0 in
    let first : (key node : ℕ) → layer_of w key ≡ Some node → (key ≡ 0) × (node ≡ 0) = λ key node leads. leads_zero key node (sym (keeps.same key) ∙ leads) in
    record {
      keeps = keeps;
      few = few_apart l.nodes (layer_of w) (λ key node leads. let some = is.nodes.0 in let none = (first key node leads).1 in omega arith)
          (λ key other node one two. (first key node one).0 ∙ sym (first other node two).0);
      first = first;
    }
