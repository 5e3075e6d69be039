-- What a cell's words say, of other words that are the same as far as the cell goes.
use Rattle.std.proofs.Common.{◌≡◌, ◌≢◌, ℕ, zero, suc, ◌+◌, ◌/◌, ◌%◌, ◌^◌, ◌<◌, ◌≤◌, ◌==◌, true, false, cond, ltb, inl, refl, sym, subst, ap, ap₂, ◌∙◌, arith}
use Rattle.std.proofs.lemmas.Bool.{eqb-true, eqb-false, ltb-true}
use Rattle.pm_words.specs.Locations.{kind_words}
use Rattle.radix_nodes.specs.Bytes.{byte_in}
use Rattle.radix_nodes.specs.Cells.{CellWords, seek, index_of, indexed, direct, children, AreEntries, IsIndexed, IsForm}
use Rattle.radix_nodes.proofs.EntryForms.{seek_same}

pub entries_alike : (c c' : CellWords) (first count : ℕ) → ((i : ℕ) → i < count → c' (first + i) ≡ c (first + i)) → AreEntries c first count → AreEntries c' first count
entries_alike c c' first count same are = record {
  byte = λ i lt some_word. subst (λ v. v / 2 ^ 32 < 256) (sym (same i lt)) (are.byte i lt (λ e. some_word (same i lt ∙ e)));
  reference = λ i lt some_word. subst (λ v. v % 2 ^ 32 ≢ 0) (sym (same i lt)) (are.reference i lt (λ e. some_word (same i lt ∙ e)));
  apart = λ i j lt lt' some_i some_j is. are.apart i j lt lt' (λ e. some_i (same i lt ∙ e)) (λ e. some_j (same j lt' ∙ e)) (sym (ap (λ v. v / 2 ^ 32) (same i lt)) ∙ is ∙ ap (λ v. v / 2 ^ 32) (same j lt'));
}

module _ (c c' : CellWords) (same : (o : ℕ) → o < 88 → c' o ≡ c o) (are : IsIndexed c) where
  index_same : (b : ℕ) → b < 256 → index_of c' b ≡ index_of c b
  index_same b lt = ap (λ v. byte_in v (b % 8)) (same (8 + b / 8) (omega arith))

  place_same : (b : ℕ) → b < 256 → c' (39 + index_of c' b) ≡ c (39 + index_of c b)
  place_same b lt = let most = are.places b lt in ap (λ i. c' (39 + i)) (index_same b lt) ∙ same (39 + index_of c b) (omega arith)

  pub indexed_alike : IsIndexed c'
  indexed_alike = record {
    places = λ b lt. subst (λ i. i ≤ 48) (sym (index_same b lt)) (are.places b lt);
    references = λ b lt some_place none. are.references b lt (λ e. some_place (index_same b lt ∙ e)) (sym (place_same b lt) ∙ none);
    apart = λ a b lt lt' some_place is. are.apart a b lt lt' (λ e. some_place (index_same a lt ∙ e)) (sym (index_same a lt) ∙ is ∙ index_same b lt');
  }

  pub index_children : (b : ℕ) → indexed c' b ≡ indexed c b
  index_children b = elim (ltb b 256) as (λ a. ltb b 256 ≡ a → cond a (cond (index_of c' b == 0) 0 (c' (39 + index_of c' b))) 0 ≡ cond a (cond (index_of c b == 0) 0 (c (39 + index_of c b))) 0) [
    | true ↦ λ e. let lt = ltb-true _ _ e in ap₂ (λ i v. cond (i == 0) 0 v) (index_same b lt) (place_same b lt)
    | false ↦ λ e. refl
  ] refl

module _ (kind : ℕ) (c c' : CellWords) (least : 2 ≤ kind) (most : kind ≤ 5) (same : (o : ℕ) → o < kind_words kind → c' o ≡ c o) (form : IsForm kind c) where
  -- as far as cells of this kind go
  far : (k : ℕ) → kind ≡ k → (o : ℕ) → o < kind_words k → c' o ≡ c o
  far k is o lt = same o (subst (λ j. o < kind_words j) (sym is) lt)

  -- each kind has a line at least
  pub first_line : (o : ℕ) → o < 8 → c' o ≡ c o
  first_line o lt = same o (lines kind least most)
    where
      lines : (k : ℕ) → 2 ≤ k → k ≤ 5 → o < kind_words k
      lines zero low high = absurd (omega arith)
      lines (suc zero) low high = absurd (omega arith)
      lines (suc (suc zero)) low high = lt
      lines (suc (suc (suc zero))) low high = let more : o < 24 = omega arith in more
      lines (suc (suc (suc (suc zero)))) low high = let more : o < 88 = omega arith in more
      lines (suc (suc (suc (suc (suc zero))))) low high = let more : o < 264 = omega arith in more
      lines (suc (suc (suc (suc (suc (suc k)))))) low high = absurd (omega arith)

  pub form_alike : IsForm kind c'
  form_alike = record {
    spare = λ other o low high. first_line o high ∙ form.spare other o low high;
    four = λ is. entries_alike c c' 4 4 (λ i lt. far 2 is (4 + i) (let in_cell : 4 + i < 8 = omega arith in in_cell)) (form.four is);
    sixteen = λ is. entries_alike c c' 8 16 (λ i lt. far 3 is (8 + i) (let in_cell : 8 + i < 24 = omega arith in in_cell)) (form.sixteen is);
    forty_eight = λ is. indexed_alike c c' (far 4 is) (form.forty_eight is);
  }

  direct_children : kind ≡ 5 → (b : ℕ) → direct c' b ≡ direct c b
  direct_children is b = elim (ltb b 256) as (λ a. ltb b 256 ≡ a → cond a (c' (8 + b)) 0 ≡ cond a (c (8 + b)) 0) [
    | true ↦ λ e. let lt = ltb-true _ _ e in far 5 is (8 + b) (let in_cell : 8 + b < 264 = omega arith in in_cell)
    | false ↦ λ e. refl
  ] refl

  pub children_alike : (b : ℕ) → children kind c' b ≡ children kind c b
  children_alike b = elim (kind == 2) as (λ a. (kind == 2) ≡ a → cond a (seek c' 4 4 b) (cond (kind == 3) (seek c' 8 16 b) (cond (kind == 4) (indexed c' b) (direct c' b))) ≡ cond a (seek c 4 4 b) (cond (kind == 3) (seek c 8 16 b) (cond (kind == 4) (indexed c b) (direct c b)))) [
    | true ↦ λ e. let is = eqb-true _ _ e in seek_same c c' 4 4 b (λ i lt. inl (far 2 is (4 + i) (let in_cell : 4 + i < 8 = omega arith in in_cell)))
    | false ↦ λ e. elim (kind == 3) as (λ a. (kind == 3) ≡ a → cond a (seek c' 8 16 b) (cond (kind == 4) (indexed c' b) (direct c' b)) ≡ cond a (seek c 8 16 b) (cond (kind == 4) (indexed c b) (direct c b))) [
      | true ↦ λ f. let is = eqb-true _ _ f in seek_same c c' 8 16 b (λ i lt. inl (far 3 is (8 + i) (let in_cell : 8 + i < 24 = omega arith in in_cell)))
      | false ↦ λ f. elim (kind == 4) as (λ a. (kind == 4) ≡ a → cond a (indexed c' b) (direct c' b) ≡ cond a (indexed c b) (direct c b)) [
        | true ↦ λ g. let is = eqb-true _ _ g in index_children c c' (far 4 is) (form.forty_eight is) b
        | false ↦ λ g.
            let not_two = eqb-false _ _ e in
            let not_three = eqb-false _ _ f in
            let not_four = eqb-false _ _ g in
            direct_children (let five : kind ≡ 5 = omega (arith, not_two, not_three, not_four) in five) b
      ] refl
    ] refl
  ] refl
