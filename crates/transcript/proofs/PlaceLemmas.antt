-- Writes in the order of their places are those of a list by place, if they are those of any.
use Rattle.std.proofs.Common.{◌≡◌, ℕ, suc, ◌+◌, ◌<◌, List, [], ◌∷◌, length, get_or, map, refl, sym, ap, subst, ◌∙◌, arith, zero-add, add-zero}
use Rattle.std.specs.List.{enumerate_from, IsDistinct}
use Rattle.std.specs.List.Sorted.{IsPermutation, IsSortedByKey}
use Rattle.std.specs.Ordering.{nat_cmp, eq_by_cmp}
use Rattle.std.proofs.lemmas.Cmp.{nat_cmp_total, eq_by_cmp_equiv}
use Rattle.std.proofs.lemmas.List.{length-map}
use Rattle.std.proofs.lemmas.List.FromFn.{length-enumerate_from, get_or-enumerate_from}
use Rattle.std.proofs.lemmas.List.Sorted.{IsPermutation-sym, IsPermutation-trans, IsPermutation-map}
use Rattle.std.proofs.lemmas.Map.Keys.{IsDistinct-from_sorted, IsDistinct-IsPermutation}
use Rattle.cat_history.specs.Records.{placed_writes}
use Rattle.cat_history.specs.declared.op.Write.{Write}
use Rattle.cat_history.specs.declared.record.Record.{Record}
use Rattle.transcript.specs.Rules.{AreCounted}
use Rattle.transcript.proofs.Orders.{same_moved, strict_from_sort}
use Rattle.transcript.proofs.RuleLaws.{numbered_strict}

abbrev place_in : ℕ × Write → ℕ
place_in e = e.0

abbrev write_in : ℕ × Write → Write
write_in e = e.1

abbrev pub StandInPlace : List (ℕ × Write) → Type 0
StandInPlace placed = (at : ℕ) (d : ℕ × Write) → at < length placed → (get_or placed at d).0 ≡ at

numbered_from : (n : ℕ) (placed : List (ℕ × Write)) → ((at : ℕ) (d : ℕ × Write) → at < length placed → (get_or placed at d).0 ≡ n + at) → placed ≡ enumerate_from n (map write_in placed)
numbered_from n [] stand = refl
numbered_from n (e ∷ placed) stand =
    let here : e.0 ≡ n = stand 0 e (omega arith) ∙ add-zero n in
    let rest = numbered_from (n + 1) placed (λ at d within. stand (suc at) d (omega arith) ∙ omega arith) in
    λ i. (here i, e.1) ∷ rest i

module _ (told : List Record) (sorted : List (ℕ × Write)) (moved : IsPermutation (placed_writes told) sorted) where
  pub counted_so : (count : ℕ) → length sorted ≡ count → StandInPlace sorted → AreCounted told count (map write_in sorted)
  counted_so count as_many stand = record {
    by_place = subst (IsPermutation (placed_writes told)) (numbered_from 0 sorted (λ at d within. stand at d within ∙ sym (zero-add at))) moved;
    as_many = length-map sorted write_in ∙ as_many;
  }

  -- those of a list by place
  module _ (up : IsSortedByKey place_in nat_cmp sorted) (count : ℕ) (writes : List Write) (counted : AreCounted told count writes) where
    sorted_is : sorted ≡ enumerate_from 0 writes
    sorted_is =
        let by_place = counted.by_place in
        let back = IsPermutation-sym (placed_writes told) (enumerate_from 0 writes) by_place in
        let apart : IsDistinct (eq_by_cmp nat_cmp) (map place_in (placed_writes told)) =
        IsDistinct-IsPermutation (eq_by_cmp nat_cmp) (eq_by_cmp_equiv nat_cmp_total).symm (map place_in (enumerate_from 0 writes)) (map place_in (placed_writes told))
        (IsPermutation-map place_in (enumerate_from 0 writes) (placed_writes told) back) (IsDistinct-from_sorted nat_cmp (map place_in (enumerate_from 0 writes)) (numbered_strict 0 writes)) in
        same_moved place_in nat_cmp nat_cmp_total sorted (enumerate_from 0 writes) (strict_from_sort place_in nat_cmp nat_cmp_total (placed_writes told) sorted apart moved up) (numbered_strict 0 writes)
        (IsPermutation-trans sorted (placed_writes told) (enumerate_from 0 writes) (IsPermutation-sym (placed_writes told) sorted moved) by_place)

    pub counted_stand : StandInPlace sorted
    counted_stand =
        subst StandInPlace (sym sorted_is) (λ at d within.
        ap place_in (get_or-enumerate_from 0 writes at d (let less = within in omega (arith, length-enumerate_from 0 writes))) ∙ zero-add at)

    pub counted_many : length sorted ≡ count
    counted_many = ap length sorted_is ∙ length-enumerate_from 0 writes ∙ counted.as_many
