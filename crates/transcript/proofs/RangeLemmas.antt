-- What a tree finds of a range of names is what its map has there.
use Rattle.std.proofs.Common.{◌≡◌, ℕ, Bool, true, false, not, ◌&&◌, cond, Some, None, List, [], ◌∷◌, map, refl, ap, ◌∙◌}
use Rattle.std.specs.FinMap.{entries}
use Rattle.std.specs.List.{filter}
use Rattle.std.specs.Ordering.{is_lt, is_le, ordering_reverse}
use Rattle.std.specs.declared.cmp.Ordering.{Ordering}
use Rattle.std.specs.declared.cmp.Ordering.TheVariants.{Less, Equal, Greater}
use Rattle.std.proofs.lemmas.Cmp.{nat_list_cmp_total}
use Rattle.std.proofs.lemmas.List.Elements.{filter_agree}
use Rattle.std.proofs.lemmas.List.Sorted.{ranks_by}
use Rattle.cat_key.specs.Names.{name_cmp}
use Rattle.cat_history.specs.Maps.{Map}
use Rattle.cat_history.specs.Scans.{is_below, is_between, range}
use Rattle.transcript.specs.Chains.{pair_of}

abbrev Entry : Type 0
Entry = List ℕ × ℕ

at_least : (low name : List ℕ) → is_le (name_cmp low name) ≡ not (is_below name low)
at_least low name = ap is_le (nat_list_cmp_total.antisymm low name) ∙ by (name_cmp name low) where
  by : (o : Ordering) → is_le (ordering_reverse o) ≡ not (is_lt o)
  by Less = refl
  by Equal = refl
  by Greater = refl

under : (high name : List ℕ) → not (is_le (name_cmp high name)) ≡ is_below name high
under high name = ap (λ o. not (is_le o)) (nat_list_cmp_total.antisymm high name) ∙ by (name_cmp name high) where
  by : (o : Ordering) → not (is_le (ordering_reverse o)) ≡ is_lt o
  by Less = refl
  by Equal = refl
  by Greater = refl

pub open_range : (m : Map) (es : List (List ℕ × ℕ)) (low : List ℕ) → es ≡ entries m →
    map pair_of (filter (λ (e : List ℕ × ℕ). is_le (name_cmp low e.0) && not false) es) ≡ range m low None
open_range m es low is =
    ap (map pair_of) (filter_agree (λ (e : Entry). is_le (name_cmp low e.0) && not false) (λ (e : Entry). is_between low None e.0) (λ e. ap (λ b. b && true) (at_least low e.0)) es
    ∙ ap (filter (λ (e : Entry). is_between low None e.0)) is)

pub closed_range : (m : Map) (es : List (List ℕ × ℕ)) (low high : List ℕ) → es ≡ entries m →
    map pair_of (filter (λ (e : List ℕ × ℕ). is_le (name_cmp low e.0) && not (is_le (name_cmp high e.0))) es) ≡ range m low (Some high)
closed_range m es low high is =
    ap (map pair_of) (filter_agree (λ (e : Entry). is_le (name_cmp low e.0) && not (is_le (name_cmp high e.0))) (λ (e : Entry). is_between low (Some high) e.0)
    (λ e. ap (λ b. b && not (is_le (name_cmp high e.0))) (at_least low e.0) ∙ ap (λ b. not (is_below e.0 low) && b) (under high e.0)) es
    ∙ ap (filter (λ (e : Entry). is_between low (Some high) e.0)) is)

none_pass : (p : Entry → Bool) → ((e : Entry) → p e ≡ false) → (es : List Entry) → filter p es ≡ []
none_pass p none [] = refl
none_pass p none (e ∷ es) = ap (λ b. cond b (e ∷ filter p es) (filter p es)) (none e) ∙ none_pass p none es

-- between bounds that are not in order there is nothing
pub no_range : (m : Map) (low high : List ℕ) → is_lt (name_cmp low high) ≡ false → range m low (Some high) ≡ []
no_range m low high apart = ap (map pair_of) (none_pass (λ (e : Entry). is_between low (Some high) e.0) (λ e. by e.0 (is_below e.0 low) refl) (entries m)) where
  by : (name : List ℕ) (b : Bool) → is_below name low ≡ b → (not b && is_below name high) ≡ false
  by name true is = refl
  by name false is = (ranks_by nat_list_cmp_total (λ (n : List ℕ). n)).chain name low high is apart
