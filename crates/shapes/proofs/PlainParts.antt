-- What a plain map lists: its pairs in rising order of names are the entries of its map.
use Rattle.std.proofs.Common.{◌≡◌, ◌≢◌, ℕ, zero, suc, ◌+◌, ◌<◌, Bool, true, false, cond, not, ◌&&◌, T, Less, Equal, Greater, Ordering, is_eq, is_gt, is_lt, Option, Some, None, List, [], ◌∷◌, length, get_or, map, refl, sym, ap, subst, ◌∙◌, arith, All}
use Rattle.std.proofs.lemmas.List.Elements.{All-from_recursion}
use Rattle.std.proofs.lemmas.List.Sorted.{IsPermutation-map, All-permutation, Contains-permutation}
use Rattle.std.proofs.Math.ListN.{get_or-map}
use Rattle.std.proofs.lemmas.List.{length-map}
use Rattle.std.proofs.lemmas.Map.Keys.{IsDistinct-IsPermutation, sorted_from_all_adjacent, apart_from_distinct}
use Rattle.std.proofs.lemmas.Map.Lookups.{exact_bytes}
use Rattle.std.specs.Cmp.Lexicographic.{nat_list_cmp_total}
use Rattle.std.specs.FinMap.{entries, entries_sorted, get-entries, get-from_entries, same_map}
use Rattle.std.specs.FinMap.Entries.{is_sorted, below_all, same_entries}
use Rattle.std.specs.List.{filter, AllByRecursion, Contains, IsDistinct}
use Rattle.std.specs.List.Sorted.{IsPermutation, IsSortedByKey, IsStrictlySortedBy}
use Rattle.cat_key.specs.Names.{name_cmp}
use Rattle.cat_key.specs.declared.Pair.{Pair}
use Rattle.cat_history.specs.Maps.{at, map_of}
use Rattle.cat_history.specs.Scans.{is_below, is_between, range}
use Rattle.cat_history.proofs.NameLemmas.{same, same-Decides, by_names, some≢none}
use Rattle.cat_history.proofs.PairLemmas.{at-cons, at-lacking}
use Rattle.shapes.specs.PlainMaps.{NamesDiffer}
use Rattle.shapes.proofs.Orders.{gt-is}
use Rattle.shapes.proofs.PlainMapLemmas.{at-position}

abbrev names : List Pair → List (List ℕ)
names ps = map (λ (p : Pair). p.name) ps

abbrev entry : Pair → List ℕ × ℕ
entry p = (p.name, p.value)

abbrev pair_with : List ℕ × ℕ → Pair
pair_with e = record { name = e.0; value = e.1 }

-- ---- names that differ, in whatever order

lacks-each : (ps : List Pair) (n : List ℕ) → at (map_of ps) n ≡ None → AllByRecursion (λ (p : Pair). same n p.name ≡ false) ps
lacks-each [] n none = tt
lacks-each (p ∷ ps) n none =
    by_names n p.name (λ b. cond b (Some p.value) (at (map_of ps) n) ≡ None → (b ≡ false) × AllByRecursion (λ (q : Pair). same n q.name ≡ false) ps)
    (λ here is. absurd (some≢none p.value is))
    (λ other is. (refl, lacks-each ps n is))
    (sym (at-cons p ps n) ∙ none)

each-name : (n : List ℕ) (ps : List Pair) → AllByRecursion (λ (p : Pair). same n p.name ≡ false) ps → AllByRecursion (λ (m : List ℕ). same n m ≡ false) (names ps)
each-name n [] each = tt
each-name n (p ∷ ps) each = (each.0, each-name n ps each.1)

differ-distinct : (ps : List Pair) → NamesDiffer ps → IsDistinct same (names ps)
unfolding IsDistinct
differ-distinct [] differ = tt
differ-distinct (p ∷ ps) differ = (each-name p.name ps (lacks-each ps p.name differ.0), differ-distinct ps differ.1)

apart-names : (n m : List ℕ) → same n m ≡ false → m ≢ n
apart-names n m other is = some≢none 0 (sym (ap (λ b. cond b (Some 0) None) ((same-Decides n m).1 (sym is))) ∙ ap (λ b. cond b (Some 0) None) other)

all-apart : (n : List ℕ) (ps : List Pair) → AllByRecursion (λ (m : List ℕ). same n m ≡ false) (names ps) → AllByRecursion (λ (p : Pair). p.name ≢ n) ps
all-apart n [] each = tt
all-apart n (p ∷ ps) each = (apart-names n p.name each.0, all-apart n ps each.1)

distinct-differ : (ps : List Pair) → IsDistinct same (names ps) → NamesDiffer ps
unfolding IsDistinct
distinct-differ [] distinct = tt
distinct-differ (p ∷ ps) distinct =
    (at-lacking ps p.name (All-from_recursion (λ (q : Pair). q.name ≢ p.name) ps (all-apart p.name ps distinct.0)), distinct-differ ps distinct.1)

same-flips : (a b : List ℕ) → same a b ≡ same b a
same-flips a b = by_names a b (λ c. c ≡ same b a) (λ is. sym ((same-Decides b a).1 (sym is))) (λ other. by_names b a (λ c. false ≡ c) (λ is. absurd (other (sym is))) (λ _. refl))

moved-distinct : (ps qs : List Pair) → NamesDiffer ps → IsPermutation ps qs → IsDistinct same (names qs)
moved-distinct ps qs differ moved = IsDistinct-IsPermutation same same-flips (names ps) (names qs) (IsPermutation-map (λ (p : Pair). p.name) ps qs moved) (differ-distinct ps differ)

any-default : (ps : List Pair) (k : ℕ) (d e : Pair) → k < length ps → get_or ps k d ≡ get_or ps k e
any-default [] k d e within = absurd (omega (arith, within))
any-default (p ∷ ps) zero d e within = refl
any-default (p ∷ ps) (suc k) d e within = any-default ps k d e (omega (arith, within))

has-pair : (ps : List Pair) (n : List ℕ) (v : ℕ) → at (map_of ps) n ≡ Some v → Contains ps (record { name = n; value = v })
has-pair [] n v is = absurd (some≢none v (sym is ∙ at-lacking [] n (λ k d within. absurd (omega (arith, within)))))
has-pair (p ∷ ps) n v is =
    by_names n p.name (λ b. cond b (Some p.value) (at (map_of ps) n) ≡ Some v → Contains (p ∷ ps) (record { name = n; value = v }))
    (λ here told. (0, omega arith, (λ i. record { name = sym here i; value = (let one : p.value ≡ v = cc in one) i })))
    (λ other told. let rest = has-pair ps n v told in (suc rest.0, (let within = rest.1 in omega arith), rest.2))
    (sym (at-cons p ps n) ∙ is)

gives-pair : (ps : List Pair) (n : List ℕ) (v : ℕ) → NamesDiffer ps → Contains ps (record { name = n; value = v }) → at (map_of ps) n ≡ Some v
gives-pair ps n v differ has =
    let it : Pair = record { name = n; value = v } in
    at-position ps has.0 n it differ has.1 (λ d. ap (λ (p : Pair). p.name) (any-default ps has.0 d it has.1 ∙ has.2)) ∙ ap (λ (p : Pair). Some p.value) has.2

lacking : (ps : List Pair) (n : List ℕ) → at (map_of ps) n ≡ None → All (λ (p : Pair). p.name ≢ n) ps
lacking ps n none = All-from_recursion (λ (p : Pair). p.name ≢ n) ps (all-apart n ps (each-name n ps (lacks-each ps n none)))

-- the map of the pairs in another order is the same
moved-map : (ps qs : List Pair) → NamesDiffer ps → IsPermutation ps qs → map_of qs ≡ map_of ps
moved-map ps qs differ moved = same_map nat_list_cmp_total exact_bytes (map_of qs) (map_of ps) (λ n. alike n (at (map_of ps) n) refl)
  where
    alike : (n : List ℕ) (o : Option ℕ) → at (map_of ps) n ≡ o → at (map_of qs) n ≡ at (map_of ps) n
    alike n None is = at-lacking qs n (All-permutation (λ (p : Pair). p.name ≢ n) ps qs moved (lacking ps n is)) ∙ sym is
    alike n (Some v) is =
        gives-pair qs n v (distinct-differ qs (moved-distinct ps qs differ moved)) (Contains-permutation ps qs (record { name = n; value = v }) moved (has-pair ps n v is)) ∙ sym is

-- ---- in rising order

less-by : (r : Ordering) → is_gt r ≡ false → is_eq r ≡ false → r ≡ Less
less-by Less up other = refl
less-by Equal up other = absurd (some≢none 0 (ap (λ b. cond b (Some 0) None) other))
less-by Greater up other = absurd (some≢none 0 (ap (λ b. cond b (Some 0) None) up))

both-hold : (a b : Bool) → T a → T b → T (a && b)
both-hold true b p q = q
both-hold false b p q = p

below-each : (p : Pair) (ps : List Pair) → AllByRecursion (λ (n : List ℕ). name_cmp p.name n ≡ Less) (names ps) → T (below_all name_cmp p.name (map entry ps))
below-each p [] each = tt
below-each p (q ∷ ps) each = both-hold (is_lt (name_cmp p.name q.name)) (below_all name_cmp p.name (map entry ps)) (subst T (sym (ap is_lt each.0)) tt) (below-each p ps each.1)

strict-sorted : (ps : List Pair) → IsStrictlySortedBy name_cmp (names ps) → T (is_sorted name_cmp (map entry ps))
unfolding IsStrictlySortedBy
strict-sorted [] strict = tt
strict-sorted (p ∷ ps) strict = both-hold (below_all name_cmp p.name (map entry ps)) (is_sorted name_cmp (map entry ps)) (below-each p ps strict.0) (strict-sorted ps strict.1)

rising : (ps : List Pair) → IsSortedByKey (λ (p : Pair). p.name) name_cmp ps → IsDistinct same (names ps) → T (is_sorted name_cmp (map entry ps))
rising ps sorted distinct =
    strict-sorted ps (sorted_from_all_adjacent nat_list_cmp_total (names ps) [] (λ k within. adjacent k within))
  where
    adjacent : (k : ℕ) → k + 1 < length (names ps) → name_cmp (get_or (names ps) k []) (get_or (names ps) (k + 1) []) ≡ Less
    adjacent k within =
        let d : Pair = record { name = []; value = 0 } in
        let size : length (names ps) ≡ length ps = length-map ps (λ (p : Pair). p.name) in
        let low : get_or (names ps) k [] ≡ (get_or ps k d).name = get_or-map (λ (p : Pair). p.name) ps k d in
        let high : get_or (names ps) (k + 1) [] ≡ (get_or ps (k + 1) d).name = get_or-map (λ (p : Pair). p.name) ps (k + 1) d in
        less-by (name_cmp (get_or (names ps) k []) (get_or (names ps) (k + 1) []))
        (gt-is (get_or (names ps) k []) (get_or (names ps) (k + 1) []) ∙ (λ i. is_lt (name_cmp (high i) (low i))) ∙ sorted k d (omega arith) (omega (arith, within, size)))
        (apart_from_distinct same (names ps) k (k + 1) [] distinct (omega arith) within)

filter-pairs : (low : List ℕ) (ps : List Pair) → map pair_with (filter (λ (e : List ℕ × ℕ). is_between low None e.0) (map entry ps)) ≡ filter (λ (p : Pair). not (is_below p.name low)) ps
filter-pairs low [] = refl
filter-pairs low (p ∷ ps) =
    elim (is_below p.name low) as (λ b. map pair_with (cond (not b && true) (entry p ∷ filter (λ (e : List ℕ × ℕ). is_between low None e.0) (map entry ps)) (filter (λ (e : List ℕ × ℕ). is_between low None e.0) (map entry ps)))
    ≡ cond (not b) (p ∷ filter (λ (q : Pair). not (is_below q.name low)) ps) (filter (λ (q : Pair). not (is_below q.name low)) ps)) [
      | true ↦ filter-pairs low ps
      | false ↦ ap (λ (qs : List Pair). p ∷ qs) (filter-pairs low ps)
    ]

-- the pairs of a plain map, sorted by name, are those of its map in the order of scans
pub sorted-range : (ps qs : List Pair) (low : List ℕ) → NamesDiffer ps → IsPermutation ps qs → IsSortedByKey (λ (p : Pair). p.name) name_cmp qs →
    filter (λ (p : Pair). not (is_below p.name low)) qs ≡ range (map_of ps) low None
sorted-range ps qs low differ moved sorted =
    let listed : entries (map_of qs) ≡ map entry qs =
    same_entries name_cmp nat_list_cmp_total exact_bytes (entries (map_of qs)) (map entry qs) (entries_sorted (map_of qs)) (rising qs sorted (moved-distinct ps qs differ moved))
    (λ n. sym (get-entries (map_of qs) n) ∙ get-from_entries nat_list_cmp_total (map entry qs) n) in
    sym (filter-pairs low qs)
    ∙ ap (λ (es : List (List ℕ × ℕ)). map pair_with (filter (λ (e : List ℕ × ℕ). is_between low None e.0) es)) (sym listed ∙ ap entries (moved-map ps qs differ moved))
