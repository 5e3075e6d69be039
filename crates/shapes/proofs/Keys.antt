-- The names of a map: they rise, a put adds its name, a delete takes its name away.
use Rattle.std.proofs.Common.{◌≡◌, ℕ, Bool, true, false, not, cond, T, Less, Equal, Greater, is_some, is_eq, is_gt, ◌||◌, ⊎_elim, Option, None, List, [], ◌∷◌, ◌++◌, map, refl, sym, ap, subst, ◌∙◌}
use Rattle.std.proofs.lemmas.Map.Lookups.{exact_bytes}
use Rattle.std.specs.FinMap.Entries.{put, by_order, below_all, is_sorted, where_key, find-where_key, is_sorted-where_key}
use Rattle.std.specs.FinMap.{keys, insert, remove, get, entries, entries_sorted, entries-insert, from_sorted, entries-from_sorted, get-from_sorted, get-entries, get-remove, same_map, contains_key-keys}
use Rattle.std.specs.Cmp.Lexicographic.{nat_list_cmp_total}
use Rattle.std.specs.List.{filter, AllByRecursion}
use Rattle.std.specs.Ordering.{is_lt}
use Rattle.cat_key.specs.Names.{name_cmp}
use Rattle.cat_history.specs.Maps.{Map, at}
use Rattle.shapes.specs.Anchors.{below, AnchorsRise, is_between, names_between}
use Rattle.shapes.specs.Members.{is_among, with_name, without_name}
use Rattle.shapes.proofs.Orders.{same, true_or_false, clash, not_back, same-is, same-itself, gt-is, below-chain, no_true}
use Rattle.shapes.proofs.NameLists.{all_by, filter-keeps, filter-drops, filter-all, filter-none, filter-swapped, rise-filter, with_name-there, with_name-filter, with_name-outside}
use Rattle.cat_history.proofs.ScanLemmas.{is_true, first, second}

abbrev Entries : Type 0
Entries = List (List ℕ × ℕ)

abbrev names : Entries → List (List ℕ)
names es = map (λ e. e.0) es

all-above : (x : List ℕ) (es : Entries) → T (below_all name_cmp x es) → AllByRecursion (λ y. below x y ≡ true) (names es)
all-above x [] t = tt
all-above x (e ∷ es) t = (is_true (below x e.0) (first (below x e.0) (below_all name_cmp x es) t), all-above x es (second (below x e.0) (below_all name_cmp x es) t))

rise-names : (es : Entries) → T (is_sorted name_cmp es) → AnchorsRise (names es)
rise-names [] t = tt
rise-names (e ∷ es) t =
    (all-above e.0 es (first (below_all name_cmp e.0 es) (is_sorted name_cmp es) t), rise-names es (second (below_all name_cmp e.0 es) (is_sorted name_cmp es) t))

pub rise-keys : (m : Map) → AnchorsRise (keys m)
rise-keys m = rise-names (entries m) (entries_sorted m)

-- a name among texts all of which are above it
pub with_name-lowest : (n : List ℕ) (xs : List (List ℕ)) → AllByRecursion (λ y. below n y ≡ true) xs → with_name n xs ≡ n ∷ xs
with_name-lowest n xs all =
    ap (λ ys. ys ++ n ∷ filter (λ y. below n y) xs) (filter-none (λ y. below y n) xs (all_by (λ y. below n y ≡ true) (λ y. below y n ≡ false) (λ y above. not_back n y above) xs all))
    ∙ ap (λ ys. n ∷ ys) (filter-all (λ y. below n y) xs all)

names-put : (n : List ℕ) (v : ℕ) (es : Entries) → AnchorsRise (names es) → names (put name_cmp n v es) ≡ with_name n (names es)
names-put n v [] rise = refl
names-put n v (e ∷ es) rise =
    elim (name_cmp n e.0) as (λ r. name_cmp n e.0 ≡ r → names (by_order r ((n, v) ∷ e ∷ es) ((e.0, v) ∷ es) (e ∷ put name_cmp n v es)) ≡ with_name n (e.0 ∷ names es)) [
      | Less ↦ λ is.
          let low : below n e.0 ≡ true = ap is_lt is in
          sym (with_name-lowest n (e.0 ∷ names es) (low, above-all low (names es) rise.0))
      | Equal ↦ λ is.
          let here : n ≡ e.0 = same-is n e.0 (ap is_eq is) in
          sym (with_name-there n (e.0 ∷ names es) rise (among-first is))
      | Greater ↦ λ is.
          let high : below e.0 n ≡ true = sym (gt-is n e.0) ∙ ap is_gt is in
          ap (λ ys. e.0 ∷ ys) (names-put n v es rise.1)
          ∙ sym (ap (λ ys. ys ++ n ∷ filter (λ y. below n y) (e.0 ∷ names es)) (filter-keeps (λ y. below y n) e.0 (names es) high)
          ∙ ap (λ ys. e.0 ∷ filter (λ y. below y n) (names es) ++ n ∷ ys) (filter-drops (λ y. below n y) e.0 (names es) (not_back e.0 n high)))
    ] refl
  where
    above-all : below n e.0 ≡ true → (xs : List (List ℕ)) → AllByRecursion (λ y. below e.0 y ≡ true) xs → AllByRecursion (λ y. below n y ≡ true) xs
    above-all low xs all = all_by (λ y. below e.0 y ≡ true) (λ y. below n y ≡ true) (λ y above. below-chain n e.0 y low above) xs all

    among-first : name_cmp n e.0 ≡ Equal → is_among n (e.0 ∷ names es) ≡ true
    among-first is = ap (λ r. is_eq r || is_among n (names es)) is

pub keys-insert : (m : Map) (n : List ℕ) (v : ℕ) → keys (insert m n v) ≡ with_name n (keys m)
keys-insert m n v = ap names (entries-insert nat_list_cmp_total m n v) ∙ names-put n v (entries m) (rise-keys m)

-- the test that leaves a name out
abbrev other_than : List ℕ → List ℕ → Bool
other_than n y = not (same n y)

names-where : (n : List ℕ) (es : Entries) → names (where_key name_cmp (other_than n) es) ≡ filter (other_than n) (names es)
names-where n [] = refl
names-where n (e ∷ es) =
    elim (other_than n e.0) as (λ b. names (cond b (e ∷ where_key name_cmp (other_than n) es) (where_key name_cmp (other_than n) es)) ≡ cond b (e.0 ∷ filter (other_than n) (names es)) (filter (other_than n) (names es))) [
      | true ↦ ap (λ ys. e.0 ∷ ys) (names-where n es)
      | false ↦ names-where n es
    ]

removed : (m : Map) (n : List ℕ) → remove m n ≡ from_sorted (where_key name_cmp (other_than n) (entries m))
removed m n =
    let sorted = is_sorted-where_key name_cmp (other_than n) (entries m) (entries_sorted m) in
    same_map nat_list_cmp_total exact_bytes _ _ (λ q.
    get-remove nat_list_cmp_total m n q
    ∙ ⊎_elim
    (λ (here : same q n ≡ true).
    ap (λ b. cond b None (get m q)) here ∙ ap (λ b. cond (not b) (get m q) None) (sym (subst (λ k. same n k ≡ true) (sym (same-is q n here)) (same-itself n))))
    (λ (apart : same q n ≡ false).
    ap (λ b. cond b None (get m q)) apart ∙ ap (λ b. cond (not b) (get m q) None) (sym (turn q apart)))
    (true_or_false (same q n))
    ∙ ap (λ o. cond (other_than n q) o None) (get-entries m q)
    ∙ sym (find-where_key name_cmp (other_than n) q (λ x is. ap (other_than n) (sym (same-is q x (ap is_eq is)))) (entries m))
    ∙ sym (get-from_sorted name_cmp (where_key name_cmp (other_than n) (entries m)) q sorted))
  where
    turn : (q : List ℕ) → same q n ≡ false → same n q ≡ false
    turn q apart = no_true (same n q) (λ is. clash (subst (λ k. same k n ≡ true) (same-is n q is) (same-itself n)) apart)

pub keys-remove : (m : Map) (n : List ℕ) → keys (remove m n) ≡ without_name n (keys m)
keys-remove m n =
    ap keys (removed m n)
    ∙ ap names (entries-from_sorted name_cmp (where_key name_cmp (other_than n) (entries m)) (is_sorted-where_key name_cmp (other_than n) (entries m) (entries_sorted m)))
    ∙ names-where n (entries m)

pub among-keys : (m : Map) (n : List ℕ) → is_among n (keys m) ≡ is_some (at m n)
among-keys m n = sym (contains_key-keys m n)

-- ---- the names between two texts

pub rise-between : (m : Map) (low : List ℕ) (high : Option (List ℕ)) → AnchorsRise (names_between m low high)
rise-between m low high = rise-filter (is_between low high) (keys m) (rise-keys m)

pub put-inside : (m : Map) (low : List ℕ) (high : Option (List ℕ)) (n : List ℕ) (v : ℕ) → is_between low high n ≡ true →
    names_between (insert m n v) low high ≡ with_name n (names_between m low high)
put-inside m low high n v inside = ap (filter (is_between low high)) (keys-insert m n v) ∙ with_name-filter (is_between low high) n (keys m) inside

pub put-outside : (m : Map) (low : List ℕ) (high : Option (List ℕ)) (n : List ℕ) (v : ℕ) → is_between low high n ≡ false →
    names_between (insert m n v) low high ≡ names_between m low high
put-outside m low high n v outside = ap (filter (is_between low high)) (keys-insert m n v) ∙ with_name-outside (is_between low high) n (keys m) (rise-keys m) outside

-- a delete takes the name away wherever it is
pub del-between : (m : Map) (low : List ℕ) (high : Option (List ℕ)) (n : List ℕ) → names_between (remove m n) low high ≡ without_name n (names_between m low high)
del-between m low high n = ap (filter (is_between low high)) (keys-remove m n) ∙ filter-swapped (is_between low high) (other_than n) (keys m)
