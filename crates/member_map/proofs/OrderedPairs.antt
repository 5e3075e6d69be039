-- Pairs in the order of their map: what a write in place, one pair more and one pair less leave of them.
use Rattle.std.proofs.Common.{◌≡◌, ℕ, zero, suc, ◌<◌, Bool, true, false, cond, Less, Equal, Greater, Ordering, is_lt, is_eq, is_gt, ◌||◌, Option, Some, None, List, [], ◌∷◌, ◌++◌, length, get_or, take, drop, map, refl, sym, ap, subst, ◌∙◌, arith}
use Rattle.std.proofs.Math.ListN.{set}
use Rattle.std.proofs.lemmas.List.{length-map}
use Rattle.std.specs.BTreeMap.{is_at}
use Rattle.std.specs.Cmp.{tied_itself}
use Rattle.std.specs.Cmp.Lexicographic.{nat_list_cmp_total}
use Rattle.std.specs.FinMap.{insert, entries, entries-insert, len, len-entries}
use Rattle.std.specs.FinMap as fin
use Rattle.std.specs.FinMap.Entries.{put, by_order}
use Rattle.std.specs.List.{filter, remove, AllByRecursion}
use Rattle.std.specs.Map.{remove_entry}
use Rattle.cat_key.specs.Names.{name_cmp}
use Rattle.cat_key.specs.declared.Pair.{Pair}
use Rattle.cat_history.specs.Maps.{Map, at, map_of}
use Rattle.cat_history.specs.Replays.{pairs_of}
use Rattle.cat_history.specs.Scans as scans
use Rattle.cat_history.specs.Scans.{range}
use Rattle.cat_history.proofs.ReplayLemmas.{entries-removed, entries-none}
use Rattle.shapes.specs.Anchors.{below, AnchorsRise, is_between, names_between}
use Rattle.shapes.specs.Members.{is_among}
use Rattle.shapes.proofs.Orders.{clash, same, gt-is, not_back, below-chain}
use Rattle.shapes.proofs.NameLists.{filter-keeps, filter-none}
use Rattle.shapes.proofs.Keys.{rise-keys, among-keys}

abbrev Entry : Type 0
Entry = List ℕ × ℕ

abbrev pair_of : List ℕ × ℕ → Pair
pair_of e = record { name = e.0; value = e.1 }

abbrev names : List Entry → List (List ℕ)
names es = map (λ (e : Entry). e.0) es

abbrev paired : List Entry → List Pair
paired es = map pair_of es

-- ---- which of them lie between two texts

pub names-paired : (es : List Entry) → map (λ (p : Pair). p.name) (paired es) ≡ names es
names-paired [] = refl
names-paired (e ∷ es) = ap (λ (ns : List (List ℕ)). e.0 ∷ ns) (names-paired es)

module _ (test : List ℕ → Bool) where
  pub tested-names : (ps : List Pair) → map (λ (p : Pair). p.name) (filter (λ (p : Pair). test p.name) ps) ≡ filter test (map (λ (p : Pair). p.name) ps)
  tested-names [] = refl
  tested-names (p ∷ ps) =
      elim (test p.name) as (λ b. map (λ (p : Pair). p.name) (cond b (p ∷ filter (λ (q : Pair). test q.name) ps) (filter (λ (q : Pair). test q.name) ps))
      ≡ cond b (p.name ∷ filter test (map (λ (p : Pair). p.name) ps)) (filter test (map (λ (p : Pair). p.name) ps))) [
        | true ↦ ap (λ (ns : List (List ℕ)). p.name ∷ ns) (tested-names ps)
        | false ↦ tested-names ps
      ]

  tested-pairs : (es : List Entry) → filter (λ (p : Pair). test p.name) (paired es) ≡ paired (filter (λ (e : Entry). test e.0) es)
  tested-pairs [] = refl
  tested-pairs (e ∷ es) =
      elim (test e.0) as (λ b. cond b (pair_of e ∷ filter (λ (q : Pair). test q.name) (paired es)) (filter (λ (q : Pair). test q.name) (paired es))
      ≡ paired (cond b (e ∷ filter (λ (e : Entry). test e.0) es) (filter (λ (e : Entry). test e.0) es))) [
        | true ↦ ap (λ (ps : List Pair). pair_of e ∷ ps) (tested-pairs es)
        | false ↦ tested-pairs es
      ]

abbrev pub lying : List ℕ → Option (List ℕ) → List Pair → List Pair
lying low high ps = filter (λ (p : Pair). is_between low high p.name) ps

-- their names are those of the map there
pub lying-names : (m : Map) (low : List ℕ) (high : Option (List ℕ)) (ps : List Pair) → ps ≡ pairs_of m → map (λ (p : Pair). p.name) (lying low high ps) ≡ names_between m low high
lying-names m low high ps is =
    tested-names (is_between low high) ps
    ∙ ap (λ (qs : List Pair). filter (is_between low high) (map (λ (p : Pair). p.name) qs)) is
    ∙ ap (filter (is_between low high)) (names-paired (entries m))

pub lying-many : (m : Map) (low : List ℕ) (high : Option (List ℕ)) (ps : List Pair) → ps ≡ pairs_of m → length (lying low high ps) ≡ length (names_between m low high)
lying-many m low high ps is = sym (length-map (lying low high ps) (λ (p : Pair). p.name)) ∙ ap length (lying-names m low high ps is)

-- and they are what a scan lists of the map there
between-alike : (low : List ℕ) (high : Option (List ℕ)) (es : List Entry) → filter (λ (e : Entry). is_between low high e.0) es ≡ filter (λ (e : Entry). scans.is_between low high e.0) es
between-alike low None es = refl
between-alike low (Some h) es = refl

pub lying-range : (m : Map) (low : List ℕ) (high : Option (List ℕ)) (ps : List Pair) → ps ≡ pairs_of m → lying low high ps ≡ range m low high
lying-range m low high ps is =
    ap (lying low high) is ∙ tested-pairs (is_between low high) (entries m) ∙ ap paired (between-alike low high (entries m))

pub many-pairs : (m : Map) (ps : List Pair) → ps ≡ pairs_of m → length ps ≡ len m
many-pairs m ps is = ap length is ∙ length-map (entries m) pair_of ∙ sym (len-entries m)

-- ---- a write in place

greater-is : (r : Ordering) → is_gt r ≡ true → r ≡ Greater
greater-is Less is = clash is refl
greater-is Equal is = clash is refl
greater-is Greater is = refl

-- a name behind the first one is above it
later-above : (x : List ℕ) (es : List Entry) (k : ℕ) (n : List ℕ) (d : Entry) → AllByRecursion (λ y. below x y ≡ true) (names es) → k < length es → (get_or es k d).0 ≡ n → below x n ≡ true
later-above x [] k n d all within is = absurd (omega (arith, within))
later-above x (e ∷ es) zero n d all within is = subst (λ (y : List ℕ). below x y ≡ true) is all.0
later-above x (e ∷ es) (suc k) n d all within is = later-above x es k n d all.1 (omega (arith, within)) is

greater-by : (x n : List ℕ) → below x n ≡ true → name_cmp n x ≡ Greater
greater-by x n above = greater-is (name_cmp n x) (gt-is n x ∙ above)

put-written : (es : List Entry) (k : ℕ) (n : List ℕ) (v : ℕ) (d : Entry) → AnchorsRise (names es) → k < length es → (get_or es k d).0 ≡ n → put name_cmp n v es ≡ set es k (n, v)
put-written [] k n v d rise within is = absurd (omega (arith, within))
put-written (e ∷ es) zero n v d rise within is =
    ap (λ r. by_order r ((n, v) ∷ e ∷ es) ((e.0, v) ∷ es) (e ∷ put name_cmp n v es)) (ap (name_cmp n) is ∙ tied_itself nat_list_cmp_total n)
    ∙ ap (λ (x : List ℕ). (x, v) ∷ es) is
put-written (e ∷ es) (suc k) n v d rise within is =
    let fits : k < length es = omega (arith, within) in
    ap (λ r. by_order r ((n, v) ∷ e ∷ es) ((e.0, v) ∷ es) (e ∷ put name_cmp n v es)) (greater-by e.0 n (later-above e.0 es k n d rise.0 fits is))
    ∙ ap (λ (rest : List Entry). e ∷ rest) (put-written es k n v d rise.1 fits is)

paired-set : (es : List Entry) (k : ℕ) (e : Entry) → paired (set es k e) ≡ set (paired es) k (pair_of e)
paired-set [] k e = refl
paired-set (x ∷ es) zero e = refl
paired-set (x ∷ es) (suc k) e = ap (λ (ps : List Pair). pair_of x ∷ ps) (paired-set es k e)

paired-at : (es : List Entry) (k : ℕ) (d : Entry) → (get_or (paired es) k (pair_of d)).name ≡ (get_or es k d).0
paired-at [] k d = refl
paired-at (e ∷ es) zero d = refl
paired-at (e ∷ es) (suc k) d = paired-at es k d

abbrev pub nameless : Pair
nameless = record { name = []; value = 0 }

pub written-pairs : (m : Map) (ps : List Pair) (k : ℕ) (n : List ℕ) (v : ℕ) → ps ≡ pairs_of m → k < length ps → (get_or ps k nameless).name ≡ n →
    set ps k (record { name = n; value = v }) ≡ pairs_of (insert m n v)
written-pairs m ps k n v is within named =
    let es : List Entry = entries m in
    let fits : k < length es = subst (λ (l : ℕ). k < l) (ap length is ∙ length-map es pair_of) within in
    let here : (get_or es k ([], 0)).0 ≡ n = sym (paired-at es k ([], 0)) ∙ ap (λ (qs : List Pair). (get_or qs k nameless).name) (sym is) ∙ named in
    ap (λ (qs : List Pair). set qs k (record { name = n; value = v })) is
    ∙ sym (paired-set es k (n, v))
    ∙ ap paired (sym (put-written es k n v ([], 0) (rise-keys m) fits here) ∙ sym (entries-insert nat_list_cmp_total m n v))

-- ---- one pair more

put-new : (es : List Entry) (n : List ℕ) (v : ℕ) → AnchorsRise (names es) → is_among n (names es) ≡ false →
    put name_cmp n v es ≡ take (length (filter (λ (e : Entry). below e.0 n) es)) es ++ (n, v) ∷ drop (length (filter (λ (e : Entry). below e.0 n) es)) es
put-new [] n v rise lacks = refl
put-new (e ∷ es) n v rise lacks =
    elim (name_cmp n e.0) as (λ r. name_cmp n e.0 ≡ r → by_order r ((n, v) ∷ e ∷ es) ((e.0, v) ∷ es) (e ∷ put name_cmp n v es)
    ≡ take (length (filter (λ (e : Entry). below e.0 n) (e ∷ es))) (e ∷ es) ++ (n, v) ∷ drop (length (filter (λ (e : Entry). below e.0 n) (e ∷ es))) (e ∷ es)) [
      | Less ↦ λ is.
          let low : below n e.0 ≡ true = ap is_lt is in
          ap (λ (k : ℕ). take k (e ∷ es) ++ (n, v) ∷ drop k (e ∷ es)) (sym (ap length (filter-none (λ (e : Entry). below e.0 n) (e ∷ es) (not_back n e.0 low, none-below low es rise.0))))
      | Equal ↦ λ is. clash (ap (λ r. is_eq r || is_among n (names es)) is) lacks
      | Greater ↦ λ is.
          let high : below e.0 n ≡ true = sym (gt-is n e.0) ∙ ap is_gt is in
          ap (λ (rest : List Entry). e ∷ rest) (put-new es n v rise.1 (later-lacks (same n e.0) lacks))
          ∙ ap (λ (k : ℕ). take k (e ∷ es) ++ (n, v) ∷ drop k (e ∷ es)) (sym (ap length (filter-keeps (λ (e : Entry). below e.0 n) e es high)))
    ] refl
  where
    none-below : below n e.0 ≡ true → (xs : List Entry) → AllByRecursion (λ y. below e.0 y ≡ true) (names xs) → AllByRecursion (λ (x : Entry). below x.0 n ≡ false) xs
    none-below low [] all = tt
    none-below low (x ∷ xs) all = (not_back n x.0 (below-chain n e.0 x.0 low all.0), none-below low xs all.1)

    later-lacks : (b : Bool) → (b || is_among n (names es)) ≡ false → is_among n (names es) ≡ false
    later-lacks true is = clash refl is
    later-lacks false is = is

below-paired : (n : List ℕ) (es : List Entry) → length (filter (λ (p : Pair). below p.name n) (paired es)) ≡ length (filter (λ (e : Entry). below e.0 n) es)
below-paired n es = ap length (tested-pairs (λ x. below x n) es) ∙ length-map (filter (λ (e : Entry). below e.0 n) es) pair_of

paired-inserted : (es : List Entry) (k : ℕ) (e : Entry) → paired (take k es ++ e ∷ drop k es) ≡ take k (paired es) ++ pair_of e ∷ drop k (paired es)
paired-inserted es zero e = refl
paired-inserted [] (suc k) e = refl
paired-inserted (x ∷ es) (suc k) e = ap (λ (ps : List Pair). pair_of x ∷ ps) (paired-inserted es k e)

pub inserted-pairs : (m : Map) (ps : List Pair) (k : ℕ) (n : List ℕ) (v : ℕ) → ps ≡ pairs_of m → at m n ≡ None → k ≡ length (filter (λ (p : Pair). below p.name n) ps) →
    take k ps ++ record { name = n; value = v } ∷ drop k ps ≡ pairs_of (insert m n v)
inserted-pairs m ps k n v is lacks place =
    let es : List Entry = entries m in
    let here : k ≡ length (filter (λ (e : Entry). below e.0 n) es) = place ∙ ap (λ (qs : List Pair). length (filter (λ (p : Pair). below p.name n) qs)) is ∙ below-paired n es in
    let none : is_among n (names es) ≡ false = among-keys m n ∙ ap some_or lacks in
    ap (λ (qs : List Pair). take k qs ++ record { name = n; value = v } ∷ drop k qs) is
    ∙ sym (paired-inserted es k (n, v))
    ∙ ap (λ (j : ℕ). paired (take j es ++ (n, v) ∷ drop j es)) here
    ∙ ap paired (sym (put-new es n v (rise-keys m) none) ∙ sym (entries-insert nat_list_cmp_total m n v))
  where
    some_or : Option ℕ → Bool
    some_or None = false
    some_or (Some x) = true

-- ---- one pair less

removed-at : (es : List Entry) (k : ℕ) (n : List ℕ) (d : Entry) → AnchorsRise (names es) → k < length es → (get_or es k d).0 ≡ n → remove_entry (is_at (name_cmp n)) es ≡ remove es k
removed-at [] k n d rise within is = absurd (omega (arith, within))
removed-at (e ∷ es) zero n d rise within is =
    ap (λ r. cond (is_eq r) es (e ∷ remove_entry (is_at (name_cmp n)) es)) (ap (name_cmp n) is ∙ tied_itself nat_list_cmp_total n)
removed-at (e ∷ es) (suc k) n d rise within is =
    let fits : k < length es = omega (arith, within) in
    ap (λ r. cond (is_eq r) es (e ∷ remove_entry (is_at (name_cmp n)) es)) (greater-by e.0 n (later-above e.0 es k n d rise.0 fits is))
    ∙ ap (λ (rest : List Entry). e ∷ rest) (removed-at es k n d rise.1 fits is)

paired-removed : (es : List Entry) (k : ℕ) → paired (remove es k) ≡ remove (paired es) k
paired-removed [] zero = refl
paired-removed [] (suc k) = refl
paired-removed (e ∷ es) zero = refl
paired-removed (e ∷ es) (suc k) = ap (λ (ps : List Pair). pair_of e ∷ ps) (paired-removed es k)

pub removed-pairs : (m : Map) (ps : List Pair) (k : ℕ) (n : List ℕ) → ps ≡ pairs_of m → k < length ps → (get_or ps k nameless).name ≡ n →
    remove ps k ≡ pairs_of (fin.remove m n)
removed-pairs m ps k n is within named =
    let es : List Entry = entries m in
    let fits : k < length es = subst (λ (l : ℕ). k < l) (ap length is ∙ length-map es pair_of) within in
    let here : (get_or es k ([], 0)).0 ≡ n = sym (paired-at es k ([], 0)) ∙ ap (λ (qs : List Pair). (get_or qs k nameless).name) (sym is) ∙ named in
    ap (λ (qs : List Pair). remove qs k) is
    ∙ sym (paired-removed es k)
    ∙ ap paired (sym (removed-at es k n ([], 0) (rise-keys m) fits here) ∙ entries-removed m n)

-- ---- the number of a pair

pub any-default : (ps : List Pair) (k : ℕ) (d e : Pair) → k < length ps → get_or ps k d ≡ get_or ps k e
any-default [] k d e within = absurd (omega (arith, within))
any-default (p ∷ ps) zero d e within = refl
any-default (p ∷ ps) (suc k) d e within = any-default ps k d e (omega (arith, within))

pub at-pair : (m : Map) (ps : List Pair) (k : ℕ) (n : List ℕ) (d : Pair) → ps ≡ pairs_of m → k < length ps → (get_or ps k nameless).name ≡ n → at m n ≡ Some (get_or ps k d).value
at-pair m ps k n d is within named =
    let es : List Entry = entries m in
    let fits : k < length es = subst (λ (l : ℕ). k < l) (ap length is ∙ length-map es pair_of) within in
    let here : (get_or es k ([], 0)).0 ≡ n = sym (paired-at es k ([], 0)) ∙ ap (λ (qs : List Pair). (get_or qs k nameless).name) (sym is) ∙ named in
    fin.get-entries m n ∙ found es k (rise-keys m) fits here
    ∙ ap Some (valued es k) ∙ ap (λ (qs : List Pair). Some (get_or qs k nameless).value) (sym is)
    ∙ ap (λ (p : Pair). Some p.value) (any-default ps k nameless d within)
  where
    found : (es : List Entry) (k : ℕ) → AnchorsRise (names es) → k < length es → (get_or es k ([], 0)).0 ≡ n → fin.find name_cmp n es ≡ Some (get_or es k ([], 0)).1
    found [] k rise within is = absurd (omega (arith, within))
    found (e ∷ es) zero rise within is =
        ap (λ r. cond (is_eq r) (Some e.1) (fin.find name_cmp n es)) (ap (name_cmp n) is ∙ tied_itself nat_list_cmp_total n)
    found (e ∷ es) (suc k) rise within is =
        let fits : k < length es = omega (arith, within) in
        ap (λ r. cond (is_eq r) (Some e.1) (fin.find name_cmp n es)) (greater-by e.0 n (later-above e.0 es k n ([], 0) rise.0 fits is))
        ∙ found es k rise.1 fits is

    valued : (es : List Entry) (k : ℕ) → (get_or es k ([], 0)).1 ≡ (get_or (paired es) k nameless).value
    valued [] k = refl
    valued (e ∷ es) zero = refl
    valued (e ∷ es) (suc k) = valued es k

-- no pairs are those of the empty map
pub none-in-order : [] ≡ pairs_of (map_of [])
none-in-order = ap paired (sym entries-none)
