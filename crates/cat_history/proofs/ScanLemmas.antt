-- A scan of a map that stays lists, in all its parts together, the first names from there on.
use Rattle.std.proofs.Common.{◌≡◌, ℕ, zero, suc, ◌-◌, ◌<◌, ◌≤◌, ⊎_elim, inl, inr, Bool, true, false, not, cond, ◌&&◌, T, Less, Equal, Greater, Ordering, is_gt, is_lt, Option, Some, None, List, [], ◌∷◌, ◌++◌, length, take, map, refl, sym, ap, subst, ◌∙◌, arith, append-nil, append_assoc}
use Rattle.std.proofs.lemmas.Bool.{true≢false}
use Rattle.std.proofs.lemmas.List.{map-append, length-take}
use Rattle.std.specs.Prelude.{IfSome, flat_map}
use Rattle.std.specs.Cmp.{upto}
use Rattle.std.specs.Cmp.Lexicographic.{nat_list_cmp_total}
use Rattle.std.specs.FinMap.{entries, entries_sorted}
use Rattle.std.specs.FinMap.Entries.{below_all, is_sorted, where_key, is_sorted-where_key}
use Rattle.std.specs.List.{filter, AllByRecursion}
use Rattle.std.specs.Ordering.{ordering_reverse}
use Rattle.cat_key.specs.Names.{name_cmp}
use Rattle.cat_key.specs.declared.Pair.{Pair}
use Rattle.cat_history.specs.Maps.{Map}
use Rattle.cat_history.specs.Scans.{is_below, is_under, is_between, range, IsPart, IsLastPart, AreParts, ScanIsWhole, RiseAbove, Rise, RangesRise, ScansRise, GoesOn, PartsFollow, PartsAreLater}
use Rattle.cat_history.specs.Scans.AreParts.{cut_off, ends, goes_on}
use Rattle.cat_history.specs.declared.record.ScanPart.{ScanPart}

-- ---- the order of names

clash : {A : Type 0} {b : Bool} → b ≡ true → b ≡ false → A
clash t f = absurd (true≢false (sym t ∙ f))

no_true : (b : Bool) → (b ≡ true → ⊥) → b ≡ false
no_true true un = absurd (un refl)
no_true false un = refl

no_false : (b : Bool) → (b ≡ false → ⊥) → b ≡ true
no_false true un = refl
no_false false un = absurd (un refl)

turned : (r : Ordering) → is_lt (ordering_reverse r) ≡ is_gt r
turned Less = refl
turned Equal = refl
turned Greater = refl

gt-is : (a b : List ℕ) → is_gt (name_cmp a b) ≡ is_below b a
gt-is a b = sym (ap is_lt (nat_list_cmp_total.antisymm b a) ∙ turned (name_cmp a b))

upto-chain : (a b c : List ℕ) → is_below b a ≡ false → is_below c b ≡ false → is_below c a ≡ false
upto-chain a b c p q = sym (gt-is a c) ∙ upto nat_list_cmp_total a b c (gt-is a b ∙ p) (gt-is b c ∙ q)

level : (r : Ordering) → is_lt r ≡ true → is_gt r ≡ false
level Less e = refl
level Equal e = refl
level Greater e = sym e

not_back : (a b : List ℕ) → is_below a b ≡ true → is_below b a ≡ false
not_back a b p = sym (gt-is a b) ∙ level (name_cmp a b) p

below-chain : (a b c : List ℕ) → is_below a b ≡ true → is_below b c ≡ true → is_below a c ≡ true
below-chain a b c p q = no_false (is_below a c) (λ un. clash p (upto-chain b c a (not_back b c q) un))

-- ---- ranges of a rising list

abbrev Entries : Type 0
Entries = List (List ℕ × ℕ)

pub is_true : (b : Bool) → T b → b ≡ true
is_true true t = refl
is_true false t = absurd t

pub first : (a b : Bool) → T (a && b) → T a
first true b t = tt
first false b t = t

pub second : (a b : Bool) → T (a && b) → T b
second true b t = t
second false b t = absurd t

all-above : (x : List ℕ) (es : Entries) → T (below_all name_cmp x es) → AllByRecursion (λ (y : List ℕ × ℕ). is_below x y.0 ≡ true) es
all-above x [] t = tt
all-above x (e ∷ es) t = (is_true (is_below x e.0) (first (is_below x e.0) (below_all name_cmp x es) t), all-above x es (second (is_below x e.0) (below_all name_cmp x es) t))

module _ (p : List ℕ × ℕ → Bool) where
  keeps : (x : List ℕ × ℕ) (xs : Entries) → p x ≡ true → filter p (x ∷ xs) ≡ x ∷ filter p xs
  keeps x xs is = ap (λ b. cond b (x ∷ filter p xs) (filter p xs)) is

  drops : (x : List ℕ × ℕ) (xs : Entries) → p x ≡ false → filter p (x ∷ xs) ≡ filter p xs
  drops x xs is = ap (λ b. cond b (x ∷ filter p xs) (filter p xs)) is

  keeps-all : (Q : List ℕ × ℕ → Type 0) → ((y : List ℕ × ℕ) → Q y → p y ≡ true) → (xs : Entries) → AllByRecursion Q xs → filter p xs ≡ xs
  keeps-all Q by [] all = refl
  keeps-all Q by (x ∷ xs) all = keeps x xs (by x all.0) ∙ ap (λ (ys : Entries). x ∷ ys) (keeps-all Q by xs all.1)

  drops-all : (Q : List ℕ × ℕ → Type 0) → ((y : List ℕ × ℕ) → Q y → p y ≡ false) → (xs : Entries) → AllByRecursion Q xs → filter p xs ≡ []
  drops-all Q by [] all = refl
  drops-all Q by (x ∷ xs) all = drops x xs (by x all.0) ∙ drops-all Q by xs all.1

module _ (low high : List ℕ) (order : is_below low high ≡ true) where
  abbrev under : List ℕ × ℕ → Bool
  under e = is_between low (Some high) e.0

  abbrev behind : List ℕ × ℕ → Bool
  behind e = is_between high None e.0

  abbrev either : List ℕ × ℕ → Bool
  either e = is_between low None e.0

  -- a rising list is cut at a name: what is below it, and what isn't
  cut-at : (es : Entries) → T (is_sorted name_cmp es) → filter under es ++ filter behind es ≡ filter either es
  cut-at [] t = refl
  cut-at (e ∷ es) t = by (is_below e.0 high) refl (is_below e.0 low) refl (cut-at es (second (below_all name_cmp e.0 es) (is_sorted name_cmp es) t))
    where
      later : AllByRecursion (λ (y : List ℕ × ℕ). is_below e.0 y.0 ≡ true) es
      later = all-above e.0 es (first (below_all name_cmp e.0 es) (is_sorted name_cmp es) t)

      by : (b : Bool) → is_below e.0 high ≡ b → (c : Bool) → is_below e.0 low ≡ c → filter under es ++ filter behind es ≡ filter either es →
          filter under (e ∷ es) ++ filter behind (e ∷ es) ≡ filter either (e ∷ es)
      by true is true lower rest =
          (λ i. drops under e es (λ j. not (lower j) && is j) i ++ drops behind e es (λ j. not (is j) && true) i)
          ∙ rest ∙ sym (drops either e es (λ j. not (lower j) && true))
      by true is false lower rest =
          (λ i. keeps under e es (λ j. not (lower j) && is j) i ++ drops behind e es (λ j. not (is j) && true) i)
          ∙ ap (λ (ys : Entries). e ∷ ys) rest ∙ sym (keeps either e es (λ j. not (lower j) && true))
      by false is true lower rest = clash (below-chain e.0 low high lower order) is
      by false is false lower rest =
          let past : (y : List ℕ × ℕ) → is_below e.0 y.0 ≡ true → is_below y.0 high ≡ false = λ y above. no_true (is_below y.0 high) (λ below. clash (below-chain e.0 y.0 high above below) is) in
          let past-low : (y : List ℕ × ℕ) → is_below e.0 y.0 ≡ true → is_below y.0 low ≡ false = λ y above. no_true (is_below y.0 low) (λ below. clash (below-chain y.0 low high below order) (past y above)) in
          let Later : List ℕ × ℕ → Type 0 = λ y. is_below e.0 y.0 ≡ true in
          let none : filter under (e ∷ es) ≡ [] =
          drops under e es (λ j. not (lower j) && is j) ∙ drops-all under Later (λ y above j. not (past-low y above j) && past y above j) es later in
          let all : filter behind (e ∷ es) ≡ e ∷ es =
          keeps behind e es (λ j. not (is j) && true) ∙ ap (λ (ys : Entries). e ∷ ys) (keeps-all behind Later (λ y above j. not (past y above j) && true) es later) in
          let each : filter either (e ∷ es) ≡ e ∷ es =
          keeps either e es (λ j. not (lower j) && true) ∙ ap (λ (ys : Entries). e ∷ ys) (keeps-all either Later (λ y above j. not (past-low y above j) && true) es later) in
          (λ i. none i ++ all i) ∙ sym each

  range-cut : (m : Map) → range m low (Some high) ++ range m high None ≡ range m low None
  range-cut m =
      let pair : List ℕ × ℕ → Pair = λ e. record { name = e.0; value = e.1 } in
      sym (map-append pair (filter under (entries m)) (filter behind (entries m))) ∙ ap (map pair) (cut-at (entries m) (entries_sorted m))

-- ---- the first of two lists together

module _ {X : Type 0} where
  take-short : (n : ℕ) (xs : List X) → length (take n xs) ≤ length xs
  take-short zero xs = omega arith
  take-short (suc n) [] = omega arith
  take-short (suc n) (x ∷ xs) = let rest = take-short n xs in omega arith

  take-whole : (n : ℕ) (xs : List X) → length (take n xs) < n → take n xs ≡ xs
  take-whole zero xs less = absurd (omega arith)
  take-whole (suc n) [] less = refl
  take-whole (suc n) (x ∷ xs) less = ap (λ (ys : List X). x ∷ ys) (take-whole n xs (omega (arith, less)))

  take-within : (n : ℕ) (xs ys : List X) → n ≤ length xs → take n (xs ++ ys) ≡ take n xs
  take-within zero xs ys fits = refl
  take-within (suc n) [] ys fits = absurd (omega arith)
  take-within (suc n) (x ∷ xs) ys fits = ap (λ (zs : List X). x ∷ zs) (take-within n xs ys (omega (arith, fits)))

  take-past : (n : ℕ) (xs ys : List X) → length xs ≤ n → take n (xs ++ ys) ≡ xs ++ take (n - length xs) ys
  take-past n [] ys fits = ap (λ (k : ℕ). take k ys) (let same : n ≡ n - 0 = omega arith in same)
  take-past zero (x ∷ xs) ys fits = absurd (omega (arith, fits))
  take-past (suc n) (x ∷ xs) ys fits =
      ap (λ (zs : List X). x ∷ zs) (take-past n xs ys (omega (arith, fits)))
      ∙ ap (λ (k : ℕ). x ∷ (xs ++ take k ys)) (let same : n - length xs ≡ suc n - suc (length xs) = omega arith in same)

-- ---- the parts

part-order : (map_at : ℕ → Map) (low high : List ℕ) (left place : ℕ) (part : ScanPart) → IsPart map_at low left place part → part.high ≡ Some high → is_below low high ≡ true
part-order map_at low high left place part is at =
    subst (λ (l : List ℕ). is_below l high ≡ true) is.begins (subst (λ (o : Option (List ℕ)). IfSome o (λ h. is_below part.low h ≡ true)) at is.bounds)

module _ (m : Map) where
  -- what a part lists, from where the scan has come to
  part-lists : (low : List ℕ) (left place : ℕ) (part : ScanPart) → IsPart (λ _. m) low left place part → part.pairs ≡ take left (range m low part.high)
  part-lists low left place part is = is.lists ∙ ap (λ (l : List ℕ). take left (range m l part.high)) is.begins

  last-lists : (low : List ℕ) (left place : ℕ) (part : ScanPart) (o : Option (List ℕ)) → part.high ≡ o → IsPart (λ _. m) low left place part → IsLastPart left part →
      part.pairs ≡ take left (range m low None)
  last-lists low left place part None at is last = part-lists low left place part is ∙ ap (λ (o : Option (List ℕ)). take left (range m low o)) at
  last-lists low left place part (Some high) at is last =
      let here : part.pairs ≡ take left (range m low (Some high)) = part-lists low left place part is ∙ ap (λ (o : Option (List ℕ)). take left (range m low o)) at in
      let short : length (take left (range m low (Some high))) ≤ length (range m low (Some high)) = take-short left (range m low (Some high)) in
      ⊎_elim
      (λ (full : length part.pairs ≡ left).
      let size : length part.pairs ≡ length (take left (range m low (Some high))) = ap length here in
      let fits : left ≤ length (range m low (Some high)) = omega (arith, full, size, short) in
      here ∙ sym (take-within left (range m low (Some high)) (range m high None) fits)
      ∙ ap (take left) (range-cut low high (part-order (λ _. m) low high left place part is at) m))
      (λ (none : part.high ≡ None). absurd (let both : Some high ≡ None = sym at ∙ none in cc))
      last

  scan-lists : (low : List ℕ) (left place : ℕ) (cut : Bool) (parts : List ScanPart) → cut ≡ false → AreParts (λ _. m) low left place cut parts →
      flat_map (λ (part : ScanPart). part.pairs) parts ≡ take left (range m low None)
  scan-lists low left place cut parts uncut cut_off = absurd (true≢false uncut)
  scan-lists low left place cut parts uncut (ends {part = part} is last) = append-nil part.pairs ∙ last-lists low left place part part.high refl is last
  scan-lists low left place cut parts uncut (goes_on {part = part} {parts = more} high is less at later) =
      let here : part.pairs ≡ take left (range m low (Some high)) = part-lists low left place part is ∙ ap (λ (o : Option (List ℕ)). take left (range m low o)) at in
      let size : length part.pairs ≡ length (take left (range m low (Some high))) = ap length here in
      let whole : take left (range m low (Some high)) ≡ range m low (Some high) = take-whole left (range m low (Some high)) (omega (arith, size, less)) in
      let all : part.pairs ≡ range m low (Some high) = here ∙ whole in
      let long : length part.pairs ≡ length (range m low (Some high)) = ap length all in
      let rest = scan-lists high (left - length part.pairs) part.place cut more uncut later in
      (λ i. all i ++ rest i)
      ∙ ap (λ (k : ℕ). range m low (Some high) ++ take (left - k) (range m high None)) long
      ∙ sym (take-past left (range m low (Some high)) (range m high None) (omega (arith, long, less)))
      ∙ ap (take left) (range-cut low high (part-order (λ _. m) low high left place part is at) m)

pub scan_is_whole : ScanIsWhole
scan_is_whole m from count parts scan = scan-lists m from count 0 false parts refl scan

-- ---- their names rise

abbrev pair_with : List ℕ × ℕ → Pair
pair_with e = record { name = e.0; value = e.1 }

rise-above : (name : List ℕ) (es : Entries) → T (below_all name_cmp name es) → T (is_sorted name_cmp es) → RiseAbove name (map pair_with es)
rise-above name [] below sorted = tt
rise-above name (e ∷ es) below sorted = (
  is_true (is_below name e.0) (first (is_below name e.0) (below_all name_cmp name es) below),
  rise-above e.0 es (first (below_all name_cmp e.0 es) (is_sorted name_cmp es) sorted) (second (below_all name_cmp e.0 es) (is_sorted name_cmp es) sorted),
)

rise-from : (es : Entries) → T (is_sorted name_cmp es) → Rise (map pair_with es)
rise-from [] sorted = tt
rise-from (e ∷ es) sorted = rise-above e.0 es (first (below_all name_cmp e.0 es) (is_sorted name_cmp es) sorted) (second (below_all name_cmp e.0 es) (is_sorted name_cmp es) sorted)

take-above : (n : ℕ) (name : List ℕ) (ps : List Pair) → RiseAbove name ps → RiseAbove name (take n ps)
take-above zero name ps rise = tt
take-above (suc n) name [] rise = tt
take-above (suc n) name (p ∷ ps) rise = (rise.0, take-above n p.name ps rise.1)

take-rise : (n : ℕ) (ps : List Pair) → Rise ps → Rise (take n ps)
take-rise zero ps rise = tt
take-rise (suc n) [] rise = tt
take-rise (suc n) (p ∷ ps) rise = take-above n p.name ps rise

pub range_rises : RangesRise
range_rises m low high count =
    take-rise count (range m low high) (rise-from (where_key name_cmp (is_between low high) (entries m)) (is_sorted-where_key name_cmp (is_between low high) (entries m) (entries_sorted m)))

-- names that are at least the low one and under the high one
abbrev Within : List ℕ → Option (List ℕ) → List Pair → Type 0
Within low high ps = AllByRecursion (λ (p : Pair). (is_below p.name low ≡ false) × (is_under high p.name ≡ true)) ps

both-true : (a b : Bool) → not a && b ≡ true → (a ≡ false) × (b ≡ true)
both-true true b is = clash is refl
both-true false b is = (refl, is)

within-range : (low : List ℕ) (high : Option (List ℕ)) (es : Entries) → Within low high (map pair_with (filter (λ (e : List ℕ × ℕ). is_between low high e.0) es))
within-range low high [] = tt
within-range low high (e ∷ es) = by (is_between low high e.0) refl (within-range low high es)
  where
    between : List ℕ × ℕ → Bool
    between x = is_between low high x.0

    by : (b : Bool) → is_between low high e.0 ≡ b → Within low high (map pair_with (filter between es)) → Within low high (map pair_with (filter between (e ∷ es)))
    by true is rest = subst (λ (xs : Entries). Within low high (map pair_with xs)) (sym (keeps between e es is)) (both-true (is_below e.0 low) (is_under high e.0) is, rest)
    by false is rest = subst (λ (xs : Entries). Within low high (map pair_with xs)) (sym (drops between e es is)) rest

take-bounded : (low : List ℕ) (high : Option (List ℕ)) (n : ℕ) (ps : List Pair) → Within low high ps → Within low high (take n ps)
take-bounded low high zero ps all = tt
take-bounded low high (suc n) [] all = tt
take-bounded low high (suc n) (p ∷ ps) all = (all.0, take-bounded low high n ps all.1)

under-high : (low high : List ℕ) (ps : List Pair) → Within low (Some high) ps → AllByRecursion (λ (p : Pair). is_below p.name high ≡ true) ps
under-high low high [] all = tt
under-high low high (p ∷ ps) all = (all.0.1, under-high low high ps all.1)

abbrev From : List ℕ → List Pair → Type 0
From low ps = AllByRecursion (λ (p : Pair). is_below p.name low ≡ false) ps

from-low : (low : List ℕ) (high : Option (List ℕ)) (ps : List Pair) → Within low high ps → From low ps
from-low low high [] all = tt
from-low low high (p ∷ ps) all = (all.0.0, from-low low high ps all.1)

from-lower : (low high : List ℕ) (ps : List Pair) → is_below low high ≡ true → From high ps → From low ps
from-lower low high [] order all = tt
from-lower low high (p ∷ ps) order all = (upto-chain low high p.name (not_back low high order) all.0, from-lower low high ps order all.1)

from-both : (low : List ℕ) (ps qs : List Pair) → From low ps → From low qs → From low (ps ++ qs)
from-both low [] qs a b = b
from-both low (p ∷ ps) qs a b = (a.0, from-both low ps qs a.1 b)

-- names that rise from a bound on, behind names that rise under it
above-both : (high name : List ℕ) (ps qs : List Pair) → is_below name high ≡ true → RiseAbove name ps → AllByRecursion (λ (p : Pair). is_below p.name high ≡ true) ps → Rise qs → From high qs → RiseAbove name (ps ++ qs)
above-both high name [] [] under a u b f = tt
above-both high name [] (q ∷ qs) under a u b f = (no_false (is_below name q.name) (λ un. clash under (upto-chain high q.name name f.0 un)), b)
above-both high name (p ∷ ps) qs under a u b f = (a.0, above-both high p.name ps qs u.0 a.1 u.1 b f)

rise-both : (high : List ℕ) (ps qs : List Pair) → Rise ps → AllByRecursion (λ (p : Pair). is_below p.name high ≡ true) ps → Rise qs → From high qs → Rise (ps ++ qs)
rise-both high [] qs a u b f = b
rise-both high (p ∷ ps) qs a u b f = above-both high p.name ps qs u.0 a u.1 b f

module _ (map_at : ℕ → Map) where
  part-within : (low : List ℕ) (left place : ℕ) (part : ScanPart) → IsPart map_at low left place part → Within low part.high part.pairs
  part-within low left place part is =
      subst (λ (l : List ℕ). Within l part.high part.pairs) is.begins
      (subst (Within part.low part.high) (sym is.lists) (take-bounded part.low part.high left (range (map_at part.place) part.low part.high) (within-range part.low part.high (entries (map_at part.place)))))

  part-rises : (low : List ℕ) (left place : ℕ) (part : ScanPart) → IsPart map_at low left place part → Rise part.pairs
  part-rises low left place part is = subst Rise (sym is.lists) (range_rises (map_at part.place) part.low part.high left)

  parts-from : (low : List ℕ) (left place : ℕ) (cut : Bool) (parts : List ScanPart) → AreParts map_at low left place cut parts → From low (flat_map (λ (part : ScanPart). part.pairs) parts)
  parts-from low left place cut parts cut_off = tt
  parts-from low left place cut parts (ends {part = part} is last) = from-both low part.pairs [] (from-low low part.high part.pairs (part-within low left place part is)) tt
  parts-from low left place cut parts (goes_on {part = part} {parts = more} high is less at later) =
      from-both low part.pairs (flat_map (λ (q : ScanPart). q.pairs) more) (from-low low part.high part.pairs (part-within low left place part is))
      (from-lower low high (flat_map (λ (q : ScanPart). q.pairs) more) (part-order map_at low high left place part is at) (parts-from high (left - length part.pairs) part.place cut more later))

pub scan_rises : ScansRise
scan_rises map_at low left place cut parts cut_off = tt
scan_rises map_at low left place cut parts (ends {part = part} is last) = subst Rise (sym (append-nil part.pairs)) (part-rises map_at low left place part is)
scan_rises map_at low left place cut parts (goes_on {part = part} {parts = more} high is less at later) =
    rise-both high part.pairs (flat_map (λ (q : ScanPart). q.pairs) more) (part-rises map_at low left place part is)
    (under-high low high part.pairs (subst (λ (o : Option (List ℕ)). Within low o part.pairs) at (part-within map_at low left place part is)))
    (scan_rises map_at high (left - length part.pairs) part.place cut more later) (parts-from map_at high (left - length part.pairs) part.place cut more later)

-- ---- one part more

-- a part lists no more names than are left
pub part_few : (map_at : ℕ → Map) (low : List ℕ) (left place : ℕ) (part : ScanPart) → IsPart map_at low left place part → length part.pairs ≤ left
part_few map_at low left place part is = omega (arith, ap length is.lists, length-take left (range (map_at part.place) part.low part.high))

pub part_follows : PartsFollow
part_follows map_at from count start low left place parts part was is = (
  λ less. on less part.high refl,
  λ full. let few = part_few map_at low left place part is in was (part ∷ []) (ends is (inl (omega (arith, few, full)))),
)
  where
    on : length part.pairs < left → (o : Option (List ℕ)) → part.high ≡ o → GoesOn map_at from count start o (left - length part.pairs) part.place (parts ++ part ∷ [])
    on less None at = was (part ∷ []) (ends is (inr at))
    on less (Some high) at = λ more are. subst (AreParts map_at from count start false) (sym (append_assoc parts (part ∷ []) more)) (was (part ∷ more) (goes_on high is less at are))

pub parts_later : PartsAreLater
parts_later map_at low left sooner place cut parts least cut_off = cut_off
parts_later map_at low left sooner place cut parts least (ends is last) = ends (record { begins = is.begins; bounds = is.bounds; later = let from = is.later in omega (arith, from, least); lists = is.lists }) last
parts_later map_at low left sooner place cut parts least (goes_on high is less at more) = goes_on high (record { begins = is.begins; bounds = is.bounds; later = let from = is.later in omega (arith, from, least); lists = is.lists }) less at more
