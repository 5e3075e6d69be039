-- What the counts of the pairs say of a put and a delete.
use Rattle.std.proofs.Common.{◌≡◌, ℕ, zero, suc, ◌+◌, ◌*◌, ◌/◌, ◌<◌, ◌≤◌, Bool, true, false, cond, ◌&&◌, not, nat_le, if◌then◌else◌, is_some, is_none, ⊎_elim, Option, Some, None, IsSome, List, [], ◌∷◌, ◌++◌, length, get_or, drop, slice_get, map, refl, sym, ap, subst, ◌∙◌, arith, length-append, le-leb}
use Rattle.std.proofs.Math.ListN.{get_or-map}
use Rattle.std.proofs.lemmas.Bool.{lt-leb}
use Rattle.std.proofs.lemmas.List.{length-map}
use Rattle.std.proofs.Math.Nat.{mul-le-mul_left}
use Rattle.std.specs.FinMap.{keys, remove, len, entries}
use Rattle.std.specs.List.{filter, flat_map, AllByRecursion}
use Rattle.cat_key.specs.declared.Pair.{Pair}
use Rattle.cat_history.specs.Maps.{Map, at}
use Rattle.cat_history.specs.Replays.{pairs_of}
use Rattle.shapes.specs.Anchors.{below, AnchorsRise, Anchors, is_under, is_between, names_between, up_to, past, target_of, next_of, names_at, IsFullPut, splits, middle_of, put_anchors, merges, del_anchors}
use Rattle.shapes.specs.Members.{Member, members}
use Rattle.shapes.specs.Weights.{IsShape}
use Rattle.shapes.proofs.Orders.{true_or_false, upto-chain, not_back}
use Rattle.shapes.proofs.NameLists.{all_by, filter-keeps, filter-drops, filter-none, filter-alike}
use Rattle.shapes.proofs.Keys.{rise-keys}
use Rattle.shapes.proofs.Targets.{members_part_names, and_false}
use Rattle.shapes.proofs.Agreements.{length-members, put-stays}
use Rattle.shapes.proofs.Shapes.{len-keys, del-stays}
use Rattle.member_map.proofs.OrderedPairs.{lying, lying-many, names-paired, tested-names, nameless}

-- ---- how many names a shape can have

each-fits : (slots : ℕ) (shape : List Member) → AllByRecursion (λ (member : Member). length member.names ≤ slots) shape →
    length (flat_map (λ (member : Member). member.names) shape) ≤ slots * length shape
each-fits slots [] fits = omega arith
each-fits slots (member ∷ later) fits =
    let rest = each-fits slots later fits.1 in
    let first = fits.0 in
    let sum = length-append member.names (flat_map (λ (member : Member). member.names) later) in
    let product : slots * suc (length later) ≡ slots + slots * length later = omega arith in
    omega (arith, rest, first, sum, product)

pub names-fit : (slots nodes : ℕ) (m : Map) (anchors : Anchors) → IsShape slots nodes m anchors → len m ≤ slots * nodes
names-fit slots nodes m anchors shape =
    let all = each-fits slots (members m anchors) shape.fits in
    let parted = ap length (members_part_names m anchors shape.ordered) in
    let count = length-members m anchors in
    let few : slots * length anchors ≤ slots * nodes = mul-le-mul_left slots shape.few in
    let size = len-keys m in
    let same : slots * length (members m anchors) ≡ slots * length anchors = ap (λ (k : ℕ). slots * k) count in
    omega (arith, all, parted, few, size, same)

-- ---- the middle of a target, by its place among all names

module _ (low : List ℕ) (high : Option (List ℕ)) where
  under-chain : (o : Option (List ℕ)) (x y : List ℕ) → is_under o x ≡ false → below x y ≡ true → is_under o y ≡ false
  under-chain None x y is above = is
  under-chain (Some h) x y is above = upto-chain h x y is (not_back x y above)

  none-later : (x : List ℕ) (xs : List (List ℕ)) (k : ℕ) → AnchorsRise (x ∷ xs) → is_under high x ≡ false → k < length (filter (is_under high) (x ∷ xs)) → ⊥
  none-later x xs k rise isnt within =
      let none : filter (is_under high) (x ∷ xs) ≡ [] =
      filter-none (is_under high) (x ∷ xs) (isnt, all_by (λ y. below x y ≡ true) (λ y. is_under high y ≡ false) (λ y above. under-chain high x y isnt above) xs rise.0) in
      let bad = subst (λ (ys : List (List ℕ)). k < length ys) none within in
      omega (arith, bad)

  under-first : (xs : List (List ℕ)) (k : ℕ) → AnchorsRise xs → k < length (filter (is_under high) xs) → get_or (filter (is_under high) xs) k [] ≡ get_or xs k []
  under-first [] k rise within = refl
  under-first (x ∷ xs) zero rise within =
      ⊎_elim
      (λ (is : is_under high x ≡ true). ap (λ (ys : List (List ℕ)). get_or ys 0 []) (filter-keeps (is_under high) x xs is))
      (λ (isnt : is_under high x ≡ false). absurd (none-later x xs 0 rise isnt within))
      (true_or_false (is_under high x))
  under-first (x ∷ xs) (suc k) rise within =
      ⊎_elim
      (λ (is : is_under high x ≡ true).
      let kept = filter-keeps (is_under high) x xs is in
      let fits = subst (λ (ys : List (List ℕ)). suc k < length ys) kept within in
      ap (λ (ys : List (List ℕ)). get_or ys (suc k) []) kept ∙ under-first xs k rise.1 (omega (arith, fits)))
      (λ (isnt : is_under high x ≡ false). absurd (none-later x xs (suc k) rise isnt within))
      (true_or_false (is_under high x))

  from-low : (xs : List (List ℕ)) (k : ℕ) → AnchorsRise xs → k < length (filter (is_between low high) xs) →
      get_or (filter (is_between low high) xs) k [] ≡ get_or xs (length (filter (λ x. below x low) xs) + k) []
  from-low [] k rise within = refl
  from-low (x ∷ xs) k rise within =
      ⊎_elim
      (λ (is : below x low ≡ true).
      let dropped = filter-drops (is_between low high) x xs (ap (λ b. not b && is_under high x) is) in
      let kept = ap length (filter-keeps (λ y. below y low) x xs is) in
      let one : length (filter (λ y. below y low) (x ∷ xs)) + k ≡ suc (length (filter (λ y. below y low) xs) + k) = omega (arith, kept) in
      ap (λ (ys : List (List ℕ)). get_or ys k []) dropped
      ∙ from-low xs k rise.1 (subst (λ (ys : List (List ℕ)). k < length ys) dropped within)
      ∙ sym (ap (λ (j : ℕ). get_or (x ∷ xs) j []) one))
      (λ (isnt : below x low ≡ false).
      let all : AllByRecursion (λ y. below y low ≡ false) (x ∷ xs) =
      (isnt, all_by (λ y. below x y ≡ true) (λ y. below y low ≡ false) (λ y above. upto-chain low x y isnt (not_back x y above)) xs rise.0) in
      let none = ap length (filter-none (λ y. below y low) (x ∷ xs) all) in
      let here : length (filter (λ y. below y low) (x ∷ xs)) + k ≡ k = omega (arith, none) in
      let alike : filter (is_between low high) (x ∷ xs) ≡ filter (is_under high) (x ∷ xs) =
      filter-alike (is_between low high) (is_under high) (x ∷ xs)
      (all_by (λ y. below y low ≡ false) (λ y. is_between low high y ≡ is_under high y) (λ y e. ap (λ b. not b && is_under high y) e) (x ∷ xs) all) in
      ap (λ (ys : List (List ℕ)). get_or ys k []) alike
      ∙ under-first (x ∷ xs) k rise (subst (λ (ys : List (List ℕ)). k < length ys) alike within)
      ∙ sym (ap (λ (j : ℕ). get_or (x ∷ xs) j []) here))
      (true_or_false (below x low))

  both-within : (xs : List (List ℕ)) → length (filter (λ x. below x low) xs) + length (filter (is_between low high) xs) ≤ length xs
  both-within [] = omega arith
  both-within (x ∷ xs) =
      let rest = both-within xs in
      ⊎_elim
      (λ (is : below x low ≡ true).
      let dropped = ap length (filter-drops (is_between low high) x xs (ap (λ b. not b && is_under high x) is)) in
      let kept = ap length (filter-keeps (λ y. below y low) x xs is) in
      omega (arith, rest, dropped, kept))
      (λ (isnt : below x low ≡ false).
      let dropped = ap length (filter-drops (λ y. below y low) x xs isnt) in
      let more = one-more (is_between low high) x xs in
      omega (arith, rest, dropped, more))
      (true_or_false (below x low))
    where
      one-more : (test : List ℕ → Bool) (x : List ℕ) (xs : List (List ℕ)) → length (filter test (x ∷ xs)) ≤ suc (length (filter test xs))
      one-more test x xs =
          elim (test x) as (λ b. length (cond b (x ∷ filter test xs) (filter test xs)) ≤ suc (length (filter test xs))) [
            | true ↦ omega arith
            | false ↦ omega arith
          ]

-- how many pairs are below a text
abbrev pub below_low : List ℕ → List Pair → ℕ
below_low low ps = length (filter (λ (p : Pair). below p.name low) ps)

below-names : (low : List ℕ) (ps : List Pair) → below_low low ps ≡ length (filter (λ x. below x low) (map (λ (p : Pair). p.name) ps))
below-names low ps =
    sym (length-map (filter (λ (p : Pair). below p.name low) ps) (λ (p : Pair). p.name)) ∙ ap length (tested-names (λ x. below x low) ps)

-- there is such a pair, and it has this name of the target's
pub middle-within : (m : Map) (low : List ℕ) (high : Option (List ℕ)) (ps : List Pair) (k : ℕ) → ps ≡ pairs_of m → k < length (lying low high ps) → below_low low ps + k < length ps
middle-within m low high ps k is within =
    let names : List (List ℕ) = map (λ (p : Pair). p.name) ps in
    let both = both-within low high names in
    let first = below-names low ps in
    let second = sym (length-map (lying low high ps) (λ (p : Pair). p.name)) ∙ ap length (tested-names (is_between low high) ps) in
    let size = length-map ps (λ (p : Pair). p.name) in
    omega (arith, within, both, first, second, size)

pub middle-name : (m : Map) (low : List ℕ) (high : Option (List ℕ)) (ps : List Pair) (k : ℕ) → ps ≡ pairs_of m → k < length (lying low high ps) →
    get_or (names_between m low high) k [] ≡ (get_or ps (below_low low ps + k) nameless).name
middle-name m low high ps k is within =
    let names : List (List ℕ) = map (λ (p : Pair). p.name) ps in
    let all : names ≡ keys m = ap (map (λ (p : Pair). p.name)) is ∙ names-paired (entries m) in
    let few : k < length (filter (is_between low high) names) =
    subst (λ (l : ℕ). k < l) (sym (length-map (lying low high ps) (λ (p : Pair). p.name)) ∙ ap length (tested-names (is_between low high) ps)) within in
    ap (λ (xs : List (List ℕ)). get_or (filter (is_between low high) xs) k []) (sym all)
    ∙ from-low low high names k (subst AnchorsRise (sym all) (rise-keys m)) few
    ∙ ap (λ (j : ℕ). get_or names (j + k) []) (sym (below-names low ps))
    ∙ get_or-map (λ (p : Pair). p.name) ps (below_low low ps + k) nameless

-- ---- a put of a name that the map lacks

module _ (slots : ℕ) (m : Map) (anchors : Anchors) (name low : List ℕ) (high : Option (List ℕ)) (ps : List Pair)
    (is : ps ≡ pairs_of m) (begins : low ≡ target_of anchors name) (ends : high ≡ next_of anchors name) where
  pub target-many : length (lying low high ps) ≡ length (names_at m anchors name)
  target-many =
      lying-many m low high ps is ∙ ap (λ l. length (names_between m l high)) begins ∙ ap (λ h. length (names_between m (target_of anchors name) h)) ends

  pub room-splits-none : length (lying low high ps) < slots → put_anchors slots m anchors name ≡ anchors
  room-splits-none few =
      let many = target-many in
      put-stays slots m anchors name
      (ap (λ b. is_none (at m name) && b) (lt-leb slots (length (names_at m anchors name)) (omega (arith, few, many))) ∙ and_false (is_none (at m name)))

  pub room-is-not-full : (nodes : ℕ) → length (lying low high ps) < slots → IsFullPut slots nodes m anchors name → ⊥
  room-is-not-full nodes few full =
      let many = target-many in
      let whole = full.whole in
      omega (arith, few, many, whole)

  pub whole-target : slots ≤ length (lying low high ps) → slots ≤ length (names_at m anchors name)
  whole-target whole = subst (λ (k : ℕ). slots ≤ k) target-many whole

  pub whole-splits : at m name ≡ None → slots ≤ length (lying low high ps) → 2 ≤ slots →
      put_anchors slots m anchors name ≡ up_to anchors name ++ (get_or ps (below_low low ps + slots / 2) nameless).name ∷ past anchors name
  whole-splits lacks whole enough =
      let divides : splits slots m anchors name ≡ true =
      ap (λ o. is_none o && nat_le slots (length (names_at m anchors name))) lacks ∙ le-leb slots (length (names_at m anchors name)) (whole-target whole) in
      let middle : middle_of slots m anchors name ≡ (get_or ps (below_low low ps + slots / 2) nameless).name =
      ap (λ l. get_or (names_between m l (next_of anchors name)) (slots / 2) []) (sym begins)
      ∙ ap (λ h. get_or (names_between m low h) (slots / 2) []) (sym ends)
      ∙ middle-name m low high ps (slots / 2) is (omega (arith, whole, enough)) in
      ap (λ b. if b then up_to anchors name ++ middle_of slots m anchors name ∷ past anchors name else anchors) divides
      ∙ ap (λ n. up_to anchors name ++ n ∷ past anchors name) middle

-- ---- a delete of a name that the map had

module _ (slots : ℕ) (m : Map) (anchors : Anchors) (name : List ℕ) where
  abbrev together : List (List ℕ)
  together = names_between (remove m name) (target_of anchors name) (slice_get (past anchors name) 1)

  pub last-merges-none : next_of anchors name ≡ None → del_anchors slots m anchors name ≡ anchors
  last-merges-none last =
      del-stays slots m anchors name
      (ap (λ o. is_some (at m name) && (is_some o && nat_le (length together) (slots / 2))) last ∙ and_false (is_some (at m name)))

  module _ (low : List ℕ) (high : Option (List ℕ)) (ps : List Pair) (is : ps ≡ pairs_of (remove m name))
      (begins : low ≡ target_of anchors name) (ends : high ≡ slice_get (past anchors name) 1) where
    pub together-many : length (lying low high ps) ≡ length together
    together-many =
        lying-many (remove m name) low high ps is ∙ ap (λ l. length (names_between (remove m name) l high)) begins
        ∙ ap (λ h. length (names_between (remove m name) (target_of anchors name) h)) ends

    pub many-merge-none : slots / 2 < length (lying low high ps) → del_anchors slots m anchors name ≡ anchors
    many-merge-none more =
        let many = together-many in
        del-stays slots m anchors name
        (ap (λ b. is_some (at m name) && (is_some (next_of anchors name) && b)) (lt-leb (length together) (slots / 2) (omega (arith, more, many)))
        ∙ ap (λ b. is_some (at m name) && b) (and_false (is_some (next_of anchors name))) ∙ and_false (is_some (at m name)))

    pub few-merge : IsSome (at m name) → is_some (next_of anchors name) ≡ true → length (lying low high ps) ≤ slots / 2 →
        del_anchors slots m anchors name ≡ up_to anchors name ++ drop 1 (past anchors name)
    few-merge had next few =
        let many = together-many in
        let joins : merges slots m anchors name ≡ true =
        ap (λ b. b && (is_some (next_of anchors name) && nat_le (length together) (slots / 2))) had
        ∙ ap (λ b. b && nat_le (length together) (slots / 2)) next
        ∙ le-leb (length together) (slots / 2) (omega (arith, few, many)) in
        ap (λ b. if b then up_to anchors name ++ drop 1 (past anchors name) else anchors) joins
