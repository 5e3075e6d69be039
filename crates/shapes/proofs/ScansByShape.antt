-- Scans whose parts end with the members of a shape.
use Rattle.std.proofs.Common.{◌≡◌, ℕ, ◌+◌, ◌-◌, ◌<◌, ◌≤◌, Bool, true, false, ⊎_elim, Some, None, List, [], ◌∷◌, length, take, slice_get, refl, sym, ap, subst, ◌∙◌, arith, length-append}
use Rattle.std.proofs.lemmas.Bool.{true≢false}
use Rattle.std.proofs.lemmas.List.Elements.{recursion_from_All}
use Rattle.std.specs.List.{filter, AllByRecursion}
use Rattle.cat_history.specs.Maps.{Map}
use Rattle.cat_history.specs.Scans.{range, IsPart, IsLastPart, AreParts}
use Rattle.cat_history.specs.Scans.AreParts.{cut_off, ends, goes_on}
use Rattle.cat_history.specs.declared.record.ScanPart.{ScanPart}
use Rattle.shapes.specs.Anchors.{below, Anchors, AreAnchors, past, next_of}
use Rattle.shapes.specs.Laws.{ScansAreOne, ScansAreShort}
use Rattle.shapes.proofs.Orders.{true_or_false, clash, not_itself, below-chain}
use Rattle.shapes.proofs.NameLists.{filter-keeps, filter-drops}
use Rattle.shapes.proofs.Targets.{part}

-- ---- the anchors past a name

first-passes : (p : List ℕ → Bool) (xs : Anchors) (x : List ℕ) → slice_get (filter p xs) 0 ≡ Some x → p x ≡ true
first-passes p [] x is = absurd (let none : None ≡ Some x = is in cc)
first-passes p (y ∷ xs) x is = ⊎_elim
    (λ (passes : p y ≡ true). let here : Some y ≡ Some x = sym (ap (λ (ys : Anchors). slice_get ys 0) (filter-keeps p y xs passes)) ∙ is in subst (λ z. p z ≡ true) (let same : y ≡ x = cc in same) passes)
    (λ (fails : p y ≡ false). first-passes p xs x (sym (ap (λ (ys : Anchors). slice_get ys 0) (filter-drops p y xs fails)) ∙ is))
    (true_or_false (p y))

-- the next member begins above the name
pub next-above : (anchors : Anchors) (name high : List ℕ) → next_of anchors name ≡ Some high → below name high ≡ true
next-above anchors name high is = first-passes (λ anchor. below name anchor) anchors high is

module _ (p q : List ℕ → Bool) (within : (x : List ℕ) → q x ≡ true → p x ≡ true) where
  fewer : (xs : Anchors) → length (filter q xs) ≤ length (filter p xs)
  fewer [] = omega arith
  fewer (x ∷ xs) = ⊎_elim
      (λ (passes : q x ≡ true). let both = ap length (filter-keeps q x xs passes) in let all = ap length (filter-keeps p x xs (within x passes)) in let rest = fewer xs in omega arith)
      (λ (fails : q x ≡ false). ⊎_elim
      (λ (other : p x ≡ true). let one = ap length (filter-drops q x xs fails) in let all = ap length (filter-keeps p x xs other) in let rest = fewer xs in omega arith)
      (λ (neither : p x ≡ false). let one = ap length (filter-drops q x xs fails) in let all = ap length (filter-drops p x xs neither) in let rest = fewer xs in omega arith)
      (true_or_false (p x)))
      (true_or_false (q x))

  first-lacking : (xs : Anchors) (x : List ℕ) → slice_get (filter p xs) 0 ≡ Some x → q x ≡ false → length (filter q xs) < length (filter p xs)
  first-lacking [] x is lacks = absurd (let none : None ≡ Some x = is in cc)
  first-lacking (y ∷ xs) x is lacks = ⊎_elim
      (λ (passes : p y ≡ true).
      let here : Some y ≡ Some x = sym (ap (λ (ys : Anchors). slice_get ys 0) (filter-keeps p y xs passes)) ∙ is in
      let fails : q y ≡ false = subst (λ z. q z ≡ false) (let same : x ≡ y = cc in same) lacks in
      let one = ap length (filter-drops q y xs fails) in
      let all = ap length (filter-keeps p y xs passes) in
      let rest = fewer xs in
      omega arith)
      (λ (fails : p y ≡ false).
      let other : q y ≡ false = ⊎_elim (λ (passes : q y ≡ true). clash (within y passes) fails) (λ (other : q y ≡ false). other) (true_or_false (q y)) in
      let one = ap length (filter-drops q y xs other) in
      let all = ap length (filter-drops p y xs fails) in
      let rest = first-lacking xs x (sym (ap (λ (ys : Anchors). slice_get ys 0) (filter-drops p y xs fails)) ∙ is) lacks in
      omega arith)
      (true_or_false (p y))

-- fewer members begin past that one than past the name
pub past-shorter : (anchors : Anchors) (name high : List ℕ) → next_of anchors name ≡ Some high → length (past anchors high) < length (past anchors name)
past-shorter anchors name high is =
    first-lacking (λ anchor. below name anchor) (λ anchor. below high anchor) (λ anchor more. below-chain name high anchor (next-above anchors name high is) more) anchors high is (not_itself high)

-- one member at least begins at or before a name
pub past-within : (anchors : Anchors) (name : List ℕ) → AreAnchors anchors → length (past anchors name) + 1 ≤ length anchors
past-within anchors name are =
    let p = part anchors name are in
    omega (arith, ap length p.is, length-append p.before (p.low ∷ p.after), ap length p.past_is)

-- ---- scans

module _ (m : Map) (anchors : Anchors) (place : ℕ) where
  -- a part that was read at that place, and ends with a member
  abbrev IsPartThere : ScanPart → Type 0
  IsPartThere p = (p.place ≡ place) × (p.high ≡ next_of anchors p.low)

  -- the one part that begins there
  abbrev part_there : List ℕ → ℕ → ScanPart
  part_there low left = record { low = low; high = next_of anchors low; place = place; pairs = take left (range m low (next_of anchors low)) }

  one-part : (low : List ℕ) (left before : ℕ) (p : ScanPart) → IsPart (λ _. m) low left before p → IsPartThere p → p ≡ part_there low left
  one-part low left before p is there =
      let high : p.high ≡ next_of anchors low = there.1 ∙ ap (next_of anchors) is.begins in
      λ i. record { low = is.begins i; high = high i; place = there.0 i; pairs = (is.lists ∙ (λ j. take left (range m (is.begins j) (high j)))) i }

  -- a part that is the last one isn't one behind which the scan goes on
  last-ends : {A : Type 0} (left : ℕ) (p q : ScanPart) (high : List ℕ) → p ≡ q → IsLastPart left p → length q.pairs < left → q.high ≡ Some high → A
  last-ends left p q high same last less goes = ⊎_elim
      (λ (full : length p.pairs ≡ left). absurd (let size = ap (λ (r : ScanPart). length r.pairs) same in omega (arith, full, size, less)))
      (λ (none : p.high ≡ None). absurd (let both : Some high ≡ None = sym goes ∙ sym (ap (λ (r : ScanPart). r.high) same) ∙ none in cc))
      last

  one-scan : (low : List ℕ) (left before before' : ℕ) (cut cut' : Bool) (a b : List ScanPart) → cut ≡ false → cut' ≡ false → AreParts (λ _. m) low left before cut a →
      AllByRecursion IsPartThere a → AreParts (λ _. m) low left before' cut' b → AllByRecursion IsPartThere b → a ≡ b
  one-scan low left before before' cut cut' a b whole whole' cut_off there are there' = absurd (true≢false whole)
  one-scan low left before before' cut cut' a b whole whole' (ends is last) there cut_off there' = absurd (true≢false whole')
  one-scan low left before before' cut cut' a b whole whole' (goes_on high is less at later) there cut_off there' = absurd (true≢false whole')
  one-scan low left before before' cut cut' a b whole whole' (ends {part = p} is last) there (ends {part = q} is' last') there' =
      ap (λ (r : ScanPart). r ∷ []) (one-part low left before p is there.0 ∙ sym (one-part low left before' q is' there'.0))
  one-scan low left before before' cut cut' a b whole whole' (ends {part = p} is last) there (goes_on {part = q} high is' less at later) there' =
      last-ends left p q high (one-part low left before p is there.0 ∙ sym (one-part low left before' q is' there'.0)) last less at
  one-scan low left before before' cut cut' a b whole whole' (goes_on {part = p} high is less at later) there (ends {part = q} is' last') there' =
      last-ends left q p high (one-part low left before' q is' there'.0 ∙ sym (one-part low left before p is there.0)) last' less at
  one-scan low left before before' cut cut' a b whole whole' (goes_on {part = p} {parts = more} high is less at later) there (goes_on {part = q} {parts = more'} high' is' less' at' later') there' =
      let same : p ≡ q = one-part low left before p is there.0 ∙ sym (one-part low left before' q is' there'.0) in
      let both : Some high' ≡ Some high = sym at' ∙ sym (ap (λ (r : ScanPart). r.high) same) ∙ at in
      let bound : high' ≡ high = cc in
      let size : left - length q.pairs ≡ left - length p.pairs = ap (λ (r : ScanPart). left - length r.pairs) (sym same) in
      let moved : AreParts (λ _. m) high (left - length p.pairs) q.place cut' more' = subst (λ (k : ℕ). AreParts (λ _. m) high k q.place cut' more') size (subst (λ (h : List ℕ). AreParts (λ _. m) h (left - length q.pairs) q.place cut' more') bound later') in
      let rest = one-scan high (left - length p.pairs) p.place q.place cut cut' more more' whole whole' later there.1 moved there'.1 in
      λ i. same i ∷ rest i

  short-scan : (low : List ℕ) (left before : ℕ) (cut : Bool) (parts : List ScanPart) → cut ≡ false → AreParts (λ _. m) low left before cut parts → AllByRecursion IsPartThere parts → length parts ≤ length (past anchors low) + 1
  short-scan low left before cut parts whole cut_off there = absurd (true≢false whole)
  short-scan low left before cut parts whole (ends is last) there = omega arith
  short-scan low left before cut parts whole (goes_on {part = p} {parts = more} high is less at later) there =
      let rest = short-scan high (left - length p.pairs) p.place cut more whole later there.1 in
      let next : next_of anchors low ≡ Some high = ap (next_of anchors) (sym is.begins) ∙ sym there.0.1 ∙ at in
      let fewer_past = past-shorter anchors low high next in
      omega arith

-- what is said of all parts, of each in turn
both-there : (anchors : Anchors) (place : ℕ) (parts : List ScanPart) → AllByRecursion (λ (p : ScanPart). p.place ≡ place) parts → AllByRecursion (λ (p : ScanPart). p.high ≡ next_of anchors p.low) parts →
    AllByRecursion (λ (p : ScanPart). (p.place ≡ place) × (p.high ≡ next_of anchors p.low)) parts
both-there anchors place [] at_once bounded = tt
both-there anchors place (p ∷ parts) at_once bounded = ((at_once.0, bounded.0), both-there anchors place parts at_once.1 bounded.1)

pub scans_are_one : ScansAreOne
scans_are_one m anchors from count place a b one other =
    one-scan m anchors place from count 0 0 false false a b refl refl
    one.legal (both-there anchors place a (recursion_from_All (λ (p : ScanPart). p.place ≡ place) a one.at_once) (recursion_from_All (λ (p : ScanPart). p.high ≡ next_of anchors p.low) a one.ends))
    other.legal (both-there anchors place b (recursion_from_All (λ (p : ScanPart). p.place ≡ place) b other.at_once) (recursion_from_All (λ (p : ScanPart). p.high ≡ next_of anchors p.low) b other.ends))

pub scans_are_short : ScansAreShort
scans_are_short m anchors from count place parts are scan =
    let few = short-scan m anchors place from count 0 false parts refl scan.legal
    (both-there anchors place parts (recursion_from_All (λ (p : ScanPart). p.place ≡ place) parts scan.at_once) (recursion_from_All (λ (p : ScanPart). p.high ≡ next_of anchors p.low) parts scan.ends)) in
    let within = past-within anchors from are in
    omega arith
