-- Parts of scans, and their lists of names.
use Rattle.std.proofs.Common.{◌≡◌, ℕ, suc, ◌-◌, true, List, [], ◌∷◌, ◌++◌, Some, None, length, drop, decimal, flat_map, refl, sym, ap, subst, ◌∙◌, arith}
use Rattle.std.proofs.lemmas.Fmt.{decimal_injective}
use Rattle.std.proofs.lemmas.List.Elements.{recursion_from_All}
use Rattle.std.specs.List.{AllByRecursion}
use Rattle.std.specs.Prelude.{All, ◌↔◌, slice_get}
use Rattle.cat_key.specs.declared.Pair.{Pair}
use Rattle.cat_history.specs.Scans.{Rise, RiseAbove, is_below}
use Rattle.cat_history.specs.declared.record.ScanPart.{ScanPart}
use Rattle.cat_text.specs.ReportGrammar.{IsReportPair}
use Rattle.cat_text.specs.ReportLines.{high_fields, place_field, pair_fields}
use Rattle.cat_text.proofs.ReplyLaws.{high_one}
use Rattle.report_reader.specs.Parts.{SaysPart, SaysPairs, SaysBounds, AreBounds, bounds_fields}
use Rattle.report_reader.specs.declared.part.Bounds.{Bounds}

-- ---- pairs

-- pairs whose fields begin with those of other pairs begin with those
pub begin_pairs : (done all : List Pair) (y : List (List ℕ)) → AllByRecursion IsReportPair done → AllByRecursion IsReportPair all →
    flat_map pair_fields all ≡ flat_map pair_fields done ++ y → (more : List Pair) × (all ≡ done ++ more) × (flat_map pair_fields more ≡ y) × AllByRecursion IsReportPair more
begin_pairs [] all y is is' same = (all, refl, same, is')
begin_pairs (p ∷ done) [] y is is' same = absurd (omega (arith, ap length same))
begin_pairs (p ∷ done) (q ∷ all) y is is' same =
    let names : q.name ≡ p.name = cc in
    let numbers : decimal q.value ≡ decimal p.value = cc in
    let tails : flat_map pair_fields all ≡ flat_map pair_fields done ++ y = cc in
    let values = decimal_injective q.value p.value is'.0.1 is.0.1 numbers in
    let rest = begin_pairs done all y is.1 is'.1 tails in
    (rest.0, (λ i. record { name = names i; value = values i } ∷ rest.1 i), rest.2, rest.3)

-- behind the fields of these pairs comes a pair
pair_first : (done all : List Pair) (name : List ℕ) (more : List (List ℕ)) (rest : List Pair) → all ≡ done ++ rest → flat_map pair_fields rest ≡ name ∷ more → AllByRecursion IsReportPair rest →
    (p : Pair) × (ps : List Pair) × (all ≡ done ++ p ∷ ps) × IsReportPair p × (name ∷ more ≡ pair_fields p ++ flat_map pair_fields ps)
pair_first done all name more [] whole same is = absurd (omega (arith, ap length same))
pair_first done all name more (p ∷ ps) whole same is = (p, ps, whole, is.0, sym same)

pub pair_comes : (done all : List Pair) (fields : List (List ℕ)) (name : List ℕ) (more : List (List ℕ)) → All IsReportPair done → SaysPairs fields all →
    fields ≡ flat_map pair_fields done ++ name ∷ more →
    (p : Pair) × (ps : List Pair) × (all ≡ done ++ p ∷ ps) × IsReportPair p × (name ∷ more ≡ pair_fields p ++ flat_map pair_fields ps)
pair_comes done all fields name more is says same =
    let rest = begin_pairs done all (name ∷ more) (recursion_from_All IsReportPair done is) (recursion_from_All IsReportPair all says.0) (sym says.2 ∙ same) in
    pair_first done all name more rest.0 rest.1 rest.2 rest.3

pub one_pair : (p q : Pair) (x y : List (List ℕ)) → IsReportPair p → IsReportPair q → pair_fields p ++ x ≡ pair_fields q ++ y → p ≡ q
one_pair p q x y is is' same =
    let names : p.name ≡ q.name = cc in
    let numbers : decimal p.value ≡ decimal q.value = cc in
    let values = decimal_injective p.value q.value is.1 is'.1 numbers in
    λ i. record { name = names i; value = values i }

-- ---- names that rise

rise_above_first : (name : List ℕ) (done : List Pair) (p : Pair) (ps : List Pair) → RiseAbove name (done ++ p ∷ ps) → RiseAbove name (done ++ p ∷ [])
rise_above_first name [] p ps rise = (rise.0, tt)
rise_above_first name (q ∷ done) p ps rise = (rise.0, rise_above_first q.name done p ps rise.1)

pub rise_first : (done : List Pair) (p : Pair) (ps : List Pair) → Rise (done ++ p ∷ ps) → Rise (done ++ p ∷ [])
rise_first [] p ps rise = tt
rise_first (q ∷ done) p ps rise = rise_above_first q.name done p ps rise

rise_above_last : (name : List ℕ) (done : List Pair) (last p : Pair) → RiseAbove name (done ++ last ∷ []) →
    (RiseAbove name ((done ++ last ∷ []) ++ p ∷ []) ↔ (is_below last.name p.name ≡ true))
rise_above_last name [] last p rise = ((λ r. r.1.0), (λ less. (rise.0, (less, tt))))
rise_above_last name (q ∷ done) last p rise =
    let rest = rise_above_last q.name done last p rise.1 in ((λ r. rest.0 r.1), (λ less. (rise.0, rest.1 less)))

pub rise_last : (done : List Pair) (last p : Pair) → Rise (done ++ last ∷ []) → (Rise ((done ++ last ∷ []) ++ p ∷ []) ↔ (is_below last.name p.name ≡ true))
rise_last [] last p rise = ((λ r. r.0), (λ less. (less, tt)))
rise_last (q ∷ done) last p rise = rise_above_last q.name done last p rise

last_split : (pairs : List Pair) (last : Pair) → Some last ≡ slice_get pairs (length pairs - 1) → (init : List Pair) × (pairs ≡ init ++ last ∷ [])
last_split [] last is = absurd (some_none is) where
  some_none : Some last ≡ None → ⊥
  some_none same = cc
last_split (q ∷ []) last is = let same : last ≡ q = cc in ([], ap (λ (p : Pair). p ∷ []) (sym same))
last_split (q ∷ r ∷ pairs) last is =
    let shorter : length (q ∷ r ∷ pairs) - 1 ≡ suc (length (r ∷ pairs) - 1) = omega arith in
    let rest = last_split (r ∷ pairs) last (is ∙ ap (slice_get (q ∷ r ∷ pairs)) shorter) in
    (q ∷ rest.0, ap (λ (l : List Pair). q ∷ l) rest.1)

pub rise_by_last : (pairs : List Pair) (last p : Pair) → Some last ≡ slice_get pairs (length pairs - 1) → Rise pairs → (Rise (pairs ++ p ∷ []) ↔ (is_below last.name p.name ≡ true))
rise_by_last pairs last p is rise =
    let split = last_split pairs last is in
    let by_last = rise_last split.0 last p (subst Rise split.1 rise) in (
      (λ r. by_last.0 (subst (λ (l : List Pair). Rise (l ++ p ∷ [])) split.1 r)),
      (λ less. subst (λ (l : List Pair). Rise (l ++ p ∷ [])) (sym split.1) (by_last.1 less)),
    )

-- ---- parts

-- the bounds of a part
pub bounds_of : (part : ScanPart) (fields : List (List ℕ)) → SaysPart fields part →
    SaysBounds fields (record { low = part.low; high = part.high; place = part.place }) (flat_map pair_fields part.pairs)
bounds_of part fields says = ((says.0.low, says.0.high, says.0.place), says.1)

pub bounds_rest : (a b : Bounds) (x y : List (List ℕ)) → bounds_fields a x ≡ bounds_fields b y → x ≡ y
bounds_rest a b x y same =
    let more : high_fields a.high ++ place_field a.place ∷ x ≡ high_fields b.high ++ place_field b.place ∷ y = ap (drop 2) same in
    ap (drop 1) (high_one a.high b.high (place_field a.place ∷ x) (place_field b.place ∷ y) more).1

pub pairs_of : (part : ScanPart) (fields more : List (List ℕ)) (bounds : Bounds) → SaysPart fields part → SaysBounds fields bounds more → SaysPairs more part.pairs
pairs_of part fields more bounds says says' =
    let same = bounds_rest bounds (record { low = part.low; high = part.high; place = part.place }) more (flat_map pair_fields part.pairs) (sym says'.1 ∙ says.1) in
    (says.0.pairs, says.0.rise, same)

pub makes_part : (part : ScanPart) (fields more : List (List ℕ)) (bounds : Bounds) → SaysBounds fields bounds more → SaysPairs more part.pairs →
    part.low ≡ bounds.low → part.high ≡ bounds.high → part.place ≡ bounds.place → SaysPart fields part
makes_part part fields more bounds says pairs lows highs places =
    let bounds_are : AreBounds (record { low = part.low; high = part.high; place = part.place }) =
    subst AreBounds (λ i. record { low = sym lows i; high = sym highs i; place = sym places i }) says.0 in (
      record { low = bounds_are.0; high = bounds_are.1; place = bounds_are.2; pairs = pairs.0; rise = pairs.1 },
      says.1 ∙ ap (bounds_fields bounds) pairs.2
          ∙ ap (λ (b : Bounds). bounds_fields b (flat_map pair_fields part.pairs)) (λ i. record { low = sym lows i; high = sym highs i; place = sym places i }),
    )
