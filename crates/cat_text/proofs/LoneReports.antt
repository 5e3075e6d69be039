-- The records of a caller that alone has calls stand as a report's do.
use Rattle.std.proofs.Common.{◌≡◌, ℕ, ◌+◌, eq-eqb, inl, List, [], ◌∷◌, ◌++◌, length, get_or, drop, map, refl, sym, ap, ◌∙◌, arith, length-append}
use Rattle.std.proofs.lemmas.List.Sums.{sum_by-cons}
use Rattle.std.proofs.lemmas.List.Elements.{recursion_from_All}
use Rattle.std.specs.Prelude.{count_by, ◌==◌, cond}
use Rattle.std.specs.List.{AllByRecursion}
use Rattle.cat_history.specs.Records.{Call, call_of, numbered_after}
use Rattle.cat_history.specs.declared.op.CallerOp.{CallerOp}
use Rattle.cat_history.specs.declared.record.Record.{Record}
use Rattle.cat_text.specs.ReportGrammar.{StandBehind, StandByCaller, LoneRecordsStand}
use Rattle.cat_text.proofs.FieldLemmas.{all_append}

-- a caller that made all calls made as many as there are
counts_all : (caller : ℕ) (before : List ℕ) → AllByRecursion (λ b. b ≡ caller) before → count_by (λ b. b == caller) before ≡ length before
counts_all caller [] all = refl
counts_all caller (b ∷ before) all =
    sum_by-cons (λ c. cond (c == caller) 1 0) b before ∙ ap (λ t. cond t 1 0 + count_by (λ c. c == caller) before) (eq-eqb b caller all.0)
    ∙ omega (arith, counts_all caller before all.1)

-- the record of the next call, where this caller made these calls before it
next_index : (caller : ℕ) (before : List ℕ) (a : CallerOp) (r : Record) → AllByRecursion (λ b. b ≡ caller) before → a.caller ≡ caller →
    call_of r ≡ record { caller = a.caller; index = count_by (λ b. b == a.caller) before; op = a.op } → (r.caller ≡ caller) × (r.index ≡ length before)
next_index caller before a r earlier one is =
    let counted : count_by (λ b. b == a.caller) before ≡ length before = ap (λ k. count_by (λ b. b == k) before) one ∙ counts_all caller before earlier in
    (ap (λ (c : Call). c.caller) is ∙ one, ap (λ (c : Call). c.index) is ∙ counted)

stand_behind : (caller c index : ℕ) (before : List ℕ) (asked : List CallerOp) (records : List Record) → c ≡ caller → length before ≡ index + 1 →
    AllByRecursion (λ b. b ≡ caller) before → AllByRecursion (λ (a : CallerOp). a.caller ≡ caller) asked → map call_of records ≡ numbered_after before asked →
    StandBehind c index records
stand_behind caller c index before asked [] same long earlier one is = tt
stand_behind caller c index before [] (r ∷ records) same long earlier one is = absurd (omega (arith, ap length is))
stand_behind caller c index before (a ∷ asked) (r ∷ records) same long earlier one is =
    let first : call_of r ≡ record { caller = a.caller; index = count_by (λ b. b == a.caller) before; op = a.op } = ap (λ (l : List Call). get_or l 0 (call_of r)) is in
    let rest : map call_of records ≡ numbered_after (before ++ a.caller ∷ []) asked = ap (drop 1) is in
    let here = next_index caller before a r earlier one.0 first in (
      inl (here.0 ∙ sym same, here.1 ∙ long),
      stand_behind caller r.caller r.index (before ++ a.caller ∷ []) asked records here.0
          (length-append before (a.caller ∷ []) ∙ omega (arith, here.1)) (all_append (λ b. b ≡ caller) before (a.caller ∷ []) earlier (one.0, tt)) one.1 rest,
    )

stand : (caller : ℕ) (asked : List CallerOp) (records : List Record) → AllByRecursion (λ (a : CallerOp). a.caller ≡ caller) asked →
    map call_of records ≡ numbered_after [] asked → StandByCaller records
stand caller asked [] one is = tt
stand caller [] (r ∷ records) one is = absurd (omega (arith, ap length is))
stand caller (a ∷ asked) (r ∷ records) one is =
    let first : call_of r ≡ record { caller = a.caller; index = count_by (λ b. b == a.caller) []; op = a.op } = ap (λ (l : List Call). get_or l 0 (call_of r)) is in
    let rest : map call_of records ≡ numbered_after (a.caller ∷ []) asked = ap (drop 1) is in
    let here = next_index caller [] a r tt one.0 first in
    (here.1, stand_behind caller r.caller r.index (a.caller ∷ []) asked records here.0 (omega (arith, here.1)) (one.0, tt) one.1 rest)

pub lone_stand : LoneRecordsStand
lone_stand caller asked records one is = stand caller asked records (recursion_from_All (λ (a : CallerOp). a.caller ≡ caller) asked one) is
