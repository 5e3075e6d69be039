-- Records by caller, each caller's in the order of its calls.
use Rattle.std.proofs.Common.{◌≡◌, ℕ, suc, ◌+◌, ◌<◌, inl, inr, List, [], ◌∷◌, ◌++◌, map, refl, sym, ap, subst, arith, add-zero, zero-add}
use mathlib.Core.Option.{some}
use lib.ListN.{get_elem?}
use Rattle.cat_history.specs.Records.{Call, call_of}
use Rattle.cat_history.specs.declared.op.Op.{Op}
use Rattle.cat_history.specs.declared.record.Record.{Record}
use Rattle.caller_rounds.specs.CallerRounds.{by_caller, calls_from}
use Rattle.cat_text.specs.ReportGrammar.{StandBehind, StandByCaller}
use Rattle.caller_rounds.specs.Standing.{RecordsStand}

heads : {X : Type 0} {a b : X} {xs ys : List X} → a ∷ xs ≡ b ∷ ys → a ≡ b
heads e = cc

tails : {X : Type 0} {a b : X} {xs ys : List X} → a ∷ xs ≡ b ∷ ys → xs ≡ ys
tails e = cc

-- a caller's first record, if it has one
record First (k index : ℕ) (r : Record) (records : List Record) : Type 0 where
  caller : r.caller ≡ k
  number : r.index ≡ index
  ops : List Op
  rest : map call_of records ≡ calls_from k (index + 1) ops

first-of : (k index : ℕ) (ops : List Op) (r : Record) (records : List Record) → map call_of (r ∷ records) ≡ calls_from k index ops → First k index r records
first-of k index [] r records is = absurd (cc)
first-of k index (op ∷ ops) r records is =
    let one = heads is in record { caller = ap (λ (c : Call). c.caller) one; number = ap (λ (c : Call). c.index) one; ops = ops; rest = tails is }

-- one caller's further records, and those of later callers
chain : (k index : ℕ) (ops : List Op) (records rest : List Record) → map call_of records ≡ calls_from k (index + 1) ops → ((i : ℕ) → StandBehind k i rest) → StandBehind k index (records ++ rest)
chain k index ops [] rest is behind = behind index
chain k index ops (r ∷ records) rest is behind =
    let first = first-of k (index + 1) ops r records is in
    let more : StandBehind k (index + 1) (records ++ rest) = chain k (index + 1) first.ops records rest first.rest behind in (
      inl (first.caller, first.number),
      subst (λ (n : ℕ). StandBehind n r.index (records ++ rest)) (sym first.caller) (subst (λ (n : ℕ). StandBehind k n (records ++ rest)) (sym first.number) more),
    )

module _ (ops : ℕ → List Op) where
  Each : ℕ → List (List Record) → Type 0
  Each k told = (i : ℕ) (records : List Record) → get_elem? told i ≡ some records → map call_of records ≡ calls_from (k + i) 0 (ops (k + i))

  next : (k : ℕ) (records : List Record) (told : List (List Record)) → Each k (records ∷ told) → Each (k + 1) told
  unfolding Each
  next k records told each i others at =
      let number : k + suc i ≡ (k + 1) + i = omega arith in
      subst (λ (n : ℕ). map call_of others ≡ calls_from n 0 (ops n)) number (each (suc i) others at)

  here : (k : ℕ) (records : List Record) (told : List (List Record)) → Each k (records ∷ told) → map call_of records ≡ calls_from k 0 (ops k)
  unfolding Each
  here k records told each = subst (λ (n : ℕ). map call_of records ≡ calls_from n 0 (ops n)) (add-zero k) (each 0 records refl)

  all-behind : (k : ℕ) (told : List (List Record)) → Each k told → (c index : ℕ) → c < k → StandBehind c index (by_caller told)
  all-behind k [] each c index less = tt
  all-behind k ([] ∷ told) each c index less = all-behind (k + 1) told (next k [] told each) c index (omega arith)
  all-behind k ((r ∷ records) ∷ told) each c index less =
      let first = first-of k 0 (ops k) r records (here k (r ∷ records) told each) in
      let more = chain k 0 first.ops records (by_caller told) first.rest (λ i. all-behind (k + 1) told (next k (r ∷ records) told each) k i (omega arith)) in (
        inr (let same = first.caller in omega arith, first.number),
        subst (λ (n : ℕ). StandBehind n r.index (records ++ by_caller told)) (sym first.caller) (subst (λ (n : ℕ). StandBehind k n (records ++ by_caller told)) (sym first.number) more),
      )

  all-stand : (k : ℕ) (told : List (List Record)) → Each k told → StandByCaller (by_caller told)
  all-stand k [] each = tt
  all-stand k ([] ∷ told) each = all-stand (k + 1) told (next k [] told each)
  all-stand k ((r ∷ records) ∷ told) each =
      let first = first-of k 0 (ops k) r records (here k (r ∷ records) told each) in
      let more = chain k 0 first.ops records (by_caller told) first.rest (λ i. all-behind (k + 1) told (next k (r ∷ records) told each) k i (omega arith)) in (
        first.number,
        subst (λ (n : ℕ). StandBehind n r.index (records ++ by_caller told)) (sym first.caller) (subst (λ (n : ℕ). StandBehind k n (records ++ by_caller told)) (sym first.number) more),
      )

pub records_stand : RecordsStand
unfolding Each
records_stand ops told each = all-stand ops 0 told (λ i records at. subst (λ (n : ℕ). map call_of records ≡ calls_from n 0 (ops n)) (sym (zero-add i)) (each i records at))
