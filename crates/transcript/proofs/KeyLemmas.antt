-- Keys of calls: no two calls of a script have one, and so no two records of a round that tells each call.
use Rattle.std.proofs.Common.{◌≡◌, ℕ, ◌+◌, ◌<◌, ◌==◌, ◌↔◌, false, cond, List, [], ◌∷◌, ◌++◌, map, refl, sym, ap, subst, ◌∙◌, arith}
use Rattle.std.specs.Prelude.{count_by}
use Rattle.std.specs.Cmp.{IsTotalOrder, nat_cmp_is}
use Rattle.std.specs.List.{AllByRecursion, IsDistinct}
use Rattle.std.specs.List.Sorted.{IsPermutation, IsSortedByKey}
use Rattle.std.specs.Ordering.{nat_cmp, is_eq, eq_by_cmp, ordering_then}
use Rattle.std.specs.declared.cmp.Ordering.{Ordering}
use Rattle.std.specs.declared.cmp.Ordering.TheVariants.{Less, Equal, Greater}
use Rattle.std.proofs.lemmas.Bool.{eq-eqb}
use Rattle.std.proofs.lemmas.Cmp.{ranked, nat_cmp_total, on_total, then_total, eq_by_cmp_equiv}
use Rattle.std.proofs.lemmas.List.Sums.{sum_by_push}
use Rattle.std.proofs.lemmas.List.Sorted.{IsPermutation-sym, IsPermutation-trans, IsPermutation-map}
use Rattle.std.proofs.lemmas.Map.Keys.{IsDistinct-IsPermutation}
use Rattle.cat_history.specs.Records.{Call, call_of, numbered, numbered_after}
use Rattle.cat_history.specs.Rounds.{RecordsEachCall}
use Rattle.cat_history.specs.declared.op.CallerOp.{CallerOp}
use Rattle.cat_history.specs.declared.record.Record.{Record}
use Rattle.transcript.specs.Calls.{Key, key_cmp, key_of, as_numbered, calls_told}
use Rattle.transcript.specs.declared.calls.NumberedCall.{NumberedCall}
use Rattle.transcript.proofs.Orders.{same_moved, strict_from_sort}

pub key_total : IsTotalOrder key_cmp
key_total = then_total (on_total (λ (k : Key). k.0) nat_cmp_total) (on_total (λ (k : Key). k.1) nat_cmp_total)

-- a key with a later index, or another caller, is another one
other_key : (a b : Key) → (b.0 ≡ a.0 → a.1 < b.1) → eq_by_cmp key_cmp a b ≡ false
other_key a b later = by (nat_cmp a.0 b.0) refl where
  by : (o : Ordering) → o ≡ nat_cmp a.0 b.0 → is_eq (ordering_then o (nat_cmp a.1 b.1)) ≡ false
  by Less is = refl
  by Equal is = ap is_eq (sym (nat_cmp_is a.1 b.1 Less (later (sym (ranked a.0 b.0 Equal is)))))
  by Greater is = refl

count_push : (caller : ℕ) (before : List ℕ) (one : ℕ) → count_by (λ c. c == caller) (before ++ one ∷ []) ≡ count_by (λ c. c == caller) before + cond (one == caller) 1 0
count_push caller before one = sum_by_push (λ c. cond (c == caller) 1 0) before one

-- a caller's calls are counted on
later_index : (caller n : ℕ) (before : List ℕ) (asked : List CallerOp) → n < count_by (λ c. c == caller) before →
    AllByRecursion (λ (c : Call). c.caller ≡ caller → n < c.index) (numbered_after before asked)
later_index caller n before [] less = tt
later_index caller n before (a ∷ asked) less =
    let more = count_push caller before a.caller in (
      λ same. subst (λ (k : ℕ). n < count_by (λ c. c == k) before) (sym same) less,
      later_index caller n (before ++ a.caller ∷ []) asked (subst (λ (k : ℕ). n < k) (sym more) (omega arith)),
    )

each_other : (k : Key) (calls : List Call) → AllByRecursion (λ (c : Call). c.caller ≡ k.0 → k.1 < c.index) calls →
    AllByRecursion (λ key. eq_by_cmp key_cmp k key ≡ false) (map (λ (c : Call). key_of (as_numbered c)) calls)
each_other k [] all = tt
each_other k (c ∷ calls) all = (other_key k (c.caller, c.index) all.0, each_other k calls all.1)

-- no two calls of a script have one key
numbered_apart : (before : List ℕ) (asked : List CallerOp) → IsDistinct (eq_by_cmp key_cmp) (map (λ (c : Call). key_of (as_numbered c)) (numbered_after before asked))
unfolding IsDistinct
numbered_apart before [] = tt
numbered_apart before (a ∷ asked) =
    let index = count_by (λ c. c == a.caller) before in
    let counted : count_by (λ c. c == a.caller) (before ++ a.caller ∷ []) ≡ index + 1 = count_push a.caller before a.caller ∙ ap (λ b. index + cond b 1 0) (eq-eqb a.caller a.caller refl) in (
      each_other (a.caller, index) (numbered_after (before ++ a.caller ∷ []) asked) (later_index a.caller index (before ++ a.caller ∷ []) asked (subst (λ (k : ℕ). index < k) (sym counted) (omega arith))),
      numbered_apart (before ++ a.caller ∷ []) asked,
    )

map_twice : {A B C : Type 0} (f : A → B) (g : B → C) (l : List A) → map g (map f l) ≡ map (λ a. g (f a)) l
map_twice f g [] = refl
map_twice f g (a ∷ l) = ap (λ cs. g (f a) ∷ cs) (map_twice f g l)

map_back : {A B : Type 0} (f : A → B) (g : B → A) → ((a : A) → g (f a) ≡ a) → (l : List A) → map g (map f l) ≡ l
map_back f g back [] = refl
map_back f g back (a ∷ l) = λ i. back a i ∷ map_back f g back l i

abbrev as_call : NumberedCall → Call
as_call n = record { caller = n.caller; index = n.index; op = n.op }

call_back : (c : Call) → as_call (as_numbered c) ≡ c
call_back c = refl

module _ (asked : List CallerOp) (told : List Record) where
  abbrev script : List NumberedCall
  script = map as_numbered (numbered asked)

  told_twice : map as_numbered (map call_of told) ≡ calls_told told
  told_twice = map_twice call_of as_numbered told

  moved_from : RecordsEachCall (numbered asked) told → IsPermutation script (calls_told told)
  moved_from each = subst (IsPermutation script) told_twice (IsPermutation-map as_numbered (numbered asked) (map call_of told) each)

  moved_to : IsPermutation script (calls_told told) → RecordsEachCall (numbered asked) told
  moved_to moved =
      subst (λ calls. IsPermutation calls (map call_of told)) (map_back as_numbered as_call call_back (numbered asked))
      (subst (IsPermutation (map as_call script)) (map_back as_numbered as_call call_back (map call_of told))
      (IsPermutation-map as_call script (map as_numbered (map call_of told)) (subst (IsPermutation script) (sym told_twice) moved)))

  script_apart : IsDistinct (eq_by_cmp key_cmp) (map key_of script)
  script_apart = subst (IsDistinct (eq_by_cmp key_cmp)) (sym (map_twice as_numbered key_of (numbered asked))) (numbered_apart [] asked)

  -- no two records have one key
  pub told_apart : RecordsEachCall (numbered asked) told → IsDistinct (eq_by_cmp key_cmp) (map key_of (calls_told told))
  told_apart each =
      IsDistinct-IsPermutation (eq_by_cmp key_cmp) (eq_by_cmp_equiv key_total).symm (map key_of script) (map key_of (calls_told told))
      (IsPermutation-map key_of script (calls_told told) (moved_from each)) script_apart

  -- in the order of their keys the calls of the script and those of the records are one list exactly where each is told
  pub each_is_told : (calls records : List NumberedCall) → IsPermutation script calls → IsSortedByKey key_of key_cmp calls → IsPermutation (calls_told told) records → IsSortedByKey key_of key_cmp records →
      (calls ≡ records) ↔ RecordsEachCall (numbered asked) told
  each_is_told calls records moved up moved' up' = (
    λ same. moved_to (IsPermutation-trans script calls (calls_told told) moved (IsPermutation-sym (calls_told told) calls (subst (IsPermutation (calls_told told)) (sym same) moved'))),
    λ each.
        same_moved key_of key_cmp key_total calls records (strict_from_sort key_of key_cmp key_total script calls script_apart moved up) (strict_from_sort key_of key_cmp key_total (calls_told told) records (told_apart each) moved' up')
        (IsPermutation-trans calls script records (IsPermutation-sym script calls moved) (IsPermutation-trans script (calls_told told) records (moved_from each) moved')),
  )
