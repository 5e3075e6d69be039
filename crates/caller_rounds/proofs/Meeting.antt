-- Callers that have made their calls in one history.
use Rattle.std.proofs.Common.{◌≡◌, ◌≢◌, ℕ, ◌+◌, ◌<◌, ◌≤◌, ⊎_elim, true, false, cond, List, [], ◌∷◌, ◌++◌, length, get_or, map, refl, sym, ap, subst, ◌∙◌, arith, add-zero, zero-add, eq-eqb}
use Rattle.std.specs.Prelude.{◌==◌, All, Contains, Option, Some, None, IfSome, count_by, slice_get, option_map}
use Rattle.std.specs.List.{filter, enumerate_from}
use Rattle.std.specs.List.Sorted.{IsPermutation}
use Rattle.std.proofs.lemmas.Bool.{cases_eq, ne_eqb}
use Rattle.std.proofs.lemmas.List.{map-append}
use Rattle.std.proofs.lemmas.List.FromFn.{length-enumerate_from, get_or-enumerate_from}
use Rattle.std.proofs.lemmas.List.Sums.{sum_by_push}
use Rattle.std.proofs.lemmas.List.Elements.{All-contains, All-head, All-tail, All-nil, All-cons, filter_map-append}
use Rattle.std.proofs.lemmas.List.Sorted.{IsPermutation-sym, Contains-permutation}
use Rattle.std.proofs.lemmas.Option.{slice_get_within, get_or_from_slice_get, slice_get-get_or}
use mathlib.Core.Option.{some, some-injective}
use lib.ListN.{get_elem?}
use Rattle.cat_history.specs.Maps.{Map}
use Rattle.cat_history.specs.Callers.{PlacesKeepLimit}
use Rattle.cat_history.specs.Records.{Call, call_of, numbered, numbered_after, placed_write, placed_writes, interval, place_of, change_asked}
use Rattle.cat_history.specs.declared.op.Change.{Change}
use Rattle.cat_history.specs.declared.op.Change.TheVariants as change
use Rattle.cat_history.specs.Rounds.{IsAnswer, IsAnswered, KeepsCallersOrder}
use Rattle.cat_history.specs.declared.op.CallerOp.{CallerOp}
use Rattle.cat_history.specs.declared.op.Write.{Write}
use Rattle.cat_history.specs.declared.record.Record.{Record}
use Rattle.cat_history.proofs.CallerLemmas.{late_writes_are_few}
use Rattle.caller_rounds.specs.CallerRounds.{own_writes, asked_of, calls_from, by_caller, EachHasReplies, RepliesMakeRound, CallersMakeRound}
use Rattle.caller_rounds.proofs.Parting.{with_key, with-here, with-other, parted, gathered, elem-within, all-flat, flat-has, has-flat, filter-has, map-has, given-by}
use Rattle.caller_rounds.proofs.Calling.{record-known, some-same, none-some}

abbrev caller-of : Call → ℕ
caller-of c = c.caller

abbrev writer-of : ℕ × Write → ℕ
writer-of e = e.1.caller

count-push : (caller : ℕ) (before : List ℕ) (one : ℕ) → count_by (λ c. c == caller) (before ++ one ∷ []) ≡ count_by (λ c. c == caller) before + cond (one == caller) 1 0
count-push caller before one = sum_by_push (λ c. cond (c == caller) 1 0) before one

-- the calls of a caller are those of the script with its number
calls-parted : (caller : ℕ) (before : List ℕ) (asked : List CallerOp) → calls_from caller (count_by (λ c. c == caller) before) (asked_of caller asked) ≡ with_key caller-of caller (numbered_after before asked)
calls-parted caller before [] = refl
calls-parted caller before (a ∷ asked) = ⊎_elim (here (calls-parted caller (before ++ a.caller ∷ []) asked)) (other (calls-parted caller (before ++ a.caller ∷ []) asked)) (cases_eq a.caller caller)
  where
    call : Call
    call = record { caller = a.caller; index = count_by (λ c. c == a.caller) before; op = a.op }

    rest : List Call
    rest = numbered_after (before ++ a.caller ∷ []) asked

    Behind : Type 0
    Behind = calls_from caller (count_by (λ c. c == caller) (before ++ a.caller ∷ [])) (asked_of caller asked) ≡ with_key caller-of caller rest

    behind : (n : ℕ) → count_by (λ c. c == caller) (before ++ a.caller ∷ []) ≡ n → Behind → calls_from caller n (asked_of caller asked) ≡ with_key caller-of caller rest
    behind n is later = subst (λ k. calls_from caller k (asked_of caller asked) ≡ with_key caller-of caller rest) is later

    here : Behind → a.caller ≡ caller → calls_from caller (count_by (λ c. c == caller) before) (asked_of caller (a ∷ asked)) ≡ with_key caller-of caller (call ∷ rest)
    here later same =
        let passes : (a.caller == caller) ≡ true = eq-eqb a.caller caller same in
        let taken : asked_of caller (a ∷ asked) ≡ a.op ∷ asked_of caller asked =
        ap (λ b. map (λ (o : CallerOp). o.op) (cond b (a ∷ filter (λ (o : CallerOp). o.caller == caller) asked) (filter (λ (o : CallerOp). o.caller == caller) asked))) passes in
        let counted : count_by (λ c. c == caller) (before ++ a.caller ∷ []) ≡ count_by (λ c. c == caller) before + 1 =
        count-push caller before a.caller ∙ ap (λ b. count_by (λ c. c == caller) before + cond b 1 0) passes in
        ap (calls_from caller (count_by (λ c. c == caller) before)) taken
        ∙ ap (λ l. record { caller = caller; index = count_by (λ c. c == caller) before; op = a.op } ∷ l) (behind (count_by (λ c. c == caller) before + 1) counted later)
        ∙ (λ i. record { caller = sym same i; index = count_by (λ c. c == sym same i) before; op = a.op } ∷ with_key caller-of caller rest)
        ∙ sym (with-here caller-of caller call rest same)

    other : Behind → a.caller ≢ caller → calls_from caller (count_by (λ c. c == caller) before) (asked_of caller (a ∷ asked)) ≡ with_key caller-of caller (call ∷ rest)
    other later differs =
        let fails : (a.caller == caller) ≡ false = ne_eqb a.caller caller differs in
        let taken : asked_of caller (a ∷ asked) ≡ asked_of caller asked =
        ap (λ b. map (λ (o : CallerOp). o.op) (cond b (a ∷ filter (λ (o : CallerOp). o.caller == caller) asked) (filter (λ (o : CallerOp). o.caller == caller) asked))) fails in
        let counted : count_by (λ c. c == caller) (before ++ a.caller ∷ []) ≡ count_by (λ c. c == caller) before =
        count-push caller before a.caller ∙ ap (λ b. count_by (λ c. c == caller) before + cond b 1 0) fails ∙ add-zero (count_by (λ c. c == caller) before) in
        ap (calls_from caller (count_by (λ c. c == caller) before)) taken
        ∙ behind (count_by (λ c. c == caller) before) counted later
        ∙ sym (with-other caller-of caller call rest differs)

callers-few : (n : ℕ) (before : List ℕ) (asked : List CallerOp) → All (λ (a : CallerOp). a.caller < n) asked → All (λ (c : Call). c.caller < n) (numbered_after before asked)
callers-few n before [] few = All-nil (λ (c : Call). c.caller < n)
callers-few n before (a ∷ asked) few =
    All-cons (λ (c : Call). c.caller < n) (record { caller = a.caller; index = count_by (λ c. c == a.caller) before; op = a.op }) (numbered_after (before ++ a.caller ∷ []) asked)
    (All-head (λ (o : CallerOp). o.caller < n) a asked few)
    (callers-few n (before ++ a.caller ∷ []) asked (All-tail (λ (o : CallerOp). o.caller < n) a asked few))

pub writers-few : (n k : ℕ) (history : List Write) → All (λ (w : Write). w.caller < n) history → All (λ (e : ℕ × Write). e.1.caller < n) (enumerate_from k history)
writers-few n k [] few = All-nil (λ (e : ℕ × Write). e.1.caller < n)
writers-few n k (w ∷ history) few =
    All-cons (λ (e : ℕ × Write). e.1.caller < n) (k, w) (enumerate_from (k + 1) history) (All-head (λ (v : Write). v.caller < n) w history few)
    (writers-few n (k + 1) history (All-tail (λ (v : Write). v.caller < n) w history few))

-- a write of the history stands among its caller's
stands-numbered : (history : List Write) (place : ℕ) (w : Write) → slice_get history place ≡ Some w → Contains (enumerate_from 0 history) (place, w)
stands-numbered history place w stands =
    let less : place < length history = slice_get_within history place w stands in (
      place,
      omega (arith, length-enumerate_from 0 history),
      get_or-enumerate_from 0 history place (place, w) less ∙ (λ i. (zero-add place i, get_or_from_slice_get history place w w stands i)),
    )

stands-own : (history : List Write) (place : ℕ) (w : Write) (caller : ℕ) → slice_get history place ≡ Some w → w.caller ≡ caller → Contains (own_writes caller history) (place, w)
stands-own history place w caller stands mine =
    filter-has (λ (e : ℕ × Write). e.1.caller == caller) (enumerate_from 0 history) (place, w) (stands-numbered history place w stands) (eq-eqb w.caller caller mine)

-- a record's write is its caller's
writes-own : (r : Record) (e : ℕ × Write) → placed_write r ≡ Some e → e.1.caller ≡ r.caller
writes-own r e is = by-parts r.caller r.index (place_of r.reply) (change_asked r.op) e is
  where
    by-parts : (caller index : ℕ) (o : Option ℕ) (c : Option Change) (e : ℕ × Write) → elim o [
      | None ↦ None
      | Some place ↦ option_map (λ c. (place, record { caller = caller; index = index; change = c })) c
    ] ≡ Some e → e.1.caller ≡ caller
    by-parts caller index None c e is = absurd (none-some is)
    by-parts caller index (Some place) None e is = absurd (none-some is)
    by-parts caller index (Some place) (Some c) e is = ap (λ (x : ℕ × Write). x.1.caller) (sym (some-same is))

module _ (base : Map) (limit : ℕ) (asked : List CallerOp) (history : List Write) (told : List (List Record)) (each : EachHasReplies base limit asked history told)
    (writers : All (λ (w : Write). w.caller < length told) history) (callers : All (λ (a : CallerOp). a.caller < length told) asked) where
  each-call : IsPermutation (numbered asked) (map call_of (by_caller told))
  each-call =
      subst (IsPermutation (numbered asked))
      (sym (gathered caller-of (map call_of) refl (λ ys zs. map-append call_of ys zs) 0 told (numbered asked)
      (λ i records there. (each i records there).calls ∙ calls-parted i [] asked ∙ ap (λ k. with_key caller-of k (numbered asked)) (sym (zero-add i)))))
      (parted caller-of (length told) (numbered asked) (callers-few (length told) [] asked callers))

  by-place : IsPermutation (placed_writes (by_caller told)) (enumerate_from 0 history)
  by-place =
      IsPermutation-sym (enumerate_from 0 history) (placed_writes (by_caller told))
      (subst (IsPermutation (enumerate_from 0 history))
      (sym (gathered writer-of placed_writes refl (λ ys zs. filter_map-append placed_write ys zs) 0 told (enumerate_from 0 history)
      (λ i records there. sym (each i records there).own ∙ ap (λ k. own_writes k history) (sym (zero-add i)))))
      (parted writer-of (length told) (enumerate_from 0 history) (writers-few (length told) 0 history writers)))

  in-order : KeepsCallersOrder (by_caller told)
  in-order r s has_r has_s same less =
      let at_r = flat-has told r has_r in
      let at_s = flat-has told s has_s in
      let is_r = each at_r.0 at_r.1 at_r.2 in
      let is_s = each at_s.0 at_s.1 at_s.2 in
      let known_r = record-known at_r.0 (asked_of at_r.0 asked) at_r.1 r is_r.calls at_r.3 in
      let known_s = record-known at_s.0 (asked_of at_s.0 asked) at_s.1 s is_s.calls at_s.3 in
      let one : at_r.0 ≡ at_s.0 = sym known_r.0 ∙ same ∙ known_s.0 in
      let lists : at_r.1 ≡ at_s.1 = some-injective at_r.1 at_s.1 (sym at_r.2 ∙ ap (get_elem? told) one ∙ at_s.2) in
      is_r.in_order r s at_r.3 (subst (λ (l : List Record). Contains l s) (sym lists) at_s.3) same less

  -- a write of the history is one of its caller's records
  recorded : (place : ℕ) (w : Write) → slice_get history place ≡ Some w → (records : List Record) × (get_elem? told w.caller ≡ some records) × Contains (placed_writes records) (place, w)
  recorded place w stands =
      let few : w.caller < length told = writers-few-at place w stands in
      let there = elem-within told w.caller few in
      (there.0, there.1, subst (λ es. Contains es (place, w)) (each w.caller there.0 there.1).own (stands-own history place w w.caller stands refl))
    where
      writers-few-at : (place : ℕ) (w : Write) → slice_get history place ≡ Some w → w.caller < length told
      writers-few-at place w stands = All-contains (λ (v : Write). v.caller < length told) history w writers (place, slice_get_within history place w stands, get_or_from_slice_get history place w w stands)

  in-time : PlacesKeepLimit limit (map caller-of (numbered asked)) history
  in-time = late_writes_are_few limit (map caller-of (numbered asked)) history some-time among apart
    where
      nothing : Write
      nothing = record { caller = 0; index = 0; change = change.Del [] }

      first-write : 0 < length history → (w : Write) × (slice_get history 0 ≡ Some w)
      first-write less = (get_or history 0 nothing, slice_get-get_or history 0 nothing less)

      some-time : 0 < length history → 0 < limit
      some-time less =
          let first = first-write less in
          let by = recorded 0 first.0 first.1 in
          All-contains (λ (e : ℕ × Write). 0 < limit) (placed_writes by.0) (0, first.0) (each first.0.caller by.0 by.1).begun by.2

      among : (place : ℕ) (w : Write) → slice_get history place ≡ Some w → Contains (map caller-of (numbered asked)) w.caller
      among place w stands =
          let by = recorded place w stands in
          let gives = given-by placed_write by.0 (place, w) by.2 in
          let whole : Contains (by_caller told) gives.0 = has-flat told w.caller by.0 gives.0 by.1 gives.1 in
          let call : Contains (numbered asked) (call_of gives.0) = Contains-permutation (map call_of (by_caller told)) (numbered asked) (call_of gives.0)
          (IsPermutation-sym (numbered asked) (map call_of (by_caller told)) each-call) (map-has call_of (by_caller told) gives.0 whole) in
          subst (Contains (map caller-of (numbered asked))) (sym (writes-own gives.0 (place, w) gives.2)) (map-has caller-of (numbered asked) (call_of gives.0) call)

      apart : (p q : ℕ) (v w : Write) → slice_get history p ≡ Some v → slice_get history q ≡ Some w → p < q → limit ≤ p + 1 → v.caller ≢ w.caller
      apart p q v w at_p at_q less late same =
          let by = recorded q w at_q in
          let has = each w.caller by.0 by.1 in
          let earlier : Contains (placed_writes by.0) (p, v) = subst (λ es. Contains es (p, v)) has.own (stands-own history p v w.caller at_p same) in
          let below = has.in_time (p, v) (q, w) earlier by.2 less in
          omega arith

pub replies_make_round : RepliesMakeRound
replies_make_round base limit asked history told each writers callers = record {
  each_call = each-call base limit asked history told each writers callers;
  by_place = by-place base limit asked history told each writers callers;
  answers = all-flat (λ (r : Record). IsAnswer base history limit r.op r.reply) told (λ i records there. (each i records there).answers);
  within = all-flat (λ (r : Record). IfSome (interval r) (λ i. i.end ≤ length history)) told (λ i records there. (each i records there).within);
  in_order = in-order base limit asked history told each writers callers;
  in_time = in-time base limit asked history told each writers callers;
}

pub callers_make_round : CallersMakeRound
callers_make_round base limit asked history told each writers callers = record {
  legal = replies_make_round base limit asked history told (λ i records there. (each i records there).replies) writers callers;
  answered = all-flat (λ (r : Record). IsAnswered r.reply) told (λ i records there. (each i records there).answered);
  leaves = refl;
}
