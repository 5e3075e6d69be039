-- The sum of the numbers of a map, and that of a round with small numbers is small.
use Rattle.std.proofs.Common.{◌≡◌, ℕ, suc, ◌+◌, ◌*◌, ◌<◌, ◌≤◌, Bool, true, false, cond, ◌&&◌, T, Less, Equal, Greater, List, [], ◌∷◌, ◌++◌, length, map, drop, get_or, sum_by, is_eq, refl, sym, ap, ◌∙◌, subst, arith}
use Rattle.std.specs.Prelude.{All, Option, Some, None, option_map}
use Rattle.std.specs.List.{AllByRecursion, cons_option, enumerate_from}
use Rattle.std.specs.Option.{unwrap_or}
use Rattle.std.specs.Ordering.{is_lt, eq_by_cmp}
use Rattle.std.specs.FinMap.{len-empty, len-entries, entries, entries_sorted, entries-insert, insert, remove, get, get-entries, get-insert, get-remove, same_map, empty}
use Rattle.std.specs.FinMap.Entries.{put, find, below_all, is_sorted, by_order}
use Rattle.std.specs.Cmp.{tied_itself}
use Rattle.std.specs.Cmp.Lexicographic.{nat_list_cmp_total}
use Rattle.std.proofs.lemmas.List.{length-map}
use Rattle.std.proofs.lemmas.List.Elements.{All-from_recursion, recursion_from_All}
use Rattle.std.proofs.lemmas.List.FromFn.{length-enumerate_from}
use Rattle.std.proofs.lemmas.List.Sorted.{All-permutation, length_permutation}
use Rattle.std.proofs.lemmas.List.Sums.{sum_by-cons, sum_by-drop_more}
use Rattle.std.proofs.lemmas.Map.Lookups.{exact_bytes}
use Rattle.cat_key.specs.Names.{name_cmp}
use Rattle.cat_key.specs.declared.Pair.{Pair}
use Rattle.cat_history.specs.Maps.{Map, at, map_of}
use Rattle.cat_history.specs.Records.{Call, call_of, change_asked, numbered, numbered_after, place_of, placed_write, placed_writes}
use Rattle.cat_history.specs.Replays.{pairs_of}
use Rattle.cat_history.specs.Writes.{after_all, changed}
use Rattle.cat_history.specs.declared.op.CallerOp.{CallerOp}
use Rattle.cat_history.specs.declared.op.Change.{Change}
use Rattle.cat_history.specs.declared.op.Change.TheVariants as change
use Rattle.cat_history.specs.declared.op.Op.{Op}
use Rattle.cat_history.specs.declared.op.Op.TheVariants.{Put, Get, Del, Scan}
use Rattle.cat_history.specs.declared.op.Write.{Write}
use Rattle.cat_history.specs.declared.plan.RoundPlan.{RoundPlan}
use Rattle.cat_history.specs.declared.record.Record.{Record}
use Rattle.cat_text.specs.declared.report.RoundReport.{RoundReport}
use Rattle.core_rounds.specs.Rounds.{IsRoundTo}
use Rattle.core_rounds.specs.Summaries.{sum_of, IsWithin}

abbrev Entries : Type 0
Entries = List (List ℕ × ℕ)

abbrev value_in : List ℕ × ℕ → ℕ
value_in e = e.1

abbrev sum_in : Entries → ℕ
sum_in es = sum_by value_in es

one-of : (a b : Bool) → T (a && b) → T a × T b
one-of true b both = (tt, both)
one-of false b both = absurd both

-- a name below all of a list isn't found in it
not-found : (n : List ℕ) (es : Entries) → T (below_all name_cmp n es) → find name_cmp n es ≡ None
not-found n [] low = refl
not-found n (e ∷ es) low =
    let here = (one-of (is_lt (name_cmp n e.0)) (below_all name_cmp n es) low) in
    elim (name_cmp n e.0) as (λ r. T (is_lt r) → cond (is_eq r) (Some e.1) (find name_cmp n es) ≡ None) [
      | Less ↦ λ _. not-found n es here.1
      | Equal ↦ λ lt. absurd lt
      | Greater ↦ λ lt. absurd lt
    ] here.0

-- so is one that is below the first of a list in order
below-first : (n m : List ℕ) (es : Entries) → name_cmp n m ≡ Less → T (below_all name_cmp m es) → T (below_all name_cmp n es)
below-first n m [] low above = tt
below-first n m (e ∷ es) low above =
    let here = one-of (is_lt (name_cmp m e.0)) (below_all name_cmp m es) above in
    let less : name_cmp m e.0 ≡ Less = elim (name_cmp m e.0) as (λ r. T (is_lt r) → r ≡ Less) [ Less ↦ λ _. refl | Equal ↦ λ lt. absurd lt | Greater ↦ λ lt. absurd lt ] here.0 in
    subst (λ (r : Bool). T (r && below_all name_cmp n es)) (sym (ap is_lt (nat_list_cmp_total.trans n m e.0 low less))) (below-first n m es low here.1)

-- a number that is put takes the place of the old one
sum-put : (n : List ℕ) (v : ℕ) (es : Entries) → T (is_sorted name_cmp es) →
    sum_in (put name_cmp n v es) + unwrap_or (find name_cmp n es) 0 ≡ sum_in es + v
sum-put n v [] sorted = let one = sum_by-cons value_in (n, v) [] in omega arith
sum-put n v (e ∷ es) sorted =
    let parts = one-of (below_all name_cmp e.0 es) (is_sorted name_cmp es) sorted in
    elim (name_cmp n e.0) as (λ r. name_cmp n e.0 ≡ r → sum_in (by_order r ((n, v) ∷ e ∷ es) ((e.0, v) ∷ es) (e ∷ put name_cmp n v es))
    + unwrap_or (cond (is_eq r) (Some e.1) (find name_cmp n es)) 0 ≡ sum_in (e ∷ es) + v) [
      | Less ↦ λ is.
          let none = ap (λ (o : Option ℕ). unwrap_or o 0) (not-found n es (below-first n e.0 es is parts.0)) in
          let more = sum_by-cons value_in (n, v) (e ∷ es) in
          omega arith
      | Equal ↦ λ is.
          let old = sum_by-cons value_in e es in
          let new = sum_by-cons value_in (e.0, v) es in
          omega arith
      | Greater ↦ λ is.
          let rest = sum-put n v es parts.1 in
          let old = sum_by-cons value_in e es in
          let new = sum_by-cons value_in e (put name_cmp n v es) in
          omega arith
    ] refl

pub sum-insert : (m : Map) (n : List ℕ) (v : ℕ) → sum_of (insert m n v) + unwrap_or (at m n) 0 ≡ sum_of m + v
sum-insert m n v =
    ap (λ (es : Entries). sum_in es + unwrap_or (at m n) 0) (entries-insert nat_list_cmp_total m n v)
    ∙ ap (λ (o : Option ℕ). sum_in (put name_cmp n v (entries m)) + unwrap_or o 0) (get-entries m n)
    ∙ sum-put n v (entries m) (entries_sorted m)

tied-back : (n q : List ℕ) → eq_by_cmp name_cmp q n ≡ true → q ≡ n
tied-back n q is = exact_bytes q n (elim (name_cmp q n) as (λ r. is_eq r ≡ true → r ≡ Equal) [
  | Less ↦ λ e. absurd (subst T (sym e) tt)
  | Equal ↦ λ e. refl
  | Greater ↦ λ e. absurd (subst T (sym e) tt)
] is)

-- a removed name and its number, put back, make the map
put-back : (m : Map) (n : List ℕ) (v : ℕ) → at m n ≡ Some v → insert (remove m n) n v ≡ m
put-back m n v has = same_map nat_list_cmp_total exact_bytes _ _ (λ q. get-insert nat_list_cmp_total (remove m n) n v q ∙ by_test q (eq_by_cmp name_cmp q n) refl) where
  by_test : (q : List ℕ) (b : Bool) → eq_by_cmp name_cmp q n ≡ b → cond b (Some v) (get (remove m n) q) ≡ get m q
  by_test q true is = sym has ∙ ap (get m) (sym (tied-back n q is))
  by_test q false is = get-remove nat_list_cmp_total m n q ∙ ap (λ (b : Bool). cond b None (get m q)) is

lacks-it : (m : Map) (n : List ℕ) → at m n ≡ None → remove m n ≡ m
lacks-it m n lacks = same_map nat_list_cmp_total exact_bytes _ _ (λ q. get-remove nat_list_cmp_total m n q ∙ by_test q (eq_by_cmp name_cmp q n) refl) where
  by_test : (q : List ℕ) (b : Bool) → eq_by_cmp name_cmp q n ≡ b → cond b None (get m q) ≡ get m q
  by_test q true is = sym lacks ∙ ap (get m) (sym (tied-back n q is))
  by_test q false is = refl

-- a name that is removed takes its number with it
pub sum-remove : (m : Map) (n : List ℕ) → sum_of (remove m n) + unwrap_or (at m n) 0 ≡ sum_of m
sum-remove m n =
    elim (at m n) as (λ o. at m n ≡ o → sum_of (remove m n) + unwrap_or o 0 ≡ sum_of m) [
      | None ↦ λ is. let same = ap sum_of (lacks-it m n is) in omega arith
      | Some v ↦ λ is.
          let back = ap sum_of (put-back m n v is) in
          let put = sum-insert (remove m n) n v in
          let none : unwrap_or (at (remove m n) n) 0 ≡ 0 = ap (λ (o : Option ℕ). unwrap_or o 0) (gone n refl) in
          omega arith
    ] refl
  where
    gone : (q : List ℕ) → q ≡ n → at (remove m n) q ≡ None
    gone q is = get-remove nat_list_cmp_total m n q ∙ ap (λ (b : Bool). cond b None (get m q)) (tied q is)
      where
        tied : (q : List ℕ) → q ≡ n → eq_by_cmp name_cmp q n ≡ true
        tied q is = ap (λ (k : List ℕ). eq_by_cmp name_cmp k n) is ∙ ap is_eq (tied_itself nat_list_cmp_total n)

-- ---- small sums

abbrev IsSmall : Change → Type 0
IsSmall (change.Put name value) = value ≤ 100000
IsSmall (change.Del name) = Unit {0}

one-change : (m : Map) (c : Change) → IsSmall c → sum_of (changed m c) ≤ sum_of m + 100000
one-change m (change.Put name value) small = let put = sum-insert m name value in omega (arith, put, small)
one-change m (change.Del name) small = let less = sum-remove m name in omega (arith, less)

abbrev WritesSmall : Write → Type 0
WritesSmall w = IsSmall w.change

all-changes : (m : Map) (writes : List Write) → AllByRecursion WritesSmall writes → sum_of (after_all m writes) ≤ sum_of m + length writes * 100000
all-changes m [] small = omega arith
all-changes m (w ∷ writes) small =
    let here = one-change m w.change small.0 in
    let rest = all-changes (changed m w.change) writes small.1 in
    omega (arith, here, rest)

-- the calls of a round, its records, the writes that they tell, and those by place
abbrev AsksSmall : CallerOp → Type 0
AsksSmall a = IsWithin 100000 a.op

abbrev CallsSmall : Call → Type 0
CallsSmall c = IsWithin 100000 c.op

abbrev TellsSmall : Record → Type 0
TellsSmall r = IsWithin 100000 r.op

abbrev PlacesSmall : ℕ × Write → Type 0
PlacesSmall e = IsSmall e.1.change

calls-small : (before : List ℕ) (asked : List CallerOp) → AllByRecursion AsksSmall asked → AllByRecursion CallsSmall (numbered_after before asked)
calls-small before [] small = tt
calls-small before (a ∷ asked) small = (small.0, calls-small (before ++ a.caller ∷ []) asked small.1)

as-many-calls : (before : List ℕ) (asked : List CallerOp) → length (numbered_after before asked) ≡ length asked
as-many-calls before [] = refl
as-many-calls before (a ∷ asked) = ap suc (as-many-calls (before ++ a.caller ∷ []) asked)

records-small : (records : List Record) → AllByRecursion CallsSmall (map call_of records) → AllByRecursion TellsSmall records
records-small [] small = tt
records-small (r ∷ records) small = (small.0, records-small records small.1)

by-parts : (caller index : ℕ) (o : Option ℕ) (op : Op) (rest : List (ℕ × Write)) → IsWithin 100000 op → AllByRecursion PlacesSmall rest →
    AllByRecursion PlacesSmall (cons_option (elim o [
      | None ↦ None
      | Some place ↦ option_map (λ c. (place, record { caller = caller; index = index; change = c })) (change_asked op)
    ]) rest)
by-parts caller index None op rest within small = small
by-parts caller index (Some place) (Put name value) rest within small = (within, small)
by-parts caller index (Some place) (Get name) rest within small = small
by-parts caller index (Some place) (Del name) rest within small = (tt, small)
by-parts caller index (Some place) (Scan from count) rest within small = small

placed-small : (records : List Record) → AllByRecursion TellsSmall records → AllByRecursion PlacesSmall (placed_writes records)
placed-small [] small = tt
placed-small (r ∷ records) small = by-parts r.caller r.index (place_of r.reply) r.op (placed_writes records) small.0 (placed-small records small.1)

one-at-most : (o : Option (ℕ × Write)) (rest : List (ℕ × Write)) → length (cons_option o rest) ≤ length rest + 1
one-at-most None rest = omega arith
one-at-most (Some e) rest = omega arith

few-placed : (records : List Record) → length (placed_writes records) ≤ length records
few-placed [] = omega arith
few-placed (r ∷ records) =
    let here = one-at-most (placed_write r) (placed_writes records) in
    let rest = few-placed records in
    omega (arith, here, rest)

by-place-small : (place : ℕ) (writes : List Write) → AllByRecursion PlacesSmall (enumerate_from place writes) → AllByRecursion WritesSmall writes
by-place-small place [] small = tt
by-place-small place (w ∷ writes) small = (small.0, by-place-small (place + 1) writes small.1)

no-entries : (es : Entries) → length es ≡ 0 → sum_in es ≡ 0
no-entries [] none = refl
no-entries (e ∷ es) none = absurd (omega (arith, none))

sum-empty : 0 ≡ sum_of (empty {K = List ℕ} {X = ℕ} {R = name_cmp})
sum-empty = sym (no-entries (entries empty) (sym (len-entries (empty {K = List ℕ} {X = ℕ} {R = name_cmp})) ∙ len-empty name_cmp ℕ))

-- the numbers of few puts, each of which is small
pub sum-small : (plan : RoundPlan) (report : RoundReport) (end : Map) → IsRoundTo empty plan report end → All (λ (a : CallerOp). IsWithin 100000 a.op) plan.ops → length plan.ops ≤ 100000 →
    sum_of end ≤ 100000 * 100000
sum-small plan report end round within few =
    let legal = round.legal.legal in
    let records = report.records in
    let writes = round.writes in
    let calls = All-from_recursion CallsSmall (numbered plan.ops) (calls-small [] plan.ops (recursion_from_All AsksSmall plan.ops within)) in
    let told = recursion_from_All CallsSmall (map call_of records) (All-permutation CallsSmall (numbered plan.ops) (map call_of records) legal.each_call calls) in
    let placed = All-from_recursion PlacesSmall (placed_writes records) (placed-small records (records-small records told)) in
    let small = by-place-small 0 writes (recursion_from_All PlacesSmall (enumerate_from 0 writes) (All-permutation PlacesSmall (placed_writes records) (enumerate_from 0 writes) legal.by_place placed)) in
    let many = length_permutation (numbered plan.ops) (map call_of records) legal.each_call in
    let each = length-map records call_of in
    let asked = as-many-calls [] plan.ops in
    let places = length_permutation (placed_writes records) (enumerate_from 0 writes) legal.by_place in
    let numbers = length-enumerate_from 0 writes in
    let fewer = few-placed records in
    let sum = all-changes empty writes small in
    let none = sum-empty in
    let leaves = ap sum_of round.legal.leaves in
    omega (arith, few, many, each, asked, places, numbers, fewer, sum, none, leaves)

sum-pairs : (es : Entries) → sum_by (λ (p : Pair). p.value) (map (λ (e : List ℕ × ℕ). record { name = e.0; value = e.1 }) es) ≡ sum_in es
sum-pairs [] = refl
sum-pairs (e ∷ es) =
    let rest = sum-pairs es in
    let one = sum_by-cons value_in e es in
    let pair = sum_by-cons (λ (p : Pair). p.value) (record { name = e.0; value = e.1 }) (map (λ (e : List ℕ × ℕ). record { name = e.0; value = e.1 }) es) in
    omega (arith, rest, one, pair)

-- the pairs of a map have its sum
pub pairs-sum : (pairs : List Pair) → pairs ≡ pairs_of (map_of pairs) → sum_by (λ (p : Pair). p.value) pairs ≡ sum_of (map_of pairs)
pairs-sum pairs is = ap (sum_by (λ (p : Pair). p.value)) is ∙ sum-pairs (entries (map_of pairs))

-- one pair fewer is to come
pub pairs-to-come : (pairs : List Pair) (i : ℕ) (pair : Pair) → i < length pairs → pair ≡ get_or pairs i pair →
    sum_by (λ (p : Pair). p.value) (drop i pairs) ≡ pair.value + sum_by (λ (p : Pair). p.value) (drop (i + 1) pairs)
pairs-to-come pairs i pair less is =
    sum_by-drop_more (λ (p : Pair). p.value) pairs i pair less ∙ ap (λ (p : Pair). p.value + sum_by (λ (p : Pair). p.value) (drop (i + 1) pairs)) (sym is)
