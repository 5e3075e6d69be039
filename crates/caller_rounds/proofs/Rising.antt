-- How many names a round may add.
use Rattle.std.proofs.Common.{◌≡◌, ℕ, zero, suc, ◌+◌, ◌≤◌, Bool, true, false, cond, is_some, List, [], ◌∷◌, ◌++◌, length, take, refl, sym, ap, ◌∙◌, arith, zero-add, append_assoc, length-append}
use Rattle.std.specs.Prelude.{Option, Some, None, sum_by}
use Rattle.std.specs.FinMap.{len, insert, len-insert}
use Rattle.std.specs.List.{enumerate_from, filter, AllByRecursion, cons_option}
use Rattle.std.proofs.lemmas.Cmp.{nat_list_cmp_total}
use Rattle.std.proofs.lemmas.List.Sums.{sum_by-cons, fold-append}
use Rattle.std.proofs.lemmas.List.Elements.{recursion_from_All}
use Rattle.std.proofs.lemmas.List.Sorted.{sum_by-IsPermutation}
use Rattle.std.proofs.Math.Seq.{take-append_seam}
use Rattle.cat_history.specs.Maps.{Map, at}
use Rattle.cat_history.specs.Writes.{changed, after, after_all}
use Rattle.cat_history.specs.Records.{Call, placed_write, placed_writes}
use Rattle.cat_history.specs.CrashEnds.{after_changes, found_in, is_found}
use Rattle.cat_history.specs.CrashRounds.{change_cut, changes_cut}
use Rattle.cat_history.specs.Rounds.{IsAnswer, IsLegalRound}
use Rattle.cat_history.specs.declared.op.Change.{Change}
use Rattle.cat_history.specs.declared.op.Change.TheVariants as change
use Rattle.cat_history.specs.declared.op.Op.{Op}
use Rattle.cat_history.specs.declared.op.Op.TheVariants.{Put, Get, Del, Scan}
use Rattle.cat_history.specs.declared.op.Write.{Write}
use Rattle.cat_history.specs.declared.record.CutMark.TheVariants.{At, Open, Found, Lost, Read}
use Rattle.cat_history.specs.declared.record.Record.{Record}
use Rattle.cat_history.specs.declared.record.Reply.{Reply}
use Rattle.cat_history.specs.declared.record.Reply.TheVariants.{Old, Parts, Full, Spent, Cut, Unstarted}
use Rattle.shapes.specs.ShapeRounds.{puts_added, one_added}
use Rattle.shapes.proofs.RoundLemmas.{del-names}
use Rattle.caller_rounds.specs.CallerRounds.{CrashNamesRise, NamesRise}

-- one for a name that the map lacks
abbrev one_none : Option ℕ → ℕ
one_none None = 1
one_none (Some value) = 0

one-at-most : (o : Option ℕ) → one_none o ≤ 1
one-at-most None = omega arith
one-at-most (Some value) = omega arith

abbrev adds : Map → Change → ℕ
adds m (change.Put name value) = one_none (at m name)
adds m (change.Del name) = 0

one-rises : (m : Map) (c : Change) → len (changed m c) ≤ len m + adds m c
one-rises m (change.Put name value) =
    elim (at m name) as (λ o. len (insert m name value) ≡ cond (is_some o) (len m) (len m + 1) → len (insert m name value) ≤ len m + one_none o) [
      | None ↦ λ e. omega arith
      | Some old ↦ λ e. omega arith
    ] (len-insert nat_list_cmp_total m name value)
one-rises m (change.Del name) = let less = del-names m name in omega arith

-- how many of the writes add a name, one after another
abbrev added_along : Map → List Write → ℕ
added_along m [] = 0
added_along m (w ∷ ws) = adds m w.change + added_along (changed m w.change) ws

all-rise : (m : Map) (ws : List Write) (place : ℕ) → place ≤ length ws → len (after m ws place) ≤ len m + added_along m ws
all-rise m [] zero less = omega arith
all-rise m [] (suc place) less = absurd (omega arith)
all-rise m (w ∷ ws) zero less = omega arith
all-rise m (w ∷ ws) (suc place) less = let one = one-rises m w.change in let rest = all-rise (changed m w.change) ws place (omega arith) in omega arith

-- what each write adds to the map at its place
abbrev adds-at : Map → List Write → ℕ × Write → ℕ
adds-at base history e = adds (after base history e.0) e.1.change

along-numbered : (base : Map) (before ws : List Write) → sum_by (adds-at base (before ++ ws)) (enumerate_from (length before) ws) ≡ added_along (after_all base before) ws
along-numbered base before [] = refl
along-numbered base before (w ∷ ws) =
    let whole : before ++ w ∷ ws ≡ (before ++ w ∷ []) ++ ws = sym (append_assoc before (w ∷ []) ws) in
    let longer : length (before ++ w ∷ []) ≡ length before + 1 = length-append before (w ∷ []) in
    let next : after_all base (before ++ w ∷ []) ≡ changed (after_all base before) w.change = fold-append (λ n (v : Write). changed n v.change) base before (w ∷ []) in
    sum_by-cons (adds-at base (before ++ w ∷ ws)) (length before, w) (enumerate_from (length before + 1) ws)
    ∙ ap (λ m. adds m w.change + sum_by (adds-at base (before ++ w ∷ ws)) (enumerate_from (length before + 1) ws)) (ap (after_all base) (take-append_seam before (w ∷ ws)))
    ∙ ap (λ n. adds (after_all base before) w.change + n)
    (ap (λ h. sum_by (adds-at base h) (enumerate_from (length before + 1) ws)) whole
    ∙ ap (λ k. sum_by (adds-at base ((before ++ w ∷ []) ++ ws)) (enumerate_from k ws)) (sym longer)
    ∙ along-numbered base (before ++ w ∷ []) ws
    ∙ ap (λ m. added_along m ws) next)

-- what a change may add that was cut off
abbrev may-add : Change → ℕ
may-add (change.Put name value) = 1
may-add (change.Del name) = 0

adds-few : (m : Map) (c : Change) → adds m c ≤ may-add c
adds-few m (change.Put name value) = one-at-most (at m name)
adds-few m (change.Del name) = omega arith

-- the number of what there is
abbrev of-some : {X : Type 0} → (X → ℕ) → Option X → ℕ
of-some f None = 0
of-some f (Some x) = f x

sum-option : {X : Type 0} (f : X → ℕ) (o : Option X) (xs : List X) → sum_by f (cons_option o xs) ≡ of-some f o + sum_by f xs
sum-option f None xs = sym (zero-add (sum_by f xs))
sum-option f (Some x) xs = sum_by-cons f x xs

module _ (base : Map) (history : List Write) (limit : ℕ) where
  -- a record's write adds a name at most where the record says so, and a change that was cut off may add one where it does
  one-told : (caller index : ℕ) (op : Op) (reply : Reply) → IsAnswer base history limit op reply
      → of-some (adds-at base history) (placed_write (record { caller = caller; index = index; op = op; reply = reply })) + of-some may-add (change_cut op reply) ≤ one_added op reply
  one-told caller index (Put name value) (Old None place) is = let one = one-at-most (at (after base history place) name) in omega arith
  one-told caller index (Put name value) (Old (Some old) place) is = let none : one_none (at (after base history place) name) ≡ 0 = ap one_none (sym is) in omega arith
  one-told caller index (Del name) (Old old place) is = omega arith
  one-told caller index (Get name) (Old old place) is = omega arith
  one-told caller index (Scan from count) (Old old place) is = absurd is
  one-told caller index (Put name value) (Parts parts cut) is = absurd is
  one-told caller index (Get name) (Parts parts cut) is = absurd is
  one-told caller index (Del name) (Parts parts cut) is = absurd is
  one-told caller index (Scan from count) (Parts parts cut) is = omega arith
  one-told caller index (Put name value) Full is = omega arith
  one-told caller index (Get name) Full is = absurd is
  one-told caller index (Del name) Full is = absurd is
  one-told caller index (Scan from count) Full is = absurd is
  one-told caller index (Put name value) (Spent clock) is = omega arith
  one-told caller index (Del name) (Spent clock) is = omega arith
  one-told caller index (Get name) (Spent clock) is = absurd is.0
  one-told caller index (Scan from count) (Spent clock) is = absurd is.0
  one-told caller index (Put name value) (Cut (At place)) is = let one = one-at-most (at (after base history place) name) in omega arith
  one-told caller index (Put name value) (Cut Open) is = omega arith
  one-told caller index (Put name value) (Cut Found) is = omega arith
  one-told caller index (Put name value) (Cut Lost) is = omega arith
  one-told caller index (Put name value) (Cut Read) is = omega arith
  one-told caller index (Del name) (Cut (At place)) is = omega arith
  one-told caller index (Del name) (Cut Open) is = omega arith
  one-told caller index (Del name) (Cut Found) is = omega arith
  one-told caller index (Del name) (Cut Lost) is = omega arith
  one-told caller index (Del name) (Cut Read) is = omega arith
  one-told caller index (Get name) (Cut (At place)) is = omega arith
  one-told caller index (Get name) (Cut Open) is = omega arith
  one-told caller index (Get name) (Cut Found) is = omega arith
  one-told caller index (Get name) (Cut Lost) is = omega arith
  one-told caller index (Get name) (Cut Read) is = omega arith
  one-told caller index (Scan from count) (Cut mark) is = absurd is
  one-told caller index (Put name value) Unstarted is = omega arith
  one-told caller index (Get name) Unstarted is = omega arith
  one-told caller index (Del name) Unstarted is = omega arith
  one-told caller index (Scan from count) Unstarted is = omega arith

  all-told : (records : List Record) → AllByRecursion (λ (r : Record). IsAnswer base history limit r.op r.reply) records
      → sum_by (adds-at base history) (placed_writes records) + sum_by may-add (changes_cut records) ≤ puts_added records
  all-told [] is = omega arith
  all-told (r ∷ records) is =
      let one = one-told r.caller r.index r.op r.reply is.0 in
      let rest = all-told records is.1 in
      let placed : sum_by (adds-at base history) (placed_writes (r ∷ records)) ≡ of-some (adds-at base history) (placed_write r) + sum_by (adds-at base history) (placed_writes records) =
      sum-option (adds-at base history) (placed_write r) (placed_writes records) in
      let cut : sum_by may-add (changes_cut (r ∷ records)) ≡ of-some may-add (change_cut r.op r.reply) + sum_by may-add (changes_cut records) =
      sum-option may-add (change_cut r.op r.reply) (changes_cut records) in
      omega arith

module _ (base : Map) (calls : List Call) (limit : ℕ) (records : List Record) (history : List Write) (round : IsLegalRound base calls limit records history) where
  told-along : added_along base history + sum_by may-add (changes_cut records) ≤ puts_added records
  told-along =
      let told = all-told base history limit records (recursion_from_All (λ (r : Record). IsAnswer base history limit r.op r.reply) records round.answers) in
      let same = sum_by-IsPermutation (adds-at base history) (placed_writes records) (enumerate_from 0 history) round.by_place in
      let along = along-numbered base [] history in
      omega arith

pub names_rise : NamesRise
names_rise base calls limit records history place round within =
    let told = told-along base calls limit records history round in
    let rises = all-rise base history place within in
    omega arith

-- ---- what a crash leaves

changes-rise : (m : Map) (cs : List Change) → len (after_changes m cs) ≤ len m + sum_by may-add cs
changes-rise m [] = omega arith
changes-rise m (c ∷ cs) =
    let one = one-rises m c in
    let few = adds-few m c in
    let rest = changes-rise (changed m c) cs in
    let sums = sum_by-cons may-add c cs in
    omega arith

fewer : (p : Change → Bool) (cs : List Change) → sum_by may-add (filter p cs) ≤ sum_by may-add cs
fewer p [] = omega arith
fewer p (c ∷ cs) = by (p c) (fewer p cs)
  where
    by : (b : Bool) → sum_by may-add (filter p cs) ≤ sum_by may-add cs → sum_by may-add (cond b (c ∷ filter p cs) (filter p cs)) ≤ sum_by may-add (c ∷ cs)
    by true less = let here = sum_by-cons may-add c (filter p cs) in let there = sum_by-cons may-add c cs in omega arith
    by false less = let there = sum_by-cons may-add c cs in omega arith

whole-length : (ws : List Write) → take (length ws) ws ≡ ws
whole-length [] = refl
whole-length (w ∷ ws) = ap (λ l. w ∷ l) (whole-length ws)

pub crash_names_rise : CrashNamesRise
crash_names_rise base calls limit records history end round ends =
    let told = told-along base calls limit records history round in
    let rises : len (after base history (length history)) ≤ len base + added_along base history = all-rise base history (length history) (omega arith) in
    let whole : len (after base history (length history)) ≡ len (after_all base history) = ap (λ ws. len (after_all base ws)) (whole-length history) in
    let found = changes-rise (after_all base history) (found_in end (changes_cut records)) in
    let same : len end ≡ len (after_changes (after_all base history) (found_in end (changes_cut records))) = ap len ends in
    let few = fewer (is_found end) (changes_cut records) in
    omega arith
