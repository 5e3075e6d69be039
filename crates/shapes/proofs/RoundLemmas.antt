-- Shapes along the records of a round, and from round to round.
use Rattle.std.proofs.Common.{◌≡◌, ℕ, ◌+◌, ◌-◌, ◌≤◌, Bool, true, false, ◌↔◌, is_some, is_none, Option, Some, None, List, [], ◌∷◌, ◌++◌, length, get_or, cond, refl, sym, ap, subst, ◌∙◌, arith, All}
use Rattle.std.proofs.lemmas.List.Elements.{All-from_recursion, recursion_from_All}
use Rattle.std.proofs.lemmas.List.Sums.{fold-append}
use Rattle.std.specs.FinMap.{len, insert, remove, len-insert, len-remove}
use Rattle.std.specs.Cmp.Lexicographic.{nat_list_cmp_total}
use Rattle.std.specs.List.{AllByRecursion}
use Rattle.cat_history.specs.Maps.{Map, at}
use Rattle.cat_history.specs.Writes.{after_all, changed}
use Rattle.cat_history.specs.LoneRounds.{write_of, writes_of, HoldsAlong, IsAnswerNow}
use Rattle.cat_history.specs.Rounds.{is_answered, answered_records}
use Rattle.cat_history.specs.declared.op.Op.{Op}
use Rattle.cat_history.specs.declared.op.Op.TheVariants.{Put, Get, Del, Scan}
use Rattle.cat_history.specs.declared.op.Write.{Write}
use Rattle.cat_history.specs.declared.record.Record.{Record}
use Rattle.cat_history.specs.declared.record.Reply.{Reply}
use Rattle.cat_history.specs.declared.record.Reply.TheVariants.{Old, Parts, Full, Spent, Cut, Unstarted}
use Rattle.cat_history.proofs.LoneRoundLemmas.{writes_of-cons}
use Rattle.shapes.specs.Anchors.{Anchors, IsFullPut}
use Rattle.shapes.specs.Weights.{IsShape, weight, one_if, one_lacking}
use Rattle.shapes.specs.ShapeRounds.{anchors_after, HoldsInShape, anchors_end, PutsFull, IsFullByShape, one_added, puts_added, FullIsPaid, RoundInShape, LoneRoundsKeepShape, IsShapeWithin, LeavesShape, GoesOnFrom, RoundsArePaid}
use Rattle.shapes.proofs.Shapes.{put_keeps_shape, delete_keeps_shape, put_weighs, delete_weighs, full_weighs}
use Rattle.shapes.proofs.NameLists.{all_by}

abbrev pub made : ℕ → ℕ → Op → Reply → Record
made caller index op reply = record { caller = caller; index = index; op = op; reply = reply }

-- What one call makes of shape, weight and names.
pub record OneCall (slots nodes : ℕ) (m : Map) (anchors : Anchors) (r : Record) : Type 0 where
  pub shape : IsShape slots nodes (after_all m (write_of r)) (anchors_after slots m anchors r.op r.reply)
  pub weighs : weight slots (after_all m (write_of r)) (anchors_after slots m anchors r.op r.reply) ≤ weight slots m anchors + one_added r.op r.reply
  pub names : len (after_all m (write_of r)) ≤ len m + one_added r.op r.reply
  pub paid : FullIsPaid slots nodes (weight slots m anchors) (len m) r

pub old-not-full : (old : Option ℕ) (place : ℕ) → Old old place ≡ Full → ⊥
old-not-full old place is = cc

pub put-names : (m : Map) (name : List ℕ) (value : ℕ) → len (insert m name value) ≤ len m + one_lacking m name
put-names m name value =
    elim (at m name) as (λ o. len (insert m name value) ≡ cond (is_some o) (len m) (len m + 1) → len (insert m name value) ≤ len m + one_if (is_none o)) [
      | None ↦ λ is. omega arith
      | Some old ↦ λ is. omega arith
    ] (len-insert nat_list_cmp_total m name value)

pub del-names : (m : Map) (name : List ℕ) → len (remove m name) ≤ len m
del-names m name =
    elim (is_some (at m name)) as (λ b. len (remove m name) ≡ cond b (len m - 1) (len m) → len (remove m name) ≤ len m) [
      | true ↦ λ is. omega arith
      | false ↦ λ is. omega arith
    ] (len-remove nat_list_cmp_total m name)

pub added-is : (m : Map) (name : List ℕ) (value place : ℕ) (old : Option ℕ) → old ≡ at m name → one_lacking m name ≡ one_added (Put name value) (Old old place)
added-is m name value place None is = ap (λ o. one_if (is_none o)) (sym is)
added-is m name value place (Some x) is = ap (λ o. one_if (is_none o)) (sym is)

module _ (slots nodes : ℕ) (m : Map) (anchors : Anchors) (enough : 2 ≤ slots) (shape : IsShape slots nodes m anchors) where
  pub one-call : (caller index : ℕ) (op : Op) (reply : Reply) (place : ℕ) → IsAnswerNow m place op reply → (reply ≡ Full) ↔ PutsFull slots nodes m anchors op → OneCall slots nodes m anchors (made caller index op reply)
  one-call caller index (Put name value) (Old old at_place) place answer exact =
      let room : IsFullPut slots nodes m anchors name → ⊥ = λ full. old-not-full old at_place (exact.1 full) in
      let weighs = put_weighs slots nodes m anchors name value enough shape room in
      let one = added-is m name value at_place old answer.0 in
      let names = put-names m name value in
      record {
        shape = put_keeps_shape slots nodes m anchors name value enough shape room;
        weighs = omega arith;
        names = omega arith;
        paid = λ full. absurd (old-not-full old at_place full);
      }
  one-call caller index (Put name value) Full place answer exact =
      record { shape = shape; weighs = omega arith; names = omega arith; paid = λ full. full_weighs slots nodes m anchors name (exact.0 refl) }
  one-call caller index (Get name) (Old old at_place) place answer exact =
      record { shape = shape; weighs = omega arith; names = omega arith; paid = λ full. absurd (old-not-full old at_place full) }
  one-call caller index (Scan from count) (Old old at_place) place answer exact = absurd answer.0
  one-call caller index (Put name value) (Parts parts cut) place answer exact = absurd answer.1
  one-call caller index (Get name) (Parts parts cut) place answer exact = absurd answer.1
  one-call caller index (Del name) (Parts parts cut) place answer exact = absurd answer.1
  one-call caller index (Scan from count) (Parts parts cut) place answer exact =
      record { shape = shape; weighs = omega arith; names = omega arith; paid = λ full. absurd (let is : Parts parts cut ≡ Full = full in cc) }
  one-call caller index (Get name) Full place answer exact = absurd answer
  one-call caller index (Scan from count) Full place answer exact = absurd answer
  one-call caller index (Put name value) (Spent clock) place answer exact =
      record { shape = shape; weighs = omega arith; names = omega arith; paid = λ full. absurd (let is : Spent clock ≡ Full = full in cc) }
  one-call caller index (Get name) (Spent clock) place answer exact = absurd answer.0
  one-call caller index (Del name) (Spent clock) place answer exact =
      record { shape = shape; weighs = omega arith; names = omega arith; paid = λ full. absurd (let is : Spent clock ≡ Full = full in cc) }
  one-call caller index (Scan from count) (Spent clock) place answer exact = absurd answer.0
  one-call caller index op (Cut mark) place answer exact = absurd answer
  one-call caller index op Unstarted place answer exact = absurd answer
  one-call caller index (Del name) (Old old at_place) place answer exact =
      let weighs = delete_weighs slots m anchors name shape.ordered in
      let names = del-names m name in
      record {
        shape = delete_keeps_shape slots nodes m anchors name shape;
        weighs = omega arith;
        names = omega arith;
        paid = λ full. absurd (old-not-full old at_place full);
      }
  one-call caller index (Del name) Full place answer exact = absurd answer

-- more pays as well
pub more-pays : (slots nodes weighs names weighs' names' : ℕ) → weighs ≤ weighs' → names ≤ names' → (r : Record) → FullIsPaid slots nodes weighs names r → FullIsPaid slots nodes weighs' names' r
more-pays slots nodes weighs names weighs' names' heavier wider r paid full = let is = paid full in (omega (arith, is.0), omega (arith, is.1))

-- What the records come to, by recursion.
record Along (slots nodes : ℕ) (m : Map) (anchors : Anchors) (records : List Record) : Type 0 where
  pub shape : IsShape slots nodes (after_all m (writes_of records)) (anchors_end slots m anchors records)
  pub weighs : weight slots (after_all m (writes_of records)) (anchors_end slots m anchors records) ≤ weight slots m anchors + puts_added records
  pub names : len (after_all m (writes_of records)) ≤ len m + puts_added records
  pub paid : AllByRecursion (FullIsPaid slots nodes (weight slots m anchors + puts_added records) (len m + puts_added records)) records

pub after-cons : (m : Map) (r : Record) (records : List Record) → after_all m (writes_of (r ∷ records)) ≡ after_all (after_all m (write_of r)) (writes_of records)
after-cons m r records = ap (after_all m) (writes_of-cons r records) ∙ fold-append (λ n (w : Write). changed n w.change) m (write_of r) (writes_of records)

-- Each record is what one call makes of shape, weight and names, if the nodes can hold the shape that it finds.
abbrev pub AreCalls : ℕ → ℕ → Map → Anchors → List Record → Type 0
AreCalls slots nodes m anchors records = HoldsInShape slots (λ n shape r. IsShape slots nodes n shape → OneCall slots nodes n shape r) m anchors records

along : (slots nodes : ℕ) (m : Map) (anchors : Anchors) (records : List Record) → IsShape slots nodes m anchors → AreCalls slots nodes m anchors records → Along slots nodes m anchors records
along slots nodes m anchors [] shape calls = record { shape = shape; weighs = omega arith; names = omega arith; paid = tt }
along slots nodes m anchors (r ∷ records) shape calls =
    let one = calls.0 shape in
    let rest = along slots nodes (after_all m (write_of r)) (anchors_after slots m anchors r.op r.reply) records one.shape calls.1 in
    let ends = after-cons m r records in
    let heavy = one.weighs in
    let many = one.names in
    let heavier = rest.weighs in
    let more = rest.names in
    record {
      shape = subst (λ n. IsShape slots nodes n (anchors_end slots m anchors (r ∷ records))) (sym ends) rest.shape;
      weighs = subst (λ n. weight slots n (anchors_end slots m anchors (r ∷ records)) ≤ weight slots m anchors + puts_added (r ∷ records)) (sym ends) (omega arith);
      names = subst (λ n. len n ≤ len m + puts_added (r ∷ records)) (sym ends) (omega arith);
      paid = (
        more-pays slots nodes (weight slots m anchors) (len m) (weight slots m anchors + puts_added (r ∷ records)) (len m + puts_added (r ∷ records)) (omega arith) (omega arith) r one.paid,
        all_by (FullIsPaid slots nodes (weight slots (after_all m (write_of r)) (anchors_after slots m anchors r.op r.reply) + puts_added records) (len (after_all m (write_of r)) + puts_added records))
            (FullIsPaid slots nodes (weight slots m anchors + puts_added (r ∷ records)) (len m + puts_added (r ∷ records)))
            (λ s. more-pays slots nodes (weight slots (after_all m (write_of r)) (anchors_after slots m anchors r.op r.reply) + puts_added records) (len (after_all m (write_of r)) + puts_added records)
            (weight slots m anchors + puts_added (r ∷ records)) (len m + puts_added (r ∷ records)) (omega arith) (omega arith) s) records rest.paid,
      );
    }

pub round_in_shape : (slots nodes : ℕ) (m : Map) (anchors : Anchors) (records : List Record) → IsShape slots nodes m anchors → AreCalls slots nodes m anchors records → RoundInShape slots nodes m anchors records
round_in_shape slots nodes m anchors records shape calls =
    let is = along slots nodes m anchors records shape calls in
    record {
      shape = is.shape;
      weighs = is.weighs;
      names = is.names;
      paid = All-from_recursion (FullIsPaid slots nodes (weight slots m anchors + puts_added records) (len m + puts_added records)) records is.paid;
    }

lone-calls : (slots nodes : ℕ) (m : Map) (anchors : Anchors) (place : ℕ) (records : List Record) → 2 ≤ slots → HoldsAlong (λ m place r. IsAnswerNow m place r.op r.reply) m place records →
    IsFullByShape slots nodes m anchors records → AreCalls slots nodes m anchors records
lone-calls slots nodes m anchors place [] enough answers full = tt
lone-calls slots nodes m anchors place (r ∷ records) enough answers full = (
  λ shape. one-call slots nodes m anchors enough shape r.caller r.index r.op r.reply place answers.0 full.0,
  lone-calls slots nodes (after_all m (write_of r)) (anchors_after slots m anchors r.op r.reply) (place + length (write_of r)) records enough answers.1 full.1,
)

pub lone_rounds_keep_shape : LoneRoundsKeepShape
lone_rounds_keep_shape slots nodes base anchors records enough shape answers full =
    round_in_shape slots nodes base anchors records shape (lone-calls slots nodes base anchors 0 records enough answers full)

-- what holds along records holds along one more of which it holds at their end
pub HoldsInShape-push : (slots : ℕ) (P : Map → Anchors → Record → Type 0) (m : Map) (anchors : Anchors) (records : List Record) (r : Record) → HoldsInShape slots P m anchors records →
    P (after_all m (writes_of records)) (anchors_end slots m anchors records) r → HoldsInShape slots P m anchors (records ++ r ∷ [])
HoldsInShape-push slots P m anchors [] r holds here = (here, tt)
HoldsInShape-push slots P m anchors (q ∷ records) r holds here = (
  holds.0,
  HoldsInShape-push slots P (after_all m (write_of q)) (anchors_after slots m anchors q.op q.reply) records r holds.1
      (subst (λ n. P n (anchors_end slots m anchors (q ∷ records)) r) (after-cons m q records) here),
)

pub anchors_end-push : (slots : ℕ) (m : Map) (anchors : Anchors) (records : List Record) (r : Record) →
    anchors_end slots m anchors (records ++ r ∷ []) ≡ anchors_after slots (after_all m (writes_of records)) (anchors_end slots m anchors records) r.op r.reply
anchors_end-push slots m anchors [] r = refl
anchors_end-push slots m anchors (q ∷ records) r =
    anchors_end-push slots (after_all m (write_of q)) (anchors_after slots m anchors q.op q.reply) records r
    ∙ ap (λ n. anchors_after slots n (anchors_end slots m anchors (q ∷ records)) r.op r.reply) (sym (after-cons m q records))

-- ---- from round to round

-- a round from a shape within bounds leaves one within those that its puts raise, which pay for its full answers
pub goes_within : (slots nodes weighs names : ℕ) (m : Map) (anchors : Anchors) (records : List Record) → IsShapeWithin slots nodes weighs names m anchors → RoundInShape slots nodes m anchors records →
    All (FullIsPaid slots nodes (weighs + puts_added records) (names + puts_added records)) records
    × IsShapeWithin slots nodes (weighs + puts_added records) (names + puts_added records) (after_all m (writes_of records)) (anchors_end slots m anchors records)
goes_within slots nodes weighs names m anchors records within is =
    let heavy = is.weighs in
    let many = is.names in
    let at_most = within.light in
    let at_most' = within.few in (
      λ k r inside.
          more-pays slots nodes (weight slots m anchors + puts_added records) (len m + puts_added records) (weighs + puts_added records) (names + puts_added records) (omega arith) (omega arith) (get_or records k r)
          (is.paid k r inside),
      record { shape = is.shape; light = omega arith; few = omega arith },
    )

-- ---- rounds that stopped

-- the answered records add no more names than all
pub answered-add : (records : List Record) → puts_added (answered_records records) ≤ puts_added records
answered-add [] = omega arith
answered-add (r ∷ records) = by_test (is_answered r.reply) (answered-add records) where
  by_test : (b : Bool) → puts_added (answered_records records) ≤ puts_added records →
      puts_added (cond b (r ∷ answered_records records) (answered_records records)) ≤ one_added r.op r.reply + puts_added records
  by_test true few = omega arith
  by_test false few = omega arith

-- one that wasn't answered isn't full
full-answered : (reply : Reply) → is_answered reply ≡ false → reply ≡ Full → ⊥
full-answered reply unanswered is = let no : true ≡ false = ap is_answered (sym is) ∙ unanswered in cc

-- what pays for the full ones of the answered records pays for those of all
all-paid : (slots nodes weighs names : ℕ) (records : List Record) → AllByRecursion (FullIsPaid slots nodes weighs names) (answered_records records) →
    AllByRecursion (FullIsPaid slots nodes weighs names) records
all-paid slots nodes weighs names [] paid = tt
all-paid slots nodes weighs names (r ∷ records) paid = by_test (is_answered r.reply) refl (all-paid slots nodes weighs names records) paid where
  by_test : (b : Bool) → is_answered r.reply ≡ b →
      (AllByRecursion (FullIsPaid slots nodes weighs names) (answered_records records) → AllByRecursion (FullIsPaid slots nodes weighs names) records) →
      AllByRecursion (FullIsPaid slots nodes weighs names) (cond b (r ∷ answered_records records) (answered_records records)) →
      FullIsPaid slots nodes weighs names r × AllByRecursion (FullIsPaid slots nodes weighs names) records
  by_test true is rest all = (all.0, rest all.1)
  by_test false is rest all = (λ full. absurd (full-answered r.reply is full), rest all)

-- what the answered records of a round pay for and leave within bounds, all its records do
pub stops_within : (slots nodes weighs names : ℕ) (m : Map) (anchors : Anchors) (records : List Record) → IsShapeWithin slots nodes weighs names m anchors →
    RoundInShape slots nodes m anchors (answered_records records) →
    All (FullIsPaid slots nodes (weighs + puts_added records) (names + puts_added records)) records
    × IsShapeWithin slots nodes (weighs + puts_added records) (names + puts_added records) (after_all m (writes_of (answered_records records))) (anchors_end slots m anchors (answered_records records))
stops_within slots nodes weighs names m anchors records within is =
    let answered : List Record = answered_records records in
    let fewer = answered-add records in
    let here = goes_within slots nodes weighs names m anchors answered within is in
    let light = here.1.light in
    let few = here.1.few in (
      All-from_recursion (FullIsPaid slots nodes (weighs + puts_added records) (names + puts_added records)) records
          (all-paid slots nodes (weighs + puts_added records) (names + puts_added records) records
          (recursion_from_All (FullIsPaid slots nodes (weighs + puts_added records) (names + puts_added records)) answered
          (λ k r inside. more-pays slots nodes (weighs + puts_added answered) (names + puts_added answered) (weighs + puts_added records) (names + puts_added records) (omega arith) (omega arith) (get_or answered k r)
          (here.0 k r inside)))),
      record { shape = here.1.shape; light = omega arith; few = omega arith },
    )

-- a round goes on from a shape within its bounds to one within its own, and pays for its full answers
one-round : (slots nodes weighs names : ℕ) (m : Map) (anchors : Anchors) (lone joined : Bool) (records : List Record) (end : Map) (next : Anchors) → 2 ≤ slots → IsShapeWithin slots nodes weighs names m anchors →
    GoesOnFrom slots nodes (weighs + puts_added records) (names + puts_added records) m anchors (record { lone = lone; joined = joined; records = records; end = end }) next →
    All (FullIsPaid slots nodes (weighs + puts_added records) (names + puts_added records)) records
    × IsShapeWithin slots nodes (weighs + puts_added records) (names + puts_added records) end next
one-round slots nodes weighs names m anchors true joined records end next enough within goes =
    let is = stops_within slots nodes weighs names m anchors records within (lone_rounds_keep_shape slots nodes m anchors (answered_records records) enough within.shape goes.0.0 goes.0.1) in
    (is.0, by-end joined is.1 goes.1)
  where
    by-end : (joined : Bool) →
        IsShapeWithin slots nodes (weighs + puts_added records) (names + puts_added records) (after_all m (writes_of (answered_records records))) (anchors_end slots m anchors (answered_records records)) →
        LeavesShape slots nodes (weighs + puts_added records) (names + puts_added records) m anchors (record { lone = true; joined = joined; records = records; end = end }) next →
        IsShapeWithin slots nodes (weighs + puts_added records) (names + puts_added records) end next
    by-end true here leaves =
        subst (IsShapeWithin slots nodes (weighs + puts_added records) (names + puts_added records) end) (sym leaves.1)
        (subst (λ n. IsShapeWithin slots nodes (weighs + puts_added records) (names + puts_added records) n (anchors_end slots m anchors (answered_records records))) (sym leaves.0) here)
    by-end false here leaves = leaves
one-round slots nodes weighs names m anchors false joined records end next enough within goes = goes

pub rounds_are_paid : RoundsArePaid
rounds_are_paid slots nodes weighs names m anchors [] enough within go = tt
rounds_are_paid slots nodes weighs names m anchors (round ∷ rounds) enough within go =
    let one = one-round slots nodes weighs names m anchors round.lone round.joined round.records round.end go.0 enough within go.1 in
    (one.0, rounds_are_paid slots nodes (weighs + puts_added round.records) (names + puts_added round.records) round.end go.0 rounds enough one.1 go.2)
