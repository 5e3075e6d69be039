-- A round whose calls are answered at once is legal; and how such a round goes on by one call.
use Rattle.std.proofs.Common.{◌≡◌, ℕ, zero, suc, eq-eqb, zero-add, ⊎_elim, Bool, ◌-◌, ◌↔◌, ◌+◌, ◌<◌, ◌≤◌, List, [], ◌∷◌, ◌++◌, length, get_or, take, map, refl, sym, ap, subst, ◌∙◌, arith, append_assoc, append-nil, length-append, add-zero}
use Rattle.std.proofs.lemmas.Bool.{cases_lt}
use Rattle.std.proofs.lemmas.List.{map-append, get_or-map, length-map}
use Rattle.std.proofs.lemmas.List.Sums.{fold-append, sum_by-cons}
use Rattle.std.proofs.lemmas.List.Elements.{filter_map-append, All-from_recursion, recursion_from_All}
use Rattle.std.proofs.lemmas.List.Sorted.{IsPermutation-refl}
use Rattle.std.proofs.Math.Seq.{take-append_seam}
use Rattle.std.specs.Prelude.{Option, Some, None, IfSome, All, count_by, ◌==◌, cond}
use Rattle.std.specs.List.{enumerate_from, AllByRecursion, cons_option}
use Rattle.std.specs.Option.{option_to_list}
use Rattle.std.specs.List.Sorted.{IsPermutation}
use Rattle.cat_history.specs.Maps.{Map}
use Rattle.cat_history.specs.Writes.{after, after_all, changed}
use Rattle.cat_history.specs.Callers.{callers_among, PlacesKeepLimit}
use Rattle.cat_history.specs.Scans.{IsPart, AreParts, range}
use Rattle.cat_history.specs.Scans.AreParts.{cut_off, ends, goes_on}
use Rattle.cat_history.proofs.CallerLemmas.{different-are-few}
use Rattle.cat_history.specs.Records.{Call, call_of, numbered, numbered_after, placed_write, placed_writes, Interval, interval, last_place}
use Rattle.cat_history.specs.Rounds.{IsPut, IsWriter, IsOld, AreItsParts, IsAnswer, IsAnswered, IsItsMark, KeepsCallersOrder, IsLegalRound}
use Rattle.cat_history.specs.CrashRounds.{IsMarkNow}
use Rattle.cat_history.specs.LoneRounds.{write_of, writes_of, HoldsAlong, IsAnswerNow, IsSpent, LoneRoundsAreLegal}
use Rattle.cat_history.specs.declared.op.CallerOp.{CallerOp}
use Rattle.cat_history.specs.declared.op.Op.{Op}
use Rattle.cat_history.specs.declared.op.Op.TheVariants.{Put, Get, Del, Scan}
use Rattle.cat_history.specs.declared.op.Change.TheVariants as change
use Rattle.cat_history.specs.declared.op.Write.{Write}
use Rattle.cat_history.specs.declared.record.CutMark.TheVariants.{At, Open, Found, Lost, Read}
use Rattle.cat_history.specs.declared.record.Record.{Record}
use Rattle.cat_history.specs.declared.record.Reply.{Reply}
use Rattle.cat_history.specs.declared.record.Reply.TheVariants.{Old, Parts, Full, Spent, Cut, Unstarted}
use Rattle.cat_history.specs.declared.record.ScanPart.{ScanPart}

-- the writes of records in two parts
pub writes_of-append : (rs ss : List Record) → writes_of (rs ++ ss) ≡ writes_of rs ++ writes_of ss
writes_of-append rs ss = ap (map (λ (w : ℕ × Write). w.1)) (filter_map-append placed_write rs ss) ∙ map-append (λ (w : ℕ × Write). w.1) (placed_writes rs) (placed_writes ss)

writes_of-one : (r : Record) → writes_of (r ∷ []) ≡ write_of r
writes_of-one r = by_write (placed_write r) where
  by_write : (w : Option (ℕ × Write)) → map (λ (w : ℕ × Write). w.1) (cons_option w []) ≡ map (λ (w : ℕ × Write). w.1) (option_to_list w)
  by_write None = refl
  by_write (Some w) = refl

-- the writes of a record, and of those behind it
pub writes_of-cons : (r : Record) (rs : List Record) → writes_of (r ∷ rs) ≡ write_of r ++ writes_of rs
writes_of-cons r rs = writes_of-append (r ∷ []) rs ∙ ap (λ ws. ws ++ writes_of rs) (writes_of-one r)

-- what holds along records holds along one more of which it holds at their end
pub HoldsAlong-push : (P : Map → ℕ → Record → Type 0) (m : Map) (place : ℕ) (rs : List Record) (r : Record) → HoldsAlong P m place rs →
    P (after_all m (writes_of rs)) (place + length (writes_of rs)) r → HoldsAlong P m place (rs ++ r ∷ [])
HoldsAlong-push P m place [] r along here = (subst (λ n. P m n r) (add-zero place) here, tt)
HoldsAlong-push P m place (q ∷ rs) r along here =
    let split : writes_of (q ∷ rs) ≡ write_of q ++ writes_of rs = writes_of-cons q rs in
    let map_is : after_all m (writes_of (q ∷ rs)) ≡ after_all (after_all m (write_of q)) (writes_of rs) =
    ap (after_all m) split ∙ fold-append (λ n (w : Write). changed n w.change) m (write_of q) (writes_of rs) in
    let place_is : place + length (writes_of (q ∷ rs)) ≡ (place + length (write_of q)) + length (writes_of rs) =
    ap (λ ws. place + length ws) split ∙ omega (arith, length-append (write_of q) (writes_of rs)) in
    let moved : P (after_all (after_all m (write_of q)) (writes_of rs)) ((place + length (write_of q)) + length (writes_of rs)) r =
    subst (λ n. P (after_all (after_all m (write_of q)) (writes_of rs)) n r) place_is (subst (λ n. P n (place + length (writes_of (q ∷ rs))) r) map_is here) in
    (along.0, HoldsAlong-push P (after_all m (write_of q)) (place + length (write_of q)) rs r along.1 moved)

abbrev pub Now : Map → ℕ → Record → Type 0
Now m place r = IsAnswerNow m place r.op r.reply

-- spent exactly by the limit
abbrev pub SpentBy : ℕ → Map → ℕ → Record → Type 0
SpentBy limit m place r = IsSpent r.reply ↔ (IsWriter r.op × (limit ≤ place))

-- What is so of a record as the history is so long, whether its call was answered, cut off or not begun.
abbrev pub StandsNow : ℕ → Map → ℕ → Op → Reply → Type 0
StandsNow limit m place op (Old old at_place) = IsOld m op old × (at_place ≡ place) × (IsWriter op → place < limit)
StandsNow limit m place op (Parts parts cut) = AreItsParts (λ _. m) op cut parts × All (λ (part : ScanPart). part.place ≡ place) parts
StandsNow limit m place op Full = IsPut op
StandsNow limit m place op (Spent clock) = IsWriter op × (clock ≡ place) × (limit ≤ place)
StandsNow limit m place op (Cut mark) = IsItsMark op mark × IsMarkNow place mark × (IsWriter op → place < limit)
StandsNow limit m place op Unstarted = Unit {0}

abbrev pub Stands : ℕ → Map → ℕ → Record → Type 0
Stands limit m place r = StandsNow limit m place r.op r.reply

below-limit : (place limit : ℕ) → ((limit ≤ place) → ⊥) → place < limit
below-limit place limit never = ⊎_elim (λ (less : place < limit). less) (λ (late : limit ≤ place). absurd (never late)) (cases_lt place limit)

pub answered-stands : (limit : ℕ) (m : Map) (place : ℕ) (op : Op) (reply : Reply) → IsAnswerNow m place op reply → IsSpent reply ↔ (IsWriter op × (limit ≤ place)) → StandsNow limit m place op reply
answered-stands limit m place op (Old old at_place) now spent = (now.0, now.1, (λ writes. below-limit place limit (λ late. spent.1 (writes, late))))
answered-stands limit m place op (Parts parts cut) now spent = (now.1, now.2)
answered-stands limit m place op Full now spent = now
answered-stands limit m place op (Spent clock) now spent = (now.0, now.1, (spent.0 tt).1)
answered-stands limit m place op (Cut mark) now spent = absurd now
answered-stands limit m place op Unstarted now spent = tt

-- calls that were answered at once, and spent exactly by the limit
answered-stand : (limit : ℕ) (m : Map) (place : ℕ) (rs : List Record) → HoldsAlong Now m place rs → HoldsAlong (SpentBy limit) m place rs → HoldsAlong (Stands limit) m place rs
answered-stand limit m place [] along spent = tt
answered-stand limit m place (r ∷ rs) along spent =
    (answered-stands limit m place r.op r.reply along.0 spent.0, answered-stand limit (after_all m (write_of r)) (place + length (write_of r)) rs along.1 spent.1)

-- a record of these parts
abbrev made : ℕ → ℕ → Op → Reply → Record
made caller index op reply = record { caller = caller; index = index; op = op; reply = reply }

-- one record more in front, by what it is
placed-made : (limit caller index : ℕ) (op : Op) (reply : Reply) (m : Map) (place : ℕ) (rs : List Record) → StandsNow limit m place op reply →
    placed_writes rs ≡ enumerate_from (place + length (write_of (made caller index op reply))) (writes_of rs) →
    placed_writes (made caller index op reply ∷ rs) ≡ enumerate_from place (writes_of (made caller index op reply ∷ rs))
placed-made limit caller index (Put name value) (Old old at_place) m place rs now more = λ i. (now.1 i, record { caller = caller; index = index; change = change.Put name value }) ∷ more i
placed-made limit caller index (Del name) (Old old at_place) m place rs now more = λ i. (now.1 i, record { caller = caller; index = index; change = change.Del name }) ∷ more i
placed-made limit caller index (Get name) (Old old at_place) m place rs now more = more ∙ ap (λ n. enumerate_from n (writes_of rs)) (add-zero place)
placed-made limit caller index (Scan from count) (Old old at_place) m place rs now more = absurd now.0
placed-made limit caller index op (Parts parts cut) m place rs now more = more ∙ ap (λ n. enumerate_from n (writes_of rs)) (add-zero place)
placed-made limit caller index op Full m place rs now more = more ∙ ap (λ n. enumerate_from n (writes_of rs)) (add-zero place)
placed-made limit caller index op (Spent clock) m place rs now more = more ∙ ap (λ n. enumerate_from n (writes_of rs)) (add-zero place)
placed-made limit caller index (Put name value) (Cut (At at_place)) m place rs now more = λ i. (now.1 i, record { caller = caller; index = index; change = change.Put name value }) ∷ more i
placed-made limit caller index (Del name) (Cut (At at_place)) m place rs now more = λ i. (now.1 i, record { caller = caller; index = index; change = change.Del name }) ∷ more i
placed-made limit caller index (Get name) (Cut (At at_place)) m place rs now more = absurd (let no : At at_place ≡ Read = now.0 in cc)
placed-made limit caller index (Scan from count) (Cut (At at_place)) m place rs now more = absurd now.0
placed-made limit caller index op (Cut Open) m place rs now more = more ∙ ap (λ n. enumerate_from n (writes_of rs)) (add-zero place)
placed-made limit caller index op (Cut Found) m place rs now more = absurd now.1
placed-made limit caller index op (Cut Lost) m place rs now more = absurd now.1
placed-made limit caller index op (Cut Read) m place rs now more = more ∙ ap (λ n. enumerate_from n (writes_of rs)) (add-zero place)
placed-made limit caller index op Unstarted m place rs now more = more ∙ ap (λ n. enumerate_from n (writes_of rs)) (add-zero place)

placed-along : (limit : ℕ) (m : Map) (place : ℕ) (rs : List Record) → HoldsAlong (Stands limit) m place rs → placed_writes rs ≡ enumerate_from place (writes_of rs)
placed-along limit m place [] along = refl
placed-along limit m place (r ∷ rs) along =
    placed-made limit r.caller r.index r.op r.reply m place rs along.0 (placed-along limit (after_all m (write_of r)) (place + length (write_of r)) rs along.1)

-- parts that all list one map at one place are those of a scan, wherever that map stands at that place
part-at : (m : Map) (map_at : ℕ → Map) (here left place : ℕ) (low : List ℕ) (part : ScanPart) → map_at here ≡ m → part.place ≡ here →
    IsPart (λ _. m) low left place part → IsPart map_at low left place part
part-at m map_at here left place low part same there is = record {
  begins = is.begins;
  bounds = is.bounds;
  later = is.later;
  lists = is.lists ∙ ap (λ n. take left (range n part.low part.high)) (sym same ∙ ap map_at (sym there));
}

parts-at : (m : Map) (map_at : ℕ → Map) (here left place : ℕ) (low : List ℕ) (cut : Bool) (parts : List ScanPart) → map_at here ≡ m →
    AllByRecursion (λ (part : ScanPart). part.place ≡ here) parts → AreParts (λ _. m) low left place cut parts → AreParts map_at low left place cut parts
parts-at m map_at here left place low cut parts same all cut_off = cut_off
parts-at m map_at here left place low cut parts same all (ends {part = part} is last) = ends (part-at m map_at here left place low part same all.0 is) last
parts-at m map_at here left place low cut parts same all (goes_on {part = part} {parts = more} high is less bound later) =
    goes_on high (part-at m map_at here left place low part same all.0 is) less bound
    (parts-at m map_at here (left - length part.pairs) part.place high cut more same all.1 later)

last-at : (here place : ℕ) (parts : List ScanPart) → place ≡ here → AllByRecursion (λ (part : ScanPart). part.place ≡ here) parts → last_place place parts ≡ here
last-at here place [] is all = is
last-at here place (part ∷ parts) is all = last-at here part.place parts all.0 all.1

each-at : (here : ℕ) (parts : List ScanPart) → All (λ (part : ScanPart). part.place ≡ here) parts → AllByRecursion (λ (part : ScanPart). part.place ≡ here) parts
each-at here parts all = recursion_from_All (λ (part : ScanPart). part.place ≡ here) parts all

-- what stands now is an answer of the map at that place, whatever is written later
answer-now : (base : Map) (before later : List Write) (limit : ℕ) (op : Op) (reply : Reply) → StandsNow limit (after_all base before) (length before) op reply →
    IsAnswer base (before ++ later) limit op reply
answer-now base before later limit op reply now = by_parts op reply now where
  then : (p : ℕ) → p ≡ length before → after_all base before ≡ after base (before ++ later) p
  then p is = ap (after_all base) (sym (ap (λ n. take n (before ++ later)) is ∙ take-append_seam before later))

  of_map : (o : Op) (old : Option ℕ) (p : ℕ) → p ≡ length before → IsOld (after_all base before) o old → IsOld (after base (before ++ later) p) o old
  of_map o old p is = subst (λ m. IsOld m o old) (then p is)

  of_parts : (o : Op) (cut : Bool) (parts : List ScanPart) → All (λ (part : ScanPart). part.place ≡ length before) parts → AreItsParts (λ _. after_all base before) o cut parts →
      AreItsParts (after base (before ++ later)) o cut parts
  of_parts (Put name value) cut parts all is = is
  of_parts (Get name) cut parts all is = is
  of_parts (Del name) cut parts all is = is
  of_parts (Scan from count) cut parts all is =
      parts-at (after_all base before) (after base (before ++ later)) (length before) count 0 from cut parts (sym (then (length before) refl)) (each-at (length before) parts all) is

  by_parts : (o : Op) (r : Reply) → StandsNow limit (after_all base before) (length before) o r → IsAnswer base (before ++ later) limit o r
  by_parts o (Old old at_place) now = of_map o old at_place now.1 now.0
  by_parts o (Parts parts cut) now = of_parts o cut parts now.1 now.0
  by_parts o Full now = now
  by_parts o (Spent clock) now = (now.0, omega (arith, now.1, now.2))
  by_parts o (Cut mark) now = now.0
  by_parts o Unstarted now = tt

answers-along : (base : Map) (limit : ℕ) (before : List Write) (rs : List Record) → HoldsAlong (Stands limit) (after_all base before) (length before) rs →
    AllByRecursion (λ r. IsAnswer base (before ++ writes_of rs) limit r.op r.reply) rs
answers-along base limit before [] along = tt
answers-along base limit before (r ∷ rs) along =
    let split : before ++ writes_of (r ∷ rs) ≡ (before ++ write_of r) ++ writes_of rs = ap (λ ws. before ++ ws) (writes_of-cons r rs) ∙ sym (append_assoc before (write_of r) (writes_of rs)) in
    let map_is : after_all (after_all base before) (write_of r) ≡ after_all base (before ++ write_of r) = sym (fold-append (λ n (w : Write). changed n w.change) base before (write_of r)) in
    let place_is : length before + length (write_of r) ≡ length (before ++ write_of r) = sym (length-append before (write_of r)) in
    let moved : HoldsAlong (Stands limit) (after_all base (before ++ write_of r)) (length (before ++ write_of r)) rs =
    subst (λ n. HoldsAlong (Stands limit) (after_all base (before ++ write_of r)) n rs) place_is (subst (λ n. HoldsAlong (Stands limit) n (length before + length (write_of r)) rs) map_is along.1) in (
      answer-now base before (writes_of (r ∷ rs)) limit r.op r.reply along.0,
      subst (λ ws. AllByRecursion (λ (q : Record). IsAnswer base ws limit q.op q.reply) rs) (sym split)
          (answers-along base limit (before ++ write_of r) rs moved),
    )

-- it takes effect between the writes before it and those that it leaves
spans-now : (limit caller index : ℕ) (op : Op) (reply : Reply) (m : Map) (place : ℕ) → StandsNow limit m place op reply →
    IfSome (interval (made caller index op reply)) (λ i. (place ≤ i.start) × (i.end ≤ place + length (write_of (made caller index op reply))))
spans-now limit caller index (Put name value) (Old old at_place) m place now = (omega (arith, now.1), omega (arith, now.1))
spans-now limit caller index (Get name) (Old old at_place) m place now = (omega (arith, now.1), omega (arith, now.1))
spans-now limit caller index (Del name) (Old old at_place) m place now = (omega (arith, now.1), omega (arith, now.1))
spans-now limit caller index (Scan from count) (Old old at_place) m place now = absurd now.0
spans-now limit caller index op (Parts [] cut) m place now = tt
spans-now limit caller index op (Parts (part ∷ parts) cut) m place now =
    let all = each-at place (part ∷ parts) now.1 in (omega (arith, all.0), omega (arith, last-at place part.place parts all.0 all.1))
spans-now limit caller index op Full m place now = tt
spans-now limit caller index op (Spent clock) m place now = (omega (arith, now.1), omega (arith, now.1))
spans-now limit caller index (Put name value) (Cut (At at_place)) m place now = (omega (arith, now.1), omega (arith, now.1))
spans-now limit caller index (Del name) (Cut (At at_place)) m place now = (omega (arith, now.1), omega (arith, now.1))
spans-now limit caller index (Get name) (Cut (At at_place)) m place now = absurd (let no : At at_place ≡ Read = now.0 in cc)
spans-now limit caller index (Scan from count) (Cut (At at_place)) m place now = absurd now.0
spans-now limit caller index op (Cut Open) m place now = tt
spans-now limit caller index op (Cut Found) m place now = absurd now.1
spans-now limit caller index op (Cut Lost) m place now = absurd now.1
spans-now limit caller index op (Cut Read) m place now = tt
spans-now limit caller index op Unstarted m place now = tt

-- one that writes does so below the limit
early-now : (caller index limit : ℕ) (op : Op) (reply : Reply) (m : Map) (place : ℕ) → StandsNow limit m place op reply → place ≤ limit →
    place + length (write_of (made caller index op reply)) ≤ limit
early-now caller index limit (Put name value) (Old old at_place) m place now early = let below = now.2 tt in omega arith
early-now caller index limit (Get name) (Old old at_place) m place now early = omega arith
early-now caller index limit (Del name) (Old old at_place) m place now early = let below = now.2 tt in omega arith
early-now caller index limit (Scan from count) (Old old at_place) m place now early = omega arith
early-now caller index limit op (Parts parts cut) m place now early = omega arith
early-now caller index limit op Full m place now early = omega arith
early-now caller index limit op (Spent clock) m place now early = omega arith
early-now caller index limit (Put name value) (Cut (At at_place)) m place now early = let below = now.2 tt in omega arith
early-now caller index limit (Del name) (Cut (At at_place)) m place now early = let below = now.2 tt in omega arith
early-now caller index limit (Get name) (Cut (At at_place)) m place now early = omega arith
early-now caller index limit (Scan from count) (Cut (At at_place)) m place now early = omega arith
early-now caller index limit op (Cut Open) m place now early = omega arith
early-now caller index limit op (Cut Found) m place now early = omega arith
early-now caller index limit op (Cut Lost) m place now early = omega arith
early-now caller index limit op (Cut Read) m place now early = omega arith
early-now caller index limit op Unstarted m place now early = omega arith

weaker : (o : Option Interval) (P Q : Interval → Type 0) → ((i : Interval) → P i → Q i) → IfSome o P → IfSome o Q
weaker None P Q to h = tt
weaker (Some i) P Q to h = to i h

each-weaker : (P Q : Record → Type 0) → ((r : Record) → P r → Q r) → (rs : List Record) → AllByRecursion P rs → AllByRecursion Q rs
each-weaker P Q to [] all = tt
each-weaker P Q to (r ∷ rs) all = (to r all.0, each-weaker P Q to rs all.1)

-- the call takes effect between these places
abbrev Spans : ℕ → ℕ → Record → Type 0
Spans low high r = IfSome (interval r) (λ i. (low ≤ i.start) × (i.end ≤ high))

spans-wider : (low high low' high' : ℕ) → low' ≤ low → high ≤ high' → (r : Record) → Spans low high r → Spans low' high' r
spans-wider low high low' high' below above r =
    weaker (interval r) (λ i. (low ≤ i.start) × (i.end ≤ high)) (λ i. (low' ≤ i.start) × (i.end ≤ high')) (λ i h. (omega (arith, h.0), omega (arith, h.1)))

spans-along : (limit : ℕ) (m : Map) (place : ℕ) (rs : List Record) → HoldsAlong (Stands limit) m place rs → AllByRecursion (Spans place (place + length (writes_of rs))) rs
spans-along limit m place [] along = tt
spans-along limit m place (r ∷ rs) along =
    let here : ℕ = place + length (write_of r) in
    let total : place + length (writes_of (r ∷ rs)) ≡ here + length (writes_of rs) = ap (λ ws. place + length ws) (writes_of-cons r rs) ∙ omega (arith, length-append (write_of r) (writes_of rs)) in (
      spans-wider place here place (place + length (writes_of (r ∷ rs))) (omega arith) (omega (arith, total)) r (spans-now limit r.caller r.index r.op r.reply m place along.0),
      each-weaker (Spans here (here + length (writes_of rs))) (Spans place (place + length (writes_of (r ∷ rs))))
          (spans-wider here (here + length (writes_of rs)) place (place + length (writes_of (r ∷ rs))) (omega arith) (omega (arith, total))) rs
          (spans-along limit (after_all m (write_of r)) here rs along.1),
    )

-- the first call ends before the second starts
abbrev Precedes : Record → Record → Type 0
Precedes r s = IfSome (interval r) (λ first. IfSome (interval s) (λ second. first.end ≤ second.start))

precedes-spans : (low place high : ℕ) (r s : Record) → Spans low place r → Spans place high s → Precedes r s
precedes-spans low place high r s before behind = by_intervals (interval r) (interval s) before behind where
  by_intervals : (o q : Option Interval) → IfSome o (λ i. (low ≤ i.start) × (i.end ≤ place)) → IfSome q (λ i. (place ≤ i.start) × (i.end ≤ high)) →
      IfSome o (λ first. IfSome q (λ second. first.end ≤ second.start))
  by_intervals None q h k = tt
  by_intervals (Some i) None h k = tt
  by_intervals (Some i) (Some j) h k = omega (arith, h.1, k.0)

precedes-along : (limit : ℕ) (m : Map) (place : ℕ) (rs : List Record) → HoldsAlong (Stands limit) m place rs → (j k : ℕ) → j < k → k < length rs → (d e : Record) →
    Precedes (get_or rs j d) (get_or rs k e)
precedes-along limit m place [] along j k less within d e = absurd (omega (arith, within))
precedes-along limit m place (r ∷ rs) along zero zero less within d e = absurd (omega (arith, less))
precedes-along limit m place (r ∷ rs) along zero (suc k) less within d e =
    let here : ℕ = place + length (write_of r) in
    let fits : k < length rs = omega (arith, within) in
    precedes-spans place here (here + length (writes_of rs)) r (get_or rs k e) (spans-now limit r.caller r.index r.op r.reply m place along.0)
    (All-from_recursion (Spans here (here + length (writes_of rs))) rs (spans-along limit (after_all m (write_of r)) here rs along.1) k e fits)
precedes-along limit m place (r ∷ rs) along (suc j) zero less within d e = absurd (omega (arith, less))
precedes-along limit m place (r ∷ rs) along (suc j) (suc k) less within d e =
    precedes-along limit (after_all m (write_of r)) (place + length (write_of r)) rs along.1 j k (omega (arith, less)) (omega (arith, within)) d e

counts-all : (caller : ℕ) (before : List ℕ) → AllByRecursion (λ b. b ≡ caller) before → count_by (λ b. b == caller) before ≡ length before
counts-all caller [] all = refl
counts-all caller (b ∷ before) all =
    sum_by-cons (λ c. cond (c == caller) 1 0) b before ∙ ap (λ t. cond t 1 0 + count_by (λ c. c == caller) before) (eq-eqb b caller all.0)
    ∙ omega (arith, counts-all caller before all.1)

each-push : (P : ℕ → Type 0) (xs : List ℕ) (x : ℕ) → AllByRecursion P xs → P x → AllByRecursion P (xs ++ x ∷ [])
each-push P [] x all here = (here, tt)
each-push P (y ∷ xs) x all here = (all.0, each-push P xs x all.1 here)

-- where one caller has all calls, a call's index is its place among them
numbered-index : (caller : ℕ) (before : List ℕ) (asked : List CallerOp) → AllByRecursion (λ b. b ≡ caller) before → AllByRecursion (λ (a : CallerOp). a.caller ≡ caller) asked →
    (k : ℕ) → k < length asked → (d : Call) → (get_or (numbered_after before asked) k d).index ≡ length before + k
numbered-index caller before [] earlier one k within d = absurd (omega (arith, within))
numbered-index caller before (a ∷ asked) earlier one zero within d =
    subst (λ (c : ℕ). count_by (λ b. b == c) before ≡ length before + 0) (sym one.0) (counts-all caller before earlier ∙ sym (add-zero (length before)))
numbered-index caller before (a ∷ asked) earlier one (suc k) within d =
    numbered-index caller (before ++ a.caller ∷ []) asked (each-push (λ b. b ≡ caller) before a.caller earlier one.0) one.1 k (omega (arith, within)) d
    ∙ omega (arith, length-append before (a.caller ∷ []))

pub length-numbered : (before : List ℕ) (asked : List CallerOp) → length (numbered_after before asked) ≡ length asked
length-numbered before [] = refl
length-numbered before (a ∷ asked) = ap suc (length-numbered (before ++ a.caller ∷ []) asked)

-- where one caller has all calls, a record's index is its place among the records
pub index-along : (caller : ℕ) (asked : List CallerOp) (records : List Record) → All (λ (a : CallerOp). a.caller ≡ caller) asked → map call_of records ≡ numbered asked →
    (k : ℕ) → k < length records → (d : Record) → (get_or records k d).index ≡ k
index-along caller asked records one is k within d =
    let sizes : length records ≡ length asked = sym (length-map records call_of) ∙ ap length is ∙ length-numbered [] asked in
    let at_k : call_of (get_or records k d) ≡ get_or (numbered asked) k (call_of d) = sym (get_or-map call_of records k d (call_of d) within) ∙ ap (λ cs. get_or cs k (call_of d)) is in
    ap (λ (c : Call). c.index) at_k
    ∙ numbered-index caller [] asked tt (recursion_from_All (λ (a : CallerOp). a.caller ≡ caller) asked one) k (omega (arith, within, sizes)) (call_of d) ∙ zero-add k

in-order : (limit caller : ℕ) (asked : List CallerOp) (base : Map) (records : List Record) → All (λ (a : CallerOp). a.caller ≡ caller) asked → map call_of records ≡ numbered asked →
    HoldsAlong (Stands limit) base 0 records → KeepsCallersOrder records
in-order limit caller asked base records one is along r s has_r has_s same less =
    let first : r.index ≡ has_r.0 = ap (λ (q : Record). q.index) (sym has_r.2) ∙ index-along caller asked records one is has_r.0 has_r.1 r in
    let second : s.index ≡ has_s.0 = ap (λ (q : Record). q.index) (sym has_s.2) ∙ index-along caller asked records one is has_s.0 has_s.1 s in
    subst (λ (q : Record). Precedes r q) has_s.2
    (subst (λ (q : Record). Precedes q (get_or records has_s.0 s)) has_r.2
    (precedes-along limit base 0 records along has_r.0 has_s.0 (omega (arith, first, second, less)) has_s.1 r s))

early-along : (limit : ℕ) (m : Map) (place : ℕ) (rs : List Record) → HoldsAlong (Stands limit) m place rs → place ≤ limit → place + length (writes_of rs) ≤ limit
early-along limit m place [] along early = omega arith
early-along limit m place (r ∷ rs) along early =
    let here : place + length (write_of r) ≤ limit = early-now r.caller r.index limit r.op r.reply m place along.0 early in
    let behind = early-along limit (after_all m (write_of r)) (place + length (write_of r)) rs along.1 here in
    let split : length (writes_of (r ∷ rs)) ≡ length (write_of r) + length (writes_of rs) = ap length (writes_of-cons r rs) ∙ length-append (write_of r) (writes_of rs) in
    omega arith

-- one caller stands in a list with an element
some-caller : (calls : List Call) → 0 < length calls → 1 ≤ callers_among (map (λ c. c.caller) calls)
some-caller [] some = absurd (omega arith)
some-caller (c ∷ calls) some =
    different-are-few (c.caller ∷ []) (map (λ d. d.caller) (c ∷ calls)) (λ i j x less inside. absurd (omega arith))
    (λ x has. (0, omega arith, only x has.0 has.1 has.2))
  where
    only : (x k : ℕ) → k < 1 → get_or (c.caller ∷ []) k x ≡ x → c.caller ≡ x
    only x zero within is = is
    only x (suc k) within is = absurd (omega arith)

few-writes : (rs : List Record) → length (writes_of rs) ≤ length rs
few-writes [] = omega arith
few-writes (r ∷ rs) =
    let behind = few-writes rs in
    let split : length (writes_of (r ∷ rs)) ≡ length (write_of r) + length (writes_of rs) = ap length (writes_of-cons r rs) ∙ length-append (write_of r) (writes_of rs) in
    let one : length (write_of r) ≤ 1 = at_most (placed_write r) in
    omega arith
  where
    at_most : (w : Option (ℕ × Write)) → length (map (λ (w : ℕ × Write). w.1) (option_to_list w)) ≤ 1
    at_most None = omega arith
    at_most (Some w) = omega arith

in-time : (base : Map) (limit : ℕ) (asked : List CallerOp) (records : List Record) → map call_of records ≡ numbered asked → HoldsAlong (Stands limit) base 0 records →
    PlacesKeepLimit limit (map (λ c. c.caller) (numbered asked)) (writes_of records)
in-time base limit asked records is along place within =
    let early : 0 + length (writes_of records) ≤ limit = early-along limit base 0 records along (omega arith) in
    let few : length (writes_of records) ≤ length records = few-writes records in
    let sizes : length (numbered asked) ≡ length records = ap length (sym is) ∙ length-map records call_of in
    let one : 1 ≤ callers_among (map (λ c. c.caller) (numbered asked)) = some-caller (numbered asked) (omega arith) in
    omega arith

answered-now : (op : Op) (reply : Reply) (m : Map) (place : ℕ) → IsAnswerNow m place op reply → IsAnswered reply
answered-now op (Old old at_place) m place now = tt
answered-now op (Parts parts cut) m place now = now.0
answered-now op Full m place now = tt
answered-now op (Spent clock) m place now = tt
answered-now op (Cut mark) m place now = absurd now
answered-now op Unstarted m place now = absurd now

pub answered-along : (m : Map) (place : ℕ) (rs : List Record) → HoldsAlong (λ (n : Map) (k : ℕ) (r : Record). IsAnswerNow n k r.op r.reply) m place rs → AllByRecursion (λ (r : Record). IsAnswered r.reply) rs
answered-along m place [] along = tt
answered-along m place (r ∷ rs) along = (answered-now r.op r.reply m place along.0, answered-along (after_all m (write_of r)) (place + length (write_of r)) rs along.1)

-- records of one caller that stand so are a legal round
pub standing_are_legal : (base : Map) (caller : ℕ) (asked : List CallerOp) (limit : ℕ) (records : List Record) → All (λ (a : CallerOp). a.caller ≡ caller) asked → map call_of records ≡ numbered asked →
    HoldsAlong (Stands limit) base 0 records → IsLegalRound base (numbered asked) limit records (writes_of records)
standing_are_legal base caller asked limit records one is along = record {
  each_call = subst (λ (calls : List Call). IsPermutation (numbered asked) calls) (sym is) (IsPermutation-refl (numbered asked));
  by_place = subst (λ (ws : List (ℕ × Write)). IsPermutation (placed_writes records) ws) (placed-along limit base 0 records along) (IsPermutation-refl (placed_writes records));
  answers = All-from_recursion (λ r. IsAnswer base (writes_of records) limit r.op r.reply) records (answers-along base limit [] records along);
  within = All-from_recursion (λ r. IfSome (interval r) (λ i. i.end ≤ length (writes_of records))) records
      (each-weaker (Spans 0 (0 + length (writes_of records))) (λ r. IfSome (interval r) (λ i. i.end ≤ length (writes_of records)))
      (λ r. weaker (interval r) (λ i. (0 ≤ i.start) × (i.end ≤ 0 + length (writes_of records))) (λ i. i.end ≤ length (writes_of records)) (λ i h. omega (arith, h.1)))
      records (spans-along limit base 0 records along));
  in_order = in-order limit caller asked base records one is along;
  in_time = in-time base limit asked records is along;
}

pub lone_rounds_are_legal : LoneRoundsAreLegal
lone_rounds_are_legal base caller asked limit records one is along spent = record {
  legal = standing_are_legal base caller asked limit records one is (answered-stand limit base 0 records along spent);
  answered = All-from_recursion (λ r. IsAnswered r.reply) records (answered-along base 0 records along);
  leaves = refl;
}

-- one call more has as its index how often its caller called before
numbered_after-push : (before : List ℕ) (asked : List CallerOp) (more : CallerOp) →
    numbered_after before (asked ++ more ∷ [])
    ≡ numbered_after before asked ++ record { caller = more.caller; index = count_by (λ caller. caller == more.caller) (before ++ map (λ (a : CallerOp). a.caller) asked); op = more.op } ∷ []
numbered_after-push before [] more =
    ap (λ (callers : List ℕ). record { caller = more.caller; index = count_by (λ caller. caller == more.caller) callers; op = more.op } ∷ []) (sym (append-nil before))
numbered_after-push before (a ∷ asked) more =
    let first : Call = record { caller = a.caller; index = count_by (λ caller. caller == a.caller) before; op = a.op } in
    let later : List Call = numbered_after (before ++ a.caller ∷ []) asked in
    ap (λ (calls : List Call). first ∷ calls) (numbered_after-push (before ++ a.caller ∷ []) asked more
    ∙ ap (λ (callers : List ℕ). later ++ record { caller = more.caller; index = count_by (λ caller. caller == more.caller) callers; op = more.op } ∷ []) (append_assoc before (a.caller ∷ []) (map (λ (b : CallerOp). b.caller) asked)))

callers-along : (caller : ℕ) (asked : List CallerOp) → AllByRecursion (λ (a : CallerOp). a.caller ≡ caller) asked → AllByRecursion (λ c. c ≡ caller) (map (λ (a : CallerOp). a.caller) asked)
callers-along caller [] one = tt
callers-along caller (a ∷ asked) one = (one.0, callers-along caller asked one.1)

-- where one caller has all calls, one call more has as its index how many there are
pub numbered-push : (caller : ℕ) (asked : List CallerOp) (more : CallerOp) → All (λ (a : CallerOp). a.caller ≡ caller) asked → more.caller ≡ caller →
    numbered (asked ++ more ∷ []) ≡ numbered asked ++ record { caller = more.caller; index = length asked; op = more.op } ∷ []
numbered-push caller asked more one same =
    let callers : List ℕ = map (λ (a : CallerOp). a.caller) asked in
    let counted : count_by (λ c. c == more.caller) callers ≡ length asked =
    subst (λ (k : ℕ). count_by (λ c. c == k) callers ≡ length asked) (sym same)
    (counts-all caller callers (callers-along caller asked (recursion_from_All (λ (a : CallerOp). a.caller ≡ caller) asked one)) ∙ length-map asked (λ (a : CallerOp). a.caller)) in
    numbered_after-push [] asked more ∙ ap (λ (k : ℕ). numbered asked ++ record { caller = more.caller; index = k; op = more.op } ∷ []) counted
