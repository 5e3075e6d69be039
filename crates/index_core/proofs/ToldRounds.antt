-- What is told of a legal history's answers is a legal round.
use Rattle.std.proofs.Common.{◌≡◌, ◌≢◌, ℕ, zero, suc, ◌+◌, ◌-◌, ◌<◌, ◌≤◌, ◌⊎◌, ⊎_elim, inl, inr, false, List, [], ◌∷◌, length, map, refl, sym, ap, ◌∙◌, subst, arith}
use Rattle.std.specs.Prelude.{Option, Some, None, All, Contains, IfSome, IsSomeAnd, option_map, slice_get}
use Rattle.std.specs.List.{filter_map, cons_option, enumerate_from, AllByRecursion}
use Rattle.std.specs.List.Sorted.{IsPermutation}
use Rattle.std.proofs.lemmas.Bool.{cases_lt, cases_order}
use Rattle.std.proofs.lemmas.List.Elements.{All-from_recursion, All-contains, All-weaker, Contains-append_right}
use Rattle.std.proofs.lemmas.List.Sorted.{IsPermutation-refl}
use Rattle.std.specs.Option.{option_and_then}
use mathlib.Core.Option.{some, some-injective, some-ne-none}
use lib.ListN.{get_elem?}
use Rattle.pm_words.specs.declared.again.Again.TheVariants as again
use Rattle.cat_history.specs.Maps.{map_of, Map}
use Rattle.cat_history.specs.Writes.{after}
use Rattle.cat_history.proofs.CallerLemmas.{late_writes_are_few}
use Rattle.cat_history.specs.Records.{Call, as_op, call_of, change_of, placed_write, placed_writes, Interval, interval, interval_at, interval_told, last_place}
use Rattle.cat_history.specs.Rounds.{IsAnswer, IsPut, IsWriter, KeepsCallersOrder}
use Rattle.cat_history.specs.Scans.{IsPart, IsLastPart, AreParts}
use Rattle.cat_history.specs.Scans.AreParts.{ends, goes_on}
use Rattle.cat_history.specs.declared.op.Change.{Change}
use Rattle.cat_history.specs.declared.op.NameOp.{NameOp}
use Rattle.cat_history.specs.declared.op.NameOp.TheVariants as op
use Rattle.cat_history.specs.declared.op.Op.{Op}
use Rattle.cat_history.specs.declared.op.Op.TheVariants.{Scan}
use Rattle.cat_history.specs.declared.op.Write.{Write}
use Rattle.cat_history.specs.declared.record.Record.{Record}
use Rattle.cat_history.specs.declared.record.Reply.{Reply}
use Rattle.cat_history.specs.declared.record.Reply.TheVariants.{Parts, Full, Spent}
use Rattle.cat_history.specs.declared.record.ScanPart.{ScanPart}
use Rattle.call_stages.specs.declared.once.Once.{Once}
use Rattle.call_stages.specs.declared.once.Once.TheVariants as once
use Rattle.call_stages.specs.declared.once.Placed.{Placed}
use Rattle.node_ops.specs.Asked.{name_asked}
use Rattle.node_ops.specs.Endings.{IsPutOp}
use Rattle.node_ops.specs.declared.part.PartWords.{PartWords}
use Rattle.index_core.specs.Indexes.{Index}
use Rattle.index_core.specs.LegalRounds.{placed_record, record_told, record_of}
use Rattle.index_core.specs.Lone.{HasNoCalls}
use Rattle.index_core.specs.Schedules.{BegunCall, AnsweredCall, IsNext, IsLegalAnswer, IsSpentCall, IsTurnedBack, PartLists, CallLists, IsListing, IsAnsweredWrite, CarryLimit, IsLegalHistory}
use Rattle.index_core.specs.ToldRounds.{Told, replied_record, IsToldOf, IsToldCall, part_told, IsScanCall, AreScanCalls, IsToldScan, AreTold, records_told, CarryOneLimit, LegalHistoryIsToldRound}
use Rattle.index_core.specs.ToldRounds.IsToldOf.{took_place, was_spent, was_full}
use Rattle.index_core.proofs.Flights.{answered_begun}
use Rattle.index_core.proofs.LegalRounds.{gives-apart, gives-here, given-by, asked-is, permuted, numbered-there, numbered-from, numbered-apart, contains-map, answer-of, write_told, stands-there, places-apart, placed-legal, wrote, wrote-below, wrote-once, interval-is}
use Rattle.index_core.proofs.Limits.{first_there}

-- ---- what is told, one by one

module _ (P : Record → Type 0) where
  each-told : (told : List Told) → ((j : ℕ) (t : Told) → get_elem? told j ≡ some t → P t.what) → AllByRecursion P (records_told told)
  each-told [] each = tt
  each-told (t ∷ told) each = (each 0 t refl, each-told told (λ j. each (suc j)))

  all-told : (told : List Told) → ((j : ℕ) (t : Told) → get_elem? told j ≡ some t → P t.what) → All P (records_told told)
  all-told told each = All-from_recursion P (records_told told) (each-told told each)

told-by : (told : List Told) (r : Record) → Contains (records_told told) r → (j : ℕ) × (t : Told) × (get_elem? told j ≡ some t) × (t.what ≡ r)
told-by told r has =
    let By : Record → Type 0 = λ q. (j : ℕ) × (t : Told) × (get_elem? told j ≡ some t) × (t.what ≡ q) in
    All-contains By (records_told told) r (all-told By told (λ j t there. (j, t, there, refl))) has

told-here : (told : List Told) (j : ℕ) (t : Told) → get_elem? told j ≡ some t → Contains (records_told told) t.what
told-here [] j t there = absurd (some-ne-none t (sym there))
told-here (u ∷ told) zero t there = subst (λ (v : Told). Contains (records_told (u ∷ told)) v.what) (some-injective u t there) (0, omega arith, refl)
told-here (u ∷ told) (suc j) t there = Contains-append_right (u.what ∷ []) (records_told told) t.what (told-here told j t there)

write_of : Told → Option (ℕ × Write)
write_of t = placed_write t.what

writes-told : (told : List Told) → placed_writes (records_told told) ≡ filter_map write_of told
unfolding write_of
writes-told [] = refl
writes-told (t ∷ told) = ap (cons_option (placed_write t.what)) (writes-told told)

-- the one number of a list of one
only : (n m : ℕ) → Contains (n ∷ []) m → m ≡ n
only n m has = All-contains (λ k. k ≡ n) (n ∷ []) m (All-from_recursion (λ k. k ≡ n) (n ∷ []) (refl, tt)) has

first-in : (n : ℕ) (ns : List ℕ) → Contains (n ∷ ns) n
first-in n ns = (0, omega arith, refl)

module _ (initial : Index) (begun : List BegunCall) (calls : List AnsweredCall) (s : Index) (legal : IsLegalHistory initial begun calls s) where
  abbrev base : Map
  base = map_of initial.base

  abbrev map_at : ℕ → Map
  map_at = after base s.history

  spent-legal : (i : ℕ) (c : AnsweredCall) (clock : ℕ) → get_elem? calls i ≡ some c → c.answer ≡ once.Spent clock → IsSpentCall s.history c.call c.until clock
  spent-legal i c clock there is = subst (IsLegalAnswer s.layout.slots base s.history c.call c.until c.next) is (legal.answers i c there).answer

  full-legal : (i : ℕ) (c : AnsweredCall) → get_elem? calls i ≡ some c → c.answer ≡ once.Again again.NoFree → IsPutOp c.call.op
  full-legal i c there is =
      let back : IsTurnedBack s.layout.slots base s.history c.call c.until c.next again.NoFree = subst (IsLegalAnswer s.layout.slots base s.history c.call c.until c.next) is (legal.answers i c there).answer in
      (back.room refl).0

  -- ---- a part of a scan

  -- a part that was listed took place
  record WasListed (c : AnsweredCall) (low : List ℕ) (left : ℕ) (words : PartWords) : Type 0 where
    placed : Placed
    done : c.answer ≡ once.Done placed
    listing : IsListing base s.history low left placed words

  listed-so : (answer : Once Placed) (c : AnsweredCall) (low : List ℕ) (left : ℕ) (words : PartWords) → c.answer ≡ answer → PartLists base s.history low left answer (Some words) → WasListed c low left words
  listed-so (once.Done placed) c low left words is lists = record { placed = placed; done = is; listing = lists }
  listed-so (once.Spent clock) c low left words is lists = absurd (let none : ◌≡◌ {A = Option PartWords} (Some words) None = lists in cc)
  listed-so (once.Worn node word) c low left words is lists = absurd (let none : ◌≡◌ {A = Option PartWords} (Some words) None = lists in cc)
  listed-so (once.Again why) c low left words is lists = absurd (let none : ◌≡◌ {A = Option PartWords} (Some words) None = lists in cc)

  module _ (caller least : ℕ) (low : List ℕ) (left number : ℕ) (part : ScanPart) (call : IsScanCall calls caller least low left number part) where
    scan-listed : WasListed call.answered low left call.words
    scan-listed =
        let c = call.answered in
        let lists = (legal.answers number c call.there).lists in
        let counted : CallLists base s.history c.call.op (Some left) c.answer c.part = subst (λ (o : Option ℕ). CallLists base s.history c.call.op o c.answer c.part) call.so_many lists in
        let named : PartLists base s.history low left c.answer c.part = subst (λ (o : NameOp). PartLists base s.history (name_asked o) left c.answer c.part) call.asks counted in
        listed-so c.answer c low left call.words refl (subst (PartLists base s.history low left c.answer) call.listed named)

    -- it took effect at its place, within its time
    scan-since : call.answered.call.since ≤ part.place
    scan-since =
        let was = scan-listed in
        let took = placed-legal initial begun calls s legal number call.answered was.placed call.there was.done in
        let here = ap (λ (p : Placed). p.place) was.listing.placed_so in
        let place = ap (λ (p : ScanPart). p.place) call.is in
        let later = took.took.later in
        omega arith

    scan-until : (part.place ≤ call.answered.until) × (part.place ≤ length s.history)
    scan-until =
        let was = scan-listed in
        let c = call.answered in
        let took = placed-legal initial begun calls s legal number c was.placed call.there was.done in
        let here = ap (λ (p : Placed). p.place) was.listing.placed_so in
        let place = ap (λ (p : ScanPart). p.place) call.is in
        let ended : was.placed.place ≤ c.until = subst (λ (o : NameOp). (interval_at o was.placed.place).end ≤ c.until) call.asks took.ended in
        let within : was.placed.place ≤ length s.history = subst (λ (o : NameOp). (interval_at o was.placed.place).end ≤ length s.history) call.asks took.took.within in
        (omega arith, omega arith)

    scan-part : (place : ℕ) → place ≤ call.answered.call.since → IsPart map_at low left place part
    scan-part place before =
        let was = scan-listed in
        let since = scan-since in
        let told : IsPart map_at low left place (part_told low call.words) = record {
          begins = refl;
          bounds = was.listing.lists.bounds;
          later = (let is = ap (λ (p : ScanPart). p.place) call.is in omega arith);
          lists = was.listing.lists.lists;
        } in
        subst (IsPart map_at low left place) (sym call.is) told

    -- it changes nothing
    scan-reads : change_of call.answered.call.op ≡ None
    scan-reads = ap change_of call.asks

  -- ---- the parts of a scan

  -- the calls of this caller from this number on began no earlier than this
  abbrev BeginBehind : ℕ → ℕ → ℕ → Type 0
  BeginBehind caller least place = (i : ℕ) (c : AnsweredCall) → get_elem? calls i ≡ some c → c.call.caller ≡ caller → least ≤ i → place ≤ c.call.since

  scan-parts : (caller least : ℕ) (low : List ℕ) (left : ℕ) (numbers : List ℕ) (parts : List ScanPart) (place : ℕ) → BeginBehind caller least place → AreScanCalls calls caller least low left numbers parts →
      AreParts map_at low left place false parts
  scan-parts caller least low left [] parts place behind are = absurd are
  scan-parts caller least low left (number ∷ numbers) [] place behind are = absurd are
  scan-parts caller least low left (number ∷ numbers) (part ∷ parts) place behind are =
      ⊎_elim
      (λ (last : IsLastPart left part × (numbers ≡ []) × (parts ≡ [])).
      subst (λ (ps : List ScanPart). AreParts map_at low left place false (part ∷ ps)) (sym last.2) (ends here last.0))
      (λ (more : (high : List ℕ) × (length part.pairs < left) × (part.high ≡ Some high) × AreScanCalls calls caller (number + 1) high (left - length part.pairs) numbers parts).
      goes_on more.0 here more.1 more.2 (scan-parts caller (number + 1) more.0 (left - length part.pairs) numbers parts part.place later more.3))
      are.1
    where
      call : IsScanCall calls caller least low left number part
      call = are.0

      here : IsPart map_at low left place part
      here = scan-part caller least low left number part call place (behind number call.answered call.there call.by_caller call.later)

      later : BeginBehind caller (number + 1) part.place
      later i c there same past =
          let before = (legal.in_order number i call.answered c call.there there (omega arith) (call.by_caller ∙ sym same)).ended in
          let until = (scan-until caller least low left number part call).0 in
          omega arith

  -- one call of some, all of this caller
  record IsOneOf (caller : ℕ) (numbers : List ℕ) : Type 0 where
    number : ℕ
    answered : AnsweredCall
    there : get_elem? calls number ≡ some answered
    by_caller : answered.call.caller ≡ caller
    among : Contains numbers number

  -- the last call of some, which ends no earlier than this place
  record IsLastOf (caller : ℕ) (numbers : List ℕ) (place : ℕ) : Type 0 where
    call : IsOneOf caller numbers
    until : place ≤ call.answered.until
    within : place ≤ length s.history

  scan-last : (caller least : ℕ) (low : List ℕ) (left : ℕ) (numbers : List ℕ) (parts : List ScanPart) (place : ℕ) → AreScanCalls calls caller least low left numbers parts → IsLastOf caller numbers (last_place place parts)
  scan-last caller least low left [] parts place are = absurd are
  scan-last caller least low left (number ∷ numbers) [] place are = absurd are
  scan-last caller least low left (number ∷ numbers) (part ∷ parts) place are =
      ⊎_elim
      (λ (last : IsLastPart left part × (numbers ≡ []) × (parts ≡ [])).
      let at_end = ap (last_place part.place) last.2 in
      let until = scan-until caller least low left number part are.0 in
      let here : IsLastOf caller (number ∷ numbers) (last_place part.place parts) = record {
        call = record { number = number; answered = are.0.answered; there = are.0.there; by_caller = are.0.by_caller; among = first-in number numbers };
        until = (let u = until.0 in omega arith);
        within = (let u = until.1 in omega arith);
      } in
      here)
      (λ (more : (high : List ℕ) × (length part.pairs < left) × (part.high ≡ Some high) × AreScanCalls calls caller (number + 1) high (left - length part.pairs) numbers parts).
      let rest = scan-last caller (number + 1) more.0 (left - length part.pairs) numbers parts part.place more.3 in
      let here : IsLastOf caller (number ∷ numbers) (last_place part.place parts) = record {
        call = record {
          number = rest.call.number;
          answered = rest.call.answered;
          there = rest.call.there;
          by_caller = rest.call.by_caller;
          among = Contains-append_right (number ∷ []) numbers rest.call.number rest.call.among;
        };
        until = rest.until;
        within = rest.within;
      } in
      here)
      are.1

  -- each of them is this caller's, and changes nothing
  abbrev OnlyReads : ℕ → ℕ → Type 0
  OnlyReads caller number = (c : AnsweredCall) × (get_elem? calls number ≡ some c) × (c.call.caller ≡ caller) × (change_of c.call.op ≡ None)

  scan-only : (caller least : ℕ) (low : List ℕ) (left : ℕ) (numbers : List ℕ) (parts : List ScanPart) → AreScanCalls calls caller least low left numbers parts → AllByRecursion (OnlyReads caller) numbers
  scan-only caller least low left [] parts are = tt
  scan-only caller least low left (number ∷ numbers) [] are = absurd are
  scan-only caller least low left (number ∷ numbers) (part ∷ parts) are =
      let call = are.0 in (
        (call.answered, call.there, call.by_caller, scan-reads caller least low left number part call),
        ⊎_elim
            (λ (last : IsLastPart left part × (numbers ≡ []) × (parts ≡ [])). subst (AllByRecursion (OnlyReads caller)) (sym last.1) tt)
            (λ (more : (high : List ℕ) × (length part.pairs < left) × (part.high ≡ Some high) × AreScanCalls calls caller (number + 1) high (left - length part.pairs) numbers parts).
            scan-only caller (number + 1) more.0 (left - length part.pairs) numbers parts more.3)
            are.1,
      )

  -- ---- between which writes it took effect

  -- where the record has an interval: its first call, which used up its index and began before it, and its last one
  record Spans (t : Told) (i : Interval) : Type 0 where
    first : IsOneOf t.what.caller t.numbers
    index : t.what.index ≡ first.answered.call.index
    counts : first.answered.next ≡ first.answered.call.index + 1
    since : first.answered.call.since ≤ i.start
    last : IsLastOf t.what.caller t.numbers i.end

  counts-done : (i : ℕ) (c : AnsweredCall) (placed : Placed) → get_elem? calls i ≡ some c → c.answer ≡ once.Done placed → c.next ≡ c.call.index + 1
  counts-done i c placed there is = subst (IsNext c.call.index c.next c.whole) is (legal.answers i c there).next

  counts-spent : (i : ℕ) (c : AnsweredCall) (clock : ℕ) → get_elem? calls i ≡ some c → c.answer ≡ once.Spent clock → c.next ≡ c.call.index + 1
  counts-spent i c clock there is = subst (IsNext c.call.index c.next c.whole) is (legal.answers i c there).next

  start-is : (o : NameOp) (place : ℕ) → (interval_at o place).start ≡ place
  start-is (op.Put name value) place = refl
  start-is (op.Get name) place = refl
  start-is (op.Del name) place = refl

  -- a record of one call alone spans what that call does
  one-spans : (t : Told) (call : IsToldCall calls t) (i : Interval) → call.answered.call.caller ≡ t.what.caller → t.what.index ≡ call.answered.call.index → call.answered.next ≡ call.answered.call.index + 1
      → call.answered.call.since ≤ i.start → i.end ≤ call.answered.until → i.end ≤ length s.history → Spans t i
  one-spans t call i caller index counts since until within =
      let has : Contains t.numbers call.number = subst (λ (ns : List ℕ). Contains ns call.number) (sym call.alone) (first-in call.number []) in
      let one : IsOneOf t.what.caller t.numbers = record { number = call.number; answered = call.answered; there = call.there; by_caller = caller; among = has } in
      record { first = one; index = index; counts = counts; since = since; last = record { call = one; until = until; within = within } }

  call-spans : (t : Told) (call : IsToldCall calls t) → IsToldOf call.answered t.what → IfSome (interval t.what) (Spans t)
  call-spans t call (took_place placed is tells) =
      let c = call.answered in
      let took = placed-legal initial begun calls s legal call.number c placed call.there is in
      let later = took.took.later in
      let starts = start-is c.call.op placed.place in
      let spans : Spans t (interval_at c.call.op placed.place) =
      one-spans t call (interval_at c.call.op placed.place) (ap (λ (r : Record). r.caller) (sym tells)) (ap (λ (r : Record). r.index) tells) (counts-done call.number c placed call.there is) (omega arith) took.ended took.took.within in
      subst (λ (r : Record). IfSome (interval r) (Spans t)) (sym tells) (subst (Spans t) (interval-is c.call.op placed.place) spans)
  call-spans t call (was_spent clock is tells) =
      let c = call.answered in
      let spent = spent-legal call.number c clock call.there is in
      let within = (legal.answers call.number c call.there).within in
      let until = spent.reached.within in
      let spans : Spans t (record { start = clock; end = clock }) =
      one-spans t call (record { start = clock; end = clock }) (ap (λ (r : Record). r.caller) (sym tells)) (ap (λ (r : Record). r.index) tells) (counts-spent call.number c clock call.there is) spent.reached.later until (omega arith) in
      subst (λ (r : Record). IfSome (interval r) (Spans t)) (sym tells) spans
  call-spans t call (was_full is tells) = subst (λ (r : Record). IfSome (interval r) (Spans t)) (sym tells) tt

  scan-spans : (t : Told) → IsToldScan calls t → IfSome (interval t.what) (Spans t)
  scan-spans t scan = subst (λ (reply : Reply). IfSome (interval_told t.what.op reply) (Spans t)) (sym scan.tells) (by scan.parts scan.read)
    where
      by : (parts : List ScanPart) → AreScanCalls calls t.what.caller 0 scan.from scan.count t.numbers parts → IfSome (interval_told t.what.op (Parts parts false)) (Spans t)
      by [] read = absurd (subst (λ (ns : List ℕ). AreScanCalls calls t.what.caller 0 scan.from scan.count ns []) scan.begins read)
      by (part ∷ parts) read =
          let call = (subst (λ (ns : List ℕ). AreScanCalls calls t.what.caller 0 scan.from scan.count ns (part ∷ parts)) scan.begins read).0 in
          let one : scan.answered ≡ call.answered = some-injective _ _ (sym scan.there ∙ call.there) in
          let was = scan-listed t.what.caller 0 scan.from scan.count scan.first part call in
          let spans : Spans t (record { start = part.place; end = last_place part.place parts }) = record {
            first = record {
              number = scan.first;
              answered = call.answered;
              there = call.there;
              by_caller = call.by_caller;
              among = subst (λ (ns : List ℕ). Contains ns scan.first) (sym scan.begins) (first-in scan.first scan.rest);
            };
            index = scan.index ∙ ap (λ (c : AnsweredCall). c.call.index) one;
            counts = counts-done scan.first call.answered was.placed call.there was.done;
            since = scan-since t.what.caller 0 scan.from scan.count scan.first part call;
            last = scan-last t.what.caller 0 scan.from scan.count t.numbers (part ∷ parts) 0 read;
          } in
          spans

  spans : (t : Told) → IsToldCall calls t ⊎ IsToldScan calls t → IfSome (interval t.what) (Spans t)
  spans t (inl call) = call-spans t call call.is
  spans t (inr scan) = scan-spans t scan

  some-within : (t : Told) (o : Option Interval) → IfSome o (Spans t) → IfSome o (λ i. i.end ≤ length s.history)
  some-within t None spans = tt
  some-within t (Some i) spans = spans.last.within

  -- ---- the writes

  -- the write that a record tells is that of one of its calls
  record TellsWrite (t : Told) (x : ℕ × Write) : Type 0 where
    number : ℕ
    answered : AnsweredCall
    there : get_elem? calls number ≡ some answered
    among : Contains t.numbers number
    by_caller : t.what.caller ≡ answered.call.caller
    told : write_told answered ≡ Some x

  none-told : (x : ℕ × Write) (r q : Record) → r ≡ q → placed_write q ≡ None → placed_write r ≡ Some x → ⊥
  none-told x r q same none told = let clash : ◌≡◌ {A = Option (ℕ × Write)} None (Some x) = sym none ∙ ap placed_write (sym same) ∙ told in cc

  written : (c : AnsweredCall) (placed : Placed) (r : Record) → c.answer ≡ once.Done placed → r ≡ placed_record c.call placed → write_told c ≡ placed_write r
  written c placed r is tells = ap (λ (o : Once Placed). option_and_then placed_write (record_told c.call o)) is ∙ ap placed_write (sym tells)

  call-write : (t : Told) (x : ℕ × Write) (call : IsToldCall calls t) → IsToldOf call.answered t.what → placed_write t.what ≡ Some x → TellsWrite t x
  call-write t x call (took_place placed is tells) told = record {
    number = call.number;
    answered = call.answered;
    there = call.there;
    among = subst (λ (ns : List ℕ). Contains ns call.number) (sym call.alone) (first-in call.number []);
    by_caller = ap (λ (r : Record). r.caller) tells;
    told = written call.answered placed t.what is tells ∙ told;
  }
  call-write t x call (was_spent clock is tells) told = absurd (none-told x t.what (replied_record call.answered.call (Spent clock)) tells refl told)
  call-write t x call (was_full is tells) told = absurd (none-told x t.what (replied_record call.answered.call Full) tells refl told)

  tells-write : (t : Told) (x : ℕ × Write) → IsToldCall calls t ⊎ IsToldScan calls t → write_of t ≡ Some x → TellsWrite t x
  unfolding write_of
  tells-write t x (inl call) told = call-write t x call call.is told
  tells-write t x (inr scan) told =
      let q : Record = record { caller = t.what.caller; index = t.what.index; op = t.what.op; reply = Parts scan.parts false } in
      absurd (none-told x t.what q (λ i. record { caller = t.what.caller; index = t.what.index; op = t.what.op; reply = scan.tells i }) refl told)

  module _ (told : List Told) (are : AreTold calls told) where
    writes-apart : (i j : ℕ) (t u : Told) (x y : ℕ × Write) → get_elem? told i ≡ some t → get_elem? told j ≡ some u → i < j → write_of t ≡ Some x → write_of u ≡ Some y → x.0 ≢ y.0
    writes-apart i j t u x y at_i at_j less told_t told_u place =
        let a = tells-write t x (are.each i t at_i) told_t in
        let b = tells-write u y (are.each j u at_j) told_u in
        ⊎_elim
        (λ (same : a.number ≡ b.number).
        let one : a.answered ≡ b.answered = some-injective _ _ (sym a.there ∙ ap (get_elem? calls) same ∙ b.there) in
        let caller : t.what.caller ≡ u.what.caller = a.by_caller ∙ ap (λ (c : AnsweredCall). c.call.caller) one ∙ sym b.by_caller in
        are.apart i j t u at_i at_j (λ is. omega arith) caller a.number b.number a.number a.among b.among a.among (omega arith) (omega arith))
        (λ (other : (a.number < b.number) ⊎ (b.number < a.number)). ⊎_elim
        (λ (before : a.number < b.number). places-apart initial begun calls s legal a.number b.number a.answered b.answered x y a.there b.there before a.told b.told place)
        (λ (behind : b.number < a.number). places-apart initial begun calls s legal b.number a.number b.answered a.answered y x b.there a.there behind b.told a.told (sym place))
        other)
        (cases_order a.number b.number)

    -- the record that tells this write
    record IsToldWrite (place : ℕ) (write : Write) : Type 0 where
      at : ℕ
      by : Told
      there : get_elem? told at ≡ some by
      by_caller : by.what.caller ≡ write.caller
      tells : write_of by ≡ Some (place, write)

    written-here : (place : ℕ) (write : Write) (w : IsAnsweredWrite calls place write) → write_told w.answered ≡ Some (place, write)
    written-here place write w =
        let is : record_of w.answered ≡ Some (placed_record w.answered.call w.placed) = ap (record_told w.answered.call) w.answer in
        ap (option_and_then placed_write) is
        ∙ ap (option_map (λ (change : Change). (w.placed.place, record { caller = w.answered.call.caller; index = w.answered.call.index; change = change }))) (asked-is w.answered.call.op ∙ w.change)
        ∙ (λ i. Some (w.place i, record { caller = sym w.caller i; index = sym w.index i; change = write.change }))

    call-tells : (place : ℕ) (write : Write) (w : IsAnsweredWrite calls place write) (t : Told) (call : IsToldCall calls t) → call.answered ≡ w.answered → IsToldOf call.answered t.what →
        (write_of t ≡ Some (place, write)) × (t.what.caller ≡ write.caller)
    unfolding write_of
    call-tells place write w t call one (took_place placed is tells) = (
      sym (written call.answered placed t.what is tells) ∙ ap write_told one ∙ written-here place write w,
      ap (λ (r : Record). r.caller) tells ∙ ap (λ (c : AnsweredCall). c.call.caller) one ∙ sym w.caller,
    )
    call-tells place write w t call one (was_spent clock is tells) = absurd (let clash : once.Spent clock ≡ once.Done w.placed = sym is ∙ ap (λ (c : AnsweredCall). c.answer) one ∙ w.answer in cc)
    call-tells place write w t call one (was_full is tells) = absurd (let clash : once.Again again.NoFree ≡ once.Done w.placed = sym is ∙ ap (λ (c : AnsweredCall). c.answer) one ∙ w.answer in cc)

    told-write : (place : ℕ) (write : Write) → IsAnsweredWrite calls place write → IsToldWrite place write
    told-write place write w =
        let found = are.writes w.number w.answered w.placed w.there w.answer (λ none. let clash : ◌≡◌ {A = Option Change} None (Some write.change) = sym none ∙ w.change in cc) in
        ⊎_elim
        (λ (call : IsToldCall calls found.1).
        let number : w.number ≡ call.number = only call.number w.number (subst (λ (ns : List ℕ). Contains ns w.number) call.alone found.3) in
        let one : call.answered ≡ w.answered = some-injective _ _ (sym call.there ∙ ap (get_elem? calls) (sym number) ∙ w.there) in
        let tells = call-tells place write w found.1 call one call.is in
        let here : IsToldWrite place write = record { at = found.0; by = found.1; there = found.2; by_caller = tells.1; tells = tells.0 } in
        here)
        (λ (scan : IsToldScan calls found.1).
        let reads = All-contains (OnlyReads found.1.what.caller) found.1.numbers w.number
        (All-from_recursion (OnlyReads found.1.what.caller) found.1.numbers (scan-only found.1.what.caller 0 scan.from scan.count found.1.numbers scan.parts scan.read)) found.3 in
        let one : reads.0 ≡ w.answered = some-injective _ _ (sym reads.1 ∙ w.there) in
        absurd (let clash : ◌≡◌ {A = Option Change} None (Some write.change) = sym reads.3 ∙ ap (λ (c : AnsweredCall). change_of c.call.op) one ∙ w.change in cc))
        (are.each found.0 found.1 found.2)

    module _ (limit : ℕ) (idle : HasNoCalls s) (carry : CarryOneLimit limit begun) where
      carry-limit : CarryLimit limit begun
      carry-limit = All-weaker (λ (c : BegunCall). c.limit ≡ option_map (λ (change : Change). limit) (change_of c.op)) (λ (c : BegunCall). IfSome (change_of c.op) (λ change. c.limit ≡ Some limit))
          (λ c is. so c.limit (change_of c.op) is) begun carry
        where
          so : (l : Option ℕ) (o : Option Change) → l ≡ option_map (λ (change : Change). limit) o → IfSome o (λ change. l ≡ Some limit)
          so l None is = tt
          so l (Some change) is = is

      by-place-told : IsPermutation (placed_writes (records_told told)) (enumerate_from 0 s.history)
      by-place-told =
          subst (λ (xs : List (ℕ × Write)). IsPermutation xs (enumerate_from 0 s.history)) (sym (writes-told told))
          (permuted (filter_map write_of told) (enumerate_from 0 s.history) (gives-apart write_of told writes-apart) (numbered-apart 0 s.history)
          (λ x. (
            λ has.
                let by = given-by write_of told x has in
                let tells = tells-write by.1 x (are.each by.0 by.1 by.2) by.3 in
                numbered-there s.history x.0 x.1 (stands-there initial begun calls s legal tells.number tells.answered x tells.there tells.told).2,
            λ has.
                let here = told-write x.0 x.1 (wrote initial begun calls s legal limit idle carry-limit x.0 x.1 (numbered-from s.history x.0 x.1 has)) in
                gives-here write_of told here.at here.by x here.there here.tells,
          )))

      -- ---- the answers

      spent-answer : (o : NameOp) (l : Option ℕ) (clock : ℕ) → l ≡ option_map (λ (change : Change). limit) (change_of o) → IsSomeAnd l (λ most. most ≤ clock) → IsWriter (as_op o) × (limit ≤ clock)
      spent-answer (op.Put name value) l clock is reached = (tt, subst (λ (m : Option ℕ). IsSomeAnd m (λ most. most ≤ clock)) is reached)
      spent-answer (op.Get name) l clock is reached = absurd (subst (λ (m : Option ℕ). IsSomeAnd m (λ most. most ≤ clock)) is reached)
      spent-answer (op.Del name) l clock is reached = (tt, subst (λ (m : Option ℕ). IsSomeAnd m (λ most. most ≤ clock)) is reached)

      put-answer : (o : NameOp) → IsPutOp o → IsPut (as_op o)
      put-answer (op.Put name value) is = tt
      put-answer (op.Get name) is = is
      put-answer (op.Del name) is = is

      abbrev Answers : Record → Type 0
      Answers r = IsAnswer base s.history limit r.op r.reply

      call-answers : (t : Told) (call : IsToldCall calls t) → IsToldOf call.answered t.what → Answers t.what
      call-answers t call (took_place placed is tells) =
          let took = placed-legal initial begun calls s legal call.number call.answered placed call.there is in
          subst (λ (r : Record). IsAnswer base s.history limit r.op r.reply) (sym tells) (answer-of base s.history limit call.answered.call.op placed took.took.old)
      call-answers t call (was_spent clock is tells) =
          let c = call.answered in
          let limited = All-contains (λ (b : BegunCall). b.limit ≡ option_map (λ (change : Change). limit) (change_of b.op)) begun c.call carry (answered_begun begun calls s.states legal.each_call call.number c call.there) in
          let spent = spent-legal call.number c clock call.there is in
          subst (λ (r : Record). IsAnswer base s.history limit r.op r.reply) (sym tells) (spent-answer c.call.op c.call.limit clock limited spent.reached.reached)
      call-answers t call (was_full is tells) =
          subst (λ (r : Record). IsAnswer base s.history limit r.op r.reply) (sym tells) (put-answer call.answered.call.op (full-legal call.number call.answered call.there is))

      told-answers : (t : Told) → IsToldCall calls t ⊎ IsToldScan calls t → Answers t.what
      told-answers t (inl call) = call-answers t call call.is
      told-answers t (inr scan) =
          subst (λ (o : Op). IsAnswer base s.history limit o t.what.reply) (sym scan.asks)
          (subst (λ (reply : Reply). IsAnswer base s.history limit (Scan scan.from scan.count) reply) (sym scan.tells)
          (scan-parts t.what.caller 0 scan.from scan.count t.numbers scan.parts 0 (λ i c there same past. omega arith) scan.read))

      -- ---- each caller's in order

      told-in-order : (i j : ℕ) (t u : Told) → get_elem? told i ≡ some t → get_elem? told j ≡ some u → t.what.caller ≡ u.what.caller → t.what.index < u.what.index → (p q : Interval) → Spans t p → Spans u q → p.end ≤ q.start
      told-in-order i j t u at_i at_j caller less p q a b =
          let callers : a.first.answered.call.caller ≡ b.first.answered.call.caller = a.first.by_caller ∙ caller ∙ sym b.first.by_caller in
          let here = a.index in
          let there = b.index in
          let different : i ≢ j = λ same. (let one : t ≡ u = some-injective _ _ (sym at_i ∙ ap (get_elem? told) same ∙ at_j) in let index = ap (λ (v : Told). v.what.index) one in omega arith) in
          let rising : a.first.number < b.first.number = ⊎_elim
          (λ (same : a.first.number ≡ b.first.number).
          let one : a.first.answered ≡ b.first.answered = some-injective _ _ (sym a.first.there ∙ ap (get_elem? calls) same ∙ b.first.there) in
          let index = ap (λ (c : AnsweredCall). c.call.index) one in absurd (omega arith))
          (λ (apart : (a.first.number < b.first.number) ⊎ (b.first.number < a.first.number)). ⊎_elim
          (λ (before : a.first.number < b.first.number). before)
          (λ (behind : b.first.number < a.first.number).
          let next = (legal.in_order b.first.number a.first.number b.first.answered a.first.answered b.first.there a.first.there behind (sym callers)).index in
          let counts = b.counts in absurd (omega arith))
          apart)
          (cases_order a.first.number b.first.number) in
          let z = a.last in
          let past : z.call.number < b.first.number = ⊎_elim
          (λ (before : z.call.number < b.first.number). before)
          (λ (within : b.first.number ≤ z.call.number). absurd (are.apart i j t u at_i at_j different caller a.first.number b.first.number z.call.number a.first.among b.first.among z.call.among (omega arith) within))
          (cases_lt z.call.number b.first.number) in
          let ended = (legal.in_order z.call.number b.first.number z.call.answered b.first.answered z.call.there b.first.there past (z.call.by_caller ∙ caller ∙ sym b.first.by_caller)).ended in
          let until = z.until in
          let since = b.since in
          omega arith

      in-order-told : KeepsCallersOrder (records_told told)
      in-order-told r q has_r has_q same less =
          let by_r = told-by told r has_r in
          let by_q = told-by told q has_q in
          let t = by_r.1 in
          let u = by_q.1 in
          let callers : t.what.caller ≡ u.what.caller = ap (λ (k : Record). k.caller) by_r.3 ∙ same ∙ sym (ap (λ (k : Record). k.caller) by_q.3) in
          let first = ap (λ (k : Record). k.index) by_r.3 in
          let second = ap (λ (k : Record). k.index) by_q.3 in
          subst (λ (k : Record). IfSome (interval k) (λ p. IfSome (interval q) (λ o. p.end ≤ o.start))) by_r.3
          (subst (λ (k : Record). IfSome (interval t.what) (λ p. IfSome (interval k) (λ o. p.end ≤ o.start))) by_q.3
          (go (interval t.what) (interval u.what) (spans t (are.each by_r.0 t by_r.2)) (spans u (are.each by_q.0 u by_q.2))
          (λ p o a b. told-in-order by_r.0 by_q.0 t u by_r.2 by_q.2 callers (omega arith) p o a b)))
        where
          go : {P Q : Interval → Type 0} (x y : Option Interval) → IfSome x P → IfSome y Q → ((p o : Interval) → P p → Q o → p.end ≤ o.start) → IfSome x (λ p. IfSome y (λ o. p.end ≤ o.start))
          go None y has_p has_q each = tt
          go (Some p) None has_p has_q each = tt
          go (Some p) (Some o) has_p has_q each = each p o has_p has_q

      -- ---- the limit

      recorded : (place : ℕ) (write : Write) → slice_get s.history place ≡ Some write → Contains (map (λ (c : Call). c.caller) (map call_of (records_told told))) write.caller
      recorded place write stands =
          let here = told-write place write (wrote initial begun calls s legal limit idle carry-limit place write stands) in
          let mapped : Contains (map call_of (records_told told)) (call_of here.by.what) = contains-map call_of (records_told told) here.by.what (told-here told here.at here.by here.there) in
          subst (Contains (map (λ (c : Call). c.caller) (map call_of (records_told told)))) here.by_caller (contains-map (λ (c : Call). c.caller) (map call_of (records_told told)) (call_of here.by.what) mapped)

pub legal_history_is_told_round : LegalHistoryIsToldRound
legal_history_is_told_round first begun calls s limit told legal idle carry are =
    let carries = carry-limit first begun calls s legal told are limit idle carry in
    let wrote-it = wrote first begun calls s legal limit idle carries in
    let below = wrote-below first begun calls s legal limit idle carries in
    record {
      each_call = IsPermutation-refl (map call_of (records_told told));
      by_place = by-place-told first begun calls s legal told are limit idle carry;
      answers = all-told (λ r. IsAnswer (map_of first.base) s.history limit r.op r.reply) told (λ j t there. told-answers first begun calls s legal told are limit idle carry t (are.each j t there));
      within = all-told (λ r. IfSome (interval r) (λ i. i.end ≤ length s.history)) told (λ j t there. some-within first begun calls s legal t (interval t.what) (spans first begun calls s legal t (are.each j t there)));
      in_order = in-order-told first begun calls s legal told are limit idle carry;
      in_time = late_writes_are_few limit (map (λ (c : Call). c.caller) (map call_of (records_told told))) s.history
          (λ many. let early = first_there s.history many in let began = (below 0 early.0 (wrote-it 0 early.0 early.1)).0 in omega arith)
          (recorded first begun calls s legal told are limit idle carry)
          (wrote-once first begun calls s legal limit idle carries);
    }
