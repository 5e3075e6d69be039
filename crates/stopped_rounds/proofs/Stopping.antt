-- How a round that may stop goes on by one call.
use Rattle.std.proofs.Common.{◌≡◌, ◌≢◌, ℕ, inl, inr, ⊎_elim, ◌+◌, ◌<◌, ◌≤◌, ◌⊎◌, ◌↔◌, Bool, true, false, cond, List, [], ◌∷◌, ◌++◌, length, get_or, take, map, fold, All, refl, sym, ap, subst, ◌∙◌, arith, append_assoc, append-nil, length-append, zero-add}
use Rattle.std.proofs.lemmas.Bool.{cases_eq}
use Rattle.std.proofs.lemmas.List.{map-append, take_all, take_more, length-take-le}
use Rattle.std.proofs.lemmas.List.Elements.{All-push, All-take, filter_map-append, Contains-append_left, Contains-append_right}
use Rattle.std.proofs.lemmas.List.Sums.{fold-append}
use Rattle.std.specs.Prelude.{Option, Some, Contains}
use Rattle.std.specs.List.{filter_map, cons_option}
use Rattle.cat_history.specs.Maps.{Map}
use Rattle.cat_history.specs.Writes.{after_all, changed}
use Rattle.cat_history.specs.Records.{Call, call_of, numbered}
use Rattle.cat_history.specs.Rounds.{IsWriter}
use Rattle.cat_history.specs.LoneRounds.{write_of, writes_of, HoldsAlong, IsAnswerNow, IsSpent}
use Rattle.cat_history.specs.CrashRounds.{change_cut, changes_cut}
use Rattle.cat_history.specs.declared.op.CallerOp.{CallerOp}
use Rattle.cat_history.specs.declared.op.Change.{Change}
use Rattle.cat_history.specs.declared.op.Op.{Op}
use Rattle.cat_history.specs.declared.op.Write.{Write}
use Rattle.cat_history.specs.declared.record.Record.{Record}
use Rattle.cat_history.specs.declared.record.Reply.{Reply}
use Rattle.cat_history.specs.declared.record.Reply.TheVariants.{Old, Parts, Full, Spent, Cut, Unstarted}
use Rattle.cat_history.proofs.LoneRoundLemmas.{writes_of-append, writes_of-cons, HoldsAlong-push, numbered-push}
use Rattle.cat_text.specs.ReportGrammar.{IsReportOp}
use Rattle.shapes.specs.ShapeRounds.{anchors_end, PutsFull, EndsWithMembers, IsBoundedByShape, one_added, puts_added}
use Rattle.shapes.specs.Runs.{Standing, opening, stands_after, ComesLate, IsFullInTime}
use Rattle.shapes.proofs.RoundLemmas.{HoldsInShape-push}
use Rattle.shapes.proofs.RunLemmas.{HoldsFrom-push, late_is}
use Rattle.stopped_rounds.specs.Bounded.{MapState, IsSame}
use Rattle.stopped_rounds.specs.LoneStops.{AreUnstarted, IsStop, BeginsFirst, IsCutNow}
use Rattle.stopped_rounds.specs.MoreCuts.{AreAmong}
use Rattle.stopped_rounds.specs.Replies.{IsLeftBy, IsTold, SettlesToReport, WasAnswered, WasCutOff, Replies}
use Rattle.stopped_rounds.specs.Stops.{HasStopped}

-- the record of a call
abbrev pub recorded : ℕ → CallerOp → Reply → Record
recorded index call reply = record { caller = call.caller; index = index; op = call.op; reply = reply }

writes_of-push : (records : List Record) (r : Record) → writes_of (records ++ r ∷ []) ≡ writes_of records ++ write_of r
writes_of-push records r = writes_of-append records (r ∷ []) ∙ ap (λ ws. writes_of records ++ ws) (writes_of-cons r [] ∙ append-nil (write_of r))

-- the map behind one record more
after-push : (base : Map) (records : List Record) (r : Record) → after_all base (writes_of (records ++ r ∷ [])) ≡ after_all (after_all base (writes_of records)) (write_of r)
after-push base records r = ap (after_all base) (writes_of-push records r) ∙ fold-append (λ n (w : Write). changed n w.change) base (writes_of records) (write_of r)

-- These calls were answered, each on the map and the shape as the earlier ones left them.
pub record AreAnsweredSo (slots most limit : ℕ) (s : MapState) (done : List Record) : Type 0 where
  pub answers : HoldsAlong (λ (m : Map) (k : ℕ) (r : Record). IsAnswerNow m k r.op r.reply) s.contents 0 done
  pub spent : HoldsAlong (λ (m : Map) (k : ℕ) (r : Record). IsSpent r.reply ↔ (IsWriter r.op × (limit ≤ k))) s.contents 0 done
  pub full : IsFullInTime slots most limit (opening s.contents s.anchors) done
  pub bounds : IsBoundedByShape slots s.contents s.anchors done

-- How far the round is: as far as its calls were answered, or where it stopped, without a budget any more.
pub record Stopping (slots most limit budget left place : ℕ) (s : MapState) (asked : List CallerOp) (records : List Record) (now : MapState) : Type 0 where
  pub done : List Record
  pub rest : List Record
  pub is : records ≡ done ++ rest
  pub so : AreAnsweredSo slots most limit s done
  pub stops : IsStop limit (after_all s.contents (writes_of done)) (length (writes_of done)) rest
  pub calls : map call_of records ≡ numbered asked
  pub none : budget ≡ 0 → (left ≡ 0) × AreUnstarted records
  pub first : 0 < budget → BeginsFirst records
  pub begins : 0 < length records ⊎ (left ≡ budget)
  pub leaves : now.contents ≡ after_all s.contents (writes_of records)
  pub placed : place ≡ length (writes_of records)
  pub cut : AreAmong now.cut (changes_cut records)
  pub going : 0 < left → (rest ≡ []) × (now.cut ≡ [])
  pub shape : rest ≡ [] → fold (stands_after slots) (opening s.contents s.anchors) done ≡ record { map = now.contents; anchors = now.anchors; place = place }

-- as it begins
pub stopping-first : (slots most limit budget : ℕ) (s : MapState) → s.cut ≡ [] → Stopping slots most limit budget budget 0 s [] [] s
stopping-first slots most limit budget s uncut = record {
  done = [];
  rest = [];
  is = refl;
  so = record { answers = tt; spent = tt; full = tt; bounds = tt };
  stops = tt;
  calls = refl;
  none = λ is. (is, λ k d within. absurd (omega (arith, within)));
  first = λ some. tt;
  begins = inr refl;
  leaves = refl;
  placed = refl;
  cut = λ c has. subst (λ (l : List Change). Contains l c) uncut has;
  going = λ some. (refl, uncut);
  shape = λ _. refl;
}

-- the changes of one record more
cut-push : (records : List Record) (r : Record) → changes_cut (records ++ r ∷ []) ≡ changes_cut records ++ filter_map (λ (q : Record). change_cut q.op q.reply) (r ∷ [])
cut-push records r = filter_map-append (λ (q : Record). change_cut q.op q.reply) records (r ∷ [])

cut-more : (records : List Record) (r : Record) (cuts : List Change) → AreAmong cuts (changes_cut records) → AreAmong cuts (changes_cut (records ++ r ∷ []))
cut-more records r cuts all c has =
    subst (λ (l : List Change). Contains l c) (sym (cut-push records r))
    (Contains-append_left (changes_cut records) (filter_map (λ (q : Record). change_cut q.op q.reply) (r ∷ [])) c (all c has))

cut-here : (records : List Record) (r : Record) (c : Change) → change_cut r.op r.reply ≡ Some c → Contains (changes_cut (records ++ r ∷ [])) c
cut-here records r c is =
    subst (λ (l : List Change). Contains l c) (sym (cut-push records r))
    (Contains-append_right (changes_cut records) (filter_map (λ (q : Record). change_cut q.op q.reply) (r ∷ [])) c
    (subst (λ (o : Option Change). Contains (cons_option o []) c) (sym is) (0, omega arith, refl)))

-- one call more has as its index how many there are
calls-push : (caller : ℕ) (asked : List CallerOp) (call : CallerOp) (reply : Reply) (records : List Record) → All (λ (a : CallerOp). a.caller ≡ caller) asked → call.caller ≡ caller → map call_of records ≡ numbered asked →
    map call_of (records ++ recorded (length asked) call reply ∷ []) ≡ numbered (asked ++ call ∷ [])
calls-push caller asked call reply records one same calls =
    map-append call_of records (recorded (length asked) call reply ∷ []) ∙ ap (λ (cs : List Call). cs ++ call_of (recorded (length asked) call reply) ∷ []) calls
    ∙ sym (numbered-push caller asked call one same)

-- nothing is placed, and no change is cut off, by one that was not begun
unstarted-writes : (r : Record) → r.reply ≡ Unstarted → write_of r ≡ []
unstarted-writes r is = ap (λ (q : Reply). write_of (record { caller = r.caller; index = r.index; op = r.op; reply = q })) is

begins-push : (records : List Record) (r : Record) → BeginsFirst records → (length records ≡ 0 → r.reply ≢ Unstarted) → BeginsFirst (records ++ r ∷ [])
begins-push [] r first here = here refl
begins-push (q ∷ records) r first here = first

one : (P : Record → Type 0) (r : Record) → P r → All P (r ∷ [])
one P r here = All-push P [] r (λ k d within. absurd (omega (arith, within))) here

-- a stop goes on by calls that are not begun
stop-push : (limit : ℕ) (m : Map) (place : ℕ) (rest : List Record) (r : Record) → IsStop limit m place rest → r.reply ≡ Unstarted → IsStop limit m place (rest ++ r ∷ [])
stop-push limit m place [] r stops is = (inl is, λ k d within. absurd (omega (arith, within)))
stop-push limit m place (q ∷ rest) r stops is = (stops.0, All-push (λ (s : Record). s.reply ≡ Unstarted) rest r stops.1 is)

no-rest : (rest : List Record) (r : Record) → rest ++ r ∷ [] ≡ [] → ⊥
no-rest [] r is = let long = ap length is in omega arith
no-rest (q ∷ rest) r is = let long = ap length is in omega arith

-- a call that was answered or cut off was begun
answered-begun : (m : Map) (place : ℕ) (op : Op) (reply : Reply) → IsAnswerNow m place op reply → reply ≢ Unstarted
answered-begun m place op (Old old at_place) now is = cc
answered-begun m place op (Parts parts cut) now is = cc
answered-begun m place op Full now is = cc
answered-begun m place op (Spent clock) now is = cc
answered-begun m place op (Cut mark) now is = now
answered-begun m place op Unstarted now is = now

cut-begun : (limit : ℕ) (m : Map) (place : ℕ) (op : Op) (reply : Reply) → IsCutNow limit m place op reply → reply ≢ Unstarted
cut-begun limit m place op (Old old at_place) now is = now
cut-begun limit m place op (Parts parts cut) now is = cc
cut-begun limit m place op Full now is = now
cut-begun limit m place op (Spent clock) now is = now
cut-begun limit m place op (Cut mark) now is = cc
cut-begun limit m place op Unstarted now is = now

-- the anchors where it stands
anchors_fold : (slots : ℕ) (t : Standing) (records : List Record) → (fold (stands_after slots) t records).anchors ≡ anchors_end slots t.map t.anchors records
anchors_fold slots t [] = refl
anchors_fold slots t (r ∷ records) = anchors_fold slots (stands_after slots t r) records

module _ (slots most limit budget left left' place place' caller : ℕ) (s : MapState) (asked : List CallerOp) (records : List Record) (now new : MapState) (call : CallerOp) (reply : Reply)
    (was : Stopping slots most limit budget left place s asked records now) (all : All (λ (a : CallerOp). a.caller ≡ caller) asked) (same : call.caller ≡ caller)
    (counted : place' ≡ place + length (write_of (recorded (length asked) call reply))) (told : Replies slots most limit now place call.op left reply left' new) where
  abbrev r : Record
  r = recorded (length asked) call reply

  calls' : map call_of (records ++ r ∷ []) ≡ numbered (asked ++ call ∷ [])
  calls' = calls-push caller asked call reply records all same was.calls

  placed' : place' ≡ length (writes_of (records ++ r ∷ []))
  placed' = let was_placed = was.placed in let pushed = ap length (writes_of-push records r) ∙ length-append (writes_of records) (write_of r) in omega (arith, counted, was_placed, pushed)

  longer : 0 < length (records ++ r ∷ [])
  longer = omega (arith, length-append records (r ∷ []))

  left-none : budget ≡ 0 → left ≡ 0
  left-none is = (was.none is).0

  -- it wasn't begun
  unstarted : left ≡ 0 → left' ≡ 0 → reply ≡ Unstarted → IsSame now new → Stopping slots most limit budget left' place' s (asked ++ call ∷ []) (records ++ r ∷ []) new
  unstarted gone gone' is kept =
      let none : write_of r ≡ [] = unstarted-writes r is in record {
        done = was.done;
        rest = was.rest ++ r ∷ [];
        is = ap (λ (l : List Record). l ++ r ∷ []) was.is ∙ append_assoc was.done was.rest (r ∷ []);
        so = was.so;
        stops = stop-push limit (after_all s.contents (writes_of was.done)) (length (writes_of was.done)) was.rest r was.stops is;
        calls = calls';
        none = λ no. (gone', All-push (λ (q : Record). q.reply ≡ Unstarted) records r (was.none no).1 is);
        first = λ some. begins-push records r (was.first some) (λ empty. absurd (⊎_elim (λ (has : 0 < length records). omega (arith, has, empty)) (λ (whole : left ≡ budget). omega (arith, whole, gone, some)) was.begins));
        begins = inl longer;
        leaves = kept.0 ∙ was.leaves ∙ sym (after-push s.contents records r ∙ ap (after_all (after_all s.contents (writes_of records))) none);
        placed = placed';
        cut = subst (λ (l : List Change). AreAmong l (changes_cut (records ++ r ∷ []))) (sym kept.2) (cut-more records r now.cut was.cut);
        going = λ some. absurd (omega (arith, gone', some));
        shape = λ empty. absurd (no-rest was.rest r empty);
      }

  -- it was begun, so it is the first one that may stop
  module _ (some : 0 < left) where
    going : (was.rest ≡ []) × (now.cut ≡ [])
    going = was.going some

    so_far : records ≡ was.done
    so_far = was.is ∙ ap (λ (l : List Record). was.done ++ l) going.0 ∙ append-nil was.done

    here : now.contents ≡ after_all s.contents (writes_of was.done)
    here = was.leaves ∙ ap (λ (l : List Record). after_all s.contents (writes_of l)) so_far

    at : place ≡ length (writes_of was.done)
    at = was.placed ∙ ap (λ (l : List Record). length (writes_of l)) so_far

    some_budget : budget ≡ 0 → ⊥
    some_budget broke = let gone = left-none broke in omega arith

    pushed : records ++ r ∷ [] ≡ was.done ++ r ∷ []
    pushed = ap (λ (l : List Record). l ++ r ∷ []) so_far

    left_by : IsLeftBy now.contents call.op reply new.contents → new.contents ≡ after_all s.contents (writes_of (records ++ r ∷ []))
    left_by leaves = leaves call.caller (length asked) ∙ ap (λ (m : Map). after_all m (write_of r)) was.leaves ∙ sym (after-push s.contents records r)

    answered : reply ≢ Unstarted → WasAnswered slots most limit now place call.op reply new → Stopping slots most limit budget left' place' s (asked ++ call ∷ []) (records ++ r ∷ []) new
    answered begun a =
        let stood : Standing = record { map = now.contents; anchors = now.anchors; place = place } in
        let stands : fold (stands_after slots) (opening s.contents s.anchors) was.done ≡ stood = was.shape going.0 in
        let shape_is : now.anchors ≡ anchors_end slots s.contents s.anchors was.done = anchors-of was.done stands in
        let late = late_is limit stood call.op in
        let left : record { map = new.contents; anchors = new.anchors; place = place' } ≡ stands_after slots stood r =
        λ i. record { map = a.left call.caller (length asked) i; anchors = a.anchors i; place = counted i } in
        record {
          done = was.done ++ r ∷ [];
          rest = [];
          is = pushed ∙ sym (append-nil (was.done ++ r ∷ []));
          so = record {
            answers = along (λ (m : Map) (k : ℕ) (q : Record). IsAnswerNow m k q.op q.reply) was.so.answers a.now;
            spent = along (λ (m : Map) (k : ℕ) (q : Record). IsSpent q.reply ↔ (IsWriter q.op × (limit ≤ k))) was.so.spent a.spent;
            full = HoldsFrom-push (stands_after slots) (λ t q. (q.reply ≡ Full) ↔ ((ComesLate limit t q.op → ⊥) × PutsFull slots most t.map t.anchors q.op)) (opening s.contents s.anchors) was.done r was.so.full
                (subst (λ (t : Standing). (r.reply ≡ Full) ↔ ((ComesLate limit t r.op → ⊥) × PutsFull slots most t.map t.anchors r.op)) (sym stands)
                ((λ is. ((λ comes. (a.full.0 is).0 (late.0 comes)), (a.full.0 is).1)), (λ is. a.full.1 ((λ comes. is.0 (late.1 comes)), is.1))));
            bounds = HoldsInShape-push slots (λ m shape q. EndsWithMembers shape q.reply) s.contents s.anchors was.done r was.so.bounds (subst (λ shape. EndsWithMembers shape r.reply) shape_is a.bounds);
          };
          stops = tt;
          calls = calls';
          none = λ no. absurd (some_budget no);
          first = λ _. begins-push records r (was.first (omega (arith, some_enough))) (λ _. begun);
          begins = inl longer;
          leaves = left_by a.left;
          placed = placed';
          cut = λ c has. absurd (let empty : Contains [] c = subst (λ (l : List Change). Contains l c) (a.cut ∙ going.1) has in omega (arith, empty.1));
          going = λ _. (refl, a.cut ∙ going.1);
          shape = λ _. fold-append (stands_after slots) (opening s.contents s.anchors) was.done (r ∷ []) ∙ ap (λ (t : Standing). stands_after slots t r) stands ∙ sym left;
        }
      where
        some_enough : 0 < budget
        some_enough = ⊎_elim (λ (none : budget ≡ 0). absurd (some_budget none)) (λ (other : budget ≢ 0). omega arith) (cases_eq budget 0)

        along : (P : Map → ℕ → Record → Type 0) → HoldsAlong P s.contents 0 was.done → P now.contents place r → HoldsAlong P s.contents 0 (was.done ++ r ∷ [])
        along P before holds = HoldsAlong-push P s.contents 0 was.done r before
            (subst (λ k. P (after_all s.contents (writes_of was.done)) k r) (at ∙ sym (zero-add (length (writes_of was.done)))) (subst (λ m. P m place r) here holds))

        anchors-of : (records : List Record) → fold (stands_after slots) (opening s.contents s.anchors) records ≡ record { map = now.contents; anchors = now.anchors; place = place } → now.anchors ≡ anchors_end slots s.contents s.anchors records
        anchors-of records stands = sym (ap (λ (t : Standing). t.anchors) stands) ∙ anchors_fold slots (opening s.contents s.anchors) records

    cut_off : reply ≢ Unstarted → left' ≡ 0 → WasCutOff limit now place call.op reply new → Stopping slots most limit budget left' place' s (asked ++ call ∷ []) (records ++ r ∷ []) new
    cut_off begun gone' w = record {
      done = was.done;
      rest = r ∷ [];
      is = pushed;
      so = was.so;
      stops = (inr (subst (λ (q : Map × ℕ). IsCutNow limit q.0 q.1 r.op r.reply) (λ k. (here k, at k)) w.now), λ k d within. absurd (omega (arith, within)));
      calls = calls';
      none = λ no. absurd (some_budget no);
      first = λ enough. begins-push records r (was.first enough) (λ _. begun);
      begins = inl longer;
      leaves = left_by w.left;
      placed = placed';
      cut = λ c has. cut-here records r c (w.cut c has);
      going = λ more. absurd (omega (arith, gone', more));
      shape = λ empty. absurd (no-rest [] r empty);
    }

  pub stopping-push : Stopping slots most limit budget left' place' s (asked ++ call ∷ []) (records ++ r ∷ []) new
  stopping-push = ⊎_elim
      (λ (none : (left ≡ 0) × (left' ≡ 0) × (reply ≡ Unstarted) × IsSame now new). unstarted none.0 none.1 none.2 none.3)
      (λ (begun : (0 < left) × (WasAnswered slots most limit now place call.op reply new ⊎ ((left' ≡ 0) × WasCutOff limit now place call.op reply new))).
      ⊎_elim
      (λ (a : WasAnswered slots most limit now place call.op reply new). answered begun.0 (answered-begun now.contents place call.op reply a.now) a)
      (λ (c : (left' ≡ 0) × WasCutOff limit now place call.op reply new). cut_off begun.0 (cut-begun limit now.contents place call.op reply c.1.now) c.0 c.1)
      begun.1)
      told

-- at its end
pub stopped : (slots most limit budget left place : ℕ) (s : MapState) (asked : List CallerOp) (records : List Record) (now : MapState) → Stopping slots most limit budget left place s asked records now → HasStopped slots most limit budget s asked records now
stopped slots most limit budget left place s asked records now was = record {
  stop = record { done = was.done; rest = was.rest; is = was.is; answers = was.so.answers; spent = was.so.spent; stops = was.stops };
  full = was.so.full;
  bounds = was.so.bounds;
  in_script_order = was.calls;
  within = record { none = λ no. (was.none no).1; first = was.first };
  leaves = was.leaves;
  cut = was.cut;
}

-- a turn of the updater changes nothing that is told of it
pub stopping-same : (slots most limit budget left place : ℕ) (s : MapState) (asked : List CallerOp) (records : List Record) (now new : MapState) → Stopping slots most limit budget left place s asked records now → IsSame now new → Stopping slots most limit budget left place s asked records new
stopping-same slots most limit budget left place s asked records now new was same =
    subst (Stopping slots most limit budget left place s asked records) (λ i. record { contents = sym same.0 i; anchors = sym same.1 i; cut = sym same.2 i }) was

-- one call more, as the loop has it
pub stopping-call : (slots most limit budget left left' place place' caller : ℕ) (s : MapState) (ops asked : List CallerOp) (index : ℕ) (records records' : List Record) (now new end : MapState) (call : CallerOp) (reply : Reply) →
    Stopping slots most limit budget left place s (take index ops) records now → All (λ (a : CallerOp). a.caller ≡ caller) ops → asked ≡ ops → index < length asked → call ≡ get_or asked index call →
    place' ≡ place + length (write_of (recorded index call reply)) → Replies slots most limit now place call.op left reply left' new → IsSame new end → records' ≡ records ++ recorded index call reply ∷ [] →
    Stopping slots most limit budget left' place' s (take (index + 1) ops) records' end
stopping-call slots most limit budget left left' place place' caller s ops asked index records records' now new end call reply was all same within is counted told turned grown =
    let fits : index < length ops = subst (λ (l : List CallerOp). index < length l) same within in
    let here : call ≡ get_or ops index call = is ∙ ap (λ (l : List CallerOp). get_or l index call) same in
    let before : List CallerOp = take index ops in
    let size : length before ≡ index = length-take-le index ops (omega (arith, fits)) in
    let longer : take (index + 1) ops ≡ before ++ call ∷ [] = take_more ops index call fits ∙ ap (λ (a : CallerOp). before ++ a ∷ []) (sym here) in
    let own : call.caller ≡ caller = ap (λ (a : CallerOp). a.caller) here ∙ all index call fits in
    let count : place' ≡ place + length (write_of (recorded (length before) call reply)) = counted ∙ ap (λ (k : ℕ). place + length (write_of (recorded k call reply))) (sym size) in
    let pushed = stopping-push slots most limit budget left left' place place' caller s before records now new call reply was (All-take (λ (a : CallerOp). a.caller ≡ caller) index ops all) own count told in
    subst (λ (q : List CallerOp × List Record). Stopping slots most limit budget left' place' s q.0 q.1 end)
    (λ k. (sym longer k, (ap (λ (n : ℕ). records ++ recorded n call reply ∷ []) size ∙ sym grown) k))
    (stopping-same slots most limit budget left' place' s (before ++ call ∷ []) (records ++ recorded (length before) call reply ∷ []) new end pushed turned)

-- all calls
pub stopped-whole : (slots most limit budget left place : ℕ) (s : MapState) (ops asked : List CallerOp) (index : ℕ) (records records' : List Record) (now : MapState) → Stopping slots most limit budget left place s (take index ops) records now →
    asked ≡ ops → length asked ≤ index → records' ≡ records → HasStopped slots most limit budget s ops records' now
stopped-whole slots most limit budget left place s ops asked index records records' now was same whole is =
    let all : take index ops ≡ ops = take_all index ops (subst (λ (l : List CallerOp). length l ≤ index) same whole) in
    subst (λ (q : List CallerOp × List Record). HasStopped slots most limit budget s q.0 q.1 now) (λ k. (all k, sym is k)) (stopped slots most limit budget left place s (take index ops) records now was)

pub one_at_most : (b : Bool) (n : ℕ) → n ≡ cond b 1 0 → n ≤ 1
one_at_most true n is = omega (arith, is)
one_at_most false n is = omega (arith, is)

-- ---- what the report tells, and what the map weighs

pub added-push : (records : List Record) (more : Record) → puts_added (records ++ more ∷ []) ≡ puts_added records + one_added more.op more.reply
added-push [] more = omega arith
added-push (q ∷ records) more = let rest = added-push records more in omega (arith, rest)

pub told-push : (ops asked : List CallerOp) (index : ℕ) (call : CallerOp) (reply : Reply) (records : List Record) → All (λ (a : CallerOp). (a.caller < 16) × IsReportOp a.op) ops → asked ≡ ops → index < length asked →
    call ≡ get_or asked index call → IsTold call.op reply → All SettlesToReport records → All SettlesToReport (records ++ recorded index call reply ∷ [])
told-push ops asked index call reply records calls same within is told all =
    let fits : index < length ops = subst (λ (l : List CallerOp). index < length l) same within in
    let here = subst (λ (a : CallerOp). (a.caller < 16) × IsReportOp a.op) (sym (is ∙ ap (λ (l : List CallerOp). get_or l index call) same)) (calls index call fits) in
    All-push SettlesToReport records (recorded index call reply) all (λ end. record { caller = here.0; op = here.1; reply = told end })
