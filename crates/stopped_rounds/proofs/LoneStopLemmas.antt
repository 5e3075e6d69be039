-- A round of one caller that stopped is a legal one that stopped.
use Rattle.std.proofs.Common.{◌≡◌, ◌≢◌, ℕ, zero, suc, inl, inr, zero-add, ⊎_elim, true, false, ◌-◌, ◌↔◌, ◌+◌, ◌<◌, ◌≤◌, List, [], ◌∷◌, ◌++◌, length, get_or, map, refl, sym, ap, subst, ◌∙◌, arith, length-append, add-zero}
use Rattle.std.proofs.lemmas.Bool.{cases_lt}
use Rattle.std.proofs.lemmas.List.{get_or-map, length-map, get_or_append_left, get_or-append_right}
use Rattle.std.proofs.lemmas.List.Sums.{fold-append}
use Rattle.std.proofs.lemmas.List.Elements.{All-from_recursion, recursion_from_All}
use Rattle.std.specs.Prelude.{Some, All, slice_get}
use Rattle.std.specs.List.{AllByRecursion}
use Rattle.cat_history.specs.Maps.{Map}
use Rattle.cat_history.specs.Writes.{after_all, changed}
use Rattle.cat_history.proofs.AnsweredLemmas.{answered_come_first}
use Rattle.cat_history.proofs.LoneRoundLemmas.{writes_of-cons, StandsNow, Stands, answered-stands, length-numbered, index-along, answered-along, standing_are_legal}
use Rattle.cat_history.specs.Records.{Call, call_of, numbered, numbered_after}
use Rattle.cat_history.specs.Rounds.{answered_records, IsWriter, IsAnswered}
use Rattle.cat_history.specs.LoneRounds.{write_of, writes_of, HoldsAlong, IsAnswerNow, IsSpent}
use Rattle.cat_history.specs.CrashRounds.{StopsOnce, KeepsBudget, IsUnsettled}
use Rattle.cat_history.specs.declared.op.CallerOp.{CallerOp}
use Rattle.cat_history.specs.declared.op.Op.{Op}
use Rattle.cat_history.specs.declared.op.Write.{Write}
use Rattle.cat_history.specs.declared.record.CutMark.TheVariants.{At, Open, Found, Lost, Read}
use Rattle.cat_history.specs.declared.record.Record.{Record}
use Rattle.cat_history.specs.declared.record.Reply.{Reply}
use Rattle.cat_history.specs.declared.record.Reply.TheVariants.{Old, Parts, Full, Spent, Cut, Unstarted}
use Rattle.stopped_rounds.specs.LoneStops.{IsCutNow, IsStop, IsLoneStop, BeginsFirst, IsWithin, LoneStopsAreStoppedRounds, AnsweredAreDone}

cut-stands : (limit : ℕ) (m : Map) (place : ℕ) (op : Op) (reply : Reply) → IsCutNow limit m place op reply → StandsNow limit m place op reply
cut-stands limit m place op (Old old at_place) now = absurd now
cut-stands limit m place op (Parts parts cut) now = (now.1, now.2)
cut-stands limit m place op Full now = absurd now
cut-stands limit m place op (Spent clock) now = absurd now
cut-stands limit m place op (Cut mark) now = now
cut-stands limit m place op Unstarted now = absurd now

unstarted-stands : (limit : ℕ) (m : Map) (place : ℕ) (op : Op) (reply : Reply) → reply ≡ Unstarted → StandsNow limit m place op reply
unstarted-stands limit m place op reply is = subst (StandsNow limit m place op) (sym is) tt

-- along all records
all-unstarted : (limit : ℕ) (m : Map) (place : ℕ) (rs : List Record) → AllByRecursion (λ (r : Record). r.reply ≡ Unstarted) rs → HoldsAlong (Stands limit) m place rs
all-unstarted limit m place [] all = tt
all-unstarted limit m place (r ∷ rs) all = (unstarted-stands limit m place r.op r.reply all.0, all-unstarted limit (after_all m (write_of r)) (place + length (write_of r)) rs all.1)

rest-stands : (limit : ℕ) (m : Map) (place : ℕ) (rs : List Record) → IsStop limit m place rs → HoldsAlong (Stands limit) m place rs
rest-stands limit m place [] stops = tt
rest-stands limit m place (r ∷ rs) stops = (
  ⊎_elim (λ (none : r.reply ≡ Unstarted). unstarted-stands limit m place r.op r.reply none) (λ (cut : IsCutNow limit m place r.op r.reply). cut-stands limit m place r.op r.reply cut) stops.0,
  all-unstarted limit (after_all m (write_of r)) (place + length (write_of r)) rs (recursion_from_All (λ (q : Record). q.reply ≡ Unstarted) rs stops.1),
)

stands-along : (limit : ℕ) (m : Map) (place : ℕ) (done rest : List Record) → HoldsAlong (λ (n : Map) (k : ℕ) (r : Record). IsAnswerNow n k r.op r.reply) m place done → HoldsAlong (λ (n : Map) (k : ℕ) (r : Record). IsSpent r.reply ↔ (IsWriter r.op × (limit ≤ k))) m place done
    → HoldsAlong (Stands limit) (after_all m (writes_of done)) (place + length (writes_of done)) rest → HoldsAlong (Stands limit) m place (done ++ rest)
stands-along limit m place [] rest along spent more = subst (λ n. HoldsAlong (Stands limit) m n rest) (add-zero place) more
stands-along limit m place (r ∷ rs) rest along spent more =
    let split : writes_of (r ∷ rs) ≡ write_of r ++ writes_of rs = writes_of-cons r rs in
    let map_is : after_all m (writes_of (r ∷ rs)) ≡ after_all (after_all m (write_of r)) (writes_of rs) =
    ap (after_all m) split ∙ fold-append (λ n (w : Write). changed n w.change) m (write_of r) (writes_of rs) in
    let place_is : place + length (writes_of (r ∷ rs)) ≡ (place + length (write_of r)) + length (writes_of rs) =
    ap (λ ws. place + length ws) split ∙ omega (arith, length-append (write_of r) (writes_of rs)) in (
      answered-stands limit m place r.op r.reply along.0 spent.0,
      stands-along limit (after_all m (write_of r)) (place + length (write_of r)) rs rest along.1 spent.1
          (subst (λ n. HoldsAlong (Stands limit) (after_all (after_all m (write_of r)) (writes_of rs)) n rest) place_is
          (subst (λ n. HoldsAlong (Stands limit) n (place + length (writes_of (r ∷ rs))) rest) map_is more)),
    )

-- each stands unsettled
unsettled-now : (limit : ℕ) (m : Map) (place : ℕ) (op : Op) (reply : Reply) → StandsNow limit m place op reply → IsUnsettled reply
unsettled-now limit m place op (Old old at_place) now = tt
unsettled-now limit m place op (Parts parts cut) now = tt
unsettled-now limit m place op Full now = tt
unsettled-now limit m place op (Spent clock) now = tt
unsettled-now limit m place op (Cut (At at_place)) now = (λ e. cc, λ e. cc)
unsettled-now limit m place op (Cut Open) now = (λ e. cc, λ e. cc)
unsettled-now limit m place op (Cut Found) now = absurd now.1
unsettled-now limit m place op (Cut Lost) now = absurd now.1
unsettled-now limit m place op (Cut Read) now = (λ e. cc, λ e. cc)
unsettled-now limit m place op Unstarted now = tt

unsettled-along : (limit : ℕ) (m : Map) (place : ℕ) (rs : List Record) → HoldsAlong (Stands limit) m place rs → AllByRecursion (λ (r : Record). IsUnsettled r.reply) rs
unsettled-along limit m place [] along = tt
unsettled-along limit m place (r ∷ rs) along =
    (unsettled-now limit m place r.op r.reply along.0, unsettled-along limit (after_all m (write_of r)) (place + length (write_of r)) rs along.1)

-- behind one that isn't answered none was begun
stops-at : (limit : ℕ) (m : Map) (place : ℕ) (rest : List Record) → IsStop limit m place rest → (k : ℕ) → 0 < k → k < length rest → (d : Record) → (get_or rest k d).reply ≡ Unstarted
stops-at limit m place [] stops k some within d = absurd (omega (arith, within))
stops-at limit m place (r ∷ rs) stops zero some within d = absurd (omega (arith, some))
stops-at limit m place (r ∷ rs) stops (suc k) some within d = stops.1 k d (omega (arith, within))

stops-once : (limit caller : ℕ) (asked : List CallerOp) (base : Map) (records : List Record) → All (λ (a : CallerOp). a.caller ≡ caller) asked → map call_of records ≡ numbered asked →
    IsLoneStop limit base records → StopsOnce records
stops-once limit caller asked base records one is stop r s has_r has_s same less =
    let first : r.index ≡ has_r.0 = ap (λ (q : Record). q.index) (sym has_r.2) ∙ index-along caller asked records one is has_r.0 has_r.1 r in
    let second : s.index ≡ has_s.0 = ap (λ (q : Record). q.index) (sym has_s.2) ∙ index-along caller asked records one is has_s.0 has_s.1 s in
    let behind : has_r.0 < has_s.0 = omega (arith, first, second, less) in
    let size : length records ≡ length stop.done + length stop.rest = ap length stop.is ∙ length-append stop.done stop.rest in
    let parts : (k : ℕ) (d : Record) → get_or records k d ≡ get_or (stop.done ++ stop.rest) k d = λ k d. ap (λ (l : List Record). get_or l k d) stop.is in
    ⊎_elim
    (λ (early : has_r.0 < length stop.done).
    let here : get_or stop.done has_r.0 r ≡ r = sym (get_or_append_left stop.done stop.rest r has_r.0 early) ∙ sym (parts has_r.0 r) ∙ has_r.2 in
    inl (subst (λ (q : Record). IsAnswered q.reply) here (All-from_recursion (λ (q : Record). IsAnswered q.reply) stop.done (answered-along base 0 stop.done stop.answers) has_r.0 r early)))
    (λ (late : length stop.done ≤ has_r.0).
    let there : get_or stop.rest (has_s.0 - length stop.done) s ≡ s = sym (get_or-append_right stop.done stop.rest (length stop.done) has_s.0 s refl (omega (arith, late, behind))) ∙ sym (parts has_s.0 s) ∙ has_s.2 in
    inr (sym (ap (λ (q : Record). q.reply) there)
    ∙ stops-at limit (after_all base (writes_of stop.done)) (length (writes_of stop.done)) stop.rest stop.stops (has_s.0 - length stop.done) (omega (arith, late, behind)) (omega (arith, late, behind, has_s.1, size)) s))
    (cases_lt has_r.0 (length stop.done))

-- the budget of the one caller is kept
some-same : (a b : ℕ) → Some a ≡ Some b → a ≡ b
some-same a b e = cc

caller-along : (caller : ℕ) (before : List ℕ) (asked : List CallerOp) → AllByRecursion (λ (a : CallerOp). a.caller ≡ caller) asked → (k : ℕ) → k < length asked → (d : Call) → (get_or (numbered_after before asked) k d).caller ≡ caller
caller-along caller before [] one k within d = absurd (omega (arith, within))
caller-along caller before (a ∷ asked) one zero within d = one.0
caller-along caller before (a ∷ asked) one (suc k) within d = caller-along caller (before ++ a.caller ∷ []) asked one.1 k (omega (arith, within)) d

begins-first : (records : List Record) → BeginsFirst records → (k : ℕ) → k < length records → (d : Record) → k ≡ 0 → (get_or records k d).reply ≢ Unstarted
begins-first [] first k within d is = absurd (omega (arith, within))
begins-first (r ∷ rs) first zero within d is = first
begins-first (r ∷ rs) first (suc k) within d is = absurd (omega (arith, is))

keeps-budget : (limit caller budget : ℕ) (asked : List CallerOp) (budgets : List ℕ) (records : List Record) → All (λ (a : CallerOp). a.caller ≡ caller) asked → map call_of records ≡ numbered asked →
    slice_get budgets caller ≡ Some budget → IsWithin budget records → All (KeepsBudget budgets) records
keeps-budget limit caller budget asked budgets records one is has within k d less =
    let r = get_or records k d in
    let sizes : length records ≡ length asked = sym (length-map records call_of) ∙ ap length is ∙ length-numbered [] asked in
    let at_k : call_of r ≡ get_or (numbered asked) k (call_of d) = sym (get_or-map call_of records k d (call_of d) less) ∙ ap (λ cs. get_or cs k (call_of d)) is in
    let own : r.caller ≡ caller = ap (λ (c : Call). c.caller) at_k ∙ caller-along caller [] asked (recursion_from_All (λ (a : CallerOp). a.caller ≡ caller) asked one) k (omega (arith, less, sizes)) (call_of d) in
    let index : r.index ≡ k = index-along caller asked records one is k less d in
    let mine : slice_get budgets r.caller ≡ Some budget = ap (slice_get budgets) own ∙ has in
    record {
      none = λ zero_is. let no : budget ≡ 0 = some-same budget 0 (sym mine ∙ zero_is) in within.none no k d less;
      first = λ other is_other some first. let same : budget ≡ other = some-same budget other (sym mine ∙ is_other) in
          begins-first records (within.first (omega (arith, same, some))) k less d (sym index ∙ first);
    }

pub lone_stops_are_stopped : LoneStopsAreStoppedRounds
lone_stops_are_stopped base caller budget asked limit budgets records one is has within stop =
    let along : HoldsAlong (Stands limit) base 0 records =
    subst (HoldsAlong (Stands limit) base 0) (sym stop.is)
    (stands-along limit base 0 stop.done stop.rest stop.answers stop.spent
    (subst (λ n. HoldsAlong (Stands limit) (after_all base (writes_of stop.done)) n stop.rest) (sym (zero-add (length (writes_of stop.done))))
    (rest-stands limit (after_all base (writes_of stop.done)) (length (writes_of stop.done)) stop.rest stop.stops))) in
    record {
      legal = standing_are_legal base caller asked limit records one is along;
      once = stops-once limit caller asked base records one is stop;
      budget = keeps-budget limit caller budget asked budgets records one is has within;
      unsettled = All-from_recursion (λ r. IsUnsettled r.reply) records (unsettled-along limit base 0 records along);
    }

-- none behind the answered calls was answered
cut-unanswered : (limit : ℕ) (m : Map) (place : ℕ) (op : Op) (reply : Reply) → IsCutNow limit m place op reply → IsAnswered reply → ⊥
cut-unanswered limit m place op (Old old at_place) now answered = now
cut-unanswered limit m place op (Parts parts cut) now answered = let no : true ≡ false = sym now.0 ∙ answered in cc
cut-unanswered limit m place op Full now answered = now
cut-unanswered limit m place op (Spent clock) now answered = now
cut-unanswered limit m place op (Cut mark) now answered = answered
cut-unanswered limit m place op Unstarted now answered = answered

unstarted-unanswered : (reply : Reply) → reply ≡ Unstarted → IsAnswered reply → ⊥
unstarted-unanswered reply is answered = subst IsAnswered is answered

rest-unanswered : (limit : ℕ) (m : Map) (place : ℕ) (rs : List Record) → IsStop limit m place rs → AllByRecursion (λ (r : Record). IsAnswered r.reply → ⊥) rs
rest-unanswered limit m place [] stops = tt
rest-unanswered limit m place (r ∷ rs) stops = (
  ⊎_elim (λ (none : r.reply ≡ Unstarted). unstarted-unanswered r.reply none) (λ (cut : IsCutNow limit m place r.op r.reply). cut-unanswered limit m place r.op r.reply cut) stops.0,
  recursion_from_All (λ (q : Record). IsAnswered q.reply → ⊥) rs (λ k d inside. unstarted-unanswered (get_or rs k d).reply (stops.1 k d inside)),
)

pub answered_are_done : AnsweredAreDone
answered_are_done limit base records stop =
    ap answered_records stop.is
    ∙ answered_come_first stop.done stop.rest
    (All-from_recursion (λ (r : Record). IsAnswered r.reply) stop.done (answered-along base 0 stop.done stop.answers))
    (All-from_recursion (λ (r : Record). IsAnswered r.reply → ⊥) stop.rest
    (rest-unanswered limit (after_all base (writes_of stop.done)) (length (writes_of stop.done)) stop.rest stop.stops))
