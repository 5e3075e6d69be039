-- What the records of a round keep once their marks are settled, and how many names the map has that was found.
use Rattle.std.proofs.Common.{◌≡◌, ℕ, ◌+◌, ◌≤◌, ⊎_elim, Bool, true, false, not, cond, List, [], ◌∷◌, ◌++◌, length, map, All, refl, sym, ap, subst, ◌∙◌, arith, append-nil}
use Rattle.std.proofs.lemmas.Bool.{false≢true}
use Rattle.std.proofs.lemmas.List.Elements.{All-map, filter_map-append, recursion_from_All}
use Rattle.std.proofs.lemmas.List.Sums.{fold-append}
use Rattle.std.specs.Prelude.{Option, Some, None}
use Rattle.std.specs.Option.{is_none}
use Rattle.std.specs.FinMap.{len, insert}
use Rattle.std.specs.List.{AllByRecursion, cons_option}
use Rattle.cat_history.specs.Maps.{Map, at}
use Rattle.cat_history.specs.Records.{call_of, placed_write}
use Rattle.cat_history.specs.Rounds.{is_answered, answered_records}
use Rattle.cat_history.specs.Writes.{after_all, changed}
use Rattle.cat_history.specs.LoneRounds.{write_of, writes_of, HoldsAlong, IsAnswerNow}
use Rattle.cat_history.specs.CrashEnds.{IsCrashEnd, after_changes, found_in, is_found}
use Rattle.cat_history.specs.CrashRounds.{all_settled, change_cut, changes_cut, settled, settled_reply}
use Rattle.cat_history.specs.declared.op.Change.{Change}
use Rattle.cat_history.specs.declared.op.Change.TheVariants as change
use Rattle.cat_history.specs.declared.op.Op.{Op}
use Rattle.cat_history.specs.declared.op.Op.TheVariants.{Put, Get, Del, Scan}
use Rattle.cat_history.specs.declared.op.Write.{Write}
use Rattle.cat_history.specs.declared.record.CutMark.{CutMark}
use Rattle.cat_history.specs.declared.record.CutMark.TheVariants.{At, Open, Found, Lost, Read}
use Rattle.cat_history.specs.declared.record.Record.{Record}
use Rattle.cat_history.specs.declared.record.Reply.{Reply}
use Rattle.cat_history.specs.declared.record.Reply.TheVariants.{Old, Parts, Full, Spent, Cut, Unstarted}
use Rattle.cat_history.proofs.LoneRoundLemmas.{writes_of-append, writes_of-cons}
use Rattle.cat_history.proofs.SettleLemmas.{alike, alike_given, write-same}
use Rattle.cat_text.specs.ReportGrammar.{IsReportRecord}
use Rattle.shapes.specs.ShapeRounds.{one_added, puts_added}
use Rattle.shapes.specs.Weights.{one_if}
use Rattle.shapes.proofs.RoundLemmas.{del-names, put-names}
use Rattle.stopped_rounds.specs.LoneStops.{IsCutNow, IsLoneStop, IsStop}
use Rattle.stopped_rounds.specs.Replies.{SettlesToReport}

-- ---- settled records

module _ (end : Map) where
  pub calls-settled : (records : List Record) → map call_of (all_settled end records) ≡ map call_of records
  calls-settled records = alike (settled end) call_of (λ r. refl) records

  pub writes-settled : (records : List Record) → writes_of (all_settled end records) ≡ writes_of records
  writes-settled records = ap (map (λ (w : ℕ × Write). w.1)) (alike_given (settled end) placed_write (write-same end) records)

  test-settled : (op : Op) (reply : Reply) → is_answered (settled_reply end op reply) ≡ is_answered reply
  test-settled op (Old old place) = refl
  test-settled op (Parts parts cut) = refl
  test-settled op Full = refl
  test-settled op (Spent clock) = refl
  test-settled op (Cut mark) = refl
  test-settled op Unstarted = refl

  -- the reply of a call that was answered stays
  reply-stays : (op : Op) (reply : Reply) → is_answered reply ≡ true → settled_reply end op reply ≡ reply
  reply-stays op (Old old place) is = refl
  reply-stays op (Parts parts cut) is = refl
  reply-stays op Full is = refl
  reply-stays op (Spent clock) is = refl
  reply-stays op (Cut mark) is = absurd (false≢true is)
  reply-stays op Unstarted is = refl

  stays : (r : Record) → is_answered r.reply ≡ true → settled end r ≡ r
  stays r is = ap (λ (reply : Reply). record { caller = r.caller; index = r.index; op = r.op; reply = reply }) (reply-stays r.op r.reply is)

  answered-cons : (r : Record) (rs ss : List Record) (b : Bool) → is_answered r.reply ≡ b → rs ≡ ss →
      cond (is_answered (settled_reply end r.op r.reply)) (settled end r ∷ rs) rs ≡ cond (is_answered r.reply) (r ∷ ss) ss
  answered-cons r rs ss true is same =
      ap (λ (t : Bool). cond t (settled end r ∷ rs) rs) (test-settled r.op r.reply ∙ is) ∙ (λ k. stays r is k ∷ same k) ∙ sym (ap (λ (t : Bool). cond t (r ∷ ss) ss) is)
  answered-cons r rs ss false is same =
      ap (λ (t : Bool). cond t (settled end r ∷ rs) rs) (test-settled r.op r.reply ∙ is) ∙ same ∙ sym (ap (λ (t : Bool). cond t (r ∷ ss) ss) is)

  pub answered-settled : (records : List Record) → answered_records (all_settled end records) ≡ answered_records records
  answered-settled [] = refl
  answered-settled (r ∷ records) = answered-cons r (answered_records (all_settled end records)) (answered_records records) (is_answered r.reply) refl (answered-settled records)

  pub told-settled : (records : List Record) → All SettlesToReport records → All IsReportRecord (all_settled end records)
  told-settled records told = All-map IsReportRecord (settled end) records (λ k r inside. told k r inside end)

-- ---- how many names are found

lacking-one : (o : Option ℕ) → one_if (is_none o) ≤ 1
lacking-one None = omega arith
lacking-one (Some x) = omega arith

put-one : (m : Map) (name : List ℕ) (value : ℕ) → len (insert m name value) ≤ len m + 1
put-one m name value = let names = put-names m name value in let one = lacking-one (at m name) in omega (arith, names, one)

-- one change that was cut off and may be found
found-put : (m end : Map) (name : List ℕ) (value : ℕ) → end ≡ after_changes m (found_in end (change.Put name value ∷ [])) → len end ≤ len m + 1
found-put m end name value is = by_test (is_found end (change.Put name value)) is where
  by_test : (b : Bool) → end ≡ after_changes m (cond b (change.Put name value ∷ []) []) → len end ≤ len m + 1
  by_test true ends = let same = ap len ends in let one = put-one m name value in omega (arith, same, one)
  by_test false ends = let same = ap len ends in omega (arith, same)

found-del : (m end : Map) (name : List ℕ) → end ≡ after_changes m (found_in end (change.Del name ∷ [])) → len end ≤ len m
found-del m end name is = by_test (is_found end (change.Del name)) is where
  by_test : (b : Bool) → end ≡ after_changes m (cond b (change.Del name ∷ []) []) → len end ≤ len m
  by_test true ends = let same = ap len ends in let fewer = del-names m name in omega (arith, same, fewer)
  by_test false ends = let same = ap len ends in omega (arith, same)

-- the map that was found behind a call that wasn't answered
module _ (caller index : ℕ) (m end : Map) where
  abbrev Ends : Op → Reply → Type 0
  Ends op reply =
      end ≡ after_changes (after_all m (write_of (record { caller = caller; index = index; op = op; reply = reply }))) (found_in end (cons_option (change_cut op reply) []))

  same-names : end ≡ m → (n : ℕ) → len end ≤ len m + n
  same-names is n = let same = ap len is in omega (arith, same)

  names-put : (name : List ℕ) (value : ℕ) (mark : CutMark) → Ends (Put name value) (Cut mark) → len end ≤ len m + 1
  names-put name value (At place) is = let same = ap len is in let one = put-one m name value in omega (arith, same, one)
  names-put name value Open is = found-put m end name value is
  names-put name value Found is = found-put m end name value is
  names-put name value Lost is = found-put m end name value is
  names-put name value Read is = same-names is 1

  names-del : (name : List ℕ) (mark : CutMark) → Ends (Del name) (Cut mark) → len end ≤ len m
  names-del name (At place) is = let same = ap len is in let fewer = del-names m name in omega (arith, same, fewer)
  names-del name Open is = found-del m end name is
  names-del name Found is = found-del m end name is
  names-del name Lost is = found-del m end name is
  names-del name Read is = let same = ap len is in omega (arith, same)

  names-get : (name : List ℕ) (mark : CutMark) → Ends (Get name) (Cut mark) → end ≡ m
  names-get name (At place) is = is
  names-get name Open is = is
  names-get name Found is = is
  names-get name Lost is = is
  names-get name Read is = is

  names-scan : (from : List ℕ) (count : ℕ) (mark : CutMark) → Ends (Scan from count) (Cut mark) → end ≡ m
  names-scan from count (At place) is = is
  names-scan from count Open is = is
  names-scan from count Found is = is
  names-scan from count Lost is = is
  names-scan from count Read is = is

  names-one : (op : Op) (reply : Reply) → is_answered reply ≡ false → Ends op reply → len end ≤ len m + one_added op reply
  names-one op (Old old place) unanswered is = absurd (false≢true (sym unanswered))
  names-one op (Parts parts cut) unanswered is = same-names is (one_added op (Parts parts cut))
  names-one op Full unanswered is = absurd (false≢true (sym unanswered))
  names-one op (Spent clock) unanswered is = absurd (false≢true (sym unanswered))
  names-one (Put name value) (Cut mark) unanswered is = names-put name value mark is
  names-one (Get name) (Cut mark) unanswered is = same-names (names-get name mark is) 0
  names-one (Del name) (Cut mark) unanswered is = let fewer = names-del name mark is in omega (arith, fewer)
  names-one (Scan from count) (Cut mark) unanswered is = same-names (names-scan from count mark is) 0
  names-one op Unstarted unanswered is = same-names is (one_added op Unstarted)

-- no call behind it was begun
none-written : (rs : List Record) → AllByRecursion (λ (r : Record). r.reply ≡ Unstarted) rs → (writes_of rs ≡ []) × (changes_cut rs ≡ [])
none-written [] none = (refl, refl)
none-written (r ∷ rs) none =
    let rest = none-written rs none.1 in
    let one = ap (λ (reply : Reply). write_of (record { caller = r.caller; index = r.index; op = r.op; reply = reply })) none.0 in
    (writes_of-cons r rs ∙ (λ k. one k ++ rest.0 k), (λ k. cons_option (change_cut r.op (none.0 k)) (rest.1 k)))

cut-unanswered : (limit : ℕ) (m : Map) (place : ℕ) (op : Op) (reply : Reply) → IsCutNow limit m place op reply → is_answered reply ≡ false
cut-unanswered limit m place op (Old old at_place) now = absurd now
cut-unanswered limit m place op (Parts parts cut) now = ap not now.0
cut-unanswered limit m place op Full now = absurd now
cut-unanswered limit m place op (Spent clock) now = absurd now
cut-unanswered limit m place op (Cut mark) now = refl
cut-unanswered limit m place op Unstarted now = absurd now

rest-names : (limit : ℕ) (m : Map) (place : ℕ) (rest : List Record) (end : Map) → IsStop limit m place rest → IsCrashEnd (after_all m (writes_of rest)) (changes_cut rest) end → len end ≤ len m + puts_added rest
rest-names limit m place [] end stops is = let same = ap len is in omega (arith, same)
rest-names limit m place (r ∷ rs) end stops is =
    let none = none-written rs (recursion_from_All (λ (q : Record). q.reply ≡ Unstarted) rs stops.1) in
    let writes : writes_of (r ∷ rs) ≡ write_of r = writes_of-cons r rs ∙ ap (λ (ws : List Write). write_of r ++ ws) none.0 ∙ append-nil (write_of r) in
    let here = subst (λ (q : List Write × List Change). IsCrashEnd (after_all m q.0) (cons_option (change_cut r.op r.reply) q.1) end) (λ k. (writes k, none.1 k)) is in
    let unanswered : is_answered r.reply ≡ false = ⊎_elim (λ (none : r.reply ≡ Unstarted). ap is_answered none) (λ (cut : IsCutNow limit m place r.op r.reply). cut-unanswered limit m place r.op r.reply cut) stops.0 in
    let one = names-one r.caller r.index m end r.op r.reply unanswered here in
    omega (arith, one)

-- what was answered cuts nothing off
now-uncut : (m : Map) (place : ℕ) (op : Op) (reply : Reply) → IsAnswerNow m place op reply → change_cut op reply ≡ None
now-uncut m place op (Old old at_place) now = refl
now-uncut m place op (Parts parts cut) now = refl
now-uncut m place op Full now = refl
now-uncut m place op (Spent clock) now = refl
now-uncut m place op (Cut mark) now = absurd now
now-uncut m place op Unstarted now = absurd now

answered-uncut : (m : Map) (place : ℕ) (rs : List Record) → HoldsAlong (λ (n : Map) (k : ℕ) (r : Record). IsAnswerNow n k r.op r.reply) m place rs → changes_cut rs ≡ []
answered-uncut m place [] along = refl
answered-uncut m place (r ∷ rs) along =
    λ k. cons_option (now-uncut m place r.op r.reply along.0 k) (answered-uncut (after_all m (write_of r)) (place + length (write_of r)) rs along.1 k)

added-append : (rs ss : List Record) → puts_added (rs ++ ss) ≡ puts_added rs + puts_added ss
added-append [] ss = omega arith
added-append (r ∷ rs) ss = let rest = added-append rs ss in omega (arith, rest)

-- so there are no more names than before, and those that puts may have added
pub names-found : (limit : ℕ) (base : Map) (records : List Record) (end : Map) (stop : IsLoneStop limit base records) → len (after_all base (writes_of stop.done)) ≤ len base + puts_added stop.done →
    IsCrashEnd (after_all base (writes_of records)) (changes_cut records) end → len end ≤ len base + puts_added records
names-found limit base records end stop few is =
    let left : Map = after_all base (writes_of stop.done) in
    let writes : after_all base (writes_of records) ≡ after_all left (writes_of stop.rest) =
    ap (λ (rs : List Record). after_all base (writes_of rs)) stop.is ∙ ap (after_all base) (writes_of-append stop.done stop.rest) ∙ fold-append (λ n (w : Write). changed n w.change) base (writes_of stop.done) (writes_of stop.rest) in
    let cuts : changes_cut records ≡ changes_cut stop.rest =
    ap changes_cut stop.is ∙ filter_map-append (λ (r : Record). change_cut r.op r.reply) stop.done stop.rest ∙ ap (λ (cs : List Change). cs ++ changes_cut stop.rest) (answered-uncut base 0 stop.done stop.answers) in
    let here = subst (λ (q : Map × List Change). IsCrashEnd q.0 q.1 end) (λ k. (writes k, cuts k)) is in
    let rest = rest-names limit left (length (writes_of stop.done)) stop.rest end stop.stops here in
    let added = ap puts_added stop.is ∙ added-append stop.done stop.rest in
    omega (arith, few, rest, added)
