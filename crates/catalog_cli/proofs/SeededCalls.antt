-- Generated calls are those of a report, each caller's about names of its own; and what a round does of them where none is
-- refused.
use Rattle.std.proofs.Common.{◌≡◌, ℕ, suc, ◌+◌, ◌*◌, ◌/◌, ◌%◌, ◌<◌, ◌≤◌, ◌^◌, Bool, true, false, cond, nat_lt, List}
use Rattle.std.proofs.Common.{[], ◌∷◌, ◌++◌, length, get_or, refl, sym, ap, ◌∙◌, subst, arith}
use Rattle.std.specs.Prelude.{Option, Some, None, All, IfSome}
use Rattle.std.specs.List.{AllByRecursion, cons_option}
use Rattle.std.specs.FinMap.{empty}
use Rattle.std.proofs.Math.Nat.{mod-lt}
use Rattle.std.proofs.lemmas.Bool.{false≢true}
use Rattle.std.proofs.lemmas.List.{length-map}
use Rattle.std.proofs.lemmas.List.Elements.{All-contains, All-from_recursion}
use Rattle.std.proofs.lemmas.List.FromFn.{get_or-map-range_with_len, length-enumerate_from, length-map-range_with_len}
use Rattle.std.proofs.lemmas.List.Sorted.{length_permutation}
use Rattle.std.proofs.lemmas.List.Sums.{sum_by-cons}
use Rattle.std.proofs.lemmas.Option.{none-some, same_Some}
use Rattle.cat_key.specs.Names.{IsName, IsNameByte}
use Rattle.cat_history.specs.CrashEnds.{after_changes}
use Rattle.cat_history.specs.Maps.{Map}
use Rattle.cat_history.specs.Writes.{name_of}
use Rattle.cat_history.specs.Records.{call_of, change_asked, interval_told, numbered, numbered_after, placed_write}
use Rattle.cat_history.specs.Records.{placed_writes}
use Rattle.cat_history.specs.Rounds.{IsAnswer, IsAnswered, IsJoinedRound}
use Rattle.cat_history.specs.declared.op.CallerOp.{CallerOp}
use Rattle.cat_history.specs.declared.op.Change.{Change}
use Rattle.cat_history.specs.declared.op.Change.TheVariants as change
use Rattle.cat_history.specs.declared.op.Op.{Op}
use Rattle.cat_history.specs.declared.op.Op.TheVariants.{Put, Get, Del, Scan}
use Rattle.cat_history.specs.declared.op.Write.{Write}
use Rattle.cat_history.specs.declared.plan.RoundPlan.{RoundPlan}
use Rattle.cat_history.specs.declared.record.Record.{Record}
use Rattle.cat_history.specs.declared.record.Reply.{Reply}
use Rattle.cat_history.specs.declared.record.Reply.TheVariants.{Old, Parts, Full, Spent, Cut, Unstarted}
use Rattle.cat_script.specs.Generators.{drawn, generated_name, chosen_op, generated_call, generated_calls}
use Rattle.cat_script.specs.Generators.{generated_plan}
use Rattle.cat_text.specs.ReportGrammar.{IsReportOp}
use Rattle.cat_text.specs.Summaries.{summary_line}
use Rattle.cat_text.specs.declared.report.RoundReport.{RoundReport}
use Rattle.cat_text.specs.declared.summary.Summary.{Summary}
use Rattle.shapes.specs.Anchors.{Anchors}
use Rattle.caller_rounds.specs.Apart.{AreApart, TookPlace, changes_asked}
use Rattle.caller_rounds.proofs.LoneOrder.{lone_is_in_order}
use Rattle.crowd_rounds.specs.core_rounds.specs.LoneCalls.{AreReportCalls, IsReportCall, calls_in}
use Rattle.crowd_rounds.specs.core_rounds.specs.Rounds.{ArePlayed, IsRoundTo}
use Rattle.crowd_rounds.specs.core_rounds.specs.Rounds.ArePlayed.{ends, lone, crowd, lone_crash, crowd_crash}
use Rattle.crowd_rounds.specs.core_rounds.specs.Summaries.{IsWithin, full_in, is_full, summary_of}
use Rattle.crowd_rounds.specs.core_rounds.proofs.Played.{each_is_reported, only_round_is_legal}
use Rattle.catalog_cli.specs.Headline.{done, all_done, IsSummaryOf}

-- ---- what the calls are

name-bytes : (caller key : ℕ) → caller < 16 → key < 64 → AllByRecursion IsNameByte (generated_name caller key)
name-bytes caller key few small = ((omega arith, omega arith), ((omega arith, omega arith), ((omega arith, omega arith), tt)))

is-name : (caller key : ℕ) → caller < 16 → key < 64 → IsName (generated_name caller key)
is-name caller key few small = record { some = omega arith; fits = omega arith; bytes = All-from_recursion IsNameByte (generated_name caller key) (name-bytes caller key few small) }

op-told : (choice number : ℕ) (name : List ℕ) → IsName name → number < 2 ^ 64 → IsReportOp (chosen_op choice name number)
op-told choice number name named small = by_test (nat_lt choice 4) (nat_lt choice 6) (nat_lt choice 7) where
  by_test : (a b c : Bool) → IsReportOp (cond a (Put name number) (cond b (Get name) (cond c (Del name) (Scan name 5))))
  by_test true b c = (named, small)
  by_test false true c = named
  by_test false false true = named
  by_test false false false = (named, omega arith)

op-within : (choice number most : ℕ) (name : List ℕ) → number ≤ most → IsWithin most (chosen_op choice name number)
op-within choice number most name small = by_test (nat_lt choice 4) (nat_lt choice 6) (nat_lt choice 7) where
  by_test : (a b c : Bool) → IsWithin most (cond a (Put name number) (cond b (Get name) (cond c (Del name) (Scan name 5))))
  by_test true b c = small
  by_test false true c = tt
  by_test false false true = tt
  by_test false false false = tt

-- a change that is asked for is one of its name
op-names : (choice number : ℕ) (name : List ℕ) (c : Change) → change_asked (chosen_op choice name number) ≡ Some c → name_of c ≡ name
op-names choice number name c = by_test (nat_lt choice 4) (nat_lt choice 6) (nat_lt choice 7) where
  by_test : (a b d : Bool) → change_asked (cond a (Put name number) (cond b (Get name) (cond d (Del name) (Scan name 5)))) ≡ Some c → name_of c ≡ name
  by_test true b d is = sym (ap name_of (same_Some (change.Put name number) c is))
  by_test false true d is = absurd (none-some c is)
  by_test false false true is = sym (ap name_of (same_Some (change.Del name) c is))
  by_test false false false is = absurd (none-some c is)

-- the names of a caller's changes begin with its letter
abbrev HasOwnLetter : CallerOp → Type 0
HasOwnLetter a = (c : Change) → change_asked a.op ≡ Some c → get_or (name_of c) 0 0 ≡ 97 + a.caller

module _ (seed count callers : ℕ) where
  -- what holds of each generated call holds of all
  each-call : (P : CallerOp → Type 0) → ((i : ℕ) → i < count → P (generated_call seed callers i)) → All P (generated_calls seed count callers)
  each-call P holds i d within =
      let few : i < count = omega (arith, within, length-map-range_with_len (generated_call seed callers) 0 count) in
      subst P (sym (get_or-map-range_with_len (generated_call seed callers) 0 count i i d few (omega arith))) (holds i few)

  pub calls-fit : 1 ≤ callers → All (λ (a : CallerOp). a.caller < callers) (generated_calls seed count callers)
  calls-fit some = each-call (λ (a : CallerOp). a.caller < callers) (λ i few. mod-lt i some)

  pub calls-told : count ≤ 100000 → 1 ≤ callers → callers ≤ 16 → AreReportCalls (generated_calls seed count callers)
  calls-told few some most = each-call IsReportCall (λ i less.
      let below : i % callers < callers = mod-lt i some in
      let caller : i % callers < 16 = omega (arith, below, most) in
      let key = drawn seed (2 * i + 1) % 64 in
      (caller, op-told (drawn seed (2 * i + 2) % 8) i (generated_name (i % callers) key) (is-name (i % callers) key caller (omega arith)) (omega (arith, less, few))))

  pub calls-within : count ≤ 100000 → All (λ (a : CallerOp). IsWithin 100000 a.op) (generated_calls seed count callers)
  calls-within few = each-call (λ (a : CallerOp). IsWithin 100000 a.op) (λ i less.
      op-within (drawn seed (2 * i + 2) % 8) i 100000 (generated_name (i % callers) (drawn seed (2 * i + 1) % 64)) (omega (arith, less, few)))

  pub calls-are : length (generated_calls seed count callers) ≡ count
  calls-are = length-map-range_with_len (generated_call seed callers) 0 count

  have-letters : All HasOwnLetter (generated_calls seed count callers)
  have-letters = each-call HasOwnLetter (λ i less c is.
      ap (λ (n : List ℕ). get_or n 0 0) (op-names (drawn seed (2 * i + 2) % 8) i (generated_name (i % callers) (drawn seed (2 * i + 1) % 64)) c is))

  are-apart : AreApart (generated_calls seed count callers)
  are-apart a b c d has has' is is' same =
      let one = All-contains HasOwnLetter (generated_calls seed count callers) a have-letters has c is in
      let other = All-contains HasOwnLetter (generated_calls seed count callers) b have-letters has' d is' in
      omega (arith, one, other, ap (λ (n : List ℕ). get_or n 0 0) same)

  -- one plan of them has no more calls than a script may
  pub one-plan-few : (plans : List RoundPlan) (plan : RoundPlan) → count ≤ 100000 → plan ≡ generated_plan seed count callers → plans ≡ plan ∷ [] → calls_in plans ≤ 100000
  one-plan-few plans plan few is one =
      let all = ap calls_in one ∙ sum_by-cons (λ (p : RoundPlan). length p.ops) plan [] in
      let each = ap (λ (p : RoundPlan). length p.ops) is ∙ calls-are in
      omega (arith, all, each, few)

-- what holds of one plan holds of the list of it
pub all-of-one : (P : RoundPlan → Type 0) (plans : List RoundPlan) (plan : RoundPlan) → plans ≡ plan ∷ [] → P plan → All P plans
all-of-one P plans plan is holds = subst (All P) (sym is) (All-from_recursion P (plan ∷ []) (holds, tt))

-- ---- calls that took place

not-full : (b : Bool) (n : ℕ) → cond b 1 0 + n ≡ 0 → (b ≡ false) × (n ≡ 0)
not-full true n none = absurd (omega (arith, none))
not-full false n none = (refl, omega (arith, none))

none-full : (records : List Record) → full_in records ≡ 0 → AllByRecursion (λ (r : Record). is_full r.reply ≡ false) records
none-full [] none = tt
none-full (r ∷ records) none =
    let counts = not-full (is_full r.reply) (full_in records) (sym (sum_by-cons (λ (q : Record). cond (is_full q.reply) 1 0) r records) ∙ none) in
    (counts.0, none-full records counts.1)

one-more : (w : Option (ℕ × Write)) (ws : List (ℕ × Write)) → length (cons_option w ws) ≤ suc (length ws)
one-more None ws = omega arith
one-more (Some w) ws = omega arith

few-placed : (records : List Record) → length (placed_writes records) ≤ length records
few-placed [] = omega arith
few-placed (r ∷ records) = omega (arith, one-more (placed_write r) (placed_writes records), few-placed records)

numbered-length : (before : List ℕ) (asked : List CallerOp) → length (numbered_after before asked) ≡ length asked
numbered-length before [] = refl
numbered-length before (a ∷ asked) = ap suc (numbered-length (before ++ a.caller ∷ []) asked)

-- a joined round has no more writes than calls
few-writes : (base end : Map) (asked : List CallerOp) (limit : ℕ) (records : List Record) (writes : List Write) → IsJoinedRound base (numbered asked) limit records writes end → length writes ≤ length asked
few-writes base end asked limit records writes is =
    let calls = length_permutation _ _ is.legal.each_call in
    let places = length_permutation _ _ is.legal.by_place in
    omega (arith, calls, places, length-map records call_of, numbered-length [] asked, length-enumerate_from 0 writes, few-placed records)

-- one that is neither full nor spent took place
took : (base : Map) (writes : List Write) (limit : ℕ) (op : Op) (reply : Reply) → length writes < limit → IsAnswer base writes limit op reply → IsAnswered reply →
    IfSome (interval_told op reply) (λ i. i.end ≤ length writes) → is_full reply ≡ false → TookPlace reply
took base writes limit op (Old old place) few answer answered within full = tt
took base writes limit op (Parts parts cut) few answer answered within full = tt
took base writes limit op Full few answer answered within full = absurd (false≢true (sym full))
took base writes limit op (Spent clock) few answer answered within full = let late = answer.1 in absurd (omega (arith, late, within, few))
took base writes limit op (Cut mark) few answer answered within full = absurd answered
took base writes limit op Unstarted few answer answered within full = absurd answered

all-took : (base end : Map) (asked : List CallerOp) (limit : ℕ) (records : List Record) (writes : List Write) → IsJoinedRound base (numbered asked) limit records writes end → length asked < limit →
    full_in records ≡ 0 → All (λ (r : Record). TookPlace r.reply) records
all-took base end asked limit records writes is early none i d inside =
    let r = get_or records i d in
    took base writes limit r.op r.reply (omega (arith, early, few-writes base end asked limit records writes is)) (is.legal.answers i d inside) (is.answered i d inside) (is.legal.within i d inside)
    (All-from_recursion (λ (q : Record). is_full q.reply ≡ false) records (none-full records none) i d inside)

-- ---- calls done in their order

one-done : (m : Map) (op : Op) (rest : List Change) → after_changes m (cons_option (change_asked op) rest) ≡ after_changes (done m op) rest
one-done m (Put name value) rest = refl
one-done m (Get name) rest = refl
one-done m (Del name) rest = refl
one-done m (Scan from count) rest = refl

changes-done : (m : Map) (asked : List CallerOp) → after_changes m (changes_asked asked) ≡ all_done m asked
changes-done m [] = refl
changes-done m (a ∷ asked) = one-done m a.op (changes_asked asked) ∙ changes-done (done m a.op) asked

-- ---- the round

abbrev IsSeeded : (seed count callers : ℕ) → RoundReport → Map → Anchors → Type 0
IsSeeded seed count callers report end shape = ArePlayed 64 1024 32 0 empty ([] ∷ []) (generated_plan seed count callers ∷ []) (report ∷ []) end shape

in-order : (seed count callers : ℕ) (report : RoundReport) (end : Map) (shape : Anchors) → count ≤ 100000 → IsSeeded seed count callers report end shape → full_in report.records ≡ 0 →
    end ≡ all_done empty (generated_calls seed count callers)
in-order seed count callers report end shape few (lone one joined round paid ends) none =
    let asked = generated_calls seed count callers in
    lone_is_in_order empty asked report.records round.answers round.in_script_order
    (all-took empty end asked (2 ^ 62) report.records _ round.legal (omega (arith, calls-are seed count callers, few)) none) ∙ changes-done empty asked
in-order seed count callers report end shape few (crowd some joined writes round next within ends) none =
    let asked = generated_calls seed count callers in
    round.apart (are-apart seed count callers) (all-took empty end asked (2 ^ 62) report.records writes round.legal (omega (arith, calls-are seed count callers, few)) none) ∙ changes-done empty asked
in-order seed count callers report end shape few (lone_crash one crash ended round answers paid next within ends) none = absurd (none-some crash ended)
in-order seed count callers report end shape few (crowd_crash several crash ended writes round paid next within ends) none = absurd (none-some crash ended)

one-report : (reports : List RoundReport) (report : RoundReport) → length reports ≡ 1 → report ≡ get_or reports 0 report → reports ≡ report ∷ []
one-report [] report one first = absurd (omega (arith, one))
one-report (r ∷ []) report one first = ap (λ (q : RoundReport). q ∷ []) (sym first)
one-report (r ∷ s ∷ reports) report one first = absurd (omega (arith, one))

-- what is played of one plan of such calls
pub seeded : (seed count callers slots nodes : ℕ) (plans : List RoundPlan) (plan : RoundPlan) (reports told : List RoundReport) (report : RoundReport) (end : Map) (shape : Anchors) →
    plan ≡ generated_plan seed count callers → plans ≡ plan ∷ [] → slots ≡ 64 → nodes ≡ 1024 → ArePlayed slots nodes (slots / 2) 0 empty ([] ∷ []) plans reports end shape → told ≡ reports →
    report ≡ get_or told 0 report → IsSeeded seed count callers report end shape
seeded seed count callers slots nodes plans plan reports told report end shape is one slots_are nodes_are played same first =
    let plans_are : plans ≡ generated_plan seed count callers ∷ [] = one ∙ ap (λ (p : RoundPlan). p ∷ []) is in
    let as_many : length reports ≡ 1 = each_is_reported slots nodes (slots / 2) 0 empty end ([] ∷ []) shape plans reports played ∙ ap length plans_are in
    let only : reports ≡ report ∷ [] = one-report reports report as_many (first ∙ ap (λ (rs : List RoundReport). get_or rs 0 report) same) in
    subst (λ (rs : List RoundReport). ArePlayed 64 1024 32 0 empty ([] ∷ []) (generated_plan seed count callers ∷ []) rs end shape) only
    (subst (λ (ps : List RoundPlan). ArePlayed 64 1024 32 0 empty ([] ∷ []) ps reports end shape) plans_are
    (subst (λ (n : ℕ). ArePlayed 64 n 32 0 empty ([] ∷ []) plans reports end shape) nodes_are
    (subst (λ (n : ℕ). ArePlayed n nodes (n / 2) 0 empty ([] ∷ []) plans reports end shape) slots_are played)))

-- a legal round of the plan that leaves what the pairs tell
pub seeded-round : (seed count callers : ℕ) (plan : RoundPlan) (report : RoundReport) (end told : Map) (shape : Anchors) → plan ≡ generated_plan seed count callers → IsSeeded seed count callers report end shape →
    told ≡ end → IsRoundTo empty plan report told
seeded-round seed count callers plan report end told shape is played same =
    subst (λ (p : RoundPlan). IsRoundTo empty p report told) (sym is)
    (subst (IsRoundTo empty (generated_plan seed count callers) report) (sym same)
    (only_round_is_legal 64 1024 32 0 empty end ([] ∷ []) shape (generated_plan seed count callers) report refl played))

-- its summary
pub summed-up : (seed count callers : ℕ) (plan : RoundPlan) (report : RoundReport) (end told : Map) (shape : Anchors) (summary : Summary) (text : List ℕ) → count ≤ 100000 →
    plan ≡ generated_plan seed count callers → IsSeeded seed count callers report end shape → told ≡ end → summary ≡ summary_of plan.ops report.records told → text ≡ summary_line summary →
    IsSummaryOf seed count callers text
summed-up seed count callers plan report end told shape summary text few is played same sums printed = record {
  report = report;
  end = end;
  shape = shape;
  played = played;
  told = printed ∙ ap summary_line (sums ∙ (λ k. summary_of ((is k).ops) report.records (same k)));
  in_order = in-order seed count callers report end shape few played;
}
