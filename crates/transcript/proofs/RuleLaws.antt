-- The eight rules together are legality.
use Rattle.std.proofs.Common.{◌≡◌, ℕ, zero, suc, ◌+◌, ◌<◌, ◌≤◌, ◌⊎◌, inl, inr, true, false, cond, Option, Some, None, List, [], ◌∷◌, map, refl, sym, ap, subst, ◌∙◌, arith, All}
use Rattle.std.specs.Prelude.{IfSome}
use Rattle.std.specs.FinMap.{len}
use Rattle.std.specs.List.{AllByRecursion, enumerate_from, cons_option}
use Rattle.std.specs.List.Sorted.{IsStrictlySortedBy}
use Rattle.std.specs.Cmp.{nat_cmp_is}
use Rattle.std.specs.Ordering.{nat_cmp}
use Rattle.std.specs.declared.cmp.Ordering.TheVariants.{Less}
use Rattle.std.proofs.lemmas.Bool.{false≢true, cases_order}
use Rattle.std.proofs.lemmas.Cmp.{nat_cmp_total}
use Rattle.std.proofs.lemmas.List.Elements.{recursion_from_All, All-weaker}
use Rattle.std.proofs.lemmas.List.Sorted.{IsPermutation-sym, IsPermutation-trans}
use Rattle.cat_history.specs.CrashEnds.{IsFound, is_found, found_in, after_changes}
use Rattle.cat_history.specs.CrashRounds.{ReplySays, Says, change_cut, changes_cut}
use Rattle.cat_history.specs.Maps.{Map}
use Rattle.cat_history.specs.Records.{placed_writes, change_asked}
use Rattle.cat_history.specs.Rounds.{AreWritesByPlace, IsLegalRound, IsAnswer}
use Rattle.cat_history.specs.Writes.{after, after_all}
use Rattle.cat_history.specs.declared.op.Change.{Change}
use Rattle.cat_history.specs.declared.op.Op.{Op}
use Rattle.cat_history.specs.declared.op.Op.TheVariants.{Put, Get, Del, Scan}
use Rattle.cat_history.specs.declared.op.Write.{Write}
use Rattle.cat_history.specs.declared.record.CutMark.TheVariants.{At, Open, Found, Lost, Read}
use Rattle.cat_history.specs.declared.record.Record.{Record}
use Rattle.cat_history.specs.declared.record.Reply.{Reply}
use Rattle.cat_history.specs.declared.record.Reply.TheVariants.{Old, Parts, Full, Spent, Cut, Unstarted}
use Rattle.cat_history.proofs.CrashEndLemmas.{found-Decides}
use Rattle.transcript.proofs.Orders.{same_moved}
use Rattle.transcript.specs.Ends.{change_found, changes_found, end_told}
use Rattle.transcript.specs.Legality.{IsLegal, KeepsAll, RulesAreLegality, OneEnd, OneFirstBroken, LegalBreaksNone}
use Rattle.transcript.specs.Rules.{Case, EachCallIsTold, AreCounted, PlacesAreCounted, TellsItsNumber, NumbersAgree, TellsItsParts, ScansAgree, CallersKeepOrder, ReachesLimit, LimitIsKept, HasForm, IsLeft, EndsAsSaid, IsItsEnd, NamesAreCounted, OfItsWrites, Keeps}
use Rattle.transcript.specs.declared.asking.RoundEnd.{RoundEnd}
use Rattle.transcript.specs.Rules.Keeps.{each_call, places, numbers, scans, order, limit, ends, names}

above : (n k : ℕ) (writes : List Write) → n < k → AllByRecursion (λ m. nat_cmp n m ≡ Less) (map (λ (e : ℕ × Write). e.0) (enumerate_from k writes))
above n k [] less = tt
above n k (w ∷ writes) less = (sym (nat_cmp_is n k Less less), above n (k + 1) writes (omega arith))

-- writes numbered by place stand in the order of their places
pub numbered_strict : (k : ℕ) (writes : List Write) → IsStrictlySortedBy nat_cmp (map (λ (e : ℕ × Write). e.0) (enumerate_from k writes))
unfolding IsStrictlySortedBy
numbered_strict k [] = tt
numbered_strict k (w ∷ writes) = (above k (k + 1) writes (omega arith), numbered_strict (k + 1) writes)

pub numbered_writes : (k : ℕ) (writes : List Write) → map (λ (e : ℕ × Write). e.1) (enumerate_from k writes) ≡ writes
numbered_writes k [] = refl
numbered_writes k (w ∷ writes) = ap (λ ws. w ∷ ws) (numbered_writes (k + 1) writes)

-- records have one list of writes by place
pub one_writes : (told : List Record) (writes other : List Write) → AreWritesByPlace told writes → AreWritesByPlace told other → writes ≡ other
one_writes told writes other by_place by_place' =
    sym (numbered_writes 0 writes)
    ∙ ap (map (λ (e : ℕ × Write). e.1))
    (same_moved (λ (e : ℕ × Write). e.0) nat_cmp nat_cmp_total (enumerate_from 0 writes) (enumerate_from 0 other) (numbered_strict 0 writes) (numbered_strict 0 other)
    (IsPermutation-trans (enumerate_from 0 writes) (placed_writes told) (enumerate_from 0 other) (IsPermutation-sym (placed_writes told) (enumerate_from 0 writes) by_place) by_place'))
    ∙ numbered_writes 0 other

-- what marks say of the changes that were cut off is which of them are found
one_said : (end : Map) (op : Op) (reply : Reply) (cuts found : List Change) → ReplySays end op reply → found_in end cuts ≡ found →
    found_in end (cons_option (change_cut op reply) cuts) ≡ cons_option (change_found op reply) found
one_said end op (Old old place) cuts found says same = same
one_said end op (Parts parts cut) cuts found says same = same
one_said end op Full cuts found says same = same
one_said end op (Spent clock) cuts found says same = same
one_said end op Unstarted cuts found says same = same
one_said end op (Cut (At place)) cuts found says same = same
one_said end op (Cut Read) cuts found says same = same
one_said end op (Cut Open) cuts found says same = by (change_asked op) says where
  by : (o : Option Change) → IfSome o (λ change. Says end change Open) → found_in end (cons_option o cuts) ≡ found
  by None says = same
  by (Some change) says = absurd says
one_said end op (Cut Found) cuts found says same = by (change_asked op) says where
  by : (o : Option Change) → IfSome o (λ change. Says end change Found) → found_in end (cons_option o cuts) ≡ cons_option o found
  by None says = same
  by (Some change) says =
      ap (λ b. cond b (change ∷ found_in end cuts) (found_in end cuts)) ((found-Decides end change).1 says) ∙ ap (λ cs. change ∷ cs) same
one_said end op (Cut Lost) cuts found says same = by (change_asked op) says where
  lost : (change : Change) → (IsFound end change → ⊥) → is_found end change ≡ false
  lost change never = elim (is_found end change) as (λ b. is_found end change ≡ b → b ≡ false) [
    | true ↦ λ is. absurd (never ((found-Decides end change).0 is))
    | false ↦ λ _. refl
  ] refl

  by : (o : Option Change) → IfSome o (λ change. Says end change Lost) → found_in end (cons_option o cuts) ≡ found
  by None says = same
  by (Some change) says = ap (λ b. cond b (change ∷ found_in end cuts) (found_in end cuts)) (lost change says) ∙ same

pub all_said : (end : Map) (told : List Record) → AllByRecursion (λ (r : Record). ReplySays end r.op r.reply) told → found_in end (changes_cut told) ≡ changes_found told
all_said end [] says = refl
all_said end (r ∷ told) says = one_said end r.op r.reply (changes_cut told) (changes_found told) says.0 (all_said end told says.1)

-- a crash left the map that its marks tell
pub left_is : (base : Map) (told : List Record) (writes : List Write) (end : Map) → IsLeft base told writes end → end ≡ end_told base told writes
left_is base told writes end left =
    left.leaves ∙ ap (after_changes (after_all base writes)) (all_said end told (recursion_from_All (λ (r : Record). ReplySays end r.op r.reply) told left.says))

-- and left it, if they tell it of that map
pub is_left : (base : Map) (told : List Record) (writes : List Write) (end : Map) → end ≡ end_told base told writes → All (λ (r : Record). ReplySays end r.op r.reply) told → IsLeft base told writes end
is_left base told writes end is says = record {
  leaves = is ∙ ap (after_changes (after_all base writes)) (sym (all_said end told (recursion_from_All (λ (r : Record). ReplySays end r.op r.reply) told says)));
  says = says;
}

pub one_left : (base : Map) (told : List Record) (writes : List Write) (end other : Map) → IsLeft base told writes end → IsLeft base told writes other → end ≡ other
one_left base told writes end other left left' = left_is base told writes end left ∙ sym (left_is base told writes other left')

-- an answer, by what each rule says of it
module _ (base : Map) (writes : List Write) (most : ℕ) where
  abbrev maps : ℕ → Map
  maps place = after base writes place

  number_of : (op : Op) (reply : Reply) → IsAnswer base writes most op reply → TellsItsNumber maps op reply
  number_of (Put name value) (Old old place) is = is
  number_of (Get name) (Old old place) is = is
  number_of (Del name) (Old old place) is = is
  number_of (Scan from count) (Old old place) is = tt
  number_of op (Parts parts cut) is = tt
  number_of op Full is = tt
  number_of op (Spent clock) is = tt
  number_of op (Cut mark) is = tt
  number_of op Unstarted is = tt

  parts_of : (op : Op) (reply : Reply) → IsAnswer base writes most op reply → TellsItsParts maps op reply
  parts_of op (Old old place) is = tt
  parts_of (Put name value) (Parts parts cut) is = tt
  parts_of (Get name) (Parts parts cut) is = tt
  parts_of (Del name) (Parts parts cut) is = tt
  parts_of (Scan from count) (Parts parts cut) is = is
  parts_of op Full is = tt
  parts_of op (Spent clock) is = tt
  parts_of op (Cut mark) is = tt
  parts_of op Unstarted is = tt

  reach_of : (op : Op) (reply : Reply) → IsAnswer base writes most op reply → ReachesLimit most reply
  reach_of op (Old old place) is = tt
  reach_of op (Parts parts cut) is = tt
  reach_of op Full is = tt
  reach_of op (Spent clock) is = is.1
  reach_of op (Cut mark) is = tt
  reach_of op Unstarted is = tt

  form_of : (op : Op) (reply : Reply) → IsAnswer base writes most op reply → HasForm op reply
  form_of (Put name value) (Old old place) is = tt
  form_of (Get name) (Old old place) is = tt
  form_of (Del name) (Old old place) is = tt
  form_of (Scan from count) (Old old place) is = is
  form_of (Put name value) (Parts parts cut) is = is
  form_of (Get name) (Parts parts cut) is = is
  form_of (Del name) (Parts parts cut) is = is
  form_of (Scan from count) (Parts parts cut) is = tt
  form_of op Full is = is
  form_of op (Spent clock) is = is.0
  form_of op (Cut mark) is = is
  form_of op Unstarted is = tt

  answer_by : (op : Op) (reply : Reply) → TellsItsNumber maps op reply → TellsItsParts maps op reply → ReachesLimit most reply → HasForm op reply → IsAnswer base writes most op reply
  answer_by (Put name value) (Old old place) number parts reach form = number
  answer_by (Get name) (Old old place) number parts reach form = number
  answer_by (Del name) (Old old place) number parts reach form = number
  answer_by (Scan from count) (Old old place) number parts reach form = form
  answer_by (Put name value) (Parts listed cut) number parts reach form = form
  answer_by (Get name) (Parts listed cut) number parts reach form = form
  answer_by (Del name) (Parts listed cut) number parts reach form = form
  answer_by (Scan from count) (Parts listed cut) number parts reach form = parts
  answer_by op Full number parts reach form = form
  answer_by op (Spent clock) number parts reach form = (form, reach)
  answer_by op (Cut mark) number parts reach form = form
  answer_by op Unstarted number parts reach form = tt

-- each rule out of its number
pub keeps_1 : (c : Case) → Keeps c 1 → EachCallIsTold c
keeps_1 c (each_call h) = h

pub keeps_2 : (c : Case) → Keeps c 2 → PlacesAreCounted c
keeps_2 c (places h) = h

pub keeps_3 : (c : Case) → Keeps c 3 → OfItsWrites c NumbersAgree
keeps_3 c (numbers h) = h

pub keeps_4 : (c : Case) → Keeps c 4 → OfItsWrites c ScansAgree
keeps_4 c (scans h) = h

pub keeps_5 : (c : Case) → Keeps c 5 → OfItsWrites c (λ d writes. CallersKeepOrder d.told writes)
keeps_5 c (order h) = h

pub keeps_6 : (c : Case) → Keeps c 6 → OfItsWrites c (λ d writes. LimitIsKept d.end.limit d.calls d.told writes)
keeps_6 c (limit h) = h

pub keeps_7 : (c : Case) → Keeps c 7 → OfItsWrites c (λ d writes. EndsAsSaid d.base d.told d.end writes)
keeps_7 c (ends h) = h

pub keeps_8 : (c : Case) → Keeps c 8 → OfItsWrites c NamesAreCounted
keeps_8 c (names h) = h

-- writes leave one map at the end
pub one_end : (base : Map) (told : List Record) (end : RoundEnd) (writes : List Write) (m other : Map) → IsItsEnd base told end writes m → IsItsEnd base told end writes other → m ≡ other
one_end base told end writes m other is is' = elim (end.crashed) as (λ b. end.crashed ≡ b → m ≡ other) [
  | false ↦ λ joined. is.joined joined ∙ sym (is'.joined joined)
  | true ↦ λ crashed. one_left base told writes m other (is.crashed crashed) (is'.crashed crashed)
] refl

-- a rule of the writes by place, at those that there are
pub of_these : (c : Case) (Rule : Case → List Write → Type 0) (writes : List Write) → AreWritesByPlace c.told writes → Rule c writes → OfItsWrites c Rule
of_these c Rule writes by_place holds other by_place' = subst (Rule c) (one_writes c.told writes other by_place by_place') holds

module _ (c : Case) where
  of_each : (P Q : Record → Type 0) → ((r : Record) → P r → Q r) → All P c.told → All Q c.told
  of_each P Q to all = All-weaker P Q to c.told all

  -- what a legal round with these writes keeps
  module _ (writes : List Write) (legal : IsLegalRound c.base c.calls c.end.limit c.told writes) where
    legal_numbers : NumbersAgree c writes
    legal_numbers = of_each (λ r. IsAnswer c.base writes c.end.limit r.op r.reply) (λ r. TellsItsNumber (after c.base writes) r.op r.reply) (λ r. number_of c.base writes c.end.limit r.op r.reply) legal.answers

    legal_scans : ScansAgree c writes
    legal_scans = of_each (λ r. IsAnswer c.base writes c.end.limit r.op r.reply) (λ r. TellsItsParts (after c.base writes) r.op r.reply) (λ r. parts_of c.base writes c.end.limit r.op r.reply) legal.answers

    legal_limit : LimitIsKept c.end.limit c.calls c.told writes
    legal_limit = record {
      reached = of_each (λ r. IsAnswer c.base writes c.end.limit r.op r.reply) (λ r. ReachesLimit c.end.limit r.reply) (λ r. reach_of c.base writes c.end.limit r.op r.reply) legal.answers;
      in_time = legal.in_time;
    }

    legal_forms : All (λ (r : Record). HasForm r.op r.reply) c.told
    legal_forms = of_each (λ r. IsAnswer c.base writes c.end.limit r.op r.reply) (λ r. HasForm r.op r.reply) (λ r. form_of c.base writes c.end.limit r.op r.reply) legal.answers

  -- the rules make a legal round
  legal_by : (writes : List Write) → EachCallIsTold c → AreWritesByPlace c.told writes → NumbersAgree c writes → ScansAgree c writes → CallersKeepOrder c.told writes → LimitIsKept c.end.limit c.calls c.told writes → EndsAsSaid c.base c.told c.end writes →
      IsLegalRound c.base c.calls c.end.limit c.told writes
  legal_by writes each by_place agree parts in_order kept ended = record {
    each_call = each;
    by_place = by_place;
    answers = λ k d within. answer_by c.base writes c.end.limit _ _ (agree k d within) (parts k d within) (kept.reached k d within) (ended.forms k d within);
    within = in_order.within;
    in_order = in_order.in_order;
    in_time = kept.in_time;
  }

  -- how the round ended, by cases
  by_end : (P : Type 0) → (c.end.crashed ≡ false → P) → (c.end.crashed ≡ true → P) → P
  by_end P joined crashed = elim (c.end.crashed) as (λ b. c.end.crashed ≡ b → P) [
    | false ↦ joined
    | true ↦ crashed
  ] refl

  legal_of : (end : Map) (is : IsLegal c end) → IsLegalRound c.base c.calls c.end.limit c.told is.writes
  legal_of end is = by_end (IsLegalRound c.base c.calls c.end.limit c.told is.writes) (λ joined. (is.joined joined).legal) (λ crashed. (is.crashed crashed).legal)

  not_both : c.end.crashed ≡ false → c.end.crashed ≡ true → ⊥
  not_both joined crashed = false≢true (sym joined ∙ crashed)

  -- the end map of a legal round is that of its rules
  end_of : (end : Map) (is : IsLegal c end) → IsItsEnd c.base c.told c.end is.writes end
  end_of end is = record {
    joined = λ joined. (is.joined joined).leaves;
    crashed = λ crashed. record { leaves = (is.crashed crashed).leaves; says = (is.crashed crashed).says };
  }

  ends_of : (end : Map) (is : IsLegal c end) → EndsAsSaid c.base c.told c.end is.writes
  ends_of end is = record {
    forms = legal_forms is.writes (legal_of end is);
    joined = λ joined. (is.joined joined).answered;
    crashed = λ crashed. record { once = (is.crashed crashed).once; budget = (is.crashed crashed).budget; left = (end, (end_of end is).crashed crashed) };
  }

  names_of : (end : Map) (is : IsLegal c end) → NamesAreCounted c is.writes
  names_of end is other is' = ap len (one_end c.base c.told c.end is.writes other end is' (end_of end is)) ∙ is.names_told

  kept : (end : Map) → IsLegal c end → (rule : ℕ) → 1 ≤ rule → rule ≤ 8 → Keeps c rule
  kept end is zero least most = absurd (omega arith)
  kept end is (suc zero) least most = each_call (legal_of end is).each_call
  kept end is (suc (suc zero)) least most = places (is.writes, record { by_place = (legal_of end is).by_place; as_many = is.writes_told })
  kept end is (suc (suc (suc zero))) least most = numbers (of_these c NumbersAgree is.writes (legal_of end is).by_place (legal_numbers is.writes (legal_of end is)))
  kept end is (suc (suc (suc (suc zero)))) least most = scans (of_these c ScansAgree is.writes (legal_of end is).by_place (legal_scans is.writes (legal_of end is)))
  kept end is (suc (suc (suc (suc (suc zero))))) least most =
      order (of_these c (λ d writes. CallersKeepOrder d.told writes) is.writes (legal_of end is).by_place (record { within = (legal_of end is).within; in_order = (legal_of end is).in_order }))
  kept end is (suc (suc (suc (suc (suc (suc zero)))))) least most = limit (of_these c (λ d writes. LimitIsKept d.end.limit d.calls d.told writes) is.writes (legal_of end is).by_place (legal_limit is.writes (legal_of end is)))
  kept end is (suc (suc (suc (suc (suc (suc (suc zero))))))) least most = ends (of_these c (λ d writes. EndsAsSaid d.base d.told d.end writes) is.writes (legal_of end is).by_place (ends_of end is))
  kept end is (suc (suc (suc (suc (suc (suc (suc (suc zero)))))))) least most = names (of_these c NamesAreCounted is.writes (legal_of end is).by_place (names_of end is))
  kept end is (suc (suc (suc (suc (suc (suc (suc (suc (suc more))))))))) least most = absurd (omega arith)

  -- rules that hold of the writes by place make the round legal, with this map at its end
  pub legal_with : (writes : List Write) (end : Map) → EachCallIsTold c → AreCounted c.told c.end.writes writes → NumbersAgree c writes → ScansAgree c writes → CallersKeepOrder c.told writes →
      LimitIsKept c.end.limit c.calls c.told writes → EndsAsSaid c.base c.told c.end writes → IsItsEnd c.base c.told c.end writes end → len end ≡ c.end.names → IsLegal c end
  legal_with writes end each counted agree parts in_order within_limit ended is_end as_many =
      let legal = legal_by writes each counted.by_place agree parts in_order within_limit ended in record {
        writes = writes;
        joined = λ joined. record { legal = legal; answered = ended.joined joined; leaves = is_end.joined joined };
        crashed = λ crashed. record {
          legal = legal;
          once = (ended.crashed crashed).once;
          budget = (ended.crashed crashed).budget;
          leaves = (is_end.crashed crashed).leaves;
          says = (is_end.crashed crashed).says;
        };
        writes_told = counted.as_many;
        names_told = as_many;
      }

  -- there is a map at the end
  some_end : (writes : List Write) → EndsAsSaid c.base c.told c.end writes → (end : Map) × IsItsEnd c.base c.told c.end writes end
  some_end writes ended = by_end ((end : Map) × IsItsEnd c.base c.told c.end writes end)
      (λ joined. (after_all c.base writes, record { joined = λ _. refl; crashed = λ crashed. absurd (not_both joined crashed) }))
      (λ crashed. ((ended.crashed crashed).left.0, record { joined = λ joined. absurd (not_both joined crashed); crashed = λ _. (ended.crashed crashed).left.1 }))

  legal_all : KeepsAll c → (end : Map) × IsLegal c end
  legal_all all =
      let counted = keeps_2 c (all 2 (omega arith) (omega arith)) in
      let writes = counted.0 in
      let by_place = counted.1.by_place in
      let ended : EndsAsSaid c.base c.told c.end writes = keeps_7 c (all 7 (omega arith) (omega arith)) writes by_place in
      let left = some_end writes ended in (
        left.0,
        legal_with writes left.0 (keeps_1 c (all 1 (omega arith) (omega arith))) counted.1 (keeps_3 c (all 3 (omega arith) (omega arith)) writes by_place) (keeps_4 c (all 4 (omega arith) (omega arith)) writes by_place)
            (keeps_5 c (all 5 (omega arith) (omega arith)) writes by_place) (keeps_6 c (all 6 (omega arith) (omega arith)) writes by_place) ended left.1
            (keeps_8 c (all 8 (omega arith) (omega arith)) writes by_place left.0 left.1),
      )

pub rules_are_legality : RulesAreLegality
rules_are_legality c = (λ is. kept c is.0 is.1, legal_all c)

pub legal_has_one_end : OneEnd
legal_has_one_end c end other is is' =
    let same : is.writes ≡ is'.writes = one_writes c.told is.writes is'.writes (legal_of c end is).by_place (legal_of c other is').by_place in
    one_end c.base c.told c.end is.writes end other (end_of c end is) (subst (λ writes. IsItsEnd c.base c.told c.end writes other) (sym same) (end_of c other is'))

pub one_first_broken : OneFirstBroken
one_first_broken c rule other is is' = by (cases_order rule other) where
  by : (rule ≡ other) ⊎ ((rule < other) ⊎ (other < rule)) → rule ≡ other
  by (inl same) = same
  by (inr (inl less)) = absurd (is.broken (is'.before rule is.first less))
  by (inr (inr more)) = absurd (is'.broken (is.before other is'.first more))

pub legal_breaks_none : LegalBreaksNone
legal_breaks_none c end rule is first = first.broken (kept c end is rule first.first first.last)
