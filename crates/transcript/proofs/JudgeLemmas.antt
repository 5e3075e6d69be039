-- Judgements, from the rules that hold and the one that doesn't.
use Rattle.std.proofs.Common.{◌≡◌, ℕ, ◌+◌, ◌<◌, ◌≤◌, ◌⊎◌, inl, inr, None, List, [], ◌∷◌, Ok, Err, refl, sym, ap, subst, ◌∙◌, arith, All}
use Rattle.std.specs.FinMap.{len}
use Rattle.std.specs.Prelude.{IfOk}
use Rattle.std.specs.List.{AllByRecursion, cons_option}
use Rattle.std.specs.declared.result.Result.{Result}
use Rattle.std.proofs.lemmas.Bool.{cases_order}
use Rattle.std.proofs.lemmas.List.Elements.{recursion_from_All}
use Rattle.cat_key.specs.declared.Pair.{Pair}
use Rattle.cat_history.specs.CrashEnds.{after_changes}
use Rattle.cat_history.specs.Maps.{Map, map_of}
use Rattle.cat_history.specs.Replays.{pairs_of}
use Rattle.cat_history.specs.Rounds.{IsAnswered}
use Rattle.cat_history.specs.Writes.{after_all}
use Rattle.cat_history.specs.declared.op.Op.{Op}
use Rattle.cat_history.specs.declared.op.Write.{Write}
use Rattle.cat_history.specs.declared.record.Record.{Record}
use Rattle.cat_history.specs.declared.record.Reply.{Reply}
use Rattle.cat_history.specs.declared.record.Reply.TheVariants.{Old, Parts, Full, Spent, Cut, Unstarted}
use Rattle.cat_history.proofs.ReplayLemmas.{map_of-pairs_of}
use Rattle.transcript.specs.Ends.{change_found, changes_found, end_told}
use Rattle.transcript.specs.Legality.{IsLegal, IsAnswer, IsJudgement, IsEndJudgement, IsRightEnd}
use Rattle.transcript.specs.Rules.{Case, IsLeft, EachCallIsTold, AreCounted, NumbersAgree, ScansAgree, CallersKeepOrder, LimitIsKept, EndsAsSaid, IsItsEnd, Keeps, IsFirstBroken}
use Rattle.transcript.specs.Rules.Keeps.{each_call, places, numbers, scans, order, limit, ends}
use Rattle.transcript.specs.declared.asking.Judged.{Judged}
use Rattle.transcript.specs.declared.asking.Judged.TheVariants.{Illegal, NoMemory}
use Rattle.transcript.specs.declared.asking.RoundEnd.{RoundEnd}
use Rattle.transcript.proofs.RuleLaws.{keeps_2, keeps_3, keeps_4, keeps_5, keeps_6, keeps_7, keeps_8, of_these, left_is, one_end, legal_with, legal_has_one_end, one_first_broken, legal_breaks_none}

-- where all calls were answered, nothing was found
none_found : (op : Op) (reply : Reply) → IsAnswered reply → change_found op reply ≡ None
none_found op (Old old place) answered = refl
none_found op (Parts parts cut) answered = refl
none_found op Full answered = refl
none_found op (Spent clock) answered = refl
none_found op (Cut mark) answered = absurd answered
none_found op Unstarted answered = absurd answered

nothing_found : (told : List Record) → AllByRecursion (λ (r : Record). IsAnswered r.reply) told → changes_found told ≡ []
nothing_found [] all = refl
nothing_found (r ∷ told) all = ap (λ o. cons_option o (changes_found told)) (none_found r.op r.reply all.0) ∙ nothing_found told all.1

module _ (base : Map) (told : List Record) (end : RoundEnd) (writes : List Write) where
  joined_end : All (λ (r : Record). IsAnswered r.reply) told → end_told base told writes ≡ after_all base writes
  joined_end answered = ap (after_changes (after_all base writes)) (nothing_found told (recursion_from_All (λ (r : Record). IsAnswered r.reply) told answered))

  -- a round that ended as said ended with the map that its records tell
  pub ended_so : EndsAsSaid base told end writes → IsItsEnd base told end writes (end_told base told writes)
  ended_so ended = record {
    joined = λ joined. joined_end (ended.joined joined);
    crashed = λ crashed. let left = (ended.crashed crashed).left in subst (λ m. IsLeft base told writes m) (left_is base told writes left.0 left.1) left.1;
  }

  pub right_end : EndsAsSaid base told end writes → len (end_told base told writes) ≡ end.names → IsRightEnd base told end writes (end_told base told writes)
  right_end ended many = record { ends = ended; is_end = ended_so ended; names = many }

module _ (c : Case) where
  none_before : (earlier : ℕ) → 1 ≤ earlier → earlier < 1 → Keeps c earlier
  none_before earlier least less = absurd (omega arith)

  one_more : (k : ℕ) → ((earlier : ℕ) → 1 ≤ earlier → earlier < k → Keeps c earlier) → Keeps c k → (earlier : ℕ) → 1 ≤ earlier → earlier < k + 1 → Keeps c earlier
  one_more k before here earlier least less = by (cases_order earlier k) where
    by : (earlier ≡ k) ⊎ ((earlier < k) ⊎ (k < earlier)) → Keeps c earlier
    by (inl same) = subst (Keeps c) (sym same) here
    by (inr (inl lower)) = before earlier least lower
    by (inr (inr higher)) = absurd (omega arith)

  module _ (each : EachCallIsTold c) where
    before_2 : (earlier : ℕ) → 1 ≤ earlier → earlier < 2 → Keeps c earlier
    before_2 = one_more 1 none_before (each_call each)

    pub broken_2 : ((writes : List Write) → AreCounted c.told c.end.writes writes → ⊥) → IsFirstBroken c 2
    broken_2 never = record { first = omega arith; last = omega arith; before = before_2; broken = λ k. let all = keeps_2 c k in never all.0 all.1 }

    module _ (writes : List Write) (counted : AreCounted c.told c.end.writes writes) where
      before_3 : (earlier : ℕ) → 1 ≤ earlier → earlier < 3 → Keeps c earlier
      before_3 = one_more 2 before_2 (places (writes, counted))

      pub broken_3 : (NumbersAgree c writes → ⊥) → IsFirstBroken c 3
      broken_3 never = record { first = omega arith; last = omega arith; before = before_3; broken = λ k. never (keeps_3 c k writes counted.by_place) }

      module _ (agree : NumbersAgree c writes) where
        before_4 : (earlier : ℕ) → 1 ≤ earlier → earlier < 4 → Keeps c earlier
        before_4 = one_more 3 before_3 (numbers (of_these c NumbersAgree writes counted.by_place agree))

        pub broken_4 : (ScansAgree c writes → ⊥) → IsFirstBroken c 4
        broken_4 never = record { first = omega arith; last = omega arith; before = before_4; broken = λ k. never (keeps_4 c k writes counted.by_place) }

        module _ (parts : ScansAgree c writes) where
          before_5 : (earlier : ℕ) → 1 ≤ earlier → earlier < 5 → Keeps c earlier
          before_5 = one_more 4 before_4 (scans (of_these c ScansAgree writes counted.by_place parts))

          pub broken_5 : (CallersKeepOrder c.told writes → ⊥) → IsFirstBroken c 5
          broken_5 never = record { first = omega arith; last = omega arith; before = before_5; broken = λ k. never (keeps_5 c k writes counted.by_place) }

          module _ (in_order : CallersKeepOrder c.told writes) where
            before_6 : (earlier : ℕ) → 1 ≤ earlier → earlier < 6 → Keeps c earlier
            before_6 = one_more 5 before_5 (order (of_these c (λ d ws. CallersKeepOrder d.told ws) writes counted.by_place in_order))

            pub broken_6 : (LimitIsKept c.end.limit c.calls c.told writes → ⊥) → IsFirstBroken c 6
            broken_6 never = record { first = omega arith; last = omega arith; before = before_6; broken = λ k. never (keeps_6 c k writes counted.by_place) }

            module _ (within : LimitIsKept c.end.limit c.calls c.told writes) where
              before_7 : (earlier : ℕ) → 1 ≤ earlier → earlier < 7 → Keeps c earlier
              before_7 = one_more 6 before_6 (limit (of_these c (λ d ws. LimitIsKept d.end.limit d.calls d.told ws) writes counted.by_place within))

              broken_7 : (EndsAsSaid c.base c.told c.end writes → ⊥) → IsFirstBroken c 7
              broken_7 never = record { first = omega arith; last = omega arith; before = before_7; broken = λ k. never (keeps_7 c k writes counted.by_place) }

              broken_8 : EndsAsSaid c.base c.told c.end writes → ((m : Map) → IsRightEnd c.base c.told c.end writes m → ⊥) → IsFirstBroken c 8
              broken_8 ended never = record {
                first = omega arith;
                last = omega arith;
                before = one_more 7 before_7 (ends (of_these c (λ d ws. EndsAsSaid d.base d.told d.end ws) writes counted.by_place ended));
                broken = λ k.
                    let is_end = ended_so c.base c.told c.end writes ended in
                    never (end_told c.base c.told writes) (record { ends = ended; is_end = is_end; names = keeps_8 c k writes counted.by_place (end_told c.base c.told writes) is_end });
              }

              -- where the first six rules hold, the judgement by the last two is that by all
              pub judged_so : (result : Result (List Pair) Judged) → IsEndJudgement c.base c.told c.end writes result → IsJudgement c result
              judged_so (Ok pairs) is =
                  let right = is.1 in
                  (is.0, legal_with c writes is.0 each counted agree parts in_order within right.ends right.is_end right.names, is.2)
              judged_so (Err (Illegal rule)) (inl is) = subst (IsFirstBroken c) (sym is.0) (broken_7 is.1)
              judged_so (Err (Illegal rule)) (inr is) = subst (IsFirstBroken c) (sym is.0) (broken_8 is.1 is.2)
              judged_so (Err NoMemory) is = tt

  -- what a judgement says
  pub judged_legal : (pairs : List Pair) → IsJudgement c (Ok pairs) → IsLegal c (map_of pairs)
  judged_legal pairs is = subst (IsLegal c) (sym (map_of-pairs_of is.0) ∙ ap map_of (sym is.2)) is.1

  pub judged_sorted : (pairs : List Pair) → IsJudgement c (Ok pairs) → pairs ≡ pairs_of (map_of pairs)
  judged_sorted pairs is = is.2 ∙ ap pairs_of (sym (map_of-pairs_of is.0) ∙ ap map_of (sym is.2))

  pub judged_accepted : (result : Result (List Pair) Judged) → IsJudgement c result → (m : Map) → IsLegal c m → IsAnswer result (Ok (pairs_of m))
  judged_accepted (Ok pairs) is m legal = inl (ap (λ (ps : List Pair). Ok ps) (is.2 ∙ ap pairs_of (legal_has_one_end c is.0 m is.1 legal)))
  judged_accepted (Err (Illegal rule)) is m legal = absurd (legal_breaks_none c m rule legal is)
  judged_accepted (Err NoMemory) is m legal = inr refl

  pub judged_refused : (result : Result (List Pair) Judged) → IsJudgement c result → (rule : ℕ) → IsFirstBroken c rule → IsAnswer result (Err (Illegal rule))
  judged_refused (Ok pairs) is rule broken = absurd (legal_breaks_none c is.0 rule is.1 broken)
  judged_refused (Err (Illegal other)) is rule broken = inl (ap (λ (n : ℕ). Err (Illegal n)) (one_first_broken c other rule is broken))
  judged_refused (Err NoMemory) is rule broken = inr refl

  pub judged_illegal : (result : Result (List Pair) Judged) → IsJudgement c result → (rule : ℕ) → result ≡ Err (Illegal rule) → IsFirstBroken c rule
  judged_illegal result is rule same = subst (IsJudgement c) same is

-- the last rule alone may fail
pub end_8 : (base : Map) (told : List Record) (end : RoundEnd) (writes : List Write) → EndsAsSaid base told end writes → (len (end_told base told writes) ≡ end.names → ⊥) → IsEndJudgement base told end writes (Err (Illegal 8))
end_8 base told end writes ended never = inr (
  refl,
  ended,
  λ m right. never (ap len (one_end base told end writes (end_told base told writes) m (ended_so base told end writes ended) right.is_end) ∙ right.names),
)

pub judged_ends : (c : Case) (result : Result (List Pair) Judged) → IsJudgement c result → IfOk result (λ (pairs : List Pair). IsLegal c (map_of pairs))
judged_ends c (Ok pairs) is = judged_legal c pairs is
judged_ends c (Err judged) is = tt

pub judged_in_order : (c : Case) (result : Result (List Pair) Judged) → IsJudgement c result → IfOk result (λ (pairs : List Pair). pairs ≡ pairs_of (map_of pairs))
judged_in_order c (Ok pairs) is = judged_sorted c pairs is
judged_in_order c (Err judged) is = tt
