-- Callers that stop once, and the round that they make.
use Rattle.std.proofs.Common.{◌≡◌, ◌≢◌, ℕ, zero, suc, ◌+◌, ◌<◌, ◌⊎◌, inl, inr, ⊎_elim, List, [], ◌∷◌, ◌++◌, length, get_or, map, refl, sym, ap, subst, ◌∙◌, arith, append-nil}
use Rattle.std.specs.Prelude.{All, Contains, Option, Some, None, flat_map, slice_get}
use Rattle.std.specs.List.{filter_map, cons_option}
use Rattle.std.proofs.lemmas.List.Elements.{All-contains, All-push, Contains-get_or, Contains-push_cases}
use mathlib.Core.Option.{some, some-injective, some-ne-none}
use lib.ListN.{get_elem?}
use Rattle.cat_history.specs.Maps.{Map}
use Rattle.cat_history.specs.CrashRounds.{IsUnsettled, KeepsBudget, StopsOnce, change_cut, changes_cut}
use Rattle.cat_history.specs.Records.{Call, call_of}
use Rattle.cat_history.specs.Rounds.{IsAnswered}
use Rattle.cat_history.specs.declared.op.CallerOp.{CallerOp}
use Rattle.cat_history.specs.declared.op.Change.{Change}
use Rattle.cat_history.specs.declared.op.Op.{Op}
use Rattle.cat_history.specs.declared.op.Write.{Write}
use Rattle.cat_history.specs.declared.record.Record.{Record}
use Rattle.cat_history.specs.declared.record.Reply.TheVariants.{Unstarted}
use Rattle.stopped_rounds.specs.LoneStops.{BeginsFirst}
use Rattle.stopped_rounds.specs.MoreCuts.{AreAmong}
use Rattle.stopped_rounds.proofs.MoreCutsLemmas.{more_cuts_are_crash_ends}
use Rattle.caller_rounds.specs.CallerRounds.{asked_of, by_caller, calls_from}
use Rattle.caller_rounds.specs.Stopping.{EachHasStopped, StopsEndSo, StopsFollow, StopsMakeRound, UnstartedFollow, WithinFollows}
use Rattle.caller_rounds.proofs.Calling.{record-known, replies_follow}
use Rattle.caller_rounds.proofs.Meeting.{replies_make_round}
use Rattle.caller_rounds.proofs.Parting.{all-flat, elem-within, flat-has, given-by, has-first, has-flat, has-later}

-- ---- one call more

pub stops_follow : StopsFollow
stops_follow base limit caller asked old new records r has next last settles = record {
  replies = replies_follow base limit caller asked old new records r has.replies next;
  once = once;
  unsettled = All-push (λ (q : Record). IsUnsettled q.reply) records r has.unsettled settles;
}
  where
    index : r.index ≡ length asked
    index = ap (λ (c : Call). c.index) next.call

    known : (q : Record) → Contains records q → q.index < length asked
    known q here = (record-known caller asked records q has.replies.calls here).1

    once : StopsOnce (records ++ r ∷ [])
    once q s has_q has_s same less = ⊎_elim
        (λ (here_s : Contains records s). ⊎_elim
        (λ (here_q : Contains records q). has.once q s here_q here_s same less)
        (λ (last_q : r ≡ q). let below = known s here_s in let q_index : q.index ≡ length asked = ap (λ (t : Record). t.index) (sym last_q) ∙ index in absurd (omega arith))
        (Contains-push_cases records r q has_q))
        (λ (last_s : r ≡ s). ⊎_elim
        (λ (here_q : Contains records q). behind q s here_q last_s last)
        (λ (last_q : r ≡ q). let one : q.index ≡ s.index = ap (λ (t : Record). t.index) (sym last_q ∙ last_s) in absurd (omega arith))
        (Contains-push_cases records r q has_q))
        (Contains-push_cases records r s has_s)
      where
        behind : (q s : Record) → Contains records q → r ≡ s → All (λ (t : Record). IsAnswered t.reply) records ⊎ (r.reply ≡ Unstarted) → IsAnswered q.reply ⊎ (s.reply ≡ Unstarted)
        behind q s here last_s (inl answered) = inl (All-contains (λ (t : Record). IsAnswered t.reply) records q answered here)
        behind q s here last_s (inr unstarted) = inr (ap (λ (t : Record). t.reply) (sym last_s) ∙ unstarted)

pub unstarted_follow : UnstartedFollow
unstarted_follow base limit caller asked seen records op has =
    stops_follow base limit caller asked seen seen records r has
    (record { more = ([], append-nil seen); call = refl; replied = record { answer = tt; later = tt; within = tt; below = tt }; own = sym (append-nil _) }) (inr refl) tt
  where
    r : Record
    r = record { caller = caller; index = length asked; op = op; reply = Unstarted }

pub within_follows : WithinFollows
within_follows budget records r within none first = record {
  none = λ is. All-push (λ (q : Record). q.reply ≡ Unstarted) records r (within.none is) (none is);
  first = λ some_left. begins records within.first first some_left;
}
  where
    begins : (rs : List Record) → (0 < budget → BeginsFirst rs) → (rs ≡ [] → 0 < budget → r.reply ≢ Unstarted) → 0 < budget → BeginsFirst (rs ++ r ∷ [])
    begins [] had one some_left = one refl some_left
    begins (q ∷ rs) had one some_left = had some_left

-- ---- the round

tails : {X : Type 0} {a b : X} {xs ys : List X} → a ∷ xs ≡ b ∷ ys → xs ≡ ys
tails e = cc

heads : {X : Type 0} {a b : X} {xs ys : List X} → a ∷ xs ≡ b ∷ ys → a ≡ b
heads e = cc

-- records stand at the places of their indexes
index-at : (caller index : ℕ) (ops : List Op) (records : List Record) (k : ℕ) (d : Record) → map call_of records ≡ calls_from caller index ops → k < length records → (get_or records k d).index ≡ index + k
index-at caller index ops [] k d is less = absurd (omega arith)
index-at caller index [] (r ∷ records) k d is less = absurd (cc)
index-at caller index (op ∷ ops) (r ∷ records) zero d is less = let here = ap (λ (c : Call). c.index) (heads is) in omega arith
index-at caller index (op ∷ ops) (r ∷ records) (suc k) d is less = let behind = index-at caller (index + 1) ops records k d (tails is) (omega arith) in omega arith

first-begins : (records : List Record) (k : ℕ) (d : Record) → k ≡ 0 → k < length records → BeginsFirst records → (get_or records k d).reply ≢ Unstarted
first-begins [] k d first less begins = absurd (omega arith)
first-begins (r ∷ records) zero d first less begins = begins
first-begins (r ∷ records) (suc k) d first less begins = absurd (omega arith)

some-one : {X : Type 0} {a b : X} → Some a ≡ Some b → a ≡ b
some-one e = cc

module _ (base : Map) (limit : ℕ) (budgets : List ℕ) (asked : List CallerOp) (history : List Write) (told : List (List Record)) (each : EachHasStopped base limit budgets asked history told) where
  once-all : StopsOnce (by_caller told)
  once-all r s has_r has_s same less =
      let at_r = flat-has told r has_r in
      let at_s = flat-has told s has_s in
      let is_r = each.stopped at_r.0 at_r.1 at_r.2 in
      let is_s = each.stopped at_s.0 at_s.1 at_s.2 in
      let known_r = record-known at_r.0 (asked_of at_r.0 asked) at_r.1 r is_r.replies.calls at_r.3 in
      let known_s = record-known at_s.0 (asked_of at_s.0 asked) at_s.1 s is_s.replies.calls at_s.3 in
      let one : at_r.0 ≡ at_s.0 = sym known_r.0 ∙ same ∙ known_s.0 in
      let lists : at_r.1 ≡ at_s.1 = some-injective at_r.1 at_s.1 (sym at_r.2 ∙ ap (get_elem? told) one ∙ at_s.2) in
      is_r.once r s at_r.3 (subst (λ (l : List Record). Contains l s) (sym lists) at_s.3) same less

  keeps-all : All (KeepsBudget budgets) (by_caller told)
  keeps-all = all-flat (KeepsBudget budgets) told (λ i records there k d less.
      let has = (each.stopped i records there).replies in
      let known : (get_or records k d).caller ≡ i = (record-known i (asked_of i asked) records (get_or records k d) has.calls (Contains-get_or records k d less)).0 in
      let index : (get_or records k d).index ≡ 0 + k = index-at i 0 (asked_of i asked) records k d has.calls less in
      record {
        none = λ is. (each.within i 0 records there (ap (slice_get budgets) (sym known) ∙ is)).none refl k d less;
        first = λ budget is some_left first.
            let zeroth : k ≡ 0 = omega arith in
            first-begins records k d zeroth less ((each.within i budget records there (ap (slice_get budgets) (sym known) ∙ is)).first some_left);
      })

pub stops_make_round : StopsMakeRound
stops_make_round base limit budgets asked history told each writers callers = record {
  legal = replies_make_round base limit asked history told (λ i records there. (each.stopped i records there).replies) writers callers;
  once = once-all base limit budgets asked history told each;
  budget = keeps-all base limit budgets asked history told each;
  unsettled = all-flat (λ (r : Record). IsUnsettled r.reply) told (λ i records there. (each.stopped i records there).unsettled);
}

-- ---- what a crash leaves

gives-has : {X Y : Type 0} (f : X → Option Y) (xs : List X) (x : X) (y : Y) → Contains xs x → f x ≡ Some y → Contains (filter_map f xs) y
gives-has f [] x y has gives = absurd (let less = has.1 in omega arith)
gives-has {X} {Y} f (z ∷ xs) x y (zero, less, is) gives = subst (λ (o : Option Y). Contains (cons_option o (filter_map f xs)) y) (sym (ap f is ∙ gives)) (has-first y (filter_map f xs))
gives-has {X} {Y} f (z ∷ xs) x y (suc n, less, is) gives = put (f z) (gives-has f xs x y (n, omega arith, is) gives)
  where
    put : (o : Option Y) → Contains (filter_map f xs) y → Contains (cons_option o (filter_map f xs)) y
    put None has = has
    put (Some w) has = has-later w (filter_map f xs) y has

stands-within : {X : Type 0} (xs : List X) (i : ℕ) (x : X) → get_elem? xs i ≡ some x → i < length xs
stands-within [] i x there = absurd (some-ne-none x (sym there))
stands-within (y ∷ xs) zero x there = omega arith
stands-within (y ∷ xs) (suc i) x there = let within = stands-within xs i x there in omega arith

abbrev cut-by : Record → Option Change
cut-by r = change_cut r.op r.reply

pub stops_end_so : StopsEndSo
stops_end_so m cuts told end many each ends =
    more_cuts_are_crash_ends m (flat_map (λ (changes : List Change). changes) cuts) (changes_cut (by_caller told)) end among ends
  where
    among : AreAmong (flat_map (λ (changes : List Change). changes) cuts) (changes_cut (by_caller told))
    among c has =
        let here = flat-has cuts c has in
        let less = stands-within cuts here.0 here.1 here.2 in
        let there = elem-within told here.0 (omega arith) in
        let gives = given-by cut-by there.0 c (each here.0 here.1 there.0 here.2 there.1 c here.3) in
        gives-has cut-by (by_caller told) gives.0 c (has-flat told here.0 there.0 gives.0 there.1 gives.1) gives.2
