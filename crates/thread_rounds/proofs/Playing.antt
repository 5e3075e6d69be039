-- A caller's calls, one after another.
use Rattle.std.proofs.Common.{◌≡◌, ◌≢◌, ℕ, suc, ◌+◌, ◌<◌, ◌≤◌, ◌⊎◌, inl, inr, ⊎_elim, Bool, true, false, cond, List, [], ◌∷◌, ◌++◌, length, get_or, map, take, refl, sym, ap, subst, ◌∙◌, arith, ◌^◌, eq-eqb}
use Rattle.std.specs.Prelude.{◌==◌, All, Contains, Option, Some, None}
use Rattle.std.specs.Option.{option_to_list}
use Rattle.std.specs.List.{filter, cons_option}
use Rattle.std.proofs.lemmas.Bool.{ne_eqb}
use Rattle.std.proofs.lemmas.List.{map-append, length-map, append-nil, length-append, take_more}
use Rattle.std.proofs.lemmas.List.Elements.{All-nil, All-head, All-tail, All-push, Contains-append_left, Contains-append_right, filter-append, filter_map-append}
use Rattle.cat_history.specs.CrashRounds.{change_cut, changes_cut}
use Rattle.cat_history.specs.Maps.{map_of}
use Rattle.cat_history.specs.Records.{placed_write, call_of}
use Rattle.cat_history.specs.Rounds.{IsAnswered}
use Rattle.cat_history.specs.declared.op.CallerOp.{CallerOp}
use Rattle.cat_history.specs.declared.op.Change.{Change}
use Rattle.cat_history.specs.declared.op.Op.{Op}
use Rattle.cat_history.specs.declared.op.Write.{Write}
use Rattle.cat_history.specs.declared.plan.CrashPlan.{CrashPlan}
use Rattle.cat_history.specs.declared.plan.RoundPlan.{RoundPlan}
use Rattle.cat_history.specs.declared.record.Record.{Record}
use Rattle.cat_history.specs.declared.record.Reply.{Reply}
use Rattle.cat_history.specs.declared.record.Reply.TheVariants.{Full, Unstarted}
use Rattle.stopped_rounds.specs.LoneStops.{IsWithin}
use Rattle.stopped_rounds.specs.MoreCuts.{AreAmong}
use Rattle.caller_rounds.specs.CallerRounds.{asked_of, calls_from, KnowsRoom}
use Rattle.caller_rounds.specs.Standing.{HasReportNumbers}
use Rattle.caller_rounds.specs.Stopping.{HasStopped}
use Rattle.caller_rounds.proofs.Rooms.{room_follows}
use Rattle.caller_rounds.proofs.Stopping.{stops_follow, unstarted_follow, within_follows}
use Rattle.caller_rounds.proofs.Told.{settled_are_told}
use Rattle.pac_index.specs.declared.caller.Caller.{Caller}
use Rattle.pac_index.specs.declared.caller.CutCall.{CutCall}
use Rattle.pac_index.specs.declared.rule.About.{About}
use Rattle.pac_index.specs.Callers.{IsAtRest, seen_by}
use Rattle.pac_index.specs.Cuts.{HasPaid}
use Rattle.pac_index.specs.CrashMeetings.{change_in_flight, put_in_flight}
use Rattle.pac_index.specs.Kept.{placed_by}
use Rattle.pac_index.proofs.Remaining.{stays_unbounded}
use Rattle.thread_rounds.specs.Made.{AnsweredOrCut, HasGone, IsMade, WasAnswered, WasCut, made}
use Rattle.thread_rounds.specs.Played.{HasPlayed, IsToldOnceSettled, budget_of}
use Rattle.thread_rounds.proofs.Own.{placed-own}

none-zero : {n : ℕ} → None ≡ Some n → ⊥
none-zero is = cc

some-one : {a b : ℕ} → Some a ≡ Some b → a ≡ b
some-one is = cc

unstarted-full : Unstarted ≡ Full → ⊥
unstarted-full is = cc

-- an answered call was begun
answered-begun : (reply : Reply) → IsAnswered reply → reply ≢ Unstarted
answered-begun reply answered is = subst IsAnswered is answered

-- there is no bound only where the callers are joined
pub unbounded-joined : (crash : Option CrashPlan) (number : ℕ) → budget_of crash number ≡ None → crash ≡ None
unbounded-joined None number is = refl
unbounded-joined (Some crash) number is = absurd (none-zero (sym is))

-- one that has written nothing, and was asked nothing
pub nothing-played : (limit caller : ℕ) (budget : Option ℕ) (c : Caller) → placed_by caller (seen_by c).seen ≡ [] → (seen_by c).added ≡ 0 → c.cut ≡ None → (budget ≡ None → IsAtRest c) → HasPlayed limit caller budget [] c []
nothing-played limit caller budget c none added uncut rests = record {
  stopped = record {
    replies = record {
      calls = refl;
      answers = All-nil _;
      within = All-nil _;
      in_order = λ r s has_r has_s same less. absurd (let inside = has_r.1 in omega arith);
      own = sym (placed-own caller (seen_by c).seen) ∙ none;
      begun = All-nil _;
      in_time = λ p q has_p has_q less. absurd (let inside = has_p.1 in omega arith);
    };
    once = λ r s has_r has_s same less. absurd (let inside = has_r.1 in omega arith);
    unsettled = All-nil _;
  };
  within = λ most is. record { none = λ _. All-nil _; first = λ _. tt };
  room = record { told = let nothing : put_in_flight c.cut ≡ 0 = ap put_in_flight uncut in omega arith; full = All-nil _ };
  told = All-nil _;
  cut = subst (λ (o : Option CutCall). AreAmong (change_in_flight o) []) (sym uncut) (λ change has. has);
  answered = λ is. All-nil _;
  rests = rests;
}

-- ---- one call more

-- a caller that may go on with its calls: each one before was answered
pub record GoesOn (c : Caller) (index : ℕ) (records : List Record) : Type 0 where
  pub answered : All (λ (r : Record). IsAnswered r.reply) records
  pub rests : IsAtRest c
  pub next : c.index ≡ index

-- what is left of its budget behind so many calls
pub record Keeps (budget : Option ℕ) (c : Caller) (index : ℕ) (records : List Record) : Type 0 where
  pub goes : (c.left ≡ Some 0) ⊎ GoesOn c index records
  pub unbounded : budget ≡ None → c.left ≡ None
  pub none : budget ≡ Some 0 → c.left ≡ Some 0
  pub first : records ≡ [] → c.left ≡ budget

cut-push : (records : List Record) (r : Record) → changes_cut (records ++ r ∷ []) ≡ changes_cut records ++ option_to_list (change_cut r.op r.reply)
cut-push records r = filter_map-append (λ (q : Record). change_cut q.op q.reply) records (r ∷ []) ∙ ap (λ (l : List Change). changes_cut records ++ l) (last (change_cut r.op r.reply))
  where
    last : (o : Option Change) → cons_option o [] ≡ option_to_list o
    last None = refl
    last (Some change) = refl

among-before : (changes : List Change) (records : List Record) (r : Record) → AreAmong changes (changes_cut records) → AreAmong changes (changes_cut (records ++ r ∷ []))
among-before changes records r among c has =
    subst (λ (l : List Change). Contains l c) (sym (cut-push records r)) (Contains-append_left (changes_cut records) (option_to_list (change_cut r.op r.reply)) c (among c has))

among-last : (changes : List Change) (records : List Record) (r : Record) → AreAmong changes (option_to_list (change_cut r.op r.reply)) → AreAmong changes (changes_cut (records ++ r ∷ []))
among-last changes records r among c has =
    subst (λ (l : List Change). Contains l c) (sym (cut-push records r)) (Contains-append_right (changes_cut records) (option_to_list (change_cut r.op r.reply)) c (among c has))

module _ (limit caller : ℕ) (budget : Option ℕ) (asked : List Op) (op : Op) (records : List Record) where
  -- one that wasn't begun
  unstarted-on : (c : Caller) → HasPlayed limit caller budget asked c records → Keeps budget c (length asked) records → c.left ≡ Some 0 → HasPlayed limit caller budget (asked ++ op ∷ []) c (records ++ made caller (length asked) op Unstarted ∷ [])
  unstarted-on c has keeps out = record {
    stopped = unstarted_follow (map_of (seen_by c).about.base) limit caller asked (seen_by c).seen records op has.stopped;
    within = λ most is. within_follows most records r (has.within most is) (λ _. refl)
        (λ none some_left. absurd (let left : most ≡ 0 = some-one (sym is ∙ sym (keeps.first none) ∙ out) in omega arith));
    room = room_follows (seen_by c).about.layout.slots (map_of (seen_by c).about.base) (seen_by c).seen (seen_by c).seen (seen_by c).none_free (seen_by c).none_free ((seen_by c).added + put_in_flight c.cut)
        ((seen_by c).added + put_in_flight c.cut) records r has.room ([], append-nil (seen_by c).seen) (λ noted. noted) (omega arith) (λ full. absurd (unstarted-full full));
    told = All-push IsToldOnceSettled records r has.told (λ end. tt);
    cut = among-before (change_in_flight c.cut) records r has.cut;
    answered = λ is. absurd (none-zero (sym (keeps.unbounded is) ∙ out));
    rests = λ is. absurd (none-zero (sym (keeps.unbounded is) ∙ out));
  }
    where
      r : Record
      r = made caller (length asked) op Unstarted

  -- one that was begun
  made-on : (old new : Caller) (reply : Reply) → HasPlayed limit caller budget asked old records → Keeps budget old (length asked) records → old.left ≢ Some 0 → HasPaid old new
      → IsMade limit caller (length asked) op reply (seen_by old) (seen_by new) new.cut → AnsweredOrCut reply old new → HasReportNumbers reply
      → HasPlayed limit caller budget (asked ++ op ∷ []) new (records ++ made caller (length asked) op reply ∷ [])
  made-on old new reply has keeps more paid is ends numbers =
      subst (λ (a : About). HasStopped (map_of a.base) limit caller (asked ++ op ∷ []) (seen_by new).seen (records ++ r ∷ []) → KnowsRoom a.layout.slots (map_of a.base) (seen_by new).seen (seen_by new).none_free ((seen_by new).added + put_in_flight new.cut) (records ++ r ∷ [])
      → HasPlayed limit caller budget (asked ++ op ∷ []) new (records ++ r ∷ [])) is.about
      (λ stopped room. record { stopped = stopped; within = within; room = room; told = told; cut = among-last (change_in_flight new.cut) records r is.tells; answered = answered; rests = rests })
      (stops_follow (map_of (seen_by old).about.base) limit caller asked (seen_by old).seen (seen_by new).seen records r has.stopped
      (record { more = is.seen; call = refl; replied = is.replied; own = sym (placed-own caller (seen_by new).seen) ∙ is.own ∙ ap (λ (l : List (ℕ × Write)). l ++ option_to_list (placed_write r)) (placed-own caller (seen_by old).seen) })
      (inl going.answered) is.unsettled)
      (room_follows (seen_by old).about.layout.slots (map_of (seen_by old).about.base) (seen_by old).seen (seen_by new).seen (seen_by old).none_free (seen_by new).none_free ((seen_by old).added + put_in_flight old.cut)
      ((seen_by new).added + put_in_flight new.cut) records r has.room is.seen is.none_free (let few = is.added in omega arith) is.full)
    where
      r : Record
      r = made caller (length asked) op reply

      going : GoesOn old (length asked) records
      going = ⊎_elim (λ (out : old.left ≡ Some 0). absurd (more out)) (λ (on : GoesOn old (length asked) records). on) keeps.goes

      begun : reply ≢ Unstarted
      begun = ⊎_elim (λ (was : WasAnswered reply old new). answered-begun reply was.answered) (λ (was : WasCut reply new). was.begun) ends

      within : (most : ℕ) → budget ≡ Some most → IsWithin most (records ++ r ∷ [])
      within most is_budget = within_follows most records r (has.within most is_budget) (λ without. absurd (more (keeps.none (is_budget ∙ ap Some without)))) (λ _ _. begun)

      told : All IsToldOnceSettled (records ++ r ∷ [])
      told = All-push IsToldOnceSettled records r has.told (λ end. settled_are_told (map_of (seen_by old).about.base) (seen_by new).seen limit op reply end is.replied.answer numbers)

      never-cut : budget ≡ None → WasCut reply new → ⊥
      never-cut none was = none-zero (sym (stays_unbounded old.left new.left (seen_by old).taken (seen_by new).taken paid (keeps.unbounded none)) ∙ was.spent)

      answered : budget ≡ None → All (λ (q : Record). IsAnswered q.reply) (records ++ r ∷ [])
      answered none = ⊎_elim
          (λ (was : WasAnswered reply old new). All-push (λ (q : Record). IsAnswered q.reply) records r going.answered was.answered)
          (λ (was : WasCut reply new). absurd (never-cut none was))
          ends

      rests : budget ≡ None → IsAtRest new
      rests none = ⊎_elim (λ (was : WasAnswered reply old new). was.rests) (λ (was : WasCut reply new). absurd (never-cut none was)) ends

  pub plays-on : (old new : Caller) (reply : Reply) → old.number ≡ caller → HasPlayed limit caller budget asked old records → Keeps budget old (length asked) records → HasPaid old new → HasGone limit op reply old new
      → HasReportNumbers reply → HasPlayed limit caller budget (asked ++ op ∷ []) new (records ++ made caller (length asked) op reply ∷ [])
  plays-on old new reply number has keeps paid (inl out) numbers =
      subst (λ (d : Caller). HasPlayed limit caller budget (asked ++ op ∷ []) d (records ++ made caller (length asked) op reply ∷ [])) (sym out.same)
      (subst (λ (q : Reply). HasPlayed limit caller budget (asked ++ op ∷ []) old (records ++ made caller (length asked) op q ∷ [])) (sym out.unstarted) (unstarted-on old has keeps out.spent))
  plays-on old new reply number has keeps paid (inr gone) numbers =
      let next : old.index ≡ length asked = ⊎_elim (λ (out : old.left ≡ Some 0). absurd (gone.steps out)) (λ (on : GoesOn old (length asked) records). on.next) keeps.goes in
      made-on old new reply has keeps gone.steps paid
      (subst (λ (n : ℕ). IsMade limit n (length asked) op reply (seen_by old) (seen_by new) new.cut) number (subst (λ (n : ℕ). IsMade limit old.number n op reply (seen_by old) (seen_by new) new.cut) next gone.made)) gone.ends numbers

  -- and what is left of its budget
  pub keeps-on : (old new : Caller) (reply : Reply) (r : Record) → r.reply ≡ reply → Keeps budget old (length asked) records → HasPaid old new → HasGone limit op reply old new → length asked + 1 < 2 ^ 64 → Keeps budget new (length asked + 1) (records ++ r ∷ [])
  keeps-on old new reply r is keeps paid gone small = record {
    goes = goes gone;
    unbounded = λ none. stays_unbounded old.left new.left (seen_by old).taken (seen_by new).taken paid (keeps.unbounded none);
    none = λ without. still gone (keeps.none without);
    first = λ none. absurd (let long : length (records ++ r ∷ []) ≡ 0 = ap length none in let more = length-append records (r ∷ []) in omega arith);
  }
    where
      still : HasGone limit op reply old new → old.left ≡ Some 0 → new.left ≡ Some 0
      still (inl out) spent = ap (λ (d : Caller). d.left) out.same ∙ spent
      still (inr on) spent = absurd (on.steps spent)

      goes : HasGone limit op reply old new → (new.left ≡ Some 0) ⊎ GoesOn new (length asked + 1) (records ++ r ∷ [])
      goes (inl out) = inl (ap (λ (d : Caller). d.left) out.same ∙ out.spent)
      goes (inr on) = ⊎_elim
          (λ (was : WasAnswered reply old new). ⊎_elim
          (λ (out : old.left ≡ Some 0). absurd (on.steps out))
          (λ (going : GoesOn old (length asked) records). inr (record {
            answered = All-push (λ (q : Record). IsAnswered q.reply) records r going.answered (subst IsAnswered (sym is) was.answered);
            rests = was.rests;
            next = let so = going.next in let next = was.next in omega arith;
          }))
          keeps.goes)
          (λ (was : WasCut reply new). inl was.spent)
          on.ends

-- ---- what a caller is asked

abbrev mine : ℕ → CallerOp → Bool
mine caller a = a.caller == caller

pub asked-push : (caller : ℕ) (asked : List CallerOp) (a : CallerOp) → asked_of caller (asked ++ a ∷ []) ≡ asked_of caller asked ++ cond (a.caller == caller) (a.op ∷ []) []
asked-push caller asked a =
    ap (map (λ (o : CallerOp). o.op)) (filter-append (mine caller) asked (a ∷ []))
    ∙ map-append (λ (o : CallerOp). o.op) (filter (mine caller) asked) (filter (mine caller) (a ∷ []))
    ∙ ap (λ (l : List Op). asked_of caller asked ++ l) (one (a.caller == caller))
  where
    one : (b : Bool) → map (λ (o : CallerOp). o.op) (cond b (a ∷ []) []) ≡ cond b (a.op ∷ []) []
    one true = refl
    one false = refl

-- one above all callers is asked nothing
pub asked-none : (caller : ℕ) (asked : List CallerOp) → All (λ (a : CallerOp). a.caller < caller) asked → asked_of caller asked ≡ []
asked-none caller [] few = refl
asked-none caller (a ∷ asked) few =
    let less = All-head (λ (o : CallerOp). o.caller < caller) a asked few in
    let other : a.caller ≢ caller = λ same. omega arith in
    ap (λ b. map (λ (o : CallerOp). o.op) (cond b (a ∷ filter (mine caller) asked) (filter (mine caller) asked))) (ne_eqb a.caller caller other)
    ∙ asked-none caller asked (All-tail (λ (o : CallerOp). o.caller < caller) a asked few)

pub asked-few : (caller : ℕ) (asked : List CallerOp) → length (asked_of caller asked) ≤ length asked
asked-few caller [] = omega arith
asked-few caller (a ∷ asked) = by (a.caller == caller) (asked-few caller asked)
  where
    by : (b : Bool) → length (asked_of caller asked) ≤ length asked → length (map (λ (o : CallerOp). o.op) (cond b (a ∷ filter (mine caller) asked) (filter (mine caller) asked))) ≤ suc (length asked)
    by true less = omega arith
    by false less = omega arith

-- a caller that has come so far with its calls among so many of the plan
pub record PlaysSoFar (plan : RoundPlan) (number : ℕ) (budget : Option ℕ) (at : ℕ) (caller : Caller) (index : ℕ) (records : List Record) : Type 0 where
  pub number_is : caller.number ≡ number
  pub has : HasPlayed plan.limit number budget (asked_of number (take at plan.ops)) caller records
  pub made_so_far : index ≡ length (asked_of number (take at plan.ops))
  pub keeps : Keeps budget caller index records

calls-long : (caller index : ℕ) (ops : List Op) → length (calls_from caller index ops) ≡ length ops
calls-long caller index [] = refl
calls-long caller index (op ∷ ops) = ap suc (calls-long caller (index + 1) ops)

-- it has as many records as it had calls
pub index-is : (plan : RoundPlan) (number : ℕ) (budget : Option ℕ) (at : ℕ) (caller : Caller) (index : ℕ) (records : List Record) → PlaysSoFar plan number budget at caller index records → index ≡ length records
index-is plan number budget at caller index records is =
    let asked = asked_of number (take at plan.ops) in
    is.made_so_far ∙ sym (calls-long number 0 asked) ∙ ap length (sym is.has.stopped.replies.calls) ∙ length-map records call_of

module _ (plan : RoundPlan) (number : ℕ) (budget : Option ℕ) (at : ℕ) (caller : Caller) (index : ℕ) (records : List Record) (is : PlaysSoFar plan number budget at caller index records) (call : CallerOp) (less : at < length plan.ops)
    (there : call ≡ get_or plan.ops at call) where
  asked-more : asked_of number (take (at + 1) plan.ops) ≡ asked_of number (take at plan.ops) ++ cond (call.caller == number) (call.op ∷ []) []
  asked-more =
      ap (asked_of number) (take_more plan.ops at call less ∙ ap (λ (a : CallerOp). take at plan.ops ++ a ∷ []) (sym there))
      ∙ asked-push number (take at plan.ops) call

  -- the call at hand is another caller's
  pub none-made : (call.caller ≡ number → ⊥) → PlaysSoFar plan number budget (at + 1) caller index records
  none-made other =
      let same : asked_of number (take (at + 1) plan.ops) ≡ asked_of number (take at plan.ops) =
      asked-more ∙ ap (λ b. asked_of number (take at plan.ops) ++ cond b (call.op ∷ []) []) (ne_eqb call.caller number other) ∙ append-nil (asked_of number (take at plan.ops)) in
      record {
        number_is = is.number_is;
        has = subst (λ (l : List Op). HasPlayed plan.limit number budget l caller records) (sym same) is.has;
        made_so_far = is.made_so_far ∙ ap length (sym same);
        keeps = is.keeps;
      }

  -- or it has gone, as far as its budget let it
  pub one-made : (new : Caller) (reply : Reply) → call.caller ≡ number → new.number ≡ caller.number → index + 1 < 2 ^ 64 → HasPaid caller new → HasGone plan.limit call.op reply caller new → HasReportNumbers reply
      → PlaysSoFar plan number budget (at + 1) new (index + 1) (records ++ made number index call.op reply ∷ [])
  one-made new reply mine stays small paid gone numbers =
      let before : List Op = asked_of number (take at plan.ops) in
      let more : asked_of number (take (at + 1) plan.ops) ≡ before ++ call.op ∷ [] =
      asked-more ∙ ap (λ b. asked_of number (take at plan.ops) ++ cond b (call.op ∷ []) []) (eq-eqb call.caller number mine) in
      let so : index ≡ length before = is.made_so_far in
      let kept : Keeps budget caller (length before) records = subst (λ (n : ℕ). Keeps budget caller n records) so is.keeps in
      let on = plays-on plan.limit number budget before call.op records caller new reply is.number_is is.has kept paid gone numbers in
      record {
        number_is = stays ∙ is.number_is;
        has = subst (λ (l : List Op). HasPlayed plan.limit number budget l new (records ++ made number index call.op reply ∷ [])) (sym more)
            (subst (λ (n : ℕ). HasPlayed plan.limit number budget (before ++ call.op ∷ []) new (records ++ made number n call.op reply ∷ [])) (sym so) on);
        made_so_far = let long = ap length more in let both = length-append before (call.op ∷ []) in omega arith;
        keeps = subst (λ (n : ℕ). Keeps budget new (n + 1) (records ++ made number index call.op reply ∷ [])) (sym so)
            (keeps-on plan.limit number budget before call.op records caller new reply (made number index call.op reply) refl kept paid gone (subst (λ (n : ℕ). n + 1 < 2 ^ 64) so small));
      }

-- as its calls begin
pub begins-playing : (plan : RoundPlan) (number : ℕ) (budget : Option ℕ) (c : Caller) → c.number ≡ number → placed_by number (seen_by c).seen ≡ [] → (seen_by c).added ≡ 0 → c.index ≡ 0 → c.left ≡ budget → IsAtRest c → PlaysSoFar plan number budget 0 c 0 []
begins-playing plan number budget c is none added first left rests = record {
  number_is = is;
  has = nothing-played plan.limit number budget c none added rests.2 (λ _. rests);
  made_so_far = refl;
  keeps = record { goes = inr (record { answered = All-nil _; rests = rests; next = first }); unbounded = λ unbounded. left ∙ unbounded; none = λ without. left ∙ without; first = λ _. left };
}
