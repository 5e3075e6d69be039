-- Tries that are turned back, and the last one, which takes place.
use Rattle.std.proofs.Common.{◌≡◌, ◌⊎◌, ℕ, ◌+◌, ◌≤◌, ◌||◌, inl, inr, ⊎_elim, Bool, true, List, [], ◌++◌, length, refl, sym, ap, ◌∙◌, subst, arith}
use Rattle.std.proofs.lemmas.List.{append-nil}
use Rattle.std.specs.Prelude.{Option, Some, None, IfSome}
use Rattle.pm_words.specs.declared.again.Again.TheVariants as again
use Rattle.call_stages.specs.declared.once.Once.{Once}
use Rattle.call_stages.specs.declared.once.Once.TheVariants as once
use Rattle.call_stages.specs.declared.once.Placed.{Placed}
use Rattle.node_ops.specs.declared.part.PartWords.{PartWords}
use Rattle.node_ops.specs.PartSteps.{placed_of}
use Rattle.index_core.specs.declared.party.CoreCall.{CoreCall}
use Rattle.index_core.specs.declared.party.CoreCall.TheVariants as call
use Rattle.index_core.specs.PartyStates.{next_index}
use Rattle.pac_index.specs.declared.tried.Tried.{Tried}
use Rattle.pac_index.specs.declared.tried.Tried.TheVariants as tried
use Rattle.updater.specs.declared.making.TurnReply.{TurnReply}
use Rattle.updater.specs.declared.making.TurnReply.TheVariants as reply
use Rattle.updater.specs.declared.terms.Turned.{Turned}
use Rattle.index_core.specs.declared.party.PartyState.{PartyState}
use Rattle.pac_index.specs.declared.tried.TriedTurn.{TriedTurn}
use Rattle.pac_index.specs.declared.tried.TriedTurn.TheVariants as turn
use Rattle.pac_index.specs.declared.caller.Caller.{Caller}
use Rattle.pac_index.specs.declared.caller.CutCall.{CutCall}
use Rattle.pac_index.specs.declared.ended.Ended.{Ended}
use Rattle.pac_index.specs.declared.ended.Ended.TheVariants as ended
use Rattle.pac_index.specs.declared.rule.Member.{Member}
use Rattle.cat_history.specs.Records.{change_of}
use Rattle.cat_history.specs.declared.op.Write.{Write}
use Rattle.index_core.specs.CoreCalls.{op_of}
use Rattle.index_core.specs.MachineLaws.{place_told}
use Rattle.index_core.specs.Weights.{added_by}
use Rattle.pac_index.specs.declared.shared.Shared.{Shared}
use Rattle.pac_index.specs.Budgets.{CutsOff, StopsAt, TriedBack, place_in}
use Rattle.pac_index.specs.Cuts.{HasEnded, HasPaid, IsCutCall, IsCutTry, IsCutWithin, IsTried, StopsTry, own_cut}
use Rattle.pac_index.specs.Kept.{PlacesNone, placed_by}
use Rattle.pac_index.specs.Calls.{Answers, PartAnswers, counted_index, own_at}
use Rattle.pac_index.specs.Callers.{IsAtRest, IsCallerOf, StaysCaller, pins_of, seen_by, spare_of}
use Rattle.pac_index.specs.CutTurns.{IsCutTurn, IsCutTurnTry, StopsDated, StopsUndated, TurnCutsOff, TurnStops, TurnStopsAt}
use Rattle.pac_index.specs.Pinned.{Pinned, PinMoved, WasPinned}
use Rattle.pac_index.specs.Ends.{ended_of, ended_by, turn_ended_by, DoesNothing, EachIs, OnDone, IsTry, HasOnlyRead, AtLast, TurnedBack}
use Rattle.pac_index.specs.Ends.EachIs.{no_step, one_more}
use Rattle.pac_index.specs.Outcomes.{OnceComesTo, RepeatComesTo, TryComesTo, TryTakesSpare, TurnComesTo, TurnTryComesTo, TurnTryRests}
use Rattle.pac_index.specs.Turns.{noted_in, FoundHeld, MadeTurn, TurnAnswers, TurnHeld}
use Rattle.epochs.specs.Kept.{first_epoch}
use Rattle.epochs.specs.declared.rule.PinMember.{PinMember}
use Rattle.pac_index.proofs.Budgeting.{pays_nothing, pays_then}
use Rattle.pac_index.proofs.Known.{still_same}
use Rattle.pac_index.proofs.Lists.{begins_self, begins_trans}

pub back_self : (v : Member) → HasOnlyRead v v
back_self v = record { about = refl; caller = refl; taken = omega arith; added = refl; none_free = λ noted. noted; known = λ j a at. at; seen = begins_self v.seen; own = refl }

pub back_trans : (u v w : Member) → HasOnlyRead u v → HasOnlyRead v w → HasOnlyRead u w
back_trans u v w p q = record {
  about = q.about ∙ p.about;
  caller = q.caller ∙ p.caller;
  taken = let a = p.taken in let b = q.taken in omega arith;
  added = q.added ∙ p.added;
  none_free = λ noted. q.none_free (p.none_free noted);
  known = λ j a at. q.known j a (p.known j a at);
  seen = begins_trans u.seen v.seen w.seen p.seen q.seen;
  own = subst (λ (c : ℕ). placed_by c w.seen ≡ placed_by c v.seen) p.caller q.own ∙ p.own;
}

-- a call that has added no name and placed no write has read alone
module _ (c : CoreCall) (n : ℕ) (v w : Member) where
  pub reads_by : (answer : Once Placed) → added_by (op_of c) answer ≡ 0 → own_at v.state.caller n (change_of (op_of c)) (place_told (change_of (op_of c)) answer) ≡ [] → Answers c n v answer w → HasOnlyRead v w
  reads_by answer none nothing is = record {
    about = is.about;
    caller = is.caller;
    taken = let t = is.taken in omega arith;
    added = let a = is.added in omega arith;
    none_free = λ noted. is.none_free ∙ noted;
    known = is.known;
    seen = is.seen;
    own = is.own ∙ ap (λ (l : List (ℕ × Write)). placed_by v.state.caller v.seen ++ l) nothing ∙ append-nil (placed_by v.state.caller v.seen);
  }

  -- so has one that is turned back,
  pub back_by : (answer : Once Placed) → ended_of answer ≡ None → Answers c n v answer w → HasOnlyRead v w
  back_by (once.Done placed) none is = absurd (cc)
  back_by (once.Spent clock) none is = absurd (cc)
  back_by (once.Worn node word) none is = reads_by (once.Worn node word) refl refl is
  back_by (once.Again why) none is = reads_by (once.Again why) refl refl is

  -- and one that was cut off without a place of its own
  pub stop_reads : (place : Option ℕ) → own_at v.state.caller n (change_of (op_of c)) place ≡ [] → StopsAt c n v place w → HasOnlyRead v w
  stop_reads place nothing is = record {
    about = is.about;
    caller = is.caller;
    taken = let t = is.taken in omega arith;
    added = is.added;
    none_free = λ noted. is.none_free ∙ noted;
    known = is.known;
    seen = is.seen;
    own = is.own ∙ ap (λ (l : List (ℕ × Write)). placed_by v.state.caller v.seen ++ l) nothing ∙ append-nil (placed_by v.state.caller v.seen);
  }

  pub cut_off_reads : (place : Option ℕ) → own_at v.state.caller n (change_of (op_of c)) place ≡ [] → CutsOff c n v place w → HasOnlyRead v w
  cut_off_reads place nothing is = ⊎_elim
      (λ (none : (place ≡ None) × (w ≡ v)). subst (λ (x : Member). HasOnlyRead v x) (sym none.1) (back_self v))
      (λ (stops : StopsAt c n v place w). stop_reads place nothing stops)
      is

-- of a call that asks for no change there is none
pub nothing_own : (caller index : ℕ) (place : Option ℕ) → own_at caller index None place ≡ []
nothing_own caller index None = refl
nothing_own caller index (Some place) = refl

-- a try that the epoch turned back has seen nothing
pub pinned_back : {T : Type 0} (holds : Member → Once T → Member → Type 0) (old new : Caller) (answer : Once T) → (holds (seen_by old) answer (seen_by new) → HasOnlyRead (seen_by old) (seen_by new)) → Pinned holds old answer new
    → HasOnlyRead (seen_by old) (seen_by new)
pinned_back holds old new answer back is = ⊎_elim
    (λ (had : holds (seen_by old) answer (seen_by new) × WasPinned old new). back had.0)
    (λ (moved : PinMoved old answer new). subst (λ (w : Member). HasOnlyRead (seen_by old) w) (sym moved.same) (back_self (seen_by old)))
    is

-- and one that is answered otherwise had its pin
pub had_pin : {T : Type 0} (holds : Member → Once T → Member → Type 0) (old new : Caller) (answer : Once T) → ((first second : ℕ) → answer ≡ once.Again (again.Epoch first second) → ⊥) → Pinned holds old answer new
    → holds (seen_by old) answer (seen_by new)
had_pin holds old new answer other is = ⊎_elim
    (λ (had : holds (seen_by old) answer (seen_by new) × WasPinned old new). had.0)
    (λ (moved : PinMoved old answer new). absurd (other moved.first moved.second moved.is))
    is

-- a try as its caller's view has it
pub pinned_try : {T : Type 0} (holds : Member → Once T → Member → Type 0) (old new : Caller) (answer : Once T) → Pinned holds old answer new → IsTry holds (seen_by old) answer (seen_by new)
pinned_try holds old new answer is = ⊎_elim
    (λ (had : holds (seen_by old) answer (seen_by new) × WasPinned old new). inl had.0)
    (λ (moved : PinMoved old answer new). inr (record { first = moved.first; second = moved.second; is = moved.is; apart = moved.loads.apart; same = moved.same }))
    is

-- a try with nothing behind it
pub turned_back : {T : Type 0} (holds : Member → Once T → Member → Type 0) (old new : Caller) (answer : Once T) → ended_of answer ≡ None → Pinned holds old answer new → TurnedBack holds DoesNothing (seen_by old) (seen_by new)
turned_back holds old new answer none is = record { answer = answer; again = none; tried = seen_by new; told = pinned_try holds old new answer is; next = refl }

none_of : (answer : Once PartWords) → ended_of answer ≡ None → ended_of (placed_of answer) ≡ None
none_of (once.Done words) none = absurd (cc)
none_of (once.Spent clock) none = absurd (cc)
none_of (once.Worn node word) none = refl
none_of (once.Again why) none = refl

pub same_index : {T : Type 0} (n : ℕ) (answer : Once T) → ended_of answer ≡ None → counted_index n answer ≡ n
same_index n (once.Done value) none = absurd (cc)
same_index n (once.Spent clock) none = absurd (cc)
same_index n (once.Worn node word) none = refl
same_index n (once.Again why) none = refl

-- What is left by tries that were turned back in this way: the index, and this.
pub record Tries (back_step : Member → Member → Type 0) (n : ℕ) (old : Member) (now_index : ℕ) (now : Member) : Type 0 where
  pub tries : EachIs back_step old now
  pub index : now_index ≡ n
  pub back : HasOnlyRead old now

pub tries_begin : (back_step : Member → Member → Type 0) (n : ℕ) (old : Member) → Tries back_step n old n old
tries_begin back_step n old = record { tries = no_step; index = refl; back = back_self old }

pub none_held : (old : Member) → EachIs FoundHeld old old
none_held old = no_step

-- What its caller is in the loop of tries: as the call began, or at rest.
abbrev pub StillOrRests : Caller → Caller → Type 0
StillOrRests old now = (now ≡ old) ⊎ IsAtRest now

-- a try, tried again
pub tries_again : {T : Type 0} (holds : ℕ → Member → Once T → Member → Type 0) (n : ℕ) (old : Member) (b a : Caller) (answer : Once T) → ((v w : Member) → holds n v answer w → HasOnlyRead v w) → Tries (TriedBack holds n) n old b.index (seen_by b) → ended_of answer ≡ None
    → IsTried holds b answer a → Tries (TriedBack holds n) n old a.index (seen_by a)
tries_again holds n old b a answer reads tries none is =
    let pinned = subst (λ (k : ℕ). Pinned (holds k) b answer a) tries.index is.pinned in
    record {
      tries = one_more tries.tries (turned_back (holds n) b a answer none pinned);
      index = is.index ∙ same_index b.index answer none ∙ tries.index;
      back = back_trans old (seen_by b) (seen_by a) tries.back (pinned_back (holds n) b a answer (reads (seen_by b) (seen_by a)) pinned);
    }

pub once_again : (T : Type 0) (holds : ℕ → Member → Once T → Member → Type 0) (c : CoreCall) (n : ℕ) (old : Member) (b a : Caller) (t : Tried T) → ((answer : Once T) → ended_of answer ≡ None → (v w : Member) → holds n v answer w → HasOnlyRead v w)
    → Tries (TriedBack holds n) n old b.index (seen_by b) → ended_by t ≡ None → OnceComesTo holds c b t a → Tries (TriedBack holds n) n old a.index (seen_by a) × IsAtRest a
once_again T holds c n old b a (tried.Answered answer) reads tries none is = (tries_again holds n old b a answer (reads answer none) tries none is, is.rests)
once_again T holds c n old b a tried.Cut reads tries none is = absurd (cc)

-- a part that is turned back
pub part_back_by : (low : List ℕ) (count n : ℕ) (answer : Once PartWords) → ended_of answer ≡ None → (v w : Member) → PartAnswers low count n v answer w → HasOnlyRead v w
part_back_by low count n answer none v w part = back_by (call.Part low count) n v w (placed_of answer) (none_of answer none) part.looks

pub none_else : {A : Type 0} (o : Option A) → ((x : A) → o ≡ Some x → ⊥) → o ≡ None
none_else None never = refl
none_else (Some x) never = absurd (never x refl)

-- what isn't done was cut off
pub not_done_cut : {T : Type 0} (e : Ended T) (D : T → Type 0) (C : Type 0) → OnDone e D C → ((value : T) → e ≡ ended.Done value → ⊥) → C
not_done_cut (ended.Done value) D C is never = absurd (never value refl)
not_done_cut ended.Full D C is never = absurd is
not_done_cut (ended.Spent clock) D C is never = absurd is
not_done_cut ended.Cut D C is never = is

-- the last try: it is answered otherwise,
pub call_ended : {T : Type 0} (holds : ℕ → Member → Once T → Member → Type 0) (n : ℕ) (old : Caller) (b a : Caller) (answer : Once T) → n ≡ old.index → ((m : ℕ) → counted_index m answer ≡ next_index m) → ((first second : ℕ) → answer ≡ once.Again (again.Epoch first second) → ⊥)
    → Tries (TriedBack holds n) n (seen_by old) b.index (seen_by b) → IsTried holds b answer a → HasEnded (AtLast (TriedBack holds n) (λ before after. holds n before answer after)) old a
call_ended holds n old b a answer same counted other tries is =
    let pinned = subst (λ (k : ℕ). Pinned (holds k) b answer a) tries.index is.pinned in
    record {
      rests = is.rests;
      index = is.index ∙ counted b.index ∙ ap next_index (tries.index ∙ same);
      ends = record { before = seen_by b; tries = tries.tries; back = tries.back; last = had_pin (holds n) b a answer other pinned };
    }

-- or it is cut off
pub cut_last : (c : CoreCall) (b a : Caller) → IsAtRest b → IsCutTry c b a → CutsOff c b.index (seen_by b) (place_in a.cut) (seen_by a)
cut_last c b a rests is = ⊎_elim
    (λ (same : a ≡ b). inl (ap (λ (d : Caller). place_in d.cut) same ∙ ap place_in rests.2, ap seen_by same))
    (λ (stops : StopsTry c b a). inr (subst (λ (p : Option ℕ). StopsAt c b.index (seen_by b) p (seen_by a)) (sym (ap place_in stops.tells)) stops.stops))
    is.cut

-- and its caller tells of no other call
abbrev TellsCall : CoreCall → ℕ → Option CutCall → Type 0
TellsCall c n o = IfSome o (λ (cut : CutCall). (cut.call ≡ c) × (cut.index ≡ n))

pub tells_stopped : (c : CoreCall) (old b a : Caller) → b.index ≡ old.index → StopsTry c b a → TellsCall c old.index a.cut
tells_stopped c old b a index stops = subst (TellsCall c old.index) (sym stops.tells) (refl, index)

pub cut_tells : (c : CoreCall) (old b a : Caller) → IsAtRest b → b.index ≡ old.index → IsCutTry c b a → TellsCall c old.index a.cut
cut_tells c old b a rests index is = ⊎_elim
    (λ (same : a ≡ b). subst (TellsCall c old.index) (sym (ap (λ (d : Caller). d.cut) same ∙ rests.2)) tt)
    (λ (stops : StopsTry c b a). tells_stopped c old b a index stops)
    is.cut

-- the room that it leaves
pub cut_room : (c : CoreCall) (old b a : Caller) → b.number ≡ old.number → b.index ≡ old.index → spare_of old ≤ spare_of b → IsCutTry c b a → spare_of old ≤ spare_of a + length (own_cut old c a)
cut_room c old b a number index less is =
    let now : spare_of b ≤ spare_of a + length (own_cut old c a) =
    subst (λ (q : ℕ × ℕ). spare_of b ≤ spare_of a + length (own_at q.0 q.1 (change_of (op_of c)) (place_in a.cut))) (λ k. (number k, index k)) is.spare in
    omega arith

pub cut_ended : (back : Member → Member → Type 0) (c : CoreCall) (old b a : Caller) → StillOrRests old b → b.number ≡ old.number → spare_of old ≤ spare_of b → Tries back old.index (seen_by old) b.index (seen_by b) → IsCutTry c b a → IsCutCall back c old a
cut_ended back c old b a still number less tries is = record {
  spent = is.spent;
  index = is.index ∙ tries.index;
  cut = ⊎_elim
      (λ (first : b ≡ old). ⊎_elim
      (λ (same : a ≡ b). inl (same ∙ first))
      (λ (stops : StopsTry c b a). inr (within (inr (subst (λ (p : Option ℕ). StopsAt c b.index (seen_by b) p (seen_by a)) (sym (ap place_in stops.tells)) stops.stops)) (tells_stopped c old b a tries.index stops)))
      is.cut)
      (λ (rests : IsAtRest b). inr (within (cut_last c b a rests is) (cut_tells c old b a rests tries.index is)))
      still;
  spare = cut_room c old b a number tries.index less is;
}
  where
    within : CutsOff c b.index (seen_by b) (place_in a.cut) (seen_by a) → TellsCall c old.index a.cut → IsCutWithin back c old a
    within cuts tells = record {
      last = record { before = seen_by b; tries = tries.tries; back = tries.back; last = subst (λ (k : ℕ). CutsOff c k (seen_by b) (place_in a.cut) (seen_by a)) tries.index cuts };
      tells = tells;
    }

-- What the loop of tries keeps of its caller.
abbrev pub TriedSoFar : Shared → (Member → Member → Type 0) → Caller → Caller → Type 0
TriedSoFar s back_step old now = IsCallerOf s now × (now.number ≡ old.number) × (spare_of old ≤ spare_of now) × Tries back_step old.index (seen_by old) now.index (seen_by now) × StillOrRests old now × HasPaid old now

-- a get takes no room
reads_none : (caller index : ℕ) (place : Option ℕ) → length (own_at caller index None place) ≡ 0
reads_none caller index None = refl
reads_none caller index (Some place) = refl

pub gets_spare : (name : List ℕ) (b a : Caller) (t : Tried Placed) → TryComesTo (call.Get name) b t a → TryTakesSpare (call.Get name) b t a → spare_of b ≤ spare_of a
gets_spare name b a (tried.Answered answer) is fits = let none = reads_none b.number b.index (place_told None answer) in omega arith
gets_spare name b a tried.Cut is fits = let none = reads_none b.number b.index (place_in a.cut) in let less = is.spare in omega arith

pub tries_start : (s : Shared) (back_step : Member → Member → Type 0) (old : Caller) → IsCallerOf s old → TriedSoFar s back_step old old
tries_start s back_step old is = (is, refl, omega arith, tries_begin back_step old.index (seen_by old), inl refl, pays_nothing old.left (seen_by old).taken)

-- a try that is made again,
pub tries_on : (T : Type 0) (s : Shared) (holds : ℕ → Member → Once T → Member → Type 0) (c : CoreCall) (old b a : Caller) (t : Tried T) → ((answer : Once T) → ended_of answer ≡ None → (v w : Member) → holds old.index v answer w → HasOnlyRead v w)
    → TriedSoFar s (TriedBack holds old.index) old b → ended_by t ≡ None → StaysCaller s b a → OnceComesTo holds c b t a → HasPaid b a → spare_of b ≤ spare_of a → TriedSoFar s (TriedBack holds old.index) old a
tries_on T s holds c old b a t reads so none stays is paid less =
    let next = once_again T holds c old.index (seen_by old) b a t reads so.3 none is in
    let spare : spare_of old ≤ spare_of a = let was = so.2 in omega arith in
    (stays.0, stays.1 ∙ so.1, spare, next.0, inr next.1, pays_then old.left b.left a.left (seen_by old).taken (seen_by b).taken (seen_by a).taken so.5 paid)

-- and the last one, of a call that has no limit
pub tries_end : (T : Type 0) (s : Shared) (holds : ℕ → Member → Once T → Member → Type 0) (c : CoreCall) (old b a : Caller) (t : Tried T) (end : Ended T) → ((n clock : ℕ) (v w : Member) → holds n v (once.Spent clock) w → ⊥)
    → TriedSoFar s (TriedBack holds old.index) old b → ended_by t ≡ Some end → OnceComesTo holds c b t a → RepeatComesTo holds c old end a
tries_end T s holds c old b a (tried.Answered (once.Done value)) end unspent so ends is =
    let gives : ended.Done value ≡ end = cc in
    subst (λ (e : Ended T). RepeatComesTo holds c old e a) gives (call_ended holds old.index old b a (once.Done value) refl (λ m. refl) (λ first second no. cc) so.3 is)
tries_end T s holds c old b a (tried.Answered (once.Spent clock)) end unspent so ends is =
    absurd (unspent b.index clock (seen_by b) (seen_by a) (had_pin (holds b.index) b a (once.Spent clock) (λ first second no. cc) is.pinned))
tries_end T s holds c old b a (tried.Answered (once.Worn node word)) end unspent so ends is = absurd (cc)
tries_end T s holds c old b a (tried.Answered (once.Again why)) end unspent so ends is = absurd (cc)
tries_end T s holds c old b a tried.Cut end unspent so ends is =
    let gives : ended.Cut ≡ end = cc in
    subst (λ (e : Ended T). RepeatComesTo holds c old e a) gives (cut_ended (TriedBack holds old.index) c old b a so.4 so.1 so.2 so.3 is)

-- what is noted stays so
stays_noted : (noted : Bool) (answer : TurnReply) → noted ≡ true → noted_in noted answer ≡ true
stays_noted noted (reply.Turned turned) is = ap (λ (b : Bool). b || turned.none_free) is
stays_noted noted (reply.Held word) is = is

-- what steps leave that place no write
none_reads : (v w : Member) → PlacesNone v w → w.state.caller ≡ v.state.caller → (v.none_free ≡ true → w.none_free ≡ true) → HasOnlyRead v w
none_reads v w is caller none_free = record {
  about = is.about;
  caller = caller;
  taken = let t = is.taken in omega arith;
  added = is.added;
  none_free = none_free;
  known = still_same v.known w.known is.known;
  seen = is.seen;
  own = is.own;
}

-- so a turn
pub turn_reads : (epoch : ℕ) (v w : Member) (answer : TurnReply) → TurnAnswers epoch v answer w → HasOnlyRead v w
turn_reads epoch v w answer is = none_reads v w is.leaves (ap (λ (e : PartyState). e.caller) is.state) (λ noted. is.none_free ∙ stays_noted v.none_free answer noted)

pub held_reads : (word : ℕ) (v w : Member) → TurnHeld word v w → HasOnlyRead v w
held_reads word v w is = turn_reads first_epoch v w (reply.Held word) (is first_epoch)

-- a turn that finds the updater lock taken, and the last one, which is made or cut off
pub turn_again : (parties : ℕ) (old : Member) (first : PinMember) (b a : Caller) (t : TriedTurn) → EachIs FoundHeld old (seen_by b) → HasOnlyRead old (seen_by b) → pins_of b ≡ first → turn_ended_by t ≡ None → TurnTryComesTo parties b t a
    → EachIs FoundHeld old (seen_by a) × HasOnlyRead old (seen_by a) × (pins_of a ≡ first)
turn_again parties old first b a (turn.Turned turned epoch advanced) tries back same none is = absurd (cc)
turn_again parties old first b a (turn.Held word) tries back same none is = (one_more tries (word, is.0), back_trans old (seen_by b) (seen_by a) back (held_reads word (seen_by b) (seen_by a) is.0), is.1 ∙ same)
turn_again parties old first b a turn.Cut tries back same none is = absurd (cc)

pub turn_rests : (a : Caller) (t : TriedTurn) → turn_ended_by t ≡ None → TurnTryRests t a → IsAtRest a
turn_rests a (turn.Turned turned epoch advanced) none rests = rests
turn_rests a (turn.Held word) none rests = rests
turn_rests a turn.Cut none rests = absurd (cc)

turn_cut : (parties : ℕ) (old b a : Caller) → StillOrRests old b → EachIs FoundHeld (seen_by old) (seen_by b) → HasOnlyRead (seen_by old) (seen_by b) → pins_of b ≡ pins_of old → IsCutTurnTry parties b a → IsCutTurn parties old a
turn_cut parties old b a still tries back same is = record {
  spent = is.spent;
  cut = ⊎_elim
      (λ (none : a ≡ b). ⊎_elim
      (λ (first : b ≡ old). inl (none ∙ first))
      (λ (rests : IsAtRest b). inr (at_last (inl (ap seen_by none, ap pins_of none))))
      still)
      (λ (stops : TurnStops parties (seen_by b) (pins_of b) (seen_by a) (pins_of a)). inr (at_last (inr stops)))
      is.cut;
}
  where
    at_last : TurnCutsOff parties (seen_by b) (pins_of b) (seen_by a) (pins_of a) → AtLast FoundHeld (λ before after. TurnCutsOff parties before (pins_of old) after (pins_of a)) (seen_by old) (seen_by a)
    at_last cuts = record { before = seen_by b; tries = tries; back = back; last = subst (λ (p : PinMember). TurnCutsOff parties (seen_by b) p (seen_by a) (pins_of a)) same cuts }

pub turn_ends_so : (parties : ℕ) (old b a : Caller) (t : TriedTurn) (end : Ended Turned) → StillOrRests old b → EachIs FoundHeld (seen_by old) (seen_by b) → HasOnlyRead (seen_by old) (seen_by b) → pins_of b ≡ pins_of old → turn_ended_by t ≡ Some end → TurnTryComesTo parties b t a
    → TurnTryRests t a → TurnComesTo parties old end a
turn_ends_so parties old b a (turn.Turned turned epoch advanced) end still tries back same ends is rests =
    let gives : ended.Done turned ≡ end = cc in
    subst (λ (e : Ended Turned). TurnComesTo parties old e a) gives (
      rests,
      record { epoch = epoch; advanced = advanced; last = record { before = seen_by b; tries = tries; back = back; last = subst (λ (p : PinMember). MadeTurn parties (seen_by b) p turned epoch advanced (seen_by a) (pins_of a)) same is } },
    )
turn_ends_so parties old b a (turn.Held word) end still tries back same ends is rests = absurd (cc)
turn_ends_so parties old b a turn.Cut end still tries back same ends is rests =
    let gives : ended.Cut ≡ end = cc in
    subst (λ (e : Ended Turned). TurnComesTo parties old e a) gives (turn_cut parties old b a still tries back same is)

-- of whichever try of a turn: what it leaves
stops_reads : (epoch : ℕ) (v w : Member) → TurnStopsAt epoch v w → HasOnlyRead v w
stops_reads epoch v w is = none_reads v w is.leaves (ap (λ (e : PartyState). e.caller) is.state) (λ noted. is.none_free ∙ noted)

pub cut_turn_reads : (parties : ℕ) (v w : Member) (pins pins_now : PinMember) → TurnStops parties v pins w pins_now → HasOnlyRead v w
cut_turn_reads parties v w pins pins_now is = ⊎_elim
    (λ (first : StopsUndated v pins w pins_now). stops_reads first_epoch v w first.stops)
    (λ (later : StopsDated parties v pins w pins_now). stops_reads later.epoch v w later.stops)
    is

pub tried_reads : (parties : ℕ) (b a : Caller) (t : TriedTurn) → TurnTryComesTo parties b t a → HasOnlyRead (seen_by b) (seen_by a)
tried_reads parties b a (turn.Turned turned epoch advanced) is = turn_reads epoch (seen_by b) (seen_by a) (reply.Turned turned) is.answers
tried_reads parties b a (turn.Held word) is = held_reads word (seen_by b) (seen_by a) is.0
tried_reads parties b a turn.Cut is = ⊎_elim
    (λ (same : a ≡ b). subst (λ (d : Caller). HasOnlyRead (seen_by b) (seen_by d)) (sym same) (back_self (seen_by b)))
    (λ (stops : TurnStops parties (seen_by b) (pins_of b) (seen_by a) (pins_of a)). cut_turn_reads parties (seen_by b) (seen_by a) (pins_of b) (pins_of a) stops)
    is.cut

-- and of one that was cut off, before its first step or behind one
pub cuts_turn_read : (parties : ℕ) (v w : Member) (pins pins_now : PinMember) → TurnCutsOff parties v pins w pins_now → HasOnlyRead v w
cuts_turn_read parties v w pins pins_now is = ⊎_elim
    (λ (same : (w ≡ v) × (pins_now ≡ pins)). subst (λ (x : Member). HasOnlyRead v x) (sym same.0) (back_self v))
    (λ (stops : TurnStops parties v pins w pins_now). cut_turn_reads parties v w pins pins_now stops)
    is
