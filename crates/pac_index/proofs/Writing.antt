-- Tries of a put or a delete, the turns between them, and how they end.
use Rattle.std.proofs.Common.{◌≡◌, ℕ, zero, suc, ◌+◌, ◌-◌, ◌≤◌, ◌⊎◌, inr, Bool, true, false, ◌||◌, length, refl, sym, ap, ◌∙◌, subst, inl, ⊎_elim, arith}
use Rattle.std.specs.Prelude.{Option, Some, None, IfSome, List, vec_len, vec_capacity}
use Rattle.std.specs.FinMap.{len}
use Rattle.cat_history.specs.Maps.{Map, map_of, at}
use Rattle.cat_history.specs.Writes.{after}
use Rattle.cat_history.specs.Records.{change_of}
use Rattle.cat_history.specs.declared.op.Write.{Write}
use Rattle.pm_words.specs.declared.again.Again.{Again}
use Rattle.pm_words.specs.declared.again.Again.TheVariants as again
use Rattle.call_stages.specs.declared.once.Once.{Once}
use Rattle.call_stages.specs.declared.once.Once.TheVariants as once
use Rattle.call_stages.specs.declared.once.Placed.{Placed}
use Rattle.node_ops.specs.Asked.{name_asked}
use Rattle.updater.specs.declared.making.TurnReply.TheVariants as reply
use Rattle.updater.specs.declared.terms.Turned.{Turned}
use Rattle.index_law.proofs.Maps.{after-longer}
use Rattle.index_core.specs.declared.party.CoreCall.{CoreCall}
use Rattle.index_core.specs.declared.party.CoreCall.TheVariants as call
use Rattle.index_core.specs.Answers.{FoundNoRoom}
use Rattle.index_core.specs.CoreCalls.{op_of}
use Rattle.index_core.specs.PartyStates.{next_index}
use Rattle.index_core.specs.MachineLaws.{place_told}
use Rattle.pac_index.specs.declared.tried.Tried.{Tried}
use Rattle.pac_index.specs.declared.tried.Tried.TheVariants as tried
use Rattle.pac_index.specs.declared.ended.Ended.{Ended}
use Rattle.pac_index.specs.declared.ended.Ended.TheVariants as ended
use Rattle.pac_index.specs.declared.caller.Caller.{Caller}
use Rattle.pac_index.specs.declared.caller.CutCall.{CutCall}
use Rattle.pac_index.specs.declared.rule.About.{About}
use Rattle.pac_index.specs.declared.rule.Member.{Member}
use Rattle.pac_index.specs.Kept.{Begins}
use Rattle.pac_index.specs.declared.writes.WriteNext.TheVariants as next
use Rattle.pac_index.specs.declared.writes.WriteTry.TheVariants as write
use Rattle.pac_index.specs.Budgets.{CutsOff, StopsAt, place_in}
use Rattle.pac_index.specs.Cuts.{IsCutTry, IsCutWithin, IsTried, StopsTry}
use Rattle.pac_index.specs.Calls.{Answers, counted_index, own_at, own_of}
use Rattle.pac_index.specs.Callers.{HasMadeNone, IsAtRest, pins_of, seen_by, spare_of}
use Rattle.pac_index.specs.Outcomes.{TakesSpare, TryComesTo, TryTakesSpare, WriteAnswered, WriteComesTo, WriteTakesSpare}
use Rattle.pac_index.specs.CutTurns.{IsCutTurn, TurnCutsOff}
use Rattle.pac_index.specs.CutWrites.{CutInTurn, HasTurnedWithin, IsCutBehind, IsCutWrite, NextSo, TryAnswered, TryBack, TryCut, TryCutInTurn, TryRoom, WriteSo, next_of}
use Rattle.pac_index.specs.Ends.{ended_of, EachIs, HasOnlyRead, AtLast, IsTry, MovedEpoch}
use Rattle.pac_index.specs.Ends.EachIs.{no_step, one_more}
use Rattle.pac_index.specs.Turns.{FoundHeld, HasMadeTurn}
use Rattle.pac_index.specs.Writes.{TurnedForRoom, TurnsBehind, WriteBack, HaveTurned, FoundFull}
use Rattle.pac_index.proofs.Lists.{begins_le}
use Rattle.pac_index.proofs.Repeating.{StillOrRests, back_by, back_self, back_trans, cut_last, cut_room, cut_tells, cuts_turn_read, had_pin, pinned_try, same_index, tells_stopped, turn_reads}

-- one try, by what it comes to
module _ (c : CoreCall) (b a : Caller) where
  answered : (answer : Once Placed) → ((first second : ℕ) → answer ≡ once.Again (again.Epoch first second) → ⊥) → IsTried (Answers c) b answer a → TakesSpare c b answer a → TryAnswered c b answer a
  answered answer other is spare = record { rests = is.rests; index = is.index; answers = had_pin (Answers c b.index) b a answer other is.pinned; spare = spare }

  back_so : (answer : Once Placed) → ended_of answer ≡ None → TurnsBehind answer (seen_by a) (seen_by a) → IsTried (Answers c) b answer a → spare_of b ≤ spare_of a → TryBack c b a
  back_so answer none behind is spare = record {
    rests = is.rests;
    index = is.index ∙ same_index b.index answer none;
    back = record { answer = answer; again = none; tried = seen_by a; told = pinned_try (Answers c b.index) b a answer is.pinned; next = behind };
    spare = spare;
  }

  pub next_so : (t : Tried Placed) → TryComesTo c b t a → TryTakesSpare c b t a → NextSo c b (next_of t) a
  next_so tried.Cut is spare = is
  next_so (tried.Answered (once.Done placed)) is spare = answered (once.Done placed) (λ first second no. cc) is spare
  next_so (tried.Answered (once.Spent clock)) is spare = answered (once.Spent clock) (λ first second no. cc) is spare
  next_so (tried.Answered (once.Worn node word)) is spare = back_so (once.Worn node word) refl refl is (omega arith)
  next_so (tried.Answered (once.Again (again.Locked node word))) is spare = back_so (once.Again (again.Locked node word)) refl refl is (omega arith)
  next_so (tried.Answered (once.Again (again.Moved node first second))) is spare = back_so (once.Again (again.Moved node first second)) refl refl is (omega arith)
  next_so (tried.Answered (once.Again (again.Hops count))) is spare = back_so (once.Again (again.Hops count)) refl refl is (omega arith)
  next_so (tried.Answered (once.Again again.LogFull)) is spare = answered (once.Again again.LogFull) (λ first second no. cc) is spare
  next_so (tried.Answered (once.Again again.NoFree)) is spare = answered (once.Again again.NoFree) (λ first second no. cc) is spare
  next_so (tried.Answered (once.Again (again.NeedsSplit node))) is spare = back_so (once.Again (again.NeedsSplit node)) refl refl is (omega arith)
  next_so (tried.Answered (once.Again (again.Held word))) is spare = back_so (once.Again (again.Held word)) refl refl is (omega arith)
  next_so (tried.Answered (once.Again (again.Epoch first second))) is spare = back_so (once.Again (again.Epoch first second)) refl refl is (omega arith)

-- a turn within a call
pub turned_within : (parties : ℕ) (old a : Caller) → IsCutTurn parties old a → HasTurnedWithin parties old None a
turned_within parties old a is = ⊎_elim
    (λ (same : a ≡ old). (is.spent, record { before = seen_by old; tries = no_step; back = back_self (seen_by old); last = inl (ap seen_by same, ap pins_of same) }))
    (λ (cut : AtLast FoundHeld (λ before after. TurnCutsOff parties before (pins_of old) after (pins_of a)) (seen_by old) (seen_by a)). (is.spent, cut))
    is.cut

-- a turn behind a try
module _ (parties : ℕ) (c : CoreCall) (b v a : Caller) (same : HasMadeNone v a) where
  room_same : spare_of a ≡ spare_of v
  room_same = ap (λ (k : _). vec_capacity k - vec_len k) same.1

  pub line_back : (turned : Turned) → TryAnswered c b (once.Again again.LogFull) v → HasTurnedWithin parties v (Some turned) a → TryBack c b a
  line_back turned t turn = record {
    rests = turn.0;
    index = same.0 ∙ t.index;
    back = record { answer = once.Again again.LogFull; again = refl; tried = seen_by v; told = inl t.answers; next = (turned, turn.1) };
    spare = let less = t.spare in let room = room_same in omega arith;
  }

  pub node_room : (turned : Turned) → TryAnswered c b (once.Again again.NoFree) v → HasTurnedWithin parties v (Some turned) a → TryRoom c b turned.none_free a
  node_room turned t turn = record {
    rests = turn.0;
    index = same.0 ∙ t.index;
    room = record { tried = seen_by v; refused = t.answers; turned = turned; turn = turn.1; told = refl };
    spare = let less = t.spare in let room = room_same in omega arith;
  }

  -- or it was cut off
  cut_by : (answer : Once Placed) → (answer ≡ once.Again again.LogFull) ⊎ (answer ≡ once.Again again.NoFree) → IsAtRest v → v.index ≡ b.index → Answers c b.index (seen_by b) answer (seen_by v) → spare_of b ≤ spare_of v → HasTurnedWithin parties v None a → TryCutInTurn parties c b a
  cut_by answer wants rests index answers less turn = record {
    spent = turn.0;
    index = same.0 ∙ index;
    uncut = same.2 ∙ rests.2;
    cut = record { answer = answer; wants = wants; tried = seen_by v; told = answers; pins = pins_of v; pins_now = pins_of a; cut = turn.1 };
    spare = let room = room_same in omega (arith, less, room);
  }

  pub line_cut : TryAnswered c b (once.Again again.LogFull) v → HasTurnedWithin parties v None a → TryCut parties c b a
  line_cut t turn = inr (cut_by (once.Again again.LogFull) (inl refl) t.rests t.index t.answers (let less = t.spare in omega arith) turn)

  pub node_cut : TryAnswered c b (once.Again again.NoFree) v → HasTurnedWithin parties v None a → TryCut parties c b a
  node_cut t turn = inr (cut_by (once.Again again.NoFree) (inr refl) t.rests t.index t.answers (let less = t.spare in omega arith) turn)

-- a try with nothing behind it that ends the call
pub ended_so : (parties : ℕ) (c : CoreCall) (b a : Caller) (e : Ended Placed) → NextSo c b (next.End e) a → WriteSo parties c b (write.Ended e) a
ended_so parties c b a (ended.Done placed) so = so
ended_so parties c b a (ended.Spent clock) so = so
ended_so parties c b a ended.Full so = so
ended_so parties c b a ended.Cut so = inl so

pub turned_reads : (turned : Turned) (v w : Member) → HasMadeTurn turned v w → HasOnlyRead v w
turned_reads turned v w is = back_trans v is.before w is.back (turn_reads is.last.0 is.before w (reply.Turned turned) is.last.1)

room_reads : (c : CoreCall) (n : ℕ) (b : Bool) (v w : Member) → TurnedForRoom c n b v w → HasOnlyRead v w
room_reads c n b v w is = back_trans v is.tried w (back_by c n v is.tried (once.Again again.NoFree) refl is.refused) (turned_reads is.turned is.tried w is.turn)

-- what a step leaves that was turned back
try_reads : (c : CoreCall) (n : ℕ) (v w : Member) (answer : Once Placed) → ended_of answer ≡ None → IsTry (Answers c n) v answer w → HasOnlyRead v w
try_reads c n v w answer none is = ⊎_elim
    (λ (had : Answers c n v answer w). back_by c n v w answer none had)
    (λ (moved : MovedEpoch v answer w). subst (λ (x : Member). HasOnlyRead v x) (sym moved.same) (back_self v))
    is

then_reads : (answer : Once Placed) (v w : Member) → TurnsBehind answer v w → HasOnlyRead v w
then_reads (once.Done placed) v w is = subst (λ (x : Member). HasOnlyRead v x) (sym is) (back_self v)
then_reads (once.Spent clock) v w is = subst (λ (x : Member). HasOnlyRead v x) (sym is) (back_self v)
then_reads (once.Worn node word) v w is = subst (λ (x : Member). HasOnlyRead v x) (sym is) (back_self v)
then_reads (once.Again (again.Locked node word)) v w is = subst (λ (x : Member). HasOnlyRead v x) (sym is) (back_self v)
then_reads (once.Again (again.Moved node first second)) v w is = subst (λ (x : Member). HasOnlyRead v x) (sym is) (back_self v)
then_reads (once.Again (again.Hops count)) v w is = subst (λ (x : Member). HasOnlyRead v x) (sym is) (back_self v)
then_reads (once.Again again.LogFull) v w is = turned_reads is.0 v w is.1
then_reads (once.Again again.NoFree) v w is = turned_reads is.0 v w is.1
then_reads (once.Again (again.NeedsSplit node)) v w is = subst (λ (x : Member). HasOnlyRead v x) (sym is) (back_self v)
then_reads (once.Again (again.Held word)) v w is = subst (λ (x : Member). HasOnlyRead v x) (sym is) (back_self v)
then_reads (once.Again (again.Epoch first second)) v w is = subst (λ (x : Member). HasOnlyRead v x) (sym is) (back_self v)

step_reads : (c : CoreCall) (n : ℕ) (v w : Member) → WriteBack c n v w → HasOnlyRead v w
step_reads c n v w is = back_trans v is.tried w (try_reads c n v is.tried is.answer is.again is.told) (then_reads is.answer is.tried w is.next)

each_reads : (c : CoreCall) (n : ℕ) (v w : Member) → EachIs (WriteBack c n) v w → HasOnlyRead v w
each_reads c n v w no_step = back_self v
each_reads c n v w (one_more {before = b} earlier step) = back_trans v b w (each_reads c n v b earlier) (step_reads c n b w step)

each_join : (c : CoreCall) (n : ℕ) (u v w : Member) → EachIs (WriteBack c n) u v → EachIs (WriteBack c n) v w → EachIs (WriteBack c n) u w
each_join c n u v w first no_step = first
each_join c n u v w first (one_more {before = b} earlier step) = one_more (each_join c n u v b first earlier) step

-- a try that found no node, with the turn behind it, is such a step
room_step : (c : CoreCall) (n : ℕ) (b : Bool) (v w : Member) → TurnedForRoom c n b v w → WriteBack c n v w
room_step c n b v w is = record { answer = once.Again again.NoFree; again = refl; tried = is.tried; told = inl is.refused; next = (is.turned, is.turn) }

all_tries : (c : CoreCall) (n turns : ℕ) (old w : Member) → HaveTurned c n turns old w → EachIs (WriteBack c n) old w
all_tries c n zero old w is = is
all_tries c n (suc turns) old w is =
    let last = is.3 in
    one_more (each_join c n old is.0 last.before (all_tries c n turns old is.0 is.2) last.tries) (room_step c n is.1 last.before w last.last)

all_read : (c : CoreCall) (n turns : ℕ) (old w : Member) → HaveTurned c n turns old w → HasOnlyRead old w
all_read c n zero old w is = each_reads c n old w is
all_read c n (suc turns) old w is =
    let last = is.3 in
    back_trans old is.0 w (all_read c n turns old is.0 is.2) (back_trans is.0 last.before w last.back (room_reads c n is.1 last.before w last.last))

-- What the tries so far have left: the index, and at least so many found no node and have a turn behind each.
pub record Writing (c : CoreCall) (n turns : ℕ) (old : Member) (now_index : ℕ) (now : Member) : Type 0 where
  pub index : now_index ≡ n
  pub rounds : ℕ
  pub most : turns ≤ rounds
  pub mid : Member
  pub earlier : HaveTurned c n rounds old mid
  pub tries : EachIs (WriteBack c n) mid now
  pub back : HasOnlyRead mid now

module _ (c : CoreCall) (n : ℕ) (old : Member) where
  pub writing_begins : Writing c n 0 old n old
  writing_begins = record { index = refl; rounds = 0; most = omega arith; mid = old; earlier = no_step; tries = no_step; back = back_self old }

  pub writing_back : (turns i j : ℕ) (v w : Member) → Writing c n turns old i v → j ≡ i → WriteBack c i v w → Writing c n turns old j w
  writing_back turns i j v w so same step = record {
    index = same ∙ so.index;
    rounds = so.rounds;
    most = so.most;
    mid = so.mid;
    earlier = so.earlier;
    tries = one_more so.tries (subst (λ (k : ℕ). WriteBack c k v w) so.index step);
    back = back_trans so.mid v w so.back (step_reads c i v w step);
  }

  pub writing_turned : (turns more i j : ℕ) (b : Bool) (v w : Member) → Writing c n turns old i v → j ≡ i → TurnedForRoom c i b v w → more ≤ turns + 1 → Writing c n more old j w
  writing_turned turns more i j b v w so same room le = record {
    index = same ∙ so.index;
    rounds = suc so.rounds;
    most = let most = so.most in omega arith;
    mid = w;
    earlier = (so.mid, b, so.earlier, record { before = v; tries = so.tries; back = so.back; last = subst (λ (k : ℕ). TurnedForRoom c k b v w) so.index room });
    tries = no_step;
    back = back_self w;
  }

  writing_reads : (turns i : ℕ) (v : Member) → Writing c n turns old i v → HasOnlyRead old v
  writing_reads turns i v so = back_trans old so.mid v (all_read c n so.rounds old so.mid so.earlier) so.back

  pub writing_last : (turns i : ℕ) (v w : Member) (holds : ℕ → Member → Member → Type 0) → Writing c n turns old i v → holds i v w → AtLast (WriteBack c n) (holds n) old w
  writing_last turns i v w holds so last = record {
    before = v;
    tries = each_join c n old so.mid v (all_tries c n so.rounds old so.mid so.earlier) so.tries;
    back = writing_reads turns i v so;
    last = subst (λ (k : ℕ). holds k v w) so.index last;
  }

-- a turn that was cut off behind a try has read alone
in_turn_reads : (parties : ℕ) (c : CoreCall) (n : ℕ) (v w : Member) → CutInTurn parties c n v w → HasOnlyRead v w
in_turn_reads parties c n v w is =
    let tried : HasOnlyRead v is.tried = ⊎_elim
    (λ (line : is.answer ≡ once.Again again.LogFull). back_by c n v is.tried (once.Again again.LogFull) refl (subst (λ (a : Once Placed). Answers c n v a is.tried) line is.told))
    (λ (node : is.answer ≡ once.Again again.NoFree). back_by c n v is.tried (once.Again again.NoFree) refl (subst (λ (a : Once Placed). Answers c n v a is.tried) node is.told))
    is.wants in
    back_trans v is.tried w tried (back_trans is.tried is.cut.before w is.cut.back (cuts_turn_read parties is.cut.before w is.pins is.pins_now is.cut.last))

-- what a call found of the history stays so
room_stays : (slots slots' : ℕ) (base base' : Map) (h h' : List Write) (since until since' until' : ℕ) (name : List ℕ) → slots ≡ slots' → base ≡ base' → Begins h h' → until ≤ length h → since' ≤ since → until ≤ until'
    → FoundNoRoom slots base h since until name → FoundNoRoom slots' base' h' since' until' name
room_stays slots slots' base base' h h' since until since' until' name slots_are base_is begins ended earlier later is =
    let within = is.within in
    let from = is.later in
    let same : after base' h' is.clock ≡ after base h is.clock =
    sym (ap (λ (m : Map). after m h' is.clock) base_is) ∙ sym (ap (λ (l : List Write). after base l is.clock) begins.1) ∙ after-longer base h begins.0 is.clock (omega arith) in
    record {
      clock = is.clock;
      later = omega arith;
      within = omega arith;
      lacked = ap (λ (m : Map). at m name) same ∙ is.lacked;
      many = subst (λ (m : Map). slots' ≤ len m) (sym same) (subst (λ (k : ℕ). k ≤ len (after base h is.clock)) slots_are is.many);
    }

noted_now : (b : Bool) → (b || true) ≡ true
noted_now true = refl
noted_now false = refl

pub found_full : (c : CoreCall) (n turns i : ℕ) (old v w : Member) → Writing c n turns old i v → 3 ≤ turns → TurnedForRoom c i true v w → FoundFull c n old w
found_full c n turns i old v w so enough last =
    let back = writing_reads c n old turns i v so in
    let reads = room_reads c i true v w last in
    let seen = begins_le old.seen v.seen back.seen in
    let turn = turned_reads last.turned last.tried w last.turn in
    let ends = begins_le last.tried.seen w.seen turn.seen in
    record {
      reads = back_trans old v w back reads;
      earlier = so.rounds;
      enough = let most = so.most in omega arith;
      before = so.mid;
      turned = so.earlier;
      last = record { before = v; tries = so.tries; back = so.back; last = subst (λ (k : ℕ). TurnedForRoom c k true v w) so.index last };
      none_free = last.turn.last.1.none_free ∙ ap (λ (b : Bool). last.turn.before.none_free || b) last.told ∙ noted_now last.turn.before.none_free;
      room = room_stays v.about.layout.slots old.about.layout.slots (map_of v.about.base) (map_of old.about.base) last.tried.seen w.seen (length v.seen) (length last.tried.seen) (length old.seen) (length w.seen) (name_asked (op_of c)) (ap (λ (a : About). a.layout.slots) back.about) (ap (λ (a : About). map_of a.base) back.about) turn.seen (omega arith) seen ends (last.refused.says refl).1;
    }

-- ---- how such a call ends

module _ (parties : ℕ) (c : CoreCall) (turns : ℕ) (old b a : Caller) (so : Writing c old.index turns (seen_by old) b.index (seen_by b)) where
  done_so : (answer : Once Placed) → ((m : ℕ) → counted_index m answer ≡ next_index m) → TryAnswered c b answer a → WriteAnswered c old answer a
  done_so answer counted t = record {
    rests = t.rests;
    index = t.index ∙ counted b.index ∙ ap next_index so.index;
    ends = writing_last c old.index (seen_by old) turns b.index (seen_by b) (seen_by a) (λ k before after. Answers c k before answer after) so t.answers;
  }

  cut_so : CutsOff c b.index (seen_by b) (place_in a.cut) (seen_by a) → IfSome a.cut (λ (cut : CutCall). (cut.call ≡ c) × (cut.index ≡ old.index)) → IsCutWithin (WriteBack c old.index) c old a
  cut_so now tells = record {
    last = writing_last c old.index (seen_by old) turns b.index (seen_by b) (seen_by a) (λ k before after. CutsOff c k before (place_in a.cut) after) so now;
    tells = tells;
  }

  behind_so : TryCutInTurn parties c b a → IsCutBehind parties c old a
  behind_so is = record {
    last = writing_last c old.index (seen_by old) turns b.index (seen_by b) (seen_by a) (λ k before after. CutInTurn parties c k before after) so is.cut;
    uncut = is.uncut;
    reads = back_trans (seen_by old) (seen_by b) (seen_by a) (writing_reads c old.index (seen_by old) turns b.index (seen_by b) so) (in_turn_reads parties c b.index (seen_by b) (seen_by a) is.cut);
  }

  pub write_cut : StillOrRests old b → b.number ≡ old.number → spare_of old ≤ spare_of b → TryCut parties c b a → IsCutWrite parties c old a
  write_cut still number less = ⊎_elim
      (λ (is : IsCutTry c b a). record {
        spent = is.spent;
        index = is.index ∙ so.index;
        cut = ⊎_elim
            (λ (first : b ≡ old). ⊎_elim
            (λ (same : a ≡ b). inl (same ∙ first))
            (λ (stops : StopsTry c b a). inr (inl (cut_so (inr (subst (λ (p : Option ℕ). StopsAt c b.index (seen_by b) p (seen_by a)) (sym (ap place_in stops.tells)) stops.stops)) (tells_stopped c old b a so.index stops))))
            is.cut)
            (λ (rests : IsAtRest b). inr (inl (cut_so (cut_last c b a rests is) (cut_tells c old b a rests so.index is))))
            still;
        spare = cut_room c old b a number so.index less is;
      })
      (λ (is : TryCutInTurn parties c b a). record {
        spent = is.spent;
        index = is.index ∙ so.index;
        cut = inr (inr (behind_so is));
        spare = let more = is.spare in omega arith;
      })

  pub write_ends : (e : Ended Placed) → StillOrRests old b → b.number ≡ old.number → spare_of old ≤ spare_of b → WriteSo parties c b (write.Ended e) a → WriteComesTo parties c old e a
  write_ends (ended.Done placed) still number less t = done_so (once.Done placed) (λ m. refl) t
  write_ends (ended.Spent clock) still number less t = done_so (once.Spent clock) (λ m. refl) t
  write_ends ended.Full still number less t = absurd t
  write_ends ended.Cut still number less t = write_cut still number less t

-- for how many more writes there is room
own_same : (old now : Caller) (c : CoreCall) (answer : Once Placed) → now.number ≡ old.number → now.index ≡ old.index → length (own_of now c answer) ≡ length (own_of old c answer)
own_same old now c answer number index =
    let change = change_of (op_of c) in
    ap (λ (k : ℕ). length (own_at k now.index change (place_told change answer))) number ∙ ap (λ (k : ℕ). length (own_at old.number k change (place_told change answer))) index

pub spare_ends : (parties : ℕ) (end : Ended Placed) (c : CoreCall) (old now a : Caller) → now.number ≡ old.number → now.index ≡ old.index → spare_of old ≤ spare_of now → WriteSo parties c now (write.Ended end) a
    → WriteTakesSpare c old end a
spare_ends parties (ended.Done placed) c old now a number index most t = let same = own_same old now c (once.Done placed) number index in let fits = t.spare in omega arith
spare_ends parties (ended.Spent clock) c old now a number index most t = let same = own_same old now c (once.Spent clock) number index in let fits = t.spare in omega arith
spare_ends parties ended.Full c old now a number index most t = absurd t
spare_ends parties ended.Cut c old now a number index most t = tt
