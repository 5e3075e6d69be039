-- What a caller's call is answered, as the record of a round.
use Rattle.std.proofs.Common.{◌≡◌, ◌≢◌, ℕ, ◌+◌, ◌-◌, ◌<◌, ◌≤◌, ◌⊎◌, inl, inr, ⊎_elim, Bool, true, false, List, []}
use Rattle.std.proofs.Common.{◌∷◌, ◌++◌, length, refl, sym, ap, subst, ◌∙◌, arith, append-nil}
use Rattle.std.specs.Prelude.{Option, Some, None, IfSome, IsSomeAnd, All, IfOk, Ok, Err, Result}
use Rattle.std.specs.Option.{option_to_list}
use Rattle.std.specs.List.{AllByRecursion}
use Rattle.std.proofs.lemmas.List.Elements.{All-from_recursion, recursion_from_All}
use Rattle.cat_history.specs.Maps.{Map, map_of, at}
use Rattle.cat_history.specs.Writes.{after}
use Rattle.cat_history.specs.Scans.{IsPart, AreParts, Rise}
use Rattle.cat_history.specs.Scans.AreParts.{cut_off, ends, goes_on}
use Rattle.cat_history.specs.CrashRounds.{change_cut}
use Rattle.cat_history.specs.Records.{as_op, change_of, interval_at, interval_asked, interval_told, placed_write}
use Rattle.cat_history.specs.Records.{parts_interval, last_place, Interval}
use Rattle.cat_history.specs.Rounds.{IsAnswer, IsItsMark, IsWriter}
use Rattle.cat_history.specs.declared.op.Change.{Change}
use Rattle.cat_history.specs.declared.op.Change.TheVariants as kind
use Rattle.cat_history.specs.declared.op.NameOp.{NameOp}
use Rattle.cat_history.specs.declared.op.NameOp.TheVariants as name_op
use Rattle.cat_history.specs.declared.op.Op.{Op}
use Rattle.cat_history.specs.declared.op.Op.TheVariants as op
use Rattle.cat_history.specs.declared.op.Write.{Write}
use Rattle.cat_history.specs.declared.record.CutMark.{CutMark}
use Rattle.cat_history.specs.declared.record.CutMark.TheVariants.{At, Open, Found, Lost, Read}
use Rattle.cat_history.specs.declared.record.Reply.{Reply}
use Rattle.cat_history.specs.declared.record.Reply.TheVariants as reply
use Rattle.cat_history.specs.declared.record.ScanPart.{ScanPart}
use Rattle.cat_history.proofs.ScanLemmas.{parts_later, range_rises}
use Rattle.cat_text.specs.ReportGrammar.{IsReportPart}
use Rattle.call_stages.specs.declared.once.Once.{Once}
use Rattle.call_stages.specs.declared.once.Once.TheVariants as once
use Rattle.call_stages.specs.declared.once.Placed.{Placed}
use Rattle.pac_index.specs.node_ops.specs.Asked.{name_asked}
use Rattle.index_law.specs.Worlds.{written}
use Rattle.pac_index.specs.index_core.specs.declared.party.CoreCall.{CoreCall}
use Rattle.pac_index.specs.index_core.specs.declared.party.CoreCall.TheVariants as call
use Rattle.pac_index.specs.index_core.specs.Answers.{IsAnswerOf, WasReached}
use Rattle.pac_index.specs.index_core.specs.CoreCalls.{op_of, limit_of, most_writes}
use Rattle.pac_index.specs.index_core.specs.Crashes.{unplaced}
use Rattle.pac_index.specs.index_core.specs.MachineLaws.{place_told}
use Rattle.pac_index.specs.index_core.specs.PartyStates.{next_index}
use Rattle.pac_index.specs.index_core.specs.Weights.{added_by, added_if}
use Rattle.shapes.specs.ShapeRounds.{one_added}
use Rattle.stopped_rounds.specs.MoreCuts.{AreAmong}
use Rattle.pac_index.specs.declared.caller.Caller.{Caller}
use Rattle.pac_index.specs.declared.caller.CutCall.{CutCall}
use Rattle.pac_index.specs.declared.rule.About.{About}
use Rattle.pac_index.specs.declared.rule.Member.{Member}
use Rattle.pac_index.specs.declared.ended.Ended.{Ended}
use Rattle.pac_index.specs.declared.ended.Ended.TheVariants as ended
use Rattle.pac_index.specs.Budgets.{CutsOff, Pays, StopsAt, TriedBack, place_in}
use Rattle.pac_index.specs.Cuts.{IsCutWithin}
use Rattle.pac_index.specs.Callers.{IsAtRest, seen_by}
use Rattle.pac_index.specs.CrashMeetings.{change_in_flight, one_put, put_in_flight}
use Rattle.pac_index.specs.CutScans.{IsCutScan, IsPartCut}
use Rattle.pac_index.specs.CutWrites.{IsCutBehind, IsCutWrite}
use Rattle.pac_index.specs.Kept.{placed_by, noted}
use Rattle.pac_index.specs.Calls.{Answers, own_at}
use Rattle.pac_index.specs.Ends.{AtLast, HasOnlyRead}
use Rattle.pac_index.specs.Outcomes.{GetComesTo, WriteComesTo}
use Rattle.pac_index.specs.Writes.{FoundFull, WriteBack}
use Rattle.pac_index.specs.Scanned.{AreScanned}
use Rattle.pac_index.proofs.Lists.{begins_le, begins_trans}
use Rattle.pac_index.proofs.Repeating.{back_self, back_trans, cut_off_reads, nothing_own, stop_reads}
use Rattle.thread_rounds.specs.Made.{AnsweredOrCut, HasGone, IsMade, made, reply_told, write_mark}
use Rattle.thread_rounds.proofs.Own.{own_between}

-- ---- a call that took place

answer-is : (base : Map) (seen : List Write) (limit : ℕ) (o : NameOp) (placed : Placed) → placed.old ≡ at (after base seen placed.place) (name_asked o)
    → IsAnswer base seen limit (as_op o) (reply.Old placed.old placed.place)
answer-is base seen limit (name_op.Put name value) placed is = is
answer-is base seen limit (name_op.Get name) placed is = is
answer-is base seen limit (name_op.Del name) placed is = is

interval-is : (o : NameOp) (place : ℕ) → interval_at o place ≡ interval_asked (as_op o) place
interval-is (name_op.Put name value) place = refl
interval-is (name_op.Get name) place = refl
interval-is (name_op.Del name) place = refl

starts-there : (o : NameOp) (place : ℕ) → (interval_asked (as_op o) place).start ≡ place
starts-there (name_op.Put name value) place = refl
starts-there (name_op.Get name) place = refl
starts-there (name_op.Del name) place = refl

write-is : (caller index : ℕ) (o : NameOp) (placed : Placed)
    → own_at caller index (change_of o) (place_told (change_of o) (once.Done placed)) ≡ option_to_list (placed_write (made caller index (as_op o) (reply.Old placed.old placed.place)))
write-is caller index (name_op.Put name value) placed = refl
write-is caller index (name_op.Get name) placed = refl
write-is caller index (name_op.Del name) placed = refl

added-is : (o : NameOp) (placed : Placed) → added_by o (once.Done placed) ≡ one_added (as_op o) (reply.Old placed.old placed.place)
added-is o placed = by o placed.old
  where
    by : (o : NameOp) (old : Option ℕ) → added_if o old ≡ one_added (as_op o) (reply.Old old placed.place)
    by (name_op.Put name value) None = refl
    by (name_op.Put name value) (Some old) = refl
    by (name_op.Get name) None = refl
    by (name_op.Get name) (Some old) = refl
    by (name_op.Del name) None = refl
    by (name_op.Del name) (Some old) = refl

-- a write began below its limit
begun-below : (caller index limit since : ℕ) (o : NameOp) (lim : Option ℕ) (placed : Placed) → ((change : Change) → change_of o ≡ Some change → lim ≡ Some limit) → IfSome lim (λ most. since < most)
    → (before : ℕ) → before ≤ since → IfSome (placed_write (made caller index (as_op o) (reply.Old placed.old placed.place))) (λ _. before < limit)
begun-below caller index limit since (name_op.Put name value) lim placed own below before less =
    let under : since < limit = subst (λ (l : Option ℕ). IfSome l (λ most. since < most)) (own _ refl) below in omega arith
begun-below caller index limit since (name_op.Del name) lim placed own below before less =
    let under : since < limit = subst (λ (l : Option ℕ). IfSome l (λ most. since < most)) (own _ refl) below in omega arith
begun-below caller index limit since (name_op.Get name) lim placed own below before less = tt

none-among : (changes : List Change) → AreAmong [] changes
none-among changes c has = absurd (let less = has.1 in omega arith)

old-full : (old : Option ℕ) (place : ℕ) → reply.Old old place ≡ reply.Full → ⊥
old-full old place is = cc

spent-full : (clock : ℕ) → reply.Spent clock ≡ reply.Full → ⊥
spent-full clock is = cc

parts-full : (parts : List ScanPart) (cut : Bool) → reply.Parts parts cut ≡ reply.Full → ⊥
parts-full parts cut is = cc

module _ (c : CoreCall) (limit caller index : ℕ) (old new : Member) (mine : old.state.caller ≡ caller) (own_limit : (change : Change) → change_of (op_of c) ≡ Some change → limit_of c ≡ Some limit) where
  -- what an answer says, in the words of the caller's first view
  says-is : {B : Member → Member → Type 0} (answer : Once Placed) (is : AtLast B (λ before after. Answers c index before answer after) old new)
      → IsAnswerOf old.about.layout.slots (map_of old.about.base) new.seen (record is.before.state { index = index; since = length is.before.seen }) (op_of c) (limit_of c) answer
  says-is answer is = subst (λ (a : About). IsAnswerOf a.layout.slots (map_of a.base) new.seen (record is.before.state { index = index; since = length is.before.seen }) (op_of c) (limit_of c) answer) is.back.about is.last.says

  own-is : {B : Member → Member → Type 0} (answer : Once Placed) (is : AtLast B (λ before after. Answers c index before answer after) old new)
      → placed_by caller new.seen ≡ placed_by caller old.seen ++ own_at caller index (change_of (op_of c)) (place_told (change_of (op_of c)) answer)
  own-is answer is =
      let same : is.before.state.caller ≡ caller = is.back.caller ∙ mine in
      subst (λ (k : ℕ). placed_by k new.seen ≡ placed_by k is.before.seen ++ own_at k index (change_of (op_of c)) (place_told (change_of (op_of c)) answer)) same is.last.own
      ∙ ap (λ (l : List (ℕ × Write)). l ++ own_at caller index (change_of (op_of c)) (place_told (change_of (op_of c)) answer)) (subst (λ (k : ℕ). placed_by k is.before.seen ≡ placed_by k old.seen) mine is.back.own)

  pub done-made : {B : Member → Member → Type 0} (placed : Placed) → AtLast B (λ before after. Answers c index before (once.Done placed) after) old new → IsMade limit caller index (as_op (op_of c)) (reply.Old placed.old placed.place) old new None
  done-made placed is =
      let says = says-is (once.Done placed) is in
      let longer = begins_le old.seen is.before.seen is.back.seen in
      let later : length old.seen ≤ placed.place = let since = says.later in omega arith in
      record {
        about = is.last.about ∙ is.back.about;
        seen = begins_trans old.seen is.before.seen new.seen is.back.seen is.last.seen;
        replied = record {
          answer = answer-is (map_of old.about.base) new.seen limit (op_of c) placed says.old;
          later = subst (λ (n : ℕ). length old.seen ≤ n) (sym (starts-there (op_of c) placed.place)) later;
          within = subst (λ (i : Interval). i.end ≤ length new.seen) (interval-is (op_of c) placed.place) says.within;
          below = begun-below caller index limit (length is.before.seen) (op_of c) (limit_of c) placed own_limit says.below (length old.seen) longer;
        };
        own = own-is (once.Done placed) is ∙ ap (λ (l : List (ℕ × Write)). placed_by caller old.seen ++ l) (write-is caller index (op_of c) placed);
        added = let one = added-is (op_of c) placed in let more = is.last.added in let before = is.back.added in omega arith;
        none_free = λ noted. is.last.none_free ∙ is.back.none_free noted;
        full = λ full. absurd (old-full placed.old placed.place full);
        tells = none-among (option_to_list (change_cut (as_op (op_of c)) (reply.Old placed.old placed.place)));
        unsettled = tt;
      }

  spent-write : (o : NameOp) (lim : Option ℕ) (clock since until : ℕ) → ((change : Change) → change_of o ≡ Some change → lim ≡ Some limit) → (change_of o ≡ None → lim ≡ None) → WasReached since until lim clock
      → (IsWriter (as_op o) × (limit ≤ clock)) × (own_at caller index (change_of o) None ≡ []) × (placed_write (made caller index (as_op o) (reply.Spent clock)) ≡ None)
  spent-write (name_op.Put name value) lim clock since until own none is = ((tt, subst (λ (l : Option ℕ). IsSomeAnd l (λ most. most ≤ clock)) (own _ refl) is.reached), refl, refl)
  spent-write (name_op.Del name) lim clock since until own none is = ((tt, subst (λ (l : Option ℕ). IsSomeAnd l (λ most. most ≤ clock)) (own _ refl) is.reached), refl, refl)
  spent-write (name_op.Get name) lim clock since until own none is = absurd (subst (λ (l : Option ℕ). IsSomeAnd l (λ most. most ≤ clock)) (none refl) is.reached)

  spent-made : {B : Member → Member → Type 0} → (change_of (op_of c) ≡ None → limit_of c ≡ None) → (clock : ℕ) → AtLast B (λ before after. Answers c index before (once.Spent clock) after) old new → IsMade limit caller index (as_op (op_of c)) (reply.Spent clock) old new None
  spent-made none clock is =
      let says = says-is (once.Spent clock) is in
      let longer = begins_le old.seen is.before.seen is.back.seen in
      let write = spent-write (op_of c) (limit_of c) clock (length is.before.seen) (length new.seen) own_limit none says in
      record {
        about = is.last.about ∙ is.back.about;
        seen = begins_trans old.seen is.before.seen new.seen is.back.seen is.last.seen;
        replied = record {
          answer = write.0;
          later = let since = says.later in omega arith;
          within = says.within;
          below = subst (λ (w : Option (ℕ × Write)). IfSome w (λ _. length old.seen < limit)) (sym write.2) tt;
        };
        own = own-is (once.Spent clock) is ∙ ap (λ (l : List (ℕ × Write)). placed_by caller old.seen ++ l) (write.1 ∙ ap option_to_list (sym write.2));
        added = let more = is.last.added in let before = is.back.added in spent-adds (op_of c) more before;
        none_free = λ noted. is.last.none_free ∙ is.back.none_free noted;
        full = λ full. absurd (spent-full clock full);
        tells = none-among (option_to_list (change_cut (as_op (op_of c)) (reply.Spent clock)));
        unsettled = tt;
      }
    where
      spent-adds : (o : NameOp) → new.added ≡ is.before.added + 0 → is.before.added ≡ old.added → new.added + 0 ≤ old.added + one_added (as_op o) (reply.Spent clock)
      spent-adds (name_op.Put name value) more before = omega arith
      spent-adds (name_op.Get name) more before = omega arith
      spent-adds (name_op.Del name) more before = omega arith

-- ---- a put that was full

pub full-made : (name : List ℕ) (value limit caller index : ℕ) (old new : Member) → old.state.caller ≡ caller → FoundFull (call.Put name value limit) index old new → IsMade limit caller index (op.Put name value) reply.Full old new None
full-made name value limit caller index old new mine is = record {
  about = is.reads.about;
  seen = is.reads.seen;
  replied = record { answer = tt; later = tt; within = tt; below = tt };
  own = subst (λ (k : ℕ). placed_by k new.seen ≡ placed_by k old.seen) mine is.reads.own ∙ sym (append-nil (placed_by caller old.seen));
  added = let same = is.reads.added in omega arith;
  none_free = is.reads.none_free;
  full = λ _. (is.none_free, (is.room.clock, is.room.within, is.room.many));
  tells = none-among (option_to_list (change_cut (op.Put name value) reply.Full));
  unsettled = tt;
}

-- a delete never is
no-delete-full : (name : List ℕ) (limit index : ℕ) (old new : Member) → FoundFull (call.Del name limit) index old new → ⊥
no-delete-full name limit index old new is = (is.last.last.refused.says refl).0

-- ---- calls that were cut off

open-read : Open ≢ Read
open-read is = cc

open-found : Open ≢ Found
open-found is = cc

open-lost : Open ≢ Lost
open-lost is = cc

at-read : (place : ℕ) → At place ≢ Read
at-read place is = cc

at-found : (place : ℕ) → At place ≢ Found
at-found place is = cc

at-lost : (place : ℕ) → At place ≢ Lost
at-lost place is = cc

read-found : Read ≢ Found
read-found is = cc

read-lost : Read ≢ Lost
read-lost is = cc

cut-begun : (mark : CutMark) → reply.Cut mark ≢ reply.Unstarted
cut-begun mark is = cc

parts-begun : (parts : List ScanPart) (cut : Bool) → reply.Parts parts cut ≢ reply.Unstarted
parts-begun parts cut is = cc

some-one : {X : Type 0} {a b : X} → Some a ≡ Some b → a ≡ b
some-one is = cc

none-some : {X : Type 0} {a : X} → None ≡ Some a → ⊥
none-some is = cc

cut-full : (mark : CutMark) → reply.Cut mark ≡ reply.Full → ⊥
cut-full mark is = cc

-- what a caller tells as cut off is this call, or nothing
abbrev IsOf : CoreCall → Option CutCall → Type 0
IsOf c cut = IfSome cut (λ one. one.call ≡ c)

-- a write that is told as cut off may have added a name if it is a put, and else not
put-few : (c : CoreCall) (mark : CutMark) (cut : Option CutCall) → IsOf c cut → put_in_flight cut ≤ one_added (as_op (op_of c)) (reply.Cut mark)
put-few c mark None is = omega arith
put-few c mark (Some one) is = subst (λ (o : NameOp). one_put o ≤ one_added (as_op (op_of c)) (reply.Cut mark)) (ap op_of (sym is)) (by (op_of c))
  where
    by : (o : NameOp) → one_put o ≤ one_added (as_op o) (reply.Cut mark)
    by (name_op.Put name value) = omega arith
    by (name_op.Get name) = omega arith
    by (name_op.Del name) = omega arith

-- its change, as long as it has no place, is the one of the record
open-among : (c : CoreCall) (cut : Option CutCall) → IsOf c cut → AreAmong (change_in_flight cut) (option_to_list (change_cut (as_op (op_of c)) (reply.Cut (write_mark (place_in cut)))))
open-among c None is = none-among (option_to_list (change_cut (as_op (op_of c)) (reply.Cut Open)))
open-among c (Some one) is = subst (λ (o : NameOp). AreAmong (unplaced one.place (change_of o)) (option_to_list (change_cut (as_op (op_of c)) (reply.Cut (write_mark one.place))))) (ap op_of (sym is)) (by (op_of c) one.place)
  where
    by : (o : NameOp) (place : Option ℕ) → AreAmong (unplaced place (change_of o)) (option_to_list (change_cut (as_op o) (reply.Cut (write_mark place))))
    by o (Some place) = none-among (option_to_list (change_cut (as_op o) (reply.Cut (At place))))
    by (name_op.Put name value) None = λ _ has. has
    by (name_op.Get name) None = none-among []
    by (name_op.Del name) None = λ _ has. has

-- of a read there is none
read-among : (c : CoreCall) (cut : Option CutCall) (changes : List Change) → change_of (op_of c) ≡ None → IsOf c cut → AreAmong (change_in_flight cut) changes
read-among c None changes reads is = none-among changes
read-among c (Some one) changes reads is = subst (λ (o : Option Change). AreAmong (unplaced one.place o) changes) (sym (ap (λ d. change_of (op_of d)) is ∙ reads)) (by one.place)
  where
    by : (place : Option ℕ) → AreAmong (unplaced place None) changes
    by None = none-among changes
    by (Some place) = none-among changes

-- one that has no place has left nothing of its own
stopped-reads : (c : CoreCall) (index : ℕ) (old before new : Member) (place : Option ℕ) → HasOnlyRead old before → StopsAt c index before place new
    → own_at before.state.caller index (change_of (op_of c)) place ≡ [] → HasOnlyRead old new
stopped-reads c index old before new place back is none = back_trans old before new back (stop_reads c index before new place none is)

-- what is known of an op that asks for a change
record IsWriteOp (o : NameOp) (change : Change) : Type 0 where
  asks : change_of o ≡ Some change
  marked : (mark : CutMark) → mark ≢ Read → IsItsMark (as_op o) mark
  takes : (place : ℕ) → interval_told (as_op o) (reply.Cut (At place)) ≡ Some (record { start = place; end = place + 1 })
  placed : (caller index place : ℕ) → placed_write (made caller index (as_op o) (reply.Cut (At place))) ≡ Some (place, record { caller = caller; index = index; change = change })

writes-so : (c : CoreCall) → most_writes c ≡ 1 → (change : Change) × IsWriteOp (op_of c) change
writes-so (call.Put name value most) one = (kind.Put name value, record { asks = refl; marked = λ mark other. other; takes = λ place. refl; placed = λ caller index place. refl })
writes-so (call.Del name most) one = (kind.Del name, record { asks = refl; marked = λ mark other. other; takes = λ place. refl; placed = λ caller index place. refl })
writes-so (call.Get name) one = absurd (omega arith)
writes-so (call.Part low count) one = absurd (omega arith)
writes-so (call.Recheck node version) one = absurd (omega arith)
writes-so (call.Turn stamp release) one = absurd (omega arith)

-- a write without a place
open-made : (c : CoreCall) (limit caller index : ℕ) (old new : Member) (cut : Option CutCall) → most_writes c ≡ 1 → old.state.caller ≡ caller → HasOnlyRead old new → place_in cut ≡ None → IsOf c cut
    → IsMade limit caller index (as_op (op_of c)) (reply.Cut (write_mark (place_in cut))) old new cut
open-made c limit caller index old new cut writes mine reads none is =
    subst (λ (mark : CutMark). AreAmong (change_in_flight cut) (option_to_list (change_cut (as_op (op_of c)) (reply.Cut mark))) → IsMade limit caller index (as_op (op_of c)) (reply.Cut mark) old new cut) (ap write_mark (sym none))
    (λ among. record {
      about = reads.about;
      seen = reads.seen;
      replied = record { answer = (writes-so c writes).1.marked Open open-read; later = tt; within = tt; below = tt };
      own = subst (λ (k : ℕ). placed_by k new.seen ≡ placed_by k old.seen) mine reads.own ∙ sym (append-nil (placed_by caller old.seen));
      added = let same = reads.added in let few = put-few c Open cut is in omega arith;
      none_free = reads.none_free;
      full = λ full. absurd (cut-full Open full);
      tells = among;
      unsettled = (open-found, open-lost);
    })
    (open-among c cut is)

-- a write that has its place
placed-made : (c : CoreCall) (limit caller index place : ℕ) (old before new : Member) (cut : Option CutCall) → most_writes c ≡ 1 → limit_of c ≡ Some limit → old.state.caller ≡ caller → HasOnlyRead old before
    → StopsAt c index before (Some place) new → place_in cut ≡ Some place → IsOf c cut
    → IsMade limit caller index (as_op (op_of c)) (reply.Cut (write_mark (place_in cut))) old new cut
placed-made c limit caller index place old before new cut writes limits mine back stops there is =
    subst (λ (mark : CutMark). AreAmong (change_in_flight cut) (option_to_list (change_cut (as_op (op_of c)) (reply.Cut mark))) → IsMade limit caller index (as_op (op_of c)) (reply.Cut mark) old new cut) (ap write_mark (sym there))
    (λ among. record {
      about = stops.about ∙ back.about;
      seen = begins_trans old.seen before.seen new.seen back.seen stops.seen;
      replied = record {
        answer = write.1.marked (At place) (at-read place);
        later = subst (λ (o : Option Interval). IfSome o (λ i. length old.seen ≤ i.start)) (sym (write.1.takes place)) (let low = between.0 in let more = longer in omega arith);
        within = subst (λ (o : Option Interval). IfSome o (λ i. i.end ≤ length new.seen)) (sym (write.1.takes place)) (let high = between.1 in omega arith);
        below = subst (λ (o : Option (ℕ × Write)). IfSome o (λ _. length old.seen < limit)) (sym (write.1.placed caller index place)) (let under = below in let more = longer in omega arith);
      };
      own = own ∙ ap (λ (l : List (ℕ × Write)). l ++ (place, one) ∷ []) earlier ∙ ap (λ (o : Option (ℕ × Write)). placed_by caller old.seen ++ option_to_list o) (sym (write.1.placed caller index place));
      added = let first = stops.added in let second = back.added in let few = put-few c (At place) cut is in omega arith;
      none_free = λ noted. stops.none_free ∙ back.none_free noted;
      full = λ full. absurd (cut-full (At place) full);
      tells = among;
      unsettled = (at-found place, at-lost place);
    })
    (open-among c cut is)
  where
    write : (change : Change) × IsWriteOp (op_of c) change
    write = writes-so c writes

    one : Write
    one = record { caller = caller; index = index; change = write.0 }

    own : placed_by caller new.seen ≡ placed_by caller before.seen ++ (place, one) ∷ []
    own =
        subst (λ (k : ℕ). placed_by k new.seen ≡ placed_by k before.seen ++ own_at k index (change_of (op_of c)) (Some place)) (back.caller ∙ mine) stops.own
        ∙ ap (λ (o : Option Change). placed_by caller before.seen ++ noted place (written caller index o)) write.1.asks

    earlier : placed_by caller before.seen ≡ placed_by caller old.seen
    earlier = subst (λ (k : ℕ). placed_by k before.seen ≡ placed_by k old.seen) mine back.own

    longer : length old.seen ≤ length before.seen
    longer = begins_le old.seen before.seen back.seen

    between : (length before.seen ≤ place) × (place < length new.seen)
    between = own_between caller place one before.seen new.seen stops.seen own

    below : length before.seen < limit
    below = subst (λ (o : Option ℕ). IfSome o (λ most. length before.seen < most)) limits stops.below

-- a call that was cut off within its last try
try-made : (c : CoreCall) (limit caller index : ℕ) (old before new : Member) (cut : Option CutCall) (place : Option ℕ) → place_in cut ≡ place → most_writes c ≡ 1 → limit_of c ≡ Some limit → old.state.caller ≡ caller → HasOnlyRead old before
    → CutsOff c index before place new → IsOf c cut → IsMade limit caller index (as_op (op_of c)) (reply.Cut (write_mark (place_in cut))) old new cut
try-made c limit caller index old before new cut place there writes limits mine back (inl none) is =
    open-made c limit caller index old new cut writes mine (subst (HasOnlyRead old) (sym none.1) back) (there ∙ none.0) is
try-made c limit caller index old before new cut None there writes limits mine back (inr stops) is =
    open-made c limit caller index old new cut writes mine (stopped-reads c index old before new None back stops refl) there is
try-made c limit caller index old before new cut (Some place) there writes limits mine back (inr stops) is =
    placed-made c limit caller index place old before new cut writes limits mine back stops there is

-- a put or a delete that was cut off
pub write-cut : (parties limit : ℕ) (c : CoreCall) (old new : Caller) → most_writes c ≡ 1 → limit_of c ≡ Some limit → (seen_by old).state.caller ≡ old.number → old.cut ≡ None → IsCutWrite parties c old new
    → IsMade limit old.number old.index (as_op (op_of c)) (reply.Cut (write_mark (place_in new.cut))) (seen_by old) (seen_by new) new.cut
write-cut parties limit c old new writes limits mine uncut is = by is.cut
  where
    Made : Type 0
    Made = IsMade limit old.number old.index (as_op (op_of c)) (reply.Cut (write_mark (place_in new.cut))) (seen_by old) (seen_by new) new.cut

    same-of : new ≡ old → new.cut ≡ None
    same-of same = ap (λ (d : Caller). d.cut) same ∙ uncut

    of-none : (cut : Option CutCall) → cut ≡ None → IsOf c cut
    of-none cut none = subst (IsOf c) (sym none) tt

    of-this : (cut : Option CutCall) → IfSome cut (λ one. (one.call ≡ c) × (one.index ≡ old.index)) → IsOf c cut
    of-this None this = tt
    of-this (Some one) this = this.0

    by : (new ≡ old) ⊎ IsCutWithin (WriteBack c old.index) c old new ⊎ IsCutBehind parties c old new → Made
    by (inl same) =
        open-made c limit old.number old.index (seen_by old) (seen_by new) new.cut writes mine (subst (λ (d : Caller). HasOnlyRead (seen_by old) (seen_by d)) (sym same) (back_self (seen_by old))) (ap place_in (same-of same)) (of-none new.cut (same-of same))
    by (inr (inl within)) =
        try-made c limit old.number old.index (seen_by old) within.last.before (seen_by new) new.cut (place_in new.cut) refl writes limits mine within.last.back within.last.last (of-this new.cut within.tells)
    by (inr (inr turned)) =
        open-made c limit old.number old.index (seen_by old) (seen_by new) new.cut writes mine turned.reads (ap place_in turned.uncut) (of-none new.cut turned.uncut)

-- ---- calls by what they are

-- a put or a delete, whichever it is
pub write-made : (parties limit : ℕ) (c : CoreCall) (old new : Caller) → most_writes c ≡ 1 → limit_of c ≡ Some limit → (seen_by old).state.caller ≡ old.number → old.cut ≡ None → (end : Ended Placed)
    → WriteComesTo parties c old end new
    → IsMade limit old.number old.index (as_op (op_of c)) (reply_told (write_mark (place_in new.cut)) end) (seen_by old) (seen_by new) new.cut
write-made parties limit c old new writes limits mine uncut (ended.Done placed) is =
    subst (IsMade limit old.number old.index (as_op (op_of c)) (reply.Old placed.old placed.place) (seen_by old) (seen_by new)) (sym is.rests.2)
    (done-made c limit old.number old.index (seen_by old) (seen_by new) mine (λ _ _. limits) placed is.ends)
write-made parties limit c old new writes limits mine uncut (ended.Spent clock) is =
    subst (IsMade limit old.number old.index (as_op (op_of c)) (reply.Spent clock) (seen_by old) (seen_by new)) (sym is.rests.2)
    (spent-made c limit old.number old.index (seen_by old) (seen_by new) mine (λ _ _. limits) (λ none. absurd (none-some (sym none ∙ (writes-so c writes).1.asks))) clock is.ends)
write-made parties limit c old new writes limits mine uncut ended.Full is =
    subst (IsMade limit old.number old.index (as_op (op_of c)) reply.Full (seen_by old) (seen_by new)) (sym is.rests.2) (full-put c writes limits is.ends)
  where
    full-put : (d : CoreCall) → most_writes d ≡ 1 → limit_of d ≡ Some limit → FoundFull d old.index (seen_by old) (seen_by new) → IsMade limit old.number old.index (as_op (op_of d)) reply.Full (seen_by old) (seen_by new) None
    full-put (call.Put name value most) one own full = full-made name value limit old.number old.index (seen_by old) (seen_by new) mine
        (subst (λ (l : ℕ). FoundFull (call.Put name value l) old.index (seen_by old) (seen_by new)) (some-one own) full)
    full-put (call.Del name most) one own full = absurd (no-delete-full name most old.index (seen_by old) (seen_by new) full)
    full-put (call.Get name) one own full = absurd (omega arith)
    full-put (call.Part low count) one own full = absurd (omega arith)
    full-put (call.Recheck node version) one own full = absurd (omega arith)
    full-put (call.Turn stamp release) one own full = absurd (omega arith)
write-made parties limit c old new writes limits mine uncut ended.Cut is = write-cut parties limit c old new writes limits mine uncut is

-- of the caller before a call its index alone counts
pub index-alone : (reply : Reply) (ready old new : Caller) → ready.index ≡ old.index → AnsweredOrCut reply ready new → AnsweredOrCut reply old new
index-alone reply ready old new same (inl is) = inl (record { answered = is.answered; rests = is.rests; next = is.next ∙ ap next_index same })
index-alone reply ready old new same (inr stopped) = inr stopped

-- it was answered, or cut off
pub write-ends : (parties : ℕ) (c : CoreCall) (old new : Caller) (mark : CutMark) (end : Ended Placed)
    → WriteComesTo parties c old end new
    → AnsweredOrCut (reply_told mark end) old new
write-ends parties c old new mark (ended.Done placed) is = inl (record { answered = tt; rests = is.rests; next = is.index })
write-ends parties c old new mark (ended.Spent clock) is = inl (record { answered = tt; rests = is.rests; next = is.index })
write-ends parties c old new mark ended.Full is = inl (record { answered = tt; rests = is.rests; next = is.index })
write-ends parties c old new mark ended.Cut is = inr (record { begun = cut-begun mark; spent = is.spent })

-- a get
pub get-made : (limit : ℕ) (name : List ℕ) (old new : Caller) → (seen_by old).state.caller ≡ old.number → old.cut ≡ None → (end : Ended Placed)
    → GetComesTo name old end new
    → IsMade limit old.number old.index (op.Get name) (reply_told Read end) (seen_by old) (seen_by new) new.cut
get-made limit name old new mine uncut (ended.Done placed) is =
    subst (IsMade limit old.number old.index (op.Get name) (reply.Old placed.old placed.place) (seen_by old) (seen_by new)) (sym is.rests.2)
    (done-made (call.Get name) limit old.number old.index (seen_by old) (seen_by new) mine (λ change asks. absurd (none-some asks)) placed is.ends)
get-made limit name old new mine uncut (ended.Spent clock) is = absurd is
get-made limit name old new mine uncut ended.Full is = absurd is
get-made limit name old new mine uncut ended.Cut is = by is.cut
  where
    read-made : HasOnlyRead (seen_by old) (seen_by new) → IsOf (call.Get name) new.cut → IsMade limit old.number old.index (op.Get name) (reply.Cut Read) (seen_by old) (seen_by new) new.cut
    read-made reads this = record {
      about = reads.about;
      seen = reads.seen;
      replied = record { answer = refl; later = tt; within = tt; below = tt };
      own = subst (λ (k : ℕ). placed_by k (seen_by new).seen ≡ placed_by k (seen_by old).seen) mine reads.own ∙ sym (append-nil (placed_by old.number (seen_by old).seen));
      added = let same = reads.added in let few = put-few (call.Get name) Read new.cut this in omega arith;
      none_free = reads.none_free;
      full = λ full. absurd (cut-full Read full);
      tells = read-among (call.Get name) new.cut [] refl this;
      unsettled = (read-found, read-lost);
    }

    of-this : (cut : Option CutCall) → IfSome cut (λ one. (one.call ≡ call.Get name) × (one.index ≡ old.index)) → IsOf (call.Get name) cut
    of-this None this = tt
    of-this (Some one) this = this.0

    by : (new ≡ old) ⊎ IsCutWithin (TriedBack (Answers (call.Get name)) old.index) (call.Get name) old new → IsMade limit old.number old.index (op.Get name) (reply.Cut Read) (seen_by old) (seen_by new) new.cut
    by (inl same) =
        let none : new.cut ≡ None = ap (λ (d : Caller). d.cut) same ∙ uncut in
        read-made (subst (λ (d : Caller). HasOnlyRead (seen_by old) (seen_by d)) (sym same) (back_self (seen_by old))) (subst (IsOf (call.Get name)) (sym none) tt)
    by (inr within) =
        read-made (back_trans (seen_by old) within.last.before (seen_by new) within.last.back (cut_off_reads (call.Get name) old.index within.last.before (seen_by new) (place_in new.cut) (nothing_own within.last.before.state.caller old.index (place_in new.cut)) within.last.last))
        (of-this new.cut within.tells)

pub get-ends : (name : List ℕ) (old new : Caller) (end : Ended Placed)
    → GetComesTo name old end new
    → AnsweredOrCut (reply_told Read end) old new
get-ends name old new (ended.Done placed) is = inl (record { answered = tt; rests = is.rests; next = is.index })
get-ends name old new (ended.Spent clock) is = absurd is
get-ends name old new ended.Full is = absurd is
get-ends name old new ended.Cut is = inr (record { begun = cut-begun Read; spent = is.spent })

-- ---- scans

rises : (m : ℕ → Map) (low : List ℕ) (left place : ℕ) (part : ScanPart) → IsPart m low left place part → Rise part.pairs
rises m low left place part is = subst Rise (sym is.lists) (range_rises (m part.place) part.low part.high left)

parts-rise : (m : ℕ → Map) (low : List ℕ) (left place : ℕ) (cut : Bool) (parts : List ScanPart) → AreParts m low left place cut parts → AllByRecursion (λ (part : ScanPart). Rise part.pairs) parts
parts-rise m low left place cut parts cut_off = tt
parts-rise m low left place cut parts (ends {part = part} is last) = (rises m low left place part is, tt)
parts-rise m low left place cut parts (goes_on {part = part} {parts = more} high is less bound later) =
    (rises m low left place part is, parts-rise m high (left - length part.pairs) part.place cut more later)

-- its parts are those of a report
pub scan-told : (from : List ℕ) (count : ℕ) (cut : Bool) (old new : Member) (parts : List ScanPart) → AreScanned from count cut old new parts → All IsReportPart parts
scan-told from count cut old new parts is k d less =
    let named = is.named k d less in
    let all = All-from_recursion (λ (part : ScanPart). Rise part.pairs) parts (parts-rise (after (map_of old.about.base) new.seen) from count (length old.seen) cut parts is.scan) in
    record { low = named.low; high = named.high; place = named.place; pairs = named.pairs; rise = all k d less }

last-within : (most place : ℕ) (parts : List ScanPart) → place ≤ most → AllByRecursion (λ (part : ScanPart). part.place ≤ most) parts → last_place place parts ≤ most
last-within most place [] less all = less
last-within most place (part ∷ parts) less all = last-within most part.place parts all.0 all.1

scan-spans : (m : ℕ → Map) (from : List ℕ) (count start most : ℕ) (cut : Bool) (parts : List ScanPart) → AreParts m from count start cut parts → AllByRecursion (λ (part : ScanPart). part.place ≤ most) parts
    → IfSome (parts_interval parts) (λ i. start ≤ i.start) × IfSome (parts_interval parts) (λ i. i.end ≤ most)
scan-spans m from count start most cut parts cut_off all = (tt, tt)
scan-spans m from count start most cut parts (ends {part = part} is last) all = (is.later, all.0)
scan-spans m from count start most cut parts (goes_on {part = part} {parts = more} high is less bound later) all = (is.later, last-within most part.place more all.0 all.1)

-- parts of a scan, all of them or those before it was cut off
parts-made : (from : List ℕ) (count limit caller index : ℕ) (stopped : Bool) (old new : Member) (parts : List ScanPart) (cut : Option CutCall) → old.state.caller ≡ caller → HasOnlyRead old new → AreScanned from count stopped old new parts
    → put_in_flight cut ≡ 0 → AreAmong (change_in_flight cut) [] → IsMade limit caller index (op.Scan from count) (reply.Parts parts stopped) old new cut
parts-made from count limit caller index stopped old new parts cut mine reads is none among =
    let spans = scan-spans (after (map_of old.about.base) new.seen) from count (length old.seen) (length new.seen) stopped parts is.scan (recursion_from_All (λ (part : ScanPart). part.place ≤ length new.seen) parts is.within) in
    record {
      about = reads.about;
      seen = reads.seen;
      replied = record {
        answer = parts_later (after (map_of old.about.base) new.seen) from count 0 (length old.seen) stopped parts (omega arith) is.scan;
        later = spans.0;
        within = spans.1;
        below = tt;
      };
      own = subst (λ (k : ℕ). placed_by k new.seen ≡ placed_by k old.seen) mine reads.own ∙ sym (append-nil (placed_by caller old.seen));
      added = let same = reads.added in omega arith;
      none_free = reads.none_free;
      full = λ full. absurd (parts-full parts stopped full);
      tells = among;
      unsettled = tt;
    }

-- a part that was cut off is a read
part-cut : (cut : Option CutCall) (index : ℕ) → IsPartCut cut index → (put_in_flight cut ≡ 0) × AreAmong (change_in_flight cut) []
part-cut None index is = (refl, none-among [])
part-cut (Some one) index is = (ap (λ d. one_put (op_of d)) is.2, read-among (call.Part is.0 is.1) (Some one) [] refl is.2)

pub scan-made : (limit : ℕ) (from : List ℕ) (count : ℕ) (old new : Caller) (parts : List ScanPart) → (seen_by old).state.caller ≡ old.number → HasOnlyRead (seen_by old) (seen_by new) → IsAtRest new → AreScanned from count false (seen_by old) (seen_by new) parts
    → IsMade limit old.number old.index (op.Scan from count) (reply.Parts parts false) (seen_by old) (seen_by new) new.cut
scan-made limit from count old new parts mine reads rests is =
    parts-made from count limit old.number old.index false (seen_by old) (seen_by new) parts new.cut mine reads is (ap put_in_flight rests.2) (subst (λ (o : Option CutCall). AreAmong (change_in_flight o) []) (sym rests.2) (none-among []))

pub scan-cut : (limit : ℕ) (from : List ℕ) (count : ℕ) (old new : Caller) (parts : List ScanPart) → (seen_by old).state.caller ≡ old.number → old.cut ≡ None → HasOnlyRead (seen_by old) (seen_by new) → IsCutScan old new
    → AreScanned from count true (seen_by old) (seen_by new) parts → IsMade limit old.number old.index (op.Scan from count) (reply.Parts parts true) (seen_by old) (seen_by new) new.cut
scan-cut limit from count old new parts mine uncut reads stops is =
    let told = ⊎_elim
    (λ (same : new ≡ old).
    let none : new.cut ≡ None = ap (λ (d : Caller). d.cut) same ∙ uncut in
    subst (λ (o : Option CutCall). (put_in_flight o ≡ 0) × AreAmong (change_in_flight o) []) (sym none) (refl, none-among []))
    (part-cut new.cut old.index) stops.cut in
    parts-made from count limit old.number old.index true (seen_by old) (seen_by new) parts new.cut mine reads is told.0 told.1

-- a call that its caller has a step for goes on so
pub goes : {E : Type 0} (limit : ℕ) (op : Op) (result : Result Reply E) (old new : Caller) → old.left ≢ Some 0
    → IfOk result (λ reply. IsMade limit old.number old.index op reply (seen_by old) (seen_by new) new.cut) → IfOk result (λ reply. AnsweredOrCut reply old new) → IfOk result (λ reply. HasGone limit op reply old new)
goes limit op (Ok reply) old new steps made ended = inr (record { steps = steps; made = made; ends = ended })
goes limit op (Err error) old new steps made ended = tt

-- nothing is paid where nothing was done
pub pays-nothing : (left : Option ℕ) (taken : ℕ) → Pays left left taken taken
pays-nothing None taken = tt
pays-nothing (Some left) taken = refl
