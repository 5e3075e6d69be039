-- Which calls are surely answered.
use Rattle.std.proofs.Common.{◌≡◌, ◌≢◌, ℕ, ◌+◌, ◌-◌, ◌*◌, ◌/◌, ◌%◌, ◌<◌, ◌≤◌, ◌⊎◌, inl, inr, ⊎_elim, Bool, List, [], ◌∷◌, ◌++◌, drop, take, length, get_or, sym, subst, ap, ◌∙◌, arith, length-append}
use Rattle.std.proofs.lemmas.Bool.{cases_eq}
use Rattle.std.proofs.lemmas.List.{drop_more, get_or_append_left, length-drop}
use Rattle.std.proofs.Math.Nat.{mod-eq_of_lt}
use Rattle.std.proofs.lemmas.Option.{get_or_from_slice_get, slice_get-get_or, slice_get_within}
use Rattle.std.proofs.Math.Seq.{get_or-append_seam}
use Rattle.std.specs.Prelude.{MatchResult, Option, Result, Ok, Err, Some, slice_get}
use Rattle.cat_history.specs.Rounds.{IsAnswered, IsOnName}
use Rattle.cat_history.specs.declared.op.CallerOp.{CallerOp}
use Rattle.cat_history.specs.declared.record.CutMark.{CutMark}
use Rattle.cat_history.specs.declared.record.Record.{Record}
use Rattle.cat_history.specs.declared.record.Reply.{Reply}
use Rattle.cat_history.specs.declared.record.Reply.TheVariants.{Old, Full, Cut}
use Rattle.shapes.specs.declared.map.Full.{Full as NoRoom}
use Rattle.stopped_rounds.specs.Bounded.{ComesTo, IsInTime}
use Rattle.stopped_rounds.specs.InTime.{AreInTime, AreOnNames, RepliesInTime}
use Rattle.stopped_rounds.specs.declared.bounded_map.Bounded.{Bounded}
use Rattle.stopped_rounds.specs.declared.bounded_map.Bounded.TheVariants as bounded
use Rattle.stopped_rounds.proofs.Turns.{Between, Goes, between-next}

-- what a call is told that was answered, or cut off with too little
pub put_in_time : (most before after : ℕ) (Then : Type 0) (ended : Bounded (Result (Option ℕ) NoRoom)) (place : ℕ) (reply : Reply) (Q : Bool → Type 0)
    → ComesTo ended (λ answer. MatchResult answer (λ old. reply ≡ Old old place) (λ _. reply ≡ Full)) Q → IsInTime ended most before after Then → RepliesInTime most before reply after Then
put_in_time most before after Then (bounded.Answered (Ok old)) place reply Q is few = inl (subst IsAnswered (sym is) tt, few.0, few.1)
put_in_time most before after Then (bounded.Answered (Err full)) place reply Q is few = inl (subst IsAnswered (sym is) tt, few.0, few.1)
put_in_time most before after Then (bounded.Cut placed) place reply Q is few = inr few

pub old_in_time : (most before after : ℕ) (Then : Type 0) (ended : Bounded (Option ℕ)) (place : ℕ) (reply : Reply) (Q : Bool → Type 0)
    → ComesTo ended (λ old. reply ≡ Old old place) Q → IsInTime ended most before after Then → RepliesInTime most before reply after Then
old_in_time most before after Then (bounded.Answered old) place reply Q is few = inl (subst IsAnswered (sym is) tt, few.0, few.1)
old_in_time most before after Then (bounded.Cut placed) place reply Q is few = inr few

-- what holds behind a call that was answered
pub answered_then : {T : Type 0} (Then : Type 0) (ended : Bounded T) (P : T → Type 0) (mark : Bool → CutMark) (reply : Reply) → ComesTo ended P (λ placed. reply ≡ Cut (mark placed)) → ComesTo ended (λ answer. Then) (λ placed. Unit {0}) → IsAnswered reply → Then
answered_then Then (bounded.Answered answer) P mark reply is then answered = then
answered_then Then (bounded.Cut placed) P mark reply is then answered = absurd (subst IsAnswered is answered)

-- one record more
in_time-push : (most budget : ℕ) (records : List Record) (r : Record) → AreInTime most budget records → ((length records + 1) * most ≤ budget → IsAnswered r.reply) → AreInTime most budget (records ++ r ∷ [])
in_time-push most budget records r before here i q at enough = ⊎_elim
    (λ (last : i ≡ length records).
    let same : r ≡ q = sym (get_or-append_seam records r [] q) ∙ ap (λ k. get_or (records ++ r ∷ []) k q) (sym last) ∙ get_or_from_slice_get (records ++ r ∷ []) i q q at in
    subst (λ (x : Record). IsAnswered x.reply) same (here (subst (λ k. (k + 1) * most ≤ budget) last enough)))
    (λ (other : i ≢ length records).
    let within = slice_get_within (records ++ r ∷ []) i q at in
    let long = length-append records (r ∷ []) in
    let first : i < length records = omega (arith, within, long, other) in
    let there : slice_get records i ≡ Some q = slice_get-get_or records i q first ∙ ap (λ x. Some x) (sym (get_or_append_left records (r ∷ []) q i first) ∙ get_or_from_slice_get (records ++ r ∷ []) i q q at) in
    before i q there enough)
    (cases_eq i (length records))

-- How far a round of so many calls has come: those so far have taken no more than their number of times the most of one,
-- and this holds for those to come; or the budget isn't above that number of times, or none is to come.
abbrev pub HasCome : ℕ → ℕ → ℕ → ℕ → ℕ → Type 0 → Type 0
HasCome most budget left calls all ToCome = (budget ≤ calls * most) ⊎ ((all ≤ calls) ⊎ ((budget ≤ left + calls * most) × ToCome))

in_time-call : (most budget left left' all : ℕ) (records : List Record) (r : Record) (Now Next : Type 0) → 0 < most → length records < all → AreInTime most budget records → HasCome most budget left (length records) all Now
    → (0 < left → Now → RepliesInTime most left r.reply left' (0 < left' → length records + 1 < all → Next)) → AreInTime most budget (records ++ r ∷ []) × HasCome most budget left' (length records + 1) all Next
in_time-call most budget left left' all records r Now Next some more before has replies = ⊎_elim
    (λ (little : budget ≤ length records * most). short (omega (arith, little, some)))
    (λ (come : (all ≤ length records) ⊎ ((budget ≤ left + length records * most) × Now)). ⊎_elim
    (λ (whole : all ≤ length records). absurd (omega (arith, whole, more)))
    (λ (far : (budget ≤ left + length records * most) × Now). ⊎_elim
    (λ (none : left ≡ 0). let few = far.0 in short (omega (arith, none, few, some)))
    (λ (left_so : left ≢ 0). ⊎_elim
    (λ (told : IsAnswered r.reply × (left ≤ left' + most) × (0 < left' → length records + 1 < all → Next)).
    let few = far.0 in
    let taken = told.1 in (
      in_time-push most budget records r before (λ _. told.0),
      ⊎_elim
          (λ (spent : left' ≡ 0). inl (omega (arith, few, taken, spent)))
          (λ (rests : left' ≢ 0). ⊎_elim
          (λ (last : length records + 1 ≡ all). inr (inl (omega (arith, last))))
          (λ (others : length records + 1 ≢ all). inr (inr (omega (arith, few, taken), told.2 (omega (arith, rests)) (omega (arith, others, more)))))
          (cases_eq (length records + 1) all))
          (cases_eq left' 0),
    ))
    (λ (little : left < most). let few = far.0 in short (omega (arith, little, few)))
    (replies (omega (arith, left_so)) far.1))
    (cases_eq left 0))
    come)
    has
  where
    short : budget < (length records + 1) * most → AreInTime most budget (records ++ r ∷ []) × HasCome most budget left' (length records + 1) all Next
    short below = (in_time-push most budget records r before (λ enough. absurd (omega (arith, below, enough))), inl (omega (arith, below)))

-- a round begins
pub begins_without : (ops : List CallerOp) (turns between events left : ℕ) (room turnless : List CallerOp → Type 0) → (turns ≡ 0) ⊎ (length ops < turns) → turnless ops → Between turns between events 0 ops room turnless left
begins_without ops turns between events left room turnless never none = inl (never, none)

pub begins_with : (ops : List CallerOp) (turns between events left : ℕ) (room turnless : List CallerOp → Type 0) → (0 < turns) × (turns ≤ between) × ((length ops / turns) * events ≤ left) → room ops → turnless (take turns ops)
    → Between turns between events 0 ops room turnless left
begins_with ops turns between events left room turnless timely has none =
    let first : 0 % turns ≡ 0 = mod-eq_of_lt timely.0 in
    let same : turns ≡ turns - 0 % turns = omega (arith, first) in
    let paid = timely.2 in
    inr (record { some = timely.0; often = timely.1; paid = omega (arith, paid); has = has; none = subst (λ k. turnless (take k ops)) same none })

-- one call more
module _ (most budget left left' : ℕ) (ops asked : List CallerOp) (index turns between events before after : ℕ) (call : CallerOp) (records records' : List Record) (r : Record) (room room' room'' turnless turnless' turnless'' : List CallerOp → Type 0)
    (some : 0 < most) (named : AreOnNames ops) (same : asked ≡ ops) (within : index < length asked) (is : call ≡ get_or asked index call) (long : length records ≡ index) (grown : records' ≡ records ++ r ∷ []) where
  abbrev Now : Type 0
  Now = Between turns between events index ops room turnless before

  abbrev Next : Type 0
  Next = Between turns between events (index + 1) ops room'' turnless'' after

  fits : index < length ops
  fits = subst (λ (l : List CallerOp). index < length l) same within

  here : get_or ops index call ≡ call
  here = ap (λ (l : List CallerOp). get_or l index call) (sym same) ∙ sym is

  next : drop index ops ≡ call ∷ drop (index + 1) ops
  next = drop_more ops index call fits ∙ ap (λ (a : CallerOp). a ∷ drop (index + 1) ops) here

  own : IsOnName call.op
  own = subst (λ (a : CallerOp). IsOnName a.op) here (named index call fits)

  pub in_time-next : AreInTime most budget records × HasCome most budget left index (length ops) Now → Goes most left left' r.reply call turns between events index room room' room'' turnless turnless' turnless'' before after
      → AreInTime most budget records' × HasCome most budget left' (index + 1) (length ops) Next
  in_time-next so_far goes = (subst (AreInTime most budget) (sym grown) all.0, subst (λ k. HasCome most budget left' (k + 1) (length ops) Next) long all.1)
    where
      replies : 0 < left → Now → RepliesInTime most left r.reply left' (0 < left' → length records + 1 < length ops → Next)
      replies some_left now = ⊎_elim
          (λ (told : IsAnswered r.reply × (left ≤ left' + most) × (0 < left' → 0 < length (drop (index + 1) ops) → Next)).
          inl (told.0, told.1, (λ rests others. told.2 rests (let size = length-drop (index + 1) ops in omega (arith, size, others, long)))))
          (λ (little : left < most). inr little)
          (between-next most left left' r.reply call turns between events index room room' room'' turnless turnless' turnless'' before after goes ops fits next own some_left now)

      all : AreInTime most budget (records ++ r ∷ []) × HasCome most budget left' (length records + 1) (length ops) Next
      all = in_time-call most budget left left' (length ops) records r Now Next some (omega (arith, long, fits)) so_far.0
          (subst (λ k. HasCome most budget left k (length ops) Now) (sym long) so_far.1) replies
