-- The callers' work, put together where they meet.
use Rattle.std.proofs.Common.{◌≡◌, ℕ, zero, suc, ◌+◌, ◌*◌, ◌/◌, ◌<◌, ◌≤◌, true, List, [], ◌∷◌, ◌++◌, length, get_or}
use Rattle.std.proofs.Common.{map, refl, sym, ap, subst, ◌∙◌, arith}
use Rattle.std.specs.Prelude.{All, Option, Some, None, Ok, Result, flat_map, slice_get}
use Rattle.std.specs.FinMap.{len}
use Rattle.std.proofs.lemmas.List.{length-map}
use Rattle.std.specs.List.{enumerate_from}
use Rattle.std.proofs.lemmas.List.Elements.{All-append, All-nil, All-weaker}
use Rattle.std.proofs.lemmas.List.Sorted.{length_permutation}
use Rattle.std.proofs.lemmas.List.FromFn.{length-enumerate_from}
use Rattle.std.proofs.lemmas.Option.{get_or_from_slice_get, slice_get-get_or}
use mathlib.Core.Option.{some, some-injective, some-ne-none}
use lib.ListN.{get_elem?}
use Rattle.cat_history.specs.Maps.{Map, map_of}
use Rattle.cat_history.specs.Writes.{after_all}
use Rattle.cat_history.specs.CrashEnds.{IsCrashEnd}
use Rattle.cat_history.specs.CrashRounds.{IsStoppedRound, changes_cut}
use Rattle.cat_history.specs.Records.{numbered, placed_writes}
use Rattle.cat_history.specs.Rounds.{IsAnswered, IsLegalRound}
use Rattle.cat_history.specs.declared.op.CallerOp.{CallerOp}
use Rattle.cat_history.specs.declared.op.Change.{Change}
use Rattle.cat_history.specs.declared.op.Write.{Write}
use Rattle.cat_history.specs.declared.plan.CrashPlan.{CrashPlan}
use Rattle.cat_history.specs.declared.plan.RoundPlan.{RoundPlan}
use Rattle.cat_history.specs.declared.record.Record.{Record}
use Rattle.pm_words.specs.Images.{Row}
use Rattle.shapes.specs.ShapeRounds.{puts_added, FullIsPaid}
use Rattle.index_law.specs.Facts.{facts_of}
use Rattle.index_law.specs.Weights.{index_weight}
use Rattle.pac_index.specs.index_core.specs.Indexes.{Index, parties_of}
use Rattle.pac_index.specs.index_core.specs.Weights.{weight_of}
use Rattle.pac_index.specs.index_core.proofs.Lists.{map_from, map_there}
use Rattle.stopped_rounds.specs.LoneStops.{IsWithin}
use Rattle.stopped_rounds.specs.MoreCuts.{AreAmong}
use Rattle.caller_rounds.specs.CallerRounds.{own_writes, asked_of, by_caller, EachHasReplies, KnowsRoom, CallerRoom}
use Rattle.caller_rounds.specs.CallerRounds.{records_of_all, added_of_all, EachKnowsRoom}
use Rattle.caller_rounds.specs.Stopping.{HasStopped}
use Rattle.caller_rounds.proofs.Parting.{elem-within}
use Rattle.caller_rounds.proofs.Calling.{replies_stay}
use Rattle.caller_rounds.proofs.Meeting.{replies_make_round}
use Rattle.caller_rounds.proofs.Stopping.{stops_end_so, stops_make_round}
use Rattle.caller_rounds.proofs.Told.{answered-settled}
use Rattle.caller_rounds.proofs.Rooms.{full_rounds_are_paid}
use Rattle.caller_rounds.proofs.Aparting.{apart_is_in_order}
use Rattle.caller_rounds.specs.Apart.{TookPlace}
use Rattle.caller_rounds.proofs.Stands.{records_stand}
use Rattle.cat_text.specs.ReportGrammar.{IsReportReply, StandByCaller}
use Rattle.pac_index.specs.declared.caller.Caller.{Caller}
use Rattle.pac_index.specs.declared.rule.About.{About}
use Rattle.pac_index.specs.declared.shared.Shared.{Shared}
use Rattle.pac_index.specs.Kept.{placed_by, Begins, index_of, opening_weight}
use Rattle.pac_index.specs.declared.crashing.Crashed.{Crashed}
use Rattle.pac_index.specs.Callers.{AreAtRest, IsAtRest, IsCallerOf, HasCallers, Opened, about_in, seen_by}
use Rattle.pac_index.specs.Callers.{added_by_all, Meeting}
use Rattle.pac_index.specs.CrashMeetings.{CrashMeeting, IsCrashOf, change_in_flight, changes_in_flight, cut_of}
use Rattle.pac_index.specs.CrashMeetings.{put_in_flight, puts_in_flight, state_of}
use Rattle.thread_rounds.specs.declared.worker.Played.{Played}
use Rattle.thread_rounds.specs.declared.round.Finish.{Finish}
use Rattle.thread_rounds.specs.declared.round.Finish.TheVariants.{Crashed as CrashedIn, Joined}
use Rattle.thread_rounds.specs.declared.round.Round.{Round}
use Rattle.thread_rounds.specs.Gathered.{ArePlayed, HasEndedByCrash, HasMet, IsGathered}
use Rattle.thread_rounds.specs.Played.{HasPlayed, IsPlayedBy, IsToldOnceSettled, budget_of}
use Rattle.thread_rounds.specs.RunRounds.{EndsAs, IsCrashedAnd, IsJoinedAnd, IsRun, IsRunCrash, IsRunRound}
use Rattle.thread_rounds.proofs.Own.{placed-own}
use Rattle.thread_rounds.proofs.PlacedCounts.{placed-counted}

abbrev caller-in : Played → Caller
caller-in p = p.caller

abbrev records-in : Played → List Record
records-in p = p.records.items

-- what one of them knows at the end
abbrev room-of : Played → CallerRoom
room-of p = record { seen = (seen_by p.caller).seen; noted = (seen_by p.caller).none_free; added = (seen_by p.caller).added + put_in_flight p.caller.cut; records = p.records.items }

told-all : (done : List Played) → records_of_all (map room-of done) ≡ map records-in done
told-all [] = refl
told-all (p ∷ done) = ap (λ (l : List (List Record)). p.records.items ∷ l) (told-all done)

flat-told : (done : List Played) → flat_map (λ (p : Played). p.records.items) done ≡ by_caller (map records-in done)
flat-told [] = refl
flat-told (p ∷ done) = ap (λ (l : List Record). p.records.items ++ l) (flat-told done)

added-told : (done : List Played) → added_of_all (map room-of done) ≡ added_by_all (map caller-in done) + puts_in_flight (map cut_of (map caller-in done))
added-told [] = refl
added-told (p ∷ done) = let rest = added-told done in omega arith

-- the changes that they tell as cut off
abbrev cuts-in : Played → List Change
cuts-in p = change_in_flight p.caller.cut

cuts-told : (done : List Played) → changes_in_flight (map cut_of (map caller-in done)) ≡ flat_map (λ (changes : List Change). changes) (map cuts-in done)
cuts-told [] = refl
cuts-told (p ∷ done) = ap (λ (l : List Change). change_in_flight p.caller.cut ++ l) (cuts-told done)

-- what holds of each one's records holds of all
all-told : (P : Record → Type 0) (done : List Played) → ((i : ℕ) (p : Played) → get_elem? done i ≡ some p → All P p.records.items) → All P (flat_map (λ (p : Played). p.records.items) done)
all-told P [] each = All-nil P
all-told P (p ∷ done) each =
    All-append P p.records.items (flat_map (λ (q : Played). q.records.items) done) (each 0 p refl) (all-told P done (λ i q at. each (suc i) q at))

-- what one worker came to, by its place
pub record HasDone (s : Shared) (plan : RoundPlan) (i : ℕ) (p : Played) : Type 0 where
  pub of : IsCallerOf s p.caller
  pub number : p.caller.number ≡ i
  pub has : HasPlayed plan.limit i (budget_of plan.crash i) (asked_of i plan.ops) p.caller p.records.items

module _ {E : Type 0} (s : Shared) (plan : RoundPlan) (n : ℕ) (first : List Caller) (played : List (Result Played E)) (callers : List Caller) (records : List Record)
    (have : HasCallers s n first) (are : ArePlayed s plan first played) (all : IsGathered played callers records) where
  abbrev ok-of : Played → Result Played E
  ok-of p = Ok p

  abbrev done : List Played
  done = all.done

  as-many : length done ≡ n
  as-many = sym (length-map done ok-of) ∙ ap length (sym all.all) ∙ are.count ∙ have.count

  each-done : (i : ℕ) (p : Played) → get_elem? done i ≡ some p → i < length done → HasDone s plan i p
  each-done i p at less =
      let count = have.count in
      let many = as-many in
      let c = elem-within first i (omega arith) in
      let is : IsPlayedBy s plan c.0 p = are.each i c.0 p c.1 (ap (λ (l : List (Result Played E)). get_elem? l i) all.all ∙ map_there ok-of done i p at) in
      let number : c.0.number ≡ i = have.numbers i c.0 c.1 in
      record { of = is.of; number = is.number ∙ number; has = subst (λ (k : ℕ). HasPlayed plan.limit k (budget_of plan.crash k) (asked_of k plan.ops) p.caller p.records.items) number is.has }

within-list : {X : Type 0} (l : List X) (i : ℕ) (x : X) → get_elem? l i ≡ some x → i < length l
within-list [] i x at = absurd (some-ne-none x (sym at))
within-list (y ∷ l) zero x at = omega arith
within-list (y ∷ l) (suc i) x at = let behind = within-list l i x at in omega arith

pub have-callers : {E : Type 0} (s : Shared) (plan : RoundPlan) (n : ℕ) (first : List Caller) (played : List (Result Played E)) (callers : List Caller) (records : List Record)
    → HasCallers s n first → ArePlayed s plan first played → IsGathered played callers records → HasCallers s n callers
have-callers s plan n first played callers records have are all =
    subst (HasCallers s n) (sym all.callers_are) (record {
      count = length-map all.done caller-in ∙ as-many s plan n first played callers records have are all;
      each = λ i c at.
          let p = map_from caller-in all.done i c at in
          subst (IsCallerOf s) p.2 (each-done s plan n first played callers records have are all i p.0 p.1 (within-list all.done i p.0 p.1)).of;
      numbers = λ i c at.
          let p = map_from caller-in all.done i c at in
          ap (λ (d : Caller). d.number) (sym p.2) ∙ (each-done s plan n first played callers records have are all i p.0 p.1 (within-list all.done i p.0 p.1)).number;
    })

-- the weight as the table was made is the core's
opening-is : (core : Index) → core.history ≡ [] → opening_weight (about_in core) ≡ weight_of core
opening-is core start = ap (λ (h : List Write). index_weight core.layout (facts_of core.layout core.words (map_of core.base) h)) (sym start)

joined-map : (P Q : Index → Type 0) (finish : Finish) → ((c : Index) → P c → Q c) → IsJoinedAnd finish P → IsJoinedAnd finish Q
joined-map P Q (Joined core) more is = more core is
joined-map P Q (CrashedIn image) more is = is

crashed-map : (P Q : Row → Type 0) (finish : Finish) → ((image : Row) → P image → Q image) → IsCrashedAnd finish P → IsCrashedAnd finish Q
crashed-map P Q (Joined core) more is = is
crashed-map P Q (CrashedIn image) more is = more image is

-- where they meet, joined or as power fails
record MeetsIn (callers : List Caller) (history : List Write) : Type 0 where
  seen : (i : ℕ) (c : Caller) → get_elem? callers i ≡ some c → Begins (seen_by c).seen history
  own : (i : ℕ) (c : Caller) → get_elem? callers i ≡ some c → placed_by i history ≡ placed_by i (seen_by c).seen
  writers : (place : ℕ) (w : Write) → slice_get history place ≡ Some w → w.caller < length callers

module _ {E : Type 0} (core : Index) (s : Shared) (plan : RoundPlan) (first : List Caller) (played : List (Result Played E)) (callers : List Caller) (records : List Record) (start : core.history ≡ [])
    (few : All (λ (a : CallerOp). a.caller < core.layout.callers) plan.ops) (opened : Opened core s first) (are : ArePlayed s plan first played) (all : IsGathered played callers records) where
  abbrev base : Map
  base = map_of core.base

  abbrev told : List (List Record)
  told = map records-in all.done

  has-done : (i : ℕ) (p : Played) → get_elem? all.done i ≡ some p → HasDone s plan i p
  has-done i p at = each-done s plan (parties_of core.layout) first played callers records opened.callers_of are all i p at (within-list all.done i p at)

  long : length all.done ≡ parties_of core.layout
  long = as-many s plan (parties_of core.layout) first played callers records opened.callers_of are all

  caller-at : (i : ℕ) (p : Played) → get_elem? all.done i ≡ some p → get_elem? callers i ≡ some p.caller
  caller-at i p at = ap (λ (l : List Caller). get_elem? l i) all.callers_are ∙ map_there caller-in all.done i p at

  about-is : (i : ℕ) (p : Played) → get_elem? all.done i ≡ some p → (seen_by p.caller).about ≡ about_in core
  about-is i p at = (has-done i p at).of.about ∙ opened.about

  told-long : length told ≡ parties_of core.layout
  told-long = length-map all.done records-in ∙ long

  records-are : records ≡ by_caller told
  records-are = all.records_are ∙ flat-told all.done

  asked : All (λ (a : CallerOp). a.caller < length told) plan.ops
  asked = All-weaker (λ (a : CallerOp). a.caller < core.layout.callers) (λ (a : CallerOp). a.caller < length told) (λ a less. let many = told-long in omega arith) plan.ops few

  weighs : opening_weight s.about ≡ weight_of core
  weighs = ap opening_weight opened.about ∙ opening-is core start

  as-callers : length callers ≡ length told
  as-callers = ap length all.callers_are ∙ length-map all.done caller-in ∙ sym (length-map all.done records-in)

  told-each : All IsToldOnceSettled records
  told-each = subst (All IsToldOnceSettled) (sym all.records_are) (all-told IsToldOnceSettled all.done (λ i p at. (has-done i p at).has.told))

  module _ (history : List Write) (meets : MeetsIn callers history) where
    stops : (i : ℕ) (rs : List Record) → get_elem? told i ≡ some rs → HasStopped base plan.limit i (asked_of i plan.ops) history rs
    stops i rs at =
        let p = map_from records-in all.done i rs at in
        let has : HasStopped base plan.limit i (asked_of i plan.ops) (seen_by p.0.caller).seen rs =
        subst (λ (l : List Record). HasStopped base plan.limit i (asked_of i plan.ops) (seen_by p.0.caller).seen l) p.2
        (subst (λ (a : About). HasStopped (map_of a.base) plan.limit i (asked_of i plan.ops) (seen_by p.0.caller).seen p.0.records.items) (about-is i p.0 p.1) (has-done i p.0 p.1).has.stopped) in
        let own : own_writes i history ≡ own_writes i (seen_by p.0.caller).seen = sym (placed-own i history) ∙ meets.own i p.0.caller (caller-at i p.0 p.1) ∙ placed-own i (seen_by p.0.caller).seen in
        record {
          replies = replies_stay base plan.limit i (asked_of i plan.ops) (seen_by p.0.caller).seen history rs has.replies (meets.seen i p.0.caller (caller-at i p.0 p.1)) own;
          once = has.once;
          unsettled = has.unsettled;
        }

    each : EachHasReplies base plan.limit plan.ops history told
    each i rs at = (stops i rs at).replies

    writers : All (λ (w : Write). w.caller < length told) history
    writers k d less =
        let below = meets.writers k (get_or history k d) (slice_get-get_or history k d less) in
        let same = as-callers in
        omega arith

    legal : IsLegalRound base (numbered plan.ops) plan.limit records history
    legal = subst (λ (l : List Record). IsLegalRound base (numbered plan.ops) plan.limit l history) (sym records-are) (replies_make_round base plan.limit plan.ops history told each writers asked)

    stand : StandByCaller records
    stand = subst StandByCaller (sym records-are) (records_stand (λ (i : ℕ). asked_of i plan.ops) told (λ i rs at. (each i rs at).calls))

    module _ (full : (i : ℕ) (c : Caller) → get_elem? callers i ≡ some c → (seen_by c).none_free ≡ true → s.about.layout.nodes * (s.about.layout.slots / 2) ≤ opening_weight s.about + added_by_all callers + puts_in_flight (map cut_of callers)) where
      abbrev rooms : List CallerRoom
      rooms = map room-of all.done

      rooms-records : by_caller (records_of_all rooms) ≡ records
      rooms-records = ap by_caller (told-all all.done) ∙ sym records-are

      added-are : added_of_all rooms ≡ added_by_all callers + puts_in_flight (map cut_of callers)
      added-are = added-told all.done ∙ ap (λ (l : List Caller). added_by_all l + puts_in_flight (map cut_of l)) (sym all.callers_are)

      knows : EachKnowsRoom core.layout.slots core.layout.nodes (weight_of core) base history rooms
      knows = record {
        knows = λ i room at.
            let p = map_from room-of all.done i room at in
            subst (λ (r : CallerRoom). KnowsRoom core.layout.slots base r.seen r.noted r.added r.records) p.2
            (subst (λ (a : About). KnowsRoom a.layout.slots (map_of a.base) (seen_by p.0.caller).seen (seen_by p.0.caller).none_free ((seen_by p.0.caller).added + put_in_flight p.0.caller.cut) p.0.records.items) (about-is i p.0 p.1)
            (has-done i p.0 p.1).has.room);
        begins = λ i room at.
            let p = map_from room-of all.done i room at in
            subst (λ (r : CallerRoom). Begins r.seen history) p.2 (meets.seen i p.0.caller (caller-at i p.0 p.1));
        paid = λ i room at noted.
            let p = map_from room-of all.done i room at in
            let half : core.layout.nodes * (core.layout.slots / 2) ≤ opening_weight s.about + added_by_all callers + puts_in_flight (map cut_of callers) =
            subst (λ (a : About). a.layout.nodes * (a.layout.slots / 2) ≤ opening_weight s.about + added_by_all callers + puts_in_flight (map cut_of callers)) opened.about
            (full i p.0.caller (caller-at i p.0 p.1) (ap (λ (r : CallerRoom). r.noted) p.2 ∙ noted)) in
            let opening = weighs in
            let sums = added-are in
            omega arith;
      }

      paid : (added_by_all callers + puts_in_flight (map cut_of callers) ≤ puts_added records) × All (FullIsPaid core.layout.slots core.layout.nodes (weight_of core + puts_added records) (len base + puts_added records)) records
      paid =
          let so = subst (λ (l : List Record). (added_of_all rooms ≤ puts_added l) × All (FullIsPaid core.layout.slots core.layout.nodes (weight_of core + puts_added l) (len base + puts_added l)) l) rooms-records
          (full_rounds_are_paid core.layout.slots core.layout.nodes (weight_of core) base (numbered plan.ops) plan.limit history rooms knows
          (subst (λ (l : List Record). IsLegalRound base (numbered plan.ops) plan.limit l history) (sym rooms-records) legal)) in
          (let few = so.0 in let sums = added-are in omega arith, so.1)

  -- ---- joined

  unbounded : plan.crash ≡ None → (i : ℕ) → budget_of plan.crash i ≡ None
  unbounded joined i = ap (λ (o : Option CrashPlan). budget_of o i) joined

  pub all-rest : plan.crash ≡ None → AreAtRest callers
  all-rest joined i c at =
      let p = map_from caller-in all.done i c (ap (λ (l : List Caller). get_elem? l i) (sym all.callers_are) ∙ at) in
      subst IsAtRest p.2 ((has-done i p.0 p.1).has.rests (unbounded joined i))

  pub round-run : (met : Index) → plan.crash ≡ None → Meeting s callers met → IsRunRound core plan records (length met.history) met
  round-run met joined meeting = record {
    legal = record { legal = legal met.history meets; answered = answered; leaves = refl };
    stand = stand met.history meets;
    replies = λ k d less. told-answered (get_or records k d) (answered k d less) (told-each k d less);
    paid = paid-so.1;
    apart = λ apart took. apart_is_in_order base plan.limit plan.ops met.history told (each met.history meets) (writers met.history meets) asked apart (subst (All (λ (r : Record). TookPlace r.reply)) records-are took);
    weight = let bound = meeting.weight in let opening = weighs in let few = paid-so.0 in omega arith;
    writes_are = refl;
    layout = meeting.layout ∙ ap (λ (a : About). a.layout) opened.about;
    generation = meeting.generation ∙ ap (λ (a : About). a.generation) opened.about;
    base = meeting.base ∙ ap (λ (a : About). a.base) opened.about;
    index = meeting.index;
    quiet = meeting.quiet;
    clock = meeting.clock;
    stamps = meeting.stamps;
  }
    where
      meets : MeetsIn callers met.history
      meets = record { seen = meeting.seen; own = meeting.own; writers = meeting.writers }

      answered : All (λ (r : Record). IsAnswered r.reply) records
      answered = subst (All (λ (r : Record). IsAnswered r.reply)) (sym all.records_are) (all-told (λ (r : Record). IsAnswered r.reply) all.done (λ i p at. (has-done i p at).has.answered (unbounded joined i)))

      told-answered : (r : Record) → IsAnswered r.reply → IsToldOnceSettled r → IsReportReply r.op r.reply
      told-answered r is told = subst (IsReportReply r.op) (answered-settled base r.op r.reply is) (told base)

      paid-so : (added_by_all callers + puts_in_flight (map cut_of callers) ≤ puts_added records) × All (FullIsPaid core.layout.slots core.layout.nodes (weight_of core + puts_added records) (len base + puts_added records)) records
      paid-so = paid met.history meets (λ i c at noted. let full = meeting.full i c at noted in omega arith)

  -- ---- ended by a crash

  pub crash-run : (crash : CrashPlan) (crashed : Crashed) → plan.crash ≡ Some crash → CrashMeeting s callers crashed → IsCrashOf s callers crash.seed crashed.image → IsRunCrash core plan crash records (length (placed_writes records)) crashed.image
  crash-run crash crashed ended meeting seeded = record {
    history = meeting.history;
    legal = subst (λ (l : List Record). IsStoppedRound base (numbered plan.ops) plan.limit crash.budgets l meeting.history) (sym records-are)
        (stops_make_round base plan.limit crash.budgets plan.ops meeting.history told (record { stopped = stops meeting.history meets; within = within }) (writers meeting.history meets) asked);
    stand = stand meeting.history meets;
    replies = told-each;
    paid = paid-so.1;
    writes_are = sym (length_permutation (placed_writes records) (enumerate_from 0 meeting.history) (legal meeting.history meets).by_place) ∙ length-enumerate_from 0 meeting.history;
    leaves = record {
      left = index_of s.about seeded.words (map state_of callers) seeded.history;
      index = seeded.index;
      layout = ap (λ (a : About). a.layout) opened.about;
      generation = ap (λ (a : About). a.generation) opened.about;
      base = ap (λ (a : About). a.base) opened.about;
      leaves = seeded.leaves;
    };
    layout = meeting.layout ∙ ap (λ (a : About). a.layout) opened.about;
    generation = meeting.generation ∙ ap (λ (a : About). a.generation) opened.about;
    sound = meeting.sound;
    end = meeting.end;
    keeps = meeting.keeps;
    ends = subst (λ (l : List Record). IsCrashEnd (after_all base meeting.history) (changes_cut l) meeting.end) (sym records-are)
        (stops_end_so (after_all base meeting.history) (map cuts-in all.done) told meeting.end (omega (arith, length-map all.done cuts-in, length-map all.done records-in)) among
        (subst (λ (l : List Change). IsCrashEnd (after_all base meeting.history) l meeting.end) in-flight
        (subst (λ (a : About). IsCrashEnd (after_all (map_of a.base) meeting.history) (changes_in_flight crashed.cuts.items) meeting.end) opened.about meeting.ends)));
    weight = let bound = meeting.weighs in let opening = weighs in let few = paid-so.0 in let cuts = cuts-same in omega arith;
  }
    where
      meets : MeetsIn callers meeting.history
      meets = record { seen = meeting.seen; own = meeting.own; writers = meeting.writers }

      cuts-same : puts_in_flight crashed.cuts.items ≡ puts_in_flight (map cut_of callers)
      cuts-same = ap puts_in_flight meeting.cuts

      paid-so : (added_by_all callers + puts_in_flight (map cut_of callers) ≤ puts_added records) × All (FullIsPaid core.layout.slots core.layout.nodes (weight_of core + puts_added records) (len base + puts_added records)) records
      paid-so = paid meeting.history meets (λ i c at noted. let full = meeting.full i c at noted in let cuts = cuts-same in omega arith)

      within : (i most : ℕ) (rs : List Record) → get_elem? told i ≡ some rs → slice_get crash.budgets i ≡ Some most → IsWithin most rs
      within i most rs at is =
          let p = map_from records-in all.done i rs at in
          let budget : budget_of plan.crash i ≡ Some most = ap (λ (o : Option CrashPlan). budget_of o i) ended ∙ ap Some (get_or_from_slice_get crash.budgets i most 0 is) in
          subst (IsWithin most) p.2 ((has-done i p.0 p.1).has.within most budget)

      among : (i : ℕ) (changes : List Change) (rs : List Record) → get_elem? (map cuts-in all.done) i ≡ some changes → get_elem? told i ≡ some rs → AreAmong changes (changes_cut rs)
      among i changes rs at_cuts at_told =
          let p = map_from cuts-in all.done i changes at_cuts in
          let q = map_from records-in all.done i rs at_told in
          let one : p.0 ≡ q.0 = some-injective p.0 q.0 (sym p.1 ∙ q.1) in
          subst (λ (l : List Change). AreAmong l (changes_cut rs)) (ap cuts-in (sym one) ∙ p.2) (subst (λ (l : List Record). AreAmong (cuts-in q.0) (changes_cut l)) q.2 (has-done i q.0 q.1).has.cut)

      in-flight : changes_in_flight crashed.cuts.items ≡ flat_map (λ (changes : List Change). changes) (map cuts-in all.done)
      in-flight = ap changes_in_flight meeting.cuts ∙ ap (λ (l : List Caller). changes_in_flight (map cut_of l)) all.callers_are ∙ cuts-told all.done

  -- ---- the round

  pub joins : (round : Round) → plan.crash ≡ None → HasMet s callers records round → IsRun core plan round
  joins round joined met =
      subst (λ (o : Option CrashPlan). EndsAs o core plan round) (sym joined)
      (joined-map (λ (c : Index). Meeting s callers c × (round.writes ≡ length c.history)) (λ (c : Index). IsRunRound core plan round.records round.writes c) round.finish
      (λ c is.
      subst (λ (n : ℕ). IsRunRound core plan round.records n c) (sym is.1)
      (subst (λ (l : List Record). IsRunRound core plan l (length c.history) c) (sym met.records_are) (round-run c joined is.0))) met.met)

  pub crashes : (round : Round) (crash : CrashPlan) → plan.crash ≡ Some crash → HasEndedByCrash s callers records crash.seed round → IsRun core plan round
  crashes round crash ended left =
      subst (λ (o : Option CrashPlan). EndsAs o core plan round) (sym ended)
      (crashed-map (λ (image : Row). (crashed : Crashed) × (crashed.image ≡ image) × CrashMeeting s callers crashed × IsCrashOf s callers crash.seed crashed.image) (λ (image : Row). IsRunCrash core plan crash round.records round.writes image) round.finish
      (λ image is.
      subst (λ (n : ℕ). IsRunCrash core plan crash round.records n image) (sym (left.writes_are ∙ placed-counted records))
      (subst (λ (l : List Record). IsRunCrash core plan crash l (length (placed_writes records)) image) (sym left.records_are)
      (subst (IsRunCrash core plan crash records (length (placed_writes records))) is.1 (crash-run crash is.0 ended is.2 is.3)))) left.left)
