-- What the worker of a caller comes to.
use Rattle.std.specs.Prelude.{◌≡◌, ℕ, ◌+◌, List, [], All, Option, Some, None, get_or}
use Rattle.cat_history.specs.CrashRounds.{changes_cut}
use Rattle.cat_history.specs.Maps.{map_of}
use Rattle.cat_history.specs.Rounds.{IsAnswered}
use Rattle.cat_history.specs.declared.op.Op.{Op}
use Rattle.cat_history.specs.declared.plan.CrashPlan.{CrashPlan}
use Rattle.cat_history.specs.declared.plan.RoundPlan.{RoundPlan}
use Rattle.cat_history.specs.declared.record.Record.{Record}
use Rattle.stopped_rounds.specs.LoneStops.{IsWithin}
use Rattle.stopped_rounds.specs.MoreCuts.{AreAmong}
use Rattle.stopped_rounds.specs.Replies.{IsTold}
use Rattle.caller_rounds.specs.CallerRounds.{KnowsRoom, asked_of}
use Rattle.caller_rounds.specs.Stopping.{HasStopped}
use Rattle.pac_index.specs.declared.caller.Caller.{Caller}
use Rattle.pac_index.specs.declared.shared.Shared.{Shared}
use Rattle.pac_index.specs.Callers.{IsAtRest, IsCallerOf, seen_by}
use Rattle.pac_index.specs.CrashMeetings.{change_in_flight, put_in_flight}
use Rattle.thread_rounds.specs.declared.worker.Played.{Played}

-- It has made no call yet, and has no bound on its steps.
pub record IsNew (c : Caller) : Type 0 where
  pub seen : (seen_by c).seen ≡ []
  pub index : c.index ≡ 0
  pub added : (seen_by c).added ≡ 0
  pub rests : IsAtRest c
  pub left : c.left ≡ None

-- How many steps the caller of this number may make: any number of them where no crash ends the round.
abbrev pub budget_of : Option CrashPlan → ℕ → Option ℕ
budget_of None number = None
budget_of (Some crash) number = Some (get_or crash.budgets number 0)

-- A report may have the reply, once it is settled by whatever map is found.
abbrev pub IsToldOnceSettled : Record → Type 0
IsToldOnceSettled r = IsTold r.op r.reply

-- A caller of this number was asked these, and came so far with these calls within this budget: its view says that they
-- came to their replies so, and a report may have each of these. What it tells as cut off the records tell. Where it
-- had no bound each call was answered, and the caller is at rest.
pub record HasPlayed (limit caller : ℕ) (budget : Option ℕ) (asked : List Op) (c : Caller) (records : List Record) :
    Type 0 where
  pub stopped : HasStopped (map_of (seen_by c).about.base) limit caller asked (seen_by c).seen records
  pub within : (most : ℕ) → budget ≡ Some most → IsWithin most records
  pub room : KnowsRoom (seen_by c).about.layout.slots (map_of (seen_by c).about.base) (seen_by c).seen
      (seen_by c).none_free ((seen_by c).added + put_in_flight c.cut) records
  pub told : All IsToldOnceSettled records
  pub cut : AreAmong (change_in_flight c.cut) (changes_cut records)
  pub answered : budget ≡ None → All (λ r. IsAnswered r.reply) records
  pub rests : budget ≡ None → IsAtRest c

-- This is what came of a caller's worker: it has come so far with its calls of the plan.
pub record IsPlayedBy (s : Shared) (plan : RoundPlan) (caller : Caller) (played : Played) : Type 0 where
  pub of : IsCallerOf s played.caller
  pub number : played.caller.number ≡ caller.number
  pub has : HasPlayed plan.limit caller.number (budget_of plan.crash caller.number) (asked_of caller.number plan.ops)
      played.caller played.records.items
