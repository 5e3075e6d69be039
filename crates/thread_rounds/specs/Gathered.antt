-- What the workers of all callers come to, and how their round ends.
use Rattle.std.specs.Prelude.{◌≡◌, ℕ, List, count_by, flat_map, length, map, Ok}
use Rattle.std.specs.Prelude.{Result}
use mathlib.Core.Option.{some}
use lib.ListN.{get_elem?}
use Rattle.std.specs.Option.{is_some}
use Rattle.cat_history.specs.Records.{placed_write}
use Rattle.cat_history.specs.declared.plan.RoundPlan.{RoundPlan}
use Rattle.cat_history.specs.declared.record.Record.{Record}
use Rattle.pac_index.specs.declared.caller.Caller.{Caller}
use Rattle.pac_index.specs.declared.crashing.Crashed.{Crashed}
use Rattle.pac_index.specs.declared.shared.Shared.{Shared}
use Rattle.pac_index.specs.Callers.{Meeting}
use Rattle.pac_index.specs.CrashMeetings.{CrashMeeting, IsCrashOf}
use Rattle.thread_rounds.specs.declared.round.Round.{Round}
use Rattle.thread_rounds.specs.declared.worker.Played.{Played}
use Rattle.thread_rounds.specs.Played.{IsPlayedBy}
use Rattle.thread_rounds.specs.RunRounds.{IsCrashedAnd, IsJoinedAnd}

-- Each caller's worker has come to an end, at the place of its caller.
pub record ArePlayed {E : Type 0} (s : Shared) (plan : RoundPlan) (callers : List Caller)
    (played : List (Result Played E)) : Type 0 where
  pub count : length played ≡ length callers
  pub each : (i : ℕ) (c : Caller) (p : Played) → get_elem? callers i ≡ some c → get_elem? played i ≡ some (Ok p) →
      IsPlayedBy s plan c p

-- None of them ran out of memory, and these are the callers and the records of all.
pub record IsGathered {E : Type 0} (played : List (Result Played E)) (callers : List Caller) (records : List Record) :
    Type 0 where
  pub done : List Played
  pub all : played ≡ map Ok done
  pub callers_are : callers ≡ map (λ (p : Played). p.caller) done
  pub records_are : records ≡ flat_map (λ (p : Played). p.records.items) done

-- The callers were joined, and the round has these records, and as many writes as the core in which they met.
pub record HasMet (s : Shared) (callers : List Caller) (records : List Record) (round : Round) : Type 0 where
  pub records_are : round.records ≡ records
  pub met : IsJoinedAnd round.finish (λ core. Meeting s callers core × (round.writes ≡ length core.history))

-- A crash ended the round, which has these records, and as many writes as of them tell their place. The image is what
-- it left, by this seed.
pub record HasEndedByCrash (s : Shared) (callers : List Caller) (records : List Record) (seed : ℕ) (round : Round) :
    Type 0 where
  pub records_are : round.records ≡ records
  pub writes_are : round.writes ≡ count_by (λ (r : Record). is_some (placed_write r)) records
  pub left : IsCrashedAnd round.finish (λ image. (crashed : Crashed) × (crashed.image ≡ image) ×
      CrashMeeting s callers crashed × IsCrashOf s callers seed crashed.image)
