-- A turn of the updater that is begun and stepped with nothing else in flight.
use Rattle.std.specs.Prelude.{◌≡◌, ℕ, ◌≤◌, ◌<◌, ◌^◌, Some, None}
use Rattle.updater.specs.declared.making.TurnReply.{TurnReply}
use Rattle.updater.specs.declared.making.TurnReply.TheVariants as reply
use Rattle.updater.specs.declared.terms.Turned.{Turned}
use Rattle.index_core.specs.Indexes.{Index, IsIndex}
use Rattle.index_core.specs.Lone.{HasShortWays, IsQuiet}
use Rattle.index_core.specs.Turns.{StartsTurn, TurnSteps, TurnsAlone}

-- From this index on the party has begun a turn with this stamp and release, and nothing was done since but its steps.
pub data TurnsSince (old : Index) (party stamp release : ℕ) : Index → Type 0 where
  begins : {new : Index} → StartsTurn old party stamp release new → IsIndex new → TurnsSince old party stamp release new
  goes_on : {s new : Index} → TurnsSince old party stamp release s → TurnSteps s party new None → IsIndex new →
      TurnsSince old party stamp release new

-- It was answered and leaves what a whole turn is answered and leaves, and ways are short.
pub record HasTurned (old : Index) (stamp release : ℕ) (told : TurnReply) (new : Index) : Type 0 where
  pub answer : Turned
  pub is : told ≡ reply.Turned answer
  pub turns : TurnsAlone old stamp release answer new
  pub short : HasShortWays new
  pub quiet : IsQuiet new

abbrev pub SteppedTurnIsWhole : Type 0
SteppedTurnIsWhole = (old s new : Index) (party stamp release : ℕ) (told : TurnReply) → IsIndex old → IsQuiet old →
    1 ≤ stamp → stamp < 2 ^ 64 → TurnsSince old party stamp release s → TurnSteps s party new (Some told) →
    IsIndex new → HasTurned old stamp release told new
