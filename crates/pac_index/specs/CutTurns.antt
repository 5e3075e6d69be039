-- Turns of the updater that were cut off, and how far they are.
use Rattle.std.specs.Prelude.{◌≡◌, ◌⊎◌, ℕ, [], ◌∷◌, Result, Some}
use Rattle.epochs.specs.declared.answers.Advance.{Advance}
use Rattle.epochs.specs.declared.rule.PinMember.{PinMember}
use Rattle.epochs.specs.Kept.{first_epoch}
use Rattle.pm_words.specs.declared.machine.Turn.TheVariants.{Go}
use Rattle.pm_words.specs.Codes.{untaken_lock}
use Rattle.updater.specs.declared.making.MakeTurn.{MakeTurn}
use Rattle.updater.specs.Makings.{making_turned}
use Rattle.pac_index.specs.declared.caller.Caller.{Caller}
use Rattle.pac_index.specs.declared.rule.Member.{Member}
use Rattle.pac_index.specs.Callers.{pins_of, seen_by}
use Rattle.pac_index.specs.Kept.{PlacesNone}
use Rattle.pac_index.specs.Calls.{run_of}
use Rattle.pac_index.specs.Ends.{AtLast}
use Rattle.pac_index.specs.Turns.{FoundHeld, HasLock, IsDated, turn_in}

-- A turn at this epoch is in flight, under the updater lock: its machine was told the numbers that its steps gave, and
-- goes on so. It has placed no write and counted no call.
pub record TurnStopsAt (epoch : ℕ) (old new : Member) : Type 0 where
  pub making : MakeTurn
  pub leaves : PlacesNone old new
  pub state : new.state ≡ record old.state { turn = Some making }
  pub ran : run_of making_turned (Go (turn_in old epoch)) new.told ≡ Go making
  pub lock : HasLock new.told (Go making)
  pub none_free : new.none_free ≡ old.none_free

-- Of its steps only the first was made, which took the updater lock. So it has no epoch yet, and its party has made no
-- step on the epoch.
pub record StopsUndated (old : Member) (pins : PinMember) (new : Member) (pins_now : PinMember) : Type 0 where
  pub stops : TurnStopsAt first_epoch old new
  pub only : new.told ≡ untaken_lock ∷ []
  pub pins_are : pins_now ≡ pins

-- It has its epoch, which its party loaded.
pub record StopsDated (parties : ℕ) (old : Member) (pins : PinMember) (new : Member) (pins_now : PinMember) :
    Type 0 where
  pub epoch : ℕ
  pub advanced : Result ℕ Advance
  pub stops : TurnStopsAt epoch old new
  pub dated : IsDated parties pins epoch advanced pins_now

-- A turn was cut off behind its first step, or behind a later one.
abbrev pub TurnStops : ℕ → Member → PinMember → Member → PinMember → Type 0
TurnStops parties old pins new pins_now = StopsUndated old pins new pins_now ⊎ StopsDated parties old pins new pins_now

-- Or before its first step.
abbrev pub TurnCutsOff : ℕ → Member → PinMember → Member → PinMember → Type 0
TurnCutsOff parties old pins new pins_now = ((new ≡ old) × (pins_now ≡ pins)) ⊎ TurnStops parties old pins new pins_now

-- A try of a turn was cut off. Its caller has no step left: as the turn began, so that nothing has changed, or behind a
-- step. Then the turn has the updater lock.
pub record IsCutTurnTry (parties : ℕ) (old new : Caller) : Type 0 where
  pub spent : new.left ≡ Some 0
  pub cut : (new ≡ old) ⊎ TurnStops parties (seen_by old) (pins_of old) (seen_by new) (pins_of new)

-- A turn was cut off that is tried again while it finds the updater lock taken. Its caller has no step left: as the
-- turn began, so that nothing has changed, or behind tries that found the lock taken. Until its last try its party made
-- no step on the epoch.
pub record IsCutTurn (parties : ℕ) (old new : Caller) : Type 0 where
  pub spent : new.left ≡ Some 0
  pub cut : (new ≡ old) ⊎ AtLast FoundHeld (λ before after. TurnCutsOff parties before (pins_of old) after
      (pins_of new)) (seen_by old) (seen_by new)
