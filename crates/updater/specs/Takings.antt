-- The exchange of the updater lock.
use Rattle.std.specs.Prelude.{◌≡◌, ◌≢◌, ℕ, ◌^◌, ◌<◌, ◌==◌, if◌then◌else◌}
use Rattle.pm_words.specs.Codes.{untaken_lock, taken_lock}
use Rattle.pm_words.specs.declared.layout.Layout.{Layout}
use Rattle.pm_words.specs.declared.action.Action.{Action}
use Rattle.pm_words.specs.declared.action.Action.TheVariants.{Exchange}
use Rattle.pm_words.specs.declared.machine.Turn.{Turn}
use Rattle.pm_words.specs.declared.machine.Turn.TheVariants.{Done}
use Rattle.pm_words.specs.Layouts.{IsLayout}
use Rattle.pm_words.specs.Locations.{Updater, address_of}
use Rattle.updater.specs.declared.taking.Took.{Took}
use Rattle.updater.specs.declared.taking.Took.TheVariants.{Taken, Held}
use Rattle.updater.specs.declared.taking.TakeTurn.{TakeTurn}

-- the address of the updater lock
abbrev pub updater_address : Layout → ℕ
updater_address l = address_of l Updater

abbrev pub taking_asks : Layout → Action
taking_asks l = Exchange (updater_address l) untaken_lock taken_lock

-- what it answers where it found this word
abbrev pub took_of : ℕ → Took
took_of word = if word == untaken_lock then Taken else Held word

-- the machine that makes that exchange, and no other action
abbrev pub take_from : Layout → TakeTurn
take_from layout = record { layout = layout }

abbrev pub take_asks : TakeTurn → Action
take_asks take = taking_asks take.layout

abbrev pub take_turned : TakeTurn → ℕ → Turn TakeTurn Took
take_turned take got = Done (took_of got)

-- what its fields keep
pub record IsTakeTurn (take : TakeTurn) : Type 0 where
  pub layout : IsLayout take.layout

abbrev pub take_takes : TakeTurn → ℕ → Type 0
take_takes take got = IsTakeTurn take × (got < 2 ^ 64)

abbrev pub take_left : TakeTurn → ℕ
take_left take = 1

-- What it answers, by the word that its exchange found: that the lock is taken, exactly where no party had it; else the
-- word, which is another.
abbrev pub TellsFound : ℕ → Took → Type 0
TellsFound found Taken = found ≡ untaken_lock
TellsFound found (Held word) = (word ≡ found) × (found ≢ untaken_lock)

-- So it is of each attempt, whatever it is told.
abbrev pub TakingsHeed : Type 0
TakingsHeed = (found : ℕ) → TellsFound found (took_of found)
