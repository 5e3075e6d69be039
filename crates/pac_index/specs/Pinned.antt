-- What a try has of the epoch and the pins beside the index.
use Rattle.std.specs.Prelude.{◌≡◌, ◌⊎◌, ℕ}
use Rattle.pm_words.specs.declared.again.Again.TheVariants as again
use Rattle.call_stages.specs.declared.once.Once.{Once}
use Rattle.call_stages.specs.declared.once.Once.TheVariants as once
use Rattle.epochs.specs.declared.answers.Pin.{Pin}
use Rattle.epochs.specs.declared.rule.PinMember.{PinMember}
use Rattle.epochs.specs.Answers.{IsPinned, IsUnpinnedAgain, LetsGo}
use Rattle.pac_index.specs.declared.rule.Member.{Member}
use Rattle.pac_index.specs.declared.caller.Caller.{Caller}
use Rattle.pac_index.specs.Callers.{seen_by, pins_of}

-- It took a pin first, and gave it back at last.
pub record WasPinned (old new : Caller) : Type 0 where
  pub pin : Pin
  pub held : PinMember
  pub takes : IsPinned (pins_of old) held pin
  pub gives : LetsGo held (pins_of new)

-- It was turned back by the epoch, of which its two loads differ, and has touched nothing of the index.
pub record PinMoved {T : Type 0} (old : Caller) (answer : Once T) (new : Caller) : Type 0 where
  pub first : ℕ
  pub second : ℕ
  pub is : answer ≡ once.Again (again.Epoch first second)
  pub loads : IsUnpinnedAgain (pins_of old) (pins_of new) (record { first = first; second = second })
  pub same : seen_by new ≡ seen_by old

-- A try with a pin, of which this holds, or one that had none.
abbrev pub Pinned : {T : Type 0} → (Member → Once T → Member → Type 0) → Caller → Once T → Caller → Type 0
Pinned holds old answer new = (holds (seen_by old) answer (seen_by new) × WasPinned old new) ⊎ PinMoved old answer new
