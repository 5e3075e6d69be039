-- That a change stays one, and ends, whatever it is told.
use Rattle.std.specs.Prelude.{◌≡◌, ℕ, ◌<◌}
use Rattle.pm_words.specs.declared.machine.Turn.{Turn}
use Rattle.pm_words.specs.declared.machine.Turn.TheVariants.{Go, Done}
use Rattle.tree_update.specs.declared.change.Change.{Change}
use Rattle.tree_update.specs.declared.change.Ended.{Ended}
use Rattle.tree_update.specs.declared.set.Set.{Set}
use Rattle.tree_update.specs.declared.set.Unset.{Unset}
use Rattle.tree_update.specs.Changes.{change_turned, IsChange, change_takes, change_left}
use Rattle.tree_update.specs.Sets.{set_turned, set_takes, IsSet, unset_turned, unset_takes, IsUnset}

-- It stays sound, of the same key and node word in the same layout, and has fewer actions left.
pub record ChangeGoes (change next : Change) (left : ℕ) : Type 0 where
  pub sound : IsChange next
  pub layout_is : next.layout ≡ change.layout
  pub key_is : next.key ≡ change.key
  pub word_is : next.word ≡ change.word
  pub fewer : change_left next < left

abbrev pub ChangeAfter : Change → ℕ → Turn Change Ended → Type 0
ChangeAfter change left (Go next) = ChangeGoes change next left
ChangeAfter change left (Done ended) = Unit {0}

abbrev pub ChangesStay : Type 0
ChangesStay = (change : Change) (got : ℕ) → change_takes change got →
    ChangeAfter change (change_left change) (change_turned change got)

-- So do sets and unsets.
abbrev pub SetAfter : Set → Turn Set Ended → Type 0
SetAfter set (Go next) = IsSet next × ChangeGoes set.change next.change (change_left set.change)
SetAfter set (Done ended) = Unit {0}

abbrev pub SetsStay : Type 0
SetsStay = (set : Set) (got : ℕ) → set_takes set got → SetAfter set (set_turned set got)

abbrev pub UnsetAfter : Unset → Turn Unset Ended → Type 0
UnsetAfter unset (Go next) = IsUnset next × ChangeGoes unset.change next.change (change_left unset.change)
UnsetAfter unset (Done ended) = Unit {0}

abbrev pub UnsetsStay : Type 0
UnsetsStay = (unset : Unset) (got : ℕ) → unset_takes unset got → UnsetAfter unset (unset_turned unset got)
