-- The index once its map is the base of its history: what is known of it stays.
use Rattle.std.proofs.Common.{◌≡◌, ℕ, ◌≤◌, length, ap, arith, sym, subst}
use Rattle.pm_words.specs.Locations.{Clock, Volatile}
use Rattle.pm_words.specs.Offsets.{stamp_offset}
use Rattle.pm_words.proofs.Apart.{at-set_other}
use Rattle.recovery.specs.lone_updater_law.specs.LoneTurns.{stamp_in}
use Rattle.recovery.specs.updater_row_law.proofs.RowColumns.{column-same}
use Rattle.recovery.specs.index_core.specs.Fulls.{HasLowStamps}
use Rattle.recovery.specs.index_core.specs.Indexes.{Index, world}
use Rattle.recovery.specs.index_core.specs.Rounds.{BeginsRound, round_index}
use Rattle.core_rounds.specs.CoreMaps.{writes_left_of}

module _ (s new : Index) (begins : BeginsRound s new) where
  -- stamps stand in words of their own
  same_stamps : stamp_in (world (round_index s 0)) ≡ stamp_in (world s)
  same_stamps = column-same s.layout s.words (round_index s 0).words s.layout.nodes (λ n. Volatile n stamp_offset)
      (λ n here. at-set_other s.layout s.words Clock (Volatile n stamp_offset) 0 tt (here, omega arith) (λ e. cc))

  pub shortened_low : HasLowStamps s → HasLowStamps new
  shortened_low low = subst HasLowStamps (sym begins.is)
      (λ n here. subst (λ (stamps : ℕ → ℕ). stamps n ≤ 1) (sym same_stamps) (low n here))

  -- there is as much room for writes as before, and more that the clock lets have a place
  pub shortened_writes : new.spare ≡ s.spare → writes_left_of s ≤ writes_left_of new
  shortened_writes spare =
      let none = ap (λ (i : Index). length i.history) begins.is in
      omega (arith, spare, none)
