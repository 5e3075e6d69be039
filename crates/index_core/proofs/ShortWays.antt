-- What is done to an index between lone calls keeps its ways short.
use Rattle.std.proofs.Common.{◌≡◌, ℕ, slice_index, arith}
use Rattle.std.proofs.lemmas.List.{get_or-set_other}
use Rattle.pm_words.specs.Locations.{Location, Clock, Updater, Volatile, Mark, Cached, Durable, HasLocation, address_of, at, cached_address, durable_address}
use Rattle.pm_words.specs.Rows.{evicted}
use Rattle.pm_words.proofs.Apart.{at-set_other}
use Rattle.index_law.proofs.Twins.{evict_cached}
use Rattle.lone_hops_law.specs.Short.{IsLookedAt}
use Rattle.lone_hops_law.proofs.Short.{short_stays_alike}
use Rattle.index_core.specs.Crashes.{evicted_index}
use Rattle.index_core.specs.Indexes.{Index, world}
use Rattle.index_core.specs.Lone.{HasShortWays}
use Rattle.index_core.specs.Rounds.{round_index}

pub evict_short : (s : Index) (word : ℕ) → HasShortWays s → HasShortWays (evicted_index s word)
evict_short s word = short_stays_alike (world s) (evicted s.layout s.words word) alike
  where
    alike : (p : Location) → HasLocation s.layout p → IsLookedAt p → at s.layout (evicted s.layout s.words word) p ≡ at s.layout s.words p
    alike (Cached w) has looked = evict_cached s.layout s.words word w has
    alike (Volatile n offset) has looked =
        let here = has.0 in
        let small = has.1 in
        get_or-set_other s.words (durable_address s.layout word) (address_of s.layout (Volatile n offset)) (slice_index s.words (cached_address s.layout word)) 0 (λ e. absurd (omega (arith, e)))
    alike Clock has looked = absurd looked
    alike Updater has looked = absurd looked
    alike (Mark kind k) has looked = absurd looked
    alike (Durable w) has looked = absurd looked

pub round_short : (s : Index) (spare : ℕ) → HasShortWays s → HasShortWays (round_index s spare)
round_short s spare = short_stays_alike (world s) (round_index s spare).words alike
  where
    alike : (p : Location) → HasLocation s.layout p → IsLookedAt p → at s.layout (round_index s spare).words p ≡ at s.layout s.words p
    alike (Cached w) has looked = at-set_other s.layout s.words Clock (Cached w) 0 tt has (λ e. cc)
    alike (Volatile n offset) has looked = at-set_other s.layout s.words Clock (Volatile n offset) 0 tt has (λ e. cc)
    alike Clock has looked = absurd looked
    alike Updater has looked = absurd looked
    alike (Mark kind k) has looked = absurd looked
    alike (Durable w) has looked = absurd looked
