-- Another round begins where nothing is in flight.
use Rattle.std.proofs.Common.{◌≡◌, ℕ, ◌<◌, [], ⊎_elim, sym, ap, ◌∙◌, subst, arith}
use Rattle.pm_words.specs.declared.action.Action.TheVariants.{Store}
use Rattle.pm_words.specs.Locations.{Clock, Cached}
use Rattle.pm_words.specs.Rows.{CanAct}
use Rattle.pm_words.proofs.Apart.{at-set_same, at-set_other, addresses_within}
use Rattle.pm_words.proofs.Kept.{acted_row}
use Rattle.version_lock.specs.Versions.{IsFree}
use Rattle.cat_history.specs.Maps.{Map}
use Rattle.call_stages.specs.Kinds.{clock_address}
use Rattle.index_law.specs.Facts.{Facts, facts_of, map_now, IsListed}
use Rattle.index_law.specs.Worlds.{facts}
use Rattle.index_law.specs.Lawful.{IsList, AreLive, IsSettled, AreKnown}
use Rattle.index_law.specs.Laws.{NextRoundIsAtRest, next_round}
use Rattle.index_law.proofs.Actions.{clock_outside}
use Rattle.index_law.proofs.Rows.{facts-elsewhere}
use Rattle.index_law.proofs.Twins.{IsNearer, nearer, store_closer, closer_spot, closer_versions, closer_front, cached_front}

pub round_law : NextRoundIsAtRest
round_law w parties rest idle begun =
    let l = w.layout in
    let base : Map = map_now (facts w) in
    let same : facts (next_round w parties) ≡ facts_of l w.words base [] = facts-elsewhere l w.words base [] Clock 0 tt (λ n offset e. cc, λ n e. cc) in
    let closer : IsNearer l w.words (next_round w parties).words = nearer l w.words (next_round w parties).words (store_closer l w.words Clock 0 tt (λ v e. cc)) in
    let can : CanAct l w.words (Store (clock_address l) 0) = ((addresses_within l Clock tt, clock_outside l), omega arith) in
    record {
      named = rest.named;
      list = subst (IsList l) (sym same) (record { chain = rest.list.chain; lowest = rest.list.lowest; rise = rest.list.rise; within = rest.list.within; named = rest.list.named });
      live = subst (AreLive l w.generation) (sym same) (record { live = rest.live.live; listed = rest.live.listed; leads = rest.live.leads; three = rest.live.three });
      run = rest.run;
      row = acted_row l w.words (Store (clock_address l) 0) rest.row can;
      clock = at-set_same l w.words Clock 0 rest.row.whole tt;
      versions = subst (AreKnown l w.generation) (sym same) rest.versions;
      free = subst (λ (f : Facts). (n : ℕ) → n < l.nodes → IsFree (f.version n) w.generation) (sym same) rest.free;
      settled = subst (λ (f : Facts). (n : ℕ) → IsListed f n → IsSettled l f n) (sym same) (λ n is. record { means = (rest.settled n is).means; stays = (rest.settled n is).stays });
      durable = λ n here offset. ⊎_elim
          (λ stays. stays ∙ rest.durable n here offset)
          (λ is. is)
          (closer_spot l w.words (next_round w parties).words closer n offset)
          ∙ sym (ap (λ (f : Facts). f.now n offset) same);
      durable_versions = closer_versions l w.words (next_round w parties).words w.base w.history closer w.generation rest.versions rest.durable_versions;
      front = cached_front l w.generation w.words (next_round w parties).words
          (λ v has other. at-set_other l w.words Clock (Cached v) 0 tt has (λ e. cc)) rest.front;
      durable_front = closer_front l w.generation w.words (next_round w parties).words closer rest.front rest.durable_front;
      idle = idle;
      begun = begun;
    }
