-- The next round of an index in which no call is in flight.
use Rattle.std.specs.Prelude.{◌≡◌, ℕ, ◌<◌, ◌^◌, List, [], length}
use Rattle.pm_words.specs.declared.action.Action.TheVariants.{Store}
use Rattle.pm_words.specs.Rows.{acted, durable_row}
use Rattle.cat_history.specs.Replays.{pairs_of}
use Rattle.call_stages.specs.Kinds.{clock_address}
use Rattle.index_law.specs.Anchors.{anchors_in, members_most}
use Rattle.index_core.specs.PartyStates.{idle_states}
use Rattle.index_core.specs.Indexes.{Index, IsIndex, map_of_index, parties_of, world}
use Rattle.index_core.specs.Lone.{HasSameList, IsQuiet, locks_left}
use Rattle.index_core.specs.Schedules.{BegunCall, AreCounted}
use Rattle.index_core.specs.Weights.{weight_of}

-- The index as its next round begins: the base is its map, no write is placed, the clock is 0, and no party has made a
-- call. All other words are as they were.
abbrev pub round_index : Index → ℕ → Index
round_index s spare = record s {
  words = acted s.layout s.words (Store (clock_address s.layout) 0);
  states = idle_states (parties_of s.layout);
  base = pairs_of (map_of_index s);
  history = [];
  spare = spare;
}

-- The next round begins.
pub record BeginsRound (old new : Index) : Type 0 where
  pub is : new ≡ round_index old new.spare
  pub map : map_of_index new ≡ map_of_index old
  pub list : HasSameList old new
  pub shape : anchors_in (world new) ≡ anchors_in (world old)
  pub most : members_most (world new) ≡ members_most (world old)  -- as many nodes as before may be listed
  pub locks : locks_left new ≡ locks_left old
  pub weighs : weight_of new ≡ weight_of old
  -- a crash leaves the same image as before, which weighs the same
  pub durable : durable_row new.layout new.words ≡ durable_row old.layout old.words

-- With it a schedule may begin.
abbrev pub RoundBegins : Type 0
RoundBegins = (old new : Index) → IsIndex old → IsQuiet old → BeginsRound old new →
    IsIndex new × IsQuiet new × (new.history ≡ []) × ((begun : List BegunCall) → length begun < 2 ^ 64 →
    AreCounted new begun)
