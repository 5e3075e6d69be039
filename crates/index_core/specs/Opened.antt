-- An index as it is made of its words, with no call and no turn in flight.
use Rattle.std.specs.Prelude.{◌≡◌, ℕ, List, []}
use Rattle.cat_key.specs.declared.Pair.{Pair}
use Rattle.cat_history.specs.Maps.{map_of}
use Rattle.cat_history.specs.declared.op.Write.{Write}
use Rattle.pm_words.specs.declared.layout.Layout.{Layout}
use Rattle.pm_words.specs.Images.{Row}
use Rattle.pm_words.specs.Locations.{Header, Cached, at}
use Rattle.pm_words.specs.Offsets.{generation_offset}
use Rattle.version_lock.specs.declared.TheConstants.{LAST_COUNT}
use Rattle.data_node.specs.Lists.{ListNode}
use Rattle.index_law.specs.Anchors.{anchors_in, anchors_of, gone_nodes}
use Rattle.index_law.specs.Worlds.{facts}
use Rattle.index_opening_law.specs.image_recovery_law.specs.Columns.{Columns}
use Rattle.index_opening_law.specs.Openings.{IsOpening}
use Rattle.index_core.specs.PartyStates.{idle_states}
use Rattle.index_core.specs.Indexes.{Index, IsIndex, parties_of, world}
use Rattle.index_core.specs.Fulls.{HasLowStamps}
use Rattle.index_core.specs.Lone.{IsQuiet, locks_left}

-- The index on these words, in the run of their header, with this base and this history, of which no party has made a
-- call yet.
abbrev pub opened_index : Row → List Pair → List Write → Index
opened_index row base history = record {
  layout = row.layout;
  generation = at row.layout row.words (Cached (Header generation_offset));
  words = row.words;
  states = idle_states (parties_of row.layout);
  base = base;
  history = history;
  spare = 0;
}

abbrev pub row_with : Layout → List ℕ → Row
row_with l words = record { layout = l; words = words }

-- The words of a recovered image that keeps the base's map, whose volatile ones tell its list, are an index.
abbrev pub OpeningIsIndex : Type 0
OpeningIsIndex = (l : Layout) (list : List ListNode) (o : Columns) (words : List ℕ) (base : List Pair) →
    IsOpening l list o words (map_of base) → IsIndex (opened_index (row_with l words) base [])

-- Its anchors are those of the list. In its run no node was locked yet, none is GONE, and none has a stamp.
pub record IsUnused (list : List ListNode) (s : Index) : Type 0 where
  pub quiet : IsQuiet s
  pub anchors : anchors_in (world s) ≡ anchors_of list
  pub locks : locks_left s ≡ LAST_COUNT
  pub gone : gone_nodes s.layout.nodes (facts (world s)) ≡ 0
  pub stamps : HasLowStamps s

abbrev pub OpeningIsUnused : Type 0
OpeningIsUnused = (l : Layout) (list : List ListNode) (o : Columns) (words : List ℕ) (base : List Pair) →
    IsOpening l list o words (map_of base) → IsUnused list (opened_index (row_with l words) base [])
