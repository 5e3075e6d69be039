-- What the words of a row, the base and the history say together: the words of each node, and the map.
use Rattle.std.specs.Prelude.{ℕ, ◌==◌, ◌&&◌, Bool, nat_lt, if◌then◌else◌, List, slice_index}
use Rattle.pm_words.specs.declared.layout.Layout.{Layout}
use Rattle.pm_words.specs.Locations.{node_words, Node, Volatile, Durable, at}
use Rattle.pm_words.specs.Offsets.{status_offset, version_offset}
use Rattle.cat_history.specs.Maps.{Map}
use Rattle.cat_history.specs.Writes.{after_all}
use Rattle.cat_history.specs.declared.op.Write.{Write}
use Rattle.data_node.specs.Spots.{Spot}
use Rattle.data_node.specs.Lists.{ListNode, members_from, range_in, IsIn}
use Rattle.call_stages.specs.Kinds.{version_address, word_address}

-- What the parties of an index can rely on.
pub record Facts : Type 0 where
  pub version : ℕ → ℕ  -- the version word of a node
  pub status : ℕ → ℕ  -- the status of a node
  pub now : ℕ → Spot  -- the other words of a node, by their offsets
  pub list : List ListNode  -- the nodes behind node 0 in the list
  pub base : Map  -- the map that the history begins with
  pub history : List Write

-- The version word of a node of the layout.
unfoldable pub version_in : Layout → List ℕ → ℕ → ℕ
version_in l words n = if nat_lt n l.nodes then slice_index words (version_address l n) else 0

-- The other words of a node of the layout.
unfoldable pub spot_in : Layout → List ℕ → ℕ → Spot
spot_in l words n offset =
    if nat_lt n l.nodes && (nat_lt 0 offset && nat_lt offset (node_words l)) then slice_index words
    (word_address l n offset)
    else 0

-- The status of a node of the layout.
unfoldable pub status_in : Layout → List ℕ → ℕ → ℕ
status_in l words n = if nat_lt n l.nodes then at l words (Volatile n status_offset) else 0

-- The list by the words of the nodes.
abbrev pub list_in : Layout → List ℕ → List ListNode
list_in l words = members_from (spot_in l words) l.nodes 0

abbrev pub facts_of : Layout → List ℕ → Map → List Write → Facts
facts_of l words base history =
    record {
      version = version_in l words;
      status = status_in l words;
      now = spot_in l words;
      list = list_in l words;
      base = base;
      history = history;
    }

-- A cached word of a node, its version word among them.
abbrev pub cached_word : Facts → ℕ → ℕ → ℕ
cached_word f n offset = if offset == version_offset then f.version n else f.now n offset

-- The durable twin of a node's version word, and of its other words.
abbrev pub durable_version : Layout → List ℕ → ℕ → ℕ
durable_version l words n = at l words (Durable (Node n version_offset))

unfoldable pub durable_spot : Layout → List ℕ → ℕ → Spot
durable_spot l words n offset =
    if nat_lt n l.nodes && (nat_lt 0 offset && nat_lt offset (node_words l)) then at l words (Durable (Node n offset))
    else 0

-- The map after the whole history.
abbrev pub map_now : Facts → Map
map_now f = after_all f.base f.history

-- The node is in the list.
abbrev pub IsListed : Facts → ℕ → Type 0
IsListed f n = IsIn f.list n

-- The names for which a node is the one to look in: it is the last whose anchor is no greater.
abbrev pub range_of : Layout → Facts → ℕ → List ℕ → Bool
range_of l f n = range_in f.list n
