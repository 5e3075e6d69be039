-- What a turn and the cover of the layer rest on, read off a row of words.
use Rattle.std.specs.Prelude.{ℕ, ◌+◌, ◌*◌, ◌/◌, ◌%◌, not, nat_lt, Bool, if◌then◌else◌, List}
use Rattle.pm_words.specs.declared.layout.Layout.{Layout}
use Rattle.pm_words.specs.Locations.{Word, Location, Node, Line, Cached, Durable, Volatile, at}
use Rattle.pm_words.specs.Offsets.{version_offset, anchor_offset, state_offset, kind_offset, line_node_offset}
use Rattle.pm_words.specs.Offsets.{status_offset, stamp_offset}
use Rattle.version_lock.specs.Versions.{is_free_word, is_worn_word}
use Rattle.layer_map.specs.Keys.{key_of}
use Rattle.search_layer.specs.Rows.{layer_words}
use Rattle.search_layer.specs.Kept.{kept}
use Rattle.updater_law.specs.Covers.{Lines}
use Rattle.updater_law.specs.Facts.{TurnTerms, TurnFacts}

-- The layout and the generation of the row, the stamp that the turn gives, and the greatest stamp that it releases.
pub record RowTerms : Type 0 where
  pub layout : Layout
  pub generation : ℕ
  pub stamp : ℕ
  pub release : ℕ

-- What no single word tells: which nodes are listed, which follows from their next words, and who holds a node.
pub record Ghosts : Type 0 where
  pub listed : ℕ → Bool
  pub holder : ℕ → ℕ

-- the words at the locations of so many nodes or lines, by number
unfoldable pub column : Layout → List ℕ → ℕ → (ℕ → Location) → ℕ → ℕ
column l words count place n = if nat_lt n count then at l words (place n) else 0

-- the log lines of all callers, numbered one caller after another
abbrev pub line_count : Layout → ℕ
line_count l = 8 * l.callers

abbrev pub line_word : ℕ → ℕ → Word
line_word offset j = Line (j / 8) (j % 8) offset

-- the words at this offset: of the lines of one row, of the nodes, and of the nodes' volatile words
abbrev pub line_field : Layout → List ℕ → (Word → Location) → ℕ → ℕ → ℕ
line_field l words twin offset = column l words (line_count l) (λ j. twin (line_word offset j))

abbrev pub node_field : Layout → List ℕ → ℕ → ℕ → ℕ
node_field l words offset = column l words l.nodes (λ n. Cached (Node n offset))

abbrev pub volatile_field : Layout → List ℕ → ℕ → ℕ → ℕ
volatile_field l words offset = column l words l.nodes (λ n. Volatile n offset)

abbrev pub lines_in : Layout → List ℕ → (Word → Location) → Lines
lines_in l words twin = record {
  state = line_field l words twin state_offset;
  kind = line_field l words twin kind_offset;
  node = line_field l words twin line_node_offset;
  anchor = λ j. key_of (line_field l words twin anchor_offset j)
      (line_field l words twin (anchor_offset + 1) j) (line_field l words twin (anchor_offset + 2) j);
}

abbrev pub terms_of : RowTerms → TurnTerms
terms_of r = record {
  lines = line_count r.layout;
  nodes = r.layout.nodes;
  stamp = r.stamp;
  release = r.release;
}

abbrev pub facts_in : RowTerms → Ghosts → List ℕ → TurnFacts
facts_in r ghosts words = record {
  listed = ghosts.listed;
  anchor = λ n. key_of (node_field r.layout words anchor_offset n)
      (node_field r.layout words (anchor_offset + 1) n) (node_field r.layout words (anchor_offset + 2) n);
  status = volatile_field r.layout words status_offset;
  stamp = volatile_field r.layout words stamp_offset;
  held = λ n. not (is_free_word (node_field r.layout words version_offset n) r.generation);
  holder = ghosts.holder;
  worn = λ n. is_worn_word (node_field r.layout words version_offset n) r.generation;
  line = lines_in r.layout words Cached;
  safe_line = lines_in r.layout words Durable;
  layer = kept r.layout (layer_words r.layout words Cached);
  safe_layer = kept r.layout (layer_words r.layout words Durable);
}
