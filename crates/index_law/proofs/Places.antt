-- What a location names: the node or the line, and the offset of the word in it.
use Rattle.std.specs.Prelude.{ℕ}
use Rattle.pm_words.specs.Locations.{Location, Volatile, Cached, Durable, Node, Line}

abbrev pub node_at : Location → ℕ
node_at (Cached (Node n offset)) = n
node_at (Volatile n offset) = n
node_at _ = 0

abbrev pub caller_at : Location → ℕ
caller_at (Cached (Line c j offset)) = c
caller_at (Durable (Line c j offset)) = c
caller_at _ = 0

abbrev pub number_at : Location → ℕ
number_at (Cached (Line c j offset)) = j
number_at (Durable (Line c j offset)) = j
number_at _ = 0

abbrev pub offset_at : Location → ℕ
offset_at (Cached (Node n offset)) = offset
offset_at (Cached (Line c j offset)) = offset
offset_at (Durable (Line c j offset)) = offset
offset_at (Volatile n offset) = offset
offset_at _ = 0
