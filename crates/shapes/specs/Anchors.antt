-- The list of nodes as its callers can tell it: since the map is known, it is enough where in the order of names each
-- member begins.
use Rattle.std.specs.Prelude.{◌≡◌, ℕ, ◌/◌, ◌≤◌, ◌&&◌, Bool, true, not, nat_le, if◌then◌else◌, List, [], ◌∷◌, ◌++◌}
use Rattle.std.specs.Prelude.{Option, Some, None, length, drop, slice_get, slice_index_or, is_some, is_none}
use Rattle.std.specs.FinMap.{keys, remove}
use Rattle.std.specs.List.{filter, last_or, AllByRecursion}
use Rattle.std.specs.Option.{unwrap_or}
use Rattle.std.specs.Ordering.{is_lt}
use Rattle.cat_key.specs.Names.{name_cmp}
use Rattle.cat_history.specs.Maps.{Map, at}

-- The first text is below the second.
abbrev pub below : List ℕ → List ℕ → Bool
below a b = is_lt (name_cmp a b)

-- Each text is below all that come after it.
abbrev pub AnchorsRise : List (List ℕ) → Type 0
AnchorsRise [] = Unit {0}
AnchorsRise (text ∷ later) = AllByRecursion (λ other. below text other ≡ true) later × AnchorsRise later

-- Where the members begin, the first one's anchor first.
abbrev pub Anchors : Type 0
Anchors = List (List ℕ)

-- The first anchor is the empty text, which is below every name, and the others rise from it.
pub record AreAnchors (anchors : Anchors) : Type 0 where
  pub first : slice_get anchors 0 ≡ Some []
  pub rise : AnchorsRise anchors

-- The name is below the high one, or there is none.
abbrev pub is_under : Option (List ℕ) → List ℕ → Bool
is_under None name = true
is_under (Some high) name = below name high

-- The name is at least the low one and under the high one.
abbrev pub is_between : List ℕ → Option (List ℕ) → List ℕ → Bool
is_between low high name = not (below name low) && is_under high name

-- The names that the map has there, in rising order.
abbrev pub names_between : Map → List ℕ → Option (List ℕ) → List (List ℕ)
names_between m low high = filter (is_between low high) (keys m)

-- The anchors that are at most the name, and those above it.
abbrev pub up_to : Anchors → List ℕ → Anchors
up_to anchors name = filter (λ anchor. not (below name anchor)) anchors

abbrev pub past : Anchors → List ℕ → Anchors
past anchors name = filter (λ anchor. below name anchor) anchors

-- The target of a name begins at the last anchor that is at most the name, and ends before the next one.
abbrev pub target_of : Anchors → List ℕ → List ℕ
target_of anchors name = unwrap_or (last_or None (up_to anchors name)) []

abbrev pub next_of : Anchors → List ℕ → Option (List ℕ)
next_of anchors name = slice_get (past anchors name) 0

-- The names of the target's member.
abbrev pub names_at : Map → Anchors → List ℕ → List (List ℕ)
names_at m anchors name = names_between m (target_of anchors name) (next_of anchors name)

-- A put of the name is full: the map lacks it, its target has as many names as a node has slots, and there are as many
-- members as nodes.
pub record IsFullPut (slots nodes : ℕ) (m : Map) (anchors : Anchors) (name : List ℕ) : Type 0 where
  pub lacks : at m name ≡ None
  pub whole : slots ≤ length (names_at m anchors name)
  pub no_node : length anchors ≡ nodes

-- A put of the name splits its target, where it isn't full.
abbrev pub splits : ℕ → Map → Anchors → List ℕ → Bool
splits slots m anchors name = is_none (at m name) && nat_le slots (length (names_at m anchors name))

-- The name at which the upper half of the target begins.
abbrev pub middle_of : ℕ → Map → Anchors → List ℕ → List ℕ
middle_of slots m anchors name = slice_index_or (names_at m anchors name) (slots / 2) []

-- The anchors after a put of the name that isn't full: where the target splits, its middle name is one more.
abbrev pub put_anchors : ℕ → Map → Anchors → List ℕ → Anchors
put_anchors slots m anchors name =
    if splits slots m anchors name then up_to anchors name ++ middle_of slots m anchors name ∷ past anchors name
    else anchors

-- A delete of the name merges its target with the next member: the map has the name, there is a next member, and
-- without the name both together have no more than half as many names as a node has slots.
abbrev pub merges : ℕ → Map → Anchors → List ℕ → Bool
merges slots m anchors name =
    is_some (at m name)
    && (is_some (next_of anchors name) && nat_le
    (length (names_between (remove m name) (target_of anchors name) (slice_get (past anchors name) 1))) (slots / 2))

-- The anchors after a delete of the name: where the target merges with the next member, that one's anchor goes.
abbrev pub del_anchors : ℕ → Map → Anchors → List ℕ → Anchors
del_anchors slots m anchors name =
    if merges slots m anchors name then up_to anchors name ++ drop 1 (past anchors name) else anchors
