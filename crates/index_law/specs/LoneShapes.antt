-- What a call that is made with no other in flight makes of the shape, said of worlds.
use Rattle.std.specs.Prelude.{◌≡◌, ◌≢◌, ℕ, zero, suc, ◌+◌, ◌*◌, ◌==◌, if◌then◌else◌, ◌%◌, ◌<◌, ◌≤◌, ◌/◌, ◌⊎◌}
use Rattle.std.specs.Prelude.{Option, Bool, true, false, List, [], ◌∷◌, ◌++◌, None, Some, IsSome, length, slice_get}
use Rattle.std.specs.FinMap.{remove}
use Rattle.std.specs.Int.{bit_at}
use Rattle.shapes.specs.Members.{without_name}
use Rattle.cat_key.specs.Names.{IsName}
use Rattle.cat_history.specs.Maps.{Map, at}
use Rattle.cat_history.specs.Writes.{after_all}
use Rattle.cat_history.specs.declared.op.Write.{Write}
use Rattle.cat_history.specs.declared.op.Change.TheVariants.{Del as Deletes}
use Rattle.cat_history.specs.declared.op.NameOp.{NameOp}
use Rattle.cat_history.specs.declared.op.NameOp.TheVariants.{Put, Get, Del}
use Rattle.pm_words.specs.Codes.{free_status, gone_status}
use Rattle.pm_words.specs.declared.layout.Layout.{Layout}
use Rattle.shapes.specs.Anchors.{Anchors, AreAnchors, names_between, past, target_of, next_of, IsFullPut, splits}
use Rattle.shapes.specs.Anchors.{put_anchors, merges, del_anchors}
use Rattle.shapes.specs.Weights.{IsShape}
use Rattle.index_law.specs.Facts.{Facts, map_now, range_of, IsListed}
use mathlib.Core.Option.{some}
use lib.ListN.{get_elem?}
use Rattle.pm_words.specs.declared.action.Action.{Action}
use Rattle.pm_words.specs.Rows.{got}
use Rattle.pm_words.specs.Offsets.{bitmap_offset, next_offset}
use Rattle.call_stages.specs.declared.once.Once.{Once}
use Rattle.call_stages.specs.declared.once.Placed.{Placed}
use Rattle.call_stages.specs.Stages.{Held, Grip, Pace, Gathered, Joined, Gone, Stage, Idle, Holds, Eyes, Meets, Joins}
use Rattle.call_stages.specs.Kinds.{Step}
use Rattle.data_node.specs.Slots.{AreAllLive}
use Rattle.data_node.specs.Spots.{Spot, Means}
use Rattle.data_node.specs.Weights.{names_in}
use Rattle.index_law.specs.Worlds.{Party, World, facts, stepped}
use Rattle.index_law.specs.Lawful.{Lawful, Each, IsList, IsSettled}
use Rattle.call_stages.specs.Prevs.{IsSwitch, IsJoin}
use Rattle.call_stages.specs.Prevs.{IsRetire}
use Rattle.index_law.specs.Weights.{index_weight}
use Rattle.index_law.specs.Anchors.{anchors_of, anchors_in, gone_nodes, members_most, CutsMember}

-- The call finds no room: it is a put that is full in this shape.
abbrev pub FindsNoRoomIn : NameOp → World → Type 0
FindsNoRoomIn (Put name value) w = IsFullPut w.layout.slots (members_most w) (map_now (facts w)) (anchors_in w) name
FindsNoRoomIn (Get name) w = ⊥
FindsNoRoomIn (Del name) w = ⊥

-- A put finds no room where the map lacks its name, each slot of the node in which that belongs has a name, and each
-- node is listed or GONE.
abbrev pub NoFreeIsNoRoom : Type 0
NoFreeIsNoRoom = (w : World) (name : List ℕ) (value n : ℕ) → Lawful w → IsName name →
    range_of w.layout (facts w) n name ≡ true → IsSettled w.layout (facts w) n → at (map_now (facts w)) name ≡ None →
    AreAllLive ((facts w).now n bitmap_offset) w.layout.slots →
    ((k : ℕ) → k < w.layout.nodes → IsListed (facts w) k ⊎ ((facts w).status k ≡ gone_status)) →
    FindsNoRoomIn (Put name value) w

-- So it is where nothing is in flight and no node is FREE.
abbrev pub NoFreeIsEach : Type 0
NoFreeIsEach = (w : World) → Lawful w → Each (λ p. p.stage ≡ Idle) w.parties →
    ((k : ℕ) → k < w.layout.nodes → (facts w).status k ≢ free_status) →
    (k : ℕ) → k < w.layout.nodes → IsListed (facts w) k ⊎ ((facts w).status k ≡ gone_status)

-- And the index then weighs half the slots of all its nodes at least.
abbrev pub NoFreeWeighs : Type 0
NoFreeWeighs = (w : World) → Lawful w → ((k : ℕ) → k < w.layout.nodes → IsListed (facts w) k ⊎
    ((facts w).status k ≡ gone_status)) →
    w.layout.nodes * (w.layout.slots / 2) ≤ index_weight w.layout (facts w)

-- But no call finds none where a node is FREE.
abbrev pub FreeIsRoom : Type 0
FreeIsRoom = (w : World) (op : NameOp) (k : ℕ) → Lawful w → k < w.layout.nodes → (facts w).status k ≡ free_status →
    FindsNoRoomIn op w → ⊥

-- A step leaves how many nodes are GONE, or it makes the right node of a merge GONE, and that is one more.
abbrev pub StepCountsGone : Type 0
StepCountsGone = (w : World) (i : ℕ) (p : Party) (action : Action) (x : ℕ) (next : Stage)
    (answer : Option (Once Placed)) → Lawful w →
    get_elem? w.parties i ≡ some p → Step w.layout w.generation p.stage action x next answer →
    x ≡ got w.layout w.words action →
    (gone_nodes w.layout.nodes (facts (stepped w i p action next)) ≡ gone_nodes w.layout.nodes (facts w))
    ⊎ (IsRetire p.stage next ×
    (gone_nodes w.layout.nodes (facts (stepped w i p action next)) ≡ gone_nodes w.layout.nodes (facts w) + 1))

-- The one switch of a put, made while the map is as it was: the node that it cuts is the one for the name of the put,
-- which the map lacks. Then the anchors are those that the put leaves, and no second cut can come.
abbrev pub SwitchIsPut : Type 0
SwitchIsPut = (l : Layout) (nodes : ℕ) (f : Facts) (anchors : Anchors) (name : List ℕ) (cut : CutsMember l f anchors) →
    IsList l f →
    IsShape l.slots nodes (map_now f) (anchors_of f.list) → 4 ≤ l.slots → l.slots % 2 ≡ 0 → IsName name →
    range_of l f cut.node name ≡ true → at (map_now f) name ≡ None →
    (splits l.slots (map_now f) (anchors_of f.list) name ≡ true) ×
    (anchors ≡ put_anchors l.slots (map_now f) (anchors_of f.list) name)
    × (splits l.slots (map_now f) anchors name ≡ false)

-- Where a put is about to store its change, and has made no switch, it is one that splits nothing: the map has its
-- name, or the node in which that belongs, which means the map as yet, has fewer names than slots.
abbrev pub NoSwitchIsPut : Type 0
NoSwitchIsPut = (l : Layout) (f : Facts) (name : List ℕ) (n : ℕ) → IsList l f →
    ((other : List ℕ) (value : ℕ) → at (map_now f) other ≡ Some value → IsName other) → IsName name →
    range_of l f n name ≡ true → Means l.slots (range_of l f n) (f.now n) (map_now f) → IsSome (at (map_now f) name) ⊎
    (names_in l.slots (range_of l f n) (f.now n) < l.slots) →
    (splits l.slots (map_now f) (anchors_of f.list) name ≡ false) ×
    (put_anchors l.slots (map_now f) (anchors_of f.list) name ≡ anchors_of f.list)

-- The node leads to none.
abbrev pub IsAlone : Layout → Facts → ℕ → Type 0
IsAlone l f n = IsListed f n × (f.now n next_offset ≡ 0)

-- The node and the one that it leads to have together more names than half a node's slots.
pub record IsCrowded (l : Layout) (f : Facts) (n : ℕ) : Type 0 where
  pub listed : IsListed f n
  pub right : ℕ
  pub leads : f.now n next_offset ≡ right
  pub nonzero : right ≢ 0
  pub means : Means l.slots (range_of l f n) (f.now n) (map_now f)
  pub means_right : Means l.slots (range_of l f right) (f.now right) (map_now f)
  pub many : l.slots / 2 < names_in l.slots (range_of l f n) (f.now n) + names_in l.slots (range_of l f right)
      (f.now right)

-- The switch of a merge, made once the delete is counted: the anchors are those that the delete leaves of the shape
-- before it.
abbrev pub SwitchIsDelete : Type 0
SwitchIsDelete = (slots : ℕ) (m : Map) (anchors : Anchors) (name next : List ℕ) → AreAnchors anchors →
    IsSome (at m name) → next_of anchors name ≡ Some next →
    length (names_between (remove m name) (target_of anchors name) (slice_get (past anchors name) 1)) ≤ slots / 2 →
    (merges slots m anchors name ≡ true) × (without_name next anchors ≡ del_anchors slots m anchors name)

-- Where no merge is made the delete is one that merges nothing: its target leads to no node, or has with the next one
-- more names than half a node's slots.
abbrev pub NoSwitchIsDelete : Type 0
NoSwitchIsDelete = (l : Layout) (f : Facts) (before : Map) (name : List ℕ) (n : ℕ) → IsList l f →
    ((other : List ℕ) (value : ℕ) → at (map_now f) other ≡ Some value → IsName other) →
    IsName name → range_of l f n name ≡ true → map_now f ≡ remove before name → IsAlone l f n ⊎ IsCrowded l f n →
    (merges l.slots before (anchors_of f.list) name ≡ false) ×
    (del_anchors l.slots before (anchors_of f.list) name ≡ anchors_of f.list)

-- The call's change is the last of the history, and it took away what its name had.
pub record HasLastDeleted (f : Facts) (h : Held) : Type 0 where
  pub earlier : List Write
  pub write : Write
  pub history : f.history ≡ earlier ++ write ∷ []
  pub deletes : write.change ≡ Deletes h.name
  pub placed : h.placed ≡ Some (length earlier)
  pub value : ℕ
  pub old : h.old ≡ Some (Some value)

-- It makes of the shape what the delete of its name makes of it.
abbrev pub Merges : ℕ → Map → Anchors → List ℕ → Anchors → Type 0
Merges slots before anchors name after = (merges slots before anchors name ≡ true) ×
    (after ≡ del_anchors slots before anchors name)

-- So a step that changes the anchors makes of them what the put of its call's name does; or it is the
-- switch of a merge, and makes of them what the delete of its call's name does, whatever the map was before it. Where
-- that delete was the last change, the map was that of its place.
abbrev pub StepSplits : Type 0
StepSplits = (w : World) (i : ℕ) (p : Party) (action : Action) (x : ℕ) (next : Stage) (answer : Option (Once Placed)) →
    Lawful w →
    (nodes : ℕ) → IsShape w.layout.slots nodes (map_now (facts w)) (anchors_in w) →
    get_elem? w.parties i ≡ some p → Step w.layout w.generation p.stage action x next answer →
    x ≡ got w.layout w.words action →
    (anchors_in (stepped w i p action next) ≡ anchors_in w)
    ⊎ (((switch : IsSwitch p.stage next)
    × (splits w.layout.slots (map_now (facts w)) (anchors_in w) switch.left.name ≡ true)
    × (anchors_in (stepped w i p action next) ≡ put_anchors w.layout.slots (map_now (facts w)) (anchors_in w)
    switch.left.name)
    × (splits w.layout.slots (map_now (facts w)) (anchors_in (stepped w i p action next)) switch.left.name ≡ false))
    ⊎ ((join : IsJoin p.stage next)
    × ((before : Map) → IsSome (at before join.held.name) → map_now (facts w) ≡ remove before join.held.name →
    Merges w.layout.slots before (anchors_in w) join.held.name (anchors_in (stepped w i p action next)))
    × ((last : HasLastDeleted (facts w) join.held) →
    Merges w.layout.slots (after_all w.base last.earlier) (anchors_in w) join.held.name
    (anchors_in (stepped w i p action next)))))

-- Where the anchors stand in a lone put of a name: as it found them, or with its split made.
abbrev pub PutStands : ℕ → Map → Anchors → List ℕ → Anchors → Type 0
PutStands slots m anchors name now = (now ≡ anchors) ⊎ ((splits slots m anchors name ≡ true) ×
    (now ≡ put_anchors slots m anchors name))

-- So they stand after each step of it, as long as it isn't counted and merges nothing: whichever of its tries splits,
-- no other does.
abbrev pub StepKeepsPut : Type 0
StepKeepsPut = (w : World) (i : ℕ) (p : Party) (action : Action) (x : ℕ) (next : Stage)
    (answer : Option (Once Placed)) → Lawful w →
    (nodes : ℕ) (anchors : Anchors) (name : List ℕ) →
    IsShape w.layout.slots nodes (map_now (facts w)) anchors →
    PutStands w.layout.slots (map_now (facts w)) anchors name (anchors_in w) →
    get_elem? w.parties i ≡ some p → Step w.layout w.generation p.stage action x next answer →
    x ≡ got w.layout w.words action →
    ((switch : IsSwitch p.stage next) → switch.left.name ≡ name) → (IsJoin p.stage next → ⊥) →
    PutStands w.layout.slots (map_now (facts w)) anchors name (anchors_in (stepped w i p action next))

-- Where the anchors stand in a lone delete of a name that is counted: as it found them, or with its merge made.
abbrev pub DelStands : ℕ → Map → Anchors → List ℕ → Anchors → Type 0
DelStands slots before anchors name now = (now ≡ anchors) ⊎ Merges slots before anchors name now

-- The stage is of a call whose merge has come so far: it holds its node again, or is at such a pace.
abbrev pub merged_by : (Pace → Bool) → Stage → Bool
merged_by so_far (Holds n w h) = h.merged
merged_by so_far (Eyes n w h m v u free) = h.merged
merged_by so_far (Meets n w h right) = h.merged
merged_by so_far (Joins h left right pace) = so_far pace
merged_by so_far _ = false

-- The stage is of a call that has merged another node into the one that it holds.
abbrev pub is_past : Pace → Bool
is_past Gathered = false
is_past Joined = true
is_past Gone = true

abbrev pub has_merged : Stage → Bool
has_merged s = merged_by is_past s

-- It holds no node by a call, or it splits.
abbrev pub IsOut : Stage → Type 0
IsOut (Holds n w h) = ⊥
IsOut (Eyes n w h m v u free) = ⊥
IsOut (Meets n w h right) = ⊥
IsOut (Joins h left right pace) = ⊥
IsOut _ = Unit {0}

-- So a call merges once at most, as long as it holds its node.
abbrev pub StepMergesOnce : Type 0
StepMergesOnce = (w : World) (i : ℕ) (p : Party) (action : Action) (x : ℕ) (next : Stage)
    (answer : Option (Once Placed)) → Lawful w →
    get_elem? w.parties i ≡ some p → Step w.layout w.generation p.stage action x next answer →
    IsOut next ⊎ ((((IsJoin p.stage next → ⊥) × (has_merged next ≡ has_merged p.stage)) ⊎
    (IsJoin p.stage next × (has_merged p.stage ≡ false) × (has_merged next ≡ true))))

-- The anchors stand so, and as found as long as the call of this stage hasn't merged.
abbrev pub DelStandsAt : ℕ → Map → Anchors → List ℕ → Stage → Anchors → Type 0
DelStandsAt slots before anchors name stage now = (has_merged stage ≡ false → now ≡ anchors) ×
    DelStands slots before anchors name now

-- So they stand after each step of it, if it splits nothing, as long as it holds its node.
abbrev pub StepKeepsDel : Type 0
StepKeepsDel = (w : World) (i : ℕ) (p : Party) (action : Action) (x : ℕ) (next : Stage)
    (answer : Option (Once Placed)) → Lawful w →
    (before : Map) (anchors : Anchors) (name : List ℕ) →
    IsSome (at before name) → map_now (facts w) ≡ remove before name →
    DelStandsAt w.layout.slots before anchors name p.stage (anchors_in w) →
    get_elem? w.parties i ≡ some p → Step w.layout w.generation p.stage action x next answer →
    x ≡ got w.layout w.words action →
    (IsSwitch p.stage next → ⊥) → ((join : IsJoin p.stage next) → join.held.name ≡ name) →
    DelStands w.layout.slots before anchors name (anchors_in (stepped w i p action next))
    × (IsOut next ⊎ (has_merged next ≡ false → anchors_in (stepped w i p action next) ≡ anchors))

-- As the put is about to store its change into the node in which its name belongs, which means the map as yet, the
-- anchors are those that the put leaves of the shape that it found.
abbrev pub PutEnds : Type 0
PutEnds = (w : World) (anchors : Anchors) (name : List ℕ) (n : ℕ) → Lawful w → IsName name →
    PutStands w.layout.slots (map_now (facts w)) anchors name (anchors_in w) →
    range_of w.layout (facts w) n name ≡ true →
    Means w.layout.slots (range_of w.layout (facts w) n) ((facts w).now n) (map_now (facts w)) →
    IsSome (at (map_now (facts w)) name) ⊎
    (names_in w.layout.slots (range_of w.layout (facts w) n) ((facts w).now n) < w.layout.slots) →
    anchors_in w ≡ put_anchors w.layout.slots (map_now (facts w)) anchors name

-- And where it finds no room it has made no split, so that it found none in the shape that it came to.
abbrev pub PutEndsFull : Type 0
PutEndsFull = (w : World) (nodes : ℕ) (anchors : Anchors) (name : List ℕ) (value : ℕ) → Lawful w →
    IsShape w.layout.slots nodes (map_now (facts w)) anchors →
    PutStands w.layout.slots (map_now (facts w)) anchors name (anchors_in w) → FindsNoRoomIn (Put name value) w →
    anchors_in w ≡ anchors

-- As the delete ends, which has merged, or by whose node it has nothing to merge, the anchors are those that it leaves.
abbrev pub DelEnds : Type 0
DelEnds = (w : World) (before : Map) (anchors : Anchors) (name : List ℕ) (n : ℕ) → Lawful w →
    IsName name → map_now (facts w) ≡ remove before name → DelStands w.layout.slots before anchors name (anchors_in w) →
    range_of w.layout (facts w) n name ≡ true →
    (anchors_in w ≡ anchors → IsAlone w.layout (facts w) n ⊎ IsCrowded w.layout (facts w) n) →
    anchors_in w ≡ del_anchors w.layout.slots before anchors name

-- How many of the first so many slots are live.
abbrev pub live_in : ℕ → Spot → ℕ
live_in zero s = 0
live_in (suc slot) s = (if bit_at (s bitmap_offset) slot == 1 then 1 else 0) + live_in slot s

-- A party that holds a node for its name, and the one that this leads to, and counts more live slots in both than half
-- a node's, knows that its delete merges nothing;
abbrev pub MeetsCrowded : Type 0
MeetsCrowded = (w : World) (i : ℕ) (p : Party) (n lock : ℕ) (h : Held) (right : Grip) → Lawful w →
    get_elem? w.parties i ≡ some p → p.stage ≡ Meets n lock h right →
    w.layout.slots / 2 < live_in w.layout.slots ((facts w).now n) + live_in w.layout.slots ((facts w).now right.node) →
    IsCrowded w.layout (facts w) n × (range_of w.layout (facts w) n h.name ≡ true)

-- and so does one whose node leads to none.
abbrev pub HoldsAlone : Type 0
HoldsAlone = (w : World) (i : ℕ) (p : Party) (n lock : ℕ) (h : Held) → Lawful w → get_elem? w.parties i ≡ some p →
    p.stage ≡ Holds n lock h → (facts w).now n next_offset ≡ 0 →
    IsAlone w.layout (facts w) n × (range_of w.layout (facts w) n h.name ≡ true)
