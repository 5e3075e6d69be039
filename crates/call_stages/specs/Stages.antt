-- What a call in flight relies on, whatever machine makes it.
use Rattle.std.specs.Prelude.{◌≡◌, ◌≢◌, ℕ, ◌+◌, ◌<◌, ◌≤◌, ◌⊎◌, Bool, true, false, List, [], ◌∷◌, Option, Some, None}
use Rattle.std.specs.Prelude.{IfSome}
use Rattle.std.specs.List.{AllByRecursion}
use Rattle.layer_map.specs.cat_key.specs.Names.{words_of}
use Rattle.pm_words.specs.Offsets.{next_offset, anchor_offset}
use Rattle.data_node.specs.cat_history.specs.Maps.{Map}
use Rattle.data_node.specs.cat_history.specs.Writes.{changed}
use Rattle.data_node.specs.cat_history.specs.declared.op.Change.{Change}
use Rattle.data_node.specs.Slots.{IsLive}
use Rattle.data_node.specs.Spots.{Spot, IsLiveIn, name_words}

-- What the party that holds a node knows of its words: some of them by offset, and, once it has compared fingerprints,
-- the slots (as bits) that may still hold its name.
pub record Known : Type 0 where
  pub seen : List (ℕ × ℕ)
  pub left : Option ℕ

-- The node's words are as the party knows them.
pub record Knows (name : List ℕ) (k : Known) (s : Spot) : Type 0 where
  pub seen : AllByRecursion (λ (w : ℕ × ℕ). s w.0 ≡ w.1) k.seen
  pub left : IfSome k.left (λ slots. (slot : ℕ) → slot < 64 → IsLiveIn s slot → name_words s slot ≡ words_of name →
      IsLive slots slot)

-- Words of a node, as stretches: the offset of the first, and how many there are.
abbrev pub IsAmong : List (ℕ × ℕ) → ℕ → Type 0
IsAmong [] offset = ⊥
IsAmong ((first, count) ∷ stretches) offset = ((first ≤ offset) × (offset < first + count)) ⊎ IsAmong stretches offset

-- What a call has done and learnt under a node's lock.
pub record Held : Type 0 where
  pub name : List ℕ  -- the name that it is about
  pub limit : Option ℕ  -- the limit that the clock it loaded is below
  pub known : Known
  pub dirty : List (ℕ × ℕ)  -- the words whose durable twins may differ from them
  pub hand : Option (ℕ × ℕ)  -- the word, by its offset, that it has loaded to make it durable
  pub time : Option ℕ  -- the clock that it loaded
  pub old : Option (Option ℕ)  -- what the name had before the call
  pub pending : Option Change  -- the change that the node's words show already and the history doesn't yet
  pub ready : Bool  -- its next step counts that change
  pub placed : Option ℕ  -- the place that its change was given
  pub merged : Bool  -- it has merged another node into the one that it holds

-- The words that it knows and that are durable are as it knows them.
abbrev pub KnowsDurable : Held → Spot → Type 0
KnowsDurable h s = AllByRecursion (λ (w : ℕ × ℕ). IsAmong h.dirty w.0 ⊎ (s w.0 ≡ w.1)) h.known.seen

-- What a walk has loaded of the node whose version word it saw. It stands as long as that version word does.
pub record Sight : Type 0 where
  pub live : Bool  -- its status was LIVE
  pub seen : List (ℕ × ℕ)  -- words of it by offset
  pub next : ℕ  -- the node that it leads to, once that is relied on
  pub beyond : List (ℕ × ℕ)  -- anchor words of that node by offset

-- The words of the node and those of the one that it leads to are as the walk saw them.
pub record Sees (k : Sight) (s t : Spot) : Type 0 where
  pub seen : AllByRecursion (λ (w : ℕ × ℕ). s w.0 ≡ w.1) k.seen
  pub leads : k.next ≢ 0 → s next_offset ≡ k.next
  pub beyond : k.next ≢ 0 →
      AllByRecursion (λ (w : ℕ × ℕ). (anchor_offset ≤ w.0) × (w.0 ≤ anchor_offset + 2) × (t w.0 ≡ w.1)) k.beyond

-- As the version word is loaded: nothing else is seen.
abbrev pub no_sight : Sight
no_sight = record { live = false; seen = []; next = 0; beyond = [] }

-- One of the two nodes that a split or a merge holds: its version word, words of it by offset, and, as of a call, which
-- words may differ from their durable twins, and the word in hand. Of the right node of a merge, which of the left
-- node's words are as its own: the offsets of both.
pub record Grip : Type 0 where
  pub name : List ℕ  -- the name that the call is about
  pub old : Option (Option ℕ)  -- what it had before the call
  pub node : ℕ
  pub lock : ℕ
  pub seen : List (ℕ × ℕ)
  pub dirty : List (ℕ × ℕ)
  pub hand : Option (ℕ × ℕ)
  pub copied : List (ℕ × ℕ)

-- These words of the left node are as those of the right one.
abbrev pub AreCopies : List (ℕ × ℕ) → Spot → Spot → Type 0
AreCopies copied s t = AllByRecursion (λ (w : ℕ × ℕ). s w.0 ≡ t w.1) copied

-- The words are as the party knows them.
abbrev pub Tells : List (ℕ × ℕ) → Spot → Type 0
Tells seen s = AllByRecursion (λ (w : ℕ × ℕ). s w.0 ≡ w.1) seen

-- How far a split is: the fresh node isn't listed yet, and its status may be LIVE; it is listed, and the full node has
-- still the names that moved; and without those.
pub data Phase : Type 0 where
  Filling : Bool → Phase
  Linked : Phase
  Parted : Phase

-- How far a merge is: the left node has the names of the right one too, which are out of its range; it leads past the
-- right one; and that is GONE.
pub data Pace : Type 0 where
  Gathered : Pace
  Joined : Pace
  Gone : Pace

pub data Stage : Type 0 where
  -- it has nothing that it relies on
  Idle : Stage
  -- of this node it loaded this free version word, from which this locked word is made, and what the walk saw since
  Saw : ℕ → ℕ → ℕ → Sight → Stage
  -- of this node it loaded this free version word, from which no lock can be taken any more
  Wears : ℕ → ℕ → Stage
  -- it takes no lock: of this node it loaded this free version word, and what the walk saw since; and once it has
  -- loaded the clock, what it has learnt, as of a call that holds the node. All that stands as long as that version
  -- word does
  Reads : ℕ → ℕ → Sight → Option Held → Stage
  -- it holds this node, whose version word is this
  Holds : ℕ → ℕ → Held → Stage
  -- it holds the first node, and of the second it loaded this free version word, from which this locked word is made;
  -- and it may have loaded that its status is FREE
  Eyes : ℕ → ℕ → Held → ℕ → ℕ → ℕ → Bool → Stage
  -- it splits the full node, which it holds, into that and the fresh one, which it holds too
  Splits : Grip → Grip → Phase → Stage
  -- its split is done but that it holds the node that was full
  Leaves : Grip → Stage
  -- it holds this node, and the one that it leads to, whose names it may copy
  Meets : ℕ → ℕ → Held → Grip → Stage
  -- the call, whose change is counted, merges the second node into the first; it holds both
  Joins : Held → Grip → Grip → Pace → Stage

-- The stage holds no node, and what it saw may be let go.
abbrev pub IsLoose : Stage → Type 0
IsLoose Idle = Unit {0}
IsLoose (Saw n v w k) = Unit {0}
IsLoose (Wears n v) = Unit {0}
IsLoose (Reads n v k h) = Unit {0}
IsLoose _ = ⊥

-- What a split begins with: a fresh node, and the full one, of which the call knows words.
abbrev pub fresh_grip : ℕ → ℕ → Grip
fresh_grip n w = record {
  name = [];
  old = None;
  node = n;
  lock = w;
  seen = [];
  dirty = [];
  hand = None;
  copied = [];
}

abbrev pub full_grip : ℕ → ℕ → Held → Grip
full_grip n w h = record (fresh_grip n w) { name = h.name; old = h.old; seen = h.known.seen }

-- As the lock is taken: nothing is known of the node yet.
abbrev pub just_held : List ℕ → Held
just_held name =
    record {
      name = name;
      limit = None;
      known = record { seen = []; left = None };
      dirty = [];
      hand = None;
      time = None;
      old = None;
      pending = None;
      ready = false;
      placed = None;
      merged = false;
    }

-- What a merge begins with that has the copies: the left node, of which the call knows words.
abbrev pub left_grip : ℕ → ℕ → List (ℕ × ℕ) → List (ℕ × ℕ) → Grip
left_grip n w seen dirty = record (fresh_grip n w) { seen = seen; dirty = dirty }

-- A call after its merge, which knows nothing of its node any more.
abbrev pub merged_held : Held → Held
merged_held h = record (just_held h.name) { limit = h.limit; old = h.old; placed = h.placed; merged = true }

-- The map with a pending change.
abbrev pub pended : Option Change → Map → Map
pended None m = m
pended (Some c) m = changed m c

-- The change that the party's call has pending.
abbrev pub pending_in : Stage → Option Change
pending_in (Holds n w h) = h.pending
pending_in _ = None

-- The place that its change was given.
abbrev pub placed_in : Stage → Option ℕ
placed_in (Holds n w h) = h.placed
placed_in (Eyes n w h m v u free) = h.placed
placed_in (Meets n w h right) = h.placed
placed_in (Joins h left right pace) = h.placed
placed_in _ = None

-- The change that the party's next step counts.
abbrev pub counted : Stage → Option Change
counted (Holds n w h) = elim h.ready [ true ↦ h.pending | false ↦ None ]
counted _ = None

-- The party holds the node.
abbrev pub HoldsNode : Stage → ℕ → Type 0
HoldsNode Idle n = ⊥
HoldsNode (Saw m v w k) n = ⊥
HoldsNode (Holds m w h) n = m ≡ n
HoldsNode (Eyes m w h k v u free) n = m ≡ n
HoldsNode (Splits left fresh phase) n = (left.node ≡ n) ⊎ (fresh.node ≡ n)
HoldsNode (Leaves left) n = left.node ≡ n
HoldsNode (Wears m v) n = ⊥
HoldsNode (Reads m v k h) n = ⊥
HoldsNode (Meets m w h right) n = (m ≡ n) ⊎ (right.node ≡ n)
HoldsNode (Joins h left right pace) n = (left.node ≡ n) ⊎ (right.node ≡ n)

-- The party has put this node into the list, or left it out, by a switch that may not be durable yet.
abbrev pub IsSwitched : Stage → ℕ → Type 0
IsSwitched (Splits left fresh Linked) n = fresh.node ≡ n
IsSwitched (Joins h left right Joined) n = right.node ≡ n
IsSwitched _ n = ⊥
