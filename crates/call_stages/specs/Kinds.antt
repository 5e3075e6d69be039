-- The kinds of step of a call: from a stage, by an action that gives a number, to the next stage, with the answer if
-- the call is done. What a step says of a node's words it says of any words, so that no machine need know of the index.
use Rattle.std.specs.Prelude.{◌≡◌, ◌≢◌, ℕ, ◌+◌, ◌/◌, ◌<◌, ◌≤◌, ◌^◌, ◌⊎◌, ◌&&◌, ◌||◌, nat_le, nat_lt, Bool, true, false}
use Rattle.std.specs.Prelude.{Option, Some, None, IfSome, IsSome, List, []}
use Rattle.pm_words.specs.declared.action.Action.{Action}
use Rattle.pm_words.specs.declared.action.Action.TheVariants.{Load, Store, Exchange, Add, Drain}
use Rattle.pm_words.specs.declared.again.Again.{Again}
use Rattle.pm_words.specs.declared.again.Again.TheVariants as again
use Rattle.pm_words.specs.declared.layout.Layout.{Layout}
use Rattle.pm_words.specs.Codes.{free_status, live_status, gone_status}
use Rattle.pm_words.specs.Locations.{address_of, node_words, Cached, Node, Clock, Volatile}
use Rattle.pm_words.specs.Offsets.{version_offset, bitmap_offset, next_offset, anchor_offset, status_offset}
use Rattle.pm_words.specs.Offsets.{prev_offset}
use Rattle.version_lock.specs.Versions.{generation_of, kept_count, locked_word, IsFree, IsWorn}
use Rattle.layer_map.specs.cat_key.specs.Names.{IsName}
use Rattle.data_node.specs.cat_history.specs.Maps.{Map, at}
use Rattle.data_node.specs.cat_history.specs.Writes.{changed, name_of}
use Rattle.data_node.specs.cat_history.specs.declared.op.Change.{Change}
use Rattle.data_node.specs.Slots.{AreAllLive}
use Rattle.data_node.specs.Spots.{Spot, IsTidy, Means, updated}
use Rattle.data_node.specs.Lists.{key_of, anchor_in, IsBetween, StaysIn}
use Rattle.data_node.specs.Weights.{names_in}
use Rattle.call_stages.specs.declared.once.Once.{Once}
use Rattle.call_stages.specs.declared.once.Once.TheVariants as once
use Rattle.call_stages.specs.declared.once.Placed.{Placed}
use Rattle.call_stages.specs.Stages.{Known, Knows, KnowsDurable, IsAmong, Held, Sight, Sees, no_sight, Grip, Tells}
use Rattle.call_stages.specs.Stages.{AreCopies}
use Rattle.call_stages.specs.Stages.{Phase, Filling, Linked, Parted, Pace, Gathered, Joined, Gone, Stage, Idle, Saw}
use Rattle.call_stages.specs.Stages.{Wears, Reads, Holds, Eyes, Splits, Leaves, Meets, Joins, IsLoose, full_grip}
use Rattle.call_stages.specs.Stages.{fresh_grip}
use Rattle.call_stages.specs.Stages.{left_grip, just_held, merged_held, pended}

-- The addresses of the clock, of a node's version word, and of a node's word by its offset.
abbrev pub clock_address : Layout → ℕ
clock_address l = address_of l Clock

abbrev pub word_address : Layout → ℕ → ℕ → ℕ
word_address l n offset = address_of l (Cached (Node n offset))

abbrev pub version_address : Layout → ℕ → ℕ
version_address l n = word_address l n version_offset

-- The addresses of a node's status and of its prev.
abbrev pub status_address : Layout → ℕ → ℕ
status_address l n = address_of l (Volatile n status_offset)

abbrev pub prev_address : Layout → ℕ → ℕ
prev_address l n = address_of l (Volatile n prev_offset)

-- The node and the offset are of this layout; an offset of 0 is the version word, which a store under the lock spares.
abbrev pub HasWordAt : Layout → ℕ → ℕ → Type 0
HasWordAt l n offset = (n < l.nodes) × (offset < node_words l)

-- The word says what the node's slots hold, and not where the node stands in the list.
abbrev pub IsContent : ℕ → Type 0
IsContent offset = (offset ≡ bitmap_offset) ⊎ (8 ≤ offset)

-- A number that an action may give: a version word is of no later generation, and node 0 is LIVE, has the anchor zero,
-- and leads to one of the layout's nodes if it leads to any.
pub record Told (l : Layout) (g : ℕ) (action : Action) (x : ℕ) : Type 0 where
  pub fits : x < 2 ^ 64
  pub known : (n : ℕ) → n < l.nodes → action ≡ Load (version_address l n) → generation_of x ≤ g
  pub first_live : action ≡ Load (status_address l 0) → x ≡ live_status
  pub first_anchor : (offset : ℕ) → anchor_offset ≤ offset → offset ≤ anchor_offset + 2 →
      action ≡ Load (word_address l 0 offset) → x ≡ 0
  pub first_next : action ≡ Load (word_address l 0 next_offset) → x ≢ 0 → x < l.nodes

-- A node that was LIVE or that is held leads to one of the layout's.
pub record LeadsWithin (l : Layout) (stage : Stage) (action : Action) (x : ℕ) : Type 0 where
  pub live : (n v w : ℕ) (k : Sight) → n < l.nodes → stage ≡ Saw n v w k → k.live ≡ true →
      action ≡ Load (word_address l n next_offset) → x < l.nodes
  pub held : (n w : ℕ) (h : Held) → n < l.nodes → stage ≡ Holds n w h → action ≡ Load (word_address l n next_offset) →
      x < l.nodes
  pub met : (n w : ℕ) (h : Held) (right : Grip) → right.node < l.nodes → stage ≡ Meets n w h right →
      action ≡ Load (word_address l right.node next_offset) → x < l.nodes

-- Under the lock the call has neither a change in the node nor a place.
pub record IsClean (h : Held) : Type 0 where
  pub pending : h.pending ≡ None
  pub ready : h.ready ≡ false
  pub placed : h.placed ≡ None

-- It has no change in the node that isn't counted.
pub record IsStill (h : Held) : Type 0 where
  pub pending : h.pending ≡ None
  pub ready : h.ready ≡ false

-- It has loaded no clock since its change was counted, and has merged no other node yet.
pub record MayMerge (h : Held) : Type 0 where
  pub untimed : h.time ≡ None
  pub unmerged : h.merged ≡ false

-- It has no place, and its name had nothing.
pub record MaySplit (h : Held) : Type 0 where
  pub unplaced : h.placed ≡ None
  pub lacked : h.old ≡ Some None

-- With a store at this offset one more word may differ from its durable twin.
pub record Soils (before : List (ℕ × ℕ)) (offset : ℕ) (after : List (ℕ × ℕ)) : Type 0 where
  pub stored : IsAmong after offset
  pub others : (other : ℕ) → IsAmong before other → IsAmong after other

-- Once the word at this offset is durable, no more than the other words may differ.
abbrev pub Cleans : List (ℕ × ℕ) → ℕ → List (ℕ × ℕ) → Type 0
Cleans before offset after = (other : ℕ) → IsAmong before other → (other ≡ offset) ⊎ IsAmong after other

-- The call goes on, or ends because its walk made too many hops.
abbrev pub GivesUp : Option (Once Placed) → Type 0
GivesUp None = Unit {0}
GivesUp (Some (once.Again (again.Hops count))) = Unit {0}
GivesUp (Some _) = ⊥

-- The steps of a call that takes no lock. What it loads of a node may be torn by others. If the version word stands at
-- the last load, it wasn't.
pub data Read (l : Layout) (g : ℕ) : Stage → Action → ℕ → Stage → Option (Once Placed) → Type 0 where
  -- it loads a free version word, whether or not a lock can be taken from it
  views : {s : Stage} {n x : ℕ} → IsLoose s → n < l.nodes → IsFree x g →
      Read l g s (Load (version_address l n)) x (Reads n x no_sight None) None
  -- what its walk sees of the node, and of the one that it leads to
  views_live : {n v x : ℕ} {k : Sight} → n < l.nodes → x ≡ live_status →
      Read l g (Reads n v k None) (Load (status_address l n)) x (Reads n v (record k { live = true }) None) None
  views_word : {n v x offset : ℕ} {k k' : Sight} → HasWordAt l n offset → 0 < offset → k'.live ≡ k.live →
      k'.next ≡ k.next →
      ((s t : Spot) → Sees k s t → s offset ≡ x → Sees k' s t) →
      Read l g (Reads n v k None) (Load (word_address l n offset)) x (Reads n v k' None) None
  views_next : {n v m x offset : ℕ} {k k' : Sight} → HasWordAt l m offset → anchor_offset ≤ offset →
      offset ≤ anchor_offset + 2 → m ≢ 0 →
      k.live ≡ true → k'.live ≡ true → k'.next ≡ m →
      ((s t : Spot) → Sees k s t → s next_offset ≡ m) → ((s t : Spot) → Sees k s t → t offset ≡ x → Sees k' s t) →
      Read l g (Reads n v k None) (Load (word_address l m offset)) x (Reads n v k' None) None
  -- it loads the clock, at a node where its name belongs by what it saw, and goes on with a part of that
  dates : {n v x : ℕ} {k k' : Sight} {name : List ℕ} → IsName name → k.live ≡ true →
      ((s t : Spot) → Sees k s t → IsBetween s t (key_of name)) → ((s t : Spot) → Sees k s t → Sees k' s t) →
      Read l g (Reads n v k None) (Load (clock_address l)) x
      (Reads n v k' (Some (record (just_held name) { time = Some x }))) None
  -- it loads a word of the node
  notes : {n v x offset : ℕ} {k : Sight} {h : Held} {known : Known} → HasWordAt l n offset → 0 < offset →
      ((s : Spot) → IsTidy l.slots s → Knows h.name h.known s → s offset ≡ x → Knows h.name known s) →
      Read l g (Reads n v k (Some h)) (Load (word_address l n offset)) x
      (Reads n v k (Some (record h { known = known }))) None
  -- with the word that it loads it knows what its name has
  finds : {n v x offset : ℕ} {k : Sight} {h : Held} {known : Known} {old : Option ℕ} → HasWordAt l n offset →
      0 < offset →
      ((s : Spot) → IsTidy l.slots s → Knows h.name h.known s → s offset ≡ x → Knows h.name known s) →
      ((range : List ℕ → Bool) (s : Spot) (m : Map) → range h.name ≡ true → Knows h.name h.known s → s offset ≡ x →
      Means l.slots range s m → at m h.name ≡ old) →
      Read l g (Reads n v k (Some h)) (Load (word_address l n offset)) x
      (Reads n v k (Some (record h { known = known; old = Some old }))) None
  -- the version word is still the one that it saw: what it read stands, and stood at its clock
  confirms : {n v x clock hops : ℕ} {k : Sight} {h : Held} {old : Option ℕ} → n < l.nodes → x ≡ v → h.placed ≡ None →
      h.limit ≡ None → h.time ≡ Some clock → h.old ≡ Some old →
      Read l g (Reads n v k (Some h)) (Load (version_address l n)) x Idle
      (Some (once.Done (record { old = old; place = clock; hops = hops })))
  -- it is another one
  wavers : {n v x : ℕ} {k : Sight} {h : Option Held} → n < l.nodes → x ≢ v →
      Read l g (Reads n v k h) (Load (version_address l n)) x Idle (Some (once.Again (again.Moved n v x)))

-- From one stage to the next by an action that changes no word.
pub data Look (l : Layout) (g : ℕ) : Stage → Action → ℕ → Stage → Option (Once Placed) → Type 0 where
  turns_back : {s : Stage} {n x : ℕ} → IsLoose s → n < l.nodes → (IsFree x g → ⊥) →
      Look l g s (Load (version_address l n)) x Idle (Some (once.Again (again.Locked n x)))
  -- the node is worn: its version word stays; the call may go on, and at last answer that its target is worn
  wears : {s : Stage} {n x : ℕ} → IsLoose s → n < l.nodes → IsFree x g → IsWorn x g →
      Look l g s (Load (version_address l n)) x (Wears n x) None
  roams : {n v x m offset : ℕ} → HasWordAt l m offset →
      Look l g (Wears n v) (Load (word_address l m offset)) x (Wears n v) None
  roams_status : {n v x m : ℕ} → m < l.nodes → Look l g (Wears n v) (Load (status_address l m)) x (Wears n v) None
  is_worn : {n v x m offset : ℕ} → HasWordAt l m offset →
      Look l g (Wears n v) (Load (word_address l m offset)) x Idle (Some (once.Worn n v))
  sees : {s : Stage} {n x w : ℕ} → IsLoose s → n < l.nodes → IsFree x g → (IsWorn x g → ⊥) →
      w ≡ locked_word g (kept_count x g) →
      Look l g s (Load (version_address l n)) x (Saw n x w no_sight) None
  -- the node is in use: if its version word stands, it is listed
  finds_live : {n v w x : ℕ} {k : Sight} → n < l.nodes → x ≡ live_status →
      Look l g (Saw n v w k) (Load (status_address l n)) x (Saw n v w (record k { live = true })) None
  -- it loads a word of the node
  watches : {n v w x offset : ℕ} {k k' : Sight} → HasWordAt l n offset → 0 < offset → k'.live ≡ k.live →
      k'.next ≡ k.next →
      ((s t : Spot) → Sees k s t → s offset ≡ x → Sees k' s t) →
      Look l g (Saw n v w k) (Load (word_address l n offset)) x (Saw n v w k') None
  -- it loads an anchor word of the node that the listed node leads to
  watches_next : {n v w m x offset : ℕ} {k k' : Sight} → HasWordAt l m offset → anchor_offset ≤ offset →
      offset ≤ anchor_offset + 2 → m ≢ 0 →
      k.live ≡ true → k'.live ≡ true → k'.next ≡ m →
      ((s t : Spot) → Sees k s t → s next_offset ≡ m) → ((s t : Spot) → Sees k s t → t offset ≡ x → Sees k' s t) →
      Look l g (Saw n v w k) (Load (word_address l m offset)) x (Saw n v w k') None
  -- it goes on, or gives up, and relies on nothing that it saw
  turns_away : {s : Stage} {x m : ℕ} {r : Option (Once Placed)} → IsLoose s → m < l.nodes → GivesUp r →
      Look l g s (Load (status_address l m)) x Idle r
  steps_back : {s : Stage} {x m : ℕ} {r : Option (Once Placed)} → IsLoose s → m < l.nodes → GivesUp r →
      Look l g s (Load (prev_address l m)) x Idle r
  wanders : {s : Stage} {x m offset : ℕ} {r : Option (Once Placed)} → IsLoose s → HasWordAt l m offset → GivesUp r →
      Look l g s (Load (word_address l m offset)) x Idle r
  -- it loads the version word of another node, or its status,
  peeks : {n w x m : ℕ} {h : Held} → m < l.nodes → h.ready ≡ false →
      Look l g (Holds n w h) (Load (version_address l m)) x (Holds n w h) None
  peeks_status : {n w x m : ℕ} {h : Held} → m < l.nodes → h.ready ≡ false →
      Look l g (Holds n w h) (Load (status_address l m)) x (Holds n w h) None
  -- which it may claim, if that is free,
  eyes : {n w x m u : ℕ} {h : Held} → IsStill h → h.dirty ≡ [] → m < l.nodes → m ≢ 0 → IsFree x g → (IsWorn x g → ⊥) →
      u ≡ locked_word g (kept_count x g) →
      Look l g (Holds n w h) (Load (version_address l m)) x (Eyes n w h m x u false) None
  -- and its status is FREE;
  eyes_free : {n w x m v u : ℕ} {h : Held} → m < l.nodes → x ≡ free_status →
      Look l g (Eyes n w h m v u false) (Load (status_address l m)) x (Eyes n w h m v u true) None
  -- or goes on to the next
  passes : {n w x m v u : ℕ} {h : Held} {free : Bool} → m < l.nodes →
      Look l g (Eyes n w h m v u free) (Load (status_address l m)) x (Holds n w h) None
  loses : {n w x m v u : ℕ} {h : Held} {free : Bool} → m < l.nodes → x ≢ v →
      Look l g (Eyes n w h m v u free) (Exchange (version_address l m) v u) x (Holds n w h) None
  misses : {n v w x : ℕ} {k : Sight} → x ≢ v →
      Look l g (Saw n v w k) (Exchange (version_address l n) v w) x Idle (Some (once.Again (again.Moved n v x)))
  misses_read : {n v w x : ℕ} {k : Sight} → x ≢ v → w < 2 ^ 64 →
      Look l g (Reads n v k None) (Exchange (version_address l n) v w) x Idle (Some (once.Again (again.Moved n v x)))
  -- it loads the clock, which is below the limit if there is one still
  times : {n w x : ℕ} {h : Held} {limit : Option ℕ} → IsClean h → IfSome limit (λ most. x < most) →
      Look l g (Holds n w h) (Load (clock_address l)) x (Holds n w (record h { time = Some x; limit = limit })) None
  -- it loads a word of its node
  learns : {n w x offset : ℕ} {h : Held} {k : Known} → HasWordAt l n offset → 0 < offset → h.ready ≡ false →
      ((s : Spot) → IsTidy l.slots s → Knows h.name h.known s → s offset ≡ x → Knows h.name k s) →
      Look l g (Holds n w h) (Load (word_address l n offset)) x (Holds n w (record h { known = k })) None
  -- with the word that it loads it knows what its name had, and may find that the node shows its change already
  decides : {n w x offset : ℕ} {h : Held} {k : Known} {old : Option ℕ} {pending : Option Change} {ready : Bool} →
      HasWordAt l n offset → 0 < offset → IsClean h → h.dirty ≡ [] → IfSome pending (λ c. name_of c ≡ h.name) →
      ((s : Spot) → IsTidy l.slots s → Knows h.name h.known s → s offset ≡ x → Knows h.name k s) →
      ((range : List ℕ → Bool) (s : Spot) (m : Map) → range h.name ≡ true → Knows h.name h.known s → s offset ≡ x →
      Means l.slots range s m →
      (at m h.name ≡ old) × Means l.slots range s (pended pending m)) →
      Look l g (Holds n w h) (Load (word_address l n offset)) x (Holds n w (record h {
        known = k;
        old = Some old;
        pending = pending;
        ready = ready;
      })) None
  -- it takes no lock
  reads_on : {s : Stage} {a : Action} {x : ℕ} {t : Stage} {r : Option (Once Placed)} → Read l g s a x t r →
      Look l g s a x t r
  -- it loads a word of its node to make it durable
  glances : {n w x offset : ℕ} {h : Held} → HasWordAt l n offset → h.ready ≡ false →
      Look l g (Holds n w h) (Load (word_address l n offset)) x (Holds n w (record h { hand = Some (offset, x) })) None

-- A split that was refused: a node that it might have claimed was locked or moved, or no log line was empty.
abbrev pub IsRefusal : Again → Type 0
IsRefusal (again.Locked n word) = Unit {0}
IsRefusal (again.Moved n first second) = Unit {0}
IsRefusal again.LogFull = Unit {0}
IsRefusal _ = ⊥

-- What a call that gives its node back is answered.
pub data Answers (l : Layout) (h : Held) : Once Placed → Type 0 where
  writes : {old : Option ℕ} {place hops : ℕ} → h.placed ≡ Some place → h.old ≡ Some old →
      Answers l h (once.Done (record { old = old; place = place; hops = hops }))
  reads : {old : Option ℕ} {clock hops : ℕ} → h.placed ≡ None → h.time ≡ Some clock → h.old ≡ Some old →
      Answers l h (once.Done (record { old = old; place = clock; hops = hops }))
  is_spent : {clock : ℕ} → h.placed ≡ None → h.time ≡ Some clock → Answers l h (once.Spent clock)
  has_no_room : {clock : ℕ} → h.placed ≡ None → h.time ≡ Some clock → h.old ≡ Some None →
      ((s : Spot) → IsTidy l.slots s → Knows h.name h.known s → AreAllLive (s bitmap_offset) l.slots) →
      Answers l h (once.Again again.NoFree)
  refuses : {why : Again} → h.placed ≡ None → IsRefusal why → Answers l h (once.Again why)

-- Of the names of a range those that have moved, and those that stay.
abbrev pub from_key : (List ℕ → Bool) → ℕ → List ℕ → Bool
from_key range key name = range name && nat_le key (key_of name)

abbrev pub below_key : (List ℕ → Bool) → ℕ → List ℕ → Bool
below_key range key name = range name && nat_lt (key_of name) key

-- The words t are those of a node that takes from the full node s its names from t's anchor on, which are all but the
-- lower half.
pub record IsCut (slots : ℕ) (range : List ℕ → Bool) (s t : Spot) (m : Map) : Type 0 where
  pub leads : t next_offset ≡ s next_offset
  pub anchor : List ℕ
  pub named : IsName anchor
  pub anchored : anchor_in t ≡ key_of anchor
  pub inside : range anchor ≡ true
  pub lower : List ℕ  -- a name that stays
  pub lower_inside : range lower ≡ true
  pub below : key_of lower < key_of anchor
  pub means : Means slots (from_key range (anchor_in t)) t m
  pub stays : StaysIn slots (from_key range (anchor_in t)) t
  pub had : IsSome (at m anchor)  -- it is a name of the map
  pub full : names_in slots range s ≡ slots
  pub half : names_in slots (below_key range (anchor_in t)) s ≡ slots / 2

-- The steps of a split.
pub data Split (l : Layout) (g : ℕ) : Stage → Action → ℕ → Stage → Type 0 where
  -- it stores a word of the fresh node
  fills : {x y offset : ℕ} {left fresh : Grip} {seen dirty : List (ℕ × ℕ)} → HasWordAt l fresh.node offset →
      0 < offset → y < 2 ^ 64 → (offset ≡ next_offset → y < l.nodes) → Soils fresh.dirty offset dirty →
      ((t : Spot) → Tells fresh.seen t → Tells seen (updated t offset y)) →
      Split l g (Splits left fresh (Filling false)) (Store (word_address l fresh.node offset) y) x
      (Splits left (record fresh { seen = seen; dirty = dirty; hand = None }) (Filling false))
  -- it makes the fresh node's status LIVE
  lights : {x : ℕ} {left fresh : Grip} → fresh.node < l.nodes →
      ((t : Spot) → Tells fresh.seen t → t next_offset < l.nodes) →
      Split l g (Splits left fresh (Filling false)) (Store (status_address l fresh.node) live_status) x
      (Splits left fresh (Filling true))
  -- the switch: the full node leads to the fresh one, whose words are all durable
  switches : {x : ℕ} {left fresh : Grip} {seen dirty : List (ℕ × ℕ)} → left.node < l.nodes → fresh.node < 2 ^ 64 →
      fresh.dirty ≡ [] → IsAmong dirty next_offset →
      ((range : List ℕ → Bool) (s t : Spot) (m : Map) → Tells left.seen s → Tells fresh.seen t →
      Means l.slots range s m → StaysIn l.slots range s → IsCut l.slots range s t m) →
      ((s : Spot) → Tells left.seen s → Tells seen (updated s next_offset fresh.node)) →
      ((range : List ℕ → Bool) (s : Spot) (m : Map) → Means l.slots range s m →
      Means l.slots range (updated s next_offset fresh.node) m) →
      Split l g (Splits left fresh (Filling true)) (Store (word_address l left.node next_offset) fresh.node) x
      (Splits (record left { seen = seen; dirty = dirty; hand = None }) fresh Linked)
  -- it loads a word of the full node, which it knows then, or of the fresh one, to make it durable
  glances_left : {x offset : ℕ} {left fresh : Grip} {phase : Phase} {seen : List (ℕ × ℕ)} →
      HasWordAt l left.node offset →
      ((s : Spot) → Tells left.seen s → (0 < offset → s offset ≡ x) → Tells seen s) →
      Split l g (Splits left fresh phase) (Load (word_address l left.node offset)) x (Splits (record left {
        seen = seen;
        hand = Some (offset, x);
      }) fresh phase)
  glances_fresh : {x offset : ℕ} {left fresh : Grip} {phase : Phase} → HasWordAt l fresh.node offset →
      Split l g (Splits left fresh phase) (Load (word_address l fresh.node offset)) x
      (Splits left (record fresh { hand = Some (offset, x) }) phase)
  -- and makes it durable
  drains_left : {x y offset : ℕ} {left fresh : Grip} {phase : Phase} {dirty : List (ℕ × ℕ)} →
      HasWordAt l left.node offset → y < 2 ^ 64 → left.hand ≡ Some (offset, y) →
      Cleans left.dirty offset dirty →
      Split l g (Splits left fresh phase) (Drain (word_address l left.node offset) y) x (Splits (record left {
        dirty = dirty;
        hand = None;
      }) fresh phase)
  drains_fresh : {x y offset : ℕ} {left fresh : Grip} {phase : Phase} {dirty : List (ℕ × ℕ)} →
      HasWordAt l fresh.node offset → y < 2 ^ 64 → fresh.hand ≡ Some (offset, y) →
      Cleans fresh.dirty offset dirty →
      Split l g (Splits left fresh phase) (Drain (word_address l fresh.node offset) y) x
      (Splits left (record fresh { dirty = dirty; hand = None }) phase)
  -- with this bitmap, before which the switch is durable, the full node has no longer the names that moved
  trims : {x y key : ℕ} {left fresh : Grip} {seen dirty : List (ℕ × ℕ)} → left.node < l.nodes → y < 2 ^ 64 →
      left.dirty ≡ [] → IsAmong dirty bitmap_offset →
      ((t : Spot) → Tells fresh.seen t → anchor_in t ≡ key) →
      ((s : Spot) → Tells left.seen s → Tells seen (updated s bitmap_offset y)) →
      ((range : List ℕ → Bool) (s : Spot) (m : Map) → Tells left.seen s → Means l.slots range s m →
      StaysIn l.slots range s →
      Means l.slots (below_key range key) (updated s bitmap_offset y) m ×
      StaysIn l.slots (below_key range key) (updated s bitmap_offset y)) →
      Split l g (Splits left fresh Linked) (Store (word_address l left.node bitmap_offset) y) x
      (Splits (record left { seen = seen; dirty = dirty; hand = None }) fresh Parted)

-- With the words s the node has the names of both ranges, and they are at most half as many as it has slots.
pub record IsGathered (slots : ℕ) (range other : List ℕ → Bool) (s : Spot) (m : Map) : Type 0 where
  pub means : Means slots (λ name. range name || other name) s m
  pub stays : StaysIn slots (λ name. range name || other name) s
  pub few : names_in slots (λ name. range name || other name) s ≤ slots / 2

-- The steps of a merge.
pub data Merge (l : Layout) (g : ℕ) : Stage → Action → ℕ → Stage → Type 0 where
  -- once its change is counted, it takes the lock of the node that its own leads to
  meets : {n w x m v u : ℕ} {h : Held} → m < l.nodes → x ≡ v → MayMerge h →
      ((s : Spot) → Knows h.name h.known s → s next_offset ≡ m) →
      Merge l g (Eyes n w h m v u false) (Exchange (version_address l m) v u) x (Meets n w h (fresh_grip m u))
  -- it loads words of both,
  knows_own : {n w x offset : ℕ} {h : Held} {right : Grip} {k : Known} → HasWordAt l n offset → 0 < offset →
      ((s : Spot) → IsTidy l.slots s → Knows h.name h.known s → s offset ≡ x → Knows h.name k s) →
      Merge l g (Meets n w h right) (Load (word_address l n offset)) x (Meets n w (record h { known = k }) right)
  knows_right : {n w x offset : ℕ} {h : Held} {right : Grip} {seen : List (ℕ × ℕ)} → HasWordAt l right.node offset →
      0 < offset →
      ((t : Spot) → Tells right.seen t → t offset ≡ x → Tells seen t) →
      Merge l g (Meets n w h right) (Load (word_address l right.node offset)) x (Meets n w h (record right {
        seen = seen;
      }))
  -- stores copies where they change nothing of what its own node means,
  copies : {n w x y offset : ℕ} {h : Held} {right : Grip} {k : Known} {dirty seen copied : List (ℕ × ℕ)} →
      HasWordAt l n offset → IsContent offset → y < 2 ^ 64 → Soils h.dirty offset dirty →
      ((s t : Spot) → IsTidy l.slots s → Knows h.name h.known s → Tells right.seen t → AreCopies right.copied s t →
      Knows h.name k (updated s offset y) × Tells seen t × AreCopies copied (updated s offset y) t) →
      ((range : List ℕ → Bool) (s : Spot) (m : Map) → KnowsDurable h s → Means l.slots range s m →
      Means l.slots range (updated s offset y) m) →
      Merge l g (Meets n w h right) (Store (word_address l n offset) y) x (Meets n w (record h {
        known = k;
        dirty = dirty;
        hand = None;
      }) (record right { seen = seen; copied = copied }))
  -- and makes them durable;
  takes_up : {n w x offset : ℕ} {h : Held} {right : Grip} → HasWordAt l n offset →
      Merge l g (Meets n w h right) (Load (word_address l n offset)) x (Meets n w (record h {
        hand = Some (offset, x);
      }) right)
  puts_down : {n w x y offset : ℕ} {h : Held} {right : Grip} {dirty : List (ℕ × ℕ)} → HasWordAt l n offset →
      y < 2 ^ 64 → h.hand ≡ Some (offset, y) → Cleans h.dirty offset dirty →
      Merge l g (Meets n w h right) (Drain (word_address l n offset) y) x (Meets n w (record h {
        dirty = dirty;
        hand = None;
      }) right)
  -- or it gives the other node back
  parts : {n w x freed : ℕ} {h : Held} {right : Grip} → freed ≡ right.lock + 1 →
      Merge l g (Meets n w h right) (Store (version_address l right.node) freed) x (Holds n w h)
  -- with this bitmap, before which all is durable, its own node has the names of the other one too
  gathers : {n w x y : ℕ} {h : Held} {right : Grip} {seen dirty : List (ℕ × ℕ)} → y < 2 ^ 64 → h.dirty ≡ [] →
      IsAmong dirty bitmap_offset →
      ((s : Spot) → Knows h.name h.known s → Tells seen (updated s bitmap_offset y)) →
      ((range other : List ℕ → Bool) (s t : Spot) (m : Map) →
      ((name : List ℕ) → range name ≡ true → other name ≡ true → ⊥) → Knows h.name h.known s → Tells right.seen t →
      AreCopies right.copied s t →
      Means l.slots range s m → StaysIn l.slots range s → Means l.slots other t m → StaysIn l.slots other t →
      IsGathered l.slots range other (updated s bitmap_offset y) m) →
      Merge l g (Meets n w h right) (Store (word_address l n bitmap_offset) y) x
      (Joins h (left_grip n w seen dirty) right Gathered)
  -- the switch: the left node, whose words are all durable, leads on where the right one leads
  joins : {x y : ℕ} {h : Held} {left right : Grip} {seen dirty : List (ℕ × ℕ)} → y < 2 ^ 64 → left.dirty ≡ [] →
      IsAmong dirty next_offset →
      ((t : Spot) → Tells right.seen t → t next_offset ≡ y) →
      ((s : Spot) → Tells left.seen s → Tells seen (updated s next_offset y)) →
      Merge l g (Joins h left right Gathered) (Store (word_address l left.node next_offset) y) x
      (Joins h (record left { seen = seen; dirty = dirty; hand = None }) right Joined)
  -- it loads a word of the left node, which it knows then, to make it durable
  glances_joined : {x offset : ℕ} {h : Held} {left right : Grip} {pace : Pace} {seen : List (ℕ × ℕ)} →
      HasWordAt l left.node offset →
      ((s : Spot) → Tells left.seen s → (0 < offset → s offset ≡ x) → Tells seen s) →
      Merge l g (Joins h left right pace) (Load (word_address l left.node offset)) x (Joins h (record left {
        seen = seen;
        hand = Some (offset, x);
      }) right pace)
  -- and makes it durable
  drains_joined : {x y offset : ℕ} {h : Held} {left right : Grip} {pace : Pace} {dirty : List (ℕ × ℕ)} →
      HasWordAt l left.node offset → y < 2 ^ 64 → left.hand ≡ Some (offset, y) →
      Cleans left.dirty offset dirty →
      Merge l g (Joins h left right pace) (Drain (word_address l left.node offset) y) x (Joins h (record left {
        dirty = dirty;
        hand = None;
      }) right pace)
  -- once the switch is durable, it makes the right node's status GONE,
  retires : {x : ℕ} {h : Held} {left right : Grip} → left.dirty ≡ [] →
      Merge l g (Joins h left right Joined) (Store (status_address l right.node) gone_status) x
      (Joins h left right Gone)
  -- and gives it back
  yields : {x freed : ℕ} {h : Held} {left right : Grip} → freed ≡ right.lock + 1 → left.dirty ≡ [] →
      Merge l g (Joins h left right Gone) (Store (version_address l right.node) freed) x
      (Holds left.node left.lock (merged_held h))

-- From one stage to the next by an action that may change its word.
pub data Step (l : Layout) (g : ℕ) : Stage → Action → ℕ → Stage → Option (Once Placed) → Type 0 where
  looks : {s : Stage} {a : Action} {x : ℕ} {t : Stage} {r : Option (Once Placed)} → Look l g s a x t r →
      Step l g s a x t r
  -- as it locks the node, what it saw means that its name belongs there
  locks : {n v w x : ℕ} {k : Sight} {name : List ℕ} → x ≡ v → IsName name → k.live ≡ true →
      ((s t : Spot) → Sees k s t → IsBetween s t (key_of name)) →
      Step l g (Saw n v w k) (Exchange (version_address l n) v w) x (Holds n w (just_held name)) None
  -- it took no lock so far, and locks the node at which its walk is, from which one can still be taken
  locks_read : {n v w x : ℕ} {k : Sight} {name : List ℕ} → x ≡ v → IsName name → k.live ≡ true →
      ((s t : Spot) → Sees k s t → IsBetween s t (key_of name)) → (IsWorn v g → ⊥) →
      w ≡ locked_word g (kept_count v g) → w < 2 ^ 64 →
      Step l g (Reads n v k None) (Exchange (version_address l n) v w) x (Holds n w (just_held name)) None
  -- it stores a word that changes nothing of what the node means, whichever of its earlier stores are durable yet
  stores : {n w x y offset : ℕ} {h : Held} {k : Known} {dirty : List (ℕ × ℕ)} → HasWordAt l n offset →
      IsContent offset → y < 2 ^ 64 → IsClean h →
      Soils h.dirty offset dirty →
      ((s : Spot) → IsTidy l.slots s → Knows h.name h.known s → Knows h.name k (updated s offset y)) →
      ((range : List ℕ → Bool) (s : Spot) (m : Map) → KnowsDurable h s → Means l.slots range s m →
      Means l.slots range (updated s offset y) m) →
      Step l g (Holds n w h) (Store (word_address l n offset) y) x (Holds n w (record h {
        known = k;
        dirty = dirty;
        hand = None;
      })) None
  -- with this store, before which all is durable, the node means the map with the call's change
  commits : {n w x y offset : ℕ} {h : Held} {k : Known} {dirty : List (ℕ × ℕ)} {old : Option ℕ} {c : Change} →
      HasWordAt l n offset → IsContent offset → y < 2 ^ 64 → IsClean h → h.dirty ≡ [] → IsAmong dirty offset →
      h.old ≡ Some old → name_of c ≡ h.name →
      ((s : Spot) → IsTidy l.slots s → Knows h.name h.known s → Knows h.name k (updated s offset y)) →
      ((range : List ℕ → Bool) (s : Spot) (m : Map) → range h.name ≡ true → Knows h.name h.known s → at m h.name ≡ old →
      Means l.slots range s m →
      Means l.slots range (updated s offset y) (changed m c)) →
      Step l g (Holds n w h) (Store (word_address l n offset) y) x (Holds n w (record h {
        known = k;
        dirty = dirty;
        hand = None;
        pending = Some c;
      })) None
  -- it makes the word that it loaded durable, and may then be ready to count
  drains : {n w x y offset : ℕ} {h : Held} {dirty : List (ℕ × ℕ)} {ready : Bool} → HasWordAt l n offset → y < 2 ^ 64 →
      h.ready ≡ false →
      h.hand ≡ Some (offset, y) → Cleans h.dirty offset dirty →
      Step l g (Holds n w h) (Drain (word_address l n offset) y) x (Holds n w (record h {
        dirty = dirty;
        hand = None;
        ready = ready;
      })) None
  -- it counts its change, once all is durable
  counts : {n w x : ℕ} {h : Held} {c : Change} → h.dirty ≡ [] → h.ready ≡ true → h.pending ≡ Some c → h.placed ≡ None →
      Step l g (Holds n w h) (Add (clock_address l)) x (Holds n w (record h {
        time = None;
        pending = None;
        ready = false;
        placed = Some x;
      })) None
  unlocks : {n w x f : ℕ} {h : Held} {r : Once Placed} → f ≡ w + 1 → h.pending ≡ None → h.dirty ≡ [] → h.ready ≡ false →
      Answers l h r →
      Step l g (Holds n w h) (Store (version_address l n) f) x Idle (Some r)
  splits : {s : Stage} {a : Action} {x : ℕ} {t : Stage} → Split l g s a x t → Step l g s a x t None
  merges : {s : Stage} {a : Action} {x : ℕ} {t : Stage} → Merge l g s a x t → Step l g s a x t None
  -- it claims the node that it saw free
  claims : {n w x m v u : ℕ} {h : Held} → MaySplit h → m < l.nodes → x ≡ v →
      Step l g (Eyes n w h m v u true) (Exchange (version_address l m) v u) x
      (Splits (full_grip n w h) (fresh_grip m u) (Filling false)) None
  -- it gives back the fresh node, which is listed
  publishes : {x freed : ℕ} {left fresh : Grip} → freed ≡ fresh.lock + 1 → left.dirty ≡ [] → fresh.dirty ≡ [] →
      Step l g (Splits left fresh Parted) (Store (version_address l fresh.node) freed) x (Leaves left) None
  -- and the other
  leaves : {x freed : ℕ} {left : Grip} → freed ≡ left.lock + 1 →
      Step l g (Leaves left) (Store (version_address l left.node) freed) x Idle
      (Some (once.Again (again.NeedsSplit left.node)))
