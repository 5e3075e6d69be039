-- What holds of an index and the calls in flight between any two steps.
use Rattle.std.specs.Prelude.{◌≡◌, ◌≢◌, ℕ, ◌/◌, ◌<◌, ◌≤◌, ◌⊎◌, ◌||◌, Bool, true, false, List, [], length, slice_index}
use Rattle.std.specs.Prelude.{slice_get, Option, Some, None, IfSome, IsSome}
use mathlib.Core.Option.{some}
use lib.ListN.{get_elem?}
use Rattle.pm_words.specs.Codes.{free_status, live_status, gone_status}
use Rattle.pm_words.specs.declared.layout.Layout.{Layout}
use Rattle.pm_words.specs.Locations.{Cached, Durable}
use Rattle.pm_words.specs.Rows.{IsRow}
use Rattle.pm_words.specs.Offsets.{next_offset}
use Rattle.version_lock.specs.declared.TheConstants.{LAST_COUNT}
use Rattle.version_lock.specs.Versions.{generation_of, count_of, kept_count, locked_word, IsFree, IsLocked, IsWorn}
use Rattle.version_lock.specs.Versions.{IsGeneration}
use Rattle.cat_key.specs.Names.{IsName}
use Rattle.cat_history.specs.Maps.{Map, at}
use Rattle.cat_history.specs.Writes.{name_of, after, after_all}
use Rattle.cat_history.specs.declared.op.Change.{Change}
use Rattle.cat_history.specs.declared.op.Write.{Write}
use Rattle.data_node.specs.Spots.{Means}
use Rattle.data_node.specs.Lists.{key_of, anchor_in, MakeList, StaysIn}
use Rattle.data_node.specs.Weights.{names_in}
use Rattle.call_stages.specs.Kinds.{IsStill, clock_address, from_key}
use Rattle.call_stages.specs.Stages.{Knows, Held, Sight, Sees, Grip, Tells, Phase, Filling, Linked, Parted, Pace}
use Rattle.call_stages.specs.Stages.{Gathered, Joined, Gone, Stage, Idle, Saw, Wears, Reads, Holds, Eyes, Splits}
use Rattle.call_stages.specs.Stages.{Leaves}
use Rattle.call_stages.specs.Stages.{Meets, Joins, HoldsNode, AreCopies, pended}
use Rattle.index_law.specs.Facts.{Facts, map_now, range_of, cached_word, IsListed}
use Rattle.index_law.specs.Twins.{BacksStage, AreDurable, AreDurablyKnown, IsFront}
use Rattle.index_law.specs.Worlds.{Party, World, facts}

-- The words of the nodes make the list. It reads where the nodes lead, and the anchors of those that are listed.
abbrev pub IsList : Layout → Facts → Type 0
IsList l f = MakeList l.nodes f.now f.list

-- A listed node's status is LIVE, and a LIVE node leads to one of the layout's. One whose version word is free is
-- listed.
pub record AreLive (l : Layout) (g : ℕ) (f : Facts) : Type 0 where
  pub live : (n : ℕ) → IsListed f n → f.status n ≡ live_status
  pub listed : (n : ℕ) → n < l.nodes → f.status n ≡ live_status → IsFree (f.version n) g → IsListed f n
  pub leads : (n : ℕ) → n < l.nodes → f.status n ≡ live_status → f.now n next_offset < l.nodes
  pub three : (n : ℕ) → n < l.nodes → f.status n ≤ gone_status  -- it is FREE, LIVE or GONE

-- The node means the map on its range, and has no live slot out of it.
pub record IsSettled (l : Layout) (f : Facts) (n : ℕ) : Type 0 where
  pub means : Means l.slots (range_of l f n) (f.now n) (map_now f)
  pub stays : StaysIn l.slots (range_of l f n) (f.now n)

-- A lock that was taken in this generation and can be given back.
pub record IsOwnLock (g w : ℕ) : Type 0 where
  pub locked : IsLocked w
  pub own : generation_of w ≡ g
  pub unworn : count_of w < LAST_COUNT

-- What a party knows that loaded the version word v of node n and means to put w there. It reads that version word,
-- which never falls.
pub record Stands (f : Facts) (n : ℕ) (k : Sight) : Type 0 where
  pub listed : k.live ≡ true → IsListed f n
  pub sees : Sees k (f.now n) (f.now (f.now n next_offset))
  pub leads : k.next ≢ 0 → IsListed f n

-- The version word of this node, as it was loaded, is free and not worn, and this is the word that takes it.
pub record CanBeTaken (l : Layout) (g n v w : ℕ) : Type 0 where
  pub here : n < l.nodes
  pub known : generation_of v ≤ g
  pub free : IsFree v g
  pub unworn : IsWorn v g → ⊥
  pub lock : w ≡ locked_word g (kept_count v g)

-- If the version word is still the one that it saw, the node is listed, and its words and the anchor of the node that
-- it leads to are as seen.
pub record SureSaw (l : Layout) (g : ℕ) (f : Facts) (n v w : ℕ) (k : Sight) : Type 0 where
  pub word : CanBeTaken l g n v w
  pub seen : v ≤ f.version n
  pub leads : k.live ≡ true → f.now n next_offset < l.nodes
  pub stands : f.version n ≡ v → Stands f n k

-- The clock that a call loaded lies in its time, below the limit if there is one, and on the range of the node that it
-- holds or read the map has been the same at every place since. It reads the map on this range.
pub record IsTime (range : List ℕ →
    Bool) (base : Map) (history : List Write) (since : ℕ) (limit : Option ℕ) (clock : ℕ) : Type 0 where
  pub later : since ≤ clock
  pub within : clock ≤ length history
  pub below : IfSome limit (λ most. clock < most)
  pub same : (place : ℕ) → clock ≤ place → place ≤ length history → (name : List ℕ) → range name ≡ true →
      at (after base history place) name ≡ at (after_all base history) name

-- At this place the history has the call's write of the name.
pub record HasWriteAt (history : List Write) (caller index : ℕ) (name : List ℕ) (place : ℕ) : Type 0 where
  pub change : Change
  pub about : name_of change ≡ name
  pub stands : slice_get history place ≡ Some (record { caller = caller; index = index; change = change })

-- The call's change was counted, in its time, at this place.
pub record IsPlaced (history : List Write) (caller index since : ℕ) (name : List ℕ) (place : ℕ) : Type 0 where
  pub later : since ≤ place
  pub within : place < length history
  pub write : HasWriteAt history caller index name place

-- The map that a call took effect on: that of its place, and as long as it has none the map as it is.
abbrev pub map_before : Facts → Option ℕ → Map
map_before f None = map_now f
map_before f (Some place) = after f.base f.history place

-- What a party knows that holds node n. It reads the words of this node, and the map on its range.
pub record SureHolds (l : Layout) (g : ℕ) (f : Facts) (caller index since n w : ℕ) (h : Held) : Type 0 where
  pub here : n < l.nodes
  pub stands : f.version n ≡ w
  pub lock : IsOwnLock g w
  pub named : IsName h.name
  pub inside : range_of l f n h.name ≡ true
  pub knows : Knows h.name h.known (f.now n)
  pub hand : IfSome h.hand (λ hand. cached_word f n hand.0 ≡ hand.1)
  pub means : Means l.slots (range_of l f n) (f.now n) (pended h.pending (map_now f))
  pub stays : StaysIn l.slots (range_of l f n) (f.now n)
  pub about : IfSome h.pending (λ c. name_of c ≡ h.name)
  -- what is pending has no place, and it is known what the name had
  pub shown : IfSome h.pending (λ c. (h.placed ≡ None) × IsSome h.old)
  pub below : IfSome h.limit (λ most. since < most)  -- the history hadn't reached the limit as the call began
  pub time : IfSome h.time (IsTime (range_of l f n) f.base f.history since h.limit)
  pub old : IfSome h.old (λ old. at (map_before f h.placed) h.name ≡ old)
  pub placed : IfSome h.placed (IsPlaced f.history caller index since h.name)

-- What a party knows of a node that it holds in a split. It reads the words of this node.
pub record SureGrip (l : Layout) (g : ℕ) (f : Facts) (k : Grip) : Type 0 where
  pub here : k.node < l.nodes
  pub stands : f.version k.node ≡ k.lock
  pub lock : IsOwnLock g k.lock
  pub seen : Tells k.seen (f.now k.node)
  pub hand : IfSome k.hand (λ hand. cached_word f k.node hand.0 ≡ hand.1)

-- The call that splits the node is about a name of its range, and what that name had it has still.
pub record IsAsked (l : Layout) (f : Facts) (k : Grip) : Type 0 where
  pub named : IsName k.name
  pub inside : range_of l f k.node k.name ≡ true
  pub had : IfSome k.old (λ old. at (map_now f) k.name ≡ old)
  pub lacked : k.old ≡ Some None

-- The fresh node isn't listed yet, and the full one is as one that nobody changes.
pub record IsFilling (l : Layout) (f : Facts) (left fresh : Grip) (lit : Bool) : Type 0 where
  pub listed : IsListed f left.node
  pub unlisted : IsListed f fresh.node → ⊥
  pub settled : IsSettled l f left.node
  pub asked : IsAsked l f left
  pub bright : lit ≡ true → f.status fresh.node ≡ live_status
  pub dark : lit ≡ false → f.status fresh.node ≡ free_status

-- The full node leads to the fresh one. It means the map on the ranges of both, and the fresh one on its own.
pub record IsLinked (l : Layout) (f : Facts) (left fresh : Grip) : Type 0 where
  pub listed : IsListed f left.node
  pub listed_fresh : IsListed f fresh.node
  pub leads : f.now left.node next_offset ≡ fresh.node
  pub means : Means l.slots (λ name. range_of l f left.node name || range_of l f fresh.node name) (f.now left.node)
      (map_now f)
  pub stays : StaysIn l.slots (λ name. range_of l f left.node name || range_of l f fresh.node name) (f.now left.node)
  pub settled : IsSettled l f fresh.node

-- Each means the map on its range.
pub record IsParted (l : Layout) (f : Facts) (left fresh : Grip) : Type 0 where
  pub listed : IsListed f left.node
  pub listed_fresh : IsListed f fresh.node
  pub settled_left : IsSettled l f left.node
  pub settled : IsSettled l f fresh.node

abbrev pub IsAtPhase : Layout → Facts → Grip → Grip → Phase → Type 0
IsAtPhase l f left fresh (Filling lit) = IsFilling l f left fresh lit
IsAtPhase l f left fresh Linked = IsLinked l f left fresh
IsAtPhase l f left fresh Parted = IsParted l f left fresh

-- What a party knows that splits a node.
pub record SureSplits (l : Layout) (g : ℕ) (f : Facts) (left fresh : Grip) (phase : Phase) : Type 0 where
  pub full : SureGrip l g f left
  pub new : SureGrip l g f fresh
  pub apart : left.node ≢ fresh.node
  pub nonzero : fresh.node ≢ 0
  pub at : IsAtPhase l f left fresh phase

-- What a party knows of a node that it may claim. It reads the version word and the status of this node.
pub record SureEyes (l : Layout) (g : ℕ) (f : Facts) (h : Held) (m v u : ℕ) (free : Bool) : Type 0 where
  pub clean : IsStill h
  pub durable : h.dirty ≡ []
  pub nonzero : m ≢ 0
  pub word : CanBeTaken l g m v u
  pub seen : v ≤ f.version m
  pub stands : f.version m ≡ v → free ≡ true → f.status m ≡ free_status

-- What a party knows of a worn node: its version word is the one that it loaded, for good. It reads the version word.
pub record SureWears (l : Layout) (g : ℕ) (f : Facts) (n v : ℕ) : Type 0 where
  pub here : n < l.nodes
  pub free : IsFree v g
  pub worn : IsWorn v g
  pub stands : f.version n ≡ v

-- What a reader learnt of its node once it had loaded the clock, as long as the version word stands. It reads the words
-- of this node, and the map on its range.
pub record IsRead (l : Layout) (f : Facts) (since n : ℕ) (h : Held) : Type 0 where
  pub listed : IsListed f n
  pub named : IsName h.name
  pub inside : range_of l f n h.name ≡ true
  pub settled : IsSettled l f n
  pub knows : Knows h.name h.known (f.now n)
  pub time : IfSome h.time (IsTime (range_of l f n) f.base f.history since None)
  pub old : IfSome h.old (λ old. at (map_now f) h.name ≡ old)

-- A reader is about a name, and has no limit.
pub record IsReader (h : Held) : Type 0 where
  pub named : IsName h.name
  pub unlimited : h.limit ≡ None

-- What a party knows that takes no lock. If the version word is still the one that it saw, the node is listed, what it
-- saw and read of it is as it saw and read it, and on the node's range the map hasn't changed since its clock.
pub record SureReads (l : Layout) (g : ℕ) (f : Facts) (since n v : ℕ) (k : Sight) (h : Option Held) : Type 0 where
  pub here : n < l.nodes
  pub known : generation_of v ≤ g
  pub free : IsFree v g
  pub seen : v ≤ f.version n
  pub reader : IfSome h IsReader
  pub stands : f.version n ≡ v → Stands f n k
  pub read : f.version n ≡ v → IfSome h (IsRead l f since n)

-- What a party knows of the node that it gives back last.
pub record SureLeaves (l : Layout) (g : ℕ) (f : Facts) (left : Grip) : Type 0 where
  pub grip : SureGrip l g f left
  pub listed : IsListed f left.node
  pub settled : IsSettled l f left.node

-- What a party knows, beside what it does as it holds the first node, that holds the node too to which that leads.
pub record SureMeets (l : Layout) (g : ℕ) (f : Facts) (n : ℕ) (h : Held) (right : Grip) : Type 0 where
  pub still : IsStill h
  pub untimed : h.time ≡ None
  pub unmerged : h.merged ≡ false
  pub grip : SureGrip l g f right
  pub copies : AreCopies right.copied (f.now n) (f.now right.node)
  pub apart : n ≢ right.node
  pub nonzero : right.node ≢ 0
  pub leads : f.now n next_offset ≡ right.node
  pub settled : IsSettled l f right.node

-- What a party knows of its call whose change is counted, as it needs it to answer.
pub record SureCounted (l : Layout) (f : Facts) (caller index since n : ℕ) (h : Held) : Type 0 where
  pub unmerged : h.merged ≡ false
  pub named : IsName h.name
  pub inside : range_of l f n h.name ≡ true
  pub below : IfSome h.limit (λ most. since < most)
  pub old : IfSome h.old (λ old. at (map_before f h.placed) h.name ≡ old)
  pub placed : IfSome h.placed (IsPlaced f.history caller index since h.name)

-- The left node means the map on the ranges of both, and the right one on its own. Together they have few names.
pub record IsGatheredAt (l : Layout) (f : Facts) (left right : Grip) : Type 0 where
  pub linked : IsLinked l f left right
  pub few : names_in l.slots (λ name. range_of l f left.node name || range_of l f right.node name) (f.now left.node) ≤
      l.slots / 2

-- The right node isn't listed any more, though its status is LIVE, and the left one is as one that nobody changes. The
-- words of the right one are still those of a node that might stand behind the left one.
pub record IsJoinedAt (l : Layout) (f : Facts) (left right : Grip) : Type 0 where
  pub listed : IsListed f left.node
  pub unlisted : IsListed f right.node → ⊥
  pub settled : IsSettled l f left.node
  pub bright : f.status right.node ≡ live_status
  pub leads : f.now left.node next_offset ≡ f.now right.node next_offset
  pub anchor : List ℕ
  pub named : IsName anchor
  pub anchored : anchor_in (f.now right.node) ≡ key_of anchor
  pub inside : range_of l f left.node anchor ≡ true
  pub up : anchor_in (f.now left.node) < anchor_in (f.now right.node)
  pub kept : Means l.slots (from_key (range_of l f left.node) (anchor_in (f.now right.node))) (f.now right.node)
      (map_now f)
  pub few : names_in l.slots (range_of l f left.node) (f.now left.node) ≤ l.slots / 2

-- The right node is GONE. Its anchor belongs to the left one.
pub record IsGoneAt (l : Layout) (f : Facts) (left right : Grip) : Type 0 where
  pub listed : IsListed f left.node
  pub unlisted : IsListed f right.node → ⊥
  pub settled : IsSettled l f left.node
  pub gone : f.status right.node ≡ gone_status
  pub anchor : List ℕ
  pub named : IsName anchor
  pub anchored : anchor_in (f.now right.node) ≡ key_of anchor
  pub inside : range_of l f left.node anchor ≡ true

abbrev pub IsAtPace : Layout → Facts → Grip → Grip → Pace → Type 0
IsAtPace l f left right Gathered = IsGatheredAt l f left right
IsAtPace l f left right Joined = IsJoinedAt l f left right
IsAtPace l f left right Gone = IsGoneAt l f left right

-- What a party knows that merges the right node into the left one.
pub record SureJoins (l : Layout) (g : ℕ) (f : Facts) (caller index since : ℕ) (h : Held) (left right : Grip)
    (pace : Pace) : Type 0 where
  pub call : SureCounted l f caller index since left.node h
  pub one : SureGrip l g f left
  pub other : SureGrip l g f right
  pub apart : left.node ≢ right.node
  pub nonzero : right.node ≢ 0
  pub at : IsAtPace l f left right pace

-- What a party knows at its stage.
abbrev pub Sure : Layout → ℕ → Facts → ℕ → ℕ → ℕ → Stage → Type 0
Sure l g f caller index since Idle = Unit {0}
Sure l g f caller index since (Saw n v w k) = SureSaw l g f n v w k
Sure l g f caller index since (Holds n w h) = SureHolds l g f caller index since n w h
Sure l g f caller index since (Eyes n w h m v u free) = SureHolds l g f caller index since n w h ×
    SureEyes l g f h m v u free
Sure l g f caller index since (Splits left fresh phase) = SureSplits l g f left fresh phase
Sure l g f caller index since (Leaves left) = SureLeaves l g f left
Sure l g f caller index since (Wears n v) = SureWears l g f n v
Sure l g f caller index since (Reads n v k h) = SureReads l g f since n v k h
Sure l g f caller index since (Meets n w h right) = SureHolds l g f caller index since n w h × SureMeets l g f n h right
Sure l g f caller index since (Joins h left right pace) = SureJoins l g f caller index since h left right pace

-- What holds of each party.
abbrev pub Each : (Party → Type 0) → List Party → Type 0
Each P parties = (i : ℕ) (p : Party) → get_elem? parties i ≡ some p → P p

-- No two parties hold one node. It reads the stages alone.
abbrev pub AreAlone : List Party → Type 0
AreAlone parties = (i j n : ℕ) (p q : Party) → get_elem? parties i ≡ some p → get_elem? parties j ≡ some q →
    HoldsNode p.stage n → HoldsNode q.stage n → i ≡ j

-- Some party holds the node. It reads the stages alone.
pub record IsHeld (parties : List Party) (n : ℕ) : Type 0 where
  pub number : ℕ
  pub party : Party
  pub there : get_elem? parties number ≡ some party
  pub holds : HoldsNode party.stage n

-- A listed node whose version word is free means the map on its range. It reads the words of the nodes, and the map.
abbrev pub AreSettled : Layout → ℕ → Facts → Type 0
AreSettled l g f = (n : ℕ) → IsListed f n → IsFree (f.version n) g → IsSettled l f n

-- Each node is free, or some party holds it. It reads the version words and the stages.
abbrev pub AreFreeOrHeld : Layout → ℕ → Facts → List Party → Type 0
AreFreeOrHeld l g f parties = (n : ℕ) → n < l.nodes → IsFree (f.version n) g ⊎ IsHeld parties n

-- No version word is of a later run. It reads the version words.
abbrev pub AreKnown : Layout → ℕ → Facts → Type 0
AreKnown l g f = (n : ℕ) → n < l.nodes → generation_of (f.version n) ≤ g

-- The clock is the length of the history. It reads the clock alone.
abbrev pub ClockCounts : Layout → List ℕ → List Write → Type 0
ClockCounts l words history = slice_index words (clock_address l) ≡ length history

-- Each call began no later than now. It reads no word.
abbrev pub HaveBegun : List Write → List Party → Type 0
HaveBegun history parties = Each (λ p. p.since ≤ length history) parties

-- Each party is sure of what its stage relies on. It reads the words that the stages name.
abbrev pub AreSure : Layout → ℕ → Facts → List Party → Type 0
AreSure l g f parties = Each (λ p. Sure l g f p.caller p.index p.since p.stage) parties

-- The durable twins of each node that a party holds back its call. It reads the words of these nodes, both twins, and
-- the map on their ranges.
abbrev pub AreBacked : Layout → Facts → List ℕ → List Party → Type 0
AreBacked l f words parties = Each (λ p. BacksStage l f words p.stage) parties

-- The index is lawful.
-- The names of the map are names.
abbrev pub HasNames : Map → Type 0
HasNames m = (name : List ℕ) (value : ℕ) → at m name ≡ Some value → IsName name

pub record Lawful (w : World) : Type 0 where
  pub named : HasNames (map_now (facts w))
  pub list : IsList w.layout (facts w)
  pub live : AreLive w.layout w.generation (facts w)
  pub run : IsGeneration w.generation
  pub row : IsRow w.layout w.words  -- it reads the header, and that each word has 64 bits
  pub clock : ClockCounts w.layout w.words w.history
  pub versions : AreKnown w.layout w.generation (facts w)
  pub sure : AreSure w.layout w.generation (facts w) w.parties
  pub begun : HaveBegun w.history w.parties
  pub alone : AreAlone w.parties
  pub settled : AreSettled w.layout w.generation (facts w)
  pub held : AreFreeOrHeld w.layout w.generation (facts w) w.parties
  pub backed : AreBacked w.layout (facts w) w.words w.parties
  pub durable : AreDurable w.layout w.generation (facts w) w.words
  pub durable_versions : AreDurablyKnown w.layout w.generation w.words
  pub front : IsFront w.layout w.generation w.words Cached
  pub durable_front : IsFront w.layout w.generation w.words Durable
