-- The laws of a lawful index: which actions can be done, what a step and a start keep, and where it begins.
use Rattle.std.specs.Prelude.{Bool, ◌≡◌, ◌≢◌, ℕ, ◌+◌, ◌<◌, ◌≤◌, ◌^◌, ◌⊎◌, true, List, [], length, Option, Some}
use Rattle.std.specs.Prelude.{None, IfSome, Contains}
use Rattle.std.specs.FinMap.{empty, len}
use mathlib.Core.Option.{some}
use lib.ListN.{get_elem?}
use Rattle.pm_words.specs.Codes.{live_status, leaf_kind}
use Rattle.pm_words.specs.declared.layout.Layout.{Layout}
use Rattle.pm_words.specs.declared.action.Action.{Action}
use Rattle.pm_words.specs.declared.action.Action.TheVariants.{Load, Store, Exchange, Add, Drain}
use Rattle.pm_words.specs.declared.again.Again.{Again}
use Rattle.pm_words.specs.declared.again.Again.TheVariants as again
use Rattle.pm_words.specs.Layouts.{IsLayout}
use Rattle.pm_words.specs.Images.{fresh_words}
use Rattle.pm_words.specs.Locations.{Mark, Cached, Durable, image_words, address_of}
use Rattle.pm_words.specs.Rows.{IsRow, MayName, CanAct, acted, got, row_of}
use Rattle.pm_words.specs.Offsets.{bitmap_offset}
use Rattle.version_lock.specs.Versions.{IsFree, IsWorn, IsGeneration}
use Rattle.cat_key.specs.Names.{IsName}
use Rattle.cat_history.specs.Maps.{Map, at}
use Rattle.cat_history.specs.Writes.{after}
use Rattle.cat_history.specs.CrashEnds.{IsCrashEnd}
use Rattle.cat_history.specs.declared.op.Change.{Change}
use Rattle.data_node.specs.Slots.{AreAllLive}
use Rattle.data_node.specs.Spots.{Spot, Means}
use Rattle.data_node.specs.Lists.{ListNode, anchor_in, members_from, IsIn, MakeList}
use Rattle.data_node.specs.Lists.{range_in}
use Rattle.call_stages.specs.declared.once.Once.{Once}
use Rattle.call_stages.specs.declared.once.Once.TheVariants as once
use Rattle.call_stages.specs.declared.once.Placed.{Placed}
use Rattle.call_stages.specs.Stages.{Held, Sight, Grip, Phase, Linked, Pace, Joined, Stage, Idle, Saw, Wears, Reads}
use Rattle.call_stages.specs.Stages.{Holds, Eyes}
use Rattle.call_stages.specs.Stages.{Splits, Leaves, Meets, Joins, counted, pending_in, pended}
use Rattle.call_stages.specs.Kinds.{IsRefusal, Step, Told, LeadsWithin, HasWordAt, clock_address, word_address}
use Rattle.call_stages.specs.Kinds.{version_address, status_address, prev_address}
use Rattle.index_law.specs.Facts.{Facts, map_now, range_of, durable_spot, IsListed}
use Rattle.index_law.specs.Twins.{AreDurablyKnown, IsFront}
use Rattle.index_law.specs.Worlds.{Party, World, facts, stepped, started, joined, evicted_world}
use Rattle.index_law.specs.Lawful.{Lawful, HasNames, Each, HasWriteAt, ClockCounts, AreKnown, HaveBegun}
use Rattle.call_stages.specs.Stages.{HoldsNode}
use Rattle.index_law.specs.Lawful.{IsList, AreLive, IsSettled}

-- The actions that a party may do at its stage: which word it may change, and the right under which it may.
pub data Allowed (l : Layout) : Stage → Action → Type 0 where
  loads_clock : {s : Stage} → Allowed l s (Load (clock_address l))
  loads_word : {s : Stage} {n offset : ℕ} → HasWordAt l n offset → Allowed l s (Load (word_address l n offset))
  loads_status : {s : Stage} {n : ℕ} → n < l.nodes → Allowed l s (Load (status_address l n))
  loads_prev : {s : Stage} {n : ℕ} → n < l.nodes → Allowed l s (Load (prev_address l n))
  -- to take the lock, it puts the word that it made of the version that it saw
  exchanges : {n v w : ℕ} {k : Sight} → n < l.nodes → Allowed l (Saw n v w k) (Exchange (version_address l n) v w)
  exchanges_read : {n v w : ℕ} {k : Sight} → n < l.nodes → w < 2 ^ 64 →
      Allowed l (Reads n v k None) (Exchange (version_address l n) v w)
  -- into the words of a node that it holds
  stores_word : {s : Stage} {n y offset : ℕ} → HoldsNode s n → HasWordAt l n offset → 0 < offset → y < 2 ^ 64 →
      Allowed l s (Store (word_address l n offset) y)
  stores_status : {s : Stage} {n y : ℕ} → HoldsNode s n → n < l.nodes → y < 2 ^ 64 →
      Allowed l s (Store (status_address l n) y)
  drains_word : {s : Stage} {n y offset : ℕ} → HoldsNode s n → HasWordAt l n offset → y < 2 ^ 64 →
      Allowed l s (Drain (word_address l n offset) y)
  adds : {n w : ℕ} {h : Held} → Allowed l (Holds n w h) (Add (clock_address l))
  -- it gives the lock back
  claims_node : {n w m v u : ℕ} {h : Held} {free : Bool} → m < l.nodes →
      Allowed l (Eyes n w h m v u free) (Exchange (version_address l m) v u)
  frees_fresh : {left fresh : Grip} {phase : Phase} {f : ℕ} → fresh.node < l.nodes → f ≡ fresh.lock + 1 →
      Allowed l (Splits left fresh phase) (Store (version_address l fresh.node) f)
  frees_left : {left : Grip} {f : ℕ} → left.node < l.nodes → f ≡ left.lock + 1 →
      Allowed l (Leaves left) (Store (version_address l left.node) f)
  frees_met : {n w f : ℕ} {h : Held} {right : Grip} → right.node < l.nodes → f ≡ right.lock + 1 →
      Allowed l (Meets n w h right) (Store (version_address l right.node) f)
  frees_right : {h : Held} {left right : Grip} {pace : Pace} {f : ℕ} → right.node < l.nodes → f ≡ right.lock + 1 →
      Allowed l (Joins h left right pace) (Store (version_address l right.node) f)
  frees : {n w f : ℕ} {h : Held} → n < l.nodes → f ≡ w + 1 → Allowed l (Holds n w h) (Store (version_address l n) f)

-- The node that a stage names is one of the layout's.
abbrev pub IsWithin : Layout → Stage → Type 0
IsWithin l Idle = Unit {0}
IsWithin l (Saw n v w k) = n < l.nodes
IsWithin l (Holds n w h) = n < l.nodes
IsWithin l (Eyes n w h m v u free) = Unit {0}
IsWithin l (Splits left fresh phase) = fresh.node < l.nodes
IsWithin l (Leaves left) = left.node < l.nodes
IsWithin l (Wears n v) = n < l.nodes
IsWithin l (Reads n v sight told) = n < l.nodes
IsWithin l (Meets n w h right) = (n < l.nodes) × (right.node < l.nodes)
IsWithin l (Joins h left right pace) = (left.node < l.nodes) × (right.node < l.nodes)

-- A step, whatever number it is told, is by an action that is allowed.
abbrev pub StepIsAllowed : Type 0
StepIsAllowed = (l : Layout) (g : ℕ) (stage : Stage) (action : Action) (x : ℕ) (next : Stage)
    (answer : Option (Once Placed)) → IsWithin l stage →
    Step l g stage action x next answer → Allowed l stage action

-- What is allowed names an address that an action may name, whatever the words are.
abbrev pub AllowedMayName : Type 0
AllowedMayName = (l : Layout) (stage : Stage) (action : Action) → Allowed l stage action → MayName l action

-- What is allowed can be done, and gives a number that may be told.
pub record ActionLaw (w : World) (stage : Stage) (action : Action) : Type 0 where
  pub can : CanAct w.layout w.words action
  pub told : Told w.layout w.generation action (got w.layout w.words action)
  pub leads : LeadsWithin w.layout stage action (got w.layout w.words action)

abbrev pub AllowedCanAct : Type 0
AllowedCanAct = (w : World) (i : ℕ) (p : Party) (action : Action) → Lawful w → get_elem? w.parties i ≡ some p →
    Allowed w.layout p.stage action →
    length w.history < 2 ^ 63 → ActionLaw w p.stage action

-- A call is done: its old number is that of its name in the map at its place, which lies in its time; and if it wrote,
-- its write stands there.
pub record IsLegalDone (f : Facts) (caller index since : ℕ) (h : Held) (answer : Placed) : Type 0 where
  pub later : since ≤ answer.place
  pub within : answer.place ≤ length f.history
  -- if it has a limit, the history hadn't reached it as the call began
  pub below : IfSome h.limit (λ most. since < most)
  pub old : answer.old ≡ at (after f.base f.history answer.place) h.name
  pub write : IfSome h.placed (λ place. (answer.place ≡ place) × HasWriteAt f.history caller index h.name place)

-- The clock that refused a call is one of its time.
pub record IsLegalSpent (f : Facts) (since clock : ℕ) : Type 0 where
  pub later : since ≤ clock
  pub within : clock ≤ length f.history

-- The map lacks the name, and each slot of the node in which it belongs has a name of the map. After as many writes as
-- the clock says that the call loaded in its time, the map lacked the name as well, and had at least as many names as
-- the node has slots.
pub record HasNoRoom (l : Layout) (f : Facts) (since n : ℕ) (h : Held) : Type 0 where
  pub inside : range_of l f n h.name ≡ true
  pub lacks : at (map_now f) h.name ≡ None
  pub full : AreAllLive (f.now n bitmap_offset) l.slots
  pub means : Means l.slots (range_of l f n) (f.now n) (map_now f)
  pub clock : ℕ
  pub later : since ≤ clock
  pub within : clock ≤ length f.history
  pub lacked : at (after f.base f.history clock) h.name ≡ None
  pub many : l.slots ≤ len (after f.base f.history clock)

-- What the version word of a node is, where it turned a call back.
abbrev pub IsCause : ℕ → Facts → Again → Type 0
IsCause g f (again.Locked n word) = (f.version n ≡ word) × (IsFree word g → ⊥)
IsCause g f (again.Moved n first second) = (f.version n ≡ second) × (second ≢ first)
IsCause g f (again.Hops count) = Unit {0}
IsCause g f _ = ⊥

-- The answer of a call that holds no node.
abbrev pub IsLegalUnheld : ℕ → Facts → Once Placed → Type 0
IsLegalUnheld g f (once.Done answer) = ⊥
IsLegalUnheld g f (once.Spent clock) = ⊥
IsLegalUnheld g f (once.Worn n word) = (f.version n ≡ word) × IsFree word g × IsWorn word g
IsLegalUnheld g f (once.Again why) = IsCause g f why

-- The answer of a call that gives node n back.
abbrev pub IsLegalHeld : Layout → Facts → ℕ → ℕ → ℕ → ℕ → Held → Once Placed → Type 0
IsLegalHeld l f caller index since n h (once.Done answer) = IsLegalDone f caller index since h answer
IsLegalHeld l f caller index since n h (once.Spent clock) = IsLegalSpent f since clock
IsLegalHeld l f caller index since n h (once.Worn node word) = ⊥
IsLegalHeld l f caller index since n h (once.Again why) = (h.placed ≡ None) ×
    (((why ≡ again.NoFree) × HasNoRoom l f since n h) ⊎ IsRefusal why)

-- The answer of a call that takes no lock.
abbrev pub IsLegalRead : ℕ → Facts → ℕ → ℕ → ℕ → Option Held → Once Placed → Type 0
IsLegalRead g f caller index since (Some h) (once.Done answer) = IsLegalDone f caller index since h answer
IsLegalRead g f caller index since h answer = IsLegalUnheld g f answer

-- The answer, if there is one, of a call that was at this stage, the facts being those after its last step.
abbrev pub IsLegal : Layout → ℕ → Facts → ℕ → ℕ → ℕ → Stage → Option (Once Placed) → Type 0
IsLegal l g f caller index since stage None = Unit {0}
IsLegal l g f caller index since Idle (Some answer) = IsLegalUnheld g f answer
IsLegal l g f caller index since (Saw n v w k) (Some answer) = IsLegalUnheld g f answer
IsLegal l g f caller index since (Wears n v) (Some answer) = IsLegalUnheld g f answer
IsLegal l g f caller index since (Reads n v k h) (Some answer) = IsLegalRead g f caller index since h answer
IsLegal l g f caller index since (Holds n w h) (Some answer) = IsLegalHeld l f caller index since n h answer
IsLegal l g f caller index since (Eyes n w h m v u free) (Some answer) = ⊥
IsLegal l g f caller index since (Splits left fresh phase) (Some answer) = ⊥
IsLegal l g f caller index since (Meets n w h right) (Some answer) = ⊥
IsLegal l g f caller index since (Joins h left right pace) (Some answer) = ⊥
IsLegal l g f caller index since (Leaves left) (Some answer) = answer ≡ once.Again (again.NeedsSplit left.node)

-- A step adds to the clock exactly where it counts a change, and is then told how long the history was.
abbrev pub Counts : Layout → ℕ → Action → ℕ → Option Change → Type 0
Counts l length_before action x None = action ≢ Add (clock_address l)
Counts l length_before action x (Some change) = (action ≡ Add (clock_address l)) × (x ≡ length_before)

-- What a step of a party, which stands at i, owes and gives.
pub record StepLaw (w : World) (i : ℕ) (p : Party) (action : Action) (x : ℕ) (next : Stage)
    (answer : Option (Once Placed)) : Type 0 where
  pub can : CanAct w.layout w.words action
  pub kept : Lawful (stepped w i p action next)
  -- the history is longer by the change that it counts, which has the place that it was told
  pub counts : Counts w.layout (length w.history) action x (counted p.stage)
  pub legal : IsLegal w.layout w.generation (facts (stepped w i p action next)) p.caller p.index p.since p.stage answer

-- A step of a party keeps the index lawful, and its answer is legal.
abbrev pub StepKeeps : Type 0
StepKeeps = (w : World) (i : ℕ) (p : Party) (action : Action) (x : ℕ) (next : Stage) (answer : Option (Once Placed)) →
    Lawful w →
    get_elem? w.parties i ≡ some p → Step w.layout w.generation p.stage action x next answer →
    x ≡ got w.layout w.words action →
    length w.history < 2 ^ 63 → StepLaw w i p action x next answer

-- A party that relies on nothing may begin a call.
abbrev pub StartKeeps : Type 0
StartKeeps = (w : World) (i : ℕ) (p : Party) (index : ℕ) → Lawful w → get_elem? w.parties i ≡ some p → p.stage ≡ Idle →
    Lawful (started w i p index)

-- A party that relies on nothing may come to the others.
abbrev pub JoinKeeps : Type 0
JoinKeeps = (w : World) (p : Party) → Lawful w → p.stage ≡ Idle → p.since ≤ length w.history → Lawful (joined w p)

-- Whatever word becomes durable, the index stays lawful.
abbrev pub EvictKeeps : Type 0
EvictKeeps = (w : World) (word : ℕ) → Lawful w → word < image_words w.layout → Lawful (evicted_world w word)

-- Some party's call has this change pending.
pub record HasPending (parties : List Party) (change : Change) : Type 0 where
  pub number : ℕ
  pub party : Party
  pub there : get_elem? parties number ≡ some party
  pub pending : pending_in party.stage ≡ Some change

-- Some party splits a node, which leads to this one already.
pub record HasLinked (parties : List Party) (n : ℕ) : Type 0 where
  pub number : ℕ
  pub party : Party
  pub there : get_elem? parties number ≡ some party
  pub left : Grip
  pub fresh : Grip
  pub stage : party.stage ≡ Splits left fresh Linked
  pub is : fresh.node ≡ n

-- Some party merges this node into another one, which leads past it already.
pub record HasJoined (parties : List Party) (n : ℕ) : Type 0 where
  pub number : ℕ
  pub party : Party
  pub there : get_elem? parties number ≡ some party
  pub held : Held
  pub left : Grip
  pub right : Grip
  pub stage : party.stage ≡ Joins held left right Joined
  pub is : right.node ≡ n

-- The words mean the map on this range, or the map with a change that some call has pending.
pub record MeansDurably (w : World) (range : List ℕ → Bool) (s : Spot) : Type 0 where
  pub pending : Option Change
  pub cut : IfSome pending (HasPending w.parties)
  pub means : Means w.layout.slots range s (pended pending (map_now (facts w)))

-- The list that the durable words make.
abbrev pub durable_list : World → List ListNode
durable_list w = members_from (durable_spot w.layout w.words) w.layout.nodes 0

-- It is a list, of nodes that are listed or that a merge has just left out; and on its ranges each of them means the
-- map, or the map with a change that some call has pending.
pub record IsDurableList (w : World) : Type 0 where
  pub list : MakeList w.layout.nodes (durable_spot w.layout w.words) (durable_list w)
  -- it differs from the index's list by nodes of switches alone that aren't durable yet
  pub listed : (n : ℕ) → IsIn (durable_list w) n → IsListed (facts w) n ⊎ HasJoined w.parties n
  pub hides : (n : ℕ) → IsListed (facts w) n → IsIn (durable_list w) n ⊎ HasLinked w.parties n
  pub anchors : (n : ℕ) → IsListed (facts w) n ⊎ IsIn (durable_list w) n →
      anchor_in (durable_spot w.layout w.words n) ≡ anchor_in ((facts w).now n)
  pub means : (n : ℕ) → IsIn (durable_list w) n →
      MeansDurably w (range_in (durable_list w) n) (durable_spot w.layout w.words n)

-- So it is at every moment.
abbrev pub DurablesAreAList : Type 0
DurablesAreAList = (w : World) → Lawful w → IsDurableList w

-- A map of names that the durable list keeps: each of its nodes has, of the names that belong there, what the map has.
pub record IsLeft (w : World) (end : Map) : Type 0 where
  pub means : (n : ℕ) → IsIn (durable_list w) n →
      Means w.layout.slots (range_in (durable_list w) n) (durable_spot w.layout w.words n) end
  pub names : (name : List ℕ) (value : ℕ) → at end name ≡ Some value → IsName name

-- Whatever changes a crash cut off, the pending ones among them, the map that it leaves is the one after those that are
-- found in it.
abbrev pub CrashLeavesEnd : Type 0
CrashLeavesEnd = (w : World) (end : Map) (cuts : List Change) → Lawful w →
    IsLeft w end → ((change : Change) → HasPending w.parties change → Contains cuts change) →
    IsCrashEnd (map_now (facts w)) cuts end

-- Nothing is in flight: no party relies on anything, each node is free, and each means the map.
pub record IsAtRest (w : World) : Type 0 where
  pub named : HasNames (map_now (facts w))
  pub list : IsList w.layout (facts w)
  pub live : AreLive w.layout w.generation (facts w)
  pub run : IsGeneration w.generation
  pub row : IsRow w.layout w.words
  pub clock : ClockCounts w.layout w.words w.history
  pub versions : AreKnown w.layout w.generation (facts w)
  pub free : (n : ℕ) → n < w.layout.nodes → IsFree ((facts w).version n) w.generation
  pub settled : (n : ℕ) → IsListed (facts w) n → IsSettled w.layout (facts w) n
  pub durable : (n : ℕ) → n < w.layout.nodes → (offset : ℕ) →
      durable_spot w.layout w.words n offset ≡ (facts w).now n offset
  pub durable_versions : AreDurablyKnown w.layout w.generation w.words
  pub front : IsFront w.layout w.generation w.words Cached
  pub durable_front : IsFront w.layout w.generation w.words Durable
  pub idle : Each (λ p. p.stage ≡ Idle) w.parties
  pub begun : HaveBegun w.history w.parties

-- Such an index is lawful, and a lawful one whose parties are all idle is such an index.
abbrev pub RestIsLawful : Type 0
RestIsLawful = (w : World) → IsAtRest w → Lawful w

abbrev pub IdleIsAtRest : Type 0
IdleIsAtRest = (w : World) → Lawful w → Each (λ p. p.stage ≡ Idle) w.parties → IsAtRest w

-- Another round begins: its base is the map as it is, and its clock starts at 0.
abbrev pub next_round : World → List Party → World
next_round w parties =
    record w {
      words = acted w.layout w.words (Store (clock_address w.layout) 0);
      parties = parties;
      base = map_now (facts w);
      history = [];
    }

-- Nothing is in flight as it begins.
abbrev pub NextRoundIsAtRest : Type 0
NextRoundIsAtRest = (w : World) (parties : List Party) → IsAtRest w → Each (λ p. p.stage ≡ Idle) parties →
    HaveBegun [] parties →
    IsAtRest (next_round w parties)

-- The row of a fresh image, in which the first leaf of the search layer is marked as in use; and its first node LIVE.
abbrev pub marked_row : Layout → List ℕ
marked_row l = acted l (row_of l (fresh_words l)) (Store (address_of l (Mark leaf_kind 0)) 1)

abbrev pub fresh_row : Layout → List ℕ
fresh_row l = acted l (marked_row l) (Store (status_address l 0) live_status)

-- The index on that row, without names, in its first run.
abbrev pub fresh_world : Layout → List Party → World
fresh_world l parties =
    record { layout = l; generation = 1; words = fresh_row l; parties = parties; base = empty; history = [] }

-- Nothing is in flight there.
abbrev pub FreshIsAtRest : Type 0
FreshIsAtRest = (l : Layout) (parties : List Party) → IsLayout l → Each (λ p. p.stage ≡ Idle) parties →
    HaveBegun [] parties →
    IsAtRest (fresh_world l parties)
