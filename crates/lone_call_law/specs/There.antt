-- Where a call stands that nobody disturbs.
use Rattle.std.specs.Prelude.{◌≡◌, ◌≢◌, ℕ, List, IsTrue, IsSomeAnd, IsSome, Option, Some, None}
use Rattle.pm_words.specs.declared.layout.Layout.{Layout}
use Rattle.pm_words.specs.declared.machine.Turn.{Turn}
use Rattle.pm_words.specs.declared.machine.Turn.TheVariants.{Go, Done}
use Rattle.pm_words.specs.Locations.{Cached}
use Rattle.pm_words.specs.Rows.{acted, got}
use Rattle.pm_words.specs.Offsets.{next_offset, state_offset}
use Rattle.version_lock.specs.Versions.{IsWorn}
use Rattle.data_node.specs.Lists.{target_from, key_of}
use Rattle.call_stages.specs.declared.once.Once.{Once}
use Rattle.call_stages.specs.declared.once.Once.TheVariants as once
use Rattle.call_stages.specs.declared.once.Placed.{Placed}
use Rattle.call_stages.specs.Stages.{Idle}
use Rattle.data_list.specs.declared.walk.Walk.{Walk}
use Rattle.data_list.specs.Still.{Nodes, IsQuietList, AreQuiet, Comes, IsOnWay}
use Rattle.node_ops.specs.declared.call.Call.{Call}
use Rattle.node_ops.specs.declared.lookup.Looked.{Looked}
use Rattle.node_ops.specs.declared.lookup.Looked.TheVariants as looked
use Rattle.node_ops.specs.declared.lookup.Lookup.{Lookup}
use Rattle.node_ops.specs.declared.lookup.LookupAt.{LookupAt}
use Rattle.node_ops.specs.declared.lookup.LookupAt.TheVariants as at
use Rattle.node_ops.specs.Calls.{name_in}
use Rattle.node_ops.specs.LookupSteps.{is_spent, IsLookup, lookup_asks, lookup_turned}
use Rattle.index_law.specs.Facts.{version_in, status_in, spot_in, list_in}
use Rattle.index_law.specs.Lines.{line_in}
use Rattle.index_law.specs.Worlds.{World}
use Rattle.index_law.specs.Lawful.{Each}
use Rattle.index_law.specs.Laws.{IsAtRest}
use Rattle.index_law.specs.Prevs.{prev_in, Traced, IsTraced}
use Rattle.tree_floor.specs.declared.floor.Floor.{Floor}
use Rattle.layer_map.specs.Layers.{IsFloorOf}
use Rattle.node_ops.specs.search_layer.specs.Rows.{layer_words}
use Rattle.node_ops.specs.search_layer.specs.Kept.{layer_of, IsInOrder}
use Rattle.node_ops.specs.search_layer.specs.Floors.{answer_from}

abbrev pub nodes_in : Layout → List ℕ → Nodes
nodes_in l words = record {
  version = version_in l words;
  status = status_in l words;
  prev = prev_in l words;
  now = spot_in l words;
  list = list_in l words;
}

-- Walks come to their targets from every node, and the search layer is in order.
pub record CanWalk (l : Layout) (g : ℕ) (words : List ℕ) : Type 0 where
  pub quiet : AreQuiet l g (nodes_in l words)
  pub order : IsInOrder l words

-- The search layer leads the name to this node, where a call of the name begins to walk.
abbrev pub StartsAt : Layout → List ℕ → List ℕ → ℕ → Type 0
StartsAt l words name start = IsFloorOf (layer_of l words) (key_of name) start

-- From the node where it begins, a call of this name comes to the name's target by so many hops.
pub record WalksBy (l : Layout) (words name : List ℕ) (hops : ℕ) : Type 0 where
  pub start : ℕ
  pub begins : StartsAt l words name start
  pub comes : Comes l (nodes_in l words) (key_of name) start hops

-- The call is at the target of its name, by as many hops as its walk made; a write can lock that.
pub record IsAtNode (l : Layout) (words : List ℕ) (call : Call) : Type 0 where
  pub node : call.node ≡ target_from 0 (list_in l words) (key_of (name_in call))
  pub hops : WalksBy l words (name_in call) call.hops
  pub unworn : IsSome call.limit → IsWorn (version_in l words call.node) call.view.generation → ⊥

-- Since the call took the lock of this node nothing else has changed: no version word of another, no status, no node
-- that one leads to, and no log line's state.
pub record IsUnmoved (l : Layout) (words0 words : List ℕ) (node : ℕ) : Type 0 where
  pub versions : (m : ℕ) → m ≢ node → version_in l words m ≡ version_in l words0 m
  pub statuses : (m : ℕ) → status_in l words m ≡ status_in l words0 m
  pub nexts : (m : ℕ) → spot_in l words m next_offset ≡ spot_in l words0 m next_offset
  pub lines : (c j : ℕ) → line_in l words c j state_offset ≡ line_in l words0 c j state_offset

-- The floor of the call, told words of the layer so many times, answers the node where the call begins to walk.
pub record IsLanding (l : Layout) (words : List ℕ) (call : Call) (floor : Floor) : Type 0 where
  pub turns : ℕ
  pub answers : IsSomeAnd (answer_from turns (layer_words l words Cached) floor) (StartsAt l words (name_in call))

-- The walk of the call is on its way there, by so many hops in all.
pub record IsUnderWay (l : Layout) (words : List ℕ) (call : Call) (walk : Walk) : Type 0 where
  pub hops : ℕ
  pub walks : WalksBy l words (name_in call) hops
  pub way : IsOnWay l (nodes_in l words) hops walk

-- It has come there: a read has seen the version word, and all words are as they were; a write holds the lock.
abbrev pub HasCome : Option ℕ → Layout → List ℕ → List ℕ → Call → ℕ → Type 0
HasCome None l words0 words call word = IsAtNode l words0 call × (words ≡ words0) ×
    (word ≡ version_in l words0 call.node)
HasCome (Some limit) l words0 words call word = IsAtNode l words0 call × IsUnmoved l words0 words call.node

-- A look-up is on its way there, with the words as they were, or has come there.
abbrev pub LookupStands : Layout → List ℕ → List ℕ → Call → LookupAt → Type 0
LookupStands l words0 words call (at.Floor floor) = (words ≡ words0) × IsLanding l words0 call floor
LookupStands l words0 words call (at.Walk walk) = (words ≡ words0) × IsUnderWay l words0 call walk
LookupStands l words0 words call (at.Read seen) = (words ≡ words0) × IsAtNode l words0 call ×
    (seen.version ≡ version_in l words0 call.node)
LookupStands l words0 words call (at.Lock seen locked) = (words ≡ words0) × IsAtNode l words0 call ×
    (seen.version ≡ version_in l words0 call.node)
LookupStands l words0 words call (at.Clock locked) = IsAtNode l words0 call × IsUnmoved l words0 words call.node
LookupStands l words0 words call (at.Spent hold) = IsAtNode l words0 call × IsUnmoved l words0 words call.node
LookupStands l words0 words call (at.Bitmap hold) = HasCome call.limit l words0 words call hold.locked
LookupStands l words0 words call (at.Prints hold bitmap prints k) = HasCome call.limit l words0 words call hold.locked
LookupStands l words0 words call (at.Name hold directory left slot k) =
    HasCome call.limit l words0 words call hold.locked
LookupStands l words0 words call (at.Value hold directory slot) = HasCome call.limit l words0 words call hold.locked

-- It ends early only because its target is worn, or its limit is reached.
abbrev pub EndsEarly : Layout → ℕ → List ℕ → Call → Once Placed → Type 0
EndsEarly l g words0 call (once.Worn node word) =
    IsSome call.limit × (node ≡ target_from 0 (list_in l words0) (key_of (name_in call))) ×
    (word ≡ version_in l words0 node) ×
    IsWorn word g
EndsEarly l g words0 call (once.Spent clock) = IsTrue (is_spent call.limit clock) × IsAtNode l words0 call
EndsEarly l g words0 call (once.Again why) = ⊥
EndsEarly l g words0 call (once.Done placed) = ⊥

abbrev pub LookedStands : Layout → ℕ → List ℕ → List ℕ → Call → Turn Lookup Looked → Type 0
LookedStands l g words0 words call (Go lookup) = LookupStands l words0 words lookup.call lookup.at
LookedStands l g words0 words call (Done (looked.Early answer)) = EndsEarly l g words0 call answer
LookedStands l g words0 words call (Done (looked.Found found)) =
    HasCome call.limit l words0 words call found.hold.locked

abbrev pub LooksComeThere : Type 0
LooksComeThere = (lookup : Lookup) (words0 words : List ℕ) (x : ℕ) → IsLookup lookup →
    CanWalk lookup.call.view.layout lookup.call.view.generation words0 →
    LookupStands lookup.call.view.layout words0 words lookup.call lookup.at →
    x ≡ got lookup.call.view.layout words (lookup_asks lookup) →
    LookedStands lookup.call.view.layout lookup.call.view.generation words0
    (acted lookup.call.view.layout words (lookup_asks lookup)) lookup.call (lookup_turned lookup x)

-- With nothing in flight nobody changes the list;
abbrev pub RestIsStill : Type 0
RestIsStill = (w : World) → IsAtRest w → IsQuietList w.layout w.generation (nodes_in w.layout w.words)

-- and if the prevs are kept too, walks come to their targets from every node.
abbrev pub IdleIsQuiet : Type 0
IdleIsQuiet = (z : Traced) → IsTraced z → Each (λ p. p.stage ≡ Idle) z.world.parties →
    AreQuiet z.world.layout z.world.generation (nodes_in z.world.layout z.world.words)
