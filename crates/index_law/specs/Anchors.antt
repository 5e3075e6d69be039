-- The shape of an index: where its listed nodes begin, as texts. The map is known, so this is all of it.
use Rattle.std.specs.Prelude.{◌≡◌, ◌≢◌, ℕ, zero, suc, ◌+◌, ◌-◌, ◌*◌, ◌==◌, if◌then◌else◌, ◌/◌, ◌%◌, ◌^◌, ◌<◌, ◌≤◌, ◌⊎◌}
use Rattle.std.specs.Prelude.{true, slice_get, List, [], ◌∷◌, map, length, Option, Some, IsSome}
use mathlib.Core.Option.{some}
use lib.ListN.{get_elem?}
use Rattle.pm_words.specs.Codes.{gone_status}
use Rattle.pm_words.specs.declared.layout.Layout.{Layout}
use Rattle.pm_words.specs.declared.action.Action.{Action}
use Rattle.pm_words.specs.Rows.{got}
use Rattle.cat_key.specs.Names.{IsName, bytes_of}
use Rattle.cat_history.specs.Maps.{at}
use Rattle.shapes.specs.Anchors.{Anchors, AreAnchors, is_between, names_between, names_at, past, target_of, next_of}
use Rattle.shapes.specs.Members.{with_name, without_name}
use Rattle.shapes.specs.Weights.{IsShape, weight}
use Rattle.data_node.specs.Spots.{Means}
use Rattle.data_node.specs.Lists.{ListNode}
use Rattle.image_rules.specs.Nodes.{image_list}
use Rattle.call_stages.specs.declared.once.Once.{Once}
use Rattle.call_stages.specs.declared.once.Placed.{Placed}
use Rattle.call_stages.specs.Stages.{Stage, Idle}
use Rattle.call_stages.specs.Kinds.{Step}
use Rattle.index_law.specs.Facts.{Facts, map_now, range_of, IsListed}
use Rattle.index_law.specs.Worlds.{Party, World, facts, stepped}
use Rattle.index_law.specs.Lawful.{Lawful, IsList, Each}
use Rattle.call_stages.specs.Prevs.{IsSwitch, IsJoin}
use Rattle.index_law.specs.Weights.{index_weight}

-- The text whose three words make this number.
abbrev pub text_of_key : ℕ → List ℕ
text_of_key key = bytes_of (key / 2 ^ 64 / 2 ^ 64 ∷ key / 2 ^ 64 % 2 ^ 64 ∷ key % 2 ^ 64 ∷ [])

-- The anchors of node 0 and of the nodes behind it.
abbrev pub anchors_of : List ListNode → Anchors
anchors_of list = [] ∷ map (λ (m : ListNode). text_of_key m.anchor) list

-- They are anchors, and a node's range is that of the member in which one of its names belongs.
abbrev pub ListHasAnchors : Type 0
ListHasAnchors = (l : Layout) (f : Facts) → IsList l f → AreAnchors (anchors_of f.list)

abbrev pub RangesAreMembers : Type 0
RangesAreMembers = (l : Layout) (f : Facts) (n : ℕ) (name other : List ℕ) → IsList l f → IsName name → IsName other →
    range_of l f n name ≡ true →
    range_of l f n other ≡ is_between (target_of (anchors_of f.list) name) (next_of (anchors_of f.list) name) other

-- One member that has as many names as a node has slots is cut: a name of it and of the map, below which the member has
-- half as many, is one more anchor.
pub record CutsMember (l : Layout) (f : Facts) (anchors : Anchors) : Type 0 where
  pub node : ℕ
  pub cut : List ℕ
  pub named : IsName cut
  pub had : IsSome (at (map_now f) cut)
  pub inside : range_of l f node cut ≡ true
  pub full : length (names_at (map_now f) (anchors_of f.list) cut) ≡ l.slots
  pub half : length (names_between (map_now f) (target_of (anchors_of f.list) cut) (Some cut)) ≡ l.slots / 2
  pub more : anchors ≡ with_name cut (anchors_of f.list)

-- The member after that of a name goes, since both together have no more than half as many names as a node has slots.
pub record DropsMember (l : Layout) (f : Facts) (anchors : Anchors) : Type 0 where
  pub node : ℕ
  pub name : List ℕ
  pub named : IsName name
  pub inside : range_of l f node name ≡ true
  pub next : List ℕ
  pub is_next : next_of (anchors_of f.list) name ≡ Some next
  pub few : length (names_between (map_now f) (target_of (anchors_of f.list) name)
      (slice_get (past (anchors_of f.list) name) 1)) ≤ l.slots / 2
  pub less : anchors ≡ without_name next (anchors_of f.list)

-- A step leaves the anchors, or it is the switch of a split, which cuts a member so, or that of a merge, with which the
-- member goes that comes after that of its call's name.
abbrev pub StepMovesAnchors : Type 0
StepMovesAnchors = (w : World) (i : ℕ) (p : Party) (action : Action) (x : ℕ) (next : Stage)
    (answer : Option (Once Placed)) → Lawful w →
    get_elem? w.parties i ≡ some p → Step w.layout w.generation p.stage action x next answer →
    x ≡ got w.layout w.words action →
    (anchors_of (facts (stepped w i p action next)).list ≡ anchors_of (facts w).list)
    ⊎ (((switch : IsSwitch p.stage next) ×
    (cut : CutsMember w.layout (facts w) (anchors_of (facts (stepped w i p action next)).list)) ×
    (cut.node ≡ switch.left.node))
    ⊎ ((join : IsJoin p.stage next) ×
    (drop : DropsMember w.layout (facts w) (anchors_of (facts (stepped w i p action next)).list)) ×
    (drop.node ≡ join.left.node)
    × (drop.name ≡ join.held.name)))

-- How many of the first so many nodes were merged into others, and aren't FREE again yet.
abbrev pub gone_nodes : ℕ → Facts → ℕ
gone_nodes zero f = 0
gone_nodes (suc n) f = (if f.status n == gone_status then 1 else 0) + gone_nodes n f

-- The anchors of an index.
abbrev pub anchors_in : World → Anchors
anchors_in w = anchors_of (facts w).list

-- and of an image.
abbrev pub image_anchors : Layout → List ℕ → Anchors
image_anchors l image = anchors_of (image_list l image)

-- How many members there can be before a turn of the updater frees merged nodes.
abbrev pub members_most : World → ℕ
members_most w = w.layout.nodes - gone_nodes w.layout.nodes (facts w)

-- The listed nodes and the GONE ones are no more than the layout's nodes. They are as many where each node is one of
-- these, and fewer where one is neither.
pub record CountsNodes (w : World) : Type 0 where
  pub few : length (anchors_in w) + gone_nodes w.layout.nodes (facts w) ≤ w.layout.nodes
  pub all : ((n : ℕ) → n < w.layout.nodes → IsListed (facts w) n ⊎ ((facts w).status n ≡ gone_status)) →
      length (anchors_in w) ≡ members_most w
  pub more : (n : ℕ) → n < w.layout.nodes → (IsListed (facts w) n → ⊥) → (facts w).status n ≢ gone_status →
      length (anchors_in w) < members_most w

abbrev pub NodesAreCounted : Type 0
NodesAreCounted = (w : World) → Lawful w → CountsNodes w

-- Where each listed node means the map on its range, the nodes hold the shape, and the index weighs what it does, and
-- half a node's slots more for each GONE node.
abbrev pub NodesHoldShape : Type 0
NodesHoldShape = (l : Layout) (f : Facts) → 0 < l.nodes → IsList l f →
    ((name : List ℕ) (value : ℕ) → at (map_now f) name ≡ Some value → IsName name) →
    ((n : ℕ) → IsListed f n → Means l.slots (range_of l f n) (f.now n) (map_now f)) →
    IsShape l.slots l.nodes (map_now f) (anchors_of f.list) ×
    (weight l.slots (map_now f) (anchors_of f.list) + gone_nodes l.nodes f * (l.slots / 2) ≡ index_weight l f)

-- Where all parties are idle the nodes hold the shape, and the index weighs what it does.
abbrev pub IdleHasShape : Type 0
IdleHasShape = (w : World) → Lawful w → Each (λ p. p.stage ≡ Idle) w.parties →
    IsShape w.layout.slots (members_most w) (map_now (facts w)) (anchors_of (facts w).list)
    × (weight w.layout.slots (map_now (facts w)) (anchors_of (facts w).list) + gone_nodes w.layout.nodes (facts w) *
    (w.layout.slots / 2) ≡ index_weight w.layout (facts w))
