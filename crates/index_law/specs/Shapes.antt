-- The shape of an index: its list, each node with its anchor, over the map. How steps change it.
use Rattle.std.specs.Prelude.{◌≡◌, ◌≢◌, ℕ, ◌+◌, ◌≤◌, ◌/◌, ◌⊎◌, ◌||◌, true, List, Option, IsSome}
use mathlib.Core.Option.{some}
use lib.ListN.{get_elem?}
use Rattle.pm_words.specs.declared.layout.Layout.{Layout}
use Rattle.pm_words.specs.declared.action.Action.{Action}
use Rattle.pm_words.specs.Rows.{got}
use Rattle.pm_words.specs.Offsets.{next_offset}
use Rattle.cat_key.specs.Names.{IsName}
use Rattle.cat_history.specs.Maps.{at}
use Rattle.data_node.specs.Spots.{Means}
use Rattle.data_node.specs.Lists.{ListNode, key_of, with_member, without_member}
use Rattle.data_node.specs.Weights.{names_in}
use Rattle.call_stages.specs.declared.once.Once.{Once}
use Rattle.call_stages.specs.declared.once.Placed.{Placed}
use Rattle.call_stages.specs.Stages.{Stage}
use Rattle.call_stages.specs.Kinds.{Step, below_key}
use Rattle.index_law.specs.Facts.{Facts, map_now, range_of, IsListed}
use Rattle.call_stages.specs.Prevs.{IsSwitch, IsJoin}
use Rattle.index_law.specs.Worlds.{Party, World, facts, stepped}
use Rattle.index_law.specs.Lawful.{Lawful}

-- A full member is cut in two: behind it stands a fresh one, whose anchor is a name of the map, and in its range stay
-- half as many names as a node has slots.
pub record IsHalved (l : Layout) (f : Facts) (list : List ListNode) : Type 0 where
  pub node : ℕ
  pub fresh : ℕ
  pub listed : IsListed f node
  pub unlisted : IsListed f fresh → ⊥
  pub anchor : List ℕ
  pub named : IsName anchor
  pub inside : range_of l f node anchor ≡ true
  pub had : IsSome (at (map_now f) anchor)
  pub full : names_in l.slots (range_of l f node) (f.now node) ≡ l.slots
  pub means : Means l.slots (range_of l f node) (f.now node) (map_now f)
  pub half : names_in l.slots (below_key (range_of l f node) (key_of anchor)) (f.now node) ≡ l.slots / 2
  pub longer : list ≡ with_member node (record { node = fresh; anchor = key_of anchor }) 0 f.list

-- A member goes, whose names join those of the one before it; they have no more together than half as many as a node
-- has slots.
pub record IsMerged (l : Layout) (f : Facts) (list : List ListNode) : Type 0 where
  pub node : ℕ
  pub right : ℕ
  pub listed : IsListed f node
  pub listed_right : IsListed f right
  pub leads : f.now node next_offset ≡ right
  pub nonzero : right ≢ 0
  pub means : Means l.slots (λ name. range_of l f node name || range_of l f right name) (f.now node) (map_now f)
  pub together : names_in l.slots (λ name. range_of l f node name || range_of l f right name) (f.now node) ≤ l.slots / 2
  pub few : names_in l.slots (range_of l f node) (f.now node) + names_in l.slots (range_of l f right) (f.now right) ≤
      l.slots / 2
  pub shorter : list ≡ without_member right f.list

-- A step leaves the list as it is, or it is the switch of a split, which cuts one full member in two, or that of a
-- merge, with which a member joins the one before it.
abbrev pub StepShapes : Type 0
StepShapes = (w : World) (i : ℕ) (p : Party) (action : Action) (x : ℕ) (next : Stage) (answer : Option (Once Placed)) →
    Lawful w →
    get_elem? w.parties i ≡ some p → Step w.layout w.generation p.stage action x next answer →
    x ≡ got w.layout w.words action →
    ((facts (stepped w i p action next)).list ≡ (facts w).list)
    ⊎ (((switch : IsSwitch p.stage next) ×
    (halved : IsHalved w.layout (facts w) (facts (stepped w i p action next)).list) ×
    (halved.node ≡ switch.left.node))
    ⊎ ((join : IsJoin p.stage next) × (merged : IsMerged w.layout (facts w) (facts (stepped w i p action next)).list) ×
    (merged.node ≡ join.left.node)))
