-- One try of a call, with no other in flight, by kinds of step.
use Rattle.std.specs.Prelude.{◌≡◌, ◌≢◌, ℕ, ◌+◌, ◌<◌, ◌^◌, ◌⊎◌, ◌==◌, Bool, true, false, List, ◌++◌, length, Option}
use Rattle.std.specs.Prelude.{Some, None, IfSome}
use mathlib.Core.Option.{some}
use lib.ListN.{get_elem?}
use Rattle.pm_words.specs.declared.action.Action.{Action}
use Rattle.pm_words.specs.declared.again.Again.TheVariants as again
use Rattle.pm_words.specs.declared.layout.Layout.{Layout}
use Rattle.pm_words.specs.Rows.{got}
use Rattle.cat_history.specs.Maps.{Map, at}
use Rattle.cat_history.specs.declared.op.Change.{Change}
use Rattle.cat_history.specs.declared.op.Change.TheVariants.{Del as Deletes}
use Rattle.shapes.specs.Anchors.{del_anchors}
use Rattle.shapes.specs.Weights.{one_if}
use Rattle.data_node.specs.Lists.{ListNode, target_from, key_of, without_member}
use Rattle.call_stages.specs.declared.once.Once.{Once}
use Rattle.call_stages.specs.declared.once.Once.TheVariants as once
use Rattle.call_stages.specs.declared.once.Placed.{Placed}
use Rattle.call_stages.specs.Stages.{Held, Pace, Gathered, Joined, Gone, Linked, Parted, Stage, Idle}
use Rattle.call_stages.specs.Stages.{Splits, Leaves, Meets, Joins, counted, placed_in}
use Rattle.call_stages.specs.Kinds.{below_key, from_key}
use Rattle.call_stages.specs.AnySteps.{AnyStep}
use Rattle.node_ops.specs.Asked.{IsAbout}
use Rattle.index_law.specs.Facts.{Facts, map_now, range_of}
use Rattle.index_law.specs.Worlds.{Party, World, facts, stepped, moved_on, written}
use Rattle.index_law.specs.Lawful.{Lawful, IsList}
use Rattle.index_law.specs.Laws.{IsAtRest}
use Rattle.index_law.specs.Shapes.{IsHalved}
use Rattle.index_law.specs.Anchors.{anchors_in, gone_nodes, members_most}
use Rattle.index_law.specs.LoneShapes.{merged_by, has_merged}
use Rattle.lone_call_law.specs.Merging.{next_node, ShapeMerges, IsMergedSince, HasKeptList}

-- The party has made the switch of its split.
abbrev pub is_cut : Stage → Bool
is_cut (Splits left fresh Linked) = true
is_cut (Splits left fresh Parted) = true
is_cut (Leaves left) = true
is_cut _ = false

-- The right node of its merge is GONE.
abbrev pub is_gone : Pace → Bool
is_gone Gathered = false
is_gone Joined = false
is_gone Gone = true

abbrev pub has_retired : Stage → Bool
has_retired s = merged_by is_gone s

-- It has counted the delete of this name.
pub record HasDeleted (name : List ℕ) (own : Option Change) (h : Held) : Type 0 where
  pub named : h.name ≡ name
  pub deletes : own ≡ Some (Deletes name)
  pub placed : h.placed ≢ None
  pub value : ℕ
  pub old : h.old ≡ Some (Some value)

-- What a split is for: a name that had nothing. And a merge is for a name that its call has deleted.
abbrev pub IsFor : List ℕ → Option Change → Stage → Type 0
IsFor name own (Splits left fresh phase) = (left.name ≡ name) × (left.old ≡ Some None)
IsFor name own (Meets n w h right) = HasDeleted name own h
IsFor name own (Joins h left right pace) = HasDeleted name own h
IsFor name own _ = Unit {0}

-- One member, in which the name belongs, was cut, while the map and the list were as in w0, and this is the list now;
-- and the map lacks the name.
pub record IsCutSince (name : List ℕ) (w0 : World) (l : Layout) (now : List ListNode) : Type 0 where
  pub before : Facts
  pub chain : IsList l before
  pub list : before.list ≡ (facts w0).list
  pub map : map_now before ≡ map_now (facts w0)
  pub halved : IsHalved l before now
  pub inside : range_of l before halved.node name ≡ true
  pub lacks : at (map_now before) name ≡ None
  pub lower : (λ (other : List ℕ). target_from 0 now (key_of other) == halved.node) ≡ below_key
      (range_of l before halved.node) (key_of halved.anchor)
  pub upper : (λ (other : List ℕ). target_from 0 now (key_of other) == halved.fresh) ≡ from_key
      (range_of l before halved.node) (key_of halved.anchor)

abbrev pub IsHalvedSince : List ℕ → World → World → Type 0
IsHalvedSince name w0 w = IsCutSince name w0 w.layout (facts w).list

-- The history is as in w0, or longer by the one write of this call.
abbrev pub HasWritten : Option Change → World → World → Party → Type 0
HasWritten own w0 w p =
    ((placed_in p.stage ≡ None) × (w.history ≡ w0.history))
    ⊎ ((change : Change) × (w.history ≡ w0.history ++ written p.caller p.index (Some change)) ×
    (placed_in p.stage ≢ None) × (own ≡ Some change))

-- A delete of the name merges its target with the next node, and the list lacks that; it may not be GONE yet.
pub record IsJoinedSince (name : List ℕ) (w0 w : World) : Type 0 where
  pub shape : ShapeMerges w0 name
  pub list : (facts w).list ≡ without_member (next_node w0 name) (facts w0).list
  pub anchors : anchors_in w ≡ del_anchors w0.layout.slots (map_now (facts w0)) (anchors_in w0) name

-- The list is as in w0, or a member of it was cut, or the call, which has its place, has merged one into another.
pub data HasShape (name : List ℕ) (own : Option Change) (w0 w : World) (s : Stage) : Type 0 where
  is_same : is_cut s ≡ false → has_merged s ≡ false → (facts w).list ≡ (facts w0).list → HasShape name own w0 w s
  was_cut : is_cut s ≡ true → IsHalvedSince name w0 w → w.history ≡ w0.history → HasShape name own w0 w s
  was_joined : is_cut s ≡ false → has_merged s ≡ true → placed_in s ≢ None → own ≡ Some (Deletes name) →
      IsJoinedSince name w0 w → HasShape name own w0 w s

-- One more node is GONE than in w0 where the call has merged one and is past that.
abbrev pub HasGone : World → World → Stage → Type 0
HasGone w0 w s = gone_nodes w.layout.nodes (facts w) ≡ gone_nodes w0.layout.nodes (facts w0) + one_if (has_retired s)

-- The layout, the generation, the base and the party's clock are those of a try that began as the index was w0.
pub record BeganAt (w0 : World) (l : Layout) (g : ℕ) (b : Map) (clock : ℕ) : Type 0 where
  pub since : clock ≡ length w0.history
  pub layout : l ≡ w0.layout
  pub generation : g ≡ w0.generation
  pub base : b ≡ w0.base
  pub began : IsList w0.layout (facts w0)

-- The party at i is in a try that began as the index was w0, of a call that makes this change, if any, and no other
-- call is in flight.
pub record Trying (name : List ℕ) (own : Option Change) (w0 : World) (i : ℕ) (w : World) (p : Party) : Type 0 where
  pub lawful : Lawful w
  pub there : get_elem? w.parties i ≡ some p
  pub start : BeganAt w0 w.layout w.generation w.base p.since
  pub others : (j : ℕ) (q : Party) → j ≢ i → get_elem? w.parties j ≡ some q → q.stage ≡ Idle
  pub written : HasWritten own w0 w p
  pub shape : HasShape name own w0 w p.stage
  pub gone : HasGone w0 w p.stage

-- The list is as it was; or the call, which is the delete of this name, merged two nodes, as the shape says of it.
abbrev pub HasKeptOrMerged : World → World → List ℕ → Option Change → Stage → Type 0
HasKeptOrMerged w0 w name own s = ((has_merged s ≡ false) × HasKeptList w0 w)
    ⊎ ((has_merged s ≡ true) × (own ≡ Some (Deletes name)) × ShapeMerges w0 name × IsMergedSince name w0 w)

-- What an answer of a try says of the index before it.
abbrev pub Says : World → World → List ℕ → Option Change → Stage → Once Placed → Type 0
Says w0 w name own s (once.Done placed) =
    (placed.old ≡ at (map_now (facts w0)) name) × (placed.place ≡ length w0.history) × HasKeptOrMerged w0 w name own s
Says w0 w name own s (once.Spent clock) = (clock ≡ length w0.history) × (w.history ≡ w0.history) × HasKeptList w0 w
Says w0 w name own s (once.Worn node word) = (w.history ≡ w0.history) × HasKeptList w0 w
Says w0 w name own s (once.Again (again.NeedsSplit node)) = (w.history ≡ w0.history) × IsHalvedSince name w0 w ×
    (members_most w ≡ members_most w0)
Says w0 w name own s (once.Again why) = (w.history ≡ w0.history) × HasKeptList w0 w

-- What it leaves of the history, as it had a place or not before its last step.
abbrev pub LeavesHistory : Option Change → World → World → Party → Type 0
LeavesHistory own w0 w p = (placed_in p.stage ≡ None → w.history ≡ w0.history) ×
    (placed_in p.stage ≢ None → w.history ≡ w0.history ++ written p.caller p.index own)

-- A step leaves it so; and after an answer all is at rest, and as the answer says.
abbrev pub TriesGo : Type 0
TriesGo = (name : List ℕ) (own : Option Change) (w0 : World) (i : ℕ) (w : World) (p : Party) (action : Action) (x : ℕ)
    (next : Stage) → Trying name own w0 i w p → IsFor name own p.stage →
    IfSome (counted p.stage) (λ change. own ≡ Some change) → AnyStep w.layout w.generation p.stage action x next None →
    x ≡ got w.layout w.words action → length w.history < 2 ^ 63 →
    Trying name own w0 i (stepped w i p action next) (moved_on p next)

abbrev pub TriesEnd : Type 0
TriesEnd = (name : List ℕ) (own : Option Change) (w0 : World) (i : ℕ) (w : World) (p : Party) (action : Action) (x : ℕ)
    (next : Stage) (answer : Once Placed) → Trying name own w0 i w p → IsFor name own p.stage →
    IsAbout name p.stage → AnyStep w.layout w.generation p.stage action x next (Some answer) →
    x ≡ got w.layout w.words action → length w.history < 2 ^ 63 →
    IsAtRest (stepped w i p action next) × Says w0 (stepped w i p action next) name own p.stage answer ×
    LeavesHistory own w0 (stepped w i p action next) p
