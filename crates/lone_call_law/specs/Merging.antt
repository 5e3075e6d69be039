-- What a delete that is made with no other call in flight makes of the list: it may merge its node with the next one.
use Rattle.std.specs.Prelude.{◌≡◌, ℕ, ◌+◌, ◌/◌, ◌≤◌, ◌⊎◌, true, List, length, IsSome}
use Rattle.std.specs.FinMap.{remove}
use Rattle.cat_history.specs.Maps.{at}
use Rattle.cat_history.specs.declared.op.NameOp.{NameOp}
use Rattle.cat_history.specs.declared.op.NameOp.TheVariants as op
use Rattle.version_lock.specs.Versions.{IsWorn}
use Rattle.shapes.specs.Anchors.{next_of, names_at, merges, del_anchors}
use Rattle.pm_words.specs.Offsets.{next_offset}
use Rattle.data_node.specs.Lists.{target_from, key_of, without_member}
use Rattle.node_ops.specs.Asked.{name_asked}
use Rattle.index_law.specs.Facts.{map_now}
use Rattle.index_law.specs.Anchors.{anchors_in, members_most}
use Rattle.index_law.specs.Worlds.{World, facts}
use Rattle.index_law.specs.Laws.{IsAtRest}

-- The node to which the target of a name leads, or 0.
abbrev pub next_node : World → List ℕ → ℕ
next_node w name = (facts w).now (target_from 0 (facts w).list (key_of name)) next_offset

-- Of the node behind the target of the name no lock can be taken any more.
abbrev pub NextIsWorn : World → List ℕ → Type 0
NextIsWorn w name = IsWorn ((facts w).version (next_node w name)) w.generation

-- A delete of the name merges its target with the next node, by the shape.
abbrev pub ShapeMerges : World → List ℕ → Type 0
ShapeMerges w name = merges w.layout.slots (map_now (facts w)) (anchors_in w) name ≡ true

-- The map has the name, and without it the target keeps at most half as many names as a node has slots.
abbrev pub KeepsFew : World → List ℕ → Type 0
KeepsFew w name = IsSome (at (map_now (facts w)) name) ×
    (length (names_at (remove (map_now (facts w)) name) (anchors_in w) name) ≤ w.layout.slots / 2)

-- Then a delete of the name tries to merge the target with the next node, if there is one.
abbrev pub TriesMerge : World → List ℕ → Type 0
TriesMerge w name = KeepsFew w name × IsSome (next_of (anchors_in w) name)

-- It is a delete that merges the node of its name with the next one: the shape says so, and that one can be locked.
abbrev pub FindsMerge : World → NameOp → Type 0
FindsMerge w (op.Del name) = ShapeMerges w name × ¬ NextIsWorn w name
FindsMerge w (op.Put name value) = ⊥
FindsMerge w (op.Get name) = ⊥

-- Since w0 the node behind that of the name was merged into it, and is GONE.
pub record IsMergedSince (name : List ℕ) (w0 w : World) : Type 0 where
  pub list : (facts w).list ≡ without_member (next_node w0 name) (facts w0).list
  pub anchors : anchors_in w ≡ del_anchors w0.layout.slots (map_now (facts w0)) (anchors_in w0) name
  pub most : members_most w + 1 ≡ members_most w0

-- The same nodes are listed, and as many are GONE.
abbrev pub HasKeptList : World → World → Type 0
HasKeptList w0 w = ((facts w).list ≡ (facts w0).list) × (members_most w ≡ members_most w0)

-- The list after a call that took place: as before where it has nothing to merge, else one member shorter.
abbrev pub LeavesShape : World → NameOp → World → Type 0
LeavesShape w0 asked w = (¬ FindsMerge w0 asked × HasKeptList w0 w) ⊎
    (FindsMerge w0 asked × IsMergedSince (name_asked asked) w0 w)

-- A delete that merges by the shape tries to.
abbrev pub MergeIsTried : Type 0
MergeIsTried = (w : World) (name : List ℕ) → IsAtRest w → ShapeMerges w name → TriesMerge w name
