-- The laws of shapes.
use Rattle.std.specs.Prelude.{◌≡◌, ℕ, ◌+◌, ◌*◌, ◌/◌, ◌%◌, ◌≤◌, ◌⊎◌, ◌↔◌, true, false, List, [], ◌∷◌, Some, IsSome}
use Rattle.std.specs.Prelude.{All, length, slice_get}
use Rattle.std.specs.FinMap.{insert, remove, keys, len}
use Rattle.std.specs.List.{flat_map}
use Rattle.std.specs.Option.{option_map}
use Rattle.cat_history.specs.Maps.{Map, at, LacksRoom}
use Rattle.cat_history.specs.Scans.{IsLegalScan}
use Rattle.cat_history.specs.declared.record.Reply.TheVariants.{Parts}
use Rattle.cat_history.specs.declared.record.ScanPart.{ScanPart}
use Rattle.shapes.specs.Anchors.{Anchors, AreAnchors, is_between, names_between, target_of, next_of, IsFullPut, splits}
use Rattle.shapes.specs.Anchors.{middle_of, put_anchors, merges, del_anchors}
use Rattle.shapes.specs.Members.{Member, with_name, without_name, IsTargetMember, members, Outcome, Full, Placed, Puts}
use Rattle.shapes.specs.Members.{Deletes}
use Rattle.shapes.specs.ShapeRounds.{EndsWithMembers}
use Rattle.shapes.specs.Weights.{IsShape, weight, one_lacking}

-- The names of all members, one member after another, are those of the map.
abbrev pub MembersPartNames : Type 0
MembersPartNames = (m : Map) (anchors : Anchors) → AreAnchors anchors →
    flat_map (λ (member : Member). member.names) (members m anchors) ≡ keys m

-- A delete of a list of members comes to just the members that the anchors make of the map without the name.
abbrev pub DeleteAgrees : Type 0
DeleteAgrees = (slots : ℕ) (m : Map) (anchors : Anchors) (name : List ℕ) → AreAnchors anchors → (after : List Member) →
    Deletes slots name (members m anchors) after ↔ (after ≡ members (remove m name) (del_anchors slots m anchors name))

-- A put on a list of members comes to Full, and to nothing else, where it is a full put by the anchors; elsewhere it
-- comes to the members that the new anchors make of the map with the name, and to nothing else.
abbrev pub PutAgrees : Type 0
PutAgrees = (slots nodes : ℕ) (m : Map) (anchors : Anchors) (name : List ℕ) (value : ℕ) → 2 ≤ slots →
    IsShape slots nodes m anchors →
    (IsFullPut slots nodes m anchors name ×
    ((outcome : Outcome) → Puts slots nodes name (members m anchors) outcome ↔ (outcome ≡ Full)))
    ⊎ ((IsFullPut slots nodes m anchors name → ⊥) × ((outcome : Outcome) →
    Puts slots nodes name (members m anchors) outcome
    ↔ (outcome ≡ Placed (members (insert m name value) (put_anchors slots m anchors name)))))

-- A scan's part begins at its low and ends before the anchor of the right neighbour of its target, if there is one.
abbrev pub PartsAgree : Type 0
PartsAgree = (m : Map) (anchors : Anchors) (low : List ℕ) (before after : List Member) (target : Member) →
    AreAnchors anchors →
    IsTargetMember low (members m anchors) before target after →
    option_map (λ (member : Member). member.anchor) (slice_get after 0) ≡ next_of anchors low

-- The parts are those of a scan of the map that was answered at once, at this place, each of which ends with a member.
pub record IsScanByShape (m : Map) (anchors : Anchors) (from : List ℕ) (count place : ℕ) (parts : List ScanPart) :
    Type 0 where
  pub legal : IsLegalScan (λ _. m) from count false parts
  pub at_once : All (λ part. part.place ≡ place) parts
  pub ends : EndsWithMembers anchors (Parts parts false)

-- Of a map that stays, a scan whose parts end with the members has one answer: two scans of the same names, at the same
-- place, have the same parts,
abbrev pub ScansAreOne : Type 0
ScansAreOne = (m : Map) (anchors : Anchors) (from : List ℕ) (count place : ℕ) (a b : List ScanPart) →
    IsScanByShape m anchors from count place a → IsScanByShape m anchors from count place b → a ≡ b

-- and no more of them than there are members.
abbrev pub ScansAreShort : Type 0
ScansAreShort = (m : Map) (anchors : Anchors) (from : List ℕ) (count place : ℕ) (parts : List ScanPart) →
    AreAnchors anchors → IsScanByShape m anchors from count place parts → length parts ≤ length anchors

-- A fresh index is a shape of one member.
abbrev pub FreshIsShape : Type 0
FreshIsShape = (slots nodes : ℕ) (m : Map) → 1 ≤ nodes → len m ≤ slots → IsShape slots nodes m ([] ∷ [])

-- Puts that aren't full and deletes leave shapes that the nodes can hold.
abbrev pub PutKeepsShape : Type 0
PutKeepsShape = (slots nodes : ℕ) (m : Map) (anchors : Anchors) (name : List ℕ) (value : ℕ) → 2 ≤ slots →
    IsShape slots nodes m anchors →
    (IsFullPut slots nodes m anchors name → ⊥) →
    IsShape slots nodes (insert m name value) (put_anchors slots m anchors name)

abbrev pub DeleteKeepsShape : Type 0
DeleteKeepsShape = (slots nodes : ℕ) (m : Map) (anchors : Anchors) (name : List ℕ) → IsShape slots nodes m anchors →
    IsShape slots nodes (remove m name) (del_anchors slots m anchors name)

-- What a split leaves: each half has half as many names as a node has slots, the shape is one that the nodes can hold
-- where one is left, and weighs no more. So the same put, made again, splits nothing and isn't full.
pub record LeavesHalves (slots nodes : ℕ) (m : Map) (anchors : Anchors) (name : List ℕ) : Type 0 where
  pub low_half : length (names_between m (target_of anchors name) (Some (middle_of slots m anchors name))) ≡ slots / 2
  pub high_half : length (names_between m (middle_of slots m anchors name) (next_of anchors name)) ≡ slots / 2
  pub one_more : length (put_anchors slots m anchors name) ≡ length anchors + 1
  pub shape : IsShape slots (nodes + 1) m (put_anchors slots m anchors name)
  pub weighs : weight slots m (put_anchors slots m anchors name) ≤ weight slots m anchors
  pub no_second : splits slots m (put_anchors slots m anchors name) name ≡ false
  pub room : (most : ℕ) → IsFullPut slots most m (put_anchors slots m anchors name) name → ⊥
  pub stays : put_anchors slots m (put_anchors slots m anchors name) name ≡ put_anchors slots m anchors name

abbrev pub SplitIsEnough : Type 0
SplitIsEnough = (slots nodes : ℕ) (m : Map) (anchors : Anchors) (name : List ℕ) → 2 ≤ slots → slots % 2 ≡ 0 →
    IsShape slots nodes m anchors →
    splits slots m anchors name ≡ true → LeavesHalves slots nodes m anchors name

-- A put raises the weight by one at most, its split included, and only where it adds a name; a delete doesn't raise it,
-- its merge included.
abbrev pub PutWeighs : Type 0
PutWeighs = (slots nodes : ℕ) (m : Map) (anchors : Anchors) (name : List ℕ) (value : ℕ) → 2 ≤ slots →
    IsShape slots nodes m anchors →
    (IsFullPut slots nodes m anchors name → ⊥) →
    weight slots (insert m name value) (put_anchors slots m anchors name) ≤ weight slots m anchors + one_lacking m name

abbrev pub DeleteWeighs : Type 0
DeleteWeighs = (slots : ℕ) (m : Map) (anchors : Anchors) (name : List ℕ) → AreAnchors anchors →
    weight slots (remove m name) (del_anchors slots m anchors name) ≤ weight slots m anchors

-- Each member weighs half as many as a node has slots at least; so where a put is full, all the nodes do, and the map
-- has at least as many names as one has slots.
abbrev pub FullWeighs : Type 0
FullWeighs = (slots nodes : ℕ) (m : Map) (anchors : Anchors) (name : List ℕ) → IsFullPut slots nodes m anchors name →
    (nodes * (slots / 2) ≤ weight slots m anchors) × (slots ≤ len m)

-- On one node a put is full exactly where the map lacks the name and has as many names as the node has slots.
abbrev pub OneNodeIsRoom : Type 0
OneNodeIsRoom = (slots : ℕ) (m : Map) (name : List ℕ) → len m ≤ slots →
    IsFullPut slots 1 m ([] ∷ []) name ↔ LacksRoom slots m name

-- How a switch store shows it. A name of the target below which the target has half as many names as a node has slots
-- is its middle: to put this name among the anchors is the split.
pub record CutsInHalf (slots : ℕ) (m : Map) (anchors : Anchors) (name cut : List ℕ) : Type 0 where
  pub inside : is_between (target_of anchors name) (next_of anchors name) cut ≡ true
  pub had : IsSome (at m cut)
  pub half : length (names_between m (target_of anchors name) (Some cut)) ≡ slots / 2

abbrev pub HalfIsSplit : Type 0
HalfIsSplit = (slots nodes : ℕ) (m : Map) (anchors : Anchors) (name cut : List ℕ) → 2 ≤ slots →
    IsShape slots nodes m anchors → splits slots m anchors name ≡ true →
    CutsInHalf slots m anchors name cut → with_name cut anchors ≡ put_anchors slots m anchors name

-- To take the next anchor away is the merge.
abbrev pub DropIsMerge : Type 0
DropIsMerge = (slots : ℕ) (m : Map) (anchors : Anchors) (name next : List ℕ) → AreAnchors anchors →
    merges slots m anchors name ≡ true →
    next_of anchors name ≡ Some next → without_name next anchors ≡ del_anchors slots m anchors name
