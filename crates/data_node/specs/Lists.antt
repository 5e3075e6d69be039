-- The list of nodes: where a node leads, its anchor, and which node is the one for a name.
use Rattle.std.specs.Prelude.{◌≡◌, ◌≢◌, ℕ, zero, suc, ◌+◌, ◌*◌, ◌^◌, ◌<◌, ◌≤◌, ◌==◌, ◌⊎◌, Bool, false, None, nat_le}
use Rattle.std.specs.Prelude.{if◌then◌else◌, List, [], ◌∷◌, slice_index}
use Rattle.std.specs.List.{AllByRecursion}
use Rattle.cat_key.specs.Names.{IsName, words_of}
use Rattle.pm_words.specs.Offsets.{next_offset, anchor_offset}
use Rattle.data_node.specs.Spots.{Spot, Finds}

-- Three words as one number, the first the highest; so their order is that of the numbers.
abbrev pub three_words : ℕ → ℕ → ℕ → ℕ
three_words a b c = (a * 2 ^ 64 + b) * 2 ^ 64 + c

-- The number of a key's words.
abbrev pub number_of : List ℕ → ℕ
number_of words = three_words (slice_index words 0) (slice_index words 1) (slice_index words 2)

-- The number of a name's words, and that of a node's anchor.
unfoldable pub key_of : List ℕ → ℕ
key_of name = number_of (words_of name)

unfoldable pub anchor_in : Spot → ℕ
anchor_in s = three_words (s anchor_offset) (s (anchor_offset + 1)) (s (anchor_offset + 2))

-- The words of the anchor.
abbrev pub anchor_words : Spot → List ℕ
anchor_words s = s anchor_offset ∷ s (anchor_offset + 1) ∷ s (anchor_offset + 2) ∷ []

-- The name belongs to the node of these words, if it is listed and the node that it leads to has those words.
pub record IsBetween (s t : Spot) (key : ℕ) : Type 0 where
  pub low : anchor_in s ≤ key
  pub high : s next_offset ≢ 0 → key < anchor_in t

-- A node of the list, behind node 0.
pub record ListNode : Type 0 where
  pub node : ℕ
  pub anchor : ℕ

-- The nodes behind this one, at most so many, each with its anchor.
abbrev pub members_from : (ℕ → Spot) → ℕ → ℕ → List ListNode
members_from now zero n = []
members_from now (suc fuel) n =
    if now n next_offset == 0 then []
    else (record {
      node = now n next_offset;
      anchor = anchor_in (now (now n next_offset));
    }) ∷ members_from now fuel (now n next_offset)

-- The node for a key among this one and those behind it: the last whose anchor is no greater.
abbrev pub target_from : ℕ → List ListNode → ℕ → ℕ
target_from here [] key = here
target_from here (m ∷ behind) key = if nat_le m.anchor key then target_from m.node behind key else here

-- A node stands among these.
abbrev pub IsMember : List ListNode → ℕ → Type 0
IsMember [] n = ⊥
IsMember (m ∷ behind) n = (n ≡ m.node) ⊎ IsMember behind n

-- It is node 0, or one of those behind it.
abbrev pub IsIn : List ListNode → ℕ → Type 0
IsIn members n = (n ≡ 0) ⊎ IsMember members n

-- The node stands so many positions behind this one; at position 0 is this one itself.
abbrev pub IsAtPosition : ℕ → List ListNode → ℕ → ℕ → Type 0
IsAtPosition here list zero n = n ≡ here
IsAtPosition here [] (suc position) n = ⊥
IsAtPosition here (m ∷ behind) (suc position) n = IsAtPosition m.node behind position n

-- The names for which a node of the list is the one to look in: those whose target it is. So each name is in one range.
abbrev pub range_in : List ListNode → ℕ → List ℕ → Bool
range_in list n name = target_from 0 list (key_of name) == n

-- These are the nodes behind this one, by their words.
abbrev pub IsChain : (ℕ → Spot) → ℕ → List ListNode → Type 0
IsChain now n [] = now n next_offset ≡ 0
IsChain now n (m ∷ behind) = (now n next_offset ≡ m.node) × (m.node ≢ 0) × (anchor_in (now m.node) ≡ m.anchor) ×
    IsChain now m.node behind

-- Their anchors rise, from above this number.
abbrev pub Rise : ℕ → List ListNode → Type 0
Rise least [] = Unit {0}
Rise least (m ∷ behind) = (least < m.anchor) × Rise m.anchor behind

-- The words of so many nodes make this list behind node 0: it ends, its anchors rise from node 0's, which is zero, and
-- are names, and each of its nodes is one of the so many.
pub record MakeList (nodes : ℕ) (now : ℕ → Spot) (list : List ListNode) : Type 0 where
  pub chain : IsChain now 0 list
  pub lowest : anchor_in (now 0) ≡ 0
  pub rise : Rise 0 list
  pub within : AllByRecursion (λ (m : ListNode). m.node < nodes) list
  pub named : AllByRecursion (λ (m : ListNode). (name : List ℕ) × IsName name × (m.anchor ≡ key_of name)) list

-- The members with one more behind the node l.
abbrev pub with_member : ℕ → ListNode → ℕ → List ListNode → List ListNode
with_member l new here [] = if here == l then new ∷ [] else []
with_member l new here (m ∷ behind) = if here == l then new ∷ m ∷ behind else m ∷ with_member l new m.node behind

-- The members without the node r.
abbrev pub without_member : ℕ → List ListNode → List ListNode
without_member r [] = []
without_member r (m ∷ behind) = if m.node == r then behind else m ∷ without_member r behind

-- The live slots have no name out of the range.
abbrev pub StaysIn : ℕ → (List ℕ → Bool) → Spot → Type 0
StaysIn slots range s = (name : List ℕ) → IsName name → range name ≡ false → Finds slots s name None
