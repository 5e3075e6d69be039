-- The nodes of an image, and which of them make its list.
use Rattle.std.specs.Prelude.{◌≡◌, ◌≢◌, ℕ, ◌<◌, ◌&&◌, Bool, nat_lt, if◌then◌else◌, List}
use Rattle.pm_words.specs.declared.layout.Layout.{Layout}
use Rattle.pm_words.specs.Locations.{Node, node_words, word_at}
use Rattle.pm_words.specs.Offsets.{next_offset}
use Rattle.data_node.specs.Spots.{Spot, IsLiveIn, name_words}
use Rattle.data_node.specs.Lists.{ListNode, members_from, IsIn, IsAtPosition, target_from, key_of}
use Rattle.data_node.specs.Lists.{range_in}

-- The words of a node of the image by their offsets, but for the version word.
unfoldable pub image_spot : Layout → List ℕ → ℕ → Spot
image_spot l image n offset =
    if nat_lt n l.nodes && (nat_lt 0 offset && nat_lt offset (node_words l)) then word_at l image (Node n offset) else 0

-- The nodes that are reached from node 0 by next. Behind node 0 there can't be as many as the image has nodes, but
-- where one is reached twice; so more are not looked at.
abbrev pub image_list : Layout → List ℕ → List ListNode
image_list l image = members_from (image_spot l image) l.nodes 0

abbrev pub IsListedNode : Layout → List ℕ → ℕ → Type 0
IsListedNode l image n = IsIn (image_list l image) n

-- The node is reached after so many steps.
abbrev pub IsListedAt : Layout → List ℕ → ℕ → ℕ → Type 0
IsListedAt l image position n = IsAtPosition 0 (image_list l image) position n

-- The node to which a node leads; 0 is none.
abbrev pub next_in : Layout → List ℕ → ℕ → ℕ
next_in l image n = image_spot l image n next_offset

-- Each listed node that leads on leads to one of the image's.
abbrev pub LeadWithin : Layout → List ℕ → Type 0
LeadWithin l image = (position n : ℕ) → IsListedAt l image position n → next_in l image n ≢ 0 →
    next_in l image n < l.nodes

-- The node to which a name belongs,
abbrev pub target_in : Layout → List ℕ → List ℕ → ℕ
target_in l image name = target_from 0 (image_list l image) (key_of name)

-- and the names that belong to a node.
abbrev pub image_range : Layout → List ℕ → ℕ → List ℕ → Bool
image_range l image n = range_in (image_list l image) n

-- A live slot, of so many, with these words where its name stands.
pub record HasWords (slots : ℕ) (s : Spot) (words : List ℕ) (slot : ℕ) : Type 0 where
  pub within : slot < slots
  pub live : IsLiveIn s slot
  pub same : name_words s slot ≡ words
