-- How far a node is from the target of a key: over how many GONE nodes a way leads out to a listed one, and how many
-- nodes of the list lie between that one and the target.
use Rattle.std.specs.Prelude.{◌≡◌, ◌≢◌, ℕ, suc, ◌+◌, ◌-◌, ◌<◌, ◌≤◌, List}
use Rattle.pm_words.specs.Codes.{gone_status}
use Rattle.pm_words.specs.declared.layout.Layout.{Layout}
use Rattle.pm_words.specs.Offsets.{next_offset}
use Rattle.data_node.specs.Lists.{ListNode, anchor_in, IsIn, with_member, without_member}
use Rattle.data_list.specs.Still.{Nodes, position_from, AreQuiet, Comes}

-- From a node the prevs of so many GONE ones lead to this listed one.
pub data GoesOut (f : Nodes) : ℕ → ℕ → ℕ → Type 0 where
  is_out : {n : ℕ} → IsIn f.list n → GoesOut f n 0 n
  goes_by : {n hops out : ℕ} → f.status n ≡ gone_status → GoesOut f (f.prev n) hops out → GoesOut f n (suc hops) out

-- How many nodes of the list have their anchors above the one key and not above the other.
abbrev pub apart : List ListNode → ℕ → ℕ → ℕ
apart list key other = (position_from list key - position_from list other) +
    (position_from list other - position_from list key)

-- So many hops lead from the node to the target of the key, and no FREE node lies on the way.
pub record IsWay (f : Nodes) (key n hops : ℕ) : Type 0 where
  pub out : ℕ
  pub gone : ℕ
  pub leads : GoesOut f n gone out
  pub all : hops ≡ gone + apart f.list (anchor_in (f.now out)) key

-- With nothing in flight a way is the walk's.
abbrev pub WaysAreWalks : Type 0
WaysAreWalks = (l : Layout) (g : ℕ) (f : Nodes) (key n hops : ℕ) → AreQuiet l g f → n < l.nodes →
    IsWay f key n hops → Comes l f key n hops

-- Each GONE node still is, and has the prev that it had.
abbrev pub StayGone : Nodes → Nodes → Type 0
StayGone f f' = (n : ℕ) → f.status n ≡ gone_status → (f'.status n ≡ gone_status) × (f'.prev n ≡ f.prev n)

-- A fresh node stands behind this one.
pub record HasCut (f f' : Nodes) : Type 0 where
  pub left : ℕ
  pub new : ListNode
  pub listed : IsIn f.list left
  pub list : f'.list ≡ with_member left new 0 f.list

-- The node behind this one is GONE, and leads back to it.
pub record HasJoined (f f' : Nodes) : Type 0 where
  pub left : ℕ
  pub right : ℕ
  pub listed : IsIn f.list left
  pub some : right ≢ 0
  pub leads : f.now left next_offset ≡ right
  pub list : f'.list ≡ without_member right f.list
  pub gone : f'.status right ≡ gone_status
  pub prev : f'.prev right ≡ left

-- From each node to each target the way is as long as it was,
abbrev pub SameWays : Type 0
SameWays = (l : Layout) (g : ℕ) (f f' : Nodes) → AreQuiet l g f → AreQuiet l g f' → StayGone f f' → f'.list ≡ f.list →
    (key n hops : ℕ) → IsWay f key n hops → IsWay f' key n hops

-- and it is one hop longer at most, once a node was cut or two were joined.
abbrev pub LongerByOne : Nodes → Nodes → Type 0
LongerByOne f f' = (key n hops : ℕ) → IsWay f key n hops → (more : ℕ) × (more ≤ hops + 1) × IsWay f' key n more

abbrev pub CutWays : Type 0
CutWays = (l : Layout) (g : ℕ) (f f' : Nodes) → AreQuiet l g f → AreQuiet l g f' → StayGone f f' → HasCut f f' →
    LongerByOne f f'

abbrev pub JoinWays : Type 0
JoinWays = (l : Layout) (g : ℕ) (f f' : Nodes) → AreQuiet l g f → AreQuiet l g f' → StayGone f f' → HasJoined f f' →
    LongerByOne f f'
