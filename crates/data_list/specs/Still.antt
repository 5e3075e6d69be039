-- A walk while nobody changes the list: it comes to the target of its key.
use Rattle.std.specs.Prelude.{◌≡◌, ◌≢◌, ℕ, suc, ◌+◌, ◌<◌, ◌≤◌, ◌⊎◌, nat_le, if◌then◌else◌, List, [], ◌∷◌}
use Rattle.std.specs.List.{AllByRecursion}
use Rattle.pm_words.specs.Codes.{free_status, live_status, gone_status}
use Rattle.pm_words.specs.declared.layout.Layout.{Layout}
use Rattle.pm_words.specs.declared.machine.Turn.{Turn}
use Rattle.pm_words.specs.declared.machine.Turn.TheVariants.{Go, Done}
use Rattle.pm_words.specs.Offsets.{next_offset, anchor_offset}
use Rattle.version_lock.specs.Versions.{IsFree}
use Rattle.data_node.specs.Spots.{Spot}
use Rattle.data_node.specs.Lists.{ListNode, number_of, anchor_in, target_from, IsIn}
use Rattle.data_node.specs.Lists.{IsChain, Rise}
use Rattle.call_stages.specs.Orders.{AreInOrder}
use Rattle.data_list.specs.declared.target.Target.{Target}
use Rattle.data_list.specs.declared.target.Walked.{Walked}
use Rattle.data_list.specs.declared.target.Walked.TheVariants as walked
use Rattle.data_list.specs.declared.walk.Walk.{Walk}
use Rattle.data_list.specs.declared.walk.WalkAt.{WalkAt}
use Rattle.data_list.specs.declared.walk.WalkAt.TheVariants as at
use Rattle.data_list.specs.Walks.{walk_from, walk_turned}

-- The words of the nodes, and their list.
pub record Nodes : Type 0 where
  pub version : ℕ → ℕ
  pub status : ℕ → ℕ
  pub prev : ℕ → ℕ
  pub now : ℕ → Spot
  pub list : List ListNode

-- How many of these nodes a walk to the key hops to.
abbrev pub position_from : List ListNode → ℕ → ℕ
position_from [] key = 0
position_from (m ∷ behind) key = if nat_le m.anchor key then 1 + position_from behind key else 0

-- The list is in order, and nobody has a node of it.
pub record IsQuietList (l : Layout) (g : ℕ) (f : Nodes) : Type 0 where
  pub chain : IsChain f.now 0 f.list
  pub lowest : anchor_in (f.now 0) ≡ 0
  pub rise : Rise 0 f.list
  pub within : AllByRecursion (λ (m : ListNode). m.node < l.nodes) f.list
  pub live : (n : ℕ) → IsIn f.list n → f.status n ≡ live_status
  pub free : (n : ℕ) → n < l.nodes → IsFree (f.version n) g

-- So are the nodes of an index at rest: each is listed, FREE or GONE. The prev of each listed one but node 0 is the one
-- before it, and that of a GONE one leads to one that isn't GONE, or to a later one in their order.
pub record AreQuiet (l : Layout) (g : ℕ) (f : Nodes) : Type 0 where
  pub quiet : IsQuietList l g f
  pub listed : (n : ℕ) → n < l.nodes → f.status n ≡ live_status → IsIn f.list n
  pub three : (n : ℕ) → n < l.nodes → f.status n ≤ gone_status
  pub prevs : (n : ℕ) → IsIn f.list n → f.now n next_offset ≢ 0 → f.prev (f.now n next_offset) ≡ n
  pub below : (n : ℕ) → f.prev n < l.nodes
  pub order : AreInOrder l.nodes (λ n. f.status n ≡ gone_status) f.prev

-- From this node a walk to the key comes to the key's target by so many hops.
pub data Comes (l : Layout) (f : Nodes) (key : ℕ) : ℕ → ℕ → Type 0 where
  -- it is there
  is_there : {n : ℕ} → n ≡ target_from 0 f.list key → Comes l f key n 0
  -- from a FREE node one hop leads to node 0
  leaves_free : {n hops : ℕ} → n < l.nodes → f.status n ≡ free_status → Comes l f key 0 hops →
      Comes l f key n (suc hops)
  -- from a GONE one to its prev
  leaves_gone : {n hops : ℕ} → n < l.nodes → f.status n ≡ gone_status → Comes l f key (f.prev n) hops →
      Comes l f key n (suc hops)
  -- from a listed one whose anchor is past the key to its prev
  goes_back : {n hops : ℕ} → IsIn f.list n → key < anchor_in (f.now n) → Comes l f key (f.prev n) hops →
      Comes l f key n (suc hops)
  -- from a listed one to the next, whose anchor isn't past the key
  goes_on : {n hops : ℕ} → IsIn f.list n → f.now n next_offset ≢ 0 → anchor_in (f.now (f.now n next_offset)) ≤ key →
      Comes l f key (f.now n next_offset) hops → Comes l f key n (suc hops)

-- From node 0 it comes there by as many hops as listed nodes stand before the target;
abbrev pub FirstComes : Type 0
FirstComes = (l : Layout) (g : ℕ) (f : Nodes) (key : ℕ) → IsQuietList l g f → Comes l f key 0 (position_from f.list key)

-- from each node that there is it comes there;
abbrev pub EachComes : Type 0
EachComes = (l : Layout) (g : ℕ) (f : Nodes) (key n : ℕ) → AreQuiet l g f → n < l.nodes →
    (hops : ℕ) × Comes l f key n hops

-- by one number of hops, which is below that of the nodes.
abbrev pub ComesOnce : Type 0
ComesOnce = (l : Layout) (g : ℕ) (f : Nodes) (key n hops other : ℕ) → IsQuietList l g f → Comes l f key n hops →
    Comes l f key n other → hops ≡ other

abbrev pub ComesSoon : Type 0
ComesSoon = (l : Layout) (g : ℕ) (f : Nodes) (key n hops : ℕ) → IsQuietList l g f → 0 < l.nodes →
    Comes l f key n hops → hops < l.nodes

-- What its load gives as it stands at the node n: the words of f.
abbrev pub loaded : Nodes → ℕ → WalkAt → ℕ
loaded f n at.Version = f.version n
loaded f n (at.Status version) = f.status n
loaded f n (at.First version) = f.now n anchor_offset
loaded f n (at.Second version first) = f.now n (anchor_offset + 1)
loaded f n (at.Third version first second) = f.now n (anchor_offset + 2)
loaded f n (at.Next version low) = f.now n next_offset
loaded f n (at.HighFirst version low next) = f.now next anchor_offset
loaded f n (at.HighSecond version low next first) = f.now next (anchor_offset + 1)
loaded f n (at.HighThird version low next first second) = f.now next (anchor_offset + 2)
loaded f n at.Prev = f.prev n

-- It has loaded that the node is in use, and this version word.
pub record SawLive (f : Nodes) (n version : ℕ) : Type 0 where
  pub word : version ≡ f.version n
  pub live : f.status n ≡ live_status

-- And that the key isn't below the node's anchor, and which node is the next.
pub record SawNext (f : Nodes) (key n version next : ℕ) : Type 0 where
  pub here : SawLive f n version
  pub above : anchor_in (f.now n) ≤ key
  pub leads : next ≡ f.now n next_offset
  pub some : next ≢ 0

-- What it has loaded is so.
abbrev pub HasSeen : Nodes → ℕ → ℕ → WalkAt → Type 0
HasSeen f key n at.Version = Unit {0}
HasSeen f key n (at.Status version) = version ≡ f.version n
HasSeen f key n (at.First version) = SawLive f n version
HasSeen f key n (at.Second version first) = SawLive f n version × (first ≡ f.now n anchor_offset)
HasSeen f key n (at.Third version first second) =
    SawLive f n version × (first ≡ f.now n anchor_offset) × (second ≡ f.now n (anchor_offset + 1))
HasSeen f key n (at.Next version low) = SawLive f n version × (anchor_in (f.now n) ≤ key)
HasSeen f key n (at.HighFirst version low next) = SawNext f key n version next
HasSeen f key n (at.HighSecond version low next first) =
    SawNext f key n version next × (first ≡ f.now next anchor_offset)
HasSeen f key n (at.HighThird version low next first second) =
    SawNext f key n version next × (first ≡ f.now next anchor_offset) × (second ≡ f.now next (anchor_offset + 1))
HasSeen f key n at.Prev =
    (f.status n ≡ gone_status) ⊎ ((f.status n ≡ live_status) × (key < anchor_in (f.now n)))

-- How far a walk has come that makes so many hops in all.
pub record IsOnWay (l : Layout) (f : Nodes) (hops : ℕ) (walk : Walk) : Type 0 where
  pub left : ℕ
  pub comes : Comes l f (number_of walk.key) walk.node left
  pub all : walk.hops + left ≡ hops
  pub few : hops < l.nodes
  pub seen : HasSeen f (number_of walk.key) walk.node walk.at

-- After a turn: it is on its way, or at the target, and has made these hops.
abbrev pub StaysOnWay : Layout → Nodes → ℕ → List ℕ → Turn Walk Walked → Type 0
StaysOnWay l f hops key (Go walk) = IsOnWay l f hops walk
StaysOnWay l f hops key (Done (walked.Target target)) =
    (target.node ≡ target_from 0 f.list (number_of key)) × (target.hops ≡ hops) ×
    (target.version ≡ f.version target.node)
StaysOnWay l f hops key (Done (walked.Again why)) = ⊥

-- A walk that begins at a node from which one comes to the target is on its way.
abbrev pub BeginsOnWay : Type 0
BeginsOnWay = (l : Layout) (g : ℕ) (f : Nodes) (hops : ℕ) (walk : Walk) → IsQuietList l g f → 0 < l.nodes →
    walk.hops ≡ 0 → walk.at ≡ at.Version → Comes l f (number_of walk.key) walk.node hops → IsOnWay l f hops walk

-- While the words are f, each turn of a walk on its way leaves it on its way, or ends it at the target of its key.
abbrev pub WalksComeThere : Type 0
WalksComeThere = (l : Layout) (g : ℕ) (f : Nodes) (hops : ℕ) (walk : Walk) → IsQuietList l g f →
    walk.layout ≡ l → walk.generation ≡ g → IsOnWay l f hops walk →
    StaysOnWay l f hops walk.key (walk_turned walk (loaded f walk.node walk.at))

-- A walk that each load tells the words of f ends, and answers so.
pub data Answers (f : Nodes) : Walk → Walked → Type 0 where
  is_done : {walk : Walk} {answer : Walked} → walk_turned walk (loaded f walk.node walk.at) ≡ Done answer →
      Answers f walk answer
  turns : {walk next : Walk} {answer : Walked} → walk_turned walk (loaded f walk.node walk.at) ≡ Go next →
      Answers f next answer → Answers f walk answer

-- From a node from which one comes to the target by so many hops, a walk answers that target and those hops.
abbrev pub WalksAnswer : Type 0
WalksAnswer = (l : Layout) (g : ℕ) (f : Nodes) (hint hops : ℕ) (key : List ℕ) → IsQuietList l g f → 0 < l.nodes →
    Comes l f (number_of key) hint hops → (target : Target) ×
    Answers f (walk_from l g hint key) (walked.Target target) ×
    (target.node ≡ target_from 0 f.list (number_of key)) × (target.hops ≡ hops)
