-- Where a walk goes: it stays at its node, or makes one hop to another.
use Rattle.std.specs.Prelude.{◌≡◌, ◌≢◌, ℕ, ◌+◌, ◌*◌, ◌⊎◌}
use Rattle.pm_words.specs.declared.again.Again.{Again}
use Rattle.pm_words.specs.declared.again.Again.TheVariants as again
use Rattle.pm_words.specs.declared.machine.Turn.{Turn}
use Rattle.pm_words.specs.declared.machine.Turn.TheVariants.{Go, Done}
use Rattle.version_lock.specs.Versions.{IsFree}
use Rattle.call_stages.specs.Kinds.{Told}
use Rattle.data_list.specs.declared.target.Walked.{Walked}
use Rattle.data_list.specs.declared.target.Walked.TheVariants as walked
use Rattle.data_list.specs.declared.walk.Walk.{Walk}
use Rattle.data_list.specs.declared.walk.WalkAt.{WalkAt}
use Rattle.data_list.specs.declared.walk.WalkAt.TheVariants as at
use Rattle.data_list.specs.Walks.{landing, IsWalk, walk_at_asks, walk_turned}

-- The number of the node to which it hops as it is told x: the one that it loads as the node before, the next node, or
-- node 0.
abbrev pub hop_from : WalkAt → ℕ → ℕ
hop_from at.Prev x = x
hop_from (at.HighThird version low next first second) x = next
hop_from _ x = 0

-- It stays at its node with as many hops.
pub record Stays (before after : Walk) : Type 0 where
  pub node : after.node ≡ before.node
  pub hops : after.hops ≡ before.hops

-- As it was to make this load, and was told x, it made a hop, and begins anew at the node to which it came. That is
-- another one, if the load may give x.
pub record Hopped (before : Walk) (load : WalkAt) (x : ℕ) (after : Walk) : Type 0 where
  pub node : after.node ≡ landing before (hop_from load x)
  pub hops : after.hops ≡ before.hops + 1
  pub anew : after.at ≡ at.Version
  pub changed : Told before.layout before.generation (walk_at_asks before.layout before.node load) x →
      after.node ≢ before.node

-- Why a walk gives up: the version word of its node, which it was told, is not free; or its last hop made them 2 *
-- nodes.
abbrev pub CanGiveUp : Walk → ℕ → Again → Type 0
CanGiveUp walk x (again.Locked node word) = (node ≡ walk.node) × (word ≡ x) × (IsFree word walk.generation → ⊥)
CanGiveUp walk x (again.Hops count) = (count ≡ walk.hops + 1) × (count ≡ 2 * walk.layout.nodes)
CanGiveUp walk x _ = ⊥

abbrev pub HopsAt : Walk → WalkAt → ℕ → Turn Walk Walked → Type 0
HopsAt walk at x (Go next) = Stays walk next ⊎ Hopped walk at x next
HopsAt walk at x (Done (walked.Target target)) = (target.node ≡ walk.node) × (target.hops ≡ walk.hops)
HopsAt walk at x (Done (walked.Again why)) = CanGiveUp walk x why

-- Each turn of a walk, whatever it is told, keeps node and hops, or makes one hop, which changes the node whatever
-- number it is told of those that its load may give; it tells as many hops as it made, and gives up for want of a free
-- version word or exactly at 2 * nodes hops.
abbrev pub WalksHop : Type 0
WalksHop = (walk : Walk) (x : ℕ) → IsWalk walk → HopsAt walk walk.at x (walk_turned walk x)
