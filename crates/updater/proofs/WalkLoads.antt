-- Where a walk loads: words of nodes, and volatile words beside them, so none of a log line; and what it may be told.
use Rattle.std.proofs.Common.{◌≡◌, ℕ, ◌+◌, ◌<◌, List, refl, sym, subst, arith}
use Rattle.pm_words.specs.declared.layout.Layout.{Layout}
use Rattle.pm_words.specs.declared.action.Action.{Action}
use Rattle.pm_words.specs.declared.action.Action.TheVariants.{Load}
use Rattle.pm_words.specs.Locations.{Location, Node, Line, Volatile, Cached, HasLocation, address_of}
use Rattle.pm_words.specs.Offsets.{version_offset, next_offset, anchor_offset, status_offset, prev_offset}
use Rattle.call_stages.specs.Kinds.{Told}
use Rattle.data_list.specs.declared.walk.Walk.{Walk}
use Rattle.data_list.specs.declared.walk.WalkAt.{WalkAt}
use Rattle.data_list.specs.declared.walk.WalkAt.TheVariants as walk_at
use Rattle.data_list.specs.Walks.{IsWalkAt, IsWalk, walk_at_asks, walk_asks}
use Rattle.smo_log.specs.declared.line.Entry.{Entry}
use Rattle.updater.specs.declared.terms.Terms.{Terms}
use Rattle.updater.specs.Works.{IsWalkTo}

-- no word of a log line
abbrev pub IsApart : Location → Type 0
IsApart p = (c j offset : ℕ) → p ≡ Cached (Line c j offset) → ⊥

-- a load of a word that is no log line's
pub record LoadsApart (l : Layout) (a : Action) : Type 0 where
  pub location : Location
  pub has : HasLocation l location
  pub apart : IsApart location
  pub loads : a ≡ Load (address_of l location)

of_node : (l : Layout) (n offset : ℕ) → n < l.nodes → offset < 16 → LoadsApart l (Load (address_of l (Cached (Node n offset))))
of_node l n offset here small = record { location = Cached (Node n offset); has = (here, omega arith); apart = λ c j o is. cc; loads = refl }

beside_node : (l : Layout) (n offset : ℕ) → n < l.nodes → offset < 16 → LoadsApart l (Load (address_of l (Volatile n offset)))
beside_node l n offset here small = record { location = Volatile n offset; has = (here, small); apart = λ c j o is. cc; loads = refl }

place_at : (l : Layout) (g : ℕ) (key : List ℕ) (node : ℕ) (at : WalkAt) → node < l.nodes → IsWalkAt l g key at → LoadsApart l (walk_at_asks l node at)
place_at l g key node walk_at.Version here is = of_node l node version_offset here (omega arith)
place_at l g key node (walk_at.Status version) here is = beside_node l node status_offset here (omega arith)
place_at l g key node (walk_at.First version) here is = of_node l node anchor_offset here (omega arith)
place_at l g key node (walk_at.Second version first) here is = of_node l node (anchor_offset + 1) here (omega arith)
place_at l g key node (walk_at.Third version first second) here is = of_node l node (anchor_offset + 2) here (omega arith)
place_at l g key node (walk_at.Next version low) here is = of_node l node next_offset here (omega arith)
place_at l g key node (walk_at.HighFirst version low next) here is = of_node l next anchor_offset is.2.within (omega arith)
place_at l g key node (walk_at.HighSecond version low next first) here is = of_node l next (anchor_offset + 1) is.2.within (omega arith)
place_at l g key node (walk_at.HighThird version low next first second) here is = of_node l next (anchor_offset + 2) is.2.within (omega arith)
place_at l g key node walk_at.Prev here is = beside_node l node prev_offset here (omega arith)

pub walk_place : (walk : Walk) → IsWalk walk → LoadsApart walk.layout (walk_asks walk)
walk_place walk sound = place_at walk.layout walk.generation walk.key walk.node walk.at sound.node sound.here

-- what an action may give in the turn it may give in its walk
pub walk_told : (terms : Terms) (entry : Entry) (walk : Walk) (a : Action) (x : ℕ) → IsWalkTo terms entry walk → Told terms.layout terms.generation a x → Told walk.layout walk.generation a x
walk_told terms entry walk a x to told = subst (λ (g : ℕ). Told walk.layout g a x) (sym to.generation) (subst (λ (k : Layout). Told k terms.generation a x) (sym to.layout) told)

pub turn_told : (terms : Terms) (entry : Entry) (walk : Walk) (a : Action) (x : ℕ) → IsWalkTo terms entry walk → Told walk.layout walk.generation a x → Told terms.layout terms.generation a x
turn_told terms entry walk a x to told = subst (λ (g : ℕ). Told terms.layout g a x) to.generation (subst (λ (k : Layout). Told k walk.generation a x) to.layout told)
