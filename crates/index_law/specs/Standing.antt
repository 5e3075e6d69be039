-- What stands of a node while its version word does.
use Rattle.std.specs.Prelude.{◌≡◌, ℕ, ◌<◌, ◌≤◌, Bool, true, List, length, Option, Some}
use mathlib.Core.Option.{some}
use lib.ListN.{get_elem?}
use Rattle.pm_words.specs.declared.layout.Layout.{Layout}
use Rattle.pm_words.specs.declared.action.Action.{Action}
use Rattle.pm_words.specs.Rows.{got}
use Rattle.version_lock.specs.Versions.{IsFree}
use Rattle.cat_history.specs.Maps.{Map, at}
use Rattle.cat_history.specs.Writes.{after}
use Rattle.cat_history.specs.declared.op.Write.{Write}
use Rattle.call_stages.specs.declared.once.Once.{Once}
use Rattle.call_stages.specs.declared.once.Placed.{Placed}
use Rattle.call_stages.specs.Stages.{Held, Sight, Stage, Reads}
use Rattle.call_stages.specs.AnySteps.{AnyStep}
use Rattle.index_law.specs.Facts.{Facts, map_now, range_of, IsListed}
use Rattle.index_law.specs.Worlds.{Party, World, facts, stepped}
use Rattle.index_law.specs.Lawful.{Lawful, Sure}

-- The node is as it was: whether it is listed, its words, its range, and on that the map.
pub record IsAsBefore (l : Layout) (f f' : Facts) (n : ℕ) : Type 0 where
  pub listed : IsListed f n → IsListed f' n
  pub words : f'.now n ≡ f.now n
  pub range : range_of l f' n ≡ range_of l f n
  pub map : (name : List ℕ) → range_of l f n name ≡ true → at (map_now f') name ≡ at (map_now f) name

-- A step that leaves the version word of a free node as it was leaves the node so. No step lowers a version word.
pub record StandLaw (w : World) (w' : World) (n : ℕ) : Type 0 where
  pub rises : (facts w).version n ≤ (facts w').version n
  pub stays : IsFree ((facts w).version n) w.generation → (facts w').version n ≡ (facts w).version n →
      IsAsBefore w.layout (facts w) (facts w') n

abbrev pub FreeNodesStand : Type 0
FreeNodesStand = (w : World) (i : ℕ) (p : Party) (action : Action) (x : ℕ) (next : Stage)
    (answer : Option (Once Placed)) → Lawful w → get_elem? w.parties i ≡ some p →
    AnyStep w.layout w.generation p.stage action x next answer → x ≡ got w.layout w.words action → (n : ℕ) →
    n < w.layout.nodes → StandLaw w (stepped w i p action next) n

-- On these bounds the map has been the same at every place from this one on.
pub record IsUnchanged (bounds : List ℕ → Bool) (base : Map) (history : List Write) (place : ℕ) : Type 0 where
  pub within : place ≤ length history
  pub same : (k : ℕ) → place ≤ k → k ≤ length history → (name : List ℕ) → bounds name ≡ true →
      at (after base history k) name ≡ at (after base history place) name

-- What was told at this place of the names in these bounds, of a node whose version word was this free one: while it is
-- still that one, the names belong there, and the map on them has been the same since.
pub record StandsSince (l : Layout) (g : ℕ) (f : Facts) (bounds : List ℕ → Bool) (n v place : ℕ) : Type 0 where
  pub here : n < l.nodes
  pub free : IsFree v g
  pub seen : v ≤ f.version n
  pub inside : f.version n ≡ v → (name : List ℕ) → bounds name ≡ true → range_of l f n name ≡ true
  pub unchanged : f.version n ≡ v → IsUnchanged bounds f.base f.history place

-- A step of any party keeps that,
abbrev pub StandingIsKept : Type 0
StandingIsKept = (w : World) (i : ℕ) (p : Party) (action : Action) (x : ℕ) (next : Stage)
    (answer : Option (Once Placed)) (bounds : List ℕ → Bool) (n v place : ℕ) → Lawful w →
    get_elem? w.parties i ≡ some p →
    AnyStep w.layout w.generation p.stage action x next answer → x ≡ got w.layout w.words action →
    StandsSince w.layout w.generation (facts w) bounds n v place →
    StandsSince w.layout w.generation (facts (stepped w i p action next)) bounds n v place

-- and a call that read the node without its lock may begin to rely on it, for names of the node's range, from its clock
-- on, once it has loaded the version word again and that is the one that it saw.
abbrev pub ReadsStand : Type 0
ReadsStand = (l : Layout) (g : ℕ) (f : Facts) (caller index since n v clock : ℕ) (k : Sight) (h : Held)
    (bounds : List ℕ → Bool) → Sure l g f caller index since (Reads n v k (Some h)) → h.time ≡ Some clock →
    f.version n ≡ v → ((name : List ℕ) → bounds name ≡ true → range_of l f n name ≡ true) →
    StandsSince l g f bounds n v clock
