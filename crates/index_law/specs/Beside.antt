-- The prev words: each is the number of a node. They stand beside all that is said of nodes and of lines.
use Rattle.std.specs.Prelude.{◌≡◌, ◌≢◌, ℕ, ◌<◌, List}
use Rattle.pm_words.specs.declared.layout.Layout.{Layout}
use Rattle.pm_words.specs.declared.action.Action.{Action}
use Rattle.pm_words.specs.declared.action.Action.TheVariants.{Store}
use Rattle.pm_words.specs.Locations.{Node, Location, Volatile, Cached, Durable, Clock, HasLocation, at}
use Rattle.pm_words.specs.Rows.{acted}
use Rattle.pm_words.specs.Offsets.{prev_offset, status_offset}
use Rattle.call_stages.specs.Stages.{Stage}
use Rattle.call_stages.specs.Kinds.{prev_address}
use Rattle.index_law.specs.Laws.{Allowed}
use Rattle.index_law.specs.Worlds.{World}
use Rattle.index_law.specs.Lawful.{Lawful}
use Rattle.index_law.specs.Lines.{AreFit}

abbrev pub ArePrevs : Layout → List ℕ → Type 0
ArePrevs l words = (n : ℕ) → n < l.nodes → at l words (Volatile n prev_offset) < l.nodes

-- A location that no step on nodes touches.
pub record IsBeside (p : Location) : Type 0 where
  pub clock : p ≢ Clock
  pub status : (n : ℕ) → p ≢ Volatile n status_offset
  pub cached : (n offset : ℕ) → p ≢ Cached (Node n offset)
  pub durable : (n offset : ℕ) → p ≢ Durable (Node n offset)

abbrev pub NodesLeaveOthers : Type 0
NodesLeaveOthers = (l : Layout) (words : List ℕ) (stage : Stage) (action : Action) (p : Location) → HasLocation l p →
    IsBeside p → Allowed l stage action →
    at l (acted l words action) p ≡ at l words p

-- The store of a prev, by whomever, keeps the index lawful.
pub record PrevLaw (w : World) (words : List ℕ) : Type 0 where
  pub kept : Lawful (record w { words = words })
  pub fit : AreFit w.layout words
  pub prevs : ArePrevs w.layout words

abbrev pub PrevsKeep : Type 0
PrevsKeep = (w : World) (n y : ℕ) → Lawful w → AreFit w.layout w.words → ArePrevs w.layout w.words →
    n < w.layout.nodes → y < w.layout.nodes →
    PrevLaw w (acted w.layout w.words (Store (prev_address w.layout n) y))
