-- What keeps an index with its search layer beside the steps of its parties: parties that begin a call, are counted, or
-- are replaced by others, a clock that begins anew, and turns that rest; and a fresh index, which has it all.
use Rattle.std.specs.Prelude.{◌≡◌, ◌≢◌, ◌⊎◌, ℕ, ◌<◌, List, slice_set, Option}
use mathlib.Core.Option.{some}
use lib.ListN.{get_elem?}
use Rattle.pm_words.specs.declared.layout.Layout.{Layout}
use Rattle.pm_words.specs.Layouts.{IsLayout}
use Rattle.pm_words.specs.Locations.{Volatile, address_of, at}
use Rattle.pm_words.specs.Offsets.{stamp_offset}
use Rattle.cat_history.specs.Maps.{Map}
use Rattle.cat_history.specs.declared.op.Write.{Write}
use Rattle.call_stages.specs.Stages.{Idle}
use Rattle.call_stages.specs.Kinds.{clock_address}
use Rattle.call_stages.specs.Lines.{HeldLine}
use Rattle.call_stages.specs.Prevs.{Debt}
use Rattle.index_law.specs.Worlds.{Party}
use Rattle.index_law.specs.Lawful.{Each}
use Rattle.index_law.specs.Laws.{fresh_world}
use Rattle.index_law.specs.Whole.{Whole, IsWhole}
use Rattle.index_law.specs.Footings.{AreTended}
use Rattle.updater_row_law.specs.Turnings.{Turning}
use Rattle.index_layer_law.specs.Turnings.{AreResting}
use Rattle.index_layer_law.specs.Layers.{Layered, IsLayered}
use Rattle.index_layer_law.specs.Laws.{IsAtRest}

-- The index with these parties, lines and debts, another base and history, and this clock.
abbrev pub begun_anew : Whole → ℕ → List Party → Map → List Write → List (Option HeldLine) → List Debt → Whole
begun_anew z clock parties base history lines debts = record {
  world = record {
    layout = z.world.layout;
    generation = z.world.generation;
    words = slice_set z.world.words (clock_address z.world.layout) clock;
    parties = parties;
    base = base;
    history = history;
  };
  lines = lines;
  debts = debts;
}

-- The party that stands at i is idle, or is where one of the same stage stood, with the same line.
abbrev pub IsIdleOrKept : Whole → List (Option HeldLine) → ℕ → Party → Type 0
IsIdleOrKept z lines i p =
    (p.stage ≡ Idle) ⊎ ((q : Party) × (get_elem? z.world.parties i ≡ some q) × (q.stage ≡ p.stage) ×
    (get_elem? lines i ≡ get_elem? z.lines i))

-- Where that keeps the index, it keeps it with its search layer and its turns.
abbrev pub BeginningKeepsLayer : Type 0
BeginningKeepsLayer = (z : Layered) (clock : ℕ) (parties : List Party) (base : Map) (history : List Write)
    (lines : List (Option HeldLine)) (debts : List Debt) → IsLayered z →
    IsWhole (begun_anew z.whole clock parties base history lines debts) →
    AreTended (begun_anew z.whole clock parties base history lines debts) →
    ((i : ℕ) (p : Party) → get_elem? parties i ≡ some p → IsIdleOrKept z.whole lines i p) →
    IsLayered (record { whole = begun_anew z.whole clock parties base history lines debts; turns = z.turns })

-- Where no turn is in flight, there may be any others that rest, as long as there is one.
abbrev pub OtherTurnsMayRest : Type 0
OtherTurnsMayRest = (z : Layered) (turns : List Turning) (i : ℕ) (t : Turning) → IsLayered z → AreResting z.turns →
    ((j : ℕ) (u : Turning) → get_elem? turns j ≡ some u → IsAtRest u) → get_elem? turns i ≡ some t →
    IsLayered (record { whole = z.whole; turns = turns })

-- With no turn in flight a node's stamp that isn't 0 may become another that isn't.
abbrev pub restamped : Whole → ℕ → ℕ → Whole
restamped z n stamp = record z {
  world = record (z.world) {
    words = slice_set z.world.words (address_of z.world.layout (Volatile n stamp_offset)) stamp;
  };
}

abbrev pub StampKeepsLayer : Type 0
StampKeepsLayer = (z : Layered) (n stamp : ℕ) → IsLayered z → AreResting z.turns → n < z.whole.world.layout.nodes →
    at z.whole.world.layout z.whole.world.words (Volatile n stamp_offset) ≢ 0 → stamp ≢ 0 →
    IsWhole (restamped z.whole n stamp) → AreTended (restamped z.whole n stamp) →
    IsLayered (record { whole = restamped z.whole n stamp; turns = z.turns })

-- A fresh index, in which no call and no turn is in flight, has its search layer.
abbrev pub FreshIsLayered : Type 0
FreshIsLayered = (l : Layout) (parties : List Party) (lines : List (Option HeldLine)) (debts : List Debt)
    (turns : List Turning) (i : ℕ) (t : Turning) → IsLayout l →
    IsWhole (record { world = fresh_world l parties; lines = lines; debts = debts }) →
    AreTended (record { world = fresh_world l parties; lines = lines; debts = debts }) →
    Each (λ p. p.stage ≡ Idle) parties →
    ((j : ℕ) (u : Turning) → get_elem? turns j ≡ some u → IsAtRest u) → get_elem? turns i ≡ some t →
    IsLayered (record { whole = record { world = fresh_world l parties; lines = lines; debts = debts }; turns = turns })
