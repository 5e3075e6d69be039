-- The laws: what steps of calls and of turns keep, and what it says of the search layer.
use Rattle.std.specs.Prelude.{◌≡◌, ◌≢◌, ℕ, ◌<◌, ◌⊎◌, ◌^◌, length, slice_set, Option}
use mathlib.Core.Option.{some}
use lib.ListN.{get_elem?}
use Rattle.pm_words.specs.Codes.{free_status, untaken_lock}
use Rattle.pm_words.specs.declared.action.Action.{Action}
use Rattle.pm_words.specs.Locations.{Updater, Cached, Durable, Volatile, image_words, at}
use Rattle.pm_words.specs.Rows.{CanAct, acted, got}
use Rattle.data_node.specs.Lists.{anchor_in, IsIn}
use Rattle.call_stages.specs.declared.once.Once.{Once}
use Rattle.call_stages.specs.declared.once.Placed.{Placed}
use Rattle.call_stages.specs.Stages.{Idle}
use Rattle.call_stages.specs.Footings.{Footing, FootStep}
use Rattle.call_stages.specs.Watches.{Nothing}
use Rattle.index_law.specs.Facts.{Facts, durable_spot, IsListed}
use Rattle.index_law.specs.Laws.{durable_list}
use Rattle.index_law.specs.Worlds.{Party, facts}
use Rattle.index_law.specs.Lawful.{Each}
use Rattle.index_law.specs.Whole.{IsWhole}
use Rattle.index_law.specs.Footings.{AreTended, stepped_whole}
use Rattle.index_law.specs.Footed.{evicted_whole}
use Rattle.layer_map.specs.Keys.{key_number}
use Rattle.updater_row_law.specs.search_layer.specs.Rows.{layer_words}
use Rattle.updater_row_law.specs.search_layer.specs.Kept.{layer_of, kept}
use Rattle.updater_law.specs.Covered.{IsCovered, IsTarget}
use Rattle.updater_law.specs.Covers.{IsOpenFor}
use Rattle.updater_row_law.specs.Columns.{lines_in}
use Rattle.updater_row_law.specs.RowStages.{RowLine, RowTarget, Resting, Between, HasTarget}
use Rattle.updater_row_law.specs.RowLaw.{RowLawful}
use Rattle.updater_row_law.specs.Turnings.{Turning, TurnFoot}
use Rattle.index_layer_law.specs.Turnings.{terms_of, ghosts_of}
use Rattle.index_layer_law.specs.Layers.{Layered, IsLayered}

-- A step of a call, of the party that stands at i.
abbrev pub CallStepKeeps : Type 0
CallStepKeeps = (z : Layered) (i : ℕ) (p : Party) (foot next : Footing) (action : Action) (x : ℕ)
    (answer : Option (Once Placed)) → IsLayered z → get_elem? z.whole.world.parties i ≡ some p →
    get_elem? z.whole.lines i ≡ some foot.line → get_elem? z.whole.debts i ≡ some foot.debt → p.stage ≡ foot.stage →
    FootStep z.whole.world.layout z.whole.world.generation p.caller foot action x next answer →
    x ≡ got z.whole.world.layout z.whole.world.words action →
    length z.whole.world.history < 2 ^ 63 →
    IsLayered (record { whole = stepped_whole z.whole i p action next; turns = z.turns })

-- The index after a step of the turn of the party that stands at i.
abbrev pub turned : Layered → ℕ → Action → Turning → Layered
turned z i action next = record {
  whole = record (z.whole) {
    world = record (z.whole.world) { words = acted z.whole.world.layout z.whole.world.words action };
  };
  turns = slice_set z.turns i next;
}

-- A step of a turn can be done, and keeps the index.
abbrev pub TurnStepKeeps : Type 0
TurnStepKeeps = (z : Layered) (i : ℕ) (t next : Turning) (action : Action) (x : ℕ) → IsLayered z →
    get_elem? z.turns i ≡ some t → t.stamp < 2 ^ 64 → TurnFoot (terms_of z.whole.world t) t action x next →
    x ≡ got z.whole.world.layout z.whole.world.words action →
    CanAct z.whole.world.layout z.whole.world.words action × IsLayered (turned z i action next)

-- The words of the nodes are as before, and with them the list, the map and the history; statuses are too, but that
-- nodes may have become FREE.
pub record LeavesNodes (before after : Facts) : Type 0 where
  pub nodes : after ≡ record before { status = after.status }
  pub frees : (n : ℕ) → (after.status n ≡ before.status n) ⊎ (after.status n ≡ free_status)

-- So a turn's step leaves them.
abbrev pub TurnStepLeavesNodes : Type 0
TurnStepLeavesNodes = (z : Layered) (i : ℕ) (t next : Turning) (action : Action) (x : ℕ) → IsLayered z →
    get_elem? z.turns i ≡ some t → t.stamp < 2 ^ 64 → TurnFoot (terms_of z.whole.world t) t action x next →
    x ≡ got z.whole.world.layout z.whole.world.words action →
    LeavesNodes (facts z.whole.world) (facts (turned z i action next).whole.world)

-- Of a node's volatile words it leaves all but the status and the stamp.
abbrev pub TurnStepLeavesVolatile : Type 0
TurnStepLeavesVolatile = (z : Layered) (i : ℕ) (t next : Turning) (action : Action) (x n offset : ℕ) → IsLayered z →
    get_elem? z.turns i ≡ some t → TurnFoot (terms_of z.whole.world t) t action x next →
    x ≡ got z.whole.world.layout z.whole.world.words action → n < z.whole.world.layout.nodes → offset < 16 →
    offset ≢ 0 → offset ≢ 2 →
    at z.whole.world.layout (acted z.whole.world.layout z.whole.world.words action) (Volatile n offset) ≡
    at z.whole.world.layout z.whole.world.words (Volatile n offset)

-- A party whose turn rests may begin another one, with a stamp of its own.
abbrev pub TurnStartKeeps : Type 0
TurnStartKeeps = (z : Layered) (i : ℕ) (t : Turning) (stamp release : ℕ) → IsLayered z →
    get_elem? z.turns i ≡ some t → t.stage ≡ Resting → stamp ≢ 0 →
    IsLayered (record {
      whole = z.whole;
      turns = slice_set z.turns i (record { stamp = stamp; release = release; stage = Resting; watch = Nothing });
    })

-- A party whose turn has the lock and comes to a line may have other terms for it from there on.
abbrev pub TermsMayBegin : Type 0
TermsMayBegin = (z : Layered) (i line : ℕ) (t : Turning) (stamp release : ℕ) → IsLayered z →
    get_elem? z.turns i ≡ some t → t.stage ≡ Between line → stamp ≢ 0 →
    IsLayered (record {
      whole = z.whole;
      turns = slice_set z.turns i (record { stamp = stamp; release = release; stage = Between line; watch = Nothing });
    })

-- A word of the image that becomes durable keeps it all.
abbrev pub EvictionKeepsLayer : Type 0
EvictionKeepsLayer = (z : Layered) (word : ℕ) → IsLayered z → word < image_words z.whole.world.layout →
    IsLayered (record { whole = evicted_whole z.whole word; turns = z.turns })

-- The turn rests, and has a stamp to give.
pub record IsAtRest (t : Turning) : Type 0 where
  pub stage : t.stage ≡ Resting
  pub stamp : t.stamp ≢ 0
  pub watch : t.watch ≡ Nothing

-- With no call and no turn in flight all of it holds where the index is kept, nobody has the updater lock, and the row
-- is lawful for a turn.
abbrev pub RestIsLayered : Type 0
RestIsLayered = (z : Layered) (i : ℕ) (t : Turning) → IsWhole z.whole → AreTended z.whole →
    Each (λ p. p.stage ≡ Idle) z.whole.world.parties →
    ((j : ℕ) (u : Turning) → get_elem? z.turns j ≡ some u → IsAtRest u) → get_elem? z.turns i ≡ some t →
    at z.whole.world.layout z.whole.world.words Updater ≡ untaken_lock →
    RowLawful (terms_of z.whole.world t) (ghosts_of z.whole.world (λ n. 0)) z.whole.world.words Resting → IsLayered z

-- The target that a turn's walk came to is that of its line's anchor, as long as the node's version word stands.
abbrev pub TargetsStand : Type 0
TargetsStand = (z : Layered) (i : ℕ) (t : Turning) (e : RowLine) (target : RowTarget) → IsLayered z →
    get_elem? z.turns i ≡ some t → t.stage ≡ HasTarget e target →
    (facts z.whole.world).version target.node ≡ target.version →
    IsTarget (IsListed (facts z.whole.world)) (λ n. anchor_in ((facts z.whole.world).now n)) (key_number e.anchor)
    target.node

-- At any moment the layer leads each key that no log line has which isn't EMPTY to the listed node with this anchor,
-- and nowhere where there is none. So does the durable one, but for keys that durable lines have.
pub record LeadsAsListed (z : Layered) : Type 0 where
  pub cached : IsCovered (IsListed (facts z.whole.world)) (λ n. anchor_in ((facts z.whole.world).now n))
      (layer_of z.whole.world.layout z.whole.world.words)
      (IsOpenFor (lines_in z.whole.world.layout z.whole.world.words Cached))
  pub durable : IsCovered (IsListed (facts z.whole.world)) (λ n. anchor_in ((facts z.whole.world).now n))
      (kept z.whole.world.layout (layer_words z.whole.world.layout z.whole.world.words Durable))
      (IsOpenFor (lines_in z.whole.world.layout z.whole.world.words Durable))

abbrev pub LayerIsCovered : Type 0
LayerIsCovered = (z : Layered) → IsLayered z → LeadsAsListed z

-- So does the durable layer by the durable list: it leads each key that no durable line has which isn't EMPTY to the
-- node of that list with this anchor, and nowhere where there is none.
abbrev pub CrashLeadsAsListed : Type 0
CrashLeadsAsListed = (z : Layered) → IsLayered z → IsCovered (IsIn (durable_list z.whole.world))
    (λ n. anchor_in (durable_spot z.whole.world.layout z.whole.world.words n))
    (kept z.whole.world.layout (layer_words z.whole.world.layout z.whole.world.words Durable))
    (IsOpenFor (lines_in z.whole.world.layout z.whole.world.words Durable))
