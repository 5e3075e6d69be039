-- The prev words of the nodes, beside the law of the nodes: a listed node's prev is the one before it, but where a
-- party owes that; and from node to node by their prevs no way through GONE nodes comes back.
use Rattle.std.specs.Prelude.{◌≡◌, ◌≢◌, ℕ, zero, suc, ◌<◌, ◌≤◌, ◌^◌, ◌⊎◌, nat_lt, if◌then◌else◌, List}
use Rattle.std.specs.Prelude.{length, slice_set, Option, Some, IfSome}
use mathlib.Core.Option.{some}
use lib.ListN.{get_elem?}
use Rattle.pm_words.specs.Codes.{gone_status}
use Rattle.pm_words.specs.declared.layout.Layout.{Layout}
use Rattle.pm_words.specs.declared.action.Action.{Action}
use Rattle.pm_words.specs.declared.action.Action.TheVariants.{Load}
use Rattle.pm_words.specs.Locations.{Volatile, at, image_words}
use Rattle.pm_words.specs.Rows.{acted, got}
use Rattle.pm_words.specs.Offsets.{next_offset, prev_offset}
use Rattle.call_stages.specs.declared.once.Once.{Once}
use Rattle.call_stages.specs.declared.once.Placed.{Placed}
use Rattle.call_stages.specs.Stages.{Stage, Idle}
use Rattle.call_stages.specs.Kinds.{Step, prev_address}
use Rattle.call_stages.specs.Prevs.{Debt, no_debt, Deals, Prevs}
use Rattle.call_stages.specs.Orders.{AreInOrder}
use Rattle.index_law.specs.Facts.{Facts, IsListed}
use Rattle.index_law.specs.Worlds.{Party, World, facts, stepped, started, evicted_world}
use Rattle.index_law.specs.Lawful.{Lawful, Each}
use Rattle.call_stages.specs.Stages.{HoldsNode}
use Rattle.index_law.specs.Laws.{IsAtRest}

-- The prev of a node of the layout.
unfoldable pub prev_in : Layout → List ℕ → ℕ → ℕ
prev_in l words n = if nat_lt n l.nodes then at l words (Volatile n prev_offset) else 0

-- The world with the debt of each party.
pub record Traced : Type 0 where
  pub world : World
  pub debts : List Debt

-- A party owes the prev of the node after this one.
pub record IsOwed (z : Traced) (n : ℕ) : Type 0 where
  pub number : ℕ
  pub debt : Debt
  pub party : Party
  pub there : get_elem? z.debts number ≡ some debt
  pub at : get_elem? z.world.parties number ≡ some party
  pub is : debt.owes ≡ Some n

abbrev pub IsGone : Facts → ℕ → Type 0
IsGone f n = f.status n ≡ gone_status

pub record IsTraced (z : Traced) : Type 0 where
  pub lawful : Lawful z.world
  pub known : (i : ℕ) (d : Debt) (p : Party) → get_elem? z.debts i ≡ some d → get_elem? z.world.parties i ≡ some p →
      IfSome d.known (λ k. HoldsNode p.stage k.0 × (IsListed (facts z.world) k.0 → ⊥) ×
      (prev_in z.world.layout z.world.words k.0 ≡ k.1))
  pub owes : (i : ℕ) (d : Debt) (p : Party) → get_elem? z.debts i ≡ some d → get_elem? z.world.parties i ≡ some p →
      IfSome d.owes (λ n. HoldsNode p.stage n × IsListed (facts z.world) n)
  -- a listed node's prev is the one before it, or a party owes that
  pub prevs : (n : ℕ) → IsListed (facts z.world) n → (facts z.world).now n next_offset ≢ 0 →
      (prev_in z.world.layout z.world.words ((facts z.world).now n next_offset) ≡ n) ⊎ IsOwed z n
  pub order : AreInOrder z.world.layout.nodes (IsGone (facts z.world)) (prev_in z.world.layout z.world.words)
  pub below : (n : ℕ) → prev_in z.world.layout z.world.words n < z.world.layout.nodes

-- A step on nodes keeps this,
abbrev pub StepTraces : Type 0
StepTraces = (z : Traced) (i : ℕ) (p : Party) (action : Action) (x : ℕ) (next : Stage) (answer : Option (Once Placed))
    (debt after : Debt) → IsTraced z →
    get_elem? z.world.parties i ≡ some p → get_elem? z.debts i ≡ some debt →
    Step z.world.layout z.world.generation p.stage action x next answer →
    x ≡ got z.world.layout z.world.words action → length z.world.history < 2 ^ 63 → Deals p.stage next debt after →
    IsTraced (record { world = stepped z.world i p action next; debts = slice_set z.debts i after })

-- and so does one that stores a prev.
abbrev pub PrevTraces : Type 0
PrevTraces = (z : Traced) (i : ℕ) (p : Party) (action : Action) (debt after : Debt) → IsTraced z →
    get_elem? z.world.parties i ≡ some p → get_elem? z.debts i ≡ some debt →
    Prevs z.world.layout p.stage debt action after →
    IsTraced (record {
      world = record (z.world) { words = acted z.world.layout z.world.words action };
      debts = slice_set z.debts i after;
    })

-- So does a word that becomes durable, and a start of a call by a party that owes nothing.
abbrev pub EvictTraces : Type 0
EvictTraces = (z : Traced) (word : ℕ) → IsTraced z → word < image_words z.world.layout →
    IsTraced (record { world = evicted_world z.world word; debts = z.debts })

abbrev pub StartTraces : Type 0
StartTraces = (z : Traced) (i : ℕ) (p : Party) (index : ℕ) (debt : Debt) → IsTraced z →
    get_elem? z.world.parties i ≡ some p → get_elem? z.debts i ≡ some debt → p.stage ≡ Idle →
    IsTraced (record { world = started z.world i p index; debts = slice_set z.debts i no_debt })

-- so many prevs on
abbrev pub prevs_on : (ℕ → ℕ) → ℕ → ℕ → ℕ
prevs_on prev zero n = n
prevs_on prev (suc steps) n = prevs_on prev steps (prev n)

-- By their prevs one comes from a GONE node to one that isn't, in at most so many steps.
pub record ComesOut (gone : ℕ → Type 0) (prev : ℕ → ℕ) (most n : ℕ) : Type 0 where
  pub steps : ℕ
  pub within : steps ≤ most
  pub out : gone (prevs_on prev steps n) → ⊥

-- From each GONE node, in at most as many steps as there are nodes.
abbrev pub GoneComeOut : Type 0
GoneComeOut = (z : Traced) (n : ℕ) → IsTraced z → IsGone (facts z.world) n →
    ComesOut (IsGone (facts z.world)) (prev_in z.world.layout z.world.words) z.world.layout.nodes n

-- A prev that is loaded is one of the layout's nodes.
abbrev pub PrevsAreNodes : Type 0
PrevsAreNodes = (z : Traced) (n : ℕ) → IsTraced z → n < z.world.layout.nodes →
    got z.world.layout z.world.words (Load (prev_address z.world.layout n)) < z.world.layout.nodes

-- Where nothing is in flight, no party owes anything, prevs follow the list, and the GONE nodes are in order, this
-- holds;
abbrev pub RestIsTraced : Type 0
RestIsTraced = (z : Traced) → IsAtRest z.world → ((i : ℕ) (d : Debt) → get_elem? z.debts i ≡ some d → d ≡ no_debt) →
    ((n : ℕ) → IsListed (facts z.world) n → (facts z.world).now n next_offset ≢ 0 →
    prev_in z.world.layout z.world.words ((facts z.world).now n next_offset) ≡ n) →
    AreInOrder z.world.layout.nodes (IsGone (facts z.world)) (prev_in z.world.layout z.world.words) →
    ((n : ℕ) → prev_in z.world.layout z.world.words n < z.world.layout.nodes) → IsTraced z

-- and where all parties are idle, prevs follow the list.
abbrev pub IdleFollow : Type 0
IdleFollow = (z : Traced) (n : ℕ) → IsTraced z → Each (λ p. p.stage ≡ Idle) z.world.parties →
    IsListed (facts z.world) n → (facts z.world).now n next_offset ≢ 0 →
    prev_in z.world.layout z.world.words ((facts z.world).now n next_offset) ≡ n
