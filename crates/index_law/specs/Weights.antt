-- What an index weighs, with the calls in flight, and how steps, starts and crashes change that.
use Rattle.std.specs.Prelude.{◌≡◌, ℕ, zero, suc, ◌+◌, ◌≤◌, ◌/◌, ◌==◌, ◌⊎◌, nat_le, if◌then◌else◌, List, [], ◌∷◌, Option}
use Rattle.std.specs.Prelude.{Some, None}
use mathlib.Core.Option.{some}
use lib.ListN.{get_elem?}
use Rattle.pm_words.specs.Codes.{gone_status}
use Rattle.pm_words.specs.declared.layout.Layout.{Layout}
use Rattle.pm_words.specs.declared.action.Action.{Action}
use Rattle.pm_words.specs.declared.action.Action.TheVariants.{Store}
use Rattle.pm_words.specs.Rows.{got}
use Rattle.pm_words.specs.Offsets.{bitmap_offset}
use Rattle.cat_history.specs.declared.op.Change.{Change}
use Rattle.cat_history.specs.declared.op.Change.TheVariants.{Put, Del}
use Rattle.data_node.specs.Weights.{names_in, node_weight, total, list_weight}
use Rattle.call_stages.specs.declared.once.Once.{Once}
use Rattle.call_stages.specs.declared.once.Placed.{Placed}
use Rattle.call_stages.specs.Stages.{Held, Pace, Gathered, Joined, Gone, Stage, Idle, Saw, Wears, Reads, Holds, Eyes}
use Rattle.call_stages.specs.Stages.{Splits}
use Rattle.call_stages.specs.Stages.{Leaves, Meets, Joins}
use Rattle.call_stages.specs.Kinds.{Step, word_address}
use Rattle.index_law.specs.Facts.{Facts, range_of, durable_spot}
use Rattle.index_law.specs.Laws.{durable_list}
use Rattle.index_law.specs.Worlds.{Party, World, facts, stepped, started, joined, evicted_world}
use Rattle.index_law.specs.Lawful.{Lawful, Each}

-- What a node weighs, and the listed nodes together.
abbrev pub weight_at : Layout → Facts → ℕ → ℕ
weight_at l f n = node_weight l.slots (range_of l f n) (f.now n)

abbrev pub listed_weight : Layout → Facts → ℕ
listed_weight l f = total (weight_at l f) 0 f.list

-- What those of the first so many nodes weigh that are GONE, by what one weighs.
abbrev pub gone_weight : ℕ → (ℕ → ℕ) → ℕ → ℕ
gone_weight half status zero = 0
gone_weight half status (suc n) = (if status n == gone_status then half else 0) + gone_weight half status n

-- What the index weighs: its listed nodes, and half a node's slots for each GONE one.
abbrev pub index_weight : Layout → Facts → ℕ
index_weight l f = listed_weight l f + gone_weight (l.slots / 2) f.status l.nodes

-- One for a delete that has lowered the weight of its node and isn't counted in the history yet: its name was there,
-- and so many names are left that the one taken away weighed. It goes by the slots, the names that the node has now,
-- the change that is pending, and what its name had.
abbrev pub lowered_by : ℕ → ℕ → Option Change → Option (Option ℕ) → ℕ
lowered_by slots names (Some (Del name)) (Some (Some value)) = if nat_le (slots / 2) names then 1 else 0
lowered_by slots names _ _ = 0

-- What a node weighs that a merge has left out of the list and that isn't GONE yet.
abbrev pub left_out : ℕ → Pace → ℕ
left_out slots Gathered = 0
left_out slots Joined = slots / 2
left_out slots Gone = 0

-- By how much the call at this stage has lowered the weight so.
abbrev pub lowered_in : Layout → Facts → Stage → ℕ
lowered_in l f Idle = 0
lowered_in l f (Saw n v w k) = 0
lowered_in l f (Holds n w h) = lowered_by l.slots (names_in l.slots (range_of l f n) (f.now n)) h.pending h.old
lowered_in l f (Eyes n w h m v u free) = 0
lowered_in l f (Splits left fresh phase) = 0
lowered_in l f (Leaves left) = 0
lowered_in l f (Wears n v) = 0
lowered_in l f (Reads n v sight told) = 0
lowered_in l f (Meets n w h right) = 0
lowered_in l f (Joins h left right pace) = left_out l.slots pace

-- By how much the calls of all the parties have.
abbrev pub lowered_sum : Layout → Facts → List Party → ℕ
lowered_sum l f [] = 0
lowered_sum l f (p ∷ parties) = lowered_in l f p.stage + lowered_sum l f parties

-- The weight of the index, with what deletes that aren't counted yet have lowered it by.
abbrev pub weight_sum : World → ℕ
weight_sum w = index_weight w.layout (facts w) + lowered_sum w.layout (facts w) w.parties

-- The store by which a put adds a name: that of its node's bitmap. Before it the call has neither a change in its node
-- nor a place, and after it the node shows the put of a name that wasn't there.
pub record AddsName (l : Layout) (stage : Stage) (action : Action) (next : Stage) : Type 0 where
  pub node : ℕ
  pub lock : ℕ
  pub before : Held
  pub after : Held
  pub was : stage ≡ Holds node lock before
  pub is : next ≡ Holds node lock after
  pub unshown : before.pending ≡ None
  pub unplaced : before.placed ≡ None
  pub new : after.old ≡ Some None
  pub name : List ℕ
  pub value : ℕ
  pub shows : after.pending ≡ Some (Put name value)
  pub bitmap : ℕ
  pub stores : action ≡ Store (word_address l node bitmap_offset) bitmap

-- The second number is no more than the first, or one more where there is a reason.
abbrev pub RisesBy : Type 0 → ℕ → ℕ → Type 0
RisesBy reason before after = (after ≤ before) ⊎ (reason × (after ≤ before + 1))

-- A step raises the sum by at most one, and only where a put adds a name.
abbrev pub StepWeighs : Type 0
StepWeighs = (w : World) (i : ℕ) (p : Party) (action : Action) (x : ℕ) (next : Stage) (answer : Option (Once Placed)) →
    Lawful w →
    get_elem? w.parties i ≡ some p → Step w.layout w.generation p.stage action x next answer →
    x ≡ got w.layout w.words action →
    RisesBy (AddsName w.layout p.stage action next) (weight_sum w) (weight_sum (stepped w i p action next))

-- A start leaves the sum as it is,
abbrev pub StartWeighs : Type 0
StartWeighs = (w : World) (i : ℕ) (p : Party) (index : ℕ) → get_elem? w.parties i ≡ some p → p.stage ≡ Idle →
    weight_sum (started w i p index) ≡ weight_sum w

-- and so do a party that comes to the others
abbrev pub JoinWeighs : Type 0
JoinWeighs = (w : World) (p : Party) → p.stage ≡ Idle → weight_sum (joined w p) ≡ weight_sum w

-- and a word that becomes durable.
abbrev pub EvictWeighs : Type 0
EvictWeighs = (w : World) (word : ℕ) → weight_sum (evicted_world w word) ≡ weight_sum w

-- Where all parties are idle the sum is the weight.
abbrev pub IdleWeighs : Type 0
IdleWeighs = (w : World) → Each (λ p. p.stage ≡ Idle) w.parties → weight_sum w ≡ index_weight w.layout (facts w)

-- What is durable weighs no more than the sum.
abbrev pub durable_weight : World → ℕ
durable_weight w = list_weight w.layout.slots (durable_spot w.layout w.words) (durable_list w)

abbrev pub CrashWeighs : Type 0
CrashWeighs = (w : World) → Lawful w → durable_weight w ≤ weight_sum w
