-- How often nodes can still be locked, and what a call that is made with no other in flight takes of that.
use Rattle.std.specs.Prelude.{◌≡◌, ◌≢◌, ℕ, zero, suc, ◌+◌, ◌-◌, ◌<◌, ◌≤◌, min, Bool, true, false, Option, None, Some}
use mathlib.Core.Option.{some}
use lib.ListN.{get_elem?}
use Rattle.pm_words.specs.declared.action.Action.{Action}
use Rattle.pm_words.specs.Rows.{got}
use Rattle.version_lock.specs.declared.TheConstants.{LAST_COUNT}
use Rattle.version_lock.specs.Versions.{generation_of, kept_count, locked_word, IsWorn}
use Rattle.call_stages.specs.declared.once.Once.{Once}
use Rattle.call_stages.specs.declared.once.Placed.{Placed}
use Rattle.call_stages.specs.Stages.{Stage, Idle, Saw, Wears, Reads, Holds, Eyes, Splits, Leaves, Meets, Joins}
use Rattle.call_stages.specs.AnySteps.{AnyStep}
use Rattle.pm_words.specs.declared.layout.Layout.{Layout}
use Rattle.index_law.specs.Facts.{Facts}
use Rattle.index_law.specs.Worlds.{Party, World, facts, stepped}
use Rattle.index_law.specs.Lawful.{Lawful, Sure}

-- How many more times the lock of a node with this version word can be taken in the run of this generation.
abbrev pub locks_of : ℕ → ℕ → ℕ
locks_of g word = LAST_COUNT - kept_count word g

-- The fewest that any of the first so many nodes has.
abbrev pub fewest_locks : ℕ → (ℕ → ℕ) → ℕ → ℕ
fewest_locks g version zero = LAST_COUNT
fewest_locks g version (suc n) = min (locks_of g (version n)) (fewest_locks g version n)

abbrev pub locks_in : World → ℕ
locks_in w = fewest_locks w.generation (facts w).version w.layout.nodes

-- The word v was free and not worn, and the lock was taken with the word w.
pub record IsTaken (g v w : ℕ) : Type 0 where
  pub known : generation_of v ≤ g
  pub unworn : IsWorn v g → ⊥
  pub lock : w ≡ locked_word g (kept_count v g)

-- The lock of node n is taken. The others' words are as before.
pub record IsLockedOnce (g : ℕ) (before now : ℕ → ℕ) (n w : ℕ) : Type 0 where
  pub taken : IsTaken g (before n) w
  pub others : (m : ℕ) → m ≢ n → now m ≡ before m

-- Those of the nodes n and m are taken.
pub record AreLocked (g : ℕ) (before now : ℕ → ℕ) (n w m u : ℕ) : Type 0 where
  pub one : IsTaken g (before n) w
  pub two : IsTaken g (before m) u
  pub others : (k : ℕ) → k ≢ n → k ≢ m → now k ≡ before k

-- That of node n is taken, and each of the others has lost one lock at most.
pub record IsLeft (g : ℕ) (before now : ℕ → ℕ) (n w : ℕ) : Type 0 where
  pub taken : IsTaken g (before n) w
  pub others : (m : ℕ) → m ≢ n → locks_of g (before m) ≤ locks_of g (now m) + 1

-- Its node is taken; if it has nothing more to do than to give that back, others may have lost a lock.
abbrev pub HoldsLocked : ℕ → (ℕ → ℕ) → (ℕ → ℕ) → Bool → ℕ → ℕ → Type 0
HoldsLocked g before now false n w = IsLockedOnce g before now n w
HoldsLocked g before now true n w = IsLeft g before now n w

-- The version words at this stage of a try that began with those before, and may have nothing more to do than to give
-- its node back.
abbrev pub HasLocked : ℕ → (ℕ → ℕ) → (ℕ → ℕ) → Bool → Stage → Type 0
HasLocked g before now leaving Idle = (m : ℕ) → now m ≡ before m
HasLocked g before now leaving (Saw n v w k) = (m : ℕ) → now m ≡ before m
HasLocked g before now leaving (Wears n v) = (m : ℕ) → now m ≡ before m
HasLocked g before now leaving (Reads n v sight told) = (m : ℕ) → now m ≡ before m
HasLocked g before now leaving (Holds n w h) = HoldsLocked g before now leaving n w
HasLocked g before now leaving (Eyes n w h m v u free) = IsLockedOnce g before now n w
HasLocked g before now leaving (Splits left fresh phase) = AreLocked g before now left.node left.lock fresh.node
    fresh.lock
HasLocked g before now leaving (Leaves left) = IsLeft g before now left.node left.lock
HasLocked g before now leaving (Meets n w h right) = AreLocked g before now n w right.node right.lock
HasLocked g before now leaving (Joins h left right pace) = AreLocked g before now left.node left.lock right.node
    right.lock

-- It holds one node and looks at no other; or it holds both nodes of a merge.
abbrev pub HoldsOne : Stage → Type 0
HoldsOne (Holds n w h) = Unit {0}
HoldsOne _ = ⊥

abbrev pub HoldsBoth : Stage → Type 0
HoldsBoth (Meets n w h right) = Unit {0}
HoldsBoth (Joins h left right pace) = Unit {0}
HoldsBoth _ = ⊥

-- A try that held both nodes of a merge has then nothing more to do than to give its own back, and with that it is
-- answered.
pub record PartsOnce (stage : Stage) (leaving : Bool) (next : Stage) (after : Bool) (answer : Option (Once Placed)) :
    Type 0 where
  pub parts : HoldsBoth stage → HoldsOne next → after ≡ true
  pub last : leaving ≡ true → HoldsOne stage → answer ≢ None

-- After a step that isn't answered the words are those of its stage; after one that is, each node has lost one lock at
-- most.
abbrev pub AfterLocks : ℕ → (ℕ → ℕ) → (ℕ → ℕ) → Bool → Stage → Option (Once Placed) → Type 0
AfterLocks g before now after next None = HasLocked g before now after next
AfterLocks g before now after next (Some answer) = (m : ℕ) → locks_of g (before m) ≤ locks_of g (now m) + 1

-- A try takes one lock of each node at most.
abbrev pub LocksGo : Type 0
LocksGo = (before : ℕ → ℕ) (w : World) (i : ℕ) (p : Party) (leaving : Bool) (action : Action) (x : ℕ) (next : Stage)
    (after : Bool) (answer : Option (Once Placed)) → Lawful w →
    get_elem? w.parties i ≡ some p → HasLocked w.generation before (facts w).version leaving p.stage →
    PartsOnce p.stage leaving next after answer →
    AnyStep w.layout w.generation p.stage action x next answer →
    x ≡ got w.layout w.words action →
    AfterLocks w.generation before (facts (stepped w i p action next)).version after next answer

-- So it is between two steps, too: at each stage of a try each node has lost one lock at most.
abbrev pub StagesLose : Type 0
StagesLose = (l : Layout) (g : ℕ) (before : ℕ → ℕ) (f : Facts) (caller index since : ℕ) (leaving : Bool) (s : Stage) →
    Sure l g f caller index since s → HasLocked g before f.version leaving s → (m : ℕ) →
    locks_of g (before m) ≤ locks_of g (f.version m) + 1

-- Where each node has lost one at most, so have the fewest.
abbrev pub FewestLose : Type 0
FewestLose = (g : ℕ) (before now : ℕ → ℕ) (nodes : ℕ) → ((m : ℕ) → locks_of g (before m) ≤ locks_of g (now m) + 1) →
    fewest_locks g before nodes ≤ fewest_locks g now nodes + 1

-- A node that is worn has none left.
abbrev pub WornHasNone : Type 0
WornHasNone = (g : ℕ) (version : ℕ → ℕ) (n nodes : ℕ) → n < nodes → IsWorn (version n) g →
    fewest_locks g version nodes ≡ 0
