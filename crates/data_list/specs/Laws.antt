-- What every turn of a walk is.
use Rattle.std.specs.Prelude.{◌≡◌, ℕ, ◌<◌, ◌≤◌, Bool, true, false, List, Option, Some, None, IfSome}
use Rattle.pm_words.specs.declared.layout.Layout.{Layout}
use Rattle.pm_words.specs.declared.action.Action.{Action}
use Rattle.pm_words.specs.declared.machine.Turn.{Turn}
use Rattle.pm_words.specs.declared.machine.Turn.TheVariants.{Go, Done}
use Rattle.version_lock.specs.Versions.{kept_count, locked_word, is_worn_word, IsFree}
use Rattle.data_node.specs.Spots.{Spot}
use Rattle.data_node.specs.Lists.{IsBetween, number_of}
use Rattle.call_stages.specs.declared.once.Once.TheVariants as once
use Rattle.call_stages.specs.Stages.{Sees, Stage, Idle, Saw, Reads}
use Rattle.call_stages.specs.Kinds.{Look, Told}
use Rattle.call_stages.specs.Watches.{Watching, Watches, Watch, IsSeenAs}
use Rattle.data_list.specs.declared.target.Next.{Next}
use Rattle.data_list.specs.declared.target.Sighting.{Sighting}
use Rattle.data_list.specs.declared.target.Target.{Target}
use Rattle.data_list.specs.declared.target.Walked.{Walked}
use Rattle.data_list.specs.declared.target.Walked.TheVariants as walked
use Rattle.data_list.specs.declared.walk.Walk.{Walk}
use Rattle.data_list.specs.Keys.{key_words, IsNameOf}
use Rattle.data_list.specs.Walks.{LeadsOn, sighting_of, WasFree, IsWalk, walk_asks, walk_turned}
use Rattle.data_list.specs.WalkStages.{walk_watching, walk_stage, view_stage, sight_in}

-- What a walk saw of its target. While the version word stands, the key belongs there.
pub record IsSighting (g : ℕ) (key : List ℕ) (seen : Sighting) : Type 0 where
  pub free : WasFree g seen.version
  pub live : (sight_in seen).live ≡ true
  pub between : (s t : Spot) → Sees (sight_in seen) s t → IsBetween s t (number_of key)

-- The end of the range of a node that leads there, told as a name if its words are one.
abbrev pub Ends : Option Next → Option (List ℕ) → Type 0
Ends None high = high ≡ None
Ends (Some next) high = IsNameOf (key_words next.anchor) high

-- What a walk tells of its target.
pub record IsTarget (l : Layout) (g : ℕ) (key : List ℕ) (target : Target) : Type 0 where
  pub here : target.node < l.nodes
  pub seen : IsSighting g key (sighting_of target)
  pub above : number_of target.low ≤ number_of key  -- the key isn't below its range,
  pub below : IfSome target.next (λ next. number_of key < number_of next.anchor)  -- nor past it
  pub next : IfSome target.next (λ next. LeadsOn l next.node)
  pub high : Ends target.next target.high

-- The last load of a walk that came to its target: a call may go on from what it saw, or ends because the node is worn.
abbrev pub EndsAt : Layout → ℕ → Stage → Action → ℕ → ℕ → Sighting → Bool → Type 0
EndsAt l g stage action x n seen true = Look l g stage action x Idle (Some (once.Worn n seen.version))
EndsAt l g stage action x n seen false =
    Look l g stage action x (Saw n seen.version (locked_word g (kept_count seen.version g)) (sight_in seen)) None

-- A turn of a walk in the layout l and the generation g to this key, at this stage, whose action gave x: it is a look,
-- and the walk that goes on is sound and has the same fields.
abbrev pub Walks : Layout → ℕ → List ℕ → Stage → Action → ℕ → Turn Walk Walked → Type 0
Walks l g key stage action x (Go walk) =
    Look l g stage action x (walk_stage walk) None × IsWalk walk × (walk.layout ≡ l) × (walk.generation ≡ g) ×
    (walk.key ≡ key)
Walks l g key stage action x (Done (walked.Again why)) = Look l g stage action x Idle (Some (once.Again why))
Walks l g key stage action x (Done (walked.Target target)) =
    EndsAt l g stage action x target.node (sighting_of target) (is_worn_word target.version g) × IsTarget l g key target

-- Each turn of a sound walk is a look, whatever number x it is told of those that its load may give.
abbrev pub WalksAreLooks : Type 0
WalksAreLooks = (walk : Walk) (x : ℕ) → IsWalk walk → Told walk.layout walk.generation (walk_asks walk) x →
    Walks walk.layout walk.generation walk.key (walk_stage walk) (walk_asks walk) x (walk_turned walk x)

-- What a walk that relied on that has of its target by its last load, which gave x: it relies on what it saw of it, by
-- which the key belongs there, and these are the words of its anchor.
pub record IsWatched (l : Layout) (g : ℕ) (key : List ℕ) (watching : Watching) (action : Action) (x : ℕ)
    (target : Target) : Type 0 where
  pub here : target.node < l.nodes
  pub free : IsFree target.version g
  pub watch : Watch l g watching action x (Watches target.node target.version (sight_in (sighting_of target)))
  pub seen : IsSeenAs (number_of key) target.low (sight_in (sighting_of target))

-- A turn of a walk to this key that relied on that, whose load gave x: it is a watch, also where it ends at its target.
abbrev pub WalkWatches : Layout → ℕ → List ℕ → Watching → Action → ℕ → Turn Walk Walked → Type 0
WalkWatches l g key watching action x (Go walk) = Watch l g watching action x (walk_watching walk)
WalkWatches l g key watching action x (Done (walked.Again why)) = Unit {0}
WalkWatches l g key watching action x (Done (walked.Target target)) = IsWatched l g key watching action x target

-- Each turn of a sound walk is a watch, whatever number x it is told of those that its load may give.
abbrev pub WalksAreWatches : Type 0
WalksAreWatches = (walk : Walk) (x : ℕ) → IsWalk walk → Told walk.layout walk.generation (walk_asks walk) x →
    WalkWatches walk.layout walk.generation walk.key (walk_watching walk) (walk_asks walk) x (walk_turned walk x)

-- A turn of a walk of a call that takes no lock, at this stage, whose action gave x.
abbrev pub WalkViews : Layout → ℕ → Stage → Action → ℕ → Turn Walk Walked → Type 0
WalkViews l g stage action x (Go walk) = Look l g stage action x (view_stage (walk_watching walk)) None
WalkViews l g stage action x (Done (walked.Again why)) = Look l g stage action x Idle (Some (once.Again why))
WalkViews l g stage action x (Done (walked.Target target)) =
    Look l g stage action x (Reads target.node target.version (sight_in (sighting_of target)) None) None

-- Each turn of a sound walk is a look for such a call too.
abbrev pub WalksAreViews : Type 0
WalksAreViews = (walk : Walk) (x : ℕ) → IsWalk walk → Told walk.layout walk.generation (walk_asks walk) x →
    WalkViews walk.layout walk.generation (view_stage (walk_watching walk)) (walk_asks walk) x (walk_turned walk x)
