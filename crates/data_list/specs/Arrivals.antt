-- A walk that makes all its loads one after another.
use Rattle.std.specs.Prelude.{◌≡◌, ℕ, ◌+◌, List, Option, Some, None, Result, Ok, Err, [], ◌∷◌}
use Rattle.pm_words.specs.declared.again.Again.{Again}
use Rattle.pm_words.specs.declared.layout.Layout.{Layout}
use Rattle.pm_words.specs.declared.action.Action.TheVariants.{Load}
use Rattle.pm_words.specs.declared.machine.Turn.{Turn}
use Rattle.pm_words.specs.declared.machine.Turn.TheVariants.{Go, Done}
use Rattle.pm_words.specs.Images.{Row}
use Rattle.pm_words.specs.Rows.{acted, got}
use Rattle.pm_words.specs.Offsets.{anchor_offset}
use Rattle.call_stages.specs.Kinds.{word_address}
use Rattle.machine_runs.specs.Runs.{Bursts, MayGo}
use Rattle.data_list.specs.declared.target.Target.{Target}
use Rattle.data_list.specs.declared.target.Walked.{Walked}
use Rattle.data_list.specs.declared.target.Walked.TheVariants as walked
use Rattle.data_list.specs.declared.walk.Walk.{Walk}
use Rattle.data_list.specs.declared.walk.WalkAt.{WalkAt}
use Rattle.data_list.specs.Walks.{walk_asks, walk_turned, walk_takes, walk_left, hops_to}

-- from there on it may do what it asks for
abbrev pub MayWalk : Row → Walk → WalkAt → Type 0
MayWalk row walk here =
    MayGo walk_asks walk_turned walk_left walk_takes row.layout row.words (record walk { at = here })

-- from there on its turns come to this
abbrev pub WalkBursts : Row → Row → Walk → WalkAt → Turn Walk Walked → ℕ → ℕ → Type 0
WalkBursts old new walk here end begun ended =
    Bursts walk_asks walk_turned walk_left old new (record walk { at = here }) end begun ended

-- The node that the walk is at is its target, with this version word.
pub record IsHere (walk : Walk) (version : ℕ) (target : Target) : Type 0 where
  pub node : target.node ≡ walk.node
  pub version_is : target.version ≡ version
  pub hops : target.hops ≡ walk.hops

-- There is a target with this version word, and to that the turns come.
pub record Arrives (old new : Row) (first walk : Walk) (version begun ended : ℕ) : Type 0 where
  pub target : Target
  pub here : IsHere walk version target
  pub burst : Bursts walk_asks walk_turned walk_left old new first (Done (walked.Target target)) begun ended

-- It comes to its target, and has that one's node and its hops then, or it gives up.
abbrev pub ComesTo : Row → Row → Walk → Walk → Result ℕ Again → ℕ → ℕ → Type 0
ComesTo old new first walk (Ok version) begun ended = Arrives old new first walk version begun ended
ComesTo old new first walk (Err why) begun ended =
    Bursts walk_asks walk_turned walk_left old new first (Done (walked.Again why)) begun ended

-- From there on, its node leads it to another one, or is its target.
abbrev pub Leads : Row → Row → Walk → WalkAt → ℕ → Option ℕ → ℕ → ℕ → Type 0
Leads old new walk here version (Some to) begun ended = WalkBursts old new walk here (hops_to walk to) begun ended
Leads old new walk here version None begun ended =
    Arrives old new (record walk { at = here }) walk version begun ended

-- With a hop it goes on as this walk, or it gives up.
abbrev pub HopsOn : Turn Walk Walked → Walk → Result Unit Again → Type 0
HopsOn turn walk (Ok done) = turn ≡ Go walk
HopsOn turn walk (Err why) = turn ≡ Done (walked.Again why)

-- the words behind loads of a node's anchor, and the anchor
abbrev pub anchor_loaded : Layout → ℕ → Layout → List ℕ → List ℕ
anchor_loaded l node row words =
    let one = acted row words (Load (word_address l node anchor_offset)) in
    let two = acted row one (Load (word_address l node (anchor_offset + 1))) in
    acted row two (Load (word_address l node (anchor_offset + 2)))

abbrev pub anchor_at : Layout → ℕ → Layout → List ℕ → List ℕ
anchor_at l node row words =
    let one = acted row words (Load (word_address l node anchor_offset)) in
    let two = acted row one (Load (word_address l node (anchor_offset + 1))) in
    got row words (Load (word_address l node anchor_offset)) ∷
    got row one (Load (word_address l node (anchor_offset + 1))) ∷
    got row two (Load (word_address l node (anchor_offset + 2))) ∷ []
