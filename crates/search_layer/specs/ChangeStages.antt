-- What the party that changes the tree has of it between its steps, and its steps.
use Rattle.std.specs.Prelude.{◌≡◌, ℕ, ◌^◌, ◌<◌, ◌==◌, ◌⊎◌, nat_le, if◌then◌else◌, Bool, true, false}
use Rattle.pm_words.specs.declared.layout.Layout.{Layout}
use Rattle.pm_words.specs.declared.action.Action.{Action}
use Rattle.pm_words.specs.declared.machine.Turn.{Turn}
use Rattle.pm_words.specs.declared.machine.Turn.TheVariants.{Go, Done}
use Rattle.layer_map.specs.Layers.{Layer, AreSame}
use Rattle.tree_law.specs.Words.{LayerWords}
use Rattle.tree_law.specs.Stages.{Marks}
use Rattle.tree_update.specs.tree_change.specs.declared.finish.FinishAt.{FinishAt}
use Rattle.tree_update.specs.tree_change.specs.declared.finish.FinishAt.TheVariants as finish_at
use Rattle.tree_update.specs.declared.change.Change.{Change}
use Rattle.tree_update.specs.declared.change.ChangeAt.{ChangeAt}
use Rattle.tree_update.specs.declared.change.ChangeAt.TheVariants as at
use Rattle.tree_update.specs.declared.change.Ended.{Ended}
use Rattle.tree_update.specs.Changes.{IsChange, change_starts, change_asks, change_turned}
use Rattle.tree_update.specs.Knowns.{Rests}
use Rattle.tree_update.specs.Stages.{Aim, made_of, SureAt}

-- Its machine, but for the layout and the aim; or the key leads to the node word, and all is durable.
pub data Changing : Type 0 where
  Making : ChangeAt → Changing
  Changed : Changing

abbrev pub change_with : Layout → Aim → ChangeAt → Change
change_with l aim part = record { layout = l; key = aim.key; word = aim.word; at = part }

abbrev pub stage_of : Change → Changing
stage_of change = Making change.at

abbrev pub stage_after : Turn Change Ended → Changing
stage_after (Go change) = stage_of change
stage_after (Done ended) = Changed

-- where it begins
abbrev pub start_stage : Layout → Aim → Changing
start_stage l aim = stage_of (change_starts l aim.key aim.word)

-- By an action that gives a number, a turn of its machine.
pub record ChangeStep (l : Layout) (aim : Aim) (s : Changing) (a : Action) (x : ℕ) (t : Changing) : Type 0 where
  pub part : ChangeAt
  pub here : s ≡ Making part
  pub sound : IsChange (change_with l aim part)
  pub fits : x < 2 ^ 64
  pub asks : a ≡ change_asks (change_with l aim part)
  pub next : t ≡ stage_after (change_turned (change_with l aim part) x)

-- What holds of the words of the layer, as cached (w) and as durable (s), and of the marks, at each stage. `before` is
-- the layer as the change began.
abbrev pub SureChanging : ℕ → ℕ → Aim → Layer → Changing → LayerWords → LayerWords → Marks → Type 0
SureChanging count most aim before (Making part) w s m = SureAt count most before aim part w s m
SureChanging count most aim before Changed w s m = Rests count most (made_of aim before) w s m

-- How far the end of a change has come.
abbrev pub finish_step : FinishAt → ℕ
finish_step finish_at.Quiet = 0
finish_step (finish_at.QuietFence fence) = 1
finish_step finish_at.Switch = 2
finish_step (finish_at.SwitchFence fence) = 3
finish_step (finish_at.Unmark reference) = 4

-- Whether the store is made by which the layer changes; and whether its word may not be durable yet.
abbrev pub has_stored : FinishAt → Bool
has_stored finish = nat_le 3 (finish_step finish)

abbrev pub drains_store : FinishAt → Bool
drains_store finish = finish_step finish == 3

abbrev pub by_finish : (FinishAt → Bool) → ChangeAt → Bool
by_finish test (at.Looking look) = false
by_finish test (at.TakingLeaf take site) = false
by_finish test (at.FillingLeaf fill site) = false
by_finish test (at.FindingRoom find spot leaf) = false
by_finish test (at.ReadingCell read spot byte leaf) = false
by_finish test (at.TakingCell take new) = false
by_finish test (at.FillingCell fill spot free) = false
by_finish test (at.ReadingDepth leaf outer inner) = false
by_finish test (at.Counting count leaf outer inner) = false
by_finish test (at.ReadingIndex cell byte leaf) = false
by_finish test (at.Finishing finish) = test finish.at

abbrev pub has_switched : Changing → Bool
has_switched (Making part) = by_finish has_stored part
has_switched Changed = true

abbrev pub is_draining : Changing → Bool
is_draining (Making part) = by_finish drains_store part
is_draining Changed = false

-- the cached layer at each stage: that before up to the switch store, and the one made from there on
abbrev pub layer_at : Aim → Layer → Changing → Layer
layer_at aim before stage = if has_switched stage then made_of aim before else before

abbrev pub LayerAt : Aim → Layer → Changing → Layer → Type 0
LayerAt aim before stage layer = AreSame layer (layer_at aim before stage)

-- The layer of any mix of the cached and the durable words: the cached one, or that before while the word of the switch
-- store may not be durable.
abbrev pub MixAt : Aim → Layer → Changing → Layer → Type 0
MixAt aim before stage layer =
    AreSame layer (layer_at aim before stage) ⊎ ((is_draining stage ≡ true) × AreSame layer before)

-- What one step makes of the cached layer: the switch store makes the change, and no other step changes it.
abbrev pub stores_switch : FinishAt → Bool
stores_switch finish = finish_step finish == 2

abbrev pub can_switch : Changing → Bool
can_switch (Making part) = by_finish stores_switch part
can_switch Changed = false

abbrev pub LayerAfter : Aim → Changing → Layer → Layer → Type 0
LayerAfter aim stage layer after = AreSame after (if can_switch stage then made_of aim layer else layer)
