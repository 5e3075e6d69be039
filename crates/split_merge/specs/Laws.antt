-- What every turn of a move is.
use Rattle.std.specs.Prelude.{◌≡◌, ℕ, ◌<◌, ◌^◌, Bool, List, Some, None}
use Rattle.pm_words.specs.declared.action.Action.{Action}
use Rattle.pm_words.specs.declared.again.Again.TheVariants as again
use Rattle.pm_words.specs.declared.machine.Turn.{Turn}
use Rattle.pm_words.specs.declared.machine.Turn.TheVariants.{Go, Done}
use Rattle.pm_words.specs.Offsets.{bitmap_offset, next_offset}
use Rattle.cat_history.specs.Maps.{Map}
use Rattle.data_node.specs.Spots.{Spot, Means, updated}
use Rattle.data_node.specs.Lists.{StaysIn}
use Rattle.call_stages.specs.declared.once.Once.TheVariants as once
use Rattle.call_stages.specs.Stages.{Tells, Idle}
use Rattle.call_stages.specs.Kinds.{below_key, IsCut}
use Rattle.call_stages.specs.Prevs.{no_debt}
use Rattle.smo_log.specs.LogLines.{caller_of}
use Rattle.split_merge.specs.declared.planning.Plan.{Plan}
use Rattle.split_merge.specs.declared.moving.Move.{Move}
use Rattle.split_merge.specs.Moves.{IsMove, move_asks, move_turned}
use Rattle.call_stages.specs.Footings.{Footing}
use Rattle.permutation.specs.Sparing.{SparingStep}
use Rattle.split_merge.specs.MoveStages.{Known, fresh_seen, move_footing, cut_key}

-- By what the party knows of the full node the plan cuts it: the fresh node's words are its upper half, and with the
-- bitmap that it keeps it has the lower one.
pub record Cuts (plan : Plan) (known : Known) : Type 0 where
  pub cut : (range : List ℕ → Bool) (s t : Spot) (m : Map) → Tells known.full s → Tells (fresh_seen plan) t →
      Means plan.layout.slots range s m → StaysIn plan.layout.slots range s →
      IsCut plan.layout.slots range s t m
  pub linked : (s : Spot) → Tells known.full s → Tells known.linked (updated s next_offset plan.share.fresh)
  pub trims : (range : List ℕ → Bool) (s : Spot) (m : Map) → Tells known.linked s → Means plan.layout.slots range s m →
      StaysIn plan.layout.slots range s →
      Means plan.layout.slots (below_key range (cut_key plan)) (updated s bitmap_offset plan.keep) m ×
      StaysIn plan.layout.slots (below_key range (cut_key plan)) (updated s bitmap_offset plan.keep)

-- The step of a turn, and that the plan is kept. At the end both nodes are given back, and the call is to be made
-- again.
abbrev pub Moves : ℕ → Plan → Known → Footing → Action → ℕ → Turn Move (Unit {0}) → Type 0
Moves g plan known footing action x (Go move) =
    SparingStep plan.layout g (caller_of plan.share.line) footing action x (move_footing known move) None ×
    IsMove move × (move.plan ≡ plan)
Moves g plan known footing action x (Done answer) =
    SparingStep plan.layout g (caller_of plan.share.line) footing action x (record {
      stage = Idle;
      line = None;
      debt =
          no_debt;
    }) (Some (once.Again (again.NeedsSplit plan.node)))

-- Each turn of a move by a plan that cuts the node, whatever word it is told, is a step on nodes, on the party's line,
-- or the store of a prev.
abbrev pub MovesAreSteps : Type 0
MovesAreSteps = (move : Move) (g : ℕ) (known : Known) (x : ℕ) → IsMove move → Cuts move.plan known → x < 2 ^ 64 →
    Moves g move.plan known (move_footing known move) (move_asks move) x (move_turned move x)
