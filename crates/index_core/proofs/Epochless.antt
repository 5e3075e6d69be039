-- No step of a call answers that the epoch has moved.
use Rattle.std.proofs.Common.{ℕ}
use Rattle.std.specs.Prelude.{Option, Some, None}
use Rattle.pm_words.specs.declared.layout.Layout.{Layout}
use Rattle.pm_words.specs.declared.action.Action.{Action}
use Rattle.pm_words.specs.declared.again.Again.{Again}
use Rattle.pm_words.specs.declared.again.Again.TheVariants as again
use Rattle.call_stages.specs.declared.once.Once.{Once}
use Rattle.call_stages.specs.declared.once.Once.TheVariants as once
use Rattle.call_stages.specs.declared.once.Placed.{Placed}
use Rattle.call_stages.specs.Stages.{Held, Stage}
use Rattle.call_stages.specs.AnySteps.{AnyStep, on_nodes, beside}
use Rattle.call_stages.specs.Kinds.{Read, views, views_live, views_word, views_next, dates, notes, finds, confirms, wavers}
use Rattle.call_stages.specs.Kinds.{Look, reads_on, turns_away, steps_back, wanders, fills, lights, switches, glances_left, glances_fresh, drains_left, drains_fresh, trims, splits, meets, knows_own, knows_right, copies, takes_up, puts_down, parts, gathers, joins, glances_joined, drains_joined, retires, yields, merges, claims, publishes, leaves, Answers, writes, reads, is_spent, has_no_room, refuses, Step, looks, locks, locks_read, stores, commits, drains, counts, unlocks}
use Rattle.call_stages.specs.Kinds.{GivesUp, IsRefusal}
use Rattle.index_core.specs.MachineLaws.{IsNoEpoch}

-- a walk that gives up
gives_up : (r : Option (Once Placed)) → GivesUp r → IsNoEpoch r
gives_up None up = tt
gives_up (Some (once.Done placed)) up = absurd up
gives_up (Some (once.Spent clock)) up = absurd up
gives_up (Some (once.Worn node word)) up = absurd up
gives_up (Some (once.Again (again.Locked node word))) up = absurd up
gives_up (Some (once.Again (again.Moved node first second))) up = absurd up
gives_up (Some (once.Again (again.Hops count))) up = tt
gives_up (Some (once.Again again.LogFull)) up = absurd up
gives_up (Some (once.Again again.NoFree)) up = absurd up
gives_up (Some (once.Again (again.NeedsSplit node))) up = absurd up
gives_up (Some (once.Again (again.Held word))) up = absurd up
gives_up (Some (once.Again (again.Epoch first second))) up = absurd up

refused : (why : Again) → IsRefusal why → IsNoEpoch (Some (once.Again why))
refused (again.Locked node word) is = tt
refused (again.Moved node first second) is = tt
refused again.LogFull is = tt
refused (again.Hops count) is = absurd is
refused again.NoFree is = absurd is
refused (again.NeedsSplit node) is = absurd is
refused (again.Held word) is = absurd is
refused (again.Epoch first second) is = absurd is

answer_known : {l : Layout} {h : Held} {r : Once Placed} → Answers l h r → IsNoEpoch (Some r)
answer_known (writes placed old_is) = tt
answer_known (reads unplaced time old_is) = tt
answer_known (is_spent unplaced time) = tt
answer_known (has_no_room unplaced time old_is full) = tt
answer_known (refuses {why = why} unplaced is) = refused why is

module _ {l : Layout} {g : ℕ} where
  read_known : {s : Stage} {a : Action} {x : ℕ} {t : Stage} {r : Option (Once Placed)} → Read l g s a x t r → IsNoEpoch r
  read_known (views loose here free) = tt
  read_known (views_live here is) = tt
  read_known (views_word has positive live next learnt) = tt
  read_known (views_next has low high ne live live' next leads learnt) = tt
  read_known (dates named live between less) = tt
  read_known (notes has positive learnt) = tt
  read_known (finds has positive learnt means) = tt
  read_known (confirms here same unplaced none time old) = tt
  read_known (wavers here other) = tt

  look_known : {s : Stage} {a : Action} {x : ℕ} {t : Stage} {r : Option (Once Placed)} → Look l g s a x t r → IsNoEpoch r
  look_known (turns_away {r = r} loose here up) = gives_up r up
  look_known (steps_back {r = r} loose here up) = gives_up r up
  look_known (wanders {r = r} loose here up) = gives_up r up
  look_known (reads_on k) = read_known k
  look_known _ = tt

  node_known : {s : Stage} {a : Action} {x : ℕ} {t : Stage} {r : Option (Once Placed)} → Step l g s a x t r → IsNoEpoch r
  node_known (looks look) = look_known look
  node_known (locks same named live between) = tt
  node_known (locks_read same named live between unworn taken small) = tt
  node_known (stores has positive small clean soils knows means) = tt
  node_known (commits has positive small clean durable soiled old about knows means) = tt
  node_known (drains has small unready hand cleans) = tt
  node_known (counts durable ready pending unplaced) = tt
  node_known (unlocks next pending durable unready answers) = answer_known answers
  node_known (claims may here same) = tt
  node_known (publishes next left fresh) = tt
  node_known (leaves next) = tt
  node_known (splits (fills has positive small within soils told)) = tt
  node_known (splits (lights here leads)) = tt
  node_known (splits (switches here small durable soiled cut told means)) = tt
  node_known (splits (glances_left has learnt)) = tt
  node_known (splits (glances_fresh has)) = tt
  node_known (splits (drains_left has small hand cleans)) = tt
  node_known (splits (drains_fresh has small hand cleans)) = tt
  node_known (splits (trims here small durable soiled anchor told means)) = tt
  node_known (merges (meets here same may next)) = tt
  node_known (merges (knows_own has positive learnt)) = tt
  node_known (merges (knows_right has positive told)) = tt
  node_known (merges (copies has content small soils learnt means)) = tt
  node_known (merges (takes_up has)) = tt
  node_known (merges (puts_down has small hand cleans)) = tt
  node_known (merges (parts next)) = tt
  node_known (merges (gathers small durable soiled told gathered)) = tt
  node_known (merges (joins small durable soiled next told)) = tt
  node_known (merges (glances_joined has learnt)) = tt
  node_known (merges (drains_joined has small hand cleans)) = tt
  node_known (merges (retires durable)) = tt
  node_known (merges (yields next durable)) = tt

pub step_is_no_epoch : {l : Layout} {g : ℕ} {s : Stage} {a : Action} {x : ℕ} {t : Stage} {r : Option (Once Placed)} → AnyStep l g s a x t r → IsNoEpoch r
step_is_no_epoch (on_nodes step) = node_known step
step_is_no_epoch (beside none is) = tt
