-- Evictions and crashes, over plain data.
use Rattle.std.proofs.Common.{◌≡◌, ℕ, zero, suc, ◌<◌, ◌≤◌, Bool, true, false, cond, refl, ◌∙◌, arith}
use Rattle.pm_words.specs.Locations.{Header, image_words}
use Rattle.pm_words.specs.Rows.{evicted}
use Rattle.pm_words.specs.Offsets.{generation_offset}
use Rattle.pm_words.proofs.Made.{durable_row-at}
use Rattle.index_law.specs.Weights.{weight_sum}
use Rattle.index_law.proofs.Weights.{evict_weighs}
use Rattle.index_core.specs.Indexes.{Index, IsIndex, world}
use Rattle.index_core.specs.CrashLaws.{is_chosen, evicted_by, crash_image, ChosenKeep, ChosenWeigh, CrashLeaves, CrashKeepsGeneration}
use Rattle.std.specs.Prelude.{Option, Some, None, IfSome}
use Rattle.call_stages.specs.Stages.{placed_in}
use Rattle.node_ops.specs.CallStages.{stage_of}
use Rattle.node_ops.specs.RunningSteps.{running_call}
use Rattle.index_core.specs.CrashLaws.{PlacedAreTimely}
use Rattle.index_core.proofs.Limits.{began_below}
use Rattle.index_core.proofs.Crashing.{crash_is, evict_keeps}

-- the words that a seed chooses of the first so many
chosen_first : (s : Index) (seed n : ℕ) → IsIndex s → n ≤ image_words s.layout → IsIndex (record s { words = evicted_by s.layout seed n s.words })
chosen_first s seed zero is few = is
chosen_first s seed (suc n) is few =
    let before = chosen_first s seed n is (omega arith) in
    by_bit (is_chosen seed n) before
  where
    by_bit : (b : Bool) → IsIndex (record s { words = evicted_by s.layout seed n s.words }) → IsIndex (record s { words = cond b (evicted s.layout (evicted_by s.layout seed n s.words) n) (evicted_by s.layout seed n s.words) })
    by_bit true before = evict_keeps (record s { words = evicted_by s.layout seed n s.words }) n before (omega arith)
    by_bit false before = before

pub chosen_keep : ChosenKeep
chosen_keep s seed is = chosen_first s seed (image_words s.layout) is (omega arith)

weighs_first : (s : Index) (seed n : ℕ) → weight_sum (world (record s { words = evicted_by s.layout seed n s.words })) ≡ weight_sum (world s)
weighs_first s seed zero = refl
weighs_first s seed (suc n) = by_bit (is_chosen seed n) ∙ weighs_first s seed n
  where
    by_bit : (b : Bool) → weight_sum (world (record s { words = cond b (evicted s.layout (evicted_by s.layout seed n s.words) n) (evicted_by s.layout seed n s.words) })) ≡ weight_sum (world (record s { words = evicted_by s.layout seed n s.words }))
    by_bit true = evict_weighs (world (record s { words = evicted_by s.layout seed n s.words })) n
    by_bit false = refl

pub chosen_weighs : ChosenWeigh
chosen_weighs s seed = weighs_first s seed (image_words s.layout)

pub crash_leaves : CrashLeaves
crash_leaves s is = crash_is s (crash_image s) s.states is refl refl

pub crash_keeps_generation : CrashKeepsGeneration
crash_keeps_generation s is = durable_row-at s.layout s.words (Header generation_offset) ∙ is.lawful.durable_front.generation

pub placed_are_timely : PlacedAreTimely
placed_are_timely s i state machine is there flies = by_place (placed_in (stage_of machine)) refl
  where
    by_place : (p : Option ℕ) → placed_in (stage_of machine) ≡ p → IfSome p (λ _. IfSome (running_call machine).limit (λ most. state.since < most))
    by_place None told = tt
    by_place (Some place) told = began_below s is i place state machine there flies told
