-- The anchor of a line that is set or taken out, turn by turn, is a move of the law; and how each move begins.
use Rattle.std.proofs.Common.{◌≡◌, ℕ, suc, ◌^◌, ◌<◌, List, refl, subst, ◌∙◌}
use Rattle.pm_words.specs.declared.layout.Layout.{Layout}
use Rattle.pm_words.specs.declared.action.Action.{Action}
use Rattle.pm_words.specs.declared.machine.Turn.{Turn}
use Rattle.pm_words.specs.declared.machine.Turn.TheVariants.{Go, Done}
use Rattle.pm_words.specs.Rows.{IsRow, CanAct, acted, got}
use Rattle.pm_words.proofs.Kept.{acted_row}
use Rattle.data_node.specs.Lists.{ListNode}
use Rattle.layer_map.specs.Layers.{Layer}
use Rattle.tree_update.specs.declared.change.Change.{Change}
use Rattle.tree_update.specs.declared.change.Ended.{Ended}
use Rattle.tree_update.specs.Changes.{IsChange, change_asks, change_turned}
use Rattle.tree_update.specs.Stages.{Aim, aim_of}
use Rattle.image_recovery_law.specs.search_layer.specs.Rows.{KeepsOthers}
use Rattle.image_recovery_law.specs.search_layer.specs.ChangeStages.{ChangeStep, stage_of, stage_after}
use Rattle.image_recovery_law.specs.search_layer.specs.Laws.{SoundAfter}
use Rattle.image_recovery_law.specs.search_layer.proofs.StepLaw.{changes_are_steps, changes_stay_sound, step_can_act}
use Rattle.image_recovery_law.specs.Columns.{Columns, IsSound}
use Rattle.image_recovery_law.specs.Stages.{Unsets, Unsetting, Sets, Setting, aim_at}
use Rattle.image_recovery_law.specs.RowMoves.{RowSure}
use Rattle.image_recovery_law.specs.Moves as law
use Rattle.image_recovery_law.proofs.RowChanges.{unset_goes, unset_ends, set_goes, set_ends}
use Rattle.image_recovery.specs.Makings.{of_change}
use Rattle.image_recovery.specs.MakingLaw.{IsClearBeside, sure_unsets, sure_sets, IsAfterTurn}
use Rattle.image_recovery.proofs.StoringLaw.{given_word}

module _ (l : Layout) (list : List ListNode) (o : Columns) (rest : List law.Move) (words : List ℕ) (change : Change) (sound : IsSound l list o) (row : IsRow l words) (clear : IsClearBeside l words) (fits : IsChange change) (layout : change.layout ≡ l) where
  abbrev action : Action
  action = change_asks change

  abbrev x : ℕ
  x = got l words action

  told : x < 2 ^ 64
  told = given_word l words action row

  step : (aim : Aim) → aim_of change ≡ aim → ChangeStep l aim (stage_of change) action x (stage_after (change_turned change x))
  step aim is =
      let moved = subst (λ (m : Layout). ChangeStep m (aim_of change) (stage_of change) action x (stage_after (change_turned change x))) layout (changes_are_steps change x fits told) in
      subst (λ (m : Aim). ChangeStep l m (stage_of change) action x (stage_after (change_turned change x))) is moved

  acts : CanAct l words action
  acts = step_can_act l (aim_of change) words (stage_of change) action x (stage_after (change_turned change x)) (step (aim_of change) refl)

  next_row : IsRow l (acted l words action)
  next_row = acted_row l words action row acts

  -- a change leaves the volatile words that aren't the layer's
  clear_beside : KeepsOthers l words (acted l words action) → IsClearBeside l (acted l words action)
  clear_beside others p has volatile outside = others p has outside ∙ clear p has volatile outside

  -- what a turn leaves
  after_unset : (line : ℕ) (before : Layer) → aim_of change ≡ aim_at o line 0 → law.Plan l list o (Unsets (suc line)) rest → IsClearBeside l (acted l words action) → (turn : Turn Change Ended) → SoundAfter change.layout (aim_of change) turn
      → RowSure l list o (Unsetting line before (stage_after turn)) (acted l words action) → IsAfterTurn l list o rest (acted l words action) (of_change turn)
  after_unset line before aim plan clear' (Go next) stays sure = record {
    row = next_row;
    clear = clear';
    fits = stays.0;
    sure = sure_unsets next line before (stays.2 ∙ layout) (stays.1 ∙ aim) sure plan;
  }
  after_unset line before aim plan clear' (Done ended) stays sure = record {
    row = next_row;
    clear = clear';
    stage = Unsets (suc line);
    sure = unset_ends l list o (acted l words action) line before sound sure;
    plan = plan;
  }

  pub unset_turn : (line : ℕ) (before : Layer) → aim_of change ≡ aim_at o line 0 → RowSure l list o (Unsetting line before (stage_of change)) words → law.Plan l list o (Unsets (suc line)) rest
      → CanAct l words action × IsAfterTurn l list o rest (acted l words action) (of_change (change_turned change x))
  unset_turn line before aim known plan =
      let goes = unset_goes l list o words line before (stage_of change) (stage_after (change_turned change x)) action row sound known (step (aim_at o line 0) aim) in
      (acts, after_unset line before aim plan (clear_beside goes.1) (change_turned change x) (changes_stay_sound change x fits told) goes.0)

  after_set : (line n : ℕ) (before : Layer) → aim_of change ≡ aim_at o line (suc n) → law.Plan l list o (Sets (suc line)) rest → IsClearBeside l (acted l words action) → (turn : Turn Change Ended) → SoundAfter change.layout (aim_of change) turn
      → RowSure l list o (Setting line n before (stage_after turn)) (acted l words action) → IsAfterTurn l list o rest (acted l words action) (of_change turn)
  after_set line n before aim plan clear' (Go next) stays sure = record {
    row = next_row;
    clear = clear';
    fits = stays.0;
    sure = sure_sets next line n before (stays.2 ∙ layout) (stays.1 ∙ aim) sure plan;
  }
  after_set line n before aim plan clear' (Done ended) stays sure = record {
    row = next_row;
    clear = clear';
    stage = Sets (suc line);
    sure = set_ends l list o (acted l words action) line n before sound sure;
    plan = plan;
  }

  pub set_turn : (line n : ℕ) (before : Layer) → aim_of change ≡ aim_at o line (suc n) → RowSure l list o (Setting line n before (stage_of change)) words → law.Plan l list o (Sets (suc line)) rest
      → CanAct l words action × IsAfterTurn l list o rest (acted l words action) (of_change (change_turned change x))
  set_turn line n before aim known plan =
      let goes = set_goes l list o words line n before (stage_of change) (stage_after (change_turned change x)) action row sound known (step (aim_at o line (suc n)) aim) in
      (acts, after_set line n before aim plan (clear_beside goes.1) (change_turned change x) (changes_stay_sound change x fits told) goes.0)
