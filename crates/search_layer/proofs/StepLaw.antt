-- A turn of a change as a step, and what it does to a row.
use Rattle.std.proofs.Common.{◌≡◌, ◌≢◌, ℕ, false, List, refl, sym, subst, ap, ◌∙◌}
use Rattle.pm_words.specs.declared.layout.Layout.{Layout}
use Rattle.pm_words.specs.declared.machine.Turn.{Turn}
use Rattle.pm_words.specs.declared.machine.Turn.TheVariants.{Go, Done}
use Rattle.pm_words.specs.Locations.{Location, Cached, Durable}
use Rattle.pm_words.specs.Rows.{IsRow, acted}
use Rattle.pm_words.specs.Rows as rows
use Rattle.layer_map.specs.Layers.{Layer, HasFew}
use Rattle.tree_row.specs.Rows.{layer_words}
use Rattle.tree_row.specs.RowMarks.{row_marks}
use Rattle.layer_map.specs.Keys.{key_number}
use Rattle.tree_update.specs.declared.change.Change.{Change}
use Rattle.tree_update.specs.declared.change.ChangeAt.{ChangeAt}
use Rattle.tree_update.specs.declared.change.Ended.{Ended}
use Rattle.tree_update.specs.declared.change.Ended.TheVariants.{Made, NoRoom, Wrong}
use Rattle.tree_update.specs.Changes.{IsChange, change_asks, change_turned, change_left}
use Rattle.tree_update.specs.ChangeStays.{ChangeAfter}
use Rattle.tree_update.specs.Sets.{set_of, unset_of}
use Rattle.tree_update.specs.Kinds.{IsOfLayer, IsOfLine, IsOther}
use Rattle.tree_update.specs.Stages.{Aim, aim_of, IsRooted, SureInAfter}
use Rattle.tree_update.proofs.ChangeStays.{changes_stay}
use Rattle.tree_update.proofs.Turning.{change_acts}
use Rattle.tree_update.proofs.Acting.{change_can_act}
use Rattle.tree_update.proofs.OthersStay.{change_keeps_others}
use Rattle.layer_map.specs.Places.{is_of_layer}
use Rattle.search_layer.specs.ChangeStages.{Making, change_with, stage_after}
use Rattle.search_layer.specs.Laws.{ChangesAreSteps, SoundAfter, ChangesStaySound, SetAfter, SetsStaySound, UnsetAfter, UnsetsStaySound, SureIn, ChangeKeeps, ChangeStepKeeps, ChangeCanAct}
use Rattle.search_layer.proofs.StageLemmas.{change_is_backed}
use Rattle.search_layer.proofs.AfterLaw.{step_after}
use Rattle.search_layer.proofs.RowLemmas.{off_word, off_layer}

pub changes_are_steps : ChangesAreSteps
changes_are_steps change number is fits = record { part = change.at; here = refl; sound = is; fits = fits; asks = refl; next = refl }

pub changes_stay_sound : ChangesStaySound
changes_stay_sound change number is fits = go (change_turned change number) (changes_stay change number (is, fits))
  where
    go : (turn : Turn Change Ended) → ChangeAfter change (change_left change) turn → SoundAfter change.layout (aim_of change) turn
    go (Go next) goes = (goes.sound, (λ i. record { key = goes.key_is i; word = goes.word_is i }), goes.layout_is)
    go (Done ended) goes = tt

pub sets_stay_sound : SetsStaySound
sets_stay_sound set number is fits = go (change_turned set.change number) (changes_stay set.change number (is.change, fits))
  where
    go : (turn : Turn Change Ended) → ChangeAfter set.change (change_left set.change) turn → SetAfter set.change.layout (aim_of set.change) (set_of turn)
    go (Go next) goes = (record { change = goes.sound; word = λ none. is.word (sym goes.word_is ∙ none) }, (λ i. record { key = goes.key_is i; word = goes.word_is i }), goes.layout_is)
    go (Done ended) goes = tt

pub unsets_stay_sound : UnsetsStaySound
unsets_stay_sound unset number is fits = go (change_turned unset.change number) (changes_stay unset.change number (is.change, fits))
  where
    go : (turn : Turn Change Ended) → ChangeAfter unset.change (change_left unset.change) turn → UnsetAfter unset.change.layout (aim_of unset.change) (unset_of turn)
    go (Go next) goes = (record { change = goes.sound; word = goes.word_is ∙ is.word; key = λ none. is.key (sym (ap key_number goes.key_is) ∙ none) }, (λ i. record { key = goes.key_is i; word = goes.word_is i }), goes.layout_is)
    go (Done ended) goes = tt

pub step_can_act : ChangeCanAct
step_can_act l aim words s a x t step = subst (rows.CanAct l words) (sym step.asks) (change_can_act (change_with l aim step.part) words step.sound)

-- what isn't of the layer is left by a change
other : (p : Location) → is_of_layer p ≡ false → IsOther p
other = off_layer IsOther tt tt (λ n o. tt) (off_word (λ w. (IsOfLayer w → ⊥) × (IsOfLine w → ⊥)) (λ o. (λ of. of, λ of. of)) (λ n o. (λ of. of, λ of. of)) (λ c j o. (λ of. of, λ of. of)))

-- what the next stage knows
sure_next : (l : Layout) (aim : Aim) (before : Layer) (words : List ℕ) → (aim.word ≢ 0 → HasFew l.nodes before) → (turn : Turn Change Ended) → SureInAfter l before aim turn words → SureIn l before aim (stage_after turn) words
sure_next l aim before words few (Go next) known = known
sure_next l aim before words few (Done Made) known = known
sure_next l aim before words few (Done NoRoom) known = absurd (known.1 (few known.2))
sure_next l aim before words few (Done Wrong) known = absurd known

turn_keeps : (l : Layout) (aim : Aim) (before : Layer) (words : List ℕ) → IsRow l words → (aim.word ≢ 0 → HasFew l.nodes before) → IsRooted aim before → (part : ChangeAt) → IsChange (change_with l aim part) → SureIn l before aim (Making part) words
    → ChangeKeeps l aim before words (Making part) (change_asks (change_with l aim part)) (stage_after (change_turned (change_with l aim part) (rows.got l words (change_asks (change_with l aim part)))))
turn_keeps l aim before words row few rooted part sound sure =
    let change = change_with l aim part in
    let a = change_asks change in
    let x = rows.got l words a in
    let after = acted l words a in
    let turn = change_turned change x in
    let next = sure_next l aim before after few turn (change_acts before change words sound row rooted sure) in
    let now = change_is_backed l aim before (Making part) (layer_words l words Cached) (layer_words l words Durable) (row_marks l words) sure in
    let behind = change_is_backed l aim before (stage_after turn) (layer_words l after Cached) (layer_words l after Durable) (row_marks l after) next in
    record {
      row = behind.order;
      sure = next;
      layer = behind.cached;
      changes = step_after l aim before words row part sound now.cached behind.cached;
      others = λ p has e. change_keeps_others change words sound row.whole p has (other p e);
    }

pub change_step_keeps : ChangeStepKeeps
change_step_keeps l aim before words s a t row few rooted sure step =
    let change = change_with l aim step.part in
    let next : t ≡ stage_after (change_turned change (rows.got l words (change_asks change))) = step.next ∙ ap (λ b. stage_after (change_turned change (rows.got l words b))) step.asks in
    let kept_on = turn_keeps l aim before words row few rooted step.part step.sound (subst (λ stage. SureIn l before aim stage words) step.here sure) in
    subst (λ stage. ChangeKeeps l aim before words stage a t) (sym step.here)
    (subst (λ b. ChangeKeeps l aim before words (Making step.part) b t) (sym step.asks) (subst (ChangeKeeps l aim before words (Making step.part) (change_asks change)) (sym next) kept_on))
