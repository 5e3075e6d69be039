-- The row of a turn beside the steps of calls.
use Rattle.std.proofs.Common.{◌≡◌, ◌≢◌, ℕ, zero, suc, ◌<◌, inl, inr, List, None, refl, sym, ◌∙◌, subst, arith}
use Rattle.pm_words.specs.Codes.{ready_state}
use Rattle.pm_words.specs.Locations.{Cached}
use Rattle.pm_words.specs.Offsets.{state_offset}
use Rattle.updater_row_law.specs.search_layer.specs.Rows.{LayerWords, HasSameLayer}
use Rattle.updater_row_law.specs.search_layer.specs.ChangeStages.{LayerAt}
use Rattle.updater_row_law.specs.search_layer.specs.Kept.{kept, IsKept}
use Rattle.updater_row_law.specs.search_layer.proofs.BesideLemmas.{sure_stays, rest_stays}
use Rattle.updater_row_law.specs.search_layer.proofs.RootLemmas.{root_outlasts}
use Rattle.updater_law.specs.Facts.{TurnFacts}
use Rattle.updater_law.specs.Lawful.{SureTurn, TurnLawful}
use Rattle.updater_law.proofs.Others.{other_keeps}
use Rattle.updater_row_law.specs.Columns.{RowTerms, Ghosts, line_field, terms_of, facts_in}
use Rattle.updater_row_law.specs.RowStages.{RowLine, RowTarget, RowStage, Resting, Between, Reads, Lands, HasTarget}
use Rattle.updater_row_law.specs.RowStages.{Changes, Stamps, Clears, Sweeps, Gone, HasStamp, IsUnworn, Frees, Counts}
use Rattle.updater_row_law.specs.RowStages.{reading_stage, turn_stage, aim_of}
use Rattle.updater_row_law.specs.RowLaw.{LayerRests, HasLoaded, IsTargetFor, SureRow, RowLawful}
use Rattle.index_layer_law.proofs.CallMoves.{Moved}

-- A row of words in which those of the layer are those of another, as are the READY lines.
module _ (r : RowTerms) (ghosts ghosts' : Ghosts) (words words' : List ℕ) (same : HasSameLayer r.layout words words')
    (lines : (j : ℕ) → line_field r.layout words Cached state_offset j ≡ ready_state → (o : ℕ) → o < 8 → line_field r.layout words' Cached o j ≡ line_field r.layout words Cached o j) where
  even_after : LayerRests r words → LayerRests r words'
  even_after rests = rest_stays r.layout words words' same rests

  -- a line that is being read is READY
  being_read : (f : TurnFacts) (t : ℕ) (offset j : ℕ) (seen : List ℕ) → SureTurn (terms_of r) f (reading_stage j offset seen) → f.line.state j ≡ ready_state
  being_read f t zero j seen sure = sure
  being_read f t (suc zero) j seen sure = sure
  being_read f t (suc (suc zero)) j seen sure = sure.0
  being_read f t (suc (suc (suc more))) j seen sure = sure.0

  loaded_after : (j offset : ℕ) (seen : List ℕ) → line_field r.layout words Cached state_offset j ≡ ready_state → HasLoaded r words j offset seen → HasLoaded r words' j offset seen
  loaded_after j offset seen ready has = record {
    size = has.size;
    most = has.most;
    named = has.named;
    same = λ k before. let most = has.most in lines j ready k (omega arith) ∙ has.same k before;
  }

  sure_after : (s : RowStage) → SureTurn (terms_of r) (facts_in r ghosts words) (turn_stage s) → ((e : RowLine) (target : RowTarget) → s ≡ HasTarget e target → IsTargetFor r ghosts' words' e.anchor target) → SureRow r ghosts words s → SureRow r ghosts' words' s
  sure_after Resting turn shown sure = even_after sure
  sure_after (Between j) turn shown sure = even_after sure
  sure_after (Reads j offset seen) turn shown sure = (loaded_after j offset seen (being_read (facts_in r ghosts words) 0 offset j seen turn) sure.0, even_after sure.1)
  sure_after (Lands e) turn shown sure = (sure.0, even_after sure.1)
  sure_after (HasTarget e target) turn shown sure = (sure.0, sure.1, shown e target refl, even_after sure.3)
  sure_after (Changes e word s) turn shown sure = record {
    before = sure.before;
    few = sure.few;
    rooted = sure.rooted;
    zero = sure.zero;
    holds = root_outlasts r.layout words words' s same sure.holds;
    sure = sure_stays r.layout sure.before (aim_of e word) s words words' same sure.sure;
    layer = subst (λ (w : LayerWords). LayerAt (aim_of e word) sure.before s (kept r.layout w)) (sym same.cached) sure.layer;
  }
  sure_after (Stamps e) turn shown sure = even_after sure
  sure_after (Clears j) turn shown sure = even_after sure
  sure_after (Sweeps n) turn shown sure = even_after sure
  sure_after (Gone n) turn shown sure = even_after sure
  sure_after (HasStamp n) turn shown sure = even_after sure
  sure_after (IsUnworn n) turn shown sure = even_after sure
  sure_after (Frees n) turn shown sure = even_after sure
  sure_after (Counts n none) turn shown sure = even_after sure

  -- is lawful for a turn as that one is, if the facts are the same or those after a step of another party
  pub row_after : (s : RowStage) → Moved (facts_in r ghosts words) (facts_in r ghosts' words') → ((e : RowLine) (target : RowTarget) → s ≡ HasTarget e target → IsTargetFor r ghosts' words' e.anchor target)
      → RowLawful r ghosts words s → RowLawful r ghosts' words' s
  row_after s moved shown is = record {
    order = subst (λ (w : LayerWords). IsKept r.layout w) (sym same.cached) is.order;
    rooted = subst (λ (w : LayerWords). kept r.layout w 0 ≢ None) (sym same.cached) is.rooted;
    sure = sure_after s is.law.sure shown is.sure;
    law = elim moved [
      | inl known ↦ subst (λ (f : TurnFacts). TurnLawful (terms_of r) f (turn_stage s)) (sym known) is.law
      | inr step ↦ other_keeps (terms_of r) (facts_in r ghosts words) (facts_in r ghosts' words') (turn_stage s) is.law step
    ];
  }
