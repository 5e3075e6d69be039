-- What is durable of the layer at each moment of a turn.
use Rattle.std.proofs.Common.{◌≡◌, ℕ, List, inl, inr, sym, ◌∙◌, subst}
use Rattle.pm_words.specs.Locations.{Cached, Durable}
use Rattle.layer_map.specs.Layers.{Layer, AreSame, HasFew}
use Rattle.search_layer.specs.Rows.{LayerWords, layer_words, layer_marks}
use Rattle.search_layer.specs.Kept.{layer_of, kept, IsKept}
use Rattle.search_layer.specs.tree_update.specs.Stages.{Aim}
use Rattle.search_layer.specs.ChangeStages.{Changing, LayerAt, MixAt}
use Rattle.search_layer.proofs.StageLemmas.{change_is_backed, mix_is_either}
use Rattle.search_layer.proofs.RowLemmas.{kept_leads_below}
use Rattle.search_layer.proofs.RowLemmas.{even_are_same, mix_of_durable}
use Rattle.layer_map.proofs.FewLemmas.{few_apart}
use Rattle.updater_law.proofs.Crash.{keys_lead_apart}
use Rattle.updater_row_law.specs.Columns.{RowTerms, Ghosts, terms_of, facts_in}
use Rattle.updater_row_law.specs.RowStages.{RowLine, aim_of, RowStage, Resting, Between, Reads, Lands, HasTarget}
use Rattle.updater_row_law.specs.RowStages.{Changes, Stamps, Clears, Sweeps, Gone, HasStamp, IsUnworn, Frees, Counts}
use Rattle.updater_row_law.specs.RowStages.{turn_stage}
use Rattle.updater_row_law.specs.RowLaw.{LayerRests, RowLawful, IsSafeLayer, LayerIsSafe}

-- a layer with the same keys as one that has few has few
few_same : (nodes : ℕ) (layer other : Layer) → AreSame other layer → HasFew nodes layer → HasFew nodes other
few_same nodes layer other same few count key some differ = few count key (λ i lt none. some i lt (same (key i) ∙ none)) differ

-- of a mix the layer is the cached one, or the one before
mix_few : (nodes : ℕ) (aim : Aim) (before : Layer) (s : Changing) (layer mix : Layer) → HasFew nodes before → HasFew nodes layer → LayerAt aim before s layer → MixAt aim before s mix → HasFew nodes mix
mix_few nodes aim before s layer mix first now at_layer at_mix = elim (mix_is_either aim before s layer mix at_layer at_mix) [
  | inl same ↦ few_same nodes layer mix same now
  | inr old ↦ few_same nodes before mix old first
]

module _ (r : RowTerms) (ghosts : Ghosts) (words : List ℕ) where
  abbrev w : LayerWords
  w = layer_words r.layout words Cached

  abbrev d : LayerWords
  d = layer_words r.layout words Durable

  -- no two keys of the cached layer lead to one node
  cached_few : (s : RowStage) → RowLawful r ghosts words s → HasFew r.layout.nodes (layer_of r.layout words)
  cached_few s is = few_apart r.layout.nodes (layer_of r.layout words) (kept_leads_below r.layout w is.order)
      (keys_lead_apart (terms_of r) (facts_in r ghosts words) (turn_stage s) is.law)

  even : (s : RowStage) → RowLawful r ghosts words s → LayerRests r words → IsSafeLayer r words
  even s is same =
      let equal : w ≡ d = sym (even_are_same w d same.even) in
      record {
        order = subst (IsKept r.layout) equal is.order;
        few = subst (λ (v : LayerWords). HasFew r.layout.nodes (kept r.layout v)) equal (cached_few s is);
      }

  changing : (e : RowLine) (word : ℕ) (s : Changing) → RowLawful r ghosts words (Changes e word s) → IsSafeLayer r words
  changing e word s is =
      let backs = change_is_backed r.layout (aim_of e word) is.sure.before s w d (layer_marks r.layout words) is.sure.sure in
      record {
        order = backs.row d (mix_of_durable w d);
        few = mix_few r.layout.nodes (aim_of e word) is.sure.before s (layer_of r.layout words) (kept r.layout d) is.sure.few (cached_few (Changes e word s) is) is.sure.layer (backs.layer d (mix_of_durable w d));
      }

pub layer_is_safe : LayerIsSafe
layer_is_safe r ghosts words Resting is = even r ghosts words Resting is is.sure
layer_is_safe r ghosts words (Between j) is = even r ghosts words (Between j) is is.sure
layer_is_safe r ghosts words (Reads j offset seen) is = even r ghosts words (Reads j offset seen) is is.sure.1
layer_is_safe r ghosts words (Lands e) is = even r ghosts words (Lands e) is is.sure.1
layer_is_safe r ghosts words (HasTarget e target) is = even r ghosts words (HasTarget e target) is is.sure.3
layer_is_safe r ghosts words (Changes e word s) is = changing r ghosts words e word s is
layer_is_safe r ghosts words (Stamps e) is = even r ghosts words (Stamps e) is is.sure
layer_is_safe r ghosts words (Clears j) is = even r ghosts words (Clears j) is is.sure
layer_is_safe r ghosts words (Sweeps n) is = even r ghosts words (Sweeps n) is is.sure
layer_is_safe r ghosts words (Gone n) is = even r ghosts words (Gone n) is is.sure
layer_is_safe r ghosts words (HasStamp n) is = even r ghosts words (HasStamp n) is is.sure
layer_is_safe r ghosts words (IsUnworn n) is = even r ghosts words (IsUnworn n) is is.sure
layer_is_safe r ghosts words (Frees n) is = even r ghosts words (Frees n) is is.sure
layer_is_safe r ghosts words (Counts n none) is = even r ghosts words (Counts n none) is is.sure
