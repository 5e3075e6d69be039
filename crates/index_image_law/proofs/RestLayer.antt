-- The image keeps the rules on its search layer.
use Rattle.std.proofs.Common.{◌≡◌, ℕ, ◌∙◌, sym, subst}
use Rattle.pm_words.specs.Locations.{Cached}
use Rattle.pm_words.specs.Rows.{cached_row}
use Rattle.pm_words.proofs.Made.{cached_row-image}
use Rattle.data_node.specs.Lists.{anchor_in, members_from, IsIn}
use Rattle.image_rules.specs.Sound.{IsSound}
use Rattle.index_law.specs.Facts.{IsListed}
use Rattle.index_law.specs.Laws.{IsAtRest}
use Rattle.index_law.specs.Worlds.{World, facts}
use Rattle.layer_map.specs.Layers.{HasFew, LeadsApart}
use Rattle.index_layer_law.specs.search_layer.specs.Rows.{LayerWords, layer_words}
use Rattle.index_layer_law.specs.search_layer.specs.Kept.{layer_of, IsInOrder, kept, IsKept}
use Rattle.index_layer_law.specs.search_layer.proofs.RowLemmas.{kept_leads_below}
use Rattle.layer_map.proofs.FewLemmas.{few_apart}
use Rattle.updater_law.specs.Covered.{IsCovered}
use Rattle.updater_law.specs.Covers.{IsOpenFor}
use Rattle.updater_law.specs.Facts.{TurnTerms}
use Rattle.updater_law.specs.Lawful.{TurnLawful}
use Rattle.updater_law.specs.TurnStages.{Resting}
use Rattle.index_layer_law.specs.updater_row_law.specs.Columns.{lines_in}
use Rattle.index_layer_law.proofs.FactTies.{rest_in, known}
use Rattle.image_layer_rules.specs.Laws.{KeepsLayerRules, IsCoveredImage}
use Rattle.image_layer_rules.proofs.CoverLaw.{cover_tells_keys, keys_if}
use Rattle.index_image_law.proofs.CachedWords.{spots_are, layer_is, lines_are}

-- what the law of turns says of an index at rest, and what the image then is by the rules on its list, nodes and log
pub record IsLayerAtRest (w : World) (holder : ℕ → ℕ) (terms : TurnTerms) : Type 0 where
  pub rest : IsAtRest w
  pub sound : IsSound w.layout (cached_row w.layout w.words)
  pub order : IsInOrder w.layout w.words
  pub law : TurnLawful terms (known w.layout w.generation (facts w) holder (rest_in w.layout w.words)) Resting
  pub covered : IsCovered (IsListed (facts w)) (λ n. anchor_in ((facts w).now n)) (layer_of w.layout w.words) (IsOpenFor (lines_in w.layout w.words Cached))

module _ {w : World} {holder : ℕ → ℕ} {terms : TurnTerms} (is : IsLayerAtRest w holder terms) where
  -- the node of a key has it as its anchor, so keys lead apart, and they are few
  leads_apart : LeadsApart (layer_of w.layout w.words)
  leads_apart key other node one two = sym (is.law.led key node one).anchor ∙ (is.law.led other node two).anchor

  few : HasFew w.layout.nodes (layer_of w.layout w.words)
  few = few_apart w.layout.nodes (layer_of w.layout w.words) (kept_leads_below w.layout (layer_words w.layout w.words Cached) is.order) leads_apart

  covered : IsCoveredImage w.layout (cached_row w.layout w.words)
  covered =
      let l = w.layout in
      let words = w.words in
      let spots = spots_are l words in
      let layer = layer_is l words in
      let lines = lines_are l words in
      let all : IsCovered (IsListed (facts w)) (λ n. anchor_in ((facts w).now n)) (layer_of l words) (IsOpenFor (lines_in l words Cached)) ≡ IsCoveredImage l (cached_row l words) =
      λ k. IsCovered (λ n. IsIn (members_from (spots k) l.nodes 0) n) (λ n. anchor_in (spots k n)) (kept l (layer k)) (IsOpenFor (lines k)) in
      subst (λ (T : Type 0). T) all is.covered

  pub layer_rules : KeepsLayerRules w.layout (cached_row w.layout w.words)
  layer_rules =
      let l = w.layout in
      let words = w.words in
      let layer = layer_is l words in
      let in_order = subst (IsKept l) layer is.order in
      record {
        row = in_order;
        keys = keys_if l (cached_row l words) (cover_tells_keys l (cached_row l words) (cached_row-image l words is.rest.row) is.sound in_order covered);
        few = subst (λ (v : LayerWords). HasFew l.nodes (kept l v)) layer few;
        covered = covered;
      }
