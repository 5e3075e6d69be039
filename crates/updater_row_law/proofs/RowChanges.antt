-- A step of a change of the layer, as the law of turns sees it.
use Rattle.std.proofs.Common.{◌≡◌, ◌≢◌, ℕ, ◌⊎◌, cond, List, Option, None, inl, inr, refl, sym, ap}
use Rattle.std.proofs.Common.{◌∙◌}
use Rattle.std.proofs.lemmas.Bool.{eq-eqb, ne_eqb}
use Rattle.pm_words.specs.declared.layout.Layout.{Layout}
use Rattle.pm_words.specs.declared.action.Action.{Action}
use Rattle.pm_words.specs.Locations.{Cached, Durable}
use Rattle.pm_words.specs.Rows.{IsRow, acted, got}
use Rattle.layer_map.specs.Layers.{Layer, changed_at, node_of}
use Rattle.layer_map.specs.Keys.{key_number}
use Rattle.search_layer.specs.Rows.{LayerWords, layer_words, layer_marks}
use Rattle.search_layer.specs.Kept.{layer_of, kept}
use Rattle.search_layer.specs.tree_update.specs.Stages.{Aim}
use Rattle.search_layer.specs.ChangeStages.{Changing, ChangeStep, LayerAt, MixAt, LayerAfter}
use Rattle.search_layer.specs.Laws.{ChangeKeeps}
use Rattle.search_layer.proofs.StageLemmas.{change_is_backed, layer_is_either, mix_is_either, step_is_either}
use Rattle.search_layer.proofs.StageLemmas.{rooted_begins, layer_stays_rooted}
use Rattle.search_layer.proofs.StepLaw.{change_step_keeps}
use Rattle.search_layer.proofs.RootLemmas.{root_step_keeps}
use Rattle.search_layer.proofs.RowLemmas.{mix_of_durable}
use Rattle.updater_law.specs.TurnSteps.{AreSameBut}
use Rattle.updater_row_law.specs.Columns.{RowTerms}
use Rattle.updater_row_law.specs.RowStages.{RowLine, aim_of}
use Rattle.updater_row_law.specs.RowLaw.{IsChanging}

-- a changed layer at its key, and at another
pub made_here : (layer : Layer) (key : ℕ) (found : Option ℕ) → changed_at layer key found key ≡ found
made_here layer key found = ap (λ b. cond b found (layer key)) (eq-eqb key key refl)

pub made_other : (layer : Layer) (key : ℕ) (found : Option ℕ) (k : ℕ) → k ≢ key → changed_at layer key found k ≡ layer k
made_other layer key found k ne = ap (λ b. cond b found (layer k)) (ne_eqb k key ne)

-- the anchor alone may lead elsewhere, to what it is to lead to
pub record Differs (key : ℕ) (found : Option ℕ) (layer after : Layer) : Type 0 where
  pub others : AreSameBut key after layer
  pub at_key : (after key ≡ layer key) ⊎ (after key ≡ found)

-- what a step makes of the layer
pub differs : (aim : Aim) (s : Changing) (layer after : Layer) → LayerAfter aim s layer after → Differs (key_number aim.key) (node_of aim.word) layer after
differs aim s layer after is = elim (step_is_either aim s layer after is) [
  | inl same ↦ record { others = λ k ne. same k; at_key = inl (same (key_number aim.key)) }
  | inr made ↦ record {
    others = λ k ne. made k ∙ made_other layer (key_number aim.key) (node_of aim.word) k ne;
    at_key = inr (made (key_number aim.key) ∙ made_here layer (key_number aim.key) (node_of aim.word));
  }
]

-- of each mix the layer is the cached one, but at the key
pub mix_but : (aim : Aim) (before : Layer) (s : Changing) (layer mix : Layer) → LayerAt aim before s layer → MixAt aim before s mix → AreSameBut (key_number aim.key) mix layer
mix_but aim before s layer mix at_layer at_mix k ne = elim (mix_is_either aim before s layer mix at_layer at_mix) [
  | inl now ↦ now k
  | inr old ↦ elim (layer_is_either aim before s layer at_layer) [
    | inl same ↦ old k ∙ sym (same k)
    | inr made ↦ old k ∙ sym (made k ∙ made_other before (key_number aim.key) (node_of aim.word) k ne)
  ]
]

-- a step of a change
pub record ChangedRow (r : RowTerms) (words : List ℕ) (e : RowLine) (word : ℕ) (a : Action) (t : Changing) : Type 0 where
  pub changing : IsChanging r (acted r.layout words a) e word t
  pub rooted : layer_of r.layout (acted r.layout words a) 0 ≢ None
  pub differs : Differs (key_number e.anchor) (node_of word) (layer_of r.layout words) (layer_of r.layout (acted r.layout words a))
  pub durable : AreSameBut (key_number e.anchor) (kept r.layout (layer_words r.layout (acted r.layout words a) Durable)) (layer_of r.layout (acted r.layout words a))

module _ (r : RowTerms) (words : List ℕ) (e : RowLine) (word : ℕ) (s t : Changing) (a : Action) (row : IsRow r.layout words) (is : IsChanging r words e word s) where
  abbrev l : Layout
  l = r.layout

  -- a step keeps what is known of the layer
  pub change_kept : ChangeStep l (aim_of e word) s a (got l words a) t → ChangeKeeps l (aim_of e word) is.before words s a t
  change_kept step = change_step_keeps l (aim_of e word) is.before words s a t row (λ some_word. is.few) (rooted_begins (aim_of e word) is.before is.zero is.rooted) is.sure step

  pub changed_row : ChangeStep l (aim_of e word) s a (got l words a) t → ChangeKeeps l (aim_of e word) is.before words s a t → ChangedRow r words e word a t
  changed_row step keeps =
      let after : List ℕ = acted l words a in
      let w : LayerWords = layer_words l after Cached in
      let d : LayerWords = layer_words l after Durable in
      let backs = change_is_backed l (aim_of e word) is.before t w d (layer_marks l after) keeps.sure in
      let holds = (root_step_keeps l (aim_of e word) words s a t row.whole step is.holds).0 in
      record {
        changing = search (is.few, is.rooted, is.zero, holds, keeps.sure, keeps.layer);
        rooted = layer_stays_rooted (aim_of e word) is.before t (layer_of l after) is.zero is.rooted keeps.layer;
        differs = differs (aim_of e word) s (layer_of l words) (layer_of l after) keeps.changes;
        durable = mix_but (aim_of e word) is.before t (layer_of l after) (kept l d) keeps.layer (backs.layer d (mix_of_durable w d));
      }
