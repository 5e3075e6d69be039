-- What the layer is at each stage of a change, and in each mix of the cached and the durable words.
use Rattle.std.proofs.Common.{◌≡◌, ◌≢◌, ℕ, ◌-◌, ◌^◌, ◌<◌, ◌==◌, ◌⊎◌, true, false, cond, Some, None, inl, inr, refl}
use Rattle.std.proofs.Common.{sym, ap, ◌∙◌, arith}
use Rattle.std.proofs.lemmas.Bool.{ne_eqb, cases_eq}
use Rattle.pm_words.specs.Locations.{Cached, Durable, leaf_count}
use Rattle.radix_nodes.specs.Cells.{words_of}
use Rattle.radix_nodes.specs.Fills.{lines_of}
use Rattle.layer_map.specs.Layers.{Layer, AreSame}
use Rattle.layer_map.specs.Layers.{node_of}
use Rattle.tree_law.specs.Words.{LayerWord, LayerWords, word_in, layer_of, IsLawful, IsMix, Keeps, LeafPart}
use Rattle.tree_law.specs.Stages.{Marks}
use Rattle.tree_row.specs.Rows.{layer_words}
use Rattle.tree_row.proofs.RowLaw.{reads_fit}
use Rattle.layer_map.specs.Keys.{key_number}
use Rattle.tree_update.specs.tree_look.specs.Looks.{look_most}
use Rattle.tree_update.specs.tree_look.proofs.LookExact.{look_is_exact}
use Rattle.tree_update.specs.tree_change.specs.declared.finish.Finish.{Finish}
use Rattle.tree_update.specs.tree_change.specs.declared.finish.FinishAt.{FinishAt}
use Rattle.tree_update.specs.tree_change.specs.declared.finish.FinishAt.TheVariants as finish_at
use Rattle.tree_update.specs.tree_change.specs.Endings.{Unmarks, SureCan, SureEnding, ending_at}
use Rattle.tree_update.specs.tree_change.specs.Fillings.{stage_at, leaf_words, cell_part}
use Rattle.tree_update.specs.tree_change.proofs.EndingLaw.{ending_mixes}
use Rattle.tree_update.specs.tree_change.proofs.FillingLaw.{filling_mixes}
use Rattle.tree_update.specs.declared.change.ChangeAt.{ChangeAt}
use Rattle.tree_update.specs.declared.change.ChangeAt.TheVariants as at
use Rattle.tree_update.specs.Knowns.{Rests}
use Rattle.tree_update.specs.Stages.{Aim, made_of, aim_of, SureAt}
use Rattle.tree_update.proofs.RunLaw.{change_evicts}
use Rattle.search_layer.specs.ChangeStages.{Changing, Making, Changed, has_stored, drains_store, has_switched}
use Rattle.search_layer.specs.ChangeStages.{layer_at, MixAt, can_switch}
use Rattle.search_layer.specs.Laws.{ChangeBegins, ChangeEnds, LayerIsEither, MixIsEither, StepIsEither}
use Rattle.search_layer.specs.Laws.{ChangeIsBacked, ChangeEvicts, UnsetKeepsZero, KeepsZero, LayerStaysRooted}
use Rattle.search_layer.specs.Laws.{MixStaysRooted, RootedBegins}

-- all words of it are in order, with the layer of its stage
abbrev IsMixed : ℕ → ℕ → Layer → Aim → Changing → LayerWords → Type 0
IsMixed count nodes before aim stage mix = IsLawful count nodes mix × MixAt aim before stage (layer_of mix)

all_cached : (w s : LayerWords) → IsMix w s w
all_cached w s p = inl refl

module _ (count nodes : ℕ) (before : Layer) (aim : Aim) where
  can_mixed : (layer : Layer) (w s mix : LayerWords) → SureCan count nodes layer w s → IsMix w s mix → Keeps count nodes layer mix
  can_mixed layer w s mix can is = (ending_mixes count nodes layer layer Unmarks w s mix can is).1

  finish_keeps : (f : Finish) (place : FinishAt) (w s : LayerWords) → SureEnding count nodes before (made_of aim before) (ending_at f place) w s → Keeps count nodes (cond (has_stored place) (made_of aim before) before) w
  finish_keeps f finish_at.Quiet w s sure = (ending_mixes count nodes before (made_of aim before) (ending_at f finish_at.Quiet) w s w sure (all_cached w s)).0
  finish_keeps f (finish_at.QuietFence fence) w s sure = (ending_mixes count nodes before (made_of aim before) (ending_at f (finish_at.QuietFence fence)) w s w sure (all_cached w s)).0
  finish_keeps f finish_at.Switch w s sure = (ending_mixes count nodes before (made_of aim before) (ending_at f finish_at.Switch) w s w sure (all_cached w s)).0
  finish_keeps f (finish_at.SwitchFence fence) w s sure = (ending_mixes count nodes before (made_of aim before) (ending_at f (finish_at.SwitchFence fence)) w s w sure (all_cached w s)).0
  finish_keeps f (finish_at.Unmark reference) w s sure = (ending_mixes count nodes before (made_of aim before) (ending_at f (finish_at.Unmark reference)) w s w sure (all_cached w s)).0

  pub sure_keeps : (part : ChangeAt) (w s : LayerWords) (m : Marks) → SureAt count nodes before aim part w s m → Keeps count nodes (layer_at aim before (Making part)) w
  sure_keeps (at.Looking look) w s m sure = sure.0.can.keeps
  sure_keeps (at.TakingLeaf take place) w s m sure = sure.0.can.keeps
  sure_keeps (at.FillingLeaf fill place) w s m sure = (filling_mixes count nodes before sure.begun (LeafPart fill.number) 1 (leaf_words fill) (stage_at 1 fill.at) w s w sure.sure (all_cached w s)).0
  sure_keeps (at.FindingRoom find spot leaf) w s m sure = sure.1.can.keeps
  sure_keeps (at.ReadingCell read spot byte leaf) w s m sure = sure.1.can.keeps
  sure_keeps (at.TakingCell take new) w s m sure = sure.2.can.keeps
  sure_keeps (at.FillingCell fill spot free) w s m sure = (filling_mixes count nodes before sure.start.begun (cell_part fill) (lines_of fill.cell.kind) (words_of fill.cell) (stage_at (lines_of fill.cell.kind) fill.at) w s w sure.sure (all_cached w s)).0
  sure_keeps (at.ReadingDepth leaf outer inner) w s m sure = sure.1.can.keeps
  sure_keeps (at.Counting look leaf outer inner) w s m sure = sure.1.can.keeps
  sure_keeps (at.ReadingIndex cell byte leaf) w s m sure = sure.1.can.keeps
  sure_keeps (at.Finishing finish) w s m sure = finish_keeps finish finish.at w s sure.0

  finish_mixed : (f : Finish) (w s mix : LayerWords) (place : FinishAt) → SureEnding count nodes before (made_of aim before) (ending_at f place) w s → IsMix w s mix
      → IsLawful count nodes mix × (AreSame (layer_of mix) (cond (has_stored place) (made_of aim before) before) ⊎ ((drains_store place ≡ true) × AreSame (layer_of mix) before))
  finish_mixed f w s mix finish_at.Quiet sure is =
      let keeps : Keeps count nodes before mix = (ending_mixes count nodes before (made_of aim before) (ending_at f finish_at.Quiet) w s mix sure is).1 in
      (keeps.lawful, inl keeps.same)
  finish_mixed f w s mix (finish_at.QuietFence fence) sure is =
      let keeps : Keeps count nodes before mix = (ending_mixes count nodes before (made_of aim before) (ending_at f (finish_at.QuietFence fence)) w s mix sure is).1 in
      (keeps.lawful, inl keeps.same)
  finish_mixed f w s mix finish_at.Switch sure is =
      let keeps : Keeps count nodes before mix = (ending_mixes count nodes before (made_of aim before) (ending_at f finish_at.Switch) w s mix sure is).1 in
      (keeps.lawful, inl keeps.same)
  finish_mixed f w s mix (finish_at.SwitchFence fence) sure is =
      elim ((ending_mixes count nodes before (made_of aim before) (ending_at f (finish_at.SwitchFence fence)) w s mix sure is).1) [
        | inl old ↦ (old.lawful, inr (refl, old.same))
        | inr new ↦ (new.lawful, inl new.same)
      ]
  finish_mixed f w s mix (finish_at.Unmark reference) sure is =
      let keeps : Keeps count nodes (made_of aim before) mix = (ending_mixes count nodes before (made_of aim before) (ending_at f (finish_at.Unmark reference)) w s mix sure is).1 in
      (keeps.lawful, inl keeps.same)

  before_mixed : (mix : LayerWords) → Keeps count nodes before mix → IsLawful count nodes mix × (AreSame (layer_of mix) before ⊎ ((false ≡ true) × AreSame (layer_of mix) before))
  before_mixed mix keeps = (keeps.lawful, inl keeps.same)

  sure_mixed : (part : ChangeAt) (w s mix : LayerWords) (m : Marks) → SureAt count nodes before aim part w s m → IsMix w s mix → IsMixed count nodes before aim (Making part) mix
  sure_mixed (at.Looking look) w s mix m sure is = before_mixed mix (can_mixed before w s mix sure.0.can is)
  sure_mixed (at.TakingLeaf take place) w s mix m sure is = before_mixed mix (can_mixed before w s mix sure.0.can is)
  sure_mixed (at.FillingLeaf fill place) w s mix m sure is = before_mixed mix (filling_mixes count nodes before sure.begun (LeafPart fill.number) 1 (leaf_words fill) (stage_at 1 fill.at) w s mix sure.sure is).1
  sure_mixed (at.FindingRoom find spot leaf) w s mix m sure is = before_mixed mix (can_mixed before w s mix sure.1.can is)
  sure_mixed (at.ReadingCell read spot byte leaf) w s mix m sure is = before_mixed mix (can_mixed before w s mix sure.1.can is)
  sure_mixed (at.TakingCell take new) w s mix m sure is = before_mixed mix (can_mixed before w s mix sure.2.can is)
  sure_mixed (at.FillingCell fill spot free) w s mix m sure is = before_mixed mix (filling_mixes count nodes before sure.start.begun (cell_part fill) (lines_of fill.cell.kind) (words_of fill.cell) (stage_at (lines_of fill.cell.kind) fill.at) w s mix sure.sure is).1
  sure_mixed (at.ReadingDepth leaf outer inner) w s mix m sure is = before_mixed mix (can_mixed before w s mix sure.1.can is)
  sure_mixed (at.Counting look leaf outer inner) w s mix m sure is = before_mixed mix (can_mixed before w s mix sure.1.can is)
  sure_mixed (at.ReadingIndex cell byte leaf) w s mix m sure is = before_mixed mix (can_mixed before w s mix sure.1.can is)
  sure_mixed (at.Finishing finish) w s mix m sure is = finish_mixed finish w s mix finish.at sure.0 is

pub change_is_backed : ChangeIsBacked
change_is_backed l aim before (Making part) w s m sure =
    let keeps = sure_keeps (leaf_count l) l.nodes before aim part w s m sure in
    record {
      order = keeps.lawful;
      cached = keeps.same;
      row = λ mix is. (sure_mixed (leaf_count l) l.nodes before aim part w s mix m sure is).0;
      layer = λ mix is. (sure_mixed (leaf_count l) l.nodes before aim part w s mix m sure is).1;
    }
change_is_backed l aim before Changed w s m rests = record {
  order = rests.can.keeps.lawful;
  cached = rests.can.keeps.same;
  row = λ mix is. (can_mixed (leaf_count l) l.nodes before aim (made_of aim before) w s mix rests.can is).lawful;
  layer = λ mix is. inl (can_mixed (leaf_count l) l.nodes before aim (made_of aim before) w s mix rests.can is).same;
}

even_mix : (w s mix : LayerWords) → ((p : LayerWord) → word_in s p ≡ word_in w p) → IsMix w s mix → (p : LayerWord) → word_in mix p ≡ word_in w p
even_mix w s mix even is p = elim (is p) [ inl cached ↦ cached | inr durable ↦ durable ∙ even p ]

pub stage_evicts : ChangeEvicts
stage_evicts l aim before (Making part) w s mix m is sure = change_evicts (leaf_count l) l.nodes before aim part w s mix m sure is
stage_evicts l aim before Changed w s mix m is rests = record { can = record { keeps = rests.can.keeps; even = even_mix w s mix rests.can.even is }; tells = rests.tells }

pub change_begins : ChangeBegins
change_begins l before aim words row key order even tells same =
    let w = layer_words l words Cached in
    let fits : (p : LayerWord) → word_in w p < 2 ^ 64 = λ p. reads_fit l words Cached p row.fits in
    let exact = look_is_exact l aim.key w look_most (omega arith) row.layout key fits order in
    let rests : Rests (leaf_count l) l.nodes before w (layer_words l words Durable) _ = record { can = record { keeps = record { lawful = order; same = same }; even = even }; tells = tells } in
    ((rests, (look_most, exact)), same)

pub change_ends : ChangeEnds
change_ends l before aim w s m rests = record { order = rests.can.keeps.lawful; even = rests.can.even; tells = rests.tells; layer = rests.can.keeps.same }

pub layer_is_either : LayerIsEither
layer_is_either aim before stage layer = elim (has_switched stage) as (λ b. AreSame layer (cond b (made_of aim before) before) → AreSame layer before ⊎ AreSame layer (made_of aim before)) [ true ↦ λ made. inr made | false ↦ λ old. inl old ]

pub mix_is_either : MixIsEither
mix_is_either aim before stage layer mix at_layer at_mix = elim at_mix [ inl same ↦ inl (λ k. same k ∙ sym (at_layer k)) | inr old ↦ inr old.1 ]

pub step_is_either : StepIsEither
step_is_either aim stage layer after = elim (can_switch stage) as (λ b. AreSame after (cond b (made_of aim layer) layer) → AreSame after layer ⊎ AreSame after (made_of aim layer)) [ true ↦ λ made. inr made | false ↦ λ old. inl old ]

-- The zero key.

made_zero : (aim : Aim) (before : Layer) → key_number aim.key ≢ 0 → made_of aim before 0 ≡ before 0
made_zero aim before apart = ap (λ b. cond b (node_of aim.word) (before 0)) (ne_eqb 0 (key_number aim.key) (λ e. apart (sym e)))

either_zero : (aim : Aim) (before layer : Layer) → key_number aim.key ≢ 0 → AreSame layer before ⊎ AreSame layer (made_of aim before) → layer 0 ≡ before 0
either_zero aim before layer apart either = elim either [ inl old ↦ old 0 | inr made ↦ made 0 ∙ made_zero aim before apart ]

mix_either : (aim : Aim) (before : Layer) (stage : Changing) (layer : Layer) → MixAt aim before stage layer → AreSame layer before ⊎ AreSame layer (made_of aim before)
mix_either aim before stage layer at_mix = elim at_mix [ inl same ↦ layer_is_either aim before stage layer same | inr old ↦ inl old.1 ]

pub unset_keeps_zero : UnsetKeepsZero
unset_keeps_zero unset before layer is at_mix = either_zero (aim_of unset.change) before layer is.key (mix_either (aim_of unset.change) before (Making unset.change.at) layer at_mix)

-- a set to the zero key leads it to a node
set_zero : (aim : Aim) (before : Layer) → aim.word ≢ 0 → before 0 ≢ None → made_of aim before 0 ≢ None
set_zero aim before sets rooted = elim (0 == key_number aim.key) as (λ b. cond b (node_of aim.word) (before 0) ≢ None) [
  | true ↦ λ none. some_none (aim.word - 1) (sym (ap (λ b. cond b None (Some (aim.word - 1))) (ne_eqb aim.word 0 sets)) ∙ none)
  | false ↦ rooted
]
  where
    some_none : (n : ℕ) → Some n ≡ None → ⊥
    some_none n e = cc

made_rooted : (aim : Aim) (before : Layer) → KeepsZero aim → before 0 ≢ None → made_of aim before 0 ≢ None
made_rooted aim before keeps rooted = elim (cases_eq aim.word 0) [
  | inl unset ↦ λ none. rooted (sym (made_zero aim before (keeps unset)) ∙ none)
  | inr sets ↦ set_zero aim before sets rooted
]

either_rooted : (aim : Aim) (before layer : Layer) → KeepsZero aim → before 0 ≢ None → AreSame layer before ⊎ AreSame layer (made_of aim before) → layer 0 ≢ None
either_rooted aim before layer keeps rooted either none = elim either [ inl old ↦ rooted (sym (old 0) ∙ none) | inr made ↦ made_rooted aim before keeps rooted (sym (made 0) ∙ none) ]

pub layer_stays_rooted : LayerStaysRooted
layer_stays_rooted aim before stage layer keeps rooted at_layer = either_rooted aim before layer keeps rooted (layer_is_either aim before stage layer at_layer)

pub mix_stays_rooted : MixStaysRooted
mix_stays_rooted aim before stage layer keeps rooted at_mix = either_rooted aim before layer keeps rooted (mix_either aim before stage layer at_mix)

pub rooted_begins : RootedBegins
rooted_begins aim before keeps rooted unset = (keeps unset, rooted)
