use Rattle.search_layer.proofs.RowLemmas.{layer_words_stay, layer_alike, rows_alike, images_alike, even_are_same, mixes_are_even, row_eviction_mixes, kept_leads_below}
use Rattle.search_layer.proofs.laws.row_law.Goals as goal

pub returns : goal.returns
returns c = record {
  stays = layer_words_stay;
  layers = layer_alike;
  alike = rows_alike;
  images = images_alike;
  same = even_are_same;
  even = mixes_are_even;
  mixes = row_eviction_mixes;
  kept = kept_leads_below;
}
