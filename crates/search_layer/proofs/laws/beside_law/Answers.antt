use Rattle.search_layer.proofs.BesideLemmas.{beside_leaves_layer, drain_is_eviction, sure_stays, others_keep, evictions_keep, rest_stays, rest_outlasts, rest_evicts}
use Rattle.search_layer.proofs.laws.beside_law.Goals as goal

pub returns : goal.returns
returns c = record {
  leaves = beside_leaves_layer;
  drains = drain_is_eviction;
  stays = sure_stays;
  others = others_keep;
  evicts = evictions_keep;
  rests = rest_stays;
  outlasts = rest_outlasts;
  rest_evicts = rest_evicts;
}
