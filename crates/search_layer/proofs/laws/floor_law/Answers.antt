use Rattle.search_layer.proofs.FloorLemmas.{exact, answers_a_node, stays, goes_on, only_loads, told}
use Rattle.search_layer.proofs.laws.floor_law.Goals as goal

pub returns : goal.returns
returns c = record {
  exact = exact;
  answers = answers_a_node;
  stays = stays;
  goes_on = goes_on;
  loads = only_loads;
  told = told;
}
