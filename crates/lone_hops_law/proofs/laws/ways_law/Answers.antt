use Rattle.lone_hops_law.proofs.WayLemmas.{ways_are_walks, same_ways, cut_ways, join_ways}
use Rattle.lone_hops_law.proofs.laws.ways_law.Goals as goal

pub returns : goal.returns
returns c = record {
  walks = ways_are_walks;
  same = λ l g f f' all after stay. same_ways l g f f' all after stay;
  cut = λ l g f f' all after stay. cut_ways l g f f' all after stay;
  joined = λ l g f f' all after stay. join_ways l g f f' all after stay;
}
