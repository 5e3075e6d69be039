use Rattle.data_list.proofs.HopLaw.{walks_hop}
use Rattle.data_list.proofs.WalkLaw.{walks_are_looks, walks_are_watches, walks_are_views}
use Rattle.data_list.proofs.laws.walk_law.Goals as goal

pub returns-clause-looks : goal.returns-clause-looks
returns-clause-looks c = walks_are_looks

pub returns-clause-watches : goal.returns-clause-watches
returns-clause-watches c = walks_are_watches

pub returns-clause-views : goal.returns-clause-views
returns-clause-views c = walks_are_views

pub returns-clause-hops : goal.returns-clause-hops
returns-clause-hops c = walks_hop
