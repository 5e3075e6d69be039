use Rattle.lone_hops_law.proofs.Short.{empty_is_short, short_stays, short_stays_alike, short_walks}
use Rattle.lone_hops_law.proofs.laws.short_law.Goals as goal

pub returns : goal.returns
returns c = record { empty = empty_is_short; stays = short_stays; stays_alike = short_stays_alike; walks = short_walks }
