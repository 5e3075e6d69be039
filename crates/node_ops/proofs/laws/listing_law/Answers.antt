use Rattle.node_ops.proofs.PartListing.{listed_is_told, listed_is_answered, done_is_listed, count_stays}
use Rattle.node_ops.proofs.laws.listing_law.Goals as goal

pub returns-clause-told : goal.returns-clause-told
returns-clause-told c = listed_is_told

pub returns-clause-answered : goal.returns-clause-answered
returns-clause-answered c = listed_is_answered

pub returns-clause-done : goal.returns-clause-done
returns-clause-done c = done_is_listed

pub returns-clause-count : goal.returns-clause-count
returns-clause-count c = count_stays
