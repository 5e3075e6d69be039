use Rattle.cat_key.proofs.Packing.{words_tell_names}
use Rattle.cat_key.proofs.WordOrder.{words_keep_order}
use Rattle.cat_key.proofs.law_of_words.Goals as goal

pub returns-clause-order : goal.returns-clause-order
returns-clause-order c = words_keep_order

pub returns-clause-distinct : goal.returns-clause-distinct
returns-clause-distinct c = words_tell_names
