use Rattle.layer_map.proofs.KeyLemmas.{numbers_keep_order, zero_is_least, numbers_tell_keys, key_order}
use Rattle.layer_map.proofs.laws.key_law.Goals as goal

pub returns : goal.returns
returns c = record { order = numbers_keep_order; zero = zero_is_least; distinct = numbers_tell_keys; words = key_order }
