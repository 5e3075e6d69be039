use Rattle.std.proofs.Common.{refl}
use Rattle.permutation.proofs.Stores as lemma
use Rattle.permutation.proofs.laws.stores_are_sorts.Goals as goal

pub returns : goal.returns
returns c = record { begins = λ l node locked words. refl; turns = lemma.stores_are; steps = lemma.sorts_are_steps }
