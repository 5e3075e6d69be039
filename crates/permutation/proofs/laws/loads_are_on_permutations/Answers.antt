use Rattle.permutation.proofs.Stores as lemma
use Rattle.permutation.proofs.laws.loads_are_on_permutations.Goals as goal

pub returns : goal.returns
returns c = lemma.loads_are
