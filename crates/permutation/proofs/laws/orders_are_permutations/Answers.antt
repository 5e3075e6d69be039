use Rattle.permutation.proofs.Sorted as lemma
use Rattle.permutation.proofs.Made as made
use Rattle.permutation.proofs.laws.orders_are_permutations.Goals as goal

pub returns : goal.returns
returns c = record { makes = lemma.orders_are; is = lemma.permutations_are; words = made.words_have_slots }
