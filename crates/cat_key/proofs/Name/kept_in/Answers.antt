use Rattle.cat_key.proofs.Packing.{packed_from_words}
use Rattle.cat_key.proofs.Name.kept_in.Goals as goal

pub invariant_of-result : goal.invariant_of-result
invariant_of-result c = packed_from_words c.args.words c.requires

pub returns : goal.returns
returns c = (packed_from_words c.args.words c.requires).whole
