use Rattle.std.proofs.Common.{arith}
use Rattle.split_merge.proofs.LeftLemmas.{first_left}
use Rattle.split_merge.proofs.uniting.Union.copy.Goals as goal

pub address-requires-clause-offset : goal.address-requires-clause-offset
address-requires-clause-offset c =
    let first = first_left c.args.self.now c.args.left c.requires.sound c.requires.left in
    let within = first.target.within in
    omega arith
