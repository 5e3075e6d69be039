use Rattle.std.proofs.Common.{arith}
use Rattle.split_merge.proofs.LeftLemmas.{first_left}
use Rattle.split_merge.proofs.uniting.Union.load.Goals as goal

pub bounds-self-left : goal.bounds-self-left
bounds-self-left c =
    let first = first_left c.args.self.now c.args.left c.requires.sound c.requires.left in
    let few = c.requires.sound.layout.slots.1 in
    let within = first.target.within in
    omega arith

pub address-requires-clause-offset : goal.address-requires-clause-offset
address-requires-clause-offset c =
    let first = first_left c.args.self.now c.args.left c.requires.sound c.requires.left in
    let source = first.target.source in
    omega arith
