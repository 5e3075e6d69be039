use Rattle.pac_index.proofs.Handing.{popped}
use Rattle.tests_threads.proofs.tests.fresh.take_last.Goals as goal

pub returns-clause-caller : goal.returns-clause-caller
returns-clause-caller c =
    let p = popped c.args.shared.now _ c.pop.new.self.items c.in-Some.caller c.args.callers.now.items c.in-Some.ensures.items c.requires.callers in
    (p.last, p.number)

pub returns-clause-rest : goal.returns-clause-rest
returns-clause-rest c = (popped c.args.shared.now _ c.pop.new.self.items c.in-Some.caller c.args.callers.now.items c.in-Some.ensures.items c.requires.callers).rest
