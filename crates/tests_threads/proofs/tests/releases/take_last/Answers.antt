use Rattle.tests_threads.proofs.LastSeats.{popped}
use Rattle.tests_threads.proofs.tests.releases.take_last.Goals as goal

pub returns-clause-seat : goal.returns-clause-seat
returns-clause-seat c =
    let p = popped c.args.epochs.now _ c.pop.new.self.items c.in-Some.seat c.args.seats.now.items c.in-Some.ensures.items c.requires.seats.0 c.requires.seats.1 in
    (p.last, p.free, p.number)

pub returns-clause-rest : goal.returns-clause-rest
returns-clause-rest c =
    let p = popped c.args.epochs.now _ c.pop.new.self.items c.in-Some.seat c.args.seats.now.items c.in-Some.ensures.items c.requires.seats.0 c.requires.seats.1 in
    (p.rest, p.unpinned)
