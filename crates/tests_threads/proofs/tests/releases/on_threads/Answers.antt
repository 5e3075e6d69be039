use Rattle.pac_index.proofs.Rows.{read_stands}
use Rattle.tests_threads.proofs.tests.releases.on_threads.Goals as goal

pub for_each_mut-requires-clause-accepts : goal.for_each_mut-requires-clause-accepts
for_each_mut-requires-clause-accepts g c κs bounds i p within is =
    let there = read_stands c.args.seats.now i p.now within is in
    (c.requires.0.each i p.now there, c.requires.1 i p.now there)
